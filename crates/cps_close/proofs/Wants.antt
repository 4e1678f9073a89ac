-- What labels want, as the measure of width counts it: that of a `Fix` is enough for all of its labels.
use Rattle.std.proofs.Common.{◌≡◌, ℕ, Bool, true, false, nat_eq, nat_le, ◌&&◌, List, [], ◌∷◌, ◌++◌, Option, Some, if◌then◌else◌, length}
use Rattle.std.proofs.lemmas.Bool.{and_parts, false≢true}
use Rattle.nv_base.specs.Words.{atom_vars, prim_vars}
use Rattle.nv_base.specs.Sets.{without, all_vars, Within}
use Rattle.nv_base.specs.Access.{is_known, all_known, is_primitive, can_move, is_address}
use Rattle.nv_base.proofs.Sets.{within-both, within-without, within-left}
use Rattle.nv_base.proofs.Operands.{atom-known, atoms-known, prim-known}
use Rattle.cps_ir.specs.Term.{Term, Let, Read, Write, If, Fix, Call, Return, Throw, Jump, Halt, Labels, none, label, Fun}
use Rattle.cps_ir.specs.Callless.{only_jumps, labels_only_jump}
use Rattle.cps_ir.specs.Formed.{Scoped, scoped, arity, takes, takes_as_many, is_formed, are_formed}
use Rattle.cps_ir.specs.Wide.{Wants, with_wants, wants, labels_want, inside}
use Rattle.flow_ir.proofs.Members.{in-left, in-right, front-more, gone-more, both-more}

-- ---- where labels want more, terms want at most that much more

with-more-at : (b : Bool) (m : ℕ) (u v u' v' extra : List ℕ) → Within v' (v ++ extra) → Within u' (u ++ extra) → Within (if b then v' else u') ((if b then v else u) ++ extra)
with-more-at true m u v u' v' extra h g = h
with-more-at false m u v u' v' extra h g = g

pub with-more : (ls : Labels) (phi phi' : Wants) (vs vs' extra : List ℕ) → ((m : ℕ) → Within (phi' m) (phi m ++ extra)) → Within vs' (vs ++ extra) → (m : ℕ) → Within (with_wants phi' ls vs' m) (with_wants phi ls vs m ++ extra)
with-more none phi phi' vs vs' extra h g m = h m
with-more (label l xs t ls) phi phi' vs vs' extra h g m = with-more-at (nat_eq l m) m (with_wants phi ls vs m) vs (with_wants phi' ls vs' m) vs' extra g (with-more ls phi phi' vs vs' extra h g m)

mutual
  pub wants-more : (t : Term) (phi phi' : Wants) (extra : List ℕ) → only_jumps t ≡ true → ((m : ℕ) → Within (phi' m) (phi m ++ extra)) → Within (wants phi' t) (wants phi t ++ extra)
  wants-more (Let x a t) phi phi' extra j h = front-more (prim_vars a) (without (wants phi t) (x ∷ [])) (without (wants phi' t) (x ∷ [])) extra (gone-more (x ∷ []) (wants phi t) (wants phi' t) extra (wants-more t phi phi' extra j h))
  wants-more (Read m xs a t) phi phi' extra j h = front-more (atom_vars a) (without (wants phi t) xs) (without (wants phi' t) xs) extra (gone-more xs (wants phi t) (wants phi' t) extra (wants-more t phi phi' extra j h))
  wants-more (Write m a bs t) phi phi' extra j h = front-more (all_vars (a ∷ bs)) (wants phi t) (wants phi' t) extra (wants-more t phi phi' extra j h)
  wants-more (If c a b t u) phi phi' extra j h =
      let parts = and_parts (only_jumps t) (only_jumps u) j in
      front-more (all_vars (a ∷ b ∷ [])) (wants phi t ++ wants phi u) (wants phi' t ++ wants phi' u) extra
      (both-more (wants phi t) (wants phi' t) (wants phi u) (wants phi' u) extra (wants-more t phi phi' extra parts.0 h) (wants-more u phi phi' extra parts.1 h))
  wants-more (Fix ls t) phi phi' extra j h =
      let parts = and_parts (labels_only_jump ls) (only_jumps t) j in
      let first : (m : ℕ) → Within (with_wants phi' ls [] m) (with_wants phi ls [] m ++ extra) = with-more ls phi phi' [] [] extra h (λ x e. absurd (false≢true e)) in
      wants-more t (inside phi ls) (inside phi' ls) extra parts.1
      (with-more ls phi phi' (labels_want (with_wants phi ls []) ls) (labels_want (with_wants phi' ls []) ls) extra h (labels-want-more ls (with_wants phi ls []) (with_wants phi' ls []) extra parts.0 first))
  wants-more (Call f bs k hs) phi phi' extra j h = absurd (false≢true j)
  wants-more (Return bs) phi phi' extra j h = within-left (all_vars bs) extra
  wants-more (Throw e bs) phi phi' extra j h = within-left (all_vars bs) extra
  wants-more (Jump l bs) phi phi' extra j h = front-more (all_vars bs) (phi l) (phi' l) extra (h l)
  wants-more (Halt e bs) phi phi' extra j h = within-left (all_vars bs) extra

  pub labels-want-more : (ls : Labels) (phi phi' : Wants) (extra : List ℕ) → labels_only_jump ls ≡ true → ((m : ℕ) → Within (phi' m) (phi m ++ extra)) → Within (labels_want phi' ls) (labels_want phi ls ++ extra)
  labels-want-more none phi phi' extra j h = λ x e. absurd (false≢true e)
  labels-want-more (label l xs t ls) phi phi' extra j h =
      let parts = and_parts (only_jumps t) (labels_only_jump ls) j in
      both-more (without (wants phi t) xs) (without (wants phi' t) xs) (labels_want phi ls) (labels_want phi' ls) extra
      (gone-more xs (wants phi t) (wants phi' t) extra (wants-more t phi phi' extra parts.0 h)) (labels-want-more ls phi phi' extra parts.1 h)

inside-more-at : (b : Bool) (u w vs : List ℕ) → Within u (w ++ vs) → Within (if b then vs else u) ((if b then [] else w) ++ vs)
inside-more-at true u w vs h = λ x e. e
inside-more-at false u w vs h = h

-- what labels want inside of a `Fix` is more than where they want nothing of one another by what they want together
pub inside-more : (phi : Wants) (ls : Labels) (vs : List ℕ) (m : ℕ) → Within (with_wants phi ls vs m) (with_wants phi ls [] m ++ vs)
inside-more phi none vs m = λ x e. in-left x (phi m) vs e
inside-more phi (label l xs t ls) vs m = inside-more-at (nat_eq l m) (with_wants phi ls vs m) (with_wants phi ls [] m) vs (inside-more phi ls vs m)

-- ---- what is wanted is known

-- labels in scope want what is known
abbrev pub WantsKnown : Scoped → Wants → List ℕ → Type 0
WantsKnown ss phi known = (l n : ℕ) → takes ss l n ≡ true → Within (phi l) known

known-at : (b : Bool) (l n m : ℕ) (o : Option ℕ) (u vs known : List ℕ) → Within vs known → (takes_as_many n o ≡ true → Within u known) → takes_as_many n (if b then Some m else o) ≡ true → Within (if b then vs else u) known
known-at true l n m o u vs known h g e = h
known-at false l n m o u vs known h g e = g e

pub known-fix : (ls : Labels) (ss : Scoped) (phi : Wants) (vs known : List ℕ) → WantsKnown ss phi known → Within vs known → WantsKnown (scoped ls ++ ss) (with_wants phi ls vs) known
known-fix none ss phi vs known h g l n e = h l n e
known-fix (label k xs t ls) ss phi vs known h g l n e =
    known-at (nat_eq k l) l n (length xs) (arity l (scoped ls ++ ss)) (with_wants phi ls vs l) vs known g (known-fix ls ss phi vs known h g l n) e

pub known-wider : (ss : Scoped) (phi : Wants) (known extra : List ℕ) → WantsKnown ss phi known → WantsKnown ss phi (extra ++ known)
known-wider ss phi known extra h l n e = λ x i. in-right x extra known (h l n e x i)

mutual
  pub wants-known : (funs : List Fun) (own n : ℕ) (t : Term) (ss : Scoped) (phi : Wants) (known : List ℕ) → is_formed funs own n ss known t ≡ true → only_jumps t ≡ true → WantsKnown ss phi known → Within (wants phi t) known
  wants-known funs own n (Let x a t) ss phi known e j h =
      let parts = and_parts (is_primitive known a) (is_formed funs own n ss (x ∷ known) t) e in
      within-both (prim_vars a) (without (wants phi t) (x ∷ [])) known (prim-known known a parts.0)
      (within-without (wants phi t) (x ∷ []) known (wants-known funs own n t ss phi (x ∷ known) parts.1 j (known-wider ss phi known (x ∷ []) h)))
  wants-known funs own n (Read m xs a t) ss phi known e j h =
      let parts = and_parts (is_known known a) (can_move m (length xs) && (is_address m a (length xs) && is_formed funs own n ss (xs ++ known) t)) e in
      let rest = and_parts (can_move m (length xs)) (is_address m a (length xs) && is_formed funs own n ss (xs ++ known) t) parts.1 in
      let last = and_parts (is_address m a (length xs)) (is_formed funs own n ss (xs ++ known) t) rest.1 in
      within-both (atom_vars a) (without (wants phi t) xs) known (atom-known known a parts.0) (within-without (wants phi t) xs known (wants-known funs own n t ss phi (xs ++ known) last.1 j (known-wider ss phi known xs h)))
  wants-known funs own n (Write m a bs t) ss phi known e j h =
      let parts = and_parts (is_known known a) (all_known known bs && (can_move m (length bs) && (is_address m a (length bs) && is_formed funs own n ss known t))) e in
      let rest = and_parts (all_known known bs) (can_move m (length bs) && (is_address m a (length bs) && is_formed funs own n ss known t)) parts.1 in
      let extra = and_parts (can_move m (length bs)) (is_address m a (length bs) && is_formed funs own n ss known t) rest.1 in
      let last = and_parts (is_address m a (length bs)) (is_formed funs own n ss known t) extra.1 in
      within-both (all_vars (a ∷ bs)) (wants phi t) known (within-both (atom_vars a) (all_vars bs) known (atom-known known a parts.0) (atoms-known known bs rest.0)) (wants-known funs own n t ss phi known last.1 j h)
  wants-known funs own n (If c a b t u) ss phi known e j h =
      let parts = and_parts (is_known known a) (is_known known b && (is_formed funs own n ss known t && is_formed funs own n ss known u)) e in
      let rest = and_parts (is_known known b) (is_formed funs own n ss known t && is_formed funs own n ss known u) parts.1 in
      let last = and_parts (is_formed funs own n ss known t) (is_formed funs own n ss known u) rest.1 in
      let both = and_parts (only_jumps t) (only_jumps u) j in
      within-both (all_vars (a ∷ b ∷ [])) (wants phi t ++ wants phi u) known
      (within-both (atom_vars a) (all_vars (b ∷ [])) known (atom-known known a parts.0) (within-both (atom_vars b) [] known (atom-known known b rest.0) (λ x i. absurd (false≢true i))))
      (within-both (wants phi t) (wants phi u) known (wants-known funs own n t ss phi known last.0 both.0 h) (wants-known funs own n u ss phi known last.1 both.1 h))
  wants-known funs own n (Fix ls t) ss phi known e j h =
      let parts = and_parts (are_formed funs own n (scoped ls ++ ss) known ls) (is_formed funs own n (scoped ls ++ ss) known t) e in
      let both = and_parts (labels_only_jump ls) (only_jumps t) j in
      wants-known funs own n t (scoped ls ++ ss) (inside phi ls) known parts.1 both.1
      (known-fix ls ss phi (labels_want (with_wants phi ls []) ls) known h (labels-want-known funs own n ls (scoped ls ++ ss) (with_wants phi ls []) known parts.0 both.0 (known-fix ls ss phi [] known h (λ x i. absurd (false≢true i)))))
  wants-known funs own n (Call f bs k hs) ss phi known e j h = absurd (false≢true j)
  wants-known funs own n (Return bs) ss phi known e j h = absurd (false≢true j)
  wants-known funs own n (Throw x bs) ss phi known e j h = absurd (false≢true j)
  wants-known funs own n (Jump l bs) ss phi known e j h =
      let parts = and_parts (all_known known bs) (takes ss l (length bs)) e in within-both (all_vars bs) (phi l) known (atoms-known known bs parts.0) (h l (length bs) parts.1)
  wants-known funs own n (Halt x bs) ss phi known e j h = atoms-known known bs (and_parts (all_known known bs) (nat_le (length bs) 8) e).0

  pub labels-want-known : (funs : List Fun) (own n : ℕ) (ls : Labels) (ss : Scoped) (phi : Wants) (known : List ℕ) → are_formed funs own n ss known ls ≡ true → labels_only_jump ls ≡ true → WantsKnown ss phi known → Within (labels_want phi ls) known
  labels-want-known funs own n none ss phi known e j h = λ x i. absurd (false≢true i)
  labels-want-known funs own n (label l xs t ls) ss phi known e j h =
      let parts = and_parts (is_formed funs own n ss (xs ++ known) t) (are_formed funs own n ss known ls) e in
      let both = and_parts (only_jumps t) (labels_only_jump ls) j in
      within-both (without (wants phi t) xs) (labels_want phi ls) known (within-without (wants phi t) xs known (wants-known funs own n t ss phi (xs ++ known) parts.0 both.0 (known-wider ss phi known xs h)))
      (labels-want-known funs own n ls ss phi known parts.1 both.1 h)

-- What a settled label wants is what it uses, and then a term is ready.
use Rattle.std.proofs.Common.{◌≡◌, ℕ, true, false, nat_eq, nat_le, List, [], ◌∷◌, ◌++◌, Some, refl, sym, ap, subst, ◌∙◌, length, slice_get, append_assoc}
use Rattle.std.proofs.lemmas.Bool.{and_parts, or_parts, or_from, or_left, false≢true}
use Rattle.nv_base.specs.declared.term.Atom.{Atom}
use Rattle.nv_base.specs.Words.{atom_vars, prim_vars}
use Rattle.nv_base.specs.Sets.{is_in, without, all_different, all_vars, Within}
use Rattle.nv_base.specs.Access.{all_known}
use Rattle.nv_base.proofs.Sets.{within-both, within-behind_same, within-without_same}
use Rattle.cps_ir.specs.Term.{Term, Let, Read, Write, If, Fix, Call, Return, Throw, Jump, Halt, Labels, none, label}
use Rattle.cps_ir.specs.View.{Seen}
use Rattle.cps_ir.specs.Formed.{Scoped, scoped, takes, defined, labels_defined}
use Rattle.cps_ir.specs.Wide.{Wants, with_wants, wants, labels_want, inside}
use Rattle.flow_ir.specs.Tree as flow
use Rattle.flow_ir.specs.Wide.{live}
use Rattle.cps_close.specs.inner.Closed.{Table, needed, number, operands, tree_of, with_wanted, used, defines, bound}
use Rattle.cps_close.proofs.Ready.{Ready, AllReady}
use Rattle.flow_ir.proofs.Members.{either, first-or-rest, in-left, in-right, in-first, in-rest, out-both, in-not-out, stays, stayed, in-or-out, apart-turned}
use Rattle.flow_ir.specs.inner.Scoped.{Apart}
use Rattle.cps_close.proofs.Wants.{wants-more, wants-known}
use Rattle.cps_close.proofs.Places.{Everywhere, AllPlaces, Uses, Setting, Place, Places, let-place, read-place, write-place, first-place, second-place, rest-place, label-places, body-place, other-places, label-here}

-- ---- variables of terms and trees

all-operands : (ws : List ℕ) → all_vars (operands ws) ≡ ws
all-operands [] = refl
all-operands (w ∷ ws) = ap (λ v. w ∷ v) (all-operands ws)

-- of a jump's words
pub jump-vars : (bs : List Atom) (ws : List ℕ) → all_vars (bs ++ operands ws) ≡ all_vars bs ++ ws
jump-vars [] ws = all-operands ws
jump-vars (a ∷ bs) ws = ap (λ v. atom_vars a ++ v) (jump-vars bs ws) ∙ sym (append_assoc (atom_vars a) (all_vars bs) ws)

pub defines-defined : (t : Term) → Within (defines t) (defined t)
defines-defined (Let x a t) = λ y e. first-or-rest y x (defines t) e (λ q. or_left (nat_eq y x) (is_in y (defined t)) q) (λ q. in-rest y x (defined t) (defines-defined t y q))
defines-defined (Read m xs a t) = within-behind_same xs (defines t) (defined t) (defines-defined t)
defines-defined (Write m a bs t) = defines-defined t
defines-defined (If c a b t u) = within-both (defines t) (defines u) (defined t ++ defined u) (λ y e. in-left y (defined t) (defined u) (defines-defined t y e)) (λ y e. in-right y (defined t) (defined u) (defines-defined u y e))
defines-defined (Fix ls t) = λ y e. in-left y (defined t) (labels_defined ls) (defines-defined t y e)
defines-defined (Call f bs k hs) = λ y e. e
defines-defined (Return bs) = λ y e. e
defines-defined (Throw e bs) = λ y i. i
defines-defined (Jump l bs) = λ y e. e
defines-defined (Halt e bs) = λ y i. i

pub live-used : (tab : Table) (t : Term) → Within (live (tree_of tab t)) (used tab t)
live-used tab (Let x a t) = within-behind_same (prim_vars a) (without (live (tree_of tab t)) (x ∷ [])) (used tab t) (λ y e. live-used tab t y (stayed y (live (tree_of tab t)) (x ∷ []) e).0)
live-used tab (Read m xs a t) = within-behind_same (atom_vars a) (without (live (tree_of tab t)) xs) (used tab t) (λ y e. live-used tab t y (stayed y (live (tree_of tab t)) xs e).0)
live-used tab (Write m a bs t) = within-behind_same (all_vars (a ∷ bs)) (live (tree_of tab t)) (used tab t) (live-used tab t)
live-used tab (If c a b t u) =
    within-behind_same (all_vars (a ∷ b ∷ [])) (live (tree_of tab t) ++ live (tree_of tab u)) (used tab t ++ used tab u)
    (within-both (live (tree_of tab t)) (live (tree_of tab u)) (used tab t ++ used tab u) (λ y e. in-left y (used tab t) (used tab u) (live-used tab t y e)) (λ y e. in-right y (used tab t) (used tab u) (live-used tab u y e)))
live-used tab (Fix ls t) = live-used tab t
live-used tab (Call f bs k hs) = λ y e. e
live-used tab (Return bs) = λ y e. e
live-used tab (Throw e bs) = λ y i. i
live-used tab (Jump l bs) = λ y e. subst (λ v. is_in y v ≡ true) (jump-vars bs (needed tab l)) e
live-used tab (Halt e bs) = λ y i. i

-- ---- what is used is wanted

pub jump-takes : (s : Setting) (ss : Scoped) (phi : Wants) (known : List ℕ) (l : ℕ) (bs : List Atom) → Place s ss phi known (Jump l bs) → takes ss l (length bs) ≡ true
jump-takes s ss phi known l bs p = (and_parts (all_known known bs) (takes ss l (length bs)) p.formed).1

pub used-needed : (s : Setting) (t : Term) (ss : Scoped) (phi : Wants) (known : List ℕ) → Place s ss phi known t → (x : ℕ) → is_in x (used s.tab t) ≡ true → is_in x (defines t) ≡ false → is_in x (wants phi t) ≡ true
used-needed s (Let y a t) ss phi known p x e out =
    let parts = or_parts (nat_eq x y) (is_in x (defines t)) out in
    either x (prim_vars a) (used s.tab t) e (λ q. in-left x (prim_vars a) (without (wants phi t) (y ∷ [])) q)
    (λ q. in-right x (prim_vars a) (without (wants phi t) (y ∷ [])) (stays x (wants phi t) (y ∷ []) (used-needed s t ss phi (y ∷ known) (let-place s ss phi known y a t p) x q parts.1) (or_from (nat_eq x y) false parts.0 refl)))
used-needed s (Read m xs a t) ss phi known p x e out =
    let parts = out-both x xs (defines t) out in
    either x (atom_vars a) (used s.tab t) e (λ q. in-left x (atom_vars a) (without (wants phi t) xs) q)
    (λ q. in-right x (atom_vars a) (without (wants phi t) xs) (stays x (wants phi t) xs (used-needed s t ss phi (xs ++ known) (read-place s ss phi known m xs a t p) x q parts.1) parts.0))
used-needed s (Write m a bs t) ss phi known p x e out =
    either x (all_vars (a ∷ bs)) (used s.tab t) e (λ q. in-left x (all_vars (a ∷ bs)) (wants phi t) q) (λ q. in-right x (all_vars (a ∷ bs)) (wants phi t) (used-needed s t ss phi known (write-place s ss phi known m a bs t p) x q out))
used-needed s (If c a b t u) ss phi known p x e out =
    let parts = out-both x (defines t) (defines u) out in
    either x (all_vars (a ∷ b ∷ [])) (used s.tab t ++ used s.tab u) e (λ q. in-left x (all_vars (a ∷ b ∷ [])) (wants phi t ++ wants phi u) q)
    (λ r. in-right x (all_vars (a ∷ b ∷ [])) (wants phi t ++ wants phi u)
    (either x (used s.tab t) (used s.tab u) r (λ q. in-left x (wants phi t) (wants phi u) (used-needed s t ss phi known (first-place s ss phi known c a b t u p) x q parts.0))
    (λ q. in-right x (wants phi t) (wants phi u) (used-needed s u ss phi known (second-place s ss phi known c a b t u p) x q parts.1))))
used-needed s (Fix ls t) ss phi known p x e out = used-needed s t (scoped ls ++ ss) (inside phi ls) known (rest-place s ss phi known ls t p) x e out
used-needed s (Call f bs k hs) ss phi known p x e out = absurd (false≢true p.jumps)
used-needed s (Return bs) ss phi known p x e out = absurd (false≢true p.jumps)
used-needed s (Throw k bs) ss phi known p x e out = absurd (false≢true p.jumps)
used-needed s (Jump l bs) ss phi known p x e out =
    either x (all_vars bs) (needed s.tab l) e (λ q. in-left x (all_vars bs) (phi l) q) (λ q. in-right x (all_vars bs) (phi l) (p.covers l (length bs) (jump-takes s ss phi known l bs p) x q))
used-needed s (Halt k bs) ss phi known p x e out = e

-- what is live is wanted
pub live-needed : (s : Setting) (t : Term) (ss : Scoped) (phi : Wants) (known : List ℕ) → Place s ss phi known t → Within (live (tree_of s.tab t)) (wants phi t)
live-needed s (Let y a t) ss phi known p =
    within-behind_same (prim_vars a) (without (live (tree_of s.tab t)) (y ∷ [])) (without (wants phi t) (y ∷ []))
    (within-without_same (live (tree_of s.tab t)) (wants phi t) (y ∷ []) (live-needed s t ss phi (y ∷ known) (let-place s ss phi known y a t p)))
live-needed s (Read m xs a t) ss phi known p =
    within-behind_same (atom_vars a) (without (live (tree_of s.tab t)) xs) (without (wants phi t) xs)
    (within-without_same (live (tree_of s.tab t)) (wants phi t) xs (live-needed s t ss phi (xs ++ known) (read-place s ss phi known m xs a t p)))
live-needed s (Write m a bs t) ss phi known p = within-behind_same (all_vars (a ∷ bs)) (live (tree_of s.tab t)) (wants phi t) (live-needed s t ss phi known (write-place s ss phi known m a bs t p))
live-needed s (If c a b t u) ss phi known p =
    within-behind_same (all_vars (a ∷ b ∷ [])) (live (tree_of s.tab t) ++ live (tree_of s.tab u)) (wants phi t ++ wants phi u)
    (within-both (live (tree_of s.tab t)) (live (tree_of s.tab u)) (wants phi t ++ wants phi u)
    (λ y e. in-left y (wants phi t) (wants phi u) (live-needed s t ss phi known (first-place s ss phi known c a b t u p) y e))
    (λ y e. in-right y (wants phi t) (wants phi u) (live-needed s u ss phi known (second-place s ss phi known c a b t u p) y e)))
live-needed s (Fix ls t) ss phi known p = live-needed s t (scoped ls ++ ss) (inside phi ls) known (rest-place s ss phi known ls t p)
live-needed s (Call f bs k hs) ss phi known p = absurd (false≢true p.jumps)
live-needed s (Return bs) ss phi known p = absurd (false≢true p.jumps)
live-needed s (Throw k bs) ss phi known p = absurd (false≢true p.jumps)
live-needed s (Jump l bs) ss phi known p =
    λ x e.
    either x (all_vars bs) (needed s.tab l) (subst (λ v. is_in x v ≡ true) (jump-vars bs (needed s.tab l)) e) (λ q. in-left x (all_vars bs) (phi l) q)
    (λ q. in-right x (all_vars bs) (phi l) (p.covers l (length bs) (jump-takes s ss phi known l bs p) x q))
live-needed s (Halt k bs) ss phi known p = λ x e. e

-- what is live is known
pub live-known : (s : Setting) (t : Term) (ss : Scoped) (phi : Wants) (known : List ℕ) → Place s ss phi known t → Within (live (tree_of s.tab t)) known
live-known s t ss phi known p = λ x e. wants-known s.funs s.own s.results t ss phi known p.formed p.jumps p.within x (live-needed s t ss phi known p x e)

-- each label uses no more than its `Fix` wants
mutual
  pub uses-in : (s : Setting) (t : Term) (ss : Scoped) (phi : Wants) (known : List ℕ) → Place s ss phi known t → Everywhere (Uses s.tab) phi t
  uses-in s (Let y a t) ss phi known p = uses-in s t ss phi (y ∷ known) (let-place s ss phi known y a t p)
  uses-in s (Read m xs a t) ss phi known p = uses-in s t ss phi (xs ++ known) (read-place s ss phi known m xs a t p)
  uses-in s (Write m a bs t) ss phi known p = uses-in s t ss phi known (write-place s ss phi known m a bs t p)
  uses-in s (If c a b t u) ss phi known p = (uses-in s t ss phi known (first-place s ss phi known c a b t u p), uses-in s u ss phi known (second-place s ss phi known c a b t u p))
  uses-in s (Fix ls t) ss phi known p =
      (uses-all s ls (scoped ls ++ ss) (inside phi ls) (with_wants phi ls []) (labels_want (with_wants phi ls []) ls) known (label-places s ss phi known ls t p), uses-in s t (scoped ls ++ ss) (inside phi ls) known (rest-place s ss phi known ls t p))
  uses-in s (Call f bs k hs) ss phi known p = refl
  uses-in s (Return bs) ss phi known p = refl
  uses-in s (Throw k bs) ss phi known p = refl
  uses-in s (Jump l bs) ss phi known p = refl
  uses-in s (Halt k bs) ss phi known p = refl

  pub uses-all : (s : Setting) (ls : Labels) (ss : Scoped) (phi alone : Wants) (held known : List ℕ) → Places s ss phi alone held known ls → AllPlaces (Uses s.tab) phi held ls
  uses-all s none ss phi alone held known p = refl
  uses-all s (label l xs t ls) ss phi alone held known p =
      let body = body-place s ss phi alone held known l xs t ls p in (
        λ x e out.
            let split = out-both x xs (defines t) out in
            either x (wants alone t) held (wants-more t alone phi held body.jumps p.extra x (used-needed s t ss phi (xs ++ known) body x e split.1))
            (λ q. p.part x (in-left x (without (wants alone t) xs) (labels_want alone ls) (stays x (wants alone t) xs q split.0))) (λ q. q),
        uses-in s t ss phi (xs ++ known) body,
        uses-all s ls ss phi alone held known (other-places s ss phi alone held known l xs t ls p),
      )

-- ---- ready

-- a label that wants all that it uses
pub record Settled (labels : List flow.Label) (tab : Table) (c : Seen) : Type 0 where
  pub whole : (x : ℕ) → is_in x (used tab c.body) ≡ true → is_in x (bound c) ≡ false → is_in x (needed tab c.label) ≡ true
  pub apart : Apart (needed tab c.label) (bound c)
  pub single : all_different (needed tab c.label) ≡ true
  pub found : slice_get labels (number tab c.label) ≡ Some (with_wanted tab c (needed tab c.label))
  pub counted : nat_le 1 (number tab c.label) ≡ true

abbrev pub AllSettled : List flow.Label → Setting → Type 0
AllSettled labels s = (c : Seen) (i : ℕ) → slice_get s.cs i ≡ Some c → Settled labels s.tab c

mutual
  pub ready-in : (labels : List flow.Label) (s : Setting) → AllSettled labels s → (t : Term) (ss : Scoped) (phi : Wants) (known : List ℕ) → Place s ss phi known t → Ready labels s.tab ss known t
  ready-in labels s h (Let y a t) ss phi known p = (apart-turned known (y ∷ defined t) p.apart y (in-first y (defined t)), ready-in labels s h t ss phi (y ∷ known) (let-place s ss phi known y a t p))
  ready-in labels s h (Read m xs a t) ss phi known p = (λ y q. apart-turned known (xs ++ defined t) p.apart y (in-left y xs (defined t) q), ready-in labels s h t ss phi (xs ++ known) (read-place s ss phi known m xs a t p))
  ready-in labels s h (Write m a bs t) ss phi known p = ready-in labels s h t ss phi known (write-place s ss phi known m a bs t p)
  ready-in labels s h (If c a b t u) ss phi known p = (ready-in labels s h t ss phi known (first-place s ss phi known c a b t u p), ready-in labels s h u ss phi known (second-place s ss phi known c a b t u p))
  ready-in labels s h (Fix ls t) ss phi known p = (
    all-ready labels s h ls (scoped ls ++ ss) (inside phi ls) (with_wants phi ls []) (labels_want (with_wants phi ls []) ls) known (label-places s ss phi known ls t p),
    ready-in labels s h t (scoped ls ++ ss) (inside phi ls) known (rest-place s ss phi known ls t p),
  )
  ready-in labels s h (Call f bs k hs) ss phi known p = absurd (false≢true p.jumps)
  ready-in labels s h (Return bs) ss phi known p = absurd (false≢true p.jumps)
  ready-in labels s h (Throw k bs) ss phi known p = absurd (false≢true p.jumps)
  ready-in labels s h (Jump l bs) ss phi known p = jump-takes s ss phi known l bs p
  ready-in labels s h (Halt k bs) ss phi known p = refl

  pub all-ready : (labels : List flow.Label) (s : Setting) → AllSettled labels s → (ls : Labels) (ss : Scoped) (phi alone : Wants) (held known : List ℕ) → Places s ss phi alone held known ls → AllReady labels s.tab ss known ls
  all-ready labels s h none ss phi alone held known p = refl
  all-ready labels s h (label l xs t ls) ss phi alone held known p =
      let body = body-place s ss phi alone held known l xs t ls p in
      let there = label-here s ss phi alone held known l xs t ls p in
      let settled = h (record { label = l; params = xs; body = t }) there.0 there.1 in
      let vs = needed s.tab l in (
        record {
          inside = λ x e. p.limit x (p.least.0 x e);
          apart = λ x e. apart-turned known ((xs ++ defined t) ++ labels_defined ls) p.apart x (in-left x (xs ++ defined t) (labels_defined ls) (in-left x xs (defined t) e));
          whole = λ x e.
              in-or-out x (xs ++ defines t)
              (λ i. either x xs (defines t) i (λ q. in-left x xs vs q) (λ q. in-not-out x (defined t) (defines-defined t x q) (body.apart x (live-known s t ss phi (xs ++ known) body x e))))
              (λ o. in-right x xs vs (settled.whole x (live-used s.tab t x e) o));
          found = settled.found;
        },
        ready-in labels s h t ss phi (xs ++ known) body,
        all-ready labels s h ls ss phi alone held known (other-places s ss phi alone held known l xs t ls p),
      )

-- The copies want no wider at once than each call counts.
use Rattle.std.proofs.Common.{◌≡◌, ℕ, ◌+◌, ◌≤◌, ◌<◌, nat_eq, nat_lt, ◌==◌, Bool, true, false, ◌&&◌, max, List, [], ◌∷◌, ◌++◌, length, Option, Some, None, slice_get, if◌then◌else◌, refl, sym, ap, subst, ◌∙◌, ⊎_elim, arith}
use Rattle.std.proofs.lemmas.Bool.{and_parts, or_cases, eqb-true, false≢true, ne_eqb}
use Rattle.std.proofs.lemmas.Bool.Decides.{nat_tests}
use Rattle.std.proofs.lemmas.List.{length-map}
use Rattle.std.proofs.lemmas.Option.{slice_get_within}
use Rattle.nv_base.specs.declared.term.Atom.{Atom}
use Rattle.nv_base.specs.Access.{all_known}
use Rattle.nv_base.specs.Measures.{operands_wide, entry_wide, Widths}
use Rattle.nv_base.specs.Sets.{is_in, Within, different, without, all_vars}
use Rattle.nv_base.specs.Words.{atom_vars, prim_vars}
use Rattle.nv_base.proofs.Sets.{in-append, within-left, within-right}
use Rattle.cps_ir.specs.Formed.{Scoped, scoped, is_formed, are_formed, is_call, can_call, can_go, are_handlers}
use Rattle.cps_ir.specs.Meaning.{handler_of}
use Rattle.cps_ir.specs.Term.{Handler, Term, Let, Read, Write, If, Fix, Call, Return, Throw, Jump, Halt, Labels, none, label, Fun}
use Rattle.cps_ir.specs.Wide.{Wants, with_wants, to_wants, handlers_want, kept, wants, labels_want, inside, call_wide, term_wide, labels_wide}
use Rattle.cps_inline.specs.inner.Inlined.{Counts, Entering, InlineContext, return_term, moved, moved_atom, moved_atoms, moved_primitive, moved_handlers, after_handlers, term_span, labels_span, is_one, term_count, labels_count, copied, copied_labels, entered_call}
use Rattle.cps_inline.proofs.Moved.{eq-moved}
use Rattle.cps_inline.proofs.Wants.{Fits, fits-none, fits-within, fits-both, fits-moved, fits-in-held, fits-without, fits-different, fits-let, fits-entry, fits-operands, atom-vars-moved, all-vars-moved, prim-vars-moved, let-rest, read-rest, write-rest, if-arms}
use Rattle.cps_inline.proofs.Simulates.{IsBelow, below-more, Below, start-far, start-far-other, handlers-below, to-below, earlier-group}

-- ---- what labels want, in the source and in the copies

-- labels of the copy want what those of the source want, moved, and what is held; those of the place want what is held; later ones nothing
pub record Wanting (funs : List Fun) (group n b s : ℕ) (p : InlineContext) (phi phi' : Wants) (held : List ℕ) : Type 0 where
  pub labels : (l : ℕ) → Fits b held (phi' (b + l)) (phi l)
  pub to : Within (to_wants phi' p.to) held
  pub handlers : (e : ℕ) → Within (to_wants phi' (handler_of e p.handlers)) held
  pub own : (i : ℕ) (g : Fun) → slice_get funs i ≡ Some g → g.group ≡ group → g.results ≡ n → Within (phi' (p.first + i)) held
  pub later : (l : ℕ) → b + s ≤ l → phi' l ≡ []

-- what wants of labels become where some labels get theirs
with-at : (phi : Wants) (ls : Labels) (vs : List ℕ) (b : ℕ) (funs : List Fun) (enter : Entering) (w : Counts) (p : InlineContext) (k l : ℕ) → l < b → with_wants phi (copied_labels funs enter w p b ls k) vs l ≡ phi l
with-at phi none vs b funs enter w p k l lt = refl
with-at phi (label m xs t ls) vs b funs enter w p k l lt =
    ap (λ c. if c then vs else with_wants phi (copied_labels funs enter w p b ls (k + term_count funs w t)) vs l) (ne_eqb (b + m) l (λ (e : b + m ≡ l). omega arith)) ∙ with-at phi ls vs b funs enter w p (k + term_count funs w t) l lt

with-far : (phi : Wants) (ls : Labels) (vs : List ℕ) (b s : ℕ) (funs : List Fun) (enter : Entering) (w : Counts) (p : InlineContext) (k l : ℕ) → labels_span ls ≤ s → b + s ≤ l → with_wants phi (copied_labels funs enter w p b ls k) vs l ≡ phi l
with-far phi none vs b s funs enter w p k l le far = refl
with-far phi (label m xs t ls) vs b s funs enter w p k l le far =
    ap (λ c. if c then vs else with_wants phi (copied_labels funs enter w p b ls (k + term_count funs w t)) vs l) (ne_eqb (b + m) l (λ (e : b + m ≡ l). omega arith)) ∙ with-far phi ls vs b s funs enter w p (k + term_count funs w t) l (omega arith) far

fits-if : (b : ℕ) (held vs' vs a' a : List ℕ) (t t' : Bool) → t' ≡ t → Fits b held vs' vs → Fits b held a' a → Fits b held (if t' then vs' else a') (if t then vs else a)
fits-if b held vs' vs a' a true true e h g = h
fits-if b held vs' vs a' a false false e h g = g
fits-if b held vs' vs a' a true false e h g = absurd (false≢true e)
fits-if b held vs' vs a' a false true e h g = absurd (false≢true (sym e))

with-labels : (phi phi' : Wants) (held : List ℕ) (ls : Labels) (vs vs' : List ℕ) (b : ℕ) (funs : List Fun) (enter : Entering) (w : Counts) (p : InlineContext) (k : ℕ) → Fits b held vs' vs → ((l : ℕ) → Fits b held (phi' (b + l)) (phi l))
    → (l : ℕ) → Fits b held (with_wants phi' (copied_labels funs enter w p b ls k) vs' (b + l)) (with_wants phi ls vs l)
with-labels phi phi' held none vs vs' b funs enter w p k fit h l = h l
with-labels phi phi' held (label m xs t ls) vs vs' b funs enter w p k fit h l =
    fits-if b held vs' vs (with_wants phi' (copied_labels funs enter w p b ls (k + term_count funs w t)) vs' (b + l)) (with_wants phi ls vs l) (nat_eq m l) (nat_eq (b + m) (b + l)) (eq-moved b m l) fit (with-labels phi phi' held ls vs vs' b funs enter w p (k + term_count funs w t) fit h l)

pub to-same : (phi psi : Wants) (b : ℕ) (o : Option ℕ) (held : List ℕ) → ((l : ℕ) → l < b → psi l ≡ phi l) → IsBelow b o → Within (to_wants phi o) held → Within (to_wants psi o) held
to-same phi psi b (Some l) held h lt w = subst (λ v. Within v held) (sym (h l lt)) w
to-same phi psi b None held h lt w = w

-- inside of a Fix
wanting-with : (funs : List Fun) (own n b s : ℕ) (p : InlineContext) → Below funs b p → (phi phi' : Wants) (held : List ℕ) (ls : Labels) (vs vs' : List ℕ) (enter : Entering) (w : Counts) (k : ℕ) → labels_span ls ≤ s → Fits b held vs' vs → Wanting funs own n b s p phi phi' held
    → Wanting funs own n b s p (with_wants phi ls vs) (with_wants phi' (copied_labels funs enter w p b ls k) vs') held
wanting-with funs own n b s p below phi phi' held ls vs vs' enter w k le fit h =
    let old = λ (l : ℕ) (lt : l < b). with-at phi' ls vs' b funs enter w p k l lt in
    record {
      labels = with-labels phi phi' held ls vs vs' b funs enter w p k fit h.labels;
      to = to-same phi' (with_wants phi' (copied_labels funs enter w p b ls k) vs') b p.to held old below.to h.to;
      handlers = λ e. to-same phi' (with_wants phi' (copied_labels funs enter w p b ls k) vs') b (handler_of e p.handlers) held old (below.handlers e) (h.handlers e);
      own = λ i g there eg en.
          let lt : i < length funs = slice_get_within funs i g there in
          let first : p.first + length funs ≤ b = below.first in
          subst (λ v. Within v held) (sym (old (p.first + i) (omega arith))) (h.own i g there eg en);
      later = λ l far. with-far phi' ls vs' b s funs enter w p k l le far ∙ h.later l far;
    }

-- ---- calls

-- what a call of an earlier group wants, and how wide it is: held are what its label and handlers want
pub record EntersWide (funs top : List Fun) (v : Widths) (g : ℕ) (w : Widths) (own : ℕ) (enter : Entering) : Type 0 where
  pub want : (i : ℕ) (f : Fun) → slice_get funs i ≡ Some f → f.group < own → (n : ℕ) (bs : List Atom) (to : Option ℕ) (hs : List Handler) (phi' : Wants) (held : List ℕ) → IsBelow n to → ((e : ℕ) → IsBelow n (handler_of e hs)) → Within (to_wants phi' to) held → ((e : ℕ) → Within (to_wants phi' (handler_of e hs)) held) → ((l : ℕ) → n ≤ l → phi' l ≡ [])
      → Within (wants phi' (enter i f bs to hs n)) (all_vars bs ++ held)
  pub wide : (i : ℕ) (f : Fun) → slice_get funs i ≡ Some f → f.group < own → (n : ℕ) (bs : List Atom) (to : Option ℕ) (hs : List Handler) (phi' : Wants) (held : List ℕ) → IsBelow n to → ((e : ℕ) → IsBelow n (handler_of e hs)) → Within (to_wants phi' to) held → ((e : ℕ) → Within (to_wants phi' (handler_of e hs)) held) → ((l : ℕ) → n ≤ l → phi' l ≡ [])
      → term_wide top v g phi' (enter i f bs to hs n) ≤ max (operands_wide held bs) (different held + w f.group)

within-if : (t : Bool) (l : ℕ) (o : Option ℕ) (phi : Wants) (held : List ℕ) → Within (phi l) held → Within (to_wants phi o) held → Within (to_wants phi (if t then Some l else o)) held
within-if true l o phi held h g = h
within-if false l o phi held h g = g

held-more : (b : ℕ) (a c held : List ℕ) → Within (moved b c ++ held) (moved b (a ++ c) ++ held)
held-more b [] c held x i = i
held-more b (z ∷ a) c held x i = within-right ((b + z) ∷ []) (moved b (a ++ c) ++ held) x (held-more b a c held x i)

-- of the handlers of a call and those of its place
call-handlers : (b e : ℕ) (hs ks : List Handler) (phi phi' : Wants) (held wider : List ℕ) → ((l : ℕ) → Fits b held (phi' (b + l)) (phi l)) → Within (to_wants phi' (handler_of e ks)) held → Within (moved b (handlers_want phi hs) ++ held) wider → Within (to_wants phi' (handler_of e (moved_handlers b hs ++ ks))) wider
call-handlers b e [] ks phi phi' held wider h g le = λ x i. le x (g x i)
call-handlers b e (y ∷ hs) ks phi phi' held wider h g le =
    within-if (nat_eq y.0 e) (b + y.1) (handler_of e (moved_handlers b hs ++ ks)) phi' wider
    (λ x i. le x ((fits-within b held (phi' (b + y.1)) (phi y.1) (phi y.1 ++ handlers_want phi hs) (within-left (phi y.1) (handlers_want phi hs)) (h y.1)).by x i))
    (call-handlers b e hs ks phi phi' held wider h g (λ x i. le x (held-more b (phi y.1) (handlers_want phi hs) held x i)))

-- what a call keeps, and what is held round it
abbrev pub call_held : ℕ → Wants → ℕ → List Handler → List ℕ → List ℕ
call_held b phi k hs held = moved b (kept phi (Some k) hs) ++ held

fits-self : (b : ℕ) (held a : List ℕ) → Fits b held (moved b a ++ held) a
fits-self b held a = record { by = λ x i. i }

module _ (funs top : List Fun) (v : Widths) (gr : ℕ) (w : Widths) (own n : ℕ) (enter : Entering) (enters : EntersWide funs top v gr w own enter) (wc : Counts) (p : InlineContext) (b s : ℕ) (below : Below funs b p) where
  -- a call's premises
  to-held : (phi phi' : Wants) (held : List ℕ) (k : ℕ) (hs : List Handler) → Wanting funs own n b s p phi phi' held → Within (to_wants phi' (Some (b + k))) (call_held b phi k hs held)
  to-held phi phi' held k hs h x i = (fits-within b held (phi' (b + k)) (phi k) (kept phi (Some k) hs) (within-left (phi k) (handlers_want phi hs)) (h.labels k)).by x i

  handlers-held : (phi phi' : Wants) (held : List ℕ) (k : ℕ) (hs : List Handler) → Wanting funs own n b s p phi phi' held → (e : ℕ) → Within (to_wants phi' (handler_of e (moved_handlers b hs ++ p.handlers))) (call_held b phi k hs held)
  handlers-held phi phi' held k hs h e = call-handlers b e hs p.handlers phi phi' held (call_held b phi k hs held) h.labels (h.handlers e) (held-more b (phi k) (handlers_want phi hs) held)

  call-want : (phi phi' : Wants) (held : List ℕ) (i k next given : ℕ) (ss : Scoped) (bs : List Atom) (hs : List Handler) (o : Option Fun) → slice_get funs i ≡ o → can_call own given ss k o ≡ true → k + 1 ≤ s → after_handlers hs ≤ s → b + s ≤ next → Wanting funs own n b s p phi phi' held
      → Fits b held (wants phi' (entered_call enter i o (moved_atoms b bs) (Some (b + k)) (moved_handlers b hs ++ p.handlers) next)) (all_vars bs ++ kept phi (Some k) hs)
  call-want phi phi' held i k next given ss bs hs None there can lk lh far h = absurd (false≢true can)
  call-want phi phi' held i k next given ss bs hs (Some g) there can lk lh far h =
      let within = enters.want i g there (earlier-group own given ss k g can) next (moved_atoms b bs) (Some (b + k)) (moved_handlers b hs ++ p.handlers) phi' (call_held b phi k hs held) (to-below b s next k lk far)
      (λ e. handlers-below b s next e hs p.handlers lh far (below-more b next (handler_of e p.handlers) (omega arith) (below.handlers e))) (to-held phi phi' held k hs h) (handlers-held phi phi' held k hs h) (λ l le. h.later l (omega arith)) in
      let parts : Fits b held (all_vars (moved_atoms b bs) ++ call_held b phi k hs held) (all_vars bs ++ kept phi (Some k) hs) =
      fits-both b held (all_vars (moved_atoms b bs)) (all_vars bs) (call_held b phi k hs held) (kept phi (Some k) hs) (subst (λ l. Fits b held l (all_vars bs)) (sym (all-vars-moved b bs)) (fits-moved b held (all_vars bs))) (fits-self b held (kept phi (Some k) hs)) in
      record { by = λ x j. parts.by x (within x j) }

  call-width : (phi phi' : Wants) (held : List ℕ) (i k next given : ℕ) (ss : Scoped) (bs : List Atom) (hs : List Handler) (o : Option Fun) → slice_get funs i ≡ o → can_call own given ss k o ≡ true → k + 1 ≤ s → after_handlers hs ≤ s → b + s ≤ next → Wanting funs own n b s p phi phi' held
      → term_wide top v gr phi' (entered_call enter i o (moved_atoms b bs) (Some (b + k)) (moved_handlers b hs ++ p.handlers) next) ≤ different held + max (operands_wide (kept phi (Some k) hs) bs) (call_wide w own (different (kept phi (Some k) hs)) o)
  call-width phi phi' held i k next given ss bs hs None there can lk lh far h = absurd (false≢true can)
  call-width phi phi' held i k next given ss bs hs (Some g) there can lk lh far h =
      let lt : g.group < own = earlier-group own given ss k g can in
      let le = enters.wide i g there lt next (moved_atoms b bs) (Some (b + k)) (moved_handlers b hs ++ p.handlers) phi' (call_held b phi k hs held) (to-below b s next k lk far)
      (λ e. handlers-below b s next e hs p.handlers lh far (below-more b next (handler_of e p.handlers) (omega arith) (below.handlers e))) (to-held phi phi' held k hs h) (handlers-held phi phi' held k hs h) (λ l far'. h.later l (omega arith)) in
      let operands : operands_wide (call_held b phi k hs held) (moved_atoms b bs) ≤ different held + operands_wide (kept phi (Some k) hs) bs = fits-operands b held (call_held b phi k hs held) (kept phi (Some k) hs) bs (fits-self b held (kept phi (Some k) hs)) in
      let many : different (call_held b phi k hs held) ≤ different held + different (kept phi (Some k) hs) = fits-different b held (call_held b phi k hs held) (kept phi (Some k) hs) (fits-self b held (kept phi (Some k) hs)) in
      let test : nat_lt g.group own ≡ true = grind (arith, nat_tests) in
      let callee : call_wide w own (different (kept phi (Some k) hs)) (Some g) ≡ different (kept phi (Some k) hs) + w g.group = ap (λ c. if c then different (kept phi (Some k) hs) + w g.group else 0) test in
      omega arith

  own-want : (phi phi' : Wants) (held : List ℕ) (i given : ℕ) (o : Option Fun) → slice_get funs i ≡ o → can_go own given n o ≡ true → Wanting funs own n b s p phi phi' held → Within (phi' (p.first + i)) held
  own-want phi phi' held i given None there can h = absurd (false≢true can)
  own-want phi phi' held i given (Some g) there can h =
      let parts = and_parts (g.results == n) (g.group == own) (and_parts (length g.params == given) ((g.results == n) && (g.group == own)) can).1 in
      h.own i g there (eqb-true g.group own parts.1) (eqb-true g.results n parts.0)

  return_term-want : (phi' : Wants) (held : List ℕ) (o : Option ℕ) (e : ℕ) (bs : List Atom) → Within (to_wants phi' o) held → Fits b held (wants phi' (return_term o e (moved_atoms b bs))) (all_vars bs)
  return_term-want phi' held (Some l) e bs h =
      record { by = λ x i. ⊎_elim (λ (j : is_in x (all_vars (moved_atoms b bs)) ≡ true). (subst (λ k. Fits b held k (all_vars bs)) (sym (all-vars-moved b bs)) (fits-moved b held (all_vars bs))).by x j) (λ (j : is_in x (phi' l) ≡ true). (fits-in-held b held (phi' l) (all_vars bs) h).by x j) (or_cases (is_in x (all_vars (moved_atoms b bs))) (is_in x (phi' l)) (sym (in-append x (all_vars (moved_atoms b bs)) (phi' l)) ∙ i)) }
  return_term-want phi' held None e bs h = subst (λ k. Fits b held k (all_vars bs)) (sym (all-vars-moved b bs)) (fits-moved b held (all_vars bs))

  return_term-wide : (phi' : Wants) (held : List ℕ) (o : Option ℕ) (e : ℕ) (bs : List Atom) → Within (to_wants phi' o) held → term_wide top v gr phi' (return_term o e (moved_atoms b bs)) ≤ different held + operands_wide [] bs
  return_term-wide phi' held (Some l) e bs h = fits-operands b held (phi' l) [] bs (fits-in-held b held (phi' l) [] h)
  return_term-wide phi' held None e bs h = fits-operands b held [] [] bs (fits-none b held [])

  atoms-fit : (held : List ℕ) (bs : List Atom) → Fits b held (all_vars (moved_atoms b bs)) (all_vars bs)
  atoms-fit held bs = subst (λ k. Fits b held k (all_vars bs)) (sym (all-vars-moved b bs)) (fits-moved b held (all_vars bs))

  atom-fit : (held : List ℕ) (a : Atom) → Fits b held (atom_vars (moved_atom b a)) (atom_vars a)
  atom-fit held a = subst (λ k. Fits b held k (atom_vars a)) (sym (atom-vars-moved b a)) (fits-moved b held (atom_vars a))

  -- ---- what terms want

  fix-wanting : (phi phi' : Wants) (held : List ℕ) (ls : Labels) (k : ℕ) → labels_span ls ≤ s → Fits b held (labels_want (with_wants phi' (copied_labels funs enter wc p b ls k) []) (copied_labels funs enter wc p b ls k)) (labels_want (with_wants phi ls []) ls) → Wanting funs own n b s p phi phi' held
      → Wanting funs own n b s p (inside phi ls) (inside phi' (copied_labels funs enter wc p b ls k)) held
  fix-wanting phi phi' held ls k le fit h = wanting-with funs own n b s p below phi phi' held ls (labels_want (with_wants phi ls []) ls) (labels_want (with_wants phi' (copied_labels funs enter wc p b ls k) []) (copied_labels funs enter wc p b ls k)) enter wc k le fit h

  empty-wanting : (phi phi' : Wants) (held : List ℕ) (ls : Labels) (k : ℕ) → labels_span ls ≤ s → Wanting funs own n b s p phi phi' held → Wanting funs own n b s p (with_wants phi ls []) (with_wants phi' (copied_labels funs enter wc p b ls k) []) held
  empty-wanting phi phi' held ls k le h = wanting-with funs own n b s p below phi phi' held ls [] [] enter wc k le (fits-none b held []) h

  mutual
    pub term-wants : (t : Term) (ss : Scoped) (known : List ℕ) → is_formed funs own n ss known t ≡ true → term_span t ≤ s → (next : ℕ) → b + s ≤ next → (phi phi' : Wants) (held : List ℕ) → Wanting funs own n b s p phi phi' held → Fits b held (wants phi' (copied funs enter wc p b t next)) (wants phi t)
    term-wants (Let x a t) ss known f le next far phi phi' held h =
        fits-both b held (prim_vars (moved_primitive b a)) (prim_vars a) _ _ (subst (λ k. Fits b held k (prim_vars a)) (sym (prim-vars-moved b a)) (fits-moved b held (prim_vars a)))
        (fits-without b held (wants phi' (copied funs enter wc p b t next)) (wants phi t) (x ∷ []) (term-wants t ss (x ∷ known) (let-rest funs own n ss known x a t f) (omega arith) next far phi phi' held h))
    term-wants (Read m xs a t) ss known f le next far phi phi' held h =
        fits-both b held (atom_vars (moved_atom b a)) (atom_vars a) _ _ (atom-fit held a)
        (fits-without b held (wants phi' (copied funs enter wc p b t next)) (wants phi t) xs (term-wants t ss (xs ++ known) (read-rest funs own n ss known m xs a t f) (omega arith) next far phi phi' held h))
    term-wants (Write m a bs t) ss known f le next far phi phi' held h =
        fits-both b held (all_vars (moved_atoms b (a ∷ bs))) (all_vars (a ∷ bs)) _ _ (atoms-fit held (a ∷ bs)) (term-wants t ss known (write-rest funs own n ss known m a bs t f) (omega arith) next far phi phi' held h)
    term-wants (If c a d t u) ss known f le next far phi phi' held h =
        let arms = if-arms funs own n ss known c a d t u f in
        fits-both b held (all_vars (moved_atoms b (a ∷ d ∷ []))) (all_vars (a ∷ d ∷ [])) _ _ (atoms-fit held (a ∷ d ∷ []))
        (fits-both b held _ (wants phi t) _ (wants phi u) (term-wants t ss known arms.0 (omega arith) next far phi phi' held h) (term-wants u ss known arms.1 (omega arith) (next + term_count funs wc t) (omega arith) phi phi' held h))
    term-wants (Fix ls t) ss known f le next far phi phi' held h =
        let parts = and_parts (are_formed funs own n (scoped ls ++ ss) known ls) (is_formed funs own n (scoped ls ++ ss) known t) f in
        let low = start-far b s (is_one ls) next (term_count funs wc t) far in
        let high = start-far-other b s (is_one ls) next (labels_count funs wc ls) far in
        let k = if is_one ls then next + term_count funs wc t else next in
        term-wants t (scoped ls ++ ss) known parts.1 (omega arith) (if is_one ls then next else next + labels_count funs wc ls) high (inside phi ls) (inside phi' (copied_labels funs enter wc p b ls (if is_one ls then next + term_count funs wc t else next))) held
        (fix-wanting phi phi' held ls (if is_one ls then next + term_count funs wc t else next) (omega arith)
        (labels-wants ls (scoped ls ++ ss) known parts.0 (omega arith) (if is_one ls then next + term_count funs wc t else next) low (with_wants phi ls []) (with_wants phi' (copied_labels funs enter wc p b ls (if is_one ls then next + term_count funs wc t else next)) []) held
        (empty-wanting phi phi' held ls (if is_one ls then next + term_count funs wc t else next) (omega arith) h)) h)
    term-wants (Call i bs (Some k) hs) ss known f le next far phi phi' held h =
        let calls = and_parts (can_call own (length bs) ss k (slice_get funs i)) (are_handlers ss hs) (and_parts (all_known known bs) (is_call funs own n ss i (length bs) (Some k) hs) f).1 in
        call-want phi phi' held i k next (length bs) ss bs hs (slice_get funs i) refl calls.0 (omega arith) (omega arith) far h
    term-wants (Call i bs None []) ss known f le next far phi phi' held h =
        fits-both b held (all_vars (moved_atoms b bs)) (all_vars bs) (phi' (p.first + i)) [] (atoms-fit held bs) (fits-in-held b held (phi' (p.first + i)) [] (own-want phi phi' held i (length bs) (slice_get funs i) refl (and_parts (all_known known bs) (is_call funs own n ss i (length bs) None []) f).1 h))
    term-wants (Call i bs None (x ∷ hs)) ss known f le next far phi phi' held h = absurd (false≢true (and_parts (all_known known bs) false f).1)
    term-wants (Return bs) ss known f le next far phi phi' held h = return_term-want phi' held p.to 0 bs h.to
    term-wants (Throw e bs) ss known f le next far phi phi' held h = return_term-want phi' held (handler_of e p.handlers) e bs (h.handlers e)
    term-wants (Jump l bs) ss known f le next far phi phi' held h = fits-both b held (all_vars (moved_atoms b bs)) (all_vars bs) (phi' (b + l)) (phi l) (atoms-fit held bs) (h.labels l)
    term-wants (Halt e bs) ss known f le next far phi phi' held h = atoms-fit held bs

    labels-wants : (ls : Labels) (ss : Scoped) (known : List ℕ) → are_formed funs own n ss known ls ≡ true → labels_span ls ≤ s → (next : ℕ) → b + s ≤ next → (phi phi' : Wants) (held : List ℕ) → Wanting funs own n b s p phi phi' held → Fits b held (labels_want phi' (copied_labels funs enter wc p b ls next)) (labels_want phi ls)
    labels-wants none ss known f le next far phi phi' held h = fits-none b held []
    labels-wants (label l xs t ls) ss known f le next far phi phi' held h =
        let parts = and_parts (is_formed funs own n ss (xs ++ known) t) (are_formed funs own n ss known ls) f in
        fits-both b held (without (wants phi' (copied funs enter wc p b t next)) (moved b xs)) (without (wants phi t) xs) _ _
        (fits-without b held (wants phi' (copied funs enter wc p b t next)) (wants phi t) xs (term-wants t ss (xs ++ known) parts.0 (omega arith) next far phi phi' held h))
        (labels-wants ls ss known parts.1 (omega arith) (next + term_count funs wc t) (omega arith) phi phi' held h)

  -- ---- how wide terms are

  sum-max : (h x y x' y' : ℕ) → x' ≤ h + x → y' ≤ h + y → max x' y' ≤ h + max x y
  sum-max h x y x' y' le lf = omega arith

  mutual
    pub term-width : (t : Term) (ss : Scoped) (known : List ℕ) → is_formed funs own n ss known t ≡ true → term_span t ≤ s → (next : ℕ) → b + s ≤ next → (phi phi' : Wants) (held : List ℕ) → Wanting funs own n b s p phi phi' held → term_wide top v gr phi' (copied funs enter wc p b t next) ≤ different held + term_wide funs w own phi t
    term-width (Let x a t) ss known f le next far phi phi' held h =
        sum-max (different held) _ (term_wide funs w own phi t) _ _ (fits-let b held _ _ (term-wants (Let x a t) ss known f le next far phi phi' held h))
        (term-width t ss (x ∷ known) (let-rest funs own n ss known x a t f) (omega arith) next far phi phi' held h)
    term-width (Read m xs a t) ss known f le next far phi phi' held h =
        let rest = (read-rest funs own n ss known m xs a t f) in
        let want = term-wants t ss (xs ++ known) rest (omega arith) next far phi phi' held h in
        sum-max (different held) _ (term_wide funs w own phi t) _ _
        (sum-max (different held) _ _ _ _ (fits-operands b held _ (without (wants phi t) xs) (a ∷ []) (fits-without b held (wants phi' (copied funs enter wc p b t next)) (wants phi t) xs want))
        (fits-different b held (moved b xs ++ wants phi' (copied funs enter wc p b t next)) (xs ++ wants phi t) (fits-both b held (moved b xs) xs _ _ (fits-moved b held xs) want)))
        (term-width t ss (xs ++ known) rest (omega arith) next far phi phi' held h)
    term-width (Write m a bs t) ss known f le next far phi phi' held h =
        let rest = (write-rest funs own n ss known m a bs t f) in
        sum-max (different held) _ (term_wide funs w own phi t) _ _ (fits-operands b held _ (wants phi t) (a ∷ bs) (term-wants t ss known rest (omega arith) next far phi phi' held h)) (term-width t ss known rest (omega arith) next far phi phi' held h)
    term-width (If c a d t u) ss known f le next far phi phi' held h =
        let arms = if-arms funs own n ss known c a d t u f in
        sum-max (different held) _ (max (term_wide funs w own phi t) (term_wide funs w own phi u)) _ _
        (fits-operands b held _ (wants phi t ++ wants phi u) (a ∷ d ∷ []) (fits-both b held _ (wants phi t) _ (wants phi u) (term-wants t ss known arms.0 (omega arith) next far phi phi' held h) (term-wants u ss known arms.1 (omega arith) (next + term_count funs wc t) (omega arith) phi phi' held h)))
        (sum-max (different held) (term_wide funs w own phi t) (term_wide funs w own phi u) _ _ (term-width t ss known arms.0 (omega arith) next far phi phi' held h) (term-width u ss known arms.1 (omega arith) (next + term_count funs wc t) (omega arith) phi phi' held h))
    term-width (Fix ls t) ss known f le next far phi phi' held h =
        let parts = and_parts (are_formed funs own n (scoped ls ++ ss) known ls) (is_formed funs own n (scoped ls ++ ss) known t) f in
        let low = start-far b s (is_one ls) next (term_count funs wc t) far in
        let high = start-far-other b s (is_one ls) next (labels_count funs wc ls) far in
        let want = labels-wants ls (scoped ls ++ ss) known parts.0 (omega arith) (if is_one ls then next + term_count funs wc t else next) low (with_wants phi ls []) (with_wants phi' (copied_labels funs enter wc p b ls (if is_one ls then next + term_count funs wc t else next)) []) held
        (empty-wanting phi phi' held ls (if is_one ls then next + term_count funs wc t else next) (omega arith) h) in
        let inner = fix-wanting phi phi' held ls (if is_one ls then next + term_count funs wc t else next) (omega arith) want h in
        sum-max (different held) (labels_wide funs w own (inside phi ls) (labels_want (with_wants phi ls []) ls) ls) (term_wide funs w own (inside phi ls) t) _ _
        (labels-width ls (scoped ls ++ ss) known parts.0 (omega arith) (if is_one ls then next + term_count funs wc t else next) low (inside phi ls) (inside phi' (copied_labels funs enter wc p b ls (if is_one ls then next + term_count funs wc t else next))) held inner _ _ want)
        (term-width t (scoped ls ++ ss) known parts.1 (omega arith) (if is_one ls then next else next + labels_count funs wc ls) high (inside phi ls) (inside phi' (copied_labels funs enter wc p b ls (if is_one ls then next + term_count funs wc t else next))) held inner)
    term-width (Call i bs (Some k) hs) ss known f le next far phi phi' held h =
        let calls = and_parts (can_call own (length bs) ss k (slice_get funs i)) (are_handlers ss hs) (and_parts (all_known known bs) (is_call funs own n ss i (length bs) (Some k) hs) f).1 in
        call-width phi phi' held i k next (length bs) ss bs hs (slice_get funs i) refl calls.0 (omega arith) (omega arith) far h
    term-width (Call i bs None []) ss known f le next far phi phi' held h =
        let operands : operands_wide (phi' (p.first + i)) (moved_atoms b bs) ≤ different held + operands_wide [] bs =
        fits-operands b held (phi' (p.first + i)) [] bs (fits-in-held b held (phi' (p.first + i)) [] (own-want phi phi' held i (length bs) (slice_get funs i) refl (and_parts (all_known known bs) (is_call funs own n ss i (length bs) None []) f).1 h)) in
        omega arith
    term-width (Call i bs None (x ∷ hs)) ss known f le next far phi phi' held h = absurd (false≢true (and_parts (all_known known bs) false f).1)
    term-width (Return bs) ss known f le next far phi phi' held h = return_term-wide phi' held p.to 0 bs h.to
    term-width (Throw e bs) ss known f le next far phi phi' held h = return_term-wide phi' held (handler_of e p.handlers) e bs (h.handlers e)
    term-width (Jump l bs) ss known f le next far phi phi' held h = fits-operands b held (phi' (b + l)) (phi l) bs (h.labels l)
    term-width (Halt e bs) ss known f le next far phi phi' held h = fits-operands b held [] [] bs (fits-none b held [])

    labels-width : (ls : Labels) (ss : Scoped) (known : List ℕ) → are_formed funs own n ss known ls ≡ true → labels_span ls ≤ s → (next : ℕ) → b + s ≤ next → (phi phi' : Wants) (held : List ℕ) → Wanting funs own n b s p phi phi' held → (vs' vs : List ℕ) → Fits b held vs' vs
        → labels_wide top v gr phi' vs' (copied_labels funs enter wc p b ls next) ≤ different held + labels_wide funs w own phi vs ls
    labels-width none ss known f le next far phi phi' held h vs' vs fit = omega arith
    labels-width (label l xs t ls) ss known f le next far phi phi' held h vs' vs fit =
        let parts = and_parts (is_formed funs own n ss (xs ++ known) t) (are_formed funs own n ss known ls) f in
        sum-max (different held) (max (entry_wide vs (length xs)) (term_wide funs w own phi t)) (labels_wide funs w own phi vs ls) _ _
        (sum-max (different held) (entry_wide vs (length xs)) (term_wide funs w own phi t) _ _ (fits-entry b held vs' vs (length xs) (length (moved b xs)) (length-map xs (λ x. b + x)) fit) (term-width t ss (xs ++ known) parts.0 (omega arith) next far phi phi' held h))
        (labels-width ls ss known parts.1 (omega arith) (next + term_count funs wc t) (omega arith) phi phi' held h vs' vs fit)

-- The copy of a term does what the term does, within each number of jumps.
use Rattle.std.proofs.Common.{◌≡◌, ℕ, zero, suc, ◌+◌, ◌≤◌, ◌<◌, nat_eq, nat_le, nat_lt, ◌==◌, Bool, true, false, ◌&&◌, List, [], ◌∷◌, ◌++◌, length, Option, Some, None, slice_get, if◌then◌else◌, refl, sym, ap, subst, ◌∙◌, ⊎_elim, arith}
use Rattle.std.proofs.lemmas.Bool.{cases_eq, eq-eqb, eqb-true, and_parts, and_from, false≢true}
use Rattle.std.proofs.lemmas.Bool.Decides.{nat_tests}
use Rattle.std.proofs.lemmas.List.{length-map}
use Rattle.std.proofs.lemmas.Option.{slice_get_within}
use Rattle.nv_base.specs.declared.term.Atom.{Atom}
use Rattle.nv_base.specs.declared.outcome.Outcome.TheVariants as outcome
use Rattle.nv_base.specs.Access.{is_known, all_known, is_primitive, can_move, is_address}
use Rattle.nv_base.specs.Memories.{Memories, fetched, stored}
use Rattle.nv_base.specs.Meanings.{FullOutcome}
use Rattle.nv_base.specs.Words.{Env, assigned, assigned_all, atom_word, atom_words, prim_word, compares}
use Rattle.nv_base.specs.World.{World, over, ended, after_read, after_write, read_words, write_words, wrote}
use Rattle.cps_ir.specs.Formed.{Scoped, scoped, is_formed, are_formed, is_call, can_call, can_go, are_handlers, takes}
use Rattle.cps_ir.specs.Meaning.{handler_of, Body, label_in, Scope, Top, Bound, Frames, Bottom, Frame, ToLabel, ToFun, Next, returned, or_label, thrown, does, at_body, enter_label, enter_fun, blank, run}
use Rattle.cps_ir.specs.Term.{Handler, Term, Let, Read, Write, If, Fix, Call, Return, Throw, Jump, Halt, Labels, none, label, Fun}
use Rattle.cps_inline.specs.inner.Inlined.{Counts, Entering, InlineContext, return_term, moved, moved_atom, moved_atoms, moved_handlers, behind, after_handlers, term_span, labels_span, span, is_copied, is_one, term_count, labels_count, copied, copied_labels, copies, entered, entered_call, entering, counts}
use Rattle.cps_inline.proofs.Moved.{Agrees, Zeros, eq-moved, behind-moved, assigned-agrees, all-agree, assigned-zeros, all-zeros, atom-moved, atoms-moved, prim-moved}
use Rattle.cps_inline.proofs.Lookup.{Lie, lie-moved, lie-copies, IsCopy, copy-at}

-- ---- where words and exceptions go in the copy

abbrev pub landing : Next → Option ℕ → ℕ → List ℕ → Scope → World → FullOutcome
landing next (Some l) e ws sc w = next (ToLabel l ws sc Bottom) w
landing next None e ws sc w = over (ended e ws) w

return_term-runs : (next : Next) (o : Option ℕ) (e : ℕ) (bs : List Atom) (env : Env) (sc : Scope) (w : World) → does next (return_term o e bs) env sc Bottom w ≡ landing next o e (atom_words env bs) sc w
return_term-runs next (Some l) e bs env sc w = refl
return_term-runs next None e bs env sc w = refl

abbrev pub IsBelow : ℕ → Option ℕ → Type 0
IsBelow n (Some l) = l < n
IsBelow n None = Unit {0}

pub below-more : (n m : ℕ) (o : Option ℕ) → n ≤ m → IsBelow n o → IsBelow m o
below-more n m (Some l) le h = omega arith
below-more n m None le h = tt

below-if : (n : ℕ) (b : Bool) (k l : Option ℕ) → IsBelow n k → IsBelow n l → IsBelow n (if b then k else l)
below-if n true k l h g = h
below-if n false k l h g = g

-- ---- labels that are there or not

passes : (top : List Fun) (m l : ℕ) (ls : Labels) → label_in l ls ≡ None → (ws : List ℕ) (env : Env) (sc : Scope) (fr : Frames) (w : World) → run top m (ToLabel l ws (Bound ls env sc) fr) w ≡ run top m (ToLabel l ws sc fr) w
passes top zero l ls e ws env sc fr w = refl
passes top (suc m) l ls e ws env sc fr w = ap (λ o. at_body (run top m) o env (Bound ls env sc) ws fr w (enter_label (run top m) l ws sc fr w)) e

hits : (top : List Fun) (m l : ℕ) (ls : Labels) (b : Body) → label_in l ls ≡ Some b → (ws : List ℕ) (env : Env) (sc : Scope) (fr : Frames) (w : World) → run top (suc m) (ToLabel l ws (Bound ls env sc) fr) w ≡ does (run top m) b.term (assigned_all env b.params ws) (Bound ls env sc) fr w
hits top m l ls b e ws env sc fr w = ap (λ o. at_body (run top m) o env (Bound ls env sc) ws fr w (enter_label (run top m) l ws sc fr w)) e

landing-passes : (top : List Fun) (m n : ℕ) (o : Option ℕ) (ls : Labels) → IsBelow n o → ((l : ℕ) → l < n → label_in l ls ≡ None) → (e : ℕ) (ws : List ℕ) (env : Env) (sc : Scope) (w : World) → landing (run top m) o e ws (Bound ls env sc) w ≡ landing (run top m) o e ws sc w
landing-passes top m n (Some l) ls lt h e ws env sc w = passes top m l ls (h l lt) ws env sc Bottom w
landing-passes top m n None ls lt h e ws env sc w = refl

-- from a number on no label is there: a run that jumps to it goes on for ever
pub record Misses (top : List Fun) (sc : Scope) (n : ℕ) : Type 0 where
  pub by : (l : ℕ) → n ≤ l → (m : ℕ) (ws : List ℕ) (w : World) → run top m (ToLabel l ws sc Bottom) w ≡ over outcome.Going w

misses-more : (top : List Fun) (sc : Scope) (n m : ℕ) → n ≤ m → Misses top sc n → Misses top sc m
misses-more top sc n m le h = record { by = λ l far. h.by l (omega arith) }

misses-bound : (top : List Fun) (ls : Labels) (env : Env) (sc : Scope) (n : ℕ) → ((l : ℕ) → n ≤ l → label_in l ls ≡ None) → Misses top sc n → Misses top (Bound ls env sc) n
misses-bound top ls env sc n out h = record { by = λ l far m ws w. passes top m l ls (out l far) ws env sc Bottom w ∙ h.by l far m ws w }

going-top : (funs : List Fun) (m l : ℕ) (ws : List ℕ) (fr : Frames) (w : World) → run funs m (ToLabel l ws Top fr) w ≡ over outcome.Going w
going-top funs zero l ws fr w = refl
going-top funs (suc m) l ws fr w = refl

pub misses-top : (top : List Fun) (n : ℕ) → Misses top Top n
misses-top top n = record { by = λ l far m ws w. going-top top m l ws Bottom w }

-- ---- what is alike, for runs of at most N jumps

-- what the calls that wait do with words and exceptions
pub record Lands (funs top : List Fun) (N : ℕ) (fr : Frames) (to : Option ℕ) (hs : List Handler) (sc' : Scope) : Type 0 where
  pub words : (m : ℕ) → m ≤ N → (ws : List ℕ) (w : World) → returned (run funs m) ws fr w ≡ landing (run top m) to 0 ws sc' w
  pub exceptions : (m : ℕ) → m ≤ N → (e : ℕ) (ws : List ℕ) (w : World) → thrown (run funs m) (suc e) ws fr w ≡ landing (run top m) (handler_of (suc e) hs) (suc e) ws sc' w

abbrev pub LabelsAlike : List Fun → List Fun → ℕ → ℕ → Scope → Frames → Scope → Type 0
LabelsAlike funs top m b sc fr sc' = (l : ℕ) (ws : List ℕ) (w : World) → run funs m (ToLabel l ws sc fr) w ≡ run top m (ToLabel (b + l) ws sc' Bottom) w

-- the functions of a group that return n words, whose labels begin here
abbrev pub OwnAlike : List Fun → List Fun → ℕ → ℕ → ℕ → ℕ → Frames → Scope → Type 0
OwnAlike funs top m own n first fr sc' = (i : ℕ) (g : Fun) → slice_get funs i ≡ Some g → g.group ≡ own → g.results ≡ n → (ws : List ℕ) (w : World) → run funs m (ToFun i ws fr) w ≡ run top m (ToLabel (first + i) ws sc' Bottom) w

pub record Alike (funs top : List Fun) (N group n b s : ℕ) (p : InlineContext) (sc : Scope) (fr : Frames) (sc' : Scope) : Type 0 where
  pub labels : (m : ℕ) → m ≤ N → LabelsAlike funs top m b sc fr sc'
  pub outer : Lands funs top N fr p.to p.handlers sc'
  pub own : (m : ℕ) → m ≤ N → OwnAlike funs top m group n p.first fr sc'
  pub misses : Misses top sc' (b + s)

-- the labels of a place are below the base
pub record Below (funs : List Fun) (b : ℕ) (p : InlineContext) : Type 0 where
  pub first : p.first + length funs ≤ b
  pub to : IsBelow b p.to
  pub handlers : (e : ℕ) → IsBelow b (handler_of e p.handlers)

return_term-less : (funs top : List Fun) (N M : ℕ) (fr : Frames) (to : Option ℕ) (hs : List Handler) (sc' : Scope) → M ≤ N → Lands funs top N fr to hs sc' → Lands funs top M fr to hs sc'
return_term-less funs top N M fr to hs sc' le h = record { words = λ m lm. h.words m (omega arith); exceptions = λ m lm. h.exceptions m (omega arith) }

-- new labels hide none of a place
return_term-bound : (funs top : List Fun) (N n : ℕ) (fr : Frames) (to : Option ℕ) (hs : List Handler) (ls : Labels) (env' : Env) (sc' : Scope) → IsBelow n to → ((e : ℕ) → IsBelow n (handler_of e hs)) → ((l : ℕ) → l < n → label_in l ls ≡ None) → Lands funs top N fr to hs sc' → Lands funs top N fr to hs (Bound ls env' sc')
return_term-bound funs top N n fr to hs ls env' sc' lt lts out h = record {
  words = λ m le ws w. h.words m le ws w ∙ sym (landing-passes top m n to ls lt out 0 ws env' sc' w);
  exceptions = λ m le e ws w. h.exceptions m le e ws w ∙ sym (landing-passes top m n (handler_of (suc e) hs) ls (lts (suc e)) out (suc e) ws env' sc' w);
}

-- ---- labels of a term

-- a label's body and its copy
abbrev pub Bodies : List Fun → List Fun → ℕ → ℕ → ℕ → ℕ → InlineContext → Env → Scope → Frames → Env → Scope → Option Body → Option Body → Type 0
Bodies funs top own n b s p env sc fr env' sc' None None = Unit {0}
Bodies funs top own n b s p env sc fr env' sc' None (Some d) = ⊥
Bodies funs top own n b s p env sc fr env' sc' (Some c) None = ⊥
Bodies funs top own n b s p env sc fr env' sc' (Some c) (Some d) =
    (m : ℕ) → Alike funs top m own n b s p sc fr sc' → (ws : List ℕ) (w : World) → does (run funs m) c.term (assigned_all env c.params ws) sc fr w ≡ does (run top m) d.term (assigned_all env' d.params ws) sc' Bottom w

bodies-if : (funs top : List Fun) (own n b s : ℕ) (p : InlineContext) (env : Env) (sc : Scope) (fr : Frames) (env' : Env) (sc' : Scope) (c : Body) (o : Option Body) (d : Body) (o' : Option Body) (t t' : Bool) → t' ≡ t
    → Bodies funs top own n b s p env sc fr env' sc' (Some c) (Some d) → Bodies funs top own n b s p env sc fr env' sc' o o' → Bodies funs top own n b s p env sc fr env' sc' (if t then Some c else o) (if t' then Some d else o')
bodies-if funs top own n b s p env sc fr env' sc' c o d o' true true e h k = h
bodies-if funs top own n b s p env sc fr env' sc' c o d o' false false e h k = k
bodies-if funs top own n b s p env sc fr env' sc' c o d o' true false e h k = absurd (false≢true e)
bodies-if funs top own n b s p env sc fr env' sc' c o d o' false true e h k = absurd (false≢true (sym e))

body-step : (funs top : List Fun) (m own n b s : ℕ) (p : InlineContext) (env : Env) (sc : Scope) (fr : Frames) (env' : Env) (sc' : Scope) (o o' : Option Body) → Bodies funs top own n b s p env sc fr env' sc' o o' → Alike funs top m own n b s p sc fr sc' → (ws : List ℕ) (w : World) (r r' : FullOutcome) → r ≡ r'
    → at_body (run funs m) o env sc ws fr w r ≡ at_body (run top m) o' env' sc' ws Bottom w r'
body-step funs top m own n b s p env sc fr env' sc' None None h a ws w r r' e = e
body-step funs top m own n b s p env sc fr env' sc' (Some c) (Some d) h a ws w r r' e = h m a ws w
body-step funs top m own n b s p env sc fr env' sc' None (Some d) h a ws w r r' e = absurd h
body-step funs top m own n b s p env sc fr env' sc' (Some c) None h a ws w r r' e = absurd h

module _ (funs top : List Fun) (N own n b s : ℕ) (p : InlineContext) (below : Below funs b p) (sc : Scope) (fr : Frames) (sc' : Scope) (alike : Alike funs top N own n b s p sc fr sc') (ls ls' : Labels) (env env' : Env) (lie : Lie ls' b (b + s))
    (bodies : (l : ℕ) → Bodies funs top own n b s p env (Bound ls env sc) fr env' (Bound ls' env' sc') (label_in l ls) (label_in (b + l) ls')) where
  -- inside of a Fix, from its labels
  fix-from : (m : ℕ) → m ≤ N → ((k : ℕ) → k ≤ m → LabelsAlike funs top k b (Bound ls env sc) fr (Bound ls' env' sc')) → Alike funs top m own n b s p (Bound ls env sc) fr (Bound ls' env' sc')
  fix-from m le h = record {
    labels = h;
    outer = return_term-bound funs top m b fr p.to p.handlers ls' env' sc' below.to below.handlers (λ l lt. (lie l).0 lt) (return_term-less funs top N m fr p.to p.handlers sc' le alike.outer);
    own = λ k lk i g there eg en ws w.
        let lt : i < length funs = slice_get_within funs i g there in
        let first : p.first + length funs ≤ b = below.first in
        alike.own k (omega arith) i g there eg en ws w ∙ sym (passes top k (p.first + i) ls' ((lie (p.first + i)).0 (omega arith)) ws env' sc' Bottom w);
    misses = misses-bound top ls' env' sc' (b + s) (λ l far. (lie l).1 far) alike.misses;
  }

  fix-step : (m : ℕ) → suc m ≤ N → ((k : ℕ) → k ≤ m → LabelsAlike funs top k b (Bound ls env sc) fr (Bound ls' env' sc')) → LabelsAlike funs top (suc m) b (Bound ls env sc) fr (Bound ls' env' sc')
  fix-step m le h l ws w =
      body-step funs top m own n b s p env (Bound ls env sc) fr env' (Bound ls' env' sc') (label_in l ls) (label_in (b + l) ls') (bodies l) (fix-from m (omega arith) h) ws w _ _ (alike.labels (suc m) le l ws w)

  fix-upto : (m : ℕ) → m ≤ N → (k : ℕ) → k ≤ m → LabelsAlike funs top k b (Bound ls env sc) fr (Bound ls' env' sc')
  fix-upto zero le zero lk l ws w = refl
  fix-upto zero le (suc k) lk l ws w = absurd (omega arith)
  fix-upto (suc m) le k lk l ws w =
      ⊎_elim
      (λ (e : k ≡ suc m). subst (λ x. run funs x (ToLabel l ws (Bound ls env sc) fr) w ≡ run top x (ToLabel (b + l) ws (Bound ls' env' sc') Bottom) w) (sym e) (fix-step m le (fix-upto m (omega arith)) l ws w))
      (λ (ne : k ≡ suc m → ⊥). fix-upto m (omega arith) k (omega arith) l ws w)
      (cases_eq k (suc m))

  fix-alike : Alike funs top N own n b s p (Bound ls env sc) fr (Bound ls' env' sc')
  fix-alike = fix-from N (omega arith) (fix-upto N (omega arith))

-- ---- nodes

read-alike : (o : Option (List ℕ)) (bad : FullOutcome) (f g : List ℕ → FullOutcome) → ((ws : List ℕ) → f ws ≡ g ws) → after_read o bad f ≡ after_read o bad g
read-alike (Some ws) bad f g h = h ws
read-alike None bad f g h = refl

write-alike : (o : Option Memories) (bad : FullOutcome) (f g : Memories → FullOutcome) → ((q : Memories) → f q ≡ g q) → after_write o bad f ≡ after_write o bad g
write-alike (Some q) bad f g h = h q
write-alike None bad f g h = refl

if-alike : (t t' : Bool) (x y x' y' : FullOutcome) → t' ≡ t → x ≡ x' → y ≡ y' → (if t then x else y) ≡ (if t' then x' else y')
if-alike true true x y x' y' e h g = h
if-alike false false x y x' y' e h g = g
if-alike true false x y x' y' e h g = absurd (false≢true e)
if-alike false true x y x' y' e h g = absurd (false≢true (sym e))

-- ---- calls

-- a call of an earlier group does what the function does
pub record Enters (funs top : List Fun) (own : ℕ) (enter : Entering) : Type 0 where
  pub by : (i : ℕ) (f : Fun) → slice_get funs i ≡ Some f → f.group < own → (N n : ℕ) (bs : List Atom) (to : Option ℕ) (hs : List Handler) (fr : Frames) (env' : Env) (sc' : Scope) → Lands funs top N fr to hs sc' → IsBelow n to → ((e : ℕ) → IsBelow n (handler_of e hs)) → Misses top sc' n → Zeros env' n
      → (w : World) → run funs N (ToFun i (atom_words env' bs) fr) w ≡ does (run top N) (enter i f bs to hs n) env' sc' Bottom w

pub handlers-below : (b s n e : ℕ) (hs ks : List Handler) → after_handlers hs ≤ s → b + s ≤ n → IsBelow n (handler_of e ks) → IsBelow n (handler_of e (moved_handlers b hs ++ ks))
handlers-below b s n e [] ks le far h = h
handlers-below b s n e (x ∷ hs) ks le far h = below-if n (nat_eq x.0 e) (Some (b + x.1)) (handler_of e (moved_handlers b hs ++ ks)) (omega arith) (handlers-below b s n e hs ks (omega arith) far h)

pub to-below : (b s n : ℕ) (k : ℕ) → k + 1 ≤ s → b + s ≤ n → IsBelow n (Some (b + k))
to-below b s n k le far = omega arith

thrown-if : (funs top : List Fun) (m b e : ℕ) (t : Bool) (l : ℕ) (o o' : Option ℕ) (ws : List ℕ) (sc sc' : Scope) (fr : Frames) (w : World) (r : FullOutcome) → run funs m (ToLabel l ws sc fr) w ≡ run top m (ToLabel (b + l) ws sc' Bottom) w → or_label (run funs m) o ws sc fr w r ≡ landing (run top m) o' e ws sc' w
    → or_label (run funs m) (if t then Some l else o) ws sc fr w r ≡ landing (run top m) (if t then Some (b + l) else o') e ws sc' w
thrown-if funs top m b e true l o o' ws sc sc' fr w r h g = h
thrown-if funs top m b e false l o o' ws sc sc' fr w r h g = g

thrown-alike : (funs top : List Fun) (m b e : ℕ) (hs ks : List Handler) (ws : List ℕ) (sc sc' : Scope) (fr : Frames) (w : World) (r : FullOutcome) → LabelsAlike funs top m b sc fr sc' → r ≡ landing (run top m) (handler_of e ks) e ws sc' w
    → or_label (run funs m) (handler_of e hs) ws sc fr w r ≡ landing (run top m) (handler_of e (moved_handlers b hs ++ ks)) e ws sc' w
thrown-alike funs top m b e [] ks ws sc sc' fr w r h g = g
thrown-alike funs top m b e (x ∷ hs) ks ws sc sc' fr w r h g =
    thrown-if funs top m b e (nat_eq x.0 e) x.1 (handler_of e hs) (handler_of e (moved_handlers b hs ++ ks)) ws sc sc' fr w r (h x.1 ws w) (thrown-alike funs top m b e hs ks ws sc sc' fr w r h g)

-- what a call waits for
frame-return_term : (funs top : List Fun) (N own n b s : ℕ) (p : InlineContext) (sc : Scope) (fr : Frames) (sc' : Scope) (k : ℕ) (hs : List Handler) → Alike funs top N own n b s p sc fr sc' → Lands funs top N (Frame k hs sc fr) (Some (b + k)) (moved_handlers b hs ++ p.handlers) sc'
frame-return_term funs top N own n b s p sc fr sc' k hs a = record {
  words = λ m le ws w. a.labels m le k ws w;
  exceptions = λ m le e ws w. thrown-alike funs top m b (suc e) hs p.handlers ws sc sc' fr w (thrown (run funs m) (suc e) ws fr w) (a.labels m le) (a.outer.exceptions m le e ws w);
}

pub earlier-group : (own given : ℕ) (ss : Scoped) (k : ℕ) (g : Fun) → can_call own given ss k (Some g) ≡ true → g.group < own
earlier-group own given ss k g h =
    let parts = and_parts (takes ss k g.results) (nat_lt g.group own) (and_parts (length g.params == given) (takes ss k g.results && nat_lt g.group own) h).1 in
    let lt : nat_lt g.group own ≡ true = parts.1 in
    grind (arith, nat_tests)

call-alike : (funs top : List Fun) (own n : ℕ) (ss : Scoped) (enter : Entering) → Enters funs top own enter → (b s next N i given k : ℕ) (hs : List Handler) (p : InlineContext) (sc : Scope) (fr : Frames) (sc' : Scope) (env' : Env) (bs : List Atom) (o : Option Fun) → slice_get funs i ≡ o → can_call own given ss k o ≡ true
    → k + 1 ≤ s → after_handlers hs ≤ s → b + s ≤ next → Below funs b p → Alike funs top N own n b s p sc fr sc' → Zeros env' (b + s) → (w : World)
    → run funs N (ToFun i (atom_words env' bs) (Frame k hs sc fr)) w ≡ does (run top N) (entered_call enter i o bs (Some (b + k)) (moved_handlers b hs ++ p.handlers) next) env' sc' Bottom w
call-alike funs top own n ss enter enters b s next N i given k hs p sc fr sc' env' bs None there can lk lh far below a zeros w = absurd (false≢true can)
call-alike funs top own n ss enter enters b s next N i given k hs p sc fr sc' env' bs (Some g) there can lk lh far below a zeros w =
    enters.by i g there (earlier-group own given ss k g can) N next bs (Some (b + k)) (moved_handlers b hs ++ p.handlers) (Frame k hs sc fr) env' sc' (frame-return_term funs top N own n b s p sc fr sc' k hs a)
    (to-below b s next k lk far) (λ e. handlers-below b s next e hs p.handlers lh far (below-more b next (handler_of e p.handlers) (omega arith) (below.handlers e))) (misses-more top sc' (b + s) next far a.misses) (λ x le. zeros x (omega arith)) w

own-alike : (funs top : List Fun) (N own n given b s : ℕ) (p : InlineContext) (sc : Scope) (fr : Frames) (sc' : Scope) (i : ℕ) (o : Option Fun) → slice_get funs i ≡ o → can_go own given n o ≡ true → Alike funs top N own n b s p sc fr sc' → (ws : List ℕ) (w : World) → run funs N (ToFun i ws fr) w ≡ run top N (ToLabel (p.first + i) ws sc' Bottom) w
own-alike funs top N own n given b s p sc fr sc' i None there can a ws w = absurd (false≢true can)
own-alike funs top N own n given b s p sc fr sc' i (Some g) there can a ws w =
    let parts = and_parts (g.results == n) (g.group == own) (and_parts (length g.params == given) ((g.results == n) && (g.group == own)) can).1 in
    a.own N (omega arith) i g there (eqb-true g.group own parts.1) (eqb-true g.results n parts.0) ws w

pub start-far : (b s : ℕ) (c : Bool) (next k : ℕ) → b + s ≤ next → b + s ≤ (if c then next + k else next)
start-far b s true next k le = omega arith
start-far b s false next k le = le

pub start-far-other : (b s : ℕ) (c : Bool) (next k : ℕ) → b + s ≤ next → b + s ≤ (if c then next else next + k)
start-far-other b s true next k le = le
start-far-other b s false next k le = omega arith

-- ---- terms

module _ (funs top : List Fun) (own n : ℕ) (enter : Entering) (enters : Enters funs top own enter) (wc : Counts) (p : InlineContext) (b s : ℕ) (below : Below funs b p) where
  mutual
    pub sim : (t : Term) (ss : Scoped) (known : List ℕ) → is_formed funs own n ss known t ≡ true → term_span t ≤ s → (next : ℕ) → b + s ≤ next → (N : ℕ) (sc : Scope) (fr : Frames) (sc' : Scope) → Alike funs top N own n b s p sc fr sc' → (env env' : Env) → Agrees b env env' → Zeros env' (b + s) → (w : World)
        → does (run funs N) t env sc fr w ≡ does (run top N) (copied funs enter wc p b t next) env' sc' Bottom w
    sim (Let x a t) ss known f le next far N sc fr sc' al env env' h z w =
        sim t ss (x ∷ known) (and_parts (is_primitive known a) (is_formed funs own n ss (x ∷ known) t) f).1 (omega arith) next far N sc fr sc' al (assigned env x (prim_word env a)) (assigned env' (b + x) (prim_word env a))
        (assigned-agrees b env env' x (prim_word env a) h) (assigned-zeros env' (b + s) (b + x) (prim_word env a) (omega arith) z) w
        ∙ ap (λ v. does (run top N) (copied funs enter wc p b t next) (assigned env' (b + x) v) sc' Bottom w) (sym (prim-moved b env env' h a))
    sim (Read m xs a t) ss known f le next far N sc fr sc' al env env' h z w =
        let rest = and_parts (is_address m a (length xs)) (is_formed funs own n ss (xs ++ known) t) (and_parts (can_move m (length xs)) (is_address m a (length xs) && is_formed funs own n ss (xs ++ known) t) (and_parts (is_known known a) (can_move m (length xs) && (is_address m a (length xs) && is_formed funs own n ss (xs ++ known) t)) f).1).1 in
        let go = λ (ws : List ℕ). does (run top N) (copied funs enter wc p b t next) (assigned_all env' (moved b xs) ws) sc' Bottom w in
        let fits : behind (moved b xs) ≤ b + s = behind-moved b xs s (omega arith) in
        read-alike (fetched m (atom_word env a) (length xs) w.packet) (over (outcome.Fault m (atom_word env a)) w) (λ ws. does (run funs N) t (assigned_all env xs ws) sc fr w) go
        (λ ws. sim t ss (xs ++ known) rest.1 (omega arith) next far N sc fr sc' al (assigned_all env xs ws) (assigned_all env' (moved b xs) ws) (all-agree b xs ws env env' h) (all-zeros (moved b xs) ws env' (b + s) fits z) w)
        ∙ ap (λ v. read_words m v (length xs) w go) (sym (atom-moved b env env' h a))
        ∙ ap (λ k. read_words m (atom_word env' (moved_atom b a)) k w go) (sym (length-map xs (λ x. b + x)))
    sim (Write m a bs t) ss known f le next far N sc fr sc' al env env' h z w =
        let known-rest = and_parts (is_known known a) (all_known known bs && (can_move m (length bs) && (is_address m a (length bs) && is_formed funs own n ss known t))) f in
        let moves = and_parts (can_move m (length bs)) (is_address m a (length bs) && is_formed funs own n ss known t) (and_parts (all_known known bs) (can_move m (length bs) && (is_address m a (length bs) && is_formed funs own n ss known t)) known-rest.1).1 in
        let rest = and_parts (is_address m a (length bs)) (is_formed funs own n ss known t) moves.1 in
        let go = λ (v : World). does (run top N) (copied funs enter wc p b t next) env' sc' Bottom v in
        write-alike (stored m (atom_word env a) (atom_words env bs) w.packet) (over (outcome.Fault m (atom_word env a)) w) (λ q. does (run funs N) t env sc fr (wrote m (atom_word env a) (atom_words env bs) q w)) (λ q. go (wrote m (atom_word env a) (atom_words env bs) q w))
        (λ q. sim t ss known rest.1 (omega arith) next far N sc fr sc' al env env' h z (wrote m (atom_word env a) (atom_words env bs) q w))
        ∙ ap (λ v. write_words m v (atom_words env bs) w go) (sym (atom-moved b env env' h a))
        ∙ ap (λ vs. write_words m (atom_word env' (moved_atom b a)) vs w go) (sym (atoms-moved b env env' h bs))
    sim (If c a d t u) ss known f le next far N sc fr sc' al env env' h z w =
        let arms = and_parts (is_known known d) (is_formed funs own n ss known t && is_formed funs own n ss known u) (and_parts (is_known known a) (is_known known d && (is_formed funs own n ss known t && is_formed funs own n ss known u)) f).1 in
        let both = and_parts (is_formed funs own n ss known t) (is_formed funs own n ss known u) arms.1 in
        if-alike (compares c (atom_word env a) (atom_word env d)) (compares c (atom_word env' (moved_atom b a)) (atom_word env' (moved_atom b d))) _ _ _ _
        (ap (λ v. compares c v (atom_word env' (moved_atom b d))) (atom-moved b env env' h a) ∙ ap (compares c (atom_word env a)) (atom-moved b env env' h d))
        (sim t ss known both.0 (omega arith) next far N sc fr sc' al env env' h z w)
        (sim u ss known both.1 (omega arith) (next + term_count funs wc t) (omega arith) N sc fr sc' al env env' h z w)
    sim (Fix ls t) ss known f le next far N sc fr sc' al env env' h z w =
        let both = and_parts (are_formed funs own n (scoped ls ++ ss) known ls) (is_formed funs own n (scoped ls ++ ss) known t) f in
        let low = start-far b s (is_one ls) next (term_count funs wc t) far in
        let high = start-far-other b s (is_one ls) next (labels_count funs wc ls) far in
        let ls' = copied_labels funs enter wc p b ls (if is_one ls then next + term_count funs wc t else next) in
        sim t (scoped ls ++ ss) known both.1 (omega arith) (if is_one ls then next else next + labels_count funs wc ls) high N (Bound ls env sc) fr (Bound ls' env' sc')
        (fix-alike funs top N own n b s p below sc fr sc' al ls ls' env env' (lie-moved funs enter wc p b s ls _ (omega arith))
        (λ l. sim-labels ls (scoped ls ++ ss) known both.0 (omega arith) (if is_one ls then next + term_count funs wc t else next) low env env' h z (Bound ls env sc) fr (Bound ls' env' sc') l)) env env' h z w
    sim (Call i bs (Some k) hs) ss known f le next far N sc fr sc' al env env' h z w =
        let calls = and_parts (can_call own (length bs) ss k (slice_get funs i)) (are_handlers ss hs) (and_parts (all_known known bs) (is_call funs own n ss i (length bs) (Some k) hs) f).1 in
        ap (λ ws. run funs N (ToFun i ws (Frame k hs sc fr)) w) (sym (atoms-moved b env env' h bs))
        ∙ call-alike funs top own n ss enter enters b s next N i (length bs) k hs p sc fr sc' env' (moved_atoms b bs) (slice_get funs i) refl calls.0 (omega arith) (omega arith) far below al z w
    sim (Call i bs None []) ss known f le next far N sc fr sc' al env env' h z w =
        own-alike funs top N own n (length bs) b s p sc fr sc' i (slice_get funs i) refl (and_parts (all_known known bs) (is_call funs own n ss i (length bs) None []) f).1 al (atom_words env bs) w
        ∙ ap (λ ws. run top N (ToLabel (p.first + i) ws sc' Bottom) w) (sym (atoms-moved b env env' h bs))
    sim (Call i bs None (x ∷ hs)) ss known f le next far N sc fr sc' al env env' h z w = absurd (false≢true (and_parts (all_known known bs) false f).1)
    sim (Return bs) ss known f le next far N sc fr sc' al env env' h z w =
        al.outer.words N (omega arith) (atom_words env bs) w ∙ ap (λ ws. landing (run top N) p.to 0 ws sc' w) (sym (atoms-moved b env env' h bs)) ∙ sym (return_term-runs (run top N) p.to 0 (moved_atoms b bs) env' sc' w)
    sim (Throw zero bs) ss known f le next far N sc fr sc' al env env' h z w = absurd (false≢true (and_parts (nat_le 1 0) (nat_le (length bs) 8) (and_parts (all_known known bs) (nat_le 1 0 && nat_le (length bs) 8) f).1).0)
    sim (Throw (suc e) bs) ss known f le next far N sc fr sc' al env env' h z w =
        al.outer.exceptions N (omega arith) e (atom_words env bs) w ∙ ap (λ ws. landing (run top N) (handler_of (suc e) p.handlers) (suc e) ws sc' w) (sym (atoms-moved b env env' h bs)) ∙ sym (return_term-runs (run top N) (handler_of (suc e) p.handlers) (suc e) (moved_atoms b bs) env' sc' w)
    sim (Jump l bs) ss known f le next far N sc fr sc' al env env' h z w =
        al.labels N (omega arith) l (atom_words env bs) w ∙ ap (λ ws. run top N (ToLabel (b + l) ws sc' Bottom) w) (sym (atoms-moved b env env' h bs))
    sim (Halt e bs) ss known f le next far N sc fr sc' al env env' h z w = ap (λ ws. over (ended e ws) w) (sym (atoms-moved b env env' h bs))

    sim-labels : (ls : Labels) (ss : Scoped) (known : List ℕ) → are_formed funs own n ss known ls ≡ true → labels_span ls ≤ s → (next : ℕ) → b + s ≤ next → (env env' : Env) → Agrees b env env' → Zeros env' (b + s) → (sc : Scope) (fr : Frames) (sc' : Scope) (l : ℕ)
        → Bodies funs top own n b s p env sc fr env' sc' (label_in l ls) (label_in (b + l) (copied_labels funs enter wc p b ls next))
    sim-labels none ss known f le next far env env' h z sc fr sc' l = tt
    sim-labels (label k xs t ls) ss known f le next far env env' h z sc fr sc' l =
        let parts = and_parts (is_formed funs own n ss (xs ++ known) t) (are_formed funs own n ss known ls) f in
        let fits : behind (moved b xs) ≤ b + s = behind-moved b xs s (omega arith) in
        bodies-if funs top own n b s p env sc fr env' sc' _ (label_in l ls) _ (label_in (b + l) (copied_labels funs enter wc p b ls (next + term_count funs wc t))) (nat_eq k l) (nat_eq (b + k) (b + l)) (eq-moved b k l)
        (λ m al ws w. sim t ss (xs ++ known) parts.0 (omega arith) next far m sc fr sc' al (assigned_all env xs ws) (assigned_all env' (moved b xs) ws) (all-agree b xs ws env env' h) (all-zeros (moved b xs) ws env' (b + s) fits z) w)
        (sim-labels ls ss known parts.1 (omega arith) (next + term_count funs wc t) (omega arith) env env' h z sc fr sc' l)

-- ---- groups

-- where the functions are formed
abbrev pub AreFormed : List Fun → Type 0
AreFormed funs = (i : ℕ) (g : Fun) → slice_get funs i ≡ Some g → is_formed funs g.group g.results [] g.params g.body ≡ true

pub class-from : (f g : Fun) → g.group ≡ f.group → g.results ≡ f.results → is_copied f g ≡ true
class-from f g eg en = and_from (g.group == f.group) (g.results == f.results) (eq-eqb g.group f.group eg) (eq-eqb g.results f.results en)

blank-agrees : (b n : ℕ) (env' : Env) → n ≤ b → Zeros env' n → Agrees b blank env'
blank-agrees b n env' le z x = z (b + x) (omega arith)

abbrev pub place_at : ℕ → Option ℕ → List Handler → InlineContext
place_at n to hs = record { first = n; to = to; handlers = hs }

abbrev pub group_at : List Fun → Entering → Counts → Fun → ℕ → Option ℕ → List Handler → Labels
group_at funs enter wc f n to hs = copies funs enter wc f (place_at n to hs) 0 funs (n + length funs)

lie-group : (funs : List Fun) (enter : Entering) (wc : Counts) (f : Fun) (n : ℕ) (to : Option ℕ) (hs : List Handler) → Lie (group_at funs enter wc f n to hs) n (n + length funs)
lie-group funs enter wc f n to hs = lie-copies funs enter wc f (place_at n to hs) 0 funs (n + length funs) (n + length funs) (omega arith)

body-formed : (funs : List Fun) (f g : Fun) → g.group ≡ f.group → g.results ≡ f.results → is_formed funs g.group g.results [] g.params g.body ≡ true → is_formed funs f.group f.results [] g.params g.body ≡ true
body-formed funs f g eg en h = ap (λ x. is_formed funs x f.results [] g.params g.body) (sym eg) ∙ ap (λ x. is_formed funs g.group x [] g.params g.body) (sym en) ∙ h

module _ (funs top : List Fun) (formed : AreFormed funs) (enter : Entering) (wc : Counts) (f : Fun) (enters : Enters funs top f.group enter) (N n : ℕ) (to : Option ℕ) (hs : List Handler) (fr : Frames) (env' : Env) (sc' : Scope)
    (return_to : Lands funs top N fr to hs sc') (lt : IsBelow n to) (lts : (e : ℕ) → IsBelow n (handler_of e hs)) (misses : Misses top sc' n) (zeros : Zeros env' n) where
  -- at the beginning of a copied function
  begun-alike : (m : ℕ) → m ≤ N → ((k : ℕ) → k ≤ m → OwnAlike funs top k f.group f.results n fr (Bound (group_at funs enter wc f n to hs) env' sc')) → (b s : ℕ) → n + length funs ≤ b → Alike funs top m f.group f.results b s (place_at n to hs) Top fr (Bound (group_at funs enter wc f n to hs) env' sc')
  begun-alike m le own b s far =
      let outside : Misses top (Bound (group_at funs enter wc f n to hs) env' sc') (n + length funs) = misses-bound top (group_at funs enter wc f n to hs) env' sc' (n + length funs) (λ l lf. (lie-group funs enter wc f n to hs l).1 lf) (misses-more top sc' n (n + length funs) (omega arith) misses) in
      record {
        labels = λ k lk l ws w. going-top funs k l ws fr w ∙ sym (outside.by (b + l) (omega arith) k ws w);
        outer = return_term-bound funs top m n fr to hs (group_at funs enter wc f n to hs) env' sc' lt lts (λ l ll. (lie-group funs enter wc f n to hs l).0 ll) (return_term-less funs top N m fr to hs sc' le return_to);
        own = own;
        misses = misses-more top (Bound (group_at funs enter wc f n to hs) env' sc') (n + length funs) (b + s) (omega arith) outside;
      }

  below-base : (b : ℕ) → n + length funs ≤ b → Below funs b (place_at n to hs)
  below-base b far = record { first = far; to = below-more n b to (omega arith) lt; handlers = λ e. below-more n b (handler_of e hs) (omega arith) (lts e) }

  copy-does : (m : ℕ) → suc m ≤ N → ((k : ℕ) → k ≤ m → OwnAlike funs top k f.group f.results n fr (Bound (group_at funs enter wc f n to hs) env' sc')) → (i : ℕ) (g : Fun) → slice_get funs i ≡ Some g → g.group ≡ f.group → g.results ≡ f.results → IsCopy funs enter wc (place_at n to hs) g (n + length funs) (label_in (n + i) (group_at funs enter wc f n to hs))
      → (ws : List ℕ) (w : World) → does (run funs m) g.body (assigned_all blank g.params ws) Top fr w ≡ run top (suc m) (ToLabel (n + i) ws (Bound (group_at funs enter wc f n to hs) env' sc') Bottom) w
  copy-does m le own i g there eg en copy ws w =
      let b = copy.base in
      let far : n + length funs ≤ b = copy.least in
      let least : n ≤ b = omega (arith, far) in
      let fits : behind (moved b g.params) ≤ b + span g = behind-moved b g.params (span g) (omega arith) in
      sim funs top f.group f.results enter enters wc (place_at n to hs) b (span g) (below-base b far) g.body [] g.params (body-formed funs f g eg en (formed i g there)) (omega arith) (b + span g) (omega arith) m Top fr (Bound (group_at funs enter wc f n to hs) env' sc')
      (begun-alike m (omega arith) own b (span g) far) (assigned_all blank g.params ws) (assigned_all env' (moved b g.params) ws) (all-agree b g.params ws blank env' (blank-agrees b n env' least zeros))
      (all-zeros (moved b g.params) ws env' (b + span g) fits (λ x lx. zeros x (omega arith))) w
      ∙ sym (hits top m (n + i) (group_at funs enter wc f n to hs) _ copy.body ws env' sc' Bottom w)

  group-step : (m : ℕ) → suc m ≤ N → ((k : ℕ) → k ≤ m → OwnAlike funs top k f.group f.results n fr (Bound (group_at funs enter wc f n to hs) env' sc')) → OwnAlike funs top (suc m) f.group f.results n fr (Bound (group_at funs enter wc f n to hs) env' sc')
  group-step m le own i g there eg en ws w =
      ap (λ o. enter_fun (run funs m) o ws fr w) there
      ∙ copy-does m le own i g there eg en (copy-at funs enter wc f (place_at n to hs) 0 funs (n + length funs) i (n + i) g (omega arith) there (class-from f g eg en)) ws w

  group-upto : (m : ℕ) → m ≤ N → (k : ℕ) → k ≤ m → OwnAlike funs top k f.group f.results n fr (Bound (group_at funs enter wc f n to hs) env' sc')
  group-upto zero le zero lk i g there eg en ws w = refl
  group-upto zero le (suc k) lk i g there eg en ws w = absurd (omega arith)
  group-upto (suc m) le k lk i g there eg en ws w =
      ⊎_elim
      (λ (e : k ≡ suc m). subst (λ x. run funs x (ToFun i ws fr) w ≡ run top x (ToLabel (n + i) ws (Bound (group_at funs enter wc f n to hs) env' sc') Bottom) w) (sym e) (group-step m le (group-upto m (omega arith)) i g there eg en ws w))
      (λ (ne : k ≡ suc m → ⊥). group-upto m (omega arith) k (omega arith) i g there eg en ws w)
      (cases_eq k (suc m))

  pub group-enters : (i : ℕ) → slice_get funs i ≡ Some f → (bs : List Atom) (w : World) → run funs N (ToFun i (atom_words env' bs) fr) w ≡ does (run top N) (entered funs enter wc i f bs to hs n) env' sc' Bottom w
  group-enters i there bs w = group-upto N (omega arith) N (omega arith) i f there refl refl (atom_words env' bs) w

enter-if : (funs top : List Fun) (N : ℕ) (c : Bool) (t u : Term) (env' : Env) (sc' : Scope) (w : World) (r : FullOutcome) → (c ≡ true → r ≡ does (run top N) t env' sc' Bottom w) → (c ≡ false → r ≡ does (run top N) u env' sc' Bottom w) → r ≡ does (run top N) (if c then t else u) env' sc' Bottom w
enter-if funs top N true t u env' sc' w r h g = h refl
enter-if funs top N false t u env' sc' w r h g = g refl

pub group-less : (g own : ℕ) → g < suc own → g == own ≡ false → g < own
group-less g own lt e = grind (arith, nat_tests)

enters-same : (funs top : List Fun) (g own : ℕ) → g ≡ own → Enters funs top own (entering funs own) → Enters funs top g (entering funs own)
enters-same funs top g own e h = subst (λ x. Enters funs top x (entering funs own)) (sym e) h

pub entering-alike : (funs top : List Fun) → AreFormed funs → (own : ℕ) → Enters funs top own (entering funs own)
entering-alike funs top formed zero = record { by = λ i f there lt. absurd (omega arith) }
entering-alike funs top formed (suc own) = record {
  by = λ i f there lt N n bs to hs fr env' sc' return_to lto lhs misses zeros w.
      enter-if funs top N (f.group == own) (entered funs (entering funs own) (counts funs own) i f bs to hs n) (entering funs own i f bs to hs n) env' sc' w (run funs N (ToFun i (atom_words env' bs) fr) w)
      (λ e. group-enters funs top formed (entering funs own) (counts funs own) f (enters-same funs top f.group own (eqb-true f.group own e) (entering-alike funs top formed own)) N n to hs fr env' sc' return_to lto lhs misses zeros i there bs w)
      (λ e. (entering-alike funs top formed own).by i f there (group-less f.group own lt e) N n bs to hs fr env' sc' return_to lto lhs misses zeros w);
}

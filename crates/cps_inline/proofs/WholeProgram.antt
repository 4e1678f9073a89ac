-- The one function is a well formed program.
use Rattle.std.proofs.Common.{◌≡◌, ℕ, ◌≤◌, nat_eq, nat_le, ◌<◌, ◌==◌, true, false, ◌&&◌, List, [], ◌∷◌, ◌++◌, length, Some, None, slice_get, if◌then◌else◌, refl, sym, ap, ◌∙◌, arith}
use Rattle.std.specs.List.{list_all}
use Rattle.std.proofs.lemmas.Bool.{and_parts, and_from, or_left, or_right, eq-eqb, false≢true}
use Rattle.std.proofs.lemmas.Bool.Decides.{nat_tests}
use Rattle.std.proofs.lemmas.List.{length-map}
use Rattle.nv_base.specs.declared.term.Atom.TheVariants.{Var}
use Rattle.nv_base.specs.Access.{all_known}
use Rattle.nv_base.specs.Sets.{is_in, all_different}
use Rattle.cps_ir.specs.Formed.{Scoped, scoped, defined, made, is_formed, raised, labels_raised, all_raised, agree, is_function, is_main, is_program}
use Rattle.cps_ir.specs.Term.{Term, Let, Read, Write, If, Fix, Call, Return, Throw, Jump, Halt, Labels, none, label, Fun}
use Rattle.cps_ir.specs.Callless.{only_jumps, labels_only_jump}
use Rattle.cps_inline.specs.inner.Inlined.{behind, operands, entered, entering, counts, inlined_main}
use Rattle.cps_inline.proofs.Names.{differ-both, in-behind, NamesDiffer, AllDiffer, names, names-defined, names-made, entering-named, entered-named, differ-first}
use Rattle.cps_inline.proofs.Told.{words_in, told-all}
use Rattle.cps_inline.proofs.Formed.{FunctionsFormed, entering-formed, entered-formed}
use Rattle.cps_inline.proofs.Jumping.{entering-jumps, entered-jumps}
use Rattle.cps_inline.proofs.Outcomes.{all-at}

-- ---- nothing is thrown

mutual
  raised-none : (ss : Scoped) (t : Term) → only_jumps t ≡ true → raised ss t ≡ []
  raised-none ss (Let x a t) h = raised-none ss t h
  raised-none ss (Read m xs a t) h = raised-none ss t h
  raised-none ss (Write m a bs t) h = raised-none ss t h
  raised-none ss (If c a b t u) h =
      let parts = and_parts (only_jumps t) (only_jumps u) h in ap (λ l. l ++ raised ss u) (raised-none ss t parts.0) ∙ raised-none ss u parts.1
  raised-none ss (Fix ls t) h =
      let parts = and_parts (labels_only_jump ls) (only_jumps t) h in
      ap (λ l. l ++ raised (scoped ls ++ ss) t) (labels-raise-none (scoped ls ++ ss) ls parts.0) ∙ raised-none (scoped ls ++ ss) t parts.1
  raised-none ss (Call f bs k hs) h = absurd (false≢true h)
  raised-none ss (Return bs) h = refl
  raised-none ss (Throw e bs) h = absurd (false≢true h)
  raised-none ss (Jump l bs) h = refl
  raised-none ss (Halt e bs) h = refl

  labels-raise-none : (ss : Scoped) (ls : Labels) → labels_only_jump ls ≡ true → labels_raised ss ls ≡ []
  labels-raise-none ss none h = refl
  labels-raise-none ss (label l xs t ls) h =
      let parts = and_parts (only_jumps t) (labels_only_jump ls) h in ap (λ k. k ++ labels_raised ss ls) (raised-none ss t parts.0) ∙ labels-raise-none ss ls parts.1

-- ---- parameters as operands

operands-known : (xs known : List ℕ) → ((x : ℕ) → is_in x xs ≡ true → is_in x known ≡ true) → all_known known (operands xs) ≡ true
operands-known [] known h = refl
operands-known (x ∷ xs) known h =
    and_from (is_in x known) (all_known known (operands xs)) (h x (or_left (nat_eq x x) (is_in x xs) (eq-eqb x x refl))) (operands-known xs known (λ y i. h y (or_right (nat_eq y x) (is_in y xs) i)))

-- ---- names

vars-of-function : (g : Fun) → all_different (g.params ++ defined g.body) ≡ true → NamesDiffer true g
vars-of-function g h = ap (λ l. all_different (g.params ++ l)) (names-defined g.body) ∙ h

labels-of-function : (g : Fun) → all_different (made g.body) ≡ true → NamesDiffer false g
labels-of-function g h = ap all_different (names-made g.body) ∙ h

all-vars : (funs gs : List Fun) → list_all (is_function funs) gs ≡ true → AllDiffer true gs
all-vars funs [] h = tt
all-vars funs (g ∷ gs) h =
    let parts = and_parts (is_function funs g) (list_all (is_function funs) gs) h in
    let f = and_parts (is_formed funs g.group g.results [] g.params g.body) (all_different (g.params ++ defined g.body) && all_different (made g.body)) parts.0 in
    (vars-of-function g (and_parts (all_different (g.params ++ defined g.body)) (all_different (made g.body)) f.1).0, all-vars funs gs parts.1)

all-labels : (funs gs : List Fun) → list_all (is_function funs) gs ≡ true → AllDiffer false gs
all-labels funs [] h = tt
all-labels funs (g ∷ gs) h =
    let parts = and_parts (is_function funs g) (list_all (is_function funs) gs) h in
    let f = and_parts (is_formed funs g.group g.results [] g.params g.body) (all_different (g.params ++ defined g.body) && all_different (made g.body)) parts.0 in
    (labels-of-function g (and_parts (all_different (g.params ++ defined g.body)) (all_different (made g.body)) f.1).1, all-labels funs gs parts.1)

-- ---- the program

small-at : (f g : Fun) → (if g.group == f.group then nat_le g.results 8 else true) ≡ true → g.group ≡ f.group → nat_le g.results 8 ≡ true
small-at f g h e = ap (λ c. if c then nat_le g.results 8 else true) (sym (eq-eqb g.group f.group e)) ∙ h

pub program-formed : (funs : List Fun) (main : ℕ) (f : Fun) → is_program funs main ≡ true → slice_get funs main ≡ Some f → is_program (inlined_main funs main f ∷ []) 0 ≡ true
program-formed funs main f program there =
    let top = inlined_main funs main f ∷ [] in
    let enter = entering funs f.group in
    let wc = counts funs f.group in
    let n = behind f.params in
    let body = entered funs (entering funs f.group) (counts funs f.group) main f (operands f.params) None [] (behind f.params) in
    let p1 = and_parts (list_all (is_function funs) funs) (agree (all_raised funs) && is_main funs (slice_get funs main)) program in
    let p2 = and_parts (agree (all_raised funs)) (is_main funs (slice_get funs main)) p1.1 in
    let start : is_main funs (Some f) ≡ true = ap (is_main funs) (sym there) ∙ p2.1 in
    let p3 = and_parts (nat_le (length f.params) 8) (list_all (λ g. if g.group == f.group then nat_le g.results 8 else true) funs) start in
    let small : nat_le f.results 8 ≡ true = small-at f f (all-at (λ g. if g.group == f.group then nat_le g.results 8 else true) funs main f p3.1 there) refl in
    let few : f.results ≤ 8 = grind (arith, nat_tests) in
    let words = words_in (all_raised funs) in
    let functions : FunctionsFormed funs words funs = record { formed = p1.0; told = told-all (all_raised funs) p2.0 } in
    let formed : is_formed top 0 f.results [] f.params body ≡ true =
    entered-formed funs top f.results words functions enter wc main f (entering-formed funs top f.results words functions f.group) there n (operands f.params) None [] [] f.params (operands-known f.params f.params (λ x i. i)) (length-map f.params Var) tt (λ e. tt) few (λ e. tt) in
    let vars = entered-named true funs (all-vars funs funs p1.0) wc enter (entering-named true funs (all-vars funs funs p1.0) f.group) main f (operands f.params) None [] n in
    let labels = entered-named false funs (all-labels funs funs p1.0) wc enter (entering-named false funs (all-labels funs funs p1.0) f.group) main f (operands f.params) None [] n in
    let own = (and_parts (is_formed funs f.group f.results [] f.params f.body) (all_different (f.params ++ defined f.body) && all_different (made f.body)) (all-at (is_function funs) funs main f p1.0 there)).1 in
    let params = differ-first f.params (defined f.body) (and_parts (all_different (f.params ++ defined f.body)) (all_different (made f.body)) own).0 in
    let all-vars-differ : all_different (f.params ++ defined body) ≡ true =
    ap (λ l. all_different (f.params ++ l)) (sym (names-defined body)) ∙ differ-both f.params (names true body) params vars.differ (λ x i j. let lt : x < behind f.params = in-behind x f.params i in let le : behind f.params ≤ x = (vars.each x j).0 in absurd (omega arith)) in
    let all-labels-differ : all_different (made body) ≡ true = ap all_different (sym (names-made body)) ∙ labels.differ in
    let jumps : only_jumps body ≡ true = (entered-jumps funs enter (entering-jumps funs f.group) wc).by main f (operands f.params) None [] n in
    and_from (list_all (is_function top) top) (agree (all_raised top) && is_main top (slice_get top 0))
    (and_from (is_function top (inlined_main funs main f)) true
    (and_from (is_formed top 0 f.results [] f.params body) (all_different (f.params ++ defined body) && all_different (made body)) formed
    (and_from (all_different (f.params ++ defined body)) (all_different (made body)) all-vars-differ all-labels-differ)) refl)
    (and_from (agree (all_raised top)) (is_main top (slice_get top 0)) (ap (λ l. agree (l ++ [])) (raised-none [] body jumps))
    (and_from (nat_le (length f.params) 8) (list_all (λ g. if g.group == 0 then nat_le g.results 8 else true) top) p3.0 (and_from (nat_le f.results 8) true small refl)))

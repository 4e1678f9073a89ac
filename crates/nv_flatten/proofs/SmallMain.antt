-- The flat program of a typed one is at most as large as the program's expanded size.
use Rattle.std.proofs.Common.{◌≡◌, ◌∙◌, refl, sym, ap, ℕ, zero, suc, ◌<◌, ◌≤◌, true, List, [], ◌∷◌, append-nil, length, Option, Some, None, arith}
use Rattle.std.specs.Prelude.{slice_get}
use Rattle.std.proofs.lemmas.Option.{same_Some, slice_get_within}
use Rattle.nv_ast.specs.Tree.{FunTree, ProgramTree}
use Rattle.nv_ast.specs.Sizes.{expanded_size}
use Rattle.nv_ast.specs.Faults.{program_faults, main_name}
use Rattle.nv_meaning.specs.Meaning.{function_in}
use Rattle.flat_ir.specs.declared.flat.FlatFun.{FlatFun}
use Rattle.nv_base.specs.Measures.{of_size, IsAtMost}
use Rattle.flat_ir.specs.Bulk.{bulk}
use Rattle.nv_base.specs.Sets.{is_in}
use Rattle.nv_flatten_values.specs.inner.Whole.{whole_of}
use Rattle.flat_ir.specs.Reached.{calls, Reached, itself, called}
use Rattle.nv_flatten_values.specs.inner.Well.{Linked}
use Rattle.nv_flatten_values.specs.inner.Made.{IsComplete}
use Rattle.nv_flatten_values.specs.inner.Small.{AreSmallFuns}
use Rattle.nv_flatten_values.specs.inner.Bounded.{IsBounded}
use Rattle.nv_flatten_values.proofs.Naming.{slice-there}
use Rattle.nv_flatten.proofs.Bodies.{narrow-raised, has-main}
use Rattle.nv_flatten_values.proofs.WellProgram.{calls-formed}
use Rattle.nv_flatten.proofs.FormedProgram.{matched, all-well}
use Rattle.nv_flatten.proofs.SmallProgram.{small-enough-size}
use Rattle.nv_flatten.proofs.Bounding.{IsBoundedMain}

-- ---- another function in place of that of a number
abbrev replaced : ℕ → FlatFun → List FlatFun → List FlatFun
replaced i x [] = []
replaced zero x (f ∷ funs) = x ∷ funs
replaced (suc i) x (f ∷ funs) = f ∷ replaced i x funs

replaced-here : (funs : List FlatFun) (i : ℕ) (x f : FlatFun) → slice_get funs i ≡ Some f → slice_get (replaced i x funs) i ≡ Some x
replaced-here [] i x f e = absurd (cc)
replaced-here (g ∷ funs) zero x f e = refl
replaced-here (g ∷ funs) (suc i) x f e = replaced-here funs i x f e

replaced-other : (funs : List FlatFun) (i j : ℕ) (x : FlatFun) → (j ≡ i → ⊥) → slice_get (replaced i x funs) j ≡ slice_get funs j
replaced-other [] i j x h = refl
replaced-other (g ∷ funs) zero zero x h = absurd (h refl)
replaced-other (g ∷ funs) zero (suc j) x h = refl
replaced-other (g ∷ funs) (suc i) zero x h = refl
replaced-other (g ∷ funs) (suc i) (suc j) x h = replaced-other funs i j x (λ e. h (ap suc e))

-- ---- the name of a number that code calls is that of a function: else its flat function could be any, and the code stays well formed whatever it is
no-function : (o : Option FunTree) (g : FunTree) → o ≡ None → o ≡ Some g → ⊥
no-function o g none found = no (sym none ∙ found)
  where
    no : None ≡ Some g → ⊥
    no h = cc

module _ (t : ProgramTree) (h : program_faults t ≡ []) (funs : List FlatFun) (c : IsComplete (whole_of t) main_name funs) where
  abbrev linked_without : (i : ℕ) (f : List ℕ) (x : FlatFun) → slice_get c.all i ≡ Some f → function_in (whole_of t).declared.functions f ≡ None → Linked (whole_of t) c.all
  linked_without i f x named none = record {
    all = c.all;
    more = ([], sym (append-nil c.all));
    funs = replaced i x funs;
    match = record {
      found = λ j y g n there found at.
          let r = (matched (whole_of t) main_name funs c).found j y g n there found at in
          record {
            fun = r.fun;
            there = replaced-other funs i j x (λ same. no-function (function_in (whole_of t).declared.functions y) g (ap (function_in (whole_of t).declared.functions) (same_Some _ _ (sym there ∙ ap (slice_get c.all) same ∙ named)) ∙ none) found) ∙ r.there;
            params = r.params;
            results = r.results;
            group = r.group;
          };
    };
    short = narrow-raised t h;
  }

  not-called : (i : ℕ) (f : List ℕ) (fun : FlatFun) → slice_get c.all i ≡ Some f → slice_get funs i ≡ Some fun → function_in (whole_of t).declared.functions f ≡ None
      → (k : ℕ) (d : FlatFun) → slice_get funs k ≡ Some d → is_in i (calls d.body) ≡ true → ⊥
  not-called i f fun named here none k d there calling =
      let late : FlatFun = record fun { group = suc d.group } in
      let l = linked_without i f late named none in
      let formed = (all-well t h main_name funs c k d there).formed l in
      let before = calls-formed (replaced i late funs) d.group true d.results d.params.items d.body i late (replaced-here funs i late fun here) formed calling in
      let a : suc d.group ≤ d.group = before.0 in
      absurd (omega arith)

  -- a flat function is made of a function of the program
  has-function : (i : ℕ) (f : List ℕ) (fun : FlatFun) → slice_get c.all i ≡ Some f → slice_get funs i ≡ Some fun → Reached funs 0 i → (g : FunTree) × (function_in (whole_of t).declared.functions f ≡ Some g)
  has-function i f fun named here itself = let m = has-main t h in (m.fun, ap (function_in (whole_of t).declared.functions) (same_Some _ _ (sym named ∙ c.first)) ∙ m.found)
  has-function i f fun named here (called k j d reached there calling) = by (function_in (whole_of t).declared.functions f) refl
    where
      by : (o : Option FunTree) → function_in (whole_of t).declared.functions f ≡ o → (g : FunTree) × (function_in (whole_of t).declared.functions f ≡ Some g)
      by (Some g) q = (g, q)
      by None q = absurd (not-called i f fun named here q k d there calling)

small-funs : (t : ProgramTree) → program_faults t ≡ [] → (funs : List FlatFun) (b : IsBounded (whole_of t) main_name funs) → AreSmallFuns (whole_of t) b.complete.all funs
small-funs t h funs b = record {
  by = λ i fun there.
      let c = b.complete in
      let below : i < length funs = slice_get_within funs i fun there in
      let many : length funs ≤ length c.all = c.many in
      let name = slice-there c.all i (omega arith) in
      let g = has-function t h funs c i name.0 fun name.1 there (c.reached i below) in
      (name.0, g.0, name.1, g.1, b.small.by i name.0 g.0 fun name.1 g.1 there);
  once = b.once;
}

-- ---- the program
pub bulk-of : (t : ProgramTree) → program_faults t ≡ [] → expanded_size t ≤ 4096 → (funs : List FlatFun) → IsBoundedMain t funs → IsAtMost (bulk funs 0) (of_size (expanded_size t))
bulk-of t h few funs bounded =
    let m = has-main t h in
    let b = bounded m.fun m.found in
    small-enough-size t h few b.complete.all funs b.complete.first (small-funs t h funs b)

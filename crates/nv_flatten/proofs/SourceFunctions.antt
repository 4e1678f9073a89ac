-- Each flat function is that of a function of the program: what is called is there.
use Rattle.std.proofs.Common.{◌≡◌, ◌∙◌, refl, sym, ap, subst, ℕ, zero, suc, ◌<◌, ◌≤◌, true, List, [], ◌∷◌, length, append-nil, Option, Some, None, arith}
use Rattle.std.specs.Prelude.{slice_get}
use Rattle.std.proofs.lemmas.Option.{none-some, same_Some, slice_get_within}
use Rattle.nv_ast.specs.Faults.{main_name, program_faults}
use Rattle.nv_ast.specs.Tree.{FunTree, ProgramTree}
use Rattle.nv_meaning.specs.Meaning.{function_in}
use Rattle.flat_ir.specs.declared.flat.FlatFun.{FlatFun}
use Rattle.flat_ir.specs.Reached.{Reached, itself, called}
use Rattle.nv_flatten_values.specs.inner.Made.{IsMade, IsComplete}
use Rattle.nv_flatten_values.specs.inner.Simulation.{Names}
use Rattle.nv_flatten_values.specs.inner.Well.{FunsMatch, Linked}
use Rattle.nv_flatten_values.specs.inner.Whole.{Whole, whole_of}
use Rattle.nv_flatten_values.proofs.Naming.{slice-there}
use Rattle.nv_flatten_values.proofs.WellProgram.{AreFound, calls-formed}
use Rattle.nv_flatten.specs.Functions.{IsFunctionOf, AreFunctionsOf, AreCalledBefore}
use Rattle.nv_flatten.proofs.Bodies.{bodies, has-main, narrow-raised}
use Rattle.nv_flatten.proofs.Bounding.{IsBoundedMain}
use Rattle.nv_flatten.proofs.FormedProgram.{matched, all-well}

-- ---- another function in the place of one
abbrev put_at : List FlatFun → ℕ → FlatFun → List FlatFun
put_at [] i f = []
put_at (x ∷ xs) zero f = f ∷ xs
put_at (x ∷ xs) (suc i) f = x ∷ put_at xs i f

put-here : (xs : List FlatFun) (i : ℕ) (f : FlatFun) → i < length xs → slice_get (put_at xs i f) i ≡ Some f
put-here [] i f h = absurd (omega arith)
put-here (x ∷ xs) zero f h = refl
put-here (x ∷ xs) (suc i) f h = put-here xs i f (omega arith)

put-other : (xs : List FlatFun) (i j : ℕ) (f : FlatFun) → (j ≡ i → ⊥) → slice_get (put_at xs i f) j ≡ slice_get xs j
put-other [] i j f h = refl
put-other (x ∷ xs) zero zero f h = absurd (h refl)
put-other (x ∷ xs) zero (suc j) f h = refl
put-other (x ∷ xs) (suc i) zero f h = refl
put-other (x ∷ xs) (suc i) (suc j) f h = put-other xs i j f (λ e. h (ap suc e))

-- where a name has no function, any may stand under its number
put-match : (w : Whole) (all : Names) (funs : List FlatFun) (i : ℕ) (x : List ℕ) (f : FlatFun) → slice_get all i ≡ Some x → function_in w.declared.functions x ≡ None → FunsMatch w all funs → FunsMatch w all (put_at funs i f)
put-match w all funs i x f named none match = record {
  found = λ j y g n at found group.
      let r = match.found j y g n at found group in
      record { fun = r.fun; there = put-other funs i j f (other j y g at found) ∙ r.there; params = r.params; results = r.results; group = r.group };
}
  where
    other : (j : ℕ) (y : List ℕ) (g : FunTree) → slice_get all j ≡ Some y → function_in w.declared.functions y ≡ Some g → j ≡ i → ⊥
    other j y g at found e =
        let same : x ≡ y = same_Some x y (sym named ∙ ap (slice_get all) (sym e) ∙ at) in
        none-some g (sym none ∙ ap (function_in w.declared.functions) same ∙ found)

-- what is called has a function: code that calls a number without one isn't well formed with a function of a later group under it
called-found : (t : ProgramTree) → program_faults t ≡ [] → (funs : List FlatFun) (c : IsComplete (whole_of t) main_name funs) (i : ℕ) (x : List ℕ) → i < length funs → slice_get c.all i ≡ Some x → function_in (whole_of t).declared.functions x ≡ None → Reached funs 0 i → ⊥
called-found t h funs c i x below named none itself =
    let m = has-main t h in
    let same : x ≡ main_name = same_Some x main_name (sym named ∙ c.first) in
    none-some m.fun (sym none ∙ ap (function_in (whole_of t).declared.functions) same ∙ m.found)
called-found t h funs c i x below named none (called k j f reached there calling) =
    let later : FlatFun = record f { group = suc f.group } in
    let l : Linked (whole_of t) c.all = record {
      all = c.all;
      more = ([], sym (append-nil c.all));
      funs = put_at funs i later;
      match = put-match (whole_of t) c.all funs i x later named none (matched (whole_of t) main_name funs c);
      short = narrow-raised t h;
    } in
    let r = calls-formed (put_at funs i later) f.group true f.results f.params.items f.body i later (put-here funs i later below) ((all-well t h main_name funs c k f there).formed l) calling in
    let le : suc f.group ≤ f.group = r.0 in
    omega arith

each-found : (t : ProgramTree) → program_faults t ≡ [] → (funs : List FlatFun) (c : IsComplete (whole_of t) main_name funs) (i : ℕ) (fun : FlatFun) → slice_get funs i ≡ Some fun → IsFunctionOf (whole_of t) c.all i fun
each-found t h funs c i fun here = by (function_in (whole_of t).declared.functions name.0) refl
  where
    below : i < length funs
    below = slice_get_within funs i fun here

    name : (x : List ℕ) × (slice_get c.all i ≡ Some x)
    name = let few : i < length funs = below in let many : length funs ≤ length c.all = c.many in slice-there c.all i (omega arith)

    by : (o : Option FunTree) → function_in (whole_of t).declared.functions name.0 ≡ o → IsFunctionOf (whole_of t) c.all i fun
    by None q = absurd (called-found t h funs c i name.0 below name.1 q (c.reached i below))
    by (Some g) q =
        let r = c.made.by i name.0 g name.1 q in
        let same : r.0 ≡ fun = same_Some _ _ (sym r.1 ∙ here) in
        let b = bodies t h name.0 g q in
        record {
          name = name.0;
          named = name.1;
          source = g;
          found = q;
          made = subst (IsMade (whole_of t) c.all g) same r.2;
          group = b.grouped ∙ ap (λ n. Some n) (sym ((c.placed.by i name.0 fun name.1 here).group g b.own q b.grouped));
        }

pub source-functions : (t : ProgramTree) → program_faults t ≡ [] → (funs : List FlatFun) → IsBoundedMain t funs → AreFunctionsOf t funs
source-functions t h funs bounded =
    let m = has-main t h in
    let b = bounded m.fun m.found in
    record { names = b.complete.all; first = b.complete.first; once = b.once; each = each-found t h funs b.complete }

-- ---- each but the first was added for a call
pub called-before : (names : Names) (funs : List FlatFun) → length funs ≤ length names → AreFound names funs → AreCalledBefore funs
called-before names funs few found = λ i lo hi. found.by i lo (omega arith)

-- How wide and how large flat functions are, one after another.
use Rattle.std.proofs.Common.{◌≡◌, ◌∙◌, sym, ap, subst, ℕ, ◌<◌, ◌≤◌, List, [], ◌∷◌, ◌++◌, length, Option, Some, None, append-nil, arith, inl, inr}
use Rattle.std.specs.Prelude.{slice_get}
use Rattle.std.proofs.lemmas.Bool.{cases_lt}
use Rattle.std.proofs.lemmas.Slice.Eq.{bytes_eq-Decides}
use Rattle.std.proofs.lemmas.Option.{same_Some, slice_get_within}
use Rattle.nv_ast.specs.Tree.{FunTree, NamedTypes, ProgramTree}
use Rattle.nv_ast.specs.Types.{named_types_of, total_named_words}
use Rattle.nv_ast.specs.Faults.{main_name, program_faults}
use Rattle.nv_ast.specs.Sizes.{room}
use Rattle.nv_meaning.specs.Meaning.{function_in}
use Rattle.flat_ir.specs.declared.flat.FlatFun.{FlatFun}
use Rattle.flat_ir.specs.Wide.{wide}
use Rattle.nv_flatten_values.specs.inner.Symbols.{Symbol, SymbolScope, named_fresh, params_bound}
use Rattle.nv_flatten_values.specs.inner.Whole.{Whole, whole_of, group_of}
use Rattle.nv_flatten_values.specs.inner.Simulation.{Names, Extends}
use Rattle.flat_ir.specs.Reached.{calls}
use Rattle.nv_flatten_values.specs.inner.Well.{AreCalled}
use Rattle.nv_flatten_values.specs.inner.Made.{IsMade, IsPlaced, entry, params_in}
use Rattle.nv_flatten_values.specs.inner.Narrow.{IsNarrowEnd, IsNarrowFun, IsEmptyFun, IsNarrowOf, AreNarrowFuns}
use Rattle.nv_flatten_values.specs.inner.Small.{IsSmallEnd, IsSmallFun}
use Rattle.nv_flatten_values.specs.inner.Bounded.{AreOnce, AreSmallFound, IsBounded}
use Rattle.nv_flatten_values.proofs.Fresh.{numbers-length}
use Rattle.nv_flatten.proofs.Knowing.{function-named}
use Rattle.nv_flatten_values.proofs.Naming.{Added, MadeSoFar, made-first, made-more, all-made, slice-last, slice-there}
use Rattle.nv_flatten_values.proofs.WellProgram.{found-reached}
use Rattle.nv_flatten.proofs.Bodies.{has-main}
use Rattle.nv_flatten.proofs.NarrowFuns.{funs-none, funs-more}
use Rattle.nv_flatten.proofs.NarrowProgram.{wide-enough}
use Rattle.nv_flatten_values.proofs.CallArms.{get-append}
use Rattle.nv_flatten_values.proofs.Keeping.{extends-then}

-- ---- the functions that are made so far
pub record BoundedSoFar (w : Whole) (main : List ℕ) (names : Names) (funs : List FlatFun) : Type 0 where
  pub made : MadeSoFar w main names funs
  pub narrow : AreNarrowFuns w names funs
  pub small : AreSmallFound w names funs

small-names : (w : Whole) (names new : Names) (f : List ℕ) (g : FunTree) (fun : FlatFun) → Extends names new → IsSmallFun w names f g fun → IsSmallFun w new f g fun
small-names w names new f g fun more m = record { names = m.names; more = extends-then m.names names new m.more more; group = m.group; form = m.form; end = m.end }

small-first : (w : Whole) (names : Names) → AreSmallFound w names []
small-first w names = record { by = λ i f g fun named found e. absurd (none-at i fun e) }
  where
    none-at : (i : ℕ) (fun : FlatFun) → slice_get {X = FlatFun} [] i ≡ Some fun → ⊥
    none-at i fun e = cc

small-one : (w : Whole) (name : List ℕ) (names new : Names) (funs : List FlatFun) (fun : FlatFun) → slice_get names (length funs) ≡ Some name → Extends names new
    → ((g : FunTree) → function_in w.declared.functions name ≡ Some g → IsSmallFun w new name g fun) → AreSmallFound w names funs → AreSmallFound w new (funs ++ fun ∷ [])
small-one w name names new funs fun named more small so = record {
  by = λ i f g d called found there.
      let inside : length funs < length names = slice_get_within names (length funs) name named in
      let s = slice-last funs fun i d there in
      let p : i ≤ length funs = s.place in
      let r = slice-there names i (omega arith) in
      let same : r.0 ≡ f = same_Some _ _ (sym (ap (λ l. slice_get l i) more.1 ∙ get-append names more.0 i r.0 r.1) ∙ called) in
      let named' : slice_get names i ≡ Some f = r.1 ∙ ap (λ x. Some x) same in
      elim (cases_lt i (length funs)) [
        | inl below ↦ small-names w names new f g d more (so.by i f g d named' found (s.before below))
        | inr past ↦ (
            let here : i ≡ length funs = omega arith in
            let is : name ≡ f = same_Some _ _ (sym named ∙ ap (slice_get names) (sym here) ∙ named') in
            subst (λ x. IsSmallFun w new f g x) (sym (s.here here)) (subst (λ x. IsSmallFun w new x g fun) is (small g (ap (function_in w.declared.functions) is ∙ found))))
      ];
}

pub bounded-first : (w : Whole) (main : List ℕ) (names new : Names) (i : ℕ) (funs : List FlatFun) → names ≡ [] → Added names new main → slice_get new i ≡ Some main → funs ≡ [] → BoundedSoFar w main new funs
bounded-first w main names new i funs none added there empty = record {
  made = made-first w main names new i funs none added there empty;
  narrow = subst (AreNarrowFuns w new) (sym empty) (funs-none w new);
  small = subst (AreSmallFound w new) (sym empty) (small-first w new);
}

-- one function more
pub bounded-more : (w : Whole) (main name : List ℕ) (names new : Names) (funs funs' : List FlatFun) (fun : FlatFun) → BoundedSoFar w main names funs → slice_get names (length funs) ≡ Some name → Extends names new
    → ((g : FunTree) → function_in w.declared.functions name ≡ Some g → IsMade w new g fun) → IsPlaced w name fun → AreCalled names new (calls fun.body)
    → IsNarrowOf w new name (function_in w.declared.functions name) fun → ((g : FunTree) → function_in w.declared.functions name ≡ Some g → IsSmallFun w new name g fun) → funs' ≡ funs ++ fun ∷ [] → BoundedSoFar w main new funs'
bounded-more w main name names new funs funs' fun so named more made placed calling narrow small pushed = record {
  made = made-more w main name names new funs funs' fun so.made named more made placed calling pushed;
  narrow = subst (AreNarrowFuns w new) (sym pushed) (funs-more w names new funs name fun more so.narrow named narrow);
  small = subst (AreSmallFound w new) (sym pushed) (small-one w name names new funs fun named more small so.small);
}

-- none is left
pub bounded-all : (w : Whole) (main : List ℕ) (names : Names) (funs : List FlatFun) → BoundedSoFar w main names funs → slice_get names (length funs) ≡ None → AreOnce names → IsBounded w main funs
bounded-all w main names funs so none once = record {
  complete = record {
    all = names;
    first = so.made.first;
    made = all-made w main names funs so.made none;
    many = so.made.few;
    placed = so.made.placed;
    reached = found-reached names funs so.made.few so.made.found;
  };
  once = once;
  narrow = so.narrow;
  small = so.small;
}

pub bounded-found : (w : Whole) (name : List ℕ) (f : FunTree) (funs : List FlatFun) → function_in w.declared.functions name ≡ Some f → IsBounded w f.name funs → IsBounded w name funs
bounded-found w name f funs found c = subst (λ x. IsBounded w x funs) (sym ((bytes_eq-Decides name f.name).0 (function-named w.declared.functions name f found))) c

pub bounded-main : (w v : Whole) (x : List ℕ) (funs : List FlatFun) → w ≡ v → x ≡ main_name → ((g : FunTree) → function_in w.declared.functions x ≡ Some g → IsBounded w x funs)
    → (g : FunTree) → function_in v.declared.functions main_name ≡ Some g → IsBounded v main_name funs
bounded-main w v x funs e f h =
    subst (λ y. (g : FunTree) → function_in v.declared.functions y ≡ Some g → IsBounded v y funs) f
    (subst (λ u. (g : FunTree) → function_in u.declared.functions x ≡ Some g → IsBounded u x funs) e h)

-- ---- one function
entered : (w : Whole) (g : FunTree) (types : NamedTypes) (scope : SymbolScope) → types ≡ g.params → scope ≡ params_bound (named_fresh 0 (named_types_of w.declared.layouts types)) [] → scope ≡ entry w g
entered w g types scope same is = is ∙ ap (λ ts. params_bound (named_fresh 0 (named_types_of w.declared.layouts ts)) []) same

pub narrow-made : (w : Whole) (names : Names) (x : List ℕ) (group : ℕ) (g : FunTree) (fun : FlatFun) (types : NamedTypes) (scope : SymbolScope) → types ≡ g.params → scope ≡ params_bound (named_fresh 0 (named_types_of w.declared.layouts types)) []
    → fun.group ≡ group → group_of w x ≡ Some group → IsMade w names g fun → IsNarrowEnd w names scope g.body fun.body → IsNarrowFun w names x g fun
narrow-made w names x group g fun types scope same is grouped placed m end = record {
  names = names;
  more = ([], sym (append-nil names));
  group = placed ∙ ap (λ n. Some n) (sym grouped);
  params = ap length m.params ∙ numbers-length 0 (total_named_words (params_in w g));
  results = m.results;
  end = subst (λ s. IsNarrowEnd w names s g.body fun.body) (entered w g types scope same is) end;
}

pub small-made : (w : Whole) (names : Names) (x : List ℕ) (group : ℕ) (g : FunTree) (fun : FlatFun) (types : NamedTypes) (scope : SymbolScope) (form : Option Symbol) → types ≡ g.params → scope ≡ params_bound (named_fresh 0 (named_types_of w.declared.layouts types)) []
    → fun.group ≡ group → group_of w x ≡ Some group → IsSmallEnd w names scope g.body fun.body form → IsSmallFun w names x g fun
small-made w names x group g fun types scope form same is grouped placed end = record {
  names = names;
  more = ([], sym (append-nil names));
  group = placed ∙ ap (λ n. Some n) (sym grouped);
  form = form;
  end = subst (λ s. IsSmallEnd w names s g.body fun.body form) (entered w g types scope same is) end;
}

-- a function that isn't there
pub empty-made : (w : Whole) (names : Names) (x : List ℕ) (o : Option FunTree) (fun : FlatFun) → o ≡ None → IsEmptyFun fun → IsNarrowOf w names x o fun
empty-made w names x None fun none e = e
empty-made w names x (Some g) fun none e = absurd (cc)

-- the function that was found is the one that is made
pub small-found : (w : Whole) (name : List ℕ) (names : Names) (f g : FunTree) (fun : FlatFun) → function_in w.declared.functions name ≡ Some f → IsSmallFun w names name f fun → function_in w.declared.functions name ≡ Some g → IsSmallFun w names name g fun
small-found w name names f g fun found m e = subst (λ d. IsSmallFun w names name d fun) (same_Some _ _ (sym found ∙ e)) m

pub narrow-found : (w : Whole) (name : List ℕ) (names : Names) (f : FunTree) (fun : FlatFun) → function_in w.declared.functions name ≡ Some f → IsNarrowFun w names name f fun → IsNarrowOf w names name (function_in w.declared.functions name) fun
narrow-found w name names f fun found m = subst (λ o. IsNarrowOf w names name o fun) (sym found) m

-- ---- the program
abbrev pub IsBoundedMain : ProgramTree → List FlatFun → Type 0
IsBoundedMain t funs = (g : FunTree) → function_in (whole_of t).declared.functions main_name ≡ Some g → IsBounded (whole_of t) main_name funs

pub wide-of : (t : ProgramTree) → program_faults t ≡ [] → (funs : List FlatFun) → IsBoundedMain t funs → wide funs 0 ≤ room t
wide-of t h funs bounded =
    let m = has-main t h in
    let b = bounded m.fun m.found in
    wide-enough t h b.complete.all funs b.complete.first b.narrow

-- The flat program of a typed one is at most as wide as the program's room.
use Rattle.std.proofs.Common.{◌≡◌, ◌∙◌, refl, sym, ap, subst, ℕ, ◌+◌, ◌≤◌, max, true, List, [], ◌∷◌, ◌++◌, length, Option, Some, None, bytes_eq, arith}
use Rattle.std.specs.Prelude.{slice_get}
use Rattle.std.proofs.lemmas.Bool.{ltb-true}
use Rattle.std.proofs.lemmas.Option.{same_Some}
use Rattle.nv_ast.specs.Tests.{value_at}
use Rattle.nv_ast.specs.Tree.{FunTree, ProgramTree}
use Rattle.nv_ast.specs.Types.{RecordTy, NamedTys, words, total_named_words, named_types_of, type_of}
use Rattle.nv_ast.specs.Sizes.{param_words, body_vars, need, needs_behind, room, variables}
use Rattle.nv_ast.specs.Scope.{Context, nothing_known, param_vars}
use Rattle.nv_ast.specs.Faults.{Expected, same_as, main_name, program_faults}
use Rattle.nv_meaning.specs.Meaning.{function_in}
use Rattle.flat_ir.specs.declared.flat.FlatFun.{FlatFun}
use Rattle.nv_base.specs.Sets.{different, all_vars}
use Rattle.nv_base.specs.Measures.{operands_wide}
use Rattle.flat_ir.specs.Wide.{Widths, code_wide, function_wide, wide, main_wide, AreWidths}
use Rattle.nv_base.proofs.Sets.{different-length}
use Rattle.flat_ir.proofs.Widths.{main-bounded}
use Rattle.nv_flatten_values.specs.inner.Symbols.{NamedSymbols, no_named_symbols, named_symbol_and, SymbolScope, operands, named_operands, named_fresh, symbol_in, params_bound}
use Rattle.nv_flatten_values.specs.inner.Whole.{Whole, whole_of, group_of, Stands}
use Rattle.nv_flatten_values.specs.inner.Simulation.{Names}
use Rattle.nv_flatten_values.specs.inner.Made.{params_in, entry}
use Rattle.nv_flatten_values.specs.inner.Narrow.{IsWithin, written, NarrowCode, CallsNarrow, Room, IsNarrowFun, IsEmptyFun, IsNarrowOf, AreNarrowFuns}
use Rattle.nv_flatten_values.proofs.Fresh.{fresh-form}
use Rattle.nv_flatten.proofs.Entering.{params-types}
use Rattle.nv_flatten.proofs.Bodies.{has-main}
use Rattle.nv_flatten_values.proofs.Within.{itself, of-none, one, both, unions, together, through, behind-same, at-most, all-vars-append, vars-length}
use Rattle.nv_flatten_values.proofs.NarrowFacts.{words-of-named, need-least}
use Rattle.nv_flatten.proofs.NarrowNeeds.{IsNeeded, need_of_group, needed, need-of}
use Rattle.nv_flatten.proofs.Bound.{choice-of}

-- ---- the variables in scope where a body begins are those of the parameters

abbrev at_name : SymbolScope → List ℕ → List ℕ
at_name scope x = all_vars (operands (symbol_in scope x))

param-name : (ss : NamedSymbols) (scope : SymbolScope) (x : List ℕ) → IsWithin (at_name (params_bound ss scope) x) (all_vars (named_operands ss) ++ at_name scope x)
param-name no_named_symbols scope x = itself
param-name (named_symbol_and y s ss) scope x =
    let a = all_vars (operands s) in
    let b = all_vars (named_operands ss) in
    let c = at_name scope x in
    subst (λ l. IsWithin (at_name (params_bound ss ((y, s) ∷ scope)) x) (l ++ c)) (sym (all-vars-append (operands s) (named_operands ss)))
    (through (param-name ss ((y, s) ∷ scope) x)
    (through (behind-same b (at_name ((y, s) ∷ scope) x) (a ++ c) (choice-of (bytes_eq x y) s (symbol_in scope x))) (unions (a ∷ b ∷ c ∷ []) (both (one 1) (both (one 0) (one 2))) (both (both (one 0) (one 1)) (one 2)) refl)))

param-names : (ss : NamedSymbols) (names : List (List ℕ)) → IsWithin (written (params_bound ss []) names) (all_vars (named_operands ss))
param-names ss [] = of-none (all_vars (named_operands ss))
param-names ss (x ∷ names) =
    let a = all_vars (named_operands ss) in
    together (at_name (params_bound ss []) x) (written (params_bound ss []) names) a (through (param-name ss [] x) (together a [] a itself (of-none a))) (param-names ss names)

params-words : (ts : NamedTys) → length (named_operands (named_fresh 0 ts)) ≡ total_named_words ts
params-words ts = words-of-named (named_fresh 0 ts) ∙ ap words (fresh-form 0 (RecordTy ts))

params-wide : (w : Whole) (g : FunTree) (names : List (List ℕ)) → different (written (entry w g) names) ≤ total_named_words (params_in w g)
params-wide w g names =
    let ss = named_fresh 0 (params_in w g) in
    omega (arith, at-most (written (entry w g) names) (all_vars (named_operands ss)) (param-names ss names), different-length (all_vars (named_operands ss)), vars-length (named_operands ss), params-words (params_in w g))

-- ---- functions

-- at least 1, so that what gives nothing fits
abbrev widths_of : ProgramTree → Widths
widths_of t i = max 1 (need_of_group t i)

-- a function that is there has a need of at least 2
need-there : (t : ProgramTree) → program_faults t ≡ [] → (f : List ℕ) (g : FunTree) (m : ℕ) → function_in (whole_of t).declared.functions f ≡ Some g → group_of (whole_of t) f ≡ Some m → 2 ≤ need_of_group t m
need-there t h f g m found grouped =
    let n = needed t h f g found in
    let least = need-least n.needs n.known (body_vars n.known g) g.body in
    let enough = n.enough in
    let some : 2 ≤ need_of_group t n.own = omega arith in
    subst (λ i. 2 ≤ need_of_group t i) (same_Some _ _ (sym n.grouped ∙ grouped)) some

module _ (t : ProgramTree) (h : program_faults t ≡ []) (all : Names) (funs : List FlatFun) (made : AreNarrowFuns (whole_of t) all funs) where
  -- the flat function of a function's number
  made-of : (i : ℕ) (f : List ℕ) (g : FunTree) (fun : FlatFun) → slice_get all i ≡ Some f → function_in (whole_of t).declared.functions f ≡ Some g → slice_get funs i ≡ Some fun → IsNarrowFun (whole_of t) all f g fun
  made-of i f g fun named found there =
      let r = made.by i fun there in
      let same : r.0 ≡ f = same_Some _ _ (sym r.1 ∙ named) in
      let at : IsNarrowOf (whole_of t) all f (function_in (whole_of t).declared.functions f) fun = subst (λ x. IsNarrowOf (whole_of t) all x (function_in (whole_of t).declared.functions x) fun) same r.2 in
      subst (λ o. IsNarrowOf (whole_of t) all f o fun) found at

  calls-narrow : (f : List ℕ) (g : FunTree) (n : IsNeeded (whole_of t) (need_of_group t) f g) → CallsNarrow (whole_of t) all n.own n.needs funs (widths_of t)
  calls-narrow f g n = record {
    results = λ i x d fun named found there. (made-of i x d fun named found there).results;
    earlier = λ i x d fun named found there before.
        let m = made-of i x d fun named found there in
        let le : need_of_group t fun.group ≤ value_at 0 x n.needs = n.earlier x d fun.group found m.group (ltb-true fun.group n.own before) in
        let some : 2 ≤ need_of_group t fun.group = need-there t h x d fun.group found m.group in
        omega arith;
  }

  body-wide : (f : List ℕ) (g : FunTree) (fun : FlatFun) → function_in (whole_of t).declared.functions f ≡ Some g → IsNarrowFun (whole_of t) all f g fun → function_wide funs (widths_of t) fun ≤ widths_of t fun.group
  body-wide f g fun found m =
      let w = whole_of t in
      let n = needed t h f g found in
      let own : n.own ≡ fun.group = same_Some _ _ (sym n.grouped ∙ m.group) in
      let p : Context = record { known = n.known; vars = param_vars (named_types_of n.known.layouts g.params) []; tail = true } in
      let wanted : Expected = same_as (Some (type_of n.known.layouts g.result)) in
      let stands : Stands w n.own (entry w g) p = record { part = n.part; vars = ap (λ ts. param_vars ts []) n.params ∙ sym (params-types 0 (params_in w g) []) } in
      let c : Room w m.names = record { own = n.own; needs = n.needs; all = all; more = m.more; funs = funs; widths = widths_of t; calls = calls-narrow f g n } in
      let code : NarrowCode funs (widths_of t) n.own fun.body (written (entry w g) (variables g.body)) (written (entry w g) (variables g.body)) (need n.needs n.known (body_vars n.known g) g.body) = m.end.by c p wanted stands n.none in
      let names = params-wide w g (variables g.body) in
      let many : param_words n.known g ≡ total_named_words (params_in w g) = ap total_named_words n.params in
      let least = need-least n.needs n.known (body_vars n.known g) g.body in
      let enough : param_words n.known g + need n.needs n.known (body_vars n.known g) g.body ≤ need_of_group t n.own = n.enough in
      let inside : code_wide funs (widths_of t) n.own [] fun.body ≤ need_of_group t n.own = code.narrow [] (need_of_group t n.own) (omega arith) in
      let params = m.params in
      let top : need_of_group t n.own ≡ need_of_group t fun.group = ap (need_of_group t) own in
      let inside' : code_wide funs (widths_of t) fun.group [] fun.body ≤ need_of_group t n.own = subst (λ i. code_wide funs (widths_of t) i [] fun.body ≤ need_of_group t n.own) own inside in
      omega arith

  empty-wide : (fun : FlatFun) → IsEmptyFun fun → function_wide funs (widths_of t) fun ≤ widths_of t fun.group
  empty-wide fun e =
      let params : length fun.params.items ≡ 0 = ap length e.params in
      let bs = e.body.0 in
      let code : code_wide funs (widths_of t) fun.group [] fun.body ≡ 0 =
      ap (code_wide funs (widths_of t) fun.group []) e.body.1 ∙ ap (operands_wide []) e.body.2 in
      omega arith

  each-wide : (i : ℕ) (f : List ℕ) (fun : FlatFun) (o : Option FunTree) → function_in (whole_of t).declared.functions f ≡ o → IsNarrowOf (whole_of t) all f o fun → function_wide funs (widths_of t) fun ≤ widths_of t fun.group
  each-wide i f fun (Some g) found m = body-wide f g fun found m
  each-wide i f fun None found e = empty-wide fun e

  are-widths : AreWidths funs (widths_of t)
  are-widths = record { by = λ i fun there. let r = made.by i fun there in each-wide i r.0 fun (function_in (whole_of t).declared.functions r.0) refl r.2 }

  -- main is number 0
  main-narrow : slice_get all 0 ≡ Some main_name → (g : FunTree) → function_in (whole_of t).declared.functions main_name ≡ Some g → (o : Option FlatFun) → slice_get funs 0 ≡ o → main_wide funs o ≤ room t
  main-narrow named g found None there = omega arith
  main-narrow named g found (Some fun) there =
      let m = made-of 0 main_name g fun named found there in
      let bound : wide funs 0 ≤ widths_of t fun.group = main-bounded funs (widths_of t) 0 fun are-widths there in
      let same : wide funs 0 ≡ main_wide funs (Some fun) = ap (main_wide funs) there in
      let all-needs : value_at 0 main_name (needs_behind [] nothing_known t.decls) ≡ need_of_group t fun.group = need-of t h main_name g found fun.group m.group in
      let some : 2 ≤ need_of_group t fun.group = need-there t h main_name g fun.group found m.group in
      omega arith

-- the widest place of the flat program is at most the room
pub wide-enough : (t : ProgramTree) → program_faults t ≡ [] → (all : Names) (funs : List FlatFun) → slice_get all 0 ≡ Some main_name → AreNarrowFuns (whole_of t) all funs → wide funs 0 ≤ room t
wide-enough t h all funs named made = let m = has-main t h in main-narrow t h all funs made named m.fun m.found (slice_get funs 0) refl

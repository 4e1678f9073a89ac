-- The flat program of a typed one has at most the bulk of the program's expanded size.
use Rattle.std.proofs.Common.{◌≡◌, ◌∙◌, refl, sym, ap, subst, ℕ, ◌+◌, ◌≤◌, min, true, List, [], Option, Some, None, arith}
use Rattle.std.specs.Prelude.{slice_get}
use Rattle.std.proofs.lemmas.Bool.{ltb-true}
use Rattle.std.proofs.lemmas.Option.{same_Some}
use Rattle.nv_ast.specs.Tests.{value_at}
use Rattle.nv_ast.specs.Tree.{FunTree, ProgramTree}
use Rattle.nv_ast.specs.Types.{words, named_types_of, type_of}
use Rattle.nv_ast.specs.Sizes.{param_words, body_vars, expanded, group_size, sizes_behind, expanded_size}
use Rattle.nv_ast.specs.Scope.{Context, nothing_known, param_vars}
use Rattle.nv_ast.specs.Faults.{Expected, same_as, main_name, program_faults}
use Rattle.nv_meaning.specs.Meaning.{function_in}
use Rattle.flat_ir.specs.declared.flat.FlatFun.{FlatFun}
use Rattle.nv_base.specs.Measures.{a_label, a_jump, both, IsAtMost, of_size}
use Rattle.flat_ir.specs.Bulk.{Bulks, code_bulk, function_bulk, sum_bulk, main_bulk, bulk, AreBulks}
use Rattle.nv_base.proofs.Measures.{most-trans}
use Rattle.flat_ir.proofs.Bulks.{main-bounded}
use Rattle.nv_flatten_values.specs.inner.Code.{form_or_unit}
use Rattle.nv_flatten_values.specs.inner.Whole.{whole_of, group_of, Stands}
use Rattle.nv_flatten_values.specs.inner.Simulation.{Names}
use Rattle.nv_flatten_values.specs.inner.Made.{params_in, entry}
use Rattle.nv_flatten_values.specs.inner.Small.{of_parts, uses, CallsSmall, Sized, IsSmallFun, AreSmallFuns}
use Rattle.nv_flatten.proofs.Entering.{params-types}
use Rattle.nv_flatten.proofs.GroupWalk.{IsIn}
use Rattle.nv_flatten.proofs.SmallSizes.{picked, picked-below, part-found, size_at, size_of_group, group_parts, group-total, sized, size-there, size-of}
use Rattle.nv_flatten.proofs.SmallSums.{of_group, group-more, group-called, group-begun, size-none, function-within, group-sum}

abbrev bulks_of : ProgramTree → Bulks
bulks_of t i = of_group (size_of_group t i)

module _ (t : ProgramTree) (h : program_faults t ≡ []) (all : Names) (funs : List FlatFun) (made : AreSmallFuns (whole_of t) all funs) where
  -- the group of a flat function is that of its number's name
  group-at : (i : ℕ) (f : List ℕ) (fun : FlatFun) → slice_get all i ≡ Some f → slice_get funs i ≡ Some fun → group_of (whole_of t) f ≡ Some fun.group
  group-at i f fun named there =
      let r = made.by i fun there in
      subst (λ x. group_of (whole_of t) x ≡ Some fun.group) (same_Some _ _ (sym r.2 ∙ named)) r.4.group

  calls-small : (f : List ℕ) (g : FunTree) (n : IsIn (whole_of t) group_size (size_at t) f g) → CallsSmall (whole_of t) all n.own (size_at t n.own).before funs (bulks_of t)
  calls-small f g n = record {
    earlier = λ i x d fun named found there before.
        let grouped : group_of (whole_of t) x ≡ Some fun.group = group-at i x fun named there in
        let same : value_at 0 x (size_at t n.own).before ≡ size_of_group t fun.group = n.earlier x d fun.group found grouped (ltb-true fun.group n.own before) in
        group-called (size_of_group t fun.group) (value_at 0 x (size_at t n.own).before) (size-there t h x d fun.group found grouped) (omega arith);
  }

  -- a function is within its part of its group
  function-small : (f : List ℕ) (g : FunTree) (fun : FlatFun) → function_in (whole_of t).declared.functions f ≡ Some g → IsSmallFun (whole_of t) all f g fun
      → IsAtMost (both (both a_label a_jump) (function_bulk funs (bulks_of t) fun)) (of_parts (value_at 0 f (group_parts t fun.group)))
  function-small f g fun found m =
      let w = whole_of t in
      let n = sized t h f g found in
      let d = size_at t n.own in
      let own : n.own ≡ fun.group = same_Some _ _ (sym n.grouped ∙ m.group) in
      let p : Context = record { known = d.known; vars = param_vars (named_types_of d.known.layouts g.params) []; tail = true } in
      let wanted : Expected = same_as (Some (type_of d.known.layouts g.result)) in
      let stands : Stands w n.own (entry w g) p = record { part = n.part; vars = ap (λ ts. param_vars ts []) n.params ∙ sym (params-types 0 (params_in w g) []) } in
      let c : Sized w m.names = record { own = n.own; sizes = d.before; all = all; more = m.more; funs = funs; bulks = bulks_of t; calls = calls-small f g n } in
      let e = expanded d.before d.known (body_vars d.known g) g.body in
      let u = words (form_or_unit m.form) in
      let code : IsAtMost (both (code_bulk funs (bulks_of t) n.own true fun.body) (both a_label (uses u))) (of_parts e) = m.end.by c p wanted stands n.none true in
      let here : value_at 0 f (group_parts t n.own) ≡ 1 + (param_words d.known g + e) = part-found d.before d.known d.funs f g n.found in
      let whole : IsAtMost (both (both a_label a_jump) (both a_label (code_bulk funs (bulks_of t) n.own true fun.body))) (of_parts (value_at 0 f (group_parts t n.own))) =
      subst (λ k. IsAtMost (both (both a_label a_jump) (both a_label (code_bulk funs (bulks_of t) n.own true fun.body))) (of_parts k)) (sym here)
      (function-within (code_bulk funs (bulks_of t) n.own true fun.body) u (param_words d.known g) e code)
      in
      subst (λ i. IsAtMost (both (both a_label a_jump) (both a_label (code_bulk funs (bulks_of t) i true fun.body))) (of_parts (value_at 0 f (group_parts t i)))) own whole

  are-bulks : AreBulks funs (bulks_of t)
  are-bulks = record {
    by = λ group.
        let below : picked (group_parts t group) all ≤ size_of_group t group = subst (λ n. picked (group_parts t group) all ≤ n) (sym (group-total t group)) (picked-below (group_parts t group) all made.once) in
        most-trans (sum_bulk funs (bulks_of t) group funs) (of_group (picked (group_parts t group) all)) (of_group (size_of_group t group))
        (group-sum funs (bulks_of t) group (group_parts t group) all funs
        (λ i fun there.
        let r = made.by i fun there in
        (r.0, r.2, λ e. subst (λ n. IsAtMost (both (both a_label a_jump) (function_bulk funs (bulks_of t) fun)) (of_parts (value_at 0 r.0 (group_parts t n)))) e (function-small r.0 r.1 fun r.3 r.4))))
        (group-more (picked (group_parts t group) all) (size_of_group t group) below);
  }

  -- main is number 0
  main-small : slice_get all 0 ≡ Some main_name → (o : Option FlatFun) → slice_get funs 0 ≡ o → IsAtMost (main_bulk funs o) (of_size (value_at 0 main_name (sizes_behind [] nothing_known t.decls)))
  main-small named None there = size-none (value_at 0 main_name (sizes_behind [] nothing_known t.decls))
  main-small named (Some fun) there =
      let r = made.by 0 fun there in
      let found : function_in (whole_of t).declared.functions main_name ≡ Some r.1 = subst (λ x. function_in (whole_of t).declared.functions x ≡ Some r.1) (same_Some _ _ (sym r.2 ∙ named)) r.3 in
      let grouped : group_of (whole_of t) main_name ≡ Some fun.group = group-at 0 main_name fun named there in
      let same : value_at 0 main_name (sizes_behind [] nothing_known t.decls) ≡ size_of_group t fun.group = size-of t h main_name r.1 found fun.group grouped in
      let bound : IsAtMost (main_bulk funs (Some fun)) (both (both a_label a_jump) (of_group (size_of_group t fun.group))) =
      subst (λ o. IsAtMost (main_bulk funs o) (both (both a_label a_jump) (of_group (size_of_group t fun.group)))) there (main-bounded funs (bulks_of t) 0 fun are-bulks there) in
      group-begun (main_bulk funs (Some fun)) (size_of_group t fun.group) (value_at 0 main_name (sizes_behind [] nothing_known t.decls)) (size-there t h main_name r.1 fun.group found grouped) (omega arith) bound

-- the bulk of the flat program is at most that of the size of main's group
pub small-enough : (t : ProgramTree) → program_faults t ≡ [] → (all : Names) (funs : List FlatFun) → slice_get all 0 ≡ Some main_name → AreSmallFuns (whole_of t) all funs → IsAtMost (bulk funs 0) (of_size (value_at 0 main_name (sizes_behind [] nothing_known t.decls)))
small-enough t h all funs named made = main-small t h all funs made named (slice_get funs 0) refl

not-cut : (n : ℕ) → min n 4294967295 ≤ 4096 → n ≡ min n 4294967295
not-cut n h = omega arith

-- which is the expanded size, where that doesn't stand still at its end
pub small-enough-size : (t : ProgramTree) → program_faults t ≡ [] → expanded_size t ≤ 4096 → (all : Names) (funs : List FlatFun) → slice_get all 0 ≡ Some main_name → AreSmallFuns (whole_of t) all funs → IsAtMost (bulk funs 0) (of_size (expanded_size t))
small-enough-size t h le all funs named made = subst (λ n. IsAtMost (bulk funs 0) (of_size n)) (not-cut (value_at 0 main_name (sizes_behind [] nothing_known t.decls)) le) (small-enough t h all funs named made)

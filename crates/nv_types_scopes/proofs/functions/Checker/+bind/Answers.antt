use Rattle.std.proofs.Common.{◌∙◌, ◌≤◌, ◌+◌, ap, sym, subst, arith, refl, List, drop, length}
use Rattle.std.proofs.Math.ListN.{drop_of_length-le}
use Rattle.nv_ast.specs.declared.tree.Pat.{Pat}
use Rattle.nv_ast.specs.Tree.{TuplePattern}
use Rattle.nv_ast.specs.PatternView.{pattern_tree, list_patterns}
use Rattle.nv_types_table.proofs.PatternNames.{tuple_pattern}
use Rattle.nv_types_scopes.proofs.Walked.{at_item}
use Rattle.nv_types_scopes.proofs.Bound.{Adds-refl, Adds-trans, name_adds, tuple_sees, BindSo, bind_none, bind_some, bind_end}
use Rattle.nv_types_scopes.proofs.functions.Checker.+bind.Goals as goal

pub bind-returns-in-Name-clause-adds : goal.bind-returns-in-Name-clause-adds
bind-returns-in-Name-clause-adds t c = name_adds c.args.self.now c.bind.new.self (c.in-Name.x, c.args.t) c.bind.result c.bind.ensures

pub bind-returns-in-Some-clause-sees : goal.bind-returns-in-Some-clause-sees
bind-returns-in-Some-clause-sees t c =
    let shape = ap pattern_tree c.in-Tuple.is ∙ tuple_pattern c.in-Tuple.ps ∙ ap (λ (l : List Pat). TuplePattern (list_patterns l)) (sym c.deref.ensures.value) in
    tuple_sees c.args.self.now.table c.bind_all.new.self c.in-Some.ensures.store c.args.t c.in-Some.parts (pattern_tree c.args.p.now) c.deref.result.now c.bind_all.result shape c.in-Some.ensures.value c.args.self.now c.bind_all.ensures.sees

pub bind_all-returns-in_default-clause-sees : goal.bind_all-returns-in_default-clause-sees
bind_all-returns-in_default-clause-sees t c =
    let ps = c.args.ps.now in
    let i = c.loop-p.p-index in
    let so = subst (λ (l : List Pat). BindSo c.args.self.now c.loop-p.self c.args.ps.now l c.args.types c.loop-p.list) (at_item ps i c.p-item.result c.loop-p-test.true c.p-item.is) c.loop-p.invariant.so in
    bind_none c.args.self.now c.loop-p.self ps (drop (i + 1) ps) c.p-item.result c.args.types c.loop-p.list so (sym c.in_default.ensures.value)

pub bind_all-returns-in_default-clause-adds : goal.bind_all-returns-in_default-clause-adds
bind_all-returns-in_default-clause-adds t c = c.loop-p.invariant.adds

pub bind_all-loop-p-init : goal.bind_all-loop-p-init
bind_all-loop-p-init t c = record { adds = Adds-refl c.args.self.now; so = λ us vars h sees. (us, vars, h, sees, refl) }

pub bind_all-loop-p-preserved : goal.bind_all-loop-p-preserved
bind_all-loop-p-preserved t c =
    let ps = c.args.ps.now in
    let i = c.loop-p.p-index in
    let so = subst (λ (l : List Pat). BindSo c.args.self.now c.loop-p.self c.args.ps.now l c.args.types c.loop-p.list) (at_item ps i c.p-item.result c.loop-p-test.true c.p-item.is) c.loop-p.invariant.so in
    record {
      adds = Adds-trans c.args.self.now c.loop-p.self c.bind.new.self c.loop-p.invariant.adds c.in_ok-bind.ensures.adds;
      so = bind_some c.args.self.now c.loop-p.self c.bind.new.self ps (drop (i + 1) ps) c.p-item.result c.args.types c.loop-p.list c.in-Some.t c.in-Some.rest c.in-Some.ensures.store so (sym c.in-Some.ensures.value) c.in_ok-bind.ensures.adds c.in_ok-bind.ensures.sees;
    }

pub bind_all-returns-clause-sees : goal.bind_all-returns-clause-sees
bind_all-returns-clause-sees t c =
    let ps = c.args.ps.now in
    let past : length c.args.ps.now ≤ c.loop-p.p-index = omega arith in
    let so = subst (λ (l : List Pat). BindSo c.args.self.now c.loop-p.self c.args.ps.now l c.args.types c.loop-p.list) (drop_of_length-le ps past) c.loop-p.invariant.so in
    bind_end c.args.self.now c.loop-p.self ps c.args.types c.loop-p.list so

pub bind_all-returns-clause-adds : goal.bind_all-returns-clause-adds
bind_all-returns-clause-adds t c = c.loop-p.invariant.adds

use Rattle.std.proofs.Common.{map, ◌∙◌, arith}
use Rattle.cps_ir.specs.View.{fun_view}
use Rattle.nv_base.proofs.Measures.{most-trans}
use Rattle.flow_ir.specs.View.{label_view}
use Rattle.flow_ir.proofs.Leading.{pruned-led}
use Rattle.flow_ir.proofs.Left.{pruned-at, pruned-formed, pruned-params, pruned-means, pruned-wide, pruned-bulk}
use Rattle.cps_close.proofs.Whole.{main-within, main-at, whole-formed, whole-params, whole-equal, whole-narrow, whole-bulk}
use Rattle.cps_close.proofs.program.close.Goals as goal

pub index-f-requires : goal.index-f-requires
index-f-requires c = omega (arith, main-within c.args.c.funs.items c.args.c.main c.args.c.formed, c.args.c.funs.ok.0)

pub invariant_of-result : goal.invariant_of-result
invariant_of-result c = record { formed = pruned-formed (map label_view c.in_ok-all.all.items) (map label_view c.in_ok-labels.labels.items) (whole-formed (map fun_view c.args.c.funs.items) c.args.c.main (fun_view c.index-f.result.now) (map label_view c.in_ok-all.all.items) (main-at c.args.c.funs.items c.args.c.main c.index-f.result.now c.index-f.ensures c.args.c.formed c.requires) c.in_ok-all.ensures) (pruned-at _ _ _ c.in_ok-labels.ensures c.deref.ensures.value) }

pub returns-clause-parameters : goal.returns-clause-parameters
returns-clause-parameters c = pruned-params (map label_view c.in_ok-all.all.items) (map label_view c.in_ok-labels.labels.items) (whole-formed (map fun_view c.args.c.funs.items) c.args.c.main (fun_view c.index-f.result.now) (map label_view c.in_ok-all.all.items) (main-at c.args.c.funs.items c.args.c.main c.index-f.result.now c.index-f.ensures c.args.c.formed c.requires) c.in_ok-all.ensures) (pruned-at _ _ _ c.in_ok-labels.ensures c.deref.ensures.value) ∙ whole-params (map fun_view c.args.c.funs.items) c.args.c.main (fun_view c.index-f.result.now) (map label_view c.in_ok-all.all.items) (main-at c.args.c.funs.items c.args.c.main c.index-f.result.now c.index-f.ensures c.args.c.formed c.requires) c.in_ok-all.ensures

pub returns-clause-equal : goal.returns-clause-equal
returns-clause-equal c =
    λ args p a s n.
    whole-equal (map fun_view c.args.c.funs.items) c.args.c.main (fun_view c.index-f.result.now) (map label_view c.in_ok-all.all.items) (main-at c.args.c.funs.items c.args.c.main c.index-f.result.now c.index-f.ensures c.args.c.formed c.requires) c.in_ok-all.ensures args p a s n
    ∙ pruned-means (map label_view c.in_ok-all.all.items) (map label_view c.in_ok-labels.labels.items) (whole-formed (map fun_view c.args.c.funs.items) c.args.c.main (fun_view c.index-f.result.now) (map label_view c.in_ok-all.all.items) (main-at c.args.c.funs.items c.args.c.main c.index-f.result.now c.index-f.ensures c.args.c.formed c.requires) c.in_ok-all.ensures) (pruned-at _ _ _ c.in_ok-labels.ensures c.deref.ensures.value) args p n

pub returns-clause-wide : goal.returns-clause-wide
returns-clause-wide c =
    let before = whole-narrow (map fun_view c.args.c.funs.items) c.args.c.main (fun_view c.index-f.result.now) (map label_view c.in_ok-all.all.items) (main-at c.args.c.funs.items c.args.c.main c.index-f.result.now c.index-f.ensures c.args.c.formed c.requires) c.in_ok-all.ensures in
    let behind = pruned-wide (map label_view c.in_ok-all.all.items) (map label_view c.in_ok-labels.labels.items) (pruned-at _ _ _ c.in_ok-labels.ensures c.deref.ensures.value) in
    omega (arith, before, behind)

pub returns-clause-bulk : goal.returns-clause-bulk
returns-clause-bulk c =
    most-trans _ _ _ (pruned-bulk (map label_view c.in_ok-all.all.items) (map label_view c.in_ok-labels.labels.items) (pruned-at _ _ _ c.in_ok-labels.ensures c.deref.ensures.value)) (whole-bulk (map fun_view c.args.c.funs.items) c.args.c.main (fun_view c.index-f.result.now) (map label_view c.in_ok-all.all.items) (main-at c.args.c.funs.items c.args.c.main c.index-f.result.now c.index-f.ensures c.args.c.formed c.requires) c.in_ok-all.ensures)

pub returns-clause-led : goal.returns-clause-led
returns-clause-led c = pruned-led (map label_view c.in_ok-all.all.items) (map label_view c.in_ok-labels.labels.items) (pruned-at _ _ _ c.in_ok-labels.ensures c.deref.ensures.value)

use Rattle.std.proofs.Common.{◌++◌, map, ap, subst, ◌∙◌}
use Rattle.flow_ir.specs.Formed.{defined}
use Rattle.flow_ir.specs.View.{tree_view, label_view}
use Rattle.ssu_make.specs.inner.Making.{counted, Becomes}
use Rattle.ssu_make.specs.Made.{value, clones}
use Rattle.ssu_make.proofs.Turns.{adds-root}
use Rattle.ssu_make.proofs.NodeForms.{label-made}
use Rattle.ssu_make.proofs.program.make_label.Goals as goal

pub clones-requires : goal.clones-requires
clones-requires c = adds-root _ _ _ _ c.in_ok-part.ensures.adds c.requires

pub returns : goal.returns
returns c =
    let l = c.args.l.now in
    let base = counted c.in_ok-bases.bases in
    let r = counted c.in_ok-part.part.counts in
    let all = c.deref-2.ensures.value ∙ c.in_ok-counts.ensures.found ∙ ap (λ xs. xs ++ defined (tree_view l.body)) (c.in_ok-variables.ensures ∙ c.deref.ensures.value) in
    label-made c.args.build.now c.make_tree.new.build c.clones.new.build (label_view l) (record { params = c.in_ok-params.params; body = c.in_ok-body.body }) c.args.fresh.now c.lay_out.new.fresh c.make_tree.new.fresh base (counted c.in_ok-counts.counts) c.deref-2.result.now c.in_ok-part.part
    c.in_ok-bases.ensures all c.in_ok-counts.ensures.counts c.in_ok-part.ensures (c.in_ok-params.ensures ∙ ap (map (value base r)) c.deref-3.ensures.value)
    (subst (λ xs. Becomes c.make_tree.new.build c.clones.new.build c.in_ok-part.part.root.0 c.in_ok-body.body.0 (clones base r xs)) c.deref-4.ensures.value c.in_ok-body.ensures)

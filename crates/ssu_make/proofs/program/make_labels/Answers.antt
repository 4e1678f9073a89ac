use Rattle.std.proofs.Common.{[], ◌∷◌, ◌++◌, map, take, ap, subst, sym, ◌∙◌, arith}
use Rattle.std.proofs.lemmas.List.{map_more, take_all}
use Rattle.flow_ir.specs.View.{label_view}
use Rattle.ssu_make.specs.inner.Making.{LabelsMade}
use Rattle.ssu_make.proofs.Along.{LabelsOn}
use Rattle.ssu_make.proofs.NodeForms.{labels-more, labels-end}
use Rattle.ssu_make.proofs.program.make_labels.Goals as goal

pub loop-l-preserved : goal.loop-l-preserved
loop-l-preserved c =
    let ls = c.args.labels.now in
    let i = c.loop-l.l-index in
    let l = c.l-item.result in
    let front = map_more label_view ls i l (omega arith) ∙ ap (λ k. map label_view (take i ls) ++ label_view k ∷ []) (sym c.l-item.is) in
    subst (λ k. LabelsOn k c.push.new.self.items c.make_label.new.build c.make_label.new.fresh) (sym front)
    (labels-more c.loop-l.build c.make_label.new.build (map label_view (take i ls)) c.loop-l.v.items c.push.new.self.items (label_view l) c.in_ok-make_label.field-0 c.loop-l.fresh c.make_label.new.fresh c.loop-l.invariant c.in_ok-make_label.ensures c.in_ok-push.ensures.items)

pub returns : goal.returns
returns c =
    let ls = c.args.labels.now in
    let all = take_all c.loop-l.l-index ls (omega arith) in
    subst (λ k. LabelsMade (map label_view k) c.loop-l.v.items c.loop-l.build) all (labels-end (map label_view (take c.loop-l.l-index ls)) c.loop-l.v.items c.loop-l.build c.loop-l.fresh c.loop-l.invariant)

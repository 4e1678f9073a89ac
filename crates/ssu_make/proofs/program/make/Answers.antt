use Rattle.std.proofs.Common.{map, ap, slice_get}
use Rattle.std.specs.List.{list_all}
use Rattle.std.proofs.lemmas.Bool.{and_parts}
use Rattle.flow_ir.specs.Formed.{is_label, is_entry}
use Rattle.flow_ir.specs.View.{label_view}
use Rattle.ssu_ir.specs.View.{labels_view}
use Rattle.ssu_make.proofs.NodeForms.{whole-made}
use Rattle.ssu_make.proofs.Rules.{same-params, single-made}
use Rattle.ssu_make.proofs.Equal.{equal}
use Rattle.ssu_make.proofs.Peak.{peak-of}
use Rattle.ssu_make.proofs.Sizes.{size-made, code-made}
use Rattle.ssu_make.proofs.program.make.Goals as goal

pub returns-clause-made : goal.returns-clause-made
returns-clause-made c = whole-made (map label_view c.deref.result.now) (map label_view c.args.f.now.labels.items) c.in_ok-labels.labels.items c.make_labels.new.build (labels_view c.finish.result) c.in_ok-labels.ensures c.finish.ensures.trees (ap (map label_view) c.deref.ensures.value)

pub returns-clause-params : goal.returns-clause-params
returns-clause-params c = same-params 0 _ _ (whole-made (map label_view c.deref.result.now) (map label_view c.args.f.now.labels.items) c.in_ok-labels.labels.items c.make_labels.new.build (labels_view c.finish.result) c.in_ok-labels.ensures c.finish.ensures.trees (ap (map label_view) c.deref.ensures.value))

pub returns-clause-equal : goal.returns-clause-equal
returns-clause-equal c =
    let ls = map label_view c.args.f.now.labels.items in
    equal 0 ls _ (and_parts (list_all (is_label ls) ls) (is_entry (slice_get ls 0)) c.args.f.now.formed).0 (whole-made (map label_view c.deref.result.now) (map label_view c.args.f.now.labels.items) c.in_ok-labels.labels.items c.make_labels.new.build (labels_view c.finish.result) c.in_ok-labels.ensures c.finish.ensures.trees (ap (map label_view) c.deref.ensures.value))

pub returns-clause-single : goal.returns-clause-single
returns-clause-single c = single-made 0 _ _ c.args.f.now.formed c.requires (whole-made (map label_view c.deref.result.now) (map label_view c.args.f.now.labels.items) c.in_ok-labels.labels.items c.make_labels.new.build (labels_view c.finish.result) c.in_ok-labels.ensures c.finish.ensures.trees (ap (map label_view) c.deref.ensures.value))

pub returns-clause-size : goal.returns-clause-size
returns-clause-size c = size-made 0 _ _ (whole-made (map label_view c.deref.result.now) (map label_view c.args.f.now.labels.items) c.in_ok-labels.labels.items c.make_labels.new.build (labels_view c.finish.result) c.in_ok-labels.ensures c.finish.ensures.trees (ap (map label_view) c.deref.ensures.value))

pub returns-clause-code : goal.returns-clause-code
returns-clause-code c =
    let ls = map label_view c.args.f.now.labels.items in
    code-made 0 ls _ (whole-made (map label_view c.deref.result.now) (map label_view c.args.f.now.labels.items) c.in_ok-labels.labels.items c.make_labels.new.build (labels_view c.finish.result) c.in_ok-labels.ensures c.finish.ensures.trees (ap (map label_view) c.deref.ensures.value)) (and_parts (list_all (is_label ls) ls) (is_entry (slice_get ls 0)) c.args.f.now.formed).1

pub returns-clause-peak : goal.returns-clause-peak
returns-clause-peak c =
    let ls = map label_view c.args.f.now.labels.items in
    peak-of 0 ls _ (and_parts (list_all (is_label ls) ls) (is_entry (slice_get ls 0)) c.args.f.now.formed).0 (whole-made (map label_view c.deref.result.now) (map label_view c.args.f.now.labels.items) c.in_ok-labels.labels.items c.make_labels.new.build (labels_view c.finish.result) c.in_ok-labels.ensures c.finish.ensures.trees (ap (map label_view) c.deref.ensures.value))

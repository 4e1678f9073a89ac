use Rattle.std.proofs.Common.{ap, take, length}
use Rattle.nv_ast.specs.LayoutView.{layout_tree}
use Rattle.nv_ast.specs.Outline.{outline, bit_fields}
use Rattle.nv_meaning_values.specs.inner.Tables.{layout_pairs}
use Rattle.nv_meaning_values.specs.inner.TableView.{declared_in}
use Rattle.nv_meaning.proofs.Records.{layout-record}
use Rattle.nv_flatten_values.specs.inner.View.{view, list_named_symbols}
use Rattle.nv_flatten_values.specs.declared.symbol.Symbol as code
use Rattle.nv_flatten_values.proofs.Reading.{unpacks}
use Rattle.nv_flatten_values.proofs.RecordForms.{layout-form}
use Rattle.nv_flatten_values.proofs.Rows.{record_view}
use Rattle.nv_flatten_values.proofs.Lets.{lets-record}
use Rattle.nv_flatten_values.proofs.FewFields.{few-record, narrow-record}
use Rattle.nv_flatten_values.proofs.layouts.record.Goals as goal

pub returns-clause-unpacks : goal.returns-clause-unpacks
returns-clause-unpacks c =
    let pairs = layout_pairs c.args.t.now.layouts.items in
    let o = outline (take c.args.limit (declared_in c.args.t.now).layouts) (layout_tree c.args.l.now) in
    unpacks o c.args.next.now c.add_fields.new.next c.args.words.now c.new-steps.result.items c.add_fields.new.steps.items (list_named_symbols c.new-fields.result.items) (list_named_symbols c.add_fields.new.fields.items) (view (code.Record c.add_fields.new.fields))
    c.in-Ok.ensures.reads c.new-steps.ensures.items (ap list_named_symbols c.new-fields.ensures.items) (record_view c.add_fields.new.fields)
    (layout-form pairs c.args.limit (layout_tree c.args.l.now)) (layout-record pairs c.args.limit (layout_tree c.args.l.now))

pub returns-clause-well : goal.returns-clause-well
returns-clause-well c =
    lets-record c.args.next.now c.add_fields.new.next c.args.words.now c.new-steps.result.items c.add_fields.new.steps.items (list_named_symbols c.new-fields.result.items) (list_named_symbols c.add_fields.new.fields.items) (view (code.Record c.add_fields.new.fields))
    c.in-Ok.ensures.well c.new-steps.ensures.items (ap list_named_symbols c.new-fields.ensures.items) (record_view c.add_fields.new.fields)

pub returns-clause-narrow : goal.returns-clause-narrow
returns-clause-narrow c =
    let o = outline (take c.args.limit (declared_in c.args.t.now).layouts) (layout_tree c.args.l.now) in
    narrow-record c.args.words.now c.new-steps.result.items c.add_fields.new.steps.items (list_named_symbols c.new-fields.result.items) (list_named_symbols c.add_fields.new.fields.items) (view (code.Record c.add_fields.new.fields)) (length (bit_fields 0 o))
    c.in-Ok.ensures.bounds c.new-steps.ensures.items (ap list_named_symbols c.new-fields.ensures.items) (record_view c.add_fields.new.fields)

pub returns-clause-small : goal.returns-clause-small
returns-clause-small c =
    let o = outline (take c.args.limit (declared_in c.args.t.now).layouts) (layout_tree c.args.l.now) in
    few-record c.args.words.now c.new-steps.result.items c.add_fields.new.steps.items (list_named_symbols c.new-fields.result.items) (list_named_symbols c.add_fields.new.fields.items) (length (bit_fields 0 o)) c.in-Ok.ensures.bounds c.new-steps.ensures.items

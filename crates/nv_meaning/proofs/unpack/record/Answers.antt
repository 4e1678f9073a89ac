use Rattle.std.proofs.Common.{◌∙◌, ap, sym, take}
use Rattle.nv_ast.specs.Bits.{packed}
use Rattle.nv_ast.specs.LayoutView.{layout_tree}
use Rattle.nv_ast.specs.Outline.{outline}
use Rattle.nv_meaning_values.specs.Values.{Record, fields_of, ◌++_fields◌}
use Rattle.nv_meaning_values.specs.Packing.{value_at}
use Rattle.nv_meaning_values.specs.inner.Tables.{layout_pairs}
use Rattle.nv_meaning_values.specs.inner.TableView.{declared_in}
use Rattle.nv_meaning_values.specs.inner.View.{list_named_values}
use Rattle.nv_meaning.proofs.Records.{layout-record}
use Rattle.nv_meaning_values.proofs.Rows.{record_view}
use Rattle.nv_meaning.proofs.unpack.record.Goals as goal

pub returns : goal.returns
returns c =
    let o = outline (take c.args.limit (declared_in c.args.t.now).layouts) (layout_tree c.args.l.now) in
    record_view c.add_fields.new.fields
    ∙ ap (λ vs. Record vs) (c.in_ok-add_fields.ensures.fields ∙ ap (λ l. list_named_values l ++_fields fields_of (value_at o (packed c.args.words.now))) c.new-fields.ensures.items)
    ∙ sym (layout-record (layout_pairs c.args.t.now.layouts.items) c.args.limit (layout_tree c.args.l.now) (packed c.args.words.now))

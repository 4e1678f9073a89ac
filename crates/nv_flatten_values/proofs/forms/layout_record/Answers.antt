use Rattle.std.proofs.Common.{◌∙◌, ◌+◌, ◌++◌, ap, sym, take}
use Rattle.nv_ast.specs.LayoutView.{layout_tree}
use Rattle.nv_ast.specs.Outline.{outline}
use Rattle.nv_ast.specs.Types.{words, unpacked, unpacked_all, record_forms}
use Rattle.nv_meaning_values.specs.inner.TableView.{declared_in}
use Rattle.nv_meaning_values.specs.inner.Tables.{layout_pairs}
use Rattle.nv_flatten_values.specs.inner.Fields.{◌++_symbols◌}
use Rattle.nv_flatten_values.specs.inner.Symbols.{Record, fresh, named_fresh, numbers_from}
use Rattle.nv_flatten_values.specs.inner.View.{list_named_symbols}
use Rattle.nv_flatten_values.proofs.Listing.{record-view, layout-form}
use Rattle.nv_flatten_values.proofs.forms.layout_record.Goals as goal

pub returns-clause-symbol : goal.returns-clause-symbol
returns-clause-symbol c =
    record-view c.add_layout.new.fields ∙ ap (λ vs. Record vs) (c.in-Ok.ensures.fields ∙ ap (λ l. list_named_symbols l ++_symbols named_fresh c.args.next.now (unpacked_all (record_forms (outline (take c.args.limit (declared_in c.args.t.now).layouts) (layout_tree c.args.l.now))))) c.new-fields.ensures.items) ∙ sym (ap (λ f. fresh c.args.next.now (unpacked f)) (layout-form (layout_pairs c.args.t.now.layouts.items) c.args.limit (layout_tree c.args.l.now)))

pub returns-clause-next : goal.returns-clause-next
returns-clause-next c =
    c.in-Ok.ensures.next ∙ sym (ap (λ f. c.args.next.now + words (unpacked f)) (layout-form (layout_pairs c.args.t.now.layouts.items) c.args.limit (layout_tree c.args.l.now)))

pub returns-clause-made : goal.returns-clause-made
returns-clause-made c =
    c.in-Ok.ensures.made ∙ sym (ap (λ f. c.args.made.now.items ++ numbers_from c.args.next.now (words (unpacked f))) (layout-form (layout_pairs c.args.t.now.layouts.items) c.args.limit (layout_tree c.args.l.now)))

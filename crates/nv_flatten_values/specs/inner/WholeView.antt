-- What the declarations of a program hold.
use Rattle.std.specs.Prelude.{map}
use Rattle.nv_ast.specs.Types.{types_of}
use Rattle.nv_ast.specs.TypeView.{list_types}
use Rattle.nv_meaning_values.specs.inner.TableView.{declared_in}
use Rattle.nv_flatten_values.specs.declared.source.Source.{Source}
use Rattle.nv_flatten_values.specs.inner.Whole.{Whole}

abbrev pub whole_in : Source → Whole
whole_in t = record {
  declared = declared_in t.table;
  raised = map (λ ts. types_of (declared_in t.table).layouts (list_types ts.now.items)) t.raised.items;
  groups = t.groups.items;
}

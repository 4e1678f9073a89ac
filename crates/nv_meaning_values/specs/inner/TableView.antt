-- What the program of a table declares.
use Rattle.std.specs.Prelude.{map, []}
use Rattle.nv_ast.specs.ProgramView.{fun_tree}
use Rattle.nv_meaning_values.specs.declared.table.Table.{Table}
use Rattle.nv_meaning_values.specs.Declarations.{Declared}
use Rattle.nv_meaning_values.specs.inner.Tables.{laid, layout_pairs}

abbrev pub declared_in : Table → Declared
declared_in t = record {
  layouts = laid [] (layout_pairs t.layouts.items);
  exceptions = map (λ x. x.now) t.exceptions.items;
  functions = map (λ f. fun_tree f.now) t.functions.items;
}

use Rattle.std.proofs.Common.{◌∙◌, ap, map, refl}
use Rattle.nv_ast.specs.ProgramView.{decl_tree, program_of}
use Rattle.nv_meaning_values.specs.inner.TableView.{declared_in}
use Rattle.nv_flatten_values.specs.inner.Whole.{groups_from, raised_in}
use Rattle.nv_flatten_values.proofs.Sources.{source-is, as-many-groups}
use Rattle.nv_flatten_values.proofs.source.Source.of.Goals as goal

pub invariant_of-result : goal.invariant_of-result
invariant_of-result c =
    record { grouped = as-many-groups (program_of c.args.program.now) (declared_in c.in_ok-table.table) c.in_ok-table.table.functions.items c.in-Ok.found.items c.in_ok-table.ensures refl (c.in-Ok.ensures ∙ ap (λ l. groups_from 0 (map decl_tree l)) c.deref.ensures.value) }

pub returns : goal.returns
returns c =
    source-is (program_of c.args.program.now) (declared_in c.in_ok-table.table) c.in-Ok-raised.found.items c.in-Ok.found.items c.in_ok-table.ensures (c.in-Ok-raised.ensures ∙ ap (λ l. raised_in (map decl_tree l)) c.deref-2.ensures.value) (c.in-Ok.ensures ∙ ap (λ l. groups_from 0 (map decl_tree l)) c.deref.ensures.value)

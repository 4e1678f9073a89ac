use Rattle.std.proofs.Common.{subst}
use Rattle.nv_types_table.specs.inner.Named.{plain_names}
use Rattle.nv_types_table.specs.inner.Store.{IsStore}
use Rattle.nv_types_table.proofs.OneNumber.{same_number}
use Rattle.nv_types_table.proofs.table.Table.is_same.Goals as goal

pub returns : goal.returns
returns c = λ a b h k.
    let is = c.self.invariant in
    let store : IsStore (record { names = plain_names c.self.inside.names.keys; cells = c.self.inside.cells.keys }) =
    record { word = is.word; bool = is.bool; no_parts = is.no_parts; no_fields = is.no_fields; below = is.below; once = is.once; one_name = is.one_name } in
    same_number c.args.self.now (subst IsStore c.self.view_is store) c.args.t c.args.u a b h k

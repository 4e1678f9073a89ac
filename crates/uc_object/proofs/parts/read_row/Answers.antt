use Rattle.std.proofs.Common.{subst}
use Rattle.uc_object.specs.Columns.{Fit}
use Rattle.uc_object.proofs.Faults.{fit-eight, row-columns}
use Rattle.uc_object.proofs.parts.read_row.Goals as goal

pub instruction-requires : goal.instruction-requires
instruction-requires c =
    let bytes = c.args.bytes.now in
    let its = row-columns bytes _ _ _ c.row_columns-columns.ensures c.byte_at.ensures c.byte_at-2.ensures in
    fit-eight bytes (subst (λ cs. Fit cs bytes) its c.in-None.ensures.none)

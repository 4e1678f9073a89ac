use Rattle.std.proofs.Common.{◌≡◌, take}
use Rattle.nv_types_table.specs.inner.Cells.{still}
use Rattle.nv_types_table.proofs.Sums.{sum_of}
use Rattle.nv_types_table.proofs.shapes.total_fields.Given as goal

abbrev pub invariant-loop-m : goal.invariant-loop-m
invariant-loop-m l = l.total ≡ still (sum_of (λ m. m.fields) (take l.m-index l.members))

use Rattle.std.proofs.Common.{arith}
use Rattle.nv_types_table.proofs.Sums.{most_short}
use Rattle.nv_types_table.proofs.shapes.overlay_of.Goals as goal

pub returns : goal.returns
returns c = λ s t os h form type. record {
  of_bits = c.most_bits.ensures s os h;
  of_fields = c.total_fields.ensures.alternatives s os h;
  of_height = omega (arith, c.saturating_add.ensures, c.highest.ensures s os h);
  of_form = form;
  of_type = type;
  short = most_short s c.args.members.now os h;
}

use Rattle.std.proofs.Common.{refl, [], rules}
use Rattle.nv_types_scopes.proofs.layouts.gap.Goals as goal

pub returns : goal.returns
returns c = λ s. record {
  of_bits = search rules;
  of_fields = refl;
  of_height = refl;
  a_record = refl;
  of_forms = ([], refl, tt);
  of_types = ([], refl, tt);
}

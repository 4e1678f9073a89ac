use Rattle.std.proofs.Common.{◌<◌, ◌^◌, refl, arith}
use Rattle.std.proofs.lemmas.List.{length-take}
use Rattle.std.proofs.lemmas.List.Elements.{All-take}
use Rattle.place_weights.specs.WeightsText.{count_limit}
use Rattle.place_weights.proofs.text_laws.printed_counts_are_a_text.Goals as goal

pub returns : goal.returns
returns c = λ counts h. record {
  valid = record { few = omega (arith, length-take count_limit counts); words = All-take (λ c. c < 2 ^ 32) count_limit counts h };
  spelled = refl;
}

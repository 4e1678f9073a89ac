-- Lines and statuses, by computing.
use Rattle.std.proofs.Common.{refl}
use Rattle.std.specs.Fmt.{digits}
use Rattle.laws_commands.specs.Messages.{ShortMessages, StatusesOfOutcomes}

pub short_messages : ShortMessages
unfolding digits
short_messages = record {
  compiled = refl;
  peeped = refl;
  infeasible = refl;
  spent = refl;
  read = refl;
  memory = refl;
  typed = refl;
  ruled = refl;
  ruled_status = refl;
  typed_status = refl;
}

pub statuses_of_outcomes : StatusesOfOutcomes
statuses_of_outcomes = record { ended = λ ws. refl; raised = λ k ws. refl; fault = λ at. refl; going = refl; usage = λ h. h; exhausted = λ h. h; unlawful = λ h. h }

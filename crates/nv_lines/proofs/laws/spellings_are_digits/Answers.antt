use Rattle.nv_lines.proofs.NumberLaws.{Lacks-decimal, Lacks-signed, Lacks-word}
use Rattle.nv_lines.proofs.laws.spellings_are_digits.Goals as goal

pub returns : goal.returns
returns c = record { decimal = Lacks-decimal; signed = Lacks-signed; word = Lacks-word }

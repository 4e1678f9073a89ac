use Rattle.nv_lines.proofs.NumberLemmas.{decimal_one, signed_one}
use Rattle.nv_lines.proofs.NumberLaws.{word_one, hex_word_spells}
use Rattle.nv_lines.proofs.laws.spellings_are_one.Goals as goal

pub returns : goal.returns
returns c = record { decimal = decimal_one; signed = signed_one; word = word_one; written = hex_word_spells }

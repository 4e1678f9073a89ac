use Rattle.std.proofs.Common.{◌≡◌, take}
use Rattle.std.specs.Str.Parse.{AllDigits, digits_value}
use Rattle.nv_lines.proofs.number.read_word.Given as goal

abbrev pub invariant-loop-byte : goal.invariant-loop-byte
invariant-loop-byte l =
    (AllDigits 16 (take l.byte-index l.spelling)) × (l.value ≡ digits_value 16 (take l.byte-index l.spelling))

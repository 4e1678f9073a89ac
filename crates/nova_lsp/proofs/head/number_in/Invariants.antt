use Rattle.std.proofs.Common.{◌≡◌, ◌<◌, ◌^◌, true, take}
use Rattle.std.specs.Str.Parse.{digits_value}
use Rattle.nova_lsp.specs.Heads.{are_digits}
use Rattle.nova_lsp.proofs.head.number_in.Given as goal

-- the value of the digits in front
abbrev pub invariant-loop-byte : goal.invariant-loop-byte
invariant-loop-byte l = (l.value ≡ digits_value 10 (take l.byte-index l.digits)) × (are_digits (take l.byte-index l.digits) ≡ true) × (l.value < 2 ^ 64)

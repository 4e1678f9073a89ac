use Rattle.std.proofs.Common.{◌≡◌, ◌<◌, ◌^◌, drop}
use Rattle.nv_text.specs.Spelling.{number_after}
use Rattle.nv_text.proofs.spelling.value.Given as goal

abbrev pub invariant-loop-byte : goal.invariant-loop-byte
invariant-loop-byte l = record {
  fits : l.value < 2 ^ 32;
  base_fits : l.base < 2 ^ 8;
  same : number_after l.base l.value (drop l.byte-index l.digits) ≡ number_after l.base 0 l.digits;
}

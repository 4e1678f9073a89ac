-- The text of two lines, by computing.
use Rattle.std.proofs.Common.{arith}
use Rattle.std.proofs.lemmas.Fmt.{decimal_digit}
use Rattle.nv_generate.specs.Laws.{TwoLines}

pub two_lines : TwoLines
two_lines = rw (decimal_digit 0 (omega arith), decimal_digit 1 (omega arith))

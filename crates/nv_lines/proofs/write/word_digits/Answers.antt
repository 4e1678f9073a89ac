use Rattle.std.proofs.Common.{◌≡◌, ◌/◌, arith}
use Rattle.nv_lines.specs.Number.{hex_word}
use Rattle.nv_lines.proofs.write.word_digits.Goals as goal

pub returns : goal.returns
unfolding hex_word
returns c = let e : c.args.n / 1 ≡ c.args.n = omega arith in rw e (cc)

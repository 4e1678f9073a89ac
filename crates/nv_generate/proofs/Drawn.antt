-- The lines that are drawn.
use Rattle.std.proofs.Common.{◌≡◌, ℕ, zero, suc, ◌+◌, ◌≤◌, length, refl, ap, arith}
use Rattle.nv_generate.specs.Made.{drawn, after_draw, after_line, name_back, line_at, lines_from}
use Rattle.nv_generate.specs.inner.Lines.{IsLine, AreLines, AreNear}

back-within : (i draw : ℕ) → name_back i draw ≤ suc i
back-within i draw = omega arith

line-drawn : (i z : ℕ) → IsLine i (line_at i z)
line-drawn i z = record {
  operator = omega arith;
  left = back-within i (drawn (after_draw z));
  right = back-within i (drawn (after_draw (after_draw z)));
}

pub lines-drawn : (n i z : ℕ) → AreLines i (lines_from n i z)
lines-drawn zero i z = tt
lines-drawn (suc n) i z = (line-drawn i z, lines-drawn n (suc i) (after_line z))

pub lines-number : (n i z : ℕ) → length (lines_from n i z) ≡ n
lines-number zero i z = refl
lines-number (suc n) i z = let e = lines-number n (suc i) (after_line z) in ap suc e

-- each names the newest names
back-near : (i draw : ℕ) → i ≤ name_back i draw + 6
back-near i draw = omega arith

pub lines-near : (n i z : ℕ) → AreNear i (lines_from n i z)
lines-near zero i z = tt
lines-near (suc n) i z = ((back-near i (drawn (after_draw z)), back-near i (drawn (after_draw (after_draw z)))), lines-near n (suc i) (after_line z))

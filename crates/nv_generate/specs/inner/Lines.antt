-- Which lines can stand in a made source.
use Rattle.std.specs.Prelude.{ℕ, suc, ◌+◌, ◌≤◌, ◌<◌, List, [], ◌∷◌}
use Rattle.nv_generate.specs.declared.draws.Line.{Line}

-- in line i: one of the five operators, and names in front of it
pub record IsLine (i : ℕ) (line : Line) : Type 0 where
  pub operator : line.operator < 5
  pub left : line.left ≤ suc i
  pub right : line.right ≤ suc i

-- from line i on
abbrev pub AreLines : ℕ → List Line → Type 0
AreLines i [] = Unit {0}
AreLines i (line ∷ lines) = IsLine i line × AreLines (suc i) lines

-- the names in each are among the eight newest
abbrev pub AreNear : ℕ → List Line → Type 0
AreNear i [] = Unit {0}
AreNear i (line ∷ lines) = ((i ≤ line.left + 6) × (i ≤ line.right + 6)) × AreNear (suc i) lines

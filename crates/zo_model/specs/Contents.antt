-- what a program contains: two programs are the same where their contents are equal
use Rattle.std.specs.Prelude.{ℕ, List, ℤ, map}
use Rattle.zo_model.specs.declared.program.Row.{Row}
use Rattle.zo_model.specs.declared.program.ZeroOne.{ZeroOne}

-- the terms of a row and its least
pub record RowContents : Type 0 where
  pub terms : List (ℕ × ℤ)
  pub least : ℤ

-- the costs of the columns, and the rows
pub record Contents : Type 0 where
  pub costs : List ℕ
  pub rows : List RowContents

-- what a row contains
abbrev pub row_contents : Row → RowContents
row_contents r = record { terms = r.terms.items; least = r.least }

-- what a program contains
abbrev pub contents : ZeroOne → Contents
contents z = record { costs = z.costs.items; rows = map row_contents z.rows.items }

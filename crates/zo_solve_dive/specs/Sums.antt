-- a program some of whose columns are fixed
use Rattle.std.specs.Prelude.{List, Bool, Option}
use Rattle.zo_model.specs.declared.program.ZeroOne.{ZeroOne}

-- the program, and one place a column
pub record SumsOf : Type 0 where
  pub program : ZeroOne
  pub fixed : List (Option Bool)

-- vectors of a program
use Rattle.std.specs.Prelude.{◌≡◌, ℕ, List, map, Bool, Option, Some, None, length}
use Rattle.zo_model.specs.Program.{columns, cost_of, vector, Feasible}
use Rattle.zo_model.specs.declared.program.Assignment.{Assignment}
use Rattle.zo_model.specs.declared.program.ZeroOne.{ZeroOne}
use Rattle.zo_cert_tree.specs.Fixing.{is_one}

-- a vector of the program: one place for each column, and it meets the rows
pub record IsVector (z : ZeroOne) (x : Assignment) : Type 0 where
  pub one_a_column : length x.on.items ≡ columns z
  pub feasible : Feasible z (vector x.on.items)

-- just the columns fixed at 1 are 1
abbrev pub AreOnes : List (Option Bool) → Assignment → Type 0
AreOnes fixed x = x.on.items ≡ map is_one fixed

-- what a vector costs
abbrev pub cost_at : ZeroOne → Assignment → ℕ
cost_at z x = cost_of z (vector x.on.items)

-- what the start costs, where there is one
abbrev pub start_cost : ZeroOne → Option Assignment → Option ℕ
start_cost z None = None
start_cost z (Some x) = Some (cost_at z x)

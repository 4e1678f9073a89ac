-- What the placement of a vector keeps to, and the vector of a placement.
use Rattle.std.specs.Prelude.{◌≡◌, ◌≤◌, ℕ, Bool, List, length, map}
use Rattle.ssu_ir.specs.Tree.{Label}
use Rattle.place_plan.specs.declared.place.Placement.{Placement}
use Rattle.place_plan.specs.Costs.{cost}
use Rattle.place_plan.specs.Fits.{Fits}
use Rattle.place_plan.specs.Plan.{plan_view}
use Rattle.zo_model.specs.declared.program.Assignment.{Assignment}
use Rattle.zo_model.specs.Program.{vector, costs_of}
use Rattle.bank_prog_form.specs.Columns.{columns, costs}
use Rattle.bank_prog.specs.Meaning.{IsFeasible, on}
use Rattle.bank_prog.specs.Weighted.{weighted_costs}
use Rattle.place_plan.specs.ByLabel.{label_cost}
use Rattle.place_plan.specs.Weighted.{weighted_cost}
use Rattle.reg_assign_reading.specs.ByLabel.{label_price}
use Rattle.reg_assign_reading.specs.inner.Chosen.{chosen}
use Rattle.reg_assign_reading.specs.ReadOff.{AreNumbered, Numbers, IsReadOff}

-- the placement says what the columns that are 1 say, and gives each home a number: of a register of its bank, or of a slot, that no other
-- value has while both live
pub record IsReadFrom (labels : List Label) (slots : ℕ) (x : ℕ → Bool) (p : Placement) : Type 0 where
  pub numbers : Numbers
  pub numbered : AreNumbered labels slots (on labels x) numbers
  pub same : IsReadOff labels slots (on labels x) numbers p

-- a placement that is read from the vector, fits and costs at most what the vector does: in all, in each label, and under all weights
pub record IsAssigned (labels : List Label) (slots : ℕ) (x : ℕ → Bool) (p : Placement) : Type 0 where
  pub read : IsReadFrom labels slots x p
  pub fits : Fits labels (plan_view p)
  pub slots_are : p.slots ≡ slots
  pub paid : cost labels (plan_view p) ≤ costs_of (costs labels) x
  pub label_paid : (l : ℕ) → label_cost labels l (plan_view p) ≤ label_price labels l x
  pub weighted_paid : (ws : List ℕ) → weighted_cost labels ws (plan_view p) ≤ costs_of (weighted_costs labels ws) x

-- the vector in which those columns are 1 that the placement has; it meets the rows and costs what the placement does, also under all weights
pub record IsVectorOf (labels : List Label) (p : Placement) (x : Assignment) : Type 0 where
  pub one_a_column : length x.on.items ≡ length (columns labels)
  pub has : x.on.items ≡ map (chosen labels (plan_view p)) (columns labels)
  pub feasible : IsFeasible labels p.slots (vector x.on.items)
  pub costs_same : costs_of (costs labels) (vector x.on.items) ≡ cost labels (plan_view p)
  pub weighted_same : (ws : List ℕ) → costs_of (weighted_costs labels ws) (vector x.on.items) ≡ weighted_cost labels ws (plan_view p)

-- Code by a placement that is read from a vector of a form's bank program.
use Rattle.std.specs.Prelude.{ℕ, Bool, List}
use Rattle.ssu_ir.specs.Tree.{Label}
use Rattle.place_plan.specs.declared.place.Placement.{Placement}
use Rattle.place_plan.specs.Plan.{plan_view}
use Rattle.reg_assign.specs.Assigned.{IsReadFrom}
use Rattle.uc_isa.specs.declared.instruction.Instr.{Instr}
use Rattle.uc_peep.specs.Rewrites.{IsWithout}
use Rattle.uc_peep_facts.specs.Turned.{IsTurned}
use Rattle.uc_peep_facts.specs.Elsewhere.{AreReread}
use Rattle.ucode_emit.specs.Emits.{AreEmitted}

-- for a placement that is read from the vector, the code comes of what the form emits under it. First, instructions read other registers, and put some
-- results nowhere. Then some straight instructions are left out, and tests stand in the place of some comparisons. Some branches and the jumps behind
-- them become one branch. At last some more straight instructions are left out
pub record IsPlacedBy (labels : List Label) (slots : ℕ) (x : ℕ → Bool) (code : List Instr) : Type 0 where
  pub placement : Placement
  pub read : IsReadFrom labels slots x placement
  pub emitted_code : List Instr
  pub emitted_starts : List ℕ
  pub emitted : AreEmitted labels (plan_view placement) emitted_code emitted_starts
  pub reread_code : List Instr
  pub reread : AreReread emitted_code reread_code
  pub thinner_code : List Instr
  pub thinner : IsWithout reread_code thinner_code
  pub turned_code : List Instr
  pub turned : IsTurned thinner_code turned_code
  pub without : IsWithout turned_code code

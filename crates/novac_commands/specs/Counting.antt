-- The text of how often a run has entered each label.
use Rattle.std.specs.Prelude.{◌≡◌, ℕ, ◌+◌, ◌≤◌, List, length, sum, take}
use Rattle.nv_base.specs.Memories.{Memories}
use Rattle.nv_base.specs.declared.outcome.Outcome.TheVariants.{Going}
use Rattle.ssu_ir.specs.Entered.{AreEntries}
use Rattle.ssu_ir.specs.Meaning.{ssu_meaning}
use Rattle.ssu_ir.specs.Tree.{Label}
use Rattle.place_weights.specs.WeightsText.{count_limit, weights_text}

-- The text has the entries of the first labels, as many as a text has at most, in the run with n jumps. Where the run goes on, all
-- jumps were taken: the entries of all labels sum up to one for each jump, and one for the start.
pub record AreCounted (labels : List Label) (args : List ℕ) (p : Memories) (n : ℕ) (text : List ℕ) : Type 0 where
  pub counts : List ℕ
  pub entries : AreEntries counts labels args p n
  pub printed : text ≡ weights_text (take count_limit counts)
  pub going : (ssu_meaning labels args p n).outcome ≡ Going → length labels ≤ count_limit → sum (take count_limit counts) ≡ n + 1

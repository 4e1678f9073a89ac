-- Code with the names of its exceptions and the starts of its labels, as its readers see it.
use Rattle.std.specs.Prelude.{ℕ, ◌<◌, ◌≤◌, ◌^◌, List, All, length}
use Rattle.uc_isa.specs.Code.{CodeView}

-- the code; of each exception, from number 1 on, the line of its declaration and its name; and the places where labels start
pub record TaggedView : Type 0 where
  pub code : CodeView
  pub exceptions : List (ℕ × List ℕ)
  pub starts : List ℕ

-- at most 65,535 exceptions, and at most 2^20 starts, each a place of the code
pub record IsTagged (t : TaggedView) : Type 0 where
  pub exceptions : length t.exceptions < 2 ^ 16
  pub starts : length t.starts ≤ 2 ^ 20
  pub inside : All (λ start. start < length t.code.list) t.starts

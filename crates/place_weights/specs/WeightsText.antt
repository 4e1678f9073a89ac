-- The text of weights: how many labels have a line, and then how often each was entered.
use Rattle.std.specs.Prelude.{◌≡◌, ℕ, ◌<◌, ◌≤◌, ◌^◌, max, min, List, [], ◌∷◌, length, map, All, codes, decimal}
use Rattle.nv_lines.specs.Line.{text_of, parted}
use Rattle.nv_lines.specs.Format.{Begins, FirstFault}

-- how many lines of counts there are at most
abbrev pub count_limit : ℕ
count_limit = 1048576

-- the first line: how many lines follow
abbrev pub weights_line : ℕ → List ℕ
weights_line n = parted (codes "weights" ∷ decimal n ∷ [])

-- the line of a count
abbrev pub count_line : ℕ → List ℕ
count_line c = parted (codes "l" ∷ decimal c ∷ [])

abbrev pub weights_lines : List ℕ → List (List ℕ)
weights_lines counts = weights_line (length counts) ∷ map count_line counts

abbrev pub weights_text : List ℕ → List ℕ
weights_text counts = text_of (weights_lines counts)

-- counts that a text can have
pub record AreCounts (counts : List ℕ) : Type 0 where
  pub few : length counts ≤ count_limit
  pub words : All (λ c. c < 2 ^ 32) counts

-- the bytes are the text of these counts
pub record Gives (bytes counts : List ℕ) : Type 0 where
  pub valid : AreCounts counts
  pub spelled : bytes ≡ weights_text counts

-- the lines are those of some counts
pub record IsWhole (ls : List (List ℕ)) : Type 0 where
  pub counts : List ℕ
  pub valid : AreCounts counts
  pub lines : ls ≡ weights_lines counts

-- Line n is the first that isn't of the text: some text begins with the lines before it, and none with it too; or the bytes end
-- before its line feed, and are no whole text.
abbrev pub IsBad : List ℕ → ℕ → Type 0
IsBad bytes n = FirstFault (Begins IsWhole) IsWhole bytes n

-- the weight of a label that was entered so often: from 1 to 1,023
abbrev pub clamped : ℕ → ℕ
clamped c = min (max c 1) 1023

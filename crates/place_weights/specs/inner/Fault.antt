-- Where bytes stop to be a text of weights.
use Rattle.std.specs.Prelude.{◌≡◌, ℕ, ◌+◌, ◌<◌, ◌≤◌, ◌^◌, List, [], ◌∷◌, ◌++◌, All, length, map, codes, decimal}
use Rattle.nv_lines.specs.Line.{Lacks, text_of, parted}
use Rattle.place_weights.specs.WeightsText.{count_limit, count_line}
use Rattle.place_weights.specs.declared.read.WeightsError.{WeightsError}
use Rattle.place_weights.specs.declared.read.WeightsError.TheVariants.{NoMemory, Bad}

-- a name and a number of at most `most`
pub record IsCounted (name : List ℕ) (most : ℕ) (line : List ℕ) : Type 0 where
  pub number : ℕ
  pub within : number ≤ most
  pub spelled : line ≡ parted (name ∷ decimal number ∷ [])

-- no line of this kind stands in front: no whole line does, or another one
pub data NoLine (Kind : List ℕ → Type 0) (bytes : List ℕ) : Type 0 where
  cut : Lacks 10 bytes → NoLine Kind bytes
  other : (line back : List ℕ) → bytes ≡ line ++ 10 ∷ back → Lacks 10 line → ¬ Kind line → NoLine Kind bytes

-- line 1 isn't the first line of a text
abbrev pub IsFirstLineFault : List ℕ → WeightsError → Type 0
IsFirstLineFault bytes NoMemory = Unit {0}
IsFirstLineFault bytes (Bad n) = (n ≡ 1) × NoLine (IsCounted (codes "weights") count_limit) bytes

-- some counts were read, and the next one wasn't
pub record StopsAtCount (n : ℕ) (bytes counts : List ℕ) : Type 0 where
  pub rest : List ℕ
  pub fewer : length counts < n
  pub words : All (λ c. c < 2 ^ 32) counts
  pub spelled : bytes ≡ text_of (map count_line counts) ++ rest
  pub no_line : NoLine (IsCounted (codes "l") 4294967295) rest

abbrev pub IsCountFault : ℕ → List ℕ → WeightsError → Type 0
IsCountFault n bytes NoMemory = Unit {0}
IsCountFault n bytes (Bad k) = (counts : List ℕ) × (k ≡ length counts + 2) × StopsAtCount n bytes counts

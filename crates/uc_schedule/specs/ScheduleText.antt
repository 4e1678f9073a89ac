-- The text of a schedule: how many contexts there are, the arguments of all but the first, and whose turns they are.
use Rattle.std.specs.Prelude.{◌≡◌, ℕ, zero, suc, ◌+◌, ◌-◌, ◌<◌, ◌≤◌, List, [], ◌∷◌, length, codes, decimal, sum_by, ⊤}
use Rattle.nv_lines.specs.Format.{FirstFault}
use Rattle.nv_lines.specs.Line.{text_of, parted}
use Rattle.nv_memtext.specs.Spelling.{SpellWords}

-- how many contexts there are at most, and how many entries
abbrev pub context_limit : ℕ
context_limit = 4

abbrev pub entry_limit : ℕ
entry_limit = 100000000

-- line 1: `contexts` and a number from 1 to 4
pub record SpellsCount (line : List ℕ) (k : ℕ) : Type 0 where
  pub some : 1 ≤ k
  pub few : k ≤ context_limit
  pub spelled : line ≡ parted (codes "contexts" ∷ decimal k ∷ [])

-- a line of arguments: `args` and as many words as the code has parameters
pub record SpellsArgs (params : ℕ) (line args : List ℕ) : Type 0 where
  pub parts : List (List ℕ)
  pub spelled : line ≡ parted (codes "args" ∷ parts)
  pub words : SpellWords parts args
  pub number : length args ≡ params

-- a line of entries of k contexts, of which so many are left: `run`, the context's number, and how many
pub record SpellsEntries (k left : ℕ) (line : List ℕ) (entry : ℕ × ℕ) : Type 0 where
  pub named : entry.0 < k
  pub some : 1 ≤ entry.1
  pub few : entry.1 ≤ left
  pub spelled : line ≡ parted (codes "run" ∷ decimal entry.0 ∷ decimal entry.1 ∷ [])

-- an entry is of one of k contexts
abbrev pub IsNamed : ℕ → ℕ × ℕ → Type 0
IsNamed k entry = entry.0 < k

-- a context is started on N words
abbrev pub HasWords : ℕ → List ℕ → Type 0
HasWords params args = length args ≡ params

-- how many steps the entries are
abbrev pub steps_of : List (ℕ × ℕ) → ℕ
steps_of entries = sum_by (λ entry. entry.1) entries

-- the lines are entries of k contexts, of which so many are left
abbrev pub AreEntries : ℕ → ℕ → List (List ℕ) → List (ℕ × ℕ) → Type 0
AreEntries k left [] [] = ⊤
AreEntries k left [] (e ∷ es) = ⊥
AreEntries k left (l ∷ ls) [] = ⊥
AreEntries k left (l ∷ ls) (e ∷ es) = SpellsEntries k left l e × AreEntries k (left - e.1) ls es

-- the lines are those of the arguments of so many contexts, and then entries; where they end before, they may go on
abbrev pub AreArguments : ℕ → ℕ → ℕ → List (List ℕ) → List (List ℕ) → List (ℕ × ℕ) → Type 0
AreArguments params k zero ls [] es = AreEntries k entry_limit ls es
AreArguments params k zero ls (a ∷ args) es = ⊥
AreArguments params k (suc n) [] [] [] = ⊤
AreArguments params k (suc n) [] [] (e ∷ es) = ⊥
AreArguments params k (suc n) [] (a ∷ args) es = ⊥
AreArguments params k (suc n) (l ∷ ls) [] es = ⊥
AreArguments params k (suc n) (l ∷ ls) (a ∷ args) es = SpellsArgs params l a × AreArguments params k n ls args es

-- lines that begin a schedule of k contexts
pub record BeginsSchedule (params : ℕ) (ls : List (List ℕ)) (k : ℕ) (args : List (List ℕ)) (entries : List (ℕ × ℕ)) : Type 0 where
  pub first : List ℕ
  pub others : List (List ℕ)
  pub lines : ls ≡ first ∷ others
  pub count : SpellsCount first k
  pub spelled : AreArguments params k (k - 1) others args entries

-- they are all its lines, with the arguments of all contexts but the first
pub record IsSchedule (params : ℕ) (ls : List (List ℕ)) (args : List (List ℕ)) (entries : List (ℕ × ℕ)) : Type 0 where
  pub contexts : ℕ
  pub begun : BeginsSchedule params ls contexts args entries
  pub all : length args + 1 ≡ contexts

-- the lines are a whole schedule
pub record IsWhole (params : ℕ) (ls : List (List ℕ)) : Type 0 where
  pub args : List (List ℕ)
  pub entries : List (ℕ × ℕ)
  pub text : IsSchedule params ls args entries

-- the lines begin a schedule
pub data IsFront (params : ℕ) (ls : List (List ℕ)) : Type 0 where
  nothing : ls ≡ [] → IsFront params ls
  lines : (k : ℕ) (args : List (List ℕ)) (entries : List (ℕ × ℕ)) → BeginsSchedule params ls k args entries → IsFront params ls

-- line n is the first that isn't of the format
abbrev pub IsBad : ℕ → List ℕ → ℕ → Type 0
IsBad params bytes n = FirstFault (IsFront params) (IsWhole params) bytes n

-- the bytes are a schedule with these arguments and entries
pub record Gives (params : ℕ) (bytes : List ℕ) (args : List (List ℕ)) (entries : List (ℕ × ℕ)) : Type 0 where
  pub lines : List (List ℕ)
  pub spelled : bytes ≡ text_of lines
  pub text : IsSchedule params lines args entries

-- The text of a packet's memories and of the arguments of a run.
use Rattle.std.specs.Prelude.{◌≡◌, ℕ, ◌+◌, ◌^◌, ◌<◌, ◌≤◌, List, [], ◌∷◌, ◌++◌, Some, None, length, codes, decimal, unwrap_or}
use Rattle.nv_lines.specs.Line.{text_of, parted}
use Rattle.nv_lines.specs.Format.{FirstFault}
use Rattle.nv_base.specs.Memories.{Memories, IsAccess, blank, first_too_large, first_word, stored}
use Rattle.nv_base.specs.MemoryNames.{memory_name}
use Rattle.nv_memtext.specs.declared.line.Stretch.{Stretch}
use Rattle.nv_memtext.specs.Places.{room}
use Rattle.nv_memtext.specs.Spelling.{SpellWords}

-- line 1: `memory`, the words of SRAM and the quadwords of SDRAM, each of at most ten digits
pub record SpellsSizes (line : List ℕ) (sram sdram : ℕ) : Type 0 where
  pub sram_digits : sram < 10 ^ 10
  pub sdram_digits : sdram < 10 ^ 10
  pub spelled : line ≡ parted (codes "memory" ∷ decimal sram ∷ decimal sdram ∷ [])

-- line 2: `args` and at most eight words
pub record SpellsArgs (line : List ℕ) (args : List ℕ) : Type 0 where
  pub parts : List (List ℕ)
  pub spelled : line ≡ parted (codes "args" ∷ parts)
  pub words : SpellWords parts args
  pub eight : length args ≤ 8

-- each further line: the memory's name, the address, and 1 to 8 words, at SDRAM an even number, inside the memory
pub record SpellsStretch (sram sdram : ℕ) (line : List ℕ) (s : Stretch) : Type 0 where
  pub parts : List (List ℕ)
  pub spelled : line ≡ parted (memory_name s.mem ∷ decimal s.at ∷ parts)
  pub words : SpellWords parts s.words
  pub number : IsAccess s.mem (length s.words)
  pub inside : first_word s.mem s.at + length s.words ≤ room sram sdram s.mem

-- each line gives the stretch at its place
abbrev pub SpellStretches : ℕ → ℕ → List (List ℕ) → List Stretch → Type 0
SpellStretches sram sdram [] [] = Unit {0}
SpellStretches sram sdram (l ∷ ls) (s ∷ ss) = SpellsStretch sram sdram l s × SpellStretches sram sdram ls ss
SpellStretches sram sdram [] (s ∷ ss) = ⊥
SpellStretches sram sdram (l ∷ ls) [] = ⊥

-- the memories with these stretches put in, a later one over an earlier one
abbrev pub stretched : Memories → List Stretch → Memories
stretched p [] = p
stretched p (s ∷ ss) = stretched (unwrap_or (stored s.mem s.at s.words p) p) ss

-- the lines of a memory text that gives these memories and arguments
pub record IsMemoryText (params : ℕ) (ls : List (List ℕ)) (p : Memories) (args : List ℕ) : Type 0 where
  pub sram : ℕ
  pub sdram : ℕ
  pub first : List ℕ
  pub second : List ℕ
  pub others : List (List ℕ)
  pub stretches : List Stretch
  pub lines : ls ≡ first ∷ second ∷ others
  pub sizes : SpellsSizes first sram sdram
  pub small : first_too_large sram sdram ≡ None
  pub arguments : SpellsArgs second args
  pub number : length args ≡ params
  pub spelled : SpellStretches sram sdram others stretches
  pub memories : p ≡ stretched (blank sram sdram) stretches

-- the lines are a whole memory text
pub record IsWhole (params : ℕ) (ls : List (List ℕ)) : Type 0 where
  pub memories : Memories
  pub args : List ℕ
  pub text : IsMemoryText params ls memories args

-- the lines begin a memory text: none, a first line with sizes that aren't too large, or two and more that are a
-- whole text already
pub data IsFront (params : ℕ) (ls : List (List ℕ)) : Type 0 where
  nothing : ls ≡ [] → IsFront params ls
  one_line : (line : List ℕ) (sram sdram : ℕ) → ls ≡ line ∷ [] → SpellsSizes line sram sdram → first_too_large sram sdram ≡ None → IsFront params ls
  lines : IsWhole params ls → IsFront params ls

-- line 1 is well formed, and n is the first size in it that is above 65,536
pub record IsTooLarge (bytes : List ℕ) (n : ℕ) : Type 0 where
  pub line : List ℕ
  pub back : List ℕ
  pub sram : ℕ
  pub sdram : ℕ
  pub first : bytes ≡ line ++ 10 ∷ back
  pub sizes : SpellsSizes line sram sdram
  pub large : first_too_large sram sdram ≡ Some n

-- no size is too large, and line n is the first that isn't of the format
pub record IsBad (params : ℕ) (bytes : List ℕ) (n : ℕ) : Type 0 where
  pub not_large : (size : ℕ) → ¬ IsTooLarge bytes size
  pub fault : FirstFault (IsFront params) (IsWhole params) bytes n

-- the bytes are a memory text that gives these memories and arguments
pub record Gives (params : ℕ) (bytes : List ℕ) (p : Memories) (args : List ℕ) : Type 0 where
  pub lines : List (List ℕ)
  pub spelled : bytes ≡ text_of lines
  pub text : IsMemoryText params lines p args

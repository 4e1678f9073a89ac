-- What a reader of a memory text has read, and what is left.
use Rattle.std.specs.Prelude.{◌≡◌, ℕ, ◌+◌, ◌*◌, List, ◌∷◌, ◌++◌, None, length}
use Rattle.nv_lines.specs.Line.{Lacks, text_of}
use Rattle.nv_base.specs.Memories.{Memories, blank, first_too_large}
use Rattle.nv_memtext.specs.declared.line.Stretch.{Stretch}
use Rattle.nv_memtext.specs.MemoryText.{SpellsSizes, SpellsArgs, SpellStretches, stretched}

-- the first line, whose sizes aren't too large
pub record HasFirst (bytes rest : List ℕ) (sram sdram : ℕ) : Type 0 where
  pub line : List ℕ
  pub lack : Lacks 10 line
  pub spelled : bytes ≡ line ++ 10 ∷ rest
  pub sizes : SpellsSizes line sram sdram
  pub small : first_too_large sram sdram ≡ None

-- the first two lines and some stretches, so many lines in all
pub record HasLines (params sram sdram : ℕ) (bytes rest : List ℕ) (p : Memories) (args : List ℕ) (count : ℕ) : Type 0 where
  pub first : List ℕ
  pub second : List ℕ
  pub others : List (List ℕ)
  pub stretches : List Stretch
  pub spelled : bytes ≡ text_of (first ∷ second ∷ others) ++ rest
  pub sizes : SpellsSizes first sram sdram
  pub small : first_too_large sram sdram ≡ None
  pub arguments : SpellsArgs second args
  pub number : length args ≡ params
  pub spells : SpellStretches sram sdram others stretches
  pub memories : p ≡ stretched (blank sram sdram) stretches
  pub counted : length others + 2 ≡ count

-- the memories have these sizes
pub record HasLengths (p : Memories) (sram sdram : ℕ) : Type 0 where
  pub sram_words : length p.sram ≡ sram
  pub sdram_words : length p.sdram ≡ 2 * sdram
  pub scratch_words : length p.scratch ≡ 1024

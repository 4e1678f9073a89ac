-- Words and sizes of the memories.
use Rattle.std.specs.Prelude.{ℕ, ◌/◌, List, [], ◌∷◌}
use Rattle.std.specs.Int.{w32, from_be_bytes}
use Rattle.nv_base.specs.Memories.{source_scratch}
use Rattle.nv_base.specs.declared.term.Mem.{Mem}
use Rattle.nv_base.specs.declared.term.Mem.TheVariants.{Sram, Sdram, Scratch}

-- big-endian words of bytes, with zeros for the last bytes that lack
abbrev pub words_of : List ℕ → List ℕ
words_of [] = []
words_of (a ∷ []) = from_be_bytes w32 (a ∷ 0 ∷ 0 ∷ 0 ∷ []) ∷ []
words_of (a ∷ b ∷ []) = from_be_bytes w32 (a ∷ b ∷ 0 ∷ 0 ∷ []) ∷ []
words_of (a ∷ b ∷ c ∷ []) = from_be_bytes w32 (a ∷ b ∷ c ∷ 0 ∷ []) ∷ []
words_of (a ∷ b ∷ c ∷ d ∷ bs) = from_be_bytes w32 (a ∷ b ∷ c ∷ d ∷ []) ∷ words_of bs

-- how many addresses so many words take
abbrev pub addresses : Mem → ℕ → ℕ
addresses Sram n = n
addresses Sdram n = n / 2
addresses Scratch n = n

-- the size of a memory: of scratch it is the part that programs have
abbrev pub size_of : ℕ → ℕ → Mem → ℕ
size_of sram sdram Sram = sram
size_of sram sdram Sdram = sdram
size_of sram sdram Scratch = source_scratch

-- Where the words of a memory stand in memory and outcome texts.
use Rattle.std.specs.Prelude.{ℕ, ◌*◌}
use Rattle.nv_base.specs.Memories.{source_scratch}
use Rattle.nv_base.specs.declared.term.Mem.{Mem}
use Rattle.nv_base.specs.declared.term.Mem.TheVariants.{Sram, Sdram, Scratch}

-- how many words of a memory a text may give: of scratch those of the source
abbrev pub room : ℕ → ℕ → Mem → ℕ
room sram sdram Sram = sram
room sram sdram Sdram = 2 * sdram
room sram sdram Scratch = source_scratch

-- the address of a memory's stretch k: stretches have eight words, and a quadword has two
abbrev pub stretch_start : Mem → ℕ → ℕ
stretch_start Sram k = 8 * k
stretch_start Sdram k = 4 * k
stretch_start Scratch k = 8 * k

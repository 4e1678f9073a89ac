-- The names of memories in texts.
use Rattle.std.specs.Prelude.{ℕ, List, codes}
use Rattle.nv_base.specs.declared.term.Mem.{Mem}
use Rattle.nv_base.specs.declared.term.Mem.TheVariants.{Sram, Sdram, Scratch}

abbrev pub memory_name : Mem → List ℕ
memory_name Sram = codes "sram"
memory_name Sdram = codes "sdram"
memory_name Scratch = codes "scratch"

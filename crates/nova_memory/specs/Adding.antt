-- Sizes that grow.
use Rattle.std.specs.Prelude.{ℕ, max}
use Rattle.nv_base.specs.declared.term.Mem.{Mem}
use Rattle.nv_base.specs.declared.term.Mem.TheVariants.{Sram, Sdram, Scratch}
use Rattle.nova_memory.specs.declared.sizes.Sizes.{Sizes}

-- sizes with which a memory reaches as far as an address
abbrev pub raised : Mem → ℕ → Sizes → Sizes
raised Sram after s = record s { sram = max s.sram after }
raised Sdram after s = record s { sdram = max s.sdram after }
raised Scratch after s = s

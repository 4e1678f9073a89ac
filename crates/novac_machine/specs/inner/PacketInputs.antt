-- Memories that a memory text gives.
use Rattle.std.specs.Prelude.{ℕ, List}
use Rattle.nv_base.specs.Memories.{Memories}
use Rattle.nv_memtext.specs.MemoryText.{Gives}

-- the text gives these memories, for so many parameters
abbrev pub GivesPacket : ℕ → List ℕ → Memories → Type 0
GivesPacket params text packet = (arguments : List ℕ) × Gives params text packet arguments

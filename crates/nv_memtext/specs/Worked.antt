-- A short memory text, and the texts of short outcomes.
use Rattle.std.specs.Prelude.{◌≡◌, ℕ, List, [], ◌∷◌, codes, replicate}
use Rattle.nv_lines.specs.Line.{text_of}
use Rattle.nv_base.specs.Log.{empty_log, noted}
use Rattle.nv_base.specs.Memories.{Memories}
use Rattle.nv_base.specs.declared.outcome.Outcome.TheVariants.{Raised}
use Rattle.nv_base.specs.declared.term.Mem.TheVariants.{Sram}
use Rattle.nv_memtext.specs.MemoryText.{Gives}
use Rattle.nv_memtext.specs.OutcomeText.{outcome_text, named_text}

-- the second line of SRAM goes over the first, and address 2 of SDRAM is its words 4 and 5
abbrev pub short_text : List ℕ
short_text = text_of (
    codes "memory 4 3"
    ∷ codes "args FFFFFFFF 0000000a"
    ∷ codes "sram 1 00000005 00000006"
    ∷ codes "sram 2 00000007"
    ∷ codes "sdram 2 00000008 00000009"
    ∷ [])

abbrev pub short_memories : Memories
short_memories = record {
  sram = 0 ∷ 5 ∷ 7 ∷ 0 ∷ [];
  sdram = 0 ∷ 0 ∷ 0 ∷ 0 ∷ 8 ∷ 9 ∷ [];
  scratch = replicate 1024 0;
}

abbrev pub ShortText : Type 0
ShortText = Gives 2 short_text short_memories (4294967295 ∷ 10 ∷ [])

-- exception 3 with one word, after one write into a packet of nine words of SRAM: only stretches that aren't all 0 are shown
abbrev pub ShortOutcome : Type 0
ShortOutcome =
    outcome_text
    (Raised 3 (3735928559 ∷ []))
    (record { sram = 0 ∷ 0 ∷ 0 ∷ 0 ∷ 0 ∷ 0 ∷ 0 ∷ 0 ∷ 10 ∷ []; sdram = []; scratch = replicate 1024 0 })
    (noted (empty_log 64) (record { mem = Sram; at = 8; words = 10 ∷ [] }))
    ≡ text_of (
    codes "raised 3 deadbeef"
    ∷ codes "writes 1"
    ∷ codes "write sram 8 0000000a"
    ∷ codes "memory 9 0"
    ∷ codes "sram 8 0000000a"
    ∷ [])

-- exception 1 with its name and line
abbrev pub NamedOutcome : Type 0
NamedOutcome =
    named_text (Raised 1 (10 ∷ [])) (3, codes "Expired") (record { sram = []; sdram = []; scratch = replicate 1024 0 }) (empty_log 64)
    ≡ text_of (
    codes "raised 1 0000000a"
    ∷ codes "exception Expired line 3"
    ∷ codes "writes 0"
    ∷ codes "memory 0 0"
    ∷ [])

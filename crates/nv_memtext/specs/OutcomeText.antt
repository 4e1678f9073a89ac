-- The text of an outcome, of the writes that a log kept, and of the memories.
use Rattle.std.specs.Prelude.{ℕ, zero, suc, ◌+◌, ◌*◌, ◌/◌, ◌==◌, List, [], ◌∷◌, ◌++◌, length, map, take, drop, codes, decimal, if◌then◌else◌}
use Rattle.std.specs.List.{flat_map, list_all}
use Rattle.nv_lines.specs.Line.{text_of, parted}
use Rattle.nv_lines.specs.Number.{hex_word}
use Rattle.nv_base.specs.Log.{Log}
use Rattle.nv_base.specs.Memories.{Memories, source_scratch}
use Rattle.nv_base.specs.MemoryNames.{memory_name}
use Rattle.nv_base.specs.declared.outcome.Outcome.{Outcome}
use Rattle.nv_base.specs.declared.outcome.Outcome.TheVariants.{Ended, Raised, Fault, Going}
use Rattle.nv_base.specs.declared.outcome.Write.{Write}
use Rattle.nv_base.specs.declared.term.Mem.{Mem}
use Rattle.nv_base.specs.declared.term.Mem.TheVariants.{Sram, Sdram, Scratch}
use Rattle.nv_memtext.specs.Places.{stretch_start}

-- how the run stands
abbrev pub outcome_line : Outcome → List ℕ
outcome_line (Ended ws) = parted (codes "ended" ∷ map hex_word ws)
outcome_line (Raised k ws) = parted (codes "raised" ∷ decimal k ∷ map hex_word ws)
outcome_line (Fault m at) = parted (codes "fault" ∷ memory_name m ∷ decimal at ∷ [])
outcome_line Going = codes "going"

-- a write: its memory, its first address and its words
abbrev pub write_line : Write → List ℕ
write_line w = parted (codes "write" ∷ memory_name w.mem ∷ decimal w.at ∷ map hex_word w.words)

-- words from an address of a memory on
abbrev pub stretch_line : Mem → ℕ → List ℕ → List ℕ
stretch_line m at ws = parted (memory_name m ∷ decimal at ∷ map hex_word ws)

-- the numbers below n, rising
abbrev pub numbers_below : ℕ → List ℕ
numbers_below zero = []
numbers_below (suc n) = numbers_below n ++ n ∷ []

-- the words of stretch k; the last stretch may be shorter
abbrev pub stretch_words : List ℕ → ℕ → List ℕ
stretch_words ws k = take 8 (drop (8 * k) ws)

-- the line of stretch k, or none where all its words are 0
abbrev pub stretch_lines : Mem → List ℕ → ℕ → List (List ℕ)
stretch_lines m ws k =
    if list_all (λ w. w == 0) (stretch_words ws k) then [] else stretch_line m (stretch_start m k) (stretch_words ws k) ∷ []

-- the lines of a memory's stretches, in order
abbrev pub memory_lines : Mem → List ℕ → List (List ℕ)
memory_lines m ws = flat_map (stretch_lines m ws) (numbers_below ((length ws + 7) / 8))

-- the sizes of SRAM, in words, and of SDRAM, in quadwords
abbrev pub sizes_line : Memories → List ℕ
sizes_line p = parted (codes "memory" ∷ decimal (length p.sram) ∷ decimal (length p.sdram / 2) ∷ [])

-- the number of writes, and the first 64 of those that were kept
abbrev pub log_lines : Log → List (List ℕ)
log_lines log = parted (codes "writes" ∷ decimal log.count ∷ []) ∷ map write_line (take 64 log.kept)

-- the sizes, and what isn't 0 of SRAM, SDRAM and the scratch of the source
abbrev pub packet_lines : Memories → List (List ℕ)
packet_lines p = sizes_line p ∷ memory_lines Sram p.sram ++ memory_lines Sdram p.sdram ++ memory_lines Scratch (take source_scratch p.scratch)

-- the writes, and then the memories
abbrev pub state_lines : Memories → Log → List (List ℕ)
state_lines p log = log_lines log ++ packet_lines p

-- how a run stands and what it wrote, without the memories
abbrev pub run_lines : Outcome → Log → List (List ℕ)
run_lines o log = outcome_line o ∷ log_lines log

-- the text of the outcome and of these lines
unfoldable pub outcome_text : Outcome → Memories → Log → List ℕ
outcome_text o p log = text_of (outcome_line o ∷ state_lines p log)

-- the name of an exception, and the line of its declaration
abbrev pub exception_line : ℕ × List ℕ → List ℕ
exception_line exception = parted (codes "exception" ∷ exception.1 ∷ codes "line" ∷ decimal exception.0 ∷ [])

-- where the outcome is an exception, the line with its name
abbrev pub name_lines : Outcome → ℕ × List ℕ → List (List ℕ)
name_lines (Raised k ws) exception = exception_line exception ∷ []
name_lines _ exception = []

-- the text of the outcome, of the name and the line of its exception, and of the other lines
unfoldable pub named_text : Outcome → ℕ × List ℕ → Memories → Log → List ℕ
named_text o exception p log = text_of (outcome_line o ∷ name_lines o exception ++ state_lines p log)

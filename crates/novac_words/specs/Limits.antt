-- How many bytes the files that commands read may have; and the slots, the branches and the instructions that words can ask for.
use Rattle.std.specs.Prelude.{ℕ}
-- a source
pub use Rattle.nv_text.specs.Limits.{source_limit}

-- an object: 2 ^ 20 instructions, 65,535 exceptions with the longest names, 2 ^ 20 starts, and the header
abbrev pub object_limit : ℕ
object_limit = 17104847

-- a memory text
abbrev pub memory_limit : ℕ
memory_limit = 4194304

-- an assembly text
abbrev pub assembly_limit : ℕ
assembly_limit = 67108864

-- a schedule
abbrev pub schedule_limit : ℕ
schedule_limit = 4194304

-- a text of weights
abbrev pub weights_limit : ℕ
weights_limit = 16777216

-- a report
abbrev pub report_limit : ℕ
report_limit = 67108864

-- how many slots code may have for values without a register: the most that the words of `compile` can say, and where they
-- don't say it
abbrev pub slots_limit : ℕ
slots_limit = 128

-- how many branches the search for banks may take: where the words don't say it, and the most that they can say
abbrev pub budget_default : ℕ
budget_default = 2000

abbrev pub budget_limit : ℕ
budget_limit = 1000000

-- how many instructions code may have: where the words don't say it, and the most that they can say
abbrev pub store_default : ℕ
store_default = 2048

abbrev pub store_limit : ℕ
store_limit = 1048576

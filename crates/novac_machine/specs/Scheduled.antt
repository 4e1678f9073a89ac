-- What the command for contexts does, and why it refuses.
use Rattle.std.specs.Prelude.{◌≡◌, ◌⊎◌, ℕ, suc, List, [], ◌∷◌, ◌++◌, codes, decimal}
use Rattle.nv_lines.specs.Line.{text_of, parted}
use Rattle.nv_base.specs.Memories.{Memories}
use Rattle.nv_base.specs.MemoryNames.{memory_name}
use Rattle.nv_base.specs.declared.outcome.Outcome.{Outcome}
use Rattle.nv_base.specs.declared.outcome.Outcome.TheVariants.{Ended}
use Rattle.nv_base.specs.declared.term.Mem.{Mem}
use Rattle.nv_memtext.specs.MemoryText.{Gives}
use Rattle.nv_memtext.specs.OutcomeText.{run_lines, packet_lines}
use Rattle.uc_schedule.specs.ScheduleText.{IsBad, Gives as GivesTurns}
use Rattle.uc_contexts.specs.declared.state.Context.{Context}
use Rattle.uc_contexts.specs.Alone.{AreDisjoint, all_alone, lone_runs}
use Rattle.uc_contexts.specs.Footprints.{Isolated}
use Rattle.uc_contexts.specs.Marked.{IsFirstCommon}
use Rattle.uc_contexts.specs.Turns.{System, entries, scheduled, started}
use Rattle.uc_isa.specs.Code.{CodeView}
use Rattle.uc_isa.specs.Lawful.{IsLawful}
use Rattle.uc_object.specs.Object.{IsObject, code_of}
use Rattle.uc_object.specs.declared.object.Object.{Object}
use Rattle.novac_words.specs.Status.{outcome_status}
use Rattle.novac_words.specs.declared.status.Status.{Status}
use Rattle.novac_words.specs.declared.status.Status.TheVariants.{Done}
use Rattle.novac_words.specs.declared.refusal.Refusal.{Refusal}
use Rattle.novac_words.specs.declared.refusal.Refusal.TheVariants.{BadSchedule}
use Rattle.novac_machine.specs.Machine.{HasCode, RunRefuses}

-- a context's number, how its run stands, and what it wrote
abbrev pub one_context : ℕ → Context → List (List ℕ)
one_context i x = parted (codes "context" ∷ decimal i ∷ []) ∷ run_lines x.outcome x.log

-- the lines of contexts, from number i on
abbrev pub context_lines : ℕ → List Context → List (List ℕ)
context_lines i [] = []
context_lines i (x ∷ xs) = one_context i x ++ context_lines (suc i) xs

-- whether the runs, each alone, can disturb one another
abbrev pub disjoint_line : List ℕ
disjoint_line = codes "disjoint"

abbrev pub shared_line : Mem → ℕ → List ℕ
shared_line m a = parted (codes "shared" ∷ memory_name m ∷ decimal a ∷ [])

-- no address that one run writes is read or written by another, and the line says so; or it has the first such address
abbrev pub TellsShared : CodeView → Memories → List Isolated → List ℕ → Type 0
TellsShared c p runs line =
    (AreDisjoint c p runs × (line ≡ disjoint_line)) ⊎ ((m : Mem) × (a : ℕ) × IsFirstCommon c p runs m a × (line ≡ shared_line m a))

-- the text of contexts and of the packet that they share, with that line
abbrev pub system_text : System → List ℕ → List ℕ
system_text s line = text_of (context_lines 0 s.contexts ++ line ∷ packet_lines s.packet)

-- the status of an outcome that isn't an end; of an end, that of what is after it
abbrev pub unless_ended : Outcome → Status → Status
unless_ended (Ended ws) behind = behind
unless_ended o behind = outcome_status o

-- the status of the first context that didn't end
abbrev pub contexts_status : List Context → Status
contexts_status [] = Done
contexts_status (x ∷ xs) = unless_ended x.outcome (contexts_status xs)

-- the status and the text are those of contexts that took turns by the schedule. Where the line is `disjoint`, each context's
-- outcome and writes are those of the engine alone, after as many steps as it has entries
pub record HaveTakenTurns (c : CodeView) (p : Memories) (args : List (List ℕ)) (schedule : List ℕ) (status : Status) (text : List ℕ) : Type 0 where
  pub line : List ℕ
  pub tells : TellsShared c p (lone_runs schedule args) line
  pub ends : status ≡ contexts_status (scheduled c.list schedule (record { contexts = started args; packet = p })).contexts
  pub prints : text ≡ system_text (scheduled c.list schedule (record { contexts = started args; packet = p })) line
  pub alone : line ≡ disjoint_line → scheduled c.list schedule (record { contexts = started args; packet = p }) ≡ all_alone c p (lone_runs schedule args)

-- the bytes are an object of lawful code, whose contexts took turns by the schedule, on the memory text; the first has the
-- arguments of that text
pub record IsScheduled (bytes memory turns : List ℕ) (status : Status) (text : List ℕ) : Type 0 where
  pub o : Object
  pub object : IsObject bytes o
  pub lawful : IsLawful (code_of o).list
  pub packet : Memories
  pub arguments : List ℕ
  pub given : Gives (code_of o).params memory packet arguments
  pub others : List (List ℕ)
  pub pairs : List (ℕ × ℕ)
  pub schedule : GivesTurns (code_of o).params turns others pairs
  pub taken : HaveTakenTurns (code_of o) packet (arguments ∷ others) (entries pairs) status text

-- the schedule isn't of its form for so many parameters
abbrev pub IsScheduleRefusedFor : ℕ → List ℕ → Refusal → Type 0
IsScheduleRefusedFor params text (BadSchedule n) = IsBad params text n
IsScheduleRefusedFor params text _ = ⊥

-- the text is a memory text for so many parameters
abbrev pub IsMemory : ℕ → List ℕ → Type 0
IsMemory params text = (packet : Memories) × (arguments : List ℕ) × Gives params text packet arguments

-- the object or the memory text is refused, or else the schedule
abbrev pub ContextsRefuse : List ℕ → List ℕ → List ℕ → Refusal → Type 0
ContextsRefuse bytes memory turns e =
    RunRefuses bytes memory e ⊎ HasCode bytes (λ c. IsLawful c.list × IsMemory c.params memory × IsScheduleRefusedFor c.params turns e)

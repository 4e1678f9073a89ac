-- A compiled object runs as its source does.
use Rattle.std.proofs.Common.{◌≡◌, ◌≢◌, ◌∙◌, refl, ap, sym, subst, ℕ, List, [], ◌∷◌, ◌++◌, Option, Some, None, unwrap_or, inl, inr, arith}
use Rattle.std.specs.Fmt.{digits}
use Rattle.std.proofs.lemmas.Bool.{cases_lt}
use Rattle.nv_lines.specs.Line.{text_of}
use Rattle.nv_lines.specs.Number.{hex_word}
use Rattle.nv_base.specs.Log.{empty_log, noted_all}
use Rattle.nv_base.specs.Meanings.{FullOutcome, IsOver, Meaning, Same, seen}
use Rattle.nv_base.specs.Memories.{blank, HasSizes, Memories, stored}
use Rattle.nv_base.specs.Progress.{IsMonotone}
use Rattle.nv_base.specs.declared.outcome.Outcome.{Outcome}
use Rattle.nv_base.specs.declared.outcome.Outcome.TheVariants as outcome
use Rattle.nv_base.specs.declared.term.Mem.TheVariants.{Scratch, Sdram, Sram}
use Rattle.nv_base.proofs.Blank.{blank-sizes}
use Rattle.nv_base.proofs.MemoryLemmas.{stored-sizes}
use Rattle.nv_base.proofs.Same.{before-over, over-along}
use Rattle.nv_ast.specs.Sizes.{main_words}
use Rattle.nv_ast.specs.Tree.{ProgramTree}
use Rattle.nv_meaning.specs.Meaning.{source}
use Rattle.nv_memtext.specs.MemoryText.{Gives, SpellStretches, stretched}
use Rattle.nv_memtext.specs.OutcomeText.{log_lines, memory_lines, outcome_line, outcome_text, sizes_line}
use Rattle.nv_memtext.specs.declared.line.Stretch.{Stretch}
use Rattle.nv_memtext.proofs.ExactLemmas.{gives_one}
use Rattle.nv_memtext.proofs.TextLemmas.{small_sizes}
use Rattle.ssu_ir.specs.Meaning.{ssu_meaning}
use Rattle.uc_isa.specs.Agrees.{Agrees, IsStart}
use Rattle.uc_isa.specs.Engine.{engine}
use Rattle.uc_isa.specs.Lawful.{IsLawful}
use Rattle.uc_isa.proofs.Steps.{engine-grows}
use Rattle.uc_object.specs.Object.{IsObject, code_of}
use Rattle.uc_object.specs.Tagged.{TaggedView}
use Rattle.uc_object.specs.declared.object.Object.{Object}
use Rattle.uc_object.specs.declared.object.Object.TheVariants.{Two}
use Rattle.uc_object.proofs.Spelling.{object-one}
use Rattle.novac_words.specs.Status.{outcome_status}
use Rattle.novac_words.specs.declared.status.Status.{Status}
use Rattle.novac_words.specs.declared.status.Status.TheVariants.{Raised, StepsSpent}
use Rattle.novac_machine.specs.Machine.{full_text, IsRun, printed_text, raised_name, run_text, shown_writes, spill_base}
use Rattle.nova_compile.specs.Sources.{IsTypedSource}
use Rattle.nova_compile.proofs.OneSource.{source-program}
use Rattle.nv_generate.specs.Made.{made}
use Rattle.novac_commands.specs.Executing.{IsExecuted}
use Rattle.novac_commands.specs.Generating.{IsGenerated, MeansWord}
use Rattle.novac_commands.proofs.Agreeing.{words-small}
use Rattle.novac_commands.proofs.Complete.{no-refusal}
use Rattle.laws_commands.specs.Runs.{CompiledRunsAsSource, CountsAsSource, GeneratedLines, RunsAsSource}

-- ---- what a memory text gives may start a run

stretched_sizes : (sram sdram : ℕ) (ls : List (List ℕ)) (ss : List Stretch) (p : Memories) → SpellStretches sram sdram ls ss → HasSizes p → HasSizes (stretched p ss)
stretched_sizes sram sdram [] [] p h sizes = sizes
stretched_sizes sram sdram [] (s ∷ ss) p h sizes = absurd h
stretched_sizes sram sdram (l ∷ ls) [] p h sizes = absurd h
stretched_sizes sram sdram (l ∷ ls) (s ∷ ss) p h sizes = stretched_sizes sram sdram ls ss (unwrap_or (stored s.mem s.at s.words p) p) h.1 (by (stored s.mem s.at s.words p) refl)
  where
    by : (o : Option Memories) → stored s.mem s.at s.words p ≡ o → HasSizes (unwrap_or o p)
    by None e = sizes
    by (Some q) e = stored-sizes s.mem s.at s.words p q sizes (words-small h.0.parts s.words h.0.words) e

given_start : (params : ℕ) (bytes : List ℕ) (p : Memories) (args : List ℕ) → Gives params bytes p args → IsStart params args p spill_base
given_start params bytes p args g =
    let t = g.text in
    let small = small_sizes t.sram t.sdram t.small in
    record {
      words = (t.number, words-small t.arguments.parts args t.arguments.words);
      memories = subst HasSizes (sym t.memories) (stretched_sizes t.sram t.sdram t.others t.stretches (blank t.sram t.sdram) t.spelled (blank-sizes t.sram t.sdram small.0 small.1));
      spills = (omega arith, omega arith);
    }

-- ---- statuses and texts of outcomes

is_over : (o : Outcome) → outcome_status o ≢ StepsSpent → IsOver o
is_over (outcome.Ended ws) not = tt
is_over (outcome.Raised k ws) not = tt
is_over (outcome.Fault m at) not = tt
is_over outcome.Going not = absurd (not refl)

-- the text rests on what is seen of a full outcome
seen_text : FullOutcome → List ℕ
seen_text f = text_of (outcome_line f.outcome ∷ (log_lines (noted_all (empty_log shown_writes) f.writes) ++ (sizes_line f.packet ∷ memory_lines Sram f.packet.sram ++ memory_lines Sdram f.packet.sdram ++ memory_lines Scratch f.packet.scratch)))

text_by_seen : (f : FullOutcome) → full_text f ≡ seen_text (seen f)
unfolding outcome_text seen_text
text_by_seen f = refl

same_text : (f g : FullOutcome) → seen f ≡ seen g → full_text f ≡ full_text g
same_text f g e = text_by_seen f ∙ ap seen_text e ∙ sym (text_by_seen g)

-- an object's text is that, unless the outcome is an exception
plain_by : (o : Object) (how : Outcome) (f : FullOutcome) → outcome_status how ≢ Raised → printed_text (raised_name o how) f ≡ full_text f
plain_by o (outcome.Ended ws) f not = refl
plain_by o (outcome.Raised k ws) f not = absurd (not refl)
plain_by o (outcome.Fault m at) f not = refl
plain_by o outcome.Going f not = refl

plain_text : (o : Object) (f : FullOutcome) → outcome_status f.outcome ≢ Raised → run_text o f ≡ full_text f
plain_text o f not = plain_by o f.outcome f not

-- ---- one start

-- two meanings that are the same, of which one only goes on with more steps: where both are over, the same is seen
both_over : (m n : Meaning) → Same m n → IsMonotone n → (i j : ℕ) → IsOver (m i).outcome → IsOver (n j).outcome → seen (m i) ≡ seen (n j)
both_over m n same grows i j over ended =
    let lands = same.ends i over in
    let there : IsOver (n lands.0).outcome = over-along (m i) (n lands.0) lands.1 over in
    elim (cases_lt lands.0 j) [
      | inl less ↦ lands.1 ∙ before-over (n lands.0) (n j) (grows lands.0 j (omega arith)) there
      | inr most ↦ lands.1 ∙ sym (before-over (n j) (n lands.0) (grows j lands.0 most) ended)
    ]

-- a run of an object and a run of a program, each from these arguments and memories
record RunAt (o : Object) (memory : List ℕ) (p : Memories) (args : List ℕ) (steps : ℕ) (status : Status) (out : List ℕ) : Type 0 where
  given : Gives (code_of o).params memory p args
  ends : status ≡ outcome_status (engine (code_of o) args spill_base p steps).outcome
  prints : out ≡ run_text o (engine (code_of o) args spill_base p steps)

run_at : (bytes memory : List ℕ) (o : Object) (steps : ℕ) (status : Status) (out : List ℕ) → IsObject bytes o → (h : IsRun bytes memory steps status out) → RunAt o memory h.packet h.arguments steps status out
run_at bytes memory o steps status out is h =
    let at : RunAt h.o memory h.packet h.arguments steps status out = record { given = h.given; ends = h.ends; prints = h.prints } in
    subst (λ x. RunAt x memory h.packet h.arguments steps status out) (object-one bytes h.o o h.object is) at

record ExecAt (program : ProgramTree) (memory : List ℕ) (p : Memories) (args : List ℕ) (calls : ℕ) (status : Status) (out : List ℕ) : Type 0 where
  given : Gives (main_words program) memory p args
  ends : status ≡ outcome_status (source program args p calls).outcome
  prints : out ≡ full_text (source program args p calls)

exec_at : (text memory : List ℕ) (program : ProgramTree) (calls : ℕ) (status : Status) (out : List ℕ) → IsTypedSource text program → (h : IsExecuted text memory calls status out) → ExecAt program memory h.packet h.arguments calls status out
exec_at text memory program calls status out is h =
    let at : ExecAt h.program memory h.packet h.arguments calls status out = record { given = h.given; ends = h.ends; prints = h.prints } in
    subst (λ x. ExecAt x memory h.packet h.arguments calls status out) (source-program text h.program program h.is_source.is_source is.is_source) at

-- both from one memory text
module _ (text object memory : List ℕ) (program : ProgramTree) (tagged : TaggedView) (typed : IsTypedSource text program) (is : IsObject object (Two tagged)) (lawful : IsLawful tagged.code.list) (agrees : Agrees (main_words program) (source program) tagged.code) where
  same_at : (p : Memories) (args : List ℕ) (steps calls : ℕ) (status status' : Status) (out out' : List ℕ) → RunAt (Two tagged) memory p args steps status out → ExecAt program memory p args calls status' out'
      → status ≢ StepsSpent → status' ≢ StepsSpent → (status ≡ status') × (status ≢ Raised → out ≡ out')
  same_at p args steps calls status status' out out' h k over over' =
      let start : IsStart (main_words program) args p spill_base = given_start (main_words program) memory p args k.given in
      let told : seen (source program args p calls) ≡ seen (engine tagged.code args spill_base p steps) =
      both_over (source program args p) (engine tagged.code args spill_base p) (agrees.same args p spill_base start) (engine-grows tagged.code args spill_base p) calls steps
      (is_over (source program args p calls).outcome (λ e. over' (k.ends ∙ e))) (is_over (engine tagged.code args spill_base p steps).outcome (λ e. over (h.ends ∙ e))) in
      let ended : status ≡ status' = h.ends ∙ sym (ap (λ (f : FullOutcome). outcome_status f.outcome) told) ∙ sym k.ends in (
        ended,
        λ not. h.prints ∙ plain_text (Two tagged) (engine tagged.code args spill_base p steps) (λ e. not (h.ends ∙ e)) ∙ sym (same_text (source program args p calls) (engine tagged.code args spill_base p steps) told) ∙ sym k.prints,
      )

  same : (steps calls : ℕ) (status status' : Status) (out out' : List ℕ) → IsRun object memory steps status out → IsExecuted text memory calls status' out' → status ≢ StepsSpent → status' ≢ StepsSpent → (status ≡ status') × (status ≢ Raised → out ≡ out')
  same steps calls status status' out out' h k over over' =
      let a = run_at object memory (Two tagged) steps status out is h in
      let b = exec_at text memory program calls status' out' typed k in
      let gives = gives_one (main_words program) memory h.packet k.packet h.arguments k.arguments (subst (λ n. Gives n memory h.packet h.arguments) agrees.parameters a.given) b.given in
      let at : RunAt (Two tagged) memory k.packet k.arguments steps status out =
      subst (λ x. RunAt (Two tagged) memory k.packet x steps status out) gives.1 (subst (λ x. RunAt (Two tagged) memory x h.arguments steps status out) gives.0 a) in
      same_at k.packet k.arguments steps calls status status' out out' at b over over'

  comes : (calls : ℕ) (status : Status) (out : List ℕ) → IsExecuted text memory calls status out → status ≢ StepsSpent → (steps : ℕ) × (out' : List ℕ) × IsRun object memory steps status out'
  comes calls status out k over =
      let b = exec_at text memory program calls status out typed k in
      let start : IsStart (main_words program) k.arguments k.packet spill_base = given_start (main_words program) memory k.packet k.arguments b.given in
      let lands = (agrees.same k.arguments k.packet spill_base start).ends calls (is_over (source program k.arguments k.packet calls).outcome (λ e. over (b.ends ∙ e))) in (
        lands.0,
        run_text (Two tagged) (engine tagged.code k.arguments spill_base k.packet lands.0),
        record {
          o = Two tagged;
          object = is;
          lawful = lawful;
          packet = k.packet;
          arguments = k.arguments;
          given = subst (λ n. Gives n memory k.packet k.arguments) (sym agrees.parameters) b.given;
          ends = b.ends ∙ ap (λ (f : FullOutcome). outcome_status f.outcome) lands.1;
          prints = refl;
        },
      )

  only : (steps : ℕ) (status : Status) (out : List ℕ) → IsRun object memory steps status out → status ≢ StepsSpent → (calls : ℕ) × (out' : List ℕ) × IsExecuted text memory calls status out'
  only steps status out h over =
      let a = run_at object memory (Two tagged) steps status out is h in
      let given : Gives (main_words program) memory h.packet h.arguments = subst (λ n. Gives n memory h.packet h.arguments) agrees.parameters a.given in
      let start : IsStart (main_words program) h.arguments h.packet spill_base = given_start (main_words program) memory h.packet h.arguments given in
      let lands = (agrees.same h.arguments h.packet spill_base start).ends_only steps (is_over (engine tagged.code h.arguments spill_base h.packet steps).outcome (λ e. over (a.ends ∙ e))) in (
        lands.0,
        full_text (source program h.arguments h.packet lands.0),
        record {
          program = program;
          is_source = typed;
          packet = h.packet;
          arguments = h.arguments;
          given = given;
          ends = a.ends ∙ sym (ap (λ (f : FullOutcome). outcome_status f.outcome) lands.1);
          prints = refl;
        },
      )

  runs : RunsAsSource text object memory
  runs = record { same = same; comes = comes; only = only }

pub compiled_runs : CompiledRunsAsSource
compiled_runs text object report slots ws budget store instructions r c memory = runs text object memory c.program c.tagged c.is_source c.decodes c.lawful c.agrees

-- ---- counts

pub counts_run : CountsAsSource
counts_run text memory name jumps status files out c over =
    let lands = c.same (is_over (ssu_meaning c.form c.arguments c.packet jumps).outcome (λ e. over (c.ends ∙ e))) in (
      lands.0,
      record {
        program = c.program;
        is_source = c.is_source;
        packet = c.packet;
        arguments = c.arguments;
        given = c.given;
        ends = c.ends ∙ sym (ap (λ (f : FullOutcome). outcome_status f.outcome) lands.1);
        prints = c.prints ∙ sym (same_text (source c.program c.arguments c.packet lands.0) (ssu_meaning c.form c.arguments c.packet jumps) lands.1);
      },
    )

-- ---- made sources

same_word : (v w : ℕ) → outcome.Ended (v ∷ []) ≡ outcome.Ended (w ∷ []) → v ≡ w
same_word v w e = cc

one_word : (seed size : ℕ) (line line' : List ℕ) (h : IsGenerated seed size line) (k : IsGenerated seed size line') → h.word ≡ k.word
one_word seed size line line' h k =
    let same = source-program (made seed size) h.program k.program h.is_source.is_source k.is_source.is_source in
    let means : MeansWord k.program h.word = subst (λ p. MeansWord p h.word) same h.means in
    same_word h.word k.word (sym (means (blank 0 0) 1) ∙ k.means (blank 0 0) 1)

pub generated_lines : GeneratedLines
unfolding digits hex_word
generated_lines = record { line = refl; one_word = one_word; small = no-refusal }

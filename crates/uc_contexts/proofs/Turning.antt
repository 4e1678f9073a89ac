-- Turns of one context, one after the other, are the steps of a run.
use Rattle.std.proofs.Common.{◌≡◌, ℕ, zero, suc, ◌+◌, ◌≤◌, List, [], ◌∷◌, ◌++◌, refl, ap, sym, subst, ◌∙◌, arith}
use Rattle.nv_base.specs.declared.outcome.Write.{Write as WriteEvent}
use Rattle.nv_base.specs.declared.outcome.Outcome.{Outcome}
use Rattle.nv_base.specs.declared.outcome.Outcome.TheVariants as outcome
use Rattle.nv_base.specs.Log.{Log, noted_all}
use Rattle.nv_base.specs.Memories.{Memories}
use Rattle.nv_base.specs.Meanings.{FullOutcome, IsOver, source_writes}
use Rattle.nv_base.proofs.LogLemmas.{noted-one, noted-count}
use Rattle.uc_isa.specs.Step.{Next, EndsRun, step}
use Rattle.uc_isa.specs.Engine.{run, continue_run, halted, after}
use Rattle.uc_isa.specs.declared.instruction.Instr.{Instr}
use Rattle.uc_isa.specs.declared.engine.Engine.{Engine}
use Rattle.uc_isa.specs.declared.engine.Stepped.{Stepped}
use Rattle.uc_isa.specs.declared.engine.Stepped.TheVariants.{Went, Wrote, Halted, Fault}
use Rattle.uc_isa.proofs.Steps.{step-rests, after-rests}
use Rattle.uc_contexts.specs.declared.state.Context.{Context}
use Rattle.uc_contexts.specs.Turns.{Turn, turn, turn_at, turns, outcome_of, written}

-- a context that is over stays as it is
pub turn-over : (o : Outcome) (code : List Instr) (x : Context) (p : Memories) → IsOver o → turn_at o code x p ≡ record { context = x; packet = p }
turn-over outcome.Going code x p h = absurd h
turn-over (outcome.Ended ws) code x p h = refl
turn-over (outcome.Raised k ws) code x p h = refl
turn-over (outcome.Fault m at) code x p h = refl

pub turns-over : (code : List Instr) (n : ℕ) (x : Context) (p : Memories) → IsOver x.outcome → turns code n x p ≡ record { context = x; packet = p }
turns-over code zero x p h = refl
turns-over code (suc n) x p h = ap (λ (t : Turn). turns code n t.context t.packet) (turn-over x.outcome code x p h) ∙ turns-over code n x p h

-- a context that is going
abbrev pub running : Engine → Log → Context
running e log = record { engine = e; outcome = outcome.Going; log = log }

-- turns led to what a run gives, its writes noted behind those of a log
pub record Runs (t : Turn) (f : FullOutcome) (e : Engine) (before : Log) : Type 0 where
  pub engine : t.context.engine ≡ e
  pub outcome : t.context.outcome ≡ f.outcome
  pub log : t.context.log ≡ noted_all before (source_writes f.writes)
  pub packet : t.packet ≡ f.packet

-- where a step ended the run, the engine stays
rest-after : (code : List Instr) (n : ℕ) (e : Engine) (p : Memories) → let s = step code e p in EndsRun s.stepped → (after code n s.engine s.packet).engine ≡ s.engine
rest-after code n e p h =
    let s : Next = step code e p in
    let r : (s.engine ≡ e) × (s.packet ≡ p) = step-rests code e p h in
    ap (λ x. (after code n x s.packet).engine) r.0 ∙ ap (λ x. (after code n e x).engine) r.1 ∙ after-rests code n e p h ∙ sym r.0

over-runs : (code : List Instr) (n : ℕ) (o : Outcome) (e e' : Engine) (p : Memories) (log log0 : Log) (ws : List WriteEvent) → IsOver o → log ≡ noted_all log0 (source_writes ws) → e' ≡ e
    → Runs (turns code n (record { engine = e; outcome = o; log = log }) p) (record { outcome = o; packet = p; writes = ws }) e' log0
over-runs code n o e e' p log log0 ws over h rests =
    let x : Context = record { engine = e; outcome = o; log = log } in
    let f : FullOutcome = record { outcome = o; packet = p; writes = ws } in
    let there : Runs (record { context = x; packet = p }) f e' log0 = record { engine = sym rests; outcome = refl; log = h; packet = refl } in
    subst (λ (t : Turn). Runs t f e' log0) (sym (turns-over code n x p over)) there

halted-over : (k : ℕ) (words : List ℕ) → IsOver (halted k words)
halted-over zero words = tt
halted-over (suc k) words = tt

go-on : (code : List Instr) (n : ℕ) (s : Stepped) (e : Engine) (p : Memories) (log log0 : Log) (ws : List WriteEvent) → log ≡ noted_all log0 (source_writes ws) → (EndsRun s → (after code n e p).engine ≡ e)
    → ((e : Engine) (p : Memories) (log : Log) (ws : List WriteEvent) → log ≡ noted_all log0 (source_writes ws) → Runs (turns code n (running e log) p) (run code n e p ws) (after code n e p).engine log0)
    → Runs (turns code n (record { engine = e; outcome = outcome_of s; log = noted_all log (source_writes (written s)) }) p) (continue_run (run code n) s e p ws) (after code n e p).engine log0
go-on code n Went e p log log0 ws h rests next = next e p log ws h
go-on code n (Wrote w) e p log log0 ws h rests next = next e p (noted_all log (source_writes (w ∷ []))) (ws ++ w ∷ []) (noted-one log log0 ws w h)
go-on code n (Halted k words) e p log log0 ws h rests next = over-runs code n (halted k words) e (after code n e p).engine p log log0 ws (halted-over k words) h (rests tt)
go-on code n (Fault m at) e p log log0 ws h rests next = over-runs code n (outcome.Fault m at) e (after code n e p).engine p log log0 ws tt h (rests tt)

pub turns-run : (code : List Instr) (n : ℕ) (e : Engine) (p : Memories) (log log0 : Log) (ws : List WriteEvent) → log ≡ noted_all log0 (source_writes ws)
    → Runs (turns code n (running e log) p) (run code n e p ws) (after code n e p).engine log0
turns-run code zero e p log log0 ws h = record { engine = refl; outcome = refl; log = h; packet = refl }
turns-run code (suc n) e p log log0 ws h =
    let s : Next = step code e p in
    go-on code n s.stepped s.engine s.packet log log0 ws h (rest-after code n e p) (λ e' p' log' ws' h'. turns-run code n e' p' log' log0 ws' h')

-- what a run gives is what the turns lead to
pub turns-of_run : (code : List Instr) (n : ℕ) (x : Context) (p : Memories) (o : Outcome) (e : Engine) (q : Memories) (log : Log) → x.outcome ≡ outcome.Going
    → o ≡ (run code n x.engine p []).outcome → q ≡ (run code n x.engine p []).packet → log ≡ noted_all x.log (source_writes (run code n x.engine p []).writes) → e ≡ (after code n x.engine p).engine
    → record { context = record { engine = e; outcome = o; log = log }; packet = q } ≡ turns code n x p
turns-of_run code n x p o e q log going a b c d =
    let same : x ≡ running x.engine x.log = ap (λ o. record { engine = x.engine; outcome = o; log = x.log }) going in
    let r = turns-run code n x.engine p x.log x.log [] refl in
    let t : Turn = turns code n (running x.engine x.log) p in
    let there : record { context = record { engine = e; outcome = o; log = log }; packet = q } ≡ t =
    ap (λ z. record { context = record { engine = z; outcome = o; log = log }; packet = q }) (d ∙ sym r.engine)
    ∙ ap (λ z. record { context = record { engine = t.context.engine; outcome = z; log = log }; packet = q }) (a ∙ sym r.outcome)
    ∙ ap (λ z. record { context = record { engine = t.context.engine; outcome = t.context.outcome; log = z }; packet = q }) (c ∙ sym r.log)
    ∙ ap (λ z. record { context = t.context; packet = z }) (b ∙ sym r.packet) in
    there ∙ ap (λ z. turns code n z p) (sym same)

-- a turn notes one write at the most
moved-count : (s : Stepped) (log : Log) → (noted_all log (source_writes (written s))).count ≤ log.count + 1
moved-count Went log = omega arith
moved-count (Wrote w) log = noted-count log w
moved-count (Halted k words) log = omega arith
moved-count (Fault m at) log = omega arith

turn-count : (o : Outcome) (code : List Instr) (x : Context) (p : Memories) → (turn_at o code x p).context.log.count ≤ x.log.count + 1
turn-count outcome.Going code x p = moved-count (step code x.engine p).stepped x.log
turn-count (outcome.Ended ws) code x p = omega arith
turn-count (outcome.Raised k ws) code x p = omega arith
turn-count (outcome.Fault m at) code x p = omega arith

pub turns-count : (code : List Instr) (n : ℕ) (x : Context) (p : Memories) → (turns code n x p).context.log.count ≤ x.log.count + n
turns-count code zero x p = omega arith
turns-count code (suc n) x p =
    let t : Turn = turn code x p in
    let first : t.context.log.count ≤ x.log.count + 1 = turn-count x.outcome code x p in
    let rest : (turns code n t.context t.packet).context.log.count ≤ t.context.log.count + n = turns-count code n t.context t.packet in
    omega arith

pub over-unless_going : (o : Outcome) → ¬ (o ≡ outcome.Going) → IsOver o
over-unless_going outcome.Going h = h refl
over-unless_going (outcome.Ended ws) h = tt
over-unless_going (outcome.Raised k ws) h = tt
over-unless_going (outcome.Fault m at) h = tt

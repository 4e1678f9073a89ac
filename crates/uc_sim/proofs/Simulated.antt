-- How far a simulation has come.
use Rattle.std.specs.Prelude.{Bool, true, false, cond}
use Rattle.std.proofs.Common.{◌≡◌, ℕ, suc, ◌+◌, ◌-◌, ◌≤◌, ◌<◌, List, [], ◌∷◌, ◌++◌, length, refl, ap, sym, subst, ◌∙◌, arith}
use Rattle.std.proofs.lemmas.List.Elements.{filter-append}
use Rattle.nv_base.specs.declared.outcome.Write.{Write as WriteEvent}
use Rattle.nv_base.specs.declared.outcome.Outcome.{Outcome}
use Rattle.nv_base.specs.declared.outcome.Outcome.TheVariants as outcome
use Rattle.nv_base.specs.Log.{Log, noted_all}
use Rattle.nv_base.specs.Memories.{Memories}
use Rattle.nv_base.specs.Meanings.{FullOutcome, source_writes, is_source_write}
use Rattle.nv_base.proofs.LogLemmas.{noted-append}
use Rattle.uc_isa.specs.Step.{Next, EndsRun, step}
use Rattle.uc_isa.specs.Engine.{run, continue_run, halted, after, stepped_at}
use Rattle.uc_isa.specs.declared.instruction.Instr.{Instr}
use Rattle.uc_isa.specs.declared.engine.Engine.{Engine}
use Rattle.uc_isa.specs.declared.engine.Stepped.{Stepped}
use Rattle.uc_isa.specs.declared.engine.Stepped.TheVariants.{Went, Wrote, Halted, Fault}
use Rattle.uc_isa.proofs.Steps.{step-rests, after-rests, run-going, run-going_only}

-- i steps led from the first engine, memories and log to these, and none of them ended the run
pub record Simulated (code : List Instr) (e0 : Engine) (p0 : Memories) (log0 : Log) (i : ℕ) (e : Engine) (p : Memories) (log : Log) : Type 0 where
  pub writes : List WriteEvent
  pub runs : (m : ℕ) → run code (i + m) e0 p0 [] ≡ run code m e p writes
  pub ends : (m : ℕ) → after code (i + m) e0 p0 ≡ after code m e p
  pub logged : log ≡ noted_all log0 (source_writes writes)
  pub counted : log.count ≤ log0.count + i
  pub inside : e.place < length code

-- what a simulation of n steps gives
pub record Final (code : List Instr) (e0 : Engine) (p0 : Memories) (log0 : Log) (n : ℕ) (o : Outcome) (e : Engine) (p : Memories) (log : Log) : Type 0 where
  pub outcome : o ≡ (run code n e0 p0 []).outcome
  pub packet : p ≡ (run code n e0 p0 []).packet
  pub logged : log ≡ noted_all log0 (source_writes (run code n e0 p0 []).writes)
  pub engine : e ≡ (after code n e0 p0).engine

pub simulated-none : (code : List Instr) (e : Engine) (p : Memories) (log : Log) → e.place < length code → Simulated code e p log 0 e p log
simulated-none code e p log inside = record {
  writes = [];
  runs = λ m. let same : 0 + m ≡ m = omega arith in ap (λ k. run code k e p []) same;
  ends = λ m. let same : 0 + m ≡ m = omega arith in ap (λ k. after code k e p) same;
  logged = refl;
  counted = omega arith;
  inside = inside;
}

noted-one : (log log0 : Log) (ws : List WriteEvent) (w : WriteEvent) → log ≡ noted_all log0 (source_writes ws) → noted_all log (source_writes (w ∷ [])) ≡ noted_all log0 (source_writes (ws ++ w ∷ []))
noted-one log log0 ws w h =
    ap (λ l. noted_all l (source_writes (w ∷ []))) h
    ∙ sym (noted-append (source_writes ws) (source_writes (w ∷ [])) log0)
    ∙ ap (noted_all log0) (sym (filter-append (λ w. is_source_write w.mem w.at) ws (w ∷ [])))

-- one step, that went on or wrote
run-step : (code : List Instr) (m : ℕ) (e : Engine) (p : Memories) (ws : List WriteEvent) (s : Stepped) (e' : Engine) (p' : Memories) → s ≡ (step code e p).stepped → e' ≡ (step code e p).engine → p' ≡ (step code e p).packet
    → run code (suc m) e p ws ≡ continue_run (run code m) s e' p' ws
run-step code m e p ws s e' p' a b c =
    ap (λ x. continue_run (run code m) x (step code e p).engine (step code e p).packet ws) (sym a)
    ∙ ap (λ x. continue_run (run code m) s x (step code e p).packet ws) (sym b)
    ∙ ap (λ x. continue_run (run code m) s e' x ws) (sym c)

after-step : (code : List Instr) (m : ℕ) (e : Engine) (p : Memories) (e' : Engine) (p' : Memories) → e' ≡ (step code e p).engine → p' ≡ (step code e p).packet → after code (suc m) e p ≡ after code m e' p'
after-step code m e p e' p' b c = ap (λ x. after code m x (step code e p).packet) (sym b) ∙ ap (after code m e') (sym c)

pub simulated-went : (code : List Instr) (e0 : Engine) (p0 : Memories) (log0 : Log) (i : ℕ) (e : Engine) (p : Memories) (log : Log) (s : Stepped) (e' : Engine) (p' : Memories)
    → Simulated code e0 p0 log0 i e p log → s ≡ (step code e p).stepped → e' ≡ (step code e p).engine → p' ≡ (step code e p).packet → s ≡ Went → e'.place < length code
    → Simulated code e0 p0 log0 (i + 1) e' p' log
simulated-went code e0 p0 log0 i e p log s e' p' h a b c went inside = record {
  writes = h.writes;
  runs = λ m. let more : i + 1 + m ≡ i + suc m = omega arith in
      ap (λ k. run code k e0 p0 []) more ∙ h.runs (suc m) ∙ run-step code m e p h.writes s e' p' a b c ∙ ap (λ x. continue_run (run code m) x e' p' h.writes) went;
  ends = λ m. let more : i + 1 + m ≡ i + suc m = omega arith in ap (λ k. after code k e0 p0) more ∙ h.ends (suc m) ∙ after-step code m e p e' p' b c;
  logged = h.logged;
  counted = omega (arith, h.counted);
  inside = inside;
}

pub simulated-wrote : (code : List Instr) (e0 : Engine) (p0 : Memories) (log0 : Log) (i : ℕ) (e : Engine) (p : Memories) (log : Log) (s : Stepped) (e' : Engine) (p' : Memories) (w : WriteEvent)
    → Simulated code e0 p0 log0 i e p log → s ≡ (step code e p).stepped → e' ≡ (step code e p).engine → p' ≡ (step code e p).packet → s ≡ Wrote w → e'.place < length code
    → (noted_all log (source_writes (w ∷ []))).count ≤ log.count + 1
    → Simulated code e0 p0 log0 (i + 1) e' p' (noted_all log (source_writes (w ∷ [])))
simulated-wrote code e0 p0 log0 i e p log s e' p' w h a b c wrote inside count = record {
  writes = h.writes ++ w ∷ [];
  runs = λ m. let more : i + 1 + m ≡ i + suc m = omega arith in
      ap (λ k. run code k e0 p0 []) more ∙ h.runs (suc m) ∙ run-step code m e p h.writes s e' p' a b c ∙ ap (λ x. continue_run (run code m) x e' p' h.writes) wrote;
  ends = λ m. let more : i + 1 + m ≡ i + suc m = omega arith in ap (λ k. after code k e0 p0) more ∙ h.ends (suc m) ∙ after-step code m e p e' p' b c;
  logged = noted-one log log0 h.writes w h.logged;
  counted = omega (arith, h.counted);
  inside = inside;
}

noted-count_at : (b : Bool) (log : Log) (w : WriteEvent) → is_source_write w.mem w.at ≡ b → (noted_all log (cond b (w ∷ []) [])).count ≤ log.count + 1
noted-count_at true log w e = omega arith
noted-count_at false log w e = omega arith

pub noted-count : (log : Log) (w : WriteEvent) → (noted_all log (source_writes (w ∷ []))).count ≤ log.count + 1
noted-count log w = noted-count_at (is_source_write w.mem w.at) log w refl

-- all steps were taken
pub final-going : (code : List Instr) (e0 : Engine) (p0 : Memories) (log0 : Log) (i n : ℕ) (e : Engine) (p : Memories) (log : Log) → Simulated code e0 p0 log0 i e p log → i ≡ n → Final code e0 p0 log0 n outcome.Going e p log
final-going code e0 p0 log0 i n e p log h all =
    let same : i + 0 ≡ n = omega arith in
    let runs : run code n e0 p0 [] ≡ run code 0 e p h.writes = ap (λ k. run code k e0 p0 []) (sym same) ∙ h.runs 0 in
    record {
      outcome = sym (ap (λ (f : FullOutcome). f.outcome) runs);
      packet = sym (ap (λ (f : FullOutcome). f.packet) runs);
      logged = h.logged ∙ ap (λ (f : FullOutcome). noted_all log0 (source_writes f.writes)) (sym runs);
      engine = sym (ap (λ (x : Next). x.engine) (ap (λ k. after code k e0 p0) (sym same) ∙ h.ends 0));
    }

-- what a step that ends the run gives
abbrev pub last_outcome : Stepped → Outcome
last_outcome Went = outcome.Going
last_outcome (Wrote w) = outcome.Going
last_outcome (Halted k ws) = halted k ws
last_outcome (Fault m at) = outcome.Fault m at

last-run : (go : Engine → Memories → List WriteEvent → FullOutcome) (s : Stepped) (e : Engine) (p : Memories) (ws : List WriteEvent) → EndsRun s → continue_run go s e p ws ≡ record { outcome = last_outcome s; packet = p; writes = ws }
last-run go Went e p ws h = absurd h
last-run go (Wrote w) e p ws h = absurd h
last-run go (Halted k words) e p ws h = refl
last-run go (Fault m at) e p ws h = refl

pub final-over : (code : List Instr) (e0 : Engine) (p0 : Memories) (log0 : Log) (i n : ℕ) (e : Engine) (p : Memories) (log : Log) (s : Stepped) (e' : Engine) (p' : Memories)
    → Simulated code e0 p0 log0 i e p log → i < n → s ≡ (step code e p).stepped → e' ≡ (step code e p).engine → p' ≡ (step code e p).packet → EndsRun s
    → Final code e0 p0 log0 n (last_outcome s) e' p' log
final-over code e0 p0 log0 i n e p log s e' p' h less a b c over =
    let m : ℕ = n - i - 1 in
    let same : i + suc m ≡ n = omega arith in
    let ends : EndsRun (step code e p).stepped = subst EndsRun a over in
    let runs : run code n e0 p0 [] ≡ record { outcome = last_outcome s; packet = p'; writes = h.writes } =
    ap (λ k. run code k e0 p0 []) (sym same) ∙ h.runs (suc m) ∙ run-step code m e p h.writes s e' p' a b c ∙ last-run (run code m) s e' p' h.writes over in
    record {
      outcome = sym (ap (λ (f : FullOutcome). f.outcome) runs);
      packet = sym (ap (λ (f : FullOutcome). f.packet) runs);
      logged = h.logged ∙ ap (λ (f : FullOutcome). noted_all log0 (source_writes f.writes)) (sym runs);
      engine = b ∙ (step-rests code e p ends).0 ∙ sym (after-rests code (suc m) e p ends) ∙ sym (ap (λ (x : Next). x.engine) (ap (λ k. after code k e0 p0) (sym same) ∙ h.ends (suc m)));
    }

-- going exactly where no step ended the run
pub final-exactly : (code : List Instr) (e0 : Engine) (p0 : Memories) (log0 : Log) (n : ℕ) (o : Outcome) (e : Engine) (p : Memories) (log : Log) → Final code e0 p0 log0 n o e p log
    → (o ≡ outcome.Going → (k : ℕ) → k < n → ¬ EndsRun (stepped_at code k e0 p0)) × (((k : ℕ) → k < n → ¬ EndsRun (stepped_at code k e0 p0)) → o ≡ outcome.Going)
final-exactly code e0 p0 log0 n o e p log f = (λ h. run-going_only code n e0 p0 [] (sym f.outcome ∙ h), λ h. f.outcome ∙ run-going code n e0 p0 [] h)

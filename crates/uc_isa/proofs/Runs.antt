-- Runs that go straight to their end.
use Rattle.std.proofs.Common.{◌≡◌, ℕ, zero, suc, ◌+◌, ◌<◌, ◌≤◌, List, Some, refl, ap, sym, ◌∙◌, subst, arith, add_assoc}
use Rattle.std.specs.Prelude.{slice_get}
use Rattle.nv_base.specs.declared.outcome.Write.{Write as WriteEvent}
use Rattle.nv_base.specs.Memories.{Memories}
use Rattle.nv_base.specs.Meanings.{FullOutcome}
use Rattle.uc_isa.specs.Step.{step, step_at, effect}
use Rattle.uc_isa.specs.Engine.{run, continue_run, halted}
use Rattle.uc_isa.specs.Straight.{RunsTo, StepsTo, went, going}
use Rattle.uc_isa.specs.declared.instruction.Instr.{Instr}
use Rattle.uc_isa.specs.declared.engine.Engine.{Engine}
use Rattle.uc_isa.specs.declared.engine.Stepped.TheVariants.{Halted}

pub run-went : (code : List Instr) (j : ℕ) (e e' : Engine) (p : Memories) (ws : List WriteEvent) → step code e p ≡ went e' p → run code (suc j) e p ws ≡ run code j e' p ws
run-went code j e e' p ws h = ap (λ n. continue_run (run code j) n.stepped n.engine n.packet ws) h

-- the instruction at the engine's place
pub step-fetched : (code : List Instr) (i : Instr) (e : Engine) (p : Memories) → slice_get code e.place ≡ Some i → step code e p ≡ effect i e p
step-fetched code i e p h = ap (λ o. step_at o e p) h

went-before : (code : List Instr) (k j : ℕ) (e e' : Engine) (p : Memories) (ws : List WriteEvent) (f : FullOutcome) → step code e p ≡ went e' p → RunsTo code k e' p ws f → j < suc k → run code j e p ws ≡ going p ws
went-before code k zero e e' p ws f h r lt = refl
went-before code k (suc j) e e' p ws f h r lt = run-went code j e e' p ws h ∙ r.before j (omega arith)

went-since : (code : List Instr) (k j : ℕ) (e e' : Engine) (p : Memories) (ws : List WriteEvent) (f : FullOutcome) → step code e p ≡ went e' p → RunsTo code k e' p ws f → suc k ≤ j → run code j e p ws ≡ f
went-since code k zero e e' p ws f h r le = absurd (omega arith)
went-since code k (suc j) e e' p ws f h r le = run-went code j e e' p ws h ∙ r.since j (omega arith)

-- one step
pub reaches-one : (code : List Instr) (p : Memories) (e e' : Engine) → step code e p ≡ went e' p → StepsTo code p 1 e e'
reaches-one code p e e' h = record {
  runs = λ k ws f r. let more : suc k ≡ 1 + k = omega arith in
      subst (λ m. RunsTo code m e p ws f) more (record {
        before = λ j lt. went-before code k j e e' p ws f h r lt;
        since = λ j le. went-since code k j e e' p ws f h r le;
      });
}

-- one after the other
pub reaches-then : (code : List Instr) (p : Memories) (n m : ℕ) (e e' e'' : Engine) → StepsTo code p n e e' → StepsTo code p m e' e'' → StepsTo code p (n + m) e e''
reaches-then code p n m e e' e'' a b = record {
  runs = λ k ws f r. subst (λ t. RunsTo code t e p ws f) (sym (add_assoc n m k)) (a.runs (m + k) ws f (b.runs k ws f r));
}

-- a halt is the last step
halts-before : (code : List Instr) (j : ℕ) (e : Engine) (p : Memories) (ws : List WriteEvent) → j < 1 → run code j e p ws ≡ going p ws
halts-before code zero e p ws lt = refl
halts-before code (suc j) e p ws lt = absurd (omega arith)

halts-since : (code : List Instr) (j k : ℕ) (words : List ℕ) (e : Engine) (p : Memories) (ws : List WriteEvent) → step code e p ≡ record { stepped = Halted k words; engine = e; packet = p } → 1 ≤ j → run code j e p ws ≡ record { outcome = halted k words; packet = p; writes = ws }
halts-since code zero k words e p ws h le = absurd (omega arith)
halts-since code (suc j) k words e p ws h le = ap (λ n. continue_run (run code j) n.stepped n.engine n.packet ws) h

pub runs-halt : (code : List Instr) (k : ℕ) (words : List ℕ) (e : Engine) (p : Memories) (ws : List WriteEvent) → step code e p ≡ record { stepped = Halted k words; engine = e; packet = p } → RunsTo code 1 e p ws (record { outcome = halted k words; packet = p; writes = ws })
runs-halt code k words e p ws h = record {
  before = λ j lt. halts-before code j e p ws lt;
  since = λ j le. halts-since code j k words e p ws h le;
}

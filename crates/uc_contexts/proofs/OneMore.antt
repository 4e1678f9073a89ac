-- One step more of a run.
use Rattle.std.proofs.Common.{◌≡◌, ℕ, zero, suc, ◌+◌, List, [], ◌∷◌, ◌++◌, refl, ap, sym, subst, ◌∙◌, arith}
use Rattle.std.proofs.lemmas.List.{append-nil}
use Rattle.nv_base.specs.declared.outcome.Write.{Write as WriteEvent}
use Rattle.nv_base.specs.declared.outcome.Outcome.TheVariants as outcome
use Rattle.nv_base.specs.Memories.{Memories}
use Rattle.nv_base.specs.Meanings.{IsOver}
use Rattle.uc_isa.specs.Step.{Next, EndsRun, step}
use Rattle.uc_isa.specs.Engine.{run, continue_run, halted, after}
use Rattle.uc_isa.specs.declared.instruction.Instr.{Instr}
use Rattle.uc_isa.specs.declared.engine.Engine.{Engine}
use Rattle.uc_isa.specs.declared.engine.Stepped.{Stepped}
use Rattle.uc_isa.specs.declared.engine.Stepped.TheVariants.{Went, Wrote, Halted, Fault}
use Rattle.uc_isa.proofs.Steps.{step-rests, after-rests, run-add, run-over}
use Rattle.uc_contexts.specs.Turns.{outcome_of, written}

-- the engine and the memories are those of the step after the first n
pub after-last : (code : List Instr) (n : ℕ) (e : Engine) (p : Memories) → let a = after code n e p in
    ((after code (suc n) e p).engine ≡ (step code a.engine a.packet).engine) × ((after code (suc n) e p).packet ≡ (step code a.engine a.packet).packet)
after-last code zero e p = (refl, refl)
after-last code (suc n) e p = let s : Next = step code e p in after-last code n s.engine s.packet

-- ---- a run that is going

one-step : (code : List Instr) (s : Stepped) (e : Engine) (p : Memories) (ws : List WriteEvent) → continue_run (run code 0) s e p ws ≡ record { outcome = outcome_of s; packet = p; writes = ws ++ written s }
one-step code Went e p ws = ap (λ l. record { outcome = outcome.Going; packet = p; writes = l }) (sym (append-nil ws))
one-step code (Wrote w) e p ws = refl
one-step code (Halted k words) e p ws = ap (λ l. record { outcome = halted k words; packet = p; writes = l }) (sym (append-nil ws))
one-step code (Fault m at) e p ws = ap (λ l. record { outcome = outcome.Fault m at; packet = p; writes = l }) (sym (append-nil ws))

pub run-last : (code : List Instr) (n : ℕ) (e : Engine) (p : Memories) → (run code n e p []).outcome ≡ outcome.Going
    → let a = after code n e p in let s = step code a.engine a.packet in
    run code (suc n) e p [] ≡ record { outcome = outcome_of s.stepped; packet = s.packet; writes = (run code n e p []).writes ++ written s.stepped }
run-last code n e p going =
    let a : Next = after code n e p in
    let s : Next = step code a.engine a.packet in
    let more : suc n ≡ n + 1 = omega arith in
    ap (λ k. run code k e p []) more ∙ run-add code n 1 e p [] going ∙ one-step code s.stepped s.engine s.packet (run code n e p []).writes

halted-on : (k : ℕ) (ws : List ℕ) → halted k ws ≡ outcome.Going → ⊥
halted-on zero ws g = cc
halted-on (suc k) ws g = cc

going-packet : (code : List Instr) (n : ℕ) (s : Stepped) (e : Engine) (p : Memories) (ws : List WriteEvent) → (continue_run (run code n) s e p ws).outcome ≡ outcome.Going
    → ((vs : List WriteEvent) → (run code n e p vs).outcome ≡ outcome.Going → (run code n e p vs).packet ≡ (after code n e p).packet)
    → (continue_run (run code n) s e p ws).packet ≡ (after code n e p).packet
going-packet code n Went e p ws h next = next ws h
going-packet code n (Wrote w) e p ws h next = next (ws ++ w ∷ []) h
going-packet code n (Halted k words) e p ws h next = absurd (halted-on k words h)
going-packet code n (Fault m at) e p ws h next = cc

-- the memories of a run that is going are those after its steps
pub run-packet : (code : List Instr) (n : ℕ) (e : Engine) (p : Memories) (ws : List WriteEvent) → (run code n e p ws).outcome ≡ outcome.Going → (run code n e p ws).packet ≡ (after code n e p).packet
run-packet code zero e p ws h = refl
run-packet code (suc n) e p ws h = let s : Next = step code e p in going-packet code n s.stepped s.engine s.packet ws h (λ vs h'. run-packet code n s.engine s.packet vs h')

-- ---- a run that is over

abbrev Stays : List Instr → ℕ → Engine → Memories → Type 0
Stays code n e p = (after code (suc n) e p).engine ≡ (after code n e p).engine

over-stays : (code : List Instr) (n : ℕ) (s : Stepped) (e : Engine) (p : Memories) (ws : List WriteEvent) → IsOver (continue_run (run code n) s e p ws).outcome
    → (EndsRun s → Stays code n e p) → ((vs : List WriteEvent) → IsOver (run code n e p vs).outcome → Stays code n e p) → Stays code n e p
over-stays code n Went e p ws h ends next = next ws h
over-stays code n (Wrote w) e p ws h ends next = next (ws ++ w ∷ []) h
over-stays code n (Halted k words) e p ws h ends next = ends tt
over-stays code n (Fault m at) e p ws h ends next = ends tt

ended-stays : (code : List Instr) (n : ℕ) (e : Engine) (p : Memories) → let s = step code e p in EndsRun s.stepped → Stays code n s.engine s.packet
ended-stays code n e p h =
    let s : Next = step code e p in
    let r : (s.engine ≡ e) × (s.packet ≡ p) = step-rests code e p h in
    let there : Stays code n e p = after-rests code (suc n) e p h ∙ sym (after-rests code n e p h) in
    subst (λ x. Stays code n x s.packet) (sym r.0) (subst (λ x. Stays code n e x) (sym r.1) there)

-- the engine stays where the run is over
pub run-stays : (code : List Instr) (n : ℕ) (e : Engine) (p : Memories) (ws : List WriteEvent) → IsOver (run code n e p ws).outcome → Stays code n e p
run-stays code zero e p ws h = absurd h
run-stays code (suc n) e p ws h =
    let s : Next = step code e p in
    over-stays code n s.stepped s.engine s.packet ws h (ended-stays code n e p) (λ vs h'. run-stays code n s.engine s.packet vs h')

-- and so does what the run gives
pub run-same : (code : List Instr) (n : ℕ) (e : Engine) (p : Memories) → IsOver (run code n e p []).outcome → run code (suc n) e p [] ≡ run code n e p []
run-same code n e p h = let more : suc n ≡ n + 1 = omega arith in ap (λ k. run code k e p []) more ∙ run-over code n 1 e p [] h

-- Runs of more and of fewer steps.
use Rattle.std.proofs.Common.{◌≡◌, ℕ, zero, suc, ◌+◌, ◌-◌, ◌<◌, List, [], ◌∷◌, ◌++◌, Some, None, refl, ap, sym, subst, ◌∙◌, ◌⊎◌, inl, inr, append_assoc, arith}
use Rattle.std.proofs.lemmas.List.{append-nil}
use Rattle.std.proofs.lemmas.List.Elements.{filter-append}
use Rattle.std.specs.Prelude.{Option, slice_get}
use Rattle.nv_base.specs.declared.term.Mem.{Mem}
use Rattle.nv_base.specs.declared.outcome.Write.{Write as WriteEvent}
use Rattle.nv_base.specs.declared.outcome.Outcome.TheVariants as outcome
use Rattle.nv_base.specs.Memories.{Memories}
use Rattle.nv_base.specs.Meanings.{FullOutcome, IsOver, IsPrefix, seen, source_writes, is_source_write}
use Rattle.nv_base.specs.Progress.{Before, IsMonotone, OneMore, IsStepwise}
use Rattle.uc_isa.specs.Code.{CodeView}
use Rattle.uc_isa.specs.Step.{Next, EndsRun, step, step_at, effect, after_read, after_write}
use Rattle.uc_isa.specs.Engine.{run, continue_run, engine, start, halted, after, stepped_at}
use Rattle.uc_isa.specs.declared.instruction.Instr.{Instr}
use Rattle.uc_isa.specs.declared.instruction.Instr.TheVariants.{Alu, Un, Immed, Br, Read, Write, Halt}
use Rattle.uc_isa.specs.declared.engine.Engine.{Engine}
use Rattle.uc_isa.specs.declared.engine.Stepped.{Stepped}
use Rattle.uc_isa.specs.declared.engine.Stepped.TheVariants.{Went, Wrote, Halted, Fault}

-- a step that ends the run leaves the engine and the memories
abbrev pub Rests : Next → Engine → Memories → Type 0
Rests n e p = EndsRun n.stepped → (n.engine ≡ e) × (n.packet ≡ p)

read-rests : (m : Mem) (r at : ℕ) (o : Option (List ℕ)) (e : Engine) (p : Memories) → Rests (after_read m r at o e p) e p
read-rests m r at (Some ws) e p = λ h. absurd h
read-rests m r at None e p = λ _. (refl, refl)

write-rests : (m : Mem) (at : ℕ) (ws : List ℕ) (o : Option Memories) (e : Engine) (p : Memories) → Rests (after_write m at ws o e p) e p
write-rests m at ws (Some q) e p = λ h. absurd h
write-rests m at ws None e p = λ _. (refl, refl)

pub effect-rests : (i : Instr) (e : Engine) (p : Memories) → Rests (effect i e p) e p
effect-rests (Alu d op x y) e p = λ h. absurd h
effect-rests (Un d op x) e p = λ h. absurd h
effect-rests (Immed d v s) e p = λ h. absurd h
effect-rests (Br cond target) e p = λ h. absurd h
effect-rests (Read m r n x off) e p = read-rests m r _ _ e p
effect-rests (Write m r n x off) e p = write-rests m _ _ _ e p
effect-rests (Halt k n) e p = λ _. (refl, refl)

step_at-rests : (o : Option Instr) (e : Engine) (p : Memories) → Rests (step_at o e p) e p
step_at-rests (Some i) e p = effect-rests i e p
step_at-rests None e p = λ h. absurd h

pub step-rests : (code : List Instr) (e : Engine) (p : Memories) → Rests (step code e p) e p
step-rests code e p = step_at-rests (slice_get code e.place) e p

-- where a run has ended, the engine stays
pub after-rests : (code : List Instr) (m : ℕ) (e : Engine) (p : Memories) → EndsRun (step code e p).stepped → (after code m e p).engine ≡ e
after-rests code zero e p h = refl
after-rests code (suc m) e p h =
    let n : Next = step code e p in
    let r : (n.engine ≡ e) × (n.packet ≡ p) = step-rests code e p h in
    ap (λ x. (after code m x n.packet).engine) r.0 ∙ ap (λ x. (after code m e x).engine) r.1 ∙ after-rests code m e p h

-- one step more: nothing more is written, or one write, after which the run is still going
one-first : (code : List Instr) (s : Stepped) (e : Engine) (p p' : Memories) (ws : List WriteEvent) → OneMore (record { outcome = outcome.Going; packet = p; writes = ws }) (continue_run (run code 0) s e p' ws)
one-first code Went e p p' ws = inl refl
one-first code (Wrote w) e p p' ws = inr (w, refl, refl)
one-first code (Halted k words) e p p' ws = inl refl
one-first code (Fault m at) e p p' ws = inl refl

one-later : (code : List Instr) (j : ℕ) (s : Stepped) (e : Engine) (p : Memories) (ws : List WriteEvent) → ((e : Engine) (p : Memories) (ws : List WriteEvent) → OneMore (run code j e p ws) (run code (suc j) e p ws)) → OneMore (continue_run (run code j) s e p ws) (continue_run (run code (suc j)) s e p ws)
one-later code j Went e p ws more = more e p ws
one-later code j (Wrote w) e p ws more = more e p (ws ++ w ∷ [])
one-later code j (Halted k words) e p ws more = inl refl
one-later code j (Fault m at) e p ws more = inl refl

pub one-more : (code : List Instr) (j : ℕ) (e : Engine) (p : Memories) (ws : List WriteEvent) → OneMore (run code j e p ws) (run code (suc j) e p ws)
one-more code zero e p ws = one-first code (step code e p).stepped (step code e p).engine p (step code e p).packet ws
one-more code (suc j) e p ws = one-later code j (step code e p).stepped (step code e p).engine (step code e p).packet ws (λ e' p' ws'. one-more code j e' p' ws')

-- the engine writes at most once a step
pub engine-stepwise : (c : CodeView) (args : List ℕ) (base : ℕ) (p : Memories) → IsStepwise (engine c args base p)
engine-stepwise c args base p = record { start = refl; unwritten = refl; steps = λ j. one-more c.list j (start args base) p [] }

-- a run that has ended stays as it is
over-later : (code : List Instr) (n m : ℕ) (s : Stepped) (e : Engine) (p : Memories) (ws : List WriteEvent) → IsOver (continue_run (run code n) s e p ws).outcome
    → ((e : Engine) (p : Memories) (ws : List WriteEvent) → IsOver (run code n e p ws).outcome → run code (n + m) e p ws ≡ run code n e p ws)
    → continue_run (run code (n + m)) s e p ws ≡ continue_run (run code n) s e p ws
over-later code n m Went e p ws h next = next e p ws h
over-later code n m (Wrote w) e p ws h next = next e p (ws ++ w ∷ []) h
over-later code n m (Halted k words) e p ws h next = refl
over-later code n m (Fault k at) e p ws h next = refl

pub run-over : (code : List Instr) (n m : ℕ) (e : Engine) (p : Memories) (ws : List WriteEvent) → IsOver (run code n e p ws).outcome → run code (n + m) e p ws ≡ run code n e p ws
run-over code zero m e p ws h = absurd h
run-over code (suc n) m e p ws h =
    let more : suc n + m ≡ suc (n + m) = omega arith in
    let s : Next = step code e p in
    ap (λ k. run code k e p ws) more ∙ over-later code n m s.stepped s.engine s.packet ws h (λ e' p' ws' h'. run-over code n m e' p' ws' h')

-- a run that is going goes on from where it stands
halted-goes : (k : ℕ) (ws : List ℕ) → halted k ws ≡ outcome.Going → ⊥
halted-goes zero ws g = cc
halted-goes (suc k) ws g = cc

abbrev pub Continues : List Instr → ℕ → ℕ → Engine → Memories → List WriteEvent → Type 0
Continues code n m e p ws = run code (n + m) e p ws ≡ run code m (after code n e p).engine (after code n e p).packet (run code n e p ws).writes

going-later : (code : List Instr) (n m : ℕ) (s : Stepped) (e : Engine) (p : Memories) (ws : List WriteEvent) → (continue_run (run code n) s e p ws).outcome ≡ outcome.Going
    → ((e : Engine) (p : Memories) (ws : List WriteEvent) → (run code n e p ws).outcome ≡ outcome.Going → Continues code n m e p ws)
    → continue_run (run code (n + m)) s e p ws ≡ run code m (after code n e p).engine (after code n e p).packet (continue_run (run code n) s e p ws).writes
going-later code n m Went e p ws h next = next e p ws h
going-later code n m (Wrote w) e p ws h next = next e p (ws ++ w ∷ []) h
going-later code n m (Halted k words) e p ws h next = absurd (halted-goes k words h)
going-later code n m (Fault k at) e p ws h next = cc

pub run-add : (code : List Instr) (n m : ℕ) (e : Engine) (p : Memories) (ws : List WriteEvent) → (run code n e p ws).outcome ≡ outcome.Going → Continues code n m e p ws
run-add code zero m e p ws h = let none : zero + m ≡ m = omega arith in ap (λ k. run code k e p ws) none
run-add code (suc n) m e p ws h =
    let more : suc n + m ≡ suc (n + m) = omega arith in
    let s : Next = step code e p in
    ap (λ k. run code k e p ws) more ∙ going-later code n m s.stepped s.engine s.packet ws h (λ e' p' ws' h'. run-add code n m e' p' ws' h')

-- a longer run only adds writes
abbrev pub Extends : FullOutcome → FullOutcome → Type 0
Extends f g = (f ≡ g) ⊎ ((f.outcome ≡ outcome.Going) × IsPrefix f.writes g.writes)

first-writes : (code : List Instr) (m : ℕ) (s : Stepped) (e : Engine) (p : Memories) (ws : List WriteEvent)
    → ((e : Engine) (p : Memories) (ws : List WriteEvent) → IsPrefix ws (run code m e p ws).writes) → IsPrefix ws (continue_run (run code m) s e p ws).writes
first-writes code m Went e p ws next = next e p ws
first-writes code m (Wrote w) e p ws next = let r = next e p (ws ++ w ∷ []) in (w ∷ r.0, r.1 ∙ append_assoc ws (w ∷ []) r.0)
first-writes code m (Halted k words) e p ws next = ([], sym (append-nil ws))
first-writes code m (Fault k at) e p ws next = ([], sym (append-nil ws))

pub run-writes : (code : List Instr) (m : ℕ) (e : Engine) (p : Memories) (ws : List WriteEvent) → IsPrefix ws (run code m e p ws).writes
run-writes code zero e p ws = ([], sym (append-nil ws))
run-writes code (suc m) e p ws = let s : Next = step code e p in first-writes code m s.stepped s.engine s.packet ws (λ e' p' ws'. run-writes code m e' p' ws')

extends-later : (code : List Instr) (n m : ℕ) (s : Stepped) (e : Engine) (p : Memories) (ws : List WriteEvent)
    → ((e : Engine) (p : Memories) (ws : List WriteEvent) → Extends (run code n e p ws) (run code (n + m) e p ws)) → Extends (continue_run (run code n) s e p ws) (continue_run (run code (n + m)) s e p ws)
extends-later code n m Went e p ws next = next e p ws
extends-later code n m (Wrote w) e p ws next = next e p (ws ++ w ∷ [])
extends-later code n m (Halted k words) e p ws next = inl refl
extends-later code n m (Fault k at) e p ws next = inl refl

pub run-extends : (code : List Instr) (n m : ℕ) (e : Engine) (p : Memories) (ws : List WriteEvent) → Extends (run code n e p ws) (run code (n + m) e p ws)
run-extends code zero m e p ws = let none : zero + m ≡ m = omega arith in inr (refl, subst (λ k. IsPrefix ws (run code k e p ws).writes) (sym none) (run-writes code m e p ws))
run-extends code (suc n) m e p ws =
    let more : suc n + m ≡ suc (n + m) = omega arith in
    let s : Next = step code e p in
    subst (λ k. Extends (run code (suc n) e p ws) (run code k e p ws)) (sym more) (extends-later code n m s.stepped s.engine s.packet ws (λ e' p' ws'. run-extends code n m e' p' ws'))

seen-extends : (f g : FullOutcome) → Extends f g → Before f g
seen-extends f g (inl same) = inl (ap seen same)
seen-extends f g (inr more) = inr (more.0, (source_writes more.1.0, ap source_writes more.1.1 ∙ filter-append (λ w. is_source_write w.mem w.at) f.writes more.1.0))

-- with more steps the engine gets at least as far
pub run-grows : (code : List Instr) (e : Engine) (p : Memories) → IsMonotone (λ m. run code m e p [])
run-grows code e p = λ i j le.
    let all : i + (j - i) ≡ j = omega arith in
    subst (λ k. Before (run code i e p []) (run code k e p [])) all (seen-extends _ _ (run-extends code i (j - i) e p []))

pub engine-grows : (c : CodeView) (args : List ℕ) (base : ℕ) (p : Memories) → IsMonotone (engine c args base p)
engine-grows c args base p = run-grows c.list (start args base) p

-- a run is going where none of its steps ends it
going-runs : (code : List Instr) (n : ℕ) (s : Stepped) (e : Engine) (p : Memories) (ws : List WriteEvent) → ¬ EndsRun s
    → ((ws : List WriteEvent) → (run code n e p ws).outcome ≡ outcome.Going) → (continue_run (run code n) s e p ws).outcome ≡ outcome.Going
going-runs code n Went e p ws h next = next ws
going-runs code n (Wrote w) e p ws h next = next (ws ++ w ∷ [])
going-runs code n (Halted k words) e p ws h next = absurd (h tt)
going-runs code n (Fault k at) e p ws h next = absurd (h tt)

pub run-going : (code : List Instr) (n : ℕ) (e : Engine) (p : Memories) (ws : List WriteEvent) → ((k : ℕ) → k < n → ¬ EndsRun (stepped_at code k e p)) → (run code n e p ws).outcome ≡ outcome.Going
run-going code zero e p ws h = refl
run-going code (suc n) e p ws h =
    let s : Next = step code e p in
    going-runs code n s.stepped s.engine s.packet ws (h 0 (omega arith)) (λ ws'. run-going code n s.engine s.packet ws' (λ k lt. h (suc k) (omega arith)))

-- and only there
going-first : (code : List Instr) (n : ℕ) (s : Stepped) (e : Engine) (p : Memories) (ws : List WriteEvent) → (continue_run (run code n) s e p ws).outcome ≡ outcome.Going
    → (¬ EndsRun s) × ((vs : List WriteEvent) × ((run code n e p vs).outcome ≡ outcome.Going))
going-first code n Went e p ws h = (λ no. no, (ws, h))
going-first code n (Wrote w) e p ws h = (λ no. no, (ws ++ w ∷ [], h))
going-first code n (Halted k words) e p ws h = absurd (halted-goes k words h)
going-first code n (Fault k at) e p ws h = cc

pub run-going_only : (code : List Instr) (n : ℕ) (e : Engine) (p : Memories) (ws : List WriteEvent) → (run code n e p ws).outcome ≡ outcome.Going → (k : ℕ) → k < n → ¬ EndsRun (stepped_at code k e p)
run-going_only code zero e p ws h k lt = absurd (omega arith)
run-going_only code (suc n) e p ws h zero lt = let s : Next = step code e p in (going-first code n s.stepped s.engine s.packet ws h).0
run-going_only code (suc n) e p ws h (suc k) lt =
    let s : Next = step code e p in
    let rest = (going-first code n s.stepped s.engine s.packet ws h).1 in
    run-going_only code n s.engine s.packet rest.0 rest.1 k (omega arith)

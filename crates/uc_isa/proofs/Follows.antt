-- The memories of a run are the first ones after its writes.
use Rattle.std.proofs.Common.{◌≡◌, ℕ, zero, suc, List, [], ◌∷◌, ◌++◌, Some, None, refl, ap, sym, ◌∙◌}
use Rattle.std.specs.Prelude.{Option, unwrap_or, slice_get}
use Rattle.nv_base.specs.declared.term.Mem.{Mem}
use Rattle.nv_base.specs.declared.outcome.Write.{Write as WriteEvent}
use Rattle.nv_base.specs.Memories.{Memories, stored}
use Rattle.nv_base.specs.Meanings.{applied, left_by}
use Rattle.nv_base.specs.Progress.{FollowsAll}
use Rattle.nv_base.proofs.MemoryLemmas.{left-last}
use Rattle.uc_isa.specs.Code.{CodeView}
use Rattle.uc_isa.specs.Step.{Next, step, step_at, effect, after_read, after_write}
use Rattle.uc_isa.specs.Engine.{run, continue_run, engine, start}
use Rattle.uc_isa.specs.declared.instruction.Instr.{Instr}
use Rattle.uc_isa.specs.declared.instruction.Instr.TheVariants.{Alu, Un, Immed, Br, Read, Write, Halt}
use Rattle.uc_isa.specs.declared.engine.Engine.{Engine}
use Rattle.uc_isa.specs.declared.engine.Stepped.{Stepped}
use Rattle.uc_isa.specs.declared.engine.Stepped.TheVariants.{Went, Wrote, Halted, Fault}

-- a step leaves the memories, but for its write
abbrev pub StepLeaves : Stepped → Memories → Memories → Type 0
StepLeaves Went p p' = p' ≡ p
StepLeaves (Wrote w) p p' = p' ≡ applied w p
StepLeaves (Halted k ws) p p' = p' ≡ p
StepLeaves (Fault m at) p p' = p' ≡ p

read-leaves : (m : Mem) (r at : ℕ) (o : Option (List ℕ)) (e : Engine) (p : Memories) → StepLeaves (after_read m r at o e p).stepped p (after_read m r at o e p).packet
read-leaves m r at (Some ws) e p = refl
read-leaves m r at None e p = refl

write-leaves : (m : Mem) (at : ℕ) (ws : List ℕ) (o : Option Memories) (e : Engine) (p : Memories) → stored m at ws p ≡ o → StepLeaves (after_write m at ws o e p).stepped p (after_write m at ws o e p).packet
write-leaves m at ws (Some q) e p h = sym (ap (λ o. unwrap_or o p) h)
write-leaves m at ws None e p h = refl

effect-leaves : (i : Instr) (e : Engine) (p : Memories) → StepLeaves (effect i e p).stepped p (effect i e p).packet
effect-leaves (Alu d op x y) e p = refl
effect-leaves (Un d op x) e p = refl
effect-leaves (Immed d v s) e p = refl
effect-leaves (Br cond target) e p = refl
effect-leaves (Read m r n x off) e p = read-leaves m r _ _ e p
effect-leaves (Write m r n x off) e p = write-leaves m _ _ _ e p refl
effect-leaves (Halt k n) e p = refl

pub step-leaves : (o : Option Instr) (e : Engine) (p : Memories) → StepLeaves (step_at o e p).stepped p (step_at o e p).packet
step-leaves (Some i) e p = effect-leaves i e p
step-leaves None e p = refl

go-follows : (code : List Instr) (m : ℕ) (first : Memories) (s : Stepped) (e : Engine) (p p' : Memories) (ws : List WriteEvent) → StepLeaves s p p' → p ≡ left_by ws first
    → ((e : Engine) (p : Memories) (ws : List WriteEvent) → p ≡ left_by ws first → (run code m e p ws).packet ≡ left_by (run code m e p ws).writes first)
    → (continue_run (run code m) s e p' ws).packet ≡ left_by (continue_run (run code m) s e p' ws).writes first
go-follows code m first Went e p p' ws leaves h next = next e p' ws (leaves ∙ h)
go-follows code m first (Wrote w) e p p' ws leaves h next = next e p' (ws ++ w ∷ []) (leaves ∙ ap (applied w) h ∙ sym (left-last ws w first))
go-follows code m first (Halted k words) e p p' ws leaves h next = leaves ∙ h
go-follows code m first (Fault k at) e p p' ws leaves h next = leaves ∙ h

pub run-follows : (code : List Instr) (m : ℕ) (first : Memories) (e : Engine) (p : Memories) (ws : List WriteEvent) → p ≡ left_by ws first → (run code m e p ws).packet ≡ left_by (run code m e p ws).writes first
run-follows code zero first e p ws h = h
run-follows code (suc m) first e p ws h = let n : Next = step code e p in
    go-follows code m first n.stepped n.engine p n.packet ws (step-leaves (slice_get code e.place) e p) h (λ e' p1 ws' h'. run-follows code m first e' p1 ws' h')

-- what the engine leaves follows its writes
pub engine-follows : (c : CodeView) (args : List ℕ) (base : ℕ) (p : Memories) → FollowsAll p (engine c args base p)
engine-follows c args base p = λ m. run-follows c.list m p (start args base) p [] refl

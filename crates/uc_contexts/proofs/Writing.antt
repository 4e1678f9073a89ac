-- The writes of a run: each is one of its steps, and in lawful code has a word at least.
use Rattle.std.proofs.Common.{◌≡◌, ℕ, zero, suc, ◌+◌, ◌≤◌, ◌<◌, List, [], ◌∷◌, ◌++◌, All, Some, None, length, take, drop, refl, subst, ◌∙◌, arith}
use Rattle.std.specs.Prelude.{Option, slice_get}
use Rattle.std.proofs.lemmas.List.{length-set, length-take, length-drop}
use Rattle.std.proofs.lemmas.List.Elements.{All-append, All-cons, All-nil}
use Rattle.nv_base.specs.declared.term.Mem.{Mem}
use Rattle.nv_base.specs.declared.term.Mem.TheVariants.{Sram, Sdram, Scratch}
use Rattle.nv_base.specs.declared.outcome.Write.{Write as WriteEvent}
use Rattle.nv_base.specs.Memories.{Memories, fetched, stored}
use Rattle.uc_isa.specs.Lawful.{Rule2, IsLawful}
use Rattle.uc_isa.specs.Engine.{start, run, continue_run, after, stepped_at}
use Rattle.uc_isa.specs.Step.{Next, step, step_at, effect, with_result, with_read, write_registers, after_read, after_write, address}
use Rattle.uc_isa.specs.declared.instruction.Dst.{Dst}
use Rattle.uc_isa.specs.declared.instruction.Dst.TheVariants as dst
use Rattle.uc_isa.specs.declared.instruction.Instr.{Instr}
use Rattle.uc_isa.specs.declared.instruction.Instr.TheVariants.{Alu, Un, Immed, Br, Read, Write, Halt}
use Rattle.uc_isa.specs.declared.engine.Engine.{Engine}
use Rattle.uc_isa.specs.declared.engine.Stepped.{Stepped}
use Rattle.uc_isa.specs.declared.engine.Stepped.TheVariants.{Went, Wrote, Halted, Fault}

-- the banks of write registers have their sizes
abbrev pub HasBanks : Engine → Type 0
HasBanks e = (length e.s ≡ 8) × (length e.sd ≡ 8)

result-banks : (d : Dst) (v : ℕ) (e : Engine) → HasBanks e → HasBanks (with_result d v e)
result-banks (dst.A r) v e h = h
result-banks (dst.B r) v e h = h
result-banks (dst.S r) v e h = (length-set e.s r v ∙ h.0, h.1)
result-banks (dst.SD r) v e h = (h.0, length-set e.sd r v ∙ h.1)
result-banks dst.Nowhere v e h = h

fill-banks : (m : Mem) (r : ℕ) (ws : List ℕ) (e : Engine) → HasBanks e → HasBanks (with_read m r ws e)
fill-banks Sram r ws e h = h
fill-banks Sdram r ws e h = h
fill-banks Scratch r ws e h = h

read-banks : (m : Mem) (r at : ℕ) (o : Option (List ℕ)) (e : Engine) (p : Memories) → HasBanks e → HasBanks (after_read m r at o e p).engine
read-banks m r at (Some ws) e p h = fill-banks m r ws e h
read-banks m r at None e p h = h

write-banks : (m : Mem) (at : ℕ) (ws : List ℕ) (o : Option Memories) (e : Engine) (p : Memories) → HasBanks e → HasBanks (after_write m at ws o e p).engine
write-banks m at ws (Some q) e p h = h
write-banks m at ws None e p h = h

effect-banks : (i : Instr) (e : Engine) (p : Memories) → HasBanks e → HasBanks (effect i e p).engine
effect-banks (Alu d op x y) e p h = result-banks d _ e h
effect-banks (Un d op x) e p h = result-banks d _ e h
effect-banks (Immed d v s) e p h = result-banks d _ e h
effect-banks (Br c target) e p h = h
effect-banks (Read m r n x off) e p h = read-banks m r (address x e + off) (fetched m (address x e + off) n p) e p h
effect-banks (Write m r n x off) e p h = write-banks m (address x e + off) _ _ e p h
effect-banks (Halt k n) e p h = h

step-banks : (o : Option Instr) (e : Engine) (p : Memories) → HasBanks e → HasBanks (step_at o e p).engine
step-banks (Some i) e p h = effect-banks i e p h
step-banks None e p h = h

pub after-banks : (code : List Instr) (k : ℕ) (e : Engine) (p : Memories) → HasBanks e → HasBanks (after code k e p).engine
after-banks code zero e p h = h
after-banks code (suc k) e p h = let n : Next = step code e p in after-banks code k n.engine n.packet (step-banks (slice_get code e.place) e p h)

pub start-banks : (args : List ℕ) (base : ℕ) → HasBanks (start args base)
start-banks args base = (refl, refl)

-- ---- a write has a word

registers-eight : (m : Mem) (e : Engine) → HasBanks e → length (write_registers m e) ≡ 8
registers-eight Sram e h = h.0
registers-eight Sdram e h = h.1
registers-eight Scratch e h = h.0

taken-some : (r n : ℕ) (bank : List ℕ) → length bank ≡ 8 → 1 ≤ n → r + n ≤ 8 → 1 ≤ length (take n (drop r bank))
taken-some r n bank eight some fits = grind (arith, length-take, length-drop)

wrote-some : (m : Mem) (at : ℕ) (ws : List ℕ) (o : Option Memories) (e : Engine) (p : Memories) (w : WriteEvent) → 1 ≤ length ws → (after_write m at ws o e p).stepped ≡ Wrote w → 1 ≤ length w.words
wrote-some m at ws (Some q) e p w some h = let same : ws ≡ w.words = cc in subst (λ z. 1 ≤ length z) same some
wrote-some m at ws None e p w some h = cc

read-writes : (m : Mem) (r at : ℕ) (o : Option (List ℕ)) (e : Engine) (p : Memories) (w : WriteEvent) → (after_read m r at o e p).stepped ≡ Wrote w → ⊥
read-writes m r at (Some ws) e p w h = cc
read-writes m r at None e p w h = cc

effect-some : (i : Instr) (e : Engine) (p : Memories) (w : WriteEvent) → Rule2 i → HasBanks e → (effect i e p).stepped ≡ Wrote w → 1 ≤ length w.words
effect-some (Alu d op x y) e p w rule h s = cc
effect-some (Un d op x) e p w rule h s = cc
effect-some (Immed d v k) e p w rule h s = cc
effect-some (Br c target) e p w rule h s = cc
effect-some (Read m r n x off) e p w rule h s = absurd (read-writes m r (address x e + off) (fetched m (address x e + off) n p) e p w s)
effect-some (Write m r n x off) e p w rule h s =
    let ws : List ℕ = take n (drop r (write_registers m e)) in
    let some : 1 ≤ length ws = taken-some r n (write_registers m e) (registers-eight m e h) rule.0 rule.1 in
    wrote-some m (address x e + off) ws (stored m (address x e + off) ws p) e p w some s
effect-some (Halt k n) e p w rule h s = cc

step-some : (code : List Instr) (o : Option Instr) (e : Engine) (p : Memories) (w : WriteEvent) → IsLawful code → slice_get code e.place ≡ o → HasBanks e → (step_at o e p).stepped ≡ Wrote w → 1 ≤ length w.words
step-some code (Some i) e p w lawful is h s = effect-some i e p w (lawful e.place i is).run_inside h s
step-some code None e p w lawful is h s = cc

pub write-some : (code : List Instr) (k : ℕ) (e : Engine) (p : Memories) (w : WriteEvent) → IsLawful code → HasBanks e → stepped_at code k e p ≡ Wrote w → 1 ≤ length w.words
write-some code k e p w lawful h s =
    let n : Next = after code k e p in
    step-some code (slice_get code n.engine.place) n.engine n.packet w lawful refl (after-banks code k e p h) s

-- ---- each write of a run is one of its steps

go-writes : (code : List Instr) (n : ℕ) (s : Stepped) (e : Engine) (p : Memories) (ws : List WriteEvent) (P : WriteEvent → Type 0) → All P ws → ((w : WriteEvent) → s ≡ Wrote w → P w)
    → ((vs : List WriteEvent) → All P vs → All P (run code n e p vs).writes) → All P (continue_run (run code n) s e p ws).writes
go-writes code n Went e p ws P h first next = next ws h
go-writes code n (Wrote w) e p ws P h first next = next (ws ++ w ∷ []) (All-append P ws (w ∷ []) h (All-cons P w [] (first w refl) (All-nil P)))
go-writes code n (Halted k words) e p ws P h first next = h
go-writes code n (Fault m at) e p ws P h first next = h

pub run-writes : (code : List Instr) (n : ℕ) (e : Engine) (p : Memories) (ws : List WriteEvent) (P : WriteEvent → Type 0) → All P ws
    → ((k : ℕ) (w : WriteEvent) → k < n → stepped_at code k e p ≡ Wrote w → P w) → All P (run code n e p ws).writes
run-writes code zero e p ws P h each = h
run-writes code (suc n) e p ws P h each =
    let s : Next = step code e p in
    go-writes code n s.stepped s.engine s.packet ws P h (λ w is. each 0 w (omega arith) is)
    (λ vs h'. run-writes code n s.engine s.packet vs P h' (λ k w lt is. each (suc k) w (omega arith) is))

-- A step depends on the words that it reads and on the sizes of the memories alone.
use Rattle.std.proofs.Common.{◌≡◌, ℕ, ◌+◌, ◌++◌, List, Bool, true, false, Some, None, length, take, drop, refl, ap, ◌∙◌, if◌then◌else◌, nat_le}
use Rattle.std.specs.Prelude.{Option, ⊤}
use Rattle.nv_base.specs.declared.term.Mem.{Mem}
use Rattle.nv_base.specs.Memories.{Memories, fetched, words_at, with_words, first_word}
use Rattle.uc_isa.specs.Step.{Next, step_at, effect, address, after_read, after_write, write_registers}
use Rattle.uc_isa.specs.declared.instruction.Instr.{Instr}
use Rattle.uc_isa.specs.declared.instruction.Instr.TheVariants.{Alu, Un, Immed, Br, Read, Write, Halt}
use Rattle.uc_isa.specs.declared.engine.Engine.{Engine}

-- what the instruction is to read is the same in both memories
abbrev pub ReadsAlike : Option Instr → Engine → Memories → Memories → Type 0
ReadsAlike (Some (Read m r n x off)) e p q = fetched m (address x e + off) n p ≡ fetched m (address x e + off) n q
ReadsAlike i e p q = ⊤

abbrev pub HaveSameSizes : Memories → Memories → Type 0
HaveSameSizes p q = (m : Mem) → length (words_at m p) ≡ length (words_at m q)

-- two steps are of one kind and leave the same engine
abbrev pub StepAlike : Next → Next → Type 0
StepAlike n k = (n.stepped ≡ k.stepped) × (n.engine ≡ k.engine)

read-alike : (m : Mem) (r at : ℕ) (o : Option (List ℕ)) (e : Engine) (p q : Memories) → StepAlike (after_read m r at o e p) (after_read m r at o e q)
read-alike m r at (Some ws) e p q = (refl, refl)
read-alike m r at None e p q = (refl, refl)

write-alike : (b : Bool) (m : Mem) (at : ℕ) (ws : List ℕ) (e : Engine) (p q p' q' : Memories) → StepAlike (after_write m at ws (if b then Some p' else None) e p) (after_write m at ws (if b then Some q' else None) e q)
write-alike true m at ws e p q p' q' = (refl, refl)
write-alike false m at ws e p q p' q' = (refl, refl)

effect-alike : (i : Instr) (e : Engine) (p q : Memories) → HaveSameSizes p q → ReadsAlike (Some i) e p q → StepAlike (effect i e p) (effect i e q)
effect-alike (Alu d op x y) e p q s h = (refl, refl)
effect-alike (Un d op x) e p q s h = (refl, refl)
effect-alike (Immed d v k) e p q s h = (refl, refl)
effect-alike (Br c target) e p q s h = (refl, refl)
effect-alike (Read m r n x off) e p q s h =
    let at : ℕ = address x e + off in
    let same = read-alike m r at (fetched m at n p) e p q in
    (same.0 ∙ ap (λ o. (after_read m r at o e q).stepped) h, same.1 ∙ ap (λ o. (after_read m r at o e q).engine) h)
effect-alike (Write m r n x off) e p q s h =
    let at : ℕ = address x e + off in
    let ws : List ℕ = take n (drop r (write_registers m e)) in
    let first : ℕ = first_word m at in
    let new : Memories = with_words m q (take first (words_at m q) ++ ws ++ drop (first + length ws) (words_at m q)) in
    let same = write-alike (nat_le (first + length ws) (length (words_at m p))) m at ws e p q (with_words m p (take first (words_at m p) ++ ws ++ drop (first + length ws) (words_at m p))) new in (
      same.0 ∙ ap (λ k. (after_write m at ws (if nat_le (first + length ws) k then Some new else None) e q).stepped) (s m),
      same.1 ∙ ap (λ k. (after_write m at ws (if nat_le (first + length ws) k then Some new else None) e q).engine) (s m),
    )
effect-alike (Halt k n) e p q s h = (refl, refl)

pub step-alike : (o : Option Instr) (e : Engine) (p q : Memories) → HaveSameSizes p q → ReadsAlike o e p q → StepAlike (step_at o e p) (step_at o e q)
step-alike (Some i) e p q s h = effect-alike i e p q s h
step-alike None e p q s h = (refl, refl)

-- The engine's banks keep their sizes, and their registers hold words.
use Rattle.std.proofs.Common.{◌≡◌, ℕ, zero, suc, ◌+◌, ◌-◌, ◌*◌, ◌≤◌, ◌<◌, ◌^◌, List, [], ◌∷◌, ◌++◌, Some, None, length, take, drop, All, refl, ap, ◌∙◌, arith, length-append, lit<}
use Rattle.std.proofs.lemmas.List.{length-set, length-take, length-drop, length-replicate}
use Rattle.std.proofs.lemmas.List.Elements.{All-append, All-take, All-drop, All-set, All-replicate, All-cons, All-nil}
use Rattle.std.specs.Prelude.{Option, Bool, slice_index, slice_set, slice_get, replicate}
use Rattle.nv_base.specs.declared.term.Mem.{Mem}
use Rattle.nv_base.specs.declared.term.Mem.TheVariants.{Sram, Sdram, Scratch}
use Rattle.nv_base.specs.declared.term.Una.TheVariants as una
use Rattle.nv_base.specs.Memories.{Memories, HasSizes, fetched, stored}
use Rattle.nv_base.specs.Words.{IsWord}
use Rattle.nv_base.proofs.WordLemmas.{word-fits, una-fits, bin-fits}
use Rattle.nv_base.proofs.MemoryLemmas.{stored-sizes, fetched-words}
use Rattle.uc_isa.specs.Lawful.{IsLawfulAt, IsLawful, IsShift}
use Rattle.uc_isa.specs.Engine.{IsBank, IsEngine, start}
use Rattle.uc_isa.specs.Step.{Next, step, step_at, effect, operand, address, with_result, filled, with_read, write_registers, after_read, after_write, un_word}
use Rattle.uc_isa.specs.declared.instruction.Src.{Src}
use Rattle.uc_isa.specs.declared.instruction.Src.TheVariants as src
use Rattle.uc_isa.specs.declared.instruction.Dst.{Dst}
use Rattle.uc_isa.specs.declared.instruction.Dst.TheVariants as dst
use Rattle.uc_isa.specs.declared.instruction.UnOp.{UnOp}
use Rattle.uc_isa.specs.declared.instruction.UnOp.TheVariants.{Copy, Not, Shl, Shr, Rol}
use Rattle.uc_isa.specs.declared.instruction.Instr.{Instr}
use Rattle.uc_isa.specs.declared.instruction.Instr.TheVariants.{Alu, Un, Immed, Br, Read, Write, Halt}
use Rattle.uc_isa.specs.declared.engine.Engine.{Engine}

-- a register holds a word
word-at : (bank : List ℕ) (r : ℕ) → All IsWord bank → IsWord (slice_index bank r)
word-at [] r h = lit< tt
word-at (x ∷ bank) zero h = h 0 0 (let some : 0 < length (x ∷ bank) = omega arith in some)
word-at (x ∷ bank) (suc r) h = word-at bank r (λ k d lt. h (suc k) d (omega arith))

pub operand-fits : (x : Src) (e : Engine) → IsEngine e → IsWord (operand x e)
operand-fits (src.A r) e h = word-at e.a r h.bank_a.1
operand-fits (src.B r) e h = word-at e.b r h.bank_b.1
operand-fits (src.L r) e h = word-at e.l r h.bank_l.1
operand-fits (src.LD r) e h = word-at e.ld r h.bank_ld.1

un-fits : (op : UnOp) (x : ℕ) → IsShift op → IsWord x → IsWord (un_word op x)
un-fits Copy x s h = h
un-fits Not x s h = una-fits una.Not x s h
un-fits (Shl k) x s h = una-fits (una.Shl k) x s h
un-fits (Shr k) x s h = una-fits (una.Shr k) x s h
un-fits (Rol k) x s h = una-fits (una.Rol k) x s h

pub bank-set : (n : ℕ) (bank : List ℕ) (r v : ℕ) → IsBank n bank → IsWord v → IsBank n (slice_set bank r v)
bank-set n bank r v h w = (length-set bank r v ∙ h.0, All-set IsWord bank r v w h.1)

result-state : (d : Dst) (v : ℕ) (e : Engine) → IsEngine e → IsWord v → IsEngine (with_result d v e)
result-state (dst.A r) v e h w = record { bank_a = bank-set 16 e.a r v h.bank_a w; bank_b = h.bank_b; bank_l = h.bank_l; bank_s = h.bank_s; bank_ld = h.bank_ld; bank_sd = h.bank_sd }
result-state (dst.B r) v e h w = record { bank_a = h.bank_a; bank_b = bank-set 16 e.b r v h.bank_b w; bank_l = h.bank_l; bank_s = h.bank_s; bank_ld = h.bank_ld; bank_sd = h.bank_sd }
result-state (dst.S r) v e h w = record { bank_a = h.bank_a; bank_b = h.bank_b; bank_l = h.bank_l; bank_s = bank-set 8 e.s r v h.bank_s w; bank_ld = h.bank_ld; bank_sd = h.bank_sd }
result-state (dst.SD r) v e h w = record { bank_a = h.bank_a; bank_b = h.bank_b; bank_l = h.bank_l; bank_s = h.bank_s; bank_ld = h.bank_ld; bank_sd = bank-set 8 e.sd r v h.bank_sd w }
result-state dst.Nowhere v e h w = h

-- flags and place may be any
pub other-state : (e : Engine) (z c : Bool) (place : ℕ) → IsEngine e → IsEngine (record e { z = z; c = c; place = place })
other-state e z c place h = record { bank_a = h.bank_a; bank_b = h.bank_b; bank_l = h.bank_l; bank_s = h.bank_s; bank_ld = h.bank_ld; bank_sd = h.bank_sd }

length-filled : (bank : List ℕ) (r : ℕ) (ws : List ℕ) → length bank ≡ 8 → r + length ws ≤ 8 → length (filled bank r ws) ≡ 8
length-filled bank r ws eight fits =
    let front : length (take r bank) ≡ r = grind (arith, length-take) in
    let rest : length (drop (r + length ws) bank) ≡ 8 - (r + length ws) = grind (arith, length-drop) in
    let all : length (filled bank r ws) ≡ length (take r bank) + length ws + length (drop (r + length ws) bank) = length-append (take r bank ++ ws) (drop (r + length ws) bank) ∙ ap (λ n. n + length (drop (r + length ws) bank)) (length-append (take r bank) ws) in
    omega arith

bank-filled : (bank : List ℕ) (r : ℕ) (ws : List ℕ) → IsBank 8 bank → r + length ws ≤ 8 → All IsWord ws → IsBank 8 (filled bank r ws)
bank-filled bank r ws h fits w =
    (length-filled bank r ws h.0 fits, All-append IsWord (take r bank ++ ws) (drop (r + length ws) bank) (All-append IsWord (take r bank) ws (All-take IsWord r bank h.1) w) (All-drop IsWord (r + length ws) bank h.1))

pub read-state : (m : Mem) (r : ℕ) (ws : List ℕ) (e : Engine) → IsEngine e → r + length ws ≤ 8 → All IsWord ws → IsEngine (with_read m r ws e)
read-state Sram r ws e h fits w = record { bank_a = h.bank_a; bank_b = h.bank_b; bank_l = bank-filled e.l r ws h.bank_l fits w; bank_s = h.bank_s; bank_ld = h.bank_ld; bank_sd = h.bank_sd }
read-state Sdram r ws e h fits w = record { bank_a = h.bank_a; bank_b = h.bank_b; bank_l = h.bank_l; bank_s = h.bank_s; bank_ld = bank-filled e.ld r ws h.bank_ld fits w; bank_sd = h.bank_sd }
read-state Scratch r ws e h fits w = record { bank_a = h.bank_a; bank_b = h.bank_b; bank_l = bank-filled e.l r ws h.bank_l fits w; bank_s = h.bank_s; bank_ld = h.bank_ld; bank_sd = h.bank_sd }

pub written-fits : (m : Mem) (e : Engine) → IsEngine e → All IsWord (write_registers m e)
written-fits Sram e h = h.bank_s.1
written-fits Sdram e h = h.bank_sd.1
written-fits Scratch e h = h.bank_s.1

-- the engine and the memories are ones that can be
abbrev pub AreStates : Next → Type 0
AreStates n = IsEngine n.engine × HasSizes n.packet

after-read_states : (m : Mem) (r at n : ℕ) (o : Option (List ℕ)) (e : Engine) (p : Memories) → fetched m at n p ≡ o → r + n ≤ 8 → IsEngine e → HasSizes p → AreStates (after_read m r at o e p)
after-read_states m r at n (Some ws) e p f fits h s =
    let words = fetched-words m at n p ws s f in
    let inside : r + length ws ≤ 8 = omega (arith, words.0) in
    let state : IsEngine (with_read m r ws e) = read-state m r ws e h inside words.1 in
    (other-state (with_read m r ws e) (with_read m r ws e).z (with_read m r ws e).c ((with_read m r ws e).place + 1) state, s)
after-read_states m r at n None e p f fits h s = (h, s)

after-write_states : (m : Mem) (at : ℕ) (ws : List ℕ) (o : Option Memories) (e : Engine) (p : Memories) → stored m at ws p ≡ o → All IsWord ws → IsEngine e → HasSizes p → AreStates (after_write m at ws o e p)
after-write_states m at ws (Some q) e p f w h s = (other-state e e.z e.c (e.place + 1) h, stored-sizes m at ws p q s w f)
after-write_states m at ws None e p f w h s = (h, s)

pub effect-states : (code : List Instr) (place : ℕ) (i : Instr) (e : Engine) (p : Memories) → IsLawfulAt code place i → IsEngine e → HasSizes p → AreStates (effect i e p)
effect-states code place (Alu d op x y) e p l h s =
    (other-state (with_result d _ e) _ _ _ (result-state d _ e h (bin-fits op (operand x e) (operand y e) (operand-fits x e h) (operand-fits y e h))), s)
effect-states code place (Un d op x) e p l h s = (other-state (with_result d _ e) _ _ _ (result-state d _ e h (un-fits op (operand x e) l.numbers (operand-fits x e h))), s)
effect-states code place (Immed d v k) e p l h s = (other-state (with_result d _ e) _ _ _ (result-state d _ e h (word-fits (v * 2 ^ k))), s)
effect-states code place (Br c target) e p l h s = (other-state e e.z e.c _ h, s)
effect-states code place (Read m r n x off) e p l h s = after-read_states m r (address x e + off) n _ e p refl l.run_inside.1 h s
effect-states code place (Write m r n x off) e p l h s =
    after-write_states m (address x e + off) _ _ e p refl (All-take IsWord n (drop r (write_registers m e)) (All-drop IsWord r (write_registers m e) (written-fits m e h))) h s
effect-states code place (Halt k n) e p l h s = (h, s)

step_at-states : (code : List Instr) (o : Option Instr) (e : Engine) (p : Memories) → IsLawful code → slice_get code e.place ≡ o → IsEngine e → HasSizes p → AreStates (step_at o e p)
step_at-states code (Some i) e p l f h s = effect-states code e.place i e p (l e.place i f) h s
step_at-states code None e p l f h s = (h, s)

pub step-states : (code : List Instr) (e : Engine) (p : Memories) → IsLawful code → IsEngine e → HasSizes p → AreStates (step code e p)
step-states code e p l h s = step_at-states code (slice_get code e.place) e p l refl h s

bank-zeros : (n : ℕ) → IsBank n (replicate n 0)
bank-zeros n = (length-replicate n 0, All-replicate IsWord n 0 (lit< tt))

pub start-state : (args : List ℕ) (base : ℕ) → length args ≤ 16 → All IsWord args → IsWord base → IsEngine (start args base)
start-state args base few w b = record {
  bank_a =
      let zeros : List ℕ = replicate (16 - length args) 0 in
      let rest : length zeros ≡ 16 - length args = length-replicate {A = ℕ} (16 - length args) 0 in
      let all : length (args ++ zeros) ≡ length args + length zeros = length-append args zeros in
      (omega arith, All-append IsWord args zeros w (All-replicate IsWord (16 - length args) 0 (lit< tt)));
  bank_b =
      let zeros : List ℕ = replicate 15 0 in
      let front : length zeros ≡ 15 = length-replicate {A = ℕ} 15 0 in
      let all : length (zeros ++ base ∷ []) ≡ length zeros + 1 = length-append zeros (base ∷ []) in
      (omega arith, All-append IsWord zeros (base ∷ []) (All-replicate IsWord 15 0 (lit< tt)) (All-cons IsWord base [] b (All-nil IsWord)));
  bank_l = bank-zeros 8;
  bank_s = bank-zeros 8;
  bank_ld = bank-zeros 8;
  bank_sd = bank-zeros 8;
}

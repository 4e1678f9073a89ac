-- What registers hold after an instruction.
use Rattle.std.proofs.Common.{◌≡◌, ℕ, suc, ◌+◌, ◌-◌, ◌<◌, ◌≤◌, List, [], ◌∷◌, ◌++◌, Some, Bool, length, take, drop, refl, ap, sym, ◌∙◌, subst, ⊎_elim, arith, set, get_or-set_same, get_or-set_other, length-append}
use Rattle.std.proofs.lemmas.Bool.{cases_lt}
use Rattle.std.proofs.lemmas.List.{get_or_append_left, get_or-append_right, get_or-take, get_or-drop, length-take-le, length-drop}
use Rattle.std.specs.Prelude.{slice_index, replicate}
use Rattle.nv_base.specs.declared.term.Mem.{Mem}
use Rattle.nv_base.specs.declared.term.Mem.TheVariants.{Sram, Sdram, Scratch}
use Rattle.uc_isa.specs.Engine.{IsEngine, start}
use Rattle.uc_isa.specs.Registers.{Register, Puts, Fills, IsRegister, register, source_register, address_register, target_register, read_register, write_register}
use Rattle.uc_isa.specs.Registers.Register.{InA, InB, InL, InS, InLD, InSD}
use Rattle.uc_isa.specs.Step.{operand, address, with_result, with_flags, with_read, write_registers, onward, filled}
use Rattle.uc_isa.specs.declared.instruction.Src.{Src}
use Rattle.uc_isa.specs.declared.instruction.Src.TheVariants as src
use Rattle.uc_isa.specs.declared.instruction.Dst.{Dst}
use Rattle.uc_isa.specs.declared.instruction.Dst.TheVariants as dst
use Rattle.uc_isa.specs.declared.instruction.Gpr.{Gpr}
use Rattle.uc_isa.specs.declared.instruction.Gpr.TheVariants as gpr
use Rattle.uc_isa.specs.declared.engine.Engine.{Engine}
use Rattle.uc_isa.proofs.Places.{place-with_result, place-with_read}

pub operand-register : (x : Src) (e : Engine) → operand x e ≡ register (source_register x) e
operand-register (src.A k) e = refl
operand-register (src.B k) e = refl
operand-register (src.L k) e = refl
operand-register (src.LD k) e = refl

pub address-register : (x : Gpr) (e : Engine) → address x e ≡ register (address_register x) e
address-register (gpr.A k) e = refl
address-register (gpr.B k) e = refl

-- the engine with other flags and at another place has the same registers
pub register-other : (r : Register) (e : Engine) (z c : Bool) (place : ℕ) → register r (record e { z = z; c = c; place = place }) ≡ register r e
register-other (InA k) e z c place = refl
register-other (InB k) e z c place = refl
register-other (InL k) e z c place = refl
register-other (InS k) e z c place = refl
register-other (InLD k) e z c place = refl
register-other (InSD k) e z c place = refl

-- the register that a target names has the word
result-there : (d : Dst) (v : ℕ) (e : Engine) (r : Register) → IsEngine e → target_register d ≡ Some r → IsRegister r → register r (with_result d v e) ≡ v
result-there (dst.A k) v e r h t = let same : InA k ≡ r = cc in subst (λ (x : Register). IsRegister x → register x (with_result (dst.A k) v e) ≡ v) same (λ inside. get_or-set_same e.a k v 0 (omega (arith, inside, h.bank_a.0)))
result-there (dst.B k) v e r h t = let same : InB k ≡ r = cc in subst (λ (x : Register). IsRegister x → register x (with_result (dst.B k) v e) ≡ v) same (λ inside. get_or-set_same e.b k v 0 (omega (arith, inside, h.bank_b.0)))
result-there (dst.S k) v e r h t = let same : InS k ≡ r = cc in subst (λ (x : Register). IsRegister x → register x (with_result (dst.S k) v e) ≡ v) same (λ inside. get_or-set_same e.s k v 0 (omega (arith, inside, h.bank_s.0)))
result-there (dst.SD k) v e r h t = let same : InSD k ≡ r = cc in subst (λ (x : Register). IsRegister x → register x (with_result (dst.SD k) v e) ≡ v) same (λ inside. get_or-set_same e.sd k v 0 (omega (arith, inside, h.bank_sd.0)))
result-there dst.Nowhere v e r h t = cc

-- no other register changes
elsewhere : (bank : List ℕ) (k j v : ℕ) (named : ℕ → Register) → ¬ (Some (named k) ≡ Some (named j)) → slice_index (set bank k v) j ≡ slice_index bank j
elsewhere bank k j v named far = get_or-set_other bank k j v 0 (λ e. far (ap (λ i. Some (named i)) (sym e)))

result-kept : (d : Dst) (v : ℕ) (e : Engine) (r : Register) → ¬ (target_register d ≡ Some r) → register r (with_result d v e) ≡ register r e
result-kept (dst.A k) v e (InA j) far = elsewhere e.a k j v InA far
result-kept (dst.A k) v e (InB j) far = refl
result-kept (dst.A k) v e (InL j) far = refl
result-kept (dst.A k) v e (InS j) far = refl
result-kept (dst.A k) v e (InLD j) far = refl
result-kept (dst.A k) v e (InSD j) far = refl
result-kept (dst.B k) v e (InA j) far = refl
result-kept (dst.B k) v e (InB j) far = elsewhere e.b k j v InB far
result-kept (dst.B k) v e (InL j) far = refl
result-kept (dst.B k) v e (InS j) far = refl
result-kept (dst.B k) v e (InLD j) far = refl
result-kept (dst.B k) v e (InSD j) far = refl
result-kept (dst.S k) v e (InA j) far = refl
result-kept (dst.S k) v e (InB j) far = refl
result-kept (dst.S k) v e (InL j) far = refl
result-kept (dst.S k) v e (InS j) far = elsewhere e.s k j v InS far
result-kept (dst.S k) v e (InLD j) far = refl
result-kept (dst.S k) v e (InSD j) far = refl
result-kept (dst.SD k) v e (InA j) far = refl
result-kept (dst.SD k) v e (InB j) far = refl
result-kept (dst.SD k) v e (InL j) far = refl
result-kept (dst.SD k) v e (InS j) far = refl
result-kept (dst.SD k) v e (InLD j) far = refl
result-kept (dst.SD k) v e (InSD j) far = elsewhere e.sd k j v InSD far
result-kept dst.Nowhere v e r far = refl

puts-result : (d : Dst) (v : ℕ) (e : Engine) (z c : Bool) → IsEngine e → Puts d v e (record (with_result d v e) { z = z; c = c; place = (with_result d v e).place + 1 })
puts-result d v e z c h = record {
  target = λ r t inside. register-other r (with_result d v e) z c ((with_result d v e).place + 1) ∙ result-there d v e r h t inside;
  others = λ r far. register-other r (with_result d v e) z c ((with_result d v e).place + 1) ∙ result-kept d v e r far;
  next = ap (λ n. n + 1) (place-with_result d v e);
}

pub puts-word : (d : Dst) (v : ℕ) (e : Engine) → IsEngine e → Puts d v e (onward (with_result d v e))
puts-word d v e h = puts-result d v e (with_result d v e).z (with_result d v e).c h

pub puts-flags : (d : Dst) (v w : ℕ) (c : Bool) (e : Engine) → IsEngine e → Puts d v e (onward (with_flags w c (with_result d v e)))
puts-flags d v w c e h = puts-result d v e (with_flags w c (with_result d v e)).z c h

-- the words of a run, and those beside it
filled-run : (bank : List ℕ) (r : ℕ) (ws : List ℕ) (i : ℕ) → r + length ws ≤ length bank → i < length ws → slice_index (filled bank r ws) (r + i) ≡ slice_index ws i
filled-run bank r ws i le lt =
    let front : length (take r bank) ≡ r = length-take-le r bank (omega arith) in
    let both : length (take r bank ++ ws) ≡ length (take r bank) + length ws = length-append (take r bank) ws in
    let back : (r + i) - r ≡ i = omega arith in
    get_or_append_left (take r bank ++ ws) (drop (r + length ws) bank) 0 (r + i) (omega arith)
    ∙ get_or-append_right (take r bank) ws r (r + i) 0 front (omega arith)
    ∙ ap (λ k. slice_index ws k) back

filled-before : (bank : List ℕ) (r : ℕ) (ws : List ℕ) (j : ℕ) → r + length ws ≤ length bank → j < r → slice_index (filled bank r ws) j ≡ slice_index bank j
filled-before bank r ws j le lt =
    let front : length (take r bank) ≡ r = length-take-le r bank (omega arith) in
    let both : length (take r bank ++ ws) ≡ length (take r bank) + length ws = length-append (take r bank) ws in
    get_or_append_left (take r bank ++ ws) (drop (r + length ws) bank) 0 j (omega arith)
    ∙ get_or_append_left (take r bank) ws 0 j (omega arith)
    ∙ get_or-take r bank j 0 lt

filled-behind : (bank : List ℕ) (r : ℕ) (ws : List ℕ) (j : ℕ) → r + length ws ≤ length bank → r + length ws ≤ j → slice_index (filled bank r ws) j ≡ slice_index bank j
filled-behind bank r ws j le behind =
    let front : length (take r bank) ≡ r = length-take-le r bank (omega arith) in
    let both : length (take r bank ++ ws) ≡ length (take r bank) + length ws = length-append (take r bank) ws in
    let back : (r + length ws) + (j - (r + length ws)) ≡ j = omega arith in
    get_or-append_right (take r bank ++ ws) (drop (r + length ws) bank) (r + length ws) j 0 (omega arith) behind
    ∙ get_or-drop (r + length ws) bank (j - (r + length ws)) 0
    ∙ ap (λ k. slice_index bank k) back

-- a register outside the run
filled-beside : (bank : List ℕ) (r : ℕ) (ws : List ℕ) (j : ℕ) (named : ℕ → Register) → r + length ws ≤ length bank → ((i : ℕ) → i < length ws → ¬ (named j ≡ named (r + i))) → slice_index (filled bank r ws) j ≡ slice_index bank j
filled-beside bank r ws j named le far =
    ⊎_elim
    (λ before. filled-before bank r ws j le before)
    (λ since. ⊎_elim
    (λ inside. absurd (let at : j ≡ r + (j - r) = omega arith in far (j - r) (omega arith) (ap named at)))
    (λ behind. filled-behind bank r ws j le behind)
    (cases_lt j (r + length ws)))
    (cases_lt j r)

read-there : (m : Mem) (r : ℕ) (ws : List ℕ) (e : Engine) (i : ℕ) → IsEngine e → r + length ws ≤ 8 → i < length ws → register (read_register m (r + i)) (with_read m r ws e) ≡ slice_index ws i
read-there Sram r ws e i h le lt = filled-run e.l r ws i (omega (arith, h.bank_l.0)) lt
read-there Sdram r ws e i h le lt = filled-run e.ld r ws i (omega (arith, h.bank_ld.0)) lt
read-there Scratch r ws e i h le lt = filled-run e.l r ws i (omega (arith, h.bank_l.0)) lt

-- L, or LD, apart from a run
abbrev pub IsApart : Mem → ℕ → List ℕ → Register → Type 0
IsApart m r ws x = (i : ℕ) → i < length ws → ¬ (x ≡ read_register m (r + i))

kept-in_l : (r : ℕ) (ws : List ℕ) (e : Engine) (x : Register) → IsEngine e → r + length ws ≤ 8 → IsApart Sram r ws x → register x (record e { l = filled e.l r ws }) ≡ register x e
kept-in_l r ws e (InA j) h le far = refl
kept-in_l r ws e (InB j) h le far = refl
kept-in_l r ws e (InL j) h le far = filled-beside e.l r ws j InL (omega (arith, h.bank_l.0)) far
kept-in_l r ws e (InS j) h le far = refl
kept-in_l r ws e (InLD j) h le far = refl
kept-in_l r ws e (InSD j) h le far = refl

kept-in_ld : (r : ℕ) (ws : List ℕ) (e : Engine) (x : Register) → IsEngine e → r + length ws ≤ 8 → IsApart Sdram r ws x → register x (record e { ld = filled e.ld r ws }) ≡ register x e
kept-in_ld r ws e (InA j) h le far = refl
kept-in_ld r ws e (InB j) h le far = refl
kept-in_ld r ws e (InL j) h le far = refl
kept-in_ld r ws e (InS j) h le far = refl
kept-in_ld r ws e (InLD j) h le far = filled-beside e.ld r ws j InLD (omega (arith, h.bank_ld.0)) far
kept-in_ld r ws e (InSD j) h le far = refl

read-kept : (m : Mem) (r : ℕ) (ws : List ℕ) (e : Engine) (x : Register) → IsEngine e → r + length ws ≤ 8 → IsApart m r ws x → register x (with_read m r ws e) ≡ register x e
read-kept Sram r ws e x h le far = kept-in_l r ws e x h le far
read-kept Sdram r ws e x h le far = kept-in_ld r ws e x h le far
read-kept Scratch r ws e x h le far = kept-in_l r ws e x h le far

pub fills-run : (m : Mem) (r : ℕ) (ws : List ℕ) (e : Engine) → IsEngine e → r + length ws ≤ 8 → Fills m r ws e (onward (with_read m r ws e))
fills-run m r ws e h le =
    let to : Engine = with_read m r ws e in
    record {
      run = λ i lt. register-other (read_register m (r + i)) to to.z to.c (to.place + 1) ∙ read-there m r ws e i h le lt;
      others = λ x far. register-other x to to.z to.c (to.place + 1) ∙ read-kept m r ws e x h le far;
      next = ap (λ n. n + 1) (place-with_read m r ws e);
    }

-- registers one by one, and as a list
front-is : (ws bank : List ℕ) → length ws ≤ length bank → ((i : ℕ) → i < length ws → slice_index bank i ≡ slice_index ws i) → take (length ws) bank ≡ ws
front-is [] [] le h = refl
front-is [] (b ∷ bank) le h = refl
front-is (w ∷ ws) [] le h = absurd (omega arith)
front-is (w ∷ ws) (b ∷ bank) le h =
    let first : b ≡ w = h 0 (omega arith) in
    ap (λ x. x ∷ take (length ws) bank) first ∙ ap (λ xs. w ∷ xs) (front-is ws bank (omega arith) (λ i lt. h (suc i) (omega arith)))

run-is : (r : ℕ) (bank ws : List ℕ) → r + length ws ≤ length bank → ((i : ℕ) → i < length ws → slice_index bank (r + i) ≡ slice_index ws i) → take (length ws) (drop r bank) ≡ ws
run-is r bank ws le h =
    let rest : length ws ≤ length (drop r bank) = grind (arith, length-drop) in
    front-is ws (drop r bank) rest (λ i lt. get_or-drop r bank i 0 ∙ h i lt)

pub written-run : (m : Mem) (r : ℕ) (ws : List ℕ) (e : Engine) → IsEngine e → r + length ws ≤ 8 → ((i : ℕ) → i < length ws → register (write_register m (r + i)) e ≡ slice_index ws i) → take (length ws) (drop r (write_registers m e)) ≡ ws
written-run Sram r ws e h le each = run-is r e.s ws (omega (arith, h.bank_s.0)) each
written-run Sdram r ws e h le each = run-is r e.sd ws (omega (arith, h.bank_sd.0)) each
written-run Scratch r ws e h le each = run-is r e.s ws (omega (arith, h.bank_s.0)) each

pub halted-run : (ws : List ℕ) (e : Engine) → IsEngine e → length ws ≤ 16 → ((i : ℕ) → i < length ws → register (InA i) e ≡ slice_index ws i) → take (length ws) e.a ≡ ws
halted-run ws e h le each = front-is ws e.a (omega (arith, h.bank_a.0)) each

-- the first engine
pub started-args : (args : List ℕ) (base i : ℕ) → i < length args → register (InA i) (start args base) ≡ slice_index args i
started-args args base i lt = get_or_append_left args (replicate (16 - length args) 0) 0 i lt

pub started-base : (args : List ℕ) (base : ℕ) → register (InB 15) (start args base) ≡ base
started-base args base = refl

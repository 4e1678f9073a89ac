-- A relocated instruction at the moved place does the same.
use Rattle.std.proofs.Common.{◌≡◌, ℕ, ◌+◌, ◌<◌, Bool, true, false, List, Option, Some, None, if◌then◌else◌, refl, sym, ap, ◌∙◌, take, drop}
use Rattle.nv_base.specs.declared.term.Mem.{Mem}
use Rattle.nv_base.specs.declared.term.Mem.TheVariants.{Sram, Sdram, Scratch}
use Rattle.nv_base.specs.Memories.{Memories, fetched, stored}
use Rattle.uc_isa.specs.Step.{Next, effect, operand, address, with_result, with_flags, with_read, onward, holds, after_read, after_write, write_registers, bin_carry, un_word}
use Rattle.uc_isa.specs.declared.instruction.Src.{Src}
use Rattle.uc_isa.specs.declared.instruction.Src.TheVariants as src
use Rattle.uc_isa.specs.declared.instruction.Dst.{Dst}
use Rattle.uc_isa.specs.declared.instruction.Dst.TheVariants as dst
use Rattle.uc_isa.specs.declared.instruction.Gpr.{Gpr}
use Rattle.uc_isa.specs.declared.instruction.Gpr.TheVariants as gpr
use Rattle.uc_isa.specs.declared.instruction.Cond.{Cond}
use Rattle.uc_isa.specs.declared.instruction.Cond.TheVariants.{Always, Z, NZ, C, NC}
use Rattle.uc_isa.specs.declared.instruction.Instr.{Instr}
use Rattle.uc_isa.specs.declared.instruction.Instr.TheVariants.{Alu, Un, Immed, Br, Read, Write, Halt}
use Rattle.uc_isa.specs.declared.engine.Engine.{Engine}
use Rattle.uc_isa.specs.Moves.{weight}
use Rattle.uc_isa.specs.declared.instruction.UnOp.TheVariants.{Copy, Not, Shl, Shr, Rol}
use Rattle.uc_isa.specs.Lawful.{IsLast, Rule5}
use Rattle.uc_isa.proofs.Places.{place-with_result, place-with_read}
use Rattle.uc_isa.specs.Program.{IsFormed}
use Rattle.uc_isa.specs.Relocated.{at_place, moved, relocated, DoesMoved}

operand-moved : (x : Src) (y : ℕ) (e : Engine) → operand x (at_place y e) ≡ operand x e
operand-moved (src.A k) y e = refl
operand-moved (src.B k) y e = refl
operand-moved (src.L k) y e = refl
operand-moved (src.LD k) y e = refl

address-moved : (x : Gpr) (y : ℕ) (e : Engine) → address x (at_place y e) ≡ address x e
address-moved (gpr.A k) y e = refl
address-moved (gpr.B k) y e = refl

holds-moved : (b : Cond) (y : ℕ) (e : Engine) → holds b (at_place y e) ≡ holds b e
holds-moved Always y e = refl
holds-moved Z y e = refl
holds-moved NZ y e = refl
holds-moved C y e = refl
holds-moved NC y e = refl

written-moved : (m : Mem) (y : ℕ) (e : Engine) → write_registers m (at_place y e) ≡ write_registers m e
written-moved Sram y e = refl
written-moved Sdram y e = refl
written-moved Scratch y e = refl

result-moved : (d : Dst) (v y : ℕ) (e : Engine) → with_result d v (at_place y e) ≡ at_place y (with_result d v e)
result-moved (dst.A k) v y e = refl
result-moved (dst.B k) v y e = refl
result-moved (dst.S k) v y e = refl
result-moved (dst.SD k) v y e = refl
result-moved dst.Nowhere v y e = refl

read-moved : (m : Mem) (r : ℕ) (ws : List ℕ) (y : ℕ) (e : Engine) → with_read m r ws (at_place y e) ≡ at_place y (with_read m r ws e)
read-moved Sram r ws y e = refl
read-moved Sdram r ws y e = refl
read-moved Scratch r ws y e = refl

branch-moved : (f : ℕ → ℕ) (b : Bool) (t x : ℕ) → f (x + 1) ≡ f x + 1 → (if b then f t else (f x + 1)) ≡ f (if b then t else (x + 1))
branch-moved f true t x h = refl
branch-moved f false t x h = sym h

-- a result put at the moved place, and one step on
put-moved : (f : ℕ → ℕ) (d : Dst) (v v' : ℕ) (e : Engine) → v' ≡ v → f (e.place + 1) ≡ f e.place + 1 → onward (with_result d v' (moved f e)) ≡ moved f (onward (with_result d v e))
put-moved f d v v' e same h =
    ap (λ w. onward (with_result d w (moved f e))) same
    ∙ ap onward (result-moved d v (f e.place) e)
    ∙ ap (λ n. at_place n (with_result d v e)) (sym h ∙ ap (λ n. f (n + 1)) (sym (place-with_result d v e)))

flagged-moved : (f : ℕ → ℕ) (d : Dst) (v v' : ℕ) (c c' : Bool) (e : Engine) → v' ≡ v → c' ≡ c → f (e.place + 1) ≡ f e.place + 1 → onward (with_flags v' c' (with_result d v' (moved f e))) ≡ moved f (onward (with_flags v c (with_result d v e)))
flagged-moved f d v v' c c' e same carry h =
    ap (λ w. onward (with_flags w c' (with_result d w (moved f e)))) same
    ∙ ap (λ b. onward (with_flags v b (with_result d v (moved f e)))) carry
    ∙ ap (λ x. onward (with_flags v c x)) (result-moved d v (f e.place) e)
    ∙ ap (λ n. at_place n (with_flags v c (with_result d v e))) (sym h ∙ ap (λ n. f (n + 1)) (sym (place-with_result d v e)))

-- what a read does at the moved place
pub record IsMoved (f : ℕ → ℕ) (n n' : Next) : Type 0 where
  pub stepped : n.stepped ≡ n'.stepped
  pub packet : n.packet ≡ n'.packet
  pub engine : n'.engine ≡ moved f n.engine

after-read-moved : (f : ℕ → ℕ) (m : Mem) (r at : ℕ) (o : Option (List ℕ)) (e : Engine) (p : Memories) → f (e.place + 1) ≡ f e.place + 1 → IsMoved f (after_read m r at o e p) (after_read m r at o (moved f e) p)
after-read-moved f m r at (Some ws) e p h = record {
  stepped = refl;
  packet = refl;
  engine = ap onward (read-moved m r ws (f e.place) e) ∙ ap (λ n. at_place n (with_read m r ws e)) (sym h ∙ ap (λ n. f (n + 1)) (sym (place-with_read m r ws e)));
}
after-read-moved f m r at None e p h = record { stepped = refl; packet = refl; engine = refl }

after-write-moved : (f : ℕ → ℕ) (m : Mem) (at : ℕ) (ws : List ℕ) (o : Option Memories) (e : Engine) (p : Memories) → f (e.place + 1) ≡ f e.place + 1 → IsMoved f (after_write m at ws o e p) (after_write m at ws o (moved f e) p)
after-write-moved f m at ws (Some q) e p h = record { stepped = refl; packet = refl; engine = ap (λ n. at_place n e) (sym h) }
after-write-moved f m at ws None e p h = record { stepped = refl; packet = refl; engine = refl }

pub does-moved : (f : ℕ → ℕ) (i : Instr) (e : Engine) (p : Memories) → f (e.place + 1) ≡ f e.place + 1 → DoesMoved f i e p
does-moved f (Alu d op x y) e p h =
    let one = operand-moved x (f e.place) e in
    let two = operand-moved y (f e.place) e in
    record {
      stepped = refl;
      packet = refl;
      engine = flagged-moved f d _ _ _ _ e (ap (λ n. Rattle.nv_base.specs.Words.bin_word op n (operand y (moved f e))) one ∙ ap (λ n. Rattle.nv_base.specs.Words.bin_word op (operand x e) n) two) (ap (λ n. bin_carry op n (operand y (moved f e))) one ∙ ap (λ n. bin_carry op (operand x e) n) two) h;
      access = refl;
    }
does-moved f (Un d op x) e p h = record { stepped = refl; packet = refl; engine = flagged-moved f d _ _ false false e (ap (un_word op) (operand-moved x (f e.place) e)) refl h; access = refl }
does-moved f (Immed d v k) e p h = record { stepped = refl; packet = refl; engine = put-moved f d _ _ e refl h; access = refl }
does-moved f (Br b t) e p h = record {
  stepped = refl;
  packet = refl;
  engine = ap (λ (u : Bool). at_place (if u then f t else (f e.place + 1)) e) (holds-moved b (f e.place) e) ∙ ap (λ n. at_place n e) (branch-moved f (holds b e) t e.place h);
  access = refl;
}
does-moved f (Read m r n x off) e p h =
    let to : address x (moved f e) ≡ address x e = address-moved x (f e.place) e in
    let a = after-read-moved f m r (address x e + off) (fetched m (address x e + off) n p) e p h in
    let same : effect (Read m r n x off) (moved f e) p ≡ after_read m r (address x e + off) (fetched m (address x e + off) n p) (moved f e) p = ap (λ k. after_read m r (k + off) (fetched m (k + off) n p) (moved f e) p) to in
    record {
      stepped = a.stepped ∙ sym (ap (λ (t : Next). t.stepped) same);
      packet = a.packet ∙ sym (ap (λ (t : Next). t.packet) same);
      engine = ap (λ (t : Next). t.engine) same ∙ a.engine;
      access = ap (λ k. Some (record { mem = m; at = k + off; count = n; written = None })) (sym to);
    }
does-moved f (Write m r n x off) e p h =
    let to : address x (moved f e) ≡ address x e = address-moved x (f e.place) e in
    let words : take n (drop r (write_registers m (moved f e))) ≡ take n (drop r (write_registers m e)) = ap (λ l. take n (drop r l)) (written-moved m (f e.place) e) in
    let ws : List ℕ = take n (drop r (write_registers m e)) in
    let a = after-write-moved f m (address x e + off) (take n (drop r (write_registers m e))) (stored m (address x e + off) (take n (drop r (write_registers m e))) p) e p h in
    let same : effect (Write m r n x off) (moved f e) p ≡ after_write m (address x e + off) (take n (drop r (write_registers m e))) (stored m (address x e + off) (take n (drop r (write_registers m e))) p) (moved f e) p =
    ap (λ k. after_write m (k + off) (take n (drop r (write_registers m (moved f e)))) (stored m (k + off) (take n (drop r (write_registers m (moved f e)))) p) (moved f e) p) to
    ∙ ap (λ l. after_write m (address x e + off) l (stored m (address x e + off) l p) (moved f e) p) words in
    record {
      stepped = a.stepped ∙ sym (ap (λ (t : Next). t.stepped) same);
      packet = a.packet ∙ sym (ap (λ (t : Next). t.packet) same);
      engine = ap (λ (t : Next). t.engine) same ∙ a.engine;
      access = ap (λ k. Some (record { mem = m; at = k + off; count = n; written = Some (take n (drop r (write_registers m e))) })) (sym to) ∙ ap (λ l. Some (record { mem = m; at = address x (moved f e) + off; count = n; written = Some l })) (sym words);
    }
does-moved f (Halt k n) e p h = record { stepped = refl; packet = refl; engine = refl; access = refl }

-- ---- a relocated instruction is as lawful, and weighs the same

pub relocated-formed : (f : ℕ → ℕ) (i : Instr) → IsFormed i → IsFormed (relocated f i)
relocated-formed f (Alu d op x y) h = h
relocated-formed f (Un d op x) h = h
relocated-formed f (Immed d v k) h = h
relocated-formed f (Br b t) h = record { operands = h.operands; run_inside = h.run_inside; pairs = h.pairs; numbers = h.numbers; halt = h.halt }
relocated-formed f (Read m r n x off) h = h
relocated-formed f (Write m r n x off) h = h
relocated-formed f (Halt k n) h = h

pub relocated-target : (f : ℕ → ℕ) (n m : ℕ) (i : Instr) → ((t : ℕ) → t < n → f t < m) → Rule5 n i → Rule5 m (relocated f i)
relocated-target f n m (Alu d op x y) h t = tt
relocated-target f n m (Un d op x) h t = tt
relocated-target f n m (Immed d v k) h t = tt
relocated-target f n m (Br b t) h lt = h t lt
relocated-target f n m (Read k r j x off) h t = tt
relocated-target f n m (Write k r j x off) h t = tt
relocated-target f n m (Halt k j) h t = tt

pub relocated-last : (f : ℕ → ℕ) (i : Instr) → IsLast i → IsLast (relocated f i)
relocated-last f (Alu d op x y) h = h
relocated-last f (Un d op x) h = h
relocated-last f (Immed d v k) h = h
relocated-last f (Br Always t) h = h
relocated-last f (Br Z t) h = h
relocated-last f (Br NZ t) h = h
relocated-last f (Br C t) h = h
relocated-last f (Br NC t) h = h
relocated-last f (Read m r n x off) h = h
relocated-last f (Write m r n x off) h = h
relocated-last f (Halt k n) h = h

pub relocated-weight : (f : ℕ → ℕ) (i : Instr) → weight (relocated f i) ≡ weight i
relocated-weight f (Alu d op x y) = refl
relocated-weight f (Un d Copy x) = refl
relocated-weight f (Un d Not x) = refl
relocated-weight f (Un d (Shl k) x) = refl
relocated-weight f (Un d (Shr k) x) = refl
relocated-weight f (Un d (Rol k) x) = refl
relocated-weight f (Immed d v k) = refl
relocated-weight f (Br b t) = refl
relocated-weight f (Read m r n x off) = refl
relocated-weight f (Write m r n x off) = refl
relocated-weight f (Halt k n) = refl

-- A comparison with a zero is a test of the other operand.
use Rattle.std.proofs.Common.{◌≡◌, ℕ, zero, suc, ◌*◌, ◌%◌, ◌^◌, ◌<◌, Bool, true, false, not, ◌&&◌, ◌||◌, List, [], ◌∷◌, length, get_or, Some, nat_eq, refl, sym, ap, ◌∙◌, subst, arith, eqb-true}
use Rattle.std.proofs.lemmas.Bool.{false≢true}
use Rattle.nv_base.specs.declared.term.Bin.TheVariants.{Add, Sub, And, Or, Xor}
use Rattle.nv_base.specs.Memories.{Memories, HasSizes}
use Rattle.nv_base.specs.Words.{IsWord, shifted_left, word_difference}
use Rattle.uc_isa.specs.Engine.{IsEngine}
use Rattle.uc_isa.specs.Lawful.{AreApart}
use Rattle.uc_isa.specs.Registers.{source_register}
use Rattle.uc_isa.specs.Step.{effect, operand}
use Rattle.uc_isa.specs.declared.engine.Engine.{Engine}
use Rattle.uc_isa.specs.declared.instruction.Src.{Src}
use Rattle.uc_isa.specs.declared.instruction.Src.TheVariants as src
use Rattle.uc_isa.specs.declared.instruction.Dst.{Dst}
use Rattle.uc_isa.specs.declared.instruction.Dst.TheVariants as dst
use Rattle.uc_isa.specs.declared.instruction.UnOp.TheVariants.{Copy}
use Rattle.uc_isa.specs.declared.instruction.Instr.{Instr}
use Rattle.uc_isa.specs.declared.instruction.Instr.TheVariants.{Alu, Un, Immed, Br, Read, Write, Halt}
use Rattle.uc_isa.proofs.RegisterLemmas.{operand-register, puts-word}
use Rattle.uc_isa.proofs.States.{operand-fits}
use Rattle.uc_isa.proofs.Effects.{keeps-value, keeps-engine}
use Rattle.uc_isa.specs.Program.{IsFormed}
use Rattle.uc_isa.specs.Resources.{Resource, IsResource, value, flag_word, is_flag, is_source, is_target}
use Rattle.uc_isa.specs.Resources.Resource.{In, Zero, Carry}
use Rattle.uc_isa.specs.StraightCode.{IsStraight}
use Rattle.uc_peep.specs.Sets.{has}
use Rattle.uc_peep.specs.Window.{IsText, IsShorter}
use Rattle.uc_peep.specs.Needless.{is_same, is_wanted, compares_zero, tested, zero_rule}
use Rattle.uc_peep.proofs.Sound.{both, down, free, given, same-names, same-there}

difference-zero : (x : ℕ) → IsWord x → word_difference x 0 ≡ x
difference-zero x h = omega arith

shifted-zero : (k v : ℕ) → v ≡ 0 → shifted_left k v ≡ 0
shifted-zero k v h = let none : 0 * 2 ^ k ≡ 0 = omega arith in ap (λ n. n * 2 ^ k % 2 ^ 32) h ∙ ap (λ n. n % 2 ^ 32) none

-- an operand of a lawful operation isn't the register of the other
apart-target : (d : Dst) (x y : Src) → is_same d y ≡ true → AreApart x y → is_target d (In (source_register x)) ≡ false
apart-target (dst.A k) (src.A i) (src.A j) h a = absurd a
apart-target (dst.A k) (src.B i) (src.A j) h a = refl
apart-target (dst.A k) (src.L i) (src.A j) h a = refl
apart-target (dst.A k) (src.LD i) (src.A j) h a = refl
apart-target (dst.A k) x (src.B j) h a = absurd (false≢true h)
apart-target (dst.A k) x (src.L j) h a = absurd (false≢true h)
apart-target (dst.A k) x (src.LD j) h a = absurd (false≢true h)
apart-target (dst.B k) (src.A i) (src.B j) h a = refl
apart-target (dst.B k) (src.B i) (src.B j) h a = absurd a
apart-target (dst.B k) (src.L i) (src.B j) h a = refl
apart-target (dst.B k) (src.LD i) (src.B j) h a = refl
apart-target (dst.B k) x (src.A j) h a = absurd (false≢true h)
apart-target (dst.B k) x (src.L j) h a = absurd (false≢true h)
apart-target (dst.B k) x (src.LD j) h a = absurd (false≢true h)
apart-target (dst.S k) x y h a = absurd (false≢true h)
apart-target (dst.SD k) x y h a = absurd (false≢true h)
apart-target dst.Nowhere x y h a = absurd (false≢true h)

pub formed-test : (x : Src) → IsFormed (Un dst.Nowhere Copy x)
formed-test x = record { operands = tt; run_inside = tt; pairs = tt; numbers = tt; halt = tt }

module _ (d : Dst) (v k : ℕ) (x y : Src) (set : ℕ) (puts : IsFormed (Immed d v k)) (compares : IsFormed (Alu dst.Nowhere Sub x y)) (none : v ≡ 0) (one : is_same d y ≡ true) (unseen : is_wanted d set ≡ false) (no_carry : has set Carry ≡ false) where
  module _ (e : Engine) (p : Memories) (h : IsEngine e) (sizes : HasSizes p) where
    abbrev then_ : Engine
    then_ = (effect (Immed d v k) e p).engine

    state : IsEngine then_
    state = keeps-engine (Immed d v k) e p puts h sizes

    zero-there : operand y then_ ≡ 0
    zero-there = operand-register y then_ ∙ (puts-word d (shifted_left k v) e h).target (source_register y) (same-names d y one) (same-there d y one) ∙ shifted-zero k v none

    other-there : operand x then_ ≡ operand x e
    other-there = operand-register x then_ ∙ keeps-value (Immed d v k) e p (In (source_register x)) puts h sizes (apart-target d x y one compares.operands) ∙ sym (operand-register x e)

    difference : word_difference (operand x then_) (operand y then_) ≡ operand x e
    difference = ap (λ n. word_difference (operand x then_) n) zero-there ∙ ap (λ n. word_difference n 0) other-there ∙ difference-zero (operand x e) (operand-fits x e h)

    tests : (s : Resource) → IsResource s → has set s ≡ true → value s (effect (Alu dst.Nowhere Sub x y) then_ p).engine ≡ value s (effect (Un dst.Nowhere Copy x) e p).engine
    tests (In r) spot t =
        keeps-value (Alu dst.Nowhere Sub x y) then_ p (In r) compares state sizes refl
        ∙ keeps-value (Immed d v k) e p (In r) puts h sizes (free d set (In r) unseen t)
        ∙ sym (keeps-value (Un dst.Nowhere Copy x) e p (In r) (formed-test x) h sizes refl)
    tests Zero spot t = ap (λ n. flag_word (nat_eq n 0)) difference
    tests Carry spot t = absurd (false≢true (sym no_carry ∙ t))

  read-before : (a b : Bool) → (a || false) ≡ true → (false || ((a || b) || false)) ≡ true
  read-before true b h = refl
  read-before false b h = absurd (false≢true h)

  written-before : (a b : Bool) → ((a || false) || false) ≡ true → (b || ((a || false) || false)) ≡ true
  written-before a true h = refl
  written-before a false h = h

  tested-shorter : IsShorter (Immed d v k ∷ Alu dst.Nowhere Sub x y ∷ []) set (Un dst.Nowhere Copy x ∷ [])
  tested-shorter = record {
    fewer = omega arith;
    straight = λ j i lt. straight-one j i lt;
    lawful = λ j i lt. lawful-one j i lt;
    same = λ e p h sizes. record { by = λ s spot t. tests e p h sizes s spot t };
    reads = λ s t. read-before (is_source x s) (is_source y s) t;
    writes = λ s t. written-before (is_flag s) (is_target d s) t;
    weight = omega arith;
  }
    where
      straight-one : (j : ℕ) (i : Instr) → j < length (Un dst.Nowhere Copy x ∷ []) → IsStraight (get_or (Un dst.Nowhere Copy x ∷ []) j i)
      straight-one zero i lt = tt
      straight-one (suc j) i lt = absurd (omega arith)

      lawful-one : (j : ℕ) (i : Instr) → j < length (Un dst.Nowhere Copy x ∷ []) → IsFormed (get_or (Un dst.Nowhere Copy x ∷ []) j i)
      lawful-one zero i lt = formed-test x
      lawful-one (suc j) i lt = absurd (omega arith)

-- the test of a pair of instructions that are what the rule asks for
shorter-comparison : (d : Dst) (v k : ℕ) (x y : Src) (set : ℕ) → IsText (Immed d v k ∷ Alu dst.Nowhere Sub x y ∷ []) → (nat_eq v 0 && (is_same d y && (not (is_wanted d set) && not (has set Carry)))) ≡ true
    → IsShorter (Immed d v k ∷ Alu dst.Nowhere Sub x y ∷ []) set (Un dst.Nowhere Copy x ∷ [])
shorter-comparison d v k x y set text h =
    let first = both (nat_eq v 0) _ h in
    let second = both (is_same d y) _ first.1 in
    let third = both (not (is_wanted d set)) (not (has set Carry)) second.1 in
    tested-shorter d v k x y set (text.lawful 0 (Immed d v k) (omega arith)) (text.lawful 1 (Immed d v k) (omega arith)) (eqb-true v 0 first.0) second.0 (down _ third.0) (down _ third.1)

compared : (i j : Instr) (set : ℕ) → IsText (i ∷ j ∷ []) → compares_zero i j set ≡ true → IsShorter (i ∷ j ∷ []) set (tested j ∷ [])
compared (Immed d v k) (Alu dst.Nowhere Sub x y) set text h = shorter-comparison d v k x y set text h
compared (Immed d v k) (Alu dst.Nowhere Add x y) set text h = absurd (false≢true h)
compared (Immed d v k) (Alu dst.Nowhere And x y) set text h = absurd (false≢true h)
compared (Immed d v k) (Alu dst.Nowhere Or x y) set text h = absurd (false≢true h)
compared (Immed d v k) (Alu dst.Nowhere Xor x y) set text h = absurd (false≢true h)
compared (Immed d v k) (Alu (dst.A r) op x y) set text h = absurd (false≢true h)
compared (Immed d v k) (Alu (dst.B r) op x y) set text h = absurd (false≢true h)
compared (Immed d v k) (Alu (dst.S r) op x y) set text h = absurd (false≢true h)
compared (Immed d v k) (Alu (dst.SD r) op x y) set text h = absurd (false≢true h)
compared (Immed d v k) (Un d' op x) set text h = absurd (false≢true h)
compared (Immed d v k) (Immed d' v' k') set text h = absurd (false≢true h)
compared (Immed d v k) (Br b t) set text h = absurd (false≢true h)
compared (Immed d v k) (Read m r n y off) set text h = absurd (false≢true h)
compared (Immed d v k) (Write m r n y off) set text h = absurd (false≢true h)
compared (Immed d v k) (Halt m n) set text h = absurd (false≢true h)
compared (Alu d op x y) j set text h = absurd (false≢true h)
compared (Un d op x) j set text h = absurd (false≢true h)
compared (Br b t) j set text h = absurd (false≢true h)
compared (Read m r n y off) j set text h = absurd (false≢true h)
compared (Write m r n y off) j set text h = absurd (false≢true h)
compared (Halt m n) j set text h = absurd (false≢true h)

pub zero_sound : (ws : List Instr) (set : ℕ) (shorter : List Instr) → IsText ws → zero_rule ws set ≡ Some shorter → IsShorter ws set shorter
zero_sound [] set shorter text e = cc
zero_sound (i ∷ []) set shorter text e = cc
zero_sound (i ∷ j ∷ []) set shorter text e =
    let g = given (compares_zero i j set) (tested j ∷ []) shorter e in
    subst (IsShorter (i ∷ j ∷ []) set) g.1 (compared i j set text g.0)
zero_sound (i ∷ j ∷ k ∷ ws) set shorter text e = cc

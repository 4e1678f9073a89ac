-- A test of what the instruction before has tested changes nothing but the carry.
use Rattle.std.proofs.Common.{◌≡◌, ℕ, ◌<◌, ⊎_elim, Bool, true, false, not, List, [], ◌∷◌, Some, nat_eq, refl, sym, ap, ◌∙◌, subst, arith, eqb-true, ltb-true}
use Rattle.std.specs.Prelude.{nat_lt}
use Rattle.std.proofs.lemmas.Bool.{false≢true, or_cases}
use Rattle.nv_base.specs.Memories.{Memories, HasSizes}
use Rattle.nv_base.specs.Words.{bin_word}
use Rattle.uc_isa.specs.Engine.{IsEngine}
use Rattle.uc_isa.specs.Registers.{IsRegister, register, target_register, source_register}
use Rattle.uc_isa.specs.Step.{bin_carry, effect, onward, operand, un_word, with_flags, with_result}
use Rattle.uc_isa.specs.declared.engine.Engine.{Engine}
use Rattle.uc_isa.specs.declared.instruction.Src.{Src}
use Rattle.uc_isa.specs.declared.instruction.Src.TheVariants as src
use Rattle.uc_isa.specs.declared.instruction.Dst.{Dst}
use Rattle.uc_isa.specs.declared.instruction.Dst.TheVariants as dst
use Rattle.uc_isa.specs.declared.instruction.UnOp.TheVariants.{Copy, Not, Shl, Shr, Rol}
use Rattle.uc_isa.specs.declared.instruction.Instr.{Instr}
use Rattle.uc_isa.specs.declared.instruction.Instr.TheVariants.{Alu, Un, Immed, Br, Read, Write, Halt}
use Rattle.uc_isa.proofs.RegisterLemmas.{operand-register, puts-flags}
use Rattle.uc_isa.proofs.Effects.{keeps-value, keeps-engine}
use Rattle.uc_isa.specs.Program.{IsFormed}
use Rattle.uc_isa.specs.Resources.{Resource, IsResource, value, flag_word}
use Rattle.uc_isa.specs.Resources.Resource.{In, Zero, Carry}
use Rattle.uc_peep.specs.Sets.{has}
use Rattle.uc_peep.specs.Window.{IsText, IsShorter}
use Rattle.uc_peep.specs.Needless.{is_same, is_same_source, has_tested, tests_again, repeated_rule}
use Rattle.uc_peep.proofs.Sound.{both, copied, down, given, same-names, same-there, second-gone}
use Rattle.uc_peep.proofs.ZeroTests.{formed-test}

-- a test of an operand changes nothing but the carry where the flag zero tells already whether it is zero
module _ (i : Instr) (x : Src) (v set : ℕ) (e : Engine) (p : Memories) (formed : IsFormed i) (h : IsEngine e) (sizes : HasSizes p) where
  tested-already : has set Carry ≡ false → value Zero (effect i e p).engine ≡ flag_word (nat_eq v 0) → operand x (effect i e p).engine ≡ v
      → (s : Resource) → IsResource s → has set s ≡ true → value s (effect (Un dst.Nowhere Copy x) (effect i e p).engine p).engine ≡ value s (effect i e p).engine
  tested-already no_carry told word (In r) there t = keeps-value (Un dst.Nowhere Copy x) (effect i e p).engine p (In r) (formed-test x) (keeps-engine i e p formed h sizes) sizes refl
  tested-already no_carry told word Zero there t = ap (λ n. flag_word (nat_eq n 0)) word ∙ sym told
  tested-already no_carry told word Carry there t = absurd (false≢true (sym no_carry ∙ t))

-- an operand that is the target has the result
result-there : (d : Dst) (x : Src) (v w : ℕ) (c : Bool) (e : Engine) → IsEngine e → is_same d x ≡ true → operand x (onward (with_flags w c (with_result d v e))) ≡ v
result-there d x v w c e h one = operand-register x (onward (with_flags w c (with_result d v e))) ∙ (puts-flags d v w c e h).target (source_register x) (same-names d x one) (same-there d x one)

one-source : (y x : Src) → is_same_source y x ≡ true → (source_register y ≡ source_register x) × IsRegister (source_register x)
one-source (src.A k) (src.A j) h = let e : k ≡ j = eqb-true k j (both (nat_eq k j) (nat_lt k 16) h).0 in let lt : k < 16 = ltb-true k 16 (both (nat_eq k j) (nat_lt k 16) h).1 in (ap (λ n. source_register (src.A n)) e, omega arith)
one-source (src.B k) (src.B j) h = let e : k ≡ j = eqb-true k j (both (nat_eq k j) (nat_lt k 16) h).0 in let lt : k < 16 = ltb-true k 16 (both (nat_eq k j) (nat_lt k 16) h).1 in (ap (λ n. source_register (src.B n)) e, omega arith)
one-source (src.L k) (src.L j) h = let e : k ≡ j = eqb-true k j (both (nat_eq k j) (nat_lt k 8) h).0 in let lt : k < 8 = ltb-true k 8 (both (nat_eq k j) (nat_lt k 8) h).1 in (ap (λ n. source_register (src.L n)) e, omega arith)
one-source (src.LD k) (src.LD j) h = let e : k ≡ j = eqb-true k j (both (nat_eq k j) (nat_lt k 8) h).0 in let lt : k < 8 = ltb-true k 8 (both (nat_eq k j) (nat_lt k 8) h).1 in (ap (λ n. source_register (src.LD n)) e, omega arith)
one-source (src.A k) (src.B j) h = absurd (false≢true h)
one-source (src.A k) (src.L j) h = absurd (false≢true h)
one-source (src.A k) (src.LD j) h = absurd (false≢true h)
one-source (src.B k) (src.A j) h = absurd (false≢true h)
one-source (src.B k) (src.L j) h = absurd (false≢true h)
one-source (src.B k) (src.LD j) h = absurd (false≢true h)
one-source (src.L k) (src.A j) h = absurd (false≢true h)
one-source (src.L k) (src.B j) h = absurd (false≢true h)
one-source (src.L k) (src.LD j) h = absurd (false≢true h)
one-source (src.LD k) (src.A j) h = absurd (false≢true h)
one-source (src.LD k) (src.B j) h = absurd (false≢true h)
one-source (src.LD k) (src.L j) h = absurd (false≢true h)

-- what was copied is still there
copied-there : (d : Dst) (y x : Src) (e : Engine) (p : Memories) → IsEngine e → is_same_source y x ≡ true → operand x (effect (Un d Copy y) e p).engine ≡ operand y e
copied-there d y x e p h one =
    let then_ = (effect (Un d Copy y) e p).engine in
    let s = one-source y x one in
    operand-register x then_
    ∙ ⊎_elim
    (λ (c : (target_register d ≡ Some (source_register x)) × (register (source_register x) then_ ≡ register (source_register y) e)). c.1)
    (λ (c : register (source_register x) then_ ≡ register (source_register x) e). c ∙ ap (λ r. register r e) (sym s.0))
    (copied d y e p (source_register x) h s.1)
    ∙ sym (operand-register y e)

repeated-same : (i : Instr) (x : Src) (set : ℕ) → IsFormed i → has_tested i x ≡ true → has set Carry ≡ false → (e : Engine) (p : Memories) → IsEngine e → HasSizes p
    → (s : Resource) → IsResource s → has set s ≡ true → value s (effect (Un dst.Nowhere Copy x) (effect i e p).engine p).engine ≡ value s (effect i e p).engine
repeated-same (Alu d op y z) x set formed h no_carry e p engine sizes =
    let v = bin_word op (operand y e) (operand z e) in
    tested-already (Alu d op y z) x v set e p formed engine sizes no_carry refl (result-there d x v v (bin_carry op (operand y e) (operand z e)) e engine h)
repeated-same (Un d Copy y) x set formed h no_carry e p engine sizes = tested-already (Un d Copy y) x (operand y e) set e p formed engine sizes no_carry refl
    (⊎_elim (λ (a : is_same d x ≡ true). result-there d x (operand y e) (operand y e) false e engine a) (λ (b : is_same_source y x ≡ true). copied-there d y x e p engine b) (or_cases (is_same d x) (is_same_source y x) h))
repeated-same (Un d Not y) x set formed h no_carry e p engine sizes =
    let v = un_word Not (operand y e) in
    tested-already (Un d Not y) x v set e p formed engine sizes no_carry refl (result-there d x v v false e engine h)
repeated-same (Un d (Shl k) y) x set formed h no_carry e p engine sizes =
    let v = un_word (Shl k) (operand y e) in
    tested-already (Un d (Shl k) y) x v set e p formed engine sizes no_carry refl (result-there d x v v false e engine h)
repeated-same (Un d (Shr k) y) x set formed h no_carry e p engine sizes =
    let v = un_word (Shr k) (operand y e) in
    tested-already (Un d (Shr k) y) x v set e p formed engine sizes no_carry refl (result-there d x v v false e engine h)
repeated-same (Un d (Rol k) y) x set formed h no_carry e p engine sizes =
    let v = un_word (Rol k) (operand y e) in
    tested-already (Un d (Rol k) y) x v set e p formed engine sizes no_carry refl (result-there d x v v false e engine h)
repeated-same (Immed d v k) x set formed h no_carry e p engine sizes = absurd (false≢true h)
repeated-same (Br b t) x set formed h no_carry e p engine sizes = absurd (false≢true h)
repeated-same (Read m r n y off) x set formed h no_carry e p engine sizes = absurd (false≢true h)
repeated-same (Write m r n y off) x set formed h no_carry e p engine sizes = absurd (false≢true h)
repeated-same (Halt k n) x set formed h no_carry e p engine sizes = absurd (false≢true h)

repeated : (i j : Instr) (set : ℕ) → IsText (i ∷ j ∷ []) → tests_again i j set ≡ true → IsShorter (i ∷ j ∷ []) set (i ∷ [])
repeated i (Un dst.Nowhere Copy x) set text h =
    let t = both (has_tested i x) (not (has set Carry)) h in
    second-gone i (Un dst.Nowhere Copy x) set text (λ e p engine sizes. record { by = λ s there live. repeated-same i x set (text.lawful 0 i (omega arith)) t.0 (down _ t.1) e p engine sizes s there live })
repeated i (Un dst.Nowhere Not x) set text h = absurd (false≢true h)
repeated i (Un dst.Nowhere (Shl k) x) set text h = absurd (false≢true h)
repeated i (Un dst.Nowhere (Shr k) x) set text h = absurd (false≢true h)
repeated i (Un dst.Nowhere (Rol k) x) set text h = absurd (false≢true h)
repeated i (Un (dst.A k) op x) set text h = absurd (false≢true h)
repeated i (Un (dst.B k) op x) set text h = absurd (false≢true h)
repeated i (Un (dst.S k) op x) set text h = absurd (false≢true h)
repeated i (Un (dst.SD k) op x) set text h = absurd (false≢true h)
repeated i (Alu d op x y) set text h = absurd (false≢true h)
repeated i (Immed d v k) set text h = absurd (false≢true h)
repeated i (Br b t) set text h = absurd (false≢true h)
repeated i (Read m r n y off) set text h = absurd (false≢true h)
repeated i (Write m r n y off) set text h = absurd (false≢true h)
repeated i (Halt k n) set text h = absurd (false≢true h)

pub repeated_sound : (ws : List Instr) (set : ℕ) (shorter : List Instr) → IsText ws → repeated_rule ws set ≡ Some shorter → IsShorter ws set shorter
repeated_sound [] set shorter text e = cc
repeated_sound (i ∷ []) set shorter text e = cc
repeated_sound (i ∷ j ∷ []) set shorter text e =
    let g = given (tests_again i j set) (i ∷ []) shorter e in
    subst (IsShorter (i ∷ j ∷ []) set) g.1 (repeated i j set text g.0)
repeated_sound (i ∷ j ∷ k ∷ ws) set shorter text e = cc

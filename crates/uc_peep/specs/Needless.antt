-- Needless instructions: six rules, as functions, and code in which none of them has an answer.
use Rattle.std.specs.Prelude.{◌≡◌, ◌+◌, ℕ, take, drop, Bool, false, not, ◌&&◌, ◌||◌, nat_eq, nat_lt, List, [], ◌∷◌, Option, Some, None, if◌then◌else◌}
use Rattle.uc_isa.specs.declared.instruction.Dst.{Dst}
use Rattle.uc_isa.specs.declared.instruction.Dst.TheVariants as dst
use Rattle.uc_isa.specs.declared.instruction.Src.{Src}
use Rattle.uc_isa.specs.declared.instruction.Src.TheVariants as src
use Rattle.uc_isa.specs.declared.instruction.Instr.{Instr}
use Rattle.uc_isa.specs.declared.instruction.Instr.TheVariants.{Alu, Un, Immed}
use Rattle.uc_isa.specs.declared.instruction.UnOp.TheVariants.{Copy}
use Rattle.nv_base.specs.declared.term.Bin.TheVariants.{Sub}
use Rattle.uc_isa.specs.Registers.{Register, target_register}
use Rattle.uc_isa.specs.Resources.{same_register}
use Rattle.uc_isa.specs.Resources.Resource.{In, Zero, Carry}
use Rattle.uc_peep.specs.Sets.{has}
use Rattle.uc_peep.specs.Liveness.{IsLiveAt}
use Rattle.uc_peep.specs.Window.{IsWindow}

abbrev pub has_register : ℕ → Option Register → Bool
has_register set (Some r) = has set (In r)
has_register set None = false

-- the target is in the set
abbrev pub is_wanted : Dst → ℕ → Bool
is_wanted d set = has_register set (target_register d)

-- a flag is in the set
abbrev pub has_flag : ℕ → Bool
has_flag set = has set Zero || has set Carry

-- the result isn't live, nor is a flag that is written
abbrev pub is_dead : Instr → ℕ → Bool
is_dead (Alu d op x y) set = not (is_wanted d set) && not (has_flag set)
is_dead (Un d op x) set = not (is_wanted d set) && not (has_flag set)
is_dead (Immed d v k) set = not (is_wanted d set)
is_dead _ set = false

-- the target and the operand are one of the 16 registers of A or of B
abbrev pub is_same : Dst → Src → Bool
is_same (dst.A k) (src.A j) = nat_eq k j && nat_lt k 16
is_same (dst.B k) (src.B j) = nat_eq k j && nat_lt k 16
is_same _ _ = false

-- a copy of a register onto itself, whose flags aren't live
abbrev pub is_idle : Instr → ℕ → Bool
is_idle (Un d Copy x) set = is_same d x && not (has_flag set)
is_idle _ set = false

-- the second copies back what the first copied
abbrev pub copies_back : Instr → Instr → Bool
copies_back (Un d Copy x) (Un d' Copy x') = is_same d x' && is_same d' x
copies_back _ _ = false

-- the second compares with the zero that the first puts, which nothing else needs, and only whether they are equal is asked
abbrev pub compares_zero : Instr → Instr → ℕ → Bool
compares_zero (Immed d v k) (Alu dst.Nowhere Sub x y) set = nat_eq v 0 && (is_same d y && (not (is_wanted d set) && not (has set Carry)))
compares_zero _ _ set = false

-- a copy that only tests the first operand of an operation on two words
abbrev pub tested : Instr → Instr
tested (Alu d op x y) = Un dst.Nowhere Copy x
tested i = i

-- two operands are one register
abbrev pub is_same_source : Src → Src → Bool
is_same_source (src.A k) (src.A j) = nat_eq k j && nat_lt k 16
is_same_source (src.B k) (src.B j) = nat_eq k j && nat_lt k 16
is_same_source (src.L k) (src.L j) = nat_eq k j && nat_lt k 8
is_same_source (src.LD k) (src.LD j) = nat_eq k j && nat_lt k 8
is_same_source _ _ = false

-- the flag zero tells after the instruction whether the operand is zero: that is the result, or what was copied
abbrev pub has_tested : Instr → Src → Bool
has_tested (Alu d op y z) x = is_same d x
has_tested (Un d Copy y) x = is_same d x || is_same_source y x
has_tested (Un d op y) x = is_same d x
has_tested _ x = false

-- the second only tests what the first has tested, and the carry isn't live
abbrev pub tests_again : Instr → Instr → ℕ → Bool
tests_again i (Un dst.Nowhere Copy x) set = has_tested i x && not (has set Carry)
tests_again i _ set = false

abbrev pub is_same_name : Option Register → Option Register → Bool
is_same_name (Some q) (Some r) = same_register q r
is_same_name _ _ = false

-- two targets are one register
abbrev pub is_same_target : Dst → Dst → Bool
is_same_target d e = is_same_name (target_register d) (target_register e)

-- the instruction leaves the register of a target as it was
abbrev pub leaves : Dst → Instr → Bool
leaves d (Alu e op x y) = not (is_same_target d e)
leaves d (Un e op x) = not (is_same_target d e)
leaves d (Immed e v k) = not (is_same_target d e)
leaves d _ = false

-- the last puts the literal that the first put there, and the one between leaves it
abbrev pub puts_again : Instr → Instr → Instr → Bool
puts_again (Immed d v k) m (Immed e w n) = is_same_target d e && (nat_eq v w && (nat_eq k n && leaves d m))
puts_again _ m _ = false

abbrev pub dead_rule : List Instr → ℕ → Option (List Instr)
dead_rule (i ∷ []) set = if is_dead i set then Some [] else None
dead_rule _ set = None

abbrev pub idle_rule : List Instr → ℕ → Option (List Instr)
idle_rule (i ∷ []) set = if is_idle i set then Some [] else None
idle_rule _ set = None

abbrev pub back_rule : List Instr → ℕ → Option (List Instr)
back_rule (i ∷ j ∷ []) set = if copies_back i j then Some (i ∷ []) else None
back_rule _ set = None

abbrev pub zero_rule : List Instr → ℕ → Option (List Instr)
zero_rule (i ∷ j ∷ []) set = if compares_zero i j set then Some (tested j ∷ []) else None
zero_rule _ set = None

abbrev pub repeated_rule : List Instr → ℕ → Option (List Instr)
repeated_rule (i ∷ j ∷ []) set = if tests_again i j set then Some (i ∷ []) else None
repeated_rule _ set = None

abbrev pub held_rule : List Instr → ℕ → Option (List Instr)
held_rule (i ∷ j ∷ l ∷ []) set = if puts_again i j l then Some (i ∷ j ∷ []) else None
held_rule (i ∷ j ∷ k ∷ l ∷ []) set = if puts_again i j l && puts_again i k l then Some (i ∷ j ∷ k ∷ []) else None
held_rule _ set = None

-- the three rules that take out a dead operation, a copy onto itself or a copy back have no answer at a window, where this is live after it
abbrev pub NoneIsNeedless : List Instr → ℕ → Type 0
NoneIsNeedless window set = (dead_rule window set ≡ None) × (idle_rule window set ≡ None) × (back_rule window set ≡ None)

-- nor have the three further ones, of comparisons with zero, repeated tests and literals that are held
abbrev pub NoneIsRepeated : List Instr → ℕ → Type 0
NoneIsRepeated window set = (zero_rule window set ≡ None) × (repeated_rule window set ≡ None) × (held_rule window set ≡ None)

-- at no window any of the six rules has an answer, asked with exactly what is live after the window
abbrev pub HasNoNeedless : List Instr → List ℕ → Type 0
HasNoNeedless code starts = (p k : ℕ) → IsWindow code starts p k
    → (set : ℕ) × IsLiveAt code (p + k) set × NoneIsNeedless (take k (drop p code)) set × NoneIsRepeated (take k (drop p code)) set

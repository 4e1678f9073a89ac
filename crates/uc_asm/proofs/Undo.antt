-- Words tell what they name: each way of writing is undone.
use Rattle.std.proofs.Common.{◌≡◌, ℕ, ◌<◌, ◌^◌, List, [], ◌∷◌, ◌++◌, get_or, drop, Bool, false, eqb, if◌then◌else◌, refl, sym, ap, ◌∙◌, arith, codes, decimal, lit≤}
use Rattle.std.specs.Str.Parse.{digits_value}
use Rattle.std.proofs.lemmas.Fmt.{digits_value-decimal}
use Rattle.std.proofs.lemmas.Bool.Decides.{nat_tests}
use Rattle.nv_lines.specs.Line.{Lacks}
use Rattle.nv_lines.proofs.NumberLemmas.{own}
use Rattle.nv_lines.proofs.NumberLaws.{Lacks-decimal}
use Rattle.nv_base.specs.declared.term.Mem.{Mem}
use Rattle.nv_base.specs.declared.term.Mem.TheVariants.{Sram, Sdram, Scratch}
use Rattle.nv_base.specs.declared.term.Bin.{Bin}
use Rattle.nv_base.specs.declared.term.Bin.TheVariants.{Add, Sub, And, Or, Xor}
use Rattle.uc_isa.specs.declared.instruction.Src.{Src}
use Rattle.uc_isa.specs.declared.instruction.Src.TheVariants as src
use Rattle.uc_isa.specs.declared.instruction.Dst.{Dst}
use Rattle.uc_isa.specs.declared.instruction.Dst.TheVariants as dst
use Rattle.uc_isa.specs.declared.instruction.Gpr.{Gpr}
use Rattle.uc_isa.specs.declared.instruction.Gpr.TheVariants as gpr
use Rattle.uc_isa.specs.declared.instruction.UnOp.{UnOp}
use Rattle.uc_isa.specs.declared.instruction.UnOp.TheVariants.{Copy, Not, Shl, Shr, Rol}
use Rattle.uc_isa.specs.declared.instruction.Cond.{Cond}
use Rattle.uc_isa.specs.declared.instruction.Cond.TheVariants.{Always, Z, NZ, C, NC}
use Rattle.uc_isa.specs.declared.instruction.Instr.{Instr}
use Rattle.uc_isa.specs.declared.instruction.Instr.TheVariants.{Alu, Un, Immed, Br, Read, Write, Halt}
use Rattle.uc_asm.specs.Words.{source_name, target_name, address_name, binary_name, unary_words, condition_name, memory_name, register_name, words, IsSource, IsTarget, IsAddress, IsUnary, InRange}

abbrev number_at : List ℕ → ℕ
number_at ds = digits_value 10 ds

number_at-is : (n : ℕ) → n < 2 ^ 32 → number_at (decimal n) ≡ n
number_at-is n h = digits_value-decimal own n (omega arith)

-- no number begins with D
not-d : (ds : List ℕ) → Lacks 68 ds → eqb (get_or ds 0 0) 68 ≡ false
not-d [] l = refl
not-d (d ∷ ds) l = let other = l.0 in grind (arith, nat_tests)

number-not-d : (n : ℕ) → n < 2 ^ 32 → eqb (get_or (decimal n) 0 0) 68 ≡ false
number-not-d n h = not-d (decimal n) (Lacks-decimal 68 n (lit≤ tt) (omega arith))

abbrev source_at : List ℕ → Src
source_at w =
    if eqb (get_or w 0 0) 65 then src.A (number_at (drop 1 w)) else (if eqb (get_or w 0 0) 66 then src.B (number_at (drop 1 w)) else
    (if eqb (get_or w 1 0) 68 then src.LD (number_at (drop 2 w)) else src.L (number_at (drop 1 w))))

source_at-is : (x : Src) → IsSource x → source_at (source_name x) ≡ x
source_at-is (src.A i) h = ap src.A (number_at-is i (omega arith))
source_at-is (src.B i) h = ap src.B (number_at-is i (omega arith))
source_at-is (src.L i) h =
    ap (λ (b : Bool). if b then src.LD (number_at (drop 2 (source_name (src.L i)))) else src.L (number_at (decimal i))) (number-not-d i (omega arith)) ∙ ap src.L (number_at-is i (omega arith))
source_at-is (src.LD i) h = ap src.LD (number_at-is i (omega arith))

abbrev target_at : List ℕ → Dst
target_at w =
    if eqb (get_or w 0 0) 65 then dst.A (number_at (drop 1 w)) else (if eqb (get_or w 0 0) 66 then dst.B (number_at (drop 1 w)) else
    (if eqb (get_or w 0 0) 110 then dst.Nowhere else
    (if eqb (get_or w 1 0) 68 then dst.SD (number_at (drop 2 w)) else dst.S (number_at (drop 1 w)))))

target_at-is : (d : Dst) → IsTarget d → target_at (target_name d) ≡ d
target_at-is (dst.A i) h = ap dst.A (number_at-is i (omega arith))
target_at-is (dst.B i) h = ap dst.B (number_at-is i (omega arith))
target_at-is (dst.S i) h =
    ap (λ (b : Bool). if b then dst.SD (number_at (drop 2 (target_name (dst.S i)))) else dst.S (number_at (decimal i))) (number-not-d i (omega arith)) ∙ ap dst.S (number_at-is i (omega arith))
target_at-is (dst.SD i) h = ap dst.SD (number_at-is i (omega arith))
target_at-is dst.Nowhere h = refl

abbrev address_at : List ℕ → Gpr
address_at w = if eqb (get_or w 0 0) 65 then gpr.A (number_at (drop 1 w)) else gpr.B (number_at (drop 1 w))

address_at-is : (x : Gpr) → IsAddress x → address_at (address_name x) ≡ x
address_at-is (gpr.A i) h = ap gpr.A (number_at-is i (omega arith))
address_at-is (gpr.B i) h = ap gpr.B (number_at-is i (omega arith))

abbrev binary_at : List ℕ → Bin
binary_at w =
    if eqb (get_or w 1 0) 68 then Add else (if eqb (get_or w 1 0) 85 then Sub else (if eqb (get_or w 1 0) 78 then And else (if eqb (get_or w 1 0) 82 then Or else Xor)))

binary_at-is : (op : Bin) → binary_at (binary_name op) ≡ op
binary_at-is Add = refl
binary_at-is Sub = refl
binary_at-is And = refl
binary_at-is Or = refl
binary_at-is Xor = refl

abbrev condition_at : List ℕ → Cond
condition_at w =
    if eqb (get_or w 0 0) 65 then Always else (if eqb (get_or w 0 0) 90 then Z else (if eqb (get_or w 0 0) 67 then C else (if eqb (get_or w 1 0) 90 then NZ else NC)))

condition_at-is : (cond : Cond) → condition_at (condition_name cond) ≡ cond
condition_at-is Always = refl
condition_at-is Z = refl
condition_at-is NZ = refl
condition_at-is C = refl
condition_at-is NC = refl

pub condition_one : (a b : Cond) → condition_name a ≡ condition_name b → a ≡ b
condition_one a b e = sym (condition_at-is a) ∙ ap condition_at e ∙ condition_at-is b

abbrev memory_at : List ℕ → Mem
memory_at w = if eqb (get_or w 1 0) 114 then Sram else (if eqb (get_or w 1 0) 100 then Sdram else Scratch)

memory_at-is : (m : Mem) → memory_at (memory_name m) ≡ m
memory_at-is Sram = refl
memory_at-is Sdram = refl
memory_at-is Scratch = refl

abbrev word_at : List (List ℕ) → ℕ → List ℕ
word_at ps k = get_or ps k []

-- an operation on one word and its operand
abbrev un_at : Dst → List (List ℕ) → Instr
un_at d ps =
    if eqb (get_or (word_at ps 0) 0 0) 67 then Un d Copy (source_at (word_at ps 1)) else (if eqb (get_or (word_at ps 0) 0 0) 78 then Un d Not (source_at (word_at ps 1)) else
    (if eqb (get_or (word_at ps 0) 0 0) 82 then Un d (Rol (number_at (word_at ps 1))) (source_at (word_at ps 2)) else
    (if eqb (get_or (word_at ps 0) 2 0) 76 then Un d (Shl (number_at (word_at ps 1))) (source_at (word_at ps 2)) else Un d (Shr (number_at (word_at ps 1))) (source_at (word_at ps 2)))))

un_at-is : (d e : Dst) (op : UnOp) (x : Src) → d ≡ e → IsUnary op → IsSource x → un_at d (unary_words op ++ source_name x ∷ []) ≡ Un e op x
un_at-is d e Copy x same h k = λ j. Un (same j) Copy (source_at-is x k j)
un_at-is d e Not x same h k = λ j. Un (same j) Not (source_at-is x k j)
un_at-is d e (Shl n) x same h k = λ j. Un (same j) (Shl (number_at-is n (omega arith) j)) (source_at-is x k j)
un_at-is d e (Shr n) x same h k = λ j. Un (same j) (Shr (number_at-is n (omega arith) j)) (source_at-is x k j)
un_at-is d e (Rol n) x same h k = λ j. Un (same j) (Rol (number_at-is n (omega arith) j)) (source_at-is x k j)

abbrev instruction_at : List (List ℕ) → Instr
instruction_at ps =
    if eqb (get_or (word_at ps 0) 0 0) 97 then Alu (target_at (word_at ps 1)) (binary_at (word_at ps 2)) (source_at (word_at ps 3)) (source_at (word_at ps 4)) else
    (if eqb (get_or (word_at ps 0) 0 0) 117 then un_at (target_at (word_at ps 1)) (drop 2 ps) else
    (if eqb (get_or (word_at ps 0) 0 0) 105 then Immed (target_at (word_at ps 1)) (number_at (word_at ps 2)) (number_at (word_at ps 3)) else
    (if eqb (get_or (word_at ps 0) 0 0) 98 then Br (condition_at (word_at ps 1)) (number_at (drop 1 (word_at ps 2))) else
    (if eqb (get_or (word_at ps 0) 0 0) 114 then Read (memory_at (word_at ps 1)) (number_at (word_at ps 2)) (number_at (word_at ps 3)) (address_at (word_at ps 4)) (number_at (word_at ps 5)) else
    (if eqb (get_or (word_at ps 0) 0 0) 119 then Write (memory_at (word_at ps 1)) (number_at (word_at ps 2)) (number_at (word_at ps 3)) (address_at (word_at ps 4)) (number_at (word_at ps 5)) else
    Halt (number_at (word_at ps 1)) (number_at (word_at ps 2)))))))

instruction_at-is : (i : Instr) → InRange i → instruction_at (words i) ≡ i
instruction_at-is (Alu d op x y) h = λ j. Alu (target_at-is d h.0 j) (binary_at-is op j) (source_at-is x h.1 j) (source_at-is y h.2 j)
instruction_at-is (Un d op x) h = un_at-is (target_at (target_name d)) d op x (target_at-is d h.0) h.1 h.2
instruction_at-is (Immed d v s) h = λ j. Immed (target_at-is d h.0 j) (number_at-is v (omega (arith, h.1)) j) (number_at-is s (omega (arith, h.2)) j)
instruction_at-is (Br cond place) h = λ j. Br (condition_at-is cond j) (number_at-is place h j)
instruction_at-is (Read m r n x off) h =
    λ j. Read (memory_at-is m j) (number_at-is r (omega (arith, h.0)) j) (number_at-is n (omega (arith, h.1)) j) (address_at-is x h.2 j) (number_at-is off (omega (arith, h.3)) j)
instruction_at-is (Write m r n x off) h =
    λ j. Write (memory_at-is m j) (number_at-is r (omega (arith, h.0)) j) (number_at-is n (omega (arith, h.1)) j) (address_at-is x h.2 j) (number_at-is off (omega (arith, h.3)) j)
instruction_at-is (Halt k n) h = λ j. Halt (number_at-is k (omega (arith, h.0)) j) (number_at-is n (omega (arith, h.1)) j)

-- words are those of one instruction
pub words_one : (i j : Instr) → InRange i → InRange j → words i ≡ words j → i ≡ j
words_one i j h k e = sym (instruction_at-is i h) ∙ ap instruction_at e ∙ instruction_at-is j k

-- no instruction is a branch to a label
pub no_jump : (i : Instr) (cond : Cond) (name : List ℕ) → words i ≡ codes "br" ∷ condition_name cond ∷ name ∷ [] → (place : ℕ) × (register_name place ≡ name)
no_jump (Alu d op x y) cond name e = absurd (omega (arith, ap (λ (ps : List (List ℕ)). get_or (word_at ps 0) 0 0) e))
no_jump (Un d op x) cond name e = absurd (omega (arith, ap (λ (ps : List (List ℕ)). get_or (word_at ps 0) 0 0) e))
no_jump (Immed d v s) cond name e = absurd (omega (arith, ap (λ (ps : List (List ℕ)). get_or (word_at ps 0) 0 0) e))
no_jump (Br c place) cond name e = (place, ap (λ (ps : List (List ℕ)). word_at ps 2) e)
no_jump (Read m r n x off) cond name e = absurd (omega (arith, ap (λ (ps : List (List ℕ)). get_or (word_at ps 0) 0 0) e))
no_jump (Write m r n x off) cond name e = absurd (omega (arith, ap (λ (ps : List (List ℕ)). get_or (word_at ps 0) 0 0) e))
no_jump (Halt k n) cond name e = absurd (omega (arith, ap (λ (ps : List (List ℕ)). get_or (word_at ps 0) 0 0) e))

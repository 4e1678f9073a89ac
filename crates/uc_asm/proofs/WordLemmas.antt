-- What the words of an instruction are.
use Rattle.std.proofs.Common.{◌≡◌, ◌≢◌, ℕ, ◌+◌, ◌*◌, ◌<◌, ◌≤◌, ◌^◌, List, [], ◌∷◌, ◌++◌, get_or, drop, refl, sym, ap, ◌∙◌, arith, codes, decimal, lit≤}
use Rattle.nv_lines.specs.Line.{Lacks, AllLack, parts, parted}
use Rattle.nv_lines.proofs.SplitLaws.{parts-parted, Lacks-test, Lacks-append, AllLack-append}
use Rattle.nv_lines.proofs.NumberLaws.{Lacks-decimal}
use Rattle.nv_base.specs.declared.term.Mem.{Mem}
use Rattle.nv_base.specs.declared.term.Mem.TheVariants.{Sram, Sdram, Scratch}
use Rattle.nv_base.specs.declared.term.Bin.{Bin}
use Rattle.nv_base.specs.declared.term.Bin.TheVariants.{Add, Sub, And, Or, Xor}
use Rattle.uc_isa.specs.declared.instruction.Src.{Src}
use Rattle.uc_isa.specs.declared.instruction.Src.TheVariants as src
use Rattle.uc_isa.specs.declared.instruction.Dst.{Dst}
use Rattle.uc_isa.specs.declared.instruction.Dst.TheVariants as dst
use Rattle.uc_isa.specs.declared.instruction.Gpr.{Gpr}
use Rattle.uc_isa.specs.declared.instruction.Gpr.TheVariants as gpr
use Rattle.uc_isa.specs.declared.instruction.UnOp.{UnOp}
use Rattle.uc_isa.specs.declared.instruction.UnOp.TheVariants.{Copy, Not, Shl, Shr, Rol}
use Rattle.uc_isa.specs.declared.instruction.Cond.{Cond}
use Rattle.uc_isa.specs.declared.instruction.Cond.TheVariants.{Always, Z, NZ, C, NC}
use Rattle.uc_isa.specs.declared.instruction.Instr.{Instr}
use Rattle.uc_isa.specs.declared.instruction.Instr.TheVariants.{Alu, Un, Immed, Br, Read, Write, Halt}
use Rattle.uc_asm.specs.Words.{source_name, target_name, address_name, binary_name, unary_words, condition_name, memory_name, operands, kind_name, words, IsSource, IsTarget, IsAddress, IsUnary, InRange}

-- what tells operations apart, and kinds
abbrev first_word : List (List ℕ) → List ℕ
first_word [] = []
first_word (w ∷ ws) = w

abbrev operation_tag : List (List ℕ) → ℕ
operation_tag ps = get_or (first_word ps) 0 0 + 256 * get_or (first_word ps) 2 0

abbrev kind_tag : List (List ℕ) → ℕ
kind_tag ps = get_or (first_word ps) 0 0

-- the words after an operation
pub unary-tail : (a b : UnOp) (p q : List (List ℕ)) → unary_words a ++ p ≡ unary_words b ++ q → p ≡ q
unary-tail Copy Copy p q e = ap (drop 1) e
unary-tail Copy Not p q e = absurd (omega (arith, ap operation_tag e))
unary-tail Copy (Shl j) p q e = absurd (omega (arith, ap operation_tag e))
unary-tail Copy (Shr j) p q e = absurd (omega (arith, ap operation_tag e))
unary-tail Copy (Rol j) p q e = absurd (omega (arith, ap operation_tag e))
unary-tail Not Copy p q e = absurd (omega (arith, ap operation_tag e))
unary-tail Not Not p q e = ap (drop 1) e
unary-tail Not (Shl j) p q e = absurd (omega (arith, ap operation_tag e))
unary-tail Not (Shr j) p q e = absurd (omega (arith, ap operation_tag e))
unary-tail Not (Rol j) p q e = absurd (omega (arith, ap operation_tag e))
unary-tail (Shl k) Copy p q e = absurd (omega (arith, ap operation_tag e))
unary-tail (Shl k) Not p q e = absurd (omega (arith, ap operation_tag e))
unary-tail (Shl k) (Shl j) p q e = ap (drop 2) e
unary-tail (Shl k) (Shr j) p q e = absurd (omega (arith, ap operation_tag e))
unary-tail (Shl k) (Rol j) p q e = absurd (omega (arith, ap operation_tag e))
unary-tail (Shr k) Copy p q e = absurd (omega (arith, ap operation_tag e))
unary-tail (Shr k) Not p q e = absurd (omega (arith, ap operation_tag e))
unary-tail (Shr k) (Shl j) p q e = absurd (omega (arith, ap operation_tag e))
unary-tail (Shr k) (Shr j) p q e = ap (drop 2) e
unary-tail (Shr k) (Rol j) p q e = absurd (omega (arith, ap operation_tag e))
unary-tail (Rol k) Copy p q e = absurd (omega (arith, ap operation_tag e))
unary-tail (Rol k) Not p q e = absurd (omega (arith, ap operation_tag e))
unary-tail (Rol k) (Shl j) p q e = absurd (omega (arith, ap operation_tag e))
unary-tail (Rol k) (Shr j) p q e = absurd (omega (arith, ap operation_tag e))
unary-tail (Rol k) (Rol j) p q e = ap (drop 2) e

-- a name of no operation by itself, and no count after it
pub no-unary : (name : List ℕ) (rest : List (List ℕ)) → ((op : UnOp) → unary_words op ≢ name ∷ []) → ((n : ℕ) (ps : List (List ℕ)) → n ≤ 255 → rest ≢ decimal n ∷ ps)
    → (op : UnOp) (ps : List (List ℕ)) → IsUnary op → name ∷ rest ≢ unary_words op ++ ps
no-unary name rest alone count Copy ps h e = alone Copy (ap (λ ws. first_word ws ∷ []) (sym e))
no-unary name rest alone count Not ps h e = alone Not (ap (λ ws. first_word ws ∷ []) (sym e))
no-unary name rest alone count (Shl k) ps h e = count k ps (omega arith) (ap (drop 1) e)
no-unary name rest alone count (Shr k) ps h e = count k ps (omega arith) (ap (drop 1) e)
no-unary name rest alone count (Rol k) ps h e = count k ps (omega arith) (ap (drop 1) e)

-- a number has no space
pub number-lacks : (n : ℕ) → n < 2 ^ 32 → Lacks 32 (decimal n)
number-lacks n h = Lacks-decimal 32 n (lit≤ tt) (omega arith)

bank : (name : List ℕ) (n : ℕ) → Lacks 32 name → n < 2 ^ 32 → Lacks 32 (name ++ decimal n)
bank name n l h = Lacks-append 32 name (decimal n) l (number-lacks n h)

source-lacks : (x : Src) → IsSource x → Lacks 32 (source_name x)
source-lacks (src.A i) h = bank (codes "A") i (Lacks-test 32 (codes "A") refl) (omega arith)
source-lacks (src.B i) h = bank (codes "B") i (Lacks-test 32 (codes "B") refl) (omega arith)
source-lacks (src.L i) h = bank (codes "L") i (Lacks-test 32 (codes "L") refl) (omega arith)
source-lacks (src.LD i) h = bank (codes "LD") i (Lacks-test 32 (codes "LD") refl) (omega arith)

target-lacks : (d : Dst) → IsTarget d → Lacks 32 (target_name d)
target-lacks (dst.A i) h = bank (codes "A") i (Lacks-test 32 (codes "A") refl) (omega arith)
target-lacks (dst.B i) h = bank (codes "B") i (Lacks-test 32 (codes "B") refl) (omega arith)
target-lacks (dst.S i) h = bank (codes "S") i (Lacks-test 32 (codes "S") refl) (omega arith)
target-lacks (dst.SD i) h = bank (codes "SD") i (Lacks-test 32 (codes "SD") refl) (omega arith)
target-lacks dst.Nowhere h = Lacks-test 32 (codes "none") refl

address-lacks : (x : Gpr) → IsAddress x → Lacks 32 (address_name x)
address-lacks (gpr.A i) h = bank (codes "A") i (Lacks-test 32 (codes "A") refl) (omega arith)
address-lacks (gpr.B i) h = bank (codes "B") i (Lacks-test 32 (codes "B") refl) (omega arith)

binary-lacks : (op : Bin) → Lacks 32 (binary_name op)
binary-lacks Add = Lacks-test 32 (codes "ADD") refl
binary-lacks Sub = Lacks-test 32 (codes "SUB") refl
binary-lacks And = Lacks-test 32 (codes "AND") refl
binary-lacks Or = Lacks-test 32 (codes "OR") refl
binary-lacks Xor = Lacks-test 32 (codes "XOR") refl

unary-lacks : (op : UnOp) → IsUnary op → AllLack 32 (unary_words op)
unary-lacks Copy h = (Lacks-test 32 (codes "COPY") refl, tt)
unary-lacks Not h = (Lacks-test 32 (codes "NOT") refl, tt)
unary-lacks (Shl k) h = (Lacks-test 32 (codes "SHL") refl, (number-lacks k (omega arith), tt))
unary-lacks (Shr k) h = (Lacks-test 32 (codes "SHR") refl, (number-lacks k (omega arith), tt))
unary-lacks (Rol k) h = (Lacks-test 32 (codes "ROL") refl, (number-lacks k (omega arith), tt))

pub condition-lacks : (cond : Cond) → Lacks 32 (condition_name cond)
condition-lacks Always = Lacks-test 32 (codes "ALWAYS") refl
condition-lacks Z = Lacks-test 32 (codes "Z") refl
condition-lacks NZ = Lacks-test 32 (codes "NZ") refl
condition-lacks C = Lacks-test 32 (codes "C") refl
condition-lacks NC = Lacks-test 32 (codes "NC") refl

memory-lacks : (m : Mem) → Lacks 32 (memory_name m)
memory-lacks Sram = Lacks-test 32 (codes "sram") refl
memory-lacks Sdram = Lacks-test 32 (codes "sdram") refl
memory-lacks Scratch = Lacks-test 32 (codes "scratch") refl

-- the words of an instruction have no space
operands-lack : (i : Instr) → InRange i → AllLack 32 (operands i)
operands-lack (Alu d op x y) h = (target-lacks d h.0, (binary-lacks op, (source-lacks x h.1, (source-lacks y h.2, tt))))
operands-lack (Un d op x) h = (target-lacks d h.0, AllLack-append 32 (unary_words op) (source_name x ∷ []) (unary-lacks op h.1) (source-lacks x h.2, tt))
operands-lack (Immed d v s) h = (target-lacks d h.0, (number-lacks v (omega (arith, h.1)), (number-lacks s (omega (arith, h.2)), tt)))
operands-lack (Br cond place) h = (condition-lacks cond, (bank (codes "@") place (Lacks-test 32 (codes "@") refl) h, tt))
operands-lack (Read m r n x off) h = (memory-lacks m, (number-lacks r (omega (arith, h.0)), (number-lacks n (omega (arith, h.1)), (address-lacks x h.2, (number-lacks off (omega (arith, h.3)), tt)))))
operands-lack (Write m r n x off) h = (memory-lacks m, (number-lacks r (omega (arith, h.0)), (number-lacks n (omega (arith, h.1)), (address-lacks x h.2, (number-lacks off (omega (arith, h.3)), tt)))))
operands-lack (Halt k n) h = (number-lacks k (omega (arith, h.0)), (number-lacks n (omega (arith, h.1)), tt))

kind-lacks : (i : Instr) → Lacks 32 (kind_name i)
kind-lacks (Alu d op x y) = Lacks-test 32 (codes "alu") refl
kind-lacks (Un d op x) = Lacks-test 32 (codes "un") refl
kind-lacks (Immed d v s) = Lacks-test 32 (codes "immed") refl
kind-lacks (Br cond place) = Lacks-test 32 (codes "br") refl
kind-lacks (Read m r n x off) = Lacks-test 32 (codes "read") refl
kind-lacks (Write m r n x off) = Lacks-test 32 (codes "write") refl
kind-lacks (Halt k n) = Lacks-test 32 (codes "halt") refl

-- the parts of an instruction's line
pub instruction-parts : (line : List ℕ) (i : Instr) → InRange i → line ≡ parted (words i) → parts line ≡ words i
instruction-parts line i h e = ap parts e ∙ parts-parted (kind_name i) (operands i) (kind-lacks i, operands-lack i h)

-- a branch to a place
pub branch-only : (ps : List (List ℕ)) → ((cond : Cond) (place : ℕ) → place < 2 ^ 32 → ps ≢ operands (Br cond place)) → (i : Instr) → InRange i → codes "br" ∷ ps ≢ words i
branch-only ps h (Alu d op x y) g e = absurd (omega (arith, ap kind_tag e))
branch-only ps h (Un d op x) g e = absurd (omega (arith, ap kind_tag e))
branch-only ps h (Immed d v s) g e = absurd (omega (arith, ap kind_tag e))
branch-only ps h (Br cond place) g e = h cond place g (ap (drop 1) e)
branch-only ps h (Read m r n x off) g e = absurd (omega (arith, ap kind_tag e))
branch-only ps h (Write m r n x off) g e = absurd (omega (arith, ap kind_tag e))
branch-only ps h (Halt k n) g e = absurd (omega (arith, ap kind_tag e))

-- No word of an instruction has a line feed in it.
use Rattle.std.proofs.Common.{ℕ, ◌<◌, ◌^◌, List, [], ◌∷◌, ◌++◌, refl, arith, codes, decimal, lit≤}
use Rattle.nv_lines.specs.Line.{Lacks, AllLack, parted}
use Rattle.nv_lines.proofs.SplitLaws.{Lacks-test, Lacks-append, AllLack-append}
use Rattle.nv_lines.proofs.NumberLaws.{Lacks-decimal}
use Rattle.nv_base.specs.declared.term.Mem.{Mem}
use Rattle.nv_base.specs.declared.term.Mem.TheVariants.{Sram, Sdram, Scratch}
use Rattle.nv_base.specs.declared.term.Bin.{Bin}
use Rattle.nv_base.specs.declared.term.Bin.TheVariants.{Add, Sub, And, Or, Xor}
use Rattle.uc_isa.specs.declared.instruction.Src.{Src}
use Rattle.uc_isa.specs.declared.instruction.Src.TheVariants as src
use Rattle.uc_isa.specs.declared.instruction.Dst.{Dst}
use Rattle.uc_isa.specs.declared.instruction.Dst.TheVariants as dst
use Rattle.uc_isa.specs.declared.instruction.Gpr.{Gpr}
use Rattle.uc_isa.specs.declared.instruction.Gpr.TheVariants as gpr
use Rattle.uc_isa.specs.declared.instruction.UnOp.{UnOp}
use Rattle.uc_isa.specs.declared.instruction.UnOp.TheVariants.{Copy, Not, Shl, Shr, Rol}
use Rattle.uc_isa.specs.declared.instruction.Cond.{Cond}
use Rattle.uc_isa.specs.declared.instruction.Cond.TheVariants.{Always, Z, NZ, C, NC}
use Rattle.uc_isa.specs.declared.instruction.Instr.{Instr}
use Rattle.uc_isa.specs.declared.instruction.Instr.TheVariants.{Alu, Un, Immed, Br, Read, Write, Halt}
use Rattle.uc_asm.specs.Words.{source_name, target_name, address_name, binary_name, unary_words, condition_name, memory_name, operands, kind_name, words, IsSource, IsTarget, IsAddress, IsUnary, InRange}

pub parted-lacks : (ps : List (List ℕ)) → AllLack 10 ps → Lacks 10 (parted ps)
parted-lacks [] h = tt
parted-lacks (p ∷ []) h = h.0
parted-lacks (p ∷ q ∷ ps) h = Lacks-append 10 p (32 ∷ parted (q ∷ ps)) h.0 ((λ e. absurd (omega (arith, e))), parted-lacks (q ∷ ps) h.1)

-- a number has no line feed
pub number-lacks : (n : ℕ) → n < 2 ^ 32 → Lacks 10 (decimal n)
number-lacks n h = Lacks-decimal 10 n (lit≤ tt) (omega arith)

bank : (name : List ℕ) (n : ℕ) → Lacks 10 name → n < 2 ^ 32 → Lacks 10 (name ++ decimal n)
bank name n l h = Lacks-append 10 name (decimal n) l (number-lacks n h)

source-lacks : (x : Src) → IsSource x → Lacks 10 (source_name x)
source-lacks (src.A i) h = bank (codes "A") i (Lacks-test 10 (codes "A") refl) (omega arith)
source-lacks (src.B i) h = bank (codes "B") i (Lacks-test 10 (codes "B") refl) (omega arith)
source-lacks (src.L i) h = bank (codes "L") i (Lacks-test 10 (codes "L") refl) (omega arith)
source-lacks (src.LD i) h = bank (codes "LD") i (Lacks-test 10 (codes "LD") refl) (omega arith)

target-lacks : (d : Dst) → IsTarget d → Lacks 10 (target_name d)
target-lacks (dst.A i) h = bank (codes "A") i (Lacks-test 10 (codes "A") refl) (omega arith)
target-lacks (dst.B i) h = bank (codes "B") i (Lacks-test 10 (codes "B") refl) (omega arith)
target-lacks (dst.S i) h = bank (codes "S") i (Lacks-test 10 (codes "S") refl) (omega arith)
target-lacks (dst.SD i) h = bank (codes "SD") i (Lacks-test 10 (codes "SD") refl) (omega arith)
target-lacks dst.Nowhere h = Lacks-test 10 (codes "none") refl

address-lacks : (x : Gpr) → IsAddress x → Lacks 10 (address_name x)
address-lacks (gpr.A i) h = bank (codes "A") i (Lacks-test 10 (codes "A") refl) (omega arith)
address-lacks (gpr.B i) h = bank (codes "B") i (Lacks-test 10 (codes "B") refl) (omega arith)

binary-lacks : (op : Bin) → Lacks 10 (binary_name op)
binary-lacks Add = Lacks-test 10 (codes "ADD") refl
binary-lacks Sub = Lacks-test 10 (codes "SUB") refl
binary-lacks And = Lacks-test 10 (codes "AND") refl
binary-lacks Or = Lacks-test 10 (codes "OR") refl
binary-lacks Xor = Lacks-test 10 (codes "XOR") refl

unary-lacks : (op : UnOp) → IsUnary op → AllLack 10 (unary_words op)
unary-lacks Copy h = (Lacks-test 10 (codes "COPY") refl, tt)
unary-lacks Not h = (Lacks-test 10 (codes "NOT") refl, tt)
unary-lacks (Shl k) h = (Lacks-test 10 (codes "SHL") refl, (number-lacks k (omega arith), tt))
unary-lacks (Shr k) h = (Lacks-test 10 (codes "SHR") refl, (number-lacks k (omega arith), tt))
unary-lacks (Rol k) h = (Lacks-test 10 (codes "ROL") refl, (number-lacks k (omega arith), tt))

pub condition-lacks : (cond : Cond) → Lacks 10 (condition_name cond)
condition-lacks Always = Lacks-test 10 (codes "ALWAYS") refl
condition-lacks Z = Lacks-test 10 (codes "Z") refl
condition-lacks NZ = Lacks-test 10 (codes "NZ") refl
condition-lacks C = Lacks-test 10 (codes "C") refl
condition-lacks NC = Lacks-test 10 (codes "NC") refl

memory-lacks : (m : Mem) → Lacks 10 (memory_name m)
memory-lacks Sram = Lacks-test 10 (codes "sram") refl
memory-lacks Sdram = Lacks-test 10 (codes "sdram") refl
memory-lacks Scratch = Lacks-test 10 (codes "scratch") refl

-- the words of an instruction have no line feed
operands-lack : (i : Instr) → InRange i → AllLack 10 (operands i)
operands-lack (Alu d op x y) h = (target-lacks d h.0, (binary-lacks op, (source-lacks x h.1, (source-lacks y h.2, tt))))
operands-lack (Un d op x) h = (target-lacks d h.0, AllLack-append 10 (unary_words op) (source_name x ∷ []) (unary-lacks op h.1) (source-lacks x h.2, tt))
operands-lack (Immed d v s) h = (target-lacks d h.0, (number-lacks v (omega (arith, h.1)), (number-lacks s (omega (arith, h.2)), tt)))
operands-lack (Br cond place) h = (condition-lacks cond, (bank (codes "@") place (Lacks-test 10 (codes "@") refl) h, tt))
operands-lack (Read m r n x off) h = (memory-lacks m, (number-lacks r (omega (arith, h.0)), (number-lacks n (omega (arith, h.1)), (address-lacks x h.2, (number-lacks off (omega (arith, h.3)), tt)))))
operands-lack (Write m r n x off) h = (memory-lacks m, (number-lacks r (omega (arith, h.0)), (number-lacks n (omega (arith, h.1)), (address-lacks x h.2, (number-lacks off (omega (arith, h.3)), tt)))))
operands-lack (Halt k n) h = (number-lacks k (omega (arith, h.0)), (number-lacks n (omega (arith, h.1)), tt))

kind-lacks : (i : Instr) → Lacks 10 (kind_name i)
kind-lacks (Alu d op x y) = Lacks-test 10 (codes "alu") refl
kind-lacks (Un d op x) = Lacks-test 10 (codes "un") refl
kind-lacks (Immed d v s) = Lacks-test 10 (codes "immed") refl
kind-lacks (Br cond place) = Lacks-test 10 (codes "br") refl
kind-lacks (Read m r n x off) = Lacks-test 10 (codes "read") refl
kind-lacks (Write m r n x off) = Lacks-test 10 (codes "write") refl
kind-lacks (Halt k n) = Lacks-test 10 (codes "halt") refl

pub instruction-lacks : (i : Instr) → InRange i → Lacks 10 (parted (words i))
instruction-lacks i h = parted-lacks (words i) (kind-lacks i, operands-lack i h)

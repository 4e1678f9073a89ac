-- What instructions do besides moves of words, and what the nodes of a form in single use do.
use Rattle.std.specs.Prelude.{ℕ, nat_eq, List, [], ◌∷◌, ◌++◌, length, filter_map, Option, Some, None, if◌then◌else◌}
use Rattle.nv_base.specs.declared.term.Mem.{Mem}
use Rattle.nv_base.specs.declared.term.Una.{Una as Function}
use Rattle.nv_base.specs.declared.term.Una.TheVariants as una
use Rattle.nv_base.specs.declared.term.Bin.{Bin as Operator}
use Rattle.nv_base.specs.declared.term.Bin.TheVariants.{Sub}
use Rattle.uc_isa.specs.declared.instruction.Instr.{Instr}
use Rattle.uc_isa.specs.declared.instruction.Instr.TheVariants as instr
use Rattle.uc_isa.specs.declared.instruction.UnOp.{UnOp}
use Rattle.uc_isa.specs.declared.instruction.UnOp.TheVariants as op
use Rattle.uc_isa.specs.declared.instruction.Gpr.{Gpr}
use Rattle.uc_isa.specs.declared.instruction.Gpr.TheVariants as gpr
use Rattle.uc_isa.specs.declared.instruction.Cond.{Cond}
use Rattle.uc_isa.specs.declared.instruction.Cond.TheVariants.{Always}
use Rattle.uc_isa.specs.Registers.{failing}
use Rattle.ssu_ir.specs.Tree.{Step, Lit, Una, Bin, Clone, Read, Write, Last, Jump, Halt, Tree, Do, If, End, Label}

-- an operation, whatever registers it has: an immediate, a function of one word or of two, a read or a write of some words, a branch by a
-- condition, or an end with some words
pub data Operation : Type 0 where
  Immediate : Operation
  Unary : Function → Operation
  Binary : Operator → Operation
  Reading : Mem → ℕ → Operation
  Writing : Mem → ℕ → Operation
  Branching : Cond → Operation
  Ending : ℕ → ℕ → Operation

-- ---- code

-- a copy is a move
abbrev pub unary_operation : UnOp → Option Operation
unary_operation op.Copy = None
unary_operation op.Not = Some (Unary una.Not)
unary_operation (op.Shl k) = Some (Unary (una.Shl k))
unary_operation (op.Shr k) = Some (Unary (una.Shr k))
unary_operation (op.Rol k) = Some (Unary (una.Rol k))

-- and so is an access by way of B15, which has the address of the first slot
abbrev pub access_operation : Operation → Gpr → Option Operation
access_operation o (gpr.A k) = Some o
access_operation o (gpr.B k) = if nat_eq k 15 then None else Some o

-- what an instruction does, if it is no move
abbrev pub instr_operation : Instr → Option Operation
instr_operation (instr.Alu d o x y) = Some (Binary o)
instr_operation (instr.Un d o x) = unary_operation o
instr_operation (instr.Immed d v s) = Some Immediate
instr_operation (instr.Br cond target) = Some (Branching cond)
instr_operation (instr.Read m r n x off) = access_operation (Reading m n) x
instr_operation (instr.Write m r n x off) = access_operation (Writing m n) x
instr_operation (instr.Halt k n) = Some (Ending k n)

-- what the instructions of a code do that are no moves
abbrev pub code_operations : List Instr → List Operation
code_operations code = filter_map instr_operation code

-- ---- forms

abbrev pub step_operations : Step → List Operation
step_operations (Lit x v) = Immediate ∷ []
step_operations (Una x o y) = Unary o ∷ []
step_operations (Bin x o y z) = Binary o ∷ []
step_operations (Clone xs y) = []
step_operations (Read m xs y) = Reading m (length xs) ∷ []
step_operations (Write m y xs) = Writing m (length xs) ∷ []

abbrev pub last_operations : Last → List Operation
last_operations (Jump l xs) = Branching Always ∷ []
last_operations (Halt e xs) = Ending e (length xs) ∷ []

-- a comparison is a difference, and a branch where it fails
abbrev pub tree_operations : Tree → List Operation
tree_operations (Do s t) = step_operations s ++ tree_operations t
tree_operations (If c x y t u) = Binary Sub ∷ Branching (failing c) ∷ (tree_operations t ++ tree_operations u)
tree_operations (End l) = last_operations l

-- what the nodes of a form do, in order
abbrev pub form_operations : List Label → List Operation
form_operations [] = []
form_operations (l ∷ ls) = tree_operations l.body ++ form_operations ls

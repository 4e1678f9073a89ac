-- What the instructions of nodes do: each stands for one operation, whatever its address.
use Rattle.std.proofs.Common.{◌≡◌, List, [], ◌∷◌, Some, None, refl, ap, if◌then◌else◌, arith}
use Rattle.std.specs.List.{cons_option}
use Rattle.std.proofs.lemmas.Bool.{ne_eqb}
use Rattle.nv_base.specs.declared.term.Una.{Una as Function}
use Rattle.nv_base.specs.declared.term.Una.TheVariants as una
use Rattle.uc_isa.specs.declared.instruction.Instr.{Instr}
use Rattle.uc_isa.specs.declared.instruction.Instr.TheVariants as instr
use Rattle.place_plan.specs.declared.place.Place.{Place}
use Rattle.place_plan.specs.declared.place.Place.TheVariants.{A, B, L, LD, S, SD, Slot}
use Rattle.ucode_emit.specs.Operations.{Operation, Immediate, Unary, Binary, Reading, Writing, Branching, Ending, unary_operation, access_operation, instr_operation}
use Rattle.ucode_emit.specs.inner.Layers.{IsAddress}
use Rattle.ucode_emit.specs.Pieces.{un_op, address_of}

-- what an instruction that is no access to a slot does
abbrev pub plain_operations : Instr → List Operation
plain_operations (instr.Alu d o x y) = Binary o ∷ []
plain_operations (instr.Un d o x) = cons_option (unary_operation o) []
plain_operations (instr.Immed d v s) = Immediate ∷ []
plain_operations (instr.Br cond target) = Branching cond ∷ []
plain_operations (instr.Read m r n x off) = Reading m n ∷ []
plain_operations (instr.Write m r n x off) = Writing m n ∷ []
plain_operations (instr.Halt k n) = Ending k n ∷ []

-- the instruction is none
abbrev pub IsPlain : Instr → Type 0
IsPlain i = cons_option (instr_operation i) [] ≡ plain_operations i

pub address_plain : (o : Operation) (x : Place) → IsAddress x → cons_option (access_operation o (address_of x)) [] ≡ o ∷ []
address_plain o (A k) h = refl
address_plain o (B k) h = ap (λ b. cons_option (if b then None else Some o) []) (ne_eqb k 15 (λ e. omega (arith, e, h)))
address_plain o (L k) h = absurd h
address_plain o (LD k) h = absurd h
address_plain o (S k) h = absurd h
address_plain o (SD k) h = absurd h
address_plain o (Slot k) h = absurd h

pub unary_plain : (o : Function) → cons_option (unary_operation (un_op o)) [] ≡ Unary o ∷ []
unary_plain una.Not = refl
unary_plain (una.Shl k) = refl
unary_plain (una.Shr k) = refl
unary_plain (una.Rol k) = refl

-- What moves cost: each instruction has a weight, which counts by the label that it stands in.
use Rattle.std.specs.Prelude.{ℕ, suc, ◌+◌, ◌*◌, List, [], ◌∷◌, nat_eq, nat_le, if◌then◌else◌}
use Rattle.nv_base.specs.declared.term.Mem.{Mem}
use Rattle.nv_base.specs.declared.term.Mem.TheVariants.{Scratch}
use Rattle.uc_isa.specs.declared.instruction.Src.{Src}
use Rattle.uc_isa.specs.declared.instruction.Src.TheVariants as src
use Rattle.uc_isa.specs.declared.instruction.Dst.{Dst}
use Rattle.uc_isa.specs.declared.instruction.Dst.TheVariants as dst
use Rattle.uc_isa.specs.declared.instruction.Gpr.{Gpr}
use Rattle.uc_isa.specs.declared.instruction.Gpr.TheVariants as gpr
use Rattle.uc_isa.specs.declared.instruction.UnOp.TheVariants.{Copy}
use Rattle.uc_isa.specs.declared.instruction.Instr.{Instr}
use Rattle.uc_isa.specs.declared.instruction.Instr.TheVariants.{Un, Read, Write}

-- a copy from one bank to another weighs 1, unless A15 is its source or target
abbrev pub copy_weight : Dst → Src → ℕ
copy_weight dst.Nowhere x = 0
copy_weight (dst.A d) (src.A x) = 0
copy_weight (dst.A d) x = if nat_eq d 15 then 0 else 1
copy_weight (dst.B d) (src.B x) = 0
copy_weight d (src.A x) = if nat_eq x 15 then 0 else 1
copy_weight d x = 1

-- an access to scratch by way of B15, which holds the spill base, weighs 16
abbrev pub access_weight : Mem → Gpr → ℕ
access_weight Scratch (gpr.B x) = if nat_eq x 15 then 16 else 0
access_weight m x = 0

-- no other instruction weighs anything
abbrev pub weight : Instr → ℕ
weight (Un d Copy x) = copy_weight d x
weight (Read m r n x off) = access_weight m x
weight (Write m r n x off) = access_weight m x
weight i = 0

-- the weight of the last of these labels that starts at a place or before it, else the one so far; past the list of weights it is 1
abbrev pub label_weight : ℕ → List ℕ → List ℕ → ℕ → ℕ
label_weight sofar [] ws place = sofar
label_weight sofar (s ∷ starts) [] place = label_weight (if nat_le s place then 1 else sofar) starts [] place
label_weight sofar (s ∷ starts) (w ∷ ws) place = label_weight (if nat_le s place then w else sofar) starts ws place

-- the cost of the instructions from a place on: each one's weight times its label's, which is 1 before the first label
abbrev pub moves_from : ℕ → List Instr → List ℕ → List ℕ → ℕ
moves_from place [] starts ws = 0
moves_from place (i ∷ is) starts ws = weight i * label_weight 1 starts ws place + moves_from (suc place) is starts ws

-- the move cost of code whose labels have these starts and weights
abbrev pub moves : List Instr → List ℕ → List ℕ → ℕ
moves code starts ws = moves_from 0 code starts ws

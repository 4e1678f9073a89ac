-- What the code of one point stands on: what the placement says of the point, and what is asked of its moves and its instruction.
use Rattle.std.specs.Prelude.{◌≡◌, ℕ, ◌/◌, ◌^◌, ◌<◌, ◌≤◌, ⊤, List, [], ◌∷◌, ◌++◌, length, map, All, Some, slice_get}
use Rattle.uc_isa.specs.declared.instruction.Instr.TheVariants as instr
use Rattle.uc_isa.specs.declared.instruction.Cond.TheVariants.{Always}
use Rattle.uc_isa.specs.Registers.{failing}
use Rattle.ssu_ir.specs.Tree.{Step, Lit, Una, Bin, Clone, Read, Write, Last, Jump, Halt, Node, Does, Forks, Ends}
use Rattle.place_plan.specs.declared.place.Serve.{Serve}
use Rattle.place_plan.specs.Plan as plan
use Rattle.place_plan.specs.Plan.{Plan, pass}
use Rattle.ucode_emit.specs.Moves.{Move}
use Rattle.ucode_emit.specs.declared.emit_context.EmitContext.{EmitContext}
use Rattle.ucode_emit.specs.inner.Machine.{IsReadable, IsWritable}
use Rattle.ucode_emit.specs.inner.Layers.{IsAddress}
use Rattle.ucode_emit.specs.inner.DraftItems.{CanMove}
use Rattle.ucode_emit.specs.Pieces.{Item, Plain, Branch, moved, operands, operand_at, words, result_place, to_slot, copies, all_copies, single_moves, shift_of, step_items, fork_items}

-- what a placement says of a point with so many operands
pub record IsEmitContext (p : Plan) (n : ℕ) (emit_context : EmitContext) : Type 0 where
  pub as_many : length emit_context.serves.now ≡ n
  pub serves : (i : ℕ) (s : Serve) → slice_get emit_context.serves.now i ≡ Some s → plan.serve p emit_context.point i ≡ s
  pub first : emit_context.first ≡ plan.first p emit_context.point
  pub pass : emit_context.pass ≡ plan.pass p emit_context.point

-- the operands of a point, each from where it is served to where it is wanted
abbrev pub ends : List Serve → List Move
ends ss = map (λ s. (s.from, s.at)) ss

-- each of these moves is one instruction
abbrev pub CanAll : List Move → Type 0
CanAll ms = All (λ m. CanMove m.0 m.1) ms

-- the register of a result is written, and what brings the result on is done
abbrev pub CanDefine : Plan → ℕ → ℕ → Type 0
CanDefine p k x = IsWritable (result_place p k x) × CanAll (to_slot p k x ++ copies p k x)

abbrev pub CanStep : Plan → ℕ → Step → Type 0
CanStep p k (Lit x v) = (v / 2 ^ shift_of v < 2 ^ 16) × CanDefine p k x
CanStep p k (Una x op y) = CanAll (operands p k 1) × IsReadable (operand_at p k 0) × CanDefine p k x
CanStep p k (Bin x op y z) = CanAll (operands p k 2) × IsReadable (operand_at p k 0) × IsReadable (operand_at p k 1) × CanDefine p k x
CanStep p k (Clone xs y) = ⊤
CanStep p k (Read m xs y) = CanAll (operands p k 1) × IsAddress (operand_at p k 0) × (length xs ≤ 8) × CanAll (all_copies p k xs)
CanStep p k (Write m y xs) = CanAll (operands p k 1 ++ words p k 1 (length xs)) × IsAddress (operand_at p k 0) × (length xs ≤ 8)

abbrev pub CanFork : Plan → ℕ → Type 0
CanFork p k = CanAll (operands p k 2) × IsReadable (operand_at p k 0) × IsReadable (operand_at p k 1)

abbrev pub CanLast : Plan → ℕ → List Move → Last → Type 0
CanLast p k ms (Jump l xs) = CanAll (single_moves (pass p k).l ms)
CanLast p k ms (Halt e xs) = CanAll (single_moves (pass p k).l ms) × (length xs ≤ 8)

-- what is asked of a node whose parallel move has become these single moves
abbrev pub CanNode : Plan → ℕ → List Move → Node → Type 0
CanNode p k ms (Does s) = CanStep p k s
CanNode p k ms (Forks c x y) = CanFork p k
CanNode p k ms (Ends l) = CanLast p k ms l

-- the piece of a node, which branches to this point if it branches
abbrev pub end_items : Plan → ℕ → ℕ → List Move → Last → List Item
end_items p k to ms (Jump l xs) = moved (single_moves (pass p k).l ms) ++ Branch Always to ∷ []
end_items p k to ms (Halt e xs) = moved (single_moves (pass p k).l ms) ++ Plain (instr.Halt e (length xs)) ∷ []

abbrev pub node_items : Plan → ℕ → ℕ → List Move → Node → List Item
node_items p k to ms (Does s) = step_items p k s
node_items p k to ms (Forks c x y) = fork_items p k (failing c) to
node_items p k to ms (Ends l) = end_items p k to ms l

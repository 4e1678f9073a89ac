-- The code of a form under a placement that fits it does what the form says.
use Rattle.std.proofs.Common.{map}
use Rattle.std.specs.Prelude.{List}
use Rattle.uc_isa.specs.Agrees.{Agrees}
use Rattle.ssu_ir.specs.Tree.{Label}
use Rattle.ssu_ir.specs.Meaning.{ssu_meaning, ssu_params}
use Rattle.place_plan.specs.Plan.{Plan}
use Rattle.ucode_emit.specs.Pieces.{Sequences, instr_of, items, starts, parallel_moves}
use Rattle.ucode_emit.specs.Emits.{AreSequences}
use Rattle.ucode_emit.specs.inner.Layers.{Placed}
use Rattle.ucode_emit.proofs.Layer.{ready_layer}
use Rattle.ucode_emit.proofs.MachineLayers.{machine}
use Rattle.ucode_emit.proofs.RunsWhole.{emitted_agrees}

pub code_agrees : (labels : List Label) (p : Plan) (mss : Sequences) → Placed labels p → AreSequences (parallel_moves p labels) mss
    → Agrees (ssu_params labels) (ssu_meaning labels) (record { params = ssu_params labels; list = map (instr_of (starts labels p mss)) (items labels p mss) })
code_agrees labels p mss placed sequences = emitted_agrees labels p mss machine (ready_layer labels p placed) placed sequences

-- What has to stand where, from each point to the next.
use Rattle.ssu_ir.specs.Tree.{Label}
use Rattle.place_plan.specs.Plan.{Plan}
use Rattle.ucode_emit.specs.inner.Layers.{Placed, ReadyLayer}
use Rattle.ucode_emit.proofs.Operands.{one_operand, two_operands, compared, read_address}
use Rattle.ucode_emit.proofs.Words.{written}
use Rattle.ucode_emit.proofs.DefinitionsResult.{literal, unary, binary}
use Rattle.ucode_emit.proofs.DefinitionsRead.{read}
use Rattle.ucode_emit.proofs.Steps.{write, clone, first_arm, second_arm}
use Rattle.ucode_emit.proofs.Ends.{jump, halt}
use Rattle.ucode_emit.proofs.Entries.{entry, begins}
use Rattle.ucode_emit.proofs.EntriesMoves.{sequenced}
use Rattle.std.specs.Prelude.{List}

pub ready_layer : (labels : List Label) (p : Plan) → Placed labels p → ReadyLayer labels p
ready_layer labels p h = record {
  one_operand = one_operand labels p h;
  two_operands = two_operands labels p h;
  compared = compared labels p h;
  read_address = read_address labels p h;
  written = written labels p h;
  literal = literal labels p h;
  unary = unary labels p h;
  binary = binary labels p h;
  read = read labels p h;
  write = write labels p h;
  clone = clone labels p h;
  first_arm = first_arm labels p h;
  second_arm = second_arm labels p h;
  jump = jump labels p h;
  halt = halt labels p h;
  entry = entry labels p h;
  begins = begins labels p h;
  sequenced = sequenced labels p h;
}

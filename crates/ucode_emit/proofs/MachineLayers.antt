-- What instructions do to words in places, all of it.
use Rattle.ucode_emit.specs.inner.Layers.{MachineLayer}
use Rattle.ucode_emit.proofs.MachineMoves as by
use Rattle.ucode_emit.proofs.MachineOperations as op
use Rattle.ucode_emit.proofs.MachineAccesses as access

pub machine : MachineLayer
machine = record {
  moves = by.moves;
  literal = op.literal;
  unary = op.unary;
  binary = op.binary;
  read = access.read;
  read_fault = access.read_fault;
  write = access.write;
  write_fault = access.write_fault;
  holds = op.comparison_holds;
  fails = op.comparison_fails;
  jump = op.jump;
  halt = op.halt;
  starts = op.starts;
}

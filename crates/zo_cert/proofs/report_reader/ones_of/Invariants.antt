use Rattle.std.proofs.Common.{length}
use Rattle.zo_cert.proofs.ReadPieces.{ReadsOnes}
use Rattle.zo_cert.proofs.report_reader.ones_of.Given as goal

abbrev pub invariant-loop-part : goal.invariant-loop-part
invariant-loop-part l = ReadsOnes l.initial.parts l.parts l.on.items l.columns l.low

abbrev pub decreases-loop-part : goal.decreases-loop-part
decreases-loop-part l = length l.parts

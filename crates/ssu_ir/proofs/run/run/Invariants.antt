use Rattle.std.proofs.Common.{length}
use Rattle.std.specs.Prelude.{vec_capacity}
use Rattle.ssu_ir.specs.View.{labels_view}
use Rattle.ssu_ir.specs.inner.Running.{HasRoom}
use Rattle.ssu_ir.proofs.Entering.{Ran}
use Rattle.ssu_ir.proofs.run.run.Given as goal

abbrev pub invariant-jumps : goal.invariant-jumps
invariant-jumps l = record {
  ran : Ran (labels_view l.s) l.initial.words.items l.initial.p l.initial.log l.counter l.label l.words.items l.p l.log l.counts.items;
  room : HasRoom l.s (length l.values) (vec_capacity l.words);
}

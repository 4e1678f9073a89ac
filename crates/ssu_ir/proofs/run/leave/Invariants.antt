use Rattle.std.proofs.Common.{◌≡◌, length}
use Rattle.std.specs.Prelude.{vec_capacity}
use Rattle.ssu_ir.specs.View.{labels_view}
use Rattle.ssu_ir.specs.inner.Under.{weight_at}
use Rattle.ssu_ir.specs.inner.Running.{env_of}
use Rattle.ssu_ir.proofs.Walking.{Walking}
use Rattle.ssu_ir.proofs.run.leave.Given as goal

abbrev pub invariant-walk : goal.invariant-walk
invariant-walk l = record {
  walking : Walking l.s.nodes.slots (labels_view l.s) l.fn.from.0 (env_of l.initial.values) l.initial.p l.initial.log l.id.0 (env_of l.values) l.p l.log;
  places : length l.values ≡ length l.initial.values;
  room : vec_capacity l.words ≡ vec_capacity l.initial.words;
}

abbrev pub decreases-walk : goal.decreases-walk
decreases-walk l = weight_at l.s.nodes.slots l.id.0

use Rattle.std.proofs.Common.{◌≡◌, vec_len}
use Rattle.flat_ir.specs.declared.flat.Flat.{Flat}
use Rattle.flat_ir.specs.Meaning.{Calls, does}
use Rattle.flat_ir.specs.Spine.{steps_do, AreNodes}
use Rattle.flat_ir.proofs.spine.join.Given as goal

abbrev pub invariant-loop-s : goal.invariant-loop-s
invariant-loop-s l = record {
  same : (call : Calls) → steps_do call l.steps.items (does call l.t) ≡ steps_do call l.initial.steps.items (does call l.initial.t);
  nodes : (w : Flat) → AreNodes l.steps.items l.t w → AreNodes l.initial.steps.items l.initial.t w;
}

abbrev pub decreases-loop-s : goal.decreases-loop-s
decreases-loop-s l = vec_len l.steps

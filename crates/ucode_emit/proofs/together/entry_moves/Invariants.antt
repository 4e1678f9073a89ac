use Rattle.std.proofs.Common.{◌≡◌, take}
use Rattle.place_plan.specs.Plan.{plan_view}
use Rattle.ucode_emit.specs.Pieces as pieces
use Rattle.ucode_emit.proofs.together.entry_moves.Given as goal

abbrev pub invariant-loop-x : goal.invariant-loop-x
invariant-loop-x l = record {
  counted : l.register ≡ l.x-index;
  so_far : l.moves.items ≡ pieces.entry_moves (plan_view l.p) 0 (take l.x-index l.params);
}

use Rattle.std.proofs.Common.{◌∙◌, ◌+◌, ap, arith, length, drop, length-drop}
use Rattle.std.proofs.lemmas.List.{drop-drop}
use Rattle.nv_types_scopes.proofs.scope.Scope.leave.Goals as goal

pub loop-self-preserved : goal.loop-self-preserved
loop-self-preserved c =
    let k = c.loop-self.invariant.0 in
    let xs = c.args.self.now in
    let left = c.loop-self.invariant.1 in
    (k + 1, c.in_ok-forget.ensures ∙ ap (drop 1) left ∙ drop-drop 1 k xs, omega (arith, ap length left, length-drop k xs, c.loop-self.invariant.2))

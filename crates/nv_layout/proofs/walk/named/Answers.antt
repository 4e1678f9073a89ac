use Rattle.std.proofs.Common.{rules, ◌≡◌, ◌∙◌, ◌<◌, true, false, not, bytes_eq, length, ap, sym, arith}
use Rattle.nv_ast.specs.Outline.{PartsOutline, no_named_outlines}
use Rattle.nv_ast.specs.Tests.{where_true}
use Rattle.nv_layout.proofs.Walks.{known_here, still_absent}
use Rattle.nv_layout.proofs.walk.named.Goals as goal

pub returns-then-eq : goal.returns-then-eq
returns-then-eq c =
    let h : c.loop-k.k-index < length c.args.known.now = omega arith in
    let here : bytes_eq c.k-item.result.0 c.args.x.now ≡ true = search rules in
    let found = known_here (PartsOutline no_named_outlines) c.args.x.now c.args.known.now c.loop-k.k-index c.k-item.result h c.k-item.is c.loop-k.invariant here in
    (ap (λ b. where_true (not b) 3) found.0, c.in_ok-copy.ensures ∙ sym found.1)

pub loop-k-preserved : goal.loop-k-preserved
loop-k-preserved c =
    let h : c.loop-k.k-index < length c.args.known.now = omega arith in
    let other : bytes_eq c.k-item.result.0 c.args.x.now ≡ false = search rules in
    still_absent c.args.x.now c.args.known.now c.loop-k.k-index c.k-item.result h c.k-item.is c.loop-k.invariant other

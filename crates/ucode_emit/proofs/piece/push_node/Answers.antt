use Rattle.std.proofs.Common.{◌≡◌, ◌++◌, map, OnOk, subst}
use Rattle.ssu_ir.specs.Slots.{node_of}
use Rattle.place_plan.specs.Plan.{plan_view}
use Rattle.ucode_emit.specs.inner.DraftItems.{draft}
use Rattle.ucode_emit.proofs.Serving.{given_is, given_can}
use Rattle.ucode_emit.proofs.piece.push_node.Goals as goal

pub push_given-requires-clause-can : goal.push_given-requires-clause-can
push_given-requires-clause-can c = given_can (plan_view c.args.p.now) c.args.emit_context.now (node_of c.args.n.now) c.requires.emit_context c.requires.can

pub returns : goal.returns
returns c =
    subst (λ is. OnOk c.push_given.result (c.push_given.new.code ≡ c.args.code.now ++ map draft is)) (given_is (plan_view c.args.p.now) c.args.emit_context.now (node_of c.args.n.now) c.requires.emit_context) c.push_given.ensures

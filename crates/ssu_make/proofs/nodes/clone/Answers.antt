use Rattle.std.proofs.Common.{refl, arith}
use Rattle.std.proofs.lemmas.Result.{IfOk-weaker}
use Rattle.std.proofs.lemmas.Bool.{lt-ltb}
use Rattle.ssu_ir.specs.Build.{Grown}
use Rattle.std.proofs.Common.{nat_lt}
use Rattle.ssu_ir.specs.declared.node.SsuNode.TheVariants.{Clone}
use Rattle.ssu_make.specs.inner.Making.{Becomes}
use Rattle.ssu_make.specs.Made.{clone_step}
use Rattle.ssu_make.proofs.Turns.{can-take-one}
use Rattle.ssu_make.proofs.NodeForms.{clone-becomes}
use Rattle.ssu_make.proofs.nodes.clone.Goals as goal

pub add-requires : goal.add-requires
add-requires c = can-take-one _ _ c.args.root.0 c.requires refl

pub returns-in_ok-copies : goal.returns-in_ok-copies
returns-in_ok-copies c =
    let node = Clone c.in_ok-copies.copies c.in_ok-own.own c.args.root in
    IfOk-weaker c.add.result (λ id. Grown c.args.build.now c.add.new.self node id.0) (λ id. Becomes c.args.build.now c.add.new.self c.args.root.0 id.0 (clone_step (nat_lt 1 c.args.n) c.args.first c.args.n))
    (λ id g. clone-becomes c.args.build.now c.add.new.self node c.args.root.0 id.0 c.args.first c.args.n c.in_ok-copies.copies.items c.in_ok-own.own (lt-ltb 1 c.args.n (omega arith)) c.in_ok-copies.ensures c.in_ok-own.ensures g refl refl) c.add.ensures.grown

use Rattle.std.proofs.Common.{◌+◌, ◌*◌, ◌/◌, ◌%◌, false, refl}
use Rattle.std.proofs.lemmas.Result.{IfOk-weaker}
use Rattle.nv_base.specs.declared.term.Bin.TheVariants.{Or}
use Rattle.ssu_ir.specs.Build.{Grown}
use Rattle.ssu_ir.specs.declared.node.SsuNode.TheVariants.{Lit, Bin}
use Rattle.ssu_ir.specs.Tree as ssu
use Rattle.ssu_make.specs.inner.Making.{Becomes}
use Rattle.ssu_make.specs.Made.{high, low}
use Rattle.ssu_make.specs.Made as made
use Rattle.ssu_make.proofs.Turns.{can-take-one, becomes-node, becomes-root}
use Rattle.ssu_make.proofs.NodeForms.{wide-becomes}
use Rattle.ssu_make.proofs.nodes.wide_literal.Goals as goal

pub add-requires : goal.add-requires
add-requires c = can-take-one _ _ c.args.root.0 c.requires.root refl

pub add-requires-2 : goal.add-requires-2
add-requires-2 c =
    let n = c.args.n in
    let one = becomes-node c.args.build.now c.add.new.self (Bin (n + 2) Or n (n + 1) c.args.root) c.args.root.0 c.in_ok-whole.whole.0 (ssu.Bin (n + 2) Or n (n + 1)) c.in_ok-whole.ensures.grown refl refl in
    can-take-one _ _ c.in_ok-whole.whole.0 (becomes-root _ _ _ _ _ one c.requires.root) refl

pub add-requires-3 : goal.add-requires-3
add-requires-3 c =
    let n = c.args.n in
    let one = becomes-node c.args.build.now c.add.new.self (Bin (n + 2) Or n (n + 1) c.args.root) c.args.root.0 c.in_ok-whole.whole.0 (ssu.Bin (n + 2) Or n (n + 1)) c.in_ok-whole.ensures.grown refl refl in
    let two = becomes-node c.add.new.self c.add-2.new.self (Lit (n + 1) (c.args.v % 65536) c.in_ok-whole.whole) c.in_ok-whole.whole.0 c.in_ok-low.low.0 (ssu.Lit (n + 1) (low c.args.v)) c.in_ok-low.ensures.grown refl refl in
    can-take-one _ _ c.in_ok-low.low.0 (becomes-root _ _ _ _ _ two (becomes-root _ _ _ _ _ one c.requires.root)) refl

pub returns : goal.returns
returns c =
    let n = c.args.n in
    let v = c.args.v in
    let whole = Bin (n + 2) Or n (n + 1) c.args.root in
    let down = Lit (n + 1) (v % 65536) c.in_ok-whole.whole in
    let up = Lit n (v / 65536 * 65536) c.in_ok-low.low in
    IfOk-weaker c.add-3.result (λ id. Grown c.add-2.new.self c.add-3.new.self up id.0) (λ id. Becomes c.args.build.now c.add-3.new.self c.args.root.0 id.0 (made.literal false n v))
    (λ id g. wide-becomes c.args.build.now c.add.new.self c.add-2.new.self c.add-3.new.self whole down up c.args.root.0 c.in_ok-whole.whole.0 c.in_ok-low.low.0 id.0 n v c.in_ok-whole.ensures.grown refl refl c.in_ok-low.ensures.grown refl refl g refl refl)
    c.add-3.ensures.grown

use Rattle.std.proofs.Common.{◌≡◌, ◌-◌, nat_lt, get_or, drop, refl, subst, arith}
use Rattle.ssu_make.specs.inner.Making.{counted, Becomes}
use Rattle.ssu_make.specs.Made.{clones, clone_step}
use Rattle.ssu_make.proofs.Along.{clones-start}
use Rattle.ssu_make.proofs.Turns.{clones-more}
use Rattle.ssu_make.proofs.nodes.clones.Goals as goal

pub loop-i-init : goal.loop-i-init
loop-i-init c = clones-start c.args.build.now c.args.root.0 (counted c.args.bases.now) (counted c.args.counts.now) c.args.xs.now c.requires

pub clone-requires : goal.clone-requires
clone-requires c = c.loop-i.invariant.root

pub loop-i-preserved : goal.loop-i-preserved
loop-i-preserved c =
    let xs = c.args.xs.now in
    let j = c.loop-i.i - 1 in
    let x = get_or xs j 0 in
    let base = counted c.args.bases.now in
    let r = counted c.args.counts.now in
    let b = subst (λ n. Becomes c.loop-i.build c.clone.new.build c.loop-i.id.0 c.in_ok-id.id.0 (clone_step (nat_lt 1 n) (base x) n)) c.at-in-loop-i.ensures
    (subst (λ f. Becomes c.loop-i.build c.clone.new.build c.loop-i.id.0 c.in_ok-id.id.0 (clone_step (nat_lt 1 c.at-in-loop-i.result) f c.at-in-loop-i.result)) c.at.ensures c.in_ok-id.ensures) in
    clones-more c.args.build.now c.loop-i.build c.clone.new.build c.args.root.0 c.loop-i.id.0 c.in_ok-id.id.0 base r c.loop-i.i j xs 0 x c.loop-i.invariant (omega arith) refl b

pub returns : goal.returns
returns c =
    let none : c.loop-i.i ≡ 0 = omega arith in
    subst (λ k. Becomes c.args.build.now c.loop-i.build c.args.root.0 c.loop-i.id.0 (clones (counted c.args.bases.now) (counted c.args.counts.now) (drop k c.args.xs.now))) none c.loop-i.invariant.becomes

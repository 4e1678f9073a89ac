use Rattle.std.proofs.Common.{◌≡◌, ◌+◌, ◌-◌, get_or, drop, refl, ap, subst, ◌∙◌, arith}
use Rattle.nv_base.specs.declared.term.Atom.TheVariants.{Var}
use Rattle.ssu_make.specs.inner.Making.{Becomes}
use Rattle.ssu_make.specs.Made.{literals}
use Rattle.ssu_make.proofs.Along.{literals-start}
use Rattle.ssu_make.proofs.Turns.{literals-more}
use Rattle.ssu_make.proofs.nodes.literals.Goals as goal

pub loop-i-init : goal.loop-i-init
loop-i-init c = literals-start c.args.build.now c.args.root.0 c.args.first c.args.list.now c.requires

pub atom_literal-requires-clause-root : goal.atom_literal-requires-clause-root
atom_literal-requires-clause-root c = c.loop-i.invariant.root

pub loop-i-preserved : goal.loop-i-preserved
loop-i-preserved c =
    let list = c.args.list.now in
    let j = c.loop-i.i - 1 in
    literals-more c.args.build.now c.loop-i.build c.atom_literal.new.build c.args.root.0 c.loop-i.id.0 c.in_ok-id.id.0 c.args.first c.loop-i.n c.in_ok-next.next c.loop-i.i j list (Var 0) (get_or list j (Var 0)) c.loop-i.invariant (omega arith) refl c.in_ok-id.ensures
    (c.in_ok-next.ensures ∙ ap (λ k. c.loop-i.n + k) c.taken.ensures)

pub returns : goal.returns
returns c =
    let none : c.loop-i.i ≡ 0 = omega arith in
    subst (λ k. Becomes c.args.build.now c.loop-i.build c.args.root.0 c.loop-i.id.0 (literals c.args.first (drop k c.args.list.now))) none c.loop-i.invariant.becomes

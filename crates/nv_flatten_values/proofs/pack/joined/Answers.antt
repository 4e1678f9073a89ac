use Rattle.std.proofs.Common.{◌∙◌, ap, sym}
use Rattle.nv_base.specs.declared.term.Atom.TheVariants.{Lit}
use Rattle.nv_flatten_values.proofs.Writing.{joined-none, joined-some}
use Rattle.nv_flatten_values.proofs.WordLets.{adds-more, adds-or}
use Rattle.nv_flatten_values.proofs.PackedSteps.{joined-none as narrow-none, joined-some as narrow-some}
use Rattle.nv_flatten_values.proofs.pack.joined.Goals as goal

pub returns-in-Lit-eq0-clause-makes : goal.returns-in-Lit-eq0-clause-makes
returns-in-Lit-eq0-clause-makes c = joined-none c.args.next.now c.args.so_far c.args.more c.args.steps.now.items (c.in-Lit-eq0.is ∙ ap (λ k. Lit k) (sym c.in-Lit-eq0.field-0-is ∙ c.in-Lit-eq0.field-0-test))

pub returns-in_ok-x-in_default-clause-makes : goal.returns-in_ok-x-in_default-clause-makes
returns-in_ok-x-in_default-clause-makes c = joined-some c.args.next.now c.define.new.next c.in_ok-x-in_default.x c.args.so_far c.args.more c.args.steps.now.items c.define.new.steps.items c.in_ok-x-in_default.ensures.variable c.in_ok-x-in_default.ensures.next c.in_ok-x-in_default.ensures.steps

pub returns-in-Lit-eq0-clause-well : goal.returns-in-Lit-eq0-clause-well
returns-in-Lit-eq0-clause-well c = adds-more c.args.next.now c.args.so_far c.args.more c.args.steps.now.items

pub returns-in_ok-x-in_default-clause-well : goal.returns-in_ok-x-in_default-clause-well
returns-in_ok-x-in_default-clause-well c = adds-or c.args.next.now c.define.new.next c.in_ok-x-in_default.x c.args.so_far c.args.more c.args.steps.now.items c.define.new.steps.items c.in_ok-x-in_default.ensures.variable c.in_ok-x-in_default.ensures.next c.in_ok-x-in_default.ensures.steps

pub returns-in-Lit-eq0-clause-bounds : goal.returns-in-Lit-eq0-clause-bounds
returns-in-Lit-eq0-clause-bounds c = narrow-none c.args.so_far c.args.more c.args.steps.now.items

pub returns-in_ok-x-in_default-clause-bounds : goal.returns-in_ok-x-in_default-clause-bounds
returns-in_ok-x-in_default-clause-bounds c = narrow-some c.args.so_far c.args.more c.args.next.now c.in_ok-x-in_default.x c.args.steps.now.items c.define.new.steps.items c.in_ok-x-in_default.ensures.variable c.in_ok-x-in_default.ensures.steps

use Rattle.std.proofs.Common.{◌≡◌, ◌∙◌, ap, sym, subst}
use Rattle.uc_isa.specs.declared.instruction.Instr.TheVariants.{Un}
use Rattle.uc_isa.specs.declared.instruction.UnOp.TheVariants.{Copy}
use Rattle.uc_peep_facts.specs.Facts.{Gives, known}
use Rattle.uc_peep_facts.proofs.flow.facts_after.Goals as goal
use Rattle.uc_peep_facts.proofs.flow.facts_after.Goals.{in-Un+then-is_copy, in-Un+else-is_copy, in_default}

pub add_copied-requires-clause-so_far : goal.add_copied-requires-clause-so_far
add_copied-requires-clause-so_far c =
    let is : c.args.i.now ≡ Un c.in-Un.dst Copy c.in-Un.x = c.in-Un.is ∙ ap (λ o. Un c.in-Un.dst o c.in-Un.x) (c.is_copy.ensures c.if-is_copy.true) in
    subst (λ j. Gives j (known c.args.before.now) (known c.keep_left.new.after)) is c.keep_left.ensures

pub add_tested-requires-clause-so_far : goal.add_tested-requires-clause-so_far
add_tested-requires-clause-so_far c = elim c.match-i.branch [
  | in-Un+then-is_copy w ↦
      let is : c.args.i.now ≡ Un w.in-Un.dst Copy w.in-Un.x = w.in-Un.is ∙ ap (λ o. Un w.in-Un.dst o w.in-Un.x) (w.is_copy.ensures w.if-is_copy.true) in
      subst (λ j. Gives j (known c.args.before.now) (known c.match-i.after)) (sym is)
      (subst (λ l. Gives (Un w.in-Un.dst Copy w.in-Un.x) (known c.args.before.now) (known l)) (sym w.after-is) w.add_copied.ensures)
  | in-Un+else-is_copy w ↦ subst (λ l. Gives c.args.i.now (known c.args.before.now) (known l)) (sym w.after-is) c.keep_left.ensures
  | in_default w ↦ subst (λ l. Gives c.args.i.now (known c.args.before.now) (known l)) (sym w.after-is) c.keep_left.ensures
]

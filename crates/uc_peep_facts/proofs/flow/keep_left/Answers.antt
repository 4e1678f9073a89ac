use Rattle.std.proofs.Common.{sym, subst, ◌∙◌}
use Rattle.uc_peep_facts.specs.Facts.{Gives, known}
use Rattle.uc_peep_facts.proofs.Standing.{given-left, gives-with}
use Rattle.uc_peep_facts.proofs.flow.keep_left.Goals as goal
use Rattle.uc_peep_facts.proofs.flow.keep_left.Goals.{in-Some+then-is_apart, in-Some+else-is_apart, in_default}

pub loop-k-preserved : goal.loop-k-preserved
loop-k-preserved c = elim c.match-get.branch [
  | in-Some+then-is_apart w ↦
      subst (λ l. Gives c.args.i.now (known c.args.before.now) (known l)) (sym w.after-is)
      (gives-with c.args.i.now (known c.args.before.now) (known c.loop-k.after) (known w.push.new.self) w.in-Some.f c.loop-k.invariant
      (given-left c.args.i.now (known c.args.before.now) c.args.set.now w.in-Some.f c.requires.formed c.requires.written (c.loop-k.k, sym c.get.ensures ∙ w.in-Some.is) (w.is_apart.ensures w.if-is_apart.true))
      w.push.ensures)
  | in-Some+else-is_apart w ↦ subst (λ l. Gives c.args.i.now (known c.args.before.now) (known l)) (sym w.after-is) c.loop-k.invariant
  | in_default w ↦ subst (λ l. Gives c.args.i.now (known c.args.before.now) (known l)) (sym w.after-is) c.loop-k.invariant
]

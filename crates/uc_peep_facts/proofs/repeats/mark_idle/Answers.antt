use Rattle.std.proofs.Common.{◌+◌, ◌∙◌, arith, refl, sym, subst}
use Rattle.std.proofs.lemmas.Grind.{get_or_default_zero}
use Rattle.std.proofs.lemmas.Option.{slice_get_read}
use Rattle.uc_isa.specs.Program.{IsFormed}
use Rattle.uc_peep.proofs.Sweeps.{lawful-here}
use Rattle.uc_peep_facts.proofs.Ways.{AllMayGo, may-more}
use Rattle.uc_peep_facts.proofs.repeats.mark_idle.Goals as goal
use Rattle.uc_peep_facts.proofs.repeats.mark_idle.Goals.{then-x-code+then-not-entered-x+then-not-started-x+then-is_idle, else-x-code}

pub is_idle-requires : goal.is_idle-requires
is_idle-requires c = subst IsFormed (sym c.index-code-x.is) (lawful-here c.args.code.now _ c.loop-x.x c.index-code-x.result c.requires.lawful refl c.loop-x-test.true).formed

pub loop-x-preserved : goal.loop-x-preserved
loop-x-preserved c = elim c.if-x-code.branch [
  | then-x-code+then-not-entered-x+then-not-started-x+then-is_idle w ↦
      subst (AllMayGo c.args.code.now c.args.sets.now c.args.table.now c.args.entered.now c.args.started.now) (sym w.gone-is)
      (may-more c.args.code.now c.args.sets.now c.args.table.now c.args.entered.now c.args.started.now c.loop-x.gone c.loop-x.x w.index-code-x.result w.index-table-x.result w.index-sets-x.result
      (let a = c.loop-x.auto.gone in let s = c.requires.size_gone in let lt = c.loop-x-test.true in omega arith)
      (slice_get_read c.args.code.now _ c.loop-x.x w.index-code-x.result refl c.loop-x-test.true w.index-code-x.is)
      (slice_get_read c.args.table.now _ c.loop-x.x w.index-table-x.result refl (let t = c.requires.table in let lt = c.loop-x-test.true in omega arith) w.index-table-x.is)
      (sym (w.index-sets-x.is ∙ get_or_default_zero c.args.sets.now (c.loop-x.x + 1) w.index-sets-x.result (let t = c.requires.sets in let lt = w.if-x-code.true in omega arith)))
      w.if-x-code.true
      w.if-not-entered-x.true
      w.if-not-started-x.true
      (w.is_idle.ensures w.if-is_idle.true)
      c.loop-x.invariant)
  | else-x-code w ↦ subst (AllMayGo c.args.code.now c.args.sets.now c.args.table.now c.args.entered.now c.args.started.now) (sym w.gone-is) c.loop-x.invariant
]

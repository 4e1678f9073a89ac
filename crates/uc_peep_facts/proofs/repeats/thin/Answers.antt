use Rattle.std.proofs.Common.{length, sym, subst}
use Rattle.uc_peep.proofs.Peeps.{targets-inside}
use Rattle.uc_peep.specs.Kept.{kept_before}
use Rattle.uc_peep.specs.Rewrites.{IsWithout}
use Rattle.uc_peep_facts.specs.Facts.{IsFilled}
use Rattle.uc_peep_facts.proofs.Drafted.{draft-lawful, straight-gone, thinned-draft, without-gone}
use Rattle.uc_peep_facts.proofs.repeats.thin.Goals as goal

pub mark_entered-requires-clause-targets : goal.mark_entered-requires-clause-targets
mark_entered-requires-clause-targets c = targets-inside c.args.code.now (length c.args.entered.now) c.requires.lawful c.requires.size_entered

pub are_kept-requires-clause-lawful : goal.are_kept-requires-clause-lawful
are_kept-requires-clause-lawful c =
    draft-lawful c.args.code.now c.args.starts.now c.fill.new.draft c.mark_idle.new.gone c.args.sets.now c.solve.new.table c.requires.lawful
    (subst (λ l. IsFilled l c.fill.new.draft c.mark_idle.new.gone) c.requires.draft c.fill.ensures)
    (c.mark_idle.ensures.may c.args.starts.now c.mark_entered.ensures c.mark_starts.ensures)

pub without_gone-requires-clause-draft : goal.without_gone-requires-clause-draft
without_gone-requires-clause-draft c =
    thinned-draft c.args.code.now c.args.starts.now c.fill.new.draft c.mark_idle.new.gone c.args.sets.now c.solve.new.table (record {
      lawful = c.requires.lawful;
      filled = subst (λ l. IsFilled l c.fill.new.draft c.mark_idle.new.gone) c.requires.draft c.fill.ensures;
      may = c.mark_idle.ensures.may c.args.starts.now c.mark_entered.ensures c.mark_starts.ensures;
      closed = c.requires.closed;
      kept = c.are_kept.ensures c.if-not-are_kept.false;
    })

pub returns : goal.returns
returns c =
    let filled : IsFilled c.args.code.now c.fill.new.draft c.mark_idle.new.gone = subst (λ l. IsFilled l c.fill.new.draft c.mark_idle.new.gone) c.requires.draft c.fill.ensures in (
      c.in_ok-next.ensures.kept,
      subst (IsWithout c.args.code.now) (sym c.in_ok-next.ensures.code)
          (without-gone (kept_before c.mark_idle.new.gone) c.args.code.now c.fill.new.draft c.mark_idle.new.gone filled.size filled.size_gone filled.kept
          (straight-gone c.args.code.now c.args.starts.now c.args.sets.now c.solve.new.table c.mark_idle.new.gone (c.mark_idle.ensures.may c.args.starts.now c.mark_entered.ensures c.mark_starts.ensures))),
    )

use Rattle.std.proofs.Common.{length, sym, subst}
use Rattle.uc_peep.proofs.Peeps.{kept-trans, targets-inside}
use Rattle.uc_peep_facts.specs.inner.Pairs.{IsLevel}
use Rattle.uc_peep_facts.proofs.Level.{level-inside, turned-draft, turned-less, turned-level}
use Rattle.uc_peep_facts.proofs.Turning.{none-left, start-at, turned-list}
use Rattle.uc_peep_facts.proofs.branches.turn.Goals as goal

pub mark_entered-requires-clause-targets : goal.mark_entered-requires-clause-targets
mark_entered-requires-clause-targets c = targets-inside c.args.code.now (length c.args.entered.now) c.requires.lawful c.requires.size_entered

pub returns-then-not-some : goal.returns-then-not-some
returns-then-not-some c =
    none-left c.args.code.now c.args.starts.now c.mark_entered.new.marks c.mark_starts.new.marks c.turn_all-some.new.draft c.turn_all-some.new.gone c.turn_all-some.result c.requires.lawful c.requires.starts c.mark_entered.ensures c.mark_starts.ensures c.turn_all-some.ensures
    c.if-not-some.true

pub without_gone-requires-clause-starts : goal.without_gone-requires-clause-starts
without_gone-requires-clause-starts c =
    let l = subst (λ v. IsLevel c.turn_all-some.new.draft v c.turn_all-some.new.gone) (sym c.deref.ensures.value) c.in_ok-level.ensures in
    level-inside c.args.code.now c.args.starts.now c.mark_entered.new.marks c.mark_starts.new.marks c.turn_all-some.new.draft c.turn_all-some.new.gone c.turn_all-some.result c.requires.lawful c.requires.starts c.mark_entered.ensures c.mark_starts.ensures c.turn_all-some.ensures
    c.deref.result.now l

pub without_gone-requires-clause-draft : goal.without_gone-requires-clause-draft
without_gone-requires-clause-draft c =
    let l = subst (λ v. IsLevel c.turn_all-some.new.draft v c.turn_all-some.new.gone) (sym c.deref.ensures.value) c.in_ok-level.ensures in
    turned-draft c.args.code.now c.args.starts.now c.mark_entered.new.marks c.mark_starts.new.marks c.turn_all-some.new.draft c.turn_all-some.new.gone c.turn_all-some.result c.requires.lawful c.requires.starts c.mark_entered.ensures c.mark_starts.ensures c.turn_all-some.ensures
    c.deref.result.now l

pub returns : goal.returns
returns c =
    let l = subst (λ v. IsLevel c.turn_all-some.new.draft v c.turn_all-some.new.gone) (sym c.deref.ensures.value) c.in_ok-level.ensures in
    let kept = turned-level c.args.code.now c.args.starts.now c.mark_entered.new.marks c.mark_starts.new.marks c.turn_all-some.new.draft c.turn_all-some.new.gone c.turn_all-some.result c.requires.lawful c.requires.starts c.mark_entered.ensures c.mark_starts.ensures c.turn_all-some.ensures
    c.deref.result.now l (start-at c.args.starts.now) in (
      kept-trans c.args.code.now c.deref.result.now c.in_ok-next.next.code.items c.args.starts.now c.args.starts.now c.in_ok-next.next.starts.items kept c.in_ok-next.ensures.kept,
      turned-less c.args.code.now c.args.starts.now c.mark_entered.new.marks c.mark_starts.new.marks c.turn_all-some.new.draft c.turn_all-some.new.gone c.turn_all-some.result c.requires.lawful c.requires.starts c.mark_entered.ensures c.mark_starts.ensures c.turn_all-some.ensures
          c.deref.result.now l c.if-not-some.false c.in_ok-next.next.code.items c.in_ok-next.ensures.code,
      turned-list c.args.code.now c.args.starts.now c.mark_entered.new.marks c.mark_starts.new.marks c.turn_all-some.new.draft c.turn_all-some.new.gone c.turn_all-some.result c.requires.lawful c.requires.starts c.mark_entered.ensures c.mark_starts.ensures c.turn_all-some.ensures
          c.in_ok-next.next.code.items c.in_ok-next.ensures.code,
    )

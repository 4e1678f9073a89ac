use Rattle.std.proofs.Common.{Some, subst}
use Rattle.uc_peep.proofs.Peeps.{kept-refl, kept-trans}
use Rattle.uc_peep.specs.Becomes.{IsKept}
use Rattle.uc_peep_facts.specs.Turned.{HasNoTurnable, IsTurned}
use Rattle.uc_peep_facts.specs.Turned.IsTurned.{InTurn}
use Rattle.uc_peep_facts.specs.inner.Pairs.{IsTurn}
use Rattle.uc_peep_facts.proofs.Turning.{turned-itself}
use Rattle.uc_peep_facts.proofs.branches.turned_list.Goals as goal

pub rounds-init : goal.rounds-init
rounds-init c = (kept-refl c.args.code.items c.args.starts.items c.requires.lawful c.requires.starts, turned-itself c.args.code.items)

pub rounds-preserved : goal.rounds-preserved
rounds-preserved c =
    let h : IsTurn c.deref.result.now c.deref-in-rounds.result.now (Some c.in-Some.next) = subst (λ o. IsTurn c.deref.result.now c.deref-in-rounds.result.now o) c.in-Some.is c.in_ok-next.ensures in (
      kept-trans c.args.code.items c.rounds.now.code.items c.in-Some.next.code.items c.args.starts.items c.rounds.now.starts.items c.in-Some.next.starts.items c.rounds.invariant.0
          (subst (λ l. IsKept l c.rounds.now.starts.items c.in-Some.next.code.items c.in-Some.next.starts.items) c.deref.ensures.value
          (subst (λ l. IsKept c.deref.result.now l c.in-Some.next.code.items c.in-Some.next.starts.items) c.deref-in-rounds.ensures.value h.0)),
      InTurn c.args.code.items c.rounds.now.code.items c.in-Some.next.code.items c.rounds.invariant.1 (subst (λ l. IsTurned l c.in-Some.next.code.items) c.deref.ensures.value h.2),
    )

pub returns-in-None-clause-settled : goal.returns-in-None-clause-settled
returns-in-None-clause-settled c =
    let h : HasNoTurnable c.deref.result.now c.deref-in-rounds.result.now = subst (λ o. IsTurn c.deref.result.now c.deref-in-rounds.result.now o) c.in-None.is c.in_ok-next.ensures in
    subst (λ l. HasNoTurnable l c.rounds.now.starts.items) c.deref.ensures.value (subst (λ l. HasNoTurnable c.deref.result.now l) c.deref-in-rounds.ensures.value h)

use Rattle.std.proofs.Common.{Some, subst}
use Rattle.uc_peep.specs.Becomes.{IsKept, IsRound}
use Rattle.uc_peep.specs.Rewrites.{Rewrites}
use Rattle.uc_peep.specs.Rewrites.Rewrites.{Same, InTurn}
use Rattle.uc_peep.proofs.Peeps.{kept-refl, kept-trans}
use Rattle.uc_peep.proofs.peephole.optimize_list.Goals as goal

pub rounds-init : goal.rounds-init
rounds-init g c = (kept-refl c.args.code.items c.args.starts.items c.requires.lawful c.requires.starts, Same c.args.code.items)

pub rounds-preserved : goal.rounds-preserved
rounds-preserved g c =
    let h : IsRound (g.R.Window.answers c.args.r.now) c.deref.result.now c.deref-in-rounds.result.now (Some c.in-Some.next) = subst (λ o. IsRound (g.R.Window.answers c.args.r.now) c.deref.result.now c.deref-in-rounds.result.now o) c.in-Some.is c.in_ok-next.ensures in (
      kept-trans c.args.code.items c.rounds.now.code.items c.in-Some.next.code.items c.args.starts.items c.rounds.now.starts.items c.in-Some.next.starts.items c.rounds.invariant.0
          (subst (λ l. IsKept l c.rounds.now.starts.items c.in-Some.next.code.items c.in-Some.next.starts.items) c.deref.ensures.value
          (subst (λ l. IsKept c.deref.result.now l c.in-Some.next.code.items c.in-Some.next.starts.items) c.deref-in-rounds.ensures.value h.0)),
      InTurn c.args.code.items c.rounds.now.code.items c.in-Some.next.code.items c.rounds.invariant.1 (subst (λ l. Rewrites (g.R.Window.answers c.args.r.now) l c.in-Some.next.code.items) c.deref.ensures.value h.2),
    )

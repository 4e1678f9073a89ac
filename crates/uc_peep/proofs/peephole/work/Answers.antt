use Rattle.std.proofs.Common.{length, subst}
use Rattle.uc_peep.specs.Draft.{IsDraft, AreSettledFrom}
use Rattle.uc_peep.specs.Kept.{kept_of}
use Rattle.uc_peep.specs.Rewrites.{Rewrites}
use Rattle.uc_peep.proofs.Peeps.{targets-inside, settled-by, kept-round}
use Rattle.uc_peep.proofs.peephole.work.Goals as goal

pub mark_entered-requires-clause-targets : goal.mark_entered-requires-clause-targets
mark_entered-requires-clause-targets g c = targets-inside c.args.code.now (length c.args.entered.now) c.requires.lawful c.requires.size_entered

pub returns-then-not-changed : goal.returns-then-not-changed
returns-then-not-changed g c =
    settled-by (g.R.Window.answers c.args.r.now) c.args.code.now c.args.starts.now c.mark_entered.new.marks c.mark_starts.new.marks c.args.gone.now c.args.sets.now c.requires.lawful c.requires.gone c.mark_entered.ensures c.mark_starts.ensures c.requires.live
    (subst (λ l. AreSettledFrom (g.R.Window.answers c.args.r.now) l c.args.gone.now c.mark_entered.new.marks c.mark_starts.new.marks c.args.sets.now 0) c.requires.draft (c.pass-changed.ensures.settled c.if-not-changed.true))

pub without_gone-requires-clause-draft : goal.without_gone-requires-clause-draft
without_gone-requires-clause-draft g c = subst (λ l. IsDraft l c.args.starts.now c.pass-changed.new.code c.pass-changed.new.gone) c.requires.draft c.pass-changed.ensures.drafted

pub returns : goal.returns
returns g c =
    kept-round c.args.code.now c.args.starts.now c.pass-changed.new.code c.pass-changed.new.gone c.in_ok-next.next.code.items c.in_ok-next.next.starts.items c.requires.starts
    (subst (λ l. IsDraft l c.args.starts.now c.pass-changed.new.code c.pass-changed.new.gone) c.requires.draft c.pass-changed.ensures.drafted)
    c.in_ok-next.ensures.kept
    c.in_ok-next.ensures.code
    (c.pass-changed.ensures.fewer c.if-not-changed.false)
    (g.R.Window.answers c.args.r.now)
    (subst (λ l. Rewrites (g.R.Window.answers c.args.r.now) l (kept_of c.pass-changed.new.gone c.pass-changed.new.code)) c.requires.draft c.pass-changed.ensures.rewritten)

use Rattle.std.proofs.Common.{◌≡◌, ◌-◌, suc, subst, sym, arith}
use Rattle.uc_peep.specs.Draft.{IsPassing}
use Rattle.uc_peep.proofs.Passes.{passing-starts, stopped-passed}
use Rattle.uc_peep.proofs.draft.pass.Goals as goal
use Rattle.uc_peep.proofs.draft.pass.Goals.{in-Stays, in-Changed}

pub loop-p-init : goal.loop-p-init
loop-p-init g c = passing-starts (g.R.Window.answers c.args.r.now) c.args.code.now c.args.starts.now c.args.entered.now c.args.started.now c.args.gone.now c.args.sets.now c.requires.lawful c.requires.marks c.requires.size c.requires.sets c.requires.kept c.requires.closed

pub loop-p-preserved : goal.loop-p-preserved
loop-p-preserved g c =
    let e : c.loop-p.p ≡ suc (c.loop-p.p - 1) = let t = c.loop-p-test.true in omega arith in
    let before = subst (λ n. IsPassing (g.R.Window.answers c.args.r.now) c.args.code.now c.args.starts.now c.args.entered.now c.args.started.now c.args.gone.now c.args.sets.now c.loop-p.code c.loop-p.gone c.loop-p.sets c.loop-p.changed n) e c.loop-p.invariant in
    elim c.match-replace_at.branch [
      | in-Stays w ↦ subst (λ t. IsPassing (g.R.Window.answers c.args.r.now) c.args.code.now c.args.starts.now c.args.entered.now c.args.started.now c.args.gone.now c.args.sets.now c.replace_at.new.code c.replace_at.new.gone c.replace_at.new.sets t (c.loop-p.p - 1)) (sym w.changed-is) (w.in-Stays.ensures c.args.code.now c.args.starts.now c.args.gone.now c.args.sets.now before)
      | in-Changed w ↦ subst (λ t. IsPassing (g.R.Window.answers c.args.r.now) c.args.code.now c.args.starts.now c.args.entered.now c.args.started.now c.args.gone.now c.args.sets.now c.replace_at.new.code c.replace_at.new.gone c.replace_at.new.sets t (c.loop-p.p - 1)) (sym w.changed-is) (w.in-Changed.ensures c.args.code.now c.args.starts.now c.args.gone.now c.args.sets.now before)
    ]

pub returns-in-Stops : goal.returns-in-Stops
returns-in-Stops g c =
    let e : c.loop-p.p ≡ suc (c.loop-p.p - 1) = let t = c.loop-p-test.true in omega arith in
    let h = c.in-Stops.ensures c.args.code.now c.args.starts.now c.args.gone.now c.args.sets.now
    (subst (λ n. IsPassing (g.R.Window.answers c.args.r.now) c.args.code.now c.args.starts.now c.args.entered.now c.args.started.now c.args.gone.now c.args.sets.now c.loop-p.code c.loop-p.gone c.loop-p.sets c.loop-p.changed n) e c.loop-p.invariant) in
    stopped-passed (g.R.Window.answers c.args.r.now) c.args.code.now c.args.starts.now c.args.entered.now c.args.started.now c.args.gone.now c.args.sets.now c.replace_at.new.code c.replace_at.new.gone h.0 h.1 h.2

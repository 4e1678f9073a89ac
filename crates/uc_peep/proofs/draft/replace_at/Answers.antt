use Rattle.std.proofs.Common.{◌+◌, Some, take, drop, sym, subst}
use Rattle.std.specs.Prelude.{slice_index}
use Rattle.uc_peep.specs.Window.{IsShorter}
use Rattle.uc_peep.proofs.Passes.{put-lawful, window-ahead, turn-changes, turn-stops}
use Rattle.uc_peep.proofs.draft.replace_at.Goals as goal

pub refresh-requires-clause-lawful : goal.refresh-requires-clause-lawful
refresh-requires-clause-lawful g c =
    let h = c.in-Some.ensures.some in
    let sh : IsShorter (take c.in-Some.n (drop c.args.p c.args.code.now)) (slice_index c.args.sets.now (c.args.p + c.in-Some.n)) c.as_slice.result.now = subst (λ l. IsShorter (take c.in-Some.n (drop c.args.p c.args.code.now)) (slice_index c.args.sets.now (c.args.p + c.in-Some.n)) l) (sym c.as_slice.ensures) h.2 in
    put-lawful c.args.code.now c.put.new.code c.args.gone.now c.put.new.gone c.args.entered.now c.args.started.now _ c.args.p c.in-Some.n c.as_slice.result.now c.requires.lawful h.1 sh c.put.ensures

pub refresh-requires-clause-ahead : goal.refresh-requires-clause-ahead
refresh-requires-clause-ahead g c =
    let h = c.in-Some.ensures.some in
    let sh : IsShorter (take c.in-Some.n (drop c.args.p c.args.code.now)) (slice_index c.args.sets.now (c.args.p + c.in-Some.n)) c.as_slice.result.now = subst (λ l. IsShorter (take c.in-Some.n (drop c.args.p c.args.code.now)) (slice_index c.args.sets.now (c.args.p + c.in-Some.n)) l) (sym c.as_slice.ensures) h.2 in
    window-ahead c.args.code.now c.put.new.code c.args.gone.now c.put.new.gone c.args.p c.in-Some.n _ c.as_slice.result.now sh c.put.ensures

pub returns-then-refresh : goal.returns-then-refresh
returns-then-refresh g c = λ first starts gone0 sets0 passing.
    let h = c.in-Some.ensures.some in
    let sh : IsShorter (take c.in-Some.n (drop c.args.p c.args.code.now)) (slice_index c.args.sets.now (c.args.p + c.in-Some.n)) c.as_slice.result.now = subst (λ l. IsShorter (take c.in-Some.n (drop c.args.p c.args.code.now)) (slice_index c.args.sets.now (c.args.p + c.in-Some.n)) l) (sym c.as_slice.ensures) h.2 in
    let answer : g.R.Window.answers c.args.r.now (take c.in-Some.n (drop c.args.p c.args.code.now)) (slice_index c.args.sets.now (c.args.p + c.in-Some.n)) (Some c.as_slice.result.now) = subst (λ l. g.R.Window.answers c.args.r.now (take c.in-Some.n (drop c.args.p c.args.code.now)) (slice_index c.args.sets.now (c.args.p + c.in-Some.n)) (Some l)) (sym c.as_slice.ensures) h.3 in
    turn-changes (g.R.Window.answers c.args.r.now) first starts c.args.entered.now c.args.started.now gone0 sets0 c.args.code.now c.put.new.code c.args.gone.now c.put.new.gone c.args.sets.now c.refresh.new.sets c.args.changed c.args.p c.in-Some.n c.as_slice.result.now passing h.0 h.1 sh answer c.put.ensures c.refresh.ensures.refreshed (c.refresh.ensures.within c.if-refresh.true)

pub returns-else-refresh : goal.returns-else-refresh
returns-else-refresh g c = λ first starts gone0 sets0 passing.
    let h = c.in-Some.ensures.some in
    let sh : IsShorter (take c.in-Some.n (drop c.args.p c.args.code.now)) (slice_index c.args.sets.now (c.args.p + c.in-Some.n)) c.as_slice.result.now = subst (λ l. IsShorter (take c.in-Some.n (drop c.args.p c.args.code.now)) (slice_index c.args.sets.now (c.args.p + c.in-Some.n)) l) (sym c.as_slice.ensures) h.2 in
    let answer : g.R.Window.answers c.args.r.now (take c.in-Some.n (drop c.args.p c.args.code.now)) (slice_index c.args.sets.now (c.args.p + c.in-Some.n)) (Some c.as_slice.result.now) = subst (λ l. g.R.Window.answers c.args.r.now (take c.in-Some.n (drop c.args.p c.args.code.now)) (slice_index c.args.sets.now (c.args.p + c.in-Some.n)) (Some l)) (sym c.as_slice.ensures) h.3 in
    turn-stops (g.R.Window.answers c.args.r.now) first starts c.args.entered.now c.args.started.now gone0 sets0 c.args.code.now c.put.new.code c.args.gone.now c.put.new.gone c.args.sets.now c.args.changed c.args.p c.in-Some.n c.as_slice.result.now passing h.0 h.1 sh answer c.put.ensures

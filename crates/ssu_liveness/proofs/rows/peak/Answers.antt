use Rattle.std.proofs.Common.{◌∙◌, ap}
use Rattle.ssu_liveness.specs.LiveRows.{items_of}
use Rattle.ssu_liveness.specs.inner.Live.{longest}
use Rattle.ssu_liveness.proofs.Kept.{longest-is-peak}
use Rattle.ssu_liveness.proofs.rows.peak.Goals as goal

pub returns-in-Ok : goal.returns-in-Ok
returns-in-Ok c =
    let p = longest-is-peak c.args.s.now (items_of c.in_ok-rows.rows.items) c.in_ok-rows.ensures in
    c.in-Ok.ensures.1 ∙ c.longest_row.ensures ∙ ap (λ r. longest (items_of r)) c.deref.ensures.value ∙ p

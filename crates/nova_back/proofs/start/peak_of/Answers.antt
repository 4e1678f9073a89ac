use Rattle.std.proofs.Common.{nat_eq, ap, ◌∙◌}
use Rattle.std.specs.HashMap.{get}
use Rattle.ssu_liveness.specs.LiveRows.{items_of}
use Rattle.ssu_liveness.specs.inner.Live.{longest}
use Rattle.ssu_liveness.proofs.Covering.{longest-of-whole}
use Rattle.nova_back.proofs.start.peak_of.Goals as goal

pub returns : goal.returns
returns c =
    let f = c.args.f.now in
    c.longest_row.ensures ∙ ap (λ r. longest (items_of r)) c.deref.ensures.value ∙ longest-of-whole f.ssu.now (get nat_eq f.copies) (items_of f.live.items) c.requires f.sources f.rows

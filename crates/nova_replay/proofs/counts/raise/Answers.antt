use Rattle.std.proofs.Common.{rules, ◌≡◌, ◌<◌, length, get_or, slice_set, ap, ◌∙◌}
use Rattle.std.proofs.lemmas.List.{get_or_read}
use Rattle.nova_replay.specs.Replaying.{one_more}
use Rattle.nova_replay.proofs.Counting.{set_one_more}
use Rattle.nova_replay.proofs.counts.raise.Goals as goal

pub returns-then-place-len : goal.returns-then-place-len
returns-then-place-len c =
    let old = c.args.counts.now.items in
    let inside : c.args.place < length old = search rules in
    let more : c.saturating_add.result ≡ one_more (get_or old c.args.place 0) = c.saturating_add.ensures ∙ ap one_more (get_or_read old _ _ inside c.index.ensures 0) in
    ap (slice_set old c.args.place) more ∙ set_one_more c.args.place old inside

use Rattle.flow_ir.specs.Substitution.{look}
use Rattle.flow_merge.specs.inner.Numbered.{numbering}
use Rattle.flow_merge.proofs.Walk.{Along, room}
use Rattle.flow_merge.proofs.copying.+copied.Given as goal

abbrev pub invariant-spine : goal.invariant-spine
invariant-spine l =
    Along l.labels (numbering l.plan) l.t l.from (look l.initial.names.items) l.initial.fresh l.cur l.rank (look l.names.items) l.fresh l.saved.items l.steps.items

abbrev pub decreases-spine : goal.decreases-spine
decreases-spine l = room l.labels l.rank l.cur

abbrev pub decreases-copied : goal.decreases-copied
decreases-copied l = room l.labels.now l.from l.t.now

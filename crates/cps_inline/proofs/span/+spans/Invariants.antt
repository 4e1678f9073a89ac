use Rattle.std.proofs.Common.{◌≡◌, ◌+◌, ◌*◌, max, drop}
use Rattle.cps_ir.specs.View.{term_view, label_view, labels_view}
use Rattle.cps_inline.specs.inner.Inlined.{labels_span, weight, labels_weight}
use Rattle.cps_inline.proofs.Along.{Spans}
use Rattle.cps_inline.proofs.span.+spans.Given as goal

abbrev pub invariant-after_term-spine : goal.invariant-after_term-spine
invariant-after_term-spine l = Spans l.t l.least l.cur l.next

abbrev pub decreases-after_term-spine : goal.decreases-after_term-spine
decreases-after_term-spine l = weight (term_view l.cur)

abbrev pub decreases-after_term : goal.decreases-after_term
decreases-after_term l = 2 * weight (term_view l.t.now) + 1

abbrev pub decreases-after_labels : goal.decreases-after_labels
decreases-after_labels l = 2 * labels_weight (labels_view l.conts.now) + 2

abbrev pub decreases-after_label : goal.decreases-after_label
decreases-after_label l = 2 * weight (label_view l.c.now).body + 2

abbrev pub invariant-after_labels-loop-c : goal.invariant-after_labels-loop-c
invariant-after_labels-loop-c l = max l.next (labels_span (labels_view (drop l.c-index l.conts))) ≡ max l.least (labels_span (labels_view l.conts))

use Rattle.std.proofs.Common.{◌+◌, ◌*◌, map, drop}
use Rattle.cps_ir.specs.View.{term_view, label_view, labels_view, fun_view}
use Rattle.cps_inline.specs.inner.Inlined.{entering, counts, context_view, weight, labels_weight, weights}
use Rattle.cps_inline.proofs.Along.{On, InLabels, InCopies}
use Rattle.cps_inline.proofs.copying.+copies.Given as goal

abbrev pub invariant-copy_steps-spine : goal.invariant-copy_steps-spine
invariant-copy_steps-spine l = On (map fun_view l.site.funs.now) (entering (map fun_view l.site.funs.now) l.site.place.now.group) (counts (map fun_view l.site.funs.now) l.site.place.now.group) (context_view l.site.place.now) l.site.base l.t l.initial.fresh l.initial.steps.items l.steps.items l.cur l.fresh

abbrev pub invariant-copy_labels-loop-c : goal.invariant-copy_labels-loop-c
invariant-copy_labels-loop-c l = InLabels (map fun_view l.site.funs.now) (entering (map fun_view l.site.funs.now) l.site.place.now.group) (counts (map fun_view l.site.funs.now) l.site.place.now.group) (context_view l.site.place.now) l.site.base l.conts l.initial.fresh l.v.items (drop l.c-index l.conts) l.fresh

abbrev pub invariant-copy_group-loop-j : goal.invariant-copy_group-loop-j
invariant-copy_group-loop-j l = InCopies (map fun_view l.funs) (entering (map fun_view l.funs) l.place.group) (counts (map fun_view l.funs) l.place.group) (context_view l.place) (fun_view l.f) l.funs l.initial.fresh l.v.items l.j (drop l.j l.funs) l.fresh

-- the loop goes down the term
abbrev pub decreases-copy_steps-spine : goal.decreases-copy_steps-spine
decreases-copy_steps-spine l = weight (term_view l.cur)

-- a group's number first, then the weight of what is copied
abbrev pub decreases-copy_call : goal.decreases-copy_call
decreases-copy_call l = l.site.now.place.now.group * (4 * weights (map fun_view l.site.now.funs.now) + 7)

abbrev pub decreases-copy_steps : goal.decreases-copy_steps
decreases-copy_steps l = l.site.now.place.now.group * (4 * weights (map fun_view l.site.now.funs.now) + 7) + (4 * weight (term_view l.t.now) + 2)

abbrev pub decreases-copy_term : goal.decreases-copy_term
decreases-copy_term l = l.site.now.place.now.group * (4 * weights (map fun_view l.site.now.funs.now) + 7) + (4 * weight (term_view l.t.now) + 3)

abbrev pub decreases-copy_part : goal.decreases-copy_part
decreases-copy_part l = l.site.now.place.now.group * (4 * weights (map fun_view l.site.now.funs.now) + 7) + (4 * weight (term_view l.t.now) + 4)

abbrev pub decreases-copy_first : goal.decreases-copy_first
decreases-copy_first l = l.site.now.place.now.group * (4 * weights (map fun_view l.site.now.funs.now) + 7) + (4 * weight (term_view l.first.now) + 5)

abbrev pub decreases-copy_around : goal.decreases-copy_around
decreases-copy_around l = l.site.now.place.now.group * (4 * weights (map fun_view l.site.now.funs.now) + 7) + (4 * weight (term_view l.rest.now) + 5)

abbrev pub decreases-copy_labels : goal.decreases-copy_labels
decreases-copy_labels l = l.site.now.place.now.group * (4 * weights (map fun_view l.site.now.funs.now) + 7) + (4 * labels_weight (labels_view l.conts.now) + 1)

abbrev pub decreases-copy_several : goal.decreases-copy_several
decreases-copy_several l = l.site.now.place.now.group * (4 * weights (map fun_view l.site.now.funs.now) + 7) + (4 * labels_weight (labels_view l.conts.now) + 2)

abbrev pub decreases-copy_label : goal.decreases-copy_label
decreases-copy_label l = l.site.now.place.now.group * (4 * weights (map fun_view l.site.now.funs.now) + 7) + (4 * weight (label_view l.c.now).body + 4)

abbrev pub decreases-copy_function : goal.decreases-copy_function
decreases-copy_function l = l.place.now.group * (4 * weights (map fun_view l.funs.now) + 7) + (4 * weight (term_view l.g.now.body) + 4)

abbrev pub decreases-copy_group : goal.decreases-copy_group
decreases-copy_group l = l.place.now.group * (4 * weights (map fun_view l.funs.now) + 7) + (4 * weights (map fun_view l.funs.now) + 5)

abbrev pub decreases-enter : goal.decreases-enter
decreases-enter l = l.place.now.group * (4 * weights (map fun_view l.funs.now) + 7) + (4 * weights (map fun_view l.funs.now) + 6)

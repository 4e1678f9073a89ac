use Rattle.std.proofs.Common.{◌++◌, ◌∷◌, [], map, ap, ◌∙◌}
use Rattle.cps_ir.specs.View.{term_view, label_view}
use Rattle.cps_close.specs.inner.Pending.{part_view}
use Rattle.cps_close.proofs.Opening.{pushed, pending-term, less-term, less-label, found-label}
use Rattle.cps_close.proofs.collect.labels_in.Goals as goal

pub loop-part-smaller-in-Continue-branch-2 : goal.loop-part-smaller-in-Continue-branch-2
loop-part-smaller-in-Continue-branch-2 c =
    less-term (map part_view c.loop-part.pending.items) (map part_view c.pop.new.self.items) (map part_view c.expand.new.pending.items) (term_view c.in-Term.t.now)
    (pushed c.pop.new.self.items c.loop-part.pending.items c.in-Some.part c.in-Some.ensures.items ∙ ap (λ p. map part_view c.pop.new.self.items ++ part_view p ∷ []) c.in-Term.is) c.in_ok-expand-in-Term.ensures

pub loop-part-preserved-in-Continue-branch-2 : goal.loop-part-preserved-in-Continue-branch-2
loop-part-preserved-in-Continue-branch-2 c =
    ap (λ l. map (λ d. label_view d.now) c.loop-part.found.items ++ l)
    (pending-term (map part_view c.loop-part.pending.items) (map part_view c.pop.new.self.items) (map part_view c.expand.new.pending.items) (term_view c.in-Term.t.now)
    (pushed c.pop.new.self.items c.loop-part.pending.items c.in-Some.part c.in-Some.ensures.items ∙ ap (λ p. map part_view c.pop.new.self.items ++ part_view p ∷ []) c.in-Term.is) c.in_ok-expand-in-Term.ensures)
    ∙ c.loop-part.invariant

pub loop-part-smaller : goal.loop-part-smaller
loop-part-smaller c =
    less-label (map part_view c.loop-part.pending.items) (map part_view c.pop.new.self.items) (label_view c.in-Label.c.now)
    (pushed c.pop.new.self.items c.loop-part.pending.items c.in-Some.part c.in-Some.ensures.items ∙ ap (λ p. map part_view c.pop.new.self.items ++ part_view p ∷ []) c.in-Label.is)

pub loop-part-preserved : goal.loop-part-preserved
loop-part-preserved c =
    found-label c.loop-part.found.items c.push-in-Label.new.self.items c.in-Label.c (map part_view c.loop-part.pending.items) (map part_view c.pop.new.self.items) c.in_ok-push-in-Label.ensures.items
    (pushed c.pop.new.self.items c.loop-part.pending.items c.in-Some.part c.in-Some.ensures.items ∙ ap (λ p. map part_view c.pop.new.self.items ++ part_view p ∷ []) c.in-Label.is)
    ∙ c.loop-part.invariant

use Rattle.std.proofs.Common.{◌≡◌, ◌<◌, [], ◌∷◌, ap, subst, sym, ◌∙◌}
use Rattle.std.proofs.lemmas.List.{nil_from_length}
use Rattle.flow_ir.specs.View.{tree_view}
use Rattle.ssu_make.specs.inner.Making.{counted, tops}
use Rattle.ssu_make.proofs.Along.{Surveys, weights}
use Rattle.ssu_make.proofs.Turns.{tops-last, surveys-start, surveys-step, surveys-less, surveys-end}
use Rattle.ssu_make.proofs.bases.survey.Goals as goal

pub loop-s-init : goal.loop-s-init
loop-s-init c =
    let t = tree_view c.args.t.now in
    let e : tops c.push.new.self.items ≡ t ∷ [] = ap tops c.in_ok-push.ensures.items ∙ tops-last c.new-work.result.items c.args.t ∙ ap (λ l. t ∷ tops l) c.new-work.ensures.items in
    subst (λ w. Surveys t c.args.found.now.items w (counted c.new-counts.result) c.args.found.now.items) (sym e) (surveys-start t c.args.found.now.items (counted c.new-counts.result) c.new-counts.ensures)

pub loop-s-smaller : goal.loop-s-smaller
loop-s-smaller c =
    let e : tops c.loop-s.work.items ≡ tree_view c.in-Some.s.now ∷ tops c.pop.new.self.items = ap tops c.in-Some.ensures.items ∙ tops-last c.pop.new.self.items c.in-Some.s in
    subst (λ l. weights (tops c.survey_node.new.work.items) < weights l) (sym e) (surveys-less (tree_view c.in-Some.s.now) (tops c.pop.new.self.items) (tops c.survey_node.new.work.items) c.in_ok-survey_node.ensures.work)

pub loop-s-preserved : goal.loop-s-preserved
loop-s-preserved c =
    let t = tree_view c.args.t.now in
    let s = tree_view c.in-Some.s.now in
    let e : tops c.loop-s.work.items ≡ s ∷ tops c.pop.new.self.items = ap tops c.in-Some.ensures.items ∙ tops-last c.pop.new.self.items c.in-Some.s in
    surveys-step t c.args.found.now.items s (tops c.pop.new.self.items) (tops c.survey_node.new.work.items) (counted c.loop-s.counts) (counted c.survey_node.new.counts) c.loop-s.found.items c.survey_node.new.found.items
    (subst (λ l. Surveys t c.args.found.now.items l (counted c.loop-s.counts) c.loop-s.found.items) e c.loop-s.invariant) c.in_ok-survey_node.ensures.work c.in_ok-survey_node.ensures.counts c.in_ok-survey_node.ensures.found

pub returns-clause-counts : goal.returns-clause-counts
returns-clause-counts c =
    let t = tree_view c.args.t.now in
    let none : c.loop-s.work.items ≡ [] = nil_from_length c.loop-s.work.items (sym c.loop-s.work.ok.0 ∙ c.in_default.ensures.cases.0) in
    (surveys-end t c.args.found.now.items (counted c.loop-s.counts) c.loop-s.found.items (subst (λ l. Surveys t c.args.found.now.items (tops l) (counted c.loop-s.counts) c.loop-s.found.items) none c.loop-s.invariant)).0

pub returns-clause-found : goal.returns-clause-found
returns-clause-found c =
    let t = tree_view c.args.t.now in
    let none : c.loop-s.work.items ≡ [] = nil_from_length c.loop-s.work.items (sym c.loop-s.work.ok.0 ∙ c.in_default.ensures.cases.0) in
    (surveys-end t c.args.found.now.items (counted c.loop-s.counts) c.loop-s.found.items (subst (λ l. Surveys t c.args.found.now.items (tops l) (counted c.loop-s.counts) c.loop-s.found.items) none c.loop-s.invariant)).1

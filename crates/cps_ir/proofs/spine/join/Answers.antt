use Rattle.std.proofs.Common.{◌≡◌, [], sym, ap, ◌∙◌}
use Rattle.std.proofs.lemmas.List.{nil_from_length}
use Rattle.cps_ir.specs.View.{term_view}
use Rattle.cps_ir.specs.Spine.{put_all}
use Rattle.cps_ir.proofs.Steps.{put_last}
use Rattle.cps_ir.proofs.spine.join.Goals as goal

pub loop-s-preserved : goal.loop-s-preserved
loop-s-preserved c = put_last _ _ c.in-Some.s _ _ c.in-Some.ensures.items c.in_ok-t.ensures ∙ c.loop-s.invariant

pub returns : goal.returns
returns c =
    let e : c.loop-s.steps.items ≡ [] = nil_from_length c.loop-s.steps.items (sym c.loop-s.steps.ok.0 ∙ c.in_default.ensures.cases.0) in
    ap (λ l. put_all l (term_view c.loop-s.t)) (sym e) ∙ c.loop-s.invariant

use Rattle.std.proofs.Common.{◌≡◌, [], refl, sym, ap, subst, ◌∙◌}
use Rattle.std.proofs.lemmas.List.{nil_from_length}
use Rattle.flat_ir.specs.Meaning.{does}
use Rattle.flat_ir.specs.Spine.{steps_do, AreNodes}
use Rattle.flat_ir.proofs.Steps.{joined_more, nodes_more}
use Rattle.flat_ir.proofs.spine.join.Goals as goal

pub loop-s-preserved : goal.loop-s-preserved
loop-s-preserved c = record {
  same = λ call. joined_more _ _ c.in-Some.s c.loop-s.t c.in_ok-t.t call c.in-Some.ensures.items c.in_ok-t.ensures ∙ c.loop-s.invariant.same call;
  nodes = λ w h. c.loop-s.invariant.nodes w (nodes_more _ _ c.in-Some.s c.loop-s.t c.in_ok-t.t w c.in-Some.ensures.items c.in_ok-t.ensures h);
}

pub returns : goal.returns
returns c =
    let e : c.loop-s.steps.items ≡ [] = nil_from_length c.loop-s.steps.items (sym c.loop-s.steps.ok.0 ∙ c.in_default.ensures.cases.0) in
    record {
      by = λ call. ap (λ l. steps_do call l (does call c.loop-s.t)) (sym e) ∙ c.loop-s.invariant.same call;
      nodes = c.loop-s.invariant.nodes c.loop-s.t (subst (λ l. AreNodes l c.loop-s.t c.loop-s.t) (sym e) refl);
    }

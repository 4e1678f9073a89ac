use Rattle.std.proofs.Common.{rules, List, refl}
use Rattle.std.proofs.lemmas.List.Sorted.{answers_always}
use Rattle.place_plan.specs.declared.place.Pass.{Pass}
use Rattle.place_plan.specs.Plan.{pass_in}
use Rattle.place_plan.proofs.Searched.{found-at, found-nowhere}
use Rattle.place_plan.proofs.lookups.pass_among.Goals as goal

-- the closure gives a pass's point
pub returns-in-Ok : goal.returns-in-Ok
returns-in-Ok c =
    let by_point = c.in-Ok.ensures.position (λ q. q.point) (answers_always _ _ _ (λ f a r g called. search rules)) in
    found-at (λ (q : Pass). q.point) (λ (l : List Pass). pass_in l c.args.k) c.args.k (λ q. q) (λ q l. refl) c.args.passes.now c.requires c.in-Ok.i _ c.in-Ok.ensures.bound by_point

pub returns-in-Err : goal.returns-in-Err
returns-in-Err c =
    let by_point = c.in-Err.ensures.position (λ q. q.point) (answers_always _ _ _ (λ f a r g called. search rules)) in
    found-nowhere (λ (q : Pass). q.point) (λ (l : List Pass). pass_in l c.args.k) c.args.k (λ q. q) (λ q l. refl) c.args.passes.now c.requires c.in-Err.field-0 by_point

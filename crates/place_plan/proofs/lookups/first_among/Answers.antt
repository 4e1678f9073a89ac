use Rattle.std.proofs.Common.{rules, List, refl}
use Rattle.std.proofs.lemmas.List.Sorted.{answers_always}
use Rattle.place_plan.specs.declared.place.First.{First}
use Rattle.place_plan.specs.Plan.{first_in}
use Rattle.place_plan.proofs.Searched.{found-at, found-nowhere}
use Rattle.place_plan.proofs.lookups.first_among.Goals as goal

-- the closure gives an access's point
pub returns-in-Ok : goal.returns-in-Ok
returns-in-Ok c =
    let by_point = c.in-Ok.ensures.position (λ f. f.point) (answers_always _ _ _ (λ f a r g called. search rules)) in
    found-at (λ (f : First). f.point) (λ (l : List First). first_in l c.args.k) c.args.k (λ f. f.first) (λ f l. refl) c.args.firsts.now c.requires c.in-Ok.i _ c.in-Ok.ensures.bound by_point

pub returns-in-Err : goal.returns-in-Err
returns-in-Err c =
    let by_point = c.in-Err.ensures.position (λ f. f.point) (answers_always _ _ _ (λ f a r g called. search rules)) in
    found-nowhere (λ (f : First). f.point) (λ (l : List First). first_in l c.args.k) c.args.k (λ f. f.first) (λ f l. refl) c.args.firsts.now c.requires c.in-Err.field-0 by_point

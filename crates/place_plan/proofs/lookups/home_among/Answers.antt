use Rattle.std.proofs.Common.{rules, true, List, map, refl, sym, ap, ◌∙◌, subst}
use Rattle.std.proofs.lemmas.List.Sorted.{answers_always}
use Rattle.nv_base.specs.Sets.{is_in}
use Rattle.place_plan.specs.declared.place.Home.{Home}
use Rattle.place_plan.specs.Fits.{Rises}
use Rattle.place_plan.specs.Plan.{home_in, home_view}
use Rattle.place_plan.proofs.Searched.{home-vars, listed, found-at, found-nowhere}
use Rattle.place_plan.proofs.lookups.home_among.Goals as goal

-- the closure gives a home's variable
pub returns-in-Ok-clause-home : goal.returns-in-Ok-clause-home
returns-in-Ok-clause-home c =
    let by_var = c.in-Ok.ensures.position (λ h. h.var) (answers_always _ _ _ (λ f a r g called. search rules)) in
    let rise = subst Rises (home-vars c.args.homes.now) c.requires in
    found-at (λ (h : Home). h.var) (λ (l : List Home). home_in (map home_view l) c.args.x) c.args.x home_view (λ h l. refl) c.args.homes.now rise c.in-Ok.i c.index-homes-i.result c.in-Ok.ensures.bound by_var ∙ ap home_view (sym c.index-homes-i.is)

pub returns-in-Ok-clause-there : goal.returns-in-Ok-clause-there
returns-in-Ok-clause-there c =
    let by_var = c.in-Ok.ensures.position (λ h. h.var) (answers_always _ _ _ (λ f a r g called. search rules)) in
    let rise = subst Rises (home-vars c.args.homes.now) c.requires in
    found-at (λ (h : Home). h.var) (λ (l : List Home). is_in c.args.x (map (λ h. h.var) (map home_view l))) c.args.x (λ h. true) (listed c.args.x) c.args.homes.now rise c.in-Ok.i c.index-homes-i.result c.in-Ok.ensures.bound by_var

pub returns-in-Err-clause-home : goal.returns-in-Err-clause-home
returns-in-Err-clause-home c =
    let by_var = c.in-Err.ensures.position (λ h. h.var) (answers_always _ _ _ (λ f a r g called. search rules)) in
    let rise = subst Rises (home-vars c.args.homes.now) c.requires in
    found-nowhere (λ (h : Home). h.var) (λ (l : List Home). home_in (map home_view l) c.args.x) c.args.x home_view (λ h l. refl) c.args.homes.now rise c.in-Err.field-0 by_var

pub returns-in-Err-clause-there : goal.returns-in-Err-clause-there
returns-in-Err-clause-there c =
    let by_var = c.in-Err.ensures.position (λ h. h.var) (answers_always _ _ _ (λ f a r g called. search rules)) in
    let rise = subst Rises (home-vars c.args.homes.now) c.requires in
    found-nowhere (λ (h : Home). h.var) (λ (l : List Home). is_in c.args.x (map (λ h. h.var) (map home_view l))) c.args.x (λ h. true) (listed c.args.x) c.args.homes.now rise c.in-Err.field-0 by_var

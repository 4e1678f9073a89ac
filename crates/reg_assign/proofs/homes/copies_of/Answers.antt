use Rattle.std.proofs.Common.{List, ◌++◌, ap, map, ◌∙◌}
use Rattle.place_plan.specs.declared.place.Place.{Place}
use Rattle.place_plan.specs.inner.UseViews.{use_view}
use Rattle.bank_prog_form.specs.declared.column.Bank.TheVariants.{A}
use Rattle.reg_assign_reading.specs.ReadOff.{fill_at}
use Rattle.reg_assign.specs.inner.AssignmentInputs.{labels_in, says_in, numbers_in}
use Rattle.reg_assign.proofs.Placed.{copies-made}
use Rattle.reg_assign.proofs.homes.copies_of.Goals as goal

pub returns : goal.returns
returns c =
    let on = says_in c.args.g.now in
    let numbers = numbers_in c.args.g.now in
    copies-made (labels_in c.args.g.now) on numbers c.args.x c.push_fill.new.out.items c.push_fill-2.new.out.items c.push_fill-3.new.out.items c.push_words.new.out.items (map use_view c.uses_of.result.now)
    (c.in_ok-push_fill.ensures ∙ ap (λ (l : List Place). l ++ fill_at on numbers c.args.x A) c.new-copied.ensures.items) c.in_ok-push_fill-2.ensures c.in_ok-push_fill-3.ensures c.uses_of.ensures c.in_ok-push_words.ensures

use Rattle.std.proofs.Common.{◌≡◌, true, ◌||◌, sym, ap, ◌∙◌}
use Rattle.std.specs.Prelude.{is_some}
use Rattle.bank_prog_form.specs.Rows.{is_written}
use Rattle.place_plan.specs.declared.uses.Role.{Role}
use Rattle.place_plan.specs.inner.UseViews.{role_view, use_view}
use Rattle.reg_assign_reading.specs.inner.Reading.{says}
use Rattle.reg_assign_reading.proofs.Readings.{dir_first, ear_first, early-written}
use Rattle.reg_assign_reading.proofs.reading.Reading.goes_early.Goals as goal

pub returns-then-is_some : goal.returns-then-is_some
returns-then-is_some c =
    let on = says c.args.self.now in
    let u = use_view c.args.u in
    let written : is_written u.role ≡ true = ap (λ (r : Role). is_written (role_view r)) c.in-Written.is in
    let first : c.is_some.result ≡ is_some (dir_first on u) = c.is_some.ensures ∙ ap is_some c.first_on.ensures in
    c.if-is_some.true ∙ ap (λ b. b || is_some (ear_first on u)) (sym c.if-is_some.true ∙ first) ∙ early-written on u written

pub returns-else-is_some : goal.returns-else-is_some
returns-else-is_some c =
    let on = says c.args.self.now in
    let u = use_view c.args.u in
    let written : is_written u.role ≡ true = ap (λ (r : Role). is_written (role_view r)) c.in-Written.is in
    let first : c.is_some.result ≡ is_some (dir_first on u) = c.is_some.ensures ∙ ap is_some c.first_on.ensures in
    c.is_some-else-is_some.ensures ∙ ap is_some c.first_on-else-is_some.ensures ∙ ap (λ b. b || is_some (ear_first on u)) (sym c.if-is_some.false ∙ first) ∙ early-written on u written

use Rattle.std.proofs.Common.{◌≡◌, ◌≤◌, ◌^◌, ◌⊎◌, ℕ, length, ap, subst, inl, inr, ◌∙◌, arith}
use Rattle.std.specs.Prelude.{Err}
use Rattle.std.proofs.lemmas.Result.{err_from_is_err_and}
use Rattle.ssu_ir.specs.declared.ssu.Ssu.{Ssu}
use Rattle.ssu_ir.specs.Measures.{code_bound, peak}
use Rattle.ssu_ir.specs.Single.{single}
use Rattle.ssu_ir.specs.View.{labels_view}
use Rattle.zo_model.specs.Program.{vector}
use Rattle.bank_prog_form.specs.Columns.{columns}
use Rattle.bank_prog_form.specs.Program.{rows, IsTooLarge}
use Rattle.nova_back.specs.Causes.{IsCodeBy, IsCodeOf, AreStartsOf, IsReportOn, IsCheapFor, report_cost}
use Rattle.nova_back.specs.Placed.{IsPlacedBy}
use Rattle.nova_back.specs.inner.Search.{IsUnfound}
use Rattle.nova_back.specs.declared.error.BackError.TheVariants as back
use Rattle.nova_back.proofs.Reported.{choice-of-report, code-by, light_by}
use Rattle.nova_back.proofs.Unmade.{caused, told, unfound-caused}
use Rattle.nova_back.proofs.built.back_within.Goals as goal

pub choice_of-requires-clause-single : goal.choice_of-requires-clause-single
choice_of-requires-clause-single c = ap (λ (t : Ssu). single (labels_view t)) c.in_ok-bank.ensures.form ∙ c.requires.single

pub code_of-requires-clause-single : goal.code_of-requires-clause-single
code_of-requires-clause-single c = ap (λ (t : Ssu). single (labels_view t)) c.in_ok-bank.ensures.form ∙ c.requires.single

pub code_of-requires-clause-choice : goal.code_of-requires-clause-choice
code_of-requires-clause-choice c =
    let r = c.in_ok-report.ensures.chosen in
    choice-of-report (labels_view c.in_ok-bank.bank.form.ssu.now) c.args.slots c.args.w.now c.args.budget c.in_ok-report.report r.on_form.report r.found

-- ---- what the tables of the form that was passed say of it

pub returns-clause-code : goal.returns-clause-code
returns-clause-code c = subst (λ (t : Ssu). IsCodeOf (labels_view t) c.args.slots c.in_ok-emitted.emitted.code) c.in_ok-bank.ensures.form c.in_ok-emitted.ensures.code

pub returns-clause-starts : goal.returns-clause-starts
returns-clause-starts c = subst (λ (t : Ssu). AreStartsOf (labels_view t) c.in_ok-emitted.emitted.code c.in_ok-emitted.emitted.starts.items) c.in_ok-bank.ensures.form c.in_ok-emitted.ensures.starts

pub returns-clause-brief : goal.returns-clause-brief
returns-clause-brief c = subst (λ (t : Ssu). length c.in_ok-emitted.emitted.code.list ≤ code_bound (labels_view t)) c.in_ok-bank.ensures.form c.in_ok-emitted.ensures.short

pub returns-clause-report : goal.returns-clause-report
returns-clause-report c = subst (λ (t : Ssu). IsReportOn (labels_view t) c.args.slots c.args.w.now c.args.budget c.in_ok-report.report) c.in_ok-bank.ensures.form c.in_ok-report.ensures.chosen.on_form.report

pub returns-clause-placed : goal.returns-clause-placed
returns-clause-placed c = subst (λ (t : Ssu). IsPlacedBy (labels_view t) c.args.slots (vector c.in_ok-report.report.x.on.items) c.in_ok-emitted.emitted.code.list) c.in_ok-bank.ensures.form c.in_ok-emitted.ensures.placed

pub returns-clause-light : goal.returns-clause-light
returns-clause-light c =
    light_by (labels_view c.in_ok-bank.bank.form.ssu.now) c.args.slots c.args.w.now c.args.budget c.in_ok-report.report c.in_ok-emitted.emitted.code c.in_ok-emitted.emitted.starts.items c.in_ok-report.ensures.chosen c.in_ok-emitted.ensures.light

pub returns-clause-cheap : goal.returns-clause-cheap
returns-clause-cheap c =
    subst (λ (t : Ssu). peak (labels_view t) ≤ 15 → IsCheapFor (labels_view t) c.args.w.now (report_cost c.in_ok-report.report)) c.in_ok-bank.ensures.form
    (λ p. c.in_ok-report.ensures.chosen.on_form.cheap p c.in_ok-report.ensures.chosen.found)

pub returns-clause-few : goal.returns-clause-few
returns-clause-few c = subst (λ (t : Ssu). length (columns (labels_view t)) ≤ 2 ^ 26) c.in_ok-bank.ensures.form c.in_ok-bank.bank.few

pub returns-clause-few_rows : goal.returns-clause-few_rows
returns-clause-few_rows c = subst (λ (t : Ssu). length (rows (labels_view t) c.args.slots) ≤ 2 ^ 26) c.in_ok-bank.ensures.form c.in_ok-report.ensures.few_rows

pub returns-clause-only_large : goal.returns-clause-only_large
returns-clause-only_large c = subst (λ (t : Ssu). (n : ℕ) → IsTooLarge (labels_view t) c.args.slots n → ⊥) c.in_ok-bank.ensures.form c.in_ok-report.ensures.only_large

-- ---- refusals

pub returns-in_err-bank-clause-refused : goal.returns-in_err-bank-clause-refused
returns-in_err-bank-clause-refused c =
    let p = err_from_is_err_and c.from_residual.result c.from_residual.ensures.1 in
    rw (p.1, p.2) (caused (labels_view c.args.s) c.args.slots c.args.w.now c.args.budget c.args.store c.in_err-bank.field-0.0 c.requires.single (λ n e. inl (c.in_err-bank.ensures.many n (ap Err e))))

pub returns-in_err-bank-clause-only_large : goal.returns-in_err-bank-clause-only_large
returns-in_err-bank-clause-only_large c =
    let p = err_from_is_err_and c.from_residual.result c.from_residual.ensures.1 in
    rw (p.1, p.2) (told (labels_view c.args.s) c.args.slots c.in_err-bank.field-0.0 (λ n e. inl (c.in_err-bank.ensures.many n (ap Err e))))

pub returns-in_err-report-clause-refused : goal.returns-in_err-report-clause-refused
returns-in_err-report-clause-refused c =
    let p = err_from_is_err_and c.from_residual-in_err-report.result c.from_residual-in_err-report.ensures.1 in
    rw (p.1, p.2) (unfound-caused (labels_view c.args.s) c.args.slots c.args.w.now c.args.budget c.args.store c.in_err-report.field-0.0
    (subst (λ (t : Ssu). IsUnfound (labels_view t) c.args.slots c.args.w.now c.args.budget c.in_err-report.field-0.0) c.in_ok-bank.ensures.form c.in_err-report.ensures.refused))

pub returns-in_err-report-clause-only_large : goal.returns-in_err-report-clause-only_large
returns-in_err-report-clause-only_large c =
    let p = err_from_is_err_and c.from_residual-in_err-report.result c.from_residual-in_err-report.ensures.1 in
    let e = c.in_err-report.field-0.0 in
    rw (p.1, p.2) (subst (λ (t : Ssu). (n : ℕ) → IsTooLarge (labels_view t) c.args.slots n → (e ≡ back.NoMemory) ⊎ (e ≡ back.TooLarge n)) c.in_ok-bank.ensures.form c.in_err-report.ensures.only_large)

pub returns-then-instructions-store-clause-refused : goal.returns-then-instructions-store-clause-refused
returns-then-instructions-store-clause-refused g =
    let labels = labels_view g.in_ok-bank.bank.form.ssu.now in
    let report = g.in_ok-report.report in
    let code = g.in_ok-emitted.ensures in
    let same = ap (λ l. length l) g.list-instructions.ensures.list in
    let brief = subst (λ (t : Ssu). length g.in_ok-emitted.emitted.code.list ≤ code_bound (labels_view t)) g.in_ok-bank.ensures.form code.short in
    inr (record {
      r = report;
      c = g.in_ok-emitted.emitted.code;
      starts = g.in_ok-emitted.emitted.starts.items;
      code = subst (λ (t : Ssu). IsCodeBy (labels_view t) g.args.slots g.args.w.now g.args.budget report g.in_ok-emitted.emitted.code g.in_ok-emitted.emitted.starts.items) g.in_ok-bank.ensures.form
          (code-by labels g.args.slots g.args.w.now g.args.budget report g.in_ok-emitted.emitted.code g.in_ok-emitted.emitted.starts.items g.in_ok-report.ensures.chosen code.code code.starts (code.light g.args.w.now));
      placed = subst (λ (t : Ssu). IsPlacedBy (labels_view t) g.args.slots (vector report.x.on.items) g.in_ok-emitted.emitted.code.list) g.in_ok-bank.ensures.form code.placed;
      counted = same;
      bounded = omega (arith, same, brief);
      long = omega (arith, g.if-instructions-store.true);
    })

pub returns-then-instructions-store-clause-only_large : goal.returns-then-instructions-store-clause-only_large
returns-then-instructions-store-clause-only_large g = λ n large.
    absurd (subst (λ (t : Ssu). (m : ℕ) → IsTooLarge (labels_view t) g.args.slots m → ⊥) g.in_ok-bank.ensures.form g.in_ok-report.ensures.only_large n large)

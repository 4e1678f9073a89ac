use Rattle.std.proofs.Common.{◌≡◌, ◌≤◌, ◌^◌, ◌∙◌, length, ap, subst}
use Rattle.std.proofs.lemmas.Result.{IfOk-weaker}
use Rattle.ssu_ir.specs.declared.ssu.Ssu.{Ssu}
use Rattle.ssu_ir.specs.Single.{single}
use Rattle.ssu_ir.specs.View.{labels_view}
use Rattle.zo_model.specs.declared.program.ZeroOne.{ZeroOne}
use Rattle.zo_model.specs.Contents.{contents}
use Rattle.zo_model.specs.Program.{IsValid}
use Rattle.bank_prog_form.specs.Columns.{columns}
use Rattle.bank_prog_form.specs.Program.{rows, IsTooLarge}
use Rattle.bank_prog.specs.Weighted.{weighted_program}
use Rattle.bank_prog.proofs.program.build.Goals as goal

pub program_of-requires-clause-single : goal.program_of-requires-clause-single
program_of-requires-clause-single c = ap (λ (u : Ssu). single (labels_view u)) c.in_ok-t.ensures.form ∙ c.requires.single

pub returns-clause-program : goal.returns-clause-program
returns-clause-program c =
    IfOk-weaker c.program_of.result (λ (z : ZeroOne). contents z ≡ weighted_program (labels_view c.in_ok-t.t.form.ssu.now) c.args.slots c.args.w.now) (λ (z : ZeroOne). contents z ≡ weighted_program (labels_view c.args.s.now) c.args.slots c.args.w.now)
    (λ z e. e ∙ ap (λ (u : Ssu). weighted_program (labels_view u) c.args.slots c.args.w.now) c.in_ok-t.ensures.form) c.program_of.ensures.program

pub returns-clause-few : goal.returns-clause-few
returns-clause-few c =
    IfOk-weaker c.program_of.result IsValid (λ (z : ZeroOne). length (columns (labels_view c.args.s.now)) ≤ 2 ^ 26)
    (λ z v. subst (λ (u : Ssu). length (columns (labels_view u)) ≤ 2 ^ 26) c.in_ok-t.ensures.form c.in_ok-t.t.few) c.program_of.ensures.valid

pub returns-clause-rows : goal.returns-clause-rows
returns-clause-rows c =
    IfOk-weaker c.program_of.result (λ (z : ZeroOne). length (rows (labels_view c.in_ok-t.t.form.ssu.now) c.args.slots) ≤ 2 ^ 26) (λ (z : ZeroOne). length (rows (labels_view c.args.s.now) c.args.slots) ≤ 2 ^ 26)
    (λ z l. subst (λ (u : Ssu). length (rows (labels_view u) c.args.slots) ≤ 2 ^ 26) c.in_ok-t.ensures.form l) c.program_of.ensures.rows

pub returns-clause-many : goal.returns-clause-many
returns-clause-many c = λ n e. subst (λ (u : Ssu). IsTooLarge (labels_view u) c.args.slots n) c.in_ok-t.ensures.form (c.program_of.ensures.many n e)

use Rattle.std.proofs.Common.{◌∙◌, ap, sym, None, Some, if◌then◌else◌, map, take, get_or, arith}
use Rattle.std.proofs.lemmas.List.{map_more}
use Rattle.bank_prog_form.specs.declared.column.Column.TheVariants.{Def}
use Rattle.bank_prog_form.specs.declared.column.Bank.TheVariants.{A}
use Rattle.bank_prog_form.specs.Columns.{Priced}
use Rattle.bank_prog_form.specs.Program.{same_column, number_in}
use Rattle.bank_prog_form.specs.inner.Adds.{either}
use Rattle.bank_prog_form.proofs.Keys.{number-more}
use Rattle.bank_prog_form.proofs.Loops.{length-taken}
use Rattle.bank_prog_form.proofs.numbers.number_columns.Goals as goal

pub loop-j-preserved : goal.loop-j-preserved
loop-j-preserved c = λ d.
    let xs = c.args.columns.now in
    let j = c.loop-j.j in
    let e : Priced = get_or xs j (Def 0 A, 0) in
    let before = map (λ (x : Priced). x.0) (take j xs) in
    c.in_ok-note.ensures d ∙ ap (λ o. either o (if same_column e.0 d then Some j else None)) (c.loop-j.invariant d)
    ∙ sym (number-more 0 before e.0 d j (omega (arith, length-taken (λ (x : Priced). x.0) j xs (omega arith))))
    ∙ ap (λ cs. number_in 0 cs d) (sym (map_more (λ (x : Priced). x.0) xs j (Def 0 A, 0) (omega arith)))

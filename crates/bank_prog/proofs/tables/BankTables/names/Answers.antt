use Rattle.std.proofs.Common.{◌≡◌, ◌∙◌, List, ap, map}
use Rattle.std.proofs.lemmas.Result.{IfOk-weaker}
use Rattle.std.specs.declared.vec.Vec.{Vec}
use Rattle.std.specs.declared.alloc.Global.{Global}
use Rattle.ssu_ir.specs.View.{labels_view}
use Rattle.bank_prog_form.specs.declared.column.Column.{Column}
use Rattle.bank_prog_form.specs.Columns.{Priced, columns}
use Rattle.bank_prog.proofs.tables.BankTables.names.Goals as goal

pub returns : goal.returns
returns c =
    let t = c.args.self.now in
    let labels = labels_view t.form.ssu.now in
    let given : List Priced = c.deref.result.now in
    IfOk-weaker c.names_of.result (λ (v : Vec Column Global). v.items ≡ map (λ (p : Priced). p.0) given) (λ (v : Vec Column Global). v.items ≡ columns labels)
    (λ v e. e ∙ ap (map (λ (p : Priced). p.0)) (c.deref.ensures.value ∙ t.in_order)) c.names_of.ensures

use Rattle.std.proofs.Common.{◌≡◌, map, length, ap, ◌∙◌}
use Rattle.std.proofs.lemmas.List.{length-map}
use Rattle.std.specs.HashMap.{get}
use Rattle.ssu_ir.specs.View.{labels_view}
use Rattle.zo_model.specs.Program.{vector}
use Rattle.bank_prog_form.specs.Columns.{columns}
use Rattle.bank_prog.specs.Meaning.{on}
use Rattle.bank_prog_form.specs.Program.{same_column}
use Rattle.nova_back.specs.inner.Paired.{paired}
use Rattle.nova_back.proofs.PairedAll.{paired-lines, vector-paired, paired-costs}
use Rattle.nova_back.proofs.paired.paired.Goals as goal

pub returns-clause-columns : goal.returns-clause-columns
returns-clause-columns c =
    let f = paired (get same_column c.args.bank.now.numbers) in
    let names = columns (labels_view c.args.bank.now.form.ssu.now) in
    ap (λ l. length l) (c.in_ok-on.ensures ∙ ap (map f) (c.deref.ensures.value ∙ c.in_ok-names.ensures)) ∙ length-map names f

pub returns-clause-feasible : goal.returns-clause-feasible
returns-clause-feasible c = λ slots l.
    let labels = labels_view c.args.bank.now.form.ssu.now in
    let number = get same_column c.args.bank.now.numbers in
    let e : c.in_ok-on.on.items ≡ map (paired number) (columns labels) = c.in_ok-on.ensures ∙ ap (map (paired number)) (c.deref.ensures.value ∙ c.in_ok-names.ensures) in
    paired-lines labels (on labels (vector c.in_ok-on.on.items)) slots (vector-paired labels number c.in_ok-on.on.items c.requires c.args.bank.now.numbered e) l

pub returns-clause-cheap : goal.returns-clause-cheap
returns-clause-cheap c = λ ws.
    let labels = labels_view c.args.bank.now.form.ssu.now in
    let number = get same_column c.args.bank.now.numbers in
    let e : c.in_ok-on.on.items ≡ map (paired number) (columns labels) = c.in_ok-on.ensures ∙ ap (map (paired number)) (c.deref.ensures.value ∙ c.in_ok-names.ensures) in
    paired-costs labels ws (vector c.in_ok-on.on.items) (vector-paired labels number c.in_ok-on.on.items c.requires c.args.bank.now.numbered e)

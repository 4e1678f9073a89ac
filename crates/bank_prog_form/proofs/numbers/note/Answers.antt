use Rattle.std.proofs.Common.{◌≡◌, ◌∙◌, true, cond, ap, sym, None, Some, is_some}
use Rattle.std.specs.HashMap.{get, get_by}
use Rattle.bank_prog_form.specs.Program.{same_column}
use Rattle.bank_prog_form.specs.contracts.column.ColumnPartialEq.TheImpl.{eq-value}
use Rattle.bank_prog_form.proofs.Keys.{alike, compare, column-true, noted, kept, copied-some, copied-none}
use Rattle.bank_prog_form.proofs.numbers.note.Goals as goal

pub returns-in_ok-insert : goal.returns-in_ok-insert
returns-in_ok-insert c = λ d.
    let old = c.args.numbers.now in
    let new = c.insert.new.self in
    let u : get eq-value.it new d ≡ cond (eq-value.it c.args.c d) (Some c.args.j) (get eq-value.it old d) = c.in_ok-insert.ensures.updates.0 d in
    let none : get same_column old c.args.c ≡ None = ap (λ f. get_by f old) (sym (compare c.args.c)) ∙ sym c.get.ensures.value ∙ copied-none c.get.result c.if-is_none.ensures in
    let absent : same_column c.args.c d ≡ true → get same_column old d ≡ None = λ e. ap (λ x. get same_column old x) (sym (column-true c.args.c d e)) ∙ none in
    sym (ap (λ f. get_by f new) (compare d)) ∙ u ∙ ap (λ b. cond b (Some c.args.j) (get eq-value.it old d)) (alike c.args.c d)
    ∙ ap (λ f. cond (same_column c.args.c d) (Some c.args.j) (get_by f old)) (compare d) ∙ noted (same_column c.args.c d) (get same_column old d) c.args.j absent

pub returns-else-is_none : goal.returns-else-is_none
returns-else-is_none c = λ d.
    let old = c.args.numbers.now in
    let there : is_some (get same_column old c.args.c) ≡ true = ap is_some (ap (λ f. get_by f old) (sym (compare c.args.c)) ∙ sym c.get.ensures.value) ∙ copied-some c.get.result ∙ c.if-is_none.ensures in
    let known : same_column c.args.c d ≡ true → is_some (get same_column old d) ≡ true = λ e. ap (λ x. is_some (get same_column old x)) (sym (column-true c.args.c d e)) ∙ there in
    kept (same_column c.args.c d) (get same_column old d) c.args.j known

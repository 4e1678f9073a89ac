use Rattle.std.proofs.Common.{◌≡◌, ◌∙◌, List, ap, sym, map, length, arith}
use Rattle.std.proofs.lemmas.List.{length-map}
use Rattle.ssu_ir.specs.View.{labels_view}
use Rattle.bank_prog_form.specs.Columns.{Priced, priced, columns}
use Rattle.bank_prog_form.specs.Program.{number_in}
use Rattle.bank_prog.proofs.tables.with_columns.Goals as goal

pub invariant_of-result : goal.invariant_of-result
invariant_of-result c =
    let labels = labels_view c.args.form.ssu.now in
    let all : c.in_ok-priced.priced.items ≡ priced labels = c.in_ok-priced.ensures in
    let many : length (columns labels) ≡ length c.in_ok-priced.priced.items = length-map (priced labels) (λ (p : Priced). p.0) ∙ ap length (sym all) in
    record {
      in_order = all;
      few = omega (arith, many);
      numbered = λ x. c.in_ok-numbers.ensures x ∙ ap (λ (ps : List Priced). number_in 0 (map (λ (p : Priced). p.0) ps) x) (c.deref.ensures.value ∙ all);
    }

pub returns-then-len-gt-COUNT_LIMIT-clause-many : goal.returns-then-len-gt-COUNT_LIMIT-clause-many
returns-then-len-gt-COUNT_LIMIT-clause-many c = λ n h.
    let labels = labels_view c.args.form.ssu.now in
    let many : length (columns labels) ≡ length c.in_ok-priced.priced.items = length-map (priced labels) (λ (p : Priced). p.0) ∙ ap length (sym c.in_ok-priced.ensures) in
    let e : c.len-then-len-gt-COUNT_LIMIT.result ≡ n = cc in
    (omega (arith, many, e), omega (arith, many, e))

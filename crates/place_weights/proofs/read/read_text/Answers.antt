use Rattle.std.proofs.Common.{refl, sym, ◌∙◌, arith}
use Rattle.std.proofs.lemmas.Bool.{false≢true}
use Rattle.std.proofs.lemmas.Result.{err_from_is_err_and}
use Rattle.place_weights.proofs.Exact.{first_refused, count_refused, more_fault, whole_counts, gives_all}
use Rattle.place_weights.proofs.read.read_text.Goals as goal

pub returns-in_err-n-clause-refuses : goal.returns-in_err-n-clause-refuses
returns-in_err-n-clause-refuses c =
    let p = err_from_is_err_and c.from_residual.result c.from_residual.ensures.1 in
    rw (p.1, p.2, ← c.of-lines.ensures) (first_refused _ _ c.in_err-n.ensures.err)

pub returns-in_err-counts-clause-refuses : goal.returns-in_err-counts-clause-refuses
returns-in_err-counts-clause-refuses c =
    let p = err_from_is_err_and c.from_residual-in_err-counts.result c.from_residual-in_err-counts.ensures.1 in
    rw (p.1, p.2, ← c.of-lines.ensures) (count_refused _ _ c.in_ok-n.n _ c.in_ok-n.ensures.few c.in_ok-n.ensures.line c.in_err-counts.ensures.err)

pub returns-then-not-is_done-clause-refuses : goal.returns-then-not-is_done-clause-refuses
returns-then-not-is_done-clause-refuses c =
    rw (← c.of-lines.ensures) (
    more_fault c.in_ok-counts.counts.items _ c.read_counts.new.lines _ (record { few = omega (arith, c.in_ok-n.ensures.few, c.in_ok-counts.ensures.count); words = c.in_ok-counts.ensures.words })
    (whole_counts _ _ _ c.in_ok-n.n c.in_ok-counts.counts.items c.in_ok-counts.ensures.count c.in_ok-n.ensures.line c.in_ok-counts.ensures.lines) (λ e. false≢true (c.if-not-is_done.ensures.1 e)) (omega (arith, c.in_ok-counts.ensures.count)))

pub returns-clause-gives : goal.returns-clause-gives
returns-clause-gives c =
    gives_all _ c.read_counts.new.lines c.in_ok-counts.counts.items (record { few = omega (arith, c.in_ok-n.ensures.few, c.in_ok-counts.ensures.count); words = c.in_ok-counts.ensures.words })
    (sym c.of-lines.ensures ∙ whole_counts _ _ _ c.in_ok-n.n c.in_ok-counts.counts.items c.in_ok-counts.ensures.count c.in_ok-n.ensures.line c.in_ok-counts.ensures.lines) (c.if-not-is_done.ensures.0 refl)

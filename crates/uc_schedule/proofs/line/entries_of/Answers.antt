use Rattle.std.proofs.Common.{sym, ◌∙◌, refl, [], ◌∷◌, decimal, arith}
use Rattle.std.proofs.lemmas.Bool.{false≢true}
use Rattle.uc_schedule.proofs.LineLemmas.{entries_rest, entries_same, entries_from_parts}
use Rattle.uc_schedule.proofs.line.entries_of.Goals as goal

pub returns-in_err-number-clause-none : goal.returns-in_err-number-clause-none
returns-in_err-number-clause-none c =
    rw c.from_residual.ensures (λ e s.
    c.in_err-number.ensures e.0 (decimal e.1 ∷ []) (omega (arith, s.named, c.from.ensures)) (entries_rest c.args.count c.args.left _ _ e c.requires.contexts.1 c.requires.few (sym c.of-parts.ensures ∙ c.if-not-next_is.ensures) s))

pub returns-in_err-entries-clause-none : goal.returns-in_err-entries-clause-none
returns-in_err-entries-clause-none c =
    rw c.from_residual-in_err-entries.ensures (λ e s.
    let rest = entries_rest c.args.count c.args.left _ _ e c.requires.contexts.1 c.requires.few (sym c.of-parts.ensures ∙ c.if-not-next_is.ensures) s in
    c.in_err-entries.ensures e.1 [] s.few (cc (rest, c.in_ok-number.ensures.1)))

pub returns-then-entries-eq0-clause-none : goal.returns-then-entries-eq0-clause-none
returns-then-entries-eq0-clause-none c = λ e s.
    let same = entries_same c.args.count c.args.left _ _ _ _ e c.in_ok-number.number c.in_ok-entries.entries c.requires.contexts.1 c.requires.few c.in_ok-entries.ensures.0 (sym c.of-parts.ensures ∙ c.if-not-next_is.ensures) c.in_ok-number.ensures.1 c.in_ok-entries.ensures.1 s in
    omega (arith, same.0, s.some, c.if-entries-eq0.true)

pub returns-then-not-is_done-clause-none : goal.returns-then-not-is_done-clause-none
returns-then-not-is_done-clause-none c = λ e s.
    let same = entries_same c.args.count c.args.left _ _ _ _ e c.in_ok-number.number c.in_ok-entries.entries c.requires.contexts.1 c.requires.few c.in_ok-entries.ensures.0 (sym c.of-parts.ensures ∙ c.if-not-next_is.ensures) c.in_ok-number.ensures.1 c.in_ok-entries.ensures.1 s in
    false≢true (c.if-not-is_done.ensures.1 same.1)

pub returns-clause-some : goal.returns-clause-some
returns-clause-some c =
    entries_from_parts c.args.count c.args.left _ c.in_ok-number.number c.in_ok-entries.entries c.requires.contexts.0 (omega (arith, c.in_ok-number.ensures.0, c.from.ensures)) c.in_ok-entries.ensures.0 c.if-entries-eq0.false
    (cc (c.of-parts.ensures, c.if-not-next_is.ensures, c.in_ok-number.ensures.1, c.in_ok-entries.ensures.1, c.if-not-is_done.ensures.0 refl))

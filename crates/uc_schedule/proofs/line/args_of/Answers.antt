use Rattle.std.proofs.Common.{sym, ap, ◌∙◌, length}
use Rattle.uc_schedule.proofs.LineLemmas.{args_from_parts, no_args, not_args}
use Rattle.uc_schedule.proofs.line.args_of.Goals as goal

pub returns-in_err-words-clause-none : goal.returns-in_err-words-clause-none
returns-in_err-words-clause-none c =
    rw c.from_residual.ensures (no_args c.args.params _ _ c.requires (sym c.of-parts.ensures ∙ c.if-not-next_is.ensures) c.in_err-words.ensures.none)

pub returns-then-list-from-clause-none : goal.returns-then-list-from-clause-none
returns-then-list-from-clause-none c =
    not_args c.args.params _ c.in_ok-words.words _ (sym c.of-parts.ensures ∙ c.if-not-next_is.ensures) c.in_ok-words.ensures.some.0 (λ e. c.if-list-from.true (ap length c.list.ensures.words ∙ e ∙ sym c.from.ensures))

pub returns-clause-some : goal.returns-clause-some
returns-clause-some c =
    args_from_parts c.args.params _ _ c.in_ok-words.words (sym c.of-parts.ensures ∙ c.if-not-next_is.ensures) c.in_ok-words.ensures.some.0 (sym (ap length c.list.ensures.words) ∙ c.if-list-from.false ∙ c.from.ensures)

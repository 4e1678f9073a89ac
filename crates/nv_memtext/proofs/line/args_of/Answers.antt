use Rattle.std.proofs.Common.{sym, ◌∙◌}
use Rattle.nv_memtext.proofs.LineLemmas.{args_from_parts, no_args, if_some, if_none}
use Rattle.nv_memtext.proofs.line.args_of.Goals as goal

pub returns-clause-some : goal.returns-clause-some
returns-clause-some c =
    if_some c.words_of.result _ _ (λ ws h. args_from_parts _ _ ws (sym c.of-parts.ensures ∙ c.if-not-next_is.ensures) h) c.words_of.ensures.some

pub returns-clause-none : goal.returns-clause-none
returns-clause-none c =
    if_none c.words_of.result (no_args _ _ (sym c.of-parts.ensures ∙ c.if-not-next_is.ensures)) c.words_of.ensures.none

use Rattle.std.proofs.Common.{sym, ◌∙◌, refl}
use Rattle.std.proofs.lemmas.Bool.{false≢true}
use Rattle.nv_memtext.proofs.LineLemmas.{no_address, no_words, stretch_is, not_access, not_inside, stretch_from_parts}
use Rattle.nv_memtext.proofs.line.stretch_of.Goals as goal

pub returns-in_err-at-clause-none : goal.returns-in_err-at-clause-none
returns-in_err-at-clause-none c =
    rw c.from_residual-in_err-at.ensures (no_address _ _ _ _ _ c.requires.sram c.requires.sdram (sym c.of-parts.ensures ∙ c.in_ok-next_part.ensures) c.in_err-at.ensures)

pub returns-in_err-words-clause-none : goal.returns-in_err-words-clause-none
returns-in_err-words-clause-none c =
    rw c.from_residual-in_err-words.ensures (no_words _ _ _ _ _ _ _ c.requires.sram c.requires.sdram (sym c.of-parts.ensures ∙ c.in_ok-next_part.ensures) c.in_ok-at.ensures.1 c.in_err-words.ensures.none)

pub returns-then-not-is_access-clause-none : goal.returns-then-not-is_access-clause-none
returns-then-not-is_access-clause-none c = λ s h.
    let one = stretch_is _ _ _ _ _ _ _ _ _ c.requires.sram c.requires.sdram (sym c.of-parts.ensures ∙ c.in_ok-next_part.ensures) c.in_ok-mem.ensures c.in_ok-at.ensures.0 c.in_ok-at.ensures.1 c.in_ok-words.ensures.some.0 s h in
    not_access _ _ _ s _ _ _ one (λ a. false≢true (c.if-not-is_access.ensures.1 (rw c.list-count.ensures.words a))) h

pub returns-then-not-is_inside-clause-none : goal.returns-then-not-is_inside-clause-none
returns-then-not-is_inside-clause-none c = λ s h.
    let one = stretch_is _ _ _ _ _ _ _ _ _ c.requires.sram c.requires.sdram (sym c.of-parts.ensures ∙ c.in_ok-next_part.ensures) c.in_ok-mem.ensures c.in_ok-at.ensures.0 c.in_ok-at.ensures.1 c.in_ok-words.ensures.some.0 s h in
    not_inside _ _ _ s _ _ _ one (λ a. false≢true (c.if-not-is_inside.ensures.1 (rw c.list-count.ensures.words a))) h

pub returns-clause-some : goal.returns-clause-some
returns-clause-some c =
    stretch_from_parts _ _ _ _ _ _ _ _ _ (sym c.of-parts.ensures ∙ c.in_ok-next_part.ensures) c.in_ok-mem.ensures c.in_ok-at.ensures.1 c.in_ok-words.ensures.some.0
    (rw c.list-count.ensures.words at (c.if-not-is_access.ensures.0 refl)) (rw c.list-count.ensures.words at (c.if-not-is_inside.ensures.0 refl))

use Rattle.std.proofs.Common.{sym, ◌∙◌, refl, [], ◌∷◌, decimal, arith}
use Rattle.std.proofs.lemmas.Bool.{false≢true}
use Rattle.nv_memtext.proofs.LineLemmas.{sizes_rest, sizes_from_parts}
use Rattle.nv_memtext.proofs.line.sizes_of.Goals as goal

pub returns-in_err-sram-clause-none : goal.returns-in_err-sram-clause-none
returns-in_err-sram-clause-none c =
    rw c.from_residual.ensures (λ a b s.
    c.in_err-sram.ensures a (decimal b ∷ []) (omega (arith, s.sram_digits)) (sizes_rest _ _ a b (sym c.of-parts.ensures ∙ c.if-not-next_is.ensures) s))

pub returns-in_err-sdram-clause-none : goal.returns-in_err-sdram-clause-none
returns-in_err-sdram-clause-none c =
    rw c.from_residual-in_err-sdram.ensures (λ a b s.
    let rest = sizes_rest _ _ a b (sym c.of-parts.ensures ∙ c.if-not-next_is.ensures) s in
    c.in_err-sdram.ensures b [] (omega (arith, s.sdram_digits)) (cc (rest, c.in_ok-sram.ensures.1)))

pub returns-then-not-is_done-clause-none : goal.returns-then-not-is_done-clause-none
returns-then-not-is_done-clause-none c = λ a b s.
    let rest = sizes_rest _ _ a b (sym c.of-parts.ensures ∙ c.if-not-next_is.ensures) s in
    false≢true (c.if-not-is_done.ensures.1 (cc (rest, c.in_ok-sram.ensures.1, c.in_ok-sdram.ensures.1)))

pub returns-clause-some : goal.returns-clause-some
returns-clause-some c =
    sizes_from_parts _ _ _ c.in_ok-sram.ensures.0 c.in_ok-sdram.ensures.0
    (cc (c.of-parts.ensures, c.if-not-next_is.ensures, c.in_ok-sram.ensures.1, c.in_ok-sdram.ensures.1, c.if-not-is_done.ensures.0 refl))

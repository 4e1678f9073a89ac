use Rattle.std.proofs.Common.{◌≡◌, ◌∙◌, ap, sym, subst, true, false, [], ◌∷◌, ◌++◌}
use Rattle.std.specs.Option.{option_or}
use Rattle.std.specs.Io.KnownBytes.{Consumes}
use Rattle.std.proofs.KnownBytes.{Consumes-trans}
use Rattle.std.proofs.lemmas.Result.{err_from_is_err_and}
use Rattle.nv_lines.specs.Line.{text_of}
use Rattle.nova_lsp.specs.HeadLines.{IsHeadless}
use Rattle.nova_lsp.specs.Heads.{is_blank, length_in}
use Rattle.nova_lsp.proofs.HeadLaws.{none, head_of, one_more, told_more, text_more}
use Rattle.nova_lsp.proofs.head.next_head.Goals as goal

pub returns-in_err-read-clause-none : goal.returns-in_err-read-clause-none
returns-in_err-read-clause-none g c =
    let lines = c.loop.invariant.0 in
    let over = c.in_err-read.ensures.over in
    let left = g.R.Read.remaining c.read.new.input in
    let given = err_from_is_err_and c.from_residual.result c.from_residual.ensures.1 in
    let headless : IsHeadless (text_of lines ++ over.0) left given.0 = subst (IsHeadless (text_of lines ++ over.0) left) (sym given.2) (none lines over.0 left _ c.loop.invariant.1 over.1 over.3) in
    rw given.1 (text_of lines ++ over.0, Consumes-trans _ _ left (text_of lines) over.0 c.loop.invariant.3 over.2, headless)

pub returns-then-is_blank-clause-head : goal.returns-then-is_blank-clause-head
returns-then-is_blank-clause-head g c =
    let lines = c.loop.invariant.0 in
    let line = c.in_ok-read.ensures.line in
    let blank : is_blank line.0 ≡ true = sym (c.is_blank.ensures line.0 line.2) ∙ c.if-is_blank.true in
    (text_of lines ++ (line.0 ++ 10 ∷ []), head_of lines line.0 c.loop.told c.loop.invariant.1 c.loop.invariant.2 line.1 blank, Consumes-trans _ _ _ (text_of lines) (line.0 ++ 10 ∷ []) c.loop.invariant.3 line.3)

pub loop-preserved : goal.loop-preserved
loop-preserved g c =
    let lines = c.loop.invariant.0 in
    let line = c.in_ok-read.ensures.line in
    let filled : is_blank line.0 ≡ false = sym (c.is_blank.ensures line.0 line.2) ∙ c.if-is_blank.false in
    let told : c.or-told.result ≡ option_or (length_in line.0) c.loop.told = c.or-told.ensures ∙ ap (λ t. option_or t c.loop.told) (c.told.ensures line.0 line.2) in (
      lines ++ line.0 ∷ [],
      one_more lines line.0 c.loop.invariant.1 line.1 filled,
      told_more lines line.0 c.loop.told c.or-told.result c.loop.invariant.2 told,
      subst (Consumes _ _) (text_more lines line.0) (Consumes-trans _ _ _ (text_of lines) (line.0 ++ 10 ∷ []) c.loop.invariant.3 line.3),
    )

use Rattle.std.proofs.Common.{◌∙◌, sym, refl}
use Rattle.std.proofs.lemmas.Bool.{le-leb}
use Rattle.std.proofs.lemmas.Str.Ascii.{trim_ascii_is}
use Rattle.nova_lsp.proofs.LengthLaws.{no_colon, other_name, length_is}
use Rattle.nova_lsp.specs.Heads.{without_front}
use Rattle.nova_lsp.proofs.head.length_in.Goals as goal

pub returns-in_err-name : goal.returns-in_err-name
returns-in_err-name c = λ short. c.from_residual.ensures ∙ sym (no_colon c.args.line.now c.in_err-name.ensures.none)

pub returns-then-not-eq_ignore_ascii_case : goal.returns-then-not-eq_ignore_ascii_case
returns-then-not-eq_ignore_ascii_case c = λ short.
    sym (other_name c.args.line.now c.in_ok-name.name.now c.in_ok-name.value.now c.eq_ignore_ascii_case.result c.in_ok-name.ensures.split c.in_ok-name.ensures.first c.eq_ignore_ascii_case.ensures.test c.if-not-eq_ignore_ascii_case.true)

pub returns : goal.returns
returns c = λ short.
    let trimmed = trim_ascii_is c.in_ok-name.value.now c.trim_ascii.result.now (without_front c.in_ok-name.value.now) refl c.trim_ascii.ensures.value in
    length_is c.args.line.now c.in_ok-name.name.now c.in_ok-name.value.now c.trim_ascii.result.now c.eq_ignore_ascii_case.result c.number_in.result c.in_ok-name.ensures.split c.in_ok-name.ensures.first c.eq_ignore_ascii_case.ensures.test c.if-not-eq_ignore_ascii_case.false (le-leb _ _ short) trimmed c.number_in.ensures

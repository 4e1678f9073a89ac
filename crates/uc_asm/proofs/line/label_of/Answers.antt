use Rattle.std.proofs.Common.{sym, ◌∙◌, subst}
use Rattle.std.proofs.lemmas.Bool.{false≢true}
use Rattle.uc_asm.specs.Items.{IsName}
use Rattle.uc_asm.proofs.LineLemmas.{no-label, other-label, empty-test}
use Rattle.uc_asm.proofs.line.label_of.Goals as goal

pub returns-in_err-name-clause-none : goal.returns-in_err-name-clause-none
returns-in_err-name-clause-none c = rw c.from_residual.ensures (λ name h. no-label c.args.line.now name c.in_err-name.ensures.none)

pub returns-then-not-is_empty-clause-none : goal.returns-then-not-is_empty-clause-none
returns-then-not-is_empty-clause-none c = λ name h e.
    let same = other-label c.args.line.now c.in_ok-name.name.now c.in_ok-name.rest.now name c.in_ok-name.ensures.split c.in_ok-name.ensures.first h e in
    false≢true (c.if-not-is_empty.ensures ∙ empty-test c.in_ok-name.rest.now same.1)

pub returns-then-not-is_name-clause-none : goal.returns-then-not-is_name-clause-none
returns-then-not-is_name-clause-none c = λ name h e.
    let same = other-label c.args.line.now c.in_ok-name.name.now c.in_ok-name.rest.now name c.in_ok-name.ensures.split c.in_ok-name.ensures.first h e in
    false≢true (c.if-not-is_name.ensures.1 (subst IsName (sym same.0) h))

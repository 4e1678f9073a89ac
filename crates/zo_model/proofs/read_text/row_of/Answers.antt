use Rattle.std.proofs.Common.{◌≡◌, sym, ◌∙◌, w32, rules, subst}
use Rattle.std.proofs.lemmas.Int.{to_z-of_z}
use mir.Val.{SFits}
use Rattle.zo_model.specs.ProgramText.{IsRowText, row_line}
use Rattle.zo_model.proofs.TermLemmas.{no_least, no_terms, row_made}
use Rattle.zo_model.proofs.read_text.row_of.Goals as goal

pub returns-in_default-clause-none : goal.returns-in_default-clause-none
returns-in_default-clause-none c = no_least c.args.columns _ _ (sym c.of-parts.ensures ∙ c.if-not-next_is.ensures) c.in_default.ensures

pub returns-in-Some-2-clause-some : goal.returns-in-Some-2-clause-some
returns-in-Some-2-clause-some c =
    let fits : SFits w32 c.in-Some.least = search rules in
    let spelled = rw c.in-Some-2.is at c.in_ok-terms.ensures.some in
    let same = to_z-of_z w32 c.in-Some.least fits in
    subst (λ z. IsRowText c.args.columns (record { terms = c.in-Some-2.terms.items; least = z }) × (c.args.line.now ≡ row_line (record { terms = c.in-Some-2.terms.items; least = z }))) (sym same)
    (row_made c.args.columns _ _ _ c.in-Some.least _ (sym c.of-parts.ensures ∙ c.if-not-next_is.ensures) c.in-Some.ensures.0 c.in-Some.ensures.1 c.in-Some.ensures.2 spelled)

pub returns-in-None-clause-none : goal.returns-in-None-clause-none
returns-in-None-clause-none c =
    no_terms c.args.columns _ _ _ _ (sym c.of-parts.ensures ∙ c.if-not-next_is.ensures) c.in-Some.ensures.2 (rw c.in-None.is at c.in_ok-terms.ensures.none)

use Rattle.zo_model.proofs.TermLemmas.{no_more_term, all_terms}
use Rattle.zo_model.proofs.read_text.terms_of.Goals as goal

pub returns-in_default-term_of-clause-none : goal.returns-in_default-term_of-clause-none
returns-in_default-term_of-clause-none c =
    no_more_term c.args.columns _ _ _ _ _ _ c.requires c.loop-part.invariant c.in-Some.ensures c.in_default-term_of.ensures.none

pub returns-clause-some : goal.returns-clause-some
returns-clause-some c = all_terms c.args.columns _ _ _ _ c.requires c.loop-part.invariant c.in_default.ensures.0

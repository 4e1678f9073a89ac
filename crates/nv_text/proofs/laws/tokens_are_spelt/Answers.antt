use Rattle.nv_text.proofs.Spellings.{keywords_spelt, signs_spelt, operators_spelt}
use Rattle.nv_text.proofs.laws.tokens_are_spelt.Goals as goal

pub returns-clause-keywords : goal.returns-clause-keywords
returns-clause-keywords c = keywords_spelt

pub returns-clause-signs : goal.returns-clause-signs
returns-clause-signs c = signs_spelt

pub returns-clause-operators : goal.returns-clause-operators
returns-clause-operators c = operators_spelt

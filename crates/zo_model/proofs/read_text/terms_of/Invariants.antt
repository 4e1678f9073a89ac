use Rattle.std.proofs.Common.{length}
use Rattle.zo_model.proofs.TermLemmas.{ReadsTerms}
use Rattle.zo_model.proofs.read_text.terms_of.Given as goal

abbrev pub invariant-loop-part : goal.invariant-loop-part
invariant-loop-part l = ReadsTerms l.columns l.initial.parts l.parts l.terms.items l.low

abbrev pub decreases-loop-part : goal.decreases-loop-part
decreases-loop-part l = length l.parts

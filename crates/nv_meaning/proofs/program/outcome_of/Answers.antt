use Rattle.std.proofs.Common.{◌∙◌, ap, take, Err}
use Rattle.std.proofs.lemmas.Result.{err_from_is_err_and}
use Rattle.nv_meaning.specs.Values.{all_words}
use Rattle.nv_meaning.specs.inner.View.{list_values}
use Rattle.nv_meaning.proofs.Whole.{ended, raised, faulted, going, short-value, short-raised, short-stop}
use Rattle.nv_meaning.proofs.program.outcome_of.Goals as goal

pub returns-in_err-words-in-Ok-clause-before : goal.returns-in_err-words-in-Ok-clause-before
returns-in_err-words-in-Ok-clause-before c = λ now r h.
    let p = err_from_is_err_and c.from_residual.result c.from_residual.ensures.1 in
    rw p.1 (short-value c.args.answer now r h c.in-Ok.v c.in-Ok.is)

pub returns-in_err-words-in-Raised-clause-before : goal.returns-in_err-words-in-Raised-clause-before
returns-in_err-words-in-Raised-clause-before c = λ now r h.
    let p = err_from_is_err_and c.from_residual-in_err-words-in-Raised.result c.from_residual-in_err-words-in-Raised.ensures.1 in
    rw p.1 (short-raised c.args.answer now r h c.in-Raised.k c.in-Raised.vs (c.in-Err.is ∙ ap (λ s. Err s) c.in-Raised.is))

pub returns-in_ok-words-in-Ok-clause-done : goal.returns-in_ok-words-in-Ok-clause-done
returns-in_ok-words-in-Ok-clause-done c = λ now r h.
    ended c.args.answer now r h c.in-Ok.v c.in_ok-words-in-Ok.words.items c.first_words.result c.in-Ok.is c.in_ok-words-in-Ok.ensures (c.first_words.ensures ∙ ap (λ l. take 8 l) c.deref.ensures.value)

pub returns-in_ok-words-in-Raised-clause-done : goal.returns-in_ok-words-in-Raised-clause-done
returns-in_ok-words-in-Raised-clause-done c = λ now r h.
    raised c.args.answer now r h c.in-Raised.k c.in-Raised.vs c.in_ok-words-in-Raised.words.items c.first_words-in-Raised.result (c.in-Err.is ∙ ap (λ s. Err s) c.in-Raised.is)
    (c.in_ok-words-in-Raised.ensures ∙ ap (λ l. all_words (list_values l)) c.deref-in-Raised.ensures.value)
    (c.first_words-in-Raised.ensures ∙ ap (λ l. take 8 l) c.deref-in-Raised-2.ensures.value)

pub returns-in-NoMemory-clause-before : goal.returns-in-NoMemory-clause-before
returns-in-NoMemory-clause-before c = λ now r h. short-stop c.args.answer now r h (c.in-Err.is ∙ ap (λ s. Err s) c.in-NoMemory.is)

pub returns-in-Fault-clause-done : goal.returns-in-Fault-clause-done
returns-in-Fault-clause-done c = λ now r h. faulted c.args.answer now r h c.in-Fault.m c.in-Fault.at (c.in-Err.is ∙ ap (λ s. Err s) c.in-Fault.is)

pub returns-in-Going-clause-done : goal.returns-in-Going-clause-done
returns-in-Going-clause-done c = λ now r h. going c.args.answer now r h (c.in-Err.is ∙ ap (λ s. Err s) c.in-Going.is)

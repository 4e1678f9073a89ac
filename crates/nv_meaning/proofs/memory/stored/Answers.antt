use Rattle.std.proofs.Common.{◌∙◌, subst}
use Rattle.std.proofs.lemmas.Result.{err_from_is_err_and}
use Rattle.nv_meaning_values.specs.Running.{store}
use Rattle.nv_meaning_values.specs.Values.{words_of}
use Rattle.nv_meaning_values.specs.inner.View.{view}
use Rattle.nv_meaning.specs.inner.Ran.{at, RanScope}
use Rattle.nv_meaning.proofs.Access.{store-short}
use Rattle.nv_meaning.proofs.memory.stored.Goals as goal

pub returns-in_err-words : goal.returns-in_err-words
returns-in_err-words c =
    let p = err_from_is_err_and c.from_residual.result c.from_residual.ensures.1 in
    rw (p.1, p.2) (λ d left scope. store-short d (at left c.args.p.now c.args.log.now) c.args.span scope c.args.m c.args.at (words_of (view c.args.v)))

pub returns : goal.returns
returns c = λ d left scope. subst (λ ws. RanScope d (at left c.args.p.now c.args.log.now) (at left c.write.new.p c.write.new.log) c.write.result scope (λ call now. store c.args.span scope c.args.m c.args.at ws now)) (c.deref.ensures.value ∙ c.in_ok-words.ensures) (c.write.ensures d left scope)

use Rattle.std.proofs.Common.{◌≡◌, ◌+◌, min, subst, drop, length, IfOk}
use Rattle.std.below.core.specs.declared.int.usize.TheConstants.{MAX}
use Rattle.nv_meaning_values.specs.Values.{words_of}
use Rattle.nv_meaning.specs.inner.Blanks.{filled}
use Rattle.nv_meaning_values.specs.inner.View.{view}
use Rattle.nv_meaning.proofs.arguments.argument.Goals as goal

pub returns-clause-value : goal.returns-clause-value
returns-clause-value c = subst (λ b. IfOk c.filled.result (λ r. view r.0 ≡ filled b (drop c.args.at c.args.args.now))) c.in_ok-empty.ensures c.filled.ensures.value

pub returns-clause-behind : goal.returns-clause-behind
returns-clause-behind c = subst (λ b. IfOk c.filled.result (λ r. r.1 ≡ min (c.args.at + length (words_of b)) MAX)) c.in_ok-empty.ensures c.filled.ensures.behind

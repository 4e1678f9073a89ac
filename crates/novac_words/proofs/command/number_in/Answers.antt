use Rattle.std.proofs.Common.{◌∙◌, sym, arith}
use Rattle.novac_words.proofs.Numbers.{number-within, number-below}
use Rattle.novac_words.proofs.command.number_in.Goals as goal

pub returns-then-n-least-clause-none : goal.returns-then-n-least-clause-none
returns-then-n-least-clause-none c =
    number-below c.args.word.now c.args.least c.args.most c.in_ok-n.n (sym c.as_bytes.ensures.value ∙ c.in_ok-n.ensures.spelled) (omega arith) c.if-n-least.true

pub returns-else-n-least-clause-some : goal.returns-else-n-least-clause-some
returns-else-n-least-clause-some c =
    number-within c.args.word.now c.args.least c.args.most c.in_ok-n.n (sym c.as_bytes.ensures.value ∙ c.in_ok-n.ensures.spelled) (omega arith) c.if-n-least.false c.in_ok-n.ensures.within

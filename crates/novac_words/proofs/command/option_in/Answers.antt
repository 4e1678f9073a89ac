use Rattle.std.proofs.Common.{◌≡◌, None, arith}
use Rattle.novac_words.specs.Command.{option_of}
use Rattle.novac_words.proofs.Numbers.{option-found, option-below, option-none, key-spelled, if-none}
use Rattle.novac_words.proofs.command.option_in.Goals as goal

pub returns-then-n-least-clause-none : goal.returns-then-n-least-clause-none
returns-then-n-least-clause-none c =
    let h = c.in_ok-spelling.ensures.cases in
    option-below c.args.key.now c.args.word.now c.args.least c.args.most c.in_ok-n.n
    (key-spelled c.args.key.now c.args.word.now c.in_ok-spelling.spelling.now c.as_bytes.result.now c.in_ok-n.n h.0 h.1.1 h.2 c.as_bytes.ensures.value c.in_ok-n.ensures.spelled) (omega arith) c.if-n-least.true

pub returns-else-n-least-clause-some : goal.returns-else-n-least-clause-some
returns-else-n-least-clause-some c =
    let h = c.in_ok-spelling.ensures.cases in
    option-found c.args.key.now c.args.word.now c.args.least c.args.most c.in_ok-n.n
    (key-spelled c.args.key.now c.args.word.now c.in_ok-spelling.spelling.now c.as_bytes.result.now c.in_ok-n.n h.0 h.1.1 h.2 c.as_bytes.ensures.value c.in_ok-n.ensures.spelled) (omega arith) c.if-n-least.false c.in_ok-n.ensures.within

pub returns-in_err-n-clause-none : goal.returns-in_err-n-clause-none
returns-in_err-n-clause-none c =
    let h = c.in_ok-spelling.ensures.cases in
    if-none c.from_residual-in_err-n.result (option_of c.args.key.now c.args.least c.args.most c.args.word.now ≡ None)
    (option-none c.args.key.now c.args.word.now c.in_ok-spelling.spelling.now c.as_bytes.result.now c.args.least c.args.most h.0 h.1.1 h.2 c.as_bytes.ensures.value c.in_err-n.ensures.none)

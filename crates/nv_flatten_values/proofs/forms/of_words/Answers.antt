use Rattle.std.proofs.Common.{◌∙◌, ◌+◌, ◌++◌, ap, sym}
use Rattle.nv_ast.specs.Types.{words}
use Rattle.nv_flatten_values.specs.inner.Symbols.{Tuple, fresh, numbers_from}
use Rattle.nv_flatten_values.proofs.Listing.{tuple-view, words-tuple}
use Rattle.nv_flatten_values.proofs.forms.of_words.Goals as goal
use Rattle.nv_ast.proofs.TypeWords.{parts_words}

pub returns-in_ok-tuple_of_words-clause-symbol : goal.returns-in_ok-tuple_of_words-clause-symbol
returns-in_ok-tuple_of_words-clause-symbol c =
    tuple-view c.in_ok-tuple_of_words.field-0 ∙ ap (λ ss. Tuple ss) c.in_ok-tuple_of_words.ensures.symbols ∙ sym (ap (fresh c.args.next.now) (words-tuple c.args.n c.if-n-eq1.false))

pub returns-in_ok-tuple_of_words-clause-next : goal.returns-in_ok-tuple_of_words-clause-next
returns-in_ok-tuple_of_words-clause-next c =
    c.in_ok-tuple_of_words.ensures.next ∙ sym (ap (λ k. c.args.next.now + k) (ap words (words-tuple c.args.n c.if-n-eq1.false) ∙ parts_words c.args.n))

pub returns-in_ok-tuple_of_words-clause-made : goal.returns-in_ok-tuple_of_words-clause-made
returns-in_ok-tuple_of_words-clause-made c =
    c.in_ok-tuple_of_words.ensures.made ∙ sym (ap (λ k. c.args.made.now.items ++ numbers_from c.args.next.now k) (ap words (words-tuple c.args.n c.if-n-eq1.false) ∙ parts_words c.args.n))

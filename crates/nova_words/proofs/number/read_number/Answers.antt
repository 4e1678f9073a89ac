use Rattle.std.proofs.Common.{◌≡◌, ◌∙◌, sym, arith}
use Rattle.std.proofs.lemmas.Fmt.{decimal_injective}
use Rattle.nova_words.proofs.number.read_number.Goals as goal

pub returns-then-n-from-clause-none : goal.returns-then-n-from-clause-none
returns-then-n-from-clause-none c = λ n low high is.
    let same : n ≡ c.in_ok-n.n = decimal_injective n c.in_ok-n.n (omega arith) (omega arith) (sym is ∙ sym c.as_bytes.ensures.value ∙ c.in_ok-n.ensures.spelled) in
    omega (arith, same, low)

use Rattle.std.proofs.Common.{◌≡◌, ◌++◌, ◌∷◌, ◌∙◌, map, ap, codes, decimal, arith}
use Rattle.nv_lines.specs.Line.{parts}
use Rattle.zo_cert_tree.specs.Node.{multiplier_text}
use Rattle.zo_cert_tree.proofs.ReadMultipliers.{line_of_parts}
use Rattle.zo_cert_tree.proofs.NodeLineLemmas.{no_bound}
use Rattle.nv_lines.proofs.NumberLemmas.{decimal_one}
use Rattle.zo_cert_tree.proofs.node_reader.bound_of.Goals as goal

pub returns-in-Some-2-clause-some : goal.returns-in-Some-2-clause-some
returns-in-Some-2-clause-some c =
    let s = rw c.in-Some-2.is at c.in_ok-multipliers.ensures.some in
    let texts = s.spelled in
    let all : parts c.args.rest.now ≡ decimal c.in-Some.denominator ∷ map multiplier_text c.in-Some-2.multipliers.items = cc (c.of-parts.ensures, c.in-Some.ensures.1, texts) in
    ((omega (arith, c.if-denominator-eq0.false), omega (arith, c.in-Some.ensures.0), s.multipliers, s.small), ap (λ t. codes "d " ++ t) (line_of_parts c.args.rest.now _ all))

pub returns-in_default-clause-none : goal.returns-in_default-clause-none
returns-in_default-clause-none c =
    no_bound _ (λ d ms some small fit fits e. c.in_default.ensures d (map multiplier_text ms) (omega (arith, small)) (c.of-parts.ensures ∙ e))

pub returns-then-denominator-eq0-clause-none : goal.returns-then-denominator-eq0-clause-none
returns-then-denominator-eq0-clause-none c =
    no_bound _ (λ d ms some small fit fits e.
    let heads : decimal d ≡ decimal c.in-Some.denominator = cc (c.of-parts.ensures, c.in-Some.ensures.1, e) in
    omega (arith, some, c.if-denominator-eq0.true, decimal_one d c.in-Some.denominator (omega arith) (omega (arith, c.in-Some.ensures.0)) heads))

pub returns-in-None-clause-none : goal.returns-in-None-clause-none
returns-in-None-clause-none c =
    no_bound _ (λ d ms some small fit fits e.
    rw c.in-None.is at c.in_ok-multipliers.ensures.none ms (record { multipliers = fit; small = fits; spelled = cc (c.of-parts.ensures, c.in-Some.ensures.1, e) }))

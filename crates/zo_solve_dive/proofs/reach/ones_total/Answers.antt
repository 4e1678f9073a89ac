use Rattle.std.proofs.Common.{◌≡◌, ℕ, ◌^◌, ◌∙◌, ap, get_or, ℤ, pos, arith}
use Rattle.std.proofs.lemmas.Int.{ints}
use Rattle.std.proofs.lemmas.List.Elements.{All-get_or}
use Rattle.zo_model.specs.Program.{AtMost, where_one}
use Rattle.zo_model.proofs.Sums.{terms_sum-more, terms_sum-none}
use Rattle.zo_cert_tree.specs.Fixing.{ones}
use Rattle.zo_solve_dive.proofs.reach.ones_total.Goals as goal

pub loop-j-init : goal.loop-j-init
loop-j-init c = let e = terms_sum-none (ones c.args.fixed.now) in (omega (arith, ints), omega (arith, ints), omega (arith, ints))

pub loop-j-preserved : goal.loop-j-preserved
loop-j-preserved c =
    let term : ℕ × ℤ = get_or c.args.terms.now c.loop-j.j-index (0, pos 0) in
    let more = terms_sum-more c.args.terms.now (ones c.args.fixed.now) c.loop-j.j-index (omega arith) in
    let fit : AtMost (2 ^ 15) term.1 = All-get_or (λ t. AtMost (2 ^ 15) t.1) c.args.terms.now c.loop-j.j-index (0, pos 0) (omega arith) c.requires.terms.coefficients_fit in
    let value : c.one_part.result ≡ (where_one (ones c.args.fixed.now term.0)) term.1 = c.one_part.ensures ∙ ap (where_one (ones c.args.fixed.now term.0)) (omega (arith, ints, fit.low, fit.high)) in
    (omega (arith, ints), omega (arith, ints), omega (arith, ints))

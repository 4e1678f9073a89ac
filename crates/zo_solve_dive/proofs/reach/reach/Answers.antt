use Rattle.std.proofs.Common.{◌≡◌, ℕ, ◌^◌, ◌∙◌, ap, get_or, None, ℤ, pos, arith}
use Rattle.std.proofs.lemmas.Int.{ints}
use Rattle.std.proofs.lemmas.List.Elements.{All-get_or}
use Rattle.zo_model.specs.Program.{AtMost}
use Rattle.zo_cert_tree.specs.Searched.{reach_part}
use Rattle.zo_solve_dive.proofs.Rows.{reach-more, reach-none}
use Rattle.zo_solve_dive.proofs.reach.reach.Goals as goal

pub loop-j-init : goal.loop-j-init
loop-j-init c = let e = reach-none c.args.fixed.now in (omega (arith, ints), omega (arith, ints), omega (arith, ints))

pub loop-j-preserved : goal.loop-j-preserved
loop-j-preserved c =
    let term : ℕ × ℤ = get_or c.args.terms.now c.loop-j.j-index (0, pos 0) in
    let more = reach-more c.args.terms.now c.args.fixed.now c.loop-j.j-index (omega arith) in
    let fit : AtMost (2 ^ 15) term.1 = All-get_or (λ t. AtMost (2 ^ 15) t.1) c.args.terms.now c.loop-j.j-index (0, pos 0) (omega arith) c.requires.terms.coefficients_fit in
    let value : c.reach_part.result ≡ (reach_part (get_or c.args.fixed.now term.0 None)) term.1 = c.reach_part.ensures ∙ ap (reach_part (get_or c.args.fixed.now term.0 None)) (omega (arith, ints, fit.low, fit.high)) in
    (omega (arith, ints), omega (arith, ints), omega (arith, ints))

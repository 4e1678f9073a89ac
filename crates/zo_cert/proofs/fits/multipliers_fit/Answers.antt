use Rattle.std.proofs.Common.{◌<◌, ◌^◌, take, get_or, sym, subst, refl, arith}
use Rattle.std.specs.List.{All}
use Rattle.std.proofs.lemmas.List.{take_all}
use Rattle.std.proofs.lemmas.List.Elements.{All-push}
use Rattle.zo_model.proofs.Pieces.{take_next}
use Rattle.zo_cert.proofs.fits.multipliers_fit.Goals as goal

pub loop-multiplier-preserved : goal.loop-multiplier-preserved
loop-multiplier-preserved c =
    let ms = c.args.multipliers.now in
    let i = c.loop-multiplier.multiplier-index in
    let x = get_or ms i (0, 0) in
    subst (All (λ m. m.1 < 2 ^ 32)) (sym (take_next ms i (0, 0) x (omega arith) refl))
    (All-push (λ m. m.1 < 2 ^ 32) (take i ms) x c.loop-multiplier.invariant c.fits.ensures)

pub returns : goal.returns
returns c = subst (All (λ m. m.1 < 2 ^ 32)) (take_all c.loop-multiplier.multiplier-index c.args.multipliers.now (omega arith)) c.loop-multiplier.invariant

use Rattle.std.proofs.Common.{◌<◌, ◌^◌, take}
use Rattle.std.specs.List.{All}
use Rattle.zo_cert.proofs.fits.multipliers_fit.Given as goal

abbrev pub invariant-loop-multiplier : goal.invariant-loop-multiplier
invariant-loop-multiplier l = All (λ m. m.1 < 2 ^ 32) (take l.multiplier-index l.multipliers)

use Rattle.std.proofs.Common.{◌<◌, ℕ}
use Rattle.uc_isa.specs.Lawful.{IsLawfulPlace}
use Rattle.uc_isa.proofs.rules.lint.Given as goal

abbrev pub invariant-loop-place : goal.invariant-loop-place
invariant-loop-place l = (earlier : ℕ) → earlier < l.place → IsLawfulPlace l.c.list earlier

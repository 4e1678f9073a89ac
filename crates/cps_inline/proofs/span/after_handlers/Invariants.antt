use Rattle.std.proofs.Common.{◌≡◌, max, drop}
use Rattle.cps_inline.specs.inner.Inlined.{after_handlers}
use Rattle.cps_inline.proofs.span.after_handlers.Given as goal

abbrev pub invariant-loop-h : goal.invariant-loop-h
invariant-loop-h l = max l.next (after_handlers (drop l.h-index l.hs)) ≡ max l.least (after_handlers l.hs)

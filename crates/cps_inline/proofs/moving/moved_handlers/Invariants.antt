use Rattle.std.proofs.Common.{◌≡◌, take}
use Rattle.cps_inline.specs.inner.Inlined.{moved_handlers}
use Rattle.cps_inline.proofs.moving.moved_handlers.Given as goal

abbrev pub invariant-loop-h : goal.invariant-loop-h
invariant-loop-h l = l.v.items ≡ moved_handlers l.base (take l.h-index l.hs)

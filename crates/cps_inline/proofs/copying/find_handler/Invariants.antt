use Rattle.std.proofs.Common.{◌≡◌, drop}
use Rattle.cps_ir.specs.Meaning.{handler_of}
use Rattle.cps_inline.proofs.copying.find_handler.Given as goal

abbrev pub invariant-loop-h : goal.invariant-loop-h
invariant-loop-h l = handler_of l.e (drop l.h-index l.hs) ≡ handler_of l.e l.hs

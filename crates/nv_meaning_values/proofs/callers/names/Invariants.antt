use Rattle.std.proofs.Common.{◌≡◌, map, take}
use Rattle.nv_meaning_values.specs.Callers.{calls_of}
use Rattle.nv_meaning_values.proofs.callers.names.Given as goal

abbrev pub invariant-loop-f : goal.invariant-loop-f
invariant-loop-f l = l.names.items ≡ map (λ f. f.0) (calls_of (take l.f-index l.callers))

use Rattle.std.proofs.Common.{◌≡◌, ◌++◌, ◌∷◌, [], take}
use Rattle.std.specs.List.{flat_map}
use Rattle.nv_meaning_values.specs.Chains.{made_in}
use Rattle.nv_trace.specs.TraceText.{made_line}
use Rattle.nv_trace.proofs.text.push_lines.Given as goal

abbrev pub invariant-loop-i : goal.invariant-loop-i
invariant-loop-i l = l.text.items ≡ l.initial.text.items ++ flat_map (λ m. made_line l.source (made_in l.trace.chains m) ++ 10 ∷ []) (take l.i l.trace.kept)

use Rattle.std.proofs.Common.{◌≡◌, ◌++◌, ◌∷◌, take}
use Rattle.std.specs.List.{flat_map}
use Rattle.zo_cert_tree.specs.Node.{multiplier_text}
use Rattle.zo_cert_tree.proofs.multipliers.push_multipliers.Given as goal

abbrev pub invariant-loop-multiplier : goal.invariant-loop-multiplier
invariant-loop-multiplier l = l.out.items ≡ l.initial.out.items ++ flat_map (λ m. 32 ∷ multiplier_text m) (take l.multiplier-index l.multipliers)

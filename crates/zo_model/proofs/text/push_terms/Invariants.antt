use Rattle.std.proofs.Common.{◌≡◌, ◌++◌, ◌∷◌, take}
use Rattle.std.specs.List.{flat_map}
use Rattle.zo_model.specs.ProgramText.{term_text}
use Rattle.zo_model.proofs.text.push_terms.Given as goal

abbrev pub invariant-loop-term : goal.invariant-loop-term
invariant-loop-term l = l.out.items ≡ l.initial.out.items ++ flat_map (λ t. 32 ∷ term_text t) (take l.term-index l.terms)

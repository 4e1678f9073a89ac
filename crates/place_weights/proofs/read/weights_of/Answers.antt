use Rattle.std.proofs.Common.{ap, sym, ◌∙◌, map, subst, All, ◌≤◌, ℕ, List}
use Rattle.place_weights.specs.WeightsText.{clamped}
use Rattle.place_weights.proofs.Exact.{weights-bounded}
use Rattle.place_weights.proofs.read.weights_of.Goals as goal

pub new-requires : goal.new-requires
new-requires c =
    let P : List ℕ → Type 0 = λ l. All (λ w. (1 ≤ w) × (w ≤ 1023)) l in
    subst P (sym c.in_ok-list.ensures) (weights-bounded c.deref.result.now)

pub returns-clause-gives : goal.returns-clause-gives
returns-clause-gives c = (c.in_ok-counts.counts.items, c.in_ok-counts.ensures.gives, c.new.ensures ∙ c.in_ok-list.ensures ∙ ap (map clamped) c.deref.ensures.value)

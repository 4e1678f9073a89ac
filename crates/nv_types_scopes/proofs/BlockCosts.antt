-- What stands still, in sums and greatest numbers, and costs that are equal.
use Rattle.std.proofs.Common.{◌≡◌, ◌∙◌, ap, sym, subst, ℕ, ◌+◌, max, arith}
use Rattle.nv_types_table.specs.declared.cost.Cost.{Cost}
use Rattle.nv_types_table.specs.inner.Cells.{still}
use Rattle.nv_types_table.specs.inner.Costs.{IsCost}

pub still_sum : (a b x y : ℕ) → a ≡ still x → b ≡ still y → still (a + b) ≡ still (x + y)
still_sum a b x y h g = omega (arith, h, g)

pub still_max : (a b x y : ℕ) → a ≡ still x → b ≡ still y → max a b ≡ still (max x y)
still_max a b x y h g = omega (arith, h, g)

-- a cost that is known by equations
pub cost_same : (cost : Cost) (words size need w s n : ℕ) → words ≡ w → size ≡ s → need ≡ n → IsCost cost words size need → IsCost cost w s n
cost_same cost words size need w s n e f g h = record { of_words = h.of_words ∙ ap still e; of_size = h.of_size ∙ ap still f; of_need = h.of_need ∙ ap still g }

pub cost_moved : (a b : Cost) (words size need : ℕ) → a ≡ b → IsCost b words size need → IsCost a words size need
cost_moved a b words size need e h = subst (λ (x : Cost). IsCost x words size need) (sym e) h

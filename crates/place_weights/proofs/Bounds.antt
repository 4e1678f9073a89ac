-- A label's weight is from 1 to 1,023.
use Rattle.std.proofs.Common.{ℕ, ◌<◌, ◌≤◌, List, length, ⊎_elim, arith}
use Rattle.std.proofs.lemmas.Bool.{cases_lt}
use Rattle.std.proofs.lemmas.List.{get_or_past}
use Rattle.place_weights.specs.Weighted.{AreWeights, weight_of}

pub weight-bounds : (ws : List ℕ) (l : ℕ) → AreWeights ws → (1 ≤ weight_of ws l) × (weight_of ws l ≤ 1023)
weight-bounds ws l h = ⊎_elim
    (λ (low : l < length ws). h l 1 low)
    (λ (high : length ws ≤ l). let e = get_or_past ws l 1 high in (omega (arith, e), omega (arith, e)))
    (cases_lt l (length ws))

-- One more at a place of counts.
use Rattle.std.proofs.Common.{◌≡◌, ℕ, zero, suc, ◌+◌, ◌<◌, List, [], ◌∷◌, ◌++◌, length, get_or, refl, ap, arith}
use Rattle.std.proofs.Math.ListN.{set}
use Rattle.nova_replay.specs.Replaying.{one_more, one_more_at}

pub set_one_more : (place : ℕ) (counts : List ℕ) → place < length counts → set counts place (one_more (get_or counts place 0)) ≡ one_more_at place counts
set_one_more zero [] inside = absurd (omega arith)
set_one_more zero (c ∷ counts) inside = refl
set_one_more (suc place) [] inside = absurd (omega arith)
set_one_more (suc place) (c ∷ counts) inside = ap (λ z. c ∷ z) (set_one_more place counts (omega arith))

-- a count of 0 more at the end changes nothing
pub one_more_grown : (place : ℕ) (counts : List ℕ) → length counts < place → one_more_at place (counts ++ 0 ∷ []) ≡ one_more_at place counts
one_more_grown zero counts short = absurd (omega arith)
one_more_grown (suc place) [] short = refl
one_more_grown (suc place) (c ∷ counts) short = ap (λ z. c ∷ z) (one_more_grown place counts (omega arith))

pub one_more_end : (place : ℕ) (counts : List ℕ) → length counts ≡ place → one_more_at place counts ≡ counts ++ 1 ∷ []
one_more_end zero [] long = refl
one_more_end zero (c ∷ counts) long = absurd (omega arith)
one_more_end (suc place) [] long = absurd (omega arith)
one_more_end (suc place) (c ∷ counts) long = ap (λ z. c ∷ z) (one_more_end place counts (omega arith))

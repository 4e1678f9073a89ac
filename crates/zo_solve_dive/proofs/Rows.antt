-- reaches and met nodes
use Rattle.std.proofs.Common.{◌≡◌, ℕ, zero, suc, ◌+◌, ◌<◌, ◌≤◌, List, [], ◌∷◌, length, take, map, get_or, Bool, false, Option, None, ℤ, pos, ◌+ℤ◌, refl, ap, subst}
use Rattle.std.specs.List.{All}
use Rattle.std.proofs.lemmas.List.{take_all}
use mathlib.Core.Path.{fun_ext}
use Rattle.zo_model.specs.Program.{vector}
use Rattle.zo_model.proofs.Sums.{total-more}
use Rattle.zo_cert_tree.specs.Fixing.{is_one, ones}
use Rattle.zo_cert_tree.specs.Searched.{reach, reach_part}

pub reach-none : (fixed : List (Option Bool)) → reach fixed [] ≡ pos 0
unfolding reach
reach-none fixed = refl

pub reach-more : (ts : List (ℕ × ℤ)) (fixed : List (Option Bool)) (i : ℕ) → i < length ts → reach fixed (take (i + 1) ts) ≡ reach fixed (take i ts) +ℤ reach_part (get_or fixed (get_or ts i (0, pos 0)).0 None) (get_or ts i (0, pos 0)).1
unfolding reach
reach-more ts fixed i h = total-more (λ t. reach_part (get_or fixed t.0 None) t.1) ts i (0, pos 0) h

-- the vector of the columns fixed at 1
vector_at : (fixed : List (Option Bool)) (j : ℕ) → get_or (map is_one fixed) j false ≡ is_one (get_or fixed j None)
vector_at [] j = refl
vector_at (o ∷ os) zero = refl
vector_at (o ∷ os) (suc j) = vector_at os j

pub vector_ones : (fixed : List (Option Bool)) → vector (map is_one fixed) ≡ ones fixed
vector_ones fixed = fun_ext (vector_at fixed)

pub length_ones : (fixed : List (Option Bool)) → length (map is_one fixed) ≡ length fixed
length_ones [] = refl
length_ones (o ∷ os) = ap suc (length_ones os)

-- what holds of as many elements as there are holds of each
pub all_taken : {A : Type 0} (P : A → Type 0) (xs : List A) (i : ℕ) → length xs ≤ i → All P (take i xs) → All P xs
all_taken P xs i le h = subst (All P) (take_all i xs le) h

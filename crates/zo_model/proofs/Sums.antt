-- laws of signed sums
use Rattle.std.proofs.Common.{◌≡◌, ℕ, zero, suc, ◌+◌, ◌<◌, List, [], ◌∷◌, ◌++◌, length, take, get_or, Bool, ℤ, pos, ◌+ℤ◌, ◌≤ℤ◌, refl, arith, add-one}
use Rattle.std.proofs.lemmas.Int.{ints}
use Rattle.zo_model.specs.Program.{total, sum_below, where_one, terms_sum}

total-take_suc : {A : Type 0} (f : A → ℤ) (xs : List A) (i : ℕ) (d : A) → i < length xs → total f (take (suc i) xs) ≡ total f (take i xs) +ℤ f (get_or xs i d)
total-take_suc f [] i d h = absurd (omega arith)
total-take_suc f (x ∷ xs) zero d h = omega (arith, ints)
total-take_suc f (x ∷ xs) (suc i) d h =
    let ih : total f (take (suc i) xs) ≡ total f (take i xs) +ℤ f (get_or xs i d) = total-take_suc f xs i d (omega arith) in
    omega (arith, ints)

pub total-more : {A : Type 0} (f : A → ℤ) (xs : List A) (i : ℕ) (d : A) → i < length xs → total f (take (i + 1) xs) ≡ total f (take i xs) +ℤ f (get_or xs i d)
total-more f xs i d h = rw add-one (total-take_suc f xs i d h)

pub total-append : {A : Type 0} (f : A → ℤ) (xs ys : List A) → total f (xs ++ ys) ≡ total f xs +ℤ total f ys
total-append f [] ys = omega (arith, ints)
total-append f (x ∷ xs) ys =
    let ih : total f (xs ++ ys) ≡ total f xs +ℤ total f ys = total-append f xs ys in
    omega (arith, ints)

pub sum_below-more : (n : ℕ) (f : ℕ → ℤ) → sum_below (n + 1) f ≡ sum_below n f +ℤ f n
sum_below-more n f = rw add-one

pub sum_below-same : (n : ℕ) (f g : ℕ → ℤ) → ((j : ℕ) → j < n → f j ≡ g j) → sum_below n f ≡ sum_below n g
sum_below-same zero f g h = refl
sum_below-same (suc n) f g h =
    let ih : sum_below n f ≡ sum_below n g = sum_below-same n f g (λ j lt. h j (omega arith)) in
    let here : f n ≡ g n = h n (omega arith) in
    cc

pub sum_below-le : (n : ℕ) (f g : ℕ → ℤ) → ((j : ℕ) → j < n → f j ≤ℤ g j) → sum_below n f ≤ℤ sum_below n g
sum_below-le zero f g h = omega (arith, ints)
sum_below-le (suc n) f g h =
    let ih : sum_below n f ≤ℤ sum_below n g = sum_below-le n f g (λ j lt. h j (omega arith)) in
    let here : f n ≤ℤ g n = h n (omega arith) in
    omega (arith, ints)

pub sum_below-add : (n : ℕ) (f g : ℕ → ℤ) → sum_below n (λ j. f j +ℤ g j) ≡ sum_below n f +ℤ sum_below n g
sum_below-add zero f g = omega (arith, ints)
sum_below-add (suc n) f g =
    let ih : sum_below n (λ j. f j +ℤ g j) ≡ sum_below n f +ℤ sum_below n g = sum_below-add n f g in
    omega (arith, ints)

pub terms_sum-none : (x : ℕ → Bool) → terms_sum [] x ≡ pos 0
unfolding terms_sum
terms_sum-none x = refl

pub terms_sum-more : (ts : List (ℕ × ℤ)) (x : ℕ → Bool) (i : ℕ) → i < length ts → terms_sum (take (i + 1) ts) x ≡ terms_sum (take i ts) x +ℤ where_one (x (get_or ts i (0, pos 0)).0) (get_or ts i (0, pos 0)).1
unfolding terms_sum
terms_sum-more ts x i h = total-more (λ t. where_one (x t.0) t.1) ts i (0, pos 0) h

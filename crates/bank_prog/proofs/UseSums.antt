-- Sums over lists; a sum over the uses of each value.
use Rattle.std.proofs.Common.{◌≡◌, ℕ, ◌+◌, ◌≤◌, nat_eq, Bool, true, false, not, ◌||◌, ◌&&◌, if◌then◌else◌, List, [], ◌∷◌, ◌++◌, map, filter, length, refl, sym, subst, arith}
use Rattle.std.proofs.lemmas.Bool.{false≢true}
use Rattle.nv_base.specs.Sets.{is_in, all_different}
use Rattle.nv_base.proofs.Sets.{same-number}
use Rattle.place_plan.specs.Uses.{Value, Use}
use Rattle.zo_model.specs.Program.{cost_where}

-- the sum of g over a list
abbrev pub sum_of : {X : Type 0} → (X → ℕ) → List X → ℕ
sum_of g [] = 0
sum_of g (x ∷ xs) = g x + sum_of g xs

pub sum-append : {X : Type 0} (g : X → ℕ) (a b : List X) → sum_of g (a ++ b) ≡ sum_of g a + sum_of g b
sum-append g [] b = omega arith
sum-append g (x ∷ a) b = let ih = sum-append g a b in omega (arith, ih)

pub sum-ones : {X : Type 0} (xs : List X) → sum_of (λ x. 1) xs ≡ length xs
sum-ones [] = refl
sum-ones (x ∷ xs) = let ih = sum-ones xs in omega (arith, ih)

-- ---- a sum over the uses of each value counts each use at most once

abbrev pub of_value : List Use → ℕ → List Use
of_value us x = filter (λ u. nat_eq u.value x) us

abbrev pub by_value : (Use → ℕ) → List Use → List Value → ℕ
by_value g us vs = sum_of (λ v. sum_of g (of_value us v.var)) vs

pub one-more : (g : Use → ℕ) (u : Use) (us : List Use) (x : ℕ) (b : Bool) → nat_eq u.value x ≡ b → sum_of g (of_value (u ∷ us) x) ≡ cost_where b (g u) + sum_of g (of_value us x)
one-more g u us x b e = subst (λ c. sum_of g (if c then u ∷ of_value us x else of_value us x) ≡ cost_where b (g u) + sum_of g (of_value us x)) (sym e) (by b)
  where
    by : (b : Bool) → sum_of g (if b then u ∷ of_value us x else of_value us x) ≡ cost_where b (g u) + sum_of g (of_value us x)
    by true = refl
    by false = omega arith

pub none-more : (g : Use → ℕ) (u : Use) (us : List Use) (vs : List Value) → is_in u.value (map (λ v. v.var) vs) ≡ false → by_value g (u ∷ us) vs ≡ by_value g us vs
none-more g u us [] e = refl
none-more g u us (v ∷ vs) e = by (nat_eq u.value v.var) (is_in u.value (map (λ v. v.var) vs)) refl refl e
    (λ n. none-more g u us vs n)
  where
    by : (a b : Bool) → nat_eq u.value v.var ≡ a → is_in u.value (map (λ v. v.var) vs) ≡ b → (a || b) ≡ false → (is_in u.value (map (λ v. v.var) vs) ≡ false → by_value g (u ∷ us) vs ≡ by_value g us vs) → by_value g (u ∷ us) (v ∷ vs) ≡ by_value g us (v ∷ vs)
    by true b p q n ih = absurd (false≢true (sym n))
    by false true p q n ih = absurd (false≢true (sym n))
    by false false p q n ih = let a = ih q in let c = one-more g u us v.var false p in omega (arith, a, c)

once-more : (g : Use → ℕ) (u : Use) (us : List Use) (vs : List Value) → all_different (map (λ v. v.var) vs) ≡ true → by_value g (u ∷ us) vs ≤ g u + by_value g us vs
once-more g u us [] d = omega arith
once-more g u us (v ∷ vs) d = by (nat_eq u.value v.var) refl (is_in v.var (map (λ v. v.var) vs)) refl (all_different (map (λ v. v.var) vs)) refl d
    (λ n. none-more g u us vs n) (λ n. once-more g u us vs n)
  where
    by : (a : Bool) → nat_eq u.value v.var ≡ a → (b : Bool) → is_in v.var (map (λ v. v.var) vs) ≡ b → (c : Bool) → all_different (map (λ v. v.var) vs) ≡ c → (not b && c) ≡ true
        → (is_in u.value (map (λ v. v.var) vs) ≡ false → by_value g (u ∷ us) vs ≡ by_value g us vs)
        → (all_different (map (λ v. v.var) vs) ≡ true → by_value g (u ∷ us) vs ≤ g u + by_value g us vs)
        → by_value g (u ∷ us) (v ∷ vs) ≤ g u + by_value g us (v ∷ vs)
    by a p true q c r n f h = absurd (false≢true n)
    by a p false q false r n f h = absurd (false≢true n)
    by true p false q true r n f h =
        let s = f (subst (λ x. is_in x (map (λ v. v.var) vs) ≡ false) (sym (same-number u.value v.var p)) q) in
        let c = one-more g u us v.var true p in
        omega (arith, s, c)
    by false p false q true r n f h =
        let s = h r in
        let c = one-more g u us v.var false p in
        omega (arith, s, c)

pub each-once : (g : Use → ℕ) (us : List Use) (vs : List Value) → all_different (map (λ v. v.var) vs) ≡ true → by_value g us vs ≤ sum_of g us
each-once g [] vs d = nothing vs
  where
    nothing : (vs : List Value) → by_value g [] vs ≤ 0
    nothing [] = omega arith
    nothing (v ∷ vs) = let ih = nothing vs in omega (arith, ih)
each-once g (u ∷ us) vs d =
    let a = once-more g u us vs d in
    let b = each-once g us vs d in
    omega (arith, a, b)

-- Sums over what stands at the points that `keep` says.
use Rattle.std.proofs.Common.{◌≡◌, ℕ, ◌+◌, ◌≤◌, Bool, true, false, ◌&&◌, if◌then◌else◌, List, [], ◌∷◌, filter, refl, ap, inl, inr, arith}
use Rattle.std.specs.List.{flat_map}
use Rattle.zo_model.specs.Program.{cost_where}
use Rattle.bank_prog_form.specs.declared.column.Column.{Column}
use Rattle.bank_prog_form.specs.Columns.{Priced}
use Rattle.bank_prog.specs.Meaning.{Chosen, named_cost}
use Rattle.reg_assign_reading.proofs.Counts.{In}
use Rattle.bank_prog.proofs.UseSums.{sum_of}
use Rattle.reg_assign_reading.proofs.CostSums.{cost-append}

-- ---- lists

pub filter-all : {X : Type 0} (xs : List X) → filter (λ x. true) xs ≡ xs
filter-all [] = refl
filter-all (x ∷ xs) = ap (λ ys. x ∷ ys) (filter-all xs)

-- ---- sums

pub sum-kept : {X : Type 0} (g : X → ℕ) (keep : X → Bool) (xs : List X) → sum_of g (filter keep xs) ≤ sum_of g xs
sum-kept g keep [] = omega arith
sum-kept g keep (x ∷ xs) = by (keep x) (sum-kept g keep xs)
  where
    by : (b : Bool) → sum_of g (filter keep xs) ≤ sum_of g xs → sum_of g (if b then x ∷ filter keep xs else filter keep xs) ≤ g x + sum_of g xs
    by true k = omega (arith, k)
    by false k = omega (arith, k)

pub sum-less : {X : Type 0} (g h : X → ℕ) (xs : List X) → ((x : X) → In x xs → g x ≤ h x) → sum_of g xs ≤ sum_of h xs
sum-less g h [] f = omega arith
sum-less g h (x ∷ xs) f =
    let a = f x (inl refl) in
    let b = sum-less g h xs (λ y i. f y (inr i)) in
    omega (arith, a, b)

-- ---- columns

-- those of the columns that are on that also pass a test
abbrev pub and_passes : Chosen → (Column → Bool) → Chosen
and_passes on test = λ c. on c && test c

pub cost-kept : (on : Chosen) (test : Column → Bool) (cs : List Priced) → named_cost on (filter (λ c. test c.0) cs) ≡ named_cost (and_passes on test) cs
cost-kept on test [] = refl
cost-kept on test (c ∷ cs) = by (test c.0) (on c.0) refl (cost-kept on test cs)
  where
    by : (b a : Bool) → on c.0 ≡ a → named_cost on (filter (λ c. test c.0) cs) ≡ named_cost (and_passes on test) cs → named_cost on (if b then c ∷ filter (λ c. test c.0) cs else filter (λ c. test c.0) cs) ≡ cost_where (a && b) c.1 + named_cost (and_passes on test) cs
    by true true e k = let f = ap (λ d. cost_where d c.1) e in omega (arith, f, k)
    by true false e k = let f = ap (λ d. cost_where d c.1) e in omega (arith, f, k)
    by false true e k = omega (arith, k)
    by false false e k = omega (arith, k)

pub all-pass : (on : Chosen) (test : Column → Bool) (cs : List Priced) → ((c : Priced) → In c cs → test c.0 ≡ true) → named_cost on cs ≡ named_cost (and_passes on test) cs
all-pass on test [] h = refl
all-pass on test (c ∷ cs) h = by (on c.0) (test c.0) (h c (inl refl)) (all-pass on test cs (λ d i. h d (inr i)))
  where
    by : (a b : Bool) → b ≡ true → named_cost on cs ≡ named_cost (and_passes on test) cs → cost_where a c.1 + named_cost on cs ≡ cost_where (a && b) c.1 + named_cost (and_passes on test) cs
    by true true e k = omega (arith, k)
    by false true e k = omega (arith, k)
    by a false e k = absurd (cc)

-- the columns of what is kept, where all that it has pass
pub cost-of-kept : {X : Type 0} (on : Chosen) (test : Column → Bool) (f : X → List Priced) (keep : X → Bool) (xs : List X) → ((x : X) → In x xs → keep x ≡ true → (c : Priced) → In c (f x) → test c.0 ≡ true) → named_cost on (flat_map f (filter keep xs)) ≤ named_cost (and_passes on test) (flat_map f xs)
cost-of-kept on test f keep [] h = omega arith
cost-of-kept on test f keep (x ∷ xs) h = by (keep x) refl (cost-of-kept on test f keep xs (λ y i. h y (inr i)))
  where
    by : (b : Bool) → keep x ≡ b → named_cost on (flat_map f (filter keep xs)) ≤ named_cost (and_passes on test) (flat_map f xs) → named_cost on (flat_map f (if b then x ∷ filter keep xs else filter keep xs)) ≤ named_cost (and_passes on test) (flat_map f (x ∷ xs))
    by true e k =
        let p = all-pass on test (f x) (h x (inl refl) e) in
        let a = cost-append on (f x) (flat_map f (filter keep xs)) in
        let b = cost-append (and_passes on test) (f x) (flat_map f xs) in
        omega (arith, k, p, a, b)
    by false e k =
        let b = cost-append (and_passes on test) (f x) (flat_map f xs) in
        omega (arith, k, b)

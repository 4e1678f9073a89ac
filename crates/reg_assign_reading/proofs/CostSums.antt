-- Sums of costs.
use Rattle.std.proofs.Common.{◌≡◌, ℕ, suc, ◌+◌, ◌≤◌, Bool, true, false, Some, List, [], ◌∷◌, ◌++◌, refl, sym, ap, subst, inl, inr, ⊎_elim, arith}
use Rattle.std.specs.Prelude.{slice_get}
use Rattle.std.specs.List.{flat_map}
use Rattle.std.proofs.lemmas.Bool.{false≢true}
use Rattle.ssu_ir.specs.Points.{Point}
use Rattle.place_plan.specs.Uses.{Use, uses_from}
use Rattle.zo_model.specs.Program.{cost_where}
use Rattle.bank_prog_form.specs.Columns.{Priced, each_point, point_uses}
use Rattle.bank_prog.specs.Meaning.{Chosen, named_cost}
use Rattle.bank_prog.proofs.UseSums.{sum_of, sum-append}
use Rattle.reg_assign_reading.proofs.Counts.{In}

pub cost-append : (on : Chosen) (a b : List Priced) → named_cost on (a ++ b) ≡ named_cost on a + named_cost on b
cost-append on [] b = omega arith
cost-append on (c ∷ a) b = let ih = cost-append on a b in omega (arith, ih)

-- a column that is on counts
pub cost-one : (on : Chosen) (c : Priced) (cs : List Priced) → In c cs → on c.0 ≡ true → c.1 ≤ named_cost on cs
cost-one on c [] i e = absurd i
cost-one on c (d ∷ cs) i e = ⊎_elim
    (λ (s : d ≡ c). let a = counted (on d.0) d.1 (named_cost on cs) (subst (λ (z : Priced). on z.0 ≡ true) (sym s) e) in let b = ap (λ (z : Priced). z.1) s in omega (arith, a, b))
    (λ (j : In c cs). let ih = cost-one on c cs j e in omega (arith, ih))
    i
  where
    counted : (b : Bool) (m n : ℕ) → b ≡ true → m ≤ cost_where b m + n
    counted true m n e = omega arith
    counted false m n e = absurd (false≢true e)

pub cost-flat : {X : Type 0} (on : Chosen) (f : X → List Priced) (g : X → ℕ) (xs : List X) → ((x : X) → In x xs → g x ≤ named_cost on (f x)) → sum_of g xs ≤ named_cost on (flat_map f xs)
cost-flat on f g [] h = omega arith
cost-flat on f g (x ∷ xs) h =
    let a = h x (inl refl) in
    let b = cost-flat on f g xs (λ y i. h y (inr i)) in
    let c = cost-append on (f x) (flat_map f xs) in
    omega (arith, a, b, c)

pub cost-points : (on : Chosen) (f : ℕ → Point → Use → List Priced) (g : Use → ℕ) (j : ℕ) (ps : List Point) → ((i k : ℕ) (q : Point) → k ≡ j + i → slice_get ps i ≡ Some q → (u : Use) → In u (point_uses k q) → g u ≤ named_cost on (f k q u)) → sum_of g (uses_from j ps) ≤ named_cost on (each_point (λ k q. flat_map (f k q) (point_uses k q)) j ps)
cost-points on f g j [] h = omega arith
cost-points on f g j (p ∷ ps) h =
    let a = cost-flat on (f j p) g (point_uses j p) (h 0 j p (omega arith) refl) in
    let b = cost-points on f g (suc j) ps (λ i k q e s u m. h (suc i) k q (omega (arith, e)) s u m) in
    let c = cost-append on (flat_map (f j p) (point_uses j p)) (each_point (λ k q. flat_map (f k q) (point_uses k q)) (suc j) ps) in
    let d = sum-append g (point_uses j p) (uses_from (suc j) ps) in
    omega (arith, a, b, c, d)

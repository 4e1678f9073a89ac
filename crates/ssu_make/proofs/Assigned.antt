-- Environments after assignments.
use Rattle.std.proofs.Common.{◌≡◌, ℕ, zero, suc, ◌+◌, ◌<◌, ◌≤◌, true, false, nat_eq, refl, ap, ◌∙◌, ◌⊎◌, inl, inr, ⊎_elim, if◌then◌else◌, arith}
use Rattle.std.proofs.lemmas.Bool.{eq-eqb, or_left, or_right, or_from, ne_eqb}
use Rattle.std.specs.List.{range_with_len}
use Rattle.nv_base.specs.Words.{Env, assigned}
use Rattle.nv_base.specs.Sets.{is_in}
use Rattle.ssu_ir.specs.Meaning.{assigned_each}

pub same-test : (x : ℕ) → nat_eq x x ≡ true
same-test x = eq-eqb x x refl

pub assigned-same : (env : Env) (x w : ℕ) → assigned env x w x ≡ w
assigned-same env x w = ap (λ b. if b then w else env x) (same-test x)

pub assigned-other : (env : Env) (x w y : ℕ) → (y ≡ x → ⊥) → assigned env x w y ≡ env y
assigned-other env x w y ne = ap (λ b. if b then w else env y) (ne_eqb y x ne)

-- ---- the same word for a stretch of names

pub in-stretch : (n a k : ℕ) → k < n → is_in (a + k) (range_with_len a n) ≡ true
in-stretch zero a k h = absurd (omega arith)
in-stretch (suc n) a zero h = let at : a + 0 ≡ a = omega arith in or_left (nat_eq (a + 0) a) (is_in (a + 0) (range_with_len (a + 1) n)) (eq-eqb (a + 0) a at)
in-stretch (suc n) a (suc k) h =
    let at : a + suc k ≡ a + 1 + k = omega arith in
    or_right (nat_eq (a + suc k) a) (is_in (a + suc k) (range_with_len (a + 1) n)) (ap (λ z. is_in z (range_with_len (a + 1) n)) at ∙ in-stretch n (a + 1) k (omega arith))

pub out-of-stretch : (n a z : ℕ) → (z < a) ⊎ (a + n ≤ z) → is_in z (range_with_len a n) ≡ false
out-of-stretch zero a z h = refl
out-of-stretch (suc n) a z h =
    let apart : (z < a + 1) ⊎ (a + 1 + n ≤ z) = ⊎_elim (λ (p : z < a). inl (omega arith)) (λ (p : a + suc n ≤ z). inr (omega arith)) h in
    let ne : z ≡ a → ⊥ = ⊎_elim (λ (p : z < a). λ e. omega arith) (λ (p : a + suc n ≤ z). λ e. omega arith) h in
    or_from (nat_eq z a) (is_in z (range_with_len (a + 1) n)) (ne_eqb z a ne) (out-of-stretch n (a + 1) z apart)

pub each-outside : (n a z : ℕ) (env : Env) (w : ℕ) → (z < a) ⊎ (a + n ≤ z) → assigned_each env (range_with_len a n) w z ≡ env z
each-outside n a z env w h = ap (λ b. if b then w else env z) (out-of-stretch n a z h)

pub each-inside : (n a k : ℕ) (env : Env) (w : ℕ) → k < n → assigned_each env (range_with_len a n) w (a + k) ≡ w
each-inside n a k env w h = ap (λ b. if b then w else env (a + k)) (in-stretch n a k h)

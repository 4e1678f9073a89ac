-- The test of a literal that fits an instruction.
use Rattle.std.proofs.Common.{◌≡◌, ℕ, ◌*◌, ◌/◌, ◌%◌, ◌<◌, ◌⊎◌, true, false, eqb, ltb, ◌&&◌, ◌||◌, refl, inl, inr, ⊎_elim, arith}
use Rattle.std.proofs.lemmas.Bool.{and_parts, and_from, or_cases, or_left, or_right, eqb-true, eq-eqb, ltb-true, lt-ltb}
use Rattle.ssu_ir.specs.Single.{is_narrow, IsNarrow}

shifted-1 : (v : ℕ) → (eqb (v % 1) 0 && ltb (v / 1) 65536) ≡ true → v < 65536
shifted-1 v h = let p = and_parts (eqb (v % 1) 0) (ltb (v / 1) 65536) h in let l : v / 1 < 65536 = ltb-true (v / 1) 65536 p.1 in omega arith

shifted-8 : (v : ℕ) → (eqb (v % 256) 0 && ltb (v / 256) 65536) ≡ true → (v / 256 < 65536) × (v ≡ v / 256 * 256)
shifted-8 v h =
    let p = and_parts (eqb (v % 256) 0) (ltb (v / 256) 65536) h in
    let l : v / 256 < 65536 = ltb-true (v / 256) 65536 p.1 in
    let z : v % 256 ≡ 0 = eqb-true (v % 256) 0 p.0 in
    (l, omega arith)

shifted-16 : (v : ℕ) → (eqb (v % 65536) 0 && ltb (v / 65536) 65536) ≡ true → (v / 65536 < 65536) × (v ≡ v / 65536 * 65536)
shifted-16 v h =
    let p = and_parts (eqb (v % 65536) 0) (ltb (v / 65536) 65536) h in
    let l : v / 65536 < 65536 = ltb-true (v / 65536) 65536 p.1 in
    let z : v % 65536 ≡ 0 = eqb-true (v % 65536) 0 p.0 in
    (l, omega arith)

pub narrow_is : (v : ℕ) → is_narrow v ≡ true → IsNarrow v
narrow_is v h =
    ⊎_elim
    (λ (a : (eqb (v % 1) 0 && ltb (v / 1) 65536) ≡ true). (v, shifted-1 v a, inl refl))
    (λ (r : ((eqb (v % 256) 0 && ltb (v / 256) 65536) || ((eqb (v % 65536) 0 && ltb (v / 65536) 65536) || false)) ≡ true).
    ⊎_elim
    (λ (a : (eqb (v % 256) 0 && ltb (v / 256) 65536) ≡ true). let s = shifted-8 v a in (v / 256, s.0, inr (inl s.1)))
    (λ (q : ((eqb (v % 65536) 0 && ltb (v / 65536) 65536) || false) ≡ true).
    ⊎_elim
    (λ (a : (eqb (v % 65536) 0 && ltb (v / 65536) 65536) ≡ true). let s = shifted-16 v a in (v / 65536, s.0, inr (inr s.1)))
    (λ (a : false ≡ true). absurd (cc))
    (or_cases (eqb (v % 65536) 0 && ltb (v / 65536) 65536) false q))
    (or_cases (eqb (v % 256) 0 && ltb (v / 256) 65536) ((eqb (v % 65536) 0 && ltb (v / 65536) 65536) || false) r))
    (or_cases (eqb (v % 1) 0 && ltb (v / 1) 65536) ((eqb (v % 256) 0 && ltb (v / 256) 65536) || ((eqb (v % 65536) 0 && ltb (v / 65536) 65536) || false)) h)

at_1 : (v w : ℕ) → w < 65536 → v ≡ w → (eqb (v % 1) 0 && ltb (v / 1) 65536) ≡ true
at_1 v w l e = and_from (eqb (v % 1) 0) (ltb (v / 1) 65536) (eq-eqb (v % 1) 0 (omega arith)) (lt-ltb (v / 1) 65536 (omega arith))

at_8 : (v w : ℕ) → w < 65536 → v ≡ w * 256 → (eqb (v % 256) 0 && ltb (v / 256) 65536) ≡ true
at_8 v w l e = and_from (eqb (v % 256) 0) (ltb (v / 256) 65536) (eq-eqb (v % 256) 0 (omega arith)) (lt-ltb (v / 256) 65536 (omega arith))

at_16 : (v w : ℕ) → w < 65536 → v ≡ w * 65536 → (eqb (v % 65536) 0 && ltb (v / 65536) 65536) ≡ true
at_16 v w l e = and_from (eqb (v % 65536) 0) (ltb (v / 65536) 65536) (eq-eqb (v % 65536) 0 (omega arith)) (lt-ltb (v / 65536) 65536 (omega arith))

pub is_narrow_from : (v : ℕ) → IsNarrow v → is_narrow v ≡ true
is_narrow_from v n =
    let a = eqb (v % 1) 0 && ltb (v / 1) 65536 in
    let b = eqb (v % 256) 0 && ltb (v / 256) 65536 in
    let d = eqb (v % 65536) 0 && ltb (v / 65536) 65536 in
    ⊎_elim
    (λ (e : v ≡ n.0). or_left a (b || (d || false)) (at_1 v n.0 n.1 e))
    (λ (r : (v ≡ n.0 * 256) ⊎ (v ≡ n.0 * 65536)).
    or_right a (b || (d || false))
    (⊎_elim
    (λ (e : v ≡ n.0 * 256). or_left b (d || false) (at_8 v n.0 n.1 e))
    (λ (e : v ≡ n.0 * 65536). or_right b (d || false) (or_left d false (at_16 v n.0 n.1 e)))
    r))
    n.2

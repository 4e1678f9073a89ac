-- The label that returns its words, and its variables.
use Rattle.std.proofs.Common.{◌≡◌, ℕ, zero, suc, ◌+◌, ◌≤◌, ◌<◌, max, true, false, not, nat_eq, List, [], ◌∷◌, length, if◌then◌else◌, refl, ap, ◌∙◌, ⊎_elim, arith}
use Rattle.std.proofs.lemmas.Bool.{eq-eqb, eqb-true, and_from, or_cases, or_left, or_right, false≢true, not_from_false, false_from_ne_true}
use Rattle.nv_base.specs.Access.{all_known}
use Rattle.nv_base.specs.Sets.{is_in, all_different}
use Rattle.nv_base.specs.Words.{Env, assigned, assigned_all, atom_words}
use Rattle.cps_ir.specs.Meaning.{Scope, Bound, returned, run}
use Rattle.cps_ir.specs.Term.{Fun}
use Rattle.cps_lower.specs.inner.Lowered.{variables, operands, returning, next_variable}
use Rattle.cps_lower.proofs.Simulates.{IsBack}

-- ---- the words that it returns

-- a variable below them keeps its word
kept : (m i x : ℕ) (env : Env) (ws : List ℕ) → x < i → assigned_all env (variables i m) ws x ≡ env x
kept zero i x env ws lt = refl
kept (suc m) i x env [] lt =
    let e : nat_eq x i ≡ false = grind arith in
    kept m (i + 1) x (assigned env i 0) [] (omega arith) ∙ ap (λ b. if b then 0 else env x) e
kept (suc m) i x env (w ∷ ws) lt =
    let e : nat_eq x i ≡ false = grind arith in
    kept m (i + 1) x (assigned env i w) ws (omega arith) ∙ ap (λ b. if b then w else env x) e

-- the words as they come, where there are m of them
abbrev counted : ℕ → List ℕ → List ℕ
counted zero ws = []
counted (suc m) [] = 0 ∷ counted m []
counted (suc m) (w ∷ ws) = w ∷ counted m ws

counted_all : (m i : ℕ) (env : Env) (ws : List ℕ) → atom_words (assigned_all env (variables i m) ws) (operands (variables i m)) ≡ counted m ws
counted_all zero i env ws = refl
counted_all (suc m) i env [] =
    let here : assigned_all (assigned env i 0) (variables (i + 1) m) [] i ≡ 0 = kept m (i + 1) i (assigned env i 0) [] (omega arith) ∙ ap (λ b. if b then 0 else env i) (eq-eqb i i refl) in
    ap (λ v. v ∷ atom_words (assigned_all (assigned env i 0) (variables (i + 1) m) []) (operands (variables (i + 1) m))) here ∙ ap (λ l. 0 ∷ l) (counted_all m (i + 1) (assigned env i 0) [])
counted_all (suc m) i env (w ∷ ws) =
    let here : assigned_all (assigned env i w) (variables (i + 1) m) ws i ≡ w = kept m (i + 1) i (assigned env i w) ws (omega arith) ∙ ap (λ b. if b then w else env i) (eq-eqb i i refl) in
    ap (λ v. v ∷ atom_words (assigned_all (assigned env i w) (variables (i + 1) m) ws) (operands (variables (i + 1) m))) here ∙ ap (λ l. w ∷ l) (counted_all m (i + 1) (assigned env i w) ws)

counted_same : (m : ℕ) (ws : List ℕ) → length ws ≡ m → counted m ws ≡ ws
counted_same zero [] e = refl
counted_same zero (w ∷ ws) e = cc
counted_same (suc m) [] e = cc
counted_same (suc m) (w ∷ ws) e = ap (λ l. w ∷ l) (counted_same m ws (omega arith))

pub is_back : (funs : List Fun) (i m : ℕ) (env : Env) (sc : Scope) → IsBack funs (Bound (returning (variables i m)) env sc) m
is_back funs i m env sc = record { by = λ ws e j fr w. ap (λ us. returned (run funs j) us fr w) (counted_all m i env ws ∙ counted_same m ws e) }

-- ---- its variables

pub length-variables : (i m : ℕ) → length (variables i m) ≡ m
length-variables i zero = refl
length-variables i (suc m) = ap suc (length-variables (i + 1) m)

pub length-operands : (xs : List ℕ) → length (operands xs) ≡ length xs
length-operands [] = refl
length-operands (x ∷ xs) = ap suc (length-operands xs)

pub variables-from : (i m x : ℕ) → is_in x (variables i m) ≡ true → i ≤ x
variables-from i zero x e = absurd (false≢true e)
variables-from i (suc m) x e =
    ⊎_elim (λ (p : nat_eq x i ≡ true). let same : x ≡ i = eqb-true x i p in (let r : i ≤ x = omega arith in r)) (λ (p : is_in x (variables (i + 1) m) ≡ true). let le : i + 1 ≤ x = variables-from (i + 1) m x p in (let r : i ≤ x = omega arith in r)) (or_cases (nat_eq x i) (is_in x (variables (i + 1) m)) e)

pub variables-different : (i m : ℕ) → all_different (variables i m) ≡ true
variables-different i zero = refl
variables-different i (suc m) =
    and_from (not (is_in i (variables (i + 1) m))) (all_different (variables (i + 1) m))
    (not_from_false (is_in i (variables (i + 1) m)) (false_from_ne_true (is_in i (variables (i + 1) m)) (λ p. let le : i + 1 ≤ i = variables-from (i + 1) m i p in absurd (omega arith))))
    (variables-different (i + 1) m)

-- each is below the first one after all
pub next-above : (xs : List ℕ) (x : ℕ) → is_in x xs ≡ true → x < next_variable xs
next-above [] x e = absurd (false≢true e)
next-above (y ∷ xs) x e =
    ⊎_elim (λ (p : nat_eq x y ≡ true). let same : x ≡ y = eqb-true x y p in (let r : x < max (y + 1) (next_variable xs) = omega arith in r)) (λ (p : is_in x xs ≡ true). let lt : x < next_variable xs = next-above xs x p in (let r : x < max (y + 1) (next_variable xs) = omega arith in r)) (or_cases (nat_eq x y) (is_in x xs) e)

pub operands-known : (xs known : List ℕ) → ((x : ℕ) → is_in x xs ≡ true → is_in x known ≡ true) → all_known known (operands xs) ≡ true
operands-known [] known h = refl
operands-known (x ∷ xs) known h =
    and_from (is_in x known) (all_known known (operands xs)) (h x (or_left (nat_eq x x) (is_in x xs) (eq-eqb x x refl))) (operands-known xs known (λ y e. h y (or_right (nat_eq y x) (is_in y xs) e)))

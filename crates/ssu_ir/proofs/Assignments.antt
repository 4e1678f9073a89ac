-- Words given to variables one after another.
use Rattle.std.proofs.Common.{◌≡◌, ℕ, ◌+◌, ◌<◌, ◌≤◌, Bool, true, false, ◌||◌, nat_eq, List, ◌∷◌, length, get_or, drop, refl, sym, ap, ◌∙◌, if◌then◌else◌}
use Rattle.std.proofs.Math.Path.{fun_ext}
use Rattle.std.proofs.lemmas.List.{drop_more, drop_all}
use Rattle.nv_base.specs.Sets.{is_in}
use Rattle.nv_base.specs.Words.{Env, assigned, assigned_all}
use Rattle.ssu_ir.specs.Meaning.{assigned_each}

-- ---- each its own word

pub all-more : (env env' : Env) (xs ws : List ℕ) (i x w : ℕ) → i < length xs → i < length ws → x ≡ get_or xs i 0 → w ≡ get_or ws i 0 → env' ≡ assigned env x w
    → assigned_all env' (drop (i + 1) xs) (drop (i + 1) ws) ≡ assigned_all env (drop i xs) (drop i ws)
all-more env env' xs ws i x w lx lw ex ew e =
    let dx : drop i xs ≡ x ∷ drop (i + 1) xs = drop_more xs i 0 lx ∙ ap (λ y. y ∷ drop (i + 1) xs) (sym ex) in
    let dw : drop i ws ≡ w ∷ drop (i + 1) ws = drop_more ws i 0 lw ∙ ap (λ y. y ∷ drop (i + 1) ws) (sym ew) in
    ap (λ v. assigned_all v (drop (i + 1) xs) (drop (i + 1) ws)) e
    ∙ sym (ap (λ l. assigned_all env l (drop i ws)) dx ∙ ap (λ l. assigned_all env (x ∷ drop (i + 1) xs) l) dw)

pub all-done : (env : Env) (xs ws : List ℕ) (i : ℕ) → length xs ≤ i → assigned_all env (drop i xs) (drop i ws) ≡ env
all-done env xs ws i l = ap (λ k. assigned_all env k (drop i ws)) (drop_all i xs l)

-- ---- the same word

same-word : (b c : Bool) (w v : ℕ) → (if c then w else (if b then w else v)) ≡ (if b || c then w else v)
same-word true true w v = refl
same-word true false w v = refl
same-word false true w v = refl
same-word false false w v = refl

each-cons : (env : Env) (x : ℕ) (xs : List ℕ) (w : ℕ) → assigned_each (assigned env x w) xs w ≡ assigned_each env (x ∷ xs) w
each-cons env x xs w = fun_ext (λ y. same-word (nat_eq y x) (is_in y xs) w (env y))

pub each-more : (env env' : Env) (xs : List ℕ) (i x w : ℕ) → i < length xs → x ≡ get_or xs i 0 → env' ≡ assigned env x w
    → assigned_each env' (drop (i + 1) xs) w ≡ assigned_each env (drop i xs) w
each-more env env' xs i x w l ex e =
    let dx : drop i xs ≡ x ∷ drop (i + 1) xs = drop_more xs i 0 l ∙ ap (λ y. y ∷ drop (i + 1) xs) (sym ex) in
    ap (λ v. assigned_each v (drop (i + 1) xs) w) e ∙ each-cons env x (drop (i + 1) xs) w ∙ sym (ap (λ k. assigned_each env k w) dx)

pub each-done : (env : Env) (xs : List ℕ) (w i : ℕ) → length xs ≤ i → assigned_each env (drop i xs) w ≡ env
each-done env xs w i l = ap (λ k. assigned_each env k w) (drop_all i xs l)

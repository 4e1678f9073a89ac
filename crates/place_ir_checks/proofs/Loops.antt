-- Loops over lists that end early.
use Rattle.std.proofs.Common.{◌≡◌, ℕ, zero, suc, ◌+◌, ◌<◌, Bool, true, false, List, [], ◌∷◌, length, map, get_or, take, refl, sym, ap, ◌∙◌, arith}
use Rattle.std.specs.List.{list_all, list_any}
use Rattle.std.proofs.lemmas.Bool.{and_left, and_right, and_from, and_parts, or_left, or_right}

any-at : {X Y : Type 0} (f : Y → Bool) (g : X → Y) (xs : List X) (i : ℕ) (d : X) → i < length xs → f (g (get_or xs i d)) ≡ true → list_any f (map g xs) ≡ true
any-at f g [] i d l e = absurd (omega arith)
any-at f g (x ∷ xs) zero d l e = or_left (f (g x)) (list_any f (map g xs)) e
any-at f g (x ∷ xs) (suc i) d l e = or_right (f (g x)) (list_any f (map g xs)) (any-at f g xs i d (omega arith) e)

-- an element passes
pub any-hit : {X Y : Type 0} (f : Y → Bool) (g : X → Y) (xs its : List X) (i : ℕ) (d : X) (y : Y) → its ≡ xs → i < length its → y ≡ g (get_or its i d) → f y ≡ true → true ≡ list_any f (map g xs)
any-hit f g xs its i d y s l e h = sym (ap (λ zs. list_any f (map g zs)) (sym s) ∙ any-at f g its i d l (ap f (sym e) ∙ h))

all-at : {X Y : Type 0} (f : Y → Bool) (g : X → Y) (xs : List X) (i : ℕ) (d : X) → i < length xs → f (g (get_or xs i d)) ≡ false → list_all f (map g xs) ≡ false
all-at f g [] i d l e = absurd (omega arith)
all-at f g (x ∷ xs) zero d l e = and_left (f (g x)) (list_all f (map g xs)) e
all-at f g (x ∷ xs) (suc i) d l e = and_right (f (g x)) (list_all f (map g xs)) (all-at f g xs i d (omega arith) e)

-- an element fails
pub all-miss : {X Y : Type 0} (f : Y → Bool) (g : X → Y) (xs its : List X) (i : ℕ) (d : X) (y : Y) → its ≡ xs → i < length its → y ≡ g (get_or its i d) → f y ≡ false → false ≡ list_all f (map g xs)
all-miss f g xs its i d y s l e h = sym (ap (λ zs. list_all f (map g zs)) (sym s) ∙ all-at f g its i d l (ap f (sym e) ∙ h))

none-taken : {X Y : Type 0} (f : Y → Bool) (g : X → Y) (xs : List X) → list_all f (map g (take 0 xs)) ≡ true
none-taken f g [] = refl
none-taken f g (x ∷ xs) = refl

take-one : {X Y : Type 0} (f : Y → Bool) (g : X → Y) (xs : List X) (i : ℕ) (d : X) → i < length xs → list_all f (map g (take i xs)) ≡ true → f (g (get_or xs i d)) ≡ true → list_all f (map g (take (suc i) xs)) ≡ true
take-one f g [] i d l h e = absurd (omega arith)
take-one f g (x ∷ xs) zero d l h e = and_from (f (g x)) (list_all f (map g (take 0 xs))) e (none-taken f g xs)
take-one f g (x ∷ xs) (suc i) d l h e =
    let a = and_parts (f (g x)) (list_all f (map g (take i xs))) h in
    and_from (f (g x)) (list_all f (map g (take (suc i) xs))) a.0 (take-one f g xs i d (omega arith) a.1 e)

-- an element more passes
pub all-more : {X Y : Type 0} (f : Y → Bool) (g : X → Y) (xs its : List X) (i : ℕ) (d : X) (y : Y) → its ≡ xs → i < length its → list_all f (map g (take i xs)) ≡ true → y ≡ g (get_or its i d) → f y ≡ true → list_all f (map g (take (i + 1) xs)) ≡ true
all-more f g xs its i d y s l h e p =
    let next : i + 1 ≡ suc i = omega arith in
    ap (λ n. list_all f (map g (take n xs))) next ∙ ap (λ zs. list_all f (map g (take (suc i) zs))) (sym s) ∙ take-one f g its i d l (ap (λ zs. list_all f (map g (take i zs))) s ∙ h) (ap f (sym e) ∙ p)

-- Names that are there twice.
use Rattle.std.proofs.Common.{◌≡◌, ◌∙◌, refl, ap, sym, ℕ, Bool, true, false, cond, ◌||◌, List, [], ◌∷◌, ◌++◌, bytes_eq}
use Rattle.std.specs.Cmp.Lexicographic.{nat_list_eq_equiv}
use Rattle.std.specs.List.{list_any}
use Rattle.std.proofs.lemmas.List.Folds.{list_any-append}
use Rattle.nv_ast.specs.Tests.{is_among, has_twice}

or_four : (a b c d : Bool) → ((a || (b || false)) || (c || d)) ≡ ((b || c) || (a || d))
or_four true true c d = refl
or_four true false true d = refl
or_four true false false d = refl
or_four false true c d = refl
or_four false false c d = refl

turned : (x y : List ℕ) → bytes_eq x y ≡ bytes_eq y x
turned x y = nat_list_eq_equiv.symm x y

pub twice_more : (xs : List (List ℕ)) (y : List ℕ) → has_twice (xs ++ y ∷ []) ≡ (is_among y xs || has_twice xs)
twice_more [] y = refl
twice_more (x ∷ xs) y =
    ap (λ b. b || has_twice (xs ++ y ∷ [])) (list_any-append (bytes_eq x) xs (y ∷ []))
    ∙ ap (λ b. (is_among x xs || (b || false)) || has_twice (xs ++ y ∷ [])) (turned x y)
    ∙ ap (λ b. (is_among x xs || (bytes_eq y x || false)) || b) (twice_more xs y)
    ∙ or_four (is_among x xs) (bytes_eq y x) (is_among y xs) (has_twice xs)

here_step : (a b c d e : Bool) → (b || c) ≡ true → (c ≡ true → e ≡ true) → ((a || (b || d)) || e) ≡ true
here_step true b c d e h k = refl
here_step false true c d e h k = refl
here_step false false c true e h k = refl
here_step false false c false e h k = k h

pub twice_here : (xs ys : List (List ℕ)) (y : List ℕ) → is_among y xs ≡ true → has_twice (xs ++ y ∷ ys) ≡ true
twice_here [] ys y h = cc
twice_here (x ∷ xs) ys y h =
    ap (λ b. b || has_twice (xs ++ y ∷ ys)) (list_any-append (bytes_eq x) xs (y ∷ ys))
    ∙ ap (λ b. (is_among x xs || (b || list_any (bytes_eq x) ys)) || has_twice (xs ++ y ∷ ys)) (turned x y)
    ∙ here_step (is_among x xs) (bytes_eq y x) (is_among y xs) (list_any (bytes_eq x) ys) (has_twice (xs ++ y ∷ ys)) h (twice_here xs ys y)

before_step : (a b c d : Bool) → (a || c) ≡ true → (c ≡ true → d ≡ true) → ((a || b) || d) ≡ true
before_step true b c d h k = refl
before_step false true c d h k = refl
before_step false false c d h k = k h

-- what is there twice still is with more behind
pub twice_before : (xs ys : List (List ℕ)) → has_twice xs ≡ true → has_twice (xs ++ ys) ≡ true
twice_before [] ys h = cc
twice_before (x ∷ xs) ys h =
    ap (λ b. b || has_twice (xs ++ ys)) (list_any-append (bytes_eq x) xs ys)
    ∙ before_step (is_among x xs) (is_among x ys) (has_twice xs) (has_twice (xs ++ ys)) h (twice_before xs ys)

last_one : (b c : Bool) → cond b true c ≡ (c || (b || false))
last_one true true = refl
last_one true false = refl
last_one false true = refl
last_one false false = refl

pub among_more : (x y : List ℕ) (xs : List (List ℕ)) → cond (bytes_eq y x) true (is_among x xs) ≡ is_among x (xs ++ y ∷ [])
among_more x y xs = last_one (bytes_eq y x) (is_among x xs) ∙ ap (λ b. is_among x xs || (b || false)) (turned y x) ∙ sym (list_any-append (bytes_eq x) xs (y ∷ []))

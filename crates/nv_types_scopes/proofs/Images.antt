-- The items of a list, each in the image that a function gives of it.
use Rattle.std.proofs.Common.{◌≡◌, ◌∙◌, ap, ℕ, ◌+◌, ◌<◌, ◌≤◌, List, [], ◌∷◌, ◌++◌, take, drop, length, get_or, map}
use Rattle.std.proofs.Math.ListN.{drop_of_length-le}
use Rattle.std.proofs.lemmas.List.{map-append, take_all}
use Rattle.nv_ast.proofs.Items.{take_item, next_item}

pub image_before : {A B : Type 0} (f : A → B) (xs : List A) (i : ℕ) (x : A) → i < length xs → x ≡ get_or xs i x → map f (take (i + 1) xs) ≡ map f (take i xs) ++ f x ∷ []
image_before f xs i x h e = ap (map f) (take_item xs i x h e) ∙ map-append f (take i xs) (x ∷ [])

pub image_behind : {A B : Type 0} (f : A → B) (xs : List A) (i : ℕ) (x : A) → i < length xs → x ≡ get_or xs i x → map f (drop i xs) ≡ f x ∷ map f (drop (i + 1) xs)
image_behind f xs i x h e = ap (map f) (next_item xs i x h e)

pub image_all : {A B : Type 0} (f : A → B) (xs : List A) (n : ℕ) → length xs ≤ n → map f (take n xs) ≡ map f xs
image_all f xs n le = ap (map f) (take_all n xs le)

pub image_none : {A B : Type 0} (f : A → B) (xs : List A) (n : ℕ) → length xs ≤ n → map f (drop n xs) ≡ []
image_none f xs n le = ap (map f) (drop_of_length-le xs le)

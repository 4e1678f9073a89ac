-- The items of a list, one after another.
use Rattle.std.proofs.Common.{◌≡◌, ◌∙◌, ap, sym, ℕ, ◌+◌, ◌<◌, suc, List, [], ◌∷◌, ◌++◌, take, drop, length, get_or, add-one, append_assoc}
use Rattle.std.proofs.lemmas.List.{take_more}
use Rattle.std.proofs.Math.Seq.{split_at, drop-cons}

pub take_item : {A : Type 0} (xs : List A) (i : ℕ) (x : A) → i < length xs → x ≡ get_or xs i x → take (i + 1) xs ≡ take i xs ++ x ∷ []
take_item xs i x h e = take_more xs i x h ∙ ap (λ y. take i xs ++ y ∷ []) (sym e)

-- what is before the item, the item, and what is after it
pub split_item : {A : Type 0} (xs : List A) (i : ℕ) (x : A) → i < length xs → x ≡ get_or xs i x → xs ≡ take i xs ++ x ∷ drop (i + 1) xs
split_item xs i x h e = split_at xs i x h ∙ ap (λ y. take i xs ++ y ∷ drop (suc i) xs) (sym e) ∙ ap (λ k. take i xs ++ x ∷ drop k xs) (sym (add-one i))

pub next_item : {A : Type 0} (xs : List A) (i : ℕ) (x : A) → i < length xs → x ≡ get_or xs i x → drop i xs ≡ x ∷ drop (i + 1) xs
next_item xs i x h e = drop-cons xs i x h ∙ ap (λ k. get_or xs i x ∷ drop k xs) (sym (add-one i)) ∙ ap (λ q. q ∷ drop (i + 1) xs) (sym e)

-- a turn adds b to what was added before
pub added_step : {A : Type 0} (new middle base a b whole : List A) → new ≡ middle ++ b → middle ≡ base ++ a → whole ≡ a ++ b → new ≡ base ++ whole
added_step new middle base a b whole e f g = e ∙ ap (λ l. l ++ b) f ∙ append_assoc base a b ∙ ap (λ l. base ++ l) (sym g)

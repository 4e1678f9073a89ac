-- Contexts made one by one.
use Rattle.std.proofs.Common.{◌≡◌, ℕ, suc, ◌+◌, ◌<◌, ◌≤◌, List, [], ◌∷◌, ◌++◌, All, refl, ap, sym, ◌∙◌, length, get_or, drop, append_assoc, arith}
use Rattle.std.proofs.Math.Seq.{drop-cons}
use Rattle.std.proofs.lemmas.List.{append-nil, drop_all}
use Rattle.std.proofs.lemmas.List.Elements.{All-nil, All-cons}
use Rattle.uc_contexts.specs.declared.state.Context.{Context}
use Rattle.uc_contexts.specs.Turns.{starting, started_from}

-- one context more
pub started-more : (xs all : List Context) (n : ℕ) (args : List (List ℕ)) (d : List ℕ) → n < length args → xs ++ started_from n (drop n args) ≡ all
    → (xs ++ starting n (get_or args n d) ∷ []) ++ started_from (n + 1) (drop (n + 1) args) ≡ all
started-more xs all n args d inside h =
    let next : n + 1 ≡ suc n = omega arith in
    append_assoc xs (starting n (get_or args n d) ∷ []) (started_from (n + 1) (drop (n + 1) args))
    ∙ ap (λ k. xs ++ (starting n (get_or args n d) ∷ started_from k (drop k args))) next
    ∙ sym (ap (λ l. xs ++ started_from n l) (drop-cons args n d inside))
    ∙ h

-- what holds of each context before its first step
pub started-all : (P : Context → Type 0) (i : ℕ) (args : List (List ℕ)) → ((j : ℕ) (a : List ℕ) → P (starting j a)) → All P (started_from i args)
started-all P i [] h = All-nil P
started-all P i (a ∷ args) h = All-cons P (starting i a) (started_from (suc i) args) (h i a) (started-all P (suc i) args h)

pub started-length : (i : ℕ) (args : List (List ℕ)) → length (started_from i args) ≡ length args
started-length i [] = refl
started-length i (a ∷ args) = let rest : length (started_from (suc i) args) ≡ length args = started-length (suc i) args in omega arith

-- all were made
pub started-number : (xs : List Context) (n : ℕ) (args : List (List ℕ)) → length args ≤ n → xs ++ started_from n (drop n args) ≡ started_from 0 args → length xs ≡ length args
started-number xs n args past h =
    ap length (sym (append-nil xs)) ∙ sym (ap (λ l. length (xs ++ started_from n l)) (drop_all n args past)) ∙ ap length h ∙ started-length 0 args

-- Steps of a loop that keeps a part of each row.
use Rattle.std.proofs.Common.{◌≡◌, ℕ, ◌+◌, ◌<◌, ◌≤◌, List, [], ◌∷◌, ◌++◌, length, map, drop, get_or, sym, ap, ◌∙◌, append_assoc}
use Rattle.std.proofs.lemmas.List.{at_drop_more, at_drop_all, append-nil}
use Rattle.ssu_liveness.specs.LiveRows.{Kept, items_of}

pub rows-more : (f : List ℕ → List ℕ) (vs : List Kept) (i : ℕ) (d : Kept) (out out' : List (List ℕ)) (goal : List (List ℕ)) → i < length vs → out' ≡ out ++ f (get_or vs i d).items ∷ []
    → out ++ map f (items_of (drop i vs)) ≡ goal → out' ++ map f (items_of (drop (i + 1) vs)) ≡ goal
rows-more f vs i d out out' goal l e h =
    ap (λ o. o ++ map f (items_of (drop (i + 1) vs))) e ∙ append_assoc out (f (get_or vs i d).items ∷ []) (map f (items_of (drop (i + 1) vs)))
    ∙ sym (at_drop_more (λ ws. out ++ map f (items_of ws)) vs i d l) ∙ h

pub rows-all : (f : List ℕ → List ℕ) (vs : List Kept) (i : ℕ) (out goal : List (List ℕ)) → length vs ≤ i → out ++ map f (items_of (drop i vs)) ≡ goal → out ≡ goal
rows-all f vs i out goal l h = sym (append-nil out) ∙ sym (at_drop_all (λ ws. out ++ map f (items_of ws)) vs i l) ∙ h

-- What is found in a table, and what isn't there.
use Rattle.std.proofs.Common.{◌≡◌, ◌∙◌, refl, ap, sym, ℕ, true, false, cond, List, [], ◌∷◌, ◌++◌, get_or, Some, slice_get, position, Result, Ok, Err, true≢false, bytes_eq, map, ◌||◌, Bool, not}
use Rattle.std.specs.Result.{OnOk, is_err}
use Rattle.std.specs.List.{list_any}
use Rattle.std.specs.Borrow.{Bor}
use Rattle.std.specs.Cmp.Lexicographic.{bytes_decides}
use Rattle.std.specs.Option.{option_map}
use Rattle.std.proofs.lemmas.Option.{slice_get_within, slice_get-get_or, get_or_from_slice_get, slice_get-map}
use Rattle.std.proofs.lemmas.List.Quantifiers.{position-Some}
use Rattle.std.proofs.lemmas.List.Folds.{list_any_at}
use Rattle.nv_types_table.specs.declared.table.Cell.{Cell}
use Rattle.nv_types_table.specs.contracts.table.CellPartialEq.TheImpl.{eq-value}
use Rattle.nv_types_table.specs.inner.Named.{plain_names}
use Rattle.nv_types_table.proofs.CellSame.{cell_same, cell_itself}

pub was_ok : {T E : Type 0} (r : Result T E) (P : Type 0) → is_err r ≡ false → OnOk r P → P
was_ok (Ok x) P e h = h
was_ok (Err x) P e h = absurd (true≢false e)

-- whether a number was added, from whether it was there, and back
pub turned_back : (b r : Bool) → r ≡ not b → b ≡ not r
turned_back true r e = ap not (sym e)
turned_back false r e = ap not (sym e)

pub found_cell : (cells : List Cell) (c : Cell) (i : ℕ) → position (eq-value.it c) cells ≡ Some i → slice_get cells i ≡ Some c
found_cell cells c i h =
    let p = position-Some (eq-value.it c) cells i c h in
    slice_get-get_or cells i c p.0 ∙ ap Some (sym (cell_same c (get_or cells i c) p.1))

pub absent_cell : (cells : List Cell) (c : Cell) → list_any (eq-value.it c) cells ≡ false → (i : ℕ) → slice_get cells i ≡ Some c → ⊥
absent_cell cells c none i h =
    let here : eq-value.it c (get_or cells i c) ≡ true = ap (eq-value.it c) (get_or_from_slice_get cells i c c h) ∙ cell_itself c in
    true≢false (sym (list_any_at (eq-value.it c) cells i c (slice_get_within cells i c h) here) ∙ none)

pub inserted_cell : (cells more : List Cell) (c : Cell) → list_any (eq-value.it c) cells ≡ false → more ≡ cond (list_any (eq-value.it c) cells) cells (cells ++ c ∷ []) → more ≡ cells ++ c ∷ []
inserted_cell cells more c none e = e ∙ ap (λ b. cond b cells (cells ++ c ∷ [])) none

-- ---- names
pub name_at : (keys : List (Bor (List ℕ))) (i : ℕ) (k : Bor (List ℕ)) → slice_get keys i ≡ Some k → slice_get (plain_names keys) i ≡ Some k.now
name_at keys i k h = ap (λ l. slice_get l i) (plain_map keys) ∙ slice_get-map (λ (b : Bor (List ℕ)). b.now) keys i ∙ ap (option_map (λ (b : Bor (List ℕ)). b.now)) h
  where
    plain_map : (ks : List (Bor (List ℕ))) → plain_names ks ≡ map (λ (b : Bor (List ℕ)). b.now) ks
    plain_map [] = refl
    plain_map (x ∷ xs) = ap (λ l. x.now ∷ l) (plain_map xs)

pub plain-append : (xs ys : List (Bor (List ℕ))) → plain_names (xs ++ ys) ≡ plain_names xs ++ plain_names ys
plain-append [] ys = refl
plain-append (x ∷ xs) ys = ap (λ l. x.now ∷ l) (plain-append xs ys)

pub any_name : (keys : List (Bor (List ℕ))) (x : List ℕ) → list_any (λ k. bytes_eq x k.now) keys ≡ list_any (bytes_eq x) (plain_names keys)
any_name [] x = refl
any_name (k ∷ ks) x = ap (λ b. bytes_eq x k.now || b) (any_name ks x)

pub absent_name : (names : List (List ℕ)) (x : List ℕ) → list_any (bytes_eq x) names ≡ false → (i : ℕ) → slice_get names i ≡ Some x → ⊥
absent_name names x none i h =
    let here : bytes_eq x (get_or names i x) ≡ true = (bytes_decides x (get_or names i x)).1 (sym (get_or_from_slice_get names i x x h)) in
    true≢false (sym (list_any_at (bytes_eq x) names i x (slice_get_within names i x h) here) ∙ none)

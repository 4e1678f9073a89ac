-- the bounds of leaves of small programs, by computing
use Rattle.std.proofs.Common.{◌≡◌, ℕ, zero, suc, ◌*◌, List, [], ◌∷◌, length, map, slice_get, slice_index, slice_index_or, refl, ap, ◌∙◌, Bool, true, false, Option, Some, None, ℤ, pos, ◌+ℤ◌, ◌-ℤ◌, ◌*ℤ◌}
use Rattle.zo_model.specs.Contents.{Contents, RowContents, contents, row_contents}
use Rattle.zo_model.specs.Program.{total, sum_below}
use Rattle.zo_model.specs.declared.program.Row.{Row}
use Rattle.zo_model.specs.declared.program.ZeroOne.{ZeroOne}
use Rattle.zo_cert_tree.specs.Certificate.{bound, coefficient, least_of, least_part, least_sum, terms_of, weight}
use Rattle.zo_cert.specs.Laws.{ClashOfOneRow, CoverBound, CoverBoundBelowOne, CoverBoundBelowZero, ShortCoverBound, cover, free_columns, three_of_two}

-- the terms and the least of a row that is there, by what the rows contain
abbrev terms_in : Option RowContents → List (ℕ × ℤ)
terms_in (Some r) = r.terms
terms_in None = []

abbrev least_in : Option RowContents → ℤ
least_in (Some r) = r.least
least_in None = pos 0

row_at : (rs : List Row) (i : ℕ) → (terms_of (slice_get rs i) ≡ terms_in (slice_get (map row_contents rs) i)) × (least_of (slice_get rs i) ≡ least_in (slice_get (map row_contents rs) i))
row_at [] i = (refl, refl)
row_at (r ∷ rs) zero = (refl, refl)
row_at (r ∷ rs) (suc i) = row_at rs i

-- the bound, by what the program contains
abbrev bound_in : Contents → ℕ → List (ℕ × ℕ) → List (Option Bool) → ℤ
bound_in p d ms fixed =
    total (λ m. pos m.1 *ℤ least_in (slice_get p.rows m.0)) ms
    +ℤ sum_below (length p.costs) (λ j. least_part (slice_index_or fixed j None) (pos (d * slice_index p.costs j) -ℤ total (λ m. pos m.1 *ℤ coefficient (terms_in (slice_get p.rows m.0)) j) ms))

bound_by : (z : ZeroOne) (d : ℕ) (ms : List (ℕ × ℕ)) (fixed : List (Option Bool)) → bound z d ms fixed ≡ bound_in (contents z) d ms fixed
unfolding bound least_sum weight
bound_by z d ms fixed =
    λ i. total (λ m. pos m.1 *ℤ (row_at z.rows.items m.0).1 i) ms
    +ℤ sum_below (length z.costs.items) (λ j. least_part (slice_index_or fixed j None) (pos (d * slice_index z.costs.items j) -ℤ total (λ m. pos m.1 *ℤ coefficient ((row_at z.rows.items m.0).0 i) j) ms))

bound_at : (z : ZeroOne) (p : Contents) (d : ℕ) (ms : List (ℕ × ℕ)) (fixed : List (Option Bool)) → contents z ≡ p → bound z d ms fixed ≡ bound_in p d ms fixed
bound_at z p d ms fixed e = bound_by z d ms fixed ∙ ap (λ q. bound_in q d ms fixed) e

pub cover_bound : CoverBound
unfolding coefficient
cover_bound z e = bound_at z cover 2 ((0, 1) ∷ (1, 1) ∷ (2, 1) ∷ []) free_columns e

pub short_cover_bound : ShortCoverBound
unfolding coefficient
short_cover_bound z e = bound_at z cover 2 ((0, 1) ∷ (1, 1) ∷ []) free_columns e

pub cover_bound_below_zero : CoverBoundBelowZero
unfolding coefficient
cover_bound_below_zero z e = bound_at z cover 1 ((0, 1) ∷ (2, 1) ∷ []) (Some false ∷ None ∷ None ∷ []) e

pub cover_bound_below_one : CoverBoundBelowOne
unfolding coefficient
cover_bound_below_one z e = bound_at z cover 1 ((1, 1) ∷ []) (Some true ∷ None ∷ None ∷ []) e

pub clash_of_one_row : ClashOfOneRow
unfolding coefficient
clash_of_one_row z e = bound_at z three_of_two 0 ((0, 1) ∷ []) (None ∷ None ∷ []) e

-- What the numbers of all points are good for: live values get numbers below a bound, no two the same.
use Rattle.std.proofs.Common.{◌≡◌, ℕ, suc, ◌≤◌, Bool, true, ◌&&◌, Option, Some, List, [], ◌∷◌, length, map, refl, sym, ap, subst, ◌∙◌, arith}
use Rattle.std.specs.Prelude.{slice_get, All}
use Rattle.std.specs.List.{list_all, AllZip}
use Rattle.std.proofs.lemmas.List.Elements.{All-nil, All-cons, All-head, All-tail}
use Rattle.std.proofs.lemmas.Bool.{and_parts}
use Rattle.nv_base.specs.Sets.{all_different}
use Rattle.ssu_ir.specs.declared.ssu.Ssu.{Ssu}
use Rattle.ssu_ir.specs.Points.{PointKind, Point, points}
use Rattle.ssu_ir.specs.Single.{all_defined, is_entry, is_single, single}
use Rattle.ssu_ir.specs.Measures.{peak}
use Rattle.ssu_ir.specs.Slots.{bare_all}
use Rattle.ssu_ir.specs.View.{placed_of, labels_view}
use Rattle.ssu_liveness.specs.LiveRows.{IsRow, IsRowOf, HaveNumbers, Kept, items_of}
use Rattle.ssu_liveness.specs.declared.point_ids.PointId.{PointId}
use Rattle.ssu_liveness.specs.inner.Live.{labels_rows, value_by, source_among, longest}
use Rattle.ssu_liveness.specs.inner.Numbers.{Numbers, AreNumbered, groups, values_among}
use Rattle.ssu_liveness.specs.inner.PointIds.{kind_of_point}
use Rattle.ssu_liveness.proofs.Kept.{rows-of-whole, longest-is-peak}
use Rattle.ssu_liveness.proofs.Numbering.{IsKept, Spread, places-of-labels, different-labels, numbers-spread}

pub all-found : (P : Point → Type 0) (ps : List Point) → ((k : ℕ) (q : Point) → slice_get ps k ≡ Some q → P q) → All P ps
all-found P [] h = All-nil P
all-found P (q ∷ ps) h = All-cons P q ps (h 0 q refl) (all-found P ps (λ k p e. h (suc k) p e))

-- the longest row is as long as the peak
pub longest-of-whole : (s : Ssu) (source : ℕ → Option ℕ) (rows : List (List ℕ)) → single (labels_view s) ≡ true → ((z : ℕ) → source z ≡ source_among (bare_all (placed_of s)) z) → rows ≡ labels_rows (value_by source) (labels_view s) → longest rows ≡ peak (labels_view s)
longest-of-whole s source rows h e f = longest-is-peak s rows (rows-of-whole s source rows h e f)

-- ---- what the numbering rests on

pub once-at-points : (s : Ssu) → single (labels_view s) ≡ true → all_different (values_among (map (λ p. p.place) (points (labels_view s)))) ≡ true
once-at-points s h =
    let view = labels_view s in
    let a = and_parts (is_entry (slice_get view 0)) (all_different (all_defined view) && list_all (is_single view) view) h in
    let b = and_parts (all_different (all_defined view)) (list_all (is_single view) view) a.1 in
    ap (λ ps. all_different (values_among ps)) (places-of-labels 0 view) ∙ different-labels 0 view b.0

same-count : {X Y : Type 0} (f : X → Y) (xs : List X) → length (map f xs) ≡ length xs
same-count f [] = refl
same-count f (x ∷ xs) = omega (arith, same-count f xs)

zip-count : (rows : List (List ℕ)) (ps : List Point) → AllZip IsRow rows ps → length rows ≡ length ps
zip-count [] [] h = refl
zip-count [] (p ∷ ps) h = absurd h
zip-count (r ∷ rows) [] h = absurd h
zip-count (r ∷ rows) (p ∷ ps) h = omega (arith, zip-count rows ps h.1)

pub row-each-point : (s : Ssu) (source : ℕ → Option ℕ) (rows : List Kept) (point_ids : List PointId) → single (labels_view s) ≡ true → ((z : ℕ) → source z ≡ source_among (bare_all (placed_of s)) z)
    → items_of rows ≡ labels_rows (value_by source) (labels_view s) → map (kind_of_point s) point_ids ≡ map (λ p. p.place) (points (labels_view s)) → length rows ≡ length point_ids
row-each-point s source rows point_ids h e f g =
    let ps = points (labels_view s) in
    let a : length (items_of rows) ≡ length rows = same-count (λ (v : Kept). v.items) rows in
    let b : length (items_of rows) ≡ length ps = zip-count (items_of rows) ps (rows-of-whole s source (items_of rows) h e f) in
    let c : length (map (λ (p : Point). p.place) ps) ≡ length ps = same-count (λ (p : Point). p.place) ps in
    let d : length (map (kind_of_point s) point_ids) ≡ length point_ids = same-count (kind_of_point s) point_ids in
    let k : length (map (kind_of_point s) point_ids) ≡ length (map (λ (p : Point). p.place) ps) = ap length g in
    omega arith

-- ---- rows of those live values that pass a test

kept-zip : (keep : ℕ → Bool) (n : ℕ) (rows whole : List (List ℕ)) (ps : List Point) → AllZip (IsRowOf keep) rows ps → All (λ row. length row ≤ n) rows → AllZip IsRow whole ps → AllZip (IsKept keep n) rows whole
kept-zip keep n [] [] [] z l w = tt
kept-zip keep n [] [] (p ∷ ps) z l w = absurd z
kept-zip keep n [] (v ∷ whole) [] z l w = absurd w
kept-zip keep n [] (v ∷ whole) (p ∷ ps) z l w = absurd z
kept-zip keep n (r ∷ rows) whole [] z l w = absurd z
kept-zip keep n (r ∷ rows) [] (p ∷ ps) z l w = absurd w
kept-zip keep n (r ∷ rows) (v ∷ whole) (p ∷ ps) z l w = (
  record { members = λ x. z.0.members x ∙ ap (λ b. keep x && b) (sym (w.0.members x)); short = All-head (λ row. length row ≤ n) r rows l },
  kept-zip keep n rows whole ps z.1 (All-tail (λ row. length row ≤ n) r rows l) w.1,
)

pub kept-numbers : (s : Ssu) (keep : ℕ → Bool) (number : Numbers) (n : ℕ) (qs : List PointKind) (rows : List (List ℕ)) → single (labels_view s) ≡ true → qs ≡ map (λ p. p.place) (points (labels_view s)) → AreNumbered (groups qs rows) number
    → AllZip (IsRowOf keep) rows (points (labels_view s)) → All (λ row. length row ≤ n) rows → All (HaveNumbers keep number n) (points (labels_view s))
kept-numbers s keep number n qs rows h f a z l =
    let view = labels_view s in
    let source : ℕ → Option ℕ = source_among (bare_all (placed_of s)) in
    let whole = labels_rows (value_by source) view in
    let zip : AllZip (IsKept keep n) rows whole = kept-zip keep n rows whole (points view) z l (rows-of-whole s source whole h (λ x. refl) refl) in
    let there : AreNumbered (groups (map (λ (p : Point). p.place) (points view)) rows) number = subst (λ (ps : List PointKind). AreNumbered (groups ps rows) number) f a in
    all-found (HaveNumbers keep number n) (points view) (λ k q w.
    let sp : Spread keep n q.before number = numbers-spread keep n s source number rows h (λ x. refl) zip there k q w in
    record { given = λ x t i. let b = sp.given x t i in (b.it, b.has, b.below); apart = λ x y m t u i j ne b c. sp.apart x y m t u i j ne b c })

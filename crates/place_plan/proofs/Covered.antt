-- The numbers of all points are below a bound, where no row of live values is longer.
use Rattle.std.proofs.Common.{◌≡◌, ℕ, ◌≤◌, true, Option, List, [], ◌∷◌, map, refl, subst, arith}
use Rattle.std.specs.Prelude.{All}
use Rattle.std.specs.List.{AllZip}
use Rattle.ssu_ir.specs.declared.ssu.Ssu.{Ssu}
use Rattle.ssu_ir.specs.Points.{PointKind, Point, points}
use Rattle.ssu_ir.specs.Single.{single}
use Rattle.ssu_ir.specs.Slots.{bare_all}
use Rattle.ssu_ir.specs.View.{placed_of, labels_view}
use Rattle.ssu_liveness.specs.inner.Live.{labels_rows, value_by, source_among, longest}
use Rattle.ssu_liveness.specs.inner.Numbers.{Numbers, AreNumbered, groups}
use Rattle.ssu_liveness.proofs.Numbering.{IsKept, Spread, numbers-spread}
use Rattle.ssu_liveness.proofs.Covering.{all-found}
use Rattle.place_plan.specs.inner.Spilled.{IsNumbered}

-- rows of which every value is numbered
all-kept : (m : ℕ) (rows : List (List ℕ)) → longest rows ≤ m → AllZip (IsKept (λ x. true) m) rows rows
all-kept m [] l = tt
all-kept m (r ∷ rows) l = (record { members = λ x. refl; short = omega arith }, all-kept m rows (omega arith))

pub numbers-there : (s : Ssu) (source : ℕ → Option ℕ) (number : Numbers) (m : ℕ) (qs : List PointKind) (rows : List (List ℕ)) → single (labels_view s) ≡ true → ((z : ℕ) → source z ≡ source_among (bare_all (placed_of s)) z)
    → qs ≡ map (λ p. p.place) (points (labels_view s)) → rows ≡ labels_rows (value_by source) (labels_view s) → AreNumbered (groups qs rows) number → longest rows ≤ m → All (IsNumbered number m) (points (labels_view s))
numbers-there s source number m qs rows h e f g a l =
    let zip : AllZip (IsKept (λ x. true) m) rows (labels_rows (value_by source) (labels_view s)) = subst (λ (w : List (List ℕ)). AllZip (IsKept (λ x. true) m) rows w) g (all-kept m rows l) in
    let there : AreNumbered (groups (map (λ (p : Point). p.place) (points (labels_view s))) rows) number = subst (λ (ps : List PointKind). AreNumbered (groups ps rows) number) f a in
    all-found (IsNumbered number m) (points (labels_view s)) (λ k q w.
    let sp : Spread (λ x. true) m q.before number = numbers-spread (λ x. true) m s source number rows h e zip there k q w in
    record { covered = record { given = λ x i. sp.given x refl i }; apart = λ x y n i j ne b c. sp.apart x y n refl refl i j ne b c })

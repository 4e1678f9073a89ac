-- The tables of a form are made in one walk over its points.
use Rattle.std.proofs.Common.{◌≡◌, ℕ, suc, ◌+◌, ◌<◌, ◌≤◌, Bool, true, false, if◌then◌else◌, nat_eq, nat_le, List, [], ◌∷◌, ◌++◌, length, map, drop, get_or, Option, Some, None, refl, sym, ap, ◌∙◌, append_assoc, arith}
use Rattle.std.specs.List.{flat_map}
use Rattle.std.proofs.lemmas.List.{at_drop_more, at_drop_all, append-nil, length-map}
use Rattle.ssu_ir.specs.Tree.{Label}
use Rattle.ssu_ir.specs.Points.{Names, PointKind, Point, points}
use Rattle.place_plan.specs.Uses as pure
use Rattle.place_plan.specs.Uses.{Role, Argument, Ending, roles, numbered, values_from, uses_from, accesses_from, values, uses, accesses, uses_of, uses_at, place_values, place_roles, place_accesses, reads_at, writes_at}
use Rattle.place_plan.specs.inner.Parts.{gather, place_names}
use Rattle.place_plan.proofs.Named.{IsNamed}
use Rattle.place_plan.proofs.Sound.{Each}
use Rattle.bank_prog_form.specs.Columns.{each_point, origin_in, place_words}
use Rattle.bank_prog_form.specs.Rows.{two_operands}
use Rattle.bank_prog_form.specs.declared.form.Origin.{Origin}
use Rattle.bank_prog_form.specs.inner.Form as form
use Rattle.bank_prog_form.specs.inner.Form.{Part, part_of, part_at, parts_at, part_values, part_uses, part_accesses, origin_view, origin_found, origin_noted, known_sort, used_by, use_of}
use Rattle.bank_prog_form.proofs.Loops.{each-parts, flat-filter, map-itself}

-- ---- numbered pieces

pub numbered-more : (k : ℕ) (origin : ℕ → pure.ValueOrigin) (i : ℕ) (xs : List ℕ) (d : ℕ) (out out' goal : List pure.Value) → i < length xs → out' ≡ out ++ record { point = k; var = get_or xs i d; origin = origin i } ∷ []
    → out ++ numbered k origin i (drop i xs) ≡ goal → out' ++ numbered k origin (i + 1) (drop (i + 1) xs) ≡ goal
numbered-more k origin i xs d out out' goal l e h =
    let n : i + 1 ≡ suc i = omega arith in
    ap (λ m. out' ++ numbered k origin m (drop (i + 1) xs)) n ∙ ap (λ o. o ++ numbered k origin (suc i) (drop (i + 1) xs)) e
    ∙ append_assoc out (record { point = k; var = get_or xs i d; origin = origin i } ∷ []) (numbered k origin (suc i) (drop (i + 1) xs))
    ∙ sym (at_drop_more (λ ys. out ++ numbered k origin i ys) xs i d l) ∙ h

pub numbered-all : (k : ℕ) (origin : ℕ → pure.ValueOrigin) (i : ℕ) (xs : List ℕ) (out goal : List pure.Value) → length xs ≤ i → out ++ numbered k origin i (drop i xs) ≡ goal → out ≡ goal
numbered-all k origin i xs out goal l h = sym (append-nil out) ∙ sym (at_drop_all (λ ys. out ++ numbered k origin i ys) xs i l) ∙ h

pub uses-more : (of : Names) (k o : ℕ) (role : ℕ → Role) (i : ℕ) (xs : List ℕ) (d : ℕ) (out out' goal : List pure.Use) → i < length xs → out' ≡ out ++ use_of of k o (get_or xs i d) (role i)
    → out ++ form.uses_from of k o role i (drop i xs) ≡ goal → out' ++ form.uses_from of k (o + 1) role (i + 1) (drop (i + 1) xs) ≡ goal
uses-more of k o role i xs d out out' goal l e h =
    let n : i + 1 ≡ suc i = omega arith in
    let m : o + 1 ≡ suc o = omega arith in
    ap (λ z. out' ++ form.uses_from of k z role (i + 1) (drop (i + 1) xs)) m
    ∙ ap (λ z. out' ++ form.uses_from of k (suc o) role z (drop (i + 1) xs)) n ∙ ap (λ z. z ++ form.uses_from of k (suc o) role (suc i) (drop (i + 1) xs)) e
    ∙ append_assoc out (use_of of k o (get_or xs i d) (role i)) (form.uses_from of k (suc o) role (suc i) (drop (i + 1) xs))
    ∙ sym (at_drop_more (λ ys. out ++ form.uses_from of k o role i ys) xs i d l) ∙ h

pub uses-all : (of : Names) (k o : ℕ) (role : ℕ → Role) (i : ℕ) (xs : List ℕ) (out goal : List pure.Use) → length xs ≤ i → out ++ form.uses_from of k o role i (drop i xs) ≡ goal → out ≡ goal
uses-all of k o role i xs out goal l h = sym (append-nil out) ∙ sym (at_drop_all (λ ys. out ++ form.uses_from of k o role i ys) xs i l) ∙ h

pub uses-run : (of : Names) (k o : ℕ) (role : ℕ → Role) (i : ℕ) (xs : List ℕ) → form.uses_from of k o role i xs ≡ uses_at k o (map of xs) (roles role i xs)
uses-run of k o role i [] = refl
uses-run of k o role i (x ∷ xs) = ap (λ us. record { point = k; operand = o; value = of x; role = role i } ∷ us) (uses-run of k (suc o) role (suc i) xs)

pub gather-more : {X V : Type 0} (f : ℕ → PointKind → List X) (view : V → PointKind) (xs : List V) (i : ℕ) (d : V) (out out' goal : List X) → i < length xs → out' ≡ out ++ f i (view (get_or xs i d))
    → out ++ gather f i (map view (drop i xs)) ≡ goal → out' ++ gather f (i + 1) (map view (drop (i + 1) xs)) ≡ goal
gather-more f view xs i d out out' goal l e h =
    let n : i + 1 ≡ suc i = omega arith in
    ap (λ m. out' ++ gather f m (map view (drop (i + 1) xs))) n ∙ ap (λ o. o ++ gather f (suc i) (map view (drop (i + 1) xs))) e
    ∙ append_assoc out (f i (view (get_or xs i d))) (gather f (suc i) (map view (drop (i + 1) xs)))
    ∙ sym (at_drop_more (λ ys. out ++ gather f i (map view ys)) xs i d l) ∙ h

pub gather-all : {X V : Type 0} (f : ℕ → PointKind → List X) (view : V → PointKind) (xs : List V) (i : ℕ) (out goal : List X) → length xs ≤ i → out ++ gather f i (map view (drop i xs)) ≡ goal → out ≡ goal
gather-all f view xs i out goal l h = sym (append-nil out) ∙ sym (at_drop_all (λ ys. out ++ gather f i (map view ys)) xs i l) ∙ h

-- ---- no two operands

pub no-arguments : (l i : ℕ) (xs : List ℕ) → false ≡ two_operands (roles (Argument l) i xs)
no-arguments l i [] = refl
no-arguments l i (x ∷ xs) = refl

pub no-endings : (i : ℕ) (xs : List ℕ) → false ≡ two_operands (roles Ending i xs)
no-endings i [] = refl
no-endings i (x ∷ xs) = refl

-- ---- points

part-same : (of : Names) (k : ℕ) (q : Point) → IsNamed of q → part_at of k q.place ≡ part_of k q
part-same of k q h =
    ap (λ b. record {
      point = k;
      words = place_words q.place;
      two = two_operands (place_roles q.place);
      busy = b;
      values = place_values k q.place;
      uses = uses_at k 0 (map of (place_names q.place)) (place_roles q.place);
      reads = reads_at k q.place;
      writes = writes_at k q.place;
    }) (ap (nat_le 1) (sym (length-map (place_names q.place) of) ∙ ap length (sym h)))
    ∙ ap (λ us. record {
      point = k;
      words = place_words q.place;
      two = two_operands (place_roles q.place);
      busy = nat_le 1 (length q.uses);
      values = place_values k q.place;
      uses = uses_at k 0 us (place_roles q.place);
      reads = reads_at k q.place;
      writes = writes_at k q.place;
    }) (sym h)

pub parts-gathered : (of : Names) (k : ℕ) (ps : List Point) → Each (IsNamed of) ps → gather (parts_at of) k (map (λ p. p.place) ps) ≡ each_point (λ k q. part_of k q ∷ []) k ps
parts-gathered of k [] h = refl
parts-gathered of k (q ∷ ps) h = ap (λ p. p ∷ gather (parts_at of) (suc k) (map (λ p. p.place) ps)) (part-same of k q h.0) ∙ ap (λ rest. part_of k q ∷ rest) (parts-gathered of (suc k) ps h.1)

pub values-each : (k : ℕ) (ps : List Point) → each_point (λ k q. place_values k q.place) k ps ≡ values_from k ps
values-each k [] = refl
values-each k (q ∷ ps) = ap (λ vs. place_values k q.place ++ vs) (values-each (suc k) ps)

pub uses-each : (k : ℕ) (ps : List Point) → each_point (λ k q. uses_at k 0 q.uses (place_roles q.place)) k ps ≡ uses_from k ps
uses-each k [] = refl
uses-each k (q ∷ ps) = ap (λ us. uses_at k 0 q.uses (place_roles q.place) ++ us) (uses-each (suc k) ps)

pub accesses-each : (k : ℕ) (ps : List Point) → each_point (λ k q. place_accesses k q.place) k ps ≡ accesses_from k ps
accesses-each k [] = refl
accesses-each k (q ∷ ps) = ap (λ as'. place_accesses k q.place ++ as') (accesses-each (suc k) ps)

pub values-parts : (labels : List Label) → flat_map part_values (form.parts labels) ≡ values labels
values-parts labels = each-parts part_values (λ k q. place_values k q.place) (λ k q. refl) 0 (points labels) ∙ values-each 0 (points labels)

pub uses-parts : (labels : List Label) → flat_map part_uses (form.parts labels) ≡ uses labels
uses-parts labels = each-parts part_uses (λ k q. uses_at k 0 q.uses (place_roles q.place)) (λ k q. refl) 0 (points labels) ∙ uses-each 0 (points labels)

pub accesses-parts : (labels : List Label) → flat_map part_accesses (form.parts labels) ≡ accesses labels
accesses-parts labels = each-parts part_accesses (λ k q. place_accesses k q.place) (λ k q. refl) 0 (points labels) ∙ accesses-each 0 (points labels)

-- ---- by variable

abbrev pub sort_then : Option pure.ValueOrigin → pure.ValueOrigin → pure.ValueOrigin
sort_then (Some s) r = s
sort_then None r = r

origin-step : (o : Option pure.ValueOrigin) (v : pure.Value) (x : ℕ) (r : pure.ValueOrigin) → sort_then (origin_noted o v x) r ≡ sort_then o (if nat_eq v.var x then v.origin else r)
origin-step (Some s) v x r = refl
origin-step None v x r = pick (nat_eq v.var x)
  where
    pick : (b : Bool) → sort_then (if b then Some v.origin else None) r ≡ (if b then v.origin else r)
    pick true = refl
    pick false = refl

pub origins-more : {V : Type 0} (view : V → pure.Value) (xs : List V) (i : ℕ) (d : V) (x : ℕ) (o o' : Option pure.ValueOrigin) (goal : pure.ValueOrigin) → i < length xs → o' ≡ origin_noted o (view (get_or xs i d)) x
    → sort_then o (origin_in (map view (drop i xs)) x) ≡ goal → sort_then o' (origin_in (map view (drop (i + 1) xs)) x) ≡ goal
origins-more view xs i d x o o' goal l e h =
    ap (λ p. sort_then p (origin_in (map view (drop (i + 1) xs)) x)) e ∙ origin-step o (view (get_or xs i d)) x (origin_in (map view (drop (i + 1) xs)) x)
    ∙ sym (at_drop_more (λ ys. sort_then o (origin_in (map view ys) x)) xs i d l) ∙ h

known-then : (o : Option Origin) → known_sort o ≡ sort_then (origin_found o) pure.Result
known-then (Some s) = refl
known-then None = refl

pub origins-all : {V : Type 0} (view : V → pure.Value) (xs : List V) (i : ℕ) (x : ℕ) (o : Option Origin) (goal : pure.ValueOrigin) → length xs ≤ i → sort_then (origin_found o) (origin_in (map view (drop i xs)) x) ≡ goal → known_sort o ≡ goal
origins-all view xs i x o goal l h = known-then o ∙ sym (at_drop_all (λ ys. sort_then (origin_found o) (origin_in (map view ys) x)) xs i l) ∙ h

pub users-found : (labels : List Label) (x : ℕ) → flat_map (used_by x) (uses labels) ≡ uses_of labels x
users-found labels x = flat-filter (λ (u : pure.Use). nat_eq u.value x) (λ u. u) (uses labels) ∙ map-itself (uses_of labels x)

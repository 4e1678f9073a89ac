-- The written words that wait at each point.
use Rattle.std.proofs.Common.{◌≡◌, ℕ, suc, ◌+◌, ◌<◌, ◌≤◌, Bool, true, false, cond, if◌then◌else◌, ◌&&◌, nat_eq, nat_lt, nat_le, List, [], ◌∷◌, ◌++◌, length, map, drop, get_or, Option, Some, None, refl, sym, ap, ◌∙◌, append_assoc, arith}
use Rattle.std.specs.List.{flat_map, filter}
use Rattle.std.proofs.lemmas.List.{at_drop_more, at_drop_all, append-nil}
use Rattle.nv_base.specs.Sets.{is_in, all_different}
use Rattle.ssu_ir.specs.Tree.{Label}
use Rattle.ssu_ir.specs.Points.{Point, place_values, points}
use Rattle.place_plan.specs.Uses as pure
use Rattle.place_plan.specs.Uses.{values_from}
use Rattle.place_plan.specs.Fits.{point_values}
use Rattle.ssu_liveness.specs.inner.Numbers.{values_among}
use Rattle.place_plan.proofs.Fitting.{vars-of-place}
use Rattle.bank_prog_form.specs.Columns.{each_point}
use Rattle.bank_prog_form.specs.Rows.{waiting, is_written}
use Rattle.bank_prog_form.specs.inner.Form.{part_of}
use Rattle.bank_prog_form.specs.inner.Adds.{either}
use Rattle.bank_prog_rows.specs.inner.Waiting.{waiting_from, all_waiting, point_in, covers, is_below, waits_by, written_only, kept_waiting, each_waiting, read_from}
use Rattle.bank_prog_form.proofs.Loops.{flat-filter, map-itself}
use Rattle.bank_prog_rows.proofs.Below.{counts}
use Rattle.bank_prog_rows.proofs.Above.{under, Tested, tested-as, all-tested, first-covers}

-- ---- points of values

point-step : (o : Option ℕ) (b : Bool) (j : ℕ) (r : Option ℕ) → either (either o (if b then Some j else None)) r ≡ either o (if b then Some j else r)
point-step (Some k) b j r = refl
point-step None true j r = refl
point-step None false j r = refl

pub points-more : {V : Type 0} (view : V → pure.Value) (xs : List V) (i : ℕ) (d : V) (x : ℕ) (o o' goal : Option ℕ) → i < length xs
    → o' ≡ either o (if nat_eq (view (get_or xs i d)).var x then Some (view (get_or xs i d)).point else None) → either o (point_in (map view (drop i xs)) x) ≡ goal → either o' (point_in (map view (drop (i + 1) xs)) x) ≡ goal
points-more view xs i d x o o' goal l e h =
    let v = view (get_or xs i d) in
    let r = point_in (map view (drop (i + 1) xs)) x in
    ap (λ p. either p r) e ∙ point-step o (nat_eq v.var x) v.point r ∙ sym (at_drop_more (λ ys. either o (point_in (map view ys) x)) xs i d l) ∙ h

either-none : (o : Option ℕ) → o ≡ either o None
either-none (Some k) = refl
either-none None = refl

pub points-all : {V : Type 0} (view : V → pure.Value) (xs : List V) (i x : ℕ) (o goal : Option ℕ) → length xs ≤ i → either o (point_in (map view (drop i xs)) x) ≡ goal → o ≡ goal
points-all view xs i x o goal l h = either-none o ∙ sym (at_drop_all (λ ys. either o (point_in (map view ys) x)) xs i l) ∙ h

-- ---- points one after another

some-element : {V : Type 0} (xs : List V) (i : ℕ) → i < length xs → V
some-element [] i l = absurd (omega arith)
some-element (x ∷ xs) i l = x

pub each-more : {V : Type 0} (below : List ℕ) (point : ℕ → Option ℕ) (us : List pure.Use) (xs : List V) (i : ℕ) (out out' goal : List (List pure.Use)) → i < length xs
    → out' ≡ out ++ flat_map (kept_waiting below point i) us ∷ [] → out ++ each_waiting below point us i (drop i xs) ≡ goal → out' ++ each_waiting below point us (i + 1) (drop (i + 1) xs) ≡ goal
each-more below point us xs i out out' goal l e h =
    let n : i + 1 ≡ suc i = omega arith in
    ap (λ m. out' ++ each_waiting below point us m (drop (i + 1) xs)) n ∙ ap (λ o. o ++ each_waiting below point us (suc i) (drop (i + 1) xs)) e
    ∙ append_assoc out (flat_map (kept_waiting below point i) us ∷ []) (each_waiting below point us (suc i) (drop (i + 1) xs)) ∙ sym (at_drop_more (λ ys. out ++ each_waiting below point us i ys) xs i (some-element xs i l) l) ∙ h

pub each-all : {V : Type 0} (below : List ℕ) (point : ℕ → Option ℕ) (us : List pure.Use) (xs : List V) (i : ℕ) (out goal : List (List pure.Use)) → length xs ≤ i
    → out ++ each_waiting below point us i (drop i xs) ≡ goal → out ≡ goal
each-all below point us xs i out goal l h = sym (append-nil out) ∙ sym (at_drop_all (λ ys. out ++ each_waiting below point us i ys) xs i l) ∙ h

-- ---- the words of one point

both-filters : (p w : pure.Use → Bool) (us : List pure.Use) → ((u : pure.Use) → p u ≡ (is_written u.role && w u)) → filter p us ≡ filter (λ u. is_written u.role) (filter w us)
both-filters p w [] h = refl
both-filters p w (u ∷ us) h = ap (λ b. cond b (u ∷ filter p us) (filter p us)) (h u) ∙ pick (is_written u.role) (w u) refl (both-filters p w us h)
  where
    pick : (a b : Bool) → is_written u.role ≡ a → filter p us ≡ filter (λ u. is_written u.role) (filter w us)
        → cond (a && b) (u ∷ filter p us) (filter p us) ≡ filter (λ u. is_written u.role) (cond b (u ∷ filter w us) (filter w us))
    pick true true e r = ap (λ vs. u ∷ vs) r ∙ ap (λ c. cond c (u ∷ filter (λ u. is_written u.role) (filter w us)) (filter (λ u. is_written u.role) (filter w us))) (sym e)
    pick true false e r = r
    pick false true e r = r ∙ ap (λ c. cond c (u ∷ filter (λ u. is_written u.role) (filter w us)) (filter (λ u. is_written u.role) (filter w us))) (sym e)
    pick false false e r = r

point-words : (labels : List Label) (below : List ℕ) (point : ℕ → Option ℕ) (k : ℕ) (q : Point) → ((x : ℕ) → is_in x (q.above ++ place_values q.place) ≡ covers (read_from below) (point x) k) → read_from below k ≡ q.below
    → flat_map (kept_waiting below point k) (pure.uses labels) ≡ filter (λ u. is_written u.role) (waiting labels k q)
point-words labels below point k q h b =
    flat-filter (waits_by below point k) (λ u. u) (pure.uses labels) ∙ map-itself (filter (waits_by below point k) (pure.uses labels))
    ∙ both-filters (waits_by below point k) (λ u. is_in u.value (q.above ++ point_values k q) && (nat_lt k u.point && nat_le u.point (k + q.below))) (pure.uses labels)
    (λ u. ap (λ c. is_written u.role && (c && (nat_lt k u.point && nat_le u.point (k + read_from below k)))) (sym (h u.value) ∙ ap (λ vs. is_in u.value (q.above ++ vs)) (sym (vars-of-place k q.place)))
    ∙ ap (λ m. is_written u.role && (is_in u.value (q.above ++ point_values k q) && (nat_lt k u.point && nat_le u.point (k + m)))) b)

points-words : {V : Type 0} (labels : List Label) (below : List ℕ) (point : ℕ → Option ℕ) (k : ℕ) (xs : List V) (ps : List Point) → length xs ≡ length ps
    → ((x : ℕ) → Tested x (λ k. covers (read_from below) (point x) k) k ps) → ((i : ℕ) → i < length ps → read_from below (k + i) ≡ get_or (counts ps) i 0)
    → each_waiting below point (pure.uses labels) k xs ≡ waiting_from labels k ps
points-words labels below point k [] [] n h b = refl
points-words labels below point k [] (q ∷ ps) n h b = absurd (omega (arith, n))
points-words labels below point k (x ∷ xs) [] n h b = absurd (omega (arith, n))
points-words labels below point k (x ∷ xs) (q ∷ ps) n h b =
    let zero-up : k ≡ k + 0 = omega arith in
    ap (λ ws. ws ∷ each_waiting below point (pure.uses labels) (suc k) xs) (point-words labels below point k q (λ y. (h y).0) (ap (read_from below) zero-up ∙ b 0 (omega arith)))
    ∙ ap (λ rest. filter (λ u. is_written u.role) (waiting labels k q) ∷ rest)
    (points-words labels below point (suc k) xs ps (omega (arith, n)) (λ y. (h y).1) (λ i l. (let m : suc k + i ≡ k + suc i = omega arith in ap (read_from below) m) ∙ b (suc i) (omega (arith, l))))

pub all-words : {V : Type 0} (labels : List Label) (below : List ℕ) (point : ℕ → Option ℕ) (xs : List V) → length xs ≡ length (points labels) → all_different (values_among (map (λ p. p.place) (points labels))) ≡ true
    → below ≡ counts (points labels) → ((x : ℕ) → point x ≡ point_in (pure.values labels) x) → each_waiting below point (pure.uses labels) 0 xs ≡ all_waiting labels
all-words labels below point xs n d b p =
    let at : (i : ℕ) → read_from below (0 + i) ≡ get_or (counts (points labels)) i 0 = λ i. (let m : 0 + i ≡ i = omega arith in ap (read_from below) m) ∙ ap (λ bs. get_or bs i 0) b in
    points-words labels below point 0 xs (points labels) n
    (λ x. tested-as x (λ k. under x 0 (points labels) k) (λ k. covers (read_from below) (point x) k) 0 (points labels)
    (λ k lo hi. first-covers (read_from below) x 0 (points labels) k d (λ i l. at i) ∙ ap (λ o. covers (read_from below) o k) (sym (p x)))
    (all-tested x 0 labels 0))
    (λ i l. at i)

pub length-parts : (k : ℕ) (ps : List Point) → length (each_point (λ k q. part_of k q ∷ []) k ps) ≡ length ps
length-parts k [] = refl
length-parts k (q ∷ ps) = ap suc (length-parts (suc k) ps)

-- ---- only written words wait

only-written : (below : List ℕ) (point : ℕ → Option ℕ) (k : ℕ) (us : List pure.Use) → flat_map (kept_waiting below point k) (flat_map written_only us) ≡ flat_map (kept_waiting below point k) us
only-written below point k [] = refl
only-written below point k (u ∷ us) = pick (is_written u.role) refl (only-written below point k us)
  where
    pick : (b : Bool) → is_written u.role ≡ b → flat_map (kept_waiting below point k) (flat_map written_only us) ≡ flat_map (kept_waiting below point k) us
        → flat_map (kept_waiting below point k) ((if b then u ∷ [] else []) ++ flat_map written_only us) ≡ kept_waiting below point k u ++ flat_map (kept_waiting below point k) us
    pick true e h = ap (λ ws. kept_waiting below point k u ++ ws) h
    pick false e h =
        h ∙ ap (λ b. (if b && (covers (read_from below) (point u.value) k && is_below (read_from below) k u.point) then u ∷ [] else []) ++ flat_map (kept_waiting below point k) us) (sym e)

pub each-written : {V : Type 0} (below : List ℕ) (point : ℕ → Option ℕ) (us : List pure.Use) (k : ℕ) (xs : List V) → each_waiting below point (flat_map written_only us) k xs ≡ each_waiting below point us k xs
each-written below point us k [] = refl
each-written below point us k (x ∷ xs) =
    ap (λ ws. ws ∷ each_waiting below point (flat_map written_only us) (suc k) xs) (only-written below point k us) ∙ ap (λ rest. flat_map (kept_waiting below point k) us ∷ rest) (each-written below point us (suc k) xs)

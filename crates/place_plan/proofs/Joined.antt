-- What was gathered point by point is the placement that has every value in a slot.
use Rattle.std.proofs.Common.{◌≡◌, ℕ, suc, ◌+◌, ◌<◌, ◌≤◌, Bool, true, false, not, nat_eq, if◌then◌else◌, ◌||◌, ◌&&◌, ⊎_elim, Option, Some, None, List, [], ◌∷◌, ◌++◌, length, map, filter, refl, sym, ap, subst, ◌∙◌, arith}
use Rattle.std.specs.Prelude.{All, Contains, slice_get, nat_lt}
use Rattle.std.specs.HashMap.{get}
use Rattle.std.specs.HashSet.{contains}
use Rattle.std.specs.List.{list_any, list_all}
use Rattle.std.specs.List.Sorted.{IsPermutation, IsNonDecreasingBy}
use Rattle.std.proofs.lemmas.List.{map-append}
use Rattle.std.proofs.lemmas.List.Elements.{All-weaker, All-contains_itself, filter-append}
use Rattle.std.proofs.lemmas.List.Sorted.{IsPermutation-map, length_permutation, All-permutation, list_any-IsPermutation}
use Rattle.std.proofs.lemmas.Bool.{and_parts, and_from, or_cases, or_left, or_right, not-true, not_from_false, false≢true, false_from_ne_true, lt-ltb}
use Rattle.nv_base.specs.Sets.{is_in, all_different, different}
use Rattle.nv_base.proofs.Sets.{different-below, different-length, different-all}
use Rattle.nv_base.specs.declared.term.Mem.{Mem}
use Rattle.ssu_ir.specs.declared.ssu.Ssu.{Ssu}
use Rattle.ssu_ir.specs.Tree.{Lit, Una, Bin, Clone, Read, Write, Label, Does, Forks, Ends}
use Rattle.ssu_ir.specs.Points as pure
use Rattle.ssu_ir.specs.Points.{Names, PointKind, Entry, At, Point, points}
use Rattle.ssu_ir.specs.Single.{all_defined, is_entry, is_single, single}
use Rattle.ssu_ir.specs.Slots.{bare_all}
use Rattle.ssu_ir.specs.View.{placed_of, labels_view}
use Rattle.place_plan.specs.declared.place.First.{First}
use Rattle.place_plan.specs.declared.place.Serve.{Serve}
use Rattle.place_plan.specs.declared.place.Pass.{Pass}
use Rattle.place_plan.specs.declared.place.Home.{Home as KeptHome}
use Rattle.place_plan.specs.declared.parts.SpillInputs.{SpillInputs}
use Rattle.place_plan.specs.declared.parts.Parts.{Parts}
use Rattle.place_plan.specs.Plan.{Home, Plan, home_view}
use Rattle.place_plan.specs.Uses.{accesses_from, accesses, place_accesses, ValueOrigin, Parameter, Fetched, Value, numbered, place_values, values_from, values, place_roles, uses_at, uses_from, uses, is_used}
use Rattle.place_plan.specs.Fits.{wants_home, Rises, Fits}
use Rattle.ssu_liveness.specs.inner.Live.{source_among}
use Rattle.ssu_liveness.specs.inner.Numbers.{Numbers, values_among}
use Rattle.place_plan.specs.inner.Spilled.{slot_number, origin_home, value_home, AreSpilled, use_serve, access_first, read_pass, write_pass, point_pass, passes_from, spilled, IsNumbered}
use Rattle.place_plan.specs.inner.Parts.{gather, in_byte, bytes, number_of, names_of, used_of, place_names, used_at, slot_home, fetched_homes, homes_at, firsts_at, serves_at, pass_at, passes_at, AreGathered}
use Rattle.ssu_liveness.proofs.Scoped.{in-itself}
use Rattle.ssu_liveness.proofs.Numbering.{places-of-labels, different-labels}
use Rattle.place_plan.proofs.Sound.{Each, uses_among, sound-points}
use Rattle.place_plan.proofs.Fitting.{uses-are, values-are, vars-of-place}
use Rattle.place_plan.proofs.Homes.{home-var, homes-are-spilled}
use Rattle.place_plan.proofs.Slotted.{spilled-fits}
use Rattle.place_plan.proofs.Named.{IsNamed, points-named}

-- ---- which values are used

gathered-uses : (value : Names) (k : ℕ) (ps : List Point) → Each (IsNamed value) ps → gather (used_at value) k (map (λ p. p.place) ps) ≡ uses_among ps
gathered-uses value k [] h = refl
gathered-uses value k (q ∷ ps) h = ap (λ l. l ++ gather (used_at value) (suc k) (map (λ p. p.place) ps)) (sym h.0) ∙ ap (λ l. q.uses ++ l) (gathered-uses value (suc k) ps h.1)

used-is : (labels : List Label) (value : Names) (x : ℕ) → single labels ≡ true → Each (IsNamed value) (points labels) → is_in x (gather (used_at value) 0 (map (λ p. p.place) (points labels))) ≡ is_used labels x
used-is labels value x form h =
    let ps = points labels in
    let vs = values_among (map (λ (q : Point). q.place) ps) in
    ap (λ l. is_in x l) (gathered-uses value 0 ps h ∙ sym (uses-are labels vs (uses_among ps) 0 ps (sound-points labels form)))

-- ---- firsts and serves

gathered-firsts : (k : ℕ) (ps : List Point) → gather firsts_at k (map (λ p. p.place) ps) ≡ map access_first (accesses_from k ps)
gathered-firsts k [] = refl
gathered-firsts k (q ∷ ps) = ap (λ l. firsts_at k q.place ++ l) (gathered-firsts (suc k) ps) ∙ sym (map-append access_first (place_accesses k q.place) (accesses_from (suc k) ps))

gathered-serves : (labels : List Label) (number : Numbers) (value : Names) (k : ℕ) (ps : List Point) → Each (IsNamed value) ps → gather (serves_at labels number value) k (map (λ p. p.place) ps) ≡ map (use_serve labels number) (uses_from k ps)
gathered-serves labels number value k [] h = refl
gathered-serves labels number value k (q ∷ ps) h =
    let rest = gather (serves_at labels number value) (suc k) (map (λ (p : Point). p.place) ps) in
    ap (λ l. map (use_serve labels number) (uses_at k 0 l (place_roles q.place)) ++ rest) (sym h.0)
    ∙ ap (λ l. map (use_serve labels number) (uses_at k 0 q.uses (place_roles q.place)) ++ l) (gathered-serves labels number value (suc k) ps h.1)
    ∙ sym (map-append (use_serve labels number) (uses_at k 0 q.uses (place_roles q.place)) (uses_from (suc k) ps))

-- ---- passes

read-by-names : (value : Names) (xs : List ℕ) → read_pass xs ≡ read_pass (map value xs)
read-by-names value [] = refl
read-by-names value (x ∷ xs) = refl

any-var : (f g : ℕ → Bool) (vs : List Value) → ((x : ℕ) → f x ≡ g x) → list_any f (map (λ v. v.var) vs) ≡ list_any (λ v. g v.var) vs
any-var f g [] h = refl
any-var f g (v ∷ vs) h = ap (λ b. b || list_any f (map (λ w. w.var) vs)) (h v.var) ∙ ap (λ b. g v.var || b) (any-var f g vs h)

abbrev a_pass : ℕ → Option ℕ → Option ℕ → Pass
a_pass k l s = record { point = k; l = l; s = s }

pass-there : (labels : List Label) (used : ℕ → Bool) (value : Names) (k : ℕ) (q : Point) → IsNamed value q → ((x : ℕ) → used x ≡ is_used labels x) → pass_at used k q.place ≡ point_pass labels k q
pass-there labels used value k q h u =
    ap (λ (o : Option ℕ). a_pass k o (write_pass (list_any used (pure.place_values q.place)))) (read-by-names value (place_names q.place) ∙ ap read_pass (sym h))
    ∙ ap (λ b. a_pass k (read_pass q.uses) (write_pass b)) (ap (list_any used) (sym (vars-of-place k q.place)) ∙ any-var used (is_used labels) (place_values k q.place) u)

gathered-passes : (labels : List Label) (used : ℕ → Bool) (value : Names) (k : ℕ) (ps : List Point) → Each (IsNamed value) ps → ((x : ℕ) → used x ≡ is_used labels x) → gather (passes_at used) k (map (λ p. p.place) ps) ≡ passes_from labels k ps
gathered-passes labels used value k [] h u = refl
gathered-passes labels used value k (q ∷ ps) h u =
    ap (λ (p : Pass). p ∷ gather (passes_at used) (suc k) (map (λ (w : Point). w.place) ps)) (pass-there labels used value k q h.0 u) ∙ ap (λ l. point_pass labels k q ∷ l) (gathered-passes labels used value (suc k) ps h.1 u)

-- ---- homes

params-homes : (labels : List Label) (number : Numbers) (k l i : ℕ) (xs : List ℕ) → map (slot_home number) xs ≡ map (value_home number) (filter (wants_home labels) (numbered k (Parameter l) i xs))
params-homes labels number k l i [] = refl
params-homes labels number k l i (x ∷ xs) = ap (λ m. slot_home number x ∷ m) (params-homes labels number k l (suc i) xs)

abbrev a_value : ℕ → ℕ → ValueOrigin → Value
a_value k x origin = record { point = k; var = x; origin = origin }

fetched-there : (labels : List Label) (number : Numbers) (used : ℕ → Bool) (m : Mem) (k i : ℕ) (xs : List ℕ) → ((x : ℕ) → used x ≡ is_used labels x) → fetched_homes number used m i xs ≡ map (value_home number) (filter (wants_home labels) (numbered k (Fetched m) i xs))
fetched-there labels number used m k i [] u = refl
fetched-there labels number used m k i (x ∷ xs) u =
    ap (λ b. (if b then origin_home (slot_number number x) x (Fetched m i) ∷ [] else []) ++ fetched_homes number used m (suc i) xs) (u x)
    ∙ pick (is_used labels x) (fetched-there labels number used m k (suc i) xs u)
  where
    pick : (b : Bool) → fetched_homes number used m (suc i) xs ≡ map (value_home number) (filter (wants_home labels) (numbered k (Fetched m) (suc i) xs))
        → (if b then origin_home (slot_number number x) x (Fetched m i) ∷ [] else []) ++ fetched_homes number used m (suc i) xs
        ≡ map (value_home number) (if b then a_value k x (Fetched m i) ∷ filter (wants_home labels) (numbered k (Fetched m) (suc i) xs) else filter (wants_home labels) (numbered k (Fetched m) (suc i) xs))
    pick true h = ap (λ l. origin_home (slot_number number x) x (Fetched m i) ∷ l) h
    pick false h = h

homes-there : (labels : List Label) (number : Numbers) (used : ℕ → Bool) (k : ℕ) (q : PointKind) → ((x : ℕ) → used x ≡ is_used labels x) → homes_at number used k q ≡ map (value_home number) (filter (wants_home labels) (place_values k q))
homes-there labels number used k (Entry l ps) u = params-homes labels number k l 0 ps
homes-there labels number used k (At (Does (Lit x v))) u = refl
homes-there labels number used k (At (Does (Una x op y))) u = refl
homes-there labels number used k (At (Does (Bin x op y z))) u = refl
homes-there labels number used k (At (Does (Clone xs y))) u = refl
homes-there labels number used k (At (Does (Read m xs y))) u = fetched-there labels number used m k 0 xs u
homes-there labels number used k (At (Does (Write m y xs))) u = refl
homes-there labels number used k (At (Forks c x y)) u = refl
homes-there labels number used k (At (Ends l)) u = refl

gathered-homes : (labels : List Label) (number : Numbers) (used : ℕ → Bool) (k : ℕ) (ps : List Point) → ((x : ℕ) → used x ≡ is_used labels x) → gather (homes_at number used) k (map (λ p. p.place) ps) ≡ map (value_home number) (filter (wants_home labels) (values_from k ps))
gathered-homes labels number used k [] u = refl
gathered-homes labels number used k (q ∷ ps) u =
    let here = place_values k q.place in
    let rest = values_from (suc k) ps in
    ap (λ l. l ++ gather (homes_at number used) (suc k) (map (λ (p : Point). p.place) ps)) (homes-there labels number used k q.place u)
    ∙ ap (λ l. map (value_home number) (filter (wants_home labels) here) ++ l) (gathered-homes labels number used (suc k) ps u)
    ∙ sym (map-append (value_home number) (filter (wants_home labels) here) (filter (wants_home labels) rest))
    ∙ ap (map (value_home number)) (sym (filter-append (wants_home labels) here rest))

-- ---- homes by rising variable

different-more : (x : ℕ) (xs : List ℕ) (b : Bool) → is_in x xs ≡ b → (different xs ≡ length xs → all_different xs ≡ true) → (if b then different xs else 1 + different xs) ≡ suc (length xs) → (not b && all_different xs) ≡ true
different-more x xs true f h g = let l = different-length xs in absurd (omega arith)
different-more x xs false f h g = h (omega arith)

pub different-by-count : (xs : List ℕ) → different xs ≡ length xs → all_different xs ≡ true
different-by-count [] e = refl
different-by-count (x ∷ xs) e = let rest : different xs ≡ length xs → all_different xs ≡ true = λ f. different-by-count xs f in different-more x xs (is_in x xs) refl rest e

pub still-different : (xs ys : List ℕ) → IsPermutation xs ys → all_different xs ≡ true → all_different ys ≡ true
still-different xs ys p d =
    let same : (x : ℕ) → is_in x xs ≡ is_in x ys = λ x. list_any-IsPermutation (λ y. nat_eq x y) xs ys p in
    let a = different-below xs ys (λ x e. sym (same x) ∙ e) in
    let b = different-below ys xs (λ x e. same x ∙ e) in
    let c = different-all xs d in
    let l = length_permutation xs ys p in
    different-by-count ys (omega arith)

kept-more : (x : ℕ) (v : Value) (vs rest : List Value) (b : Bool) → (is_in x (map (λ w. w.var) rest) ≡ true → is_in x (map (λ w. w.var) vs) ≡ true) → is_in x (map (λ w. w.var) (if b then v ∷ rest else rest)) ≡ true → is_in x (map (λ w. w.var) (v ∷ vs)) ≡ true
kept-more x v vs rest true h g = ⊎_elim
    (λ (a : nat_eq x v.var ≡ true). or_left (nat_eq x v.var) (is_in x (map (λ (w : Value). w.var) vs)) a)
    (λ (b : is_in x (map (λ (w : Value). w.var) rest) ≡ true). or_right (nat_eq x v.var) (is_in x (map (λ (w : Value). w.var) vs)) (h b))
    (or_cases (nat_eq x v.var) (is_in x (map (λ (w : Value). w.var) rest)) g)
kept-more x v vs rest false h g = or_right (nat_eq x v.var) (is_in x (map (λ (w : Value). w.var) vs)) (h g)

in-kept : (f : Value → Bool) (vs : List Value) (x : ℕ) → is_in x (map (λ v. v.var) (filter f vs)) ≡ true → is_in x (map (λ v. v.var) vs) ≡ true
in-kept f [] x e = e
in-kept f (v ∷ vs) x e = kept-more x v vs (filter f vs) (f v) (λ g. in-kept f vs x g) e

different-if : (v : Value) (rest : List Value) (b : Bool) → is_in v.var (map (λ w. w.var) rest) ≡ false → all_different (map (λ w. w.var) rest) ≡ true → all_different (map (λ w. w.var) (if b then v ∷ rest else rest)) ≡ true
different-if v rest true out h = and_from (not (is_in v.var (map (λ (w : Value). w.var) rest))) (all_different (map (λ (w : Value). w.var) rest)) (not_from_false (is_in v.var (map (λ (w : Value). w.var) rest)) out) h
different-if v rest false out h = h

pub different-kept : (f : Value → Bool) (vs : List Value) → all_different (map (λ v. v.var) vs) ≡ true → all_different (map (λ v. v.var) (filter f vs)) ≡ true
different-kept f [] h = refl
different-kept f (v ∷ vs) h =
    let p = and_parts (not (is_in v.var (map (λ (w : Value). w.var) vs))) (all_different (map (λ (w : Value). w.var) vs)) h in
    different-if v (filter f vs) (f v)
    (false_from_ne_true (is_in v.var (map (λ (w : Value). w.var) (filter f vs))) (λ e. false≢true (sym (not-true (is_in v.var (map (λ (w : Value). w.var) vs)) p.0) ∙ in-kept f vs v.var e)))
    (different-kept f vs p.1)

pub values-different : (labels : List Label) → single labels ≡ true → all_different (map (λ v. v.var) (values labels)) ≡ true
values-different labels form =
    let a = and_parts (is_entry (slice_get labels 0)) (all_different (all_defined labels) && list_all (is_single labels) labels) form in
    let b = and_parts (all_different (all_defined labels)) (list_all (is_single labels) labels) a.1 in
    ap all_different (values-are 0 (points labels)) ∙ ap (λ ps. all_different (values_among ps)) (places-of-labels 0 labels) ∙ different-labels 0 labels b.0

vars-made : (number : Numbers) (vs : List Value) → map (λ h. h.var) (map (value_home number) vs) ≡ map (λ v. v.var) vs
vars-made number [] = refl
vars-made number (v ∷ vs) = ap (λ x. x ∷ map (λ h. h.var) (map (value_home number) vs)) (home-var (slot_number number v.var) v.var v.origin) ∙ ap (λ l. v.var ∷ l) (vars-made number vs)

pub rises : (hs : List KeptHome) → IsNonDecreasingBy (λ h. h.var) hs → all_different (map (λ h. h.var) (map home_view hs)) ≡ true → Rises (map (λ h. h.var) (map home_view hs))
rises [] n d = tt
rises (h ∷ []) n d = tt
rises (h ∷ g ∷ hs) n d =
    let vars = map (λ (w : Home). w.var) (map home_view (g ∷ hs)) in
    let p = and_parts (not (is_in h.var vars)) (all_different vars) d in
    let le : h.var ≤ g.var = n 0 1 h (omega arith) (omega arith) in
    let ne : h.var ≡ g.var → ⊥ = λ e. false≢true (sym (not-true (is_in h.var vars) p.0) ∙ or_left (nat_eq h.var g.var) (is_in h.var (map (λ (w : Home). w.var) (map home_view hs))) (ap (nat_eq h.var) (sym e) ∙ in-itself h.var)) in
    (omega arith, rises (g ∷ hs) (λ i j e a b. n (suc i) (suc j) e (omega arith) (omega arith)) p.1)

pub homes-sorted : (labels : List Label) (number : Numbers) (built sorted : List KeptHome) → single labels ≡ true → map home_view built ≡ map (value_home number) (filter (wants_home labels) (values labels)) → IsPermutation built sorted → IsNonDecreasingBy (λ h. h.var) sorted
    → AreSpilled labels number (map home_view sorted)
homes-sorted labels number built sorted form e p n =
    let wanted = filter (wants_home labels) (values labels) in
    let made = map (value_home number) wanted in
    let homes = map home_view sorted in
    let vars = map (λ (h : Home). h.var) homes in
    let perm : IsPermutation made homes = subst (λ (l : List Home). IsPermutation l homes) e (IsPermutation-map home_view built sorted p) in
    let moved : IsPermutation (map (λ (v : Value). v.var) wanted) vars = subst (λ l. IsPermutation l vars) (vars-made number wanted) (IsPermutation-map (λ (h : Home). h.var) made homes perm) in
    let same : (x : ℕ) → is_in x (map (λ (v : Value). v.var) wanted) ≡ is_in x vars = λ x. list_any-IsPermutation (λ y. nat_eq x y) (map (λ (v : Value). v.var) wanted) vars moved in
    homes-are-spilled labels number homes form
    (rises sorted n (still-different (map (λ (v : Value). v.var) wanted) vars moved (different-kept (wants_home labels) (values labels) (values-different labels form))))
    (λ x f. sym (same x) ∙ f) (λ x f. same x ∙ f)
    (All-permutation (Contains made) made homes perm (All-contains_itself made))

-- ---- numbers in bytes

to-byte : (n : ℕ) → n < 256 → in_byte (Some n) ≡ Some n
to-byte n l = ap (λ b. if b then Some n else None) (lt-ltb n 256 l)

from-byte : (o : Option ℕ) (m : ℕ) → in_byte o ≡ Some m → o ≡ Some m
from-byte (Some n) m e = pick (nat_lt n 256) e
  where
    pick : (b : Bool) → (if b then Some n else None) ≡ Some m → Some n ≡ Some m
    pick true f = f
    pick false f = absurd (cc)
from-byte None m e = absurd (cc)

pub numbered-bytes : (number : Numbers) (n : ℕ) (ps : List Point) → n ≤ 128 → All (IsNumbered number n) ps → All (IsNumbered (bytes number) n) ps
numbered-bytes number n ps l h = All-weaker (IsNumbered number n) (IsNumbered (bytes number) n)
    (λ q d. record {
      covered = record { given = λ x e. let b = d.covered.given x e in let below : b.it < n = b.below in record { it = b.it; has = ap in_byte b.has ∙ to-byte b.it (omega arith); below = b.below } };
      apart = λ x y m e g ne a b. d.apart x y m e g ne (from-byte (number x) m a) (from-byte (number y) m b);
    })
    ps h

-- ---- the whole

abbrev a_plan : ℕ → List Home → List First → List Serve → List Pass → Plan
a_plan slots homes firsts serves passes = record { slots = slots; homes = homes; firsts = firsts; serves = serves; passes = passes }

plan-is : (labels : List Label) (number : Numbers) (slots : ℕ) (homes : List Home) (firsts : List First) (serves : List Serve) (passes : List Pass) → firsts ≡ map access_first (accesses labels) → serves ≡ map (use_serve labels number) (uses labels) → passes ≡ passes_from labels 0 (points labels)
    → a_plan slots homes firsts serves passes ≡ spilled labels number slots homes
plan-is labels number slots homes firsts serves passes e f g =
    ap (λ l. a_plan slots homes l serves passes) e
    ∙ ap (λ l. a_plan slots homes (map access_first (accesses labels)) l passes) f
    ∙ ap (λ l. a_plan slots homes (map access_first (accesses labels)) (map (use_serve labels number) (uses labels)) l) g

pub placed-fits : (s : Ssu) (given : SpillInputs) (places : List PointKind) (parts : Parts) (sorted : List KeptHome) (slots : ℕ) → single (labels_view s) ≡ true → slots ≤ 128 → All (IsNumbered (get nat_eq given.slots) slots) (points (labels_view s))
    → ((z : ℕ) → get nat_eq given.copies z ≡ source_among (bare_all (placed_of s)) z) → ((z : ℕ) → contains nat_eq given.used z ≡ is_in z (gather (used_at (names_of given)) 0 places)) → places ≡ map (λ p. p.place) (points (labels_view s))
    → AreGathered (labels_view s) given places parts → IsPermutation parts.homes.items sorted → IsNonDecreasingBy (λ h. h.var) sorted
    → Fits (labels_view s) (a_plan slots (map home_view sorted) parts.firsts.items parts.serves.items parts.passes.items)
placed-fits s given places parts sorted slots form few numbers sources uses' there g perm up =
    let labels = labels_view s in
    let ps = points labels in
    let number = number_of given in
    let value = names_of given in
    let homes = map home_view sorted in
    let named : Each (IsNamed value) ps = points-named s (get nat_eq given.copies) form sources in
    let used : (x : ℕ) → used_of given x ≡ is_used labels x = λ x. uses' x ∙ ap (λ l. is_in x (gather (used_at value) 0 l)) there ∙ used-is labels value x form named in
    let at-home : AreSpilled labels number homes =
    homes-sorted labels number parts.homes.items sorted form (g.homes ∙ ap (gather (homes_at number (used_of given)) 0) there ∙ gathered-homes labels number (used_of given) 0 ps used) perm up in
    subst (λ (p : Plan). Fits labels p)
    (sym (plan-is labels number slots homes parts.firsts.items parts.serves.items parts.passes.items
    (g.firsts ∙ ap (gather firsts_at 0) there ∙ gathered-firsts 0 ps)
    (g.serves ∙ ap (gather (serves_at labels number value) 0) there ∙ gathered-serves labels number value 0 ps named)
    (g.passes ∙ ap (gather (passes_at (used_of given)) 0) there ∙ gathered-passes labels (used_of given) value 0 ps named used)))
    (spilled-fits labels number slots homes form few (numbered-bytes (get nat_eq given.slots) slots ps few numbers) at-home)

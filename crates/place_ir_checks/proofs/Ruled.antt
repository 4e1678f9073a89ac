-- The rules of lists, accesses and uses, as they are tested and as they are said.
use Rattle.std.proofs.Common.{◌≡◌, ℕ, zero, suc, ◌+◌, ◌*◌, Bool, true, false, not, ◌&&◌, ◌||◌, nat_eq, ◌⊎◌, inl, inr, ⊎_elim, List, [], ◌∷◌, ◌++◌, Option, Some, None, length, map, filter, refl, sym, ap, subst, ◌∙◌, arith, if◌then◌else◌}
use Rattle.std.specs.Prelude.{slice_get, nat_le, nat_lt, ◌==◌, ◌%◌, ◌/◌}
use Rattle.std.proofs.lemmas.Bool.{and_parts, and_from, or_cases, or_left, or_right, false≢true, lt-ltb, ltb-true, le-leb, leb-true, eq-eqb, cases_Bool}
use Rattle.std.proofs.lemmas.Nat.{div-add-mod', mod-mul-add}
use Rattle.std.proofs.lemmas.Option.{slice_get_within, slice_get-get_or}
use Rattle.nv_base.specs.declared.term.Mem.{Mem}
use Rattle.nv_base.specs.declared.term.Mem.TheVariants.{Sram, Sdram, Scratch}
use Rattle.nv_base.specs.Sets.{is_in}
use Rattle.nv_base.proofs.Sets.{same-number, in-append}
use Rattle.ssu_ir.specs.Tree.{Lit, Una, Bin, Clone, Read, Write, Label, Does, Forks, Ends}
use Rattle.ssu_ir.specs.Points as pure
use Rattle.ssu_ir.specs.Points.{PointKind as Spot, Entry, At, Point, points}
use Rattle.place_plan.specs.declared.place.Place.{Place}
use Rattle.place_plan.specs.declared.place.Place.TheVariants.{A, B, L, LD, S, SD, Slot}
use Rattle.place_plan.specs.declared.place.Serve.{Serve}
use Rattle.place_plan.specs.Places.{same_place}
use Rattle.place_plan.specs.Plan.{Plan, home, first, pass}
use Rattle.place_plan.specs.Uses.{Access, Parameter, Fetched, Value, numbered, place_values, values_from, values, place_accesses, accesses_from, Role, Operand, Address, Written, Argument, Ending, Use, uses, is_used}
use Rattle.place_plan.specs.Fits.{Rises, wants_home, IsFirst, is_home, IsOperandAt, IsAddressAt, parameter, IsServedAt, IsServed, served, word_register}
use Rattle.place_ir_checks.specs.inner.NodeLookups.{place_at, place_node}
use Rattle.place_ir_checks.specs.inner.Checks.{used, rise, is_read, wants_at, is_wanted, is_access, next_is, firsts_fit, is_first, access_fits, is_read_through, is_operand_at, is_address_at, role_fits, use_fits, found}
use Rattle.place_plan.proofs.Places.{same_place-true, same_place-from}
use Rattle.ssu_liveness.proofs.Scoped.{in-itself}
use Rattle.place_plan.proofs.Sound.{Each}
use Rattle.place_ir_checks.proofs.Recovered.{point-there}
use Rattle.place_ir_checks.proofs.Seen.{below-at, below-from}
use Rattle.place_ir_checks.proofs.Valued.{used-is}
use Rattle.place_ir_checks.specs.inner.NodeLookups as numbers

-- ---- numbers that rise

rise-from-last : (y : ℕ) (xs : List ℕ) → rise (Some y) xs ≡ true → Rises (y ∷ xs)
rise-from-last y [] e = tt
rise-from-last y (x ∷ xs) e = let a = and_parts (nat_lt y x) (rise (Some x) xs) e in (ltb-true y x a.0, rise-from-last x xs a.1)

rise-to-last : (y : ℕ) (xs : List ℕ) → Rises (y ∷ xs) → rise (Some y) xs ≡ true
rise-to-last y [] h = refl
rise-to-last y (x ∷ xs) h = and_from (nat_lt y x) (rise (Some x) xs) (lt-ltb y x h.0) (rise-to-last x xs h.1)

pub rise-from : (xs : List ℕ) → rise None xs ≡ true → Rises xs
rise-from [] e = tt
rise-from (x ∷ xs) e = rise-from-last x xs e

pub rise-to : (xs : List ℕ) → Rises xs → rise None xs ≡ true
rise-to [] h = refl
rise-to (x ∷ xs) h = rise-to-last x xs h

-- ---- values that want homes

-- the values among these that want a home
abbrev pub wanting : List Label → List Value → List ℕ
wanting labels vs = map (λ v. v.var) (filter (wants_home labels) vs)

pub wanting-append : (labels : List Label) (a b : List Value) → wanting labels (a ++ b) ≡ wanting labels a ++ wanting labels b
wanting-append labels [] b = refl
wanting-append labels (v ∷ a) b = pick (wants_home labels v) refl (wanting-append labels a b)
  where
    pick : (c : Bool) → wants_home labels v ≡ c → wanting labels (a ++ b) ≡ wanting labels a ++ wanting labels b → wanting labels (v ∷ (a ++ b)) ≡ wanting labels (v ∷ a) ++ wanting labels b
    pick true e h = grind (arith, e, h)
    pick false e h = grind (arith, e, h)

wanting-params : (labels : List Label) (k l i : ℕ) (xs : List ℕ) → wanting labels (numbered k (Parameter l) i xs) ≡ xs
wanting-params labels k l i [] = refl
wanting-params labels k l i (x ∷ xs) = ap (λ ys. x ∷ ys) (wanting-params labels k l (suc i) xs)

wanting-fetched : (labels : List Label) (k : ℕ) (m : Mem) (i x : ℕ) (xs : List ℕ) → is_in x (wanting labels (numbered k (Fetched m) i xs)) ≡ (is_in x xs && is_used labels x)
wanting-fetched labels k m i x [] = refl
wanting-fetched labels k m i x (y ∷ xs) = pick (is_used labels y) (cases_Bool (nat_eq x y)) refl (wanting-fetched labels k m (suc i) x xs)
  where
    pick : (b : Bool) → (nat_eq x y ≡ true) ⊎ (nat_eq x y ≡ false) → is_used labels y ≡ b → is_in x (wanting labels (numbered k (Fetched m) (suc i) xs)) ≡ (is_in x xs && is_used labels x)
        → is_in x (wanting labels (numbered k (Fetched m) i (y ∷ xs))) ≡ ((nat_eq x y || is_in x xs) && is_used labels x)
    pick true (inl e) f h =
        let g : is_used labels x ≡ true = ap (is_used labels) (same-number x y e) ∙ f in
        grind (arith, e, f, g)
    pick true (inr e) f h = grind (arith, e, f, h)
    pick false (inl e) f h =
        let g : is_used labels x ≡ false = ap (is_used labels) (same-number x y e) ∙ f in
        grind (arith, e, f, g, h)
    pick false (inr e) f h = grind (arith, e, f, h)

-- a value of this place wants a home
abbrev place-wants : List Label → Spot → ℕ → Bool
place-wants labels q x = is_in x (pure.place_values q) && (not (is_read (place_node q)) || used (uses labels) x)

one-wants : (a b : Bool) → (a || false) ≡ ((a || false) && (true || b))
one-wants true b = refl
one-wants false b = refl

all-want : (a b : Bool) → a ≡ (a && (true || b))
all-want true b = refl
all-want false b = refl

pub wanting-place : (labels : List Label) (k : ℕ) (q : Spot) (x : ℕ) → place-wants labels q x ≡ is_in x (wanting labels (place_values k q))
wanting-place labels k (Entry l ps) x = sym (ap (is_in x) (wanting-params labels k l 0 ps) ∙ all-want (is_in x ps) (used (uses labels) x))
wanting-place labels k (At (Does (Lit y v))) x = sym (one-wants (nat_eq x y) (used (uses labels) x))
wanting-place labels k (At (Does (Una y op z))) x = sym (one-wants (nat_eq x y) (used (uses labels) x))
wanting-place labels k (At (Does (Bin y op z w))) x = sym (one-wants (nat_eq x y) (used (uses labels) x))
wanting-place labels k (At (Does (Clone xs y))) x = refl
wanting-place labels k (At (Does (Read m xs y))) x = ap (λ b. is_in x xs && b) (used-is (uses labels) x) ∙ sym (wanting-fetched labels k m 0 x xs)
wanting-place labels k (At (Does (Write m y xs))) x = refl
wanting-place labels k (At (Forks c y z)) x = refl
wanting-place labels k (At (Ends l)) x = refl

record WantedAt (labels : List Label) (x j : ℕ) (ps : List Point) : Type 0 where
  it : ℕ
  point : Point
  found_ : slice_get ps it ≡ Some point
  wants : is_in x (wanting labels (place_values (j + it) point.place)) ≡ true

wanted-at : (labels : List Label) (x j : ℕ) (ps : List Point) → is_in x (wanting labels (values_from j ps)) ≡ true → WantedAt labels x j ps
wanted-at labels x j [] e = absurd (false≢true e)
wanted-at labels x j (q ∷ ps) e = ⊎_elim
    (λ (a : is_in x (wanting labels (place_values j q.place)) ≡ true).
    let here : j ≡ j + 0 = omega arith in
    record { it = 0; point = q; found_ = refl; wants = ap (λ n. is_in x (wanting labels (place_values n q.place))) (sym here) ∙ a })
    (λ (b : is_in x (wanting labels (values_from (suc j) ps)) ≡ true).
    let w = wanted-at labels x (suc j) ps b in
    let there : suc j + w.it ≡ j + suc w.it = omega arith in
    record { it = suc w.it; point = w.point; found_ = w.found_; wants = ap (λ n. is_in x (wanting labels (place_values n w.point.place))) (sym there) ∙ w.wants })
    (or_cases (is_in x (wanting labels (place_values j q.place))) (is_in x (wanting labels (values_from (suc j) ps)))
    (sym (ap (is_in x) (wanting-append labels (place_values j q.place) (values_from (suc j) ps)) ∙ in-append x (wanting labels (place_values j q.place)) (wanting labels (values_from (suc j) ps))) ∙ e))

wanted-in : (labels : List Label) (x j i : ℕ) (q : Point) (ps : List Point) → slice_get ps i ≡ Some q → is_in x (wanting labels (place_values (j + i) q.place)) ≡ true → is_in x (wanting labels (values_from j ps)) ≡ true
wanted-in labels x j i q [] e h = absurd (cc)
wanted-in labels x j zero q (p ∷ ps) e h =
    let same : p ≡ q = cc in
    let here : j ≡ j + 0 = omega arith in
    ap (is_in x) (wanting-append labels (place_values j p.place) (values_from (suc j) ps)) ∙ in-append x (wanting labels (place_values j p.place)) (wanting labels (values_from (suc j) ps))
    ∙ or_left (is_in x (wanting labels (place_values j p.place))) (is_in x (wanting labels (values_from (suc j) ps)))
    (ap (λ n. is_in x (wanting labels (place_values n p.place))) here ∙ ap (λ (w : Point). is_in x (wanting labels (place_values (j + 0) w.place))) same ∙ h)
wanted-in labels x j (suc i) q (p ∷ ps) e h =
    let there : suc j + i ≡ j + suc i = omega arith in
    ap (is_in x) (wanting-append labels (place_values j p.place) (values_from (suc j) ps)) ∙ in-append x (wanting labels (place_values j p.place)) (wanting labels (values_from (suc j) ps))
    ∙ or_right (is_in x (wanting labels (place_values j p.place))) (is_in x (wanting labels (values_from (suc j) ps)))
    (wanted-in labels x (suc j) i q ps e (ap (λ n. is_in x (wanting labels (place_values n q.place))) there ∙ h))

pub wanted-from : (labels : List Label) (p : Plan) (x : ℕ) → found labels p ≡ uses labels → is_wanted labels p x ≡ true → is_in x (wanting labels (values labels)) ≡ true
wanted-from labels p x f e =
    let n = length (points labels) in
    let w = below-at (wants_at labels p x) n e in
    let there = slice_get-get_or (points labels) w.it numbers.nowhere w.below in
    wanted-in labels x 0 w.it (numbers.point_at labels w.it) (points labels) there
    (sym (wanting-place labels (0 + w.it) (place_at labels w.it) x) ∙ ap (λ us. is_in x (pure.place_values (place_at labels w.it)) && (not (is_read (place_node (place_at labels w.it))) || used us x)) (sym f) ∙ w.passes)

pub wanted-to : (labels : List Label) (p : Plan) (x : ℕ) → found labels p ≡ uses labels → is_in x (wanting labels (values labels)) ≡ true → is_wanted labels p x ≡ true
wanted-to labels p x f e =
    let w = wanted-at labels x 0 (points labels) e in
    below-from (wants_at labels p x) (length (points labels)) w.it (slice_get_within (points labels) w.it w.point w.found_)
    (ap (λ us. is_in x (pure.place_values (place_at labels w.it)) && (not (is_read (place_node (place_at labels w.it))) || used us x)) f
    ∙ ap (λ (q : Point). place-wants labels q.place x) (point-there labels w.it w.point w.found_)
    ∙ wanting-place labels (0 + w.it) w.point.place x ∙ w.wants)

-- ---- accesses

abbrev pub access-points : ℕ → Bool → List ℕ
access-points k true = k ∷ []
access-points k false = []

points-of-access : (k : ℕ) (q : Spot) → map (λ a. a.point) (place_accesses k q) ≡ access-points k (is_access (place_node q))
points-of-access k (Entry l ps) = refl
points-of-access k (At (Does (Lit y v))) = refl
points-of-access k (At (Does (Una y op z))) = refl
points-of-access k (At (Does (Bin y op z w))) = refl
points-of-access k (At (Does (Clone xs y))) = refl
points-of-access k (At (Does (Read m xs y))) = refl
points-of-access k (At (Does (Write m y xs))) = refl
points-of-access k (At (Forks c y z)) = refl
points-of-access k (At (Ends l)) = refl

map-both : (a b : List Access) → map (λ x. x.point) (a ++ b) ≡ map (λ x. x.point) a ++ map (λ x. x.point) b
map-both [] b = refl
map-both (x ∷ a) b = ap (λ l. x.point ∷ l) (map-both a b)

accesses-next : (k : ℕ) (q : Point) (qs : List Point) → map (λ a. a.point) (accesses_from k (q ∷ qs)) ≡ access-points k (is_access (place_node q.place)) ++ map (λ a. a.point) (accesses_from (suc k) qs)
accesses-next k q qs = map-both (place_accesses k q.place) (accesses_from (suc k) qs) ∙ ap (λ l. l ++ map (λ a. a.point) (accesses_from (suc k) qs)) (points-of-access k q.place)

empty-list : (fs : List ℕ) → nat_eq (length fs) 0 ≡ true → fs ≡ []
empty-list [] e = refl
empty-list (f ∷ fs) e = absurd (omega (arith, same-number (length (f ∷ fs)) 0 e))

pub firsts-from : (fs : List ℕ) (k : ℕ) (qs : List Point) → firsts_fit fs k qs ≡ true → fs ≡ map (λ a. a.point) (accesses_from k qs)
firsts-from fs k [] e = empty-list fs e
firsts-from fs k (q ∷ qs) e = step (is_access (place_node q.place)) fs (λ gs. firsts-from gs (suc k) qs) e ∙ sym (accesses-next k q qs)
  where
    step : (b : Bool) (gs : List ℕ) → ((hs : List ℕ) → firsts_fit hs (suc k) qs ≡ true → hs ≡ map (λ a. a.point) (accesses_from (suc k) qs)) → (if b then next_is k gs (λ rest. firsts_fit rest (suc k) qs) else firsts_fit gs (suc k) qs) ≡ true → gs ≡ access-points k b ++ map (λ a. a.point) (accesses_from (suc k) qs)
    step true [] h g = absurd (false≢true g)
    step true (f ∷ gs) h g = let a = and_parts (nat_eq f k) (firsts_fit gs (suc k) qs) g in ap (λ n. n ∷ gs) (same-number f k a.0) ∙ ap (λ l. k ∷ l) (h gs a.1)
    step false gs h g = h gs g

pub firsts-to : (fs : List ℕ) (k : ℕ) (qs : List Point) → fs ≡ map (λ a. a.point) (accesses_from k qs) → firsts_fit fs k qs ≡ true
firsts-to fs k [] e = ap (λ l. nat_eq (length l) 0) e
firsts-to fs k (q ∷ qs) e = step (is_access (place_node q.place)) fs (λ gs. firsts-to gs (suc k) qs) (e ∙ accesses-next k q qs)
  where
    step : (b : Bool) (gs : List ℕ) → ((hs : List ℕ) → hs ≡ map (λ a. a.point) (accesses_from (suc k) qs) → firsts_fit hs (suc k) qs ≡ true) → gs ≡ access-points k b ++ map (λ a. a.point) (accesses_from (suc k) qs) → (if b then next_is k gs (λ rest. firsts_fit rest (suc k) qs) else firsts_fit gs (suc k) qs) ≡ true
    step true [] h g = absurd (cc)
    step true (f ∷ gs) h g =
        let same : f ≡ k = cc in
        let rest : gs ≡ map (λ a. a.point) (accesses_from (suc k) qs) = cc in
        and_from (nat_eq f k) (firsts_fit gs (suc k) qs) (ap (λ n. nat_eq n k) same ∙ in-itself k) (h gs rest)
    step false gs h g = h gs g

first-from : (m : Mem) (n f : ℕ) → is_first m n f ≡ true → IsFirst m n f
first-from Sram n f e = leb-true (f + n) 8 e
first-from Sdram n f e =
    let a = and_parts (nat_le (f + n) 8) ((f % 2) == 0) e in
    let z = same-number (f % 2) 0 a.1 in
    let d = div-add-mod' f 2 in
    (leb-true (f + n) 8 a.0, (f / 2, omega (arith, z, d)))
first-from Scratch n f e = leb-true (f + n) 8 e

first-to : (m : Mem) (n f : ℕ) → IsFirst m n f → is_first m n f ≡ true
first-to Sram n f h = le-leb (f + n) 8 h
first-to Sdram n f h =
    let half = h.1.0 in
    let e : f ≡ half * 2 + 0 = let g = h.1.1 in omega (arith, g) in
    and_from (nat_le (f + n) 8) ((f % 2) == 0) (le-leb (f + n) 8 h.0) (eq-eqb (f % 2) 0 (ap (λ x. x % 2) e ∙ mod-mul-add half 2 0 (omega arith)))
first-to Scratch n f h = le-leb (f + n) 8 h

abbrev pub HasFirst : Plan → Access → Type 0
HasFirst p a = IsFirst a.mem a.words (first p a.point)

pub access-from : (p : Plan) (k : ℕ) (q : Spot) → access_fits p k (place_node q) ≡ true → Each (HasFirst p) (place_accesses k q)
access-from p k (Entry l ps) e = tt
access-from p k (At (Does (Lit y v))) e = tt
access-from p k (At (Does (Una y op z))) e = tt
access-from p k (At (Does (Bin y op z w))) e = tt
access-from p k (At (Does (Clone xs y))) e = tt
access-from p k (At (Does (Read m xs y))) e = (first-from m (length xs) (first p k) e, tt)
access-from p k (At (Does (Write m y xs))) e = (first-from m (length xs) (first p k) e, tt)
access-from p k (At (Forks c y z)) e = tt
access-from p k (At (Ends l)) e = tt

pub access-to : (p : Plan) (k : ℕ) (q : Spot) → Each (HasFirst p) (place_accesses k q) → access_fits p k (place_node q) ≡ true
access-to p k (Entry l ps) h = refl
access-to p k (At (Does (Lit y v))) h = refl
access-to p k (At (Does (Una y op z))) h = refl
access-to p k (At (Does (Bin y op z w))) h = refl
access-to p k (At (Does (Clone xs y))) h = refl
access-to p k (At (Does (Read m xs y))) h = first-to m (length xs) (first p k) h.0
access-to p k (At (Does (Write m y xs))) h = first-to m (length xs) (first p k) h.0
access-to p k (At (Forks c y z)) h = refl
access-to p k (At (Ends l)) h = refl

-- ---- uses

at-from : (l : Option ℕ) (from at : Place) → at ≡ A 15 → IsOperandAt l from (A 15) → IsOperandAt l from at
at-from l from at e h = subst (IsOperandAt l from) (sym e) h

through-from : (l : Option ℕ) (k : ℕ) (at : Place) → is_read_through l at ≡ true → IsOperandAt l (Slot k) at
through-from None k at e = absurd (false≢true e)
through-from (Some r) k at e = subst (IsOperandAt (Some r) (Slot k)) (sym (same_place-true at (L r) e)) (IsOperandAt.read_slot refl)

operand-from : (l : Option ℕ) (from at : Place) → is_operand_at l from at ≡ true → IsOperandAt l from at
operand-from l (A k) at e = subst (IsOperandAt l (A k)) (same_place-true (A k) at e) IsOperandAt.in_a
operand-from l (B k) at e = ⊎_elim (λ (a : same_place (B k) at ≡ true). subst (IsOperandAt l (B k)) (same_place-true (B k) at a) IsOperandAt.in_b) (λ (b : same_place at (A 15) ≡ true). at-from l (B k) at (same_place-true at (A 15) b) IsOperandAt.from_b) (or_cases (same_place (B k) at) (same_place at (A 15)) e)
operand-from l (L k) at e = ⊎_elim (λ (a : same_place (L k) at ≡ true). subst (IsOperandAt l (L k)) (same_place-true (L k) at a) IsOperandAt.in_l) (λ (b : same_place at (A 15) ≡ true). at-from l (L k) at (same_place-true at (A 15) b) IsOperandAt.from_l) (or_cases (same_place (L k) at) (same_place at (A 15)) e)
operand-from l (LD k) at e = ⊎_elim (λ (a : same_place (LD k) at ≡ true). subst (IsOperandAt l (LD k)) (same_place-true (LD k) at a) IsOperandAt.in_ld) (λ (b : same_place at (A 15) ≡ true). at-from l (LD k) at (same_place-true at (A 15) b) IsOperandAt.from_ld) (or_cases (same_place (LD k) at) (same_place at (A 15)) e)
operand-from l (S k) at e = absurd (false≢true e)
operand-from l (SD k) at e = absurd (false≢true e)
operand-from l (Slot k) at e = ⊎_elim (λ (a : same_place at (A 15) ≡ true). at-from l (Slot k) at (same_place-true at (A 15) a) IsOperandAt.from_slot) (λ (b : is_read_through l at ≡ true). through-from l k at b) (or_cases (same_place at (A 15)) (is_read_through l at) e)

operand-to : (l : Option ℕ) (from at : Place) → IsOperandAt l from at → is_operand_at l from at ≡ true
operand-to l _ _ (IsOperandAt.in_a {k}) = in-itself k
operand-to l _ _ (IsOperandAt.in_b {k}) = or_left (nat_eq k k) false (in-itself k)
operand-to l _ _ (IsOperandAt.in_l {k}) = or_left (nat_eq k k) false (in-itself k)
operand-to l _ _ (IsOperandAt.in_ld {k}) = or_left (nat_eq k k) false (in-itself k)
operand-to l _ _ (IsOperandAt.read_slot {k} {r} e) = ap (λ o. is_read_through o (L r)) e ∙ in-itself r
operand-to l _ _ (IsOperandAt.from_slot {k}) = refl
operand-to l _ _ (IsOperandAt.from_b {k}) = refl
operand-to l _ _ (IsOperandAt.from_l {k}) = refl
operand-to l _ _ (IsOperandAt.from_ld {k}) = refl

address-from : (from at : Place) → is_address_at from at ≡ true → IsAddressAt from at
address-from (A k) at e = subst (IsAddressAt (A k)) (same_place-true (A k) at e) IsAddressAt.in_a
address-from (B k) at e = subst (IsAddressAt (B k)) (same_place-true (B k) at e) IsAddressAt.in_b
address-from (L k) at e = subst (IsAddressAt (L k)) (sym (same_place-true at (A 15) e)) IsAddressAt.from_l
address-from (LD k) at e = subst (IsAddressAt (LD k)) (sym (same_place-true at (A 15) e)) IsAddressAt.from_ld
address-from (S k) at e = absurd (false≢true e)
address-from (SD k) at e = absurd (false≢true e)
address-from (Slot k) at e = subst (IsAddressAt (Slot k)) (sym (same_place-true at (A 15) e)) IsAddressAt.from_slot

address-to : (from at : Place) → IsAddressAt from at → is_address_at from at ≡ true
address-to _ _ (IsAddressAt.in_a {k}) = in-itself k
address-to _ _ (IsAddressAt.in_b {k}) = in-itself k
address-to _ _ (IsAddressAt.from_l {k}) = refl
address-to _ _ (IsAddressAt.from_ld {k}) = refl
address-to _ _ (IsAddressAt.from_slot {k}) = refl

role-from : (labels : List Label) (p : Plan) (u : Use) (s : Serve) (r : Role) → role_fits labels p u s r ≡ true → IsServedAt labels p u s r
role-from labels p u s Operand e = let a = and_parts (is_home p u.value s.from) (is_operand_at (pass p u.point).l s.from s.at) e in (a.0, operand-from (pass p u.point).l s.from s.at a.1)
role-from labels p u s Address e = let a = and_parts (is_home p u.value s.from) (is_address_at s.from s.at) e in (a.0, address-from s.from s.at a.1)
role-from labels p u s (Written m i) e =
    let a = and_parts (same_place s.at (word_register p u)) (is_home p u.value s.from || same_place s.from s.at) e in
    (same_place-true s.at (word_register p u) a.0, ⊎_elim (λ (b : is_home p u.value s.from ≡ true). inl b) (λ (b : same_place s.from s.at ≡ true). inr (same_place-true s.from s.at b)) (or_cases (is_home p u.value s.from) (same_place s.from s.at) a.1))
role-from labels p u s (Argument l i) e = let a = and_parts (is_home p u.value s.from) (same_place s.at (home p (parameter labels l i)).defined) e in (a.0, same_place-true s.at (home p (parameter labels l i)).defined a.1)
role-from labels p u s (Ending i) e = let a = and_parts (is_home p u.value s.from) (same_place s.at (A i)) e in (a.0, same_place-true s.at (A i) a.1)

role-to : (labels : List Label) (p : Plan) (u : Use) (s : Serve) (r : Role) → IsServedAt labels p u s r → role_fits labels p u s r ≡ true
role-to labels p u s Operand h = and_from (is_home p u.value s.from) (is_operand_at (pass p u.point).l s.from s.at) h.0 (operand-to (pass p u.point).l s.from s.at h.1)
role-to labels p u s Address h = and_from (is_home p u.value s.from) (is_address_at s.from s.at) h.0 (address-to s.from s.at h.1)
role-to labels p u s (Written m i) h =
    and_from (same_place s.at (word_register p u)) (is_home p u.value s.from || same_place s.from s.at) (same_place-from s.at (word_register p u) h.0)
    (⊎_elim (λ (b : is_home p u.value s.from ≡ true). or_left (is_home p u.value s.from) (same_place s.from s.at) b) (λ (b : s.from ≡ s.at). or_right (is_home p u.value s.from) (same_place s.from s.at) (same_place-from s.from s.at b)) h.1)
role-to labels p u s (Argument l i) h = and_from (is_home p u.value s.from) (same_place s.at (home p (parameter labels l i)).defined) h.0 (same_place-from s.at (home p (parameter labels l i)).defined h.1)
role-to labels p u s (Ending i) h = and_from (is_home p u.value s.from) (same_place s.at (A i)) h.0 (same_place-from s.at (A i) h.1)

pub served-from : (labels : List Label) (p : Plan) (u : Use) → use_fits labels p u ≡ true → IsServed labels p u
served-from labels p u e = role-from labels p u (served p u) u.role e

pub served-to : (labels : List Label) (p : Plan) (u : Use) → IsServed labels p u → use_fits labels p u ≡ true
served-to labels p u h = role-to labels p u (served p u) u.role h

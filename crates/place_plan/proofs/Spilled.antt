-- The placement that has every value in a slot: what it says of values, uses and points.
use Rattle.std.proofs.Common.{◌≡◌, ℕ, zero, suc, ◌+◌, ◌<◌, ◌≤◌, Bool, true, false, not, nat_eq, if◌then◌else◌, ◌||◌, ◌&&◌, ⊎_elim, Some, List, [], ◌∷◌, ◌++◌, length, map, filter, unwrap_or, refl, sym, ap, subst, ◌∙◌, arith}
use Rattle.std.specs.Prelude.{slice_get, All}
use Rattle.std.specs.List.{list_any}
use Rattle.std.proofs.lemmas.List.Elements.{All-nil, All-cons, All-head, All-tail}
use Rattle.std.proofs.lemmas.Bool.{and_parts, and_from, or_cases, or_left, or_right, or_from, false≢true, eq-eqb, false_from_ne_true}
use Rattle.nv_base.specs.Sets.{is_in}
use Rattle.nv_base.proofs.Sets.{same-number}
use Rattle.nv_base.specs.declared.term.Mem.TheVariants.{Sram, Sdram, Scratch}
use Rattle.ssu_ir.specs.Tree.{Label}
use Rattle.ssu_ir.specs.Points.{Point}
use Rattle.place_plan.specs.declared.place.Place.{Place}
use Rattle.place_plan.specs.declared.place.Place.TheVariants.{A, B, L, LD, S, SD, Slot}
use Rattle.place_plan.specs.declared.place.Serve.{Serve}
use Rattle.place_plan.specs.Places.{same_place}
use Rattle.place_plan.specs.Plan.{Home, home_in, first_in, serve_in, pass_in, pass}
use Rattle.place_plan.specs.Uses.{Access, ValueOrigin, Parameter, Result, Fetched, Value, Use, uses, uses_of, is_used}
use Rattle.place_plan.specs.Fits.{is_general, is_slot, is_write_register, is_read_register, served, is_early, early_uses, is_sort_homed, wants_home, Rises, is_home, general_places, kept_register, read_places, none_shared, Waits, KeepsWaiting, KeepsHeld, maybe, same_use, at_operand, use_operand}
use Rattle.ssu_liveness.specs.inner.Numbers.{Numbers, HasBelow}
use Rattle.place_plan.specs.inner.Spilled.{slot_number, origin_home, IsAtHome, use_serve, access_first, point_pass, passes_from, spilled, IsNumbered}
use Rattle.ssu_liveness.proofs.Scoped.{in-itself, in-either}
use Rattle.place_plan.proofs.Sound.{Each}

-- ---- lists

pub each-all : {X : Type 0} (P : X → Type 0) (xs : List X) → Each P xs → All P xs
each-all P [] h = All-nil P
each-all P (x ∷ xs) h = All-cons P x xs h.0 (each-all P xs h.1)

pub all-each : {X : Type 0} (P : X → Type 0) (xs : List X) → All P xs → Each P xs
all-each P [] h = tt
all-each P (x ∷ xs) h = (All-head P x xs h, all-each P xs (All-tail P x xs h))

pub each-left : {X : Type 0} (P : X → Type 0) (a b : List X) → Each P (a ++ b) → Each P a
each-left P [] b h = tt
each-left P (x ∷ a) b h = (h.0, each-left P a b h.1)

pub each-right : {X : Type 0} (P : X → Type 0) (a b : List X) → Each P (a ++ b) → Each P b
each-right P [] b h = h
each-right P (x ∷ a) b h = each-right P a b h.1

pub each-weaker : {X : Type 0} (P Q : X → Type 0) (xs : List X) → ((x : X) → P x → Q x) → Each P xs → Each Q xs
each-weaker P Q [] f h = tt
each-weaker P Q (x ∷ xs) f h = (f x h.0, each-weaker P Q xs f h.1)

pub each-apply : {X : Type 0} (P Q : X → Type 0) (xs : List X) → Each (λ x. P x → Q x) xs → Each P xs → Each Q xs
each-apply P Q [] f h = tt
each-apply P Q (x ∷ xs) f h = (f.0 h.0, each-apply P Q xs f.1 h.1)

pub each-at : {X : Type 0} (P : X → Type 0) (xs : List X) (i : ℕ) (x : X) → Each P xs → slice_get xs i ≡ Some x → P x
each-at P [] i x h e = absurd (cc)
each-at P (y ∷ xs) zero x h e = let same : y ≡ x = cc in subst P same h.0
each-at P (y ∷ xs) (suc i) x h e = each-at P xs i x h.1 e

any-none : {X : Type 0} (f : X → Bool) (xs : List X) → ((x : X) → f x ≡ false) → list_any f xs ≡ false
any-none f [] h = refl
any-none f (x ∷ xs) h = or_from (f x) (list_any f xs) (h x) (any-none f xs h)

filter-none : {X : Type 0} (f : X → Bool) (xs : List X) → ((x : X) → f x ≡ false) → filter f xs ≡ []
filter-none f [] h = refl
filter-none {X} f (x ∷ xs) h = pick (f x) (h x) ∙ filter-none f xs h
  where
    pick : (b : Bool) → b ≡ false → (if b then x ∷ filter f xs else filter f xs) ≡ filter f xs
    pick true e = absurd (false≢true (sym e))
    pick false e = refl

-- ---- accesses

choose-zero : (b : Bool) (n : ℕ) → n ≡ 0 → (if b then 0 else n) ≡ 0
choose-zero true n e = refl
choose-zero false n e = e

pub first-zero : (as' : List Access) (k : ℕ) → first_in (map access_first as') k ≡ 0
first-zero [] k = refl
first-zero (a ∷ as') k = choose-zero (nat_eq a.point k) (first_in (map access_first as') k) (first-zero as' k)

pub firsts-points : (as' : List Access) → map (λ f. f.point) (map access_first as') ≡ map (λ a. a.point) as'
firsts-points [] = refl
firsts-points (a ∷ as') = ap (λ l. a.point ∷ l) (firsts-points as')

-- ---- serves

pub serves-operands : (labels : List Label) (number : Numbers) (us : List Use) → map at_operand (map (use_serve labels number) us) ≡ map use_operand us
serves-operands labels number [] = refl
serves-operands labels number (u ∷ us) = ap (λ l. use_operand u ∷ l) (serves-operands labels number us)

choose-slot : (b : Bool) (s t : Serve) → is_slot s.from ≡ true → is_slot t.from ≡ true → is_slot (if b then s else t).from ≡ true
choose-slot true s t e f = e
choose-slot false s t e f = f

serves-slot : (labels : List Label) (number : Numbers) (us : List Use) (k i : ℕ) → is_slot (serve_in (map (use_serve labels number) us) k i).from ≡ true
serves-slot labels number [] k i = refl
serves-slot labels number (u ∷ us) k i = choose-slot (nat_eq u.point k && nat_eq u.operand i) (use_serve labels number u) (serve_in (map (use_serve labels number) us) k i) refl (serves-slot labels number us k i)

slot-no-write : (q : Place) → is_slot q ≡ true → is_write_register q ≡ false
slot-no-write (A k) e = refl
slot-no-write (B k) e = refl
slot-no-write (L k) e = refl
slot-no-write (LD k) e = refl
slot-no-write (S k) e = absurd (false≢true e)
slot-no-write (SD k) e = absurd (false≢true e)
slot-no-write (Slot k) e = refl

slot-no-read : (q : Place) → is_slot q ≡ true → is_read_register q ≡ false
slot-no-read (A k) e = refl
slot-no-read (B k) e = refl
slot-no-read (L k) e = absurd (false≢true e)
slot-no-read (LD k) e = absurd (false≢true e)
slot-no-read (S k) e = refl
slot-no-read (SD k) e = refl
slot-no-read (Slot k) e = refl

-- no word is put early
pub none-early : (labels : List Label) (number : Numbers) (slots : ℕ) (homes : List Home) (u : Use) → is_early (spilled labels number slots homes) u ≡ false
none-early labels number slots homes u = slot-no-write (served (spilled labels number slots homes) u).from (serves-slot labels number (uses labels) u.point u.operand)

pub none-early-of : (labels : List Label) (number : Numbers) (slots : ℕ) (homes : List Home) (x : ℕ) → early_uses labels (spilled labels number slots homes) x ≡ []
none-early-of labels number slots homes x = filter-none (is_early (spilled labels number slots homes)) (uses_of labels x) (none-early labels number slots homes)

-- no value stays in its read register
pub none-stays : (labels : List Label) (number : Numbers) (slots : ℕ) (homes : List Home) (x : ℕ) → read_places labels (spilled labels number slots homes) x ≡ []
none-stays labels number slots homes x =
    let p = spilled labels number slots homes in
    ap (kept_register labels p x) (any-none (λ u. is_read_register (served p u).from) (uses_of labels x) (λ u. slot-no-read (served p u).from (serves-slot labels number (uses labels) u.point u.operand)))

-- serves are found where no two are of one operand
abbrev pub Apart : List Use → Type 0
Apart [] = Unit {0}
Apart (u ∷ us) = Each (λ v. same_use u v ≡ false) us × Apart us

pub apart-append : (a b : List Use) → Apart a → Apart b → Each (λ u. Each (λ v. same_use u v ≡ false) b) a → Apart (a ++ b)
apart-append [] b h g e = g
apart-append (u ∷ a) b h g e = (both a h.0, apart-append a b h.1 g e.1)
  where
    both : (a : List Use) → Each (λ v. same_use u v ≡ false) a → Each (λ v. same_use u v ≡ false) (a ++ b)
    both [] k = e.0
    both (v ∷ a) k = (k.0, both a k.1)

pub skip : (b : Bool) (s t r : Serve) → b ≡ false → t ≡ r → (if b then s else t) ≡ r
skip true s t r e h = absurd (false≢true (sym e))
skip false s t r e h = h

pub take-first : (b : Bool) (s t : Serve) → b ≡ true → (if b then s else t) ≡ s
take-first true s t e = refl
take-first false s t e = absurd (false≢true e)

abbrev pub IsFound : List Label → Numbers → List Use → Use → Type 0
IsFound labels number us u = serve_in (map (use_serve labels number) us) u.point u.operand ≡ use_serve labels number u

pub serves-found : (labels : List Label) (number : Numbers) (us : List Use) → Apart us → Each (IsFound labels number us) us
serves-found labels number [] h = tt
serves-found labels number (u ∷ us) h = (
  take-first (nat_eq u.point u.point && nat_eq u.operand u.operand) (use_serve labels number u) (serve_in (map (use_serve labels number) us) u.point u.operand)
      (and_from (nat_eq u.point u.point) (nat_eq u.operand u.operand) (in-itself u.point) (in-itself u.operand)),
  each-apply (λ v. same_use u v ≡ false) (IsFound labels number (u ∷ us)) us
      (each-weaker (IsFound labels number us) (λ v. same_use u v ≡ false → IsFound labels number (u ∷ us) v) us
      (λ v f e. skip (same_use u v) (use_serve labels number u) (serve_in (map (use_serve labels number) us) v.point v.operand) (use_serve labels number v) e f)
      (serves-found labels number us h.1))
      h.0,
)

-- ---- passes

pub pass-at : (labels : List Label) (ps : List Point) (j i k : ℕ) (q : Point) → k ≡ j + i → slice_get ps i ≡ Some q → pass_in (passes_from labels j ps) k ≡ point_pass labels k q
pass-at labels [] j i k q e f = absurd (cc)
pass-at labels (p ∷ ps) j zero k q e f =
    let same : p ≡ q = cc in
    let here : j ≡ k = omega arith in
    hit (nat_eq j k) (eq-eqb j k here) ∙ ap (λ n. point_pass labels n p) here ∙ ap (λ (w : Point). point_pass labels k w) same
  where
    hit : (b : Bool) → b ≡ true → (if b then point_pass labels j p else pass_in (passes_from labels (suc j) ps) k) ≡ point_pass labels j p
    hit true g = refl
    hit false g = absurd (false≢true g)
pass-at labels (p ∷ ps) j (suc i) k q e f =
    miss (nat_eq j k) (false_from_ne_true (nat_eq j k) (λ g. let same = same-number j k g in omega arith))
    ∙ pass-at labels ps (suc j) i k q (omega arith) f
  where
    miss : (b : Bool) → b ≡ false → (if b then point_pass labels j p else pass_in (passes_from labels (suc j) ps) k) ≡ pass_in (passes_from labels (suc j) ps) k
    miss true g = absurd (false≢true (sym g))
    miss false g = refl

pub passes-rise : (labels : List Label) (k : ℕ) (ps : List Point) → Rises (map (λ q. q.point) (passes_from labels k ps))
passes-rise labels k [] = tt
passes-rise labels k (p ∷ []) = tt
passes-rise labels k (p ∷ q ∷ ps) = (omega arith, passes-rise labels (suc k) (q ∷ ps))

pub passes-below : (labels : List Label) (k n : ℕ) (ps : List Point) → k + length ps ≤ n → Each (λ q. q.point < n) (passes_from labels k ps)
passes-below labels k n [] h = tt
passes-below labels k n (p ∷ ps) h = (omega arith, passes-below labels (suc k) n ps (omega arith))

-- ---- homes

-- a value's home is that of one of the sorts
pub record Found (number : Numbers) (homes : List Home) (x : ℕ) : Type 0 where
  pub origin : ValueOrigin
  pub is : home_in homes x ≡ origin_home (slot_number number x) x origin

found-in : (labels : List Label) (number : Numbers) (homes : List Home) (v : Value) (rest : List Value) (x : ℕ) → IsAtHome labels number homes v → (is_in x (map (λ v. v.var) rest) ≡ true → Found number homes x) → (b : Bool) → wants_home labels v ≡ b
    → is_in x (map (λ v. v.var) (if b then v ∷ rest else rest)) ≡ true → Found number homes x
found-in labels number homes v rest x h r true e f = ⊎_elim
    (λ (a : nat_eq x v.var ≡ true). subst (λ y. Found number homes y) (sym (same-number x v.var a)) (record { origin = v.origin; is = (h e).0 }))
    r
    (or_cases (nat_eq x v.var) (is_in x (map (λ v. v.var) rest)) f)
found-in labels number homes v rest x h r false e f = r f

pub found : (labels : List Label) (number : Numbers) (homes : List Home) (vs : List Value) (x : ℕ) → Each (IsAtHome labels number homes) vs → is_in x (map (λ v. v.var) (filter (wants_home labels) vs)) ≡ true → Found number homes x
found labels number homes [] x h e = absurd (false≢true e)
found labels number homes (v ∷ vs) x h e =
    found-in labels number homes v (filter (wants_home labels) vs) x h.0 (λ f. found labels number homes vs x h.1 f) (wants_home labels v) refl e

-- values that want a home are among the variables of the homes
homed-in : (labels : List Label) (number : Numbers) (homes : List Home) (v : Value) (rest : List Value) (x : ℕ) → IsAtHome labels number homes v → (is_in x (map (λ v. v.var) rest) ≡ true → is_in x (map (λ h. h.var) homes) ≡ true) → (b : Bool) → wants_home labels v ≡ b
    → is_in x (map (λ v. v.var) (if b then v ∷ rest else rest)) ≡ true → is_in x (map (λ h. h.var) homes) ≡ true
homed-in labels number homes v rest x h r true e f = ⊎_elim
    (λ (a : nat_eq x v.var ≡ true). ap (λ y. is_in y (map (λ h. h.var) homes)) (same-number x v.var a) ∙ (h e).1)
    r
    (or_cases (nat_eq x v.var) (is_in x (map (λ v. v.var) rest)) f)
homed-in labels number homes v rest x h r false e f = r f

pub homed : (labels : List Label) (number : Numbers) (homes : List Home) (vs : List Value) (x : ℕ) → Each (IsAtHome labels number homes) vs → is_in x (map (λ v. v.var) (filter (wants_home labels) vs)) ≡ true → is_in x (map (λ h. h.var) homes) ≡ true
homed labels number homes [] x h e = absurd (false≢true e)
homed labels number homes (v ∷ vs) x h e =
    homed-in labels number homes v (filter (wants_home labels) vs) x h.0 (λ f. homed labels number homes vs x h.1 f) (wants_home labels v) refl e

-- a value that is used wants a home
pub used-wants : (b : Bool) (origin : ValueOrigin) → b ≡ true → is_sort_homed b origin ≡ true
used-wants b (Parameter l i) e = refl
used-wants b Result e = refl
used-wants b (Fetched m i) e = e

wanted-if : (v : Value) (rest : List Value) (x : ℕ) (b : Bool) → b ≡ true → (nat_eq x v.var ≡ true) → is_in x (map (λ v. v.var) (if b then v ∷ rest else rest)) ≡ true
wanted-if v rest x true e f = or_left (nat_eq x v.var) (is_in x (map (λ v. v.var) rest)) f
wanted-if v rest x false e f = absurd (false≢true e)

wanted-rest : (v : Value) (rest : List Value) (x : ℕ) (b : Bool) → is_in x (map (λ v. v.var) rest) ≡ true → is_in x (map (λ v. v.var) (if b then v ∷ rest else rest)) ≡ true
wanted-rest v rest x true f = or_right (nat_eq x v.var) (is_in x (map (λ v. v.var) rest)) f
wanted-rest v rest x false f = f

pub used-wanted : (labels : List Label) (vs : List Value) (x : ℕ) → is_in x (map (λ v. v.var) vs) ≡ true → is_used labels x ≡ true → is_in x (map (λ v. v.var) (filter (wants_home labels) vs)) ≡ true
used-wanted labels [] x e u = absurd (false≢true e)
used-wanted labels (v ∷ vs) x e u = ⊎_elim
    (λ (a : nat_eq x v.var ≡ true). wanted-if v (filter (wants_home labels) vs) x (wants_home labels v) (used-wants (is_used labels v.var) v.origin (ap (is_used labels) (sym (same-number x v.var a)) ∙ u)) a)
    (λ (b : is_in x (map (λ v. v.var) vs) ≡ true). wanted-rest v (filter (wants_home labels) vs) x (wants_home labels v) (used-wanted labels vs x b u))
    (or_cases (nat_eq x v.var) (is_in x (map (λ v. v.var) vs)) e)

-- parameters among values
abbrev pub sort_param : ValueOrigin → ℕ → List ℕ
sort_param (Parameter l i) x = x ∷ []
sort_param Result x = []
sort_param (Fetched m i) x = []

abbrev pub param_vars : List Value → List ℕ
param_vars [] = []
param_vars (v ∷ vs) = sort_param v.origin v.var ++ param_vars vs

param-is : (b : Bool) (origin : ValueOrigin) (x z : ℕ) → is_in x (sort_param origin z) ≡ true → (nat_eq x z ≡ true) × (is_sort_homed b origin ≡ true)
param-is b (Parameter l i) x z e = (⊎_elim (λ (a : nat_eq x z ≡ true). a) (λ (f : false ≡ true). absurd (false≢true f)) (or_cases (nat_eq x z) false e), refl)
param-is b Result x z e = absurd (false≢true e)
param-is b (Fetched m i) x z e = absurd (false≢true e)

pub params-wanted : (labels : List Label) (vs : List Value) (x : ℕ) → is_in x (param_vars vs) ≡ true → is_in x (map (λ v. v.var) (filter (wants_home labels) vs)) ≡ true
params-wanted labels [] x e = absurd (false≢true e)
params-wanted labels (v ∷ vs) x e = ⊎_elim
    (λ (a : is_in x (sort_param v.origin v.var) ≡ true). let w = param-is (is_used labels v.var) v.origin x v.var a in wanted-if v (filter (wants_home labels) vs) x (wants_home labels v) w.1 w.0)
    (λ (b : is_in x (param_vars vs) ≡ true). wanted-rest v (filter (wants_home labels) vs) x (wants_home labels v) (params-wanted labels vs x b))
    (in-either x (sort_param v.origin v.var) (param_vars vs) e)

param-place : (number : Numbers) (homes : List Home) (origin : ValueOrigin) (x z : ℕ) → is_in x (sort_param origin z) ≡ true → (is_sort_homed false origin ≡ true → home_in homes z ≡ origin_home (slot_number number z) z origin) → (home_in homes x).defined ≡ Slot (slot_number number x)
param-place number homes (Parameter l i) x z e h =
    let same = same-number x z (param-is true (Parameter l i) x z e).0 in
    ap (λ y. (home_in homes y).defined) same ∙ ap (λ (w : Home). w.defined) (h refl) ∙ ap (λ y. Slot (slot_number number y)) (sym same)
param-place number homes Result x z e h = absurd (false≢true e)
param-place number homes (Fetched m i) x z e h = absurd (false≢true e)

always-homed : (b : Bool) (origin : ValueOrigin) → is_sort_homed false origin ≡ true → is_sort_homed b origin ≡ true
always-homed b (Parameter l i) e = refl
always-homed b Result e = refl
always-homed b (Fetched m i) e = absurd (false≢true e)

pub param-home : (labels : List Label) (number : Numbers) (homes : List Home) (vs : List Value) (x : ℕ) → Each (IsAtHome labels number homes) vs → is_in x (param_vars vs) ≡ true → (home_in homes x).defined ≡ Slot (slot_number number x)
param-home labels number homes [] x h e = absurd (false≢true e)
param-home labels number homes (v ∷ vs) x h e = ⊎_elim
    (λ (a : is_in x (sort_param v.origin v.var) ≡ true). param-place number homes v.origin x v.var a (λ f. (h.0 (always-homed (is_used labels v.var) v.origin f)).0))
    (λ (b : is_in x (param_vars vs) ≡ true). param-home labels number homes vs x h.1 b)
    (in-either x (sort_param v.origin v.var) (param_vars vs) e)

-- ---- what a home offers

general-of : (n x : ℕ) (origin : ValueOrigin) → filter is_general ((origin_home n x origin).defined ∷ (origin_home n x origin).copied) ≡ Slot n ∷ []
general-of n x (Parameter l i) = refl
general-of n x Result = refl
general-of n x (Fetched Sram i) = refl
general-of n x (Fetched Sdram i) = refl
general-of n x (Fetched Scratch i) = refl

pub general-found : (number : Numbers) (homes : List Home) (x : ℕ) → Found number homes x → filter is_general ((home_in homes x).defined ∷ (home_in homes x).copied) ≡ Slot (slot_number number x) ∷ []
general-found number homes x f = ap (λ (h : Home). filter is_general (h.defined ∷ h.copied)) f.is ∙ general-of (slot_number number x) x f.origin

slot-itself : (n : ℕ) → (nat_eq n n || false) ≡ true
slot-itself n = ap (λ b. b || false) (in-itself n)

home-of : (n x : ℕ) (origin : ValueOrigin) → (same_place (Slot n) (origin_home n x origin).defined || list_any (same_place (Slot n)) (origin_home n x origin).copied) ≡ true
home-of n x (Parameter l i) = slot-itself n
home-of n x Result = slot-itself n
home-of n x (Fetched Sram i) = slot-itself n
home-of n x (Fetched Sdram i) = slot-itself n
home-of n x (Fetched Scratch i) = slot-itself n

-- a value's slot is one of its homes
pub home-found : (labels : List Label) (number : Numbers) (slots : ℕ) (homes : List Home) (x : ℕ) → Found number homes x → is_home (spilled labels number slots homes) x (Slot (slot_number number x)) ≡ true
home-found labels number slots homes x f =
    ap (λ (h : Home). same_place (Slot (slot_number number x)) h.defined || list_any (same_place (Slot (slot_number number x))) h.copied) f.is ∙ home-of (slot_number number x) x f.origin

-- ---- what is live at a point

slots-apart : (b : Bool) → b ≡ false → (not (b || false) && true) ≡ true
slots-apart true e = absurd (false≢true (sym e))
slots-apart false e = refl

pub none-with-nothing : (qs : List Place) → none_shared qs [] ≡ true
none-with-nothing [] = refl
none-with-nothing (q ∷ qs) = none-with-nothing qs

other-slot : (number : Numbers) (n : ℕ) (x y : ℕ) (hx : HasBelow number x n) (hy : HasBelow number y n) → ((m : ℕ) → number x ≡ Some m → number y ≡ Some m → ⊥) → nat_eq (slot_number number x) (slot_number number y) ≡ false
other-slot number n x y hx hy h = false_from_ne_true (nat_eq (slot_number number x) (slot_number number y)) (λ e.
    let a : slot_number number x ≡ hx.it = ap (λ o. unwrap_or o 0) hx.has in
    let b : slot_number number y ≡ hy.it = ap (λ o. unwrap_or o 0) hy.has in
    let same : hy.it ≡ hx.it = sym b ∙ sym (same-number (slot_number number x) (slot_number number y) e) ∙ a in
    h hx.it hx.has (hy.has ∙ ap (λ m. Some m) same))

pub keeps-held : (labels : List Label) (number : Numbers) (slots : ℕ) (homes : List Home) (k : ℕ) (q : Point) → IsNumbered number slots q → ((x : ℕ) → is_in x q.before ≡ true → Found number homes x) → KeepsHeld labels (spilled labels number slots homes) k q
keeps-held labels number slots homes k q d f =
    let p = spilled labels number slots homes in record {
      general = λ x y e g ne.
          ap (λ l. none_shared l (general_places p y)) (general-found number homes x (f x e))
          ∙ ap (λ l. none_shared (Slot (slot_number number x) ∷ []) l) (general-found number homes y (f y g))
          ∙ slots-apart (nat_eq (slot_number number x) (slot_number number y)) (other-slot number slots x y (d.covered.given x e) (d.covered.given y g) (λ m a b. d.apart x y m e g ne a b));
      read = λ x y e g ne. ap (λ l. none_shared l (read_places labels p y)) (none-stays labels number slots homes x);
      read_through = λ x e. ap (λ l. none_shared (maybe L (pass p k).l) l) (none-stays labels number slots homes x) ∙ none-with-nothing (maybe L (pass p k).l);
    }

never-waits : (labels : List Label) (number : Numbers) (slots : ℕ) (homes : List Home) (k : ℕ) (q : Point) (u : Use) → Waits labels (spilled labels number slots homes) k q u → ⊥
never-waits labels number slots homes k q u w =
    false≢true (sym (none-early labels number slots homes u) ∙ (and_parts (is_early (spilled labels number slots homes) u) _ w.waiting).0)

pub keeps-waiting : (labels : List Label) (number : Numbers) (slots : ℕ) (homes : List Home) (k : ℕ) (q : Point) → KeepsWaiting labels (spilled labels number slots homes) k q
keeps-waiting labels number slots homes k q = record {
  apart = λ u v a b e. absurd (never-waits labels number slots homes k q u a);
  read_through = λ u a. absurd (never-waits labels number slots homes k q u a);
  written = λ u a. absurd (never-waits labels number slots homes k q u a);
}

-- nothing is shared with a value that stays nowhere
pub shares-nothing : (labels : List Label) (number : Numbers) (slots : ℕ) (homes : List Home) (qs : List Place) (x : ℕ) → none_shared qs (read_places labels (spilled labels number slots homes) x) ≡ true
shares-nothing labels number slots homes qs x = ap (none_shared qs) (none-stays labels number slots homes x) ∙ none-with-nothing qs

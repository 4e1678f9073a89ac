-- The placement that has every value in a slot fits a form in single use.
use Rattle.std.proofs.Common.{◌≡◌, ℕ, zero, suc, ◌+◌, ◌<◌, ◌≤◌, true, false, nat_eq, ◌&&◌, inl, ⊎_elim, Option, Some, None, List, [], ◌∷◌, ◌++◌, length, map, refl, sym, ap, subst, ◌∙◌, arith}
use Rattle.std.specs.Prelude.{slice_get, nat_le}
use Rattle.std.proofs.lemmas.List.{map-append}
use Rattle.std.proofs.lemmas.Bool.{and_parts, and_left, and_right, or_left, or_right, false≢true}
use Rattle.nv_base.specs.Sets.{is_in, Within}
use Rattle.nv_base.proofs.Sets.{same-number}
use Rattle.nv_base.specs.declared.term.Mem.{Mem}
use Rattle.ssu_ir.specs.Tree.{Lit, Una, Bin, Clone, Read, Write, Jump, Halt, Label, Does, Forks, Ends}
use Rattle.ssu_ir.specs.Points.{PointKind as Spot, Entry, At, Point, points_from}
use Rattle.ssu_ir.specs.Points as pure
use Rattle.ssu_ir.specs.Single.{takes_as_many}
use Rattle.ssu_ir.proofs.Liveness.{in-left, in-right}
use Rattle.place_plan.specs.declared.place.Place.TheVariants.{L, Slot}
use Rattle.place_plan.specs.declared.place.Serve.{Serve}
use Rattle.place_plan.specs.Plan.{Home, home_in, first, serve, pass}
use Rattle.place_plan.specs.Uses.{Access, accesses, place_accesses, accesses_from, ValueOrigin, Parameter, Fetched, Value, numbered, place_values, values_from, Role, Operand, Address, Written, Argument, Ending, Use, roles, place_roles, uses_at, uses_from, uses}
use Rattle.place_plan.specs.Fits.{write_place, IsOperandAt, IsAddressAt, param_at, label_param, parameter, IsServedAt, IsServed, different_groups, AreApart, same_use}
use Rattle.ssu_liveness.specs.inner.Numbers.{Numbers, values_among}
use Rattle.place_plan.specs.inner.Spilled.{slot_number, operand_at, use_serve, read_pass, spilled}
use Rattle.ssu_liveness.proofs.Scoped.{in-itself, in-either}
use Rattle.ssu_liveness.proofs.Marks.{ne-number}
use Rattle.place_plan.proofs.Sound.{Each, each-append, entry_params, place_ok, Sound, uses_among}
use Rattle.place_plan.proofs.Spilled.{each-left, each-right, each-weaker, first-zero, Apart, apart-append, IsFound, Found, sort_param, param_vars, home-found}

-- ---- values, accesses and uses, point by point

pub each-values : (R : Value → Type 0) (ps : List Point) (k : ℕ) → ((i m : ℕ) (q : Point) → m ≡ k + i → slice_get ps i ≡ Some q → Each R (place_values m q.place)) → Each R (values_from k ps)
each-values R [] k h = tt
each-values R (q ∷ ps) k h = each-append R (place_values k q.place) (values_from (suc k) ps) (h 0 k q (omega arith) refl) (each-values R ps (suc k) (λ i m p e f. h (suc i) m p (omega arith) f))

pub values-part : (R : Value → Type 0) (ps : List Point) (k i m : ℕ) (q : Point) → m ≡ k + i → slice_get ps i ≡ Some q → Each R (values_from k ps) → Each R (place_values m q.place)
values-part R [] k i m q e f h = absurd (cc)
values-part R (p ∷ ps) k zero m q e f h =
    let same : p ≡ q = cc in
    let here : k ≡ m = omega arith in
    subst (λ n. Each R (place_values n q.place)) here (subst (λ (w : Point). Each R (place_values k w.place)) same (each-left R (place_values k p.place) (values_from (suc k) ps) h))
values-part R (p ∷ ps) k (suc i) m q e f h = values-part R ps (suc k) i m q (omega arith) f (each-right R (place_values k p.place) (values_from (suc k) ps) h)

pub each-accesses : (R : Access → Type 0) (ps : List Point) (k : ℕ) → ((i m : ℕ) (q : Point) → m ≡ k + i → slice_get ps i ≡ Some q → Each R (place_accesses m q.place)) → Each R (accesses_from k ps)
each-accesses R [] k h = tt
each-accesses R (q ∷ ps) k h = each-append R (place_accesses k q.place) (accesses_from (suc k) ps) (h 0 k q (omega arith) refl) (each-accesses R ps (suc k) (λ i m p e f. h (suc i) m p (omega arith) f))

pub accesses-part : (R : Access → Type 0) (ps : List Point) (k i m : ℕ) (q : Point) → m ≡ k + i → slice_get ps i ≡ Some q → Each R (accesses_from k ps) → Each R (place_accesses m q.place)
accesses-part R [] k i m q e f h = absurd (cc)
accesses-part R (p ∷ ps) k zero m q e f h =
    let same : p ≡ q = cc in
    let here : k ≡ m = omega arith in
    subst (λ n. Each R (place_accesses n q.place)) here (subst (λ (w : Point). Each R (place_accesses k w.place)) same (each-left R (place_accesses k p.place) (accesses_from (suc k) ps) h))
accesses-part R (p ∷ ps) k (suc i) m q e f h = accesses-part R ps (suc k) i m q (omega arith) f (each-right R (place_accesses k p.place) (accesses_from (suc k) ps) h)

pub each-uses : (R : Use → Type 0) (ps : List Point) (k : ℕ) → ((i m : ℕ) (q : Point) → m ≡ k + i → slice_get ps i ≡ Some q → Each R (uses_at m 0 q.uses (place_roles q.place))) → Each R (uses_from k ps)
each-uses R [] k h = tt
each-uses R (q ∷ ps) k h =
    each-append R (uses_at k 0 q.uses (place_roles q.place)) (uses_from (suc k) ps) (h 0 k q (omega arith) refl) (each-uses R ps (suc k) (λ i m p e f. h (suc i) m p (omega arith) f))

pub uses-part : (R : Use → Type 0) (ps : List Point) (k i m : ℕ) (q : Point) → m ≡ k + i → slice_get ps i ≡ Some q → Each R (uses_from k ps) → Each R (uses_at m 0 q.uses (place_roles q.place))
uses-part R [] k i m q e f h = absurd (cc)
uses-part R (p ∷ ps) k zero m q e f h =
    let same : p ≡ q = cc in
    let here : k ≡ m = omega arith in
    subst (λ n. Each R (uses_at n 0 q.uses (place_roles q.place))) here
    (subst (λ (w : Point). Each R (uses_at k 0 w.uses (place_roles w.place))) same (each-left R (uses_at k 0 p.uses (place_roles p.place)) (uses_from (suc k) ps) h))
uses-part R (p ∷ ps) k (suc i) m q e f h = uses-part R ps (suc k) i m q (omega arith) f (each-right R (uses_at k 0 p.uses (place_roles p.place)) (uses_from (suc k) ps) h)

-- no two uses are of one operand
pub record FromOperand (k i : ℕ) (u : Use) : Type 0 where
  pub here : u.point ≡ k
  pub late : i ≤ u.operand

pub uses-from-operand : (k i : ℕ) (xs : List ℕ) (rs : List Role) → Each (FromOperand k i) (uses_at k i xs rs)
uses-from-operand k i [] rs = tt
uses-from-operand k i (x ∷ xs) [] = tt
uses-from-operand k i (x ∷ xs) (r ∷ rs) =
    (record { here = refl; late = omega arith }, each-weaker (FromOperand k (suc i)) (FromOperand k i) (uses_at k (suc i) xs rs) (λ u f. let l = f.late in record { here = f.here; late = omega arith }) (uses-from-operand k (suc i) xs rs))

pub uses-from-point : (k : ℕ) (ps : List Point) → Each (λ u. k ≤ u.point) (uses_from k ps)
uses-from-point k [] = tt
uses-from-point k (q ∷ ps) =
    each-append (λ u. k ≤ u.point) (uses_at k 0 q.uses (place_roles q.place)) (uses_from (suc k) ps)
    (each-weaker (FromOperand k 0) (λ u. k ≤ u.point) (uses_at k 0 q.uses (place_roles q.place)) (λ u f. let e = f.here in omega arith) (uses-from-operand k 0 q.uses (place_roles q.place)))
    (each-weaker (λ u. suc k ≤ u.point) (λ u. k ≤ u.point) (uses_from (suc k) ps) (λ u f. omega arith) (uses-from-point (suc k) ps))

apart-at : (k i : ℕ) (xs : List ℕ) (rs : List Role) → Apart (uses_at k i xs rs)
apart-at k i [] rs = tt
apart-at k i (x ∷ xs) [] = tt
apart-at k i (x ∷ xs) (r ∷ rs) = (
  each-weaker (FromOperand k (suc i)) (λ v. (nat_eq k v.point && nat_eq i v.operand) ≡ false) (uses_at k (suc i) xs rs)
      (λ v f. let l = f.late in and_right (nat_eq k v.point) (nat_eq i v.operand) (ne-number i v.operand (λ e. omega arith)))
      (uses-from-operand k (suc i) xs rs),
  apart-at k (suc i) xs rs,
)

pub apart-from : (k : ℕ) (ps : List Point) → Apart (uses_from k ps)
apart-from k [] = tt
apart-from k (q ∷ ps) =
    apart-append (uses_at k 0 q.uses (place_roles q.place)) (uses_from (suc k) ps) (apart-at k 0 q.uses (place_roles q.place)) (apart-from (suc k) ps)
    (each-weaker (FromOperand k 0) (λ u. Each (λ v. same_use u v ≡ false) (uses_from (suc k) ps)) (uses_at k 0 q.uses (place_roles q.place))
    (λ u f. each-weaker (λ v. suc k ≤ v.point) (λ v. same_use u v ≡ false) (uses_from (suc k) ps)
    (λ v l. let e = f.here in and_left (nat_eq u.point v.point) (nat_eq u.operand v.operand) (ne-number u.point v.point (λ g. omega arith)))
    (uses-from-point (suc k) ps))
    (uses-from-operand k 0 q.uses (place_roles q.place)))

-- the values that are used
values-of-uses : (k i : ℕ) (xs : List ℕ) (rs : List Role) → length rs ≡ length xs → map (λ u. u.value) (uses_at k i xs rs) ≡ xs
values-of-uses k i [] rs e = refl
values-of-uses k i (x ∷ xs) [] e = absurd (omega arith)
values-of-uses k i (x ∷ xs) (r ∷ rs) e = ap (λ l. x ∷ l) (values-of-uses k (suc i) xs rs (omega arith))

pub uses-are : (labels : List Label) (vs us : List ℕ) (k : ℕ) (ps : List Point) → Each (Sound labels vs us) ps → map (λ u. u.value) (uses_from k ps) ≡ uses_among ps
uses-are labels vs us k [] h = refl
uses-are labels vs us k (q ∷ ps) h =
    map-append (λ u. u.value) (uses_at k 0 q.uses (place_roles q.place)) (uses_from (suc k) ps)
    ∙ ap (λ l. l ++ map (λ u. u.value) (uses_from (suc k) ps)) (values-of-uses k 0 q.uses (place_roles q.place) h.0.many)
    ∙ ap (λ l. q.uses ++ l) (uses-are labels vs us (suc k) ps h.1)

-- ---- values

vars-numbered : (k : ℕ) (origin : ℕ → ValueOrigin) (i : ℕ) (xs : List ℕ) → map (λ v. v.var) (numbered k origin i xs) ≡ xs
vars-numbered k origin i [] = refl
vars-numbered k origin i (x ∷ xs) = ap (λ l. x ∷ l) (vars-numbered k origin (suc i) xs)

pub vars-of-place : (k : ℕ) (q : Spot) → map (λ v. v.var) (place_values k q) ≡ pure.place_values q
vars-of-place k (Entry l ps) = vars-numbered k (Parameter l) 0 ps
vars-of-place k (At (Does (Lit x v))) = refl
vars-of-place k (At (Does (Una x op y))) = refl
vars-of-place k (At (Does (Bin x op y z))) = refl
vars-of-place k (At (Does (Clone xs y))) = refl
vars-of-place k (At (Does (Read m xs y))) = vars-numbered k (Fetched m) 0 xs
vars-of-place k (At (Does (Write m y xs))) = refl
vars-of-place k (At (Forks c x y)) = refl
vars-of-place k (At (Ends l)) = refl

pub values-are : (k : ℕ) (ps : List Point) → map (λ v. v.var) (values_from k ps) ≡ values_among (map (λ p. p.place) ps)
values-are k [] = refl
values-are k (q ∷ ps) =
    map-append (λ v. v.var) (place_values k q.place) (values_from (suc k) ps)
    ∙ ap (λ l. l ++ map (λ v. v.var) (values_from (suc k) ps)) (vars-of-place k q.place)
    ∙ ap (λ l. pure.place_values q.place ++ l) (values-are (suc k) ps)

-- ---- parameters

in-params-left : (x : ℕ) (a b : List Value) → is_in x (param_vars a) ≡ true → is_in x (param_vars (a ++ b)) ≡ true
in-params-left x [] b e = absurd (false≢true e)
in-params-left x (v ∷ a) b e = ⊎_elim
    (λ (p : is_in x (sort_param v.origin v.var) ≡ true). in-left x (sort_param v.origin v.var) (param_vars (a ++ b)) p)
    (λ (p : is_in x (param_vars a) ≡ true). in-right x (sort_param v.origin v.var) (param_vars (a ++ b)) (in-params-left x a b p))
    (in-either x (sort_param v.origin v.var) (param_vars a) e)

in-params-right : (x : ℕ) (a b : List Value) → is_in x (param_vars b) ≡ true → is_in x (param_vars (a ++ b)) ≡ true
in-params-right x [] b e = e
in-params-right x (v ∷ a) b e = in-right x (sort_param v.origin v.var) (param_vars (a ++ b)) (in-params-right x a b e)

params-numbered : (k l i : ℕ) (xs : List ℕ) → param_vars (numbered k (Parameter l) i xs) ≡ xs
params-numbered k l i [] = refl
params-numbered k l i (x ∷ xs) = ap (λ m. x ∷ m) (params-numbered k l (suc i) xs)

params-of-place : (k : ℕ) (q : Spot) → Within (entry_params q) (param_vars (place_values k q))
params-of-place k (Entry l ps) = λ x e. ap (λ m. is_in x m) (params-numbered k l 0 ps) ∙ e
params-of-place k (At n) = λ x e. absurd (false≢true e)

pub entries-in : (k : ℕ) (ps : List Point) → Each (λ q. Within (entry_params q.place) (param_vars (values_from k ps))) ps
entries-in k [] = tt
entries-in k (q ∷ ps) = (
  λ x e. in-params-left x (place_values k q.place) (values_from (suc k) ps) (params-of-place k q.place x e),
  each-weaker (λ p. Within (entry_params p.place) (param_vars (values_from (suc k) ps))) (λ p. Within (entry_params p.place) (param_vars (place_values k q.place ++ values_from (suc k) ps))) ps
      (λ p h x e. in-params-right x (place_values k q.place) (values_from (suc k) ps) (h x e)) (entries-in (suc k) ps),
)

-- the parameters of a label are those of an entry
pub label-entry : (P : List ℕ) (k : ℕ) (ls : List Label) → Each (λ q. Within (entry_params q.place) P) (points_from k ls) → (i : ℕ) (l : Label) → slice_get ls i ≡ Some l → Within l.params P
label-entry P k [] h i l e = absurd (cc)
label-entry P k (m ∷ ls) h zero l e = let same : m ≡ l = cc in subst (λ (w : Label). Within w.params P) same h.0
label-entry P k (m ∷ ls) h (suc i) l e =
    label-entry P (suc k) ls (each-right (λ q. Within (entry_params q.place) P) (pure.label_points k m) (points_from (suc k) ls) h) i l e

param-in : (xs : List ℕ) (i : ℕ) → i < length xs → is_in (param_at (slice_get xs i)) xs ≡ true
param-in [] i l = absurd (omega arith)
param-in (x ∷ xs) zero l = or_left (nat_eq x x) (is_in x xs) (in-itself x)
param-in (x ∷ xs) (suc i) l = or_right (nat_eq (param_at (slice_get xs i)) x) (is_in (param_at (slice_get xs i)) xs) (param-in xs i (omega arith))

pub label-param-in : (P : List ℕ) (n i : ℕ) (o : Option Label) → ((l : Label) → o ≡ Some l → Within l.params P) → takes_as_many n o ≡ true → i < n → is_in (label_param o i) P ≡ true
label-param-in P n i (Some l) h e b = let same = same-number (length l.params) n e in h l refl (param_at (slice_get l.params i)) (param-in l.params i (omega arith))
label-param-in P n i None h e b = absurd (false≢true e)

-- ---- roles

abbrev pub IsRoleAt : List Label → Numbers → List Home → Role → Type 0
IsRoleAt labels number homes Operand = Unit {0}
IsRoleAt labels number homes Address = Unit {0}
IsRoleAt labels number homes (Written m j) = Unit {0}
IsRoleAt labels number homes (Argument l j) = (home_in homes (parameter labels l j)).defined ≡ Slot (slot_number number (parameter labels l j))
IsRoleAt labels number homes (Ending j) = Unit {0}

written-at : (labels : List Label) (number : Numbers) (homes : List Home) (m : Mem) (i : ℕ) (xs : List ℕ) → Each (IsRoleAt labels number homes) (roles (Written m) i xs)
written-at labels number homes m i [] = tt
written-at labels number homes m i (x ∷ xs) = (tt, written-at labels number homes m (suc i) xs)

ending-at : (labels : List Label) (number : Numbers) (homes : List Home) (i : ℕ) (xs : List ℕ) → Each (IsRoleAt labels number homes) (roles Ending i xs)
ending-at labels number homes i [] = tt
ending-at labels number homes i (x ∷ xs) = (tt, ending-at labels number homes (suc i) xs)

arguments-at : (labels : List Label) (number : Numbers) (homes : List Home) (P : List ℕ) (l n i : ℕ) (xs : List ℕ) → ((x : ℕ) → is_in x P ≡ true → (home_in homes x).defined ≡ Slot (slot_number number x)) → ((m : Label) → slice_get labels l ≡ Some m → Within m.params P)
    → takes_as_many n (slice_get labels l) ≡ true → i + length xs ≤ n → Each (IsRoleAt labels number homes) (roles (Argument l) i xs)
arguments-at labels number homes P l n i [] h g e b = tt
arguments-at labels number homes P l n i (x ∷ xs) h g e b = (
  h (parameter labels l i) (label-param-in P n i (slice_get labels l) g e (omega arith)),
  arguments-at labels number homes P l n (suc i) xs h g e (omega arith),
)

pub roles-at : (labels : List Label) (number : Numbers) (homes : List Home) (P : List ℕ) (q : Spot) → ((x : ℕ) → is_in x P ≡ true → (home_in homes x).defined ≡ Slot (slot_number number x)) → ((l : ℕ) (m : Label) → slice_get labels l ≡ Some m → Within m.params P)
    → place_ok labels q ≡ true → Each (IsRoleAt labels number homes) (place_roles q)
roles-at labels number homes P (Entry l ps) h g e = tt
roles-at labels number homes P (At (Does (Lit x v))) h g e = tt
roles-at labels number homes P (At (Does (Una x op y))) h g e = (tt, tt)
roles-at labels number homes P (At (Does (Bin x op y z))) h g e = (tt, (tt, tt))
roles-at labels number homes P (At (Does (Clone xs y))) h g e = tt
roles-at labels number homes P (At (Does (Read m xs y))) h g e = (tt, tt)
roles-at labels number homes P (At (Does (Write m y xs))) h g e = (tt, written-at labels number homes m 0 xs)
roles-at labels number homes P (At (Forks c x y)) h g e = (tt, (tt, tt))
roles-at labels number homes P (At (Ends (Jump l xs))) h g e = arguments-at labels number homes P l (length xs) 0 xs h (g l) (and_parts (nat_le 1 l) (takes_as_many (length xs) (slice_get labels l)) e).1 (omega arith)
roles-at labels number homes P (At (Ends (Halt n xs))) h g e = ending-at labels number homes 0 xs

operand-at : (l : Option ℕ) (n i : ℕ) → l ≡ Some 0 → IsOperandAt l (Slot n) (operand_at i)
operand-at l n zero e = IsOperandAt.read_slot e
operand-at l n (suc i) e = IsOperandAt.from_slot

served-by : (labels : List Label) (number : Numbers) (slots : ℕ) (homes : List Home) (k i x : ℕ) (role : Role) → Found number homes x → (pass (spilled labels number slots homes) k).l ≡ Some 0 → IsRoleAt labels number homes role
    → IsServedAt labels (spilled labels number slots homes) (record { point = k; operand = i; value = x; role = role }) (use_serve labels number (record { point = k; operand = i; value = x; role = role })) role
served-by labels number slots homes k i x Operand f p r = (home-found labels number slots homes x f, operand-at (pass (spilled labels number slots homes) k).l (slot_number number x) i p)
served-by labels number slots homes k i x Address f p r = (home-found labels number slots homes x f, IsAddressAt.from_slot)
served-by labels number slots homes k i x (Written m j) f p r =
    let zero-first : j ≡ first (spilled labels number slots homes) k + j = (let z = first-zero (accesses labels) k in omega arith) in
    (ap (write_place m) zero-first, inl (home-found labels number slots homes x f))
served-by labels number slots homes k i x (Argument l j) f p r = (home-found labels number slots homes x f, sym r)
served-by labels number slots homes k i x (Ending j) f p r = (home-found labels number slots homes x f, refl)

served-at : (labels : List Label) (number : Numbers) (slots : ℕ) (homes : List Home) (k i : ℕ) (xs : List ℕ) (rs : List Role) → ((x : ℕ) → is_in x xs ≡ true → Found number homes x) → (pass (spilled labels number slots homes) k).l ≡ Some 0
    → Each (IsRoleAt labels number homes) rs → Each (IsFound labels number (uses labels)) (uses_at k i xs rs) → Each (IsServed labels (spilled labels number slots homes)) (uses_at k i xs rs)
served-at labels number slots homes k i [] rs f p r h = tt
served-at labels number slots homes k i (x ∷ xs) [] f p r h = tt
served-at labels number slots homes k i (x ∷ xs) (role ∷ rs) f p r h = (
  subst (λ (s : Serve). IsServedAt labels (spilled labels number slots homes) (record { point = k; operand = i; value = x; role = role }) s role) (sym h.0)
      (served-by labels number slots homes k i x role (f x (or_left (nat_eq x x) (is_in x xs) (in-itself x))) p r.0),
  served-at labels number slots homes k (suc i) xs rs (λ y e. f y (or_right (nat_eq y x) (is_in y xs) e)) p r.1 h.1,
)

-- a point without a use has nothing to serve
pub served-point : (labels : List Label) (number : Numbers) (slots : ℕ) (homes : List Home) (k : ℕ) (xs : List ℕ) (rs : List Role) → ((x : ℕ) → is_in x xs ≡ true → Found number homes x) → (pass (spilled labels number slots homes) k).l ≡ read_pass xs
    → Each (IsRoleAt labels number homes) rs → Each (IsFound labels number (uses labels)) (uses_at k 0 xs rs) → Each (IsServed labels (spilled labels number slots homes)) (uses_at k 0 xs rs)
served-point labels number slots homes k [] rs f p r h = tt
served-point labels number slots homes k (x ∷ xs) rs f p r h = served-at labels number slots homes k 0 (x ∷ xs) rs f p r h

-- ---- two operands

two-apart : (labels : List Label) (number : Numbers) (slots : ℕ) (homes : List Home) (k : ℕ) (xs : List ℕ) → length xs ≡ 2 → Each (IsFound labels number (uses labels)) (uses_at k 0 xs (Operand ∷ Operand ∷ []))
    → different_groups (serve (spilled labels number slots homes) k 0).at (serve (spilled labels number slots homes) k 1).at ≡ true
two-apart labels number slots homes k [] e h = absurd (omega arith)
two-apart labels number slots homes k (x ∷ []) e h = absurd (omega arith)
two-apart labels number slots homes k (x ∷ y ∷ xs) e h =
    ap (λ (s : Serve). different_groups s.at (serve (spilled labels number slots homes) k 1).at) h.0 ∙ ap (λ (s : Serve). different_groups (L 0) s.at) h.1.0

pub operands-apart : (labels : List Label) (number : Numbers) (slots : ℕ) (homes : List Home) (k : ℕ) (q : Spot) (xs : List ℕ) → length (place_roles q) ≡ length xs → Each (IsFound labels number (uses labels)) (uses_at k 0 xs (place_roles q)) → AreApart (place_roles q) (spilled labels number slots homes) k
operands-apart labels number slots homes k (Entry l ps) xs e h = tt
operands-apart labels number slots homes k (At (Does (Lit x v))) xs e h = tt
operands-apart labels number slots homes k (At (Does (Una x op y))) xs e h = tt
operands-apart labels number slots homes k (At (Does (Bin x op y z))) xs e h = two-apart labels number slots homes k xs (sym e) h
operands-apart labels number slots homes k (At (Does (Clone ys y))) xs e h = tt
operands-apart labels number slots homes k (At (Does (Read m ys y))) xs e h = tt
operands-apart labels number slots homes k (At (Does (Write m y ys))) xs e h = tt
operands-apart labels number slots homes k (At (Forks c x y)) xs e h = two-apart labels number slots homes k xs (sym e) h
operands-apart labels number slots homes k (At (Ends (Jump l []))) xs e h = tt
operands-apart labels number slots homes k (At (Ends (Jump l (y ∷ ys)))) xs e h = tt
operands-apart labels number slots homes k (At (Ends (Halt n []))) xs e h = tt
operands-apart labels number slots homes k (At (Ends (Halt n (y ∷ ys)))) xs e h = tt

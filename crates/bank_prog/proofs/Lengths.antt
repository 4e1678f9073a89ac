-- Lengths of lists that are made piece by piece: over the points, values and uses of a form.
use Rattle.std.proofs.Common.{◌≡◌, ℕ, suc, ◌+◌, ◌*◌, ◌≤◌, Bool, true, false, if◌then◌else◌, List, [], ◌∷◌, length, filter, refl, ap, ◌∙◌, arith}
use Rattle.std.specs.List.{flat_map}
use Rattle.std.proofs.lemmas.List.{length-append}
use Rattle.std.proofs.Math.Nat.{mul-suc, mul-add}
use Rattle.nv_base.specs.declared.term.Mem.{Mem}
use Rattle.ssu_ir.specs.Measures.{point_size, total}
use Rattle.ssu_ir.specs.Points.{PointKind, Entry, At, Point}
use Rattle.ssu_ir.specs.Points as pure
use Rattle.ssu_ir.specs.Tree.{Lit, Una, Bin, Clone, Read, Write, Does, Forks, Ends}
use Rattle.place_plan.specs.Uses.{accesses_from, place_accesses, ValueOrigin, Fetched, Parameter, Value, numbered, place_values, values_from, Role, Use, uses_at, uses_from, place_roles}
use Rattle.bank_prog_form.specs.Columns.{each_point, eight, point_uses, may_begin, beginnings}

-- ---- of lists

pub kept-few : {X : Type 0} (p : X → Bool) (xs : List X) → length (filter p xs) ≤ length xs
kept-few p [] = omega arith
kept-few p (x ∷ xs) = by (p x) (kept-few p xs)
  where
    by : (b : Bool) → length (filter p xs) ≤ length xs → length (if b then x ∷ filter p xs else filter p xs) ≤ suc (length xs)
    by true h = omega (arith, h)
    by false h = omega (arith, h)

-- a part that may be missing
pub if-few : {X : Type 0} (n : ℕ) (b : Bool) (xs : List X) → length xs ≤ n → length (if b then xs else []) ≤ n
if-few n true xs h = h
if-few n false xs h = omega arith

-- at most n for each of these
pub flat-few : {X Y : Type 0} (n : ℕ) (f : X → List Y) (xs : List X) → ((x : X) → length (f x) ≤ n) → length (flat_map f xs) ≤ n * length xs
flat-few n f [] h = omega arith
flat-few n f (x ∷ xs) h =
    let a = length-append (f x) (flat_map f xs) in
    let b = h x in
    let c = flat-few n f xs h in
    let d = mul-suc n (length xs) in
    omega (arith, a, b, c, d)

-- ---- by points, by values, by uses

pub points-few : {X : Type 0} (n : ℕ) (f : ℕ → Point → List X) (k : ℕ) (ps : List Point) → ((i : ℕ) (q : Point) → length (f i q) ≤ n) → length (each_point f k ps) ≤ n * length ps
points-few n f k [] h = omega arith
points-few n f k (q ∷ ps) h =
    let a = length-append (f k q) (each_point f (suc k) ps) in
    let b = h k q in
    let c = points-few n f (suc k) ps h in
    let d = mul-suc n (length ps) in
    omega (arith, a, b, c, d)

pub values-few : {X : Type 0} (n : ℕ) (f : Point → Value → List X) (k : ℕ) (ps : List Point) → ((q : Point) (v : Value) → length (f q v) ≤ n)
    → length (each_point (λ i q. flat_map (f q) (place_values i q.place)) k ps) ≤ n * length (values_from k ps)
values-few n f k [] h = omega arith
values-few n f k (q ∷ ps) h =
    let vs = place_values k q.place in
    let rest = values_from (suc k) ps in
    let a : length (each_point (λ i q. flat_map (f q) (place_values i q.place)) k (q ∷ ps)) ≡ length (flat_map (f q) vs) + length (each_point (λ i q. flat_map (f q) (place_values i q.place)) (suc k) ps) =
    length-append (flat_map (f q) vs) (each_point (λ i q. flat_map (f q) (place_values i q.place)) (suc k) ps) in
    let b = flat-few n (f q) vs (h q) in
    let c = values-few n f (suc k) ps h in
    let d : n * length (values_from k (q ∷ ps)) ≡ n * length vs + n * length rest = ap (λ m. n * m) (length-append vs rest) ∙ mul-add n (length vs) (length rest) in
    omega (arith, a, b, c, d)

pub uses-few : {X : Type 0} (n : ℕ) (f : Point → Use → List X) (k : ℕ) (ps : List Point) → ((q : Point) (u : Use) → length (f q u) ≤ n)
    → length (each_point (λ i q. flat_map (f q) (point_uses i q)) k ps) ≤ n * length (uses_from k ps)
uses-few n f k [] h = omega arith
uses-few n f k (q ∷ ps) h =
    let us = point_uses k q in
    let rest = uses_from (suc k) ps in
    let a : length (each_point (λ i q. flat_map (f q) (point_uses i q)) k (q ∷ ps)) ≡ length (flat_map (f q) us) + length (each_point (λ i q. flat_map (f q) (point_uses i q)) (suc k) ps) =
    length-append (flat_map (f q) us) (each_point (λ i q. flat_map (f q) (point_uses i q)) (suc k) ps) in
    let b = flat-few n (f q) us (h q) in
    let c = uses-few n f (suc k) ps h in
    let d : n * length (uses_from k (q ∷ ps)) ≡ n * length us + n * length rest = ap (λ m. n * m) (length-append us rest) ∙ mul-add n (length us) (length rest) in
    omega (arith, a, b, c, d)

-- ---- accesses, and where one may begin

pub begin-few : (m : Mem) (n : ℕ) → length (beginnings m n) ≤ 8
begin-few m n = kept-few (may_begin m n) eight

place-few : (k : ℕ) (q : PointKind) → length (place_accesses k q) ≤ 1
place-few k (Entry l params) = omega arith
place-few k (At (Does (Lit x v))) = omega arith
place-few k (At (Does (Una x op y))) = omega arith
place-few k (At (Does (Bin x op y z))) = omega arith
place-few k (At (Does (Clone xs y))) = omega arith
place-few k (At (Does (Read m xs y))) = omega arith
place-few k (At (Does (Write m y xs))) = omega arith
place-few k (At (Forks c x y)) = omega arith
place-few k (At (Ends l)) = omega arith

pub accesses-few : (k : ℕ) (ps : List Point) → length (accesses_from k ps) ≤ length ps
accesses-few k [] = omega arith
accesses-few k (q ∷ ps) =
    let a = length-append (place_accesses k q.place) (accesses_from (suc k) ps) in
    let b = place-few k q.place in
    let c = accesses-few (suc k) ps in
    omega (arith, a, b, c)

-- ---- a size as the points, the values and the uses

numbered-long : (k : ℕ) (origin : ℕ → ValueOrigin) (i : ℕ) (xs : List ℕ) → length (numbered k origin i xs) ≡ length xs
numbered-long k origin i [] = refl
numbered-long k origin i (x ∷ xs) = let h = numbered-long k origin (suc i) xs in omega (arith, h)

pub values-long : (k : ℕ) (q : PointKind) → length (place_values k q) ≡ length (pure.place_values q)
values-long k (Entry l params) = numbered-long k (Parameter l) 0 params
values-long k (At (Does (Lit x v))) = refl
values-long k (At (Does (Una x op y))) = refl
values-long k (At (Does (Bin x op y z))) = refl
values-long k (At (Does (Clone xs y))) = refl
values-long k (At (Does (Read m xs y))) = numbered-long k (Fetched m) 0 xs
values-long k (At (Does (Write m y xs))) = refl
values-long k (At (Forks c x y)) = refl
values-long k (At (Ends l)) = refl

uses-long : (k i : ℕ) (xs : List ℕ) (rs : List Role) → length (uses_at k i xs rs) ≤ length xs
uses-long k i [] rs = omega arith
uses-long k i (x ∷ xs) [] = omega arith
uses-long k i (x ∷ xs) (r ∷ rs) = let h = uses-long k (suc i) xs rs in omega (arith, h)

pub parts-few : (k : ℕ) (ps : List Point) → length ps + (length (values_from k ps) + length (uses_from k ps)) ≤ total point_size ps
parts-few k [] = omega arith
parts-few k (q ∷ ps) =
    let us = uses_at k 0 q.uses (place_roles q.place) in
    let a = length-append (place_values k q.place) (values_from (suc k) ps) in
    let b = length-append us (uses_from (suc k) ps) in
    let c = values-long k q.place in
    let d = uses-long k 0 q.uses (place_roles q.place) in
    let e = parts-few (suc k) ps in
    omega (arith, a, b, c, d, e)

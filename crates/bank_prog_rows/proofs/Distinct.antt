-- Columns that are all different, part by part.
use Rattle.std.proofs.Common.{◌≡◌, ℕ, suc, ◌≤◌, true, false, not, ◌||◌, nat_eq, List, [], ◌∷◌, ◌++◌, map, refl, sym, ap, subst, ◌∙◌, arith}
use Rattle.std.specs.List.{flat_map}
use Rattle.std.proofs.lemmas.Bool.{and_parts, false≢true, false_from_ne_true, or_parts, not-true}
use Rattle.std.proofs.lemmas.Grind.{flat_map-append}
use Rattle.nv_base.specs.Sets.{is_in, all_different}
use Rattle.ssu_ir.specs.Points.{Point, place_values}
use Rattle.ssu_ir.proofs.Liveness.{in-left, in-right}
use Rattle.place_plan.specs.Uses.{Value, Role, Use, uses_at}
use Rattle.ssu_liveness.specs.inner.Numbers.{values_among}
use Rattle.ssu_liveness.proofs.Scoped.{in-itself, split-different}
use Rattle.place_plan.proofs.Sound.{Each, each-append}
use Rattle.place_plan.proofs.Spilled.{each-weaker}
use Rattle.bank_prog_form.specs.declared.column.Column.{Column}
use Rattle.bank_prog_form.specs.Columns.{Priced, each_point}
use Rattle.bank_prog_form.specs.Program.{same_column}
use Rattle.bank_prog_form.proofs.Keys.{column-true}

abbrev pub Apart : Priced → Priced → Type 0
Apart p q = same_column p.0 q.0 ≡ false

abbrev pub Distinct : List Priced → Type 0
Distinct [] = Unit {0}
Distinct (p ∷ ps) = Each (Apart p) ps × Distinct ps

-- ---- lists

pub each-flat : {X Y : Type 0} (P : Y → Type 0) (f : X → List Y) → ((x : X) → Each P (f x)) → (xs : List X) → Each P (flat_map f xs)
each-flat P f h [] = tt
each-flat P f h (x ∷ xs) = each-append P (f x) (flat_map f xs) (h x) (each-flat P f h xs)

pub each-points : {Y : Type 0} (P : Y → Type 0) (f : ℕ → Point → List Y) → ((k : ℕ) (q : Point) → Each P (f k q)) → (k : ℕ) (ps : List Point) → Each P (each_point f k ps)
each-points P f h k [] = tt
each-points P f h k (q ∷ ps) = each-append P (f k q) (each_point f (suc k) ps) (h k q) (each-points P f h (suc k) ps)

pub each-map : {X Y : Type 0} (P : Y → Type 0) (f : X → Y) → ((x : X) → P (f x)) → (xs : List X) → Each P (map f xs)
each-map P f h [] = tt
each-map P f h (x ∷ xs) = (h x, each-map P f h xs)

pub flat-points : {Y Z : Type 0} (h : Y → List Z) (f : ℕ → Point → List Y) (k : ℕ) (ps : List Point) → flat_map h (each_point f k ps) ≡ each_point (λ k q. flat_map h (f k q)) k ps
flat-points h f k [] = refl
flat-points h f k (q ∷ ps) = flat_map-append h (f k q) (each_point f (suc k) ps) ∙ ap (λ zs. flat_map h (f k q) ++ zs) (flat-points h f (suc k) ps)

in-first : (x y : ℕ) (ys : List ℕ) → x ≡ y → is_in x (y ∷ ys) ≡ true
in-first x y ys e = ap (λ z. is_in z (y ∷ ys)) e ∙ ap (λ b. b || is_in y ys) (in-itself y)

-- ---- parts that differ by a property, or by a key

pub apart-property : (P : Column → Type 0) (c d : Column) → P c → (P d → ⊥) → same_column c d ≡ false
apart-property P c d h n = false_from_ne_true (same_column c d) (λ e. n (subst P (column-true c d e) h))

pub join : (P : Column → Type 0) (a b : List Priced) → Each (λ p. P p.0) a → Each (λ p. P p.0 → ⊥) b → Distinct a → Distinct b → Distinct (a ++ b)
join P [] b h g d e = e
join P (p ∷ a) b h g d e = (
  each-append (Apart p) a b d.0 (each-weaker (λ q. P q.0 → ⊥) (Apart p) b (λ q n. apart-property P p.0 q.0 h.0 n) g),
  join P a b h.1 g d.1 e,
)

none-alike : (key : Column → ℕ) (p : Priced) (ps : List Priced) → is_in (key p.0) (map (λ q. key q.0) ps) ≡ false → Each (Apart p) ps
none-alike key p [] h = tt
none-alike key p (q ∷ ps) h =
    let m = or_parts (nat_eq (key p.0) (key q.0)) (is_in (key p.0) (map (λ q. key q.0) ps)) h in (
      false_from_ne_true (same_column p.0 q.0) (λ e. false≢true (sym m.0 ∙ ap (λ z. nat_eq (key p.0) z) (sym (ap key (column-true p.0 q.0 e))) ∙ in-itself (key p.0))),
      none-alike key p ps m.1,
    )

pub by-keys : (key : Column → ℕ) (ps : List Priced) → all_different (map (λ q. key q.0) ps) ≡ true → Distinct ps
by-keys key [] h = tt
by-keys key (p ∷ ps) h =
    let m = and_parts (not (is_in (key p.0) (map (λ q. key q.0) ps))) (all_different (map (λ q. key q.0) ps)) h in
    (none-alike key p ps (not-true (is_in (key p.0) (map (λ q. key q.0) ps)) m.0), by-keys key ps m.1)

map-key : (key : Column → ℕ) (make : ℕ → Priced) → ((r : ℕ) → key (make r).0 ≡ r) → (rs : List ℕ) → map (λ q. key q.0) (map make rs) ≡ rs
map-key key make h [] = refl
map-key key make h (r ∷ rs) = ap (λ z. z ∷ map (λ q. key q.0) (map make rs)) (h r) ∙ ap (λ zs. r ∷ zs) (map-key key make h rs)

-- one for each register
pub by-register : (key : Column → ℕ) (make : ℕ → Priced) → ((r : ℕ) → key (make r).0 ≡ r) → (rs : List ℕ) → all_different rs ≡ true → Distinct (map make rs)
by-register key make h rs d = by-keys key (map make rs) (ap all_different (map-key key make h rs) ∙ d)

-- ---- point by point

points-from : (key : Column → ℕ) (g : ℕ → Point → List Priced) → ((k : ℕ) (q : Point) → Each (λ p. key p.0 ≡ k) (g k q)) → (k : ℕ) (ps : List Point) → Each (λ p. k ≤ key p.0) (each_point g k ps)
points-from key g h k [] = tt
points-from key g h k (q ∷ ps) =
    each-append (λ p. k ≤ key p.0) (g k q) (each_point g (suc k) ps) (each-weaker (λ p. key p.0 ≡ k) (λ p. k ≤ key p.0) (g k q) (λ p e. omega (arith, e)) (h k q))
    (each-weaker (λ p. suc k ≤ key p.0) (λ p. k ≤ key p.0) (each_point g (suc k) ps) (λ p l. omega (arith, l)) (points-from key g h (suc k) ps))

pub by-point : (key : Column → ℕ) (g : ℕ → Point → List Priced) → ((k : ℕ) (q : Point) → Each (λ p. key p.0 ≡ k) (g k q)) → ((k : ℕ) (q : Point) → Distinct (g k q)) → (k : ℕ) (ps : List Point) → Distinct (each_point g k ps)
by-point key g h d k [] = tt
by-point key g h d k (q ∷ ps) =
    join (λ c. key c ≡ k) (g k q) (each_point g (suc k) ps) (h k q)
    (each-weaker (λ p. suc k ≤ key p.0) (λ p. key p.0 ≡ k → ⊥) (each_point g (suc k) ps) (λ p l e. omega (arith, l, e)) (points-from key g h (suc k) ps)) (d k q) (by-point key g h d (suc k) ps)

-- ---- use by use

uses-from : (key : Column → ℕ) (h : Use → List Priced) → ((u : Use) → Each (λ p. key p.0 ≡ u.operand) (h u)) → (k i : ℕ) (xs : List ℕ) (rs : List Role) → Each (λ p. i ≤ key p.0) (flat_map h (uses_at k i xs rs))
uses-from key h e k i [] rs = tt
uses-from key h e k i (x ∷ xs) [] = tt
uses-from key h e k i (x ∷ xs) (r ∷ rs) =
    let u : Use = record { point = k; operand = i; value = x; role = r } in
    each-append (λ p. i ≤ key p.0) (h u) (flat_map h (uses_at k (suc i) xs rs)) (each-weaker (λ p. key p.0 ≡ i) (λ p. i ≤ key p.0) (h u) (λ p q. omega (arith, q)) (e u))
    (each-weaker (λ p. suc i ≤ key p.0) (λ p. i ≤ key p.0) (flat_map h (uses_at k (suc i) xs rs)) (λ p l. omega (arith, l)) (uses-from key h e k (suc i) xs rs))

pub by-use : (key : Column → ℕ) (h : Use → List Priced) → ((u : Use) → Each (λ p. key p.0 ≡ u.operand) (h u)) → ((u : Use) → Distinct (h u)) → (k i : ℕ) (xs : List ℕ) (rs : List Role) → Distinct (flat_map h (uses_at k i xs rs))
by-use key h e d k i [] rs = tt
by-use key h e d k i (x ∷ xs) [] = tt
by-use key h e d k i (x ∷ xs) (r ∷ rs) =
    let u : Use = record { point = k; operand = i; value = x; role = r } in
    join (λ c. key c ≡ i) (h u) (flat_map h (uses_at k (suc i) xs rs)) (e u)
    (each-weaker (λ p. suc i ≤ key p.0) (λ p. key p.0 ≡ i → ⊥) (flat_map h (uses_at k (suc i) xs rs)) (λ p l q. omega (arith, l, q)) (uses-from key h e k (suc i) xs rs)) (d u) (by-use key h e d k (suc i) xs rs)

pub uses-point : (key : Column → ℕ) (h : Use → List Priced) → ((u : Use) → Each (λ p. key p.0 ≡ u.point) (h u)) → (k i : ℕ) (xs : List ℕ) (rs : List Role) → Each (λ p. key p.0 ≡ k) (flat_map h (uses_at k i xs rs))
uses-point key h e k i [] rs = tt
uses-point key h e k i (x ∷ xs) [] = tt
uses-point key h e k i (x ∷ xs) (r ∷ rs) =
    let u : Use = record { point = k; operand = i; value = x; role = r } in
    each-append (λ p. key p.0 ≡ k) (h u) (flat_map h (uses_at k (suc i) xs rs)) (e u) (uses-point key h e k (suc i) xs rs)

-- ---- value by value

pub values-in : (key : Column → ℕ) (h : Value → List Priced) → ((v : Value) → Each (λ p. key p.0 ≡ v.var) (h v)) → (vs : List Value) → Each (λ p. is_in (key p.0) (map (λ v. v.var) vs) ≡ true) (flat_map h vs)
values-in key h e [] = tt
values-in key h e (v ∷ vs) =
    let xs = map (λ (v : Value). v.var) vs in
    each-append (λ p. is_in (key p.0) (v.var ∷ xs) ≡ true) (h v) (flat_map h vs) (each-weaker (λ p. key p.0 ≡ v.var) (λ p. is_in (key p.0) (v.var ∷ xs) ≡ true) (h v) (λ p q. in-first (key p.0) v.var xs q) (e v))
    (each-weaker (λ p. is_in (key p.0) xs ≡ true) (λ p. is_in (key p.0) (v.var ∷ xs) ≡ true) (flat_map h vs) (λ p q. in-right (key p.0) (v.var ∷ []) xs q) (values-in key h e vs))

pub by-value : (key : Column → ℕ) (h : Value → List Priced) → ((v : Value) → Each (λ p. key p.0 ≡ v.var) (h v)) → ((v : Value) → Distinct (h v)) → (vs : List Value) → all_different (map (λ v. v.var) vs) ≡ true → Distinct (flat_map h vs)
by-value key h e d [] a = tt
by-value key h e d (v ∷ vs) a =
    let xs = map (λ (v : Value). v.var) vs in
    let m = and_parts (not (is_in v.var xs)) (all_different xs) a in
    let out = not-true (is_in v.var xs) m.0 in
    join (λ c. key c ≡ v.var) (h v) (flat_map h vs) (e v)
    (each-weaker (λ p. is_in (key p.0) xs ≡ true) (λ p. key p.0 ≡ v.var → ⊥) (flat_map h vs) (λ p i q. false≢true (sym out ∙ ap (λ z. is_in z xs) (sym q) ∙ i)) (values-in key h e vs)) (d v) (by-value key h e d vs m.1)

values-among : (key : Column → ℕ) (g : ℕ → Point → List Priced) → ((k : ℕ) (q : Point) → Each (λ p. is_in (key p.0) (place_values q.place) ≡ true) (g k q)) → (k : ℕ) (ps : List Point)
    → Each (λ p. is_in (key p.0) (values_among (map (λ q. q.place) ps)) ≡ true) (each_point g k ps)
values-among key g h k [] = tt
values-among key g h k (q ∷ ps) =
    let here = place_values q.place in
    let rest = values_among (map (λ (q : Point). q.place) ps) in
    each-append (λ p. is_in (key p.0) (here ++ rest) ≡ true) (g k q) (each_point g (suc k) ps)
    (each-weaker (λ p. is_in (key p.0) here ≡ true) (λ p. is_in (key p.0) (here ++ rest) ≡ true) (g k q) (λ p i. in-left (key p.0) here rest i) (h k q))
    (each-weaker (λ p. is_in (key p.0) rest ≡ true) (λ p. is_in (key p.0) (here ++ rest) ≡ true) (each_point g (suc k) ps) (λ p i. in-right (key p.0) here rest i) (values-among key g h (suc k) ps))

pub by-definition : (key : Column → ℕ) (g : ℕ → Point → List Priced) → ((k : ℕ) (q : Point) → Each (λ p. is_in (key p.0) (place_values q.place) ≡ true) (g k q)) → ((k : ℕ) (q : Point) → all_different (place_values q.place) ≡ true → Distinct (g k q)) → (k : ℕ) (ps : List Point)
    → all_different (values_among (map (λ q. q.place) ps)) ≡ true → Distinct (each_point g k ps)
by-definition key g h d k [] a = tt
by-definition key g h d k (q ∷ ps) a =
    let here = place_values q.place in
    let rest = values_among (map (λ (q : Point). q.place) ps) in
    let m = split-different here rest a in
    join (λ c. is_in (key c) here ≡ true) (g k q) (each_point g (suc k) ps) (h k q)
    (each-weaker (λ p. is_in (key p.0) rest ≡ true) (λ p. is_in (key p.0) here ≡ true → ⊥) (each_point g (suc k) ps) (λ p i j. m.2 (key p.0) j i) (values-among key g h (suc k) ps)) (d k q m.0) (by-definition key g h d (suc k) ps m.1)

-- Which columns there are: the column of each thing that the form has one for is among the columns.
use Rattle.std.proofs.Common.{◌≡◌, ℕ, zero, suc, ◌+◌, ◌<◌, nat_le, Bool, true, false, cond, if◌then◌else◌, Some, List, [], ◌∷◌, ◌++◌, length, map, refl, sym, ap, subst, ◌∙◌, ◌⊎◌, inl, inr, ⊎_elim, arith}
use Rattle.std.specs.Prelude.{slice_get, slice_index_or}
use Rattle.std.specs.List.{Contains, flat_map, filter, list_any}
use Rattle.std.proofs.lemmas.Bool.{false≢true}
use Rattle.std.proofs.lemmas.List.Elements.{Contains-append_left, Contains-append_right, Contains-append_cases}
use Rattle.nv_base.specs.declared.term.Mem.{Mem}
use Rattle.ssu_ir.specs.Tree.{Step, Lit, Una, Bin, Clone, Read, Write, Label, Does, Forks, Ends}
use Rattle.ssu_ir.specs.Points.{PointKind, Entry, At, Point, points}
use Rattle.place_plan.specs.Uses.{Access, accesses, accesses_from, place_accesses, step_reads, step_writes, ValueOrigin, Parameter, Result, Fetched, Value, values, values_from, numbered, step_values, place_values, Role, Use, uses, uses_from, uses_at, place_roles, is_used}
use Rattle.place_plan.specs.Fits.{is_result}
use Rattle.bank_prog_form.specs.declared.column.Bank.{Bank}
use Rattle.bank_prog_form.specs.declared.column.Bank.TheVariants.{A, B, M}
use Rattle.bank_prog_form.specs.declared.column.Column.{Column}
use Rattle.bank_prog_form.specs.declared.column.Column.TheVariants.{Def, DirectWrite, Fill, Stay, EarlyWrite, First, Serve, ReadVia, WriteVia}
use Rattle.bank_prog_form.specs.declared.column.Service.{Service}
use Rattle.bank_prog_form.specs.Columns.{each_point, origin_of, is_fetched, point_uses, place_words, eight, may_begin, beginnings, role_beginnings, origin_beginnings, Priced, origin_defs, def_columns, dir_columns, point_dirs, fill_columns, stay_columns, point_stays, ear_columns, point_ears, first_columns, services, has_bank, srv_columns, for_eight, pas_l_columns, pas_s_columns, all_dirs, all_stays, all_ears, all_pas_l, all_pas_s, priced, columns}
use Rattle.bank_prog_form.specs.Rows.{homes}

-- ---- elements of lists that are made piece by piece

-- an element is the first, or one of the others
pub first-or-other : {X : Type 0} (x y : X) (ys : List X) (k : ℕ) → k < length (y ∷ ys) → slice_index_or (y ∷ ys) k x ≡ x → (y ≡ x) ⊎ Contains ys x
first-or-other x y ys zero l e = inl e
first-or-other x y ys (suc k) l e = inr (k, omega (arith, l), e)

pub contains-first : {X : Type 0} (x y : X) (ys : List X) → y ≡ x → Contains (y ∷ ys) x
contains-first x y ys e = (0, omega arith, e)

pub contains-other : {X : Type 0} (x y : X) (ys : List X) → Contains ys x → Contains (y ∷ ys) x
contains-other x y ys m = let l : m.0 < length ys = m.1 in (suc m.0, omega arith, m.2)

pub contains-none : {X : Type 0} (P : Type 0) (x : X) → Contains [] x → P
contains-none P x m = absurd (omega (arith, m.1))

pub contains-map : {X Y : Type 0} (f : X → Y) (xs : List X) (x : X) → Contains xs x → Contains (map f xs) (f x)
contains-map f [] x m = contains-none (Contains [] (f x)) x m
contains-map f (z ∷ xs) x m = ⊎_elim
    (λ (e : z ≡ x). contains-first (f x) (f z) (map f xs) (ap f e))
    (λ (n : Contains xs x). contains-other (f x) (f z) (map f xs) (contains-map f xs x n))
    (first-or-other x z xs m.0 m.1 m.2)

-- an element of a mapped list comes from an element
pub contains-mapped : {X Y : Type 0} (f : X → Y) (xs : List X) (y : Y) → Contains (map f xs) y → (x : X) × Contains xs x × (f x ≡ y)
contains-mapped f [] y m = contains-none _ y m
contains-mapped f (z ∷ xs) y m = ⊎_elim
    (λ (e : f z ≡ y). (z, contains-first z z xs refl, e))
    (λ (n : Contains (map f xs) y). let w = contains-mapped f xs y n in (w.0, contains-other w.0 z xs w.1, w.2))
    (first-or-other y (f z) (map f xs) m.0 m.1 m.2)

pub contains-flat : {X Y : Type 0} (f : X → List Y) (xs : List X) (x : X) (y : Y) → Contains xs x → Contains (f x) y → Contains (flat_map f xs) y
contains-flat f [] x y m h = contains-none _ x m
contains-flat f (z ∷ xs) x y m h = ⊎_elim
    (λ (e : z ≡ x). Contains-append_left (f z) (flat_map f xs) y (subst (λ w. Contains (f w) y) (sym e) h))
    (λ (n : Contains xs x). Contains-append_right (f z) (flat_map f xs) y (contains-flat f xs x y n h))
    (first-or-other x z xs m.0 m.1 m.2)

kept-first : {X : Type 0} (x z : X) (xs : List X) (b : Bool) → b ≡ true → z ≡ x → Contains (cond b (z ∷ xs) xs) x
kept-first x z xs true t e = contains-first x z xs e
kept-first x z xs false t e = absurd (false≢true t)

kept-other : {X : Type 0} (x z : X) (xs : List X) (b : Bool) → Contains xs x → Contains (cond b (z ∷ xs) xs) x
kept-other x z xs true m = contains-other x z xs m
kept-other x z xs false m = m

pub contains-kept : {X : Type 0} (p : X → Bool) (xs : List X) (x : X) → Contains xs x → p x ≡ true → Contains (filter p xs) x
contains-kept p [] x m t = contains-none _ x m
contains-kept p (z ∷ xs) x m t = ⊎_elim
    (λ (e : z ≡ x). kept-first x z (filter p xs) (p z) (ap p e ∙ t) e)
    (λ (n : Contains xs x). kept-other x z (filter p xs) (p z) (contains-kept p xs x n t))
    (first-or-other x z xs m.0 m.1 m.2)

pub contains-if : {X : Type 0} (b : Bool) (xs : List X) (x : X) → b ≡ true → Contains xs x → Contains (if b then xs else []) x
contains-if true xs x t m = m
contains-if false xs x t m = absurd (false≢true t)

-- what is made at a point is among what is made at all
pub contains-point : {Y : Type 0} (f : ℕ → Point → List Y) (j : ℕ) (ps : List Point) (i k : ℕ) (q : Point) (y : Y) → k ≡ j + i → slice_get ps i ≡ Some q → Contains (f k q) y → Contains (each_point f j ps) y
contains-point f j [] i k q y e g m = absurd (cc)
contains-point f j (p ∷ ps) zero k q y e g m =
    let same : q ≡ p = cc in
    let at : k ≡ j = omega (arith, e) in
    Contains-append_left (f j p) (each_point f (suc j) ps) y (subst (λ z. Contains (f j z) y) same (subst (λ n. Contains (f n q) y) at m))
contains-point f j (p ∷ ps) (suc i) k q y e g m =
    Contains-append_right (f j p) (each_point f (suc j) ps) y (contains-point f (suc j) ps i k q y (omega (arith, e)) g m)

-- ---- registers, banks, and where an access may begin

pub contains-eight : (r : ℕ) → r < 8 → Contains eight r
contains-eight zero l = (0, omega arith, refl)
contains-eight (suc zero) l = (1, omega arith, refl)
contains-eight (suc (suc zero)) l = (2, omega arith, refl)
contains-eight (suc (suc (suc zero))) l = (3, omega arith, refl)
contains-eight (suc (suc (suc (suc zero)))) l = (4, omega arith, refl)
contains-eight (suc (suc (suc (suc (suc zero))))) l = (5, omega arith, refl)
contains-eight (suc (suc (suc (suc (suc (suc zero)))))) l = (6, omega arith, refl)
contains-eight (suc (suc (suc (suc (suc (suc (suc zero))))))) l = (7, omega arith, refl)
contains-eight (suc (suc (suc (suc (suc (suc (suc (suc r)))))))) l = absurd (omega arith)

pub contains-beginning : (m : Mem) (n f : ℕ) → f < 8 → may_begin m n f ≡ true → Contains (beginnings m n) f
contains-beginning m n f l e = contains-kept (may_begin m n) eight f (contains-eight f l) e

pub home-a : Contains homes A
home-a = (0, omega arith, refl)

pub home-b : Contains homes B
home-b = (1, omega arith, refl)

-- ---- where a use, a value and an access stand

pub use-point : (u : Use) (k i : ℕ) (xs : List ℕ) (rs : List Role) → Contains (uses_at k i xs rs) u → u.point ≡ k
use-point u k i [] rs m = contains-none _ u m
use-point u k i (x ∷ xs) [] m = contains-none _ u m
use-point u k i (x ∷ xs) (r ∷ rs) m = ⊎_elim
    (λ (e : ◌≡◌ {A = Use} (record { point = k; operand = i; value = x; role = r }) u). ap (λ (v : Use). v.point) (sym e))
    (λ (n : Contains (uses_at k (suc i) xs rs) u). use-point u k (suc i) xs rs n)
    (first-or-other u (record { point = k; operand = i; value = x; role = r }) (uses_at k (suc i) xs rs) m.0 m.1 m.2)

numbered-point : (v : Value) (k : ℕ) (origin : ℕ → ValueOrigin) (i : ℕ) (xs : List ℕ) → Contains (numbered k origin i xs) v → v.point ≡ k
numbered-point v k origin i [] m = contains-none _ v m
numbered-point v k origin i (x ∷ xs) m = ⊎_elim
    (λ (e : ◌≡◌ {A = Value} (record { point = k; var = x; origin = origin i }) v). ap (λ (w : Value). w.point) (sym e))
    (λ (n : Contains (numbered k origin (suc i) xs) v). numbered-point v k origin (suc i) xs n)
    (first-or-other v (record { point = k; var = x; origin = origin i }) (numbered k origin (suc i) xs) m.0 m.1 m.2)

one-value : (v : Value) (k x : ℕ) → Contains (numbered k (λ i. Result) 0 (x ∷ [])) v → v.point ≡ k
one-value v k x m = numbered-point v k (λ i. Result) 0 (x ∷ []) m

step-value-point : (v : Value) (k : ℕ) (s : Step) → Contains (step_values k s) v → v.point ≡ k
step-value-point v k (Lit x n) m = one-value v k x m
step-value-point v k (Una x op y) m = one-value v k x m
step-value-point v k (Bin x op y z) m = one-value v k x m
step-value-point v k (Clone xs y) m = contains-none _ v m
step-value-point v k (Read d xs y) m = numbered-point v k (Fetched d) 0 xs m
step-value-point v k (Write d y xs) m = contains-none _ v m

pub value-point : (v : Value) (k : ℕ) (q : PointKind) → Contains (place_values k q) v → v.point ≡ k
value-point v k (Entry l params) m = numbered-point v k (Parameter l) 0 params m
value-point v k (At (Does s)) m = step-value-point v k s m
value-point v k (At (Forks c x y)) m = contains-none _ v m
value-point v k (At (Ends l)) m = contains-none _ v m

one-access : (a : Access) (k : ℕ) (d : Mem) (n : ℕ) → Contains {X = Access} (record { point = k; mem = d; words = n } ∷ []) a → a.point ≡ k
one-access a k d n m = ⊎_elim
    (λ (e : ◌≡◌ {A = Access} (record { point = k; mem = d; words = n }) a). ap (λ (b : Access). b.point) (sym e))
    (λ (j : Contains {X = Access} [] a). contains-none _ a j)
    (first-or-other a (record { point = k; mem = d; words = n }) [] m.0 m.1 m.2)

step-access-point : (a : Access) (k : ℕ) (s : Step) → Contains (step_reads k s ++ step_writes k s) a → a.point ≡ k
step-access-point a k (Lit x n) m = contains-none _ a m
step-access-point a k (Una x op y) m = contains-none _ a m
step-access-point a k (Bin x op y z) m = contains-none _ a m
step-access-point a k (Clone xs y) m = contains-none _ a m
step-access-point a k (Read d xs y) m = one-access a k d (length xs) m
step-access-point a k (Write d y xs) m = one-access a k d (length xs) m

pub access-point : (a : Access) (k : ℕ) (q : PointKind) → Contains (place_accesses k q) a → a.point ≡ k
access-point a k (Entry l params) m = contains-none _ a m
access-point a k (At (Does s)) m = step-access-point a k s m
access-point a k (At (Forks c x y)) m = contains-none _ a m
access-point a k (At (Ends l)) m = contains-none _ a m

-- a use with the point that it stands at
pub record UsedAt (ps : List Point) (j : ℕ) (u : Use) : Type 0 where
  pub index : ℕ
  pub place : Point
  pub point : u.point ≡ j + index
  pub at : slice_get ps index ≡ Some place
  pub here : Contains (point_uses u.point place) u

pub used-at : (u : Use) (j : ℕ) (ps : List Point) → Contains (uses_from j ps) u → UsedAt ps j u
used-at u j [] m = contains-none _ u m
used-at u j (q ∷ ps) m = ⊎_elim
    (λ (n : Contains (point_uses j q) u).
    let p = use-point u j 0 q.uses (place_roles q.place) n in
    record { index = 0; place = q; point = p ∙ (let z : j ≡ j + 0 = omega arith in z); at = refl; here = subst (λ k. Contains (point_uses k q) u) (sym p) n })
    (λ (n : Contains (uses_from (suc j) ps) u).
    let w = used-at u (suc j) ps n in
    let p = w.point in
    record { index = suc w.index; place = w.place; point = omega (arith, p); at = w.at; here = w.here })
    (Contains-append_cases (point_uses j q) (uses_from (suc j) ps) u m)

-- a value with the point that defines it
pub record ValuedAt (ps : List Point) (j : ℕ) (v : Value) : Type 0 where
  pub index : ℕ
  pub place : Point
  pub point : v.point ≡ j + index
  pub at : slice_get ps index ≡ Some place
  pub here : Contains (place_values v.point place.place) v

pub valued-at : (v : Value) (j : ℕ) (ps : List Point) → Contains (values_from j ps) v → ValuedAt ps j v
valued-at v j [] m = contains-none _ v m
valued-at v j (q ∷ ps) m = ⊎_elim
    (λ (n : Contains (place_values j q.place) v).
    let p = value-point v j q.place n in
    record { index = 0; place = q; point = p ∙ (let z : j ≡ j + 0 = omega arith in z); at = refl; here = subst (λ k. Contains (place_values k q.place) v) (sym p) n })
    (λ (n : Contains (values_from (suc j) ps) v).
    let w = valued-at v (suc j) ps n in
    let p = w.point in
    record { index = suc w.index; place = w.place; point = omega (arith, p); at = w.at; here = w.here })
    (Contains-append_cases (place_values j q.place) (values_from (suc j) ps) v m)

-- an access with its point
pub record AccessedAt (ps : List Point) (j : ℕ) (a : Access) : Type 0 where
  pub index : ℕ
  pub place : Point
  pub point : a.point ≡ j + index
  pub at : slice_get ps index ≡ Some place
  pub here : Contains (place_accesses a.point place.place) a

pub accessed-at : (a : Access) (j : ℕ) (ps : List Point) → Contains (accesses_from j ps) a → AccessedAt ps j a
accessed-at a j [] m = contains-none _ a m
accessed-at a j (q ∷ ps) m = ⊎_elim
    (λ (n : Contains (place_accesses j q.place) a).
    let p = access-point a j q.place n in
    record { index = 0; place = q; point = p ∙ (let z : j ≡ j + 0 = omega arith in z); at = refl; here = subst (λ k. Contains (place_accesses k q.place) a) (sym p) n })
    (λ (n : Contains (accesses_from (suc j) ps) a).
    let w = accessed-at a (suc j) ps n in
    let p = w.point in
    record { index = suc w.index; place = w.place; point = omega (arith, p); at = w.at; here = w.here })
    (Contains-append_cases (place_accesses j q.place) (accesses_from (suc j) ps) a m)

-- the same of a whole form
pub use-place : (labels : List Label) (u : Use) → Contains (uses labels) u → (q : Point) × (slice_get (points labels) u.point ≡ Some q) × Contains (point_uses u.point q) u
use-place labels u m =
    let w = used-at u 0 (points labels) m in
    let p : u.point ≡ 0 + w.index = w.point in
    let i : w.index ≡ u.point = omega (arith, p) in
    (w.place, subst (λ k. slice_get (points labels) k ≡ Some w.place) i w.at, w.here)

pub value-place : (labels : List Label) (v : Value) → Contains (values labels) v → (q : Point) × (slice_get (points labels) v.point ≡ Some q) × Contains (place_values v.point q.place) v
value-place labels v m =
    let w = valued-at v 0 (points labels) m in
    let p : v.point ≡ 0 + w.index = w.point in
    let i : w.index ≡ v.point = omega (arith, p) in
    (w.place, subst (λ k. slice_get (points labels) k ≡ Some w.place) i w.at, w.here)

pub access-place : (labels : List Label) (a : Access) → Contains (accesses labels) a → (q : Point) × (slice_get (points labels) a.point ≡ Some q) × Contains (place_accesses a.point q.place) a
access-place labels a m =
    let w = accessed-at a 0 (points labels) m in
    let p : a.point ≡ 0 + w.index = w.point in
    let i : w.index ≡ a.point = omega (arith, p) in
    (w.place, subst (λ k. slice_get (points labels) k ≡ Some w.place) i w.at, w.here)

-- ---- the families of columns, one after another

abbrev from-pas-l : List Label → List Priced
from-pas-l labels = all_pas_l labels ++ all_pas_s labels

abbrev from-srvs : List Label → List Priced
from-srvs labels = flat_map (srv_columns labels) (uses labels) ++ from-pas-l labels

abbrev from-firsts : List Label → List Priced
from-firsts labels = flat_map first_columns (accesses labels) ++ from-srvs labels

abbrev from-ears : List Label → List Priced
from-ears labels = all_ears labels ++ from-firsts labels

abbrev from-stays : List Label → List Priced
from-stays labels = all_stays labels ++ from-ears labels

abbrev from-fills : List Label → List Priced
from-fills labels = flat_map (fill_columns labels) (values labels) ++ from-stays labels

abbrev from-dirs : List Label → List Priced
from-dirs labels = all_dirs labels ++ from-fills labels

to-dirs : (labels : List Label) (p : Priced) → Contains (from-dirs labels) p → Contains (priced labels) p
to-dirs labels p m = Contains-append_right (flat_map def_columns (values labels)) (from-dirs labels) p m

to-fills : (labels : List Label) (p : Priced) → Contains (from-fills labels) p → Contains (priced labels) p
to-fills labels p m = to-dirs labels p (Contains-append_right (all_dirs labels) (from-fills labels) p m)

to-stays : (labels : List Label) (p : Priced) → Contains (from-stays labels) p → Contains (priced labels) p
to-stays labels p m = to-fills labels p (Contains-append_right (flat_map (fill_columns labels) (values labels)) (from-stays labels) p m)

to-ears : (labels : List Label) (p : Priced) → Contains (from-ears labels) p → Contains (priced labels) p
to-ears labels p m = to-stays labels p (Contains-append_right (all_stays labels) (from-ears labels) p m)

to-firsts : (labels : List Label) (p : Priced) → Contains (from-firsts labels) p → Contains (priced labels) p
to-firsts labels p m = to-ears labels p (Contains-append_right (all_ears labels) (from-firsts labels) p m)

to-srvs : (labels : List Label) (p : Priced) → Contains (from-srvs labels) p → Contains (priced labels) p
to-srvs labels p m = to-firsts labels p (Contains-append_right (flat_map first_columns (accesses labels)) (from-srvs labels) p m)

to-pas-l : (labels : List Label) (p : Priced) → Contains (from-pas-l labels) p → Contains (priced labels) p
to-pas-l labels p m = to-srvs labels p (Contains-append_right (flat_map (srv_columns labels) (uses labels)) (from-pas-l labels) p m)

named : (labels : List Label) (p : Priced) → Contains (priced labels) p → Contains (columns labels) p.0
named labels p m = contains-map (λ (c : Priced). c.0) (priced labels) p m

-- the columns of a piece are there, where the piece is a part of all
named-part : (labels : List Label) (ps : List Priced) (c : Column) → ((p : Priced) → Contains ps p → Contains (priced labels) p) → Contains (map (λ p. p.0) ps) c → Contains (columns labels) c
named-part labels ps c h m =
    let w = contains-mapped (λ (p : Priced). p.0) ps c m in
    subst (Contains (columns labels)) w.2 (named labels w.0 (h w.0 w.1))

zero-from : (k : ℕ) → k ≡ 0 + k
zero-from k = omega arith

defs-here : (x : ℕ) (s : ValueOrigin) (h : Bank) → is_fetched s ≡ false → Contains homes h → Contains (map (λ p. p.0) (origin_defs x s)) (Def x h)
defs-here x (Parameter zero i) h e m = contains-map (Def x) homes h m
defs-here x (Parameter (suc l) i) h e m = contains-map (Def x) homes h m
defs-here x Result h e m = contains-map (Def x) homes h m
defs-here x (Fetched d i) h e m = absurd (false≢true (sym e))

-- a value that isn't read can first be put into each bank
pub def-there : (labels : List Label) (v : Value) (h : Bank) → Contains (values labels) v → is_fetched v.origin ≡ false → Contains homes h → Contains (columns labels) (Def v.var h)
def-there labels v h m e n =
    named-part labels (def_columns v) (Def v.var h)
    (λ p i. Contains-append_left (flat_map def_columns (values labels)) (from-dirs labels) p (contains-flat def_columns (values labels) v p m i))
    (defs-here v.var v.origin h e n)

-- a written word whose value is a result can first be put where its write may begin
pub dir-there : (labels : List Label) (k : ℕ) (q : Point) (u : Use) (f : ℕ) → slice_get (points labels) k ≡ Some q → Contains (point_uses k q) u → is_result (origin_of labels u.value) ≡ true
    → Contains (role_beginnings (place_words q.place) u.role) f → Contains (columns labels) (DirectWrite u.point u.operand f)
dir-there labels k q u f g m e n =
    let c : Priced = (DirectWrite u.point u.operand f, 0) in
    let fs = role_beginnings (place_words q.place) u.role in
    named labels c (to-dirs labels c (Contains-append_left (all_dirs labels) (from-fills labels) c
    (contains-point (point_dirs labels) 0 (points labels) k k q c (zero-from k) g
    (contains-flat (dir_columns labels (place_words q.place)) (point_uses k q) u c m
    (contains-if (is_result (origin_of labels u.value)) (map (λ f. (DirectWrite u.point u.operand f, 0)) fs) c e (contains-map (λ f. (DirectWrite u.point u.operand f, 0)) fs f n))))))

fills-here : (x : ℕ) (b : Bool) (h : Bank) → b ≡ true → Contains homes h → Contains (map (λ (p : Priced). p.0) (if b then (Fill x A, 1) ∷ (Fill x B, 1) ∷ (Fill x M, 17) ∷ [] else [])) (Fill x h)
fills-here x true h e m = contains-map (Fill x) homes h m
fills-here x false h e m = absurd (false≢true e)

-- a used value can be copied into each bank
pub fill-there : (labels : List Label) (v : Value) (h : Bank) → Contains (values labels) v → is_used labels v.var ≡ true → Contains homes h → Contains (columns labels) (Fill v.var h)
fill-there labels v h m e n =
    named-part labels (fill_columns labels v) (Fill v.var h)
    (λ p i. to-fills labels p (Contains-append_left (flat_map (fill_columns labels) (values labels)) (from-stays labels) p (contains-flat (fill_columns labels) (values labels) v p m i)))
    (fills-here v.var (is_used labels v.var) h e n)

-- a used read value can stay where its read may begin
pub stay-there : (labels : List Label) (k : ℕ) (q : Point) (v : Value) (f : ℕ) → slice_get (points labels) k ≡ Some q → Contains (place_values k q.place) v → is_used labels v.var ≡ true
    → Contains (origin_beginnings (place_words q.place) v.origin) f → Contains (columns labels) (Stay v.var f)
stay-there labels k q v f g m e n =
    let c : Priced = (Stay v.var f, 0) in
    let fs = origin_beginnings (place_words q.place) v.origin in
    named labels c (to-stays labels c (Contains-append_left (all_stays labels) (from-ears labels) c
    (contains-point (point_stays labels) 0 (points labels) k k q c (zero-from k) g
    (contains-flat (stay_columns labels (place_words q.place)) (place_values k q.place) v c m
    (contains-if (is_used labels v.var) (map (λ f. (Stay v.var f, 0)) fs) c e (contains-map (λ f. (Stay v.var f, 0)) fs f n))))))

-- a written word can be copied early to where its write may begin
pub ear-there : (labels : List Label) (k : ℕ) (q : Point) (u : Use) (f : ℕ) → slice_get (points labels) k ≡ Some q → Contains (point_uses k q) u
    → Contains (role_beginnings (place_words q.place) u.role) f → Contains (columns labels) (EarlyWrite u.point u.operand f)
ear-there labels k q u f g m n =
    let c : Priced = (EarlyWrite u.point u.operand f, 1) in
    let fs = role_beginnings (place_words q.place) u.role in
    named labels c (to-ears labels c (Contains-append_left (all_ears labels) (from-firsts labels) c
    (contains-point point_ears 0 (points labels) k k q c (zero-from k) g
    (contains-flat (ear_columns (place_words q.place)) (point_uses k q) u c m (contains-map (λ f. (EarlyWrite u.point u.operand f, 1)) fs f n)))))

-- an access can begin where it may
pub first-there : (labels : List Label) (a : Access) (f : ℕ) → Contains (accesses labels) a → Contains (beginnings a.mem a.words) f → Contains (columns labels) (First a.point f)
first-there labels a f m n =
    let c : Priced = (First a.point f, 0) in
    named labels c (to-firsts labels c (Contains-append_left (flat_map first_columns (accesses labels)) (from-srvs labels) c
    (contains-flat first_columns (accesses labels) a c m (contains-map (λ f. (First a.point f, 0)) (beginnings a.mem a.words) f n))))

-- a use can be served in each way of its role; from a read register only where its value is read
pub srv-there : (labels : List Label) (u : Use) (s : Service) → Contains (uses labels) u → Contains (services u.role) s → has_bank (is_fetched (origin_of labels u.value)) s.from ≡ true
    → Contains (columns labels) (Serve u.point u.operand s.from s.at)
srv-there labels u s m n e =
    let c : Priced = (Serve u.point u.operand s.from s.at, s.cost) in
    let may = λ (t : Service). has_bank (is_fetched (origin_of labels u.value)) t.from in
    named labels c (to-srvs labels c (Contains-append_left (flat_map (srv_columns labels) (uses labels)) (from-pas-l labels) c
    (contains-flat (srv_columns labels) (uses labels) u c m
    (contains-map (λ (t : Service). (Serve u.point u.operand t.from t.at, t.cost)) (filter may (services u.role)) s (contains-kept may (services u.role) s n e)))))

eight-here : (b : Bool) (column : ℕ → Column) (r : ℕ) → b ≡ true → Contains eight r → Contains (for_eight b column) (column r, 0)
eight-here true column r e m = contains-map (λ r. (column r, 0)) eight r m
eight-here false column r e m = absurd (false≢true e)

-- at a point with a use slots can be read through each read register
pub pas-l-there : (labels : List Label) (k : ℕ) (q : Point) (r : ℕ) → slice_get (points labels) k ≡ Some q → nat_le 1 (length q.uses) ≡ true → Contains eight r → Contains (columns labels) (ReadVia k r)
pas-l-there labels k q r g e m =
    let c : Priced = (ReadVia k r, 0) in
    named labels c (to-pas-l labels c (Contains-append_left (all_pas_l labels) (all_pas_s labels) c
    (contains-point pas_l_columns 0 (points labels) k k q c (zero-from k) g (eight-here (nat_le 1 (length q.uses)) (ReadVia k) r e m))))

-- at a point that defines a used value slots can be written through each write register
pub pas-s-there : (labels : List Label) (k : ℕ) (q : Point) (r : ℕ) → slice_get (points labels) k ≡ Some q → list_any (λ v. is_used labels v.var) (place_values k q.place) ≡ true → Contains eight r
    → Contains (columns labels) (WriteVia k r)
pas-s-there labels k q r g e m =
    let c : Priced = (WriteVia k r, 0) in
    named labels c (to-pas-l labels c (Contains-append_right (all_pas_l labels) (all_pas_s labels) c
    (contains-point (pas_s_columns labels) 0 (points labels) k k q c (zero-from k) g (eight-here (list_any (λ v. is_used labels v.var) (place_values k q.place)) (WriteVia k) r e m))))

-- Which columns there are: what each column that is there says of the form.
use Rattle.std.proofs.Common.{◌≡◌, ℕ, zero, suc, ◌+◌, nat_le, Bool, true, false, Some, List, [], ◌∷◌, length, map, filter, refl, sym, ap, subst, inl, inr, ⊎_elim, arith}
use Rattle.std.specs.Prelude.{slice_get}
use Rattle.std.specs.List.{flat_map, list_any}
use Rattle.ssu_ir.specs.Tree.{Label}
use Rattle.ssu_ir.specs.Points.{Point, points}
use Rattle.place_plan.specs.Uses.{Access, accesses, ValueOrigin, Parameter, Result, Fetched, Value, values, values_from, place_values, Role, Use, uses, uses_from, uses_at, place_roles, is_used}
use Rattle.place_plan.specs.Fits.{is_result}
use Rattle.place_plan.proofs.Sound.{Each, each-append}
use Rattle.bank_prog_form.specs.declared.column.Bank.{Bank}
use Rattle.bank_prog_form.specs.declared.column.Column.{Column}
use Rattle.bank_prog_form.specs.declared.column.Column.TheVariants.{Def, DirectWrite, Fill, Stay, EarlyWrite, First, Serve, ReadVia, WriteVia}
use Rattle.bank_prog_form.specs.declared.column.Service.{Service}
use Rattle.bank_prog_form.specs.Columns.{origin_of, is_fetched, point_uses, place_words, eight, beginnings, role_beginnings, origin_beginnings, Priced, origin_defs, def_columns, dir_columns, point_dirs, fill_columns, stay_columns, point_stays, ear_columns, point_ears, first_columns, services, has_bank, srv_columns, for_eight, pas_l_columns, pas_s_columns, all_dirs, all_stays, all_ears, all_pas_l, all_pas_s, priced, columns}
use Rattle.bank_prog_form.specs.Rows.{homes}
use Rattle.bank_prog.specs.Meaning.{Chosen}
use Rattle.reg_assign_reading.specs.inner.Facts.{OnlyThere}
use Rattle.reg_assign_reading.proofs.Counts.{In, in-contained, in-map, in-kept, each-in, in-left, in-right}
use Rattle.reg_assign_reading.proofs.ChosenHolds.{if-each, points-each}

-- ---- what holds of each element of a list that is made piece by piece

flat-made : {X Y : Type 0} (P : Y → Type 0) (f : X → List Y) (xs : List X) → ((x : X) → In x xs → Each P (f x)) → Each P (flat_map f xs)
flat-made P f [] h = tt
flat-made P f (x ∷ xs) h = each-append P (f x) (flat_map f xs) (h x (inl refl)) (flat-made P f xs (λ y i. h y (inr i)))

map-made : {X Y : Type 0} (P : Y → Type 0) (f : X → Y) (xs : List X) → ((x : X) → In x xs → P (f x)) → Each P (map f xs)
map-made P f [] h = tt
map-made P f (x ∷ xs) h = (h x (inl refl), map-made P f xs (λ y i. h y (inr i)))

-- ---- uses and values of a point are those of the form

pub uses-among : (u : Use) (j i k : ℕ) (ps : List Point) (q : Point) → k ≡ j + i → slice_get ps i ≡ Some q → In u (point_uses k q) → In u (uses_from j ps)
uses-among u j i k [] q e g h = absurd (cc)
uses-among u j zero k (p ∷ ps) q e g h =
    let same : q ≡ p = cc in
    let at : k ≡ j = omega (arith, e) in
    in-left u (point_uses j p) (uses_from (suc j) ps) (subst (λ z. In u (point_uses j z)) same (subst (λ n. In u (point_uses n q)) at h))
uses-among u j (suc i) k (p ∷ ps) q e g h =
    in-right u (point_uses j p) (uses_from (suc j) ps) (uses-among u (suc j) i k ps q (omega (arith, e)) g h)

pub point-of : (u : Use) (k i : ℕ) (xs : List ℕ) (rs : List Role) → In u (uses_at k i xs rs) → u.point ≡ k
point-of u k i [] rs h = absurd h
point-of u k i (x ∷ xs) [] h = absurd h
point-of u k i (x ∷ xs) (r ∷ rs) h = ⊎_elim
    (λ (e : ◌≡◌ {A = Use} (record { point = k; operand = i; value = x; role = r }) u). ap (λ (v : Use). v.point) (sym e))
    (λ (j : In u (uses_at k (suc i) xs rs)). point-of u k (suc i) xs rs j)
    h

pub values-among : (v : Value) (j i k : ℕ) (ps : List Point) (q : Point) → k ≡ j + i → slice_get ps i ≡ Some q → In v (place_values k q.place) → In v (values_from j ps)
values-among v j i k [] q e g h = absurd (cc)
values-among v j zero k (p ∷ ps) q e g h =
    let same : q ≡ p = cc in
    let at : k ≡ j = omega (arith, e) in
    in-left v (place_values j p.place) (values_from (suc j) ps) (subst (λ (z : Point). In v (place_values j z.place)) same (subst (λ n. In v (place_values n q.place)) at h))
values-among v j (suc i) k (p ∷ ps) q e g h =
    in-right v (place_values j p.place) (values_from (suc j) ps) (values-among v (suc j) i k ps q (omega (arith, e)) g h)

-- ---- what a column says

-- a use of a point
pub record UseAt (labels : List Label) (k i : ℕ) : Type 0 where
  pub use_ : Use
  pub place : Point
  pub there : In use_ (uses labels)
  pub point : use_.point ≡ k
  pub operand : use_.operand ≡ i
  pub at : slice_get (points labels) k ≡ Some place
  pub here : In use_ (point_uses k place)

pub record ValueAt (labels : List Label) (x : ℕ) : Type 0 where
  pub value : Value
  pub point : ℕ
  pub place : Point
  pub there : In value (values labels)
  pub var : value.var ≡ x
  pub at : slice_get (points labels) point ≡ Some place
  pub here : In value (place_values point place.place)

pub record IsService (labels : List Label) (k i : ℕ) (h p : Bank) : Type 0 where
  pub use_ : Use
  pub service : Service
  pub there : In use_ (uses labels)
  pub point : use_.point ≡ k
  pub operand : use_.operand ≡ i
  pub among : In service (services use_.role)
  pub bank : has_bank (is_fetched (origin_of labels use_.value)) service.from ≡ true
  pub from : service.from ≡ h
  pub at : service.at ≡ p

pub record IsAccess (labels : List Label) (k f : ℕ) : Type 0 where
  pub access : Access
  pub there : In access (accesses labels)
  pub point : access.point ≡ k
  pub begins : In f (beginnings access.mem access.words)

abbrev pub There : List Label → Column → Type 0
There labels (Def x h) = (v : Value) × In v (values labels) × (v.var ≡ x) × (is_fetched v.origin ≡ false) × In h homes
There labels (DirectWrite k i f) = (u : UseAt labels k i) × (is_result (origin_of labels u.use_.value) ≡ true) × In f (role_beginnings (place_words u.place.place) u.use_.role)
There labels (Fill x h) = (is_used labels x ≡ true) × In h homes
There labels (Stay x f) = (v : ValueAt labels x) × (is_used labels x ≡ true) × In f (origin_beginnings (place_words v.place.place) v.value.origin)
There labels (EarlyWrite k i f) = (u : UseAt labels k i) × In f (role_beginnings (place_words u.place.place) u.use_.role)
There labels (First k f) = IsAccess labels k f
There labels (Serve k i h p) = IsService labels k i h p
There labels (ReadVia k r) = (q : Point) × (slice_get (points labels) k ≡ Some q) × (nat_le 1 (length q.uses) ≡ true)
There labels (WriteVia k r) = (q : Point) × (slice_get (points labels) k ≡ Some q) × (list_any (λ v. is_used labels v.var) (place_values k q.place) ≡ true)

abbrev IsThere : List Label → Priced → Type 0
IsThere labels p = There labels p.0

-- ---- family by family

defs-there : (labels : List Label) (v : Value) (s : ValueOrigin) → s ≡ v.origin → In v (values labels) → Each (IsThere labels) (origin_defs v.var s)
defs-there labels v (Parameter zero i) e h =
    let no : is_fetched v.origin ≡ false = ap is_fetched (sym e) in
    ((v, h, refl, no, inl refl), ((v, h, refl, no, inr (inl refl)), ((v, h, refl, no, inr (inr (inl refl))), tt)))
defs-there labels v (Parameter (suc l) i) e h =
    let no : is_fetched v.origin ≡ false = ap is_fetched (sym e) in
    ((v, h, refl, no, inl refl), ((v, h, refl, no, inr (inl refl)), ((v, h, refl, no, inr (inr (inl refl))), tt)))
defs-there labels v Result e h =
    let no : is_fetched v.origin ≡ false = ap is_fetched (sym e) in
    ((v, h, refl, no, inl refl), ((v, h, refl, no, inr (inl refl)), ((v, h, refl, no, inr (inr (inl refl))), tt)))
defs-there labels v (Fetched m i) e h = tt

from-zero : (k : ℕ) → k ≡ 0 + k
from-zero k = omega arith

abbrev use-at : (labels : List Label) (k : ℕ) (q : Point) (u : Use) → slice_get (points labels) k ≡ Some q → In u (point_uses k q) → UseAt labels u.point u.operand
use-at labels k q u g h =
    record {
      use_ = u;
      place = q;
      there = uses-among u 0 k k (points labels) q (from-zero k) g h;
      point = refl;
      operand = refl;
      at = subst (λ n. slice_get (points labels) n ≡ Some q) (sym (point-of u k 0 q.uses (place_roles q.place) h)) g;
      here = subst (λ n. In u (point_uses n q)) (sym (point-of u k 0 q.uses (place_roles q.place) h)) h;
    }

dirs-there : (labels : List Label) → Each (IsThere labels) (all_dirs labels)
dirs-there labels = points-each (IsThere labels) (point_dirs labels) 0 (points labels) (λ i k q e g.
    flat-made (IsThere labels) (dir_columns labels (place_words q.place)) (point_uses k q) (λ u h.
    if-each (IsThere labels) (is_result (origin_of labels u.value)) (map (λ f. (DirectWrite u.point u.operand f, 0)) (role_beginnings (place_words q.place) u.role)) (λ r.
    map-made (IsThere labels) (λ f. (DirectWrite u.point u.operand f, 0)) (role_beginnings (place_words q.place) u.role) (λ f b.
    (use-at labels k q u (subst (λ n. slice_get (points labels) n ≡ Some q) (let s : i ≡ k = omega (arith, e) in s) g) h, r, b)))))

ears-there : (labels : List Label) → Each (IsThere labels) (all_ears labels)
ears-there labels = points-each (IsThere labels) point_ears 0 (points labels) (λ i k q e g.
    flat-made (IsThere labels) (ear_columns (place_words q.place)) (point_uses k q) (λ u h.
    map-made (IsThere labels) (λ f. (EarlyWrite u.point u.operand f, 1)) (role_beginnings (place_words q.place) u.role) (λ f b.
    (use-at labels k q u (subst (λ n. slice_get (points labels) n ≡ Some q) (let s : i ≡ k = omega (arith, e) in s) g) h, b))))

fills-there : (labels : List Label) → Each (IsThere labels) (flat_map (fill_columns labels) (values labels))
fills-there labels = flat-made (IsThere labels) (fill_columns labels) (values labels) (λ v h.
    if-each (IsThere labels) (is_used labels v.var) _ (λ e. ((e, inl refl), ((e, inr (inl refl)), ((e, inr (inr (inl refl))), tt)))))

stays-there : (labels : List Label) → Each (IsThere labels) (all_stays labels)
stays-there labels = points-each (IsThere labels) (point_stays labels) 0 (points labels) (λ i k q e g.
    let g' : slice_get (points labels) k ≡ Some q = subst (λ n. slice_get (points labels) n ≡ Some q) (let s : i ≡ k = omega (arith, e) in s) g in
    flat-made (IsThere labels) (stay_columns labels (place_words q.place)) (place_values k q.place) (λ v h.
    if-each (IsThere labels) (is_used labels v.var) (map (λ f. (Stay v.var f, 0)) (origin_beginnings (place_words q.place) v.origin)) (λ r.
    map-made (IsThere labels) (λ f. (Stay v.var f, 0)) (origin_beginnings (place_words q.place) v.origin) (λ f b.
    (record { value = v; point = k; place = q; there = values-among v 0 k k (points labels) q (omega arith) g' h; var = refl; at = g'; here = h }, r, b)))))

firsts-there : (labels : List Label) → Each (IsThere labels) (flat_map first_columns (accesses labels))
firsts-there labels = flat-made (IsThere labels) first_columns (accesses labels) (λ a h.
    map-made (IsThere labels) (λ f. (First a.point f, 0)) (beginnings a.mem a.words) (λ f b.
    record { access = a; there = h; point = refl; begins = b }))

srvs-there : (labels : List Label) → Each (IsThere labels) (flat_map (srv_columns labels) (uses labels))
srvs-there labels = flat-made (IsThere labels) (srv_columns labels) (uses labels) (λ u h.
    map-made (IsThere labels) (λ (s : Service). (Serve u.point u.operand s.from s.at, s.cost)) (filter (λ (s : Service). has_bank (is_fetched (origin_of labels u.value)) s.from) (services u.role)) (λ s i.
    let w = in-kept (λ (s : Service). has_bank (is_fetched (origin_of labels u.value)) s.from) s (services u.role) i in
    record { use_ = u; service = s; there = h; point = refl; operand = refl; among = w.0; bank = w.1; from = refl; at = refl }))

eight-made : (labels : List Label) (b : Bool) (column : ℕ → Column) → (b ≡ true → (r : ℕ) → There labels (column r)) → Each (IsThere labels) (for_eight b column)
eight-made labels true column h = map-made (IsThere labels) (λ r. (column r, 0)) eight (λ r i. h refl r)
eight-made labels false column h = tt

pas-l-there : (labels : List Label) → Each (IsThere labels) (all_pas_l labels)
pas-l-there labels = points-each (IsThere labels) pas_l_columns 0 (points labels) (λ i k q e g.
    let g' : slice_get (points labels) k ≡ Some q = subst (λ n. slice_get (points labels) n ≡ Some q) (let s : i ≡ k = omega (arith, e) in s) g in
    eight-made labels (nat_le 1 (length q.uses)) (ReadVia k) (λ b r. (q, g', b)))

pas-s-there : (labels : List Label) → Each (IsThere labels) (all_pas_s labels)
pas-s-there labels = points-each (IsThere labels) (pas_s_columns labels) 0 (points labels) (λ i k q e g.
    let g' : slice_get (points labels) k ≡ Some q = subst (λ n. slice_get (points labels) n ≡ Some q) (let s : i ≡ k = omega (arith, e) in s) g in
    eight-made labels (list_any (λ v. is_used labels v.var) (place_values k q.place)) (WriteVia k) (λ b r. (q, g', b)))

all-there : (labels : List Label) → Each (IsThere labels) (priced labels)
all-there labels =
    each-append (IsThere labels) (flat_map def_columns (values labels)) _
    (flat-made (IsThere labels) def_columns (values labels) (λ v h. defs-there labels v v.origin refl h)) (
    each-append (IsThere labels) (all_dirs labels) _ (dirs-there labels) (
    each-append (IsThere labels) (flat_map (fill_columns labels) (values labels)) _ (fills-there labels) (
    each-append (IsThere labels) (all_stays labels) _ (stays-there labels) (
    each-append (IsThere labels) (all_ears labels) _ (ears-there labels) (
    each-append (IsThere labels) (flat_map first_columns (accesses labels)) _ (firsts-there labels) (
    each-append (IsThere labels) (flat_map (srv_columns labels) (uses labels)) _ (srvs-there labels) (
    each-append (IsThere labels) (all_pas_l labels) (all_pas_s labels) (pas-l-there labels) (pas-s-there labels))))))))

-- a column that is on is there
pub there : (labels : List Label) (on : Chosen) (c : Column) → OnlyThere labels on → on c ≡ true → There labels c
there labels on c only e =
    let w = in-map c (λ (p : Priced). p.0) (priced labels) (in-contained c (columns labels) (only c e)) in
    subst (There labels) w.2 (each-in (IsThere labels) w.0 (priced labels) (all-there labels) w.1)

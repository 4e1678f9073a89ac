-- The columns of the bank program are all different.
use Rattle.std.proofs.Common.{◌≡◌, ℕ, zero, suc, ◌+◌, ◌*◌, ◌≤◌, Bool, true, false, not, cond, ◌&&◌, if◌then◌else◌, nat_eq, nat_le, ◌||◌, List, [], ◌∷◌, ◌++◌, map, length, refl, sym, ap, subst, ◌∙◌, arith}
use Rattle.std.specs.Prelude.{slice_get}
use Rattle.std.specs.List.{flat_map, filter, list_any, list_all}
use Rattle.std.proofs.lemmas.Bool.{and_parts, or_parts, not-true}
use Rattle.std.proofs.lemmas.List.{append-nil}
use Rattle.nv_base.specs.declared.term.Mem.{Mem}
use Rattle.nv_base.specs.Sets.{is_in, all_different}
use Rattle.ssu_ir.specs.Tree.{Lit, Una, Bin, Clone, Read, Write, Label, Does, Forks, Ends}
use Rattle.ssu_ir.specs.Points.{PointKind, Entry, At, Point, place_values, points}
use Rattle.ssu_ir.specs.Single.{single, is_entry, is_single, all_defined}
use Rattle.place_plan.specs.Uses as pure
use Rattle.place_plan.specs.Uses.{Access, ValueOrigin, Parameter, Result, Fetched, Value, values, Role, Operand, Address, Written, Argument, Ending, Use, uses, uses_at, place_roles, is_used, accesses, place_accesses}
use Rattle.place_plan.specs.Fits.{is_result}
use Rattle.ssu_liveness.specs.inner.Numbers.{values_among}
use Rattle.ssu_liveness.proofs.Scoped.{different-filter}
use Rattle.ssu_liveness.proofs.Numbering.{places-of-labels, different-labels}
use Rattle.place_plan.proofs.Sound.{Each, each-append}
use Rattle.place_plan.proofs.Spilled.{each-weaker}
use Rattle.place_plan.proofs.Fitting.{values-are, vars-of-place}
use Rattle.bank_prog_form.specs.declared.column.Bank.{Bank}
use Rattle.bank_prog_form.specs.declared.column.Bank.TheVariants.{A, B, M, T, L, A15, W}
use Rattle.bank_prog_form.specs.declared.column.Column.{Column}
use Rattle.bank_prog_form.specs.declared.column.Column.TheVariants.{Def, DirectWrite, Fill, Stay, EarlyWrite, First, Serve, ReadVia, WriteVia}
use Rattle.bank_prog_form.specs.declared.column.Service.{Service}
use Rattle.bank_prog_form.specs.Columns.{Priced, origin_of, is_fetched, point_uses, place_words, eight, may_begin, beginnings, role_beginnings, origin_beginnings, origin_defs, def_columns, dir_columns, point_dirs, fill_columns, stay_columns, point_stays, ear_columns, point_ears, first_columns, services, has_bank, srv_columns, for_eight, pas_l_columns, pas_s_columns, all_dirs, all_stays, all_ears, all_pas_l, all_pas_s, priced}
use Rattle.bank_prog_form.proofs.Tabled.{uses-each, accesses-each}
use Rattle.bank_prog_rows.proofs.Distinct.{Distinct, each-flat, each-points, each-map, flat-points, join, by-keys, by-register, by-point, by-use, uses-point, values-in, by-value, by-definition}

-- ---- what tells columns apart

abbrev pub family : Column → ℕ
family (Def x h) = 0
family (DirectWrite k i f) = 1
family (Fill x h) = 2
family (Stay x f) = 3
family (EarlyWrite k i f) = 4
family (First k f) = 5
family (Serve k i h p) = 6
family (ReadVia k r) = 7
family (WriteVia k r) = 8

abbrev pub var_of : Column → ℕ
var_of (Def x h) = x
var_of (Fill x h) = x
var_of (Stay x f) = x
var_of _ = 0

abbrev pub point_of : Column → ℕ
point_of (DirectWrite k i f) = k
point_of (EarlyWrite k i f) = k
point_of (First k f) = k
point_of (Serve k i h p) = k
point_of (ReadVia k r) = k
point_of (WriteVia k r) = k
point_of _ = 0

abbrev pub operand_of : Column → ℕ
operand_of (DirectWrite k i f) = i
operand_of (EarlyWrite k i f) = i
operand_of (Serve k i h p) = i
operand_of _ = 0

abbrev pub bank_number : Bank → ℕ
bank_number A = 0
bank_number B = 1
bank_number M = 2
bank_number T = 3
bank_number L = 4
bank_number A15 = 5
bank_number W = 6

abbrev spot_of : Column → ℕ
spot_of (Def x h) = bank_number h
spot_of (DirectWrite k i f) = f
spot_of (Fill x h) = bank_number h
spot_of (Stay x f) = f
spot_of (EarlyWrite k i f) = f
spot_of (First k f) = f
spot_of (Serve k i h p) = 7 * bank_number h + bank_number p
spot_of (ReadVia k r) = r
spot_of (WriteVia k r) = r

-- ---- registers and services

some-beginnings : (m : Mem) (n : ℕ) → all_different (beginnings m n) ≡ true
some-beginnings m n = different-filter (may_begin m n) eight refl

pub role-beginnings : (n : ℕ) (r : Role) → all_different (role_beginnings n r) ≡ true
role-beginnings n Operand = refl
role-beginnings n Address = refl
role-beginnings n (Written m i) = some-beginnings m n
role-beginnings n (Argument l i) = refl
role-beginnings n (Ending i) = refl

origin-beginnings : (n : ℕ) (s : ValueOrigin) → all_different (origin_beginnings n s) ≡ true
origin-beginnings n (Parameter l i) = refl
origin-beginnings n Result = refl
origin-beginnings n (Fetched m i) = some-beginnings m n

abbrev service_spot : Service → ℕ
service_spot s = 7 * bank_number s.from + bank_number s.at

all-services : (r : Role) → all_different (map service_spot (services r)) ≡ true
all-services Operand = refl
all-services Address = refl
all-services (Written m i) = refl
all-services (Argument l i) = refl
all-services (Ending i) = refl

fewer : (p : Service → Bool) (x : ℕ) (ss : List Service) → is_in x (map service_spot ss) ≡ false → is_in x (map service_spot (filter p ss)) ≡ false
fewer p x [] h = refl
fewer p x (s ∷ ss) h = pick (p s) (or_parts (nat_eq x (service_spot s)) (is_in x (map service_spot ss)) h).0 (fewer p x ss (or_parts (nat_eq x (service_spot s)) (is_in x (map service_spot ss)) h).1)
  where
    pick : (b : Bool) → nat_eq x (service_spot s) ≡ false → is_in x (map service_spot (filter p ss)) ≡ false → is_in x (map service_spot (cond b (s ∷ filter p ss) (filter p ss))) ≡ false
    pick true n d = ap (λ b. b || is_in x (map service_spot (filter p ss))) n ∙ d
    pick false n d = d

kept-different : (p : Service → Bool) (ss : List Service) → all_different (map service_spot ss) ≡ true → all_different (map service_spot (filter p ss)) ≡ true
kept-different p [] h = refl
kept-different p (s ∷ ss) h =
    let m = and_parts (not (is_in (service_spot s) (map service_spot ss))) (all_different (map service_spot ss)) h in
    pick (p s) (fewer p (service_spot s) ss (not-true (is_in (service_spot s) (map service_spot ss)) m.0)) (kept-different p ss m.1)
  where
    pick : (b : Bool) → is_in (service_spot s) (map service_spot (filter p ss)) ≡ false → all_different (map service_spot (filter p ss)) ≡ true → all_different (map service_spot (cond b (s ∷ filter p ss) (filter p ss))) ≡ true
    pick true n d = ap (λ b. not b && all_different (map service_spot (filter p ss))) n ∙ d
    pick false n d = d

-- ---- values

defs-var : (x : ℕ) (s : ValueOrigin) → Each (λ p. var_of p.0 ≡ x) (origin_defs x s)
defs-var x (Parameter zero i) = (refl, (refl, (refl, tt)))
defs-var x (Parameter (suc l) i) = (refl, (refl, (refl, tt)))
defs-var x Result = (refl, (refl, (refl, tt)))
defs-var x (Fetched m i) = tt

defs-family : (x : ℕ) (s : ValueOrigin) → Each (λ p. family p.0 ≡ 0) (origin_defs x s)
defs-family x (Parameter zero i) = (refl, (refl, (refl, tt)))
defs-family x (Parameter (suc l) i) = (refl, (refl, (refl, tt)))
defs-family x Result = (refl, (refl, (refl, tt)))
defs-family x (Fetched m i) = tt

defs-distinct : (x : ℕ) (s : ValueOrigin) → Distinct (origin_defs x s)
defs-distinct x (Parameter zero i) = by-keys spot_of (origin_defs x (Parameter zero i)) refl
defs-distinct x (Parameter (suc l) i) = by-keys spot_of (origin_defs x (Parameter (suc l) i)) refl
defs-distinct x Result = by-keys spot_of (origin_defs x Result) refl
defs-distinct x (Fetched m i) = tt

abbrev three_fills : ℕ → Bool → List Priced
three_fills x b = if b then (Fill x A, 1) ∷ (Fill x B, 1) ∷ (Fill x M, 17) ∷ [] else []

fills-var : (x : ℕ) (b : Bool) → Each (λ p. var_of p.0 ≡ x) (three_fills x b)
fills-var x true = (refl, (refl, (refl, tt)))
fills-var x false = tt

fills-family : (x : ℕ) (b : Bool) → Each (λ p. family p.0 ≡ 2) (three_fills x b)
fills-family x true = (refl, (refl, (refl, tt)))
fills-family x false = tt

fills-distinct : (x : ℕ) (b : Bool) → Distinct (three_fills x b)
fills-distinct x true = by-keys spot_of (three_fills x true) refl
fills-distinct x false = tt

-- a column for each of some registers, where a test holds
abbrev chosen : Bool → (ℕ → Priced) → List ℕ → List Priced
chosen b make rs = if b then map make rs else []

chosen-each : (P : Priced → Type 0) (b : Bool) (make : ℕ → Priced) (rs : List ℕ) → ((r : ℕ) → P (make r)) → Each P (chosen b make rs)
chosen-each P true make rs h = each-map P make h rs
chosen-each P false make rs h = tt

chosen-distinct : (b : Bool) (make : ℕ → Priced) (rs : List ℕ) → ((r : ℕ) → spot_of (make r).0 ≡ r) → all_different rs ≡ true → Distinct (chosen b make rs)
chosen-distinct true make rs h d = by-register spot_of make h rs d
chosen-distinct false make rs h d = tt

stays-distinct : (labels : List Label) (n : ℕ) (v : Value) → Distinct (stay_columns labels n v)
stays-distinct labels n v = chosen-distinct (is_used labels v.var) (λ f. (Stay v.var f, 0)) (origin_beginnings n v.origin) (λ r. refl) (origin-beginnings n v.origin)

stays-var : (labels : List Label) (n : ℕ) (v : Value) → Each (λ p. var_of p.0 ≡ v.var) (stay_columns labels n v)
stays-var labels n v = chosen-each (λ p. var_of p.0 ≡ v.var) (is_used labels v.var) (λ f. (Stay v.var f, 0)) (origin_beginnings n v.origin) (λ r. refl)

stays-family : (labels : List Label) (n : ℕ) (v : Value) → Each (λ p. family p.0 ≡ 3) (stay_columns labels n v)
stays-family labels n v = chosen-each (λ p. family p.0 ≡ 3) (is_used labels v.var) (λ f. (Stay v.var f, 0)) (origin_beginnings n v.origin) (λ r. refl)

stays-values : (labels : List Label) (k : ℕ) (q : Point) → Each (λ p. is_in (var_of p.0) (place_values q.place) ≡ true) (point_stays labels k q)
stays-values labels k q =
    subst (λ (xs : List ℕ). Each (λ p. is_in (var_of p.0) xs ≡ true) (point_stays labels k q)) (vars-of-place k q.place)
    (values-in var_of (stay_columns labels (place_words q.place)) (stays-var labels (place_words q.place)) (pure.place_values k q.place))

stays-point : (labels : List Label) (k : ℕ) (q : Point) → all_different (place_values q.place) ≡ true → Distinct (point_stays labels k q)
stays-point labels k q d =
    by-value var_of (stay_columns labels (place_words q.place)) (stays-var labels (place_words q.place)) (stays-distinct labels (place_words q.place)) (pure.place_values k q.place) (ap all_different (vars-of-place k q.place) ∙ d)

-- ---- uses

dirs-each : (P : Priced → Type 0) (labels : List Label) (n : ℕ) (u : Use) → ((f : ℕ) → P (DirectWrite u.point u.operand f, 0)) → Each P (dir_columns labels n u)
dirs-each P labels n u h = chosen-each P (is_result (origin_of labels u.value)) (λ f. (DirectWrite u.point u.operand f, 0)) (role_beginnings n u.role) h

dirs-distinct : (labels : List Label) (n : ℕ) (u : Use) → Distinct (dir_columns labels n u)
dirs-distinct labels n u = chosen-distinct (is_result (origin_of labels u.value)) (λ f. (DirectWrite u.point u.operand f, 0)) (role_beginnings n u.role) (λ r. refl) (role-beginnings n u.role)

dirs-point : (labels : List Label) (k : ℕ) (q : Point) → Each (λ p. point_of p.0 ≡ k) (point_dirs labels k q)
dirs-point labels k q =
    uses-point point_of (dir_columns labels (place_words q.place)) (λ u. dirs-each (λ p. point_of p.0 ≡ u.point) labels (place_words q.place) u (λ f. refl)) k 0 q.uses (place_roles q.place)

dirs-at : (labels : List Label) (k : ℕ) (q : Point) → Distinct (point_dirs labels k q)
dirs-at labels k q =
    by-use operand_of (dir_columns labels (place_words q.place)) (λ u. dirs-each (λ p. operand_of p.0 ≡ u.operand) labels (place_words q.place) u (λ f. refl)) (dirs-distinct labels (place_words q.place)) k 0 q.uses (place_roles q.place)

ears-each : (P : Priced → Type 0) (n : ℕ) (u : Use) → ((f : ℕ) → P (EarlyWrite u.point u.operand f, 1)) → Each P (ear_columns n u)
ears-each P n u h = each-map P (λ f. (EarlyWrite u.point u.operand f, 1)) h (role_beginnings n u.role)

ears-distinct : (n : ℕ) (u : Use) → Distinct (ear_columns n u)
ears-distinct n u = by-register spot_of (λ f. (EarlyWrite u.point u.operand f, 1)) (λ r. refl) (role_beginnings n u.role) (role-beginnings n u.role)

ears-point : (k : ℕ) (q : Point) → Each (λ p. point_of p.0 ≡ k) (point_ears k q)
ears-point k q = uses-point point_of (ear_columns (place_words q.place)) (λ u. ears-each (λ p. point_of p.0 ≡ u.point) (place_words q.place) u (λ f. refl)) k 0 q.uses (place_roles q.place)

ears-at : (k : ℕ) (q : Point) → Distinct (point_ears k q)
ears-at k q =
    by-use operand_of (ear_columns (place_words q.place)) (λ u. ears-each (λ p. operand_of p.0 ≡ u.operand) (place_words q.place) u (λ f. refl)) (ears-distinct (place_words q.place)) k 0 q.uses (place_roles q.place)

abbrev at_service : Use → Service → Priced
at_service u s = (Serve u.point u.operand s.from s.at, s.cost)

point_ids-of-services : (u : Use) (ss : List Service) → map (λ p. spot_of p.0) (map (at_service u) ss) ≡ map service_spot ss
point_ids-of-services u [] = refl
point_ids-of-services u (s ∷ ss) = ap (λ xs. service_spot s ∷ xs) (point_ids-of-services u ss)

srvs-each : (P : Priced → Type 0) (labels : List Label) (u : Use) → ((s : Service) → P (at_service u s)) → Each P (srv_columns labels u)
srvs-each P labels u h = each-map P (at_service u) h (filter (λ s. has_bank (is_fetched (origin_of labels u.value)) s.from) (services u.role))

srvs-distinct : (labels : List Label) (u : Use) → Distinct (srv_columns labels u)
srvs-distinct labels u =
    let p = λ (s : Service). has_bank (is_fetched (origin_of labels u.value)) s.from in
    by-keys spot_of (srv_columns labels u) (ap all_different (point_ids-of-services u (filter p (services u.role))) ∙ kept-different p (services u.role) (all-services u.role))

abbrev point_srvs : List Label → ℕ → Point → List Priced
point_srvs labels k q = flat_map (srv_columns labels) (uses_at k 0 q.uses (place_roles q.place))

srvs-point : (labels : List Label) (k : ℕ) (q : Point) → Each (λ p. point_of p.0 ≡ k) (point_srvs labels k q)
srvs-point labels k q = uses-point point_of (srv_columns labels) (λ u. srvs-each (λ p. point_of p.0 ≡ u.point) labels u (λ s. refl)) k 0 q.uses (place_roles q.place)

srvs-at : (labels : List Label) (k : ℕ) (q : Point) → Distinct (point_srvs labels k q)
srvs-at labels k q = by-use operand_of (srv_columns labels) (λ u. srvs-each (λ p. operand_of p.0 ≡ u.operand) labels u (λ s. refl)) (srvs-distinct labels) k 0 q.uses (place_roles q.place)

-- ---- accesses and slots

firsts-distinct : (a : Access) → Distinct (first_columns a ++ [])
firsts-distinct a = subst Distinct (sym (append-nil (first_columns a))) (by-register spot_of (λ f. (First a.point f, 0)) (λ r. refl) (beginnings a.mem a.words) (some-beginnings a.mem a.words))

firsts-each : (P : Priced → Type 0) (a : Access) → ((f : ℕ) → P (First a.point f, 0)) → Each P (first_columns a)
firsts-each P a h = each-map P (λ f. (First a.point f, 0)) h (beginnings a.mem a.words)

abbrev point_firsts : ℕ → PointKind → List Priced
point_firsts k p = flat_map first_columns (place_accesses k p)

firsts-at : (k : ℕ) (p : PointKind) → Distinct (point_firsts k p)
firsts-at k (Entry l params) = tt
firsts-at k (At (Does (Lit v n))) = tt
firsts-at k (At (Does (Una v op y))) = tt
firsts-at k (At (Does (Bin v op y z))) = tt
firsts-at k (At (Does (Clone xs y))) = tt
firsts-at k (At (Does (Read m xs y))) = firsts-distinct (record { point = k; mem = m; words = length xs })
firsts-at k (At (Does (Write m y xs))) = firsts-distinct (record { point = k; mem = m; words = length xs })
firsts-at k (At (Forks c y z)) = tt
firsts-at k (At (Ends l)) = tt

alone : (k : ℕ) (m : Mem) (n : ℕ) → Each (λ p. point_of p.0 ≡ k) (first_columns (record { point = k; mem = m; words = n }) ++ [])
alone k m n = each-append (λ p. point_of p.0 ≡ k) (first_columns (record { point = k; mem = m; words = n })) [] (firsts-each (λ p. point_of p.0 ≡ k) (record { point = k; mem = m; words = n }) (λ f. refl)) tt

firsts-point : (k : ℕ) (p : PointKind) → Each (λ p. point_of p.0 ≡ k) (point_firsts k p)
firsts-point k (Entry l params) = tt
firsts-point k (At (Does (Lit v n))) = tt
firsts-point k (At (Does (Una v op y))) = tt
firsts-point k (At (Does (Bin v op y z))) = tt
firsts-point k (At (Does (Clone xs y))) = tt
firsts-point k (At (Does (Read m xs y))) = alone k m (length xs)
firsts-point k (At (Does (Write m y xs))) = alone k m (length xs)
firsts-point k (At (Forks c y z)) = tt
firsts-point k (At (Ends l)) = tt

eight-each : (P : Priced → Type 0) (b : Bool) (make : ℕ → Column) → ((r : ℕ) → P (make r, 0)) → Each P (for_eight b make)
eight-each P true make h = each-map P (λ r. (make r, 0)) h eight
eight-each P false make h = tt

eight-distinct : (b : Bool) (make : ℕ → Column) → ((r : ℕ) → spot_of (make r) ≡ r) → Distinct (for_eight b make)
eight-distinct true make h = by-register spot_of (λ r. (make r, 0)) h eight refl
eight-distinct false make h = tt

-- ---- all

srvs-all : (labels : List Label) → Distinct (flat_map (srv_columns labels) (uses labels))
srvs-all labels =
    let ps = points labels in
    subst Distinct (sym (flat-points (srv_columns labels) (λ k q. uses_at k 0 q.uses (place_roles q.place)) 0 ps) ∙ ap (flat_map (srv_columns labels)) (uses-each 0 ps))
    (by-point point_of (point_srvs labels) (srvs-point labels) (srvs-at labels) 0 ps)

firsts-all : (labels : List Label) → Distinct (flat_map first_columns (accesses labels))
firsts-all labels =
    let ps = points labels in
    subst Distinct (sym (flat-points first_columns (λ k q. place_accesses k q.place) 0 ps) ∙ ap (flat_map first_columns) (accesses-each 0 ps))
    (by-point point_of (λ k q. point_firsts k q.place) (λ k q. firsts-point k q.place) (λ k q. firsts-at k q.place) 0 ps)

-- families behind others
record Behind (t : ℕ) (ps : List Priced) : Type 0 where
  distinct : Distinct ps
  later : Each (λ p. t ≤ family p.0) ps

before : (t : ℕ) (a ps : List Priced) → Each (λ p. family p.0 ≡ t) a → Distinct a → Behind (suc t) ps → Behind t (a ++ ps)
before t a ps h d b = record {
  distinct = join (λ c. family c ≡ t) a ps h (each-weaker (λ p. suc t ≤ family p.0) (λ p. family p.0 ≡ t → ⊥) ps (λ p l e. omega (arith, l, e)) b.later) d b.distinct;
  later = each-append (λ p. t ≤ family p.0) a ps (each-weaker (λ p. family p.0 ≡ t) (λ p. t ≤ family p.0) a (λ p e. omega (arith, e)) h) (each-weaker (λ p. suc t ≤ family p.0) (λ p. t ≤ family p.0) ps (λ p l. omega (arith, l)) b.later);
}

last : (t : ℕ) (a : List Priced) → Each (λ p. family p.0 ≡ t) a → Distinct a → Behind t a
last t a h d = record { distinct = d; later = each-weaker (λ p. family p.0 ≡ t) (λ p. t ≤ family p.0) a (λ p e. omega (arith, e)) h }

different-values : (labels : List Label) → single labels ≡ true → all_different (values_among (map (λ q. q.place) (points labels))) ≡ true
different-values labels h =
    let a = and_parts (is_entry (slice_get labels 0)) (all_different (all_defined labels) && list_all (is_single labels) labels) h in
    let b = and_parts (all_different (all_defined labels)) (list_all (is_single labels) labels) a.1 in
    ap (λ ps. all_different (values_among ps)) (places-of-labels 0 labels) ∙ different-labels 0 labels b.0

pub priced-distinct : (labels : List Label) → single labels ≡ true → Distinct (priced labels)
priced-distinct labels h =
    let ps = points labels in
    let d = different-values labels h in
    let vars = ap all_different (values-are 0 ps) ∙ d in
    let pas_s = last 8 (all_pas_s labels) (each-points (λ p. family p.0 ≡ 8) (pas_s_columns labels) (λ k q. eight-each (λ p. family p.0 ≡ 8) (list_any (λ v. is_used labels v.var) (pure.place_values k q.place)) (WriteVia k) (λ r. refl)) 0 ps)
    (by-point point_of (pas_s_columns labels) (λ k q. eight-each (λ p. point_of p.0 ≡ k) (list_any (λ v. is_used labels v.var) (pure.place_values k q.place)) (WriteVia k) (λ r. refl))
    (λ k q. eight-distinct (list_any (λ v. is_used labels v.var) (pure.place_values k q.place)) (WriteVia k) (λ r. refl)) 0 ps) in
    let pas_l = before 7 (all_pas_l labels) (all_pas_s labels) (each-points (λ p. family p.0 ≡ 7) pas_l_columns (λ k q. eight-each (λ p. family p.0 ≡ 7) (nat_le 1 (length q.uses)) (ReadVia k) (λ r. refl)) 0 ps)
    (by-point point_of pas_l_columns (λ k q. eight-each (λ p. point_of p.0 ≡ k) (nat_le 1 (length q.uses)) (ReadVia k) (λ r. refl)) (λ k q. eight-distinct (nat_le 1 (length q.uses)) (ReadVia k) (λ r. refl)) 0 ps) pas_s in
    let srv = before 6 (flat_map (srv_columns labels) (uses labels)) _ (each-flat (λ p. family p.0 ≡ 6) (srv_columns labels) (λ u. srvs-each (λ p. family p.0 ≡ 6) labels u (λ s. refl)) (uses labels)) (srvs-all labels) pas_l in
    let first = before 5 (flat_map first_columns (accesses labels)) _ (each-flat (λ p. family p.0 ≡ 5) first_columns (λ a. firsts-each (λ p. family p.0 ≡ 5) a (λ f. refl)) (accesses labels)) (firsts-all labels) srv in
    let ear = before 4 (all_ears labels) _ (each-points (λ p. family p.0 ≡ 4) point_ears (λ k q. each-flat (λ p. family p.0 ≡ 4) (ear_columns (place_words q.place)) (λ u. ears-each (λ p. family p.0 ≡ 4) (place_words q.place) u (λ f. refl)) (point_uses k q)) 0 ps)
    (by-point point_of point_ears ears-point ears-at 0 ps) first in
    let stay = before 3 (all_stays labels) _ (each-points (λ p. family p.0 ≡ 3) (point_stays labels) (λ k q. each-flat (λ p. family p.0 ≡ 3) (stay_columns labels (place_words q.place)) (stays-family labels (place_words q.place)) (pure.place_values k q.place)) 0 ps)
    (by-definition var_of (point_stays labels) (stays-values labels) (stays-point labels) 0 ps d) ear in
    let fill = before 2 (flat_map (fill_columns labels) (values labels)) _ (each-flat (λ p. family p.0 ≡ 2) (fill_columns labels) (λ v. fills-family v.var (is_used labels v.var)) (values labels))
    (by-value var_of (fill_columns labels) (λ v. fills-var v.var (is_used labels v.var)) (λ v. fills-distinct v.var (is_used labels v.var)) (values labels) vars) stay in
    let dir = before 1 (all_dirs labels) _ (each-points (λ p. family p.0 ≡ 1) (point_dirs labels) (λ k q. each-flat (λ p. family p.0 ≡ 1) (dir_columns labels (place_words q.place)) (λ u. dirs-each (λ p. family p.0 ≡ 1) labels (place_words q.place) u (λ f. refl)) (point_uses k q)) 0 ps)
    (by-point point_of (point_dirs labels) (dirs-point labels) (dirs-at labels) 0 ps) fill in
    let def = before 0 (flat_map def_columns (values labels)) _ (each-flat (λ p. family p.0 ≡ 0) def_columns (λ v. defs-family v.var v.origin) (values labels))
    (by-value var_of def_columns (λ v. defs-var v.var v.origin) (λ v. defs-distinct v.var v.origin) (values labels) vars) dir in
    def.distinct

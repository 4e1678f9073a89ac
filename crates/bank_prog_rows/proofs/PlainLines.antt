-- In each line of the bank program the columns all differ, where the form is single.
use Rattle.std.proofs.Common.{◌≡◌, ℕ, zero, suc, ◌+◌, ◌-◌, ◌*◌, ◌^◌, ◌<◌, ◌≤◌, Bool, true, false, not, cond, ◌&&◌, nat_eq, nat_le, nat_lt, if◌then◌else◌, List, [], ◌∷◌, ◌++◌, map, length, All, ◌⊎◌, inl, inr, ⊎_elim, refl, sym, ap, subst, ◌∙◌, arith}
use Rattle.std.specs.List.{flat_map, filter, list_any}
use Rattle.std.proofs.lemmas.Bool.{and_parts, false≢true, or_parts, not-true}
use Rattle.std.proofs.lemmas.List.Elements.{All-map}
use Rattle.std.proofs.lemmas.List.{length-map}
use Rattle.nv_base.specs.Sets.{is_in, all_different, without}
use Rattle.ssu_ir.specs.Tree.{Lit, Una, Bin, Clone, Read, Write, Label, Does, Forks, Ends}
use Rattle.ssu_ir.specs.Points.{PointKind, Entry, At, Point, points, IsLive}
use Rattle.ssu_ir.specs.Single.{single}
use Rattle.ssu_ir.proofs.Liveness.{points_held}
use Rattle.place_plan.specs.Uses.{Access, accesses, reads_at, writes_at, ValueOrigin, Parameter, Result, Fetched, Value, values, place_values, Role, Operand, Address, Written, Argument, Ending, Use, uses, uses_from, uses_at, place_roles, uses_of, is_used}
use Rattle.place_plan.specs.Fits.{is_result, parameter, point_values}
use Rattle.ssu_liveness.proofs.Scoped.{in-itself, different-filter, different-without}
use Rattle.place_plan.proofs.Sound.{Each, each-append}
use Rattle.place_plan.proofs.Spilled.{each-all, all-each, each-weaker}
use Rattle.place_plan.proofs.Fitting.{uses-from-point}
use Rattle.zo_model.specs.ProgramText.{IsRowText, IsValidContents}
use Rattle.bank_prog_form.specs.declared.column.Bank.{Bank}
use Rattle.bank_prog_form.specs.declared.column.Bank.TheVariants.{A, B, M, T, L, A15, W}
use Rattle.bank_prog_form.specs.declared.column.Column.{Column}
use Rattle.bank_prog_form.specs.declared.column.Column.TheVariants.{Def, DirectWrite, Fill, Stay, EarlyWrite, First, Serve, ReadVia, WriteVia}
use Rattle.bank_prog_form.specs.declared.column.Service.{Service}
use Rattle.bank_prog_form.specs.Columns.{each_point, origin_of, is_fetched, eight, point_uses, place_words, beginnings, role_beginnings, origin_beginnings, services, has_bank, Priced, origin_defs, def_columns, dir_columns, point_dirs, fill_columns, stay_columns, point_stays, ear_columns, point_ears, first_columns, srv_columns, for_eight, pas_l_columns, pas_s_columns, all_dirs, all_stays, all_ears, all_pas_l, all_pas_s, priced, columns, costs}
use Rattle.bank_prog_form.specs.Rows.{Line, at_most, covers, exactly_one, homes, def, home, stay, srv, srv_from, srv_at, dir, ear, is_parameter, is_written, parameter_choice, result_choice, access_choice, early, use_choice, one_choice, served_home, served_stay, use_stay, use_cover, in_register, fill, word_from_register, copy_lines, copy_cover, at_home, argument_lines, argument_cover, homes_cover, two_operands, both_at, pair_lines, operand_lines, operand_banks, live_in, room_lines, capacity, is_sdram, same_side, run_at, origin_stays, stays_at, role_early, early_at, covering, side_covering, waiting, read_owners, access_owners, fill_owners, side_owners, write_owners, owners, stay_begins, word_begins, begins_at, adjacency, is_slot, slot_read, slot_written, result_written, value_written, passes, lines}
use Rattle.bank_prog_form.specs.Program as program
use Rattle.bank_prog_form.specs.Program.{same_column, bank_program}
use Rattle.bank_prog_rows.proofs.Distinct.{each-flat, each-points, each-map, apart-property}
use Rattle.bank_prog_rows.proofs.Families.{family, var_of, point_of, operand_of, bank_number}
use Rattle.bank_prog_rows.proofs.Fills.{is_read, After, Chained, labels-chained}
use Rattle.bank_prog_rows.proofs.PlainRows.{Differ, IsPlain, covers-plain, most-plain, one-plain, rows-fit}

-- ---- columns that differ by a key, or by a property

keys-alike : (key : Column → ℕ) (c : Column) (cs : List Column) → is_in (key c) (map key cs) ≡ false → Each (λ d. same_column c d ≡ false) cs
keys-alike key c [] h = tt
keys-alike key c (d ∷ cs) h =
    let m = or_parts (nat_eq (key c) (key d)) (is_in (key c) (map key cs)) h in
    (apart-property (λ e. nat_eq (key c) (key e) ≡ true) c d (in-itself (key c)) (λ e. false≢true (sym m.0 ∙ e)), keys-alike key c cs m.1)

keys-differ : (key : Column → ℕ) (cs : List Column) → all_different (map key cs) ≡ true → Differ cs
keys-differ key [] h = tt
keys-differ key (c ∷ cs) h =
    let m = and_parts (not (is_in (key c) (map key cs))) (all_different (map key cs)) h in
    (keys-alike key c cs (not-true (is_in (key c) (map key cs)) m.0), keys-differ key cs m.1)

join-differ : (P : Column → Type 0) (a b : List Column) → Each P a → Each (λ c. P c → ⊥) b → Differ a → Differ b → Differ (a ++ b)
join-differ P [] b h g d e = e
join-differ P (c ∷ a) b h g d e = (
  each-append (λ x. same_column c x ≡ false) a b d.0 (each-weaker (λ x. P x → ⊥) (λ x. same_column c x ≡ false) b (λ x n. apart-property P c x h.0 n) g),
  join-differ P a b h.1 g d.1 e,
)

-- one for each register
registers-keys : (key : Column → ℕ) (make : ℕ → Column) → ((r : ℕ) → key (make r) ≡ r) → (rs : List ℕ) → map key (map make rs) ≡ rs
registers-keys key make h [] = refl
registers-keys key make h (r ∷ rs) = ap (λ z. z ∷ map key (map make rs)) (h r) ∙ ap (λ zs. r ∷ zs) (registers-keys key make h rs)

registers-differ : (key : Column → ℕ) (make : ℕ → Column) → ((r : ℕ) → key (make r) ≡ r) → (rs : List ℕ) → all_different rs ≡ true → Differ (map make rs)
registers-differ key make h rs d = keys-differ key (map make rs) (ap all_different (registers-keys key make h rs) ∙ d)

-- ---- columns of each of some things, no two of which are the same

abbrev pub Pairs : {X : Type 0} → (X → X → Type 0) → List X → Type 0
Pairs R [] = Unit {0}
Pairs R (x ∷ xs) = Each (R x) xs × Pairs R xs

pub each-kept : {X : Type 0} (P : X → Type 0) (p : X → Bool) (xs : List X) → Each P xs → Each P (filter p xs)
each-kept P p [] h = tt
each-kept P p (x ∷ xs) h = pick (p x) h.0 (each-kept P p xs h.1)
  where
    pick : (b : Bool) → P x → Each P (filter p xs) → Each P (cond b (x ∷ filter p xs) (filter p xs))
    pick true q r = (q, r)
    pick false q r = r

pairs-kept : {X : Type 0} (R : X → X → Type 0) (p : X → Bool) (xs : List X) → Pairs R xs → Pairs R (filter p xs)
pairs-kept R p [] h = tt
pairs-kept R p (x ∷ xs) h = pick (p x) (each-kept (R x) p xs h.0) (pairs-kept R p xs h.1)
  where
    pick : (b : Bool) → Each (R x) (filter p xs) → Pairs R (filter p xs) → Pairs R (cond b (x ∷ filter p xs) (filter p xs))
    pick true q r = (q, r)
    pick false q r = r

pairs-append : {X : Type 0} (R : X → X → Type 0) (a b : List X) → Each (λ x. Each (R x) b) a → Pairs R a → Pairs R b → Pairs R (a ++ b)
pairs-append R [] b h g k = k
pairs-append R (x ∷ a) b h g k = (each-append (R x) a b g.0 h.0, pairs-append R a b h.1 g.1 k)

-- what is of another thing isn't of this one
others-not : {X : Type 0} (f : X → List Column) (Of : X → Column → Type 0) (R : X → X → Type 0) → ((x y : X) → R x y → (c : Column) → Of x c → Of y c → ⊥) → ((x : X) → Each (Of x) (f x))
    → (x : X) (ys : List X) → Each (R x) ys → Each (λ c. Of x c → ⊥) (flat_map f ys)
others-not f Of R clash h x [] a = tt
others-not f Of R clash h x (y ∷ ys) a =
    each-append (λ c. Of x c → ⊥) (f y) (flat_map f ys) (each-weaker (Of y) (λ c. Of x c → ⊥) (f y) (λ c g k. clash x y a.0 c k g) (h y)) (others-not f Of R clash h x ys a.1)

flat-differ : {X : Type 0} (f : X → List Column) (Of : X → Column → Type 0) (R : X → X → Type 0) → ((x y : X) → R x y → (c : Column) → Of x c → Of y c → ⊥) → ((x : X) → Each (Of x) (f x)) → ((x : X) → Differ (f x))
    → (xs : List X) → Pairs R xs → Differ (flat_map f xs)
flat-differ f Of R clash h d [] p = tt
flat-differ f Of R clash h d (x ∷ xs) p =
    join-differ (Of x) (f x) (flat_map f xs) (h x) (others-not f Of R clash h x xs p.0) (d x) (flat-differ f Of R clash h d xs p.1)

-- variables
abbrev Apart : ℕ → ℕ → Type 0
Apart x y = nat_eq x y ≡ false

abbrev OfVar : ℕ → Column → Type 0
OfVar x c = var_of c ≡ x

vars-clash : (x y : ℕ) → Apart x y → (c : Column) → OfVar x c → OfVar y c → ⊥
vars-clash x y a c h g = false≢true (sym a ∙ ap (nat_eq x) (sym g ∙ h) ∙ in-itself x)

each-apart : (x : ℕ) (ys : List ℕ) → is_in x ys ≡ false → Each (Apart x) ys
each-apart x [] h = tt
each-apart x (y ∷ ys) h = let m = or_parts (nat_eq x y) (is_in x ys) h in (m.0, each-apart x ys m.1)

vars-apart : (xs : List ℕ) → all_different xs ≡ true → Pairs Apart xs
vars-apart [] h = tt
vars-apart (x ∷ xs) h =
    let m = and_parts (not (is_in x xs)) (all_different xs) h in
    (each-apart x xs (not-true (is_in x xs) m.0), vars-apart xs m.1)

-- uses
abbrev Elsewhere : Use → Use → Type 0
Elsewhere u v = u.point ≡ v.point → u.operand ≡ v.operand → ⊥

abbrev OfUse : Use → Column → Type 0
OfUse u c = (point_of c ≡ u.point) × (operand_of c ≡ u.operand)

uses-clash : (u v : Use) → Elsewhere u v → (c : Column) → OfUse u c → OfUse v c → ⊥
uses-clash u v n c h g = n (sym h.0 ∙ g.0) (sym h.1 ∙ g.1)

uses-place : (k i : ℕ) (xs : List ℕ) (rs : List Role) → Each (λ u. (u.point ≡ k) × (i ≤ u.operand)) (uses_at k i xs rs)
uses-place k i [] rs = tt
uses-place k i (x ∷ xs) [] = tt
uses-place k i (x ∷ xs) (r ∷ rs) =
    ((refl, omega arith), each-weaker (λ u. (u.point ≡ k) × (suc i ≤ u.operand)) (λ u. (u.point ≡ k) × (i ≤ u.operand)) (uses_at k (suc i) xs rs) (λ u h. (h.0, omega (arith, h.1))) (uses-place k (suc i) xs rs))

point-apart : (k i : ℕ) (xs : List ℕ) (rs : List Role) → Pairs Elsewhere (uses_at k i xs rs)
point-apart k i [] rs = tt
point-apart k i (x ∷ xs) [] = tt
point-apart k i (x ∷ xs) (r ∷ rs) =
    let u : Use = record { point = k; operand = i; value = x; role = r } in
    (each-weaker (λ v. (v.point ≡ k) × (suc i ≤ v.operand)) (Elsewhere u) (uses_at k (suc i) xs rs) (λ v h p o. omega (arith, h.1, o)) (uses-place k (suc i) xs rs), point-apart k (suc i) xs rs)

uses-apart : (k : ℕ) (ps : List Point) → Pairs Elsewhere (uses_from k ps)
uses-apart k [] = tt
uses-apart k (q ∷ ps) =
    let rs = place_roles q.place in
    pairs-append Elsewhere (uses_at k 0 q.uses rs) (uses_from (suc k) ps)
    (each-weaker (λ u. (u.point ≡ k) × (0 ≤ u.operand)) (λ u. Each (Elsewhere u) (uses_from (suc k) ps)) (uses_at k 0 q.uses rs)
    (λ u h. each-weaker (λ v. suc k ≤ v.point) (Elsewhere u) (uses_from (suc k) ps) (λ v g p o. omega (arith, h.0, g, p)) (uses-from-point (suc k) ps)) (uses-place k 0 q.uses rs))
    (point-apart k 0 q.uses rs) (uses-apart (suc k) ps)

-- ---- columns by name, in lines that are written out

abbrev tag : Column → ℕ
tag (Def x h) = bank_number h
tag (Fill x h) = 10 + bank_number h
tag (Stay x f) = 20 + f
tag (First k f) = 30 + f
tag (DirectWrite k i f) = 40 + f
tag (EarlyWrite k i f) = 50 + f
tag (ReadVia k r) = 60 + r
tag (WriteVia k r) = 70 + r
tag (Serve k i h p) = 100 + (7 * bank_number h + bank_number p)

-- the same with the number of the operand
abbrev operand_tag : Column → ℕ
operand_tag (Serve k i h p) = 100 * i + (7 * bank_number h + bank_number p)
operand_tag _ = 0

abbrev register_of : Column → ℕ
register_of (DirectWrite k i f) = f
register_of (Stay x f) = f
register_of (EarlyWrite k i f) = f
register_of (First k f) = f
register_of (ReadVia k r) = r
register_of (WriteVia k r) = r
register_of _ = 0

if-plain : (b : Bool) (ls : List Line) → Each IsPlain ls → Each IsPlain (if b then ls else [])
if-plain true ls h = h
if-plain false ls h = tt

-- ---- 1. one choice

parameter-plain : (v : Value) → Each IsPlain (parameter_choice v)
parameter-plain v = if-plain (is_parameter v.origin) (exactly_one (def v.var)) (one-plain (def v.var) (keys-differ tag (def v.var) refl))

dirs-of : (u : Use) → Each (OfUse u) (dir u)
dirs-of u = each-map (OfUse u) (DirectWrite u.point u.operand) (λ f. (refl, refl)) eight

dirs-differ : (u : Use) → Differ (dir u)
dirs-differ u = keys-differ tag (dir u) refl

result-differ : (labels : List Label) (x : ℕ) → Differ (def x ++ flat_map dir (uses_of labels x))
result-differ labels x =
    let us = uses_of labels x in
    join-differ (λ c. family c ≡ 0) (def x) (flat_map dir us) (refl, (refl, (refl, tt)))
    (each-flat (λ c. family c ≡ 0 → ⊥) dir (λ u. each-map (λ c. family c ≡ 0 → ⊥) (DirectWrite u.point u.operand) (λ f e. omega (arith, e)) eight) us)
    (keys-differ tag (def x) refl)
    (flat-differ dir OfUse Elsewhere uses-clash dirs-of dirs-differ us (pairs-kept Elsewhere (λ u. nat_eq u.value x) (uses labels) (uses-apart 0 (points labels))))

result-plain : (labels : List Label) (v : Value) → Each IsPlain (result_choice labels v)
result-plain labels v =
    let cs = def v.var ++ flat_map dir (uses_of labels v.var) in
    if-plain (is_result v.origin) (exactly_one cs) (one-plain cs (result-differ labels v.var))

access-plain : (a : Access) → Each IsPlain (access_choice a)
access-plain a = one-plain (map (First a.point) eight) (keys-differ tag (map (First a.point) eight) refl)

abbrev ways : ℕ → ℕ → Role → List Column
ways k i r = map (λ s. Serve k i s.from s.at) (services r) ++ (if is_written r then map (DirectWrite k i) eight ++ map (EarlyWrite k i) eight else [])

ways-tags : (k i : ℕ) (r : Role) → all_different (map tag (ways k i r)) ≡ true
ways-tags k i Operand = refl
ways-tags k i Address = refl
ways-tags k i (Written m j) = refl
ways-tags k i (Argument l j) = refl
ways-tags k i (Ending j) = refl

use-plain : (u : Use) → Each IsPlain (use_choice u)
use-plain u = one-plain (srv u ++ early u) (keys-differ tag (srv u ++ early u) (ways-tags u.point u.operand u.role))

choice-plain : (labels : List Label) → Each IsPlain (one_choice labels)
choice-plain labels =
    each-append IsPlain (flat_map parameter_choice (values labels)) _ (each-flat IsPlain parameter_choice parameter-plain (values labels)) (
    each-append IsPlain (flat_map (result_choice labels) (values labels)) _ (each-flat IsPlain (result_choice labels) (result-plain labels) (values labels)) (
    each-append IsPlain (flat_map access_choice (accesses labels)) _ (each-flat IsPlain access_choice access-plain (accesses labels))
    (each-flat IsPlain use_choice use-plain (uses labels))))

-- ---- 2. homes cover uses

served-tags : (x k i : ℕ) (h : Bank) → all_different (map tag (home x h ++ srv_from k i h)) ≡ true
served-tags x k i A = refl
served-tags x k i B = refl
served-tags x k i M = refl
served-tags x k i T = refl
served-tags x k i L = refl
served-tags x k i A15 = refl
served-tags x k i W = refl

served-plain : (u : Use) (h : Bank) → IsPlain (served_home u h)
served-plain u h = covers-plain (home u.value h) (srv_from u.point u.operand h) (keys-differ tag (home u.value h ++ srv_from u.point u.operand h) (served-tags u.value u.point u.operand h))

stayed-plain : (u : Use) → IsPlain (served_stay u)
stayed-plain u = covers-plain (stay u.value) (srv_from u.point u.operand T) (keys-differ tag (stay u.value ++ srv_from u.point u.operand T) refl)

cover-plain : (labels : List Label) (u : Use) → Each IsPlain (use_cover labels u)
cover-plain labels u =
    each-append IsPlain (map (served_home u) homes) (use_stay labels u) (each-map IsPlain (served_home u) (served-plain u) homes)
    (if-plain (is_fetched (origin_of labels u.value)) (served_stay u ∷ []) (stayed-plain u, tt))

home-tags : (x : ℕ) (h : Bank) → all_different (map tag (home x h)) ≡ true
home-tags x A = refl
home-tags x B = refl
home-tags x M = refl
home-tags x T = refl
home-tags x L = refl
home-tags x A15 = refl
home-tags x W = refl

fill-tags : (x : ℕ) (h : Bank) → all_different (map tag (in_register x ++ fill x h)) ≡ true
fill-tags x A = refl
fill-tags x B = refl
fill-tags x M = refl
fill-tags x T = refl
fill-tags x L = refl
fill-tags x A15 = refl
fill-tags x W = refl

word-plain : (x : ℕ) (u : Use) → Each IsPlain (word_from_register x u)
word-plain x u =
    if-plain (is_written u.role) (covers (in_register x) (ear u) ∷ []) (covers-plain (in_register x) (ear u) (keys-differ tag (in_register x ++ ear u) refl), tt)

copies-plain : (labels : List Label) (x : ℕ) → Each IsPlain (copy_lines labels x)
copies-plain labels x =
    each-append IsPlain (map (λ h. at_most 1 (home x h)) homes) (map (λ h. covers (in_register x) (fill x h)) homes ++ flat_map (word_from_register x) (uses_of labels x))
    (each-map IsPlain (λ h. at_most 1 (home x h)) (λ h. most-plain 1 (home x h) (omega arith) (keys-differ tag (home x h) (home-tags x h))) homes) (
    each-append IsPlain (map (λ h. covers (in_register x) (fill x h)) homes) (flat_map (word_from_register x) (uses_of labels x))
    (each-map IsPlain (λ h. covers (in_register x) (fill x h)) (λ h. covers-plain (in_register x) (fill x h) (keys-differ tag (in_register x ++ fill x h) (fill-tags x h))) homes)
    (each-flat IsPlain (word_from_register x) (word-plain x) (uses_of labels x)))

copy-plain : (labels : List Label) (v : Value) → Each IsPlain (copy_cover labels v)
copy-plain labels v = if-plain (is_used labels v.var && not (is_fetched v.origin)) (copy_lines labels v.var) (copies-plain labels v.var)

argument-tags : (x k i : ℕ) (p : Bank) → all_different (map tag (at_home x p ++ srv_at k i p)) ≡ true
argument-tags x k i A = refl
argument-tags x k i B = refl
argument-tags x k i M = refl
argument-tags x k i T = refl
argument-tags x k i L = refl
argument-tags x k i A15 = refl
argument-tags x k i W = refl

arguments-plain : (labels : List Label) (k i : ℕ) (r : Role) → Each IsPlain (argument_lines labels k i r)
arguments-plain labels k i Operand = tt
arguments-plain labels k i Address = tt
arguments-plain labels k i (Written m j) = tt
arguments-plain labels k i (Argument l j) =
    let x = parameter labels l j in
    each-map IsPlain (λ p. covers (at_home x p) (srv_at k i p)) (λ p. covers-plain (at_home x p) (srv_at k i p) (keys-differ tag (at_home x p ++ srv_at k i p) (argument-tags x k i p))) homes
arguments-plain labels k i (Ending j) = tt

homes-plain : (labels : List Label) → Each IsPlain (homes_cover labels)
homes-plain labels =
    each-append IsPlain (flat_map (use_cover labels) (uses labels)) _ (each-flat IsPlain (use_cover labels) (cover-plain labels) (uses labels)) (
    each-append IsPlain (flat_map (copy_cover labels) (values labels)) _ (each-flat IsPlain (copy_cover labels) (copy-plain labels) (values labels))
    (each-flat IsPlain (argument_cover labels) (λ u. arguments-plain labels u.point u.operand u.role) (uses labels)))

-- ---- 3. operand banks

pair-plain : (k : ℕ) → Each IsPlain (pair_lines k)
pair-plain k = (
  most-plain 1 (both_at k (A ∷ A15 ∷ [])) (omega arith) (keys-differ operand_tag (both_at k (A ∷ A15 ∷ [])) refl),
  (
    most-plain 1 (both_at k (B ∷ [])) (omega arith) (keys-differ operand_tag (both_at k (B ∷ [])) refl),
    (most-plain 1 (both_at k (L ∷ T ∷ [])) (omega arith) (keys-differ operand_tag (both_at k (L ∷ T ∷ [])) refl), tt),
  ),
)

operands-plain : (labels : List Label) → Each IsPlain (operand_banks labels)
operands-plain labels = each-points IsPlain operand_lines (λ k q. if-plain (two_operands (place_roles q.place)) (pair_lines k) (pair-plain k)) 0 (points labels)

-- ---- 4. capacity

each-held : {X : Type 0} (P : X → Type 0) (f : ℕ → Point → List X) → ((k : ℕ) (q : Point) → IsLive q → Each P (f k q)) → (k : ℕ) (ps : List Point) → Each IsLive ps → Each P (each_point f k ps)
each-held P f h k [] g = tt
each-held P f h k (q ∷ ps) g = each-append P (f k q) (each_point f (suc k) ps) (h k q g.0) (each-held P f h (suc k) ps g.1)

held-differ : (xs : List ℕ) (h : Bank) → all_different xs ≡ true → Differ (live_in xs h)
held-differ xs h d = flat-differ (λ x. home x h) OfVar Apart vars-clash (λ x. (refl, (refl, tt))) (λ x. keys-differ tag (home x h) (home-tags x h)) xs (vars-apart xs d)

rooms-plain : (slots : ℕ) (xs : List ℕ) → slots ≤ 128 → all_different xs ≡ true → Each IsPlain (room_lines slots xs)
rooms-plain slots xs l d = (
  most-plain 15 (live_in xs A) (omega arith) (held-differ xs A d),
  (most-plain 15 (live_in xs B) (omega arith) (held-differ xs B d), (most-plain slots (live_in xs M) l (held-differ xs M d), tt)),
)

-- ---- 5. owners

run-each : (P : Column → Type 0) (make : ℕ → Column) (r i : ℕ) → ((f : ℕ) → P (make f)) → Each P (map make (run_at r i))
run-each P make r i h = each-map P make h (run_at r i)

run-differ : (make : ℕ → Column) (r i : ℕ) → Differ (map make (run_at r i))
run-differ make r i = pick (nat_le i r)
  where
    pick : (b : Bool) → Differ (map make (if b then (r - i) ∷ [] else []))
    pick true = (tt, tt)
    pick false = tt

if-each : (P : Column → Type 0) (b : Bool) (cs : List Column) → Each P cs → Each P (if b then cs else [])
if-each P true cs h = h
if-each P false cs h = tt

if-differ : (b : Bool) (cs : List Column) → Differ cs → Differ (if b then cs else [])
if-differ true cs h = h
if-differ false cs h = tt

stays-each : (P : Column → Type 0) (sdram : Bool) (r x : ℕ) (s : ValueOrigin) → ((f : ℕ) → P (Stay x f)) → Each P (origin_stays sdram r x s)
stays-each P sdram r x (Parameter l i) h = tt
stays-each P sdram r x Result h = tt
stays-each P sdram r x (Fetched m i) h = if-each P (same_side sdram (is_sdram m)) (map (Stay x) (run_at r i)) (run-each P (Stay x) r i h)

stays-differ : (sdram : Bool) (r x : ℕ) (s : ValueOrigin) → Differ (origin_stays sdram r x s)
stays-differ sdram r x (Parameter l i) = tt
stays-differ sdram r x Result = tt
stays-differ sdram r x (Fetched m i) = if-differ (same_side sdram (is_sdram m)) (map (Stay x) (run_at r i)) (run-differ (Stay x) r i)

all-stays : (P : Column → Type 0) (labels : List Label) (sdram : Bool) (r : ℕ) (xs : List ℕ) → ((x f : ℕ) → P (Stay x f)) → Each P (stays_at labels sdram r xs)
all-stays P labels sdram r xs h = each-flat P (λ x. origin_stays sdram r x (origin_of labels x)) (λ x. stays-each P sdram r x (origin_of labels x) (h x)) xs

stay-differ : (labels : List Label) (sdram : Bool) (r : ℕ) (xs : List ℕ) → all_different xs ≡ true → Differ (stays_at labels sdram r xs)
stay-differ labels sdram r xs d =
    flat-differ (λ x. origin_stays sdram r x (origin_of labels x)) OfVar Apart vars-clash (λ x. stays-each (OfVar x) sdram r x (origin_of labels x) (λ f. refl)) (λ x. stays-differ sdram r x (origin_of labels x)) xs (vars-apart xs d)

readers-plain : (labels : List Label) (k : ℕ) (q : Point) → all_different q.before ≡ true → Each IsPlain (read_owners labels k q)
readers-plain labels k q d =
    each-append IsPlain (map (λ r. at_most 1 (stays_at labels false r q.before ++ ReadVia k r ∷ [])) eight) (map (λ r. at_most 1 (stays_at labels true r q.before)) eight)
    (each-map IsPlain (λ r. at_most 1 (stays_at labels false r q.before ++ ReadVia k r ∷ [])) (λ r. most-plain 1 (stays_at labels false r q.before ++ ReadVia k r ∷ []) (omega arith)
    (join-differ (λ c. family c ≡ 3) (stays_at labels false r q.before) (ReadVia k r ∷ []) (all-stays (λ c. family c ≡ 3) labels false r q.before (λ x f. refl)) ((λ e. omega (arith, e)), tt) (stay-differ labels false r q.before d) (tt, tt))) eight)
    (each-map IsPlain (λ r. at_most 1 (stays_at labels true r q.before)) (λ r. most-plain 1 (stays_at labels true r q.before) (omega arith) (stay-differ labels true r q.before d)) eight)

covering-differ : (r : ℕ) (a : Access) → Differ (covering r a)
covering-differ r a =
    let p = λ (f : ℕ). nat_le f r && nat_lt r (f + a.words) in
    registers-differ register_of (First a.point) (λ f. refl) (filter p eight) (different-filter p eight refl)

covering-each : (P : Column → Type 0) (r : ℕ) (a : Access) → ((k f : ℕ) → P (First k f)) → Each P (covering r a)
covering-each P r a h = each-map P (First a.point) (h a.point) (filter (λ f. nat_le f r && nat_lt r (f + a.words)) eight)

read-plain : (labels : List Label) (xs : List ℕ) (a : Access) → all_different xs ≡ true → Each IsPlain (access_owners labels xs a)
read-plain labels xs a d = each-map IsPlain (λ r. at_most 1 (stays_at labels (is_sdram a.mem) r xs ++ covering r a)) (λ r. most-plain 1 (stays_at labels (is_sdram a.mem) r xs ++ covering r a) (omega arith)
    (join-differ (λ c. family c ≡ 3) (stays_at labels (is_sdram a.mem) r xs) (covering r a) (all-stays (λ c. family c ≡ 3) labels (is_sdram a.mem) r xs (λ x f. refl))
    (covering-each (λ c. family c ≡ 3 → ⊥) r a (λ k f e. omega (arith, e))) (stay-differ labels (is_sdram a.mem) r xs d) (covering-differ r a))) eight

reads-plain : (labels : List Label) (k : ℕ) (xs : List ℕ) (q : PointKind) → (is_read q ≡ true → all_different xs ≡ true) → Each IsPlain (flat_map (access_owners labels xs) (reads_at k q))
reads-plain labels k xs (Entry l ps) d = tt
reads-plain labels k xs (At (Does (Lit x v))) d = tt
reads-plain labels k xs (At (Does (Una x op y))) d = tt
reads-plain labels k xs (At (Does (Bin x op y z))) d = tt
reads-plain labels k xs (At (Does (Clone ys y))) d = tt
reads-plain labels k xs (At (Does (Read m ys y))) d =
    each-flat IsPlain (access_owners labels xs) (λ a. read-plain labels xs a (d refl)) (reads_at k (At (Does (Read m ys y))))
reads-plain labels k xs (At (Does (Write m y ys))) d = tt
reads-plain labels k xs (At (Forks c x y)) d = tt
reads-plain labels k xs (At (Ends l)) d = tt

after-different : (after : List ℕ) (ps : List Point) → Each IsLive ps → After after ps → all_different after ≡ true
after-different after [] h a = absurd a
after-different after (q ∷ ps) h a = ap all_different a ∙ h.0.different

fills-plain : (labels : List Label) (k : ℕ) (ps : List Point) → Each IsLive ps → Chained ps → Each IsPlain (each_point (fill_owners labels) k ps)
fills-plain labels k [] h c = tt
fills-plain labels k (q ∷ ps) h c =
    let gone = point_values k q in
    each-append IsPlain (fill_owners labels k q) (each_point (fill_owners labels) (suc k) ps)
    (reads-plain labels k (without q.after gone) q.place (λ e. different-without q.after gone (after-different q.after ps h.1 (c.0 e)))) (fills-plain labels (suc k) ps h.1 c.1)

role-each : (P : Column → Type 0) (sdram : Bool) (r k i : ℕ) (role : Role) → ((f : ℕ) → P (DirectWrite k i f)) → ((f : ℕ) → P (EarlyWrite k i f)) → Each P (role_early sdram r k i role)
role-each P sdram r k i Operand h g = tt
role-each P sdram r k i Address h g = tt
role-each P sdram r k i (Written m j) h g =
    if-each P (same_side sdram (is_sdram m)) (map (DirectWrite k i) (run_at r j) ++ map (EarlyWrite k i) (run_at r j))
    (each-append P (map (DirectWrite k i) (run_at r j)) (map (EarlyWrite k i) (run_at r j)) (run-each P (DirectWrite k i) r j h) (run-each P (EarlyWrite k i) r j g))
role-each P sdram r k i (Argument l j) h g = tt
role-each P sdram r k i (Ending j) h g = tt

role-differ : (sdram : Bool) (r k i : ℕ) (role : Role) → Differ (role_early sdram r k i role)
role-differ sdram r k i Operand = tt
role-differ sdram r k i Address = tt
role-differ sdram r k i (Written m j) =
    let dirs = map (DirectWrite k i) (run_at r j) in
    let ears = map (EarlyWrite k i) (run_at r j) in
    if-differ (same_side sdram (is_sdram m)) (dirs ++ ears)
    (join-differ (λ c. family c ≡ 1) dirs ears (run-each (λ c. family c ≡ 1) (DirectWrite k i) r j (λ f. refl)) (run-each (λ c. family c ≡ 1 → ⊥) (EarlyWrite k i) r j (λ f e. omega (arith, e))) (run-differ (DirectWrite k i) r j) (run-differ (EarlyWrite k i) r j))
role-differ sdram r k i (Argument l j) = tt
role-differ sdram r k i (Ending j) = tt

early-differ : (sdram : Bool) (r : ℕ) (us : List Use) → Pairs Elsewhere us → Differ (early_at sdram r us)
early-differ sdram r us p =
    flat-differ (λ u. role_early sdram r u.point u.operand u.role) OfUse Elsewhere uses-clash
    (λ u. role-each (OfUse u) sdram r u.point u.operand u.role (λ f. (refl, refl)) (λ f. (refl, refl))) (λ u. role-differ sdram r u.point u.operand u.role) us p

-- at a point there is at most one write
one-write : (k : ℕ) (q : PointKind) → Pairs (λ a b. ⊥) (writes_at k q)
one-write k (Entry l ps) = tt
one-write k (At (Does (Lit x v))) = tt
one-write k (At (Does (Una x op y))) = tt
one-write k (At (Does (Bin x op y z))) = tt
one-write k (At (Does (Clone ys y))) = tt
one-write k (At (Does (Read m ys y))) = tt
one-write k (At (Does (Write m y ys))) = (tt, tt)
one-write k (At (Forks c x y)) = tt
one-write k (At (Ends l)) = tt

side-each : (P : Column → Type 0) (sdram : Bool) (r : ℕ) (a : Access) → ((k f : ℕ) → P (First k f)) → Each P (side_covering sdram r a)
side-each P sdram r a h = if-each P (same_side sdram (is_sdram a.mem)) (covering r a) (covering-each P r a h)

writes-differ : (sdram : Bool) (r k : ℕ) (q : PointKind) → Differ (flat_map (side_covering sdram r) (writes_at k q))
writes-differ sdram r k q =
    flat-differ (side_covering sdram r) (λ a c. family c ≡ 5) (λ a b. ⊥) (λ a b n c h g. n) (λ a. side-each (λ c. family c ≡ 5) sdram r a (λ k f. refl))
    (λ a. if-differ (same_side sdram (is_sdram a.mem)) (covering r a) (covering-differ r a)) (writes_at k q) (one-write k q)

-- columns of words that are put early
abbrev IsEarly : Column → Type 0
IsEarly c = (family c ≡ 1) ⊎ (family c ≡ 4)

early-each : (sdram : Bool) (r : ℕ) (us : List Use) → Each IsEarly (early_at sdram r us)
early-each sdram r us =
    each-flat IsEarly (λ u. role_early sdram r u.point u.operand u.role) (λ u. role-each IsEarly sdram r u.point u.operand u.role (λ f. inl refl) (λ f. inr refl)) us

first-not-early : (k f : ℕ) → IsEarly (First k f) → ⊥
first-not-early k f h = ⊎_elim (λ (e : family (First k f) ≡ 1). omega (arith, e)) (λ (e : family (First k f) ≡ 4). omega (arith, e)) h

pass-not-early : (k r : ℕ) → IsEarly (WriteVia k r) → ⊥
pass-not-early k r h = ⊎_elim (λ (e : family (WriteVia k r) ≡ 1). omega (arith, e)) (λ (e : family (WriteVia k r) ≡ 4). omega (arith, e)) h

firsts-each : (P : Column → Type 0) (sdram : Bool) (r k : ℕ) (q : PointKind) → ((j f : ℕ) → P (First j f)) → Each P (flat_map (side_covering sdram r) (writes_at k q))
firsts-each P sdram r k q h = each-flat P (side_covering sdram r) (λ a. side-each P sdram r a h) (writes_at k q)

pass-differ : (r k : ℕ) (q : PointKind) → Differ (WriteVia k r ∷ flat_map (side_covering false r) (writes_at k q))
pass-differ r k q =
    join-differ (λ c. family c ≡ 8) (WriteVia k r ∷ []) (flat_map (side_covering false r) (writes_at k q)) (refl, tt) (firsts-each (λ c. family c ≡ 8 → ⊥) false r k q (λ j f e. omega (arith, e))) (tt, tt) (writes-differ false r k q)

writers-plain : (labels : List Label) (k : ℕ) (q : Point) → Each IsPlain (write_owners labels k q)
writers-plain labels k q =
    let us = waiting labels k q in
    let apart = pairs-kept Elsewhere (λ u. is_in u.value (q.above ++ point_values k q) && (nat_lt k u.point && nat_le u.point (k + q.below))) (uses labels) (uses-apart 0 (points labels)) in
    each-append IsPlain (side_owners labels k q false (λ r. WriteVia k r ∷ [])) (side_owners labels k q true (λ r. []))
    (each-map IsPlain (λ r. at_most 1 (early_at false r us ++ ((WriteVia k r ∷ []) ++ flat_map (side_covering false r) (writes_at k q.place))))
    (λ r. most-plain 1 (early_at false r us ++ ((WriteVia k r ∷ []) ++ flat_map (side_covering false r) (writes_at k q.place))) (omega arith)
    (join-differ IsEarly (early_at false r us) (WriteVia k r ∷ flat_map (side_covering false r) (writes_at k q.place)) (early-each false r us)
    (pass-not-early k r, firsts-each (λ c. IsEarly c → ⊥) false r k q.place first-not-early) (early-differ false r us apart) (pass-differ r k q.place))) eight)
    (each-map IsPlain (λ r. at_most 1 (early_at true r us ++ ([] ++ flat_map (side_covering true r) (writes_at k q.place))))
    (λ r. most-plain 1 (early_at true r us ++ ([] ++ flat_map (side_covering true r) (writes_at k q.place))) (omega arith)
    (join-differ IsEarly (early_at true r us) (flat_map (side_covering true r) (writes_at k q.place)) (early-each true r us)
    (firsts-each (λ c. IsEarly c → ⊥) true r k q.place first-not-early) (early-differ true r us apart) (writes-differ true r k q.place))) eight)

owners-plain : (labels : List Label) → Each IsLive (points labels) → Each IsPlain (owners labels)
owners-plain labels h =
    let ps = points labels in
    each-append IsPlain (each_point (read_owners labels) 0 ps) _ (each-held IsPlain (read_owners labels) (λ k q g. readers-plain labels k q g.different) 0 ps h) (
    each-append IsPlain (each_point (fill_owners labels) 0 ps) _ (fills-plain labels 0 ps h (labels-chained 0 labels))
    (each-points IsPlain (write_owners labels) (writers-plain labels) 0 ps))

-- ---- 6. adjacency

begins-plain : (labels : List Label) (k : ℕ) (q : Point) → Each IsPlain (begins_at labels k q)
begins-plain labels k q =
    let n = place_words q.place in
    each-append IsPlain (flat_map (stay_begins labels n) (place_values k q.place)) (flat_map (word_begins n) (point_uses k q))
    (each-flat IsPlain (stay_begins labels n) (λ v. if-plain (is_used labels v.var) (map (λ f. covers (First v.point f ∷ []) (Stay v.var f ∷ [])) (origin_beginnings n v.origin))
    (each-map IsPlain (λ f. covers (First v.point f ∷ []) (Stay v.var f ∷ [])) (λ f. covers-plain (First v.point f ∷ []) (Stay v.var f ∷ []) ((refl, tt), (tt, tt))) (origin_beginnings n v.origin))) (place_values k q.place))
    (each-flat IsPlain (word_begins n) (λ u. each-map IsPlain (λ f. covers (First u.point f ∷ []) (DirectWrite u.point u.operand f ∷ EarlyWrite u.point u.operand f ∷ []))
    (λ f. covers-plain (First u.point f ∷ []) (DirectWrite u.point u.operand f ∷ EarlyWrite u.point u.operand f ∷ []) ((refl, (refl, tt)), ((refl, tt), (tt, tt)))) (role_beginnings n u.role)) (point_uses k q))

-- ---- 7. passes

read-pass : (u : Use) → Each IsPlain (slot_read u)
read-pass u =
    each-map IsPlain (λ (s : Service). covers (map (ReadVia u.point) eight) (Serve u.point u.operand s.from s.at ∷ []))
    (λ (s : Service). covers-plain (map (ReadVia u.point) eight) (Serve u.point u.operand s.from s.at ∷ [])
    (join-differ (λ c. family c ≡ 7) (map (ReadVia u.point) eight) (Serve u.point u.operand s.from s.at ∷ []) (each-map (λ c. family c ≡ 7) (ReadVia u.point) (λ r. refl) eight) ((λ e. omega (arith, e)), tt)
    (keys-differ tag (map (ReadVia u.point) eight) refl) (tt, tt))) (filter (λ (s : Service). is_slot s.from) (services u.role))

result-pass : (v : Value) → Each IsPlain (result_written v)
result-pass v =
    if-plain (is_result v.origin) (slot_written v.point (Def v.var M) ∷ [])
    (covers-plain (map (WriteVia v.point) eight) (Def v.var M ∷ []) (keys-differ tag (map (WriteVia v.point) eight ++ Def v.var M ∷ []) refl), tt)

value-pass : (labels : List Label) (v : Value) → Each IsPlain (value_written labels v)
value-pass labels v =
    if-plain (is_used labels v.var) (slot_written v.point (Fill v.var M) ∷ result_written v)
    (covers-plain (map (WriteVia v.point) eight) (Fill v.var M ∷ []) (keys-differ tag (map (WriteVia v.point) eight ++ Fill v.var M ∷ []) refl), result-pass v)

passes-plain : (labels : List Label) → Each IsPlain (passes labels)
passes-plain labels =
    each-append IsPlain (flat_map slot_read (uses labels)) (flat_map (value_written labels) (values labels)) (each-flat IsPlain slot_read read-pass (uses labels)) (each-flat IsPlain (value_written labels) (value-pass labels) (values labels))

-- ---- all lines

lines-plain : (labels : List Label) (slots : ℕ) → slots ≤ 128 → Each IsLive (points labels) → Each IsPlain (lines labels slots)
lines-plain labels slots l h =
    each-append IsPlain (one_choice labels) _ (choice-plain labels) (
    each-append IsPlain (homes_cover labels) _ (homes-plain labels) (
    each-append IsPlain (operand_banks labels) _ (operands-plain labels) (
    each-append IsPlain (capacity labels slots) _ (each-held IsPlain (λ k q. room_lines slots q.before) (λ k q g. rooms-plain slots q.before l g.different) 0 (points labels) h) (
    each-append IsPlain (owners labels) _ (owners-plain labels h) (
    each-append IsPlain (adjacency labels) (passes labels) (each-points IsPlain (begins_at labels) (begins-plain labels) 0 (points labels)) (passes-plain labels))))))

-- ---- a kind of column costs at most 33

abbrev pub IsCheap : Priced → Type 0
IsCheap p = p.1 ≤ 33

if-cheap : (b : Bool) (ps : List Priced) → Each IsCheap ps → Each IsCheap (if b then ps else [])
if-cheap true ps h = h
if-cheap false ps h = tt

defs-cheap : (x : ℕ) (s : ValueOrigin) → Each IsCheap (origin_defs x s)
defs-cheap x (Parameter zero i) = (omega arith, (omega arith, (omega arith, tt)))
defs-cheap x (Parameter (suc l) i) = (omega arith, (omega arith, (omega arith, tt)))
defs-cheap x Result = (omega arith, (omega arith, (omega arith, tt)))
defs-cheap x (Fetched m i) = tt

services-cheap : (r : Role) → Each (λ s. s.cost ≤ 33) (services r)
services-cheap Operand = (omega arith, (omega arith, (omega arith, (omega arith, (omega arith, (omega arith, (omega arith, tt)))))))
services-cheap Address = (omega arith, (omega arith, (omega arith, (omega arith, tt))))
services-cheap (Written m i) = (omega arith, (omega arith, (omega arith, (omega arith, tt))))
services-cheap (Argument l i) =
    (omega arith, (omega arith, (omega arith, (omega arith, (omega arith, (omega arith, (omega arith, (omega arith, (omega arith, (omega arith, (omega arith, (omega arith, tt))))))))))))
services-cheap (Ending i) = (omega arith, (omega arith, (omega arith, (omega arith, tt))))

pub mapped-each : {X Y : Type 0} (P : Y → Type 0) (f : X → Y) (xs : List X) → Each (λ x. P (f x)) xs → Each P (map f xs)
mapped-each P f [] h = tt
mapped-each P f (x ∷ xs) h = (h.0, mapped-each P f xs h.1)

srvs-cheap : (labels : List Label) (u : Use) → Each IsCheap (srv_columns labels u)
srvs-cheap labels u =
    let p = λ (s : Service). has_bank (is_fetched (origin_of labels u.value)) s.from in
    mapped-each IsCheap (λ (s : Service). (Serve u.point u.operand s.from s.at, s.cost)) (filter p (services u.role)) (each-kept (λ (s : Service). s.cost ≤ 33) p (services u.role) (services-cheap u.role))

eight-cheap : (b : Bool) (column : ℕ → Column) → Each IsCheap (for_eight b column)
eight-cheap true column = each-map IsCheap (λ r. (column r, 0)) (λ r. omega arith) eight
eight-cheap false column = tt

pub all-cheap : (labels : List Label) → Each IsCheap (priced labels)
all-cheap labels =
    let ps = points labels in
    each-append IsCheap (flat_map def_columns (values labels)) _ (each-flat IsCheap def_columns (λ v. defs-cheap v.var v.origin) (values labels)) (
    each-append IsCheap (all_dirs labels) _ (each-points IsCheap (point_dirs labels) (λ k q. each-flat IsCheap (dir_columns labels (place_words q.place)) (λ u. if-cheap (is_result (origin_of labels u.value)) (map (λ f. (DirectWrite u.point u.operand f, 0)) (role_beginnings (place_words q.place) u.role))
    (each-map IsCheap (λ f. (DirectWrite u.point u.operand f, 0)) (λ f. omega arith) (role_beginnings (place_words q.place) u.role))) (point_uses k q)) 0 ps) (
    each-append IsCheap (flat_map (fill_columns labels) (values labels)) _ (each-flat IsCheap (fill_columns labels) (λ v. if-cheap (is_used labels v.var) ((Fill v.var A, 1) ∷ (Fill v.var B, 1) ∷ (Fill v.var M, 17) ∷ []) (omega arith, (omega arith, (omega arith, tt)))) (values labels)) (
    each-append IsCheap (all_stays labels) _ (each-points IsCheap (point_stays labels) (λ k q. each-flat IsCheap (stay_columns labels (place_words q.place)) (λ v. if-cheap (is_used labels v.var) (map (λ f. (Stay v.var f, 0)) (origin_beginnings (place_words q.place) v.origin))
    (each-map IsCheap (λ f. (Stay v.var f, 0)) (λ f. omega arith) (origin_beginnings (place_words q.place) v.origin))) (place_values k q.place)) 0 ps) (
    each-append IsCheap (all_ears labels) _ (each-points IsCheap point_ears (λ k q. each-flat IsCheap (ear_columns (place_words q.place)) (λ u. each-map IsCheap (λ f. (EarlyWrite u.point u.operand f, 1)) (λ f. omega arith) (role_beginnings (place_words q.place) u.role)) (point_uses k q)) 0 ps) (
    each-append IsCheap (flat_map first_columns (accesses labels)) _ (each-flat IsCheap first_columns (λ a. each-map IsCheap (λ f. (First a.point f, 0)) (λ f. omega arith) (beginnings a.mem a.words)) (accesses labels)) (
    each-append IsCheap (flat_map (srv_columns labels) (uses labels)) _ (each-flat IsCheap (srv_columns labels) (srvs-cheap labels) (uses labels)) (
    each-append IsCheap (all_pas_l labels) (all_pas_s labels) (each-points IsCheap pas_l_columns (λ k q. eight-cheap (nat_le 1 (length q.uses)) (ReadVia k)) 0 ps)
    (each-points IsCheap (pas_s_columns labels) (λ k q. eight-cheap (list_any (λ v. is_used labels v.var) (place_values k q.place)) (WriteVia k)) 0 ps))))))))

costs-fit : (labels : List Label) → All (λ c. c < 2 ^ 20) (costs labels)
costs-fit labels =
    All-map (λ c. c < 2 ^ 20) (λ (p : Priced). p.1) (priced labels)
    (each-all (λ (p : Priced). p.1 < 2 ^ 20) (priced labels) (each-weaker IsCheap (λ (p : Priced). p.1 < 2 ^ 20) (priced labels) (λ p h. omega (arith, h)) (all-cheap labels)))

-- ---- the whole

pub program-fits : (labels : List Label) (slots : ℕ) → single labels ≡ true → slots ≤ 128 → length (columns labels) ≤ 2 ^ 26 → length (program.rows labels slots) ≤ 2 ^ 26 → IsValidContents (bank_program labels slots)
program-fits labels slots s l n m =
    let one = length-map (priced labels) (λ (p : Priced). p.0) in
    let two = length-map (priced labels) (λ (p : Priced). p.1) in
    let same : length (columns labels) ≡ length (costs labels) = one ∙ sym two in
    record {
      columns_fit = omega (arith, n, same);
      rows_fit = m;
      costs_fit = costs-fit labels;
      rows_ok = subst (λ k. All (IsRowText k) (program.rows labels slots)) same (rows-fit (columns labels) (lines labels slots) n (lines-plain labels slots l (all-each IsLive (points labels) (points_held labels s))));
    }

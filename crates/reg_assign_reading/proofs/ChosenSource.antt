-- From where a placement that fits serves a use: from a home of the use's value, whose column is on.
use Rattle.std.proofs.Common.{◌≡◌, ℕ, suc, ◌+◌, ◌<◌, ◌≤◌, nat_eq, Bool, true, false, not, ◌||◌, ◌⊎◌, inl, inr, ⊎_elim, Some, List, [], ◌∷◌, ◌++◌, length, map, refl, sym, ap, subst, ◌∙◌, arith}
use Rattle.std.specs.Prelude.{slice_get, nat_le}
use Rattle.std.specs.List.{list_any}
use Rattle.std.proofs.lemmas.Bool.{false≢true, and_parts, or_cases, or_left, or_right}
use Rattle.nv_base.specs.Sets.{is_in, Within}
use Rattle.nv_base.proofs.Sets.{same-number}
use Rattle.nv_base.specs.declared.term.Mem.{Mem}
use Rattle.nv_base.specs.declared.term.Mem.TheVariants.{Sram, Sdram, Scratch}
use Rattle.ssu_ir.specs.Tree.{Lit, Una, Bin, Clone, Read, Write, Jump, Halt, Label, Does, Forks, Ends}
use Rattle.ssu_ir.specs.Points.{PointKind as Spot, Entry, At, Point, points}
use Rattle.ssu_ir.specs.Single.{takes_as_many, single}
use Rattle.place_plan.specs.declared.place.Place.{Place}
use Rattle.place_plan.specs.declared.place.Place.TheVariants as place
use Rattle.place_plan.specs.Places.{same_place}
use Rattle.place_plan.specs.Plan.{Plan, home, first}
use Rattle.place_plan.specs.Uses.{ValueOrigin, Parameter, Result, Fetched, Value, values, Role, Operand, Address, Written, Argument, Ending, Use, uses, uses_of, roles, place_roles, is_used}
use Rattle.place_plan.specs.Fits.{read_place, IsGeneral, is_write_register, is_home, parameter, Fits, AreCopies}
use Rattle.ssu_liveness.specs.inner.Numbers.{values_among}
use Rattle.place_plan.proofs.Places.{same_place-true}
use Rattle.ssu_liveness.proofs.Scoped.{in-itself}
use Rattle.place_plan.proofs.Sound.{place_ok, Sound, sound-points, uses_among}
use Rattle.place_plan.proofs.Spilled.{each-at, sort_param, param_vars}
use Rattle.place_plan.proofs.Fitting.{entries-in, label-entry, label-param-in}
use Rattle.place_plan.proofs.Joined.{values-different}
use Rattle.bank_prog_form.specs.declared.column.Bank.{Bank}
use Rattle.bank_prog_form.specs.declared.column.Bank.TheVariants.{A, B, M, T, W}
use Rattle.bank_prog_form.specs.declared.column.Column.TheVariants.{Def, Fill}
use Rattle.bank_prog_form.specs.Columns.{origin_of, is_fetched}
use Rattle.bank_prog_form.specs.Rows.{homes, home as home_columns, is_parameter}
use Rattle.bank_prog_form.specs.Program.{same_bank}
use Rattle.bank_prog.specs.Meaning.{Chosen}
use Rattle.bank_prog_form.proofs.Itself.{bank-itself}
use Rattle.reg_assign_reading.specs.inner.Facts.{count}
use Rattle.reg_assign_reading.specs.inner.Chosen.{bank_of, is_in_bank}
use Rattle.reg_assign_reading.proofs.Counts.{In, some-counted, each-in, kept-in}
use Rattle.reg_assign_reading.proofs.FactsValues.{origin-found, used-of}
use Rattle.reg_assign_reading.proofs.LabelPoints.{used-here}
use Rattle.reg_assign_reading.proofs.ChosenForm.{Placed, Housing, housing, held-value, put-writes, copies-are, IsCopy}
use Rattle.reg_assign_reading.proofs.ChosenThere.{use-point, def-there, fill-there}
use Rattle.reg_assign_reading.proofs.FactsPoints.{role-among}

-- ---- banks

pub general-bank : (p : Plan) (q : Place) → IsGeneral p q → In (bank_of q) homes
general-bank p (place.A k) g = inl refl
general-bank p (place.B k) g = inr (inl refl)
general-bank p (place.Slot k) g = inr (inr (inl refl))
general-bank p (place.L k) g = absurd g
general-bank p (place.LD k) g = absurd g
general-bank p (place.S k) g = absurd g
general-bank p (place.SD k) g = absurd g

pub not-home : (h : Bank) {P : Type 0} → In h homes → (A ≡ h → ⊥) → (B ≡ h → ⊥) → (M ≡ h → ⊥) → P
not-home h i a b m = absurd (⊎_elim a (λ (j : In h (B ∷ M ∷ [])). ⊎_elim b (λ (k : In h (M ∷ [])). ⊎_elim m (λ z. z) k) j) i)

pub no-read-home : {P : Type 0} → In T homes → P
no-read-home i = not-home T i (λ e. cc) (λ e. cc) (λ e. cc)

pub no-write-home : {P : Type 0} → In W homes → P
no-write-home i = not-home W i (λ e. cc) (λ e. cc) (λ e. cc)

pub write-bank : (q : Place) → is_write_register q ≡ true → bank_of q ≡ W
write-bank (place.A k) e = absurd (false≢true e)
write-bank (place.B k) e = absurd (false≢true e)
write-bank (place.L k) e = absurd (false≢true e)
write-bank (place.LD k) e = absurd (false≢true e)
write-bank (place.S k) e = refl
write-bank (place.SD k) e = refl
write-bank (place.Slot k) e = absurd (false≢true e)

pub read-bank : (m : Mem) (k : ℕ) → bank_of (read_place m k) ≡ T
read-bank Sram k = refl
read-bank Sdram k = refl
read-bank Scratch k = refl

-- ---- the value of a use

pub of-value : (labels : List Label) (u : Use) → In u (uses labels) → In u (uses_of labels u.value)
of-value labels u i = kept-in (λ (w : Use). nat_eq w.value u.value) u (uses labels) i (in-itself u.value)

pub record UseValue (labels : List Label) (u : Use) : Type 0 where
  pub value : Value
  pub there : In value (values labels)
  pub var : value.var ≡ u.value
  pub used : is_used labels value.var ≡ true

pub use-value : (labels : List Label) (u : Use) → single labels ≡ true → In u (uses labels) → UseValue labels u
use-value labels u s i =
    let ps = points labels in
    let w = use-point labels u i in
    let sound = each-at (Sound labels (values_among (map (λ (q : Point). q.place) ps)) (uses_among ps)) ps u.point w.point (sound-points labels s) w.at in
    let v = held-value labels u.point w.point u.value s w.at (sound.uses_held u.value (used-here u u.point 0 w.point.uses (place_roles w.point.place) w.here)) in
    record {
      value = v.0;
      there = v.1;
      var = v.2;
      used = subst (λ x. is_used labels x ≡ true) (sym v.2) (used-of labels u u.value (of-value labels u i)).2;
    }

pub origin-is : (labels : List Label) (v : Value) → single labels ≡ true → In v (values labels) → origin_of labels v.var ≡ v.origin
origin-is labels v s i = origin-found (values labels) v (values-different labels s) i

-- ---- a home from which a use is served

any-in : (q : Place) (qs : List Place) → list_any (same_place q) qs ≡ true → In q qs
any-in q [] e = absurd (false≢true e)
any-in q (r ∷ qs) e = ⊎_elim
    (λ (a : same_place q r ≡ true). inl (sym (same_place-true q r a)))
    (λ (b : list_any (same_place q) qs ≡ true). inr (any-in q qs b))
    (or_cases (same_place q r) (list_any (same_place q) qs) e)

pub in-any-place : (f : Place → Bool) (q : Place) (qs : List Place) → In q qs → f q ≡ true → list_any f qs ≡ true
in-any-place f q [] i e = absurd i
in-any-place f q (r ∷ qs) i e = ⊎_elim
    (λ (a : r ≡ q). or_left (f r) (list_any f qs) (subst (λ z. f z ≡ true) (sym a) e))
    (λ (j : In q qs). or_right (f r) (list_any f qs) (in-any-place f q qs j e))
    i

-- a home that lasts is where the value is first put, or a copy
pub record IsSource (p : Plan) (x : ℕ) (q : Place) : Type 0 where
  pub lasts : is_write_register q ≡ true → ⊥
  pub at : (q ≡ (home p x).defined) ⊎ In q (home p x).copied

unwritten : (b : Bool) → not b ≡ true → b ≡ true → ⊥
unwritten true e f = false≢true e
unwritten false e f = false≢true f

pub source : (p : Plan) (x : ℕ) (q : Place) → is_home p x q ≡ true → IsSource p x q
source p x q e =
    let w = and_parts (not (is_write_register q)) (same_place q (home p x).defined || list_any (same_place q) (home p x).copied) e in
    record {
      lasts = unwritten (is_write_register q) w.0;
      at = ⊎_elim
          (λ (a : same_place q (home p x).defined ≡ true). inl (same_place-true q (home p x).defined a))
          (λ (b : list_any (same_place q) (home p x).copied ≡ true). inr (any-in q (home p x).copied b))
          (or_cases (same_place q (home p x).defined) (list_any (same_place q) (home p x).copied) w.1);
    }

pub used-housing : (labels : List Label) (p : Plan) (v : Value) → Fits labels p → In v (values labels) → is_used labels v.var ≡ true → Housing labels p v
used-housing labels p v f i u = housing labels p v f i (λ e. u)

-- a copy that lasts is general
copy-bank : (labels : List Label) (p : Plan) (x : ℕ) (q : Place) → Fits labels p → AreCopies labels p x (home p x) → (is_write_register q ≡ true → ⊥) → In q (home p x).copied → In (bank_of q) homes
copy-bank labels p x q f c n i = by (each-in (IsCopy p (home p x).defined) q (home p x).copied (copies-are labels p x (home p x) f c) i)
  where
    by : IsCopy p (home p x).defined q → In (bank_of q) homes
    by (IsCopy.copy_general g e) = general-bank p q g
    by (IsCopy.copy_word w) = absurd (n w)

pub none-in : {P : Type 0} (q : Place) (qs : List Place) → qs ≡ [] → In q qs → P
none-in q qs e i = absurd (subst (In q) e i)

-- a read register from which a value is served is that of a read value
pub source-fetched : (labels : List Label) (p : Plan) (v : Value) (q : Place) → Fits labels p → In v (values labels) → is_used labels v.var ≡ true → IsSource p v.var q → bank_of q ≡ T → is_fetched v.origin ≡ true
source-fetched labels p v q f i u s t = by (used-housing labels p v f i u)
  where
    copied : AreCopies labels p v.var (home p v.var) → In q (home p v.var).copied → is_fetched v.origin ≡ true
    copied c j = no-read-home (subst (λ h. In h homes) t (copy-bank labels p v.var q f c s.lasts j))

    by : Housing labels p v → is_fetched v.origin ≡ true
    by (Housing.put_general n g c) = ⊎_elim
        (λ (e : q ≡ (home p v.var).defined). no-read-home (subst (λ h. In h homes) (ap bank_of (sym e) ∙ t) (general-bank p (home p v.var).defined g)))
        (λ (j : In q (home p v.var).copied). copied c j)
        s.at
    by (Housing.put_read m j e d c) = ap is_fetched e
    by (Housing.put_early e w) = ⊎_elim
        (λ (d : q ≡ (home p v.var).defined). absurd (s.lasts (subst (λ z. is_write_register z ≡ true) (sym d) (put-writes labels p v.var (home p v.var) f w))))
        (λ (j : In q (home p v.var).copied). none-in q (home p v.var).copied w.copied j)
        s.at

-- where a value is served from a home in a bank, that home's column is on
home-counted : (on : Chosen) (x : ℕ) (h : Bank) → (on (Def x h) ≡ true) ⊎ (on (Fill x h) ≡ true) → 1 ≤ count on (home_columns x h)
home-counted on x h o = ⊎_elim
    (λ (e : on (Def x h) ≡ true). some-counted on (Def x h) (home_columns x h) (inl refl) e)
    (λ (e : on (Fill x h) ≡ true). some-counted on (Fill x h) (home_columns x h) (inr (inl refl)) e)
    o

pub source-on : (labels : List Label) (p : Plan) (on : Chosen) (v : Value) (q : Place) (h : Bank) → Placed labels p on → In v (values labels) → is_used labels v.var ≡ true → IsSource p v.var q → bank_of q ≡ h → In h homes → 1 ≤ count on (home_columns v.var h)
source-on labels p on v q h g i u s b j = home-counted on v.var h (⊎_elim
    (λ (e : q ≡ (home p v.var).defined). inl (defined e (used-housing labels p v g.fits i u)))
    (λ (c : In q (home p v.var).copied). inr (
    g.is.same (Fill v.var h) (fill-there labels v h i u j)
    ∙ in-any-place (is_in_bank h) q (home p v.var).copied c (subst (λ z. same_bank h z ≡ true) (sym b) (bank-itself h))))
    s.at)
  where
    defined : q ≡ (home p v.var).defined → Housing labels p v → on (Def v.var h) ≡ true
    defined e (Housing.put_general n w c) =
        g.is.same (Def v.var h) (def-there labels v h i n j) ∙ subst (λ z. is_in_bank h z ≡ true) e (subst (λ z. same_bank h z ≡ true) (sym b) (bank-itself h))
    defined e (Housing.put_read m k r d c) = no-read-home (subst (λ z. In z homes) (sym b ∙ ap bank_of (e ∙ d) ∙ read-bank m (first p v.point + k)) j)
    defined e (Housing.put_early r w) = absurd (s.lasts (subst (λ z. is_write_register z ≡ true) (sym e) (put-writes labels p v.var (home p v.var) g.fits w)))

-- ---- the parameter for an argument

pub roles-below : (r : Role) (role : ℕ → Role) (i : ℕ) (xs : List ℕ) → In r (roles role i xs) → (j : ℕ) × (j < i + length xs) × (role j ≡ r)
roles-below r role i [] h = absurd h
roles-below r role i (x ∷ xs) h = ⊎_elim
    (λ (e : role i ≡ r). (i, omega arith, e))
    (λ (k : In r (roles role (suc i) xs)). let w = roles-below r role (suc i) xs k in (w.0, (let l = w.1 in omega (arith, l)), w.2))
    h

same-label : (l m i j : ℕ) → Argument l i ≡ Argument m j → l ≡ m
same-label l m i j e = cc

same-word : (l m i j : ℕ) → Argument l i ≡ Argument m j → i ≡ j
same-word l m i j e = cc

no-operand : (l i : ℕ) {P : Type 0} → In (Argument l i) (Operand ∷ []) → P
no-operand l i h = absurd (⊎_elim (λ (e : Operand ≡ Argument l i). cc) (λ z. z) h)

no-operands : (l i : ℕ) {P : Type 0} → In (Argument l i) (Operand ∷ Operand ∷ []) → P
no-operands l i h = absurd (⊎_elim (λ (e : Operand ≡ Argument l i). cc) (λ z. no-operand l i z) h)

no-address : (l i : ℕ) {P : Type 0} → In (Argument l i) (Address ∷ []) → P
no-address l i h = absurd (⊎_elim (λ (e : Address ≡ Argument l i). cc) (λ z. z) h)

no-words : (l i : ℕ) (m : Mem) (j : ℕ) (xs : List ℕ) {P : Type 0} → In (Argument l i) (roles (Written m) j xs) → P
no-words l i m j xs h = let w = roles-below (Argument l i) (Written m) j xs h in absurd (let e = w.2 in cc)

no-endings : (l i j : ℕ) (xs : List ℕ) {P : Type 0} → In (Argument l i) (roles Ending j xs) → P
no-endings l i j xs h = let w = roles-below (Argument l i) Ending j xs h in absurd (let e = w.2 in cc)

argument-among : (labels : List Label) (P : List ℕ) (l i : ℕ) (q : Spot) → ((m : Label) → slice_get labels l ≡ Some m → Within m.params P) → place_ok labels q ≡ true → In (Argument l i) (place_roles q) → is_in (parameter labels l i) P ≡ true
argument-among labels P l i (Entry n ps) h e j = absurd j
argument-among labels P l i (At (Does (Lit x v))) h e j = absurd j
argument-among labels P l i (At (Does (Una x op y))) h e j = no-operand l i j
argument-among labels P l i (At (Does (Bin x op y z))) h e j = no-operands l i j
argument-among labels P l i (At (Does (Clone xs y))) h e j = absurd j
argument-among labels P l i (At (Does (Read m xs y))) h e j = no-address l i j
argument-among labels P l i (At (Does (Write m y xs))) h e j = ⊎_elim
    (λ (a : Address ≡ Argument l i). no-address l i (inl a))
    (λ (b : In (Argument l i) (roles (Written m) 0 xs)). no-words l i m 0 xs b)
    j
argument-among labels P l i (At (Forks c x y)) h e j = no-operands l i j
argument-among labels P l i (At (Ends (Jump n xs))) h e j =
    let w = roles-below (Argument l i) (Argument n) 0 xs j in
    let label : n ≡ l = same-label n l w.0 i w.2 in
    let word : w.0 ≡ i = same-word n l w.0 i w.2 in
    let below = w.1 in
    let many = (and_parts (nat_le 1 n) (takes_as_many (length xs) (slice_get labels n)) e).1 in
    label-param-in P (length xs) i (slice_get labels l) h (subst (λ k. takes_as_many (length xs) (slice_get labels k) ≡ true) label many) (omega (arith, below, word))
argument-among labels P l i (At (Ends (Halt n xs))) h e j = no-endings l i 0 xs j

record ParamValue (x : ℕ) (vs : List Value) : Type 0 where
  value : Value
  there : In value vs
  var : value.var ≡ x
  parameter : is_parameter value.origin ≡ true

param-value : (x : ℕ) (vs : List Value) → is_in x (param_vars vs) ≡ true → ParamValue x vs
param-value x [] e = absurd (false≢true e)
param-value x (v ∷ vs) e = by (λ f. param-value x vs f) v.origin refl e
  where
    later : ParamValue x vs → ParamValue x (v ∷ vs)
    later w = record { value = w.value; there = inr w.there; var = w.var; parameter = w.parameter }

    by : (is_in x (param_vars vs) ≡ true → ParamValue x vs) → (s : ValueOrigin) → v.origin ≡ s → is_in x (sort_param s v.var ++ param_vars vs) ≡ true → ParamValue x (v ∷ vs)
    by rest (Parameter l i) g f = ⊎_elim
        (λ (a : nat_eq x v.var ≡ true). record { value = v; there = inl refl; var = sym (same-number x v.var a); parameter = ap is_parameter g })
        (λ (b : is_in x (param_vars vs) ≡ true). later (rest b))
        (or_cases (nat_eq x v.var) (is_in x (param_vars vs)) f)
    by rest Result g f = later (rest f)
    by rest (Fetched m i) g f = later (rest f)

pub argument-value : (labels : List Label) (u : Use) (l i : ℕ) → single labels ≡ true → In u (uses labels) → u.role ≡ Argument l i → (v : Value) × In v (values labels) × (v.var ≡ parameter labels l i) × (is_parameter v.origin ≡ true)
argument-value labels u l i s j e =
    let ps = points labels in
    let w = use-point labels u j in
    let sound = each-at (Sound labels (values_among (map (λ (q : Point). q.place) ps)) (uses_among ps)) ps u.point w.point (sound-points labels s) w.at in
    let P = param_vars (values labels) in
    let v = param-value (parameter labels l i) (values labels)
    (argument-among labels P l i w.point.place (λ m g. label-entry P 0 labels (entries-in 0 ps) l m g) sound.node
    (subst (λ r. In r (place_roles w.point.place)) e (role-among u.point 0 w.point.uses (place_roles w.point.place) u w.here))) in
    (v.value, v.there, v.var, v.parameter)

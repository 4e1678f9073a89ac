-- What the uses of a placement that fits cost: the columns by which they are served.
use Rattle.std.proofs.Common.{◌≡◌, ℕ, ◌+◌, ◌<◌, nat_eq, Bool, true, false, not, ◌&&◌, ◌||◌, if◌then◌else◌, Option, List, [], ◌∷◌, length, map, filter, refl, sym, ap, subst, ⊎_elim, ◌∙◌, arith}
use Rattle.std.specs.List.{flat_map, list_any}
use Rattle.std.proofs.lemmas.Bool.{false≢true, false_from_ne_true, leb-true}
use Rattle.nv_base.proofs.Sets.{same-number}
use Rattle.nv_base.specs.declared.term.Mem.{Mem}
use Rattle.nv_base.specs.declared.term.Mem.TheVariants.{Sram, Sdram, Scratch}
use Rattle.ssu_ir.specs.Tree.{Label, Lit, Una, Bin, Clone, Read, Write, Jump, Halt, Does, Forks, Ends}
use Rattle.ssu_ir.specs.Points.{PointKind as Spot, Entry, At, Point, points}
use Rattle.ssu_ir.specs.Single.{single}
use Rattle.place_plan.specs.declared.place.Place.{Place}
use Rattle.place_plan.specs.declared.place.Place.TheVariants as place
use Rattle.place_plan.specs.Costs.{served_cost, use_cost, uses_cost}
use Rattle.place_plan.specs.Places.{same_place}
use Rattle.place_plan.specs.Plan.{Plan, home, first}
use Rattle.place_plan.specs.Uses.{Role, Operand, Address, Written, Argument, Ending, Use, uses, roles, place_roles}
use Rattle.place_plan.specs.Fits.{write_place, IsGeneral, is_write_register, is_read_register, served, IsOperandAt, IsAddressAt, parameter, is_home, IsServedAt, Fits}
use Rattle.ssu_liveness.specs.inner.Numbers.{values_among}
use Rattle.place_plan.proofs.Sound.{Each, place_ok, Sound, sound-points, uses_among}
use Rattle.place_plan.proofs.Spilled.{each-at}
use Rattle.zo_model.specs.Program.{cost_where}
use Rattle.bank_prog_form.specs.declared.column.Bank.TheVariants.{T}
use Rattle.bank_prog_form.specs.declared.column.Column.TheVariants.{Serve}
use Rattle.bank_prog_form.specs.declared.column.Service.{Service}
use Rattle.bank_prog_form.specs.Columns.{origin_of, is_fetched, services, has_bank, srv_columns}
use Rattle.bank_prog_form.specs.Program.{same_bank}
use Rattle.bank_prog.specs.Meaning.{named_cost}
use Rattle.reg_assign_reading.specs.inner.Chosen.{use_at, bank_of, is_in_bank, preferred_bank, chosen}
use Rattle.reg_assign_reading.proofs.Counts.{In, each-from}
use Rattle.reg_assign_reading.proofs.FactsPoints.{role-among}
use Rattle.bank_prog.proofs.UseSums.{sum_of}
use Rattle.reg_assign_reading.proofs.CostSums.{cost-append}
use Rattle.reg_assign_reading.proofs.ChosenForm.{use-there, use-served, word-is}
use Rattle.reg_assign_reading.proofs.ChosenThere.{use-point}
use Rattle.reg_assign_reading.proofs.ChosenSource.{use-value, origin-is, source, source-fetched, roles-below}
use Rattle.reg_assign_reading.proofs.ChosenServes.{argument-general}

-- ---- which service is taken

-- a service is from the bank of the one place to that of the other
abbrev takes : Role → Place → Place → Service → Bool
takes role from at s = is_in_bank s.from from && same_bank s.at (preferred_bank role (bank_of from) at)

abbrev priced_by : (Service → Bool) → List Service → ℕ
priced_by f ss = sum_of (λ s. cost_where (f s) s.cost) ss

-- what the columns of a use cost, which is served from one place at another
abbrev price : Bool → Role → Place → Place → ℕ
price fetched role from at = priced_by (takes role from at) (filter (λ s. has_bank fetched s.from) (services role))

services-sum : (labels : List Label) (p : Plan) (u : Use) (ss : List Service) → use_at labels u.point u.operand ≡ u
    → named_cost (chosen labels p) (map (λ s. (Serve u.point u.operand s.from s.at, s.cost)) ss) ≡ priced_by (takes u.role (served p u).from (served p u).at) ss
services-sum labels p u [] e = refl
services-sum labels p u (s ∷ ss) e =
    let ih = services-sum labels p u ss e in
    let c = ap (λ (w : Use). cost_where (is_in_bank s.from (served p u).from && same_bank s.at (preferred_bank w.role (bank_of (served p u).from) (served p u).at)) s.cost) e in
    omega (arith, ih, c)

-- ---- role by role

-- a value that is served from a read register is a read one
abbrev ReadFrom : Bool → Place → Type 0
ReadFrom fetched q = is_read_register q ≡ true → fetched ≡ true

operand-price : (fetched : Bool) (l : Option ℕ) (q r : Place) → IsOperandAt l q r → ReadFrom fetched q → price fetched Operand q r ≡ served_cost q r
operand-price true l _ _ (IsOperandAt.in_a {k}) h = refl
operand-price true l _ _ (IsOperandAt.in_b {k}) h = refl
operand-price true l _ _ (IsOperandAt.in_l {k}) h = refl
operand-price true l _ _ (IsOperandAt.in_ld {k}) h = refl
operand-price true l _ _ (IsOperandAt.read_slot {k} {r} e) h = refl
operand-price true l _ _ (IsOperandAt.from_slot {k}) h = refl
operand-price true l _ _ (IsOperandAt.from_b {k}) h = refl
operand-price true l _ _ (IsOperandAt.from_l {k}) h = refl
operand-price true l _ _ (IsOperandAt.from_ld {k}) h = refl
operand-price false l _ _ (IsOperandAt.in_a {k}) h = refl
operand-price false l _ _ (IsOperandAt.in_b {k}) h = refl
operand-price false l _ _ (IsOperandAt.in_l {k}) h = absurd (false≢true (h refl))
operand-price false l _ _ (IsOperandAt.in_ld {k}) h = absurd (false≢true (h refl))
operand-price false l _ _ (IsOperandAt.read_slot {k} {r} e) h = refl
operand-price false l _ _ (IsOperandAt.from_slot {k}) h = refl
operand-price false l _ _ (IsOperandAt.from_b {k}) h = refl
operand-price false l _ _ (IsOperandAt.from_l {k}) h = absurd (false≢true (h refl))
operand-price false l _ _ (IsOperandAt.from_ld {k}) h = absurd (false≢true (h refl))

address-price : (fetched : Bool) (q r : Place) → IsAddressAt q r → ReadFrom fetched q → price fetched Address q r ≡ served_cost q r
address-price true _ _ (IsAddressAt.in_a {k}) h = refl
address-price true _ _ (IsAddressAt.in_b {k}) h = refl
address-price true _ _ (IsAddressAt.from_l {k}) h = refl
address-price true _ _ (IsAddressAt.from_ld {k}) h = refl
address-price true _ _ (IsAddressAt.from_slot {k}) h = refl
address-price false _ _ (IsAddressAt.in_a {k}) h = refl
address-price false _ _ (IsAddressAt.in_b {k}) h = refl
address-price false _ _ (IsAddressAt.from_l {k}) h = absurd (false≢true (h refl))
address-price false _ _ (IsAddressAt.from_ld {k}) h = absurd (false≢true (h refl))
address-price false _ _ (IsAddressAt.from_slot {k}) h = refl

-- a word that is served from a home, and one that is put early
written-price : (fetched : Bool) (m : Mem) (i n : ℕ) (q : Place) → ReadFrom fetched q → is_write_register q ≡ false → price fetched (Written m i) q (write_place m n) ≡ served_cost q (write_place m n)
written-price true Sram i n (place.A k) h w = refl
written-price true Sdram i n (place.A k) h w = refl
written-price true Scratch i n (place.A k) h w = refl
written-price true Sram i n (place.B k) h w = refl
written-price true Sdram i n (place.B k) h w = refl
written-price true Scratch i n (place.B k) h w = refl
written-price true Sram i n (place.L k) h w = refl
written-price true Sdram i n (place.L k) h w = refl
written-price true Scratch i n (place.L k) h w = refl
written-price true Sram i n (place.LD k) h w = refl
written-price true Sdram i n (place.LD k) h w = refl
written-price true Scratch i n (place.LD k) h w = refl
written-price true Sram i n (place.Slot k) h w = refl
written-price true Sdram i n (place.Slot k) h w = refl
written-price true Scratch i n (place.Slot k) h w = refl
written-price false Sram i n (place.A k) h w = refl
written-price false Sdram i n (place.A k) h w = refl
written-price false Scratch i n (place.A k) h w = refl
written-price false Sram i n (place.B k) h w = refl
written-price false Sdram i n (place.B k) h w = refl
written-price false Scratch i n (place.B k) h w = refl
written-price false Sram i n (place.Slot k) h w = refl
written-price false Sdram i n (place.Slot k) h w = refl
written-price false Scratch i n (place.Slot k) h w = refl
written-price false m i n (place.L k) h w = absurd (false≢true (h refl))
written-price false m i n (place.LD k) h w = absurd (false≢true (h refl))
written-price f m i n (place.S k) h w = absurd (false≢true (sym w))
written-price f m i n (place.SD k) h w = absurd (false≢true (sym w))

early-price : (fetched : Bool) (m : Mem) (i n : ℕ) → price fetched (Written m i) (write_place m n) (write_place m n) ≡ served_cost (write_place m n) (write_place m n)
early-price true Sram i n = refl
early-price true Sdram i n = refl
early-price true Scratch i n = refl
early-price false Sram i n = refl
early-price false Sdram i n = refl
early-price false Scratch i n = refl

-- a slot is read into another register than the compiler's own
slot-read : (k r : ℕ) → r < 15 → served_cost (place.Slot k) (place.A r) ≡ 17
slot-read k r l = ap (λ b. if b then 16 else 17) (false_from_ne_true (nat_eq r 15) (λ e. let s = same-number r 15 e in absurd (omega (arith, l, s))))

argument-price : (fetched : Bool) (l i : ℕ) (p : Plan) (q r : Place) → ReadFrom fetched q → is_write_register q ≡ false → IsGeneral p r → price fetched (Argument l i) q r ≡ served_cost q r
argument-price true l i p (place.A k) (place.A j) h w g = refl
argument-price true l i p (place.A k) (place.B j) h w g = refl
argument-price true l i p (place.A k) (place.Slot j) h w g = refl
argument-price true l i p (place.B k) (place.A j) h w g = refl
argument-price true l i p (place.B k) (place.B j) h w g = refl
argument-price true l i p (place.B k) (place.Slot j) h w g = refl
argument-price true l i p (place.L k) (place.A j) h w g = refl
argument-price true l i p (place.L k) (place.B j) h w g = refl
argument-price true l i p (place.L k) (place.Slot j) h w g = refl
argument-price true l i p (place.LD k) (place.A j) h w g = refl
argument-price true l i p (place.LD k) (place.B j) h w g = refl
argument-price true l i p (place.LD k) (place.Slot j) h w g = refl
argument-price true l i p (place.Slot k) (place.A j) h w g = sym (slot-read k j g)
argument-price true l i p (place.Slot k) (place.B j) h w g = refl
argument-price true l i p (place.Slot k) (place.Slot j) h w g = refl
argument-price false l i p (place.A k) (place.A j) h w g = refl
argument-price false l i p (place.A k) (place.B j) h w g = refl
argument-price false l i p (place.A k) (place.Slot j) h w g = refl
argument-price false l i p (place.B k) (place.A j) h w g = refl
argument-price false l i p (place.B k) (place.B j) h w g = refl
argument-price false l i p (place.B k) (place.Slot j) h w g = refl
argument-price false l i p (place.Slot k) (place.A j) h w g = sym (slot-read k j g)
argument-price false l i p (place.Slot k) (place.B j) h w g = refl
argument-price false l i p (place.Slot k) (place.Slot j) h w g = refl
argument-price false l i p (place.L k) r h w g = absurd (false≢true (h refl))
argument-price false l i p (place.LD k) r h w g = absurd (false≢true (h refl))
argument-price f l i p (place.S k) r h w g = absurd (false≢true (sym w))
argument-price f l i p (place.SD k) r h w g = absurd (false≢true (sym w))
argument-price f l i p q (place.L j) h w g = absurd g
argument-price f l i p q (place.LD j) h w g = absurd g
argument-price f l i p q (place.S j) h w g = absurd g
argument-price f l i p q (place.SD j) h w g = absurd g

ending-price : (fetched : Bool) (i : ℕ) (q : Place) → ReadFrom fetched q → is_write_register q ≡ false → i < 15 → price fetched (Ending i) q (place.A i) ≡ served_cost q (place.A i)
ending-price true i (place.A k) h w g = refl
ending-price true i (place.B k) h w g = refl
ending-price true i (place.L k) h w g = refl
ending-price true i (place.LD k) h w g = refl
ending-price true i (place.Slot k) h w g = sym (slot-read k i g)
ending-price false i (place.A k) h w g = refl
ending-price false i (place.B k) h w g = refl
ending-price false i (place.Slot k) h w g = sym (slot-read k i g)
ending-price false i (place.L k) h w g = absurd (false≢true (h refl))
ending-price false i (place.LD k) h w g = absurd (false≢true (h refl))
ending-price f i (place.S k) h w g = absurd (false≢true (sym w))
ending-price f i (place.SD k) h w g = absurd (false≢true (sym w))

-- ---- a use

read-bank : (q : Place) → is_read_register q ≡ true → bank_of q ≡ T
read-bank (place.A k) e = absurd (false≢true e)
read-bank (place.B k) e = absurd (false≢true e)
read-bank (place.L k) e = refl
read-bank (place.LD k) e = refl
read-bank (place.S k) e = absurd (false≢true e)
read-bank (place.SD k) e = absurd (false≢true e)
read-bank (place.Slot k) e = absurd (false≢true e)

home-read : (labels : List Label) (p : Plan) (u : Use) (q : Place) → single labels ≡ true → Fits labels p → In u (uses labels) → is_home p u.value q ≡ true → ReadFrom (is_fetched (origin_of labels u.value)) q
home-read labels p u q s f i e r =
    let v = use-value labels u s i in
    let from = source p v.value.var q (subst (λ x. is_home p x q ≡ true) (sym v.var) e) in
    ap is_fetched (ap (origin_of labels) (sym v.var) ∙ origin-is labels v.value s v.there) ∙ source-fetched labels p v.value q f v.there v.used from (read-bank q r)

not-write : (b c : Bool) → (not b && c) ≡ true → b ≡ false
not-write true c e = absurd (false≢true e)
not-write false c e = refl

home-not-write : (p : Plan) (x : ℕ) (q : Place) → is_home p x q ≡ true → is_write_register q ≡ false
home-not-write p x q e = not-write (is_write_register q) (same_place q (home p x).defined || list_any (same_place q) (home p x).copied) e

not-ending : (r : Role) (j : ℕ) → r ≡ Operand → r ≡ Ending j → ⊥
not-ending r j e f = absurd (cc)

not-address : (j : ℕ) → Address ≡ Ending j → ⊥
not-address j e = absurd (cc)

not-written : (m : Mem) (i j : ℕ) → Written m i ≡ Ending j → ⊥
not-written m i j e = absurd (cc)

not-argument : (l i j : ℕ) → Argument l i ≡ Ending j → ⊥
not-argument l i j e = absurd (cc)

same-ending : (i j : ℕ) → Ending i ≡ Ending j → i ≡ j
same-ending i j e = cc

one-operand : (r : Role) → In r (Operand ∷ []) → r ≡ Operand
one-operand r h = ⊎_elim (λ (e : Operand ≡ r). sym e) (λ z. absurd z) h

two-operands : (r : Role) → In r (Operand ∷ Operand ∷ []) → r ≡ Operand
two-operands r h = ⊎_elim (λ (e : Operand ≡ r). sym e) (λ z. one-operand r z) h

-- an end has at most eight words
ending-low : (labels : List Label) (q : Spot) (j : ℕ) → place_ok labels q ≡ true → In (Ending j) (place_roles q) → j < 8
ending-low labels (Entry k ps) j e h = absurd h
ending-low labels (At (Does (Lit x v))) j e h = absurd h
ending-low labels (At (Does (Una x op y))) j e h = absurd (not-ending (Ending j) j (one-operand (Ending j) h) refl)
ending-low labels (At (Does (Bin x op y z))) j e h = absurd (not-ending (Ending j) j (two-operands (Ending j) h) refl)
ending-low labels (At (Does (Clone xs y))) j e h = absurd h
ending-low labels (At (Does (Read m xs y))) j e h = ⊎_elim (λ (a : Address ≡ Ending j). absurd (not-address j a)) (λ z. absurd z) h
ending-low labels (At (Does (Write m y xs))) j e h = ⊎_elim
    (λ (a : Address ≡ Ending j). absurd (not-address j a))
    (λ (r : In (Ending j) (roles (Written m) 0 xs)). let w = roles-below (Ending j) (Written m) 0 xs r in absurd (not-written m w.0 j w.2))
    h
ending-low labels (At (Forks c x y)) j e h = absurd (not-ending (Ending j) j (two-operands (Ending j) h) refl)
ending-low labels (At (Ends (Jump l xs))) j e h = let w = roles-below (Ending j) (Argument l) 0 xs h in absurd (not-argument l w.0 j w.2)
ending-low labels (At (Ends (Halt n xs))) j e h =
    let w = roles-below (Ending j) Ending 0 xs h in
    let few = leb-true (length xs) 8 e in
    let below = w.1 in
    let same = same-ending w.0 j w.2 in
    omega (arith, few, below, same)

use-ending : (labels : List Label) (u : Use) (j : ℕ) → single labels ≡ true → In u (uses labels) → u.role ≡ Ending j → j < 8
use-ending labels u j s i e =
    let ps = points labels in
    let w = use-point labels u i in
    let sound = each-at (Sound labels (values_among (map (λ (q : Point). q.place) ps)) (uses_among ps)) ps u.point w.point (sound-points labels s) w.at in
    ending-low labels w.point.place j sound.node (subst (λ r. In r (place_roles w.point.place)) e (role-among u.point 0 w.point.uses (place_roles w.point.place) u w.here))

use-price : (labels : List Label) (p : Plan) (u : Use) (role : Role) → single labels ≡ true → Fits labels p → In u (uses labels) → u.role ≡ role → IsServedAt labels p u (served p u) role
    → price (is_fetched (origin_of labels u.value)) role (served p u).from (served p u).at ≡ served_cost (served p u).from (served p u).at
use-price labels p u Operand s f i e h = operand-price (is_fetched (origin_of labels u.value)) _ (served p u).from (served p u).at h.1 (home-read labels p u (served p u).from s f i h.0)
use-price labels p u Address s f i e h = address-price (is_fetched (origin_of labels u.value)) (served p u).from (served p u).at h.1 (home-read labels p u (served p u).from s f i h.0)
use-price labels p u (Written m j) s f i e h =
    let read = is_fetched (origin_of labels u.value) in
    let q = (served p u).from in
    let at : (served p u).at ≡ write_place m (first p u.point + j) = h.0 ∙ word-is p u m j e in
    ⊎_elim
    (λ (a : is_home p u.value q ≡ true). subst (λ r. price read (Written m j) q r ≡ served_cost q r) (sym at) (written-price read m j (first p u.point + j) q (home-read labels p u q s f i a) (home-not-write p u.value q a)))
    (λ (a : q ≡ (served p u).at). subst (λ z. price read (Written m j) z (served p u).at ≡ served_cost z (served p u).at) (sym a) (subst (λ r. price read (Written m j) r r ≡ served_cost r r) (sym at) (early-price read m j (first p u.point + j))))
    h.1
use-price labels p u (Argument l j) s f i e h =
    let read = is_fetched (origin_of labels u.value) in
    let q = (served p u).from in
    subst (λ r. price read (Argument l j) q r ≡ served_cost q r) (sym h.1)
    (argument-price read l j p q (home p (parameter labels l j)).defined (home-read labels p u q s f i h.0) (home-not-write p u.value q h.0) (argument-general labels p u l j s f i e))
use-price labels p u (Ending j) s f i e h =
    let read = is_fetched (origin_of labels u.value) in
    let q = (served p u).from in
    let l = use-ending labels u j s i e in
    subst (λ r. price read (Ending j) q r ≡ served_cost q r) (sym h.1)
    (ending-price read j q (home-read labels p u q s f i h.0) (home-not-write p u.value q h.0) (omega (arith, l)))

pub use-priced : (labels : List Label) (p : Plan) (u : Use) → single labels ≡ true → Fits labels p → In u (uses labels) → use_cost p u ≡ named_cost (chosen labels p) (srv_columns labels u)
use-priced labels p u s f i =
    let a = services-sum labels p u (filter (λ (s : Service). has_bank (is_fetched (origin_of labels u.value)) s.from) (services u.role)) (use-there labels u i) in
    let b = use-price labels p u u.role s f i refl (use-served labels p u f i) in
    sym (a ∙ b)

pub each-priced : (labels : List Label) (p : Plan) (us : List Use) → Each (λ u. use_cost p u ≡ named_cost (chosen labels p) (srv_columns labels u)) us → uses_cost p us ≡ named_cost (chosen labels p) (flat_map (srv_columns labels) us)
each-priced labels p [] h = refl
each-priced labels p (u ∷ us) h =
    let ih = each-priced labels p us h.1 in
    let a = h.0 in
    let c = cost-append (chosen labels p) (srv_columns labels u) (flat_map (srv_columns labels) us) in
    omega (arith, ih, a, c)

pub uses-priced : (labels : List Label) (p : Plan) → single labels ≡ true → Fits labels p → uses_cost p (uses labels) ≡ named_cost (chosen labels p) (flat_map (srv_columns labels) (uses labels))
uses-priced labels p s f = each-priced labels p (uses labels) (each-from (λ u. use_cost p u ≡ named_cost (chosen labels p) (srv_columns labels u)) (uses labels) (λ u i. use-priced labels p u s f i))

-- How many of the columns of a use are on: one way to serve it, or one place where its word is put early.
use Rattle.std.proofs.Common.{◌≡◌, ℕ, ◌+◌, nat_eq, Bool, true, false, not, ◌&&◌, if◌then◌else◌, inl, inr, ⊎_elim, Option, List, [], ◌∷◌, ◌++◌, map, refl, sym, ap, subst, ◌∙◌, arith}
use Rattle.std.proofs.lemmas.List.Elements.{All-contains}
use Rattle.std.proofs.lemmas.Bool.{false≢true, and_parts, and_from, and_left, and_right, not-true, false_from_ne_true}
use Rattle.nv_base.proofs.Sets.{same-number}
use Rattle.nv_base.specs.declared.term.Mem.{Mem}
use Rattle.nv_base.specs.declared.term.Mem.TheVariants.{Sram, Sdram, Scratch}
use Rattle.ssu_ir.specs.Tree.{Label}
use Rattle.ssu_ir.specs.Points.{points}
use Rattle.ssu_ir.specs.Single.{single}
use Rattle.zo_model.specs.Program.{cost_where}
use Rattle.place_plan.specs.declared.place.Place.{Place}
use Rattle.place_plan.specs.declared.place.Place.TheVariants as place
use Rattle.place_plan.specs.Plan.{Plan, home, first, pass}
use Rattle.place_plan.specs.Uses.{Access, accesses, ValueOrigin, Parameter, Result, Fetched, Value, values, Role, Operand, Address, Written, Argument, Ending, Use, uses, is_used}
use Rattle.place_plan.specs.Fits.{read_place, IsGeneral, is_write_register, is_result, IsHome, IsHoused, served, is_early, IsFirst, parameter, IsOperandAt, IsAddressAt, IsServedAt, Fits}
use Rattle.ssu_liveness.proofs.Scoped.{in-itself}
use Rattle.place_plan.proofs.Fitting.{apart-from}
use Rattle.bank_prog_form.specs.declared.column.Bank.{Bank}
use Rattle.bank_prog_form.specs.declared.column.Bank.TheVariants.{A, B, M, T, L, A15, W}
use Rattle.bank_prog_form.specs.declared.column.Column.{Column}
use Rattle.bank_prog_form.specs.declared.column.Column.TheVariants.{DirectWrite, EarlyWrite, Serve}
use Rattle.bank_prog_form.specs.declared.column.Service.{Service}
use Rattle.bank_prog_form.specs.Columns.{origin_of, is_fetched, eight, place_words, beginnings, role_beginnings, services, has_bank}
use Rattle.bank_prog_form.specs.Program.{same_bank}
use Rattle.bank_prog_form.specs.Rows.{srv, dir, ear, early, is_written, is_parameter}
use Rattle.bank_prog.specs.Meaning.{Chosen}
use Rattle.bank_prog_form.proofs.Keys.{bank-true}
use Rattle.reg_assign_reading.specs.inner.Facts.{count, OnlyThere}
use Rattle.reg_assign_reading.specs.inner.Chosen.{bank_of, is_in_bank, operand_bank, preferred_bank, goes_there, chosen}
use Rattle.reg_assign_reading.proofs.Counts.{In, contained-in, some-counted, count-append, map-in}
use Rattle.reg_assign_reading.proofs.FactsValues.{same-use, role-eight}
use Rattle.reg_assign_reading.proofs.FactsThere.{there}
use Rattle.reg_assign_reading.proofs.ChosenHolds.{OnlyAt, only-most}
use Rattle.reg_assign_reading.proofs.ChosenForm.{Placed, chosen-on, use-there, use-served, Housing, early-written, word-is, write-is}
use Rattle.reg_assign_reading.proofs.ChosenThere.{UsePoint, use-point, word-access, access-words, first-begins, place_access, srv-there, dir-there, ear-there}
use Rattle.reg_assign_reading.proofs.ChosenSource.{write-bank, use-value, origin-is, IsSource, source, used-housing, source-fetched, argument-value}

-- ---- counts

pub counts-none : (on : Chosen) (c : ℕ → Column) (rs : List ℕ) → ((r : ℕ) → on (c r) ≡ false) → count on (map c rs) ≡ 0
counts-none on c [] h = refl
counts-none on c (r ∷ rs) h = let ih = counts-none on c rs h in let e = ap (λ b. cost_where b 1) (h r) in omega (arith, ih, e)

pub counts-one : (on : Chosen) (c : ℕ → Column) (g : ℕ) → OnlyAt on c g → In g eight → on (c g) ≡ true → count on (map c eight) ≡ 1
counts-one on c g o i e =
    let most = only-most on c g eight o refl in
    let least = some-counted on (c g) (map c eight) (map-in c g eight i) e in
    omega (arith, most, least)

-- ---- how a use is served

abbrev pub from_bank : Plan → Use → Bank
from_bank p u = bank_of (served p u).from

abbrev pub at_bank : Plan → Use → Bank
at_bank p u = preferred_bank u.role (bank_of (served p u).from) (served p u).at

-- whether the way to serve a use is that from one bank to another
abbrev is_way : Bank → Bank → Service → Bool
is_way h q s = same_bank s.from h && same_bank s.at q

abbrev ways : Bank → Bank → List Service → ℕ
ways h q [] = 0
ways h q (s ∷ ss) = cost_where (is_way h q s) 1 + ways h q ss

-- ---- the use at an operand's number

way-chosen : (labels : List Label) (p : Plan) (u : Use) (s : Service) → In u (uses labels) → chosen labels p (Serve u.point u.operand s.from s.at) ≡ is_way (from_bank p u) (at_bank p u) s
way-chosen labels p u s i = ap (λ (w : Use). is_in_bank s.from (served p u).from && same_bank s.at (preferred_bank w.role (bank_of (served p u).from) (served p u).at)) (use-there labels u i)

dir-chosen : (labels : List Label) (p : Plan) (u : Use) (f : ℕ) → In u (uses labels) → chosen labels p (DirectWrite u.point u.operand f) ≡ (nat_eq (first p u.point) f && (is_early p u && goes_there p u.value))
dir-chosen labels p u f i = ap (λ (w : Use). nat_eq (first p u.point) f && (is_early p u && goes_there p w.value)) (use-there labels u i)

ear-chosen : (labels : List Label) (p : Plan) (u : Use) (f : ℕ) → In u (uses labels) → chosen labels p (EarlyWrite u.point u.operand f) ≡ (nat_eq (first p u.point) f && (is_early p u && not (goes_there p u.value)))
ear-chosen labels p u f i = ap (λ (w : Use). nat_eq (first p u.point) f && (is_early p u && not (goes_there p w.value))) (use-there labels u i)

-- ---- from where a use is served

from-source : (labels : List Label) (p : Plan) (u : Use) (role : Role) → u.role ≡ role → IsServedAt labels p u (served p u) role → is_early p u ≡ false → IsSource p u.value (served p u).from
from-source labels p u Operand r h e = source p u.value (served p u).from h.0
from-source labels p u Address r h e = source p u.value (served p u).from h.0
from-source labels p u (Written m i) r h e = ⊎_elim
    (λ a. source p u.value (served p u).from a)
    (λ (b : (served p u).from ≡ (served p u).at).
    absurd (false≢true (sym e ∙ ap is_write_register (b ∙ h.0 ∙ word-is p u m i r) ∙ write-is m (first p u.point + i))))
    h.1
from-source labels p u (Argument l i) r h e = source p u.value (served p u).from h.0
from-source labels p u (Ending i) r h e = source p u.value (served p u).from h.0

pub use-source : (labels : List Label) (p : Plan) (u : Use) → Fits labels p → In u (uses labels) → is_early p u ≡ false → IsSource p u.value (served p u).from
use-source labels p u f i e = from-source labels p u u.role refl (use-served labels p u f i) e

early-bank : (p : Plan) (u : Use) → is_early p u ≡ true → from_bank p u ≡ W
early-bank p u e = write-bank (served p u).from e

-- a use is served from a read register where its value is read
pub from-fetched : (labels : List Label) (p : Plan) (u : Use) → single labels ≡ true → Fits labels p → In u (uses labels) → from_bank p u ≡ T → is_fetched (origin_of labels u.value) ≡ true
from-fetched labels p u s f i t =
    let v = use-value labels u s i in
    let kept : is_early p u ≡ false = false_from_ne_true (is_early p u) (λ e. absurd (let w : T ≡ W = sym t ∙ early-bank p u e in cc)) in
    let src : IsSource p v.value.var (served p u).from = subst (λ x. IsSource p x (served p u).from) (sym v.var) (use-source labels p u f i kept) in
    ap (λ x. is_fetched (origin_of labels x)) (sym v.var)
    ∙ ap is_fetched (origin-is labels v.value s v.there)
    ∙ source-fetched labels p v.value (served p u).from f v.there v.used src t

-- ---- the ways to serve a use

without-bank : (fetched : Bool) (h : Bank) → has_bank fetched h ≡ false → (h ≡ T) × (fetched ≡ false)
without-bank f A e = absurd (false≢true (sym e))
without-bank f B e = absurd (false≢true (sym e))
without-bank f M e = absurd (false≢true (sym e))
without-bank f T e = (refl, e)
without-bank f L e = absurd (false≢true (sym e))
without-bank f A15 e = absurd (false≢true (sym e))
without-bank f W e = absurd (false≢true (sym e))

way-off : (labels : List Label) (on : Chosen) (u : Use) (s : Service) → OnlyThere labels on → In u (uses labels) → has_bank (is_fetched (origin_of labels u.value)) s.from ≡ false → on (Serve u.point u.operand s.from s.at) ≡ false
way-off labels on u s only i b = false_from_ne_true (on (Serve u.point u.operand s.from s.at)) (λ e.
    let t = there labels on (Serve u.point u.operand s.from s.at) only e in
    let same : t.use_ ≡ u = same-use (uses labels) u t.use_ (apart-from 0 (points labels)) i t.there t.point t.operand in
    let c = subst (λ h. has_bank (is_fetched (origin_of labels u.value)) h ≡ true) t.from (subst (λ (z : Use). has_bank (is_fetched (origin_of labels z.value)) t.service.from ≡ true) same t.bank) in
    false≢true (sym b ∙ c))

pub way-on : (labels : List Label) (p : Plan) (on : Chosen) (u : Use) (s : Service) → Placed labels p on → In u (uses labels) → In s (services u.role) → on (Serve u.point u.operand s.from s.at) ≡ is_way (from_bank p u) (at_bank p u) s
way-on labels p on u s g i j = by (has_bank (is_fetched (origin_of labels u.value)) s.from) refl
  where
    by : (b : Bool) → has_bank (is_fetched (origin_of labels u.value)) s.from ≡ b → on (Serve u.point u.operand s.from s.at) ≡ is_way (from_bank p u) (at_bank p u) s
    by true b = g.is.same (Serve u.point u.operand s.from s.at) (srv-there labels u s i j b) ∙ way-chosen labels p u s i
    by false b =
        let w = without-bank (is_fetched (origin_of labels u.value)) s.from b in
        let apart : same_bank s.from (from_bank p u) ≡ false = false_from_ne_true (same_bank s.from (from_bank p u)) (λ e.
        let t : from_bank p u ≡ T = sym (bank-true s.from (from_bank p u) e) ∙ w.0 in
        false≢true (sym w.1 ∙ from-fetched labels p u g.form g.fits i t)) in
        way-off labels on u s g.is.only i b ∙ sym (ap (λ c. c && same_bank s.at (at_bank p u)) apart)

ways-count : (on : Chosen) (u : Use) (h q : Bank) (ss : List Service) → ((s : Service) → In s ss → on (Serve u.point u.operand s.from s.at) ≡ is_way h q s) → count on (map (λ (s : Service). Serve u.point u.operand s.from s.at) ss) ≡ ways h q ss
ways-count on u h q [] f = refl
ways-count on u h q (s ∷ ss) f =
    ap (λ b. cost_where b 1 + count on (map (λ (s : Service). Serve u.point u.operand s.from s.at) ss)) (f s (inl refl))
    ∙ ap (λ n. cost_where (is_way h q s) 1 + n) (ways-count on u h q ss (λ t i. f t (inr i)))

srv-count : (labels : List Label) (p : Plan) (on : Chosen) (u : Use) → Placed labels p on → In u (uses labels) → count on (srv u) ≡ ways (from_bank p u) (at_bank p u) (services u.role)
srv-count labels p on u g i = ways-count on u (from_bank p u) (at_bank p u) (services u.role) (λ s j. way-on labels p on u s g i j)

operand-one : (l : Option ℕ) (f a : Place) → IsOperandAt l f a → ways (bank_of f) (operand_bank (bank_of f) a) (services Operand) ≡ 1
operand-one l _ _ (IsOperandAt.in_a {k}) = refl
operand-one l _ _ (IsOperandAt.in_b {k}) = refl
operand-one l _ _ (IsOperandAt.in_l {k}) = refl
operand-one l _ _ (IsOperandAt.in_ld {k}) = refl
operand-one l _ _ (IsOperandAt.read_slot {k} {r} e) = refl
operand-one l _ _ (IsOperandAt.from_slot {k}) = refl
operand-one l _ _ (IsOperandAt.from_b {k}) = refl
operand-one l _ _ (IsOperandAt.from_l {k}) = refl
operand-one l _ _ (IsOperandAt.from_ld {k}) = refl

address-one : (f a : Place) → IsAddressAt f a → ways (bank_of f) (operand_bank (bank_of f) a) (services Address) ≡ 1
address-one _ _ (IsAddressAt.in_a {k}) = refl
address-one _ _ (IsAddressAt.in_b {k}) = refl
address-one _ _ (IsAddressAt.from_l {k}) = refl
address-one _ _ (IsAddressAt.from_ld {k}) = refl
address-one _ _ (IsAddressAt.from_slot {k}) = refl

-- a bank from which words come that aren't put early
abbrev is_lasting : Bank → Bool
is_lasting A = true
is_lasting B = true
is_lasting M = true
is_lasting T = true
is_lasting _ = false

abbrev is_home_bank : Bank → Bool
is_home_bank A = true
is_home_bank B = true
is_home_bank M = true
is_home_bank _ = false

lasting : (q : Place) → is_write_register q ≡ false → is_lasting (bank_of q) ≡ true
lasting (place.A k) e = refl
lasting (place.B k) e = refl
lasting (place.L k) e = refl
lasting (place.LD k) e = refl
lasting (place.S k) e = absurd (false≢true (sym e))
lasting (place.SD k) e = absurd (false≢true (sym e))
lasting (place.Slot k) e = refl

general-home : (p : Plan) (q : Place) → IsGeneral p q → is_home_bank (bank_of q) ≡ true
general-home p (place.A k) g = refl
general-home p (place.B k) g = refl
general-home p (place.Slot k) g = refl
general-home p (place.L k) g = absurd g
general-home p (place.LD k) g = absurd g
general-home p (place.S k) g = absurd g
general-home p (place.SD k) g = absurd g

written-one : (m : Mem) (i : ℕ) (h : Bank) → is_lasting h ≡ true → ways h W (services (Written m i)) ≡ 1
written-one m i A e = refl
written-one m i B e = refl
written-one m i M e = refl
written-one m i T e = refl
written-one m i L e = absurd (false≢true e)
written-one m i A15 e = absurd (false≢true e)
written-one m i W e = absurd (false≢true e)

ending-one : (i : ℕ) (h : Bank) → is_lasting h ≡ true → ways h A (services (Ending i)) ≡ 1
ending-one i A e = refl
ending-one i B e = refl
ending-one i M e = refl
ending-one i T e = refl
ending-one i L e = absurd (false≢true e)
ending-one i A15 e = absurd (false≢true e)
ending-one i W e = absurd (false≢true e)

argument-one : (l i : ℕ) (h q : Bank) → (is_lasting h && is_home_bank q) ≡ true → ways h q (services (Argument l i)) ≡ 1
argument-one l i A A e = refl
argument-one l i B A e = refl
argument-one l i M A e = refl
argument-one l i T A e = refl
argument-one l i A B e = refl
argument-one l i B B e = refl
argument-one l i M B e = refl
argument-one l i T B e = refl
argument-one l i A M e = refl
argument-one l i B M e = refl
argument-one l i M M e = refl
argument-one l i T M e = refl
argument-one l i _ _ e = absurd (false≢true e)

pub parameter-general : (labels : List Label) (p : Plan) (v : Value) → Fits labels p → In v (values labels) → is_parameter v.origin ≡ true → IsGeneral p (home p v.var).defined
parameter-general labels p v f i e = by v.origin e (All-contains (IsHoused labels p) (values labels) v f.values (contained-in v (values labels) i))
  where
    by : (s : ValueOrigin) → is_parameter s ≡ true → IsHome labels p v (home p v.var) s → IsGeneral p (home p v.var).defined
    by (Parameter l j) e h = h.0
    by Result e h = absurd (false≢true e)
    by (Fetched m j) e h = absurd (false≢true e)

pub argument-general : (labels : List Label) (p : Plan) (u : Use) (l i : ℕ) → single labels ≡ true → Fits labels p → In u (uses labels) → u.role ≡ Argument l i → IsGeneral p (home p (parameter labels l i)).defined
argument-general labels p u l i s f j e =
    let v = argument-value labels u l i s j e in
    subst (λ x. IsGeneral p (home p x).defined) v.2 (parameter-general labels p v.0 f v.1 v.3)

one-way : (labels : List Label) (p : Plan) (u : Use) (role : Role) → u.role ≡ role → single labels ≡ true → Fits labels p → In u (uses labels) → IsServedAt labels p u (served p u) role → is_early p u ≡ false
    → ways (from_bank p u) (preferred_bank role (from_bank p u) (served p u).at) (services role) ≡ 1
one-way labels p u Operand r s f i h e = operand-one (pass p u.point).l (served p u).from (served p u).at h.1
one-way labels p u Address r s f i h e = address-one (served p u).from (served p u).at h.1
one-way labels p u (Written m j) r s f i h e = written-one m j (from_bank p u) (lasting (served p u).from e)
one-way labels p u (Argument l j) r s f i h e =
    argument-one l j (from_bank p u) (bank_of (served p u).at)
    (and_from (is_lasting (from_bank p u)) (is_home_bank (bank_of (served p u).at)) (lasting (served p u).from e)
    (general-home p (served p u).at (subst (IsGeneral p) (sym h.1) (argument-general labels p u l j s f i r))))
one-way labels p u (Ending j) r s f i h e = ending-one j (from_bank p u) (lasting (served p u).from e)

-- ---- words that are put early

dir-off : (labels : List Label) (p : Plan) (on : Chosen) (u : Use) → Placed labels p on → In u (uses labels) → (is_early p u && goes_there p u.value) ≡ false → (f : ℕ) → on (DirectWrite u.point u.operand f) ≡ false
dir-off labels p on u g i n f = false_from_ne_true (on (DirectWrite u.point u.operand f)) (λ e.
    let w = and_parts (nat_eq (first p u.point) f) (is_early p u && goes_there p u.value) (sym (dir-chosen labels p u f i) ∙ chosen-on labels p on g (DirectWrite u.point u.operand f) e) in
    false≢true (sym n ∙ w.1))

ear-off : (labels : List Label) (p : Plan) (on : Chosen) (u : Use) → Placed labels p on → In u (uses labels) → (is_early p u && not (goes_there p u.value)) ≡ false → (f : ℕ) → on (EarlyWrite u.point u.operand f) ≡ false
ear-off labels p on u g i n f = false_from_ne_true (on (EarlyWrite u.point u.operand f)) (λ e.
    let w = and_parts (nat_eq (first p u.point) f) (is_early p u && not (goes_there p u.value)) (sym (ear-chosen labels p u f i) ∙ chosen-on labels p on g (EarlyWrite u.point u.operand f) e) in
    false≢true (sym n ∙ w.1))

pub dir-at : (labels : List Label) (p : Plan) (on : Chosen) (u : Use) → Placed labels p on → In u (uses labels) → OnlyAt on (DirectWrite u.point u.operand) (first p u.point)
dir-at labels p on u g i f e =
    let w = and_parts (nat_eq (first p u.point) f) (is_early p u && goes_there p u.value) (sym (dir-chosen labels p u f i) ∙ chosen-on labels p on g (DirectWrite u.point u.operand f) e) in
    sym (same-number (first p u.point) f w.0)

pub ear-at : (labels : List Label) (p : Plan) (on : Chosen) (u : Use) → Placed labels p on → In u (uses labels) → OnlyAt on (EarlyWrite u.point u.operand) (first p u.point)
ear-at labels p on u g i f e =
    let w = and_parts (nat_eq (first p u.point) f) (is_early p u && not (goes_there p u.value)) (sym (ear-chosen labels p u f i) ∙ chosen-on labels p on g (EarlyWrite u.point u.operand f) e) in
    sym (same-number (first p u.point) f w.0)

pub dir-goes : (labels : List Label) (p : Plan) (on : Chosen) (u : Use) → Placed labels p on → In u (uses labels) → (f : ℕ) → on (DirectWrite u.point u.operand f) ≡ true → goes_there p u.value ≡ true
dir-goes labels p on u g i f e =
    let w = and_parts (nat_eq (first p u.point) f) (is_early p u && goes_there p u.value) (sym (dir-chosen labels p u f i) ∙ chosen-on labels p on g (DirectWrite u.point u.operand f) e) in
    (and_parts (is_early p u) (goes_there p u.value) w.1).1

-- a word that is copied early waits, and isn't put there by the definition of its value
pub ear-on : (labels : List Label) (p : Plan) (on : Chosen) (u : Use) → Placed labels p on → In u (uses labels) → (f : ℕ) → on (EarlyWrite u.point u.operand f) ≡ true → (is_early p u ≡ true) × (goes_there p u.value ≡ false)
ear-on labels p on u g i f e =
    let w = and_parts (nat_eq (first p u.point) f) (is_early p u && not (goes_there p u.value)) (sym (ear-chosen labels p u f i) ∙ chosen-on labels p on g (EarlyWrite u.point u.operand f) e) in
    let v = and_parts (is_early p u) (not (goes_there p u.value)) w.1 in
    (v.0, not-true (goes_there p u.value) v.1)

-- where the write of a written word begins
pub word-begins : (labels : List Label) (p : Plan) (u : Use) (m : Mem) (j : ℕ) (w : UsePoint labels u) → single labels ≡ true → Fits labels p → u.role ≡ Written m j → In (first p u.point) (beginnings m (place_words w.point.place))
word-begins labels p u m j w s f e =
    let a = place_access u.point m w.point.place in
    let i = word-access labels u m j w e in
    first-begins m (place_words w.point.place) (first p u.point) (access-words labels a s i)
    (All-contains (λ (a : Access). IsFirst a.mem a.words (first p a.point)) (accesses labels) a f.registers (contained-in a (accesses labels) i))

early-begins : (labels : List Label) (p : Plan) (u : Use) (w : UsePoint labels u) → single labels ≡ true → Fits labels p → In u (uses labels) → is_early p u ≡ true → In (first p u.point) (role_beginnings (place_words w.point.place) u.role)
early-begins labels p u w s f i e =
    let r = early-written labels p u f i e in
    subst (λ z. In (first p u.point) (role_beginnings (place_words w.point.place) z)) (sym r.2) (word-begins labels p u r.0 r.1 w s f r.2)

pub general-not-write : (p : Plan) (q : Place) → IsGeneral p q → is_write_register q ≡ false
general-not-write p (place.A k) g = refl
general-not-write p (place.B k) g = refl
general-not-write p (place.Slot k) g = refl
general-not-write p (place.L k) g = absurd g
general-not-write p (place.LD k) g = absurd g
general-not-write p (place.S k) g = absurd g
general-not-write p (place.SD k) g = absurd g

pub read-not-write : (m : Mem) (k : ℕ) → is_write_register (read_place m k) ≡ false
read-not-write Sram k = refl
read-not-write Sdram k = refl
read-not-write Scratch k = refl

-- a value that its definition puts into a write register is a result
pub goes-result : (labels : List Label) (p : Plan) (v : Value) → single labels ≡ true → Fits labels p → In v (values labels) → is_used labels v.var ≡ true → goes_there p v.var ≡ true → is_result (origin_of labels v.var) ≡ true
goes-result labels p v s f i u e = by (used-housing labels p v f i u)
  where
    by : Housing labels p v → is_result (origin_of labels v.var) ≡ true
    by (Housing.put_general n g c) = absurd (false≢true (sym (general-not-write p (home p v.var).defined g) ∙ e))
    by (Housing.put_read m k r d c) = absurd (false≢true (sym (ap is_write_register d ∙ read-not-write m (first p v.point + k)) ∙ e))
    by (Housing.put_early r w) = ap is_result (origin-is labels v s i ∙ r)

use-result : (labels : List Label) (p : Plan) (u : Use) → single labels ≡ true → Fits labels p → In u (uses labels) → goes_there p u.value ≡ true → is_result (origin_of labels u.value) ≡ true
use-result labels p u s f i e =
    let v = use-value labels u s i in
    subst (λ x. is_result (origin_of labels x) ≡ true) v.var (goes-result labels p v.value s f v.there v.used (subst (λ x. goes_there p x ≡ true) (sym v.var) e))

pub dir-one : (labels : List Label) (p : Plan) (on : Chosen) (u : Use) → Placed labels p on → In u (uses labels) → is_early p u ≡ true → goes_there p u.value ≡ true → count on (dir u) ≡ 1
dir-one labels p on u g i e t =
    let w = use-point labels u i in
    let f = first p u.point in
    let b = early-begins labels p u w g.form g.fits i e in
    counts-one on (DirectWrite u.point u.operand) f (dir-at labels p on u g i) (role-eight (place_words w.point.place) f u.role b)
    (g.is.same (DirectWrite u.point u.operand f) (dir-there labels u f w (use-result labels p u g.form g.fits i t) b) ∙ dir-chosen labels p u f i
    ∙ and_from (nat_eq f f) (is_early p u && goes_there p u.value) (in-itself f) (and_from (is_early p u) (goes_there p u.value) e t))

ear-one : (labels : List Label) (p : Plan) (on : Chosen) (u : Use) → Placed labels p on → In u (uses labels) → is_early p u ≡ true → goes_there p u.value ≡ false → count on (ear u) ≡ 1
ear-one labels p on u g i e t =
    let w = use-point labels u i in
    let f = first p u.point in
    let b = early-begins labels p u w g.form g.fits i e in
    counts-one on (EarlyWrite u.point u.operand) f (ear-at labels p on u g i) (role-eight (place_words w.point.place) f u.role b)
    (g.is.same (EarlyWrite u.point u.operand f) (ear-there labels u f w b) ∙ ear-chosen labels p u f i
    ∙ and_from (nat_eq f f) (is_early p u && not (goes_there p u.value)) (in-itself f) (and_from (is_early p u) (not (goes_there p u.value)) e (ap not t)))

pub dir-none : (labels : List Label) (p : Plan) (on : Chosen) (u : Use) → Placed labels p on → In u (uses labels) → goes_there p u.value ≡ false → count on (dir u) ≡ 0
dir-none labels p on u g i t = counts-none on (DirectWrite u.point u.operand) eight (dir-off labels p on u g i (and_right (is_early p u) (goes_there p u.value) t))

both-count : (labels : List Label) (p : Plan) (on : Chosen) (u : Use) → Placed labels p on → In u (uses labels) → is_early p u ≡ true → count on (dir u ++ ear u) ≡ 1
both-count labels p on u g i e = by (goes_there p u.value) refl
  where
    by : (b : Bool) → goes_there p u.value ≡ b → count on (dir u ++ ear u) ≡ 1
    by true t =
        let a = count-append on (dir u) (ear u) in
        let d = dir-one labels p on u g i e t in
        let r = counts-none on (EarlyWrite u.point u.operand) eight (ear-off labels p on u g i (and_right (is_early p u) (not (goes_there p u.value)) (ap not t))) in
        omega (arith, a, d, r)
    by false t =
        let a = count-append on (dir u) (ear u) in
        let d = dir-none labels p on u g i t in
        let r = ear-one labels p on u g i e t in
        omega (arith, a, d, r)

none-count : (labels : List Label) (p : Plan) (on : Chosen) (u : Use) → Placed labels p on → In u (uses labels) → is_early p u ≡ false → count on (dir u ++ ear u) ≡ 0
none-count labels p on u g i e =
    let a = count-append on (dir u) (ear u) in
    let d = counts-none on (DirectWrite u.point u.operand) eight (dir-off labels p on u g i (and_left (is_early p u) (goes_there p u.value) e)) in
    let r = counts-none on (EarlyWrite u.point u.operand) eight (ear-off labels p on u g i (and_left (is_early p u) (not (goes_there p u.value)) e)) in
    omega (arith, a, d, r)

if-none : (on : Chosen) (b : Bool) (cs : List Column) → count on cs ≡ 0 → count on (if b then cs else []) ≡ 0
if-none on true cs e = e
if-none on false cs e = refl

if-one : (on : Chosen) (b : Bool) (cs : List Column) → b ≡ true → count on cs ≡ 1 → count on (if b then cs else []) ≡ 1
if-one on true cs t e = e
if-one on false cs t e = absurd (false≢true t)

none-written : (m : Mem) (j : ℕ) (q : Bank) → ways W q (services (Written m j)) ≡ 0
none-written m j q = refl

-- one way to serve it, or one place where its word is put early
pub use-once : (labels : List Label) (p : Plan) (on : Chosen) (u : Use) → Placed labels p on → In u (uses labels) → count on (srv u ++ early u) ≡ 1
use-once labels p on u g i = by (is_early p u) refl
  where
    by : (b : Bool) → is_early p u ≡ b → count on (srv u ++ early u) ≡ 1
    by true e =
        let r = early-written labels p u g.fits i e in
        let a = count-append on (srv u) (early u) in
        let s : count on (srv u) ≡ 0 =
        srv-count labels p on u g i ∙ ap (λ h. ways h (at_bank p u) (services u.role)) (early-bank p u e) ∙ ap (λ z. ways W (at_bank p u) (services z)) r.2 ∙ none-written r.0 r.1 (at_bank p u) in
        let d = if-one on (is_written u.role) (dir u ++ ear u) (ap is_written r.2) (both-count labels p on u g i e) in
        omega (arith, a, s, d)
    by false e =
        let a = count-append on (srv u) (early u) in
        let s : count on (srv u) ≡ 1 = srv-count labels p on u g i ∙ one-way labels p u u.role refl g.form g.fits i (use-served labels p u g.fits i) e in
        let d = if-none on (is_written u.role) (dir u ++ ear u) (none-count labels p on u g i e) in
        omega (arith, a, s, d)

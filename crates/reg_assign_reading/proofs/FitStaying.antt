-- Where a use is served from a read register its value stays there; where it is served from a slot its value is in one.
use Rattle.std.proofs.Common.{◌≡◌, ◌≢◌, ℕ, ◌+◌, true, false, Option, Some, None, List, refl, sym, ap, subst, ◌∙◌, arith}
use Rattle.std.proofs.lemmas.Bool.{false≢true}
use Rattle.std.specs.Prelude.{All}
use Rattle.std.proofs.lemmas.List.Elements.{All-contains}
use Rattle.nv_base.specs.Sets.{is_in}
use Rattle.nv_base.specs.declared.term.Mem.TheVariants.{Sram, Sdram, Scratch}
use Rattle.ssu_ir.specs.Tree.{Label}
use Rattle.place_plan.specs.declared.place.Serve.{Serve}
use Rattle.place_plan.specs.Plan.{Home}
use Rattle.place_plan.specs.Uses.{ValueOrigin, Parameter, Result, Fetched, Value, values, Role, Operand, Address, Written, Argument, Ending, Use, uses, uses_of, is_used}
use Rattle.place_plan.specs.Fits.{is_slot, is_read_register, served, stays, wants_home}
use Rattle.place_plan.proofs.Slotted.{read-no-slot}
use Rattle.place_plan.proofs.Spilled.{used-wants}
use Rattle.bank_prog_form.specs.declared.column.Bank.{Bank}
use Rattle.bank_prog_form.specs.declared.column.Bank.TheVariants.{A, B, M, T, L, A15, W}
use Rattle.bank_prog_form.specs.declared.column.Column.TheVariants.{Stay, Serve as ServeColumn}
use Rattle.bank_prog_form.specs.declared.column.Service.{Service}
use Rattle.bank_prog_form.specs.Columns.{eight, origin_of, is_fetched, services}
use Rattle.bank_prog_form.specs.Rows.{homes, srv, early, is_written}
use Rattle.bank_prog.specs.Meaning.{Chosen}
use Rattle.reg_assign_reading.specs.inner.Facts.{count, UseFacts}
use Rattle.reg_assign_reading.specs.ReadOff.{Numbers, begins, service_on, role_place, origin_place, place_in, origin_home, bank_place, serve_by, use_serve, AreApart, read_off}
use Rattle.reg_assign_reading.proofs.Counts.{In, contained-in, each-in}
use Rattle.reg_assign_reading.proofs.FactsValues.{used-of}
use Rattle.reg_assign_reading.proofs.ReadParts.{count-any, IsFound}
use Rattle.reg_assign_reading.proofs.FitWords.{service-each, service-none, early-written}
use Rattle.reg_assign_reading.proofs.FitHoused.{is_source, all-sources}
use Rattle.reg_assign_reading.proofs.FitServed.{IsReadPlace}
use Rattle.reg_assign_reading.proofs.FitHeld.{NumbersApart, Staying}
use Rattle.reg_assign_reading.proofs.FitRead.{any-in, IsValue, place-found, Reading, value-facts-of, use-facts-of, home-is, begins-of}
use Rattle.reg_assign_reading.proofs.CostValues.{home-in}

-- ---- read values

origin-read-place : (on : Chosen) (k : ℕ) (origin : ValueOrigin) → is_fetched origin ≡ true → IsReadPlace (origin_place on k origin)
origin-read-place on k (Parameter l i) e = absurd (false≢true e)
origin-read-place on k Result e = absurd (false≢true e)
origin-read-place on k (Fetched m i) e = record { mem = m; number = begins on k + i; is = refl }

-- the register of a read value is a read register
pub read-place : (labels : List Label) (slots : ℕ) (on : Chosen) (numbers : Numbers) (hs : List Home) → Reading labels slots on numbers hs → (x : ℕ) → IsValue labels x → is_fetched (origin_of labels x) ≡ true → IsReadPlace (place_in on (values labels) x)
read-place labels slots on numbers hs g x w e =
    let v = w.value in
    let s : origin_of labels x ≡ v.origin = ap (origin_of labels) (sym w.var) ∙ (value-facts-of labels slots on numbers hs g v w.among).origin in
    let is : place_in on (values labels) x ≡ origin_place on v.point v.origin = ap (place_in on (values labels)) (sym w.var) ∙ place-found on (values labels) v g.different w.among in
    subst IsReadPlace (sym is) (origin-read-place on v.point v.origin (ap is_fetched (sym s) ∙ e))

-- ---- where a use is served from

no-read-role : (on : Chosen) (k : ℕ) (role : Role) → is_read_register (role_place on k role) ≡ false
no-read-role on k Operand = refl
no-read-role on k Address = refl
no-read-role on k (Written Sram i) = refl
no-read-role on k (Written Sdram i) = refl
no-read-role on k (Written Scratch i) = refl
no-read-role on k (Argument l i) = refl
no-read-role on k (Ending i) = refl

pub no-slot-role : (on : Chosen) (k : ℕ) (role : Role) → is_written role ≡ true → is_slot (role_place on k role) ≡ false
no-slot-role on k Operand e = absurd (false≢true e)
no-slot-role on k Address e = absurd (false≢true e)
no-slot-role on k (Written Sram i) e = refl
no-slot-role on k (Written Sdram i) e = refl
no-slot-role on k (Written Scratch i) e = refl
no-slot-role on k (Argument l i) e = absurd (false≢true e)
no-slot-role on k (Ending i) e = absurd (false≢true e)

read-bank : (labels : List Label) (on : Chosen) (numbers : Numbers) (u : Use) (h : Bank) → is_source h ≡ true → is_read_register (bank_place labels on numbers u h) ≡ true → h ≡ T
read-bank labels on numbers u A s e = absurd (false≢true e)
read-bank labels on numbers u B s e = absurd (false≢true e)
read-bank labels on numbers u M s e = absurd (false≢true e)
read-bank labels on numbers u T s e = refl
read-bank labels on numbers u L s e = absurd (false≢true s)
read-bank labels on numbers u A15 s e = absurd (false≢true s)
read-bank labels on numbers u W s e = absurd (false≢true s)

slot-bank : (labels : List Label) (on : Chosen) (numbers : Numbers) (u : Use) (h : Bank) → is_source h ≡ true → (h ≡ T → IsReadPlace (place_in on (values labels) u.value)) → is_slot (bank_place labels on numbers u h) ≡ true → h ≡ M
slot-bank labels on numbers u A s r e = absurd (false≢true e)
slot-bank labels on numbers u B s r e = absurd (false≢true e)
slot-bank labels on numbers u M s r e = refl
slot-bank labels on numbers u T s r e = let w = r refl in absurd (false≢true (sym (ap is_slot w.is ∙ read-no-slot w.mem w.number) ∙ e))
slot-bank labels on numbers u L s r e = absurd (false≢true s)
slot-bank labels on numbers u A15 s r e = absurd (false≢true s)
slot-bank labels on numbers u W s r e = absurd (false≢true s)

-- a use is served from this bank
record IsFrom (on : Chosen) (u : Use) (h : Bank) : Type 0 where
  at : Bank
  chosen : on (ServeColumn u.point u.operand h at) ≡ true

from-bank : (on : Chosen) (u : Use) (h g p : Bank) → h ≡ g → on (ServeColumn u.point u.operand h p) ≡ true → IsFrom on u g
from-bank on u h g p e o = record { at = p; chosen = subst (λ b. on (ServeColumn u.point u.operand b p) ≡ true) e o }

from-read : (labels : List Label) (on : Chosen) (numbers : Numbers) (u : Use) → is_read_register (use_serve labels on numbers u).from ≡ true → IsFrom on u T
from-read labels on numbers u r = pick (service_on on u (services u.role)) refl r
  where
    pick : (o : Option Service) → service_on on u (services u.role) ≡ o → is_read_register (serve_by labels on numbers u o).from ≡ true → IsFrom on u T
    pick (Some s) e f =
        let w = service-each on u (λ (t : Service). is_source t.from ≡ true) (services u.role) s (all-sources u.role) e in
        from-bank on u s.from T s.at (read-bank labels on numbers u s.from w.0 f) w.1
    pick None e f = absurd (false≢true (sym (no-read-role on u.point u.role) ∙ f))

-- ---- a value whose use is served from a read register

-- the read register of a value is given by the register at which its read begins
staying-by : (labels : List Label) (slots : ℕ) (on : Chosen) (numbers : Numbers) (hs : List Home) → Reading labels slots on numbers hs → (v : Value) → In v (values labels) → (origin : ValueOrigin) → v.origin ≡ origin → is_fetched origin ≡ true → is_used labels v.var ≡ true
    → (f : ℕ) → on (Stay v.var f) ≡ true → Staying labels (read_off labels slots on numbers hs) on v.var
staying-by labels slots on numbers hs g v i (Parameter l j) e r u f o = absurd (false≢true r)
staying-by labels slots on numbers hs g v i Result e r u f o = absurd (false≢true r)
staying-by labels slots on numbers hs g v i (Fetched m j) e r u f o =
    let facts = value-facts-of labels slots on numbers hs g v i in
    let wants : wants_home labels v ≡ true = used-wants (is_used labels v.var) v.origin u in
    let begun : begins on v.point ≡ f = begins-of labels slots on numbers hs g v.point f (facts.stays f o) in
    record {
      mem = m;
      number = begins on v.point + j;
      place_is = ap (λ (h : Home). h.defined) (home-is labels slots on numbers hs g v i wants) ∙ ap (λ s. (origin_home labels on numbers v.point v.var s).defined) e;
      stays_in = record { mem = m; word = j; first = f; origin = facts.origin ∙ e; side = refl; chosen = o; register = ap (λ n. n + j) begun };
    }

-- what is known of a use by which its value stays
record IsStay (labels : List Label) (on : Chosen) (numbers : Numbers) (x : ℕ) : Type 0 where
  use_ : Use
  among : In use_ (uses labels)
  value : use_.value ≡ x
  used : is_used labels x ≡ true
  from : is_read_register (use_serve labels on numbers use_).from ≡ true

stay-use : (labels : List Label) (slots : ℕ) (on : Chosen) (numbers : Numbers) (hs : List Home) → Reading labels slots on numbers hs → (x : ℕ) → stays labels (read_off labels slots on numbers hs) x ≡ true → IsStay labels on numbers x
stay-use labels slots on numbers hs g x e =
    let p = read_off labels slots on numbers hs in
    let w = any-in (λ (u : Use). is_read_register (served p u).from) (uses_of labels x) e in
    let o = used-of labels w.0 x w.1 in
    let found : IsFound labels on numbers (uses labels) w.0 = each-in (IsFound labels on numbers (uses labels)) w.0 (uses labels) g.found o.0 in
    record { use_ = w.0; among = o.0; value = o.1; used = o.2; from = ap (λ (s : Serve). is_read_register s.from) (sym found) ∙ w.2 }

pub staying : (labels : List Label) (slots : ℕ) (on : Chosen) (numbers : Numbers) (hs : List Home) → Reading labels slots on numbers hs → (x : ℕ) → stays labels (read_off labels slots on numbers hs) x ≡ true → Staying labels (read_off labels slots on numbers hs) on x
staying labels slots on numbers hs g x e =
    let s = stay-use labels slots on numbers hs g x e in
    let u = s.use_ in
    let t = from-read labels on numbers u s.from in
    let inside = (use-facts-of labels slots on numbers hs g u s.among).served T t.at t.chosen in
    let w : IsValue labels x = subst (IsValue labels) s.value (each-in (λ (z : Use). IsValue labels z.value) u (uses labels) g.used s.among) in
    let v = w.value in
    let same : u.value ≡ v.var = s.value ∙ sym w.var in
    let fetched : is_fetched v.origin ≡ true = ap is_fetched (sym (value-facts-of labels slots on numbers hs g v w.among).origin) ∙ ap (λ y. is_fetched (origin_of labels y)) (sym same) ∙ inside.0 in
    let r = any-in (λ f. on (Stay u.value f)) eight inside.1 in
    subst (Staying labels (read_off labels slots on numbers hs) on) w.var
    (staying-by labels slots on numbers hs g v w.among v.origin refl fetched (ap (is_used labels) w.var ∙ s.used) r.0 (ap (λ y. on (Stay y r.0)) (sym same) ∙ r.2))

-- ---- a use that is served from a slot

pub from-slot : (labels : List Label) (slots : ℕ) (on : Chosen) (numbers : Numbers) (hs : List Home) → Reading labels slots on numbers hs → (u : Use) → In u (uses labels) → is_slot (use_serve labels on numbers u).from ≡ true → (p : Bank) × (on (ServeColumn u.point u.operand M p) ≡ true)
from-slot labels slots on numbers hs g u i r = pick (service_on on u (services u.role)) refl r
  where
    facts : UseFacts labels on u
    facts = use-facts-of labels slots on numbers hs g u i

    pick : (o : Option Service) → service_on on u (services u.role) ≡ o → is_slot (serve_by labels on numbers u o).from ≡ true → (p : Bank) × (on (ServeColumn u.point u.operand M p) ≡ true)
    pick (Some s) e f =
        let w = service-each on u (λ (t : Service). is_source t.from ≡ true) (services u.role) s (all-sources u.role) e in
        let read : s.from ≡ T → IsReadPlace (place_in on (values labels) u.value) = λ t.
        read-place labels slots on numbers hs g u.value (each-in (λ (z : Use). IsValue labels z.value) u (uses labels) g.used i) (facts.served T s.at (subst (λ b. on (ServeColumn u.point u.operand b s.at) ≡ true) t w.1)).0 in
        (s.at, subst (λ b. on (ServeColumn u.point u.operand b s.at) ≡ true) (slot-bank labels on numbers u s.from w.0 read f) w.1)
    pick None e f =
        let one = facts.once in
        let z : count on (srv u) ≡ 0 = service-none on u (services u.role) e in
        absurd (false≢true (sym (no-slot-role on u.point u.role (early-written on u (count-any on (early u) (omega arith)))) ∙ f))

-- ---- numbers

pub numbers-apart : (on : Chosen) (numbers : Numbers) (row : List ℕ) → All (AreApart on numbers row) homes → (x y : ℕ) → is_in x row ≡ true → is_in y row ≡ true → x ≢ y → NumbersApart on numbers x y
numbers-apart on numbers row a x y i j n = λ h b e f. All-contains (AreApart on numbers row) homes h a (contained-in h homes (home-in h b)) x y i j n e f

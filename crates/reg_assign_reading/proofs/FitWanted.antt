-- What is known of each use, and that it is served.
use Rattle.std.proofs.Common.{◌≡◌, ℕ, ◌+◌, ◌≤◌, nat_eq, true, false, Option, Some, None, List, unwrap_or, refl, sym, ap, subst, ◌∙◌, arith}
use Rattle.std.specs.Prelude.{is_some}
use Rattle.std.specs.List.{list_any}
use Rattle.std.proofs.lemmas.Bool.{or_left, false≢true}
use Rattle.nv_base.specs.declared.term.Mem.{Mem}
use Rattle.nv_base.specs.declared.term.Mem.TheVariants.{Sram, Sdram, Scratch}
use Rattle.ssu_ir.specs.Tree.{Label}
use Rattle.ssu_ir.specs.Points.{points}
use Rattle.place_plan.specs.declared.place.Place.{Place}
use Rattle.place_plan.specs.declared.place.Pass.{Pass}
use Rattle.place_plan.specs.Places.{same_place}
use Rattle.place_plan.specs.Plan.{Home, home_in, pass}
use Rattle.place_plan.specs.Uses.{ValueOrigin, Parameter, Result, Fetched, Value, values, Use, uses, is_used}
use Rattle.place_plan.specs.Fits.{read_place, parameter, IsServed, is_result}
use Rattle.bank_prog_form.specs.declared.column.Bank.{Bank}
use Rattle.bank_prog_form.specs.declared.column.Bank.TheVariants.{A, B, M, T, L, A15, W}
use Rattle.bank_prog_form.specs.declared.column.Column.TheVariants.{Def, ReadVia}
use Rattle.bank_prog_form.specs.declared.column.Service.{Service}
use Rattle.bank_prog_form.specs.Columns.{eight, origin_of, is_fetched, services}
use Rattle.bank_prog_form.specs.Rows.{def, is_parameter}
use Rattle.bank_prog.specs.Meaning.{Chosen}
use Rattle.ssu_liveness.proofs.Scoped.{in-itself}
use Rattle.reg_assign_reading.specs.inner.Facts.{count, some_on, in_bank, IsIn, ValueFacts}
use Rattle.reg_assign_reading.specs.ReadOff.{Numbers, begins, pass_l, def_bank, home_place, origin_place, place_in, put_home, origin_home, bank_place, read_off}
use Rattle.reg_assign_reading.proofs.Counts.{In, in-contained, each-in}
use Rattle.reg_assign_reading.proofs.FactsThere.{there}
use Rattle.reg_assign_reading.proofs.ReadParts.{first-on-any, IsFound, pass-at}
use Rattle.reg_assign_reading.proofs.FitWords.{word-same}
use Rattle.reg_assign_reading.proofs.FitHomes.{is_home_bank, def-bank-is}
use Rattle.reg_assign_reading.proofs.FitHoused.{is_source, all-sources}
use Rattle.reg_assign_reading.proofs.FitServed.{home_offers, offers, Wanted, is-served}
use Rattle.reg_assign_reading.proofs.FitRead.{any-in, IsValue, place-found, Reading, value-facts-of, use-facts-of, home-is, unread-wants}
use Rattle.reg_assign_reading.proofs.FitStaying.{read-place}

-- ---- what a value offers

-- each bank that it is in
offers-bank : (labels : List Label) (slots : ℕ) (on : Chosen) (numbers : Numbers) (hs : List Home) → Reading labels slots on numbers hs → (x : ℕ) → IsValue labels x → (h : Bank) → is_home_bank h ≡ true → in_bank on h x ≡ true → home_offers (home_in hs x) (home_place numbers h x) ≡ true
offers-bank labels slots on numbers hs g x w h b e =
    let v = w.value in
    subst (λ y. home_offers (home_in hs y) (home_place numbers h y) ≡ true) w.var
    (subst (λ (d : Home). home_offers d (home_place numbers h v.var) ≡ true) (sym (home-is labels slots on numbers hs g v w.among w.wants))
    (offers labels on numbers v (value-facts-of labels slots on numbers hs g v w.among) v.origin refl h b (ap (in_bank on h) w.var ∙ e)))

read-itself : (m : Mem) (n x : ℕ) (c : List Place) → home_offers (record { var = x; defined = read_place m n; copied = c }) (read_place m n) ≡ true
read-itself Sram n x c = or_left (nat_eq n n) (list_any (same_place (read_place Sram n)) c) (in-itself n)
read-itself Sdram n x c = or_left (nat_eq n n) (list_any (same_place (read_place Sdram n)) c) (in-itself n)
read-itself Scratch n x c = or_left (nat_eq n n) (list_any (same_place (read_place Scratch n)) c) (in-itself n)

origin-offers : (labels : List Label) (on : Chosen) (numbers : Numbers) (k x : ℕ) (origin : ValueOrigin) → is_fetched origin ≡ true → home_offers (origin_home labels on numbers k x origin) (origin_place on k origin) ≡ true
origin-offers labels on numbers k x (Parameter l i) e = absurd (false≢true e)
origin-offers labels on numbers k x Result e = absurd (false≢true e)
origin-offers labels on numbers k x (Fetched m i) e = read-itself m (begins on k + i) x (origin_home labels on numbers k x (Fetched m i)).copied

-- its read register
offers-read : (labels : List Label) (slots : ℕ) (on : Chosen) (numbers : Numbers) (hs : List Home) → Reading labels slots on numbers hs → (x : ℕ) → IsValue labels x → is_fetched (origin_of labels x) ≡ true → home_offers (home_in hs x) (place_in on (values labels) x) ≡ true
offers-read labels slots on numbers hs g x w e =
    let v = w.value in
    let s : origin_of labels x ≡ v.origin = ap (origin_of labels) (sym w.var) ∙ (value-facts-of labels slots on numbers hs g v w.among).origin in
    let is : origin_place on v.point v.origin ≡ place_in on (values labels) v.var = sym (place-found on (values labels) v g.different w.among) in
    subst (λ y. home_offers (home_in hs y) (place_in on (values labels) y) ≡ true) w.var
    (subst (λ (d : Home). home_offers d (place_in on (values labels) v.var) ≡ true) (sym (home-is labels slots on numbers hs g v w.among w.wants))
    (subst (λ (q : Place). home_offers (origin_home labels on numbers v.point v.var v.origin) q ≡ true) is
    (origin-offers labels on numbers v.point v.var v.origin (ap is_fetched (sym s) ∙ e))))

offered : (labels : List Label) (slots : ℕ) (on : Chosen) (numbers : Numbers) (hs : List Home) → Reading labels slots on numbers hs → (u : Use) → IsValue labels u.value → (h : Bank) → is_source h ≡ true → IsIn labels on u.value h
    → home_offers (home_in hs u.value) (bank_place labels on numbers u h) ≡ true
offered labels slots on numbers hs g u w A s i = offers-bank labels slots on numbers hs g u.value w A refl i
offered labels slots on numbers hs g u w B s i = offers-bank labels slots on numbers hs g u.value w B refl i
offered labels slots on numbers hs g u w M s i = offers-bank labels slots on numbers hs g u.value w M refl i
offered labels slots on numbers hs g u w T s i = offers-read labels slots on numbers hs g u.value w i.0
offered labels slots on numbers hs g u w L s i = absurd (false≢true s)
offered labels slots on numbers hs g u w A15 s i = absurd (false≢true s)
offered labels slots on numbers hs g u w W s i = absurd (false≢true s)

-- ---- where a parameter is

put-defined : (labels : List Label) (on : Chosen) (numbers : Numbers) (x : ℕ) (h : Bank) → is_home_bank h ≡ true → count on (def x) ≤ 1 → on (Def x h) ≡ true → (put_home labels on numbers x (def_bank on x)).defined ≡ home_place numbers h x
put-defined labels on numbers x h b n d = ap (λ o. (put_home labels on numbers x o).defined) (def-bank-is on x h b n d)

origin-defined : (labels : List Label) (on : Chosen) (numbers : Numbers) (v : Value) → ValueFacts labels on v → (origin : ValueOrigin) → v.origin ≡ origin → is_fetched origin ≡ false → (h : Bank) → is_home_bank h ≡ true → on (Def v.var h) ≡ true → (origin_home labels on numbers v.point v.var origin).defined ≡ home_place numbers h v.var
origin-defined labels on numbers v f (Parameter l i) e r h b d = let one = f.parameter (ap is_parameter e) in put-defined labels on numbers v.var h b (omega arith) d
origin-defined labels on numbers v f Result e r h b d = let one = f.result (ap is_result e) in put-defined labels on numbers v.var h b (omega arith) d
origin-defined labels on numbers v f (Fetched m i) e r h b d = absurd (false≢true (sym r))

-- a value that is first put into a bank has its place there
pub defined-in : (labels : List Label) (slots : ℕ) (on : Chosen) (numbers : Numbers) (hs : List Home) → Reading labels slots on numbers hs → (x : ℕ) (h : Bank) → is_home_bank h ≡ true → on (Def x h) ≡ true → (home_in hs x).defined ≡ home_place numbers h x
defined-in labels slots on numbers hs g x h b d =
    let t = there labels on (Def x h) g.only d in
    let v = t.0 in
    subst (λ y. (home_in hs y).defined ≡ home_place numbers h y) t.2
    (ap (λ (w : Home). w.defined) (home-is labels slots on numbers hs g v t.1 (unread-wants (is_used labels v.var) v.origin t.3))
    ∙ origin-defined labels on numbers v (value-facts-of labels slots on numbers hs g v t.1) v.origin refl t.3 h b (ap (λ y. on (Def y h)) t.2 ∙ d))

-- ---- through which register a slot is read

some-is : (o : Option ℕ) → is_some o ≡ true → o ≡ Some (unwrap_or o 0)
some-is (Some r) e = refl
some-is None e = absurd (false≢true e)

passed : (labels : List Label) (slots : ℕ) (on : Chosen) (numbers : Numbers) (hs : List Home) → Reading labels slots on numbers hs → (k : ℕ) → some_on on (ReadVia k) ≡ true → (pass (read_off labels slots on numbers hs) k).l ≡ Some (unwrap_or (pass_l on k) 0)
passed labels slots on numbers hs g k e =
    let r = any-in (λ n. on (ReadVia k n)) eight e in
    let t = there labels on (ReadVia k r.0) g.only r.2 in
    ap (λ (w : Pass). w.l) (pass-at on (points labels) 0 k k t.0 (omega arith) t.1)
    ∙ some-is (pass_l on k) (first-on-any (λ n. on (ReadVia k n)) eight e)

-- ---- a use

pub wanted : (labels : List Label) (slots : ℕ) (on : Chosen) (numbers : Numbers) (hs : List Home) → Reading labels slots on numbers hs → (u : Use) → In u (uses labels) → Wanted labels slots on numbers hs u u.role
wanted labels slots on numbers hs g u i =
    let f = use-facts-of labels slots on numbers hs g u i in
    let w : IsValue labels u.value = each-in (λ (z : Use). IsValue labels z.value) u (uses labels) g.used i in
    record {
      offered = λ h p e.
          let s = f.services h p e in
          let source : is_source h ≡ true = each-in (λ (z : Service). is_source z.from ≡ true) (record { from = h; at = p; cost = s.0 }) (services u.role) (all-sources u.role) (in-contained (record { from = h; at = p; cost = s.0 }) (services u.role) s.1) in
          offered labels slots on numbers hs g u w h source (f.served h p e);
      read = λ p e. read-place labels slots on numbers hs g u.value w (f.served T p e).0;
      passed = λ p e. passed labels slots on numbers hs g u.point (f.from_slot p e);
      word = word-same labels slots on numbers hs g.firsts u;
      argument = λ l j e h p b o. defined-in labels slots on numbers hs g (parameter labels l j) p b (f.argument l j e h p o);
    }

pub served : (labels : List Label) (slots : ℕ) (on : Chosen) (numbers : Numbers) (hs : List Home) → Reading labels slots on numbers hs → (u : Use) → In u (uses labels) → IsServed labels (read_off labels slots on numbers hs) u
served labels slots on numbers hs g u i =
    is-served labels slots on numbers hs u (use-facts-of labels slots on numbers hs g u i) (each-in (IsFound labels on numbers (uses labels)) u (uses labels) g.found i) (wanted labels slots on numbers hs g u i)

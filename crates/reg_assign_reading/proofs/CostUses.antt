-- What the uses of the plan that is read off cost: no more than the columns by which they are served.
use Rattle.std.proofs.Common.{◌≡◌, ℕ, ◌+◌, ◌≤◌, nat_eq, Bool, true, false, if◌then◌else◌, Option, Some, None, List, [], ◌∷◌, ◌++◌, map, filter, refl, ap, subst, inl, inr, ◌∙◌, arith, le_of_eq}
use Rattle.std.specs.List.{flat_map}
use Rattle.std.proofs.lemmas.Bool.{false≢true}
use Rattle.nv_base.specs.declared.term.Mem.{Mem}
use Rattle.nv_base.specs.declared.term.Mem.TheVariants.{Sram, Sdram, Scratch}
use Rattle.ssu_ir.specs.Tree.{Label}
use Rattle.place_plan.specs.declared.place.Place.{Place}
use Rattle.place_plan.specs.declared.place.Place.TheVariants as place
use Rattle.place_plan.specs.declared.place.Serve.{Serve}
use Rattle.place_plan.specs.Costs.{served_cost, use_cost, uses_cost}
use Rattle.place_plan.specs.Plan.{Home}
use Rattle.place_plan.specs.Uses.{ValueOrigin, Parameter, Result, Fetched, Value, values, Role, Operand, Address, Written, Argument, Ending, Use, uses}
use Rattle.place_plan.specs.Fits.{read_place, write_place}
use Rattle.place_plan.proofs.Sound.{Each}
use Rattle.zo_model.specs.Program.{cost_where}
use Rattle.bank_prog_form.specs.declared.column.Bank.{Bank}
use Rattle.bank_prog_form.specs.declared.column.Bank.TheVariants.{A, B, M, T, L, A15, W}
use Rattle.bank_prog_form.specs.declared.column.Column.TheVariants.{Serve as ServeColumn}
use Rattle.bank_prog_form.specs.declared.column.Service.{Service}
use Rattle.bank_prog_form.specs.Columns.{origin_in, origin_of, is_fetched, services, has_bank, srv_columns}
use Rattle.bank_prog_form.specs.Rows.{dir, ear, early, is_written}
use Rattle.bank_prog.specs.Meaning.{Chosen, named_cost}
use Rattle.reg_assign_reading.specs.inner.Facts.{count, IsIn, UseFacts}
use Rattle.reg_assign_reading.specs.ReadOff.{Numbers, begins, service_on, role_place, word_place, origin_place, place_in, bank_place, target, serve_by, use_serve, read_off}
use Rattle.reg_assign_reading.proofs.Counts.{In, kept-in, map-in, each-in}
use Rattle.reg_assign_reading.proofs.CostSums.{cost-append, cost-one}
use Rattle.reg_assign_reading.proofs.ReadParts.{IsFound}

-- ---- read and write registers

pub data IsReadRegister : Place → Type 0 where
  in_l : (k : ℕ) → IsReadRegister (place.L k)
  in_ld : (k : ℕ) → IsReadRegister (place.LD k)

read-register : (m : Mem) (n : ℕ) → IsReadRegister (read_place m n)
read-register Sram n = in_l n
read-register Sdram n = in_ld n
read-register Scratch n = in_l n

origin-read : (on : Chosen) (k : ℕ) (s : ValueOrigin) → is_fetched s ≡ true → IsReadRegister (origin_place on k s)
origin-read on k (Parameter l i) e = absurd (false≢true e)
origin-read on k Result e = absurd (false≢true e)
origin-read on k (Fetched m i) e = read-register m (begins on k + i)

place-read : (on : Chosen) (vs : List Value) (x : ℕ) → is_fetched (origin_in vs x) ≡ true → IsReadRegister (place_in on vs x)
place-read on [] x e = absurd (false≢true e)
place-read on (v ∷ vs) x e = by (nat_eq v.var x) (λ f. origin-read on v.point v.origin f) (λ f. place-read on vs x f) e
  where
    by : (b : Bool) → (is_fetched v.origin ≡ true → IsReadRegister (origin_place on v.point v.origin)) → (is_fetched (origin_in vs x) ≡ true → IsReadRegister (place_in on vs x)) → is_fetched (if b then v.origin else origin_in vs x) ≡ true → IsReadRegister (if b then origin_place on v.point v.origin else place_in on vs x)
    by true f g h = f h
    by false f g h = g h

read-same : (q : Place) → IsReadRegister q → served_cost q q ≡ 0
read-same _ (in_l k) = refl
read-same _ (in_ld k) = refl

read-a : (q : Place) (r : ℕ) → IsReadRegister q → served_cost q (place.A r) ≡ 1
read-a _ r (in_l k) = refl
read-a _ r (in_ld k) = refl

read-b : (q : Place) (r : ℕ) → IsReadRegister q → served_cost q (place.B r) ≡ 1
read-b _ r (in_l k) = refl
read-b _ r (in_ld k) = refl

read-slot : (q : Place) (r : ℕ) → IsReadRegister q → served_cost q (place.Slot r) ≡ 17
read-slot _ r (in_l k) = refl
read-slot _ r (in_ld k) = refl

read-write : (q : Place) (m : Mem) (n : ℕ) → IsReadRegister q → served_cost q (write_place m n) ≡ 1
read-write _ Sram n (in_l k) = refl
read-write _ Sdram n (in_l k) = refl
read-write _ Scratch n (in_l k) = refl
read-write _ Sram n (in_ld k) = refl
read-write _ Sdram n (in_ld k) = refl
read-write _ Scratch n (in_ld k) = refl

a-write : (k : ℕ) (m : Mem) (n : ℕ) → served_cost (place.A k) (write_place m n) ≡ 1
a-write k Sram n = refl
a-write k Sdram n = refl
a-write k Scratch n = refl

b-write : (k : ℕ) (m : Mem) (n : ℕ) → served_cost (place.B k) (write_place m n) ≡ 1
b-write k Sram n = refl
b-write k Sdram n = refl
b-write k Scratch n = refl

slot-write : (k : ℕ) (m : Mem) (n : ℕ) → served_cost (place.Slot k) (write_place m n) ≡ 17
slot-write k Sram n = refl
slot-write k Sdram n = refl
slot-write k Scratch n = refl

write-same : (m : Mem) (n : ℕ) → served_cost (write_place m n) (write_place m n) ≡ 0
write-same Sram n = refl
write-same Sdram n = refl
write-same Scratch n = refl

slot-a : (k r : ℕ) → served_cost (place.Slot k) (place.A r) ≤ 17
slot-a k r = by (nat_eq r 15)
  where
    by : (b : Bool) → (if b then 16 else 17) ≤ 17
    by true = omega arith
    by false = omega arith

pub word-written : (on : Chosen) (u : Use) (m : Mem) (i : ℕ) → u.role ≡ Written m i → word_place on u ≡ write_place m (begins on u.point + i)
word-written on u m i e = ap (role_place on u.point) e

pub written-role : (r : Role) → is_written r ≡ true → (m : Mem) × (i : ℕ) × (r ≡ Written m i)
written-role Operand e = absurd (false≢true e)
written-role Address e = absurd (false≢true e)
written-role (Written m i) e = (m, i, refl)
written-role (Argument l i) e = absurd (false≢true e)
written-role (Ending i) e = absurd (false≢true e)

-- ---- what a service costs

abbrev Price : List Label → Chosen → Numbers → Use → Role → Service → Type 0
Price labels on numbers u role s = (s.from ≡ T → IsReadRegister (place_in on (values labels) u.value)) → served_cost (bank_place labels on numbers u s.from) (target labels on numbers u s.at role) ≤ s.cost

prices : (labels : List Label) (on : Chosen) (numbers : Numbers) (u : Use) (role : Role) → u.role ≡ role → Each (Price labels on numbers u role) (services role)
prices labels on numbers u Operand e =
    let q = place_in on (values labels) u.value in
    (λ r. le_of_eq refl, (λ r. le_of_eq refl, (λ r. le_of_eq (read-same q (r refl)), (λ r. le_of_eq refl, (λ r. le_of_eq refl, (λ r. le_of_eq refl, (λ r. le_of_eq (read-a q 15 (r refl)), tt)))))))
prices labels on numbers u Address e =
    let q = place_in on (values labels) u.value in
    (λ r. le_of_eq refl, (λ r. le_of_eq refl, (λ r. le_of_eq (read-a q 15 (r refl)), (λ r. le_of_eq refl, tt))))
prices labels on numbers u (Written m i) e =
    let q = place_in on (values labels) u.value in
    let w = word-written on u m i e in
    let n = begins on u.point + i in
    let x = u.value in (
      λ r. le_of_eq (ap (served_cost (place.A (numbers A x))) w ∙ a-write (numbers A x) m n),
      (
        λ r. le_of_eq (ap (served_cost (place.B (numbers B x))) w ∙ b-write (numbers B x) m n),
        (
          λ r. le_of_eq (ap (served_cost q) w ∙ read-write q m n (r refl)),
          (λ r. le_of_eq (ap (served_cost (place.Slot (numbers M x))) w ∙ slot-write (numbers M x) m n), tt),
        ),
      ),
    )
prices labels on numbers u (Argument l i) e =
    let q = place_in on (values labels) u.value in (
      λ r. le_of_eq refl,
      (
        λ r. le_of_eq refl,
        (
          λ r. le_of_eq refl,
          (
            λ r. le_of_eq refl,
            (
              λ r. le_of_eq refl,
              (
                λ r. le_of_eq refl,
                (
                  λ r. le_of_eq (read-a q _ (r refl)),
                  (
                    λ r. le_of_eq (read-b q _ (r refl)),
                    (
                      λ r. le_of_eq (read-slot q _ (r refl)),
                      (λ r. slot-a (numbers M u.value) _, (λ r. le_of_eq refl, (λ r. le_of_eq refl, tt))),
                    ),
                  ),
                ),
              ),
            ),
          ),
        ),
      ),
    )
prices labels on numbers u (Ending i) e =
    let q = place_in on (values labels) u.value in
    (λ r. le_of_eq refl, (λ r. le_of_eq refl, (λ r. le_of_eq (read-a q i (r refl)), (λ r. slot-a (numbers M u.value) i, tt))))

-- ---- which service is taken

service-taken : (on : Chosen) (u : Use) (ss : List Service) (s : Service) → service_on on u ss ≡ Some s → In s ss × (on (ServeColumn u.point u.operand s.from s.at) ≡ true)
service-taken on u [] s e = absurd (cc)
service-taken on u (t ∷ ss) s e = by (λ f. service-taken on u ss s f) (on (ServeColumn u.point u.operand t.from t.at)) refl e
  where
    by : (service_on on u ss ≡ Some s → In s ss × (on (ServeColumn u.point u.operand s.from s.at) ≡ true)) → (b : Bool) → on (ServeColumn u.point u.operand t.from t.at) ≡ b → (if b then Some t else service_on on u ss) ≡ Some s → In s (t ∷ ss) × (on (ServeColumn u.point u.operand s.from s.at) ≡ true)
    by f true g h = let same : t ≡ s = cc in (inl same, subst (λ (z : Service). on (ServeColumn u.point u.operand z.from z.at) ≡ true) same g)
    by f false g h = let w = f h in (inr w.0, w.1)

pub none-taken : (on : Chosen) (u : Use) (ss : List Service) → service_on on u ss ≡ None → count on (map (λ (s : Service). ServeColumn u.point u.operand s.from s.at) ss) ≡ 0
none-taken on u [] e = refl
none-taken on u (t ∷ ss) e = by (λ f. none-taken on u ss f) (on (ServeColumn u.point u.operand t.from t.at)) e
  where
    by : (service_on on u ss ≡ None → count on (map (λ (s : Service). ServeColumn u.point u.operand s.from s.at) ss) ≡ 0) → (b : Bool) → (if b then Some t else service_on on u ss) ≡ None → cost_where b 1 + count on (map (λ (s : Service). ServeColumn u.point u.operand s.from s.at) ss) ≡ 0
    by f true h = absurd (cc)
    by f false h = let w = f h in omega (arith, w)

pub early-written : (on : Chosen) (u : Use) → 1 ≤ count on (early u) → is_written u.role ≡ true
early-written on u h = by (is_written u.role) h
  where
    by : (b : Bool) → 1 ≤ count on (if b then dir u ++ ear u else []) → b ≡ true
    by true l = refl
    by false l = absurd (omega (arith, l))

has : (labels : List Label) (on : Chosen) (x : ℕ) (h : Bank) → IsIn labels on x h → has_bank (is_fetched (origin_of labels x)) h ≡ true
has labels on x A i = refl
has labels on x B i = refl
has labels on x M i = refl
has labels on x T i = i.0
has labels on x L i = refl
has labels on x A15 i = refl
has labels on x W i = refl

in-read : (labels : List Label) (on : Chosen) (x : ℕ) (h : Bank) → IsIn labels on x h → h ≡ T → IsReadRegister (place_in on (values labels) x)
in-read labels on x h i e = let j = subst (IsIn labels on x) e i in place-read on (values labels) x j.0

use-bounded : (labels : List Label) (on : Chosen) (numbers : Numbers) (u : Use) (o : Option Service) → service_on on u (services u.role) ≡ o → UseFacts labels on u → served_cost (serve_by labels on numbers u o).from (serve_by labels on numbers u o).at ≤ named_cost on (srv_columns labels u)
use-bounded labels on numbers u (Some s) e f =
    let w = service-taken on u (services u.role) s e in
    let i = f.served s.from s.at w.1 in
    let price = each-in (Price labels on numbers u u.role) s (services u.role) (prices labels on numbers u u.role refl) w.0 (in-read labels on u.value s.from i) in
    let read = is_fetched (origin_of labels u.value) in
    let kept = kept-in (λ (s : Service). has_bank read s.from) s (services u.role) w.0 (has labels on u.value s.from i) in
    let column : In (ServeColumn u.point u.operand s.from s.at, s.cost) (srv_columns labels u) = map-in (λ (s : Service). (ServeColumn u.point u.operand s.from s.at, s.cost)) s (filter (λ (s : Service). has_bank read s.from) (services u.role)) kept in
    let paid : s.cost ≤ named_cost on (srv_columns labels u) = cost-one on (ServeColumn u.point u.operand s.from s.at, s.cost) (srv_columns labels u) column w.1 in
    omega (arith, price, paid)
use-bounded labels on numbers u None e f =
    let off = none-taken on u (services u.role) e in
    let one = f.once in
    let w = written-role u.role (early-written on u (omega (arith, off, one))) in
    let p = word-written on u w.0 w.1 w.2 in
    let free : served_cost (word_place on u) (word_place on u) ≡ 0 = ap (λ q. served_cost q q) p ∙ write-same w.0 (begins on u.point + w.1) in
    omega (arith, free)

pub uses-bounded : (labels : List Label) (slots : ℕ) (on : Chosen) (numbers : Numbers) (hs : List Home) (us : List Use) → Each (UseFacts labels on) us → Each (IsFound labels on numbers (uses labels)) us → uses_cost (read_off labels slots on numbers hs) us ≤ named_cost on (flat_map (srv_columns labels) us)
uses-bounded labels slots on numbers hs [] f g = omega arith
uses-bounded labels slots on numbers hs (u ∷ us) f g =
    let p = read_off labels slots on numbers hs in
    let a = use-bounded labels on numbers u (service_on on u (services u.role)) refl f.0 in
    let same : use_cost p u ≡ served_cost (use_serve labels on numbers u).from (use_serve labels on numbers u).at = ap (λ (s : Serve). served_cost s.from s.at) g.0 in
    let ih = uses-bounded labels slots on numbers hs us f.1 g.1 in
    let c = cost-append on (srv_columns labels u) (flat_map (srv_columns labels) us) in
    omega (arith, a, same, ih, c)

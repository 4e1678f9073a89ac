-- The plan that a choice of columns stands for fits.
use Rattle.std.proofs.Common.{◌≡◌, ℕ, zero, suc, ◌+◌, ◌≤◌, ◌<◌, true, false, Some, List, [], ◌∷◌, length, map, sym, ap, subst, arith}
use Rattle.std.specs.Prelude.{slice_get, All}
use Rattle.std.proofs.lemmas.List.Elements.{All-contains}
use Rattle.nv_base.specs.Sets.{is_in}
use Rattle.ssu_ir.specs.Tree.{Label}
use Rattle.ssu_ir.specs.Points.{Point, points}
use Rattle.ssu_ir.specs.Single.{single}
use Rattle.place_plan.specs.declared.place.Pass.{Pass}
use Rattle.place_plan.specs.Plan.{Home, first}
use Rattle.place_plan.specs.Uses.{Access, reads_at, writes_at, place_accesses, accesses_from, accesses, values, place_roles, uses}
use Rattle.place_plan.specs.Fits.{point_values, IsFirst, IsHoused, IsServed, KeepsHeld, KeepsRead, KeepsWaiting, AreApart, FitsAt, Fits}
use Rattle.bank_prog_form.specs.declared.column.Column.TheVariants.{First}
use Rattle.bank_prog_form.specs.declared.column.Bank.TheVariants.{T}
use Rattle.bank_prog_form.specs.Rows.{homes, lines}
use Rattle.bank_prog.specs.Meaning.{Chosen, Holds}
use Rattle.place_plan.proofs.Sound.{Each, Sound, uses_among, sound-points}
use Rattle.place_plan.proofs.Spilled.{each-all, all-each, each-at}
use Rattle.place_plan.proofs.Fitting.{uses-part}
use Rattle.ssu_liveness.specs.inner.Numbers.{values_among}
use Rattle.reg_assign_reading.specs.inner.Facts.{OnlyThere, AccessFacts, UseFacts}
use Rattle.reg_assign_reading.specs.ReadOff.{Numbers, begins, AreRead, AreNumbered, read_off}
use Rattle.reg_assign_reading.specs.ReadOff as reading
use Rattle.reg_assign_reading.proofs.Counts.{In, contained-in, in-contained, in-left, in-right, each-in, each-from}
use Rattle.reg_assign_reading.proofs.FactsUses.{place-point}
use Rattle.reg_assign_reading.proofs.FactsAll.{facts}
use Rattle.reg_assign_reading.proofs.ReadParts.{first-read, begins-on, firsts-points, serves-operands, IsFound, pass-at, passes-rise, passes-below}
use Rattle.reg_assign_reading.proofs.FitWaiting.{keeps-waiting}
use Rattle.reg_assign_reading.proofs.FitHeld.{keeps-held}
use Rattle.reg_assign_reading.proofs.FitPoints.{read-clear, first-fits}
use Rattle.reg_assign_reading.proofs.FitRead.{IsValue, homes-are, Reading, begins-of, reading-of}
use Rattle.reg_assign_reading.proofs.FitKnown.{housed, value-placed}
use Rattle.reg_assign_reading.proofs.FitStaying.{read-place, staying, numbers-apart}
use Rattle.reg_assign_reading.proofs.FitWanted.{served}
use Rattle.reg_assign_reading.proofs.FitOperands.{IsFetched, operands-apart}
use Rattle.reg_assign_reading.proofs.FitPasses.{passing}

-- ---- accesses

accesses-among : (a : Access) (j i k : ℕ) (ps : List Point) (q : Point) → k ≡ j + i → slice_get ps i ≡ Some q → In a (place_accesses k q.place) → In a (accesses_from j ps)
accesses-among a j i k [] q e g h = absurd (cc)
accesses-among a j zero k (p ∷ ps) q e g h =
    let same : q ≡ p = cc in
    let at : k ≡ j = omega (arith, e) in
    in-left a (place_accesses j p.place) (accesses_from (suc j) ps) (subst (λ (z : Point). In a (place_accesses j z.place)) same (subst (λ n. In a (place_accesses n q.place)) at h))
accesses-among a j (suc i) k (p ∷ ps) q e g h =
    in-right a (place_accesses j p.place) (accesses_from (suc j) ps) (accesses-among a (suc j) i k ps q (omega (arith, e)) g h)

-- an access at a point, and the register at which it begins
record IsBegun (on : Chosen) (k : ℕ) (a : Access) : Type 0 where
  point : a.point ≡ k
  begun : on (First k (begins on k)) ≡ true

access-begun : (labels : List Label) (slots : ℕ) (on : Chosen) (numbers : Numbers) (hs : List Home) → Reading labels slots on numbers hs → (a : Access) → In a (accesses labels) → on (First a.point (begins on a.point)) ≡ true
access-begun labels slots on numbers hs g a i =
    begins-on on a.point (All-contains (AccessFacts on) (accesses labels) a g.facts.accesses (contained-in a (accesses labels) i)).once

begun-at : (labels : List Label) (slots : ℕ) (on : Chosen) (numbers : Numbers) (hs : List Home) → Reading labels slots on numbers hs → (k : ℕ) (q : Point) → slice_get (points labels) k ≡ Some q → (a : Access) → In a (place_accesses k q.place) → IsBegun on k a
begun-at labels slots on numbers hs g k q at a i =
    let p : a.point ≡ k = place-point a k q.place i in
    record { point = p; begun = subst (λ n. on (First n (begins on n)) ≡ true) p (access-begun labels slots on numbers hs g a (accesses-among a 0 k k (points labels) q (omega arith) at i)) }

access-fits : (labels : List Label) (slots : ℕ) (on : Chosen) (numbers : Numbers) (hs : List Home) → Reading labels slots on numbers hs → (a : Access) → In a (accesses labels) → IsFirst a.mem a.words (first (read_off labels slots on numbers hs) a.point)
access-fits labels slots on numbers hs g a i =
    let f = All-contains (AccessFacts on) (accesses labels) a g.facts.accesses (contained-in a (accesses labels) i) in
    subst (IsFirst a.mem a.words) (sym (first-read labels slots on numbers hs g.firsts a.point))
    (first-fits a.mem a.words (begins on a.point) (f.begins (begins on a.point) (begins-on on a.point f.once)))

-- ---- at a point

held-apart : (labels : List Label) (slots : ℕ) (on : Chosen) (numbers : Numbers) (hs : List Home) → Reading labels slots on numbers hs → (k : ℕ) (q : Point) → slice_get (points labels) k ≡ Some q → KeepsHeld labels (read_off labels slots on numbers hs) k q
held-apart labels slots on numbers hs g k q at =
    let rows : All (reading.AreApart on numbers q.before) homes = each-at (λ (p : Point). All (reading.AreApart on numbers p.before) homes) (points labels) k q (all-each (λ (p : Point). All (reading.AreApart on numbers p.before) homes) (points labels) g.numbered.apart) at in
    keeps-held labels slots on numbers hs k q (g.facts.points k q at) (ap (λ (w : Pass). w.l) (pass-at on (points labels) 0 k k q (omega arith) at))
    (λ x i. value-placed labels slots on numbers hs g x (g.held k q at x i))
    (λ x i e. staying labels slots on numbers hs g x e)
    (λ x y i j n. numbers-apart on numbers q.before rows x y i j n)

reads-clear : (labels : List Label) (slots : ℕ) (on : Chosen) (numbers : Numbers) (hs : List Home) → Reading labels slots on numbers hs → (k : ℕ) (q : Point) → slice_get (points labels) k ≡ Some q → (a : Access) → In a (reads_at k q.place) → KeepsRead labels (read_off labels slots on numbers hs) q a
reads-clear labels slots on numbers hs g k q at a i =
    let p = read_off labels slots on numbers hs in
    let b = begun-at labels slots on numbers hs g k q at a (in-left a (reads_at k q.place) (writes_at k q.place) i) in
    λ x after other.
    let here : is_in x (point_values k q) ≡ false = subst (λ n. is_in x (point_values n q) ≡ false) b.point other in
    read-clear labels p on x a (begins on a.point) (first-read labels slots on numbers hs g.firsts a.point) (subst (λ n. on (First n (begins on n)) ≡ true) (sym b.point) b.begun)
    (λ r s c. (g.facts.points k q at).stay_filled a (contained-in a (reads_at k q.place) i) x after here r s c)
    (λ e. staying labels slots on numbers hs g x e)

waiting-apart : (labels : List Label) (slots : ℕ) (on : Chosen) (numbers : Numbers) (hs : List Home) → Reading labels slots on numbers hs → (k : ℕ) (q : Point) → slice_get (points labels) k ≡ Some q → KeepsWaiting labels (read_off labels slots on numbers hs) k q
waiting-apart labels slots on numbers hs g k q at =
    keeps-waiting labels slots on numbers hs k q g.firsts (begins-of labels slots on numbers hs g) g.early g.use_facts (g.facts.points k q at) (ap (λ (w : Pass). w.s) (pass-at on (points labels) 0 k k q (omega arith) at))
    (λ a c. let b = begun-at labels slots on numbers hs g k q at a (in-right a (reads_at k q.place) (writes_at k q.place) (in-contained a (writes_at k q.place) c)) in (b.point, b.begun))

fetched-uses : (labels : List Label) (slots : ℕ) (on : Chosen) (numbers : Numbers) (hs : List Home) → Reading labels slots on numbers hs → Each (IsFetched labels on) (uses labels)
fetched-uses labels slots on numbers hs g = each-from (IsFetched labels on) (uses labels) (λ u i p e.
    read-place labels slots on numbers hs g u.value (each-in (λ z. IsValue labels z.value) u (uses labels) g.used i) ((each-in (UseFacts labels on) u (uses labels) g.use_facts i).served T p e).0)

operands-differ : (labels : List Label) (slots : ℕ) (on : Chosen) (numbers : Numbers) (hs : List Home) → single labels ≡ true → Reading labels slots on numbers hs → (k : ℕ) (q : Point) → slice_get (points labels) k ≡ Some q → AreApart (place_roles q.place) (read_off labels slots on numbers hs) k
operands-differ labels slots on numbers hs form g k q at =
    let ps = points labels in
    let sound = each-at (Sound labels (values_among (map (λ (p : Point). p.place) ps)) (uses_among ps)) ps k q (sound-points labels form) at in
    operands-apart labels slots on numbers hs k (place_roles q.place) q.uses sound.many (g.facts.points k q at).operands
    (uses-part (IsFound labels on numbers (uses labels)) ps 0 k k q (omega arith) at g.found)
    (uses-part (UseFacts labels on) ps 0 k k q (omega arith) at g.use_facts)
    (uses-part (IsFetched labels on) ps 0 k k q (omega arith) at (fetched-uses labels slots on numbers hs g))

point-fits : (labels : List Label) (slots : ℕ) (on : Chosen) (numbers : Numbers) (hs : List Home) → single labels ≡ true → Reading labels slots on numbers hs → (k : ℕ) (q : Point) → slice_get (points labels) k ≡ Some q → FitsAt labels (read_off labels slots on numbers hs) k q
point-fits labels slots on numbers hs form g k q at =
    let p = read_off labels slots on numbers hs in
    record {
      held = held-apart labels slots on numbers hs g k q at;
      reads = each-all (KeepsRead labels p q) (reads_at k q.place) (each-from (KeepsRead labels p q) (reads_at k q.place) (λ a i. reads-clear labels slots on numbers hs g k q at a i));
      waiting = waiting-apart labels slots on numbers hs g k q at;
      operands = operands-differ labels slots on numbers hs form g k q at;
      passes = passing labels slots on numbers hs g k q at;
    }

-- ---- the whole

pub reading-fits : (labels : List Label) (slots : ℕ) (on : Chosen) (numbers : Numbers) (hs : List Home) → single labels ≡ true → slots ≤ 128 → Reading labels slots on numbers hs → Fits labels (read_off labels slots on numbers hs)
reading-fits labels slots on numbers hs form few g =
    let p = read_off labels slots on numbers hs in
    let ps = points labels in
    record {
      slots = few;
      homes = homes-are labels slots on numbers hs g.read;
      firsts = firsts-points on (accesses labels);
      serves = serves-operands labels on numbers (uses labels);
      passes = record { rise = (passes-rise on 0 ps).rise; there = each-all (λ (q : Pass). q.point < length ps) p.passes (passes-below on 0 (length ps) ps (omega arith)) };
      registers = each-all (λ (a : Access). IsFirst a.mem a.words (first p a.point)) (accesses labels) (each-from (λ (a : Access). IsFirst a.mem a.words (first p a.point)) (accesses labels) (access-fits labels slots on numbers hs g));
      values = each-all (IsHoused labels p) (values labels) (each-from (IsHoused labels p) (values labels) (housed labels slots on numbers hs g));
      uses = each-all (IsServed labels p) (uses labels) (each-from (IsServed labels p) (uses labels) (served labels slots on numbers hs g));
      points = point-fits labels slots on numbers hs form g;
    }

pub read-off-fits : (labels : List Label) (slots : ℕ) (on : Chosen) (numbers : Numbers) (hs : List Home) → single labels ≡ true → slots ≤ 128 → OnlyThere labels on → All (Holds on) (lines labels slots) → AreRead labels on numbers hs → AreNumbered labels slots on numbers → Fits labels (read_off labels slots on numbers hs)
read-off-fits labels slots on numbers hs form few only rows read numbered =
    reading-fits labels slots on numbers hs form few (reading-of labels slots on numbers hs form only (facts labels slots on form only rows) read numbered)

-- Slots are read and written through a register that is named at the point.
use Rattle.std.proofs.Common.{◌≡◌, ℕ, suc, Bool, true, false, ◌||◌, ◌&&◌, if◌then◌else◌, ⊎_elim, Option, Some, None, List, [], ◌∷◌, ◌++◌, filter, refl, sym, ap, subst, ◌∙◌, arith}
use Rattle.std.specs.Prelude.{slice_get}
use Rattle.std.specs.List.{list_any}
use Rattle.std.proofs.lemmas.Bool.{and_parts, or_cases, false≢true}
use Rattle.ssu_ir.specs.Tree.{Label, Lit, Una, Bin, Clone, Read, Write, Does, Forks, Ends}
use Rattle.ssu_ir.specs.Points.{PointKind as Spot, Entry, At, Point, points}
use Rattle.place_plan.specs.declared.place.Place.{Place}
use Rattle.place_plan.specs.declared.place.Serve.{Serve}
use Rattle.place_plan.specs.Plan.{Home, home, home_in}
use Rattle.place_plan.specs.Uses.{ValueOrigin, Parameter, Result, Fetched, Value, numbered, place_values, values, place_roles, Use, uses_at, uses, uses_of, is_used}
use Rattle.place_plan.specs.Fits.{is_slot, served, is_result, comes_to_slot, PassesSlots}
use Rattle.place_plan.proofs.Spilled.{used-wants}
use Rattle.bank_prog_form.specs.declared.column.Bank.{Bank}
use Rattle.bank_prog_form.specs.declared.column.Bank.TheVariants.{A, B, M, T, L, A15, W}
use Rattle.bank_prog_form.specs.declared.column.Column.TheVariants.{Def, Fill, ReadVia, WriteVia}
use Rattle.bank_prog.specs.Meaning.{Chosen}
use Rattle.reg_assign_reading.specs.inner.Facts.{some_on}
use Rattle.reg_assign_reading.specs.ReadOff.{Numbers, goes_early, def_bank, home_place, word_place, first_word, fill_at, fills_of, words_of, copies_of, put_home, origin_home, value_home, read_off}
use Rattle.reg_assign_reading.proofs.Counts.{In, in-either, in-map, in-kept, each-in}
use Rattle.reg_assign_reading.proofs.FactsThere.{uses-among, values-among, point-of}
use Rattle.reg_assign_reading.proofs.ReadParts.{IsFound, pass-at}
use Rattle.reg_assign_reading.proofs.FitWords.{early-written}
use Rattle.reg_assign_reading.proofs.FitHomes.{is_home_bank, def-bank-some}
use Rattle.reg_assign_reading.proofs.FitPoints.{passes-slots}
use Rattle.reg_assign_reading.proofs.FitRead.{any-in, Reading, value-facts-of, use-facts-of, home-is}
use Rattle.reg_assign_reading.proofs.FitKnown.{early-word}
use Rattle.reg_assign_reading.proofs.FitStaying.{no-slot-role, from-slot}

-- ---- slots that are read

slots-read : (labels : List Label) (slots : ℕ) (on : Chosen) (numbers : Numbers) (hs : List Home) → Reading labels slots on numbers hs → (k : ℕ) (q : Point) → slice_get (points labels) k ≡ Some q
    → list_any (λ u. is_slot (served (read_off labels slots on numbers hs) u).from) (uses_at k 0 q.uses (place_roles q.place)) ≡ true → some_on on (ReadVia k) ≡ true
slots-read labels slots on numbers hs g k q at e =
    let p = read_off labels slots on numbers hs in
    let w = any-in (λ (u : Use). is_slot (served p u).from) (uses_at k 0 q.uses (place_roles q.place)) e in
    let u = w.0 in
    let i : In u (uses labels) = uses-among u 0 k k (points labels) q (omega arith) at w.1 in
    let found : IsFound labels on numbers (uses labels) u = each-in (IsFound labels on numbers (uses labels)) u (uses labels) g.found i in
    let s = from-slot labels slots on numbers hs g u i (ap (λ (s : Serve). is_slot s.from) (sym found) ∙ w.2) in
    subst (λ n. some_on on (ReadVia n) ≡ true) (point-of u k 0 q.uses (place_roles q.place) w.1) ((use-facts-of labels slots on numbers hs g u i).from_slot s.0 s.1)

-- ---- slots that are written

numbered-point : (v : Value) (k : ℕ) (origin : ℕ → ValueOrigin) (i : ℕ) (xs : List ℕ) → In v (numbered k origin i xs) → v.point ≡ k
numbered-point v k origin i [] h = absurd h
numbered-point v k origin i (x ∷ xs) h = ⊎_elim
    (λ (e : ◌≡◌ {A = Value} (record { point = k; var = x; origin = origin i }) v). ap (λ (w : Value). w.point) (sym e))
    (λ (j : In v (numbered k origin (suc i) xs)). numbered-point v k origin (suc i) xs j)
    h

one-point : (v : Value) (k x : ℕ) → In v (record { point = k; var = x; origin = Result } ∷ []) → v.point ≡ k
one-point v k x h = ⊎_elim
    (λ (e : ◌≡◌ {A = Value} (record { point = k; var = x; origin = Result }) v). ap (λ (w : Value). w.point) (sym e))
    (λ (j : In v []). absurd j)
    h

pub value-point : (v : Value) (k : ℕ) (q : Spot) → In v (place_values k q) → v.point ≡ k
value-point v k (Entry l ps) h = numbered-point v k (Parameter l) 0 ps h
value-point v k (At (Does (Lit x n))) h = one-point v k x h
value-point v k (At (Does (Una x op y))) h = one-point v k x h
value-point v k (At (Does (Bin x op y z))) h = one-point v k x h
value-point v k (At (Does (Clone xs y))) h = absurd h
value-point v k (At (Does (Read m xs y))) h = numbered-point v k (Fetched m) 0 xs h
value-point v k (At (Does (Write m y xs))) h = absurd h
value-point v k (At (Forks c x y)) h = absurd h
value-point v k (At (Ends l)) h = absurd h

-- only bank M has slots
slot-home : (numbers : Numbers) (h : Bank) (x : ℕ) → is_home_bank h ≡ true → is_slot (home_place numbers h x) ≡ true → h ≡ M
slot-home numbers A x b e = absurd (false≢true e)
slot-home numbers B x b e = absurd (false≢true e)
slot-home numbers M x b e = refl
slot-home numbers T x b e = absurd (false≢true b)
slot-home numbers L x b e = absurd (false≢true b)
slot-home numbers A15 x b e = absurd (false≢true b)
slot-home numbers W x b e = absurd (false≢true b)

slot-fill : (on : Chosen) (numbers : Numbers) (x : ℕ) (h : Bank) (q : Place) → is_home_bank h ≡ true → In q (fill_at on numbers x h) → is_slot q ≡ true → on (Fill x M) ≡ true
slot-fill on numbers x h q b i e = pick (on (Fill x h)) refl i
  where
    pick : (c : Bool) → on (Fill x h) ≡ c → In q (if c then home_place numbers h x ∷ [] else []) → on (Fill x M) ≡ true
    pick false f j = absurd j
    pick true f j = ⊎_elim
        (λ (s : home_place numbers h x ≡ q). ap (λ g. on (Fill x g)) (sym (slot-home numbers h x b (ap is_slot s ∙ e))) ∙ f)
        (λ (z : In q []). absurd z)
        j

slot-word : (labels : List Label) (on : Chosen) (x : ℕ) (q : Place) → In q (words_of labels on x) → is_slot q ≡ true → ⊥
slot-word labels on x q i e =
    let w = in-map q (word_place on) (filter (goes_early on) (uses_of labels x)) i in
    let u = w.0 in
    let k = in-kept (goes_early on) u (uses_of labels x) w.1 in
    false≢true (sym (no-slot-role on u.point u.role (early-written on u k.1)) ∙ ap is_slot w.2 ∙ e)

slot-copy : (labels : List Label) (on : Chosen) (numbers : Numbers) (x : ℕ) (q : Place) → In q (copies_of labels on numbers x) → is_slot q ≡ true → on (Fill x M) ≡ true
slot-copy labels on numbers x q i e = ⊎_elim
    (λ (f : In q (fills_of on numbers x)). ⊎_elim
    (λ (a : In q (fill_at on numbers x A)). slot-fill on numbers x A q refl a e)
    (λ (r : In q (fill_at on numbers x B ++ fill_at on numbers x M)). ⊎_elim
    (λ (b : In q (fill_at on numbers x B)). slot-fill on numbers x B q refl b e)
    (λ (m : In q (fill_at on numbers x M)). slot-fill on numbers x M q refl m e)
    (in-either q (fill_at on numbers x B) (fill_at on numbers x M) r))
    (in-either q (fill_at on numbers x A) (fill_at on numbers x B ++ fill_at on numbers x M) f))
    (λ (w : In q (words_of labels on x)). absurd (slot-word labels on x q w e))
    (in-either q (fills_of on numbers x) (words_of labels on x) i)

put-copied : (labels : List Label) (on : Chosen) (numbers : Numbers) (x : ℕ) (o : Option Bank) → list_any is_slot (put_home labels on numbers x o).copied ≡ true → on (Fill x M) ≡ true
put-copied labels on numbers x (Some h) e = let w = any-in is_slot (copies_of labels on numbers x) e in slot-copy labels on numbers x w.0 w.1 w.2
put-copied labels on numbers x None e = absurd (false≢true e)

-- a value that is copied to a slot
origin-copied : (labels : List Label) (on : Chosen) (numbers : Numbers) (k x : ℕ) (origin : ValueOrigin) → list_any is_slot (origin_home labels on numbers k x origin).copied ≡ true → on (Fill x M) ≡ true
origin-copied labels on numbers k x (Parameter l i) e = put-copied labels on numbers x (def_bank on x) e
origin-copied labels on numbers k x Result e = put-copied labels on numbers x (def_bank on x) e
origin-copied labels on numbers k x (Fetched m i) e = let w = any-in is_slot (copies_of labels on numbers x) e in slot-copy labels on numbers x w.0 w.1 w.2

-- a result that comes into a slot
result-defined : (labels : List Label) (slots : ℕ) (on : Chosen) (numbers : Numbers) (hs : List Home) → Reading labels slots on numbers hs → (v : Value) → In v (values labels) → v.origin ≡ Result → (o : Option Bank) → def_bank on v.var ≡ o → is_slot (put_home labels on numbers v.var o).defined ≡ true → on (Def v.var M) ≡ true
result-defined labels slots on numbers hs g v i r (Some h) e s =
    let w = def-bank-some on v.var h e in
    ap (λ b. on (Def v.var b)) (sym (slot-home numbers h v.var w.1 s)) ∙ w.0
result-defined labels slots on numbers hs g v i r None e s =
    let w = early-word labels slots on numbers hs g v i r e in
    let u = w.use_ in
    absurd (false≢true (sym (no-slot-role on u.point u.role (early-written on u w.early)) ∙ ap (λ us. is_slot (first_word on us)) (sym w.one) ∙ s))

origin-defined : (labels : List Label) (slots : ℕ) (on : Chosen) (numbers : Numbers) (hs : List Home) → Reading labels slots on numbers hs → (v : Value) → In v (values labels) → (origin : ValueOrigin) → v.origin ≡ origin → is_result origin ≡ true → is_slot (origin_home labels on numbers v.point v.var origin).defined ≡ true → on (Def v.var M) ≡ true
origin-defined labels slots on numbers hs g v i (Parameter l j) e r s = absurd (false≢true r)
origin-defined labels slots on numbers hs g v i Result e r s = result-defined labels slots on numbers hs g v i e (def_bank on v.var) refl s
origin-defined labels slots on numbers hs g v i (Fetched m j) e r s = absurd (false≢true r)

value-written : (labels : List Label) (slots : ℕ) (on : Chosen) (numbers : Numbers) (hs : List Home) → Reading labels slots on numbers hs → (v : Value) → In v (values labels) → comes_to_slot labels (read_off labels slots on numbers hs) v ≡ true → some_on on (WriteVia v.point) ≡ true
value-written labels slots on numbers hs g v i e =
    let p = read_off labels slots on numbers hs in
    let facts = value-facts-of labels slots on numbers hs g v i in
    let w = home p v.var in
    let a = and_parts (is_used labels v.var) (list_any is_slot w.copied || (is_result v.origin && is_slot w.defined)) e in
    let is : home_in hs v.var ≡ value_home labels on numbers v = home-is labels slots on numbers hs g v i (used-wants (is_used labels v.var) v.origin a.0) in
    ⊎_elim
    (λ (c : list_any is_slot w.copied ≡ true). facts.slot_copied (origin-copied labels on numbers v.point v.var v.origin (ap (λ (h : Home). list_any is_slot h.copied) (sym is) ∙ c)))
    (λ (d : (is_result v.origin && is_slot w.defined) ≡ true).
    let b = and_parts (is_result v.origin) (is_slot w.defined) d in
    facts.slot_defined a.0 b.0 (origin-defined labels slots on numbers hs g v i v.origin refl b.0 (ap (λ (h : Home). is_slot h.defined) (sym is) ∙ b.1)))
    (or_cases (list_any is_slot w.copied) (is_result v.origin && is_slot w.defined) a.1)

slots-written : (labels : List Label) (slots : ℕ) (on : Chosen) (numbers : Numbers) (hs : List Home) → Reading labels slots on numbers hs → (k : ℕ) (q : Point) → slice_get (points labels) k ≡ Some q
    → list_any (comes_to_slot labels (read_off labels slots on numbers hs)) (place_values k q.place) ≡ true → some_on on (WriteVia k) ≡ true
slots-written labels slots on numbers hs g k q at e =
    let w = any-in (comes_to_slot labels (read_off labels slots on numbers hs)) (place_values k q.place) e in
    let v = w.0 in
    subst (λ n. some_on on (WriteVia n) ≡ true) (value-point v k q.place w.1)
    (value-written labels slots on numbers hs g v (values-among v 0 k k (points labels) q (omega arith) at w.1) w.2)

-- ---- at a point

pub passing : (labels : List Label) (slots : ℕ) (on : Chosen) (numbers : Numbers) (hs : List Home) → Reading labels slots on numbers hs → (k : ℕ) (q : Point) → slice_get (points labels) k ≡ Some q → PassesSlots labels (read_off labels slots on numbers hs) k q
passing labels slots on numbers hs g k q at =
    passes-slots labels slots on numbers hs k q (g.facts.points k q at) (pass-at on (points labels) 0 k k q (omega arith) at)
    (slots-read labels slots on numbers hs g k q at) (slots-written labels slots on numbers hs g k q at)

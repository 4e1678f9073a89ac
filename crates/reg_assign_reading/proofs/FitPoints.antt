-- Accesses begin where they may, reads fill no register in which a value stays, and slots pass through registers that are named.
use Rattle.std.proofs.Common.{◌≡◌, ℕ, zero, suc, ◌+◌, ◌<◌, ◌≤◌, Bool, true, false, not, nat_eq, ◌||◌, List, [], ◌∷◌, refl, sym, ap, subst, ◌∙◌, arith}
use Rattle.std.specs.Prelude.{is_some, nat_le, ◌%◌, ◌/◌}
use Rattle.std.specs.List.{list_any}
use Rattle.std.proofs.lemmas.Bool.{and_parts, and_from, or_from, not_from_false, false_from_ne_true, leb-true}
use Rattle.nv_base.proofs.Sets.{same-number}
use Rattle.nv_base.specs.declared.term.Mem.{Mem}
use Rattle.nv_base.specs.declared.term.Mem.TheVariants.{Sram, Sdram, Scratch}
use Rattle.ssu_ir.specs.Tree.{Label}
use Rattle.ssu_ir.specs.Points.{Point}
use Rattle.place_plan.specs.declared.place.Place.{Place}
use Rattle.place_plan.specs.declared.place.Pass.{Pass}
use Rattle.place_plan.specs.Places.{same_place}
use Rattle.place_plan.specs.Plan.{Home, Plan, home, first, pass}
use Rattle.place_plan.specs.Uses.{Access, place_values, place_roles, uses_at}
use Rattle.place_plan.specs.Fits.{read_place, IsFirst, is_slot, served, stays, kept_register, read_places, none_shared, run_of, comes_to_slot, IsEighth, PassesSlots}
use Rattle.place_plan.proofs.Spilled.{none-with-nothing}
use Rattle.bank_prog_form.specs.declared.column.Column.TheVariants.{First, ReadVia, WriteVia}
use Rattle.bank_prog_form.specs.Columns.{eight, may_begin}
use Rattle.bank_prog_form.specs.Rows.{is_sdram}
use Rattle.bank_prog.specs.Meaning.{Chosen}
use Rattle.reg_assign_reading.specs.inner.Facts.{some_on, Covers, StaysIn, PointFacts}
use Rattle.reg_assign_reading.specs.ReadOff.{Numbers, first_on, pass_l, pass_s, read_off}
use Rattle.reg_assign_reading.proofs.ReadParts.{is-eighth, first-on-any, some-first-on}
use Rattle.reg_assign_reading.proofs.FitHeld.{Staying, same-read}

-- ---- a read fills no register in which a value stays

-- a place that is none of a run's shares nothing with it
run-clear : (n : Mem) (q : Place) (f w : ℕ) → ((g : ℕ) → f ≤ g → g < f + w → same_place (read_place n g) q ≡ false) → none_shared (run_of (read_place n) f w) (q ∷ []) ≡ true
run-clear n q f zero h = refl
run-clear n q f (suc w) h =
    and_from (not (same_place (read_place n f) q || false)) (none_shared (run_of (read_place n) (suc f) w) (q ∷ []))
    (not_from_false (same_place (read_place n f) q || false) (or_from (same_place (read_place n f) q) false (h f (omega arith) (omega arith)) refl))
    (run-clear n q (suc f) w (λ g l m. h g (omega arith) (omega arith)))

pub read-clear : (labels : List Label) (p : Plan) (on : Chosen) (x : ℕ) (a : Access) (f : ℕ) → first p a.point ≡ f → on (First a.point f) ≡ true → ((r : ℕ) → StaysIn labels on x (is_sdram a.mem) r → Covers on a r → ⊥) → (stays labels p x ≡ true → Staying labels p on x)
    → none_shared (run_of (read_place a.mem) (first p a.point) a.words) (read_places labels p x) ≡ true
read-clear labels p on x a f e o never staying = pick (stays labels p x) refl
  where
    pick : (b : Bool) → stays labels p x ≡ b → none_shared (run_of (read_place a.mem) (first p a.point) a.words) (kept_register labels p x b) ≡ true
    pick false g = none-with-nothing (run_of (read_place a.mem) (first p a.point) a.words)
    pick true g =
        let s = staying g in
        run-clear a.mem (home p x).defined (first p a.point) a.words (λ r l h. false_from_ne_true (same_place (read_place a.mem r) (home p x).defined) (λ c.
        let w = same-read a.mem s.mem r s.number (ap (λ q. same_place (read_place a.mem r) q) (sym s.place_is) ∙ c) in
        let n = w.number in
        never s.number (subst (λ d. StaysIn labels on x d s.number) (sym w.side) s.stays_in) (record { first = f; chosen = o; low = omega arith; high = omega arith })))

-- ---- through which registers slots pass

some-on-first : (f : ℕ → Bool) → list_any f eight ≡ true → is_some (first_on f eight) ≡ true
some-on-first f e = first-on-any f eight e

pub passes-slots : (labels : List Label) (slots : ℕ) (on : Chosen) (numbers : Numbers) (hs : List Home) (k : ℕ) (q : Point) → PointFacts labels slots on k q → pass (read_off labels slots on numbers hs) k ≡ record { point = k; l = pass_l on k; s = pass_s on k }
    → (list_any (λ u. is_slot (served (read_off labels slots on numbers hs) u).from) (uses_at k 0 q.uses (place_roles q.place)) ≡ true → some_on on (ReadVia k) ≡ true)
    → (list_any (comes_to_slot labels (read_off labels slots on numbers hs)) (place_values k q.place) ≡ true → some_on on (WriteVia k) ≡ true) → PassesSlots labels (read_off labels slots on numbers hs) k q
passes-slots labels slots on numbers hs k q at e reads writes = record {
  read = subst (λ (w : Pass). IsEighth w.l) (sym e) (is-eighth (λ r. on (ReadVia k r)));
  written = subst (λ (w : Pass). IsEighth w.s) (sym e) (is-eighth (λ r. on (WriteVia k r)));
  reads = λ h. ap (λ (w : Pass). is_some w.l) e ∙ some-on-first (λ r. on (ReadVia k r)) (reads h);
  reads_only = λ h. let w = some-first-on (λ r. on (ReadVia k r)) eight (ap (λ (w : Pass). is_some w.l) (sym e) ∙ h) in at.read_pass w.0 w.1;
  writes = λ h. ap (λ (w : Pass). is_some w.s) e ∙ some-on-first (λ r. on (WriteVia k r)) (writes h);
  writes_only = λ h. let w = some-first-on (λ r. on (WriteVia k r)) eight (ap (λ (w : Pass). is_some w.s) (sym e) ∙ h) in at.write_pass w.0 w.1;
}

-- ---- where an access may begin

pub first-fits : (m : Mem) (n f : ℕ) → may_begin m n f ≡ true → IsFirst m n f
first-fits Sram n f e = leb-true (f + n) 8 e
first-fits Scratch n f e = leb-true (f + n) 8 e
first-fits Sdram n f e =
    let p = and_parts (nat_le (f + n) 8) (nat_eq (f % 2) 0) e in
    let z : f % 2 ≡ 0 = same-number (f % 2) 0 p.1 in
    (leb-true (f + n) 8 p.0, (f / 2, omega arith))

-- The two operands of an instruction come from different groups of registers.
use Rattle.std.proofs.Common.{◌≡◌, ℕ, ◌≤◌, true, false, Option, Some, None, List, [], ◌∷◌, if◌then◌else◌, ◌++◌, length, refl, sym, ap, subst, ◌∙◌, arith}
use Rattle.std.proofs.lemmas.Bool.{false≢true}
use Rattle.nv_base.specs.declared.term.Mem.{Mem}
use Rattle.nv_base.specs.declared.term.Mem.TheVariants.{Sram, Sdram, Scratch}
use Rattle.ssu_ir.specs.Tree.{Label}
use Rattle.place_plan.specs.declared.place.Place.{Place}
use Rattle.place_plan.specs.declared.place.Place.TheVariants as place
use Rattle.place_plan.specs.declared.place.Serve.{Serve}
use Rattle.place_plan.specs.Plan.{Home, serve}
use Rattle.place_plan.specs.Uses.{values, Role, Operand, Address, Written, Argument, Ending, Use, uses_at, uses}
use Rattle.place_plan.specs.Fits.{read_place, different_groups, AreApart}
use Rattle.place_plan.proofs.Sound.{Each}
use Rattle.bank_prog_form.specs.declared.column.Bank.{Bank}
use Rattle.bank_prog_form.specs.declared.column.Bank.TheVariants.{A, B, T, L, A15}
use Rattle.bank_prog_form.specs.declared.column.Column.TheVariants.{Serve as ServeColumn}
use Rattle.bank_prog_form.specs.declared.column.Service.{Service}
use Rattle.bank_prog_form.specs.Columns.{services}
use Rattle.bank_prog_form.specs.Rows.{dir, ear, srv, early, is_written, two_operands}
use Rattle.bank_prog.specs.Meaning.{Chosen}
use Rattle.reg_assign_reading.specs.inner.Facts.{count, UseFacts, same_group}
use Rattle.reg_assign_reading.specs.ReadOff.{Numbers, service_on, place_in, bank_place, target, serve_by, use_serve, read_off}
use Rattle.reg_assign_reading.proofs.ReadParts.{IsFound}
use Rattle.reg_assign_reading.proofs.FitWords.{service-each, service-none}
use Rattle.reg_assign_reading.proofs.FitServed.{IsReadPlace}

-- ---- groups of registers

-- a place at which an operand that is brought into a bank is fetched
pub data InGroup : Bank → Place → Type 0 where
  in_a : (k : ℕ) → InGroup A (place.A k)
  in_b : (k : ℕ) → InGroup B (place.B k)
  in_l : (k : ℕ) → InGroup L (place.L k)
  own : (k : ℕ) → InGroup A15 (place.A k)
  stay_l : (k : ℕ) → InGroup T (place.L k)
  stay_ld : (k : ℕ) → InGroup T (place.LD k)

groups-apart : (p j : Bank) (q r : Place) → InGroup p q → InGroup j r → same_group p j ≡ false → different_groups q r ≡ true
groups-apart _ _ _ _ (in_a i) (in_a j) n = absurd (false≢true (sym n))
groups-apart _ _ _ _ (in_a i) (in_b j) n = refl
groups-apart _ _ _ _ (in_a i) (in_l j) n = refl
groups-apart _ _ _ _ (in_a i) (own j) n = absurd (false≢true (sym n))
groups-apart _ _ _ _ (in_a i) (stay_l j) n = refl
groups-apart _ _ _ _ (in_a i) (stay_ld j) n = refl
groups-apart _ _ _ _ (in_b i) (in_a j) n = refl
groups-apart _ _ _ _ (in_b i) (in_b j) n = absurd (false≢true (sym n))
groups-apart _ _ _ _ (in_b i) (in_l j) n = refl
groups-apart _ _ _ _ (in_b i) (own j) n = refl
groups-apart _ _ _ _ (in_b i) (stay_l j) n = refl
groups-apart _ _ _ _ (in_b i) (stay_ld j) n = refl
groups-apart _ _ _ _ (in_l i) (in_a j) n = refl
groups-apart _ _ _ _ (in_l i) (in_b j) n = refl
groups-apart _ _ _ _ (in_l i) (in_l j) n = absurd (false≢true (sym n))
groups-apart _ _ _ _ (in_l i) (own j) n = refl
groups-apart _ _ _ _ (in_l i) (stay_l j) n = absurd (false≢true (sym n))
groups-apart _ _ _ _ (in_l i) (stay_ld j) n = absurd (false≢true (sym n))
groups-apart _ _ _ _ (own i) (in_a j) n = absurd (false≢true (sym n))
groups-apart _ _ _ _ (own i) (in_b j) n = refl
groups-apart _ _ _ _ (own i) (in_l j) n = refl
groups-apart _ _ _ _ (own i) (own j) n = absurd (false≢true (sym n))
groups-apart _ _ _ _ (own i) (stay_l j) n = refl
groups-apart _ _ _ _ (own i) (stay_ld j) n = refl
groups-apart _ _ _ _ (stay_l i) (in_a j) n = refl
groups-apart _ _ _ _ (stay_l i) (in_b j) n = refl
groups-apart _ _ _ _ (stay_l i) (in_l j) n = absurd (false≢true (sym n))
groups-apart _ _ _ _ (stay_l i) (own j) n = refl
groups-apart _ _ _ _ (stay_l i) (stay_l j) n = absurd (false≢true (sym n))
groups-apart _ _ _ _ (stay_l i) (stay_ld j) n = absurd (false≢true (sym n))
groups-apart _ _ _ _ (stay_ld i) (in_a j) n = refl
groups-apart _ _ _ _ (stay_ld i) (in_b j) n = refl
groups-apart _ _ _ _ (stay_ld i) (in_l j) n = absurd (false≢true (sym n))
groups-apart _ _ _ _ (stay_ld i) (own j) n = refl
groups-apart _ _ _ _ (stay_ld i) (stay_l j) n = absurd (false≢true (sym n))
groups-apart _ _ _ _ (stay_ld i) (stay_ld j) n = absurd (false≢true (sym n))

read-group : (m : Mem) (n : ℕ) → InGroup T (read_place m n)
read-group Sram n = stay_l n
read-group Sdram n = stay_ld n
read-group Scratch n = stay_l n

-- ---- an operand

abbrev IsGrouped : List Label → Chosen → Numbers → Use → Service → Type 0
IsGrouped labels on numbers u s = (s.from ≡ T → IsReadPlace (place_in on (values labels) u.value)) → InGroup s.at (bank_place labels on numbers u s.at)

operands-grouped : (labels : List Label) (on : Chosen) (numbers : Numbers) (u : Use) → Each (IsGrouped labels on numbers u) (services Operand)
operands-grouped labels on numbers u = (
  λ r. in_a _,
  (
    λ r. in_b _,
    (
      λ r. let w = r refl in subst (InGroup T) (sym w.is) (read-group w.mem w.number),
      (λ r. in_l _, (λ r. own _, (λ r. own _, (λ r. own _, tt)))),
    ),
  ),
)

-- where an operand is fetched, by the service that is on
record Fetch (labels : List Label) (on : Chosen) (numbers : Numbers) (u : Use) : Type 0 where
  from : Bank
  at : Bank
  chosen : on (ServeColumn u.point u.operand from at) ≡ true
  group : InGroup at (use_serve labels on numbers u).at

operand-at : (labels : List Label) (on : Chosen) (numbers : Numbers) (u : Use) → u.role ≡ Operand → UseFacts labels on u → ((p : Bank) → on (ServeColumn u.point u.operand T p) ≡ true → IsReadPlace (place_in on (values labels) u.value)) → Fetch labels on numbers u
operand-at labels on numbers u e f read = pick (service_on on u (services u.role)) refl
  where
    pick : (o : Option Service) → service_on on u (services u.role) ≡ o → Fetch labels on numbers u
    pick (Some s) g =
        let h : service_on on u (services Operand) ≡ Some s = subst (λ r. service_on on u (services r) ≡ Some s) e g in
        let w = service-each on u (IsGrouped labels on numbers u) (services Operand) s (operands-grouped labels on numbers u) h in
        let is : (use_serve labels on numbers u).at ≡ bank_place labels on numbers u s.at =
        ap (λ o. (serve_by labels on numbers u o).at) g ∙ ap (λ r. target labels on numbers u s.at r) e in
        record {
          from = s.from;
          at = s.at;
          chosen = w.1;
          group = subst (InGroup s.at) (sym is) (w.0 (λ t. read s.at (subst (λ h. on (ServeColumn u.point u.operand h s.at) ≡ true) t w.1)));
        }
    pick None g =
        let one = f.once in
        let none : count on (srv u) ≡ 0 = service-none on u (services u.role) g in
        let early-none : count on (early u) ≡ 0 = ap (λ r. count on (if is_written r then dir u ++ ear u else [])) e in
        absurd (omega arith)

-- ---- two operands

abbrev pub IsFetched : List Label → Chosen → Use → Type 0
IsFetched labels on u = (p : Bank) → on (ServeColumn u.point u.operand T p) ≡ true → IsReadPlace (place_in on (values labels) u.value)

two-apart : (labels : List Label) (slots : ℕ) (on : Chosen) (numbers : Numbers) (hs : List Home) (k : ℕ) (xs : List ℕ) (rs : List Role) → 2 ≤ length xs → ((h p i j : Bank) → on (ServeColumn k 0 h p) ≡ true → on (ServeColumn k 1 i j) ≡ true → same_group p j ≡ false)
    → Each (IsFound labels on numbers (uses labels)) (uses_at k 0 xs (Operand ∷ Operand ∷ rs)) → Each (UseFacts labels on) (uses_at k 0 xs (Operand ∷ Operand ∷ rs)) → Each (IsFetched labels on) (uses_at k 0 xs (Operand ∷ Operand ∷ rs))
    → different_groups (serve (read_off labels slots on numbers hs) k 0).at (serve (read_off labels slots on numbers hs) k 1).at ≡ true
two-apart labels slots on numbers hs k [] rs l d f g r = absurd (omega arith)
two-apart labels slots on numbers hs k (x ∷ []) rs l d f g r = absurd (omega arith)
two-apart labels slots on numbers hs k (x ∷ y ∷ xs) rs l d f g r =
    let u : Use = record { point = k; operand = 0; value = x; role = Operand } in
    let v : Use = record { point = k; operand = 1; value = y; role = Operand } in
    let a = operand-at labels on numbers u refl g.0 r.0 in
    let b = operand-at labels on numbers v refl g.1.0 r.1.0 in
    ap (λ (s : Serve). different_groups s.at (serve (read_off labels slots on numbers hs) k 1).at) f.0
    ∙ ap (λ (s : Serve). different_groups (use_serve labels on numbers u).at s.at) f.1.0
    ∙ groups-apart a.at b.at (use_serve labels on numbers u).at (use_serve labels on numbers v).at a.group b.group (d a.from a.at b.from b.at a.chosen b.chosen)

pub operands-apart : (labels : List Label) (slots : ℕ) (on : Chosen) (numbers : Numbers) (hs : List Home) (k : ℕ) (rs : List Role) (xs : List ℕ) → length rs ≡ length xs → (two_operands rs ≡ true → (h p i j : Bank) → on (ServeColumn k 0 h p) ≡ true → on (ServeColumn k 1 i j) ≡ true → same_group p j ≡ false)
    → Each (IsFound labels on numbers (uses labels)) (uses_at k 0 xs rs) → Each (UseFacts labels on) (uses_at k 0 xs rs) → Each (IsFetched labels on) (uses_at k 0 xs rs) → AreApart rs (read_off labels slots on numbers hs) k
operands-apart labels slots on numbers hs k [] xs e d f g r = tt
operands-apart labels slots on numbers hs k (Address ∷ rs) xs e d f g r = tt
operands-apart labels slots on numbers hs k (Written m i ∷ rs) xs e d f g r = tt
operands-apart labels slots on numbers hs k (Argument l i ∷ rs) xs e d f g r = tt
operands-apart labels slots on numbers hs k (Ending i ∷ rs) xs e d f g r = tt
operands-apart labels slots on numbers hs k (Operand ∷ []) xs e d f g r = tt
operands-apart labels slots on numbers hs k (Operand ∷ Address ∷ rs) xs e d f g r = tt
operands-apart labels slots on numbers hs k (Operand ∷ Written m i ∷ rs) xs e d f g r = tt
operands-apart labels slots on numbers hs k (Operand ∷ Argument l i ∷ rs) xs e d f g r = tt
operands-apart labels slots on numbers hs k (Operand ∷ Ending i ∷ rs) xs e d f g r = tt
operands-apart labels slots on numbers hs k (Operand ∷ Operand ∷ rs) xs e d f g r = two-apart labels slots on numbers hs k xs rs (omega arith) (d refl) f g r

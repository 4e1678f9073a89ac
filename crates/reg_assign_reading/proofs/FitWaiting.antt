-- The words that a choice of columns puts early have write registers of their own while they wait.
use Rattle.std.proofs.Common.{◌≡◌, ℕ, zero, suc, ◌+◌, ◌<◌, ◌≤◌, Bool, true, false, if◌then◌else◌, ◌⊎◌, inl, inr, ⊎_elim, Option, Some, None, List, [], ◌∷◌, ◌++◌, map, refl, sym, ap, subst, ◌∙◌, arith}
use Rattle.std.specs.Prelude.{slice_get, Contains}
use Rattle.std.specs.List.{list_any}
use Rattle.std.proofs.lemmas.Bool.{and_parts, or_cases, or_left, or_right, false≢true, false_from_ne_true}
use Rattle.nv_base.proofs.Sets.{same-number}
use Rattle.nv_base.specs.declared.term.Mem.{Mem}
use Rattle.nv_base.specs.declared.term.Mem.TheVariants.{Sram, Sdram, Scratch}
use Rattle.ssu_ir.specs.Tree.{Label}
use Rattle.ssu_ir.specs.Points.{Point}
use Rattle.place_plan.specs.declared.place.Place.{Place}
use Rattle.place_plan.specs.declared.place.Place.TheVariants.{S}
use Rattle.place_plan.specs.Places.{same_place}
use Rattle.place_plan.specs.Plan.{Home, first, pass}
use Rattle.place_plan.specs.Uses.{Access, writes_at, Role, Operand, Address, Written, Argument, Ending, Use, uses}
use Rattle.place_plan.specs.Fits.{write_place, word_register, is_early, maybe, has_place, run_of, Waits, KeepsWaiting}
use Rattle.bank_prog_form.specs.declared.column.Column.{Column}
use Rattle.bank_prog_form.specs.declared.column.Column.TheVariants.{DirectWrite, EarlyWrite, First, WriteVia}
use Rattle.bank_prog_form.specs.Columns.{eight}
use Rattle.bank_prog_form.specs.Rows.{dir, ear, is_written, is_sdram}
use Rattle.bank_prog.specs.Meaning.{Chosen}
use Rattle.bank_prog_rows.proofs.Present.{contains-other}
use Rattle.ssu_liveness.proofs.Scoped.{in-itself}
use Rattle.place_plan.proofs.Sound.{Each}
use Rattle.place_plan.proofs.Spilled.{each-all, each-at}
use Rattle.reg_assign_reading.specs.inner.Facts.{early_in, UseFacts, WaitsIn, waits_at, PointFacts}
use Rattle.reg_assign_reading.specs.ReadOff.{Numbers, begins, pass_s, goes_early, word_place, role_place, read_off}
use Rattle.reg_assign_reading.proofs.ReadParts.{first-on-each, eight-low, FirstsThere, first-read}
use Rattle.reg_assign_reading.proofs.FitWords.{early-written, IsEarlySame, word-same}

-- ---- lists

pub contains-here : {X : Type 0} (x : X) (xs : List X) → Contains (x ∷ xs) x
contains-here x xs = (0, omega arith, refl)

pub contains-at : {X : Type 0} (xs : List X) (i : ℕ) (x : X) → slice_get xs i ≡ Some x → Contains xs x
contains-at [] i x e = absurd (cc)
contains-at (y ∷ xs) zero x e = let same : y ≡ x = cc in subst (λ z. Contains (y ∷ xs) z) same (contains-here y xs)
contains-at (y ∷ xs) (suc i) x e = contains-other x y xs (contains-at xs i x e)

pub each-contained : {X : Type 0} (P : X → Type 0) (xs : List X) → ((x : X) → Contains xs x → P x) → Each P xs
each-contained P [] h = tt
each-contained P (x ∷ xs) h = (h x (contains-here x xs), each-contained P xs (λ y c. h y (contains-other y x xs c)))

pub any-of-map : (on : Chosen) (c : ℕ → Column) (rs : List ℕ) → list_any on (map c rs) ≡ true → (r : ℕ) × (on (c r) ≡ true)
any-of-map on c [] e = absurd (false≢true e)
any-of-map on c (r ∷ rs) e = ⊎_elim (λ (a : on (c r) ≡ true). (r, a)) (λ (b : list_any on (map c rs) ≡ true). any-of-map on c rs b) (or_cases (on (c r)) (list_any on (map c rs)) e)

pub any-either : (on : Chosen) (a b : List Column) → list_any on (a ++ b) ≡ true → (list_any on a ≡ true) ⊎ (list_any on b ≡ true)
any-either on [] b e = inr e
any-either on (c ∷ a) b e = ⊎_elim
    (λ (h : on c ≡ true). inl (or_left (on c) (list_any on a) h))
    (λ (h : list_any on (a ++ b) ≡ true). ⊎_elim (λ (k : list_any on a ≡ true). inl (or_right (on c) (list_any on a) k)) (λ (k : list_any on b ≡ true). inr k) (any-either on a b h))
    (or_cases (on c) (list_any on (a ++ b)) e)

-- ---- where a word waits

early-first : (on : Chosen) (u : Use) (b : Bool) → list_any on (if b then dir u ++ ear u else []) ≡ true → (f : ℕ) × (early_in on u f ≡ true)
early-first on u false e = absurd (false≢true e)
early-first on u true e = ⊎_elim
    (λ (h : list_any on (dir u) ≡ true). let w = any-of-map on (DirectWrite u.point u.operand) eight h in (w.0, or_left (on (DirectWrite u.point u.operand w.0)) (on (EarlyWrite u.point u.operand w.0)) w.1))
    (λ (h : list_any on (ear u) ≡ true). let w = any-of-map on (EarlyWrite u.point u.operand) eight h in (w.0, or_right (on (DirectWrite u.point u.operand w.0)) (on (EarlyWrite u.point u.operand w.0)) w.1))
    (any-either on (dir u) (ear u) e)

-- the register of a word that is put early
pub record Register (on : Chosen) (u : Use) : Type 0 where
  pub mem : Mem
  pub number : ℕ
  pub place : word_place on u ≡ write_place mem number
  pub waits : WaitsIn on u (is_sdram mem) number

role-register : (on : Chosen) (u : Use) (f : ℕ) (role : Role) → u.role ≡ role → is_written role ≡ true → begins on u.point ≡ f → early_in on u f ≡ true → Register on u
role-register on u f (Written m i) e w b c = record {
  mem = m;
  number = f + i;
  place = ap (role_place on u.point) e ∙ ap (λ n. write_place m (n + i)) b;
  waits = record { mem = m; word = i; first = f; role = e; side = refl; chosen = c; register = refl };
}
role-register on u f Operand e w b c = absurd (false≢true w)
role-register on u f Address e w b c = absurd (false≢true w)
role-register on u f (Argument l i) e w b c = absurd (false≢true w)
role-register on u f (Ending i) e w b c = absurd (false≢true w)

pub early-register : (labels : List Label) (on : Chosen) (u : Use) → UseFacts labels on u → ((k f : ℕ) → on (First k f) ≡ true → begins on k ≡ f) → goes_early on u ≡ true → Register on u
early-register labels on u h b g =
    let w = early-first on u (is_written u.role) g in
    role-register on u w.0 u.role refl (early-written on u g) (b u.point w.0 (h.begins w.0 w.1)) w.1

-- two write registers that are one
pub record SameWrite (m n : Mem) (i j : ℕ) : Type 0 where
  pub side : is_sdram m ≡ is_sdram n
  pub number : i ≡ j

pub same-write : (m n : Mem) (i j : ℕ) → same_place (write_place m i) (write_place n j) ≡ true → SameWrite m n i j
same-write Sram Sram i j e = record { side = refl; number = same-number i j e }
same-write Sram Sdram i j e = absurd (false≢true e)
same-write Sram Scratch i j e = record { side = refl; number = same-number i j e }
same-write Sdram Sram i j e = absurd (false≢true e)
same-write Sdram Sdram i j e = record { side = refl; number = same-number i j e }
same-write Sdram Scratch i j e = absurd (false≢true e)
same-write Scratch Sram i j e = record { side = refl; number = same-number i j e }
same-write Scratch Sdram i j e = absurd (false≢true e)
same-write Scratch Scratch i j e = record { side = refl; number = same-number i j e }

pub same-itself : (m : Mem) (i : ℕ) → same_place (write_place m i) (write_place m i) ≡ true
same-itself Sram i = in-itself i
same-itself Sdram i = in-itself i
same-itself Scratch i = in-itself i

-- a run has only registers from its first on, as many as it is long
in-run : (m n : Mem) (i f w : ℕ) → has_place (write_place m i) (run_of (write_place n) f w) ≡ true → (is_sdram m ≡ is_sdram n) × ((f ≤ i) × (i < f + w))
in-run m n i f zero e = absurd (false≢true e)
in-run m n i f (suc w) e = ⊎_elim
    (λ (a : same_place (write_place m i) (write_place n f) ≡ true). let s = same-write m n i f a in let k = s.number in (s.side, (omega arith, omega arith)))
    (λ (b : has_place (write_place m i) (run_of (write_place n) (suc f) w) ≡ true). let r = in-run m n i (suc f) w b in let l = r.1.0 in let h = r.1.1 in (r.0, (omega arith, omega arith)))
    (or_cases (same_place (write_place m i) (write_place n f)) (has_place (write_place m i) (run_of (write_place n) (suc f) w)) e)

in-pass : (m : Mem) (i : ℕ) (o : Option ℕ) → has_place (write_place m i) (maybe S o) ≡ true → (is_sdram m ≡ false) × (o ≡ Some i)
in-pass m i None e = absurd (false≢true e)
in-pass m i (Some r) e = ⊎_elim
    (λ (a : same_place (write_place m i) (S r) ≡ true). let s = same-write m Sram i r a in (s.side, ap (λ n. Some n) (sym s.number)))
    (λ (b : false ≡ true). absurd (false≢true b))
    (or_cases (same_place (write_place m i) (S r)) false e)

-- ---- at a point

pub waits-use : (labels : List Label) (slots : ℕ) (on : Chosen) (numbers : Numbers) (hs : List Home) (k : ℕ) (q : Point) (u : Use) → Each (IsEarlySame labels slots on numbers hs) (uses labels) → Waits labels (read_off labels slots on numbers hs) k q u
    → Contains (uses labels) u × ((goes_early on u ≡ true) × (waits_at k q u ≡ true))
waits-use labels slots on numbers hs k q u h w =
    let c = contains-at (uses labels) w.there.0 u w.there.1 in
    let p = and_parts (is_early (read_off labels slots on numbers hs) u) (waits_at k q u) w.waiting in
    (c, (sym (each-at (IsEarlySame labels slots on numbers hs) (uses labels) w.there.0 u h w.there.1) ∙ p.0, p.1))

pub keeps-waiting : (labels : List Label) (slots : ℕ) (on : Chosen) (numbers : Numbers) (hs : List Home) (k : ℕ) (q : Point) → FirstsThere labels on → ((k f : ℕ) → on (First k f) ≡ true → begins on k ≡ f)
    → Each (IsEarlySame labels slots on numbers hs) (uses labels) → Each (UseFacts labels on) (uses labels) → PointFacts labels slots on k q → (pass (read_off labels slots on numbers hs) k).s ≡ pass_s on k
    → ((a : Access) → Contains (writes_at k q.place) a → (a.point ≡ k) × (on (First k (begins on k)) ≡ true)) → KeepsWaiting labels (read_off labels slots on numbers hs) k q
keeps-waiting labels slots on numbers hs k q there b early facts at pass-is access =
    let p = read_off labels slots on numbers hs in
    let register : (u : Use) → Waits labels p k q u → Register on u = λ u w.
    early-register labels on u (each-at (UseFacts labels on) (uses labels) w.there.0 u facts w.there.1) b (waits-use labels slots on numbers hs k q u early w).1.0 in
    let place-is : (u : Use) (w : Waits labels p k q u) → word_register p u ≡ write_place (register u w).mem (register u w).number = λ u w.
    word-same labels slots on numbers hs there u ∙ (register u w).place in
    record {
      apart = λ u v wu wv ne same.
          let ru = register u wu in
          let rv = register v wv in
          let au = waits-use labels slots on numbers hs k q u early wu in
          let av = waits-use labels slots on numbers hs k q v early wv in
          let e : write_place ru.mem ru.number ≡ write_place rv.mem rv.number = sym (place-is u wu) ∙ same ∙ place-is v wv in
          let s = same-write ru.mem rv.mem ru.number rv.number (ap (λ (r : Place). same_place (write_place ru.mem ru.number) r) (sym e) ∙ same-itself ru.mem ru.number) in
          at.wait_apart u v au.0 av.0 au.1.1 av.1.1 ne (is_sdram rv.mem) rv.number
          (subst (λ n. WaitsIn on u (is_sdram rv.mem) n) s.number (subst (λ d. WaitsIn on u d ru.number) s.side ru.waits)) rv.waits;
      read_through = λ u w. false_from_ne_true (has_place (word_register p u) (maybe S (pass p k).s)) (λ e.
          let ru = register u w in
          let au = waits-use labels slots on numbers hs k q u early w in
          let f : has_place (write_place ru.mem ru.number) (maybe S (pass_s on k)) ≡ true =
          ap (λ (r : Place). has_place r (maybe S (pass_s on k))) (sym (place-is u w)) ∙ ap (λ o. has_place (word_register p u) (maybe S o)) (sym pass-is) ∙ e in
          let s = in-pass ru.mem ru.number (pass_s on k) f in
          let off = at.wait_through u au.0 au.1.1 ru.number (subst (λ d. WaitsIn on u d ru.number) s.0 ru.waits) in
          let is-on = (first-on-each (λ r. on (WriteVia k r)) (λ r. r < 8) eight ru.number eight-low s.1).1 in
          false≢true (sym off ∙ is-on));
      written = λ u w.
          let ru = register u w in
          let au = waits-use labels slots on numbers hs k q u early w in
          each-all (λ (a : Access). has_place (word_register p u) (run_of (write_place a.mem) (first p k) a.words) ≡ false) (writes_at k q.place)
          (each-contained (λ (a : Access). has_place (word_register p u) (run_of (write_place a.mem) (first p k) a.words) ≡ false) (writes_at k q.place)
          (λ a c. false_from_ne_true (has_place (word_register p u) (run_of (write_place a.mem) (first p k) a.words)) (λ e.
          let f : has_place (write_place ru.mem ru.number) (run_of (write_place a.mem) (begins on k) a.words) ≡ true =
          ap (λ (r : Place). has_place r (run_of (write_place a.mem) (begins on k) a.words)) (sym (place-is u w))
          ∙ ap (λ n. has_place (word_register p u) (run_of (write_place a.mem) n a.words)) (sym (first-read labels slots on numbers hs there k)) ∙ e in
          let s = in-run ru.mem a.mem ru.number (begins on k) a.words f in
          let g = access a c in
          at.wait_written a c u au.0 au.1.1 ru.number (subst (λ d. WaitsIn on u d ru.number) s.0 ru.waits)
          (record { first = begins on k; chosen = ap (λ n. on (First n (begins on k))) g.0 ∙ g.1; low = s.1.0; high = s.1.1 }))));
    }

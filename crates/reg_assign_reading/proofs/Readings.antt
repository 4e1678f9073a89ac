-- What the code asks of a vector: the first column of a family that is on, whether a word is put early, and how a use is served.
use Rattle.std.proofs.Common.{◌≡◌, ℕ, if◌then◌else◌, zero, suc, ◌+◌, ◌<◌, ◌≤◌, Bool, true, false, ◌||◌, ⊎_elim, Option, Some, None, List, [], ◌∷◌, ◌++◌, length, map, drop, get_or, refl, sym, ap, ◌∙◌, arith, eq-or-lt_of_le}
use Rattle.std.specs.Prelude.{is_some}
use Rattle.std.specs.List.{list_any}
use Rattle.std.proofs.lemmas.Bool.{false≢true}
use Rattle.std.proofs.lemmas.List.{at_drop_more, at_drop_all}
use Rattle.place_plan.specs.Uses.{Use}
use Rattle.bank_prog_form.specs.declared.column.Column.{Column}
use Rattle.bank_prog_form.specs.declared.column.Column.TheVariants.{DirectWrite, EarlyWrite, Serve}
use Rattle.bank_prog_form.specs.declared.column.Service.{Service}
use Rattle.bank_prog_form.specs.Columns.{eight}
use Rattle.bank_prog_form.specs.Rows.{dir, ear, is_written}
use Rattle.bank_prog.specs.Meaning.{Chosen}
use Rattle.reg_assign_reading.specs.ReadOff.{first_on, goes_early, service_on}

-- ---- the first that passes a test

-- n numbers from i on
abbrev from_to : ℕ → ℕ → List ℕ
from_to i zero = []
from_to i (suc n) = i ∷ from_to (suc i) n

first-from : (f : ℕ → Bool) (i n r : ℕ) → i ≤ r → r < i + n → ((j : ℕ) → j < r → f j ≡ false) → f r ≡ true → first_on f (from_to i n) ≡ Some r
first-from f i zero r l h none e = absurd (omega arith)
first-from f i (suc n) r l h none e = ⊎_elim
    (λ (a : i ≡ r). here (f i) (ap f a ∙ e) ∙ ap Some a)
    (λ (b : i < r). later (f i) (none i b) ∙ first-from f (suc i) n r (omega arith) (omega arith) none e)
    (eq-or-lt_of_le l)
  where
    here : (b : Bool) → b ≡ true → (if b then Some i else first_on f (from_to (suc i) n)) ≡ Some i
    here true q = refl
    here false q = absurd (false≢true q)

    later : (b : Bool) → b ≡ false → (if b then Some i else first_on f (from_to (suc i) n)) ≡ first_on f (from_to (suc i) n)
    later true q = absurd (false≢true (sym q))
    later false q = refl

none-from : (f : ℕ → Bool) (i n : ℕ) → ((j : ℕ) → j < i + n → f j ≡ false) → first_on f (from_to i n) ≡ None
none-from f i zero none = refl
none-from f i (suc n) none = later (f i) (none i (omega arith)) ∙ none-from f (suc i) n (λ j l. none j (omega arith))
  where
    later : (b : Bool) → b ≡ false → (if b then Some i else first_on f (from_to (suc i) n)) ≡ first_on f (from_to (suc i) n)
    later true q = absurd (false≢true (sym q))
    later false q = refl

-- of eight registers
pub first-eighth : (f : ℕ → Bool) (r : ℕ) → r < 8 → ((j : ℕ) → j < r → f j ≡ false) → f r ≡ true → first_on f eight ≡ Some r
first-eighth f r l none e = first-from f 0 8 r (omega arith) (omega arith) none e

pub no-eighth : (f : ℕ → Bool) → ((j : ℕ) → j < 8 → f j ≡ false) → first_on f eight ≡ None
no-eighth f none = none-from f 0 8 (λ j l. none j (omega arith))

-- ---- a word that is put early

any-first : (f : ℕ → Bool) (rs : List ℕ) → is_some (first_on f rs) ≡ list_any f rs
any-first f [] = refl
any-first f (r ∷ rs) = pick (f r) (any-first f rs)
  where
    pick : (b : Bool) → is_some (first_on f rs) ≡ list_any f rs → is_some (if b then Some r else first_on f rs) ≡ (b || list_any f rs)
    pick true h = refl
    pick false h = h

any-column : (on : Chosen) (column : ℕ → Column) (rs : List ℕ) → list_any (λ r. on (column r)) rs ≡ list_any on (map column rs)
any-column on column [] = refl
any-column on column (r ∷ rs) = ap (λ b. on (column r) || b) (any-column on column rs)

any-both : (on : Chosen) (a b : List Column) → (list_any on a || list_any on b) ≡ list_any on (a ++ b)
any-both on [] b = refl
any-both on (c ∷ a) b = pick (on c) (any-both on a b)
  where
    pick : (d : Bool) → (list_any on a || list_any on b) ≡ list_any on (a ++ b) → ((d || list_any on a) || list_any on b) ≡ (d || list_any on (a ++ b))
    pick true h = refl
    pick false h = h

abbrev pub dir_first : Chosen → Use → Option ℕ
dir_first on u = first_on (λ r. on (DirectWrite u.point u.operand r)) eight

abbrev pub ear_first : Chosen → Use → Option ℕ
ear_first on u = first_on (λ r. on (EarlyWrite u.point u.operand r)) eight

pub early-written : (on : Chosen) (u : Use) → is_written u.role ≡ true → (is_some (dir_first on u) || is_some (ear_first on u)) ≡ goes_early on u
early-written on u w =
    ap (λ b. b || is_some (ear_first on u)) (any-first (λ r. on (DirectWrite u.point u.operand r)) eight ∙ any-column on (DirectWrite u.point u.operand) eight)
    ∙ ap (λ b. list_any on (dir u) || b) (any-first (λ r. on (EarlyWrite u.point u.operand r)) eight ∙ any-column on (EarlyWrite u.point u.operand) eight)
    ∙ any-both on (dir u) (ear u)
    ∙ ap (λ b. list_any on (if b then dir u ++ ear u else [])) (sym w)

-- ---- ways to serve a use

abbrev pub way : Chosen → Use → Service → Bool
way on u s = on (Serve u.point u.operand s.from s.at)

pub service-more : (on : Chosen) (u : Use) (ss : List Service) (i : ℕ) (d : Service) (goal : Option Service) → i < length ss → way on u (get_or ss i d) ≡ false → service_on on u (drop i ss) ≡ goal → service_on on u (drop (i + 1) ss) ≡ goal
service-more on u ss i d goal l e h =
    ap (λ b. if b then Some (get_or ss i d) else service_on on u (drop (i + 1) ss)) (sym e) ∙ sym (at_drop_more (service_on on u) ss i d l) ∙ h

pub service-here : (on : Chosen) (u : Use) (ss : List Service) (i : ℕ) (d : Service) (goal : Option Service) → i < length ss → way on u (get_or ss i d) ≡ true → service_on on u (drop i ss) ≡ goal → Some (get_or ss i d) ≡ goal
service-here on u ss i d goal l e h =
    ap (λ b. if b then Some (get_or ss i d) else service_on on u (drop (i + 1) ss)) (sym e) ∙ sym (at_drop_more (service_on on u) ss i d l) ∙ h

pub service-none : (on : Chosen) (u : Use) (ss : List Service) (i : ℕ) (goal : Option Service) → length ss ≤ i → service_on on u (drop i ss) ≡ goal → None ≡ goal
service-none on u ss i goal l h = sym (at_drop_all (service_on on u) ss i l) ∙ h

-- The homes of the plan that a choice of columns stands for.
use Rattle.std.proofs.Common.{◌≡◌, ℕ, ◌+◌, ◌≤◌, Bool, true, false, nat_eq, if◌then◌else◌, ◌||◌, ⊎_elim, Option, Some, None, List, [], ◌∷◌, ◌++◌, length, map, filter, refl, sym, ap, subst, ◌∙◌, arith}
use Rattle.std.specs.List.{list_any, flat_map}
use Rattle.std.proofs.lemmas.Bool.{or_parts, false≢true, false_from_ne_true}
use Rattle.nv_base.specs.Sets.{is_in}
use Rattle.nv_base.proofs.Sets.{same-number, other-number}
use Rattle.ssu_ir.specs.Tree.{Label}
use Rattle.place_plan.specs.declared.place.Place.{Place}
use Rattle.place_plan.specs.declared.place.Place.TheVariants as place
use Rattle.place_plan.specs.Plan.{Plan}
use Rattle.place_plan.specs.Uses.{Use, uses_of}
use Rattle.place_plan.specs.Fits.{IsGeneral, same_bank, maybe, AreFills}
use Rattle.zo_model.specs.Program.{cost_where}
use Rattle.bank_prog_form.specs.declared.column.Bank.{Bank}
use Rattle.bank_prog_form.specs.declared.column.Bank.TheVariants.{A, B, M, T, L, A15, W}
use Rattle.bank_prog_form.specs.declared.column.Column.TheVariants.{Def, Fill}
use Rattle.bank_prog_form.specs.Rows.{def, dir, ear, is_written}
use Rattle.bank_prog.specs.Meaning.{Chosen}
use Rattle.place_plan.proofs.Sound.{Each, each-append}
use Rattle.place_plan.proofs.Spilled.{each-all}
use Rattle.reg_assign_reading.specs.inner.Facts.{count}
use Rattle.reg_assign_reading.specs.ReadOff.{Numbers, goes_early, def_bank, home_place, word_place, fill_at, fills_of, words_of, copies_of}
use Rattle.reg_assign_reading.proofs.Counts.{count-append}
use Rattle.reg_assign_reading.proofs.ReadParts.{count-none}
use Rattle.reg_assign_reading.proofs.FitWaiting.{any-either}

-- ---- the bank of a definition

abbrev pub is_home_bank : Bank → Bool
is_home_bank A = true
is_home_bank B = true
is_home_bank M = true
is_home_bank T = false
is_home_bank L = false
is_home_bank A15 = false
is_home_bank W = false

abbrev pub bank_of : Bool → Bool → Bool → Option Bank
bank_of a b m = if a then Some A else (if b then Some B else (if m then Some M else None))

abbrev pub which : Bool → Bool → Bool → Bank → Bool
which a b m A = a
which a b m B = b
which a b m M = m
which a b m T = false
which a b m L = false
which a b m A15 = false
which a b m W = false

abbrev pub ones : Bool → Bool → Bool → ℕ
ones a b m = cost_where a 1 + (cost_where b 1 + (cost_where m 1 + 0))

pub bank-is : (a b m : Bool) (h : Bank) → ones a b m ≤ 1 → which a b m h ≡ true → bank_of a b m ≡ Some h
bank-is true b m A n e = refl
bank-is false b m A n e = absurd (false≢true e)
bank-is true true m B n e = absurd (omega arith)
bank-is false true m B n e = refl
bank-is a false m B n e = absurd (false≢true e)
bank-is true b true M n e = absurd (omega arith)
bank-is false true true M n e = absurd (omega arith)
bank-is false false true M n e = refl
bank-is a b false M n e = absurd (false≢true e)
bank-is a b m T n e = absurd (false≢true e)
bank-is a b m L n e = absurd (false≢true e)
bank-is a b m A15 n e = absurd (false≢true e)
bank-is a b m W n e = absurd (false≢true e)

pub bank-some : (a b m : Bool) (h : Bank) → bank_of a b m ≡ Some h → (which a b m h ≡ true) × (is_home_bank h ≡ true)
bank-some true b m h e = let same : A ≡ h = cc in subst (λ g. (which true b m g ≡ true) × (is_home_bank g ≡ true)) same (refl, refl)
bank-some false true m h e = let same : B ≡ h = cc in subst (λ g. (which false true m g ≡ true) × (is_home_bank g ≡ true)) same (refl, refl)
bank-some false false true h e = let same : M ≡ h = cc in subst (λ g. (which false false true g ≡ true) × (is_home_bank g ≡ true)) same (refl, refl)
bank-some false false false h e = absurd (cc)

pub bank-none : (a b m : Bool) → bank_of a b m ≡ None → ones a b m ≡ 0
bank-none true b m e = absurd (cc)
bank-none false true m e = absurd (cc)
bank-none false false true e = absurd (cc)
bank-none false false false e = refl

pub bank-count : (a b m : Bool) (h : Bank) → bank_of a b m ≡ Some h → 1 ≤ ones a b m
bank-count true b m h e = omega arith
bank-count false true m h e = omega arith
bank-count false false true h e = omega arith
bank-count false false false h e = absurd (cc)

defined-at : (on : Chosen) (x : ℕ) (h : Bank) → which (on (Def x A)) (on (Def x B)) (on (Def x M)) h ≡ true → on (Def x h) ≡ true
defined-at on x A e = e
defined-at on x B e = e
defined-at on x M e = e
defined-at on x T e = absurd (false≢true e)
defined-at on x L e = absurd (false≢true e)
defined-at on x A15 e = absurd (false≢true e)
defined-at on x W e = absurd (false≢true e)

pub def-bank-is : (on : Chosen) (x : ℕ) (h : Bank) → is_home_bank h ≡ true → count on (def x) ≤ 1 → on (Def x h) ≡ true → def_bank on x ≡ Some h
def-bank-is on x A i n e = bank-is (on (Def x A)) (on (Def x B)) (on (Def x M)) A n e
def-bank-is on x B i n e = bank-is (on (Def x A)) (on (Def x B)) (on (Def x M)) B n e
def-bank-is on x M i n e = bank-is (on (Def x A)) (on (Def x B)) (on (Def x M)) M n e
def-bank-is on x T i n e = absurd (false≢true i)
def-bank-is on x L i n e = absurd (false≢true i)
def-bank-is on x A15 i n e = absurd (false≢true i)
def-bank-is on x W i n e = absurd (false≢true i)

pub def-bank-some : (on : Chosen) (x : ℕ) (h : Bank) → def_bank on x ≡ Some h → (on (Def x h) ≡ true) × (is_home_bank h ≡ true)
def-bank-some on x h e = let w = bank-some (on (Def x A)) (on (Def x B)) (on (Def x M)) h e in (defined-at on x h w.0, w.1)

pub def-bank-none : (on : Chosen) (x : ℕ) → def_bank on x ≡ None → count on (def x) ≡ 0
def-bank-none on x e = bank-none (on (Def x A)) (on (Def x B)) (on (Def x M)) e

pub no-register : (a b m : Bool) → ones a b m ≤ 1 → m ≡ true → (a || b) ≡ false
no-register true b true n e = absurd (omega arith)
no-register false true true n e = absurd (omega arith)
no-register false false true n e = refl
no-register a b false n e = absurd (false≢true e)

pub no-bank : (a b m : Bool) → ones a b m ≡ 0 → (a || b) ≡ false
no-bank true b m n = absurd (omega arith)
no-bank false true m n = absurd (omega arith)
no-bank false false m n = refl

-- ---- copies

pub fill-each : (P : Place → Type 0) (on : Chosen) (numbers : Numbers) (x : ℕ) (h : Bank) → (on (Fill x h) ≡ true → P (home_place numbers h x)) → Each P (fill_at on numbers x h)
fill-each P on numbers x h f = pick (on (Fill x h)) refl
  where
    pick : (b : Bool) → on (Fill x h) ≡ b → Each P (if b then home_place numbers h x ∷ [] else [])
    pick true e = (f e, tt)
    pick false e = tt

pub fills-each : (P : Place → Type 0) (on : Chosen) (numbers : Numbers) (x : ℕ) → ((h : Bank) → is_home_bank h ≡ true → on (Fill x h) ≡ true → P (home_place numbers h x)) → Each P (fills_of on numbers x)
fills-each P on numbers x f =
    each-append P (fill_at on numbers x A) (fill_at on numbers x B ++ fill_at on numbers x M) (fill-each P on numbers x A (f A refl))
    (each-append P (fill_at on numbers x B) (fill_at on numbers x M) (fill-each P on numbers x B (f B refl)) (fill-each P on numbers x M (f M refl)))

abbrev number_if : Bool → ℕ → Option ℕ
number_if b n = if b then Some n else None

fill-maybe : (place : ℕ → Place) (b : Bool) (n : ℕ) → (if b then place n ∷ [] else []) ≡ maybe place (number_if b n)
fill-maybe place true n = refl
fill-maybe place false n = refl

pub fills-are : (p : Plan) (on : Chosen) (numbers : Numbers) (x : ℕ) (defined : Place) → ((h : Bank) → is_home_bank h ≡ true → on (Fill x h) ≡ true → IsGeneral p (home_place numbers h x)) → ((h : Bank) → is_home_bank h ≡ true → on (Fill x h) ≡ true → same_bank (home_place numbers h x) defined ≡ false)
    → AreFills p defined (fills_of on numbers x)
fills-are p on numbers x defined g e = record {
  a = number_if (on (Fill x A)) (numbers A x);
  b = number_if (on (Fill x B)) (numbers B x);
  slot = number_if (on (Fill x M)) (numbers M x);
  in_order =
      ap (λ l. l ++ (fill_at on numbers x B ++ fill_at on numbers x M)) (fill-maybe place.A (on (Fill x A)) (numbers A x))
      ∙ ap (λ l. maybe place.A (number_if (on (Fill x A)) (numbers A x)) ++ (l ++ fill_at on numbers x M)) (fill-maybe place.B (on (Fill x B)) (numbers B x))
      ∙ ap (λ l. maybe place.A (number_if (on (Fill x A)) (numbers A x)) ++ (maybe place.B (number_if (on (Fill x B)) (numbers B x)) ++ l)) (fill-maybe place.Slot (on (Fill x M)) (numbers M x));
  general = each-all (IsGeneral p) (fills_of on numbers x) (fills-each (IsGeneral p) on numbers x g);
  elsewhere = each-all (λ q. same_bank q defined ≡ false) (fills_of on numbers x) (fills-each (λ q. same_bank q defined ≡ false) on numbers x e);
}

fill-none : (on : Chosen) (numbers : Numbers) (x : ℕ) (h : Bank) → on (Fill x h) ≡ false → fill_at on numbers x h ≡ []
fill-none on numbers x h e = ap (λ b. if b then home_place numbers h x ∷ [] else []) e

filter-none : (f : Use → Bool) (us : List Use) → Each (λ u. f u ≡ false) us → filter f us ≡ []
filter-none f [] h = refl
filter-none f (u ∷ us) h = ap (λ b. if b then u ∷ filter f us else filter f us) h.0 ∙ filter-none f us h.1

pub copies-none : (labels : List Label) (on : Chosen) (numbers : Numbers) (x : ℕ) → ((h : Bank) → on (Fill x h) ≡ false) → Each (λ u. goes_early on u ≡ false) (uses_of labels x) → copies_of labels on numbers x ≡ []
copies-none labels on numbers x f e =
    ap (λ l. (l ++ (fill_at on numbers x B ++ fill_at on numbers x M)) ++ words_of labels on x) (fill-none on numbers x A (f A))
    ∙ ap (λ l. (l ++ fill_at on numbers x M) ++ words_of labels on x) (fill-none on numbers x B (f B))
    ∙ ap (λ l. l ++ words_of labels on x) (fill-none on numbers x M (f M))
    ∙ ap (map (word_place on)) (filter-none (goes_early on) (uses_of labels x) e)

pub uses-none : (x : ℕ) (us : List Use) → is_in x (map (λ u. u.value) us) ≡ false → filter (λ u. nat_eq u.value x) us ≡ []
uses-none x [] e = refl
uses-none x (u ∷ us) e =
    let p = or_parts (nat_eq x u.value) (is_in x (map (λ (w : Use). w.value) us)) e in
    ap (λ b. if b then u ∷ filter (λ (w : Use). nat_eq w.value x) us else filter (λ (w : Use). nat_eq w.value x) us) (other-number x u.value p.0) ∙ uses-none x us p.1

pub uses-value : (x : ℕ) (us : List Use) → Each (λ u. u.value ≡ x) (filter (λ u. nat_eq u.value x) us)
uses-value x [] = tt
uses-value x (u ∷ us) = pick (nat_eq u.value x) refl (uses-value x us)
  where
    pick : (b : Bool) → nat_eq u.value x ≡ b → Each (λ u. u.value ≡ x) (filter (λ u. nat_eq u.value x) us) → Each (λ u. u.value ≡ x) (if b then u ∷ filter (λ u. nat_eq u.value x) us else filter (λ u. nat_eq u.value x) us)
    pick true e r = (same-number u.value x e, r)
    pick false e r = r

-- ---- words that are put early

pub not-early : (on : Chosen) (u : Use) → list_any on (dir u) ≡ false → list_any on (ear u) ≡ false → goes_early on u ≡ false
not-early on u d e = false_from_ne_true (goes_early on u) (λ g. pick (is_written u.role) g)
  where
    pick : (b : Bool) → list_any on (if b then dir u ++ ear u else []) ≡ true → ⊥
    pick false h = false≢true h
    pick true h = ⊎_elim (λ (k : list_any on (dir u) ≡ true). false≢true (sym d ∙ k)) (λ (k : list_any on (ear u) ≡ true). false≢true (sym e ∙ k)) (any-either on (dir u) (ear u) h)

pub dirs-off : (on : Chosen) (us : List Use) → count on (flat_map dir us) ≡ 0 → Each (λ u. list_any on (dir u) ≡ false) us
dirs-off on [] e = tt
dirs-off on (u ∷ us) e = let s = count-append on (dir u) (flat_map dir us) in (count-none on (dir u) (omega arith), dirs-off on us (omega arith))

pub dirs-count : (on : Chosen) (us : List Use) → Each (λ u. 1 ≤ count on (dir u)) us → length us ≤ count on (flat_map dir us)
dirs-count on [] h = omega arith
dirs-count on (u ∷ us) h = let s = count-append on (dir u) (flat_map dir us) in let r = dirs-count on us h.1 in let o = h.0 in omega arith

pub one-use : (on : Chosen) (us : List Use) → length us ≤ 1 → 1 ≤ count on (flat_map dir us) → (u : Use) × (us ≡ u ∷ [])
one-use on [] n c = absurd (omega arith)
one-use on (u ∷ []) n c = (u, refl)
one-use on (u ∷ v ∷ us) n c = absurd (omega arith)

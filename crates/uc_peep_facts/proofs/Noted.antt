-- Facts of a list, and fillers up to a place.
use Rattle.std.proofs.Common.{◌≡◌, ◌≢◌, ℕ, zero, suc, ◌+◌, ◌<◌, ◌≤◌, ◌⊎◌, inl, inr, ⊎_elim, Bool, true, false, List, [], ◌∷◌, length, set, take, Some, None, nat_eq, refl, sym, ap, ◌∙◌, arith, length-set}
use Rattle.std.specs.Prelude.{slice_get}
use Rattle.std.proofs.lemmas.Bool.{cases_lt}
use Rattle.std.proofs.lemmas.Bool.Decides.{eqb_tells}
use Rattle.uc_isa.specs.declared.instruction.Instr.{Instr}
use Rattle.uc_peep.proofs.Lists.{get-set-other, get-set-same}
use Rattle.uc_peep.specs.Kept.{is_gone}
use Rattle.uc_peep.specs.Window.{filler}
use Rattle.uc_peep_facts.specs.Facts.{IsFilled}

pub none-taken : {A : Type 0} (n : ℕ) (l : List A) (k : ℕ) → (n ≤ k) ⊎ (length l ≤ k) → slice_get (take n l) k ≡ None
none-taken zero [] k h = refl
none-taken zero (x ∷ l) k h = refl
none-taken (suc n) [] k h = refl
none-taken (suc n) (x ∷ l) zero (inl h) = absurd (omega arith)
none-taken (suc n) (x ∷ l) zero (inr h) = absurd (omega arith)
none-taken (suc n) (x ∷ l) (suc k) (inl h) = none-taken n l k (inl (omega arith))
none-taken (suc n) (x ∷ l) (suc k) (inr h) = none-taken n l k (inr (omega arith))

-- fillers are put up to a place
pub record IsFilledTo (code draft : List Instr) (gone : List Bool) (x : ℕ) : Type 0 where
  pub size : length draft ≡ length code
  pub kept : (y : ℕ) → is_gone gone y ≡ false → slice_get draft y ≡ slice_get code y
  pub fillers : (y : ℕ) → y < x → is_gone gone y ≡ true → slice_get draft y ≡ Some (filler y)
  pub rest : (y : ℕ) → x ≤ y → slice_get draft y ≡ slice_get code y

pub filled-none : (code : List Instr) (gone : List Bool) → IsFilledTo code code gone 0
filled-none code gone = record { size = refl; kept = λ y h. refl; fillers = λ y lt h. absurd (omega arith); rest = λ y le. refl }

pub filled-kept : (code draft : List Instr) (gone : List Bool) (x : ℕ) → is_gone gone x ≡ false → IsFilledTo code draft gone x → IsFilledTo code draft gone (x + 1)
filled-kept code draft gone x none h = record {
  size = h.size;
  kept = h.kept;
  fillers = λ y lt g. ⊎_elim
      (λ (less : y < x). h.fillers y less g)
      (λ (le : x ≤ y). let e : y ≡ x = omega arith in let same = ap (is_gone gone) e in absurd (cc))
      (cases_lt y x);
  rest = λ y le. h.rest y (omega arith);
}

pub filled-more : (code draft : List Instr) (gone : List Bool) (x : ℕ) → x < length draft → is_gone gone x ≡ true → IsFilledTo code draft gone x → IsFilledTo code (set draft x (filler x)) gone (x + 1)
filled-more code draft gone x inside g h = record {
  size = length-set draft x (filler x) ∙ h.size;
  kept = λ y k. ⊎_elim
      (λ (e : (nat_eq y x ≡ true) × (y ≡ x)). let same = ap (is_gone gone) e.1 in absurd (cc))
      (λ (e : (nat_eq y x ≡ false) × (y ≢ x)). get-set-other draft x y (filler x) e.1 ∙ h.kept y k)
      (eqb_tells y x);
  fillers = λ y lt k. ⊎_elim
      (λ (e : (nat_eq y x ≡ true) × (y ≡ x)). ap (slice_get (set draft x (filler x))) e.1 ∙ get-set-same draft x (filler x) inside ∙ ap (λ n. Some (filler n)) (sym e.1))
      (λ (e : (nat_eq y x ≡ false) × (y ≢ x)). get-set-other draft x y (filler x) e.1 ∙ h.fillers y (let d = e.1 in omega arith) k)
      (eqb_tells y x);
  rest = λ y le. get-set-other draft x y (filler x) (λ e. omega arith) ∙ h.rest y (omega arith);
}

pub filled-all : (code draft : List Instr) (gone : List Bool) (x : ℕ) → length gone ≡ length code → length draft ≤ x → IsFilledTo code draft gone x → IsFilled code draft gone
filled-all code draft gone x size le h = record {
  size = h.size;
  size_gone = size;
  kept = h.kept;
  fillers = λ y g. ⊎_elim
      (λ (lt : y < x). h.fillers y lt g)
      (λ (past : x ≤ y). absurd (not-gone gone y (let s = h.size in omega arith) g))
      (cases_lt y x);
}
  where
    not-gone : (gone : List Bool) (y : ℕ) → length gone ≤ y → is_gone gone y ≡ true → ⊥
    not-gone [] y le g = cc
    not-gone (a ∷ gone) zero le g = omega arith
    not-gone (a ∷ gone) (suc y) le g = not-gone gone y (omega arith) g

-- Instructions put in the place of others, up to a place.
use Rattle.std.proofs.Common.{◌≡◌, ◌≢◌, ℕ, ◌+◌, ◌<◌, ◌≤◌, ⊎_elim, true, false, List, length, get_or, set, Some, nat_eq, refl, sym, ap, ◌∙◌, subst, arith, length-set}
use Rattle.std.specs.Prelude.{slice_get}
use Rattle.std.proofs.lemmas.Bool.Decides.{eqb_tells}
use Rattle.std.proofs.lemmas.Option.{slice_get-get_or, slice_get_within}
use Rattle.uc_isa.specs.declared.instruction.Instr.{Instr}
use Rattle.uc_isa.specs.Lawful.{IsLast}
use Rattle.uc_isa.specs.Program.{IsFormed, IsProgram}
use Rattle.uc_peep.proofs.Lists.{get-set-other, get-set-same}
use Rattle.uc_peep_facts.specs.inner.Operands.{ArePut}

-- those before x are put, and the others are as they were
pub record ArePutTo (P : ℕ → Instr → Instr → Type 0) (code draft : List Instr) (x : ℕ) : Type 0 where
  pub size : length draft ≡ length code
  pub each : (y : ℕ) (i : Instr) → y < x → slice_get code y ≡ Some i → (j : Instr) × (slice_get draft y ≡ Some j) × P y i j
  pub rest : (y : ℕ) → x ≤ y → slice_get draft y ≡ slice_get code y

pub put-none : (P : ℕ → Instr → Instr → Type 0) (code : List Instr) → ArePutTo P code code 0
put-none P code = record { size = refl; each = λ y i lt at. absurd (omega arith); rest = λ y le. refl }

pub put-more : (P : ℕ → Instr → Instr → Type 0) (code draft : List Instr) (x : ℕ) (i j : Instr) → slice_get draft x ≡ Some i → P x i j → ArePutTo P code draft x → ArePutTo P code (set draft x j) (x + 1)
put-more P code draft x i j at new h = record {
  size = length-set draft x j ∙ h.size;
  each = λ y k lt there. ⊎_elim
      (λ (e : (nat_eq y x ≡ true) × (y ≡ x)).
      let was : Some i ≡ Some k = sym at ∙ h.rest x (omega arith) ∙ ap (slice_get code) (sym e.1) ∙ there in
      let same : i ≡ k = cc in
      (j, ap (slice_get (set draft x j)) e.1 ∙ get-set-same draft x j (slice_get_within draft x i at), subst (λ n. P n k j) (sym e.1) (subst (λ l. P x l j) same new)))
      (λ (e : (nat_eq y x ≡ false) × (y ≢ x)).
      let old = h.each y k (let d = e.1 in omega arith) there in
      (old.0, get-set-other draft x y j e.1 ∙ old.1, old.2))
      (eqb_tells y x);
  rest = λ y le. get-set-other draft x y j (λ e. omega arith) ∙ h.rest y (omega arith);
}

pub put-all : (P : ℕ → Instr → Instr → Type 0) (code draft : List Instr) (x : ℕ) → length draft ≤ x → ArePutTo P code draft x → ArePut P code draft
put-all P code draft x le h = record {
  size = h.size;
  each = λ y i at. h.each y i (let lt = slice_get_within code y i at in let s = h.size in omega arith) at;
}

-- what isn't put yet is as lawful as it was
pub formed-rest : (P : ℕ → Instr → Instr → Type 0) (code draft : List Instr) (x : ℕ) (d : Instr) → IsProgram code → x < length draft → ArePutTo P code draft x → IsFormed (get_or draft x d)
formed-rest P code draft x d lawful lt h = (lawful.each x (get_or draft x d) (sym (h.rest x (omega arith)) ∙ slice_get-get_or draft x d lt)).formed

pub last-rest : (P : ℕ → Instr → Instr → Type 0) (code draft : List Instr) (x : ℕ) (d : Instr) → IsProgram code → x < length draft → length code ≤ x + 1 → ArePutTo P code draft x → IsLast (get_or draft x d)
last-rest P code draft x d lawful lt le h =
    (lawful.each x (get_or draft x d) (sym (h.rest x (omega arith)) ∙ slice_get-get_or draft x d lt)).last (let s = h.size in omega arith)

-- What is a draft of code, and what comes of it.
use Rattle.std.proofs.Common.{◌≡◌, ℕ, suc, ◌-◌, ◌*◌, ◌≤◌, ◌⊎◌, inl, inr, ⊎_elim, Bool, true, false, List, [], ◌∷◌, length, get_or, Some, refl, sym, ap, ◌∙◌, subst, arith}
use Rattle.std.specs.Prelude.{slice_get}
use Rattle.uc_isa.specs.Moves.{label_weight, moves_from, weight}
use Rattle.uc_isa.specs.declared.instruction.Instr.{Instr}
use Rattle.uc_isa.specs.Program.{IsLawfulWithin, IsProgram}
use Rattle.uc_isa.specs.Relocated.{relocated}
use Rattle.uc_isa.specs.Starts.{IsLabelStart}
use Rattle.uc_isa.specs.StraightCode.{IsEntered, IsStraight}
use Rattle.uc_peep.proofs.Replaced.{filler-lawful, gone-cases}
use Rattle.uc_peep.specs.Draft.{IsDraft}
use Rattle.uc_peep.specs.Kept.{compacted, is_gone}
use Rattle.uc_peep.specs.Liveness.{IsClosed, IsLiveAt}
use Rattle.uc_peep.specs.Rewrites.{IsWithout}
use Rattle.uc_peep.specs.Rewrites.IsWithout.{Nothing, Gone, Stays}
use Rattle.uc_peep.specs.Window.{filler}
use Rattle.uc_isa.specs.Resources.Live.{Needs, Passes}
use Rattle.uc_peep_facts.specs.Facts.{IsFilled, MayGo}
use Rattle.uc_peep_facts.specs.declared.fact.Facts.{Facts}
use Rattle.uc_peep_facts.proofs.InStep.{runs-in-step}
use Rattle.uc_peep_facts.proofs.Thinned.{IsThinning, thinned-in-step}

-- sets of exactly what is live have all that each instruction needs
pub closed-live : (code : List Instr) (sets : List ℕ) → ((x : ℕ) → IsLiveAt code x (get_or sets x 0)) → IsClosed code sets
closed-live code sets live x i at = record {
  needs = λ s spot r. (live x s spot).1 (Needs i at r);
  passes = λ s y spot w next t. (live x s spot).1 (Passes i y at w next ((live y s spot).0 t));
}

-- ---- moves

moves-most : (q : ℕ) (code draft : List Instr) (starts ws : List ℕ) → length draft ≡ length code
    → ((x : ℕ) (j : Instr) → slice_get draft x ≡ Some j → (weight j ≡ 0) ⊎ (slice_get code x ≡ Some j)) → moves_from q draft starts ws ≤ moves_from q code starts ws
moves-most q [] [] starts ws size h = omega arith
moves-most q [] (j ∷ draft) starts ws size h = absurd (omega arith)
moves-most q (i ∷ code) [] starts ws size h = absurd (omega arith)
moves-most q (i ∷ code) (j ∷ draft) starts ws size h =
    let rest = moves-most (suc q) code draft starts ws (omega arith) (λ x k at. h (suc x) k at) in
    first (h 0 j refl) rest
  where
    first : (weight j ≡ 0) ⊎ (Some i ≡ Some j) → moves_from (suc q) draft starts ws ≤ moves_from (suc q) code starts ws → moves_from q (j ∷ draft) starts ws ≤ moves_from q (i ∷ code) starts ws
    first (inl none) rest =
        let e : weight j * label_weight 1 starts ws q ≡ 0 * label_weight 1 starts ws q = ap (λ n. n * label_weight 1 starts ws q) none in
        let z : 0 * label_weight 1 starts ws q ≡ 0 = omega arith in
        omega arith
    first (inr same) rest =
        let e : i ≡ j = cc in
        let w : weight i * label_weight 1 starts ws q ≡ weight j * label_weight 1 starts ws q = ap (λ k. weight k * label_weight 1 starts ws q) e in
        omega arith

-- ---- a draft

some-instr : (i j : Instr) → Some i ≡ Some j → i ≡ j
some-instr i j e = cc

-- what is gone was straight
pub straight-gone : (code : List Instr) (starts : List ℕ) (sets : List ℕ) (table : List Facts) (gone : List Bool) → ((x : ℕ) → is_gone gone x ≡ true → MayGo code starts sets table x)
    → (x : ℕ) (i : Instr) → is_gone gone x ≡ true → slice_get code x ≡ Some i → IsStraight i
straight-gone code starts sets table gone may x i g at =
    let m : MayGo code starts sets table x = may x g in
    subst IsStraight (some-instr m.instruction i (sym m.there ∙ at)) m.idle.straight

pub draft-lawful : (code : List Instr) (starts : List ℕ) (draft : List Instr) (gone : List Bool) (sets : List ℕ) (table : List Facts) → IsProgram code → IsFilled code draft gone → ((x : ℕ) → is_gone gone x ≡ true → MayGo code starts sets table x) → IsProgram draft
draft-lawful code starts draft gone sets table lawful filled may = record {
  some = let s = filled.size in let m = lawful.some in omega arith;
  each = law;
}
  where
    law : (x : ℕ) (i : Instr) → slice_get draft x ≡ Some i → IsLawfulWithin (length draft) x i
    law x i at = ⊎_elim
        (λ (g : is_gone gone x ≡ true).
        let is : filler x ≡ i = some-instr (filler x) i (sym (filled.fillers x g) ∙ at) in
        subst (λ j. IsLawfulWithin (length draft) x j) is (filler-lawful (length draft) x (let s = filled.size in let m = (may x g).inside in omega arith)))
        (λ (k : is_gone gone x ≡ false). subst (λ n. IsLawfulWithin n x i) (sym filled.size) (lawful.each x i (sym (filled.kept x k) ∙ at)))
        (gone-cases gone x)

module _ (code : List Instr) (starts : List ℕ) (draft : List Instr) (gone : List Bool) (sets : List ℕ) (table : List Facts) (r : IsThinning code starts draft gone sets table) where
  some-same : (i j : Instr) → Some i ≡ Some j → i ≡ j
  some-same i j e = cc

  may-at : (x : ℕ) → is_gone gone x ≡ true → MayGo code starts sets table x
  may-at x g = r.may x g

  kept-at-end : (y : ℕ) → IsEntered code (suc y) ⊎ IsLabelStart starts (suc y) → is_gone gone y ≡ false
  kept-at-end y met = ⊎_elim
      (λ (g : is_gone gone y ≡ true). absurd (⊎_elim (λ (e : IsEntered code (suc y)). (may-at y g).not_entered e) (λ (s : IsLabelStart starts (suc y)). (may-at y g).not_start s) met))
      (λ (k : is_gone gone y ≡ false). k)
      (gone-cases gone y)

  crooked-kept : (x : ℕ) (i : Instr) → ¬ IsStraight i → slice_get code x ≡ Some i → is_gone gone x ≡ false
  crooked-kept x i crooked at = ⊎_elim
      (λ (g : is_gone gone x ≡ true). let m = may-at x g in absurd (crooked (subst IsStraight (some-same m.instruction i (sym m.there ∙ at)) m.idle.straight)))
      (λ (k : is_gone gone x ≡ false). k)
      (gone-cases gone x)

  lighter : (x : ℕ) (j : Instr) → slice_get draft x ≡ Some j → (weight j ≡ 0) ⊎ (slice_get code x ≡ Some j)
  lighter x j at = ⊎_elim
      (λ (g : is_gone gone x ≡ true). let is : filler x ≡ j = some-same (filler x) j (sym (r.filled.fillers x g) ∙ at) in inl (ap weight (sym is)))
      (λ (k : is_gone gone x ≡ false). inr (sym (r.filled.kept x k) ∙ at))
      (gone-cases gone x)

  pub thinned-draft : IsDraft code starts draft gone
  thinned-draft = record {
    size = r.filled.size;
    size_gone = r.filled.size_gone;
    lawful = draft-lawful code starts draft gone sets table r.lawful r.filled r.may;
    alike = λ e ms b. runs-in-step code draft sets table (thinned-in-step code starts draft gone sets table r) e ms b;
    fillers = λ x g. (r.filled.fillers x g, (may-at x g).inside);
    old = λ x i k crooked at. sym (r.filled.kept x k) ∙ at;
    stays = λ x i crooked at. let k = crooked-kept x i crooked at in (r.filled.kept x k ∙ at, k);
    apart = λ s y pinned lt inside met.
        let e : suc (y - 1) ≡ y = omega arith in (
          y - 1,
          omega arith,
          omega arith,
          kept-at-end (y - 1) (⊎_elim
              (λ (a : IsLabelStart starts s × IsEntered code y). inl (subst (IsEntered code) (sym e) a.1))
              (λ (b : IsLabelStart starts y). inr (subst (IsLabelStart starts) (sym e) b))
              met),
        );
    moves = λ ws. moves-most 0 code draft starts ws r.filled.size lighter;
  }

-- ---- what is left

pub without-gone : (f : ℕ → ℕ) (code draft : List Instr) (gone : List Bool) → length draft ≡ length code → length gone ≡ length code
    → ((x : ℕ) → is_gone gone x ≡ false → slice_get draft x ≡ slice_get code x) → ((x : ℕ) (i : Instr) → is_gone gone x ≡ true → slice_get code x ≡ Some i → IsStraight i)
    → IsWithout code (compacted f gone draft)
without-gone f [] [] [] size size' kept straight = Nothing
without-gone f [] [] (g ∷ gone) size size' kept straight = absurd (omega arith)
without-gone f [] (j ∷ draft) gone size size' kept straight = absurd (omega arith)
without-gone f (i ∷ code) [] gone size size' kept straight = absurd (omega arith)
without-gone f (i ∷ code) (j ∷ draft) [] size size' kept straight = absurd (omega arith)
without-gone f (i ∷ code) (j ∷ draft) (true ∷ gone) size size' kept straight =
    Gone i code (compacted f gone draft) (straight 0 i refl refl) (without-gone f code draft gone (omega arith) (omega arith) (λ x k. kept (suc x) k) (λ x k g at. straight (suc x) k g at))
without-gone f (i ∷ code) (j ∷ draft) (false ∷ gone) size size' kept straight =
    let same : Some j ≡ Some i = kept 0 refl in
    let e : i ≡ j = cc in
    subst (λ k. IsWithout (i ∷ code) (relocated f k ∷ compacted f gone draft)) e
    (Stays f i code (compacted f gone draft) (without-gone f code draft gone (omega arith) (omega arith) (λ x k. kept (suc x) k) (λ x k g at. straight (suc x) k g at)))

-- Instructions put one by one into the places of others.
use Rattle.std.proofs.Common.{◌≡◌, ◌≢◌, ℕ, suc, ◌+◌, ◌<◌, ◌≤◌, ◌⊎◌, inl, inr, ⊎_elim, Bool, true, false, List, length, set, Some, refl, sym, ap, ◌∙◌, arith, length-set, get_or-set_same, get_or-set_other}
use Rattle.std.specs.Prelude.{slice_get}
use Rattle.std.proofs.lemmas.Bool.{cases_lt}
use Rattle.uc_isa.specs.declared.instruction.Instr.{Instr}
use Rattle.uc_peep.proofs.Lists.{get-set-other, get-set-same}
use Rattle.uc_peep.specs.Draft.{IsPut}
use Rattle.uc_peep.specs.Kept.{is_gone}
use Rattle.uc_peep.specs.Window.{filler}

pub put-none : (p : ℕ) (shorter code : List Instr) (gone : List Bool) → IsPut p 0 shorter code code gone gone
put-none p shorter code gone = record {
  size = refl;
  size_gone = refl;
  outside = λ x h. (refl, refl);
  first = λ d h. absurd (omega arith);
  rest = λ d h. absurd (omega arith);
}

narrower : (p j x : ℕ) → (x < p) ⊎ (p + suc j ≤ x) → (x < p) ⊎ (p + j ≤ x)
narrower p j x (inl h) = inl h
narrower p j x (inr h) = inr (omega arith)

apart-from : (p j x : ℕ) → (x < p) ⊎ (p + suc j ≤ x) → x ≢ p + j
apart-from p j x (inl h) e = omega arith
apart-from p j x (inr h) e = omega arith

pub put-first : (p j : ℕ) (shorter code code' : List Instr) (gone gone' : List Bool) (v : Instr) → IsPut p j shorter code code' gone gone' → j < length shorter → p + j < length code → slice_get shorter j ≡ Some v → IsPut p (suc j) shorter code (set code' (p + j) v) gone gone'
put-first p j shorter code code' gone gone' v u few inside is = record {
  size = length-set code' (p + j) v ∙ u.size;
  size_gone = u.size_gone;
  outside = λ x h. (get-set-other code' (p + j) x v (apart-from p j x h) ∙ (u.outside x (narrower p j x h)).0, (u.outside x (narrower p j x h)).1);
  first = λ d h few'. ⊎_elim
      (λ (lt : d < j). (get-set-other code' (p + j) (p + d) v (λ e. omega arith) ∙ (u.first d lt few').0, (u.first d lt few').1))
      (λ (le : j ≤ d). let e : d ≡ j = omega arith in (
        ap (λ n. slice_get (set code' (p + j) v) (p + n)) e ∙ get-set-same code' (p + j) v (let size = u.size in omega arith) ∙ sym is ∙ ap (slice_get shorter) (sym e),
        (u.outside (p + d) (inr (omega arith))).1,
      ))
      (cases_lt d j);
  rest = λ d h many. let lt : d < j = omega arith in (get-set-other code' (p + j) (p + d) v (λ e. omega arith) ∙ (u.rest d lt many).0, (u.rest d lt many).1);
}

pub put-rest : (p j : ℕ) (shorter code code' : List Instr) (gone gone' : List Bool) → IsPut p j shorter code code' gone gone' → length shorter ≤ j → p + j < length code → length gone ≡ length code → IsPut p (suc j) shorter code (set code' (p + j) (filler (p + j))) gone (set gone' (p + j) true)
put-rest p j shorter code code' gone gone' u many inside same = record {
  size = length-set code' (p + j) (filler (p + j)) ∙ u.size;
  size_gone = length-set gone' (p + j) true ∙ u.size_gone;
  outside = λ x h. (get-set-other code' (p + j) x (filler (p + j)) (apart-from p j x h) ∙ (u.outside x (narrower p j x h)).0, get_or-set_other gone' (p + j) x true false (apart-from p j x h) ∙ (u.outside x (narrower p j x h)).1);
  first = λ d h few. let lt : d < j = omega arith in (get-set-other code' (p + j) (p + d) (filler (p + j)) (λ e. omega arith) ∙ (u.first d lt few).0, get_or-set_other gone' (p + j) (p + d) true false (λ e. omega arith) ∙ (u.first d lt few).1);
  rest = λ d h many'. ⊎_elim
      (λ (lt : d < j). (get-set-other code' (p + j) (p + d) (filler (p + j)) (λ e. omega arith) ∙ (u.rest d lt many').0, get_or-set_other gone' (p + j) (p + d) true false (λ e. omega arith) ∙ (u.rest d lt many').1))
      (λ (le : j ≤ d). let e : d ≡ j = omega arith in (
        ap (λ n. slice_get (set code' (p + j) (filler (p + j))) (p + n)) e ∙ get-set-same code' (p + j) (filler (p + j)) (let size = u.size in omega arith) ∙ ap (λ n. Some (filler (p + n))) (sym e),
        ap (λ n. is_gone (set gone' (p + j) true) (p + n)) e ∙ get_or-set_same gone' (p + j) true false (let size = u.size_gone in omega arith),
      ))
      (cases_lt d j);
}

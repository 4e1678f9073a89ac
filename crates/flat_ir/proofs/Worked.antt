-- The measures of a short program, by computing: each as a function of its lists, and then of the lists that are known.
use Rattle.std.proofs.Common.{◌≡◌, refl, sym, subst, ℕ, ◌+◌, max, List, [], ◌∷◌, length}
use Rattle.nv_base.specs.declared.term.Atom.{Atom}
use Rattle.nv_base.specs.declared.term.Atom.TheVariants.{Var}
use Rattle.nv_base.specs.Sets.{different, without, all_vars}
use Rattle.nv_base.specs.Measures.{operands_wide, let_wide, entry_wide}
use Rattle.flat_ir.specs.Laws.{TwoGroups}

-- how wide the second function is, and the first
abbrev second_wide : List ℕ → List Atom → ℕ
second_wide ps ts = max (entry_wide [] (length ps)) (max (let_wide (0 ∷ 0 ∷ without (all_vars ts) (1 ∷ []))) (operands_wide [] ts))

abbrev used_behind : List Atom → List ℕ
used_behind us = 1 ∷ 0 ∷ without (all_vars us) (2 ∷ [])

abbrev first_wide : List ℕ → List ℕ → List Atom → List Atom → List Atom → ℕ
first_wide ps bs gs us ts =
    max (entry_wide [] (length ps))
    (max (max (max (operands_wide (without (used_behind us) bs) gs) (different (without (used_behind us) bs) + max (max 0 (max (second_wide ps ts) 0)) 2)) (entry_wide (without (used_behind us) bs) (length bs)))
    (max (let_wide (used_behind us)) (operands_wide [] us)))

known : (P : List ℕ → List ℕ → List Atom → List Atom → List Atom → Type 0) (ps bs : List ℕ) (gs us ts : List Atom)
    → ps ≡ 0 ∷ [] → bs ≡ 1 ∷ [] → gs ≡ Var 0 ∷ [] → us ≡ Var 2 ∷ [] → ts ≡ Var 1 ∷ [] → P (0 ∷ []) (1 ∷ []) (Var 0 ∷ []) (Var 2 ∷ []) (Var 1 ∷ []) → P ps bs gs us ts
known P ps bs gs us ts e1 e2 e3 e4 e5 h =
    subst (λ v. P v bs gs us ts) (sym e1)
    (subst (λ v. P (0 ∷ []) v gs us ts) (sym e2)
    (subst (λ v. P (0 ∷ []) (1 ∷ []) v us ts) (sym e3)
    (subst (λ v. P (0 ∷ []) (1 ∷ []) (Var 0 ∷ []) v ts) (sym e4)
    (subst (λ v. P (0 ∷ []) (1 ∷ []) (Var 0 ∷ []) (Var 2 ∷ []) v) (sym e5) h))))

pub two_groups : TwoGroups
two_groups params bound given sum twice p q r s e1 e2 e3 e4 e5 = record {
  words = known (λ ps bs gs us ts. max (first_wide ps bs gs us ts) (max 0 0) ≡ 5) params.items bound.items given.items sum.items twice.items e1 e2 e3 e4 e5 refl;
  code = refl;
}

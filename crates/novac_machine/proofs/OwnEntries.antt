-- How many entries of a schedule are a context's own, and the marks of runs one by one.
use Rattle.std.proofs.Common.{◌≡◌, ℕ, zero, suc, ◌+◌, ◌<◌, ◌≤◌, List, [], ◌∷◌, ◌++◌, true, false, Bool, length, take, drop, get_or, replicate, refl, ap, sym, ◌∙◌, subst, if◌then◌else◌, nat_eq, arith}
use Rattle.std.proofs.Math.Seq.{drop-cons}
use Rattle.std.proofs.lemmas.List.{take_more, drop_all, length-take}
use Rattle.std.proofs.lemmas.List.Sums.{sum_by-cons}
use Rattle.nv_base.specs.Memories.{Memories}
use Rattle.uc_schedule.specs.ScheduleText.{steps_of}
use Rattle.uc_contexts.specs.declared.alone.Marks.{Marks}
use Rattle.uc_contexts.specs.Alone.{own_entries, runs_from}
use Rattle.uc_contexts.specs.Marked.{AreFootprints, IsFootprint}
use Rattle.uc_contexts.specs.Turns.{base_of, entries}
use Rattle.uc_isa.specs.Code.{CodeView}
use Rattle.novac_machine.specs.inner.Own.{own_of}

own-behind : (b : Bool) (i j n : ℕ) (rest : List ℕ) → nat_eq i j ≡ b → own_entries i (replicate n j ++ rest) ≡ (if b then n else 0) + own_entries i rest
own-behind true i j zero rest e = omega arith
own-behind true i j (suc n) rest e =
    let h : own_entries i (replicate n j ++ rest) ≡ n + own_entries i rest = own-behind true i j n rest e in
    ap (λ (b : Bool). if b then suc (own_entries i (replicate n j ++ rest)) else own_entries i (replicate n j ++ rest)) e ∙ omega (arith, h)
own-behind false i j zero rest e = omega arith
own-behind false i j (suc n) rest e =
    ap (λ (b : Bool). if b then suc (own_entries i (replicate n j ++ rest)) else own_entries i (replicate n j ++ rest)) e ∙ own-behind false i j n rest e

own-pair : (i : ℕ) (pair : ℕ × ℕ) (rest : List (ℕ × ℕ)) → own_entries i (entries (pair ∷ rest)) ≡ own_of i pair + own_entries i (entries rest)
own-pair i pair rest = own-behind (nat_eq i pair.0) i pair.0 pair.1 (entries rest) refl

own-le : (b : Bool) (n : ℕ) → (if b then n else 0) ≤ n
own-le true n = omega arith
own-le false n = omega arith

pub own-few : (i : ℕ) (pairs : List (ℕ × ℕ)) → own_entries i (entries pairs) ≤ steps_of pairs
own-few i [] = omega arith
own-few i (pair ∷ rest) = omega (arith, own-pair i pair rest, own-le (nat_eq i pair.0) pair.1, sum_by-cons (λ (x : ℕ × ℕ). x.1) pair rest, own-few i rest)

-- with the pair at a place, what is left is that much less
pub own-next : (i : ℕ) (pairs : List (ℕ × ℕ)) (k : ℕ) → k < length pairs
    → own_entries i (entries (drop k pairs)) ≡ own_of i (get_or pairs k (0, 0)) + own_entries i (entries (drop (k + 1) pairs))
own-next i pairs k there =
    let more : k + 1 ≡ suc k = omega arith in
    ap (λ l. own_entries i (entries l)) (drop-cons pairs k (0, 0) there)
    ∙ own-pair i (get_or pairs k (0, 0)) (drop (suc k) pairs)
    ∙ ap (λ (n : ℕ). own_of i (get_or pairs k (0, 0)) + own_entries i (entries (drop n pairs))) (sym more)

pub own-last : (i : ℕ) (pairs : List (ℕ × ℕ)) (k : ℕ) → length pairs ≤ k → own_entries i (entries (drop k pairs)) ≡ 0
own-last i pairs k past = ap (λ l. own_entries i (entries l)) (drop_all k pairs past)

-- ---- marks

-- those of one run more
footprints-more : (c : CodeView) (p : Memories) (schedule : List ℕ) (i : ℕ) (args : List (List ℕ)) (a : List ℕ) (footprints : List Marks) (f : Marks) → AreFootprints c p (runs_from schedule i args) footprints
    → IsFootprint c p (record { args = a; base = base_of (i + length args); steps = own_entries (i + length args) schedule }) f → AreFootprints c p (runs_from schedule i (args ++ a ∷ [])) (footprints ++ f ∷ [])
footprints-more c p schedule i [] a [] f h footprint =
    let same : i + 0 ≡ i = omega arith in
    (subst (λ (n : ℕ). IsFootprint c p (record { args = a; base = base_of n; steps = own_entries n schedule }) f) same footprint, tt)
footprints-more c p schedule i [] a (g ∷ footprints) f h footprint = absurd h
footprints-more c p schedule i (b ∷ args) a [] f h footprint = absurd h
footprints-more c p schedule i (b ∷ args) a (g ∷ footprints) f h footprint =
    let same : i + length (b ∷ args) ≡ suc i + length args = omega arith in
    (h.0, footprints-more c p schedule (suc i) args a footprints f h.1 (subst (λ (n : ℕ). IsFootprint c p (record { args = a; base = base_of n; steps = own_entries n schedule }) f) same footprint))

pub footprints-next : (c : CodeView) (p : Memories) (schedule : List ℕ) (args : List (List ℕ)) (k : ℕ) (a : List ℕ) (footprints : List Marks) (f : Marks) → k < length args → a ≡ get_or args k a
    → AreFootprints c p (runs_from schedule 0 (take k args)) footprints → IsFootprint c p (record { args = a; base = base_of k; steps = own_entries k schedule }) f → AreFootprints c p (runs_from schedule 0 (take (k + 1) args)) (footprints ++ f ∷ [])
footprints-next c p schedule args k a footprints f there is h footprint =
    let count : 0 + length (take k args) ≡ k = omega (arith, length-take k args) in
    let more : take k args ++ a ∷ [] ≡ take (k + 1) args = ap (λ (x : List ℕ). take k args ++ x ∷ []) is ∙ sym (take_more args k a there) in
    subst (λ (l : List (List ℕ)). AreFootprints c p (runs_from schedule 0 l) (footprints ++ f ∷ [])) more
    (footprints-more c p schedule 0 (take k args) a footprints f h (subst (λ (n : ℕ). IsFootprint c p (record { args = a; base = base_of n; steps = own_entries n schedule }) f) (sym count) footprint))

-- A whole schedule leaves each context as it is alone, where no address that one run writes is read or written by another.
use Rattle.std.proofs.Common.{◌≡◌, ℕ, zero, suc, ◌+◌, ◌≤◌, ◌<◌, inl, inr, List, [], ◌∷◌, ◌++◌, Bool, true, false, Some, None, map, refl, ap, sym, subst, ◌∙◌, if◌then◌else◌, nat_eq, append_assoc, arith}
use Rattle.std.specs.Prelude.{Option, slice_get, slice_set}
use Rattle.std.proofs.lemmas.Bool.{cases_eq}
use Rattle.std.proofs.lemmas.List.{append-nil}
use Rattle.nv_base.specs.Memories.{Memories}
use Rattle.nv_base.specs.Meanings.{left_by}
use Rattle.uc_isa.specs.Code.{CodeView}
use Rattle.uc_isa.specs.Lawful.{IsLawful}
use Rattle.uc_contexts.specs.Turns.{base_of, scheduled, enter, started, started_from, starting}
use Rattle.uc_contexts.specs.Footprints.{Isolated}
use Rattle.uc_contexts.specs.Alone.{AreDisjoint, all_alone, all_writes, left_alone, lone_runs, own_entries, runs_from}
use Rattle.uc_contexts.proofs.Isolation.{OthersSeparate, longer}
use Rattle.uc_contexts.proofs.OneTurn.{enter-alone, enter-none}
use Rattle.uc_contexts.proofs.Scheduling.{get-of_set}

-- ---- runs after some entries

-- the runs where the one at a place, if there is one, is a step longer
abbrev taken : Option Isolated → ℕ → List Isolated → List Isolated
taken (Some x) i runs = slice_set runs i (longer x)
taken None i runs = runs

abbrev advanced : List ℕ → List Isolated → List Isolated
advanced [] runs = runs
advanced (i ∷ rest) runs = advanced rest (taken (slice_get runs i) i runs)

own-suc : (b : Bool) (n : ℕ) → (if b then suc (suc n) else suc n) ≡ suc (if b then suc n else n)
own-suc true n = refl
own-suc false n = refl

own-same : (i : ℕ) (done : List ℕ) → own_entries i (done ++ i ∷ []) ≡ suc (own_entries i done)
own-same i [] = let same : nat_eq i i ≡ true = grind arith in ap (λ b. if b then suc 0 else 0) same
own-same i (j ∷ done) = ap (λ n. if nat_eq i j then suc n else n) (own-same i done) ∙ own-suc (nat_eq i j) (own_entries i done)

own-other : (i j : ℕ) (done : List ℕ) → ¬ (i ≡ j) → own_entries i (done ++ j ∷ []) ≡ own_entries i done
own-other i j [] ne = let other : nat_eq i j ≡ false = grind (arith, ne) in ap (λ b. if b then suc 0 else 0) other
own-other i j (k ∷ done) ne = ap (λ n. if nat_eq i k then suc n else n) (own-other i j done ne)

-- an entry of an earlier context changes no later run
runs-later : (k j : ℕ) (args : List (List ℕ)) (done : List ℕ) → j < k → runs_from (done ++ j ∷ []) k args ≡ runs_from done k args
runs-later k j [] done lt = refl
runs-later k j (a ∷ args) done lt =
    ap (λ n. record { args = a; base = base_of k; steps = n } ∷ runs_from (done ++ j ∷ []) (suc k) args) (own-other k j done (λ e. omega arith))
    ∙ ap (λ l. record { args = a; base = base_of k; steps = own_entries k done } ∷ l) (runs-later (suc k) j args done (omega arith))

taken-behind : (o : Option Isolated) (i : ℕ) (x : Isolated) (runs : List Isolated) → taken o (suc i) (x ∷ runs) ≡ x ∷ taken o i runs
taken-behind (Some y) i x runs = refl
taken-behind None i x runs = refl

-- one entry more
runs-next : (i k : ℕ) (args : List (List ℕ)) (done : List ℕ) → taken (slice_get (runs_from done k args) i) i (runs_from done k args) ≡ runs_from (done ++ (k + i) ∷ []) k args
runs-next i k [] done = refl
runs-next zero k (a ∷ args) done =
    let here : k + 0 ≡ k = omega arith in
    ap (λ n. record { args = a; base = base_of k; steps = n } ∷ runs_from done (suc k) args) (sym (own-same k done))
    ∙ ap (λ l. record { args = a; base = base_of k; steps = own_entries k (done ++ k ∷ []) } ∷ l) (sym (runs-later (suc k) k args done (omega arith)))
    ∙ ap (λ j. runs_from (done ++ j ∷ []) k (a ∷ args)) (sym here)
runs-next (suc i) k (a ∷ args) done =
    let first : Isolated = record { args = a; base = base_of k; steps = own_entries k done } in
    let rest : List Isolated = runs_from done (suc k) args in
    let there : suc k + i ≡ k + suc i = omega arith in
    taken-behind (slice_get rest i) i first rest
    ∙ ap (λ l. first ∷ l) (runs-next i (suc k) args done)
    ∙ ap (λ j. first ∷ runs_from (done ++ j ∷ []) (suc k) args) there
    ∙ ap (λ n. record { args = a; base = base_of k; steps = n } ∷ runs_from (done ++ (k + suc i) ∷ []) (suc k) args) (sym (own-other k (k + suc i) done (λ e. omega arith)))

runs-advanced : (rest : List ℕ) (args : List (List ℕ)) (done : List ℕ) → advanced rest (runs_from done 0 args) ≡ runs_from (done ++ rest) 0 args
runs-advanced [] args done = ap (λ l. runs_from l 0 args) (sym (append-nil done))
runs-advanced (i ∷ rest) args done =
    let same : 0 + i ≡ i = omega arith in
    ap (advanced rest) (runs-next i 0 args done ∙ ap (λ j. runs_from (done ++ j ∷ []) 0 args) same)
    ∙ runs-advanced rest args (done ++ i ∷ [])
    ∙ ap (λ l. runs_from l 0 args) (append_assoc done (i ∷ []) rest)

-- ---- longer runs touch more

get-of_other : {A : Type 0} (xs : List A) (i j : ℕ) (y : A) → ¬ (i ≡ j) → slice_get (slice_set xs i y) j ≡ slice_get xs j
get-of_other [] i j y ne = refl
get-of_other (x ∷ xs) zero zero y ne = absurd (ne refl)
get-of_other (x ∷ xs) zero (suc j) y ne = refl
get-of_other (x ∷ xs) (suc i) zero y ne = refl
get-of_other (x ∷ xs) (suc i) (suc j) y ne = get-of_other xs i j y (λ e. ne (ap suc e))

-- each run stands in the second list too, at least as long
abbrev Within : List Isolated → List Isolated → Type 0
Within runs more = (i : ℕ) (x : Isolated) → slice_get runs i ≡ Some x → (n : ℕ) × (x.steps ≤ n) × (slice_get more i ≡ Some (record { args = x.args; base = x.base; steps = n }))

within-taken : (o : Option Isolated) (k : ℕ) (runs : List Isolated) → slice_get runs k ≡ o → Within runs (taken o k runs)
within-taken None k runs e = λ i x is. let same : x.steps ≤ x.steps = omega arith in (x.steps, same, is)
within-taken (Some y) k runs e = λ i x is. elim (cases_eq k i) [
  | inl same ↦ (
      let this : slice_get runs k ≡ Some x = ap (slice_get runs) same ∙ is in
      let one : y ≡ x = cc in
      let less : x.steps ≤ suc x.steps = omega arith in
      let put : slice_get (slice_set runs k (longer y)) k ≡ Some (longer x) = get-of_set runs k y (longer y) e ∙ ap (λ z. Some (longer z)) one in
      let there : slice_get (slice_set runs k (longer y)) i ≡ Some (longer x) = ap (slice_get (slice_set runs k (longer y))) (sym same) ∙ put in
      (suc x.steps, less, there)
      )
  | inr ne ↦ (let less : x.steps ≤ x.steps = omega arith in (x.steps, less, get-of_other runs k i (longer y) ne ∙ is))
]

within-advanced : (rest : List ℕ) (runs : List Isolated) → Within runs (advanced rest runs)
within-advanced [] runs = λ i x is. let same : x.steps ≤ x.steps = omega arith in (x.steps, same, is)
within-advanced (k ∷ rest) runs = λ i x is.
    let one = within-taken (slice_get runs k) k runs refl i x is in
    let y : Isolated = record { args = x.args; base = x.base; steps = one.0 } in
    let all = within-advanced rest (taken (slice_get runs k) k runs) i y one.2 in
    let first : x.steps ≤ one.0 = one.1 in
    let second : one.0 ≤ all.0 = all.1 in
    let less : x.steps ≤ all.0 = omega arith in
    (all.0, less, all.2)

disjoint-within : (c : CodeView) (p : Memories) (runs more : List Isolated) → Within runs more → AreDisjoint c p more → AreDisjoint c p runs
disjoint-within c p runs more within d = λ i j x y ne is is' m a w h.
    let wx = within i x is in
    let wy = within j y is' in
    let first : x.steps ≤ wx.0 = wx.1 in
    let second : y.steps ≤ wy.0 = wy.1 in
    let at : w.0 < x.steps = w.1 in
    let lt : w.0 < wx.0 = omega arith in
    d i j (record { args = x.args; base = x.base; steps = wx.0 }) (record { args = y.args; base = y.base; steps = wy.0 }) ne wx.2 wy.2 m a (w.0, lt, w.2) (elim h [
      | inl r ↦ inl (let one : r.0 < y.steps = r.1 in let two : r.0 < wy.0 = omega arith in (r.0, two, r.2))
      | inr r ↦ inr (let one : r.0 < y.steps = r.1 in let two : r.0 < wy.0 = omega arith in (r.0, two, r.2))
    ])

-- ---- entry by entry

others-separate : (c : CodeView) (p : Memories) (runs : List Isolated) (i : ℕ) (x : Isolated) → slice_get runs i ≡ Some x → AreDisjoint c p (slice_set runs i (longer x)) → OthersSeparate c p runs i x
others-separate c p runs i x is d = λ j y ne is'.
    let here : slice_get (slice_set runs i (longer x)) i ≡ Some (longer x) = get-of_set runs i x (longer x) is in
    let there : slice_get (slice_set runs i (longer x)) j ≡ Some y = get-of_other runs i j (longer x) ne ∙ is' in
    (λ m a. d i j (longer x) y ne here there m a, λ m a. d j i y (longer x) (λ e. ne (sym e)) there here m a)

enter-taken : (o : Option Isolated) (c : CodeView) (p : Memories) (runs : List Isolated) (i : ℕ) → IsLawful c.list → slice_get runs i ≡ o → AreDisjoint c p (taken o i runs) → enter c.list i (all_alone c p runs) ≡ all_alone c p (taken o i runs)
enter-taken (Some x) c p runs i lawful is d = enter-alone c p runs i x lawful is (others-separate c p runs i x is d)
enter-taken None c p runs i lawful is d = enter-none c p runs i is

all-entered : (c : CodeView) (p : Memories) (rest : List ℕ) (runs : List Isolated) → IsLawful c.list → AreDisjoint c p (advanced rest runs) → scheduled c.list rest (all_alone c p runs) ≡ all_alone c p (advanced rest runs)
all-entered c p [] runs lawful d = refl
all-entered c p (i ∷ rest) runs lawful d =
    let next : List Isolated = taken (slice_get runs i) i runs in
    ap (scheduled c.list rest) (enter-taken (slice_get runs i) c p runs i lawful refl (disjoint-within c p next (advanced rest next) (within-advanced rest next) d))
    ∙ all-entered c p rest next lawful d

-- ---- from the start

started-alone : (c : CodeView) (p : Memories) (i : ℕ) (args : List (List ℕ)) → started_from i args ≡ map (left_alone c p) (runs_from [] i args)
started-alone c p i [] = refl
started-alone c p i (a ∷ args) = ap (λ l. starting i a ∷ l) (started-alone c p (suc i) args)

unwritten : (c : CodeView) (p : Memories) (i : ℕ) (args : List (List ℕ)) → left_by (all_writes c p (runs_from [] i args)) p ≡ p
unwritten c p i [] = refl
unwritten c p i (a ∷ args) = unwritten c p (suc i) args

-- where no address that one context writes alone is read or written by another alone, each is as it is alone
pub scheduled-alone : (c : CodeView) (p : Memories) (schedule : List ℕ) (args : List (List ℕ)) → IsLawful c.list → AreDisjoint c p (lone_runs schedule args)
    → scheduled c.list schedule (record { contexts = started args; packet = p }) ≡ all_alone c p (lone_runs schedule args)
scheduled-alone c p schedule args lawful d =
    let runs : advanced schedule (runs_from [] 0 args) ≡ lone_runs schedule args = runs-advanced schedule args [] in
    ap (λ l. scheduled c.list schedule (record { contexts = l; packet = p })) (started-alone c p 0 args)
    ∙ ap (λ l. scheduled c.list schedule (record { contexts = map (left_alone c p) (runs_from [] 0 args); packet = l })) (sym (unwritten c p 0 args))
    ∙ all-entered c p schedule (runs_from [] 0 args) lawful (subst (AreDisjoint c p) (sym runs) d)
    ∙ ap (all_alone c p) runs

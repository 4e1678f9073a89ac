-- What is saved along a label pays for what weighs more.
use Rattle.std.proofs.Common.{◌≡◌, ◌≢◌, ℕ, zero, suc, ◌+◌, ◌-◌, ◌*◌, ◌<◌, ◌≤◌, ⊎_elim, Bool, true, false, List, [], ◌∷◌, length, take, Option, Some, None, IfSome, if◌then◌else◌, refl, sym, ap, ◌∙◌, subst, arith}
use Rattle.std.specs.Prelude.{nat_le, slice_get, slice_index_or}
use Rattle.std.proofs.lemmas.Bool.{cases_lt, false≢true, false_from_ne_true, le-leb, leb-true}
use Rattle.std.proofs.lemmas.List.{take_all}
use Rattle.uc_isa.proofs.Costs.{label-same}
use Rattle.uc_isa.specs.Moves.{label_weight, moves, moves_from, weight}
use Rattle.uc_isa.specs.Starts.{IsLabelStart}
use Rattle.uc_isa.specs.declared.instruction.Instr.{Instr}
use Rattle.uc_peep.specs.Draft.{AreMarked}
use Rattle.uc_peep_facts.specs.inner.Operands.{IsPaidAt}

-- before a place: what is left of what was saved in its label, which is nothing where none of its label is before the place, is still to spare
pub record IsPaidTo (code draft : List Instr) (started : List Bool) (x credit : ℕ) : Type 0 where
  pub few : credit ≤ 16 * x
  pub paid : (starts : List ℕ) → AreMarked started (IsLabelStart starts) → (ws : List ℕ) → moves (take x draft) starts ws + credit * label_weight 1 starts ws (x - 1) ≤ moves (take x code) starts ws

-- ---- one more

some-instr : (i j : Instr) → Some i ≡ Some j → i ≡ j
some-instr i j e = cc

no-instr : (i : Instr) → ¬ (None ≡ Some i)
no-instr i e = cc

none-moves : (q : ℕ) (l : List Instr) (starts ws : List ℕ) → moves_from q (take 0 l) starts ws ≡ 0
none-moves q [] starts ws = refl
none-moves q (i ∷ l) starts ws = refl

moves-one : (q x : ℕ) (l : List Instr) (i : Instr) (starts ws : List ℕ) → slice_get l x ≡ Some i → moves_from q (take (suc x) l) starts ws ≡ moves_from q (take x l) starts ws + weight i * label_weight 1 starts ws (q + x)
moves-one q x [] i starts ws at = absurd (no-instr i at)
moves-one q zero (j ∷ l) i starts ws at =
    let same : j ≡ i = some-instr j i at in
    let here : q + 0 ≡ q = omega arith in
    let none = none-moves (suc q) l starts ws in
    let w : weight j * label_weight 1 starts ws q ≡ weight i * label_weight 1 starts ws (q + 0) = ap (λ k. weight k * label_weight 1 starts ws q) same ∙ ap (λ n. weight i * label_weight 1 starts ws n) (sym here) in
    omega arith
moves-one q (suc x) (j ∷ l) i starts ws at =
    let rest = moves-one (suc q) x l i starts ws at in
    let next : suc q + x ≡ q + suc x = omega arith in
    let w : weight i * label_weight 1 starts ws (suc q + x) ≡ weight i * label_weight 1 starts ws (q + suc x) = ap (λ n. weight i * label_weight 1 starts ws n) next in
    omega arith

-- ---- labels

gt-leb : (a b : ℕ) → b < a → nat_le a b ≡ false
gt-leb a b h = false_from_ne_true (nat_le a b) (λ e. let le : a ≤ b = leb-true a b e in omega arith)

before-same : (s x : ℕ) → s ≢ x → nat_le s (x - 1) ≡ nat_le s x
before-same s x other = ⊎_elim
    (λ (lt : s < x). le-leb s (x - 1) (omega arith) ∙ sym (le-leb s x (omega arith)))
    (λ (le : x ≤ s). gt-leb s (x - 1) (omega arith) ∙ sym (gt-leb s x (omega arith)))
    (cases_lt s x)

label-before : (starts ws : List ℕ) (x : ℕ) → ¬ IsLabelStart starts x → label_weight 1 starts ws (x - 1) ≡ label_weight 1 starts ws x
label-before starts ws x none = label-same (x - 1) x 1 starts ws (λ s is. before-same s x (λ e. none (subst (IsLabelStart starts) e is)))

-- ---- places

add-mul : (a b c : ℕ) → (a + b) * c ≡ a * c + b * c
add-mul a b c = omega arith

pub paid-none : (code draft : List Instr) (started : List Bool) → IsPaidTo code draft started 0 0
paid-none code draft started = record {
  few = omega arith;
  paid = λ starts marked ws.
      let a = none-moves 0 draft starts ws in
      let z : 0 * label_weight 1 starts ws (0 - 1) ≡ 0 = omega arith in
      omega arith;
}

-- what was saved in the label of a place
saved : (started : List Bool) (x credit : ℕ) → (b : Bool) → slice_index_or started x false ≡ b → (starts ws : List ℕ) → AreMarked started (IsLabelStart starts)
    → (if b then 0 else credit) * label_weight 1 starts ws x ≤ credit * label_weight 1 starts ws (x - 1)
saved started x credit true is starts ws marked = let z : 0 * label_weight 1 starts ws x ≡ 0 = omega arith in omega arith
saved started x credit false is starts ws marked =
    let same = ap (λ n. credit * n) (label-before starts ws x (λ h. false≢true (sym is ∙ (marked x).1 h))) in
    omega arith

pub paid-more : (code draft : List Instr) (started : List Bool) (x credit rest : ℕ) (i j : Instr) → slice_get code x ≡ Some i → slice_get draft x ≡ Some j → IsPaidAt code draft started x credit rest → IsPaidTo code draft started x credit → IsPaidTo code draft started (x + 1) rest
paid-more code draft started x credit rest i j at at' one h = record {
  few = let f = one.few in omega arith;
  paid = λ starts marked ws. more starts marked ws (h.paid starts marked ws) (saved started x credit (slice_index_or started x false) refl starts ws marked);
}
  where
    more : (starts : List ℕ) → AreMarked started (IsLabelStart starts) → (ws : List ℕ) → moves (take x draft) starts ws + credit * label_weight 1 starts ws (x - 1) ≤ moves (take x code) starts ws
        → (if slice_index_or started x false then 0 else credit) * label_weight 1 starts ws x ≤ credit * label_weight 1 starts ws (x - 1)
        → moves (take (x + 1) draft) starts ws + rest * label_weight 1 starts ws ((x + 1) - 1) ≤ moves (take (x + 1) code) starts ws
    more starts marked ws before left =
        let w : ℕ = label_weight 1 starts ws x in
        let b : ℕ = if slice_index_or started x false then 0 else credit in
        let sums : (rest + weight j) * label_weight 1 starts ws x ≡ ((if slice_index_or started x false then 0 else credit) + weight i) * label_weight 1 starts ws x = ap (λ n. n * label_weight 1 starts ws x) (one.paid i j at at') in
        let one' = add-mul rest (weight j) (label_weight 1 starts ws x) in
        let two = add-mul (if slice_index_or started x false then 0 else credit) (weight i) (label_weight 1 starts ws x) in
        let next : x + 1 ≡ suc x = omega arith in
        let back : (x + 1) - 1 ≡ x = omega arith in
        let zero' : 0 + x ≡ x = omega arith in
        let old : moves (take (x + 1) code) starts ws ≡ moves (take x code) starts ws + weight i * label_weight 1 starts ws x =
        ap (λ n. moves (take n code) starts ws) next ∙ moves-one 0 x code i starts ws at ∙ ap (λ n. moves (take x code) starts ws + weight i * label_weight 1 starts ws n) zero' in
        let new : moves (take (x + 1) draft) starts ws ≡ moves (take x draft) starts ws + weight j * label_weight 1 starts ws x =
        ap (λ n. moves (take n draft) starts ws) next ∙ moves-one 0 x draft j starts ws at' ∙ ap (λ n. moves (take x draft) starts ws + weight j * label_weight 1 starts ws n) zero' in
        let here : rest * label_weight 1 starts ws ((x + 1) - 1) ≡ rest * label_weight 1 starts ws x = ap (λ n. rest * label_weight 1 starts ws n) back in
        omega arith

pub paid-all : (code draft : List Instr) (started : List Bool) (x credit : ℕ) → length code ≤ x → length draft ≡ length code → IsPaidTo code draft started x credit → (starts : List ℕ) → AreMarked started (IsLabelStart starts) → (ws : List ℕ) → moves draft starts ws ≤ moves code starts ws
paid-all code draft started x credit le size h starts marked ws =
    let a = ap (λ l. moves l starts ws) (take_all x code le) in
    let b = ap (λ l. moves l starts ws) (take_all x draft (omega arith)) in
    let p = h.paid starts marked ws in
    omega arith

most-of : (b : Bool) (n : ℕ) → (if b then 0 else n) ≤ n
most-of true n = omega arith
most-of false n = omega arith

pub paid-by : (code draft : List Instr) (started : List Bool) (x credit saved old new : ℕ) (i j : Instr) → slice_get code x ≡ Some i → slice_get draft x ≡ Some j → old ≡ weight i → new ≡ weight j → saved ≡ (if slice_index_or started x false then 0 else credit) → credit ≤ 16 * x → old ≤ 16
    → (o : Option ℕ) → IfSome o (λ n. n + new ≡ saved + old) → IfSome o (λ n. IsPaidAt code draft started x credit n)
paid-by code draft started x credit saved old new i j at at' is-old is-new is-saved few most None h = h
paid-by code draft started x credit saved old new i j at at' is-old is-new is-saved few most (Some n) h = record {
  few = let m = most-of (slice_index_or started x false) credit in omega arith;
  paid = λ k l there there'.
      let same : weight k ≡ weight i = ap weight (some-instr k i (sym there ∙ at)) in
      let same' : weight l ≡ weight j = ap weight (some-instr l j (sym there' ∙ at')) in
      omega arith;
}

-- Where a meaning is going, the same meaning is going with exactly these writes.
use Rattle.std.proofs.Common.{◌≡◌, ℕ, zero, suc, List, [], ◌∷◌, ◌++◌, Bool, true, false, cond, refl, ap, sym, ◌∙◌, ◌⊎◌, inl, inr, ⊎_elim}
use Rattle.std.proofs.lemmas.List.{append-nil}
use Rattle.std.proofs.lemmas.List.Elements.{filter-append}
use Rattle.nv_base.specs.declared.outcome.Outcome.TheVariants.{Going}
use Rattle.nv_base.specs.declared.outcome.Write.{Write}
use Rattle.nv_base.specs.Memories.{Memories}
use Rattle.nv_base.specs.Meanings.{FullOutcome, Meaning, Same, IsPrefix, seen, source_writes, source_memories, is_source_write, left_by}
use Rattle.nv_base.specs.Progress.{OneMore, IsStepwise, FollowsWrites}

-- a beginning of a list with one more is a beginning of the list, or all of it
prefix-last : (a w rest : List Write) (x : Write) → a ++ x ∷ [] ≡ w ++ rest → IsPrefix w a ⊎ (w ≡ a ++ x ∷ [])
prefix-last a [] rest x e = inl (a, refl)
prefix-last [] (y ∷ []) rest x e = let same : y ≡ x = cc in inr (ap (λ z. z ∷ []) same)
prefix-last [] (y ∷ z ∷ w) rest x e = cc
prefix-last (b ∷ a) (y ∷ w) rest x e =
    let head : y ≡ b = cc in
    let tail : a ++ x ∷ [] ≡ w ++ rest = cc in
    ⊎_elim (λ (p : IsPrefix w a). inl (p.0, ap (λ l. b ∷ l) p.1 ∙ ap (λ z. z ∷ (w ++ p.0)) (sym head)))
    (λ (q : w ≡ a ++ x ∷ []). inr (ap (λ z. z ∷ w) head ∙ ap (λ l. b ∷ l) q)) (prefix-last a w rest x tail)

kept-at : (b : Bool) (w : Write) → (cond b (w ∷ []) [] ≡ []) ⊎ (cond b (w ∷ []) [] ≡ w ∷ [])
kept-at true w = inr refl
kept-at false w = inl refl

kept-one : (w : Write) → (source_writes (w ∷ []) ≡ []) ⊎ (source_writes (w ∷ []) ≡ w ∷ [])
kept-one w = kept-at (is_source_write w.mem w.at) w

empty-front : (w rest : List Write) → [] ≡ w ++ rest → w ≡ []
empty-front [] rest e = refl
empty-front (x ∷ w) rest e = cc

-- at some step the run is still going, with exactly these writes
abbrev pub StandsWith : Meaning → List Write → Type 0
StandsWith n w = (k : ℕ) × ((n k).outcome ≡ Going) × ((seen (n k)).writes ≡ w)

passes-one : (n : Meaning) (j : ℕ) (w a : List Write) (x : Write) → (seen (n (suc j))).writes ≡ a ++ source_writes (x ∷ []) → (n (suc j)).outcome ≡ Going → IsPrefix w (seen (n (suc j))).writes → (IsPrefix w a → StandsWith n w) → (source_writes (x ∷ []) ≡ []) ⊎ (source_writes (x ∷ []) ≡ x ∷ []) → StandsWith n w
passes-one n j w a x e go p before (inl none) = before (p.0, sym (e ∙ ap (λ l. a ++ l) none ∙ append-nil a) ∙ p.1)
passes-one n j w a x e go p before (inr one) =
    let all : (seen (n (suc j))).writes ≡ a ++ x ∷ [] = e ∙ ap (λ l. a ++ l) one in
    ⊎_elim before (λ (q : w ≡ a ++ x ∷ []). (suc j, go, all ∙ sym q)) (prefix-last a w p.0 x (sym all ∙ p.1))

passes-step : (n : Meaning) (j : ℕ) (w : List Write) → OneMore (n j) (n (suc j)) → IsPrefix w (seen (n (suc j))).writes → (IsPrefix w (seen (n j)).writes → StandsWith n w) → StandsWith n w
passes-step n j w (inl same) p before = before (p.0, sym (ap source_writes same) ∙ p.1)
passes-step n j w (inr more) p before = passes-one n j w (seen (n j)).writes more.0 (ap source_writes more.1 ∙ filter-append (λ w. is_source_write w.mem w.at) (n j).writes (more.0 ∷ [])) more.2 p before (kept-one more.0)

-- Each beginning of the writes of a run stands alone at some step at which the run is still going.
pub passes : (n : Meaning) → IsStepwise n → (j : ℕ) (w : List Write) → IsPrefix w (seen (n j)).writes → StandsWith n w
passes n s zero w p =
    let nothing : (seen (n 0)).writes ≡ [] = ap source_writes s.unwritten in
    (0, s.start, nothing ∙ sym (empty-front w p.0 (sym nothing ∙ p.1)))
passes n s (suc j) w p = passes-step n j w (s.steps j) p (λ q. passes n s j w q)

pub full-is : (f g : FullOutcome) → f.outcome ≡ g.outcome → f.packet ≡ g.packet → f.writes ≡ g.writes → f ≡ g
full-is f g a b c =
    ap (λ o. record { outcome = o; packet = f.packet; writes = f.writes }) a
    ∙ ap (λ p. record { outcome = g.outcome; packet = p; writes = f.writes }) b
    ∙ ap (λ ws. record { outcome = g.outcome; packet = g.packet; writes = ws }) c

-- where the first is going, the second is so at some step, with the same memories and writes
pub going_from_same : (p : Memories) (m n : Meaning) → Same m n → FollowsWrites p m → FollowsWrites p n → IsStepwise n
    → (i : ℕ) → (m i).outcome ≡ Going → (j : ℕ) × (seen (m i) ≡ seen (n j))
going_from_same p m n same told told' steps i going =
    let some = same.writes i in
    let at : StandsWith n (seen (m i)).writes = passes n steps some.0 (seen (m i)).writes some.1 in
    (at.0, full-is (seen (m i)) (seen (n at.0)) (going ∙ sym at.1) (told i ∙ ap (λ ws. source_memories (left_by ws p)) (sym at.2) ∙ sym (told' at.0)) (sym at.2))

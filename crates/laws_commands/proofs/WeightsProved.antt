-- Weights of texts.
use Rattle.std.proofs.Common.{◌≡◌, ◌<◌, ◌≤◌, ◌^◌, ◌∙◌, refl, sym, subst, ℕ, List, [], ◌∷◌, Some, Ok, lit<, lit≤}
use Rattle.std.specs.Fmt.{digits}
use Rattle.std.proofs.lemmas.List.Elements.{All-nil, All-cons}
use Rattle.nv_outside.specs.Holding.{Holding}
use Rattle.place_weights.specs.Weighted.{AreWeights}
use Rattle.place_weights.specs.WeightsText.{AreCounts}
use Rattle.place_weights.proofs.Exact.{bad_answer, given_answer, weights-bounded}
use Rattle.novac_words.specs.declared.refusal.Refusal.{Refusal}
use Rattle.novac_words.specs.declared.refusal.Refusal.TheVariants.{BadWeights}
use Rattle.novac_commands.specs.Weighing.{AreWeighed, HasWeights, IsWeighedBy, WeightsRefuse}
use Rattle.laws_commands.specs.Weights.{WeightsOfFiles}

few_counts : AreCounts (0 ∷ 5 ∷ 2000 ∷ [])
few_counts = record {
  few = lit≤ tt;
  words = All-cons (λ (c : ℕ). c < 2 ^ 32) 0 (5 ∷ 2000 ∷ []) (lit< tt) (All-cons (λ (c : ℕ). c < 2 ^ 32) 5 (2000 ∷ []) (lit< tt) (All-cons (λ (c : ℕ). c < 2 ^ 32) 2000 [] (lit< tt) (All-nil (λ (c : ℕ). c < 2 ^ 32))));
}

bounded : (given : List (List ℕ)) (ws : List ℕ) → AreWeighed given ws → AreWeights ws
bounded [] ws h = subst AreWeights (sym h) (All-nil (λ w. (1 ≤ w) × (w ≤ 1023)))
bounded (text ∷ []) ws (counts, gives, e) = subst AreWeights (sym e) (weights-bounded counts)
bounded (text ∷ other ∷ more) ws h = absurd h

one : (given : List (List ℕ)) (ws vs : List ℕ) → AreWeighed given ws → AreWeighed given vs → ws ≡ vs
one [] ws vs h k = h ∙ sym k
one (text ∷ []) ws vs h (counts, gives, e) = given_answer text (Ok ws) h tt counts gives ∙ sym e
one (text ∷ other ∷ more) ws vs h k = absurd h

read : (given : List (List ℕ)) (ws : List ℕ) (e : Refusal) → AreWeighed given ws → WeightsRefuse given e → ⊥
read (text ∷ []) ws (BadWeights n) h k = bad_answer text (Ok ws) h tt n k
read _ ws _ h k = k

some_once : (x y : List ℕ) → Some x ≡ Some y → x ≡ y
some_once x y e = cc

held : (store : Holding) (name text ws : List ℕ) → store name ≡ Some text → HasWeights store (Some name) ws → AreWeighed (text ∷ []) ws
held store name text ws here (other, there, short, weighed) = subst (λ t. IsWeighedBy t ws) (some_once other text (sym there ∙ here)) weighed

pub weights_of_files : WeightsOfFiles
unfolding digits
weights_of_files = record {
  short = (0 ∷ 5 ∷ 2000 ∷ [], record { valid = few_counts; spelled = refl }, refl);
  bounded = bounded;
  one = one;
  read = read;
  held = held;
  without = λ store ws h. h;
}

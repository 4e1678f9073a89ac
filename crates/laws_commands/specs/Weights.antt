-- The weights that a file gives.
use Rattle.std.specs.Prelude.{◌≡◌, ℕ, List, [], ◌∷◌, Some, None, codes}
use Rattle.nv_lines.specs.Line.{text_of}
use Rattle.nv_outside.specs.Holding.{Holding}
use Rattle.place_weights.specs.Weighted.{AreWeights}
use Rattle.novac_words.specs.declared.refusal.Refusal.{Refusal}
use Rattle.novac_commands.specs.Weighing.{AreWeighed, HasWeights, WeightsRefuse}

-- A count below 1 weighs 1, and one over 1,023 that. Weights are those of one text, from 1 to 1,023 each, and its text isn't refused. Without a file
-- each label weighs 1.
pub record WeightsOfFiles : Type 0 where
  pub short : AreWeighed (text_of (codes "weights 3" ∷ codes "l 0" ∷ codes "l 5" ∷ codes "l 2000" ∷ []) ∷ []) (1 ∷ 5 ∷ 1023 ∷ [])
  pub bounded : (given : List (List ℕ)) (ws : List ℕ) → AreWeighed given ws → AreWeights ws
  pub one : (given : List (List ℕ)) (ws vs : List ℕ) → AreWeighed given ws → AreWeighed given vs → ws ≡ vs
  pub read : (given : List (List ℕ)) (ws : List ℕ) (e : Refusal) → AreWeighed given ws → WeightsRefuse given e → ⊥
  pub held : (held : Holding) (name text ws : List ℕ) → held name ≡ Some text → HasWeights held (Some name) ws → AreWeighed (text ∷ []) ws
  pub without : (held : Holding) (ws : List ℕ) → HasWeights held None ws → ws ≡ []

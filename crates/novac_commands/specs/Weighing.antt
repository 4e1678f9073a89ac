-- The weights of the labels of a compilation's form, and why their text is refused.
use Rattle.std.specs.Prelude.{◌≡◌, ◌≤◌, ◌⊎◌, ℕ, List, [], ◌∷◌, Option, Some, None, length, map}
use Rattle.nv_outside.specs.Holding.{Holding}
use Rattle.place_weights.specs.WeightsText.{Gives, IsBad, clamped}
use Rattle.novac_words.specs.Limits.{weights_limit}
use Rattle.novac_words.specs.declared.refusal.Refusal.{Refusal}
use Rattle.novac_words.specs.declared.refusal.Refusal.TheVariants.{BadWeights}
use Rattle.nova_compile.specs.Programs.{HasTyped}
use Rattle.novac_commands.specs.Reading.{SourceRefuses}

-- these are the weights of a text: a label's count, raised to 1 or lowered to 1,023
abbrev pub IsWeighedBy : List ℕ → List ℕ → Type 0
IsWeighedBy text ws = (counts : List ℕ) × Gives text counts × (ws ≡ map clamped counts)

-- these are the weights by the contents of the files after the source: without one each label weighs 1
abbrev pub AreWeighed : List (List ℕ) → List ℕ → Type 0
AreWeighed [] ws = ws ≡ []
AreWeighed (text ∷ []) ws = IsWeighedBy text ws
AreWeighed _ ws = ⊥

-- these are the weights by the file that is named
abbrev pub HasWeights : Holding → Option (List ℕ) → List ℕ → Type 0
HasWeights held None ws = ws ≡ []
HasWeights held (Some name) ws = (text : List ℕ) × (held name ≡ Some text) × (length text ≤ weights_limit) × IsWeighedBy text ws

-- a line of the text of weights isn't of its form
abbrev pub WeightsRefuse : List (List ℕ) → Refusal → Type 0
WeightsRefuse (text ∷ []) (BadWeights n) = IsBad text n
WeightsRefuse _ _ = ⊥

-- the source is refused, or else the text of weights
abbrev pub TextsRefuse : List ℕ → List (List ℕ) → Refusal → Type 0
TextsRefuse source given e = SourceRefuses source e ⊎ HasTyped source (λ _. WeightsRefuse given e)

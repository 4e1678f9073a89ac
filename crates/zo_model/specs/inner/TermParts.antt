-- the parts of a row's line after its least
use Rattle.std.specs.Prelude.{◌≡◌, ℕ, ◌<◌, ◌≤◌, List, map, ℤ}
use Rattle.zo_model.specs.Program.{IsCoefficient, AreTerms}
use Rattle.zo_model.specs.ProgramText.{term_text}

-- the part is a term whose column is lo at least and below n
pub record IsTerm (lo n : ℕ) (part : List ℕ) (t : ℕ × ℤ) : Type 0 where
  pub low : lo ≤ t.0
  pub high : t.0 < n
  pub coefficient_fits : IsCoefficient t.1
  pub spelled : part ≡ term_text t

-- the parts are these terms over n columns
pub record SpellTerms (n : ℕ) (parts : List (List ℕ)) (ts : List (ℕ × ℤ)) : Type 0 where
  pub terms : AreTerms n ts
  pub spelled : parts ≡ map term_text ts

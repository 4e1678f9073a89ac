-- The lines that commands print, and the statuses of outcomes.
use Rattle.std.specs.Prelude.{◌≡◌, ℕ, List, [], ◌∷◌, ◌++◌, codes}
use Rattle.nv_base.specs.declared.outcome.Outcome.TheVariants as outcome
use Rattle.nv_base.specs.declared.term.Mem.TheVariants.{Sram}
use Rattle.zo_cert.specs.declared.report.Verdict.TheVariants.{Optimal}
use Rattle.novac_words.specs.Lines.{cannot_read, compiled_text, infeasible_text, peeped_text, refusal_status, refusal_text, spent_text}
use Rattle.novac_words.specs.Status.{MaySave, outcome_status, status_number}
use Rattle.novac_words.specs.declared.refusal.Refusal.TheVariants as refusal
use Rattle.novac_words.specs.declared.status.Status.TheVariants.{Usage, NoMemory, Unlawful}

-- a line and its line feed
abbrev pub line : List ℕ → List ℕ
line text = text ++ 10 ∷ []

-- what `compile` and `peep` print, and refusals with their numbers
pub record ShortMessages : Type 0 where
  pub compiled : compiled_text 12 Optimal 3 ≡ line (codes "compiled 12 optimal 3")
  pub peeped : peeped_text 12 7 ≡ line (codes "peeped 12 7")
  pub infeasible : infeasible_text ≡ line (codes "infeasible")
  pub spent : spent_text 2000 ≡ line (codes "budget 2000")
  pub read : cannot_read (codes "a.nova") ≡ line (codes "cannot read a.nova")
  pub memory : refusal_text refusal.NoMemory ≡ []
  pub typed : refusal_text (refusal.SourceType 14 (record { first = 3; after = 5 })) ≡ line (codes "type 14 at 3 5")
  pub ruled : refusal_text (refusal.Unlawful 3 9) ≡ line (codes "unlawful place 3 rule 9")
  pub ruled_status : status_number (refusal_status (refusal.Unlawful 3 9)) ≡ 18
  pub typed_status : status_number (refusal_status (refusal.SourceType 14 (record { first = 3; after = 5 }))) ≡ 7

-- the status of each outcome, and which statuses can't come with a changed file
pub record StatusesOfOutcomes : Type 0 where
  pub ended : (ws : List ℕ) → status_number (outcome_status (outcome.Ended ws)) ≡ 0
  pub raised : (k : ℕ) (ws : List ℕ) → status_number (outcome_status (outcome.Raised k ws)) ≡ 14
  pub fault : (at : ℕ) → status_number (outcome_status (outcome.Fault Sram at)) ≡ 15
  pub going : status_number (outcome_status outcome.Going) ≡ 16
  pub usage : MaySave Usage → ⊥
  pub exhausted : MaySave NoMemory → ⊥
  pub unlawful : MaySave Unlawful → ⊥

-- A schedule decides how contexts end, and why it is refused.
use Rattle.std.proofs.Common.{◌≡◌, ℕ, inl, inr, List, [], ◌∷◌, ap, sym, ◌∙◌}
use Rattle.nv_base.specs.Memories.{Memories}
use Rattle.nv_base.specs.declared.outcome.Outcome.{Outcome}
use Rattle.nv_base.specs.declared.outcome.Outcome.TheVariants.{Ended, Raised, Fault, Going}
use Rattle.nv_base.specs.declared.term.Mem.{Mem}
use Rattle.uc_schedule.specs.ScheduleText.{Gives}
use Rattle.uc_schedule.proofs.Reading.{bad_one, gives_not_bad}
use Rattle.uc_contexts.specs.declared.state.Context.{Context}
use Rattle.uc_contexts.specs.Alone.{lone_runs}
use Rattle.uc_contexts.specs.Footprints.{Isolated}
use Rattle.uc_contexts.specs.Turns.{scheduled, started}
use Rattle.uc_contexts.proofs.Disjoint.{common-not_disjoint, first-one}
use Rattle.uc_isa.specs.Code.{CodeView}
use Rattle.novac_words.specs.declared.refusal.Refusal.{Refusal}
use Rattle.novac_words.specs.declared.refusal.Refusal.TheVariants.{BadSchedule}
use Rattle.novac_words.specs.declared.status.Status.{Status}
use Rattle.novac_machine.specs.Scheduled.{HaveTakenTurns, IsScheduleRefusedFor, TellsShared, contexts_status, shared_line, system_text, unless_ended}
use Rattle.novac_machine.specs.inner.Outcomes.{IsOutcome}

-- ---- refusals

pub turns-refused-one : (params : ℕ) (u : List ℕ) (e e' : Refusal) → IsScheduleRefusedFor params u e → IsScheduleRefusedFor params u e' → e ≡ e'
turns-refused-one params u (BadSchedule n) (BadSchedule m) h k = ap (λ (x : ℕ). BadSchedule x) (bad_one params u n m h k)
turns-refused-one params u (BadSchedule n) _ h k = absurd k
turns-refused-one params u _ e' h k = absurd h

pub turns-good : (params : ℕ) (u : List ℕ) (e : Refusal) (args : List (List ℕ)) (es : List (ℕ × ℕ)) → Gives params u args es → IsScheduleRefusedFor params u e → ⊥
turns-good params u (BadSchedule n) args es g h = gives_not_bad params u args es n g h
turns-good params u _ args es g h = h

-- ---- turns

line-one : (c : CodeView) (p : Memories) (runs : List Isolated) (line line' : List ℕ) → TellsShared c p runs line → TellsShared c p runs line' → line ≡ line'
line-one c p runs line line' (inl h) (inl k) = h.1 ∙ sym k.1
line-one c p runs line line' (inl h) (inr k) = absurd (common-not_disjoint c p runs k.0 k.1 k.2.common h.0)
line-one c p runs line line' (inr h) (inl k) = absurd (common-not_disjoint c p runs h.0 h.1 h.2.common k.0)
line-one c p runs line line' (inr h) (inr k) =
    let same = first-one c p runs h.0 h.1 k.0 k.1 h.2 k.2 in
    h.3 ∙ ap (λ (m : Mem). shared_line m h.1) same.0 ∙ ap (λ (a : ℕ). shared_line k.0 a) same.1 ∙ sym k.3

pub taken-one : (c : CodeView) (p : Memories) (args : List (List ℕ)) (schedule : List ℕ) (s s' : Status) (text text' : List ℕ) → HaveTakenTurns c p args schedule s text → HaveTakenTurns c p args schedule s' text' → (s ≡ s') × (text ≡ text')
taken-one c p args schedule s s' text text' h k =
    let line = line-one c p (lone_runs schedule args) h.line k.line h.tells k.tells in
    (h.ends ∙ sym k.ends, h.prints ∙ ap (λ (l : List ℕ). system_text (scheduled c.list schedule (record { contexts = started args; packet = p })) l) line ∙ sym k.prints)

-- ---- statuses

unless-outcome : (o : Outcome) (s : Status) → IsOutcome s → IsOutcome (unless_ended o s)
unless-outcome (Ended ws) s h = h
unless-outcome (Raised k ws) s h = tt
unless-outcome (Fault m a) s h = tt
unless-outcome Going s h = tt

pub taken-outcome : (xs : List Context) → IsOutcome (contexts_status xs)
taken-outcome [] = tt
taken-outcome (x ∷ xs) = unless-outcome x.outcome (contexts_status xs) (taken-outcome xs)

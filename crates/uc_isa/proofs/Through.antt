-- Code that agrees with a later form agrees with what that form came from.
use Rattle.std.proofs.Common.{◌≡◌, ℕ, List, sym, ◌∙◌}
use Rattle.nv_base.specs.Memories.{Memories, HasSizes}
use Rattle.nv_base.specs.Meanings.{KeepsOutcomes, AreArguments}
use Rattle.nv_base.specs.Progress.{FollowsWrites}
use Rattle.nv_base.proofs.Same.{same-trans}
use Rattle.uc_isa.specs.Code.{CodeView}
use Rattle.uc_isa.specs.Engine.{engine}
use Rattle.uc_isa.specs.Agrees.{Agrees, SourceMeaning, IsStart}
use Rattle.uc_isa.proofs.Agreement.{agrees-where_same}

start-of : (params params' : ℕ) (args : List ℕ) (p : Memories) (base : ℕ) → params ≡ params' → IsStart params args p base → IsStart params' args p base
start-of params params' args p base e s = record { words = (s.words.0 ∙ e, s.words.1); memories = s.memories; spills = s.spills }

pub agrees-through : (params params' : ℕ) (first second : SourceMeaning) (c : CodeView) → KeepsOutcomes params params' first second
    → ((args : List ℕ) (p : Memories) → AreArguments params args → HasSizes p → FollowsWrites p (first args p))
    → Agrees params' second c → Agrees params first c
agrees-through params params' first second c kept follows h =
    agrees-where_same params first c (h.parameters ∙ sym kept.arguments)
    (λ args p base s. same-trans (first args p) (second args p) (engine c args base p) (kept.same args p s.words s.memories) (h.same args p base (start-of params params' args p base kept.arguments s)))
    (λ args p base s. follows args p s.words s.memories)
    (λ args p base s m. h.spills args p base (start-of params params' args p base kept.arguments s) m)

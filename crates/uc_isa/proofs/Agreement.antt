-- Code agrees with a source where it is the same and keeps to its words.
use Rattle.std.proofs.Common.{◌≡◌, ℕ, List}
use Rattle.std.specs.Prelude.{slice_get}
use Rattle.nv_base.specs.Memories.{Memories}
use Rattle.nv_base.specs.Meanings.{Same}
use Rattle.nv_base.specs.Progress.{FollowsWrites}
use Rattle.nv_base.proofs.Going.{going_from_same}
use Rattle.nv_base.proofs.MemoryLemmas.{seen_follows}
use Rattle.uc_isa.specs.Code.{CodeView}
use Rattle.uc_isa.specs.Engine.{engine, start, after}
use Rattle.uc_isa.specs.Agrees.{Agrees, SourceMeaning, IsStart, KeepsToItsWords, scratch_access}
use Rattle.uc_isa.proofs.Follows.{engine-follows}
use Rattle.uc_isa.proofs.Steps.{engine-stepwise}

pub agrees-where_same : (params : ℕ) (source : SourceMeaning) (c : CodeView) → c.params ≡ params
    → ((args : List ℕ) (p : Memories) (base : ℕ) → IsStart params args p base → Same (source args p) (engine c args base p))
    → ((args : List ℕ) (p : Memories) (base : ℕ) → IsStart params args p base → FollowsWrites p (source args p))
    → ((args : List ℕ) (p : Memories) (base : ℕ) → IsStart params args p base
    → (m : ℕ) → let n = after c.list m (start args base) p in KeepsToItsWords base (scratch_access (slice_get c.list n.engine.place) n.engine))
    → Agrees params source c
agrees-where_same params source c parameters same follows spills = record {
  parameters = parameters;
  same = same;
  going = λ args p base s i going. going_from_same p (source args p) (engine c args base p) (same args p base s) (follows args p base s) (seen_follows p (engine c args base p) (engine-follows c args base p)) (engine-stepwise c args base p) i going;
  spills = spills;
}

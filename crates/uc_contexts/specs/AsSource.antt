-- Contexts whose code does what a source says.
use Rattle.std.specs.Prelude.{◌≡◌, ℕ, ◌≤◌, ◌⊎◌, List, All, Some, length, slice_get}
use Rattle.nv_base.specs.declared.term.Mem.{Mem}
use Rattle.nv_base.specs.declared.term.Mem.TheVariants.{Scratch}
use Rattle.nv_base.specs.Log.{empty_log, noted_all}
use Rattle.nv_base.specs.Memories.{Memories, HasSizes, source_scratch}
use Rattle.nv_base.specs.Meanings.{AreArguments, IsOver, source_writes}
use Rattle.uc_isa.specs.Agrees.{Agrees, IsStart, SourceMeaning}
use Rattle.uc_isa.specs.Code.{CodeView}
use Rattle.uc_isa.specs.Lawful.{IsLawful}
use Rattle.uc_contexts.specs.declared.state.Context.{Context}
use Rattle.uc_contexts.specs.Alone.{AreDisjoint, lone_runs}
use Rattle.uc_contexts.specs.Footprints.{Isolated, Reads, Writes}
use Rattle.uc_contexts.specs.Turns.{base_of, kept_writes, scheduled, started}

-- the context has what the source alone comes to with some number of calls: its outcome, and its writes in the log
pub record DidAsSource (source : SourceMeaning) (args : List ℕ) (p : Memories) (x : Context) : Type 0 where
  pub calls : ℕ
  pub outcome : x.outcome ≡ (source args p calls).outcome
  pub log : x.log ≡ noted_all (empty_log kept_writes) (source_writes (source args p calls).writes)

-- Code does what a source says. At most four contexts of it take turns by a schedule, and keep apart. Then each context whose run is over did
-- what the source does alone, on the context's arguments and the first memories.
abbrev pub EndAsSource : Type 0
EndAsSource = (params : ℕ) (source : SourceMeaning) (c : CodeView) (p : Memories) (schedule : List ℕ) (args : List (List ℕ))
    → IsLawful c.list → Agrees params source c → HasSizes p → length args ≤ 4 → All (AreArguments params) args → AreDisjoint c p (lone_runs schedule args)
    → (i : ℕ) (words : List ℕ) (x : Context) → slice_get args i ≡ Some words → slice_get (scheduled c.list schedule (record { contexts = started args; packet = p })).contexts i ≡ Some x → IsOver x.outcome
    → DidAsSource source words p x

-- the run reads or writes the address
abbrev pub Reaches : CodeView → Memories → Isolated → Mem → ℕ → Type 0
Reaches c p run m a = Reads c p run m a ⊎ Writes c p run m a

-- Code does what a source says. Of two runs from the bases of two contexts, one at most reaches a word of scratch from 512 on.
abbrev pub ShareNoSlot : Type 0
ShareNoSlot = (params : ℕ) (source : SourceMeaning) (c : CodeView) (p : Memories) (i j : ℕ) (x y : Isolated) → Agrees params source c → IsStart params x.args p x.base → IsStart params y.args p y.base
    → x.base ≡ base_of i → y.base ≡ base_of j → ¬ (i ≡ j) → (a : ℕ) → source_scratch ≤ a → Reaches c p x Scratch a → ¬ Reaches c p y Scratch a

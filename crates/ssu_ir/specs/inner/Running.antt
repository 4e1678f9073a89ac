-- A run over the slab: the words of variables, and what one node does before the tree of a number.
use Rattle.std.specs.Prelude.{◌≡◌, ℕ, ◌<◌, ◌≤◌, true, ⊤, List, [], ◌∷◌, All, Some, length, slice_index_or, if◌then◌else◌}
use Rattle.nv_base.specs.Log.{Log, noted_all}
use Rattle.nv_base.specs.Memories.{Memories}
use Rattle.nv_base.specs.Sets.{is_in}
use Rattle.nv_base.specs.Words.{Env, compares}
use Rattle.nv_base.specs.declared.outcome.Outcome.TheVariants.{Going}
use Rattle.nv_base.specs.World.{World, over}
use Rattle.ssu_ir.specs.declared.node.SsuLabel.{SsuLabel}
use Rattle.ssu_ir.specs.declared.node.SsuNode.{SsuNode}
use Rattle.ssu_ir.specs.declared.ssu.Ssu.{Ssu}
use Rattle.ssu_ir.specs.declared.step.LabelExit.{LabelExit}
use Rattle.ssu_ir.specs.declared.step.LabelExit.TheVariants.{Jump as LeavesBy, Over}
use Rattle.ssu_ir.specs.declared.step.NextStep.{NextStep}
use Rattle.ssu_ir.specs.declared.step.NextStep.TheVariants.{On, Left}
use Rattle.ssu_ir.specs.Tree.{Step, Lit, Una, Bin, Clone, Read, Write, Last, Jump, Halt, Node, Does, Forks, Ends, step_values, step_clones}
use Rattle.ssu_ir.specs.Single.{is_step}
use Rattle.ssu_ir.specs.Slots.{Slots, slot, node_of}
use Rattle.ssu_ir.specs.Entered.{Exit, JumpsTo, EndsWith, step_exit, last_exit}
use Rattle.ssu_ir.specs.inner.Checks.{node_defs}

-- the word of each variable stands at its number
abbrev pub env_of : List ℕ → Env
env_of values = λ x. slice_index_or values x 0

-- these memories and this log, which began as log0, are those of a run here
pub record At (log0 : Log) (p : Memories) (log : Log) (w : World) : Type 0 where
  pub packet : p ≡ w.packet
  pub writes : log ≡ noted_all log0 w.writes

-- how a run leaves a node, where `go` says it for the tree of each number
abbrev pub node_exit : Node → List ℕ → (ℕ → Env → World → Exit) → Env → World → Exit
node_exit (Does s) [] go env w = EndsWith (over Going w)
node_exit (Does s) (k ∷ ks) go env w = step_exit s (go k) env w
node_exit (Forks c x y) [] go env w = EndsWith (over Going w)
node_exit (Forks c x y) (j ∷ []) go env w = go j env w
node_exit (Forks c x y) (j ∷ k ∷ ks) go env w = if compares c (env x) (env y) then go j env w else go k env w
node_exit (Ends l) ks go env w = last_exit l env w

abbrev pub leaving_exit : LabelExit → List ℕ → World → Exit
leaving_exit (LeavesBy l) ws w = JumpsTo l ws w
leaving_exit (Over o) ws w = EndsWith (over o w)

abbrev pub went_exit : NextStep → List ℕ → Env → World → (ℕ → Env → World → Exit) → Exit
went_exit (On k) ws env w go = go k.0 env w
went_exit (Left l) ws env w go = leaving_exit l ws w

-- what a node does is what comes of its answer
pub record Stepped (n : Node) (ks : List ℕ) (env : Env) (log0 : Log) (w : World) (r : NextStep) (ws : List ℕ) (env' : Env) (p : Memories) (log : Log) : Type 0 where
  pub now : World
  pub at : At log0 p log now
  pub exit : (go : ℕ → Env → World → Exit) → node_exit n ks go env w ≡ went_exit r ws env' now go

-- a run goes on with a child of the node
abbrev pub GoesOn : List ℕ → NextStep → Type 0
GoesOn ks (On k) = is_in k.0 ks ≡ true
GoesOn ks (Left l) = ⊤

-- the run is left so
pub record LeftBy (e : Exit) (log0 : Log) (l : LabelExit) (ws : List ℕ) (p : Memories) (log : Log) : Type 0 where
  pub now : World
  pub at : At log0 p log now
  pub exit : e ≡ leaving_exit l ws now

-- ---- that there is room

abbrev pub LastFits : ℕ → Last → Type 0
LastFits room (Jump l xs) = length xs ≤ room
LastFits room (Halt e xs) = length xs ≤ 8

-- what a node defines has a place, and the words that it takes along have room
abbrev pub Fits : ℕ → ℕ → Node → Type 0
Fits places room (Does s) = (is_step s ≡ true) × All (λ x. x < places) (step_values s) × All (λ x. x < places) (step_clones s)
Fits places room (Forks c x y) = ⊤
Fits places room (Ends l) = LastFits room l

-- what any node defines has a place
abbrev pub NodesHavePlaces : ℕ → Slots → Type 0
NodesHavePlaces places slots = (i : ℕ) (n : SsuNode) → slot slots i ≡ Some n → All (λ x. x < places) (node_defs (node_of n))

-- the address of a write
abbrev pub step_stored_at : Step → List ℕ
step_stored_at (Lit x v) = []
step_stored_at (Una x op y) = []
step_stored_at (Bin x op y z) = []
step_stored_at (Clone xs y) = []
step_stored_at (Read m xs y) = []
step_stored_at (Write m y xs) = y ∷ []

abbrev pub stored_at : Node → List ℕ
stored_at (Does s) = step_stored_at s
stored_at (Forks c x y) = []
stored_at (Ends l) = []

-- every variable has a place, and the words of every jump have room, 8 at least
pub record HasRoom (s : Ssu) (places room : ℕ) : Type 0 where
  pub nodes : NodesHavePlaces places s.nodes.slots
  pub params : All (λ (l : SsuLabel). All (λ x. x < places) l.params.items) s.labels.items
  pub eight : 8 ≤ room
  pub words : All (λ (l : SsuLabel). length l.params.items ≤ room) s.labels.items

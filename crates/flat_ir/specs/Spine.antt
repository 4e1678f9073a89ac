-- Code as steps and an end.
use Rattle.std.specs.Prelude.{◌≡◌, List, [], ◌∷◌, length}
use Rattle.nv_base.specs.Words.{Env, assigned, assigned_all, atom_word, atom_words, prim_word}
use Rattle.flat_ir.specs.declared.flat.Flat.{Flat}
use Rattle.flat_ir.specs.declared.flat.Flat.TheVariants.{Let', Fetch', Store', Bind'}
use Rattle.flat_ir.specs.declared.spine.Step.{Step}
use Rattle.flat_ir.specs.declared.spine.Step.TheVariants.{Let, Fetch, Store, Bind}
use Rattle.nv_base.specs.Running.{Running}
use Rattle.flat_ir.specs.Running.{Result, and_then, fetch, store}
use Rattle.flat_ir.specs.Meaning.{Calls, does}

-- what is done under an assignment
abbrev pub Act : Type 0
Act = Env → Running → Result

-- one step, and then the rest
abbrev pub step_does : Calls → Step → Act → Act
step_does call (Let x a) rest env now = rest (assigned env x (prim_word env a)) now
step_does call (Fetch m xs a) rest env now = fetch m (length xs.items) (atom_word env a) now (λ ws. rest (assigned_all env xs.items ws) now)
step_does call (Store m a bs) rest env now = store m (atom_word env a) (atom_words env bs.items) now (λ next. rest env next)
step_does call (Bind xs t) rest env now = and_then (does call t env now) (λ ws next. rest (assigned_all env xs.items ws) next)

abbrev pub steps_do : Calls → List Step → Act → Act
steps_do call [] rest = rest
steps_do call (s ∷ ss) rest = step_does call s (steps_do call ss rest)

-- the second is the node of the step with the first after it, wherever its boxes lie
abbrev pub IsNode : Step → Flat → Flat → Type 0
IsNode (Let x a) t u = (q : _) × (u ≡ Let' x a q t)
IsNode (Fetch m xs a) t u = (q : _) × (u ≡ Fetch' m xs a q t)
IsNode (Store m a bs) t u = (q : _) × (u ≡ Store' m a bs q t)
IsNode (Bind xs first) t u = (q : _) × (r : _) × (u ≡ Bind' xs q first r t)

-- the second is the nodes of the steps with the first after them
abbrev pub AreNodes : List Step → Flat → Flat → Type 0
AreNodes [] end t = t ≡ end
AreNodes (s ∷ ss) end t = (u : Flat) × AreNodes ss end u × IsNode s u t

-- the step before some code
pub record IsPut (s : Step) (t u : Flat) : Type 0 where
  pub by : (call : Calls) → does call u ≡ step_does call s (does call t)
  pub node : IsNode s t u

-- the steps before the end
pub record IsJoined (ss : List Step) (end t : Flat) : Type 0 where
  pub by : (call : Calls) → does call t ≡ steps_do call ss (does call end)
  pub nodes : AreNodes ss end t

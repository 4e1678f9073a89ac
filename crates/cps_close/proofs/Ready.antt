-- What a term has to be like, where some labels are in scope and some variables known, for its tree to do the same.
use Rattle.std.proofs.Common.{◌≡◌, ℕ, true, false, List, [], ◌∷◌, ◌++◌, Some, length, slice_get}
use Rattle.nv_base.specs.Words.{Env}
use Rattle.nv_base.specs.Sets.{is_in, Within, AgreeOn}
use Rattle.cps_ir.specs.Term as cps
use Rattle.cps_ir.specs.View.{Seen}
use Rattle.cps_ir.specs.Formed.{Scoped, scoped, takes}
use Rattle.cps_ir.specs.Meaning.{Scope, Top, Bound}
use Rattle.flow_ir.specs.Tree as flow
use Rattle.flow_ir.specs.Wide.{live}
use Rattle.flow_ir.specs.inner.Scoped.{Apart}
use Rattle.cps_close.specs.inner.Closed.{Table, needed, number, tree_of, with_wanted}

-- a label where these variables are known
pub record LabelReady (labels : List flow.Label) (tab : Table) (known : List ℕ) (c : Seen) : Type 0 where
  pub inside : Within (needed tab c.label) known
  pub apart : Apart c.params known
  pub whole : Within (live (tree_of tab c.body)) (c.params ++ needed tab c.label)
  pub found : slice_get labels (number tab c.label) ≡ Some (with_wanted tab c (needed tab c.label))

abbrev mutual
  pub Ready : List flow.Label → Table → Scoped → List ℕ → cps.Term → Type 0
  Ready labels tab ss known (cps.Let x a t) = (is_in x known ≡ false) × Ready labels tab ss (x ∷ known) t
  Ready labels tab ss known (cps.Read m xs a t) = Apart xs known × Ready labels tab ss (xs ++ known) t
  Ready labels tab ss known (cps.Write m a bs t) = Ready labels tab ss known t
  Ready labels tab ss known (cps.If c a b t u) = Ready labels tab ss known t × Ready labels tab ss known u
  Ready labels tab ss known (cps.Fix ls t) = AllReady labels tab (scoped ls ++ ss) known ls × Ready labels tab (scoped ls ++ ss) known t
  Ready labels tab ss known (cps.Call f bs k hs) = ⊥
  Ready labels tab ss known (cps.Return bs) = ⊥
  Ready labels tab ss known (cps.Throw e bs) = ⊥
  Ready labels tab ss known (cps.Jump l bs) = takes ss l (length bs) ≡ true
  Ready labels tab ss known (cps.Halt e bs) = true ≡ true

  pub AllReady : List flow.Label → Table → Scoped → List ℕ → cps.Labels → Type 0
  AllReady labels tab ss known cps.none = true ≡ true
  AllReady labels tab ss known (cps.label l xs t ls) =
      LabelReady labels tab known (record { label = l; params = xs; body = t }) × Ready labels tab ss (xs ++ known) t × AllReady labels tab ss known ls

-- labels in scope that were made where some variables were known, which still have the words that they had
pub record Level (labels : List flow.Label) (tab : Table) (ls : cps.Labels) (inner : Env) (ss : Scoped) (known : List ℕ) (env : Env) (outer : Scoped) (before : List ℕ) : Type 0 where
  pub scopes : ss ≡ scoped ls ++ outer
  pub ready : AllReady labels tab ss before ls
  pub within : Within before known
  pub agrees : AgreeOn before inner env

abbrev pub Along : List flow.Label → Table → Scope → Scoped → List ℕ → Env → Type 0
Along labels tab Top ss known env = ss ≡ []
Along labels tab (Bound ls inner sc) ss known env = (outer : Scoped) × (before : List ℕ) × Level labels tab ls inner ss known env outer before × Along labels tab sc outer before inner

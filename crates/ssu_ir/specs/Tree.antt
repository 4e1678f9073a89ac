-- Trees and labels as pure data, and what a node defines and uses.
use Rattle.std.specs.Prelude.{ℕ, List, [], ◌∷◌}
use Rattle.nv_base.specs.declared.term.Mem.{Mem}
use Rattle.nv_base.specs.declared.term.Una.{Una as Unary}
use Rattle.nv_base.specs.declared.term.Bin.{Bin as Binary}
use Rattle.nv_base.specs.declared.term.Cmp.{Cmp}

-- what goes on with one tree
pub data Step : Type 0 where
  Lit : (x v : ℕ) → Step
  Una : (x : ℕ) (op : Unary) (y : ℕ) → Step
  Bin : (x : ℕ) (op : Binary) (y z : ℕ) → Step
  Clone : (xs : List ℕ) (y : ℕ) → Step
  Read : (m : Mem) (xs : List ℕ) (y : ℕ) → Step
  Write : (m : Mem) (y : ℕ) (xs : List ℕ) → Step

-- what leaves a label
pub data Last : Type 0 where
  Jump : (l : ℕ) (xs : List ℕ) → Last
  Halt : (e : ℕ) (xs : List ℕ) → Last

pub data Tree : Type 0 where
  Do : (s : Step) (t : Tree) → Tree
  If : (c : Cmp) (x y : ℕ) (t u : Tree) → Tree
  End : (l : Last) → Tree

pub record Label : Type 0 where
  pub params : List ℕ
  pub body : Tree

-- a node alone, without the trees after it
pub data Node : Type 0 where
  Does : (s : Step) → Node
  Forks : (c : Cmp) (x y : ℕ) → Node
  Ends : (l : Last) → Node

-- ---- what a node defines: values, or clones of one

abbrev pub step_values : Step → List ℕ
step_values (Lit x v) = x ∷ []
step_values (Una x op y) = x ∷ []
step_values (Bin x op y z) = x ∷ []
step_values (Clone xs y) = []
step_values (Read m xs y) = xs
step_values (Write m y xs) = []

abbrev pub step_clones : Step → List ℕ
step_clones (Lit x v) = []
step_clones (Una x op y) = []
step_clones (Bin x op y z) = []
step_clones (Clone xs y) = xs
step_clones (Read m xs y) = []
step_clones (Write m y xs) = []

-- ---- its uses, by operand: of a write the address, then the words; a `Clone` has none

abbrev pub step_uses : Step → List ℕ
step_uses (Lit x v) = []
step_uses (Una x op y) = y ∷ []
step_uses (Bin x op y z) = y ∷ z ∷ []
step_uses (Clone xs y) = []
step_uses (Read m xs y) = y ∷ []
step_uses (Write m y xs) = y ∷ xs

abbrev pub last_uses : Last → List ℕ
last_uses (Jump l xs) = xs
last_uses (Halt e xs) = xs

-- ---- of any node

abbrev pub node_values : Node → List ℕ
node_values (Does s) = step_values s
node_values (Forks c x y) = []
node_values (Ends l) = []

abbrev pub node_uses : Node → List ℕ
node_uses (Does s) = step_uses s
node_uses (Forks c x y) = x ∷ y ∷ []
node_uses (Ends l) = last_uses l

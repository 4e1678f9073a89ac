-- Runs of definitions in which those that jumps back hand on and choices test stand last.
use Rattle.std.specs.Prelude.{◌≡◌, ℕ, suc, ◌≤◌, nat_eq, nat_lt, Bool, false, not, ◌&&◌, if◌then◌else◌, List, [], ◌∷◌, ◌++◌, ⊤}
use Rattle.nv_base.specs.declared.term.Atom.{Atom}
use Rattle.nv_base.specs.declared.term.Atom.TheVariants.{Var, Lit}
use Rattle.nv_base.specs.Words.{prim_vars}
use Rattle.nv_base.specs.Sets.{is_in, all_vars}
use Rattle.flow_ir.specs.Tree.{Tree, Let, Read, Write, If, Jump, Halt, Label}
use Rattle.cps_rules.specs.Simplified.{EachLet}
use Rattle.flow_sink.specs.Sunk.{nodes}

-- the variable of a comparison with 0
abbrev pub against_zero : Atom → Atom → List ℕ
against_zero (Var x) (Lit v) = if nat_eq v 0 then x ∷ [] else []
against_zero (Var x) (Var y) = []
against_zero (Lit v) b = []

-- the variables that choices of a tree compare with 0
abbrev pub tested : Tree → List ℕ
tested (Let x p t) = tested t
tested (Read m xs a t) = tested t
tested (Write m a bs t) = tested t
tested (If c a b t u) = against_zero a b ++ (tested t ++ tested u)
tested (Jump l bs) = []
tested (Halt e bs) = []

-- the variables that jumps of a tree to a label hand on
abbrev pub handed : ℕ → Tree → List ℕ
handed own (Let x p t) = handed own t
handed own (Read m xs a t) = handed own t
handed own (Write m a bs t) = handed own t
handed own (If c a b t u) = handed own t ++ handed own u
handed own (Jump l bs) = if nat_eq l own then all_vars bs else []
handed own (Halt e bs) = []

-- how late a definition stands
abbrev pub rank : List ℕ → List ℕ → ℕ → ℕ
rank ts hs x = if is_in x ts then 2 else (if is_in x hs then 1 else 0)

-- a tree begins with a definition that stands less late and doesn't use x
abbrev pub waits : List ℕ → List ℕ → ℕ → Tree → Bool
waits ts hs x (Let y q t) = nat_lt (rank ts hs y) (rank ts hs x) && not (is_in x (prim_vars q))
waits ts hs x (Read m xs a t) = false
waits ts hs x (Write m a bs t) = false
waits ts hs x (If c a b t u) = false
waits ts hs x (Jump l bs) = false
waits ts hs x (Halt e bs) = false

-- no definition of a tree stands right above such a one, where the tree is of this label
abbrev pub IsOrdered : ℕ → Tree → Type 0
IsOrdered own t = EachLet (λ x p rest. waits (tested t) (handed own t) x rest ≡ false) t

-- so is each label that isn't long, from a number on
abbrev pub AreOrdered : ℕ → List Label → Type 0
AreOrdered own [] = ⊤
AreOrdered own (l ∷ ls) = (nodes l.body ≤ 1024 → IsOrdered own l.body) × AreOrdered (suc own) ls

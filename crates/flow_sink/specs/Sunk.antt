-- Trees in which no definition is computed above a choice for one of its arms alone.
use Rattle.std.specs.Prelude.{◌≡◌, ℕ, ◌+◌, ◌≤◌, Bool, false, not, ◌&&◌, ◌||◌, List, [], ◌∷◌, All}
use Rattle.nv_base.specs.Words.{atom_vars, prim_vars}
use Rattle.nv_base.specs.Sets.{is_in, all_vars}
use Rattle.flow_ir.specs.Tree.{Tree, Let, Read, Write, If, Jump, Halt, Label}
use Rattle.flow_ir.specs.Wide.{uses}
use Rattle.cps_rules.specs.Simplified.{EachLet}

-- one of two holds alone
abbrev pub differ : Bool → Bool → Bool
differ a b = a && not b || (not a && b)

-- one arm alone of a tree's first choice uses x, and nothing before the arms does
abbrev pub sinks : ℕ → Tree → Bool
sinks x (Let y p t) = not (is_in x (prim_vars p)) && sinks x t
sinks x (Read m xs a t) = not (is_in x (atom_vars a)) && sinks x t
sinks x (Write m a bs t) = not (is_in x (all_vars (a ∷ bs))) && sinks x t
sinks x (If c a b t u) = not (is_in x (all_vars (a ∷ b ∷ []))) && differ (is_in x (uses t)) (is_in x (uses u))
sinks x (Jump l bs) = false
sinks x (Halt e bs) = false

-- no definition of a tree is wanted so
abbrev pub IsSunk : Tree → Type 0
IsSunk t = EachLet (λ x p rest. sinks x rest ≡ false) t

-- the nodes of a tree
abbrev pub nodes : Tree → ℕ
nodes (Let x p t) = 1 + nodes t
nodes (Read m xs a t) = 1 + nodes t
nodes (Write m a bs t) = 1 + nodes t
nodes (If c a b t u) = 1 + (nodes t + nodes u)
nodes (Jump l bs) = 1
nodes (Halt e bs) = 1

-- so is each label that isn't long
abbrev pub AreSunk : List Label → Type 0
AreSunk ls = All (λ l. nodes l.body ≤ 1024 → IsSunk l.body) ls

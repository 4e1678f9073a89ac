-- How definitions sink, from the last one to the first.
use Rattle.std.specs.Prelude.{ℕ, nat_le, if◌then◌else◌}
use Rattle.nv_base.specs.declared.term.Primitive.{Primitive}
use Rattle.nv_base.specs.Sets.{is_in}
use Rattle.flow_ir.specs.Tree.{Tree, Let, Read, Write, If, Jump, Halt, Label}
use Rattle.flow_ir.specs.Wide.{uses}
use Rattle.flow_sink.specs.Sunk.{sinks, nodes}

-- a definition before a tree, or in the tree with it further down where it sinks
abbrev pub placed : ℕ → Primitive → Tree → Tree → Tree
placed x p t further = if sinks x t then further else Let x p t

-- a definition at the head of the arm that uses it, or further down
abbrev pub lowered : ℕ → Primitive → Tree → Tree
lowered x p (Let y q t) = Let y q (lowered x p t)
lowered x p (Read m xs a t) = Read m xs a (lowered x p t)
lowered x p (Write m a bs t) = Write m a bs (lowered x p t)
lowered x p (If c a b t u) = if is_in x (uses t) then If c a b (placed x p t (lowered x p t)) u else If c a b t (placed x p u (lowered x p u))
lowered x p (Jump l bs) = Let x p (Jump l bs)
lowered x p (Halt e bs) = Let x p (Halt e bs)

-- all definitions sink
abbrev pub sunk : Tree → Tree
sunk (Let x p t) = placed x p (sunk t) (lowered x p (sunk t))
sunk (Read m xs a t) = Read m xs a (sunk t)
sunk (Write m a bs t) = Write m a bs (sunk t)
sunk (If c a b t u) = If c a b (sunk t) (sunk u)
sunk (Jump l bs) = Jump l bs
sunk (Halt e bs) = Halt e bs

-- what stands behind the definition at a tree's head
abbrev pub behind : Tree → Tree
behind (Let x p t) = t
behind (Read m xs a t) = Read m xs a t
behind (Write m a bs t) = Write m a bs t
behind (If c a b t u) = If c a b t u
behind (Jump l bs) = Jump l bs
behind (Halt e bs) = Halt e bs

-- in a label that isn't long
abbrev pub label_sunk : Label → Label
label_sunk l = if nat_le (nodes l.body) 1024 then record { params = l.params; body = sunk l.body } else l

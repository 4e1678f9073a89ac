use Rattle.std.proofs.Common.{◌≡◌, ◌⊎◌, ◌<◌, ◌≤◌, ℕ, Some, All, Contains}
use Rattle.ssu_ir.specs.declared.node.SsuNode.{SsuNode}
use Rattle.ssu_ir.specs.Slots.{slot, node_of}
use Rattle.ssu_ir.specs.inner.Checks.{node_defs}
use Rattle.ssu_ir.proofs.places.nodes_end.Given as goal

-- every node is among the entries that are left, or what it defines is below
abbrev pub invariant-loop-n : goal.invariant-loop-n
invariant-loop-n l =
    (goal.iterator-loop-n).can_next l.n-iterator
    × (goal.iterator-loop-n).is_finite l.n-iterator
    × ((key : ℕ) (m : SsuNode) → slot l.s.nodes.slots key ≡ Some m → Contains l.n-iterator (key, m) ⊎ All (λ x. x < l.most) (node_defs (node_of m)))
    × (l.least ≤ l.most)

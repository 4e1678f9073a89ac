-- How large the single use form of a flow may be, and how long its code, by the flow's width and bulk.
use Rattle.std.specs.Prelude.{ℕ, ◌+◌, ◌*◌, max}
use Rattle.nv_base.specs.Measures.{Bulk}

-- Points, values and uses. A label has its entry, its parameters and their clones. Of another node each operand may be a literal of two halves: with
-- its use it counts 9. A word that a node defines counts as a value and may have clones.
abbrev pub size_bound : ℕ → Bulk → ℕ
size_bound wide b = b.labels * (1 + 2 * wide) + (b.jumps * (1 + 9 * max wide 8) + (b.nodes + 2 * b.defined + 9 * b.used))

-- instructions of the code, by the same account
abbrev pub length_bound : ℕ → Bulk → ℕ
length_bound wide b = b.labels * (3 * wide) + (b.jumps * (1 + 21 * max wide 8) + (2 * b.nodes + 4 * b.defined + 18 * b.used)) + 24

-- Measures of code: how many words it wants at once, and how much of it there is. Those of each language of the compiler are made of these.
use Rattle.std.specs.Prelude.{ℕ, ◌+◌, ◌*◌, ◌≤◌, List, [], ◌∷◌, length}
use Rattle.nv_base.specs.declared.term.Atom.{Atom}
use Rattle.nv_base.specs.Sets.{different, without, all_vars}

-- ---- widths of places

-- of a node with operands, where these variables are live after it or outside: each operand counts, however often it stands, and 1 for
-- the second half of a literal
abbrev pub operands_wide : List ℕ → List Atom → ℕ
operands_wide held [] = different held
operands_wide held (a ∷ as') = different (without held (all_vars (a ∷ as'))) + (length (a ∷ as') + 1)

-- of a `Let`, where these variables are live before it or outside: two operands, and 1 for the second half of a literal
abbrev pub let_wide : List ℕ → ℕ
let_wide held = different held + 3

-- where N words get variables at once, used or not: the other live variables, and 1 for the second half of a literal
abbrev pub entry_wide : List ℕ → ℕ → ℕ
entry_wide held n = different held + (n + 1)

-- a number for each group of functions
abbrev pub Widths : Type 0
Widths = ℕ → ℕ

-- ---- bulk: labels, jumps, other nodes, and the words that the other nodes define and use

pub record Bulk : Type 0 where
  pub labels : ℕ
  pub jumps : ℕ
  pub nodes : ℕ
  pub defined : ℕ
  pub used : ℕ

abbrev pub nothing : Bulk
nothing = record { labels = 0; jumps = 0; nodes = 0; defined = 0; used = 0 }

abbrev pub a_label : Bulk
a_label = record { labels = 1; jumps = 0; nodes = 0; defined = 0; used = 0 }

abbrev pub a_jump : Bulk
a_jump = record { labels = 0; jumps = 1; nodes = 0; defined = 0; used = 0 }

-- a node that defines and uses N words
abbrev pub a_node : ℕ → ℕ → Bulk
a_node defined used = record { labels = 0; jumps = 0; nodes = 1; defined = defined; used = used }

abbrev pub both : Bulk → Bulk → Bulk
both a b = record { labels = a.labels + b.labels; jumps = a.jumps + b.jumps; nodes = a.nodes + b.nodes; defined = a.defined + b.defined; used = a.used + b.used }

-- a bulk for each group of functions
abbrev pub Bulks : Type 0
Bulks = ℕ → Bulk

-- each number of the first is at most that of the second
pub record IsAtMost (a b : Bulk) : Type 0 where
  pub labels : a.labels ≤ b.labels
  pub jumps : a.jumps ≤ b.jumps
  pub nodes : a.nodes ≤ b.nodes
  pub defined : a.defined ≤ b.defined
  pub used : a.used ≤ b.used

-- what code of this size may have
abbrev pub of_size : ℕ → Bulk
of_size e = record { labels = e; jumps = e + 1; nodes = e; defined = e; used = 2 * e }

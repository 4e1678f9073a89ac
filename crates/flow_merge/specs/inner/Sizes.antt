-- The tests of a result: how much code there is, and whether it is contracted, by a table of how many jumps lead to each label.
use Rattle.std.specs.Prelude.{ℕ, suc, nat_eq, nat_le, Bool, true, not, ◌&&◌, ◌||◌, List, [], ◌∷◌, slice_index_or}
use Rattle.nv_base.specs.Measures.{Bulk}
use Rattle.flow_ir.specs.Tree.{Label}
use Rattle.flow_merge.specs.Contracted.{is_bare, is_undecided}
use Rattle.flow_merge.specs.declared.sizes.Sizes.{Sizes}

abbrev pub bulk_of : Sizes → Bulk
bulk_of s = record { labels = s.labels; jumps = s.jumps; nodes = s.nodes; defined = s.defined; used = s.used }

-- the number at a place, or 0
abbrev pub at : List ℕ → ℕ → ℕ
at counts l = slice_index_or counts l 0

-- a label of this number may stay
abbrev pub fits : List ℕ → ℕ → Label → Bool
fits counts i l = is_undecided l.body && (nat_eq i 0 || (nat_le 2 (at counts i) && not (is_bare i l.body)))

-- so may all of these from a number on
abbrev pub all_fit : List ℕ → ℕ → List Label → Bool
all_fit counts i [] = true
all_fit counts i (l ∷ ls) = fits counts i l && all_fit counts (suc i) ls

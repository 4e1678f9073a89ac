-- The numbering and the ranks that a plan says.
use Rattle.std.specs.Prelude.{ℕ, nat_eq, ◌||◌, false, slice_index_or}
use Rattle.flow_merge.specs.declared.plan.Plan.{Plan}
use Rattle.flow_merge.specs.inner.Copied.{Numbering}

abbrev pub numbering : Plan → Numbering
numbering p = record { stays = λ l. nat_eq l 0 || slice_index_or p.stays.items l false; to = λ l. slice_index_or p.to.items l 0 }

-- the rank of a label, 0 where the plan has none
abbrev pub rank_of : Plan → ℕ → ℕ
rank_of p l = slice_index_or p.ranks.items l 0

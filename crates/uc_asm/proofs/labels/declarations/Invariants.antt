use Rattle.std.proofs.Common.{◌≡◌, ◌≤◌, ℕ, List, drop}
use Rattle.uc_asm.specs.inner.First.{first_declared, noted, or_else}
use Rattle.uc_asm.specs.inner.Seen.{all_seen}
use Rattle.uc_asm.proofs.labels.declarations.Given as goal

-- what is found so far, or else what the rest declares, is the whole
abbrev pub invariant-loop-index : goal.invariant-loop-index
invariant-loop-index l =
    (l.place ≤ l.index) × ((name : List ℕ) →
    or_else (noted l.labels name) (first_declared (all_seen (drop l.index l.items)) l.index l.place name) ≡ first_declared (all_seen l.items) 0 0 name)

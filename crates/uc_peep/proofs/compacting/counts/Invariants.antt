use Rattle.std.proofs.Common.{◌≡◌, ◌≤◌, ◌<◌, ℕ, length}
use Rattle.std.specs.Prelude.{slice_index}
use Rattle.uc_peep.specs.Kept.{kept_before}
use Rattle.uc_peep.proofs.compacting.counts.Given as goal

abbrev pub invariant-loop-g : goal.invariant-loop-g
invariant-loop-g l = record {
  size : length l.v.items ≡ l.g-index;
  so_far : (x : ℕ) → x < l.g-index → slice_index l.v.items x ≡ kept_before l.gone x;
  here : l.n ≡ kept_before l.gone l.g-index;
  few : l.n ≤ l.g-index;
}

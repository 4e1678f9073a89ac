use Rattle.std.proofs.Common.{ℕ, ◌≤◌, ◌<◌, ◌+◌, take, drop, None}
use Rattle.std.specs.Prelude.{slice_index}
use Rattle.uc_peep.specs.Draft.{AreOpen, MayReplace}
use Rattle.uc_peep.proofs.windows.shorter_at.Given as goal

abbrev pub invariant-loop-n : goal.invariant-loop-n
invariant-loop-n g l = record {
  all : AreOpen l.code l.gone l.entered l.started l.p (l.p + l.n);
  asked : (k : ℕ) → 1 ≤ k → k < l.n + 1 → MayReplace l.code l.gone l.entered l.started l.p k → g.R.Window.answers l.r (take k (drop l.p l.code)) (slice_index l.sets (l.p + k)) None;
}

use Rattle.std.proofs.Common.{◌≡◌, length, take}
use Rattle.zo_solve_dive.proofs.sums.Sums.follow.Given as goal

abbrev pub invariant-loop-j : goal.invariant-loop-j
invariant-loop-j l = record {
  program : l.self.program ≡ l.initial.self.program;
  places : length l.self.fixed ≡ length l.fixed;
  same : take l.j l.self.fixed ≡ take l.j l.fixed;
}

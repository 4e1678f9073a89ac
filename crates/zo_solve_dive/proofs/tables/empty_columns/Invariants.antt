use Rattle.std.proofs.Common.{◌≡◌, [], length}
use Rattle.std.specs.List.{All}
use Rattle.zo_solve_dive.proofs.tables.empty_columns.Given as goal

abbrev pub invariant-loop : goal.invariant-loop
invariant-loop l = record {
  many : length l.columns.items ≡ l.counter;
  empty : All (λ c. c.items ≡ []) l.columns.items;
}

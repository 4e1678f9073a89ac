-- What the definitions give of short code, by computing.
use Rattle.std.proofs.Common.{refl}
use Rattle.uc_isa.specs.Worked.{SumRuns, MovesCost}

pub sum_runs : SumRuns
sum_runs = record { ended = λ p. refl; going = λ p. refl }

pub moves_cost : MovesCost
moves_cost = record { plain = refl; weighted = refl; without = refl }

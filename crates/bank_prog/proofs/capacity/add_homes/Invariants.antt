use Rattle.std.proofs.Common.{◌≡◌, ◌++◌, drop}
use Rattle.std.specs.List.{flat_map}
use Rattle.bank_prog_form.specs.Rows as lines
use Rattle.std.proofs.Common.{ℕ}
use Rattle.bank_prog.proofs.capacity.add_homes.Given as goal

abbrev pub invariant-loop-x : goal.invariant-loop-x
invariant-loop-x l = l.cs.items ++ flat_map (λ (y : ℕ). lines.home y l.h) (drop l.x-index l.xs) ≡ l.fn.cs.items ++ flat_map (λ (y : ℕ). lines.home y l.h) l.xs

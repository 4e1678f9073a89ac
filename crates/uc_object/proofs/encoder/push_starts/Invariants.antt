use Rattle.std.proofs.Common.{ℕ, ◌<◌, take}
use Rattle.std.specs.List.{All}
use Rattle.uc_object.specs.Object.{IsNumber}
use Rattle.uc_object.specs.inner.Parts.{Adds}
use Rattle.uc_object.proofs.encoder.push_starts.Given as goal

abbrev pub invariant-loop-start : goal.invariant-loop-start
invariant-loop-start l = (count : ℕ) → All (λ start. start < count) l.list → Adds (IsNumber count) (take l.start-index l.list) l.initial.out.items l.out.items

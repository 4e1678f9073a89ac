use Rattle.std.proofs.Common.{◌≡◌, ◌+◌, drop}
use Rattle.std.specs.List.{prefix_len}
use Rattle.nv_text.specs.inner.Classes.{in_class}
use Rattle.nv_text.proofs.spelling.Class.run.Given as goal

abbrev pub invariant-loop-n : goal.invariant-loop-n
invariant-loop-n l = prefix_len (in_class l.self) l.bytes ≡ l.n + prefix_len (in_class l.self) (drop l.n l.bytes)

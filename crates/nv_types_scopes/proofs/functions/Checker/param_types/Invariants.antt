use Rattle.std.proofs.Common.{◌≡◌, take}
use Rattle.nv_types_table.specs.inner.Named.{named, bound_types}
use Rattle.nv_types_scopes.proofs.functions.Checker.param_types.Given as goal

abbrev pub invariant-loop-p : goal.invariant-loop-p
invariant-loop-p l = l.types.items ≡ bound_types (named (take l.p-index l.params))

use Rattle.std.proofs.Common.{◌≡◌, take}
use Rattle.nv_ast.specs.Tests.{names_of}
use Rattle.nv_types_table.specs.inner.Named.{named, plain_names}
use Rattle.nv_types_scopes.proofs.functions.Checker.without_twice_param.Given as goal

abbrev pub invariant-loop-p : goal.invariant-loop-p
invariant-loop-p l = plain_names l.names.items ≡ names_of (named (take l.p-index l.params))

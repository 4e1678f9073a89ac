use Rattle.std.proofs.Common.{◌≡◌, take}
use Rattle.nv_types_scopes.proofs.Shaping.{type_entries}
use Rattle.nv_types_scopes.proofs.functions.Checker.types_of.Given as goal

abbrev pub invariant-loop-m : goal.invariant-loop-m
invariant-loop-m l = l.types.items ≡ type_entries (take l.m-index l.members)

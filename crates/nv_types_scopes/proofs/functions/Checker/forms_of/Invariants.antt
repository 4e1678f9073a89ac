use Rattle.std.proofs.Common.{◌≡◌, take}
use Rattle.nv_types_scopes.proofs.Shaping.{form_entries}
use Rattle.nv_types_scopes.proofs.functions.Checker.forms_of.Given as goal

abbrev pub invariant-loop-m : goal.invariant-loop-m
invariant-loop-m l = l.forms.items ≡ form_entries (take l.m-index l.members)

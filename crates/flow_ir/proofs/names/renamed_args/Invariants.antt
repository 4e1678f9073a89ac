use Rattle.std.proofs.Common.{◌≡◌, take}
use Rattle.flow_ir.specs.Substitution.{all_renamed, look}
use Rattle.flow_ir.proofs.names.renamed_args.Given as goal

abbrev pub invariant-loop-a : goal.invariant-loop-a
invariant-loop-a l = l.v.items ≡ all_renamed (look l.names) (take l.a-index l.atoms)

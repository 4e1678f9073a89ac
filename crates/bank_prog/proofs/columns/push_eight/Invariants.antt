use Rattle.std.proofs.Common.{◌≡◌, ◌++◌, map, drop}
use Rattle.bank_prog_form.specs.declared.column.Column.TheVariants as column
use Rattle.bank_prog.proofs.columns.push_eight.Given as goal

abbrev pub invariant-loop-c : goal.invariant-loop-c
invariant-loop-c l = l.out.items ++ map (λ (c : column.the_data). (c, 0)) (drop l.c-index l.cs) ≡ l.fn.out.items ++ map (λ (c : column.the_data). (c, 0)) l.cs

use Rattle.std.proofs.Common.{◌≡◌, ◌++◌, map, drop}
use Rattle.bank_prog_form.specs.declared.column.Column.TheVariants as column
use Rattle.std.proofs.Common.{ℕ}
use Rattle.bank_prog.proofs.early.push_ears_at.Given as goal

abbrev pub invariant-loop-f : goal.invariant-loop-f
invariant-loop-f l = l.out.items ++ map (λ (f : ℕ). (column.EarlyWrite l.u.point l.u.operand f, 1)) (drop l.f-index l.firsts) ≡ l.fn.out.items ++ map (λ (f : ℕ). (column.EarlyWrite l.u.point l.u.operand f, 1)) l.firsts

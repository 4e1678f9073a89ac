use Rattle.std.proofs.Common.{◌≡◌, ◌++◌, map, drop}
use Rattle.bank_prog_form.specs.declared.column.Column.TheVariants as column
use Rattle.bank_prog_form.specs.declared.column.Service.{Service}
use Rattle.bank_prog_rows.proofs.choice.add_services.Given as goal

abbrev pub invariant-loop-s : goal.invariant-loop-s
invariant-loop-s l = l.cs.items ++ map (λ (s : Service). column.Serve l.u.point l.u.operand s.from s.at) (drop l.s-index l.services) ≡ l.fn.cs.items ++ map (λ (s : Service). column.Serve l.u.point l.u.operand s.from s.at) l.services

use Rattle.std.proofs.Common.{◌∙◌, sym, ap}
use Rattle.ssu_ir.specs.Slots.{node_of}
use Rattle.place_plan.specs.Uses.{node_roles}
use Rattle.bank_prog_form.specs.Rows.{two_operands}
use Rattle.bank_prog_form.proofs.Tabled.{no-arguments, no-endings}
use Rattle.bank_prog_form.proofs.tables.has_two_operands.Goals as goal

pub returns-in-Jump : goal.returns-in-Jump
returns-in-Jump c = no-arguments c.in-Jump.field-0 0 c.in-Jump.field-1.items ∙ sym (ap (λ n. two_operands (node_roles (node_of n))) c.in-Jump.is)

pub returns-in-Halt : goal.returns-in-Halt
returns-in-Halt c = no-endings 0 c.in-Halt.field-1.items ∙ sym (ap (λ n. two_operands (node_roles (node_of n))) c.in-Halt.is)

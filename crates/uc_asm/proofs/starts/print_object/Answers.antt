use Rattle.uc_asm.proofs.starts.print_object.Goals as goal

pub returns-in-One-clause-text : goal.returns-in-One-clause-text
returns-in-One-clause-text c = rw c.in-One.is c.print.ensures.text

pub returns-in-Two-clause-text : goal.returns-in-Two-clause-text
returns-in-Two-clause-text c = rw c.in-Two.is c.print_tagged.ensures.text

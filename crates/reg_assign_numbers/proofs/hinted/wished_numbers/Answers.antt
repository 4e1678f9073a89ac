use Rattle.reg_assign_numbers.proofs.hinted.wished_numbers.Goals as goal

pub returns-then-branch : goal.returns-then-branch
returns-then-branch c = c.in_ok-are_apart.ensures.0 c.if-branch.true

use Rattle.nv_types.proofs.program.measure.Goals as goal

pub returns-clause-judged : goal.returns-clause-judged
returns-clause-judged c =
    c.sizes_of-sizes.ensures.judged (record { known = c.in_ok-checker.ensures.known; variables = c.in_ok-checker.ensures.variables; counted = c.in_ok-checker.ensures.counted })

pub returns-clause-sized : goal.returns-clause-sized
returns-clause-sized c =
    c.sizes_of-sizes.ensures.sized (record { known = c.in_ok-checker.ensures.known; variables = c.in_ok-checker.ensures.variables; counted = c.in_ok-checker.ensures.counted })

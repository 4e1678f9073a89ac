use Rattle.zo_model.proofs.LineLemmas.{no_line_other}
use Rattle.zo_model.proofs.read_text.read_counted.Goals as goal

pub returns-in-None-clause-err : goal.returns-in-None-clause-err
returns-in-None-clause-err c =
    (c.in_ok-line.ensures.number, no_line_other _ _ _ _ c.in_ok-line.ensures.line c.in_ok-line.ensures.one c.in-None.ensures.none)

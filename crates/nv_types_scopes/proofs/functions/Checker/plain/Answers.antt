use Rattle.std.proofs.lemmas.Result.{err_from_is_err_and}
use Rattle.nv_types_scopes.proofs.functions.Checker.plain.Goals as goal

pub returns-in_err-judge-clause-judged : goal.returns-in_err-judge-clause-judged
returns-in_err-judge-clause-judged c = λ w t h k.
    let p = err_from_is_err_and c.from_residual.result c.from_residual.ensures.1 in
    rw (p.1, p.2) (c.in_err-judge.ensures w t h k)

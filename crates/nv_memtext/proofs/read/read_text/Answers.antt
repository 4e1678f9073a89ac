use Rattle.std.proofs.lemmas.Result.{err_from_is_err_and}
use Rattle.nv_memtext.proofs.read.read_text.Goals as goal

pub returns-in_err-sizes-clause-refuses : goal.returns-in_err-sizes-clause-refuses
returns-in_err-sizes-clause-refuses c =
    let p = err_from_is_err_and c.from_residual.result c.from_residual.ensures.1 in
    rw (p.1, p.2, ← c.of-lines.ensures) (c.in_err-sizes.ensures.err c.args.params)

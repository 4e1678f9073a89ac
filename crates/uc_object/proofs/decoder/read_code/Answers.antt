use Rattle.std.proofs.Common.{ap, subst, sym, drop, Err}
use Rattle.std.proofs.lemmas.Result.{err_from_is_err_and}
use Rattle.uc_object.specs.Object.{IsBadPlace}
use Rattle.uc_object.specs.declared.error.ObjectError.{ObjectError}
use Rattle.uc_object.specs.inner.Header.{HasHeader}
use Rattle.uc_object.proofs.Read.{passed, code-rows-bad, code-end-bad}
use Rattle.uc_object.proofs.decoder.read_code.Goals as goal

pub returns-in_err-list-clause-bad : goal.returns-in_err-list-clause-bad
returns-in_err-list-clause-bad c =
    let bytes = c.args.bytes.now in
    let header = subst (λ v. HasHeader bytes v c.args.header.params c.args.header.count (drop 12 bytes)) c.requires.version c.requires.header in
    let p = err_from_is_err_and c.from_residual.result c.from_residual.ensures.1 in
    λ at bad. code-rows-bad c.args.header.params c.args.header.count at bytes header
    (c.in_err-list.ensures.bad at (ap (λ (e : ObjectError). Err e) (passed c.from_residual.result p.0 c.in_err-list.field-0.0 at p.1 p.2 bad)))

pub returns-in_err-check_end-clause-bad : goal.returns-in_err-check_end-clause-bad
returns-in_err-check_end-clause-bad c =
    let bytes = c.args.bytes.now in
    let header = subst (λ v. HasHeader bytes v c.args.header.params c.args.header.count (drop 12 bytes)) c.requires.version c.requires.header in
    let p = err_from_is_err_and c.from_residual-in_err-check_end.result c.from_residual-in_err-check_end.ensures.1 in
    λ at bad.
    let more = c.in_err-check_end.ensures.more at (ap (λ (e : ObjectError). Err e) (passed c.from_residual-in_err-check_end.result p.0 c.in_err-check_end.field-0.0 at p.1 p.2 bad)) in
    subst (IsBadPlace bytes) (sym more.0) (code-end-bad c.args.header.params c.args.header.count c.in_ok-list.end c.in_ok-list.list.items bytes header c.requires.length more.1 c.in_ok-list.ensures.each)

use Rattle.std.proofs.Common.{◌≡◌, ◌<◌, ◌∙◌, List, ap, subst, sym, drop, length, Err}
use Rattle.std.specs.List.{All}
use Rattle.std.proofs.lemmas.Result.{err_from_is_err_and}
use Rattle.uc_isa.specs.Code.{CodeView}
use Rattle.uc_isa.specs.declared.instruction.Instr.{Instr}
use Rattle.uc_object.specs.Object.{IsBadPlace, IsTaggedObject}
use Rattle.uc_object.specs.declared.error.ObjectError.{ObjectError}
use Rattle.uc_object.specs.inner.Header.{HasHeader}
use Rattle.uc_object.proofs.Layers.{starts-below}
use Rattle.uc_object.proofs.Read.{passed, rows-bad, exceptions-decide, exceptions-bad, starts-left, starts-bad, end-left, tagged-read}
use Rattle.uc_object.proofs.Layers.{decides-end}
use Rattle.uc_object.proofs.Spelling.{code-same}
use Rattle.uc_object.proofs.decoder.read_tagged.Goals as goal

pub returns-in_err-list-clause-bad : goal.returns-in_err-list-clause-bad
returns-in_err-list-clause-bad c =
    let bytes = c.args.bytes.now in
    let n = c.args.header.count in
    let header = subst (λ v. HasHeader bytes v c.args.header.params n (drop 12 bytes)) c.requires.version c.requires.header in
    let p = err_from_is_err_and c.from_residual.result c.from_residual.ensures.1 in
    λ at bad. rows-bad c.args.header.params n c.args.counts.exceptions c.args.counts.starts at bytes header c.requires.counts
    (c.in_err-list.ensures.bad at (ap (λ (e : ObjectError). Err e) (passed c.from_residual.result p.0 c.in_err-list.field-0.0 at p.1 p.2 bad)))

pub returns-in_err-exceptions-clause-bad : goal.returns-in_err-exceptions-clause-bad
returns-in_err-exceptions-clause-bad c =
    let bytes = c.args.bytes.now in
    let n = c.args.header.count in
    let x = c.args.counts.exceptions in
    let k = c.args.counts.starts in
    let header = subst (λ v. HasHeader bytes v c.args.header.params n (drop 12 bytes)) c.requires.version c.requires.header in
    let first = exceptions-decide c.args.header.params n x k c.in_ok-list.end c.in_ok-list.list.items bytes header c.requires.counts c.in_ok-list.ensures.end c.in_ok-list.ensures.each in
    let p = err_from_is_err_and c.from_residual-in_err-exceptions.result c.from_residual-in_err-exceptions.ensures.1 in
    λ at bad. exceptions-bad n x k c.in_ok-list.end at bytes header.some first
    (c.in_err-exceptions.ensures.bad at (ap (λ (e : ObjectError). Err e) (passed c.from_residual-in_err-exceptions.result p.0 c.in_err-exceptions.field-0.0 at p.1 p.2 bad)))

pub returns-in_err-starts-clause-bad : goal.returns-in_err-starts-clause-bad
returns-in_err-starts-clause-bad c =
    let bytes = c.args.bytes.now in
    let n = c.args.header.count in
    let x = c.args.counts.exceptions in
    let k = c.args.counts.starts in
    let header = subst (λ v. HasHeader bytes v c.args.header.params n (drop 12 bytes)) c.requires.version c.requires.header in
    let first = exceptions-decide c.args.header.params n x k c.in_ok-list.end c.in_ok-list.list.items bytes header c.requires.counts c.in_ok-list.ensures.end c.in_ok-list.ensures.each in
    let second = starts-left n x k c.in_ok-list.end c.in_ok-exceptions.end c.in_ok-exceptions.exceptions.items bytes c.in_ok-list.ensures.end c.in_ok-exceptions.ensures.end c.in_ok-exceptions.ensures.each first in
    let p = err_from_is_err_and c.from_residual-in_err-starts.result c.from_residual-in_err-starts.ensures.1 in
    λ at bad. starts-bad n k c.in_ok-exceptions.end at bytes second
    (c.in_err-starts.ensures.bad at (ap (λ (e : ObjectError). Err e) (passed c.from_residual-in_err-starts.result p.0 c.in_err-starts.field-0.0 at p.1 p.2 bad)))

pub returns-in_err-check_end-clause-bad : goal.returns-in_err-check_end-clause-bad
returns-in_err-check_end-clause-bad c =
    let bytes = c.args.bytes.now in
    let n = c.args.header.count in
    let x = c.args.counts.exceptions in
    let k = c.args.counts.starts in
    let header = subst (λ v. HasHeader bytes v c.args.header.params n (drop 12 bytes)) c.requires.version c.requires.header in
    let first = exceptions-decide c.args.header.params n x k c.in_ok-list.end c.in_ok-list.list.items bytes header c.requires.counts c.in_ok-list.ensures.end c.in_ok-list.ensures.each in
    let second = starts-left n x k c.in_ok-list.end c.in_ok-exceptions.end c.in_ok-exceptions.exceptions.items bytes c.in_ok-list.ensures.end c.in_ok-exceptions.ensures.end c.in_ok-exceptions.ensures.each first in
    let third = end-left n k c.in_ok-exceptions.end c.in_ok-starts.end c.in_ok-starts.starts.items bytes header.few c.in_ok-exceptions.ensures.end c.in_ok-starts.ensures.end c.in_ok-starts.ensures.each second in
    let p = err_from_is_err_and c.from_residual-in_err-check_end.result c.from_residual-in_err-check_end.ensures.1 in
    λ at bad.
    let more = c.in_err-check_end.ensures.more at (ap (λ (e : ObjectError). Err e) (passed c.from_residual-in_err-check_end.result p.0 c.in_err-check_end.field-0.0 at p.1 p.2 bad)) in
    subst (IsBadPlace bytes) (sym more.0) (decides-end c.in_ok-starts.end bytes third more.1)

pub new-requires-clause-inside : goal.new-requires-clause-inside
new-requires-clause-inside c =
    let starts = c.in_ok-starts.starts.items in
    let size : c.args.header.count ≡ length c.new-code.result.list = sym c.in_ok-list.ensures.each.many.0 ∙ ap (λ (l : List Instr). length l) (sym c.new-code.ensures.list) in
    subst (λ n. All (λ start. start < n) starts) size (starts-below c.args.header.count starts c.in_ok-starts.ensures.each.part c.in_ok-starts.ensures.each.many.1)

pub returns-clause-object : goal.returns-clause-object
returns-clause-object c =
    let bytes = c.args.bytes.now in
    let n = c.args.header.count in
    let header = subst (λ v. HasHeader bytes v c.args.header.params n (drop 12 bytes)) c.requires.version c.requires.header in
    let list = c.in_ok-list.list.items in
    let exceptions = c.in_ok-exceptions.exceptions.items in
    let starts = c.in_ok-starts.starts.items in
    let code : CodeView = record { params = c.args.header.params; list = list } in
    let same : code ≡ c.new-code.result = code-same code c.new-code.result (sym c.new-code.ensures.params) (sym c.new-code.ensures.list) in
    subst (IsTaggedObject bytes) (ap (λ (x : CodeView). record { code = x; exceptions = exceptions; starts = starts }) same ∙ sym c.new.ensures)
    (tagged-read c.args.header.params n c.args.counts.exceptions c.args.counts.starts c.in_ok-list.end c.in_ok-exceptions.end c.in_ok-starts.end list exceptions starts bytes header c.requires.counts
    c.in_ok-check_end.ensures.end c.in_ok-list.ensures.each c.in_ok-exceptions.ensures.each c.in_ok-starts.ensures.each)

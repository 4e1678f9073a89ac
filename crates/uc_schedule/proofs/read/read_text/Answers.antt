use Rattle.std.proofs.Common.{[], subst}
use Rattle.std.proofs.lemmas.Result.{err_from_is_err_and}
use Rattle.uc_schedule.specs.inner.Reading.{HasRead}
use Rattle.uc_schedule.proofs.read.read_text.Goals as goal

pub returns-in_err-count-clause-refuses : goal.returns-in_err-count-clause-refuses
returns-in_err-count-clause-refuses c =
    let p = err_from_is_err_and c.from_residual.result c.from_residual.ensures.1 in
    rw (p.1, p.2, ← c.of-lines.ensures) (c.in_err-count.ensures.err c.args.params)

pub returns-in_err-args-clause-refuses : goal.returns-in_err-args-clause-refuses
returns-in_err-args-clause-refuses c =
    let p = err_from_is_err_and c.from_residual-in_err-args.result c.from_residual-in_err-args.ensures.1 in
    let first : HasRead c.args.params c.in_ok-count.count 1 c.args.bytes.now c.read_count.new.lines [] [] =
    subst (λ b. HasRead c.args.params c.in_ok-count.count 1 b c.read_count.new.lines [] []) c.of-lines.ensures (c.in_ok-count.ensures.ok c.args.params) in
    rw (p.1, p.2) (c.in_err-args.ensures.err c.args.bytes.now first)

pub returns-in_err-entries-clause-refuses : goal.returns-in_err-entries-clause-refuses
returns-in_err-entries-clause-refuses c =
    let p = err_from_is_err_and c.from_residual-in_err-entries.result c.from_residual-in_err-entries.ensures.1 in
    let first : HasRead c.args.params c.in_ok-count.count 1 c.args.bytes.now c.read_count.new.lines [] [] =
    subst (λ b. HasRead c.args.params c.in_ok-count.count 1 b c.read_count.new.lines [] []) c.of-lines.ensures (c.in_ok-count.ensures.ok c.args.params) in
    rw (p.1, p.2) (c.in_err-entries.ensures.err c.args.params c.args.bytes.now c.in_ok-args.args.items (c.in_ok-args.ensures.ok c.args.bytes.now first) c.in_ok-args.ensures.all)

use Rattle.std.proofs.Common.{◌∙◌, ◌++◌, ◌+◌, ap, map, sym, drop, arith}
use Rattle.std.specs.HashMap.{get}
use Rattle.zo_model.specs.Contents.{row_contents}
use Rattle.bank_prog_form.specs.Program.{same_column, row_of}
use Rattle.bank_prog_form.specs.inner.Form.{summary_view}
use Rattle.bank_prog_rows.specs.inner.Waiting.{writes, lists_of, part_writes, first_list}
use Rattle.bank_prog_form.proofs.Loops.{adds-as}
use Rattle.bank_prog_rows.proofs.WriteSteps.{rest-dropped, writes-more, writes-all}
use Rattle.bank_prog_rows.proofs.waiting.push_writes.Goals as goal

pub loop-k-preserved : goal.loop-k-preserved
loop-k-preserved c =
    let number = get same_column c.args.numbers.now in
    let k = c.loop-k.k in
    let now = lists_of (drop k c.args.words.now) in
    let goal = map row_contents c.args.rows.now.items ++ map (row_of number) (writes (map summary_view c.args.summaries.now) (lists_of c.args.words.now)) in
    ap (λ ls. map row_contents c.push_point_writes.new.rows.items ++ map (row_of number) (writes (map summary_view (drop (k + 1) c.args.summaries.now)) ls)) (sym (rest-dropped k c.args.words.now))
    ∙ writes-more number summary_view c.args.summaries.now k _ now c.loop-k.rows.items c.push_point_writes.new.rows.items goal (omega arith)
    (adds-as number c.loop-k.rows.items c.push_point_writes.new.rows.items _ _ c.in_ok-push_point_writes.ensures
    (ap (λ us. part_writes (summary_view c.index-summaries-k.result) us) c.words_at.ensures ∙ ap (λ s. part_writes (summary_view s) (first_list now)) c.index-summaries-k.is))
    c.loop-k.invariant

pub returns : goal.returns
returns c =
    let number = get same_column c.args.numbers.now in
    writes-all number summary_view c.args.summaries.now c.loop-k.k (lists_of (drop c.loop-k.k c.args.words.now)) c.loop-k.rows.items
    (map row_contents c.args.rows.now.items ++ map (row_of number) (writes (map summary_view c.args.summaries.now) (lists_of c.args.words.now))) (omega arith) c.loop-k.invariant

use Rattle.std.proofs.Common.{◌+◌, ◌++◌, get_or, arith}
use Rattle.std.proofs.lemmas.List.{get_or_default}
use Rattle.ssu_ir.specs.View.{labels_view}
use Rattle.place_plan.specs.inner.Parts.{number_of, names_of, word_serves}
use Rattle.place_plan.specs.inner.Targets.{target_role}
use Rattle.place_plan.proofs.PartSteps.{word-more}
use Rattle.place_plan.proofs.parts_serves.serve_words.Goals as goal

pub loop-i-preserved : goal.loop-i-preserved
loop-i-preserved c =
    let labels = labels_view c.args.s.now in
    let number = number_of c.args.given.now in
    let of = names_of c.args.given.now in
    let xs = c.args.xs.now in
    let i = c.loop-i.i in
    let role = target_role c.args.target in
    word-more labels number of c.args.point c.args.operand role c.place_of-at.result c.loop-i.serves.items c.serve.new.serves.items
    (c.args.serves.now.items ++ word_serves labels number of c.args.point c.args.operand 0 role xs) xs i (get_or xs i 0) (c.args.operand + i) (omega arith) (get_or_default xs i 0 (get_or xs i 0) (omega arith)) (omega arith)
    (c.place_of-at.ensures (c.args.operand + i)) c.in_ok-serve.ensures c.loop-i.invariant

use Rattle.std.proofs.Common.{◌≡◌, ◌∙◌, length, map, Some, slice_get, refl, ap, option_map}
use Rattle.std.proofs.lemmas.Option.{slice_get-map, slice_get_read}
use Rattle.std.proofs.lemmas.Result.{IfOk-weaker}
use Rattle.flow_ir.specs.View.{tree_view, label_view}
use Rattle.flow_ir.specs.Reachable.{GoesTo}
use Rattle.flow_ir.proofs.Noting.{GoesFrom, noted-weaker}
use Rattle.flow_ir.proofs.prune.visit.Goals as goal

pub returns-in-Some : goal.returns-in-Some
returns-in-Some c =
    let there = slice_get_read c.args.labels.now (length c.args.labels.now) c.args.l c.in-Some.l.now refl c.in-Some.ensures.lookup.3.0 c.in-Some.ensures.lookup.1 in
    let at : slice_get (map label_view c.args.labels.now) c.args.l ≡ Some (label_view c.in-Some.l.now) = slice_get-map label_view c.args.labels.now c.args.l ∙ ap (option_map label_view) there in
    IfOk-weaker c.note_all.result _ _ (λ u noted. noted-weaker (GoesTo (tree_view c.in-Some.l.now.body)) (GoesFrom (map label_view c.args.labels.now) c.args.l) _ _ _ _ (λ i goes. (label_view c.in-Some.l.now, at, goes)) noted) c.note_all.ensures

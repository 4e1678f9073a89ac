use Rattle.std.proofs.Common.{◌∙◌, ◌++◌, ◌∷◌, [], ℕ, map, ap, nat_eq, get_or, arith}
use Rattle.std.proofs.lemmas.List.{map-append}
use Rattle.ssu_liveness.specs.declared.point_ids.PointId.TheVariants.{Entry}
use Rattle.std.specs.HashMap.{get}
use Rattle.ssu_liveness.specs.inner.Live.{value_by}
use Rattle.place_plan.specs.inner.Parts.{gather}
use Rattle.ssu_liveness.specs.inner.PointIds.{kind_of_point}
use Rattle.bank_prog_form.specs.inner.Form.{summary_view, part_at, parts_at}
use Rattle.bank_prog_form.proofs.Tabled.{gather-more, gather-all}
use Rattle.bank_prog_form.proofs.tables.summaries_of.Goals as goal

pub loop-k-preserved : goal.loop-k-preserved
loop-k-preserved c =
    let f = parts_at (value_by (get nat_eq c.args.copies.now)) in
    gather-more f (kind_of_point c.args.s.now) c.args.point_ids.now c.loop-k.k (Entry 0) (map summary_view c.loop-k.summaries.items) (map summary_view c.push.new.self.items) (gather f 0 (map (kind_of_point c.args.s.now) c.args.point_ids.now))
    (omega arith) (ap (map summary_view) c.in_ok-push.ensures.items ∙ map-append summary_view c.loop-k.summaries.items (_ ∷ [])
    ∙ ap (λ p. map summary_view c.loop-k.summaries.items ++ p ∷ []) (c.in_ok-point_summary.ensures
    ∙ ap (λ (z : ℕ). part_at (value_by (get nat_eq c.args.copies.now)) z (kind_of_point c.args.s.now (get_or c.args.point_ids.now c.loop-k.k (Entry 0)))) c.in_ok-short.ensures)) c.loop-k.invariant

pub returns : goal.returns
returns c =
    let f = parts_at (value_by (get nat_eq c.args.copies.now)) in
    gather-all f (kind_of_point c.args.s.now) c.args.point_ids.now c.loop-k.k (map summary_view c.loop-k.summaries.items) (gather f 0 (map (kind_of_point c.args.s.now) c.args.point_ids.now)) (omega arith) c.loop-k.invariant

use Rattle.std.proofs.Common.{◌∙◌, ◌++◌, ◌∷◌, [], ap, map, filter, arith}
use Rattle.std.proofs.lemmas.List.{map-append}
use Rattle.ssu_liveness.specs.LiveRows.{Kept, items_of}
use Rattle.reg_assign_reading.specs.ReadOff.{has_home}
use Rattle.reg_assign_reading.specs.inner.Reading.{says}
use Rattle.reg_assign_reading.proofs.RowsKept.{rows-more, rows-all}
use Rattle.reg_assign_numbers.proofs.homes.all_homes_in.Goals as goal

pub loop-row-preserved : goal.loop-row-preserved
loop-row-preserved c =
    let f = filter (λ x. has_home (says c.args.r.now) x c.args.h) in
    rows-more f c.args.rows.now c.loop-row.row-index _ (items_of c.loop-row.kept.items) (items_of c.push.new.self.items) (map f (items_of c.args.rows.now)) (omega arith)
    (ap items_of c.in_ok-push.ensures.items ∙ map-append (λ v. v.items) c.loop-row.kept.items (_ ∷ []) ∙ ap (λ r. items_of c.loop-row.kept.items ++ r ∷ []) (c.in_ok-homes_in.ensures ∙ ap f (c.deref.ensures.value ∙ ap (λ (v : Kept). v.items) c.row-item.is)))
    c.loop-row.invariant

pub returns : goal.returns
returns c =
    let f = filter (λ x. has_home (says c.args.r.now) x c.args.h) in
    rows-all f c.args.rows.now c.loop-row.row-index (items_of c.loop-row.kept.items) (map f (items_of c.args.rows.now)) (omega arith) c.loop-row.invariant

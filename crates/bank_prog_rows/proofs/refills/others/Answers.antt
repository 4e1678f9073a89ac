use Rattle.std.proofs.Common.{map, arith}
use Rattle.std.specs.List.{flat_map}
use Rattle.bank_prog_form.specs.inner.Form as form
use Rattle.bank_prog_form.specs.inner.Owners as owners
use Rattle.bank_prog_form.proofs.Loops.{plain-more, plain-all}
use Rattle.bank_prog_rows.proofs.refills.others.Goals as goal

pub loop-x-preserved : goal.loop-x-preserved
loop-x-preserved c =
    plain-more (owners.other (map (λ v. v.var) (map form.value_view c.args.values.now))) c.args.xs.now c.loop-x.x-index _ c.loop-x.kept.items c.keep.new.kept.items
    (flat_map (owners.other (map (λ v. v.var) (map form.value_view c.args.values.now))) c.args.xs.now) (omega arith) c.in_ok-keep.ensures c.loop-x.invariant

pub returns : goal.returns
returns c = plain-all (owners.other (map (λ v. v.var) (map form.value_view c.args.values.now))) c.args.xs.now c.loop-x.x-index c.loop-x.kept.items (flat_map (owners.other (map (λ v. v.var) (map form.value_view c.args.values.now))) c.args.xs.now) (omega arith) c.loop-x.invariant

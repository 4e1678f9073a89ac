use Rattle.std.proofs.Common.{◌++◌, arith}
use Rattle.std.specs.List.{flat_map}
use Rattle.bank_prog_form.specs.inner.Form as form
use Rattle.bank_prog_form.specs.inner.Owners as owners
use Rattle.bank_prog_form.proofs.Loops.{plain-more, plain-all}
use Rattle.bank_prog_form.proofs.coverings.add_coverings_at.Goals as goal

pub loop-f-preserved : goal.loop-f-preserved
loop-f-preserved c =
    plain-more (owners.covering_at (form.access_view c.args.a) c.args.r) c.args.firsts.now c.loop-f.f-index _ c.loop-f.cs.items c.add_covering.new.cs.items
    (c.args.cs.now.items ++ flat_map (owners.covering_at (form.access_view c.args.a) c.args.r) c.args.firsts.now) (omega arith) c.in_ok-add_covering.ensures c.loop-f.invariant

pub returns : goal.returns
returns c = plain-all (owners.covering_at (form.access_view c.args.a) c.args.r) c.args.firsts.now c.loop-f.f-index c.loop-f.cs.items (c.args.cs.now.items ++ flat_map (owners.covering_at (form.access_view c.args.a) c.args.r) c.args.firsts.now) (omega arith) c.loop-f.invariant

use Rattle.std.proofs.Common.{◌++◌, arith}
use Rattle.std.specs.List.{flat_map}
use Rattle.bank_prog_form.specs.inner.Form as form
use Rattle.bank_prog_form.proofs.Loops.{plain-more, plain-all}
use Rattle.bank_prog_form.proofs.runs.push_beginnings.Goals as goal

pub loop-f-preserved : goal.loop-f-preserved
loop-f-preserved c =
    plain-more (form.beginning c.args.m c.args.n) c.args.firsts.now c.loop-f.f-index _ c.loop-f.fs.items c.push_beginning.new.fs.items
    (c.args.fs.now.items ++ flat_map (form.beginning c.args.m c.args.n) c.args.firsts.now) (omega arith) c.in_ok-push_beginning.ensures c.loop-f.invariant

pub returns : goal.returns
returns c = plain-all (form.beginning c.args.m c.args.n) c.args.firsts.now c.loop-f.f-index c.loop-f.fs.items (c.args.fs.now.items ++ flat_map (form.beginning c.args.m c.args.n) c.args.firsts.now) (omega arith) c.loop-f.invariant

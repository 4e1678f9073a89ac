use Rattle.std.proofs.Common.{◌++◌, map, arith}
use Rattle.bank_prog_form.specs.declared.column.Column.TheVariants as column
use Rattle.bank_prog_form.proofs.Loops.{map-more, map-all}
use Rattle.bank_prog.proofs.columns.push_eight.Goals as goal

pub loop-c-preserved : goal.loop-c-preserved
loop-c-preserved c =
    map-more (λ (c : column.the_data). (c, 0)) c.args.cs.now c.loop-c.c-index _ c.loop-c.out.items c.push.new.self.items
    (c.args.out.now.items ++ map (λ (c : column.the_data). (c, 0)) c.args.cs.now) (omega arith) c.in_ok-push.ensures.items c.loop-c.invariant

pub returns : goal.returns
returns c = map-all (λ (c : column.the_data). (c, 0)) c.args.cs.now c.loop-c.c-index c.loop-c.out.items (c.args.out.now.items ++ map (λ (c : column.the_data). (c, 0)) c.args.cs.now) (omega arith) c.loop-c.invariant

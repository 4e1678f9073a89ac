use Rattle.std.proofs.Common.{◌++◌, map, arith}
use Rattle.bank_prog_form.specs.declared.column.Column.TheVariants as column
use Rattle.std.proofs.Common.{ℕ}
use Rattle.bank_prog_form.proofs.Loops.{map-more, map-all}
use Rattle.bank_prog.proofs.early.push_ears_at.Goals as goal

pub loop-f-preserved : goal.loop-f-preserved
loop-f-preserved c =
    map-more (λ (f : ℕ). (column.EarlyWrite c.args.u.point c.args.u.operand f, 1)) c.args.firsts.now c.loop-f.f-index _ c.loop-f.out.items c.push.new.self.items
    (c.args.out.now.items ++ map (λ (f : ℕ). (column.EarlyWrite c.args.u.point c.args.u.operand f, 1)) c.args.firsts.now) (omega arith) c.in_ok-push.ensures.items c.loop-f.invariant

pub returns : goal.returns
returns c = map-all (λ (f : ℕ). (column.EarlyWrite c.args.u.point c.args.u.operand f, 1)) c.args.firsts.now c.loop-f.f-index c.loop-f.out.items (c.args.out.now.items ++ map (λ (f : ℕ). (column.EarlyWrite c.args.u.point c.args.u.operand f, 1)) c.args.firsts.now) (omega arith) c.loop-f.invariant

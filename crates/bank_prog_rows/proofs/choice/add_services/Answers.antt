use Rattle.std.proofs.Common.{◌++◌, map, arith}
use Rattle.bank_prog_form.specs.declared.column.Column.TheVariants as column
use Rattle.bank_prog_form.specs.declared.column.Service.{Service}
use Rattle.bank_prog_form.proofs.Loops.{map-more, map-all}
use Rattle.bank_prog_rows.proofs.choice.add_services.Goals as goal

pub loop-s-preserved : goal.loop-s-preserved
loop-s-preserved c =
    map-more (λ (s : Service). column.Serve c.args.u.point c.args.u.operand s.from s.at) c.args.services.now c.loop-s.s-index _ c.loop-s.cs.items c.push.new.self.items
    (c.args.cs.now.items ++ map (λ (s : Service). column.Serve c.args.u.point c.args.u.operand s.from s.at) c.args.services.now) (omega arith) c.in_ok-push.ensures.items c.loop-s.invariant

pub returns : goal.returns
returns c = map-all (λ (s : Service). column.Serve c.args.u.point c.args.u.operand s.from s.at) c.args.services.now c.loop-s.s-index c.loop-s.cs.items (c.args.cs.now.items ++ map (λ (s : Service). column.Serve c.args.u.point c.args.u.operand s.from s.at) c.args.services.now) (omega arith) c.loop-s.invariant

use Rattle.std.proofs.Common.{◌++◌, arith}
use Rattle.std.specs.List.{flat_map}
use Rattle.bank_prog_form.specs.Rows as lines
use Rattle.std.proofs.Common.{ℕ}
use Rattle.bank_prog_form.proofs.Loops.{plain-more, plain-all}
use Rattle.bank_prog.proofs.capacity.add_homes.Goals as goal

pub loop-x-preserved : goal.loop-x-preserved
loop-x-preserved c =
    plain-more (λ (y : ℕ). lines.home y c.args.h) c.args.xs.now c.loop-x.x-index _ c.loop-x.cs.items c.add_home.new.cs.items
    (c.args.cs.now.items ++ flat_map (λ (y : ℕ). lines.home y c.args.h) c.args.xs.now) (omega arith) c.in_ok-add_home.ensures c.loop-x.invariant

pub returns : goal.returns
returns c = plain-all (λ (y : ℕ). lines.home y c.args.h) c.args.xs.now c.loop-x.x-index c.loop-x.cs.items (c.args.cs.now.items ++ flat_map (λ (y : ℕ). lines.home y c.args.h) c.args.xs.now) (omega arith) c.loop-x.invariant

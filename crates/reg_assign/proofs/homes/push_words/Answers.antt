use Rattle.std.proofs.Common.{◌++◌, map, arith}
use Rattle.std.specs.List.{flat_map}
use Rattle.bank_prog_form.proofs.Loops.{out-more, out-all}
use Rattle.reg_assign_reading.specs.inner.Reading.{says, early_word}
use Rattle.reg_assign.proofs.homes.push_words.Goals as goal
use Rattle.place_plan.specs.inner.UseViews.{use_view}

pub loop-u-preserved : goal.loop-u-preserved
loop-u-preserved c =
    let f = early_word (says c.args.r.now) in
    out-more f use_view c.args.us.now c.loop-u.u-index _ c.loop-u.out.items c.push_word.new.out.items (c.args.out.now.items ++ flat_map f (map use_view c.args.us.now)) (omega arith) c.in_ok-push_word.ensures c.loop-u.invariant

pub returns : goal.returns
returns c =
    let f = early_word (says c.args.r.now) in
    out-all f use_view c.args.us.now c.loop-u.u-index c.loop-u.out.items (c.args.out.now.items ++ flat_map f (map use_view c.args.us.now)) (omega arith) c.loop-u.invariant

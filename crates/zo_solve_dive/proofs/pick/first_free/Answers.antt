use Rattle.std.proofs.Common.{length, get_or, pos, not, ap, ◌∙◌, arith}
use Rattle.zo_model.proofs.Rows.{rise_at}
use Rattle.zo_solve_dive.specs.Choice.{IsFree}
use Rattle.zo_solve_dive.proofs.Choice.{first_is_least, fixed_more, free_at, not_free_at}
use Rattle.zo_solve_dive.proofs.pick.first_free.Goals as goal

pub bounds-fixed-j : goal.bounds-fixed-j
bounds-fixed-j c = rise_at c.args.terms.now 0 (length c.args.fixed.now) c.loop-j.j-index (0, pos 0) c.requires.terms.rise (omega arith)

pub returns-then-is_none : goal.returns-then-is_none
returns-then-is_none c =
    let lt = rise_at c.args.terms.now 0 (length c.args.fixed.now) c.loop-j.j-index (0, pos 0) c.requires.terms.rise (omega arith) in
    let here : IsFree c.args.fixed.now (get_or c.args.terms.now c.loop-j.j-index (0, pos 0)).0 = free_at c.args.fixed.now (get_or c.args.terms.now c.loop-j.j-index (0, pos 0)).0 lt (c.is_none.ensures ∙ ap not c.if-is_none.true) in
    first_is_least c.args.fixed.now c.args.terms.now (length c.args.fixed.now) c.loop-j.j-index c.requires.terms.rise (omega arith) c.loop-j.invariant here

pub loop-j-preserved : goal.loop-j-preserved
loop-j-preserved c =
    let here : IsFree c.args.fixed.now (get_or c.args.terms.now c.loop-j.j-index (0, pos 0)).0 → ⊥ = not_free_at c.args.fixed.now (get_or c.args.terms.now c.loop-j.j-index (0, pos 0)).0 (c.is_none.ensures ∙ ap not c.if-is_none.false) in
    fixed_more (IsFree c.args.fixed.now) c.args.terms.now c.loop-j.j-index (omega arith) c.loop-j.invariant here

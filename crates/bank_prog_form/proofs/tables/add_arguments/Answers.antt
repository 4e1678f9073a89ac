use Rattle.std.proofs.Common.{◌∙◌, ◌++◌, ℕ, map, ap, nat_eq, get_or, arith}
use Rattle.std.specs.HashMap.{get}
use Rattle.place_plan.specs.Uses as pure
use Rattle.place_plan.specs.inner.UseViews.{use_view}
use Rattle.ssu_liveness.specs.inner.Live.{value_by}
use Rattle.bank_prog_form.specs.inner.Form as form
use Rattle.bank_prog_form.proofs.Tabled.{uses-more, uses-all}
use Rattle.bank_prog_form.proofs.tables.add_arguments.Goals as goal

pub loop-i-preserved : goal.loop-i-preserved
loop-i-preserved c =
    let of = value_by (get nat_eq c.args.copies.now) in
    uses-more of c.args.k (c.loop-i.i) (pure.Argument c.args.l) c.loop-i.i c.args.xs.now 0 (map use_view c.loop-i.uses.items) (map use_view c.add_use.new.uses.items)
    (map use_view c.args.uses.now.items ++ form.uses_from of c.args.k 0 (pure.Argument c.args.l) 0 c.args.xs.now) (omega arith)
    (c.in_ok-add_use.ensures ∙ ap (λ (z : ℕ). map use_view c.loop-i.uses.items ++ form.use_of of c.args.k z (get_or c.args.xs.now c.loop-i.i 0) (pure.Argument c.args.l z)) c.in_ok-word.ensures) c.loop-i.invariant

pub returns : goal.returns
returns c =
    let of = value_by (get nat_eq c.args.copies.now) in
    uses-all of c.args.k (c.loop-i.i) (pure.Argument c.args.l) c.loop-i.i c.args.xs.now (map use_view c.loop-i.uses.items)
    (map use_view c.args.uses.now.items ++ form.uses_from of c.args.k 0 (pure.Argument c.args.l) 0 c.args.xs.now) (omega arith) c.loop-i.invariant

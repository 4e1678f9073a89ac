use Rattle.std.proofs.Common.{◌≡◌, ◌++◌, map, ap, nat_eq, arith}
use Rattle.std.proofs.Common.{None, rules}
use Rattle.std.specs.HashMap.{get}
use Rattle.std.specs.List.{flat_map}
use Rattle.bank_prog_form.specs.inner.Form.{known_uses, used_by}
use Rattle.bank_prog_form.proofs.Loops.{out-more, out-all}
use Rattle.bank_prog_form.proofs.tables.all_users.Goals as goal
use Rattle.place_plan.specs.inner.UseViews.{use_view}

pub loop-u-init : goal.loop-u-init
loop-u-init c = λ x.
    let none : get nat_eq c.new-users.result x ≡ None = search rules in
    ap (λ o. known_uses o ++ flat_map (used_by x) (map use_view c.args.uses.now)) none

pub loop-u-preserved : goal.loop-u-preserved
loop-u-preserved c = λ x.
    out-more (used_by x) use_view c.args.uses.now c.loop-u.u-index _ (known_uses (get nat_eq c.loop-u.users x)) (known_uses (get nat_eq c.note_use.new.users x)) (flat_map (used_by x) (map use_view c.args.uses.now))
    (omega arith) (c.in_ok-note_use.ensures x) (c.loop-u.invariant x)

pub returns : goal.returns
returns c = λ x. out-all (used_by x) use_view c.args.uses.now c.loop-u.u-index (known_uses (get nat_eq c.loop-u.users x)) (flat_map (used_by x) (map use_view c.args.uses.now)) (omega arith) (c.loop-u.invariant x)

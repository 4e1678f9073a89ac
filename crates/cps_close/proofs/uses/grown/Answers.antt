use Rattle.std.proofs.Common.{◌≡◌, nat_eq, false, ap, sym, ◌∙◌, arith, rules, get_or}
use Rattle.std.specs.HashSet as set
use Rattle.cps_close.specs.inner.Closed.{noted_all}
use Rattle.cps_close.proofs.Growing.{added, members-start, members-turn, list-turn}
use Rattle.cps_close.proofs.uses.grown.Goals as goal
use Rattle.cps_close.proofs.uses.grown.Goals.{then-branch+in_ok-push, else-branch}

pub loop-x-init : goal.loop-x-init
loop-x-init c = record {
  members = λ q.
      let none : set.contains nat_eq c.in_ok-seen.seen q ≡ false = search rules in
      members-start c.args.gone.now c.args.needed.now c.push_all.new.v.items q (set.contains nat_eq c.in_ok-seen.seen q) (set.contains nat_eq c.insert_all.new.s q) (set.contains nat_eq c.insert_all-2.new.s q) none (c.in_ok-insert_all.ensures q) (c.in_ok-insert_all-2.ensures q) (search rules);
  list = ap (λ l. noted_all c.args.gone.now l c.args.used.now) (search rules);
}

pub loop-x-preserved : goal.loop-x-preserved
loop-x-preserved c =
    let now : c.if-branch.v.items ≡ added c.in_ok-insert.field-0 c.loop-x.v.items (get_or c.args.used.now c.loop-x.x-index 0) =
    elim c.if-branch.branch [
      | then-branch+in_ok-push w ↦ ap (λ u. u.items) w.v-is ∙ w.in_ok-push.ensures.items ∙ sym (ap (λ b. added b c.loop-x.v.items (get_or c.args.used.now c.loop-x.x-index 0)) w.if-branch.true)
      | else-branch w ↦ ap (λ u. u.items) w.v-is ∙ sym (ap (λ b. added b c.loop-x.v.items (get_or c.args.used.now c.loop-x.x-index 0)) w.if-branch.false)
    ] in
    record {
      members = λ q. members-turn (set.contains nat_eq c.loop-x.seen) c.args.gone.now c.loop-x.v.items c.if-branch.v.items c.in_ok-insert.field-0 _ (get_or c.args.used.now c.loop-x.x-index 0) q c.loop-x.invariant.members c.in_ok-insert.ensures.added now (c.in_ok-insert.ensures.updates.0 q);
      list = list-turn (set.contains nat_eq c.loop-x.seen) c.args.gone.now c.loop-x.v.items c.if-branch.v.items c.args.used.now c.in_ok-insert.field-0 c.loop-x.x-index 0 c.loop-x.invariant.members c.in_ok-insert.ensures.added now (omega arith) ∙ c.loop-x.invariant.list;
    }

use Rattle.std.proofs.Common.{◌≡◌, ℕ, ◌-◌, ◌<◌, [], length, set, true, false, Some, None, slice_get, arith, rules}
use Rattle.std.proofs.Common.{subst, sym, ◌≢◌}
use Rattle.zo_cert_tree.specs.inner.Path.{Pending, Enters}
use Rattle.std.proofs.lemmas.List.{length-set}
use Rattle.zo_cert_tree.proofs.Paths.{walk_of, still_exact, entered, reads_none, room_above, costs_entered}
use Rattle.std.proofs.lemmas.Option.{slice_get_within}
use Rattle.std.proofs.Common.{◌∙◌}
use Rattle.zo_cert_tree.proofs.path.Path.enter.Goals as goal

here : (c : goal.After-self-1) → slice_get c.self.inside.fixed.at.items c.args.j ≡ Some None
here c = reads_none c.self.inside.fixed.at.items c.args.j c.index.result.now (search rules) c.index.ensures c.if-is_some.ensures

pub overflow_sub-self : goal.overflow_sub-self
overflow_sub-self c = room_above c.self.inside.fixed.at.items c.self.inside.stack.items c.self.inside.top c.args.j c.self.invariant.top_in (c.self.invariant.room ∙ sym c.self.invariant.one_a_column) c.self.invariant.exact (here c)

pub invariant_of-self : goal.invariant_of-self
invariant_of-self c =
    let here : slice_get c.self.inside.fixed.at.items c.args.j ≡ Some None = reads_none c.self.inside.fixed.at.items c.args.j c.index.result.now (search rules) c.index.ensures c.if-is_some.ensures in
    let within : c.args.j < length c.self.inside.costs.items = omega (arith, slice_get_within c.self.inside.fixed.at.items c.args.j None here, c.self.invariant.one_a_column) in
    record {
      costs_fit = c.self.invariant.costs_fit;
      one_a_column = length-set c.self.inside.fixed.at.items c.args.j (Some false) ∙ c.self.invariant.one_a_column;
      room = length-set c.self.inside.stack.items (c.self.inside.top - 1) c.args.j ∙ c.self.invariant.room;
      top_in = omega (arith, length-set {A = ℕ}, c.self.invariant.top_in);
      exact = still_exact c.self.inside.fixed.at.items c.self.inside.stack.items c.self.inside.top c.args.j c.self.invariant.top_in (c.self.invariant.room ∙ sym c.self.invariant.one_a_column) c.self.invariant.exact here;
      spent_is = costs_entered c.self.inside.costs.items c.self.inside.fixed.at.items c.args.j c.self.inside.spent within here c.self.invariant.spent_is;
    }

pub returns : goal.returns
returns c =
    let here : slice_get c.self.inside.fixed.at.items c.args.j ≡ Some None = reads_none c.self.inside.fixed.at.items c.args.j c.index.result.now (search rules) c.index.ensures c.if-is_some.ensures in
    let some : (walk_of c.self.inside.costs.items c.self.inside.is_open c.self.inside.fixed.at.items c.self.inside.stack.items c.self.inside.top).fixings ≢ [] = subst (λ (o : Pending). o.fixings ≢ []) (sym c.self.view_is) c.requires in
    let new : Pending = walk_of c.self.inside.costs.items c.self.inside.is_open (set c.self.inside.fixed.at.items c.args.j (Some false)) (set c.self.inside.stack.items (c.self.inside.top - 1) c.args.j) (c.self.inside.top - 1) in
    subst (λ (o : Pending). Enters o new c.args.j true) c.self.view_is (entered c.self.inside.costs.items c.self.inside.is_open c.self.inside.fixed.at.items c.self.inside.stack.items c.self.inside.top c.args.j some c.self.invariant.top_in (c.self.invariant.room ∙ sym c.self.invariant.one_a_column) c.self.invariant.exact here)

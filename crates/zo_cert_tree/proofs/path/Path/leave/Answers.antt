use Rattle.std.proofs.Common.{◌≡◌, ◌≢◌, [], ◌++◌, length, take, drop, get_or, true, false, Some, None, arith, rules, subst, sym, ◌∙◌, ap}
use Rattle.std.proofs.lemmas.Grind.{get_or_default_zero}
use Rattle.std.proofs.lemmas.List.{length-set}
use Rattle.zo_cert_tree.specs.inner.Path.{Pending, rest_of}
use Rattle.zo_cert_tree.proofs.Paths.{whole_back, turned_later, freed_later, turned_place, freed_place, cost_at_top, at_top, left, walk_of}
use Rattle.zo_cert_tree.proofs.path.Path.leave.Goals as goal

pub index-requires-in-loop-self : goal.index-requires-in-loop-self
index-requires-in-loop-self c =
    let e : c.index.result.now ≡ get_or c.loop-self.self-inside.stack.items c.loop-self.self-inside.top 0 = c.index.ensures ∙ get_or_default_zero c.loop-self.self-inside.stack.items c.loop-self.self-inside.top c.index.result.now (omega arith) in
    let t = cost_at_top c.loop-self.self-inside.costs.items c.loop-self.self-inside.fixed.at.items c.loop-self.self-inside.stack.items c.loop-self.self-inside.top c.loop-self.self-inside.spent (omega arith) c.loop-self.invariant.place in
    omega (arith, t.0)

pub overflow_add-self : goal.overflow_add-self
overflow_add-self c =
    let t = cost_at_top c.loop-self.self-inside.costs.items c.loop-self.self-inside.fixed.at.items c.loop-self.self-inside.stack.items c.loop-self.self-inside.top c.loop-self.self-inside.spent (omega arith) c.loop-self.invariant.place in
    let a = at_top c.loop-self.self-inside.costs.items c.loop-self.self-inside.stack.items c.loop-self.self-inside.fixed.at.items c.deref_mut.result.now c.turn.new.fixed c.loop-self.self-inside.top c.index.result.now c.index-in-loop-self.result.now c.from-cost.result c.loop-self.self-inside.spent (Some false) (Some true) (omega arith) c.loop-self.invariant.place c.index.ensures c.index-in-loop-self.ensures c.from-cost.ensures c.deref_mut.ensures.value c.if-turn.ensures in
    omega (arith, t.1, t.2, a.2)

pub invariant_of-self : goal.invariant_of-self
invariant_of-self c =
    let a = at_top c.loop-self.self-inside.costs.items c.loop-self.self-inside.stack.items c.loop-self.self-inside.fixed.at.items c.deref_mut.result.now c.turn.new.fixed c.loop-self.self-inside.top c.index.result.now c.index-in-loop-self.result.now c.from-cost.result c.loop-self.self-inside.spent (Some false) (Some true) (omega arith) c.loop-self.invariant.place c.index.ensures c.index-in-loop-self.ensures c.from-cost.ensures c.deref_mut.ensures.value c.if-turn.ensures in
    let len : length c.turn.new.fixed ≡ length c.loop-self.self-inside.fixed.at.items = ap length a.1 ∙ length-set c.loop-self.self-inside.fixed.at.items (get_or c.loop-self.self-inside.stack.items c.loop-self.self-inside.top 0) (Some true) in
    let w : take c.loop-self.self-inside.fixed.at.len (c.turn.new.fixed ++ drop (length c.turn.new.fixed) c.loop-self.self-inside.fixed.at.items) ≡ c.turn.new.fixed = whole_back c.loop-self.self-inside.fixed.at.len c.turn.new.fixed c.loop-self.self-inside.fixed.at.items len (search rules) in
    rw w (turned_place c.loop-self.self-inside.costs.items c.loop-self.self-inside.fixed.at.items c.turn.new.fixed c.loop-self.self-inside.stack.items c.loop-self.self-inside.top c.loop-self.self-inside.spent c.from-cost.result (omega arith) c.loop-self.invariant.place a.0 a.1 a.2)

pub returns-then-turn : goal.returns-then-turn
returns-then-turn c =
    let i = c.loop-self.invariant in
    let a = at_top c.loop-self.self-inside.costs.items c.loop-self.self-inside.stack.items c.loop-self.self-inside.fixed.at.items c.deref_mut.result.now c.turn.new.fixed c.loop-self.self-inside.top c.index.result.now c.index-in-loop-self.result.now c.from-cost.result c.loop-self.self-inside.spent (Some false) (Some true) (omega arith) c.loop-self.invariant.place c.index.ensures c.index-in-loop-self.ensures c.from-cost.ensures c.deref_mut.ensures.value c.if-turn.ensures in
    let len : length c.turn.new.fixed ≡ length c.loop-self.self-inside.fixed.at.items = ap length a.1 ∙ length-set c.loop-self.self-inside.fixed.at.items (get_or c.loop-self.self-inside.stack.items c.loop-self.self-inside.top 0) (Some true) in
    let w : take c.loop-self.self-inside.fixed.at.len (c.turn.new.fixed ++ drop (length c.turn.new.fixed) c.loop-self.self-inside.fixed.at.items) ≡ c.turn.new.fixed = whole_back c.loop-self.self-inside.fixed.at.len c.turn.new.fixed c.loop-self.self-inside.fixed.at.items len (search rules) in
    let some : (walk_of c.self.inside.costs.items c.self.inside.is_open c.self.inside.fixed.at.items c.self.inside.stack.items c.self.inside.top).fixings ≢ [] = subst (λ (o : Pending). o.fixings ≢ []) (sym c.self.view_is) c.requires in
    let l = left c.self.inside.costs.items c.self.inside.is_open c.loop-self.self-inside.is_open c.self.inside.fixed.at.items c.loop-self.self-inside.fixed.at.items c.turn.new.fixed c.self.inside.stack.items c.loop-self.self-inside.stack.items c.self.inside.top c.loop-self.self-inside.top i.still_open some i.same (turned_later c.loop-self.self-inside.fixed.at.items c.turn.new.fixed c.loop-self.self-inside.stack.items c.loop-self.self-inside.top (omega arith) a.0 a.1) in
    let l' = subst (λ (o : Pending). walk_of c.self.inside.costs.items c.loop-self.self-inside.is_open c.turn.new.fixed c.loop-self.self-inside.stack.items c.loop-self.self-inside.top ≡ record o { fixings = rest_of o.fixings }) c.self.view_is l in
    rw (w, i.same_costs) l'

pub overflow_sub-self : goal.overflow_sub-self
overflow_sub-self c =
    let a = at_top c.loop-self.self-inside.costs.items c.loop-self.self-inside.stack.items c.loop-self.self-inside.fixed.at.items c.deref_mut.result.now c.turn.new.fixed c.loop-self.self-inside.top c.index.result.now c.index-in-loop-self.result.now c.from-cost.result c.loop-self.self-inside.spent (Some true) None (omega arith) c.loop-self.invariant.place c.index.ensures c.index-in-loop-self.ensures c.from-cost.ensures c.deref_mut.ensures.value c.if-turn.ensures in
    (freed_place c.loop-self.self-inside.costs.items c.loop-self.self-inside.fixed.at.items c.turn.new.fixed c.loop-self.self-inside.stack.items c.loop-self.self-inside.top c.loop-self.self-inside.spent c.from-cost.result (omega arith) c.loop-self.invariant.place a.0 a.1 a.2).0

pub loop-self-preserved : goal.loop-self-preserved
loop-self-preserved c =
    let a = at_top c.loop-self.self-inside.costs.items c.loop-self.self-inside.stack.items c.loop-self.self-inside.fixed.at.items c.deref_mut.result.now c.turn.new.fixed c.loop-self.self-inside.top c.index.result.now c.index-in-loop-self.result.now c.from-cost.result c.loop-self.self-inside.spent (Some true) None (omega arith) c.loop-self.invariant.place c.index.ensures c.index-in-loop-self.ensures c.from-cost.ensures c.deref_mut.ensures.value c.if-turn.ensures in
    let len : length c.turn.new.fixed ≡ length c.loop-self.self-inside.fixed.at.items = ap length a.1 ∙ length-set c.loop-self.self-inside.fixed.at.items (get_or c.loop-self.self-inside.stack.items c.loop-self.self-inside.top 0) None in
    let w : take c.loop-self.self-inside.fixed.at.len (c.turn.new.fixed ++ drop (length c.turn.new.fixed) c.loop-self.self-inside.fixed.at.items) ≡ c.turn.new.fixed = whole_back c.loop-self.self-inside.fixed.at.len c.turn.new.fixed c.loop-self.self-inside.fixed.at.items len (search rules) in
    let p = freed_place c.loop-self.self-inside.costs.items c.loop-self.self-inside.fixed.at.items c.turn.new.fixed c.loop-self.self-inside.stack.items c.loop-self.self-inside.top c.loop-self.self-inside.spent c.from-cost.result (omega arith) c.loop-self.invariant.place a.0 a.1 a.2 in
    record {
      still_open = c.loop-self.invariant.still_open;
      same_costs = c.loop-self.invariant.same_costs;
      place = rw w p.1;
      same = rw w (sym (freed_later c.loop-self.self-inside.fixed.at.items c.turn.new.fixed c.loop-self.self-inside.stack.items c.loop-self.self-inside.top (omega arith) a.0 a.1) ∙ c.loop-self.invariant.same);
    }

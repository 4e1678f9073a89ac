use Rattle.std.proofs.Common.{◌+◌, ℕ, HashMap, BuildHasherDefault, FoldHasher, nat_eq, get_or, take, refl, sym, subst, ◌∙◌, arith}
use Rattle.std.specs.HashMap.{get}
use Rattle.ssu_liveness.specs.inner.Numbers.{Numbered}
use Rattle.ssu_liveness.proofs.Marks.{numbered-skip, numbered-more, is-among, not-earlier, take-values}
use Rattle.ssu_liveness.proofs.slots.give_slots.Goals as goal
use Rattle.ssu_liveness.proofs.slots.give_slots.Goals.{then-is_in_row+in_ok-n+in_ok-give, else-is_in_row}

pub next_slot-requires-clause-none : goal.next_slot-requires-clause-none
next_slot-requires-clause-none c =
    let vs = c.args.values.now in
    let i = c.loop-x.x-index in
    c.loop-x.invariant.kept (get_or vs i 0) (not-earlier vs i (omega arith) c.requires.once) ∙ c.requires.fresh (get_or vs i 0) (is-among vs i (omega arith))

pub loop-x-preserved : goal.loop-x-preserved
loop-x-preserved c =
    let vs = c.args.values.now in
    let row = c.args.row.now in
    let i = c.loop-x.x-index in
    let x = get_or vs i 0 in
    let old = get nat_eq c.args.slots.now in
    let new = get nat_eq c.loop-x.slots in
    let out = not-earlier vs i (omega arith) c.requires.once in
    let unset = c.loop-x.invariant.kept x out ∙ c.requires.fresh x (is-among vs i (omega arith)) in
    elim c.if-is_in_row.branch [
      | then-is_in_row+in_ok-n+in_ok-give w ↦
          let there = sym c.is_in_row.ensures ∙ w.if-is_in_row.true in
          let d = numbered-more old new (get nat_eq w.give.new.slots) (take i vs) row x w.in_ok-n.n there out w.in_ok-n.ensures.free w.in_ok-n.ensures.below unset w.in_ok-give.ensures c.loop-x.invariant in
          subst (λ (m : HashMap ℕ ℕ (BuildHasherDefault FoldHasher)). Numbered old (take (i + 1) vs) row (get nat_eq m)) (sym w.slots-is)
          (subst (λ us. Numbered old us row (get nat_eq w.give.new.slots)) (take-values vs i x (omega arith) refl) d)
      | else-is_in_row w ↦
          let out-of-row = sym c.is_in_row.ensures ∙ w.if-is_in_row.false in
          let d = numbered-skip old new (take i vs) row x out-of-row c.loop-x.invariant in
          subst (λ (m : HashMap ℕ ℕ (BuildHasherDefault FoldHasher)). Numbered old (take (i + 1) vs) row (get nat_eq m)) (sym w.slots-is)
          (subst (λ us. Numbered old us row new) (take-values vs i x (omega arith) refl) d)
    ]

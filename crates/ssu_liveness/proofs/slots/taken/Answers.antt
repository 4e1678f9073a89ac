use Rattle.std.proofs.Common.{◌+◌, Vec, Bool, Global, nat_eq, get_or, refl, sym, subst, ◌∙◌, arith}
use Rattle.std.specs.HashMap.{get}
use Rattle.ssu_liveness.proofs.Marks.{Marked, marked-skip, marked-more}
use Rattle.ssu_liveness.proofs.slots.taken.Goals as goal
use Rattle.ssu_liveness.proofs.slots.taken.Goals.{in-Some, in_default}

pub loop-y-preserved : goal.loop-y-preserved
loop-y-preserved c =
    let number = get nat_eq c.args.slots.now in
    let row = c.args.row.now in
    let i = c.loop-y.y-index in
    let x = get_or row i 0 in
    elim c.match-slot_of.branch [
      | in-Some w ↦
          subst (λ (v : Vec Bool Global). Marked number row (i + 1) v.items) (sym w.marks-is)
          (marked-more number row i x w.in-Some.n c.loop-y.marks.items w.mark.new.marks.items (omega arith) refl (sym c.slot_of.ensures ∙ w.in-Some.is) w.mark.ensures c.loop-y.invariant)
      | in_default w ↦
          subst (λ (v : Vec Bool Global). Marked number row (i + 1) v.items) (sym w.marks-is)
          (marked-skip number row i x c.loop-y.marks.items (omega arith) refl (sym c.slot_of.ensures ∙ w.in_default.is) c.loop-y.invariant)
    ]

use Rattle.std.proofs.Common.{◌+◌, suc, List, take, drop, sym, ap, subst, ◌∙◌, arith, Vec, Global}
use Rattle.uc_isa.specs.declared.instruction.Instr.{Instr}
use Rattle.uc_asm.specs.inner.Gives.{Gives}
use Rattle.uc_asm.specs.inner.Seen.{seen, all_seen}
use Rattle.uc_asm.specs.declared.given.Resolved.{Resolved}
use Rattle.uc_asm.proofs.StandLemmas.{stands-at, length-front}
use Rattle.uc_asm.proofs.MeaningLemmas.{ResolvedBelow, misnamed-here, below-nothing, below-more}
use Rattle.uc_asm.proofs.resolve.instructions.Goals as goal
use Rattle.uc_asm.proofs.resolve.instructions.Goals.{in-Instruction+in_ok-push-in-Instruction, in-Nothing}

pub returns-in-Misnamed-clause-error : goal.returns-in-Misnamed-clause-error
returns-in-Misnamed-clause-error c =
    let items = c.args.items.now in
    let k = c.loop-index.index in
    let x = c.index-items-index.result in
    misnamed-here items k x c.line_at.result c.loop-index-test.true c.index-items-index.is c.loop-index.invariant.0
    (c.in-Misnamed.ensures (all_seen items) (all_seen (take k items)) (all_seen (drop (suc k) items)) c.requires.labels (stands-at items k x c.loop-index-test.true c.index-items-index.is)
    (length-front items k (omega arith)))
    c.line_at.ensures

pub loop-index-preserved : goal.loop-index-preserved
loop-index-preserved c =
    let items = c.args.items.now in
    let k = c.loop-index.index in
    let x = c.index-items-index.result in
    let gives = c.resolved_item.ensures (all_seen items) (all_seen (take k items)) (all_seen (drop (suc k) items)) c.requires.labels (stands-at items k x c.loop-index-test.true c.index-items-index.is)
    (length-front items k (omega arith)) in
    elim c.match-resolved_item.branch [
      | in-Instruction+in_ok-push-in-Instruction w ↦
          subst (λ (is : List Instr). ResolvedBelow items (k + 1) is) (sym (ap (λ (v : Vec Instr Global). v.items) w.list-is ∙ w.in_ok-push-in-Instruction.ensures.items))
          (below-more items k x c.loop-index.list.items w.in-Instruction.i c.loop-index-test.true c.index-items-index.is c.loop-index.invariant
          (subst (λ (r : Resolved). Gives (all_seen items) (all_seen (take k items)) (seen x) r) w.in-Instruction.is gives))
      | in-Nothing w ↦
          subst (λ (is : List Instr). ResolvedBelow items (k + 1) is) (sym (ap (λ (v : Vec Instr Global). v.items) w.list-is))
          (below-nothing items k x c.loop-index.list.items c.loop-index-test.true c.index-items-index.is c.loop-index.invariant (subst (λ (r : Resolved). Gives (all_seen items) (all_seen (take k items)) (seen x) r) w.in-Nothing.is gives))
    ]

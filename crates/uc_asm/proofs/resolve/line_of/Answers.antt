use Rattle.std.proofs.Common.{[], arith, sym, ◌∙◌}
use Rattle.std.proofs.lemmas.Bool.{false≢true}
use Rattle.uc_asm.specs.inner.Seen.{seen}
use Rattle.uc_asm.proofs.MeaningLemmas.{line-found}
use Rattle.uc_asm.proofs.StandLemmas.{count-more-seen, count-label, count-instruction}
use Rattle.uc_asm.proofs.resolve.line_of.Goals as goal
use Rattle.uc_asm.proofs.resolve.line_of.Goals.{then-is_instruction+else-left-eq0, else-is_instruction}

pub returns-then-left-eq0 : goal.returns-then-left-eq0
returns-then-left-eq0 c =
    line-found c.args.items.now c.loop-index.index c.args.place c.loop-index.left c.line_at.result c.index-items-index.result c.loop-index-test.true c.index-items-index.is
    (c.is_instruction.ensures.0 c.if-is_instruction.true) c.loop-index.invariant c.if-left-eq0.true c.line_at.ensures

pub loop-index-preserved : goal.loop-index-preserved
loop-index-preserved c =
    let more = count-more-seen c.args.items.now c.loop-index.index c.index-items-index.result c.loop-index-test.true c.index-items-index.is in
    let before = c.loop-index.invariant in
    elim c.if-is_instruction.branch [
      | then-is_instruction+else-left-eq0 w ↦
          let one = count-instruction (seen c.index-items-index.result) [] (c.is_instruction.ensures.0 w.if-is_instruction.true) in
          let left = w.left-is in
          omega arith
      | else-is_instruction w ↦
          let none = count-label (seen c.index-items-index.result) (λ h. false≢true (sym w.if-is_instruction.false ∙ c.is_instruction.ensures.1 h)) in
          let left = w.left-is in
          omega arith
    ]

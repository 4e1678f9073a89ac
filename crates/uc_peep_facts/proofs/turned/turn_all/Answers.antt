use Rattle.std.proofs.Common.{◌≡◌, ◌+◌, ◌∙◌, ℕ, List, Bool, true, length, set, sym, subst, arith}
use Rattle.uc_isa.specs.declared.instruction.Instr.{Instr}
use Rattle.uc_isa.specs.declared.instruction.Instr.TheVariants.{Br}
use Rattle.uc_peep.specs.Window.{filler}
use Rattle.uc_peep_facts.specs.Turned.{opposite}
use Rattle.uc_peep_facts.specs.inner.Pairs.{AreTurnedTo}
use Rattle.uc_peep_facts.proofs.Turning.{turned-more, turned-stays}
use Rattle.uc_peep_facts.proofs.turned.turn_all.Goals as goal
use Rattle.uc_peep_facts.proofs.turned.turn_all.Goals.{in-Some, in_default}

-- the same by other names
same-turned : (code : List Instr) (entered started : List Bool) (n : ℕ) (draft draft' : List Instr) (gone gone' : List Bool) (some some' : Bool) → draft' ≡ draft → gone' ≡ gone → some' ≡ some → AreTurnedTo code entered started draft gone some n → AreTurnedTo code entered started draft' gone' some' n
same-turned code entered started n draft draft' gone gone' some some' a b d h =
    subst (λ l. AreTurnedTo code entered started l gone' some' n) (sym a) (subst (λ l. AreTurnedTo code entered started draft l some' n) (sym b) (subst (λ l. AreTurnedTo code entered started draft gone l n) (sym d) h))

pub loop-x-preserved : goal.loop-x-preserved
loop-x-preserved c = elim c.match-over_at.branch [
  | in-Some w ↦
      same-turned c.args.code.now c.args.entered.now c.args.started.now (c.loop-x.x + 1)
      (set (set c.loop-x.draft c.loop-x.x (Br (opposite w.in-Some.c) w.in-Some.to)) (c.loop-x.x + 1) (filler (c.loop-x.x + 1))) c.match-over_at.draft
      (set c.loop-x.gone (c.loop-x.x + 1) true) c.match-over_at.gone true c.match-over_at.some
      (w.draft-is ∙ w.put.ensures.draft) (w.gone-is ∙ w.put.ensures.gone) w.some-is
      (turned-more c.args.code.now c.args.entered.now c.args.started.now c.loop-x.draft c.loop-x.gone c.loop-x.some c.loop-x.x w.in-Some.c w.in-Some.to w.in-Some.ensures.some c.loop-x.invariant)
  | in_default w ↦
      same-turned c.args.code.now c.args.entered.now c.args.started.now (c.loop-x.x + 1) c.loop-x.draft c.match-over_at.draft c.loop-x.gone c.match-over_at.gone c.loop-x.some c.match-over_at.some w.draft-is w.gone-is w.some-is
      (turned-stays c.args.code.now c.args.entered.now c.args.started.now c.loop-x.draft c.loop-x.gone c.loop-x.some c.loop-x.x w.in_default.ensures.none c.loop-x.invariant)
]

pub returns : goal.returns
returns c =
    let end' : c.loop-x.x ≡ length c.args.code.now = let most = c.loop-x.auto.x-end in let past = c.loop-x-test.false in omega arith in
    subst (AreTurnedTo c.args.code.now c.args.entered.now c.args.started.now c.loop-x.draft c.loop-x.gone c.loop-x.some) end' c.loop-x.invariant

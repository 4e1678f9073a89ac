use Rattle.std.proofs.Common.{◌≡◌, ◌≢◌, length, sym, ◌∙◌, subst, refl, arith}
use Rattle.uc_isa.specs.declared.instruction.Instr.TheVariants.{Br}
use Rattle.uc_asm.specs.Items.{Stands, Misnames}
use Rattle.uc_asm.specs.inner.Gives.{Gives}
use Rattle.uc_asm.specs.inner.Seen.{seen}
use Rattle.uc_asm.specs.declared.item.Item.{Item}
use Rattle.uc_asm.specs.declared.given.Resolved.TheVariants.{Instruction, Nothing}
use Rattle.uc_asm.proofs.FirstLemmas.{label-nothing, label-again, label-found, target-at, target-not}
use Rattle.uc_asm.proofs.given.resolved_item.Goals as goal
use Rattle.uc_asm.proofs.given.resolved_item.Goals.{in_default-via-in-Some+else-first-index, in_default-via-in_default}

pub returns-in-Some : goal.returns-in-Some
returns-in-Some c = λ all front back labels s l.
    let name = c.in-Label.name.now in
    let at : length front ≡ c.in-Some.first.index = omega arith in
    subst (λ (x : Item). Stands all front (seen x) back → Gives all front (seen x) Nothing) (sym c.in-Label.is)
    (λ t. label-nothing all front back name c.in-Some.first (c.in-Some.ensures ∙ labels name) t at) s

pub returns-in_default : goal.returns-in_default
returns-in_default c = λ all front back labels s l.
    let name = c.in-Label.name.now in
    subst (λ (x : Item). Stands all front (seen x) back → Misnames all front (seen x)) (sym c.in-Label.is)
    (λ t. elim c.in_default.branch [
      | in_default-via-in-Some+else-first-index w ↦ let other : length front ≢ w.in-Some.first.index = λ e. w.if-first-index.false (sym e ∙ l) in label-again all front back name w.in-Some.first (sym w.in-Some.is ∙ c.find.ensures ∙ labels name) t other
      | in_default-via-in_default w ↦ absurd (label-found all front back name (sym w.in_default.is ∙ c.find.ensures ∙ labels name) t)
    ]) s

pub returns-in-Some-find : goal.returns-in-Some-find
returns-in-Some-find c = λ all front back labels s l.
    let name = c.in-Jump.name.now in
    subst (λ (x : Item). Gives all front (seen x) (Instruction (Br c.in-Jump.cond c.in-Some-find.first.place))) (sym c.in-Jump.is)
    (c.in-Some-find.first.place, target-at all name c.in-Some-find.first (c.in-Some-find.ensures ∙ labels name), refl)

pub returns-in-None : goal.returns-in-None
returns-in-None c = λ all front back labels s l.
    let name = c.in-Jump.name.now in
    subst (λ (x : Item). Misnames all front (seen x)) (sym c.in-Jump.is) (target-not all name (c.in-None.ensures ∙ labels name))

use Rattle.std.proofs.Common.{◌≡◌, List, ◌+◌, arith, subst, length, ◌∙◌, refl}
use Rattle.std.proofs.lemmas.Bool.{false≢true}
use lib.ListN.{length-map}
use Rattle.uc_asm.specs.Items.{count}
use Rattle.uc_asm.specs.Text.{IsSyntaxError}
use Rattle.uc_asm.specs.declared.item.Item.{Item}
use Rattle.uc_asm.specs.inner.Seen.{seen, all_seen}
use Rattle.uc_asm.proofs.TextLemmas.{line-wrong, has-seen-more, seen-short}
use Rattle.uc_asm.proofs.assembler.read_text.Goals as goal

pub returns-in-None-clause-error : goal.returns-in-None-clause-error
returns-in-None-clause-error c =
    let items = c.loop-line.items.items in
    let number : length (all_seen items) + 2 ≡ c.line_at.result = omega (arith, length-map items seen, c.len.ensures, c.line_at.ensures) in
    subst (IsSyntaxError c.args.text.now) number
    (line-wrong c.args.text.now c.in_ok-params.params (all_seen items) c.loop-line.lines c.in-Some.line.now c.next_line.new.self c.loop-line.invariant
    c.in-Some.ensures.line c.in-Some.ensures.one c.in-None.ensures.none)

pub loop-line-preserved : goal.loop-line-preserved
loop-line-preserved c =
    has-seen-more c.args.text.now c.in_ok-params.params c.loop-line.items.items c.push.new.self.items c.loop-line.lines c.in-Some.line.now c.next_line.new.self c.in-Some-item_of.item c.in-Ok.ensures.items c.loop-line.invariant
    c.in-Some.ensures.line c.in-Some-item_of.ensures.some.0 c.in-Some-item_of.ensures.some.1

pub returns-then-not-is_done-clause-error : goal.returns-then-not-is_done-clause-error
returns-then-not-is_done-clause-error c =
    seen-short c.args.text.now c.in_ok-params.params c.loop-line.items.items c.loop-line.lines c.line_at-then-not-is_done.result c.loop-line.invariant c.in_default.ensures.none
    (λ e. absurd (false≢true (c.if-not-is_done.ensures.1 (c.in_default.ensures.left ∙ e))))
    (omega (arith, c.len-then-not-is_done.ensures, c.line_at-then-not-is_done.ensures))

pub returns-then-not-has_instruction-clause-error : goal.returns-then-not-has_instruction-clause-error
returns-then-not-has_instruction-clause-error c =
    seen-short c.args.text.now c.in_ok-params.params c.loop-line.items.items c.loop-line.lines c.line_at-then-not-has_instruction.result c.loop-line.invariant c.in_default.ensures.none
    (λ e. subst (λ (is : List Item). count (all_seen is) ≡ 0) c.deref.ensures.value (c.if-not-has_instruction.ensures.none refl))
    (omega (arith, c.len-then-not-has_instruction.ensures, c.line_at-then-not-has_instruction.ensures))

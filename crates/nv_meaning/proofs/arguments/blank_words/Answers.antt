use Rattle.std.proofs.Common.{◌≡◌, ◌∙◌, ◌+◌, ◌≤◌, ap, sym, refl, arith}
use Rattle.nv_ast.specs.Types.{words_ty, word_parts}
use Rattle.nv_meaning_values.specs.Values.{Tuple}
use Rattle.nv_meaning.specs.inner.Blanks.{blank, blanks}
use Rattle.nv_meaning_values.proofs.Rows.{tuple_view}
use Rattle.nv_meaning.proofs.Parameters.{zeros-again, words-tuple}
use Rattle.nv_meaning.proofs.arguments.blank_words.Goals as goal

pub returns-then-n-eq1 : goal.returns-then-n-eq1
returns-then-n-eq1 c = ap (λ k. blank (words_ty k)) (sym c.if-n-eq1.true)

pub loop-done-preserved : goal.loop-done-preserved
loop-done-preserved c =
    let h : c.loop-done.done + 1 ≤ c.args.n = omega arith in
    (h, zeros-again c.loop-done.done c.loop-done.vs.items c.push.new.self.items _ c.loop-done.invariant.1 refl c.in_ok-push.ensures.items)

pub returns : goal.returns
returns c =
    let e : c.loop-done.done ≡ c.args.n = omega (arith, c.loop-done.invariant.0) in
    tuple_view c.loop-done.vs ∙ ap (λ vs. Tuple vs) c.loop-done.invariant.1 ∙ ap (λ k. Tuple (blanks (word_parts k))) e ∙ sym (words-tuple c.args.n c.if-n-eq1.false)

use Rattle.std.proofs.Common.{◌∙◌, ◌+◌, ◌==◌, ap, sym, refl, subst, not, ◌≤◌, [], length, drop, min, arith}
use Rattle.std.proofs.lemmas.List.{take_all}
use Rattle.std.below.core.specs.declared.int.usize.TheConstants.{MAX}
use Rattle.nv_meaning_values.specs.Values.{Word, Truth, Tuple, Record, words_of, all_words, all_named_words}
use Rattle.nv_meaning.specs.inner.Blanks.{filled as filling, all_filled, fields_filled}
use Rattle.nv_meaning_values.specs.inner.View.{view, list_values, list_named_values}
use Rattle.nv_meaning_values.proofs.Rows.{tuple_view, record_view}
use Rattle.nv_meaning.proofs.Parameters.{Filled, FilledFields, filled-none, fields-none, filled-turn, fields-turn}
use Rattle.nv_meaning.proofs.arguments.+filled.Goals as goal

pub filled-returns-in-Word-clause-value : goal.filled-returns-in-Word-clause-value
filled-returns-in-Word-clause-value t c =
    ap (λ w. Word w) c.word_at.ensures ∙ sym (ap (λ k. filling (view k) (drop c.args.at c.args.words.now)) c.in-Word.is)

pub filled-returns-in-Word-clause-behind : goal.filled-returns-in-Word-clause-behind
filled-returns-in-Word-clause-behind t c =
    let e = ap (λ k. length (words_of (view k))) c.in-Word.is in
    omega (arith, c.saturating_add.ensures)

pub filled-returns-in-Truth-clause-value : goal.filled-returns-in-Truth-clause-value
filled-returns-in-Truth-clause-value t c =
    ap (λ w. Truth (not (w == 0))) c.word_at-in-Truth.ensures ∙ sym (ap (λ k. filling (view k) (drop c.args.at c.args.words.now)) c.in-Truth.is)

pub filled-returns-in-Truth-clause-behind : goal.filled-returns-in-Truth-clause-behind
filled-returns-in-Truth-clause-behind t c =
    let e = ap (λ k. length (words_of (view k))) c.in-Truth.is in
    omega (arith, c.saturating_add-in-Truth.ensures)

pub filled-returns-in_ok-parts-in-Tuple-clause-value : goal.filled-returns-in_ok-parts-in-Tuple-clause-value
filled-returns-in_ok-parts-in-Tuple-clause-value t c =
    tuple_view c.in_ok-parts-in-Tuple.parts ∙ ap (λ vs. Tuple vs) c.in_ok-parts-in-Tuple.ensures.values ∙ sym (ap (λ u. filling u (drop c.args.at c.args.words.now)) (ap view c.in-Tuple.is ∙ tuple_view c.in-Tuple.vs ∙ ap (λ l. Tuple (list_values l)) (sym c.deref.ensures.value)))

pub filled-returns-in_ok-parts-in-Tuple-clause-behind : goal.filled-returns-in_ok-parts-in-Tuple-clause-behind
filled-returns-in_ok-parts-in-Tuple-clause-behind t c =
    c.in_ok-parts-in-Tuple.ensures.behind ∙ sym (ap (λ u. min (c.args.at + length (words_of u)) MAX) (ap view c.in-Tuple.is ∙ tuple_view c.in-Tuple.vs ∙ ap (λ l. Tuple (list_values l)) (sym c.deref.ensures.value)))

pub filled-returns-in_ok-parts-in-Record-clause-value : goal.filled-returns-in_ok-parts-in-Record-clause-value
filled-returns-in_ok-parts-in-Record-clause-value t c =
    record_view c.in_ok-parts-in-Record.parts ∙ ap (λ vs. Record vs) c.in_ok-parts-in-Record.ensures.values ∙ sym (ap (λ u. filling u (drop c.args.at c.args.words.now)) (ap view c.in-Record.is ∙ record_view c.in-Record.fields ∙ ap (λ l. Record (list_named_values l)) (sym c.deref-in-Record.ensures.value)))

pub filled-returns-in_ok-parts-in-Record-clause-behind : goal.filled-returns-in_ok-parts-in-Record-clause-behind
filled-returns-in_ok-parts-in-Record-clause-behind t c =
    c.in_ok-parts-in-Record.ensures.behind ∙ sym (ap (λ u. min (c.args.at + length (words_of u)) MAX) (ap view c.in-Record.is ∙ record_view c.in-Record.fields ∙ ap (λ l. Record (list_named_values l)) (sym c.deref-in-Record.ensures.value)))

pub filled_all-loop-v-init : goal.filled_all-loop-v-init
filled_all-loop-v-init t c =
    let h : c.args.first ≤ MAX = omega (arith, c.ranges.first.fits) in
    subst (λ l. Filled c.args.first MAX c.args.first c.args.words.now l []) (sym c.in_ok-done.ensures.items) (filled-none c.args.first MAX c.args.words.now h)

pub filled_all-loop-v-preserved : goal.filled_all-loop-v-preserved
filled_all-loop-v-preserved t c =
    let short : length c.args.words.now ≤ MAX = omega arith in
    filled-turn c.args.first MAX c.loop-v.at c.in_ok-part.behind c.args.words.now c.loop-v.done.items c.push.new.self.items c.args.vs.now c.loop-v.v-index c.in_ok-part.part c.v-item.result c.loop-v-test.true c.v-item.is short c.loop-v.invariant c.in_ok-part.ensures.value c.in_ok-part.ensures.behind c.in_ok-push.ensures.items

pub filled_all-returns-clause-values : goal.filled_all-returns-clause-values
filled_all-returns-clause-values t c =
    c.loop-v.invariant.values ∙ ap (λ l. all_filled (list_values l) (drop c.args.first c.args.words.now)) (take_all c.loop-v.v-index c.args.vs.now (omega arith))

pub filled_all-returns-clause-behind : goal.filled_all-returns-clause-behind
filled_all-returns-clause-behind t c =
    c.loop-v.invariant.behind ∙ ap (λ l. min (c.args.first + length (all_words (list_values l))) MAX) (take_all c.loop-v.v-index c.args.vs.now (omega arith))

pub filled_fields-loop-field-init : goal.filled_fields-loop-field-init
filled_fields-loop-field-init t c =
    let h : c.args.first ≤ MAX = omega (arith, c.ranges.first.fits) in
    subst (λ l. FilledFields c.args.first MAX c.args.first c.args.words.now l []) (sym c.in_ok-done.ensures.items) (fields-none c.args.first MAX c.args.words.now h)

pub filled_fields-loop-field-preserved : goal.filled_fields-loop-field-preserved
filled_fields-loop-field-preserved t c =
    let short : length c.args.words.now ≤ MAX = omega arith in
    fields-turn c.args.first MAX c.loop-field.at c.in_ok-part.behind c.args.words.now c.loop-field.done.items c.push.new.self.items c.args.fields.now c.loop-field.field-index (c.field-item.result.0, c.in_ok-part.part) c.field-item.result c.loop-field-test.true c.field-item.is short c.loop-field.invariant refl c.in_ok-part.ensures.value c.in_ok-part.ensures.behind c.in_ok-push.ensures.items

pub filled_fields-returns-clause-values : goal.filled_fields-returns-clause-values
filled_fields-returns-clause-values t c =
    c.loop-field.invariant.values ∙ ap (λ l. fields_filled (list_named_values l) (drop c.args.first c.args.words.now)) (take_all c.loop-field.field-index c.args.fields.now (omega arith))

pub filled_fields-returns-clause-behind : goal.filled_fields-returns-clause-behind
filled_fields-returns-clause-behind t c =
    c.loop-field.invariant.behind ∙ ap (λ l. min (c.args.first + length (all_named_words (list_named_values l))) MAX) (take_all c.loop-field.field-index c.args.fields.now (omega arith))

use Rattle.std.proofs.Common.{◌∙◌, ◌<◌, ◌+◌, ◌++◌, length, arith, refl, ap, sym}
use Rattle.nv_base.specs.declared.term.Atom.TheVariants.{Var}
use Rattle.nv_ast.specs.Types.{words, total_words, total_named_words}
use Rattle.nv_flatten_values.specs.inner.Symbols.{Word, Truth, Tuple, Record, form, forms, named_forms, fresh, all_fresh, named_fresh, numbers_from}
use Rattle.nv_flatten_values.specs.inner.View.{view, list_symbols, list_named_symbols}
use Rattle.nv_flatten_values.proofs.Rows.{tuple_view, record_view}
use Rattle.nv_flatten_values.proofs.Lists.{renewed_symbols, renewed_next, renewed_made, renewed_fields, renewed_fields_next, renewed_fields_made}
use Rattle.nv_flatten_values.proofs.symbol.+renewed.Goals as goal

pub renewed_all-loop-s-preserved : goal.renewed_all-loop-s-preserved
renewed_all-loop-s-preserved t c =
    let h : c.loop-s.s-index < length c.args.ss.now = omega arith in
    record {
      symbols = renewed_symbols c.args.next.now c.loop-s.next c.loop-s.new.items c.args.ss.now c.push.new.self.items c.loop-s.s-index c.in-Ok.found c.s-item.result h c.s-item.is c.loop-s.invariant.symbols c.loop-s.invariant.next c.in-Ok.ensures.symbol c.in-Ok-push.ensures.items;
      next = renewed_next c.args.next.now c.loop-s.next c.renewed.new.next c.args.ss.now c.loop-s.s-index c.s-item.result h c.s-item.is c.loop-s.invariant.next c.in-Ok.ensures.next;
      made = renewed_made c.args.next.now c.loop-s.next c.args.made.now.items c.loop-s.made.items c.renewed.new.made.items c.args.ss.now c.loop-s.s-index c.s-item.result h c.s-item.is c.loop-s.invariant.made c.loop-s.invariant.next c.in-Ok.ensures.made;
      later = omega arith;
    }

pub renewed_fields-loop-field-preserved : goal.renewed_fields-loop-field-preserved
renewed_fields-loop-field-preserved t c =
    let h : c.loop-field.field-index < length c.args.fields.now = omega arith in
    record {
      symbols = renewed_fields c.args.next.now c.loop-field.next c.loop-field.new.items c.args.fields.now c.push.new.self.items c.loop-field.field-index (c.field-item.result.0, c.in-Ok.found) c.field-item.result h c.field-item.is c.loop-field.invariant.symbols c.loop-field.invariant.next refl c.in-Ok.ensures.symbol c.in-Ok-push.ensures.items;
      next = renewed_fields_next c.args.next.now c.loop-field.next c.renewed.new.next c.args.fields.now c.loop-field.field-index c.field-item.result h c.field-item.is c.loop-field.invariant.next c.in-Ok.ensures.next;
      made = renewed_fields_made c.args.next.now c.loop-field.next c.args.made.now.items c.loop-field.made.items c.renewed.new.made.items c.args.fields.now c.loop-field.field-index c.field-item.result h c.field-item.is c.loop-field.invariant.made c.loop-field.invariant.next c.in-Ok.ensures.made;
      later = omega arith;
    }

pub renewed-returns-in_ok-add_variable-in-Word-clause-symbol : goal.renewed-returns-in_ok-add_variable-in-Word-clause-symbol
renewed-returns-in_ok-add_variable-in-Word-clause-symbol t c = ap (λ x. Word (Var x)) c.in_ok-add_variable-in-Word.ensures.number ∙ sym (ap (λ k. fresh c.args.next.now (form (view k))) c.in-Word.is)

pub renewed-returns-in_ok-add_variable-in-Word-clause-next : goal.renewed-returns-in_ok-add_variable-in-Word-clause-next
renewed-returns-in_ok-add_variable-in-Word-clause-next t c = c.in_ok-add_variable-in-Word.ensures.next ∙ sym (ap (λ k. c.args.next.now + words (form (view k))) c.in-Word.is)

pub renewed-returns-in_ok-add_variable-in-Word-clause-made : goal.renewed-returns-in_ok-add_variable-in-Word-clause-made
renewed-returns-in_ok-add_variable-in-Word-clause-made t c = c.in_ok-add_variable-in-Word.ensures.made ∙ sym (ap (λ k. c.args.made.now.items ++ numbers_from c.args.next.now (words (form (view k)))) c.in-Word.is)

pub renewed-returns-in_ok-add_variable-in-Truth-clause-symbol : goal.renewed-returns-in_ok-add_variable-in-Truth-clause-symbol
renewed-returns-in_ok-add_variable-in-Truth-clause-symbol t c = ap (λ x. Truth (Var x)) c.in_ok-add_variable-in-Truth.ensures.number ∙ sym (ap (λ k. fresh c.args.next.now (form (view k))) c.in-Truth.is)

pub renewed-returns-in_ok-add_variable-in-Truth-clause-next : goal.renewed-returns-in_ok-add_variable-in-Truth-clause-next
renewed-returns-in_ok-add_variable-in-Truth-clause-next t c = c.in_ok-add_variable-in-Truth.ensures.next ∙ sym (ap (λ k. c.args.next.now + words (form (view k))) c.in-Truth.is)

pub renewed-returns-in_ok-add_variable-in-Truth-clause-made : goal.renewed-returns-in_ok-add_variable-in-Truth-clause-made
renewed-returns-in_ok-add_variable-in-Truth-clause-made t c = c.in_ok-add_variable-in-Truth.ensures.made ∙ sym (ap (λ k. c.args.made.now.items ++ numbers_from c.args.next.now (words (form (view k)))) c.in-Truth.is)

pub renewed-returns-in_ok-renewed_all-in-Tuple-clause-symbol : goal.renewed-returns-in_ok-renewed_all-in-Tuple-clause-symbol
renewed-returns-in_ok-renewed_all-in-Tuple-clause-symbol t c =
    tuple_view c.in_ok-renewed_all-in-Tuple.field-0 ∙ ap (λ vs. Tuple vs) (c.in_ok-renewed_all-in-Tuple.ensures.symbols ∙ ap (λ l. all_fresh c.args.next.now (forms (list_symbols l))) c.deref.ensures.value) ∙ sym (ap (λ k. fresh c.args.next.now (form k)) (ap view c.in-Tuple.is ∙ tuple_view c.in-Tuple.parts))

pub renewed-returns-in_ok-renewed_all-in-Tuple-clause-next : goal.renewed-returns-in_ok-renewed_all-in-Tuple-clause-next
renewed-returns-in_ok-renewed_all-in-Tuple-clause-next t c =
    c.in_ok-renewed_all-in-Tuple.ensures.next ∙ ap (λ l. c.args.next.now + total_words (forms (list_symbols l))) c.deref.ensures.value ∙ sym (ap (λ k. c.args.next.now + words (form k)) (ap view c.in-Tuple.is ∙ tuple_view c.in-Tuple.parts))

pub renewed-returns-in_ok-renewed_all-in-Tuple-clause-made : goal.renewed-returns-in_ok-renewed_all-in-Tuple-clause-made
renewed-returns-in_ok-renewed_all-in-Tuple-clause-made t c =
    c.in_ok-renewed_all-in-Tuple.ensures.made ∙ ap (λ l. c.args.made.now.items ++ numbers_from c.args.next.now (total_words (forms (list_symbols l)))) c.deref.ensures.value ∙ sym (ap (λ k. c.args.made.now.items ++ numbers_from c.args.next.now (words (form k))) (ap view c.in-Tuple.is ∙ tuple_view c.in-Tuple.parts))

pub renewed-returns-in_ok-renewed_fields-in-Record-clause-symbol : goal.renewed-returns-in_ok-renewed_fields-in-Record-clause-symbol
renewed-returns-in_ok-renewed_fields-in-Record-clause-symbol t c =
    record_view c.in_ok-renewed_fields-in-Record.field-0 ∙ ap (λ vs. Record vs) (c.in_ok-renewed_fields-in-Record.ensures.symbols ∙ ap (λ l. named_fresh c.args.next.now (named_forms (list_named_symbols l))) c.deref-in-Record.ensures.value) ∙ sym (ap (λ k. fresh c.args.next.now (form k)) (ap view c.in-Record.is ∙ record_view c.in-Record.fields))

pub renewed-returns-in_ok-renewed_fields-in-Record-clause-next : goal.renewed-returns-in_ok-renewed_fields-in-Record-clause-next
renewed-returns-in_ok-renewed_fields-in-Record-clause-next t c =
    c.in_ok-renewed_fields-in-Record.ensures.next ∙ ap (λ l. c.args.next.now + total_named_words (named_forms (list_named_symbols l))) c.deref-in-Record.ensures.value ∙ sym (ap (λ k. c.args.next.now + words (form k)) (ap view c.in-Record.is ∙ record_view c.in-Record.fields))

pub renewed-returns-in_ok-renewed_fields-in-Record-clause-made : goal.renewed-returns-in_ok-renewed_fields-in-Record-clause-made
renewed-returns-in_ok-renewed_fields-in-Record-clause-made t c =
    c.in_ok-renewed_fields-in-Record.ensures.made ∙ ap (λ l. c.args.made.now.items ++ numbers_from c.args.next.now (total_named_words (named_forms (list_named_symbols l)))) c.deref-in-Record.ensures.value ∙ sym (ap (λ k. c.args.made.now.items ++ numbers_from c.args.next.now (words (form k))) (ap view c.in-Record.is ∙ record_view c.in-Record.fields))

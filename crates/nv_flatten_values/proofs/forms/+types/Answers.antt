use Rattle.std.proofs.Common.{◌≡◌, ◌∙◌, ◌+◌, ◌++◌, ap, sym, refl, subst, arith, drop, OnOk, IfOk}
use Rattle.std.proofs.lemmas.List.{drop_all}
use Rattle.nv_ast.specs.Types.{type_of, types_of, named_types_of, words, total_words, total_named_words}
use Rattle.nv_ast.specs.TypeView.{type_tree, list_types, list_named_types}
use Rattle.nv_ast.proofs.Reading.{tuple_type_is, record_type_is}
use Rattle.nv_meaning_values.specs.inner.TableView.{declared_in}
use Rattle.nv_flatten_values.specs.inner.Symbols.{Tuple, Record, fresh, all_fresh, named_fresh, numbers_from}
use Rattle.nv_flatten_values.specs.inner.View.{view}
use Rattle.nv_flatten_values.proofs.Listing.{tuple-view, record-view, numbers-turn, symbols-turn, symbols-done, fields-turn, fields-done}
use Rattle.nv_flatten_values.proofs.forms.+types.Goals as goal
use Rattle.nv_ast.proofs.Items.{next_item}

pub of_type-returns-in-Word-clause-symbol : goal.of_type-returns-in-Word-clause-symbol
of_type-returns-in-Word-clause-symbol t c =
    subst (λ k. IfOk c.of_words.result (λ s. view s ≡ fresh c.args.next.now (type_of (declared_in c.args.t.now).layouts (type_tree k)))) (sym c.in-Word.is) c.of_words.ensures.symbol

pub of_type-returns-in-Word-clause-next : goal.of_type-returns-in-Word-clause-next
of_type-returns-in-Word-clause-next t c =
    subst (λ k. OnOk c.of_words.result (c.of_words.new.next ≡ c.args.next.now + words (type_of (declared_in c.args.t.now).layouts (type_tree k)))) (sym c.in-Word.is) c.of_words.ensures.next

pub of_type-returns-in-Word-clause-made : goal.of_type-returns-in-Word-clause-made
of_type-returns-in-Word-clause-made t c =
    subst (λ k. OnOk c.of_words.result (c.of_words.new.made.items ≡ c.args.made.now.items ++ numbers_from c.args.next.now (words (type_of (declared_in c.args.t.now).layouts (type_tree k))))) (sym c.in-Word.is) c.of_words.ensures.made

pub of_type-returns-in-Packed-clause-symbol : goal.of_type-returns-in-Packed-clause-symbol
of_type-returns-in-Packed-clause-symbol t c =
    subst (λ k. IfOk c.of_packed.result (λ s. view s ≡ fresh c.args.next.now (type_of (declared_in c.args.t.now).layouts (type_tree k)))) (sym c.in-Packed.is) c.of_packed.ensures.symbol

pub of_type-returns-in-Packed-clause-next : goal.of_type-returns-in-Packed-clause-next
of_type-returns-in-Packed-clause-next t c =
    subst (λ k. OnOk c.of_packed.result (c.of_packed.new.next ≡ c.args.next.now + words (type_of (declared_in c.args.t.now).layouts (type_tree k)))) (sym c.in-Packed.is) c.of_packed.ensures.next

pub of_type-returns-in-Packed-clause-made : goal.of_type-returns-in-Packed-clause-made
of_type-returns-in-Packed-clause-made t c =
    subst (λ k. OnOk c.of_packed.result (c.of_packed.new.made.items ≡ c.args.made.now.items ++ numbers_from c.args.next.now (words (type_of (declared_in c.args.t.now).layouts (type_tree k))))) (sym c.in-Packed.is) c.of_packed.ensures.made

pub of_type-returns-in-Unpacked-clause-symbol : goal.of_type-returns-in-Unpacked-clause-symbol
of_type-returns-in-Unpacked-clause-symbol t c =
    subst (λ k. IfOk c.of_record.result (λ s. view s ≡ fresh c.args.next.now (type_of (declared_in c.args.t.now).layouts (type_tree k)))) (sym c.in-Unpacked.is) c.of_record.ensures.symbol

pub of_type-returns-in-Unpacked-clause-next : goal.of_type-returns-in-Unpacked-clause-next
of_type-returns-in-Unpacked-clause-next t c =
    subst (λ k. OnOk c.of_record.result (c.of_record.new.next ≡ c.args.next.now + words (type_of (declared_in c.args.t.now).layouts (type_tree k)))) (sym c.in-Unpacked.is) c.of_record.ensures.next

pub of_type-returns-in-Unpacked-clause-made : goal.of_type-returns-in-Unpacked-clause-made
of_type-returns-in-Unpacked-clause-made t c =
    subst (λ k. OnOk c.of_record.result (c.of_record.new.made.items ≡ c.args.made.now.items ++ numbers_from c.args.next.now (words (type_of (declared_in c.args.t.now).layouts (type_tree k))))) (sym c.in-Unpacked.is) c.of_record.ensures.made

pub of_type-returns-in_ok-of_types-in-Tuple-clause-symbol : goal.of_type-returns-in_ok-of_types-in-Tuple-clause-symbol
of_type-returns-in_ok-of_types-in-Tuple-clause-symbol t c =
    tuple-view c.in_ok-of_types-in-Tuple.field-0 ∙ ap (λ vs. Tuple vs) (c.in_ok-of_types-in-Tuple.ensures.symbols ∙ ap (λ l. all_fresh c.args.next.now (types_of (declared_in c.args.t.now).layouts (list_types l))) c.deref.ensures.value) ∙ sym (ap (λ k. fresh c.args.next.now (type_of (declared_in c.args.t.now).layouts k)) (tuple_type_is c.args.ty.now c.in-Tuple.tys c.in-Tuple.is))

pub of_type-returns-in_ok-of_types-in-Tuple-clause-next : goal.of_type-returns-in_ok-of_types-in-Tuple-clause-next
of_type-returns-in_ok-of_types-in-Tuple-clause-next t c =
    c.in_ok-of_types-in-Tuple.ensures.next ∙ ap (λ l. c.args.next.now + total_words (types_of (declared_in c.args.t.now).layouts (list_types l))) c.deref.ensures.value ∙ sym (ap (λ k. c.args.next.now + words (type_of (declared_in c.args.t.now).layouts k)) (tuple_type_is c.args.ty.now c.in-Tuple.tys c.in-Tuple.is))

pub of_type-returns-in_ok-of_types-in-Tuple-clause-made : goal.of_type-returns-in_ok-of_types-in-Tuple-clause-made
of_type-returns-in_ok-of_types-in-Tuple-clause-made t c =
    c.in_ok-of_types-in-Tuple.ensures.made ∙ ap (λ l. c.args.made.now.items ++ numbers_from c.args.next.now (total_words (types_of (declared_in c.args.t.now).layouts (list_types l)))) c.deref.ensures.value ∙ sym (ap (λ k. c.args.made.now.items ++ numbers_from c.args.next.now (words (type_of (declared_in c.args.t.now).layouts k))) (tuple_type_is c.args.ty.now c.in-Tuple.tys c.in-Tuple.is))

pub of_type-returns-in_ok-of_fields-in-Fields-clause-symbol : goal.of_type-returns-in_ok-of_fields-in-Fields-clause-symbol
of_type-returns-in_ok-of_fields-in-Fields-clause-symbol t c =
    record-view c.in_ok-of_fields-in-Fields.field-0 ∙ ap (λ vs. Record vs) (c.in_ok-of_fields-in-Fields.ensures.symbols ∙ ap (λ l. named_fresh c.args.next.now (named_types_of (declared_in c.args.t.now).layouts (list_named_types l))) c.deref-in-Fields.ensures.value) ∙ sym (ap (λ k. fresh c.args.next.now (type_of (declared_in c.args.t.now).layouts k)) (record_type_is c.args.ty.now c.in-Fields.tys c.in-Fields.is))

pub of_type-returns-in_ok-of_fields-in-Fields-clause-next : goal.of_type-returns-in_ok-of_fields-in-Fields-clause-next
of_type-returns-in_ok-of_fields-in-Fields-clause-next t c =
    c.in_ok-of_fields-in-Fields.ensures.next ∙ ap (λ l. c.args.next.now + total_named_words (named_types_of (declared_in c.args.t.now).layouts (list_named_types l))) c.deref-in-Fields.ensures.value ∙ sym (ap (λ k. c.args.next.now + words (type_of (declared_in c.args.t.now).layouts k)) (record_type_is c.args.ty.now c.in-Fields.tys c.in-Fields.is))

pub of_type-returns-in_ok-of_fields-in-Fields-clause-made : goal.of_type-returns-in_ok-of_fields-in-Fields-clause-made
of_type-returns-in_ok-of_fields-in-Fields-clause-made t c =
    c.in_ok-of_fields-in-Fields.ensures.made ∙ ap (λ l. c.args.made.now.items ++ numbers_from c.args.next.now (total_named_words (named_types_of (declared_in c.args.t.now).layouts (list_named_types l)))) c.deref-in-Fields.ensures.value ∙ sym (ap (λ k. c.args.made.now.items ++ numbers_from c.args.next.now (words (type_of (declared_in c.args.t.now).layouts k))) (record_type_is c.args.ty.now c.in-Fields.tys c.in-Fields.is))

pub of_types-loop-ty-preserved : goal.of_types-loop-ty-preserved
of_types-loop-ty-preserved t c =
    let w : total_words (types_of (declared_in c.args.t.now).layouts (list_types (drop c.loop-ty.ty-index c.args.tys.now))) ≡ words (type_of (declared_in c.args.t.now).layouts (type_tree c.ty-item.result)) + total_words (types_of (declared_in c.args.t.now).layouts (list_types (drop (c.loop-ty.ty-index + 1) c.args.tys.now))) = ap (λ l. total_words (types_of (declared_in c.args.t.now).layouts (list_types l))) (next_item c.args.tys.now c.loop-ty.ty-index c.ty-item.result c.loop-ty-test.true c.ty-item.is) in
    record {
      symbols = symbols-turn c.loop-ty.next c.of_type.new.next (type_of (declared_in c.args.t.now).layouts (type_tree c.ty-item.result)) (types_of (declared_in c.args.t.now).layouts (list_types (drop (c.loop-ty.ty-index + 1) c.args.tys.now))) (types_of (declared_in c.args.t.now).layouts (list_types (drop c.loop-ty.ty-index c.args.tys.now))) c.loop-ty.symbols.items c.push.new.self.items c.in-Ok.found _ (ap (λ l. types_of (declared_in c.args.t.now).layouts (list_types l)) (next_item c.args.tys.now c.loop-ty.ty-index c.ty-item.result c.loop-ty-test.true c.ty-item.is)) c.in-Ok.ensures.symbol c.in-Ok.ensures.next c.in-Ok-push.ensures.items c.loop-ty.invariant.symbols;
      next = omega (arith, c.in-Ok.ensures.next, c.loop-ty.invariant.next, w);
      made = numbers-turn c.loop-ty.made.items c.of_type.new.made.items _ c.loop-ty.next c.of_type.new.next (words (type_of (declared_in c.args.t.now).layouts (type_tree c.ty-item.result))) (total_words (types_of (declared_in c.args.t.now).layouts (list_types (drop (c.loop-ty.ty-index + 1) c.args.tys.now)))) (total_words (types_of (declared_in c.args.t.now).layouts (list_types (drop c.loop-ty.ty-index c.args.tys.now)))) c.in-Ok.ensures.made c.in-Ok.ensures.next w c.loop-ty.invariant.made;
      later = omega (arith, c.in-Ok.ensures.later, c.loop-ty.invariant.later);
    }

pub of_types-returns-clause-symbols : goal.of_types-returns-clause-symbols
of_types-returns-clause-symbols t c =
    symbols-done c.loop-ty.next (types_of (declared_in c.args.t.now).layouts (list_types (drop c.loop-ty.ty-index c.args.tys.now))) c.loop-ty.symbols.items _ (ap (λ l. types_of (declared_in c.args.t.now).layouts (list_types l)) (drop_all c.loop-ty.ty-index c.args.tys.now (omega arith))) c.loop-ty.invariant.symbols

pub of_fields-loop-ty-preserved : goal.of_fields-loop-ty-preserved
of_fields-loop-ty-preserved t c =
    let w : total_named_words (named_types_of (declared_in c.args.t.now).layouts (list_named_types (drop c.loop-ty.ty-index c.args.tys.now))) ≡ words (type_of (declared_in c.args.t.now).layouts (type_tree c.ty-item.result.1)) + total_named_words (named_types_of (declared_in c.args.t.now).layouts (list_named_types (drop (c.loop-ty.ty-index + 1) c.args.tys.now))) = ap (λ l. total_named_words (named_types_of (declared_in c.args.t.now).layouts (list_named_types l))) (next_item c.args.tys.now c.loop-ty.ty-index c.ty-item.result c.loop-ty-test.true c.ty-item.is) in
    record {
      symbols = fields-turn c.loop-ty.next c.of_type.new.next c.ty-item.result.0 (type_of (declared_in c.args.t.now).layouts (type_tree c.ty-item.result.1)) (named_types_of (declared_in c.args.t.now).layouts (list_named_types (drop (c.loop-ty.ty-index + 1) c.args.tys.now))) (named_types_of (declared_in c.args.t.now).layouts (list_named_types (drop c.loop-ty.ty-index c.args.tys.now))) c.loop-ty.fields.items c.push.new.self.items _ _ (ap (λ l. named_types_of (declared_in c.args.t.now).layouts (list_named_types l)) (next_item c.args.tys.now c.loop-ty.ty-index c.ty-item.result c.loop-ty-test.true c.ty-item.is)) refl c.in-Ok.ensures.symbol c.in-Ok.ensures.next c.in-Ok-push.ensures.items c.loop-ty.invariant.symbols;
      next = omega (arith, c.in-Ok.ensures.next, c.loop-ty.invariant.next, w);
      made = numbers-turn c.loop-ty.made.items c.of_type.new.made.items _ c.loop-ty.next c.of_type.new.next (words (type_of (declared_in c.args.t.now).layouts (type_tree c.ty-item.result.1))) (total_named_words (named_types_of (declared_in c.args.t.now).layouts (list_named_types (drop (c.loop-ty.ty-index + 1) c.args.tys.now)))) (total_named_words (named_types_of (declared_in c.args.t.now).layouts (list_named_types (drop c.loop-ty.ty-index c.args.tys.now)))) c.in-Ok.ensures.made c.in-Ok.ensures.next w c.loop-ty.invariant.made;
      later = omega (arith, c.in-Ok.ensures.later, c.loop-ty.invariant.later);
    }

pub of_fields-returns-clause-symbols : goal.of_fields-returns-clause-symbols
of_fields-returns-clause-symbols t c =
    fields-done c.loop-ty.next (named_types_of (declared_in c.args.t.now).layouts (list_named_types (drop c.loop-ty.ty-index c.args.tys.now))) c.loop-ty.fields.items _ (ap (λ l. named_types_of (declared_in c.args.t.now).layouts (list_named_types l)) (drop_all c.loop-ty.ty-index c.args.tys.now (omega arith))) c.loop-ty.invariant.symbols

use Rattle.std.proofs.Common.{◌≡◌, ◌∙◌, ap, sym, refl, subst, IfOk}
use Rattle.nv_ast.specs.Types.{type_of, types_of, named_types_of}
use Rattle.nv_ast.specs.TypeView.{type_tree, list_types, list_named_types}
use Rattle.nv_ast.proofs.Reading.{tuple_type_is, record_type_is}
use Rattle.nv_meaning_values.specs.Values.{Tuple, Record}
use Rattle.nv_meaning.specs.inner.Blanks.{blank, blanks, named_blanks}
use Rattle.nv_meaning_values.specs.inner.TableView.{declared_in}
use Rattle.nv_meaning_values.specs.inner.View.{view}
use Rattle.nv_meaning_values.proofs.Rows.{tuple_view, record_view}
use Rattle.nv_meaning.proofs.Parameters.{blanks-listed, fields-listed}
use Rattle.nv_meaning.proofs.arguments.+blank.Goals as goal

pub blank_of-returns-in-Word : goal.blank_of-returns-in-Word
blank_of-returns-in-Word t c =
    subst (λ k. IfOk c.blank_words.result (λ v. view v ≡ blank (type_of (declared_in c.args.t.now).layouts (type_tree k)))) (sym c.in-Word.is) c.blank_words.ensures

pub blank_of-returns-in-Packed : goal.blank_of-returns-in-Packed
blank_of-returns-in-Packed t c =
    subst (λ k. IfOk c.blank_packed.result (λ v. view v ≡ blank (type_of (declared_in c.args.t.now).layouts (type_tree k)))) (sym c.in-Packed.is) c.blank_packed.ensures

pub blank_of-returns-in-Unpacked : goal.blank_of-returns-in-Unpacked
blank_of-returns-in-Unpacked t c =
    subst (λ k. IfOk c.blank_record.result (λ v. view v ≡ blank (type_of (declared_in c.args.t.now).layouts (type_tree k)))) (sym c.in-Unpacked.is) c.blank_record.ensures

pub blank_of-returns-in-Bool : goal.blank_of-returns-in-Bool
blank_of-returns-in-Bool t c =
    sym (ap (λ k. blank (type_of (declared_in c.args.t.now).layouts (type_tree k))) c.in-Bool.is)

pub blank_of-returns-in_ok-blank_parts-in-Tuple : goal.blank_of-returns-in_ok-blank_parts-in-Tuple
blank_of-returns-in_ok-blank_parts-in-Tuple t c =
    tuple_view c.in_ok-blank_parts-in-Tuple.field-0 ∙ ap (λ vs. Tuple vs) (c.in_ok-blank_parts-in-Tuple.ensures ∙ ap (λ l. blanks (types_of (declared_in c.args.t.now).layouts (list_types l))) c.deref.ensures.value) ∙ sym (ap (λ k. blank (type_of (declared_in c.args.t.now).layouts k)) (tuple_type_is c.args.ty.now c.in-Tuple.tys c.in-Tuple.is))

pub blank_of-returns-in_ok-blank_fields-in-Fields : goal.blank_of-returns-in_ok-blank_fields-in-Fields
blank_of-returns-in_ok-blank_fields-in-Fields t c =
    record_view c.in_ok-blank_fields-in-Fields.field-0 ∙ ap (λ vs. Record vs) (c.in_ok-blank_fields-in-Fields.ensures ∙ ap (λ l. named_blanks (named_types_of (declared_in c.args.t.now).layouts (list_named_types l))) c.deref-in-Fields.ensures.value) ∙ sym (ap (λ k. blank (type_of (declared_in c.args.t.now).layouts k)) (record_type_is c.args.ty.now c.in-Fields.tys c.in-Fields.is))

pub blank_parts-loop-ty-preserved : goal.blank_parts-loop-ty-preserved
blank_parts-loop-ty-preserved t c =
    blanks-listed (declared_in c.args.t.now).layouts c.loop-ty.vs.items c.push.new.self.items c.args.tys.now c.loop-ty.ty-index c.in_ok-blank_of.field-0 c.ty-item.result c.loop-ty-test.true c.ty-item.is c.loop-ty.invariant c.in_ok-blank_of.ensures c.in_ok-push.ensures.items

pub blank_fields-loop-ty-preserved : goal.blank_fields-loop-ty-preserved
blank_fields-loop-ty-preserved t c =
    fields-listed (declared_in c.args.t.now).layouts c.loop-ty.fields.items c.push.new.self.items c.args.tys.now c.loop-ty.ty-index _ c.ty-item.result c.loop-ty-test.true c.ty-item.is c.loop-ty.invariant refl c.in_ok-blank_of.ensures c.in_ok-push.ensures.items

use Rattle.std.proofs.Common.{◌≡◌, ◌∙◌, ◌≤◌, ℕ, List, refl, ap, sym, subst, length, arith, Ok}
use Rattle.std.proofs.lemmas.List.{take_all}
use Rattle.std.proofs.lemmas.Result.{err_from_is_err_and}
use Rattle.nv_ast.specs.declared.tree.TyText.{TyText}
use Rattle.nv_ast.specs.Tree.{TypeTree, WordType, TupleType, RecordType}
use Rattle.nv_ast.specs.Faults.{at_span, types_faults, named_types_faults}
use Rattle.nv_ast.specs.Height.{type_height, highest_type, highest_named_type}
use Rattle.nv_ast.specs.TypeView.{type_tree, list_types, list_named_types}
use Rattle.nv_ast.specs.Types.{no_tys, no_named_tys, types_of, named_types_of}
use Rattle.std.specs.Borrow.{Bor}
use Rattle.nv_types_table.specs.inner.Named.{named}
use Rattle.nv_types_table.specs.inner.Store.{AreTypes, AreFields}
use Rattle.nv_types_scopes.specs.inner.Texts.{TypesText}
use Rattle.nv_types_scopes.proofs.Holding.{Keeps-refl, Keeps-trans, Keeps-table, holds_stays}
use Rattle.nv_types_scopes.proofs.TextWalk.{TypeNamed, tuple_text, record_text, types_faults_more, types_first, types_more, highest_type_within, named_faults_more, named_first, fields_more, highest_named_within, text_at, texts_refused, named_refused, word_wrong, word_right, bool_text, tuple_refused, tuple_done, fields_refused, fields_done}
use Rattle.nv_types_scopes.proofs.functions.Checker.+type_text.Goals as goal

pub type_text-type_texts-requires : goal.type_text-type_texts-requires
type_text-type_texts-requires t c =
    (omega (arith, c.decreases, ap (λ f. type_height (type_tree f)) c.in-Tuple.is, ap type_height (tuple_text c.in-Tuple.ts), ap (λ l. highest_type (list_types l)) c.deref.ensures.value), tt {0})

pub type_text-named_texts-requires : goal.type_text-named_texts-requires
type_text-named_texts-requires t c =
    (omega (arith, c.decreases, ap (λ f. type_height (type_tree f)) c.in-Fields.is, ap type_height (record_text c.in-Fields.ts), ap (λ l. highest_named_type (list_named_types l)) c.deref-in-Fields.ensures.value), tt {0})

pub type_texts-type_text-requires : goal.type_texts-type_text-requires
type_texts-type_text-requires t c =
    (omega (arith, c.decreases, highest_type_within c.args.texts.now c.loop-text.text-index c.text-item.result c.loop-text-test.true c.text-item.is), tt {0})

pub named_texts-type_text-requires : goal.named_texts-type_text-requires
named_texts-type_text-requires t c =
    (omega (arith, c.decreases, highest_named_within c.args.texts.now c.loop-text.text-index c.text-item.result c.loop-text-test.true c.text-item.is), tt {0})

-- ---- types in order
pub type_texts-loop-text-init : goal.type_texts-loop-text-init
type_texts-loop-text-init t c = record { keeps = Keeps-refl c.args.self.now; none = λ k h. refl; typed = λ k h. subst (λ (l : List ℕ). AreTypes c.args.self.now.table l no_tys) (sym c.new-types.ensures.items) tt }

pub type_texts-loop-text-preserved : goal.type_texts-loop-text-preserved
type_texts-loop-text-preserved t c =
    let xs = c.args.texts.now in
    let i = c.loop-text.text-index in
    let x = c.text-item.result in
    let q = c.in_ok-type_text.ensures in
    let inv = c.loop-text.invariant in
    record {
      keeps = Keeps-trans c.args.self.now c.loop-text.self c.type_text.new.self inv.keeps q.keeps;
      none = λ k h. types_faults_more c.args.span k.layouts xs i x c.loop-text-test.true c.text-item.is (inv.none k h) (q.judged k (holds_stays c.args.self.now c.loop-text.self k inv.keeps.declared h));
      typed = λ k h.
          types_more c.loop-text.self.table c.type_text.new.self.table k.layouts xs i x c.loop-text.types.items _ c.in_ok-type_text.field-0 c.loop-text-test.true c.text-item.is q.keeps.declared.grows
          (inv.typed k h) c.in_ok-push.ensures.items (q.typed k (holds_stays c.args.self.now c.loop-text.self k inv.keeps.declared h));
    }

pub type_texts-returns-in_err-type_text : goal.type_texts-returns-in_err-type_text
type_texts-returns-in_err-type_text t c =
    let p = err_from_is_err_and c.from_residual.result c.from_residual.ensures.1 in
    let inv = c.loop-text.invariant in
    let e = c.in_err-type_text.field-0.0 in
    rw (p.1, p.2) (texts_refused _ _ c.args.span (list_types c.args.texts.now) e (λ k h.
    types_first c.args.span k.layouts c.args.texts.now c.loop-text.text-index c.text-item.result e c.loop-text-test.true c.text-item.is (inv.none k h)
    (c.in_err-type_text.ensures.judged k (holds_stays c.args.self.now c.loop-text.self k inv.keeps.declared h))))

-- ---- named types in order
pub named_texts-loop-text-init : goal.named_texts-loop-text-init
named_texts-loop-text-init t c = record { keeps = Keeps-refl c.args.self.now; none = λ k h. refl; typed = λ k h. subst (λ (l : List (Bor (List ℕ) × ℕ)). AreFields c.args.self.now.table (named l) no_named_tys) (sym c.new-types.ensures.items) tt }

pub named_texts-loop-text-preserved : goal.named_texts-loop-text-preserved
named_texts-loop-text-preserved t c =
    let xs = c.args.texts.now in
    let i = c.loop-text.text-index in
    let x = c.text-item.result in
    let q = c.in_ok-t.ensures in
    let inv = c.loop-text.invariant in
    record {
      keeps = Keeps-trans c.args.self.now c.loop-text.self c.type_text.new.self inv.keeps q.keeps;
      none = λ k h. named_faults_more c.args.span k.layouts xs i x c.loop-text-test.true c.text-item.is (inv.none k h) (q.judged k (holds_stays c.args.self.now c.loop-text.self k inv.keeps.declared h));
      typed = λ k h.
          fields_more c.loop-text.self.table c.type_text.new.self.table k.layouts xs i x c.loop-text.types.items _ _ c.in_ok-t.t c.loop-text-test.true c.text-item.is q.keeps.declared.grows
          (inv.typed k h) c.in_ok-push.ensures.items refl (q.typed k (holds_stays c.args.self.now c.loop-text.self k inv.keeps.declared h));
    }

pub named_texts-returns-in_err-t : goal.named_texts-returns-in_err-t
named_texts-returns-in_err-t t c =
    let p = err_from_is_err_and c.from_residual.result c.from_residual.ensures.1 in
    let inv = c.loop-text.invariant in
    let e = c.in_err-t.field-0.0 in
    rw (p.1, p.2) (named_refused _ _ c.args.span (list_named_types c.args.texts.now) e (λ k h.
    named_first c.args.span k.layouts c.args.texts.now c.loop-text.text-index c.text-item.result e c.loop-text-test.true c.text-item.is (inv.none k h)
    (c.in_err-t.ensures.judged k (holds_stays c.args.self.now c.loop-text.self k inv.keeps.declared h))))

pub named_texts-returns : goal.named_texts-returns
named_texts-returns t c =
    let inv = c.loop-text.invariant in
    let past : length c.args.texts.now ≤ c.loop-text.text-index = omega arith in
    let all = take_all c.loop-text.text-index c.args.texts.now past in
    record {
      judged = λ k h. ap (at_span c.args.span) (ap (λ l. named_types_faults k.layouts (list_named_types l)) (sym all) ∙ inv.none k h);
      typed = λ k h. subst (λ (l : List TypeNamed). AreFields c.loop-text.self.table (named c.loop-text.types.items) (named_types_of k.layouts (list_named_types l))) all (inv.typed k h);
      keeps = inv.keeps;
    }

-- ---- the end of a list
pub type_texts-returns : goal.type_texts-returns
type_texts-returns t c =
    let inv = c.loop-text.invariant in
    let past : length c.args.texts.now ≤ c.loop-text.text-index = omega arith in
    let all = take_all c.loop-text.text-index c.args.texts.now past in
    let made = c.in_ok-parts_of.ensures in
    record {
      judged = λ k h. ap (at_span c.args.span) (ap (λ l. types_faults k.layouts (list_types l)) (sym all) ∙ inv.none k h);
      typed = λ k h. made.made (types_of k.layouts (list_types c.args.texts.now)) (subst (λ (l : List ℕ). AreTypes c.loop-text.self.table l (types_of k.layouts (list_types c.args.texts.now))) (sym c.deref.ensures.value)
          (subst (λ (l : List TyText). AreTypes c.loop-text.self.table c.loop-text.types.items (types_of k.layouts (list_types l))) all (inv.typed k h)));
      keeps = Keeps-trans c.args.self.now c.loop-text.self _ inv.keeps (Keeps-table c.loop-text.self c.parts_of.new.self made.grows);
    }

-- ---- a type
pub type_text-returns-in_err-fault_where-in-Word : goal.type_text-returns-in_err-fault_where-in-Word
type_text-returns-in_err-fault_where-in-Word t c =
    let p = err_from_is_err_and c.from_residual.result c.from_residual.ensures.1 in
    let text : type_tree c.args.text.now ≡ WordType c.in-Word.n = ap type_tree c.in-Word.is in
    let e = c.in_err-fault_where-in-Word.field-0.0 in
    rw (p.1, p.2) (text_at _ _ c.args.span (type_tree c.args.text.now) _ _ text (word_wrong _ _ c.args.span c.in-Word.n c.is_outside.result e c.is_outside.ensures c.in_err-fault_where-in-Word.ensures))

pub type_text-returns-in_ok-words-in-Word : goal.type_text-returns-in_ok-words-in-Word
type_text-returns-in_ok-words-in-Word t c =
    let text : type_tree c.args.text.now ≡ WordType c.in-Word.n = ap type_tree c.in-Word.is in
    let i = c.in_ok-words-in-Word.field-0 in
    text_at _ _ c.args.span (type_tree c.args.text.now) _ _ text
    (word_right c.args.self.now _ c.args.span c.in-Word.n c.is_outside.result i c.is_outside.ensures c.in_ok-fault_where-in-Word.ensures (Keeps-table c.args.self.now c.words.new.self c.in_ok-words-in-Word.ensures.grows) c.in_ok-words-in-Word.ensures.made)

pub type_text-returns-in-Bool : goal.type_text-returns-in-Bool
type_text-returns-in-Bool t c = subst (λ (x : TypeTree). TypesText c.args.self.now c.args.self.now c.args.span x (Ok 1)) (sym (ap type_tree c.in-Bool.is)) (bool_text c.args.self.now c.args.span)

pub type_text-returns-in-Packed : goal.type_text-returns-in-Packed
type_text-returns-in-Packed t c = subst (λ (x : TypeTree). TypesText c.args.self.now c.packed_text.new.self c.args.span x c.packed_text.result) (sym (ap type_tree c.in-Packed.is)) c.packed_text.ensures

pub type_text-returns-in-Unpacked : goal.type_text-returns-in-Unpacked
type_text-returns-in-Unpacked t c = subst (λ (x : TypeTree). TypesText c.args.self.now c.unpacked_text.new.self c.args.span x c.unpacked_text.result) (sym (ap type_tree c.in-Unpacked.is)) c.unpacked_text.ensures

pub type_text-returns-in_err-parts-in-Tuple : goal.type_text-returns-in_err-parts-in-Tuple
type_text-returns-in_err-parts-in-Tuple t c =
    let p = err_from_is_err_and c.from_residual-in_err-parts-in-Tuple.result c.from_residual-in_err-parts-in-Tuple.ensures.1 in
    let text : type_tree c.args.text.now ≡ TupleType (list_types c.deref.result.now) = ap type_tree c.in-Tuple.is ∙ tuple_text c.in-Tuple.ts ∙ ap (λ l. TupleType (list_types l)) (sym c.deref.ensures.value) in
    let e = c.in_err-parts-in-Tuple.field-0.0 in
    rw (p.1, p.2) (text_at _ _ c.args.span (type_tree c.args.text.now) _ _ text (tuple_refused _ _ _ c.args.span (list_types c.deref.result.now) e c.in_err-parts-in-Tuple.ensures))

pub type_text-returns-in_ok-t-in-Tuple : goal.type_text-returns-in_ok-t-in-Tuple
type_text-returns-in_ok-t-in-Tuple t c =
    let text : type_tree c.args.text.now ≡ TupleType (list_types c.deref.result.now) = ap type_tree c.in-Tuple.is ∙ tuple_text c.in-Tuple.ts ∙ ap (λ l. TupleType (list_types l)) (sym c.deref.ensures.value) in
    let ts = c.in_ok-parts-in-Tuple in
    let made = c.in_ok-t-in-Tuple in
    text_at _ _ c.args.span (type_tree c.args.text.now) _ _ text
    (tuple_done c.args.self.now c.type_texts.new.self _ c.args.span (list_types c.deref.result.now) ts.parts made.t c.without_excess.result ts.ensures (Keeps-table c.type_texts.new.self c.tuple.new.self made.ensures.grows) made.ensures.made c.without_excess.ensures.judged c.without_excess.ensures.same)

pub type_text-returns-in_err-fields-in-Fields : goal.type_text-returns-in_err-fields-in-Fields
type_text-returns-in_err-fields-in-Fields t c =
    let p = err_from_is_err_and c.from_residual-in_err-fields-in-Fields.result c.from_residual-in_err-fields-in-Fields.ensures.1 in
    let text : type_tree c.args.text.now ≡ RecordType (list_named_types c.deref-in-Fields.result.now) = ap type_tree c.in-Fields.is ∙ record_text c.in-Fields.ts ∙ ap (λ l. RecordType (list_named_types l)) (sym c.deref-in-Fields.ensures.value) in
    let e = c.in_err-fields-in-Fields.field-0.0 in
    rw (p.1, p.2) (text_at _ _ c.args.span (type_tree c.args.text.now) _ _ text (fields_refused _ _ _ c.args.span (list_named_types c.deref-in-Fields.result.now) e c.in_err-fields-in-Fields.ensures))

pub type_text-returns-in_ok-fields-in-Fields : goal.type_text-returns-in_ok-fields-in-Fields
type_text-returns-in_ok-fields-in-Fields t c =
    let text : type_tree c.args.text.now ≡ RecordType (list_named_types c.deref-in-Fields.result.now) = ap type_tree c.in-Fields.is ∙ record_text c.in-Fields.ts ∙ ap (λ l. RecordType (list_named_types l)) (sym c.deref-in-Fields.ensures.value) in
    let ts = c.in_ok-fields-in-Fields in
    subst (λ (x : TypeTree). TypesText c.args.self.now c.record_text.new.self c.args.span x c.record_text.result) (sym text)
    (fields_done c.args.self.now c.named_texts.new.self c.record_text.new.self c.args.span (list_named_types c.deref-in-Fields.result.now) ts.fields c.record_text.result ts.ensures
    (λ us h. c.record_text.ensures.judged us (subst (λ (l : List (Bor (List ℕ) × ℕ)). AreFields c.named_texts.new.self.table (named l) us) (sym c.deref-in-Fields-2.ensures.value) h)) (λ us h. c.record_text.ensures.typed us (subst (λ (l : List (Bor (List ℕ) × ℕ)). AreFields c.named_texts.new.self.table (named l) us) (sym c.deref-in-Fields-2.ensures.value) h)) c.record_text.ensures.keeps)

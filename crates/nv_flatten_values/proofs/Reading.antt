-- Fields that are read out of packed words, some behind others.
use Rattle.std.proofs.Common.{◌≡◌, ◌∙◌, refl, ap, sym, subst, ℕ, zero, suc, ◌+◌, ◌*◌, ◌<◌, ◌≤◌, ◌^◌, min, List, [], ◌∷◌, ◌++◌, take, drop, length, get_or, append_assoc, append-nil, arith}
use Rattle.std.proofs.lemmas.List.Elements.{All-nil, All-append}
use Rattle.nv_base.specs.declared.term.Atom.{Atom}
use Rattle.nv_base.specs.Words.{Env, atom_word, atom_words}
use Rattle.nv_ast.specs.Bits.{packed}
use Rattle.nv_ast.specs.declared.tree.LayoutText.{LayoutText}
use Rattle.nv_ast.specs.LayoutView.{layout_tree, field_tree}
use Rattle.nv_ast.specs.Outline.{Layouts, OutlineTree, PartsOutline, no_named_outlines, outline, field_outline, size, total_size, total_named_size, longest, IsSound, AllSound, AllNamedSound}
use Rattle.nv_ast.specs.Types.{RecordTy, no_named_tys, named_ty_and, Form, WordForm, Forms, no_forms, form_and, ◌+++◌, form_of, forms_of, joined_forms, record_forms, unpacked, unpacked_all, unpacked_ty}
use Rattle.nv_layout.proofs.BitLists.{length-packed}
use Rattle.nv_meaning.specs.Values.{NamedValues, no_named_values, named_value_and, ◌++_fields◌, fields_of}
use Rattle.nv_meaning.specs.Values as meaning
use Rattle.nv_meaning.specs.Packing.{value_at, parts_at, alternatives_at, joined_at}
use Rattle.nv_meaning_values.proofs.Unpacking.{FieldItem, outlines_of, joined_of, drop-at, parts_more, alternatives_more, joined_more, total_named_within, longest_within, total_within}
use Rattle.flat_ir.specs.declared.spine.Step.{Step}
use Rattle.nv_flatten_values.specs.inner.Code.{Computes}
use Rattle.nv_flatten_values.specs.inner.Soundness.{AreWords}
use Rattle.nv_flatten_values.specs.inner.Symbols.{Symbol, Word, Record, NamedSymbols, no_named_symbols, named_symbol_and, form, named_forms, operands, named_operands, value_in, named_values_in, Fits, NamedFit, IsOlder, AreOlder}
use Rattle.nv_flatten_values.specs.inner.View.{Named, view, list_named_symbols}
use Rattle.nv_flatten_values.specs.inner.Reads.{◌++_symbols◌, Makes, Reads, ReadsRecord, ReadsField, Unpacks}
use Rattle.nv_flatten_values.proofs.Keeping.{older-later, keeps-operands, keeps-named, keeps-named_fit}
use Rattle.nv_flatten_values.proofs.Computing.{computes-none, computes-then, computes-so}
use Rattle.nv_ast.proofs.Items.{take_item}
use Rattle.nv_base.proofs.WordLemmas.{length-words}
use Rattle.nv_flatten_values.proofs.Listing.{named-none, named-assoc}
use Rattle.nv_flatten_values.proofs.Following.{one-older}

-- ---- the fields of one record and then those of another

pub symbols-append : (xs ys : List Named) → list_named_symbols (xs ++ ys) ≡ list_named_symbols xs ++_symbols list_named_symbols ys
symbols-append [] ys = refl
symbols-append (x ∷ xs) ys = ap (named_symbol_and x.0.now (view x.1)) (symbols-append xs ys)

pub operands-append : (rs ss : NamedSymbols) → named_operands (rs ++_symbols ss) ≡ named_operands rs ++ named_operands ss
operands-append no_named_symbols ss = refl
operands-append (named_symbol_and x r rs) ss = ap (λ l. operands r ++ l) (operands-append rs ss) ∙ sym (append_assoc (operands r) (named_operands rs) (named_operands ss))

values-append : (env : Env) (rs ss : NamedSymbols) → named_values_in env (rs ++_symbols ss) ≡ named_values_in env rs ++_fields named_values_in env ss
values-append env no_named_symbols ss = refl
values-append env (named_symbol_and x r rs) ss = ap (named_value_and x (value_in env r)) (values-append env rs ss)

fit-append : (env : Env) (rs ss : NamedSymbols) → NamedFit env rs → NamedFit env ss → NamedFit env (rs ++_symbols ss)
fit-append env no_named_symbols ss f g = g
fit-append env (named_symbol_and x r rs) ss f g = (f.0, fit-append env rs ss f.1 g)

forms-append : (rs ss : NamedSymbols) (fs gs : Forms) → named_forms rs ≡ unpacked_all fs → named_forms ss ≡ unpacked_all gs → named_forms (rs ++_symbols ss) ≡ unpacked_all (fs +++ gs)
forms-append no_named_symbols ss no_forms gs e h = h
forms-append no_named_symbols ss (form_and y f fs) gs e h = cc
forms-append (named_symbol_and x r rs) ss no_forms gs e h = cc
forms-append (named_symbol_and x r rs) ss (form_and y f fs) gs e h =
    let n : x ≡ y = cc in
    let t : form r ≡ unpacked f = cc in
    let u : named_forms (rs ++_symbols ss) ≡ unpacked_all (fs +++ gs) = forms-append rs ss fs gs (cc) h in
    ap (λ k. named_ty_and k (form r) (named_forms (rs ++_symbols ss))) n ∙ ap (λ k. named_ty_and y k (named_forms (rs ++_symbols ss))) t ∙ ap (named_ty_and y (unpacked f)) u

-- ---- reading
pub reads-none : (fit : Type 0) (low : ℕ) (words : List Atom) (steps : List Step) (fields : NamedSymbols) (values : List ℕ → NamedValues) → ((xs : List ℕ) → values xs ≡ no_named_values) → Reads fit low low words steps steps fields fields no_forms values
reads-none fit low words steps fields values e = record {
  steps = [];
  fields = no_named_symbols;
  added = sym (append-nil steps);
  behind = sym (named-none fields);
  later = omega arith;
  formed = refl;
  older = λ o. All-nil (IsOlder low);
  by = λ q o env small. computes-none low env (λ last. (named_values_in last no_named_symbols ≡ values (atom_words env words)) × NamedFit last no_named_symbols) (sym (e (atom_words env words)), tt);
}

pub reads-weaker : (fit fit' : Type 0) (low high : ℕ) (words : List Atom) (old new : List Step) (before after : NamedSymbols) (shape : Forms) (values : List ℕ → NamedValues) → Reads fit low high words old new before after shape values → (fit' → fit) → Reads fit' low high words old new before after shape values
reads-weaker fit fit' low high words old new before after shape values m p = record { steps = m.steps; fields = m.fields; added = m.added; behind = m.behind; later = m.later; formed = m.formed; older = m.older; by = λ q o env small. m.by (p q) o env small }

-- fields behind others
pub reads-then : (fit one two : Type 0) (low mid high : ℕ) (words : List Atom) (old middle new : List Step) (before between after : NamedSymbols) (fs gs hs : Forms) (us vs ws : List ℕ → NamedValues)
    → Reads one low mid words old middle before between fs us → Reads two mid high words middle new between after gs vs → (fit → one) → (fit → two) → hs ≡ fs +++ gs → ((xs : List ℕ) → length xs ≡ length words → ws xs ≡ us xs ++_fields vs xs)
    → Reads fit low high words old new before after hs ws
reads-then fit one two low mid high words old middle new before between after fs gs hs us vs ws m n p q shaped e =
    let ml : low ≤ mid = m.later in
    let nl : mid ≤ high = n.later in
    record {
      steps = m.steps ++ n.steps;
      fields = m.fields ++_symbols n.fields;
      added = n.added ∙ ap (λ ss. ss ++ n.steps) m.added ∙ append_assoc old m.steps n.steps;
      behind = n.behind ∙ ap (λ ss. ss ++_symbols n.fields) m.behind ∙ named-assoc before m.fields n.fields;
      later = omega arith;
      formed = forms-append m.fields n.fields fs gs m.formed n.formed ∙ ap unpacked_all (sym shaped);
      older = λ o. subst (λ as'. AreOlder high as') (sym (operands-append m.fields n.fields))
          (All-append (IsOlder high) (named_operands m.fields) (named_operands n.fields) (older-later mid high (named_operands m.fields) nl (m.older o)) (n.older (older-later low mid words ml o)));
      by = λ r o env small.
          let H : Env → Type 0 = λ last. (named_values_in last (m.fields ++_symbols n.fields) ≡ ws (atom_words env words)) × NamedFit last (m.fields ++_symbols n.fields) in
          computes-then low mid m.steps n.steps env (λ last. (named_values_in last m.fields ≡ us (atom_words env words)) × NamedFit last m.fields) H ml (m.by (p r) o env small)
          (λ e1 k1 h1.
          let same : atom_words e1 words ≡ atom_words env words = keeps-operands low env e1 words k1 o in
          computes-so mid n.steps e1 (λ last. (named_values_in last n.fields ≡ vs (atom_words e1 words)) × NamedFit last n.fields) H (n.by (q r) (older-later low mid words ml o) e1 (subst (λ xs. AreWords xs) (sym same) small))
          (λ e2 k2 h2. (
            values-append e2 m.fields n.fields
                ∙ ap (λ l. l ++_fields named_values_in e2 n.fields) (keeps-named mid e1 e2 m.fields k2 (m.older o) ∙ h1.0)
                ∙ ap (λ l. us (atom_words env words) ++_fields l) (h2.0 ∙ ap vs same)
                ∙ sym (e (atom_words env words) (length-words env words)),
            fit-append e2 m.fields n.fields (keeps-named_fit mid e1 e2 m.fields k2 (m.older o) h1.1) h2.1,
          )));
    }

-- one word
pub reads-word : (fit fit' : Type 0) (low high : ℕ) (words : List Atom) (old new : List Step) (a : Atom) (f : List ℕ → ℕ) (x : List ℕ) (before after : NamedSymbols) (values : List ℕ → NamedValues)
    → Makes fit' low high words old new a f → (fit → fit') → after ≡ before ++_symbols named_symbol_and x (Word a) no_named_symbols → ((xs : List ℕ) → fit → values xs ≡ named_value_and x (meaning.Word (f xs)) no_named_values)
    → Reads fit low high words old new before after (form_and x WordForm no_forms) values
reads-word fit fit' low high words old new a f x before after values m p added e = record {
  steps = m.steps;
  fields = named_symbol_and x (Word a) no_named_symbols;
  added = m.added;
  behind = added;
  later = m.later;
  formed = refl;
  older = λ o. one-older high a (m.older o);
  by = λ q o env small. computes-so low m.steps env (λ last. (atom_word last a ≡ f (atom_words env words)) × (atom_word last a < 2 ^ 32))
      (λ last. (named_values_in last (named_symbol_and x (Word a) no_named_symbols) ≡ values (atom_words env words)) × NamedFit last (named_symbol_and x (Word a) no_named_symbols))
      (m.by (p q) o env small) (λ last k h. (ap (λ w. named_value_and x (meaning.Word w) no_named_values) h.0 ∙ sym (e (atom_words env words) q), (h.1, tt)));
}

-- a record
pub reads-record : (fit fit' : Type 0) (low high : ℕ) (words : List Atom) (old new : List Step) (x : List ℕ) (inner before after : NamedSymbols) (f : Form) (fs : Forms) (us values : List ℕ → NamedValues)
    → Reads fit' low high words old new no_named_symbols inner fs us → (fit → fit') → after ≡ before ++_symbols named_symbol_and x (Record inner) no_named_symbols → unpacked f ≡ RecordTy (unpacked_all fs) → ((xs : List ℕ) → values xs ≡ named_value_and x (meaning.Record (us xs)) no_named_values)
    → Reads fit low high words old new before after (form_and x f no_forms) values
reads-record fit fit' low high words old new x inner before after f fs us values m p added formed e = record {
  steps = m.steps;
  fields = named_symbol_and x (Record m.fields) no_named_symbols;
  added = m.added;
  behind = added ∙ ap (λ ss. before ++_symbols named_symbol_and x (Record ss) no_named_symbols) m.behind;
  later = m.later;
  formed = ap (λ ts. named_ty_and x (RecordTy ts) no_named_tys) m.formed ∙ ap (λ t. named_ty_and x t no_named_tys) (sym formed);
  older = λ o. subst (λ as'. AreOlder high as') (sym (append-nil (named_operands m.fields))) (m.older o);
  by = λ q o env small. computes-so low m.steps env (λ last. (named_values_in last m.fields ≡ us (atom_words env words)) × NamedFit last m.fields)
      (λ last. (named_values_in last (named_symbol_and x (Record m.fields) no_named_symbols) ≡ values (atom_words env words)) × NamedFit last (named_symbol_and x (Record m.fields) no_named_symbols))
      (m.by (p q) o env small) (λ last k h. (ap (λ vs. named_value_and x (meaning.Record vs) no_named_values) h.0 ∙ sym (e (atom_words env words)), (h.1, tt)));
}

-- ---- the whole record
pub unpacks : (o : OutlineTree) (low high : ℕ) (words : List Atom) (none steps : List Step) (empty inner : NamedSymbols) (s : Symbol)
    → ReadsRecord o 0 low high words none steps empty inner → none ≡ [] → empty ≡ no_named_symbols → s ≡ Record inner → unpacked_ty o ≡ RecordTy (unpacked_all (record_forms o)) → ((bs : List ℕ) → value_at o bs ≡ meaning.Record (fields_of (value_at o bs)))
    → Unpacks o low high words steps s
unpacks o low high words none steps empty inner s m noneis emptyis is formed recorded =
    let ss : s ≡ Record m.fields = is ∙ ap Record (m.behind ∙ ap (λ e. e ++_symbols m.fields) emptyis) in
    let st : m.steps ≡ steps = sym (m.added ∙ ap (λ e. e ++ m.steps) noneis) in
    record {
      value = λ sound count o' env small. subst (λ k. Computes low k env (λ last. (value_in last s ≡ value_at o (packed (atom_words env words))) × Fits last s)) st
          (computes-so low m.steps env (λ last. (named_values_in last m.fields ≡ fields_of (value_at o (packed (atom_words env words)))) × NamedFit last m.fields) (λ last. (value_in last s ≡ value_at o (packed (atom_words env words))) × Fits last s)
          (m.by (sound, (let e : 0 + size o ≤ 32 * length words = omega arith in e)) o' env small)
          (λ last k h. (ap (value_in last) ss ∙ ap (λ vs. meaning.Record vs) h.0 ∙ sym (recorded (packed (atom_words env words))), subst (Fits last) (sym ss) h.1)));
      formed = ap form ss ∙ ap (λ ts. RecordTy ts) m.formed ∙ sym formed;
      older = λ o'. subst (λ r. AreOlder high (operands r)) (sym ss) (m.older o');
    }

-- of an unknown layout
pub unpacks-nothing : (o : OutlineTree) (low : ℕ) (words : List Atom) (steps : List Step) (fields : List Named) (s : Symbol) → o ≡ PartsOutline no_named_outlines → steps ≡ [] → fields ≡ [] → s ≡ Record (list_named_symbols fields) → Unpacks o low low words steps s
unpacks-nothing o low words steps fields s e f g h =
    subst (λ (p : OutlineTree). Unpacks p low low words steps s) (sym e)
    (subst (λ (ss : List Step). Unpacks (PartsOutline no_named_outlines) low low words ss s) (sym f)
    (unpacks (PartsOutline no_named_outlines) low low words [] [] no_named_symbols no_named_symbols s
    (reads-none (IsSound (PartsOutline no_named_outlines) × (0 + 0 ≤ 32 * length words)) low words [] no_named_symbols (λ xs. no_named_values) (λ xs. refl))
    refl refl (h ∙ ap (λ l. Record (list_named_symbols l)) g) refl (λ bs. refl)))

-- ---- turns of loops
forms_of-append : (known : Layouts) (xs ys : List FieldItem) → forms_of (outlines_of known (xs ++ ys)) ≡ forms_of (outlines_of known xs) +++ forms_of (outlines_of known ys)
forms_of-append known [] ys = refl
forms_of-append known (x ∷ xs) ys = ap (form_and x.0 (form_of (field_outline known (field_tree x.1)))) (forms_of-append known xs ys)

forms_more : (known : Layouts) (xs : List FieldItem) (i : ℕ) (p : FieldItem) → i < length xs → p ≡ get_or xs i p → forms_of (outlines_of known (take (i + 1) xs)) ≡ forms_of (outlines_of known (take i xs)) +++ form_and p.0 (form_of (field_outline known (field_tree p.1))) no_forms
forms_more known xs i p h e = ap (λ l. forms_of (outlines_of known l)) (take_item xs i p h e) ∙ forms_of-append known (take i xs) (p ∷ [])

forms-none : (fs : Forms) → fs +++ no_forms ≡ fs
forms-none no_forms = refl
forms-none (form_and x f fs) = ap (form_and x f) (forms-none fs)

forms-assoc : (fs gs hs : Forms) → (fs +++ gs) +++ hs ≡ fs +++ (gs +++ hs)
forms-assoc no_forms gs hs = refl
forms-assoc (form_and x f fs) gs hs = ap (form_and x f) (forms-assoc fs gs hs)

joined_forms-append : (known : Layouts) (xs ys : List LayoutText) → joined_forms (joined_of known (xs ++ ys)) ≡ joined_forms (joined_of known xs) +++ joined_forms (joined_of known ys)
joined_forms-append known [] ys = refl
joined_forms-append known (x ∷ xs) ys = ap (λ l. record_forms (outline known (layout_tree x)) +++ l) (joined_forms-append known xs ys) ∙ sym (forms-assoc (record_forms (outline known (layout_tree x))) (joined_forms (joined_of known xs)) (joined_forms (joined_of known ys)))

joined_forms_more : (known : Layouts) (xs : List LayoutText) (i : ℕ) (l : LayoutText) → i < length xs → l ≡ get_or xs i l → joined_forms (joined_of known (take (i + 1) xs)) ≡ joined_forms (joined_of known (take i xs)) +++ record_forms (outline known (layout_tree l))
joined_forms_more known xs i l h e =
    ap (λ k. joined_forms (joined_of known k)) (take_item xs i l h e) ∙ joined_forms-append known (take i xs) (l ∷ []) ∙ ap (λ k. joined_forms (joined_of known (take i xs)) +++ k) (forms-none (record_forms (outline known (layout_tree l))))

pub sound-named : (known : Layouts) (xs : List FieldItem) (i : ℕ) (p : FieldItem) → i < length xs → p ≡ get_or xs i p → AllNamedSound (outlines_of known xs) → IsSound (field_outline known (field_tree p.1))
sound-named known [] i p h e s = absurd (omega arith)
sound-named known (x ∷ xs) zero p h e s = subst (λ (y : FieldItem). IsSound (field_outline known (field_tree y.1))) (sym e) s.0
sound-named known (x ∷ xs) (suc i) p h e s = sound-named known xs i p (omega arith) e s.1

pub sound-joined : (known : Layouts) (xs : List LayoutText) (i : ℕ) (l : LayoutText) → i < length xs → l ≡ get_or xs i l → AllSound (joined_of known xs) → IsSound (outline known (layout_tree l))
sound-joined known [] i l h e s = absurd (omega arith)
sound-joined known (x ∷ xs) zero l h e s = subst (λ (y : LayoutText). IsSound (outline known (layout_tree y))) (sym e) s.0
sound-joined known (x ∷ xs) (suc i) l h e s = sound-joined known xs i l (omega arith) e s.1

-- the place behind what was read, among the bits of the words
place-at : (xs : List ℕ) (words : List Atom) (at first k most : ℕ) → length xs ≡ length words → 32 * length words ≤ most → at ≡ min (first + k) most → drop at (packed xs) ≡ drop k (drop first (packed xs))
place-at xs words at first k most l h e = drop-at at first k most (packed xs) (let s : length (packed xs) ≤ most = omega (arith, length-packed xs) in s) e

module _ (known : Layouts) where
  abbrev pub PartsFit : List FieldItem → ℕ → List Atom → Type 0
  PartsFit fs first words = AllNamedSound (outlines_of known fs) × (first + total_named_size (outlines_of known fs) ≤ 32 * length words)

  abbrev pub AlternativesFit : List FieldItem → ℕ → List Atom → Type 0
  AlternativesFit fs first words = AllNamedSound (outlines_of known fs) × (first + longest (outlines_of known fs) ≤ 32 * length words)

  abbrev pub JoinedFit : List LayoutText → ℕ → List Atom → Type 0
  JoinedFit ls first words = AllSound (joined_of known ls) × (first + total_size (joined_of known ls) ≤ 32 * length words)

  pub parts-turn : (fs : List FieldItem) (i : ℕ) (p : FieldItem) (first at most : ℕ) (words : List Atom) (low mid high : ℕ) (old middle new : List Step) (before between after : NamedSymbols)
      → i < length fs → p ≡ get_or fs i p → 32 * length words ≤ most → at ≡ min (first + total_named_size (outlines_of known (take i fs))) most
      → Reads (PartsFit fs first words) low mid words old middle before between (forms_of (outlines_of known (take i fs))) (λ xs. parts_at (outlines_of known (take i fs)) (drop first (packed xs)))
      → ReadsField p.0 (field_outline known (field_tree p.1)) at mid high words middle new between after
      → Reads (PartsFit fs first words) low high words old new before after (forms_of (outlines_of known (take (i + 1) fs))) (λ xs. parts_at (outlines_of known (take (i + 1) fs)) (drop first (packed xs)))
  parts-turn fs i p first at most words low mid high old middle new before between after h is few place m n =
      let o : OutlineTree = field_outline known (field_tree p.1) in
      let k : ℕ = total_named_size (outlines_of known (take i fs)) in
      reads-then (PartsFit fs first words) (PartsFit fs first words) (IsSound o × (at + size o ≤ 32 * length words)) low mid high words old middle new before between after
      (forms_of (outlines_of known (take i fs))) (form_and p.0 (form_of o) no_forms) (forms_of (outlines_of known (take (i + 1) fs)))
      (λ xs. parts_at (outlines_of known (take i fs)) (drop first (packed xs))) (λ xs. named_value_and p.0 (value_at o (drop at (packed xs))) no_named_values) (λ xs. parts_at (outlines_of known (take (i + 1) fs)) (drop first (packed xs)))
      m n (λ q. q)
      (λ q. (sound-named known fs i p h is q.0, (let s : at + size o ≤ 32 * length words = omega (arith, q.1, total_named_within known fs i p h is) in s)))
      (forms_more known fs i p h is)
      (λ xs l. parts_more known fs i p (drop first (packed xs)) h is ∙ ap (λ bs. parts_at (outlines_of known (take i fs)) (drop first (packed xs)) ++_fields named_value_and p.0 (value_at o bs) no_named_values) (sym (place-at xs words at first k most l few place)))

  pub alternatives-turn : (fs : List FieldItem) (i : ℕ) (p : FieldItem) (at : ℕ) (words : List Atom) (low mid high : ℕ) (old middle new : List Step) (before between after : NamedSymbols)
      → i < length fs → p ≡ get_or fs i p
      → Reads (AlternativesFit fs at words) low mid words old middle before between (forms_of (outlines_of known (take i fs))) (λ xs. alternatives_at (outlines_of known (take i fs)) (drop at (packed xs)))
      → ReadsField p.0 (field_outline known (field_tree p.1)) at mid high words middle new between after
      → Reads (AlternativesFit fs at words) low high words old new before after (forms_of (outlines_of known (take (i + 1) fs))) (λ xs. alternatives_at (outlines_of known (take (i + 1) fs)) (drop at (packed xs)))
  alternatives-turn fs i p at words low mid high old middle new before between after h is m n =
      let o : OutlineTree = field_outline known (field_tree p.1) in
      reads-then (AlternativesFit fs at words) (AlternativesFit fs at words) (IsSound o × (at + size o ≤ 32 * length words)) low mid high words old middle new before between after
      (forms_of (outlines_of known (take i fs))) (form_and p.0 (form_of o) no_forms) (forms_of (outlines_of known (take (i + 1) fs)))
      (λ xs. alternatives_at (outlines_of known (take i fs)) (drop at (packed xs))) (λ xs. named_value_and p.0 (value_at o (drop at (packed xs))) no_named_values) (λ xs. alternatives_at (outlines_of known (take (i + 1) fs)) (drop at (packed xs)))
      m n (λ q. q)
      (λ q. (sound-named known fs i p h is q.0, (let s : at + size o ≤ 32 * length words = omega (arith, q.1, longest_within known fs i p h is) in s)))
      (forms_more known fs i p h is)
      (λ xs l. alternatives_more known fs i p (drop at (packed xs)) h is)

  pub joined-turn : (ls : List LayoutText) (i : ℕ) (l : LayoutText) (first at most : ℕ) (words : List Atom) (low mid high : ℕ) (old middle new : List Step) (before between after : NamedSymbols)
      → i < length ls → l ≡ get_or ls i l → 32 * length words ≤ most → at ≡ min (first + total_size (joined_of known (take i ls))) most
      → Reads (JoinedFit ls first words) low mid words old middle before between (joined_forms (joined_of known (take i ls))) (λ xs. joined_at (joined_of known (take i ls)) (drop first (packed xs)))
      → ReadsRecord (outline known (layout_tree l)) at mid high words middle new between after
      → Reads (JoinedFit ls first words) low high words old new before after (joined_forms (joined_of known (take (i + 1) ls))) (λ xs. joined_at (joined_of known (take (i + 1) ls)) (drop first (packed xs)))
  joined-turn ls i l first at most words low mid high old middle new before between after h is few place m n =
      let o : OutlineTree = outline known (layout_tree l) in
      let k : ℕ = total_size (joined_of known (take i ls)) in
      reads-then (JoinedFit ls first words) (JoinedFit ls first words) (IsSound o × (at + size o ≤ 32 * length words)) low mid high words old middle new before between after
      (joined_forms (joined_of known (take i ls))) (record_forms o) (joined_forms (joined_of known (take (i + 1) ls)))
      (λ xs. joined_at (joined_of known (take i ls)) (drop first (packed xs))) (λ xs. fields_of (value_at o (drop at (packed xs)))) (λ xs. joined_at (joined_of known (take (i + 1) ls)) (drop first (packed xs)))
      m n (λ q. q)
      (λ q. (sound-joined known ls i l h is q.0, (let s : at + size o ≤ 32 * length words = omega (arith, q.1, total_within known ls i l h is) in s)))
      (joined_forms_more known ls i l h is)
      (λ xs e. joined_more known ls i l (drop first (packed xs)) h is ∙ ap (λ bs. joined_at (joined_of known (take i ls)) (drop first (packed xs)) ++_fields fields_of (value_at o bs)) (sym (place-at xs words at first k most e few place)))

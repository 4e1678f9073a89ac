-- The walk over a layout in the text, as far as a loop has come.
use Rattle.std.proofs.Common.{◌≡◌, ◌∙◌, refl, ap, sym, subst, ℕ, ◌+◌, ◌<◌, Bool, true, false, not, ◌||◌, ◌&&◌, List, [], ◌∷◌, ◌++◌, take, drop, length, get_or, ltb, leb, le-leb, ltb-true, ltb-false, append-nil}
use borrow.Author.Tests.{lt-leb}
use Rattle.std.specs.Borrow.{Bor}
use Rattle.nv_ast.specs.declared.token.Span.{Span}
use Rattle.nv_ast.specs.declared.tree.LayoutText.{LayoutText}
use Rattle.nv_ast.specs.Tree.{FieldTrees, no_fields, field_and}
use Rattle.nv_ast.specs.LayoutView.{layout_tree, field_tree, list_fields, list_layouts}
use Rattle.nv_ast.specs.Outline.{Layouts, outline, outlines, field_outline, field_outlines}
use Rattle.nv_ast.specs.Tests.{where_true, within}
use Rattle.nv_ast.specs.Types.{forms_of}
use Rattle.nv_ast.specs.Faults.{at_span}
use Rattle.nv_ast.specs.LayoutFaults.{layout_faults, layouts_faults, field_faults, fields_faults, field_names}
use Rattle.nv_ast.proofs.Items.{take_item, split_item}
use Rattle.nv_ast.proofs.LayoutRows.{FieldNamed, fields_faults-append, layouts_faults-append}
use Rattle.nv_ast.proofs.Faultless.{no_kinds}
use Rattle.nv_types_table.specs.declared.error.TypeError.{TypeError}
use Rattle.nv_types_table.specs.declared.shapes.Shape.{Shape}
use Rattle.nv_types_table.specs.declared.shapes.Member.{Member}
use Rattle.nv_types_table.specs.inner.Faulty.{IsFirstOf}
use Rattle.nv_types_table.specs.inner.Named.{named}
use Rattle.nv_types_table.specs.inner.Store.{Store, Extends, form_names}
use Rattle.nv_types_table.specs.inner.Layouts.{IsShape, IsMember, AreShapes, AreMembers}
use Rattle.nv_types_table.proofs.Entries.{named-append}
use Rattle.nv_types_table.proofs.Firsts.{first_kind}
use Rattle.nv_types_scopes.proofs.Shaping.{members_stay, shapes_stay}

-- ---- vectors in the text
-- ---- kinds at a span
pub at_none : (s : Span) (kinds : List ℕ) → kinds ≡ [] → at_span s kinds ≡ []
at_none s kinds e = ap (at_span s) e

pub where_none : (s : Span) (b : Bool) (kind : ℕ) → at_span s (where_true b kind) ≡ [] → b ≡ false
where_none s false kind e = refl
where_none s true kind e = cc

-- the first fault of a part is that of the whole, where nothing is before it
pub first_within : (s : Span) (all before here behind : List ℕ) (e : TypeError) → all ≡ before ++ (here ++ behind) → before ≡ [] → IsFirstOf (at_span s here) e → IsFirstOf (at_span s all) e
first_within s all before here behind e split none h =
    let eq : all ≡ here ++ behind = split ∙ ap (λ l. l ++ (here ++ behind)) none in
    subst (λ l. IsFirstOf (at_span s l) e) (sym eq) (first_kind s here behind e h)

-- ---- fields in order
pub fields_faults_more : (s : Span) (k : Layouts) (xs : List FieldNamed) (i : ℕ) (p : FieldNamed) → i < length xs → p ≡ get_or xs i p → fields_faults k (list_fields (take i xs)) ≡ [] → at_span s (field_faults k (field_tree p.1)) ≡ [] → fields_faults k (list_fields (take (i + 1) xs)) ≡ []
fields_faults_more s k xs i p h e none here =
    ap (λ l. fields_faults k (list_fields l)) (take_item xs i p h e) ∙ fields_faults-append k (take i xs) (p ∷ []) ∙ ap (λ l. l ++ (field_faults k (field_tree p.1) ++ [])) none ∙ append-nil (field_faults k (field_tree p.1)) ∙ no_kinds s (field_faults k (field_tree p.1)) here

pub fields_first : (s : Span) (k : Layouts) (xs : List FieldNamed) (i : ℕ) (p : FieldNamed) (x : TypeError) → i < length xs → p ≡ get_or xs i p → fields_faults k (list_fields (take i xs)) ≡ [] → IsFirstOf (at_span s (field_faults k (field_tree p.1))) x → IsFirstOf (at_span s (fields_faults k (list_fields xs))) x
fields_first s k xs i p x h e none here =
    first_within s (fields_faults k (list_fields xs)) (fields_faults k (list_fields (take i xs))) (field_faults k (field_tree p.1)) (fields_faults k (list_fields (drop (i + 1) xs))) x
    (ap (λ l. fields_faults k (list_fields l)) (split_item xs i p h e) ∙ fields_faults-append k (take i xs) (p ∷ drop (i + 1) xs)) none here

members-append : (s : Store) (k : Layouts) (xs : List FieldNamed) (p : FieldNamed) (ms : List (List ℕ × Member)) (e : List ℕ × Member) → AreMembers s ms (field_outlines k (list_fields xs)) → e.0 ≡ p.0 → IsMember s e.1 (field_outline k (field_tree p.1))
    → AreMembers s (ms ++ e ∷ []) (field_outlines k (list_fields (xs ++ p ∷ [])))
members-append s k [] p [] e h n m = (n, m, tt)
members-append s k [] p (y ∷ ms) e h n m = absurd h
members-append s k (x ∷ xs) p [] e h n m = absurd h
members-append s k (x ∷ xs) p (y ∷ ms) e h n m = (h.0, h.1, members-append s k xs p ms e h.2 n m)

pub members_more : (a b : Store) (k : Layouts) (xs : List FieldNamed) (i : ℕ) (p : FieldNamed) (ms new : List (Bor (List ℕ) × Member)) (y : Bor (List ℕ)) (m : Member) → i < length xs → p ≡ get_or xs i p → Extends a b
    → AreMembers a (named ms) (field_outlines k (list_fields (take i xs))) → new ≡ ms ++ (y, m) ∷ [] → y.now ≡ p.0 → IsMember b m (field_outline k (field_tree p.1)) → AreMembers b (named new) (field_outlines k (list_fields (take (i + 1) xs)))
members_more a b k xs i p ms new y m h e g before after name here =
    let old = members_stay a b g (named ms) (field_outlines k (list_fields (take i xs))) before in
    let all = members-append b k (take i xs) p (named ms) (y.now, m) old name here in
    let list : named new ≡ named ms ++ (y.now, m) ∷ [] = ap named after ∙ named-append ms ((y, m) ∷ []) in
    subst (λ (l : List FieldNamed). AreMembers b (named new) (field_outlines k (list_fields l))) (sym (take_item xs i p h e))
    (subst (λ (l : List (List ℕ × Member)). AreMembers b l (field_outlines k (list_fields (take i xs ++ p ∷ [])))) (sym list) all)

-- ---- layouts in order
pub layouts_faults_more : (s : Span) (k : Layouts) (xs : List LayoutText) (i : ℕ) (p : LayoutText) → i < length xs → p ≡ get_or xs i p → layouts_faults k (list_layouts (take i xs)) ≡ [] → at_span s (layout_faults k (layout_tree p)) ≡ [] → layouts_faults k (list_layouts (take (i + 1) xs)) ≡ []
layouts_faults_more s k xs i p h e none here =
    ap (λ l. layouts_faults k (list_layouts l)) (take_item xs i p h e) ∙ layouts_faults-append k (take i xs) (p ∷ []) ∙ ap (λ l. l ++ (layout_faults k (layout_tree p) ++ [])) none ∙ append-nil (layout_faults k (layout_tree p)) ∙ no_kinds s (layout_faults k (layout_tree p)) here

pub layouts_first : (s : Span) (k : Layouts) (xs : List LayoutText) (i : ℕ) (p : LayoutText) (x : TypeError) → i < length xs → p ≡ get_or xs i p → layouts_faults k (list_layouts (take i xs)) ≡ [] → IsFirstOf (at_span s (layout_faults k (layout_tree p))) x → IsFirstOf (at_span s (layouts_faults k (list_layouts xs))) x
layouts_first s k xs i p x h e none here =
    first_within s (layouts_faults k (list_layouts xs)) (layouts_faults k (list_layouts (take i xs))) (layout_faults k (layout_tree p)) (layouts_faults k (list_layouts (drop (i + 1) xs))) x
    (ap (λ l. layouts_faults k (list_layouts l)) (split_item xs i p h e) ∙ layouts_faults-append k (take i xs) (p ∷ drop (i + 1) xs)) none here

shapes-append : (s : Store) (k : Layouts) (xs : List LayoutText) (p : LayoutText) (ms : List Shape) (e : Shape) → AreShapes s ms (outlines k (list_layouts xs)) → IsShape s e (outline k (layout_tree p)) → AreShapes s (ms ++ e ∷ []) (outlines k (list_layouts (xs ++ p ∷ [])))
shapes-append s k [] p [] e h m = (m, tt)
shapes-append s k [] p (y ∷ ms) e h m = absurd h
shapes-append s k (x ∷ xs) p [] e h m = absurd h
shapes-append s k (x ∷ xs) p (y ∷ ms) e h m = (h.0, shapes-append s k xs p ms e h.1 m)

pub shapes_more : (a b : Store) (k : Layouts) (xs : List LayoutText) (i : ℕ) (p : LayoutText) (ms new : List Shape) (m : Shape) → i < length xs → p ≡ get_or xs i p → Extends a b
    → AreShapes a ms (outlines k (list_layouts (take i xs))) → new ≡ ms ++ m ∷ [] → IsShape b m (outline k (layout_tree p)) → AreShapes b new (outlines k (list_layouts (take (i + 1) xs)))
shapes_more a b k xs i p ms new m h e g before after here =
    let all = shapes-append b k (take i xs) p ms m (shapes_stay a b g ms (outlines k (list_layouts (take i xs))) before) here in
    subst (λ (l : List LayoutText). AreShapes b new (outlines k (list_layouts l))) (sym (take_item xs i p h e))
    (subst (λ (l : List Shape). AreShapes b l (outlines k (list_layouts (take i xs ++ p ∷ [])))) (sym after) all)

-- ---- names and sizes are those of the text
pub text_names : (k : Layouts) (fs : FieldTrees) → form_names (forms_of (field_outlines k fs)) ≡ field_names fs
text_names k no_fields = refl
text_names k (field_and x f fs) = ap (λ l. x ∷ l) (text_names k fs)

-- ---- numbers in a range
pub out_of_range : (least greatest n : ℕ) → (ltb n least || ltb greatest n) ≡ not (within least greatest n)
out_of_range least greatest n = ap (λ b. b || ltb greatest n) (turned n least) ∙ ap (λ b. not (leb least n) || b) (turned greatest n) ∙ not_both (leb least n) (leb n greatest)
  where
    turned : (a b : ℕ) → ltb a b ≡ not (leb b a)
    turned a b = by (ltb a b) refl
      where
        by : (t : Bool) → ltb a b ≡ t → ltb a b ≡ not (leb b a)
        by true q = q ∙ sym (ap not (lt-leb b a (ltb-true a b q)))
        by false q = q ∙ sym (ap not (le-leb b a (ltb-false a b q)))

    not_both : (a b : Bool) → (not a || not b) ≡ not (a && b)
    not_both true b = refl
    not_both false b = refl

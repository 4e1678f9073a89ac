-- Records out of a list of bits: what is said of a list of fields as far as a loop has come.
use Rattle.std.proofs.lemmas.Bool.{cases_lt}
use Rattle.std.proofs.Common.{inl, inr, ◌≡◌, ◌∙◌, refl, ap, sym, ℕ, zero, suc, ◌+◌, ◌<◌, ◌≤◌, min, max, false, List, [], ◌∷◌, ◌++◌, take, drop, length, get_or, arith}
use Rattle.std.proofs.lemmas.List.{drop_all, drop-drop}
use Rattle.nv_ast.specs.declared.tree.FieldText.{FieldText}
use Rattle.nv_ast.specs.declared.tree.LayoutText.{LayoutText}
use Rattle.nv_ast.specs.Tree.{LayoutTree, NamedLayout, GapLayout, PartsLayout, JoinedLayout}
use Rattle.nv_ast.specs.LayoutView.{layout_tree, field_tree, list_fields, list_layouts}
use Rattle.nv_ast.specs.Outline.{Layouts, OutlineTrees, NamedOutlines, outline, outlines, field_outline, field_outlines, size, total_size, total_named_size, longest, outline_height, highest_outline, highest_named_outline}
use Rattle.nv_meaning_values.specs.Values.{NamedValues, no_named_values, named_value_and, ◌++_fields◌, fields_of}
use Rattle.nv_meaning_values.specs.inner.Tables.{is_alias}
use Rattle.nv_meaning_values.specs.Packing.{value_at, parts_at, alternatives_at, joined_at}
use Rattle.nv_meaning_values.specs.inner.View.{Named, view, list_named_values}
use Rattle.nv_ast.proofs.Items.{take_item, split_item}

abbrev pub FieldItem : Type 0
FieldItem = List ℕ × FieldText

-- a name is one above what it names
abbrev pub alias_rank : LayoutTree → ℕ
alias_rank (NamedLayout x) = 1
alias_rank (GapLayout n) = 0
alias_rank (PartsLayout fs) = 0
alias_rank (JoinedLayout ls) = 0

pub alias-low : (l : LayoutTree) → alias_rank l ≤ 1
alias-low (NamedLayout x) = omega arith
alias-low (GapLayout n) = omega arith
alias-low (PartsLayout fs) = omega arith
alias-low (JoinedLayout ls) = omega arith

pub alias-none : (l : LayoutTree) → is_alias l ≡ false → alias_rank l ≡ 0
alias-none (NamedLayout x) h = cc
alias-none (GapLayout n) h = refl
alias-none (PartsLayout fs) h = refl
alias-none (JoinedLayout ls) h = refl

-- ---- the fields of records
pub fields-none : (vs : NamedValues) → vs ++_fields no_named_values ≡ vs
fields-none no_named_values = refl
fields-none (named_value_and x v vs) = ap (named_value_and x v) (fields-none vs)

pub fields-assoc : (us vs ws : NamedValues) → (us ++_fields vs) ++_fields ws ≡ us ++_fields (vs ++_fields ws)
fields-assoc no_named_values vs ws = refl
fields-assoc (named_value_and x v us) vs ws = ap (named_value_and x v) (fields-assoc us vs ws)

pub fields-append : (xs ys : List Named) → list_named_values (xs ++ ys) ≡ list_named_values xs ++_fields list_named_values ys
fields-append [] ys = refl
fields-append (x ∷ xs) ys = ap (named_value_and x.0.now (view x.1)) (fields-append xs ys)

-- a turn adds b to what was added before
pub fields-step : (new middle base a b whole : NamedValues) → new ≡ middle ++_fields b → middle ≡ base ++_fields a → whole ≡ a ++_fields b → new ≡ base ++_fields whole
fields-step new middle base a b whole e f g = e ∙ ap (λ l. l ++_fields b) f ∙ fields-assoc base a b ∙ ap (λ l. base ++_fields l) (sym g)

-- ---- places
pub drop-nothing : {A : Type 0} (n : ℕ) → drop {A = A} n [] ≡ []
drop-nothing zero = refl
drop-nothing (suc n) = refl

-- a place that stands still after the end
pub drop-capped : (k most : ℕ) (bs : List ℕ) → length bs ≤ most → drop (min k most) bs ≡ drop k bs
drop-capped k most bs h = elim (cases_lt k most) [
  | inl below ↦ (let e : min k most ≡ k = omega arith in ap (λ n. drop n bs) e)
  | inr past ↦ (let e : min k most ≡ most = omega arith in ap (λ n. drop n bs) e ∙ drop_all most bs h ∙ sym (drop_all k bs (omega arith)))
]

-- the bits after a place that stands still, and behind k more
pub drop-at : (at first k most : ℕ) (bs : List ℕ) → length bs ≤ most → at ≡ min (first + k) most → drop at bs ≡ drop k (drop first bs)
drop-at at first k most bs h e = ap (λ n. drop n bs) e ∙ drop-capped (first + k) most bs h ∙ sym (drop-drop k first bs)

-- ---- fields in order
module _ (known : Layouts) where
  abbrev pub outlines_of : List FieldItem → NamedOutlines
  outlines_of fs = field_outlines known (list_fields fs)

  total-append : (xs ys : List FieldItem) → total_named_size (outlines_of (xs ++ ys)) ≡ total_named_size (outlines_of xs) + total_named_size (outlines_of ys)
  total-append [] ys = omega arith
  total-append (x ∷ xs) ys = omega (arith, total-append xs ys)

  pub total_named_more : (xs : List FieldItem) (i : ℕ) (p : FieldItem) → i < length xs → p ≡ get_or xs i p → total_named_size (outlines_of (take (i + 1) xs)) ≡ total_named_size (outlines_of (take i xs)) + size (field_outline known (field_tree p.1))
  total_named_more xs i p h e = ap (λ l. total_named_size (outlines_of l)) (take_item xs i p h e) ∙ total-append (take i xs) (p ∷ []) ∙ omega arith

  pub total_named_within : (xs : List FieldItem) (i : ℕ) (p : FieldItem) → i < length xs → p ≡ get_or xs i p → total_named_size (outlines_of (take i xs)) + size (field_outline known (field_tree p.1)) ≤ total_named_size (outlines_of xs)
  total_named_within xs i p h e = omega (arith, ap (λ l. total_named_size (outlines_of l)) (split_item xs i p h e), total-append (take i xs) (p ∷ drop (i + 1) xs))

  longest-append : (xs ys : List FieldItem) → longest (outlines_of (xs ++ ys)) ≡ max (longest (outlines_of xs)) (longest (outlines_of ys))
  longest-append [] ys = omega arith
  longest-append (x ∷ xs) ys = omega (arith, longest-append xs ys)

  pub longest_more : (xs : List FieldItem) (i : ℕ) (p : FieldItem) → i < length xs → p ≡ get_or xs i p → longest (outlines_of (take (i + 1) xs)) ≡ max (longest (outlines_of (take i xs))) (size (field_outline known (field_tree p.1)))
  longest_more xs i p h e = ap (λ l. longest (outlines_of l)) (take_item xs i p h e) ∙ longest-append (take i xs) (p ∷ []) ∙ omega arith

  pub longest_within : (xs : List FieldItem) (i : ℕ) (p : FieldItem) → i < length xs → p ≡ get_or xs i p → size (field_outline known (field_tree p.1)) ≤ longest (outlines_of xs)
  longest_within xs i p h e = omega (arith, ap (λ l. longest (outlines_of l)) (split_item xs i p h e), longest-append (take i xs) (p ∷ drop (i + 1) xs))

  parts-append : (xs ys : List FieldItem) (bs : List ℕ) → parts_at (outlines_of (xs ++ ys)) bs ≡ parts_at (outlines_of xs) bs ++_fields parts_at (outlines_of ys) (drop (total_named_size (outlines_of xs)) bs)
  parts-append [] ys bs = refl
  parts-append (x ∷ xs) ys bs =
      ap (named_value_and x.0 (value_at (field_outline known (field_tree x.1)) bs)) (parts-append xs ys (drop (size (field_outline known (field_tree x.1))) bs)
      ∙ ap (λ l. parts_at (outlines_of xs) (drop (size (field_outline known (field_tree x.1))) bs) ++_fields parts_at (outlines_of ys) l) (drop-drop (total_named_size (outlines_of xs)) (size (field_outline known (field_tree x.1))) bs))

  pub parts_more : (xs : List FieldItem) (i : ℕ) (p : FieldItem) (bs : List ℕ) → i < length xs → p ≡ get_or xs i p → parts_at (outlines_of (take (i + 1) xs)) bs ≡ parts_at (outlines_of (take i xs)) bs ++_fields named_value_and p.0 (value_at (field_outline known (field_tree p.1)) (drop (total_named_size (outlines_of (take i xs))) bs)) no_named_values
  parts_more xs i p bs h e = ap (λ l. parts_at (outlines_of l) bs) (take_item xs i p h e) ∙ parts-append (take i xs) (p ∷ []) bs

  alternatives-append : (xs ys : List FieldItem) (bs : List ℕ) → alternatives_at (outlines_of (xs ++ ys)) bs ≡ alternatives_at (outlines_of xs) bs ++_fields alternatives_at (outlines_of ys) bs
  alternatives-append [] ys bs = refl
  alternatives-append (x ∷ xs) ys bs = ap (named_value_and x.0 (value_at (field_outline known (field_tree x.1)) bs)) (alternatives-append xs ys bs)

  pub alternatives_more : (xs : List FieldItem) (i : ℕ) (p : FieldItem) (bs : List ℕ) → i < length xs → p ≡ get_or xs i p → alternatives_at (outlines_of (take (i + 1) xs)) bs ≡ alternatives_at (outlines_of (take i xs)) bs ++_fields named_value_and p.0 (value_at (field_outline known (field_tree p.1)) bs) no_named_values
  alternatives_more xs i p bs h e = ap (λ l. alternatives_at (outlines_of l) bs) (take_item xs i p h e) ∙ alternatives-append (take i xs) (p ∷ []) bs

  highest-append : (xs ys : List FieldItem) → highest_named_outline (outlines_of (xs ++ ys)) ≡ max (highest_named_outline (outlines_of xs)) (highest_named_outline (outlines_of ys))
  highest-append [] ys = omega arith
  highest-append (x ∷ xs) ys = omega (arith, highest-append xs ys)

  pub highest_named_within : (xs : List FieldItem) (i : ℕ) (p : FieldItem) → i < length xs → p ≡ get_or xs i p → outline_height (field_outline known (field_tree p.1)) ≤ highest_named_outline (outlines_of xs)
  highest_named_within xs i p h e = omega (arith, ap (λ l. highest_named_outline (outlines_of l)) (split_item xs i p h e), highest-append (take i xs) (p ∷ drop (i + 1) xs))

  -- ---- layouts one after another
  abbrev pub joined_of : List LayoutText → OutlineTrees
  joined_of ls = outlines known (list_layouts ls)

  joined_size-append : (xs ys : List LayoutText) → total_size (joined_of (xs ++ ys)) ≡ total_size (joined_of xs) + total_size (joined_of ys)
  joined_size-append [] ys = omega arith
  joined_size-append (x ∷ xs) ys = omega (arith, joined_size-append xs ys)

  pub total_more : (xs : List LayoutText) (i : ℕ) (l : LayoutText) → i < length xs → l ≡ get_or xs i l → total_size (joined_of (take (i + 1) xs)) ≡ total_size (joined_of (take i xs)) + size (outline known (layout_tree l))
  total_more xs i l h e = ap (λ k. total_size (joined_of k)) (take_item xs i l h e) ∙ joined_size-append (take i xs) (l ∷ []) ∙ omega arith

  pub total_within : (xs : List LayoutText) (i : ℕ) (l : LayoutText) → i < length xs → l ≡ get_or xs i l → total_size (joined_of (take i xs)) + size (outline known (layout_tree l)) ≤ total_size (joined_of xs)
  total_within xs i l h e = omega (arith, ap (λ k. total_size (joined_of k)) (split_item xs i l h e), joined_size-append (take i xs) (l ∷ drop (i + 1) xs))

  joined-append : (xs ys : List LayoutText) (bs : List ℕ) → joined_at (joined_of (xs ++ ys)) bs ≡ joined_at (joined_of xs) bs ++_fields joined_at (joined_of ys) (drop (total_size (joined_of xs)) bs)
  joined-append [] ys bs = refl
  joined-append (x ∷ xs) ys bs =
      let o = outline known (layout_tree x) in
      ap (λ l. fields_of (value_at o bs) ++_fields l) (joined-append xs ys (drop (size o) bs) ∙ ap (λ l. joined_at (joined_of xs) (drop (size o) bs) ++_fields joined_at (joined_of ys) l) (drop-drop (total_size (joined_of xs)) (size o) bs))
      ∙ sym (fields-assoc (fields_of (value_at o bs)) (joined_at (joined_of xs) (drop (size o) bs)) (joined_at (joined_of ys) (drop (size o + total_size (joined_of xs)) bs)))

  pub joined_more : (xs : List LayoutText) (i : ℕ) (l : LayoutText) (bs : List ℕ) → i < length xs → l ≡ get_or xs i l → joined_at (joined_of (take (i + 1) xs)) bs ≡ joined_at (joined_of (take i xs)) bs ++_fields fields_of (value_at (outline known (layout_tree l)) (drop (total_size (joined_of (take i xs))) bs))
  joined_more xs i l bs h e = ap (λ k. joined_at (joined_of k) bs) (take_item xs i l h e) ∙ joined-append (take i xs) (l ∷ []) bs ∙ ap (λ k. joined_at (joined_of (take i xs)) bs ++_fields k) (fields-none (fields_of (value_at (outline known (layout_tree l)) (drop (total_size (joined_of (take i xs))) bs))))

  highest_joined-append : (xs ys : List LayoutText) → highest_outline (joined_of (xs ++ ys)) ≡ max (highest_outline (joined_of xs)) (highest_outline (joined_of ys))
  highest_joined-append [] ys = omega arith
  highest_joined-append (x ∷ xs) ys = omega (arith, highest_joined-append xs ys)

  pub highest_within : (xs : List LayoutText) (i : ℕ) (l : LayoutText) → i < length xs → l ≡ get_or xs i l → outline_height (outline known (layout_tree l)) ≤ highest_outline (joined_of xs)
  highest_within xs i l h e = omega (arith, ap (λ k. highest_outline (joined_of k)) (split_item xs i l h e), highest_joined-append (take i xs) (l ∷ drop (i + 1) xs))

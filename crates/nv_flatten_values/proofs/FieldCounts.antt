-- How many bit fields outlines have, some behind others.
use Rattle.std.proofs.Common.{◌≡◌, refl, ap, ℕ, ◌+◌, ◌<◌, List, [], ◌∷◌, ◌++◌, take, length, length-append, get_or, arith}
use Rattle.nv_ast.specs.declared.tree.LayoutText.{LayoutText}
use Rattle.nv_ast.specs.LayoutView.{layout_tree, field_tree}
use Rattle.nv_ast.specs.Outline.{Layouts, OutlineTree, BitsOutline, GapOutline, PartsOutline, OverlayOutline, JoinedOutline, OutlineTrees, no_outlines, outline_and, NamedOutlines, no_named_outlines, named_outline_and, outline, field_outline, size, bit_fields, part_fields, alternative_fields, joined_fields}
use Rattle.nv_meaning_values.proofs.Unpacking.{FieldItem, outlines_of, joined_of}
use Rattle.nv_ast.proofs.Items.{take_item}

-- ---- wherever they begin
mutual
  pub fields-anywhere : (i j : ℕ) (o : OutlineTree) → length (bit_fields i o) ≡ length (bit_fields j o)
  fields-anywhere i j (BitsOutline n) = refl
  fields-anywhere i j (GapOutline n) = refl
  fields-anywhere i j (PartsOutline fs) = parts-anywhere i j fs
  fields-anywhere i j (OverlayOutline fs) = alternatives-anywhere i j fs
  fields-anywhere i j (JoinedOutline os) = joined-anywhere i j os

  parts-anywhere : (i j : ℕ) (os : NamedOutlines) → length (part_fields i os) ≡ length (part_fields j os)
  parts-anywhere i j no_named_outlines = refl
  parts-anywhere i j (named_outline_and x o os) =
      omega (arith, length-append (bit_fields i o) (part_fields (i + size o) os), length-append (bit_fields j o) (part_fields (j + size o) os), fields-anywhere i j o, parts-anywhere (i + size o) (j + size o) os)

  alternatives-anywhere : (i j : ℕ) (os : NamedOutlines) → length (alternative_fields i os) ≡ length (alternative_fields j os)
  alternatives-anywhere i j no_named_outlines = refl
  alternatives-anywhere i j (named_outline_and x o os) =
      omega (arith, length-append (bit_fields i o) (alternative_fields i os), length-append (bit_fields j o) (alternative_fields j os), fields-anywhere i j o, alternatives-anywhere i j os)

  joined-anywhere : (i j : ℕ) (os : OutlineTrees) → length (joined_fields i os) ≡ length (joined_fields j os)
  joined-anywhere i j no_outlines = refl
  joined-anywhere i j (outline_and o os) =
      omega (arith, length-append (bit_fields i o) (joined_fields (i + size o) os), length-append (bit_fields j o) (joined_fields (j + size o) os), fields-anywhere i j o, joined-anywhere (i + size o) (j + size o) os)

-- ---- one more
module _ (known : Layouts) where
  parts-append : (i : ℕ) (xs ys : List FieldItem) → length (part_fields i (outlines_of known (xs ++ ys))) ≡ length (part_fields i (outlines_of known xs)) + length (part_fields 0 (outlines_of known ys))
  parts-append i [] ys = omega (arith, parts-anywhere i 0 (outlines_of known ys))
  parts-append i (x ∷ xs) ys =
      let o = field_outline known (field_tree x.1) in
      omega (arith, length-append (bit_fields i o) (part_fields (i + size o) (outlines_of known (xs ++ ys))), length-append (bit_fields i o) (part_fields (i + size o) (outlines_of known xs)), parts-append (i + size o) xs ys)

  pub parts-count : (xs : List FieldItem) (i : ℕ) (p : FieldItem) → i < length xs → p ≡ get_or xs i p
      → length (part_fields 0 (outlines_of known (take i xs))) + length (bit_fields 0 (field_outline known (field_tree p.1))) ≡ length (part_fields 0 (outlines_of known (take (i + 1) xs)))
  parts-count xs i p h e =
      let o = field_outline known (field_tree p.1) in
      omega (arith, ap (λ l. length (part_fields 0 (outlines_of known l))) (take_item xs i p h e), parts-append 0 (take i xs) (p ∷ []), length-append (bit_fields 0 o) [])

  alternatives-append : (xs ys : List FieldItem) → length (alternative_fields 0 (outlines_of known (xs ++ ys))) ≡ length (alternative_fields 0 (outlines_of known xs)) + length (alternative_fields 0 (outlines_of known ys))
  alternatives-append [] ys = omega arith
  alternatives-append (x ∷ xs) ys =
      let o = field_outline known (field_tree x.1) in
      omega (arith, length-append (bit_fields 0 o) (alternative_fields 0 (outlines_of known (xs ++ ys))), length-append (bit_fields 0 o) (alternative_fields 0 (outlines_of known xs)), alternatives-append xs ys)

  pub alternatives-count : (xs : List FieldItem) (i : ℕ) (p : FieldItem) → i < length xs → p ≡ get_or xs i p
      → length (alternative_fields 0 (outlines_of known (take i xs))) + length (bit_fields 0 (field_outline known (field_tree p.1))) ≡ length (alternative_fields 0 (outlines_of known (take (i + 1) xs)))
  alternatives-count xs i p h e =
      let o = field_outline known (field_tree p.1) in
      omega (arith, ap (λ l. length (alternative_fields 0 (outlines_of known l))) (take_item xs i p h e), alternatives-append (take i xs) (p ∷ []), length-append (bit_fields 0 o) [])

  joined-append : (i : ℕ) (xs ys : List LayoutText) → length (joined_fields i (joined_of known (xs ++ ys))) ≡ length (joined_fields i (joined_of known xs)) + length (joined_fields 0 (joined_of known ys))
  joined-append i [] ys = omega (arith, joined-anywhere i 0 (joined_of known ys))
  joined-append i (x ∷ xs) ys =
      let o = outline known (layout_tree x) in
      omega (arith, length-append (bit_fields i o) (joined_fields (i + size o) (joined_of known (xs ++ ys))), length-append (bit_fields i o) (joined_fields (i + size o) (joined_of known xs)), joined-append (i + size o) xs ys)

  pub joined-count : (xs : List LayoutText) (i : ℕ) (l : LayoutText) → i < length xs → l ≡ get_or xs i l
      → length (joined_fields 0 (joined_of known (take i xs))) + length (bit_fields 0 (outline known (layout_tree l))) ≡ length (joined_fields 0 (joined_of known (take (i + 1) xs)))
  joined-count xs i l h e =
      let o = outline known (layout_tree l) in
      omega (arith, ap (λ k. length (joined_fields 0 (joined_of known k))) (take_item xs i l h e), joined-append 0 (take i xs) (l ∷ []), length-append (bit_fields 0 o) [])

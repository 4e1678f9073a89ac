-- Outlines in lists: what is said of a list as far as a loop has come.
use Rattle.std.proofs.Common.{◌≡◌, ◌∙◌, refl, ap, sym, ℕ, suc, ◌+◌, ◌<◌, ◌≤◌, max, List, [], ◌∷◌, ◌++◌, take, drop, length, get_or, arith, append_assoc, add_assoc, add-zero, append-nil}
use Rattle.std.proofs.lemmas.List.{take_more}
use Rattle.nv_layout.specs.declared.outline.Outline.{Outline}
use Rattle.nv_ast.specs.Outline.{OutlineTree, BitsOutline, GapOutline, PartsOutline, OverlayOutline, JoinedOutline, OutlineTrees, no_outlines, outline_and, NamedOutlines, no_named_outlines, named_outline_and, size, total_named_size, longest, total_size, bit_fields, part_fields, alternative_fields, joined_fields, outline_height, highest_outline, highest_named_outline, named_list, record_of, records_of}
use Rattle.nv_ast.specs.Tests.{names_of}
use Rattle.nv_ast.proofs.Items.{take_item, split_item}
use Rattle.nv_layout.specs.OutlineView.{outline_tree, list_outlines, list_named_outlines, layouts_of}

abbrev pub Named : Type 0
Named = List ℕ × Outline

-- ---- sizes
total_named-append : (xs ys : List Named) → total_named_size (list_named_outlines (xs ++ ys)) ≡ total_named_size (list_named_outlines xs) + total_named_size (list_named_outlines ys)
total_named-append [] ys = omega arith
total_named-append (x ∷ xs) ys = omega (arith, total_named-append xs ys)

pub total_named_more : (xs : List Named) (i : ℕ) (p : Named) → i < length xs → p ≡ get_or xs i p → total_named_size (list_named_outlines (take (i + 1) xs)) ≡ total_named_size (list_named_outlines (take i xs)) + size (outline_tree p.1)
total_named_more xs i p h e = ap (λ l. total_named_size (list_named_outlines l)) (take_item xs i p h e) ∙ total_named-append (take i xs) (p ∷ []) ∙ omega arith

pub total_named_within : (xs : List Named) (i : ℕ) (p : Named) → i < length xs → p ≡ get_or xs i p → total_named_size (list_named_outlines (take i xs)) + size (outline_tree p.1) ≤ total_named_size (list_named_outlines xs)
total_named_within xs i p h e = omega (arith, ap (λ l. total_named_size (list_named_outlines l)) (split_item xs i p h e), total_named-append (take i xs) (p ∷ drop (i + 1) xs))

longest-append : (xs ys : List Named) → longest (list_named_outlines (xs ++ ys)) ≡ max (longest (list_named_outlines xs)) (longest (list_named_outlines ys))
longest-append [] ys = omega arith
longest-append (x ∷ xs) ys = omega (arith, longest-append xs ys)

pub longest_more : (xs : List Named) (i : ℕ) (p : Named) → i < length xs → p ≡ get_or xs i p → longest (list_named_outlines (take (i + 1) xs)) ≡ max (longest (list_named_outlines (take i xs))) (size (outline_tree p.1))
longest_more xs i p h e = ap (λ l. longest (list_named_outlines l)) (take_item xs i p h e) ∙ longest-append (take i xs) (p ∷ []) ∙ omega arith

pub longest_within : (xs : List Named) (i : ℕ) (p : Named) → i < length xs → p ≡ get_or xs i p → size (outline_tree p.1) ≤ longest (list_named_outlines xs)
longest_within xs i p h e = omega (arith, ap (λ l. longest (list_named_outlines l)) (split_item xs i p h e), longest-append (take i xs) (p ∷ drop (i + 1) xs))

total-append : (xs ys : List Outline) → total_size (list_outlines (xs ++ ys)) ≡ total_size (list_outlines xs) + total_size (list_outlines ys)
total-append [] ys = omega arith
total-append (x ∷ xs) ys = omega (arith, total-append xs ys)

pub total_more : (xs : List Outline) (i : ℕ) (d : Outline) → i < length xs → total_size (list_outlines (take (i + 1) xs)) ≡ total_size (list_outlines (take i xs)) + size (outline_tree (get_or xs i d))
total_more xs i d h = ap (λ l. total_size (list_outlines l)) (take_more xs i d h) ∙ total-append (take i xs) (get_or xs i d ∷ []) ∙ omega arith

pub total_within : (xs : List Outline) (i : ℕ) (o : Outline) → i < length xs → o ≡ get_or xs i o → total_size (list_outlines (take i xs)) + size (outline_tree o) ≤ total_size (list_outlines xs)
total_within xs i o h e = omega (arith, ap (λ l. total_size (list_outlines l)) (split_item xs i o h e), total-append (take i xs) (o ∷ drop (i + 1) xs))

-- ---- fields
part_fields-append : (i : ℕ) (xs : List Named) (p : Named) → part_fields i (list_named_outlines (xs ++ p ∷ [])) ≡ part_fields i (list_named_outlines xs) ++ bit_fields (i + total_named_size (list_named_outlines xs)) (outline_tree p.1)
part_fields-append i [] p = rw (append-nil, add-zero) refl
part_fields-append i (x ∷ xs) p = rw (part_fields-append (i + size (outline_tree x.1)) xs p, append_assoc, add_assoc) refl

pub part_fields_more : (i : ℕ) (xs : List Named) (k : ℕ) (p : Named) → k < length xs → p ≡ get_or xs k p → part_fields i (list_named_outlines (take (k + 1) xs)) ≡ part_fields i (list_named_outlines (take k xs)) ++ bit_fields (i + total_named_size (list_named_outlines (take k xs))) (outline_tree p.1)
part_fields_more i xs k p h e = ap (λ l. part_fields i (list_named_outlines l)) (take_item xs k p h e) ∙ part_fields-append i (take k xs) p

alternative_fields-append : (i : ℕ) (xs : List Named) (p : Named) → alternative_fields i (list_named_outlines (xs ++ p ∷ [])) ≡ alternative_fields i (list_named_outlines xs) ++ bit_fields i (outline_tree p.1)
alternative_fields-append i [] p = append-nil (bit_fields i (outline_tree p.1))
alternative_fields-append i (x ∷ xs) p = rw (alternative_fields-append i xs p, append_assoc) refl

pub alternative_fields_more : (i : ℕ) (xs : List Named) (k : ℕ) (p : Named) → k < length xs → p ≡ get_or xs k p → alternative_fields i (list_named_outlines (take (k + 1) xs)) ≡ alternative_fields i (list_named_outlines (take k xs)) ++ bit_fields i (outline_tree p.1)
alternative_fields_more i xs k p h e = ap (λ l. alternative_fields i (list_named_outlines l)) (take_item xs k p h e) ∙ alternative_fields-append i (take k xs) p

joined_fields-append : (i : ℕ) (xs : List Outline) (o : Outline) → joined_fields i (list_outlines (xs ++ o ∷ [])) ≡ joined_fields i (list_outlines xs) ++ bit_fields (i + total_size (list_outlines xs)) (outline_tree o)
joined_fields-append i [] o = rw (append-nil, add-zero) refl
joined_fields-append i (x ∷ xs) o = rw (joined_fields-append (i + size (outline_tree x)) xs o, append_assoc, add_assoc) refl

pub joined_fields_more : (i : ℕ) (xs : List Outline) (k : ℕ) (o : Outline) → k < length xs → o ≡ get_or xs k o → joined_fields i (list_outlines (take (k + 1) xs)) ≡ joined_fields i (list_outlines (take k xs)) ++ bit_fields (i + total_size (list_outlines (take k xs))) (outline_tree o)
joined_fields_more i xs k o h e = ap (λ l. joined_fields i (list_outlines l)) (take_item xs k o h e) ∙ joined_fields-append i (take k xs) o

-- ---- heights
highest_named-append : (xs ys : List Named) → highest_named_outline (list_named_outlines (xs ++ ys)) ≡ max (highest_named_outline (list_named_outlines xs)) (highest_named_outline (list_named_outlines ys))
highest_named-append [] ys = omega arith
highest_named-append (x ∷ xs) ys = omega (arith, highest_named-append xs ys)

pub highest_named_more : (xs : List Named) (i : ℕ) (p : Named) → i < length xs → p ≡ get_or xs i p → highest_named_outline (list_named_outlines (take (i + 1) xs)) ≡ max (highest_named_outline (list_named_outlines (take i xs))) (outline_height (outline_tree p.1))
highest_named_more xs i p h e = ap (λ l. highest_named_outline (list_named_outlines l)) (take_item xs i p h e) ∙ highest_named-append (take i xs) (p ∷ []) ∙ omega arith

pub highest_named_within : (xs : List Named) (i : ℕ) (p : Named) → i < length xs → p ≡ get_or xs i p → outline_height (outline_tree p.1) ≤ highest_named_outline (list_named_outlines xs)
highest_named_within xs i p h e = omega (arith, ap (λ l. highest_named_outline (list_named_outlines l)) (split_item xs i p h e), highest_named-append (take i xs) (p ∷ drop (i + 1) xs))

highest-append : (xs ys : List Outline) → highest_outline (list_outlines (xs ++ ys)) ≡ max (highest_outline (list_outlines xs)) (highest_outline (list_outlines ys))
highest-append [] ys = omega arith
highest-append (x ∷ xs) ys = omega (arith, highest-append xs ys)

pub highest_more : (xs : List Outline) (i : ℕ) (o : Outline) → i < length xs → o ≡ get_or xs i o → highest_outline (list_outlines (take (i + 1) xs)) ≡ max (highest_outline (list_outlines (take i xs))) (outline_height (outline_tree o))
highest_more xs i o h e = ap (λ l. highest_outline (list_outlines l)) (take_item xs i o h e) ∙ highest-append (take i xs) (o ∷ []) ∙ omega arith

pub highest_within : (xs : List Outline) (i : ℕ) (o : Outline) → i < length xs → o ≡ get_or xs i o → outline_height (outline_tree o) ≤ highest_outline (list_outlines xs)
highest_within xs i o h e = omega (arith, ap (λ l. highest_outline (list_outlines l)) (split_item xs i o h e), highest-append (take i xs) (o ∷ drop (i + 1) xs))

pub outline_height_some : (o : OutlineTree) → 1 ≤ outline_height o
outline_height_some (BitsOutline n) = omega arith
outline_height_some (GapOutline n) = omega arith
outline_height_some (PartsOutline fs) = omega arith
outline_height_some (OverlayOutline fs) = omega arith
outline_height_some (JoinedOutline os) = omega arith

-- ---- records
pub length-named : (xs : List Named) → length (named_list (list_named_outlines xs)) ≡ length xs
length-named [] = refl
length-named (x ∷ xs) = ap suc (length-named xs)

records-append : (xs ys : List Outline) → records_of (list_outlines (xs ++ ys)) ≡ records_of (list_outlines xs) ++ records_of (list_outlines ys)
records-append [] ys = refl
records-append (x ∷ xs) ys = rw (records-append xs ys, append_assoc) refl

pub records_more : (xs : List Outline) (i : ℕ) (o : Outline) → i < length xs → o ≡ get_or xs i o → records_of (list_outlines (take (i + 1) xs)) ≡ records_of (list_outlines (take i xs)) ++ record_of (outline_tree o)
records_more xs i o h e = ap (λ l. records_of (list_outlines l)) (take_item xs i o h e) ∙ records-append (take i xs) (o ∷ []) ∙ ap (λ l. records_of (list_outlines (take i xs)) ++ l) (append-nil (record_of (outline_tree o)))

pub records_split : (xs : List Outline) (i : ℕ) (o : Outline) → i < length xs → o ≡ get_or xs i o → records_of (list_outlines xs) ≡ records_of (list_outlines (take i xs)) ++ (record_of (outline_tree o) ++ records_of (list_outlines (drop (i + 1) xs)))
records_split xs i o h e = ap (λ l. records_of (list_outlines l)) (split_item xs i o h e) ∙ records-append (take i xs) (o ∷ drop (i + 1) xs)

names-append : (xs ys : List (List ℕ × OutlineTree)) → names_of (xs ++ ys) ≡ names_of xs ++ names_of ys
names-append [] ys = refl
names-append (x ∷ xs) ys = ap (λ l. x.0 ∷ l) (names-append xs ys)

pub record_names_more : (xs : List Outline) (i : ℕ) (o : Outline) → i < length xs → o ≡ get_or xs i o → names_of (records_of (list_outlines (take (i + 1) xs))) ≡ names_of (records_of (list_outlines (take i xs))) ++ names_of (record_of (outline_tree o))
record_names_more xs i o h e = ap names_of (records_more xs i o h e) ∙ names-append (records_of (list_outlines (take i xs))) (record_of (outline_tree o))

named_list-append : (xs ys : List Named) → named_list (list_named_outlines (xs ++ ys)) ≡ named_list (list_named_outlines xs) ++ named_list (list_named_outlines ys)
named_list-append [] ys = refl
named_list-append (x ∷ xs) ys = ap (λ l. (x.0, outline_tree x.1) ∷ l) (named_list-append xs ys)

pub field_names_more : (xs : List Named) (i : ℕ) (p : Named) → i < length xs → p ≡ get_or xs i p → names_of (named_list (list_named_outlines (take (i + 1) xs))) ≡ names_of (named_list (list_named_outlines (take i xs))) ++ p.0 ∷ []
field_names_more xs i p h e = ap (λ l. names_of (named_list (list_named_outlines l))) (take_item xs i p h e) ∙ ap names_of (named_list-append (take i xs) (p ∷ [])) ∙ names-append (named_list (list_named_outlines (take i xs))) ((p.0, outline_tree p.1) ∷ [])

-- ---- outlines with their names, as a list and as a tree's fields
unfoldable pub named_from : List (List ℕ × OutlineTree) → NamedOutlines
named_from [] = no_named_outlines
named_from (p ∷ ps) = named_outline_and p.0 p.1 (named_from ps)

pub named_from-layouts : (xs : List Named) → named_from (layouts_of xs) ≡ list_named_outlines xs
unfolding named_from
named_from-layouts [] = refl
named_from-layouts (x ∷ xs) = ap (named_outline_and x.0 (outline_tree x.1)) (named_from-layouts xs)

pub layouts-append : (xs ys : List Named) → layouts_of (xs ++ ys) ≡ layouts_of xs ++ layouts_of ys
layouts-append [] ys = refl
layouts-append (x ∷ xs) ys = ap (λ l. (x.0, outline_tree x.1) ∷ l) (layouts-append xs ys)

pub layouts_more : (xs : List Named) (i : ℕ) (p : Named) → i < length xs → p ≡ get_or xs i p → layouts_of (take (i + 1) xs) ≡ layouts_of (take i xs) ++ (p.0, outline_tree p.1) ∷ []
layouts_more xs i p h e = ap layouts_of (take_item xs i p h e) ∙ layouts-append (take i xs) (p ∷ [])

pub same_named : (xs ys : List Named) → layouts_of xs ≡ layouts_of ys → list_named_outlines xs ≡ list_named_outlines ys
same_named xs ys e = sym (named_from-layouts xs) ∙ ap named_from e ∙ named_from-layouts ys

-- ---- outlines as a list and as a tree's parts
unfoldable pub all_from : List OutlineTree → OutlineTrees
all_from [] = no_outlines
all_from (o ∷ os) = outline_and o (all_from os)

abbrev pub trees_of : List Outline → List OutlineTree
trees_of [] = []
trees_of (o ∷ os) = outline_tree o ∷ trees_of os

pub all_from-trees : (xs : List Outline) → all_from (trees_of xs) ≡ list_outlines xs
unfolding all_from
all_from-trees [] = refl
all_from-trees (x ∷ xs) = ap (outline_and (outline_tree x)) (all_from-trees xs)

pub trees-append : (xs ys : List Outline) → trees_of (xs ++ ys) ≡ trees_of xs ++ trees_of ys
trees-append [] ys = refl
trees-append (x ∷ xs) ys = ap (λ l. outline_tree x ∷ l) (trees-append xs ys)

pub trees_more : (xs : List Outline) (i : ℕ) (o : Outline) → i < length xs → o ≡ get_or xs i o → trees_of (take (i + 1) xs) ≡ trees_of (take i xs) ++ outline_tree o ∷ []
trees_more xs i o h e = ap trees_of (take_item xs i o h e) ∙ trees-append (take i xs) (o ∷ [])

pub same_all : (xs ys : List Outline) → trees_of xs ≡ trees_of ys → list_outlines xs ≡ list_outlines ys
same_all xs ys e = sym (all_from-trees xs) ∙ ap all_from e ∙ all_from-trees ys

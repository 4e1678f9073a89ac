-- Packing writes at most as many fields as a layout has, and as a record that it packs has words.
use Rattle.std.proofs.Common.{◌≡◌, ◌∙◌, refl, ap, sym, ℕ, ◌+◌, ◌<◌, ◌≤◌, Bool, true, false, ◌&&◌, if◌then◌else◌, bytes_eq, List, [], ◌∷◌, ◌++◌, take, drop, length, get_or, length-append, arith}
use Rattle.std.proofs.lemmas.Bool.{false≢true, and_parts, or_parts}
use Rattle.std.proofs.lemmas.Slice.Eq.{bytes_eq-Decides}
use Rattle.std.specs.Cmp.Lexicographic.{nat_list_eq_equiv}
use Rattle.nv_base.specs.declared.term.Atom.TheVariants.{Lit}
use Rattle.nv_ast.specs.declared.tree.LayoutText.{LayoutText}
use Rattle.nv_ast.specs.LayoutView.{layout_tree, field_tree}
use Rattle.nv_ast.specs.Tests.{is_among, has_twice, names_of}
use Rattle.nv_ast.specs.Outline.{Layouts, OutlineTree, BitsOutline, GapOutline, PartsOutline, OverlayOutline, JoinedOutline, OutlineTrees, no_outlines, outline_and, NamedOutlines, no_named_outlines, named_outline_and, outline, field_outline, size, named_list, record_of, records_of, bit_fields, part_fields, alternative_fields, joined_fields, IsSound, AllSound, AllNamedSound}
use Rattle.nv_ast.specs.Types.{Forms, no_forms, form_and, ◌+++◌, form_of, forms_of, joined_forms, record_forms, can_pack, can_pack_all, can_pack_one}
use Rattle.nv_meaning.proofs.Bindings.{if-true, if-false}
use Rattle.nv_meaning_values.proofs.Unpacking.{FieldItem, outlines_of, joined_of}
use Rattle.nv_flatten_values.specs.inner.Symbols.{Symbol, Word, Truth, Tuple, Record, NamedSymbols, no_named_symbols, named_symbol_and, form, named_forms, operands, named_operands, fields_of, field_named}
use Rattle.nv_flatten_values.specs.inner.Reads.{has_symbol}
use Rattle.nv_flatten_values.specs.inner.Written.{packed_fields, packed_layout, packed_parts, packed_chosen, packed_joined}
use Rattle.nv_ast.proofs.Items.{take_item, next_item}

-- ---- as many as the layout has
either-few : (b : Bool) (m n k : ℕ) → m ≤ k → n ≤ k → (if b then m else n) ≤ k
either-few true m n k p q = p
either-few false m n k p q = q

mutual
  pub fields-few : (o : OutlineTree) (i : ℕ) (s : Symbol) → packed_fields o s ≤ length (bit_fields i o)
  fields-few (BitsOutline n) i s = omega arith
  fields-few (GapOutline n) i s = omega arith
  fields-few (PartsOutline fs) i s = parts-few fs i (fields_of s)
  fields-few (OverlayOutline fs) i s = chosen-few fs i (fields_of s)
  fields-few (JoinedOutline os) i s = joined-few os i s

  pub layout-few : (o : OutlineTree) (i : ℕ) (s : Symbol) → packed_layout o s ≤ length (bit_fields i o)
  layout-few (BitsOutline n) i s = omega arith
  layout-few (GapOutline n) i s = omega arith
  layout-few (PartsOutline fs) i s = parts-few fs i (fields_of s)
  layout-few (OverlayOutline fs) i s = omega arith
  layout-few (JoinedOutline os) i s = joined-few os i s

  parts-few : (fs : NamedOutlines) (i : ℕ) (ss : NamedSymbols) → packed_parts fs ss ≤ length (part_fields i fs)
  parts-few no_named_outlines i ss = omega arith
  parts-few (named_outline_and x o os) i ss = omega (arith, length-append (bit_fields i o) (part_fields (i + size o) os), fields-few o i (field_named x ss), parts-few os (i + size o) ss)

  chosen-few : (fs : NamedOutlines) (i : ℕ) (ss : NamedSymbols) → packed_chosen fs ss ≤ length (alternative_fields i fs)
  chosen-few no_named_outlines i ss = omega arith
  chosen-few (named_outline_and x o os) i ss =
      let long = length-append (bit_fields i o) (alternative_fields i os) in
      either-few (has_symbol x ss) (packed_fields o (field_named x ss)) (packed_chosen os ss) (length (bit_fields i o ++ alternative_fields i os)) (omega (arith, fields-few o i (field_named x ss))) (omega (arith, chosen-few os i ss))

  joined-few : (os : OutlineTrees) (i : ℕ) (s : Symbol) → packed_joined os s ≤ length (joined_fields i os)
  joined-few no_outlines i s = omega arith
  joined-few (outline_and o os) i s = omega (arith, length-append (bit_fields i o) (joined_fields (i + size o) os), layout-few o i s, joined-few os (i + size o) s)

-- ---- as many as a record has words

-- the fields of a record, as a list
abbrev listed : List (List ℕ × OutlineTree) → NamedSymbols → ℕ
listed [] ss = 0
listed ((x, o) ∷ l) ss = packed_fields o (field_named x ss) + listed l ss

abbrev listed_forms : List (List ℕ × OutlineTree) → Forms
listed_forms [] = no_forms
listed_forms ((x, o) ∷ l) = form_and x (form_of o) (listed_forms l)

abbrev Fine : OutlineTree → Type 0
Fine o = (s : Symbol) → can_pack (form_of o) (form s) ≡ true → packed_fields o s ≤ length (operands s)

abbrev AllFine : List (List ℕ × OutlineTree) → Type 0
AllFine [] = Unit {0}
AllFine ((x, o) ∷ l) = Fine o × AllFine l

fine-append : (k l : List (List ℕ × OutlineTree)) → AllFine k → AllFine l → AllFine (k ++ l)
fine-append [] l p q = q
fine-append ((x, o) ∷ k) l p q = (p.0, fine-append k l p.1 q)

listed-append : (k l : List (List ℕ × OutlineTree)) (ss : NamedSymbols) → listed (k ++ l) ss ≡ listed k ss + listed l ss
listed-append [] l ss = omega arith
listed-append ((x, o) ∷ k) l ss = omega (arith, listed-append k l ss)

forms-append : (k l : List (List ℕ × OutlineTree)) → listed_forms (k ++ l) ≡ listed_forms k +++ listed_forms l
forms-append [] l = refl
forms-append ((x, o) ∷ k) l = ap (λ fs. form_and x (form_of o) fs) (forms-append k l)

parts-listed : (fs : NamedOutlines) (ss : NamedSymbols) → packed_parts fs ss ≡ listed (named_list fs) ss
parts-listed no_named_outlines ss = refl
parts-listed (named_outline_and x o os) ss = ap (λ n. packed_fields o (field_named x ss) + n) (parts-listed os ss)

forms-listed : (fs : NamedOutlines) → forms_of fs ≡ listed_forms (named_list fs)
forms-listed no_named_outlines = refl
forms-listed (named_outline_and x o os) = ap (λ l. form_and x (form_of o) l) (forms-listed os)

mutual
  layout-listed : (o : OutlineTree) (s : Symbol) → packed_layout o s ≤ listed (record_of o) (fields_of s)
  layout-listed (BitsOutline n) s = omega arith
  layout-listed (GapOutline n) s = omega arith
  layout-listed (PartsOutline fs) s = let e = parts-listed fs (fields_of s) in omega arith
  layout-listed (OverlayOutline fs) s = omega arith
  layout-listed (JoinedOutline os) s = joined-listed os s

  joined-listed : (os : OutlineTrees) (s : Symbol) → packed_joined os s ≤ listed (records_of os) (fields_of s)
  joined-listed no_outlines s = omega arith
  joined-listed (outline_and o os) s = omega (arith, listed-append (record_of o) (records_of os) (fields_of s), layout-listed o s, joined-listed os s)

mutual
  record-forms-listed : (o : OutlineTree) → record_forms o ≡ listed_forms (record_of o)
  record-forms-listed (BitsOutline n) = refl
  record-forms-listed (GapOutline n) = refl
  record-forms-listed (PartsOutline fs) = forms-listed fs
  record-forms-listed (OverlayOutline fs) = forms-listed fs
  record-forms-listed (JoinedOutline os) = joined-forms-listed os

  joined-forms-listed : (os : OutlineTrees) → joined_forms os ≡ listed_forms (records_of os)
  joined-forms-listed no_outlines = refl
  joined-forms-listed (outline_and o os) =
      ap (λ fs. fs +++ joined_forms os) (record-forms-listed o) ∙ ap (λ fs. listed_forms (record_of o) +++ fs) (joined-forms-listed os) ∙ sym (forms-append (record_of o) (records_of os))

skipped : (l : List (List ℕ × OutlineTree)) (x : List ℕ) (r : Symbol) (rs : NamedSymbols) → is_among x (names_of l) ≡ false → listed l (named_symbol_and x r rs) ≡ listed l rs
skipped [] x r rs e = refl
skipped ((y, o) ∷ l) x r rs e =
    let p = or_parts (bytes_eq x y) (is_among x (names_of l)) e in
    let here : field_named y (named_symbol_and x r rs) ≡ field_named y rs = if-false (bytes_eq y x) r (field_named y rs) (nat_list_eq_equiv.symm y x ∙ p.0) in
    omega (arith, ap (packed_fields o) here, skipped l x r rs p.1)

list-fine : (l : List (List ℕ × OutlineTree)) → AllFine l → has_twice (names_of l) ≡ false → (ss : NamedSymbols) → can_pack_all (listed_forms l) (named_forms ss) ≡ true → listed l ss ≤ length (named_operands ss)
list-fine [] f once ss e = omega arith
list-fine ((x, o) ∷ l) f once no_named_symbols e = absurd (false≢true e)
list-fine ((x, o) ∷ l) f once (named_symbol_and y r rs) e =
    let p = and_parts (bytes_eq x y) (can_pack (form_of o) (form r) && can_pack_all (listed_forms l) (named_forms rs)) e in
    let q = and_parts (can_pack (form_of o) (form r)) (can_pack_all (listed_forms l) (named_forms rs)) p.1 in
    let n = or_parts (is_among x (names_of l)) (has_twice (names_of l)) once in
    let same : x ≡ y = (bytes_eq-Decides x y).0 p.0 in
    let here : field_named x (named_symbol_and y r rs) ≡ r = if-true (bytes_eq x y) r (field_named x rs) p.0 in
    omega (arith, ap (packed_fields o) here, f.0 r q.0, skipped l y r rs (ap (λ z. is_among z (names_of l)) (sym same) ∙ n.0), list-fine l f.1 n.1 rs q.1, length-append (operands r) (named_operands rs))

one-of : (b : Bool) (o : OutlineTree) (n : ℕ) (r : Symbol) (rest : Bool) → Fine o → (rest ≡ true → n ≤ length (operands r)) → (if b then can_pack (form_of o) (form r) else rest) ≡ true
    → (if (if b then true else false) then packed_fields o (if b then r else Word (Lit 0)) else n) ≤ length (operands r)
one-of true o n r rest f h e = f r e
one-of false o n r rest f h e = h e

one-fine : (fs : NamedOutlines) → AllFine (named_list fs) → (y : List ℕ) (r : Symbol) → can_pack_one (forms_of fs) y (form r) ≡ true → packed_chosen fs (named_symbol_and y r no_named_symbols) ≤ length (operands r)
one-fine no_named_outlines f y r e = omega arith
one-fine (named_outline_and x o os) f y r e =
    one-of (bytes_eq x y) o (packed_chosen os (named_symbol_and y r no_named_symbols)) r (can_pack_one (forms_of os) y (form r)) f.0 (one-fine os f.1 y r) e

mutual
  pub fields-fine : (o : OutlineTree) → IsSound o → (s : Symbol) → can_pack (form_of o) (form s) ≡ true → packed_fields o s ≤ length (operands s)
  fields-fine (BitsOutline n) q (Word a) e = omega arith
  fields-fine (BitsOutline n) q (Truth a) e = omega arith
  fields-fine (BitsOutline n) q (Tuple ss) e = absurd (false≢true e)
  fields-fine (BitsOutline n) q (Record ss) e = absurd (false≢true e)
  fields-fine (GapOutline n) q s e = omega arith
  fields-fine (PartsOutline fs) q (Word a) e = absurd (false≢true e)
  fields-fine (PartsOutline fs) q (Truth a) e = absurd (false≢true e)
  fields-fine (PartsOutline fs) q (Tuple ss) e = absurd (false≢true e)
  fields-fine (PartsOutline fs) q (Record ss) e =
      let long = list-fine (named_list fs) (named-fine fs q.0) q.1 ss (sym (ap (λ l. can_pack_all l (named_forms ss)) (forms-listed fs)) ∙ e) in
      omega (arith, parts-listed fs ss)
  fields-fine (OverlayOutline fs) q (Word a) e = absurd (false≢true e)
  fields-fine (OverlayOutline fs) q (Truth a) e = absurd (false≢true e)
  fields-fine (OverlayOutline fs) q (Tuple ss) e = absurd (false≢true e)
  fields-fine (OverlayOutline fs) q (Record no_named_symbols) e = absurd (false≢true e)
  fields-fine (OverlayOutline fs) q (Record (named_symbol_and x r no_named_symbols)) e =
      let long = one-fine fs (named-fine fs q.0) x r e in
      omega (arith, length-append (operands r) [])
  fields-fine (OverlayOutline fs) q (Record (named_symbol_and x r (named_symbol_and y s ss))) e = absurd (false≢true e)
  fields-fine (JoinedOutline os) q (Word a) e = absurd (false≢true e)
  fields-fine (JoinedOutline os) q (Truth a) e = absurd (false≢true e)
  fields-fine (JoinedOutline os) q (Tuple ss) e = absurd (false≢true e)
  fields-fine (JoinedOutline os) q (Record ss) e =
      let long = list-fine (records_of os) (records-fine os q.0) q.1 ss (sym (ap (λ l. can_pack_all l (named_forms ss)) (joined-forms-listed os)) ∙ e) in
      omega (arith, joined-listed os (Record ss))

  named-fine : (fs : NamedOutlines) → AllNamedSound fs → AllFine (named_list fs)
  named-fine no_named_outlines q = tt {0}
  named-fine (named_outline_and x o os) q = (fields-fine o q.0, named-fine os q.1)

  record-fine : (o : OutlineTree) → IsSound o → AllFine (record_of o)
  record-fine (BitsOutline n) q = tt {0}
  record-fine (GapOutline n) q = tt {0}
  record-fine (PartsOutline fs) q = named-fine fs q.0
  record-fine (OverlayOutline fs) q = named-fine fs q.0
  record-fine (JoinedOutline os) q = records-fine os q.0

  records-fine : (os : OutlineTrees) → AllSound os → AllFine (records_of os)
  records-fine no_outlines q = tt {0}
  records-fine (outline_and o os) q = fine-append (record_of o) (records_of os) (record-fine o q.0) (records-fine os q.1)

pub layout-fields : (o : OutlineTree) (s : Symbol) → packed_layout o s ≤ packed_fields o s
layout-fields (BitsOutline n) s = omega arith
layout-fields (GapOutline n) s = omega arith
layout-fields (PartsOutline fs) s = omega arith
layout-fields (OverlayOutline fs) s = omega arith
layout-fields (JoinedOutline os) s = omega arith

-- ---- one part more
module _ (known : Layouts) where
  parts-append : (xs ys : List FieldItem) (ss : NamedSymbols) → packed_parts (outlines_of known (xs ++ ys)) ss ≡ packed_parts (outlines_of known xs) ss + packed_parts (outlines_of known ys) ss
  parts-append [] ys ss = omega arith
  parts-append (x ∷ xs) ys ss = omega (arith, parts-append xs ys ss)

  pub parts-more : (xs : List FieldItem) (i : ℕ) (p : FieldItem) (ss : NamedSymbols) → i < length xs → p ≡ get_or xs i p → packed_parts (outlines_of known (take (i + 1) xs)) ss ≡ packed_parts (outlines_of known (take i xs)) ss + packed_fields (field_outline known (field_tree p.1)) (field_named p.0 ss)
  parts-more xs i p ss h e = omega (arith, ap (λ l. packed_parts (outlines_of known l) ss) (take_item xs i p h e), parts-append (take i xs) (p ∷ []) ss)

  joined-append : (xs ys : List LayoutText) (s : Symbol) → packed_joined (joined_of known (xs ++ ys)) s ≡ packed_joined (joined_of known xs) s + packed_joined (joined_of known ys) s
  joined-append [] ys s = omega arith
  joined-append (x ∷ xs) ys s = omega (arith, joined-append xs ys s)

  pub joined-more : (xs : List LayoutText) (i : ℕ) (p : LayoutText) (s : Symbol) → i < length xs → p ≡ get_or xs i p → packed_joined (joined_of known (take (i + 1) xs)) s ≡ packed_joined (joined_of known (take i xs)) s + packed_layout (outline known (layout_tree p)) s
  joined-more xs i p s h e = omega (arith, ap (λ l. packed_joined (joined_of known l) s) (take_item xs i p h e), joined-append (take i xs) (p ∷ []) s)

  -- the first of the alternatives from the i-th on
  pub chosen-turn : (xs : List FieldItem) (i : ℕ) (p : FieldItem) (ss : NamedSymbols) → i < length xs → p ≡ get_or xs i p → packed_chosen (outlines_of known (drop i xs)) ss ≡ (if has_symbol p.0 ss then packed_fields (field_outline known (field_tree p.1)) (field_named p.0 ss) else packed_chosen (outlines_of known (drop (i + 1) xs)) ss)
  chosen-turn xs i p ss h e = ap (λ l. packed_chosen (outlines_of known l) ss) (next_item xs i p h e)

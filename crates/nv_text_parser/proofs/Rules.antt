-- Sentences made of what is read after a first part.
use Rattle.std.proofs.Common.{◌≡◌, refl, ◌∙◌, ap, subst, ℕ, List, ◌∷◌, arith}
use Rattle.nv_ast.specs.declared.token.Span.{Span}
use Rattle.nv_ast.specs.declared.token.Token.{Token}
use Rattle.nv_ast.specs.Tokens.{at, a_name, key_overlay, sign_bar, sign_comma, sign_colon, sign_open, sign_close, sign_open_brace, sign_close_brace}
use Rattle.nv_ast.specs.Tree.{LayoutTree, JoinedLayout, PartsLayout, LayoutTrees, layout_and, FieldTree, OverlayField, FieldTrees, field_and, TypeTree, TupleType, RecordType, TypeTrees, NamedTypes, PatternTree, TuplePattern, PatternTrees, pattern_and, type_and}
use Rattle.nv_ast.specs.Grammar.{IsLayout, joined_layouts, IsLayoutAtom, parts_layout, IsMoreLayouts, no_layout, next_layout, IsField, overlay_field, IsAlternative, IsMoreAlternatives, no_alternative, next_alternative, IsType, tuple_type, record_type, IsMoreTypes, no_type, next_type, IsTypes, some_types, IsParams, some_params, IsPattern, tuple_pattern, IsMorePatterns, no_pattern, next_pattern, IsPatterns, some_patterns, IsMoreNamedTypes, IsMoreFields}
use Rattle.nv_ast.specs.declared.token.Sort.TheVariants.{Sign}
use Rattle.nv_text_parser.specs.inner.Cursor.{NotSign}
use Rattle.nv_text_parser.specs.inner.Lists.{LayoutsAfter, FieldsAfter, AlternativesAfter, TypesAfter, NamedTypesAfter, PatternsAfter}
use Rattle.nv_text_parser.proofs.Follow.{first_rank}

patterns_two : {p : PatternTree} {new : PatternTrees} {s t u : Span} {us vs ws k : List Token} → IsPattern p us vs → IsMorePatterns new vs (sign_close t ∷ k) → vs ≡ sign_comma u ∷ ws → IsPattern (TuplePattern (pattern_and p new)) (sign_open s ∷ us) k
patterns_two d no_pattern e = let h : ◌≡◌ {A = ℕ} 13 10 = ap first_rank e in absurd (omega arith)
patterns_two d (next_pattern f g) e = tuple_pattern d (next_pattern f g)

-- a tuple of patterns
pub tuple_pattern_of : {p : PatternTree} {all : PatternTrees} (s t u : Span) {us vs ws xs k : List Token} → IsPattern p us vs → vs ≡ sign_comma u ∷ ws → PatternsAfter p all vs xs → xs ≡ sign_close t ∷ k → IsPattern (TuplePattern all) (sign_open s ∷ us) k
tuple_pattern_of {p = p} s t u {vs = vs} {k = k} d e b f = rw b.whole (patterns_two d (subst (λ z. IsMorePatterns b.new vs z) f b.list) e)

pub patterns_of : {p : PatternTree} {all : PatternTrees} {us vs k : List Token} → IsPattern p us vs → PatternsAfter p all vs k → IsPatterns all us k
patterns_of d b = rw b.whole (some_patterns d b.list)

types_two : {a : TypeTree} {new : TypeTrees} {s t u : Span} {us vs ws k : List Token} → IsType a us vs → IsMoreTypes new vs (sign_close t ∷ k) → vs ≡ sign_comma u ∷ ws → IsType (TupleType (type_and a new)) (sign_open s ∷ us) k
types_two d no_type e = let h : ◌≡◌ {A = ℕ} 13 10 = ap first_rank e in absurd (omega arith)
types_two d (next_type f g) e = tuple_type d (next_type f g)

-- a tuple of types
pub tuple_type_of : {a : TypeTree} {all : TypeTrees} (s t u : Span) {us vs ws xs k : List Token} → IsType a us vs → vs ≡ sign_comma u ∷ ws → TypesAfter a all vs xs → xs ≡ sign_close t ∷ k → IsType (TupleType all) (sign_open s ∷ us) k
tuple_type_of s t u {vs = vs} d e b f = rw b.whole (types_two d (subst (λ z. IsMoreTypes b.new vs z) f b.list) e)

-- a record of types
pub record_type_of : {a : TypeTree} {all : NamedTypes} {x : List ℕ} (s t u v : Span) {ts us vs ws xs k : List Token} → ts ≡ a_name t x ∷ us → us ≡ sign_colon u ∷ vs → IsType a vs ws → NamedTypesAfter x a all ws xs → xs ≡ sign_close_brace v ∷ k → IsType (RecordType all) (sign_open_brace s ∷ ts) k
record_type_of s t u v {ws = ws} e f d b g = rw (b.whole, e, f) (record_type d (subst (λ z. IsMoreNamedTypes b.new ws z) g b.list))

pub types_of : {a : TypeTree} {all : TypeTrees} {us vs k : List Token} → IsType a us vs → TypesAfter a all vs k → IsTypes all us k
types_of d b = rw b.whole (some_types d b.list)

pub params_of : {a : TypeTree} {all : NamedTypes} {x : List ℕ} (s t : Span) {ts us vs ws k : List Token} → ts ≡ a_name s x ∷ us → us ≡ sign_colon t ∷ vs → IsType a vs ws → NamedTypesAfter x a all ws k → IsParams all ts k
params_of s t e f d b = rw (b.whole, e, f) (some_params d b.list)

layouts_two : {l : LayoutTree} {new : LayoutTrees} {us vs k : List Token} → IsLayoutAtom l us vs → IsMoreLayouts new vs k → (k ≡ vs → ⊥) → IsLayout (JoinedLayout (layout_and l new)) us k
layouts_two d no_layout n = absurd (n refl)
layouts_two d (next_layout f g) n = joined_layouts d (next_layout f g)

-- layouts joined by ##: what is read after the first is shorter, so something was read
pub joined_of : {l : LayoutTree} {all : LayoutTrees} {us vs k : List Token} → IsLayoutAtom l us vs → LayoutsAfter l all vs k → (k ≡ vs → ⊥) → IsLayout (JoinedLayout all) us k
joined_of d b n = rw b.whole (layouts_two d b.list n)

pub not_ended : {n : ℕ} {s : Span} {ts vs k : List Token} → ts ≡ at s (Sign n) ∷ vs → NotSign n k → k ≡ ts → ⊥
not_ended {n = n} e f g = (subst (λ z. NotSign n z) (g ∙ e) f) refl

-- fields in braces
pub parts_of : {f : FieldTree} {all : FieldTrees} {x : List ℕ} (s t u v : Span) {ts us vs ws xs k : List Token} → ts ≡ a_name t x ∷ us → us ≡ sign_colon u ∷ vs → IsField f vs ws → FieldsAfter x f all ws xs → xs ≡ sign_close_brace v ∷ k → IsLayoutAtom (PartsLayout all) (sign_open_brace s ∷ ts) k
parts_of s t u v {ws = ws} e f d b g = rw (b.whole, e, f) (parts_layout d (subst (λ z. IsMoreFields b.new ws z) g b.list))

overlays_two : {f : FieldTree} {new : FieldTrees} {x : List ℕ} {s t u v w y : Span} {us vs ws k : List Token} → IsAlternative f us vs → IsMoreAlternatives new vs (sign_close_brace w ∷ k) → vs ≡ sign_bar y ∷ ws → IsField (OverlayField (field_and x f new)) (key_overlay s ∷ sign_open_brace t ∷ a_name u x ∷ sign_colon v ∷ us) k
overlays_two d no_alternative e = let h : ◌≡◌ {A = ℕ} 13 6 = ap first_rank e in absurd (omega arith)
overlays_two d (next_alternative f g) e = overlay_field d (next_alternative f g)

-- alternatives in braces
pub overlay_of : {f : FieldTree} {all : FieldTrees} {x : List ℕ} (s t u v w y : Span) {ts us vs xs ys zs ws k : List Token} → ts ≡ sign_open_brace t ∷ us → us ≡ a_name u x ∷ vs → vs ≡ sign_colon v ∷ xs → IsAlternative f xs ys → ys ≡ sign_bar y ∷ ws → AlternativesAfter x f all ys zs → zs ≡ sign_close_brace w ∷ k → IsField (OverlayField all) (key_overlay s ∷ ts) k
overlay_of s t u v w y {ys = ys} e f g d h b i = rw (b.whole, e, f, g) (overlays_two d (subst (λ z. IsMoreAlternatives b.new ys z) i b.list) h)

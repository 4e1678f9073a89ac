-- Lists of which one more part is read.
use Rattle.std.proofs.Common.{◌≡◌, refl, ◌∙◌, ap, ℕ, ◌≤◌, max, List, [], ◌∷◌, ◌++◌, arith}
use Rattle.nv_ast.specs.declared.tree.LayoutText.{LayoutText}
use Rattle.nv_ast.specs.declared.tree.FieldText.{FieldText}
use Rattle.nv_ast.specs.declared.tree.TyText.{TyText}
use Rattle.nv_ast.specs.declared.tree.Pat.{Pat}
use Rattle.nv_ast.specs.declared.tree.Expr.{Expr}
use Rattle.nv_ast.specs.declared.tree.Stmt.{Stmt}
use Rattle.nv_ast.specs.declared.token.Token.{Token}
use Rattle.nv_ast.specs.declared.token.Span.{Span}
use Rattle.nv_ast.specs.Tokens.{a_name, sign_comma, sign_bar, sign_join, sign_colon, sign_is}
use Rattle.nv_ast.specs.Tree.{LayoutTree, LayoutTrees, no_layouts, layout_and, FieldTree, FieldTrees, no_fields, field_and, TypeTree, TypeTrees, no_types, type_and, NamedTypes, no_named_types, named_type_and, PatternTree, PatternTrees, no_patterns, pattern_and, Tree, Trees, no_trees, tree_and, NamedTrees, no_named_trees, named_tree_and, StatementTree, StatementTrees, no_statements, statement_and}
use Rattle.nv_ast.specs.Grammar.{IsLayoutAtom, IsMoreLayouts, IsField, IsAlternative, IsMoreFields, IsMoreAlternatives, IsType, IsMoreTypes, IsMoreNamedTypes, IsPattern, IsMorePatterns, IsExpr, IsMoreExprs, IsMoreMembers, IsStatement, IsStatements}
use Rattle.nv_ast.specs.Grammar.{no_layout, next_layout, no_field, next_field, no_alternative, next_alternative, no_type, next_type, no_named_type, next_named_type, no_pattern, next_pattern, no_expr, next_expr, no_member, next_member, no_statement, next_statement}
use Rattle.nv_ast.specs.LayoutView.{layout_tree, field_tree, list_layouts, list_fields}
use Rattle.nv_ast.specs.TypeView.{type_tree, list_types, list_named_types}
use Rattle.nv_ast.specs.PatternView.{pattern_tree, list_patterns}
use Rattle.nv_ast.specs.ExprView.{tree_of, statement_tree, list_statements, list_trees, list_named_trees}
use Rattle.nv_ast.specs.Height.{layout_height, highest_layout, field_height, highest_field, type_height, highest_type, highest_named_type, pattern_height, highest_pattern, height, highest, highest_named, pattern_inside, pattern_inside_all, pattern_inside_named, statement_height, highest_statement, pattern_inside_statement, pattern_inside_statements}
use Rattle.nv_text_parser.specs.inner.Lists.{LayoutsAfter, FieldsAfter, AlternativesAfter, TypesAfter, NamedTypesAfter, PatternsAfter, ExprsAfter, MembersAfter, StatementsAfter}

-- ---- layouts
abbrev pub snoc_layouttrees : LayoutTrees → LayoutTree → LayoutTrees
snoc_layouttrees no_layouts e = layout_and e no_layouts
snoc_layouttrees (layout_and a as_) e = layout_and a (snoc_layouttrees as_ e)

list_layouts_push : (items : List LayoutText) (i : LayoutText) → list_layouts (items ++ i ∷ []) ≡ snoc_layouttrees (list_layouts items) (layout_tree i)
list_layouts_push [] i = refl
list_layouts_push (j ∷ items) i = ap (layout_and (layout_tree j)) (list_layouts_push items i)

highest_layout_snoc : (all : LayoutTrees) (e : LayoutTree) → highest_layout (snoc_layouttrees all e) ≡ max (highest_layout all) (layout_height e)
highest_layout_snoc no_layouts e = grind arith
highest_layout_snoc (layout_and a all) e = let h = highest_layout_snoc all e in omega arith

-- the highest of one
pub highest_layout_one : (all : List LayoutText) (i : LayoutText) → all ≡ i ∷ [] → highest_layout (list_layouts all) ≡ layout_height (layout_tree i)
highest_layout_one all i e = ap (λ z. highest_layout (list_layouts z)) e ∙ (let h : max (layout_height (layout_tree i)) 0 ≡ layout_height (layout_tree i) = grind arith in h)

-- the highest of one more
pub highest_layout_push : (items all : List LayoutText) (i : LayoutText) → all ≡ items ++ i ∷ [] → highest_layout (list_layouts all) ≡ max (highest_layout (list_layouts items)) (layout_height (layout_tree i))
highest_layout_push items all i e = ap (λ z. highest_layout (list_layouts z)) e ∙ (ap highest_layout (list_layouts_push items i) ∙ highest_layout_snoc (list_layouts items) (layout_tree i))

layouts_on : {all : LayoutTrees} {e : LayoutTree} {s : Span} {ts us vs k : List Token} → IsMoreLayouts all ts us → us ≡ sign_join s ∷ vs → IsLayoutAtom e vs k → IsMoreLayouts (snoc_layouttrees all e) ts k
layouts_on no_layout g d = rw g (next_layout d no_layout)
layouts_on (next_layout b c) g d = next_layout b (layouts_on c g d)

-- nothing is read after the first
pub layouts_start : (all : List LayoutText) (i : LayoutText) (ts : List Token) → all ≡ i ∷ [] → LayoutsAfter (layout_tree i) (list_layouts all) ts ts
layouts_start all i ts e = record { new = no_layouts; list = no_layout; whole = ap list_layouts e }

-- one more is read
pub layouts_step : (items all : List LayoutText) (i : LayoutText) (first : LayoutTree) (s : Span) (ts us vs k : List Token) → LayoutsAfter first (list_layouts items) ts us → us ≡ sign_join s ∷ vs → IsLayoutAtom (layout_tree i) vs k → all ≡ items ++ i ∷ [] → LayoutsAfter first (list_layouts all) ts k
layouts_step items all i first s ts us vs k b g d e = record {
  new = snoc_layouttrees b.new (layout_tree i);
  list = layouts_on b.list g d;
  whole = ap list_layouts e ∙ (list_layouts_push items i ∙ ap (λ z. snoc_layouttrees z (layout_tree i)) b.whole);
}

-- ---- fields
abbrev pub snoc_fieldtrees : FieldTrees → List ℕ → FieldTree → FieldTrees
snoc_fieldtrees no_fields x e = field_and x e no_fields
snoc_fieldtrees (field_and y a as_) x e = field_and y a (snoc_fieldtrees as_ x e)

list_fields_push : (items : List (List ℕ × FieldText)) (i : (List ℕ × FieldText)) → list_fields (items ++ i ∷ []) ≡ snoc_fieldtrees (list_fields items) i.0 (field_tree i.1)
list_fields_push [] i = refl
list_fields_push (j ∷ items) i = ap (field_and j.0 (field_tree j.1)) (list_fields_push items i)

highest_field_snoc : (all : FieldTrees) (x : List ℕ) (e : FieldTree) → highest_field (snoc_fieldtrees all x e) ≡ max (highest_field all) (field_height e)
highest_field_snoc no_fields x e = grind arith
highest_field_snoc (field_and y a all) x e = let h = highest_field_snoc all x e in omega arith

-- the highest of one
pub highest_field_one : (all : List (List ℕ × FieldText)) (i : (List ℕ × FieldText)) → all ≡ i ∷ [] → highest_field (list_fields all) ≡ field_height (field_tree i.1)
highest_field_one all i e = ap (λ z. highest_field (list_fields z)) e ∙ (let h : max (field_height (field_tree i.1)) 0 ≡ field_height (field_tree i.1) = grind arith in h)

-- the highest of one more
pub highest_field_push : (items all : List (List ℕ × FieldText)) (i : (List ℕ × FieldText)) → all ≡ items ++ i ∷ [] → highest_field (list_fields all) ≡ max (highest_field (list_fields items)) (field_height (field_tree i.1))
highest_field_push items all i e = ap (λ z. highest_field (list_fields z)) e ∙ (ap highest_field (list_fields_push items i) ∙ highest_field_snoc (list_fields items) i.0 (field_tree i.1))

fields_on : {all : FieldTrees} {e : FieldTree} {s t u : Span} {x : List ℕ} {ts us vs k : List Token} → IsMoreFields all ts us → us ≡ sign_comma s ∷ a_name t x ∷ sign_colon u ∷ vs → IsField e vs k → IsMoreFields (snoc_fieldtrees all x e) ts k
fields_on no_field g d = rw g (next_field d no_field)
fields_on (next_field b c) g d = next_field b (fields_on c g d)

-- nothing is read after the first
pub fields_start : (all : List (List ℕ × FieldText)) (i : (List ℕ × FieldText)) (ts : List Token) → all ≡ i ∷ [] → FieldsAfter i.0 (field_tree i.1) (list_fields all) ts ts
fields_start all i ts e = record { new = no_fields; list = no_field; whole = ap list_fields e }

-- one more is read
pub fields_step : (items all : List (List ℕ × FieldText)) (i : (List ℕ × FieldText)) (x : List ℕ) (first : FieldTree) (s t u : Span) (ts us as_ bs vs k : List Token) → FieldsAfter x first (list_fields items) ts us → us ≡ sign_comma s ∷ as_ → as_ ≡ a_name t i.0 ∷ bs → bs ≡ sign_colon u ∷ vs → IsField (field_tree i.1) vs k → all ≡ items ++ i ∷ [] → FieldsAfter x first (list_fields all) ts k
fields_step items all i x first s t u ts us as_ bs vs k b g h i' d e = record {
  new = snoc_fieldtrees b.new i.0 (field_tree i.1);
  list = fields_on {s = s} {t = t} {u = u} b.list (rw (g, h, i') refl) d;
  whole = ap list_fields e ∙ (list_fields_push items i ∙ ap (λ z. snoc_fieldtrees z i.0 (field_tree i.1)) b.whole);
}

alternatives_on : {all : FieldTrees} {e : FieldTree} {s t u : Span} {x : List ℕ} {ts us vs k : List Token} → IsMoreAlternatives all ts us → us ≡ sign_bar s ∷ a_name t x ∷ sign_colon u ∷ vs → IsAlternative e vs k → IsMoreAlternatives (snoc_fieldtrees all x e) ts k
alternatives_on no_alternative g d = rw g (next_alternative d no_alternative)
alternatives_on (next_alternative b c) g d = next_alternative b (alternatives_on c g d)

-- nothing is read after the first
pub alternatives_start : (all : List (List ℕ × FieldText)) (i : (List ℕ × FieldText)) (ts : List Token) → all ≡ i ∷ [] → AlternativesAfter i.0 (field_tree i.1) (list_fields all) ts ts
alternatives_start all i ts e = record { new = no_fields; list = no_alternative; whole = ap list_fields e }

-- one more is read
pub alternatives_step : (items all : List (List ℕ × FieldText)) (i : (List ℕ × FieldText)) (x : List ℕ) (first : FieldTree) (s t u : Span) (ts us as_ bs vs k : List Token) → AlternativesAfter x first (list_fields items) ts us → us ≡ sign_bar s ∷ as_ → as_ ≡ a_name t i.0 ∷ bs → bs ≡ sign_colon u ∷ vs → IsAlternative (field_tree i.1) vs k → all ≡ items ++ i ∷ [] → AlternativesAfter x first (list_fields all) ts k
alternatives_step items all i x first s t u ts us as_ bs vs k b g h i' d e = record {
  new = snoc_fieldtrees b.new i.0 (field_tree i.1);
  list = alternatives_on {s = s} {t = t} {u = u} b.list (rw (g, h, i') refl) d;
  whole = ap list_fields e ∙ (list_fields_push items i ∙ ap (λ z. snoc_fieldtrees z i.0 (field_tree i.1)) b.whole);
}

-- ---- types
abbrev pub snoc_typetrees : TypeTrees → TypeTree → TypeTrees
snoc_typetrees no_types e = type_and e no_types
snoc_typetrees (type_and a as_) e = type_and a (snoc_typetrees as_ e)

list_types_push : (items : List TyText) (i : TyText) → list_types (items ++ i ∷ []) ≡ snoc_typetrees (list_types items) (type_tree i)
list_types_push [] i = refl
list_types_push (j ∷ items) i = ap (type_and (type_tree j)) (list_types_push items i)

highest_type_snoc : (all : TypeTrees) (e : TypeTree) → highest_type (snoc_typetrees all e) ≡ max (highest_type all) (type_height e)
highest_type_snoc no_types e = grind arith
highest_type_snoc (type_and a all) e = let h = highest_type_snoc all e in omega arith

-- the highest of one
pub highest_type_one : (all : List TyText) (i : TyText) → all ≡ i ∷ [] → highest_type (list_types all) ≡ type_height (type_tree i)
highest_type_one all i e = ap (λ z. highest_type (list_types z)) e ∙ (let h : max (type_height (type_tree i)) 0 ≡ type_height (type_tree i) = grind arith in h)

-- the highest of one more
pub highest_type_push : (items all : List TyText) (i : TyText) → all ≡ items ++ i ∷ [] → highest_type (list_types all) ≡ max (highest_type (list_types items)) (type_height (type_tree i))
highest_type_push items all i e = ap (λ z. highest_type (list_types z)) e ∙ (ap highest_type (list_types_push items i) ∙ highest_type_snoc (list_types items) (type_tree i))

types_on : {all : TypeTrees} {e : TypeTree} {s : Span} {ts us vs k : List Token} → IsMoreTypes all ts us → us ≡ sign_comma s ∷ vs → IsType e vs k → IsMoreTypes (snoc_typetrees all e) ts k
types_on no_type g d = rw g (next_type d no_type)
types_on (next_type b c) g d = next_type b (types_on c g d)

-- nothing is read after the first
pub types_start : (all : List TyText) (i : TyText) (ts : List Token) → all ≡ i ∷ [] → TypesAfter (type_tree i) (list_types all) ts ts
types_start all i ts e = record { new = no_types; list = no_type; whole = ap list_types e }

-- one more is read
pub types_step : (items all : List TyText) (i : TyText) (first : TypeTree) (s : Span) (ts us vs k : List Token) → TypesAfter first (list_types items) ts us → us ≡ sign_comma s ∷ vs → IsType (type_tree i) vs k → all ≡ items ++ i ∷ [] → TypesAfter first (list_types all) ts k
types_step items all i first s ts us vs k b g d e = record {
  new = snoc_typetrees b.new (type_tree i);
  list = types_on b.list g d;
  whole = ap list_types e ∙ (list_types_push items i ∙ ap (λ z. snoc_typetrees z (type_tree i)) b.whole);
}

-- ---- named types
abbrev pub snoc_namedtypes : NamedTypes → List ℕ → TypeTree → NamedTypes
snoc_namedtypes no_named_types x e = named_type_and x e no_named_types
snoc_namedtypes (named_type_and y a as_) x e = named_type_and y a (snoc_namedtypes as_ x e)

list_named_types_push : (items : List (List ℕ × TyText)) (i : (List ℕ × TyText)) → list_named_types (items ++ i ∷ []) ≡ snoc_namedtypes (list_named_types items) i.0 (type_tree i.1)
list_named_types_push [] i = refl
list_named_types_push (j ∷ items) i = ap (named_type_and j.0 (type_tree j.1)) (list_named_types_push items i)

highest_named_type_snoc : (all : NamedTypes) (x : List ℕ) (e : TypeTree) → highest_named_type (snoc_namedtypes all x e) ≡ max (highest_named_type all) (type_height e)
highest_named_type_snoc no_named_types x e = grind arith
highest_named_type_snoc (named_type_and y a all) x e = let h = highest_named_type_snoc all x e in omega arith

-- the highest of one
pub highest_named_type_one : (all : List (List ℕ × TyText)) (i : (List ℕ × TyText)) → all ≡ i ∷ [] → highest_named_type (list_named_types all) ≡ type_height (type_tree i.1)
highest_named_type_one all i e = ap (λ z. highest_named_type (list_named_types z)) e ∙ (let h : max (type_height (type_tree i.1)) 0 ≡ type_height (type_tree i.1) = grind arith in h)

-- the highest of one more
pub highest_named_type_push : (items all : List (List ℕ × TyText)) (i : (List ℕ × TyText)) → all ≡ items ++ i ∷ [] → highest_named_type (list_named_types all) ≡ max (highest_named_type (list_named_types items)) (type_height (type_tree i.1))
highest_named_type_push items all i e = ap (λ z. highest_named_type (list_named_types z)) e ∙ (ap highest_named_type (list_named_types_push items i) ∙ highest_named_type_snoc (list_named_types items) i.0 (type_tree i.1))

named_types_on : {all : NamedTypes} {e : TypeTree} {s t u : Span} {x : List ℕ} {ts us vs k : List Token} → IsMoreNamedTypes all ts us → us ≡ sign_comma s ∷ a_name t x ∷ sign_colon u ∷ vs → IsType e vs k → IsMoreNamedTypes (snoc_namedtypes all x e) ts k
named_types_on no_named_type g d = rw g (next_named_type d no_named_type)
named_types_on (next_named_type b c) g d = next_named_type b (named_types_on c g d)

-- nothing is read after the first
pub named_types_start : (all : List (List ℕ × TyText)) (i : (List ℕ × TyText)) (ts : List Token) → all ≡ i ∷ [] → NamedTypesAfter i.0 (type_tree i.1) (list_named_types all) ts ts
named_types_start all i ts e = record { new = no_named_types; list = no_named_type; whole = ap list_named_types e }

-- one more is read
pub named_types_step : (items all : List (List ℕ × TyText)) (i : (List ℕ × TyText)) (x : List ℕ) (first : TypeTree) (s t u : Span) (ts us as_ bs vs k : List Token) → NamedTypesAfter x first (list_named_types items) ts us → us ≡ sign_comma s ∷ as_ → as_ ≡ a_name t i.0 ∷ bs → bs ≡ sign_colon u ∷ vs → IsType (type_tree i.1) vs k → all ≡ items ++ i ∷ [] → NamedTypesAfter x first (list_named_types all) ts k
named_types_step items all i x first s t u ts us as_ bs vs k b g h i' d e = record {
  new = snoc_namedtypes b.new i.0 (type_tree i.1);
  list = named_types_on {s = s} {t = t} {u = u} b.list (rw (g, h, i') refl) d;
  whole = ap list_named_types e ∙ (list_named_types_push items i ∙ ap (λ z. snoc_namedtypes z i.0 (type_tree i.1)) b.whole);
}

-- ---- patterns
abbrev pub snoc_patterntrees : PatternTrees → PatternTree → PatternTrees
snoc_patterntrees no_patterns e = pattern_and e no_patterns
snoc_patterntrees (pattern_and a as_) e = pattern_and a (snoc_patterntrees as_ e)

list_patterns_push : (items : List Pat) (i : Pat) → list_patterns (items ++ i ∷ []) ≡ snoc_patterntrees (list_patterns items) (pattern_tree i)
list_patterns_push [] i = refl
list_patterns_push (j ∷ items) i = ap (pattern_and (pattern_tree j)) (list_patterns_push items i)

highest_pattern_snoc : (all : PatternTrees) (e : PatternTree) → highest_pattern (snoc_patterntrees all e) ≡ max (highest_pattern all) (pattern_height e)
highest_pattern_snoc no_patterns e = grind arith
highest_pattern_snoc (pattern_and a all) e = let h = highest_pattern_snoc all e in omega arith

-- the highest of one
pub highest_pattern_one : (all : List Pat) (i : Pat) → all ≡ i ∷ [] → highest_pattern (list_patterns all) ≡ pattern_height (pattern_tree i)
highest_pattern_one all i e = ap (λ z. highest_pattern (list_patterns z)) e ∙ (let h : max (pattern_height (pattern_tree i)) 0 ≡ pattern_height (pattern_tree i) = grind arith in h)

-- the highest of one more
pub highest_pattern_push : (items all : List Pat) (i : Pat) → all ≡ items ++ i ∷ [] → highest_pattern (list_patterns all) ≡ max (highest_pattern (list_patterns items)) (pattern_height (pattern_tree i))
highest_pattern_push items all i e = ap (λ z. highest_pattern (list_patterns z)) e ∙ (ap highest_pattern (list_patterns_push items i) ∙ highest_pattern_snoc (list_patterns items) (pattern_tree i))

patterns_on : {all : PatternTrees} {e : PatternTree} {s : Span} {ts us vs k : List Token} → IsMorePatterns all ts us → us ≡ sign_comma s ∷ vs → IsPattern e vs k → IsMorePatterns (snoc_patterntrees all e) ts k
patterns_on no_pattern g d = rw g (next_pattern d no_pattern)
patterns_on (next_pattern b c) g d = next_pattern b (patterns_on c g d)

-- nothing is read after the first
pub patterns_start : (all : List Pat) (i : Pat) (ts : List Token) → all ≡ i ∷ [] → PatternsAfter (pattern_tree i) (list_patterns all) ts ts
patterns_start all i ts e = record { new = no_patterns; list = no_pattern; whole = ap list_patterns e }

-- one more is read
pub patterns_step : (items all : List Pat) (i : Pat) (first : PatternTree) (s : Span) (ts us vs k : List Token) → PatternsAfter first (list_patterns items) ts us → us ≡ sign_comma s ∷ vs → IsPattern (pattern_tree i) vs k → all ≡ items ++ i ∷ [] → PatternsAfter first (list_patterns all) ts k
patterns_step items all i first s ts us vs k b g d e = record {
  new = snoc_patterntrees b.new (pattern_tree i);
  list = patterns_on b.list g d;
  whole = ap list_patterns e ∙ (list_patterns_push items i ∙ ap (λ z. snoc_patterntrees z (pattern_tree i)) b.whole);
}

-- ---- exprs
abbrev pub snoc_trees : Trees → Tree → Trees
snoc_trees no_trees e = tree_and e no_trees
snoc_trees (tree_and a as_) e = tree_and a (snoc_trees as_ e)

list_trees_push : (items : List Expr) (i : Expr) → list_trees (items ++ i ∷ []) ≡ snoc_trees (list_trees items) (tree_of i)
list_trees_push [] i = refl
list_trees_push (j ∷ items) i = ap (tree_and (tree_of j)) (list_trees_push items i)

highest_snoc : (all : Trees) (e : Tree) → highest (snoc_trees all e) ≡ max (highest all) (height e)
highest_snoc no_trees e = grind arith
highest_snoc (tree_and a all) e = let h = highest_snoc all e in omega arith

-- the highest of one
pub highest_one : (all : List Expr) (i : Expr) → all ≡ i ∷ [] → highest (list_trees all) ≡ height (tree_of i)
highest_one all i e = ap (λ z. highest (list_trees z)) e ∙ (let h : max (height (tree_of i)) 0 ≡ height (tree_of i) = grind arith in h)

-- the highest of one more
pub highest_push : (items all : List Expr) (i : Expr) → all ≡ items ++ i ∷ [] → highest (list_trees all) ≡ max (highest (list_trees items)) (height (tree_of i))
highest_push items all i e = ap (λ z. highest (list_trees z)) e ∙ (ap highest (list_trees_push items i) ∙ highest_snoc (list_trees items) (tree_of i))

exprs_on : {all : Trees} {e : Tree} {s : Span} {ts us vs k : List Token} → IsMoreExprs all ts us → us ≡ sign_comma s ∷ vs → IsExpr e vs k → IsMoreExprs (snoc_trees all e) ts k
exprs_on no_expr g d = rw g (next_expr d no_expr)
exprs_on (next_expr b c) g d = next_expr b (exprs_on c g d)

-- nothing is read after the first
pub exprs_start : (all : List Expr) (i : Expr) (ts : List Token) → all ≡ i ∷ [] → ExprsAfter (tree_of i) (list_trees all) ts ts
exprs_start all i ts e = record { new = no_trees; list = no_expr; whole = ap list_trees e }

-- one more is read
pub exprs_step : (items all : List Expr) (i : Expr) (first : Tree) (s : Span) (ts us vs k : List Token) → ExprsAfter first (list_trees items) ts us → us ≡ sign_comma s ∷ vs → IsExpr (tree_of i) vs k → all ≡ items ++ i ∷ [] → ExprsAfter first (list_trees all) ts k
exprs_step items all i first s ts us vs k b g d e = record {
  new = snoc_trees b.new (tree_of i);
  list = exprs_on b.list g d;
  whole = ap list_trees e ∙ (list_trees_push items i ∙ ap (λ z. snoc_trees z (tree_of i)) b.whole);
}

-- ---- members
abbrev pub snoc_namedtrees : NamedTrees → List ℕ → Tree → NamedTrees
snoc_namedtrees no_named_trees x e = named_tree_and x e no_named_trees
snoc_namedtrees (named_tree_and y a as_) x e = named_tree_and y a (snoc_namedtrees as_ x e)

list_named_trees_push : (items : List (List ℕ × Expr)) (i : (List ℕ × Expr)) → list_named_trees (items ++ i ∷ []) ≡ snoc_namedtrees (list_named_trees items) i.0 (tree_of i.1)
list_named_trees_push [] i = refl
list_named_trees_push (j ∷ items) i = ap (named_tree_and j.0 (tree_of j.1)) (list_named_trees_push items i)

highest_named_snoc : (all : NamedTrees) (x : List ℕ) (e : Tree) → highest_named (snoc_namedtrees all x e) ≡ max (highest_named all) (height e)
highest_named_snoc no_named_trees x e = grind arith
highest_named_snoc (named_tree_and y a all) x e = let h = highest_named_snoc all x e in omega arith

-- the highest of one
pub highest_named_one : (all : List (List ℕ × Expr)) (i : (List ℕ × Expr)) → all ≡ i ∷ [] → highest_named (list_named_trees all) ≡ height (tree_of i.1)
highest_named_one all i e = ap (λ z. highest_named (list_named_trees z)) e ∙ (let h : max (height (tree_of i.1)) 0 ≡ height (tree_of i.1) = grind arith in h)

-- the highest of one more
pub highest_named_push : (items all : List (List ℕ × Expr)) (i : (List ℕ × Expr)) → all ≡ items ++ i ∷ [] → highest_named (list_named_trees all) ≡ max (highest_named (list_named_trees items)) (height (tree_of i.1))
highest_named_push items all i e = ap (λ z. highest_named (list_named_trees z)) e ∙ (ap highest_named (list_named_trees_push items i) ∙ highest_named_snoc (list_named_trees items) i.0 (tree_of i.1))

members_on : {all : NamedTrees} {e : Tree} {s t u : Span} {x : List ℕ} {ts us vs k : List Token} → IsMoreMembers all ts us → us ≡ sign_comma s ∷ a_name t x ∷ sign_is u ∷ vs → IsExpr e vs k → IsMoreMembers (snoc_namedtrees all x e) ts k
members_on no_member g d = rw g (next_member d no_member)
members_on (next_member b c) g d = next_member b (members_on c g d)

-- nothing is read after the first
pub members_start : (all : List (List ℕ × Expr)) (i : (List ℕ × Expr)) (ts : List Token) → all ≡ i ∷ [] → MembersAfter i.0 (tree_of i.1) (list_named_trees all) ts ts
members_start all i ts e = record { new = no_named_trees; list = no_member; whole = ap list_named_trees e }

-- one more is read
pub members_step : (items all : List (List ℕ × Expr)) (i : (List ℕ × Expr)) (x : List ℕ) (first : Tree) (s t u : Span) (ts us as_ bs vs k : List Token) → MembersAfter x first (list_named_trees items) ts us → us ≡ sign_comma s ∷ as_ → as_ ≡ a_name t i.0 ∷ bs → bs ≡ sign_is u ∷ vs → IsExpr (tree_of i.1) vs k → all ≡ items ++ i ∷ [] → MembersAfter x first (list_named_trees all) ts k
members_step items all i x first s t u ts us as_ bs vs k b g h i' d e = record {
  new = snoc_namedtrees b.new i.0 (tree_of i.1);
  list = members_on {s = s} {t = t} {u = u} b.list (rw (g, h, i') refl) d;
  whole = ap list_named_trees e ∙ (list_named_trees_push items i ∙ ap (λ z. snoc_namedtrees z i.0 (tree_of i.1)) b.whole);
}

pattern_inside_all_snoc : (all : Trees) (e : Tree) → pattern_inside e ≤ 100 → pattern_inside_all all ≤ 100 → pattern_inside_all (snoc_trees all e) ≤ 100
pattern_inside_all_snoc no_trees e h g = omega arith
pattern_inside_all_snoc (tree_and a all) e h g = let i = pattern_inside_all_snoc all e h (omega arith) in omega arith

pub pattern_inside_all_one : (all : List Expr) (i : Expr) → all ≡ i ∷ [] → pattern_inside (tree_of i) ≤ 100 → pattern_inside_all (list_trees all) ≤ 100
pattern_inside_all_one all i e h = let g : pattern_inside_all (list_trees all) ≡ pattern_inside_all (list_trees (i ∷ [])) = ap (λ z. pattern_inside_all (list_trees z)) e in omega arith

pub pattern_inside_all_push : (items all : List Expr) (i : Expr) → all ≡ items ++ i ∷ [] → pattern_inside (tree_of i) ≤ 100 → pattern_inside_all (list_trees items) ≤ 100 → pattern_inside_all (list_trees all) ≤ 100
pattern_inside_all_push items all i e h g =
    let s = pattern_inside_all_snoc (list_trees items) (tree_of i) h g in
    let r : pattern_inside_all (list_trees all) ≡ pattern_inside_all (snoc_trees (list_trees items) (tree_of i)) = ap (λ z. pattern_inside_all (list_trees z)) e ∙ ap pattern_inside_all (list_trees_push items i) in
    omega arith

pattern_inside_named_snoc : (all : NamedTrees) (x : List ℕ) (e : Tree) → pattern_inside e ≤ 100 → pattern_inside_named all ≤ 100 → pattern_inside_named (snoc_namedtrees all x e) ≤ 100
pattern_inside_named_snoc no_named_trees x e h g = omega arith
pattern_inside_named_snoc (named_tree_and y a all) x e h g = let i = pattern_inside_named_snoc all x e h (omega arith) in omega arith

pub pattern_inside_named_one : (all : List (List ℕ × Expr)) (i : (List ℕ × Expr)) → all ≡ i ∷ [] → pattern_inside (tree_of i.1) ≤ 100 → pattern_inside_named (list_named_trees all) ≤ 100
pattern_inside_named_one all i e h = let g : pattern_inside_named (list_named_trees all) ≡ pattern_inside_named (list_named_trees (i ∷ [])) = ap (λ z. pattern_inside_named (list_named_trees z)) e in omega arith

pub pattern_inside_named_push : (items all : List (List ℕ × Expr)) (i : (List ℕ × Expr)) → all ≡ items ++ i ∷ [] → pattern_inside (tree_of i.1) ≤ 100 → pattern_inside_named (list_named_trees items) ≤ 100 → pattern_inside_named (list_named_trees all) ≤ 100
pattern_inside_named_push items all i e h g =
    let s = pattern_inside_named_snoc (list_named_trees items) i.0 (tree_of i.1) h g in
    let r : pattern_inside_named (list_named_trees all) ≡ pattern_inside_named (snoc_namedtrees (list_named_trees items) i.0 (tree_of i.1)) = ap (λ z. pattern_inside_named (list_named_trees z)) e ∙ ap pattern_inside_named (list_named_trees_push items i) in
    omega arith

-- ---- statements
abbrev pub snoc_statements : StatementTrees → StatementTree → StatementTrees
snoc_statements no_statements e = statement_and e no_statements
snoc_statements (statement_and a as_) e = statement_and a (snoc_statements as_ e)

list_statements_push : (items : List Stmt) (i : Stmt) → list_statements (items ++ i ∷ []) ≡ snoc_statements (list_statements items) (statement_tree i)
list_statements_push [] i = refl
list_statements_push (j ∷ items) i = ap (statement_and (statement_tree j)) (list_statements_push items i)

highest_statement_snoc : (all : StatementTrees) (e : StatementTree) → highest_statement (snoc_statements all e) ≡ max (highest_statement all) (statement_height e)
highest_statement_snoc no_statements e = grind arith
highest_statement_snoc (statement_and a all) e = let h = highest_statement_snoc all e in omega arith

pub highest_statement_one : (all : List Stmt) (i : Stmt) → all ≡ i ∷ [] → highest_statement (list_statements all) ≡ statement_height (statement_tree i)
highest_statement_one all i e = ap (λ z. highest_statement (list_statements z)) e ∙ (let h : max (statement_height (statement_tree i)) 0 ≡ statement_height (statement_tree i) = grind arith in h)

pub highest_statement_push : (items all : List Stmt) (i : Stmt) → all ≡ items ++ i ∷ [] → highest_statement (list_statements all) ≡ max (highest_statement (list_statements items)) (statement_height (statement_tree i))
highest_statement_push items all i e = ap (λ z. highest_statement (list_statements z)) e ∙ (ap highest_statement (list_statements_push items i) ∙ highest_statement_snoc (list_statements items) (statement_tree i))

pattern_inside_statements_snoc : (all : StatementTrees) (e : StatementTree) → pattern_inside_statement e ≤ 100 → pattern_inside_statements all ≤ 100 → pattern_inside_statements (snoc_statements all e) ≤ 100
pattern_inside_statements_snoc no_statements e h g = omega arith
pattern_inside_statements_snoc (statement_and a all) e h g = let i = pattern_inside_statements_snoc all e h (omega arith) in omega arith

pub pattern_inside_statements_one : (all : List Stmt) (i : Stmt) → all ≡ i ∷ [] → pattern_inside_statement (statement_tree i) ≤ 100 → pattern_inside_statements (list_statements all) ≤ 100
pattern_inside_statements_one all i e h = let g : pattern_inside_statements (list_statements all) ≡ pattern_inside_statements (list_statements (i ∷ [])) = ap (λ z. pattern_inside_statements (list_statements z)) e in omega arith

pub pattern_inside_statements_push : (items all : List Stmt) (i : Stmt) → all ≡ items ++ i ∷ [] → pattern_inside_statement (statement_tree i) ≤ 100 → pattern_inside_statements (list_statements items) ≤ 100 → pattern_inside_statements (list_statements all) ≤ 100
pattern_inside_statements_push items all i e h g =
    let s = pattern_inside_statements_snoc (list_statements items) (statement_tree i) h g in
    let r : pattern_inside_statements (list_statements all) ≡ pattern_inside_statements (snoc_statements (list_statements items) (statement_tree i)) = ap (λ z. pattern_inside_statements (list_statements z)) e ∙ ap pattern_inside_statements (list_statements_push items i) in
    omega arith

statements_on : {all : StatementTrees} {e : StatementTree} {ts us k : List Token} → IsStatements all ts us → IsStatement e us k → IsStatements (snoc_statements all e) ts k
statements_on no_statement d = next_statement d no_statement
statements_on (next_statement b c) d = next_statement b (statements_on c d)

pub statements_start : (all : List Stmt) (i : Stmt) (ts : List Token) → all ≡ i ∷ [] → StatementsAfter (statement_tree i) (list_statements all) ts ts
statements_start all i ts e = record { new = no_statements; list = no_statement; whole = ap list_statements e }

pub statements_step : (items all : List Stmt) (i : Stmt) (first : StatementTree) (ts us k : List Token) → StatementsAfter first (list_statements items) ts us → IsStatement (statement_tree i) us k → all ≡ items ++ i ∷ [] → StatementsAfter first (list_statements all) ts k
statements_step items all i first ts us k b d e = record {
  new = snoc_statements b.new (statement_tree i);
  list = statements_on b.list d;
  whole = ap list_statements e ∙ (list_statements_push items i ∙ ap (λ z. snoc_statements z (statement_tree i)) b.whole);
}

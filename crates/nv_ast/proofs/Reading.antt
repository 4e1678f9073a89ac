-- The tree of a value whose kind the program has read, where it holds a vector of its own kind.
use Rattle.std.proofs.Common.{◌≡◌, ◌∙◌, ap, List, ℕ, Vec, Box, Global}
use Rattle.nv_ast.specs.declared.tree.Expr.{Expr, out-Expr}
use Rattle.nv_ast.specs.declared.tree.Stmt.{Stmt}
use Rattle.nv_ast.specs.declared.tree.Kind.TheViews as kinds
use Rattle.nv_ast.specs.declared.tree.Pat.{Pat}
use Rattle.nv_ast.specs.declared.tree.Pat.TheViews as patterns
use Rattle.nv_ast.specs.declared.tree.TyText.{TyText}
use Rattle.nv_ast.specs.declared.tree.TyText.TheViews as types
use Rattle.nv_ast.specs.declared.tree.LayoutText.{LayoutText}
use Rattle.nv_ast.specs.declared.tree.FieldText.{FieldText}
use Rattle.nv_ast.specs.declared.tree.FieldText.TheViews as layouts
use Rattle.nv_ast.specs.Tree.{TupleTree, FieldsTree, CallTree, RaiseTree, BlockTree, TuplePattern, TupleType, RecordType, PartsLayout, JoinedLayout, OverlayField}
use Rattle.nv_ast.specs.LayoutView.{layout_tree, field_tree, list_layouts, list_fields}
use Rattle.nv_ast.specs.TypeView.{type_tree, list_types, list_named_types}
use Rattle.nv_ast.specs.PatternView.{pattern_tree, list_patterns}
use Rattle.nv_ast.specs.ExprView.{kind_tree, tree_of, list_trees, list_named_trees, list_statements}
use Rattle.nv_ast.proofs.Rows.{layouts_items, fields_items, types_items, named_types_items, patterns_items, trees_items, named_trees_items, statements_items}

pub tuple_is : (e : Expr) (v : Vec Expr Global) → (out-Expr e).kind ≡ kinds.Tuple v → tree_of e ≡ TupleTree (out-Expr e).span (list_trees v.items)
tuple_is e v h = ap (λ k. kind_tree k (out-Expr e).span) h ∙ ap (λ es. TupleTree (out-Expr e).span es) (trees_items v)

pub fields_is : (e : Expr) (v : Vec (List ℕ × Expr) Global) → (out-Expr e).kind ≡ kinds.Fields v → tree_of e ≡ FieldsTree (out-Expr e).span (list_named_trees v.items)
fields_is e v h = ap (λ k. kind_tree k (out-Expr e).span) h ∙ ap (λ es. FieldsTree (out-Expr e).span es) (named_trees_items v)

pub call_is : (e : Expr) (f : List ℕ) (v : Vec Expr Global) → (out-Expr e).kind ≡ kinds.Call f v → tree_of e ≡ CallTree (out-Expr e).span f (list_trees v.items)
call_is e f v h = ap (λ k. kind_tree k (out-Expr e).span) h ∙ ap (λ es. CallTree (out-Expr e).span f es) (trees_items v)

pub raise_is : (e : Expr) (x : List ℕ) (v : Vec Expr Global) → (out-Expr e).kind ≡ kinds.Raise x v → tree_of e ≡ RaiseTree (out-Expr e).span x (list_trees v.items)
raise_is e x v h = ap (λ k. kind_tree k (out-Expr e).span) h ∙ ap (λ es. RaiseTree (out-Expr e).span x es) (trees_items v)

pub block_is : (e : Expr) (v : Vec Stmt Global) (b : Box Expr Global) → (out-Expr e).kind ≡ kinds.Block v b → tree_of e ≡ BlockTree (out-Expr e).span (list_statements v.items) (tree_of b.value)
block_is e v b h = ap (λ k. kind_tree k (out-Expr e).span) h ∙ ap (λ sts. BlockTree (out-Expr e).span sts (tree_of b.value)) (statements_items v)

pub tuple_pattern_is : (p : Pat) (v : Vec Pat Global) → p ≡ patterns.Tuple v → pattern_tree p ≡ TuplePattern (list_patterns v.items)
tuple_pattern_is p v h = ap pattern_tree h ∙ ap (λ ps. TuplePattern ps) (patterns_items v)

pub tuple_type_is : (t : TyText) (v : Vec TyText Global) → t ≡ types.Tuple v → type_tree t ≡ TupleType (list_types v.items)
tuple_type_is t v h = ap type_tree h ∙ ap (λ ts. TupleType ts) (types_items v)

pub record_type_is : (t : TyText) (v : Vec (List ℕ × TyText) Global) → t ≡ types.Fields v → type_tree t ≡ RecordType (list_named_types v.items)
record_type_is t v h = ap type_tree h ∙ ap (λ ts. RecordType ts) (named_types_items v)

pub parts_is : (l : LayoutText) (v : Vec (List ℕ × FieldText) Global) → l ≡ layouts.Parts v → layout_tree l ≡ PartsLayout (list_fields v.items)
parts_is l v h = ap layout_tree h ∙ ap (λ fs. PartsLayout fs) (fields_items v)

pub joined_is : (l : LayoutText) (v : Vec LayoutText Global) → l ≡ layouts.Joined v → layout_tree l ≡ JoinedLayout (list_layouts v.items)
joined_is l v h = ap layout_tree h ∙ ap (λ ls. JoinedLayout ls) (layouts_items v)

pub overlay_is : (f : FieldText) (v : Vec (List ℕ × FieldText) Global) → f ≡ layouts.Overlay v → field_tree f ≡ OverlayField (list_fields v.items)
overlay_is f v h = ap field_tree h ∙ ap (λ fs. OverlayField fs) (fields_items v)

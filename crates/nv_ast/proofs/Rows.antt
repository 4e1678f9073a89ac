-- What a vector inside a tree holds is the list of its items.
use Rattle.std.proofs.Common.{◌≡◌, ◌∙◌, refl, ap, List, ℕ, Vec, Global}
use Rattle.nv_ast.specs.declared.tree.LayoutText.{LayoutText}
use Rattle.nv_ast.specs.declared.tree.FieldText.{FieldText}
use Rattle.nv_ast.specs.declared.tree.TyText.{TyText}
use Rattle.nv_ast.specs.declared.tree.Pat.{Pat}
use Rattle.nv_ast.specs.declared.tree.Expr.{Expr}
use Rattle.nv_ast.specs.declared.tree.Stmt.{Stmt}
use Rattle.nv_ast.specs.declared.tree.FieldText.TheBlock.{Row_of-LayoutText, end_of-LayoutText, more_of-LayoutText, items-the_row-LayoutText, hidden-the_row-LayoutText-1, items_hidden-the_row-LayoutText-1, Row_of-FieldText-Overlay-0-2, end_of-FieldText-Overlay-0-2, more_of-FieldText-Overlay-0-2, items-the_row-FieldText-Overlay-0-2, hidden-the_row-FieldText-Overlay-0-2-0, items_hidden-the_row-FieldText-Overlay-0-2-0}
use Rattle.nv_ast.specs.declared.tree.TyText.TheBlock.{Row_of-TyText, end_of-TyText, more_of-TyText, items-the_row-TyText, hidden-the_row-TyText-0, items_hidden-the_row-TyText-0, Row_of-TyText-Fields-0-2, end_of-TyText-Fields-0-2, more_of-TyText-Fields-0-2, items-the_row-TyText-Fields-0-2, hidden-the_row-TyText-Fields-0-2-1, items_hidden-the_row-TyText-Fields-0-2-1}
use Rattle.nv_ast.specs.declared.tree.Pat.TheBlock.{Row_of-Pat, end_of-Pat, more_of-Pat, items-the_row-Pat, hidden-the_row-Pat-0, items_hidden-the_row-Pat-0}
use Rattle.nv_ast.specs.declared.tree.Kind.TheBlock.{Row_of-Expr, end_of-Expr, more_of-Expr, items-the_row-Expr, hidden-the_row-Expr-0, items_hidden-the_row-Expr-0, Row_of-Kind-Fields-0-2, end_of-Kind-Fields-0-2, more_of-Kind-Fields-0-2, items-the_row-Kind-Fields-0-2, hidden-the_row-Kind-Fields-0-2-1, items_hidden-the_row-Kind-Fields-0-2-1, Row_of-Stmt, end_of-Stmt, more_of-Stmt, items-the_row-Stmt, hidden-the_row-Stmt-2, items_hidden-the_row-Stmt-2}
use Rattle.nv_ast.specs.Tree.{layout_and, field_and, type_and, named_type_and, pattern_and, tree_and, named_tree_and, statement_and}
use Rattle.nv_ast.specs.LayoutView.{layout_tree, field_tree, row_layouts, row_fields, list_layouts, list_fields}
use Rattle.nv_ast.specs.TypeView.{type_tree, row_types, row_named_types, list_types, list_named_types}
use Rattle.nv_ast.specs.PatternView.{pattern_tree, row_patterns, list_patterns}
use Rattle.nv_ast.specs.ExprView.{kind_tree, statement_tree, row_trees, row_named_trees, row_statements, list_trees, list_named_trees, list_statements}

pub layouts_row : {n : _} (row : Row_of-LayoutText n) → row_layouts row ≡ list_layouts (items-the_row-LayoutText n row)
layouts_row end_of-LayoutText = refl
layouts_row (more_of-LayoutText l row) = ap (layout_and (layout_tree l)) (layouts_row row)

pub layouts_items : (v : Vec LayoutText Global) → row_layouts (hidden-the_row-LayoutText-1 v) ≡ list_layouts v.items
layouts_items v = layouts_row (hidden-the_row-LayoutText-1 v) ∙ ap list_layouts (items_hidden-the_row-LayoutText-1 v)

pub fields_row : {n : _} (row : Row_of-FieldText-Overlay-0-2 n) → row_fields row ≡ list_fields (items-the_row-FieldText-Overlay-0-2 n row)
fields_row end_of-FieldText-Overlay-0-2 = refl
fields_row (more_of-FieldText-Overlay-0-2 x f row) = ap (field_and x (field_tree f)) (fields_row row)

pub fields_items : (v : Vec (List ℕ × FieldText) Global) → row_fields (hidden-the_row-FieldText-Overlay-0-2-0 v) ≡ list_fields v.items
fields_items v = fields_row (hidden-the_row-FieldText-Overlay-0-2-0 v) ∙ ap list_fields (items_hidden-the_row-FieldText-Overlay-0-2-0 v)

pub types_row : {n : _} (row : Row_of-TyText n) → row_types row ≡ list_types (items-the_row-TyText n row)
types_row end_of-TyText = refl
types_row (more_of-TyText t row) = ap (type_and (type_tree t)) (types_row row)

pub types_items : (v : Vec TyText Global) → row_types (hidden-the_row-TyText-0 v) ≡ list_types v.items
types_items v = types_row (hidden-the_row-TyText-0 v) ∙ ap list_types (items_hidden-the_row-TyText-0 v)

pub named_types_row : {n : _} (row : Row_of-TyText-Fields-0-2 n) → row_named_types row ≡ list_named_types (items-the_row-TyText-Fields-0-2 n row)
named_types_row end_of-TyText-Fields-0-2 = refl
named_types_row (more_of-TyText-Fields-0-2 x t row) = ap (named_type_and x (type_tree t)) (named_types_row row)

pub named_types_items : (v : Vec (List ℕ × TyText) Global) → row_named_types (hidden-the_row-TyText-Fields-0-2-1 v) ≡ list_named_types v.items
named_types_items v = named_types_row (hidden-the_row-TyText-Fields-0-2-1 v) ∙ ap list_named_types (items_hidden-the_row-TyText-Fields-0-2-1 v)

pub patterns_row : {n : _} (row : Row_of-Pat n) → row_patterns row ≡ list_patterns (items-the_row-Pat n row)
patterns_row end_of-Pat = refl
patterns_row (more_of-Pat p row) = ap (pattern_and (pattern_tree p)) (patterns_row row)

pub patterns_items : (v : Vec Pat Global) → row_patterns (hidden-the_row-Pat-0 v) ≡ list_patterns v.items
patterns_items v = patterns_row (hidden-the_row-Pat-0 v) ∙ ap list_patterns (items_hidden-the_row-Pat-0 v)

pub trees_row : {n : _} (row : Row_of-Expr n) → row_trees row ≡ list_trees (items-the_row-Expr n row)
trees_row end_of-Expr = refl
trees_row (more_of-Expr s k row) = ap (tree_and (kind_tree k s)) (trees_row row)

pub trees_items : (v : Vec Expr Global) → row_trees (hidden-the_row-Expr-0 v) ≡ list_trees v.items
trees_items v = trees_row (hidden-the_row-Expr-0 v) ∙ ap list_trees (items_hidden-the_row-Expr-0 v)

pub named_trees_row : {n : _} (row : Row_of-Kind-Fields-0-2 n) → row_named_trees row ≡ list_named_trees (items-the_row-Kind-Fields-0-2 n row)
named_trees_row end_of-Kind-Fields-0-2 = refl
named_trees_row (more_of-Kind-Fields-0-2 x s k row) = ap (named_tree_and x (kind_tree k s)) (named_trees_row row)

pub named_trees_items : (v : Vec (List ℕ × Expr) Global) → row_named_trees (hidden-the_row-Kind-Fields-0-2-1 v) ≡ list_named_trees v.items
named_trees_items v = named_trees_row (hidden-the_row-Kind-Fields-0-2-1 v) ∙ ap list_named_trees (items_hidden-the_row-Kind-Fields-0-2-1 v)

pub statements_row : {n : _} (row : Row_of-Stmt n) → row_statements row ≡ list_statements (items-the_row-Stmt n row)
statements_row end_of-Stmt = refl
statements_row (more_of-Stmt st row) = ap (statement_and (statement_tree st)) (statements_row row)

pub statements_items : (v : Vec Stmt Global) → row_statements (hidden-the_row-Stmt-2 v) ≡ list_statements v.items
statements_items v = statements_row (hidden-the_row-Stmt-2 v) ∙ ap list_statements (items_hidden-the_row-Stmt-2 v)

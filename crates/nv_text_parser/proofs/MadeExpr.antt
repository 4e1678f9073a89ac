-- What is made of a vector's parts: expressions.
use Rattle.std.proofs.Common.{◌≡◌, ◌∙◌, refl, sym, ap, Vec, Global, ℕ, List}
use Rattle.nv_ast.specs.declared.tree.Op.{Op}
use Rattle.nv_ast.specs.Tokens.{to}
use Rattle.nv_ast.specs.declared.tree.Kind.{Kind}
use Rattle.nv_ast.specs.declared.tree.Kind.TheVariants.{Number, Truth, Var, Paren', Tuple', Fields', Dot', Invert', Negate', Binary', Shift', Call', Unpack', Pack', Raise', If', Try', Fetch', Block'}
use Rattle.nv_ast.specs.declared.token.Span.{Span}
use Rattle.nv_ast.specs.declared.tree.Expr.{Expr}
use Rattle.nv_ast.specs.declared.tree.Stmt.{Stmt}
use Rattle.nv_ast.specs.declared.tree.Kind.TheBlock.{hidden-the_row-Expr-0, hidden-the_row-Kind-Fields-0-2-1, hidden-the_row-Stmt-2}
use Rattle.nv_ast.specs.Tree.{Tree, TupleTree, FieldsTree, CallTree, RaiseTree, BlockTree, BinaryTree, span_of}
use Rattle.nv_ast.specs.ExprView.{kind_tree, tree_of, row_trees, row_named_trees, row_statements, list_trees, list_named_trees, list_statements}
use Rattle.nv_ast.proofs.Rows.{trees_items, named_trees_items, statements_items}

pub tuple_made : (s : Span) (v : Vec Expr Global) → TupleTree s (row_trees (hidden-the_row-Expr-0 v)) ≡ TupleTree s (list_trees v.items)
tuple_made s v = ap (TupleTree s) (trees_items v)

pub fields_made : (s : Span) (v : Vec (List ℕ × Expr) Global) → FieldsTree s (row_named_trees (hidden-the_row-Kind-Fields-0-2-1 v)) ≡ FieldsTree s (list_named_trees v.items)
fields_made s v = ap (FieldsTree s) (named_trees_items v)

pub call_made : (s : Span) (x : List ℕ) (v : Vec Expr Global) → CallTree s x (row_trees (hidden-the_row-Expr-0 v)) ≡ CallTree s x (list_trees v.items)
call_made s x v = ap (CallTree s x) (trees_items v)

pub raise_made : (s : Span) (x : List ℕ) (v : Vec Expr Global) → RaiseTree s x (row_trees (hidden-the_row-Expr-0 v)) ≡ RaiseTree s x (list_trees v.items)
raise_made s x v = ap (RaiseTree s x) (trees_items v)

pub block_made : (s : Span) (v : Vec Stmt Global) (e : Tree) → BlockTree s (row_statements (hidden-the_row-Stmt-2 v)) e ≡ BlockTree s (list_statements v.items) e
block_made s v e = ap (λ z. BlockTree s z e) (statements_items v)

-- an expression's span
pub kind_span : (k : Kind) (s : Span) → span_of (kind_tree k s) ≡ s
kind_span (Number n) s = refl
kind_span (Truth b) s = refl
kind_span (Var x) s = refl
kind_span (Paren' p t k) s = refl
kind_span (Tuple' v row) s = refl
kind_span (Fields' v row) s = refl
kind_span (Dot' p t k x) s = refl
kind_span (Invert' p t k) s = refl
kind_span (Negate' p t k) s = refl
kind_span (Binary' op p t k q u l) s = refl
kind_span (Shift' op p t k n) s = refl
kind_span (Call' f v row) s = refl
kind_span (Unpack' x p t k) s = refl
kind_span (Pack' x p t k) s = refl
kind_span (Raise' x v row) s = refl
kind_span (If' p t k q u l r w m) s = refl
kind_span (Try' p t k x ps q u l) s = refl
kind_span (Fetch' m n p t k) s = refl
kind_span (Block' v row p t k) s = refl

pub binary_made : (s : Span) (op : Op) (a b c d : Expr) → s ≡ to c.span d.span → a ≡ c → b ≡ d → BinaryTree s op (tree_of a) (tree_of b) ≡ BinaryTree (to (span_of (tree_of c)) (span_of (tree_of d))) op (tree_of c) (tree_of d)
binary_made s op a b c d e p q =
    let i : s ≡ to (span_of (tree_of c)) (span_of (tree_of d)) = e ∙ (ap (λ z. to z d.span) (sym (kind_span c.kind c.span)) ∙ ap (λ z. to (span_of (tree_of c)) z) (sym (kind_span d.kind d.span))) in
    ap (λ z. BinaryTree z op (tree_of a) (tree_of b)) i ∙ (ap (λ z. BinaryTree (to (span_of (tree_of c)) (span_of (tree_of d))) op (tree_of z) (tree_of b)) p ∙ ap (λ z. BinaryTree (to (span_of (tree_of c)) (span_of (tree_of d))) op (tree_of c) (tree_of z)) q)

pub whole_block_made : (s t : Span) (v : Vec Stmt Global) (a b : Expr) → s ≡ to t b.span → a ≡ b → BlockTree s (row_statements (hidden-the_row-Stmt-2 v)) (tree_of a) ≡ BlockTree (to t (span_of (tree_of b))) (list_statements v.items) (tree_of b)
whole_block_made s t v a b e p =
    block_made s v (tree_of a) ∙ (ap (λ z. BlockTree z (list_statements v.items) (tree_of a)) (e ∙ ap (λ z. to t z) (sym (kind_span b.kind b.span))) ∙ ap (λ z. BlockTree (to t (span_of (tree_of b))) (list_statements v.items) (tree_of z)) p)

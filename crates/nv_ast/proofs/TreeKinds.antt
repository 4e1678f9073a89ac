-- The tree of an expression or statement whose kind the program has read.
use Rattle.std.proofs.Common.{◌≡◌, ◌∙◌, sym, ap, ℕ, Bool, List, Vec, Box, Global}
use Rattle.nv_base.specs.declared.term.Mem.{Mem}
use Rattle.nv_ast.specs.declared.token.Span.{Span}
use Rattle.nv_ast.specs.declared.tree.Op.{Op}
use Rattle.nv_ast.specs.declared.tree.ShiftOp.{ShiftOp}
use Rattle.nv_ast.specs.declared.tree.Expr.{Expr, out-Expr}
use Rattle.nv_ast.specs.declared.tree.Stmt.{Stmt}
use Rattle.nv_ast.specs.declared.tree.Pat.{Pat}
use Rattle.nv_ast.specs.declared.tree.Kind.TheVariants as variants
use Rattle.nv_ast.specs.declared.tree.Kind.TheViews as kinds
use Rattle.nv_ast.specs.ExprView.{kind_tree, statement_tree, tree_of, list_trees, list_named_trees, list_statements}
use Rattle.nv_ast.specs.PatternView.{pattern_tree, list_patterns}
use Rattle.nv_ast.specs.Tree.{NumberTree, TruthTree, VarTree, ParenTree, TupleTree, FieldsTree, DotTree, InvertTree, NegateTree, BinaryTree, ShiftTree, CallTree, UnpackTree, PackTree, RaiseTree, IfTree, TryTree, FetchTree, BlockTree, LetStatement, StoreStatement}
use Rattle.nv_ast.proofs.Reading.{tuple_is, fields_is, call_is, raise_is, block_is}

pub number-is : (e : Expr) (n : ℕ) → (out-Expr e).kind ≡ variants.Number n → tree_of e ≡ NumberTree (out-Expr e).span n
number-is e n h = ap (λ k. kind_tree k (out-Expr e).span) h

pub truth-is : (e : Expr) (b : Bool) → (out-Expr e).kind ≡ variants.Truth b → tree_of e ≡ TruthTree (out-Expr e).span b
truth-is e b h = ap (λ k. kind_tree k (out-Expr e).span) h

pub variable-is : (e : Expr) (x : List ℕ) → (out-Expr e).kind ≡ variants.Var x → tree_of e ≡ VarTree (out-Expr e).span x
variable-is e x h = ap (λ k. kind_tree k (out-Expr e).span) h

pub paren-is : (e : Expr) (a : Box Expr Global) (a' : Expr) → (out-Expr e).kind ≡ kinds.Paren a → a' ≡ a.value → tree_of e ≡ ParenTree (out-Expr e).span (tree_of a')
paren-is e a a' h ha = ap (λ k. kind_tree k (out-Expr e).span) h ∙ ap (λ t. ParenTree (out-Expr e).span (tree_of t)) (sym ha)

pub dot-is : (e : Expr) (a : Box Expr Global) (x : List ℕ) (a' : Expr) → (out-Expr e).kind ≡ kinds.Dot a x → a' ≡ a.value → tree_of e ≡ DotTree (out-Expr e).span (tree_of a') x
dot-is e a x a' h ha = ap (λ k. kind_tree k (out-Expr e).span) h ∙ ap (λ t. DotTree (out-Expr e).span (tree_of t) x) (sym ha)

pub invert-is : (e : Expr) (a : Box Expr Global) (a' : Expr) → (out-Expr e).kind ≡ kinds.Invert a → a' ≡ a.value → tree_of e ≡ InvertTree (out-Expr e).span (tree_of a')
invert-is e a a' h ha = ap (λ k. kind_tree k (out-Expr e).span) h ∙ ap (λ t. InvertTree (out-Expr e).span (tree_of t)) (sym ha)

pub negate-is : (e : Expr) (a : Box Expr Global) (a' : Expr) → (out-Expr e).kind ≡ kinds.Negate a → a' ≡ a.value → tree_of e ≡ NegateTree (out-Expr e).span (tree_of a')
negate-is e a a' h ha = ap (λ k. kind_tree k (out-Expr e).span) h ∙ ap (λ t. NegateTree (out-Expr e).span (tree_of t)) (sym ha)

pub shift-is : (e : Expr) (op : ShiftOp) (a : Box Expr Global) (n : ℕ) (a' : Expr) → (out-Expr e).kind ≡ kinds.Shift op a n → a' ≡ a.value → tree_of e ≡ ShiftTree (out-Expr e).span op (tree_of a') n
shift-is e op a n a' h ha = ap (λ k. kind_tree k (out-Expr e).span) h ∙ ap (λ t. ShiftTree (out-Expr e).span op (tree_of t) n) (sym ha)

pub unpack-is : (e : Expr) (x : List ℕ) (a : Box Expr Global) (a' : Expr) → (out-Expr e).kind ≡ kinds.Unpack x a → a' ≡ a.value → tree_of e ≡ UnpackTree (out-Expr e).span x (tree_of a')
unpack-is e x a a' h ha = ap (λ k. kind_tree k (out-Expr e).span) h ∙ ap (λ t. UnpackTree (out-Expr e).span x (tree_of t)) (sym ha)

pub pack-is : (e : Expr) (x : List ℕ) (a : Box Expr Global) (a' : Expr) → (out-Expr e).kind ≡ kinds.Pack x a → a' ≡ a.value → tree_of e ≡ PackTree (out-Expr e).span x (tree_of a')
pack-is e x a a' h ha = ap (λ k. kind_tree k (out-Expr e).span) h ∙ ap (λ t. PackTree (out-Expr e).span x (tree_of t)) (sym ha)

pub fetch-is : (e : Expr) (m : Mem) (n : ℕ) (a : Box Expr Global) (a' : Expr) → (out-Expr e).kind ≡ kinds.Fetch m n a → a' ≡ a.value → tree_of e ≡ FetchTree (out-Expr e).span m n (tree_of a')
fetch-is e m n a a' h ha = ap (λ k. kind_tree k (out-Expr e).span) h ∙ ap (λ t. FetchTree (out-Expr e).span m n (tree_of t)) (sym ha)

pub binary-is : (e : Expr) (op : Op) (a : Box Expr Global) (b : Box Expr Global) (a' : Expr) (b' : Expr) → (out-Expr e).kind ≡ kinds.Binary op a b → a' ≡ a.value → b' ≡ b.value → tree_of e ≡ BinaryTree (out-Expr e).span op (tree_of a') (tree_of b')
binary-is e op a b a' b' h ha hb = ap (λ k. kind_tree k (out-Expr e).span) h ∙ ap (λ t. BinaryTree (out-Expr e).span op (tree_of t) (tree_of b.value)) (sym ha) ∙ ap (λ t. BinaryTree (out-Expr e).span op (tree_of a') (tree_of t)) (sym hb)

pub if-is : (e : Expr) (c : Box Expr Global) (a : Box Expr Global) (b : Box Expr Global) (c' : Expr) (a' : Expr) (b' : Expr) → (out-Expr e).kind ≡ kinds.If c a b → c' ≡ c.value → a' ≡ a.value → b' ≡ b.value → tree_of e ≡ IfTree (out-Expr e).span (tree_of c') (tree_of a') (tree_of b')
if-is e c a b c' a' b' h hc ha hb = ap (λ k. kind_tree k (out-Expr e).span) h ∙ ap (λ t. IfTree (out-Expr e).span (tree_of t) (tree_of a.value) (tree_of b.value)) (sym hc) ∙ ap (λ t. IfTree (out-Expr e).span (tree_of c') (tree_of t) (tree_of b.value)) (sym ha) ∙ ap (λ t. IfTree (out-Expr e).span (tree_of c') (tree_of a') (tree_of t)) (sym hb)

pub try-is : (e : Expr) (a : Box Expr Global) (x : List ℕ) (ps : Vec Pat Global) (b : Box Expr Global) (a' : Expr) (qs : List Pat) (b' : Expr) → (out-Expr e).kind ≡ kinds.Try a x ps b → a' ≡ a.value → qs ≡ ps.items → b' ≡ b.value → tree_of e ≡ TryTree (out-Expr e).span (tree_of a') x (list_patterns qs) (tree_of b')
try-is e a x ps b a' qs b' h ha hqs hb = ap (λ k. kind_tree k (out-Expr e).span) h ∙ ap (λ t. TryTree (out-Expr e).span (tree_of t) x (list_patterns ps.items) (tree_of b.value)) (sym ha) ∙ ap (λ q. TryTree (out-Expr e).span (tree_of a') x (list_patterns q) (tree_of b.value)) (sym hqs) ∙ ap (λ t. TryTree (out-Expr e).span (tree_of a') x (list_patterns qs) (tree_of t)) (sym hb)

pub tuple-is : (e : Expr) (v : Vec Expr Global) (es : List Expr) → (out-Expr e).kind ≡ kinds.Tuple v → es ≡ v.items → tree_of e ≡ TupleTree (out-Expr e).span (list_trees es)
tuple-is e v es h hes = tuple_is e v h ∙ ap (λ l. TupleTree (out-Expr e).span (list_trees l)) (sym hes)

pub record-is : (e : Expr) (v : Vec (List ℕ × Expr) Global) (es : List (List ℕ × Expr)) → (out-Expr e).kind ≡ kinds.Fields v → es ≡ v.items → tree_of e ≡ FieldsTree (out-Expr e).span (list_named_trees es)
record-is e v es h hes = fields_is e v h ∙ ap (λ l. FieldsTree (out-Expr e).span (list_named_trees l)) (sym hes)

pub call-is : (e : Expr) (f : List ℕ) (v : Vec Expr Global) (es : List Expr) → (out-Expr e).kind ≡ kinds.Call f v → es ≡ v.items → tree_of e ≡ CallTree (out-Expr e).span f (list_trees es)
call-is e f v es h hes = call_is e f v h ∙ ap (λ l. CallTree (out-Expr e).span f (list_trees l)) (sym hes)

pub raise-is : (e : Expr) (x : List ℕ) (v : Vec Expr Global) (es : List Expr) → (out-Expr e).kind ≡ kinds.Raise x v → es ≡ v.items → tree_of e ≡ RaiseTree (out-Expr e).span x (list_trees es)
raise-is e x v es h hes = raise_is e x v h ∙ ap (λ l. RaiseTree (out-Expr e).span x (list_trees l)) (sym hes)

pub block-is : (e : Expr) (v : Vec Stmt Global) (b : Box Expr Global) (sts : List Stmt) (b' : Expr) → (out-Expr e).kind ≡ kinds.Block v b → sts ≡ v.items → b' ≡ b.value → tree_of e ≡ BlockTree (out-Expr e).span (list_statements sts) (tree_of b')
block-is e v b sts b' h hsts hb = block_is e v b h ∙ ap (λ l. BlockTree (out-Expr e).span (list_statements l) (tree_of b.value)) (sym hsts) ∙ ap (λ t. BlockTree (out-Expr e).span (list_statements sts) (tree_of t)) (sym hb)

-- ---- statements
pub let-is : (st : Stmt) (p : Pat) (e : Expr) (s : Span) → st ≡ kinds.Let p e s → statement_tree st ≡ LetStatement s (pattern_tree p) (tree_of e)
let-is st p e s h = ap statement_tree h

pub store-is : (st : Stmt) (m : Mem) (a e : Expr) (s : Span) → st ≡ kinds.Store m a e s → statement_tree st ≡ StoreStatement s m (tree_of a) (tree_of e)
store-is st m a e s h = ap statement_tree h

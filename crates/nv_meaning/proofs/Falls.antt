-- What the interpreter's recursion goes down by: the calls that are left, and the text.
use Rattle.std.proofs.Common.{◌≡◌, ℕ, zero, suc, ◌+◌, ◌-◌, ◌*◌, ◌^◌, ◌<◌, ◌≤◌, Bool, true, false, List, [], ◌∷◌, refl, sym, ap, ◌∙◌, drop, length, get_or, if◌then◌else◌, Some, bytes_eq, arith}
use Rattle.std.proofs.Math.Nat.{mul-le-mul_right}
use Rattle.std.proofs.lemmas.Option.{same_Some, none-some}
use Rattle.nv_ast.specs.declared.tree.Expr.{Expr}
use Rattle.nv_ast.specs.declared.tree.Stmt.{Stmt}
use Rattle.nv_ast.specs.ExprView.{tree_of, list_trees, list_named_trees, list_statements, statement_tree}
use Rattle.nv_ast.specs.Tree.{FunTree}
use Rattle.nv_meaning.specs.Meaning.{function_in}
use Rattle.nv_meaning.specs.inner.Weight.{weight, weight_all, weight_named, weight_statement, weight_statements, span}
use Rattle.nv_ast.proofs.Items.{next_item}
use Rattle.nv_base.specs.Words.{word}

-- the word of a number that is one
pub word-same : (n : ℕ) → n < 2 ^ 32 → word n ≡ n
word-same n h = omega arith

-- no more calls, and less text
pub falls : (a b s x y : ℕ) → a ≤ b → x < y → a * s + x < b * s + y
falls a b s x y le less = let m : a * s ≤ b * s = mul-le-mul_right s le in omega arith

-- no more calls, and some text less
pub falls_all : (a b s y : ℕ) → a ≤ b → 0 < y → a * s < b * s + y
falls_all a b s y le less = let m : a * s ≤ b * s = mul-le-mul_right s le in omega arith

one_more : (l m : ℕ) → 0 < l → (l - 1) * m + m ≡ l * m
one_more zero m h = absurd (omega arith)
one_more (suc l) m h = let z : suc l - 1 ≡ l = omega arith in rw z (omega arith)

-- a call less, and any body
pub falls_call : (l b m x : ℕ) → 0 < l → l ≤ b → x < m → (l - 1) * m + x < b * m
falls_call l b m x some le below =
    let k : l * m ≤ b * m = mul-le-mul_right m le in
    let e : (l - 1) * m + m ≡ l * m = one_more l m some in
    omega arith

span-some : (fs : List FunTree) → 0 < span fs
span-some [] = omega arith
span-some (f ∷ fs) = let h : 0 < span fs = span-some fs in omega arith

pub body-below : (fs : List FunTree) (x : List ℕ) (g : FunTree) → function_in fs x ≡ Some g → 8 * weight g.body < span fs
body-below [] x g is = absurd (none-some g is)
body-below (h ∷ fs) x g is = by (bytes_eq x h.name) refl (λ e. body-below fs x g e)
  where
    by : (b : Bool) → bytes_eq x h.name ≡ b → (function_in fs x ≡ Some g → 8 * weight g.body < span fs) → 8 * weight g.body < span (h ∷ fs)
    by true e next =
        let k : h ≡ g = same_Some h g (sym (ap (λ b. if b then Some h else function_in fs x) e) ∙ is) in
        let w : weight h.body ≡ weight g.body = ap (λ z. weight z.body) k in
        let s : 0 < span fs = span-some fs in
        omega arith
    by false e next =
        let r : 8 * weight g.body < span fs = next (sym (ap (λ b. if b then Some h else function_in fs x) e) ∙ is) in
        omega arith

-- ---- an item is no heavier than its list
rest-all : (es : List Expr) (i : ℕ) → weight_all (list_trees (drop i es)) ≤ weight_all (list_trees es)
rest-all es zero = omega arith
rest-all [] (suc i) = omega arith
rest-all (e ∷ es) (suc i) = let r : weight_all (list_trees (drop i es)) ≤ weight_all (list_trees es) = rest-all es i in omega arith

pub item-weight : (es : List Expr) (i : ℕ) (t : Expr) → i < length es → t ≡ get_or es i t → weight (tree_of t) ≤ weight_all (list_trees es)
item-weight es i t h is =
    let r : weight_all (list_trees (drop i es)) ≤ weight_all (list_trees es) = rest-all es i in
    let d : weight_all (list_trees (drop i es)) ≡ weight (tree_of t) + weight_all (list_trees (drop (i + 1) es)) = ap (λ l. weight_all (list_trees l)) (next_item es i t h is) in
    omega arith

rest-named : (es : List (List ℕ × Expr)) (i : ℕ) → weight_named (list_named_trees (drop i es)) ≤ weight_named (list_named_trees es)
rest-named es zero = omega arith
rest-named [] (suc i) = omega arith
rest-named (e ∷ es) (suc i) = let r : weight_named (list_named_trees (drop i es)) ≤ weight_named (list_named_trees es) = rest-named es i in omega arith

pub item-weight_named : (es : List (List ℕ × Expr)) (i : ℕ) (t : List ℕ × Expr) → i < length es → t ≡ get_or es i t → weight (tree_of t.1) ≤ weight_named (list_named_trees es)
item-weight_named es i t h is =
    let r : weight_named (list_named_trees (drop i es)) ≤ weight_named (list_named_trees es) = rest-named es i in
    let d : weight_named (list_named_trees (drop i es)) ≡ weight (tree_of t.1) + weight_named (list_named_trees (drop (i + 1) es)) = ap (λ l. weight_named (list_named_trees l)) (next_item es i t h is) in
    omega arith

rest-statements : (sts : List Stmt) (i : ℕ) → weight_statements (list_statements (drop i sts)) ≤ weight_statements (list_statements sts)
rest-statements sts zero = omega arith
rest-statements [] (suc i) = omega arith
rest-statements (st ∷ sts) (suc i) = let r : weight_statements (list_statements (drop i sts)) ≤ weight_statements (list_statements sts) = rest-statements sts i in omega arith

pub item-weight_statement : (sts : List Stmt) (i : ℕ) (st : Stmt) → i < length sts → st ≡ get_or sts i st → weight_statement (statement_tree st) ≤ weight_statements (list_statements sts)
item-weight_statement sts i st h is =
    let r : weight_statements (list_statements (drop i sts)) ≤ weight_statements (list_statements sts) = rest-statements sts i in
    let d : weight_statements (list_statements (drop i sts)) ≡ weight_statement (statement_tree st) + weight_statements (list_statements (drop (i + 1) sts)) = ap (λ l. weight_statements (list_statements l)) (next_item sts i st h is) in
    omega arith

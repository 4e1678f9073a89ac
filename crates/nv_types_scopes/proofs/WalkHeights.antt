-- No item of a list is higher than the highest.
use Rattle.std.proofs.Common.{◌≡◌, ◌≤◌, ◌<◌, ℕ, zero, suc, List, [], ◌∷◌, length, get_or, ap, arith}
use Rattle.nv_ast.specs.declared.tree.Expr.{Expr}
use Rattle.nv_ast.specs.ExprView.{tree_of, list_trees, list_named_trees}
use Rattle.nv_ast.specs.Height.{height, highest, highest_named}

pub expr_within : (xs : List Expr) (i : ℕ) (e : Expr) → i < length xs → e ≡ get_or xs i e → height (tree_of e) ≤ highest (list_trees xs)
expr_within [] i e h is = absurd (omega (arith, h))
expr_within (x ∷ xs) zero e h is = omega (arith, ap (λ (y : Expr). height (tree_of y)) is)
expr_within (x ∷ xs) (suc i) e h is = omega (arith, expr_within xs i e (omega (arith, h)) is)

pub named_within : (xs : List (List ℕ × Expr)) (i : ℕ) (e : List ℕ × Expr) → i < length xs → e ≡ get_or xs i e → height (tree_of e.1) ≤ highest_named (list_named_trees xs)
named_within [] i e h is = absurd (omega (arith, h))
named_within (x ∷ xs) zero e h is = omega (arith, ap (λ (y : List ℕ × Expr). height (tree_of y.1)) is)
named_within (x ∷ xs) (suc i) e h is = omega (arith, named_within xs i e (omega (arith, h)) is)

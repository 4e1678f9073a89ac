-- Names in patterns one after another.
use Rattle.std.proofs.Common.{◌≡◌, ◌∙◌, refl, ap, sym, ℕ, ◌+◌, ◌<◌, List, [], ◌∷◌, ◌++◌, take, length, get_or, append_assoc, append-nil, Vec, Global}
use Rattle.nv_ast.specs.declared.tree.Pat
use Rattle.nv_ast.specs.declared.tree.Pat.{Pat}
use Rattle.nv_ast.specs.Tree.{TuplePattern}
use Rattle.nv_ast.specs.PatternView.{pattern_tree, list_patterns}
use Rattle.nv_ast.specs.Scope.{names_in, names_in_all}
use Rattle.nv_ast.proofs.Rows.{patterns_items}
use Rattle.nv_ast.proofs.Items.{take_item}

pub tuple_pattern : (v : Vec Pat Global) → pattern_tree (Pat.Tuple v) ≡ TuplePattern (list_patterns v.items)
tuple_pattern v = ap TuplePattern (patterns_items v)

names-append : (xs ys : List Pat) → names_in_all (list_patterns (xs ++ ys)) ≡ names_in_all (list_patterns xs) ++ names_in_all (list_patterns ys)
names-append [] ys = refl
names-append (x ∷ xs) ys = ap (λ l. names_in (pattern_tree x) ++ l) (names-append xs ys) ∙ sym (append_assoc (names_in (pattern_tree x)) (names_in_all (list_patterns xs)) (names_in_all (list_patterns ys)))

pub names_more : (xs : List Pat) (i : ℕ) (p : Pat) → i < length xs → p ≡ get_or xs i p → names_in_all (list_patterns (take (i + 1) xs)) ≡ names_in_all (list_patterns (take i xs)) ++ names_in (pattern_tree p)
names_more xs i p h e =
    ap (λ l. names_in_all (list_patterns l)) (take_item xs i p h e) ∙ names-append (take i xs) (p ∷ []) ∙ ap (λ l. names_in_all (list_patterns (take i xs)) ++ l) (append-nil (names_in (pattern_tree p)))

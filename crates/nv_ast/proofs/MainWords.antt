-- The parameters of main have at most 8 words.
use Rattle.std.proofs.Common.{◌≡◌, ◌∙◌, refl, subst, ℕ, ◌≤◌, Bool, true, false, cond, ◌||◌, List, [], ◌∷◌, ◌++◌, arith, nat_lt, bytes_eq, Some}
use Rattle.std.specs.Cmp.Lexicographic.{nat_list_eq_equiv}
use Rattle.std.proofs.lemmas.Bool.{ltb-false, or_parts}
use Rattle.nv_ast.specs.Tree.{FunTree, DeclTree, LayoutDecl, ExceptionDecl, GroupDecl}
use Rattle.nv_ast.specs.Tests.{names_of, look_up}
use Rattle.nv_ast.specs.Outline.{Layouts}
use Rattle.nv_ast.specs.Types.{total_named_words, some_named_bool, words}
use Rattle.nv_ast.specs.Scope.{Signature, Known, nothing_known, signature, signatures, in_group, known_after}
use Rattle.nv_ast.specs.Faults.{main_name, at_span, named_types_faults, type_faults, variable_twice, type_names, wide_main, name_faults, signature_faults, signatures_faults, bodies_faults, decl_faults, decls_faults, known_behind, no_main}
use Rattle.nv_ast.specs.Sizes.{signature_words}
use Rattle.nv_ast.specs.Laws.{MainIsNarrow}
use Rattle.nv_ast.proofs.Faultless.{no_front, no_rest, no_kinds, not_where}

narrow_signature : (layouts : Layouts) (f : FunTree) (b : Bool) → bytes_eq f.name main_name ≡ b → signature_faults layouts f ≡ [] → b ≡ true → total_named_words (signature layouts f).params ≤ 8
narrow_signature layouts f b is e yes_ =
    let kinds = no_kinds f.span _ e in
    let own = no_rest (variable_twice (type_names f.params)) _ (no_rest (type_faults layouts f.result) _ (no_rest (named_types_faults layouts f.params) _ kinds)) in
    let g = signature layouts f in
    let wide : wide_main g ≡ [] = subst (λ t. cond t (wide_main g) [] ≡ []) (is ∙ yes_) own in
    ltb-false 8 (total_named_words g.params) (or_parts (nat_lt 8 (total_named_words g.params)) (some_named_bool g.params || nat_lt 8 (words g.result)) (not_where _ 23 wide)).0

narrow_signatures : (layouts : Layouts) (fs : List FunTree) → signatures_faults layouts fs ≡ [] → signature_words (look_up main_name (signatures layouts fs)) ≤ 8
narrow_signatures layouts [] e = omega arith
narrow_signatures layouts (f ∷ fs) e = by (bytes_eq main_name f.name) (narrow_signatures layouts fs (no_rest (signature_faults layouts f) (signatures_faults layouts fs) e)) refl
  where
    by : (b : Bool) → signature_words (look_up main_name (signatures layouts fs)) ≤ 8 → bytes_eq main_name f.name ≡ b → signature_words (cond b (Some (signature layouts f)) (look_up main_name (signatures layouts fs))) ≤ 8
    by true rest is = narrow_signature layouts f true (nat_list_eq_equiv.symm f.name main_name ∙ is) (no_front (signature_faults layouts f) (signatures_faults layouts fs) e) refl
    by false rest is = rest

narrow_append : (x : List ℕ) (a b : List (List ℕ × Signature)) → signature_words (look_up x a) ≤ 8 → signature_words (look_up x b) ≤ 8 → signature_words (look_up x (a ++ b)) ≤ 8
narrow_append x [] b h g = g
narrow_append x ((y, s) ∷ a) b h g = by (bytes_eq x y) (λ k. narrow_append x a b k g) h
  where
    by : (t : Bool) → (signature_words (look_up x a) ≤ 8 → signature_words (look_up x (a ++ b)) ≤ 8) → signature_words (cond t (Some s) (look_up x a)) ≤ 8 → signature_words (cond t (Some s) (look_up x (a ++ b))) ≤ 8
    by true rest k = k
    by false rest k = rest k

narrow_behind : (k : Known) (ds : List DeclTree) → decls_faults k ds ≡ [] → signature_words (look_up main_name k.functions) ≤ 8 → signature_words (look_up main_name (known_behind k ds).functions) ≤ 8
narrow_behind k [] e h = h
narrow_behind k (LayoutDecl x l s ∷ ds) e h = narrow_behind (known_after k (LayoutDecl x l s)) ds (no_rest (decl_faults k (LayoutDecl x l s)) _ e) h
narrow_behind k (ExceptionDecl x ts s ∷ ds) e h = narrow_behind (known_after k (ExceptionDecl x ts s)) ds (no_rest (decl_faults k (ExceptionDecl x ts s)) _ e) h
narrow_behind k (GroupDecl fs ∷ ds) e h =
    let here = no_front (decl_faults k (GroupDecl fs)) (decls_faults (known_after k (GroupDecl fs)) ds) e in
    let texts = no_front (signatures_faults k.layouts fs) (bodies_faults (in_group k fs) fs) (no_rest (name_faults (names_of k.functions) fs) _ here) in
    narrow_behind (known_after k (GroupDecl fs)) ds (no_rest (decl_faults k (GroupDecl fs)) _ e) (narrow_append main_name k.functions (signatures k.layouts fs) h (narrow_signatures k.layouts fs texts))

pub main_narrow : MainIsNarrow
main_narrow p typed =
    narrow_behind nothing_known p.decls (no_front (decls_faults nothing_known p.decls) (at_span (record { first = p.length; after = p.length }) (no_main (known_behind nothing_known p.decls))) typed) (omega arith)

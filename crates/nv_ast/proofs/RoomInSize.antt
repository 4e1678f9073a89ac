-- The room of a program without a fault is at most 5 times its expanded size and 8.
use Rattle.std.proofs.Common.{◌≡◌, refl, ℕ, ◌+◌, ◌*◌, ◌≤◌, ◌<◌, min, List, [], ◌∷◌, ◌++◌, arith, nat_lt}
use Rattle.std.proofs.lemmas.Bool.{ltb-false}
use Rattle.nv_ast.specs.Tree.{FunTree, DeclTree, LayoutDecl, ExceptionDecl, GroupDecl}
use Rattle.nv_ast.specs.Tests.{value_at, names_of}
use Rattle.nv_ast.specs.Types.{Tys, total_words, types_of}
use Rattle.nv_ast.specs.Scope.{Known, nothing_known, in_group, known_after}
use Rattle.nv_ast.specs.Faults.{main_name, at_span, declared_before, types_faults, wide_exception, decl_faults, decls_faults, known_behind, no_main}
use Rattle.nv_ast.specs.Sizes.{GroupNumbers, numbered, body_vars, group_size, group_need, sizes_behind, needs_behind}
use Rattle.nv_ast.specs.Laws.{RoomIsBounded}
use Rattle.nv_ast.proofs.Faultless.{no_front, no_rest, no_kinds, not_where}
use Rattle.nv_ast.proofs.NeedInSize.{Fit, fit_at, AreLow, Before, need_in}

group_in : (sizes needs : GroupNumbers) (k : Known) → Before sizes needs k → (fs : List FunTree) → group_need needs k fs ≤ 5 * group_size sizes k fs
group_in sizes needs k is [] = omega arith
group_in sizes needs k is (f ∷ fs) = omega (arith, need_in sizes needs k is (body_vars k f) f.body, group_in sizes needs k is fs)

numbered_fit : (n m : ℕ) → m ≤ 5 * n → (fs : List FunTree) → Fit (numbered n fs) (numbered m fs)
numbered_fit n m h [] = tt
numbered_fit n m h (f ∷ fs) = (refl, h, numbered_fit n m h fs)

fit_append : (a b c d : GroupNumbers) → Fit a b → Fit c d → Fit (a ++ c) (b ++ d)
fit_append [] [] c d h g = g
fit_append [] (n ∷ b) c d h g = absurd h
fit_append (n ∷ a) [] c d h g = absurd h
fit_append ((x, n) ∷ a) ((y, m) ∷ b) c d h g = (h.0, h.1, fit_append a b c d h.2 g)

low_append : (es : List (List ℕ × Tys)) (x : List ℕ) (ts : Tys) → AreLow es → total_words ts ≤ 8 → AreLow (es ++ (x, ts) ∷ [])
low_append [] x ts h le = (le, tt)
low_append ((y, us) ∷ es) x ts h le = (h.0, low_append es x ts h.1 le)

low_exception : (k : Known) (x : List ℕ) (ts : _) (s : _) → decl_faults k (ExceptionDecl x ts s) ≡ [] → total_words (types_of k.layouts ts) ≤ 8
low_exception k x ts s e =
    let kinds = no_kinds s _ e in
    let wide = no_rest (types_faults k.layouts ts) (wide_exception (types_of k.layouts ts)) (no_rest (declared_before x (names_of k.exceptions)) (types_faults k.layouts ts ++ wide_exception (types_of k.layouts ts)) kinds) in
    ltb-false 8 (total_words (types_of k.layouts ts)) (not_where (nat_lt 8 (total_words (types_of k.layouts ts))) 23 wide)

behind_in : (sizes needs : GroupNumbers) (k : Known) (ds : List DeclTree) → Before sizes needs k → decls_faults k ds ≡ [] → Fit (sizes_behind sizes k ds) (needs_behind needs k ds)
behind_in sizes needs k [] is e = is.fit
behind_in sizes needs k (LayoutDecl x l s ∷ ds) is e =
    behind_in sizes needs (known_after k (LayoutDecl x l s)) ds (record { fit = is.fit; low = is.low }) (no_rest (decl_faults k (LayoutDecl x l s)) (decls_faults (known_after k (LayoutDecl x l s)) ds) e)
behind_in sizes needs k (ExceptionDecl x ts s ∷ ds) is e =
    let here = no_front (decl_faults k (ExceptionDecl x ts s)) (decls_faults (known_after k (ExceptionDecl x ts s)) ds) e in
    behind_in sizes needs (known_after k (ExceptionDecl x ts s)) ds (record { fit = is.fit; low = low_append k.exceptions x (types_of k.layouts ts) is.low (low_exception k x ts s here) })
    (no_rest (decl_faults k (ExceptionDecl x ts s)) (decls_faults (known_after k (ExceptionDecl x ts s)) ds) e)
behind_in sizes needs k (GroupDecl fs ∷ ds) is e =
    let inside : Before sizes needs (in_group k fs) = record { fit = is.fit; low = is.low } in
    let size = group_size sizes (in_group k fs) fs in
    let most = group_need needs (in_group k fs) fs in
    behind_in (sizes ++ numbered size fs) (needs ++ numbered most fs) (known_after k (GroupDecl fs)) ds
    (record { fit = fit_append sizes needs (numbered size fs) (numbered most fs) is.fit (numbered_fit size most (group_in sizes needs (in_group k fs) inside fs) fs); low = is.low })
    (no_rest (decl_faults k (GroupDecl fs)) (decls_faults (known_after k (GroupDecl fs)) ds) e)

not_still : (n m : ℕ) → m ≤ 5 * n → min n 4294967295 < 4294967295 → m + 8 ≤ 5 * min n 4294967295 + 8
not_still n m h small = omega (arith, h, small)

pub room_bounded : RoomIsBounded
room_bounded p typed small =
    let decls = no_front (decls_faults nothing_known p.decls) (at_span (record { first = p.length; after = p.length }) (no_main (known_behind nothing_known p.decls))) typed in
    let fit = behind_in [] [] nothing_known p.decls (record { fit = tt; low = tt }) decls in
    let sizes = sizes_behind [] nothing_known p.decls in
    let needs = needs_behind [] nothing_known p.decls in
    not_still (value_at 0 main_name sizes) (value_at 0 main_name needs) (fit_at sizes needs fit main_name) small

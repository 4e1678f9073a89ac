-- A fetch: its address, and how many words it moves.
use Rattle.std.proofs.Common.{◌≡◌, ◌∙◌, refl, ap, sym, subst, ℕ, Bool, true, false, not, List, ◌∷◌, ◌++◌, Option, None, Some, Result, Ok, Err, []}
use Rattle.std.specs.Prelude.{option_to_list}
use Rattle.nv_base.specs.declared.term.Mem.{Mem}
use Rattle.nv_ast.specs.declared.token.Span.{Span}
use Rattle.nv_ast.specs.Tree.{Tree, FetchTree}
use Rattle.nv_ast.specs.Tests.{where_true}
use Rattle.nv_ast.specs.Types.{Ty, WordTy, words_ty, words_of_value}
use Rattle.nv_ast.specs.Faults.{Expected as ExpectedTree, of_type, at_span, other_type, no_value, too_large_value, can_move, wrong_access, wrong_scratch}
use Rattle.nv_ast.specs.Sizes.{words_at, expanded, need}
use Rattle.nv_types_table.specs.declared.error.TypeError.{TypeError}
use Rattle.nv_types_table.specs.declared.error.TypeError.TheVariants.{Fault}
use Rattle.nv_types_scopes.specs.declared.expected.Expected.{Expected}
use Rattle.nv_types_scopes.specs.declared.expected.Expected.TheVariants.{Typed}
use Rattle.nv_types_scopes.specs.declared.functions.Checker.{Checker}
use Rattle.nv_types_scopes.specs.declared.functions.TypedExpr.{TypedExpr}
use Rattle.nv_types_table.specs.inner.Faulty.{IsFirstOf, Judges}
use Rattle.nv_types_table.specs.inner.Store.{Store, Extends, IsType, IsValue}
use Rattle.nv_types_table.specs.inner.Cells.{still}
use Rattle.nv_types_table.specs.inner.Costs.{node_cost}
use Rattle.nv_types_scopes.specs.inner.Judging.{IsExpected, judged_faults}
use Rattle.nv_types_scopes.specs.inner.Walk.{Checks}
use Rattle.nv_types_table.proofs.Firsts.{first_append, judges_behind, first_kind, then_kinds}
use Rattle.nv_types_scopes.proofs.Holding.{wanted_stays, Keeps-trans, Keeps-table}
use Rattle.nv_types_scopes.proofs.BlockNodes.{node_checks}
use Rattle.nv_types_scopes.proofs.WalkNodes.{failed}

pub fetch_fails_at_address : (c new : Checker) (expected : Expected) (s : Span) (m : Mem) (n : ℕ) (a : Tree) (why : TypeError) → Checks c new false (Typed 0) a (Err why) → Checks c new false expected (FetchTree s m n a) (Err why)
fetch_fails_at_address c new expected s m n a why h = failed c new false expected (FetchTree s m n a) why (λ k vars w holds sees is. first_append _ _ why (h.judged k vars (of_type WordTy) holds sees (WordTy, refl, refl)))

-- another type
pub fetch_fails_at_type : (c c1 new : Checker) (expected : Expected) (s : Span) (m : Mem) (n : ℕ) (a : Tree) (f : TypedExpr) (right : Bool) (why : TypeError)
    → Checks c c1 false (Typed 0) a (Ok f) → ((w : ExpectedTree) → IsExpected c1.table expected w → right ≡ w.right (words_ty n)) → IsFirstOf (at_span s (where_true (not right) 14)) why
    → Checks c new false expected (FetchTree s m n a) (Err why)
fetch_fails_at_type c c1 new expected s m n a f right why h1 of_right wrong = failed c new false expected (FetchTree s m n a) why (λ k vars w holds sees is.
    let done = h1.judged k vars (of_type WordTy) holds sees (WordTy, refl, refl) in
    let here = subst (λ (b : Bool). IsFirstOf (at_span s (where_true (not b) 14)) why) (of_right w (wanted_stays c.table c1.table h1.keeps.declared.grows expected w is)) wrong in
    judges_behind {T = TypedExpr} _ _ (Err why) done (first_kind s (other_type w (Some (words_ty n))) _ why here))

-- another number of words
pub fetch_fails_at_words : (c c1 new : Checker) (expected : Expected) (s : Span) (m : Mem) (n : ℕ) (a : Tree) (f : TypedExpr) (right moves : Bool)
    → Checks c c1 false (Typed 0) a (Ok f) → ((w : ExpectedTree) → IsExpected c1.table expected w → right ≡ w.right (words_ty n)) → at_span s (where_true (not right) 14) ≡ [] → moves ≡ can_move m n → moves ≡ false
    → Checks c new false expected (FetchTree s m n a) (Err (Fault 19 s))
fetch_fails_at_words c c1 new expected s m n a f right moves h1 of_right fine of_moves none = failed c new false expected (FetchTree s m n a) (Fault 19 s) (λ k vars w holds sees is.
    let done = h1.judged k vars (of_type WordTy) holds sees (WordTy, refl, refl) in
    let typed = subst (λ (b : Bool). at_span s (where_true (not b) 14) ≡ []) (of_right w (wanted_stays c.table c1.table h1.keeps.declared.grows expected w is)) fine in
    let wrong : wrong_access m n ≡ 19 ∷ [] = ap (λ b. where_true (not b) 19) (sym of_moves ∙ none) in
    judges_behind {T = TypedExpr} _ _ (Err (Fault 19 s)) done
    (then_kinds {T = TypedExpr} s (other_type w (Some (words_ty n))) _ (Err (Fault 19 s)) typed
    (_, ap (λ (l : List ℕ). at_span s ((l ++ wrong_scratch m a n) ++ (no_value w (Some (words_ty n)) ++ too_large_value (Some (words_ty n))))) wrong)))

middle_is : (m : Mem) (n : ℕ) (a : Tree) (moves : Bool) (middle : Option ℕ) → moves ≡ can_move m n → moves ≡ true → option_to_list middle ≡ wrong_scratch m a n → option_to_list middle ≡ wrong_access m n ++ wrong_scratch m a n
middle_is m n a moves middle of_moves all scratch = scratch ∙ ap (λ (l : List ℕ). l ++ wrong_scratch m a n) (sym (ap (λ b. where_true (not b) 19) (sym of_moves ∙ all)))

node_is_judged : (s : Span) (w : ExpectedTree) (n : ℕ) (xs ys : List ℕ) (T : Type 0) (r : Result T TypeError) → xs ≡ ys
    → Judges (at_span s (other_type w (Some (words_ty n)) ++ (xs ++ (no_value w (Some (words_ty n)) ++ too_large_value (Some (words_ty n)))))) r
    → Judges (at_span s (other_type w (Some (words_ty n)) ++ (ys ++ (no_value w (Some (words_ty n)) ++ too_large_value (Some (words_ty n)))))) r
node_is_judged s w n xs ys T r e h = subst (λ (l : List ℕ). Judges (at_span s (other_type w (Some (words_ty n)) ++ (l ++ (no_value w (Some (words_ty n)) ++ too_large_value (Some (words_ty n)))))) r) e h

pub fetch_fails_at_node : (c c1 new : Checker) (table : Store) (expected : Expected) (s : Span) (m : Mem) (n : ℕ) (a : Tree) (f : TypedExpr) (t : ℕ) (moves : Bool) (middle : Option ℕ) (why : TypeError)
    → Checks c c1 false (Typed 0) a (Ok f) → Extends c1.table table → IsType table t (words_ty n) → moves ≡ can_move m n → moves ≡ true → option_to_list middle ≡ wrong_scratch m a n
    → ((w : ExpectedTree) (u : Option Ty) → IsExpected table expected w → IsValue table (Some t) u → IsFirstOf (judged_faults s w u None middle) why)
    → Checks c new false expected (FetchTree s m n a) (Err why)
fetch_fails_at_node c c1 new table expected s m n a f t moves middle why h1 grows is_type of_moves all scratch judged = failed c new false expected (FetchTree s m n a) why (λ k vars w holds sees is.
    let done = h1.judged k vars (of_type WordTy) holds sees (WordTy, refl, refl) in
    let here = judged w (Some (words_ty n)) (wanted_stays c1.table table grows expected w (wanted_stays c.table c1.table h1.keeps.declared.grows expected w is)) is_type in
    judges_behind {T = TypedExpr} _ _ (Err why) done (node_is_judged s w n (option_to_list middle) (wrong_access m n ++ wrong_scratch m a n) TypedExpr (Err why) (middle_is m n a moves middle of_moves all scratch) here))

pub fetch_checks : (c c1 : Checker) (table : Store) (expected : Expected) (s : Span) (m : Mem) (n : ℕ) (a : Tree) (f : TypedExpr) (t : ℕ) (moves : Bool) (middle : Option ℕ) (found : TypedExpr)
    → Checks c c1 false (Typed 0) a (Ok f) → Extends c1.table table → IsType table t (words_ty n) → moves ≡ can_move m n → moves ≡ true → option_to_list middle ≡ wrong_scratch m a n
    → ((w : ExpectedTree) (u : Option Ty) → IsExpected table expected w → IsValue table (Some t) u → judged_faults s w u None middle ≡ [])
    → found.value ≡ Some t → ((u : Option Ty) → IsValue table (Some t) u → found.cost ≡ node_cost (still (words_of_value u)) f.cost)
    → Checks c (record c1 { table = table }) false expected (FetchTree s m n a) (Ok found)
fetch_checks c c1 table expected s m n a f t moves middle found h1 grows is_type of_moves all scratch judged same cost =
    node_checks c (record c1 { table = table }) false expected (FetchTree s m n a) (Some t) f.cost (Ok found)
    (Keeps-trans c c1 (record c1 { table = table }) h1.keeps (Keeps-table c1 table grows))
    h1.writes
    (λ k vars w holds sees is.
    let done = h1.judged k vars (of_type WordTy) holds sees (WordTy, refl, refl) in
    let here = judged w (Some (words_ty n)) (wanted_stays c1.table table grows expected w (wanted_stays c.table c1.table h1.keeps.declared.grows expected w is)) is_type in
    judges_behind {T = TypedExpr} _ _ (Ok found) done (node_is_judged s w n (option_to_list middle) (wrong_access m n ++ wrong_scratch m a n) TypedExpr (Ok found) (middle_is m n a moves middle of_moves all scratch) here))
    (λ k vars holds sees. is_type)
    (λ k vars sizes needs holds sees counts. record {
      words = words_at k vars a;
      size = expanded sizes k vars a;
      most_need = need needs k vars a;
      are = h1.counted k vars sizes needs holds sees counts;
      of_size = refl;
      of_need = refl;
    })
    same cost

-- a scratch address within reach, or not
pub no_middle : (m : Mem) (n : ℕ) (a : Tree) (near : Bool) (middle : Option ℕ) → where_true (not near) 20 ≡ wrong_scratch m a n → near ≡ true → middle ≡ None → option_to_list middle ≡ wrong_scratch m a n
no_middle m n a near middle e at_hand is = ap option_to_list is ∙ sym (ap (λ b. where_true (not b) 20) at_hand) ∙ e

pub some_middle : (m : Mem) (n : ℕ) (a : Tree) (near : Bool) (middle : Option ℕ) → where_true (not near) 20 ≡ wrong_scratch m a n → near ≡ false → middle ≡ Some 20 → option_to_list middle ≡ wrong_scratch m a n
some_middle m n a near middle e far is = ap option_to_list is ∙ sym (ap (λ b. where_true (not b) 20) far) ∙ e

-- A block: its statements, its tail and the node.
use Rattle.std.proofs.Common.{◌≡◌, ◌∙◌, refl, ap, sym, subst, ℕ, ◌+◌, ◌-◌, min, Bool, false, List, ◌∷◌, ◌++◌, drop, length, Option, None, Ok, Err, arith, length-append, []}
use Rattle.std.proofs.lemmas.List.{drop_at}
use Rattle.nv_ast.specs.declared.token.Span.{Span}
use Rattle.nv_ast.specs.declared.tree.Stmt.{Stmt}
use Rattle.nv_ast.specs.ExprView.{statement_tree, list_statements}
use Rattle.nv_ast.specs.Tree.{Tree, BlockTree}
use Rattle.nv_ast.specs.Types.{Ty}
use Rattle.nv_ast.specs.Typing.{type_at, vars_behind}
use Rattle.nv_ast.specs.Faults.{Expected as ExpectedTree, anything, statement_faults, statements_faults}
use Rattle.nv_ast.specs.Sizes.{words_at, expanded, expanded_statements, need, variables, variables_statements}
use Rattle.nv_types_table.specs.declared.error.TypeError.{TypeError}
use Rattle.nv_types_scopes.specs.declared.expected.Expected.{Expected}
use Rattle.nv_types_scopes.specs.declared.expected.Expected.TheVariants.{Anything}
use Rattle.nv_types_table.specs.declared.needs.Step.{Step}
use Rattle.nv_types_scopes.specs.declared.functions.Checker.{Checker}
use Rattle.nv_types_scopes.specs.declared.functions.TypedExpr.{TypedExpr}
use Rattle.nv_types_table.specs.inner.Cells.{most, still}
use Rattle.nv_types_table.specs.inner.Faulty.{IsFirstOf}
use Rattle.nv_types_table.specs.inner.Store.{IsValue}
use Rattle.nv_types_scopes.specs.inner.Judging.{IsExpected, judged_faults}
use Rattle.nv_types_scopes.specs.inner.Blocks.{ChecksStatement}
use Rattle.nv_types_table.specs.inner.Needs.{block_needs}
use Rattle.nv_types_scopes.specs.inner.Standing.{KeepsDeclared, place, written_in}
use Rattle.nv_types_scopes.specs.inner.Walk.{Checks}
use Rattle.nv_types_table.proofs.Firsts.{first_append, judges_behind}
use Rattle.nv_types_scopes.proofs.Holding.{holds_stays, counts_stay, wanted_stays, declared_trans}
use Rattle.nv_types_scopes.proofs.BlockStanding.{scope_left, writes_trans}
use Rattle.nv_types_scopes.proofs.BlockStatements.{as_many_names}
use Rattle.nv_types_scopes.proofs.BlockRoom.{AreSteps, needs_are}
use Rattle.nv_types_scopes.proofs.BlockWalked.{Behind, faults-append}
use Rattle.nv_types_scopes.proofs.WalkNodes.{failed}

-- a statement has a fault
pub block_fails_at_statement : (c now next last : Checker) (tail : Bool) (expected : Expected) (s : Span) (all xs ys : List Stmt) (st : Stmt) (e : Tree) (steps : List Step) (size : ℕ) (why : TypeError)
    → Behind c now xs steps size → ChecksStatement now next (statement_tree st) (Err why) → all ≡ xs ++ st ∷ ys → Checks c last tail expected (BlockTree s (list_statements all) e) (Err why)
block_fails_at_statement c now next last tail expected s all xs ys st e steps size why was one split = failed c last tail expected (BlockTree s (list_statements all) e) why (λ k vars w holds sees is.
    let vars1 = vars_behind k vars (list_statements xs) in
    let here = one.judged k vars1 (holds_stays c now k was.declared holds) (was.sees k vars holds sees) in
    let first : IsFirstOf (statements_faults (place k vars1 false) (list_statements (st ∷ ys))) why = first_append (statement_faults (place k vars1 false) (statement_tree st)) _ why here in
    let mine : IsFirstOf (statements_faults (place k vars false) (list_statements (xs ++ st ∷ ys))) why =
    subst (λ l. IsFirstOf l why) (sym (faults-append k vars xs (st ∷ ys))) (judges_behind {T = Step} _ _ (Err why) (was.judged k vars holds sees) first)
    in
    first_append _ _ why (subst (λ (l : List Stmt). IsFirstOf (statements_faults (place k vars false) (list_statements l)) why) (sym split) mine))

pub block_fails_at_tail : (c now next last : Checker) (tail : Bool) (expected : Expected) (s : Span) (all : List Stmt) (e : Tree) (steps : List Step) (size : ℕ) (why : TypeError)
    → Behind c now all steps size → Checks now next tail Anything e (Err why) → Checks c last tail expected (BlockTree s (list_statements all) e) (Err why)
block_fails_at_tail c now next last tail expected s all e steps size why was one = failed c last tail expected (BlockTree s (list_statements all) e) why (λ k vars w holds sees is.
    let vars1 = vars_behind k vars (list_statements all) in
    let here = one.judged k vars1 anything (holds_stays c now k was.declared holds) (was.sees k vars holds sees) refl in
    judges_behind {T = TypedExpr} _ _ (Err why) (was.judged k vars holds sees) (first_append _ _ why here))

pub block_fails_at_node : (c now next last : Checker) (tail : Bool) (expected : Expected) (s : Span) (all : List Stmt) (e : Tree) (steps : List Step) (size : ℕ) (f : TypedExpr) (why : TypeError)
    → Behind c now all steps size → Checks now next tail Anything e (Ok f)
    → ((w : ExpectedTree) (u : Option Ty) → IsExpected next.table expected w → IsValue next.table f.value u → IsFirstOf (judged_faults s w u None None) why)
    → Checks c last tail expected (BlockTree s (list_statements all) e) (Err why)
block_fails_at_node c now next last tail expected s all e steps size f why was one judged = failed c last tail expected (BlockTree s (list_statements all) e) why (λ k vars w holds sees is.
    let vars1 = vars_behind k vars (list_statements all) in
    let holds1 = holds_stays c now k was.declared holds in
    let sees1 = was.sees k vars holds sees in
    let done = one.judged k vars1 anything holds1 sees1 refl in
    let here = judged w (type_at k vars1 e) (wanted_stays c.table next.table (declared_trans c now next was.declared one.keeps.declared).grows expected w is) (one.typed k vars1 holds1 sees1) in
    judges_behind {T = TypedExpr} _ _ (Err why) (was.judged k vars holds sees) (judges_behind {T = TypedExpr} _ _ (Err why) done here))

size_is : (a b v x y : ℕ) (w : ℕ) → a ≡ still x → b ≡ still y → w ≡ still v → min (min (min (a + b) most + w) most + 1) most ≡ still ((1 + v) + (x + y))
size_is a b v x y w f g h = omega (arith, f, g, h)

need_is : (n x : ℕ) → n ≡ still x → min (n + 2) most ≡ still (2 + x)
need_is n x h = omega (arith, h)

pub block_checks : (c now next : Checker) (tail : Bool) (expected : Expected) (s : Span) (all : List Stmt) (e : Tree) (steps : List Step) (f found : TypedExpr) (left : List (List ℕ × ℕ)) (mark first before size greatest : ℕ)
    → Behind c now all steps size → Checks now next tail Anything e (Ok f)
    → mark ≡ length c.scope → left ≡ drop (length next.scope - mark) next.scope
    → first ≡ length c.written.items → before ≡ length now.written.items
    → ((w : ExpectedTree) (u : Option Ty) → IsExpected next.table expected w → IsValue next.table f.value u → judged_faults s w u None None ≡ [])
    → greatest ≡ block_needs (drop first (written_in next)) first [] steps before f.cost.need
    → found ≡ record { value = f.value; cost = record { words = f.cost.words; size = min (min (min (size + f.cost.size) most + f.cost.words) most + 1) most; need = min (greatest + 2) most } }
    → Checks c (record next { scope = left }) tail expected (BlockTree s (list_statements all) e) (Ok found)
block_checks c now next tail expected s all e steps f found left mark first before size greatest was one marked forgot from till judged of_need of_found = subst (λ (x : TypedExpr). Checks c (record next { scope = left }) tail expected (BlockTree s (list_statements all) e) (Ok x)) (sym of_found) (record {
  judged = λ k vars w holds sees is.
      let vars1 = vars_behind k vars (list_statements all) in
      let holds1 = holds_stays c now k was.declared holds in
      let sees1 = was.sees k vars holds sees in
      let done = one.judged k vars1 anything holds1 sees1 refl in
      let here = judged w (type_at k vars1 e) (wanted_stays c.table next.table declared.grows expected w is) (one.typed k vars1 holds1 sees1) in
      judges_behind {T = TypedExpr} _ _ (Ok f) (was.judged k vars holds sees) (judges_behind {T = TypedExpr} _ _ (Ok f) done here);
  typed = λ k vars holds sees. one.typed k (vars_behind k vars (list_statements all)) (holds_stays c now k was.declared holds) (was.sees k vars holds sees);
  counted = λ k vars sizes needs holds sees counts.
      let vars1 = vars_behind k vars (list_statements all) in
      let sts = list_statements all in
      let cost = one.counted k vars1 sizes needs (holds_stays c now k was.declared holds) (was.sees k vars holds sees) (counts_stay c now sizes needs was.declared counts) in
      let room = needs_are k needs (drop first (written_in next)) first first vars steps sts [] [] (variables e) before f.cost.need (need needs k vars1 e) (omega arith) start
      (subst (λ n. AreSteps k needs n vars steps sts) (sym start_at) (was.stepped k vars sizes needs holds sees counts)) tt before_is cost.of_need
      in
      record {
        of_words = cost.of_words;
        of_size = size_is size f.cost.size (words_at k vars1 e) (expanded_statements sizes k vars sts) (expanded sizes k vars1 e) f.cost.words (was.counted k vars sizes needs holds sees counts) cost.of_size cost.of_words;
        of_need = need_is greatest _ (of_need ∙ room);
      };
  keeps = record {
    declared = record {
      grows = declared.grows;
      same_layouts = declared.same_layouts;
      same_exceptions = declared.same_exceptions;
      same_functions = declared.same_functions;
      same_costs = declared.same_costs;
    };
    same_scope = scope_left c.scope was.newer next.scope left (one.keeps.same_scope ∙ was.behind) (forgot ∙ ap (λ (n : ℕ). drop (length next.scope - n) next.scope) marked);
  };
  writes = writes;
})
  where
    declared : KeepsDeclared c next
    declared = declared_trans c now next was.declared one.keeps.declared

    writes : written_in next ≡ written_in c ++ (variables_statements (list_statements all) ++ variables e)
    writes = writes_trans (written_in c) (written_in now) (written_in next) (variables_statements (list_statements all)) (variables e) was.writes one.writes

    start_at : first ≡ length (written_in c)
    start_at = from ∙ as_many_names c.written.items

    no_gap : first - first ≡ 0
    no_gap = omega arith

    start : drop (first - first) (drop first (written_in next)) ≡ variables_statements (list_statements all) ++ variables e
    start =
        ap (λ n. drop n (drop first (written_in next))) no_gap ∙ ap (drop first) writes
        ∙ drop_at (written_in c) (variables_statements (list_statements all) ++ variables e) first (sym start_at)

    before_is : before ≡ first + length (variables_statements (list_statements all))
    before_is = till ∙ as_many_names now.written.items ∙ ap length was.writes ∙ length-append (written_in c) (variables_statements (list_statements all)) ∙ ap (λ n. n + length (variables_statements (list_statements all))) (sym start_at)

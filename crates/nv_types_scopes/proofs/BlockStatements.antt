-- A let and a store.
use Rattle.std.proofs.Common.{◌≡◌, ◌∙◌, refl, ap, sym, subst, ⊎_elim, ℕ, ◌+◌, ◌<◌, ◌≤◌, min, Bool, true, false, not, ◌||◌, eqb, nat_le, List, ◌∷◌, ◌++◌, length, Option, None, Some, Result, Ok, Err, arith, []}
use Rattle.std.specs.Result.{IsErrAnd}
use Rattle.std.specs.Borrow.{Bor}
use Rattle.std.proofs.lemmas.Bool.{cases_lt, lt-ltb, lt-leb, ne_eqb, and_right}
use Rattle.nv_base.specs.declared.term.Mem.{Mem}
use Rattle.nv_base.specs.declared.term.Mem.TheVariants.{Sram, Sdram, Scratch}
use Rattle.nv_ast.specs.declared.token.Span.{Span}
use Rattle.nv_ast.specs.declared.tree.Pat.{Pat}
use Rattle.nv_ast.specs.PatternView.{pattern_tree}
use Rattle.nv_ast.specs.Tree.{Tree, NumberTree, TruthTree, VarTree, ParenTree, TupleTree, FieldsTree, DotTree, InvertTree, NegateTree, BinaryTree, ShiftTree, CallTree, UnpackTree, PackTree, RaiseTree, IfTree, TryTree, FetchTree, BlockTree, PatternTree, StatementTree, LetStatement, StoreStatement}
use Rattle.nv_ast.specs.Tests.{where_true}
use Rattle.nv_ast.specs.Types.{Ty, WordTy, words_of_value}
use Rattle.nv_ast.specs.Scope.{Known, Vars}
use Rattle.nv_ast.specs.Typing.{type_at}
use Rattle.nv_ast.specs.Faults.{faults, statement_faults, of_type, a_value, expected_stored, at_span, can_move, wrong_access, wrong_scratch}
use Rattle.nv_ast.specs.Sizes.{words_at, expanded, need, variables}
use Rattle.nv_types_table.specs.declared.error.TypeError.{TypeError}
use Rattle.nv_types_table.specs.declared.error.TypeError.TheVariants.{NoMemory}
use Rattle.nv_types_scopes.specs.declared.expected.Expected.TheVariants.{Typed, Value, Stored}
use Rattle.nv_types_table.specs.declared.cost.Cost.{Cost}
use Rattle.nv_types_table.specs.declared.needs.Step.{Step}
use Rattle.nv_types_scopes.specs.declared.functions.Checker.{Checker}
use Rattle.nv_types_scopes.specs.declared.functions.TypedExpr.{TypedExpr}
use Rattle.nv_types_table.specs.inner.Cells.{most, still}
use Rattle.nv_types_table.specs.inner.Faulty.{IsFirstOf}
use Rattle.nv_types_table.specs.inner.Named.{plain_names}
use Rattle.nv_types_table.specs.inner.Costs.{node_cost, two_costs}
use Rattle.nv_types_table.specs.inner.Store.{IsValue}
use Rattle.nv_types_scopes.specs.inner.Patterns.{BindsLet}
use Rattle.nv_types_scopes.specs.inner.Blocks.{ChecksStatement}
use Rattle.nv_types_scopes.specs.inner.Standing.{Holds, Sees, Keeps, place, written_in}
use Rattle.nv_types_scopes.specs.inner.Walk.{Checks}
use Rattle.nv_types_table.proofs.Firsts.{first_append, judges_behind, first_kind, then_kinds}
use Rattle.nv_types_scopes.proofs.Holding.{holds_stays, sees_stay, counts_stay, declared_trans, Keeps-trans}
use Rattle.nv_types_scopes.proofs.BlockStanding.{writes_trans, written_same}
use Rattle.nv_types_scopes.proofs.BlockCosts.{still_sum, cost_moved}
use Rattle.nv_types_scopes.proofs.WalkCosts.{node_costs, two_parts}

pub statement_fails : (c new : Checker) (st : StatementTree) (why : TypeError) → ((k : Known) (vars : Vars) → Holds c k → Sees c vars → IsFirstOf (statement_faults (place k vars false) st) why) → ChecksStatement c new st (Err why)
statement_fails c new st why h = record {
  judged = h;
  sees = λ k vars holds sees. tt;
  counted = λ k vars sizes needs holds sees counts. tt;
  declared = tt;
  behind = tt;
  writes = tt;
}

pub statement_wants_memory : (c new : Checker) (st : StatementTree) → ChecksStatement c new st (Err NoMemory)
statement_wants_memory c new st = statement_fails c new st NoMemory (λ k vars holds sees. tt)

-- at the exit of a `?`
pub statement_at_err : (c new : Checker) (st : StatementTree) (r : Result (Step × ℕ) TypeError) (why : TypeError) → IsErrAnd r (λ y. y ≡ why) → ChecksStatement c new st (Err why) → ChecksStatement c new st r
statement_at_err c new st (Err y) why h g = subst (λ (x : TypeError). ChecksStatement c new st (Err x)) (sym h) g
statement_at_err c new st (Ok x) why h g = absurd h

pub as_many_names : (xs : List (Bor (List ℕ))) → length xs ≡ length (plain_names xs)
as_many_names [] = refl
as_many_names (x ∷ xs) = omega (arith, as_many_names xs)

-- ---- a let
pub let_fails_at_value : (c c1 new : Checker) (s : Span) (p : PatternTree) (e : Tree) (why : TypeError) → Checks c c1 false Value e (Err why) → ChecksStatement c new (LetStatement s p e) (Err why)
let_fails_at_value c c1 new s p e why h = statement_fails c new (LetStatement s p e) why (λ k vars holds sees. first_append _ _ why (h.judged k vars a_value holds sees refl))

pub let_fails_at_pattern : {T : Type 0} (c c1 bound new : Checker) (s : Span) (p : PatternTree) (e : Tree) (f : TypedExpr) (why : TypeError)
    → Checks c c1 false Value e (Ok f) → BindsLet {T = T} c1 bound s p f.value (Err why) → ChecksStatement c new (LetStatement s p e) (Err why)
let_fails_at_pattern c c1 bound new s p e f why h g = statement_fails c new (LetStatement s p e) why (λ k vars holds sees.
    let done = h.judged k vars a_value holds sees refl in
    let here = g.judged (type_at k vars e) (h.typed k vars holds sees) in
    judges_behind {T = TypedExpr} _ _ (Err why) done here)

size_is : (a x : ℕ) → a ≡ still x → min (a + 1) most ≡ still (1 + x)
size_is a x h = omega (arith, h)

pub let_checks : {T : Type 0} (c c1 c2 : Checker) (s : Span) (p : Bor Pat) (e : Tree) (f : TypedExpr) (x : T) (step : Step) (before size : ℕ)
    → Checks c c1 false Value e (Ok f) → BindsLet c1 c2 s (pattern_tree p.now) f.value (Ok x)
    → before ≡ length c.written.items → step ≡ record { before = before; need = min (f.cost.words + f.cost.need) most; pattern = Some p; words = f.cost.words } → size ≡ min (f.cost.size + 1) most
    → ChecksStatement c c2 (LetStatement s (pattern_tree p.now) e) (Ok (step, size))
let_checks c c1 c2 s p e f x step before size h g at of_step of_size = subst (λ (st : Step). ChecksStatement c c2 (LetStatement s (pattern_tree p.now) e) (Ok (st, size))) (sym of_step) (record {
  judged = λ k vars holds sees.
      let done = h.judged k vars a_value holds sees refl in
      let here = g.judged (type_at k vars e) (h.typed k vars holds sees) in
      judges_behind {T = TypedExpr} _ _ (Ok f) done here;
  sees = λ k vars holds sees. g.sees (type_at k vars e) vars (h.typed k vars holds sees) (sees_stay c c1 vars h.keeps sees);
  counted = λ k vars sizes needs holds sees counts.
      let cost = h.counted k vars sizes needs holds sees counts in (
        record {
          of_place = at ∙ as_many_names c.written.items;
          of_need = still_sum f.cost.words f.cost.need (words_at k vars e) (need needs k vars e) cost.of_words cost.of_need;
          of_let = (words_at k vars e, cost.of_words, refl);
        },
        of_size ∙ size_is f.cost.size (expanded sizes k vars e) cost.of_size,
      );
  declared = declared_trans c c1 c2 h.keeps.declared g.adds.declared;
  behind = (g.adds.newer, g.adds.behind ∙ ap (λ (l : List (List ℕ × ℕ)). g.adds.newer ++ l) h.keeps.same_scope);
  writes = written_same c1 c2 g.adds.same_written ∙ h.writes;
})

-- ---- a number of words that stands still moves as it does, and reaches as far
none_of : (a b c d : Bool) → a ≡ false → b ≡ false → c ≡ false → d ≡ false → (a || (b || (c || d))) ≡ false
none_of false false false false e f g h = refl
none_of true b c d e f g h = e
none_of false true c d e f g h = f
none_of false false true d e f g h = g
none_of false false false true e f g h = h

many_stay : (m : Mem) (n : ℕ) → 8 < n → can_move m n ≡ false
many_stay Sram n h = and_right (nat_le 1 n) (nat_le n 8) (lt-leb n 8 h)
many_stay Scratch n h = and_right (nat_le 1 n) (nat_le n 8) (lt-leb n 8 h)
many_stay Sdram n h = none_of (eqb n 2) (eqb n 4) (eqb n 6) (eqb n 8) (ne_eqb n 2 (λ e. omega (arith, h, e))) (ne_eqb n 4 (λ e. omega (arith, h, e))) (ne_eqb n 6 (λ e. omega (arith, h, e))) (ne_eqb n 8 (λ e. omega (arith, h, e)))

still_cases : (P : ℕ → Type 0) (n : ℕ) → (still n ≡ n → P n) → (most < n → P n) → P n
still_cases P n f g = ⊎_elim (λ (l : most < n). g l) (λ (l : n ≤ most). f (omega (arith, l))) (cases_lt most n)

pub moves_still : (m : Mem) (n : ℕ) → can_move m (still n) ≡ can_move m n
moves_still m n = still_cases (λ j. can_move m (still j) ≡ can_move m j) n (λ (e : still n ≡ n). ap (can_move m) e) (λ (l : most < n). many_stay m (still n) (omega (arith, l)) ∙ sym (many_stay m n (omega (arith, l))))

pub reach_still : (m : Mem) (a : Tree) (n : ℕ) → wrong_scratch m a (still n) ≡ wrong_scratch m a n
reach_still m a n = still_cases (λ j. wrong_scratch m a (still j) ≡ wrong_scratch m a j) n (λ (e : still n ≡ n). ap (wrong_scratch m a) e) (λ (l : most < n). far m a (still n) n (omega (arith, l)) (omega (arith, l)))
  where
    far : (m : Mem) (a : Tree) (x y : ℕ) → 512 < x → 512 < y → wrong_scratch m a x ≡ wrong_scratch m a y
    far Sram a x y h g = refl
    far Sdram a x y h g = refl
    far Scratch (NumberTree t at) x y h g = ap (λ b. where_true b 20) (lt-ltb 512 (at + x) (omega (arith, h)) ∙ sym (lt-ltb 512 (at + y) (omega (arith, g))))
    far Scratch (TruthTree t b) x y h g = refl
    far Scratch (VarTree t z) x y h g = refl
    far Scratch (ParenTree t e) x y h g = refl
    far Scratch (TupleTree t es) x y h g = refl
    far Scratch (FieldsTree t es) x y h g = refl
    far Scratch (DotTree t e z) x y h g = refl
    far Scratch (InvertTree t e) x y h g = refl
    far Scratch (NegateTree t e) x y h g = refl
    far Scratch (BinaryTree t op e f) x y h g = refl
    far Scratch (ShiftTree t op e n) x y h g = refl
    far Scratch (CallTree t z es) x y h g = refl
    far Scratch (UnpackTree t z e) x y h g = refl
    far Scratch (PackTree t z e) x y h g = refl
    far Scratch (RaiseTree t z es) x y h g = refl
    far Scratch (IfTree t e f d) x y h g = refl
    far Scratch (TryTree t e z ps f) x y h g = refl
    far Scratch (FetchTree t mem n e) x y h g = refl
    far Scratch (BlockTree t sts e) x y h g = refl

-- ---- a store
pub store_fails_at_address : (c c1 new : Checker) (s : Span) (m : Mem) (a e : Tree) (why : TypeError) → Checks c c1 false (Typed 0) a (Err why) → ChecksStatement c new (StoreStatement s m a e) (Err why)
store_fails_at_address c c1 new s m a e why h = statement_fails c new (StoreStatement s m a e) why (λ k vars holds sees. first_append _ _ why (h.judged k vars (of_type WordTy) holds sees (WordTy, refl, refl)))

pub store_fails_at_value : (c c1 c2 new : Checker) (s : Span) (m : Mem) (a e : Tree) (f : TypedExpr) (why : TypeError)
    → Checks c c1 false (Typed 0) a (Ok f) → Checks c1 c2 false Stored e (Err why) → ChecksStatement c new (StoreStatement s m a e) (Err why)
store_fails_at_value c c1 c2 new s m a e f why h1 h2 = statement_fails c new (StoreStatement s m a e) why (λ k vars holds sees.
    let done1 = h1.judged k vars (of_type WordTy) holds sees (WordTy, refl, refl) in
    let here = h2.judged k vars expected_stored (holds_stays c c1 k h1.keeps.declared holds) (sees_stay c c1 vars h1.keeps sees) refl in
    judges_behind {T = TypedExpr} _ _ (Err why) done1 (first_append _ _ why here))

-- both parts have no fault
record Parts (c : Checker) (m : Mem) (a e : Tree) (n : ℕ) (k : Known) (vars : Vars) : Type 0 where
  done1 : faults (place k vars false) (of_type WordTy) a ≡ []
  done2 : faults (place k vars false) expected_stored e ≡ []
  access : can_move m n ≡ can_move m (words_at k vars e)
  scratch : wrong_scratch m a n ≡ wrong_scratch m a (words_at k vars e)

parts_done : (c c1 c2 : Checker) (m : Mem) (a e : Tree) (f g : TypedExpr) (n : ℕ) → Checks c c1 false (Typed 0) a (Ok f) → Checks c1 c2 false Stored e (Ok g) → ((t : Option Ty) → IsValue c2.table g.value t → n ≡ still (words_of_value t))
    → (k : Known) (vars : Vars) → Holds c k → Sees c vars → Parts c m a e n k vars
parts_done c c1 c2 m a e f g n h1 h2 of_n k vars holds sees =
    let holds1 = holds_stays c c1 k h1.keeps.declared holds in
    let sees1 = sees_stay c c1 vars h1.keeps sees in
    let is_n = of_n (type_at k vars e) (h2.typed k vars holds1 sees1) in
    record {
      done1 = h1.judged k vars (of_type WordTy) holds sees (WordTy, refl, refl);
      done2 = h2.judged k vars expected_stored holds1 sees1 refl;
      access = ap (can_move m) is_n ∙ moves_still m (words_at k vars e);
      scratch = ap (wrong_scratch m a) is_n ∙ reach_still m a (words_at k vars e);
    }

pub store_fails_at_words : (c c1 c2 new : Checker) (s : Span) (m : Mem) (a e : Tree) (f g : TypedExpr) (n : ℕ) (moves : Bool) (why : TypeError)
    → Checks c c1 false (Typed 0) a (Ok f) → Checks c1 c2 false Stored e (Ok g) → ((t : Option Ty) → IsValue c2.table g.value t → n ≡ still (words_of_value t)) → moves ≡ can_move m n
    → IsFirstOf (at_span s (where_true (not moves) 19)) why → ChecksStatement c new (StoreStatement s m a e) (Err why)
store_fails_at_words c c1 c2 new s m a e f g n moves why h1 h2 of_n of_moves wrong = statement_fails c new (StoreStatement s m a e) why (λ k vars holds sees.
    let p = parts_done c c1 c2 m a e f g n h1 h2 of_n k vars holds sees in
    let here = subst (λ (b : Bool). IsFirstOf (at_span s (where_true (not b) 19)) why) (of_moves ∙ p.access) wrong in
    judges_behind {T = TypedExpr} _ _ (Err why) p.done1 (judges_behind {T = TypedExpr} _ _ (Err why) p.done2 (first_kind s (wrong_access m (words_at k vars e)) (wrong_scratch m a (words_at k vars e)) why here)))

pub store_fails_at_reach : (c c1 c2 new : Checker) (s : Span) (m : Mem) (a e : Tree) (f g : TypedExpr) (n : ℕ) (moves near : Bool) (why : TypeError)
    → Checks c c1 false (Typed 0) a (Ok f) → Checks c1 c2 false Stored e (Ok g) → ((t : Option Ty) → IsValue c2.table g.value t → n ≡ still (words_of_value t)) → moves ≡ can_move m n
    → at_span s (where_true (not moves) 19) ≡ [] → where_true (not near) 20 ≡ wrong_scratch m a n → IsFirstOf (at_span s (where_true (not near) 20)) why → ChecksStatement c new (StoreStatement s m a e) (Err why)
store_fails_at_reach c c1 c2 new s m a e f g n moves near why h1 h2 of_n of_moves fine of_near wrong = statement_fails c new (StoreStatement s m a e) why (λ k vars holds sees.
    let p = parts_done c c1 c2 m a e f g n h1 h2 of_n k vars holds sees in
    let done3 = subst (λ (b : Bool). at_span s (where_true (not b) 19) ≡ []) (of_moves ∙ p.access) fine in
    let here = subst (λ (l : List ℕ). IsFirstOf (at_span s l) why) (of_near ∙ p.scratch) wrong in
    judges_behind {T = TypedExpr} _ _ (Err why) p.done1 (judges_behind {T = TypedExpr} _ _ (Err why) p.done2 (then_kinds {T = TypedExpr} s (wrong_access m (words_at k vars e)) (wrong_scratch m a (words_at k vars e)) (Err why) done3 here)))

pub store_checks : (c c1 c2 : Checker) (s : Span) (m : Mem) (a e : Tree) (f g : TypedExpr) (n : ℕ) (moves near : Bool) (parts : Cost) (step : Step) (before size : ℕ)
    → Checks c c1 false (Typed 0) a (Ok f) → Checks c1 c2 false Stored e (Ok g) → ((t : Option Ty) → IsValue c2.table g.value t → n ≡ still (words_of_value t)) → moves ≡ can_move m n
    → at_span s (where_true (not moves) 19) ≡ [] → where_true (not near) 20 ≡ wrong_scratch m a n → at_span s (where_true (not near) 20) ≡ []
    → before ≡ length c.written.items → parts ≡ node_cost 0 (two_costs f.cost g.cost) → step ≡ record { before = before; need = parts.need; pattern = None; words = 0 } → size ≡ parts.size
    → ChecksStatement c c2 (StoreStatement s m a e) (Ok (step, size))
store_checks c c1 c2 s m a e f g n moves near parts step before size h1 h2 of_n of_moves fine of_near close at of_parts of_step of_size = subst (λ (st : Step). ChecksStatement c c2 (StoreStatement s m a e) (Ok (st, size))) (sym of_step) (record {
  judged = λ k vars holds sees.
      let p = parts_done c c1 c2 m a e f g n h1 h2 of_n k vars holds sees in
      let done3 = subst (λ (b : Bool). at_span s (where_true (not b) 19) ≡ []) (of_moves ∙ p.access) fine in
      let done4 = subst (λ (l : List ℕ). at_span s l ≡ []) (of_near ∙ p.scratch) close in
      judges_behind {T = TypedExpr} _ _ (Ok f) p.done1 (judges_behind {T = TypedExpr} _ _ (Ok f) p.done2 (then_kinds {T = TypedExpr} s (wrong_access m (words_at k vars e)) (wrong_scratch m a (words_at k vars e)) (Ok f) done3 done4));
  sees = λ k vars holds sees. sees_stay c c2 vars keeps sees;
  counted = λ k vars sizes needs holds sees counts.
      let cost1 = h1.counted k vars sizes needs holds sees counts in
      let cost2 = h2.counted k vars sizes needs (holds_stays c c1 k h1.keeps.declared holds) (sees_stay c c1 vars h1.keeps sees) (counts_stay c c1 sizes needs h1.keeps.declared counts) in
      let all = node_costs (two_costs f.cost g.cost) 0 _ _ _ (two_parts f.cost g.cost _ _ _ _ _ _ cost1 cost2) in
      let whole = cost_moved parts (node_cost 0 (two_costs f.cost g.cost)) _ _ _ of_parts all in
      (record { of_place = at ∙ as_many_names c.written.items; of_need = whole.of_need; of_let = refl }, of_size ∙ whole.of_size);
  declared = keeps.declared;
  behind = ([], keeps.same_scope);
  writes = writes_trans (written_in c) (written_in c1) (written_in c2) (variables a) (variables e) h1.writes h2.writes;
})
  where
    keeps : Keeps c c2
    keeps = Keeps-trans c c1 c2 h1.keeps h2.keeps

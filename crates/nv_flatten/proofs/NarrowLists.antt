-- How wide expressions one after another, statements and blocks are.
use Rattle.std.proofs.Common.{◌≡◌, ℕ, ◌+◌, ◌≤◌, max, true, List, [], ◌∷◌, ◌++◌, refl, sym, ap, subst, ◌∙◌, append_assoc, length, arith}
use Rattle.std.specs.Prelude.{All}
use Rattle.std.proofs.lemmas.List.Elements.{All-head, All-tail}
use Rattle.nv_base.specs.declared.term.Atom.{Atom}
use Rattle.nv_base.specs.Words.{atom_vars}
use Rattle.nv_ast.specs.declared.token.Span.{Span}
use Rattle.nv_ast.specs.Tree.{Tree, BlockTree, Trees, no_trees, tree_and, NamedTrees, no_named_trees, named_tree_and, PatternTree, StatementTree, LetStatement, StoreStatement, StatementTrees, no_statements, statement_and}
use Rattle.nv_ast.specs.Types.{WordTy, words_of_value}
use Rattle.nv_ast.specs.Scope.{Context, inside, with_vars, names_in}
use Rattle.nv_ast.specs.Typing.{type_at, vars_after, vars_behind}
use Rattle.nv_ast.specs.Faults.{Expected, a_value, of_type, anything, expected_stored, at_span, variable_twice, not_fitting, wrong_access, wrong_scratch, faults, list_faults, named_faults, statement_faults, statements_faults, node_faults}
use Rattle.nv_ast.specs.Sizes.{Lets, words_at, words_all, words_named, need, need_all, need_named, need_statement, need_statements, variables, variables_all, variables_named, variables_statement, variables_statements, let_of, lets_behind, pending}
use Rattle.flat_ir.specs.declared.flat.Flat.{Flat}
use Rattle.flat_ir.specs.declared.spine.Step.{Step}
use Rattle.flat_ir.specs.declared.spine.Step.TheVariants.{Store}
use Rattle.flat_ir.specs.Spine.{AreNodes}
use Rattle.nv_base.specs.Sets.{all_vars}
use Rattle.nv_flatten_values.specs.inner.Symbols.{Symbol, Symbols, NamedSymbols, no_symbols, symbol_and, no_named_symbols, named_symbol_and, SymbolScope, operands, all_operands, named_operands, word_operand, bound}
use Rattle.nv_flatten_values.specs.inner.Whole.{Whole, Stands}
use Rattle.nv_flatten_values.specs.inner.Simulation.{Names, Extends, HasForm, IsStated}
use Rattle.nv_flatten_values.specs.inner.Narrow.{IsWithin, AddsAtMost, written, Pends, NarrowSteps, Room, IsNarrowValue, AreNarrowValues, AreNarrowFields, IsNarrowEnd, IsNarrowStatement, IsNarrowStated}
use Rattle.nv_flatten_values.proofs.Within.{itself, of-none, both-same, grows-not, grows-more, grows-further, all-vars-append}
use Rattle.nv_flatten_values.proofs.NarrowSteps.{no-steps, recast, beside, follow, store-step, stored, joined, recast-code}
use Rattle.nv_flatten_values.proofs.NarrowFacts.{written-append, written-right, counted, vars-at-most, word-operand-within}
use Rattle.nv_flatten.proofs.Bound.{written-bound, bound-pends, same-pends, pends-further}
use Rattle.nv_flatten.proofs.NarrowValues.{roomier, two-parts, fewer}
use Rattle.nv_flatten_values.proofs.Following.{stands-inside}
use Rattle.nv_ast.proofs.Faultless.{no_front, no_rest}

module _ (w : Whole) (names : Names) (scope : SymbolScope) where
  -- ---- lists
  pub values-nil : AreNarrowValues w names scope no_trees [] no_symbols
  values-nil = record { by = λ c p wanted values stands none. no-steps c.funs c.widths c.own [] [] [] (words_all p.known p.vars no_trees + need_all c.needs p.known p.vars no_trees) itself }

  pub fields-nil : AreNarrowFields w names scope no_named_trees [] no_named_symbols
  fields-nil = record { by = λ c p stands none. no-steps c.funs c.widths c.own [] [] [] (words_named p.known p.vars no_named_trees + need_named c.needs p.known p.vars no_named_trees) itself }

  -- one more in front
  front : (c : Room w names) (p : Context) (x : Expected) (e : Tree) (xs : List (List ℕ)) (ss ts : List Step) (s : Symbol) (u : List Atom) (words m : ℕ) → x.value ≡ true → HasForm w scope e s → IsNarrowValue w names scope e ss s
      → NarrowSteps c.funs c.widths c.own ts (written scope xs) (written scope xs) (all_vars u) (words + m) → Stands w c.own scope p → faults p x e ≡ []
      → NarrowSteps c.funs c.widths c.own (ss ++ ts) (written scope (variables e ++ xs)) (written scope (variables e ++ xs)) (all_vars (operands s ++ u)) ((words_at p.known p.vars e + words) + max (need c.needs p.known p.vars e) m)
  front c p x e xs ss ts s u words m value f v rest stands none =
      let many : length (operands s) ≡ words_at p.known p.vars e = counted w scope e s f c.own p x stands none value in
      let all = (words_at p.known p.vars e + words) + max (need c.needs p.known p.vars e) m in
      subst (λ l. NarrowSteps c.funs c.widths c.own (ss ++ ts) (written scope (variables e ++ xs)) (written scope (variables e ++ xs)) l all) (sym (all-vars-append (operands s) u))
      (two-parts c.funs c.widths c.own scope ss ts (variables e) xs (all_vars (operands s)) (all_vars u) (need c.needs p.known p.vars e) (words + m) (words_at p.known p.vars e) all
      (v.by c p x stands none) rest (vars-at-most s (words_at p.known p.vars e) many) (omega arith) (omega arith))

  cons-by : (e : Tree) (es : Trees) (ss ts : List Step) (s : Symbol) (us : Symbols) → HasForm w scope e s → IsNarrowValue w names scope e ss s → AreNarrowValues w names scope es ts us
      → (c : Room w names) (p : Context) (wanted : List Expected) → All (λ x. x.value ≡ true) wanted → Stands w c.own scope p → list_faults p wanted (tree_and e es) ≡ []
      → NarrowSteps c.funs c.widths c.own (ss ++ ts) (written scope (variables e ++ variables_all es)) (written scope (variables e ++ variables_all es)) (all_vars (operands s ++ all_operands us)) (words_all p.known p.vars (tree_and e es) + need_all c.needs p.known p.vars (tree_and e es))
  cons-by e es ss ts s us f v rest c p [] values stands none =
      front c p a_value e (variables_all es) ss ts s (all_operands us) (words_all p.known p.vars es) (need_all c.needs p.known p.vars es) refl f v
      (rest.by c p [] values stands (no_rest (faults p a_value e) (list_faults p [] es) none)) stands (no_front (faults p a_value e) (list_faults p [] es) none)
  cons-by e es ss ts s us f v rest c p (x ∷ xs) values stands none =
      front c p x e (variables_all es) ss ts s (all_operands us) (words_all p.known p.vars es) (need_all c.needs p.known p.vars es) (All-head (λ (y : Expected). y.value ≡ true) x xs values) f v
      (rest.by c p xs (All-tail (λ (y : Expected). y.value ≡ true) x xs values) stands (no_rest (faults p x e) (list_faults p xs es) none)) stands (no_front (faults p x e) (list_faults p xs es) none)

  pub values-cons : (e : Tree) (es : Trees) (ss ts : List Step) (s : Symbol) (us : Symbols) → HasForm w scope e s → IsNarrowValue w names scope e ss s → AreNarrowValues w names scope es ts us
      → AreNarrowValues w names scope (tree_and e es) (ss ++ ts) (symbol_and s us)
  values-cons e es ss ts s us f v rest = record { by = cons-by e es ss ts s us f v rest }

  pub fields-cons : (x y : List ℕ) (e : Tree) (es : NamedTrees) (ss ts : List Step) (s : Symbol) (us : NamedSymbols) → HasForm w scope e s → IsNarrowValue w names scope e ss s → AreNarrowFields w names scope es ts us
      → AreNarrowFields w names scope (named_tree_and x e es) (ss ++ ts) (named_symbol_and y s us)
  fields-cons x y e es ss ts s us f v rest = record {
    by = λ c p stands none.
        front c p a_value e (variables_named es) ss ts s (named_operands us) (words_named p.known p.vars es) (need_named c.needs p.known p.vars es) refl f v
        (rest.by c p stands (no_rest (faults p a_value e) (named_faults p es) none)) stands (no_front (faults p a_value e) (named_faults p es) none);
  }

  -- ---- statements

  -- what is wanted after a statement is kept beside it, and counted from outside the block
  behind-lets : (c : Room w names) (outer inner : SymbolScope) (lets : Lets) (xs tail : List (List ℕ)) (ss : List Step) (u : List ℕ) (m : ℕ) → Pends outer scope lets
      → NarrowSteps c.funs c.widths c.own ss (written scope xs) (written scope xs) u m → IsWithin (written inner tail) (u ++ written scope tail)
      → NarrowSteps c.funs c.widths c.own ss (written scope (xs ++ tail)) (written outer (xs ++ tail)) (written inner tail) (pending lets (xs ++ tail) + m)
  behind-lets c outer inner lets xs tail ss u m pends v back =
      let f = written scope tail in
      let here = written scope xs ++ f in
      let same : written scope (xs ++ tail) ≡ here = written-append scope xs tail in
      recast c.funs c.widths c.own ss here here (u ++ f) (written scope (xs ++ tail)) (written outer (xs ++ tail)) (written inner tail) (pending lets (xs ++ tail)) m (pending lets (xs ++ tail) + m)
      (beside c.funs c.widths c.own f ss (written scope xs) (written scope xs) u m v) (subst (IsWithin here) (sym same) itself)
      (subst (λ l. AddsAtMost (written outer (xs ++ tail)) l (pending lets (xs ++ tail))) same (pends.by (xs ++ tail))) back (omega arith)

  pub let-narrow : (sp : Span) (q : PatternTree) (e : Tree) (ss : List Step) (s : Symbol) → HasForm w scope e s → IsNarrowValue w names scope e ss s → IsNarrowStatement w names scope (LetStatement sp q e) ss (bound q s scope)
  let-narrow sp q e ss s f v = record {
    pends = λ own p stands none. bound-pends q s scope (words_at p.known p.vars e) (counted w scope e s f own p a_value stands (expression-none p none) refl);
    by = λ c p stands none outer lets pends tail.
        let n = need c.needs p.known p.vars e in
        roomier c.funs c.widths c.own ss (written scope (variables e ++ tail)) (written outer (variables e ++ tail)) (written (bound q s scope) tail) (pending lets (variables e ++ tail) + n)
        (pending lets (variables e ++ tail) + (words_at p.known p.vars e + n))
        (behind-lets c outer (bound q s scope) lets (variables e) tail ss (all_vars (operands s)) n pends (v.by c p a_value stands (expression-none p none)) (written-bound q s scope tail)) (omega arith);
  }
    where
      expression-none : (p : Context) → statement_faults p (LetStatement sp q e) ≡ [] → faults p a_value e ≡ []
      expression-none p none = no_front (faults p a_value e) (at_span sp (variable_twice (names_in q) ++ not_fitting q (type_at p.known p.vars e))) none

  pub store-narrow : (sp : Span) (m : _) (a e : Tree) (ss ts : List Step) (s u : Symbol) (bs : _) → HasForm w scope a s → HasForm w scope e u → IsNarrowValue w names scope a ss s → IsNarrowValue w names scope e ts u
      → stored (Store m (word_operand s) bs) ≡ operands u → IsNarrowStatement w names scope (StoreStatement sp m a e) ((ss ++ ts) ++ Store m (word_operand s) bs ∷ []) scope
  store-narrow sp m a e ss ts s u bs f g v t same = record {
    pends = λ own p stands none. same-pends scope;
    by = λ c p stands none outer lets pends tail.
        let n = words_of_value (type_at p.known p.vars e) in
        let last = at_span sp (wrong_access m n ++ wrong_scratch m a n) in
        let first = no_front (faults p (of_type WordTy) a) (faults p expected_stored e ++ last) none in
        let second = no_front (faults p expected_stored e) last (no_rest (faults p (of_type WordTy) a) (faults p expected_stored e ++ last) none) in
        let wa = words_at p.known p.vars a in
        let we = words_at p.known p.vars e in
        let na = need c.needs p.known p.vars a in
        let ne = need c.needs p.known p.vars e in
        let many : length (operands s) ≡ wa = counted w scope a s f c.own p (of_type WordTy) stands first refl in
        let others : length bs.items ≡ we = ap length same ∙ counted w scope e u g c.own p expected_stored stands second refl in
        let v0 = written scope (variables a ++ variables e) in
        let s0 = all_vars (operands s) in
        let u0 = all_vars (operands u) in
        let all = 2 + ((wa + we) + max na ne) in
        behind-lets c outer scope lets (variables a ++ variables e) tail ((ss ++ ts) ++ Store m (word_operand s) bs ∷ []) [] all pends
        (follow c.funs c.widths c.own (ss ++ ts) (Store m (word_operand s) bs ∷ []) v0 v0 (s0 ++ u0) [] all
        (two-parts c.funs c.widths c.own scope ss ts (variables a) (variables e) s0 u0 na ne wa all (v.by c p (of_type WordTy) stands first) (t.by c p expected_stored stands second) (vars-at-most s wa many) (omega arith) (omega arith))
        (recast c.funs c.widths c.own (Store m (word_operand s) bs ∷ []) (all_vars (word_operand s ∷ bs.items)) [] [] (s0 ++ u0) v0 [] 0 (we + 2) all (store-step c.funs c.widths c.own m (word_operand s) bs (we + 2) (omega arith))
        (both-same (atom_vars (word_operand s)) s0 (all_vars bs.items) u0 (word-operand-within s) (subst (λ l. IsWithin (all_vars l) u0) (sym same) itself)) (grows-not v0 [] (of-none v0)) itself (omega arith)))
        itself;
  }

  pub stated-nil : IsNarrowStated w names scope no_statements [] scope
  stated-nil = record {
    pends = λ own p stands none. same-pends scope;
    by = λ c p stands none outer lets pends tail. no-steps c.funs c.widths c.own (written scope tail) (written outer tail) (written scope tail) (need_statements c.needs p.known p.vars lets no_statements tail) itself;
  }

  pub stands-after : (others : Names) (low high : ℕ) (mid : SymbolScope) (st : StatementTree) (ss : List Step) → IsStated w others low high scope (statement_and st no_statements) ss mid
      → (own : ℕ) (p : Context) → Stands w own scope p → statement_faults p st ≡ [] → Stands w own mid (with_vars (vars_after p.known p.vars st) p)
  stands-after others low high mid st ss v own p stands none = record { part = stands.part; vars = v.formed own p stands (ap (λ l. l ++ []) none) }

  pub stated-cons : (others : Names) (low high : ℕ) (mid inner : SymbolScope) (st : StatementTree) (sts : StatementTrees) (ss ts : List Step) → IsStated w others low high scope (statement_and st no_statements) ss mid → IsNarrowStatement w names scope st ss mid
      → IsNarrowStated w names mid sts ts inner → IsNarrowStated w names scope (statement_and st sts) (ss ++ ts) inner
  stated-cons others low high mid inner st sts ss ts f v rest = record {
    pends = λ own p stands none.
        let first = no_front (statement_faults p st) (statements_faults (with_vars (vars_after p.known p.vars st) p) sts) none in
        pends-further scope mid inner (let_of p.known p.vars st) (lets_behind p.known (vars_after p.known p.vars st) sts) (v.pends own p stands first)
        (rest.pends own (with_vars (vars_after p.known p.vars st) p) (stands-after others low high mid st ss f own p stands first) (no_rest (statement_faults p st) (statements_faults (with_vars (vars_after p.known p.vars st) p) sts) none));
    by = λ c p stands none outer lets pends tail.
        let vars' = vars_after p.known p.vars st in
        let first = no_front (statement_faults p st) (statements_faults (with_vars vars' p) sts) none in
        let second = no_rest (statement_faults p st) (statements_faults (with_vars vars' p) sts) none in
        let xs = variables_statement st in
        let ys = variables_statements sts in
        let here = pending lets (xs ++ (ys ++ tail)) + need_statement c.needs p.known p.vars st in
        let there = need_statements c.needs p.known vars' (lets ++ let_of p.known p.vars st) sts tail in
        let all = max here there in
        let n1 : here ≤ all = omega arith in
        let n2 : there ≤ all = omega arith in
        subst (λ l. NarrowSteps c.funs c.widths c.own (ss ++ ts) (written scope l) (written outer l) (written inner tail) all) (sym (append_assoc xs ys tail))
        (follow c.funs c.widths c.own ss ts (written scope (xs ++ (ys ++ tail))) (written outer (xs ++ (ys ++ tail))) (written mid (ys ++ tail)) (written inner tail) all
        (roomier c.funs c.widths c.own ss (written scope (xs ++ (ys ++ tail))) (written outer (xs ++ (ys ++ tail))) (written mid (ys ++ tail)) here all (v.by c p stands first outer lets pends (ys ++ tail)) n1)
        (recast c.funs c.widths c.own ts (written mid (ys ++ tail)) (written outer (ys ++ tail)) (written inner tail) (written mid (ys ++ tail)) (written outer (xs ++ (ys ++ tail))) (written inner tail) 0 there all
        (rest.by c (with_vars vars' p) (stands-after others low high mid st ss f c.own p stands first) second outer (lets ++ let_of p.known p.vars st)
        (pends-further outer scope mid lets (let_of p.known p.vars st) pends (v.pends c.own p stands first)) tail)
        itself (grows-not (written outer (xs ++ (ys ++ tail))) (written outer (ys ++ tail)) (written-right outer xs (ys ++ tail))) itself (omega arith)));
  }

pub stated-narrow-more : (w : Whole) (names more : Names) (h : Extends names more) (scope : SymbolScope) (sts : StatementTrees) (ss : List Step) (inner : SymbolScope) → IsNarrowStated w names scope sts ss inner → IsNarrowStated w more scope sts ss inner
stated-narrow-more w names more h scope sts ss inner v = record { pends = v.pends; by = λ c. v.by (fewer w names more h c) }

pub statement-narrow-more : (w : Whole) (names more : Names) (h : Extends names more) (scope : SymbolScope) (st : StatementTree) (ss : List Step) (inner : SymbolScope) → IsNarrowStatement w names scope st ss inner → IsNarrowStatement w more scope st ss inner
statement-narrow-more w names more h scope st ss inner v = record { pends = v.pends; by = λ c. v.by (fewer w names more h c) }

-- ---- blocks
module _ (w : Whole) (names others : Names) (low high : ℕ) (scope inner : SymbolScope) (sp : Span) (sts : StatementTrees) (e : Tree) (ss : List Step) where
  pub stands-behind : IsStated w others low high scope sts ss inner → (own : ℕ) (p : Context) → Stands w own scope p → statements_faults (inside p) sts ≡ [] → Stands w own inner (with_vars (vars_behind p.known p.vars sts) p)
  stands-behind v own p stands none = record { part = stands.part; vars = v.formed own (inside p) (stands-inside w own scope p stands) none }

  -- the statements, and the tail's variables counted from outside the block
  statements-first : (c : Room w names) (p : Context) → IsNarrowStated w names scope sts ss inner → Stands w c.own scope p → statements_faults (inside p) sts ≡ []
      → NarrowSteps c.funs c.widths c.own ss (written scope (variables_statements sts ++ variables e)) (written scope (variables_statements sts ++ variables e)) (written inner (variables e)) (need_statements c.needs p.known p.vars [] sts (variables e))
  statements-first c p t stands none = t.by c (inside p) (stands-inside w c.own scope p stands) none scope [] (same-pends scope) (variables e)

  tail-grows : (own : ℕ) (p : Context) → IsNarrowStated w names scope sts ss inner → Stands w own scope p → statements_faults (inside p) sts ≡ []
      → AddsAtMost (written scope (variables_statements sts ++ variables e)) (written inner (variables e)) (pending (lets_behind p.known p.vars sts) (variables e))
  tail-grows own p t stands none =
      let pends = t.pends own (inside p) (stands-inside w own scope p stands) none in
      let all = written scope (variables_statements sts ++ variables e) in
      let k = pending (lets_behind p.known p.vars sts) (variables e) in
      grows-more all (written inner (variables e)) (0 + k) k (omega arith)
      (grows-further all (written scope (variables e)) (written inner (variables e)) 0 k
      (grows-not all (written scope (variables e)) (written-right scope (variables_statements sts) (variables e))) (pends.by (variables e)))

  pub statements-none : (p : Context) (wanted : Expected) → faults p wanted (BlockTree sp sts e) ≡ [] → statements_faults (inside p) sts ≡ []
  statements-none p wanted none = no_front (statements_faults (inside p) sts) (faults (with_vars (vars_behind p.known p.vars sts) p) anything e ++ node_faults p wanted (BlockTree sp sts e)) none

  pub last-none : (p : Context) (wanted : Expected) → faults p wanted (BlockTree sp sts e) ≡ [] → faults (with_vars (vars_behind p.known p.vars sts) p) anything e ≡ []
  last-none p wanted none =
      no_front (faults (with_vars (vars_behind p.known p.vars sts) p) anything e) (node_faults p wanted (BlockTree sp sts e))
      (no_rest (statements_faults (inside p) sts) (faults (with_vars (vars_behind p.known p.vars sts) p) anything e ++ node_faults p wanted (BlockTree sp sts e)) none)

  pub block-narrow : (ts : List Step) (s : Symbol) → IsStated w others low high scope sts ss inner → IsNarrowStated w names scope sts ss inner → IsNarrowValue w names inner e ts s → IsNarrowValue w names scope (BlockTree sp sts e) (ss ++ ts) s
  block-narrow ts s f t v = record {
    by = λ c p wanted stands none.
        let all = written scope (variables_statements sts ++ variables e) in
        let first = statements-none p wanted none in
        let n = need_statements c.needs p.known p.vars [] sts (variables e) in
        let k = pending (lets_behind p.known p.vars sts) (variables e) in
        let m = need c.needs p.known (vars_behind p.known p.vars sts) e in
        let whole = 2 + max n (k + m) in
        let n1 : n ≤ whole = omega arith in
        let n2 : k + m ≤ whole = omega arith in
        follow c.funs c.widths c.own ss ts all all (written inner (variables e)) (all_vars (operands s)) whole
        (roomier c.funs c.widths c.own ss all all (written inner (variables e)) n whole (statements-first c p t stands first) n1)
        (recast c.funs c.widths c.own ts (written inner (variables e)) (written inner (variables e)) (all_vars (operands s)) (written inner (variables e)) all (all_vars (operands s)) k m whole
        (v.by c (with_vars (vars_behind p.known p.vars sts) p) anything (stands-behind f c.own p stands first) (last-none p wanted none)) itself (tail-grows c.own p t stands first) itself n2);
  }

  pub block-end-narrow : (u code : Flat) → IsStated w others low high scope sts ss inner → IsNarrowStated w names scope sts ss inner → IsNarrowEnd w names inner e u → AreNodes ss u code → IsNarrowEnd w names scope (BlockTree sp sts e) code
  block-end-narrow u code f t v nodes = record {
    by = λ c p wanted stands none.
        let all = written scope (variables_statements sts ++ variables e) in
        let first = statements-none p wanted none in
        let n = need_statements c.needs p.known p.vars [] sts (variables e) in
        let k = pending (lets_behind p.known p.vars sts) (variables e) in
        let m = need c.needs p.known (vars_behind p.known p.vars sts) e in
        let whole = 2 + max n (k + m) in
        let n1 : n ≤ whole = omega arith in
        let n2 : k + m ≤ whole = omega arith in
        joined c.funs c.widths c.own ss u code all all (written inner (variables e)) whole
        (roomier c.funs c.widths c.own ss all all (written inner (variables e)) n whole (statements-first c p t stands first) n1)
        (recast-code c.funs c.widths c.own u (written inner (variables e)) (written inner (variables e)) (written inner (variables e)) all k m whole
        (v.by c (with_vars (vars_behind p.known p.vars sts) p) anything (stands-behind f c.own p stands first) (last-none p wanted none)) itself (tail-grows c.own p t stands first) n2) nodes;
  }

-- How large the steps of expressions one after another, of statements and of blocks are.
use Rattle.std.proofs.Common.{◌≡◌, ℕ, ◌+◌, List, [], ◌∷◌, ◌++◌, ap, length, Option, arith}
use Rattle.std.proofs.lemmas.List.{length-append}
use Rattle.nv_base.specs.declared.term.Atom.{Atom}
use Rattle.nv_ast.specs.declared.token.Span.{Span}
use Rattle.nv_ast.specs.Tree.{Tree, BlockTree, Trees, no_trees, tree_and, NamedTrees, no_named_trees, named_tree_and, PatternTree, StatementTree, LetStatement, StoreStatement, StatementTrees, no_statements, statement_and}
use Rattle.nv_ast.specs.Types.{WordTy, words, words_of_value}
use Rattle.nv_ast.specs.Scope.{Context, inside, with_vars, names_in}
use Rattle.nv_ast.specs.Typing.{type_at, vars_after, vars_behind}
use Rattle.nv_ast.specs.Faults.{Expected, a_value, of_type, anything, expected_stored, at_span, variable_twice, not_fitting, wrong_access, wrong_scratch, faults, list_faults, named_faults, statement_faults, statements_faults}
use Rattle.nv_ast.specs.Sizes.{expanded_all, expanded_named, expanded_statements}
use Rattle.flat_ir.specs.declared.flat.Flat.{Flat}
use Rattle.flat_ir.specs.declared.spine.Step.{Step}
use Rattle.flat_ir.specs.declared.spine.Step.TheVariants.{Store}
use Rattle.flat_ir.specs.Spine.{AreNodes}
use Rattle.nv_base.specs.Measures.{a_label, both, IsAtMost}
use Rattle.flat_ir.specs.Bulk.{code_bulk}
use Rattle.nv_flatten_values.specs.inner.Code.{form_or_unit}
use Rattle.nv_flatten_values.specs.inner.Symbols.{Symbol, Symbols, NamedSymbols, no_symbols, symbol_and, no_named_symbols, named_symbol_and, SymbolScope, operands, all_operands, named_operands, word_operand}
use Rattle.nv_flatten_values.specs.inner.Whole.{Whole, Stands}
use Rattle.nv_flatten_values.specs.inner.Simulation.{Names, IsStated}
use Rattle.nv_flatten_values.specs.inner.Small.{of_parts, uses, value_rest, Sized, IsSmallValue, AreSmallValues, AreSmallFields, IsSmallStated, IsSmallEnd}
use Rattle.nv_flatten_values.proofs.NarrowSteps.{stored}
use Rattle.nv_flatten.proofs.NarrowLists.{stands-after, stands-behind, statements-none, last-none}
use Rattle.nv_flatten.proofs.SmallBulks.{alone-most, both-most, after-most, front-most, stored-most, stay-most, steps-then, code-then}
use Rattle.nv_flatten.proofs.SmallValues.{of_steps, size_of, behind_value}
use Rattle.nv_flatten_values.proofs.Following.{stands-inside}
use Rattle.nv_ast.proofs.Faultless.{no_front, no_rest}

module _ (w : Whole) (names : Names) (scope : SymbolScope) where
  -- ---- lists
  pub small-values-nil : AreSmallValues w names scope no_trees [] no_symbols
  small-values-nil = record { by = λ c p wanted stands none. record { labels = omega arith; jumps = omega arith; nodes = omega arith; defined = omega arith; used = omega arith } }

  pub small-fields-nil : AreSmallFields w names scope no_named_trees [] no_named_symbols
  small-fields-nil = record { by = λ c p stands none. record { labels = omega arith; jumps = omega arith; nodes = omega arith; defined = omega arith; used = omega arith } }

  -- one more in front
  front : (c : Sized w names) (p : Context) (x : Expected) (e : Tree) (ss ts : List Step) (s : Symbol) (u : List Atom) (rest : ℕ) → IsSmallValue w names scope e ss s → IsAtMost (both (of_steps c ts) (uses (length u))) (of_parts rest) → Stands w c.own scope p → faults p x e ≡ []
      → IsAtMost (both (of_steps c (ss ++ ts)) (uses (length (operands s ++ u)))) (of_parts (size_of c p e + rest))
  front c p x e ss ts s u rest v r stands none =
      let long = length-append (operands s) u in
      front-most (of_steps c (ss ++ ts)) (of_steps c ss) (of_steps c ts) (value_rest e) (length (operands s)) (length u) (length (operands s ++ u)) (size_of c p e) rest (steps-then c.funs c.bulks c.own ss ts) (v.by c p x stands none) r (omega arith)

  cons-by : (e : Tree) (es : Trees) (ss ts : List Step) (s : Symbol) (us : Symbols) → IsSmallValue w names scope e ss s → AreSmallValues w names scope es ts us → (c : Sized w names) (p : Context) (wanted : List Expected) → Stands w c.own scope p → list_faults p wanted (tree_and e es) ≡ []
      → IsAtMost (both (of_steps c (ss ++ ts)) (uses (length (operands s ++ all_operands us)))) (of_parts (size_of c p e + expanded_all c.sizes p.known p.vars es))
  cons-by e es ss ts s us v rest c p [] stands none =
      front c p a_value e ss ts s (all_operands us) (expanded_all c.sizes p.known p.vars es) v (rest.by c p [] stands (no_rest (faults p a_value e) (list_faults p [] es) none)) stands (no_front (faults p a_value e) (list_faults p [] es) none)
  cons-by e es ss ts s us v rest c p (x ∷ xs) stands none =
      front c p x e ss ts s (all_operands us) (expanded_all c.sizes p.known p.vars es) v (rest.by c p xs stands (no_rest (faults p x e) (list_faults p xs es) none)) stands (no_front (faults p x e) (list_faults p xs es) none)

  pub small-values-cons : (e : Tree) (es : Trees) (ss ts : List Step) (s : Symbol) (us : Symbols) → IsSmallValue w names scope e ss s → AreSmallValues w names scope es ts us → AreSmallValues w names scope (tree_and e es) (ss ++ ts) (symbol_and s us)
  small-values-cons e es ss ts s us v rest = record { by = cons-by e es ss ts s us v rest }

  pub small-fields-cons : (x y : List ℕ) (e : Tree) (es : NamedTrees) (ss ts : List Step) (s : Symbol) (us : NamedSymbols) → IsSmallValue w names scope e ss s → AreSmallFields w names scope es ts us
      → AreSmallFields w names scope (named_tree_and x e es) (ss ++ ts) (named_symbol_and y s us)
  small-fields-cons x y e es ss ts s us v rest = record {
    by = λ c p stands none.
        front c p a_value e ss ts s (named_operands us) (expanded_named c.sizes p.known p.vars es) v (rest.by c p stands (no_rest (faults p a_value e) (named_faults p es) none)) stands (no_front (faults p a_value e) (named_faults p es) none);
  }

  -- ---- statements
  pub let-small : (sp : Span) (q : PatternTree) (e : Tree) (ss : List Step) (s : Symbol) → IsSmallValue w names scope e ss s → IsSmallStated w names scope (statement_and (LetStatement sp q e) no_statements) ss
  let-small sp q e ss s v = record {
    by = λ c p stands none.
        let own = at_span sp (variable_twice (names_in q) ++ not_fitting q (type_at p.known p.vars e)) in
        alone-most (of_steps c ss) (behind_value e s) (size_of c p e) 1 (expanded_statements c.sizes p.known p.vars (statement_and (LetStatement sp q e) no_statements))
        (v.by c p a_value stands (no_front (faults p a_value e) own (no_front (faults p a_value e ++ own) [] none))) (omega arith);
  }

  pub store-small : (sp : Span) (m : _) (a e : Tree) (ss ts : List Step) (s u : Symbol) (bs : _) → IsSmallValue w names scope a ss s → IsSmallValue w names scope e ts u → stored (Store m (word_operand s) bs) ≡ operands u
      → IsSmallStated w names scope (statement_and (StoreStatement sp m a e) no_statements) ((ss ++ ts) ++ Store m (word_operand s) bs ∷ [])
  store-small sp m a e ss ts s u bs v t same = record {
    by = λ c p stands none.
        let n = words_of_value (type_at p.known p.vars e) in
        let own = at_span sp (wrong_access m n ++ wrong_scratch m a n) in
        let clean = no_front (faults p (of_type WordTy) a ++ (faults p expected_stored e ++ own)) [] none in
        let last = Store m (word_operand s) bs ∷ [] in
        let few : length bs.items ≡ length (operands u) = ap length same in
        stored-most (of_steps c ((ss ++ ts) ++ last)) (of_steps c (ss ++ ts)) (of_steps c ss) (of_steps c ts) (value_rest a) (value_rest e) (length (operands s)) (length (operands u)) (length bs.items) (size_of c p a) (size_of c p e)
        (expanded_statements c.sizes p.known p.vars (statement_and (StoreStatement sp m a e) no_statements)) (steps-then c.funs c.bulks c.own (ss ++ ts) last) (steps-then c.funs c.bulks c.own ss ts)
        (v.by c p (of_type WordTy) stands (no_front (faults p (of_type WordTy) a) (faults p expected_stored e ++ own) clean))
        (t.by c p expected_stored stands (no_front (faults p expected_stored e) own (no_rest (faults p (of_type WordTy) a) (faults p expected_stored e ++ own) clean))) (omega arith) (omega arith);
  }

  pub small-stated-nil : IsSmallStated w names scope no_statements []
  small-stated-nil = record { by = λ c p stands none. record { labels = omega arith; jumps = omega arith; nodes = omega arith; defined = omega arith; used = omega arith } }

  pub small-stated-cons : (others : Names) (low high : ℕ) (mid : SymbolScope) (st : StatementTree) (sts : StatementTrees) (ss ts : List Step) → IsStated w others low high scope (statement_and st no_statements) ss mid → IsSmallStated w names scope (statement_and st no_statements) ss
      → IsSmallStated w names mid sts ts → IsSmallStated w names scope (statement_and st sts) (ss ++ ts)
  small-stated-cons others low high mid st sts ss ts f v rest = record {
    by = λ c p stands none.
        let behind = with_vars (vars_after p.known p.vars st) p in
        let first = no_front (statement_faults p st) (statements_faults behind sts) none in
        let second = no_rest (statement_faults p st) (statements_faults behind sts) none in
        both-most (of_steps c (ss ++ ts)) (of_steps c ss) (of_steps c ts) (expanded_statements c.sizes p.known p.vars (statement_and st no_statements)) (expanded_statements c.sizes p.known (vars_after p.known p.vars st) sts)
        (expanded_statements c.sizes p.known p.vars (statement_and st sts)) (steps-then c.funs c.bulks c.own ss ts) (v.by c p stands (ap (λ l. l ++ []) first))
        (rest.by c behind (stands-after w names scope others low high mid st ss f c.own p stands first) second) (omega arith);
  }

-- ---- blocks
module _ (w : Whole) (names others : Names) (low high : ℕ) (scope inner : SymbolScope) (sp : Span) (sts : StatementTrees) (e : Tree) (ss : List Step) where
  abbrev behind : Context → Context
  behind p = with_vars (vars_behind p.known p.vars sts) p

  statements-first : (c : Sized w names) (p : Context) (wanted : Expected) → IsSmallStated w names scope sts ss → Stands w c.own scope p → faults p wanted (BlockTree sp sts e) ≡ [] → IsAtMost (of_steps c ss) (of_parts (expanded_statements c.sizes p.known p.vars sts))
  statements-first c p wanted t stands none = t.by c (inside p) (stands-inside w c.own scope p stands) (statements-none w names others low high scope inner sp sts e ss p wanted none)

  stands-last : (own : ℕ) (p : Context) (wanted : Expected) → IsStated w others low high scope sts ss inner → Stands w own scope p → faults p wanted (BlockTree sp sts e) ≡ [] → Stands w own inner (behind p)
  stands-last own p wanted f stands none = stands-behind w names others low high scope inner sp sts e ss f own p stands (statements-none w names others low high scope inner sp sts e ss p wanted none)

  pub block-small : (ts : List Step) (s : Symbol) → IsStated w others low high scope sts ss inner → IsSmallStated w names scope sts ss → IsSmallValue w names inner e ts s → IsSmallValue w names scope (BlockTree sp sts e) (ss ++ ts) s
  block-small ts s f t v = record {
    by = λ c p wanted stands none.
        let n = expanded_statements c.sizes p.known p.vars sts in
        let m = size_of c (behind p) e in
        stay-most (of_steps c (ss ++ ts)) (value_rest e) (BlockTree sp sts e) (length (operands s)) (length (operands s)) (n + m) (size_of c p (BlockTree sp sts e))
        (after-most (of_steps c (ss ++ ts)) (of_steps c ss) (of_steps c ts) (behind_value e s) n m (n + m) (steps-then c.funs c.bulks c.own ss ts) (statements-first c p wanted t stands none)
        (v.by c (behind p) anything (stands-last c.own p wanted f stands none) (last-none w names others low high scope inner sp sts e ss p wanted none)) (omega arith)) (omega arith) (omega arith);
  }

  pub block-end-small : (u code : Flat) (o : Option Symbol) → IsStated w others low high scope sts ss inner → IsSmallStated w names scope sts ss → IsSmallEnd w names inner e u o → AreNodes ss u code → IsSmallEnd w names scope (BlockTree sp sts e) code o
  block-end-small u code o f t v nodes = record {
    by = λ c p wanted stands none last.
        after-most (code_bulk c.funs c.bulks c.own last code) (of_steps c ss) (code_bulk c.funs c.bulks c.own last u) (both a_label (uses (words (form_or_unit o)))) (expanded_statements c.sizes p.known p.vars sts) (size_of c (behind p) e) (size_of c p (BlockTree sp sts e))
        (code-then c.funs c.bulks c.own last ss u code nodes) (statements-first c p wanted t stands none)
        (v.by c (behind p) anything (stands-last c.own p wanted f stands none) (last-none w names others low high scope inner sp sts e ss p wanted none) last) (omega arith);
  }

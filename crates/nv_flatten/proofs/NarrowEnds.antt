-- How wide conditions are, and code that ends with an expression's words.
use Rattle.std.proofs.Common.{◌≡◌, ℕ, ◌+◌, ◌≤◌, true, List, [], ◌∷◌, ◌++◌, refl, sym, ap, subst, ◌∙◌, All, length, Option, Some, None, arith}
use Rattle.std.specs.Prelude.{All}
use Rattle.std.proofs.lemmas.Bool.{false≢true}
use Rattle.std.proofs.lemmas.Option.{same_Some}
use Rattle.nv_base.specs.declared.term.Atom.{Atom}
use Rattle.nv_base.specs.declared.term.Atom.TheVariants.{Lit}
use Rattle.nv_base.specs.declared.term.Cmp.{Cmp}
use Rattle.nv_base.specs.Words.{atom_vars}
use Rattle.nv_ast.specs.declared.token.Span.{Span}
use Rattle.nv_ast.specs.declared.tree.Op.{Op}
use Rattle.nv_ast.specs.Tree.{Tree, NumberTree, TruthTree, VarTree, ParenTree, TupleTree, FieldsTree, DotTree, InvertTree, NegateTree, BinaryTree, ShiftTree, CallTree, UnpackTree, PackTree, RaiseTree, IfTree, TryTree, FetchTree, BlockTree, Trees, no_trees, tree_and}
use Rattle.nv_ast.specs.Types.{Ty, BoolTy, Tys, no_tys, ty_and, words, total_words, words_of_value}
use Rattle.nv_ast.specs.Scope.{Known, Vars, Context, inside}
use Rattle.nv_ast.specs.Typing.{type_at, types_at, and_ty, operand_ty, result_ty}
use Rattle.nv_ast.specs.Faults.{Expected, anything, a_value, of_type, same_as, faults, list_faults, node_faults}
use Rattle.nv_ast.specs.Sizes.{words_at, words_all, need, variables}
use Rattle.flat_ir.specs.declared.flat.Flat.{Flat}
use Rattle.flat_ir.specs.declared.flat.Flat.TheVariants.{If', Give}
use Rattle.flat_ir.specs.declared.flat.FlatFun.{FlatFun}
use Rattle.flat_ir.specs.declared.spine.Step.{Step}
use Rattle.flat_ir.specs.Spine.{AreNodes}
use Rattle.nv_base.specs.Sets.{all_vars}
use Rattle.flat_ir.specs.Wide.{Widths}
use Rattle.nv_flatten_values.specs.inner.Code.{is_given, is_comparison}
use Rattle.nv_flatten_values.specs.inner.Symbols.{Symbol, Symbols, SymbolScope, operands, all_operands, truth_operand}
use Rattle.nv_flatten_values.specs.inner.Whole.{Whole, Stands}
use Rattle.nv_flatten_values.specs.inner.Simulation.{Names, HasForm, AreValues}
use Rattle.nv_flatten_values.specs.inner.Narrow.{IsWithin, written, NarrowSteps, NarrowCode, IsNarrowValue, IsNarrowTest, IsNarrowEnd}
use Rattle.nv_flatten_values.specs.inner.Well.{GivesLiteral}
use Rattle.nv_flatten_values.proofs.Sound.{values-have-types}
use Rattle.nv_flatten_values.proofs.Within.{itself, of-none, one, both, unions, together, behind-same, grows-not}
use Rattle.nv_flatten_values.proofs.NarrowSteps.{last, beside, joined, recast-code, give-code, if-code}
use Rattle.nv_flatten_values.proofs.NarrowFacts.{written-append, counted-given, words-of-forms, truth-operand-within, need-least}
use Rattle.nv_flatten.proofs.NarrowValues.{roomier, less-behind, operands-narrow, result-words}
use Rattle.nv_flatten_values.proofs.Following.{stands-inside}
use Rattle.nv_ast.proofs.Faultless.{no_front, no_rest}

module _ (funs : List FlatFun) (widths : Widths) (own : ℕ) where
  literal-code : (t : Flat) → GivesLiteral t → NarrowCode funs widths own t [] [] 2
  literal-code t h =
      let bs = h.0 in
      let one : length bs.items ≡ 1 = ap length h.3 in
      subst (λ c. NarrowCode funs widths own c [] [] 2) (sym h.2)
      (subst (λ l. NarrowCode funs widths own (Give bs) (all_vars l) [] 2) h.3 (give-code funs widths own bs 2 (omega arith)))

  -- a test, and a choice between two pieces of code
  choice-code : (ss : List Step) (cmp : Cmp) (a b : Atom) (q r : _) (t u code : Flat) (v first second : List ℕ) (m k n all : ℕ) → NarrowSteps funs widths own ss v v (all_vars (a ∷ b ∷ [])) m → NarrowCode funs widths own t first first k → NarrowCode funs widths own u second second n
      → AreNodes ss (If' cmp a b q t r u) code → m ≤ all → k ≤ all → n ≤ all → 3 ≤ all → NarrowCode funs widths own code (v ++ (first ++ second)) (v ++ (first ++ second)) all
  choice-code ss cmp a b q r t u code v first second m k n all test c d nodes p1 p2 p3 p4 =
      let arms = first ++ second in
      let base = v ++ arms in
      let in-first : IsWithin first base = unions (v ∷ first ∷ second ∷ []) (one 1) (both (one 0) (both (one 1) (one 2))) refl in
      let in-second : IsWithin second base = unions (v ∷ first ∷ second ∷ []) (one 2) (both (one 0) (both (one 1) (one 2))) refl in
      joined funs widths own ss (If' cmp a b q t r u) code base base (all_vars (a ∷ b ∷ []) ++ arms) all
      (roomier funs widths own ss base base (all_vars (a ∷ b ∷ []) ++ arms) m all (beside funs widths own arms ss v v (all_vars (a ∷ b ∷ [])) m test) p1)
      (if-code funs widths own cmp a b q r t u first second base all
      (recast-code funs widths own t first first first base 0 k all c itself (grows-not base first in-first) (omega arith))
      (recast-code funs widths own u second second second base 0 n all d itself (grows-not base second in-second) (omega arith)) in-first in-second p4) nodes

-- the variables of three parts
written-three : (scope : SymbolScope) (xs ys zs : List (List ℕ)) → written scope (xs ++ (ys ++ zs)) ≡ written scope xs ++ (written scope ys ++ written scope zs)
written-three scope xs ys zs = written-append scope xs (ys ++ zs) ∙ ap (λ l. written scope xs ++ l) (written-append scope ys zs)

-- ---- words of arguments
words-and : (o : Option Ty) (us : Option Tys) (ts : Tys) (n : ℕ) → ((u : Tys) → us ≡ Some u → n ≡ total_words u) → and_ty o us ≡ Some ts → words_of_value o + n ≡ total_words ts
words-and None None ts n h e = cc
words-and None (Some u) ts n h e = cc
words-and (Some t) None ts n h e = cc
words-and (Some t) (Some u) ts n h e =
    let same : ty_and t u ≡ ts = cc in
    subst (λ l. words t + n ≡ total_words l) same (ap (λ k. words t + k) (h u refl))

words-of-types : (k : Known) (vars : Vars) (es : Trees) (ts : Tys) → types_at k vars es ≡ Some ts → words_all k vars es ≡ total_words ts
words-of-types k vars no_trees ts e = empty ts e
  where
    empty : (ts : Tys) → types_at k vars no_trees ≡ Some ts → 0 ≡ total_words ts
    empty ts e = ap total_words (same_Some no_tys ts e)
words-of-types k vars (tree_and x es) ts e = words-and (type_at k vars x) (types_at k vars es) ts (words_all k vars es) (λ u h. words-of-types k vars es u h) e

-- the words of arguments are their operands
pub arguments-counted : (w : Whole) (names : Names) (low high : ℕ) (scope : SymbolScope) (es : Trees) (ss : List Step) (us : Symbols) → AreValues w names low high scope es ss us → (own : ℕ) (p : Context) (wanted : List Expected) → All (λ x. x.value ≡ true) wanted → Stands w own scope p → list_faults p wanted es ≡ []
    → length (all_operands us) ≡ words_all p.known p.vars es
arguments-counted w names low high scope es ss us f own p wanted values stands none =
    let typed = values-have-types p wanted es values none in
    words-of-forms us ∙ ap total_words (f.formed own p wanted stands none typed.0 typed.1) ∙ sym (words-of-types p.known p.vars es typed.0 typed.1)

-- a comparison has one word
comparison-words : (w : Whole) (names : Names) (scope : SymbolScope) (k : Known) (vars : Vars) (e : Tree) → is_comparison e ≡ true → words_at k vars e ≡ 1
comparison-words w names scope k vars (BinaryTree s op a b) is = result-words w names scope op
comparison-words w names scope k vars (NumberTree s n) is = absurd (false≢true is)
comparison-words w names scope k vars (TruthTree s b) is = absurd (false≢true is)
comparison-words w names scope k vars (VarTree s x) is = absurd (false≢true is)
comparison-words w names scope k vars (ParenTree s e) is = absurd (false≢true is)
comparison-words w names scope k vars (TupleTree s es) is = absurd (false≢true is)
comparison-words w names scope k vars (FieldsTree s es) is = absurd (false≢true is)
comparison-words w names scope k vars (DotTree s e x) is = absurd (false≢true is)
comparison-words w names scope k vars (InvertTree s e) is = absurd (false≢true is)
comparison-words w names scope k vars (NegateTree s e) is = absurd (false≢true is)
comparison-words w names scope k vars (ShiftTree s op e n) is = absurd (false≢true is)
comparison-words w names scope k vars (CallTree s f es) is = absurd (false≢true is)
comparison-words w names scope k vars (UnpackTree s l e) is = absurd (false≢true is)
comparison-words w names scope k vars (PackTree s l e) is = absurd (false≢true is)
comparison-words w names scope k vars (RaiseTree s x es) is = absurd (false≢true is)
comparison-words w names scope k vars (IfTree s c a b) is = absurd (false≢true is)
comparison-words w names scope k vars (TryTree s a x ps h) is = absurd (false≢true is)
comparison-words w names scope k vars (FetchTree s m n a) is = absurd (false≢true is)
comparison-words w names scope k vars (BlockTree s sts e) is = absurd (false≢true is)

module _ (w : Whole) (names : Names) (scope : SymbolScope) where
  -- ---- conditions
  pub truth-test-narrow : (e : Tree) (ss : List Step) (s : Symbol) (n : ℕ) → IsNarrowValue w names scope e ss s → IsNarrowTest w names scope e ss (truth_operand s) (Lit n)
  truth-test-narrow e ss s n v = record {
    by = λ c p wanted stands none.
        let v0 = written scope (variables e) in
        let m = need c.needs p.known p.vars e in
        less-behind c.funs c.widths c.own ss v0 v0 (all_vars (operands s)) (all_vars (truth_operand s ∷ Lit n ∷ [])) m m (v.by c p wanted stands none)
        (together (atom_vars (truth_operand s)) [] (all_vars (operands s)) (truth-operand-within s) (of-none (all_vars (operands s)))) (omega arith);
  }

  pub paren-test-narrow : (sp : Span) (e : Tree) (ss : List Step) (a b : Atom) → IsNarrowTest w names scope e ss a b → IsNarrowTest w names scope (ParenTree sp e) ss a b
  paren-test-narrow sp e ss a b v = record {
    by = λ c p wanted stands none.
        let v0 = written scope (variables e) in
        roomier c.funs c.widths c.own ss v0 v0 (all_vars (a ∷ b ∷ [])) (need c.needs p.known p.vars e) (need c.needs p.known p.vars (ParenTree sp e))
        (v.by c p a_value stands (no_front (faults p a_value e) (node_faults p wanted (ParenTree sp e)) none)) (omega arith);
  }

  pub negate-test-narrow : (sp : Span) (e : Tree) (ss : List Step) (a b : Atom) → IsNarrowTest w names scope e ss a b → IsNarrowTest w names scope (NegateTree sp e) ss a b
  negate-test-narrow sp e ss a b v = record {
    by = λ c p wanted stands none.
        let v0 = written scope (variables e) in
        roomier c.funs c.widths c.own ss v0 v0 (all_vars (a ∷ b ∷ [])) (need c.needs p.known p.vars e) (need c.needs p.known p.vars (NegateTree sp e))
        (v.by c (inside p) (of_type BoolTy) (stands-inside w c.own scope p stands) (no_front (faults (inside p) (of_type BoolTy) e) (node_faults p wanted (NegateTree sp e)) none)) (omega arith);
  }

  pub compare-narrow : (sp : Span) (op : Op) (a b : Tree) (ss ts : List Step) (s u : Symbol) (l r : Atom) → HasForm w scope a s → IsNarrowValue w names scope a ss s → IsNarrowValue w names scope b ts u
      → IsWithin (all_vars (l ∷ r ∷ [])) (all_vars (operands s) ++ all_vars (operands u)) → IsNarrowTest w names scope (BinaryTree sp op a b) (ss ++ ts) l r
  compare-narrow sp op a b ss ts s u l r f v t these = record {
    by = λ c p wanted stands none.
        let v0 = written scope (variables a ++ variables b) in
        let all = need c.needs p.known p.vars (BinaryTree sp op a b) in
        less-behind c.funs c.widths c.own (ss ++ ts) v0 v0 (all_vars (operands s) ++ all_vars (operands u)) (all_vars (l ∷ r ∷ [])) all all
        (operands-narrow w names scope c p wanted sp op a b ss ts s u f v t stands none all (omega arith)) these (omega arith);
  }

  -- ---- endings
  pub given-narrow : (e : Tree) (ss : List Step) (s : Symbol) (bs : _) (code : Flat) → is_given e ≡ true → HasForm w scope e s → IsNarrowValue w names scope e ss s → last (Give bs) ≡ operands s → AreNodes ss (Give bs) code → IsNarrowEnd w names scope e code
  given-narrow e ss s bs code g f v same nodes = record {
    by = λ c p wanted stands none.
        let v0 = written scope (variables e) in
        let m = need c.needs p.known p.vars e in
        let least : 2 + words_at p.known p.vars e ≤ m = need-least c.needs p.known p.vars e in
        let many : length bs.items ≡ words_at p.known p.vars e = ap length same ∙ counted-given w scope e s f c.own p wanted stands none g in
        joined c.funs c.widths c.own ss (Give bs) code v0 v0 (all_vars (operands s)) m (v.by c p wanted stands none)
        (recast-code c.funs c.widths c.own (Give bs) (all_vars bs.items) [] (all_vars (operands s)) v0 0 m m (give-code c.funs c.widths c.own bs m (omega arith)) (subst (λ l. IsWithin (all_vars bs.items) (all_vars l)) same itself) (grows-not v0 [] (of-none v0)) (omega arith)) nodes;
  }

  pub paren-end-narrow : (sp : Span) (e : Tree) (code : Flat) → IsNarrowEnd w names scope e code → IsNarrowEnd w names scope (ParenTree sp e) code
  paren-end-narrow sp e code v = record {
    by = λ c p wanted stands none.
        let v0 = written scope (variables e) in
        recast-code c.funs c.widths c.own code v0 v0 v0 v0 0 (need c.needs p.known p.vars e) (need c.needs p.known p.vars (ParenTree sp e)) (v.by c p a_value stands (no_front (faults p a_value e) (node_faults p wanted (ParenTree sp e)) none)) itself (grows-not v0 v0 itself) (omega arith);
  }

  pub decided-narrow : (e : Tree) (ss : List Step) (cmp : Cmp) (l r : Atom) (q q' : _) (t u code : Flat) → is_comparison e ≡ true → IsNarrowTest w names scope e ss l r → GivesLiteral t → GivesLiteral u → AreNodes ss (If' cmp l r q t q' u) code → IsNarrowEnd w names scope e code
  decided-narrow e ss cmp l r q q' t u code one' v h i nodes = record {
    by = λ c p wanted stands none.
        let v0 = written scope (variables e) in
        let all = need c.needs p.known p.vars e in
        let least : 2 + words_at p.known p.vars e ≤ all = need-least c.needs p.known p.vars e in
        let many : words_at p.known p.vars e ≡ 1 = comparison-words w names scope p.known p.vars e one' in
        let back : IsWithin (v0 ++ ([] ++ [])) v0 = together v0 [] v0 itself (of-none v0) in
        recast-code c.funs c.widths c.own code (v0 ++ ([] ++ [])) (v0 ++ ([] ++ [])) v0 v0 0 all all
        (choice-code c.funs c.widths c.own ss cmp l r q q' t u code v0 [] [] all 2 2 all (v.by c p wanted stands none) (literal-code c.funs c.widths c.own t h) (literal-code c.funs c.widths c.own u i) nodes (omega arith) (omega arith) (omega arith) (omega arith))
        back (grows-not v0 (v0 ++ ([] ++ [])) back) (omega arith);
  }

  pub first-none : (p : Context) (wanted : Expected) (sp : Span) (op : Op) (a b : Tree) → faults p wanted (BinaryTree sp op a b) ≡ [] → faults (inside p) (of_type (operand_ty op)) a ≡ []
  first-none p wanted sp op a b none = no_front (faults (inside p) (of_type (operand_ty op)) a) (faults (inside p) (of_type (operand_ty op)) b ++ node_faults p wanted (BinaryTree sp op a b)) none

  pub second-none : (p : Context) (wanted : Expected) (sp : Span) (op : Op) (a b : Tree) → faults p wanted (BinaryTree sp op a b) ≡ [] → faults (inside p) (of_type (operand_ty op)) b ≡ []
  second-none p wanted sp op a b none =
      no_front (faults (inside p) (of_type (operand_ty op)) b) (node_faults p wanted (BinaryTree sp op a b))
      (no_rest (faults (inside p) (of_type (operand_ty op)) a) (faults (inside p) (of_type (operand_ty op)) b ++ node_faults p wanted (BinaryTree sp op a b)) none)

  drop-last : (va vb : List ℕ) → IsWithin (va ++ (vb ++ [])) (va ++ vb)
  drop-last va vb = behind-same va (vb ++ []) vb (together vb [] vb itself (of-none vb))

  pub both-narrow : (sp : Span) (op : Op) (a b : Tree) (ss : List Step) (cmp : Cmp) (l r : Atom) (q q' : _) (t u code : Flat) → IsNarrowTest w names scope a ss l r → IsNarrowEnd w names scope b t → GivesLiteral u → AreNodes ss (If' cmp l r q t q' u) code
      → IsNarrowEnd w names scope (BinaryTree sp op a b) code
  both-narrow sp op a b ss cmp l r q q' t u code v e i nodes = record {
    by = λ c p wanted stands none.
        let va = written scope (variables a) in
        let vb = written scope (variables b) in
        let v0 = written scope (variables a ++ variables b) in
        let all = need c.needs p.known p.vars (BinaryTree sp op a b) in
        let one' : words (result_ty op) ≡ 1 = result-words w names scope op in
        let right = of_type (operand_ty op) in
        let back : IsWithin (va ++ (vb ++ [])) v0 =
        subst (IsWithin (va ++ (vb ++ []))) (sym (written-append scope (variables a) (variables b))) (drop-last va vb) in
        recast-code c.funs c.widths c.own code (va ++ (vb ++ [])) (va ++ (vb ++ [])) v0 v0 0 all all
        (choice-code c.funs c.widths c.own ss cmp l r q q' t u code va vb [] (need c.needs p.known p.vars a) (need c.needs p.known p.vars b) 2 all
        (v.by c (inside p) right (stands-inside w c.own scope p stands) (first-none p wanted sp op a b none)) (e.by c (inside p) right (stands-inside w c.own scope p stands) (second-none p wanted sp op a b none))
        (literal-code c.funs c.widths c.own u i) nodes (omega arith) (omega arith) (omega arith) (omega arith))
        back (grows-not v0 (va ++ (vb ++ [])) back) (omega arith);
  }

  pub either-narrow : (sp : Span) (op : Op) (a b : Tree) (ss : List Step) (cmp : Cmp) (l r : Atom) (q q' : _) (t u code : Flat) → IsNarrowTest w names scope a ss l r → GivesLiteral t → IsNarrowEnd w names scope b u → AreNodes ss (If' cmp l r q t q' u) code
      → IsNarrowEnd w names scope (BinaryTree sp op a b) code
  either-narrow sp op a b ss cmp l r q q' t u code v i e nodes = record {
    by = λ c p wanted stands none.
        let va = written scope (variables a) in
        let vb = written scope (variables b) in
        let v0 = written scope (variables a ++ variables b) in
        let all = need c.needs p.known p.vars (BinaryTree sp op a b) in
        let one' : words (result_ty op) ≡ 1 = result-words w names scope op in
        let right = of_type (operand_ty op) in
        let back : IsWithin (va ++ ([] ++ vb)) v0 = subst (IsWithin (va ++ vb)) (sym (written-append scope (variables a) (variables b))) itself in
        recast-code c.funs c.widths c.own code (va ++ ([] ++ vb)) (va ++ ([] ++ vb)) v0 v0 0 all all
        (choice-code c.funs c.widths c.own ss cmp l r q q' t u code va [] vb (need c.needs p.known p.vars a) 2 (need c.needs p.known p.vars b) all
        (v.by c (inside p) right (stands-inside w c.own scope p stands) (first-none p wanted sp op a b none)) (literal-code c.funs c.widths c.own t i)
        (e.by c (inside p) right (stands-inside w c.own scope p stands) (second-none p wanted sp op a b none)) nodes (omega arith) (omega arith) (omega arith) (omega arith))
        back (grows-not v0 (va ++ ([] ++ vb)) back) (omega arith);
  }

  pub choose-narrow : (sp : Span) (x a b : Tree) (ss : List Step) (cmp : Cmp) (l r : Atom) (q q' : _) (t u code : Flat) → IsNarrowTest w names scope x ss l r → IsNarrowEnd w names scope a t → IsNarrowEnd w names scope b u → AreNodes ss (If' cmp l r q t q' u) code
      → IsNarrowEnd w names scope (IfTree sp x a b) code
  choose-narrow sp x a b ss cmp l r q q' t u code v e i nodes = record {
    by = λ c p wanted stands none.
        let vx = written scope (variables x) in
        let va = written scope (variables a) in
        let vb = written scope (variables b) in
        let v0 = written scope (variables x ++ (variables a ++ variables b)) in
        let all = need c.needs p.known p.vars (IfTree sp x a b) in
        let fx = faults (inside p) (of_type BoolTy) x in
        let fa = faults p anything a in
        let fb = faults p (same_as (type_at p.known p.vars a)) b in
        let own = node_faults p wanted (IfTree sp x a b) in
        let least = need-least c.needs p.known p.vars x in
        let behind = no_rest fx (fa ++ (fb ++ own)) none in
        let back : IsWithin (vx ++ (va ++ vb)) v0 = subst (IsWithin (vx ++ (va ++ vb))) (sym (written-three scope (variables x) (variables a) (variables b))) itself in
        recast-code c.funs c.widths c.own code (vx ++ (va ++ vb)) (vx ++ (va ++ vb)) v0 v0 0 all all
        (choice-code c.funs c.widths c.own ss cmp l r q q' t u code vx va vb (need c.needs p.known p.vars x) (need c.needs p.known p.vars a) (need c.needs p.known p.vars b) all
        (v.by c (inside p) (of_type BoolTy) (stands-inside w c.own scope p stands) (no_front fx (fa ++ (fb ++ own)) none)) (e.by c p anything stands (no_front fa (fb ++ own) behind))
        (i.by c p (same_as (type_at p.known p.vars a)) stands (no_front fb own (no_rest fa (fb ++ own) behind))) nodes (omega arith) (omega arith) (omega arith) (omega arith))
        back (grows-not v0 (vx ++ (va ++ vb)) back) (omega arith);
  }

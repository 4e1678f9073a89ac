-- How large conditions are, and code that ends with an expression's words.
use Rattle.std.proofs.Common.{◌≡◌, ℕ, ◌+◌, ◌≤◌, Bool, true, false, if◌then◌else◌, List, ◌++◌, sym, ap, subst, length, Option, Some, None, arith}
use Rattle.std.specs.Option.{option_or}
use Rattle.nv_base.specs.declared.term.Atom.{Atom}
use Rattle.nv_base.specs.declared.term.Cmp.{Cmp}
use Rattle.nv_ast.specs.declared.token.Span.{Span}
use Rattle.nv_ast.specs.declared.tree.Op.{Op}
use Rattle.nv_ast.specs.Tree.{Tree, ParenTree, NegateTree, BinaryTree, IfTree}
use Rattle.nv_ast.specs.Types.{BoolTy, words}
use Rattle.nv_ast.specs.Scope.{inside}
use Rattle.nv_ast.specs.Typing.{type_at, operand_ty, result_ty}
use Rattle.nv_ast.specs.Faults.{anything, a_value, of_type, same_as, faults, node_faults}
use Rattle.flat_ir.specs.declared.flat.Flat.{Flat}
use Rattle.flat_ir.specs.declared.flat.Flat.TheVariants.{If', Give}
use Rattle.flat_ir.specs.declared.flat.FlatFun.{FlatFun}
use Rattle.flat_ir.specs.declared.spine.Step.{Step}
use Rattle.flat_ir.specs.Spine.{AreNodes}
use Rattle.nv_base.specs.Measures.{nothing, a_label, a_jump, a_node, both, IsAtMost}
use Rattle.flat_ir.specs.Bulk.{Bulks, code_bulk}
use Rattle.nv_flatten_values.specs.inner.Code.{is_given, is_comparison, form_or_unit}
use Rattle.nv_flatten_values.specs.inner.Symbols.{Symbol, Truth, SymbolScope, operands, form}
use Rattle.nv_flatten_values.specs.inner.Whole.{Whole}
use Rattle.nv_flatten_values.specs.inner.Simulation.{Names}
use Rattle.nv_flatten_values.specs.inner.Well.{GivesLiteral}
use Rattle.nv_flatten_values.specs.inner.Small.{of_parts, uses, test_rest, IsSmallValue, IsSmallTest, IsSmallEnd}
use Rattle.nv_flatten_values.proofs.NarrowFacts.{words-of-form}
use Rattle.nv_flatten.proofs.NarrowValues.{result-words}
use Rattle.nv_flatten.proofs.NarrowEnds.{first-none, second-none}
use Rattle.nv_flatten.proofs.SmallBulks.{decision, alone-most, more-most, most-alone, choice-most, beside-most, given-most, branch-most, decided-most, word-given, code-then}
use Rattle.nv_flatten.proofs.SmallValues.{of_steps, size_of, behind_value, operands-small}
use Rattle.nv_flatten_values.proofs.Following.{stands-inside}
use Rattle.nv_ast.proofs.Faultless.{no_front, no_rest}

-- ---- what is left
decision-most : (e : Tree) → IsAtMost (test_rest e) (of_parts 2)
decision-most e =
    let p = choice-most (is_comparison e) decision in
    record { labels = omega (arith, p.labels); jumps = omega (arith, p.jumps); nodes = omega (arith, p.nodes); defined = omega (arith, p.defined); used = omega (arith, p.used) }

-- the words of a choice are those of one of both
pub words-of-either : (o u : Option Symbol) → words (form_or_unit (option_or o u)) ≤ words (form_or_unit o) + words (form_or_unit u)
words-of-either None u = omega arith
words-of-either (Some s) u = omega arith

literal-most : (funs : List FlatFun) (bulks : Bulks) (own : ℕ) (last : Bool) (t : Flat) → GivesLiteral t → IsAtMost (both (code_bulk funs bulks own last t) (both a_label (uses 1))) (of_parts 1)
literal-most funs bulks own last t h = subst (λ c. IsAtMost (both (code_bulk funs bulks own last c) (both a_label (uses 1))) (of_parts 1)) (sym h.2) word-given

literal-jump : (funs : List FlatFun) (bulks : Bulks) (own : ℕ) (last : Bool) (t : Flat) → GivesLiteral t → code_bulk funs bulks own last t ≡ a_jump
literal-jump funs bulks own last t h = ap (code_bulk funs bulks own last) h.2

module _ (w : Whole) (names : Names) (scope : SymbolScope) where
  -- ---- conditions
  pub truth-test-small : (e : Tree) (ss : List Step) (s : Symbol) → is_comparison e ≡ false → IsSmallValue w names scope e ss s → IsSmallTest w names scope e ss
  truth-test-small e ss s not v = record {
    by = λ c p wanted stands none.
        subst (λ b. IsAtMost (both (of_steps c ss) (if b then decision else nothing)) (of_parts (size_of c p e))) (sym not)
        (most-alone (of_steps c ss) (size_of c p e) (alone-most (of_steps c ss) (behind_value e s) (size_of c p e) 0 (size_of c p e) (v.by c p wanted stands none) (omega arith)));
  }

  pub paren-test-small : (sp : Span) (e : Tree) (ss : List Step) → IsSmallTest w names scope e ss → IsSmallTest w names scope (ParenTree sp e) ss
  paren-test-small sp e ss v = record {
    by = λ c p wanted stands none.
        most-alone (of_steps c ss) (size_of c p (ParenTree sp e))
        (alone-most (of_steps c ss) (test_rest e) (size_of c p e) 0 (size_of c p (ParenTree sp e)) (v.by c p a_value stands (no_front (faults p a_value e) (node_faults p wanted (ParenTree sp e)) none)) (omega arith));
  }

  pub negate-test-small : (sp : Span) (e : Tree) (ss : List Step) → IsSmallTest w names scope e ss → IsSmallTest w names scope (NegateTree sp e) ss
  negate-test-small sp e ss v = record {
    by = λ c p wanted stands none.
        most-alone (of_steps c ss) (size_of c p (NegateTree sp e))
        (alone-most (of_steps c ss) (test_rest e) (size_of c p e) 0 (size_of c p (NegateTree sp e))
        (v.by c (inside p) (of_type BoolTy) (stands-inside w c.own scope p stands) (no_front (faults (inside p) (of_type BoolTy) e) (node_faults p wanted (NegateTree sp e)) none)) (omega arith));
  }

  pub compare-small : (sp : Span) (op : Op) (a b : Tree) (ss ts : List Step) (s u : Symbol) → IsSmallValue w names scope a ss s → IsSmallValue w names scope b ts u → IsSmallTest w names scope (BinaryTree sp op a b) (ss ++ ts)
  compare-small sp op a b ss ts s u v t = record {
    by = λ c p wanted stands none.
        let one : words (result_ty op) ≡ 1 = result-words w names scope op in
        let parts = size_of c p a + size_of c p b in
        beside-most (of_steps c (ss ++ ts)) (test_rest (BinaryTree sp op a b)) parts 2 (size_of c p (BinaryTree sp op a b)) (operands-small w names scope c p wanted sp op a b ss ts s u v t stands none) (decision-most (BinaryTree sp op a b)) (omega arith);
  }

  -- ---- endings
  pub given-small : (e : Tree) (ss : List Step) (s : Symbol) (bs : _) (code : Flat) → is_given e ≡ true → IsSmallValue w names scope e ss s → AreNodes ss (Give bs) code → IsSmallEnd w names scope e code (Some s)
  given-small e ss s bs code g v nodes = record {
    by = λ c p wanted stands none last.
        let same = words-of-form s in
        given-most (code_bulk c.funs c.bulks c.own last code) (of_steps c ss) (length (operands s)) (words (form s)) (size_of c p e) (code-then c.funs c.bulks c.own last ss (Give bs) code nodes)
        (subst (λ b. IsAtMost (both (of_steps c ss) (both (if b then both a_label a_jump else nothing) (uses (length (operands s))))) (of_parts (size_of c p e))) g (v.by c p wanted stands none)) (omega arith);
  }

  pub paren-end-small : (sp : Span) (e : Tree) (code : Flat) (o : Option Symbol) → IsSmallEnd w names scope e code o → IsSmallEnd w names scope (ParenTree sp e) code o
  paren-end-small sp e code o v = record {
    by = λ c p wanted stands none last.
        more-most (both (code_bulk c.funs c.bulks c.own last code) (both a_label (uses (words (form_or_unit o))))) (size_of c p e) (size_of c p (ParenTree sp e))
        (v.by c p a_value stands (no_front (faults p a_value e) (node_faults p wanted (ParenTree sp e)) none) last) (omega arith);
  }

  pub decided-small : (e : Tree) (ss : List Step) (cmp : Cmp) (l r : Atom) (q q' : _) (t u code : Flat) (a : Atom) → is_comparison e ≡ true → IsSmallTest w names scope e ss → GivesLiteral t → GivesLiteral u → AreNodes ss (If' cmp l r q t q' u) code → IsSmallEnd w names scope e code (Some (Truth a))
  decided-small e ss cmp l r q q' t u code a is v h i nodes = record {
    by = λ c p wanted stands none last.
        let first = code_bulk c.funs c.bulks c.own last in
        decided-most (first code) (of_steps c ss) (size_of c p e)
        (subst (λ b. IsAtMost (first code) (both (of_steps c ss) (both (a_node 0 2) (both b a_jump)))) (literal-jump c.funs c.bulks c.own last t h)
        (subst (λ b. IsAtMost (first code) (both (of_steps c ss) (both (a_node 0 2) (both (first t) b)))) (literal-jump c.funs c.bulks c.own last u i) (code-then c.funs c.bulks c.own last ss (If' cmp l r q t q' u) code nodes)))
        (subst (λ b. IsAtMost (both (of_steps c ss) (if b then decision else nothing)) (of_parts (size_of c p e))) is (v.by c p wanted stands none));
  }

  pub both-small : (sp : Span) (op : Op) (a b : Tree) (ss : List Step) (cmp : Cmp) (l r : Atom) (q q' : _) (t u code : Flat) (o : Option Symbol) (x : Atom) → IsSmallTest w names scope a ss → IsSmallEnd w names scope b t o → GivesLiteral u → AreNodes ss (If' cmp l r q t q' u) code
      → IsSmallEnd w names scope (BinaryTree sp op a b) code (Some (Truth x))
  both-small sp op a b ss cmp l r q q' t u code o x v e i nodes = record {
    by = λ c p wanted stands none last.
        let one : words (result_ty op) ≡ 1 = result-words w names scope op in
        let first = code_bulk c.funs c.bulks c.own last in
        let right = of_type (operand_ty op) in
        branch-most (first code) (of_steps c ss) (first t) (first u) (words (form_or_unit o)) 1 1 (size_of c p a) (size_of c p b) 1 (size_of c p (BinaryTree sp op a b)) (code-then c.funs c.bulks c.own last ss (If' cmp l r q t q' u) code nodes)
        (alone-most (of_steps c ss) (test_rest a) (size_of c p a) 0 (size_of c p a) (v.by c (inside p) right (stands-inside w c.own scope p stands) (first-none w names scope p wanted sp op a b none)) (omega arith))
        (e.by c (inside p) right (stands-inside w c.own scope p stands) (second-none w names scope p wanted sp op a b none) last) (literal-most c.funs c.bulks c.own last u i) (omega arith) (omega arith);
  }

  pub either-small : (sp : Span) (op : Op) (a b : Tree) (ss : List Step) (cmp : Cmp) (l r : Atom) (q q' : _) (t u code : Flat) (o : Option Symbol) (x : Atom) → IsSmallTest w names scope a ss → GivesLiteral t → IsSmallEnd w names scope b u o → AreNodes ss (If' cmp l r q t q' u) code
      → IsSmallEnd w names scope (BinaryTree sp op a b) code (Some (Truth x))
  either-small sp op a b ss cmp l r q q' t u code o x v i e nodes = record {
    by = λ c p wanted stands none last.
        let one : words (result_ty op) ≡ 1 = result-words w names scope op in
        let first = code_bulk c.funs c.bulks c.own last in
        let right = of_type (operand_ty op) in
        branch-most (first code) (of_steps c ss) (first t) (first u) 1 (words (form_or_unit o)) 1 (size_of c p a) 1 (size_of c p b) (size_of c p (BinaryTree sp op a b)) (code-then c.funs c.bulks c.own last ss (If' cmp l r q t q' u) code nodes)
        (alone-most (of_steps c ss) (test_rest a) (size_of c p a) 0 (size_of c p a) (v.by c (inside p) right (stands-inside w c.own scope p stands) (first-none w names scope p wanted sp op a b none)) (omega arith))
        (literal-most c.funs c.bulks c.own last t i) (e.by c (inside p) right (stands-inside w c.own scope p stands) (second-none w names scope p wanted sp op a b none) last) (omega arith) (omega arith);
  }

  pub choose-small : (sp : Span) (x a b : Tree) (ss : List Step) (cmp : Cmp) (l r : Atom) (q q' : _) (t u code : Flat) (o o' : Option Symbol) → IsSmallTest w names scope x ss → IsSmallEnd w names scope a t o → IsSmallEnd w names scope b u o' → AreNodes ss (If' cmp l r q t q' u) code
      → IsSmallEnd w names scope (IfTree sp x a b) code (option_or o o')
  choose-small sp x a b ss cmp l r q q' t u code o o' v e i nodes = record {
    by = λ c p wanted stands none last.
        let first = code_bulk c.funs c.bulks c.own last in
        let fx = faults (inside p) (of_type BoolTy) x in
        let fa = faults p anything a in
        let fb = faults p (same_as (type_at p.known p.vars a)) b in
        let own = node_faults p wanted (IfTree sp x a b) in
        let behind = no_rest fx (fa ++ (fb ++ own)) none in
        branch-most (first code) (of_steps c ss) (first t) (first u) (words (form_or_unit o)) (words (form_or_unit o')) (words (form_or_unit (option_or o o'))) (size_of c p x) (size_of c p a) (size_of c p b) (size_of c p (IfTree sp x a b))
        (code-then c.funs c.bulks c.own last ss (If' cmp l r q t q' u) code nodes)
        (alone-most (of_steps c ss) (test_rest x) (size_of c p x) 0 (size_of c p x) (v.by c (inside p) (of_type BoolTy) (stands-inside w c.own scope p stands) (no_front fx (fa ++ (fb ++ own)) none)) (omega arith))
        (e.by c p anything stands (no_front fa (fb ++ own) behind) last) (i.by c p (same_as (type_at p.known p.vars a)) stands (no_front fb own (no_rest fa (fb ++ own) behind)) last) (words-of-either o o') (omega arith);
  }

-- How large the steps of each expression's value are.
use Rattle.std.proofs.Common.{◌≡◌, ℕ, suc, ◌+◌, ◌≤◌, Bool, true, false, if◌then◌else◌, List, [], ◌∷◌, ◌++◌, refl, sym, ap, subst, ◌∙◌, length, bytes_eq, Option, Some, Vec, Global, arith}
use Rattle.std.proofs.lemmas.List.{length-append}
use Rattle.nv_base.specs.declared.term.Atom.TheVariants.{Var, Lit}
use Rattle.nv_base.specs.declared.term.Primitive.{Primitive}
use Rattle.nv_base.specs.declared.term.Primitive.TheVariants.{Una as UnaOf, Bin as BinOf}
use Rattle.nv_ast.specs.declared.token.Span.{Span}
use Rattle.nv_ast.specs.declared.tree.Op.{Op}
use Rattle.nv_ast.specs.declared.tree.ShiftOp.{ShiftOp}
use Rattle.nv_ast.specs.Tree.{Tree, NumberTree, TruthTree, VarTree, ParenTree, TupleTree, FieldsTree, DotTree, InvertTree, NegateTree, BinaryTree, ShiftTree, FetchTree, Trees, NamedTrees, StatementTrees}
use Rattle.nv_ast.specs.Tests.{look_up}
use Rattle.nv_ast.specs.Types.{Ty, WordTy, BoolTy, words, words_of_value, words_ty}
use Rattle.nv_ast.specs.Scope.{Context, inside}
use Rattle.nv_ast.specs.Typing.{operand_ty, result_ty}
use Rattle.nv_ast.specs.Faults.{Expected, a_value, of_type, faults, list_faults, named_faults, node_faults}
use Rattle.nv_ast.specs.Sizes.{expanded, expanded_all, expanded_named}
use Rattle.flat_ir.specs.declared.flat.Flat.{Flat}
use Rattle.flat_ir.specs.declared.spine.Step.{Step}
use Rattle.flat_ir.specs.declared.spine.Step.TheVariants.{Let, Fetch, Bind}
use Rattle.nv_base.specs.Measures.{Bulk, nothing, a_label, a_jump, a_node, both, IsAtMost}
use Rattle.flat_ir.specs.Bulk.{code_bulk}
use Rattle.flat_ir.specs.Pieces.{new_vars, steps_bulk}
use Rattle.nv_flatten_values.specs.inner.Code.{variables as var_operands, is_given, form_or_unit, shift_of}
use Rattle.nv_flatten_values.specs.inner.Symbols.{Symbol, Symbols, NamedSymbols, Word, Truth, Tuple, Record, no_named_symbols, named_symbol_and, SymbolScope, operands, all_operands, named_operands, form, fresh, numbers_from, words_symbol, word_operand, truth_operand, fields_of, field_named, symbol_in, vars_of}
use Rattle.nv_flatten_values.specs.inner.Whole.{Whole, Stands}
use Rattle.nv_flatten_values.specs.inner.Simulation.{Names, Extends}
use Rattle.nv_flatten_values.specs.inner.Small.{of_parts, uses, value_rest, Sized, IsSmallValue, AreSmallValues, AreSmallFields, IsSmallStated, IsSmallTest, IsSmallEnd}
use Rattle.nv_flatten_values.proofs.Fresh.{fresh-operands, numbers-length}
use Rattle.nv_flatten_values.proofs.NarrowFacts.{words-of-form}
use Rattle.nv_flatten.proofs.NarrowValues.{result-words}
use Rattle.nv_flatten.proofs.SmallBulks.{then-most, paid, stay-most, let-most, most-alone, most-words, bound-most, operands-most, steps-then}
use Rattle.nv_flatten_values.proofs.PackedWords.{symbol-operands}
use Rattle.nv_flatten_values.proofs.Following.{stands-inside}
use Rattle.nv_flatten_values.proofs.Keeping.{extends-then}
use Rattle.nv_flatten_values.proofs.WellBasics.{words-ty-words}
use Rattle.nv_ast.proofs.Faultless.{no_front, no_rest}

-- ---- further names
abbrev pub fewer-sized : (w : Whole) (names more : Names) → Extends names more → Sized w more → Sized w names
fewer-sized w names more h c = record { own = c.own; sizes = c.sizes; all = c.all; more = extends-then names more c.all h c.more; funs = c.funs; bulks = c.bulks; calls = c.calls }

module _ (w : Whole) (names more : Names) (h : Extends names more) (scope : SymbolScope) where
  pub value-small-more : (e : Tree) (ss : List Step) (s : Symbol) → IsSmallValue w names scope e ss s → IsSmallValue w more scope e ss s
  value-small-more e ss s v = record { by = λ c. v.by (fewer-sized w names more h c) }

  pub values-small-more : (es : Trees) (ss : List Step) (us : Symbols) → AreSmallValues w names scope es ss us → AreSmallValues w more scope es ss us
  values-small-more es ss us v = record { by = λ c. v.by (fewer-sized w names more h c) }

  pub stated-small-more : (sts : StatementTrees) (ss : List Step) → IsSmallStated w names scope sts ss → IsSmallStated w more scope sts ss
  stated-small-more sts ss v = record { by = λ c. v.by (fewer-sized w names more h c) }

  pub test-small-more : (e : Tree) (ss : List Step) → IsSmallTest w names scope e ss → IsSmallTest w more scope e ss
  test-small-more e ss v = record { by = λ c. v.by (fewer-sized w names more h c) }

  pub end-small-more : (e : Tree) (t : Flat) (o : Option Symbol) → IsSmallEnd w names scope e t o → IsSmallEnd w more scope e t o
  end-small-more e t o v = record { by = λ c. v.by (fewer-sized w names more h c) }

-- ---- operands
choice-few : (b : Bool) (s t : Symbol) (n : ℕ) → length (operands s) ≤ n → length (operands t) ≤ n → length (operands (if b then s else t)) ≤ n
choice-few true s t n p q = p
choice-few false s t n p q = q

field-few : (x : List ℕ) (fs : NamedSymbols) → length (operands (field_named x fs)) ≤ length (named_operands fs) + 1
field-few x no_named_symbols = omega arith
field-few x (named_symbol_and y s fs) =
    let long = length-append (operands s) (named_operands fs) in
    let rest = field-few x fs in
    choice-few (bytes_eq x y) s (field_named x fs) (length (operands s ++ named_operands fs) + 1) (omega arith) (omega arith)

fields-few : (s : Symbol) → length (named_operands (fields_of s)) ≤ length (operands s)
fields-few (Word a) = omega arith
fields-few (Truth a) = omega arith
fields-few (Tuple ss) = omega arith
fields-few (Record fs) = omega arith

chosen-few : (b : Bool) (s t : Symbol) (o : Option Ty) → length (operands t) ≤ 1 + words_of_value o → length (operands (if b then s else t)) ≤ 1 + words_of_value (if b then Some (form s) else o)
chosen-few true s t o le = let same = words-of-form s in omega arith
chosen-few false s t o le = le

variable-few : (scope : SymbolScope) (x : List ℕ) → length (operands (symbol_in scope x)) ≤ 1 + words_of_value (look_up x (vars_of scope))
variable-few [] x = omega arith
variable-few ((y, s) ∷ scope) x = chosen-few (bytes_eq x y) s (symbol_in scope x) (look_up x (vars_of scope)) (variable-few scope x)

variables-length : (xs : List ℕ) → length (var_operands xs) ≡ length xs
variables-length [] = refl
variables-length (x ∷ xs) = ap suc (variables-length xs)

-- of a symbolic value of new variables
fresh-length : (n : ℕ) (t : Ty) → length (operands (fresh n t)) ≡ words t
fresh-length n t = ap length (fresh-operands n t) ∙ variables-length (numbers_from n (words t)) ∙ numbers-length n (words t)

-- ---- the bulk of steps, the size of an expression, and what is left after its value
abbrev pub of_steps : {w : Whole} {names : Names} → Sized w names → List Step → Bulk
of_steps c ss = steps_bulk c.funs c.bulks c.own ss nothing

abbrev pub size_of : {w : Whole} {names : Names} → Sized w names → Context → Tree → ℕ
size_of c p e = expanded c.sizes p.known p.vars e

abbrev pub behind_value : Tree → Symbol → Bulk
behind_value e s = both (value_rest e) (uses (length (operands s)))

-- ---- values
module _ (w : Whole) (names : Names) (scope : SymbolScope) where
  pub number-small : (sp : Span) (n : ℕ) → IsSmallValue w names scope (NumberTree sp n) [] (Word (Lit n))
  number-small sp n = record { by = λ c p wanted stands none. record { labels = omega arith; jumps = omega arith; nodes = omega arith; defined = omega arith; used = omega arith } }

  pub truth-small : (sp : Span) (b : Bool) (n : ℕ) → IsSmallValue w names scope (TruthTree sp b) [] (Truth (Lit n))
  truth-small sp b n = record { by = λ c p wanted stands none. record { labels = omega arith; jumps = omega arith; nodes = omega arith; defined = omega arith; used = omega arith } }

  pub var-small : (sp : Span) (x : List ℕ) → IsSmallValue w names scope (VarTree sp x) [] (symbol_in scope x)
  var-small sp x = record {
    by = λ c p wanted stands none.
        let few : length (operands (symbol_in scope x)) ≤ 1 + words_of_value (look_up x p.vars) = subst (λ vars. length (operands (symbol_in scope x)) ≤ 1 + words_of_value (look_up x vars)) (sym stands.vars) (variable-few scope x) in
        record { labels = omega arith; jumps = omega arith; nodes = omega arith; defined = omega arith; used = omega arith };
  }

  pub paren-small : (sp : Span) (a : Tree) (ss : List Step) (s : Symbol) → IsSmallValue w names scope a ss s → IsSmallValue w names scope (ParenTree sp a) ss s
  paren-small sp a ss s v = record {
    by = λ c p wanted stands none.
        stay-most (of_steps c ss) (value_rest a) (ParenTree sp a) (length (operands s)) (length (operands s)) (size_of c p a) (size_of c p (ParenTree sp a))
        (v.by c p a_value stands (no_front (faults p a_value a) (node_faults p wanted (ParenTree sp a)) none)) (omega arith) (omega arith);
  }

  pub tuple-small : (sp : Span) (es : Trees) (ss : List Step) (us : Symbols) → AreSmallValues w names scope es ss us → IsSmallValue w names scope (TupleTree sp es) ss (Tuple us)
  tuple-small sp es ss us v = record {
    by = λ c p wanted stands none.
        stay-most (of_steps c ss) nothing (TupleTree sp es) (length (all_operands us)) (length (all_operands us)) (expanded_all c.sizes p.known p.vars es) (size_of c p (TupleTree sp es))
        (most-words (of_steps c ss) (length (all_operands us)) (expanded_all c.sizes p.known p.vars es)
        (v.by c (inside p) [] (stands-inside w c.own scope p stands) (no_front (list_faults (inside p) [] es) (node_faults p wanted (TupleTree sp es)) none))) (omega arith) (omega arith);
  }

  pub record-small : (sp : Span) (es : NamedTrees) (ss : List Step) (us : NamedSymbols) → AreSmallFields w names scope es ss us → IsSmallValue w names scope (FieldsTree sp es) ss (Record us)
  record-small sp es ss us v = record {
    by = λ c p wanted stands none.
        stay-most (of_steps c ss) nothing (FieldsTree sp es) (length (named_operands us)) (length (named_operands us)) (expanded_named c.sizes p.known p.vars es) (size_of c p (FieldsTree sp es))
        (most-words (of_steps c ss) (length (named_operands us)) (expanded_named c.sizes p.known p.vars es)
        (v.by c (inside p) (stands-inside w c.own scope p stands) (no_front (named_faults (inside p) es) (node_faults p wanted (FieldsTree sp es)) none))) (omega arith) (omega arith);
  }

  pub dot-small : (sp : Span) (a : Tree) (x : List ℕ) (ss : List Step) (s : Symbol) → IsSmallValue w names scope a ss s → IsSmallValue w names scope (DotTree sp a x) ss (field_named x (fields_of s))
  dot-small sp a x ss s v = record {
    by = λ c p wanted stands none.
        let few = field-few x (fields_of s) in
        let all = fields-few s in
        stay-most (of_steps c ss) (value_rest a) (DotTree sp a x) (length (operands s)) (length (operands (field_named x (fields_of s)))) (size_of c p a) (size_of c p (DotTree sp a x))
        (v.by c (inside p) a_value (stands-inside w c.own scope p stands) (no_front (faults (inside p) a_value a) (node_faults p wanted (DotTree sp a x)) none)) (omega arith) (omega arith);
  }

  -- a primitive of one operand
  one-let : (c : Sized w names) (p : Context) (a e : Tree) (ss : List Step) (s : Symbol) (x : ℕ) (q : Primitive) → IsAtMost (both (of_steps c ss) (behind_value a s)) (of_parts (size_of c p a)) → 2 + size_of c p a ≤ size_of c p e
      → IsAtMost (both (of_steps c (ss ++ Let x q ∷ [])) (both (value_rest e) (uses 1))) (of_parts (size_of c p e))
  one-let c p a e ss s x q v le = let-most (of_steps c (ss ++ Let x q ∷ [])) (of_steps c ss) (behind_value a s) e (size_of c p a) (size_of c p e) (steps-then c.funs c.bulks c.own ss (Let x q ∷ [])) v le

  pub invert-small : (sp : Span) (a : Tree) (ss : List Step) (s : Symbol) (x : ℕ) (op : _) → IsSmallValue w names scope a ss s → IsSmallValue w names scope (InvertTree sp a) (ss ++ Let x (UnaOf op (word_operand s)) ∷ []) (Word (Var x))
  invert-small sp a ss s x op v = record {
    by = λ c p wanted stands none.
        one-let c p a (InvertTree sp a) ss s x (UnaOf op (word_operand s))
        (v.by c (inside p) (of_type WordTy) (stands-inside w c.own scope p stands) (no_front (faults (inside p) (of_type WordTy) a) (node_faults p wanted (InvertTree sp a)) none)) (omega arith);
  }

  pub negate-small : (sp : Span) (a : Tree) (ss : List Step) (s : Symbol) (x n : ℕ) (op : _) → IsSmallValue w names scope a ss s → IsSmallValue w names scope (NegateTree sp a) (ss ++ Let x (BinOf op (truth_operand s) (Lit n)) ∷ []) (Truth (Var x))
  negate-small sp a ss s x n op v = record {
    by = λ c p wanted stands none.
        one-let c p a (NegateTree sp a) ss s x (BinOf op (truth_operand s) (Lit n))
        (v.by c (inside p) (of_type BoolTy) (stands-inside w c.own scope p stands) (no_front (faults (inside p) (of_type BoolTy) a) (node_faults p wanted (NegateTree sp a)) none)) (omega arith);
  }

  -- by no place, and by some
  pub shift-none-small : (sp : Span) (op : ShiftOp) (a : Tree) (n : ℕ) (ss : List Step) (s : Symbol) → IsSmallValue w names scope a ss s → IsSmallValue w names scope (ShiftTree sp op a n) ss (Word (word_operand s))
  shift-none-small sp op a n ss s v = record {
    by = λ c p wanted stands none.
        stay-most (of_steps c ss) (value_rest a) (ShiftTree sp op a n) (length (operands s)) 1 (size_of c p a) (size_of c p (ShiftTree sp op a n))
        (v.by c (inside p) (of_type WordTy) (stands-inside w c.own scope p stands) (no_front (faults (inside p) (of_type WordTy) a) (node_faults p wanted (ShiftTree sp op a n)) none)) (omega arith) (omega arith);
  }

  pub shift-small : (sp : Span) (op : ShiftOp) (a : Tree) (n : ℕ) (ss : List Step) (s : Symbol) (x : ℕ) → IsSmallValue w names scope a ss s → IsSmallValue w names scope (ShiftTree sp op a n) (ss ++ Let x (shift_of op n (word_operand s)) ∷ []) (Word (Var x))
  shift-small sp op a n ss s x v = record {
    by = λ c p wanted stands none.
        one-let c p a (ShiftTree sp op a n) ss s x (shift_of op n (word_operand s))
        (v.by c (inside p) (of_type WordTy) (stands-inside w c.own scope p stands) (no_front (faults (inside p) (of_type WordTy) a) (node_faults p wanted (ShiftTree sp op a n)) none)) (omega arith);
  }

  -- the steps of two operands of an operator
  pub operands-small : (c : Sized w names) (p : Context) (wanted : Expected) (sp : Span) (op : Op) (a b : Tree) (ss ts : List Step) (s u : Symbol) → IsSmallValue w names scope a ss s → IsSmallValue w names scope b ts u → Stands w c.own scope p → faults p wanted (BinaryTree sp op a b) ≡ []
      → IsAtMost (of_steps c (ss ++ ts)) (of_parts (size_of c p a + size_of c p b))
  operands-small c p wanted sp op a b ss ts s u v t stands none =
      let right = of_type (operand_ty op) in
      let first = no_front (faults (inside p) right a) (faults (inside p) right b ++ node_faults p wanted (BinaryTree sp op a b)) none in
      let second = no_front (faults (inside p) right b) (node_faults p wanted (BinaryTree sp op a b)) (no_rest (faults (inside p) right a) (faults (inside p) right b ++ node_faults p wanted (BinaryTree sp op a b)) none) in
      let stands' = stands-inside w c.own scope p stands in
      operands-most (of_steps c (ss ++ ts)) (of_steps c ss) (of_steps c ts) (behind_value a s) (behind_value b u) (size_of c p a) (size_of c p b) (steps-then c.funs c.bulks c.own ss ts) (v.by c (inside p) right stands' first) (t.by c (inside p) right stands' second)

  pub combine-small : (sp : Span) (op : Op) (a b : Tree) (ss ts : List Step) (s u : Symbol) (x : ℕ) (bin : _) → IsSmallValue w names scope a ss s → IsSmallValue w names scope b ts u
      → IsSmallValue w names scope (BinaryTree sp op a b) ((ss ++ ts) ++ Let x (BinOf bin (word_operand s) (word_operand u)) ∷ []) (Word (Var x))
  combine-small sp op a b ss ts s u x bin v t = record {
    by = λ c p wanted stands none.
        let one : words (result_ty op) ≡ 1 = result-words w names scope op in
        let last = Let x (BinOf bin (word_operand s) (word_operand u)) ∷ [] in
        let parts = size_of c p a + size_of c p b in
        let-most (of_steps c ((ss ++ ts) ++ last)) (of_steps c (ss ++ ts)) nothing (BinaryTree sp op a b) parts (size_of c p (BinaryTree sp op a b)) (steps-then c.funs c.bulks c.own (ss ++ ts) last)
        (most-alone (of_steps c (ss ++ ts)) parts (operands-small c p wanted sp op a b ss ts s u v t stands none)) (omega arith);
  }

  pub fetch-small : (sp : Span) (m : _) (n : ℕ) (a : Tree) (ss : List Step) (s : Symbol) (first : ℕ) (xs : _) → IsSmallValue w names scope a ss s → new_vars (Fetch m xs (word_operand s)) ≡ numbers_from first n
      → IsSmallValue w names scope (FetchTree sp m n a) (ss ++ Fetch m xs (word_operand s) ∷ []) (words_symbol (var_operands (numbers_from first n)))
  fetch-small sp m n a ss s first xs v made = record {
    by = λ c p wanted stands none.
        let result = words_symbol (var_operands (numbers_from first n)) in
        let many : words (words_ty n) ≡ n = words-ty-words n in
        let long : length xs.items ≡ n = ap length made ∙ numbers-length first n in
        let few : length (operands result) ≡ n = ap length (symbol-operands (var_operands (numbers_from first n))) ∙ variables-length (numbers_from first n) ∙ numbers-length first n in
        let last = Fetch m xs (word_operand s) ∷ [] in
        then-most (of_steps c (ss ++ last)) (of_steps c ss) (behind_value a s) (both (a_node (length xs.items) 1) nothing) (behind_value (FetchTree sp m n a) result) (size_of c p a) (1 + n) (size_of c p (FetchTree sp m n a)) (steps-then c.funs c.bulks c.own ss last)
        (v.by c (inside p) (of_type WordTy) (stands-inside w c.own scope p stands) (no_front (faults (inside p) (of_type WordTy) a) (node_faults p wanted (FetchTree sp m n a)) none))
        (paid (both (a_node (length xs.items) 1) nothing) (behind_value (FetchTree sp m n a) result) (behind_value a s) (1 + n) (record { labels = omega arith; jumps = omega arith; nodes = omega arith; defined = omega arith; used = omega arith })) (omega arith);
  }

  -- what chooses, calls or raises: its words get names
  pub named-small : (e : Tree) (t : Flat) (o : Option Symbol) (first : ℕ) (xs : Vec ℕ Global) → is_given e ≡ false → IsSmallEnd w names scope e t o → IsSmallValue w names scope e (Bind xs t ∷ []) (fresh first (form_or_unit o))
  named-small e t o first xs plain v = record {
    by = λ c p wanted stands none.
        let n = words (form_or_unit o) in
        let few : length (operands (fresh first (form_or_unit o))) ≡ n = fresh-length first (form_or_unit o) in
        let code = code_bulk c.funs c.bulks c.own false t in
        let end = v.by c p wanted stands none false in
        subst (λ b. IsAtMost (both (both (both a_label code) nothing) (both (if b then both a_label a_jump else nothing) (uses (length (operands (fresh first (form_or_unit o))))))) (of_parts (size_of c p e))) (sym plain)
        (subst (λ k. IsAtMost (both (both (both a_label code) nothing) (both nothing (uses k))) (of_parts (size_of c p e))) (sym few)
        (bound-most code n (size_of c p e) end));
  }

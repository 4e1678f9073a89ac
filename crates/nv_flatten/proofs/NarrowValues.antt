-- How wide the steps of each expression's value are.
use Rattle.std.proofs.Common.{◌≡◌, ℕ, ◌+◌, ◌≤◌, max, Bool, true, List, [], ◌∷◌, ◌++◌, refl, sym, ap, subst, ◌∙◌, length, Option, Vec, Global, arith}
use Rattle.std.proofs.lemmas.List.Elements.{All-nil}
use Rattle.nv_base.specs.declared.term.Atom.{Atom}
use Rattle.nv_base.specs.declared.term.Atom.TheVariants.{Var, Lit}
use Rattle.nv_base.specs.declared.term.Primitive.{Primitive}
use Rattle.nv_base.specs.declared.term.Primitive.TheVariants.{Same, Una as UnaOf, Bin as BinOf}
use Rattle.nv_base.specs.Words.{atom_vars, prim_vars}
use Rattle.nv_ast.specs.declared.token.Span.{Span}
use Rattle.nv_ast.specs.declared.tree.Op.{Op}
use Rattle.nv_ast.specs.declared.tree.Op.TheVariants.{Add, Sub, And, Or, Xor, Eq, Ne, Lt, Le, Gt, Ge, Both, Either}
use Rattle.nv_ast.specs.declared.tree.ShiftOp.{ShiftOp}
use Rattle.nv_ast.specs.Tree.{Tree, NumberTree, TruthTree, VarTree, ParenTree, TupleTree, FieldsTree, DotTree, InvertTree, NegateTree, BinaryTree, ShiftTree, FetchTree, Trees, NamedTrees}
use Rattle.nv_ast.specs.Types.{WordTy, BoolTy, words, words_of_value, words_ty}
use Rattle.nv_ast.specs.Scope.{Context, inside}
use Rattle.nv_ast.specs.Typing.{operand_ty, result_ty}
use Rattle.nv_ast.specs.Faults.{Expected, a_value, of_type, faults, list_faults, named_faults, node_faults}
use Rattle.nv_ast.specs.Sizes.{words_at, need, variables, variables_all, variables_named}
use Rattle.flat_ir.specs.declared.flat.Flat.{Flat}
use Rattle.flat_ir.specs.declared.flat.FlatFun.{FlatFun}
use Rattle.flat_ir.specs.declared.spine.Step.{Step}
use Rattle.flat_ir.specs.declared.spine.Step.TheVariants.{Let, Fetch, Bind}
use Rattle.flat_ir.specs.Pieces.{new_vars}
use Rattle.nv_base.specs.Sets.{all_vars}
use Rattle.flat_ir.specs.Wide.{Widths}
use Rattle.nv_flatten_values.specs.inner.Code.{variables as var_operands, form_or_unit, shift_of}
use Rattle.nv_flatten_values.specs.inner.Symbols.{Symbol, Symbols, NamedSymbols, Word, Truth, Tuple, Record, SymbolScope, operands, all_operands, named_operands, fresh, numbers_from, words_symbol, word_operand, truth_operand, fields_of, field_named, symbol_in}
use Rattle.nv_flatten_values.specs.inner.Whole.{Whole, Stands}
use Rattle.nv_flatten_values.specs.inner.Simulation.{Names, Extends, HasForm, IsEnd}
use Rattle.nv_flatten_values.specs.inner.Narrow.{IsWithin, written, NarrowSteps, Room, IsNarrowValue, AreNarrowValues, AreNarrowFields, IsNarrowTest, IsNarrowEnd}
use Rattle.nv_flatten_values.proofs.Fresh.{fresh-operands, numbers-length}
use Rattle.nv_flatten_values.proofs.Within.{itself, of-none, into-left, together, through, both-same, grows-by, grows-not}
use Rattle.nv_flatten_values.proofs.NarrowSteps.{no-steps, recast, follow, in-turn, let-step, fetch-step, bind-step}
use Rattle.nv_flatten_values.proofs.NarrowFacts.{written-append, counted, words-of-or-unit, vars-at-most, word-operand-within, truth-operand-within, field-within, fields-within, vars-of-variables, need-least}
use Rattle.nv_flatten_values.proofs.PackedWords.{symbol-operands}
use Rattle.nv_flatten_values.proofs.Following.{stands-inside}
use Rattle.nv_flatten_values.proofs.Keeping.{extends-then}
use Rattle.nv_flatten_values.proofs.WellBasics.{words-ty-words}
use Rattle.nv_ast.proofs.Faultless.{no_front, no_rest}
use Rattle.nv_flatten_values.proofs.WordSteps.{shift-vars}

-- ---- steps and then a primitive of their results
prim-length : (q : Primitive) → length (prim_vars q) ≤ 2
prim-length (Same (Var x)) = omega arith
prim-length (Same (Lit v)) = omega arith
prim-length (UnaOf op (Var x)) = omega arith
prim-length (UnaOf op (Lit v)) = omega arith
prim-length (BinOf op (Var x) (Var y)) = omega arith
prim-length (BinOf op (Var x) (Lit v)) = omega arith
prim-length (BinOf op (Lit v) (Var y)) = omega arith
prim-length (BinOf op (Lit v) (Lit u)) = omega arith

module _ (funs : List FlatFun) (widths : Widths) (own : ℕ) where
  -- the same steps with more room
  pub roomier : (ss : List Step) (v base behind : List ℕ) (m all : ℕ) → NarrowSteps funs widths own ss v base behind m → m ≤ all → NarrowSteps funs widths own ss v base behind all
  roomier ss v base behind m all n le = recast funs widths own ss v base behind v base behind 0 m all n itself (grows-not base base itself) itself (omega arith)

  -- less after them
  pub less-behind : (ss : List Step) (v base behind behind' : List ℕ) (m all : ℕ) → NarrowSteps funs widths own ss v base behind m → IsWithin behind' behind → m ≤ all → NarrowSteps funs widths own ss v base behind' all
  less-behind ss v base behind behind' m all n inside le = recast funs widths own ss v base behind v base behind' 0 m all n itself (grows-not base base itself) inside (omega arith)

  pub let-behind : (ss : List Step) (v s : List ℕ) (x : ℕ) (q : Primitive) (m all : ℕ) → NarrowSteps funs widths own ss v v s m → IsWithin (prim_vars q) s → m ≤ all → 5 ≤ all → NarrowSteps funs widths own (ss ++ Let x q ∷ []) v v (x ∷ []) all
  let-behind ss v s x q m all n inside le five =
      follow funs widths own ss (Let x q ∷ []) v v s (x ∷ []) all (roomier ss v v s m all n le)
      (recast funs widths own (Let x q ∷ []) (prim_vars q) (prim_vars q) (x ∷ []) s v (x ∷ []) 2 3 all (let-step funs widths own x q) inside
      (grows-by (prim_vars q) v (prim_vars q) 2 (into-left (prim_vars q) (prim_vars q) v itself) (prim-length q)) itself (omega arith))

  -- steps of two parts of an expression, whose results are wanted
  pub two-parts : (scope : SymbolScope) (a b : List Step) (xs ys : List (List ℕ)) (s u : List ℕ) (m k n all : ℕ) → NarrowSteps funs widths own a (written scope xs) (written scope xs) s m → NarrowSteps funs widths own b (written scope ys) (written scope ys) u k
      → length s ≤ n → m ≤ all → n + k ≤ all → NarrowSteps funs widths own (a ++ b) (written scope (xs ++ ys)) (written scope (xs ++ ys)) (s ++ u) all
  two-parts scope a b xs ys s u m k n all v w le p q =
      subst (λ l. NarrowSteps funs widths own (a ++ b) l l (s ++ u) all) (sym (written-append scope xs ys)) (in-turn funs widths own a b (written scope xs) (written scope ys) s u m k n all v w le p q)

-- ---- further names

abbrev pub fewer : (w : Whole) (names more : Names) → Extends names more → Room w more → Room w names
fewer w names more h c = record { own = c.own; needs = c.needs; all = c.all; more = extends-then names more c.all h c.more; funs = c.funs; widths = c.widths; calls = c.calls }

module _ (w : Whole) (names more : Names) (h : Extends names more) (scope : SymbolScope) where
  pub value-narrow-more : (e : Tree) (ss : List Step) (s : Symbol) → IsNarrowValue w names scope e ss s → IsNarrowValue w more scope e ss s
  value-narrow-more e ss s v = record { by = λ c. v.by (fewer w names more h c) }

  pub values-narrow-more : (es : Trees) (ss : List Step) (us : Symbols) → AreNarrowValues w names scope es ss us → AreNarrowValues w more scope es ss us
  values-narrow-more es ss us v = record { by = λ c. v.by (fewer w names more h c) }

  pub fields-narrow-more : (es : NamedTrees) (ss : List Step) (us : NamedSymbols) → AreNarrowFields w names scope es ss us → AreNarrowFields w more scope es ss us
  fields-narrow-more es ss us v = record { by = λ c. v.by (fewer w names more h c) }

  pub test-narrow-more : (e : Tree) (ss : List Step) (a b : Atom) → IsNarrowTest w names scope e ss a b → IsNarrowTest w more scope e ss a b
  test-narrow-more e ss a b v = record { by = λ c. v.by (fewer w names more h c) }

  pub end-narrow-more : (e : Tree) (t : Flat) → IsNarrowEnd w names scope e t → IsNarrowEnd w more scope e t
  end-narrow-more e t v = record { by = λ c. v.by (fewer w names more h c) }

-- ---- values
module _ (w : Whole) (names : Names) (scope : SymbolScope) where
  pub number-narrow : (sp : Span) (n : ℕ) → IsNarrowValue w names scope (NumberTree sp n) [] (Word (Lit n))
  number-narrow sp n = record { by = λ c p wanted stands none. no-steps c.funs c.widths c.own [] [] [] (need c.needs p.known p.vars (NumberTree sp n)) itself }

  pub truth-narrow : (sp : Span) (b : Bool) (n : ℕ) → IsNarrowValue w names scope (TruthTree sp b) [] (Truth (Lit n))
  truth-narrow sp b n = record { by = λ c p wanted stands none. no-steps c.funs c.widths c.own [] [] [] (need c.needs p.known p.vars (TruthTree sp b)) itself }

  pub var-narrow : (sp : Span) (x : List ℕ) → IsNarrowValue w names scope (VarTree sp x) [] (symbol_in scope x)
  var-narrow sp x = record {
    by = λ c p wanted stands none.
        let v = all_vars (operands (symbol_in scope x)) in
        no-steps c.funs c.widths c.own (written scope (x ∷ [])) (written scope (x ∷ [])) v (need c.needs p.known p.vars (VarTree sp x)) (into-left v v [] itself);
  }

  pub paren-narrow : (sp : Span) (a : Tree) (ss : List Step) (s : Symbol) → IsNarrowValue w names scope a ss s → IsNarrowValue w names scope (ParenTree sp a) ss s
  paren-narrow sp a ss s v = record {
    by = λ c p wanted stands none.
        let v0 = written scope (variables a) in
        let m = need c.needs p.known p.vars a in
        roomier c.funs c.widths c.own ss v0 v0 (all_vars (operands s)) m (need c.needs p.known p.vars (ParenTree sp a))
        (v.by c p a_value stands (no_front (faults p a_value a) (node_faults p wanted (ParenTree sp a)) none)) (omega arith);
  }

  pub tuple-narrow : (sp : Span) (es : Trees) (ss : List Step) (us : Symbols) → AreNarrowValues w names scope es ss us → IsNarrowValue w names scope (TupleTree sp es) ss (Tuple us)
  tuple-narrow sp es ss us v = record {
    by = λ c p wanted stands none.
        roomier c.funs c.widths c.own ss (written scope (variables_all es)) (written scope (variables_all es)) (all_vars (all_operands us)) _ (need c.needs p.known p.vars (TupleTree sp es))
        (v.by c (inside p) [] (All-nil (λ (x : Expected). x.value ≡ true)) (stands-inside w c.own scope p stands) (no_front (list_faults (inside p) [] es) (node_faults p wanted (TupleTree sp es)) none)) (omega arith);
  }

  pub record-narrow : (sp : Span) (es : NamedTrees) (ss : List Step) (us : NamedSymbols) → AreNarrowFields w names scope es ss us → IsNarrowValue w names scope (FieldsTree sp es) ss (Record us)
  record-narrow sp es ss us v = record {
    by = λ c p wanted stands none.
        roomier c.funs c.widths c.own ss (written scope (variables_named es)) (written scope (variables_named es)) (all_vars (named_operands us)) _ (need c.needs p.known p.vars (FieldsTree sp es))
        (v.by c (inside p) (stands-inside w c.own scope p stands) (no_front (named_faults (inside p) es) (node_faults p wanted (FieldsTree sp es)) none)) (omega arith);
  }

  pub dot-narrow : (sp : Span) (a : Tree) (x : List ℕ) (ss : List Step) (s : Symbol) → IsNarrowValue w names scope a ss s → IsNarrowValue w names scope (DotTree sp a x) ss (field_named x (fields_of s))
  dot-narrow sp a x ss s v = record {
    by = λ c p wanted stands none.
        let v0 = written scope (variables a) in
        less-behind c.funs c.widths c.own ss v0 v0 (all_vars (operands s)) (all_vars (operands (field_named x (fields_of s)))) (need c.needs p.known p.vars a) (need c.needs p.known p.vars (DotTree sp a x))
        (v.by c (inside p) a_value (stands-inside w c.own scope p stands) (no_front (faults (inside p) a_value a) (node_faults p wanted (DotTree sp a x)) none))
        (through (field-within x (fields_of s)) (fields-within s)) (omega arith);
  }

  -- a node whose one operand is a word or truth
  one-let : (c : Room w names) (p : Context) (a : Tree) (ss : List Step) (s : Symbol) (x : ℕ) (q : Primitive) (all : ℕ)
      → NarrowSteps c.funs c.widths c.own ss (written scope (variables a)) (written scope (variables a)) (all_vars (operands s)) (need c.needs p.known p.vars a)
      → IsWithin (prim_vars q) (all_vars (operands s)) → 3 + need c.needs p.known p.vars a ≤ all
      → NarrowSteps c.funs c.widths c.own (ss ++ Let x q ∷ []) (written scope (variables a)) (written scope (variables a)) (x ∷ []) all
  one-let c p a ss s x q all v inside le =
      let least = need-least c.needs p.known p.vars a in
      let-behind c.funs c.widths c.own ss (written scope (variables a)) (all_vars (operands s)) x q (need c.needs p.known p.vars a) all v inside (omega arith) (omega arith)

  pub invert-narrow : (sp : Span) (a : Tree) (ss : List Step) (s : Symbol) (x : ℕ) (op : _) → IsNarrowValue w names scope a ss s → IsNarrowValue w names scope (InvertTree sp a) (ss ++ Let x (UnaOf op (word_operand s)) ∷ []) (Word (Var x))
  invert-narrow sp a ss s x op v = record {
    by = λ c p wanted stands none.
        one-let c p a ss s x (UnaOf op (word_operand s)) (need c.needs p.known p.vars (InvertTree sp a))
        (v.by c (inside p) (of_type WordTy) (stands-inside w c.own scope p stands) (no_front (faults (inside p) (of_type WordTy) a) (node_faults p wanted (InvertTree sp a)) none))
        (word-operand-within s) (omega arith);
  }

  pub negate-narrow : (sp : Span) (a : Tree) (ss : List Step) (s : Symbol) (x n : ℕ) (op : _) → IsNarrowValue w names scope a ss s → IsNarrowValue w names scope (NegateTree sp a) (ss ++ Let x (BinOf op (truth_operand s) (Lit n)) ∷ []) (Truth (Var x))
  negate-narrow sp a ss s x n op v = record {
    by = λ c p wanted stands none.
        one-let c p a ss s x (BinOf op (truth_operand s) (Lit n)) (need c.needs p.known p.vars (NegateTree sp a))
        (v.by c (inside p) (of_type BoolTy) (stands-inside w c.own scope p stands) (no_front (faults (inside p) (of_type BoolTy) a) (node_faults p wanted (NegateTree sp a)) none))
        (together (atom_vars (truth_operand s)) [] (all_vars (operands s)) (truth-operand-within s) (of-none (all_vars (operands s)))) (omega arith);
  }

  -- by no place, and by some
  pub shift-none-narrow : (sp : Span) (op : ShiftOp) (a : Tree) (n : ℕ) (ss : List Step) (s : Symbol) → IsNarrowValue w names scope a ss s → IsNarrowValue w names scope (ShiftTree sp op a n) ss (Word (word_operand s))
  shift-none-narrow sp op a n ss s v = record {
    by = λ c p wanted stands none.
        let v0 = written scope (variables a) in
        less-behind c.funs c.widths c.own ss v0 v0 (all_vars (operands s)) (all_vars (word_operand s ∷ [])) (need c.needs p.known p.vars a) (need c.needs p.known p.vars (ShiftTree sp op a n))
        (v.by c (inside p) (of_type WordTy) (stands-inside w c.own scope p stands) (no_front (faults (inside p) (of_type WordTy) a) (node_faults p wanted (ShiftTree sp op a n)) none))
        (together (atom_vars (word_operand s)) [] (all_vars (operands s)) (word-operand-within s) (of-none (all_vars (operands s)))) (omega arith);
  }

  pub shift-narrow : (sp : Span) (op : ShiftOp) (a : Tree) (n : ℕ) (ss : List Step) (s : Symbol) (x : ℕ) → IsNarrowValue w names scope a ss s → IsNarrowValue w names scope (ShiftTree sp op a n) (ss ++ Let x (shift_of op n (word_operand s)) ∷ []) (Word (Var x))
  shift-narrow sp op a n ss s x v = record {
    by = λ c p wanted stands none.
        one-let c p a ss s x (shift_of op n (word_operand s)) (need c.needs p.known p.vars (ShiftTree sp op a n))
        (v.by c (inside p) (of_type WordTy) (stands-inside w c.own scope p stands) (no_front (faults (inside p) (of_type WordTy) a) (node_faults p wanted (ShiftTree sp op a n)) none))
        (subst (λ l. IsWithin l (all_vars (operands s))) (sym (shift-vars op n (word_operand s))) (word-operand-within s)) (omega arith);
  }

  -- two operands of an operator, both wanted behind
  pub operands-narrow : (c : Room w names) (p : Context) (wanted : Expected) (sp : Span) (op : Op) (a b : Tree) (ss ts : List Step) (s u : Symbol) → HasForm w scope a s → IsNarrowValue w names scope a ss s → IsNarrowValue w names scope b ts u
      → Stands w c.own scope p → faults p wanted (BinaryTree sp op a b) ≡ [] → (all : ℕ) → (words_at p.known p.vars a + words_at p.known p.vars b) + max (need c.needs p.known p.vars a) (need c.needs p.known p.vars b) ≤ all
      → NarrowSteps c.funs c.widths c.own (ss ++ ts) (written scope (variables a ++ variables b)) (written scope (variables a ++ variables b)) (all_vars (operands s) ++ all_vars (operands u)) all
  operands-narrow c p wanted sp op a b ss ts s u f v t stands none all le =
      let right = of_type (operand_ty op) in
      let first = no_front (faults (inside p) right a) (faults (inside p) right b ++ node_faults p wanted (BinaryTree sp op a b)) none in
      let second = no_front (faults (inside p) right b) (node_faults p wanted (BinaryTree sp op a b)) (no_rest (faults (inside p) right a) (faults (inside p) right b ++ node_faults p wanted (BinaryTree sp op a b)) none) in
      let stands' = stands-inside w c.own scope p stands in
      let many : length (operands s) ≡ words_at p.known p.vars a = counted w scope a s f c.own (inside p) right stands' first refl in
      two-parts c.funs c.widths c.own scope ss ts (variables a) (variables b) (all_vars (operands s)) (all_vars (operands u)) (need c.needs p.known p.vars a) (need c.needs p.known p.vars b) (words_at p.known p.vars a) all
      (v.by c (inside p) right stands' first) (t.by c (inside p) right stands' second) (vars-at-most s (words_at p.known p.vars a) many) (omega arith) (omega arith)

  pub result-words : (op : Op) → words (result_ty op) ≡ 1
  result-words Add = refl
  result-words Sub = refl
  result-words And = refl
  result-words Or = refl
  result-words Xor = refl
  result-words Eq = refl
  result-words Ne = refl
  result-words Lt = refl
  result-words Le = refl
  result-words Gt = refl
  result-words Ge = refl
  result-words Both = refl
  result-words Either = refl

  pub combine-narrow : (sp : Span) (op : Op) (a b : Tree) (ss ts : List Step) (s u : Symbol) (x : ℕ) (bin : _) → HasForm w scope a s → IsNarrowValue w names scope a ss s → IsNarrowValue w names scope b ts u
      → IsNarrowValue w names scope (BinaryTree sp op a b) ((ss ++ ts) ++ Let x (BinOf bin (word_operand s) (word_operand u)) ∷ []) (Word (Var x))
  combine-narrow sp op a b ss ts s u x bin f v t = record {
    by = λ c p wanted stands none.
        let least = need-least c.needs p.known p.vars a in
        let one : words (result_ty op) ≡ 1 = result-words op in
        let all = need c.needs p.known p.vars (BinaryTree sp op a b) in
        let v0 = written scope (variables a ++ variables b) in
        let-behind c.funs c.widths c.own (ss ++ ts) v0 (all_vars (operands s) ++ all_vars (operands u)) x (BinOf bin (word_operand s) (word_operand u)) all all
        (operands-narrow c p wanted sp op a b ss ts s u f v t stands none all (omega arith))
        (both-same (atom_vars (word_operand s)) (all_vars (operands s)) (atom_vars (word_operand u)) (all_vars (operands u)) (word-operand-within s) (word-operand-within u)) (omega arith) (omega arith);
  }

  pub fetch-narrow : (sp : Span) (m : _) (n : ℕ) (a : Tree) (ss : List Step) (s : Symbol) (first : ℕ) (xs : _) → IsNarrowValue w names scope a ss s → new_vars (Fetch m xs (word_operand s)) ≡ numbers_from first n
      → IsNarrowValue w names scope (FetchTree sp m n a) (ss ++ Fetch m xs (word_operand s) ∷ []) (words_symbol (var_operands (numbers_from first n)))
  fetch-narrow sp m n a ss s first xs v made = record {
    by = λ c p wanted stands none.
        let v0 = written scope (variables a) in
        let s0 = all_vars (operands s) in
        let made' = numbers_from first n in
        let result = all_vars (operands (words_symbol (var_operands made'))) in
        let all = need c.needs p.known p.vars (FetchTree sp m n a) in
        let least : 2 + words_at p.known p.vars a ≤ need c.needs p.known p.vars a = need-least c.needs p.known p.vars a in
        let many : words (words_ty n) ≡ n = words-ty-words n in
        let long : length xs.items ≡ n = ap length made ∙ numbers-length first n in
        let these : result ≡ xs.items = ap all_vars (symbol-operands (var_operands made')) ∙ (vars-of-variables made' ∙ sym made) in
        follow c.funs c.widths c.own ss (Fetch m xs (word_operand s) ∷ []) v0 v0 s0 result all
        (roomier c.funs c.widths c.own ss v0 v0 s0 (need c.needs p.known p.vars a) all
        (v.by c (inside p) (of_type WordTy) (stands-inside w c.own scope p stands) (no_front (faults (inside p) (of_type WordTy) a) (node_faults p wanted (FetchTree sp m n a)) none)) (omega arith))
        (recast c.funs c.widths c.own (Fetch m xs (word_operand s) ∷ []) (atom_vars (word_operand s)) [] xs.items s0 v0 result 0 (2 + n) all (fetch-step c.funs c.widths c.own m xs (word_operand s) (2 + n) (omega arith) (omega arith))
        (word-operand-within s) (grows-not v0 [] (of-none v0)) (subst (λ l. IsWithin l xs.items) (sym these) itself) (omega arith));
  }

  -- what chooses, calls or raises: its words get names
  pub named-narrow : (low high : ℕ) (e : Tree) (t : Flat) (o : Option Symbol) (first : ℕ) (xs : Vec ℕ Global) → IsEnd w names low high scope e t o → IsNarrowEnd w names scope e t → xs.items ≡ numbers_from first (words (form_or_unit o))
      → IsNarrowValue w names scope e (Bind xs t ∷ []) (fresh first (form_or_unit o))
  named-narrow low high e t o first xs end v made = record {
    by = λ c p wanted stands none.
        let v0 = written scope (variables e) in
        let n = words (form_or_unit o) in
        let result = all_vars (operands (fresh first (form_or_unit o))) in
        let all = need c.needs p.known p.vars e in
        let least : 2 + words_at p.known p.vars e ≤ all = need-least c.needs p.known p.vars e in
        let many : n ≡ words_at p.known p.vars e = words-of-or-unit o ∙ sym (ap words_of_value (end.formed c.own p wanted stands none)) in
        let long : length xs.items ≡ n = ap length made ∙ numbers-length first n in
        let these : result ≡ xs.items = ap all_vars (fresh-operands first (form_or_unit o)) ∙ (vars-of-variables (numbers_from first n) ∙ sym made) in
        less-behind c.funs c.widths c.own (Bind xs t ∷ []) v0 v0 xs.items result all all (bind-step c.funs c.widths c.own xs t v0 v0 all (v.by c p wanted stands none) (omega arith))
        (subst (λ l. IsWithin l xs.items) (sym these) itself) (omega arith);
  }

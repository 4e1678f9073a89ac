-- The value of each kind of expression is well formed where its parts are.
use Rattle.std.proofs.Common.{◌≡◌, ℕ, ◌+◌, ◌≤◌, Bool, true, not, nat_lt, ◌&&◌, List, [], ◌∷◌, ◌++◌, refl, sym, ap, subst, ◌∙◌, Some, length, ◌⊎◌, inl, inr, arith}
use Rattle.std.proofs.lemmas.Bool.{and_from, not-false, ltb-false}
use Rattle.nv_base.specs.declared.term.Mem.{Mem}
use Rattle.nv_base.specs.declared.term.Atom.{Atom}
use Rattle.nv_base.specs.declared.term.Atom.TheVariants.{Var, Lit}
use Rattle.nv_base.specs.declared.term.Bin.{Bin}
use Rattle.nv_base.specs.declared.term.Bin.TheVariants.{Xor}
use Rattle.nv_base.specs.declared.term.Una.TheVariants.{Not}
use Rattle.nv_base.specs.declared.term.Primitive.{Primitive}
use Rattle.nv_base.specs.declared.term.Primitive.TheVariants.{Una as UnaOf, Bin as BinOf}
use Rattle.nv_ast.specs.declared.token.Span.{Span}
use Rattle.nv_ast.specs.declared.tree.Op.{Op}
use Rattle.nv_ast.specs.declared.tree.ShiftOp.{ShiftOp}
use Rattle.nv_ast.specs.Outline.{outline, IsSound}
use Rattle.nv_ast.specs.Tree.{NamedLayout, Tree, NumberTree, TruthTree, VarTree, ParenTree, TupleTree, FieldsTree, DotTree, InvertTree, NegateTree, BinaryTree, ShiftTree, UnpackTree, PackTree, FetchTree, BlockTree, Trees, NamedTrees, StatementTrees}
use Rattle.nv_ast.specs.Tests.{is_among, names_of, look_up}
use Rattle.nv_ast.specs.Types.{WordTy, BoolTy, words, packed_words, packed_ty, can_pack, form_of}
use Rattle.nv_ast.specs.Scope.{Context, inside, with_vars}
use Rattle.nv_ast.specs.Typing.{vars_behind, operand_ty}
use Rattle.nv_ast.specs.Faults.{a_value, of_type, anything, expected_packed, expected_unpacked, faults, list_faults, named_faults, statements_faults, wrong_access, wrong_scratch, can_move}
use Rattle.flat_ir.specs.declared.spine.Step.{Step}
use Rattle.flat_ir.specs.declared.spine.Step.TheVariants.{Let, Fetch}
use Rattle.nv_base.specs.Access as flat
use Rattle.nv_base.specs.Access.{is_known, all_known, is_primitive}
use Rattle.nv_flatten_values.specs.inner.Code.{shift_of, variables}
use Rattle.nv_flatten_values.specs.inner.Symbols.{Symbol, Symbols, NamedSymbols, SymbolScope, Word, Truth, Tuple, Record, operands, form, word_operand, truth_operand, fields_of, field_named, symbol_in, numbers_from, words_symbol, vars_of}
use Rattle.nv_flatten_values.specs.inner.Simulation.{Names, Extends, HasForm}
use Rattle.nv_flatten_values.specs.inner.Whole.{Whole, Stands}
use Rattle.nv_flatten_values.specs.inner.Well.{ScopeKnown, Rises, WellSteps, Knows, IsWellValue, AreWellValues, AreWellFields, IsWellStated, AreWellLets, steps_calls, AreCalled}
use Rattle.nv_flatten_values.proofs.Sound.{wanted-type, value-has-type}
use Rattle.nv_flatten_values.proofs.WellBasics.{knows-both, knows-left, knows-right, knows-one, knows-new, knows-variables, knows-word, knows-truth, knows-field, knows-in, operands-words, words-ty-words, rises-numbers}
use Rattle.nv_flatten.proofs.WellTypes.{low-of, middle-of, right-of, move-same, address-formed}
use Rattle.nv_flatten_values.proofs.WellNames.{called-none, steps-called-more, steps-called-then}
use Rattle.nv_flatten_values.proofs.WellSteps.{steps-none, steps-names, steps-knowing, steps-then, steps-last, steps-compute}
use Rattle.nv_flatten_values.proofs.NoFaults.{among-known}
use Rattle.nv_flatten_values.proofs.Fresh.{numbers-length}
use Rattle.nv_flatten_values.proofs.PackedWords.{symbol-operands}
use Rattle.nv_flatten_values.proofs.Following.{stands-inside}
use Rattle.nv_flatten.proofs.WalkArms.{count-cases}
use Rattle.nv_base.proofs.Operands.{atoms-more}
use Rattle.nv_flatten_values.proofs.Lets.{shift-primitive}
use Rattle.nv_ast.proofs.Faultless.{no_front, no_rest, not_where}

-- ---- without steps
pub number-well : (w : Whole) (names : Names) (low : ℕ) (scope : SymbolScope) (sp : Span) (n : ℕ) → IsWellValue w names names low low scope (NumberTree sp n) [] (Word (Lit n))
number-well w names low scope sp n = record {
  well = λ own p wanted st f t. steps-none w names low low own scope (Knows (Lit n ∷ [])) (omega arith) (λ known k. refl);
  literal = refl;
  called = called-none names [];
}

pub truth-well : (w : Whole) (names : Names) (low : ℕ) (scope : SymbolScope) (sp : Span) (b : Bool) (v : ℕ) → IsWellValue w names names low low scope (TruthTree sp b) [] (Truth (Lit v))
truth-well w names low scope sp b v = record {
  well = λ own p wanted st f t. steps-none w names low low own scope (Knows (Lit v ∷ [])) (omega arith) (λ known k. refl);
  literal = tt {0};
  called = called-none names [];
}

pub variable-well : (w : Whole) (names : Names) (low : ℕ) (scope : SymbolScope) (sp : Span) (x : List ℕ) → IsWellValue w names names low low scope (VarTree sp x) [] (symbol_in scope x)
variable-well w names low scope sp x = record {
  well = λ own p wanted st f t. steps-none w names low low own scope (Knows (operands (symbol_in scope x))) (omega arith) (λ known k. knows-in known x scope k);
  literal = tt {0};
  called = called-none names [];
}

-- ---- the steps of the parts alone
pub paren-well : (w : Whole) (old names : Names) (low high : ℕ) (scope : SymbolScope) (sp : Span) (e : Tree) (ss : List Step) (v : Symbol) → IsWellValue w old names low high scope e ss v → IsWellValue w old names low high scope (ParenTree sp e) ss v
paren-well w old names low high scope sp e ss v a = record {
  well = λ own p wanted st f t. a.well own p a_value st (no_front (faults p a_value e) _ f) t;
  literal = tt {0};
  called = a.called;
}

pub tuple-well : (w : Whole) (old names : Names) (low high : ℕ) (scope : SymbolScope) (sp : Span) (es : Trees) (ss : List Step) (vs : Symbols) → AreWellValues w old names low high scope es ss vs → IsWellValue w old names low high scope (TupleTree sp es) ss (Tuple vs)
tuple-well w old names low high scope sp es ss vs a = record {
  well = λ own p wanted st f t. a.well own (inside p) [] (stands-inside w own scope p st) (no_front (list_faults (inside p) [] es) _ f) refl;
  literal = tt {0};
  called = a.called;
}

pub record-well : (w : Whole) (old names : Names) (low high : ℕ) (scope : SymbolScope) (sp : Span) (es : NamedTrees) (ss : List Step) (vs : NamedSymbols) → AreWellFields w old names low high scope es ss vs → IsWellValue w old names low high scope (FieldsTree sp es) ss (Record vs)
record-well w old names low high scope sp es ss vs a = record {
  well = λ own p wanted st f t. a.well own (inside p) (stands-inside w own scope p st) (no_front (named_faults (inside p) es) _ f) refl;
  literal = tt {0};
  called = a.called;
}

pub dot-well : (w : Whole) (old names : Names) (low high : ℕ) (scope : SymbolScope) (sp : Span) (e : Tree) (x : List ℕ) (ss : List Step) (v : Symbol) → IsWellValue w old names low high scope e ss v → IsWellValue w old names low high scope (DotTree sp e x) ss (field_named x (fields_of v))
dot-well w old names low high scope sp e x ss v a = record {
  well = λ own p wanted st f t.
      steps-knowing w names low high high own scope ss (Knows (operands v)) (Knows (operands (field_named x (fields_of v)))) (omega arith)
      (a.well own (inside p) a_value (stands-inside w own scope p st) (no_front (faults (inside p) a_value e) _ f) refl) (λ known k q. knows-field known x v q);
  literal = tt {0};
  called = a.called;
}

-- ---- one primitive behind
let-behind : (w : Whole) (names : Names) (low mid own : ℕ) (scope : SymbolScope) (ss : List Step) (a : Primitive) (P : List ℕ → Type 0) → WellSteps w names low mid own scope ss P → ((known : List ℕ) → P known → is_primitive known a ≡ true)
    → WellSteps w names low (mid + 1) own scope (ss ++ Let mid a ∷ []) (Knows (Var mid ∷ []))
let-behind w names low mid own scope ss a P h prim =
    steps-last w names low mid (mid + 1) own scope ss (Let mid a) P (Knows (Var mid ∷ [])) h (λ l known k q. prim known q) (omega arith, omega arith) (tt {0}) (λ known k q. knows-new mid known)

pub invert-well : (w : Whole) (old names : Names) (low mid : ℕ) (scope : SymbolScope) (sp : Span) (e : Tree) (ss : List Step) (v : Symbol) → IsWellValue w old names low mid scope e ss v
    → IsWellValue w old names low (mid + 1) scope (InvertTree sp e) (ss ++ Let mid (UnaOf Not (word_operand v)) ∷ []) (Word (Var mid))
invert-well w old names low mid scope sp e ss v a = record {
  well = λ own p wanted st f t.
      let-behind w names low mid own scope ss (UnaOf Not (word_operand v)) (Knows (operands v))
      (a.well own (inside p) (of_type WordTy) (stands-inside w own scope p st) (no_front (faults (inside p) (of_type WordTy) e) _ f) refl) (λ known q. knows-word known v q);
  literal = tt {0};
  called = steps-called-more old names ss (Let mid (UnaOf Not (word_operand v)) ∷ []) a.called;
}

pub negate-well : (w : Whole) (old names : Names) (low mid : ℕ) (scope : SymbolScope) (sp : Span) (e : Tree) (ss : List Step) (v : Symbol) → IsWellValue w old names low mid scope e ss v
    → IsWellValue w old names low (mid + 1) scope (NegateTree sp e) (ss ++ Let mid (BinOf Xor (truth_operand v) (Lit 1)) ∷ []) (Truth (Var mid))
negate-well w old names low mid scope sp e ss v a = record {
  well = λ own p wanted st f t.
      let-behind w names low mid own scope ss (BinOf Xor (truth_operand v) (Lit 1)) (Knows (operands v))
      (a.well own (inside p) (of_type BoolTy) (stands-inside w own scope p st) (no_front (faults (inside p) (of_type BoolTy) e) _ f) refl)
      (λ known q. and_from (is_known known (truth_operand v)) true (knows-truth known v q) refl);
  literal = tt {0};
  called = steps-called-more old names ss (Let mid (BinOf Xor (truth_operand v) (Lit 1)) ∷ []) a.called;
}

-- two values, one after the other
pub two-values : (w : Whole) (names more : Names) (low mid high own : ℕ) (scope : SymbolScope) (ss ts : List Step) (u v : List Atom) → Extends names more
    → WellSteps w names low mid own scope ss (Knows u) → WellSteps w more mid high own scope ts (Knows v) → WellSteps w more low high own scope (ss ++ ts) (Knows (u ++ v))
two-values w names more low mid high own scope ss ts u v h a b =
    steps-then w more low mid high own scope scope ss ts (Knows u) (Knows v) (Knows (u ++ v)) (steps-names w names more low mid own scope ss (Knows u) h a) (λ known k q. k) b
    (λ known further le q r. knows-both further u v (atoms-more known further u le q) r)

pub combine-well : (w : Whole) (old names more : Names) (low mid high : ℕ) (scope : SymbolScope) (sp : Span) (op : Op) (bin : Bin) (a b : Tree) (ss ts : List Step) (u v : Symbol) → Extends names more
    → IsWellValue w old names low mid scope a ss u → IsWellValue w names more mid high scope b ts v
    → IsWellValue w old more low (high + 1) scope (BinaryTree sp op a b) ((ss ++ ts) ++ Let high (BinOf bin (word_operand u) (word_operand v)) ∷ []) (Word (Var high))
combine-well w old names more low mid high scope sp op bin a b ss ts u v h l r = record {
  well = λ own p wanted st f t.
      let want = of_type (operand_ty op) in
      let st' = stands-inside w own scope p st in
      let left = l.well own (inside p) want st' (no_front (faults (inside p) want a) _ f) refl in
      let right = r.well own (inside p) want st' (no_front (faults (inside p) want b) _ (no_rest (faults (inside p) want a) _ f)) refl in
      let-behind w more low high own scope (ss ++ ts) (BinOf bin (word_operand u) (word_operand v)) (Knows (operands u ++ operands v))
      (two-values w names more low mid high own scope ss ts (operands u) (operands v) h left right)
      (λ known q.
      and_from (is_known known (word_operand u)) (is_known known (word_operand v)) (knows-word known u (knows-left known (operands u) (operands v) q)) (knows-word known v (knows-right known (operands u) (operands v) q)));
  literal = tt {0};
  called = steps-called-more old more (ss ++ ts) (Let high (BinOf bin (word_operand u) (word_operand v)) ∷ []) (steps-called-then old names more ss ts l.called r.called);
}

-- ---- shifts; by no place it is the word itself

-- the operand, and the steps with the shift behind
pub record IsShift (op : ShiftOp) (n mid high : ℕ) (word x : Atom) (ss ts : List Step) : Type 0 where
  pub none : n ≡ 0 → (x ≡ word) × (ts ≡ ss) × (high ≡ mid)
  pub extends : Extends ss ts
  pub some : 1 ≤ n → n ≤ 31 → (x ≡ Var mid) × (ts ≡ ss ++ Let mid (shift_of op n word) ∷ []) × (high ≡ mid + 1)

shift-steps : (w : Whole) (names : Names) (low mid high own : ℕ) (scope : SymbolScope) (op : ShiftOp) (n : ℕ) (ss ts : List Step) (v : Symbol) (x : Atom) → n ≤ 31 → IsShift op n mid high (word_operand v) x ss ts
    → WellSteps w names low mid own scope ss (Knows (operands v)) → (n ≡ 0) ⊎ (1 ≤ n) → WellSteps w names low high own scope ts (Knows (x ∷ []))
shift-steps w names low mid high own scope op n ss ts v x le s a (inl z) =
    let e = s.none z in
    let same : WellSteps w names low mid own scope ss (Knows (word_operand v ∷ [])) =
    steps-knowing w names low mid mid own scope ss (Knows (operands v)) (Knows (word_operand v ∷ [])) (omega arith) a (λ known k q. knows-one known (word_operand v) (knows-word known v q))
    in
    subst (λ k. WellSteps w names low k own scope ts (Knows (x ∷ []))) (sym e.2)
    (subst (λ k. WellSteps w names low mid own scope k (Knows (x ∷ []))) (sym e.1) (subst (λ k. WellSteps w names low mid own scope ss (Knows (k ∷ []))) (sym e.0) same))
shift-steps w names low mid high own scope op n ss ts v x le s a (inr one) =
    let e = s.some one le in
    let same : WellSteps w names low (mid + 1) own scope (ss ++ Let mid (shift_of op n (word_operand v)) ∷ []) (Knows (Var mid ∷ [])) =
    let-behind w names low mid own scope ss (shift_of op n (word_operand v)) (Knows (operands v)) a (λ known q. shift-primitive op n known (word_operand v) one le (knows-word known v q))
    in
    subst (λ k. WellSteps w names low k own scope ts (Knows (x ∷ []))) (sym e.2)
    (subst (λ k. WellSteps w names low (mid + 1) own scope k (Knows (x ∷ []))) (sym e.1)
    (subst (λ k. WellSteps w names low (mid + 1) own scope (ss ++ Let mid (shift_of op n (word_operand v)) ∷ []) (Knows (k ∷ []))) (sym e.0) same))

pub shift-well : (w : Whole) (old names : Names) (low mid high : ℕ) (scope : SymbolScope) (sp : Span) (op : ShiftOp) (e : Tree) (n : ℕ) (ss ts : List Step) (v : Symbol) (x : Atom) → IsWellValue w old names low mid scope e ss v
    → IsShift op n mid high (word_operand v) x ss ts → IsWellValue w old names low high scope (ShiftTree sp op e n) ts (Word x)
shift-well w old names low mid high scope sp op e n ss ts v x a s = record {
  well = λ own p wanted st f t.
      let le : n ≤ 31 = ltb-false 31 n (not_where (nat_lt 31 n) 21 (middle-of p wanted (ShiftTree sp op e n) f)) in
      shift-steps w names low mid high own scope op n ss ts v x le s (a.well own (inside p) (of_type WordTy) (stands-inside w own scope p st) (no_front (faults (inside p) (of_type WordTy) e) _ f) refl) (count-cases n);
  literal = tt {0};
  called = subst (λ k. AreCalled old names (steps_calls k)) (sym s.extends.1) (steps-called-more old names ss s.extends.0 a.called);
}

-- ---- layouts

pub unpack-well : (w : Whole) (old names : Names) (low mid high : ℕ) (scope : SymbolScope) (sp : Span) (l : List ℕ) (e : Tree) (ss ts : List Step) (v u : Symbol) → IsWellValue w old names low mid scope e ss v → HasForm w scope e v
    → (IsSound (outline w.declared.layouts (NamedLayout l)) → length (operands v) ≡ packed_words (outline w.declared.layouts (NamedLayout l)) → AreWellLets mid high (operands v) ts (operands u))
    → IsWellValue w old names low high scope (UnpackTree sp l e) (ss ++ ts) u
unpack-well w old names low mid high scope sp l e ss ts v u a hf lets = record {
  well = λ own p wanted st f t.
      let found = among-known l p.known.layouts (not-false (is_among l (names_of p.known.layouts)) (not_where (not (is_among l (names_of p.known.layouts))) 3 (low-of p wanted (UnpackTree sp l e) f))) in
      let known = st.part.layouts l found.0 found.1 in
      let st' = stands-inside w own scope p st in
      let part = no_front (faults (inside p) (expected_packed (look_up l p.known.layouts)) e) _ f in
      let part' : faults (inside p) (of_type (packed_ty found.0)) e ≡ [] = subst (λ o. faults (inside p) (expected_packed o) e ≡ []) found.1 part in
      let typed = wanted-type (inside p) (packed_ty found.0) e part' in
      let formed : form v ≡ packed_ty found.0 = hf.by own (inside p) (of_type (packed_ty found.0)) st' part' (packed_ty found.0) typed in
      let many : length (operands v) ≡ packed_words found.0 = operands-words v ∙ ap words formed ∙ words-ty-words (packed_words found.0) in
      steps-compute w names low mid high own scope ss ts (operands v) (operands u) (a.well own (inside p) (of_type (packed_ty found.0)) st' part' refl)
      (lets (subst IsSound (sym known.0) known.1) (many ∙ ap packed_words (sym known.0)));
  literal = tt {0};
  called = steps-called-more old names ss ts a.called;
}

pub pack-well : (w : Whole) (old names : Names) (low mid high : ℕ) (scope : SymbolScope) (sp : Span) (l : List ℕ) (e : Tree) (ss ts : List Step) (v u : Symbol) → IsWellValue w old names low mid scope e ss v → HasForm w scope e v
    → (IsSound (outline w.declared.layouts (NamedLayout l)) → can_pack (form_of (outline w.declared.layouts (NamedLayout l))) (form v) ≡ true → AreWellLets mid high (operands v) ts (operands u))
    → IsWellValue w old names low high scope (PackTree sp l e) (ss ++ ts) u
pack-well w old names low mid high scope sp l e ss ts v u a hf lets = record {
  well = λ own p wanted st f t.
      let found = among-known l p.known.layouts (not-false (is_among l (names_of p.known.layouts)) (not_where (not (is_among l (names_of p.known.layouts))) 3 (low-of p wanted (PackTree sp l e) f))) in
      let known = st.part.layouts l found.0 found.1 in
      let st' = stands-inside w own scope p st in
      let want = expected_unpacked (Some found.0) in
      let part = no_front (faults (inside p) (expected_unpacked (look_up l p.known.layouts)) e) _ f in
      let part' : faults (inside p) want e ≡ [] = subst (λ o. faults (inside p) (expected_unpacked o) e ≡ []) found.1 part in
      let typed = value-has-type (inside p) want e refl part' in
      let formed : form v ≡ typed.0 = hf.by own (inside p) want st' part' typed.0 typed.1 in
      let right : can_pack (form_of found.0) typed.0 ≡ true = right-of (inside p) want e typed.0 part' typed.1 in
      let right' : can_pack (form_of found.0) (form v) ≡ true = subst (λ x. can_pack (form_of found.0) x ≡ true) (sym formed) right in
      steps-compute w names low mid high own scope ss ts (operands v) (operands u) (a.well own (inside p) want st' part' refl)
      (lets (subst IsSound (sym known.0) known.1) (subst (λ o. can_pack (form_of o) (form v) ≡ true) (sym known.0) right'));
  literal = tt {0};
  called = steps-called-more old names ss ts a.called;
}

-- ---- a read of words
pub fetch-well : (w : Whole) (old names : Names) (low mid : ℕ) (scope : SymbolScope) (sp : Span) (m : Mem) (n : ℕ) (e : Tree) (ss ts : List Step) (v : Symbol) (xs : _) → ts ≡ ss ++ Fetch m xs (word_operand v) ∷ [] → xs.items ≡ numbers_from mid n → IsWellValue w old names low mid scope e ss v
    → IsWellValue w old names low (mid + n) scope (FetchTree sp m n e) ts (words_symbol (variables (numbers_from mid n)))
fetch-well w old names low mid scope sp m n e ss ts v xs last same a = record {
  well = λ own p wanted st f t.
      subst (λ k. WellSteps w names low (mid + n) own scope k (Knows (operands (words_symbol (variables (numbers_from mid n)))))) (sym last)
      (let many : length xs.items ≡ n = ap length same ∙ numbers-length mid n in
      let kinds = middle-of p wanted (FetchTree sp m n e) f in
      let moves : flat.can_move m n ≡ true = move-same m n ∙ not-false (can_move m n) (not_where (not (can_move m n)) 19 (no_front (wrong_access m n) _ kinds)) in
      let address : flat.is_address m (word_operand v) n ≡ true = address-formed m e n v (no_rest (wrong_access m n) (wrong_scratch m e n) kinds) a.literal in
      steps-last w names low mid (mid + n) own scope ss (Fetch m xs (word_operand v)) (Knows (operands v)) (Knows (operands (words_symbol (variables (numbers_from mid n)))))
      (a.well own (inside p) (of_type WordTy) (stands-inside w own scope p st) (no_front (faults (inside p) (of_type WordTy) e) _ f) refl)
      (λ l known k q.
      and_from (is_known known (word_operand v)) (flat.can_move m (length xs.items) && flat.is_address m (word_operand v) (length xs.items)) (knows-word known v q)
      (and_from (flat.can_move m (length xs.items)) (flat.is_address m (word_operand v) (length xs.items)) (subst (λ k. flat.can_move m k ≡ true) (sym many) moves) (subst (λ k. flat.is_address m (word_operand v) k ≡ true) (sym many) address)))
      (subst (λ k. Rises mid k (mid + n)) (sym same) (rises-numbers mid n (mid + n) (omega arith))) (tt {0})
      (λ known k q.
      subst (Knows (operands (words_symbol (variables (numbers_from mid n))))) (ap (λ l. l ++ known) (sym same))
      (subst (λ as'. all_known (numbers_from mid n ++ known) as' ≡ true) (sym (symbol-operands (variables (numbers_from mid n)))) (knows-variables (numbers_from mid n) known))));
  literal = tt {0};
  called = subst (λ k. AreCalled old names (steps_calls k)) (sym last) (steps-called-more old names ss (Fetch m xs (word_operand v) ∷ []) a.called);
}

-- ---- a block
pub stands-behind : (w : Whole) (own : ℕ) (scope inner : SymbolScope) (p : Context) (sts : StatementTrees) → Stands w own scope p → vars_behind p.known p.vars sts ≡ vars_of inner → Stands w own inner (with_vars (vars_behind p.known p.vars sts) p)
stands-behind w own scope inner p sts st e = record { part = st.part; vars = e }

pub block-well : (w : Whole) (old names more : Names) (low mid high : ℕ) (scope inner : SymbolScope) (sp : Span) (sts : StatementTrees) (e : Tree) (ss ts : List Step) (v : Symbol) → Extends names more
    → IsWellStated w old names low mid scope sts ss inner → ((own : ℕ) (p : Context) → Stands w own scope p → statements_faults p sts ≡ [] → vars_behind p.known p.vars sts ≡ vars_of inner) → IsWellValue w names more mid high inner e ts v
    → IsWellValue w old more low high scope (BlockTree sp sts e) (ss ++ ts) v
block-well w old names more low mid high scope inner sp sts e ss ts v h a vars b = record {
  well = λ own p wanted st f t.
      let st' = stands-inside w own scope p st in
      let none = no_front (statements_faults (inside p) sts) _ f in
      let rest = no_rest (statements_faults (inside p) sts) _ f in
      let behind = with_vars (vars_behind p.known p.vars sts) p in
      let first = steps-names w names more low mid own scope ss (λ known. ScopeKnown known inner) h (a.well own (inside p) st' none refl) in
      let second = b.well own behind anything (stands-behind w own scope inner p sts st (vars own (inside p) st' none)) (no_front (faults behind anything e) _ rest) t in
      steps-then w more low mid high own scope inner ss ts (λ known. ScopeKnown known inner) (Knows (operands v)) (Knows (operands v)) first (λ known k q. q) second (λ known further le q r. r);
  literal = tt {0};
  called = steps-called-then old names more ss ts a.called b.called;
}

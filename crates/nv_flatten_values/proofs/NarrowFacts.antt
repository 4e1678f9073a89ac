-- What the bounds of narrow code stand on: written names, operands, and needs.
use Rattle.std.proofs.Common.{◌≡◌, ℕ, ◌+◌, ◌≤◌, Bool, true, false, if◌then◌else◌, List, [], ◌∷◌, ◌++◌, refl, sym, ap, subst, ◌∙◌, append_assoc, length, Option, Some, None, option_map, bytes_eq, arith}
use Rattle.std.proofs.lemmas.List.{length-append}
use Rattle.nv_base.specs.Words.{atom_vars}
use Rattle.nv_ast.specs.Tree.{Tree, NumberTree, TruthTree, VarTree, ParenTree, TupleTree, FieldsTree, DotTree, InvertTree, NegateTree, BinaryTree, ShiftTree, CallTree, UnpackTree, PackTree, RaiseTree, IfTree, TryTree, FetchTree, BlockTree}
use Rattle.nv_ast.specs.Types.{Ty, words, total_words, total_named_words, words_of_value}
use Rattle.nv_ast.specs.Scope.{Known, Vars, Context}
use Rattle.nv_ast.specs.Typing.{type_at, vars_behind}
use Rattle.nv_ast.specs.Faults.{Expected, faults}
use Rattle.nv_ast.specs.Sizes.{GroupNumbers, words_at, need}
use Rattle.nv_base.specs.Sets.{all_vars}
use Rattle.nv_flatten_values.specs.inner.Code.{variables, is_given, form_or_unit}
use Rattle.nv_flatten_values.specs.inner.Symbols.{Symbol, Symbols, NamedSymbols, Word, Truth, Tuple, Record, no_symbols, symbol_and, no_named_symbols, named_symbol_and, SymbolScope, operands, all_operands, named_operands, form, forms, named_forms, word_operand, truth_operand, fields_of, field_named, symbol_in}
use Rattle.nv_flatten_values.specs.inner.Whole.{Whole, Stands}
use Rattle.nv_flatten_values.specs.inner.Simulation.{HasForm}
use Rattle.nv_flatten_values.specs.inner.Narrow.{IsWithin, written}
use Rattle.nv_flatten_values.proofs.Within.{itself, of-none, into-left, into-right, through, all-vars-append, vars-length}
use Rattle.nv_flatten_values.proofs.Sound.{value-has-type, given-has-type}

-- ---- lists without an element

-- ---- written names
pub written-append : (scope : SymbolScope) (xs ys : List (List ℕ)) → written scope (xs ++ ys) ≡ written scope xs ++ written scope ys
written-append scope [] ys = refl
written-append scope (x ∷ xs) ys = ap (λ l. all_vars (operands (symbol_in scope x)) ++ l) (written-append scope xs ys) ∙ sym (append_assoc (all_vars (operands (symbol_in scope x))) (written scope xs) (written scope ys))

pub written-left : (scope : SymbolScope) (xs ys : List (List ℕ)) → IsWithin (written scope xs) (written scope (xs ++ ys))
written-left scope xs ys = subst (IsWithin (written scope xs)) (sym (written-append scope xs ys)) (into-left (written scope xs) (written scope xs) (written scope ys) itself)

pub written-right : (scope : SymbolScope) (xs ys : List (List ℕ)) → IsWithin (written scope ys) (written scope (xs ++ ys))
written-right scope xs ys = subst (IsWithin (written scope ys)) (sym (written-append scope xs ys)) (into-right (written scope ys) (written scope xs) (written scope ys) itself)

-- ---- operands

-- as many as the type has words
mutual
  pub words-of-form : (s : Symbol) → length (operands s) ≡ words (form s)
  words-of-form (Word a) = refl
  words-of-form (Truth a) = refl
  words-of-form (Tuple ss) = words-of-forms ss
  words-of-form (Record fs) = words-of-named fs

  pub words-of-forms : (ss : Symbols) → length (all_operands ss) ≡ total_words (forms ss)
  words-of-forms no_symbols = refl
  words-of-forms (symbol_and s ss) = omega (arith, length-append (operands s) (all_operands ss), words-of-form s, words-of-forms ss)

  pub words-of-named : (ss : NamedSymbols) → length (named_operands ss) ≡ total_named_words (named_forms ss)
  words-of-named no_named_symbols = refl
  words-of-named (named_symbol_and x s ss) = omega (arith, length-append (operands s) (named_operands ss), words-of-form s, words-of-named ss)

words-of-some : (o : Option Ty) (s : Symbol) (t : Ty) → o ≡ Some t → (o ≡ Some t → form s ≡ t) → length (operands s) ≡ words_of_value o
words-of-some o s t e h = words-of-form s ∙ ap words (h e) ∙ sym (ap words_of_value e)

-- of an expression of which a value is wanted, or that always gives one
pub counted : (w : Whole) (scope : SymbolScope) (e : Tree) (s : Symbol) → HasForm w scope e s → (own : ℕ) (p : Context) (wanted : Expected) → Stands w own scope p → faults p wanted e ≡ [] → wanted.value ≡ true → length (operands s) ≡ words_at p.known p.vars e
counted w scope e s f own p wanted stands none v =
    let t = value-has-type p wanted e v none in
    words-of-some (type_at p.known p.vars e) s t.0 t.1 (f.by own p wanted stands none t.0)

pub counted-given : (w : Whole) (scope : SymbolScope) (e : Tree) (s : Symbol) → HasForm w scope e s → (own : ℕ) (p : Context) (wanted : Expected) → Stands w own scope p → faults p wanted e ≡ [] → is_given e ≡ true → length (operands s) ≡ words_at p.known p.vars e
counted-given w scope e s f own p wanted stands none g =
    let t = given-has-type p wanted e none g in
    words-of-some (type_at p.known p.vars e) s t.0 t.1 (f.by own p wanted stands none t.0)

-- the words of a form, where there is one
pub words-of-or-unit : (o : Option Symbol) → words (form_or_unit o) ≡ words_of_value (option_map form o)
words-of-or-unit None = refl
words-of-or-unit (Some s) = refl

-- the variables of a symbolic value are at most its words
pub vars-at-most : (s : Symbol) (n : ℕ) → length (operands s) ≡ n → length (all_vars (operands s)) ≤ n
vars-at-most s n e = omega (arith, vars-length (operands s))

-- ---- parts of symbolic values
pub word-operand-within : (s : Symbol) → IsWithin (atom_vars (word_operand s)) (all_vars (operands s))
word-operand-within (Word a) = into-left (atom_vars a) (atom_vars a) [] itself
word-operand-within (Truth a) = of-none (all_vars (operands (Truth a)))
word-operand-within (Tuple ss) = of-none (all_vars (operands (Tuple ss)))
word-operand-within (Record fs) = of-none (all_vars (operands (Record fs)))

pub truth-operand-within : (s : Symbol) → IsWithin (atom_vars (truth_operand s)) (all_vars (operands s))
truth-operand-within (Truth a) = into-left (atom_vars a) (atom_vars a) [] itself
truth-operand-within (Word a) = of-none (all_vars (operands (Word a)))
truth-operand-within (Tuple ss) = of-none (all_vars (operands (Tuple ss)))
truth-operand-within (Record fs) = of-none (all_vars (operands (Record fs)))

-- one of two is within both
choice-within : (b : Bool) (s t : Symbol) (a : List ℕ) → IsWithin (all_vars (operands s)) a → IsWithin (all_vars (operands t)) a → IsWithin (all_vars (operands (if b then s else t))) a
choice-within true s t a p q = p
choice-within false s t a p q = q

pub field-within : (x : List ℕ) (fs : NamedSymbols) → IsWithin (all_vars (operands (field_named x fs))) (all_vars (named_operands fs))
field-within x no_named_symbols = of-none []
field-within x (named_symbol_and y s ss) =
    let all : IsWithin (all_vars (operands s) ++ all_vars (named_operands ss)) (all_vars (operands s ++ named_operands ss)) =
    subst (λ l. IsWithin l (all_vars (operands s ++ named_operands ss))) (all-vars-append (operands s) (named_operands ss)) itself in
    choice-within (bytes_eq x y) s (field_named x ss) (all_vars (operands s ++ named_operands ss))
    (through (into-left (all_vars (operands s)) (all_vars (operands s)) (all_vars (named_operands ss)) itself) all)
    (through (into-right (all_vars (operands (field_named x ss))) (all_vars (operands s)) (all_vars (named_operands ss)) (field-within x ss)) all)

pub fields-within : (s : Symbol) → IsWithin (all_vars (named_operands (fields_of s))) (all_vars (operands s))
fields-within (Word a) = of-none (all_vars (operands (Word a)))
fields-within (Truth a) = of-none (all_vars (operands (Truth a)))
fields-within (Tuple ss) = of-none (all_vars (operands (Tuple ss)))
fields-within (Record fs) = itself

-- ---- new variables
pub vars-of-variables : (xs : List ℕ) → all_vars (variables xs) ≡ xs
vars-of-variables [] = refl
vars-of-variables (x ∷ xs) = ap (λ l. x ∷ l) (vars-of-variables xs)

-- ---- needs

-- each is at least 2 and the words of the value
pub need-least : (needs : GroupNumbers) (k : Known) (vars : Vars) (e : Tree) → 2 + words_at k vars e ≤ need needs k vars e
need-least needs k vars (NumberTree s n) = omega arith
need-least needs k vars (TruthTree s b) = omega arith
need-least needs k vars (VarTree s x) = omega arith
need-least needs k vars (ParenTree s e) = omega arith
need-least needs k vars (TupleTree s es) = omega arith
need-least needs k vars (FieldsTree s es) = omega arith
need-least needs k vars (DotTree s e x) = omega arith
need-least needs k vars (InvertTree s e) = omega arith
need-least needs k vars (NegateTree s e) = omega arith
need-least needs k vars (BinaryTree s op a b) = omega arith
need-least needs k vars (ShiftTree s op e n) = omega arith
need-least needs k vars (CallTree s f es) = omega arith
need-least needs k vars (UnpackTree s l e) = omega arith
need-least needs k vars (PackTree s l e) = omega arith
need-least needs k vars (RaiseTree s x es) = omega arith
need-least needs k vars (IfTree s c a b) = omega arith
need-least needs k vars (TryTree s a x ps h) = omega arith
need-least needs k vars (FetchTree s m n a) = omega arith
need-least needs k vars (BlockTree s sts e) = omega (arith, need-least needs k (vars_behind k vars sts) e)

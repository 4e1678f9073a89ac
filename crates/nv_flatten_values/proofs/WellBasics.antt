-- Known variables, rising numbers and raised exceptions along lists.
use Rattle.std.proofs.Common.{◌≡◌, ℕ, zero, suc, ◌+◌, ◌<◌, ◌≤◌, Bool, true, false, not, nat_eq, ◌&&◌, ◌||◌, List, [], ◌∷◌, ◌++◌, refl, sym, ap, ◌∙◌, length, bytes_eq, if◌then◌else◌, ◌==◌, arith}
use Rattle.std.proofs.lemmas.Bool.{and_parts, and_from, or_right, or_from, eqb-true, false_from_ne_true, not_from_false}
use Rattle.nv_base.specs.declared.term.Atom.{Atom}
use Rattle.nv_base.specs.declared.term.Atom.TheVariants.{Var}
use Rattle.nv_ast.specs.Types.{WordTy, TupleTy, words, total_words, total_named_words, word_parts, words_ty}
use Rattle.flat_ir.specs.declared.spine.Step.{Step}
use Rattle.nv_base.specs.Sets.{is_in, all_different, Within}
use Rattle.nv_base.specs.Access.{is_known, all_known}
use Rattle.flat_ir.specs.Pieces.{new_vars, known_behind}
use Rattle.nv_base.proofs.Sets.{in-append}
use Rattle.nv_flatten_values.specs.inner.Code.{variables}
use Rattle.nv_flatten_values.specs.inner.Symbols.{Symbol, Symbols, NamedSymbols, Word, Truth, Tuple, Record, no_symbols, symbol_and, no_named_symbols, named_symbol_and, SymbolScope, operands, all_operands, named_operands, form, forms, named_forms, numbers_from, word_operand, truth_operand, fields_of, field_named, symbol_in, bound, all_bound}
use Rattle.nv_ast.specs.Tree.{PatternTree, NamePattern, AnyPattern, TuplePattern, PatternTrees, no_patterns, pattern_and}
use Rattle.nv_flatten_values.specs.inner.Whole.{Whole}
use Rattle.nv_flatten_values.specs.inner.Well.{ScopeKnown, Rises, RaisedMatch}
use Rattle.std.proofs.lemmas.List.{length-append}
use Rattle.nv_flatten_values.proofs.Following.{eq-same}
use Rattle.nv_base.proofs.Operands.{atoms-more}
use Rattle.nv_ast.proofs.TypeWords.{parts_words}

-- ---- lists of nothing

-- ---- known variables
pub known-more : (known : List ℕ) (ss : List Step) → Within known (known_behind known ss)
known-more known [] = λ x e. e
known-more known (s ∷ ss) = λ x e. known-more (new_vars s ++ known) ss x (in-append x (new_vars s) known ∙ or_right (is_in x (new_vars s)) (is_in x known) e)

pub scope-more : (known known' : List ℕ) (scope : SymbolScope) → Within known known' → ScopeKnown known scope → ScopeKnown known' scope
scope-more known known' [] h k = tt {0}
scope-more known known' ((x, s) ∷ scope) h k = (atoms-more known known' (operands s) h k.0, scope-more known known' scope h k.1)

pub knows-both : (known : List ℕ) (a b : List Atom) → all_known known a ≡ true → all_known known b ≡ true → all_known known (a ++ b) ≡ true
knows-both known [] b e f = f
knows-both known (x ∷ a) b e f = let p = and_parts (is_known known x) (all_known known a) e in and_from (is_known known x) (all_known known (a ++ b)) p.0 (knows-both known a b p.1 f)

pub knows-left : (known : List ℕ) (a b : List Atom) → all_known known (a ++ b) ≡ true → all_known known a ≡ true
knows-left known [] b e = refl
knows-left known (x ∷ a) b e = let p = and_parts (is_known known x) (all_known known (a ++ b)) e in and_from (is_known known x) (all_known known a) p.0 (knows-left known a b p.1)

pub knows-right : (known : List ℕ) (a b : List Atom) → all_known known (a ++ b) ≡ true → all_known known b ≡ true
knows-right known [] b e = e
knows-right known (x ∷ a) b e = let p = and_parts (is_known known x) (all_known known (a ++ b)) e in knows-right known a b p.1

pub knows-one : (known : List ℕ) (a : Atom) → is_known known a ≡ true → all_known known (a ∷ []) ≡ true
knows-one known a e = and_from (is_known known a) true e refl

pub knows-two : (known : List ℕ) (a b : Atom) → is_known known a ≡ true → is_known known b ≡ true → all_known known (a ∷ b ∷ []) ≡ true
knows-two known a b e f = and_from (is_known known a) (is_known known b && true) e (and_from (is_known known b) true f refl)

pub knows-first : (known : List ℕ) (a : Atom) (as' : List Atom) → all_known known (a ∷ as') ≡ true → is_known known a ≡ true
knows-first known a as' e = (and_parts (is_known known a) (all_known known as') e).0

pub knows-rest : (known : List ℕ) (a : Atom) (as' : List Atom) → all_known known (a ∷ as') ≡ true → all_known known as' ≡ true
knows-rest known a as' e = (and_parts (is_known known a) (all_known known as') e).1

in-first : (x : ℕ) (known : List ℕ) → is_in x (x ∷ known) ≡ true
in-first x known = ap (λ b. b || is_in x known) (eq-same x)

pub knows-new : (x : ℕ) (known : List ℕ) → all_known (x ∷ known) (Var x ∷ []) ≡ true
knows-new x known = knows-one (x ∷ known) (Var x) (in-first x known)

pub knows-variables : (xs known : List ℕ) → all_known (xs ++ known) (variables xs) ≡ true
knows-variables [] known = refl
knows-variables (x ∷ xs) known =
    and_from (is_in x (x ∷ (xs ++ known))) (all_known (x ∷ (xs ++ known)) (variables xs)) (in-first x (xs ++ known))
    (atoms-more (xs ++ known) (x ∷ (xs ++ known)) (variables xs) (λ y e. or_right (nat_eq y x) (is_in y (xs ++ known)) e) (knows-variables xs known))

-- ---- parts of symbolic values
pub knows-word : (known : List ℕ) (s : Symbol) → all_known known (operands s) ≡ true → is_known known (word_operand s) ≡ true
knows-word known (Word a) e = knows-first known a [] e
knows-word known (Truth a) e = refl
knows-word known (Tuple ss) e = refl
knows-word known (Record fs) e = refl

pub knows-truth : (known : List ℕ) (s : Symbol) → all_known known (operands s) ≡ true → is_known known (truth_operand s) ≡ true
knows-truth known (Word a) e = refl
knows-truth known (Truth a) e = knows-first known a [] e
knows-truth known (Tuple ss) e = refl
knows-truth known (Record fs) e = refl

knows-if : (known : List ℕ) (b : Bool) (s t : Symbol) → all_known known (operands s) ≡ true → all_known known (operands t) ≡ true → all_known known (operands (if b then s else t)) ≡ true
knows-if known true s t e f = e
knows-if known false s t e f = f

knows-named : (known x : List ℕ) (fs : NamedSymbols) → all_known known (named_operands fs) ≡ true → all_known known (operands (field_named x fs)) ≡ true
knows-named known x no_named_symbols e = refl
knows-named known x (named_symbol_and y s ss) e =
    knows-if known (bytes_eq x y) s (field_named x ss) (knows-left known (operands s) (named_operands ss) e) (knows-named known x ss (knows-right known (operands s) (named_operands ss) e))

pub knows-field : (known x : List ℕ) (s : Symbol) → all_known known (operands s) ≡ true → all_known known (operands (field_named x (fields_of s))) ≡ true
knows-field known x (Word a) e = refl
knows-field known x (Truth a) e = refl
knows-field known x (Tuple ss) e = refl
knows-field known x (Record fs) e = knows-named known x fs e

pub knows-in : (known x : List ℕ) (scope : SymbolScope) → ScopeKnown known scope → all_known known (operands (symbol_in scope x)) ≡ true
knows-in known x [] k = refl
knows-in known x ((y, s) ∷ scope) k = knows-if known (bytes_eq x y) s (symbol_in scope x) k.0 (knows-in known x scope k.1)

-- ---- patterns
mutual
  pub bound-known : (known : List ℕ) (p : PatternTree) (s : Symbol) (scope : SymbolScope) → all_known known (operands s) ≡ true → ScopeKnown known scope → ScopeKnown known (bound p s scope)
  bound-known known (NamePattern x) s scope e k = (e, k)
  bound-known known AnyPattern s scope e k = k
  bound-known known (TuplePattern ps) (Tuple ss) scope e k = all-bound-known known ps ss scope e k
  bound-known known (TuplePattern ps) (Word a) scope e k = k
  bound-known known (TuplePattern ps) (Truth a) scope e k = k
  bound-known known (TuplePattern ps) (Record fs) scope e k = k

  pub all-bound-known : (known : List ℕ) (ps : PatternTrees) (ss : Symbols) (scope : SymbolScope) → all_known known (all_operands ss) ≡ true → ScopeKnown known scope → ScopeKnown known (all_bound ps ss scope)
  all-bound-known known (pattern_and p ps) (symbol_and s ss) scope e k =
      all-bound-known known ps ss (bound p s scope) (knows-right known (operands s) (all_operands ss) e) (bound-known known p s scope (knows-left known (operands s) (all_operands ss) e) k)
  all-bound-known known no_patterns ss scope e k = k
  all-bound-known known (pattern_and p ps) no_symbols scope e k = k

-- ---- how many operands

mutual
  pub operands-words : (s : Symbol) → length (operands s) ≡ words (form s)
  operands-words (Word a) = refl
  operands-words (Truth a) = refl
  operands-words (Tuple ss) = all-operands-words ss
  operands-words (Record fs) = named-operands-words fs

  pub all-operands-words : (ss : Symbols) → length (all_operands ss) ≡ total_words (forms ss)
  all-operands-words no_symbols = refl
  all-operands-words (symbol_and s ss) = let a = operands-words s in let b = all-operands-words ss in let c = length-append (operands s) (all_operands ss) in omega arith

  pub named-operands-words : (fs : NamedSymbols) → length (named_operands fs) ≡ total_named_words (named_forms fs)
  named-operands-words no_named_symbols = refl
  named-operands-words (named_symbol_and x s ss) = let a = operands-words s in let b = named-operands-words ss in let c = length-append (operands s) (named_operands ss) in omega arith

pub words-if : (b : Bool) (n : ℕ) → (b ≡ true → n ≡ 1) → words (if b then WordTy else TupleTy (word_parts n)) ≡ n
words-if true n h = sym (h refl)
words-if false n h = parts_words n

pub words-ty-words : (n : ℕ) → words (words_ty n) ≡ n
words-ty-words n = words-if (n == 1) n (λ e. eqb-true n 1 e)

-- ---- rising numbers
pub rises-bound : (low : ℕ) (xs : List ℕ) (high : ℕ) → Rises low xs high → low ≤ high
rises-bound low [] high h = h
rises-bound low (x ∷ xs) high h = let a = h.0 in let b = rises-bound (suc x) xs high h.1 in omega arith

pub rises-from : (low mid high : ℕ) (xs : List ℕ) → low ≤ mid → Rises mid xs high → Rises low xs high
rises-from low mid high [] le h = omega arith
rises-from low mid high (x ∷ xs) le h = let a = h.0 in (omega arith, h.1)

pub rises-later : (low mid high : ℕ) (xs : List ℕ) → mid ≤ high → Rises low xs mid → Rises low xs high
rises-later low mid high [] le h = omega arith
rises-later low mid high (x ∷ xs) le h = (h.0, rises-later (suc x) mid high xs le h.1)

pub rises-append : (low mid high : ℕ) (xs ys : List ℕ) → Rises low xs mid → Rises mid ys high → Rises low (xs ++ ys) high
rises-append low mid high [] ys h k = rises-from low mid high ys h k
rises-append low mid high (x ∷ xs) ys h k = (h.0, rises-append (suc x) mid high xs ys h.1 k)

pub rises-numbers : (low n high : ℕ) → low + n ≤ high → Rises low (numbers_from low n) high
rises-numbers low zero high le = omega arith
rises-numbers low (suc n) high le = (omega arith, rises-numbers (suc low) n high (omega arith))

absent : (x low : ℕ) (xs : List ℕ) (high : ℕ) → x < low → Rises low xs high → is_in x xs ≡ false
absent x low [] high lt h = refl
absent x low (y ∷ xs) high lt h =
    let a = h.0 in
    or_from (nat_eq x y) (is_in x xs) (false_from_ne_true (nat_eq x y) (λ f. let e : x ≡ y = eqb-true x y f in omega arith)) (absent x (suc y) xs high (omega arith) h.1)

pub rises-different : (low : ℕ) (xs : List ℕ) (high : ℕ) → Rises low xs high → all_different xs ≡ true
rises-different low [] high h = refl
rises-different low (x ∷ xs) high h =
    and_from (not (is_in x xs)) (all_different xs) (not_from_false (is_in x xs) (absent x (suc x) xs high (omega arith) h.1)) (rises-different (suc x) xs high h.1)

-- ---- raised exceptions
pub raised-both : (w : Whole) (a b : List (ℕ × ℕ)) → RaisedMatch w a → RaisedMatch w b → RaisedMatch w (a ++ b)
raised-both w [] b h k = k
raised-both w (r ∷ a) b h k = (h.0, raised-both w a b h.1 k)

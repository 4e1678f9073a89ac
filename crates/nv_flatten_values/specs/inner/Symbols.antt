-- Symbolic values: the form of a value, with an operand in place of each word.
use Rattle.std.specs.Prelude.{◌≡◌, ℕ, zero, suc, ◌+◌, ◌<◌, ◌≤◌, ◌^◌, ◌==◌, not, if◌then◌else◌, List, [], ◌∷◌, ◌++◌, All, bytes_eq, ⊤}
use Rattle.nv_base.specs.declared.term.Atom.{Atom}
use Rattle.nv_base.specs.declared.term.Atom.TheVariants.{Var, Lit}
use Rattle.nv_base.specs.Words.{Env, atom_word}
use Rattle.nv_ast.specs.Types.{Ty, WordTy, BoolTy, TupleTy, RecordTy, Tys, no_tys, ty_and, NamedTys, no_named_tys, named_ty_and, words}
use Rattle.nv_ast.specs.Scope.{Vars}
use Rattle.nv_ast.specs.Tree.{PatternTree, NamePattern, AnyPattern, TuplePattern, PatternTrees, pattern_and}
use Rattle.nv_meaning.specs.Values as meaning

mutual
  -- a word, a truth (1 or 0), a tuple, or a record of named values
  pub data Symbol : Type 0 where
    Word : (a : Atom) → Symbol
    Truth : (a : Atom) → Symbol
    Tuple : (parts : Symbols) → Symbol
    Record : (fields : NamedSymbols) → Symbol

  pub data Symbols : Type 0 where
    no_symbols : Symbols
    symbol_and : (s : Symbol) (ss : Symbols) → Symbols

  pub data NamedSymbols : Type 0 where
    no_named_symbols : NamedSymbols
    named_symbol_and : (name : List ℕ) (s : Symbol) (ss : NamedSymbols) → NamedSymbols

-- ---- the operands of a symbolic value, in the order of its words
abbrev mutual
  pub operands : Symbol → List Atom
  operands (Word a) = a ∷ []
  operands (Truth a) = a ∷ []
  operands (Tuple ss) = all_operands ss
  operands (Record fs) = named_operands fs

  pub all_operands : Symbols → List Atom
  all_operands no_symbols = []
  all_operands (symbol_and s ss) = operands s ++ all_operands ss

  pub named_operands : NamedSymbols → List Atom
  named_operands no_named_symbols = []
  named_operands (named_symbol_and x s ss) = operands s ++ named_operands ss

-- ---- its type
abbrev mutual
  pub form : Symbol → Ty
  form (Word a) = WordTy
  form (Truth a) = BoolTy
  form (Tuple ss) = TupleTy (forms ss)
  form (Record fs) = RecordTy (named_forms fs)

  pub forms : Symbols → Tys
  forms no_symbols = no_tys
  forms (symbol_and s ss) = ty_and (form s) (forms ss)

  pub named_forms : NamedSymbols → NamedTys
  named_forms no_named_symbols = no_named_tys
  named_forms (named_symbol_and x s ss) = named_ty_and x (form s) (named_forms ss)

-- ---- the value that it stands for under an assignment
abbrev mutual
  pub value_in : Env → Symbol → meaning.Value
  value_in env (Word a) = meaning.Word (atom_word env a)
  value_in env (Truth a) = meaning.Truth (not (atom_word env a == 0))
  value_in env (Tuple ss) = meaning.Tuple (values_in env ss)
  value_in env (Record fs) = meaning.Record (named_values_in env fs)

  pub values_in : Env → Symbols → meaning.Values
  values_in env no_symbols = meaning.no_values
  values_in env (symbol_and s ss) = meaning.value_and (value_in env s) (values_in env ss)

  pub named_values_in : Env → NamedSymbols → meaning.NamedValues
  named_values_in env no_named_symbols = meaning.no_named_values
  named_values_in env (named_symbol_and x s ss) = meaning.named_value_and x (value_in env s) (named_values_in env ss)

-- ---- under an assignment words fit 32 bits, and truths are 1 or 0
abbrev mutual
  pub Fits : Env → Symbol → Type 0
  Fits env (Word a) = atom_word env a < 2 ^ 32
  Fits env (Truth a) = atom_word env a ≤ 1
  Fits env (Tuple ss) = AllFit env ss
  Fits env (Record fs) = NamedFit env fs

  pub AllFit : Env → Symbols → Type 0
  AllFit env no_symbols = ⊤
  AllFit env (symbol_and s ss) = Fits env s × AllFit env ss

  pub NamedFit : Env → NamedSymbols → Type 0
  NamedFit env no_named_symbols = ⊤
  NamedFit env (named_symbol_and x s ss) = Fits env s × NamedFit env ss

-- ---- variables are numbered in the order in which they are made: all of these are older than the one of this number
abbrev pub IsOlder : ℕ → Atom → Type 0
IsOlder n (Var x) = x < n
IsOlder n (Lit v) = ⊤

abbrev pub AreOlder : ℕ → List Atom → Type 0
AreOlder n as' = All (IsOlder n) as'

-- two assignments give the same words to the variables before this one
abbrev pub Keeps : ℕ → Env → Env → Type 0
Keeps n env new = (x : ℕ) → x < n → new x ≡ env x

-- ---- a symbolic value of new variables, from this number on
abbrev mutual
  pub fresh : ℕ → Ty → Symbol
  fresh n WordTy = Word (Var n)
  fresh n BoolTy = Truth (Var n)
  fresh n (TupleTy ts) = Tuple (all_fresh n ts)
  fresh n (RecordTy ts) = Record (named_fresh n ts)

  pub all_fresh : ℕ → Tys → Symbols
  all_fresh n no_tys = no_symbols
  all_fresh n (ty_and t ts) = symbol_and (fresh n t) (all_fresh (n + words t) ts)

  pub named_fresh : ℕ → NamedTys → NamedSymbols
  named_fresh n no_named_tys = no_named_symbols
  named_fresh n (named_ty_and x t ts) = named_symbol_and x (fresh n t) (named_fresh (n + words t) ts)

-- so many numbers from n on
abbrev pub numbers_from : ℕ → ℕ → List ℕ
numbers_from n zero = []
numbers_from n (suc k) = n ∷ numbers_from (suc n) k

-- some operands as a symbolic value: one is itself, others are their tuple
abbrev pub word_symbols : List Atom → Symbols
word_symbols [] = no_symbols
word_symbols (a ∷ as') = symbol_and (Word a) (word_symbols as')

abbrev pub words_symbol : List Atom → Symbol
words_symbol (a ∷ []) = Word a
words_symbol as' = Tuple (word_symbols as')

-- ---- parts. What a typed program never asks for has a harmless answer: the literal 0, or no part.
abbrev pub word_operand : Symbol → Atom
word_operand (Word a) = a
word_operand _ = Lit 0

abbrev pub truth_operand : Symbol → Atom
truth_operand (Truth a) = a
truth_operand _ = Lit 0

abbrev pub fields_of : Symbol → NamedSymbols
fields_of (Record fs) = fs
fields_of _ = no_named_symbols

abbrev pub field_named : List ℕ → NamedSymbols → Symbol
field_named x no_named_symbols = Word (Lit 0)
field_named x (named_symbol_and y s ss) = if bytes_eq x y then s else field_named x ss

-- ---- the variables in scope with their symbolic values, the newest first
abbrev pub SymbolScope : Type 0
SymbolScope = List (List ℕ × Symbol)

abbrev pub symbol_in : SymbolScope → List ℕ → Symbol
symbol_in [] x = Word (Lit 0)
symbol_in ((y, s) ∷ scope) x = if bytes_eq x y then s else symbol_in scope x

-- their types, and their values under an assignment
abbrev pub vars_of : SymbolScope → Vars
vars_of [] = []
vars_of ((x, s) ∷ scope) = (x, form s) ∷ vars_of scope

abbrev pub scope_in : Env → SymbolScope → meaning.Scope
scope_in env [] = []
scope_in env ((x, s) ∷ scope) = (x, value_in env s) ∷ scope_in env scope

abbrev pub ScopeFits : Env → SymbolScope → Type 0
ScopeFits env [] = ⊤
ScopeFits env ((x, s) ∷ scope) = Fits env s × ScopeFits env scope

abbrev pub ScopeOlder : ℕ → SymbolScope → Type 0
ScopeOlder n [] = ⊤
ScopeOlder n ((x, s) ∷ scope) = AreOlder n (operands s) × ScopeOlder n scope

-- the scope with the variables of a pattern in front, the pattern's parts from left to right
abbrev mutual
  pub bound : PatternTree → Symbol → SymbolScope → SymbolScope
  bound (NamePattern x) s scope = (x, s) ∷ scope
  bound AnyPattern s scope = scope
  bound (TuplePattern ps) (Tuple ss) scope = all_bound ps ss scope
  bound (TuplePattern ps) _ scope = scope

  pub all_bound : PatternTrees → Symbols → SymbolScope → SymbolScope
  all_bound (pattern_and p ps) (symbol_and s ss) scope = all_bound ps ss (bound p s scope)
  all_bound _ _ scope = scope

-- the parameters of a function, with symbolic values
abbrev pub params_bound : NamedSymbols → SymbolScope → SymbolScope
params_bound no_named_symbols scope = scope
params_bound (named_symbol_and x s ss) scope = params_bound ss ((x, s) ∷ scope)

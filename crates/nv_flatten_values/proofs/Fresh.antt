-- Symbolic values of new variables, and patterns that take symbolic values apart.
use Rattle.std.proofs.Common.{◌≡◌, ℕ, zero, suc, ◌+◌, ◌<◌, ◌≤◌, ◌^◌, ◌==◌, not, Bool, true, false, if◌then◌else◌, List, [], ◌∷◌, ◌++◌, refl, sym, ap, subst, ◌∙◌, length, arith, length-append}
use Rattle.std.proofs.lemmas.Bool.{ne_eqb}
use Rattle.std.proofs.lemmas.List.Elements.{All-nil, All-cons, All-head}
use Rattle.nv_base.specs.declared.term.Atom.TheVariants.{Var}
use Rattle.nv_base.specs.Words.{Env, assigned, assigned_all}
use Rattle.nv_ast.specs.Types.{Ty, WordTy, BoolTy, TupleTy, RecordTy, Tys, no_tys, ty_and, NamedTys, no_named_tys, named_ty_and, words, total_words, total_named_words}
use Rattle.nv_ast.specs.Scope.{bind, bind_all}
use Rattle.nv_ast.specs.Tree.{PatternTree, NamePattern, AnyPattern, TuplePattern, PatternTrees, no_patterns, pattern_and}
use Rattle.nv_meaning.specs.Values.{Value, Values, NamedValues, words_of, all_words, all_named_words, word_values, words_value, matched, all_matched}
use Rattle.nv_meaning.specs.Values as meaning
use Rattle.nv_flatten_values.specs.inner.Code.{variables}
use Rattle.nv_flatten_values.specs.inner.Symbols.{Symbol, Word, Truth, Tuple, Record, Symbols, no_symbols, symbol_and, SymbolScope, operands, all_operands, named_operands, form, forms, named_forms, value_in, values_in, named_values_in, Fits, AllFit, NamedFit, IsOlder, AreOlder, Keeps, fresh, all_fresh, named_fresh, numbers_from, word_symbols, words_symbol, ScopeFits, ScopeOlder, scope_in, vars_of, bound, all_bound}
use Rattle.nv_flatten_values.specs.inner.Soundness.{AreWords, value_ty, value_tys, named_value_tys}
use Rattle.nv_flatten_values.proofs.Keeping.{all-left, all-right, older-left, older-right, keeps-value, keeps-fit}
use Rattle.nv_flatten_values.proofs.Following.{assigned-here}

-- ---- the form of new variables
mutual
  pub fresh-form : (n : ℕ) (t : Ty) → form (fresh n t) ≡ t
  fresh-form n WordTy = refl
  fresh-form n BoolTy = refl
  fresh-form n (TupleTy ts) = ap (λ us. TupleTy us) (fresh-forms n ts)
  fresh-form n (RecordTy ts) = ap (λ us. RecordTy us) (named-fresh-forms n ts)

  pub fresh-forms : (n : ℕ) (ts : Tys) → forms (all_fresh n ts) ≡ ts
  fresh-forms n no_tys = refl
  fresh-forms n (ty_and t ts) = ap (λ u. ty_and u (forms (all_fresh (n + words t) ts))) (fresh-form n t) ∙ ap (ty_and t) (fresh-forms (n + words t) ts)

  pub named-fresh-forms : (n : ℕ) (ts : NamedTys) → named_forms (named_fresh n ts) ≡ ts
  named-fresh-forms n no_named_tys = refl
  named-fresh-forms n (named_ty_and x t ts) = ap (λ u. named_ty_and x u (named_forms (named_fresh (n + words t) ts))) (fresh-form n t) ∙ ap (named_ty_and x t) (named-fresh-forms (n + words t) ts)

-- ---- their numbers
pub numbers-append : (n j k : ℕ) → numbers_from n (j + k) ≡ numbers_from n j ++ numbers_from (n + j) k
numbers-append n zero k =
    let e : zero + k ≡ k = omega arith in
    let f : n ≡ n + zero = omega arith in
    ap (numbers_from n) e ∙ ap (λ m. numbers_from m k) f
numbers-append n (suc j) k =
    let e : suc j + k ≡ suc (j + k) = omega arith in
    let f : suc n + j ≡ n + suc j = omega arith in
    ap (numbers_from n) e ∙ ap (λ l. n ∷ l) (numbers-append (suc n) j k) ∙ ap (λ m. n ∷ (numbers_from (suc n) j ++ numbers_from m k)) f

pub numbers-length : (n k : ℕ) → length (numbers_from n k) ≡ k
numbers-length n zero = refl
numbers-length n (suc k) = ap suc (numbers-length (suc n) k)

pub variables-append : (xs ys : List ℕ) → variables (xs ++ ys) ≡ variables xs ++ variables ys
variables-append [] ys = refl
variables-append (x ∷ xs) ys = ap (λ l. Var x ∷ l) (variables-append xs ys)

-- the numbers of a first part, and those of the rest
numbers-parts : (n j k : ℕ) → variables (numbers_from n j) ++ variables (numbers_from (n + j) k) ≡ variables (numbers_from n (j + k))
numbers-parts n j k = sym (ap variables (numbers-append n j k) ∙ variables-append (numbers_from n j) (numbers_from (n + j) k))

mutual
  pub fresh-operands : (n : ℕ) (t : Ty) → operands (fresh n t) ≡ variables (numbers_from n (words t))
  fresh-operands n WordTy = refl
  fresh-operands n BoolTy = refl
  fresh-operands n (TupleTy ts) = all-fresh-operands n ts
  fresh-operands n (RecordTy ts) = named-fresh-operands n ts

  pub all-fresh-operands : (n : ℕ) (ts : Tys) → all_operands (all_fresh n ts) ≡ variables (numbers_from n (total_words ts))
  all-fresh-operands n no_tys = refl
  all-fresh-operands n (ty_and t ts) =
      ap (λ l. l ++ all_operands (all_fresh (n + words t) ts)) (fresh-operands n t) ∙ ap (λ l. variables (numbers_from n (words t)) ++ l) (all-fresh-operands (n + words t) ts) ∙ numbers-parts n (words t) (total_words ts)

  pub named-fresh-operands : (n : ℕ) (ts : NamedTys) → named_operands (named_fresh n ts) ≡ variables (numbers_from n (total_named_words ts))
  named-fresh-operands n no_named_tys = refl
  named-fresh-operands n (named_ty_and x t ts) =
      ap (λ l. l ++ named_operands (named_fresh (n + words t) ts)) (fresh-operands n t) ∙ ap (λ l. variables (numbers_from n (words t)) ++ l) (named-fresh-operands (n + words t) ts) ∙ numbers-parts n (words t) (total_named_words ts)

pub numbers-older : (m n k : ℕ) → n + k ≤ m → AreOlder m (variables (numbers_from n k))
numbers-older m n zero h = All-nil (IsOlder m)
numbers-older m n (suc k) h = let first : n < m = omega arith in All-cons (IsOlder m) (Var n) (variables (numbers_from (suc n) k)) first (numbers-older m (suc n) k (omega arith))

pub fresh-older : (n : ℕ) (t : Ty) → AreOlder (n + words t) (operands (fresh n t))
fresh-older n t = subst (λ l. AreOlder (n + words t) l) (sym (fresh-operands n t)) (numbers-older (n + words t) n (words t) (omega arith))

pub all-fresh-older : (n : ℕ) (ts : Tys) → AreOlder (n + total_words ts) (all_operands (all_fresh n ts))
all-fresh-older n ts = subst (λ l. AreOlder (n + total_words ts) l) (sym (all-fresh-operands n ts)) (numbers-older (n + total_words ts) n (total_words ts) (omega arith))

pub named-fresh-older : (n : ℕ) (ts : NamedTys) → AreOlder (n + total_named_words ts) (named_operands (named_fresh n ts))
named-fresh-older n ts = subst (λ l. AreOlder (n + total_named_words ts) l) (sym (named-fresh-operands n ts)) (numbers-older (n + total_named_words ts) n (total_named_words ts) (omega arith))

-- ---- what new variables are assigned

pub assigned-other : (env : Env) (n w x : ℕ) → x < n → assigned env n w x ≡ env x
assigned-other env n w x h = ap (λ b. if b then w else env x) (ne_eqb x n (λ e. omega arith))

-- variables from a number on, for those before an earlier one
numbers-keep-before : (m n k : ℕ) (env : Env) (ws : List ℕ) → m ≤ n → Keeps m env (assigned_all env (numbers_from n k) ws)
numbers-keep-before m n zero env ws h = λ x below. refl
numbers-keep-before m n (suc k) env [] h = λ x below. numbers-keep-before m (suc n) k (assigned env n 0) [] (omega arith) x below ∙ assigned-other env n 0 x (omega arith)
numbers-keep-before m n (suc k) env (w ∷ ws) h = λ x below. numbers-keep-before m (suc n) k (assigned env n w) ws (omega arith) x below ∙ assigned-other env n w x (omega arith)

-- new variables keep older ones
pub numbers-keep : (n k : ℕ) (env : Env) (ws : List ℕ) → Keeps n env (assigned_all env (numbers_from n k) ws)
numbers-keep n k env ws = numbers-keep-before n n k env ws (omega arith)

-- some variables and then others
pub assigned-append : (env : Env) (xs ys ws vs : List ℕ) → length ws ≡ length xs → assigned_all env (xs ++ ys) (ws ++ vs) ≡ assigned_all (assigned_all env xs ws) ys vs
assigned-append env [] ys [] vs h = refl
assigned-append env [] ys (w ∷ ws) vs h = cc
assigned-append env (x ∷ xs) ys [] vs h = cc
assigned-append env (x ∷ xs) ys (w ∷ ws) vs h = assigned-append (assigned env x w) xs ys ws vs (omega arith)

numbers-assigned : (n j k : ℕ) (env : Env) (ws vs : List ℕ) → length ws ≡ j → assigned_all env (numbers_from n (j + k)) (ws ++ vs) ≡ assigned_all (assigned_all env (numbers_from n j) ws) (numbers_from (n + j) k) vs
numbers-assigned n j k env ws vs h = ap (λ l. assigned_all env l (ws ++ vs)) (numbers-append n j k) ∙ assigned-append env (numbers_from n j) (numbers_from (n + j) k) ws vs (h ∙ sym (numbers-length n j))

-- ---- a value has as many words as its type
mutual
  pub value-words : (v : Value) → length (words_of v) ≡ words (value_ty v)
  value-words (meaning.Word w) = refl
  value-words (meaning.Truth b) = refl
  value-words (meaning.Tuple vs) = values-words vs
  value-words (meaning.Record vs) = named-values-words vs

  pub values-words : (vs : Values) → length (all_words vs) ≡ total_words (value_tys vs)
  values-words meaning.no_values = refl
  values-words (meaning.value_and v vs) = length-append (words_of v) (all_words vs) ∙ ap (λ n. n + length (all_words vs)) (value-words v) ∙ ap (λ n. words (value_ty v) + n) (values-words vs)

  pub named-values-words : (vs : NamedValues) → length (all_named_words vs) ≡ total_named_words (named_value_tys vs)
  named-values-words meaning.no_named_values = refl
  named-values-words (meaning.named_value_and x v vs) = length-append (words_of v) (all_named_words vs) ∙ ap (λ n. n + length (all_named_words vs)) (value-words v) ∙ ap (λ n. words (value_ty v) + n) (named-values-words vs)

-- ---- new variables that have a value's words stand for the value
truth-again : (b : Bool) → not ((if b then 1 else 0) == 0) ≡ b
truth-again true = refl
truth-again false = refl

truth-small : (b : Bool) → (if b then 1 else 0) ≤ 1
truth-small true = omega arith
truth-small false = omega arith

-- the variables of a first value, which those of the rest keep
first-value : (n k : ℕ) (env : Env) (v : Value) (vs : List ℕ) → value_in (assigned_all env (numbers_from n (words (value_ty v))) (words_of v)) (fresh n (value_ty v)) ≡ v
    → value_in (assigned_all (assigned_all env (numbers_from n (words (value_ty v))) (words_of v)) (numbers_from (n + words (value_ty v)) k) vs) (fresh n (value_ty v)) ≡ v
first-value n k env v vs h =
    let before = assigned_all env (numbers_from n (words (value_ty v))) (words_of v) in
    keeps-value (n + words (value_ty v)) before (assigned_all before (numbers_from (n + words (value_ty v)) k) vs) (fresh n (value_ty v)) (numbers-keep (n + words (value_ty v)) k before vs) (fresh-older n (value_ty v)) ∙ h

mutual
  pub fresh-value : (n : ℕ) (env : Env) (v : Value) → value_in (assigned_all env (numbers_from n (words (value_ty v))) (words_of v)) (fresh n (value_ty v)) ≡ v
  fresh-value n env (meaning.Word w) = ap (λ u. meaning.Word u) (assigned-here env n w)
  fresh-value n env (meaning.Truth b) = ap (λ u. meaning.Truth (not (u == 0))) (assigned-here env n (if b then 1 else 0)) ∙ ap (λ u. meaning.Truth u) (truth-again b)
  fresh-value n env (meaning.Tuple vs) = ap (λ us. meaning.Tuple us) (fresh-values n env vs)
  fresh-value n env (meaning.Record vs) = ap (λ us. meaning.Record us) (fresh-named-values n env vs)

  pub fresh-values : (n : ℕ) (env : Env) (vs : Values) → values_in (assigned_all env (numbers_from n (total_words (value_tys vs))) (all_words vs)) (all_fresh n (value_tys vs)) ≡ vs
  fresh-values n env meaning.no_values = refl
  fresh-values n env (meaning.value_and v vs) =
      let m = n + words (value_ty v) in
      let before = assigned_all env (numbers_from n (words (value_ty v))) (words_of v) in
      let behind = assigned_all before (numbers_from m (total_words (value_tys vs))) (all_words vs) in
      ap (λ e. meaning.value_and (value_in e (fresh n (value_ty v))) (values_in e (all_fresh m (value_tys vs)))) (numbers-assigned n (words (value_ty v)) (total_words (value_tys vs)) env (words_of v) (all_words vs) (value-words v))
      ∙ ap (λ u. meaning.value_and u (values_in behind (all_fresh m (value_tys vs)))) (first-value n (total_words (value_tys vs)) env v (all_words vs) (fresh-value n env v))
      ∙ ap (meaning.value_and v) (fresh-values m before vs)

  pub fresh-named-values : (n : ℕ) (env : Env) (vs : NamedValues) → named_values_in (assigned_all env (numbers_from n (total_named_words (named_value_tys vs))) (all_named_words vs)) (named_fresh n (named_value_tys vs)) ≡ vs
  fresh-named-values n env meaning.no_named_values = refl
  fresh-named-values n env (meaning.named_value_and x v vs) =
      let m = n + words (value_ty v) in
      let before = assigned_all env (numbers_from n (words (value_ty v))) (words_of v) in
      let behind = assigned_all before (numbers_from m (total_named_words (named_value_tys vs))) (all_named_words vs) in
      ap (λ e. meaning.named_value_and x (value_in e (fresh n (value_ty v))) (named_values_in e (named_fresh m (named_value_tys vs)))) (numbers-assigned n (words (value_ty v)) (total_named_words (named_value_tys vs)) env (words_of v) (all_named_words vs) (value-words v))
      ∙ ap (λ u. meaning.named_value_and x u (named_values_in behind (named_fresh m (named_value_tys vs)))) (first-value n (total_named_words (named_value_tys vs)) env v (all_named_words vs) (fresh-value n env v))
      ∙ ap (meaning.named_value_and x v) (fresh-named-values m before vs)

first-fits : (n k : ℕ) (env : Env) (v : Value) (vs : List ℕ) → Fits (assigned_all env (numbers_from n (words (value_ty v))) (words_of v)) (fresh n (value_ty v))
    → Fits (assigned_all (assigned_all env (numbers_from n (words (value_ty v))) (words_of v)) (numbers_from (n + words (value_ty v)) k) vs) (fresh n (value_ty v))
first-fits n k env v vs h =
    let before = assigned_all env (numbers_from n (words (value_ty v))) (words_of v) in
    keeps-fit (n + words (value_ty v)) before (assigned_all before (numbers_from (n + words (value_ty v)) k) vs) (fresh n (value_ty v)) (numbers-keep (n + words (value_ty v)) k before vs) (fresh-older n (value_ty v)) h

mutual
  pub fresh-fits : (n : ℕ) (env : Env) (v : Value) → AreWords (words_of v) → Fits (assigned_all env (numbers_from n (words (value_ty v))) (words_of v)) (fresh n (value_ty v))
  fresh-fits n env (meaning.Word w) h = subst (λ u. u < 2 ^ 32) (sym (assigned-here env n w)) (All-head (λ u. u < 2 ^ 32) w [] h)
  fresh-fits n env (meaning.Truth b) h = subst (λ u. u ≤ 1) (sym (assigned-here env n (if b then 1 else 0))) (truth-small b)
  fresh-fits n env (meaning.Tuple vs) h = all-fresh-fit n env vs h
  fresh-fits n env (meaning.Record vs) h = named-fresh-fit n env vs h

  pub all-fresh-fit : (n : ℕ) (env : Env) (vs : Values) → AreWords (all_words vs) → AllFit (assigned_all env (numbers_from n (total_words (value_tys vs))) (all_words vs)) (all_fresh n (value_tys vs))
  all-fresh-fit n env meaning.no_values h = tt
  all-fresh-fit n env (meaning.value_and v vs) h =
      let m = n + words (value_ty v) in
      let before = assigned_all env (numbers_from n (words (value_ty v))) (words_of v) in
      subst (λ e. Fits e (fresh n (value_ty v)) × AllFit e (all_fresh m (value_tys vs))) (sym (numbers-assigned n (words (value_ty v)) (total_words (value_tys vs)) env (words_of v) (all_words vs) (value-words v)))
      (first-fits n (total_words (value_tys vs)) env v (all_words vs) (fresh-fits n env v (all-left (λ u. u < 2 ^ 32) (words_of v) (all_words vs) h)), all-fresh-fit m before vs (all-right (λ u. u < 2 ^ 32) (words_of v) (all_words vs) h))

  pub named-fresh-fit : (n : ℕ) (env : Env) (vs : NamedValues) → AreWords (all_named_words vs) → NamedFit (assigned_all env (numbers_from n (total_named_words (named_value_tys vs))) (all_named_words vs)) (named_fresh n (named_value_tys vs))
  named-fresh-fit n env meaning.no_named_values h = tt
  named-fresh-fit n env (meaning.named_value_and x v vs) h =
      let m = n + words (value_ty v) in
      let before = assigned_all env (numbers_from n (words (value_ty v))) (words_of v) in
      subst (λ e. Fits e (fresh n (value_ty v)) × NamedFit e (named_fresh m (named_value_tys vs))) (sym (numbers-assigned n (words (value_ty v)) (total_named_words (named_value_tys vs)) env (words_of v) (all_named_words vs) (value-words v)))
      (first-fits n (total_named_words (named_value_tys vs)) env v (all_named_words vs) (fresh-fits n env v (all-left (λ u. u < 2 ^ 32) (words_of v) (all_named_words vs) h)), named-fresh-fit m before vs (all-right (λ u. u < 2 ^ 32) (words_of v) (all_named_words vs) h))

-- ---- the words of a memory

-- the first of new variables
first-number : (n k : ℕ) (env : Env) (w : ℕ) (ws : List ℕ) → assigned_all (assigned env n w) (numbers_from (suc n) k) ws n ≡ w
first-number n k env w ws = numbers-keep (suc n) k (assigned env n w) ws n (omega arith) ∙ assigned-here env n w

word-values-read : (n : ℕ) (env : Env) (ws : List ℕ) → values_in (assigned_all env (numbers_from n (length ws)) ws) (word_symbols (variables (numbers_from n (length ws)))) ≡ word_values ws
word-values-read n env [] = refl
word-values-read n env (w ∷ ws) =
    ap (λ u. meaning.value_and (meaning.Word u) (values_in (assigned_all (assigned env n w) (numbers_from (suc n) (length ws)) ws) (word_symbols (variables (numbers_from (suc n) (length ws)))))) (first-number n (length ws) env w ws)
    ∙ ap (meaning.value_and (meaning.Word w)) (word-values-read (suc n) (assigned env n w) ws)

pub words-read : (n : ℕ) (env : Env) (ws : List ℕ) → value_in (assigned_all env (numbers_from n (length ws)) ws) (words_symbol (variables (numbers_from n (length ws)))) ≡ words_value ws
words-read n env [] = refl
words-read n env (w ∷ []) = ap (λ u. meaning.Word u) (assigned-here env n w)
words-read n env (w ∷ v ∷ ws) = ap (λ us. meaning.Tuple us) (word-values-read n env (w ∷ v ∷ ws))

word-values-fit : (n : ℕ) (env : Env) (ws : List ℕ) → AreWords ws → AllFit (assigned_all env (numbers_from n (length ws)) ws) (word_symbols (variables (numbers_from n (length ws))))
word-values-fit n env [] h = tt
word-values-fit n env (w ∷ ws) h =
    (subst (λ u. u < 2 ^ 32) (sym (first-number n (length ws) env w ws)) (All-head (λ u. u < 2 ^ 32) w ws h), word-values-fit (suc n) (assigned env n w) ws (all-right (λ u. u < 2 ^ 32) (w ∷ []) ws h))

pub words-read-fit : (n : ℕ) (env : Env) (ws : List ℕ) → AreWords ws → Fits (assigned_all env (numbers_from n (length ws)) ws) (words_symbol (variables (numbers_from n (length ws))))
words-read-fit n env [] h = tt
words-read-fit n env (w ∷ []) h = subst (λ u. u < 2 ^ 32) (sym (assigned-here env n w)) (All-head (λ u. u < 2 ^ 32) w [] h)
words-read-fit n env (w ∷ v ∷ ws) h = word-values-fit n env (w ∷ v ∷ ws) h

-- ---- patterns
mutual
  pub bound-values : (env : Env) (p : PatternTree) (s : Symbol) (scope : SymbolScope) → scope_in env (bound p s scope) ≡ matched p (value_in env s) (scope_in env scope)
  bound-values env (NamePattern x) s scope = refl
  bound-values env AnyPattern s scope = refl
  bound-values env (TuplePattern ps) (Word a) scope = refl
  bound-values env (TuplePattern ps) (Truth a) scope = refl
  bound-values env (TuplePattern ps) (Tuple ss) scope = all-bound-values env ps ss scope
  bound-values env (TuplePattern ps) (Record ss) scope = refl

  pub all-bound-values : (env : Env) (ps : PatternTrees) (ss : Symbols) (scope : SymbolScope) → scope_in env (all_bound ps ss scope) ≡ all_matched ps (values_in env ss) (scope_in env scope)
  all-bound-values env no_patterns no_symbols scope = refl
  all-bound-values env no_patterns (symbol_and s ss) scope = refl
  all-bound-values env (pattern_and p ps) no_symbols scope = refl
  all-bound-values env (pattern_and p ps) (symbol_and s ss) scope = all-bound-values env ps ss (bound p s scope) ∙ ap (all_matched ps (values_in env ss)) (bound-values env p s scope)

mutual
  pub bound-types : (p : PatternTree) (s : Symbol) (scope : SymbolScope) → vars_of (bound p s scope) ≡ bind p (form s) (vars_of scope)
  bound-types (NamePattern x) s scope = refl
  bound-types AnyPattern s scope = refl
  bound-types (TuplePattern ps) (Word a) scope = refl
  bound-types (TuplePattern ps) (Truth a) scope = refl
  bound-types (TuplePattern ps) (Tuple ss) scope = all-bound-types ps ss scope
  bound-types (TuplePattern ps) (Record ss) scope = refl

  pub all-bound-types : (ps : PatternTrees) (ss : Symbols) (scope : SymbolScope) → vars_of (all_bound ps ss scope) ≡ bind_all ps (forms ss) (vars_of scope)
  all-bound-types no_patterns no_symbols scope = refl
  all-bound-types no_patterns (symbol_and s ss) scope = refl
  all-bound-types (pattern_and p ps) no_symbols scope = refl
  all-bound-types (pattern_and p ps) (symbol_and s ss) scope = all-bound-types ps ss (bound p s scope) ∙ ap (bind_all ps (forms ss)) (bound-types p s scope)

mutual
  pub bound-fits : (env : Env) (p : PatternTree) (s : Symbol) (scope : SymbolScope) → Fits env s → ScopeFits env scope → ScopeFits env (bound p s scope)
  bound-fits env (NamePattern x) s scope f g = (f, g)
  bound-fits env AnyPattern s scope f g = g
  bound-fits env (TuplePattern ps) (Word a) scope f g = g
  bound-fits env (TuplePattern ps) (Truth a) scope f g = g
  bound-fits env (TuplePattern ps) (Tuple ss) scope f g = all-bound-fit env ps ss scope f g
  bound-fits env (TuplePattern ps) (Record ss) scope f g = g

  pub all-bound-fit : (env : Env) (ps : PatternTrees) (ss : Symbols) (scope : SymbolScope) → AllFit env ss → ScopeFits env scope → ScopeFits env (all_bound ps ss scope)
  all-bound-fit env no_patterns no_symbols scope f g = g
  all-bound-fit env no_patterns (symbol_and s ss) scope f g = g
  all-bound-fit env (pattern_and p ps) no_symbols scope f g = g
  all-bound-fit env (pattern_and p ps) (symbol_and s ss) scope f g = all-bound-fit env ps ss (bound p s scope) f.1 (bound-fits env p s scope f.0 g)

mutual
  pub bound-older : (n : ℕ) (p : PatternTree) (s : Symbol) (scope : SymbolScope) → AreOlder n (operands s) → ScopeOlder n scope → ScopeOlder n (bound p s scope)
  bound-older n (NamePattern x) s scope o h = (o, h)
  bound-older n AnyPattern s scope o h = h
  bound-older n (TuplePattern ps) (Word a) scope o h = h
  bound-older n (TuplePattern ps) (Truth a) scope o h = h
  bound-older n (TuplePattern ps) (Tuple ss) scope o h = all-bound-older n ps ss scope o h
  bound-older n (TuplePattern ps) (Record ss) scope o h = h

  pub all-bound-older : (n : ℕ) (ps : PatternTrees) (ss : Symbols) (scope : SymbolScope) → AreOlder n (all_operands ss) → ScopeOlder n scope → ScopeOlder n (all_bound ps ss scope)
  all-bound-older n no_patterns no_symbols scope o h = h
  all-bound-older n no_patterns (symbol_and s ss) scope o h = h
  all-bound-older n (pattern_and p ps) no_symbols scope o h = h
  all-bound-older n (pattern_and p ps) (symbol_and s ss) scope o h =
      all-bound-older n ps ss (bound p s scope) (older-right n (operands s) (all_operands ss) o) (bound-older n p s scope (older-left n (operands s) (all_operands ss) o) h)

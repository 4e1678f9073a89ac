-- A function is entered with values of its parameters' types.
use Rattle.std.proofs.Common.{◌≡◌, ◌∙◌, refl, sym, ap, ℕ, zero, suc, ◌+◌, ◌≤◌, true, false, ◌&&◌, List, [], ◌∷◌, ◌++◌, length, take, drop, bytes_eq, arith, slice_index}
use Rattle.nv_base.specs.Words.{Env}
use Rattle.nv_ast.specs.Outline.{Layouts}
use Rattle.nv_ast.specs.Tree.{NamedTypes, no_named_types, named_type_and}
use Rattle.nv_ast.specs.Types.{Ty, WordTy, BoolTy, TupleTy, RecordTy, Tys, no_tys, ty_and, NamedTys, no_named_tys, named_ty_and, type_of, named_types_of, words, total_words, total_named_words, has_bool, some_bool, some_named_bool, same_type, same_types, same_named_types}
use Rattle.nv_ast.specs.Scope.{plain_tys, param_vars}
use Rattle.nv_meaning.specs.Values.{Value, Word, Truth, Tuple, Record, Values, no_values, value_and, NamedValues, no_named_values, named_value_and, words_of, all_words, all_named_words, value_from, values_from, named_values_from, Scope}
use Rattle.nv_meaning.specs.Meaning.{entered, named_scope}
use Rattle.nv_flatten_values.specs.inner.Symbols.{SymbolScope, operands, values_in, AllFit, fresh, all_fresh, named_fresh, ScopeFits, ScopeOlder, scope_in, vars_of, params_bound}
use Rattle.nv_flatten_values.specs.inner.Soundness.{AreWords, ScopeWords, value_ty, value_tys, named_value_tys, scope_tys}
use Rattle.nv_flatten_values.proofs.Keeping.{older-later}
use Rattle.nv_flatten_values.proofs.Fresh.{fresh-form, fresh-older}
use Rattle.std.proofs.lemmas.List.{length-append}
use Rattle.std.proofs.lemmas.Bool.{and_parts, or_parts}
use Rattle.nv_flatten_values.proofs.NoFaults.{is-name}

-- ---- types are the same where the test says so

mutual
  pub type-same : (t u : Ty) → same_type t u ≡ true → t ≡ u
  type-same WordTy WordTy e = refl
  type-same WordTy BoolTy e = cc
  type-same WordTy (TupleTy us) e = cc
  type-same WordTy (RecordTy us) e = cc
  type-same BoolTy WordTy e = cc
  type-same BoolTy BoolTy e = refl
  type-same BoolTy (TupleTy us) e = cc
  type-same BoolTy (RecordTy us) e = cc
  type-same (TupleTy ts) WordTy e = cc
  type-same (TupleTy ts) BoolTy e = cc
  type-same (TupleTy ts) (TupleTy us) e = ap TupleTy (types-same ts us e)
  type-same (TupleTy ts) (RecordTy us) e = cc
  type-same (RecordTy ts) WordTy e = cc
  type-same (RecordTy ts) BoolTy e = cc
  type-same (RecordTy ts) (TupleTy us) e = cc
  type-same (RecordTy ts) (RecordTy us) e = ap RecordTy (named-types-same ts us e)

  pub types-same : (ts us : Tys) → same_types ts us ≡ true → ts ≡ us
  types-same no_tys no_tys e = refl
  types-same no_tys (ty_and u us) e = cc
  types-same (ty_and t ts) no_tys e = cc
  types-same (ty_and t ts) (ty_and u us) e = ap (λ v. ty_and v ts) (type-same t u ((and_parts (same_type t u) (same_types ts us) e).0)) ∙ ap (ty_and u) (types-same ts us ((and_parts (same_type t u) (same_types ts us) e).1))

  pub named-types-same : (ts us : NamedTys) → same_named_types ts us ≡ true → ts ≡ us
  named-types-same no_named_tys no_named_tys e = refl
  named-types-same no_named_tys (named_ty_and y u us) e = cc
  named-types-same (named_ty_and x t ts) no_named_tys e = cc
  named-types-same (named_ty_and x t ts) (named_ty_and y u us) e =
      let rest : (same_type t u && same_named_types ts us) ≡ true = (and_parts (bytes_eq x y) (same_type t u && same_named_types ts us) e).1 in
      ap (λ n. named_ty_and n t ts) (is-name x y ((and_parts (bytes_eq x y) (same_type t u && same_named_types ts us) e).0))
      ∙ ap (λ v. named_ty_and y v ts) (type-same t u ((and_parts (same_type t u) (same_named_types ts us) rest).0))
      ∙ ap (named_ty_and y u) (named-types-same ts us ((and_parts (same_type t u) (same_named_types ts us) rest).1))

-- ---- words

mutual
  pub word-count : (v : Value) → length (words_of v) ≡ words (value_ty v)
  word-count (Word w) = refl
  word-count (Truth b) = refl
  word-count (Tuple vs) = all-word-count vs
  word-count (Record fs) = named-word-count fs

  pub all-word-count : (vs : Values) → length (all_words vs) ≡ total_words (value_tys vs)
  all-word-count no_values = refl
  all-word-count (value_and v vs) = let a = length-append (words_of v) (all_words vs) in let b = word-count v in let c = all-word-count vs in omega arith

  pub named-word-count : (fs : NamedValues) → length (all_named_words fs) ≡ total_named_words (named_value_tys fs)
  named-word-count no_named_values = refl
  named-word-count (named_value_and x v fs) = let a = length-append (words_of v) (all_named_words fs) in let b = word-count v in let c = named-word-count fs in omega arith

pub words-front : (xs ys : List ℕ) → AreWords (xs ++ ys) → AreWords xs
words-front [] ys a i d h = absurd (omega arith)
words-front (x ∷ xs) ys a zero d h = a 0 d (omega arith)
words-front (x ∷ xs) ys a (suc i) d h = words-front xs ys (λ j e k. a (suc j) e (omega arith)) i d (omega arith)

pub words-rest : (xs ys : List ℕ) → AreWords (xs ++ ys) → AreWords ys
words-rest [] ys a = a
words-rest (x ∷ xs) ys a = words-rest xs ys (λ j e k. a (suc j) e (omega arith))

-- ---- the source's scope at the start of a body
pub entered-types : (k : Layouts) (ps : NamedTypes) (vs : Values) (scope : Scope) → value_tys vs ≡ plain_tys (named_types_of k ps) → scope_tys (entered ps vs scope) ≡ param_vars (named_types_of k ps) (scope_tys scope)
entered-types k no_named_types no_values scope e = refl
entered-types k no_named_types (value_and v vs) scope e = cc
entered-types k (named_type_and x t ts) no_values scope e = cc
entered-types k (named_type_and x t ts) (value_and v vs) scope e =
    let first : value_ty v ≡ type_of k t = cc in
    entered-types k ts vs ((x, v) ∷ scope) (cc) ∙ ap (λ u. param_vars (named_types_of k ts) ((x, u) ∷ scope_tys scope)) first

pub entered-words : (ps : NamedTypes) (vs : Values) (scope : Scope) → AreWords (all_words vs) → ScopeWords scope → ScopeWords (entered ps vs scope)
entered-words no_named_types no_values scope a h = h
entered-words no_named_types (value_and v vs) scope a h = h
entered-words (named_type_and x t ts) no_values scope a h = h
entered-words (named_type_and x t ts) (value_and v vs) scope a h = entered-words ts vs ((x, v) ∷ scope) (words-rest (words_of v) (all_words vs) a) (words-front (words_of v) (all_words vs) a, h)

-- ---- the symbolic scope
pub params-values : (env : Env) (n : ℕ) (k : Layouts) (ps : NamedTypes) (scope : SymbolScope) → scope_in env (params_bound (named_fresh n (named_types_of k ps)) scope) ≡ entered ps (values_in env (all_fresh n (plain_tys (named_types_of k ps)))) (scope_in env scope)
params-values env n k no_named_types scope = refl
params-values env n k (named_type_and x t ts) scope = params-values env (n + words (type_of k t)) k ts ((x, fresh n (type_of k t)) ∷ scope)

pub params-types : (n : ℕ) (ts : NamedTys) (scope : SymbolScope) → vars_of (params_bound (named_fresh n ts) scope) ≡ param_vars ts (vars_of scope)
params-types n no_named_tys scope = refl
params-types n (named_ty_and x t ts) scope = params-types (n + words t) ts ((x, fresh n t) ∷ scope) ∙ ap (λ u. param_vars ts ((x, u) ∷ vars_of scope)) (fresh-form n t)

pub params-fit : (env : Env) (n : ℕ) (ts : NamedTys) (scope : SymbolScope) → AllFit env (all_fresh n (plain_tys ts)) → ScopeFits env scope → ScopeFits env (params_bound (named_fresh n ts) scope)
params-fit env n no_named_tys scope a h = h
params-fit env n (named_ty_and x t ts) scope a h = params-fit env (n + words t) ts ((x, fresh n t) ∷ scope) a.1 (a.0, h)

pub params-older : (m n : ℕ) (ts : NamedTys) (scope : SymbolScope) → n + total_named_words ts ≤ m → ScopeOlder m scope → ScopeOlder m (params_bound (named_fresh n ts) scope)
params-older m n no_named_tys scope l h = h
params-older m n (named_ty_and x t ts) scope l h =
    let e : total_named_words (named_ty_and x t ts) ≡ words t + total_named_words ts = refl in
    params-older m (n + words t) ts ((x, fresh n t) ∷ scope) (omega arith) (older-later (n + words t) m (operands (fresh n t)) (omega arith) (fresh-older n t), h)

-- ---- main's values out of the argument words
pub arguments-scope : (k : Layouts) (ps : NamedTypes) (args : List ℕ) (scope : Scope) → named_scope (named_values_from (named_types_of k ps) args) scope ≡ entered ps (values_from (plain_tys (named_types_of k ps)) args) scope
arguments-scope k no_named_types args scope = refl
arguments-scope k (named_type_and x t ts) args scope = arguments-scope k ts (drop (words (type_of k t)) args) ((x, value_from (type_of k t) args) ∷ scope)

mutual
  pub from-type : (t : Ty) (ws : List ℕ) → value_ty (value_from t ws) ≡ t
  from-type WordTy ws = refl
  from-type BoolTy ws = refl
  from-type (TupleTy ts) ws = ap TupleTy (from-types ts ws)
  from-type (RecordTy ts) ws = ap RecordTy (from-named-types ts ws)

  pub from-types : (ts : Tys) (ws : List ℕ) → value_tys (values_from ts ws) ≡ ts
  from-types no_tys ws = refl
  from-types (ty_and t ts) ws = ap (λ u. ty_and u (value_tys (values_from ts (drop (words t) ws)))) (from-type t ws) ∙ ap (ty_and t) (from-types ts (drop (words t) ws))

  pub from-named-types : (ts : NamedTys) (ws : List ℕ) → named_value_tys (named_values_from ts ws) ≡ ts
  from-named-types no_named_tys ws = refl
  from-named-types (named_ty_and x t ts) ws = ap (λ u. named_ty_and x u (named_value_tys (named_values_from ts (drop (words t) ws)))) (from-type t ws) ∙ ap (named_ty_and x t) (from-named-types ts (drop (words t) ws))

-- some words, and then those after them
take-empty : (k : ℕ) (ws : List ℕ) → ws ≡ [] → take k ws ≡ []
take-empty zero ws e = refl
take-empty (suc k) [] e = refl
take-empty (suc k) (w ∷ ws) e = cc

take-sum : (m n : ℕ) (ws : List ℕ) → take m ws ++ take n (drop m ws) ≡ take (m + n) ws
take-sum zero n ws = let e : n ≡ 0 + n = omega arith in ap (λ k. take k ws) e
take-sum (suc m) n [] = take-empty n [] refl ∙ sym (take-empty (suc m + n) [] refl)
take-sum (suc m) n (w ∷ ws) = let e : suc m + n ≡ suc (m + n) = omega arith in ap (λ l. w ∷ l) (take-sum m n ws) ∙ sym (ap (λ k. take k (w ∷ ws)) e)

short : (m n : ℕ) (ws : List ℕ) → m + n ≤ length ws → n ≤ length (drop m ws)
short zero n ws h = omega arith
short (suc m) n [] h = absurd (omega arith)
short (suc m) n (w ∷ ws) h = short m n ws (omega arith)

first-word : (ws : List ℕ) → 1 ≤ length ws → slice_index ws 0 ∷ [] ≡ take 1 ws
first-word [] h = absurd (omega arith)
first-word (w ∷ ws) h = refl

mutual
  pub from-words : (t : Ty) (ws : List ℕ) → has_bool t ≡ false → words t ≤ length ws → words_of (value_from t ws) ≡ take (words t) ws
  from-words WordTy ws b h = first-word ws h
  from-words BoolTy ws b h = cc
  from-words (TupleTy ts) ws b h = all-from-words ts ws b h
  from-words (RecordTy ts) ws b h = named-from-words ts ws b h

  pub all-from-words : (ts : Tys) (ws : List ℕ) → some_bool ts ≡ false → total_words ts ≤ length ws → all_words (values_from ts ws) ≡ take (total_words ts) ws
  all-from-words no_tys ws b h = refl
  all-from-words (ty_and t ts) ws b h =
      let e : total_words (ty_and t ts) ≡ words t + total_words ts = refl in
      ap (λ l. l ++ all_words (values_from ts (drop (words t) ws))) (from-words t ws ((or_parts (has_bool t) (some_bool ts) b).0) (omega arith))
      ∙ ap (λ l. take (words t) ws ++ l) (all-from-words ts (drop (words t) ws) ((or_parts (has_bool t) (some_bool ts) b).1) (short (words t) (total_words ts) ws h))
      ∙ take-sum (words t) (total_words ts) ws

  pub named-from-words : (ts : NamedTys) (ws : List ℕ) → some_named_bool ts ≡ false → total_named_words ts ≤ length ws → all_named_words (named_values_from ts ws) ≡ take (total_named_words ts) ws
  named-from-words no_named_tys ws b h = refl
  named-from-words (named_ty_and x t ts) ws b h =
      let e : total_named_words (named_ty_and x t ts) ≡ words t + total_named_words ts = refl in
      ap (λ l. l ++ all_named_words (named_values_from ts (drop (words t) ws))) (from-words t ws ((or_parts (has_bool t) (some_named_bool ts) b).0) (omega arith))
      ∙ ap (λ l. take (words t) ws ++ l) (named-from-words ts (drop (words t) ws) ((or_parts (has_bool t) (some_named_bool ts) b).1) (short (words t) (total_named_words ts) ws h))
      ∙ take-sum (words t) (total_named_words ts) ws

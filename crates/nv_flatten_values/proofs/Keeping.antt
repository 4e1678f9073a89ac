-- Assignments that keep older variables, and what symbolic values then stand for.
use Rattle.std.proofs.Common.{◌≡◌, ℕ, zero, suc, ◌+◌, ◌<◌, ◌≤◌, ◌^◌, ◌==◌, not, Bool, true, false, if◌then◌else◌, List, [], ◌∷◌, ◌++◌, All, refl, sym, ap, subst, ◌∙◌, length, arith, append_assoc, append-nil, length-append, get_or-append-add}
use Rattle.std.proofs.lemmas.List.{get_or_append_left}
use Rattle.std.proofs.lemmas.List.Elements.{All-nil, All-cons, All-head, All-weaker, All-append}
use Rattle.nv_base.specs.declared.term.Atom.{Atom}
use Rattle.nv_base.specs.declared.term.Atom.TheVariants.{Var, Lit}
use Rattle.nv_base.specs.Words.{Env, atom_word, atom_words}
use Rattle.nv_ast.specs.Types.{TupleTy, RecordTy, ty_and, named_ty_and}
use Rattle.nv_meaning.specs.Values.{words_of, all_words, all_named_words}
use Rattle.nv_meaning.specs.Values as meaning
use Rattle.nv_meaning.specs.Running.{Running}
use Rattle.nv_flatten_values.specs.inner.Symbols.{Symbol, Word, Truth, Tuple, Record, Symbols, no_symbols, symbol_and, NamedSymbols, no_named_symbols, named_symbol_and, SymbolScope, operands, all_operands, named_operands, form, forms, named_forms, value_in, values_in, named_values_in, Fits, AllFit, NamedFit, IsOlder, AreOlder, Keeps, ScopeFits, ScopeOlder, scope_in, vars_of}
use Rattle.nv_flatten_values.specs.inner.Soundness.{AreWords, ScopeWords, value_ty, value_tys, named_value_tys, scope_tys}
use Rattle.nv_flatten_values.specs.inner.Whole.{Whole}
use Rattle.nv_flatten_values.specs.inner.Simulation.{Names, Extends, Setting, Begins, Done}

-- ---- lists one after another
pub all-left : {A : Type 0} (P : A → Type 0) (xs ys : List A) → All P (xs ++ ys) → All P xs
all-left P xs ys h = λ k d inside. subst P (get_or_append_left xs ys d k inside) (h k d (let e = length-append xs ys in omega arith))

pub all-right : {A : Type 0} (P : A → Type 0) (xs ys : List A) → All P (xs ++ ys) → All P ys
all-right P xs ys h = λ k d inside. subst P (get_or-append-add xs ys k d) (h (length xs + k) d (let e = length-append xs ys in omega arith))

pub older-left : (n : ℕ) (xs ys : List Atom) → AreOlder n (xs ++ ys) → AreOlder n xs
older-left n xs ys o = all-left (IsOlder n) xs ys o

pub older-right : (n : ℕ) (xs ys : List Atom) → AreOlder n (xs ++ ys) → AreOlder n ys
older-right n xs ys o = all-right (IsOlder n) xs ys o

pub words-of-append : (env : Env) (xs ys : List Atom) → atom_words env (xs ++ ys) ≡ atom_words env xs ++ atom_words env ys
words-of-append env [] ys = refl
words-of-append env (x ∷ xs) ys = ap (λ l. atom_word env x ∷ l) (words-of-append env xs ys)

-- ---- later numbers
operand-later : (m n : ℕ) (a : Atom) → m ≤ n → IsOlder m a → IsOlder n a
operand-later m n (Var x) h o = omega arith
operand-later m n (Lit v) h o = tt

pub older-later : (m n : ℕ) (as' : List Atom) → m ≤ n → AreOlder m as' → AreOlder n as'
older-later m n as' h o = All-weaker (IsOlder m) (IsOlder n) (λ a p. operand-later m n a h p) as' o

pub scope-later : (m n : ℕ) (scope : SymbolScope) → m ≤ n → ScopeOlder m scope → ScopeOlder n scope
scope-later m n [] h o = tt
scope-later m n ((x, s) ∷ scope) h o = (older-later m n (operands s) h o.0, scope-later m n scope h o.1)

pub keeps-itself : (n : ℕ) (env : Env) → Keeps n env env
keeps-itself n env x h = refl

pub keeps-earlier : (m n : ℕ) (env new : Env) → m ≤ n → Keeps n env new → Keeps m env new
keeps-earlier m n env new h k = λ x below. k x (omega arith)

pub keeps-then : (m n : ℕ) (env new last : Env) → m ≤ n → Keeps m env new → Keeps n new last → Keeps m env last
keeps-then m n env new last h k l = λ x below. l x (omega arith) ∙ k x below

pub extends-itself : {A : Type 0} (xs : List A) → Extends xs xs
extends-itself xs = ([], sym (append-nil xs))

pub extends-then : {A : Type 0} (xs ys zs : List A) → Extends xs ys → Extends ys zs → Extends xs zs
extends-then xs ys zs h k = (h.0 ++ k.0, k.1 ∙ ap (λ l. l ++ k.0) h.1 ∙ append_assoc xs h.0 k.0)

-- what is set for further names is set for these
pub fewer-names : (w : Whole) (names more : Names) → Extends names more → Setting w more → Setting w names
fewer-names w names more h c = record { all = c.all; more = extends-then names more c.all h c.more; call = c.call; fcall = c.fcall; typed = c.typed; same = c.same }

-- ---- what is kept
pub keeps-operand : (n : ℕ) (env new : Env) (a : Atom) → Keeps n env new → IsOlder n a → atom_word new a ≡ atom_word env a
keeps-operand n env new (Var x) k o = k x o
keeps-operand n env new (Lit v) k o = refl

pub keeps-operands : (n : ℕ) (env new : Env) (as' : List Atom) → Keeps n env new → AreOlder n as' → atom_words new as' ≡ atom_words env as'
keeps-operands n env new [] k o = refl
keeps-operands n env new (a ∷ as') k o =
    ap (λ w. w ∷ atom_words new as') (keeps-operand n env new a k (All-head (IsOlder n) a as' o)) ∙ ap (λ l. atom_word env a ∷ l) (keeps-operands n env new as' k (older-right n (a ∷ []) as' o))

mutual
  pub keeps-value : (n : ℕ) (env new : Env) (s : Symbol) → Keeps n env new → AreOlder n (operands s) → value_in new s ≡ value_in env s
  keeps-value n env new (Word a) k o = ap (λ w. meaning.Word w) (keeps-operand n env new a k (All-head (IsOlder n) a [] o))
  keeps-value n env new (Truth a) k o = ap (λ w. meaning.Truth (not (w == 0))) (keeps-operand n env new a k (All-head (IsOlder n) a [] o))
  keeps-value n env new (Tuple ss) k o = ap (λ vs. meaning.Tuple vs) (keeps-values n env new ss k o)
  keeps-value n env new (Record ss) k o = ap (λ vs. meaning.Record vs) (keeps-named n env new ss k o)

  pub keeps-values : (n : ℕ) (env new : Env) (ss : Symbols) → Keeps n env new → AreOlder n (all_operands ss) → values_in new ss ≡ values_in env ss
  keeps-values n env new no_symbols k o = refl
  keeps-values n env new (symbol_and s ss) k o =
      ap (λ v. meaning.value_and v (values_in new ss)) (keeps-value n env new s k (older-left n (operands s) (all_operands ss) o))
      ∙ ap (meaning.value_and (value_in env s)) (keeps-values n env new ss k (older-right n (operands s) (all_operands ss) o))

  pub keeps-named : (n : ℕ) (env new : Env) (ss : NamedSymbols) → Keeps n env new → AreOlder n (named_operands ss) → named_values_in new ss ≡ named_values_in env ss
  keeps-named n env new no_named_symbols k o = refl
  keeps-named n env new (named_symbol_and x s ss) k o =
      ap (λ v. meaning.named_value_and x v (named_values_in new ss)) (keeps-value n env new s k (older-left n (operands s) (named_operands ss) o))
      ∙ ap (meaning.named_value_and x (value_in env s)) (keeps-named n env new ss k (older-right n (operands s) (named_operands ss) o))

mutual
  pub keeps-fit : (n : ℕ) (env new : Env) (s : Symbol) → Keeps n env new → AreOlder n (operands s) → Fits env s → Fits new s
  keeps-fit n env new (Word a) k o f = subst (λ w. w < 2 ^ 32) (sym (keeps-operand n env new a k (All-head (IsOlder n) a [] o))) f
  keeps-fit n env new (Truth a) k o f = subst (λ w. w ≤ 1) (sym (keeps-operand n env new a k (All-head (IsOlder n) a [] o))) f
  keeps-fit n env new (Tuple ss) k o f = keeps-all_fit n env new ss k o f
  keeps-fit n env new (Record ss) k o f = keeps-named_fit n env new ss k o f

  pub keeps-all_fit : (n : ℕ) (env new : Env) (ss : Symbols) → Keeps n env new → AreOlder n (all_operands ss) → AllFit env ss → AllFit new ss
  keeps-all_fit n env new no_symbols k o f = tt
  keeps-all_fit n env new (symbol_and s ss) k o f =
      (keeps-fit n env new s k (older-left n (operands s) (all_operands ss) o) f.0, keeps-all_fit n env new ss k (older-right n (operands s) (all_operands ss) o) f.1)

  pub keeps-named_fit : (n : ℕ) (env new : Env) (ss : NamedSymbols) → Keeps n env new → AreOlder n (named_operands ss) → NamedFit env ss → NamedFit new ss
  keeps-named_fit n env new no_named_symbols k o f = tt
  keeps-named_fit n env new (named_symbol_and x s ss) k o f =
      (keeps-fit n env new s k (older-left n (operands s) (named_operands ss) o) f.0, keeps-named_fit n env new ss k (older-right n (operands s) (named_operands ss) o) f.1)

pub keeps-scope : (n : ℕ) (env new : Env) (scope : SymbolScope) → Keeps n env new → ScopeOlder n scope → scope_in new scope ≡ scope_in env scope
keeps-scope n env new [] k o = refl
keeps-scope n env new ((x, s) ∷ scope) k o = ap (λ v. (x, v) ∷ scope_in new scope) (keeps-value n env new s k o.0) ∙ ap (λ l. (x, value_in env s) ∷ l) (keeps-scope n env new scope k o.1)

pub keeps-scope_fits : (n : ℕ) (env new : Env) (scope : SymbolScope) → Keeps n env new → ScopeOlder n scope → ScopeFits env scope → ScopeFits new scope
keeps-scope_fits n env new [] k o f = tt
keeps-scope_fits n env new ((x, s) ∷ scope) k o f = (keeps-fit n env new s k o.0 f.0, keeps-scope_fits n env new scope k o.1 f.1)

-- what is done is begun again
pub begins-then : (n : ℕ) (env new : Env) (scope : SymbolScope) (now last : Running) (fit : Type 0) → ScopeOlder n scope → Begins env scope now → Done n env new fit last → Begins new scope last
begins-then n env new scope now last fit o b d = record { sizes = d.sizes; fits = keeps-scope_fits n env new scope d.keeps o b.fits }

pub begins-done : (n : ℕ) (env : Env) (scope : SymbolScope) (now : Running) (fit : Type 0) → Begins env scope now → fit → Done n env env fit now
begins-done n env scope now fit b f = record { sizes = b.sizes; keeps = keeps-itself n env; fits = f }

pub done-then : (m n : ℕ) (env new last : Env) (fit fit' : Type 0) (now end : Running) → m ≤ n → Done m env new fit now → Done n new last fit' end → Done m env last fit' end
done-then m n env new last fit fit' now end h d e = record { sizes = e.sizes; keeps = keeps-then m n env new last h d.keeps e.keeps; fits = e.fits }

-- ---- steps one after another

-- ---- words and types of what symbolic values stand for
truth-word : (w : ℕ) → w ≤ 1 → (if not (w == 0) then 1 else 0) ≡ w
truth-word zero h = refl
truth-word (suc zero) h = refl
truth-word (suc (suc w)) h = absurd (omega arith)

truth-below : (b : Bool) → (if b then 1 else 0) < 2 ^ 32
truth-below true = omega arith
truth-below false = omega arith

mutual
  pub words-fit : (env : Env) (s : Symbol) → Fits env s → words_of (value_in env s) ≡ atom_words env (operands s)
  words-fit env (Word a) f = refl
  words-fit env (Truth a) f = ap (λ w. w ∷ []) (truth-word (atom_word env a) f)
  words-fit env (Tuple ss) f = all-words-fit env ss f
  words-fit env (Record ss) f = named-words-fit env ss f

  pub all-words-fit : (env : Env) (ss : Symbols) → AllFit env ss → all_words (values_in env ss) ≡ atom_words env (all_operands ss)
  all-words-fit env no_symbols f = refl
  all-words-fit env (symbol_and s ss) f =
      ap (λ l. l ++ all_words (values_in env ss)) (words-fit env s f.0) ∙ ap (λ l. atom_words env (operands s) ++ l) (all-words-fit env ss f.1) ∙ sym (words-of-append env (operands s) (all_operands ss))

  pub named-words-fit : (env : Env) (ss : NamedSymbols) → NamedFit env ss → all_named_words (named_values_in env ss) ≡ atom_words env (named_operands ss)
  named-words-fit env no_named_symbols f = refl
  named-words-fit env (named_symbol_and x s ss) f =
      ap (λ l. l ++ all_named_words (named_values_in env ss)) (words-fit env s f.0) ∙ ap (λ l. atom_words env (operands s) ++ l) (named-words-fit env ss f.1) ∙ sym (words-of-append env (operands s) (named_operands ss))

mutual
  pub are-words : (env : Env) (s : Symbol) → Fits env s → AreWords (words_of (value_in env s))
  are-words env (Word a) f = All-cons (λ w. w < 2 ^ 32) (atom_word env a) [] f (All-nil (λ w. w < 2 ^ 32))
  are-words env (Truth a) f = All-cons (λ w. w < 2 ^ 32) (if not (atom_word env a == 0) then 1 else 0) [] (truth-below (not (atom_word env a == 0))) (All-nil (λ w. w < 2 ^ 32))
  are-words env (Tuple ss) f = all-are-words env ss f
  are-words env (Record ss) f = named-are-words env ss f

  pub all-are-words : (env : Env) (ss : Symbols) → AllFit env ss → AreWords (all_words (values_in env ss))
  all-are-words env no_symbols f = All-nil (λ w. w < 2 ^ 32)
  all-are-words env (symbol_and s ss) f = All-append (λ w. w < 2 ^ 32) (words_of (value_in env s)) (all_words (values_in env ss)) (are-words env s f.0) (all-are-words env ss f.1)

  pub named-are-words : (env : Env) (ss : NamedSymbols) → NamedFit env ss → AreWords (all_named_words (named_values_in env ss))
  named-are-words env no_named_symbols f = All-nil (λ w. w < 2 ^ 32)
  named-are-words env (named_symbol_and x s ss) f = All-append (λ w. w < 2 ^ 32) (words_of (value_in env s)) (all_named_words (named_values_in env ss)) (are-words env s f.0) (named-are-words env ss f.1)

mutual
  pub form-of-value : (env : Env) (s : Symbol) → value_ty (value_in env s) ≡ form s
  form-of-value env (Word a) = refl
  form-of-value env (Truth a) = refl
  form-of-value env (Tuple ss) = ap (λ ts. TupleTy ts) (forms-of-values env ss)
  form-of-value env (Record ss) = ap (λ ts. RecordTy ts) (forms-of-named env ss)

  pub forms-of-values : (env : Env) (ss : Symbols) → value_tys (values_in env ss) ≡ forms ss
  forms-of-values env no_symbols = refl
  forms-of-values env (symbol_and s ss) = ap (λ t. ty_and t (value_tys (values_in env ss))) (form-of-value env s) ∙ ap (ty_and (form s)) (forms-of-values env ss)

  pub forms-of-named : (env : Env) (ss : NamedSymbols) → named_value_tys (named_values_in env ss) ≡ named_forms ss
  forms-of-named env no_named_symbols = refl
  forms-of-named env (named_symbol_and x s ss) = ap (λ t. named_ty_and x t (named_value_tys (named_values_in env ss))) (form-of-value env s) ∙ ap (named_ty_and x (form s)) (forms-of-named env ss)

pub types-of-scope : (env : Env) (scope : SymbolScope) → scope_tys (scope_in env scope) ≡ vars_of scope
types-of-scope env [] = refl
types-of-scope env ((x, s) ∷ scope) = ap (λ t. (x, t) ∷ scope_tys (scope_in env scope)) (form-of-value env s) ∙ ap (λ l. (x, form s) ∷ l) (types-of-scope env scope)

pub scope-words : (env : Env) (scope : SymbolScope) → ScopeFits env scope → ScopeWords (scope_in env scope)
scope-words env [] f = tt
scope-words env ((x, s) ∷ scope) f = (are-words env s f.0, scope-words env scope f.1)

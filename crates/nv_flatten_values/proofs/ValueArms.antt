-- One lemma for each expression whose value needs no words in memory: its steps and its symbolic value.
use Rattle.std.proofs.Common.{◌≡◌, ◌∙◌, refl, ap, sym, subst, ℕ, zero, suc, ◌+◌, ◌<◌, ◌≤◌, ◌^◌, ◌==◌, Bool, true, false, not, if◌then◌else◌, List, [], ◌∷◌, ◌++◌, Option, Some, None, bytes_eq, bit_xor, arith}
use Rattle.std.proofs.lemmas.Option.{same_Some, none-some}
use Rattle.nv_base.specs.declared.term.Atom.TheVariants.{Var, Lit}
use Rattle.nv_base.specs.declared.term.Bin.TheVariants as bin
use Rattle.nv_base.specs.declared.term.Una.TheVariants as una
use Rattle.nv_base.specs.declared.term.Primitive.TheVariants.{Una as UnaOf, Bin as BinOf}
use Rattle.nv_base.proofs.WordLemmas.{word-fits}
use Rattle.nv_base.specs.Words.{Env, word, atom_word, word_not}
use Rattle.nv_ast.specs.declared.token.Span.{Span}
use Rattle.nv_ast.specs.Tree.{Tree, NumberTree, TruthTree, VarTree, ParenTree, DotTree, InvertTree, NegateTree}
use Rattle.nv_ast.specs.Tests.{look_up}
use Rattle.nv_ast.specs.Types.{Ty, WordTy, BoolTy}
use Rattle.nv_ast.specs.Scope.{Context, inside}
use Rattle.nv_ast.specs.Typing.{type_at, field_ty, fields_of as fields_of_ty}
use Rattle.nv_ast.specs.Faults.{Expected, faults, node_faults, a_value, of_type}
use Rattle.nv_meaning.specs.Values.{Value, word_of, truth_of, variable_in}
use Rattle.nv_meaning.specs.Values as meaning
use Rattle.nv_meaning.specs.Running.{Running, Result, Gives, and_then}
use Rattle.nv_meaning.specs.Meaning.{Calls, eval}
use Rattle.flat_ir.specs.Running as flat
use Rattle.flat_ir.specs.Meaning as code
use Rattle.flat_ir.specs.Spine.{Act, steps_do}
use Rattle.flat_ir.specs.declared.spine.Step.{Step}
use Rattle.flat_ir.specs.declared.spine.Step.TheVariants.{Let}
use Rattle.nv_flatten_values.specs.inner.Symbols.{Symbol, Word, Truth, Tuple, Record, NamedSymbols, no_named_symbols, named_symbol_and, SymbolScope, operands, named_operands, form, named_forms, value_in, named_values_in, Fits, NamedFit, AreOlder, word_operand, truth_operand, fields_of, field_named, symbol_in, ScopeFits, ScopeOlder, scope_in, vars_of}
use Rattle.nv_flatten_values.specs.inner.Runs.{flat_run, onward}
use Rattle.nv_flatten_values.specs.inner.Whole.{Whole, Stands}
use Rattle.nv_flatten_values.specs.inner.Simulation.{Names, Done, HasForm, IsValue}
use Rattle.nv_flatten_values.proofs.Keeping.{older-left, older-right, older-later, begins-done}
use Rattle.nv_flatten_values.proofs.Following.{onward-then, steps-then, stands-inside, word-of, truth-of, truth-fits, one-older, assigned-here, defined}
use Rattle.nv_ast.proofs.Faultless.{no_front}

-- ---- one of two, and what is so of both
choose-value : (env : Env) (b : Bool) (s t : Symbol) (v : Value) → value_in env t ≡ v → value_in env (if b then s else t) ≡ (if b then value_in env s else v)
choose-value env true s t v e = refl
choose-value env false s t v e = e

choose-fits : (env : Env) (b : Bool) (s t : Symbol) → Fits env s → Fits env t → Fits env (if b then s else t)
choose-fits env true s t f g = f
choose-fits env false s t f g = g

choose-older : (n : ℕ) (b : Bool) (s t : Symbol) → AreOlder n (operands s) → AreOlder n (operands t) → AreOlder n (operands (if b then s else t))
choose-older n true s t f g = f
choose-older n false s t f g = g

choose-form : (b : Bool) (s r : Symbol) (u : Option Ty) (t : Ty) → (u ≡ Some t → form r ≡ t) → (if b then Some (form s) else u) ≡ Some t → form (if b then s else r) ≡ t
choose-form true s r u t more e = same_Some (form s) t e
choose-form false s r u t more e = more e

-- ---- values without steps
module _ (w : Whole) (names : Names) (low high : ℕ) (scope : SymbolScope) where
  pub number-value : (sp : Span) (n : ℕ) → IsValue w names low high scope (NumberTree sp n) [] (Word (Lit n))
  number-value sp n = record {
    simulates = record { by = λ own p wanted stands none older c env now begins rest next same. same env now (begins-done low env scope now (Fits env (Word (Lit n))) begins (word-fits n)) };
    formed = record { by = λ own p wanted stands none t is. same_Some WordTy t is };
    older = λ o. one-older high (Lit n) tt;
  }

  bit-fits : (b : Bool) → word (if b then 1 else 0) ≤ 1
  bit-fits true = omega arith
  bit-fits false = omega arith

  bit-is : (b : Bool) → not (word (if b then 1 else 0) == 0) ≡ b
  bit-is true = refl
  bit-is false = refl

  pub truth-value : (sp : Span) (b : Bool) → IsValue w names low high scope (TruthTree sp b) [] (Truth (Lit (if b then 1 else 0)))
  truth-value sp b = record {
    simulates = record {
      by = λ own p wanted stands none older c env now begins rest next same.
          same env now (begins-done low env scope now (Fits env (Truth (Lit (if b then 1 else 0)))) begins (bit-fits b))
          ∙ ap (λ x. next (meaning.Truth x) now) (bit-is b);
    };
    formed = record { by = λ own p wanted stands none t is. same_Some BoolTy t is };
    older = λ o. one-older high (Lit (if b then 1 else 0)) tt;
  }

  -- ---- a variable
  variable-value : (env : Env) (m : SymbolScope) (x : List ℕ) → value_in env (symbol_in m x) ≡ variable_in (scope_in env m) x
  variable-value env [] x = refl
  variable-value env ((y, s) ∷ m) x = choose-value env (bytes_eq x y) s (symbol_in m x) (variable_in (scope_in env m) x) (variable-value env m x)

  variable-fits : (env : Env) (m : SymbolScope) (x : List ℕ) → ScopeFits env m → Fits env (symbol_in m x)
  variable-fits env [] x f = omega arith
  variable-fits env ((y, s) ∷ m) x f = choose-fits env (bytes_eq x y) s (symbol_in m x) f.0 (variable-fits env m x f.1)

  variable-older : (n : ℕ) (m : SymbolScope) (x : List ℕ) → ScopeOlder n m → AreOlder n (operands (symbol_in m x))
  variable-older n [] x o = one-older n (Lit 0) tt
  variable-older n ((y, s) ∷ m) x o = choose-older n (bytes_eq x y) s (symbol_in m x) o.0 (variable-older n m x o.1)

  variable-form : (m : SymbolScope) (x : List ℕ) (t : Ty) → look_up x (vars_of m) ≡ Some t → form (symbol_in m x) ≡ t
  variable-form [] x t e = absurd (none-some t e)
  variable-form ((y, s) ∷ m) x t e = choose-form (bytes_eq x y) s (symbol_in m x) (look_up x (vars_of m)) t (variable-form m x t) e

  pub var-value : (sp : Span) (x : List ℕ) → low ≤ high → IsValue w names low high scope (VarTree sp x) [] (symbol_in scope x)
  var-value sp x le = record {
    simulates = record {
      by = λ own p wanted stands none older c env now begins rest next same.
          same env now (begins-done low env scope now (Fits env (symbol_in scope x)) begins (variable-fits env scope x begins.fits))
          ∙ ap (λ v. next v now) (variable-value env scope x);
    };
    formed = record { by = λ own p wanted stands none t is. variable-form scope x t (ap (look_up x) (sym stands.vars) ∙ is) };
    older = λ o. older-later low high (operands (symbol_in scope x)) le (variable-older low scope x o);
  }

  -- ---- parentheses
  pub paren-value : (sp : Span) (a : Tree) (steps : List Step) (s : Symbol) → IsValue w names low high scope a steps s → IsValue w names low high scope (ParenTree sp a) steps s
  paren-value sp a steps s v = record {
    simulates = record { by = λ own p wanted stands none. v.simulates.by own p a_value stands (no_front (faults p a_value a) (node_faults p wanted (ParenTree sp a)) none) };
    formed = record { by = λ own p wanted stands none. v.formed.by own p a_value stands (no_front (faults p a_value a) (node_faults p wanted (ParenTree sp a)) none) };
    older = v.older;
  }

-- ---- one part, and then steps that make the node's value of the part's value
module _ (w : Whole) (names : Names) (low mid high : ℕ) (scope : SymbolScope) (e a : Tree) (ss ts : List Step) (s r : Symbol) (k : Value → Running → Result) (of : Context → Expected) where
  -- what the steps do for a place that has no faults
  abbrev pub Makes : Context → Expected → Type 0
  Makes p wanted = (call : code.Calls) (env new : Env) (last : Running) → Done low env new (Fits new s) last → (rest : Act) (next : Value → Running → flat.Result)
      → ((after : Env) (end : Running) → Done low env after (Fits after r) end → rest after (flat_run end) ≡ next (value_in after r) end)
      → steps_do call ts rest new (flat_run last) ≡ onward (k (value_in new s) last) next

  pub unary : IsValue w names low mid scope a ss s
      → ((call : Calls) (m : meaning.Scope) (now : Running) → eval w.declared call e m now ≡ and_then (eval w.declared call a m now) k)
      → ((p : Context) (wanted : Expected) → faults p wanted e ≡ faults (inside p) (of p) a ++ node_faults p wanted e)
      → ((own : ℕ) (p : Context) (wanted : Expected) → Stands w own scope p → faults p wanted e ≡ [] → ScopeOlder low scope → Makes p wanted)
      → HasForm w scope e r → (ScopeOlder low scope → AreOlder high (operands r))
      → IsValue w names low high scope e (ss ++ ts) r
  unary v means parts makes formed older = record {
    simulates = record {
      by = λ own p wanted stands none o c env now begins rest next same.
          let clean = no_front (faults (inside p) (of p) a) (node_faults p wanted e) (sym (parts p wanted) ∙ none) in
          let made = makes own p wanted stands none o in
          steps-then c.fcall ss ts rest env (flat_run now)
          ∙ v.simulates.by own (inside p) (of p) (stands-inside w own scope p stands) clean o c env now begins (steps_do c.fcall ts rest) (λ x last. onward (k x last) next) (λ new last done. made c.fcall env new last done rest next same)
          ∙ sym (onward-then (eval w.declared c.call a (scope_in env scope) now) k next)
          ∙ ap (λ x. onward x next) (sym (means c.call (scope_in env scope) now));
    };
    formed = formed;
    older = older;
  }

-- ---- a part of a record
field-among : (env : Env) (x : List ℕ) (fs : NamedSymbols) → value_in env (field_named x fs) ≡ meaning.field_named x (named_values_in env fs)
field-among env x no_named_symbols = refl
field-among env x (named_symbol_and y s fs) = choose-value env (bytes_eq x y) s (field_named x fs) (meaning.field_named x (named_values_in env fs)) (field-among env x fs)

pub field-value : (env : Env) (x : List ℕ) (s : Symbol) → value_in env (field_named x (fields_of s)) ≡ meaning.field_named x (meaning.fields_of (value_in env s))
field-value env x (Word a) = refl
field-value env x (Truth a) = refl
field-value env x (Tuple ss) = refl
field-value env x (Record fs) = field-among env x fs

pub among-fits : (env : Env) (x : List ℕ) (fs : NamedSymbols) → NamedFit env fs → Fits env (field_named x fs)
among-fits env x no_named_symbols f = omega arith
among-fits env x (named_symbol_and y s fs) f = choose-fits env (bytes_eq x y) s (field_named x fs) f.0 (among-fits env x fs f.1)

pub field-fits : (env : Env) (x : List ℕ) (s : Symbol) → Fits env s → Fits env (field_named x (fields_of s))
field-fits env x (Word a) f = omega arith
field-fits env x (Truth a) f = omega arith
field-fits env x (Tuple ss) f = omega arith
field-fits env x (Record fs) f = among-fits env x fs f

pub among-older : (n : ℕ) (x : List ℕ) (fs : NamedSymbols) → AreOlder n (named_operands fs) → AreOlder n (operands (field_named x fs))
among-older n x no_named_symbols o = one-older n (Lit 0) tt
among-older n x (named_symbol_and y s fs) o = choose-older n (bytes_eq x y) s (field_named x fs) (older-left n (operands s) (named_operands fs) o) (among-older n x fs (older-right n (operands s) (named_operands fs) o))

pub field-older : (n : ℕ) (x : List ℕ) (s : Symbol) → AreOlder n (operands s) → AreOlder n (operands (field_named x (fields_of s)))
field-older n x (Word a) o = one-older n (Lit 0) tt
field-older n x (Truth a) o = one-older n (Lit 0) tt
field-older n x (Tuple ss) o = one-older n (Lit 0) tt
field-older n x (Record fs) o = among-older n x fs o

among-form : (x : List ℕ) (fs : NamedSymbols) (t : Ty) → look_up x (fields_of_ty (named_forms fs)) ≡ Some t → form (field_named x fs) ≡ t
among-form x no_named_symbols t e = absurd (none-some t e)
among-form x (named_symbol_and y s fs) t e = choose-form (bytes_eq x y) s (field_named x fs) (look_up x (fields_of_ty (named_forms fs))) t (among-form x fs t) e

field-form : (x : List ℕ) (s : Symbol) (t : Ty) → field_ty x (Some (form s)) ≡ Some t → form (field_named x (fields_of s)) ≡ t
field-form x (Word a) t e = absurd (none-some t e)
field-form x (Truth a) t e = absurd (none-some t e)
field-form x (Tuple ss) t e = absurd (none-some t e)
field-form x (Record fs) t e = among-form x fs t e

-- the form of a part that has a type
field-typed : (x : List ℕ) (s : Symbol) (o : Option Ty) (t : Ty) → ((u : Ty) → o ≡ Some u → form s ≡ u) → field_ty x o ≡ Some t → form (field_named x (fields_of s)) ≡ t
field-typed x s None t h e = absurd (none-some t e)
field-typed x s (Some u) t h e = field-form x s t (ap (λ v. field_ty x (Some v)) (h u refl) ∙ e)

module _ (w : Whole) (names : Names) (low high : ℕ) (scope : SymbolScope) where
  pub dot-value : (sp : Span) (a : Tree) (x : List ℕ) (ss : List Step) (s : Symbol) → IsValue w names low high scope a ss s → IsValue w names low high scope (DotTree sp a x) ss (field_named x (fields_of s))
  dot-value sp a x ss s v = record {
    simulates = record {
      by = λ own p wanted stands none o c env now begins rest next same.
          let clean = no_front (faults (inside p) a_value a) (node_faults p wanted (DotTree sp a x)) none in
          let k : Value → Running → Result = λ y last. Gives (meaning.field_named x (meaning.fields_of y)) last in
          v.simulates.by own (inside p) a_value (stands-inside w own scope p stands) clean o c env now begins rest (λ y last. onward (k y last) next)
          (λ new last done. same new last (record { sizes = done.sizes; keeps = done.keeps; fits = field-fits new x s done.fits }) ∙ ap (λ z. next z last) (field-value new x s))
          ∙ sym (onward-then (eval w.declared c.call a (scope_in env scope) now) k next);
    };
    formed = record {
      by = λ own p wanted stands none t is.
          let clean = no_front (faults (inside p) a_value a) (node_faults p wanted (DotTree sp a x)) none in
          field-typed x s (type_at p.known p.vars a) t (λ u e. v.formed.by own (inside p) a_value (stands-inside w own scope p stands) clean u e) is;
    };
    older = λ o. field-older high x s (v.older o);
  }

-- ---- words and truths turned over
not-word : (x : ℕ) → word_not x < 2 ^ 32
not-word x = omega arith

turned-truth : (x : ℕ) → x ≤ 1 → bit_xor x 1 ≤ 1
turned-truth zero h = omega arith
turned-truth (suc zero) h = omega arith
turned-truth (suc (suc x)) h = absurd (omega arith)

turned-is : (x : ℕ) → x ≤ 1 → not (bit_xor x 1 == 0) ≡ not (not (x == 0))
turned-is zero h = refl
turned-is (suc zero) h = refl
turned-is (suc (suc x)) h = absurd (omega arith)

module _ (w : Whole) (names : Names) (low high : ℕ) (scope : SymbolScope) where
  pub invert-value : (sp : Span) (a : Tree) (ss : List Step) (s : Symbol) → low ≤ high → IsValue w names low high scope a ss s → IsValue w names low (high + 1) scope (InvertTree sp a) (ss ++ Let high (UnaOf una.Not (word_operand s)) ∷ []) (Word (Var high))
  invert-value sp a ss s le v =
      unary w names low high (high + 1) scope (InvertTree sp a) a ss (Let high (UnaOf una.Not (word_operand s)) ∷ []) s (Word (Var high)) (λ y last. Gives (meaning.Word (word_not (word_of y))) last) (λ p. of_type WordTy) v
      (λ call m now. refl) (λ p wanted. refl)
      (λ own p wanted stands none o call env new last done rest next same.
      let made = word_not (atom_word new (word_operand s)) in
      defined low high env new last (Fits new s) made (Word (Var high)) (meaning.Word (word_not (word_of (value_in new s)))) rest next le done
      (ap (λ x. meaning.Word x) (assigned-here new high made) ∙ ap (λ x. meaning.Word (word_not x)) (sym (word-of new s)))
      (subst (λ x. x < 2 ^ 32) (sym (assigned-here new high made)) (not-word (atom_word new (word_operand s)))) same)
      (record { by = λ own p wanted stands none t is. same_Some WordTy t is })
      (λ o. one-older (high + 1) (Var high) (omega arith))

  pub negate-value : (sp : Span) (a : Tree) (ss : List Step) (s : Symbol) → low ≤ high → IsValue w names low high scope a ss s → IsValue w names low (high + 1) scope (NegateTree sp a) (ss ++ Let high (BinOf bin.Xor (truth_operand s) (Lit 1)) ∷ []) (Truth (Var high))
  negate-value sp a ss s le v =
      unary w names low high (high + 1) scope (NegateTree sp a) a ss (Let high (BinOf bin.Xor (truth_operand s) (Lit 1)) ∷ []) s (Truth (Var high)) (λ y last. Gives (meaning.Truth (not (truth_of y))) last) (λ p. of_type BoolTy) v
      (λ call m now. refl) (λ p wanted. refl)
      (λ own p wanted stands none o call env new last done rest next same.
      let x = atom_word new (truth_operand s) in
      defined low high env new last (Fits new s) (bit_xor x 1) (Truth (Var high)) (meaning.Truth (not (truth_of (value_in new s)))) rest next le done
      (ap (λ y. meaning.Truth (not (y == 0))) (assigned-here new high (bit_xor x 1)) ∙ ap (λ y. meaning.Truth y) (turned-is x (truth-fits new s done.fits)) ∙ ap (λ y. meaning.Truth (not y)) (sym (truth-of new s)))
      (subst (λ y. y ≤ 1) (sym (assigned-here new high (bit_xor x 1))) (turned-truth x (truth-fits new s done.fits))) same)
      (record { by = λ own p wanted stands none t is. same_Some BoolTy t is })
      (λ o. one-older (high + 1) (Var high) (omega arith))

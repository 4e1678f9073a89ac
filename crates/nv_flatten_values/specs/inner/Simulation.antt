-- What the flat code of an expression has to do.
use Rattle.std.specs.Prelude.{◌≡◌, ℕ, List, [], ◌++◌, Option, Some, option_map, slice_get, ⊤}
use Rattle.nv_base.specs.declared.term.Atom.{Atom}
use Rattle.nv_base.specs.declared.term.Cmp.{Cmp}
use Rattle.nv_base.specs.Words.{Env, atom_word, compares}
use Rattle.nv_base.specs.Memories.{HasSizes}
use Rattle.nv_ast.specs.Tree.{Tree, Trees, NamedTrees, StatementTrees, FunTree}
use Rattle.nv_ast.specs.Types.{Ty, Tys, BoolTy, named_types_of}
use Rattle.nv_ast.specs.Scope.{Context, plain_tys}
use Rattle.nv_ast.specs.Typing.{type_at, types_at, named_types_at, vars_behind}
use Rattle.nv_ast.specs.Faults.{Expected, faults, list_faults, named_faults, statements_faults}
use Rattle.nv_meaning.specs.Values.{Value, Truth, Values, NamedValues, Scope, all_words}
use Rattle.nv_meaning.specs.Running.{Running, Results, GiveAll, Breaks, NamedResults, GiveNamed, BreaksNamed, Stated, GoesOn, StopsAt}
use Rattle.nv_meaning.specs.Meaning.{Calls, eval, eval_all, eval_named, run_all, function_in}
use Rattle.flat_ir.specs.Running as flat
use Rattle.flat_ir.specs.Meaning as code
use Rattle.flat_ir.specs.Spine.{Act, steps_do}
use Rattle.flat_ir.specs.declared.flat.Flat.{Flat}
use Rattle.flat_ir.specs.declared.spine.Step.{Step}
use Rattle.nv_flatten_values.specs.inner.Symbols.{Symbol, Symbols, NamedSymbols, SymbolScope, value_in, values_in, named_values_in, Fits, AllFit, NamedFit, Keeps, ScopeFits, ScopeOlder, AreOlder, IsOlder, operands, all_operands, named_operands, scope_in, vars_of, form, forms, named_forms}
use Rattle.nv_flatten_values.specs.inner.Runs.{flat_run, onward, ended}
use Rattle.nv_flatten_values.specs.inner.Whole.{Whole, Stands}
use Rattle.nv_flatten_values.specs.inner.Soundness.{value_tys, AreWords, CallsTyped}

-- the names of functions by their numbers; further ones may come
abbrev pub Names : Type 0
Names = List (List ℕ)

abbrev pub Extends : {A : Type 0} → List A → List A → Type 0
Extends {A} xs ys = (more : List A) × (ys ≡ xs ++ more)

-- a call by number does what the call by name does
pub record CallsAgree (w : Whole) (names : Names) (call : Calls) (fcall : code.Calls) : Type 0 where
  pub agree : (i : ℕ) (f : List ℕ) (g : FunTree) (vs : Values) (now : Running) → slice_get names i ≡ Some f → function_in w.declared.functions f ≡ Some g
      → value_tys vs ≡ plain_tys (named_types_of w.declared.layouts g.params) → AreWords (all_words vs) → HasSizes now.packet
      → fcall i (all_words vs) (flat_run now) ≡ ended (call f vs now)

-- what calls come to on both sides, for functions with these and further numbers
pub record Setting (w : Whole) (names : Names) : Type 0 where
  pub all : Names
  pub more : Extends names all
  pub call : Calls
  pub fcall : code.Calls
  pub typed : CallsTyped w call
  pub same : CallsAgree w all call fcall

-- the moments at which an expression is begun: memories of words, and variables that fit
pub record Begins (env : Env) (scope : SymbolScope) (now : Running) : Type 0 where
  pub sizes : HasSizes now.packet
  pub fits : ScopeFits env scope

-- the moments at which it is done: no variable from before is changed
pub record Done (low : ℕ) (env new : Env) (fit : Type 0) (last : Running) : Type 0 where
  pub sizes : HasSizes last.packet
  pub keeps : Keeps low env new
  pub fits : fit

-- ---- steps that give an expression's value to a symbolic one: whatever follows with the value, follows in the flat code
pub record Simulates (w : Whole) (names : Names) (low : ℕ) (scope : SymbolScope) (e : Tree) (steps : List Step) (s : Symbol) : Type 0 where
  pub by : (own : ℕ) (p : Context) (wanted : Expected) → Stands w own scope p → faults p wanted e ≡ [] → ScopeOlder low scope
      → (c : Setting w names) (env : Env) (now : Running) → Begins env scope now
      → (rest : Act) (next : Value → Running → flat.Result)
      → ((new : Env) (last : Running) → Done low env new (Fits new s) last → rest new (flat_run last) ≡ next (value_in new s) last)
      → steps_do c.fcall steps rest env (flat_run now) ≡ onward (eval w.declared c.call e (scope_in env scope) now) next

-- the symbolic value has the expression's type, if that has a value
pub record HasForm (w : Whole) (scope : SymbolScope) (e : Tree) (s : Symbol) : Type 0 where
  pub by : (own : ℕ) (p : Context) (wanted : Expected) → Stands w own scope p → faults p wanted e ≡ [] → (t : Ty) → type_at p.known p.vars e ≡ Some t → form s ≡ t

-- both, with variables that are new from `low` on and come before `high`
pub record IsValue (w : Whole) (names : Names) (low high : ℕ) (scope : SymbolScope) (e : Tree) (steps : List Step) (s : Symbol) : Type 0 where
  pub simulates : Simulates w names low scope e steps s
  pub formed : HasForm w scope e s
  pub older : ScopeOlder low scope → AreOlder high (operands s)

-- ---- the same for expressions one after another. What breaks off has no value, so what would follow one is never asked for.
abbrev pub onward_all : Results → (Values → Running → flat.Result) → (Value → Running → flat.Result) → flat.Result
onward_all (GiveAll vs now) next never = next vs now
onward_all (Breaks how) next never = onward how never

abbrev pub onward_named : NamedResults → (NamedValues → Running → flat.Result) → (Value → Running → flat.Result) → flat.Result
onward_named (GiveNamed vs now) next never = next vs now
onward_named (BreaksNamed how) next never = onward how never

pub record AreValues (w : Whole) (names : Names) (low high : ℕ) (scope : SymbolScope) (es : Trees) (steps : List Step) (ss : Symbols) : Type 0 where
  pub simulate : (own : ℕ) (p : Context) (wanted : List Expected) → Stands w own scope p → list_faults p wanted es ≡ [] → ScopeOlder low scope
      → (c : Setting w names) (env : Env) (now : Running) → Begins env scope now
      → (rest : Act) (next : Values → Running → flat.Result) (never : Value → Running → flat.Result)
      → ((new : Env) (last : Running) → Done low env new (AllFit new ss) last → rest new (flat_run last) ≡ next (values_in new ss) last)
      → steps_do c.fcall steps rest env (flat_run now) ≡ onward_all (eval_all w.declared c.call es (scope_in env scope) now) next never
  pub formed : (own : ℕ) (p : Context) (wanted : List Expected) → Stands w own scope p → list_faults p wanted es ≡ [] → (ts : Tys) → types_at p.known p.vars es ≡ Some ts → forms ss ≡ ts
  pub older : ScopeOlder low scope → AreOlder high (all_operands ss)

pub record AreFields (w : Whole) (names : Names) (low high : ℕ) (scope : SymbolScope) (es : NamedTrees) (steps : List Step) (ss : NamedSymbols) : Type 0 where
  pub simulate : (own : ℕ) (p : Context) → Stands w own scope p → named_faults p es ≡ [] → ScopeOlder low scope
      → (c : Setting w names) (env : Env) (now : Running) → Begins env scope now
      → (rest : Act) (next : NamedValues → Running → flat.Result) (never : Value → Running → flat.Result)
      → ((new : Env) (last : Running) → Done low env new (NamedFit new ss) last → rest new (flat_run last) ≡ next (named_values_in new ss) last)
      → steps_do c.fcall steps rest env (flat_run now) ≡ onward_named (eval_named w.declared c.call es (scope_in env scope) now) next never
  pub formed : (own : ℕ) (p : Context) → Stands w own scope p → named_faults p es ≡ [] → named_types_at p.known p.vars es ≡ Some (named_forms ss)
  pub older : ScopeOlder low scope → AreOlder high (named_operands ss)

-- ---- statements, which come to a scope with further variables
abbrev pub onward_stated : Stated → (Scope → Running → flat.Result) → (Value → Running → flat.Result) → flat.Result
onward_stated (GoesOn scope now) next never = next scope now
onward_stated (StopsAt how) next never = onward how never

pub record IsStated (w : Whole) (names : Names) (low high : ℕ) (scope : SymbolScope) (sts : StatementTrees) (steps : List Step) (inner : SymbolScope) : Type 0 where
  pub simulate : (own : ℕ) (p : Context) → Stands w own scope p → statements_faults p sts ≡ [] → ScopeOlder low scope
      → (c : Setting w names) (env : Env) (now : Running) → Begins env scope now
      → (rest : Act) (next : Scope → Running → flat.Result) (never : Value → Running → flat.Result)
      → ((new : Env) (last : Running) → Done low env new (ScopeFits new inner) last → rest new (flat_run last) ≡ next (scope_in new inner) last)
      → steps_do c.fcall steps rest env (flat_run now) ≡ onward_stated (run_all w.declared c.call sts (scope_in env scope) now) next never
  pub formed : (own : ℕ) (p : Context) → Stands w own scope p → statements_faults p sts ≡ [] → vars_behind p.known p.vars sts ≡ vars_of inner
  pub older : ScopeOlder low scope → ScopeOlder high inner

-- ---- conditions: steps, and a comparison that then is the condition's truth
pub record IsTest (w : Whole) (names : Names) (low high : ℕ) (scope : SymbolScope) (e : Tree) (steps : List Step) (c : Cmp) (a b : Atom) : Type 0 where
  pub simulate : (own : ℕ) (p : Context) (wanted : Expected) → Stands w own scope p → faults p wanted e ≡ [] → type_at p.known p.vars e ≡ Some BoolTy → ScopeOlder low scope
      → (s : Setting w names) (env : Env) (now : Running) → Begins env scope now
      → (rest : Act) (next : Value → Running → flat.Result)
      → ((new : Env) (last : Running) → Done low env new ⊤ last → rest new (flat_run last) ≡ next (Truth (compares c (atom_word new a) (atom_word new b))) last)
      → steps_do s.fcall steps rest env (flat_run now) ≡ onward (eval w.declared s.call e (scope_in env scope) now) next
  pub older : ScopeOlder low scope → IsOlder high a × IsOlder high b

-- ---- code that ends with an expression's words, and the form of its value, if it has one
pub record IsEnd (w : Whole) (names : Names) (low high : ℕ) (scope : SymbolScope) (e : Tree) (t : Flat) (o : Option Symbol) : Type 0 where
  pub simulates : (own : ℕ) (p : Context) (wanted : Expected) → Stands w own scope p → faults p wanted e ≡ [] → ScopeOlder low scope
      → (c : Setting w names) (env : Env) (now : Running) → Begins env scope now
      → code.does c.fcall t env (flat_run now) ≡ ended (eval w.declared c.call e (scope_in env scope) now)
  pub formed : (own : ℕ) (p : Context) (wanted : Expected) → Stands w own scope p → faults p wanted e ≡ [] → type_at p.known p.vars e ≡ option_map form o

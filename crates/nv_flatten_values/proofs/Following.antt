-- What follows a value, on both sides; operands of symbolic values; and one new variable.
use Rattle.std.proofs.Common.{◌≡◌, ◌∙◌, refl, ap, ℕ, ◌<◌, ◌≤◌, ◌^◌, ◌==◌, nat_eq, true, false, not, if◌then◌else◌, List, [], ◌∷◌, ◌++◌, arith, rules, tests}
use Rattle.std.proofs.lemmas.List.Elements.{All-nil, All-cons}
use Rattle.nv_base.specs.declared.term.Atom.{Atom}
use Rattle.nv_base.specs.Words.{Env, atom_word, assigned}
use Rattle.nv_ast.specs.Scope.{Context, inside}
use Rattle.nv_meaning.specs.Values.{Value, Values, NamedValues, Scope, word_of, truth_of}
use Rattle.nv_meaning.specs.Running.{Running, Result, Gives, Raises, Halts, and_then, and_all, and_named, and_stated, and_further, Results, GiveAll, Breaks, NamedResults, GiveNamed, BreaksNamed, Stated, GoesOn, StopsAt}
use Rattle.flat_ir.specs.Running as flat
use Rattle.flat_ir.specs.Meaning as code
use Rattle.flat_ir.specs.Spine.{Act, steps_do}
use Rattle.flat_ir.specs.declared.spine.Step.{Step}
use Rattle.nv_flatten_values.specs.inner.Symbols.{Symbol, Word, Truth, Tuple, Record, SymbolScope, value_in, Fits, IsOlder, AreOlder, Keeps, word_operand, truth_operand}
use Rattle.nv_flatten_values.specs.inner.Runs.{flat_run, onward}
use Rattle.nv_flatten_values.specs.inner.Whole.{Whole, Stands}
use Rattle.nv_flatten_values.specs.inner.Simulation.{Names, Extends, Setting, Done, IsValue, AreValues, AreFields, IsStated, onward_all, onward_named, onward_stated}
use Rattle.nv_flatten_values.proofs.Keeping.{extends-then}
use Rattle.flat_ir.proofs.Steps.{steps_do-append}

-- ---- what follows, and then what follows that
pub onward-then : (r : Result) (k : Value → Running → Result) (next : Value → Running → flat.Result) → onward (and_then r k) next ≡ onward r (λ v now. onward (k v now) next)
onward-then (Gives v now) k next = refl
onward-then (Raises j vs now) k next = refl
onward-then (Halts how now) k next = refl

pub onward-all : (r : Results) (k : Values → Running → Result) (next : Value → Running → flat.Result) → onward (and_all r k) next ≡ onward_all r (λ vs now. onward (k vs now) next) next
onward-all (GiveAll vs now) k next = refl
onward-all (Breaks how) k next = refl

pub onward-named : (r : NamedResults) (k : NamedValues → Running → Result) (next : Value → Running → flat.Result) → onward (and_named r k) next ≡ onward_named r (λ vs now. onward (k vs now) next) next
onward-named (GiveNamed vs now) k next = refl
onward-named (BreaksNamed how) k next = refl

pub onward-stated : (r : Stated) (k : Scope → Running → Result) (next : Value → Running → flat.Result) → onward (and_stated r k) next ≡ onward_stated r (λ s now. onward (k s now) next) next
onward-stated (GoesOn s now) k next = refl
onward-stated (StopsAt how) k next = refl

pub onward-further : (r : Stated) (k : Scope → Running → Stated) (next : Scope → Running → flat.Result) (never : Value → Running → flat.Result) → onward_stated (and_further r k) next never ≡ onward_stated r (λ s now. onward_stated (k s now) next never) never
onward-further (GoesOn s now) k next never = refl
onward-further (StopsAt how) k next never = refl

-- ---- steps and then others
pub steps-then : (call : code.Calls) (ss ts : List Step) (rest : Act) (env : Env) (now : flat.Running) → steps_do call (ss ++ ts) rest env now ≡ steps_do call ss (steps_do call ts rest) env now
steps-then call ss ts rest env now = ap (λ (f : Act). f env now) (steps_do-append call ss ts rest)

-- ---- a place inside, and one with the variables of another scope
pub stands-inside : (w : Whole) (own : ℕ) (scope : SymbolScope) (p : Context) → Stands w own scope p → Stands w own scope (inside p)
stands-inside w own scope p s = record { part = s.part; vars = s.vars }

-- ---- settings for further names
abbrev pub fewer : (w : Whole) (names more : Names) → Extends names more → Setting w more → Setting w names
fewer w names more h c = record { all = c.all; more = extends-then names more c.all h c.more; call = c.call; fcall = c.fcall; typed = c.typed; same = c.same }

module _ (w : Whole) (names more : Names) (h : Extends names more) (low high : ℕ) (scope : SymbolScope) where
  pub value-more : (e : _) (steps : List Step) (s : Symbol) → IsValue w names low high scope e steps s → IsValue w more low high scope e steps s
  value-more e steps s v = record {
    simulates = record { by = λ own p wanted stands none older c env now begins rest next same. v.simulates.by own p wanted stands none older (fewer w names more h c) env now begins rest next same };
    formed = v.formed;
    older = v.older;
  }

  pub values-more : (es : _) (steps : List Step) (ss : _) → AreValues w names low high scope es steps ss → AreValues w more low high scope es steps ss
  values-more es steps ss v = record {
    simulate = λ own p wanted stands none older c env now begins rest next never same. v.simulate own p wanted stands none older (fewer w names more h c) env now begins rest next never same;
    formed = v.formed;
    older = v.older;
  }

  pub fields-more : (es : _) (steps : List Step) (ss : _) → AreFields w names low high scope es steps ss → AreFields w more low high scope es steps ss
  fields-more es steps ss v = record {
    simulate = λ own p stands none older c env now begins rest next never same. v.simulate own p stands none older (fewer w names more h c) env now begins rest next never same;
    formed = v.formed;
    older = v.older;
  }

  pub stated-more : (sts : _) (steps : List Step) (inner : SymbolScope) → IsStated w names low high scope sts steps inner → IsStated w more low high scope sts steps inner
  stated-more sts steps inner v = record {
    simulate = λ own p stands none older c env now begins rest next never same. v.simulate own p stands none older (fewer w names more h c) env now begins rest next never same;
    formed = v.formed;
    older = v.older;
  }

-- ---- operands
pub word-of : (env : Env) (s : Symbol) → word_of (value_in env s) ≡ atom_word env (word_operand s)
word-of env (Word a) = refl
word-of env (Truth a) = refl
word-of env (Tuple ss) = refl
word-of env (Record fs) = refl

pub word-fits : (env : Env) (s : Symbol) → Fits env s → atom_word env (word_operand s) < 2 ^ 32
word-fits env (Word a) f = f
word-fits env (Truth a) f = omega arith
word-fits env (Tuple ss) f = omega arith
word-fits env (Record fs) f = omega arith

pub truth-of : (env : Env) (s : Symbol) → truth_of (value_in env s) ≡ not (atom_word env (truth_operand s) == 0)
truth-of env (Word a) = refl
truth-of env (Truth a) = refl
truth-of env (Tuple ss) = refl
truth-of env (Record fs) = refl

pub truth-fits : (env : Env) (s : Symbol) → Fits env s → atom_word env (truth_operand s) ≤ 1
truth-fits env (Word a) f = omega arith
truth-fits env (Truth a) f = f
truth-fits env (Tuple ss) f = omega arith
truth-fits env (Record fs) f = omega arith

pub one-older : (n : ℕ) (a : Atom) → IsOlder n a → AreOlder n (a ∷ [])
one-older n a o = All-cons (IsOlder n) a [] o (All-nil (IsOlder n))

-- ---- one new variable
pub eq-same : (x : ℕ) → nat_eq x x ≡ true
eq-same x = search (tests, rules, arith)

eq-below : (x n : ℕ) → x < n → nat_eq x n ≡ false
eq-below x n h = search (tests, rules, arith)

pub assigned-here : (env : Env) (n v : ℕ) → assigned env n v n ≡ v
assigned-here env n v = ap (λ b. if b then v else env n) (eq-same n)

pub assigned-keeps : (env : Env) (n v : ℕ) → Keeps n env (assigned env n v)
assigned-keeps env n v = λ x below. ap (λ b. if b then v else env x) (eq-below x n below)

-- what follows the definition of a new variable, if it stands for the value that is wanted
pub defined : (low n : ℕ) (env new : Env) (last : Running) (fit : Type 0) (v : ℕ) (r : Symbol) (x : Value) (rest : Act) (next : Value → Running → flat.Result)
    → low ≤ n → Done low env new fit last → value_in (assigned new n v) r ≡ x → Fits (assigned new n v) r
    → ((after : Env) (end : Running) → Done low env after (Fits after r) end → rest after (flat_run end) ≡ next (value_in after r) end)
    → rest (assigned new n v) (flat_run last) ≡ next x last
defined low n env new last fit v r x rest next le done is fits same =
    same (assigned new n v) last (record { sizes = done.sizes; keeps = λ y below. assigned-keeps new n v y (omega arith) ∙ done.keeps y below; fits = fits })
    ∙ ap (λ z. next z last) is

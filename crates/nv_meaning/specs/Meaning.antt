-- What a program means: by recursion on its text and on the number of calls, over words, truths, tuples and records.
-- Evaluation is strict and from left to right. Where a program is not typed, what it asks for has a harmless answer.
use Rattle.std.specs.Prelude.{ℕ, zero, suc, true, false, not, if◌then◌else◌, List, [], ◌∷◌, Option, Some, None, codes}
use Rattle.nv_base.specs.declared.outcome.Outcome.TheVariants as outcome
use Rattle.nv_base.specs.Words.{word, word_not}
use Rattle.nv_base.specs.Memories.{Memories}
use Rattle.nv_base.specs.Meanings.{Meaning}
use Rattle.nv_ast.specs.declared.tree.Op.{Op}
use Rattle.nv_ast.specs.declared.tree.Op.TheVariants.{Both, Either}
use Rattle.nv_ast.specs.Tree.{Tree, NumberTree, TruthTree, VarTree, ParenTree, TupleTree, FieldsTree, DotTree, InvertTree, NegateTree, BinaryTree, ShiftTree, CallTree, UnpackTree, PackTree, RaiseTree, IfTree, TryTree, FetchTree, BlockTree, Trees, no_trees, tree_and, NamedTrees, no_named_trees, named_tree_and, StatementTree, LetStatement, StoreStatement, StatementTrees, no_statements, statement_and}
use Rattle.nv_ast.specs.Tree.{NamedLayout, NamedTypes, named_type_and, FunTree, ProgramTree}
use Rattle.nv_ast.specs.Outline.{outline}
use Rattle.nv_ast.specs.Types.{named_types_of}
use Rattle.nv_meaning_values.specs.Values.{Word, Truth, Tuple, Record, Values, no_values, value_and, NamedValues, no_named_values, named_value_and, named_values_from, Scope, variable_in, word_of, truth_of, fields_of, field_named, words_of, all_matched, matched}
pub use Rattle.nv_meaning_values.specs.Operators.{combined, shifted}
pub use Rattle.nv_meaning_values.specs.Declarations.{Declared, with_decl, with_decls, declared, function_in, groups_from, group_in}
use Rattle.nv_meaning_values.specs.Packing.{unpacked_value, packed_value}
use Rattle.nv_meaning_values.specs.Running.{Chain, Running, Result, Gives, Raises, Halts, Results, GiveAll, NamedResults, GiveNamed, Stated, GoesOn, and_then, and_all, and_named, and_stated, and_further, then_more, then_named, then_stated, before_rest, before_named, handled, exception_number, fetch, store, taken, calling, back_to, TracedOutcome, closed, untraced}

-- ---- operators: the left operand first; && and || evaluate the right one only where it decides
abbrev pub binary : Op → Result → (Running → Result) → Result
binary Both left right = and_then left (λ v now. if truth_of v then right now else Gives (Truth false) now)
binary Either left right = and_then left (λ v now. if truth_of v then Gives (Truth true) now else right now)
binary op left right = and_then left (λ v now. and_then (right now) (λ w last. Gives (combined op (word_of v) (word_of w)) last))

-- ---- expressions

-- what a call of a function with these values comes to
abbrev pub Calls : Type 0
Calls = List ℕ → Values → Running → Result

-- what an expression comes to in a scope, given what calls come to
abbrev mutual
  -- a number has at most 32 bits; of a larger one, which no text has, the lowest 32 are taken
  pub eval : Declared → Calls → Tree → Scope → Running → Result
  eval d call (NumberTree s n) scope now = Gives (Word (word n)) now
  eval d call (TruthTree s b) scope now = Gives (Truth b) now
  eval d call (VarTree s x) scope now = Gives (variable_in scope x) now
  eval d call (ParenTree s e) scope now = eval d call e scope now
  eval d call (TupleTree s es) scope now = and_all (eval_all d call es scope now) (λ vs last. Gives (Tuple vs) last)
  eval d call (FieldsTree s es) scope now = and_named (eval_named d call es scope now) (λ vs last. Gives (Record vs) last)
  eval d call (DotTree s e x) scope now = and_then (eval d call e scope now) (λ v last. Gives (field_named x (fields_of v)) last)
  eval d call (InvertTree s e) scope now = and_then (eval d call e scope now) (λ v last. Gives (Word (word_not (word_of v))) last)
  eval d call (NegateTree s e) scope now = and_then (eval d call e scope now) (λ v last. Gives (Truth (not (truth_of v))) last)
  eval d call (BinaryTree s op a b) scope now = binary op (eval d call a scope now) (λ next. eval d call b scope next)
  eval d call (ShiftTree s op e n) scope now = and_then (eval d call e scope now) (λ v last. Gives (Word (shifted op n (word_of v))) last)
  eval d call (CallTree s f es) scope now = and_all (eval_all d call es scope now) (λ vs next. call f vs next)
  eval d call (UnpackTree s l e) scope now = and_then (eval d call e scope now) (λ v last. Gives (unpacked_value (outline d.layouts (NamedLayout l)) v) last)
  eval d call (PackTree s l e) scope now = and_then (eval d call e scope now) (λ v last. Gives (packed_value (outline d.layouts (NamedLayout l)) v) last)
  eval d call (RaiseTree s x es) scope now = and_all (eval_all d call es scope now) (λ vs last. Raises (exception_number d.exceptions x) vs last)
  eval d call (IfTree s c a b) scope now = and_then (eval d call c scope now) (λ v next. if truth_of v then eval d call a scope next else eval d call b scope next)
  eval d call (TryTree s a x ps h) scope now = handled (exception_number d.exceptions x) (λ vs next. eval d call h (all_matched ps vs scope) next) (eval d call a scope now)
  eval d call (FetchTree s m n e) scope now = and_then (eval d call e scope now) (λ v next. fetch m n (word_of v) next)
  eval d call (BlockTree s sts e) scope now = and_stated (run_all d call sts scope now) (λ inner next. eval d call e inner next)

  pub eval_all : Declared → Calls → Trees → Scope → Running → Results
  eval_all d call no_trees scope now = GiveAll no_values now
  eval_all d call (tree_and e es) scope now = then_more (eval d call e scope now) (λ v next. before_rest v (eval_all d call es scope next))

  pub eval_named : Declared → Calls → NamedTrees → Scope → Running → NamedResults
  eval_named d call no_named_trees scope now = GiveNamed no_named_values now
  eval_named d call (named_tree_and x e es) scope now = then_named (eval d call e scope now) (λ v next. before_named x v (eval_named d call es scope next))

  -- a let gives names to the parts of a value; a store evaluates the address, then the value
  pub run_one : Declared → Calls → StatementTree → Scope → Running → Stated
  run_one d call (LetStatement s p e) scope now = then_stated (eval d call e scope now) (λ v next. GoesOn (matched p v scope) next)
  run_one d call (StoreStatement s m a e) scope now = then_stated (eval d call a scope now) (λ v next. then_stated (eval d call e scope next) (λ w last. store s scope m (word_of v) (words_of w) last))

  pub run_all : Declared → Calls → StatementTrees → Scope → Running → Stated
  run_all d call no_statements scope now = GoesOn scope now
  run_all d call (statement_and st sts) scope now = and_further (run_one d call st scope now) (λ inner next. run_all d call sts inner next)

-- ---- calls

-- the parameters of a function with their values
abbrev pub entered : NamedTypes → Values → Scope → Scope
entered (named_type_and x t ts) (value_and v vs) scope = entered ts vs ((x, v) ∷ scope)
entered _ _ scope = scope

-- what the body of a function comes to; a call of no function is going for ever
abbrev pub enter : Declared → Calls → Option FunTree → Values → Running → Result
enter d call (Some f) vs now = eval d call f.body (entered f.params vs []) now
enter d call None vs now = Halts outcome.Going now

-- calls that lie at most so deep in one another. The n calls of a run are counted in the run itself, wherever they stand,
-- and n calls never lie deeper than n. While a body runs, its function is among the calls in progress.
abbrev pub calls_within : ℕ → Declared → Calls
calls_within zero d f vs now = Halts outcome.Going now
calls_within (suc depth) d f vs now = back_to now.chain (taken now.calls now (λ next. enter d (calls_within depth d) (function_in d.functions f) vs (calling (f, group_in d.functions next.chain.groups f) next)))

-- ---- programs

-- main's parameters, with their values out of the argument words
abbrev pub named_scope : NamedValues → Scope → Scope
named_scope no_named_values scope = scope
named_scope (named_value_and x v vs) scope = named_scope vs ((x, v) ∷ scope)

-- what main comes to on these arguments, with this many calls; its start takes none
abbrev pub run_main : Declared → Option FunTree → List ℕ → ℕ → Running → Result
run_main d (Some f) args n now = eval d (calls_within n d) f.body (named_scope (named_values_from (named_types_of d.layouts f.params) args) []) now
run_main d None args n now = Halts outcome.Going now

-- main alone is in progress
abbrev pub in_main : Declared → List ℕ → Chain
in_main d groups = record { groups = groups; calls = (codes "main", group_in d.functions groups (codes "main")) ∷ [] }

-- the meaning of a program on these arguments and memories, with where each write is made: its full outcome for each number of calls
abbrev pub traced : ProgramTree → List ℕ → Memories → ℕ → TracedOutcome
traced t args p n = closed (run_main (declared t) (function_in (declared t).functions (codes "main")) args n (record { calls = n; packet = p; writes = []; chain = in_main (declared t) (groups_from 0 t.decls) }))

-- the same without where
abbrev pub source : ProgramTree → List ℕ → Memories → Meaning
source t args p n = untraced (traced t args p n)

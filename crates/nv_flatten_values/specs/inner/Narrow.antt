-- How wide the flat code of an expression is: a bound by the variables in scope that are written in it, and by its need.
use Rattle.std.specs.Prelude.{◌≡◌, ℕ, ◌+◌, ◌≤◌, nat_lt, true, List, [], ◌∷◌, ◌++◌, All, length, Option, Some, None, slice_get}
use Rattle.nv_base.specs.declared.term.Atom.{Atom}
use Rattle.nv_ast.specs.Tree.{Tree, Trees, NamedTrees, StatementTree, StatementTrees, FunTree}
use Rattle.nv_ast.specs.Types.{words, total_named_words, type_of}
use Rattle.nv_ast.specs.Tests.{value_at}
use Rattle.nv_ast.specs.Scope.{Context}
use Rattle.nv_ast.specs.Faults.{Expected, faults, list_faults, named_faults, statement_faults, statements_faults}
use Rattle.nv_ast.specs.Sizes.{GroupNumbers, Lets, variables, variables_all, variables_named, variables_statement, variables_statements, let_of, lets_behind, pending, need, words_all, need_all, words_named, need_named, need_statement, need_statements}
use Rattle.nv_meaning.specs.Meaning.{function_in}
use Rattle.flat_ir.specs.declared.flat.Flat.{Flat}
use Rattle.flat_ir.specs.declared.flat.Flat.TheVariants.{Give}
use Rattle.flat_ir.specs.declared.flat.FlatFun.{FlatFun}
use Rattle.flat_ir.specs.declared.spine.Step.{Step}
use Rattle.nv_base.specs.Sets.{is_in, different, all_vars}
use Rattle.flat_ir.specs.Wide.{live, Widths, code_wide}
use Rattle.flat_ir.specs.Pieces.{steps_live, steps_wide}
use Rattle.nv_flatten_values.specs.inner.Symbols.{Symbol, Symbols, NamedSymbols, SymbolScope, operands, all_operands, named_operands, symbol_in}
use Rattle.nv_flatten_values.specs.inner.Whole.{Whole, Stands, group_of}
use Rattle.nv_flatten_values.specs.inner.Simulation.{Names, Extends}
use Rattle.nv_flatten_values.specs.inner.Made.{params_in, entry}

-- ---- sets of variables, as lists

-- what is in the first is in the second
pub record IsWithin (a b : List ℕ) : Type 0 where
  pub by : (x : ℕ) → is_in x a ≡ true → is_in x b ≡ true

-- beside whatever others, the second has at most so many more than the first
pub record AddsAtMost (a b : List ℕ) (more : ℕ) : Type 0 where
  pub by : (others : List ℕ) → different (others ++ b) ≤ different (others ++ a) + more

-- the variables that names stand for
abbrev pub written : SymbolScope → List (List ℕ) → List ℕ
written scope [] = []
written scope (x ∷ xs) = all_vars (operands (symbol_in scope x)) ++ written scope xs

-- ---- steps and code

-- where some variables and those of `behind` are wanted after the steps, these and those of `before` are wanted before them, and no place is wider than these, those of `base` and N words
pub record NarrowSteps (funs : List FlatFun) (widths : Widths) (own : ℕ) (steps : List Step) (before base behind : List ℕ) (more : ℕ) : Type 0 where
  pub lives : (kept wanted : List ℕ) → IsWithin wanted (kept ++ behind) → IsWithin (steps_live steps wanted) (kept ++ before)
  pub narrow : (outside kept wanted : List ℕ) (n limit : ℕ) → IsWithin wanted (kept ++ behind) → n ≤ limit → different (outside ++ (kept ++ base)) + more ≤ limit → steps_wide funs widths own outside steps wanted n ≤ limit

-- the same of code, after which nothing is wanted but outside of it
pub record NarrowCode (funs : List FlatFun) (widths : Widths) (own : ℕ) (t : Flat) (before base : List ℕ) (more : ℕ) : Type 0 where
  pub lives : IsWithin (live t) before
  pub narrow : (outside : List ℕ) (limit : ℕ) → different (outside ++ base) + more ≤ limit → code_wide funs widths own outside t ≤ limit

-- steps that only compute, from these operands to those
pub record AreNarrowLets (given : List Atom) (steps : List Step) (found : List Atom) : Type 0 where
  pub by : (funs : List FlatFun) (widths : Widths) (own : ℕ) → NarrowSteps funs widths own steps (all_vars given) [] (all_vars found) (length given + (length found + 4))

-- ---- calls

-- the flat functions that calls in group `own` go to: how many words they give, and in an earlier group that its width is at most the need
pub record CallsNarrow (w : Whole) (all : Names) (own : ℕ) (needs : GroupNumbers) (funs : List FlatFun) (widths : Widths) : Type 0 where
  pub results : (i : ℕ) (f : List ℕ) (g : FunTree) (fun : FlatFun) → slice_get all i ≡ Some f → function_in w.declared.functions f ≡ Some g → slice_get funs i ≡ Some fun → fun.results ≡ words (type_of w.declared.layouts g.result)
  pub earlier : (i : ℕ) (f : List ℕ) (g : FunTree) (fun : FlatFun) → slice_get all i ≡ Some f → function_in w.declared.functions f ≡ Some g → slice_get funs i ≡ Some fun → nat_lt fun.group own ≡ true → widths fun.group ≤ value_at 0 f needs

-- a group's body among all flat functions, for these names and further ones
pub record Room (w : Whole) (names : Names) : Type 0 where
  pub own : ℕ
  pub needs : GroupNumbers
  pub all : Names
  pub more : Extends names all
  pub funs : List FlatFun
  pub widths : Widths
  pub calls : CallsNarrow w all own needs funs widths

-- ---- what the steps and the code of expressions keep: the variables are those that are written in them, and the words their need
pub record IsNarrowValue (w : Whole) (names : Names) (scope : SymbolScope) (e : Tree) (steps : List Step) (s : Symbol) : Type 0 where
  pub by : (c : Room w names) (p : Context) (wanted : Expected) → Stands w c.own scope p → faults p wanted e ≡ []
      → NarrowSteps c.funs c.widths c.own steps (written scope (variables e)) (written scope (variables e)) (all_vars (operands s)) (need c.needs p.known p.vars e)

pub record AreNarrowValues (w : Whole) (names : Names) (scope : SymbolScope) (es : Trees) (steps : List Step) (ss : Symbols) : Type 0 where
  pub by : (c : Room w names) (p : Context) (wanted : List Expected) → All (λ x. x.value ≡ true) wanted → Stands w c.own scope p → list_faults p wanted es ≡ []
      → NarrowSteps c.funs c.widths c.own steps (written scope (variables_all es)) (written scope (variables_all es)) (all_vars (all_operands ss)) (words_all p.known p.vars es + need_all c.needs p.known p.vars es)

pub record AreNarrowFields (w : Whole) (names : Names) (scope : SymbolScope) (es : NamedTrees) (steps : List Step) (ss : NamedSymbols) : Type 0 where
  pub by : (c : Room w names) (p : Context) → Stands w c.own scope p → named_faults p es ≡ []
      → NarrowSteps c.funs c.widths c.own steps (written scope (variables_named es)) (written scope (variables_named es)) (all_vars (named_operands ss)) (words_named p.known p.vars es + need_named c.needs p.known p.vars es)

pub record IsNarrowTest (w : Whole) (names : Names) (scope : SymbolScope) (e : Tree) (steps : List Step) (a b : Atom) : Type 0 where
  pub by : (c : Room w names) (p : Context) (wanted : Expected) → Stands w c.own scope p → faults p wanted e ≡ []
      → NarrowSteps c.funs c.widths c.own steps (written scope (variables e)) (written scope (variables e)) (all_vars (a ∷ b ∷ [])) (need c.needs p.known p.vars e)

pub record IsNarrowEnd (w : Whole) (names : Names) (scope : SymbolScope) (e : Tree) (t : Flat) : Type 0 where
  pub by : (c : Room w names) (p : Context) (wanted : Expected) → Stands w c.own scope p → faults p wanted e ≡ []
      → NarrowCode c.funs c.widths c.own t (written scope (variables e)) (written scope (variables e)) (need c.needs p.known p.vars e)

-- of the names that are written behind lets, those in scope stand for at most so many more variables than those outside
pub record Pends (outer scope : SymbolScope) (lets : Lets) : Type 0 where
  pub by : (names : List (List ℕ)) → AddsAtMost (written outer names) (written scope names) (pending lets names)

-- a statement, and statements, after the lets of a block, where these names are written after them in the block
pub record IsNarrowStatement (w : Whole) (names : Names) (scope : SymbolScope) (st : StatementTree) (steps : List Step) (inner : SymbolScope) : Type 0 where
  pub pends : (own : ℕ) (p : Context) → Stands w own scope p → statement_faults p st ≡ [] → Pends scope inner (let_of p.known p.vars st)
  pub by : (c : Room w names) (p : Context) → Stands w c.own scope p → statement_faults p st ≡ []
      → (outer : SymbolScope) (lets : Lets) → Pends outer scope lets → (tail : List (List ℕ))
      → NarrowSteps c.funs c.widths c.own steps (written scope (variables_statement st ++ tail)) (written outer (variables_statement st ++ tail)) (written inner tail) (pending lets (variables_statement st ++ tail) + need_statement c.needs p.known p.vars st)

pub record IsNarrowStated (w : Whole) (names : Names) (scope : SymbolScope) (sts : StatementTrees) (steps : List Step) (inner : SymbolScope) : Type 0 where
  pub pends : (own : ℕ) (p : Context) → Stands w own scope p → statements_faults p sts ≡ [] → Pends scope inner (lets_behind p.known p.vars sts)
  pub by : (c : Room w names) (p : Context) → Stands w c.own scope p → statements_faults p sts ≡ []
      → (outer : SymbolScope) (lets : Lets) → Pends outer scope lets → (tail : List (List ℕ))
      → NarrowSteps c.funs c.widths c.own steps (written scope (variables_statements sts ++ tail)) (written outer (variables_statements sts ++ tail)) (written inner tail) (need_statements c.needs p.known p.vars lets sts tail)

-- ---- functions

-- a flat function that is made of this one
pub record IsNarrowFun (w : Whole) (all : Names) (f : List ℕ) (g : FunTree) (fun : FlatFun) : Type 0 where
  pub names : Names
  pub more : Extends names all
  pub group : group_of w f ≡ Some fun.group
  pub params : length fun.params.items ≡ total_named_words (params_in w g)
  pub results : fun.results ≡ words (type_of w.declared.layouts g.result)
  pub end : IsNarrowEnd w names (entry w g) g.body fun.body

-- one that gives nothing, in the first group
pub record IsEmptyFun (fun : FlatFun) : Type 0 where
  pub group : fun.group ≡ 0
  pub params : fun.params.items ≡ []
  pub body : (bs : _) × (fun.body ≡ Give bs) × (bs.items ≡ [])

-- each flat function is made of the function with its number's name, or is empty where there is none
abbrev pub IsNarrowOf : Whole → Names → List ℕ → Option FunTree → FlatFun → Type 0
IsNarrowOf w all f (Some g) fun = IsNarrowFun w all f g fun
IsNarrowOf w all f None fun = IsEmptyFun fun

pub record AreNarrowFuns (w : Whole) (all : Names) (funs : List FlatFun) : Type 0 where
  pub by : (i : ℕ) (fun : FlatFun) → slice_get funs i ≡ Some fun → (f : List ℕ) × (slice_get all i ≡ Some f) × IsNarrowOf w all f (function_in w.declared.functions f) fun

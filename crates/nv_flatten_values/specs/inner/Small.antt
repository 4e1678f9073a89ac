-- How much flat code an expression makes: a bound by its expanded size.
use Rattle.std.specs.Prelude.{◌≡◌, ℕ, ◌+◌, ◌*◌, ◌≤◌, nat_lt, Bool, true, if◌then◌else◌, List, [], length, Option, Some, slice_get}
use Rattle.nv_base.specs.declared.term.Atom.{Atom}
use Rattle.nv_ast.specs.Tree.{Tree, Trees, NamedTrees, StatementTrees, FunTree}
use Rattle.nv_ast.specs.Types.{words, packed_words}
use Rattle.nv_ast.specs.Outline.{OutlineTree, bit_fields}
use Rattle.nv_ast.specs.Tests.{value_at}
use Rattle.nv_ast.specs.Scope.{Context}
use Rattle.nv_ast.specs.Faults.{Expected, faults, list_faults, named_faults, statements_faults}
use Rattle.nv_ast.specs.Sizes.{GroupNumbers, expanded, expanded_all, expanded_named, expanded_statements}
use Rattle.nv_meaning.specs.Meaning.{function_in}
use Rattle.flat_ir.specs.declared.flat.Flat.{Flat}
use Rattle.flat_ir.specs.declared.flat.FlatFun.{FlatFun}
use Rattle.flat_ir.specs.declared.spine.Step.{Step}
use Rattle.nv_base.specs.Measures.{Bulk, nothing, a_label, a_jump, both, IsAtMost}
use Rattle.flat_ir.specs.Bulk.{Bulks, code_bulk}
use Rattle.flat_ir.specs.Pieces.{steps_bulk}
use Rattle.nv_flatten_values.specs.inner.Code.{is_given, is_comparison, form_or_unit}
use Rattle.nv_flatten_values.specs.inner.Made.{entry}
use Rattle.nv_flatten_values.specs.inner.Simulation.{Names, Extends}
use Rattle.nv_flatten_values.specs.inner.Symbols.{Symbol, Symbols, NamedSymbols, SymbolScope, operands, all_operands, named_operands}
use Rattle.nv_flatten_values.specs.inner.Whole.{Whole, Stands, group_of}

-- what an expanded size of so many stands for
abbrev pub of_parts : ℕ → Bulk
of_parts n = record { labels = n; jumps = n; nodes = n; defined = n; used = 2 * n }

-- words that a node behind may use
abbrev pub uses : ℕ → Bulk
uses n = record { labels = 0; jumps = 0; nodes = 0; defined = 0; used = n }

-- N nodes that compute
abbrev pub lets : ℕ → Bulk
lets n = record { labels = 0; jumps = 0; nodes = n; defined = n; used = 2 * n }

-- what may still come after an expression within its own size: where steps give its value, a label and a jump that gives it
abbrev pub value_rest : Tree → Bulk
value_rest e = if is_given e then both a_label a_jump else nothing

-- after a comparison, a choice between two jumps, and a label with a word
abbrev pub test_rest : Tree → Bulk
test_rest e = if is_comparison e then record { labels = 1; jumps = 2; nodes = 1; defined = 0; used = 3 } else nothing

-- ---- calls

-- in group `own`: a flat function of an earlier group has at most its group's size, of which a label and a jump are left
pub record CallsSmall (w : Whole) (all : Names) (own : ℕ) (sizes : GroupNumbers) (funs : List FlatFun) (bulks : Bulks) : Type 0 where
  pub earlier : (i : ℕ) (f : List ℕ) (g : FunTree) (fun : FlatFun) → slice_get all i ≡ Some f → function_in w.declared.functions f ≡ Some g → slice_get funs i ≡ Some fun → nat_lt fun.group own ≡ true
      → IsAtMost (both (both a_label a_jump) (bulks fun.group)) (of_parts (value_at 0 f sizes))

-- a group's body among all flat functions, for these names and further ones
pub record Sized (w : Whole) (names : Names) : Type 0 where
  pub own : ℕ
  pub sizes : GroupNumbers
  pub all : Names
  pub more : Extends names all
  pub funs : List FlatFun
  pub bulks : Bulks
  pub calls : CallsSmall w all own sizes funs bulks

-- ---- the steps and the code of expressions are within their expanded size, with the words of the value, which a node behind may use
pub record IsSmallValue (w : Whole) (names : Names) (scope : SymbolScope) (e : Tree) (steps : List Step) (s : Symbol) : Type 0 where
  pub by : (c : Sized w names) (p : Context) (wanted : Expected) → Stands w c.own scope p → faults p wanted e ≡ []
      → IsAtMost (both (steps_bulk c.funs c.bulks c.own steps nothing) (both (value_rest e) (uses (length (operands s))))) (of_parts (expanded c.sizes p.known p.vars e))

pub record AreSmallValues (w : Whole) (names : Names) (scope : SymbolScope) (es : Trees) (steps : List Step) (ss : Symbols) : Type 0 where
  pub by : (c : Sized w names) (p : Context) (wanted : List Expected) → Stands w c.own scope p → list_faults p wanted es ≡ []
      → IsAtMost (both (steps_bulk c.funs c.bulks c.own steps nothing) (uses (length (all_operands ss)))) (of_parts (expanded_all c.sizes p.known p.vars es))

pub record AreSmallFields (w : Whole) (names : Names) (scope : SymbolScope) (es : NamedTrees) (steps : List Step) (ss : NamedSymbols) : Type 0 where
  pub by : (c : Sized w names) (p : Context) → Stands w c.own scope p → named_faults p es ≡ []
      → IsAtMost (both (steps_bulk c.funs c.bulks c.own steps nothing) (uses (length (named_operands ss)))) (of_parts (expanded_named c.sizes p.known p.vars es))

pub record IsSmallStated (w : Whole) (names : Names) (scope : SymbolScope) (sts : StatementTrees) (steps : List Step) : Type 0 where
  pub by : (c : Sized w names) (p : Context) → Stands w c.own scope p → statements_faults p sts ≡ []
      → IsAtMost (steps_bulk c.funs c.bulks c.own steps nothing) (of_parts (expanded_statements c.sizes p.known p.vars sts))

pub record IsSmallTest (w : Whole) (names : Names) (scope : SymbolScope) (e : Tree) (steps : List Step) : Type 0 where
  pub by : (c : Sized w names) (p : Context) (wanted : Expected) → Stands w c.own scope p → faults p wanted e ≡ []
      → IsAtMost (both (steps_bulk c.funs c.bulks c.own steps nothing) (test_rest e)) (of_parts (expanded c.sizes p.known p.vars e))

-- whether or not what the code gives is what the function gives; a label is left, at which the words may come
pub record IsSmallEnd (w : Whole) (names : Names) (scope : SymbolScope) (e : Tree) (t : Flat) (o : Option Symbol) : Type 0 where
  pub by : (c : Sized w names) (p : Context) (wanted : Expected) → Stands w c.own scope p → faults p wanted e ≡ [] → (last : Bool)
      → IsAtMost (both (code_bulk c.funs c.bulks c.own last t) (both a_label (uses (words (form_or_unit o))))) (of_parts (expanded c.sizes p.known p.vars e))

-- ---- steps that only compute

-- at most so many
pub record AreFewLets (steps : List Step) (most : ℕ) : Type 0 where
  pub count : ℕ
  pub bulk : (funs : List FlatFun) (bulks : Bulks) (own : ℕ) → steps_bulk funs bulks own steps nothing ≡ lets count
  pub few : count ≤ most

-- those that pack a record by a layout: for each field 3, and 2 more for one that lies in two words, of which there are at most as many as fields and as words
pub record PacksFew (o : OutlineTree) (values : List Atom) (steps : List Step) : Type 0 where
  pub fields : ℕ
  pub across : ℕ
  pub few : AreFewLets steps (3 * fields + 2 * across)
  pub all : fields ≤ length (bit_fields 0 o)
  pub given : fields ≤ length values
  pub some : across ≤ fields
  pub words : across ≤ packed_words o

-- ---- functions

-- a flat function that is made of this one
pub record IsSmallFun (w : Whole) (all : Names) (f : List ℕ) (g : FunTree) (fun : FlatFun) : Type 0 where
  pub names : Names
  pub more : Extends names all
  pub group : group_of w f ≡ Some fun.group
  pub form : Option Symbol
  pub end : IsSmallEnd w names (entry w g) g.body fun.body form

-- each flat function is made of the function with its number's name, and no two of the same
pub record AreSmallFuns (w : Whole) (all : Names) (funs : List FlatFun) : Type 0 where
  pub by : (i : ℕ) (fun : FlatFun) → slice_get funs i ≡ Some fun → (f : List ℕ) × (g : FunTree) × (slice_get all i ≡ Some f) × (function_in w.declared.functions f ≡ Some g) × IsSmallFun w all f g fun
  pub once : (i j : ℕ) (f : List ℕ) → slice_get all i ≡ Some f → slice_get all j ≡ Some f → i ≡ j

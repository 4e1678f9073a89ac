-- What the walk says of the steps and the code that it makes of an expression: all that holds of them, in one.
use Rattle.std.specs.Prelude.{ℕ, List, Option}
use Rattle.nv_base.specs.declared.term.Atom.{Atom}
use Rattle.nv_base.specs.declared.term.Cmp.{Cmp}
use Rattle.nv_ast.specs.Tree.{Tree, Trees, NamedTrees, StatementTree, StatementTrees, no_statements, statement_and}
use Rattle.flat_ir.specs.declared.flat.Flat.{Flat}
use Rattle.flat_ir.specs.declared.spine.Step.{Step}
use Rattle.nv_flatten_values.specs.inner.Symbols.{Symbol, Symbols, NamedSymbols, SymbolScope}
use Rattle.nv_flatten_values.specs.inner.Whole.{Whole}
use Rattle.nv_flatten_values.specs.inner.Simulation.{Names, IsValue, AreValues, AreFields, IsStated, IsTest, IsEnd}
use Rattle.nv_flatten_values.specs.inner.Well.{IsWellValue, AreWellValues, AreWellFields, IsWellStated, IsWellTest, IsWellEnd}
use Rattle.nv_flatten_values.specs.inner.Narrow.{IsNarrowValue, AreNarrowValues, AreNarrowFields, IsNarrowStatement, IsNarrowStated, IsNarrowTest, IsNarrowEnd}
use Rattle.nv_flatten_values.specs.inner.Small.{IsSmallValue, AreSmallValues, AreSmallFields, IsSmallStated, IsSmallTest, IsSmallEnd}

-- what it does, that it is well formed, and how wide and how large it is; names are added to the old ones, and variables are new from `low` on and come before `high`
pub record IsFlatValue (w : Whole) (old names : Names) (low high : ℕ) (scope : SymbolScope) (e : Tree) (steps : List Step) (s : Symbol) : Type 0 where
  pub same : IsValue w names low high scope e steps s
  pub well : IsWellValue w old names low high scope e steps s
  pub narrow : IsNarrowValue w names scope e steps s
  pub small : IsSmallValue w names scope e steps s

pub record AreFlatValues (w : Whole) (old names : Names) (low high : ℕ) (scope : SymbolScope) (es : Trees) (steps : List Step) (ss : Symbols) : Type 0 where
  pub same : AreValues w names low high scope es steps ss
  pub well : AreWellValues w old names low high scope es steps ss
  pub narrow : AreNarrowValues w names scope es steps ss
  pub small : AreSmallValues w names scope es steps ss

pub record AreFlatFields (w : Whole) (old names : Names) (low high : ℕ) (scope : SymbolScope) (es : NamedTrees) (steps : List Step) (ss : NamedSymbols) : Type 0 where
  pub same : AreFields w names low high scope es steps ss
  pub well : AreWellFields w old names low high scope es steps ss
  pub narrow : AreNarrowFields w names scope es steps ss
  pub small : AreSmallFields w names scope es steps ss

pub record IsFlatStatement (w : Whole) (old names : Names) (low high : ℕ) (scope : SymbolScope) (st : StatementTree) (steps : List Step) (inner : SymbolScope) : Type 0 where
  pub same : IsStated w names low high scope (statement_and st no_statements) steps inner
  pub well : IsWellStated w old names low high scope (statement_and st no_statements) steps inner
  pub narrow : IsNarrowStatement w names scope st steps inner
  pub small : IsSmallStated w names scope (statement_and st no_statements) steps

pub record IsFlatStated (w : Whole) (old names : Names) (low high : ℕ) (scope : SymbolScope) (sts : StatementTrees) (steps : List Step) (inner : SymbolScope) : Type 0 where
  pub same : IsStated w names low high scope sts steps inner
  pub well : IsWellStated w old names low high scope sts steps inner
  pub narrow : IsNarrowStated w names scope sts steps inner
  pub small : IsSmallStated w names scope sts steps

pub record IsFlatTest (w : Whole) (old names : Names) (low high : ℕ) (scope : SymbolScope) (e : Tree) (steps : List Step) (c : Cmp) (a b : Atom) : Type 0 where
  pub same : IsTest w names low high scope e steps c a b
  pub well : IsWellTest w old names low high scope e steps a b
  pub narrow : IsNarrowTest w names scope e steps a b
  pub small : IsSmallTest w names scope e steps

pub record IsFlatEnd (w : Whole) (old names : Names) (low high : ℕ) (scope : SymbolScope) (e : Tree) (t : Flat) (o : Option Symbol) : Type 0 where
  pub same : IsEnd w names low high scope e t o
  pub well : IsWellEnd w old names low high scope e t
  pub narrow : IsNarrowEnd w names scope e t
  pub small : IsSmallEnd w names scope e t o

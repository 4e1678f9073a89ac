-- Steps that were added behind others and only compute.
use Rattle.std.specs.Prelude.{◌≡◌, ℕ, ◌+◌, List, [], ◌++◌, length}
use Rattle.nv_base.specs.declared.term.Atom.{Atom}
use Rattle.nv_base.specs.Words.{atom_vars}
use Rattle.flat_ir.specs.declared.flat.FlatFun.{FlatFun}
use Rattle.flat_ir.specs.declared.spine.Step.{Step}
use Rattle.nv_base.specs.Sets.{all_vars}
use Rattle.flat_ir.specs.Wide.{Widths}
use Rattle.nv_flatten_values.specs.inner.Symbols.{Symbol, NamedSymbols, operands, named_operands}
use Rattle.nv_flatten_values.specs.inner.Well.{AreWellLets}
use Rattle.nv_flatten_values.specs.inner.Narrow.{IsWithin, NarrowSteps}
use Rattle.nv_flatten_values.specs.inner.Small.{AreFewLets}

-- steps were added, from these operands to those
pub record AddsLets (low high : ℕ) (given : List Atom) (old new : List Step) (found : List Atom) : Type 0 where
  pub steps : List Step
  pub added : new ≡ old ++ steps
  pub lets : AreWellLets low high given steps found

-- and fields, from words
abbrev pub AddsFields : ℕ → ℕ → List Atom → List Step → List Step → NamedSymbols → NamedSymbols → Type 0
AddsFields low high words old new before after = AddsLets low high (words ++ named_operands before) old new (named_operands after)

-- and words took the place of others, from a symbolic value
abbrev pub AddsWords : ℕ → ℕ → Symbol → List Step → List Step → List Atom → List Atom → Type 0
AddsWords low high s old new before after = AddsLets low high (operands s ++ before) old new after

-- steps were added that make an operand of others: at most N steps, and no place wider than N words more than what is kept
pub record AddsWord (needs : List Atom) (old new : List Step) (a : Atom) (more most : ℕ) : Type 0 where
  pub steps : List Step
  pub added : new ≡ old ++ steps
  pub narrow : (funs : List FlatFun) (widths : Widths) (own : ℕ) (kept : List ℕ) → IsWithin (all_vars needs) kept → NarrowSteps funs widths own steps kept [] (kept ++ atom_vars a) (length kept + more)
  pub few : AreFewLets steps most

-- Steps that were added and read fields out of words: how wide they are, and how many.
use Rattle.std.specs.Prelude.{◌≡◌, ℕ, ◌+◌, ◌*◌, ◌≤◌, List, [], ◌++◌, length}
use Rattle.nv_base.specs.declared.term.Atom.{Atom}
use Rattle.flat_ir.specs.declared.flat.FlatFun.{FlatFun}
use Rattle.flat_ir.specs.declared.spine.Step.{Step}
use Rattle.nv_base.specs.Sets.{all_vars}
use Rattle.flat_ir.specs.Wide.{Widths}
use Rattle.nv_flatten_values.specs.inner.Symbols.{NamedSymbols, named_operands}
use Rattle.nv_flatten_values.specs.inner.Narrow.{NarrowSteps}
use Rattle.nv_flatten_values.specs.inner.Small.{AreFewLets}

-- fields were added behind others: at most 4 steps for each of so many bit fields, and no place wider than the words, all fields and 4 more
pub record ReadsFew (words : List Atom) (old new : List Step) (before after : NamedSymbols) (bits : ℕ) : Type 0 where
  pub steps : List Step
  pub added : new ≡ old ++ steps
  pub more : length (named_operands before) ≤ length (named_operands after)
  pub narrow : (funs : List FlatFun) (widths : Widths) (own : ℕ) → NarrowSteps funs widths own steps (all_vars (words ++ named_operands before)) [] (all_vars (words ++ named_operands after)) (length words + (length (named_operands after) + 4))
  pub few : AreFewLets steps (4 * bits)

-- How many fields packing writes, and what the steps cost that write them.
use Rattle.std.specs.Prelude.{◌≡◌, ℕ, ◌+◌, ◌*◌, ◌/◌, ◌≤◌, if◌then◌else◌, List, [], ◌++◌, length}
use Rattle.nv_base.specs.declared.term.Atom.{Atom}
use Rattle.nv_ast.specs.Outline.{OutlineTree, BitsOutline, GapOutline, PartsOutline, OverlayOutline, JoinedOutline, OutlineTrees, no_outlines, outline_and, NamedOutlines, no_named_outlines, named_outline_and}
use Rattle.flat_ir.specs.declared.flat.FlatFun.{FlatFun}
use Rattle.flat_ir.specs.declared.spine.Step.{Step}
use Rattle.nv_base.specs.Sets.{all_vars}
use Rattle.flat_ir.specs.Wide.{Widths}
use Rattle.nv_flatten_values.specs.inner.Symbols.{Symbol, NamedSymbols, operands, fields_of, field_named}
use Rattle.nv_flatten_values.specs.inner.Reads.{has_symbol}
use Rattle.nv_flatten_values.specs.inner.Narrow.{IsWithin, NarrowSteps}
use Rattle.nv_flatten_values.specs.inner.Small.{AreFewLets}

-- ---- the bit fields that are written for a symbolic value: of alternatives, those of the first that the record has. A layout is a record,
-- so that neither bits nor alternatives stand for one by themselves.
abbrev mutual
  pub packed_fields : OutlineTree → Symbol → ℕ
  packed_fields (BitsOutline n) s = 1
  packed_fields (GapOutline n) s = 0
  packed_fields (PartsOutline fs) s = packed_parts fs (fields_of s)
  packed_fields (OverlayOutline fs) s = packed_chosen fs (fields_of s)
  packed_fields (JoinedOutline os) s = packed_joined os s

  pub packed_layout : OutlineTree → Symbol → ℕ
  packed_layout (BitsOutline n) s = 0
  packed_layout (GapOutline n) s = 0
  packed_layout (PartsOutline fs) s = packed_parts fs (fields_of s)
  packed_layout (OverlayOutline fs) s = 0
  packed_layout (JoinedOutline os) s = packed_joined os s

  pub packed_parts : NamedOutlines → NamedSymbols → ℕ
  packed_parts no_named_outlines ss = 0
  packed_parts (named_outline_and x o os) ss = packed_fields o (field_named x ss) + packed_parts os ss

  pub packed_chosen : NamedOutlines → NamedSymbols → ℕ
  packed_chosen no_named_outlines ss = 0
  packed_chosen (named_outline_and x o os) ss = if has_symbol x ss then packed_fields o (field_named x ss) else packed_chosen os ss

  pub packed_joined : OutlineTrees → Symbol → ℕ
  packed_joined no_outlines s = 0
  packed_joined (outline_and o os) s = packed_layout o s + packed_joined os s

-- steps were added that only compute, and words took the place of others, from a symbolic value and from a bit to another: for each of so
-- many fields at most 3 steps, and 2 more for one that lies in two words, of which there are at most as many as fields and as words that end
-- between the bits; no place is wider than what is kept, the words, and 4
pub record WritesFew (fields : ℕ) (s : Symbol) (old new : List Step) (before after : List Atom) (at behind : ℕ) : Type 0 where
  pub steps : List Step
  pub added : new ≡ old ++ steps
  pub long : length after ≡ length before
  pub narrow : (funs : List FlatFun) (widths : Widths) (own : ℕ) (kept : List ℕ) → IsWithin (all_vars (operands s)) kept → NarrowSteps funs widths own steps (kept ++ all_vars before) [] (kept ++ all_vars after) (length kept + (length before + 4))
  pub across : ℕ
  pub few : AreFewLets steps (3 * fields + 2 * across)
  pub some : across ≤ fields
  pub words : across + at / 32 ≤ behind / 32

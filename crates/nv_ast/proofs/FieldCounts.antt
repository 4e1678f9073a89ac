-- How many bit fields there are doesn't depend on where they begin.
use Rattle.std.proofs.Common.{◌≡◌, refl, ℕ, ◌+◌, length, length-append, arith}
use Rattle.nv_ast.specs.Outline.{OutlineTree, BitsOutline, GapOutline, PartsOutline, OverlayOutline, JoinedOutline, OutlineTrees, no_outlines, outline_and, NamedOutlines, no_named_outlines, named_outline_and, size, bit_fields, part_fields, alternative_fields, joined_fields}

mutual
  pub fields_length : (i j : ℕ) (o : OutlineTree) → length (bit_fields i o) ≡ length (bit_fields j o)
  fields_length i j (BitsOutline n) = refl
  fields_length i j (GapOutline n) = refl
  fields_length i j (PartsOutline fs) = parts_length i j fs
  fields_length i j (OverlayOutline fs) = alternatives_length i j fs
  fields_length i j (JoinedOutline os) = joined_length i j os

  pub parts_length : (i j : ℕ) (os : NamedOutlines) → length (part_fields i os) ≡ length (part_fields j os)
  parts_length i j no_named_outlines = refl
  parts_length i j (named_outline_and x o os) = omega (arith, length-append (bit_fields i o) (part_fields (i + size o) os), length-append (bit_fields j o) (part_fields (j + size o) os), fields_length i j o, parts_length (i + size o) (j + size o) os)

  pub alternatives_length : (i j : ℕ) (os : NamedOutlines) → length (alternative_fields i os) ≡ length (alternative_fields j os)
  alternatives_length i j no_named_outlines = refl
  alternatives_length i j (named_outline_and x o os) = omega (arith, length-append (bit_fields i o) (alternative_fields i os), length-append (bit_fields j o) (alternative_fields j os), fields_length i j o, alternatives_length i j os)

  pub joined_length : (i j : ℕ) (os : OutlineTrees) → length (joined_fields i os) ≡ length (joined_fields j os)
  joined_length i j no_outlines = refl
  joined_length i j (outline_and o os) = omega (arith, length-append (bit_fields i o) (joined_fields (i + size o) os), length-append (bit_fields j o) (joined_fields (j + size o) os), fields_length i j o, joined_length (i + size o) (j + size o) os)

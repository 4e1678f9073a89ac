-- Packed values: one list of bits, the most significant bit of word 0 first. Unpacking a field gives the number of its slice;
-- packing gives the list that has the given slices, and 0 elsewhere.
use Rattle.std.specs.Prelude.{ℕ, zero, suc, min, if◌then◌else◌, List, [], ◌∷◌, ◌++◌, take, drop, replicate}
use Rattle.nv_ast.specs.Bits.{bits, number, packed}
use Rattle.nv_ast.specs.Outline.{OutlineTree, BitsOutline, GapOutline, PartsOutline, OverlayOutline, JoinedOutline, OutlineTrees, no_outlines, outline_and, NamedOutlines, no_named_outlines, named_outline_and, size}
use Rattle.nv_ast.specs.Types.{packed_words}
use Rattle.nv_meaning_values.specs.Values.{Value, Word, Record, NamedValues, no_named_values, named_value_and, ◌++_fields◌, words_of, words_value, word_of, fields_of, field_named, has_field}

-- ---- unpacking: the value of an outline whose bits begin a list. A field has at most 32 bits; of a wider one, which no
-- typed program has, the first 32 are read.
abbrev mutual
  pub value_at : OutlineTree → List ℕ → Value
  value_at (BitsOutline n) bs = Word (number (take (min n 32) bs))
  value_at (GapOutline n) bs = Record no_named_values
  value_at (PartsOutline fs) bs = Record (parts_at fs bs)
  value_at (OverlayOutline fs) bs = Record (alternatives_at fs bs)
  value_at (JoinedOutline os) bs = Record (joined_at os bs)

  -- each field after the one before it
  pub parts_at : NamedOutlines → List ℕ → NamedValues
  parts_at no_named_outlines bs = no_named_values
  parts_at (named_outline_and x o os) bs = named_value_and x (value_at o bs) (parts_at os (drop (size o) bs))

  -- all alternatives at the same bit
  pub alternatives_at : NamedOutlines → List ℕ → NamedValues
  alternatives_at no_named_outlines bs = no_named_values
  alternatives_at (named_outline_and x o os) bs = named_value_and x (value_at o bs) (alternatives_at os bs)

  -- the fields of all joined outlines in one record
  pub joined_at : OutlineTrees → List ℕ → NamedValues
  joined_at no_outlines bs = no_named_values
  joined_at (outline_and o os) bs = fields_of (value_at o bs) ++_fields joined_at os (drop (size o) bs)

-- what unpack gives of a packed value
abbrev pub unpacked_value : OutlineTree → Value → Value
unpacked_value o v = value_at o (packed (words_of v))

-- ---- packing: the bits of an outline, a field's bits those of its word modulo 2^n
abbrev mutual
  pub bits_of : OutlineTree → Value → List ℕ
  bits_of (BitsOutline n) v = bits n (word_of v)
  bits_of (GapOutline n) v = replicate n 0
  bits_of (PartsOutline fs) v = parts_bits fs (fields_of v)
  bits_of (OverlayOutline fs) v = chosen_bits fs (fields_of v)
  bits_of (JoinedOutline os) v = joined_bits os v

  pub parts_bits : NamedOutlines → NamedValues → List ℕ
  parts_bits no_named_outlines vs = []
  parts_bits (named_outline_and x o os) vs = bits_of o (field_named x vs) ++ parts_bits os vs

  -- the alternative that the record has
  pub chosen_bits : NamedOutlines → NamedValues → List ℕ
  chosen_bits no_named_outlines vs = []
  chosen_bits (named_outline_and x o os) vs = if has_field x vs then bits_of o (field_named x vs) else chosen_bits os vs

  -- joined outlines have their fields in one record
  pub joined_bits : OutlineTrees → Value → List ℕ
  joined_bits no_outlines v = []
  joined_bits (outline_and o os) v = bits_of o v ++ joined_bits os v

-- the first n words of a list of bits, with zeros after its end
abbrev pub words_of_bits : ℕ → List ℕ → List ℕ
words_of_bits zero bs = []
words_of_bits (suc n) bs = number (take 32 (bs ++ replicate 32 0)) ∷ words_of_bits n (drop 32 bs)

-- what pack gives of a record
abbrev pub packed_value : OutlineTree → Value → Value
packed_value o v = words_value (words_of_bits (packed_words o) (bits_of o v))

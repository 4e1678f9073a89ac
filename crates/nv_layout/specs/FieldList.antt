-- Fields, as pairs of their first bit and their number of bits.
use Rattle.std.specs.Prelude.{ℕ, ◌+◌, ◌≤◌, List, map}
use Rattle.nv_layout.specs.declared.outline.Field.{Field}

-- each field's first bit and number of bits
abbrev pub field_pairs : List Field → List (ℕ × ℕ)
field_pairs = map (λ f. (f.first, f.bits))

-- a field of 1 to 32 bits among so many bits
pub record LiesWithin (n : ℕ) (f : Field) : Type 0 where
  pub some : 1 ≤ f.bits
  pub word : f.bits ≤ 32
  pub inside : f.first + f.bits ≤ n

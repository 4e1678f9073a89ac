-- Numbers in the fields of a capture.
use Rattle.std.specs.Prelude.{ℕ, List, drop}
use Rattle.byteorder.specs.Endian.{big_number, little_number, big_bytes, little_bytes}
use Rattle.nova_capture.specs.declared.order.Order.{Order}
use Rattle.nova_capture.specs.declared.order.Order.TheVariants.{Big, Little}

-- the number in the first n bytes
abbrev pub number : Order → ℕ → List ℕ → ℕ
number Big n bytes = big_number n bytes
number Little n bytes = little_number n bytes

-- the number in the n bytes from a place
abbrev pub field : Order → ℕ → ℕ → List ℕ → ℕ
field order n at bytes = number order n (drop at bytes)

-- a number in n bytes
abbrev pub digits : Order → ℕ → ℕ → List ℕ
digits Big n x = big_bytes n x
digits Little n x = little_bytes n x

-- Sets of numbers, and sets of addresses.
use Rattle.std.specs.Prelude.{◌≡◌, ℕ, ◌*◌, ◌/◌, ◌%◌, ◌≤◌, ◌⊎◌, ◌↔◌, Bool, true, false, List, length, nat_eq, slice_index}
use Rattle.std.specs.Int.{bit_at}
use Rattle.nv_base.specs.declared.term.Mem.{Mem}
use Rattle.nv_base.specs.declared.term.Mem.TheVariants.{Sram, Sdram, Scratch}

-- a set of numbers below a size, as words of 32 bits
pub record Numbers : Type 0 where
  pub size : ℕ
  pub words : List ℕ

-- whether a number is in the set: it is bit x % 32 of word x / 32
abbrev pub has : Numbers → ℕ → Bool
has s x = nat_eq (bit_at (slice_index s.words (x / 32)) (x % 32)) 1

-- there is a bit for each number below the size, and no other number is in the set
pub record AreNumbers (s : Numbers) : Type 0 where
  pub room : s.size ≤ 32 * length s.words
  pub below : (x : ℕ) → s.size ≤ x → has s x ≡ false

-- the second set has what the first has, and the numbers of which this holds
abbrev pub Adds : Numbers → (ℕ → Type 0) → Numbers → Type 0
Adds s more s' = (x : ℕ) → (has s' x ≡ true) ↔ ((has s x ≡ true) ⊎ more x)

-- a set of addresses: numbers of each memory
pub record Addresses : Type 0 where
  pub sram : Numbers
  pub sdram : Numbers
  pub scratch : Numbers

-- the addresses of one memory
abbrev pub within : Mem → Addresses → Numbers
within Sram s = s.sram
within Sdram s = s.sdram
within Scratch s = s.scratch

-- Bounds of words, and what they tell of comparisons.
use Rattle.std.specs.Prelude.{ℕ, ◌+◌, ◌-◌, ◌^◌, ◌/◌, nat_eq, nat_lt, nat_le, Bool, true, false, not, ◌&&◌, ◌||◌, if◌then◌else◌, Option, Some, None, min, max}
use Rattle.nv_base.specs.declared.term.Cmp.{Cmp}
use Rattle.nv_base.specs.declared.term.Cmp.TheVariants.{Eq, Ne, Lt, Ge}
use Rattle.nv_base.specs.declared.term.Una.{Una}
use Rattle.nv_base.specs.declared.term.Una.TheVariants.{Not, Shl, Shr, Rol}
use Rattle.nv_base.specs.declared.term.Bin.{Bin}
use Rattle.nv_base.specs.declared.term.Bin.TheVariants.{Add, Sub, And, Or, Xor}
use Rattle.flow_paths.specs.declared.ranges.Range.{Range}

-- the greatest word
abbrev pub most : ℕ
most = 2 ^ 32 - 1

-- from one number to another
abbrev pub from : ℕ → ℕ → Range
from low high = record { low = low; high = high }

abbrev pub all_words : Range
all_words = from 0 most

abbrev pub says_nothing : Range → Bool
says_nothing r = nat_eq r.low 0 && nat_le most r.high

-- the words that are in both
abbrev pub met : Range → Range → Range
met r s = from (max r.low s.low) (min r.high s.high)

-- ---- comparisons

abbrev pub less : Range → Range → Option Bool
less a b = if nat_lt a.high b.low then Some true else (if nat_le b.high a.low then Some false else None)

abbrev pub equal : Range → Range → Option Bool
equal a b = if nat_lt a.high b.low || nat_lt b.high a.low then Some false else (if nat_le a.high b.low && nat_le b.high a.low then Some true else None)

abbrev pub turned : Option Bool → Option Bool
turned (Some b) = Some (not b)
turned None = None

-- whether a comparison of words within these bounds holds, where they are the same word or the bounds tell
abbrev pub tells : Bool → Range → Range → Cmp → Option Bool
tells same a b Eq = if same then Some true else equal a b
tells same a b Ne = if same then Some false else turned (equal a b)
tells same a b Lt = if same then Some false else less a b
tells same a b Ge = if same then Some true else turned (less a b)

-- ---- what a comparison that holds tells of both words

-- a range without the only word of another, at its ends
abbrev pub without : Range → Range → Range
without a b = if nat_eq b.low b.high then from (if nat_eq a.low b.low then min (a.low + 1) most else a.low) (if nat_eq a.high b.low then a.high - 1 else a.high) else a

abbrev pub of_first : Cmp → Range → Range → Range
of_first Eq a b = b
of_first Ne a b = without a b
of_first Lt a b = from 0 (b.high - 1)
of_first Ge a b = from b.low most

abbrev pub of_second : Cmp → Range → Range → Range
of_second Eq a b = a
of_second Ne a b = without b a
of_second Lt a b = from (min (a.low + 1) most) most
of_second Ge a b = from 0 a.high

-- ---- operations

abbrev pub of_una : Una → Range → Range
of_una Not a = all_words
of_una (Shl k) a = all_words
of_una (Shr k) a = if nat_lt k 32 then from (a.low / 2 ^ k) (a.high / 2 ^ k) else all_words
of_una (Rol k) a = all_words

abbrev pub of_bin : Bin → Range → Range → Range
of_bin Add a b = if nat_le (a.high + b.high) most then from (min (a.low + b.low) most) (a.high + b.high) else all_words
of_bin Sub a b = if nat_le b.high a.low then from (a.low - b.high) (a.high - b.low) else all_words
of_bin And a b = from 0 (min a.high b.high)
of_bin Or a b = all_words
of_bin Xor a b = all_words

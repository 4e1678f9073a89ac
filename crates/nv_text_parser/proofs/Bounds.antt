-- Heights within bounds.
use Rattle.std.proofs.Common.{ℕ, ◌+◌, ◌≤◌, max, arith, Bool, true, false}
use Rattle.nv_text_parser.specs.inner.Failing.{Bound, NoBound, AtMost, Within, HasRoom, Inside, part_of, bound_of}

pub within_one : (b : Bound) → HasRoom b → Within b 1
within_one NoBound h = tt
within_one (AtMost n) h = h

pub within_node : (b : Bound) (n : ℕ) → HasRoom b → Within (part_of Inside b) n → Within b (1 + n)
within_node NoBound n h w = tt
within_node (AtMost m) n h w = omega arith

pub node_within : (b : Bound) (n : ℕ) → Within b (1 + n) → Within (part_of Inside b) n
node_within NoBound n w = tt
node_within (AtMost m) n w = omega arith

pub within_max : (b : Bound) (m n : ℕ) → Within b m → Within b n → Within b (max m n)
within_max NoBound m n v w = tt
within_max (AtMost l) m n v w = omega arith

pub max_left : (b : Bound) (m n : ℕ) → Within b (max m n) → Within b m
max_left NoBound m n w = tt
max_left (AtMost l) m n w = omega arith

pub max_right : (b : Bound) (m n : ℕ) → Within b (max m n) → Within b n
max_right NoBound m n w = tt
max_right (AtMost l) m n w = omega arith

pub within_zero : (b : Bound) → Within b 0
within_zero NoBound = tt
within_zero (AtMost l) = omega arith

pub room_here : (low : Bool) (room : ℕ) → 1 ≤ room → HasRoom (bound_of low room)
room_here false room h = tt
room_here true room h = h

-- what is within a bound is so with less
pub within_more : (b : Bound) (n : ℕ) → Within b (1 + n) → Within b n
within_more NoBound n w = tt
within_more (AtMost m) n w = omega arith

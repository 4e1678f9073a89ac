-- Tests of what stands in a program: operands, counts of shifts, and accesses of memory.
use Rattle.std.specs.Prelude.{ℕ, ◌+◌, ◌==◌, nat_le, Bool, true, false, ◌&&◌, ◌||◌, List}
use Rattle.std.specs.List.{list_all}
use Rattle.nv_base.specs.declared.term.Mem.{Mem}
use Rattle.nv_base.specs.declared.term.Mem.TheVariants.{Sram, Sdram, Scratch}
use Rattle.nv_base.specs.declared.term.Atom.{Atom}
use Rattle.nv_base.specs.declared.term.Atom.TheVariants.{Var, Lit}
use Rattle.nv_base.specs.declared.term.Una.{Una}
use Rattle.nv_base.specs.declared.term.Una.TheVariants.{Not, Shl, Shr, Rol}
use Rattle.nv_base.specs.declared.term.Primitive.{Primitive}
use Rattle.nv_base.specs.declared.term.Primitive.TheVariants.{Same, Una as UnaOf, Bin as BinOf}
use Rattle.nv_base.specs.Memories.{source_scratch}
use Rattle.nv_base.specs.Sets.{is_in}

-- ---- operands: a literal, or one of these variables

abbrev pub is_known : List ℕ → Atom → Bool
is_known known (Var x) = is_in x known
is_known known (Lit v) = true

abbrev pub all_known : List ℕ → List Atom → Bool
all_known known as' = list_all (is_known known) as'

-- ---- primitives: the count of a shift is 1 to 31

abbrev pub has_count : Una → Bool
has_count Not = true
has_count (Shl k) = nat_le 1 k && nat_le k 31
has_count (Shr k) = nat_le 1 k && nat_le k 31
has_count (Rol k) = nat_le 1 k && nat_le k 31

abbrev pub is_primitive : List ℕ → Primitive → Bool
is_primitive known (Same a) = is_known known a
is_primitive known (UnaOf op a) = has_count op && is_known known a
is_primitive known (BinOf op a b) = is_known known a && is_known known b

-- ---- accesses of memory

-- 1 to 8 words, of SDRAM whole quadwords
abbrev pub can_move : Mem → ℕ → Bool
can_move Sram n = nat_le 1 n && nat_le n 8
can_move Scratch n = nat_le 1 n && nat_le n 8
can_move Sdram n = (n == 2) || ((n == 4) || ((n == 6) || (n == 8)))

-- scratch is addressed by literals alone, and the words lie below 512
abbrev pub is_address : Mem → Atom → ℕ → Bool
is_address Scratch (Lit at) n = nat_le (at + n) source_scratch
is_address Scratch (Var x) n = false
is_address Sram a n = true
is_address Sdram a n = true

-- Items whose instructions keep the rules wherever they stand.
use Rattle.std.proofs.Common.{◌≡◌, ℕ, ◌+◌, ◌*◌, ◌%◌, ◌<◌, ◌≤◌, ◌⊎◌, ◌&&◌, ◌||◌, inl, inr, Bool, true, false, eqb, if◌then◌else◌, List, [], ◌∷◌, map, refl, sym, subst, ⊎_elim, arith}
use Rattle.std.specs.Prelude.{⊤, nat_eq, nat_lt, nat_le, ◌/◌, ◌^◌}
use Rattle.std.specs.List.{AllByRecursion}
use Rattle.std.proofs.lemmas.Bool.{and_parts, or_cases, false≢true, eqb-true, leb-true}
use Rattle.std.proofs.lemmas.List.Elements.{All-from_recursion, recursion_from_All}
use Rattle.nv_base.specs.declared.term.Mem.{Mem}
use Rattle.nv_base.specs.declared.term.Mem.TheVariants.{Sram, Sdram, Scratch}
use Rattle.nv_base.specs.declared.term.Una.{Una as Unary}
use Rattle.nv_base.specs.declared.term.Una.TheVariants as una
use Rattle.nv_base.specs.declared.term.Bin.{Bin as Binary}
use Rattle.nv_base.specs.Access.{has_count, can_move}
use Rattle.uc_isa.specs.declared.instruction.Instr.{Instr}
use Rattle.uc_isa.specs.declared.instruction.Instr.TheVariants as instr
use Rattle.uc_isa.specs.declared.instruction.Src.{Src}
use Rattle.uc_isa.specs.declared.instruction.Dst.{Dst}
use Rattle.uc_isa.specs.declared.instruction.Gpr.{Gpr}
use Rattle.uc_isa.specs.declared.instruction.Gpr.TheVariants as gpr
use Rattle.uc_isa.specs.declared.instruction.UnOp.{UnOp}
use Rattle.uc_isa.specs.declared.instruction.UnOp.TheVariants.{Copy}
use Rattle.uc_isa.specs.declared.instruction.Cond.TheVariants.{Always}
use Rattle.uc_isa.specs.Lawful.{AreApart, Rule1, Rule2, Rule3, Rule4, Rule5, Rule6, IsRun, IsPaired, IsShift, IsLast, IsLawfulAt}
use Rattle.place_plan.specs.declared.place.Place.{Place}
use Rattle.place_plan.specs.declared.place.Place.TheVariants.{A, B, L, LD, S, SD, Slot}
use Rattle.place_plan.specs.Fits.{IsFirst, different_groups}
use Rattle.ucode_emit.specs.Moves.{Move}
use Rattle.ucode_emit.specs.SpillBase.{IsOtherSource, IsOtherTarget, KeepsToSlots, KeepsBase, SpillsByBase}
use Rattle.ucode_emit.specs.Pieces.{Item, Moved, Plain, Branch, move_instr, instr_of, moved, source, target, address_of, un_op, shift_of}
use Rattle.ucode_emit.specs.inner.Machine.{IsReadable, IsWritable, IsDirect, read_slot, write_slot, copied, AreDirect}
use Rattle.ucode_emit.specs.inner.Layers.{IsAddress}
use Rattle.ucode_emit.proofs.OperatingItems.{IsPlain}
use Rattle.std.specs.Prelude.{slice_index_or, length}

-- ---- instructions by themselves

-- what an instruction keeps in code of any length, with N slots
pub record KeepsOwn (slots : ℕ) (i : Instr) : Type 0 where
  pub operands : Rule1 i
  pub run_inside : Rule2 i
  pub pairs : Rule3 i
  pub numbers : Rule4 i
  pub target : (len : ℕ) → Rule5 len i
  pub halt : Rule6 i
  pub base : KeepsBase slots i

-- ---- B15 in instructions of places

pub other_source : (x : Place) → IsReadable x → IsOtherSource (source x)
other_source (A k) h = tt
other_source (B k) h = λ e. omega (arith, e, h)
other_source (L k) h = tt
other_source (LD k) h = tt
other_source (S k) h = absurd h
other_source (SD k) h = absurd h
other_source (Slot k) h = absurd h

pub other_target : (d : Place) → IsWritable d → IsOtherTarget (target d)
other_target (A k) h = tt
other_target (B k) h = λ e. omega (arith, e, h)
other_target (L k) h = absurd h
other_target (LD k) h = absurd h
other_target (S k) h = tt
other_target (SD k) h = tt
other_target (Slot k) h = absurd h

pub other_address : (slots : ℕ) (m : Mem) (n : ℕ) (x : Place) (off : ℕ) → IsAddress x → KeepsToSlots slots m n (address_of x) off
other_address slots m n (A k) off h = tt
other_address slots m n (B k) off h = λ e. absurd (omega (arith, e, h))
other_address slots m n (L k) off h = absurd h
other_address slots m n (LD k) off h = absurd h
other_address slots m n (S k) off h = absurd h
other_address slots m n (SD k) off h = absurd h
other_address slots m n (Slot k) off h = absurd h

-- ---- instructions

pub un_own : (slots : ℕ) (d : Dst) (op : UnOp) (x : Src) → IsShift op → IsOtherTarget d → IsOtherSource x → KeepsOwn slots (instr.Un d op x)
un_own slots d op x h a b = record {
  base = (a, b);
  operands = tt;
  run_inside = tt;
  pairs = tt;
  numbers = h;
  target = λ len. tt;
  halt = tt;
}

pub alu_own : (slots : ℕ) (d : Dst) (op : Binary) (x y : Src) → AreApart x y → IsOtherTarget d → IsOtherSource x → IsOtherSource y → KeepsOwn slots (instr.Alu d op x y)
alu_own slots d op x y h a b c = record {
  base = (a, b, c);
  operands = h;
  run_inside = tt;
  pairs = tt;
  numbers = tt;
  target = λ len. tt;
  halt = tt;
}

abbrev shift_of_two : Bool → Bool → ℕ
shift_of_two a b = if a then 0 else if b then 8 else 16

shift_by : (a b : Bool) → (shift_of_two a b ≡ 0) ⊎ ((shift_of_two a b ≡ 8) ⊎ (shift_of_two a b ≡ 16))
shift_by true b = inl refl
shift_by false true = inr (inl refl)
shift_by false false = inr (inr refl)

-- a literal is shifted by 0, 8 or 16
pub shift_is : (v : ℕ) → (shift_of v ≡ 0) ⊎ ((shift_of v ≡ 8) ⊎ (shift_of v ≡ 16))
shift_is v = shift_by (nat_lt v (2 ^ 16)) (nat_eq (v % 2 ^ 8) 0 && nat_lt (v / 2 ^ 8) (2 ^ 16))

pub immed_own : (slots : ℕ) (d : Dst) (w v : ℕ) → IsOtherTarget d → KeepsOwn slots (instr.Immed d w (shift_of v))
immed_own slots d w v a = record {
  base = a;
  operands = tt;
  run_inside = tt;
  pairs = tt;
  numbers = shift_is v;
  target = λ len. tt;
  halt = tt;
}

pub halt_own : (slots k n : ℕ) → n ≤ 8 → KeepsOwn slots (instr.Halt k n)
halt_own slots k n h = record {
  base = tt;
  operands = tt;
  run_inside = tt;
  pairs = tt;
  numbers = tt;
  target = λ len. tt;
  halt = h;
}

one_to_eight : (n : ℕ) → (nat_le 1 n && nat_le n 8) ≡ true → 1 ≤ n
one_to_eight n h = leb-true 1 n (and_parts (nat_le 1 n) (nat_le n 8) h).0

abbrev Even : ℕ → Type 0
Even n = (1 ≤ n) × (n % 2 ≡ 0)

even_two : (n : ℕ) → n ≡ 2 → Even n
even_two n e = (omega (arith, e), omega (arith, e))

even_four : (n : ℕ) → n ≡ 4 → Even n
even_four n e = (omega (arith, e), omega (arith, e))

even_six : (n : ℕ) → n ≡ 6 → Even n
even_six n e = (omega (arith, e), omega (arith, e))

even_eight : (n : ℕ) → n ≡ 8 → Even n
even_eight n e = (omega (arith, e), omega (arith, e))

pairs_count : (n : ℕ) → can_move Sdram n ≡ true → Even n
pairs_count n h =
    ⊎_elim (λ (a : eqb n 2 ≡ true). even_two n (eqb-true n 2 a))
    (λ (g : (eqb n 4 || (eqb n 6 || eqb n 8)) ≡ true).
    ⊎_elim (λ (a : eqb n 4 ≡ true). even_four n (eqb-true n 4 a))
    (λ (f : (eqb n 6 || eqb n 8) ≡ true).
    ⊎_elim (λ (a : eqb n 6 ≡ true). even_six n (eqb-true n 6 a)) (λ (a : eqb n 8 ≡ true). even_eight n (eqb-true n 8 a)) (or_cases (eqb n 6) (eqb n 8) f))
    (or_cases (eqb n 4) (eqb n 6 || eqb n 8) g))
    (or_cases (eqb n 2) (eqb n 4 || (eqb n 6 || eqb n 8)) h)

pub run_is : (m : Mem) (n r : ℕ) → IsFirst m n r → can_move m n ≡ true → IsRun r n
run_is Sram n r h c = (one_to_eight n c, h)
run_is Sdram n r h c = ((pairs_count n c).0, h.0)
run_is Scratch n r h c = (one_to_eight n c, h)

even_half : (r half : ℕ) → r ≡ 2 * half → r % 2 ≡ 0
even_half r half e = omega (arith, e)

pub paired_is : (m : Mem) (n r : ℕ) → IsFirst m n r → can_move m n ≡ true → IsPaired m r n
paired_is Sram n r h c = tt
paired_is Sdram n r h c = (even_half r h.1.0 h.1.1, (pairs_count n c).1)
paired_is Scratch n r h c = tt

pub read_own : (slots : ℕ) (m : Mem) (r n : ℕ) (x : Gpr) (off : ℕ) → IsRun r n → IsPaired m r n → off ≤ 127 → KeepsToSlots slots m n x off → KeepsOwn slots (instr.Read m r n x off)
read_own slots m r n x off a b c d = record {
  base = d;
  operands = tt;
  run_inside = a;
  pairs = b;
  numbers = c;
  target = λ len. tt;
  halt = tt;
}

pub write_own : (slots : ℕ) (m : Mem) (r n : ℕ) (x : Gpr) (off : ℕ) → IsRun r n → IsPaired m r n → off ≤ 127 → KeepsToSlots slots m n x off → KeepsOwn slots (instr.Write m r n x off)
write_own slots m r n x off a b c d = record {
  base = d;
  operands = tt;
  run_inside = a;
  pairs = b;
  numbers = c;
  target = λ len. tt;
  halt = tt;
}

-- the count of a shift
pub count_is : (op : Unary) → has_count op ≡ true → IsShift (un_op op)
count_is una.Not h = tt
count_is (una.Shl k) h = let p = and_parts (nat_le 1 k) (nat_le k 31) h in (leb-true 1 k p.0, leb-true k 31 p.1)
count_is (una.Shr k) h = let p = and_parts (nat_le 1 k) (nat_le k 31) h in (leb-true 1 k p.0, leb-true k 31 p.1)
count_is (una.Rol k) h = let p = and_parts (nat_le 1 k) (nat_le k 31) h in (leb-true 1 k p.0, leb-true k 31 p.1)

-- operands of different groups are of different banks
pub apart_sources : (x y : Place) → IsReadable x → IsReadable y → different_groups x y ≡ true → AreApart (source x) (source y)
apart_sources (A i) (A j) a b e = absurd (false≢true e)
apart_sources (A i) (B j) a b e = tt
apart_sources (A i) (L j) a b e = tt
apart_sources (A i) (LD j) a b e = tt
apart_sources (A i) (S j) a b e = absurd b
apart_sources (A i) (SD j) a b e = absurd b
apart_sources (A i) (Slot j) a b e = absurd b
apart_sources (B i) (A j) a b e = tt
apart_sources (B i) (B j) a b e = absurd (false≢true e)
apart_sources (B i) (L j) a b e = tt
apart_sources (B i) (LD j) a b e = tt
apart_sources (B i) (S j) a b e = absurd b
apart_sources (B i) (SD j) a b e = absurd b
apart_sources (B i) (Slot j) a b e = absurd b
apart_sources (L i) (A j) a b e = tt
apart_sources (L i) (B j) a b e = tt
apart_sources (L i) (L j) a b e = absurd (false≢true e)
apart_sources (L i) (LD j) a b e = absurd (false≢true e)
apart_sources (L i) (S j) a b e = absurd b
apart_sources (L i) (SD j) a b e = absurd b
apart_sources (L i) (Slot j) a b e = absurd b
apart_sources (LD i) (A j) a b e = tt
apart_sources (LD i) (B j) a b e = tt
apart_sources (LD i) (L j) a b e = absurd (false≢true e)
apart_sources (LD i) (LD j) a b e = absurd (false≢true e)
apart_sources (LD i) (S j) a b e = absurd b
apart_sources (LD i) (SD j) a b e = absurd b
apart_sources (LD i) (Slot j) a b e = absurd b
apart_sources (S i) y a b e = absurd a
apart_sources (SD i) y a b e = absurd a
apart_sources (Slot i) y a b e = absurd a

-- ---- moves

one_slot : (slots k : ℕ) → k < slots → KeepsToSlots slots Scratch 1 (gpr.B 15) k
one_slot slots k h e = (refl, omega (arith, h))

slot_read : (slots k r : ℕ) → slots ≤ 128 → k < slots → r < 8 → KeepsOwn slots (instr.Read Scratch r 1 (gpr.B 15) k)
slot_read slots k r n a b = read_own slots Scratch r 1 (gpr.B 15) k (omega arith, omega arith) tt (omega arith) (one_slot slots k a)

slot_written : (slots r k : ℕ) → slots ≤ 128 → r < 8 → k < slots → KeepsOwn slots (instr.Write Scratch r 1 (gpr.B 15) k)
slot_written slots r k n a b = write_own slots Scratch r 1 (gpr.B 15) k (omega arith, omega arith) tt (omega arith) (one_slot slots k b)

copy_own : (slots : ℕ) (from at : Place) → IsReadable from → IsWritable at → KeepsOwn slots (move_instr from at)
copy_own slots (A k) at h w = un_own slots (target at) Copy (source (A k)) tt (other_target at w) (other_source (A k) h)
copy_own slots (B k) at h w = un_own slots (target at) Copy (source (B k)) tt (other_target at w) (other_source (B k) h)
copy_own slots (L k) at h w = un_own slots (target at) Copy (source (L k)) tt (other_target at w) (other_source (L k) h)
copy_own slots (LD k) at h w = un_own slots (target at) Copy (source (LD k)) tt (other_target at w) (other_source (LD k) h)
copy_own slots (S k) at h w = absurd h
copy_own slots (SD k) at h w = absurd h
copy_own slots (Slot k) at h w = absurd h

pub move_own : (slots : ℕ) (from at : Place) → slots ≤ 128 → IsDirect slots from at → KeepsOwn slots (move_instr from at)
move_own slots from at n (read_slot {k} {r} a b) = slot_read slots k r n a b
move_own slots from at n (write_slot {r} {k} a b) = slot_written slots r k n a b
move_own slots from at n (copied a b) = copy_own slots from at a b

-- ---- items

abbrev pub IsGood : ℕ → Item → Type 0
IsGood slots (Moved from at) = IsDirect slots from at
IsGood slots (Plain i) = KeepsOwn slots i × IsPlain i
IsGood slots (Branch c point) = ⊤

abbrev pub AreGood : ℕ → List Item → Type 0
AreGood slots is = AllByRecursion (IsGood slots) is

good_moves : (slots : ℕ) (ms : List Move) → AllByRecursion (λ m. IsDirect slots m.0 m.1) ms → AreGood slots (moved ms)
good_moves slots [] h = tt
good_moves slots (m ∷ ms) h = (h.0, good_moves slots ms h.1)

pub moves_good : (slots : ℕ) (ms : List Move) → AreDirect slots ms → AreGood slots (moved ms)
moves_good slots ms h = good_moves slots ms (recursion_from_All (λ m. IsDirect slots m.0 m.1) ms h)

-- the engine never goes on after this item
abbrev pub IsEnd : Item → Type 0
IsEnd (Moved from at) = ⊥
IsEnd (Plain i) = IsLast i
IsEnd (Branch c point) = c ≡ Always

own_lawful : (slots : ℕ) (code : List Instr) (place : ℕ) (i : Instr) → KeepsOwn slots i → (place + 1 ≡ length code → IsLast i) → IsLawfulAt code place i
own_lawful slots code place i h l = record {
  operands = h.operands;
  run_inside = h.run_inside;
  pairs = h.pairs;
  numbers = h.numbers;
  target = h.target (length code);
  halt = h.halt;
  last = l;
}

-- an item is lawful where branches go into the code and it ends the code where it is the last
pub item_lawful : (slots : ℕ) (code : List Instr) (places : List ℕ) (place : ℕ) (it : Item) → slots ≤ 128 → IsGood slots it → ((j : ℕ) → slice_index_or places j 0 < length code) → (place + 1 ≡ length code → IsEnd it)
    → IsLawfulAt code place (instr_of places it)
item_lawful slots code places place (Moved from at) n g b l = own_lawful slots code place (move_instr from at) (move_own slots from at n g) (λ e. absurd (l e))
item_lawful slots code places place (Plain i) n g b l = own_lawful slots code place i g.0 l
item_lawful slots code places place (Branch c point) n g b l = record {
  operands = tt;
  run_inside = tt;
  pairs = tt;
  numbers = tt;
  target = b point;
  halt = tt;
  last = λ e. subst (λ d. IsLast (instr.Br d (slice_index_or places point 0))) (sym (l e)) tt;
}

-- ---- B15 in the code

item_base : (slots : ℕ) (places : List ℕ) (it : Item) → slots ≤ 128 → IsGood slots it → KeepsBase slots (instr_of places it)
item_base slots places (Moved from at) n g = (move_own slots from at n g).base
item_base slots places (Plain i) n g = g.0.base
item_base slots places (Branch c point) n g = tt

items_base : (slots : ℕ) (places : List ℕ) (is : List Item) → slots ≤ 128 → AreGood slots is → AllByRecursion (KeepsBase slots) (map (instr_of places) is)
items_base slots places [] n g = tt
items_base slots places (it ∷ is) n g = (item_base slots places it n g.0, items_base slots places is n g.1)

pub spills_by_base : (slots : ℕ) (places : List ℕ) (is : List Item) → slots ≤ 128 → AreGood slots is → SpillsByBase slots (map (instr_of places) is)
spills_by_base slots places is n g = All-from_recursion (KeepsBase slots) (map (instr_of places) is) (items_base slots places is n g)

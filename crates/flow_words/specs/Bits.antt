-- The bits of words, each by a bit of a variable.
use Rattle.std.specs.Prelude.{◌≡◌, ℕ, zero, suc, ◌+◌, ◌-◌, nat_eq, nat_lt, nat_le, Bool, true, false, ◌&&◌, ◌||◌, ◌⊎◌, ◌<◌, if◌then◌else◌, List, map, slice_index_or, ⊤}
use Rattle.std.specs.Int.{bit_at}
use Rattle.std.specs.List.{range_with_len}
use Rattle.nv_base.specs.declared.term.Atom.{Atom}
use Rattle.nv_base.specs.declared.term.Atom.TheVariants.{Var, Lit}
use Rattle.nv_base.specs.declared.term.Una.{Una}
use Rattle.nv_base.specs.declared.term.Una.TheVariants.{Not, Shl, Shr, Rol}
use Rattle.nv_base.specs.declared.term.Bin.{Bin}
use Rattle.nv_base.specs.declared.term.Bin.TheVariants.{Add, Sub, And, Or, Xor}
use Rattle.nv_base.specs.declared.term.Primitive.{Primitive}
use Rattle.nv_base.specs.declared.term.Primitive.TheVariants.{Same, Una as UnaOf, Bin as BinOf}
use Rattle.nv_base.specs.Words.{Env}
use Rattle.flow_words.specs.declared.bits.Bit.{Bit}
use Rattle.flow_words.specs.declared.bits.Bit.TheVariants.{Unknown, Zero, One, Of, Flipped}
use Rattle.flow_words.specs.Tables.{Table}

-- the bit of a word at a place is as this says
abbrev pub IsBit : Env → ℕ → ℕ → Bit → Type 0
IsBit env w i Unknown = ⊤
IsBit env w i Zero = bit_at w i ≡ 0
IsBit env w i One = bit_at w i ≡ 1
IsBit env w i (Of x j) = bit_at w i ≡ bit_at (env x) j
IsBit env w i (Flipped x j) = bit_at w i ≡ 1 - bit_at (env x) j

-- ---- bits

abbrev pub flipped : Bit → Bit
flipped Unknown = Unknown
flipped Zero = One
flipped One = Zero
flipped (Of x j) = Flipped x j
flipped (Flipped x j) = Of x j

abbrev pub is_zero : Bit → Bool
is_zero Zero = true
is_zero Unknown = false
is_zero One = false
is_zero (Of x j) = false
is_zero (Flipped x j) = false

abbrev pub is_one : Bit → Bool
is_one One = true
is_one Unknown = false
is_one Zero = false
is_one (Of x j) = false
is_one (Flipped x j) = false

-- both are known, and the same
abbrev pub is_same : Bit → Bit → Bool
is_same Zero b = is_zero b
is_same One b = is_one b
is_same (Of x i) (Of y j) = nat_eq x y && nat_eq i j
is_same (Flipped x i) (Flipped y j) = nat_eq x y && nat_eq i j
is_same _ _ = false

abbrev pub common : Bit → Bit → Bit
common a b = if is_zero a || is_zero b then Zero else (if is_one a then b else (if is_one b || is_same a b then a else Unknown))

abbrev pub either : Bit → Bit → Bit
either a b = if is_zero a then b else (if is_zero b || is_same a b then a else (if is_one a || is_one b then One else Unknown))

abbrev pub differing : Bit → Bit → Bit
differing a b = if is_zero a then b else (if is_zero b then a else (if is_one a then flipped b else (if is_one b then flipped a else (if is_same a b then Zero else Unknown))))

-- ---- operands

-- the bit of a variable of which this is known
abbrev pub own : ℕ → ℕ → Bit → Bit
own x i Unknown = Of x i
own x i Zero = Zero
own x i One = One
own x i (Of y j) = Of y j
own x i (Flipped y j) = Flipped y j

abbrev pub literal_bit : ℕ → ℕ → Bit
literal_bit v i = if nat_eq (bit_at v i) 1 then One else Zero

abbrev pub atom_bit : Table → Atom → ℕ → Bit
atom_bit T (Var x) i = if (T x).live then own x i (slice_index_or (T x).bits i Unknown) else Of x i
atom_bit T (Lit v) i = literal_bit v i

-- ---- operations

abbrev pub una_bit : Table → Una → Atom → ℕ → Bit
una_bit T Not a i = flipped (atom_bit T a i)
una_bit T (Shl k) a i = if nat_lt i k then Zero else atom_bit T a (i - k)
una_bit T (Shr k) a i = if nat_lt k (32 - i) then atom_bit T a (i + k) else Zero
una_bit T (Rol k) a i = if nat_le k i then atom_bit T a (i - k) else (if nat_le k 32 then atom_bit T a (i + (32 - k)) else Unknown)

-- no two bits below a place are both 1, so that the sum has no carry into it
abbrev pub is_free : Table → Atom → Atom → ℕ → Bool
is_free T a b zero = true
is_free T a b (suc i) = is_free T a b i && (is_zero (atom_bit T a i) || is_zero (atom_bit T b i))

-- the places above the highest bit of either, of these
abbrev pub above : Table → Atom → Atom → ℕ → ℕ
above T a b zero = 0
above T a b (suc i) = if is_zero (atom_bit T a i) && is_zero (atom_bit T b i) then above T a b i else suc i

abbrev pub sum_bit : Table → Atom → Atom → ℕ → Bit
sum_bit T a b i = if is_free T a b i then differing (atom_bit T a i) (atom_bit T b i) else (if nat_lt (above T a b 32) i then Zero else Unknown)

abbrev pub bin_bit : Bin → Bit → Bit → Bit
bin_bit Add a b = Unknown
bin_bit Sub a b = Unknown
bin_bit And a b = common a b
bin_bit Or a b = either a b
bin_bit Xor a b = differing a b

-- a sum apart
abbrev pub plain_bit : Table → Primitive → ℕ → Bit
plain_bit T (Same a) i = atom_bit T a i
plain_bit T (UnaOf op a) i = una_bit T op a i
plain_bit T (BinOf op a b) i = bin_bit op (atom_bit T a i) (atom_bit T b i)

abbrev pub prim_bit : Table → Primitive → ℕ → Bit
prim_bit T (BinOf Add a b) = sum_bit T a b
prim_bit T (BinOf Sub a b) = plain_bit T (BinOf Sub a b)
prim_bit T (BinOf And a b) = plain_bit T (BinOf And a b)
prim_bit T (BinOf Or a b) = plain_bit T (BinOf Or a b)
prim_bit T (BinOf Xor a b) = plain_bit T (BinOf Xor a b)
prim_bit T (Same a) = plain_bit T (Same a)
prim_bit T (UnaOf op a) = plain_bit T (UnaOf op a)

abbrev pub bits_of : Table → Primitive → List Bit
bits_of T p = map (prim_bit T p) (range_with_len 0 32)

-- ---- the same bits

abbrev pub bit_of : List Bit → ℕ → Bit
bit_of bits i = slice_index_or bits i Unknown

-- all bits are known, and are those of an operand
abbrev pub AreBitsOf : Table → List Bit → Atom → Type 0
AreBitsOf T bits a = (i : ℕ) → i < 32 → is_same (bit_of bits i) (atom_bit T a i) ≡ true

abbrev pub AreSame : List Bit → List Bit → Type 0
AreSame bits others = (i : ℕ) → i < 32 → is_same (bit_of bits i) (bit_of others i) ≡ true

-- no operation has the bits of an operand of its own
abbrev pub IsNeeded : Table → Primitive → Type 0
IsNeeded T (Same a) = ⊤
IsNeeded T (UnaOf op a) = AreBitsOf T (bits_of T (UnaOf op a)) a → ⊥
IsNeeded T (BinOf op a b) = (AreBitsOf T (bits_of T (BinOf op a b)) a → ⊥) × (AreBitsOf T (bits_of T (BinOf op a b)) b → ⊥)

-- the primitive, or an operand that has its bits
abbrev pub IsSettledFrom : Table → Primitive → Primitive → Type 0
IsSettledFrom T q r = (r ≡ q) ⊎ ((a : Atom) × (r ≡ Same a) × AreBitsOf T (bits_of T q) a)

-- Words, the operations on them, and the words that operands and primitives have.
use Rattle.std.specs.Prelude.{ℕ, ◌+◌, ◌-◌, ◌*◌, ◌/◌, ◌%◌, ◌^◌, ◌<◌, ◌≤◌, Bool, not, nat_eq, nat_lt, if◌then◌else◌, List, [], ◌∷◌, ◌++◌, bit_and, bit_or, bit_xor, ⊤}
use Rattle.nv_base.specs.declared.term.Atom.{Atom}
use Rattle.nv_base.specs.declared.term.Atom.TheVariants.{Var, Lit}
use Rattle.nv_base.specs.declared.term.Una.{Una}
use Rattle.nv_base.specs.declared.term.Una.TheVariants.{Not, Shl, Shr, Rol}
use Rattle.nv_base.specs.declared.term.Bin.{Bin}
use Rattle.nv_base.specs.declared.term.Bin.TheVariants.{Add, Sub, And, Or, Xor}
use Rattle.nv_base.specs.declared.term.Primitive.{Primitive}
use Rattle.nv_base.specs.declared.term.Primitive.TheVariants.{Same, Una as UnaOf, Bin as BinOf}
use Rattle.nv_base.specs.declared.term.Cmp.{Cmp}
use Rattle.nv_base.specs.declared.term.Cmp.TheVariants.{Eq, Ne, Lt, Ge}

-- a number fits a word
abbrev pub IsWord : ℕ → Type 0
IsWord n = n < 2 ^ 32

-- the word of a whole number: its rest modulo 2^32
abbrev pub word : ℕ → ℕ
word n = n % 2 ^ 32

-- the sum modulo 2^32
abbrev pub word_sum : ℕ → ℕ → ℕ
word_sum x y = word (x + y)

-- the difference modulo 2^32
abbrev pub word_difference : ℕ → ℕ → ℕ
word_difference x y = word (x + 2 ^ 32 - y)

-- each of the 32 bits turned over
abbrev pub word_not : ℕ → ℕ
word_not x = 2 ^ 32 - 1 - x

-- k places to the left, with zeros from the right
abbrev pub shifted_left : ℕ → ℕ → ℕ
shifted_left k x = word (x * 2 ^ k)

-- k places to the right, with zeros from the left
abbrev pub shifted_right : ℕ → ℕ → ℕ
shifted_right k x = x / 2 ^ k

-- k places to the left, and the bits that leave come in from the right
abbrev pub rotated_left : ℕ → ℕ → ℕ
rotated_left k x = word (x * 2 ^ k) + x / 2 ^ (32 - k)

-- what an operation gives of one word
abbrev pub una_word : Una → ℕ → ℕ
una_word Not x = word_not x
una_word (Shl k) x = shifted_left k x
una_word (Shr k) x = shifted_right k x
una_word (Rol k) x = rotated_left k x

-- what an operation gives of two words
abbrev pub bin_word : Bin → ℕ → ℕ → ℕ
bin_word Add x y = word_sum x y
bin_word Sub x y = word_difference x y
bin_word And x y = bit_and x y
bin_word Or x y = bit_or x y
bin_word Xor x y = bit_xor x y

-- whether a comparison of unsigned words holds
abbrev pub compares : Cmp → ℕ → ℕ → Bool
compares Eq x y = nat_eq x y
compares Ne x y = not (nat_eq x y)
compares Lt x y = nat_lt x y
compares Ge x y = not (nat_lt x y)

-- the comparison that holds where this one doesn't
abbrev pub negated : Cmp → Cmp
negated Eq = Ne
negated Ne = Eq
negated Lt = Ge
negated Ge = Lt

-- which word each variable has
abbrev pub Env : Type 0
Env = ℕ → ℕ

-- each variable has a word
abbrev pub IsEnv : Env → Type 0
IsEnv env = (x : ℕ) → IsWord (env x)

-- the same, but x has the word w
abbrev pub assigned : Env → ℕ → ℕ → Env
assigned env x w = λ y. if nat_eq y x then w else env y

-- the same, but each of these variables in turn has its word, or 0 where there are too few
abbrev pub assigned_all : Env → List ℕ → List ℕ → Env
assigned_all env [] ws = env
assigned_all env (x ∷ xs) [] = assigned_all (assigned env x 0) xs []
assigned_all env (x ∷ xs) (w ∷ ws) = assigned_all (assigned env x w) xs ws

-- the word of an operand: of a literal its lowest 32 bits
abbrev pub atom_word : Env → Atom → ℕ
atom_word env (Var x) = env x
atom_word env (Lit v) = word v

-- the words of operands
abbrev pub atom_words : Env → List Atom → List ℕ
atom_words env [] = []
atom_words env (a ∷ as') = atom_word env a ∷ atom_words env as'

-- the word of a primitive
abbrev pub prim_word : Env → Primitive → ℕ
prim_word env (Same a) = atom_word env a
prim_word env (UnaOf op a) = una_word op (atom_word env a)
prim_word env (BinOf op a b) = bin_word op (atom_word env a) (atom_word env b)

-- the variables of an operand
abbrev pub atom_vars : Atom → List ℕ
atom_vars (Var x) = x ∷ []
atom_vars (Lit v) = []

-- the variables that a primitive uses
abbrev pub prim_vars : Primitive → List ℕ
prim_vars (Same a) = atom_vars a
prim_vars (UnaOf op a) = atom_vars a
prim_vars (BinOf op a b) = atom_vars a ++ atom_vars b

-- the count of a shift is 1 to 31
abbrev pub HasCount : Una → Type 0
HasCount Not = ⊤
HasCount (Shl k) = (1 ≤ k) × (k ≤ 31)
HasCount (Shr k) = (1 ≤ k) × (k ≤ 31)
HasCount (Rol k) = (1 ≤ k) × (k ≤ 31)

-- the count of a primitive's shift is 1 to 31
abbrev pub HasPrimCount : Primitive → Type 0
HasPrimCount (Same a) = ⊤
HasPrimCount (UnaOf op a) = HasCount op
HasPrimCount (BinOf op a b) = ⊤

-- Sums of the two halves of a word, as definitions in view show them.
use Rattle.std.specs.Prelude.{◌≡◌, nat_eq, Bool, false, if◌then◌else◌, Option, Some, None, All, List}
use Rattle.nv_base.specs.declared.term.Atom.{Atom}
use Rattle.nv_base.specs.declared.term.Atom.TheVariants.{Var, Lit}
use Rattle.nv_base.specs.declared.term.Una.TheVariants.{Not, Shl, Shr, Rol}
use Rattle.nv_base.specs.declared.term.Bin.TheVariants.{Add, Sub, And, Or, Xor}
use Rattle.nv_base.specs.declared.term.Primitive.{Primitive}
use Rattle.nv_base.specs.declared.term.Primitive.TheVariants.{Same, Una as UnaOf, Bin as BinOf}
use Rattle.flow_ir.specs.Tree.{Label}
use Rattle.flow_words.specs.Definitions.{EachOf}
use Rattle.flow_words.specs.Tables.{Table, definition}

abbrev pub is_operand : Atom → Atom → Bool
is_operand (Var x) (Var y) = nat_eq x y
is_operand (Var x) (Lit w) = false
is_operand (Lit v) (Var y) = false
is_operand (Lit v) (Lit w) = nat_eq v w

-- the word whose upper half a primitive is
abbrev pub high : Primitive → Option Atom
high (UnaOf (Shr k) a) = if nat_eq k 16 then Some a else None
high (UnaOf Not a) = None
high (UnaOf (Shl k) a) = None
high (UnaOf (Rol k) a) = None
high (Same a) = None
high (BinOf op a b) = None

-- an operand under the mask of the lower half
abbrev pub masked : Atom → Atom → Option Atom
masked a (Lit v) = if nat_eq v 65535 then Some a else None
masked a (Var x) = None

abbrev pub first : Option Atom → Option Atom → Option Atom
first (Some x) b = Some x
first None b = b

-- the word whose lower half a primitive is
abbrev pub low : Primitive → Option Atom
low (BinOf And a b) = first (masked a b) (masked b a)
low (BinOf Add a b) = None
low (BinOf Sub a b) = None
low (BinOf Or a b) = None
low (BinOf Xor a b) = None
low (Same a) = None
low (UnaOf op a) = None

abbrev pub agreed : Option Atom → Option Atom → Option Atom
agreed (Some x) (Some y) = if is_operand x y then Some x else None
agreed (Some x) None = None
agreed None b = None

-- the word whose upper and lower half two primitives are
abbrev pub halved : Primitive → Primitive → Option Atom
halved p q = agreed (high p) (low q)

-- the word the sum of whose halves a primitive is
abbrev pub halves : Table → Primitive → Option Atom
halves T (BinOf Add a b) = first (halved (definition T a) (definition T b)) (halved (definition T b) (definition T a))
halves T (BinOf Sub a b) = None
halves T (BinOf And a b) = None
halves T (BinOf Or a b) = None
halves T (BinOf Xor a b) = None
halves T (Same a) = None
halves T (UnaOf op a) = None

abbrev pub halves_of : Table → Option Atom → Option Atom
halves_of T (Some x) = halves T (definition T x)
halves_of T None = None

-- the word where a primitive is the sum of the halves of the sum of its halves
abbrev pub twice : Table → Primitive → Option Atom
twice T p = halves_of T (halves T p)

-- a primitive isn't such a sum
abbrev pub IsFolded : Table → Primitive → Type 0
IsFolded T q = twice T q ≡ None

-- nor is any definition of a label, by those above it
abbrev pub IsFoldedLabel : Label → Type 0
IsFoldedLabel l = EachOf IsFolded l

abbrev pub AreFolded : List Label → Type 0
AreFolded ls = All IsFoldedLabel ls

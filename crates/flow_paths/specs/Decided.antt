-- Choices that what stands above them decides.
use Rattle.std.specs.Prelude.{◌≡◌, ℕ, ◌-◌, nat_eq, Bool, false, if◌then◌else◌, Option, None, List, [], ◌∷◌, ◌++◌, drop, length, ⊤}
use Rattle.nv_base.specs.declared.term.Atom.{Atom}
use Rattle.nv_base.specs.declared.term.Atom.TheVariants.{Var, Lit}
use Rattle.nv_base.specs.declared.term.Cmp.{Cmp}
use Rattle.nv_base.specs.declared.term.Primitive.{Primitive}
use Rattle.nv_base.specs.declared.term.Primitive.TheVariants.{Same, Una as UnaOf, Bin as BinOf}
use Rattle.nv_base.specs.Words.{word, negated}
use Rattle.flow_ir.specs.Tree.{Tree, Let, Read, Write, If, Jump, Halt}
use Rattle.flow_paths.specs.Ranges.{from, all_words, says_nothing, met, tells, of_first, of_second, of_una, of_bin}
use Rattle.flow_paths.specs.declared.ranges.Range.{Range}
use Rattle.flow_paths.specs.declared.facts.Fact.{Fact}

-- ---- bounds of operands

-- the nearest 256 of those above, which stand in order
abbrev pub near : List Fact → List Fact
near above = drop (length above - 256) above

abbrev pub narrowed : ℕ → Range → Fact → Range
narrowed x r k = if nat_eq k.variable x then met r k.range else r

-- what all facts say of a variable, and this
abbrev pub among : List Fact → ℕ → Range → Range
among [] x r = r
among (k ∷ ks) x r = among ks x (narrowed x r k)

abbrev pub range_of : List Fact → Atom → Range
range_of above (Var x) = among (near above) x all_words
range_of above (Lit v) = from (word v) (word v)

abbrev pub is_same : Atom → Atom → Bool
is_same (Var x) (Var y) = nat_eq x y
is_same (Var x) (Lit w) = false
is_same (Lit v) b = false

-- whether a comparison holds, where the nearest 256 facts tell
abbrev pub decided : List Fact → Cmp → Atom → Atom → Option Bool
decided above c a b = tells (is_same a b) (range_of above a) (range_of above b) c

-- ---- facts

-- an operand's word is within these bounds
abbrev pub bound : Atom → Range → List Fact
bound (Var x) r = if says_nothing r then [] else (record { variable = x; range = r } ∷ [])
bound (Lit v) r = []

-- a comparison holds
abbrev pub told : List Fact → Cmp → Atom → Atom → List Fact
told above c a b = bound a (of_first c (range_of above a) (range_of above b)) ++ bound b (of_second c (range_of above a) (range_of above b))

-- a memory was accessed at this address: none has more than 65,536 words or quadwords
abbrev pub accessed : Atom → List Fact
accessed a = bound a (from 0 65535)

abbrev pub of_prim : List Fact → Primitive → Range
of_prim above (Same a) = range_of above a
of_prim above (UnaOf op a) = of_una op (range_of above a)
of_prim above (BinOf op a b) = of_bin op (range_of above a) (range_of above b)

-- a variable has the word of a primitive
abbrev pub defined : List Fact → ℕ → Primitive → List Fact
defined above x p = bound (Var x) (of_prim above p)

-- ---- trees

-- no `If` is left that the nearest 256 facts above it decide
abbrev pub NoneDecided : List Fact → Tree → Type 0
NoneDecided above (Let x p t) = NoneDecided (above ++ defined above x p) t
NoneDecided above (Read m xs a t) = NoneDecided (above ++ accessed a) t
NoneDecided above (Write m a bs t) = NoneDecided (above ++ accessed a) t
NoneDecided above (If c a b t u) = (decided above c a b ≡ None) × NoneDecided (above ++ told above c a b) t × NoneDecided (above ++ told above (negated c) a b) u
NoneDecided above (Jump l bs) = ⊤
NoneDecided above (Halt e bs) = ⊤

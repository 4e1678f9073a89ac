-- What is known of variables where a tree stands: which are in scope, and the definitions in view.
use Rattle.std.specs.Prelude.{ℕ, nat_eq, nat_lt, Bool, true, false, ◌&&◌, if◌then◌else◌, List, [], ◌∷◌, slice_index_or, replicate}
use Rattle.nv_base.specs.declared.term.Atom.{Atom}
use Rattle.nv_base.specs.declared.term.Atom.TheVariants.{Var, Lit}
use Rattle.nv_base.specs.declared.term.Primitive.{Primitive}
use Rattle.nv_base.specs.declared.term.Primitive.TheVariants.{Same, Una as UnaOf, Bin as BinOf}
use Rattle.nv_base.specs.Access as access
use Rattle.flow_words.specs.declared.bits.Bit.{Bit}
use Rattle.flow_words.specs.declared.bits.Bit.TheVariants.{Unknown}
use Rattle.flow_words.specs.declared.state.Known.{Known}

abbrev pub Table : Type 0
Table = ℕ → Known

-- nothing is known of any bit
abbrev pub unknown : List Bit
unknown = replicate 32 Unknown

-- a variable that isn't in scope
abbrev pub blank : Known
blank = record { live = false; made = Same (Lit 0); bits = unknown }

-- a variable in scope without a definition
abbrev pub itself : ℕ → Known
itself x = record { live = true; made = Same (Var x); bits = unknown }

abbrev pub look : List Known → Table
look ks x = slice_index_or ks x blank

-- no variable is in scope
abbrev pub nothing : Table
nothing = λ y. blank

-- the same, but this is known of x
abbrev pub with_known : Table → ℕ → Known → Table
with_known T x k = λ y. if nat_eq y x then k else T y

-- the same, and these are in scope too
abbrev pub with_all : Table → List ℕ → Table
with_all T [] = T
with_all T (x ∷ xs) = with_all (with_known T x (itself x)) xs

-- the definition of an operand, or just the operand
abbrev pub definition : Table → Atom → Primitive
definition T (Var x) = if (T x).live then (T x).made else Same (Var x)
definition T (Lit v) = Same (Lit v)

-- ---- tests

abbrev pub is_live : Table → Atom → Bool
is_live T (Var x) = (T x).live
is_live T (Lit v) = true

-- a literal, or a variable below base
abbrev pub is_old : ℕ → Atom → Bool
is_old base (Var x) = nat_lt x base
is_old base (Lit v) = true

abbrev pub is_settled : Table → Primitive → Bool
is_settled T (Same a) = is_live T a
is_settled T (UnaOf op a) = access.has_count op && is_live T a
is_settled T (BinOf op a b) = is_live T a && is_live T b

abbrev pub is_old_prim : ℕ → Primitive → Bool
is_old_prim base (Same a) = is_old base a
is_old_prim base (UnaOf op a) = access.has_count op && is_old base a
is_old_prim base (BinOf op a b) = is_old base a && is_old base b

-- Each definition of a tree, with what is known where it stands.
use Rattle.std.specs.Prelude.{true, ⊤}
use Rattle.nv_base.specs.declared.term.Primitive.{Primitive}
use Rattle.flow_ir.specs.Tree.{Tree, Let, Read, Write, If, Jump, Halt, Label}
use Rattle.flow_words.specs.declared.state.Known.{Known}
use Rattle.flow_words.specs.Tables.{Table, nothing, with_known, with_all}
use Rattle.flow_words.specs.Bits.{bits_of}

-- what is known of a variable with a definition
abbrev pub of_prim : Table → Primitive → Known
of_prim T q = record { live = true; made = q; bits = bits_of T q }

-- each definition of a tree is as P says
abbrev pub EachDefinition : (Table → Primitive → Type 0) → Table → Tree → Type 0
EachDefinition P T (Let x q t) = P T q × EachDefinition P (with_known T x (of_prim T q)) t
EachDefinition P T (Read m xs a t) = EachDefinition P (with_all T xs) t
EachDefinition P T (Write m a bs t) = EachDefinition P T t
EachDefinition P T (If c a b t u) = EachDefinition P T t × EachDefinition P T u
EachDefinition P T (Jump l bs) = ⊤
EachDefinition P T (Halt e bs) = ⊤

-- so is each of a label
abbrev pub EachOf : (Table → Primitive → Type 0) → Label → Type 0
EachOf P l = EachDefinition P (with_all nothing l.params) l.body

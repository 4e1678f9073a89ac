-- A tree whose primitives that stand above are shared.
use Rattle.std.specs.Prelude.{◌≡◌, ℕ, Bool, List, [], ◌∷◌, ◌++◌, map, Option, Some, None, if◌then◌else◌}
use Rattle.nv_base.specs.declared.term.Atom.TheVariants.{Var}
use Rattle.nv_base.specs.declared.term.Primitive.{Primitive}
use Rattle.nv_base.specs.declared.term.Primitive.TheVariants.{Same}
use Rattle.flow_ir.specs.Tree.{Tree, Let, Read, Write, If, Jump, Halt, Label}
use Rattle.flow_sink.specs.declared.known.Known.{Known}
use Rattle.flow_sink.specs.Values.{same, near}

-- a primitive that stands above, and its variable
abbrev pub Entry : Type 0
Entry = Primitive × ℕ

abbrev pub entries : List Known → List Entry
entries ks = map (λ k. (k.prim, k.variable)) ks

abbrev pub first : List Entry → Primitive → Option ℕ
first [] p = None
first (e ∷ es) p = if same e.0 p then Some e.1 else first es p

abbrev pub chosen : Option ℕ → Primitive → Primitive
chosen (Some y) p = Same (Var y)
chosen None p = p

abbrev pub answer : List Entry → Primitive → Primitive
answer above p = chosen (first (near above) p) p

abbrev pub shared : List Entry → Tree → Tree
shared above (Let x p t) = Let x (answer above p) (shared (above ++ (p, x) ∷ []) t)
shared above (Read m xs a t) = Read m xs a (shared above t)
shared above (Write m a bs t) = Write m a bs (shared above t)
shared above (If c a b t u) = If c a b (shared above t) (shared above u)
shared above (Jump l bs) = Jump l bs
shared above (Halt e bs) = Halt e bs

abbrev pub label_shared : Label → Label
label_shared l = record { params = l.params; body = shared [] l.body }

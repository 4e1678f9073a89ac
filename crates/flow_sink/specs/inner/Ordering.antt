-- How definitions are put in order, from the last one to the first.
use Rattle.std.specs.Prelude.{ℕ, suc, nat_le, if◌then◌else◌, List, [], ◌∷◌}
use Rattle.nv_base.specs.declared.term.Primitive.{Primitive}
use Rattle.flow_ir.specs.Tree.{Tree, Let, Read, Write, If, Jump, Halt, Label}
use Rattle.flow_sink.specs.Sunk.{nodes}
use Rattle.flow_sink.specs.Ordered.{tested, handed, waits}

-- a definition before a tree, behind those that it waits for
abbrev pub late : List ℕ → List ℕ → ℕ → Primitive → Tree → Tree
late ts hs x p (Let y q t) = if waits ts hs x (Let y q t) then Let y q (late ts hs x p t) else Let x p (Let y q t)
late ts hs x p (Read m xs a t) = Let x p (Read m xs a t)
late ts hs x p (Write m a bs t) = Let x p (Write m a bs t)
late ts hs x p (If c a b t u) = Let x p (If c a b t u)
late ts hs x p (Jump l bs) = Let x p (Jump l bs)
late ts hs x p (Halt e bs) = Let x p (Halt e bs)

abbrev pub ordered : List ℕ → List ℕ → Tree → Tree
ordered ts hs (Let x p t) = late ts hs x p (ordered ts hs t)
ordered ts hs (Read m xs a t) = Read m xs a (ordered ts hs t)
ordered ts hs (Write m a bs t) = Write m a bs (ordered ts hs t)
ordered ts hs (If c a b t u) = If c a b (ordered ts hs t) (ordered ts hs u)
ordered ts hs (Jump l bs) = Jump l bs
ordered ts hs (Halt e bs) = Halt e bs

-- by a tree's own tests and jumps
abbrev pub in_order : ℕ → Tree → Tree
in_order own t = ordered (tested t) (handed own t) t

-- in a label that isn't long
abbrev pub label_ordered : ℕ → Label → Label
label_ordered own l = if nat_le (nodes l.body) 1024 then record { params = l.params; body = in_order own l.body } else l

-- from a number on
abbrev pub labels_ordered : ℕ → List Label → List Label
labels_ordered own [] = []
labels_ordered own (l ∷ ls) = label_ordered own l ∷ labels_ordered (suc own) ls

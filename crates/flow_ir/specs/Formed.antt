-- Which flows are well formed: what a pass over them may rest on.
use Rattle.std.specs.Prelude.{ℕ, ◌==◌, nat_le, Bool, false, ◌&&◌, List, [], ◌∷◌, ◌++◌, Option, Some, None, slice_get, length}
use Rattle.std.specs.List.{list_all}
use Rattle.nv_base.specs.Access.{is_known, all_known, is_primitive, can_move, is_address}
use Rattle.nv_base.specs.Sets.{all_different}
use Rattle.flow_ir.specs.Tree.{Tree, Let, Read, Write, If, Jump, Halt, Label}

-- the variables that a tree defines, in the order of the text
abbrev pub defined : Tree → List ℕ
defined (Let x a t) = x ∷ defined t
defined (Read m xs a t) = xs ++ defined t
defined (Write m a bs t) = defined t
defined (If c a b t u) = defined t ++ defined u
defined (Jump l bs) = []
defined (Halt e bs) = []

-- a label of so many parameters
abbrev pub takes_as_many : ℕ → Option Label → Bool
takes_as_many n (Some l) = length l.params == n
takes_as_many n None = false

-- a tree where these variables are known
abbrev pub is_formed : List Label → List ℕ → Tree → Bool
is_formed labels known (Let x a t) = is_primitive known a && is_formed labels (x ∷ known) t
is_formed labels known (Read m xs a t) = is_known known a && (can_move m (length xs) && (is_address m a (length xs) && is_formed labels (xs ++ known) t))
is_formed labels known (Write m a bs t) = is_known known a && (all_known known bs && (can_move m (length bs) && (is_address m a (length bs) && is_formed labels known t)))
is_formed labels known (If c a b t u) = is_known known a && (is_known known b && (is_formed labels known t && is_formed labels known u))
is_formed labels known (Jump l bs) = all_known known bs && (nat_le 1 l && takes_as_many (length bs) (slice_get labels l))
is_formed labels known (Halt e bs) = all_known known bs && nat_le (length bs) 8

-- the variables of a label are all different
abbrev pub is_label : List Label → Label → Bool
is_label labels l = is_formed labels l.params l.body && all_different (l.params ++ defined l.body)

-- label 0 is there, and takes at most 8 words
abbrev pub is_entry : Option Label → Bool
is_entry (Some l) = nat_le (length l.params) 8
is_entry None = false

abbrev pub is_flow : List Label → Bool
is_flow labels = list_all (is_label labels) labels && is_entry (slice_get labels 0)

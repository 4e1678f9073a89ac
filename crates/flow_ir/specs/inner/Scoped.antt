-- Where a tree uses only what is known, and defines only what isn't.
use Rattle.std.specs.Prelude.{◌≡◌, ℕ, true, false, List, [], ◌∷◌, ◌++◌}
use Rattle.nv_base.specs.Words.{atom_vars, prim_vars, HasPrimCount}
use Rattle.nv_base.specs.Sets.{is_in, all_vars, Within}
use Rattle.flow_ir.specs.Tree.{Tree, Let, Read, Write, If, Jump, Halt, Label}
use Rattle.flow_ir.specs.Formed.{defined}

-- nothing is in both
abbrev pub Apart : List ℕ → List ℕ → Type 0
Apart xs ys = (y : ℕ) → is_in y xs ≡ true → is_in y ys ≡ false

-- a tree uses what is known to it, defines what isn't, and the parts of an `If` define different variables
abbrev pub Fits : List ℕ → Tree → Type 0
Fits known (Let x p t) = Within (prim_vars p) known × HasPrimCount p × (is_in x known ≡ false) × Fits (x ∷ known) t
Fits known (Read m xs a t) = Within (atom_vars a) known × Apart xs known × Fits (xs ++ known) t
Fits known (Write m a bs t) = Within (all_vars (a ∷ bs)) known × Fits known t
Fits known (If c a b t u) = Within (all_vars (a ∷ b ∷ [])) known × Fits known t × Fits known u × Apart (defined t) (defined u)
Fits known (Jump l bs) = Within (all_vars bs) known
Fits known (Halt e bs) = Within (all_vars bs) known

-- a label has all that it uses as parameters or defines it
abbrev pub IsScopedLabel : Label → Type 0
IsScopedLabel l = Fits l.params l.body

-- How often variables of a flow are used.
use Rattle.std.specs.Prelude.{ℕ, ◌+◌, max, nat_eq, List, [], ◌∷◌, if◌then◌else◌}
use Rattle.std.specs.HashMap.{HashMap, get}
use Rattle.std.specs.Map.{count_at}
use Rattle.nv_base.specs.declared.term.Atom.{Atom}
use Rattle.nv_base.specs.declared.term.Atom.TheVariants.{Var, Lit}
use Rattle.nv_base.specs.declared.term.Primitive.{Primitive}
use Rattle.nv_base.specs.declared.term.Primitive.TheVariants.{Same, Una as UnaOf, Bin as BinOf}
use Rattle.nv_base.specs.Sets.{is_in}
use Rattle.flow_ir.specs.Tree.{Tree, Let, Read, Write, If, Jump, Halt}

-- a number for each variable
abbrev pub Counts : Type 0
Counts = ℕ → ℕ

-- the numbers in a map, 0 where it has none
abbrev pub kept : {S : Type 0} → HashMap ℕ ℕ S → Counts
kept m = count_at (get nat_eq m)

abbrev pub here : Atom → Counts
here (Var x) y = if nat_eq y x then 1 else 0
here (Lit v) y = 0

-- how often a variable stands among operands
abbrev pub occurs : List Atom → Counts
occurs [] y = 0
occurs (a ∷ as') y = here a y + occurs as' y

-- an operand as it is is joined with 0
abbrev pub operands : Primitive → List Atom
operands (Same a) = a ∷ Lit 0 ∷ []
operands (UnaOf op a) = a ∷ []
operands (BinOf op a b) = a ∷ b ∷ []

-- nothing for these variables, which begin here
abbrev pub outside : List ℕ → Counts → Counts
outside xs r y = if is_in y xs then 0 else r y

-- how often a variable is used at most on a path through a tree, up to where it is defined again
abbrev pub uses : Tree → Counts
uses (Let x p t) y = occurs (operands p) y + outside (x ∷ []) (uses t) y
uses (Read m xs a t) y = occurs (a ∷ []) y + outside xs (uses t) y
uses (Write m a bs t) y = occurs (a ∷ bs) y + uses t y
uses (If c a b t u) y = occurs (a ∷ b ∷ []) y + max (uses t y) (uses u y)
uses (Jump l bs) y = occurs bs y
uses (Halt e bs) y = occurs bs y

-- how often it stands as an operand in all of the tree
abbrev pub all_uses : Tree → Counts
all_uses (Let x p t) y = occurs (operands p) y + all_uses t y
all_uses (Read m xs a t) y = occurs (a ∷ []) y + all_uses t y
all_uses (Write m a bs t) y = occurs (a ∷ bs) y + all_uses t y
all_uses (If c a b t u) y = occurs (a ∷ b ∷ []) y + (all_uses t y + all_uses u y)
all_uses (Jump l bs) y = occurs bs y
all_uses (Halt e bs) y = occurs bs y

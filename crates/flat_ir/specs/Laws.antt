-- What the definitions give of a short program.
use Rattle.std.specs.Prelude.{◌≡◌, ℕ, List, [], ◌∷◌, Vec}
use Rattle.std.specs.declared.alloc.Global.{Global}
use Rattle.nv_base.specs.declared.term.Atom.{Atom}
use Rattle.nv_base.specs.declared.term.Atom.TheVariants.{Var}
use Rattle.nv_base.specs.declared.term.Bin.TheVariants.{Add}
use Rattle.nv_base.specs.declared.term.Primitive.TheVariants.{Bin as BinOf}
use Rattle.flat_ir.specs.declared.flat.Flat.TheVariants.{Let', Bind', Call, Give}
use Rattle.flat_ir.specs.declared.flat.FlatFun.{FlatFun}
use Rattle.flat_ir.specs.Wide.{wide}
use Rattle.flat_ir.specs.Bulk.{bulk}

-- five words at once: the parameter of the first is held while the second adds two operands, one of which may take two words. The
-- labels are those of the start, of the functions and of what follows the call; two jumps give words, one begins the first function,
-- and one calls the second.
pub record AreMeasured (funs : List FlatFun) : Type 0 where
  pub words : wide funs 0 ≡ 5
  pub code : bulk funs 0 ≡ record { labels = 4; jumps = 4; nodes = 2; defined = 2; used = 4 }

-- in group 1, x0 is given to the second function, x1 is what that gives, and x2 is x1 + x0; in group 0, x1 is x0 + x0
abbrev pub TwoGroups : Type 0
TwoGroups = (params bound : Vec ℕ Global) (given sum twice : Vec Atom Global) (p q r s : _)
    → params.items ≡ 0 ∷ [] → bound.items ≡ 1 ∷ [] → given.items ≡ Var 0 ∷ [] → sum.items ≡ Var 2 ∷ [] → twice.items ≡ Var 1 ∷ []
    → AreMeasured (
    record { params = params; results = 1; body = Bind' bound p (Call 1 given) q (Let' 2 (BinOf Add (Var 1) (Var 0)) r (Give sum)); group = 1 }
    ∷ record { params = params; results = 1; body = Let' 1 (BinOf Add (Var 0) (Var 0)) s (Give twice); group = 0 }
    ∷ []
    )

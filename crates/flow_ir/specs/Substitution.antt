-- Operands in the place of variables.
use Rattle.std.specs.Prelude.{◌≡◌, ℕ, nat_eq, if◌then◌else◌, List, map, slice_index_or}
use Rattle.nv_base.specs.declared.term.Atom.{Atom}
use Rattle.nv_base.specs.declared.term.Atom.TheVariants.{Var, Lit}
use Rattle.nv_base.specs.declared.term.Primitive.{Primitive}
use Rattle.nv_base.specs.declared.term.Primitive.TheVariants.{Same, Una as UnaOf, Bin as BinOf}
use Rattle.nv_base.specs.Sets.{is_in}

-- what stands for each variable
abbrev pub Names : Type 0
Names = ℕ → Atom

abbrev pub renamed : Names → Atom → Atom
renamed names (Var x) = names x
renamed names (Lit v) = Lit v

abbrev pub all_renamed : Names → List Atom → List Atom
all_renamed names atoms = map (renamed names) atoms

abbrev pub prim_renamed : Names → Primitive → Primitive
prim_renamed names (Same a) = Same (renamed names a)
prim_renamed names (UnaOf op a) = UnaOf op (renamed names a)
prim_renamed names (BinOf op a b) = BinOf op (renamed names a) (renamed names b)

-- ---- a table of names

-- what stands for a variable: its entry, or 0
abbrev pub look : List Atom → Names
look atoms x = slice_index_or atoms x (Lit 0)

-- the second names are the first, but that a stands for x
pub record IsNamed (σ : Names) (x : ℕ) (a : Atom) (τ : Names) : Type 0 where
  pub at : (y : ℕ) → τ y ≡ (if nat_eq y x then a else σ y)

-- the second names are the first, but that each of these variables stands for itself
pub record AreNamed (σ : Names) (xs : List ℕ) (τ : Names) : Type 0 where
  pub at : (y : ℕ) → τ y ≡ (if is_in y xs then Var y else σ y)

-- Trees and labels as pure data.
use Rattle.std.specs.Prelude.{ℕ, List}
use Rattle.nv_base.specs.declared.term.Mem.{Mem}
use Rattle.nv_base.specs.declared.term.Atom.{Atom}
use Rattle.nv_base.specs.declared.term.Primitive.{Primitive}
use Rattle.nv_base.specs.declared.term.Cmp.{Cmp}

pub data Tree : Type 0 where
  Let : (x : ℕ) (a : Primitive) (t : Tree) → Tree
  Read : (m : Mem) (xs : List ℕ) (a : Atom) (t : Tree) → Tree
  Write : (m : Mem) (a : Atom) (bs : List Atom) (t : Tree) → Tree
  If : (c : Cmp) (a b : Atom) (t u : Tree) → Tree
  Jump : (l : ℕ) (bs : List Atom) → Tree
  Halt : (e : ℕ) (bs : List Atom) → Tree

pub record Label : Type 0 where
  pub params : List ℕ
  pub body : Tree

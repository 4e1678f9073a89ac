-- Terms, labels and functions as pure data.
use Rattle.std.specs.Prelude.{ℕ, List, Option}
use Rattle.nv_base.specs.declared.term.Mem.{Mem}
use Rattle.nv_base.specs.declared.term.Atom.{Atom}
use Rattle.nv_base.specs.declared.term.Primitive.{Primitive}
use Rattle.nv_base.specs.declared.term.Cmp.{Cmp}

-- a label that takes an exception of a number
abbrev pub Handler : Type 0
Handler = ℕ × ℕ

mutual
  pub data Term : Type 0 where
    Let : (x : ℕ) (a : Primitive) (t : Term) → Term
    Read : (m : Mem) (xs : List ℕ) (a : Atom) (t : Term) → Term
    Write : (m : Mem) (a : Atom) (bs : List Atom) (t : Term) → Term
    If : (c : Cmp) (a b : Atom) (t u : Term) → Term
    Fix : (ls : Labels) (t : Term) → Term
    Call : (f : ℕ) (bs : List Atom) (k : Option ℕ) (hs : List Handler) → Term
    Return : (bs : List Atom) → Term
    Throw : (e : ℕ) (bs : List Atom) → Term
    Jump : (l : ℕ) (bs : List Atom) → Term
    Halt : (e : ℕ) (bs : List Atom) → Term

  pub data Labels : Type 0 where
    none : Labels
    label : (l : ℕ) (xs : List ℕ) (t : Term) (ls : Labels) → Labels

pub record Fun : Type 0 where
  pub params : List ℕ
  pub results : ℕ
  pub body : Term
  pub group : ℕ

-- A tree with other primitives in the place of some, and more definitions before them.
use Rattle.std.specs.Prelude.{◌≡◌, ℕ, ◌+◌, ◌<◌, ◌≤◌, true, false, List, [], ◌∷◌, ⊤}
use Rattle.std.specs.List.{list_all}
use Rattle.nv_base.specs.declared.term.Atom.{Atom}
use Rattle.nv_base.specs.declared.term.Cmp.{Cmp}
use Rattle.nv_base.specs.declared.term.Mem.{Mem}
use Rattle.nv_base.specs.declared.term.Primitive.{Primitive}
use Rattle.nv_base.specs.Words.{Env, IsEnv, prim_word}
use Rattle.flow_ir.specs.Tree.{Tree, Let, Read, Write, If, Jump, Halt, Label}
use Rattle.flow_words.specs.Tables.{Table, nothing, with_known, with_all, itself, is_old, is_settled, is_old_prim}
use Rattle.flow_words.specs.Bits.{IsBit, bit_of}
use Rattle.flow_words.specs.Definitions.{of_prim}

-- what is known holds of the words of variables
pub record Holds (T : Table) (env : Env) : Type 0 where
  pub made : (y : ℕ) → (T y).live ≡ true → env y ≡ prim_word env (T y).made
  pub bits : (y i : ℕ) → (T y).live ≡ true → i < 32 → IsBit env (env y) i (bit_of (T y).bits i)

-- q has the word of p wherever what is known holds
pub record HasWord (T : Table) (p q : Primitive) : Type 0 where
  pub word : (env : Env) → IsEnv env → Holds T env → prim_word env q ≡ prim_word env p

-- variables below base that aren't in scope yet, each once
abbrev pub AreNew : ℕ → Table → List ℕ → Type 0
AreNew base T [] = ⊤
AreNew base T (x ∷ xs) = (x < base) × ((T x).live ≡ false) × AreNew base (with_known T x (itself x)) xs

-- the second tree is the first with primitives that have the same words, and with definitions of the variables from n to k more; each
-- definition is as P says
pub data Reduced (P : Table → Primitive → Type 0) (base : ℕ) : Table → ℕ → Tree → Tree → ℕ → Type 0 where
  extra : (T : Table) (n k : ℕ) (q : Primitive) (t u : Tree) → base ≤ n → (T n).live ≡ false → is_settled T q ≡ true → P T q → Reduced P base (with_known T n (of_prim T q)) (n + 1) t u k → Reduced P base T n t (Let n q u) k
  kept : (T : Table) (n k x : ℕ) (p q : Primitive) (t u : Tree) → x < base → (T x).live ≡ false → is_settled T q ≡ true → P T q → is_old_prim base p ≡ true → HasWord T p q → Reduced P base (with_known T x (of_prim T q)) n t u k → Reduced P base T n (Let x p t) (Let x q u) k
  read : (T : Table) (n k : ℕ) (m : Mem) (xs : List ℕ) (a : Atom) (t u : Tree) → is_old base a ≡ true → AreNew base T xs → Reduced P base (with_all T xs) n t u k → Reduced P base T n (Read m xs a t) (Read m xs a u) k
  write : (T : Table) (n k : ℕ) (m : Mem) (a : Atom) (bs : List Atom) (t u : Tree) → is_old base a ≡ true → list_all (is_old base) bs ≡ true → Reduced P base T n t u k → Reduced P base T n (Write m a bs t) (Write m a bs u) k
  choice : (T : Table) (n j k : ℕ) (c : Cmp) (a b : Atom) (t u t' u' : Tree) → is_old base a ≡ true → is_old base b ≡ true → Reduced P base T n t t' j → Reduced P base T j u u' k → Reduced P base T n (If c a b t u) (If c a b t' u') k
  jump : (T : Table) (n l : ℕ) (bs : List Atom) → list_all (is_old base) bs ≡ true → Reduced P base T n (Jump l bs) (Jump l bs) n
  halt : (T : Table) (n e : ℕ) (bs : List Atom) → list_all (is_old base) bs ≡ true → Reduced P base T n (Halt e bs) (Halt e bs) n

-- the second label is the first one so
pub record IsReduced (P : Table → Primitive → Type 0) (l m : Label) : Type 0 where
  pub base : ℕ
  pub next : ℕ
  pub params : m.params ≡ l.params
  pub new : AreNew base nothing l.params
  pub body : Reduced P base (with_all nothing l.params) base l.body m.body next

abbrev pub AreReduced : (Table → Primitive → Type 0) → List Label → List Label → Type 0
AreReduced P [] [] = ⊤
AreReduced P (l ∷ ls) (m ∷ ms) = IsReduced P l m × AreReduced P ls ms
AreReduced P [] (m ∷ ms) = ⊥
AreReduced P (l ∷ ls) [] = ⊥

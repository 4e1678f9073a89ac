-- How a tree is copied: its variables get new numbers, operands stand for the parameters of labels that are put in the place of jumps.
use Rattle.std.specs.Prelude.{◌≡◌, ℕ, suc, ◌+◌, ◌<◌, nat_eq, Bool, true, false, if◌then◌else◌, List, [], ◌∷◌, Option, Some, None, slice_get, length}
use Rattle.std.specs.List.{range_with_len}
use Rattle.nv_base.specs.declared.term.Mem.{Mem}
use Rattle.nv_base.specs.declared.term.Atom.{Atom}
use Rattle.nv_base.specs.declared.term.Atom.TheVariants.{Var, Lit}
use Rattle.nv_base.specs.declared.term.Primitive.{Primitive}
use Rattle.nv_base.specs.declared.term.Cmp.{Cmp}
use Rattle.nv_base.specs.Words.{word, compares, negated}
use Rattle.flow_ir.specs.Tree.{Tree, Let, Read, Write, If, Jump, Halt, Label}
use Rattle.flow_ir.specs.Substitution.{Names, renamed, all_renamed, prim_renamed}

-- ---- names

-- the same, but a stands for x
abbrev pub named : Names → ℕ → Atom → Names
named σ x a = λ y. if nat_eq y x then a else σ y

-- the same, but each of these in turn has its operand, or 0 where there are too few
abbrev pub all_named : Names → List ℕ → List Atom → Names
all_named σ [] as' = σ
all_named σ (x ∷ xs) [] = all_named (named σ x (Lit 0)) xs []
all_named σ (x ∷ xs) (a ∷ as') = all_named (named σ x a) xs as'

-- the same, but these in turn have the numbers from n on
abbrev pub numbered : Names → ℕ → List ℕ → Names
numbered σ n [] = σ
numbered σ n (x ∷ xs) = numbered (named σ x (Var n)) (n + 1) xs

-- what names were before these were given up, the last one first
abbrev pub undone : List (ℕ × Atom) → Names → Names
undone [] σ = σ
undone (s ∷ ss) σ = named (undone ss σ) s.0 s.1

-- ---- choices

-- whether a comparison holds that is known beforehand
abbrev pub folded : Cmp → Atom → Atom → Option Bool
folded c (Lit v) (Lit w) = Some (compares c (word v) (word w))
folded c (Lit v) (Var y) = None
folded c (Var x) b = None

-- ---- copies

-- which labels stay, and their new numbers
pub record Numbering : Type 0 where
  pub stays : ℕ → Bool
  pub to : ℕ → ℕ

-- the second tree is a copy of the first one, where σ stands for the variables: it defines the numbers from n to k, and goes on to labels that stay
pub data Copied (labels : List Label) (s : Numbering) : Names → ℕ → Tree → Tree → ℕ → Type 0 where
  kept : (σ : Names) (n k x : ℕ) (p : Primitive) (t u : Tree) → Copied labels s (named σ x (Var n)) (n + 1) t u k → Copied labels s σ n (Let x p t) (Let n (prim_renamed σ p) u) k
  read : (σ : Names) (n k : ℕ) (m : Mem) (xs : List ℕ) (a : Atom) (t u : Tree) → Copied labels s (numbered σ n xs) (n + length xs) t u k → Copied labels s σ n (Read m xs a t) (Read m (range_with_len n (length xs)) (renamed σ a) u) k
  write : (σ : Names) (n k : ℕ) (m : Mem) (a : Atom) (bs : List Atom) (t u : Tree) → Copied labels s σ n t u k → Copied labels s σ n (Write m a bs t) (Write m (renamed σ a) (all_renamed σ bs) u) k
  choice : (σ : Names) (n j k : ℕ) (c : Cmp) (a b : Atom) (t u t' u' : Tree) → Copied labels s σ n t t' j → Copied labels s σ j u u' k → Copied labels s σ n (If c a b t u) (If c (renamed σ a) (renamed σ b) t' u') k
  swapped : (σ : Names) (n j k : ℕ) (c : Cmp) (a b : Atom) (t u t' u' : Tree) → Copied labels s σ n u u' j → Copied labels s σ j t t' k → Copied labels s σ n (If c a b t u) (If (negated c) (renamed σ a) (renamed σ b) u' t') k
  first : (σ : Names) (n k : ℕ) (c : Cmp) (a b : Atom) (t u v : Tree) → folded c (renamed σ a) (renamed σ b) ≡ Some true → Copied labels s σ n t v k → Copied labels s σ n (If c a b t u) v k
  second : (σ : Names) (n k : ℕ) (c : Cmp) (a b : Atom) (t u v : Tree) → folded c (renamed σ a) (renamed σ b) ≡ Some false → Copied labels s σ n u v k → Copied labels s σ n (If c a b t u) v k
  jump : (σ : Names) (n l : ℕ) (bs : List Atom) → l < length labels → s.stays l ≡ true → Copied labels s σ n (Jump l bs) (Jump (s.to l) (all_renamed σ bs)) n
  halt : (σ : Names) (n e : ℕ) (bs : List Atom) → Copied labels s σ n (Halt e bs) (Halt e (all_renamed σ bs)) n
  inside : (σ : Names) (n k l : ℕ) (bs : List Atom) (m : Label) (u : Tree) → slice_get labels l ≡ Some m → Copied labels s (all_named σ m.params (all_renamed σ bs)) n m.body u k → Copied labels s σ n (Jump l bs) u k

-- a label whose variables are numbered from 0 on
pub record IsCopied (labels : List Label) (s : Numbering) (l m : Label) : Type 0 where
  pub base : Names
  pub next : ℕ
  pub params : m.params ≡ range_with_len 0 (length l.params)
  pub body : Copied labels s (numbered base 0 l.params) (0 + length l.params) l.body m.body next

-- of the labels from number i on those that stay are copied, the first one to number k
pub data AreCopied (labels : List Label) (s : Numbering) : ℕ → ℕ → List Label → List Label → Type 0 where
  none : (i k : ℕ) → AreCopied labels s i k [] []
  stays : (i k : ℕ) (l m : Label) (ls ms : List Label) → s.to i ≡ k → IsCopied labels s l m → AreCopied labels s (suc i) (suc k) ls ms → AreCopied labels s i k (l ∷ ls) (m ∷ ms)
  goes : (i k : ℕ) (l : Label) (ls ms : List Label) → s.stays i ≡ false → AreCopied labels s (suc i) k ls ms → AreCopied labels s i k (l ∷ ls) ms

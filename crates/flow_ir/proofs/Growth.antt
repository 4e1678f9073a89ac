-- With more jumps left, a run gets at least as far.
use Rattle.std.proofs.Common.{ℕ, zero, suc, ◌≤◌, List, Option, Some, None, arith, slice_get, length}
use Rattle.nv_base.specs.Memories.{Memories}
use Rattle.nv_base.specs.Meanings.{FullOutcome, IsPrefix}
use Rattle.nv_base.specs.Progress.{IsMonotone}
use Rattle.nv_base.specs.Words.{Env, assigned, assigned_all, atom_word, atom_words, prim_word, compares}
use Rattle.nv_base.specs.World.{World, begun}
use Rattle.nv_base.proofs.Same.{prefix-refl}
use Rattle.nv_base.proofs.Kept.{IsKept, kept-read, kept-write, kept-if, kept-over, Adds, adds-kept, Gets, gets-kept, gets-going}
use Rattle.flow_ir.specs.Tree.{Tree, Let, Read, Write, If, Jump, Halt, Label}
use Rattle.flow_ir.specs.Meaning.{Next, does, blank, enter, run, flow_meaning}

module _ (R : World → FullOutcome → FullOutcome → Type 0) (k : IsKept R) (f g : Next) (h : (l : ℕ) (ws : List ℕ) (w : World) → R w (f l ws w) (g l ws w)) where
  kept-does : (t : Tree) (env : Env) (w : World) → R w (does f t env w) (does g t env w)
  kept-does (Let x a t) env w = kept-does t (assigned env x (prim_word env a)) w
  kept-does (Read m xs a t) env w =
      kept-read R k m (atom_word env a) (length xs) w (λ ws. does f t (assigned_all env xs ws) w) (λ ws. does g t (assigned_all env xs ws) w) (λ ws. kept-does t (assigned_all env xs ws) w)
  kept-does (Write m a bs t) env w =
      kept-write R k m (atom_word env a) (atom_words env bs) w (λ v. does f t env v) (λ v. does g t env v) (λ v. kept-does t env v)
  kept-does (If c a b t u) env w = kept-if R k (compares c (atom_word env a) (atom_word env b)) w _ _ _ _ (kept-does t env w) (kept-does u env w)
  kept-does (Jump l bs) env w = h l (atom_words env bs) w
  kept-does (Halt e bs) env w = kept-over R k _ w

  pub kept-enter : (o : Option Label) (ws : List ℕ) (w : World) → R w (enter f o ws w) (enter g o ws w)
  kept-enter (Some l) ws w = kept-does l.body (assigned_all blank l.params ws) w
  kept-enter None ws w = kept-over R k _ w

-- writes are only added
pub run-adds : (labels : List Label) (n l : ℕ) (ws : List ℕ) (w : World) → IsPrefix w.writes (run labels n l ws w).writes
run-adds labels zero l ws w = prefix-refl w.writes
run-adds labels (suc n) l ws w = kept-enter Adds adds-kept (run labels n) (run labels n) (run-adds labels n) (slice_get labels l) ws w

pub run-grows : (labels : List Label) (m n : ℕ) → m ≤ n → (l : ℕ) (ws : List ℕ) (w : World) → Gets w (run labels m l ws w) (run labels n l ws w)
run-grows labels zero n le l ws w = gets-going w (run labels n l ws w) (run-adds labels n l ws w)
run-grows labels (suc m) zero le l ws w = absurd (omega arith)
run-grows labels (suc m) (suc n) le l ws w = kept-enter Gets gets-kept (run labels m) (run labels n) (run-grows labels m n (omega arith)) (slice_get labels l) ws w

pub meaning-grows : (labels : List Label) (args : List ℕ) (p : Memories) → IsMonotone (flow_meaning labels args p)
meaning-grows labels args p m n le = kept-enter Gets gets-kept (run labels m) (run labels n) (run-grows labels m n le) (slice_get labels 0) args (begun p)

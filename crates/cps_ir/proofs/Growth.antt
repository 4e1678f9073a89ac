-- With more jumps left, a run gets at least as far.
use Rattle.std.proofs.Common.{ℕ, zero, suc, ◌≤◌, List, Option, Some, None, arith, slice_get, length}
use Rattle.nv_base.specs.Memories.{Memories}
use Rattle.nv_base.specs.Meanings.{FullOutcome, IsPrefix}
use Rattle.nv_base.specs.Progress.{IsMonotone}
use Rattle.nv_base.specs.Words.{Env, assigned, assigned_all, atom_word, atom_words, prim_word, compares}
use Rattle.nv_base.specs.World.{World, begun}
use Rattle.nv_base.proofs.Same.{prefix-refl}
use Rattle.nv_base.proofs.Kept.{IsKept, kept-read, kept-write, kept-if, kept-over, Adds, adds-kept, Gets, gets-kept, gets-going}
use Rattle.cps_ir.specs.Term.{Term, Let, Read, Write, If, Fix, Call, Return, Throw, Jump, Halt, Fun}
use Rattle.cps_ir.specs.Meaning.{handler_of, Body, label_in, Scope, Top, Bound, Frames, Bottom, Frame, Task, ToLabel, ToFun, Next, returned, or_label, thrown, does, at_body, enter_label, blank, enter_fun, enter, run, cps_meaning}

module _ (R : World → FullOutcome → FullOutcome → Type 0) (k : IsKept R) (f g : Next) (h : (task : Task) (w : World) → R w (f task w) (g task w)) where
  kept-returned : (ws : List ℕ) (fr : Frames) (w : World) → R w (returned f ws fr w) (returned g ws fr w)
  kept-returned ws Bottom w = kept-over R k _ w
  kept-returned ws (Frame l hs sc fr) w = h _ w

  kept-or : (o : Option ℕ) (ws : List ℕ) (sc : Scope) (fr : Frames) (w : World) (r s : FullOutcome) → R w r s → R w (or_label f o ws sc fr w r) (or_label g o ws sc fr w s)
  kept-or (Some l) ws sc fr w r s q = h _ w
  kept-or None ws sc fr w r s q = q

  kept-thrown : (e : ℕ) (ws : List ℕ) (fr : Frames) (w : World) → R w (thrown f e ws fr w) (thrown g e ws fr w)
  kept-thrown e ws Bottom w = kept-over R k _ w
  kept-thrown e ws (Frame l hs sc fr) w = kept-or (handler_of e hs) ws sc fr w _ _ (kept-thrown e ws fr w)

  kept-does : (t : Term) (env : Env) (sc : Scope) (fr : Frames) (w : World) → R w (does f t env sc fr w) (does g t env sc fr w)
  kept-does (Let x a t) env sc fr w = kept-does t (assigned env x (prim_word env a)) sc fr w
  kept-does (Read m xs a t) env sc fr w =
      kept-read R k m (atom_word env a) (length xs) w (λ ws. does f t (assigned_all env xs ws) sc fr w) (λ ws. does g t (assigned_all env xs ws) sc fr w) (λ ws. kept-does t (assigned_all env xs ws) sc fr w)
  kept-does (Write m a bs t) env sc fr w =
      kept-write R k m (atom_word env a) (atom_words env bs) w (λ v. does f t env sc fr v) (λ v. does g t env sc fr v) (λ v. kept-does t env sc fr v)
  kept-does (If c a b t u) env sc fr w = kept-if R k (compares c (atom_word env a) (atom_word env b)) w _ _ _ _ (kept-does t env sc fr w) (kept-does u env sc fr w)
  kept-does (Fix ls t) env sc fr w = kept-does t env (Bound ls env sc) fr w
  kept-does (Call l bs o hs) env sc fr w = h _ w
  kept-does (Return bs) env sc fr w = kept-returned (atom_words env bs) fr w
  kept-does (Throw e bs) env sc fr w = kept-thrown e (atom_words env bs) fr w
  kept-does (Jump l bs) env sc fr w = h _ w
  kept-does (Halt e bs) env sc fr w = kept-over R k _ w

  kept-body : (o : Option Body) (env : Env) (sc : Scope) (ws : List ℕ) (fr : Frames) (w : World) (r s : FullOutcome) → R w r s → R w (at_body f o env sc ws fr w r) (at_body g o env sc ws fr w s)
  kept-body (Some b) env sc ws fr w r s q = kept-does b.term (assigned_all env b.params ws) sc fr w
  kept-body None env sc ws fr w r s q = q

  kept-label : (l : ℕ) (ws : List ℕ) (sc : Scope) (fr : Frames) (w : World) → R w (enter_label f l ws sc fr w) (enter_label g l ws sc fr w)
  kept-label l ws Top fr w = kept-over R k _ w
  kept-label l ws (Bound ls env sc) fr w = kept-body (label_in l ls) env (Bound ls env sc) ws fr w _ _ (kept-label l ws sc fr w)

  pub kept-fun : (o : Option Fun) (ws : List ℕ) (fr : Frames) (w : World) → R w (enter_fun f o ws fr w) (enter_fun g o ws fr w)
  kept-fun (Some t) ws fr w = kept-does t.body (assigned_all blank t.params ws) Top fr w
  kept-fun None ws fr w = kept-over R k _ w

  pub kept-enter : (funs : List Fun) (task : Task) (w : World) → R w (enter funs f task w) (enter funs g task w)
  kept-enter funs (ToLabel l ws sc fr) w = kept-label l ws sc fr w
  kept-enter funs (ToFun l ws fr) w = kept-fun (slice_get funs l) ws fr w

-- writes are only added
pub run-adds : (funs : List Fun) (n : ℕ) (task : Task) (w : World) → IsPrefix w.writes (run funs n task w).writes
run-adds funs zero task w = prefix-refl w.writes
run-adds funs (suc n) task w = kept-enter Adds adds-kept (run funs n) (run funs n) (run-adds funs n) funs task w

pub run-grows : (funs : List Fun) (m n : ℕ) → m ≤ n → (task : Task) (w : World) → Gets w (run funs m task w) (run funs n task w)
run-grows funs zero n le task w = gets-going w (run funs n task w) (run-adds funs n task w)
run-grows funs (suc m) zero le task w = absurd (omega arith)
run-grows funs (suc m) (suc n) le task w = kept-enter Gets gets-kept (run funs m) (run funs n) (run-grows funs m n (omega arith)) funs task w

pub meaning-grows : (funs : List Fun) (main : ℕ) (args : List ℕ) (p : Memories) → IsMonotone (cps_meaning funs main args p)
meaning-grows funs main args p m n le = kept-fun Gets gets-kept (run funs m) (run funs n) (run-grows funs m n le) (slice_get funs main) args Bottom (begun p)

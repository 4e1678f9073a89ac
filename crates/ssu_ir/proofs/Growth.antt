-- With more jumps left, a run gets at least as far; and its memories follow its writes.
use Rattle.std.proofs.Common.{◌≡◌, ℕ, zero, suc, ◌≤◌, Bool, true, false, List, Option, Some, None, refl, arith, slice_get, length, map, if◌then◌else◌}
use Rattle.nv_base.specs.declared.term.Mem.{Mem}
use Rattle.nv_base.specs.Memories.{Memories, fetched, stored}
use Rattle.nv_base.specs.Meanings.{FullOutcome, IsPrefix, left_by}
use Rattle.nv_base.specs.Progress.{IsMonotone, FollowsAll}
use Rattle.nv_base.specs.Words.{Env, word, una_word, bin_word, assigned, assigned_all, compares}
use Rattle.nv_base.specs.World.{World, begun, after_read, wrote, after_write}
use Rattle.nv_base.proofs.Same.{prefix-refl}
use Rattle.nv_base.proofs.Kept.{IsKept, kept-read, kept-write, kept-if, kept-over, Adds, adds-kept, Gets, gets-kept, gets-going}
use Rattle.nv_base.proofs.Accesses.{store-follows}
use Rattle.ssu_ir.specs.Tree.{Step, Last, Tree, Label, Lit, Una, Bin, Clone, Read, Write, Jump, Halt, Do, If, End}
use Rattle.ssu_ir.specs.Meaning.{Next, assigned_each, step_does, last_does, does, blank, enter, run, ssu_meaning}
use Rattle.ssu_ir.proofs.Walks.{next}

-- ---- what is kept by reads and writes is kept by trees

module _ (R : World → FullOutcome → FullOutcome → Type 0) (k : IsKept R) where
  pub kept-step : (s : Step) (f g : Env → World → FullOutcome) → ((env : Env) (w : World) → R w (f env w) (g env w)) → (env : Env) (w : World) → R w (step_does s f env w) (step_does s g env w)
  kept-step (Lit x v) f g h env w = h (assigned env x (word v)) w
  kept-step (Una x op y) f g h env w = h (assigned env x (una_word op (env y))) w
  kept-step (Bin x op y z) f g h env w = h (assigned env x (bin_word op (env y) (env z))) w
  kept-step (Clone xs y) f g h env w = h (assigned_each env xs (env y)) w
  kept-step (Read m xs y) f g h env w =
      kept-read R k m (env y) (length xs) w (λ ws. f (assigned_all env xs ws) w) (λ ws. g (assigned_all env xs ws) w) (λ ws. h (assigned_all env xs ws) w)
  kept-step (Write m y xs) f g h env w = kept-write R k m (env y) (map env xs) w (λ v. f env v) (λ v. g env v) (λ v. h env v)

module _ (R : World → FullOutcome → FullOutcome → Type 0) (k : IsKept R) (f g : Next) (h : (l : ℕ) (ws : List ℕ) (w : World) → R w (f l ws w) (g l ws w)) where
  kept-last : (l : Last) (env : Env) (w : World) → R w (last_does f l env w) (last_does g l env w)
  kept-last (Jump l xs) env w = h l (map env xs) w
  kept-last (Halt e xs) env w = kept-over R k _ w

  pub kept-does : (t : Tree) (env : Env) (w : World) → R w (does f t env w) (does g t env w)
  kept-does (Do s t) env w = kept-step R k s (does f t) (does g t) (kept-does t) env w
  kept-does (If c x y t u) env w = kept-if R k (compares c (env x) (env y)) w _ _ _ _ (kept-does t env w) (kept-does u env w)
  kept-does (End l) env w = kept-last l env w

  pub kept-enter : (o : Option Label) (ws : List ℕ) (w : World) → R w (enter f o ws w) (enter g o ws w)
  kept-enter (Some l) ws w = kept-does l.body (assigned_all blank l.params ws) w
  kept-enter None ws w = kept-over R k _ w

-- writes are only added
pub run-adds : (labels : List Label) (n l : ℕ) (ws : List ℕ) (w : World) → IsPrefix w.writes (run labels n l ws w).writes
run-adds labels zero l ws w = prefix-refl w.writes
run-adds labels (suc n) l ws w = kept-enter Adds adds-kept (run labels n) (run labels n) (run-adds labels n) (slice_get labels l) ws w

pub run-grows : (labels : List Label) (m n : ℕ) → m ≤ n → (l : ℕ) (ws : List ℕ) (w : World) → Gets w (run labels m l ws w) (run labels n l ws w)
run-grows labels zero n le l ws w = gets-going w (run labels n l ws w) (run-adds labels n l ws w)
run-grows labels (suc m) zero le l ws w = absurd (omega arith)
run-grows labels (suc m) (suc n) le l ws w = kept-enter Gets gets-kept (run labels m) (run labels n) (run-grows labels m n (omega arith)) (slice_get labels l) ws w

pub meaning-grows : (labels : List Label) (args : List ℕ) (p : Memories) → IsMonotone (ssu_meaning labels args p)
meaning-grows labels args p m n le = kept-enter Gets gets-kept (run labels m) (run labels n) (run-grows labels m n le) (slice_get labels 0) args (begun p)

-- ---- the memories are the first ones after the writes so far

abbrev pub Follows : Memories → World → Type 0
Follows p w = w.packet ≡ left_by w.writes p

abbrev pub FollowsIn : Memories → FullOutcome → Type 0
FollowsIn p r = r.packet ≡ left_by r.writes p

follow-read : (p : Memories) (found : Option (List ℕ)) (bad : FullOutcome) (go : List ℕ → FullOutcome) → FollowsIn p bad → ((ws : List ℕ) → FollowsIn p (go ws)) → FollowsIn p (after_read found bad go)
follow-read p (Some ws) bad go b h = h ws
follow-read p None bad go b h = b

follow-write : (p : Memories) (m : Mem) (at : ℕ) (ws : List ℕ) (w : World) (found : Option Memories) (bad : FullOutcome) (go : World → FullOutcome) → stored m at ws w.packet ≡ found → Follows p w → FollowsIn p bad
    → ((v : World) → Follows p v → FollowsIn p (go v)) → FollowsIn p (after_write found bad (λ q. go (wrote m at ws q w)))
follow-write p m at ws w (Some q) bad go e f b h = h (wrote m at ws q w) (store-follows m at ws q (record { calls = 0; packet = w.packet; writes = w.writes }) p e f)
follow-write p m at ws w None bad go e f b h = b

follow-if : (b : Bool) (p : Memories) (q r : FullOutcome) → FollowsIn p q → FollowsIn p r → FollowsIn p (if b then q else r)
follow-if true p q r g h = g
follow-if false p q r g h = h

pub follow-step : (p : Memories) (s : Step) (go : Env → World → FullOutcome) → ((env : Env) (w : World) → Follows p w → FollowsIn p (go env w)) → (env : Env) (w : World) → Follows p w → FollowsIn p (step_does s go env w)
follow-step p (Lit x v) go h env w f = h (assigned env x (word v)) w f
follow-step p (Una x op y) go h env w f = h (assigned env x (una_word op (env y))) w f
follow-step p (Bin x op y z) go h env w f = h (assigned env x (bin_word op (env y) (env z))) w f
follow-step p (Clone xs y) go h env w f = h (assigned_each env xs (env y)) w f
follow-step p (Read m xs y) go h env w f = follow-read p (fetched m (env y) (length xs) w.packet) _ (λ ws. go (assigned_all env xs ws) w) f (λ ws. h (assigned_all env xs ws) w f)
follow-step p (Write m y xs) go h env w f = follow-write p m (env y) (map env xs) w (stored m (env y) (map env xs) w.packet) _ (λ v. go env v) refl f f (λ v. h env v)

abbrev pub Following : Memories → Next → Type 0
Following p next = (l : ℕ) (ws : List ℕ) (w : World) → Follows p w → FollowsIn p (next l ws w)

follow-last : (p : Memories) (next : Next) → Following p next → (l : Last) (env : Env) (w : World) → Follows p w → FollowsIn p (last_does next l env w)
follow-last p next h (Jump l xs) env w f = h l (map env xs) w f
follow-last p next h (Halt e xs) env w f = f

pub does-follows : (p : Memories) (next : Next) → Following p next → (t : Tree) (env : Env) (w : World) → Follows p w → FollowsIn p (does next t env w)
does-follows p next h (Do s t) env w f = follow-step p s (does next t) (does-follows p next h t) env w f
does-follows p next h (If c x y t u) env w f = follow-if (compares c (env x) (env y)) p (does next t env w) (does next u env w) (does-follows p next h t env w f) (does-follows p next h u env w f)
does-follows p next h (End l) env w f = follow-last p next h l env w f

pub enter-follows : (p : Memories) (next : Next) → Following p next → (o : Option Label) (ws : List ℕ) (w : World) → Follows p w → FollowsIn p (enter next o ws w)
enter-follows p next h (Some l) ws w f = does-follows p next h l.body (assigned_all blank l.params ws) w f
enter-follows p next h None ws w f = f

pub run-follows : (p : Memories) (labels : List Label) (n : ℕ) → Following p (run labels n)
run-follows p labels zero l ws w f = f
run-follows p labels (suc n) l ws w f = enter-follows p (run labels n) (run-follows p labels n) (slice_get labels l) ws w f

pub meaning-follows : (labels : List Label) (args : List ℕ) (p : Memories) → FollowsAll p (ssu_meaning labels args p)
meaning-follows labels args p n = enter-follows p (run labels n) (run-follows p labels n) (slice_get labels 0) args (begun p) refl

-- What one node does, by its answer.
use Rattle.std.proofs.Common.{◌≡◌, ℕ, ◌≤◌, Bool, true, false, List, [], ◌∷◌, ◌++◌, map, length, take, Some, None, refl, sym, ap, ◌∙◌, subst, if◌then◌else◌, arith}
use Rattle.std.proofs.lemmas.List.{length-take-le}
use Rattle.nv_base.specs.declared.term.Mem.{Mem}
use Rattle.nv_base.specs.declared.term.Mem.TheVariants.{Sram, Sdram, Scratch}
use Rattle.nv_base.specs.declared.term.Cmp.{Cmp}
use Rattle.nv_base.specs.declared.outcome.Outcome.{Outcome}
use Rattle.nv_base.specs.declared.outcome.Outcome.TheVariants as outcome
use Rattle.nv_base.specs.declared.outcome.Write.{Write as WriteEvent}
use Rattle.nv_base.specs.Access.{can_move}
use Rattle.nv_base.specs.Log.{Log, noted}
use Rattle.nv_base.specs.Memories.{Memories, IsAccess, fetched, stored}
use Rattle.nv_base.specs.Words.{Env, compares, assigned_all}
use Rattle.nv_base.specs.World.{World, over, ended, wrote}
use Rattle.nv_base.proofs.Operands.{is_access}
use Rattle.nv_base.proofs.LogLemmas.{noted-append}
use Rattle.ssu_ir.specs.declared.node.NodeId.{NodeId}
use Rattle.ssu_ir.specs.declared.step.LabelExit.TheVariants.{Jump as LeavesBy, Over}
use Rattle.ssu_ir.specs.declared.step.NextStep.TheVariants.{On, Left}
use Rattle.ssu_ir.specs.Tree.{Step, Read, Write, Jump, Halt, Node, Does, Forks, Ends}
use Rattle.ssu_ir.specs.Entered.{Exit, EndsWith, JumpsTo, exit_after_read, exit_after_write, step_exit}
use Rattle.ssu_ir.specs.inner.Running.{At, Stepped, node_exit}

-- ---- accesses

access-few : (m : Mem) (n : ℕ) → IsAccess m n → n ≤ 8
access-few Sram n h = h.1
access-few Sdram n h = omega (arith, h.1, h.3)
access-few Scratch n h = h.1

-- of 8 words so many are taken as an access may have
pub access-taken : (m : Mem) (n : ℕ) (l : List ℕ) → length l ≡ 8 → can_move m n ≡ true → IsAccess m (length (take n l))
access-taken m n l e h =
    let a = is_access m n h in
    let few = access-few m n a in
    let P : ℕ → Type 0 = IsAccess m in
    subst P (sym (length-take-le n l (omega (arith, e, few)))) a

pub moves-few : (m : Mem) (n : ℕ) → can_move m n ≡ true → n ≤ 8
moves-few m n h = access-few m n (is_access m n h)

-- ---- the run so far

pub at-begun : (p : Memories) (log : Log) → At log p log (record { packet = p; writes = [] })
at-begun p log = record { packet = refl; writes = refl }

pub at-wrote : (log0 log log' : Log) (p p' : Memories) (w : World) (v : WriteEvent) → At log0 p log w → log' ≡ noted log v → At log0 p' log' (record { packet = p'; writes = w.writes ++ v ∷ [] })
at-wrote log0 log log' p p' w v a e = record { packet = refl; writes = e ∙ ap (λ l. noted l v) a.writes ∙ sym (noted-append w.writes (v ∷ []) log0) }

-- ---- steps

-- the step goes on with this assignment, here
pub steps-on : (h : Node) (ks : List ℕ) (s : Step) (k : NodeId) (env env' : Env) (log0 : Log) (w now : World) (ws : List ℕ) (p : Memories) (log : Log) → h ≡ Does s → ks ≡ k.0 ∷ []
    → ((g : Env → World → Exit) → step_exit s g env w ≡ g env' now) → At log0 p log now → Stepped h ks env log0 w (On k) ws env' p log
steps-on h ks s k env env' log0 w now ws p log e d f a = record {
  now = now;
  at = a;
  exit = λ go. ap (λ x. node_exit x ks go env w) e ∙ ap (λ x. node_exit (Does s) x go env w) d ∙ f (go k.0);
}

-- the step ends the run
pub steps-over : (h : Node) (ks : List ℕ) (s : Step) (k : NodeId) (o : Outcome) (env env' : Env) (log0 : Log) (w : World) (ws : List ℕ) (p : Memories) (log : Log) → h ≡ Does s → ks ≡ k.0 ∷ []
    → ((g : Env → World → Exit) → step_exit s g env w ≡ EndsWith (over o w)) → At log0 p log w → Stepped h ks env log0 w (Left (Over o)) ws env' p log
steps-over h ks s k o env env' log0 w ws p log e d f a = record {
  now = w;
  at = a;
  exit = λ go. ap (λ x. node_exit x ks go env w) e ∙ ap (λ x. node_exit (Does s) x go env w) d ∙ f (go k.0);
}

fork-at : (b c : Bool) (e f : Exit) → b ≡ c → (if b then e else f) ≡ (if c then e else f)
fork-at b c e f h = ap (λ x. if x then e else f) h

pub forks-first : (h : Node) (ks : List ℕ) (c : Cmp) (x y : ℕ) (j k : NodeId) (env : Env) (log0 : Log) (w : World) (ws : List ℕ) (p : Memories) (log : Log) → h ≡ Forks c x y → ks ≡ j.0 ∷ k.0 ∷ []
    → compares c (env x) (env y) ≡ true → At log0 p log w → Stepped h ks env log0 w (On j) ws env p log
forks-first h ks c x y j k env log0 w ws p log e d b a = record {
  now = w;
  at = a;
  exit = λ go. ap (λ z. node_exit z ks go env w) e ∙ ap (λ z. node_exit (Forks c x y) z go env w) d ∙ fork-at (compares c (env x) (env y)) true (go j.0 env w) (go k.0 env w) b;
}

pub forks-second : (h : Node) (ks : List ℕ) (c : Cmp) (x y : ℕ) (j k : NodeId) (env : Env) (log0 : Log) (w : World) (ws : List ℕ) (p : Memories) (log : Log) → h ≡ Forks c x y → ks ≡ j.0 ∷ k.0 ∷ []
    → compares c (env x) (env y) ≡ false → At log0 p log w → Stepped h ks env log0 w (On k) ws env p log
forks-second h ks c x y j k env log0 w ws p log e d b a = record {
  now = w;
  at = a;
  exit = λ go. ap (λ z. node_exit z ks go env w) e ∙ ap (λ z. node_exit (Forks c x y) z go env w) d ∙ fork-at (compares c (env x) (env y)) false (go j.0 env w) (go k.0 env w) b;
}

pub ends-jump : (h : Node) (ks : List ℕ) (l : ℕ) (xs : List ℕ) (env : Env) (log0 : Log) (w : World) (ws : List ℕ) (p : Memories) (log : Log) → h ≡ Ends (Jump l xs) → ws ≡ map env xs → At log0 p log w
    → Stepped h ks env log0 w (Left (LeavesBy l)) ws env p log
ends-jump h ks l xs env log0 w ws p log e d a = record {
  now = w;
  at = a;
  exit = λ go. ap (λ z. node_exit z ks go env w) e ∙ ap (λ v. JumpsTo l v w) (sym d);
}

pub ends-halt : (h : Node) (ks : List ℕ) (n : ℕ) (xs : List ℕ) (o : Outcome) (env : Env) (log0 : Log) (w : World) (ws : List ℕ) (p : Memories) (log : Log) → h ≡ Ends (Halt n xs) → o ≡ ended n (map env xs) → At log0 p log w
    → Stepped h ks env log0 w (Left (Over o)) ws env p log
ends-halt h ks n xs o env log0 w ws p log e d a = record {
  now = w;
  at = a;
  exit = λ go. ap (λ z. node_exit z ks go env w) e ∙ ap (λ x. EndsWith (over x w)) (sym d);
}

-- ---- reads and writes

pub read-done : (m : Mem) (xs ws : List ℕ) (y at : ℕ) (env : Env) (w : World) (p : Memories) (g : Env → World → Exit) → at ≡ env y → p ≡ w.packet → fetched m at (length xs) p ≡ Some ws
    → step_exit (Read m xs y) g env w ≡ g (assigned_all env xs ws) w
read-done m xs ws y at env w p g e d f =
    ap (λ o. exit_after_read o (over (outcome.Fault m (env y)) w) (λ vs. g (assigned_all env xs vs) w)) (ap (λ x. fetched m x (length xs) w.packet) (sym e) ∙ ap (fetched m at (length xs)) (sym d) ∙ f)

pub read-bad : (m : Mem) (xs : List ℕ) (y at : ℕ) (env : Env) (w : World) (p : Memories) (g : Env → World → Exit) → at ≡ env y → p ≡ w.packet → fetched m at (length xs) p ≡ None
    → step_exit (Read m xs y) g env w ≡ EndsWith (over (outcome.Fault m at) w)
read-bad m xs y at env w p g e d f =
    ap (λ o. exit_after_read o (over (outcome.Fault m (env y)) w) (λ vs. g (assigned_all env xs vs) w)) (ap (λ x. fetched m x (length xs) w.packet) (sym e) ∙ ap (fetched m at (length xs)) (sym d) ∙ f)
    ∙ ap (λ x. EndsWith (over (outcome.Fault m x) w)) (sym e)

pub write-done : (m : Mem) (xs ws : List ℕ) (y at : ℕ) (env : Env) (w : World) (p q : Memories) (g : Env → World → Exit) → at ≡ env y → ws ≡ map env xs → p ≡ w.packet → stored m at ws p ≡ Some q
    → step_exit (Write m y xs) g env w ≡ g env (wrote m at ws q w)
write-done m xs ws y at env w p q g e v d f =
    ap (λ x. exit_after_write (stored m x (map env xs) w.packet) (over (outcome.Fault m x) w) (λ r. g env (wrote m x (map env xs) r w))) (sym e)
    ∙ ap (λ x. exit_after_write (stored m at x w.packet) (over (outcome.Fault m at) w) (λ r. g env (wrote m at x r w))) (sym v)
    ∙ ap (λ o. exit_after_write o (over (outcome.Fault m at) w) (λ r. g env (wrote m at ws r w))) (ap (stored m at ws) (sym d) ∙ f)

pub write-bad : (m : Mem) (xs ws : List ℕ) (y at : ℕ) (env : Env) (w : World) (p : Memories) (g : Env → World → Exit) → at ≡ env y → ws ≡ map env xs → p ≡ w.packet → stored m at ws p ≡ None
    → step_exit (Write m y xs) g env w ≡ EndsWith (over (outcome.Fault m at) w)
write-bad m xs ws y at env w p g e v d f =
    ap (λ x. exit_after_write (stored m x (map env xs) w.packet) (over (outcome.Fault m x) w) (λ r. g env (wrote m x (map env xs) r w))) (sym e)
    ∙ ap (λ x. exit_after_write (stored m at x w.packet) (over (outcome.Fault m at) w) (λ r. g env (wrote m at x r w))) (sym v)
    ∙ ap (λ o. exit_after_write o (over (outcome.Fault m at) w) (λ r. g env (wrote m at ws r w))) (ap (stored m at ws) (sym d) ∙ f)

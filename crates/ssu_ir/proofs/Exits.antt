-- The meaning of labels by how runs leave them, and laws of the entries of labels.
use Rattle.std.proofs.Common.{◌≡◌, ℕ, zero, suc, ◌≤◌, List, map, length, Option, Some, None, Bool, true, false, if◌then◌else◌, refl, arith}
use Rattle.std.specs.Prelude.{slice_get}
use Rattle.nv_base.specs.declared.outcome.Outcome.TheVariants as outcome
use Rattle.nv_base.specs.Memories.{Memories, fetched, stored}
use Rattle.nv_base.specs.Meanings.{FullOutcome}
use Rattle.nv_base.specs.Words.{Env, compares, assigned_all}
use Rattle.nv_base.specs.World.{World, begun, over, after_read, after_write, wrote}
use Rattle.ssu_ir.specs.Tree.{Step, Lit, Una, Bin, Clone, Read, Write, Last, Jump, Halt, Tree, Do, If, End, Label}
use Rattle.ssu_ir.specs.Meaning.{Next, step_does, last_does, does, enter, run, blank, ssu_meaning}
use Rattle.ssu_ir.specs.Entered.{Exit, JumpsTo, EndsWith, outcome_of, exit_after_read, exit_after_write, step_exit, last_exit, tree_exit, label_exit, entered_behind, entered}

-- ---- the meaning

read_by_exit : (next : Next) (o : Option (List ℕ)) (bad : FullOutcome) (f : List ℕ → FullOutcome) (g : List ℕ → Exit) → ((ws : List ℕ) → f ws ≡ outcome_of next (g ws)) → after_read o bad f ≡ outcome_of next (exit_after_read o bad g)
read_by_exit next (Some ws) bad f g h = h ws
read_by_exit next None bad f g h = refl

write_by_exit : (next : Next) (o : Option Memories) (bad : FullOutcome) (f : Memories → FullOutcome) (g : Memories → Exit) → ((p : Memories) → f p ≡ outcome_of next (g p)) → after_write o bad f ≡ outcome_of next (exit_after_write o bad g)
write_by_exit next (Some p) bad f g h = h p
write_by_exit next None bad f g h = refl

step_by_exit : (next : Next) (s : Step) (f : Env → World → FullOutcome) (g : Env → World → Exit) (env : Env) (w : World) → ((env : Env) (w : World) → f env w ≡ outcome_of next (g env w)) → step_does s f env w ≡ outcome_of next (step_exit s g env w)
step_by_exit next (Lit x v) f g env w h = h _ w
step_by_exit next (Una x op y) f g env w h = h _ w
step_by_exit next (Bin x op y z) f g env w h = h _ w
step_by_exit next (Clone xs y) f g env w h = h _ w
step_by_exit next (Read m xs y) f g env w h =
    read_by_exit next (fetched m (env y) (length xs) w.packet) (over (outcome.Fault m (env y)) w) (λ ws. f (assigned_all env xs ws) w) (λ ws. g (assigned_all env xs ws) w) (λ ws. h (assigned_all env xs ws) w)
step_by_exit next (Write m y xs) f g env w h =
    write_by_exit next (stored m (env y) (map env xs) w.packet) (over (outcome.Fault m (env y)) w) (λ p. f env (wrote m (env y) (map env xs) p w)) (λ p. g env (wrote m (env y) (map env xs) p w)) (λ p. h env (wrote m (env y) (map env xs) p w))

last_by_exit : (next : Next) (l : Last) (env : Env) (w : World) → last_does next l env w ≡ outcome_of next (last_exit l env w)
last_by_exit next (Jump l xs) env w = refl
last_by_exit next (Halt e xs) env w = refl

fork_by_exit : (next : Next) (b : Bool) (f f' : FullOutcome) (o o' : Exit) → f ≡ outcome_of next o → f' ≡ outcome_of next o' → (if b then f else f') ≡ outcome_of next (if b then o else o')
fork_by_exit next true f f' o o' h h' = h
fork_by_exit next false f f' o o' h h' = h'

-- what a tree does is what comes of how a run leaves it
pub does_by_exit : (next : Next) (t : Tree) (env : Env) (w : World) → does next t env w ≡ outcome_of next (tree_exit t env w)
does_by_exit next (Do s t) env w = step_by_exit next s (does next t) (tree_exit t) env w (λ env w. does_by_exit next t env w)
does_by_exit next (If c x y t u) env w =
    fork_by_exit next (compares c (env x) (env y)) (does next t env w) (does next u env w) (tree_exit t env w) (tree_exit u env w) (does_by_exit next t env w) (does_by_exit next u env w)
does_by_exit next (End l) env w = last_by_exit next l env w

pub enter_by_exit : (next : Next) (o : Option Label) (ws : List ℕ) (w : World) → enter next o ws w ≡ outcome_of next (label_exit o ws w)
enter_by_exit next (Some l) ws w = does_by_exit next l.body (assigned_all blank l.params ws) w
enter_by_exit next None ws w = refl

pub meaning_by_exit : (labels : List Label) (args : List ℕ) (p : Memories) (n : ℕ) → ssu_meaning labels args p n ≡ outcome_of (run labels n) (label_exit (slice_get labels 0) args (begun p))
meaning_by_exit labels args p n = enter_by_exit (run labels n) (slice_get labels 0) args (begun p)

-- ---- entries

-- with more jumps a label is entered as often or more often
behind_more : (labels : List Label) (n : ℕ) (o : Exit) (k : ℕ) → entered_behind labels n o k ≤ entered_behind labels (suc n) o k
behind_more labels zero o k = omega arith
behind_more labels (suc n) (JumpsTo l ws w) k = let h = behind_more labels n (label_exit (slice_get labels l) ws w) k in omega (arith, h)
behind_more labels (suc n) (EndsWith f) k = omega arith

pub entered_more : (labels : List Label) (args : List ℕ) (p : Memories) (n k : ℕ) → entered labels args p n k ≤ entered labels args p (suc n) k
entered_more labels args p n k = let h = behind_more labels n (label_exit (slice_get labels 0) args (begun p)) k in omega (arith, h)

-- A form in single use writes no scratch word that is the compiler's: its addresses there are literals.
use Rattle.std.proofs.Common.{◌≡◌, ℕ, zero, suc, ◌+◌, ◌<◌, ◌≤◌, nat_eq, Bool, true, false, ◌&&◌, ◌||◌, List, [], ◌∷◌, ◌++◌, map, length, Option, Some, None, if◌then◌else◌, refl, sym, ap, ◌∙◌, arith, slice_get}
use Rattle.std.specs.List.{list_all}
use Rattle.std.proofs.lemmas.Bool.{and_parts, or_parts, false≢true, lt-ltb}
use Rattle.std.proofs.lemmas.List.Elements.{filter-append}
use Rattle.std.proofs.lemmas.Option.{none-some, same_Some}
use Rattle.nv_base.specs.declared.term.Mem.{Mem}
use Rattle.nv_base.specs.declared.term.Mem.TheVariants.{Sram, Sdram, Scratch}
use Rattle.nv_base.specs.declared.term.Atom.TheVariants.{Lit as Literal}
use Rattle.nv_base.specs.declared.outcome.Outcome.TheVariants as outcome
use Rattle.nv_base.specs.declared.outcome.Write.{Write as WriteEvent}
use Rattle.nv_base.specs.Access.{can_move}
use Rattle.nv_base.specs.Meanings.{FullOutcome, is_source_write, source_writes}
use Rattle.nv_base.specs.Memories.{Memories, fetched, stored}
use Rattle.nv_base.specs.Sets.{is_in}
use Rattle.nv_base.specs.Words.{Env, word, una_word, bin_word, compares, assigned, assigned_all}
use Rattle.nv_base.specs.World.{World, begun, over, wrote, after_read, after_write}
use Rattle.nv_base.proofs.Frames.{source-stretch}
use Rattle.ssu_ir.specs.Meaning.{Next, assigned_each, does, enter, run, ssu_meaning, blank}
use Rattle.ssu_ir.specs.Single.{Numbers, numbered, numbers_after, unknown, fits_scratch, is_address, are_addressed, is_step, are_nodes, uses_once, is_scoped, clones_early, results_used, is_entry, is_single, single, all_defined}
use Rattle.ssu_ir.specs.Tree.{Lit, Una, Bin, Clone, Read, Write, Jump, Halt, Tree, Do, If, End, Label}
use Rattle.nv_base.specs.Sets.{all_different}

-- ---- names that are copies of literals have their words

abbrev AreNumbered : Numbers → Env → Type 0
AreNumbered number env = (y n : ℕ) → number y ≡ Some n → env y ≡ word n

-- where these names have this number, and the others keep their words
renumbered : (number : Numbers) (env env' : Env) (xs : List ℕ) (o : Option ℕ) → AreNumbered number env → ((y n : ℕ) → is_in y xs ≡ true → o ≡ Some n → env' y ≡ word n) → ((y : ℕ) → is_in y xs ≡ false → env' y ≡ env y)
    → AreNumbered (numbered number xs o) env'
renumbered number env env' xs o h new old = λ y n. at y n (is_in y xs) refl
  where
    at : (y n : ℕ) (b : Bool) → is_in y xs ≡ b → (if b then o else number y) ≡ Some n → env' y ≡ word n
    at y n true e is = new y n e is
    at y n false e is = old y e ∙ h y n is

kept-at : (b : Bool) (w v : ℕ) → b ≡ false → (if b then w else v) ≡ v
kept-at b w v e = rw e refl

new-at : (b : Bool) (w v : ℕ) → b ≡ true → (if b then w else v) ≡ w
new-at b w v e = rw e refl

-- a name that isn't among those keeps its word
outside : (env : Env) (xs ws : List ℕ) (y : ℕ) → is_in y xs ≡ false → assigned_all env xs ws y ≡ env y
outside env [] ws y e = refl
outside env (x ∷ xs) [] y e = let p = or_parts (nat_eq y x) (is_in y xs) e in outside (assigned env x 0) xs [] y p.1 ∙ kept-at (nat_eq y x) 0 (env y) p.0
outside env (x ∷ xs) (w ∷ ws) y e = let p = or_parts (nat_eq y x) (is_in y xs) e in outside (assigned env x w) xs ws y p.1 ∙ kept-at (nat_eq y x) w (env y) p.0

none-numbered : (y n : ℕ) (A : Type 0) → None ≡ Some n → A
none-numbered y n A e = absurd (none-some n e)

numbered-values : (number : Numbers) (env : Env) (xs ws : List ℕ) → AreNumbered number env → AreNumbered (numbered number xs None) (assigned_all env xs ws)
numbered-values number env xs ws h = renumbered number env (assigned_all env xs ws) xs None h (λ y n e is. none-numbered y n (assigned_all env xs ws y ≡ word n) is) (outside env xs ws)

numbered-literal : (number : Numbers) (env : Env) (x v : ℕ) → AreNumbered number env → AreNumbered (numbered number (x ∷ []) (Some v)) (assigned env x (word v))
numbered-literal number env x v h =
    renumbered number env (assigned env x (word v)) (x ∷ []) (Some v) h
    (λ y n e is. own (nat_eq y x) y e ∙ ap word (same_Some v n is))
    (λ y e. kept-at (nat_eq y x) (word v) (env y) (or_parts (nat_eq y x) false e).0)
  where
    own : (b : Bool) (y : ℕ) → (b || false) ≡ true → (if b then word v else env y) ≡ word v
    own true y e = refl
    own false y e = absurd (false≢true e)

numbered-clones : (number : Numbers) (env : Env) (xs : List ℕ) (y : ℕ) → AreNumbered number env → AreNumbered (numbered number xs (number y)) (assigned_each env xs (env y))
numbered-clones number env xs y h =
    renumbered number env (assigned_each env xs (env y)) xs (number y) h
    (λ z n e is. new-at (is_in z xs) (env y) (env z) e ∙ h y n is)
    (λ z e. kept-at (is_in z xs) (env y) (env z) e)

-- ---- a write that is addressed so is a source's

some-word : (n : ℕ) → can_move Scratch n ≡ true → 1 ≤ n
some-word zero e = absurd (false≢true e)
some-word (suc n) e = omega arith

low : (at n : ℕ) → at + n ≤ 512 → 1 ≤ n → at < 512
low at n h k = omega (arith, h, k)

addressed-at : (o : Option ℕ) (number : Numbers) (env : Env) (y n : ℕ) → number y ≡ o → AreNumbered number env → fits_scratch n o ≡ true → 1 ≤ n → is_source_write Scratch (env y) ≡ true
addressed-at (Some v) number env y n is h fits some =
    ap (is_source_write Scratch) (h y v is) ∙ lt-ltb (word v) 512 (low (word v) n (source-stretch env Scratch (Literal v) n fits) some)
addressed-at None number env y n is h fits some = absurd (false≢true fits)

addressed : (number : Numbers) (env : Env) (m : Mem) (y n : ℕ) → AreNumbered number env → is_address m (number y) n ≡ true → can_move m n ≡ true → is_source_write m (env y) ≡ true
addressed number env Sram y n h e moves = refl
addressed number env Sdram y n h e moves = refl
addressed number env Scratch y n h e moves = addressed-at (number y) number env y n refl h e (some-word n moves)

-- ---- all writes so far are

abbrev AreSourceWrites : List WriteEvent → Type 0
AreSourceWrites ws = source_writes ws ≡ ws

one-write : (b : Bool) (w : WriteEvent) → b ≡ true → (if b then w ∷ [] else []) ≡ w ∷ []
one-write b w e = rw e refl

write-more : (m : Mem) (at : ℕ) (ws : List ℕ) (vs : List WriteEvent) → is_source_write m at ≡ true → AreSourceWrites vs → AreSourceWrites (vs ++ record { mem = m; at = at; words = ws } ∷ [])
write-more m at ws vs e h =
    let last : WriteEvent = record { mem = m; at = at; words = ws } in
    filter-append (λ w. is_source_write w.mem w.at) vs (last ∷ []) ∙ ap (λ l. l ++ source_writes (last ∷ [])) h ∙ ap (λ l. vs ++ l) (one-write (is_source_write m at) last e)

abbrev Keeps : Next → Type 0
Keeps next = (l : ℕ) (ws : List ℕ) (w : World) → AreSourceWrites w.writes → AreSourceWrites (next l ws w).writes

-- what is done after a read, and after a write
after-read : (o : Option (List ℕ)) (bad : FullOutcome) (go : List ℕ → FullOutcome) → AreSourceWrites bad.writes → ((ws : List ℕ) → AreSourceWrites (go ws).writes) → AreSourceWrites (after_read o bad go).writes
after-read (Some ws) bad go h k = k ws
after-read None bad go h k = h

after-write : (o : Option Memories) (bad : FullOutcome) (go : Memories → FullOutcome) → AreSourceWrites bad.writes → ((p : Memories) → AreSourceWrites (go p).writes) → AreSourceWrites (after_write o bad go).writes
after-write (Some p) bad go h k = k p
after-write None bad go h k = h

either-arm : (b : Bool) (f g : FullOutcome) → AreSourceWrites f.writes → AreSourceWrites g.writes → AreSourceWrites (if b then f else g).writes
either-arm true f g h k = h
either-arm false f g h k = k

tree-writes : (labels : List Label) (next : Next) (number : Numbers) (t : Tree) (env : Env) (w : World) → Keeps next → are_nodes labels t ≡ true → are_addressed number t ≡ true → AreNumbered number env → AreSourceWrites w.writes → AreSourceWrites (does next t env w).writes
tree-writes labels next number (Do (Lit x v) t) env w keeps nodes addresses h so =
    tree-writes labels next (numbers_after number (Lit x v)) t (assigned env x (word v)) w keeps (and_parts (is_step (Lit x v)) (are_nodes labels t) nodes).1 addresses (numbered-literal number env x v h) so
tree-writes labels next number (Do (Una x op y) t) env w keeps nodes addresses h so =
    tree-writes labels next (numbers_after number (Una x op y)) t (assigned env x (una_word op (env y))) w keeps (and_parts (is_step (Una x op y)) (are_nodes labels t) nodes).1 addresses (numbered-values number env (x ∷ []) (una_word op (env y) ∷ []) h) so
tree-writes labels next number (Do (Bin x op y z) t) env w keeps nodes addresses h so =
    tree-writes labels next (numbers_after number (Bin x op y z)) t (assigned env x (bin_word op (env y) (env z))) w keeps nodes addresses (numbered-values number env (x ∷ []) (bin_word op (env y) (env z) ∷ []) h) so
tree-writes labels next number (Do (Clone xs y) t) env w keeps nodes addresses h so =
    tree-writes labels next (numbers_after number (Clone xs y)) t (assigned_each env xs (env y)) w keeps nodes addresses (numbered-clones number env xs y h) so
tree-writes labels next number (Do (Read m xs y) t) env w keeps nodes addresses h so =
    let n = and_parts (can_move m (length xs)) (are_nodes labels t) nodes in
    let a = and_parts (is_address m (number y) (length xs)) (are_addressed (numbers_after number (Read m xs y)) t) addresses in
    after-read (fetched m (env y) (length xs) w.packet) (over (outcome.Fault m (env y)) w) (λ ws. does next t (assigned_all env xs ws) w) so
    (λ ws. tree-writes labels next (numbers_after number (Read m xs y)) t (assigned_all env xs ws) w keeps n.1 a.1 (numbered-values number env xs ws h) so)
tree-writes labels next number (Do (Write m y xs) t) env w keeps nodes addresses h so =
    let n = and_parts (can_move m (length xs)) (are_nodes labels t) nodes in
    let a = and_parts (is_address m (number y) (length xs)) (are_addressed number t) addresses in
    after-write (stored m (env y) (map env xs) w.packet) (over (outcome.Fault m (env y)) w) (λ p. does next t env (wrote m (env y) (map env xs) p w)) so
    (λ p. tree-writes labels next number t env (wrote m (env y) (map env xs) p w) keeps n.1 a.1 h (write-more m (env y) (map env xs) w.writes (addressed number env m y (length xs) h a.0 n.0) so))
tree-writes labels next number (If c x y t u) env w keeps nodes addresses h so =
    let n = and_parts (are_nodes labels t) (are_nodes labels u) nodes in
    let a = and_parts (are_addressed number t) (are_addressed number u) addresses in
    either-arm (compares c (env x) (env y)) (does next t env w) (does next u env w)
    (tree-writes labels next number t env w keeps n.0 a.0 h so) (tree-writes labels next number u env w keeps n.1 a.1 h so)
tree-writes labels next number (End (Jump l xs)) env w keeps nodes addresses h so = keeps l (map env xs) w so
tree-writes labels next number (End (Halt e xs)) env w keeps nodes addresses h so = so

-- ---- labels

label-single : (labels ls : List Label) (k : ℕ) (l : Label) → list_all (is_single labels) ls ≡ true → slice_get ls k ≡ Some l → is_single labels l ≡ true
label-single labels [] k l h e = absurd (none-some l e)
label-single labels (m ∷ ls) zero l h e = ap (is_single labels) (sym (same_Some m l e)) ∙ (and_parts (is_single labels m) (list_all (is_single labels) ls) h).0
label-single labels (m ∷ ls) (suc k) l h e = label-single labels ls k l (and_parts (is_single labels m) (list_all (is_single labels) ls) h).1 e

record IsAddressed (labels : List Label) (l : Label) : Type 0 where
  nodes : are_nodes labels l.body ≡ true
  addresses : are_addressed unknown l.body ≡ true

label-addressed : (labels : List Label) (l : Label) → is_single labels l ≡ true → IsAddressed labels l
label-addressed labels l h =
    let a = and_parts (are_nodes labels l.body) (uses_once l.body && (is_scoped l.params l.body && (clones_early l.params l.body && (results_used l.body && are_addressed unknown l.body)))) h in
    let b = and_parts (uses_once l.body) (is_scoped l.params l.body && (clones_early l.params l.body && (results_used l.body && are_addressed unknown l.body))) a.1 in
    let c = and_parts (is_scoped l.params l.body) (clones_early l.params l.body && (results_used l.body && are_addressed unknown l.body)) b.1 in
    let d = and_parts (clones_early l.params l.body) (results_used l.body && are_addressed unknown l.body) c.1 in
    record { nodes = a.0; addresses = (and_parts (results_used l.body) (are_addressed unknown l.body) d.1).1 }

all-single : (labels : List Label) → single labels ≡ true → list_all (is_single labels) labels ≡ true
all-single labels h =
    (and_parts (all_different (all_defined labels)) (list_all (is_single labels) labels) (and_parts (is_entry (slice_get labels 0)) (all_different (all_defined labels) && list_all (is_single labels) labels) h).1).1

label-writes : (labels : List Label) (next : Next) (o : Option Label) (k : ℕ) (ws : List ℕ) (w : World) → slice_get labels k ≡ o → single labels ≡ true → Keeps next → AreSourceWrites w.writes → AreSourceWrites (enter next o ws w).writes
label-writes labels next None k ws w e s keeps so = so
label-writes labels next (Some l) k ws w e s keeps so =
    let a = label-addressed labels l (label-single labels labels k l (all-single labels s) e) in
    tree-writes labels next unknown l.body (assigned_all blank l.params ws) w keeps a.nodes a.addresses (λ y n is. none-numbered y n (assigned_all blank l.params ws y ≡ word n) is) so

run-writes : (labels : List Label) (n : ℕ) → single labels ≡ true → Keeps (run labels n)
run-writes labels zero s = λ l ws w so. so
run-writes labels (suc n) s = λ l ws w so. label-writes labels (run labels n) (slice_get labels l) l ws w refl s (run-writes labels n s) so

-- all writes of a run are a source's
pub all-writes : (labels : List Label) (args : List ℕ) (p : Memories) (n : ℕ) → single labels ≡ true → source_writes (ssu_meaning labels args p n).writes ≡ (ssu_meaning labels args p n).writes
all-writes labels args p n s = label-writes labels (run labels n) (slice_get labels 0) 0 args (begun p) refl s (run-writes labels n s) refl

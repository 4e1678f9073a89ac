-- How runs leave trees: what a tree reads of an assignment, where its jumps go, and how often it writes.
use Rattle.std.proofs.Common.{◌≡◌, ℕ, zero, suc, ◌+◌, ◌<◌, ◌≤◌, ◌^◌, Bool, true, false, not, ◌&&◌, ◌||◌, nat_eq, nat_le, inl, inr, List, [], ◌∷◌, ◌++◌, map, length, Option, Some, None, All, refl, sym, ap, ◌∙◌, subst, ⊎_elim, if◌then◌else◌, arith}
use Rattle.std.proofs.lemmas.List.{length-map}
use Rattle.std.specs.Prelude.{slice_get}
use Rattle.std.specs.List.{list_all}
use Rattle.std.proofs.lemmas.Bool.{cases_eq, or_parts, and_parts, and_from, or_cases, or_left, or_right, not-true, not_from_false, false_from_ne_true, false≢true, eq-eqb}
use Rattle.std.proofs.lemmas.List.Elements.{All-nil, All-cons, All-head, All-tail}
use Rattle.nv_base.specs.declared.outcome.Outcome.TheVariants as outcome
use Rattle.nv_base.specs.declared.term.Cmp.{Cmp}
use Rattle.nv_base.specs.declared.term.Mem.{Mem}
use Rattle.nv_base.specs.Memories.{Memories, fetched, stored}
use Rattle.nv_base.specs.Meanings.{FullOutcome, IsOver}
use Rattle.nv_base.specs.Sets.{is_in, all_different, Within, AgreeOn}
use Rattle.nv_base.specs.Words.{Env, word, una_word, bin_word, compares, assigned, assigned_all}
use Rattle.nv_base.specs.World.{World, over, ended, wrote}
use Rattle.nv_base.proofs.Sets.{in-append, same-number, within-left, within-right, within-both, agree-within, agree-all, different-below, different-length, different-all}
use Rattle.ssu_ir.specs.Tree.{Step, Lit, Una, Bin, Clone, Read, Write, Jump, Halt, Tree, Do, If, End, Label, step_values, step_clones}
use Rattle.ssu_ir.specs.Meaning.{assigned_each}
use Rattle.ssu_ir.specs.Single.{step_names, names, all_known, is_scoped, are_new, are_nodes, takes_as_many}
use Rattle.ssu_ir.specs.Entered.{Exit, JumpsTo, EndsWith, exit_after_read, exit_after_write, step_exit, tree_exit}
use Rattle.ssu_ir.specs.inner.Running.{step_stored_at}
use Rattle.ssu_ir.proofs.Lists.{in-itself}

-- ---- a tree reads what is known alone

within-nil : (c : List ℕ) → Within [] c
within-nil c = λ x e. absurd (false≢true e)

-- after these variables, in another order
moved : (known xs : List ℕ) → Within (known ++ (xs ++ [])) (xs ++ known)
moved known xs = within-both known (xs ++ []) (xs ++ known) (within-right xs known) (within-both xs [] (xs ++ known) (within-left xs known) (within-nil (xs ++ known)))

agree-successors-all : (known xs ws : List ℕ) (env env' : Env) → AgreeOn known env env' → AgreeOn (known ++ (xs ++ [])) (assigned_all env xs ws) (assigned_all env' xs ws)
agree-successors-all known xs ws env env' a = agree-within (known ++ (xs ++ [])) (xs ++ known) (assigned_all env xs ws) (assigned_all env' xs ws) (moved known xs) (agree-all xs ws known env env' a)

each-at : (b k : Bool) (w u v : ℕ) → (k ≡ true → u ≡ v) → (k || b) ≡ true → (if b then w else u) ≡ (if b then w else v)
each-at true k w u v h e = refl
each-at false true w u v h e = h refl
each-at false false w u v h e = absurd (false≢true e)

agree-successors-each : (known xs : List ℕ) (w : ℕ) (env env' : Env) → AgreeOn known env env' → AgreeOn (known ++ xs) (assigned_each env xs w) (assigned_each env' xs w)
agree-successors-each known xs w env env' a = λ y e. each-at (is_in y xs) (is_in y known) w (env y) (env' y) (a y) (sym (in-append y known xs) ∙ e)

known-at : (known : List ℕ) (x : ℕ) (xs : List ℕ) → all_known known (x ∷ xs) ≡ true → is_in x known ≡ true
known-at known x xs h = (and_parts (is_in x known) (all_known known xs) h).0

known-rest : (known : List ℕ) (x : ℕ) (xs : List ℕ) → all_known known (x ∷ xs) ≡ true → all_known known xs ≡ true
known-rest known x xs h = (and_parts (is_in x known) (all_known known xs) h).1

same-words : (known xs : List ℕ) (env env' : Env) → AgreeOn known env env' → all_known known xs ≡ true → map env xs ≡ map env' xs
same-words known [] env env' a h = refl
same-words known (x ∷ xs) env env' a h =
    ap (λ w. w ∷ map env xs) (a x (known-at known x xs h)) ∙ ap (λ ws. env' x ∷ ws) (same-words known xs env env' a (known-rest known x xs h))

read-alike : (o : Option (List ℕ)) (bad : FullOutcome) (f g : List ℕ → Exit) → ((ws : List ℕ) → f ws ≡ g ws) → exit_after_read o bad f ≡ exit_after_read o bad g
read-alike (Some ws) bad f g h = h ws
read-alike None bad f g h = refl

write-alike : (o : Option Memories) (bad : FullOutcome) (f g : Memories → Exit) → ((p : Memories) → f p ≡ g p) → exit_after_write o bad f ≡ exit_after_write o bad g
write-alike (Some p) bad f g h = h p
write-alike None bad f g h = refl

step-scoped : (known : List ℕ) (s : Step) (go : Env → World → Exit) (env env' : Env) (w : World) → all_known known (step_names s) ≡ true → AgreeOn known env env'
    → ((e e' : Env) (v : World) → AgreeOn (known ++ (step_values s ++ step_clones s)) e e' → go e v ≡ go e' v) → step_exit s go env w ≡ step_exit s go env' w
step-scoped known (Lit x v) go env env' w h a next = next (assigned env x (word v)) (assigned env' x (word v)) w (agree-successors-all known (x ∷ []) (word v ∷ []) env env' a)
step-scoped known (Una x op y) go env env' w h a next =
    ap (λ v. go (assigned env x (una_word op v)) w) (a y (known-at known y [] h))
    ∙ next (assigned env x (una_word op (env' y))) (assigned env' x (una_word op (env' y))) w (agree-successors-all known (x ∷ []) (una_word op (env' y) ∷ []) env env' a)
step-scoped known (Bin x op y z) go env env' w h a next =
    ap (λ v. go (assigned env x (bin_word op v (env z))) w) (a y (known-at known y (z ∷ []) h))
    ∙ ap (λ v. go (assigned env x (bin_word op (env' y) v)) w) (a z (known-at known z [] (known-rest known y (z ∷ []) h)))
    ∙ next (assigned env x (bin_word op (env' y) (env' z))) (assigned env' x (bin_word op (env' y) (env' z))) w (agree-successors-all known (x ∷ []) (bin_word op (env' y) (env' z) ∷ []) env env' a)
step-scoped known (Clone xs y) go env env' w h a next =
    ap (λ v. go (assigned_each env xs v) w) (a y (known-at known y [] h)) ∙ next (assigned_each env xs (env' y)) (assigned_each env' xs (env' y)) w (agree-successors-each known xs (env' y) env env' a)
step-scoped known (Read m xs y) go env env' w h a next =
    ap (λ v. exit_after_read (fetched m v (length xs) w.packet) (over (outcome.Fault m v) w) (λ ws. go (assigned_all env xs ws) w)) (a y (known-at known y [] h))
    ∙ read-alike (fetched m (env' y) (length xs) w.packet) (over (outcome.Fault m (env' y)) w) (λ ws. go (assigned_all env xs ws) w) (λ ws. go (assigned_all env' xs ws) w)
    (λ ws. next (assigned_all env xs ws) (assigned_all env' xs ws) w (agree-successors-all known xs ws env env' a))
step-scoped known (Write m y xs) go env env' w h a next =
    ap (λ v. exit_after_write (stored m v (map env xs) w.packet) (over (outcome.Fault m v) w) (λ p. go env (wrote m v (map env xs) p w))) (a y (known-at known y xs h))
    ∙ ap (λ vs. exit_after_write (stored m (env' y) vs w.packet) (over (outcome.Fault m (env' y)) w) (λ p. go env (wrote m (env' y) vs p w))) (same-words known xs env env' a (known-rest known y xs h))
    ∙ write-alike (stored m (env' y) (map env' xs) w.packet) (over (outcome.Fault m (env' y)) w) (λ p. go env (wrote m (env' y) (map env' xs) p w)) (λ p. go env' (wrote m (env' y) (map env' xs) p w))
    (λ p. next env env' (wrote m (env' y) (map env' xs) p w) (agree-within (known ++ []) known env env' (within-both known [] known (λ x e. e) (within-nil known)) a))

fork-alike : (b : Bool) (e f e' f' : Exit) → e ≡ e' → f ≡ f' → (if b then e else f) ≡ (if b then e' else f')
fork-alike true e f e' f' h k = h
fork-alike false e f e' f' h k = k

-- assignments that agree on what is known leave it alike
pub scoped-exit : (known : List ℕ) (t : Tree) → is_scoped known t ≡ true → (env env' : Env) (w : World) → AgreeOn known env env' → tree_exit t env w ≡ tree_exit t env' w
scoped-exit known (Do s t) h env env' w a =
    let p = and_parts (all_known known (step_names s)) (is_scoped (known ++ (step_values s ++ step_clones s)) t) h in
    step-scoped known s (tree_exit t) env env' w p.0 a (λ e e' v b. scoped-exit (known ++ (step_values s ++ step_clones s)) t p.1 e e' v b)
scoped-exit known (If c x y t u) h env env' w a =
    let p = and_parts (all_known known (x ∷ y ∷ [])) (is_scoped known t && is_scoped known u) h in
    let q = and_parts (is_scoped known t) (is_scoped known u) p.1 in
    ap (λ v. if compares c v (env y) then tree_exit t env w else tree_exit u env w) (a x (known-at known x (y ∷ []) p.0))
    ∙ ap (λ v. if compares c (env' x) v then tree_exit t env w else tree_exit u env w) (a y (known-at known y [] (known-rest known x (y ∷ []) p.0)))
    ∙ fork-alike (compares c (env' x) (env' y)) (tree_exit t env w) (tree_exit u env w) (tree_exit t env' w) (tree_exit u env' w) (scoped-exit known t q.0 env env' w a) (scoped-exit known u q.1 env env' w a)
scoped-exit known (End (Jump l xs)) h env env' w a = ap (λ ws. JumpsTo l ws w) (same-words known xs env env' a h)
scoped-exit known (End (Halt e xs)) h env env' w a = ap (λ ws. EndsWith (over (ended e ws) w)) (same-words known xs env env' a h)

-- ---- a jump goes to a label that takes its words

abbrev Goes : List Label → Exit → Type 0
Goes labels (JumpsTo l ws w) = takes_as_many (length ws) (slice_get labels l) ≡ true
Goes labels (EndsWith f) = IsOver f.outcome

goes-read : (labels : List Label) (o : Option (List ℕ)) (bad : FullOutcome) (go : List ℕ → Exit) → IsOver bad.outcome → ((ws : List ℕ) → Goes labels (go ws)) → Goes labels (exit_after_read o bad go)
goes-read labels (Some ws) bad go b h = h ws
goes-read labels None bad go b h = b

goes-write : (labels : List Label) (o : Option Memories) (bad : FullOutcome) (go : Memories → Exit) → IsOver bad.outcome → ((p : Memories) → Goes labels (go p)) → Goes labels (exit_after_write o bad go)
goes-write labels (Some p) bad go b h = h p
goes-write labels None bad go b h = b

goes-step : (labels : List Label) (s : Step) (go : Env → World → Exit) (env : Env) (w : World) → ((e : Env) (v : World) → Goes labels (go e v)) → Goes labels (step_exit s go env w)
goes-step labels (Lit x v) go env w h = h (assigned env x (word v)) w
goes-step labels (Una x op y) go env w h = h (assigned env x (una_word op (env y))) w
goes-step labels (Bin x op y z) go env w h = h (assigned env x (bin_word op (env y) (env z))) w
goes-step labels (Clone xs y) go env w h = h (assigned_each env xs (env y)) w
goes-step labels (Read m xs y) go env w h = goes-read labels (fetched m (env y) (length xs) w.packet) (over (outcome.Fault m (env y)) w) (λ ws. go (assigned_all env xs ws) w) tt (λ ws. h (assigned_all env xs ws) w)
goes-step labels (Write m y xs) go env w h =
    goes-write labels (stored m (env y) (map env xs) w.packet) (over (outcome.Fault m (env y)) w) (λ p. go env (wrote m (env y) (map env xs) p w)) tt (λ p. h env (wrote m (env y) (map env xs) p w))

goes-fork : (labels : List Label) (b : Bool) (e f : Exit) → Goes labels e → Goes labels f → Goes labels (if b then e else f)
goes-fork labels true e f h k = h
goes-fork labels false e f h k = k

ended-over : (e : ℕ) (ws : List ℕ) → IsOver (ended e ws)
ended-over zero ws = tt
ended-over (suc e) ws = tt

goes-tree : (labels : List Label) (t : Tree) (env : Env) (w : World) → are_nodes labels t ≡ true → Goes labels (tree_exit t env w)
goes-tree labels (Do s t) env w h = goes-step labels s (tree_exit t) env w (λ e v. goes-tree labels t e v (and_parts _ (are_nodes labels t) h).1)
goes-tree labels (If c x y t u) env w h =
    let p = and_parts (are_nodes labels t) (are_nodes labels u) h in
    goes-fork labels (compares c (env x) (env y)) (tree_exit t env w) (tree_exit u env w) (goes-tree labels t env w p.0) (goes-tree labels u env w p.1)
goes-tree labels (End (Jump l xs)) env w h = ap (λ n. takes_as_many n (slice_get labels l)) (length-map xs env) ∙ (and_parts (nat_le 1 l) (takes_as_many (length xs) (slice_get labels l)) h).1
goes-tree labels (End (Halt e xs)) env w h = ended-over e (map env xs)

pub jump-fits : (labels : List Label) (t : Tree) (env : Env) (w v : World) (l : ℕ) (ws : List ℕ) → are_nodes labels t ≡ true → tree_exit t env w ≡ JumpsTo l ws v → takes_as_many (length ws) (slice_get labels l) ≡ true
jump-fits labels t env w v l ws h e = let P : Exit → Type 0 = Goes labels in subst P e (goes-tree labels t env w h)

pub end-over : (labels : List Label) (t : Tree) (env : Env) (w : World) (f : FullOutcome) → are_nodes labels t ≡ true → tree_exit t env w ≡ EndsWith f → IsOver f.outcome
end-over labels t env w f h e = let P : Exit → Type 0 = Goes labels in subst P e (goes-tree labels t env w h)

-- ---- how often a label writes

abbrev below : ℕ → List ℕ
below zero = []
below (suc n) = n ∷ below n

length-below : (n : ℕ) → length (below n) ≡ n
length-below zero = refl
length-below (suc n) = ap (λ k. suc k) (length-below n)

in-below : (n x : ℕ) → x < n → is_in x (below n) ≡ true
in-below zero x l = absurd (omega arith)
in-below (suc n) x l = elim (cases_eq x n) [
  | inl e ↦ or_left (nat_eq x n) (is_in x (below n)) (eq-eqb x n e)
  | inr d ↦ or_right (nat_eq x n) (is_in x (below n)) (in-below n x (omega (arith, d)))
]

within-below : (n : ℕ) (xs : List ℕ) → All (λ x. x < n) xs → Within xs (below n)
within-below n [] h = λ x e. absurd (false≢true e)
within-below n (y ∷ ys) h =
    λ x e.
    ⊎_elim
    (λ (a : nat_eq x y ≡ true). subst (λ z. is_in z (below n) ≡ true) (sym (same-number x y a)) (in-below n y (All-head (λ x. x < n) y ys h)))
    (λ (a : is_in x ys ≡ true). within-below n ys (All-tail (λ x. x < n) y ys h) x a)
    (or_cases (nat_eq x y) (is_in x ys) e)

-- as many different numbers as there are
pub few-different : (n : ℕ) (xs : List ℕ) → all_different xs ≡ true → All (λ x. x < n) xs → length xs ≤ n
few-different n xs d h =
    let a = different-below xs (below n) (within-below n xs h) in
    omega (arith, a, different-all xs d, different-length (below n), length-below n)

-- the writes before a tree, each by an address of its own
pub record Made (t : Tree) (start now : ℕ) : Type 0 where
  pub addresses : List ℕ
  pub different : all_different addresses ≡ true
  pub words : All (λ x. x < 2 ^ 32) addresses
  pub apart : (x : ℕ) → is_in x addresses ≡ true → is_in x (names t) ≡ false
  pub counted : now ≤ start + length addresses

pub made-none : (t : Tree) (start : ℕ) → Made t start start
made-none t start = record { addresses = []; different = refl; words = All-nil (λ x. x < 2 ^ 32); apart = λ x e. absurd (false≢true e); counted = omega arith }

pub made-few : (t : Tree) (start now : ℕ) → Made t start now → now ≤ start + 2 ^ 32
made-few t start now m = let f = few-different (2 ^ 32) m.addresses m.different m.words in omega (arith, f, m.counted)

absent-successors : (x : ℕ) (a b : List ℕ) → is_in x (a ++ b) ≡ false → is_in x b ≡ false
absent-successors x a b e = (or_parts (is_in x a) (is_in x b) (sym (in-append x a b) ∙ e)).1

absent-before : (x : ℕ) (a b : List ℕ) → is_in x (a ++ b) ≡ false → is_in x a ≡ false
absent-before x a b e = (or_parts (is_in x a) (is_in x b) (sym (in-append x a b) ∙ e)).0

made-same : (s : Step) (t : Tree) (start now now' : ℕ) → Made (Do s t) start now → now' ≤ now → Made t start now'
made-same s t start now now' m l = record {
  addresses = m.addresses;
  different = m.different;
  words = m.words;
  apart = λ x e. absent-successors x (step_names s) (names t) (m.apart x e);
  counted = omega (arith, m.counted);
}

write-apart : (y x : ℕ) (xs : List ℕ) (m : Mem) (t : Tree) (start now : ℕ) → are_new (y ∷ xs) (names t) ≡ true → (h : Made (Do (Write m y xs) t) start now) → is_in x (y ∷ h.addresses) ≡ true → is_in x (names t) ≡ false
write-apart y x xs m t start now n h e =
    ⊎_elim
    (λ (a : nat_eq x y ≡ true).
    let p = and_parts (all_different (y ∷ xs)) (list_all (λ z. not (is_in z (names t))) (y ∷ xs)) n in
    let q = and_parts (not (is_in y (names t))) (list_all (λ z. not (is_in z (names t))) xs) p.1 in
    subst (λ z. is_in z (names t) ≡ false) (sym (same-number x y a)) (not-true (is_in y (names t)) q.0))
    (λ (a : is_in x h.addresses ≡ true). absent-successors x (y ∷ xs) (names t) (h.apart x a))
    (or_cases (nat_eq x y) (is_in x h.addresses) e)

-- after a step, with one write more where it writes
pub made-do : (s : Step) (t : Tree) (start now now' : ℕ) → Made (Do s t) start now → are_new (step_names s) (names t) ≡ true → now' ≤ now + length (step_stored_at s) → All (λ y. y < 2 ^ 32) (step_stored_at s) → Made t start now'
made-do (Lit x v) t start now now' m n l w = made-same (Lit x v) t start now now' m (omega arith)
made-do (Una x op y) t start now now' m n l w = made-same (Una x op y) t start now now' m (omega arith)
made-do (Bin x op y z) t start now now' m n l w = made-same (Bin x op y z) t start now now' m (omega arith)
made-do (Clone xs y) t start now now' m n l w = made-same (Clone xs y) t start now now' m (omega arith)
made-do (Read k xs y) t start now now' m n l w = made-same (Read k xs y) t start now now' m (omega arith)
made-do (Write k y xs) t start now now' m n l w =
    let absent : is_in y m.addresses ≡ false =
    false_from_ne_true (is_in y m.addresses) (λ e. false≢true (sym (absent-before y (y ∷ xs) (names t) (m.apart y e)) ∙ in-itself y xs)) in
    record {
      addresses = y ∷ m.addresses;
      different = and_from (not (is_in y m.addresses)) (all_different m.addresses) (not_from_false (is_in y m.addresses) absent) m.different;
      words = All-cons (λ x. x < 2 ^ 32) y m.addresses (All-head (λ x. x < 2 ^ 32) y [] w) m.words;
      apart = λ x e. write-apart y x xs k t start now n m e;
      counted = let h : length (y ∷ []) ≡ 1 = refl in omega (arith, m.counted, l);
    }

-- before either arm
pub made-first : (c : Cmp) (x y : ℕ) (t u : Tree) (start now now' : ℕ) → Made (If c x y t u) start now → now' ≤ now → Made t start now'
made-first c x y t u start now now' m l = record {
  addresses = m.addresses;
  different = m.different;
  words = m.words;
  apart = λ z e. absent-before z (names t) (names u) (absent-successors z (x ∷ y ∷ []) (names t ++ names u) (m.apart z e));
  counted = omega (arith, m.counted);
}

pub made-second : (c : Cmp) (x y : ℕ) (t u : Tree) (start now now' : ℕ) → Made (If c x y t u) start now → now' ≤ now → Made u start now'
made-second c x y t u start now now' m l = record {
  addresses = m.addresses;
  different = m.different;
  words = m.words;
  apart = λ z e. absent-successors z (names t) (names u) (absent-successors z (x ∷ y ∷ []) (names t ++ names u) (m.apart z e));
  counted = omega (arith, m.counted);
}

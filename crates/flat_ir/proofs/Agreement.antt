-- Assignments that agree on some variables, and what follows equal results.
use Rattle.std.proofs.Common.{◌≡◌, ℕ, ◌==◌, Bool, true, false, List, [], ◌∷◌, ◌++◌, refl, ap, ◌∙◌, if◌then◌else◌, Option, Some, None}
use Rattle.nv_base.specs.declared.term.Mem.{Mem}
use Rattle.nv_base.specs.declared.term.Cmp.{Cmp}
use Rattle.nv_base.specs.Memories.{Memories, fetched, stored}
use Rattle.nv_base.specs.Words.{compares}
use Rattle.nv_base.specs.Running.{Running}
use Rattle.flat_ir.specs.Running.{Result, Gives, Raises, Halts, and_then, handled, fetch, after_fetch, store, after_store}

-- ---- what follows is the same

pub then-same : (q r : Result) (next next' : List ℕ → Running → Result) → q ≡ r → ((ws : List ℕ) (last : Running) → next ws last ≡ next' ws last) → and_then q next ≡ and_then r next'
then-same q r next next' e h = at q ∙ ap (λ x. and_then x next') e
  where
    at : (q : Result) → and_then q next ≡ and_then q next'
    at (Gives ws last) = h ws last
    at (Raises k ws last) = refl
    at (Halts how last) = refl

pub if-same : (b : Bool) (q q' r r' : Result) → q ≡ r → q' ≡ r' → (if b then q else q') ≡ (if b then r else r')
if-same true q q' r r' g h = g
if-same false q q' r r' g h = h

pub handled-same : (k : ℕ) (next next' : List ℕ → Running → Result) (q r : Result) → q ≡ r → ((ws : List ℕ) (last : Running) → next ws last ≡ next' ws last) → handled k next q ≡ handled k next' r
handled-same k next next' q r e h = at q ∙ ap (handled k next') e
  where
    at : (q : Result) → handled k next q ≡ handled k next' q
    at (Gives ws last) = refl
    at (Raises j ws last) = if-same (j == k) (next ws last) (Raises j ws last) (next' ws last) (Raises j ws last) (h ws last) refl
    at (Halts how last) = refl

pub fetch-same : (m : Mem) (n at at' : ℕ) (now : Running) (next next' : List ℕ → Result) → at ≡ at' → ((ws : List ℕ) → next ws ≡ next' ws) → fetch m n at now next ≡ fetch m n at' now next'
fetch-same m n at at' now next next' e h = after (fetched m at n now.packet) ∙ ap (λ x. fetch m n x now next') e
  where
    after : (found : Option (List ℕ)) → after_fetch m at found now next ≡ after_fetch m at found now next'
    after (Some ws) = h ws
    after None = refl

pub store-same : (m : Mem) (at at' : ℕ) (ws ws' : List ℕ) (now : Running) (next next' : Running → Result) → at ≡ at' → ws ≡ ws' → ((last : Running) → next last ≡ next' last) → store m at ws now next ≡ store m at' ws' now next'
store-same m at at' ws ws' now next next' e f h = after (stored m at ws now.packet) ∙ ap (λ x. store m x ws now next') e ∙ ap (λ x. store m at' x now next') f
  where
    after : (found : Option Memories) → after_store m at ws found now next ≡ after_store m at ws found now next'
    after (Some p) = h (record { calls = now.calls; packet = p; writes = now.writes ++ record { mem = m; at = at; words = ws } ∷ [] })
    after None = refl

pub compared : (c : Cmp) (x x' y y' : ℕ) (q q' r r' : Result) → x ≡ x' → y ≡ y' → q ≡ r → q' ≡ r' → (if compares c x y then q else q') ≡ (if compares c x' y' then r else r')
compared c x x' y y' q q' r r' d e g h = if-same (compares c x y) q q' r r' g h ∙ ap (λ z. if compares c z y then r else r') d ∙ ap (λ z. if compares c x' z then r else r') e

-- What holds after accesses and calls of a run, whatever a language comes to: each lemma takes the case that the run goes on and the case that it stops.
use Rattle.std.proofs.Common.{◌≡◌, ℕ, zero, suc, List, [], ◌∷◌, ◌++◌, refl, sym, ap, ◌∙◌, Option, Some, None}
use Rattle.std.specs.Prelude.{unwrap_or}
use Rattle.nv_base.specs.declared.term.Mem.{Mem}
use Rattle.nv_base.specs.declared.outcome.Outcome.{Outcome}
use Rattle.nv_base.specs.declared.outcome.Outcome.TheVariants.{Fault, Going}
use Rattle.nv_base.specs.declared.outcome.Write.{Write}
use Rattle.nv_base.specs.Memories.{Memories, fetched, stored}
use Rattle.nv_base.specs.Meanings.{applied, left_by}
use Rattle.nv_base.specs.Running.{Running, after_fetch, fetch, after_store, store, taken}
use Rattle.nv_base.proofs.MemoryLemmas.{left-last}

-- a run after a store
abbrev pub with_store : Mem → ℕ → List ℕ → Memories → Running → Running
with_store m at ws p now = record { calls = now.calls; packet = p; writes = now.writes ++ record { mem = m; at = at; words = ws } ∷ [] }

-- a run after a call was taken
abbrev pub with_calls : ℕ → Running → Running
with_calls left now = record { calls = left; packet = now.packet; writes = now.writes }

after-fetch-by : {A : Type 0} (P : A → Type 0) (stop : Outcome → Running → A) (m : Mem) (at : ℕ) (found : Option (List ℕ)) (now : Running) (next : List ℕ → A) → P (stop (Fault m at) now)
    → ((ws : List ℕ) → found ≡ Some ws → P (next ws)) → P (after_fetch stop m at found now next)
after-fetch-by P stop m at (Some ws) now next s h = h ws refl
after-fetch-by P stop m at None now next s h = s

pub fetch-by : {A : Type 0} (P : A → Type 0) (stop : Outcome → Running → A) (m : Mem) (n at : ℕ) (now : Running) (next : List ℕ → A) → P (stop (Fault m at) now)
    → ((ws : List ℕ) → fetched m at n now.packet ≡ Some ws → P (next ws)) → P (fetch stop m n at now next)
fetch-by P stop m n at now next s h = after-fetch-by P stop m at (fetched m at n now.packet) now next s h

after-store-by : {A : Type 0} (P : A → Type 0) (stop : Outcome → Running → A) (m : Mem) (at : ℕ) (ws : List ℕ) (found : Option Memories) (now : Running) (next : Running → A) → P (stop (Fault m at) now)
    → ((p : Memories) → found ≡ Some p → P (next (with_store m at ws p now))) → P (after_store stop m at ws found now next)
after-store-by P stop m at ws (Some p) now next s h = h p refl
after-store-by P stop m at ws None now next s h = s

pub store-by : {A : Type 0} (P : A → Type 0) (stop : Outcome → Running → A) (m : Mem) (at : ℕ) (ws : List ℕ) (now : Running) (next : Running → A) → P (stop (Fault m at) now)
    → ((p : Memories) → stored m at ws now.packet ≡ Some p → P (next (with_store m at ws p now))) → P (store stop m at ws now next)
store-by P stop m at ws now next s h = after-store-by P stop m at ws (stored m at ws now.packet) now next s h

pub taken-by : {A : Type 0} (P : A → Type 0) (stop : Outcome → Running → A) (calls : ℕ) (now : Running) (next : Running → A) → P (stop Going now)
    → ((left : ℕ) → calls ≡ suc left → P (next (with_calls left now))) → P (taken stop calls now next)
taken-by P stop zero now next s h = s
taken-by P stop (suc left) now next s h = h left refl

-- ---- the same accesses with the same that follows

pub fetch-alike : {A : Type 0} (stop : Outcome → Running → A) (m : Mem) (n at : ℕ) (now : Running) (next next' : List ℕ → A) → ((ws : List ℕ) → fetched m at n now.packet ≡ Some ws → next ws ≡ next' ws)
    → fetch stop m n at now next ≡ fetch stop m n at now next'
fetch-alike stop m n at now next next' h = after (fetched m at n now.packet) refl
  where
    after : (found : Option (List ℕ)) → fetched m at n now.packet ≡ found → after_fetch stop m at found now next ≡ after_fetch stop m at found now next'
    after (Some ws) e = h ws e
    after None e = refl

pub store-alike : {A : Type 0} (stop : Outcome → Running → A) (m : Mem) (at : ℕ) (ws : List ℕ) (now : Running) (next next' : Running → A)
    → ((p : Memories) → stored m at ws now.packet ≡ Some p → next (with_store m at ws p now) ≡ next' (with_store m at ws p now)) → store stop m at ws now next ≡ store stop m at ws now next'
store-alike stop m at ws now next next' h = after (stored m at ws now.packet) refl
  where
    after : (found : Option Memories) → stored m at ws now.packet ≡ found → after_store stop m at ws found now next ≡ after_store stop m at ws found now next'
    after (Some p) e = h p e
    after None e = refl

-- ---- memories follow writes

pub store-follows : (m : Mem) (at : ℕ) (ws : List ℕ) (q : Memories) (now : Running) (p : Memories) → stored m at ws now.packet ≡ Some q → now.packet ≡ left_by now.writes p → q ≡ left_by (with_store m at ws q now).writes p
store-follows m at ws q now p e g =
    let w : Write = record { mem = m; at = at; words = ws } in
    sym (ap (λ o. unwrap_or o now.packet) e) ∙ ap (applied w) g ∙ sym (left-last now.writes w p)

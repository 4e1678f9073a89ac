-- The writes of many runs: what one reads the others leave, and their order doesn't matter.
use Rattle.std.proofs.Common.{◌≡◌, ℕ, zero, suc, List, [], ◌∷◌, ◌++◌, Some, refl, ap, sym, ◌∙◌, arith}
use Rattle.std.specs.Prelude.{slice_get, slice_set}
use Rattle.nv_base.specs.declared.term.Mem.{Mem}
use Rattle.nv_base.specs.declared.outcome.Write.{Write as WriteEvent}
use Rattle.nv_base.specs.Memories.{Memories, fetched}
use Rattle.nv_base.specs.Meanings.{left_by}
use Rattle.nv_base.proofs.MemoryLemmas.{left-append}
use Rattle.uc_isa.specs.Code.{CodeView}
use Rattle.uc_contexts.specs.Footprints.{Isolated, lone_outcome}
use Rattle.uc_contexts.specs.Alone.{all_writes}
use Rattle.uc_contexts.proofs.Apart.{ApartFrom, ListsApart, left-elsewhere, left-behind}

-- the writes of one run
abbrev pub lone_writes : CodeView → Memories → Isolated → List WriteEvent
lone_writes c p run = (lone_outcome c p run).writes

not-zero : (i : ℕ) → suc i ≡ 0 → ⊥
not-zero i e = omega arith

zero-not : (i : ℕ) → 0 ≡ suc i → ⊥
zero-not i e = omega arith

not-suc : (i j : ℕ) → ¬ (i ≡ j) → suc i ≡ suc j → ⊥
not-suc i j h e = h (omega arith)

-- an access from which the writes of all runs are apart
others-leave : (c : CodeView) (p : Memories) (runs : List Isolated) (q : Memories) (m : Mem) (at n : ℕ) → ((j : ℕ) (y : Isolated) → slice_get runs j ≡ Some y → ApartFrom m at n (lone_writes c p y))
    → fetched m at n (left_by (all_writes c p runs) q) ≡ fetched m at n q
others-leave c p [] q m at n h = refl
others-leave c p (x ∷ runs) q m at n h =
    ap (fetched m at n) (left-append (lone_writes c p x) (all_writes c p runs) q)
    ∙ others-leave c p runs (left_by (lone_writes c p x) q) m at n (λ j y g. h (suc j) y g)
    ∙ left-elsewhere m at n (lone_writes c p x) q (h 0 x refl)

-- where the other runs' writes are apart from an access, and from the writes of this run, it finds what it finds after this run alone
pub own-found : (c : CodeView) (p : Memories) (runs : List Isolated) (i : ℕ) (x : Isolated) (q : Memories) (m : Mem) (at n : ℕ) → slice_get runs i ≡ Some x
    → ((j : ℕ) (y : Isolated) → ¬ (i ≡ j) → slice_get runs j ≡ Some y → ApartFrom m at n (lone_writes c p y))
    → ((j : ℕ) (y : Isolated) → ¬ (i ≡ j) → slice_get runs j ≡ Some y → ListsApart (lone_writes c p y) (lone_writes c p x))
    → fetched m at n (left_by (all_writes c p runs) q) ≡ fetched m at n (left_by (lone_writes c p x) q)
own-found c p [] i x q m at n is h k = cc
own-found c p (y ∷ runs) zero x q m at n is h k =
    let same : y ≡ x = cc in
    ap (fetched m at n) (left-append (lone_writes c p y) (all_writes c p runs) q)
    ∙ others-leave c p runs (left_by (lone_writes c p y) q) m at n (λ j z g. h (suc j) z (zero-not j) g)
    ∙ ap (λ r. fetched m at n (left_by (lone_writes c p r) q)) same
own-found c p (y ∷ runs) (suc i) x q m at n is h k =
    ap (fetched m at n) (left-append (lone_writes c p y) (all_writes c p runs) q)
    ∙ own-found c p runs i x (left_by (lone_writes c p y) q) m at n is (λ j z ne g. h (suc j) z (not-suc i j ne) g) (λ j z ne g. k (suc j) z (not-suc i j ne) g)
    ∙ ap (fetched m at n) (left-behind (lone_writes c p y) (lone_writes c p x) q (k 0 y (not-zero i) refl))
    ∙ left-elsewhere m at n (lone_writes c p y) (left_by (lone_writes c p x) q) (h 0 y (not-zero i) refl)

-- writes that are apart from those of all runs may come after them
others-behind : (c : CodeView) (p : Memories) (runs : List Isolated) (ws : List WriteEvent) (q : Memories) → ((j : ℕ) (y : Isolated) → slice_get runs j ≡ Some y → ListsApart ws (lone_writes c p y))
    → left_by (all_writes c p runs) (left_by ws q) ≡ left_by ws (left_by (all_writes c p runs) q)
others-behind c p [] ws q h = refl
others-behind c p (x ∷ runs) ws q h =
    left-append (lone_writes c p x) (all_writes c p runs) (left_by ws q)
    ∙ ap (left_by (all_writes c p runs)) (left-behind ws (lone_writes c p x) q (h 0 x refl))
    ∙ others-behind c p runs ws (left_by (lone_writes c p x) q) (λ j y g. h (suc j) y g)
    ∙ ap (left_by ws) (sym (left-append (lone_writes c p x) (all_writes c p runs) q))

-- one run has some writes more, which are apart from those of the others
pub more-writes : (c : CodeView) (p : Memories) (runs : List Isolated) (i : ℕ) (x x' : Isolated) (ws : List WriteEvent) (q : Memories) → slice_get runs i ≡ Some x → lone_writes c p x' ≡ lone_writes c p x ++ ws
    → ((j : ℕ) (y : Isolated) → ¬ (i ≡ j) → slice_get runs j ≡ Some y → ListsApart ws (lone_writes c p y))
    → left_by (all_writes c p (slice_set runs i x')) q ≡ left_by ws (left_by (all_writes c p runs) q)
more-writes c p [] i x x' ws q is more h = cc
more-writes c p (y ∷ runs) zero x x' ws q is more h =
    let same : y ≡ x = cc in
    left-append (lone_writes c p x') (all_writes c p runs) q
    ∙ ap (λ l. left_by (all_writes c p runs) (left_by l q)) more
    ∙ ap (left_by (all_writes c p runs)) (left-append (lone_writes c p x) ws q)
    ∙ others-behind c p runs ws (left_by (lone_writes c p x) q) (λ j z g. h (suc j) z (zero-not j) g)
    ∙ ap (left_by ws) (sym (left-append (lone_writes c p x) (all_writes c p runs) q))
    ∙ ap (λ r. left_by ws (left_by (lone_writes c p r ++ all_writes c p runs) q)) (sym same)
more-writes c p (y ∷ runs) (suc i) x x' ws q is more h =
    left-append (lone_writes c p y) (all_writes c p (slice_set runs i x')) q
    ∙ more-writes c p runs i x x' ws (left_by (lone_writes c p y) q) is more (λ j z ne g. h (suc j) z (not-suc i j ne) g)
    ∙ ap (left_by ws) (sym (left-append (lone_writes c p y) (all_writes c p runs) q))

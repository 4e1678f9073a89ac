-- Chains of moves, and turns by way of the compiler's own register.
use Rattle.std.proofs.Common.{◌≡◌, ◌≢◌, ℕ, ◌+◌, ◌<◌, ◌≤◌, ◌⊎◌, Option, Some, None, is_some, Result, Ok, Err, IfOk, List, [], ◌∷◌, ◌++◌, set, refl, sym, ap, subst, ◌∙◌, inl, inr, ⊎_elim, arith}
use Rattle.std.proofs.lemmas.Bool.{false≢true, cases_eq, cases_lt}
use Rattle.std.proofs.lemmas.List.{length_push}
use Rattle.place_plan.specs.declared.place.Place.{Place}
use Rattle.ucode_emit.specs.Moves.{Move, temporary}
use Rattle.ucode_emit.specs.inner.Pending.{number, Table, source_at, readings, pending_count, IsPending, HasTarget, FreeGoTo, Ran, Turned}
use Rattle.ucode_emit.proofs.Numbers.{number-injective}
use Rattle.ucode_emit.proofs.Counts.{within-table, nothing-else-read}
use Rattle.ucode_emit.proofs.MoveSteps.{entry-same, entry-other, pending-some}
use Rattle.ucode_emit.proofs.Keeping.{count-gone, count-saved, readings-gone, readings-saved, none-at, not-read, stands-run, stands-save}

still : (src : Table) (i k : ℕ) (p : Place) (was : Option Place) → source_at src i ≡ Some p → (source_at src k ≡ was) ⊎ (source_at src k ≡ None) → (source_at (set src i None) k ≡ was) ⊎ (source_at (set src i None) k ≡ None)
still src i k p was e h = ⊎_elim
    (λ (same : k ≡ i). inr (ap (λ n. source_at (set src i None) n) same ∙ entry-same src i None (within-table src i p e)))
    (λ (ne : k ≡ i → ⊥). ⊎_elim
    (λ (a : source_at src k ≡ was). inl (entry-other src i k None ne ∙ a))
    (λ (b : source_at src k ≡ None). inr (entry-other src i k None ne ∙ b)) h)
    (cases_eq k i)

two-more : (first now : Table) (i k : ℕ) (p : Place) → source_at now i ≡ Some p → readings now i ≡ 0 → pending_count now ≤ pending_count first
    → (pending_count now ≡ pending_count first → 1 ≤ readings now k) → (source_at now k ≡ None → pending_count now + 2 ≤ pending_count first)
    → source_at (set now i None) k ≡ None → (k ≡ i) ⊎ (k ≡ i → ⊥) → pending_count (set now i None) + 2 ≤ pending_count first
two-more first now i k p e z f u t g (inl same) =
    let c = count-gone now i p e in
    let here : readings now k ≡ 0 = ap (λ n. readings now n) same ∙ z in
    ⊎_elim
    (λ (less : pending_count now < pending_count first). omega arith)
    (λ (all' : pending_count first ≤ pending_count now). let one = u (omega arith) in omega arith)
    (cases_lt (pending_count now) (pending_count first))
two-more first now i k p e z f u t g (inr ne) =
    let c = count-gone now i p e in
    let most = t (sym (entry-other now i k None ne) ∙ g) in
    omega arith

-- one move more is done
pub ran-more : (first now : Table) (before done : List Move) (p t : Place) → Ran first before now done → source_at now (number t) ≡ Some p → readings now (number t) ≡ 0 → Ran first before (set now (number t) None) (done ++ (p, t) ∷ [])
ran-more first now before done p t r e z =
    let c = count-gone now (number t) p e in
    let l = length_push done (p, t) in
    let s = r.total in
    let f = r.fewer in
    record {
      stands = λ ms a st. stands-run ms now done p t a (r.stands ms a st) e z;
      total = omega arith;
      fewer = omega arith;
      kept = λ k. still now (number t) k p (source_at first k) e (r.kept k);
      unread = λ k h g. absurd (omega arith);
      two = λ k h w g. two-more first now (number t) k p e z f (r.unread k h) (r.two k h w) g (cases_eq k (number t));
    }

gone-is-none : (src : Table) (i : ℕ) (p : Place) → source_at src i ≡ Some p → IsPending (set src i None) i → ⊥
gone-is-none src i p e h = false≢true (ap is_some (sym (entry-same src i None (within-table src i p e))) ∙ h)

-- only the source of a move that is done comes free by it
pub free-more : (src : Table) (p t : Place) (ms : List Move) → source_at src (number t) ≡ Some p → FreeGoTo src ((t, t) ∷ ms) → FreeGoTo (set src (number t) None) ((p, p) ∷ ms)
free-more src p t ms e h k w z = ⊎_elim
    (λ (same : number p ≡ k). inl same)
    (λ (ne : number p ≡ k → ⊥).
    let other : k ≡ number t → ⊥ = λ f. gone-is-none src (number t) p e (subst (λ n. IsPending (set src (number t) None) n) f w) in
    let was : IsPending src k = ap is_some (sym (entry-other src (number t) k None other)) ∙ w in
    let r = readings-gone src (number t) k p e in
    let n = none-at (number p) k ne in
    ⊎_elim (λ (bad : number t ≡ k). absurd (other (sym bad))) (λ (x : HasTarget ms k). inr x) (h k was (omega arith)))
    (cases_eq (number p) k)

-- where the next one isn't free, the others are left
pub free-less : (src : Table) (t : Place) (ms : List Move) → (IsPending src (number t) → readings src (number t) ≡ 0 → ⊥) → FreeGoTo src ((t, t) ∷ ms) → FreeGoTo src ms
free-less src t ms n h k w z = ⊎_elim
    (λ (bad : number t ≡ k). absurd (n (subst (λ i. IsPending src i) (sym bad) w) (ap (λ i. readings src i) bad ∙ z)))
    (λ (x : HasTarget ms k). x)
    (h k w z)

-- ---- turns

pub each-read : (src : Table) → FreeGoTo src [] → (k : ℕ) → IsPending src k → 1 ≤ readings src k
each-read src h k w = ⊎_elim (λ (a : readings src k < 1). absurd (h k w (omega arith))) (λ (b : 1 ≤ readings src k). b) (cases_lt (readings src k) 1)

-- where each pending move's target is read, nothing reads the compiler's own register
pub temporary-unread : (src : Table) → FreeGoTo src [] → source_at src (number temporary) ≡ None → readings src (number temporary) ≡ 0
temporary-unread src h e = nothing-else-read (number temporary) src (ap is_some e) (each-read src h)

-- after a source that is put aside, its place alone comes free
pub free-saved : (src : Table) (p t : Place) → source_at src (number t) ≡ Some p → FreeGoTo src [] → FreeGoTo (set src (number t) (Some temporary)) ((p, p) ∷ [])
free-saved src p t e h k w z = ⊎_elim
    (λ (same : number p ≡ k). inl same)
    (λ (ne : number p ≡ k → ⊥).
    let was : IsPending src k = ⊎_elim
    (λ (same : k ≡ number t). ap (λ n. is_some (source_at src n)) same ∙ ap is_some e)
    (λ (other : k ≡ number t → ⊥). ap is_some (sym (entry-other src (number t) k (Some temporary) other)) ∙ w)
    (cases_eq k (number t)) in
    let r = readings-saved src (number t) k p temporary e in
    let n = none-at (number p) k ne in
    let one = each-read src h k was in
    absurd (omega arith))
    (cases_eq (number p) k)

kept-none : (o o' : Option Place) → (o' ≡ o) ⊎ (o' ≡ None) → o ≡ None → o' ≡ None
kept-none o o' (inl e) h = e ∙ h
kept-none o o' (inr e) h = e

-- the source that was put aside is moved on at last
turn-gone : (src now : Table) (p t : Place) → source_at src (number t) ≡ Some p → temporary ≢ t → source_at src (number temporary) ≡ None → FreeGoTo now []
    → ((k : ℕ) → (source_at now k ≡ source_at (set src (number t) (Some temporary)) k) ⊎ (source_at now k ≡ None)) → (number temporary ≡ number t → ⊥) → source_at now (number t) ≡ None
turn-gone src now p t e n f h kept ne =
    let aside : source_at (set src (number t) (Some temporary)) (number t) ≡ Some temporary = entry-same src (number t) (Some temporary) (within-table src (number t) p e) in
    let out : source_at (set src (number t) (Some temporary)) (number temporary) ≡ None = entry-other src (number t) (number temporary) (Some temporary) ne ∙ f in
    let unread = temporary-unread now h (kept-none (source_at (set src (number t) (Some temporary)) (number temporary)) (source_at now (number temporary)) (kept (number temporary)) out) in
    ⊎_elim
    (λ (a : source_at now (number t) ≡ source_at (set src (number t) (Some temporary)) (number t)). absurd (not-read now (number temporary) (number t) temporary unread (a ∙ aside) refl))
    (λ (b : source_at now (number t) ≡ None). b)
    (kept (number t))

turn-kept : (src now : Table) (t : ℕ) (k : ℕ) (o : Option Place) → source_at now t ≡ None → (source_at now k ≡ source_at (set src t o) k) ⊎ (source_at now k ≡ None) → (k ≡ t) ⊎ (k ≡ t → ⊥) → (source_at now k ≡ source_at src k) ⊎ (source_at now k ≡ None)
turn-kept src now t k o g h (inl same) = inr (ap (λ n. source_at now n) same ∙ g)
turn-kept src now t k o g (inl a) (inr ne) = inl (a ∙ entry-other src t k o ne)
turn-kept src now t k o g (inr b) (inr ne) = inr b

pub turned : (src now : Table) (before done : List Move) (p t : Place) → source_at src (number t) ≡ Some p → p ≢ t → (number temporary ≡ number t → ⊥) → source_at src (number temporary) ≡ None → FreeGoTo src []
    → Ran (set src (number t) (Some temporary)) (before ++ (p, temporary) ∷ []) now done → FreeGoTo now [] → Turned (number t) src before now done
turned src now before done p t e apart ne f stuck r h =
    let other : temporary ≢ t = λ same. ne (ap number same) in
    let gone : source_at now (number t) ≡ None = turn-gone src now p t e other f h r.kept ne in
    let c = count-saved src (number t) p temporary e in
    let l = length_push before (p, temporary) in
    let s = r.total in
    let was : IsPending src (number t) = pending-some src (number t) p e in
    let one = each-read src stuck (number t) was in
    let reads' = readings-saved src (number t) (number t) p temporary e in
    let none = none-at (number p) (number t) (λ (same : number p ≡ number t). apart (number-injective p t same)) in
    let aside : IsPending (set src (number t) (Some temporary)) (number t) = pending-some (set src (number t) (Some temporary)) (number t) temporary (entry-same src (number t) (Some temporary) (within-table src (number t) p e)) in
    let two = r.two (number t) (omega arith) aside gone in
    record {
      stands = λ ms a st. r.stands ms a (stands-save ms src before p t a st e other (temporary-unread src stuck f));
      gone = gone;
      kept = λ k. turn-kept src now (number t) k (Some temporary) gone (r.kept k) (cases_eq k (number t));
      stuck = h;
      weight = omega arith;
    }

-- ---- the same, for tables and moves that are given by equations

pub free-aside : (src src' : Table) (p t : Place) → source_at src (number t) ≡ Some p → FreeGoTo src [] → src' ≡ set src (number t) (Some temporary) → FreeGoTo src' ((p, p) ∷ [])
free-aside src src' p t e h f = subst (λ (s : Table). FreeGoTo s ((p, p) ∷ [])) (sym f) (free-saved src p t e h)

pub turned-by : (src src' now : Table) (before before' done : List Move) (p t : Place) → source_at src (number t) ≡ Some p → p ≢ t → t ≢ temporary → source_at src (number temporary) ≡ None → FreeGoTo src []
    → src' ≡ set src (number t) (Some temporary) → before' ≡ before ++ (p, temporary) ∷ [] → Ran src' before' now done → FreeGoTo now [] → Turned (number t) src before now done
turned-by src src' now before before' done p t e apart n f stuck a w r h =
    turned src now before done p t e apart (λ same. n (sym (number-injective temporary t same))) f stuck
    (subst (λ (s : Table). Ran s (before ++ (p, temporary) ∷ []) now done) a (subst (λ (d : List Move). Ran src' d now done) w r)) h

pub if-ok : {E : Type 0} (r : Result (Unit {0}) E) (P Q R : Type 0) → (P → Q → R) → IfOk r (λ (u : Unit {0}). P) → IfOk r (λ (u : Unit {0}). Q) → IfOk r (λ (u : Unit {0}). R)
if-ok (Ok u) P Q R h p q = h p q
if-ok (Err e) P Q R h p q = tt

pub if-ok-at : {E : Type 0} (r : Result (Unit {0}) E) (P : List Move → Type 0) (Q : List Move → Type 0) → (ms : List Move) → P ms → IfOk r (λ (u : Unit {0}). (ns : List Move) → P ns → Q ns) → IfOk r (λ (u : Unit {0}). Q ms)
if-ok-at (Ok u) P Q ms p h = h ms p
if-ok-at (Err e) P Q ms p h = tt

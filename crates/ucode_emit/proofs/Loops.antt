-- What the loops keep.
use Rattle.std.proofs.Common.{◌≡◌, ℕ, ◌+◌, ◌*◌, ◌<◌, ◌≤◌, Some, None, is_some, List, [], ◌∷◌, ◌++◌, length, get_or, set, drop, sym, ap, subst, ◌∙◌, inl, inr, arith}
use Rattle.std.proofs.lemmas.Bool.{false≢true}
use Rattle.std.proofs.lemmas.List.{drop_more, drop_all}
use Rattle.place_plan.specs.declared.place.Place.{Place}
use Rattle.ucode_emit.specs.declared.pending.Pending.{Pending}
use Rattle.ucode_emit.specs.Moves.{Move, HaveOwnTargets, SpareTemporary, temporary}
use Rattle.ucode_emit.specs.inner.Pending.{number, Table, source_at, readings, pending_count, HasTarget, Counted, Stands, GoTo, FreeGoTo, Ran, Turned, Begun}
use Rattle.ucode_emit.proofs.Numbers.{number-injective}
use Rattle.ucode_emit.proofs.Keeping.{count-added, pending-before}
use Rattle.ucode_emit.proofs.Runs.{ran-more, free-more}
use Rattle.ucode_emit.proofs.Starts.{begun-more, begun-same, not-yet, apart-from, not-among, none-unless}

-- ---- moves are added

pub record Adding (ms : List Move) (i : ℕ) (p : Pending) : Type 0 where
  pub counted : Counted p.sources.items p.readers.items
  pub begun : Begun ms i p.sources.items
  pub count : pending_count p.sources.items ≤ i
  pub nothing_done : p.done.items ≡ []

pub adding-same : (ms : List Move) (i : ℕ) (m : Move) (p : Pending) → i < length ms → m ≡ get_or ms i m → HaveOwnTargets ms → Adding ms i p → number m.0 ≡ number m.1 → Adding ms (i + 1) p
adding-same ms i m p l e h a same = record {
  counted = a.counted;
  begun = begun-same ms i m p.sources.items l e h a.begun (number-injective m.0 m.1 same);
  count = let c = a.count in omega arith;
  nothing_done = a.nothing_done;
}

pub adding-more : (ms : List Move) (i : ℕ) (m : Move) (p p' : Pending) → i < length ms → m ≡ get_or ms i m → HaveOwnTargets ms → Adding ms i p → (number m.0 ≡ number m.1 → ⊥)
    → Counted p'.sources.items p'.readers.items → p'.sources.items ≡ set p.sources.items (number m.1) (Some m.0) → number m.1 < length p.sources.items → p'.done.items ≡ p.done.items → Adding ms (i + 1) p'
adding-more ms i m p p' l e h a ne counted f w g = record {
  counted = counted;
  begun = subst (λ (s : Table). Begun ms (i + 1) s) (sym f) (begun-more ms i m p.sources.items l e w h a.begun (λ same. ne (ap number same)));
  count = let c = a.count in let one = ap (λ (s : Table). pending_count s) f ∙ count-added p.sources.items (number m.1) m.0 w (not-yet ms i m p.sources.items l e h a.begun) in omega arith;
  nothing_done = g ∙ a.nothing_done;
}

-- ---- one chain is run

pub record Running (first : Pending) (start : Place) (t : Place) (p : Pending) : Type 0 where
  pub counted : Counted p.sources.items p.readers.items
  pub ran : Ran first.sources.items first.done.items p.sources.items p.done.items
  pub free : (ms : List Move) → FreeGoTo first.sources.items ((start, start) ∷ ms) → FreeGoTo p.sources.items ((t, t) ∷ ms)

pub running-more : (first : Pending) (start t s : Place) (p p' : Pending) → Running first start t p → source_at p.sources.items (number t) ≡ Some s → readings p.sources.items (number t) ≡ 0
    → Counted p'.sources.items p'.readers.items → p'.sources.items ≡ set p.sources.items (number t) None → p'.done.items ≡ p.done.items ++ (s, t) ∷ [] → Running first start s p'
running-more first start t s p p' r e z counted f g = record {
  counted = counted;
  ran = subst (λ (src : Table). Ran first.sources.items first.done.items src p'.done.items) (sym f)
      (subst (λ (d : List Move). Ran first.sources.items first.done.items (set p.sources.items (number t) None) d) (sym g) (ran-more first.sources.items p.sources.items first.done.items p.done.items s t r.ran e z));
  free = λ ms h. subst (λ (src : Table). FreeGoTo src ((s, s) ∷ ms)) (sym f) (free-more p.sources.items s t ms e (r.free ms h));
}

-- ---- the moves that no cycle holds up

pub record Freeing (ms : List Move) (i : ℕ) (p : Pending) : Type 0 where
  pub counted : Counted p.sources.items p.readers.items
  pub stands : Stands ms p.sources.items p.done.items
  pub weight : 2 * length p.done.items + 3 * pending_count p.sources.items ≤ 3 * length ms
  pub free : FreeGoTo p.sources.items (drop i ms)

same-target : (src : Table) (m : Move) (ms : List Move) → FreeGoTo src (m ∷ ms) → FreeGoTo src ((m.1, m.1) ∷ ms)
same-target src m ms h k w z = h k w z

pub freeing-more : (ms : List Move) (i : ℕ) (m : Move) (p p' : Pending) → i < length ms → m ≡ get_or ms i m → HaveOwnTargets ms → Freeing ms i p → Counted p'.sources.items p'.readers.items → Ran p.sources.items p.done.items p'.sources.items p'.done.items
    → ((ns : List Move) → FreeGoTo p.sources.items ((m.1, m.1) ∷ ns) → FreeGoTo p'.sources.items ns) → Freeing ms (i + 1) p'
freeing-more ms i m p p' l e h a counted r free = record {
  counted = counted;
  stands = r.stands ms (apart-from ms h) a.stands;
  weight = let w = a.weight in let t = r.total in let f = r.fewer in omega arith;
  free = free (drop (i + 1) ms) (same-target p.sources.items m (drop (i + 1) ms) (subst (λ (ns : List Move). FreeGoTo p.sources.items ns) (drop_more ms i m l ∙ ap (λ (n : Move). n ∷ drop (i + 1) ms) (sym e)) a.free));
}

pub freeing-end : (ms : List Move) (i : ℕ) (p : Pending) → length ms ≤ i → Freeing ms i p → FreeGoTo p.sources.items []
freeing-end ms i p l a = subst (λ (ns : List Move). FreeGoTo p.sources.items ns) (drop_all i ms l) a.free

-- ---- the moves in cycles

pub record Turning (ms : List Move) (i : ℕ) (p : Pending) : Type 0 where
  pub counted : Counted p.sources.items p.readers.items
  pub stands : Stands ms p.sources.items p.done.items
  pub weight : 2 * length p.done.items + 3 * pending_count p.sources.items ≤ 3 * length ms
  pub stuck : FreeGoTo p.sources.items []
  pub left : GoTo p.sources.items (drop i ms)

drop-step : (ms : List Move) (i : ℕ) (m : Move) (src : Table) → i < length ms → m ≡ get_or ms i m → GoTo src (drop i ms) → GoTo src (m ∷ drop (i + 1) ms)
drop-step ms i m src l e h = subst (λ (ns : List Move). GoTo src ns) (drop_more ms i m l ∙ ap (λ (n : Move). n ∷ drop (i + 1) ms) (sym e)) h

not-that : (m : Move) (ns : List Move) (k : ℕ) → (number m.1 ≡ k → ⊥) → HasTarget (m ∷ ns) k → HasTarget ns k
not-that m ns k n (inl e) = absurd (n e)
not-that m ns k n (inr x) = x

-- a place that no move is pending to
pub turning-past : (ms : List Move) (i : ℕ) (m : Move) (p : Pending) → i < length ms → m ≡ get_or ms i m → Turning ms i p → source_at p.sources.items (number m.1) ≡ None → Turning ms (i + 1) p
turning-past ms i m p l e a f = record {
  counted = a.counted;
  stands = a.stands;
  weight = a.weight;
  stuck = a.stuck;
  left = λ k w. not-that m (drop (i + 1) ms) k (λ same. false≢true (ap is_some (sym f) ∙ (ap (λ n. is_some (source_at p.sources.items n)) same ∙ w))) (drop-step ms i m p.sources.items l e a.left k w);
}

pub turning-more : (ms : List Move) (i : ℕ) (m : Move) (p p' : Pending) → i < length ms → m ≡ get_or ms i m → HaveOwnTargets ms → Turning ms i p → Counted p'.sources.items p'.readers.items
    → Turned (number m.1) p.sources.items p.done.items p'.sources.items p'.done.items → Turning ms (i + 1) p'
turning-more ms i m p p' l e h a counted t = record {
  counted = counted;
  stands = t.stands ms (apart-from ms h) a.stands;
  weight = let w = a.weight in let v = t.weight in omega arith;
  stuck = t.stuck;
  left = λ k w.
      not-that m (drop (i + 1) ms) k
      (λ same. false≢true (ap is_some (sym t.gone) ∙ (ap (λ n. is_some (source_at p'.sources.items n)) same ∙ w)))
      (drop-step ms i m p.sources.items l e a.left k (pending-before (source_at p.sources.items k) (source_at p'.sources.items k) (t.kept k) w));
}

pub turning-end : (ms : List Move) (i : ℕ) (p : Pending) → length ms ≤ i → Turning ms i p → GoTo p.sources.items []
turning-end ms i p l a = subst (λ (ns : List Move). GoTo p.sources.items ns) (drop_all i ms l) a.left

-- no move is pending to the compiler's own register
pub spared : (ms : List Move) (i : ℕ) (p : Pending) → SpareTemporary ms → Turning ms i p → source_at p.sources.items (number temporary) ≡ None
spared ms i p h a = none-unless (source_at p.sources.items (number temporary))
    (λ w. not-among ms temporary (λ j d l same. (h j d l).1 (sym same)) (a.stands.goes (number temporary) w))

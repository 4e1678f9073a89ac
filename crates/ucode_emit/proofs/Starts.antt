-- All moves are pending at the start, and none at the end.
use Rattle.std.proofs.Common.{◌≡◌, ◌≢◌, ℕ, zero, suc, ◌+◌, ◌<◌, ◌≤◌, Bool, true, false, if◌then◌else◌, Option, Some, None, is_some, List, [], ◌∷◌, ◌++◌, length, get_or, set, take, refl, sym, ap, subst, ◌∙◌, inl, inr, ⊎_elim, arith}
use Rattle.std.proofs.lemmas.Bool.{false≢true, cases_eq, cases_lt}
use Rattle.std.proofs.lemmas.List.{take_more, take_all, get_or_read, append-nil}
use Rattle.place_plan.specs.declared.place.Place.{Place}
use Rattle.place_plan.specs.Places.{same_place}
use Rattle.place_plan.proofs.Places.{same_place-true, same_place-from, same_place-false}
use Rattle.ucode_emit.specs.Moves.{Move, Words, temporary, put, one_by_one, all_at_once, HaveOwnTargets, SpareTemporary, IsNoTarget, StandFor}
use Rattle.ucode_emit.specs.Moves as moves
use Rattle.ucode_emit.specs.inner.Pending.{number, numbers, Table, source_at, readings, pending_count, IsPending, HasTarget, AreApart, word_from, left_by, StandForRest, Counted, Stands, GoTo, FreeGoTo, source_of, Begun}
use Rattle.ucode_emit.specs.inner.Pending as inner
use Rattle.ucode_emit.proofs.Numbers.{number-injective}
use Rattle.ucode_emit.proofs.MoveSteps.{put-same, put-other, cases_place, entry-same, entry-other, none-is-no-some, pending-some, some-injective, rest-none}

-- ---- targets

pub target-append : (ms ns : List Move) (k : ℕ) → HasTarget ms k → HasTarget (ms ++ ns) k
target-append [] ns k x = absurd x
target-append (m ∷ ms) ns k (inl e) = inl e
target-append (m ∷ ms) ns k (inr x) = inr (target-append ms ns k x)

pub target-last : (ms : List Move) (m : Move) → HasTarget (ms ++ m ∷ []) (number m.1)
target-last [] m = inl refl
target-last (n ∷ ms) m = inr (target-last ms m)

tail-pairs : (m : Move) (ms : List Move) → HaveOwnTargets (m ∷ ms) → HaveOwnTargets ms
tail-pairs m ms h = λ i j d a b. h (suc i) (suc j) d (omega arith) (omega arith)

pub not-among : (ms : List Move) (t : Place) → ((j : ℕ) (d : Move) → j < length ms → t ≢ (get_or ms j d).1) → HasTarget ms (number t) → ⊥
not-among [] t h x = x
not-among (m ∷ ms) t h (inl e) = h zero m (omega arith) (sym (number-injective m.1 t e))
not-among (m ∷ ms) t h (inr x) = not-among ms t (λ j d l. h (suc j) d (omega arith)) x

pub apart-from : (ms : List Move) → HaveOwnTargets ms → AreApart ms
apart-from [] h = tt
apart-from (m ∷ ms) h = (not-among ms m.1 (λ j d l. h zero (suc j) d (omega arith) (omega arith)), apart-from ms (tail-pairs m ms h))

-- the target of a move isn't that of one before it
pub not-before : (ms : List Move) (i : ℕ) (d : Move) → i < length ms → HaveOwnTargets ms → HasTarget (take i ms) (number (get_or ms i d).1) → ⊥
not-before [] i d l h x = absurd (omega arith)
not-before (m ∷ ms) zero d l h x = x
not-before (m ∷ ms) (suc i) d l h (inl e) = h zero (suc i) d (omega arith) l (number-injective m.1 (get_or ms i d).1 e)
not-before (m ∷ ms) (suc i) d l h (inr x) = not-before ms i d (omega arith) (tail-pairs m ms h) x

-- ---- the start

pub not-yet : (ms : List Move) (i : ℕ) (m : Move) (src : Table) → i < length ms → m ≡ get_or ms i m → HaveOwnTargets ms → Begun ms i src → source_at src (number m.1) ≡ None
not-yet ms i m src l e h b = none-when (source_at src (number m.1)) (λ w. not-before ms i m l h (subst (λ (n : Move). HasTarget (take i ms) (number n.1)) e (b.others (number m.1) w)))
  where
    none-when : (o : Option Place) → (is_some o ≡ true → ⊥) → o ≡ None
    none-when None n = refl
    none-when (Some p) n = absurd (n refl)

take-next : (ms : List Move) (i : ℕ) (m : Move) → i < length ms → m ≡ get_or ms i m → take (i + 1) ms ≡ take i ms ++ m ∷ []
take-next ms i m l e = take_more ms i m l ∙ ap (λ (n : Move). take i ms ++ n ∷ []) (sym e)

source-unless : (b : Bool) (m : Move) → same_place m.0 m.1 ≡ b → source_of m ≡ (if b then None else Some m.0)
source-unless b m e = ap (λ c. if c then None else Some m.0) e

pub source_of-same : (m : Move) → m.0 ≡ m.1 → source_of m ≡ None
source_of-same m e = source-unless true m (same_place-from m.0 m.1 e)

pub source_of-other : (m : Move) → (m.0 ≡ m.1 → ⊥) → source_of m ≡ Some m.0
source_of-other m n = source-unless false m (same_place-false m.0 m.1 n)

source-at-last : (ms : List Move) (i j : ℕ) (m d : Move) (src : Table) → i < length ms → m ≡ get_or ms i m → j ≡ i → source_at src (number m.1) ≡ source_of m → source_at src (number (get_or ms j d).1) ≡ source_of (get_or ms j d)
source-at-last ms i j m d src l e same h =
    let it : get_or ms j d ≡ m = ap (λ n. get_or ms n d) same ∙ sym (get_or_read ms i m l e d) in
    subst (λ (n : Move). source_at src (number n.1) ≡ source_of n) (sym it) h

-- a move whose ends are one place
pub begun-same : (ms : List Move) (i : ℕ) (m : Move) (src : Table) → i < length ms → m ≡ get_or ms i m → HaveOwnTargets ms → Begun ms i src → m.0 ≡ m.1 → Begun ms (i + 1) src
begun-same ms i m src l e h b same = record {
  each = λ j d k. ⊎_elim
      (λ (less : j < i). b.each j d less)
      (λ (last : i ≤ j). source-at-last ms i j m d src l e (omega arith) (not-yet ms i m src l e h b ∙ sym (source_of-same m same)))
      (cases_lt j i);
  others = λ k w. subst (λ (n : List Move). HasTarget n k) (sym (take-next ms i m l e)) (target-append (take i ms) (m ∷ []) k (b.others k w));
}

-- any other move
pub begun-more : (ms : List Move) (i : ℕ) (m : Move) (src : Table) → i < length ms → m ≡ get_or ms i m → number m.1 < length src → HaveOwnTargets ms → Begun ms i src → (m.0 ≡ m.1 → ⊥) → Begun ms (i + 1) (set src (number m.1) (Some m.0))
begun-more ms i m src l e w h b ne = record {
  each = λ j d k. ⊎_elim
      (λ (less : j < i).
      let other : number (get_or ms j d).1 ≡ number m.1 → ⊥ = λ f.
      h j i d less l (number-injective (get_or ms j d).1 (get_or ms i d).1 (f ∙ ap (λ (n : Move). number n.1) (get_or_read ms i m l e d))) in
      entry-other src (number m.1) (number (get_or ms j d).1) (Some m.0) other ∙ b.each j d less)
      (λ (last : i ≤ j). source-at-last ms i j m d (set src (number m.1) (Some m.0)) l e (omega arith) (entry-same src (number m.1) (Some m.0) w ∙ sym (source_of-other m ne)))
      (cases_lt j i);
  others = λ k p. subst (λ (n : List Move). HasTarget n k) (sym (take-next ms i m l e)) (⊎_elim
      (λ (same : k ≡ number m.1). subst (λ n. HasTarget (take i ms ++ m ∷ []) n) (sym same) (target-last (take i ms) m))
      (λ (other : k ≡ number m.1 → ⊥). target-append (take i ms) (m ∷ []) k (b.others k (ap is_some (sym (entry-other src (number m.1) k (Some m.0) other)) ∙ p)))
      (cases_eq k (number m.1)));
}

-- every move of a list is pending as it was given
abbrev AllBegun : List Move → Table → Type 0
AllBegun [] src = Unit {0}
AllBegun (m ∷ ms) src = (source_at src (number m.1) ≡ source_of m) × AllBegun ms src

all-begun : (ms : List Move) (src : Table) → ((j : ℕ) (d : Move) → j < length ms → source_at src (number (get_or ms j d).1) ≡ source_of (get_or ms j d)) → AllBegun ms src
all-begun [] src h = tt
all-begun (m ∷ ms) src h = (h zero m (omega arith), all-begun ms src (λ j d l. h (suc j) d (omega arith)))

begun-by : (ms : List Move) (src : Table) (k : ℕ) → AllBegun ms src → HasTarget ms k → (m : Move) × (number m.1 ≡ k) × (source_at src k ≡ source_of m)
begun-by [] src k b x = absurd x
begun-by (m ∷ ms) src k b (inl e) = (m, e, subst (λ n. source_at src n ≡ source_of m) e b.0)
begun-by (m ∷ ms) src k b (inr x) = begun-by ms src k b.1 x

source_of-some : (b : Bool) (m : Move) (s : Place) → same_place m.0 m.1 ≡ b → (if b then None else Some m.0) ≡ Some s → (m.0 ≡ s) × (m.0 ≢ m.1)
source_of-some true m s e f = absurd (none-is-no-some None s refl f)
source_of-some false m s e f = (some-injective m.0 s (Some m.0) refl f, λ same. false≢true (sym e ∙ same_place-from m.0 m.1 same))

source_of-none : (b : Bool) (m : Move) → same_place m.0 m.1 ≡ b → (if b then None else Some m.0) ≡ None → m.0 ≡ m.1
source_of-none true m e f = same_place-true m.0 m.1 e
source_of-none false m e f = absurd (none-is-no-some (Some m.0) m.0 f refl)

begun-word : (b : Bool) (m : Move) (q : Place) (e : Words) → same_place m.0 m.1 ≡ b → q ≡ m.1 → word_from e q (if b then None else Some m.0) ≡ e m.0
begun-word true m q e s h = ap e (h ∙ sym (same_place-true m.0 m.1 s))
begun-word false m q e s h = refl

-- what the pending moves leave is what the moves leave
begun-effect : (ms : List Move) (src : Table) (e : Words) (q : Place) → AllBegun ms src → ((HasTarget ms (number q) → ⊥) → source_at src (number q) ≡ None) → word_from e q (source_at src (number q)) ≡ all_at_once ms e q
begun-effect [] src e q b h = ap (λ (o : Option Place). word_from e q o) (h (λ x. x))
begun-effect (m ∷ ms) src e q b h = ⊎_elim
    (λ (same : q ≡ m.1).
    let here : source_at src (number q) ≡ source_of m = ap (λ (p : Place). source_at src (number p)) same ∙ b.0 in
    ap (λ (o : Option Place). word_from e q o) here ∙ begun-word (same_place m.0 m.1) m q e refl same ∙ sym (put-same (all_at_once ms e) m.1 q (e m.0) same))
    (λ (ne : q ≡ m.1 → ⊥).
    begun-effect ms src e q b.1 (λ n. h (λ x. ⊎_elim (λ (f : number m.1 ≡ number q). ne (sym (number-injective m.1 q f))) (λ (y : HasTarget ms (number q)). n y) x))
    ∙ sym (put-other (all_at_once ms e) m.1 q (e m.0) ne))
    (cases_place q m.1)

at-rest : (s t : Place) (ms r : List Move) → s ≡ t → StandFor ms r → StandFor ((s, t) ∷ ms) r
at-rest s t ms r same d = subst (λ (p : Place). StandFor ((s, p) ∷ ms) r) same (moves.at_rest d)

-- what stands for the pending moves stands for the moves
begun-moves : (src : Table) (ms r : List Move) → AllBegun ms src → StandForRest src ms r → StandFor ms r
begun-moves src os v b inner.none = moves.none
begun-moves src os v b (inner.finished {s} {t} {ms} {r} e d) = at-rest s t ms r (source_of-none (same_place s t) (s, t) refl (sym b.0 ∙ e)) (begun-moves src ms r b.1 d)
begun-moves src os v b (inner.once {s} {t} {w} {ms} a c e d) =
    let it = source_of-some (same_place s t) (s, t) w refl (sym b.0 ∙ e) in
    subst (λ (p : Place). StandFor ((s, t) ∷ ms) (a ++ ((p, t) ∷ c))) it.0 (moves.once a c it.1 (begun-moves src ms (a ++ c) b.1 d))
begun-moves src os v b (inner.around {s} {t} {w} {ms} a c g e n d) =
    let it = source_of-some (same_place s t) (s, t) w refl (sym b.0 ∙ e) in
    subst (λ (p : Place). StandFor ((s, t) ∷ ms) (a ++ ((p, temporary) ∷ (c ++ ((temporary, t) ∷ g))))) it.0 (moves.around a c g it.1 (begun-moves src ms (a ++ (c ++ g)) b.1 d))

pub begun-goes : (ms : List Move) (src : Table) → Begun ms (length ms) src → GoTo src ms
begun-goes ms src b = λ k w. subst (λ (n : List Move). HasTarget n k) (take_all (length ms) ms (omega arith)) (b.others k w)

pub none-unless : (o : Option Place) → (is_some o ≡ true → ⊥) → o ≡ None
none-unless None n = refl
none-unless (Some p) n = absurd (n refl)

-- all moves are pending
pub stands-first : (ms : List Move) (src : Table) (done : List Move) → done ≡ [] → Begun ms (length ms) src → Stands ms src done
stands-first ms src done e b =
    let g = begun-goes ms src b in
    let all' = all-begun ms src b.each in
    subst (λ (l : List Move). Stands ms src l) (sym e) (record {
      goes = g;
      apart = λ q s f.
          let it = begun-by ms src (number q) all' (g (number q) (pending-some src (number q) s f)) in
          let from = source_of-some (same_place it.0.0 it.0.1) it.0 s refl (sym it.2 ∙ f) in
          λ same. from.1 (from.0 ∙ same ∙ sym (number-injective it.0.1 q it.1));
      effect = λ w q n. begun-effect ms src w q all' (λ x. none-unless (source_at src (number q)) (λ p. x (g (number q) p)));
      moves = λ r d. begun-moves src ms r all' d;
    })

-- ---- the end

pub nothing-pending : (src : Table) → GoTo src [] → (k : ℕ) → source_at src k ≡ None
nothing-pending src g k = none-unless (source_at src k) (λ w. g k w)

pub effect-at-end : (ms : List Move) (src : Table) (done : List Move) → Stands ms src done → GoTo src [] → (e : Words) (q : Place) → q ≢ temporary → one_by_one done e q ≡ all_at_once ms e q
effect-at-end ms src done st g e q n = sym (ap (λ (o : Option Place). word_from (one_by_one done e) q o) (nothing-pending src g (number q))) ∙ st.effect e q n

pub moves-at-end : (ms : List Move) (src : Table) (done : List Move) → Stands ms src done → GoTo src [] → StandFor ms done
moves-at-end ms src done st g = subst (λ (l : List Move). StandFor ms l) (append-nil done) (st.moves [] (rest-none src ms (nothing-pending src g)))

-- what no move goes to keeps its word
pub others-keep : (ms : List Move) (e : Words) (q : Place) → ((j : ℕ) (d : Move) → j < length ms → q ≢ (get_or ms j d).1) → all_at_once ms e q ≡ e q
others-keep [] e q h = refl
others-keep (m ∷ ms) e q h = put-other (all_at_once ms e) m.1 q (e m.0) (h zero m (omega arith)) ∙ others-keep ms e q (λ j d l. h (suc j) d (omega arith))

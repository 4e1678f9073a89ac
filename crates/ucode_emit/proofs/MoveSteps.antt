-- What a move that is done, and a source that is put aside, leave of what is pending.
use Rattle.std.proofs.Common.{◌≡◌, ◌≢◌, ℕ, ◌<◌, Bool, true, false, if◌then◌else◌, ◌⊎◌, Option, Some, None, is_some, List, [], ◌∷◌, ◌++◌, length, set, refl, sym, ap, subst, ◌∙◌, inl, inr}
use Rattle.std.proofs.lemmas.Bool.{false≢true}
use Rattle.std.proofs.lemmas.List.{get_or-set_same, get_or-set_other}
use Rattle.place_plan.specs.declared.place.Place.{Place}
use Rattle.place_plan.specs.Places.{same_place}
use Rattle.place_plan.proofs.Places.{same_place-true, same_place-from, same_place-false}
use Rattle.ucode_emit.specs.Moves.{Move, Words, temporary, put, one_by_one}
use Rattle.ucode_emit.specs.inner.Pending.{number, numbers, Table, source_at, reads, readings, pending_count, IsPending, HasTarget, AreApart, word_from, left_by, StandForRest, Counted, Stands, GoTo, FreeGoTo, Ran}
use Rattle.ucode_emit.specs.inner.Pending as inner
use Rattle.ucode_emit.proofs.Numbers.{number-injective}
use Rattle.ucode_emit.proofs.Counts.{within-table}

-- ---- words

pub one_by_one-push : (ms : List Move) (m : Move) (e : Words) → one_by_one (ms ++ m ∷ []) e ≡ put (one_by_one ms e) m.1 (one_by_one ms e m.0)
one_by_one-push [] m e = refl
one_by_one-push (n ∷ ms) m e = one_by_one-push ms m (put e n.1 (e n.0))

pub put-same : (e : Words) (p q : Place) (w : ℕ) → q ≡ p → put e p w q ≡ w
put-same e p q w h = ap (λ b. if b then w else e q) (same_place-from q p h)

pub put-other : (e : Words) (p q : Place) (w : ℕ) → (q ≡ p → ⊥) → put e p w q ≡ e q
put-other e p q w h = ap (λ b. if b then w else e q) (same_place-false q p h)

pub cases_place : (p q : Place) → (p ≡ q) ⊎ (p ≡ q → ⊥)
cases_place p q = cases (same_place p q) refl
  where
    cases : (b : Bool) → same_place p q ≡ b → (p ≡ q) ⊎ (p ≡ q → ⊥)
    cases true e = inl (same_place-true p q e)
    cases false e = inr (λ h. false≢true (sym e ∙ same_place-from p q h))

-- ---- entries

pub entry-same : (src : Table) (i : ℕ) (o : Option Place) → i < length src → source_at (set src i o) i ≡ o
entry-same src i o h = get_or-set_same src i o None h

pub entry-other : (src : Table) (i k : ℕ) (o : Option Place) → (k ≡ i → ⊥) → source_at (set src i o) k ≡ source_at src k
entry-other src i k o h = get_or-set_other src i k o None h

pub other-number : (p q : Place) → (p ≡ q → ⊥) → number p ≡ number q → ⊥
other-number p q h e = h (number-injective p q e)

pub none-is-no-some : (o : Option Place) (p : Place) → o ≡ None → o ≡ Some p → ⊥
none-is-no-some o p e f = let bad : None ≡ Some p = sym e ∙ f in cc

pub pending-some : (src : Table) (k : ℕ) (p : Place) → source_at src k ≡ Some p → IsPending src k
pending-some src k p e = ap is_some e

-- ---- the single moves that are still to come

pub rest-same : (src src' : Table) (ms r : List Move) → ((k : ℕ) → HasTarget ms k → source_at src' k ≡ source_at src k) → StandForRest src' ms r → StandForRest src ms r
rest-same src src' os v h inner.none = inner.none
rest-same src src' os v h (inner.finished {s} {t} {ms} {r} e d) = inner.finished (sym (h (number t) (inl refl)) ∙ e) (rest-same src src' ms r (λ k x. h k (inr x)) d)
rest-same src src' os v h (inner.once {s} {t} {w} {ms} a b e d) = inner.once a b (sym (h (number t) (inl refl)) ∙ e) (rest-same src src' ms (a ++ b) (λ k x. h k (inr x)) d)
rest-same src src' os v h (inner.around {s} {t} {w} {ms} a b c e n d) = inner.around a b c (sym (h (number t) (inl refl)) ∙ e) n (rest-same src src' ms (a ++ (b ++ c)) (λ k x. h k (inr x)) d)

-- a target of the others isn't that of the first
tail-target : (ms : List Move) (s t q : Place) → (t ≡ q → ⊥) → HasTarget ((s, t) ∷ ms) (number q) → HasTarget ms (number q)
tail-target ms s t q h (inl e) = absurd (other-number t q h e)
tail-target ms s t q h (inr x) = x

apart-other : (ms : List Move) (t : Place) (k : ℕ) → (HasTarget ms (number t) → ⊥) → HasTarget ms k → k ≡ number t → ⊥
apart-other ms t k h x e = h (subst (λ n. HasTarget ms n) e x)

-- after the change of one entry the others are as before
other-entries : (src : Table) (q t : Place) (o : Option Place) (ms r : List Move) → t ≡ q → (HasTarget ms (number t) → ⊥) → StandForRest (set src (number q) o) ms r → StandForRest src ms r
other-entries src q t o ms r same a d = rest-same src (set src (number q) o) ms r (λ k y. entry-other src (number q) k o (λ e. apart-other ms t k a y (e ∙ ap number (sym same)))) d

entry-at : (src : Table) (q t : Place) (o : Option Place) → t ≡ q → number q < length src → source_at (set src (number q) o) (number t) ≡ o
entry-at src q t o same h = ap (λ (y : Place). source_at (set src (number q) o) (number y)) same ∙ entry-same src (number q) o h

entry-not-at : (src : Table) (q t : Place) (o o' : Option Place) → (t ≡ q → ⊥) → source_at (set src (number q) o) (number t) ≡ o' → source_at src (number t) ≡ o'
entry-not-at src q t o o' ne e = sym (entry-other src (number q) (number t) o (other-number t q ne)) ∙ e

not-gone : (src : Table) (q t p : Place) → number q < length src → source_at (set src (number q) None) (number t) ≡ Some p → t ≡ q → ⊥
not-gone src q t p h e same = none-is-no-some (source_at (set src (number q) None) (number t)) p (entry-at src q t None same h) e

finished-in-front : (src : Table) (p q s t : Place) (ms r : List Move) → source_at src (number q) ≡ Some p → (HasTarget ms (number t) → ⊥) → source_at (set src (number q) None) (number t) ≡ None → StandForRest (set src (number q) None) ms r
    → ((t ≡ q → ⊥) → StandForRest src ms ((p, q) ∷ r)) → (t ≡ q) ⊎ (t ≡ q → ⊥) → StandForRest src ((s, t) ∷ ms) ((p, q) ∷ r)
finished-in-front src p q s t ms r f a e d rest (inl same) =
    subst (λ (y : Place). StandForRest src ((s, t) ∷ ms) ((p, y) ∷ r)) same
    (inner.once [] r (ap (λ (y : Place). source_at src (number y)) same ∙ f) (other-entries src q t None ms r same a d))
finished-in-front src p q s t ms r f a e d rest (inr ne) = inner.finished (entry-not-at src q t None None ne e) (rest ne)

-- a move that is done stands in front
pub rest-run : (src : Table) (p q : Place) (ms r : List Move) → source_at src (number q) ≡ Some p → AreApart ms → HasTarget ms (number q) → StandForRest (set src (number q) None) ms r → StandForRest src ms ((p, q) ∷ r)
rest-run src p q os v f a x inner.none = absurd x
rest-run src p q os v f a x (inner.finished {s} {t} {ms} {r} e d) =
    finished-in-front src p q s t ms r f a.0 e d (λ ne. rest-run src p q ms r f a.1 (tail-target ms s t q ne x) d) (cases_place t q)
rest-run src p q os v f a x (inner.once {s} {t} {w} {ms} b c e d) =
    let ne : t ≡ q → ⊥ = not-gone src q t w (within-table src (number q) p f) e in
    inner.once ((p, q) ∷ b) c (entry-not-at src q t None (Some w) ne e) (rest-run src p q ms (b ++ c) f a.1 (tail-target ms s t q ne x) d)
rest-run src p q os v f a x (inner.around {s} {t} {w} {ms} b c g e n d) =
    let ne : t ≡ q → ⊥ = not-gone src q t w (within-table src (number q) p f) e in
    inner.around ((p, q) ∷ b) c g (entry-not-at src q t None (Some w) ne e) n (rest-run src p q ms (b ++ (c ++ g)) f a.1 (tail-target ms s t q ne x) d)

pub some-injective : (p q : Place) (o : Option Place) → o ≡ Some p → o ≡ Some q → p ≡ q
some-injective p q o e f = let both : Some p ≡ Some q = sym e ∙ f in cc

not-finished : (src : Table) (q t p : Place) → number q < length src → source_at (set src (number q) (Some p)) (number t) ≡ None → t ≡ q → ⊥
not-finished src q t p h e same = none-is-no-some (source_at (set src (number q) (Some p)) (number t)) p e (entry-at src q t (Some p) same h)

once-in-front : (src : Table) (p q s t w : Place) (ms b c : List Move) → source_at src (number q) ≡ Some p → p ≢ temporary → (HasTarget ms (number t) → ⊥) → source_at (set src (number q) (Some temporary)) (number t) ≡ Some w → StandForRest (set src (number q) (Some temporary)) ms (b ++ c)
    → ((t ≡ q → ⊥) → StandForRest src ms ((p, temporary) ∷ (b ++ c))) → (t ≡ q) ⊎ (t ≡ q → ⊥) → StandForRest src ((s, t) ∷ ms) ((p, temporary) ∷ (b ++ ((w, t) ∷ c)))
once-in-front src p q s t w ms b c f n a e d rest (inl same) =
    let way : temporary ≡ w = some-injective temporary w (source_at (set src (number q) (Some temporary)) (number t)) (entry-at src q t (Some temporary) same (within-table src (number q) p f)) e in
    subst (λ (y : Place). StandForRest src ((s, t) ∷ ms) ((p, temporary) ∷ (b ++ ((y, t) ∷ c)))) way
    (inner.around [] b c (ap (λ (y : Place). source_at src (number y)) same ∙ f) n (other-entries src q t (Some temporary) ms (b ++ c) same a d))
once-in-front src p q s t w ms b c f n a e d rest (inr ne) = inner.once ((p, temporary) ∷ b) c (entry-not-at src q t (Some temporary) (Some w) ne e) (rest ne)

around-elsewhere : (src : Table) (p q t w : Place) → source_at src (number q) ≡ Some p → source_at (set src (number q) (Some temporary)) (number t) ≡ Some w → w ≢ temporary → t ≡ q → ⊥
around-elsewhere src p q t w f e n same =
    n (some-injective w temporary (source_at (set src (number q) (Some temporary)) (number t)) e (entry-at src q t (Some temporary) same (within-table src (number q) p f)))

-- a source that is put aside stands in front
pub rest-save : (src : Table) (p q : Place) (ms r : List Move) → source_at src (number q) ≡ Some p → p ≢ temporary → AreApart ms → HasTarget ms (number q) → StandForRest (set src (number q) (Some temporary)) ms r → StandForRest src ms ((p, temporary) ∷ r)
rest-save src p q os v f n a x inner.none = absurd x
rest-save src p q os v f n a x (inner.finished {s} {t} {ms} {r} e d) =
    let ne : t ≡ q → ⊥ = not-finished src q t temporary (within-table src (number q) p f) e in
    inner.finished (entry-not-at src q t (Some temporary) None ne e) (rest-save src p q ms r f n a.1 (tail-target ms s t q ne x) d)
rest-save src p q os v f n a x (inner.once {s} {t} {w} {ms} b c e d) =
    once-in-front src p q s t w ms b c f n a.0 e d (λ ne. rest-save src p q ms (b ++ c) f n a.1 (tail-target ms s t q ne x) d) (cases_place t q)
rest-save src p q os v f n a x (inner.around {s} {t} {w} {ms} b c g e m d) =
    let ne : t ≡ q → ⊥ = around-elsewhere src p q t w f e m in
    inner.around ((p, temporary) ∷ b) c g (entry-not-at src q t (Some temporary) (Some w) ne e) m (rest-save src p q ms (b ++ (c ++ g)) f n a.1 (tail-target ms s t q ne x) d)

-- nothing is pending any more
pub rest-none : (src : Table) (ms : List Move) → ((k : ℕ) → source_at src k ≡ None) → StandForRest src ms []
rest-none src [] h = inner.none
rest-none src ((s, t) ∷ ms) h = inner.finished (h (number t)) (rest-none src ms h)

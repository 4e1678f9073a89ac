-- What is pending and what is done still come to all the moves, after each step.
use Rattle.std.proofs.Common.{◌≡◌, ◌≢◌, ℕ, zero, suc, ◌+◌, ◌<◌, ◌-◌, true, nat_eq, ◌⊎◌, Option, Some, None, is_some, List, [], ◌∷◌, ◌++◌, length, get_or, set, slice_index, replicate, IfSome, refl, sym, ap, subst, ◌∙◌, inl, inr, ⊎_elim, append_assoc, arith}
use Rattle.std.proofs.lemmas.Bool.{eq-eqb, ne_eqb, false≢true, cases_eq}
use Rattle.std.proofs.lemmas.List.{get_or-set_same, get_or-set_other, length-set, length-replicate, get_or-replicate}
use Rattle.place_plan.specs.declared.place.Place.{Place}
use Rattle.ucode_emit.specs.Moves.{Move, Words, temporary, put, one_by_one, StandFor}
use Rattle.ucode_emit.specs.inner.Pending.{number, numbers, Table, source_at, reads, readings, pending_count, AreApart, word_from, Counted, Stands}
use Rattle.ucode_emit.proofs.Counts.{one_if, count-cons, count-set, read-by-one, within-table}
use Rattle.ucode_emit.proofs.MoveSteps.{one_by_one-push, put-same, put-other, cases_place, entry-same, entry-other, other-number, none-is-no-some, pending-some, some-injective, rest-run, rest-save}

-- ---- counts after a change

pub count-gone : (src : Table) (i : ℕ) (p : Place) → source_at src i ≡ Some p → pending_count (set src i None) + 1 ≡ pending_count src
count-gone src i p e =
    let c = count-set is_some src i None None (within-table src i p e) in
    let one : one_if (is_some (get_or src i None)) ≡ 1 = ap (λ (o : Option Place). one_if (is_some o)) e in
    omega arith

pub count-saved : (src : Table) (i : ℕ) (p q : Place) → source_at src i ≡ Some p → pending_count (set src i (Some q)) ≡ pending_count src
count-saved src i p q e =
    let c = count-set is_some src i (Some q) None (within-table src i p e) in
    let one : one_if (is_some (get_or src i None)) ≡ 1 = ap (λ (o : Option Place). one_if (is_some o)) e in
    omega arith

pub readings-gone : (src : Table) (i k : ℕ) (p : Place) → source_at src i ≡ Some p → readings (set src i None) k + one_if (nat_eq (number p) k) ≡ readings src k
readings-gone src i k p e =
    let c = count-set (reads k) src i None None (within-table src i p e) in
    let one : one_if (reads k (get_or src i None)) ≡ one_if (nat_eq (number p) k) = ap (λ (o : Option Place). one_if (reads k o)) e in
    omega arith

pub readings-saved : (src : Table) (i k : ℕ) (p q : Place) → source_at src i ≡ Some p → readings (set src i (Some q)) k + one_if (nat_eq (number p) k) ≡ readings src k + one_if (nat_eq (number q) k)
readings-saved src i k p q e =
    let c = count-set (reads k) src i (Some q) None (within-table src i p e) in
    let one : one_if (reads k (get_or src i None)) ≡ one_if (nat_eq (number p) k) = ap (λ (o : Option Place). one_if (reads k o)) e in
    omega arith

pub readings-added : (src : Table) (i k : ℕ) (q : Place) → i < length src → source_at src i ≡ None → readings (set src i (Some q)) k ≡ readings src k + one_if (nat_eq (number q) k)
readings-added src i k q h e =
    let c = count-set (reads k) src i (Some q) None h in
    let none : one_if (reads k (get_or src i None)) ≡ 0 = ap (λ (o : Option Place). one_if (reads k o)) e in
    omega arith

pub count-added : (src : Table) (i : ℕ) (q : Place) → i < length src → source_at src i ≡ None → pending_count (set src i (Some q)) ≡ pending_count src + 1
count-added src i q h e =
    let c = count-set is_some src i (Some q) None h in
    let none : one_if (is_some (get_or src i None)) ≡ 0 = ap (λ (o : Option Place). one_if (is_some o)) e in
    omega arith

pub one-at : (n k : ℕ) → n ≡ k → one_if (nat_eq n k) ≡ 1
one-at n k e = ap one_if (eq-eqb n k e)

pub none-at : (n k : ℕ) → (n ≡ k → ⊥) → one_if (nat_eq n k) ≡ 0
none-at n k h = ap one_if (ne_eqb n k h)

-- the readers' table stays right where a pending move is taken away
pub counted-gone : (src : Table) (rds : List ℕ) (i : ℕ) (p : Place) → Counted src rds → number p < numbers → source_at src i ≡ Some p → Counted (set src i None) (set rds (number p) (slice_index rds (number p) - 1))
counted-gone src rds i p c w e =
    record {
      sources = length-set src i None ∙ c.sources;
      readers = length-set rds (number p) (slice_index rds (number p) - 1) ∙ c.readers;
      counts = λ k h. ⊎_elim
          (λ (same : number p ≡ k).
          let here : slice_index (set rds (number p) (slice_index rds (number p) - 1)) k ≡ slice_index rds (number p) - 1 = ap (λ n. slice_index (set rds (number p) (slice_index rds (number p) - 1)) n) (sym same) ∙ get_or-set_same rds (number p) (slice_index rds (number p) - 1) 0 (omega (arith, c.readers)) in
          let was : slice_index rds (number p) ≡ readings src k = c.counts (number p) w ∙ ap (λ n. readings src n) same in
          let fewer = readings-gone src i k p e in
          let one = one-at (number p) k same in
          omega arith)
          (λ (ne : number p ≡ k → ⊥).
          let here : slice_index (set rds (number p) (slice_index rds (number p) - 1)) k ≡ slice_index rds k = get_or-set_other rds (number p) k (slice_index rds (number p) - 1) 0 (λ f. ne (sym f)) in
          let was = c.counts k h in
          let fewer = readings-gone src i k p e in
          let none = none-at (number p) k ne in
          omega arith)
          (cases_eq (number p) k);
    }

-- and where one is added
pub counted-added : (src : Table) (rds : List ℕ) (i : ℕ) (p : Place) → Counted src rds → number p < numbers → i < numbers → source_at src i ≡ None → Counted (set src i (Some p)) (set rds (number p) (slice_index rds (number p) + 1))
counted-added src rds i p c w wi e =
    record {
      sources = length-set src i (Some p) ∙ c.sources;
      readers = length-set rds (number p) (slice_index rds (number p) + 1) ∙ c.readers;
      counts = λ k h. ⊎_elim
          (λ (same : number p ≡ k).
          let here : slice_index (set rds (number p) (slice_index rds (number p) + 1)) k ≡ slice_index rds (number p) + 1 = ap (λ n. slice_index (set rds (number p) (slice_index rds (number p) + 1)) n) (sym same) ∙ get_or-set_same rds (number p) (slice_index rds (number p) + 1) 0 (omega (arith, c.readers)) in
          let was : slice_index rds (number p) ≡ readings src k = c.counts (number p) w ∙ ap (λ n. readings src n) same in
          let more' = readings-added src i k p (omega (arith, c.sources)) e in
          let one = one-at (number p) k same in
          omega arith)
          (λ (ne : number p ≡ k → ⊥).
          let here : slice_index (set rds (number p) (slice_index rds (number p) + 1)) k ≡ slice_index rds k = get_or-set_other rds (number p) k (slice_index rds (number p) + 1) 0 (λ f. ne (sym f)) in
          let was = c.counts k h in
          let more' = readings-added src i k p (omega (arith, c.sources)) e in
          let none = none-at (number p) k ne in
          omega arith)
          (cases_eq (number p) k);
    }

-- ---- what is pending and what is done

gone-or-same : (src : Table) (i k : ℕ) (p : Place) → source_at src i ≡ Some p → (source_at (set src i None) k ≡ source_at src k) ⊎ (source_at (set src i None) k ≡ None)
gone-or-same src i k p e = ⊎_elim
    (λ (same : k ≡ i). inr (ap (λ n. source_at (set src i None) n) same ∙ entry-same src i None (within-table src i p e)))
    (λ (ne : k ≡ i → ⊥). inl (entry-other src i k None ne))
    (cases_eq k i)

pub pending-before : (o o' : Option Place) → (o' ≡ o) ⊎ (o' ≡ None) → is_some o' ≡ true → is_some o ≡ true
pending-before o o' (inl e) h = ap is_some (sym e) ∙ h
pending-before o o' (inr e) h = absurd (false≢true (ap is_some (sym e) ∙ h))

source-before : (o o' : Option Place) (p : Place) → (o' ≡ o) ⊎ (o' ≡ None) → o' ≡ Some p → o ≡ Some p
source-before o o' p (inl e) h = sym e ∙ h
source-before o o' p (inr e) h = absurd (none-is-no-some o' p e h)

-- the word of a place is the same after a step, where what it will be moved from isn't written
word-kept : (f g : Words) (q : Place) (o : Option Place) → g q ≡ f q → ((p : Place) → o ≡ Some p → g p ≡ f p) → word_from g q o ≡ word_from f q o
word-kept f g q None e h = e
word-kept f g q (Some p) e h = h p refl

-- a place that nothing reads is no source
pub not-read : (src : Table) (k i : ℕ) (p : Place) → readings src k ≡ 0 → source_at src i ≡ Some p → number p ≡ k → ⊥
not-read src k i p z e same =
    let one = read-by-one src i p (within-table src i p e) e in
    let here : readings src (number p) ≡ 0 = ap (λ n. readings src n) same ∙ z in
    omega arith

run-word : (src : Table) (p t q : Place) (f : Words) → source_at src (number t) ≡ Some p → readings src (number t) ≡ 0 → (q ≡ t) ⊎ (q ≡ t → ⊥)
    → word_from (put f t (f p)) q (source_at (set src (number t) None) (number q)) ≡ word_from f q (source_at src (number q))
run-word src p t q f e z (inl same) =
    let gone : source_at (set src (number t) None) (number q) ≡ None = ap (λ (y : Place). source_at (set src (number t) None) (number y)) same ∙ entry-same src (number t) None (within-table src (number t) p e) in
    let there : source_at src (number q) ≡ Some p = ap (λ (y : Place). source_at src (number y)) same ∙ e in
    ap (λ (o : Option Place). word_from (put f t (f p)) q o) gone ∙ put-same f t q (f p) same ∙ sym (ap (λ (o : Option Place). word_from f q o) there)
run-word src p t q f e z (inr ne) =
    ap (λ (o : Option Place). word_from (put f t (f p)) q o) (entry-other src (number t) (number q) None (other-number q t ne))
    ∙ word-kept f (put f t (f p)) q (source_at src (number q)) (put-other f t q (f p) ne) (λ w g. put-other f t w (f p) (λ h. not-read src (number t) (number q) w z g (ap number h)))

save-word : (src : Table) (p t q : Place) (f : Words) → source_at src (number t) ≡ Some p → readings src (number temporary) ≡ 0 → q ≢ temporary → (q ≡ t) ⊎ (q ≡ t → ⊥)
    → word_from (put f temporary (f p)) q (source_at (set src (number t) (Some temporary)) (number q)) ≡ word_from f q (source_at src (number q))
save-word src p t q f e z n (inl same) =
    let aside : source_at (set src (number t) (Some temporary)) (number q) ≡ Some temporary = ap (λ (y : Place). source_at (set src (number t) (Some temporary)) (number y)) same ∙ entry-same src (number t) (Some temporary) (within-table src (number t) p e) in
    let there : source_at src (number q) ≡ Some p = ap (λ (y : Place). source_at src (number y)) same ∙ e in
    ap (λ (o : Option Place). word_from (put f temporary (f p)) q o) aside ∙ put-same f temporary temporary (f p) refl ∙ sym (ap (λ (o : Option Place). word_from f q o) there)
save-word src p t q f e z n (inr ne) =
    ap (λ (o : Option Place). word_from (put f temporary (f p)) q o) (entry-other src (number t) (number q) (Some temporary) (other-number q t ne))
    ∙ word-kept f (put f temporary (f p)) q (source_at src (number q)) (put-other f temporary q (f p) n) (λ w g. put-other f temporary w (f p) (λ h. not-read src (number temporary) (number q) w z g (ap number h)))

-- a move is done
pub stands-run : (ms : List Move) (src : Table) (done : List Move) (p t : Place) → AreApart ms → Stands ms src done → source_at src (number t) ≡ Some p → readings src (number t) ≡ 0 → Stands ms (set src (number t) None) (done ++ (p, t) ∷ [])
stands-run ms src done p t a st e z =
    record {
      goes = λ k h. st.goes k (pending-before (source_at src k) (source_at (set src (number t) None) k) (gone-or-same src (number t) k p e) h);
      apart = λ q s h. st.apart q s (source-before (source_at src (number q)) (source_at (set src (number t) None) (number q)) s (gone-or-same src (number t) (number q) p e) h);
      effect = λ f q n.
          ap (λ (g : Words). word_from g q (source_at (set src (number t) None) (number q))) (one_by_one-push done (p, t) f)
          ∙ run-word src p t q (one_by_one done f) e z (cases_place q t) ∙ st.effect f q n;
      moves = λ r d. subst (λ (l : List Move). StandFor ms l) (sym (append_assoc done ((p, t) ∷ []) r)) (st.moves ((p, t) ∷ r) (rest-run src p t ms r e a (st.goes (number t) (pending-some src (number t) p e)) d));
    }

saved-pending : (src : Table) (i k : ℕ) (p q : Place) → source_at src i ≡ Some p → is_some (source_at (set src i (Some q)) k) ≡ true → is_some (source_at src k) ≡ true
saved-pending src i k p q e h = ⊎_elim
    (λ (same : k ≡ i). ap (λ n. is_some (source_at src n)) same ∙ ap is_some e)
    (λ (ne : k ≡ i → ⊥). ap is_some (sym (entry-other src i k (Some q) ne)) ∙ h)
    (cases_eq k i)

saved-apart : (src : Table) (p t q s : Place) → source_at src (number t) ≡ Some p → temporary ≢ t → ((s' : Place) → source_at src (number q) ≡ Some s' → s' ≢ q) → source_at (set src (number t) (Some temporary)) (number q) ≡ Some s → (q ≡ t) ⊎ (q ≡ t → ⊥) → s ≢ q
saved-apart src p t q s e n h g (inl same) =
    let aside : source_at (set src (number t) (Some temporary)) (number q) ≡ Some temporary = ap (λ (y : Place). source_at (set src (number t) (Some temporary)) (number y)) same ∙ entry-same src (number t) (Some temporary) (within-table src (number t) p e) in
    let is : temporary ≡ s = some-injective temporary s (source_at (set src (number t) (Some temporary)) (number q)) aside g in
    λ bad. n (is ∙ bad ∙ same)
saved-apart src p t q s e n h g (inr ne) = h s (sym (entry-other src (number t) (number q) (Some temporary) (other-number q t ne)) ∙ g)

-- a source is put aside
pub stands-save : (ms : List Move) (src : Table) (done : List Move) (p t : Place) → AreApart ms → Stands ms src done → source_at src (number t) ≡ Some p → temporary ≢ t → readings src (number temporary) ≡ 0 → Stands ms (set src (number t) (Some temporary)) (done ++ (p, temporary) ∷ [])
stands-save ms src done p t a st e n z =
    record {
      goes = λ k h. st.goes k (saved-pending src (number t) k p temporary e h);
      apart = λ q s h. saved-apart src p t q s e n (st.apart q) h (cases_place q t);
      effect = λ f q m.
          ap (λ (g : Words). word_from g q (source_at (set src (number t) (Some temporary)) (number q))) (one_by_one-push done (p, temporary) f)
          ∙ save-word src p t q (one_by_one done f) e z m (cases_place q t) ∙ st.effect f q m;
      moves = λ r d. subst (λ (l : List Move). StandFor ms l) (sym (append_assoc done ((p, temporary) ∷ []) r)) (st.moves ((p, temporary) ∷ r) (rest-save src p t ms r e (λ h. not-read src (number temporary) (number t) p z e (ap number h)) a (st.goes (number t) (pending-some src (number t) p e)) d));
    }

-- ---- the same, for tables that are given by equations

pub counted-add : (src src' : Table) (rds rds' : List ℕ) (i : ℕ) (p : Place) → Counted src rds → number p < numbers → i < numbers → source_at src i ≡ None → src' ≡ set src i (Some p) → rds' ≡ set rds (number p) (slice_index rds (number p) + 1) → Counted src' rds'
counted-add src src' rds rds' i p c w wi e f g =
    subst (λ (a : Table). Counted a rds') (sym f) (subst (λ (b : List ℕ). Counted (set src i (Some p)) b) (sym g) (counted-added src rds i p c w wi e))

pub counted-take : (src src' : Table) (rds rds' : List ℕ) (i : ℕ) (p : Place) → Counted src rds → number p < numbers → source_at src i ≡ Some p → src' ≡ set src i None → rds' ≡ set rds (number p) (slice_index rds (number p) - 1) → Counted src' rds'
counted-take src src' rds rds' i p c w e f g =
    subst (λ (a : Table). Counted a rds') (sym f) (subst (λ (b : List ℕ). Counted (set src i None) b) (sym g) (counted-gone src rds i p c w e))

blank-entry : (n k : ℕ) → source_at (replicate n None) k ≡ None
blank-entry zero k = refl
blank-entry (suc n) zero = refl
blank-entry (suc n) (suc k) = blank-entry n k

blank-readings : (n k : ℕ) → readings (replicate n None) k ≡ 0
blank-readings zero k = refl
blank-readings (suc n) k = count-cons (reads k) None (replicate n None) ∙ (let rest = blank-readings n k in omega arith)

blank-count : (n : ℕ) → pending_count (replicate n None) ≡ 0
blank-count zero = refl
blank-count (suc n) = count-cons is_some None (replicate n None) ∙ (let rest = blank-count n in omega arith)

pub none-in : (src : Table) (n : ℕ) → src ≡ replicate n None → (k : ℕ) → source_at src k ≡ None
none-in src n e k = ap (λ (s : Table). source_at s k) e ∙ blank-entry n k

pub none-counted : (src : Table) (n : ℕ) → src ≡ replicate n None → pending_count src ≡ 0
none-counted src n e = ap (λ (s : Table). pending_count s) e ∙ blank-count n

pub counted-blank : (src : Table) (rds : List ℕ) (n : ℕ) → n ≡ numbers → src ≡ replicate n None → rds ≡ replicate n 0 → Counted src rds
counted-blank src rds n w e f = record {
  sources = ap length e ∙ length-replicate n None ∙ w;
  readers = ap length f ∙ length-replicate n 0 ∙ w;
  counts = λ k h. ap (λ (r : List ℕ). slice_index r k) f ∙ get_or-replicate n k 0 0 (omega arith) ∙ sym (ap (λ (s : Table). readings s k) e ∙ blank-readings n k);
}

pub if-some : (o : Option Place) (P : Type 0) → P → IfSome o (λ (x : Place). P)
if-some None P h = tt
if-some (Some x) P h = h

-- How a pass shows that two meanings are the same.
use Rattle.std.proofs.Common.{◌≡◌, ℕ, zero, suc, ◌+◌, ◌-◌, ◌≤◌, List, [], ◌++◌, refl, sym, ap, subst, ◌∙◌, ◌⊎◌, inl, inr, ⊎_elim, append_assoc, arith}
use Rattle.std.proofs.lemmas.List.{append-nil}
use Rattle.std.proofs.lemmas.Bool.{cases_lt}
use Rattle.std.proofs.lemmas.List.Elements.{filter-append}
use Rattle.nv_base.specs.declared.outcome.Outcome.{Outcome}
use Rattle.nv_base.specs.declared.outcome.Outcome.TheVariants.{Ended, Raised, Fault, Going}
use Rattle.nv_base.specs.declared.outcome.Write.{Write}
use Rattle.nv_base.specs.Memories.{Memories, HasSizes}
use Rattle.nv_base.specs.Meanings.{FullOutcome, Meaning, Same, IsOver, IsPrefix, KeepsOutcomes, AreEqual, AreArguments, left_by, seen, source_writes, is_source_write}
use Rattle.nv_base.specs.Progress.{Before, IsSimulatedBy, IsMonotone, IsMatchedBy, FollowsAll}

pub prefix-refl : (a : List Write) → IsPrefix a a
prefix-refl a = ([], sym (append-nil a))

pub prefix-trans : (a b c : List Write) → IsPrefix a b → IsPrefix b c → IsPrefix a c
prefix-trans a b c p q = (p.0 ++ q.0, q.1 ∙ ap (λ x. x ++ q.0) p.1 ∙ append_assoc a p.0 q.0)

pub prefix-equal : (a b : List Write) → a ≡ b → IsPrefix a b
prefix-equal a b e = subst (λ c. IsPrefix a c) e (prefix-refl a)

-- what comes behind does not matter to a prefix
pub prefix-more : (a b : List Write) → IsPrefix a (a ++ b)
prefix-more a b = (b, refl)

-- the same writes in front of both
pub prefix-behind : (front a b : List Write) → IsPrefix a b → IsPrefix (front ++ a) (front ++ b)
prefix-behind front a b p = (p.0, ap (λ l. front ++ l) p.1 ∙ sym (append_assoc front a p.0))

-- a prefix stays one where the compiler's writes are left out
pub prefix-seen : (a b : List Write) → IsPrefix a b → IsPrefix (source_writes a) (source_writes b)
prefix-seen a b p = (source_writes p.0, ap source_writes p.1 ∙ filter-append (λ w. is_source_write w.mem w.at) a p.0)

pub over-along : (f g : FullOutcome) → seen f ≡ seen g → IsOver f.outcome → IsOver g.outcome
over-along f g e over = subst IsOver (ap (λ (h : FullOutcome). h.outcome) e) over

pub over-not-going : (o : Outcome) → IsOver o → o ≡ Going → ⊥
over-not-going o over e = subst IsOver e over

-- a run is over, or it goes on
pub over-or-going : (o : Outcome) → IsOver o ⊎ (o ≡ Going)
over-or-going (Ended ws) = inl tt
over-or-going (Raised k ws) = inl tt
over-or-going (Fault m at) = inl tt
over-or-going Going = inr refl

-- how a pass shows that one moment is before another
pub before-refl : (f : FullOutcome) → Before f f
before-refl f = inl refl

pub before-equal : (f g : FullOutcome) → f ≡ g → Before f g
before-equal f g e = inl (ap seen e)

pub before-going : (f g : FullOutcome) → f.outcome ≡ Going → IsPrefix f.writes g.writes → Before f g
before-going f g going p = inr (going, prefix-seen f.writes g.writes p)

pub before-prefix : (f g : FullOutcome) → Before f g → IsPrefix (seen f).writes (seen g).writes
before-prefix f g (inl e) = prefix-equal _ _ (ap (λ (h : FullOutcome). h.writes) e)
before-prefix f g (inr p) = p.1

pub before-over : (f g : FullOutcome) → Before f g → IsOver f.outcome → seen f ≡ seen g
before-over f g (inl e) over = e
before-over f g (inr p) over = absurd (over-not-going f.outcome over p.0)

pub before-trans : (f g h : FullOutcome) → Before f g → Before g h → Before f h
before-trans f g h (inl e) (inl e') = inl (e ∙ e')
before-trans f g h (inl e) (inr q) = inr (ap (λ (k : FullOutcome). k.outcome) e ∙ q.0, subst (λ (k : FullOutcome). IsPrefix k.writes (seen h).writes) (sym e) q.1)
before-trans f g h (inr p) q = inr (p.0, prefix-trans _ _ _ p.1 (before-prefix g h q))

-- a moment that is seen like the first
pub before-first : (f f' g : FullOutcome) → seen f ≡ seen f' → Before f' g → Before f g
before-first f f' g e q = before-trans f f' g (inl e) q

-- a moment that is seen like the second
pub before-second : (f g g' : FullOutcome) → Before f g → seen g ≡ seen g' → Before f g'
before-second f g g' q e = before-trans f g g' q (inl e)

-- from each step to the next is enough to grow
pub monotone_by_steps : (m : Meaning) → ((i : ℕ) → Before (m i) (m (suc i))) → IsMonotone m
monotone_by_steps m step = λ i j le. grows-by m step (j - i) i j (omega arith)
  where
    grows-by : (m : Meaning) → ((i : ℕ) → Before (m i) (m (suc i))) → (k i j : ℕ) → j ≡ i + k → Before (m i) (m j)
    grows-by m step zero i j e = let same : i ≡ j = omega arith in before-equal (m i) (m j) (ap m same)
    grows-by m step (suc k) i j e =
        let next : suc (i + k) ≡ j = omega arith in
        before-trans (m i) (m (i + k)) (m j) (grows-by m step k i (i + k) refl) (before-second (m (i + k)) (m (suc (i + k))) (m j) (step (i + k)) (ap (λ x. seen (m x)) next))

-- each gets as far as the other
pub same_from : (m n : Meaning) → IsSimulatedBy m n → IsSimulatedBy n m → Same m n
same_from m n f g = record {
  ends = λ i over. let a = f i in (a.0, before-over (m i) (n a.0) a.1 over);
  ends_only = λ j over. let a = g j in (a.0, sym (before-over (n j) (m a.0) a.1 over));
  writes = λ i. let a = f i in (a.0, before-prefix (m i) (n a.0) a.1);
  writes_only = λ j. let a = g j in (a.0, before-prefix (n j) (m a.0) a.1);
}

-- they are seen alike at each number
pub same_seen : (m n : Meaning) → ((i : ℕ) → seen (m i) ≡ seen (n i)) → Same m n
same_seen m n e = same_from m n (λ i. (i, inl (e i))) (λ i. (i, inl (sym (e i))))

-- they are equal at each number
pub same_equal : (m n : Meaning) → ((i : ℕ) → m i ≡ n i) → Same m n
same_equal m n e = same_seen m n (λ i. ap seen (e i))

-- the second comes to where the first is, equal to it in all
pub lands_at : (m n : Meaning) → ((i : ℕ) → (j : ℕ) × ((m i).outcome ≡ Going → i ≤ j) × (n j ≡ m i)) → IsMatchedBy m n
lands_at m n f = λ i. let a = f i in (a.0, a.1, ap seen a.2)

lands-back : (m n : Meaning) → IsMonotone n → (i j : ℕ) → ((m i).outcome ≡ Going → i ≤ j) → seen (n j) ≡ seen (m i) → Before (n i) (m i)
lands-back m n grows i j far e =
    ⊎_elim
    (λ less. ⊎_elim
    (λ (over : IsOver (m i).outcome). inl (sym (before-over (n j) (n i) (grows j i (omega arith)) (over-along (m i) (n j) (sym e) over)) ∙ e))
    (λ (going : (m i).outcome ≡ Going). absurd (let le = far going in omega arith))
    (over-or-going (m i).outcome))
    (λ least. before-second (n i) (n j) (m i) (grows i j least) e)
    (cases_lt j i)

-- the second follows the first, and grows
pub same_lands : (m n : Meaning) → IsMatchedBy m n → IsMonotone n → Same m n
same_lands m n f grows =
    same_from m n
    (λ i. let a = f i in (a.0, inl (sym a.2)))
    (λ i. let a = f i in (i, lands-back m n grows i a.0 a.1 a.2))

pub same-refl : (m : Meaning) → Same m m
same-refl m = same_seen m m (λ i. refl)

pub same-sym : (m n : Meaning) → Same m n → Same n m
same-sym m n s = record {
  ends = λ j over. let a = s.ends_only j over in (a.0, sym a.1);
  ends_only = λ i over. let a = s.ends i over in (a.0, sym a.1);
  writes = s.writes_only;
  writes_only = s.writes;
}

pub same-trans : (m n k : Meaning) → Same m n → Same n k → Same m k
same-trans m n k s t = record {
  ends = λ h over.
      let r = s.ends h over in
      let q = t.ends r.0 (over-along (m h) (n r.0) r.1 over) in
      (q.0, r.1 ∙ q.1);
  ends_only = λ h over.
      let q = t.ends_only h over in
      let r = s.ends_only q.0 (over-along (k h) (n q.0) (sym q.1) over) in
      (r.0, r.1 ∙ q.1);
  writes = λ h. let r = s.writes h in let q = t.writes r.0 in (q.0, prefix-trans _ _ _ r.1 q.1);
  writes_only = λ h. let q = t.writes_only h in let r = s.writes_only q.0 in (r.0, prefix-trans _ _ _ q.1 r.1);
}

pub keeps-trans : (a b c : ℕ) (m n k : List ℕ → Memories → Meaning) → KeepsOutcomes a b m n → KeepsOutcomes b c n k → KeepsOutcomes a c m k
keeps-trans a b c m n k s t = record {
  arguments = s.arguments ∙ t.arguments;
  same = λ args p fit sizes. same-trans _ _ _ (s.same args p fit sizes) (t.same args p (subst (λ x. AreArguments x args) s.arguments fit) sizes);
}

-- equal within each number of steps
pub keeps-equal : (params : ℕ) (m n : List ℕ → Memories → Meaning) → AreEqual params m n → KeepsOutcomes params params m n
keeps-equal params m n e = record { arguments = refl; same = λ args p a h. same_equal (m args p) (n args p) (e args p a h) }

pub follows-equal : (params : ℕ) (m n : List ℕ → Memories → Meaning) (args : List ℕ) (p : Memories) → AreEqual params m n → AreArguments params args → HasSizes p → FollowsAll p (n args p) → FollowsAll p (m args p)
follows-equal params m n args p e a h follows = λ i.
    ap (λ (f : FullOutcome). f.packet) (e args p a h i) ∙ follows i ∙ sym (ap (λ (f : FullOutcome). left_by f.writes p) (e args p a h i))

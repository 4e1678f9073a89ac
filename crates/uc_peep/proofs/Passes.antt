-- A pass, place by place.
use Rattle.std.proofs.Common.{◌≡◌, ◌≢◌, ℕ, suc, ◌+◌, ◌-◌, ◌<◌, ◌≤◌, ◌⊎◌, inl, inr, ⊎_elim, Bool, true, false, List, ◌++◌, length, get_or, set, Some, None, take, drop, refl, sym, ap, ◌∙◌, subst, arith, length-set, get_or-set_same, get_or-set_other, nat_eq}
use Rattle.std.specs.Prelude.{slice_get}
use Rattle.std.proofs.lemmas.Bool.Decides.{eqb_tells}
use Rattle.std.proofs.lemmas.Bool.{false≢true, cases_lt}
use Rattle.std.proofs.lemmas.Option.{slice_get-get_or, get_or_from_slice_get}
use Rattle.uc_isa.specs.declared.instruction.Instr.{Instr}
use Rattle.uc_peep.proofs.Replaced.{IsReplacement, Zone, all-at, drafted', entry, filler-lawful, next-cases, same-some, straight-lawful, zone}
use Rattle.uc_peep.specs.Draft.{IsDraft, IsMarks, IsPassed, IsPassing, IsPut, IsRefreshed, MayReplace}
use Rattle.uc_peep.specs.Rewrites.{Answers, Rewrites}
use Rattle.uc_peep.specs.Rewrites.Rewrites.{Same, Replaced, InTurn}
use Rattle.uc_peep.proofs.Splits.{all-kept, put-splits}
use Rattle.uc_peep.specs.Kept.{is_gone, kept_of}
use Rattle.uc_peep.specs.Liveness.{Covers, IsLiveBefore, IsClosed}
use Rattle.uc_peep.specs.Sets.{IsWithin, has}
use Rattle.uc_peep.specs.Window.{IsShorter, filler}
use Rattle.uc_isa.proofs.Lockstep.{alike-refl}
use Rattle.uc_isa.specs.Program.{IsFormed, IsLawfulWithin, IsProgram}
use Rattle.uc_isa.specs.Resources.{IsNext, IsResource, Resource}
use Rattle.uc_isa.specs.StraightCode.{GoesTo, IsStraight}

-- ---- sets after a replacement

pub closed-after : (draft draft' : List Instr) (sets sets' : List ℕ) (p k : ℕ) → 1 ≤ k → IsClosed draft sets → ((x : ℕ) → (x < p) ⊎ (p + k ≤ x) → slice_get draft' x ≡ slice_get draft x)
    → ((x y : ℕ) (i : Instr) → (x < p) ⊎ (p + k ≤ x) → slice_get draft x ≡ Some i → IsNext i x y → (y ≤ p) ⊎ (p + k ≤ y))
    → IsRefreshed draft' p k sets sets' → IsWithin (get_or sets' p 0) (get_or sets p 0) → IsClosed draft' sets'
closed-after draft draft' sets sets' p k some closed out entry fresh within x i at = by (zone p k x)
  where
    old-set : (y : ℕ) (s : Resource) → IsResource s → (y ≤ p) ⊎ (p + k ≤ y) → has (get_or sets' y 0) s ≡ true → has (get_or sets y 0) s ≡ true
    old-set y s h (inr past) t = ap (λ n. has n s) (sym (fresh.outside y (inr past))) ∙ t
    old-set y s h (inl upto) t = ⊎_elim
        (λ (lt : y < p). ap (λ n. has n s) (sym (fresh.outside y (inl lt))) ∙ t)
        (λ (le : p ≤ y). let e : y ≡ p = omega arith in ap (λ n. has (get_or sets n 0) s) e ∙ within s h (ap (λ n. has (get_or sets' n 0) s) (sym e) ∙ t))
        (cases_lt y p)

    by : Zone p k x → Covers i x sets' (get_or sets' x 0)
    by (inl o) =
        let old : Covers i x sets (get_or sets x 0) = closed x i (sym (out x o) ∙ at) in
        record {
          needs = λ s h t. ap (λ n. has n s) (fresh.outside x o) ∙ old.needs s h t;
          passes = λ s y h w n t. ap (λ n. has n s) (fresh.outside x o) ∙ old.passes s y h w n (old-set y s h (entry x y i o (sym (out x o) ∙ at) n) t);
        }
    by (inr (d, lt, e)) = fresh.inside x i (omega arith) (omega arith) at

-- sets of which one is given anew, and has no more than before
pub closed-renewed : (code : List Instr) (sets : List ℕ) (p b : ℕ) (d : Instr) → p < length sets → IsLiveBefore (get_or code p d) p sets b → IsWithin b (get_or sets p 0) → IsClosed code sets → IsClosed code (set sets p b)
closed-renewed code sets p b d inside needs_there within closed x i at = by (eqb_tells x p)
  where
    old-set : (y : ℕ) (s : Resource) → IsResource s → has (get_or (set sets p b) y 0) s ≡ true → has (get_or sets y 0) s ≡ true
    old-set y s h t = ⊎_elim
        (λ (e : (nat_eq y p ≡ true) × (y ≡ p)). ap (λ n. has (get_or sets n 0) s) e.1 ∙ within s h (ap (λ n. has n s) (sym (ap (λ n. get_or (set sets p b) n 0) e.1 ∙ get_or-set_same sets p b 0 inside)) ∙ t))
        (λ (e : (nat_eq y p ≡ false) × (y ≢ p)). ap (λ n. has n s) (sym (get_or-set_other sets p y b 0 e.1)) ∙ t)
        (eqb_tells y p)

    more : (new : ℕ) → Covers i x sets new → Covers i x (set sets p b) new
    more new old = record { needs = old.needs; passes = λ s y h w n t. old.passes s y h w n (old-set y s h t) }

    by : ((nat_eq x p ≡ true) × (x ≡ p)) ⊎ ((nat_eq x p ≡ false) × (x ≢ p)) → Covers i x (set sets p b) (get_or (set sets p b) x 0)
    by (inl e) =
        let new : get_or (set sets p b) x 0 ≡ b = ap (λ n. get_or (set sets p b) n 0) e.1 ∙ get_or-set_same sets p b 0 inside in
        let is : get_or code p d ≡ i = get_or_from_slice_get code p i d (ap (slice_get code) (sym e.1) ∙ at) in
        subst (Covers i x (set sets p b)) (sym new) (more b (subst (λ n. Covers i n sets b) (sym e.1) (subst (λ j. Covers j p sets b) is needs_there.covers)))
    by (inr e) = subst (Covers i x (set sets p b)) (sym (get_or-set_other sets p x b 0 e.1)) (more (get_or sets x 0) (closed x i at))

-- ---- a turn

module _ (answers : Answers) (code : List Instr) (starts : List ℕ) (entered started gone0 : List Bool) (sets0 : List ℕ) where
  pub turn-stays : (draft : List Instr) (gone : List Bool) (sets : List ℕ) (changed : Bool) (p : ℕ) → IsPassing answers code starts entered started gone0 sets0 draft gone sets changed (suc p)
      → ((k : ℕ) → 1 ≤ k → k < 5 → MayReplace draft gone entered started p k → answers (take k (drop p draft)) (get_or sets (p + k) 0) None)
      → IsPassing answers code starts entered started gone0 sets0 draft gone sets changed p
  turn-stays draft gone sets changed p h none = record {
    marks = h.marks;
    drafted = h.drafted;
    rewritten = h.rewritten;
    size_sets = h.size_sets;
    untouched = λ x lt. h.untouched x (omega arith);
    closed = h.closed;
    fewer = h.fewer;
    same = h.same;
    settled = λ still q k le inside some few may. ⊎_elim
        (λ (lt : p < q). h.settled still q k lt inside some few may)
        (λ (upto : q ≤ p).
        let e : q ≡ p = omega arith in
        let same = h.same still in
        here q k (same.0) (same.1) (same.2) e some few may)
        (cases_lt p q);
  }
    where
      here : (q k : ℕ) → draft ≡ code → gone ≡ gone0 → sets ≡ sets0 → q ≡ p → 1 ≤ k → k < 5 → MayReplace code gone0 entered started q k → answers (take k (drop q code)) (get_or sets0 (q + k) 0) None
      here q k a b d e some few may =
          subst (λ n. answers (take k (drop n code)) (get_or sets0 (n + k) 0) None) (sym e)
          (subst (λ l. answers (take k (drop p code)) (get_or l (p + k) 0) None) d
          (subst (λ l. answers (take k (drop p l)) (get_or sets (p + k) 0) None) a
          (none k some few (subst (λ l. MayReplace l gone entered started p k) (sym a) (subst (λ l. MayReplace code l entered started p k) (sym b) (subst (λ n. MayReplace code gone0 entered started n k) e may))))))

  -- the same where the sets are given anew
  pub turn-renews : (draft : List Instr) (gone : List Bool) (sets sets' : List ℕ) (changed : Bool) (p : ℕ) → IsPassing answers code starts entered started gone0 sets0 draft gone sets changed (suc p)
      → ((k : ℕ) → 1 ≤ k → k < 5 → MayReplace draft gone entered started p k → answers (take k (drop p draft)) (get_or sets (p + k) 0) None)
      → length sets' ≡ length sets → (IsClosed draft sets → IsClosed draft sets') → (changed ≡ false → sets' ≡ sets)
      → IsPassing answers code starts entered started gone0 sets0 draft gone sets' changed p
  turn-renews draft gone sets sets' changed p h none size closed keep =
      let a = turn-stays draft gone sets changed p h none in
      record {
        marks = a.marks;
        drafted = a.drafted;
        rewritten = a.rewritten;
        size_sets = size ∙ a.size_sets;
        untouched = a.untouched;
        closed = closed a.closed;
        fewer = a.fewer;
        same = λ e. let s = a.same e in (s.0, s.1, keep e ∙ s.2);
        settled = a.settled;
      }

  replacement : (draft draft' : List Instr) (gone gone' : List Bool) (sets : List ℕ) (changed : Bool) (p k : ℕ) (as' : List Instr) → IsPassing answers code starts entered started gone0 sets0 draft gone sets changed (suc p) → 1 ≤ k
      → MayReplace draft gone entered started p k → IsShorter (take k (drop p draft)) (get_or sets (p + k) 0) as' → IsPut p k as' draft draft' gone gone' → IsReplacement code starts entered started draft draft' gone gone' (get_or sets (p + k) 0) p k as'
  replacement draft draft' gone gone' sets changed p k as' h some may sh put = record { marks = h.marks; drafted = h.drafted; untouched = λ x lt. h.untouched x (omega arith); some = some; may = may; shorter = sh; put = put }

  turn-drafts : (draft draft' : List Instr) (gone gone' : List Bool) (sets : List ℕ) (changed : Bool) (p k : ℕ) (as' : List Instr) → IsPassing answers code starts entered started gone0 sets0 draft gone sets changed (suc p) → 1 ≤ k
      → MayReplace draft gone entered started p k → IsShorter (take k (drop p draft)) (get_or sets (p + k) 0) as' → IsPut p k as' draft draft' gone gone' → IsDraft code starts draft' gone' × ((x : ℕ) × (is_gone gone' x ≡ true))
  turn-drafts draft draft' gone gone' sets changed p k as' h some may sh put =
      let r = replacement draft draft' gone gone' sets changed p k as' h some may sh put in
      let few : length as' < k = Rattle.uc_peep.proofs.Replaced.few code starts entered started draft draft' gone gone' (get_or sets (p + k) 0) p k as' r in
      (drafted' code starts entered started draft draft' gone gone' (get_or sets (p + k) 0) p k as' r sets refl h.closed, (p + length as', (put.rest (length as') few (omega arith)).1))

  pub turn-rewrites : (draft draft' : List Instr) (gone gone' : List Bool) (sets : List ℕ) (changed : Bool) (p k : ℕ) (as' : List Instr) → IsPassing answers code starts entered started gone0 sets0 draft gone sets changed (suc p) → 1 ≤ k
      → MayReplace draft gone entered started p k → IsShorter (take k (drop p draft)) (get_or sets (p + k) 0) as' → answers (take k (drop p draft)) (get_or sets (p + k) 0) (Some as') → IsPut p k as' draft draft' gone gone' → Rewrites answers code (kept_of gone' draft')
  turn-rewrites draft draft' gone gone' sets changed p k as' h some may sh answer put =
      let r = replacement draft draft' gone gone' sets changed p k as' h some may sh put in
      let few : length as' < k = Rattle.uc_peep.proofs.Replaced.few code starts entered started draft draft' gone gone' (get_or sets (p + k) 0) p k as' r in
      let s = put-splits p k as' draft draft' gone gone' put (let a = h.drafted.size in let b = h.drafted.size_gone in omega arith) (let i = may.inside in omega arith) (omega arith) (λ d lt. (may.open_ (p + d) (omega arith) (omega arith)).0.kept) in
      InTurn code (kept_of gone draft) (kept_of gone' draft') h.rewritten
      (subst (λ l. Rewrites answers l (kept_of gone' draft')) (sym s.before_) (subst (λ l. Rewrites answers (s.front ++ (take k (drop p draft) ++ s.rest)) l) (sym s.after_) (Replaced s.front (take k (drop p draft)) as' s.rest (get_or sets (p + k) 0) answer)))

  pub turn-stops : (draft draft' : List Instr) (gone gone' : List Bool) (sets : List ℕ) (changed : Bool) (p k : ℕ) (as' : List Instr) → IsPassing answers code starts entered started gone0 sets0 draft gone sets changed (suc p) → 1 ≤ k
      → MayReplace draft gone entered started p k → IsShorter (take k (drop p draft)) (get_or sets (p + k) 0) as' → answers (take k (drop p draft)) (get_or sets (p + k) 0) (Some as') → IsPut p k as' draft draft' gone gone' → IsDraft code starts draft' gone' × ((x : ℕ) × (is_gone gone' x ≡ true)) × Rewrites answers code (kept_of gone' draft')
  turn-stops draft draft' gone gone' sets changed p k as' h some may sh answer put =
      let d = turn-drafts draft draft' gone gone' sets changed p k as' h some may sh put in
      (d.0, d.1, turn-rewrites draft draft' gone gone' sets changed p k as' h some may sh answer put)

  pub turn-changes : (draft draft' : List Instr) (gone gone' : List Bool) (sets sets' : List ℕ) (changed : Bool) (p k : ℕ) (as' : List Instr) → IsPassing answers code starts entered started gone0 sets0 draft gone sets changed (suc p) → 1 ≤ k
      → MayReplace draft gone entered started p k → IsShorter (take k (drop p draft)) (get_or sets (p + k) 0) as' → answers (take k (drop p draft)) (get_or sets (p + k) 0) (Some as') → IsPut p k as' draft draft' gone gone' → IsRefreshed draft' p k sets sets' → IsWithin (get_or sets' p 0) (get_or sets p 0)
      → IsPassing answers code starts entered started gone0 sets0 draft' gone' sets' true p
  turn-changes draft draft' gone gone' sets sets' changed p k as' h some may sh answer put fresh within =
      let r = replacement draft draft' gone gone' sets changed p k as' h some may sh put in
      let d = turn-drafts draft draft' gone gone' sets changed p k as' h some may sh put in
      record {
        marks = h.marks;
        drafted = d.0;
        rewritten = turn-rewrites draft draft' gone gone' sets changed p k as' h some may sh answer put;
        size_sets = fresh.size ∙ h.size_sets;
        untouched = λ x lt. (put.outside x (inl lt)).1 ∙ h.untouched x (omega arith);
        closed = closed-after draft draft' sets sets' p k some h.closed (λ x o. (put.outside x o).0) (entry code starts entered started draft draft' gone gone' (get_or sets (p + k) 0) p k as' r) fresh within;
        fewer = λ e. d.1;
        same = λ e. absurd (false≢true (sym e));
        settled = λ e. absurd (false≢true (sym e));
      }

  -- ---- the whole pass

  pub passing-starts : IsProgram code → IsMarks code starts entered started → length gone0 ≡ length code → length sets0 ≡ length code → ((x : ℕ) → is_gone gone0 x ≡ false) → IsClosed code sets0 → IsPassing answers code starts entered started gone0 sets0 code gone0 sets0 false (length code)
  passing-starts lawful marks size sizes kept closed = record {
    marks = marks;
    drafted = record {
      size = refl;
      size_gone = size;
      lawful = lawful;
      alike = λ e ms b. alike-refl code ms e;
      fillers = λ x g. absurd (false≢true (sym (kept x) ∙ g));
      old = λ x i k crooked at. at;
      stays = λ x i crooked at. (at, kept x);
      apart = λ s y pinned lt inside met. (s, omega arith, lt, kept s);
      moves = λ ws. omega arith;
    };
    rewritten = subst (λ l. Rewrites answers code l) (sym (all-kept gone0 code size kept)) (Same code);
    size_sets = sizes;
    untouched = λ x lt. kept x;
    closed = closed;
    fewer = λ e. absurd (false≢true e);
    same = λ e. (refl, refl, refl);
    settled = λ e q k le inside some few may. absurd (omega arith);
  }

  pub passing-ends : (draft : List Instr) (gone : List Bool) (sets : List ℕ) (changed : Bool) (p : ℕ) → p ≤ 0 → IsPassing answers code starts entered started gone0 sets0 draft gone sets changed p → IsPassed answers code starts entered started gone0 sets0 draft gone changed
  passing-ends draft gone sets changed p end' h = record {
    drafted = h.drafted;
    rewritten = h.rewritten;
    fewer = h.fewer;
    same = λ e. (h.same e).0;
    settled = λ e q k le inside some few may. h.settled e q k (omega arith) inside some few may;
  }

-- ---- sets given anew, from the last place to the first

pub record IsFresh (code : List Instr) (p k : ℕ) (sets sets' : List ℕ) (from : ℕ) : Type 0 where
  pub size : length sets' ≡ length sets
  pub least : p ≤ from
  pub most : from ≤ p + k
  pub outside : (x : ℕ) → (x < from) ⊎ (p + k ≤ x) → get_or sets' x 0 ≡ get_or sets x 0
  pub inside : (x : ℕ) (i : Instr) → from ≤ x → x < p + k → slice_get code x ≡ Some i → Covers i x sets' (get_or sets' x 0)

pub fresh-none : (code : List Instr) (p k : ℕ) (sets : List ℕ) → IsFresh code p k sets sets (p + k)
fresh-none code p k sets = record { size = refl; least = omega arith; most = omega arith; outside = λ x o. refl; inside = λ x i le lt. absurd (omega arith) }

covers-along : (i : Instr) (x y b : ℕ) (sets : List ℕ) (new : ℕ) → y < x → ((z : ℕ) → IsNext i x z → z ≡ x + 1) → Covers i x sets b → Covers i x (set sets y new) b
covers-along i x y b sets new lt ahead h = record {
  needs = h.needs;
  passes = λ s z spot w n t. h.passes s z spot w n (ap (λ m. has m s) (sym (get_or-set_other sets y z new 0 (λ e. let a = ahead z n in omega arith))) ∙ t);
}

pub fresh-more : (code : List Instr) (p k : ℕ) (sets sets' : List ℕ) (x b : ℕ) (d : Instr) → p < x → length sets ≡ length code → p + k ≤ length code
    → ((z y : ℕ) (i : Instr) → p ≤ z → z < p + k → slice_get code z ≡ Some i → IsNext i z y → y ≡ z + 1)
    → IsFresh code p k sets sets' x → IsLiveBefore (get_or code (x - 1) d) (x - 1) sets' b → IsFresh code p k sets (set sets' (x - 1) b) (x - 1)
fresh-more code p k sets sets' x b d lt size len ahead h needs_there =
    let within : x - 1 < length sets' = let a = h.size in let m = h.most in omega arith in
    let same : get_or (set sets' (x - 1) b) (x - 1) 0 ≡ b = get_or-set_same sets' (x - 1) b 0 within in
    record {
      size = length-set sets' (x - 1) b ∙ h.size;
      least = omega arith;
      most = let m = h.most in omega arith;
      outside = λ y o. get_or-set_other sets' (x - 1) y b 0 (apart y o) ∙ h.outside y (wide y o);
      inside = λ y i le less at. ⊎_elim
          (λ (above : x ≤ y). subst (λ n. Covers i y (set sets' (x - 1) b) n) (sym (get_or-set_other sets' (x - 1) y b 0 (λ e. omega arith)))
          (covers-along i y (x - 1) (get_or sets' y 0) sets' b (omega arith) (λ z n. ahead y z i (omega arith) less at n) (h.inside y i above less at)))
          (λ (below : y < x). let e : y ≡ x - 1 = omega arith in here y i e (get_or_from_slice_get code y i d at) (λ z n. ahead y z i (omega arith) less at n))
          (cases_ge y x);
    }
  where
    apart : (y : ℕ) → (y < x - 1) ⊎ (p + k ≤ y) → y ≢ x - 1
    apart y (inl a) e = omega arith
    apart y (inr a) e = let m = h.most in omega arith

    wide : (y : ℕ) → (y < x - 1) ⊎ (p + k ≤ y) → (y < x) ⊎ (p + k ≤ y)
    wide y (inl a) = inl (omega arith)
    wide y (inr a) = inr a

    cases_ge : (y x : ℕ) → (x ≤ y) ⊎ (y < x)
    cases_ge y x = ⊎_elim (λ (a : y < x). inr a) (λ (a : x ≤ y). inl a) (cases_lt y x)

    here : (y : ℕ) (i : Instr) → y ≡ x - 1 → get_or code y d ≡ i → ((z : ℕ) → IsNext i y z → z ≡ y + 1) → Covers i y (set sets' (x - 1) b) (get_or (set sets' (x - 1) b) y 0)
    here y i e is next =
        let within : x - 1 < length sets' = let a = h.size in let m = h.most in omega arith in
        let at : get_or (set sets' (x - 1) b) y 0 ≡ b = ap (λ n. get_or (set sets' (x - 1) b) n 0) e ∙ get_or-set_same sets' (x - 1) b 0 within in
        let cov : Covers i y sets' b = subst (λ j. Covers j y sets' b) is (subst (λ n. Covers (get_or code n d) n sets' b) (sym e) needs_there.covers) in
        subst (λ n. Covers i y (set sets' (x - 1) b) n) (sym at) (record {
          needs = cov.needs;
          passes = λ s z spot w n t. cov.passes s z spot w n (ap (λ m. has m s) (sym (get_or-set_other sets' (x - 1) z b 0 (λ f. let a = next z n in omega arith))) ∙ t);
        })

pub fresh-all : (code : List Instr) (p k : ℕ) (sets sets' : List ℕ) (x : ℕ) → x ≤ p → IsFresh code p k sets sets' x → IsRefreshed code p k sets sets'
fresh-all code p k sets sets' x end' h =
    let e : x ≡ p = let l = h.least in omega arith in
    record {
      size = h.size;
      outside = λ y o. h.outside y (subst (λ n. (y < n) ⊎ (p + k ≤ y)) (sym e) o);
      inside = λ y i le lt at. h.inside y i (omega arith) lt at;
    }

pub law-at : (code : List Instr) (sets : List ℕ) (x : ℕ) (d : Instr) → IsProgram code → length sets ≡ length code → x < length code → IsLawfulWithin (length sets) x (get_or code x d)
law-at code sets x d h size lt = subst (λ n. IsLawfulWithin n x (get_or code x d)) (sym size) (h.each x (get_or code x d) (slice_get-get_or code x d lt))

-- in a window that was replaced, each instruction leads to the next place
pub put-ahead : (p k : ℕ) (as' draft draft' : List Instr) (gone gone' : List Bool) → IsPut p k as' draft draft' gone gone' → ((d : ℕ) (i : Instr) → slice_get as' d ≡ Some i → IsStraight i)
    → (x y : ℕ) (i : Instr) → p ≤ x → x < p + k → slice_get draft' x ≡ Some i → IsNext i x y → y ≡ x + 1
put-ahead p k as' draft draft' gone gone' put straight x y i le lt at next =
    let e : x ≡ p + (x - p) = omega arith in
    ⊎_elim
    (λ (f : x - p < length as').
    let s : IsStraight i = straight (x - p) i (sym (put.first (x - p) (omega arith) f).0 ∙ ap (slice_get draft') (sym e) ∙ at) in
    ⊎_elim (λ (one : y ≡ x + 1). one) (λ (t : GoesTo i y × ¬ IsStraight i). absurd (t.1 s)) (next-cases i x y next))
    (λ (m : length as' ≤ x - p).
    let same : filler x ≡ i = same-some (filler x) i _ (ap (slice_get draft') e ∙ (put.rest (x - p) (omega arith) m).0 ∙ ap (λ n. Some (filler n)) (sym e)) at in
    let to : y ≡ suc x = subst (λ j. IsNext j x y) (sym same) next in
    let one : suc x ≡ x + 1 = omega arith in
    to ∙ one)
    (cases_lt (x - p) (length as'))

-- ---- lawful code stays lawful, whatever the rest of a draft

put-law : (draft draft' : List Instr) (gone gone' entered started : List Bool) (set p k : ℕ) (as' : List Instr) → IsProgram draft → MayReplace draft gone entered started p k → IsShorter (take k (drop p draft)) set as' → IsPut p k as' draft draft' gone gone' → (x : ℕ) (i : Instr) → Zone p k x → slice_get draft' x ≡ Some i → IsLawfulWithin (length draft') x i
put-law draft draft' gone gone' entered started set p k as' lawful may sh put x i (inl out) at = subst (λ n. IsLawfulWithin n x i) (sym put.size) (lawful.each x i (sym (put.outside x out).0 ∙ at))
put-law draft draft' gone gone' entered started set p k as' lawful may sh put x i (inr (d, lt, e)) at = ⊎_elim
    (λ (f : d < length as').
    let is : slice_get as' d ≡ Some i = sym (put.first d lt f).0 ∙ ap (slice_get draft') (sym e) ∙ at in
    straight-lawful (length draft') x i (all-at IsStraight as' d i sh.straight is) (all-at IsFormed as' d i sh.lawful is) (let size = put.size in let h = may.inside in omega arith))
    (λ (m : length as' ≤ d).
    let is : filler x ≡ i = same-some (filler x) i _ (ap (slice_get draft') e ∙ (put.rest d lt m).0 ∙ ap (λ n. Some (filler n)) (sym e)) at in
    subst (λ j. IsLawfulWithin (length draft') x j) is (filler-lawful (length draft') x (let size = put.size in let h = may.inside in omega arith)))
    (cases_lt d (length as'))

pub put-lawful : (draft draft' : List Instr) (gone gone' entered started : List Bool) (set p k : ℕ) (as' : List Instr) → IsProgram draft → MayReplace draft gone entered started p k → IsShorter (take k (drop p draft)) set as' → IsPut p k as' draft draft' gone gone' → IsProgram draft'
put-lawful draft draft' gone gone' entered started set p k as' lawful may sh put = record {
  some = let size = put.size in let h = lawful.some in omega arith;
  each = λ x i at. put-law draft draft' gone gone' entered started set p k as' lawful may sh put x i (zone p k x) at;
}

pub window-ahead : (draft draft' : List Instr) (gone gone' : List Bool) (p k set : ℕ) (as' : List Instr) → IsShorter (take k (drop p draft)) set as' → IsPut p k as' draft draft' gone gone' → (x y : ℕ) (i : Instr) → p ≤ x → x < p + k → slice_get draft' x ≡ Some i → IsNext i x y → y ≡ x + 1
window-ahead draft draft' gone gone' p k set as' sh put = put-ahead p k as' draft draft' gone gone' put (λ d i at. all-at IsStraight as' d i sh.straight at)

pub stopped-passed : (answers : Answers) (code : List Instr) (starts : List ℕ) (entered started gone0 : List Bool) (sets0 : List ℕ) (draft : List Instr) (gone : List Bool) → IsDraft code starts draft gone → (x : ℕ) × (is_gone gone x ≡ true) → Rewrites answers code (kept_of gone draft) → IsPassed answers code starts entered started gone0 sets0 draft gone true
stopped-passed answers code starts entered started gone0 sets0 draft gone d few rewritten = record {
  drafted = d;
  rewritten = rewritten;
  fewer = λ e. few;
  same = λ e. absurd (false≢true (sym e));
  settled = λ e. absurd (false≢true (sym e));
}

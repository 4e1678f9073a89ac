-- Runs from label to label, with the entries so far.
use Rattle.std.proofs.Common.{◌≡◌, ◌≢◌, ℕ, zero, suc, ◌+◌, ◌-◌, ◌*◌, ◌^◌, ◌<◌, ◌≤◌, Bool, true, false, nat_eq, inl, inr, List, length, get_or, set, replicate, Some, refl, sym, ap, ◌∙◌, subst, if◌then◌else◌, arith}
use Rattle.std.specs.Prelude.{slice_get}
use Rattle.std.specs.List.{sum}
use Rattle.std.proofs.lemmas.Bool.{cases_eq, eq-eqb}
use Rattle.std.proofs.lemmas.Option.{slice_get-get_or}
use Rattle.std.proofs.lemmas.List.{length-set, length-replicate, get_or-set_same, get_or-set_other}
use Rattle.std.proofs.lemmas.List.Sums.{sum_by-set, sum_by-cons, get_or-le-sum_by}
use Rattle.nv_base.specs.declared.outcome.Outcome.{Outcome}
use Rattle.nv_base.specs.declared.outcome.Outcome.TheVariants.{Going}
use Rattle.nv_base.specs.Log.{Log, noted_all}
use Rattle.nv_base.specs.Memories.{Memories}
use Rattle.nv_base.specs.Meanings.{FullOutcome, IsOver}
use Rattle.nv_base.specs.World.{World, begun, over}
use Rattle.nv_base.proofs.Sets.{same-number}
use Rattle.ssu_ir.specs.declared.step.LabelExit.{LabelExit}
use Rattle.ssu_ir.specs.declared.step.LabelExit.TheVariants.{Jump as LeavesBy, Over}
use Rattle.ssu_ir.specs.Tree.{Label}
use Rattle.ssu_ir.specs.Meaning.{run, ssu_meaning}
use Rattle.ssu_ir.specs.Single.{single, takes_as_many}
use Rattle.ssu_ir.specs.Entered.{JumpsTo, EndsWith, outcome_of, label_exit, is_entered, entered_behind, entered, AreEntries}
use Rattle.ssu_ir.specs.inner.Running.{At, LeftBy, leaving_exit}
use Rattle.ssu_ir.proofs.Exits.{enter_by_exit}
use Rattle.ssu_ir.proofs.Visits.{label-fits, label-over}

-- ---- counts

pub zeros-at : (n k : ℕ) → get_or (replicate n zero) k zero ≡ zero
zeros-at zero k = refl
zeros-at (suc n) zero = refl
zeros-at (suc n) (suc k) = zeros-at n k

pub sum-zeros : (n : ℕ) → sum (replicate n 0) ≡ 0
sum-zeros zero = refl
sum-zeros (suc n) = sum_by-cons (λ x. x) 0 (replicate n 0) ∙ ap (λ k. 0 + k) (sum-zeros n)

is-itself : (l : ℕ) → is_entered l l ≡ 1
is-itself l = ap (λ b. if b then 1 else 0) (eq-eqb l l refl)

not-other : (b : Bool) (l k : ℕ) → nat_eq l k ≡ b → k ≢ l → (if b then suc zero else zero) ≡ zero
not-other true l k e d = absurd (d (sym (same-number l k e)))
not-other false l k e d = refl

-- the label is entered once more
pub one-more : (counts : List ℕ) (l k : ℕ) → l < length counts → get_or (set counts l (get_or counts l 0 + 1)) k 0 ≡ get_or counts k 0 + is_entered l k
one-more counts l k i = elim (cases_eq k l) [
  | inl e ↦
      let a : get_or (set counts l (get_or counts l 0 + 1)) k 0 ≡ get_or counts l 0 + 1 = ap (λ j. get_or (set counts l (get_or counts l 0 + 1)) j 0) e ∙ get_or-set_same counts l (get_or counts l 0 + 1) 0 i in
      let b : get_or counts k 0 ≡ get_or counts l 0 = ap (λ j. get_or counts j 0) e in
      let c : is_entered l k ≡ 1 = ap (is_entered l) e ∙ is-itself l in
      omega (arith, a, b, c)
  | inr d ↦
      let a = get_or-set_other counts l k (get_or counts l 0 + 1) 0 d in
      let b : is_entered l k ≡ 0 = not-other (nat_eq l k) l k refl d in
      omega (arith, a, b)
]

pub sum-more : (counts : List ℕ) (l : ℕ) → l < length counts → sum (set counts l (get_or counts l 0 + 1)) ≡ sum counts + 1
sum-more counts l i = let h = sum_by-set (λ x. x) counts l (get_or counts l 0 + 1) 0 i in omega (arith, h)

pub count-least : (counts : List ℕ) (l n : ℕ) → l < length counts → sum counts ≡ n → get_or counts l 0 ≤ n
count-least counts l n i e = let h = get_or-le-sum_by (λ x. x) counts l 0 i in omega (arith, h, e)

-- ---- the run from label 0 has come to a label, with these words, after so many jumps

pub record Ran (labels : List Label) (args : List ℕ) (p0 : Memories) (log0 : Log) (i l : ℕ) (ws : List ℕ) (p : Memories) (log : Log) (counts : List ℕ) : Type 0 where
  pub now : World
  pub at : At log0 p log now
  pub meaning : (m : ℕ) → ssu_meaning labels args p0 (i + m) ≡ run labels (suc m) l ws now
  pub entries : (m k : ℕ) → entered labels args p0 (i + m) k ≡ get_or counts k 0 + (is_entered l k + entered_behind labels m (label_exit (slice_get labels l) ws now) k)
  pub going : (j : ℕ) → j + 1 ≡ i → ssu_meaning labels args p0 j ≡ over Going now
  pub so_far : (j k : ℕ) → j + 1 ≡ i → entered labels args p0 j k ≡ get_or counts k 0
  pub fits : takes_as_many (length ws) (slice_get labels l) ≡ true
  pub many : length counts ≡ length labels
  pub counted : log.count ≤ log0.count + i * 2 ^ 32
  pub total : sum counts ≡ i

pub ran-none : (labels : List Label) (args : List ℕ) (p0 : Memories) (log0 : Log) (counts : List ℕ) (n : ℕ) → counts ≡ replicate n 0 → length labels ≡ n → takes_as_many (length args) (slice_get labels 0) ≡ true → Ran labels args p0 log0 0 0 args p0 log0 counts
ran-none labels args p0 log0 counts n e many fits = record {
  now = begun p0;
  at = record { packet = refl; writes = refl };
  meaning = λ m. let z : 0 + m ≡ m = omega arith in ap (ssu_meaning labels args p0) z;
  entries = λ m k.
      let z : 0 + m ≡ m = omega arith in
      let none : get_or counts k 0 ≡ 0 = ap (λ c. get_or c k 0) e ∙ zeros-at n k in
      let same : entered labels args p0 (0 + m) k ≡ is_entered 0 k + entered_behind labels m (label_exit (slice_get labels 0) args (begun p0)) k = ap (λ j. entered labels args p0 j k) z in
      omega (arith, none, same);
  going = λ j h. absurd (omega (arith, h));
  so_far = λ j k h. absurd (omega (arith, h));
  fits = fits;
  many = ap length e ∙ length-replicate n 0 ∙ sym many;
  counted = omega arith;
  total = ap sum e ∙ sum-zeros n;
}

pub ran-on : (labels : List Label) (args : List ℕ) (p0 : Memories) (log0 : Log) (i l : ℕ) (ws : List ℕ) (p : Memories) (log : Log) (counts counts' : List ℕ) (r : LabelExit) (l' : ℕ) (vs : List ℕ) (p' : Memories) (log' : Log)
    → single labels ≡ true → (h : Ran labels args p0 log0 i l ws p log counts) → LeftBy (label_exit (slice_get labels l) ws h.now) log0 r vs p' log' → r ≡ LeavesBy l' → l < length counts → counts' ≡ set counts l (get_or counts l 0 + 1)
    → log'.count ≤ log.count + 2 ^ 32 → Ran labels args p0 log0 (i + 1) l' vs p' log' counts'
ran-on labels args p0 log0 i l ws p log counts counts' r l' vs p' log' single h left is inside set few =
    let exit : label_exit (slice_get labels l) ws h.now ≡ JumpsTo l' vs left.now = left.exit ∙ ap (λ x. leaving_exit x vs left.now) is in
    let more : (k : ℕ) → get_or counts' k 0 ≡ get_or counts k 0 + is_entered l k = λ k. ap (λ c. get_or c k 0) set ∙ one-more counts l k inside in
    record {
      now = left.now;
      at = left.at;
      meaning = λ m.
          let e : i + 1 + m ≡ i + suc m = omega arith in
          ap (ssu_meaning labels args p0) e ∙ h.meaning (suc m) ∙ enter_by_exit (run labels (suc m)) (slice_get labels l) ws h.now ∙ ap (outcome_of (run labels (suc m))) exit;
      entries = λ m k.
          let e : i + 1 + m ≡ i + suc m = omega arith in
          let a : entered labels args p0 (i + 1 + m) k ≡ entered labels args p0 (i + suc m) k = ap (λ j. entered labels args p0 j k) e in
          let b : entered_behind labels (suc m) (label_exit (slice_get labels l) ws h.now) k ≡ is_entered l' k + entered_behind labels m (label_exit (slice_get labels l') vs left.now) k =
          ap (λ x. entered_behind labels (suc m) x k) exit in
          omega (arith, a, h.entries (suc m) k, b, more k);
      going = λ j e.
          let z : j ≡ i + 0 = omega (arith, e) in
          ap (ssu_meaning labels args p0) z ∙ h.meaning 0 ∙ enter_by_exit (run labels 0) (slice_get labels l) ws h.now ∙ ap (outcome_of (run labels 0)) exit;
      so_far = λ j k e.
          let z : j ≡ i + 0 = omega (arith, e) in
          let a : entered labels args p0 j k ≡ entered labels args p0 (i + 0) k = ap (λ x. entered labels args p0 x k) z in
          omega (arith, a, h.entries 0 k, more k);
      fits = label-fits labels l ws vs h.now left.now l' single exit;
      many = ap length set ∙ length-set counts l (get_or counts l 0 + 1) ∙ h.many;
      counted = omega (arith, h.counted, few);
      total = let s : sum counts' ≡ sum counts + 1 = ap sum set ∙ sum-more counts l inside in omega (arith, s, h.total);
    }

-- ---- the end

-- what the meaning with n jumps gives
pub record Whole (labels : List Label) (args : List ℕ) (p0 : Memories) (log0 : Log) (n : ℕ) (o : Outcome) (p : Memories) (log : Log) (counts : List ℕ) : Type 0 where
  pub outcome : o ≡ (ssu_meaning labels args p0 n).outcome
  pub memories : p ≡ (ssu_meaning labels args p0 n).packet
  pub logged : log ≡ noted_all log0 (ssu_meaning labels args p0 n).writes
  pub entries : AreEntries counts labels args p0 n

whole-of : (labels : List Label) (args : List ℕ) (p0 : Memories) (log0 : Log) (n : ℕ) (o : Outcome) (p : Memories) (log : Log) (counts : List ℕ) (w : World) → At log0 p log w → ssu_meaning labels args p0 n ≡ over o w → length counts ≡ length labels
    → ((k : ℕ) → entered labels args p0 n k ≡ get_or counts k 0) → Whole labels args p0 log0 n o p log counts
whole-of labels args p0 log0 n o p log counts w a e many c = record {
  outcome = sym (ap (λ (f : FullOutcome). f.outcome) e);
  memories = a.packet ∙ sym (ap (λ (f : FullOutcome). f.packet) e);
  logged = a.writes ∙ sym (ap (λ (f : FullOutcome). noted_all log0 f.writes) e);
  entries = (
    many,
    λ k i. let inside : k < length counts = omega (arith, i, many) in slice_get-get_or counts k 0 inside ∙ ap Some (sym (c k)),
  );
}

successors-end : (labels : List Label) (m k : ℕ) (f : FullOutcome) → entered_behind labels m (EndsWith f) k ≡ 0
successors-end labels zero k f = refl
successors-end labels (suc m) k f = refl

pub ran-over : (labels : List Label) (args : List ℕ) (p0 : Memories) (log0 : Log) (n i l : ℕ) (ws : List ℕ) (p : Memories) (log : Log) (counts counts' : List ℕ) (r : LabelExit) (o : Outcome) (vs : List ℕ) (p' : Memories) (log' : Log)
    → (h : Ran labels args p0 log0 i l ws p log counts) → LeftBy (label_exit (slice_get labels l) ws h.now) log0 r vs p' log' → r ≡ Over o → l < length counts → counts' ≡ set counts l (get_or counts l 0 + 1)
    → i ≤ n → Whole labels args p0 log0 n o p' log' counts'
ran-over labels args p0 log0 n i l ws p log counts counts' r o vs p' log' h left is inside set less =
    let m : ℕ = n - i in
    let e : n ≡ i + m = omega (arith, less) in
    let exit : label_exit (slice_get labels l) ws h.now ≡ EndsWith (over o left.now) = left.exit ∙ ap (λ x. leaving_exit x vs left.now) is in
    whole-of labels args p0 log0 n o p' log' counts' left.now left.at
    (ap (ssu_meaning labels args p0) e ∙ h.meaning m ∙ enter_by_exit (run labels m) (slice_get labels l) ws h.now ∙ ap (outcome_of (run labels m)) exit)
    (ap length set ∙ length-set counts l (get_or counts l 0 + 1) ∙ h.many)
    (λ k.
    let a : entered labels args p0 n k ≡ entered labels args p0 (i + m) k = ap (λ j. entered labels args p0 j k) e in
    let b : entered_behind labels m (label_exit (slice_get labels l) ws h.now) k ≡ 0 = ap (λ x. entered_behind labels m x k) exit ∙ successors-end labels m k (over o left.now) in
    let c : get_or counts' k 0 ≡ get_or counts k 0 + is_entered l k = ap (λ c. get_or c k 0) set ∙ one-more counts l k inside in
    omega (arith, a, b, c, h.entries m k))

pub ran-all : (labels : List Label) (args : List ℕ) (p0 : Memories) (log0 : Log) (n i l : ℕ) (ws : List ℕ) (p : Memories) (log : Log) (counts : List ℕ) → Ran labels args p0 log0 i l ws p log counts → i ≡ n + 1 → Whole labels args p0 log0 n Going p log counts
ran-all labels args p0 log0 n i l ws p log counts h e = whole-of labels args p0 log0 n Going p log counts h.now h.at (h.going n (sym e)) h.many (λ k. h.so_far n k (sym e))

-- a run that is over isn't going on
pub over-stays : (labels : List Label) (args : List ℕ) (p0 : Memories) (log0 : Log) (i l : ℕ) (ws : List ℕ) (p : Memories) (log : Log) (counts : List ℕ) (r : LabelExit) (o : Outcome) (vs : List ℕ) (p' : Memories) (log' : Log)
    → single labels ≡ true → (h : Ran labels args p0 log0 i l ws p log counts) → LeftBy (label_exit (slice_get labels l) ws h.now) log0 r vs p' log' → r ≡ Over o → o ≡ Going → ⊥
over-stays labels args p0 log0 i l ws p log counts r o vs p' log' single h left is going =
    let exit : label_exit (slice_get labels l) ws h.now ≡ EndsWith (over o left.now) = left.exit ∙ ap (λ x. leaving_exit x vs left.now) is in
    subst IsOver going (label-over labels l (length ws) ws h.now (over o left.now) single h.fits exit)

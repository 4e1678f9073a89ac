-- The tests of a contracted flow, node by node and label by label.
use Rattle.std.proofs.Common.{◌≡◌, ◌↔◌, ℕ, zero, suc, ◌+◌, ◌<◌, ◌≤◌, min, Bool, true, false, not, ◌&&◌, ◌||◌, nat_eq, nat_le, List, [], ◌∷◌, ◌++◌, Some, map, refl, sym, ap, subst, ◌∙◌, length, take, drop, get_or, slice_get, All, if◌then◌else◌, arith}
use Rattle.std.below.core.specs.declared.int.u32.TheConstants.{MAX}
use Rattle.std.proofs.lemmas.Bool.{and_parts, and_from, or_right, not-true, false≢true}
use Rattle.std.proofs.lemmas.Bool.Decides.{nat_tests}
use Rattle.std.proofs.lemmas.List.{map_more}
use Rattle.std.proofs.lemmas.List.Elements.{All-nil, All-cons, All-get_or}
use Rattle.std.proofs.lemmas.Option.{none-some, same_Some, slice_get_within, get_or_from_slice_get}
use Rattle.flow_ir.specs.Tree.{Label}
use Rattle.flow_ir.specs.View.{tree_view, label_view}
use Rattle.flow_ir.specs.declared.flow.Label.{Label as FlowLabel}
use Rattle.flow_ir.specs.declared.flow.Tree.{Tree, size-Tree}
use Rattle.flow_ir.specs.declared.flow.Tree.TheVariants.{Let', Read', Write', If', Jump, Halt}
use Rattle.flow_ir.specs.declared.flow.Tree.TheViews.{deep-Let', deep-Read', deep-Write', deep-If'}
use Rattle.flow_ir.proofs.Leaving.{item-next}
use Rattle.flow_ir.proofs.Mentions.{smaller}
use Rattle.flow_merge.proofs.Lookup.{there}
use Rattle.flow_merge.specs.Contracted.{jumps_to, all_jumps_to, is_bare, is_literal, is_undecided, AreMerged}
use Rattle.flow_merge.specs.inner.Sizes.{at, fits, all_fit}

-- ---- jumps

-- what stands in front of cur was counted
pub record Noted (t cur : Tree) (old now : List ℕ) : Type 0 where
  pub as_long : length now ≡ length old
  pub most : (k : ℕ) → at now k + jumps_to k (tree_view cur) ≤ at old k + jumps_to k (tree_view t)
  pub least : (k : ℕ) → k < length old → min (at old k + jumps_to k (tree_view t)) MAX ≤ at now k + jumps_to k (tree_view cur)
  pub size : size-Tree cur ≤ size-Tree t

noted_on : {t cur : Tree} {old now : List ℕ} (rest : Tree) → Noted t cur old now → ((k : ℕ) → jumps_to k (tree_view cur) ≡ jumps_to k (tree_view rest)) → size-Tree rest ≤ size-Tree cur → Noted t rest old now
noted_on rest h e le = record {
  as_long = h.as_long;
  most = λ k. let m = h.most k in let s = e k in omega (arith, m, s);
  least = λ k lt. let m = h.least k lt in let s = e k in omega (arith, m, s);
  size = let s = h.size in omega arith;
}

pub noted_let : {t cur : Tree} {old now : List ℕ} (x : ℕ) (p : _) (q : _) (r rest : Tree) → Noted t cur old now → cur ≡ Let' x p q r → rest ≡ r → Noted t rest old now
noted_let {cur = cur} x p q r rest h is e =
    noted_on rest h (λ k. ap (λ z. jumps_to k (tree_view z)) is ∙ ap (λ z. jumps_to k (tree_view z)) (sym e)) (smaller cur (Let' x p q r) rest r is e (omega (arith, deep-Let' x p q r)))

pub noted_read : {t cur : Tree} {old now : List ℕ} (m : _) (xs : _) (a : _) (q : _) (r rest : Tree) → Noted t cur old now → cur ≡ Read' m xs a q r → rest ≡ r → Noted t rest old now
noted_read {cur = cur} m xs a q r rest h is e =
    noted_on rest h (λ k. ap (λ z. jumps_to k (tree_view z)) is ∙ ap (λ z. jumps_to k (tree_view z)) (sym e)) (smaller cur (Read' m xs a q r) rest r is e (omega (arith, deep-Read' m xs a q r)))

pub noted_write : {t cur : Tree} {old now : List ℕ} (m : _) (a : _) (bs : _) (q : _) (r rest : Tree) → Noted t cur old now → cur ≡ Write' m a bs q r → rest ≡ r → Noted t rest old now
noted_write {cur = cur} m a bs q r rest h is e =
    noted_on rest h (λ k. ap (λ z. jumps_to k (tree_view z)) is ∙ ap (λ z. jumps_to k (tree_view z)) (sym e)) (smaller cur (Write' m a bs q r) rest r is e (omega (arith, deep-Write' m a bs q r)))

-- a number of jumps to each label is added to the counts
pub record Adds (n : ℕ → ℕ) (old now : List ℕ) : Type 0 where
  pub as_long : length now ≡ length old
  pub most : (k : ℕ) → at now k ≤ at old k + n k
  pub least : (k : ℕ) → k < length old → min (at old k + n k) MAX ≤ at now k

pub noted_if : {t cur : Tree} {old now : List ℕ} (c a b : _) (q q' : _) (f r part rest : Tree) (next : List ℕ) → Noted t cur old now → cur ≡ If' c a b q f q' r → part ≡ f → rest ≡ r → Adds (λ k. jumps_to k (tree_view part)) now next → Noted t rest old next
noted_if {cur = cur} c a b q q' f r part rest next h is ef e added = record {
  as_long = added.as_long ∙ h.as_long;
  most = λ k.
      let m = h.most k in
      let s = ap (λ z. jumps_to k (tree_view z)) is in
      let one = ap (λ z. jumps_to k (tree_view z)) ef in
      let two = ap (λ z. jumps_to k (tree_view z)) e in
      let more = added.most k in
      omega (arith, m, s, one, two, more);
  least = λ k lt.
      let m = h.least k lt in
      let s = ap (λ z. jumps_to k (tree_view z)) is in
      let one = ap (λ z. jumps_to k (tree_view z)) ef in
      let two = ap (λ z. jumps_to k (tree_view z)) e in
      let more = added.least k (subst (λ n. k < n) (sym h.as_long) lt) in
      omega (arith, m, s, one, two, more);
  size = let s = h.size in let le = smaller cur (If' c a b q f q' r) rest r is e (omega (arith, deep-If' c a b q f q' r)) in omega arith;
}

pub noted_jump : {t cur : Tree} {old now : List ℕ} (l : ℕ) (bs : _) (next : List ℕ) → Noted t cur old now → cur ≡ Jump l bs → Adds (λ k. if nat_eq l k then 1 else 0) now next → Adds (λ k. jumps_to k (tree_view t)) old next
noted_jump l bs next h is added = record {
  as_long = added.as_long ∙ h.as_long;
  most = λ k.
      let m = h.most k in
      let s = ap (λ z. jumps_to k (tree_view z)) is in
      let more = added.most k in
      omega (arith, m, s, more);
  least = λ k lt.
      let m = h.least k lt in
      let s = ap (λ z. jumps_to k (tree_view z)) is in
      let more = added.least k (subst (λ n. k < n) (sym h.as_long) lt) in
      omega (arith, m, s, more);
}

pub noted_halt : {t cur : Tree} {old now : List ℕ} (x : ℕ) (bs : _) → Noted t cur old now → cur ≡ Halt x bs → Adds (λ k. jumps_to k (tree_view t)) old now
noted_halt x bs h is = record {
  as_long = h.as_long;
  most = λ k. let m = h.most k in omega arith;
  least = λ k lt. let m = h.least k lt in let s = ap (λ z. jumps_to k (tree_view z)) is in omega (arith, m, s);
}

jumps_push : (k : ℕ) (ls : List Label) (l : Label) → all_jumps_to k (ls ++ l ∷ []) ≡ all_jumps_to k ls + jumps_to k l.body
jumps_push k [] l = omega arith
jumps_push k (m ∷ ls) l = let e = jumps_push k ls l in omega (arith, e)

-- the jumps of these labels are counted
pub record AreCounted (counts : List ℕ) (many : ℕ) (labels : List Label) : Type 0 where
  pub as_long : length counts ≡ many
  pub most : (k : ℕ) → at counts k ≤ all_jumps_to k labels
  pub least : (k : ℕ) → k < many → min (all_jumps_to k labels) MAX ≤ at counts k

pub jumps_next : (labels : List FlowLabel) (i : ℕ) (d l : FlowLabel) (now next : List ℕ) → i < length labels → l ≡ get_or labels i d → AreCounted now (length labels) (map label_view (take i labels)) → Adds (λ k. jumps_to k (tree_view l.body)) now next
    → AreCounted next (length labels) (map label_view (take (i + 1) labels))
jumps_next labels i d l now next lt e was added =
    let front : map label_view (take (i + 1) labels) ≡ map label_view (take i labels) ++ label_view l ∷ [] = map_more label_view labels i d lt ∙ ap (λ v. map label_view (take i labels) ++ label_view v ∷ []) (sym e) in
    record {
      as_long = added.as_long ∙ was.as_long;
      most = λ k.
          let sum = ap (all_jumps_to k) front ∙ jumps_push k (map label_view (take i labels)) (label_view l) in
          let a = was.most k in
          let b = added.most k in
          omega (arith, sum, a, b);
      least = λ k within.
          let sum = ap (all_jumps_to k) front ∙ jumps_push k (map label_view (take i labels)) (label_view l) in
          let a = was.least k within in
          let b = added.least k (subst (λ n. k < n) (sym was.as_long) within) in
          omega (arith, sum, a, b);
    }

-- ---- literals

pub record Asked (t cur : Tree) : Type 0 where
  pub same : is_undecided (tree_view cur) ≡ is_undecided (tree_view t)
  pub size : size-Tree cur ≤ size-Tree t

asked_on : {t cur : Tree} (rest : Tree) → Asked t cur → is_undecided (tree_view cur) ≡ is_undecided (tree_view rest) → size-Tree rest ≤ size-Tree cur → Asked t rest
asked_on rest h e le = record { same = sym e ∙ h.same; size = let s = h.size in omega arith }

pub asked_let : {t cur : Tree} (x : ℕ) (p : _) (q : _) (r rest : Tree) → Asked t cur → cur ≡ Let' x p q r → rest ≡ r → Asked t rest
asked_let {cur = cur} x p q r rest h is e =
    asked_on rest h (ap (λ z. is_undecided (tree_view z)) is ∙ ap (λ z. is_undecided (tree_view z)) (sym e)) (smaller cur (Let' x p q r) rest r is e (omega (arith, deep-Let' x p q r)))

pub asked_read : {t cur : Tree} (m : _) (xs : _) (a : _) (q : _) (r rest : Tree) → Asked t cur → cur ≡ Read' m xs a q r → rest ≡ r → Asked t rest
asked_read {cur = cur} m xs a q r rest h is e =
    asked_on rest h (ap (λ z. is_undecided (tree_view z)) is ∙ ap (λ z. is_undecided (tree_view z)) (sym e)) (smaller cur (Read' m xs a q r) rest r is e (omega (arith, deep-Read' m xs a q r)))

pub asked_write : {t cur : Tree} (m : _) (a : _) (bs : _) (q : _) (r rest : Tree) → Asked t cur → cur ≡ Write' m a bs q r → rest ≡ r → Asked t rest
asked_write {cur = cur} m a bs q r rest h is e =
    asked_on rest h (ap (λ z. is_undecided (tree_view z)) is ∙ ap (λ z. is_undecided (tree_view z)) (sym e)) (smaller cur (Write' m a bs q r) rest r is e (omega (arith, deep-Write' m a bs q r)))

choice_at : {cur : Tree} (c a b : _) (q q' : _) (f r part rest : Tree) → cur ≡ If' c a b q f q' r → part ≡ f → rest ≡ r → is_undecided (tree_view cur) ≡ (not (is_literal a && is_literal b) && (is_undecided (tree_view part) && is_undecided (tree_view rest)))
choice_at c a b q q' f r part rest is ef e =
    let here = not (is_literal a && is_literal b) in
    ap (λ z. is_undecided (tree_view z)) is ∙ ap (λ z. here && (is_undecided (tree_view z) && is_undecided (tree_view r))) (sym ef) ∙ ap (λ z. here && (is_undecided (tree_view part) && is_undecided (tree_view z))) (sym e)

-- two literals, or a choice in the first part
pub asked_not : {t cur : Tree} (c a b : _) (q q' : _) (f r part rest : Tree) (x y z : Bool) → Asked t cur → cur ≡ If' c a b q f q' r → part ≡ f → rest ≡ r → x ≡ is_literal a → y ≡ is_literal b → z ≡ is_undecided (tree_view part) → ((x && y) || not z) ≡ true → false ≡ is_undecided (tree_view t)
asked_not c a b q q' f r part rest x y z h is ef e ex ey ez both =
    sym (settled_not x y z (is_undecided (tree_view rest)) both) ∙ ap (λ v. not (v && y) && (z && is_undecided (tree_view rest))) ex ∙ ap (λ v. not (is_literal a && v) && (z && is_undecided (tree_view rest))) ey
    ∙ ap (λ v. not (is_literal a && is_literal b) && (v && is_undecided (tree_view rest))) ez ∙ sym (choice_at c a b q q' f r part rest is ef e) ∙ h.same
  where
    settled_not : (x y z w : Bool) → ((x && y) || not z) ≡ true → (not (x && y) && (z && w)) ≡ false
    settled_not true true z w e = refl
    settled_not true false true w e = absurd (false≢true e)
    settled_not true false false w e = refl
    settled_not false y true w e = absurd (false≢true e)
    settled_not false y false w e = refl

pub asked_if : {t cur : Tree} (c a b : _) (q q' : _) (f r part rest : Tree) (x y z : Bool) → Asked t cur → cur ≡ If' c a b q f q' r → part ≡ f → rest ≡ r → x ≡ is_literal a → y ≡ is_literal b → z ≡ is_undecided (tree_view part) → ((x && y) || not z) ≡ false → Asked t rest
asked_if {cur = cur} c a b q q' f r part rest x y z h is ef e ex ey ez none =
    asked_on rest h
    (choice_at c a b q q' f r part rest is ef e ∙ sym (ap (λ v. not (v && y) && (z && is_undecided (tree_view rest))) ex ∙ ap (λ v. not (is_literal a && v) && (z && is_undecided (tree_view rest))) ey
    ∙ ap (λ v. not (is_literal a && is_literal b) && (v && is_undecided (tree_view rest))) ez)
    ∙ left_over x y z (is_undecided (tree_view rest)) none)
    (smaller cur (If' c a b q f q' r) rest r is e (omega (arith, deep-If' c a b q f q' r)))
  where
    left_over : (x y z w : Bool) → ((x && y) || not z) ≡ false → (not (x && y) && (z && w)) ≡ w
    left_over true true z w e = absurd (false≢true (sym e))
    left_over true false true w e = refl
    left_over true false false w e = absurd (false≢true (sym e))
    left_over false y true w e = refl
    left_over false y false w e = absurd (false≢true (sym e))

-- ---- all labels

-- those in front of i fit
abbrev pub Fitting : List ℕ → List FlowLabel → ℕ → Type 0
Fitting counts labels i = all_fit counts i (map label_view (drop i labels)) ≡ all_fit counts 0 (map label_view labels)

fitting_step : (counts : List ℕ) (labels : List FlowLabel) (i : ℕ) (l : FlowLabel) (b : Bool) → i < length labels → l ≡ get_or labels i l → b ≡ fits counts i (label_view l) → all_fit counts i (map label_view (drop i labels)) ≡ (b && all_fit counts (i + 1) (map label_view (drop (i + 1) labels)))
fitting_step counts labels i l b lt at is =
    let next : suc i ≡ i + 1 = omega arith in
    ap (λ r. all_fit counts i (map label_view r)) (item-next labels i l lt at) ∙ ap (λ c. c && all_fit counts (suc i) (map label_view (drop (i + 1) labels))) (sym is)
    ∙ ap (λ j. b && all_fit counts j (map label_view (drop (i + 1) labels))) next

pub fitting_turn : (counts : List ℕ) (labels : List FlowLabel) (i : ℕ) (l : FlowLabel) (b : Bool) → i < length labels → l ≡ get_or labels i l → b ≡ fits counts i (label_view l) → b ≡ true → Fitting counts labels i → Fitting counts labels (i + 1)
fitting_turn counts labels i l b lt at is holds was = sym (fitting_step counts labels i l b lt at is ∙ ap (λ c. c && all_fit counts (i + 1) (map label_view (drop (i + 1) labels))) holds) ∙ was

pub fitting_not : (counts : List ℕ) (labels : List FlowLabel) (i : ℕ) (l : FlowLabel) (b : Bool) → i < length labels → l ≡ get_or labels i l → b ≡ fits counts i (label_view l) → b ≡ false → Fitting counts labels i → false ≡ all_fit counts 0 (map label_view labels)
fitting_not counts labels i l b lt at is fails was = sym (fitting_step counts labels i l b lt at is ∙ ap (λ c. c && all_fit counts (i + 1) (map label_view (drop (i + 1) labels))) fails) ∙ was

pub fitting_end : (counts : List ℕ) (labels : List FlowLabel) (i : ℕ) → drop i labels ≡ [] → Fitting counts labels i → true ≡ all_fit counts 0 (map label_view labels)
fitting_end counts labels i e was = sym (ap (λ r. all_fit counts i (map label_view r)) e) ∙ was

-- ---- what the tests tell

fit_at : (counts : List ℕ) (ls : List Label) (i j k : ℕ) (m : Label) → all_fit counts i ls ≡ true → slice_get ls j ≡ Some m → k ≡ i + j → fits counts k m ≡ true
fit_at counts [] i j k m e at is = absurd (none-some m at)
fit_at counts (l ∷ ls) i zero k m e at is =
    let here : i ≡ k = omega arith in
    subst (λ z. fits counts z m ≡ true) here (subst (λ z. fits counts i z ≡ true) (same_Some l m at) (and_parts (fits counts i l) (all_fit counts (suc i) ls) e).0)
fit_at counts (l ∷ ls) i (suc j) k m e at is = fit_at counts ls (suc i) j k m (and_parts (fits counts i l) (all_fit counts (suc i) ls) e).1 at (omega arith)

or_later : (a b : Bool) → a ≡ false → (a || b) ≡ true → b ≡ true
or_later true b e h = absurd (false≢true (sym e))
or_later false b e h = h

all_undecided : (counts : List ℕ) (i : ℕ) (ls : List Label) → all_fit counts i ls ≡ true → All (λ (m : Label). is_undecided m.body ≡ true) ls
all_undecided counts i [] e = All-nil (λ (m : Label). is_undecided m.body ≡ true)
all_undecided counts i (l ∷ ls) e =
    let parts = and_parts (fits counts i l) (all_fit counts (suc i) ls) e in
    All-cons (λ (m : Label). is_undecided m.body ≡ true) l ls (and_parts (is_undecided l.body) (nat_eq i 0 || (nat_le 2 (at counts i) && not (is_bare i l.body))) parts.0).0 (all_undecided counts (suc i) ls parts.1)

tested : (counts : List ℕ) (labels : List Label) → ((k : ℕ) → at counts k ≤ all_jumps_to k labels) → all_fit counts 0 labels ≡ true → AreMerged labels
tested counts labels most e =
    let parts = λ (l : ℕ) (m : Label) (one : 1 ≤ l) (here : slice_get labels l ≡ Some m).
    and_parts (nat_le 2 (at counts l)) (not (is_bare l m.body))
    (or_later (nat_eq l 0) (nat_le 2 (at counts l) && not (is_bare l m.body)) (positive l one)
    (and_parts (is_undecided m.body) (nat_eq l 0 || (nat_le 2 (at counts l) && not (is_bare l m.body))) (fit_at counts labels 0 l l m e here (omega arith))).1) in
    record {
      shared = λ l one lt. let m = there labels l lt in let two : 2 ≤ at counts l = at_least (at counts l) (parts l m.0 one m.1).0 in let le = most l in omega arith;
      busy = λ l m one here. not-true (is_bare l m.body) (parts l m one here).1;
      undecided = all_undecided counts 0 labels e;
    }
  where
    positive : (l : ℕ) → 1 ≤ l → nat_eq l 0 ≡ false
    positive l le = grind (arith, nat_tests)

    at_least : (n : ℕ) → nat_le 2 n ≡ true → 2 ≤ n
    at_least n h = grind (arith, nat_tests)

fits_there : (counts : List ℕ) (k : ℕ) (m : Label) → is_undecided m.body ≡ true → (1 ≤ k → (2 ≤ at counts k) × (is_bare k m.body ≡ false)) → fits counts k m ≡ true
fits_there counts zero m e h = and_from (is_undecided m.body) true e refl
fits_there counts (suc k) m e h =
    let p = h (omega arith) in
    let busy = nat_le 2 (at counts (suc k)) && not (is_bare (suc k) m.body) in
    and_from (is_undecided m.body) (nat_eq (suc k) 0 || busy) e
    (or_right (nat_eq (suc k) 0) busy (and_from (nat_le 2 (at counts (suc k))) (not (is_bare (suc k) m.body)) (two_or_more (at counts (suc k)) p.0) (ap not p.1)))
  where
    two_or_more : (n : ℕ) → 2 ≤ n → nat_le 2 n ≡ true
    two_or_more n le = grind (arith, nat_tests)

fit_from : (counts : List ℕ) (i : ℕ) (ls : List Label) → ((j : ℕ) (m : Label) → slice_get ls j ≡ Some m → fits counts (i + j) m ≡ true) → all_fit counts i ls ≡ true
fit_from counts i [] h = refl
fit_from counts i (l ∷ ls) h =
    and_from (fits counts i l) (all_fit counts (suc i) ls) (subst (λ k. fits counts k l ≡ true) (omega arith) (h 0 l refl))
    (fit_from counts (suc i) ls (λ j m here. subst (λ k. fits counts k m ≡ true) (omega arith) (h (suc j) m here)))

all_fit_so : (counts : List ℕ) (labels : List Label) → ((k : ℕ) → k < length labels → min (all_jumps_to k labels) MAX ≤ at counts k) → AreMerged labels → all_fit counts 0 labels ≡ true
all_fit_so counts labels least h = fit_from counts 0 labels (λ j m here.
    let within : j < length labels = slice_get_within labels j m here in
    subst (λ k. fits counts k m ≡ true) (omega arith) (fits_there counts j m (subst (λ (n : Label). is_undecided n.body ≡ true) (get_or_from_slice_get labels j m m here) (All-get_or (λ (n : Label). is_undecided n.body ≡ true) labels j m within h.undecided)) (λ one. ((let two = h.shared j one within in let le = least j within in omega (arith, two, le)), h.busy j m one here))))

pub tests : (counts : List ℕ) (labels : List Label) → ((k : ℕ) → at counts k ≤ all_jumps_to k labels) → ((k : ℕ) → k < length labels → min (all_jumps_to k labels) MAX ≤ at counts k) → (b : Bool) → b ≡ all_fit counts 0 labels → b ≡ true ↔ AreMerged labels
tests counts labels most least b is = (λ e. tested counts labels most (sym is ∙ e), λ h. is ∙ all_fit_so counts labels least h)

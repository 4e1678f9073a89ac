-- The numbers of the values of each bank's rows are those that a placement asks for.
use Rattle.std.proofs.Common.{◌≡◌, ℕ, if◌then◌else◌, suc, ◌<◌, ◌≤◌, Bool, true, false, nat_eq, ◌||◌, ◌&&◌, ⊎_elim, Option, Some, None, List, [], ◌∷◌, length, map, filter, unwrap_or, refl, sym, ap, ◌∙◌, arith}
use Rattle.std.proofs.Math.Bool.{and_comm}
use Rattle.std.specs.Prelude.{All, slice_get}
use Rattle.std.specs.HashMap.{get}
use Rattle.std.specs.List.{AllZip}
use Rattle.std.proofs.lemmas.Bool.{or_cases, or_left, or_right, false≢true, lt-ltb}
use Rattle.nv_base.specs.Sets.{is_in, all_different}
use Rattle.nv_base.proofs.Sets.{different-below, different-all}
use Rattle.ssu_ir.specs.Tree.{Lit, Una, Bin, Clone, Read, Write, Label, Does, Forks, Ends}
use Rattle.ssu_ir.specs.Points.{PointKind as Spot, Entry, At, Point, points}
use Rattle.ssu_ir.specs.Single.{single}
use Rattle.ssu_liveness.specs.LiveRows.{IsRow, IsRowOf, HaveNumbers}
use Rattle.place_plan.specs.Uses.{ValueOrigin, Parameter, Fetched, Value, numbered, place_values, values_from, values, Use, uses, is_used}
use Rattle.ssu_liveness.specs.inner.Numbers.{values_among}
use Rattle.ssu_liveness.proofs.Scoped.{in-itself, in-filter, in-either, different-filter, same-length}
use Rattle.place_plan.proofs.Sound.{Each, each-append, entry_params, Sound, uses_among, sound-points}
use Rattle.place_plan.proofs.Spilled.{each-all, all-each, each-weaker}
use Rattle.place_plan.proofs.Fitting.{uses-are}
use Rattle.place_plan.proofs.Joined.{different-by-count}
use Rattle.bank_prog_form.specs.declared.column.Bank.{Bank}
use Rattle.bank_prog_form.specs.declared.column.Bank.TheVariants.{A, B, M}
use Rattle.bank_prog_form.specs.Rows.{homes, is_parameter}
use Rattle.bank_prog.specs.Meaning.{Chosen}
use Rattle.reg_assign_reading.specs.declared.numbers.BankNumbers.{BankNumbers}
use Rattle.reg_assign_reading.specs.inner.Facts.{Facts}
use Rattle.reg_assign_reading.specs.ReadOff.{has_home, AreApart, is_held, IsBelow, AreNumbered}
use Rattle.reg_assign_reading.specs.inner.Reading.{number_in, numbers_of}

-- ---- rows of those values that pass a test

row-kept : (keep : ℕ → Bool) (row : List ℕ) (q : Point) → IsRow row q → IsRowOf keep (filter keep row) q
row-kept keep row q r =
    let a = different-below row q.before (λ x i. sym (r.members x) ∙ i) in
    let b = different-below q.before row (λ x i. r.members x ∙ i) in
    let c = different-all row r.once in
    let n : length row ≡ length q.before = r.count in
    let once : all_different q.before ≡ true = different-by-count q.before (omega arith) in
    let kept : all_different (filter keep row) ≡ true = different-filter keep row r.once in
    let same : (x : ℕ) → is_in x (filter keep row) ≡ is_in x (filter keep q.before) = λ x. in-filter keep x row ∙ ap (λ b. b && keep x) (r.members x) ∙ sym (in-filter keep x q.before) in
    record {
      once = kept;
      members = λ x. in-filter keep x row ∙ ap (λ b. b && keep x) (r.members x) ∙ and_comm (is_in x q.before) (keep x);
      count = same-length (filter keep row) (filter keep q.before) kept (different-filter keep q.before once) same;
    }

pub rows-kept : (keep : ℕ → Bool) (rows : List (List ℕ)) (ps : List Point) → AllZip IsRow rows ps → AllZip (IsRowOf keep) (map (filter keep) rows) ps
rows-kept keep [] [] h = tt
rows-kept keep [] (q ∷ ps) h = absurd h
rows-kept keep (r ∷ rows) [] h = absurd h
rows-kept keep (r ∷ rows) (q ∷ ps) h = (row-kept keep r q h.0, rows-kept keep rows ps h.1)

kept-short : (keep : ℕ → Bool) (n : ℕ) (rows : List (List ℕ)) (ps : List Point) → AllZip (IsRowOf keep) rows ps → Each (λ q. length (filter keep q.before) ≤ n) ps → Each (λ row. length row ≤ n) rows
kept-short keep n [] ps h l = tt
kept-short keep n (r ∷ rows) [] h l = absurd h
kept-short keep n (r ∷ rows) (q ∷ ps) h l =
    let e : length r ≡ length (filter keep q.before) = h.0.count in
    let m : length (filter keep q.before) ≤ n = l.0 in
    (omega arith, kept-short keep n rows ps h.1 l.1)

pub rows-short : (keep : ℕ → Bool) (n : ℕ) (rows : List (List ℕ)) (ps : List Point) → AllZip (IsRowOf keep) rows ps → All (λ q. length (filter keep q.before) ≤ n) ps → All (λ row. length row ≤ n) rows
rows-short keep n rows ps h l =
    each-all (λ (row : List ℕ). length row ≤ n) rows (kept-short keep n rows ps h (all-each (λ (q : Point). length (filter keep q.before) ≤ n) ps l))

-- ---- numbers in bytes

in-number : (o : Option ℕ) (k : ℕ) → o ≡ Some k → k < 256 → number_in o ≡ k
in-number o k e l = ap number_in e ∙ ap (λ b. unwrap_or (if b then Some k else None) 0) (lt-ltb k 256 l)

-- ---- a value that is held has a number

abbrev Has : (ℕ → Bool) → (ℕ → Option ℕ) → ℕ → ℕ → Type 0
Has keep number n x = keep x ≡ true → number_in (number x) < n

has-held : (keep : ℕ → Bool) (number : ℕ → Option ℕ) (n : ℕ) (q : Point) → n ≤ 256 → HaveNumbers keep number n q → (x : ℕ) → is_in x q.before ≡ true → Has keep number n x
has-held keep number n q l h x i k =
    let g = h.given x k i in
    let below : g.0 < n = g.2 in
    let e : number_in (number x) ≡ g.0 = in-number (number x) g.0 g.1 (omega arith) in
    omega arith

abbrev HasHeld : (ℕ → Type 0) → Point → Type 0
HasHeld has q = (x : ℕ) → is_in x q.before ≡ true → has x

used-has : (labels : List Label) (has : ℕ → Type 0) (vs us : List ℕ) (ps : List Point) → Each (Sound labels vs us) ps → Each (HasHeld has) ps → (x : ℕ) → is_in x (uses_among ps) ≡ true → has x
used-has labels has vs us [] s d x e = absurd (false≢true e)
used-has labels has vs us (q ∷ ps) s d x e = ⊎_elim
    (λ (a : is_in x q.uses ≡ true). d.0 x (s.0.uses_held x a))
    (λ (b : is_in x (uses_among ps) ≡ true). used-has labels has vs us ps s.1 d.1 x b)
    (in-either x q.uses (uses_among ps) e)

abbrev IfHeld : List Label → (ℕ → Type 0) → Value → Type 0
IfHeld labels has v = is_held labels v ≡ true → has v.var

numbered-has : (labels : List Label) (has : ℕ → Type 0) (k : ℕ) (origin : ℕ → ValueOrigin) (i : ℕ) (xs : List ℕ) → ((x j : ℕ) → is_in x xs ≡ true → (is_used labels x || is_parameter (origin j)) ≡ true → has x) → Each (IfHeld labels has) (numbered k origin i xs)
numbered-has labels has k origin i [] h = tt
numbered-has labels has k origin i (x ∷ xs) h = (
  λ e. h x i (or_left (nat_eq x x) (is_in x xs) (in-itself x)) e,
  numbered-has labels has k origin (suc i) xs (λ y j e f. h y j (or_right (nat_eq y x) (is_in y xs) e) f),
)

used-only : (labels : List Label) (x : ℕ) → (is_used labels x || false) ≡ true → is_used labels x ≡ true
used-only labels x e = ⊎_elim (λ (a : is_used labels x ≡ true). a) (λ (b : false ≡ true). absurd (false≢true b)) (or_cases (is_used labels x) false e)

place-has : (labels : List Label) (has : ℕ → Type 0) (k : ℕ) (q : Spot) → ((x : ℕ) → is_in x (entry_params q) ≡ true → has x) → ((x : ℕ) → is_used labels x ≡ true → has x) → Each (IfHeld labels has) (place_values k q)
place-has labels has k (Entry l ps) c u = numbered-has labels has k (Parameter l) 0 ps (λ x j e f. c x e)
place-has labels has k (At (Does (Lit x v))) c u = (λ e. u x (used-only labels x e), tt)
place-has labels has k (At (Does (Una x op y))) c u = (λ e. u x (used-only labels x e), tt)
place-has labels has k (At (Does (Bin x op y z))) c u = (λ e. u x (used-only labels x e), tt)
place-has labels has k (At (Does (Clone xs y))) c u = tt
place-has labels has k (At (Does (Read m xs y))) c u = numbered-has labels has k (Fetched m) 0 xs (λ x j e f. u x (used-only labels x f))
place-has labels has k (At (Does (Write m y xs))) c u = tt
place-has labels has k (At (Forks d x y)) c u = tt
place-has labels has k (At (Ends l)) c u = tt

values-have : (labels : List Label) (has : ℕ → Type 0) (vs us : List ℕ) (k : ℕ) (ps : List Point) → Each (Sound labels vs us) ps → Each (HasHeld has) ps → ((x : ℕ) → is_used labels x ≡ true → has x) → Each (IfHeld labels has) (values_from k ps)
values-have labels has vs us k [] s d u = tt
values-have labels has vs us k (q ∷ ps) s d u =
    each-append (IfHeld labels has) (place_values k q.place) (values_from (suc k) ps)
    (place-has labels has k q.place (λ x e. d.0 x (s.0.entry x e)) u)
    (values-have labels has vs us (suc k) ps s.1 d.1 u)

held-have : (labels : List Label) (has : ℕ → Type 0) → single labels ≡ true → Each (HasHeld has) (points labels) → Each (IfHeld labels has) (values labels)
held-have labels has form d =
    let ps = points labels in
    let vs = values_among (map (λ (q : Point). q.place) ps) in
    let us = uses_among ps in
    let sound : Each (Sound labels vs us) ps = sound-points labels form in
    let same-uses : map (λ (u : Use). u.value) (uses labels) ≡ us = uses-are labels vs us 0 ps sound in
    values-have labels has vs us 0 ps sound d (λ x e. used-has labels has vs us ps sound d x (ap (λ l. is_in x l) (sym same-uses) ∙ e))

-- ---- the numbers of a bank

abbrev InBank : List Label → Chosen → Bank → (ℕ → Option ℕ) → ℕ → Type 0
InBank labels on h number n = All (HaveNumbers (λ x. has_home on x h) number n) (points labels)

pub below-in : (labels : List Label) (on : Chosen) (h : Bank) (number : ℕ → Option ℕ) (n : ℕ) → single labels ≡ true → n ≤ 256 → InBank labels on h number n → All (IfHeld labels (Has (λ x. has_home on x h) number n)) (values labels)
below-in labels on h number n form l d =
    let keep = λ (x : ℕ). has_home on x h in
    let ps = points labels in
    each-all (IfHeld labels (Has keep number n)) (values labels)
    (held-have labels (Has keep number n) form
    (each-weaker (HaveNumbers keep number n) (HasHeld (Has keep number n)) ps (λ q e. has-held keep number n q l e) (all-each (HaveNumbers keep number n) ps d)))

apart-in : (keep : ℕ → Bool) (number : ℕ → Option ℕ) (n : ℕ) (q : Point) → n ≤ 256 → HaveNumbers keep number n q → (x y : ℕ) → is_in x q.before ≡ true → is_in y q.before ≡ true → (x ≡ y → ⊥) → keep x ≡ true → keep y ≡ true → number_in (number x) ≡ number_in (number y) → ⊥
apart-in keep number n q l h x y i j ne k m same =
    let g = h.given x k i in
    let f = h.given y m j in
    let b : g.0 < n = g.2 in
    let c : f.0 < n = f.2 in
    let e : g.0 ≡ f.0 = sym (in-number (number x) g.0 g.1 (omega arith)) ∙ same ∙ in-number (number y) f.0 f.1 (omega arith) in
    h.apart x y f.0 k m i j ne (g.1 ∙ ap Some e) f.1

abbrev InBanks : List Label → ℕ → Chosen → BankNumbers → Type 0
InBanks labels slots on n = InBank labels on A (get nat_eq n.a) 15 × (InBank labels on B (get nat_eq n.b) 15 × InBank labels on M (get nat_eq n.m) slots)

apart-all : (on : Chosen) (slots : ℕ) (n : BankNumbers) (q : Point) → slots ≤ 128 → HaveNumbers (λ x. has_home on x A) (get nat_eq n.a) 15 q → HaveNumbers (λ x. has_home on x B) (get nat_eq n.b) 15 q → HaveNumbers (λ x. has_home on x M) (get nat_eq n.m) slots q → All (AreApart on (numbers_of n) q.before) homes
apart-all on slots n q l a b m = each-all (AreApart on (numbers_of n) q.before) homes (
  apart-in (λ x. has_home on x A) (get nat_eq n.a) 15 q (omega arith) a,
  (
    apart-in (λ x. has_home on x B) (get nat_eq n.b) 15 q (omega arith) b,
    (apart-in (λ x. has_home on x M) (get nat_eq n.m) slots q (omega arith) m, tt),
  ),
)

apart-points : (on : Chosen) (slots : ℕ) (n : BankNumbers) (ps : List Point) → slots ≤ 128 → Each (HaveNumbers (λ x. has_home on x A) (get nat_eq n.a) 15) ps → Each (HaveNumbers (λ x. has_home on x B) (get nat_eq n.b) 15) ps → Each (HaveNumbers (λ x. has_home on x M) (get nat_eq n.m) slots) ps
    → Each (λ q. All (AreApart on (numbers_of n) q.before) homes) ps
apart-points on slots n [] l a b m = tt
apart-points on slots n (q ∷ ps) l a b m = (apart-all on slots n q l a.0 b.0 m.0, apart-points on slots n ps l a.1 b.1 m.1)

pub are-numbered : (labels : List Label) (slots : ℕ) (on : Chosen) (n : BankNumbers) → single labels ≡ true → slots ≤ 128 → InBanks labels slots on n → AreNumbered labels slots on (numbers_of n)
are-numbered labels slots on n form l d =
    let ps = points labels in
    record {
      apart = each-all (λ (q : Point). All (AreApart on (numbers_of n) q.before) homes) ps (apart-points on slots n ps l
          (all-each (HaveNumbers (λ x. has_home on x A) (get nat_eq n.a) 15) ps d.0)
          (all-each (HaveNumbers (λ x. has_home on x B) (get nat_eq n.b) 15) ps d.1.0)
          (all-each (HaveNumbers (λ x. has_home on x M) (get nat_eq n.m) slots) ps d.1.1));
      below = each-all (λ (h : Bank). All (IsBelow labels slots on (numbers_of n) h) (values labels)) homes (
        below-in labels on A (get nat_eq n.a) 15 form (omega arith) d.0,
        (
          below-in labels on B (get nat_eq n.b) 15 form (omega arith) d.1.0,
          (below-in labels on M (get nat_eq n.m) slots form (omega arith) d.1.1, tt),
        ),
      );
    }

-- ---- there is room

each-by : {X : Type 0} (P : X → Type 0) (ps : List X) → ((i : ℕ) (q : X) → slice_get ps i ≡ Some q → P q) → Each P ps
each-by P [] h = tt
each-by P (q ∷ ps) h = (h 0 q refl, each-by P ps (λ i r e. h (suc i) r e))

abbrev HasRoom : Chosen → Bank → ℕ → Point → Type 0
HasRoom on h n q = length (filter (λ x. has_home on x h) q.before) ≤ n

pub room-a : (labels : List Label) (slots : ℕ) (on : Chosen) → Facts labels slots on → All (HasRoom on A 15) (points labels)
room-a labels slots on f = each-all (HasRoom on A 15) (points labels) (each-by (HasRoom on A 15) (points labels) (λ k q e. (f.points k q e).room_a))

pub room-b : (labels : List Label) (slots : ℕ) (on : Chosen) → Facts labels slots on → All (HasRoom on B 15) (points labels)
room-b labels slots on f = each-all (HasRoom on B 15) (points labels) (each-by (HasRoom on B 15) (points labels) (λ k q e. (f.points k q e).room_b))

pub room-m : (labels : List Label) (slots : ℕ) (on : Chosen) → Facts labels slots on → All (HasRoom on M slots) (points labels)
room-m labels slots on f = each-all (HasRoom on M slots) (points labels) (each-by (HasRoom on M slots) (points labels) (λ k q e. (f.points k q e).room_m))

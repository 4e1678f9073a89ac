-- Words within bounds, and what the bounds tell.
use Rattle.std.proofs.Common.{◌≡◌, ℕ, ◌+◌, ◌-◌, ◌/◌, ◌%◌, ◌^◌, ◌≤◌, ◌<◌, Bool, true, false, not, nat_eq, nat_lt, nat_le, ◌&&◌, ◌||◌, if◌then◌else◌, Option, Some, None, min, refl, sym, ap, subst, ◌∙◌, arith}
use Rattle.std.proofs.lemmas.Bool.{false≢true, ltb-true, ltb-false, leb-true, eqb-true, eqb-false, lt-ltb, le-ltb, eq-eqb, ne_eqb}
use Rattle.std.proofs.lemmas.Nat.{and_le_l, and_le_r, le-div, pow_pos}
use Rattle.std.proofs.Math.Nat.{mod-eq_of_lt, div-mul-le_self}
use Rattle.nv_base.specs.declared.term.Cmp.{Cmp}
use Rattle.nv_base.specs.declared.term.Cmp.TheVariants.{Eq, Ne, Lt, Ge}
use Rattle.nv_base.specs.declared.term.Una.{Una}
use Rattle.nv_base.specs.declared.term.Una.TheVariants.{Not, Shl, Shr, Rol}
use Rattle.nv_base.specs.declared.term.Bin.{Bin}
use Rattle.nv_base.specs.declared.term.Bin.TheVariants.{Add, Sub, And, Or, Xor}
use Rattle.nv_base.specs.Words.{IsWord, word, compares, una_word, bin_word, HasCount}
use Rattle.nv_base.proofs.WordLemmas.{una-fits, bin-fits}
use Rattle.flow_paths.specs.declared.ranges.Range.{Range}
use Rattle.flow_paths.specs.Ranges.{most, from, all_words, met, less, equal, turned, tells, without, of_first, of_second, of_una, of_bin}

-- a word is within bounds
pub record In (r : Range) (w : ℕ) : Type 0 where
  pub low : r.low ≤ w
  pub high : w ≤ r.high

pub in_all : (w : ℕ) → IsWord w → In all_words w
in_all w h = record { low = omega arith; high = omega arith }

pub in_met : (r s : Range) (w : ℕ) → In r w → In s w → In (met r s) w
in_met r s w i j = let a = i.low in let b = i.high in let c = j.low in let d = j.high in record { low = omega arith; high = omega arith }

pub in_word : (w v : ℕ) → w ≡ v → In (from v v) w
in_word w v e = record { low = omega arith; high = omega arith }

-- ---- comparisons

above : (w v : ℕ) → nat_eq w v ≡ false → v ≤ w → v < w
above w v n le = at (nat_lt v w) refl
  where
    at : (b : Bool) → nat_lt v w ≡ b → v < w
    at true e = ltb-true v w e
    at false e = let lt = ltb-false v w e in absurd (eqb-false w v n (omega (arith, lt, le)))

below : (w v : ℕ) → nat_eq w v ≡ false → w ≤ v → w < v
below w v n le = at (nat_lt w v) refl
  where
    at : (b : Bool) → nat_lt w v ≡ b → w < v
    at true e = ltb-true w v e
    at false e = let lt = ltb-false w v e in absurd (eqb-false w v n (omega (arith, lt, le)))

some_is : (r s : Bool) → Some r ≡ Some s → r ≡ s
some_is r s e = ap (λ o. elim o [ Some n ↦ n | None ↦ r ]) e

none_some : {C : Type 0} (r : Bool) → None ≡ Some r → C
none_some r e = absurd (false≢true (ap (λ (o : Option Bool). elim o [ Some n ↦ true | None ↦ false ]) e))

less_word : (a b : Range) (w v : ℕ) (r : Bool) → In a w → In b v → less a b ≡ Some r → nat_lt w v ≡ r
less_word a b w v r i j e = at (nat_lt a.high b.low) refl (nat_le b.high a.low) refl e
  where
    at : (p : Bool) → nat_lt a.high b.low ≡ p → (q : Bool) → nat_le b.high a.low ≡ q → (if p then Some true else (if q then Some false else None)) ≡ Some r → nat_lt w v ≡ r
    at true f q g h = let x = i.high in let y = j.low in let z = ltb-true a.high b.low f in lt-ltb w v (omega (arith, x, y, z)) ∙ some_is true r h
    at false f true g h = let x = i.low in let y = j.high in let z = leb-true b.high a.low g in le-ltb w v (omega (arith, x, y, z)) ∙ some_is false r h
    at false f false g h = none_some r h

equal_word : (a b : Range) (w v : ℕ) (r : Bool) → In a w → In b v → equal a b ≡ Some r → nat_eq w v ≡ r
equal_word a b w v r i j e = at (nat_lt a.high b.low) refl (nat_lt b.high a.low) refl (nat_le a.high b.low) refl (nat_le b.high a.low) refl e
  where
    at : (p : Bool) → nat_lt a.high b.low ≡ p → (q : Bool) → nat_lt b.high a.low ≡ q → (s : Bool) → nat_le a.high b.low ≡ s → (t : Bool) → nat_le b.high a.low ≡ t
        → (if p || q then Some false else (if s && t then Some true else None)) ≡ Some r → nat_eq w v ≡ r
    at true f q g s k t l h = let x = i.high in let y = j.low in let z = ltb-true a.high b.low f in ne_eqb w v (λ o. omega (arith, x, y, z, o)) ∙ some_is false r h
    at false f true g s k t l h = let x = i.low in let y = j.high in let z = ltb-true b.high a.low g in ne_eqb w v (λ o. omega (arith, x, y, z, o)) ∙ some_is false r h
    at false f false g true k true l h =
        let x = i.low in let y = j.high in let z = i.high in let u = j.low in let p = leb-true a.high b.low k in let q = leb-true b.high a.low l in eq-eqb w v (omega (arith, x, y, z, u, p, q)) ∙ some_is true r h
    at false f false g true k false l h = none_some r h
    at false f false g false k t l h = none_some r h

turned_is : (o : Option Bool) (r b : Bool) → turned o ≡ Some r → ((s : Bool) → o ≡ Some s → b ≡ s) → not b ≡ r
turned_is (Some s) r b e h = ap not (h s refl) ∙ some_is (not s) r e
turned_is None r b e h = none_some r e

same_by : (c : Cmp) (w : ℕ) (r : Bool) → (a b : Range) → tells true a b c ≡ Some r → compares c w w ≡ r
same_by Eq w r a b e = eq-eqb w w refl ∙ some_is true r e
same_by Ne w r a b e = ap not (eq-eqb w w refl) ∙ some_is false r e
same_by Lt w r a b e = le-ltb w w (omega arith) ∙ some_is false r e
same_by Ge w r a b e = ap not (le-ltb w w (omega arith)) ∙ some_is true r e

apart_by : (c : Cmp) (a b : Range) (w v : ℕ) (r : Bool) → In a w → In b v → tells false a b c ≡ Some r → compares c w v ≡ r
apart_by Eq a b w v r i j e = equal_word a b w v r i j e
apart_by Ne a b w v r i j e = turned_is (equal a b) r (nat_eq w v) e (λ s f. equal_word a b w v s i j f)
apart_by Lt a b w v r i j e = less_word a b w v r i j e
apart_by Ge a b w v r i j e = turned_is (less a b) r (nat_lt w v) e (λ s f. less_word a b w v s i j f)

-- what is told is so
pub tells_word : (same : Bool) (c : Cmp) (a b : Range) (w v : ℕ) (r : Bool) → (same ≡ true → w ≡ v) → In a w → In b v → tells same a b c ≡ Some r → compares c w v ≡ r
tells_word true c a b w v r s i j e = ap (λ u. compares c w u) (sym (s refl)) ∙ same_by c w r a b e
tells_word false c a b w v r s i j e = apart_by c a b w v r i j e

-- ---- both words of a comparison that holds

without_word : (a b : Range) (w v : ℕ) → IsWord w → nat_eq w v ≡ false → In a w → In b v → In (without a b) w
without_word a b w v h n i j = at (nat_eq b.low b.high) refl (nat_eq a.low b.low) refl (nat_eq a.high b.low) refl
  where
    x : a.low ≤ w
    x = i.low

    y : w ≤ a.high
    y = i.high

    z : b.low ≤ v
    z = j.low

    u : v ≤ b.high
    u = j.high

    low : nat_eq b.low b.high ≡ true → nat_eq a.low b.low ≡ true → min (a.low + 1) most ≤ w
    low e f = let p = eqb-true b.low b.high e in let q = eqb-true a.low b.low f in let le : v ≤ w = omega (arith, x, z, u, p, q) in let lt = above w v n le in omega (arith, z, p, q, lt)

    high : nat_eq b.low b.high ≡ true → nat_eq a.high b.low ≡ true → w ≤ a.high - 1
    high e g = let p = eqb-true b.low b.high e in let q = eqb-true a.high b.low g in let le : w ≤ v = omega (arith, y, z, u, p, q) in let lt = below w v n le in omega (arith, u, p, q, lt)

    at : (p : Bool) → nat_eq b.low b.high ≡ p → (q : Bool) → nat_eq a.low b.low ≡ q → (s : Bool) → nat_eq a.high b.low ≡ s
        → In (if p then from (if q then min (a.low + 1) most else a.low) (if s then a.high - 1 else a.high) else a) w
    at false e q f s g = i
    at true e true f true g = record { low = low e f; high = high e g }
    at true e true f false g = record { low = low e f; high = y }
    at true e false f true g = record { low = x; high = high e g }
    at true e false f false g = i

not_false : (b : Bool) → not b ≡ true → b ≡ false
not_false true e = absurd (false≢true e)
not_false false e = refl

turned_eq : (w v : ℕ) → nat_eq w v ≡ false → nat_eq v w ≡ false
turned_eq w v e = ne_eqb v w (λ o. eqb-false w v e (sym o))

pub first_word : (c : Cmp) (a b : Range) (w v : ℕ) → IsWord w → In a w → In b v → compares c w v ≡ true → In (of_first c a b) w
first_word Eq a b w v h i j e = subst (In b) (sym (eqb-true w v e)) j
first_word Ne a b w v h i j e = without_word a b w v h (not_false (nat_eq w v) e) i j
first_word Lt a b w v h i j e = let y = j.high in let lt = ltb-true w v e in record { low = omega arith; high = omega (arith, y, lt) }
first_word Ge a b w v h i j e = let x = j.low in let le = ltb-false w v (not_false (nat_lt w v) e) in record { low = omega (arith, x, le); high = omega (arith, h) }

pub second_word : (c : Cmp) (a b : Range) (w v : ℕ) → IsWord v → In a w → In b v → compares c w v ≡ true → In (of_second c a b) v
second_word Eq a b w v h i j e = subst (In a) (eqb-true w v e) i
second_word Ne a b w v h i j e = without_word b a v w h (turned_eq w v (not_false (nat_eq w v) e)) j i
second_word Lt a b w v h i j e = let x = i.low in let lt = ltb-true w v e in record { low = omega (arith, x, lt); high = omega (arith, h) }
second_word Ge a b w v h i j e = let y = i.high in let le = ltb-false w v (not_false (nat_lt w v) e) in record { low = omega arith; high = omega (arith, y, le) }

-- ---- operations

shift_low : (k m n : ℕ) → m ≤ n → m / 2 ^ k ≤ n / 2 ^ k
shift_low k m n h = le-div (m / 2 ^ k) n (2 ^ k) (pow_pos k) (let le = div-mul-le_self m (2 ^ k) in omega (arith, le, h))

pub una_word_in : (op : Una) (a : Range) (w : ℕ) → HasCount op → IsWord w → In a w → In (of_una op a) (una_word op w)
una_word_in Not a w count h i = in_all (una_word Not w) (una-fits Not w count h)
una_word_in (Shl k) a w count h i = in_all (una_word (Shl k) w) (una-fits (Shl k) w count h)
una_word_in (Rol k) a w count h i = in_all (una_word (Rol k) w) (una-fits (Rol k) w count h)
una_word_in (Shr k) a w count h i = at (nat_lt k 32)
  where
    at : (b : Bool) → In (if b then from (a.low / 2 ^ k) (a.high / 2 ^ k) else all_words) (w / 2 ^ k)
    at true = record { low = shift_low k a.low w i.low; high = shift_low k w a.high i.high }
    at false = in_all (w / 2 ^ k) (una-fits (Shr k) w count h)

sum_in : (a b : Range) (w v : ℕ) → IsWord (bin_word Add w v) → In a w → In b v → In (of_bin Add a b) (bin_word Add w v)
sum_in a b w v h i j = at (nat_le (a.high + b.high) most) refl
  where
    at : (p : Bool) → nat_le (a.high + b.high) most ≡ p → In (if p then from (min (a.low + b.low) most) (a.high + b.high) else all_words) ((w + v) % 2 ^ 32)
    at true e =
        let x = i.low in let y = i.high in let z = j.low in let u = j.high in
        let le = leb-true (a.high + b.high) most e in
        let small : w + v < 2 ^ 32 = omega (arith, y, u, le) in
        let same : (w + v) % 2 ^ 32 ≡ w + v = mod-eq_of_lt small in
        record { low = omega (arith, x, z, same); high = omega (arith, y, u, same) }
    at false e = in_all ((w + v) % 2 ^ 32) h

difference_in : (a b : Range) (w v : ℕ) → IsWord w → IsWord (bin_word Sub w v) → In a w → In b v → In (of_bin Sub a b) (bin_word Sub w v)
difference_in a b w v word h i j = at (nat_le b.high a.low) refl
  where
    at : (p : Bool) → nat_le b.high a.low ≡ p → In (if p then from (a.low - b.high) (a.high - b.low) else all_words) ((w + 2 ^ 32 - v) % 2 ^ 32)
    at true e =
        let x = i.low in let y = i.high in let z = j.low in let u = j.high in
        let ends = leb-true b.high a.low e in
        let le : v ≤ w = omega (arith, x, u, ends) in
        let same : (w + 2 ^ 32 - v) % 2 ^ 32 ≡ w - v = omega (arith, le, word) in
        record { low = omega (arith, x, u, same); high = omega (arith, y, z, same) }
    at false e = in_all ((w + 2 ^ 32 - v) % 2 ^ 32) h

and_in : (a b : Range) (w v : ℕ) → In a w → In b v → In (of_bin And a b) (bin_word And w v)
and_in a b w v i j =
    let x = i.high in let y = j.high in let l = and_le_l w v in let r = and_le_r w v in
    record { low = omega arith; high = omega (arith, x, y, l, r) }

pub bin_word_in : (op : Bin) (a b : Range) (w v : ℕ) → IsWord w → IsWord v → In a w → In b v → In (of_bin op a b) (bin_word op w v)
bin_word_in Add a b w v h k i j = sum_in a b w v (bin-fits Add w v h k) i j
bin_word_in Sub a b w v h k i j = difference_in a b w v h (bin-fits Sub w v h k) i j
bin_word_in And a b w v h k i j = and_in a b w v i j
bin_word_in Or a b w v h k i j = in_all (bin_word Or w v) (bin-fits Or w v h k)
bin_word_in Xor a b w v h k i j = in_all (bin_word Xor w v) (bin-fits Xor w v h k)

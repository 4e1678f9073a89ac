-- Which values are defined at a point or above it: those whose point has it below.
use Rattle.std.proofs.Common.{◌≡◌, ℕ, suc, ◌+◌, ◌<◌, ◌≤◌, Bool, true, false, ◌&&◌, ◌||◌, if◌then◌else◌, nat_eq, nat_le, List, [], ◌∷◌, ◌++◌, length, map, get_or, Option, Some, refl, sym, ap, subst, ◌∙◌, arith}
use Rattle.std.proofs.Math.Bool.{or_assoc, or-false, and-true}
use Rattle.std.proofs.lemmas.List.{append-nil}
use Rattle.std.proofs.lemmas.Bool.{false≢true, le-leb, lt-leb}
use Rattle.nv_base.specs.Sets.{is_in, all_different}
use Rattle.nv_base.proofs.Sets.{in-append}
use Rattle.ssu_ir.specs.Tree.{Lit, Una, Bin, Clone, Read, Write, Tree, Do, If, End, Label, Does, Forks, Ends, step_values}
use Rattle.ssu_ir.specs.Points.{Names, own, names_after, PointKind, Entry, At, Point, place_values, nodes, tree_points, label_points, points_from}
use Rattle.ssu_ir.proofs.PointLemmas.{length-tree_points}
use Rattle.ssu_ir.proofs.Lists.{same-order}
use Rattle.place_plan.specs.Uses as pure
use Rattle.place_plan.specs.Uses.{ValueOrigin, Parameter, Fetched, numbered, values_from}
use Rattle.ssu_liveness.specs.inner.Numbers.{values_among}
use Rattle.ssu_liveness.proofs.Scoped.{split-different}
use Rattle.bank_prog_rows.specs.inner.Waiting.{point_in, covers}

-- ---- truth values

and-false : (a : Bool) → (a && false) ≡ false
and-false true = refl
and-false false = refl

-- ---- points that have a point below

-- whether a value is defined at a point that is this one or has it below; the points are numbered from j
abbrev pub under : ℕ → ℕ → List Point → ℕ → Bool
under x j [] k = false
under x j (q ∷ ps) k = (is_in x (place_values q.place) && (nat_le j k && nat_le k (j + q.below))) || under x (suc j) ps k

within : (v : Bool) (j n k : ℕ) → j ≤ k → k ≤ j + n → (v && (nat_le j k && nat_le k (j + n))) ≡ v
within v j n k a b = ap (λ c. v && (c && nat_le k (j + n))) (le-leb j k a) ∙ ap (λ c. v && c) (le-leb k (j + n) b) ∙ and-true v

early : (v : Bool) (j n k : ℕ) → k < j → (v && (nat_le j k && nat_le k (j + n))) ≡ false
early v j n k h = ap (λ c. v && (c && nat_le k (j + n))) (lt-leb j k h) ∙ and-false v

late : (v : Bool) (j n k : ℕ) → j + n < k → (v && (nat_le j k && nat_le k (j + n))) ≡ false
late v j n k h = ap (λ c. v && (nat_le j k && c)) (lt-leb k (j + n) h) ∙ ap (λ c. v && c) (and-false (nat_le j k)) ∙ and-false v

under-early : (x j : ℕ) (ps : List Point) (k : ℕ) → k < j → under x j ps k ≡ false
under-early x j [] k h = refl
under-early x j (q ∷ ps) k h = ap (λ b. b || under x (suc j) ps k) (early (is_in x (place_values q.place)) j q.below k h) ∙ under-early x (suc j) ps k (omega (arith, h))

under-append : (x j : ℕ) (ps qs : List Point) (k : ℕ) → under x j (ps ++ qs) k ≡ (under x j ps k || under x (j + length ps) qs k)
under-append x j [] qs k = let n : j ≡ j + 0 = omega arith in ap (λ m. under x m qs k) n
under-append x j (q ∷ ps) qs k =
    let n : suc j + length ps ≡ j + suc (length ps) = omega arith in
    let h = is_in x (place_values q.place) && (nat_le j k && nat_le k (j + q.below)) in
    ap (λ b. h || b) (under-append x (suc j) ps qs k ∙ ap (λ m. under x (suc j) ps k || under x m qs k) n) ∙ sym (or_assoc h (under x (suc j) ps k) (under x (j + suc (length ps)) qs k))

under-late : (x : ℕ) (of : Names) (above : List ℕ) (t : Tree) (j k : ℕ) → j + nodes t ≤ k → under x j (tree_points of above t) k ≡ false
under-late x of above (Do s t) j k h =
    let rest = tree_points (names_after of s) (above ++ step_values s) t in
    ap (λ b. b || under x (suc j) rest k) (late (is_in x (step_values s)) j (nodes t) k (omega (arith, h))) ∙ under-late x (names_after of s) (above ++ step_values s) t (suc j) k (omega (arith, h))
under-late x of above (If c y z t u) j k h =
    let ps = tree_points of above t in
    let qs = tree_points of above u in
    let n = length-tree_points of above t in
    under-append x (suc j) ps qs k ∙ ap (λ b. b || under x (suc j + length ps) qs k) (under-late x of above t (suc j) k (omega (arith, h))) ∙ under-late x of above u (suc j + length ps) k (omega (arith, h, n))
under-late x of above (End l) j k h = refl

-- ---- what is defined at a point or above it

-- of each point, whether x is defined there or above is what f says
abbrev pub Tested : ℕ → (ℕ → Bool) → ℕ → List Point → Type 0
Tested x f j [] = Unit {0}
Tested x f j (q ∷ ps) = (is_in x (q.above ++ place_values q.place) ≡ f j) × Tested x f (suc j) ps

pub tested-as : (x : ℕ) (f g : ℕ → Bool) (j : ℕ) (ps : List Point) → ((k : ℕ) → j ≤ k → k < j + length ps → f k ≡ g k) → Tested x f j ps → Tested x g j ps
tested-as x f g j [] e h = tt
tested-as x f g j (q ∷ ps) e h = (h.0 ∙ e j (omega arith) (omega arith), tested-as x f g (suc j) ps (λ k a b. e k (omega (arith, a)) (omega (arith, b))) h.1)

tested-append : (x : ℕ) (f : ℕ → Bool) (j : ℕ) (ps qs : List Point) → Tested x f j ps → Tested x f (j + length ps) qs → Tested x f j (ps ++ qs)
tested-append x f j [] qs h g = let n : j + 0 ≡ j = omega arith in subst (λ m. Tested x f m qs) n g
tested-append x f j (q ∷ ps) qs h g =
    let n : j + suc (length ps) ≡ suc j + length ps = omega arith in
    (h.0, tested-append x f (suc j) ps qs h.1 (subst (λ m. Tested x f m qs) n g))

-- the first point of some, whose values are defined behind those above
first-here : (x j n : ℕ) (vs : List ℕ) (ps : List Point) → ((is_in x vs && (nat_le j j && nat_le j (j + n))) || under x (suc j) ps j) ≡ is_in x vs
first-here x j n vs ps =
    ap (λ b. b || under x (suc j) ps j) (within (is_in x vs) j n j (omega arith) (omega arith)) ∙ ap (λ b. is_in x vs || b) (under-early x (suc j) ps j (omega arith)) ∙ or-false (is_in x vs)

behind-first : (x j n k : ℕ) (above vs : List ℕ) (ps : List Point) → suc j ≤ k → k ≤ j + n
    → (is_in x (above ++ vs) || under x (suc j) ps k) ≡ (is_in x above || ((is_in x vs && (nat_le j k && nat_le k (j + n))) || under x (suc j) ps k))
behind-first x j n k above vs ps a b =
    ap (λ c. c || under x (suc j) ps k) (in-append x above vs) ∙ or_assoc (is_in x above) (is_in x vs) (under x (suc j) ps k)
    ∙ ap (λ c. is_in x above || (c || under x (suc j) ps k)) (sym (within (is_in x vs) j n k (omega (arith, a)) b))

tree-tested : (x : ℕ) (of : Names) (above : List ℕ) (t : Tree) (j : ℕ) → Tested x (λ k. is_in x above || under x j (tree_points of above t) k) j (tree_points of above t)
tree-tested x of above (Do s t) j =
    let vs = step_values s in
    let ps = tree_points (names_after of s) (above ++ vs) t in
    let n = length-tree_points (names_after of s) (above ++ vs) t in (
      in-append x above vs ∙ ap (λ b. is_in x above || b) (sym (first-here x j (nodes t) vs ps)),
      tested-as x (λ k. is_in x (above ++ vs) || under x (suc j) ps k) (λ k. is_in x above || under x j (tree_points of above (Do s t)) k) (suc j) ps
          (λ k a b. behind-first x j (nodes t) k above vs ps a (omega (arith, b, n))) (tree-tested x (names_after of s) (above ++ vs) t (suc j)),
    )
tree-tested x of above (If c y z t u) j =
    let ps = tree_points of above t in
    let qs = tree_points of above u in
    let n = length-tree_points of above t in
    let f = λ (k : ℕ). is_in x above || under x j (tree_points of above (If c y z t u)) k in (
      ap (is_in x) (append-nil above) ∙ sym (or-false (is_in x above)) ∙ ap (λ b. is_in x above || b) (sym (under-early x (suc j) (ps ++ qs) j (omega arith))),
      tested-append x f (suc j) ps qs
          (tested-as x (λ k. is_in x above || under x (suc j) ps k) f (suc j) ps
          (λ k a b. ap (λ v. is_in x above || v) (sym (under-append x (suc j) ps qs k ∙ ap (λ v. under x (suc j) ps k || v) (under-early x (suc j + length ps) qs k b) ∙ or-false (under x (suc j) ps k))))
          (tree-tested x of above t (suc j)))
          (tested-as x (λ k. is_in x above || under x (suc j + length ps) qs k) f (suc j + length ps) qs
          (λ k a b. ap (λ v. is_in x above || v) (sym (under-append x (suc j) ps qs k ∙ ap (λ v. v || under x (suc j + length ps) qs k) (under-late x of above t (suc j) k (omega (arith, a, n))))))
          (tree-tested x of above u (suc j + length ps))),
    )
tree-tested x of above (End l) j = (ap (is_in x) (append-nil above) ∙ sym (or-false (is_in x above)), tt)

-- ---- labels

label-tested : (x n : ℕ) (l : Label) (j : ℕ) → Tested x (λ k. under x j (label_points n l) k) j (label_points n l)
label-tested x n l j =
    let ps = tree_points own l.params l.body in
    let m = length-tree_points own l.params l.body in (
      sym (first-here x j (nodes l.body) l.params ps),
      tested-as x (λ k. is_in x l.params || under x (suc j) ps k) (λ k. under x j (label_points n l) k) (suc j) ps
          (λ k a b. behind-first x j (nodes l.body) k [] l.params ps a (omega (arith, b, m))) (tree-tested x own l.params l.body (suc j)),
    )

label-late : (x n : ℕ) (l : Label) (j k : ℕ) → j + length (label_points n l) ≤ k → under x j (label_points n l) k ≡ false
label-late x n l j k h =
    let ps = tree_points own l.params l.body in
    let m = length-tree_points own l.params l.body in
    ap (λ b. b || under x (suc j) ps k) (late (is_in x l.params) j (nodes l.body) k (omega (arith, h, m))) ∙ under-late x own l.params l.body (suc j) k (omega (arith, h, m))

pub all-tested : (x n : ℕ) (ls : List Label) (j : ℕ) → Tested x (λ k. under x j (points_from n ls) k) j (points_from n ls)
all-tested x n [] j = tt
all-tested x n (l ∷ ls) j =
    let ps = label_points n l in
    let qs = points_from (suc n) ls in
    let f = λ (k : ℕ). under x j (ps ++ qs) k in
    tested-append x f j ps qs
    (tested-as x (λ k. under x j ps k) f j ps
    (λ k a b. sym (under-append x j ps qs k ∙ ap (λ v. under x j ps k || v) (under-early x (j + length ps) qs k b) ∙ or-false (under x j ps k))) (label-tested x n l j))
    (tested-as x (λ k. under x (j + length ps) qs k) f (j + length ps) qs
    (λ k a b. sym (under-append x j ps qs k ∙ ap (λ v. v || under x (j + length ps) qs k) (label-late x n l j k a))) (all-tested x (suc n) ls (j + length ps)))

-- ---- the point that defines a value

numbered-in : (j : ℕ) (origin : ℕ → ValueOrigin) (i : ℕ) (xs : List ℕ) (rest : List pure.Value) (x : ℕ) → point_in (numbered j origin i xs ++ rest) x ≡ (if is_in x xs then Some j else point_in rest x)
numbered-in j origin i [] rest x = refl
numbered-in j origin i (y ∷ ys) rest x = pick (nat_eq y x) (nat_eq x y) (same-order y x) (numbered-in j origin (suc i) ys rest x)
  where
    pick : (a b : Bool) → a ≡ b → point_in (numbered j origin (suc i) ys ++ rest) x ≡ (if is_in x ys then Some j else point_in rest x)
        → (if a then Some j else point_in (numbered j origin (suc i) ys ++ rest) x) ≡ (if b || is_in x ys then Some j else point_in rest x)
    pick true true e h = refl
    pick false false e h = h
    pick true false e h = absurd (false≢true (sym e))
    pick false true e h = absurd (false≢true e)

one-in : (j y : ℕ) (rest : Option ℕ) (x : ℕ) → (if nat_eq y x then Some j else rest) ≡ (if nat_eq x y || false then Some j else rest)
one-in j y rest x = ap (λ b. if b then Some j else rest) (same-order y x ∙ sym (or-false (nat_eq x y)))

place-in : (j : ℕ) (p : PointKind) (rest : List pure.Value) (x : ℕ) → point_in (pure.place_values j p ++ rest) x ≡ (if is_in x (place_values p) then Some j else point_in rest x)
place-in j (Entry l params) rest x = numbered-in j (Parameter l) 0 params rest x
place-in j (At (Does (Lit v n))) rest x = one-in j v (point_in rest x) x
place-in j (At (Does (Una v op y))) rest x = one-in j v (point_in rest x) x
place-in j (At (Does (Bin v op y z))) rest x = one-in j v (point_in rest x) x
place-in j (At (Does (Clone xs y))) rest x = refl
place-in j (At (Does (Read m xs y))) rest x = numbered-in j (Fetched m) 0 xs rest x
place-in j (At (Does (Write m y xs))) rest x = refl
place-in j (At (Forks c y z)) rest x = refl
place-in j (At (Ends l)) rest x = refl

under-none : (x j : ℕ) (ps : List Point) (k : ℕ) → is_in x (values_among (map (λ p. p.place) ps)) ≡ false → under x j ps k ≡ false
under-none x j [] k h = refl
under-none x j (q ∷ ps) k h = pick (is_in x (place_values q.place)) (is_in x (values_among (map (λ p. p.place) ps))) refl refl (sym (in-append x (place_values q.place) (values_among (map (λ p. p.place) ps))) ∙ h) (under-none x (suc j) ps k)
  where
    pick : (a b : Bool) → is_in x (place_values q.place) ≡ a → is_in x (values_among (map (λ p. p.place) ps)) ≡ b → (is_in x (place_values q.place) || is_in x (values_among (map (λ p. p.place) ps))) ≡ false
        → (is_in x (values_among (map (λ p. p.place) ps)) ≡ false → under x (suc j) ps k ≡ false) → under x j (q ∷ ps) k ≡ false
    pick true b e f g r = absurd (false≢true (sym g ∙ ap (λ c. c || is_in x (values_among (map (λ p. p.place) ps))) e))
    pick false true e f g r = absurd (false≢true (sym g ∙ ap (λ c. c || is_in x (values_among (map (λ p. p.place) ps))) e ∙ f))
    pick false false e f g r = ap (λ c. (c && (nat_le j k && nat_le k (j + q.below))) || under x (suc j) ps k) e ∙ r f

none-behind : (x : ℕ) (a b : List ℕ) → ((y : ℕ) → is_in y a ≡ true → is_in y b ≡ true → ⊥) → is_in x a ≡ true → is_in x b ≡ false
none-behind x a b h e = pick (is_in x b) refl
  where
    pick : (c : Bool) → is_in x b ≡ c → is_in x b ≡ false
    pick true f = absurd (h x e f)
    pick false f = f

pub first-covers : (below : ℕ → ℕ) (x j : ℕ) (ps : List Point) (k : ℕ) → all_different (values_among (map (λ p. p.place) ps)) ≡ true
    → ((i : ℕ) → i < length ps → below (j + i) ≡ get_or (map (λ p. p.below) ps) i 0) → under x j ps k ≡ covers below (point_in (values_from j ps) x) k
first-covers below x j [] k d h = refl
first-covers below x j (q ∷ ps) k d h =
    let parts = split-different (place_values q.place) (values_among (map (λ p. p.place) ps)) d in
    let zero-up : j ≡ j + 0 = omega arith in
    let here : below j ≡ q.below = ap below zero-up ∙ h 0 (omega arith) in
    pick (is_in x (place_values q.place)) refl here (none-behind x (place_values q.place) (values_among (map (λ p. p.place) ps)) parts.2)
    (first-covers below x (suc j) ps k parts.1 (λ i l. (let n : suc j + i ≡ j + suc i = omega arith in ap below n) ∙ h (suc i) (omega (arith, l))))
    ∙ ap (λ o. covers below o k) (sym (place-in j q.place (values_from (suc j) ps) x))
  where
    pick : (b : Bool) → is_in x (place_values q.place) ≡ b → below j ≡ q.below → (is_in x (place_values q.place) ≡ true → is_in x (values_among (map (λ p. p.place) ps)) ≡ false)
        → under x (suc j) ps k ≡ covers below (point_in (values_from (suc j) ps) x) k
        → under x j (q ∷ ps) k ≡ covers below (if is_in x (place_values q.place) then Some j else point_in (values_from (suc j) ps) x) k
    pick true e w n r =
        ap (λ c. (c && (nat_le j k && nat_le k (j + q.below))) || under x (suc j) ps k) e ∙ ap (λ c. (nat_le j k && nat_le k (j + q.below)) || c) (under-none x (suc j) ps k (n e)) ∙ or-false (nat_le j k && nat_le k (j + q.below))
        ∙ ap (λ m. nat_le j k && nat_le k (j + m)) (sym w) ∙ ap (λ c. covers below (if c then Some j else point_in (values_from (suc j) ps) x) k) (sym e)
    pick false e w n r =
        ap (λ c. (c && (nat_le j k && nat_le k (j + q.below))) || under x (suc j) ps k) e ∙ r ∙ ap (λ c. covers below (if c then Some j else point_in (values_from (suc j) ps) x) k) (sym e)

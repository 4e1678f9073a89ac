-- What values and their clones do.
use Rattle.std.proofs.Common.{◌≡◌, ℕ, ◌+◌, ◌<◌, ◌≤◌, Bool, true, false, nat_eq, nat_lt, ◌||◌, List, [], ◌∷◌, ◌++◌, map, refl, sym, ap, subst, ◌∙◌, ◌⊎◌, inl, inr, ⊎_elim, if◌then◌else◌, arith}
use Rattle.std.proofs.lemmas.Bool.{false≢true, or_cases, or_left, or_right, cases_eq, ne_eqb}
use Rattle.std.proofs.lemmas.Bool.Decides.{nat_tests}
use Rattle.std.proofs.lemmas.List.{append-nil}
use Rattle.std.specs.List.{range_with_len}
use Rattle.nv_base.specs.Words.{Env, assigned, assigned_all}
use Rattle.nv_base.specs.World.{World}
use Rattle.nv_base.specs.Sets.{is_in}
use Rattle.nv_base.proofs.Sets.{same-number, in-later}
use Rattle.ssu_ir.specs.Tree as ssu
use Rattle.ssu_ir.specs.Meaning.{Next, does, assigned_each}
use Rattle.ssu_make.specs.Uses.{Counts, outside}
use Rattle.ssu_make.specs.Made.{value, clone_step, clones}
use Rattle.ssu_make.proofs.Assigned.{same-test, assigned-same, assigned-other, each-outside, each-inside}
use Rattle.ssu_make.proofs.Literals.{Agrees}

-- where the names of used variables and of these ones lie: below m, and apart
pub record Place (base r : Counts) (m : ℕ) (vs : List ℕ) : Type 0 where
  pub live : (y : ℕ) → 0 < r y → is_in y vs ≡ true
  pub below : (y : ℕ) → is_in y vs ≡ true → base y + r y < m
  pub apart : (x y : ℕ) → is_in x vs ≡ true → is_in y vs ≡ true → (x ≡ y → ⊥) → (base x + r x < base y) ⊎ (base y + r y < base x)

-- a value's name is one of its variable's
value-at : (b : Bool) (n k : ℕ) → ((if b then n + k else n) ≡ n) ⊎ ((if b then n + k else n) ≡ n + k)
value-at true n k = inr refl
value-at false n k = inl refl

pub value-is : (base r : Counts) (x : ℕ) → (value base r x ≡ base x) ⊎ (value base r x ≡ base x + r x)
value-is base r x = value-at (nat_lt 1 (r x)) (base x) (r x)

-- names of different variables are different
pub names-apart : (base r : Counts) (m : ℕ) (vs : List ℕ) → Place base r m vs → (x y k j : ℕ) → is_in x vs ≡ true → is_in y vs ≡ true → (x ≡ y → ⊥) → k ≤ r x → j ≤ r y → base x + k ≡ base y + j → ⊥
names-apart base r m vs p x y k j ix iy ne lk lj e =
    ⊎_elim (λ (h : base x + r x < base y). omega arith) (λ (h : base y + r y < base x). omega arith) (p.apart x y ix iy ne)

pub value-apart : (base r : Counts) (m : ℕ) (vs : List ℕ) → Place base r m vs → (x y j : ℕ) → is_in x vs ≡ true → is_in y vs ≡ true → (x ≡ y → ⊥) → j ≤ r y → value base r x ≡ base y + j → ⊥
value-apart base r m vs p x y j ix iy ne lj e =
    ⊎_elim (λ (v : value base r x ≡ base x). names-apart base r m vs p x y 0 j ix iy ne (omega arith) lj (omega (arith, v, e)))
    (λ (v : value base r x ≡ base x + r x). names-apart base r m vs p x y (r x) j ix iy ne (omega arith) lj (omega (arith, v, e))) (value-is base r x)

pub values-apart : (base r : Counts) (m : ℕ) (vs : List ℕ) → Place base r m vs → (x y : ℕ) → is_in x vs ≡ true → is_in y vs ≡ true → (x ≡ y → ⊥) → value base r x ≡ value base r y → ⊥
values-apart base r m vs p x y ix iy ne e =
    ⊎_elim (λ (v : value base r y ≡ base y). value-apart base r m vs p x y 0 ix iy ne (omega arith) (omega (arith, v, e)))
    (λ (v : value base r y ≡ base y + r y). value-apart base r m vs p x y (r y) ix iy ne (omega arith) (omega (arith, v, e))) (value-is base r y)

-- ---- the values of variables that begin here

-- those of `zs` begin here, and `set` have begun: their values have their words, and the copies of all others
record Begun (base r : Counts) (zs set : List ℕ) (env e : Env) : Type 0 where
  values : (y : ℕ) → is_in y set ≡ true → e (value base r y) ≡ env y
  others : (y k : ℕ) → is_in y zs ≡ false → k < r y → e (base y + k) ≡ env y

not-both : (x y : ℕ) (zs : List ℕ) → is_in x zs ≡ true → is_in y zs ≡ false → x ≡ y → ⊥
not-both x y zs i o e = false≢true (sym o ∙ subst (λ z. is_in z zs ≡ true) e i)

begins-value : (base r : Counts) (m : ℕ) (vs zs set : List ℕ) (env e : Env) (x w : ℕ) → Place base r m vs → is_in x vs ≡ true → is_in x zs ≡ true → ((y : ℕ) → is_in y set ≡ true → is_in y vs ≡ true) → Begun base r zs set env e
    → (y : ℕ) → (nat_eq y x || is_in y set) ≡ true → (y ≡ x) ⊎ (y ≡ x → ⊥) → assigned e (value base r x) w (value base r y) ≡ assigned env x w y
begins-value base r m vs zs set env e x w p iv iz sub h y i (inl same) =
    ap (λ z. assigned e (value base r x) w (value base r z)) same ∙ assigned-same e (value base r x) w ∙ sym (assigned-same env x w) ∙ ap (λ z. assigned env x w z) (sym same)
begins-value base r m vs zs set env e x w p iv iz sub h y i (inr ne) =
    let there : is_in y set ≡ true = ⊎_elim (λ (f : nat_eq y x ≡ true). absurd (ne (same-number y x f))) (λ (f : is_in y set ≡ true). f) (or_cases (nat_eq y x) (is_in y set) i) in
    assigned-other e (value base r x) w (value base r y) (values-apart base r m vs p y x (sub y there) iv ne)
    ∙ h.values y there ∙ sym (assigned-other env x w y ne)

begins : (base r : Counts) (m : ℕ) (vs zs set : List ℕ) (env e : Env) (x w : ℕ) → Place base r m vs → is_in x vs ≡ true → is_in x zs ≡ true → ((y : ℕ) → is_in y set ≡ true → is_in y vs ≡ true) → Begun base r zs set env e
    → Begun base r zs (x ∷ set) (assigned env x w) (assigned e (value base r x) w)
begins base r m vs zs set env e x w p iv iz sub h = record {
  values = λ y i. begins-value base r m vs zs set env e x w p iv iz sub h y i (cases_eq y x);
  others = λ y k o lt.
      let ne : x ≡ y → ⊥ = not-both x y zs iz o in
      assigned-other e (value base r x) w (base y + k) (λ q. value-apart base r m vs p x y k iv (p.live y (omega arith)) ne (omega arith) (sym q))
      ∙ h.others y k o lt ∙ sym (assigned-other env x w y (λ q. ne (sym q)));
}

sub-more : (x : ℕ) (set vs : List ℕ) → is_in x vs ≡ true → ((y : ℕ) → is_in y set ≡ true → is_in y vs ≡ true) → (y : ℕ) → is_in y (x ∷ set) ≡ true → is_in y vs ≡ true
sub-more x set vs iv sub y i = ⊎_elim (λ (f : nat_eq y x ≡ true). subst (λ z. is_in z vs ≡ true) (sym (same-number y x f)) iv) (λ (f : is_in y set ≡ true). sub y f) (or_cases (nat_eq y x) (is_in y set) i)

begun-first : (base r : Counts) (zs set : List ℕ) (x : ℕ) (xs : List ℕ) (env e : Env) → Begun base r zs (xs ++ x ∷ set) env e → Begun base r zs (x ∷ xs ++ set) env e
begun-first base r zs set x xs env e h = record {
  values = λ y i. h.values y (in-later (nat_eq y x) y xs x set refl i);
  others = h.others;
}

begins-all : (base r : Counts) (m : ℕ) (vs zs : List ℕ) → Place base r m vs → (xs ws set : List ℕ) (env e : Env) → ((y : ℕ) → is_in y xs ≡ true → is_in y vs ≡ true) → ((y : ℕ) → is_in y xs ≡ true → is_in y zs ≡ true)
    → ((y : ℕ) → is_in y set ≡ true → is_in y vs ≡ true) → Begun base r zs set env e → Begun base r zs (xs ++ set) (assigned_all env xs ws) (assigned_all e (map (value base r) xs) ws)
begins-all base r m vs zs p [] ws set env e iv iz sub h = h
begins-all base r m vs zs p (x ∷ xs) [] set env e iv iz sub h =
    let here-vs = iv x (or_left (nat_eq x x) (is_in x xs) (same-test x)) in
    let here-zs = iz x (or_left (nat_eq x x) (is_in x xs) (same-test x)) in
    begun-first base r zs set x xs _ _ (begins-all base r m vs zs p xs [] (x ∷ set) (assigned env x 0) (assigned e (value base r x) 0) (λ y i. iv y (or_right (nat_eq y x) (is_in y xs) i)) (λ y i. iz y (or_right (nat_eq y x) (is_in y xs) i))
    (sub-more x set vs here-vs sub) (begins base r m vs zs set env e x 0 p here-vs here-zs sub h))
begins-all base r m vs zs p (x ∷ xs) (w ∷ ws) set env e iv iz sub h =
    let here-vs = iv x (or_left (nat_eq x x) (is_in x xs) (same-test x)) in
    let here-zs = iz x (or_left (nat_eq x x) (is_in x xs) (same-test x)) in
    begun-first base r zs set x xs _ _ (begins-all base r m vs zs p xs ws (x ∷ set) (assigned env x w) (assigned e (value base r x) w) (λ y i. iv y (or_right (nat_eq y x) (is_in y xs) i)) (λ y i. iz y (or_right (nat_eq y x) (is_in y xs) i))
    (sub-more x set vs here-vs sub) (begins base r m vs zs set env e x w p here-vs here-zs sub h))

-- ---- their clones

-- the values still to be cloned have their words, and so have the copies of all others
pub record Cloned (base r : Counts) (left : List ℕ) (env e : Env) : Type 0 where
  pub values : (y : ℕ) → is_in y left ≡ true → e (value base r y) ≡ env y
  pub copies : (y k : ℕ) → is_in y left ≡ false → k < r y → e (base y + k) ≡ env y

unfoldable pub clone_env : Bool → ℕ → ℕ → Env → Env
clone_env true first n e = assigned_each e (range_with_len first n) (e (first + n))
clone_env false first n e = e

unfoldable pub clones_env : Counts → Counts → List ℕ → Env → Env
clones_env base r [] e = e
clones_env base r (x ∷ xs) e = clones_env base r xs (clone_env (nat_lt 1 (r x)) (base x) (r x) e)

clone-does : (b : Bool) (next : Next) (first n : ℕ) (t : ssu.Tree) (e : Env) (w : World) → does next (clone_step b first n t) e w ≡ does next t (clone_env b first n e) w
unfolding clone_env
clone-does true next first n t e w = refl
clone-does false next first n t e w = refl

pub clones-do : (next : Next) (base r : Counts) (xs : List ℕ) (t : ssu.Tree) (e : Env) (w : World) → does next (clones base r xs t) e w ≡ does next t (clones_env base r xs e) w
unfolding clones_env
clones-do next base r [] t e w = refl
clones-do next base r (x ∷ xs) t e w = clone-does (nat_lt 1 (r x)) next (base x) (r x) (clones base r xs t) e w ∙ clones-do next base r xs t (clone_env (nat_lt 1 (r x)) (base x) (r x) e) w

pub clone-outside : (b : Bool) (first n z : ℕ) (e : Env) → (z < first) ⊎ (first + n ≤ z) → clone_env b first n e z ≡ e z
unfolding clone_env
clone-outside true first n z e h = each-outside n first z e (e (first + n)) h
clone-outside false first n z e h = refl

pub clone-inside : (b : Bool) (first n k : ℕ) (e : Env) (w : ℕ) → nat_lt 1 n ≡ b → e (if b then first + n else first) ≡ w → k < n → clone_env b first n e (first + k) ≡ w
unfolding clone_env
clone-inside true first n k e w two v lt = each-inside n first k e (e (first + n)) lt ∙ v
clone-inside false first n k e w two v lt = let none : first + k ≡ first = grind (arith, nat_tests) in ap e none ∙ v

apart-outside : (base r : Counts) (x y k : ℕ) → k ≤ r y → (base x + r x < base y) ⊎ (base y + r y < base x) → (base y + k < base x) ⊎ (base x + r x ≤ base y + k)
apart-outside base r x y k le (inl h) = inr (omega arith)
apart-outside base r x y k le (inr h) = inl (omega arith)

value-le : (b : Bool) (n k : ℕ) → (j : ℕ) × ((if b then n + k else n) ≡ n + j) × (j ≤ k)
value-le true n k = (k, refl, omega arith)
value-le false n k = (0, (let same : n ≡ n + 0 = omega arith in same), omega arith)

-- the clones of one variable keep the names of another, and its own value
keeps-other : (base r : Counts) (m : ℕ) (vs : List ℕ) (e : Env) (x y k : ℕ) → Place base r m vs → is_in x vs ≡ true → is_in y vs ≡ true → (x ≡ y → ⊥) → k ≤ r y → clone_env (nat_lt 1 (r x)) (base x) (r x) e (base y + k) ≡ e (base y + k)
keeps-other base r m vs e x y k p ix iy ne le = clone-outside (nat_lt 1 (r x)) (base x) (r x) (base y + k) e (apart-outside base r x y k le (p.apart x y ix iy ne))

pub keeps-own : (b : Bool) (n k : ℕ) (e : Env) → clone_env b n k e (if b then n + k else n) ≡ e (if b then n + k else n)
unfolding clone_env
keeps-own true n k e = each-outside k n (n + k) e (e (n + k)) (inr (omega arith))
keeps-own false n k e = refl

keeps-value : (base r : Counts) (m : ℕ) (vs : List ℕ) (e : Env) (x y : ℕ) → Place base r m vs → is_in x vs ≡ true → is_in y vs ≡ true → (y ≡ x) ⊎ (y ≡ x → ⊥) → clone_env (nat_lt 1 (r x)) (base x) (r x) e (value base r y) ≡ e (value base r y)
keeps-value base r m vs e x y p ix iy (inl same) =
    ap (λ z. clone_env (nat_lt 1 (r x)) (base x) (r x) e (value base r z)) same ∙ keeps-own (nat_lt 1 (r x)) (base x) (r x) e ∙ ap (λ z. e (value base r z)) (sym same)
keeps-value base r m vs e x y p ix iy (inr ne) =
    let at = value-le (nat_lt 1 (r y)) (base y) (r y) in
    ap (clone_env (nat_lt 1 (r x)) (base x) (r x) e) at.1 ∙ keeps-other base r m vs e x y at.0 p ix iy (λ q. ne (sym q)) at.2 ∙ ap e (sym at.1)

cloned-copy : (base r : Counts) (m : ℕ) (vs : List ℕ) (env e : Env) (x : ℕ) (xs : List ℕ) → Place base r m vs → is_in x vs ≡ true → Cloned base r (x ∷ xs) env e
    → (y k : ℕ) → is_in y xs ≡ false → k < r y → (y ≡ x) ⊎ (y ≡ x → ⊥) → clone_env (nat_lt 1 (r x)) (base x) (r x) e (base y + k) ≡ env y
cloned-copy base r m vs env e x xs p ix h y k o lt (inl same) =
    let v : e (value base r x) ≡ env x = h.values x (or_left (nat_eq x x) (is_in x xs) (same-test x)) in
    let here : k < r x = subst (λ z. k < r z) same lt in
    ap (λ z. clone_env (nat_lt 1 (r x)) (base x) (r x) e (base z + k)) same ∙ clone-inside (nat_lt 1 (r x)) (base x) (r x) k e (env x) refl v here ∙ ap env (sym same)
cloned-copy base r m vs env e x xs p ix h y k o lt (inr ne) =
    let out : (nat_eq y x || is_in y xs) ≡ false = ap (λ b. b || is_in y xs) (ne_eqb y x ne) ∙ o in
    keeps-other base r m vs e x y k p ix (p.live y (omega arith)) (λ q. ne (sym q)) (omega arith) ∙ h.copies y k out lt

clone-one : (base r : Counts) (m : ℕ) (vs : List ℕ) (env e : Env) (x : ℕ) (xs : List ℕ) → Place base r m vs → ((y : ℕ) → is_in y (x ∷ xs) ≡ true → is_in y vs ≡ true) → Cloned base r (x ∷ xs) env e
    → Cloned base r xs env (clone_env (nat_lt 1 (r x)) (base x) (r x) e)
clone-one base r m vs env e x xs p iv h =
    let ix = iv x (or_left (nat_eq x x) (is_in x xs) (same-test x)) in
    record {
      values = λ y i.
          let more = or_right (nat_eq y x) (is_in y xs) i in
          keeps-value base r m vs e x y p ix (iv y more) (cases_eq y x) ∙ h.values y more;
      copies = λ y k o lt. cloned-copy base r m vs env e x xs p ix h y k o lt (cases_eq y x);
    }

pub clone-all : (base r : Counts) (m : ℕ) (vs : List ℕ) → Place base r m vs → (xs : List ℕ) (env e : Env) → ((y : ℕ) → is_in y xs ≡ true → is_in y vs ≡ true) → Cloned base r xs env e → Cloned base r [] env (clones_env base r xs e)
unfolding clones_env
clone-all base r m vs p [] env e iv h = h
clone-all base r m vs p (x ∷ xs) env e iv h = clone-all base r m vs p xs env (clone_env (nat_lt 1 (r x)) (base x) (r x) e) (λ y i. iv y (or_right (nat_eq y x) (is_in y xs) i)) (clone-one base r m vs env e x xs p iv h)

-- ---- together

outside-not : (xs : List ℕ) (r : Counts) (y : ℕ) → is_in y xs ≡ false → outside xs r y ≡ r y
outside-not xs r y o = ap (λ b. if b then 0 else r y) o

-- variables that begin with these words, and their clones: all copies have their words
pub values-agree : (base r : Counts) (m : ℕ) (vs xs ws : List ℕ) (env e : Env) → Place base r m vs → ((y : ℕ) → is_in y xs ≡ true → is_in y vs ≡ true) → Agrees base (outside xs r) m env e
    → Agrees base r m (assigned_all env xs ws) (clones_env base r xs (assigned_all e (map (value base r) xs) ws))
values-agree base r m vs xs ws env e p iv g =
    let start : Begun base r xs [] env e = record { values = λ y i. absurd (false≢true i); others = λ y k o lt. g.same y k (subst (λ n. k < n) (sym (outside-not xs r y o)) lt) } in
    let begun = begins-all base r m vs xs p xs ws [] env e iv (λ y i. i) (λ y i. absurd (false≢true i)) start in
    let sets : xs ++ [] ≡ xs = append-nil xs in
    let all = clone-all base r m vs p xs (assigned_all env xs ws) (assigned_all e (map (value base r) xs) ws) iv (record { values = λ y i. begun.values y (subst (λ l. is_in y l ≡ true) (sym sets) i); copies = begun.others }) in
    record {
      below = λ y k lt. let most = p.below y (p.live y (omega arith)) in omega arith;
      same = λ y k lt. all.copies y k refl lt;
    }

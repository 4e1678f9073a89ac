-- Terms of a row: columns rise, terms of one column are added up, and their order doesn't matter.
use Rattle.std.proofs.Common.{◌≡◌, ℕ, zero, suc, ◌≤◌, ◌<◌, nat_eq, nat_lt, Bool, true, false, if◌then◌else◌, List, [], ◌∷◌, ◌++◌, length, map, get_or, set, ℤ, pos, ◌+ℤ◌, Option, Some, None, refl, sym, ap, subst, ◌∙◌, arith}
use Rattle.std.proofs.Math.IntN.{+ℤ_comm, +ℤ_assoc}
use Rattle.std.proofs.lemmas.Bool.{false≢true, ne_eqb, lt-ltb, le-ltb}
use Rattle.std.specs.List.{insert}
use Rattle.bank_prog_form.specs.declared.column.Column.{Column}
use Rattle.bank_prog_form.specs.Program.{Numbers, Terms, add_term, add_named, terms_of}
use Rattle.bank_prog_form.specs.inner.Adds.{Rising, add_each}
use Rattle.ssu_liveness.proofs.Scoped.{in-itself}

-- ---- choices that are known

if-true : {A : Type 0} (b : Bool) (x y : A) → b ≡ true → (if b then x else y) ≡ x
if-true true x y e = refl
if-true false x y e = absurd (false≢true e)

if-false : {A : Type 0} (b : Bool) (x y : A) → b ≡ false → (if b then x else y) ≡ y
if-false false x y e = refl
if-false true x y e = absurd (false≢true (sym e))

pub data Order (a b : ℕ) : Type 0 where
  less : a < b → Order a b
  same : a ≡ b → Order a b
  more : b < a → Order a b

pub order : (a b : ℕ) → Order a b
order zero zero = same refl
order zero (suc b) = less (omega arith)
order (suc a) zero = more (omega arith)
order (suc a) (suc b) = up (order a b)
  where
    up : Order a b → Order (suc a) (suc b)
    up (less h) = less (omega (arith, h))
    up (same h) = same (ap suc h)
    up (more h) = more (omega (arith, h))

-- ---- one term more

add-less : (j : ℕ) (a : ℤ) (t : ℕ × ℤ) (ts : Terms) → j < t.0 → add_term j a (t ∷ ts) ≡ (j, a) ∷ t ∷ ts
add-less j a t ts h = if-true (nat_lt j t.0) ((j, a) ∷ t ∷ ts) (if nat_eq j t.0 then (j, a +ℤ t.1) ∷ ts else t ∷ add_term j a ts) (lt-ltb j t.0 h)

add-same : (j : ℕ) (a : ℤ) (t : ℕ × ℤ) (ts : Terms) → j ≡ t.0 → add_term j a (t ∷ ts) ≡ (j, a +ℤ t.1) ∷ ts
add-same j a t ts h =
    if-false (nat_lt j t.0) ((j, a) ∷ t ∷ ts) (if nat_eq j t.0 then (j, a +ℤ t.1) ∷ ts else t ∷ add_term j a ts) (le-ltb j t.0 (omega (arith, h)))
    ∙ if-true (nat_eq j t.0) ((j, a +ℤ t.1) ∷ ts) (t ∷ add_term j a ts) (ap (nat_eq j) (sym h) ∙ in-itself j)

add-more : (j : ℕ) (a : ℤ) (t : ℕ × ℤ) (ts : Terms) → t.0 < j → add_term j a (t ∷ ts) ≡ t ∷ add_term j a ts
add-more j a t ts h =
    if-false (nat_lt j t.0) ((j, a) ∷ t ∷ ts) (if nat_eq j t.0 then (j, a +ℤ t.1) ∷ ts else t ∷ add_term j a ts) (le-ltb j t.0 (omega (arith, h)))
    ∙ if-false (nat_eq j t.0) ((j, a +ℤ t.1) ∷ ts) (t ∷ add_term j a ts) (ne_eqb j t.0 (λ e. omega (arith, h, e)))

-- ---- where it goes

rise-less : (lo : ℕ) (ts : Terms) (i : ℕ) → Rising lo ts → i < length ts → lo ≤ (get_or ts i (0, pos 0)).0
rise-less lo [] i r l = absurd (omega arith)
rise-less lo (t ∷ ts) zero r l = r.0
rise-less lo (t ∷ ts) (suc i) r l = let h = rise-less (suc t.0) ts i r.1 (omega arith) in omega (arith, h, r.0)

pub below-place : (lo : ℕ) (ts : Terms) (p j i : ℕ) → Rising lo ts → p < length ts → (get_or ts p (0, pos 0)).0 < j → i ≤ p → (get_or ts i (0, pos 0)).0 < j
below-place lo [] p j i r l b h = absurd (omega arith)
below-place lo (t ∷ ts) zero j zero r l b h = b
below-place lo (t ∷ ts) zero j (suc i) r l b h = absurd (omega arith)
below-place lo (t ∷ ts) (suc p) j zero r l b h = let m = rise-less (suc t.0) ts p r.1 (omega arith) in omega (arith, m, b)
below-place lo (t ∷ ts) (suc p) j (suc i) r l b h = below-place (suc t.0) ts p j i r.1 (omega arith) b (omega arith)

pub add-between : (ts : Terms) (p j : ℕ) (a : ℤ) → p ≤ length ts → ((i : ℕ) → i < p → (get_or ts i (0, pos 0)).0 < j) → (p < length ts → j < (get_or ts p (0, pos 0)).0) → add_term j a ts ≡ insert ts p (j, a)
add-between [] zero j a l b h = refl
add-between [] (suc p) j a l b h = absurd (omega arith)
add-between (t ∷ ts) zero j a l b h = add-less j a t ts (h (omega arith))
add-between (t ∷ ts) (suc p) j a l b h =
    add-more j a t ts (b 0 (omega arith)) ∙ ap (λ us. t ∷ us) (add-between ts p j a (omega arith) (λ i m. b (suc i) (omega arith)) (λ m. h (omega arith)))

pub add-there : (ts : Terms) (p j : ℕ) (a : ℤ) → p < length ts → ((i : ℕ) → i < p → (get_or ts i (0, pos 0)).0 < j) → (get_or ts p (0, pos 0)).0 ≡ j → add_term j a ts ≡ set ts p (j, a +ℤ (get_or ts p (0, pos 0)).1)
add-there [] p j a l b h = absurd (omega arith)
add-there (t ∷ ts) zero j a l b h = add-same j a t ts (sym h)
add-there (t ∷ ts) (suc p) j a l b h = add-more j a t ts (b 0 (omega arith)) ∙ ap (λ us. t ∷ us) (add-there ts p j a (omega arith) (λ i m. b (suc i) (omega arith)) h)

-- ---- columns rise

pub rising-add : (lo j : ℕ) (a : ℤ) (ts : Terms) → lo ≤ j → Rising lo ts → Rising lo (add_term j a ts)
rising-add lo j a [] l r = (l, record {})
rising-add lo j a (t ∷ ts) l r = pick (λ h. rising-add (suc t.0) j a ts h r.1) (order j t.0)
  where
    pick : (suc t.0 ≤ j → Rising (suc t.0) (add_term j a ts)) → Order j t.0 → Rising lo (add_term j a (t ∷ ts))
    pick behind (less h) = subst (Rising lo) (sym (add-less j a t ts h)) (l, (h, r.1))
    pick behind (same h) = subst (Rising lo) (sym (add-same j a t ts h)) (l, subst (λ k. Rising (suc k) ts) (sym h) r.1)
    pick behind (more h) = subst (Rising lo) (sym (add-more j a t ts h)) (r.0, behind h)

pub rising-named : (o : Option ℕ) (a : ℤ) (ts : Terms) → Rising 0 ts → Rising 0 (add_named o a ts)
rising-named None a ts r = r
rising-named (Some j) a ts r = rising-add 0 j a ts (omega arith) r

-- ---- the order doesn't matter

pub crossed : (a b c : ℤ) → (a +ℤ (b +ℤ c)) ≡ (b +ℤ (a +ℤ c))
crossed a b c = sym (+ℤ_assoc a b c) ∙ ap (λ s. s +ℤ c) (+ℤ_comm a b) ∙ +ℤ_assoc b a c

-- both go before all
both-first : (j k : ℕ) (a b : ℤ) (t : ℕ × ℤ) (ts : Terms) → j < t.0 → k < t.0 → Order j k → add_term j a ((k, b) ∷ t ∷ ts) ≡ add_term k b ((j, a) ∷ t ∷ ts)
both-first j k a b t ts h g (less l) = add-less j a (k, b) (t ∷ ts) l ∙ sym (add-more k b (j, a) (t ∷ ts) l ∙ ap (λ us. (j, a) ∷ us) (add-less k b t ts g))
both-first j k a b t ts h g (same e) =
    add-same j a (k, b) (t ∷ ts) e ∙ ap (λ n. (n, a +ℤ b) ∷ t ∷ ts) e ∙ ap (λ s. (k, s) ∷ t ∷ ts) (+ℤ_comm a b) ∙ sym (add-same k b (j, a) (t ∷ ts) (sym e))
both-first j k a b t ts h g (more l) = add-more j a (k, b) (t ∷ ts) l ∙ ap (λ us. (k, b) ∷ us) (add-less j a t ts h) ∙ sym (add-less k b (j, a) (t ∷ ts) l)

both-alone : (j k : ℕ) (a b : ℤ) → Order j k → add_term j a ((k, b) ∷ []) ≡ add_term k b ((j, a) ∷ [])
both-alone j k a b (less l) = add-less j a (k, b) [] l ∙ sym (add-more k b (j, a) [] l)
both-alone j k a b (same e) = add-same j a (k, b) [] e ∙ ap (λ n. (n, a +ℤ b) ∷ []) e ∙ ap (λ s. (k, s) ∷ []) (+ℤ_comm a b) ∙ sym (add-same k b (j, a) [] (sym e))
both-alone j k a b (more l) = add-more j a (k, b) [] l ∙ sym (add-less k b (j, a) [] l)

pub add-swap : (j k : ℕ) (a b : ℤ) (ts : Terms) → add_term j a (add_term k b ts) ≡ add_term k b (add_term j a ts)
add-swap j k a b [] = both-alone j k a b (order j k)
add-swap j k a b (t ∷ ts) = pick (add-swap j k a b ts) (order j t.0) (order k t.0)
  where
    pick : add_term j a (add_term k b ts) ≡ add_term k b (add_term j a ts) → Order j t.0 → Order k t.0 → add_term j a (add_term k b (t ∷ ts)) ≡ add_term k b (add_term j a (t ∷ ts))
    pick behind (less h) (less g) = ap (add_term j a) (add-less k b t ts g) ∙ both-first j k a b t ts h g (order j k) ∙ sym (ap (add_term k b) (add-less j a t ts h))
    pick behind (less h) (same g) =
        ap (add_term j a) (add-same k b t ts g) ∙ add-less j a (k, b +ℤ t.1) ts (omega (arith, h, g))
        ∙ sym (ap (add_term k b) (add-less j a t ts h) ∙ add-more k b (j, a) (t ∷ ts) (omega (arith, h, g)) ∙ ap (λ us. (j, a) ∷ us) (add-same k b t ts g))
    pick behind (less h) (more g) =
        ap (add_term j a) (add-more k b t ts g) ∙ add-less j a t (add_term k b ts) h
        ∙ sym (ap (add_term k b) (add-less j a t ts h) ∙ add-more k b (j, a) (t ∷ ts) (omega (arith, h, g)) ∙ ap (λ us. (j, a) ∷ us) (add-more k b t ts g))
    pick behind (same h) (less g) =
        ap (add_term j a) (add-less k b t ts g) ∙ add-more j a (k, b) (t ∷ ts) (omega (arith, h, g)) ∙ ap (λ us. (k, b) ∷ us) (add-same j a t ts h)
        ∙ sym (ap (add_term k b) (add-same j a t ts h) ∙ add-less k b (j, a +ℤ t.1) ts (omega (arith, h, g)))
    pick behind (same h) (same g) =
        ap (add_term j a) (add-same k b t ts g) ∙ add-same j a (k, b +ℤ t.1) ts (h ∙ sym g) ∙ ap (λ n. (n, a +ℤ (b +ℤ t.1)) ∷ ts) (h ∙ sym g) ∙ ap (λ s. (k, s) ∷ ts) (crossed a b t.1)
        ∙ sym (ap (add_term k b) (add-same j a t ts h) ∙ add-same k b (j, a +ℤ t.1) ts (g ∙ sym h))
    pick behind (same h) (more g) =
        ap (add_term j a) (add-more k b t ts g) ∙ add-same j a t (add_term k b ts) h
        ∙ sym (ap (add_term k b) (add-same j a t ts h) ∙ add-more k b (j, a +ℤ t.1) ts (omega (arith, h, g)))
    pick behind (more h) (less g) =
        ap (add_term j a) (add-less k b t ts g) ∙ add-more j a (k, b) (t ∷ ts) (omega (arith, h, g)) ∙ ap (λ us. (k, b) ∷ us) (add-more j a t ts h)
        ∙ sym (ap (add_term k b) (add-more j a t ts h) ∙ add-less k b t (add_term j a ts) g)
    pick behind (more h) (same g) =
        ap (add_term j a) (add-same k b t ts g) ∙ add-more j a (k, b +ℤ t.1) ts (omega (arith, h, g))
        ∙ sym (ap (add_term k b) (add-more j a t ts h) ∙ add-same k b t (add_term j a ts) g)
    pick behind (more h) (more g) =
        ap (add_term j a) (add-more k b t ts g) ∙ add-more j a t (add_term k b ts) h ∙ ap (λ us. t ∷ us) behind
        ∙ sym (ap (add_term k b) (add-more j a t ts h) ∙ add-more k b t (add_term j a ts) g)

pub named-swap : (o p : Option ℕ) (a b : ℤ) (ts : Terms) → add_named o a (add_named p b ts) ≡ add_named p b (add_named o a ts)
named-swap None p a b ts = refl
named-swap (Some j) None a b ts = refl
named-swap (Some j) (Some k) a b ts = add-swap j k a b ts

-- ---- columns one after another

pub each-last : (number : Numbers) (a : ℤ) (cs : List Column) (c : Column) (ts : Terms) → add_each number a (cs ++ c ∷ []) ts ≡ add_named (number c) a (add_each number a cs ts)
each-last number a [] c ts = refl
each-last number a (d ∷ cs) c ts = ap (add_named (number d) a) (each-last number a cs c ts) ∙ named-swap (number d) (number c) a a (add_each number a cs ts)

pub terms-each : (number : Numbers) (a : ℤ) (cs : List Column) (rest : List (Column × ℤ)) → terms_of number (map (λ c. (c, a)) cs ++ rest) ≡ add_each number a cs (terms_of number rest)
terms-each number a [] rest = refl
terms-each number a (c ∷ cs) rest = ap (add_named (number c) a) (terms-each number a cs rest)

pub terms-alone : (number : Numbers) (a : ℤ) (cs : List Column) → terms_of number (map (λ c. (c, a)) cs) ≡ add_each number a cs []
terms-alone number a [] = refl
terms-alone number a (c ∷ cs) = ap (add_named (number c) a) (terms-alone number a cs)

-- two functions that number alike
pub terms-alike : (number number' : Numbers) → ((c : Column) → number c ≡ number' c) → (ts : List (Column × ℤ)) → terms_of number ts ≡ terms_of number' ts
terms-alike number number' h [] = refl
terms-alike number number' h (t ∷ ts) = ap (λ o. add_named o t.1 (terms_of number ts)) (h t.0) ∙ ap (add_named (number' t.0) t.1) (terms-alike number number' h ts)

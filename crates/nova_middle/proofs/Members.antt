-- Sets of variables that grow one by one, and how many others there are.
use Rattle.std.proofs.Common.{◌≡◌, ℕ, suc, ◌+◌, ◌<◌, ◌≤◌, Bool, true, false, not, nat_eq, ◌&&◌, ◌||◌, List, [], ◌∷◌, ◌++◌, refl, sym, ap, subst, ◌∙◌, length, take, drop, drop-cons, get_or, zero, if◌then◌else◌, arith, add-one}
use Rattle.std.proofs.lemmas.Bool.{and_parts, not-true, false≢true, false_from_ne_true}
use Rattle.std.proofs.lemmas.List.{take_more}
use Rattle.nv_base.specs.declared.term.Atom.{Atom}
use Rattle.nv_base.specs.Words.{atom_vars}
use Rattle.nv_base.specs.Sets.{is_in, all_different, different, without, all_vars, Within}
use Rattle.nv_base.specs.Measures.{operands_wide}
use Rattle.nv_base.proofs.Sets.{same-number, in-append, in-without, different-below, different-all, different-if}
use Rattle.flow_ir.proofs.Members.{different-join, first-or-rest, in-not-out}

turned : (a b : Bool) → (a || (b || false)) ≡ (b || a)
turned true true = refl
turned true false = refl
turned false true = refl
turned false false = refl

-- one more at the end
pub in_last : (y : ℕ) (xs : List ℕ) (x : ℕ) → is_in y (xs ++ x ∷ []) ≡ (nat_eq y x || is_in y xs)
in_last y xs x = in-append y xs (x ∷ []) ∙ turned (is_in y xs) (nat_eq y x)

pub different_last : (xs : List ℕ) (x : ℕ) → all_different xs ≡ true → is_in x xs ≡ false → all_different (xs ++ x ∷ []) ≡ true
different_last xs x d out =
    different-join xs (x ∷ []) d refl
    (λ y i. false_from_ne_true (is_in y (x ∷ [])) (λ j. first-or-rest y x [] j (λ e. in-not-out x xs (subst (λ z. is_in z xs ≡ true) (same-number y x e) i) out) (λ e. false≢true e)))

there : (b : Bool) (y x : ℕ) (xs : List ℕ) → nat_eq y x ≡ b → is_in x xs ≡ true → is_in y xs ≡ (b || is_in y xs)
there true y x xs e i = subst (λ z. is_in z xs ≡ true) (sym (same-number y x e)) i
there false y x xs e i = refl

-- one more that is there
pub in_there : (y x : ℕ) (xs : List ℕ) → is_in x xs ≡ true → is_in y xs ≡ (nat_eq y x || is_in y xs)
in_there y x xs i = there (nat_eq y x) y x xs refl i

-- ---- these, and then one more

more : (a b c s : Bool) → c ≡ (a || s) → (b || c) ≡ ((a || (b || false)) || s)
more true true c s e = refl
more true false c s e = e
more false true c s e = refl
more false false c s e = e

pub each_next : (xs : List ℕ) (i d : ℕ) (old mid new : List ℕ) → i < length xs → ((y : ℕ) → is_in y mid ≡ (is_in y (take i xs) || is_in y old)) → ((y : ℕ) → is_in y new ≡ (nat_eq y (get_or xs i d) || is_in y mid)) → (y : ℕ) → is_in y new ≡ (is_in y (take (i + 1) xs) || is_in y old)
each_next xs i d old mid new lt was now y =
    now y ∙ more (is_in y (take i xs)) (nat_eq y (get_or xs i d)) (is_in y mid) (is_in y old) (was y)
    ∙ ap (λ b. b || is_in y old) (sym (in-append y (take i xs) (get_or xs i d ∷ [])) ∙ ap (λ l. is_in y l) (sym (take_more xs i d lt)))

join : (a b c s : Bool) → c ≡ (a || s) → (b || c) ≡ ((a || b) || s)
join true true c s e = refl
join true false c s e = e
join false true c s e = refl
join false false c s e = e

vars_last : (y : ℕ) (atoms : List Atom) (a : Atom) → is_in y (all_vars (atoms ++ a ∷ [])) ≡ (is_in y (all_vars atoms) || is_in y (atom_vars a))
vars_last y [] a = in-append y (atom_vars a) [] ∙ nothing (is_in y (atom_vars a))
  where
    nothing : (b : Bool) → (b || false) ≡ b
    nothing true = refl
    nothing false = refl
vars_last y (b ∷ atoms) a =
    in-append y (atom_vars b) (all_vars (atoms ++ a ∷ [])) ∙ ap (λ i. is_in y (atom_vars b) || i) (vars_last y atoms a)
    ∙ assoc (is_in y (atom_vars b)) (is_in y (all_vars atoms)) (is_in y (atom_vars a))
    ∙ ap (λ i. i || is_in y (atom_vars a)) (sym (in-append y (atom_vars b) (all_vars atoms)))
  where
    assoc : (p q r : Bool) → (p || (q || r)) ≡ ((p || q) || r)
    assoc true q r = refl
    assoc false q r = refl

pub all_next : (atoms : List Atom) (i : ℕ) (d : Atom) (old mid new : List ℕ) → i < length atoms → ((y : ℕ) → is_in y mid ≡ (is_in y (all_vars (take i atoms)) || is_in y old)) → ((y : ℕ) → is_in y new ≡ (is_in y (atom_vars (get_or atoms i d)) || is_in y mid)) → (y : ℕ) → is_in y new ≡ (is_in y (all_vars (take (i + 1) atoms)) || is_in y old)
all_next atoms i d old mid new lt was now y =
    now y ∙ join (is_in y (all_vars (take i atoms))) (is_in y (atom_vars (get_or atoms i d))) (is_in y mid) (is_in y old) (was y)
    ∙ ap (λ b. b || is_in y old) (sym (vars_last y (take i atoms) (get_or atoms i d)) ∙ ap (λ l. is_in y (all_vars l)) (sym (take_more atoms i d lt)))

-- ---- some of these that aren't among others

keep : (a b g s : Bool) → s ≡ (a && not g) → (b ≡ true → g ≡ false) → (b || s) ≡ ((a || (b || false)) && not g)
keep true true true s e h = let same : true ≡ false = h refl in cc
keep true true false s e h = refl
keep true false g s e h = e
keep false true true s e h = let same : true ≡ false = h refl in cc
keep false true false s e h = refl
keep false false g s e h = e

pub left_next : (xs gone : List ℕ) (i d : ℕ) (mid new : List ℕ) → i < length xs → ((y : ℕ) → is_in y mid ≡ (is_in y (take i xs) && not (is_in y gone))) → is_in (get_or xs i d) gone ≡ false → ((y : ℕ) → is_in y new ≡ (nat_eq y (get_or xs i d) || is_in y mid)) → (y : ℕ) → is_in y new ≡ (is_in y (take (i + 1) xs) && not (is_in y gone))
left_next xs gone i d mid new lt was out now y =
    now y ∙ keep (is_in y (take i xs)) (nat_eq y (get_or xs i d)) (is_in y gone) (is_in y mid) (was y) (λ e. ap (λ z. is_in z gone) (same-number y (get_or xs i d) e) ∙ out)
    ∙ ap (λ b. b && not (is_in y gone)) (sym (in-append y (take i xs) (get_or xs i d ∷ [])) ∙ ap (λ l. is_in y l) (sym (take_more xs i d lt)))

drop_one : (a b g s : Bool) → s ≡ (a && not g) → (b ≡ true → g ≡ true) → s ≡ ((a || (b || false)) && not g)
drop_one true b g s e h = e
drop_one false true true s e h = e
drop_one false true false s e h = let same : false ≡ true = h refl in cc
drop_one false false g s e h = e

pub gone_next : (xs gone : List ℕ) (i d : ℕ) (mid : List ℕ) → i < length xs → ((y : ℕ) → is_in y mid ≡ (is_in y (take i xs) && not (is_in y gone))) → is_in (get_or xs i d) gone ≡ true → (y : ℕ) → is_in y mid ≡ (is_in y (take (i + 1) xs) && not (is_in y gone))
gone_next xs gone i d mid lt was out y =
    drop_one (is_in y (take i xs)) (nat_eq y (get_or xs i d)) (is_in y gone) (is_in y mid) (was y) (λ e. ap (λ z. is_in z gone) (same-number y (get_or xs i d) e) ∙ out)
    ∙ ap (λ b. b && not (is_in y gone)) (sym (in-append y (take i xs) (get_or xs i d ∷ [])) ∙ ap (λ l. is_in y l) (sym (take_more xs i d lt)))

-- ---- numbers

-- the same members are equally many
pub same_number_of : (a b : List ℕ) → ((y : ℕ) → is_in y a ≡ is_in y b) → different a ≡ different b
same_number_of a b h =
    let p = different-below a b (λ y i. sym (h y) ∙ i) in
    let q = different-below b a (λ y i. h y ∙ i) in
    omega arith

pub same_without : (a b gone : List ℕ) → ((y : ℕ) → is_in y a ≡ is_in y b) → (y : ℕ) → is_in y (without a gone) ≡ is_in y (without b gone)
same_without a b gone h y = in-without y a gone ∙ ap (λ i. i && not (is_in y gone)) (h y) ∙ sym (in-without y b gone)

pub same_operands : (a b : List ℕ) (bs : List Atom) → ((y : ℕ) → is_in y a ≡ is_in y b) → operands_wide a bs ≡ operands_wide b bs
same_operands a b [] h = same_number_of a b h
same_operands a b (c ∷ bs) h = ap (λ n. n + (length (c ∷ bs) + 1)) (same_number_of (without a (all_vars (c ∷ bs))) (without b (all_vars (c ∷ bs))) (same_without a b (all_vars (c ∷ bs)) h))

-- those beside some, one by one
without_one : (g : Bool) (x : ℕ) (xs gone : List ℕ) → is_in x gone ≡ g → all_different (x ∷ xs) ≡ true → different (without (x ∷ xs) gone) ≡ (if g then different (without xs gone) else 1 + different (without xs gone))
without_one true x xs gone e d = ap (λ b. different (if b then without xs gone else x ∷ without xs gone)) e
without_one false x xs gone e d =
    ap (λ b. different (if b then without xs gone else x ∷ without xs gone)) e
    ∙ different-if false x (without xs gone) (in-without x xs gone ∙ ap (λ b. b && not (is_in x gone)) (not-true (is_in x xs) (and_parts (not (is_in x xs)) (all_different xs) d).0))

different_drop : (xs : List ℕ) (i : ℕ) → all_different xs ≡ true → all_different (drop i xs) ≡ true
different_drop xs zero d = d
different_drop [] (suc i) d = refl
different_drop (x ∷ xs) (suc i) d = different_drop xs i (and_parts (not (is_in x xs)) (all_different xs) d).1

pub beside_next : (g : Bool) (xs gone : List ℕ) (i d n : ℕ) → i < length xs → all_different xs ≡ true → is_in (get_or xs i d) gone ≡ g → n + different (without (drop i xs) gone) ≡ different (without xs gone)
    → (if g then n else n + 1) + different (without (drop (i + 1) xs) gone) ≡ different (without xs gone)
beside_next g xs gone i d n lt diff e h =
    let front : drop i xs ≡ get_or xs i d ∷ drop (i + 1) xs = drop-cons xs i d lt ∙ ap (λ k. get_or xs i d ∷ drop k xs) (sym (add-one i)) in
    let one = without_one g (get_or xs i d) (drop (i + 1) xs) gone e (subst (λ l. all_different l ≡ true) front (different_drop xs i diff)) in
    let whole : n + different (without (get_or xs i d ∷ drop (i + 1) xs) gone) ≡ different (without xs gone) = ap (λ l. n + different (without l gone)) (sym front) ∙ h in
    last g (different (without (drop (i + 1) xs) gone)) (different (without (get_or xs i d ∷ drop (i + 1) xs) gone)) one whole
  where
    last : (g : Bool) (rest both : ℕ) → both ≡ (if g then rest else 1 + rest) → n + both ≡ different (without xs gone) → (if g then n else n + 1) + rest ≡ different (without xs gone)
    last true rest both e h = ap (λ m. n + m) (sym e) ∙ h
    last false rest both e h = omega arith

-- one more behind these, where there was room
pub different_pushed : (b : Bool) (xs ys : List ℕ) (x : ℕ) → ys ≡ (if b then xs ++ x ∷ [] else xs) → all_different xs ≡ true → is_in x xs ≡ false → all_different ys ≡ true
different_pushed true xs ys x e d out = ap all_different e ∙ different_last xs x d out
different_pushed false xs ys x e d out = ap all_different e ∙ d

pub beside_more : (xs ys gone : List ℕ) (i d n n' : ℕ) → ys ≡ xs → i < length ys → all_different xs ≡ true → is_in (get_or ys i d) gone ≡ false → n' ≡ n + 1 → (n + different (without (drop i xs) gone) ≡ different (without xs gone)) × (n ≤ i) → (n' + different (without (drop (i + 1) xs) gone) ≡ different (without xs gone)) × (n' ≤ i + 1)
beside_more xs ys gone i d n n' same lt diff e is h =
    (ap (λ m. m + different (without (drop (i + 1) xs) gone)) is ∙ beside_next false xs gone i d n (subst (λ l. i < length l) same lt) diff (ap (λ l. is_in (get_or l i d) gone) (sym same) ∙ e) h.0, let le = h.1 in omega arith)

pub beside_same : (xs ys gone : List ℕ) (i d n n' : ℕ) → ys ≡ xs → i < length ys → all_different xs ≡ true → is_in (get_or ys i d) gone ≡ true → n' ≡ n → (n + different (without (drop i xs) gone) ≡ different (without xs gone)) × (n ≤ i) → (n' + different (without (drop (i + 1) xs) gone) ≡ different (without xs gone)) × (n' ≤ i + 1)
beside_same xs ys gone i d n n' same lt diff e is h =
    (ap (λ m. m + different (without (drop (i + 1) xs) gone)) is ∙ beside_next true xs gone i d n (subst (λ l. i < length l) same lt) diff (ap (λ l. is_in (get_or l i d) gone) (sym same) ∙ e) h.0, let le = h.1 in omega arith)

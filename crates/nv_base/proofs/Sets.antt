-- Lists of variables as sets.
use Rattle.std.proofs.Common.{◌≡◌, ℕ, suc, ◌+◌, ◌≤◌, Bool, true, false, not, nat_eq, ◌&&◌, ◌||◌, List, [], ◌∷◌, ◌++◌, refl, sym, ap, subst, ◌∙◌, ⊎_elim, if◌then◌else◌, length, arith}
use Rattle.std.proofs.lemmas.Bool.{and_parts, and_from, or_cases, or_parts, or_left, or_right, or_from, not-true, not_from_false, false≢true, eqb-true, eq-eqb, false_from_ne_true}
use Rattle.std.proofs.lemmas.List.Folds.{list_any-append}
use Rattle.nv_base.specs.Words.{Env, assigned, assigned_all}
use Rattle.nv_base.specs.Sets.{is_in, all_different, different, without, Within, AgreeOn}

pub same-number : (x y : ℕ) → nat_eq x y ≡ true → x ≡ y
same-number x y e = eqb-true x y e

pub other-number : (x y : ℕ) → nat_eq x y ≡ false → nat_eq y x ≡ false
other-number x y e = false_from_ne_true (nat_eq y x) (λ f. false≢true (sym e ∙ eq-eqb x y (sym (same-number y x f))))

-- ---- what is in a list

pub in-append : (x : ℕ) (a b : List ℕ) → is_in x (a ++ b) ≡ (is_in x a || is_in x b)
in-append x a b = list_any-append (λ y. nat_eq x y) a b

pub in-if : (g : Bool) (x y : ℕ) (w : List ℕ) → is_in x (if g then w else y ∷ w) ≡ (if g then is_in x w else (nat_eq x y || is_in x w))
in-if true x y w = refl
in-if false x y w = refl

pub without-at : (g e i k r : Bool) → (e ≡ true → k ≡ g) → r ≡ (i && not k) → (if g then r else (e || r)) ≡ ((e || i) && not k)
without-at true true true true r same h = h
without-at true true false true r same h = h
without-at true true i false r same h = let same' : false ≡ true = same refl in cc
without-at true false i k r same h = h
without-at false true i true r same h = let same' : true ≡ false = same refl in cc
without-at false true i false r same h = refl
without-at false false i k r same h = h

pub in-without : (x : ℕ) (a gone : List ℕ) → is_in x (without a gone) ≡ (is_in x a && not (is_in x gone))
in-without x [] gone = refl
in-without x (y ∷ a) gone =
    in-if (is_in y gone) x y (without a gone)
    ∙ without-at (is_in y gone) (nat_eq x y) (is_in x a) (is_in x gone) (is_in x (without a gone)) (λ e. ap (λ z. is_in z gone) (same-number x y e)) (in-without x a gone)

-- what isn't there can't be taken out
pub without-absent : (x : ℕ) (a : List ℕ) → is_in x a ≡ false → without a (x ∷ []) ≡ a
without-absent x [] e = refl
without-absent x (y ∷ a) e =
    let parts = or_parts (nat_eq x y) (is_in x a) e in
    let other : (nat_eq y x || false) ≡ false = or_from (nat_eq y x) false (other-number x y parts.0) refl in
    ap (λ b. if b then without a (x ∷ []) else y ∷ without a (x ∷ [])) other ∙ ap (λ l. y ∷ l) (without-absent x a parts.1)

-- ---- how many different ones there are

pub different-if : (b : Bool) (y : ℕ) (w : List ℕ) → is_in y w ≡ b → different (y ∷ w) ≡ (if b then different w else 1 + different w)
different-if b y w e = ap (λ c. if c then different w else 1 + different w) e

pub drop-at : (same inner : Bool) (x y : ℕ) (b : List ℕ) → nat_eq y x ≡ same → is_in y b ≡ inner → (is_in x b ≡ true → different b ≡ 1 + different (without b (x ∷ []))) → is_in x (y ∷ b) ≡ true
    → (if inner then different b else 1 + different b) ≡ 1 + different (if (same || false) then without b (x ∷ []) else y ∷ without b (x ∷ []))
drop-at true true x y b s i h e = h (subst (λ z. is_in z b ≡ true) (same-number y x s) i)
drop-at true false x y b s i h e = ap (λ l. 1 + different l) (sym (without-absent x b (subst (λ z. is_in z b ≡ false) (same-number y x s) i)))
drop-at false true x y b s i h e =
    let inside : is_in x b ≡ true = ⊎_elim (λ (p : nat_eq x y ≡ true). absurd (false≢true (sym (other-number y x s) ∙ p))) (λ (p : is_in x b ≡ true). p) (or_cases (nat_eq x y) (is_in x b) e) in
    let still : is_in y (without b (x ∷ [])) ≡ true = in-without y b (x ∷ []) ∙ and_from (is_in y b) (not (nat_eq y x || false)) i (not_from_false (nat_eq y x || false) (or_from (nat_eq y x) false s refl)) in
    h inside ∙ ap (λ n. 1 + n) (sym (different-if true y (without b (x ∷ [])) still))
drop-at false false x y b s i h e =
    let inside : is_in x b ≡ true = ⊎_elim (λ (p : nat_eq x y ≡ true). absurd (false≢true (sym (other-number y x s) ∙ p))) (λ (p : is_in x b ≡ true). p) (or_cases (nat_eq x y) (is_in x b) e) in
    let gone : is_in y (without b (x ∷ [])) ≡ false = in-without y b (x ∷ []) ∙ ap (λ c. c && not (nat_eq y x || false)) i in
    ap (λ n. 1 + n) (h inside ∙ sym (different-if false y (without b (x ∷ [])) gone))

-- without one that is there, there is one fewer
pub different-drop : (x : ℕ) (b : List ℕ) → is_in x b ≡ true → different b ≡ 1 + different (without b (x ∷ []))
different-drop x [] e = cc
different-drop x (y ∷ b) e = drop-at (nat_eq y x) (is_in y b) x y b refl refl (different-drop x b) e

pub below-at : (inner : Bool) (x : ℕ) (a b : List ℕ) → is_in x a ≡ inner → Within (x ∷ a) b → ((c : List ℕ) → Within a c → different a ≤ different c) → (if inner then different a else 1 + different a) ≤ different b
below-at true x a b i h rest = rest b (λ y e. h y (or_right (nat_eq y x) (is_in y a) e))
below-at false x a b i h rest =
    let there : is_in x b ≡ true = h x (or_left (nat_eq x x) (is_in x a) (eq-eqb x x refl)) in
    let fewer : different b ≡ 1 + different (without b (x ∷ [])) = different-drop x b there in
    let less : different a ≤ different (without b (x ∷ [])) =
    rest (without b (x ∷ []))
    (λ y e.
    let other : nat_eq y x ≡ false = false_from_ne_true (nat_eq y x) (λ f. false≢true (sym i ∙ subst (λ z. is_in z a ≡ true) (same-number y x f) e)) in
    in-without y b (x ∷ []) ∙ and_from (is_in y b) (not (nat_eq y x || false)) (h y (or_right (nat_eq y x) (is_in y a) e)) (not_from_false (nat_eq y x || false) (or_from (nat_eq y x) false other refl)))
    in
    omega arith

-- a set in another has at most as many
pub different-below : (a b : List ℕ) → Within a b → different a ≤ different b
different-below [] b h = omega arith
different-below (x ∷ a) b h = below-at (is_in x a) x a b refl h (λ c. different-below a c)

pub append-at : (inner all : Bool) (m n k : ℕ) → (inner ≡ true → all ≡ true) → m ≤ n + k → (if all then m else 1 + m) ≤ (if inner then n else 1 + n) + k
append-at true true m n k h le = le
append-at true false m n k h le = let same : false ≡ true = h refl in cc
append-at false true m n k h le = omega arith
append-at false false m n k h le = omega arith

-- two sets together have at most as many as both
pub different-append : (a b : List ℕ) → different (a ++ b) ≤ different a + different b
different-append [] b = omega arith
different-append (x ∷ a) b =
    append-at (is_in x a) (is_in x (a ++ b)) (different (a ++ b)) (different a) (different b) (λ e. in-append x a b ∙ or_left (is_in x a) (is_in x b) e) (different-append a b)

pub length-at : (inner : Bool) (m n : ℕ) → m ≤ n → (if inner then m else 1 + m) ≤ suc n
length-at true m n le = omega arith
length-at false m n le = omega arith

pub different-length : (a : List ℕ) → different a ≤ length a
different-length [] = omega arith
different-length (x ∷ a) = length-at (is_in x a) (different a) (length a) (different-length a)

-- where all are different, they are as many as the list is long
pub different-all : (a : List ℕ) → all_different a ≡ true → different a ≡ length a
different-all [] e = refl
different-all (x ∷ a) e =
    let parts = and_parts (not (is_in x a)) (all_different a) e in
    let rest : different a ≡ length a = different-all a parts.1 in
    different-if false x a (not-true (is_in x a) parts.0) ∙ (let next : 1 + different a ≡ suc (length a) = omega arith in next)

-- ---- sets in sets

pub within-left : (a b : List ℕ) → Within a (a ++ b)
within-left a b = λ x e. in-append x a b ∙ or_left (is_in x a) (is_in x b) e

pub within-right : (a b : List ℕ) → Within b (a ++ b)
within-right a b = λ x e. in-append x a b ∙ or_right (is_in x a) (is_in x b) e

pub within-both : (a b c : List ℕ) → Within a c → Within b c → Within (a ++ b) c
within-both a b c p q = λ x e. ⊎_elim (p x) (q x) (or_cases (is_in x a) (is_in x b) (sym (in-append x a b) ∙ e))

-- what is left without some is known before, if all of it is known after them
pub within-without : (a gone known : List ℕ) → Within a (gone ++ known) → Within (without a gone) known
within-without a gone known h =
    λ x e.
    let parts = and_parts (is_in x a) (not (is_in x gone)) (sym (in-without x a gone) ∙ e) in
    ⊎_elim (λ (p : is_in x gone ≡ true). absurd (false≢true (sym (not-true (is_in x gone) parts.1) ∙ p))) (λ (p : is_in x known ≡ true). p) (or_cases (is_in x gone) (is_in x known) (sym (in-append x gone known) ∙ h x parts.0))

-- and the other way round: all of it is among these or what is left without them
pub behind-at : (b : Bool) (x : ℕ) (a gone : List ℕ) → is_in x gone ≡ b → is_in x a ≡ true → is_in x (gone ++ without a gone) ≡ true
behind-at true x a gone g e = in-append x gone (without a gone) ∙ or_left (is_in x gone) (is_in x (without a gone)) g
behind-at false x a gone g e =
    in-append x gone (without a gone) ∙ or_right (is_in x gone) (is_in x (without a gone)) (in-without x a gone ∙ and_from (is_in x a) (not (is_in x gone)) e (not_from_false (is_in x gone) g))

pub within-behind : (a gone : List ℕ) → Within a (gone ++ without a gone)
within-behind a gone = λ x e. behind-at (is_in x gone) x a gone refl e

pub agree-within : (a b : List ℕ) (env env' : Env) → Within a b → AgreeOn b env env' → AgreeOn a env env'
agree-within a b env env' p h = λ x e. h x (p x e)

pub within-behind_same : (front a b : List ℕ) → Within a b → Within (front ++ a) (front ++ b)
within-behind_same front a b h =
    λ x e.
    in-append x front b
    ∙ ⊎_elim (λ (p : is_in x front ≡ true). or_left (is_in x front) (is_in x b) p) (λ (p : is_in x a ≡ true). or_right (is_in x front) (is_in x b) (h x p)) (or_cases (is_in x front) (is_in x a) (sym (in-append x front a) ∙ e))

pub within-before_same : (a b last : List ℕ) → Within a b → Within (a ++ last) (b ++ last)
within-before_same a b last h =
    λ x e.
    in-append x b last
    ∙ ⊎_elim (λ (p : is_in x a ≡ true). or_left (is_in x b) (is_in x last) (h x p)) (λ (p : is_in x last ≡ true). or_right (is_in x b) (is_in x last) p) (or_cases (is_in x a) (is_in x last) (sym (in-append x a last) ∙ e))

pub within-without_same : (a b gone : List ℕ) → Within a b → Within (without a gone) (without b gone)
within-without_same a b gone h =
    λ x e.
    let parts = and_parts (is_in x a) (not (is_in x gone)) (sym (in-without x a gone) ∙ e) in
    in-without x b gone ∙ and_from (is_in x b) (not (is_in x gone)) (h x parts.0) parts.1

-- ---- assignments

pub assigned-at : (b : Bool) (y : ℕ) (known : List ℕ) (w u v : ℕ) → (is_in y known ≡ true → u ≡ v) → (b || is_in y known) ≡ true → (if b then w else u) ≡ (if b then w else v)
assigned-at true y known w u v h e = refl
assigned-at false y known w u v h e = h e

pub agree-assigned : (known : List ℕ) (env env' : Env) (x w : ℕ) → AgreeOn known env env' → AgreeOn (x ∷ known) (assigned env x w) (assigned env' x w)
agree-assigned known env env' x w h = λ y e. assigned-at (nat_eq y x) y known w (env y) (env' y) (h y) e

pub in-later : (b : Bool) (y : ℕ) (xs : List ℕ) (x : ℕ) (known : List ℕ) → nat_eq y x ≡ b → (b || is_in y (xs ++ known)) ≡ true → is_in y (xs ++ x ∷ known) ≡ true
in-later b y [] x known same e = subst (λ c. (c || is_in y known) ≡ true) (sym same) e
in-later true y (z ∷ xs) x known same e = or_right (nat_eq y z) (is_in y (xs ++ x ∷ known)) (in-later true y xs x known same refl)
in-later false y (z ∷ xs) x known same e =
    ⊎_elim (λ (p : nat_eq y z ≡ true). or_left (nat_eq y z) (is_in y (xs ++ x ∷ known)) p)
    (λ (p : is_in y (xs ++ known) ≡ true). or_right (nat_eq y z) (is_in y (xs ++ x ∷ known)) (in-later false y xs x known same p)) (or_cases (nat_eq y z) (is_in y (xs ++ known)) e)

pub agree-all : (xs : List ℕ) (ws : List ℕ) (known : List ℕ) (env env' : Env) → AgreeOn known env env' → AgreeOn (xs ++ known) (assigned_all env xs ws) (assigned_all env' xs ws)
agree-all [] ws known env env' h = h
agree-all (x ∷ xs) [] known env env' h = λ y e. agree-all xs [] (x ∷ known) (assigned env x 0) (assigned env' x 0) (agree-assigned known env env' x 0 h) y (in-later (nat_eq y x) y xs x known refl e)
agree-all (x ∷ xs) (w ∷ ws) known env env' h = λ y e. agree-all xs ws (x ∷ known) (assigned env x w) (assigned env' x w) (agree-assigned known env env' x w h) y (in-later (nat_eq y x) y xs x known refl e)

-- the parts of a set
pub agree-left : (a b : List ℕ) (env env' : Env) → AgreeOn (a ++ b) env env' → AgreeOn a env env'
agree-left a b env env' h = agree-within a (a ++ b) env env' (within-left a b) h

pub agree-right : (a b : List ℕ) (env env' : Env) → AgreeOn (a ++ b) env env' → AgreeOn b env env'
agree-right a b env env' h = agree-within b (a ++ b) env env' (within-right a b) h

-- behind new variables
pub agree-behind : (a xs ws : List ℕ) (env env' : Env) → AgreeOn (without a xs) env env' → AgreeOn a (assigned_all env xs ws) (assigned_all env' xs ws)
agree-behind a xs ws env env' h = agree-within a (xs ++ without a xs) (assigned_all env xs ws) (assigned_all env' xs ws) (within-behind a xs) (agree-all xs ws (without a xs) env env' h)

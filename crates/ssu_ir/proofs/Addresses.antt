-- Addresses of scratch accesses: numbers of all names at once, and name by name.
use Rattle.std.proofs.Common.{◌≡◌, ℕ, Bool, true, false, nat_eq, ◌&&◌, ◌⊎◌, List, [], ◌∷◌, ◌++◌, length, Option, Some, None, refl, sym, ap, ◌∙◌, subst, inl, inr, ⊎_elim, if◌then◌else◌}
use Rattle.std.specs.List.{list_all}
use Rattle.std.proofs.lemmas.Bool.{and_parts, and_from, or_cases, or_parts, false≢true, eq-eqb}
use Rattle.std.proofs.lemmas.List.{append-nil}
use Rattle.nv_base.specs.declared.term.Mem.{Mem}
use Rattle.nv_base.specs.Sets.{is_in}
use Rattle.nv_base.proofs.Sets.{same-number, in-append}
use Rattle.ssu_ir.specs.Tree.{Step, Tree, step_values, Lit, Una, Bin, Clone, Read, Write, Do, If, End}
use Rattle.ssu_ir.specs.Single.{step_names, names, Numbers, numbered, numbers_after, is_address, is_addressed, are_addressed}
use Rattle.ssu_ir.specs.inner.Checks.{step_defs, carried, access_fits, addressed, number_of}
use Rattle.ssu_ir.proofs.Lists.{in-itself, all_at, all_from}
use Rattle.ssu_ir.proofs.Scopes.{carry-in, carry-first, carry-second}

-- ---- numbers after a step

numbered-at : (b : Bool) (number : Numbers) (xs : List ℕ) (o : Option ℕ) (z : ℕ) → is_in z xs ≡ b → numbered number xs o z ≡ (if b then o else number z)
numbered-at b number xs o z e = ap (λ c. if c then o else number z) e

-- a name that a step doesn't define keeps its number
number-kept : (number : Numbers) (xs : List ℕ) (o : Option ℕ) (u z : ℕ) → is_in z (if is_in u xs then [] else u ∷ []) ≡ true → numbered number xs o z ≡ number u
number-kept number xs o u z h =
    ⊎_elim
    (λ (e : (false ≡ true) × (is_in z [] ≡ true)). absurd (false≢true e.0))
    (λ (e : (is_in u xs ≡ false) × (z ≡ u)). numbered-at false number xs o z (subst (λ w. is_in w xs ≡ false) (sym e.1) e.0) ∙ ap number e.1)
    (carry-in false (is_in u xs) z u [] h)

number-cloned : (number : Numbers) (u z y : ℕ) (xs : List ℕ) → is_in z (carried xs (Clone xs y) u) ≡ true → numbered number xs (number y) z ≡ number u
number-cloned number u z y xs h =
    ⊎_elim
    (λ (e : (nat_eq u y ≡ true) × (is_in z xs ≡ true)). numbered-at true number xs (number y) z e.1 ∙ ap number (sym (same-number u y e.0)))
    (λ (e : (is_in u xs ≡ false) × (z ≡ u)). numbered-at false number xs (number y) z (subst (λ w. is_in w xs ≡ false) (sym e.1) e.0) ∙ ap number e.1)
    (carry-in (nat_eq u y) (is_in u xs) z u xs h)

number-same : (number : Numbers) (u z : ℕ) → is_in z (u ∷ []) ≡ true → number z ≡ number u
number-same number u z h =
    ⊎_elim
    (λ (k : nat_eq z u ≡ true). ap number (same-number z u k))
    (λ (k : false ≡ true). absurd (false≢true k))
    (or_cases (nat_eq z u) false h)

unappend : (gone : List ℕ) (u z : ℕ) → is_in z (if is_in u (gone ++ []) then [] else u ∷ []) ≡ true → is_in z (if is_in u gone then [] else u ∷ []) ≡ true
unappend gone u z h = subst (λ l. is_in z (if is_in u l then [] else u ∷ []) ≡ true) (append-nil gone) h

pub number-carried : (number : Numbers) (s : Step) (u z : ℕ) → is_in z (carried (step_defs s) s u) ≡ true → numbers_after number s z ≡ number u
number-carried number (Lit x v) u z h = number-kept number (x ∷ []) (Some v) u z h
number-carried number (Una x op y) u z h = number-kept number (x ∷ []) None u z h
number-carried number (Bin x op y w) u z h = number-kept number (x ∷ []) None u z h
number-carried number (Clone xs y) u z h = number-cloned number u z y xs h
number-carried number (Read m xs y) u z h = number-kept number xs None u z (unappend xs u z h)
number-carried number (Write m y xs) u z h = number-same number u z h

pub number-value : (number : Numbers) (s : Step) (x : ℕ) → is_in x (step_values s) ≡ true → numbers_after number s x ≡ number_of s
number-value number (Lit x v) z h = numbered-at true number (x ∷ []) (Some v) z h
number-value number (Una x op y) z h = numbered-at true number (x ∷ []) None z h
number-value number (Bin x op y w) z h = numbered-at true number (x ∷ []) None z h
number-value number (Clone xs y) z h = absurd (false≢true h)
number-value number (Read m xs y) z h = numbered-at true number xs None z h
number-value number (Write m y xs) z h = absurd (false≢true h)

-- a name after a step is a value of it, or has the number of some name before it
pub record Numbered (number : Numbers) (s : Step) (z : ℕ) : Type 0 where
  pub it : ℕ
  pub same : numbers_after number s z ≡ number it
  pub carries : is_in z (carried (step_defs s) s it) ≡ true

abbrev pub NumberFrom : Numbers → Step → ℕ → Type 0
NumberFrom number s z = (is_in z (step_values s) ≡ true) ⊎ Numbered number s z

kept-in : (b : Bool) (u : ℕ) → b ≡ false → is_in u (if b then [] else u ∷ []) ≡ true
kept-in true u e = absurd (false≢true (sym e))
kept-in false u e = in-itself u []

from-values : (b : Bool) (number : Numbers) (s : Step) (xs : List ℕ) (o : Option ℕ) (z : ℕ) → is_in z xs ≡ b → (is_in z xs ≡ true → is_in z (step_values s) ≡ true) → numbers_after number s z ≡ numbered number xs o z
    → (is_in z (if is_in z xs then [] else z ∷ []) ≡ true → is_in z (carried (step_defs s) s z) ≡ true) → NumberFrom number s z
from-values true number s xs o z e v same carries = inl (v e)
from-values false number s xs o z e v same carries = inr (record { it = z; same = same ∙ numbered-at false number xs o z e; carries = carries (kept-in (is_in z xs) z e) })

from-clone : (b : Bool) (number : Numbers) (z y : ℕ) (xs : List ℕ) → is_in z xs ≡ b → NumberFrom number (Clone xs y) z
from-clone true number z y xs e = inr (record { it = y; same = numbered-at true number xs (number y) z e; carries = carry-first (nat_eq y y) (is_in y xs) z y xs (eq-eqb y y refl) e })
from-clone false number z y xs e = inr (record { it = z; same = numbered-at false number xs (number y) z e; carries = carry-second (nat_eq z y) (is_in z xs) z xs e })

pub number_from : (number : Numbers) (s : Step) (z : ℕ) → NumberFrom number s z
number_from number (Lit x v) z = from-values (is_in z (x ∷ [])) number (Lit x v) (x ∷ []) (Some v) z refl (λ e. e) refl (λ e. e)
number_from number (Una x op y) z = from-values (is_in z (x ∷ [])) number (Una x op y) (x ∷ []) None z refl (λ e. e) refl (λ e. e)
number_from number (Bin x op y w) z = from-values (is_in z (x ∷ [])) number (Bin x op y w) (x ∷ []) None z refl (λ e. e) refl (λ e. e)
number_from number (Clone xs y) z = from-clone (is_in z xs) number z y xs refl
number_from number (Read m xs y) z =
    from-values (is_in z xs) number (Read m xs y) xs None z refl (λ e. e) refl
    (λ e. subst (λ l. is_in z (if is_in z l then [] else z ∷ []) ≡ true) (sym (append-nil xs)) e)
number_from number (Write m y xs) z = inr (record { it = z; same = refl; carries = in-itself z [] })

-- ---- accesses of a step

fits-at : (b : Bool) (x y : ℕ) (m : Mem) (number : Numbers) (n : ℕ) → nat_eq x y ≡ b → is_address m (number y) n ≡ true → (if b then is_address m (number x) n else true) ≡ true
fits-at true x y m number n e h = subst (λ z. is_address m (number z) n ≡ true) (sym (same-number x y e)) h
fits-at false x y m number n e h = refl

pub fits_from : (number : Numbers) (s : Step) (x : ℕ) → is_addressed number s ≡ true → access_fits s x (number x) ≡ true
fits_from number (Lit x v) z h = refl
fits_from number (Una x op y) z h = refl
fits_from number (Bin x op y w) z h = refl
fits_from number (Clone xs y) z h = refl
fits_from number (Read m xs y) z h = fits-at (nat_eq z y) z y m number (length xs) refl h
fits_from number (Write m y xs) z h = fits-at (nat_eq z y) z y m number (length xs) refl h

fits-here : (b : Bool) (r : Bool) → b ≡ true → (if b then r else true) ≡ true → r ≡ true
fits-here true r e h = h
fits-here false r e h = absurd (false≢true e)

pub addressed_here : (number : Numbers) (s : Step) → ((x : ℕ) → access_fits s x (number x) ≡ true) → is_addressed number s ≡ true
addressed_here number (Lit x v) h = refl
addressed_here number (Una x op y) h = refl
addressed_here number (Bin x op y w) h = refl
addressed_here number (Clone xs y) h = refl
addressed_here number (Read m xs y) h = fits-here (nat_eq y y) (is_address m (number y) (length xs)) (eq-eqb y y refl) (h y)
addressed_here number (Write m y xs) h = fits-here (nat_eq y y) (is_address m (number y) (length xs)) (eq-eqb y y refl) (h y)

-- ---- a tree

-- of every value that a tree defines, the accesses by its copies may be
abbrev pub own_addressed : Tree → Bool
own_addressed (Do s t) = list_all (λ x. addressed (number_of s) x t) (step_values s) && own_addressed t
own_addressed (If c a b t u) = own_addressed t && own_addressed u
own_addressed (End l) = true

pub named_addressed : (number : Numbers) (t : Tree) → are_addressed number t ≡ true → (x : ℕ) → addressed (number x) x t ≡ true
named_addressed number (Do s t) h x =
    let p = and_parts (is_addressed number s) (are_addressed (numbers_after number s) t) h in
    and_from (access_fits s x (number x)) (list_all (λ z. addressed (number x) z t) (carried (step_defs s) s x)) (fits_from number s x p.0)
    (all_from (λ z. addressed (number x) z t) (carried (step_defs s) s x)
    (λ z i. subst (λ o. addressed o z t ≡ true) (number-carried number s x z i) (named_addressed (numbers_after number s) t p.1 z)))
named_addressed number (If c a b t u) h x =
    let p = and_parts (are_addressed number t) (are_addressed number u) h in
    and_from (addressed (number x) x t) (addressed (number x) x u) (named_addressed number t p.0 x) (named_addressed number u p.1 x)
named_addressed number (End l) h x = refl

pub values_addressed : (number : Numbers) (t : Tree) → are_addressed number t ≡ true → own_addressed t ≡ true
values_addressed number (Do s t) h =
    let p = and_parts (is_addressed number s) (are_addressed (numbers_after number s) t) h in
    and_from (list_all (λ x. addressed (number_of s) x t) (step_values s)) (own_addressed t)
    (all_from (λ x. addressed (number_of s) x t) (step_values s)
    (λ x i. subst (λ o. addressed o x t ≡ true) (number-value number s x i) (named_addressed (numbers_after number s) t p.1 x)))
    (values_addressed (numbers_after number s) t p.1)
values_addressed number (If c a b t u) h =
    let p = and_parts (are_addressed number t) (are_addressed number u) h in
    and_from (own_addressed t) (own_addressed u) (values_addressed number t p.0) (values_addressed number u p.1)
values_addressed number (End l) h = refl

pub addressed_from : (number : Numbers) (t : Tree) → ((x : ℕ) → addressed (number x) x t ≡ true) → own_addressed t ≡ true → are_addressed number t ≡ true
addressed_from number (Do s t) h o =
    let q = and_parts (list_all (λ x. addressed (number_of s) x t) (step_values s)) (own_addressed t) o in
    and_from (is_addressed number s) (are_addressed (numbers_after number s) t)
    (addressed_here number s (λ x. (and_parts (access_fits s x (number x)) (list_all (λ z. addressed (number x) z t) (carried (step_defs s) s x)) (h x)).0))
    (addressed_from (numbers_after number s) t
    (λ z.
    ⊎_elim
    (λ (e : is_in z (step_values s) ≡ true).
    subst (λ o. addressed o z t ≡ true) (sym (number-value number s z e)) (all_at (λ x. addressed (number_of s) x t) (step_values s) z q.0 e))
    (λ (k : Numbered number s z).
    subst (λ o. addressed o z t ≡ true) (sym k.same)
    (all_at (λ w. addressed (number k.it) w t) (carried (step_defs s) s k.it) z
    ((and_parts (access_fits s k.it (number k.it)) (list_all (λ w. addressed (number k.it) w t) (carried (step_defs s) s k.it)) (h k.it)).1) k.carries))
    (number_from number s z))
    q.1)
addressed_from number (If c a b t u) h o =
    let q = and_parts (own_addressed t) (own_addressed u) o in
    and_from (are_addressed number t) (are_addressed number u)
    (addressed_from number t (λ x. (and_parts (addressed (number x) x t) (addressed (number x) x u) (h x)).0) q.0)
    (addressed_from number u (λ x. (and_parts (addressed (number x) x t) (addressed (number x) x u) (h x)).1) q.1)
addressed_from number (End l) h o = refl

-- ---- a name that isn't used

unused-fits : (b : Bool) (r : Bool) → b ≡ false → (if b then r else true) ≡ true
unused-fits true r e = absurd (false≢true (sym e))
unused-fits false r e = refl

unused_here : (s : Step) (x : ℕ) (o : Option ℕ) → is_in x (step_names s) ≡ false → access_fits s x o ≡ true
unused_here (Lit x v) z o h = refl
unused_here (Una x op y) z o h = refl
unused_here (Bin x op y w) z o h = refl
unused_here (Clone xs y) z o h = refl
unused_here (Read m xs y) z o h = unused-fits (nat_eq z y) (is_address m o (length xs)) ((or_parts (nat_eq z y) false h).0)
unused_here (Write m y xs) z o h = unused-fits (nat_eq z y) (is_address m o (length xs)) ((or_parts (nat_eq z y) (is_in z xs) h).0)

-- a name that a step doesn't use is carried as itself
carried-same : (same gone : Bool) (z u : ℕ) (xs : List ℕ) → same ≡ false → is_in z ((if same then xs else []) ++ (if gone then [] else u ∷ [])) ≡ true → z ≡ u
carried-same same gone z u xs e h =
    ⊎_elim
    (λ (k : (same ≡ true) × (is_in z xs ≡ true)). absurd (false≢true (sym e ∙ k.0)))
    (λ (k : (gone ≡ false) × (z ≡ u)). k.1)
    (carry-in same gone z u xs h)

unused_carried : (s : Step) (gone : List ℕ) (x z : ℕ) → is_in x (step_names s) ≡ false → is_in z (carried gone s x) ≡ true → z ≡ x
unused_carried (Lit x v) gone u z h i = carried-same false (is_in u gone) z u [] refl i
unused_carried (Una x op y) gone u z h i = carried-same false (is_in u gone) z u [] refl i
unused_carried (Bin x op y w) gone u z h i = carried-same false (is_in u gone) z u [] refl i
unused_carried (Clone xs y) gone u z h i = carried-same (nat_eq u y) (is_in u gone) z u xs ((or_parts (nat_eq u y) false h).0) i
unused_carried (Read m xs y) gone u z h i = carried-same false (is_in u gone) z u [] refl i
unused_carried (Write m y xs) gone u z h i = carried-same false (is_in u gone) z u [] refl i

pub unused_addressed : (o : Option ℕ) (x : ℕ) (t : Tree) → is_in x (names t) ≡ false → addressed o x t ≡ true
unused_addressed o x (Do s t) h =
    let p = or_parts (is_in x (step_names s)) (is_in x (names t)) (sym (in-append x (step_names s) (names t)) ∙ h) in
    and_from (access_fits s x o) (list_all (λ z. addressed o z t) (carried (step_defs s) s x)) (unused_here s x o p.0)
    (all_from (λ z. addressed o z t) (carried (step_defs s) s x)
    (λ z i. subst (λ w. addressed o w t ≡ true) (sym (unused_carried s (step_defs s) x z p.0 i)) (unused_addressed o x t p.1)))
unused_addressed o x (If c a b t u) h =
    let p = or_parts (is_in x (a ∷ b ∷ [])) (is_in x (names t ++ names u)) (sym (in-append x (a ∷ b ∷ []) (names t ++ names u)) ∙ h) in
    let q = or_parts (is_in x (names t)) (is_in x (names u)) (sym (in-append x (names t) (names u)) ∙ p.1) in
    and_from (addressed o x t) (addressed o x u) (unused_addressed o x t q.0) (unused_addressed o x u q.1)
unused_addressed o x (End l) h = refl

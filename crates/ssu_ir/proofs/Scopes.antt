-- The rules of single use, and their tests name by name.
use Rattle.std.proofs.Common.{◌≡◌, ℕ, Bool, true, false, not, nat_eq, ◌&&◌, ◌||◌, ◌⊎◌, List, [], ◌∷◌, ◌++◌, map, refl, sym, ap, ◌∙◌, subst, inl, inr, ⊎_elim, if◌then◌else◌}
use Rattle.std.specs.List.{list_any}
use Rattle.std.proofs.lemmas.Bool.{and_parts, and_from, or_cases, or_left, or_right, not-true, false≢true, eq-eqb}
use Rattle.std.proofs.lemmas.List.{append-nil}
use Rattle.nv_base.specs.declared.term.Cmp.{Cmp}
use Rattle.nv_base.specs.Sets.{is_in}
use Rattle.nv_base.proofs.Sets.{same-number, in-append}
use Rattle.ssu_ir.specs.Tree.{Step, Tree, step_clones, step_uses, last_uses, Lit, Una, Bin, Clone, Read, Write, Do, If, End}
use Rattle.ssu_ir.specs.Points.{Names, own, names_after, used}
use Rattle.ssu_ir.specs.Single.{step_names, names, all_known, is_scoped}
use Rattle.ssu_ir.specs.inner.Checks.{step_defs, is_free, carried, copy_used}
use Rattle.ssu_ir.proofs.Lists.{in-itself, same_tests, all_at, all_from, any_at, any_from, image_at, image_from}

-- ---- scope

pub free_known : (known : List ℕ) (t : Tree) → is_scoped known t ≡ true → (x : ℕ) → is_free x t ≡ true → is_in x known ≡ true
free_known known (Do s t) h x f =
    let p = and_parts (all_known known (step_names s)) (is_scoped (known ++ step_defs s) t) h in
    ⊎_elim
    (λ (e : is_in x (step_names s) ≡ true). all_at (λ z. is_in z known) (step_names s) x p.0 e)
    (λ (e : (not (is_in x (step_defs s)) && is_free x t) ≡ true).
    let q = and_parts (not (is_in x (step_defs s))) (is_free x t) e in
    ⊎_elim
    (λ (k : is_in x known ≡ true). k)
    (λ (k : is_in x (step_defs s) ≡ true). absurd (false≢true (sym (not-true (is_in x (step_defs s)) q.0) ∙ k)))
    (or_cases (is_in x known) (is_in x (step_defs s)) (sym (in-append x known (step_defs s)) ∙ free_known (known ++ step_defs s) t p.1 x q.1)))
    (or_cases (is_in x (step_names s)) (not (is_in x (step_defs s)) && is_free x t) f)
free_known known (If c a b t u) h x f =
    let p = and_parts (all_known known (a ∷ b ∷ [])) (is_scoped known t && is_scoped known u) h in
    let q = and_parts (is_scoped known t) (is_scoped known u) p.1 in
    ⊎_elim
    (λ (e : is_in x (a ∷ b ∷ []) ≡ true). all_at (λ z. is_in z known) (a ∷ b ∷ []) x p.0 e)
    (λ (e : (is_free x t || is_free x u) ≡ true).
    ⊎_elim
    (λ (g : is_free x t ≡ true). free_known known t q.0 x g)
    (λ (g : is_free x u ≡ true). free_known known u q.1 x g)
    (or_cases (is_free x t) (is_free x u) e))
    (or_cases (is_in x (a ∷ b ∷ [])) (is_free x t || is_free x u) f)
free_known known (End l) h x f = all_at (λ z. is_in z known) (last_uses l) x h f

known-successors : (b : Bool) (x : ℕ) (known defs : List ℕ) → is_in x defs ≡ b → ((not b && true) ≡ true → is_in x known ≡ true) → is_in x (known ++ defs) ≡ true
known-successors true x known defs e h = in-append x known defs ∙ or_right (is_in x known) (is_in x defs) e
known-successors false x known defs e h = in-append x known defs ∙ or_left (is_in x known) (is_in x defs) (h refl)

pub scoped_from : (known : List ℕ) (t : Tree) → ((x : ℕ) → is_free x t ≡ true → is_in x known ≡ true) → is_scoped known t ≡ true
scoped_from known (Do s t) h =
    and_from (all_known known (step_names s)) (is_scoped (known ++ step_defs s) t)
    (all_from (λ z. is_in z known) (step_names s) (λ x i. h x (or_left (is_in x (step_names s)) (not (is_in x (step_defs s)) && is_free x t) i)))
    (scoped_from (known ++ step_defs s) t
    (λ x f.
    known-successors (is_in x (step_defs s)) x known (step_defs s) refl
    (λ e.
    h x
    (or_right (is_in x (step_names s)) (not (is_in x (step_defs s)) && is_free x t)
    (ap (λ b. not (is_in x (step_defs s)) && b) f ∙ e)))))
scoped_from known (If c a b t u) h =
    and_from (all_known known (a ∷ b ∷ [])) (is_scoped known t && is_scoped known u)
    (all_from (λ z. is_in z known) (a ∷ b ∷ []) (λ x i. h x (or_left (is_in x (a ∷ b ∷ [])) (is_free x t || is_free x u) i)))
    (and_from (is_scoped known t) (is_scoped known u)
    (scoped_from known t (λ x f. h x (or_right (is_in x (a ∷ b ∷ [])) (is_free x t || is_free x u) (or_left (is_free x t) (is_free x u) f))))
    (scoped_from known u (λ x f. h x (or_right (is_in x (a ∷ b ∷ [])) (is_free x t || is_free x u) (or_right (is_free x t) (is_free x u) f)))))
scoped_from known (End l) h = all_from (λ z. is_in z known) (last_uses l) h

-- what is free is used
pub free_named : (x : ℕ) (t : Tree) → is_free x t ≡ true → is_in x (names t) ≡ true
free_named x (Do s t) f =
    in-append x (step_names s) (names t)
    ∙ ⊎_elim
    (λ (e : is_in x (step_names s) ≡ true). or_left (is_in x (step_names s)) (is_in x (names t)) e)
    (λ (e : (not (is_in x (step_defs s)) && is_free x t) ≡ true).
    or_right (is_in x (step_names s)) (is_in x (names t)) (free_named x t ((and_parts (not (is_in x (step_defs s))) (is_free x t) e).1)))
    (or_cases (is_in x (step_names s)) (not (is_in x (step_defs s)) && is_free x t) f)
free_named x (If c a b t u) f =
    in-append x (a ∷ b ∷ []) (names t ++ names u)
    ∙ ⊎_elim
    (λ (e : is_in x (a ∷ b ∷ []) ≡ true). or_left (is_in x (a ∷ b ∷ [])) (is_in x (names t ++ names u)) e)
    (λ (e : (is_free x t || is_free x u) ≡ true).
    or_right (is_in x (a ∷ b ∷ [])) (is_in x (names t ++ names u))
    (in-append x (names t) (names u)
    ∙ ⊎_elim
    (λ (g : is_free x t ≡ true). or_left (is_in x (names t)) (is_in x (names u)) (free_named x t g))
    (λ (g : is_free x u ≡ true). or_right (is_in x (names t)) (is_in x (names u)) (free_named x u g))
    (or_cases (is_free x t) (is_free x u) e)))
    (or_cases (is_in x (a ∷ b ∷ [])) (is_free x t || is_free x u) f)
free_named x (End l) f = f

-- ---- what is carried after a step

pub carry-in : (same gone : Bool) (z u : ℕ) (xs : List ℕ) → is_in z ((if same then xs else []) ++ (if gone then [] else u ∷ [])) ≡ true → ((same ≡ true) × (is_in z xs ≡ true)) ⊎ ((gone ≡ false) × (z ≡ u))
carry-in true true z u xs h = inl (refl, sym (ap (is_in z) (append-nil xs)) ∙ h)
carry-in true false z u xs h =
    ⊎_elim
    (λ (e : is_in z xs ≡ true). inl (refl, e))
    (λ (e : is_in z (u ∷ []) ≡ true).
    ⊎_elim
    (λ (k : nat_eq z u ≡ true). inr (refl, same-number z u k))
    (λ (k : false ≡ true). absurd (false≢true k))
    (or_cases (nat_eq z u) false e))
    (or_cases (is_in z xs) (is_in z (u ∷ [])) (sym (in-append z xs (u ∷ [])) ∙ h))
carry-in false true z u xs h = absurd (false≢true h)
carry-in false false z u xs h =
    ⊎_elim
    (λ (k : nat_eq z u ≡ true). inr (refl, same-number z u k))
    (λ (k : false ≡ true). absurd (false≢true k))
    (or_cases (nat_eq z u) false h)

pub carry-first : (same gone : Bool) (z u : ℕ) (xs : List ℕ) → same ≡ true → is_in z xs ≡ true → is_in z ((if same then xs else []) ++ (if gone then [] else u ∷ [])) ≡ true
carry-first true gone z u xs s i = in-append z xs (if gone then [] else u ∷ []) ∙ or_left (is_in z xs) (is_in z (if gone then [] else u ∷ [])) i
carry-first false gone z u xs s i = absurd (false≢true s)

pub carry-second : (same gone : Bool) (u : ℕ) (xs : List ℕ) → gone ≡ false → is_in u ((if same then xs else []) ++ (if gone then [] else u ∷ [])) ≡ true
carry-second same true u xs g = absurd (false≢true (sym g))
carry-second same false u xs g =
    in-append u (if same then xs else []) (u ∷ []) ∙ or_right (is_in u (if same then xs else [])) (is_in u (u ∷ [])) (in-itself u [])

-- ---- copies

name-cloned : (b : Bool) (of : Names) (z y : ℕ) (xs : List ℕ) → is_in z xs ≡ b → names_after of (Clone xs y) z ≡ (if b then of y else of z)
name-cloned b of z y xs e = ap (λ c. if c then of y else of z) e

copy-clone : (of : Names) (u z y : ℕ) (xs : List ℕ) → is_in z (carried xs (Clone xs y) u) ≡ true → names_after of (Clone xs y) z ≡ of u
copy-clone of u z y xs h =
    ⊎_elim
    (λ (e : (nat_eq u y ≡ true) × (is_in z xs ≡ true)). name-cloned true of z y xs e.1 ∙ ap of (sym (same-number u y e.0)))
    (λ (e : (is_in u xs ≡ false) × (z ≡ u)). name-cloned false of z y xs (subst (λ w. is_in w xs ≡ false) (sym e.1) e.0) ∙ ap of e.1)
    (carry-in (nat_eq u y) (is_in u xs) z u xs h)

copy-kept : (of : Names) (u z : ℕ) → is_in z (u ∷ []) ≡ true → of z ≡ of u
copy-kept of u z h =
    ⊎_elim
    (λ (k : nat_eq z u ≡ true). ap of (same-number z u k))
    (λ (k : false ≡ true). absurd (false≢true k))
    (or_cases (nat_eq z u) false h)

-- what is carried is a copy of the same
pub copy-carried : (of : Names) (s : Step) (u z : ℕ) → is_in z (carried (step_clones s) s u) ≡ true → names_after of s z ≡ of u
copy-carried of (Lit x v) u z h = copy-kept of u z h
copy-carried of (Una x op y) u z h = copy-kept of u z h
copy-carried of (Bin x op y w) u z h = copy-kept of u z h
copy-carried of (Clone xs y) u z h = copy-clone of u z y xs h
copy-carried of (Read m xs y) u z h = copy-kept of u z h
copy-carried of (Write m y xs) u z h = copy-kept of u z h

pub record Source (of : Names) (s : Step) (z : ℕ) : Type 0 where
  pub it : ℕ
  pub same : names_after of s z ≡ of it
  pub carries : is_in z (carried (step_clones s) s it) ≡ true

source-clone : (b : Bool) (of : Names) (z y : ℕ) (xs : List ℕ) → is_in z xs ≡ b → Source of (Clone xs y) z
source-clone true of z y xs e = record { it = y; same = name-cloned true of z y xs e; carries = carry-first (nat_eq y y) (is_in y xs) z y xs (eq-eqb y y refl) e }
source-clone false of z y xs e = record { it = z; same = name-cloned false of z y xs e; carries = carry-second (nat_eq z y) (is_in z xs) z xs e }

-- every name after a step is a copy of what some name before it was
pub source : (of : Names) (s : Step) (z : ℕ) → Source of s z
source of (Lit x v) z = record { it = z; same = refl; carries = in-itself z [] }
source of (Una x op y) z = record { it = z; same = refl; carries = in-itself z [] }
source of (Bin x op y w) z = record { it = z; same = refl; carries = in-itself z [] }
source of (Clone xs y) z = source-clone (is_in z xs) of z y xs refl
source of (Read m xs y) z = record { it = z; same = refl; carries = in-itself z [] }
source of (Write m y xs) z = record { it = z; same = refl; carries = in-itself z [] }

-- ---- values of which a copy is used

pub used_from : (of : Names) (t : Tree) (u : ℕ) → copy_used u t ≡ true → is_in (of u) (used of t) ≡ true
used_from of (Do s t) u h =
    in-append (of u) (map of (step_uses s)) (used (names_after of s) t)
    ∙ ⊎_elim
    (λ (e : is_in u (step_uses s) ≡ true). or_left (is_in (of u) (map of (step_uses s))) (is_in (of u) (used (names_after of s) t)) (image_from of (step_uses s) u e))
    (λ (e : list_any (λ z. copy_used z t) (carried (step_clones s) s u) ≡ true).
    let d = any_at (λ z. copy_used z t) (carried (step_clones s) s u) e in
    or_right (is_in (of u) (map of (step_uses s))) (is_in (of u) (used (names_after of s) t))
    (subst (λ v. is_in v (used (names_after of s) t) ≡ true) (copy-carried of s u d.it d.among) (used_from (names_after of s) t d.it d.passes)))
    (or_cases (is_in u (step_uses s)) (list_any (λ z. copy_used z t) (carried (step_clones s) s u)) h)
used_from of (If c a b t u) x h =
    in-append (of x) (map of (a ∷ b ∷ [])) (used of t ++ used of u)
    ∙ ⊎_elim
    (λ (e : is_in x (a ∷ b ∷ []) ≡ true). or_left (is_in (of x) (map of (a ∷ b ∷ []))) (is_in (of x) (used of t ++ used of u)) (image_from of (a ∷ b ∷ []) x e))
    (λ (e : (copy_used x t || copy_used x u) ≡ true).
    or_right (is_in (of x) (map of (a ∷ b ∷ []))) (is_in (of x) (used of t ++ used of u))
    (in-append (of x) (used of t) (used of u)
    ∙ ⊎_elim
    (λ (g : copy_used x t ≡ true). or_left (is_in (of x) (used of t)) (is_in (of x) (used of u)) (used_from of t x g))
    (λ (g : copy_used x u ≡ true). or_right (is_in (of x) (used of t)) (is_in (of x) (used of u)) (used_from of u x g))
    (or_cases (copy_used x t) (copy_used x u) e)))
    (or_cases (is_in x (a ∷ b ∷ [])) (copy_used x t || copy_used x u) h)
used_from of (End l) u h = image_from of (last_uses l) u h

pub record UsedBy (of : Names) (t : Tree) (v : ℕ) : Type 0 where
  pub it : ℕ
  pub copy : of it ≡ v
  pub uses : copy_used it t ≡ true

used_arms : (of : Names) (c : Cmp) (a b : ℕ) (t u : Tree) (v : ℕ) → (is_in v (used of t) ≡ true → UsedBy of t v) → (is_in v (used of u) ≡ true → UsedBy of u v) → is_in v (used of t ++ used of u) ≡ true → UsedBy of (If c a b t u) v
used_arms of c a b t u v f g h =
    ⊎_elim
    (λ (e : is_in v (used of t) ≡ true).
    let d = f e in
    record { it = d.it; copy = d.copy; uses = or_right (is_in d.it (a ∷ b ∷ [])) (copy_used d.it t || copy_used d.it u) (or_left (copy_used d.it t) (copy_used d.it u) d.uses) })
    (λ (e : is_in v (used of u) ≡ true).
    let d = g e in
    record { it = d.it; copy = d.copy; uses = or_right (is_in d.it (a ∷ b ∷ [])) (copy_used d.it t || copy_used d.it u) (or_right (copy_used d.it t) (copy_used d.it u) d.uses) })
    (or_cases (is_in v (used of t)) (is_in v (used of u)) (sym (in-append v (used of t) (used of u)) ∙ h))

pub used_at : (of : Names) (t : Tree) (v : ℕ) → is_in v (used of t) ≡ true → UsedBy of t v
used_at of (Do s t) v h =
    ⊎_elim
    (λ (e : is_in v (map of (step_uses s)) ≡ true).
    let d = image_at of (step_uses s) v e in
    record { it = d.it; copy = d.is; uses = or_left (is_in d.it (step_uses s)) (list_any (λ z. copy_used z t) (carried (step_clones s) s d.it)) d.among })
    (λ (e : is_in v (used (names_after of s) t) ≡ true).
    let d = used_at (names_after of s) t v e in
    let k = source of s d.it in
    record {
      it = k.it;
      copy = sym k.same ∙ d.copy;
      uses = or_right (is_in k.it (step_uses s)) (list_any (λ z. copy_used z t) (carried (step_clones s) s k.it)) (any_from (λ z. copy_used z t) (carried (step_clones s) s k.it) d.it k.carries d.uses);
    })
    (or_cases (is_in v (map of (step_uses s))) (is_in v (used (names_after of s) t)) (sym (in-append v (map of (step_uses s)) (used (names_after of s) t)) ∙ h))
used_at of (If c a b t u) v h =
    ⊎_elim
    (λ (e : is_in v (map of (a ∷ b ∷ [])) ≡ true).
    let d = image_at of (a ∷ b ∷ []) v e in
    record { it = d.it; copy = d.is; uses = or_left (is_in d.it (a ∷ b ∷ [])) (copy_used d.it t || copy_used d.it u) d.among })
    (λ (e : is_in v (used of t ++ used of u) ≡ true). used_arms of c a b t u v (used_at of t v) (used_at of u v) e)
    (or_cases (is_in v (map of (a ∷ b ∷ []))) (is_in v (used of t ++ used of u)) (sym (in-append v (map of (a ∷ b ∷ [])) (used of t ++ used of u)) ∙ h))
used_at of (End l) v h = let d = image_at of (last_uses l) v h in record { it = d.it; copy = d.is; uses = d.among }

-- of a name that is its own value, some copy is used exactly where the value is
pub used-own : (x : ℕ) (t : Tree) → is_in x (used own t) ≡ copy_used x t
used-own x t =
    same_tests (is_in x (used own t)) (copy_used x t)
    (λ h. let d = used_at own t x h in subst (λ z. copy_used z t ≡ true) d.copy d.uses)
    (λ h. used_from own t x h)

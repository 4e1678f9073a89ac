-- Which values are held in a form that was made: those of the variables that are live in the flow, and new ones.
use Rattle.std.proofs.Common.{◌≡◌, ℕ, ◌+◌, ◌<◌, ◌≤◌, Bool, true, false, not, nat_eq, nat_lt, List, [], ◌∷◌, ◌++◌, map, filter, refl, sym, ap, subst, ◌∙◌, ◌⊎◌, inl, inr, ⊎_elim, if◌then◌else◌, length, slice_index, drop, arith}
use Rattle.std.proofs.lemmas.Bool.{false≢true, and_from, or_cases, or_left, or_right, not_from_false}
use Rattle.nv_base.specs.declared.term.Atom.{Atom}
use Rattle.nv_base.specs.declared.term.Atom.TheVariants.{Var, Lit}
use Rattle.nv_base.specs.declared.term.Primitive.{Primitive}
use Rattle.nv_base.specs.declared.term.Primitive.TheVariants.{Same, Una as UnaOf, Bin as BinOf}
use Rattle.nv_base.specs.Words.{word, atom_vars, prim_vars}
use Rattle.nv_base.specs.Sets.{is_in, Within, without, all_vars, different, all_different}
use Rattle.nv_base.proofs.Sets.{in-append, in-without, same-number, within-left, within-right, different-below, different-all}
use Rattle.flow_ir.specs.Tree.{Tree, Let, Read, Write, If, Jump, Halt, Label}
use Rattle.flow_ir.specs.Formed.{defined}
use Rattle.flow_ir.specs.Wide.{live}
use Rattle.ssu_ir.specs.Tree as ssu
use Rattle.ssu_ir.specs.Points.{Names, used}
use Rattle.ssu_ir.specs.Single.{is_narrow}
use Rattle.ssu_ir.proofs.Liveness.{filter_from}
use Rattle.ssu_ir.proofs.Lists.{image_from}
use Rattle.ssu_make.specs.Uses.{Counts, here, occurs, operands, outside, uses}
use Rattle.ssu_make.specs.Made.{literal, last_taken, names_taken, taken, all_taken, name, names, atom_literal, literals, value, clones, prim_step, spent, most, made, Laid}
use Rattle.ssu_make.proofs.Assigned.{same-test}
use Rattle.ssu_make.proofs.Clones.{Place, clone_env, clones_env, clone-outside, Cloned, clone-all, value-is}
use Rattle.ssu_make.proofs.Counting.{times, times-append, times-in, times-not, different-from}
use Rattle.ssu_make.proofs.Fitting.{Fits, fits-let, fits-read, fits-write, fits-first, fits-second, place-of, uses-all}
use Rattle.ssu_make.proofs.Once.{Fresh, fresh-more, fresh-first, fresh-second, in-either}
use Rattle.ssu_make.proofs.Results.{clones-names, clones-leave, used-prim}

-- ---- lists that are filtered

filter-times-at : (b : Bool) (x z : ℕ) (rest rest' : List ℕ) → times z rest ≤ times z rest' → times z (if b then x ∷ rest else rest) ≤ times z (x ∷ rest')
filter-times-at true x z rest rest' h = omega arith
filter-times-at false x z rest rest' h = omega arith

pub filter-times : (p : ℕ → Bool) (xs : List ℕ) (z : ℕ) → times z (filter p xs) ≤ times z xs
filter-times p [] z = omega arith
filter-times p (x ∷ xs) z = filter-times-at (p x) x z (filter p xs) xs (filter-times p xs z)

filter-length-at : (b c : Bool) (x : ℕ) (a d : List ℕ) → (b ≡ true → c ≡ true) → length a ≤ length d → length (if b then x ∷ a else a) ≤ length (if c then x ∷ d else d)
filter-length-at true true x a d h le = omega arith
filter-length-at true false x a d h le = absurd (false≢true (h refl))
filter-length-at false true x a d h le = omega arith
filter-length-at false false x a d h le = le

pub filter-fewer : (p q : ℕ → Bool) (xs : List ℕ) → ((z : ℕ) → is_in z xs ≡ true → p z ≡ true → q z ≡ true) → length (filter p xs) ≤ length (filter q xs)
filter-fewer p q [] h = omega arith
filter-fewer p q (x ∷ xs) h =
    filter-length-at (p x) (q x) x (filter p xs) (filter q xs) (h x (or_left (nat_eq x x) (is_in x xs) (same-test x))) (filter-fewer p q xs (λ z i. h z (or_right (nat_eq z x) (is_in z xs) i)))

-- of different numbers those that pass are at most as many as the different ones among which they are
pub filter-among : (p : ℕ → Bool) (xs vals : List ℕ) → ((z : ℕ) → times z xs ≤ 1) → ((z : ℕ) → is_in z xs ≡ true → p z ≡ true → is_in z vals ≡ true) → length (filter p xs) ≤ different vals
filter-among p xs vals once h =
    let all : all_different (filter p xs) ≡ true = different-from (filter p xs) (λ z. let a = filter-times p xs z in let b = once z in omega arith) in
    let few = different-below (filter p xs) vals (λ z i. let r = filter_from p xs z i in h z r.0 r.1) in
    omega (arith, different-all (filter p xs) all, few)

different-map-at : (b c : Bool) (m n : ℕ) → (b ≡ true → c ≡ true) → m ≤ n → (if c then m else 1 + m) ≤ (if b then n else 1 + n)
different-map-at true true m n h le = le
different-map-at true false m n h le = absurd (false≢true (h refl))
different-map-at false true m n h le = omega arith
different-map-at false false m n h le = omega arith

pub different-map : (f : ℕ → ℕ) (xs : List ℕ) → different (map f xs) ≤ different xs
different-map f [] = omega arith
different-map f (x ∷ xs) = different-map-at (is_in x xs) (is_in (f x) (map f xs)) (different (map f xs)) (different xs) (image_from f xs x) (different-map f xs)

-- ---- what each name is a copy of

-- the copies of used variables are of their values, and other names not yet defined are their own
pub record Sees (base size : Counts) (d : ℕ) (val : ℕ → ℕ) (of : Names) (r : Counts) (defs : List ℕ) : Type 0 where
  pub copies : (y k : ℕ) → k < r y → of (base y + k) ≡ val y
  pub later : (y k : ℕ) → is_in y defs ≡ true → k ≤ size y → of (base y + k) ≡ base y + k
  pub new : (z : ℕ) → d ≤ z → of z ≡ z

-- the values, where these variables have begun
unfoldable pub valued : Counts → Counts → List ℕ → (ℕ → ℕ) → ℕ → ℕ
valued base r xs val y = if is_in y xs then value base r y else val y

module _ (base size : Counts) (c d : ℕ) (vs : List ℕ) (laid : Laid base size c d vs) where
  clones-far : (r : Counts) (xs : List ℕ) (of : Names) (z : ℕ) → ((x : ℕ) → r x ≤ size x) → Within xs vs → d ≤ z → clones_env base r xs of z ≡ of z
  unfolding clones_env
  clones-far r [] of z le w far = refl
  clones-far r (x ∷ xs) of z le w far =
      let b = laid.below x (w x (or_left (nat_eq x x) (is_in x xs) (same-test x))) in
      let l = le x in
      clones-far r xs (clone_env (nat_lt 1 (r x)) (base x) (r x) of) z le (λ y i. w y (or_right (nat_eq y x) (is_in y xs) i)) far
      ∙ clone-outside (nat_lt 1 (r x)) (base x) (r x) z of (inr (omega arith))

  pub sees-behind : (r : Counts) (xs rest : List ℕ) (val : ℕ → ℕ) (of : Names) → Place base r d vs → ((x : ℕ) → r x ≤ size x) → Within xs vs → Within rest vs → ((y : ℕ) → is_in y rest ≡ true → is_in y xs ≡ false)
      → Sees base size d val of (outside xs r) (xs ++ rest) → Sees base size d (valued base r xs val) (clones_env base r xs of) r rest
  unfolding valued
  sees-behind r xs rest val of place le w w' apart h =
      let value-kept : (y : ℕ) → is_in y xs ≡ true → of (value base r y) ≡ value base r y = λ y i.
      let there = within-left xs rest y i in
      ⊎_elim (λ (e : value base r y ≡ base y). let z : base y ≡ base y + 0 = omega arith in ap of (e ∙ z) ∙ h.later y 0 there (omega arith) ∙ sym (e ∙ z))
      (λ (e : value base r y ≡ base y + r y). ap of e ∙ h.later y (r y) there (le y) ∙ sym e) (value-is base r y) in
      let start : Cloned base r xs (valued base r xs val) of = record {
        values = λ y i. value-kept y i ∙ sym (ap (λ b. if b then value base r y else val y) i);
        copies = λ y k o lt. h.copies y k (subst (λ n. k < n) (sym (ap (λ b. if b then 0 else r y) o)) lt) ∙ sym (ap (λ b. if b then value base r y else val y) o);
      } in
      let all = clone-all base r d vs place xs (valued base r xs val) of w start in
      record {
        copies = λ y k lt. all.copies y k refl lt;
        later = λ y k i lk. clones-leave base size c d vs laid r xs y k of le w (w' y i) (apart y i) lk ∙ h.later y k (within-right xs rest y i) lk;
        new = λ z far. clones-far r xs of z le w far ∙ h.new z far;
      }

-- ---- what a form that was made uses

-- values of these variables, new names, or names of these others
abbrev pub IsOf : Counts → Counts → (ℕ → ℕ) → List ℕ → ℕ → ℕ → List ℕ → ℕ → Type 0
IsOf base size val vars n k defs v =
    ((y : ℕ) × (is_in y vars ≡ true) × (v ≡ val y)) ⊎ (((n ≤ v) × (v < n + k)) ⊎ ((y : ℕ) × (is_in y defs ≡ true) × (base y ≤ v) × (v ≤ base y + size y)))

-- an operand's name is of a variable's value, or new
name-of : (base s : Counts) (n d : ℕ) (val : ℕ → ℕ) (of : Names) (a : Atom) (v : ℕ) → d ≤ n → ((y k : ℕ) → k < here a y + s y → of (base y + k) ≡ val y) → ((z : ℕ) → d ≤ z → of z ≡ z) → v ≡ of (name base s n a)
    → ((y : ℕ) × (is_in y (atom_vars a) ≡ true) × (v ≡ val y)) ⊎ ((n ≤ v) × (v < n + taken a))
name-of base s n d val of (Var x) v far h g e =
    let one : here (Var x) x ≡ 1 = ap (λ b. if b then 1 else 0) (same-test x) in
    inl (x, or_left (nat_eq x x) false (same-test x), e ∙ h x (s x) (omega (arith, one)))
name-of base s n d val of (Lit w) v far h g e = inr (own-of (is_narrow (word w)) refl)
  where
    own-of : (b : Bool) → is_narrow (word w) ≡ b → (n ≤ v) × (v < n + names_taken (is_narrow (word w)))
    own-of true q =
        let at : v ≡ n = e ∙ ap (λ b. of (last_taken b n)) q ∙ g n far in
        let t : names_taken (is_narrow (word w)) ≡ 1 = ap names_taken q in
        (omega (arith, at), omega (arith, at, t))
    own-of false q =
        let at : v ≡ n + 2 = e ∙ ap (λ b. of (last_taken b n)) q ∙ g (n + 2) (omega arith) in
        let t : names_taken (is_narrow (word w)) ≡ 3 = ap names_taken q in
        (omega (arith, at), omega (arith, at, t))

pub names-of : (base r : Counts) (n d : ℕ) (val : ℕ → ℕ) (of : Names) (as' : List Atom) (v : ℕ) → d ≤ n → ((y k : ℕ) → k < occurs as' y + r y → of (base y + k) ≡ val y) → ((z : ℕ) → d ≤ z → of z ≡ z)
    → is_in v (map of (names base r n as')) ≡ true → ((y : ℕ) × (is_in y (all_vars as') ≡ true) × (v ≡ val y)) ⊎ ((n ≤ v) × (v < n + all_taken as'))
names-of base r n d val of [] v far h g i = absurd (false≢true i)
names-of base r n d val of (a ∷ as') v far h g i =
    let s : Counts = λ y. occurs as' y + r y in
    let N = n + all_taken as' in
    ⊎_elim
    (λ (e : nat_eq v (of (name base s N a)) ≡ true).
    ⊎_elim (λ (p : (y : ℕ) × (is_in y (atom_vars a) ≡ true) × (v ≡ val y)). inl (p.0, within-left (atom_vars a) (all_vars as') p.0 p.1, p.2))
    (λ (p : (N ≤ v) × (v < N + taken a)). let x = p.0 in let z = p.1 in inr (omega arith, omega arith))
    (name-of base s N d val of a v (omega arith) (λ y k lt. h y k (omega arith)) g (same-number v (of (name base s N a)) e)))
    (λ (e : is_in v (map of (names base r n as')) ≡ true).
    ⊎_elim (λ (p : (y : ℕ) × (is_in y (all_vars as') ≡ true) × (v ≡ val y)). inl (p.0, within-right (atom_vars a) (all_vars as') p.0 p.1, p.2))
    (λ (p : (n ≤ v) × (v < n + all_taken as')). let x = p.0 in let z = p.1 in inr (omega arith, omega arith))
    (names-of base r n d val of as' v far (λ y k lt. h y k (omega arith)) g e))
    (or_cases (nat_eq v (of (name base s N a))) (is_in v (map of (names base r n as'))) i)

-- a literal's own uses are new names
literal-of : (b : Bool) (n w v : ℕ) (t : ssu.Tree) (of : Names) → of n ≡ n → of (n + 1) ≡ n + 1 → is_in v (used of (literal b n w t)) ≡ true → ((n ≤ v) × (v < n + names_taken b)) ⊎ (is_in v (used of t) ≡ true)
literal-of true n w v t of e f i = inr i
literal-of false n w v t of e f i =
    ⊎_elim (λ (p : nat_eq v (of n) ≡ true). let q : v ≡ n = same-number v (of n) p ∙ e in inl (omega arith, omega arith))
    (λ (p : is_in v (of (n + 1) ∷ used of t) ≡ true). ⊎_elim (λ (r : nat_eq v (of (n + 1)) ≡ true). let q : v ≡ n + 1 = same-number v (of (n + 1)) r ∙ f in inl (omega arith, omega arith)) (λ (r : is_in v (used of t) ≡ true). inr r) (or_cases (nat_eq v (of (n + 1))) (is_in v (used of t)) p))
    (or_cases (nat_eq v (of n)) (is_in v (of (n + 1) ∷ used of t)) i)

atom-of : (n d : ℕ) (a : Atom) (v : ℕ) (t : ssu.Tree) (of : Names) → d ≤ n → ((z : ℕ) → d ≤ z → of z ≡ z) → is_in v (used of (atom_literal n a t)) ≡ true → ((n ≤ v) × (v < n + taken a)) ⊎ (is_in v (used of t) ≡ true)
atom-of n d (Var x) v t of far g i = inr i
atom-of n d (Lit w) v t of far g i = literal-of (is_narrow (word w)) n (word w) v t of (g n far) (g (n + 1) (omega arith)) i

pub literals-of : (n d : ℕ) (as' : List Atom) (v : ℕ) (t : ssu.Tree) (of : Names) → d ≤ n → ((z : ℕ) → d ≤ z → of z ≡ z) → is_in v (used of (literals n as' t)) ≡ true → ((n ≤ v) × (v < n + all_taken as')) ⊎ (is_in v (used of t) ≡ true)
literals-of n d [] v t of far g i = inr i
literals-of n d (a ∷ as') v t of far g i =
    ⊎_elim (λ (p : (n + all_taken as' ≤ v) × (v < n + all_taken as' + taken a)). let x = p.0 in let z = p.1 in inl (omega arith, omega arith))
    (λ (p : is_in v (used of (literals n as' t)) ≡ true).
    ⊎_elim (λ (q : (n ≤ v) × (v < n + all_taken as')). let x = q.0 in let z = q.1 in inl (omega arith, omega arith)) (λ (q : is_in v (used of t) ≡ true). inr q) (literals-of n d as' v t of far g p))
    (atom-of (n + all_taken as') d a v (literals n as' t) of (omega arith) g i)

operand-vars : (p : Primitive) (y : ℕ) → is_in y (all_vars (operands p)) ≡ true → is_in y (prim_vars p) ≡ true
operand-vars (Same a) y h = ⊎_elim (λ (e : is_in y (atom_vars a) ≡ true). e) (λ (e : false ≡ true). absurd (false≢true e)) (or_cases (is_in y (atom_vars a)) false (sym (in-append y (atom_vars a) []) ∙ h))
operand-vars (UnaOf op a) y h = ⊎_elim (λ (e : is_in y (atom_vars a) ≡ true). e) (λ (e : false ≡ true). absurd (false≢true e)) (or_cases (is_in y (atom_vars a)) false (sym (in-append y (atom_vars a) []) ∙ h))
operand-vars (BinOf op a b) y h =
    ⊎_elim (λ (e : is_in y (atom_vars a) ≡ true). within-left (atom_vars a) (atom_vars b) y e)
    (λ (e : is_in y (atom_vars b ++ []) ≡ true). ⊎_elim (λ (f : is_in y (atom_vars b) ≡ true). within-right (atom_vars a) (atom_vars b) y f) (λ (f : false ≡ true). absurd (false≢true f)) (or_cases (is_in y (atom_vars b)) false (sym (in-append y (atom_vars b) []) ∙ e)))
    (or_cases (is_in y (atom_vars a)) (is_in y (atom_vars b ++ [])) (sym (in-append y (atom_vars a) (atom_vars b ++ [])) ∙ h))

-- ---- what trees use

pub of-wider : (base size : Counts) (val : ℕ → ℕ) (vars vars' : List ℕ) (n k n' k' : ℕ) (defs defs' : List ℕ) (v : ℕ) → Within vars vars' → Within defs defs' → n' ≤ n → n + k ≤ n' + k' → IsOf base size val vars n k defs v → IsOf base size val vars' n' k' defs' v
of-wider base size val vars vars' n k n' k' defs defs' v w w' le le' (inl p) = inl (p.0, w p.0 p.1, p.2)
of-wider base size val vars vars' n k n' k' defs defs' v w w' le le' (inr (inl p)) = let a = p.0 in let b = p.1 in inr (inl (omega arith, omega arith))
of-wider base size val vars vars' n k n' k' defs defs' v w w' le le' (inr (inr p)) = inr (inr (p.0, w' p.0 p.1, p.2, p.3))

of-behind-at : (b : Bool) (base size r : Counts) (val : ℕ → ℕ) (front lives xs rest : List ℕ) (n k m y v : ℕ) → ((x : ℕ) → r x ≤ size x) → is_in y xs ≡ b → is_in y lives ≡ true → v ≡ (if b then value base r y else val y) → IsOf base size val (front ++ without lives xs) n (k + m) (xs ++ rest) v
of-behind-at true base size r val front lives xs rest n k m y v le e i q =
    let l = le y in
    ⊎_elim (λ (z : value base r y ≡ base y). let a : v ≡ base y = q ∙ z in inr (inr (y, within-left xs rest y e, omega (arith, a), omega (arith, a))))
    (λ (z : value base r y ≡ base y + r y). let a : v ≡ base y + r y = q ∙ z in inr (inr (y, within-left xs rest y e, omega (arith, a), omega (arith, a)))) (value-is base r y)
of-behind-at false base size r val front lives xs rest n k m y v le e i q =
    inl (y, within-right front (without lives xs) y (in-without y lives xs ∙ and_from (is_in y lives) (not (is_in y xs)) i (not_from_false (is_in y xs) e)), q)

of-behind : (base size r : Counts) (val : ℕ → ℕ) (front lives xs rest : List ℕ) (n k m v : ℕ) → ((x : ℕ) → r x ≤ size x) → IsOf base size (valued base r xs val) lives n k rest v → IsOf base size val (front ++ without lives xs) n (k + m) (xs ++ rest) v
unfolding valued
of-behind base size r val front lives xs rest n k m v le (inl p) = of-behind-at (is_in p.0 xs) base size r val front lives xs rest n k m p.0 v le refl p.1 p.2
of-behind base size r val front lives xs rest n k m v le (inr (inl p)) = let a = p.0 in let b = p.1 in inr (inl (omega arith, omega arith))
of-behind base size r val front lives xs rest n k m v le (inr (inr p)) = inr (inr (p.0, within-right xs rest p.0 p.1, p.2, p.3))

pub fresh-apart : (xs known rest : List ℕ) → Fresh (xs ++ known) rest → (y : ℕ) → is_in y rest ≡ true → is_in y xs ≡ false
unfolding Fresh
fresh-apart xs known rest f y i = let le = f y in let p = times-in y rest i in times-not y xs (omega (arith, times-append y xs known))

pub sees-weaker : (base size : Counts) (d : ℕ) (val : ℕ → ℕ) (of : Names) (r s : Counts) (defs defs' : List ℕ) → ((y : ℕ) → s y ≤ r y) → Within defs' defs → Sees base size d val of r defs → Sees base size d val of s defs'
sees-weaker base size d val of r s defs defs' le w h = record {
  copies = λ y k lt. let l = le y in h.copies y k (omega arith);
  later = λ y k i lk. h.later y k (w y i) lk;
  new = h.new;
}

-- after a definition of these variables
pub record Behind (labels : List Label) (base size : Counts) (d : ℕ) (vs : List ℕ) (known xs : List ℕ) (t : Tree) (val : ℕ → ℕ) (of : Names) : Type 0 where
  pub fits : Fits labels vs size (xs ++ known) t
  pub sized : (x : ℕ) → uses t x ≤ size x
  pub place : Place base (uses t) d vs
  pub fresh : Fresh (xs ++ known) (defined t)
  pub sees : Sees base size d (valued base (uses t) xs val) (clones_env base (uses t) xs of) (uses t) (defined t)

module _ (labels : List Label) (base size : Counts) (c d : ℕ) (vs : List ℕ) (laid : Laid base size c d vs) where
  pub behind : (t : Tree) (known xs : List ℕ) (val : ℕ → ℕ) (of : Names) → Fits labels vs size (xs ++ known) t → Within xs vs → Fresh known (xs ++ defined t) → Sees base size d val of (outside xs (uses t)) (xs ++ defined t) → Behind labels base size d vs known xs t val of
  behind t known xs val of fits w once sees =
      let place = place-of base size c d labels vs (xs ++ known) t laid fits in
      let sized : (x : ℕ) → uses t x ≤ size x = λ x. let a = uses-all t x in let b = fits.sized x in omega arith in
      let fresh = fresh-more known xs (defined t) once in
      record { fits = fits; sized = sized; place = place; fresh = fresh; sees = sees-behind base size c d vs laid (uses t) xs (defined t) val of place sized w fits.defs (fresh-apart xs known (defined t) fresh) sees }

  pub used-of : (t : Tree) (known : List ℕ) (n : ℕ) (val : ℕ → ℕ) (of : Names) (v : ℕ) → Fits labels vs size known t → Fresh known (defined t) → d ≤ n → Sees base size d val of (uses t) (defined t) → is_in v (used of (made base n t)) ≡ true
      → IsOf base size val (live t) n (spent t) (defined t) v
  used-of (Let x p t) known n val of v f once far sees i =
      let N = n + spent t in
      let os = operands p in
      let r = uses t in
      let r' = outside (x ∷ []) r in
      let ns = names base r' N os in
      let C = clones base r (x ∷ []) (made base n t) in
      let fits = fits-let labels vs size known x p t f in
      let b = behind t known (x ∷ []) val of fits (λ y j. fits.within y (within-left (x ∷ []) known y j)) once (sees-weaker base size d val of (uses (Let x p t)) r' (x ∷ defined t) (x ∷ defined t) (λ y. omega arith) (λ y j. j) sees) in
      ⊎_elim (λ (q : (N ≤ v) × (v < N + all_taken os)). let a = q.0 in let z = q.1 in inr (inl (omega arith, omega arith)))
      (λ (q : is_in v (used of (ssu.Do (prim_step (value base r x) p ns) C)) ≡ true).
      ⊎_elim (λ (s : is_in v (map of ns) ≡ true).
      ⊎_elim (λ (u : (y : ℕ) × (is_in y (all_vars os) ≡ true) × (v ≡ val y)). inl (u.0, within-left (prim_vars p) (without (live t) (x ∷ [])) u.0 (operand-vars p u.0 u.1), u.2))
      (λ (u : (N ≤ v) × (v < N + all_taken os)). let a = u.0 in let z = u.1 in inr (inl (omega arith, omega arith)))
      (names-of base r' N d val of os v (omega arith) sees.copies sees.new s))
      (λ (s : is_in v (used of C) ≡ true).
      of-behind base size r val (prim_vars p) (live t) (x ∷ []) (defined t) n (spent t) (all_taken os) v b.sized
      (used-of t (x ∷ known) n (valued base r (x ∷ []) val) (clones_env base r (x ∷ []) of) v b.fits b.fresh far b.sees (sym (ap (is_in v) (clones-names base r (x ∷ []) (made base n t) of)) ∙ s)))
      (in-either v (map of ns) (used of C) (sym (ap (is_in v) (used-prim base r' N (value base r x) p C of)) ∙ q)))
      (literals-of N d os v (ssu.Do (prim_step (value base r x) p ns) C) of (omega arith) sees.new i)
  used-of (Read m xs a t) known n val of v f once far sees i =
      let N = n + spent t in
      let os = a ∷ [] in
      let r = uses t in
      let r' = outside xs r in
      let ns = names base r' N os in
      let C = clones base r xs (made base n t) in
      let fits = fits-read labels vs size known m xs a t f in
      let b = behind t known xs val of fits (λ y j. fits.within y (within-left xs known y j)) once (sees-weaker base size d val of (uses (Read m xs a t)) r' (xs ++ defined t) (xs ++ defined t) (λ y. omega arith) (λ y j. j) sees) in
      ⊎_elim (λ (q : (N ≤ v) × (v < N + all_taken os)). let e = q.0 in let z = q.1 in inr (inl (omega arith, omega arith)))
      (λ (q : is_in v (map of ns ++ used of C) ≡ true).
      ⊎_elim (λ (s : is_in v (map of ns) ≡ true).
      ⊎_elim (λ (u : (y : ℕ) × (is_in y (all_vars os) ≡ true) × (v ≡ val y)). inl (u.0, within-left (atom_vars a) (without (live t) xs) u.0 (one-var a u.0 u.1), u.2))
      (λ (u : (N ≤ v) × (v < N + all_taken os)). let e = u.0 in let z = u.1 in inr (inl (omega arith, omega arith)))
      (names-of base r' N d val of os v (omega arith) sees.copies sees.new s))
      (λ (s : is_in v (used of C) ≡ true).
      of-behind base size r val (atom_vars a) (live t) xs (defined t) n (spent t) (all_taken os) v b.sized
      (used-of t (xs ++ known) n (valued base r xs val) (clones_env base r xs of) v b.fits b.fresh far b.sees (sym (ap (is_in v) (clones-names base r xs (made base n t) of)) ∙ s)))
      (in-either v (map of ns) (used of C) q))
      (literals-of N d os v (ssu.Do (ssu.Read m (map (value base r) xs) (slice_index ns 0)) C) of (omega arith) sees.new i)
    where
      one-var : (a : Atom) (y : ℕ) → is_in y (atom_vars a ++ []) ≡ true → is_in y (atom_vars a) ≡ true
      one-var a y h = ⊎_elim (λ (e : is_in y (atom_vars a) ≡ true). e) (λ (e : false ≡ true). absurd (false≢true e)) (or_cases (is_in y (atom_vars a)) false (sym (in-append y (atom_vars a) []) ∙ h))
  used-of (Write m a bs t) known n val of v f once far sees i =
      let N = n + spent t in
      let os = a ∷ bs in
      let r = uses t in
      let ns = names base r N os in
      let T = made base n t in
      let fits = fits-write labels vs size known m a bs t f in
      ⊎_elim (λ (q : (N ≤ v) × (v < N + all_taken os)). let e = q.0 in let z = q.1 in inr (inl (omega arith, omega arith)))
      (λ (q : is_in v (map of ns ++ used of T) ≡ true).
      ⊎_elim (λ (s : is_in v (map of ns) ≡ true).
      ⊎_elim (λ (u : (y : ℕ) × (is_in y (all_vars os) ≡ true) × (v ≡ val y)). inl (u.0, within-left (all_vars os) (live t) u.0 u.1, u.2))
      (λ (u : (N ≤ v) × (v < N + all_taken os)). let e = u.0 in let z = u.1 in inr (inl (omega arith, omega arith)))
      (names-of base r N d val of os v (omega arith) sees.copies sees.new s))
      (λ (s : is_in v (used of T) ≡ true).
      of-wider base size val (live t) (all_vars os ++ live t) n (spent t) n (spent t + all_taken os) (defined t) (defined t) v (within-right (all_vars os) (live t)) (λ y j. j) (omega arith) (omega arith)
      (used-of t known n val of v fits once far (sees-weaker base size d val of (uses (Write m a bs t)) r (defined t) (defined t) (λ y. omega arith) (λ y j. j) sees) s))
      (in-either v (map of ns) (used of T) q))
      (literals-of N d os v (ssu.Do (ssu.Write m (slice_index ns 0) (drop 1 ns)) T) of (omega arith) sees.new i)
  used-of (If q' a b t u) known n val of v f once far sees i =
      let N = n + (spent u + spent t) in
      let os = a ∷ b ∷ [] in
      let r = most (uses t) (uses u) in
      let ns = names base r N os in
      let T = made base (n + spent u) t in
      let U = made base n u in
      let V = all_vars os in
      let S = spent u + spent t + all_taken os in
      let D = defined t ++ defined u in
      ⊎_elim (λ (q : (N ≤ v) × (v < N + all_taken os)). let e = q.0 in let z = q.1 in inr (inl (omega arith, omega arith)))
      (λ (q : is_in v (map of ns ++ (used of T ++ used of U)) ≡ true).
      ⊎_elim (λ (s : is_in v (map of ns) ≡ true).
      ⊎_elim (λ (w : (y : ℕ) × (is_in y V ≡ true) × (v ≡ val y)). inl (w.0, within-left V (live t ++ live u) w.0 w.1, w.2))
      (λ (w : (N ≤ v) × (v < N + all_taken os)). let e = w.0 in let z = w.1 in inr (inl (omega arith, omega arith)))
      (names-of base r N d val of os v (omega arith) sees.copies sees.new s))
      (λ (s : is_in v (used of T ++ used of U) ≡ true).
      ⊎_elim (λ (w : is_in v (used of T) ≡ true).
      of-wider base size val (live t) (V ++ (live t ++ live u)) (n + spent u) (spent t) n S (defined t) D v (λ y j. within-right V (live t ++ live u) y (within-left (live t) (live u) y j)) (within-left (defined t) (defined u)) (omega arith) (omega arith)
      (used-of t known (n + spent u) val of v (fits-first labels vs size known q' a b t u f) (fresh-first known (defined t) (defined u) once) (omega arith) (sees-weaker base size d val of (uses (If q' a b t u)) (uses t) D (defined t) (λ y. omega arith) (within-left (defined t) (defined u)) sees) w))
      (λ (w : is_in v (used of U) ≡ true).
      of-wider base size val (live u) (V ++ (live t ++ live u)) n (spent u) n S (defined u) D v (λ y j. within-right V (live t ++ live u) y (within-right (live t) (live u) y j)) (within-right (defined t) (defined u)) (omega arith) (omega arith)
      (used-of u known n val of v (fits-second labels vs size known q' a b t u f) (fresh-second known (defined t) (defined u) once) far (sees-weaker base size d val of (uses (If q' a b t u)) (uses u) D (defined u) (λ y. omega arith) (within-right (defined t) (defined u)) sees) w))
      (in-either v (used of T) (used of U) s))
      (in-either v (map of ns) (used of T ++ used of U) q))
      (literals-of N d os v (ssu.If q' (slice_index ns 0) (slice_index ns 1) T U) of (omega arith) sees.new i)
  used-of (Jump l bs) known n val of v f once far sees i =
      let ns = names base (λ y. 0) n bs in
      ⊎_elim (λ (q : (n ≤ v) × (v < n + all_taken bs)). inr (inl q))
      (λ (q : is_in v (map of ns) ≡ true).
      ⊎_elim (λ (w : (y : ℕ) × (is_in y (all_vars bs) ≡ true) × (v ≡ val y)). inl w) (λ (w : (n ≤ v) × (v < n + all_taken bs)). inr (inl w))
      (names-of base (λ y. 0) n d val of bs v far (λ y k lt. sees.copies y k (omega arith)) sees.new q))
      (literals-of n d bs v (ssu.End (ssu.Jump l ns)) of far sees.new i)
  used-of (Halt l bs) known n val of v f once far sees i =
      let ns = names base (λ y. 0) n bs in
      ⊎_elim (λ (q : (n ≤ v) × (v < n + all_taken bs)). inr (inl q))
      (λ (q : is_in v (map of ns) ≡ true).
      ⊎_elim (λ (w : (y : ℕ) × (is_in y (all_vars bs) ≡ true) × (v ≡ val y)). inl w) (λ (w : (n ≤ v) × (v < n + all_taken bs)). inr (inl w))
      (names-of base (λ y. 0) n d val of bs v far (λ y k lt. sees.copies y k (omega arith)) sees.new q))
      (literals-of n d bs v (ssu.End (ssu.Halt l ns)) of far sees.new i)

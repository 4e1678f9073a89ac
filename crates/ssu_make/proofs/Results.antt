-- In a form that was made some copy is used of every value of a literal or a primitive.
use Rattle.std.proofs.Common.{◌≡◌, ℕ, ◌+◌, ◌<◌, ◌≤◌, Bool, true, false, not, nat_eq, nat_lt, ◌&&◌, List, [], ◌∷◌, ◌++◌, map, refl, sym, ap, subst, ◌∙◌, ◌⊎◌, inl, inr, ⊎_elim, if◌then◌else◌, slice_index, drop, arith}
use Rattle.std.proofs.lemmas.Bool.{false≢true, and_parts, and_from, or_cases, or_left, or_right, cases_eq, cases_lt, not-true, or_parts, or_from, eq-eqb, ne_eqb}
use Rattle.nv_base.specs.declared.term.Atom.{Atom}
use Rattle.nv_base.specs.declared.term.Atom.TheVariants.{Var, Lit}
use Rattle.nv_base.specs.declared.term.Primitive.{Primitive}
use Rattle.nv_base.specs.declared.term.Primitive.TheVariants.{Same, Una as UnaOf, Bin as BinOf}
use Rattle.nv_base.specs.Words.{word, atom_vars, prim_vars}
use Rattle.nv_base.specs.Sets.{is_in, Within, without, all_vars, all_different}
use Rattle.nv_base.proofs.Sets.{within-left, within-right, in-append, in-without}
use Rattle.flow_ir.specs.Tree.{Tree, Let, Read, Write, If, Jump, Halt}
use Rattle.flow_ir.specs.Formed.{defined}
use Rattle.flow_ir.specs.Wide.{live}
use Rattle.ssu_ir.specs.Tree as ssu
use Rattle.ssu_ir.specs.Points.{Names, own, used}
use Rattle.ssu_ir.specs.Single.{is_narrow, results_used}
use Rattle.ssu_ir.proofs.Lists.{image_from}
use Rattle.ssu_make.specs.Used.{lets_used}
use Rattle.ssu_make.specs.Uses.{Counts, here, occurs, operands, outside, uses, all_uses}
use Rattle.ssu_make.specs.Made.{literal, last_taken, all_taken, name, names, atom_literal, literals, value, clone_step, clones, prim_step, spent, most, made, Laid}
use Rattle.ssu_make.proofs.Assigned.{same-test}
use Rattle.ssu_make.proofs.Clones.{clone_env, clones_env, clone-outside, clone-inside}
use Rattle.ssu_make.proofs.Fitting.{uses-all}
use Rattle.ssu_make.proofs.Counting.{times-append, different-from, different-times}
use Rattle.ssu_make.proofs.Once.{in-either}

-- ---- what is live has uses

atom-occurs : (a : Atom) (y : ℕ) → is_in y (atom_vars a) ≡ true → 0 < here a y
atom-occurs (Var x) y h =
    ⊎_elim (λ (e : nat_eq y x ≡ true). let one : here (Var x) y ≡ 1 = ap (λ b. if b then 1 else 0) e in omega (arith, one)) (λ (e : false ≡ true). absurd (false≢true e)) (or_cases (nat_eq y x) false h)
atom-occurs (Lit v) y h = absurd (false≢true h)

pub vars-occur : (as' : List Atom) (y : ℕ) → is_in y (all_vars as') ≡ true → 0 < occurs as' y
vars-occur [] y h = absurd (false≢true h)
vars-occur (a ∷ as') y h =
    ⊎_elim (λ (e : is_in y (atom_vars a) ≡ true). let p = atom-occurs a y e in omega arith) (λ (e : is_in y (all_vars as') ≡ true). let p = vars-occur as' y e in omega arith) (in-either y (atom_vars a) (all_vars as') h)

prim-occurs : (p : Primitive) (y : ℕ) → is_in y (prim_vars p) ≡ true → 0 < occurs (operands p) y
prim-occurs (Same a) y h = let q = atom-occurs a y h in omega arith
prim-occurs (UnaOf op a) y h = let q = atom-occurs a y h in omega arith
prim-occurs (BinOf op a b) y h =
    ⊎_elim (λ (e : is_in y (atom_vars a) ≡ true). let q = atom-occurs a y e in omega arith) (λ (e : is_in y (atom_vars b) ≡ true). let q = atom-occurs b y e in omega arith) (in-either y (atom_vars a) (atom_vars b) h)

outside-positive : (xs l : List ℕ) (r : Counts) (y : ℕ) → is_in y (without l xs) ≡ true → (is_in y l ≡ true → 0 < r y) → 0 < outside xs r y
outside-positive xs l r y h g =
    let parts = and_parts (is_in y l) _ (sym (in-without y l xs) ∙ h) in
    let same : outside xs r y ≡ r y = ap (λ b. if b then 0 else r y) (not-true (is_in y xs) parts.1) in
    let p = g parts.0 in
    omega (arith, same)

pub live-used : (t : Tree) (y : ℕ) → is_in y (live t) ≡ true → 0 < uses t y
live-used (Let x p t) y h =
    ⊎_elim (λ (e : is_in y (prim_vars p) ≡ true). let q = prim-occurs p y e in omega arith)
    (λ (e : is_in y (without (live t) (x ∷ [])) ≡ true). let q = outside-positive (x ∷ []) (live t) (uses t) y e (live-used t y) in omega arith) (in-either y (prim_vars p) (without (live t) (x ∷ [])) h)
live-used (Read m xs a t) y h =
    ⊎_elim (λ (e : is_in y (atom_vars a) ≡ true). let q = atom-occurs a y e in omega arith)
    (λ (e : is_in y (without (live t) xs) ≡ true). let q = outside-positive xs (live t) (uses t) y e (live-used t y) in omega arith) (in-either y (atom_vars a) (without (live t) xs) h)
live-used (Write m a bs t) y h =
    ⊎_elim (λ (e : is_in y (all_vars (a ∷ bs)) ≡ true). let q = vars-occur (a ∷ bs) y e in omega arith) (λ (e : is_in y (live t) ≡ true). let q = live-used t y e in omega arith) (in-either y (all_vars (a ∷ bs)) (live t) h)
live-used (If c a b t u) y h =
    ⊎_elim (λ (e : is_in y (all_vars (a ∷ b ∷ [])) ≡ true). let q = vars-occur (a ∷ b ∷ []) y e in omega arith)
    (λ (e : is_in y (live t ++ live u) ≡ true). ⊎_elim (λ (f : is_in y (live t) ≡ true). let q = live-used t y f in omega arith) (λ (f : is_in y (live u) ≡ true). let q = live-used u y f in omega arith) (in-either y (live t) (live u) e))
    (in-either y (all_vars (a ∷ b ∷ [])) (live t ++ live u) h)
live-used (Jump l bs) y h = vars-occur bs y h
live-used (Halt e bs) y h = vars-occur bs y h

-- ---- lists whose numbers are different

pub different-before : (a b : List ℕ) → all_different (a ++ b) ≡ true → all_different a ≡ true
different-before a b h = different-from a (λ z. let le = different-times (a ++ b) h z in omega (arith, times-append z a b))

pub different-behind : (a b : List ℕ) → all_different (a ++ b) ≡ true → all_different b ≡ true
different-behind a b h = different-from b (λ z. let le = different-times (a ++ b) h z in omega (arith, times-append z a b))

-- ---- copies in a form

-- a literal uses no more than its own halves
more-literal : (b : Bool) (n w z : ℕ) (t : ssu.Tree) (of : Names) → is_in z (used of t) ≡ true → is_in z (used of (literal b n w t)) ≡ true
more-literal true n w z t of h = h
more-literal false n w z t of h = or_right _ _ (or_right _ _ h)

more-atom : (n : ℕ) (a : Atom) (z : ℕ) (t : ssu.Tree) (of : Names) → is_in z (used of t) ≡ true → is_in z (used of (atom_literal n a t)) ≡ true
more-atom n (Var x) z t of h = h
more-atom n (Lit v) z t of h = more-literal (is_narrow (word v)) n (word v) z t of h

pub more-literals : (n : ℕ) (as' : List Atom) (z : ℕ) (t : ssu.Tree) (of : Names) → is_in z (used of t) ≡ true → is_in z (used of (literals n as' t)) ≡ true
more-literals n [] z t of h = h
more-literals n (a ∷ as') z t of h = more-atom (n + all_taken as') a z (literals n as' t) of (more-literals n as' z t of h)

-- behind clones their names are copies of what is cloned
clone-names : (b : Bool) (first n : ℕ) (t : ssu.Tree) (of : Names) → used of (clone_step b first n t) ≡ used (clone_env b first n of) t
unfolding clone_env
clone-names true first n t of = refl
clone-names false first n t of = refl

pub clones-names : (base r : Counts) (xs : List ℕ) (t : ssu.Tree) (of : Names) → used of (clones base r xs t) ≡ used (clones_env base r xs of) t
unfolding clones_env
clones-names base r [] t of = refl
clones-names base r (x ∷ xs) t of = clone-names (nat_lt 1 (r x)) (base x) (r x) (clones base r xs t) of ∙ clones-names base r xs t (clone_env (nat_lt 1 (r x)) (base x) (r x) of)

-- a use of a variable among operands has its name among theirs
operand-at : (base r : Counts) (x y k : ℕ) (as' : List Atom) (ns : List ℕ) → (y ≡ x) ⊎ (y ≡ x → ⊥) → r y ≤ k → k < here (Var x) y + occurs as' y + r y → (k < occurs as' y + r y → is_in (base y + k) ns ≡ true) → is_in (base y + k) ((base x + (occurs as' x + r x)) ∷ ns) ≡ true
operand-at base r x y k as' ns (inl e) le lt h =
    ⊎_elim (λ (p : k < occurs as' y + r y). or_right (nat_eq (base y + k) (base x + (occurs as' x + r x))) _ (h p))
    (λ (p : occurs as' y + r y ≤ k).
    let one : here (Var x) y ≡ 1 = ap (λ b. if b then 1 else 0) (ap (λ w. nat_eq w x) e ∙ same-test x) in
    let last : k ≡ occurs as' y + r y = omega (arith, one) in
    let same : base y + k ≡ base x + (occurs as' x + r x) = ap (λ j. base y + j) last ∙ ap (λ w. base w + (occurs as' w + r w)) e in
    or_left (nat_eq (base y + k) (base x + (occurs as' x + r x))) _ (eq-eqb (base y + k) (base x + (occurs as' x + r x)) same)) (cases_lt k (occurs as' y + r y))
operand-at base r x y k as' ns (inr ne) le lt h =
    let none : here (Var x) y ≡ 0 = ap (λ b. if b then 1 else 0) (ne_eqb y x ne) in
    or_right (nat_eq (base y + k) (base x + (occurs as' x + r x))) _ (h (omega (arith, none)))

pub operand-named : (base r : Counts) (y k : ℕ) (as' : List Atom) (n : ℕ) → r y ≤ k → k < occurs as' y + r y → is_in (base y + k) (names base r n as') ≡ true
operand-named base r y k [] n le lt = absurd (omega arith)
operand-named base r y k (Var x ∷ as') n le lt = operand-at base r x y k as' (names base r n as') (cases_eq y x) le (omega arith) (λ p. operand-named base r y k as' n le p)
operand-named base r y k (Lit v ∷ as') n le lt =
    or_right (nat_eq (base y + k) (last_taken (is_narrow (word v)) (n + all_taken as'))) _ (operand-named base r y k as' n le (omega arith))

prim-uses : (base r : Counts) (n x : ℕ) (p : Primitive) → ssu.step_uses (prim_step x p (names base r n (operands p))) ≡ names base r n (operands p)
prim-uses base r n x (Same a) = refl
prim-uses base r n x (UnaOf op a) = refl
prim-uses base r n x (BinOf op a b) = refl

-- after a primitive the copies are the same
prim-after : (x : ℕ) (p : Primitive) (ys : List ℕ) (t : ssu.Tree) (of : Names) → used of (ssu.Do (prim_step x p ys) t) ≡ map of (ssu.step_uses (prim_step x p ys)) ++ used of t
prim-after x (Same a) ys t of = refl
prim-after x (UnaOf op a) ys t of = refl
prim-after x (BinOf op a b) ys t of = refl

pub used-prim : (base r : Counts) (n x : ℕ) (p : Primitive) (t : ssu.Tree) (of : Names) → used of (ssu.Do (prim_step x p (names base r n (operands p))) t) ≡ map of (names base r n (operands p)) ++ used of t
used-prim base r n x p t of = prim-after x p (names base r n (operands p)) t of ∙ ap (λ l. map of l ++ used of t) (prim-uses base r n x p)

named-in : (of : Names) (v z : ℕ) (ns : List ℕ) → of z ≡ v → is_in z ns ≡ true → is_in v (map of ns) ≡ true
named-in of v z ns e i = subst (λ w. is_in w (map of ns) ≡ true) e (image_from of ns z i)

module _ (base size : Counts) (c d : ℕ) (vs : List ℕ) (laid : Laid base size c d vs) where
  -- clones of other variables leave a variable's copies as they are
  pub clones-leave : (r : Counts) (xs : List ℕ) (y k : ℕ) (of : Names) → ((x : ℕ) → r x ≤ size x) → Within xs vs → is_in y vs ≡ true → is_in y xs ≡ false → k ≤ size y → clones_env base r xs of (base y + k) ≡ of (base y + k)
  unfolding clones_env
  clones-leave r [] y k of le w i o lk = refl
  clones-leave r (x ∷ xs) y k of le w i o lk =
      let parts = or_parts (nat_eq y x) (is_in y xs) o in
      let ne : x ≡ y → ⊥ = λ e. false≢true (sym parts.0 ∙ (ap (λ z. nat_eq z x) (sym e) ∙ same-test x)) in
      let ix = w x (or_left (nat_eq x x) (is_in x xs) (same-test x)) in
      let l = le x in
      clones-leave r xs y k (clone_env (nat_lt 1 (r x)) (base x) (r x) of) le (λ z j. w z (or_right (nat_eq z x) (is_in z xs) j)) i parts.1 lk
      ∙ clone-outside (nat_lt 1 (r x)) (base x) (r x) (base y + k) of (⊎_elim (λ (p : base x + size x < base y). inr (omega arith)) (λ (p : base y + size y < base x). inl (omega arith)) (laid.apart x y ix i ne))

  -- where a copy of v has the name of a use, it is used
  pub copy-used : (t : Tree) (n : ℕ) (of : Names) (y k v : ℕ) → Within (defined t) vs → ((x : ℕ) → all_uses t x ≤ size x) → is_in y vs ≡ true → is_in y (defined t) ≡ false → k < uses t y → of (base y + k) ≡ v → is_in v (used of (made base n t)) ≡ true
  copy-used (Let x p t) n of y k v w s i o lt e =
      let N = n + spent t in
      let r = uses t in
      let r' = outside (x ∷ []) r in
      let ns = names base r' N (operands p) in
      let C = clones base r (x ∷ []) (made base n t) in
      let parts = or_parts (nat_eq y x) (is_in y (defined t)) o in
      let not-x : is_in y (x ∷ []) ≡ false = or_from (nat_eq y x) false parts.0 refl in
      let same : r' y ≡ r y = ap (λ b. if b then 0 else r y) not-x in
      let sized : (z : ℕ) → r z ≤ size z = λ z. let a = uses-all t z in let b = s z in omega arith in
      let yes : is_in v (map of ns ++ used of C) ≡ true =
      ⊎_elim (λ (q : k < r' y).
      let lk : k ≤ size y = let a = sized y in omega (arith, same) in
      within-right (map of ns) (used of C) v (ap (is_in v) (clones-names base r (x ∷ []) (made base n t) of)
      ∙ copy-used t n (clones_env base r (x ∷ []) of) y k v (λ z j. w z (or_right (nat_eq z x) (is_in z (defined t)) j)) (λ z. let b = s z in omega arith) i parts.1 (omega (arith, same))
      (clones-leave r (x ∷ []) y k of sized (λ z j. w z (within-left (x ∷ []) (defined t) z j)) i not-x lk ∙ e)))
      (λ (q : r' y ≤ k). within-left (map of ns) (used of C) v (named-in of v (base y + k) ns e (operand-named base r' y k (operands p) N q lt))) (cases_lt k (r' y)) in
      more-literals N (operands p) v _ of (ap (is_in v) (used-prim base r' N (value base r x) p C of) ∙ yes)
  copy-used (Read m xs a t) n of y k v w s i o lt e =
      let N = n + spent t in
      let r = uses t in
      let r' = outside xs r in
      let ns = names base r' N (a ∷ []) in
      let C = clones base r xs (made base n t) in
      let parts = or_parts (is_in y xs) (is_in y (defined t)) (sym (in-append y xs (defined t)) ∙ o) in
      let same : r' y ≡ r y = ap (λ b. if b then 0 else r y) parts.0 in
      let sized : (z : ℕ) → r z ≤ size z = λ z. let a = uses-all t z in let b = s z in omega arith in
      let yes : is_in v (map of ns ++ used of C) ≡ true =
      ⊎_elim (λ (q : k < r' y).
      let lk : k ≤ size y = let a = sized y in omega (arith, same) in
      within-right (map of ns) (used of C) v (ap (is_in v) (clones-names base r xs (made base n t) of)
      ∙ copy-used t n (clones_env base r xs of) y k v (λ z j. w z (within-right xs (defined t) z j)) (λ z. let b = s z in omega arith) i parts.1 (omega (arith, same))
      (clones-leave r xs y k of sized (λ z j. w z (within-left xs (defined t) z j)) i parts.0 lk ∙ e)))
      (λ (q : r' y ≤ k). within-left (map of ns) (used of C) v (named-in of v (base y + k) ns e (operand-named base r' y k (a ∷ []) N q lt))) (cases_lt k (r' y)) in
      more-literals N (a ∷ []) v _ of yes
  copy-used (Write m a bs t) n of y k v w s i o lt e =
      let N = n + spent t in
      let r = uses t in
      let ns = names base r N (a ∷ bs) in
      let yes : is_in v (map of ns ++ used of (made base n t)) ≡ true =
      ⊎_elim (λ (q : k < r y). within-right (map of ns) (used of (made base n t)) v (copy-used t n of y k v w (λ z. let b = s z in omega arith) i o q e))
      (λ (q : r y ≤ k). within-left (map of ns) (used of (made base n t)) v (named-in of v (base y + k) ns e (operand-named base r y k (a ∷ bs) N q lt))) (cases_lt k (r y)) in
      more-literals N (a ∷ bs) v _ of yes
  copy-used (If q a b t u) n of y k v w s i o lt e =
      let N = n + (spent u + spent t) in
      let r = most (uses t) (uses u) in
      let ns = names base r N (a ∷ b ∷ []) in
      let T = made base (n + spent u) t in
      let U = made base n u in
      let parts = or_parts (is_in y (defined t)) (is_in y (defined u)) (sym (in-append y (defined t) (defined u)) ∙ o) in
      let first : k < uses t y → is_in v (used of T ++ used of U) ≡ true = λ g. within-left (used of T) (used of U) v (copy-used t (n + spent u) of y k v (λ z j. w z (within-left (defined t) (defined u) z j)) (λ z. let b = s z in omega arith) i parts.0 g e) in
      let second : k < uses u y → is_in v (used of T ++ used of U) ≡ true = λ g. within-right (used of T) (used of U) v (copy-used u n of y k v (λ z j. w z (within-right (defined t) (defined u) z j)) (λ z. let b = s z in omega arith) i parts.1 g e) in
      let yes : is_in v (map of ns ++ (used of T ++ used of U)) ≡ true =
      ⊎_elim (λ (g : k < r y). within-right (map of ns) (used of T ++ used of U) v (⊎_elim first (λ (h : uses t y ≤ k). second (omega arith)) (cases_lt k (uses t y))))
      (λ (g : r y ≤ k). within-left (map of ns) (used of T ++ used of U) v (named-in of v (base y + k) ns e (operand-named base r y k (a ∷ b ∷ []) N g lt))) (cases_lt k (r y)) in
      more-literals N (a ∷ b ∷ []) v _ of yes
  copy-used (Jump l bs) n of y k v w s i o lt e = more-literals n bs v _ of (named-in of v (base y + k) (names base (λ y. 0) n bs) e (operand-named base (λ y. 0) y k bs n (omega arith) (omega arith)))
  copy-used (Halt l bs) n of y k v w s i o lt e = more-literals n bs v _ of (named-in of v (base y + k) (names base (λ y. 0) n bs) e (operand-named base (λ y. 0) y k bs n (omega arith) (omega arith)))

-- ---- results of literals

map-own : (xs : List ℕ) → map own xs ≡ xs
map-own [] = refl
map-own (x ∷ xs) = ap (λ l. x ∷ l) (map-own xs)

literal-results : (b : Bool) (n w : ℕ) (t : ssu.Tree) → results_used t ≡ true → is_in (last_taken b n) (used own t) ≡ true → results_used (literal b n w t) ≡ true
literal-results true n w t h i = and_from (is_in n (used own t) && true) (results_used t) (and_from (is_in n (used own t)) true i refl) h
literal-results false n w t h i =
    let halves = n ∷ (n + 1) ∷ used own t in
    and_from (is_in n halves && true) _ (and_from (is_in n halves) true (or_left (nat_eq n n) _ (same-test n)) refl)
    (and_from (is_in (n + 1) halves && true) _ (and_from (is_in (n + 1) halves) true (or_right (nat_eq (n + 1) n) _ (or_left (nat_eq (n + 1) (n + 1)) _ (same-test (n + 1)))) refl)
    (and_from (is_in (n + 2) (used own t) && true) (results_used t) (and_from (is_in (n + 2) (used own t)) true i refl) h))

atom-results : (base s : Counts) (n : ℕ) (a : Atom) (t : ssu.Tree) → results_used t ≡ true → is_in (name base s n a) (used own t) ≡ true → results_used (atom_literal n a t) ≡ true
atom-results base s n (Var x) t h i = h
atom-results base s n (Lit v) t h i = literal-results (is_narrow (word v)) n (word v) t h i

pub literals-results : (base r : Counts) (n : ℕ) (as' : List Atom) (t : ssu.Tree) → results_used t ≡ true → Within (names base r n as') (used own t) → results_used (literals n as' t) ≡ true
literals-results base r n [] t h w = h
literals-results base r n (a ∷ as') t h w =
    let s : Counts = λ y. occurs as' y + r y in
    let z = name base s (n + all_taken as') a in
    atom-results base s (n + all_taken as') a (literals n as' t) (literals-results base r n as' t h (λ y i. w y (or_right (nat_eq y z) (is_in y (names base r n as')) i)))
    (more-literals n as' z t own (w z (or_left (nat_eq z z) (is_in z (names base r n as')) (same-test z))))

clone-results : (b : Bool) (first n : ℕ) (t : ssu.Tree) → results_used t ≡ true → results_used (clone_step b first n t) ≡ true
clone-results true first n t h = h
clone-results false first n t h = h

pub clones-results : (base r : Counts) (xs : List ℕ) (t : ssu.Tree) → results_used t ≡ true → results_used (clones base r xs t) ≡ true
clones-results base r [] t h = h
clones-results base r (x ∷ xs) t h = clone-results (nat_lt 1 (r x)) (base x) (r x) (clones base r xs t) (clones-results base r xs t h)

prim-results : (x : ℕ) (p : Primitive) (ys : List ℕ) (t : ssu.Tree) → is_in x (used own t) ≡ true → results_used t ≡ true → results_used (ssu.Do (prim_step x p ys) t) ≡ true
prim-results x (Same a) ys t i h = and_from (is_in x (used own t) && true) (results_used t) (and_from (is_in x (used own t)) true i refl) h
prim-results x (UnaOf op a) ys t i h = and_from (is_in x (used own t) && true) (results_used t) (and_from (is_in x (used own t)) true i refl) h
prim-results x (BinOf op a b) ys t i h = and_from (is_in x (used own t) && true) (results_used t) (and_from (is_in x (used own t)) true i refl) h

names-first : (ns rest : List ℕ) → Within ns (map own ns ++ rest)
names-first ns rest = λ z i. ap (λ l. is_in z (l ++ rest)) (map-own ns) ∙ within-left ns rest z i

-- the first copy of a value that is used is a copy of it
first-copy : (b : Bool) (first n : ℕ) → nat_lt 1 n ≡ b → 0 < n → clone_env b first n own (first + 0) ≡ (if b then first + n else first)
first-copy b first n e lt = clone-inside b first n 0 own (if b then first + n else first) e refl lt

module _ (base size : Counts) (c d : ℕ) (vs : List ℕ) (laid : Laid base size c d vs) where
  pub made-results : (t : Tree) (n : ℕ) → Within (defined t) vs → ((x : ℕ) → all_uses t x ≤ size x) → all_different (defined t) ≡ true → lets_used t ≡ true → results_used (made base n t) ≡ true
  unfolding clones_env
  made-results (Let x p t) n w s once lean =
      let N = n + spent t in
      let r = uses t in
      let r' = outside (x ∷ []) r in
      let ns = names base r' N (operands p) in
      let T = made base n t in
      let C = clones base r (x ∷ []) T in
      let parts = and_parts (is_in x (live t)) (lets_used t) lean in
      let apart = and_parts (not (is_in x (defined t))) (all_different (defined t)) once in
      let ix = w x (or_left (nat_eq x x) (is_in x (defined t)) (same-test x)) in
      let below : (z : ℕ) → all_uses t z ≤ size z = λ z. let b = s z in omega arith in
      let inner : Within (defined t) vs = λ z j. w z (or_right (nat_eq z x) (is_in z (defined t)) j) in
      let positive = live-used t x parts.0 in
      let used-is : is_in (value base r x) (used own C) ≡ true =
      ap (is_in (value base r x)) (clones-names base r (x ∷ []) T own)
      ∙ copy-used base size c d vs laid t n (clones_env base r (x ∷ []) own) x 0 (value base r x) inner below ix (not-true (is_in x (defined t)) apart.0) positive (first-copy (nat_lt 1 (r x)) (base x) (r x) refl positive) in
      literals-results base r' N (operands p) (ssu.Do (prim_step (value base r x) p ns) C)
      (prim-results (value base r x) p ns C used-is (clones-results base r (x ∷ []) T (made-results t n inner below apart.1 parts.1)))
      (λ z i. ap (is_in z) (used-prim base r' N (value base r x) p C own) ∙ names-first ns (used own C) z i)
  made-results (Read m xs a t) n w s once lean =
      let N = n + spent t in
      let r = uses t in
      let r' = outside xs r in
      let ns = names base r' N (a ∷ []) in
      let C = clones base r xs (made base n t) in
      literals-results base r' N (a ∷ []) (ssu.Do (ssu.Read m (map (value base r) xs) (slice_index ns 0)) C)
      (clones-results base r xs (made base n t) (made-results t n (λ z j. w z (within-right xs (defined t) z j)) (λ z. let b = s z in omega arith) (different-behind xs (defined t) once) lean))
      (λ z i. names-first ns (used own C) z i)
  made-results (Write m a bs t) n w s once lean =
      let N = n + spent t in
      let ns = names base (uses t) N (a ∷ bs) in
      literals-results base (uses t) N (a ∷ bs) (ssu.Do (ssu.Write m (slice_index ns 0) (drop 1 ns)) (made base n t)) (made-results t n w (λ z. let b = s z in omega arith) once lean)
      (λ z i. names-first ns (used own (made base n t)) z i)
  made-results (If c' a b t u) n w s once lean =
      let N = n + (spent u + spent t) in
      let r = most (uses t) (uses u) in
      let ns = names base r N (a ∷ b ∷ []) in
      let T = made base (n + spent u) t in
      let U = made base n u in
      let parts = and_parts (lets_used t) (lets_used u) lean in
      literals-results base r N (a ∷ b ∷ []) (ssu.If c' (slice_index ns 0) (slice_index ns 1) T U)
      (and_from (results_used T) (results_used U) (made-results t (n + spent u) (λ z j. w z (within-left (defined t) (defined u) z j)) (λ z. let b = s z in omega arith) (different-before (defined t) (defined u) once) parts.0)
      (made-results u n (λ z j. w z (within-right (defined t) (defined u) z j)) (λ z. let b = s z in omega arith) (different-behind (defined t) (defined u) once) parts.1))
      (λ z i. names-first ns (used own T ++ used own U) z i)
  made-results (Jump l bs) n w s once lean =
      let ns = names base (λ y. 0) n bs in
      literals-results base (λ y. 0) n bs (ssu.End (ssu.Jump l ns)) refl (λ z i. ap (is_in z) (map-own ns) ∙ i)
  made-results (Halt e bs) n w s once lean =
      let ns = names base (λ y. 0) n bs in
      literals-results base (λ y. 0) n bs (ssu.End (ssu.Halt e ns)) refl (λ z i. ap (is_in z) (map-own ns) ∙ i)

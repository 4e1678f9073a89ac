-- In a form that was made each name is defined once, and used at most once on each path.
use Rattle.std.proofs.Common.{◌≡◌, ℕ, ◌+◌, ◌-◌, ◌<◌, ◌≤◌, max, Bool, true, false, not, nat_eq, nat_lt, ◌&&◌, List, [], ◌∷◌, ◌++◌, map, refl, sym, ap, subst, ◌∙◌, ◌⊎◌, inl, inr, ⊎_elim, if◌then◌else◌, slice_index, drop, arith}
use Rattle.std.specs.List.{list_all, range_with_len}
use Rattle.std.proofs.lemmas.Bool.{and_parts, and_from, or_cases, or_left, or_right, not_from_false, false_from_ne_true, cases_lt}
use Rattle.nv_base.specs.declared.term.Atom.{Atom}
use Rattle.nv_base.specs.declared.term.Atom.TheVariants.{Var, Lit}
use Rattle.nv_base.specs.declared.term.Primitive.{Primitive}
use Rattle.nv_base.specs.declared.term.Primitive.TheVariants.{Same, Una as UnaOf, Bin as BinOf}
use Rattle.nv_base.specs.Access.{is_known, all_known}
use Rattle.nv_base.specs.Words.{word}
use Rattle.nv_base.specs.Sets.{is_in, all_different}
use Rattle.nv_base.proofs.Sets.{in-append}
use Rattle.flow_ir.specs.Tree.{Tree, Let, Read, Write, If, Jump, Halt, Label}
use Rattle.flow_ir.specs.Formed.{is_formed, is_label, defined}
use Rattle.ssu_ir.specs.Tree as ssu
use Rattle.ssu_ir.specs.Single.{is_narrow, step_names, are_new, uses_once, all_defined}
use Rattle.ssu_ir.specs.Single as single
use Rattle.ssu_make.specs.Uses.{Counts, here, occurs, operands, outside, uses, all_uses}
use Rattle.ssu_make.specs.Made.{literal, names_taken, last_taken, taken, all_taken, name, names, atom_literal, literals, value, clone_step, clones, prim_step, spent, most, made, Laid, variables, IsMade, AllMade}
use Rattle.ssu_make.proofs.Assigned.{same-test}
use Rattle.ssu_make.proofs.Fitting.{uses-all, operands-known, all-one, let-parts, read-parts, write-parts, if-parts, jump-parts, halt-parts}
use Rattle.ssu_make.proofs.Counting.{from_on, lies, lies-more, times, times-append, times-in, times-not, different-from, different-times, times-stretch, lies_all, lies_all-append, lies_all-least, lies_all-none, lies_all-once, lies_all-more}

-- ---- how often a name is used at most on a path

unfoldable pub used_times : ℕ → ssu.Tree → ℕ
used_times z (ssu.Do s t) = times z (step_names s) + used_times z t
used_times z (ssu.If c x y t u) = times z (x ∷ y ∷ []) + max (used_times z t) (used_times z u)
used_times z (ssu.End l) = times z (ssu.last_uses l)

pub in-either : (z : ℕ) (xs ys : List ℕ) → is_in z (xs ++ ys) ≡ true → (is_in z xs ≡ true) ⊎ (is_in z ys ≡ true)
in-either z xs ys h = or_cases (is_in z xs) (is_in z ys) (sym (in-append z xs ys) ∙ h)

names-counted : (t : ssu.Tree) (z : ℕ) → is_in z (single.names t) ≡ true → 0 < used_times z t
unfolding used_times
names-counted (ssu.Do s t) z h =
    ⊎_elim (λ (e : is_in z (step_names s) ≡ true). let p = times-in z (step_names s) e in omega arith) (λ (e : is_in z (single.names t) ≡ true). let p = names-counted t z e in omega arith) (in-either z (step_names s) (single.names t) h)
names-counted (ssu.If c x y t u) z h =
    ⊎_elim (λ (e : is_in z (x ∷ y ∷ []) ≡ true). let p = times-in z (x ∷ y ∷ []) e in omega arith)
    (λ (e : is_in z (single.names t ++ single.names u) ≡ true). ⊎_elim (λ (f : is_in z (single.names t) ≡ true). let p = names-counted t z f in omega arith) (λ (f : is_in z (single.names u) ≡ true). let p = names-counted u z f in omega arith) (in-either z (single.names t) (single.names u) e))
    (in-either z (x ∷ y ∷ []) (single.names t ++ single.names u) h)
names-counted (ssu.End l) z h = times-in z (ssu.last_uses l) h

none-among : (xs others : List ℕ) → ((z : ℕ) → is_in z xs ≡ true → is_in z others ≡ false) → list_all (λ x. not (is_in x others)) xs ≡ true
none-among [] others h = refl
none-among (x ∷ xs) others h =
    and_from (not (is_in x others)) _ (not_from_false (is_in x others) (h x (or_left (nat_eq x x) (is_in x xs) (same-test x)))) (none-among xs others (λ z i. h z (or_right (nat_eq z x) (is_in z xs) i)))

new-from : (xs others : List ℕ) (count : Counts) → ((z : ℕ) → times z xs + count z ≤ 1) → ((z : ℕ) → is_in z others ≡ true → 0 < count z) → are_new xs others ≡ true
new-from xs others count h g =
    and_from (all_different xs) _ (different-from xs (λ z. let le = h z in omega arith))
    (none-among xs others (λ z i. false_from_ne_true (is_in z others) (λ e. let p = times-in z xs i in let q = g z e in let le = h z in omega arith)))

pub once-from : (t : ssu.Tree) → ((z : ℕ) → used_times z t ≤ 1) → uses_once t ≡ true
unfolding used_times
once-from (ssu.Do s t) h =
    and_from (are_new (step_names s) (single.names t)) (uses_once t) (new-from (step_names s) (single.names t) (λ z. used_times z t) h (names-counted t)) (once-from t (λ z. let le = h z in omega arith))
once-from (ssu.If c x y t u) h =
    and_from (are_new (x ∷ y ∷ []) (single.names t ++ single.names u)) (uses_once t && uses_once u)
    (new-from (x ∷ y ∷ []) (single.names t ++ single.names u) (λ z. max (used_times z t) (used_times z u)) h
    (λ z i. ⊎_elim (λ (f : is_in z (single.names t) ≡ true). let p = names-counted t z f in omega arith) (λ (f : is_in z (single.names u) ≡ true). let p = names-counted u z f in omega arith) (in-either z (single.names t) (single.names u) i)))
    (and_from (uses_once t) (uses_once u) (once-from t (λ z. let le = h z in omega arith)) (once-from u (λ z. let le = h z in omega arith)))
once-from (ssu.End l) h = different-from (ssu.last_uses l) h

-- ---- uses of operands and clones

used-literal : (b : Bool) (n w z : ℕ) (t : ssu.Tree) → used_times z (literal b n w t) + lies (last_taken b n) 1 z ≡ used_times z t + lies n (names_taken b) z
unfolding used_times
used-literal true n w z t = omega arith
used-literal false n w z t = omega (arith, lies-more n 1 1 z, lies-more n 2 1 z, times-two n z)
  where
    times-two : (n z : ℕ) → times z (n ∷ (n + 1) ∷ []) ≡ lies n 1 z + lies (n + 1) 1 z
    times-two n z = omega arith

module _ (base r : Counts) (known : List ℕ) (z : ℕ) where
  used-atom : (a : Atom) (as' : List Atom) (n : ℕ) (t : ssu.Tree) → is_known known a ≡ true
      → used_times z (atom_literal n a t) + lies (name base (λ y. occurs as' y + r y) n a) 1 z + lies_all base (λ y. occurs as' y + r y) known z ≤ used_times z t + lies n (taken a) z + lies_all base (λ y. occurs (a ∷ as') y + r y) known z
  used-atom (Var x) as' n t k =
      let one : here (Var x) x ≡ 1 = ap (λ b. if b then 1 else 0) (same-test x) in
      let more = lies_all-more base (λ y. occurs as' y + r y) (λ y. occurs (Var x ∷ as') y + r y) known x z k (λ y. omega arith) (omega (arith, one)) in
      omega (arith, more)
  used-atom (Lit v) as' n t k =
      let b = is_narrow (word v) in
      let one = used-literal b n (word v) z t in
      let same = lies_all-least base (λ y. occurs as' y + r y) (λ y. occurs (Lit v ∷ as') y + r y) known z (λ y i. omega arith) in
      omega (arith, one, same)

  pub used-literals : (as' : List Atom) (n : ℕ) (t : ssu.Tree) → all_known known as' ≡ true
      → used_times z (literals n as' t) + times z (names base r n as') + lies_all base r known z ≤ used_times z t + lies n (all_taken as') z + lies_all base (λ y. occurs as' y + r y) known z
  used-literals [] n t k = let same = lies_all-least base r (λ y. occurs [] y + r y) known z (λ y i. omega arith) in omega (arith, same)
  used-literals (a ∷ as') n t k =
      let parts = and_parts (is_known known a) (all_known known as') k in
      let one = used-atom a as' (n + all_taken as') (literals n as' t) parts.0 in
      let rest = used-literals as' n t parts.1 in
      let join : lies n (taken a + all_taken as') z ≡ lies n (all_taken as') z + lies (n + all_taken as') (taken a) z = omega arith in
      omega (arith, one, rest, join)

clone-used : (b : Bool) (first n z : ℕ) (t : ssu.Tree) → used_times z (clone_step b first n t) + lies first n z ≤ used_times z t + lies first (n + 1) z
unfolding used_times
clone-used true first n z t = omega (arith, lies-more first n 1 z)
clone-used false first n z t = omega arith

pub clones-used : (base r : Counts) (xs : List ℕ) (z : ℕ) (t : ssu.Tree) → used_times z (clones base r xs t) + lies_all base r xs z ≤ used_times z t + lies_all base (λ y. r y + 1) xs z
clones-used base r [] z t = omega arith
clones-used base r (x ∷ xs) z t = let one = clone-used (nat_lt 1 (r x)) (base x) (r x) z (clones base r xs t) in let rest = clones-used base r xs z t in omega arith

prim-names : (base r : Counts) (n x z : ℕ) (p : Primitive) → times z (step_names (prim_step x p (names base r n (operands p)))) ≡ times z (names base r n (operands p))
prim-names base r n x z (Same a) = refl
prim-names base r n x z (UnaOf op a) = refl
prim-names base r n x z (BinOf op a b) = refl

-- a known variable isn't defined again
unfoldable pub Fresh : List ℕ → List ℕ → Type 0
Fresh known more = (y : ℕ) → times y known + times y more ≤ 1

fresh-out : (known xs rest : List ℕ) → Fresh known (xs ++ rest) → (y : ℕ) → is_in y known ≡ true → is_in y xs ≡ false
unfolding Fresh
fresh-out known xs rest f y i = let le = f y in let p = times-in y known i in times-not y xs (omega (arith, times-append y xs rest))

outside-same : (base r : Counts) (known xs rest : List ℕ) (z : ℕ) → Fresh known (xs ++ rest) → lies_all base r known z ≤ lies_all base (outside xs r) known z
outside-same base r known xs rest z f = lies_all-least base r (outside xs r) known z (λ y i. let e : outside xs r y ≡ r y = ap (λ b. if b then 0 else r y) (fresh-out known xs rest f y i) in omega (arith, e))

pub fresh-more : (known xs rest : List ℕ) → Fresh known (xs ++ rest) → Fresh (xs ++ known) rest
unfolding Fresh
fresh-more known xs rest f y = let le = f y in omega (arith, times-append y xs rest, times-append y xs known)

pub fresh-first : (known a b : List ℕ) → Fresh known (a ++ b) → Fresh known a
unfolding Fresh
fresh-first known a b f y = let le = f y in omega (arith, times-append y a b)

pub fresh-second : (known a b : List ℕ) → Fresh known (a ++ b) → Fresh known b
unfolding Fresh
fresh-second known a b f y = let le = f y in omega (arith, times-append y a b)

-- ---- uses of trees

module _ (labels : List Label) (base size : Counts) (z : ℕ) where
  -- the uses in a tree are of its new names, of known variables, and of the names of the variables that it defines
  abbrev Bounded : List ℕ → ℕ → Tree → Type 0
  Bounded known n t = used_times z (made base n t) ≤ lies n (spent t) z + (lies_all base (uses t) known z + lies_all base (λ y. size y + 1) (defined t) z)

  defines-used : (xs known rest : List ℕ) (r : Counts) (t : ssu.Tree) (k : ℕ) → ((y : ℕ) → r y ≤ size y) → Fresh known (xs ++ rest) → used_times z t ≤ k + (lies_all base r (xs ++ known) z + lies_all base (λ y. size y + 1) rest z)
      → used_times z (clones base r xs t) ≤ k + (lies_all base (outside xs r) known z + lies_all base (λ y. size y + 1) (xs ++ rest) z)
  defines-used xs known rest r t k le f h =
      let c = clones-used base r xs z t in
      let a = lies_all-append base r xs known z in
      let b = lies_all-append base (λ y. size y + 1) xs rest z in
      let o = outside-same base r known xs rest z f in
      let m = lies_all-least base (λ y. r y + 1) (λ y. size y + 1) xs z (λ y i. let l = le y in omega arith) in
      omega (arith, a, b)

  sized-rest : (t : Tree) → ((y : ℕ) → all_uses t y ≤ size y) → (y : ℕ) → uses t y ≤ size y
  sized-rest t h y = let a = uses-all t y in let b = h y in omega arith

  pub used-made : (t : Tree) (known : List ℕ) (n : ℕ) → is_formed labels known t ≡ true → ((y : ℕ) → all_uses t y ≤ size y) → Fresh known (defined t) → Bounded known n t
  unfolding used_times
  used-made (Let x p t) known n f s once =
      let parts = let-parts labels known x p t f in
      let N = n + spent t in
      let r = uses t in
      let below : (y : ℕ) → all_uses t y ≤ size y = λ y. let l = s y in omega arith in
      let rest = used-made t (x ∷ known) n parts.rest below (fresh-more known (x ∷ []) (defined t) once) in
      let C = clones base r (x ∷ []) (made base n t) in
      let c = defines-used (x ∷ []) known (defined t) r (made base n t) (lies n (spent t) z) (sized-rest t below) once rest in
      let l = used-literals base (outside (x ∷ []) r) known z (operands p) N (ssu.Do (prim_step (value base r x) p (names base (outside (x ∷ []) r) N (operands p))) C) (operands-known known p parts.prim) in
      let e = prim-names base (outside (x ∷ []) r) N (value base r x) z p in
      let j = lies-more n (spent t) (all_taken (operands p)) z in
      omega (arith, c, l, e, j)
  used-made (Read m xs a t) known n f s once =
      let parts = read-parts labels known m xs a t f in
      let N = n + spent t in
      let r = uses t in
      let below : (y : ℕ) → all_uses t y ≤ size y = λ y. let l = s y in omega arith in
      let rest = used-made t (xs ++ known) n parts.rest below (fresh-more known xs (defined t) once) in
      let C = clones base r xs (made base n t) in
      let c = defines-used xs known (defined t) r (made base n t) (lies n (spent t) z) (sized-rest t below) once rest in
      let l = used-literals base (outside xs r) known z (a ∷ []) N (ssu.Do (ssu.Read m (map (value base r) xs) (slice_index (names base (outside xs r) N (a ∷ [])) 0)) C) (all-one known a parts.address) in
      let j = lies-more n (spent t) (all_taken (a ∷ [])) z in
      omega (arith, c, l, j)
  used-made (Write m a bs t) known n f s once =
      let parts = write-parts labels known m a bs t f in
      let N = n + spent t in
      let ys = names base (uses t) N (a ∷ bs) in
      let below : (y : ℕ) → all_uses t y ≤ size y = λ y. let l = s y in omega arith in
      let rest = used-made t known n parts.rest below once in
      let l = used-literals base (uses t) known z (a ∷ bs) N (ssu.Do (ssu.Write m (slice_index ys 0) (drop 1 ys)) (made base n t)) parts.operands in
      let j = lies-more n (spent t) (all_taken (a ∷ bs)) z in
      omega (arith, rest, l, j)
  used-made (If c a b t u) known n f s once =
      let parts = if-parts labels known c a b t u f in
      let N = n + (spent u + spent t) in
      let r = most (uses t) (uses u) in
      let ys = names base r N (a ∷ b ∷ []) in
      let first = used-made t known (n + spent u) parts.first (λ y. let l = s y in omega arith) (fresh-first known (defined t) (defined u) once) in
      let second = used-made u known n parts.second (λ y. let l = s y in omega arith) (fresh-second known (defined t) (defined u) once) in
      let l = used-literals base r known z (a ∷ b ∷ []) N (ssu.If c (slice_index ys 0) (slice_index ys 1) (made base (n + spent u) t) (made base n u)) parts.operands in
      let g = lies_all-least base (uses t) r known z (λ y i. omega arith) in
      let h = lies_all-least base (uses u) r known z (λ y i. omega arith) in
      let d = lies_all-append base (λ y. size y + 1) (defined t) (defined u) z in
      let j = lies-more n (spent u) (spent t) z in
      let k = lies-more n (spent u + spent t) (all_taken (a ∷ b ∷ [])) z in
      omega (arith, first, second, l, g, h, d, j, k)
  used-made (Jump l bs) known n f s once =
      let q = used-literals base (λ y. 0) known z bs n (ssu.End (ssu.Jump l (names base (λ y. 0) n bs))) (jump-parts labels known l bs f).operands in
      let g = lies_all-least base (λ y. occurs bs y + 0) (uses (Jump l bs)) known z (λ y i. omega arith) in
      omega (arith, q, g)
  used-made (Halt e bs) known n f s once =
      let q = used-literals base (λ y. 0) known z bs n (ssu.End (ssu.Halt e (names base (λ y. 0) n bs))) (halt-parts labels known e bs f).0 in
      let g = lies_all-least base (λ y. occurs bs y + 0) (uses (Halt e bs)) known z (λ y i. omega arith) in
      omega (arith, q, g)

-- ---- definitions

defined-literal : (b : Bool) (n w z : ℕ) (t : ssu.Tree) → times z (single.defined (literal b n w t)) ≡ times z (single.defined t) + lies n (names_taken b) z
defined-literal true n w z t = omega arith
defined-literal false n w z t = omega (arith, lies-more n 1 1 z, lies-more n 2 1 z)

defined-atom : (n : ℕ) (a : Atom) (z : ℕ) (t : ssu.Tree) → times z (single.defined (atom_literal n a t)) ≡ times z (single.defined t) + lies n (taken a) z
defined-atom n (Var x) z t = omega arith
defined-atom n (Lit v) z t = defined-literal (is_narrow (word v)) n (word v) z t

defined-literals : (n : ℕ) (as' : List Atom) (z : ℕ) (t : ssu.Tree) → times z (single.defined (literals n as' t)) ≡ times z (single.defined t) + lies n (all_taken as') z
defined-literals n [] z t = omega arith
defined-literals n (a ∷ as') z t =
    let join : lies n (taken a + all_taken as') z ≡ lies n (all_taken as') z + lies (n + all_taken as') (taken a) z = omega arith in
    omega (arith, defined-atom (n + all_taken as') a z (literals n as' t), defined-literals n as' z t, join)

clone-defined : (b : Bool) (first n z : ℕ) (t : ssu.Tree) → times z (single.defined (clone_step b first n t)) + lies (if b then first + n else first) 1 z ≤ times z (single.defined t) + lies first (n + 1) z
clone-defined true first n z t =
    omega (arith, times-append z (range_with_len first n) (single.defined t), times-stretch n first z, lies-more first n 1 z)
clone-defined false first n z t = omega arith

pub values-defined : (base r : Counts) (xs : List ℕ) (z : ℕ) (t : ssu.Tree) → times z (map (value base r) xs) + times z (single.defined (clones base r xs t)) ≤ times z (single.defined t) + lies_all base (λ y. r y + 1) xs z
values-defined base r [] z t = omega arith
values-defined base r (x ∷ xs) z t =
    let one = clone-defined (nat_lt 1 (r x)) (base x) (r x) z (clones base r xs t) in let rest = values-defined base r xs z t in omega (arith, one, rest)

prim-values : (x : ℕ) (p : Primitive) (ys : List ℕ) (t : ssu.Tree) → single.defined (ssu.Do (prim_step x p ys) t) ≡ x ∷ single.defined t
prim-values x (Same a) ys t = refl
prim-values x (UnaOf op a) ys t = refl
prim-values x (BinOf op a b) ys t = refl

module _ (base size : Counts) (z : ℕ) where
  values-sized : (xs : List ℕ) (r : Counts) (t : ssu.Tree) → ((y : ℕ) → r y ≤ size y) → times z (map (value base r) xs) + times z (single.defined (clones base r xs t)) ≤ times z (single.defined t) + lies_all base (λ y. size y + 1) xs z
  values-sized xs r t le =
      let a = values-defined base r xs z t in
      let m = lies_all-least base (λ y. r y + 1) (λ y. size y + 1) xs z (λ y i. let l = le y in omega arith) in
      omega arith

  pub defined-made : (t : Tree) (n : ℕ) → ((y : ℕ) → all_uses t y ≤ size y) → times z (single.defined (made base n t)) ≤ lies n (spent t) z + lies_all base (λ y. size y + 1) (defined t) z
  defined-made (Let x p t) n s =
      let N = n + spent t in
      let r = uses t in
      let below : (y : ℕ) → all_uses t y ≤ size y = λ y. let l = s y in omega arith in
      let rest = defined-made t n below in
      let C = clones base r (x ∷ []) (made base n t) in
      let v = values-sized (x ∷ []) r (made base n t) (λ y. let a = uses-all t y in let b = below y in omega arith) in
      let step = prim_step (value base r x) p (names base (outside (x ∷ []) r) N (operands p)) in
      let l = defined-literals N (operands p) z (ssu.Do step C) in
      let e : times z (single.defined (ssu.Do step C)) ≡ lies (value base r x) 1 z + times z (single.defined C) = ap (times z) (prim-values (value base r x) p (names base (outside (x ∷ []) r) N (operands p)) C) in
      let j = lies-more n (spent t) (all_taken (operands p)) z in
      omega (arith, rest, v, l, e, j)
  defined-made (Read m xs a t) n s =
      let N = n + spent t in
      let r = uses t in
      let below : (y : ℕ) → all_uses t y ≤ size y = λ y. let l = s y in omega arith in
      let rest = defined-made t n below in
      let C = clones base r xs (made base n t) in
      let v = values-sized xs r (made base n t) (λ y. let a = uses-all t y in let b = below y in omega arith) in
      let l = defined-literals N (a ∷ []) z (ssu.Do (ssu.Read m (map (value base r) xs) (slice_index (names base (outside xs r) N (a ∷ [])) 0)) C) in
      let e = times-append z (map (value base r) xs) (single.defined C) in
      let d = lies_all-append base (λ y. size y + 1) xs (defined t) z in
      let j = lies-more n (spent t) (all_taken (a ∷ [])) z in
      omega (arith, rest, v, l, e, d, j)
  defined-made (Write m a bs t) n s =
      let N = n + spent t in
      let ys = names base (uses t) N (a ∷ bs) in
      let rest = defined-made t n (λ y. let l = s y in omega arith) in
      let l = defined-literals N (a ∷ bs) z (ssu.Do (ssu.Write m (slice_index ys 0) (drop 1 ys)) (made base n t)) in
      let j = lies-more n (spent t) (all_taken (a ∷ bs)) z in
      omega (arith, rest, l, j)
  defined-made (If c a b t u) n s =
      let N = n + (spent u + spent t) in
      let r = most (uses t) (uses u) in
      let ys = names base r N (a ∷ b ∷ []) in
      let first = defined-made t (n + spent u) (λ y. let l = s y in omega arith) in
      let second = defined-made u n (λ y. let l = s y in omega arith) in
      let l = defined-literals N (a ∷ b ∷ []) z (ssu.If c (slice_index ys 0) (slice_index ys 1) (made base (n + spent u) t) (made base n u)) in
      let e = times-append z (single.defined (made base (n + spent u) t)) (single.defined (made base n u)) in
      let d = lies_all-append base (λ y. size y + 1) (defined t) (defined u) z in
      let j = lies-more n (spent u) (spent t) z in
      let k = lies-more n (spent u + spent t) (all_taken (a ∷ b ∷ [])) z in
      omega (arith, first, second, l, e, d, j, k)
  defined-made (Jump l bs) n s = let q = defined-literals n bs z (ssu.End (ssu.Jump l (names base (λ y. 0) n bs))) in omega (arith, q)
  defined-made (Halt e bs) n s = let q = defined-literals n bs z (ssu.End (ssu.Halt e (names base (λ y. 0) n bs))) in omega (arith, q)

-- ---- labels

-- in the names of a label's variables, or in those that are new, each number lies at most once
laid-once : (base size : Counts) (c d : ℕ) (xs : List ℕ) (n z : ℕ) → Laid base size c d xs → c ≤ d → all_different xs ≡ true → lies d n z + lies_all base (λ y. size y + 1) xs z ≤ lies c (d + n - c) z
laid-once base size c d xs n z laid le all =
    let apart : (x y : ℕ) → is_in x xs ≡ true → is_in y xs ≡ true → (x ≡ y → ⊥) → (base x + (size x + 1) ≤ base y) ⊎ (base y + (size y + 1) ≤ base x) = λ x y i j ne. ⊎_elim (λ (p : base x + size x < base y). inl (omega arith)) (λ (p : base y + size y < base x). inr (omega arith)) (laid.apart x y i j ne) in
    let one = lies_all-once base (λ y. size y + 1) xs z all apart in
    ⊎_elim (λ (p : z < c).
    let none = lies_all-none base (λ y. size y + 1) xs z (λ y i. let l = laid.start y i in inl (omega arith)) in
    omega (arith, none))
    (λ (p : c ≤ z). ⊎_elim (λ (q : z < d). omega (arith, one))
    (λ (q : d ≤ z).
    let none = lies_all-none base (λ y. size y + 1) xs z (λ y i. let l = laid.below y i in inr (omega arith)) in
    omega (arith, none)) (cases_lt z d)) (cases_lt z c)

pub fresh-from : (a b : List ℕ) → all_different (a ++ b) ≡ true → Fresh a b
unfolding Fresh
fresh-from a b h = λ y. let le = different-times (a ++ b) h y in omega (arith, times-append y a b)

pub body-once : (labels : List Label) (c d : ℕ) (l : Label) (s : ssu.Label) → is_label labels l ≡ true → IsMade c d l s → uses_once s.body ≡ true
body-once labels c d l s f is =
    let parts = and_parts (is_formed labels l.params l.body) (all_different (variables l)) f in
    let base = is.base in
    let size = all_uses l.body in
    let n = is.first in
    let r = uses l.body in
    subst (λ (z : ssu.Label). uses_once z.body ≡ true) (sym is.is) (once-from (clones base r l.params (made base n l.body)) (λ z.
    let a = used-made labels base size z l.body l.params n parts.0 (λ y. omega arith) (fresh-from l.params (defined l.body) parts.1) in
    let b = clones-used base r l.params z (made base n l.body) in
    let m = lies_all-least base (λ y. r y + 1) (λ y. size y + 1) l.params z (λ y i. let u = uses-all l.body y in omega arith) in
    let e = lies_all-append base (λ y. size y + 1) l.params (defined l.body) z in
    let o = laid-once base size c n (variables l) (spent l.body) z is.laid is.after parts.1 in
    omega (arith, a, b, m, e, o)))

label-defined : (labels : List Label) (c d : ℕ) (l : Label) (s : ssu.Label) → is_label labels l ≡ true → IsMade c d l s → (z : ℕ) → times z s.params + times z (single.defined s.body) ≤ lies c (d - c) z
label-defined labels c d l s f is z =
    let parts = and_parts (is_formed labels l.params l.body) (all_different (variables l)) f in
    let base = is.base in
    let size = all_uses l.body in
    let n = is.first in
    let r = uses l.body in
    let a = defined-made base size z l.body n (λ y. omega arith) in
    let b = values-sized base size z l.params r (made base n l.body) (λ y. uses-all l.body y) in
    let e = lies_all-append base (λ y. size y + 1) l.params (defined l.body) z in
    let o = laid-once base size c n (variables l) (spent l.body) z is.laid is.after parts.1 in
    let p : times z s.params ≡ times z (map (value base r) l.params) = ap (λ (k : ssu.Label). times z k.params) is.is in
    let q : times z (single.defined s.body) ≡ times z (single.defined (clones base r l.params (made base n l.body))) = ap (λ (k : ssu.Label). times z (single.defined k.body)) is.is in
    let g : lies c (n + spent l.body - c) z ≡ lies c (d - c) z = ap (λ k. lies c (k - c) z) (sym is.next) in
    omega (arith, a, b, e, o, p, q, g)

pub all-defined-once : (labels : List Label) (c : ℕ) (ls : List Label) (ss : List ssu.Label) → list_all (is_label labels) ls ≡ true → AllMade c ls ss → (z : ℕ) → times z (all_defined ss) ≤ from_on c z
all-defined-once labels c [] [] f m z = omega arith
all-defined-once labels c [] (s ∷ ss) f m z = absurd m
all-defined-once labels c (l ∷ ls) [] f m z = absurd m
all-defined-once labels c (l ∷ ls) (s ∷ ss) f m z =
    let parts = and_parts (is_label labels l) (list_all (is_label labels) ls) f in
    let is = m.1 in
    let far : c ≤ m.0 = let a = is.after in let b = is.next in omega arith in
    let one = label-defined labels c m.0 l s parts.0 is z in
    let rest = all-defined-once labels m.0 ls ss parts.1 m.2 z in
    omega (arith, one, rest, times-append z s.params (single.defined s.body ++ all_defined ss), times-append z (single.defined s.body) (all_defined ss))

pub all-different : (labels : List Label) (c : ℕ) (ls : List Label) (ss : List ssu.Label) → list_all (is_label labels) ls ≡ true → AllMade c ls ss → all_different (all_defined ss) ≡ true
all-different labels c ls ss f m = different-from (all_defined ss) (λ z. let le = all-defined-once labels c ls ss f m z in omega arith)

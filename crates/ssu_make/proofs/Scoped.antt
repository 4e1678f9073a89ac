-- In a form that was made every name that is used is a parameter of its label or defined above.
use Rattle.std.proofs.Common.{◌≡◌, ℕ, ◌+◌, ◌<◌, ◌≤◌, Bool, true, false, nat_eq, nat_lt, List, [], ◌∷◌, ◌++◌, map, refl, sym, ap, subst, ◌∙◌, ⊎_elim, if◌then◌else◌, slice_index, drop, arith}
use Rattle.std.specs.List.{range_with_len}
use Rattle.std.proofs.lemmas.Bool.{false≢true, and_from, or_cases, or_left, or_right}
use Rattle.std.proofs.lemmas.Bool.Decides.{nat_tests}
use Rattle.std.proofs.lemmas.List.{append-nil}
use Rattle.nv_base.specs.declared.term.Atom.{Atom}
use Rattle.nv_base.specs.declared.term.Atom.TheVariants.{Var, Lit}
use Rattle.nv_base.specs.declared.term.Primitive.{Primitive}
use Rattle.nv_base.specs.declared.term.Primitive.TheVariants.{Same, Una as UnaOf, Bin as BinOf}
use Rattle.nv_base.specs.Words.{word}
use Rattle.nv_base.specs.Sets.{is_in, Within}
use Rattle.nv_base.proofs.Sets.{within-left, within-right, same-number}
use Rattle.flow_ir.specs.Tree.{Tree, Let, Read, Write, If, Jump, Halt, Label}
use Rattle.flow_ir.specs.Formed.{is_formed}
use Rattle.ssu_ir.specs.Tree as ssu
use Rattle.ssu_ir.specs.Single.{is_narrow, all_known, is_scoped}
use Rattle.ssu_ir.proofs.Lists.{image_from}
use Rattle.ssu_make.specs.Uses.{Counts, here, occurs, operands, outside, uses}
use Rattle.ssu_make.specs.Made.{literal, last_taken, all_taken, name, names, atom_literal, literals, value, clone_step, clones, prim_step, spent, most, made}
use Rattle.ssu_make.proofs.Assigned.{same-test, in-stretch}
use Rattle.ssu_make.proofs.Fitting.{live-known}

-- each copy that is still to be used is known
pub record Scope (base r : Counts) (known : List ℕ) : Type 0 where
  pub there : (y k : ℕ) → k < r y → is_in (base y + k) known ≡ true

scope-more : (base r s : Counts) (known known' : List ℕ) → ((y : ℕ) → s y ≤ r y) → Within known known' → Scope base r known → Scope base s known'
scope-more base r s known known' le w g = record { there = λ y k lt. let l = le y in w (base y + k) (g.there y k (omega arith)) }

within-same : (known : List ℕ) → Within known known
within-same known = λ x i. i

within-trans : (a b c : List ℕ) → Within a b → Within b c → Within a c
within-trans a b c f g = λ x i. g x (f x i)

last-in : (known : List ℕ) (x : ℕ) → is_in x (known ++ x ∷ []) ≡ true
last-in known x = within-right known (x ∷ []) x (or_left (nat_eq x x) false (same-test x))

-- ---- literals

literal-scoped : (b : Bool) (n w : ℕ) (t : ssu.Tree) (known : List ℕ) → ((known' : List ℕ) → Within known known' → is_in (last_taken b n) known' ≡ true → is_scoped known' t ≡ true) → is_scoped known (literal b n w t) ≡ true
literal-scoped true n w t known h = h (known ++ n ∷ []) (within-left known (n ∷ [])) (last-in known n)
literal-scoped false n w t known h =
    let one = known ++ n ∷ [] in
    let two = one ++ (n + 1) ∷ [] in
    let three = two ++ (n + 2) ∷ [] in
    let halves : all_known two (n ∷ (n + 1) ∷ []) ≡ true = and_from (is_in n two) _ (within-left one ((n + 1) ∷ []) n (last-in known n)) (and_from (is_in (n + 1) two) true (last-in one (n + 1)) refl) in
    and_from (all_known two (n ∷ (n + 1) ∷ [])) (is_scoped three t) halves
    (h three (within-trans known two three (within-trans known one two (within-left known (n ∷ [])) (within-left one ((n + 1) ∷ []))) (within-left two ((n + 2) ∷ []))) (last-in two (n + 2)))

atom-scoped : (base s : Counts) (n : ℕ) (a : Atom) (t : ssu.Tree) (known : List ℕ) → Scope base (λ y. here a y + s y) known
    → ((known' : List ℕ) → Within known known' → is_in (name base s n a) known' ≡ true → is_scoped known' t ≡ true) → is_scoped known (atom_literal n a t) ≡ true
atom-scoped base s n (Var x) t known g h =
    let one : here (Var x) x ≡ 1 = ap (λ b. if b then 1 else 0) (same-test x) in
    h known (within-same known) (g.there x (s x) (omega (arith, one)))
atom-scoped base s n (Lit v) t known g h = literal-scoped (is_narrow (word v)) n (word v) t known h

pub literals-scoped : (base r : Counts) (n : ℕ) (as' : List Atom) (t : ssu.Tree) (known : List ℕ) → Scope base (λ y. occurs as' y + r y) known
    → ((known' : List ℕ) → Within known known' → all_known known' (names base r n as') ≡ true → is_scoped known' t ≡ true) → is_scoped known (literals n as' t) ≡ true
literals-scoped base r n [] t known g h = h known (within-same known) refl
literals-scoped base r n (a ∷ as') t known g h =
    let s : Counts = λ y. occurs as' y + r y in
    atom-scoped base s (n + all_taken as') a (literals n as' t) known (scope-more base (λ y. occurs (a ∷ as') y + r y) (λ y. here a y + s y) known known (λ y. omega arith) (within-same known) g)
    (λ known' w i.
    literals-scoped base r n as' t known' (scope-more base (λ y. occurs (a ∷ as') y + r y) s known known' (λ y. omega arith) w g)
    (λ known'' w' ks. h known'' (within-trans known known' known'' w w') (and_from (is_in (name base s (n + all_taken as') a) known'') (all_known known'' (names base r n as')) (w' _ i) ks)))

-- ---- clones

clone-scoped : (b : Bool) (first n : ℕ) (t : ssu.Tree) (known : List ℕ) → nat_lt 1 n ≡ b → is_in (if b then first + n else first) known ≡ true
    → ((known' : List ℕ) → Within known known' → ((k : ℕ) → k < n → is_in (first + k) known' ≡ true) → is_scoped known' t ≡ true) → is_scoped known (clone_step b first n t) ≡ true
clone-scoped true first n t known e i h =
    let range = range_with_len first n in
    and_from (all_known known ((first + n) ∷ [])) (is_scoped (known ++ range) t) (and_from (is_in (first + n) known) true i refl)
    (h (known ++ range) (within-left known range) (λ k lt. within-right known range (first + k) (in-stretch n first k lt)))
clone-scoped false first n t known e i h =
    h known (within-same known) (λ k lt. let none : first + k ≡ first = grind (arith, nat_tests) in ap (λ z. is_in z known) none ∙ i)

pub clones-scoped : (base r : Counts) (xs : List ℕ) (t : ssu.Tree) (known : List ℕ) → ((y : ℕ) → is_in y xs ≡ true → is_in (value base r y) known ≡ true)
    → ((known' : List ℕ) → Within known known' → ((y k : ℕ) → is_in y xs ≡ true → k < r y → is_in (base y + k) known' ≡ true) → is_scoped known' t ≡ true) → is_scoped known (clones base r xs t) ≡ true
clones-scoped base r [] t known v h = h known (within-same known) (λ y k i lt. absurd (false≢true i))
clones-scoped base r (x ∷ xs) t known v h =
    clone-scoped (nat_lt 1 (r x)) (base x) (r x) (clones base r xs t) known refl (v x (or_left (nat_eq x x) (is_in x xs) (same-test x)))
    (λ known' w i.
    clones-scoped base r xs t known' (λ y j. w _ (v y (or_right (nat_eq y x) (is_in y xs) j)))
    (λ known'' w' js. h known'' (within-trans known known' known'' w w')
    (λ y k j lt. ⊎_elim (λ (e : nat_eq y x ≡ true). let same = same-number y x e in w' (base y + k) (subst (λ z. is_in (base z + k) known' ≡ true) (sym same) (i k (subst (λ z. k < r z) same lt)))) (λ (e : is_in y xs ≡ true). js y k e lt) (or_cases (nat_eq y x) (is_in y xs) j))))

-- ---- trees

behind-at : (b : Bool) (base r : Counts) (xs known known' : List ℕ) (y k : ℕ) → is_in y xs ≡ b → Scope base (outside xs r) known → Within known known' → ((y k : ℕ) → is_in y xs ≡ true → k < r y → is_in (base y + k) known' ≡ true) → k < r y → is_in (base y + k) known' ≡ true
behind-at true base r xs known known' y k e g w h lt = h y k e lt
behind-at false base r xs known known' y k e g w h lt = w (base y + k) (g.there y k (subst (λ n. k < n) (sym (ap (λ b. if b then 0 else r y) e)) lt))

scope-behind : (base r : Counts) (xs known known' : List ℕ) → Scope base (outside xs r) known → Within known known' → ((y k : ℕ) → is_in y xs ≡ true → k < r y → is_in (base y + k) known' ≡ true) → Scope base r known'
scope-behind base r xs known known' g w h = record { there = λ y k lt. behind-at (is_in y xs) base r xs known known' y k refl g w h lt }

prim-scoped : (base r : Counts) (n x : ℕ) (p : Primitive) (t : ssu.Tree) (known : List ℕ) → all_known known (names base r n (operands p)) ≡ true → is_scoped (known ++ x ∷ []) t ≡ true → is_scoped known (ssu.Do (prim_step x p (names base r n (operands p))) t) ≡ true
prim-scoped base r n x (Same a) t known k h = and_from _ _ k h
prim-scoped base r n x (UnaOf op a) t known k h = and_from _ _ k h
prim-scoped base r n x (BinOf op a b) t known k h = and_from _ _ k h

values-in : (base r : Counts) (xs known : List ℕ) (y : ℕ) → is_in y xs ≡ true → is_in (value base r y) (known ++ map (value base r) xs) ≡ true
values-in base r xs known y i = within-right known (map (value base r) xs) (value base r y) (image_from (value base r) xs y i)

pub made-scoped : (base : Counts) (t : Tree) (n : ℕ) (known : List ℕ) → Scope base (uses t) known → is_scoped known (made base n t) ≡ true
made-scoped base (Let x p t) n known g =
    let N = n + spent t in
    let r = uses t in
    let s = outside (x ∷ []) r in
    let C = clones base r (x ∷ []) (made base n t) in
    literals-scoped base s N (operands p) (ssu.Do (prim_step (value base r x) p (names base s N (operands p))) C) known g
    (λ known' w ks. prim-scoped base s N (value base r x) p C known' ks
    (clones-scoped base r (x ∷ []) (made base n t) (known' ++ value base r x ∷ []) (values-in base r (x ∷ []) known')
    (λ known'' w' js. made-scoped base t n known''
    (scope-behind base r (x ∷ []) known known'' (scope-more base (uses (Let x p t)) s known known (λ y. omega arith) (within-same known) g)
    (within-trans known known' known'' w (within-trans known' (known' ++ value base r x ∷ []) known'' (within-left known' (value base r x ∷ [])) w')) js))))
made-scoped base (Read m xs a t) n known g =
    let N = n + spent t in
    let r = uses t in
    let s = outside xs r in
    let C = clones base r xs (made base n t) in
    let vs = map (value base r) xs in
    literals-scoped base s N (a ∷ []) (ssu.Do (ssu.Read m vs (slice_index (names base s N (a ∷ [])) 0)) C) known g
    (λ known' w ks. and_from (all_known known' (names base s N (a ∷ []))) _ ks
    (ap (λ l. is_scoped (known' ++ l) C) (append-nil vs) ∙ clones-scoped base r xs (made base n t) (known' ++ vs) (values-in base r xs known')
    (λ known'' w' js. made-scoped base t n known''
    (scope-behind base r xs known known'' (scope-more base (uses (Read m xs a t)) s known known (λ y. omega arith) (within-same known) g)
    (within-trans known known' known'' w (within-trans known' (known' ++ vs) known'' (within-left known' vs) w')) js))))
made-scoped base (Write m a bs t) n known g =
    let N = n + spent t in
    let r = uses t in
    let ys = names base r N (a ∷ bs) in
    literals-scoped base r N (a ∷ bs) (ssu.Do (ssu.Write m (slice_index ys 0) (drop 1 ys)) (made base n t)) known g
    (λ known' w ks. and_from (all_known known' ys) _ ks
    (ap (λ l. is_scoped l (made base n t)) (append-nil known') ∙ made-scoped base t n known' (scope-more base (uses (Write m a bs t)) r known known' (λ y. omega arith) w g)))
made-scoped base (If c a b t u) n known g =
    let N = n + (spent u + spent t) in
    let r = most (uses t) (uses u) in
    let ys = names base r N (a ∷ b ∷ []) in
    literals-scoped base r N (a ∷ b ∷ []) (ssu.If c (slice_index ys 0) (slice_index ys 1) (made base (n + spent u) t) (made base n u)) known g
    (λ known' w ks. and_from (all_known known' ys) _ ks
    (and_from _ _ (made-scoped base t (n + spent u) known' (scope-more base (uses (If c a b t u)) (uses t) known known' (λ y. omega arith) w g))
    (made-scoped base u n known' (scope-more base (uses (If c a b t u)) (uses u) known known' (λ y. omega arith) w g))))
made-scoped base (Jump l bs) n known g =
    literals-scoped base (λ y. 0) n bs (ssu.End (ssu.Jump l (names base (λ y. 0) n bs))) known (scope-more base (occurs bs) (λ y. occurs bs y + 0) known known (λ y. omega arith) (within-same known) g) (λ known' w ks. ks)
made-scoped base (Halt e bs) n known g =
    literals-scoped base (λ y. 0) n bs (ssu.End (ssu.Halt e (names base (λ y. 0) n bs))) known (scope-more base (occurs bs) (λ y. occurs bs y + 0) known known (λ y. omega arith) (within-same known) g) (λ known' w ks. ks)

pub param-at : (b : Bool) (labels : List Label) (params : List ℕ) (t : Tree) (y k : ℕ) → is_in y params ≡ b → is_formed labels params t ≡ true → k < (if b then 0 else uses t y) → ⊥
param-at true labels params t y k e f lt = omega arith
param-at false labels params t y k e f lt = false≢true (sym e ∙ live-known labels params t y f (omega arith))

pub body-scoped : (labels : List Label) (base : Counts) (n : ℕ) (l : Label) → is_formed labels l.params l.body ≡ true → is_scoped (map (value base (uses l.body)) l.params) (clones base (uses l.body) l.params (made base n l.body)) ≡ true
body-scoped labels base n l f =
    let r = uses l.body in
    let vs = map (value base r) l.params in
    let start : Scope base (outside l.params r) vs = record { there = λ y k lt. absurd (param-at (is_in y l.params) labels l.params l.body y k refl f lt) } in
    clones-scoped base r l.params (made base n l.body) vs (λ y i. image_from (value base r) l.params y i)
    (λ known' w js. made-scoped base l.body n known' (scope-behind base r l.params vs known' start w js))

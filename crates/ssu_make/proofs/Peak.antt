-- At no point of a form that was made more values are held than the flow is wide.
use Rattle.std.proofs.Common.{◌≡◌, ℕ, suc, ◌+◌, ◌<◌, ◌≤◌, max, Bool, true, false, nat_eq, nat_lt, ◌||◌, List, [], ◌∷◌, ◌++◌, map, filter, refl, sym, ap, subst, ◌∙◌, ◌⊎◌, inl, inr, ⊎_elim, if◌then◌else◌, length, slice_index, drop, arith}
use Rattle.std.specs.List.{list_all}
use Rattle.std.proofs.lemmas.Bool.{false≢true, and_parts, or_cases, or_left, or_right, cases_lt, cases_Bool}
use Rattle.std.proofs.lemmas.List.{append-nil, length-map}
use Rattle.nv_base.specs.declared.term.Atom.{Atom}
use Rattle.nv_base.specs.declared.term.Atom.TheVariants.{Var, Lit}
use Rattle.nv_base.specs.declared.term.Primitive.{Primitive}
use Rattle.nv_base.specs.declared.term.Primitive.TheVariants.{Same, Una as UnaOf, Bin as BinOf}
use Rattle.nv_base.specs.Words.{word, atom_vars}
use Rattle.nv_base.specs.Sets.{is_in, Within, without, all_vars, different, all_different}
use Rattle.nv_base.specs.Measures.{operands_wide}
use Rattle.nv_base.proofs.Sets.{same-number, within-left, within-right, within-both, within-behind, different-below, different-append, different-length}
use Rattle.flow_ir.specs.Tree.{Tree, Let, Read, Write, If, Jump, Halt, Label}
use Rattle.flow_ir.specs.Formed.{defined, is_formed, is_label}
use Rattle.flow_ir.specs.Wide.{live, tree_wide, label_wide, wide}
use Rattle.ssu_ir.specs.Tree as ssu
use Rattle.ssu_ir.specs.Points.{Names, Point, own, used, live_of, tree_points, points_from}
use Rattle.ssu_ir.specs.Measures.{most_held, peak}
use Rattle.ssu_ir.specs.Single.{is_narrow}
use Rattle.ssu_ir.proofs.Lists.{image_from}
use Rattle.ssu_make.specs.Uses.{Counts, here, occurs, operands, outside, uses, all_uses}
use Rattle.ssu_make.specs.Made.{literal, last_taken, names_taken, taken, all_taken, name, names, atom_literal, literals, value, clone_step, clones, prim_step, spent, most, made, Laid, variables, IsMade, AllMade}
use Rattle.ssu_make.proofs.Assigned.{same-test}
use Rattle.ssu_make.proofs.Clones.{clone_env, clones_env, value-is}
use Rattle.ssu_make.proofs.Counting.{lies, lies-out, times, times-append, times-in, in-times, times-not, different-from, lies_all, lies_all-none, lies_all-once, lies_all-least}
use Rattle.ssu_make.proofs.Fitting.{Fits, fits-let, fits-read, fits-write, fits-first, fits-second, place-of, uses-all}
use Rattle.ssu_make.proofs.Once.{Fresh, fresh-first, fresh-second, values-defined, in-either, fresh-from}
use Rattle.ssu_make.proofs.Scoped.{param-at}
use Rattle.ssu_make.proofs.Equal.{label-fits}
use Rattle.ssu_make.proofs.Results.{clones-names, used-prim, live-used, vars-occur, different-before}
use Rattle.ssu_make.proofs.Liveness.{Sees, sees-weaker, sees-behind, valued, behind, used-of, IsOf, filter-fewer, filter-among, different-map, names-of, literals-of, fresh-apart}

-- ---- one more value above

filter-last-at : (b : Bool) (x : ℕ) (c : ℕ) → length (if b then x ∷ [] else []) ≤ 1
filter-last-at true x c = omega arith
filter-last-at false x c = omega arith

cons-length : (b : Bool) (x : ℕ) (a d : List ℕ) (k : ℕ) → length a ≤ length d + k → length (if b then x ∷ a else a) ≤ length (if b then x ∷ d else d) + k
cons-length true x a d k le = omega arith
cons-length false x a d k le = le

filter-last : (p : ℕ → Bool) (xs : List ℕ) (x : ℕ) → length (filter p (xs ++ x ∷ [])) ≤ length (filter p xs) + 1
filter-last p [] x = filter-last-at (p x) x 0
filter-last p (y ∷ xs) x = cons-length (p y) y (filter p (xs ++ x ∷ [])) (filter p xs) 1 (filter-last p xs x)

none-length : (b : Bool) (x : ℕ) → b ≡ false → length (if b then x ∷ [] else []) ≤ 0
none-length true x e = absurd (false≢true (sym e))
none-length false x e = omega arith

filter-none : (p : ℕ → Bool) (xs : List ℕ) (x : ℕ) → p x ≡ false → length (filter p (xs ++ x ∷ [])) ≤ length (filter p xs) + 0
filter-none p [] x e = none-length (p x) x e
filter-none p (y ∷ xs) x e = cons-length (p y) y (filter p (xs ++ x ∷ [])) (filter p xs) 0 (filter-none p xs x e)

most_held-both : (a b : List Point) (w : ℕ) → most_held a ≤ w → most_held b ≤ w → most_held (a ++ b) ≤ w
most_held-both [] b w p q = q
most_held-both (x ∷ a) b w p q = let r = most_held-both a b w (omega arith) q in omega arith

first-live_of : (t : ssu.Tree) (of : Names) (above : List ℕ) → length (live_of of above t) ≤ most_held (tree_points of above t)
first-live_of (ssu.Do s t) of above = omega arith
first-live_of (ssu.If c x y t u) of above = omega arith
first-live_of (ssu.End l) of above = omega arith

-- ---- literals

-- the halves among their names, which no node but their `Or` uses
half_names : Bool → ℕ → List ℕ
half_names true n = []
half_names false n = n ∷ (n + 1) ∷ []

atom_halves : ℕ → Atom → List ℕ
atom_halves n (Var x) = []
atom_halves n (Lit v) = half_names (is_narrow (word v)) n

halves : ℕ → List Atom → List ℕ
halves n [] = []
halves n (a ∷ as') = atom_halves (n + all_taken as') a ++ halves n as'

lit_count : Atom → ℕ
lit_count (Var x) = 0
lit_count (Lit v) = 1

lits : List Atom → ℕ
lits [] = 0
lits (a ∷ as') = lit_count a + lits as'

some : List Atom → ℕ
some [] = 0
some (a ∷ as') = 1

half-range : (b : Bool) (n v : ℕ) → is_in v (half_names b n) ≡ true → (n ≤ v) × (v < n + 2) × (b ≡ false)
unfolding half_names
half-range true n v i = absurd (false≢true i)
half-range false n v i =
    ⊎_elim (λ (e : nat_eq v n ≡ true). let q = same-number v n e in (omega arith, omega arith, refl))
    (λ (e : (nat_eq v (n + 1) || false) ≡ true). ⊎_elim (λ (f : nat_eq v (n + 1) ≡ true). let q = same-number v (n + 1) f in (omega arith, omega arith, refl)) (λ (f : false ≡ true). absurd (false≢true f)) (or_cases (nat_eq v (n + 1)) false e))
    (or_cases (nat_eq v n) (nat_eq v (n + 1) || false) i)

-- a half isn't an operand's name
half-other : (base s : Counts) (n d : ℕ) (val : ℕ → ℕ) (of : Names) (a : Atom) (v : ℕ) → d ≤ n → ((y : ℕ) → 0 < here a y + s y → val y < d) → ((y k : ℕ) → k < here a y + s y → of (base y + k) ≡ val y) → ((z : ℕ) → d ≤ z → of z ≡ z)
    → (n ≤ v) → (is_in v (atom_halves n a) ≡ true) ⊎ ((v < n) ⊎ (v < d)) → v ≡ of (name base s n a) → ⊥
unfolding atom_halves
half-other base s n d val of (Var x) v far small h g le i e =
    let one : here (Var x) x ≡ 1 = ap (λ b. if b then 1 else 0) (same-test x) in
    let low = small x (omega (arith, one)) in
    let at : v ≡ val x = e ∙ h x (s x) (omega (arith, one)) in
    omega arith
half-other base s n d val of (Lit w) v far small h g le (inl i) e =
    let r = half-range (is_narrow (word w)) n v i in
    let at : v ≡ n + 2 = e ∙ ap (λ b. of (last_taken b n)) r.2 ∙ g (n + 2) (omega arith) in
    let up = r.1 in
    omega arith
half-other base s n d val of (Lit w) v far small h g le (inr i) e = ⊎_elim (λ (p : v < n). omega arith) (λ (p : v < d). omega arith) i

halves-range : (n : ℕ) (as' : List Atom) (v : ℕ) → is_in v (halves n as') ≡ true → (n ≤ v) × (v < n + all_taken as')
unfolding halves atom_halves
halves-range n [] v i = absurd (false≢true i)
halves-range n (a ∷ as') v i =
    ⊎_elim (λ (p : is_in v (atom_halves (n + all_taken as') a) ≡ true). let r = atom-range (n + all_taken as') a v p in let x = r.0 in let y = r.1 in (omega arith, omega arith))
    (λ (p : is_in v (halves n as') ≡ true). let r = halves-range n as' v p in let x = r.0 in let y = r.1 in (omega arith, omega arith)) (in-either v (atom_halves (n + all_taken as') a) (halves n as') i)
  where
    atom-range : (n : ℕ) (a : Atom) (v : ℕ) → is_in v (atom_halves n a) ≡ true → (n ≤ v) × (v < n + taken a)
    atom-range n (Var x) v i = absurd (false≢true i)
    atom-range n (Lit w) v i =
        let r = half-range (is_narrow (word w)) n v i in
        let t : names_taken (is_narrow (word w)) ≡ 3 = ap names_taken r.2 in
        let x = r.0 in let y = r.1 in
        (x, omega (arith, t))

last-least : (b : Bool) (n : ℕ) → n ≤ last_taken b n
last-least true n = omega arith
last-least false n = omega arith

half-not-named : (base r : Counts) (n d : ℕ) (val : ℕ → ℕ) (of : Names) (as' : List Atom) (v : ℕ) → d ≤ n → ((y : ℕ) → 0 < occurs as' y + r y → val y < d) → ((y k : ℕ) → k < occurs as' y + r y → of (base y + k) ≡ val y) → ((z : ℕ) → d ≤ z → of z ≡ z)
    → is_in v (halves n as') ≡ true → is_in v (map of (names base r n as')) ≡ true → ⊥
unfolding halves atom_halves
half-not-named base r n d val of [] v far small h g i j = absurd (false≢true i)
half-not-named base r n d val of (a ∷ as') v far small h g i j =
    let s : Counts = λ y. occurs as' y + r y in
    let N = n + all_taken as' in
    let z = name base s N a in
    let low = halves-range n (a ∷ as') v i in
    ⊎_elim
    (λ (p : nat_eq v (of z) ≡ true).
    ⊎_elim
    (λ (q : is_in v (atom_halves N a) ≡ true). half-other base s N d val of a v (omega arith) (λ y lt. small y (omega arith)) (λ y k lt. h y k (omega arith)) g (half-least N a v q) (inl q) (same-number v (of z) p))
    (λ (q : is_in v (halves n as') ≡ true). let r' = halves-range n as' v q in let up = r'.1 in named-low base s N d val of a v (omega arith) (λ y lt. small y (omega arith)) (λ y k lt. h y k (omega arith)) g up (low.0) (same-number v (of z) p) far)
    (in-either v (atom_halves N a) (halves n as') i))
    (λ (p : is_in v (map of (names base r n as')) ≡ true).
    ⊎_elim
    (λ (q : is_in v (atom_halves N a) ≡ true).
    let up = half-least N a v q in
    ⊎_elim (λ (u : (y : ℕ) × (is_in y (all_vars as') ≡ true) × (v ≡ val y)). let low' = small u.0 (let o = vars-occur as' u.0 u.1 in omega arith) in let at = u.2 in omega arith) (λ (u : (n ≤ v) × (v < n + all_taken as')). let b = u.1 in omega arith)
    (names-of base r n d val of as' v far (λ y k lt. h y k (omega arith)) g p))
    (λ (q : is_in v (halves n as') ≡ true). half-not-named base r n d val of as' v far (λ y lt. small y (omega arith)) (λ y k lt. h y k (omega arith)) g q p)
    (in-either v (atom_halves N a) (halves n as') i))
    (or_cases (nat_eq v (of z)) (is_in v (map of (names base r n as'))) j)
  where
    half-least : (n : ℕ) (a : Atom) (v : ℕ) → is_in v (atom_halves n a) ≡ true → n ≤ v
    half-least n (Var x) v i = absurd (false≢true i)
    half-least n (Lit w) v i = (half-range (is_narrow (word w)) n v i).0

    named-low : (base s : Counts) (N d : ℕ) (val : ℕ → ℕ) (of : Names) (a : Atom) (v : ℕ) → d ≤ N → ((y : ℕ) → 0 < here a y + s y → val y < d) → ((y k : ℕ) → k < here a y + s y → of (base y + k) ≡ val y) → ((z : ℕ) → d ≤ z → of z ≡ z) → v < N → n ≤ v → v ≡ of (name base s N a) → d ≤ n → ⊥
    named-low base s N d val of (Var x) v far small h g up least e le =
        let one : here (Var x) x ≡ 1 = ap (λ b. if b then 1 else 0) (same-test x) in
        let low = small x (omega (arith, one)) in
        let at : v ≡ val x = e ∙ h x (s x) (omega (arith, one)) in
        omega arith
    named-low base s N d val of (Lit w) v far small h g up least e le =
        let least' = last-least (is_narrow (word w)) N in
        let at : v ≡ last_taken (is_narrow (word w)) N = e ∙ g (last_taken (is_narrow (word w)) N) (omega arith) in
        omega (arith, at, least')

-- what stands above later: these names more, each once
abbrev Adds : List ℕ → List ℕ → ℕ → ℕ → Type 0
Adds above above' n k = (z : ℕ) → times z above' ≤ times z above + lies n k z

literal-peak : (b : Bool) (n w : ℕ) (t : ssu.Tree) (of : Names) (above : List ℕ) (h wide : ℕ) → length (live_of of above (literal b n w t)) ≤ h → h + 2 ≤ wide → ((v : ℕ) → is_in v (half_names b n) ≡ true → is_in v (used of t) ≡ false)
    → ((above' : List ℕ) → Adds above above' n (names_taken b) → length (live_of of above' t) ≤ h + 1 → most_held (tree_points of above' t) ≤ wide) → most_held (tree_points of above (literal b n w t)) ≤ wide
unfolding half_names
literal-peak true n w t of above h wide first room unhalved next =
    let one = above ++ n ∷ [] in
    let few : length (live_of of one t) ≤ h + 1 = let a = filter-last (λ x. is_in x (used of t)) above n in omega arith in
    let rest = next one (λ z. let a = times-append z above (n ∷ []) in omega (arith, a)) few in
    omega arith
literal-peak false n w t of above h wide first room unhalved next =
    let whole = λ (x : ℕ). is_in x (of n ∷ of (n + 1) ∷ used of t) in
    let p = λ (x : ℕ). is_in x (used of t) in
    let one = above ++ n ∷ [] in
    let two = one ++ (n + 1) ∷ [] in
    let three = two ++ (n + 2) ∷ [] in
    let a = filter-last whole above n in
    let b = filter-last whole one (n + 1) in
    let no-n = unhalved n (or_left (nat_eq n n) _ (same-test n)) in
    let no-m = unhalved (n + 1) (or_right (nat_eq (n + 1) n) _ (or_left (nat_eq (n + 1) (n + 1)) false (same-test (n + 1)))) in
    let e = filter-none p above n no-n in
    let f = filter-none p one (n + 1) no-m in
    let g = filter-last p two (n + 2) in
    let sub = filter-fewer p whole above (λ z i j. or_right (nat_eq z (of n)) _ (or_right (nat_eq z (of (n + 1))) _ j)) in
    let few : length (live_of of three t) ≤ h + 1 = omega arith in
    let rest = next three (λ z.
    let x = times-append z above (n ∷ []) in
    let y = times-append z one ((n + 1) ∷ []) in
    let q = times-append z two ((n + 2) ∷ []) in
    omega (arith, x, y, q)) few in
    omega arith

atom-peak : (n : ℕ) (a : Atom) (t : ssu.Tree) (of : Names) (above : List ℕ) (h wide : ℕ) → length (live_of of above (atom_literal n a t)) ≤ h → h + lit_count a + 1 ≤ wide → ((v : ℕ) → is_in v (atom_halves n a) ≡ true → is_in v (used of t) ≡ false)
    → ((above' : List ℕ) → Adds above above' n (taken a) → length (live_of of above' t) ≤ h + lit_count a → most_held (tree_points of above' t) ≤ wide) → most_held (tree_points of above (atom_literal n a t)) ≤ wide
unfolding lit_count atom_halves
atom-peak n (Var x) t of above h wide first room unhalved next = next above (λ z. omega arith) (omega arith)
atom-peak n (Lit v) t of above h wide first room unhalved next = literal-peak (is_narrow (word v)) n (word v) t of above h wide first (omega arith) unhalved next

literals-peak : (n d : ℕ) (as' : List Atom) (t : ssu.Tree) (of : Names) (above : List ℕ) (h wide : ℕ) → d ≤ n → ((z : ℕ) → d ≤ z → of z ≡ z) → length (live_of of above (literals n as' t)) ≤ h → h + lits as' + some as' ≤ wide
    → ((v : ℕ) → is_in v (halves n as') ≡ true → is_in v (used of t) ≡ false)
    → ((above' : List ℕ) → Adds above above' n (all_taken as') → length (live_of of above' t) ≤ h + lits as' → most_held (tree_points of above' t) ≤ wide) → most_held (tree_points of above (literals n as' t)) ≤ wide
unfolding lits some halves atom_halves
literals-peak n d [] t of above h wide far g first room unhalved next = next above (λ z. omega arith) (omega arith)
literals-peak n d (a ∷ as') t of above h wide far g first room unhalved next =
    let N = n + all_taken as' in
    atom-peak N a (literals n as' t) of above h wide first (omega arith)
    (λ v i. none v (half-at N a v i) (unhalved v (within-left (atom_halves N a) (halves n as') v i)) (cases_Bool (is_in v (used of (literals n as' t)))))
    (λ above' adds few.
    literals-peak n d as' t of above' (h + lit_count a) wide far g few (room-left (some as') (some-at as') room) (λ v i. unhalved v (within-right (atom_halves N a) (halves n as') v i))
    (λ above'' adds' few'. next above'' (λ z. let x = adds z in let y = adds' z in let j : lies n (taken a + all_taken as') z ≡ lies n (all_taken as') z + lies N (taken a) z = omega arith in omega (arith, x, y, j)) (omega arith)))
  where
    half-at : (n : ℕ) (a : Atom) (v : ℕ) → is_in v (atom_halves n a) ≡ true → n ≤ v
    half-at n (Var x) v i = absurd (false≢true i)
    half-at n (Lit w) v i = (half-range (is_narrow (word w)) n v i).0

    some-at : (as' : List Atom) → some as' ≤ 1
    some-at [] = omega arith
    some-at (a ∷ as') = omega arith

    room-left : (k : ℕ) → k ≤ 1 → h + (lit_count a + lits as') + 1 ≤ wide → h + lit_count a + lits as' + k ≤ wide
    room-left k le r = omega arith

    none : (v : ℕ) → n + all_taken as' ≤ v → is_in v (used of t) ≡ false → (is_in v (used of (literals n as' t)) ≡ true) ⊎ (is_in v (used of (literals n as' t)) ≡ false) → is_in v (used of (literals n as' t)) ≡ false
    none v le o (inl i) = ⊎_elim (λ (p : (n ≤ v) × (v < n + all_taken as')). let up = p.1 in absurd (omega arith)) (λ (p : is_in v (used of t) ≡ true). absurd (false≢true (sym o ∙ p))) (literals-of n d as' v t of far g i)
    none v le o (inr i) = i

-- ---- clones

clone-peak : (b : Bool) (first n : ℕ) (t : ssu.Tree) (of : Names) (above vals : List ℕ) (wide : ℕ) → used (clone_env b first n of) t ≡ vals → length (filter (λ x. is_in x vals) above) ≤ wide → most_held (tree_points (clone_env b first n of) above t) ≤ wide
    → most_held (tree_points of above (clone_step b first n t)) ≤ wide
unfolding clone_env
clone-peak true first n t of above vals wide e h rest =
    let same : length (live_of of above (clone_step true first n t)) ≡ length (filter (λ x. is_in x vals) above) = ap (λ l. length (filter (λ x. is_in x l) above)) e in
    let list : most_held (tree_points (clone_env true first n of) (above ++ []) t) ≡ most_held (tree_points (clone_env true first n of) above t) = ap (λ l. most_held (tree_points (clone_env true first n of) l t)) (append-nil above) in
    omega (arith, same, list)
clone-peak false first n t of above vals wide e h rest = rest

clones-peak : (base r : Counts) (xs : List ℕ) (t : ssu.Tree) (of : Names) (above : List ℕ) (wide : ℕ) → most_held (tree_points (clones_env base r xs of) above t) ≤ wide → most_held (tree_points of above (clones base r xs t)) ≤ wide
unfolding clones_env
clones-peak base r [] t of above wide h = h
clones-peak base r (x ∷ xs) t of above wide h =
    let of' = clone_env (nat_lt 1 (r x)) (base x) (r x) of in
    let rest = clones-peak base r xs t of' above wide h in
    let first = first-live_of (clones base r xs t) of' above in
    clone-peak (nat_lt 1 (r x)) (base x) (r x) (clones base r xs t) of above (used of' (clones base r xs t)) wide refl (omega arith) rest

-- ---- what stands above a tree

-- each once; none is a new name of the tree, or one of the variables that it defines
pub record Sits (base size : Counts) (above : List ℕ) (n k : ℕ) (defs : List ℕ) : Type 0 where
  pub once : (z : ℕ) → times z above ≤ 1
  pub clear : (v : ℕ) → is_in v above ≡ true → ((v < n) ⊎ (n + k ≤ v)) × ((y : ℕ) → is_in y defs ≡ true → (v < base y) ⊎ (base y + size y < v))

among-lives : (base size : Counts) (val : ℕ → ℕ) (lives : List ℕ) (n k : ℕ) (defs : List ℕ) (v : ℕ) → ((v < n) ⊎ (n + k ≤ v)) → ((y : ℕ) → is_in y defs ≡ true → (v < base y) ⊎ (base y + size y < v)) → IsOf base size val lives n k defs v → is_in v (map val lives) ≡ true
among-lives base size val lives n k defs v c e (inl p) = subst (λ w. is_in w (map val lives) ≡ true) (sym p.2) (image_from val lives p.0 p.1)
among-lives base size val lives n k defs v c e (inr (inl p)) = let a = p.0 in let b = p.1 in absurd (⊎_elim (λ (q : v < n). omega arith) (λ (q : n + k ≤ v). omega arith) c)
among-lives base size val lives n k defs v c e (inr (inr p)) =
    let a = p.2 in let b = p.3 in absurd (⊎_elim (λ (q : v < base p.0). omega arith) (λ (q : base p.0 + size p.0 < v). omega arith) (e p.0 p.1))

sits-live_of : (base size : Counts) (val : ℕ → ℕ) (lives : List ℕ) (n k : ℕ) (defs above : List ℕ) (t : ssu.Tree) (of : Names) → Sits base size above n k defs → ((v : ℕ) → is_in v (used of t) ≡ true → IsOf base size val lives n k defs v) → length (live_of of above t) ≤ different lives
sits-live_of base size val lives n k defs above t of s h =
    let a = filter-among (λ x. is_in x (used of t)) above (map val lives) s.once (λ z i j. let q = s.clear z i in among-lives base size val lives n k defs z q.0 q.1 (h z j)) in
    let b = different-map val lives in
    omega arith

-- ---- room for the literals of a node

lit-most : (a : Atom) → lit_count a ≤ 1
unfolding lit_count
lit-most (Var x) = omega arith
lit-most (Lit v) = omega arith

some-most : (as' : List Atom) → some as' ≤ 1
unfolding some
some-most [] = omega arith
some-most (a ∷ as') = omega arith

prim-room : (p : Primitive) → lits (operands p) + some (operands p) ≤ 3
unfolding lits some
prim-room (Same a) = let x = lit-most a in let y = lit-most (Lit 0) in omega arith
prim-room (UnaOf op a) = let x = lit-most a in omega arith
prim-room (BinOf op a b) = let x = lit-most a in let y = lit-most b in omega arith

vars-lits : (as' : List Atom) → length (all_vars as') + lits as' ≡ length as'
unfolding lits lit_count
vars-lits [] = refl
vars-lits (Var x ∷ as') = let e = vars-lits as' in omega arith
vars-lits (Lit v ∷ as') = let e = vars-lits as' in omega arith

operands-room : (live_of' : List ℕ) (os : List Atom) → different (all_vars os ++ live_of') + lits os + some os ≤ operands_wide live_of' os
unfolding lits some
operands-room live_of' [] = omega arith
operands-room live_of' (a ∷ as') =
    let os = a ∷ as' in
    let vars = all_vars os in
    let x = different-below (vars ++ live_of') (vars ++ without live_of' vars) (within-both vars live_of' (vars ++ without live_of' vars) (within-left vars (without live_of' vars)) (within-behind live_of' vars)) in
    let y = different-append vars (without live_of' vars) in
    let z = different-length vars in
    let w : length vars + (lit_count a + lits as') ≡ length os = vars-lits os in
    omega (arith, x, y, z, w)

-- ---- behind definitions

image-of : (f : ℕ → ℕ) (xs : List ℕ) (v : ℕ) → is_in v (map f xs) ≡ true → (x : ℕ) × (is_in x xs ≡ true) × (v ≡ f x)
image-of f [] v i = absurd (false≢true i)
image-of f (x ∷ xs) v i =
    ⊎_elim (λ (e : nat_eq v (f x) ≡ true). (x, or_left (nat_eq x x) (is_in x xs) (same-test x), same-number v (f x) e))
    (λ (e : is_in v (map f xs) ≡ true). let r = image-of f xs v e in (r.0, or_right (nat_eq r.0 x) (is_in r.0 xs) r.1, r.2)) (or_cases (nat_eq v (f x)) (is_in v (map f xs)) i)

module _ (base size : Counts) (c d : ℕ) (vs : List ℕ) (laid : Laid base size c d vs) where
  value-low : (r : Counts) (x : ℕ) → r x ≤ size x → is_in x vs ≡ true → (base x ≤ value base r x) × (value base r x ≤ base x + size x) × (value base r x < d)
  value-low r x le i =
      let b = laid.below x i in
      ⊎_elim (λ (e : value base r x ≡ base x). (omega (arith, e), omega (arith, e), omega (arith, e))) (λ (e : value base r x ≡ base x + r x). (omega (arith, e), omega (arith, e), omega (arith, e))) (value-is base r x)

  small-at : (b : Bool) (r : Counts) (xs : List ℕ) (val : ℕ → ℕ) (y : ℕ) → is_in y xs ≡ b → r y ≤ size y → Within xs vs → (0 < (if b then 0 else r y) → val y < d) → 0 < r y → (if b then value base r y else val y) < d
  small-at true r xs val y e le w h lt = (value-low r y le (w y e)).2
  small-at false r xs val y e le w h lt = h lt

  small-behind : (r : Counts) (xs : List ℕ) (val : ℕ → ℕ) → ((x : ℕ) → r x ≤ size x) → Within xs vs → ((y : ℕ) → 0 < outside xs r y → val y < d) → (y : ℕ) → 0 < r y → valued base r xs val y < d
  unfolding valued
  small-behind r xs val le w h y lt = small-at (is_in y xs) r xs val y refl (le y) w (h y) lt

  rest-low : (val : ℕ → ℕ) (lives : List ℕ) (n k : ℕ) (defs : List ℕ) (v : ℕ) → d ≤ n → ((y : ℕ) → is_in y lives ≡ true → val y < d) → Within defs vs → IsOf base size val lives n k defs v → v < n + k + 0
  rest-low val lives n k defs v far h w (inl p) = let a = h p.0 p.1 in let b = p.2 in omega arith
  rest-low val lives n k defs v far h w (inr (inl p)) = let a = p.1 in omega arith
  rest-low val lives n k defs v far h w (inr (inr p)) = let a = p.3 in let b = laid.below p.0 (w p.0 p.1) in omega arith

  values-few : (r : Counts) (xs : List ℕ) (z : ℕ) → times z (map (value base r) xs) ≤ lies_all base (λ y. r y + 1) xs z
  values-few r xs z = let a = values-defined base r xs z (ssu.End (ssu.Halt 0 [])) in omega arith

  sits-behind : (r : Counts) (xs rest above above' : List ℕ) (n k m : ℕ) → Sits base size above n (k + m) (xs ++ rest) → Adds above above' (n + k) m → d ≤ n → ((x : ℕ) → r x ≤ size x) → Within xs vs → Within rest vs → all_different xs ≡ true → ((y : ℕ) → is_in y rest ≡ true → is_in y xs ≡ false)
      → Sits base size (above' ++ map (value base r) xs) n k rest
  sits-behind r xs rest above above' n k m s adds far le w w' all apart = record {
    once = λ z.
        let vals = map (value base r) xs in
        let t = times-append z above' vals in
        let a = adds z in
        let b = values-few r xs z in
        let e = lies_all-least base (λ y. r y + 1) (λ y. size y + 1) xs z (λ y i. let l = le y in omega arith) in
        ⊎_elim
        (λ (p : times z above < 1).
        ⊎_elim
        (λ (q : z < d).
        let none : lies (n + k) m z ≡ 0 = lies-out (n + k) m z (inl (omega arith)) in
        let one = lies_all-once base (λ y. size y + 1) xs z all (λ x y i j ne. ⊎_elim (λ (g : base x + size x < base y). inl (omega arith)) (λ (g : base y + size y < base x). inr (omega arith)) (laid.apart x y (w x i) (w y j) ne)) in
        omega (arith, t, a, b, e, none, one))
        (λ (q : d ≤ z).
        let none = lies_all-none base (λ y. size y + 1) xs z (λ y i. let g = laid.below y (w y i) in inr (omega arith)) in
        omega (arith, t, a, b, e, none)) (cases_lt z d))
        (λ (p : 1 ≤ times z above).
        let i = in-times z above (omega arith) in
        let clear = s.clear z i in
        let one = s.once z in
        let none : lies (n + k) m z ≡ 0 = ⊎_elim (λ (q : z < n). lies-out (n + k) m z (inl (omega arith))) (λ (q : n + (k + m) ≤ z). lies-out (n + k) m z (inr (omega arith))) clear.0 in
        let free = lies_all-none base (λ y. size y + 1) xs z (λ y j. ⊎_elim (λ (q : z < base y). inl q) (λ (q : base y + size y < z). inr (omega arith)) (clear.1 y (within-left xs rest y j))) in
        omega (arith, t, a, b, e, none, free, one)) (cases_lt (times z above) 1);
    clear = λ v i.
        ⊎_elim
        (λ (p : is_in v above' ≡ true).
        let many = times-in v above' p in
        let a = adds v in
        ⊎_elim
        (λ (q : times v above < 1).
        let up : n + k ≤ v = ⊎_elim (λ (g : v < n + k). absurd (let none = lies-out (n + k) m v (inl g) in omega arith)) (λ (g : n + k ≤ v). g) (cases_lt v (n + k)) in
        (inr up, λ y j. let b = laid.below y (w' y j) in inr (omega arith)))
        (λ (q : 1 ≤ times v above).
        let clear = s.clear v (in-times v above (omega arith)) in
        (⊎_elim (λ (g : v < n). inl g) (λ (g : n + (k + m) ≤ v). inr (omega arith)) clear.0, λ y j. clear.1 y (within-right xs rest y j))) (cases_lt (times v above) 1))
        (λ (p : is_in v (map (value base r) xs) ≡ true).
        let q = image-of (value base r) xs v p in
        let x = q.0 in
        let low = value-low r x (le x) (w x q.1) in
        let e : v ≡ value base r x = q.2 in (
          inl (omega (arith, e, low.2)),
          λ y j.
              let ne : x ≡ y → ⊥ = λ g. false≢true (sym (apart y j) ∙ subst (λ z. is_in z xs ≡ true) g q.1) in
              ⊎_elim (λ (g : base x + size x < base y). inl (omega (arith, e, low.1))) (λ (g : base y + size y < base x). inr (omega (arith, e, low.0))) (laid.apart x y (w x q.1) (w' y j) ne),
        ))
        (in-either v above' (map (value base r) xs) i);
  }

-- ---- trees

prim-points : (x : ℕ) (p : Primitive) (ys : List ℕ) (t : ssu.Tree) (of : Names) (above : List ℕ) → most_held (tree_points of above (ssu.Do (prim_step x p ys) t)) ≡ max (length (live_of of above (ssu.Do (prim_step x p ys) t))) (most_held (tree_points of (above ++ x ∷ []) t))
prim-points x (Same a) ys t of above = refl
prim-points x (UnaOf op a) ys t of above = refl
prim-points x (BinOf op a b) ys t of above = refl

fresh-once : (known xs rest : List ℕ) → Fresh known (xs ++ rest) → all_different xs ≡ true
unfolding Fresh
fresh-once known xs rest f = different-from xs (λ z. let le = f z in omega (arith, times-append z xs rest))

none-in : (v : ℕ) (l : List ℕ) → (is_in v l ≡ true → ⊥) → is_in v l ≡ false
none-in v l h = ⊎_elim (λ (e : is_in v l ≡ true). absurd (h e)) (λ (e : is_in v l ≡ false). e) (cases_Bool (is_in v l))

sits-fewer : (base size : Counts) (above above' : List ℕ) (n k n' k' m : ℕ) (defs defs' : List ℕ) (d : ℕ) → Sits base size above n (k + m) defs → Adds above above' (n + k) m → n ≤ n' → n' + k' ≤ n + k → Within defs' defs → d ≤ n → ((y : ℕ) → is_in y defs' ≡ true → base y + size y < d) → Sits base size above' n' k' defs'
sits-fewer base size above above' n k n' k' m defs defs' d s adds le le' w far below = record {
  once = λ z.
      let a = adds z in
      let one = s.once z in
      ⊎_elim (λ (p : times z above < 1). omega arith)
      (λ (p : 1 ≤ times z above).
      let none : lies (n + k) m z ≡ 0 = ⊎_elim (λ (q : z < n). lies-out (n + k) m z (inl (omega arith))) (λ (q : n + (k + m) ≤ z). lies-out (n + k) m z (inr (omega arith))) (s.clear z (in-times z above (omega arith))).0 in
      omega (arith, a, none, one)) (cases_lt (times z above) 1);
  clear = λ v i.
      let many = times-in v above' i in
      let a = adds v in
      ⊎_elim
      (λ (q : times v above < 1).
      let up : n + k ≤ v = ⊎_elim (λ (g : v < n + k). absurd (let none = lies-out (n + k) m v (inl g) in omega arith)) (λ (g : n + k ≤ v). g) (cases_lt v (n + k)) in
      (inr (omega arith), λ y j. let b = below y j in inr (omega arith)))
      (λ (q : 1 ≤ times v above).
      let clear = s.clear v (in-times v above (omega arith)) in
      (⊎_elim (λ (g : v < n). inl (omega arith)) (λ (g : n + (k + m) ≤ v). inr (omega arith)) clear.0, λ y j. clear.1 y (w y j))) (cases_lt (times v above) 1);
}

module _ (labels : List Label) (base size : Counts) (c d : ℕ) (vs : List ℕ) (laid : Laid base size c d vs) where
  low-defs : (t : Tree) → Within (defined t) vs → (y : ℕ) → is_in y (defined t) ≡ true → base y + size y < d
  low-defs t w y i = laid.below y (w y i)

  pub peak-made : (t : Tree) (known : List ℕ) (n : ℕ) (val : ℕ → ℕ) (of : Names) (above : List ℕ) → Fits labels vs size known t → Fresh known (defined t) → d ≤ n → Sees base size d val of (uses t) (defined t) → ((y : ℕ) → 0 < uses t y → val y < d) → Sits base size above n (spent t) (defined t)
      → most_held (tree_points of above (made base n t)) ≤ tree_wide t
  peak-made (Let x p t) known n val of above f once far sees small s =
      let N = n + spent t in
      let os = operands p in
      let r = uses t in
      let r' = outside (x ∷ []) r in
      let ns = names base r' N os in
      let T = made base n t in
      let C = clones base r (x ∷ []) T in
      let X = ssu.Do (prim_step (value base r x) p ns) C in
      let lives = live (Let x p t) in
      let w = tree_wide (Let x p t) in
      let fits = fits-let labels vs size known x p t f in
      let within : Within (x ∷ []) vs = λ y j. fits.within y (within-left (x ∷ []) known y j) in
      let b = behind labels base size c d vs laid t known (x ∷ []) val of fits within once (sees-weaker base size d val of (uses (Let x p t)) r' (x ∷ defined t) (x ∷ defined t) (λ y. omega arith) (λ y j. j) sees) in
      let small' = small-behind base size c d vs laid r (x ∷ []) val b.sized within (λ y lt. small y (omega arith)) in
      let of' = clones_env base r (x ∷ []) of in
      let first = sits-live_of base size val lives n (spent (Let x p t)) (x ∷ defined t) above (made base n (Let x p t)) of s (λ v i. used-of labels base size c d vs laid (Let x p t) known n val of v f once far sees i) in
      let room = prim-room p in
      literals-peak N d os X of above (different lives) w (omega arith) sees.new first (omega arith)
      (λ v i. none-in v (used of X) (λ j.
      ⊎_elim (λ (q : is_in v (map of ns) ≡ true). half-not-named base r' N d val of os v (omega arith) (λ y lt. small y lt) (λ y k lt. sees.copies y k lt) sees.new i q)
      (λ (q : is_in v (used of C) ≡ true).
      let low = rest-low base size c d vs laid (valued base r (x ∷ []) val) (live t) n (spent t) (defined t) v far (λ y g. small' y (live-used t y g)) fits.defs
      (used-of labels base size c d vs laid t (x ∷ known) n (valued base r (x ∷ []) val) of' v b.fits b.fresh far b.sees (sym (ap (is_in v) (clones-names base r (x ∷ []) T of)) ∙ q)) in
      let up = halves-range N os v i in let least = up.0 in omega arith)
      (in-either v (map of ns) (used of C) (sym (ap (is_in v) (used-prim base r' N (value base r x) p C of)) ∙ j))))
      (λ above' adds few.
      let e = prim-points (value base r x) p ns C of above' in
      let inner = sits-behind base size c d vs laid r (x ∷ []) (defined t) above above' n (spent t) (all_taken os) s adds far b.sized within fits.defs refl (fresh-apart (x ∷ []) known (defined t) b.fresh) in
      let rest = peak-made t (x ∷ known) n (valued base r (x ∷ []) val) of' (above' ++ value base r x ∷ []) b.fits b.fresh far b.sees small' inner in
      let whole = clones-peak base r (x ∷ []) T of (above' ++ value base r x ∷ []) w (omega arith) in
      omega (arith, e, few, whole, room))
  peak-made (Read m xs a t) known n val of above f once far sees small s =
      let N = n + spent t in
      let os = a ∷ [] in
      let r = uses t in
      let r' = outside xs r in
      let ns = names base r' N os in
      let T = made base n t in
      let C = clones base r xs T in
      let X = ssu.Do (ssu.Read m (map (value base r) xs) (slice_index ns 0)) C in
      let lives = live (Read m xs a t) in
      let w = tree_wide (Read m xs a t) in
      let fits = fits-read labels vs size known m xs a t f in
      let within : Within xs vs = λ y j. fits.within y (within-left xs known y j) in
      let b = behind labels base size c d vs laid t known xs val of fits within once (sees-weaker base size d val of (uses (Read m xs a t)) r' (xs ++ defined t) (xs ++ defined t) (λ y. omega arith) (λ y j. j) sees) in
      let small' = small-behind base size c d vs laid r xs val b.sized within (λ y lt. small y (omega arith)) in
      let of' = clones_env base r xs of in
      let first = sits-live_of base size val lives n (spent (Read m xs a t)) (xs ++ defined t) above (made base n (Read m xs a t)) of s (λ v i. used-of labels base size c d vs laid (Read m xs a t) known n val of v f once far sees i) in
      let wider = different-below lives (all_vars os ++ without (live t) xs) (within-both (atom_vars a) (without (live t) xs) (all_vars os ++ without (live t) xs) (λ y j. within-left (all_vars os) (without (live t) xs) y (within-left (atom_vars a) [] y j)) (within-right (all_vars os) (without (live t) xs))) in
      let room = operands-room (without (live t) xs) os in
      literals-peak N d os X of above (different lives) w (omega arith) sees.new first (omega (arith, wider, room))
      (λ v i. none-in v (used of X) (λ j.
      ⊎_elim (λ (q : is_in v (map of ns) ≡ true). half-not-named base r' N d val of os v (omega arith) (λ y lt. small y lt) (λ y k lt. sees.copies y k lt) sees.new i q)
      (λ (q : is_in v (used of C) ≡ true).
      let low = rest-low base size c d vs laid (valued base r xs val) (live t) n (spent t) (defined t) v far (λ y g. small' y (live-used t y g)) fits.defs
      (used-of labels base size c d vs laid t (xs ++ known) n (valued base r xs val) of' v b.fits b.fresh far b.sees (sym (ap (is_in v) (clones-names base r xs T of)) ∙ q)) in
      let up = halves-range N os v i in let least = up.0 in omega arith)
      (in-either v (map of ns) (used of C) j)))
      (λ above' adds few.
      let inner = sits-behind base size c d vs laid r xs (defined t) above above' n (spent t) (all_taken os) s adds far b.sized within fits.defs (fresh-once known xs (defined t) once) (fresh-apart xs known (defined t) b.fresh) in
      let rest = peak-made t (xs ++ known) n (valued base r xs val) of' (above' ++ map (value base r) xs) b.fits b.fresh far b.sees small' inner in
      let whole = clones-peak base r xs T of (above' ++ map (value base r) xs) w (omega arith) in
      omega (arith, few, whole, wider, room))
  peak-made (Write m a bs t) known n val of above f once far sees small s =
      let N = n + spent t in
      let os = a ∷ bs in
      let r = uses t in
      let ns = names base r N os in
      let T = made base n t in
      let X = ssu.Do (ssu.Write m (slice_index ns 0) (drop 1 ns)) T in
      let lives = live (Write m a bs t) in
      let w = tree_wide (Write m a bs t) in
      let fits = fits-write labels vs size known m a bs t f in
      let sees' = sees-weaker base size d val of (uses (Write m a bs t)) r (defined t) (defined t) (λ y. omega arith) (λ y j. j) sees in
      let small' : (y : ℕ) → 0 < r y → val y < d = λ y lt. small y (omega arith) in
      let first = sits-live_of base size val lives n (spent (Write m a bs t)) (defined t) above (made base n (Write m a bs t)) of s (λ v i. used-of labels base size c d vs laid (Write m a bs t) known n val of v f once far sees i) in
      let room = operands-room (live t) os in
      literals-peak N d os X of above (different lives) w (omega arith) sees.new first (omega (arith, room))
      (λ v i. none-in v (used of X) (λ j.
      ⊎_elim (λ (q : is_in v (map of ns) ≡ true). half-not-named base r N d val of os v (omega arith) (λ y lt. small y lt) (λ y k lt. sees.copies y k lt) sees.new i q)
      (λ (q : is_in v (used of T) ≡ true).
      let low = rest-low base size c d vs laid val (live t) n (spent t) (defined t) v far (λ y g. small' y (live-used t y g)) fits.defs (used-of labels base size c d vs laid t known n val of v fits once far sees' q) in
      let up = halves-range N os v i in let least = up.0 in omega arith)
      (in-either v (map of ns) (used of T) j)))
      (λ above' adds few.
      let inner = sits-fewer base size above above' n (spent t) n (spent t) (all_taken os) (defined t) (defined t) d s adds (omega arith) (omega arith) (λ y j. j) far (low-defs t fits.defs) in
      let rest = peak-made t known n val of above' fits once far sees' small' inner in
      let list : most_held (tree_points of (above' ++ []) T) ≡ most_held (tree_points of above' T) = ap (λ l. most_held (tree_points of l T)) (append-nil above') in
      omega (arith, few, rest, list, room))
  peak-made (If q' a b t u) known n val of above f once far sees small s =
      let K = spent u + spent t in
      let N = n + K in
      let os = a ∷ b ∷ [] in
      let r = most (uses t) (uses u) in
      let ns = names base r N os in
      let T = made base (n + spent u) t in
      let U = made base n u in
      let X = ssu.If q' (slice_index ns 0) (slice_index ns 1) T U in
      let lives = live (If q' a b t u) in
      let w = tree_wide (If q' a b t u) in
      let D = defined t ++ defined u in
      let fits = fits-first labels vs size known q' a b t u f in
      let fits' = fits-second labels vs size known q' a b t u f in
      let once' = fresh-first known (defined t) (defined u) once in
      let once'' = fresh-second known (defined t) (defined u) once in
      let sees' = sees-weaker base size d val of (uses (If q' a b t u)) (uses t) D (defined t) (λ y. omega arith) (within-left (defined t) (defined u)) sees in
      let sees'' = sees-weaker base size d val of (uses (If q' a b t u)) (uses u) D (defined u) (λ y. omega arith) (within-right (defined t) (defined u)) sees in
      let small' : (y : ℕ) → 0 < uses t y → val y < d = λ y lt. small y (omega arith) in
      let small'' : (y : ℕ) → 0 < uses u y → val y < d = λ y lt. small y (omega arith) in
      let first = sits-live_of base size val lives n (spent (If q' a b t u)) D above (made base n (If q' a b t u)) of s (λ v i. used-of labels base size c d vs laid (If q' a b t u) known n val of v f once far sees i) in
      let room = operands-room (live t ++ live u) os in
      literals-peak N d os X of above (different lives) w (omega arith) sees.new first (omega (arith, room))
      (λ v i. none-in v (used of X) (λ j.
      let up = halves-range N os v i in let least = up.0 in
      ⊎_elim (λ (q : is_in v (map of ns) ≡ true). half-not-named base r N d val of os v (omega arith) (λ y lt. small y lt) (λ y k lt. sees.copies y k lt) sees.new i q)
      (λ (q : is_in v (used of T ++ used of U) ≡ true).
      ⊎_elim (λ (g : is_in v (used of T) ≡ true).
      let low = rest-low base size c d vs laid val (live t) (n + spent u) (spent t) (defined t) v (omega arith) (λ y h. small' y (live-used t y h)) fits.defs (used-of labels base size c d vs laid t known (n + spent u) val of v fits once' (omega arith) sees' g) in
      omega arith)
      (λ (g : is_in v (used of U) ≡ true).
      let low = rest-low base size c d vs laid val (live u) n (spent u) (defined u) v far (λ y h. small'' y (live-used u y h)) fits'.defs (used-of labels base size c d vs laid u known n val of v fits' once'' far sees'' g) in
      omega arith) (in-either v (used of T) (used of U) q))
      (in-either v (map of ns) (used of T ++ used of U) j)))
      (λ above' adds few.
      let one = sits-fewer base size above above' n K (n + spent u) (spent t) (all_taken os) D (defined t) d s adds (omega arith) (omega arith) (within-left (defined t) (defined u)) far (low-defs t fits.defs) in
      let two = sits-fewer base size above above' n K n (spent u) (all_taken os) D (defined u) d s adds (omega arith) (omega arith) (within-right (defined t) (defined u)) far (low-defs u fits'.defs) in
      let left = peak-made t known (n + spent u) val of above' fits once' (omega arith) sees' small' one in
      let right = peak-made u known n val of above' fits' once'' far sees'' small'' two in
      let both = most_held-both (tree_points of above' T) (tree_points of above' U) w (omega arith) (omega arith) in
      omega (arith, few, both, room))
  peak-made (Jump l bs) known n val of above f once far sees small s =
      let ns = names base (λ y. 0) n bs in
      let X = ssu.End (ssu.Jump l ns) in
      let first = sits-live_of base size val (all_vars bs) n (all_taken bs) [] above (made base n (Jump l bs)) of s (λ v i. used-of labels base size c d vs laid (Jump l bs) known n val of v f once far sees i) in
      let room = operands-room [] bs in
      let nil : different (all_vars bs ++ []) ≡ different (all_vars bs) = ap different (append-nil (all_vars bs)) in
      literals-peak n d bs X of above (different (all_vars bs)) (operands_wide [] bs) far sees.new first (omega (arith, room, nil))
      (λ v i. none-in v (used of X) (λ j. half-not-named base (λ y. 0) n d val of bs v far (λ y lt. small y (omega arith)) (λ y k lt. sees.copies y k (omega arith)) sees.new i j))
      (λ above' adds few. omega (arith, few, room, nil))
  peak-made (Halt e bs) known n val of above f once far sees small s =
      let ns = names base (λ y. 0) n bs in
      let X = ssu.End (ssu.Halt e ns) in
      let first = sits-live_of base size val (all_vars bs) n (all_taken bs) [] above (made base n (Halt e bs)) of s (λ v i. used-of labels base size c d vs laid (Halt e bs) known n val of v f once far sees i) in
      let room = operands-room [] bs in
      let nil : different (all_vars bs ++ []) ≡ different (all_vars bs) = ap different (append-nil (all_vars bs)) in
      literals-peak n d bs X of above (different (all_vars bs)) (operands_wide [] bs) far sees.new first (omega (arith, room, nil))
      (λ v i. none-in v (used of X) (λ j. half-not-named base (λ y. 0) n d val of bs v far (λ y lt. small y (omega arith)) (λ y k lt. sees.copies y k (omega arith)) sees.new i j))
      (λ above' adds few. omega (arith, few, room, nil))

-- ---- labels

label-peak : (labels : List Label) (k c d : ℕ) (l : Label) (s : ssu.Label) → is_label labels l ≡ true → IsMade c d l s → max (length s.params) (most_held (tree_points own s.params s.body)) ≤ label_wide l
unfolding Fresh
label-peak labels k c d l s f is =
    let parts = and_parts (is_formed labels l.params l.body) (all_different (variables l)) f in
    let base = is.base in
    let size = all_uses l.body in
    let n = is.first in
    let r = uses l.body in
    let xs = l.params in
    let rest = defined l.body in
    let vs = variables l in
    let T = made base n l.body in
    let fits = label-fits labels l f in
    let place = place-of base size c n labels vs xs l.body is.laid fits in
    let sized : (x : ℕ) → r x ≤ size x = λ x. uses-all l.body x in
    let fresh = fresh-from xs rest parts.1 in
    let apart : (y : ℕ) → is_in y rest ≡ true → is_in y xs ≡ false = λ y i. fresh-not xs rest fresh y i in
    let start : Sees base size n own own (outside xs r) (xs ++ rest) = record { copies = λ y j lt. absurd (param-at (is_in y xs) labels xs l.body y j refl parts.0 lt); later = λ y j i lj. refl; new = λ z far. refl } in
    let sees = sees-behind base size c n vs is.laid r xs rest own own place sized fits.within fits.defs apart start in
    let small = small-behind base size c n vs is.laid r xs own sized fits.within (λ y lt. absurd (param-at (is_in y xs) labels xs l.body y 0 refl parts.0 lt)) in
    let empty : Sits base size [] n (spent l.body + 0) (xs ++ rest) = record { once = λ z. omega arith; clear = λ v i. absurd (false≢true i) } in
    let sits = sits-behind base size c n vs is.laid r xs rest [] [] n (spent l.body) 0 empty (λ z. omega arith) (omega arith) sized fits.within fits.defs (different-before xs rest parts.1) apart in
    let body = peak-made labels base size c n vs is.laid l.body xs n (valued base r xs own) (clones_env base r xs own) (map (value base r) xs) fits fresh (omega arith) sees small sits in
    let whole = clones-peak base r xs T own (map (value base r) xs) (tree_wide l.body) body in
    let p : length s.params ≡ length xs = ap (λ (z : ssu.Label). length z.params) is.is ∙ length-map xs (value base r) in
    let q : most_held (tree_points own s.params s.body) ≡ most_held (tree_points own (map (value base r) xs) (clones base r xs T)) = ap (λ (z : ssu.Label). most_held (tree_points own z.params z.body)) is.is in
    omega (arith, whole, p, q)
  where
    fresh-not : (xs rest : List ℕ) → Fresh xs rest → (y : ℕ) → is_in y rest ≡ true → is_in y xs ≡ false
    fresh-not xs rest f y i = let le = f y in let p = times-in y rest i in times-not y xs (omega arith)

labels-peak : (labels : List Label) (k c : ℕ) (ls : List Label) (ss : List ssu.Label) → list_all (is_label labels) ls ≡ true → AllMade c ls ss → most_held (points_from k ss) ≤ wide ls
labels-peak labels k c [] [] f m = omega arith
labels-peak labels k c [] (s ∷ ss) f m = absurd m
labels-peak labels k c (l ∷ ls) [] f m = absurd m
labels-peak labels k c (l ∷ ls) (s ∷ ss) f m =
    let parts = and_parts (is_label labels l) (list_all (is_label labels) ls) f in
    let one = label-peak labels k c m.0 l s parts.0 m.1 in
    let rest = labels-peak labels (suc k) m.0 ls ss parts.1 m.2 in
    let both = most_held-both (tree_points own s.params s.body) (points_from (suc k) ss) (max (label_wide l) (wide ls)) (omega arith) (omega arith) in
    omega (arith, one, both)

pub peak-of : (c : ℕ) (ls : List Label) (ss : List ssu.Label) → list_all (is_label ls) ls ≡ true → AllMade c ls ss → peak ss ≤ wide ls
peak-of c ls ss f m = labels-peak ls 0 c ls ss f m

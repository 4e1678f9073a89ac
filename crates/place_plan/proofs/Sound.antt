-- What single use says of each point of a form.
use Rattle.std.proofs.Common.{◌≡◌, ℕ, suc, Bool, true, false, nat_eq, if◌then◌else◌, ◌||◌, ◌&&◌, ◌⊎◌, inl, inr, ⊎_elim, List, [], ◌∷◌, ◌++◌, length, map, refl, sym, ap, ◌∙◌, arith}
use Rattle.std.specs.Prelude.{slice_get}
use Rattle.std.specs.List.{list_all}
use Rattle.std.proofs.lemmas.Bool.{and_parts, or_cases, false≢true}
use Rattle.nv_base.specs.Sets.{is_in, all_different, Within}
use Rattle.nv_base.proofs.Sets.{same-number}
use Rattle.ssu_ir.specs.Tree.{Step, Lit, Una, Bin, Clone, Read, Write, Last, Jump, Halt, Tree, Do, If, End, Label, Does, Forks, Ends, step_values, step_clones, step_uses, last_uses}
use Rattle.ssu_ir.specs.Points.{Names, own, names_after, used, PointKind, Entry, At, Point, tree_points, points_from, points}
use Rattle.ssu_ir.specs.Single.{defined, all_defined, step_names, all_known, is_scoped, fresh_after, is_step, is_last, are_nodes, uses_once, clones_early, step_results, results_used, are_addressed, unknown, is_entry, is_single, single}
use Rattle.ssu_ir.proofs.Liveness.{uses-named, in-left, in-right, held_from, live_in}
use Rattle.place_plan.specs.Uses.{Role, Argument, Ending, Written, roles, step_roles, last_roles, place_roles}
use Rattle.ssu_liveness.specs.inner.Live.{value_by, source_among}
use Rattle.ssu_liveness.specs.inner.PointIds.{tree_places}
use Rattle.ssu_liveness.specs.inner.Numbers.{values_among}
use Rattle.ssu_liveness.proofs.Scoped.{in-itself, Scope, scope-do, scope-first, scope-second, in-either, all-in, split-different}
use Rattle.ssu_liveness.proofs.Kept.{named-above, trees, Sourced, sourced-tail, scope-of-label}
use Rattle.ssu_liveness.proofs.Numbering.{values_among-append, labels_places, places-of-labels}

-- each element of a list has this, by recursion
abbrev pub Each : {X : Type 0} → (X → Type 0) → List X → Type 0
Each P [] = Unit {0}
Each P (x ∷ xs) = P x × Each P xs

pub each-append : {X : Type 0} (P : X → Type 0) (a b : List X) → Each P a → Each P b → Each P (a ++ b)
each-append P [] b h g = g
each-append P (x ∷ a) b h g = (h.0, each-append P a b h.1 g)

-- the parameters of an entry
abbrev pub entry_params : PointKind → List ℕ
entry_params (Entry l ps) = ps
entry_params (At n) = []

-- the values that have to be used
abbrev pub place_results : PointKind → List ℕ
place_results (Entry l ps) = []
place_results (At (Does s)) = step_results s
place_results (At (Forks c x y)) = []
place_results (At (Ends l)) = []

-- what is asked of a node by itself
abbrev pub place_ok : List Label → PointKind → Bool
place_ok labels (Entry l ps) = true
place_ok labels (At (Does s)) = is_step s
place_ok labels (At (Forks c x y)) = true
place_ok labels (At (Ends l)) = is_last labels l

-- `values` are those of the whole form, `all_used` those that are used in it
pub record Sound (labels : List Label) (values all_used : List ℕ) (q : Point) : Type 0 where
  pub from : (x : ℕ) → is_in x q.before ≡ true → (is_in x (entry_params q.place) ≡ true) ⊎ ((is_in x values ≡ true) × (is_in x all_used ≡ true))
  pub entry : Within (entry_params q.place) q.before
  pub uses_held : Within q.uses q.before
  pub results : Within (place_results q.place) all_used
  pub node : place_ok labels q.place ≡ true
  pub many : length (place_roles q.place) ≡ length q.uses

-- ---- as many roles as uses

pub length-of-map : (f : ℕ → ℕ) (xs : List ℕ) → length (map f xs) ≡ length xs
length-of-map f [] = refl
length-of-map f (x ∷ xs) = omega (arith, length-of-map f xs)

pub length-roles : (role : ℕ → Role) (i : ℕ) (xs : List ℕ) → length (roles role i xs) ≡ length xs
length-roles role i [] = refl
length-roles role i (x ∷ xs) = omega (arith, length-roles role (suc i) xs)

step-many : (of : Names) (s : Step) → length (step_roles s) ≡ length (map of (step_uses s))
step-many of (Lit x v) = refl
step-many of (Una x op y) = refl
step-many of (Bin x op y z) = refl
step-many of (Clone xs y) = refl
step-many of (Read m xs y) = refl
step-many of (Write m y xs) = omega (arith, length-roles (Written m) 0 xs, length-of-map of xs)

last-many : (of : Names) (l : Last) → length (last_roles l) ≡ length (map of (last_uses l))
last-many of (Jump l xs) = length-roles (Argument l) 0 xs ∙ sym (length-of-map of xs)
last-many of (Halt e xs) = length-roles Ending 0 xs ∙ sym (length-of-map of xs)

-- ---- a value that is used by its own name is used

in-map-more : (f g : Names) (xs : List ℕ) (x : ℕ) → ((y : ℕ) → f y ≡ x → g y ≡ x) → is_in x (map f xs) ≡ true → is_in x (map g xs) ≡ true
in-map-more f g [] x h e = e
in-map-more f g (y ∷ xs) x h e = ⊎_elim
    (λ (a : nat_eq x (f y) ≡ true). in-left x (g y ∷ []) (map g xs) (ap (λ z. nat_eq x z || false) (h y (sym (same-number x (f y) a)) ∙ same-number x (f y) a) ∙ ap (λ b. b || false) a))
    (λ (b : is_in x (map f xs) ≡ true). in-right x (g y ∷ []) (map g xs) (in-map-more f g xs x h b))
    (or_cases (nat_eq x (f y)) (is_in x (map f xs)) e)

after-more : (f g : Names) (s : Step) (x : ℕ) → ((y : ℕ) → f y ≡ x → g y ≡ x) → (y : ℕ) → names_after f s y ≡ x → names_after g s y ≡ x
after-more f g (Lit v n) x h y e = h y e
after-more f g (Una v op w) x h y e = h y e
after-more f g (Bin v op w z) x h y e = h y e
after-more f g (Clone xs w) x h y e = pick (is_in y xs) e
  where
    pick : (b : Bool) → (if b then f w else f y) ≡ x → (if b then g w else g y) ≡ x
    pick true q = h w q
    pick false q = h y q
after-more f g (Read m xs w) x h y e = h y e
after-more f g (Write m w xs) x h y e = h y e

used-more : (f g : Names) (t : Tree) (x : ℕ) → ((y : ℕ) → f y ≡ x → g y ≡ x) → is_in x (used f t) ≡ true → is_in x (used g t) ≡ true
used-more f g (Do s t) x h e = ⊎_elim
    (λ (a : is_in x (map f (step_uses s)) ≡ true). in-left x (map g (step_uses s)) (used (names_after g s) t) (in-map-more f g (step_uses s) x h a))
    (λ (b : is_in x (used (names_after f s) t) ≡ true). in-right x (map g (step_uses s)) (used (names_after g s) t) (used-more (names_after f s) (names_after g s) t x (after-more f g s x h) b))
    (in-either x (map f (step_uses s)) (used (names_after f s) t) e)
used-more f g (If c v w t u) x h e = ⊎_elim
    (λ (a : is_in x (map f (v ∷ w ∷ [])) ≡ true). in-left x (map g (v ∷ w ∷ [])) (used g t ++ used g u) (in-map-more f g (v ∷ w ∷ []) x h a))
    (λ (b : is_in x (used f t ++ used f u) ≡ true). in-right x (map g (v ∷ w ∷ [])) (used g t ++ used g u) (⊎_elim
    (λ (p : is_in x (used f t) ≡ true). in-left x (used g t) (used g u) (used-more f g t x h p))
    (λ (p : is_in x (used f u) ≡ true). in-right x (used g t) (used g u) (used-more f g u x h p))
    (in-either x (used f t) (used f u) b)))
    (in-either x (map f (v ∷ w ∷ [])) (used f t ++ used f u) e)
used-more f g (End l) x h e = in-map-more f g (last_uses l) x h e

one-result : (of : Names) (t : Tree) (z x : ℕ) → of z ≡ z → (is_in z (used own t) && true) ≡ true → is_in x (z ∷ []) ≡ true → is_in x (used of t) ≡ true
one-result of t z x p h e = ⊎_elim
    (λ (a : nat_eq x z ≡ true). ap (λ y. is_in y (used of t)) (same-number x z a) ∙ used-more own of t z (λ y q. ap of q ∙ p) (and_parts (is_in z (used own t)) true h).0)
    (λ (b : false ≡ true). absurd (false≢true b))
    (or_cases (nat_eq x z) false e)

pub in-self : (z : ℕ) → is_in z (z ∷ []) ≡ true
in-self z = ap (λ b. b || false) (in-itself z)

results-in : (of : Names) (s : Step) (t : Tree) (x : ℕ) → ((y : ℕ) → is_in y (step_values s) ≡ true → of y ≡ y) → list_all (λ y. is_in y (used own t)) (step_results s) ≡ true → is_in x (step_results s) ≡ true → is_in x (used (names_after of s) t) ≡ true
results-in of (Lit z v) t x p h e = one-result of t z x (p z (in-self z)) h e
results-in of (Una z op y) t x p h e = one-result of t z x (p z (in-self z)) h e
results-in of (Bin z op y w) t x p h e = one-result of t z x (p z (in-self z)) h e
results-in of (Clone xs y) t x p h e = absurd (false≢true e)
results-in of (Read m xs y) t x p h e = absurd (false≢true e)
results-in of (Write m y xs) t x p h e = absurd (false≢true e)

-- ---- along a tree

no-params : (x : ℕ) {P : Type 0} → is_in x [] ≡ true → P
no-params x e = absurd (false≢true e)

pub tree-sound : (labels : List Label) (values all_used : List ℕ) (of value : Names) (above known fresh : List ℕ) (t : Tree) → Scope of value above known fresh t → Within above values → Within (values_among (tree_places t)) values
    → Within (used of t) all_used → are_nodes labels t ≡ true → results_used t ≡ true → Each (Sound labels values all_used) (tree_points of above t)
tree-sound labels values all_used of value above known fresh (Do s t) c a d u n r =
    let vs = step_values s in
    let sc = and_parts (all_known known (step_names s)) (is_scoped (known ++ (vs ++ step_clones s)) t) c.scoped in
    let nn = and_parts (is_step s) (are_nodes labels t) n in
    let rr = and_parts (list_all (λ x. is_in x (used own t)) (step_results s)) (results_used t) r in
    let below : Within (used (names_after of s) t) all_used = λ x e. u x (in-right x (map of (step_uses s)) (used (names_after of s) t) e) in (
      record {
        from = λ x e. let w = held_from of above (Do s t) x e in inr (a x w.0, u x w.1);
        entry = λ x e. no-params x e;
        uses_held = λ x e. live_in of above (Do s t) x
            (named-above of above known (step_uses s) x c.placed (λ y f. all-in known (step_names s) y sc.0 (uses-named s y f)) e)
            (in-left x (map of (step_uses s)) (used (names_after of s) t) e);
        results = λ x e. below x (results-in of s t x (λ y f. c.later y (in-left y vs (step_clones s ++ defined t) f)) rr.0 e);
        node = nn.0;
        many = step-many of s;
      },
      tree-sound labels values all_used (names_after of s) value (above ++ vs) (known ++ (vs ++ step_clones s)) (fresh_after fresh s) t (scope-do of value above known fresh s t c)
          (λ x e. ⊎_elim (λ (p : is_in x above ≡ true). a x p) (λ (p : is_in x vs ≡ true). d x (in-left x vs (values_among (tree_places t)) p)) (in-either x above vs e))
          (λ x e. d x (in-right x vs (values_among (tree_places t)) e))
          below nn.1 rr.1,
    )
tree-sound labels values all_used of value above known fresh (If q v w t u') c a d u n r =
    let sc = and_parts (all_known known (v ∷ w ∷ [])) (is_scoped known t && is_scoped known u') c.scoped in
    let nn = and_parts (are_nodes labels t) (are_nodes labels u') n in
    let rr = and_parts (results_used t) (results_used u') r in
    let joined : (x : ℕ) → is_in x (values_among (tree_places t) ++ values_among (tree_places u')) ≡ true → is_in x values ≡ true =
    λ x e. d x (ap (λ l. is_in x l) (values_among-append (tree_places t) (tree_places u')) ∙ e) in
    let arms : Within (used of t ++ used of u') all_used = λ x e. u x (in-right x (map of (v ∷ w ∷ [])) (used of t ++ used of u') e) in (
      record {
        from = λ x e. let h = held_from of above (If q v w t u') x e in inr (a x h.0, u x h.1);
        entry = λ x e. no-params x e;
        uses_held = λ x e. live_in of above (If q v w t u') x
            (named-above of above known (v ∷ w ∷ []) x c.placed (λ y f. all-in known (v ∷ w ∷ []) y sc.0 f) e)
            (in-left x (map of (v ∷ w ∷ [])) (used of t ++ used of u') e);
        results = λ x e. no-params x e;
        node = refl;
        many = refl;
      },
      each-append (Sound labels values all_used) (tree_points of above t) (tree_points of above u')
          (tree-sound labels values all_used of value above known [] t (scope-first of value above known fresh q v w t u' c) a
          (λ x e. joined x (in-left x (values_among (tree_places t)) (values_among (tree_places u')) e)) (λ x e. arms x (in-left x (used of t) (used of u') e)) nn.0 rr.0)
          (tree-sound labels values all_used of value above known [] u' (scope-second of value above known fresh q v w t u' c) a
          (λ x e. joined x (in-right x (values_among (tree_places t)) (values_among (tree_places u')) e)) (λ x e. arms x (in-right x (used of t) (used of u') e)) nn.1 rr.1),
    )
tree-sound labels values all_used of value above known fresh (End l) c a d u n r = (
  record {
    from = λ x e. let w = held_from of above (End l) x e in inr (a x w.0, u x w.1);
    entry = λ x e. no-params x e;
    uses_held = λ x e. live_in of above (End l) x (named-above of above known (last_uses l) x c.placed (λ y f. all-in known (last_uses l) y c.scoped f) e) e;
    results = λ x e. no-params x e;
    node = n;
    many = last-many of l;
  },
  tt,
)

-- ---- along labels

-- the values that are used at points
abbrev pub uses_among : List Point → List ℕ
uses_among [] = []
uses_among (q ∷ qs) = q.uses ++ uses_among qs

in-points-left : (x : ℕ) (a b : List Point) → is_in x (uses_among a) ≡ true → is_in x (uses_among (a ++ b)) ≡ true
in-points-left x [] b e = absurd (false≢true e)
in-points-left x (q ∷ a) b e = ⊎_elim
    (λ (p : is_in x q.uses ≡ true). in-left x q.uses (uses_among (a ++ b)) p)
    (λ (p : is_in x (uses_among a) ≡ true). in-right x q.uses (uses_among (a ++ b)) (in-points-left x a b p))
    (in-either x q.uses (uses_among a) e)

in-points-right : (x : ℕ) (a b : List Point) → is_in x (uses_among b) ≡ true → is_in x (uses_among (a ++ b)) ≡ true
in-points-right x [] b e = e
in-points-right x (q ∷ a) b e = in-right x q.uses (uses_among (a ++ b)) (in-points-right x a b e)

used-points : (of : Names) (above : List ℕ) (t : Tree) (x : ℕ) → is_in x (used of t) ≡ true → is_in x (uses_among (tree_points of above t)) ≡ true
used-points of above (Do s t) x e = ⊎_elim
    (λ (p : is_in x (map of (step_uses s)) ≡ true). in-left x (map of (step_uses s)) (uses_among (tree_points (names_after of s) (above ++ step_values s) t)) p)
    (λ (p : is_in x (used (names_after of s) t) ≡ true). in-right x (map of (step_uses s)) (uses_among (tree_points (names_after of s) (above ++ step_values s) t)) (used-points (names_after of s) (above ++ step_values s) t x p))
    (in-either x (map of (step_uses s)) (used (names_after of s) t) e)
used-points of above (If c v w t u) x e =
    let rest = uses_among (tree_points of above t ++ tree_points of above u) in
    ⊎_elim
    (λ (p : is_in x (map of (v ∷ w ∷ [])) ≡ true). in-left x (map of (v ∷ w ∷ [])) rest p)
    (λ (p : is_in x (used of t ++ used of u) ≡ true). in-right x (map of (v ∷ w ∷ [])) rest (⊎_elim
    (λ (h : is_in x (used of t) ≡ true). in-points-left x (tree_points of above t) (tree_points of above u) (used-points of above t x h))
    (λ (h : is_in x (used of u) ≡ true). in-points-right x (tree_points of above t) (tree_points of above u) (used-points of above u x h))
    (in-either x (used of t) (used of u) p)))
    (in-either x (map of (v ∷ w ∷ [])) (used of t ++ used of u) e)
used-points of above (End l) x e = in-left x (map of (last_uses l)) [] e

labels-sound : (labels : List Label) (value : Names) (values all_used : List ℕ) (k : ℕ) (ls : List Label) → list_all (is_single labels) ls ≡ true → all_different (all_defined ls) ≡ true → Sourced value ls
    → Within (values_among (labels_places k ls)) values → Within (uses_among (points_from k ls)) all_used → Each (Sound labels values all_used) (points_from k ls)
labels-sound labels value values all_used k [] a d h w u = tt
labels-sound labels value values all_used k (l ∷ ls) a d h w u =
    let p = and_parts (is_single labels l) (list_all (is_single labels) ls) a in
    let e = split-different l.params (defined l.body ++ all_defined ls) d in
    let f = split-different (defined l.body) (all_defined ls) e.1 in
    let r1 = and_parts (are_nodes labels l.body) (uses_once l.body && (is_scoped l.params l.body && (clones_early l.params l.body && (results_used l.body && are_addressed unknown l.body)))) p.0 in
    let r2 = and_parts (uses_once l.body) (is_scoped l.params l.body && (clones_early l.params l.body && (results_used l.body && are_addressed unknown l.body))) r1.1 in
    let r3 = and_parts (is_scoped l.params l.body) (clones_early l.params l.body && (results_used l.body && are_addressed unknown l.body)) r2.1 in
    let r4 = and_parts (clones_early l.params l.body) (results_used l.body && are_addressed unknown l.body) r3.1 in
    let r5 = and_parts (results_used l.body) (are_addressed unknown l.body) r4.1 in
    let rest = points_from (suc k) ls in
    let tree = tree_points own l.params l.body in
    let inside : (x : ℕ) → is_in x (values_among (tree_places l.body) ++ values_among (labels_places (suc k) ls)) ≡ true → is_in x values ≡ true = λ x g.
    w x (in-right x l.params (values_among (tree_places l.body ++ labels_places (suc k) ls)) (ap (λ m. is_in x m) (values_among-append (tree_places l.body) (labels_places (suc k) ls)) ∙ g)) in (
      record { from = λ x g. inl g; entry = λ x g. g; uses_held = λ x g. no-params x g; results = λ x g. no-params x g; node = refl; many = refl },
      each-append (Sound labels values all_used) tree rest
          (tree-sound labels values all_used own value l.params l.params l.params l.body (scope-of-label labels value l ls p.0 d h)
          (λ x g. w x (in-left x l.params (values_among (tree_places l.body ++ labels_places (suc k) ls)) g))
          (λ x g. inside x (in-left x (values_among (tree_places l.body)) (values_among (labels_places (suc k) ls)) g))
          (λ x g. u x (in-points-left x tree rest (used-points own l.params l.body x g)))
          r1.0 r5.0)
          (labels-sound labels value values all_used (suc k) ls p.1 f.1 (sourced-tail value l ls d h)
          (λ x g. inside x (in-right x (values_among (tree_places l.body)) (values_among (labels_places (suc k) ls)) g))
          (λ x g. u x (in-points-right x tree rest g))),
    )

pub sound-points : (labels : List Label) → single labels ≡ true → Each (Sound labels (values_among (map (λ p. p.place) (points labels))) (uses_among (points labels))) (points labels)
sound-points labels h =
    let a = and_parts (is_entry (slice_get labels 0)) (all_different (all_defined labels) && list_all (is_single labels) labels) h in
    let b = and_parts (all_different (all_defined labels)) (list_all (is_single labels) labels) a.1 in
    labels-sound labels (value_by (source_among (trees labels))) (values_among (map (λ p. p.place) (points labels))) (uses_among (points labels)) 0 labels b.1 b.0 (λ z w. refl)
    (λ x e. ap (λ l. is_in x (values_among l)) (places-of-labels 0 labels) ∙ e) (λ x e. e)

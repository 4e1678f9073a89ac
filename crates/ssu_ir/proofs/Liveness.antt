-- What a node uses is live at it: values, copies and scopes along the paths of a form in single use.
use Rattle.std.proofs.Common.{◌≡◌, ℕ, suc, Bool, true, false, not, nat_eq, cond, slice_get, ◌&&◌, ◌||◌, List, [], ◌∷◌, ◌++◌, map, refl, sym, ap, ◌∙◌, subst, ⊎_elim, append_assoc, if◌then◌else◌}
use Rattle.std.specs.List.{list_all, filter, All}
use Rattle.std.proofs.lemmas.Bool.{and_parts, and_from, or_cases, or_left, or_right, or_parts, not-true, not_from_false, false_from_ne_true, false≢true}
use Rattle.std.proofs.lemmas.List.{append-nil}
use Rattle.std.proofs.lemmas.List.Elements.{All-nil, All-cons, All-append}
use Rattle.nv_base.specs.declared.term.Cmp.{Cmp}
use Rattle.nv_base.specs.Sets.{is_in, all_different, without, Within}
use Rattle.nv_base.proofs.Sets.{same-number, in-append, in-without}
use Rattle.ssu_ir.specs.Tree.{Step, Tree, Label, step_values, step_clones, step_uses, last_uses, Lit, Una, Bin, Clone, Read, Write, Do, If, End}
use Rattle.ssu_ir.specs.Points.{Names, own, names_after, used, live_of, union, tree_points, label_points, points_from, points, IsLive}
use Rattle.ssu_ir.specs.Single.{defined, all_defined, step_names, all_known, is_scoped, is_entry, is_single, single}
use Rattle.ssu_ir.specs.inner.Checks.{step_defs}
use Rattle.ssu_ir.proofs.Lists.{all_at, all_from, image_at}
use Rattle.ssu_ir.proofs.Rules.{single_label_parts}
use Rattle.ssu_ir.proofs.Keeps.{new-append, different-append}

-- ---- filters

kept-in : (b : Bool) (x y : ℕ) (w : List ℕ) → is_in x w ≡ true → is_in x (cond b (y ∷ w) w) ≡ true
kept-in true x y w h = or_right (nat_eq x y) (is_in x w) h
kept-in false x y w h = h

from-cond : (b : Bool) (p : ℕ → Bool) (x y : ℕ) (ys : List ℕ) → p y ≡ b → is_in x (cond b (y ∷ filter p ys) (filter p ys)) ≡ true → (is_in x (filter p ys) ≡ true → (is_in x ys ≡ true) × (p x ≡ true)) → (is_in x (y ∷ ys) ≡ true) × (p x ≡ true)
from-cond true p x y ys e h f =
    ⊎_elim
    (λ (k : nat_eq x y ≡ true). (or_left (nat_eq x y) (is_in x ys) k, subst (λ z. p z ≡ true) (sym (same-number x y k)) e))
    (λ (k : is_in x (filter p ys) ≡ true). let q = f k in (or_right (nat_eq x y) (is_in x ys) q.0, q.1))
    (or_cases (nat_eq x y) (is_in x (filter p ys)) h)
from-cond false p x y ys e h f = let q = f h in (or_right (nat_eq x y) (is_in x ys) q.0, q.1)

different-cond : (b : Bool) (y : ℕ) (w : List ℕ) → is_in y w ≡ false → all_different w ≡ true → all_different (cond b (y ∷ w) w) ≡ true
different-cond true y w n d = and_from (not (is_in y w)) (all_different w) (not_from_false (is_in y w) n) d
different-cond false y w n d = d

pub filter_in : (p : ℕ → Bool) (xs : List ℕ) (x : ℕ) → is_in x xs ≡ true → p x ≡ true → is_in x (filter p xs) ≡ true
filter_in p [] x i h = absurd (false≢true i)
filter_in p (y ∷ ys) x i h =
    ⊎_elim
    (λ (e : nat_eq x y ≡ true). ap (λ b. is_in x (cond b (y ∷ filter p ys) (filter p ys))) (subst (λ z. p z ≡ true) (same-number x y e) h) ∙ or_left (nat_eq x y) (is_in x (filter p ys)) e)
    (λ (e : is_in x ys ≡ true). kept-in (p y) x y (filter p ys) (filter_in p ys x e h))
    (or_cases (nat_eq x y) (is_in x ys) i)

pub filter_from : (p : ℕ → Bool) (xs : List ℕ) (x : ℕ) → is_in x (filter p xs) ≡ true → (is_in x xs ≡ true) × (p x ≡ true)
filter_from p [] x h = absurd (false≢true h)
filter_from p (y ∷ ys) x h = from-cond (p y) p x y ys refl h (filter_from p ys x)

pub filter-different : (p : ℕ → Bool) (xs : List ℕ) → all_different xs ≡ true → all_different (filter p xs) ≡ true
filter-different p [] d = refl
filter-different p (y ∷ ys) d =
    let q = and_parts (not (is_in y ys)) (all_different ys) d in
    different-cond (p y) y (filter p ys)
    (false_from_ne_true (is_in y (filter p ys)) (λ e. false≢true (sym (not-true (is_in y ys) q.0) ∙ (filter_from p ys y e).0)))
    (filter-different p ys q.1)

-- ---- what is held

pub live_in : (of : Names) (above : List ℕ) (t : Tree) (v : ℕ) → is_in v above ≡ true → is_in v (used of t) ≡ true → is_in v (live_of of above t) ≡ true
live_in of above t v i h = filter_in (λ x. is_in x (used of t)) above v i h

pub held_from : (of : Names) (above : List ℕ) (t : Tree) (v : ℕ) → is_in v (live_of of above t) ≡ true → (is_in v above ≡ true) × (is_in v (used of t) ≡ true)
held_from of above t v h = filter_from (λ x. is_in x (used of t)) above v h

-- ---- scopes along a path

-- the names that are known stand for values above, which are all different, and every other name for itself
pub record Scope (of : Names) (above known : List ℕ) : Type 0 where
  pub copies : (z : ℕ) → is_in z known ≡ true → is_in (of z) above ≡ true
  pub fresh : (z : ℕ) → is_in z known ≡ false → of z ≡ z
  pub within : Within above known
  pub different : all_different above ≡ true

pub in-left : (x : ℕ) (a b : List ℕ) → is_in x a ≡ true → is_in x (a ++ b) ≡ true
in-left x a b h = in-append x a b ∙ or_left (is_in x a) (is_in x b) h

pub in-right : (x : ℕ) (a b : List ℕ) → is_in x b ≡ true → is_in x (a ++ b) ≡ true
in-right x a b h = in-append x a b ∙ or_right (is_in x a) (is_in x b) h

-- names that are different from those that are known
abbrev pub AreNew : List ℕ → List ℕ → Type 0
AreNew xs known = (z : ℕ) → is_in z xs ≡ true → is_in z known ≡ false

apart-new : (known xs : List ℕ) → list_all (λ x. not (is_in x xs)) known ≡ true → AreNew xs known
apart-new known xs h z i =
    false_from_ne_true (is_in z known) (λ e. false≢true (sym (not-true (is_in z xs) (all_at (λ x. not (is_in x xs)) known z h e)) ∙ i))

different-both : (a b : List ℕ) → all_different a ≡ true → all_different b ≡ true → AreNew b a → all_different (a ++ b) ≡ true
different-both a b d e n =
    different-append a b
    ∙ and_from (all_different a) (all_different b && list_all (λ x. not (is_in x b)) a) d
    (and_from (all_different b) (list_all (λ x. not (is_in x b)) a) e
    (all_from (λ x. not (is_in x b)) a
    (λ x i. not_from_false (is_in x b) (false_from_ne_true (is_in x b) (λ j. false≢true (sym (n x j) ∙ i))))))

pub record Different (a b : List ℕ) : Type 0 where
  pub first : all_different a ≡ true
  pub second : all_different b ≡ true
  pub apart : list_all (λ x. not (is_in x b)) a ≡ true

pub different_parts : (a b : List ℕ) → all_different (a ++ b) ≡ true → Different a b
different_parts a b d =
    let p = and_parts (all_different a) (all_different b && list_all (λ x. not (is_in x b)) a) (sym (different-append a b) ∙ d) in
    let q = and_parts (all_different b) (list_all (λ x. not (is_in x b)) a) p.1 in
    record { first = p.0; second = q.0; apart = q.1 }

different-from : (a b : List ℕ) → all_different a ≡ true → all_different b ≡ true → list_all (λ x. not (is_in x b)) a ≡ true → all_different (a ++ b) ≡ true
different-from a b d e n = different-both a b d e (apart-new a b n)

-- of names and two lists after them, the names and either list
different_arms : (known a b : List ℕ) → all_different (known ++ (a ++ b)) ≡ true → (all_different (known ++ a) ≡ true) × (all_different (known ++ b) ≡ true)
different_arms known a b d =
    let p = different_parts known (a ++ b) d in
    let q = different_parts a b p.second in
    let r = and_parts (list_all (λ x. not (is_in x a)) known) (list_all (λ x. not (is_in x b)) known) (sym (new-append known a b) ∙ p.apart) in
    (different-from known a p.first q.first r.0, different-from known b p.first q.second r.1)

-- ---- one step more

value-step : (of : Names) (above known xs : List ℕ) → Scope of above known → AreNew xs known → all_different xs ≡ true → Scope of (above ++ xs) (known ++ xs)
value-step of above known xs s n d = record {
  copies = λ z h.
      ⊎_elim
      (λ (e : is_in z known ≡ true). in-left (of z) above xs (s.copies z e))
      (λ (e : is_in z xs ≡ true). in-right (of z) above xs (subst (λ w. is_in w xs ≡ true) (sym (s.fresh z (n z e))) e))
      (or_cases (is_in z known) (is_in z xs) (sym (in-append z known xs) ∙ h));
  fresh = λ z h. s.fresh z ((or_parts (is_in z known) (is_in z xs) (sym (in-append z known xs) ∙ h)).0);
  within = λ z h.
      ⊎_elim
      (λ (e : is_in z above ≡ true). in-left z known xs (s.within z e))
      (λ (e : is_in z xs ≡ true). in-right z known xs e)
      (or_cases (is_in z above) (is_in z xs) (sym (in-append z above xs) ∙ h));
  different = different-both above xs s.different d (λ z i. false_from_ne_true (is_in z above) (λ e. false≢true (sym (n z i) ∙ s.within z e)));
}

clone-at : (b : Bool) (of : Names) (above known xs : List ℕ) (y z : ℕ) → is_in z xs ≡ b → is_in (of y) above ≡ true → (is_in z known ≡ true → is_in (of z) above ≡ true) → (is_in z known || is_in z xs) ≡ true → is_in (if b then of y else of z) above ≡ true
clone-at true of above known xs y z e i f h = i
clone-at false of above known xs y z e i f h =
    f (⊎_elim (λ (k : is_in z known ≡ true). k) (λ (k : is_in z xs ≡ true). absurd (false≢true (sym e ∙ k))) (or_cases (is_in z known) (is_in z xs) h))

clone-step : (of : Names) (above known xs : List ℕ) (y : ℕ) → Scope of above known → is_in y known ≡ true → Scope (names_after of (Clone xs y)) above (known ++ xs)
clone-step of above known xs y s i = record {
  copies = λ z h. clone-at (is_in z xs) of above known xs y z refl (s.copies y i) (s.copies z) (sym (in-append z known xs) ∙ h);
  fresh = λ z h.
      let p = or_parts (is_in z known) (is_in z xs) (sym (in-append z known xs) ∙ h) in
      ap (λ b. if b then of y else of z) p.1 ∙ s.fresh z p.0;
  within = λ z h. in-left z known xs (s.within z h);
  different = s.different;
}

scope-same : (of : Names) (a b k l : List ℕ) → a ≡ b → k ≡ l → Scope of a k → Scope of b l
scope-same of a b k l e f s = let P : List ℕ → Type 0 = λ c. Scope of c l in let Q : List ℕ → Type 0 = λ c. Scope of a c in subst P e (subst Q f s)

nil-successors : (a : List ℕ) → a ≡ a ++ []
nil-successors a = sym (append-nil a)

pub scope_step : (of : Names) (above known : List ℕ) (s : Step) → Scope of above known → all_known known (step_names s) ≡ true → AreNew (step_values s) known → all_different (step_values s) ≡ true
    → Scope (names_after of s) (above ++ step_values s) (known ++ step_defs s)
scope_step of above known (Lit x v) s k n d = value-step of above known (x ∷ []) s n d
scope_step of above known (Una x op y) s k n d = value-step of above known (x ∷ []) s n d
scope_step of above known (Bin x op y z) s k n d = value-step of above known (x ∷ []) s n d
scope_step of above known (Clone xs y) s k n d =
    scope-same (names_after of (Clone xs y)) above (above ++ []) (known ++ xs) (known ++ xs) (nil-successors above) refl
    (clone-step of above known xs y s ((and_parts (is_in y known) true k).0))
scope_step of above known (Read m xs y) s k n d =
    scope-same of (above ++ xs) (above ++ xs) (known ++ xs) (known ++ (xs ++ [])) refl (ap (λ l. known ++ l) (nil-successors xs)) (value-step of above known xs s n d)
scope_step of above known (Write m y xs) s k n d = scope-same of above (above ++ []) known (known ++ []) (nil-successors above) (nil-successors known) s

-- ---- the points of a tree

pub uses-named : (s : Step) (x : ℕ) → is_in x (step_uses s) ≡ true → is_in x (step_names s) ≡ true
uses-named (Lit x v) z h = h
uses-named (Una x op y) z h = h
uses-named (Bin x op y w) z h = h
uses-named (Clone xs y) z h = absurd (false≢true h)
uses-named (Read m xs y) z h = h
uses-named (Write m y xs) z h = h

-- values of known names are held where the names are used
known_held : (of : Names) (above known xs : List ℕ) (t : Tree) → Scope of above known → all_known known xs ≡ true → ((v : ℕ) → is_in v (map of xs) ≡ true → is_in v (used of t) ≡ true) → Within (map of xs) (live_of of above t)
known_held of above known xs t s k u v i =
    let d = image_at of xs v i in
    let a : is_in v above ≡ true = subst (λ w. is_in w above ≡ true) d.is (s.copies d.it (all_at (λ z. is_in z known) xs d.it k d.among)) in
    live_in of above t v a (u v i)

live_of-different : (of : Names) (above known : List ℕ) (t : Tree) → Scope of above known → all_different (live_of of above t) ≡ true
live_of-different of above known t s = filter-different (λ x. is_in x (used of t)) above s.different

later-do : (of : Names) (above : List ℕ) (s : Step) (t : Tree) → Within (live_of (names_after of s) (above ++ step_values s) t) (live_of of above (Do s t) ++ step_values s)
later-do of above s t v h =
    let p = held_from (names_after of s) (above ++ step_values s) t v h in
    ⊎_elim
    (λ (e : is_in v above ≡ true). in-left v (live_of of above (Do s t)) (step_values s) (live_in of above (Do s t) v e (in-right v (map of (step_uses s)) (used (names_after of s) t) p.1)))
    (λ (e : is_in v (step_values s) ≡ true). in-right v (live_of of above (Do s t)) (step_values s) e)
    (or_cases (is_in v above) (is_in v (step_values s)) (sym (in-append v above (step_values s)) ∙ p.0))

in-union : (v : ℕ) (a b : List ℕ) → is_in v (union a b) ≡ true → (is_in v a || is_in v b) ≡ true
in-union v a b h =
    ⊎_elim
    (λ (e : is_in v a ≡ true). or_left (is_in v a) (is_in v b) e)
    (λ (e : is_in v (without b a) ≡ true). or_right (is_in v a) (is_in v b) ((and_parts (is_in v b) (not (is_in v a)) (sym (in-without v b a) ∙ e)).0))
    (or_cases (is_in v a) (is_in v (without b a)) (sym (in-append v a (without b a)) ∙ h))

arm-used : (of : Names) (c : Cmp) (x y : ℕ) (t u : Tree) (v : ℕ) → is_in v (used of t ++ used of u) ≡ true → is_in v (used of (If c x y t u)) ≡ true
arm-used of c x y t u v h = in-right v (of x ∷ of y ∷ []) (used of t ++ used of u) h

later-if : (of : Names) (above : List ℕ) (c : Cmp) (x y : ℕ) (t u : Tree) → Within (union (live_of of above t) (live_of of above u)) (live_of of above (If c x y t u) ++ [])
later-if of above c x y t u v h =
    in-left v (live_of of above (If c x y t u)) []
    (⊎_elim
    (λ (e : is_in v (live_of of above t) ≡ true).
    let p = held_from of above t v e in
    live_in of above (If c x y t u) v p.0 (arm-used of c x y t u v (in-left v (used of t) (used of u) p.1)))
    (λ (e : is_in v (live_of of above u) ≡ true).
    let p = held_from of above u v e in
    live_in of above (If c x y t u) v p.0 (arm-used of c x y t u v (in-right v (used of t) (used of u) p.1)))
    (or_cases (is_in v (live_of of above t)) (is_in v (live_of of above u)) (in-union v (live_of of above t) (live_of of above u) h)))

shifted : (known v c d : List ℕ) → known ++ (v ++ (c ++ d)) ≡ (known ++ (v ++ c)) ++ d
shifted known v c d = ap (λ l. known ++ l) (sym (append_assoc v c d)) ∙ sym (append_assoc known (v ++ c) d)

pub tree_held : (of : Names) (above known : List ℕ) (t : Tree) → Scope of above known → is_scoped known t ≡ true → all_different (known ++ defined t) ≡ true → All IsLive (tree_points of above t)
tree_held of above known (Do s t) sc h d =
    let p = and_parts (all_known known (step_names s)) (is_scoped (known ++ step_defs s) t) h in
    let q = different_parts known (step_values s ++ (step_clones s ++ defined t)) d in
    let r = different_parts (step_values s) (step_clones s ++ defined t) q.second in
    let n = and_parts (list_all (λ x. not (is_in x (step_values s))) known) (list_all (λ x. not (is_in x (step_clones s ++ defined t))) known) (sym (new-append known (step_values s) (step_clones s ++ defined t)) ∙ q.apart) in
    let next = scope_step of above known s sc p.0 (apart-new known (step_values s) n.0) r.first in
    let k : all_known known (step_uses s) ≡ true = all_from (λ z. is_in z known) (step_uses s) (λ x i. all_at (λ z. is_in z known) (step_names s) x p.0 (uses-named s x i)) in
    All-cons IsLive _ (tree_points (names_after of s) (above ++ step_values s) t)
    (record {
      uses = known_held of above known (step_uses s) (Do s t) sc k (λ v i. in-left v (map of (step_uses s)) (used (names_after of s) t) i);
      different = live_of-different of above known (Do s t) sc;
      later = later-do of above s t;
    })
    (tree_held (names_after of s) (above ++ step_values s) (known ++ step_defs s) t next p.1 (ap all_different (sym (shifted known (step_values s) (step_clones s) (defined t))) ∙ d))
tree_held of above known (If c x y t u) sc h d =
    let p = and_parts (all_known known (x ∷ y ∷ [])) (is_scoped known t && is_scoped known u) h in
    let q = and_parts (is_scoped known t) (is_scoped known u) p.1 in
    let r = different_arms known (defined t) (defined u) d in
    All-cons IsLive _ (tree_points of above t ++ tree_points of above u)
    (record {
      uses = known_held of above known (x ∷ y ∷ []) (If c x y t u) sc p.0 (λ v i. in-left v (of x ∷ of y ∷ []) (used of t ++ used of u) i);
      different = live_of-different of above known (If c x y t u) sc;
      later = later-if of above c x y t u;
    })
    (All-append IsLive (tree_points of above t) (tree_points of above u) (tree_held of above known t sc q.0 r.0) (tree_held of above known u sc q.1 r.1))
tree_held of above known (End l) sc h d =
    All-cons IsLive _ []
    (record {
      uses = known_held of above known (last_uses l) (End l) sc h (λ v i. i);
      different = live_of-different of above known (End l) sc;
      later = λ v i. absurd (false≢true i);
    })
    (All-nil IsLive)

-- ---- the points of labels

pub entry_scope : (params : List ℕ) → all_different params ≡ true → Scope own params params
entry_scope params d = record { copies = λ z h. h; fresh = λ z h. refl; within = λ z h. h; different = d }

label_held : (k : ℕ) (l : Label) → is_scoped l.params l.body ≡ true → all_different (l.params ++ defined l.body) ≡ true → All IsLive (label_points k l)
label_held k l h d =
    let p = different_parts l.params (defined l.body) d in
    All-cons IsLive _ (tree_points own l.params l.body)
    (record {
      uses = λ v i. absurd (false≢true i);
      different = p.first;
      later = λ v i. in-left v l.params l.params ((held_from own l.params l.body v i).0);
    })
    (tree_held own l.params l.params l.body (entry_scope l.params p.first) h d)

labels_held : (labels : List Label) (k : ℕ) (ls : List Label) → list_all (is_single labels) ls ≡ true → all_different (all_defined ls) ≡ true → All IsLive (points_from k ls)
labels_held labels k [] h d = All-nil IsLive
labels_held labels k (l ∷ ls) h d =
    let p = and_parts (is_single labels l) (list_all (is_single labels) ls) h in
    let s = single_label_parts labels l p.0 in
    let q = different_parts (l.params ++ defined l.body) (all_defined ls) (ap all_different (append_assoc l.params (defined l.body) (all_defined ls)) ∙ d) in
    All-append IsLive (label_points k l) (points_from (suc k) ls) (label_held k l s.scoped q.first) (labels_held labels (suc k) ls p.1 q.second)

pub points_held : (labels : List Label) → single labels ≡ true → All IsLive (points labels)
points_held labels h =
    let p = and_parts (is_entry (slice_get labels 0)) (all_different (all_defined labels) && list_all (is_single labels) labels) h in
    let q = and_parts (all_different (all_defined labels)) (list_all (is_single labels) labels) p.1 in
    labels_held labels 0 labels q.1 q.0

-- The parallel moves of a form can be put in sequence: each goes to a place of its own, and none touches the compiler's own register.
use Rattle.std.proofs.Common.{◌≡◌, ◌≢◌, ℕ, zero, suc, ◌+◌, ◌<◌, ◌≤◌, nat_eq, nat_le, true, not, ◌||◌, List, [], ◌∷◌, ◌++◌, map, length, Option, Some, None, All, refl, sym, ap, ◌∙◌, subst, ⊎_elim, slice_get, arith}
use Rattle.std.specs.List.{AllByRecursion, list_any}
use Rattle.std.proofs.lemmas.Bool.{and_parts, or_cases, or_right, not-true, false≢true, eqb-true, leb-true}
use Rattle.std.proofs.lemmas.List.Elements.{All-from_recursion, recursion_from_All, All-nil, All-cons}
use Rattle.std.proofs.lemmas.Option.{none-some, same_Some}
use Rattle.nv_base.specs.declared.term.Mem.{Mem}
use Rattle.nv_base.specs.declared.term.Mem.TheVariants.{Sram, Sdram, Scratch}
use Rattle.nv_base.specs.Sets.{is_in, all_different}
use Rattle.ssu_ir.specs.Tree.{Last, Jump, Halt, Tree, Do, If, End, Label, Ends, step_values, last_uses}
use Rattle.ssu_ir.specs.Single.{takes_as_many}
use Rattle.ssu_ir.specs.Points.{Names, own, names_after, Point, points, points_from, point, live_of, nodes, tree_points}
use Rattle.ssu_ir.proofs.Lists.{some-there}
use Rattle.place_plan.specs.declared.place.Place.{Place}
use Rattle.place_plan.specs.declared.place.Place.TheVariants.{A, L, LD}
use Rattle.place_plan.specs.Places.{same_place}
use Rattle.place_plan.specs.Plan.{Plan, home, serve}
use Rattle.place_plan.specs.Uses.{Role, Argument, Ending, roles, place_roles, Use, uses_at, uses_from, uses}
use Rattle.place_plan.specs.Fits.{read_place, is_write_register, word_register, is_home, label_param, param_at, parameter, IsServed}
use Rattle.place_plan.proofs.Places.{same_place-true, same_place-from}
use Rattle.ucode_emit.specs.Moves.{Move, temporary, HaveOwnTargets, SpareTemporary}
use Rattle.ucode_emit.specs.Pieces.{served_moves, entry_moves, last_moves, tree_moves, moves_from, parallel_moves}
use Rattle.ucode_emit.specs.inner.Layers.{Placed}
use Rattle.ucode_emit.proofs.PointsEach.{EachFrom, each_here, each_left, each_right, all_left, all_right, all_both}
use Rattle.ucode_emit.proofs.PointsTree.{arms_at}
use Rattle.ucode_emit.proofs.PointsLabels.{formed_at}
use Rattle.ucode_emit.proofs.PointsUses.{at_in, each_there}
use Rattle.ucode_emit.proofs.PointsUsed.{used_at_point}
use Rattle.ucode_emit.proofs.DefinitionsHomes.{early_register, Settled, in_general, put_early, fetched_to, settled_above, Target, fill, word, targets}
use Rattle.ucode_emit.proofs.DefinitionsReady.{early_use}
use Rattle.ucode_emit.proofs.Entries.{param_home, param_general, params_apart, params_differ, few_params, general_no_temporary}

-- ---- moves with targets of their own

abbrev pub Good : List Move → Type 0
Good ms = HaveOwnTargets ms × SpareTemporary ms

abbrev pub Spares : Move → Type 0
Spares m = (m.0 ≢ temporary) × (m.1 ≢ temporary)

own_nil : HaveOwnTargets []
own_nil i j d a b = absurd (omega arith)

own_cons : (m : Move) (ms : List Move) → All (λ n. m.1 ≢ n.1) ms → HaveOwnTargets ms → HaveOwnTargets (m ∷ ms)
own_cons m ms h g zero zero d a b = absurd (omega arith)
own_cons m ms h g zero (suc j) d a b = h j d (omega arith)
own_cons m ms h g (suc i) zero d a b = absurd (omega arith)
own_cons m ms h g (suc i) (suc j) d a b = g i j d (omega arith) (omega arith)

good_nil : Good []
good_nil = (own_nil, All-nil Spares)

good_cons : (m : Move) (ms : List Move) → AllByRecursion (λ n. m.1 ≢ n.1) ms → Spares m → Good ms → Good (m ∷ ms)
good_cons m ms h s g = (own_cons m ms (All-from_recursion (λ n. m.1 ≢ n.1) ms h) g.0, All-cons Spares m ms s g.1)

-- ---- places that aren't the compiler's own register

write_spare : (r : Place) → is_write_register r ≡ true → r ≡ temporary → ⊥
write_spare r h e = false≢true (sym (ap is_write_register e) ∙ h)

read_spare : (m : Mem) (k : ℕ) → read_place m k ≡ temporary → ⊥
read_spare Sram k e = false≢true (same_place-from (L k) temporary e)
read_spare Sdram k e = false≢true (same_place-from (LD k) temporary e)
read_spare Scratch k e = false≢true (same_place-from (L k) temporary e)

target_spare : (labels : List Label) (p : Plan) (y : ℕ) (r : Place) → Placed labels p → Target labels p y r → r ≡ temporary → ⊥
target_spare labels p y r h (fill g) e = general_no_temporary p r g e
target_spare labels p y r h (word u d same) e = write_spare (word_register p u) (early_register labels p d.place u h d.there d.early) (sym same ∙ e)

defined_spare : (labels : List Label) (p : Plan) (x : ℕ) → Placed labels p → Settled labels p x → (home p x).defined ≡ temporary → ⊥
defined_spare labels p x h (in_general g c) e = general_no_temporary p (home p x).defined g e
defined_spare labels p x h (put_early g) e =
    let d = early_use labels p x g in
    write_spare (word_register p g.use_) (early_register labels p d.place g.use_ h d.there d.early) (sym g.at ∙ e)
defined_spare labels p x h (fetched_to m k d c) e = read_spare m k (sym d ∙ e)

pub home_spare : (labels : List Label) (p : Plan) (x : ℕ) (r : Place) → Placed labels p → Settled labels p x → is_home p x r ≡ true → r ≡ temporary → ⊥
home_spare labels p x r h s i e =
    let d = and_parts (not (is_write_register r)) (same_place r (home p x).defined || list_any (same_place r) (home p x).copied) i in
    ⊎_elim
    (λ (k : same_place r (home p x).defined ≡ true). defined_spare labels p x h s (sym (same_place-true r (home p x).defined k) ∙ e))
    (λ (k : list_any (same_place r) (home p x).copied ≡ true). target_spare labels p x r h (targets labels p x r s k) e)
    (or_cases (same_place r (home p x).defined) (list_any (same_place r) (home p x).copied) d.1)

-- ---- moves of served operands

-- each of the first operands is served so that its move can stand
pub record ServedWell (p : Plan) (n count : ℕ) : Type 0 where
  pub spares : (j : ℕ) → j < count → Spares ((serve p n j).from, (serve p n j).at)
  pub apart : (i j : ℕ) → i < j → j < count → (serve p n i).at ≢ (serve p n j).at

served_apart : (p : Plan) (n count i j m : ℕ) → ServedWell p n count → i < j → j + m ≤ count → AllByRecursion (λ k. (serve p n i).at ≢ k.1) (served_moves p n j m)
served_apart p n count i j zero h a b = tt
served_apart p n count i j (suc m) h a b = (h.apart i j a (omega arith), served_apart p n count i (suc j) m h (omega arith) (omega arith))

served_good : (p : Plan) (n count i m : ℕ) → ServedWell p n count → i + m ≤ count → Good (served_moves p n i m)
served_good p n count i zero h b = good_nil
served_good p n count i (suc m) h b =
    good_cons ((serve p n i).from, (serve p n i).at) (served_moves p n (suc i) m) (served_apart p n count i (suc i) m h (omega arith) (omega arith)) (h.spares i (omega arith))
    (served_good p n count (suc i) m h (omega arith))

-- ---- how the operands of a point are served

pub uses_each : (P : Use → Type 0) (n : ℕ) (qs : List Point) → AllByRecursion P (uses_from n qs) → EachFrom (λ j r. AllByRecursion P (uses_at j 0 r.uses (place_roles r.place))) n qs
uses_each P n [] h = tt
uses_each P n (q ∷ qs) h = (
  all_left P (uses_at n 0 q.uses (place_roles q.place)) (uses_from (suc n) qs) h,
  uses_each P (suc n) qs (all_right P (uses_at n 0 q.uses (place_roles q.place)) (uses_from (suc n) qs) h),
)

served_uses : (labels : List Label) (p : Plan) (k : ℕ) (q : Point) → Placed labels p → slice_get (points labels) k ≡ Some q → AllByRecursion (IsServed labels p) (uses_at k 0 q.uses (place_roles q.place))
served_uses labels p k q h e =
    each_here (λ j r. AllByRecursion (IsServed labels p) (uses_at j 0 r.uses (place_roles r.place))) (points labels) k q
    (uses_each (IsServed labels p) 0 (points labels) (recursion_from_All (IsServed labels p) (uses labels) h.fits.uses)) e

pub role_at : (P : Use → Type 0) (k : ℕ) (of : Names) (role : ℕ → Role) (i a : ℕ) (xs : List ℕ) (j x : ℕ) → AllByRecursion P (uses_at k i (map of xs) (roles role a xs)) → slice_get xs j ≡ Some x
    → P (record { point = k; operand = i + j; value = of x; role = role (a + j) })
role_at P k of role i a [] j x h e = absurd (none-some x e)
role_at P k of role i a (y ∷ xs) zero x h e =
    let z : i ≡ i + zero = omega arith in
    let w : a ≡ a + zero = omega arith in
    let it = subst (λ v. P (record { point = k; operand = i; value = of v; role = role a })) (same_Some y x e) h.0 in
    subst (λ n. P (record { point = k; operand = n; value = of x; role = role (a + zero) })) z (subst (λ n. P (record { point = k; operand = i; value = of x; role = role n })) w it)
role_at P k of role i a (y ∷ xs) (suc j) x h e =
    let z : suc i + j ≡ i + suc j = omega arith in
    let w : suc a + j ≡ a + suc j = omega arith in
    let it = role_at P k of role (suc i) (suc a) xs j x h.1 e in
    subst (λ n. P (record { point = k; operand = n; value = of x; role = role (a + suc j) })) z (subst (λ n. P (record { point = k; operand = suc i + j; value = of x; role = role n })) w it)

-- the operand of this number
pub use_here : (labels : List Label) (p : Plan) (k : ℕ) (q : Point) (of : Names) (role : ℕ → Role) (xs : List ℕ) (j x : ℕ) → Placed labels p → slice_get (points labels) k ≡ Some q → q.uses ≡ map of xs → place_roles q.place ≡ roles role 0 xs
    → slice_get xs j ≡ Some x → IsServed labels p (record { point = k; operand = j; value = of x; role = role j })
use_here labels p k q of role xs j x h e u r g =
    let a = subst (λ us. AllByRecursion (IsServed labels p) (uses_at k 0 us (place_roles q.place))) u (served_uses labels p k q h e) in
    let b = subst (λ rs. AllByRecursion (IsServed labels p) (uses_at k 0 (map of xs) rs)) r a in
    let z : 0 + j ≡ j = omega arith in
    subst (λ n. IsServed labels p (record { point = k; operand = n; value = of x; role = role n })) z (role_at (IsServed labels p) k of role 0 0 xs j x b g)

pub map_get : (of : Names) (xs : List ℕ) (j x : ℕ) → slice_get xs j ≡ Some x → slice_get (map of xs) j ≡ Some (of x)
map_get of [] j x e = absurd (none-some x e)
map_get of (y ∷ xs) zero x e = ap (λ z. Some (of z)) (same_Some y x e)
map_get of (y ∷ xs) (suc j) x e = map_get of xs j x e

-- a value that is used at a point
pub used_settled : (labels : List Label) (p : Plan) (k : ℕ) (q : Point) (y : ℕ) → Placed labels p → slice_get (points labels) k ≡ Some q → is_in y q.uses ≡ true → Settled labels p y
used_settled labels p k q y h e i = settled_above labels p k q y h e ((formed_at labels k q h.single e).uses y i) (used_at_point labels k q e y i)

-- ---- jumps

pub record JumpTarget (labels : List Label) (l count : ℕ) : Type 0 where
  pub it : Label
  pub there : slice_get labels l ≡ Some it
  pub as_many : length it.params ≡ count

jump_target : (labels : List Label) (l count : ℕ) (o : Option Label) → slice_get labels l ≡ o → takes_as_many count o ≡ true → JumpTarget labels l count
jump_target labels l count (Some it) e h = record { it = it; there = e; as_many = eqb-true (length it.params) count h }
jump_target labels l count None e h = absurd (false≢true h)

pub param_is : (labels : List Label) (l : ℕ) (it : Label) (j x : ℕ) → slice_get labels l ≡ Some it → slice_get it.params j ≡ Some x → parameter labels l j ≡ x
param_is labels l it j x e f = ap (λ o. label_param o j) e ∙ ap param_at f

different_at : (xs : List ℕ) (i j x y : ℕ) → all_different xs ≡ true → i < j → slice_get xs i ≡ Some x → slice_get xs j ≡ Some y → x ≡ y → ⊥
different_at [] i j x y d a e f s = none-some x e
different_at (z ∷ xs) zero zero x y d a e f s = omega arith
different_at (z ∷ xs) zero (suc j) x y d a e f s =
    let p = and_parts (not (is_in z xs)) (all_different xs) d in
    false≢true (sym (not-true (is_in z xs) p.0) ∙ (ap (λ w. is_in w xs) (same_Some z x e ∙ s) ∙ at_in y xs j f))
different_at (z ∷ xs) (suc i) zero x y d a e f s = omega arith
different_at (z ∷ xs) (suc i) (suc j) x y d a e f s =
    let p = and_parts (not (is_in z xs)) (all_different xs) d in
    different_at xs i j x y p.1 (omega arith) e f s

pub jump_served : (labels : List Label) (p : Plan) (k : ℕ) (of : Names) (above : List ℕ) (l : ℕ) (xs : List ℕ) (q : Point) → Placed labels p → slice_get (points labels) k ≡ Some q → q.uses ≡ map of xs → place_roles q.place ≡ roles (Argument l) 0 xs
    → JumpTarget labels l (length xs) → ServedWell p k (length xs)
jump_served labels p k of above l xs q h e u r t =
    record {
      spares = λ j n.
          let x = some-there xs j n in
          let y = some-there t.it.params j (let m : length t.it.params ≡ length xs = t.as_many in omega arith) in
          let s = use_here labels p k q of (Argument l) xs j x.0 h e u r x.1 in
          let used = ap (is_in (of x.0)) u ∙ at_in (of x.0) (map of xs) j (map_get of xs j x.0 x.1) in
          let at : (serve p k j).at ≡ (home p y.0).defined = s.1 ∙ ap (λ z. (home p z).defined) (param_is labels l t.it j y.0 t.there y.1) in (
            home_spare labels p (of x.0) (serve p k j).from h (used_settled labels p k q (of x.0) h e used) s.0,
            λ c. general_no_temporary p (home p y.0).defined (param_home labels p l t.it j y.0 h t.there y.1).0 (sym at ∙ c),
          );
      apart = λ i j a n same.
          let m : length t.it.params ≡ length xs = t.as_many in
          let xi = some-there xs i (omega arith) in
          let xj = some-there xs j n in
          let yi = some-there t.it.params i (omega arith) in
          let yj = some-there t.it.params j (omega arith) in
          let si = use_here labels p k q of (Argument l) xs i xi.0 h e u r xi.1 in
          let sj = use_here labels p k q of (Argument l) xs j xj.0 h e u r xj.1 in
          let at_i : (serve p k i).at ≡ (home p yi.0).defined = si.1 ∙ ap (λ z. (home p z).defined) (param_is labels l t.it i yi.0 t.there yi.1) in
          let at_j : (serve p k j).at ≡ (home p yj.0).defined = sj.1 ∙ ap (λ z. (home p z).defined) (param_is labels l t.it j yj.0 t.there yj.1) in
          params_apart labels p l t.it yi.0 yj.0 h t.there (at_in yi.0 t.it.params i yi.1) (at_in yj.0 t.it.params j yj.1)
          (different_at t.it.params i j yi.0 yj.0 (params_differ labels p l t.it h t.there) a yi.1 yj.1) (sym at_i ∙ (same ∙ at_j));
    }

-- ---- ends

a_same : (i j : ℕ) → A i ≡ A j → i ≡ j
a_same i j e = eqb-true i j (same_place-from (A i) (A j) e)

pub halt_served : (labels : List Label) (p : Plan) (k : ℕ) (of : Names) (xs : List ℕ) (q : Point) → Placed labels p → slice_get (points labels) k ≡ Some q → q.uses ≡ map of xs → place_roles q.place ≡ roles Ending 0 xs → length xs ≤ 8
    → ServedWell p k (length xs)
halt_served labels p k of xs q h e u r few =
    record {
      spares = λ j n.
          let x = some-there xs j n in
          let s = use_here labels p k q of Ending xs j x.0 h e u r x.1 in
          let used = ap (is_in (of x.0)) u ∙ at_in (of x.0) (map of xs) j (map_get of xs j x.0 x.1) in (
            home_spare labels p (of x.0) (serve p k j).from h (used_settled labels p k q (of x.0) h e used) s.0,
            λ c. let z : j ≡ 15 = a_same j 15 (sym s.1 ∙ c) in absurd (omega arith),
          );
      apart = λ i j a n same.
          let xi = some-there xs i (omega arith) in
          let xj = some-there xs j n in
          let si = use_here labels p k q of Ending xs i xi.0 h e u r xi.1 in
          let sj = use_here labels p k q of Ending xs j xj.0 h e u r xj.1 in
          let z : i ≡ j = a_same i j (sym si.1 ∙ (same ∙ sj.1)) in
          absurd (omega arith);
    }

last_good : (labels : List Label) (p : Plan) (k : ℕ) (of : Names) (above : List ℕ) (l : Last) → Placed labels p → slice_get (points labels) k ≡ Some (point of (Ends l) above (last_uses l) 0 (live_of of above (End l)) []) → Good (last_moves p k l)
last_good labels p k of above (Jump l xs) h e =
    let q = point of (Ends (Jump l xs)) above xs 0 (live_of of above (End (Jump l xs))) [] in
    let f = (formed_at labels k q h.single e).fits in
    let b = and_parts (nat_le 1 l) (takes_as_many (length xs) (slice_get labels l)) f in
    served_good p k (length xs) 0 (length xs) (jump_served labels p k of above l xs q h e refl refl (jump_target labels l (length xs) (slice_get labels l) refl b.1)) (omega arith)
last_good labels p k of above (Halt c xs) h e =
    let q = point of (Ends (Halt c xs)) above xs 0 (live_of of above (End (Halt c xs))) [] in
    let f = (formed_at labels k q h.single e).fits in
    served_good p k (length xs) 0 (length xs) (halt_served labels p k of xs q h e refl refl (leb-true (length xs) 8 f)) (omega arith)

-- ---- the whole

abbrev Stand : List Label → ℕ → Point → Type 0
Stand labels j r = slice_get (points labels) j ≡ Some r

tree_good : (labels : List Label) (p : Plan) (of : Names) (above : List ℕ) (t : Tree) (n : ℕ) → Placed labels p → EachFrom (Stand labels) n (tree_points of above t) → AllByRecursion Good (tree_moves p n t)
tree_good labels p of above (Do s t) n h e = (good_nil, tree_good labels p (names_after of s) (above ++ step_values s) t (suc n) h e.1)
tree_good labels p of above (If c x y t u) n h e = (
  good_nil,
  all_both Good (tree_moves p (suc n) t) (tree_moves p (suc n + nodes t) u)
      (tree_good labels p of above t (suc n) h (each_left (Stand labels) (suc n) (tree_points of above t) (tree_points of above u) e.1))
      (tree_good labels p of above u (suc n + nodes t) h (each_right (Stand labels) (suc n) (suc n + nodes t) (tree_points of above t) (tree_points of above u) (arms_at of above t (suc n)) e.1)),
)
tree_good labels p of above (End l) n h e = (last_good labels p n of above l h e.0, tt)

entry_apart : (p : Plan) (x i : ℕ) (xs : List ℕ) → ((y : ℕ) → is_in y xs ≡ true → (home p x).defined ≢ (home p y).defined) → AllByRecursion (λ k. (home p x).defined ≢ k.1) (entry_moves p i xs)
entry_apart p x i [] h = tt
entry_apart p x i (y ∷ xs) h = (h y (at_in y (y ∷ xs) zero refl), entry_apart p x (suc i) xs (λ z j. h z (or_right (nat_eq z y) (is_in z xs) j)))

entry_good : (p : Plan) (i : ℕ) (xs : List ℕ) → i + length xs ≤ 8 → all_different xs ≡ true → ((x : ℕ) → is_in x xs ≡ true → (home p x).defined ≢ temporary)
    → ((x y : ℕ) → is_in x xs ≡ true → is_in y xs ≡ true → (x ≡ y → ⊥) → (home p x).defined ≡ (home p y).defined → ⊥) → Good (entry_moves p i xs)
entry_good p i [] n d g a = good_nil
entry_good p i (x ∷ xs) n d g a =
    let q = and_parts (not (is_in x xs)) (all_different xs) d in
    let emit_context : is_in x (x ∷ xs) ≡ true = at_in x (x ∷ xs) zero refl in
    good_cons (A i, (home p x).defined) (entry_moves p (suc i) xs)
    (entry_apart p x (suc i) xs
    (λ y j. a x y emit_context (or_right (nat_eq y x) (is_in y xs) j) (λ s. false≢true (sym (not-true (is_in x xs) q.0) ∙ subst (λ v. is_in v xs ≡ true) (sym s) j))))
    (λ c. let z : i ≡ 15 = a_same i 15 c in absurd (omega arith), g x emit_context)
    (entry_good p (suc i) xs (omega arith) q.1 (λ y j. g y (or_right (nat_eq y x) (is_in y xs) j)) (λ y z j k. a y z (or_right (nat_eq y x) (is_in y xs) j) (or_right (nat_eq z x) (is_in z xs) k)))

-- labels after the first have no moves at their entries
rest_good : (labels : List Label) (p : Plan) (n k : ℕ) (ls : List Label) → Placed labels p → EachFrom (Stand labels) (suc n) (points_from k ls) → AllByRecursion Good (moves_from p (suc n) ls)
rest_good labels p n k [] h e = tt
rest_good labels p n k (l ∷ ls) h e =
    let ts = tree_points own l.params l.body in
    let us = points_from (suc k) ls in
    let m = suc (suc n) in
    let far : suc (suc n + nodes l.body) ≡ suc (suc n) + nodes l.body = omega arith in
    let behind : EachFrom (Stand labels) (suc (suc n + nodes l.body)) us = subst (λ j. EachFrom (Stand labels) j us) (sym far) (each_right (Stand labels) m (m + nodes l.body) ts us (arms_at own l.params l.body m) e.1) in (
      good_nil,
      all_both Good (tree_moves p m l.body) (moves_from p (suc (suc n) + nodes l.body) ls)
          (tree_good labels p own l.params l.body m h (each_left (Stand labels) m ts us e.1))
          (subst (λ j. AllByRecursion Good (moves_from p j ls)) far (rest_good labels p (suc n + nodes l.body) (suc k) ls h behind)),
    )

all_good : (labels : List Label) (p : Plan) (ls : List Label) → Placed labels p → labels ≡ ls → EachFrom (Stand labels) 0 (points_from 0 ls) → AllByRecursion Good (moves_from p 0 ls)
all_good labels p [] h same e = tt
all_good labels p (l ∷ ls) h same e =
    let ts = tree_points own l.params l.body in
    let us = points_from 1 ls in
    let far : suc (0 + nodes l.body) ≡ 1 + nodes l.body = omega arith in
    let there : slice_get labels 0 ≡ Some l = ap (λ k. slice_get k 0) same in
    let few : length l.params ≤ 8 = few_params labels p l h there in
    let behind : EachFrom (Stand labels) (suc (0 + nodes l.body)) us = subst (λ j. EachFrom (Stand labels) j us) (sym far) (each_right (Stand labels) 1 (1 + nodes l.body) ts us (arms_at own l.params l.body 1) e.1) in (
      entry_good p 0 l.params (omega arith) (params_differ labels p 0 l h there)
          (λ x i c. general_no_temporary p (home p x).defined (param_general labels p 0 l x h there i).0 c)
          (λ x y i j. params_apart labels p 0 l x y h there i j),
      all_both Good (tree_moves p 1 l.body) (moves_from p (1 + nodes l.body) ls)
          (tree_good labels p own l.params l.body 1 h (each_left (Stand labels) 1 ts us e.1))
          (subst (λ j. AllByRecursion Good (moves_from p j ls)) far (rest_good labels p (0 + nodes l.body) 1 ls h behind)),
    )

pub sequenced : (labels : List Label) (p : Plan) → Placed labels p → All (λ moves. HaveOwnTargets moves × SpareTemporary moves) (parallel_moves p labels)
sequenced labels p h = All-from_recursion Good (parallel_moves p labels) (all_good labels p labels h refl (each_there (points labels)))

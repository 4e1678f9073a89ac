-- steps of a walk: which subtrees wait, and that the columns on the stack are those that are fixed
use Rattle.std.proofs.Common.{◌≡◌, ◌≢◌, ℕ, zero, suc, ◌+◌, ◌*◌, ◌-◌, ◌<◌, ◌≤◌, List, [], ◌∷◌, length, set, drop, get_or, Bool, true, false, Option, Some, None, slice_get, refl, sym, ◌∙◌, ap, subst, arith, inl, inr, ◌⊎◌}
use Rattle.std.specs.List.{All, sum_by}
use Rattle.std.proofs.lemmas.List.{length-set, length-drop, drop-set, drop_all, append-nil, set-set}
use Rattle.std.proofs.Common.{take, ◌++◌}
use Rattle.std.proofs.lemmas.Grind.{get_or_default_zero}
use Rattle.std.proofs.lemmas.List.Elements.{All-head, All-tail, All-from_get_or}
use Rattle.std.proofs.lemmas.List.Sums.{sum_by-cons, sum_by-set, sum_by-le}
use Rattle.std.proofs.lemmas.Option.{slice_get_within, get_or_from_slice_get, slice_get_read}
use Rattle.std.specs.Option.{is_some}
use Rattle.std.proofs.Math.Seq.{drop-cons, take-length}
use Rattle.std.proofs.Common.{◌^◌, replicate, add-one}
use Rattle.std.proofs.lemmas.List.{get_or-set_same, get_or-set_other, get_or-replicate, get_or_past, length-replicate}
use Rattle.std.proofs.lemmas.List.Elements.{All-get_or, All-replicate}
use Rattle.std.proofs.lemmas.Bool.{cases_lt}
use Rattle.zo_model.specs.Program.{cost_below, cost_where, costs_of, IsValid}
use Rattle.zo_model.specs.declared.program.ZeroOne.{ZeroOne}
use Rattle.zo_cert_tree.specs.Fixing.{is_one, ones}
use Rattle.zo_cert_tree.specs.inner.Path.{later, IsFixed, FixesExactly, Pending, open_fixings, Enters, rest_of, HaveCosts, KeepsPlace}

-- no column of a new walk is fixed
pub none_fixed : (n j : ℕ) → get_or {A = Option Bool} (replicate n None) j None ≡ None
none_fixed n j = elim (cases_lt j n) [
  | inl lt ↦ get_or-replicate n j None None lt
  | inr le ↦ get_or_past (replicate n None) j None (rw length-replicate le)
]

pub get_set : {A : Type 0} (xs : List A) (j : ℕ) (a : A) → j < length xs → slice_get (set xs j a) j ≡ Some a
get_set [] j a h = absurd (omega arith)
get_set (x ∷ xs) zero a h = refl
get_set (x ∷ xs) (suc j) a h = get_set xs j a (omega arith)

pub set_own : {A : Type 0} (xs : List A) (j : ℕ) (a : A) → slice_get xs j ≡ Some a → set xs j a ≡ xs
set_own [] j a h = refl
set_own (x ∷ xs) zero a h = let e : x ≡ a = cc in ap (λ y. y ∷ xs) (sym e)
set_own (x ∷ xs) (suc j) a h = ap (λ ys. x ∷ ys) (set_own xs j a h)

-- ---- the columns on the stack are as many as those that are fixed

abbrev pub one_fixed : Option Bool → ℕ
one_fixed (Some v) = 1
one_fixed None = 0

none_count : (fixed : List (Option Bool)) → All (λ o. o ≡ None) fixed → sum_by one_fixed fixed ≡ 0
none_count [] h = refl
none_count (o ∷ os) h =
    let e : o ≡ None = All-head (λ o. o ≡ None) o os h in
    let ih : sum_by one_fixed os ≡ 0 = none_count os (All-tail (λ o. o ≡ None) o os h) in
    rw (sum_by-cons one_fixed o os, e) (omega arith)

one_of : (o : Option Bool) → IsFixed (Some o) → one_fixed o ≡ 1
one_of (Some v) h = refl
one_of None h = absurd h

inside : (fixed : List (Option Bool)) (j : ℕ) → IsFixed (slice_get fixed j) → (o : Option Bool) × (slice_get fixed j ≡ Some o) × (one_fixed o ≡ 1)
inside [] j h = absurd h
inside (o ∷ os) zero h = (o, refl, one_of o h)
inside (o ∷ os) (suc j) h = inside os j h

fixed_count : (js : List ℕ) (fixed : List (Option Bool)) → FixesExactly fixed js → sum_by one_fixed fixed ≡ length js
fixed_count [] fixed h = none_count fixed h
fixed_count (j ∷ js) fixed h =
    let ih : sum_by one_fixed (set fixed j None) ≡ length js = fixed_count js (set fixed j None) h.1 in
    let i = inside fixed j h.0 in
    let lt : j < length fixed = slice_get_within fixed j i.0 i.1 in
    let s : sum_by one_fixed (set fixed j None) + one_fixed (get_or fixed j None) ≡ sum_by one_fixed fixed + 0 = sum_by-set one_fixed fixed j None None lt in
    let g : get_or fixed j None ≡ i.0 = get_or_from_slice_get fixed j i.0 None i.1 in
    let o : one_fixed (get_or fixed j None) ≡ 1 = ap one_fixed g ∙ i.2 in
    omega arith

small : (o : Option Bool) → one_fixed o ≤ 1
small (Some v) = omega arith
small None = omega arith

all_small : (fixed : List (Option Bool)) → All (λ o. one_fixed o ≤ 1) fixed
all_small fixed = All-from_get_or (λ o. one_fixed o ≤ 1) fixed None (λ i h. small (get_or fixed i None))

-- where a column is unfixed, the stack has room for it
pub has_room : (js : List ℕ) (fixed : List (Option Bool)) (j : ℕ) → FixesExactly fixed js → slice_get fixed j ≡ Some None → length js < length fixed
has_room js fixed j h here =
    let c : sum_by one_fixed fixed ≡ length js = fixed_count js fixed h in
    let lt : j < length fixed = slice_get_within fixed j None here in
    let s : sum_by one_fixed (set fixed j (Some true)) + one_fixed (get_or fixed j None) ≡ sum_by one_fixed fixed + 1 = sum_by-set one_fixed fixed j (Some true) None lt in
    let g : get_or fixed j None ≡ None = get_or_from_slice_get fixed j None None here in
    let o : one_fixed (get_or fixed j None) ≡ 0 = ap one_fixed g in
    let le : sum_by one_fixed (set fixed j (Some true)) ≤ length (set fixed j (Some true)) * 1 = sum_by-le one_fixed 1 (set fixed j (Some true)) (all_small (set fixed j (Some true))) in
    let l : length (set fixed j (Some true)) ≡ length fixed = length-set fixed j (Some true) in
    omega arith

-- ---- into a branch

pub enter_exact : (fixed : List (Option Bool)) (j : ℕ) (js : List ℕ) → FixesExactly fixed js → slice_get fixed j ≡ Some None → FixesExactly (set fixed j (Some false)) (j ∷ js)
enter_exact fixed j js h here =
    let lt : j < length fixed = slice_get_within fixed j None here in
    (subst IsFixed (sym (get_set fixed j (Some false) lt)) tt, subst (λ f. FixesExactly f js) (sym (set-set fixed j (Some false) None ∙ set_own fixed j None here)) h)

pub enter_later : (fixed : List (Option Bool)) (j : ℕ) (js : List ℕ) → slice_get fixed j ≡ Some None → later (set fixed j (Some false)) (j ∷ js) ≡ set fixed j (Some true) ∷ later fixed js
enter_later fixed j js here =
    let lt : j < length fixed = slice_get_within fixed j None here in
    rw (get_set fixed j (Some false) lt, set-set fixed j (Some false) (Some true), set-set fixed j (Some false) None, set_own fixed j None here)

-- ---- out of a subtree

pub leave_later_one : (fixed : List (Option Bool)) (j : ℕ) (js : List ℕ) → slice_get fixed j ≡ Some (Some true) → later fixed (j ∷ js) ≡ later (set fixed j None) js
leave_later_one fixed j js here = rw here

pub leave_later_zero : (fixed : List (Option Bool)) (j : ℕ) (js : List ℕ) → slice_get fixed j ≡ Some (Some false) → later fixed (j ∷ js) ≡ set fixed j (Some true) ∷ later (set fixed j (Some true)) (j ∷ js)
leave_later_zero fixed j js here =
    let lt : j < length fixed = slice_get_within fixed j (Some false) here in
    rw (here, get_set fixed j (Some true) lt, set-set fixed j (Some true) None)

pub leave_exact_zero : (fixed : List (Option Bool)) (j : ℕ) (js : List ℕ) → slice_get fixed j ≡ Some (Some false) → FixesExactly fixed (j ∷ js) → FixesExactly (set fixed j (Some true)) (j ∷ js)
leave_exact_zero fixed j js here h =
    let lt : j < length fixed = slice_get_within fixed j (Some false) here in
    (subst IsFixed (sym (get_set fixed j (Some true) lt)) tt, subst (λ f. FixesExactly f js) (sym (set-set fixed j (Some true) None)) h.1)

-- ---- the same at a stack that grows downward

pub reads_none : (fixed : List (Option Bool)) (j : ℕ) (o : Option Bool) → j < length fixed → o ≡ get_or fixed j o → false ≡ is_some o → slice_get fixed j ≡ Some None
reads_none fixed j None lt e s = slice_get_read fixed (length fixed) j None refl lt e
reads_none fixed j (Some v) lt e s = cc

pub room_above : (fixed : List (Option Bool)) (stack : List ℕ) (top j : ℕ) → top ≤ length stack → length stack ≡ length fixed → FixesExactly fixed (drop top stack) → slice_get fixed j ≡ Some None → 1 ≤ top
room_above fixed stack top j top_in same h here =
    let r : length (drop top stack) < length fixed = has_room (drop top stack) fixed j h here in
    omega (arith, length-drop {A = ℕ})

pub pushed : (stack : List ℕ) (top j : ℕ) → 1 ≤ top → top ≤ length stack → drop (top - 1) (set stack (top - 1) j) ≡ j ∷ drop top stack
pushed stack top j one top_in =
    let e : drop (top - 1) (set stack (top - 1) j) ≡ j ∷ drop ((top - 1) + 1) stack = drop-set stack (top - 1) j (omega arith) in
    let t : (top - 1) + 1 ≡ top = omega arith in
    rw t at e

-- what a contract sees of a walk
abbrev pub walk_of : List ℕ → Bool → List (Option Bool) → List ℕ → ℕ → Pending
walk_of costs is_open fixed stack top = record { costs = costs; fixings = open_fixings is_open fixed (drop top stack) }

pub entered : (costs : List ℕ) (b : Bool) (fixed : List (Option Bool)) (stack : List ℕ) (top j : ℕ) → (walk_of costs b fixed stack top).fixings ≢ [] → top ≤ length stack → length stack ≡ length fixed → FixesExactly fixed (drop top stack) → slice_get fixed j ≡ Some None → Enters (walk_of costs b fixed stack top) (walk_of costs b (set fixed j (Some false)) (set stack (top - 1) j) (top - 1)) j true
entered costs false fixed stack top j some top_in same h here = absurd (some refl)
entered costs true fixed stack top j some top_in same h here =
    let one : 1 ≤ top = room_above fixed stack top j top_in same h here in
    (here, rw (pushed stack top j one top_in, enter_later fixed j (drop top stack) here))

pub still_exact : (fixed : List (Option Bool)) (stack : List ℕ) (top j : ℕ) → top ≤ length stack → length stack ≡ length fixed → FixesExactly fixed (drop top stack) → slice_get fixed j ≡ Some None → FixesExactly (set fixed j (Some false)) (drop (top - 1) (set stack (top - 1) j))
still_exact fixed stack top j top_in same h here =
    let one : 1 ≤ top = room_above fixed stack top j top_in same h here in
    rw (pushed stack top j one top_in) (enter_exact fixed j (drop top stack) h here)

-- the column at the top of the stack
pub top_inside : (fixed : List (Option Bool)) (stack : List ℕ) (top : ℕ) → top < length stack → FixesExactly fixed (drop top stack) → get_or stack top 0 < length fixed
top_inside fixed stack top lt h =
    let h' : FixesExactly fixed (get_or stack top 0 ∷ drop (suc top) stack) = subst (FixesExactly fixed) (drop-cons stack top 0 lt) h in
    let i = inside fixed (get_or stack top 0) h'.0 in
    slice_get_within fixed (get_or stack top 0) i.0 i.1

-- what is written back into a Vec by a slice of its length
pub whole_back : {A : Type 0} (n : ℕ) (xs ys : List A) → length xs ≡ length ys → n ≡ length ys → take n (xs ++ drop (length xs) ys) ≡ xs
whole_back n xs ys same len =
    let e : drop (length xs) ys ≡ [] = drop_all (length xs) ys (omega arith) in
    let l : n ≡ length xs = omega arith in
    rw (e, l, append-nil) (take-length xs)

pub turned_exact : (fixed new : List (Option Bool)) (stack : List ℕ) (top : ℕ) → top < length stack → FixesExactly fixed (drop top stack) → slice_get fixed (get_or stack top 0) ≡ Some (Some false) → new ≡ set fixed (get_or stack top 0) (Some true) → FixesExactly new (drop top stack)
turned_exact fixed new stack top lt h here e =
    let cut : drop top stack ≡ get_or stack top 0 ∷ drop (suc top) stack = drop-cons stack top 0 lt in
    let h' : FixesExactly fixed (get_or stack top 0 ∷ drop (suc top) stack) = subst (FixesExactly fixed) cut h in
    rw (cut, e) (leave_exact_zero fixed (get_or stack top 0) (drop (suc top) stack) here h')

pub turned_later : (fixed new : List (Option Bool)) (stack : List ℕ) (top : ℕ) → top < length stack → slice_get fixed (get_or stack top 0) ≡ Some (Some false) → new ≡ set fixed (get_or stack top 0) (Some true) → later fixed (drop top stack) ≡ new ∷ later new (drop top stack)
turned_later fixed new stack top lt here e =
    let cut : drop top stack ≡ get_or stack top 0 ∷ drop (suc top) stack = drop-cons stack top 0 lt in
    rw (cut, e) (leave_later_zero fixed (get_or stack top 0) (drop (suc top) stack) here)

pub left : (costs : List ℕ) (b b' : Bool) (first fixed new : List (Option Bool)) (old stack : List ℕ) (begun top : ℕ) → b' ≡ b → (walk_of costs b first old begun).fixings ≢ [] → later fixed (drop top stack) ≡ later first (drop begun old) → later fixed (drop top stack) ≡ new ∷ later new (drop top stack) → walk_of costs b' new stack top ≡ record (walk_of costs b first old begun) { fixings = rest_of (walk_of costs b first old begun).fixings }
left costs false b' first fixed new old stack begun top o some same e = absurd (some refl)
left costs true b' first fixed new old stack begun top o some same e = rw (o, sym e ∙ same)

-- ---- the cost of the columns fixed at 1

pub cost_below-same : (n : ℕ) (costs : List ℕ) (x y : ℕ → Bool) → ((j : ℕ) → j < n → x j ≡ y j) → cost_below n costs x ≡ cost_below n costs y
cost_below-same zero costs x y h = refl
cost_below-same (suc n) costs x y h =
    let ih : cost_below n costs x ≡ cost_below n costs y = cost_below-same n costs x y (λ j lt. h j (omega arith)) in
    let here : x n ≡ y n = h n (omega arith) in
    cc

pub below_or : (c n : ℕ) → c < suc n → (c < n) ⊎ (c ≡ n)
below_or c n h = grind arith

pub cost_below-change : (n : ℕ) (costs : List ℕ) (x y : ℕ → Bool) (c : ℕ) → c < n → ((j : ℕ) → j ≢ c → x j ≡ y j) → cost_below n costs x + cost_where (y c) (get_or costs c 0) ≡ cost_below n costs y + cost_where (x c) (get_or costs c 0)
cost_below-change zero costs x y c lt h = absurd (omega arith)
cost_below-change (suc n) costs x y c lt h = elim (below_or c n lt) [
  | inl below ↦
      let ih : cost_below n costs x + cost_where (y c) (get_or costs c 0) ≡ cost_below n costs y + cost_where (x c) (get_or costs c 0) = cost_below-change n costs x y c below h in
      let here : cost_where (x n) (get_or costs n 0) ≡ cost_where (y n) (get_or costs n 0) = ap (λ b. cost_where b (get_or costs n 0)) (h n (omega arith)) in
      omega arith
  | inr e ↦
      let before : cost_below n costs x ≡ cost_below n costs y = cost_below-same n costs x y (λ j lt. h j (omega arith)) in
      let hx : cost_where (x n) (get_or costs n 0) ≡ cost_where (x c) (get_or costs c 0) = ap (λ k. cost_where (x k) (get_or costs k 0)) (sym e) in
      let hy : cost_where (y n) (get_or costs n 0) ≡ cost_where (y c) (get_or costs c 0) = ap (λ k. cost_where (y k) (get_or costs k 0)) (sym e) in
      omega arith
]

ones_same : (fixed : List (Option Bool)) (j : ℕ) (o : Option Bool) (k : ℕ) → k ≢ j → ones (set fixed j o) k ≡ ones fixed k
ones_same fixed j o k ne = ap is_one (get_or-set_other fixed j k o None ne)

-- where one column changes its place
pub costs_set : (costs : List ℕ) (fixed : List (Option Bool)) (j : ℕ) (o p : Option Bool) → j < length costs → slice_get fixed j ≡ Some o → costs_of costs (ones (set fixed j p)) + cost_where (is_one o) (get_or costs j 0) ≡ costs_of costs (ones fixed) + cost_where (is_one p) (get_or costs j 0)
costs_set costs fixed j o p lt here =
    let inside : j < length fixed = slice_get_within fixed j o here in
    let was : ones fixed j ≡ is_one o = ap is_one (get_or_from_slice_get fixed j o None here) in
    let is : ones (set fixed j p) j ≡ is_one p = ap is_one (get_or-set_same fixed j p None inside) in
    let e : cost_below (length costs) costs (ones (set fixed j p)) + cost_where (ones fixed j) (get_or costs j 0) ≡ cost_below (length costs) costs (ones fixed) + cost_where (ones (set fixed j p) j) (get_or costs j 0) = cost_below-change (length costs) costs (ones (set fixed j p)) (ones fixed) j lt (ones_same fixed j p) in
    let we : cost_where (ones fixed j) (get_or costs j 0) ≡ cost_where (is_one o) (get_or costs j 0) = ap (λ b. cost_where b (get_or costs j 0)) was in
    let ie : cost_where (ones (set fixed j p) j) (get_or costs j 0) ≡ cost_where (is_one p) (get_or costs j 0) = ap (λ b. cost_where b (get_or costs j 0)) is in
    omega arith

pub costs_entered : (costs : List ℕ) (fixed : List (Option Bool)) (j spent : ℕ) → j < length costs → slice_get fixed j ≡ Some None → spent ≡ costs_of costs (ones fixed) → spent ≡ costs_of costs (ones (set fixed j (Some false)))
costs_entered costs fixed j spent lt here e = let s = costs_set costs fixed j None (Some false) lt here in omega arith

pub costs_turned : (costs : List ℕ) (fixed : List (Option Bool)) (j spent : ℕ) → j < length costs → slice_get fixed j ≡ Some (Some false) → spent ≡ costs_of costs (ones fixed) → spent + get_or costs j 0 ≡ costs_of costs (ones (set fixed j (Some true)))
costs_turned costs fixed j spent lt here e = let s = costs_set costs fixed j (Some false) (Some true) lt here in omega arith

pub costs_freed : (costs : List ℕ) (fixed : List (Option Bool)) (j spent : ℕ) → j < length costs → slice_get fixed j ≡ Some (Some true) → spent ≡ costs_of costs (ones fixed) → spent ≡ costs_of costs (ones (set fixed j None)) + get_or costs j 0
costs_freed costs fixed j spent lt here e = let s = costs_set costs fixed j (Some true) None lt here in omega arith

none_cost : (n m : ℕ) (costs : List ℕ) → cost_below n costs (ones (replicate m None)) ≡ 0
none_cost zero m costs = refl
none_cost (suc n) m costs =
    let ih : cost_below n costs (ones (replicate m None)) ≡ 0 = none_cost n m costs in
    let here : ones (replicate m None) n ≡ false = ap is_one (none_fixed m n) in
    let zero_here : cost_where (ones (replicate m None) n) (get_or costs n 0) ≡ 0 = ap (λ b. cost_where b (get_or costs n 0)) here in
    omega arith

pub none_spent : (costs : List ℕ) (m : ℕ) → 0 ≡ costs_of costs (ones (replicate m None))
none_spent costs m = sym (none_cost (length costs) m costs)

where_small : (b : Bool) (c : ℕ) → c < 2 ^ 20 → cost_where b c < 2 ^ 20
where_small true c h = h
where_small false c h = omega arith

below_small : (n : ℕ) (costs : List ℕ) (x : ℕ → Bool) → n ≤ length costs → All (λ c. c < 2 ^ 20) costs → cost_below n costs x ≤ 2 ^ 20 * n
below_small zero costs x le h = omega arith
below_small (suc n) costs x le h =
    let ih : cost_below n costs x ≤ 2 ^ 20 * n = below_small n costs x (omega arith) h in
    let one : cost_where (x n) (get_or costs n 0) < 2 ^ 20 = where_small (x n) (get_or costs n 0) (All-get_or (λ c. c < 2 ^ 20) costs n 0 (omega arith) h) in
    omega arith

-- the cost of every vector has room
pub costs_small : (costs : List ℕ) (x : ℕ → Bool) → HaveCosts costs → costs_of costs x ≤ 2 ^ 46
costs_small costs x h =
    let b : cost_below (length costs) costs x ≤ 2 ^ 20 * length costs = below_small (length costs) costs x (omega arith) h.small in
    omega (arith, h.few)

pub costs_valid : (z : ZeroOne) → IsValid z → HaveCosts z.costs.items
costs_valid z h = record { few = h.columns_fit; small = h.costs_fit }

pub all_none : (n : ℕ) → All (λ (o : Option Bool). o ≡ None) (replicate n None)
all_none n = All-replicate (λ (o : Option Bool). o ≡ None) n None refl

-- a walk that begins
pub begins : (costs : List ℕ) (stack : List ℕ) (top : ℕ) → HaveCosts costs → length stack ≡ length costs → top ≡ length costs → KeepsPlace costs (replicate (length costs) None) stack top 0
begins costs stack top h same e =
    let none : drop top stack ≡ [] = drop_all top stack (omega arith) in
    record {
      costs_fit = h;
      one_a_column = length-replicate (length costs) None;
      room = same;
      top_in = omega arith;
      exact = rw none (all_none (length costs));
      spent_is = none_spent costs (length costs);
    }

-- ---- out of a subtree, at the top of the stack

freed_exact : (fixed : List (Option Bool)) (stack : List ℕ) (top : ℕ) → top < length stack → FixesExactly fixed (drop top stack) → FixesExactly (set fixed (get_or stack top 0) None) (drop (top + 1) stack)
freed_exact fixed stack top lt h =
    let cut : drop top stack ≡ get_or stack top 0 ∷ drop (suc top) stack = drop-cons stack top 0 lt in
    let h' : FixesExactly fixed (get_or stack top 0 ∷ drop (suc top) stack) = subst (FixesExactly fixed) cut h in
    rw add-one h'.1

pub freed_later : (fixed new : List (Option Bool)) (stack : List ℕ) (top : ℕ) → top < length stack → slice_get fixed (get_or stack top 0) ≡ Some (Some true) → new ≡ set fixed (get_or stack top 0) None → later fixed (drop top stack) ≡ later new (drop (top + 1) stack)
freed_later fixed new stack top lt here e =
    let cut : drop top stack ≡ get_or stack top 0 ∷ drop (suc top) stack = drop-cons stack top 0 lt in
    rw (cut, e, add-one) (leave_later_one fixed (get_or stack top 0) (drop (suc top) stack) here)

pub turned_place : (costs : List ℕ) (fixed new : List (Option Bool)) (stack : List ℕ) (top spent cost : ℕ) → top < length stack → KeepsPlace costs fixed stack top spent → slice_get fixed (get_or stack top 0) ≡ Some (Some false) → new ≡ set fixed (get_or stack top 0) (Some true) → cost ≡ get_or costs (get_or stack top 0) 0 → KeepsPlace costs new stack top (spent + cost)
turned_place costs fixed new stack top spent cost lt h here e is =
    let inside : get_or stack top 0 < length costs = omega (arith, top_inside fixed stack top lt h.exact, h.one_a_column) in
    record {
      costs_fit = h.costs_fit;
      one_a_column = ap length e ∙ length-set fixed (get_or stack top 0) (Some true) ∙ h.one_a_column;
      room = h.room;
      top_in = h.top_in;
      exact = turned_exact fixed new stack top lt h.exact here e;
      spent_is = ap (λ v. spent + v) is ∙ costs_turned costs fixed (get_or stack top 0) spent inside here h.spent_is ∙ ap (λ f. costs_of costs (ones f)) (sym e);
    }

pub freed_place : (costs : List ℕ) (fixed new : List (Option Bool)) (stack : List ℕ) (top spent cost : ℕ) → top < length stack → KeepsPlace costs fixed stack top spent → slice_get fixed (get_or stack top 0) ≡ Some (Some true) → new ≡ set fixed (get_or stack top 0) None → cost ≡ get_or costs (get_or stack top 0) 0 → (cost ≤ spent) × KeepsPlace costs new stack (top + 1) (spent - cost)
freed_place costs fixed new stack top spent cost lt h here e is =
    let inside : get_or stack top 0 < length costs = omega (arith, top_inside fixed stack top lt h.exact, h.one_a_column) in
    let s : spent ≡ costs_of costs (ones (set fixed (get_or stack top 0) None)) + get_or costs (get_or stack top 0) 0 = costs_freed costs fixed (get_or stack top 0) spent inside here h.spent_is in (
      omega arith,
      record {
        costs_fit = h.costs_fit;
        one_a_column = ap length e ∙ length-set fixed (get_or stack top 0) None ∙ h.one_a_column;
        room = h.room;
        top_in = omega arith;
        exact = subst (λ f. FixesExactly f (drop (top + 1) stack)) (sym e) (freed_exact fixed stack top lt h.exact);
        spent_is = let r : spent - cost ≡ costs_of costs (ones (set fixed (get_or stack top 0) None)) = omega arith in r ∙ ap (λ f. costs_of costs (ones f)) (sym e);
      },
    )

pub cost_at_top : (costs : List ℕ) (fixed : List (Option Bool)) (stack : List ℕ) (top spent : ℕ) → top < length stack → KeepsPlace costs fixed stack top spent → (get_or stack top 0 < length costs) × (spent ≤ 2 ^ 46) × (get_or costs (get_or stack top 0) 0 < 2 ^ 20)
cost_at_top costs fixed stack top spent lt h =
    let inside : get_or stack top 0 < length costs = omega (arith, top_inside fixed stack top lt h.exact, h.one_a_column) in
    (inside, omega (arith, h.spent_is, costs_small costs (ones fixed) h.costs_fit), All-get_or (λ c. c < 2 ^ 20) costs (get_or stack top 0) 0 inside h.costs_fit.small)

-- what was read at the top of the stack
pub at_top : (costs stack : List ℕ) (fixed seen new : List (Option Bool)) (top index read cost spent : ℕ) (o p : Option Bool) → top < length stack → KeepsPlace costs fixed stack top spent → index ≡ get_or stack top index → read ≡ get_or costs index read → cost ≡ read → seen ≡ fixed → (slice_get seen index ≡ Some o) × (new ≡ set seen index p) → (slice_get fixed (get_or stack top 0) ≡ Some o) × (new ≡ set fixed (get_or stack top 0) p) × (cost ≡ get_or costs (get_or stack top 0) 0)
at_top costs stack fixed seen new top index read cost spent o p lt place i r c s t =
    let e : index ≡ get_or stack top 0 = i ∙ get_or_default_zero stack top index lt in
    let inside : index < length costs = omega (arith, cost_at_top costs fixed stack top spent lt place) in
    let k : read ≡ get_or costs index 0 = r ∙ get_or_default_zero costs index read inside in
    let t0 = t.0 in
    let t1 = t.1 in
    (cc, cc, c ∙ k ∙ ap (λ j. get_or costs j 0) e)

-- What stands at the cursors is what the placement says of the point, and where they stand at the next point.
use Rattle.std.proofs.Common.{◌≡◌, ℕ, zero, suc, ◌+◌, ◌<◌, ◌≤◌, nat_eq, Bool, true, false, ◌&&◌, if◌then◌else◌, List, [], ◌∷◌, ◌++◌, length, map, take, drop, Option, Some, None, refl, sym, ap, ◌∙◌, subst, ⊎_elim, inl, inr, append_assoc, slice_get, arith}
use Rattle.std.specs.Prelude.{◌⊎◌}
use Rattle.std.specs.List.{AllByRecursion}
use Rattle.std.proofs.lemmas.Bool.{false≢true, eqb-true, ne_eqb}
use Rattle.std.proofs.lemmas.Option.{none-some, same_Some}
use Rattle.std.proofs.lemmas.List.{drop_at, take_at, map-append, length-map, length-append}
use Rattle.ssu_ir.specs.Tree.{Step, Lit, Una, Bin, Clone, Read, Write, Last, Jump, Halt, Tree, Do, If, End, Label, Does, Forks, Ends, step_values, step_uses, last_uses}
use Rattle.ssu_ir.specs.Points.{Names, own, names_after, PointKind, Entry, At, Point, points_from, tree_points, nodes}
use Rattle.ssu_ir.proofs.PointLemmas.{length-tree_points}
use Rattle.place_plan.specs.declared.place.First.{First}
use Rattle.place_plan.specs.declared.place.Serve.{Serve}
use Rattle.place_plan.specs.declared.place.Pass.{Pass}
use Rattle.place_plan.specs.Plan.{first_in, serve_in, pass_in}
use Rattle.place_plan.specs.Uses.{Access, accesses_from, accesses, place_accesses, Role, step_roles, last_roles, Operand, Written, Argument, Ending, Use, uses_at, uses_from, uses, place_roles}
use Rattle.place_plan.specs.Fits.{Rises, at_operand, use_operand}
use Rattle.place_plan.proofs.Sound.{length-roles}
use Rattle.ssu_liveness.proofs.Scoped.{in-itself}
use Rattle.ucode_emit.specs.inner.Marks.{Mark, tree_marks, marks_from, marks}
use Rattle.ucode_emit.specs.inner.Cursors.{place_operands, operands_from, marks_operands, step_access, place_access, marks_accesses, IsCut, AreServed, of_point, further}
use Rattle.ucode_emit.proofs.PointsEach.{all_both, get_append}
use Rattle.ucode_emit.proofs.Marked.{marks_many}

-- ---- numbers

below_differ : (m n : ℕ) → m < n → nat_eq m n ≡ false
below_differ m n l = ne_eqb m n (λ e. absurd (omega (arith, e, l)))

above_differ : (m n : ℕ) → n < m → nat_eq m n ≡ false
above_differ m n l = ne_eqb m n (λ e. absurd (omega (arith, e, l)))

-- ---- lists that rise by point

pub all_map : {X : Type 0} (P Q : X → Type 0) (xs : List X) → ((x : X) → P x → Q x) → AllByRecursion P xs → AllByRecursion Q xs
all_map P Q [] f h = tt
all_map P Q (x ∷ xs) f h = (f x h.0, all_map P Q xs f h.1)

rises_tail : {X : Type 0} (point : X → ℕ) (x : X) (xs : List X) → Rises (map point (x ∷ xs)) → Rises (map point xs)
rises_tail point x [] r = tt
rises_tail point x (y ∷ ys) r = r.1

rises_above : {X : Type 0} (point : X → ℕ) (m : ℕ) (x : X) (xs : List X) → Rises (map point (x ∷ xs)) → m ≤ point x → AllByRecursion (λ y. suc m ≤ point y) xs
rises_above point m x [] r l = tt
rises_above point m x (y ∷ ys) r l =
    let up : point x < point y = r.0 in
    let more' : m ≤ point y = omega (arith, up, l) in (omega (arith, up, l), rises_above point m y ys r.1 more')

all_any : {X : Type 0} (point : X → ℕ) (xs : List X) → AllByRecursion (λ x. 0 ≤ point x) xs
all_any point [] = tt
all_any point (x ∷ xs) = (omega arith, all_any point xs)

pub cut_start : {X : Type 0} (point : X → ℕ) (all : List X) → Rises (map point all) → IsCut point all 0 0
cut_start point all r = record { front = []; back = all; whole = refl; long = refl; before = tt; behind = all_any point all; rise = r }

one_longer : {X : Type 0} (front : List X) (x : X) (at : ℕ) → length front ≡ at → length (front ++ x ∷ []) ≡ suc at
one_longer front x at l = let m = length-append front (x ∷ []) in omega (arith, m, l)

cut_taken : {X : Type 0} (point : X → ℕ) (all front : List X) (x : X) (xs : List X) (at k : ℕ) → all ≡ front ++ (x ∷ xs) → length front ≡ at → AllByRecursion (λ y. point y < k) front
    → AllByRecursion (λ y. k ≤ point y) (x ∷ xs) → Rises (map point (x ∷ xs)) → point x ≡ k → IsCut point all (suc at) (suc k)
cut_taken point all front x xs at k w l b h r e = record {
  front = front ++ x ∷ [];
  back = xs;
  whole = w ∙ sym (append_assoc front (x ∷ []) xs);
  long = one_longer front x at l;
  before = all_both (λ y. point y < suc k) front (x ∷ []) (all_map (λ y. point y < k) (λ y. point y < suc k) front (λ y s. omega (arith, s)) b) (omega (arith, e), tt);
  behind = rises_above point k x xs r h.0;
  rise = rises_tail point x xs r;
}

cut_passed : {X : Type 0} (point : X → ℕ) (all front back : List X) (at k : ℕ) → all ≡ front ++ back → length front ≡ at → AllByRecursion (λ y. point y < k) front
    → AllByRecursion (λ y. suc k ≤ point y) back → Rises (map point back) → IsCut point all at (suc k)
cut_passed point all front back at k w l b h r = record {
  front = front;
  back = back;
  whole = w;
  long = l;
  before = all_map (λ y. point y < k) (λ y. point y < suc k) front (λ y s. omega (arith, s)) b;
  behind = h;
  rise = r;
}

later_all : {X : Type 0} (point : X → ℕ) (x : X) (xs : List X) (k : ℕ) → AllByRecursion (λ y. k ≤ point y) (x ∷ xs) → Rises (map point (x ∷ xs)) → (point x ≡ k → ⊥) → AllByRecursion (λ y. suc k ≤ point y) (x ∷ xs)
later_all point x xs k h r ne = (
  let le : k ≤ point x = h.0 in omega (arith, le, ne),
  rises_above point k x xs r h.0,
)

cut_case : {X : Type 0} (point : X → ℕ) (all front : List X) (x : X) (xs : List X) (at k : ℕ) (b : Bool) → nat_eq (point x) k ≡ b → all ≡ front ++ (x ∷ xs) → length front ≡ at → AllByRecursion (λ y. point y < k) front
    → AllByRecursion (λ y. k ≤ point y) (x ∷ xs) → Rises (map point (x ∷ xs)) → IsCut point all (further at (if b then Some x else None)) (suc k)
cut_case point all front x xs at k true e w l f h r = cut_taken point all front x xs at k w l f h r (eqb-true (point x) k e)
cut_case point all front x xs at k false e w l f h r =
    cut_passed point all front (x ∷ xs) at k w l f
    (later_all point x xs k h r (λ s. false≢true (sym e ∙ ap (λ n. nat_eq n k) s ∙ in-itself k))) r

cut_step : {X : Type 0} (point : X → ℕ) (all front back : List X) (at k : ℕ) → all ≡ front ++ back → length front ≡ at → AllByRecursion (λ y. point y < k) front
    → AllByRecursion (λ y. k ≤ point y) back → Rises (map point back) → IsCut point all (further at (of_point point k (slice_get back 0))) (suc k)
cut_step point all front [] at k w l f h r = cut_passed point all front [] at k w l f tt tt
cut_step point all front (x ∷ xs) at k w l f h r = cut_case point all front x xs at k (nat_eq (point x) k) refl w l f h r

-- what stands at the cursor is the first of the rest
pub at_cursor : {X : Type 0} (all front back : List X) (at : ℕ) → all ≡ front ++ back → length front ≡ at → slice_get all at ≡ slice_get back 0
at_cursor all front back at w l =
    let z : at ≡ at + 0 = omega arith in
    ap (λ m. slice_get m at) w ∙ ap (slice_get (front ++ back)) z ∙ get_append front back 0 at (sym l)

pub cut_next : {X : Type 0} (point : X → ℕ) (all : List X) (at k : ℕ) → IsCut point all at k → IsCut point all (further at (of_point point k (slice_get all at))) (suc k)
cut_next point all at k c =
    subst (λ o. IsCut point all (further at (of_point point k o)) (suc k)) (sym (at_cursor all c.front c.back at c.whole c.long))
    (cut_step point all c.front c.back at k c.whole c.long c.before c.behind c.rise)

-- the same, by what stands at the cursor
pub cut_some : {X : Type 0} (point : X → ℕ) (all : List X) (at k : ℕ) (x : X) → IsCut point all at k → Some x ≡ of_point point k (slice_get all at) → IsCut point all (at + 1) (suc k)
cut_some {X} point all at k x c e =
    let one : suc at ≡ at + 1 = omega arith in
    subst (λ n. IsCut point all n (suc k)) (ap (λ (o : Option X). further at o) (sym e) ∙ one) (cut_next point all at k c)

pub cut_none : {X : Type 0} (point : X → ℕ) (all : List X) (at k : ℕ) → IsCut point all at k → None ≡ of_point point k (slice_get all at) → IsCut point all at (suc k)
cut_none {X} point all at k c e = subst (λ n. IsCut point all n (suc k)) (ap (λ (o : Option X). further at o) (sym e)) (cut_next point all at k c)

-- ---- first registers

abbrev pub first_value : Option First → ℕ
first_value (Some f) = f.first
first_value None = 0

first_skip : (front back : List First) (k : ℕ) → AllByRecursion (λ f. f.point < k) front → first_in (front ++ back) k ≡ first_in back k
first_skip [] back k h = refl
first_skip (f ∷ front) back k h = ap (λ b. if b then f.first else first_in (front ++ back) k) (below_differ f.point k h.0) ∙ first_skip front back k h.1

first_none : (xs : List First) (k : ℕ) → AllByRecursion (λ f. suc k ≤ f.point) xs → first_in xs k ≡ 0
first_none [] k h = refl
first_none (f ∷ xs) k h = let up : suc k ≤ f.point = h.0 in ap (λ b. if b then f.first else first_in xs k) (above_differ f.point k (omega (arith, up))) ∙ first_none xs k h.1

first_case : (f : First) (xs : List First) (k : ℕ) (b : Bool) → nat_eq f.point k ≡ b → AllByRecursion (λ g. suc k ≤ g.point) xs → (if b then f.first else first_in xs k) ≡ first_value (if b then Some f else None)
first_case f xs k true e h = refl
first_case f xs k false e h = first_none xs k h

first_head : (back : List First) (k : ℕ) → AllByRecursion (λ f. k ≤ f.point) back → Rises (map (λ f. f.point) back) → first_in back k ≡ first_value (of_point (λ f. f.point) k (slice_get back 0))
first_head [] k h r = refl
first_head (f ∷ xs) k h r = first_case f xs k (nat_eq f.point k) refl (rises_above (λ (g : First). g.point) k f xs r h.0)

pub first_here : (all : List First) (at k : ℕ) → IsCut (λ f. f.point) all at k → first_in all k ≡ first_value (of_point (λ f. f.point) k (slice_get all at))
first_here all at k c =
    ap (λ l. first_in l k) c.whole ∙ first_skip c.front c.back k c.before ∙ first_head c.back k c.behind c.rise
    ∙ ap (λ o. first_value (of_point (λ f. f.point) k o)) (sym (at_cursor all c.front c.back at c.whole c.long))

-- ---- passes

abbrev pub pass_value : ℕ → Option Pass → Pass
pass_value k (Some q) = q
pass_value k None = record { point = k; l = None; s = None }

pass_skip : (front back : List Pass) (k : ℕ) → AllByRecursion (λ q. q.point < k) front → pass_in (front ++ back) k ≡ pass_in back k
pass_skip [] back k h = refl
pass_skip (q ∷ front) back k h = ap (λ b. if b then q else pass_in (front ++ back) k) (below_differ q.point k h.0) ∙ pass_skip front back k h.1

pass_none : (xs : List Pass) (k : ℕ) → AllByRecursion (λ q. suc k ≤ q.point) xs → pass_in xs k ≡ record { point = k; l = None; s = None }
pass_none [] k h = refl
pass_none (q ∷ xs) k h = let up : suc k ≤ q.point = h.0 in ap (λ b. if b then q else pass_in xs k) (above_differ q.point k (omega (arith, up))) ∙ pass_none xs k h.1

pass_case : (q : Pass) (xs : List Pass) (k : ℕ) (b : Bool) → nat_eq q.point k ≡ b → AllByRecursion (λ r. suc k ≤ r.point) xs → (if b then q else pass_in xs k) ≡ pass_value k (if b then Some q else None)
pass_case q xs k true e h = refl
pass_case q xs k false e h = pass_none xs k h

pass_head : (back : List Pass) (k : ℕ) → AllByRecursion (λ q. k ≤ q.point) back → Rises (map (λ q. q.point) back) → pass_in back k ≡ pass_value k (of_point (λ q. q.point) k (slice_get back 0))
pass_head [] k h r = refl
pass_head (q ∷ xs) k h r = pass_case q xs k (nat_eq q.point k) refl (rises_above (λ (r : Pass). r.point) k q xs r h.0)

pub pass_here : (all : List Pass) (at k : ℕ) → IsCut (λ q. q.point) all at k → pass_in all k ≡ pass_value k (of_point (λ q. q.point) k (slice_get all at))
pass_here all at k c =
    ap (λ l. pass_in l k) c.whole ∙ pass_skip c.front c.back k c.before ∙ pass_head c.back k c.behind c.rise
    ∙ ap (λ o. pass_value k (of_point (λ q. q.point) k o)) (sym (at_cursor all c.front c.back at c.whole c.long))

-- ---- serves

-- the serves of one point, and the others
pub record Mine (k i n : ℕ) (back : List Serve) (rest : List (ℕ × ℕ)) : Type 0 where
  pub mine : List Serve
  pub others : List Serve
  pub whole : back ≡ mine ++ others
  pub long : length mine ≡ n
  pub emit_context : AllByRecursion (λ s. s.point ≡ k) mine
  pub each : (j : ℕ) (s : Serve) → slice_get mine j ≡ Some s → serve_in back k (i + j) ≡ s
  pub operands : map at_operand others ≡ rest

serve_found : (s : Serve) (xs : List Serve) (k i : ℕ) → s.point ≡ k → s.operand ≡ i → serve_in (s ∷ xs) k i ≡ s
serve_found s xs k i e f =
    let a : nat_eq s.point k ≡ true = ap (λ n. nat_eq n k) e ∙ in-itself k in
    let b : nat_eq s.operand i ≡ true = ap (λ n. nat_eq n i) f ∙ in-itself i in
    ap (λ t. if (t && nat_eq s.operand i) then s else serve_in xs k i) a ∙ ap (λ t. if t then s else serve_in xs k i) b

serve_other : (s : Serve) (xs : List Serve) (k i : ℕ) → s.point ≡ k → nat_eq s.operand i ≡ false → serve_in (s ∷ xs) k i ≡ serve_in xs k i
serve_other s xs k i e f =
    let a : nat_eq s.point k ≡ true = ap (λ n. nat_eq n k) e ∙ in-itself k in
    ap (λ t. if (t && nat_eq s.operand i) then s else serve_in xs k i) a ∙ ap (λ t. if t then s else serve_in xs k i) f

mine_each : (s : Serve) (xs mine : List Serve) (k i j : ℕ) (t : Serve) → s.point ≡ k → s.operand ≡ i
    → ((j : ℕ) (t : Serve) → slice_get mine j ≡ Some t → serve_in xs k (suc i + j) ≡ t) → slice_get (s ∷ mine) j ≡ Some t → serve_in (s ∷ xs) k (i + j) ≡ t
mine_each s xs mine k i zero t e f h g =
    let z : s.operand ≡ i + 0 = omega (arith, f) in
    serve_found s xs k (i + 0) e z ∙ same_Some s t g
mine_each s xs mine k i (suc j) t e f h g =
    let d : nat_eq s.operand (i + suc j) ≡ false = below_differ s.operand (i + suc j) (omega (arith, f)) in
    let z : i + suc j ≡ suc i + j = omega arith in
    serve_other s xs k (i + suc j) e d ∙ ap (serve_in xs k) z ∙ h j t g

pub mine_of : (k i n : ℕ) (back : List Serve) (rest : List (ℕ × ℕ)) → map at_operand back ≡ operands_from k i n ++ rest → Mine k i n back rest
mine_of k i zero back rest e = record { mine = []; others = back; whole = refl; long = refl; emit_context = tt; each = λ j s f. absurd (none-some s f); operands = e }
mine_of k i (suc n) [] rest e = absurd (cc)
mine_of k i (suc n) (s ∷ back) rest e =
    let a : at_operand s ≡ (k, i) = cc in
    let b : map at_operand back ≡ operands_from k (suc i) n ++ rest = cc in
    let p : s.point ≡ k = ap (λ x. x.0) a in
    let o : s.operand ≡ i = ap (λ x. x.1) a in
    let m = mine_of k (suc i) n back rest b in
    let more' = m.long in record {
      mine = s ∷ m.mine;
      others = m.others;
      whole = ap (λ l. s ∷ l) m.whole;
      long = ap suc m.long;
      emit_context = (p, m.emit_context);
      each = λ j t f. mine_each s back m.mine k i j t p o m.each f;
      operands = m.operands;
    }

serve_skip : (front back : List Serve) (k i : ℕ) → AllByRecursion (λ s. s.point < k) front → serve_in (front ++ back) k i ≡ serve_in back k i
serve_skip [] back k i h = refl
serve_skip (s ∷ front) back k i h =
    ap (λ b. if (b && nat_eq s.operand i) then s else serve_in (front ++ back) k i) (below_differ s.point k h.0) ∙ serve_skip front back k i h.1

-- the serves of the next point
pub record Next (all : List Serve) (at k n : ℕ) (qs : List Mark) : Type 0 where
  pub mine : List Serve
  pub within : at + n ≤ length all
  pub slice : take n (drop at all) ≡ mine
  pub long : length mine ≡ n
  pub each : (j : ℕ) (s : Serve) → slice_get mine j ≡ Some s → serve_in all k j ≡ s
  pub further_ : AreServed all (at + n) (suc k) qs

pub served_next : (all : List Serve) (at k : ℕ) (q : Mark) (qs : List Mark) → AreServed all at k (q ∷ qs) → Next all at k (place_operands q.place) qs
served_next all at k q qs c =
    let n = place_operands q.place in
    let m = mine_of k 0 n c.back (marks_operands (suc k) qs) c.operands in
    let w : all ≡ c.front ++ (m.mine ++ m.others) = c.whole ∙ ap (λ l. c.front ++ l) m.whole in
    let a = ap length w ∙ length-append c.front (m.mine ++ m.others) in
    let b = length-append m.mine m.others in
    let f = length-append c.front m.mine in
    let l = c.long in
    let o = m.long in record {
      mine = m.mine;
      within = omega (arith, a, b, l, o);
      slice = ap (λ r. take n (drop at r)) w ∙ ap (take n) (drop_at c.front (m.mine ++ m.others) at c.long) ∙ take_at m.mine m.others n m.long;
      long = m.long;
      each = λ j s g. let z : j ≡ 0 + j = omega arith in ap (λ r. serve_in r k j) c.whole ∙ serve_skip c.front c.back k j c.before ∙ ap (serve_in c.back k) z ∙ m.each j s g;
      further_ = record {
        front = c.front ++ m.mine;
        back = m.others;
        whole = w ∙ sym (append_assoc c.front m.mine m.others);
        long = omega (arith, f, l, o);
        before = all_both (λ s. s.point < suc k) c.front m.mine (all_map (λ s. s.point < k) (λ s. s.point < suc k) c.front (λ s h. omega (arith, h)) c.before)
            (all_map (λ s. s.point ≡ k) (λ s. s.point < suc k) m.mine (λ s h. omega (arith, h)) m.emit_context);
        operands = m.operands;
      };
    }

pub served_start : (all : List Serve) (qs : List Mark) → map at_operand all ≡ marks_operands 0 qs → AreServed all 0 0 qs
served_start all qs e = record { front = []; back = all; whole = refl; long = refl; before = tt; operands = e }

-- ---- the operands of a form, by its points

uses_numbered : (k i : ℕ) (xs : List ℕ) (rs : List Role) → length rs ≡ length xs → map use_operand (uses_at k i xs rs) ≡ operands_from k i (length xs)
uses_numbered k i [] rs e = refl
uses_numbered k i (x ∷ xs) [] e = absurd (omega (arith, e))
uses_numbered k i (x ∷ xs) (r ∷ rs) e = let z : length rs ≡ length xs = omega (arith, e) in ap (λ l. (k, i) ∷ l) (uses_numbered k (suc i) xs rs z)

step_many : (s : Step) → length (step_roles s) ≡ length (step_uses s)
step_many (Lit x v) = refl
step_many (Una x op y) = refl
step_many (Bin x op y z) = refl
step_many (Clone xs y) = refl
step_many (Read m xs y) = refl
step_many (Write m y xs) = ap suc (length-roles (Written m) 0 xs)

last_many : (l : Last) → length (last_roles l) ≡ length (last_uses l)
last_many (Jump l xs) = length-roles (Argument l) 0 xs
last_many (Halt e xs) = length-roles Ending 0 xs

at_node : (k : ℕ) (of : Names) (xs : List ℕ) (rs : List Role) → length rs ≡ length xs → map use_operand (uses_at k 0 (map of xs) rs) ≡ operands_from k 0 (length xs)
at_node k of xs rs e = uses_numbered k 0 (map of xs) rs (e ∙ sym (length-map xs of)) ∙ ap (operands_from k 0) (length-map xs of)

uses_both : (k n : ℕ) (a b : List Point) → n ≡ k + length a → uses_from k (a ++ b) ≡ uses_from k a ++ uses_from n b
uses_both k n [] b e = let z : k ≡ n = omega (arith, e) in ap (λ j. uses_from j b) z
uses_both k n (q ∷ a) b e =
    let z : n ≡ suc k + length a = omega (arith, e) in
    let emit_context = uses_at k 0 q.uses (place_roles q.place) in
    ap (λ l. emit_context ++ l) (uses_both (suc k) n a b z) ∙ sym (append_assoc emit_context (uses_from (suc k) a) (uses_from n b))

operands_both : (k n : ℕ) (a b : List Mark) → n ≡ k + length a → marks_operands k (a ++ b) ≡ marks_operands k a ++ marks_operands n b
operands_both k n [] b e = let z : k ≡ n = omega (arith, e) in ap (λ j. marks_operands j b) z
operands_both k n (q ∷ a) b e =
    let z : n ≡ suc k + length a = omega (arith, e) in
    let emit_context = operands_from k 0 (place_operands q.place) in
    ap (λ l. emit_context ++ l) (operands_both (suc k) n a b z) ∙ sym (append_assoc emit_context (marks_operands (suc k) a) (marks_operands n b))

both_uses : (k : ℕ) (emit_context : List Use) (rest : List Use) (a b : List (ℕ × ℕ)) → map use_operand emit_context ≡ a → map use_operand rest ≡ b → map use_operand (emit_context ++ rest) ≡ a ++ b
both_uses k emit_context rest a b e f = map-append use_operand emit_context rest ∙ ap (λ l. l ++ map use_operand rest) e ∙ ap (λ l. a ++ l) f

uses_tree : (k : ℕ) (of : Names) (above : List ℕ) (t : Tree) → map use_operand (uses_from k (tree_points of above t)) ≡ marks_operands k (tree_marks t)
uses_tree k of above (Do s t) =
    both_uses k (uses_at k 0 (map of (step_uses s)) (step_roles s)) (uses_from (suc k) (tree_points (names_after of s) (above ++ step_values s) t)) (operands_from k 0 (length (step_uses s))) (marks_operands (suc k) (tree_marks t))
    (at_node k of (step_uses s) (step_roles s) (step_many s)) (uses_tree (suc k) (names_after of s) (above ++ step_values s) t)
uses_tree k of above (If c x y t u) =
    let ts = tree_points of above t in
    let us = tree_points of above u in
    let n = suc k + nodes t in
    let z : n ≡ suc k + length ts = let m = length-tree_points of above t in omega (arith, m) in
    let w : n ≡ suc k + length (tree_marks t) = let m = marks_many t in omega (arith, m) in
    both_uses k (uses_at k 0 (of x ∷ of y ∷ []) (Operand ∷ Operand ∷ [])) (uses_from (suc k) (ts ++ us)) (operands_from k 0 2) (marks_operands (suc k) (tree_marks t ++ tree_marks u)) refl
    (ap (map use_operand) (uses_both (suc k) n ts us z)
    ∙ both_uses k (uses_from (suc k) ts) (uses_from n us) (marks_operands (suc k) (tree_marks t)) (marks_operands n (tree_marks u)) (uses_tree (suc k) of above t) (uses_tree n of above u)
    ∙ sym (operands_both (suc k) n (tree_marks t) (tree_marks u) w))
uses_tree k of above (End l) =
    both_uses k (uses_at k 0 (map of (last_uses l)) (last_roles l)) [] (operands_from k 0 (length (last_uses l))) [] (at_node k of (last_uses l) (last_roles l) (last_many l)) refl

uses_labels : (k l : ℕ) (ls : List Label) → map use_operand (uses_from k (points_from l ls)) ≡ marks_operands k (marks_from l ls)
uses_labels k l [] = refl
uses_labels k l (x ∷ ls) =
    let ts = tree_points own x.params x.body in
    let us = points_from (suc l) ls in
    let n = suc k + nodes x.body in
    let z : n ≡ suc k + length ts = let m = length-tree_points own x.params x.body in omega (arith, m) in
    let w : n ≡ suc k + length (tree_marks x.body) = let m = marks_many x.body in omega (arith, m) in
    ap (map use_operand) (uses_both (suc k) n ts us z)
    ∙ both_uses k (uses_from (suc k) ts) (uses_from n us) (marks_operands (suc k) (tree_marks x.body)) (marks_operands n (marks_from (suc l) ls)) (uses_tree (suc k) own x.params x.body) (uses_labels n (suc l) ls)
    ∙ sym (operands_both (suc k) n (tree_marks x.body) (marks_from (suc l) ls) w)

pub uses_by_marks : (labels : List Label) → map use_operand (uses labels) ≡ marks_operands 0 (marks labels)
uses_by_marks labels = uses_labels 0 0 labels

-- ---- the accesses of a form, by its points

abbrev access_point : Access → ℕ
access_point a = a.point

step_accessed : (k : ℕ) (s : Step) → map access_point (place_accesses k (At (Does s))) ≡ step_access k s
step_accessed k (Lit x v) = refl
step_accessed k (Una x op y) = refl
step_accessed k (Bin x op y z) = refl
step_accessed k (Clone xs y) = refl
step_accessed k (Read m xs y) = refl
step_accessed k (Write m y xs) = refl

accesses_both : (k n : ℕ) (a b : List Point) → n ≡ k + length a → accesses_from k (a ++ b) ≡ accesses_from k a ++ accesses_from n b
accesses_both k n [] b e = let z : k ≡ n = omega (arith, e) in ap (λ j. accesses_from j b) z
accesses_both k n (q ∷ a) b e =
    let z : n ≡ suc k + length a = omega (arith, e) in
    let emit_context = place_accesses k q.place in
    ap (λ l. emit_context ++ l) (accesses_both (suc k) n a b z) ∙ sym (append_assoc emit_context (accesses_from (suc k) a) (accesses_from n b))

accessed_both : (k n : ℕ) (a b : List Mark) → n ≡ k + length a → marks_accesses k (a ++ b) ≡ marks_accesses k a ++ marks_accesses n b
accessed_both k n [] b e = let z : k ≡ n = omega (arith, e) in ap (λ j. marks_accesses j b) z
accessed_both k n (q ∷ a) b e =
    let z : n ≡ suc k + length a = omega (arith, e) in
    let emit_context = place_access k q.place in
    ap (λ l. emit_context ++ l) (accessed_both (suc k) n a b z) ∙ sym (append_assoc emit_context (marks_accesses (suc k) a) (marks_accesses n b))

both_accesses : (emit_context rest : List Access) (a b : List ℕ) → map access_point emit_context ≡ a → map access_point rest ≡ b → map access_point (emit_context ++ rest) ≡ a ++ b
both_accesses emit_context rest a b e f = map-append access_point emit_context rest ∙ ap (λ l. l ++ map access_point rest) e ∙ ap (λ l. a ++ l) f

accesses_tree : (k : ℕ) (of : Names) (above : List ℕ) (t : Tree) → map access_point (accesses_from k (tree_points of above t)) ≡ marks_accesses k (tree_marks t)
accesses_tree k of above (Do s t) =
    both_accesses (place_accesses k (At (Does s))) (accesses_from (suc k) (tree_points (names_after of s) (above ++ step_values s) t)) (step_access k s) (marks_accesses (suc k) (tree_marks t))
    (step_accessed k s) (accesses_tree (suc k) (names_after of s) (above ++ step_values s) t)
accesses_tree k of above (If c x y t u) =
    let ts = tree_points of above t in
    let us = tree_points of above u in
    let n = suc k + nodes t in
    let z : n ≡ suc k + length ts = let m = length-tree_points of above t in omega (arith, m) in
    let w : n ≡ suc k + length (tree_marks t) = let m = marks_many t in omega (arith, m) in
    ap (map access_point) (accesses_both (suc k) n ts us z)
    ∙ both_accesses (accesses_from (suc k) ts) (accesses_from n us) (marks_accesses (suc k) (tree_marks t)) (marks_accesses n (tree_marks u)) (accesses_tree (suc k) of above t) (accesses_tree n of above u)
    ∙ sym (accessed_both (suc k) n (tree_marks t) (tree_marks u) w)
accesses_tree k of above (End l) = refl

accesses_labels : (k l : ℕ) (ls : List Label) → map access_point (accesses_from k (points_from l ls)) ≡ marks_accesses k (marks_from l ls)
accesses_labels k l [] = refl
accesses_labels k l (x ∷ ls) =
    let ts = tree_points own x.params x.body in
    let us = points_from (suc l) ls in
    let n = suc k + nodes x.body in
    let z : n ≡ suc k + length ts = let m = length-tree_points own x.params x.body in omega (arith, m) in
    let w : n ≡ suc k + length (tree_marks x.body) = let m = marks_many x.body in omega (arith, m) in
    ap (map access_point) (accesses_both (suc k) n ts us z)
    ∙ both_accesses (accesses_from (suc k) ts) (accesses_from n us) (marks_accesses (suc k) (tree_marks x.body)) (marks_accesses n (marks_from (suc l) ls)) (accesses_tree (suc k) own x.params x.body) (accesses_labels n (suc l) ls)
    ∙ sym (accessed_both (suc k) n (tree_marks x.body) (marks_from (suc l) ls) w)

pub accesses_by_marks : (labels : List Label) → map (λ a. a.point) (accesses labels) ≡ marks_accesses 0 (marks labels)
accesses_by_marks labels = accesses_labels 0 0 labels

step_one : (k : ℕ) (s : Step) → (step_access k s ≡ []) ⊎ (step_access k s ≡ k ∷ [])
step_one k (Lit x v) = inl refl
step_one k (Una x op y) = inl refl
step_one k (Bin x op y z) = inl refl
step_one k (Clone xs y) = inl refl
step_one k (Read m xs y) = inr refl
step_one k (Write m y xs) = inr refl

place_one : (k : ℕ) (q : PointKind) → (place_access k q ≡ []) ⊎ (place_access k q ≡ k ∷ [])
place_one k (Entry l params) = inl refl
place_one k (At (Does s)) = step_one k s
place_one k (At (Forks c x y)) = inl refl
place_one k (At (Ends l)) = inl refl

-- numbers that rise, from k on
abbrev pub RisesFrom : ℕ → List ℕ → Type 0
RisesFrom k xs = Rises xs × AllByRecursion (λ x. k ≤ x) xs

rises_cons : (k : ℕ) (xs : List ℕ) → RisesFrom (suc k) xs → RisesFrom k (k ∷ xs)
rises_cons k [] h = (tt, (omega arith, tt))
rises_cons k (x ∷ xs) h =
    let up : suc k ≤ x = h.1.0 in (
      (omega (arith, up), h.0),
      (omega arith, all_map (λ x. suc k ≤ x) (λ x. k ≤ x) (x ∷ xs) (λ x l. omega (arith, l)) h.1),
    )

rises_later : (k : ℕ) (xs : List ℕ) → RisesFrom (suc k) xs → RisesFrom k xs
rises_later k xs h = (h.0, all_map (λ x. suc k ≤ x) (λ x. k ≤ x) xs (λ x l. omega (arith, l)) h.1)

rises_marks : (k : ℕ) (qs : List Mark) → RisesFrom k (marks_accesses k qs)
rises_marks k [] = (tt, tt)
rises_marks k (q ∷ qs) =
    let rest = marks_accesses (suc k) qs in
    ⊎_elim
    (λ (e : place_access k q.place ≡ []). subst (λ l. RisesFrom k (l ++ rest)) (sym e) (rises_later k rest (rises_marks (suc k) qs)))
    (λ (e : place_access k q.place ≡ k ∷ []). subst (λ l. RisesFrom k (l ++ rest)) (sym e) (rises_cons k rest (rises_marks (suc k) qs)))
    (place_one k q.place)

pub accesses_rise : (labels : List Label) → Rises (map (λ a. a.point) (accesses labels))
accesses_rise labels = subst Rises (sym (accesses_by_marks labels)) (rises_marks 0 (marks labels)).0

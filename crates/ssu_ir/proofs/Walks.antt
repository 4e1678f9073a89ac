-- Steps of walks.
use Rattle.std.proofs.Common.{◌≡◌, ℕ, ◌+◌, ◌-◌, ◌<◌, ◌≤◌, zero, suc, List, [], ◌∷◌, ◌++◌, length, map, Option, Some, refl, sym, ap, ◌∙◌, arith, rules, append_assoc, length-append}
use Rattle.std.specs.Prelude.{reverse, IsSome, slice_get}
use Rattle.nv_base.specs.declared.term.Cmp.{Cmp}
use Rattle.std.proofs.lemmas.List.{map-append, reverse-append, reverse-reverse}
use Rattle.ssu_ir.specs.declared.node.SsuNode.{SsuNode}
use Rattle.ssu_ir.specs.declared.node.SsuLabel.{SsuLabel}
use Rattle.ssu_ir.specs.declared.node.NodeId.{NodeId}
use Rattle.ssu_ir.specs.declared.ssu.Ssu.{Ssu}
use Rattle.ssu_ir.specs.Tree.{Step, Last, Tree, Label, Node, Do, If, End, Does, Forks, Ends}
use Rattle.ssu_ir.specs.Slots.{node_of, successors_of, over, Placed, root, roots_of, successor_list, bare, bare_all, preorder, preorder_all, Slots, slot, Stands, AllStand, placed_in, Formed, bodies}
use Rattle.ssu_ir.specs.View.{placed_of, with_bodies, labels_view}
use Rattle.ssu_ir.specs.Work.{nums, tops, Todo}
use Rattle.ssu_ir.proofs.Trees.{arity}
use Rattle.ssu_ir.proofs.Reading.{read_in, Below, there_is, below}
use Rattle.ssu_ir.proofs.Arranged.{all_stand-append}

pub tops_push : (xs : List NodeId) (x : NodeId) → tops (xs ++ x ∷ []) ≡ x.0 ∷ tops xs
tops_push xs x = ap nums (reverse-append xs (x ∷ []))

pub tops_pop : (old new : List NodeId) (x : NodeId) → old ≡ new ++ x ∷ [] → tops old ≡ x.0 ∷ tops new
tops_pop old new x e = ap tops e ∙ tops_push new x

pub nums-append : (a b : List NodeId) → nums (a ++ b) ≡ nums a ++ nums b
nums-append [] b = refl
nums-append (x ∷ a) b = ap (λ l. x.0 ∷ l) (nums-append a b)

nums-bodies : (ls : List SsuLabel) → nums (map (λ l. l.body) ls) ≡ bodies ls
nums-bodies [] = refl
nums-bodies (l ∷ ls) = ap (λ m. l.body.0 ∷ m) (nums-bodies ls)

reverse-map_bodies : (ls : List SsuLabel) → reverse (map (λ l. l.body) ls) ≡ map (λ l. l.body) (reverse ls)
reverse-map_bodies [] = refl
reverse-map_bodies (l ∷ ls) =
    reverse-append (l.body ∷ []) (map (λ m. m.body) ls)
    ∙ ap (λ m. m ++ l.body ∷ []) (reverse-map_bodies ls)
    ∙ sym (map-append (λ m. m.body) (reverse ls) (l ∷ []))
    ∙ ap (map (λ m. m.body)) (sym (reverse-append (l ∷ []) ls))

pub tops-starts : (ls : List SsuLabel) → tops (map (λ l. l.body) (reverse ls)) ≡ bodies ls
tops-starts ls = ap tops (sym (reverse-map_bodies ls)) ∙ ap nums (reverse-reverse (map (λ l. l.body) ls)) ∙ nums-bodies ls

pub preorder_all-append : (a b : List Placed) → preorder_all (a ++ b) ≡ preorder_all a ++ preorder_all b
preorder_all-append [] b = refl
preorder_all-append (p ∷ a) b = ap (λ l. preorder p ++ l) (preorder_all-append a b) ∙ sym (append_assoc (preorder p) (preorder_all a) (preorder_all b))

pub roots_of-append : (a b : List Placed) → roots_of (a ++ b) ≡ roots_of a ++ roots_of b
roots_of-append [] b = refl
roots_of-append (p ∷ a) b = ap (λ l. root p ∷ l) (roots_of-append a b)

-- the work at the start
abbrev pub todo_start : (slots : Slots) (is : List ℕ) → Formed slots is → Todo slots is
todo_start slots is f = record { left = placed_in slots is; at_numbers = (read_in slots is f).at_numbers; stand = (read_in slots is f).stand }

-- the tree that is next, and the others
pub record Next (slots : Slots) (i : ℕ) (rest : List ℕ) (left : List Placed) : Type 0 where
  pub top : Placed
  pub others : List Placed
  pub is : left ≡ top ∷ others
  pub at_number : root top ≡ i
  pub at_rest : roots_of others ≡ rest
  pub stands : Stands slots top
  pub stand : AllStand slots others

pub next : (slots : Slots) (i : ℕ) (rest : List ℕ) (left : List Placed) → roots_of left ≡ i ∷ rest → AllStand slots left → Next slots i rest left
next slots i rest [] e h = absurd (cc)
next slots i rest (p ∷ ps) e h = record { top = p; others = ps; is = refl; at_number = cc; at_rest = cc; stands = h.0; stand = h.1 }

-- the work after that tree's root
abbrev pub todo_next : (slots : Slots) (i : ℕ) (rest work : List ℕ) (left : List Placed) (t : Next slots i rest left) (n : SsuNode) → Below slots t.top n → work ≡ successors_of n ++ rest → Todo slots work
todo_next slots i rest work left t n b e = record {
  left = successor_list t.top ++ t.others;
  at_numbers = roots_of-append (successor_list t.top) t.others ∙ ap (λ l. l ++ roots_of t.others) (sym b.numbers) ∙ ap (λ l. successors_of n ++ l) t.at_rest ∙ sym e;
  stand = all_stand-append slots (successor_list t.top) t.others b.stand t.stand;
}

-- ---- steps, by what the calls of a loop ensure

abbrev pub next_of : (slots : Slots) (old mid : List NodeId) (x : NodeId) → old ≡ mid ++ x ∷ [] → (t : Todo slots (tops old)) → Next slots x.0 (tops mid) t.left
next_of slots old mid x e t = next slots x.0 (tops mid) t.left (t.at_numbers ∙ tops_pop old mid x e) t.stand

pub is_some_from : (o : Option SsuNode) (n : SsuNode) → o ≡ Some n → IsSome o
is_some_from o n e = rw e (search rules)

-- the popped number names a node
pub present : (slots : Slots) (old mid : List NodeId) (x : NodeId) → old ≡ mid ++ x ∷ [] → Todo slots (tops old) → IsSome (slot slots x.0)
present slots old mid x e t =
    let d = next_of slots old mid x e t in
    let w = there_is slots d.top d.stands in
    is_some_from _ w.0 (ap (slot slots) (sym d.at_number) ∙ w.1)

pub below_of : (slots : Slots) (old mid : List NodeId) (x : NodeId) (e : old ≡ mid ++ x ∷ []) (t : Todo slots (tops old)) (n : SsuNode) → slot slots x.0 ≡ Some n → Below slots (next_of slots old mid x e t).top n
below_of slots old mid x e t n f =
    let d = next_of slots old mid x e t in
    below slots d.top n d.stands (ap (slot slots) d.at_number ∙ f)

nothing_left : (ps : List Placed) → roots_of ps ≡ [] → ps ≡ []
nothing_left [] e = refl
nothing_left (p ∷ ps) e = absurd (cc)

pub none_left : (slots : Slots) (work : List NodeId) (t : Todo slots (tops work)) → work ≡ [] → t.left ≡ []
none_left slots work t e = nothing_left t.left (t.at_numbers ∙ ap tops e)

-- ---- sums over trees

abbrev pub sum_trees : (Tree → ℕ) → List Tree → ℕ
sum_trees F [] = 0
sum_trees F (t ∷ ts) = F t + sum_trees F ts

-- what a tree counts is the sum of what its nodes count
pub record IsSum (f : Node → ℕ) (F : Tree → ℕ) : Type 0 where
  pub at_do : (s : Step) (t : Tree) → F (Do s t) ≡ f (Does s) + F t
  pub at_if : (c : Cmp) (x y : ℕ) (t u : Tree) → F (If c x y t u) ≡ f (Forks c x y) + (F t + F u)
  pub at_end : (l : Last) → F (End l) ≡ f (Ends l)

pub sum-over : (f : Node → ℕ) (F : Tree → ℕ) → IsSum f F → (n : Node) (ts : List Tree) → length ts ≡ arity n → F (over n ts) ≡ f n + sum_trees F ts
sum-over f F k (Does s) [] a = absurd (omega arith)
sum-over f F k (Does s) (t ∷ []) a = omega (arith, k.at_do s t)
sum-over f F k (Does s) (t ∷ u ∷ ts) a = absurd (omega arith)
sum-over f F k (Forks c x y) [] a = absurd (omega arith)
sum-over f F k (Forks c x y) (t ∷ []) a = absurd (omega arith)
sum-over f F k (Forks c x y) (t ∷ u ∷ []) a = omega (arith, k.at_if c x y t u)
sum-over f F k (Forks c x y) (t ∷ u ∷ v ∷ ts) a = absurd (omega arith)
sum-over f F k (Ends l) [] a = omega (arith, k.at_end l)
sum-over f F k (Ends l) (t ∷ ts) a = absurd (omega arith)

pub sum_trees-append : (F : Tree → ℕ) (a b : List Placed) → sum_trees F (bare_all (a ++ b)) ≡ sum_trees F (bare_all a) + sum_trees F (bare_all b)
sum_trees-append F [] b = omega arith
sum_trees-append F (p ∷ a) b = omega (arith, sum_trees-append F a b)

length-bare_all : (ps : List Placed) → length (bare_all ps) ≡ length ps
length-bare_all [] = refl
length-bare_all (p ∷ ps) = omega (arith, length-bare_all ps)

-- what a node counts and what is below it
pub sum_below : (f : Node → ℕ) (F : Tree → ℕ) → IsSum f F → (slots : Slots) (p : Placed) (n : SsuNode) → Below slots p n → F (bare p) ≡ f (node_of n) + sum_trees F (bare_all (successor_list p))
sum_below f F k slots p n b = ap F b.tree ∙ sum-over f F k (node_of n) (bare_all (successor_list p)) (length-bare_all (successor_list p) ∙ b.many)

-- after a node, what is counted and what is still to be counted is the whole
pub record SumStep (F : Tree → ℕ) (slots : Slots) (new : List NodeId) (total goal : ℕ) : Type 0 where
  pub todo : Todo slots (tops new)
  pub sum : total + sum_trees F (bare_all todo.left) ≡ goal

-- what a node counts is within the whole
pub sum_within : (f : Node → ℕ) (F : Tree → ℕ) → IsSum f F → (slots : Slots) (old mid : List NodeId) (x : NodeId) (n : SsuNode) (total goal : ℕ) → old ≡ mid ++ x ∷ [] → slot slots x.0 ≡ Some n → (t : Todo slots (tops old)) → total + sum_trees F (bare_all t.left) ≡ goal → total + f (node_of n) ≤ goal
sum_within f F k slots old mid x n total goal e g t sum =
    let d = next_of slots old mid x e t in
    let b = sum_below f F k slots d.top n (below_of slots old mid x e t n g) in
    let s : sum_trees F (bare_all t.left) ≡ F (bare d.top) + sum_trees F (bare_all d.others) = ap (λ l. sum_trees F (bare_all l)) d.is in
    omega (arith, b)

pub sum_step : (f : Node → ℕ) (F : Tree → ℕ) → IsSum f F → (slots : Slots) (old mid new : List NodeId) (x : NodeId) (n : SsuNode) (total goal : ℕ) → old ≡ mid ++ x ∷ [] → slot slots x.0 ≡ Some n → tops new ≡ successors_of n ++ tops mid → (t : Todo slots (tops old)) → total + sum_trees F (bare_all t.left) ≡ goal → SumStep F slots new (total + f (node_of n)) goal
sum_step f F k slots old mid new x n total goal e g h t sum =
    let d = next_of slots old mid x e t in
    let w = below_of slots old mid x e t n g in
    let b = sum_below f F k slots d.top n w in
    let s : sum_trees F (bare_all t.left) ≡ F (bare d.top) + sum_trees F (bare_all d.others) = ap (λ l. sum_trees F (bare_all l)) d.is in
    record {
      todo = todo_next slots x.0 (tops mid) (tops new) t.left d n w h;
      sum = omega (arith, b, sum_trees-append F (successor_list d.top) d.others);
    }

-- ---- the order of a walk

pub record OrderStep (slots : Slots) (new order : List NodeId) (goal : List ℕ) : Type 0 where
  pub todo : Todo slots (tops new)
  pub so_far : nums order ++ preorder_all todo.left ≡ goal

pub order_step : (slots : Slots) (old mid new order more : List NodeId) (x : NodeId) (n : SsuNode) (goal : List ℕ) → old ≡ mid ++ x ∷ [] → slot slots x.0 ≡ Some n → tops new ≡ successors_of n ++ tops mid → more ≡ order ++ x ∷ [] → (t : Todo slots (tops old)) → nums order ++ preorder_all t.left ≡ goal → OrderStep slots new more goal
order_step slots old mid new order more x n goal e f k o t so_far =
    let d = next_of slots old mid x e t in
    let b = below_of slots old mid x e t n f in
    let s : preorder_all t.left ≡ x.0 ∷ (preorder_all (successor_list d.top) ++ preorder_all d.others) = ap preorder_all d.is ∙ ap (λ l. l ++ preorder_all d.others) b.order ∙ ap (λ i. i ∷ (preorder_all (successor_list d.top) ++ preorder_all d.others)) d.at_number in
    record {
      todo = todo_next slots x.0 (tops mid) (tops new) t.left d n b k;
      so_far =
          ap (λ l. nums l ++ preorder_all (successor_list d.top ++ d.others)) o
          ∙ ap (λ l. l ++ preorder_all (successor_list d.top ++ d.others)) (nums-append order (x ∷ []))
          ∙ append_assoc (nums order) (x.0 ∷ []) (preorder_all (successor_list d.top ++ d.others))
          ∙ ap (λ l. nums order ++ (x.0 ∷ l)) (preorder_all-append (successor_list d.top) d.others)
          ∙ ap (λ l. nums order ++ l) (sym s)
          ∙ so_far;
    }

pub order_smaller : (order more : List NodeId) (x : NodeId) (left goal : List ℕ) → more ≡ order ++ x ∷ [] → nums more ++ left ≡ goal → length goal - length (nums more) < length goal - length (nums order)
order_smaller order more x left goal o e =
    let m : length (nums more) ≡ length (nums order) + 1 = ap (λ l. length (nums l)) o ∙ ap length (nums-append order (x ∷ [])) ∙ length-append (nums order) (x.0 ∷ []) in
    let w : length (nums more) + length left ≡ length goal = sym (length-append (nums more) left) ∙ ap length e in
    omega arith

-- ---- a label and its tree

pub record LabelAt (slots : Slots) (view : List Label) (k : ℕ) (l : SsuLabel) : Type 0 where
  pub placed : Placed
  pub at_body : root placed ≡ l.body.0
  pub stands : Stands slots placed
  pub view_is : slice_get view k ≡ Some (record { params = l.params.items; body = bare placed })

label_in : (slots : Slots) (ls : List SsuLabel) (ps : List Placed) (k : ℕ) (l : SsuLabel) → roots_of ps ≡ bodies ls → AllStand slots ps → slice_get ls k ≡ Some l → LabelAt slots (with_bodies ls (bare_all ps)) k l
label_in slots [] ps k l r h e = absurd (cc)
label_in slots (m ∷ ls) [] k l r h e = absurd (cc)
label_in slots (m ∷ ls) (p ∷ ps) zero l r h e =
    let same : m ≡ l = cc in
    let at : root p ≡ m.body.0 = cc in record {
      placed = p;
      at_body = at ∙ ap (λ x. x.body.0) same;
      stands = h.0;
      view_is = ap (λ x. Some (record { params = x.params.items; body = bare p })) same;
    }
label_in slots (m ∷ ls) (p ∷ ps) (suc k) l r h e =
    let rest : roots_of ps ≡ bodies ls = cc in
    let d = label_in slots ls ps k l rest h.1 e in
    record { placed = d.placed; at_body = d.at_body; stands = d.stands; view_is = d.view_is }

-- the body of a label is the root of its tree, which stands
pub label_at : (s : Ssu) (k : ℕ) (l : SsuLabel) → Formed s.nodes.slots (bodies s.labels.items) → slice_get s.labels.items k ≡ Some l → LabelAt s.nodes.slots (labels_view s) k l
label_at s k l f e =
    let r = read_in s.nodes.slots (bodies s.labels.items) f in
    label_in s.nodes.slots s.labels.items (placed_of s) k l r.at_numbers r.stand e

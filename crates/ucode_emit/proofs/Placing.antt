-- Where the piece of each point stands in the code, and in the lists that go by points.
use Rattle.std.proofs.Common.{◌≡◌, ℕ, zero, suc, ◌+◌, ◌<◌, List, [], ◌∷◌, ◌++◌, map, length, Some, None, refl, sym, ap, ◌∙◌, subst, arith, slice_get, slice_index_or}
use Rattle.std.proofs.lemmas.Option.{none-some, same_Some}
use Rattle.std.proofs.lemmas.List.{append-nil, map-append, length-map, length-append}
use Rattle.nv_base.specs.declared.term.Bin.TheVariants.{Sub}
use Rattle.nv_base.specs.declared.term.Cmp.{Cmp}
use Rattle.uc_isa.specs.declared.instruction.Instr.{Instr}
use Rattle.uc_isa.specs.declared.instruction.Instr.TheVariants as instr
use Rattle.uc_isa.specs.declared.instruction.Dst.TheVariants as dst
use Rattle.uc_isa.specs.declared.instruction.Cond.{Cond}
use Rattle.uc_isa.specs.Registers.{failing}
use Rattle.uc_isa.specs.Straight.{Stands as InCode}
use Rattle.uc_isa.proofs.Listing.{stands-left, stands-right}
use Rattle.ssu_ir.specs.Tree.{Step, Tree, Do, If, End, Label, step_values}
use Rattle.ssu_ir.specs.Points.{Names, own, names_after, points, points_from, tree_points, nodes}
use Rattle.ssu_ir.proofs.PointLemmas.{length-tree_points}
use Rattle.ssu_ir.proofs.Lists.{get-left}
use Rattle.place_plan.specs.Plan.{Plan}
use Rattle.ucode_emit.specs.Moves.{Move}
use Rattle.ucode_emit.specs.Pieces.{Item, Plain, Branch, operands, operand_at, source, moved, move_instr, instr_of, Sequences, sequence_at, step_items, fork_items, single_moves, all_copies, entry_point, tree_items, label_items, items_from, items, tree_starts, starts_from, starts, tree_moves, label_moves, moves_from, parallel_moves}
use Rattle.ucode_emit.specs.inner.Machine.{move_instrs}
use Rattle.ucode_emit.specs.inner.Layers.{PointsAt}
use Rattle.ucode_emit.proofs.PointsEach.{get_append}

-- ---- lists

pub there_by_length : {X Y : Type 0} (xs : List X) (ys : List Y) (k : ℕ) (x : X) (d : Y) → length ys ≡ length xs → slice_get xs k ≡ Some x → slice_get ys k ≡ Some (slice_index_or ys k d)
there_by_length [] ys k x d n e = absurd (none-some x e)
there_by_length (z ∷ xs) [] k x d n e = absurd (omega (arith, n))
there_by_length (z ∷ xs) (y ∷ ys) zero x d n e = refl
there_by_length (z ∷ xs) (y ∷ ys) (suc k) x d n e = let m : length ys ≡ length xs = omega (arith, n) in there_by_length xs ys k x d m e

-- a list stands in another from a number on
pub record Part {X : Type 0} (k : ℕ) (xs all : List X) : Type 0 where
  pub each : (i : ℕ) (x : X) → slice_get xs i ≡ Some x → slice_get all (k + i) ≡ Some x

pub part_whole : {X : Type 0} (xs : List X) → Part 0 xs xs
part_whole xs = record { each = λ i x e. let z : 0 + i ≡ i = omega arith in ap (slice_get xs) z ∙ e }

pub part_head : {X : Type 0} (k : ℕ) (x : X) (xs all : List X) → Part k (x ∷ xs) all → slice_get all k ≡ Some x
part_head k x xs all h = let z : k ≡ k + 0 = omega arith in ap (slice_get all) z ∙ h.each 0 x refl

pub part_tail : {X : Type 0} (k : ℕ) (x : X) (xs all : List X) → Part k (x ∷ xs) all → Part (suc k) xs all
part_tail k x xs all h = record { each = λ i y e. let z : suc k + i ≡ k + suc i = omega arith in ap (slice_get all) z ∙ h.each (suc i) y e }

pub part_left : {X : Type 0} (k : ℕ) (a b all : List X) → Part k (a ++ b) all → Part k a all
part_left k a b all h = record { each = λ i x e. h.each i x (get-left a b i x e) }

pub part_right : {X : Type 0} (k n : ℕ) (a b all : List X) → n ≡ k + length a → Part k (a ++ b) all → Part n b all
part_right k n a b all m h = record {
  each = λ i x e. let z : n + i ≡ k + (length a + i) = omega (arith, m) in
      ap (slice_get all) z ∙ h.each (length a + i) x (get_append a b i (length a) refl ∙ e);
}

-- ---- as many as there are points

one_more : (a b : ℕ) → a ≡ b → suc a ≡ 1 + b
one_more a b e = omega (arith, e)

arms_many : (all a b m n : ℕ) → all ≡ a + b → a ≡ m → b ≡ n → suc all ≡ 1 + (m + n)
arms_many all a b m n e f g = omega (arith, e, f, g)

pub starts_many : (labels : List Label) (p : Plan) (mss : Sequences) (at k : ℕ) (t : Tree) → length (tree_starts labels p mss at k t) ≡ nodes t
starts_many labels p mss at k (Do s t) =
    one_more (length (tree_starts labels p mss (at + length (step_items p k s)) (suc k) t)) (nodes t) (starts_many labels p mss (at + length (step_items p k s)) (suc k) t)
starts_many labels p mss at k (If c x y t u) =
    let first = at + length (fork_items p k (failing c) 0) in
    let second = first + length (tree_items labels p mss (suc k) t) in
    let ts = tree_starts labels p mss first (suc k) t in
    let us = tree_starts labels p mss second (suc k + nodes t) u in
    arms_many (length (ts ++ us)) (length ts) (length us) (nodes t) (nodes u) (length-append ts us) (starts_many labels p mss first (suc k) t) (starts_many labels p mss second (suc k + nodes t) u)
starts_many labels p mss at k (End l) = refl

pub moves_many : (p : Plan) (k : ℕ) (t : Tree) → length (tree_moves p k t) ≡ nodes t
moves_many p k (Do s t) = one_more (length (tree_moves p (suc k) t)) (nodes t) (moves_many p (suc k) t)
moves_many p k (If c x y t u) =
    let ts = tree_moves p (suc k) t in
    let us = tree_moves p (suc k + nodes t) u in
    arms_many (length (ts ++ us)) (length ts) (length us) (nodes t) (nodes u) (length-append ts us) (moves_many p (suc k) t) (moves_many p (suc k + nodes t) u)
moves_many p k (End l) = refl

pub label_moves_many : (p : Plan) (k : ℕ) (l : Label) → length (label_moves p k l) ≡ suc (nodes l.body)
label_moves_many p zero l = ap suc (moves_many p 1 l.body)
label_moves_many p (suc k) l = ap suc (moves_many p (suc (suc k)) l.body)

-- ---- instructions of items

pub moves_as_items : (places : List ℕ) (ms : List Move) → map (instr_of places) (moved ms) ≡ move_instrs ms
moves_as_items places [] = refl
moves_as_items places (m ∷ ms) = ap (λ l. move_instr m.0 m.1 ∷ l) (moves_as_items places ms)

pub items_long : (ms : List Move) → length (moved ms) ≡ length ms
items_long [] = refl
items_long (m ∷ ms) = ap suc (items_long ms)

-- items stand in the code from a place on
abbrev pub ItemsIn : List Instr → List ℕ → ℕ → List Item → Type 0
ItemsIn code places at is = InCode code at (map (instr_of places) is)

pub items_left : (code : List Instr) (places : List ℕ) (at : ℕ) (a b : List Item) → ItemsIn code places at (a ++ b) → ItemsIn code places at a
items_left code places at a b h =
    stands-left code at (map (instr_of places) a) (map (instr_of places) b) (subst (λ l. InCode code at l) (map-append (instr_of places) a b) h)

pub items_right : (code : List Instr) (places : List ℕ) (at to : ℕ) (a b : List Item) → to ≡ at + length a → ItemsIn code places at (a ++ b) → ItemsIn code places to b
items_right code places at to a b e h =
    let r = stands-right code at (map (instr_of places) a) (map (instr_of places) b) (subst (λ l. InCode code at l) (map-append (instr_of places) a b) h) in
    subst (λ n. InCode code n (map (instr_of places) b)) (ap (λ n. at + n) (length-map a (instr_of places)) ∙ sym e) r

-- ---- where a tree stands: its code, the places of its points, its points, and their parallel moves

pub record TreeAt (labels : List Label) (p : Plan) (mss : Sequences) (code : List Instr) (places : List ℕ) (k at : ℕ) (of : Names) (above : List ℕ) (t : Tree) : Type 0 where
  pub in_code : ItemsIn code places at (tree_items labels p mss k t)
  pub begins : Part k (tree_starts labels p mss at k t) places
  pub moves : Part k (tree_moves p k t) (parallel_moves p labels)
  pub points_ : PointsAt labels k of above t

part_points : (labels : List Label) (k : ℕ) (of : Names) (above : List ℕ) (t : Tree) → Part k (tree_points of above t) (points labels) → PointsAt labels k of above t
part_points labels k of above t h = record { each = h.each }

-- where the first point of a tree begins
pub root_begins : (labels : List Label) (p : Plan) (mss : Sequences) (places : List ℕ) (at k n : ℕ) (t : Tree) → Part n (tree_starts labels p mss at k t) places → slice_get places n ≡ Some at
root_begins labels p mss places at k n (Do s t) h = part_head n at (tree_starts labels p mss (at + length (step_items p k s)) (suc k) t) places h
root_begins labels p mss places at k n (If c x y t u) h =
    let first = at + length (fork_items p k (failing c) 0) in
    part_head n at (tree_starts labels p mss first (suc k) t ++ tree_starts labels p mss (first + length (tree_items labels p mss (suc k) t)) (suc k + nodes t) u) places h
root_begins labels p mss places at k n (End l) h = part_head n at [] places h

pub tree_rest : (labels : List Label) (p : Plan) (mss : Sequences) (code : List Instr) (places : List ℕ) (k at : ℕ) (of : Names) (above : List ℕ) (s : Step) (t : Tree)
    → TreeAt labels p mss code places k at of above (Do s t) → TreeAt labels p mss code places (suc k) (at + length (step_items p k s)) (names_after of s) (above ++ step_values s) t
tree_rest labels p mss code places k at of above s t h = record {
  in_code = items_right code places at (at + length (step_items p k s)) (step_items p k s) (tree_items labels p mss (suc k) t) refl h.in_code;
  begins = part_tail k at (tree_starts labels p mss (at + length (step_items p k s)) (suc k) t) places h.begins;
  moves = part_tail k [] (tree_moves p (suc k) t) (parallel_moves p labels) h.moves;
  points_ = record { each = λ i q e. let z : suc k + i ≡ k + suc i = omega arith in ap (slice_get (points labels)) z ∙ h.points_.each (suc i) q e };
}

-- a fork is as long wherever it branches to
pub forks_long : (p : Plan) (k : ℕ) (c : Cond) (a b : ℕ) → length (fork_items p k c a) ≡ length (fork_items p k c b)
forks_long p k c a b =
    let test = Plain (instr.Alu dst.Nowhere Sub (source (operand_at p k 0)) (source (operand_at p k 1))) in
    length-append (moved (operands p k 2)) (test ∷ Branch c a ∷ []) ∙ sym (length-append (moved (operands p k 2)) (test ∷ Branch c b ∷ []))

arms_split : (labels : List Label) (k : ℕ) (of : Names) (above : List ℕ) (c : Cmp) (x y : ℕ) (t u : Tree) → PointsAt labels k of above (If c x y t u) → Part (suc k) (tree_points of above t ++ tree_points of above u) (points labels)
arms_split labels k of above c x y t u h = record { each = λ i q e. let z : suc k + i ≡ k + suc i = omega arith in ap (slice_get (points labels)) z ∙ h.each (suc i) q e }

pub tree_first : (labels : List Label) (p : Plan) (mss : Sequences) (code : List Instr) (places : List ℕ) (k at : ℕ) (of : Names) (above : List ℕ) (c : Cmp) (x y : ℕ) (t u : Tree)
    → TreeAt labels p mss code places k at of above (If c x y t u) → TreeAt labels p mss code places (suc k) (at + length (fork_items p k (failing c) 0)) of above t
tree_first labels p mss code places k at of above c x y t u h =
    let first = at + length (fork_items p k (failing c) 0) in
    let second = first + length (tree_items labels p mss (suc k) t) in
    let ts = tree_starts labels p mss first (suc k) t in
    let us = tree_starts labels p mss second (suc k + nodes t) u in
    let fork = fork_items p k (failing c) (suc k + nodes t) in
    let rest = items_right code places at first fork (tree_items labels p mss (suc k) t ++ tree_items labels p mss (suc k + nodes t) u)
    (ap (λ n. at + n) (forks_long p k (failing c) 0 (suc k + nodes t))) h.in_code in
    record {
      in_code = items_left code places first (tree_items labels p mss (suc k) t) (tree_items labels p mss (suc k + nodes t) u) rest;
      begins = part_left (suc k) ts us places (part_tail k at (ts ++ us) places h.begins);
      moves = part_left (suc k) (tree_moves p (suc k) t) (tree_moves p (suc k + nodes t) u) (parallel_moves p labels)
          (part_tail k [] (tree_moves p (suc k) t ++ tree_moves p (suc k + nodes t) u) (parallel_moves p labels) h.moves);
      points_ = part_points labels (suc k) of above t (part_left (suc k) (tree_points of above t) (tree_points of above u) (points labels) (arms_split labels k of above c x y t u h.points_));
    }

pub tree_second : (labels : List Label) (p : Plan) (mss : Sequences) (code : List Instr) (places : List ℕ) (k at : ℕ) (of : Names) (above : List ℕ) (c : Cmp) (x y : ℕ) (t u : Tree)
    → TreeAt labels p mss code places k at of above (If c x y t u)
    → TreeAt labels p mss code places (suc k + nodes t) (at + length (fork_items p k (failing c) 0) + length (tree_items labels p mss (suc k) t)) of above u
tree_second labels p mss code places k at of above c x y t u h =
    let first = at + length (fork_items p k (failing c) 0) in
    let second = first + length (tree_items labels p mss (suc k) t) in
    let ts = tree_starts labels p mss first (suc k) t in
    let us = tree_starts labels p mss second (suc k + nodes t) u in
    let fork = fork_items p k (failing c) (suc k + nodes t) in
    let rest = items_right code places at first fork (tree_items labels p mss (suc k) t ++ tree_items labels p mss (suc k + nodes t) u)
    (ap (λ n. at + n) (forks_long p k (failing c) 0 (suc k + nodes t))) h.in_code in
    record {
      in_code = items_right code places first second (tree_items labels p mss (suc k) t) (tree_items labels p mss (suc k + nodes t) u) refl rest;
      begins = part_right (suc k) (suc k + nodes t) ts us places (ap (λ n. suc k + n) (sym (starts_many labels p mss first (suc k) t))) (part_tail k at (ts ++ us) places h.begins);
      moves = part_right (suc k) (suc k + nodes t) (tree_moves p (suc k) t) (tree_moves p (suc k + nodes t) u) (parallel_moves p labels) (ap (λ n. suc k + n) (sym (moves_many p (suc k) t)))
          (part_tail k [] (tree_moves p (suc k) t ++ tree_moves p (suc k + nodes t) u) (parallel_moves p labels) h.moves);
      points_ = part_points labels (suc k + nodes t) of above u
          (part_right (suc k) (suc k + nodes t) (tree_points of above t) (tree_points of above u) (points labels) (ap (λ n. suc k + n) (sym (length-tree_points of above t))) (arms_split labels k of above c x y t u h.points_));
    }

-- ---- where a label stands

abbrev pub entry_items : Plan → Sequences → ℕ → Label → List Item
entry_items p mss k l = moved (single_moves None (sequence_at mss k) ++ all_copies p k l.params)

pub record LabelAt (labels : List Label) (p : Plan) (mss : Sequences) (code : List Instr) (places : List ℕ) (k : ℕ) (l : Label) : Type 0 where
  pub at : ℕ
  pub begins : slice_get places k ≡ Some at
  pub in_code : ItemsIn code places at (entry_items p mss k l)
  pub moves : Part k (label_moves p k l) (parallel_moves p labels)
  pub body : TreeAt labels p mss code places (suc k) (at + length (entry_items p mss k l)) own l.params l.body

body_moves : (p : Plan) (k : ℕ) (l : Label) (all : List (List Move)) → Part k (label_moves p k l) all → Part (suc k) (tree_moves p (suc k) l.body) all
body_moves p zero l all h = part_tail _ _ _ all h
body_moves p (suc k) l all h = part_tail _ _ _ all h

label_here : (labels : List Label) (p : Plan) (mss : Sequences) (code : List Instr) (places : List ℕ) (k at n : ℕ) (l : Label) (ls : List Label)
    → ItemsIn code places at (items_from labels p mss k (l ∷ ls)) → Part k (starts_from labels p mss at k (l ∷ ls)) places
    → Part k (moves_from p k (l ∷ ls)) (parallel_moves p labels) → Part k (points_from n (l ∷ ls)) (points labels) → LabelAt labels p mss code places k l
label_here labels p mss code places k at n l ls h s m q =
    let front = length (single_moves None (sequence_at mss k) ++ all_copies p k l.params) in
    let body = tree_items labels p mss (suc k) l.body in
    let ts = tree_starts labels p mss (at + front) (suc k) l.body in
    let rest = starts_from labels p mss (at + length (label_items labels p mss k l)) (suc k + nodes l.body) ls in
    let own_starts = part_left k (at ∷ ts) rest places s in
    let own_moves = part_left k (label_moves p k l) (moves_from p (suc k + nodes l.body) ls) (parallel_moves p labels) m in
    let whole = items_left code places at (label_items labels p mss k l) (items_from labels p mss (suc k + nodes l.body) ls) h in
    let same : length (entry_items p mss k l) ≡ front = items_long (single_moves None (sequence_at mss k) ++ all_copies p k l.params) in
    record {
      at = at;
      begins = part_head k at ts places own_starts;
      in_code = items_left code places at (entry_items p mss k l) body whole;
      moves = own_moves;
      body = record {
        in_code = items_right code places at (at + length (entry_items p mss k l)) (entry_items p mss k l) body refl whole;
        begins = subst (λ f. Part (suc k) (tree_starts labels p mss (at + f) (suc k) l.body) places) (sym same) (part_tail k at ts places own_starts);
        moves = body_moves p k l (parallel_moves p labels) own_moves;
        points_ = part_points labels (suc k) own l.params l.body
            (part_left (suc k) (tree_points own l.params l.body) (points_from (suc n) ls) (points labels) (part_tail k _ (tree_points own l.params l.body ++ points_from (suc n) ls) (points labels) q));
      };
    }

label_from : (labels : List Label) (p : Plan) (mss : Sequences) (code : List Instr) (places : List ℕ) (k at n : ℕ) (ls : List Label) (l : ℕ) (to : Label)
    → ItemsIn code places at (items_from labels p mss k ls) → Part k (starts_from labels p mss at k ls) places
    → Part k (moves_from p k ls) (parallel_moves p labels) → Part k (points_from n ls) (points labels) → slice_get ls l ≡ Some to
    → LabelAt labels p mss code places (k + entry_point ls l) to
label_from labels p mss code places k at n [] l to h s m q e = absurd (none-some to e)
label_from labels p mss code places k at n (x ∷ ls) zero to h s m q e =
    let z : k ≡ k + 0 = omega arith in
    subst (λ j. LabelAt labels p mss code places j to) z (subst (λ y. LabelAt labels p mss code places k y) (same_Some x to e) (label_here labels p mss code places k at n x ls h s m q))
label_from labels p mss code places k at n (x ∷ ls) (suc l) to h s m q e =
    let j = suc k + nodes x.body in
    let z : j + entry_point ls l ≡ k + (suc (nodes x.body) + entry_point ls l) = omega arith in
    let front = length (single_moves None (sequence_at mss k) ++ all_copies p k x.params) in
    let ts = tree_starts labels p mss (at + front) (suc k) x.body in
    let next = at + length (label_items labels p mss k x) in
    let long : j ≡ k + length (at ∷ ts) = let a = starts_many labels p mss (at + front) (suc k) x.body in omega (arith, a) in
    let wide : j ≡ k + length (label_moves p k x) = let a = label_moves_many p k x in omega (arith, a) in
    let many : j ≡ suc k + length (tree_points own x.params x.body) = let a = length-tree_points own x.params x.body in omega (arith, a) in
    subst (λ i. LabelAt labels p mss code places i to) z
    (label_from labels p mss code places j next (suc n) ls l to
    (items_right code places at next (label_items labels p mss k x) (items_from labels p mss j ls) refl h)
    (part_right k j (at ∷ ts) (starts_from labels p mss next j ls) places long s)
    (part_right k j (label_moves p k x) (moves_from p j ls) (parallel_moves p labels) wide m)
    (part_right (suc k) j (tree_points own x.params x.body) (points_from (suc n) ls) (points labels) many (part_tail k _ (tree_points own x.params x.body ++ points_from (suc n) ls) (points labels) q))
    e)

abbrev pub code_of : List Label → Plan → Sequences → List Instr
code_of labels p mss = map (instr_of (starts labels p mss)) (items labels p mss)

code_whole : (code : List Instr) → InCode code 0 code
code_whole code = record { front = []; rest = []; split = sym (append-nil code); place = refl }

pub label_at : (labels : List Label) (p : Plan) (mss : Sequences) (l : ℕ) (to : Label) → slice_get labels l ≡ Some to
    → LabelAt labels p mss (code_of labels p mss) (starts labels p mss) (entry_point labels l) to
label_at labels p mss l to e =
    let z : 0 + entry_point labels l ≡ entry_point labels l = omega arith in
    subst (λ j. LabelAt labels p mss (code_of labels p mss) (starts labels p mss) j to) z
    (label_from labels p mss (code_of labels p mss) (starts labels p mss) 0 0 0 labels l to (code_whole (code_of labels p mss)) (part_whole (starts labels p mss)) (part_whole (parallel_moves p labels)) (part_whole (points labels)) e)

-- a label that isn't the first begins after the first point
pub entry_later : (labels : List Label) (l : ℕ) (to : Label) → slice_get labels (suc l) ≡ Some to → 0 < entry_point labels (suc l)
entry_later [] l to e = absurd (none-some to e)
entry_later (x ∷ ls) l to e = omega arith

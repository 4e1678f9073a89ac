-- The code of a form under a placement keeps the seven rules.
use Rattle.std.proofs.Common.{◌≡◌, ℕ, zero, suc, ◌+◌, ◌<◌, ◌≤◌, ◌&&◌, true, List, [], ◌∷◌, ◌++◌, map, length, Some, refl, sym, ap, ◌∙◌, subst, slice_get, arith}
use Rattle.std.specs.Prelude.{slice_index_or}
use Rattle.std.specs.List.{AllByRecursion, list_all}
use Rattle.std.proofs.lemmas.Bool.{and_parts, false≢true}
use Rattle.std.proofs.lemmas.List.{append-nil, length-map, length-append}
use Rattle.std.proofs.lemmas.Option.{none-some, same_Some}
use Rattle.nv_base.specs.Sets.{all_different}
use Rattle.uc_isa.specs.declared.instruction.Instr.{Instr}
use Rattle.uc_isa.specs.declared.instruction.Instr.TheVariants as instr
use Rattle.uc_isa.specs.declared.instruction.Cond.TheVariants.{Always}
use Rattle.uc_isa.specs.Registers.{failing}
use Rattle.uc_isa.specs.Lawful.{IsLawful, IsLawfulAt}
use Rattle.ssu_ir.specs.Tree.{Last, Jump, Halt, Tree, Do, If, End, Label, step_values}
use Rattle.ssu_ir.specs.Points.{Names, own, names_after, nodes}
use Rattle.ssu_ir.specs.Single.{all_defined, is_entry, is_single}
use Rattle.place_plan.specs.Plan.{Plan, pass}
use Rattle.ucode_emit.specs.Moves.{Move, temporary}
use Rattle.ucode_emit.specs.Pieces.{Item, Moved, Plain, Branch, instr_of, single_moves, all_copies, moved, step_items, fork_items, last_items, last_moves, entry_point, Sequences, sequence_at, tree_items, label_items, items_from, items, tree_starts, starts_from, starts, parallel_moves}
use Rattle.ucode_emit.specs.Emits.{AreSequences}
use Rattle.ucode_emit.specs.inner.Layers.{Placed, ReadyLayer}
use Rattle.ucode_emit.proofs.PointsEach.{all_both, all_get}
use Rattle.ucode_emit.proofs.Placing.{part_head, TreeAt, tree_rest, tree_first, tree_second, forks_long, items_long, label_at, code_of}
use Rattle.ucode_emit.proofs.LawfulItems.{IsGood, AreGood, IsEnd, item_lawful}
use Rattle.ucode_emit.proofs.LawfulPieces.{step_good, fork_good, last_good, sequence_here, front_moves, front_good, entry_good}

-- ---- all items are good

moved_both : (a b : List Move) → moved (a ++ b) ≡ moved a ++ moved b
moved_both [] b = refl
moved_both (m ∷ a) b = ap (λ l. Moved m.0 m.1 ∷ l) (moved_both a b)

tree_good : (labels : List Label) (p : Plan) (mss : Sequences) (code : List Instr) (places : List ℕ) (k at : ℕ) (of : Names) (above : List ℕ) (t : Tree) → Placed labels p → ReadyLayer labels p
    → AreSequences (parallel_moves p labels) mss → TreeAt labels p mss code places k at of above t → AreGood p.slots (tree_items labels p mss k t)
tree_good labels p mss code places k at of above (Do s t) h r q a =
    all_both (IsGood p.slots) (step_items p k s) (tree_items labels p mss (suc k) t) (step_good labels p k of above s t h r a.points_)
    (tree_good labels p mss code places (suc k) (at + length (step_items p k s)) (names_after of s) (above ++ step_values s) t h r q (tree_rest labels p mss code places k at of above s t a))
tree_good labels p mss code places k at of above (If c x y t u) h r q a =
    let first = at + length (fork_items p k (failing c) 0) in
    let second = first + length (tree_items labels p mss (suc k) t) in
    all_both (IsGood p.slots) (fork_items p k (failing c) (suc k + nodes t)) (tree_items labels p mss (suc k) t ++ tree_items labels p mss (suc k + nodes t) u)
    (fork_good labels p k of above c x y (suc k + nodes t) t u h r a.points_)
    (all_both (IsGood p.slots) (tree_items labels p mss (suc k) t) (tree_items labels p mss (suc k + nodes t) u)
    (tree_good labels p mss code places (suc k) first of above t h r q (tree_first labels p mss code places k at of above c x y t u a))
    (tree_good labels p mss code places (suc k + nodes t) second of above u h r q (tree_second labels p mss code places k at of above c x y t u a)))
tree_good labels p mss code places k at of above (End l) h r q a =
    last_good labels p k of above l (sequence_at mss k) h r a.points_
    (sequence_here (parallel_moves p labels) mss k (last_moves p k l) q (part_head k (last_moves p k l) [] (parallel_moves p labels) a.moves))

label_good : (labels : List Label) (p : Plan) (mss : Sequences) (l : ℕ) (it : Label) → Placed labels p → ReadyLayer labels p → AreSequences (parallel_moves p labels) mss → slice_get labels l ≡ Some it
    → AreGood p.slots (label_items labels p mss (entry_point labels l) it)
label_good labels p mss l it h r q e =
    let k = entry_point labels l in
    let a = label_at labels p mss l it e in
    let front = front_good labels p mss l k it r q e refl a.moves in
    let copied = entry_good labels p l it r e a.body.points_ in
    all_both (IsGood p.slots) (moved (front_moves mss k ++ all_copies p k it.params)) (tree_items labels p mss (suc k) it.body)
    (subst (AreGood p.slots) (sym (moved_both (front_moves mss k) (all_copies p k it.params))) (all_both (IsGood p.slots) (moved (front_moves mss k)) (moved (all_copies p k it.params)) front copied))
    (tree_good labels p mss (code_of labels p mss) (starts labels p mss) (suc k) _ own it.params it.body h r q a.body)

labels_good : (labels : List Label) (p : Plan) (mss : Sequences) (k l : ℕ) (ls : List Label) → Placed labels p → ReadyLayer labels p → AreSequences (parallel_moves p labels) mss
    → ((j : ℕ) → entry_point labels (l + j) ≡ k + entry_point ls j) → ((j : ℕ) (it : Label) → slice_get ls j ≡ Some it → slice_get labels (l + j) ≡ Some it) → AreGood p.slots (items_from labels p mss k ls)
labels_good labels p mss k l [] h r q e f = tt
labels_good labels p mss k l (x ∷ ls) h r q e f =
    let z : l ≡ l + 0 = omega arith in
    let w : k + 0 ≡ k = omega arith in
    let emit_context : entry_point labels l ≡ k = ap (entry_point labels) z ∙ (e 0 ∙ w) in
    let there : slice_get labels l ≡ Some x = ap (slice_get labels) z ∙ f 0 x refl in
    all_both (IsGood p.slots) (label_items labels p mss k x) (items_from labels p mss (suc k + nodes x.body) ls)
    (subst (λ j. AreGood p.slots (label_items labels p mss j x)) emit_context (label_good labels p mss l x h r q there))
    (labels_good labels p mss (suc k + nodes x.body) (suc l) ls h r q
    (λ j. let n : suc l + j ≡ l + suc j = omega arith in
    let m : k + (suc (nodes x.body) + entry_point ls j) ≡ suc k + nodes x.body + entry_point ls j = omega arith in
    ap (entry_point labels) n ∙ (e (suc j) ∙ m))
    (λ j it g. let n : suc l + j ≡ l + suc j = omega arith in ap (slice_get labels) n ∙ f (suc j) it g))

pub items_good : (labels : List Label) (p : Plan) (mss : Sequences) → Placed labels p → ReadyLayer labels p → AreSequences (parallel_moves p labels) mss → AreGood p.slots (items labels p mss)
items_good labels p mss h r q =
    labels_good labels p mss 0 0 labels h r q
    (λ j. let n : 0 + j ≡ j = omega arith in let m : entry_point labels j ≡ 0 + entry_point labels j = omega arith in ap (entry_point labels) n ∙ m)
    (λ j it e. let n : 0 + j ≡ j = omega arith in ap (slice_get labels) n ∙ e)

-- ---- the last item

abbrev last_or : Item → List Item → Item
last_or d [] = d
last_or d (x ∷ xs) = last_or x xs

-- the last of them, of which there is one, ends the run or jumps
abbrev Ends : List Item → Type 0
Ends is = (d : Item) → IsEnd (last_or d is)

ends_append : (a b : List Item) → Ends b → Ends (a ++ b)
ends_append [] b h d = h d
ends_append (x ∷ a) b h d = ends_append a b h x

last_ends : (labels : List Label) (p : Plan) (k : ℕ) (l : Last) (ms : List Move) → Ends (last_items labels p k l ms)
last_ends labels p k (Jump l xs) ms = ends_append (moved (single_moves (pass p k).l ms)) (Branch Always (entry_point labels l) ∷ []) (λ d. refl)
last_ends labels p k (Halt c xs) ms = ends_append (moved (single_moves (pass p k).l ms)) (Plain (instr.Halt c (length xs)) ∷ []) (λ d. tt)

tree_ends : (labels : List Label) (p : Plan) (mss : Sequences) (k : ℕ) (t : Tree) → Ends (tree_items labels p mss k t)
tree_ends labels p mss k (Do s t) = ends_append (step_items p k s) (tree_items labels p mss (suc k) t) (tree_ends labels p mss (suc k) t)
tree_ends labels p mss k (If c x y t u) =
    ends_append (fork_items p k (failing c) (suc k + nodes t)) (tree_items labels p mss (suc k) t ++ tree_items labels p mss (suc k + nodes t) u)
    (ends_append (tree_items labels p mss (suc k) t) (tree_items labels p mss (suc k + nodes t) u) (tree_ends labels p mss (suc k + nodes t) u))
tree_ends labels p mss k (End l) = last_ends labels p k l (sequence_at mss k)

pub label_ends : (labels : List Label) (p : Plan) (mss : Sequences) (k : ℕ) (l : Label) → Ends (label_items labels p mss k l)
label_ends labels p mss k l = ends_append (moved (front_moves mss k ++ all_copies p k l.params)) (tree_items labels p mss (suc k) l.body) (tree_ends labels p mss (suc k) l.body)

labels_end : (labels : List Label) (p : Plan) (mss : Sequences) (k : ℕ) (x : Label) (ls : List Label) → Ends (items_from labels p mss k (x ∷ ls))
labels_end labels p mss k x [] = subst Ends (sym (append-nil (label_items labels p mss k x))) (label_ends labels p mss k x)
labels_end labels p mss k x (y ∷ ls) =
    ends_append (label_items labels p mss k x) (items_from labels p mss (suc k + nodes x.body) (y ∷ ls)) (labels_end labels p mss (suc k + nodes x.body) y ls)

some_label : (all : List Label) (p : Plan) (mss : Sequences) (ls : List Label) → is_entry (slice_get ls 0) ≡ true → Ends (items_from all p mss 0 ls)
some_label all p mss [] e = absurd (false≢true e)
some_label all p mss (x ∷ ls) e = labels_end all p mss 0 x ls

items_end : (labels : List Label) (p : Plan) (mss : Sequences) → Placed labels p → Ends (items labels p mss)
items_end labels p mss h = some_label labels p mss labels (and_parts (is_entry (slice_get labels 0)) (all_different (all_defined labels) && list_all (is_single labels) labels) h.single).0

pub ends_long : (is : List Item) → Ends is → 1 ≤ length is
ends_long [] h = absurd (h (Moved temporary temporary))
ends_long (x ∷ is) h = omega arith

pub ends_there : (is : List Item) (place : ℕ) (it d : Item) → IsEnd (last_or d is) → slice_get is place ≡ Some it → place + 1 ≡ length is → IsEnd it
ends_there [] place it d h e n = absurd (none-some it e)
ends_there (x ∷ []) zero it d h e n = subst IsEnd (same_Some x it e) h
ends_there (x ∷ y ∷ is) zero it d h e n = absurd (omega (arith, n))
ends_there (x ∷ is) (suc place) it d h e n = let m : place + 1 ≡ length is = omega (arith, n) in ends_there is place it x h e m

-- ---- each point begins within the code

pub tree_long : (labels : List Label) (p : Plan) (mss : Sequences) (k : ℕ) (t : Tree) → 1 ≤ length (tree_items labels p mss k t)
tree_long labels p mss k t = ends_long (tree_items labels p mss k t) (tree_ends labels p mss k t)

tree_within : (labels : List Label) (p : Plan) (mss : Sequences) (at k m : ℕ) (t : Tree) → at + length (tree_items labels p mss k t) ≤ m → AllByRecursion (λ s. s < m) (tree_starts labels p mss at k t)
tree_within labels p mss at k m (Do s t) h =
    let a = length-append (step_items p k s) (tree_items labels p mss (suc k) t) in
    let b = tree_long labels p mss (suc k) t in (
      omega (arith, h, a, b),
      tree_within labels p mss (at + length (step_items p k s)) (suc k) m t (omega (arith, h, a)),
    )
tree_within labels p mss at k m (If c x y t u) h =
    let fork = fork_items p k (failing c) (suc k + nodes t) in
    let ts = tree_items labels p mss (suc k) t in
    let us = tree_items labels p mss (suc k + nodes t) u in
    let a = length-append fork (ts ++ us) in
    let b = length-append ts us in
    let c' = forks_long p k (failing c) 0 (suc k + nodes t) in
    let d = tree_long labels p mss (suc k) t in
    let first = at + length (fork_items p k (failing c) 0) in
    let second = first + length ts in (
      omega (arith, h, a, b, d),
      all_both (λ s. s < m) (tree_starts labels p mss first (suc k) t) (tree_starts labels p mss second (suc k + nodes t) u)
          (tree_within labels p mss first (suc k) m t (omega (arith, h, a, b, c')))
          (tree_within labels p mss second (suc k + nodes t) m u (omega (arith, h, a, b, c'))),
    )
tree_within labels p mss at k m (End l) h = let b = tree_long labels p mss k (End l) in (omega (arith, h, b), tt)

labels_within : (labels : List Label) (p : Plan) (mss : Sequences) (at k m : ℕ) (ls : List Label) → at + length (items_from labels p mss k ls) ≤ m → AllByRecursion (λ s. s < m) (starts_from labels p mss at k ls)
labels_within labels p mss at k m [] h = tt
labels_within labels p mss at k m (l ∷ ls) h =
    let moves = front_moves mss k ++ all_copies p k l.params in
    let body = tree_items labels p mss (suc k) l.body in
    let a = length-append (label_items labels p mss k l) (items_from labels p mss (suc k + nodes l.body) ls) in
    let b = length-append (moved moves) body in
    let c = items_long moves in
    let d = tree_long labels p mss (suc k) l.body in
    all_both (λ s. s < m) (at ∷ tree_starts labels p mss (at + length moves) (suc k) l.body) (starts_from labels p mss (at + length (label_items labels p mss k l)) (suc k + nodes l.body) ls)
    (omega (arith, h, a, b, c, d), tree_within labels p mss (at + length moves) (suc k) m l.body (omega (arith, h, a, b, c)))
    (labels_within labels p mss (at + length (label_items labels p mss k l)) (suc k + nodes l.body) m ls (omega (arith, h, a)))

index_within : (xs : List ℕ) (i m : ℕ) → AllByRecursion (λ s. s < m) xs → 0 < m → slice_index_or xs i 0 < m
index_within [] zero m h z = z
index_within [] (suc i) m h z = z
index_within (x ∷ xs) zero m h z = h.0
index_within (x ∷ xs) (suc i) m h z = index_within xs i m h.1 z

-- ---- the whole

got : {X Y : Type 0} (f : X → Y) (xs : List X) (i : ℕ) (y : Y) → slice_get (map f xs) i ≡ Some y → (x : X) × ((slice_get xs i ≡ Some x) × (f x ≡ y))
got f [] i y e = absurd (none-some y e)
got f (x ∷ xs) zero y e = (x, (refl, same_Some (f x) y e))
got f (x ∷ xs) (suc i) y e = got f xs i y e

pub code_some : (labels : List Label) (p : Plan) (mss : Sequences) → Placed labels p → 1 ≤ length (code_of labels p mss)
code_some labels p mss h =
    let a = ends_long (items labels p mss) (items_end labels p mss h) in
    let b = length-map (items labels p mss) (instr_of (starts labels p mss)) in
    omega (arith, a, b)

pub code_lawful : (labels : List Label) (p : Plan) (mss : Sequences) → Placed labels p → ReadyLayer labels p → AreSequences (parallel_moves p labels) mss → IsLawful (code_of labels p mss)
code_lawful labels p mss h r q place i e =
    let all = items labels p mss in
    let places = starts labels p mss in
    let code = code_of labels p mss in
    let long : length code ≡ length all = length-map all (instr_of places) in
    let g = got (instr_of places) all place i e in
    let good = all_get (IsGood p.slots) all place g.0 (items_good labels p mss h r q) g.1.0 in
    let some = code_some labels p mss h in
    let within = labels_within labels p mss 0 0 (length code) labels (omega (arith, long)) in
    subst (λ j. IsLawfulAt code place j) g.1.1
    (item_lawful p.slots code places place g.0 h.fits.slots good (λ j. index_within places j (length code) within (omega (arith, some)))
    (λ n. ends_there all place g.0 (Moved temporary temporary) (items_end labels p mss h (Moved temporary temporary)) g.1.0 (n ∙ long)))

-- Where labels begin in the code: in rising order, each but the first after a jump or an end, and none inside the code of another.
use Rattle.std.proofs.Common.{◌≡◌, ℕ, zero, suc, ◌+◌, ◌-◌, ◌<◌, ◌≤◌, ◌⊎◌, inl, inr, List, [], ◌∷◌, ◌++◌, map, length, None, Some, refl, sym, ap, ◌∙◌, subst, arith, slice_get, slice_index_or}
use Rattle.std.specs.Prelude.{slice_index}
use Rattle.std.specs.List.{AllByRecursion}
use Rattle.std.proofs.lemmas.List.{length-map, length-append}
use Rattle.std.proofs.lemmas.List.Elements.{All-from_recursion}
use Rattle.std.proofs.lemmas.Option.{none-some, same_Some, get_or_from_slice_get}
use Rattle.uc_isa.specs.declared.instruction.Instr.{Instr}
use Rattle.uc_isa.specs.declared.instruction.Instr.TheVariants as instr
use Rattle.uc_isa.specs.Lawful.{IsLast}
use Rattle.uc_isa.specs.Starts.{HasShape, AreInside, AreStarts}
use Rattle.ssu_ir.specs.Tree.{Label}
use Rattle.ssu_ir.specs.Points.{nodes}
use Rattle.ssu_ir.proofs.Lists.{get-left, some-there}
use Rattle.place_plan.specs.Plan.{Plan}
use Rattle.ucode_emit.specs.inner.Layers.{Placed, ReadyLayer}
use Rattle.ucode_emit.specs.Pieces.{Item, Moved, Plain, Branch, instr_of, single_moves, all_copies, entry_point, Sequences, sequence_at, label_items, items_from, items, tree_starts, starts_from, starts, parallel_moves}
use Rattle.ucode_emit.specs.Emits.{label_starts, entries_from, AreSequences}
use Rattle.ucode_emit.proofs.LawfulItems.{IsEnd}
use Rattle.ucode_emit.proofs.LawfulCode.{label_ends, ends_long, ends_there, code_some, code_lawful}
use Rattle.ucode_emit.proofs.MachineOperations.{got_some}
use Rattle.ucode_emit.proofs.Placing.{Part, part_whole, part_head, part_left, part_right, starts_many, code_of}
use Rattle.ucode_emit.proofs.PointsEach.{get_append}
use Rattle.ucode_emit.specs.Moves.{temporary}

-- ---- by how long the code of each label is

abbrev pub label_begins : List Label → Plan → Sequences → ℕ → ℕ → List Label → List ℕ
label_begins labels p mss at k [] = []
label_begins labels p mss at k (l ∷ ls) = at ∷ label_begins labels p mss (at + length (label_items labels p mss k l)) (suc k + nodes l.body) ls

begins_in : (labels : List Label) (p : Plan) (mss : Sequences) (at k : ℕ) (ls : List Label) (places : List ℕ) → Part k (starts_from labels p mss at k ls) places
    → map (λ j. slice_index_or places j 0) (entries_from k ls) ≡ label_begins labels p mss at k ls
begins_in labels p mss at k [] places h = refl
begins_in labels p mss at k (x ∷ ls) places h =
    let front = length (single_moves None (sequence_at mss k) ++ all_copies p k x.params) in
    let ts = tree_starts labels p mss (at + front) (suc k) x.body in
    let next = at + length (label_items labels p mss k x) in
    let j = suc k + nodes x.body in
    let rest = starts_from labels p mss next j ls in
    let long : j ≡ k + length (at ∷ ts) = let a = starts_many labels p mss (at + front) (suc k) x.body in omega (arith, a) in
    let emit_context : slice_index_or places k 0 ≡ at = get_or_from_slice_get places k at 0 (part_head k at ts places (part_left k (at ∷ ts) rest places h)) in
    ap (λ s. s ∷ map (λ i. slice_index_or places i 0) (entries_from j ls)) emit_context ∙ ap (λ l. at ∷ l) (begins_in labels p mss next j ls places (part_right k j (at ∷ ts) rest places long h))

pub starts_by_length : (labels : List Label) (p : Plan) (mss : Sequences) → label_starts labels p mss ≡ label_begins labels p mss 0 0 labels
starts_by_length labels p mss = begins_in labels p mss 0 0 labels (starts labels p mss) (part_whole (starts labels p mss))

begins_many : (labels : List Label) (p : Plan) (mss : Sequences) (at k : ℕ) (ls : List Label) → length (label_begins labels p mss at k ls) ≡ length ls
begins_many labels p mss at k [] = refl
begins_many labels p mss at k (x ∷ ls) = ap suc (begins_many labels p mss (at + length (label_items labels p mss k x)) (suc k + nodes x.body) ls)

pub label_long : (labels : List Label) (p : Plan) (mss : Sequences) (k : ℕ) (x : Label) → 1 ≤ length (label_items labels p mss k x)
label_long labels p mss k x = ends_long (label_items labels p mss k x) (label_ends labels p mss k x)

-- ---- their order

begin_least : (labels : List Label) (p : Plan) (mss : Sequences) (at k : ℕ) (ls : List Label) (j s : ℕ) → slice_get (label_begins labels p mss at k ls) j ≡ Some s → at ≤ s
begin_least labels p mss at k [] j s e = absurd (none-some s e)
begin_least labels p mss at k (x ∷ ls) zero s e = let same : at ≡ s = same_Some at s e in omega (arith, same)
begin_least labels p mss at k (x ∷ ls) (suc j) s e =
    let next = at + length (label_items labels p mss k x) in
    let h : next ≤ s = begin_least labels p mss next (suc k + nodes x.body) ls j s e in
    omega (arith, h)

begins_rise : (labels : List Label) (p : Plan) (mss : Sequences) (at k : ℕ) (ls : List Label) (i j s t : ℕ) → i < j → slice_get (label_begins labels p mss at k ls) i ≡ Some s → slice_get (label_begins labels p mss at k ls) j ≡ Some t → s < t
begins_rise labels p mss at k [] i j s t lt e f = absurd (none-some s e)
begins_rise labels p mss at k (x ∷ ls) i zero s t lt e f = absurd (omega arith)
begins_rise labels p mss at k (x ∷ ls) zero (suc j) s t lt e f =
    let next = at + length (label_items labels p mss k x) in
    let same : at ≡ s = same_Some at s e in
    let h : next ≤ t = begin_least labels p mss next (suc k + nodes x.body) ls j t f in
    let long = label_long labels p mss k x in
    omega (arith, same, h, long)
begins_rise labels p mss at k (x ∷ ls) (suc i) (suc j) s t lt e f =
    let less : i < j = omega (arith, lt) in
    begins_rise labels p mss (at + length (label_items labels p mss k x)) (suc k + nodes x.body) ls i j s t less e f

begins_within : (labels : List Label) (p : Plan) (mss : Sequences) (at k m : ℕ) (ls : List Label) → at + length (items_from labels p mss k ls) ≤ m → AllByRecursion (λ s. s < m) (label_begins labels p mss at k ls)
begins_within labels p mss at k m [] h = tt
begins_within labels p mss at k m (x ∷ ls) h =
    let j = suc k + nodes x.body in
    let a = length-append (label_items labels p mss k x) (items_from labels p mss j ls) in
    let long = label_long labels p mss k x in (
      omega (arith, h, a, long),
      begins_within labels p mss (at + length (label_items labels p mss k x)) j m ls (omega (arith, h, a)),
    )

-- no label begins inside the code of a label but itself
begins_apart : (labels : List Label) (p : Plan) (mss : Sequences) (at k : ℕ) (ls : List Label) (l : ℕ) (it : Label) (b j s : ℕ) → slice_get ls l ≡ Some it → slice_get (label_begins labels p mss at k ls) l ≡ Some b
    → slice_get (label_begins labels p mss at k ls) j ≡ Some s → (s ≤ b) ⊎ (b + length (label_items labels p mss (k + entry_point ls l) it) ≤ s)
begins_apart labels p mss at k [] l it b j s e f g = absurd (none-some it e)
begins_apart labels p mss at k (x ∷ ls) zero it b zero s e f g = let same : at ≡ b = same_Some at b f in let emit_context : at ≡ s = same_Some at s g in inl (omega (arith, same, emit_context))
begins_apart labels p mss at k (x ∷ ls) zero it b (suc j) s e f g =
    let same : at ≡ b = same_Some at b f in
    let h : at + length (label_items labels p mss k x) ≤ s = begin_least labels p mss (at + length (label_items labels p mss k x)) (suc k + nodes x.body) ls j s g in
    let z : k ≡ k + 0 = omega arith in
    inr (subst (λ n. b + length (label_items labels p mss n it) ≤ s) z (subst (λ (y : Label). b + length (label_items labels p mss k y) ≤ s) (same_Some x it e) (omega (arith, same, h))))
begins_apart labels p mss at k (x ∷ ls) (suc l) it b zero s e f g =
    let next = at + length (label_items labels p mss k x) in
    let h : next ≤ b = begin_least labels p mss next (suc k + nodes x.body) ls l b f in
    let emit_context : at ≡ s = same_Some at s g in
    inl (omega (arith, h, emit_context))
begins_apart labels p mss at k (x ∷ ls) (suc l) it b (suc j) s e f g =
    let z : suc k + nodes x.body + entry_point ls l ≡ k + (suc (nodes x.body) + entry_point ls l) = omega arith in
    subst (λ n. (s ≤ b) ⊎ (b + length (label_items labels p mss n it) ≤ s)) z
    (begins_apart labels p mss (at + length (label_items labels p mss k x)) (suc k + nodes x.body) ls l it b j s e f g)

pub starts_apart : (labels : List Label) (p : Plan) (mss : Sequences) (l : ℕ) (it : Label) (b k : ℕ) → slice_get labels l ≡ Some it → slice_get (label_starts labels p mss) l ≡ Some b → k < length (label_starts labels p mss)
    → let s = slice_index (label_starts labels p mss) k in (s ≤ b) ⊎ (b + length (label_items labels p mss (entry_point labels l) it) ≤ s)
starts_apart labels p mss l it b k e f lt =
    let all = label_starts labels p mss in
    let same = starts_by_length labels p mss in
    let z : 0 + entry_point labels l ≡ entry_point labels l = omega arith in
    subst (λ n. (slice_index all k ≤ b) ⊎ (b + length (label_items labels p mss n it) ≤ slice_index all k)) z
    (begins_apart labels p mss 0 0 labels l it b k (slice_index all k) e (subst (λ xs. slice_get xs l ≡ Some b) same f) (subst (λ xs. slice_get xs k ≡ Some (slice_index all k)) same (got_some all k lt)))

-- a label begins at its first point
entry_in : (k : ℕ) (ls : List Label) (l : ℕ) (it : Label) → slice_get ls l ≡ Some it → slice_get (entries_from k ls) l ≡ Some (k + entry_point ls l)
entry_in k [] l it e = absurd (none-some it e)
entry_in k (x ∷ ls) zero it e = let z : k ≡ k + 0 = omega arith in ap (λ n. Some n) z
entry_in k (x ∷ ls) (suc l) it e =
    let z : suc k + nodes x.body + entry_point ls l ≡ k + (suc (nodes x.body) + entry_point ls l) = omega arith in
    entry_in (suc k + nodes x.body) ls l it e ∙ ap (λ n. Some n) z

get_mapped : {X Y : Type 0} (f : X → Y) (xs : List X) (i : ℕ) (x : X) → slice_get xs i ≡ Some x → slice_get (map f xs) i ≡ Some (f x)
get_mapped f [] i x e = absurd (none-some x e)
get_mapped f (y ∷ xs) zero x e = ap (λ z. Some (f z)) (same_Some y x e)
get_mapped f (y ∷ xs) (suc i) x e = get_mapped f xs i x e

pub start_at : (labels : List Label) (p : Plan) (mss : Sequences) (l : ℕ) (it : Label) → slice_get labels l ≡ Some it
    → slice_get (label_starts labels p mss) l ≡ Some (slice_index_or (starts labels p mss) (entry_point labels l) 0)
start_at labels p mss l it e =
    let z : 0 + entry_point labels l ≡ entry_point labels l = omega arith in
    get_mapped (λ k. slice_index_or (starts labels p mss) k 0) (entries_from 0 labels) l (0 + entry_point labels l) (entry_in 0 labels l it e)
    ∙ ap (λ k. Some (slice_index_or (starts labels p mss) k 0)) z

-- ---- what stands before them

record EndBefore (at : ℕ) (is : List Item) (t : ℕ) : Type 0 where
  item : Item
  number : ℕ
  place : at + suc number ≡ t
  there : slice_get is number ≡ Some item
  ends : IsEnd item

ends_behind : (at t : ℕ) (is rest : List Item) (it : Item) → (at + length is ≡ t) → 1 ≤ length is → slice_get is (length is - 1) ≡ Some it → IsEnd it → EndBefore at (is ++ rest) t
ends_behind at t is rest it e long g end = record {
  item = it;
  number = length is - 1;
  place = omega (arith, e, long);
  there = get-left is rest (length is - 1) it g;
  ends = end;
}

ends_later : (at t : ℕ) (is rest : List Item) → EndBefore (at + length is) rest t → EndBefore at (is ++ rest) t
ends_later at t is rest h = record {
  item = h.item;
  number = length is + h.number;
  place = let e : at + length is + suc h.number ≡ t = h.place in omega (arith, e);
  there = get_append is rest h.number (length is) refl ∙ h.there;
  ends = h.ends;
}

begin_before : (labels : List Label) (p : Plan) (mss : Sequences) (at k : ℕ) (ls : List Label) (i t : ℕ) → slice_get (label_begins labels p mss at k ls) (suc i) ≡ Some t → EndBefore at (items_from labels p mss k ls) t
begin_before labels p mss at k [] i t e = absurd (none-some t e)
begin_before labels p mss at k (x ∷ []) i t e = absurd (none-some t e)
begin_before labels p mss at k (x ∷ y ∷ ls) zero t e =
    let is = label_items labels p mss k x in
    let long = label_long labels p mss k x in
    let last = some-there is (length is - 1) (omega (arith, long)) in
    let n : length is - 1 + 1 ≡ length is = omega (arith, long) in
    ends_behind at t is (items_from labels p mss (suc k + nodes x.body) (y ∷ ls)) last.0 (same_Some (at + length is) t e) long last.1
    (ends_there is (length is - 1) last.0 (Moved temporary temporary) (label_ends labels p mss k x (Moved temporary temporary)) last.1 n)
begin_before labels p mss at k (x ∷ y ∷ ls) (suc i) t e =
    let is = label_items labels p mss k x in
    ends_later at t is (items_from labels p mss (suc k + nodes x.body) (y ∷ ls)) (begin_before labels p mss (at + length is) (suc k + nodes x.body) (y ∷ ls) i t e)

-- ---- the starts of the labels

end_last : (places : List ℕ) (it : Item) → IsEnd it → IsLast (instr_of places it)
end_last places (Moved from at) h = absurd h
end_last places (Plain i) h = h
end_last places (Branch c point) h = subst (λ d. IsLast (instr.Br d (slice_index_or places point 0))) (sym h) tt

abbrev LastBefore : List Instr → ℕ → Type 0
LastBefore code t = (i : Instr) × (slice_get code (t - 1) ≡ Some i) × IsLast i

before_in : (places : List ℕ) (is : List Item) (t : ℕ) → EndBefore 0 is t → LastBefore (map (instr_of places) is) t
before_in places is t h =
    let n : h.number ≡ t - 1 = let e : 0 + suc h.number ≡ t = h.place in omega (arith, e) in
    (instr_of places h.item, subst (λ j. slice_get (map (instr_of places) is) j ≡ Some (instr_of places h.item)) n (get_mapped (instr_of places) is h.number h.item h.there), end_last places h.item h.ends)

before_each : (labels : List Label) (p : Plan) (mss : Sequences) (k : ℕ) → 0 < k → k < length (label_begins labels p mss 0 0 labels) → LastBefore (code_of labels p mss) (slice_index (label_begins labels p mss 0 0 labels) k)
before_each labels p mss zero lt le = absurd (omega arith)
before_each labels p mss (suc k) lt le =
    let all = label_begins labels p mss 0 0 labels in
    before_in (starts labels p mss) (items labels p mss) (slice_index all (suc k)) (begin_before labels p mss 0 0 labels k (slice_index all (suc k)) (got_some all (suc k) le))

first_begin : (labels : List Label) (p : Plan) (mss : Sequences) (ls : List Label) (s : ℕ) → slice_get (label_begins labels p mss 0 0 ls) 0 ≡ Some s → s ≡ 0
first_begin labels p mss [] s e = absurd (none-some s e)
first_begin labels p mss (x ∷ ls) s e = sym (same_Some 0 s e)

begins_shape : (labels : List Label) (p : Plan) (mss : Sequences) → HasShape (code_of labels p mss) (label_begins labels p mss 0 0 labels)
begins_shape labels p mss =
    let all = label_begins labels p mss 0 0 labels in
    record {
      first = λ s e. first_begin labels p mss labels s e;
      rises = λ j k lt le.
          let less : j < length all = omega (arith, lt, le) in
          begins_rise labels p mss 0 0 labels j k (slice_index all j) (slice_index all k) lt (got_some all j less) (got_some all k le);
      before = λ k lt le. before_each labels p mss k lt le;
    }

begins_inside : (labels : List Label) (p : Plan) (mss : Sequences) → AreInside (code_of labels p mss) (label_begins labels p mss 0 0 labels)
begins_inside labels p mss =
    let long : length (code_of labels p mss) ≡ length (items labels p mss) = length-map (items labels p mss) (instr_of (starts labels p mss)) in
    let code = code_of labels p mss in
    All-from_recursion (λ s. s < length code) (label_begins labels p mss 0 0 labels) (begins_within labels p mss 0 0 (length code) labels (omega (arith, long)))

pub code_starts : (labels : List Label) (p : Plan) (mss : Sequences) → Placed labels p → ReadyLayer labels p → AreSequences (parallel_moves p labels) mss → AreStarts (length labels) (code_of labels p mss) (label_starts labels p mss)
code_starts labels p mss h r q =
    let code = code_of labels p mss in
    subst (AreStarts (length labels) code) (sym (starts_by_length labels p mss))
    (record {
      count = begins_many labels p mss 0 0 labels;
      shape = begins_shape labels p mss;
      inside = begins_inside labels p mss;
      end_ = λ i e. (code_lawful labels p mss h r q (length code - 1) i e).last (let some = code_some labels p mss h in omega (arith, some));
    })

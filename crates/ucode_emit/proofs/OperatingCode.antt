-- The code without its moves does what the nodes of the form do, in order.
use Rattle.std.proofs.Common.{◌≡◌, ℕ, suc, ◌+◌, List, [], ◌∷◌, ◌++◌, map, length, Option, Some, None, refl, sym, ap, ◌∙◌, append_assoc}
use Rattle.std.specs.List.{cons_option}
use Rattle.uc_isa.specs.Registers.{failing}
use Rattle.nv_base.specs.declared.term.Bin.TheVariants.{Sub}
use Rattle.nv_base.specs.declared.term.Cmp.{Cmp}
use Rattle.ssu_ir.specs.Tree.{Step, Lit, Una, Bin, Clone, Read, Write, Last, Jump, Halt, Tree, Do, If, End, Label}
use Rattle.ssu_ir.specs.Points.{nodes}
use Rattle.place_plan.specs.declared.place.Place.{Place}
use Rattle.place_plan.specs.declared.place.Place.TheVariants.{A, B, L, LD, S, SD, Slot}
use Rattle.place_plan.specs.Plan.{Plan, pass}
use Rattle.ucode_emit.specs.Moves.{Move}
use Rattle.ucode_emit.specs.Operations.{Operation, Immediate, Unary, Binary, Reading, Branching, instr_operation, code_operations, step_operations, last_operations, tree_operations, form_operations}
use Rattle.ucode_emit.specs.inner.Machine.{IsReadable, IsDirect, read_slot, write_slot, copied}
use Rattle.ucode_emit.specs.Pieces.{Item, Moved, Plain, Branch, move_instr, instr_of, moved, operands, words, to_slot, copies, all_copies, single_moves, step_items, fork_items, last_items, Sequences, sequence_at, tree_items, label_items, items_from, items}
use Rattle.ucode_emit.proofs.LawfulItems.{IsGood, AreGood}
use Rattle.ucode_emit.proofs.OperatingItems.{plain_operations, unary_plain}

-- ---- items

abbrev item_operations : Item → List Operation
item_operations (Moved from at) = []
item_operations (Plain i) = plain_operations i
item_operations (Branch c point) = Branching c ∷ []

abbrev items_operations : List Item → List Operation
items_operations [] = []
items_operations (it ∷ is) = item_operations it ++ items_operations is

copy_none : (from at : Place) → IsReadable from → instr_operation (move_instr from at) ≡ None
copy_none (A k) at h = refl
copy_none (B k) at h = refl
copy_none (L k) at h = refl
copy_none (LD k) at h = refl
copy_none (S k) at h = absurd h
copy_none (SD k) at h = absurd h
copy_none (Slot k) at h = absurd h

move_none : (slots : ℕ) (from at : Place) → IsDirect slots from at → instr_operation (move_instr from at) ≡ None
move_none slots from at (read_slot {k} {r} a b) = refl
move_none slots from at (write_slot {r} {k} a b) = refl
move_none slots from at (copied a b) = copy_none from at a

item_does : (slots : ℕ) (places : List ℕ) (it : Item) → IsGood slots it → cons_option (instr_operation (instr_of places it)) [] ≡ item_operations it
item_does slots places (Moved from at) g = ap (λ (o : Option Operation). cons_option o []) (move_none slots from at g)
item_does slots places (Plain i) g = g.1
item_does slots places (Branch c point) g = refl

first_or_none : (o : Option Operation) (os : List Operation) → cons_option o os ≡ cons_option o [] ++ os
first_or_none (Some o) os = refl
first_or_none None os = refl

items_do : (slots : ℕ) (places : List ℕ) (is : List Item) → AreGood slots is → code_operations (map (instr_of places) is) ≡ items_operations is
items_do slots places [] g = refl
items_do slots places (it ∷ is) g =
    let rest = code_operations (map (instr_of places) is) in
    first_or_none (instr_operation (instr_of places it)) rest
    ∙ (ap (λ l. l ++ rest) (item_does slots places it g.0) ∙ ap (λ l. item_operations it ++ l) (items_do slots places is g.1))

-- ---- pieces

both : (a b : List Item) → items_operations (a ++ b) ≡ items_operations a ++ items_operations b
both [] b = refl
both (it ∷ a) b = ap (λ l. item_operations it ++ l) (both a b) ∙ sym (append_assoc (item_operations it) (items_operations a) (items_operations b))

moves_none : (ms : List Move) → items_operations (moved ms) ≡ []
moves_none [] = refl
moves_none (m ∷ ms) = moves_none ms

-- moves before other items
behind : (ms : List Move) (is : List Item) → items_operations (moved ms ++ is) ≡ items_operations is
behind [] is = refl
behind (m ∷ ms) is = behind ms is

-- an operation before moves
before : (o : Operation) (ms : List Move) → o ∷ items_operations (moved ms) ≡ o ∷ []
before o ms = ap (λ l. o ∷ l) (moves_none ms)

step_does : (p : Plan) (k : ℕ) (s : Step) → items_operations (step_items p k s) ≡ step_operations s
step_does p k (Lit x v) = before Immediate (to_slot p k x ++ copies p k x)
step_does p k (Una x o y) =
    let ms = to_slot p k x ++ copies p k x in
    behind (operands p k 1) _ ∙ (ap (λ l. l ++ items_operations (moved ms)) (unary_plain o) ∙ before (Unary o) ms)
step_does p k (Bin x o y z) = behind (operands p k 2) _ ∙ before (Binary o) (to_slot p k x ++ copies p k x)
step_does p k (Clone xs y) = refl
step_does p k (Read m xs y) = behind (operands p k 1) _ ∙ before (Reading m (length xs)) (all_copies p k xs)
step_does p k (Write m y xs) = behind (operands p k 1 ++ words p k 1 (length xs)) _

fork_does : (p : Plan) (k : ℕ) (c : Cmp) (second : ℕ) → items_operations (fork_items p k (failing c) second) ≡ Binary Sub ∷ Branching (failing c) ∷ []
fork_does p k c second = behind (operands p k 2) _

last_does : (labels : List Label) (p : Plan) (k : ℕ) (l : Last) (ms : List Move) → items_operations (last_items labels p k l ms) ≡ last_operations l
last_does labels p k (Jump l xs) ms = behind (single_moves (pass p k).l ms) _
last_does labels p k (Halt e xs) ms = behind (single_moves (pass p k).l ms) _

-- ---- the whole

tree_does : (labels : List Label) (p : Plan) (mss : Sequences) (k : ℕ) (t : Tree) → items_operations (tree_items labels p mss k t) ≡ tree_operations t
tree_does labels p mss k (Do s t) =
    both (step_items p k s) (tree_items labels p mss (suc k) t)
    ∙ (ap (λ l. l ++ items_operations (tree_items labels p mss (suc k) t)) (step_does p k s) ∙ ap (λ l. step_operations s ++ l) (tree_does labels p mss (suc k) t))
tree_does labels p mss k (If c x y t u) =
    let ts = tree_items labels p mss (suc k) t in
    let us = tree_items labels p mss (suc k + nodes t) u in
    both (fork_items p k (failing c) (suc k + nodes t)) (ts ++ us)
    ∙ (ap (λ l. l ++ items_operations (ts ++ us)) (fork_does p k c (suc k + nodes t))
    ∙ ap (λ l. Binary Sub ∷ Branching (failing c) ∷ l)
    (both ts us ∙ (ap (λ l. l ++ items_operations us) (tree_does labels p mss (suc k) t) ∙ ap (λ l. tree_operations t ++ l) (tree_does labels p mss (suc k + nodes t) u))))
tree_does labels p mss k (End l) = last_does labels p k l (sequence_at mss k)

labels_do : (labels : List Label) (p : Plan) (mss : Sequences) (k : ℕ) (ls : List Label) → items_operations (items_from labels p mss k ls) ≡ form_operations ls
labels_do labels p mss k [] = refl
labels_do labels p mss k (x ∷ ls) =
    let rest = items_from labels p mss (suc k + nodes x.body) ls in
    both (label_items labels p mss k x) rest
    ∙ (ap (λ l. l ++ items_operations rest) (behind (single_moves None (sequence_at mss k) ++ all_copies p k x.params) (tree_items labels p mss (suc k) x.body) ∙ tree_does labels p mss (suc k) x.body)
    ∙ ap (λ l. tree_operations x.body ++ l) (labels_do labels p mss (suc k + nodes x.body) ls))

pub code_does : (labels : List Label) (p : Plan) (mss : Sequences) (places : List ℕ) → AreGood p.slots (items labels p mss) → code_operations (map (instr_of places) (items labels p mss)) ≡ form_operations labels
code_does labels p mss places g = items_do p.slots places (items labels p mss) g ∙ labels_do labels p mss 0 labels

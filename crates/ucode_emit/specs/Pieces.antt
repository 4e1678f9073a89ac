-- The code of a form under a placement, piece by piece: each point has a piece. Where a piece branches it names a point, and the places of
-- points come last.
use Rattle.std.specs.Prelude.{ℕ, zero, suc, ◌+◌, ◌/◌, ◌%◌, ◌^◌, nat_lt, nat_eq, ◌&&◌, List, [], ◌∷◌, ◌++◌, length, Option, Some, None, slice_index_or, if◌then◌else◌}
use Rattle.nv_base.specs.declared.term.Mem.TheVariants.{Scratch}
use Rattle.nv_base.specs.declared.term.Una.{Una as Unary}
use Rattle.nv_base.specs.declared.term.Una.TheVariants as una
use Rattle.nv_base.specs.declared.term.Bin.TheVariants.{Sub}
use Rattle.uc_isa.specs.declared.instruction.Instr.{Instr}
use Rattle.uc_isa.specs.declared.instruction.Instr.TheVariants as instr
use Rattle.uc_isa.specs.declared.instruction.Src.{Src}
use Rattle.uc_isa.specs.declared.instruction.Src.TheVariants as src
use Rattle.uc_isa.specs.declared.instruction.Dst.{Dst}
use Rattle.uc_isa.specs.declared.instruction.Dst.TheVariants as dst
use Rattle.uc_isa.specs.declared.instruction.Gpr.{Gpr}
use Rattle.uc_isa.specs.declared.instruction.Gpr.TheVariants as gpr
use Rattle.uc_isa.specs.declared.instruction.UnOp.{UnOp}
use Rattle.uc_isa.specs.declared.instruction.UnOp.TheVariants.{Copy, Not, Shl, Shr, Rol}
use Rattle.uc_isa.specs.declared.instruction.Cond.{Cond}
use Rattle.uc_isa.specs.declared.instruction.Cond.TheVariants.{Always}
use Rattle.uc_isa.specs.Registers.{failing}
use Rattle.ssu_ir.specs.Tree.{Step, Lit, Una, Bin, Clone, Read, Write, Last, Jump, Halt, Tree, Do, If, End, Label}
use Rattle.ssu_ir.specs.Points.{nodes}
use Rattle.place_plan.specs.declared.place.Place.{Place}
use Rattle.place_plan.specs.declared.place.Place.TheVariants.{A, B, L, LD, S, SD, Slot}
use Rattle.place_plan.specs.Places.{same_place}
use Rattle.place_plan.specs.Plan.{Plan, home, first, serve, pass}
use Rattle.place_plan.specs.Fits.{is_slot, is_read_register}
use Rattle.ucode_emit.specs.Moves.{Move, temporary}

-- ---- instructions of places

-- a place as a source, a target, an address; of no other place is it asked
abbrev pub source : Place → Src
source (A k) = src.A k
source (B k) = src.B k
source (L k) = src.L k
source (LD k) = src.LD k
source _ = src.A 15

abbrev pub target : Place → Dst
target (A k) = dst.A k
target (B k) = dst.B k
target (S k) = dst.S k
target (SD k) = dst.SD k
target _ = dst.Nowhere

abbrev pub address_of : Place → Gpr
address_of (A k) = gpr.A k
address_of (B k) = gpr.B k
address_of _ = gpr.A 15

-- one move by one instruction: a slot is read into a read register and written from a write register, by way of the spill base in B15
abbrev pub move_instr : Place → Place → Instr
move_instr (Slot k) (L r) = instr.Read Scratch r 1 (gpr.B 15) k
move_instr (S r) (Slot k) = instr.Write Scratch r 1 (gpr.B 15) k
move_instr from at = instr.Un (target at) Copy (source from)

-- an instruction whose branch, if it is one, names a point
pub data Item : Type 0 where
  Moved : (from at : Place) → Item
  Plain : (i : Instr) → Item
  Branch : (c : Cond) → (point : ℕ) → Item

abbrev pub moved : List Move → List Item
moved [] = []
moved (m ∷ ms) = Moved m.0 m.1 ∷ moved ms

-- ---- moves

abbrev pub named : Option ℕ → ℕ
named (Some r) = r
named None = 0

-- from a home to a register; from a slot by way of the read register of the point's pass
abbrev pub bring : Option ℕ → Place → Place → List Move
bring l (Slot k) at = (Slot k, L (named l)) ∷ (L (named l), at) ∷ []
bring l from at = (from, at) ∷ []

abbrev pub brought : Option ℕ → Place → Place → List Move
brought l from at = if same_place from at then [] else bring l from at

-- the moves that fetch an operand: into the compiler's own register, which comes first, or from a slot into a read register
abbrev pub to_temporary : Plan → ℕ → ℕ → List Move
to_temporary p k i = let s = serve p k i in if same_place s.at temporary then brought (pass p k).l s.from s.at else []

abbrev pub to_read_register : Plan → ℕ → ℕ → List Move
to_read_register p k i = let s = serve p k i in if is_slot s.from && is_read_register s.at then (s.from, s.at) ∷ [] else []

abbrev pub each_operand : (ℕ → List Move) → ℕ → ℕ → List Move
each_operand fetch i zero = []
each_operand fetch i (suc n) = fetch i ++ each_operand fetch (suc i) n

-- the moves that fetch the first n operands of a point
abbrev pub operands : Plan → ℕ → ℕ → List Move
operands p k n = each_operand (to_temporary p k) 0 n ++ each_operand (to_read_register p k) 0 n

abbrev pub operand_at : Plan → ℕ → ℕ → Place
operand_at p k i = (serve p k i).at

-- the moves that bring operands i and on, n in all, into their registers; those that are there stay
abbrev pub words : Plan → ℕ → ℕ → ℕ → List Move
words p k i n = each_operand (λ j. brought (pass p k).l (serve p k j).from (serve p k j).at) i n

-- where an operation puts its result, and how that gets to a slot
abbrev pub result_place : Plan → ℕ → ℕ → Place
result_place p k x = let d = (home p x).defined in if is_slot d then S (named (pass p k).s) else d

abbrev pub to_slot : Plan → ℕ → ℕ → List Move
to_slot p k x = let d = (home p x).defined in if is_slot d then (S (named (pass p k).s), d) ∷ [] else []

-- the copies after a definition
abbrev pub copied : Option ℕ → Place → Place → List Move
copied s from q = if is_slot q then (from, S (named s)) ∷ (S (named s), q) ∷ [] else (from, q) ∷ []

abbrev pub all_copied : Option ℕ → Place → List Place → List Move
all_copied s from [] = []
all_copied s from (q ∷ qs) = copied s from q ++ all_copied s from qs

abbrev pub copies : Plan → ℕ → ℕ → List Move
copies p k x = all_copied (pass p k).s (home p x).defined (home p x).copied

abbrev pub all_copies : Plan → ℕ → List ℕ → List Move
all_copies p k [] = []
all_copies p k (x ∷ xs) = copies p k x ++ all_copies p k xs

-- one of the single moves of a parallel move; what goes to a slot goes by S0
abbrev pub single_move : Option ℕ → Place → Place → List Move
single_move l from at = if is_slot at then bring l from (S 0) ++ (S 0, at) ∷ [] else bring l from at

abbrev pub single_moves : Option ℕ → List Move → List Move
single_moves l [] = []
single_moves l (m ∷ ms) = single_move l m.0 m.1 ++ single_moves l ms

-- ---- operations

abbrev pub un_op : Unary → UnOp
un_op una.Not = Not
un_op (una.Shl k) = Shl k
un_op (una.Shr k) = Shr k
un_op (una.Rol k) = Rol k

-- a narrow literal is a half word that is shifted by 0, 8 or 16
abbrev pub shift_of : ℕ → ℕ
shift_of v = if nat_lt v (2 ^ 16) then 0 else if nat_eq (v % 2 ^ 8) 0 && nat_lt (v / 2 ^ 8) (2 ^ 16) then 8 else 16

-- what defines a value by itself: it is put where an operation puts it, brought to its slot, and copied
abbrev pub defines : Plan → ℕ → ℕ → (Dst → Instr) → List Item
defines p k x op = Plain (op (target (result_place p k x))) ∷ moved (to_slot p k x ++ copies p k x)

-- ---- pieces. `ms` are the single moves of the point's parallel move, where it has one

abbrev pub step_items : Plan → ℕ → Step → List Item
step_items p k (Lit x v) = defines p k x (λ d. instr.Immed d (v / 2 ^ shift_of v) (shift_of v))
step_items p k (Una x op y) = moved (operands p k 1) ++ defines p k x (λ d. instr.Un d (un_op op) (source (operand_at p k 0)))
step_items p k (Bin x op y z) = moved (operands p k 2) ++ defines p k x (λ d. instr.Alu d op (source (operand_at p k 0)) (source (operand_at p k 1)))
step_items p k (Clone xs y) = []
step_items p k (Read m xs y) = moved (operands p k 1) ++ Plain (instr.Read m (first p k) (length xs) (address_of (operand_at p k 0)) 0) ∷ moved (all_copies p k xs)
step_items p k (Write m y xs) = moved (operands p k 1 ++ words p k 1 (length xs)) ++ Plain (instr.Write m (first p k) (length xs) (address_of (operand_at p k 0)) 0) ∷ []

-- a comparison branches to its second arm where it fails
abbrev pub fork_items : Plan → ℕ → Cond → ℕ → List Item
fork_items p k c second = moved (operands p k 2) ++ Plain (instr.Alu dst.Nowhere Sub (source (operand_at p k 0)) (source (operand_at p k 1))) ∷ Branch c second ∷ []

-- the point at which a label begins
abbrev pub entry_point : List Label → ℕ → ℕ
entry_point [] l = 0
entry_point (x ∷ ls) zero = 0
entry_point (x ∷ ls) (suc l) = suc (nodes x.body) + entry_point ls l

abbrev pub last_items : List Label → Plan → ℕ → Last → List Move → List Item
last_items labels p k (Jump l xs) ms = moved (single_moves (pass p k).l ms) ++ Branch Always (entry_point labels l) ∷ []
last_items labels p k (Halt e xs) ms = moved (single_moves (pass p k).l ms) ++ Plain (instr.Halt e (length xs)) ∷ []

-- what each point's parallel move has become
abbrev pub Sequences : Type 0
Sequences = List (List Move)

abbrev pub sequence_at : Sequences → ℕ → List Move
sequence_at mss k = slice_index_or mss k []

abbrev pub tree_items : List Label → Plan → Sequences → ℕ → Tree → List Item
tree_items labels p mss k (Do s t) = step_items p k s ++ tree_items labels p mss (suc k) t
tree_items labels p mss k (If c x y t u) =
    fork_items p k (failing c) (suc k + nodes t) ++ (tree_items labels p mss (suc k) t ++ tree_items labels p mss (suc k + nodes t) u)
tree_items labels p mss k (End l) = last_items labels p k l (sequence_at mss k)

-- a label begins with the copies of its parameters; label 0 brings them to their places before
abbrev pub label_items : List Label → Plan → Sequences → ℕ → Label → List Item
label_items labels p mss k l =
    moved (single_moves None (sequence_at mss k) ++ all_copies p k l.params) ++ tree_items labels p mss (suc k) l.body

abbrev pub items_from : List Label → Plan → Sequences → ℕ → List Label → List Item
items_from labels p mss k [] = []
items_from labels p mss k (l ∷ ls) = label_items labels p mss k l ++ items_from labels p mss (suc k + nodes l.body) ls

abbrev pub items : List Label → Plan → Sequences → List Item
items labels p mss = items_from labels p mss 0 labels

-- ---- places of points

-- where each point of a tree begins, after so many instructions
abbrev pub tree_starts : List Label → Plan → Sequences → ℕ → ℕ → Tree → List ℕ
tree_starts labels p mss at k (Do s t) = at ∷ tree_starts labels p mss (at + length (step_items p k s)) (suc k) t
tree_starts labels p mss at k (If c x y t u) =
    let first = at + length (fork_items p k (failing c) 0) in
    at ∷ (tree_starts labels p mss first (suc k) t ++ tree_starts labels p mss (first + length (tree_items labels p mss (suc k) t)) (suc k + nodes t) u)
tree_starts labels p mss at k (End l) = at ∷ []

abbrev pub starts_from : List Label → Plan → Sequences → ℕ → ℕ → List Label → List ℕ
starts_from labels p mss at k [] = []
starts_from labels p mss at k (l ∷ ls) =
    let front = length (single_moves None (sequence_at mss k) ++ all_copies p k l.params) in
    (at ∷ tree_starts labels p mss (at + front) (suc k) l.body)
    ++ starts_from labels p mss (at + length (label_items labels p mss k l)) (suc k + nodes l.body) ls

abbrev pub starts : List Label → Plan → Sequences → List ℕ
starts labels p mss = starts_from labels p mss 0 0 labels

-- an item as an instruction, where each point has its place
abbrev pub instr_of : List ℕ → Item → Instr
instr_of places (Moved from at) = move_instr from at
instr_of places (Plain i) = i
instr_of places (Branch c point) = instr.Br c (slice_index_or places point 0)

-- ---- parallel moves of points

-- the operands of a point, each from where it is served to where it is wanted
abbrev pub served_moves : Plan → ℕ → ℕ → ℕ → List Move
served_moves p k i zero = []
served_moves p k i (suc n) = ((serve p k i).from, (serve p k i).at) ∷ served_moves p k (suc i) n

-- the parameters of label 0 come in A0 and on
abbrev pub entry_moves : Plan → ℕ → List ℕ → List Move
entry_moves p i [] = []
entry_moves p i (x ∷ xs) = (A i, (home p x).defined) ∷ entry_moves p (suc i) xs

abbrev pub last_moves : Plan → ℕ → Last → List Move
last_moves p k (Jump l xs) = served_moves p k 0 (length xs)
last_moves p k (Halt e xs) = served_moves p k 0 (length xs)

abbrev pub tree_moves : Plan → ℕ → Tree → List (List Move)
tree_moves p k (Do s t) = [] ∷ tree_moves p (suc k) t
tree_moves p k (If c x y t u) = [] ∷ (tree_moves p (suc k) t ++ tree_moves p (suc k + nodes t) u)
tree_moves p k (End l) = last_moves p k l ∷ []

abbrev pub label_moves : Plan → ℕ → Label → List (List Move)
label_moves p zero l = entry_moves p 0 l.params ∷ tree_moves p 1 l.body
label_moves p (suc k) l = [] ∷ tree_moves p (suc (suc k)) l.body

abbrev pub moves_from : Plan → ℕ → List Label → List (List Move)
moves_from p k [] = []
moves_from p k (l ∷ ls) = label_moves p k l ++ moves_from p (suc k + nodes l.body) ls

-- for each point its parallel move, empty but at jumps, at ends and before label 0
abbrev pub parallel_moves : Plan → List Label → List (List Move)
parallel_moves p labels = moves_from p 0 labels

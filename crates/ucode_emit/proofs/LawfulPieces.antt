-- The pieces of a form's code are good items: what the layer of words in places says of moves and operands, and the form of its nodes.
use Rattle.std.proofs.Common.{◌≡◌, ℕ, zero, suc, true, List, [], ◌∷◌, ◌++◌, length, Option, Some, None, refl, sym, ◌∙◌, subst, slice_get, arith}
use Rattle.std.specs.Prelude.{nat_le, slice_index_or, ◌/◌, ◌^◌}
use Rattle.std.proofs.lemmas.Bool.{and_parts, false≢true, leb-true}
use Rattle.std.proofs.lemmas.Option.{same_Some, get_or_from_slice_get}
use Rattle.nv_base.specs.Words.{Env}
use Rattle.nv_base.specs.declared.term.Bin.TheVariants.{Sub}
use Rattle.nv_base.specs.declared.term.Cmp.{Cmp}
use Rattle.uc_isa.specs.declared.instruction.Instr.{Instr}
use Rattle.uc_isa.specs.declared.instruction.Instr.TheVariants as instr
use Rattle.uc_isa.specs.declared.instruction.Dst.{Dst}
use Rattle.uc_isa.specs.declared.instruction.Dst.TheVariants as dst
use Rattle.uc_isa.specs.declared.instruction.Cond.TheVariants.{Always}
use Rattle.uc_isa.specs.Registers.{failing}
use Rattle.ssu_ir.specs.Tree.{Step, Lit, Una, Bin, Clone, Read, Write, Last, Jump, Halt, Tree, Do, If, End, Label}
use Rattle.ssu_ir.specs.Points.{Names, own, Point}
use Rattle.ssu_ir.specs.Single.{takes_as_many}
use Rattle.place_plan.specs.declared.place.Place.TheVariants.{A}
use Rattle.place_plan.specs.Plan.{Plan, first, pass}
use Rattle.ucode_emit.specs.Moves.{Move, Words, StandFor, none}
use Rattle.ucode_emit.specs.Operations.{Reading, Writing}
use Rattle.ucode_emit.specs.Pieces.{Plain, Branch, operands, operand_at, words, result_place, to_slot, copies, all_copies, single_moves, un_op, source, target, address_of, shift_of, defines, moved, step_items, fork_items, last_items, entry_point, Sequences, sequence_at, label_moves, tree_moves, parallel_moves, last_moves, entry_moves}
use Rattle.ucode_emit.specs.Emits.{IsSequence, AreSequences}
use Rattle.ucode_emit.specs.inner.Ready.{Ready}
use Rattle.ucode_emit.specs.inner.Machine.{AreDirect}
use Rattle.ucode_emit.specs.inner.Layers.{Placed, PointsAt, root_point, ReadyLayer}
use Rattle.ucode_emit.proofs.PointsEach.{all_both}
use Rattle.ucode_emit.proofs.PointsLabels.{Formed, formed_at}
use Rattle.ucode_emit.proofs.PointsUsed.{root_at}
use Rattle.ucode_emit.proofs.DefinitionsDirect.{access_at}
use Rattle.ucode_emit.proofs.Placing.{there_by_length, Part, part_head, entry_later}
use Rattle.ucode_emit.proofs.LawfulItems.{KeepsOwn, un_own, alu_own, immed_own, halt_own, read_own, write_own, run_is, paired_is, count_is, apart_sources, other_source, other_target, other_address, IsGood, AreGood, moves_good}
use Rattle.ucode_emit.proofs.OperatingItems.{IsPlain, address_plain}

-- ---- all words are 0: then all stands ready anywhere

abbrev pub no_words : Env
no_words x = 0

abbrev pub no_places : Words
no_places q = 0

pub idle : (labels : List Label) (p : Plan) (k : ℕ) (q : Point) → Ready labels p k q no_words no_places
idle labels p k q = record {
  held = λ x i r h. refl;
  early = λ u w. refl;
}

-- ---- what the form says of a point

pub node_here : (labels : List Label) (p : Plan) (k : ℕ) (of : Names) (above : List ℕ) (t : Tree) → Placed labels p → PointsAt labels k of above t → Formed labels k (root_point of above t)
node_here labels p k of above t h a = formed_at labels k (root_point of above t) h.single (root_at labels k of above t a)

-- ---- steps

defines_good : (p : Plan) (k x : ℕ) (op : Dst → Instr) → KeepsOwn p.slots (op (target (result_place p k x))) → IsPlain (op (target (result_place p k x))) → AreDirect p.slots (to_slot p k x ++ copies p k x) → AreGood p.slots (defines p k x op)
defines_good p k x op h a d = ((h, a), moves_good p.slots (to_slot p k x ++ copies p k x) d)

pub step_good : (labels : List Label) (p : Plan) (k : ℕ) (of : Names) (above : List ℕ) (s : Step) (t : Tree) → Placed labels p → ReadyLayer labels p → PointsAt labels k of above (Do s t) → AreGood p.slots (step_items p k s)
step_good labels p k of above (Lit x v) t h r a =
    let d = r.literal k of above x v 0 t no_words no_places a (idle labels p k (root_point of above (Do (Lit x v) t))) in
    defines_good p k x (λ d. instr.Immed d (v / 2 ^ shift_of v) (shift_of v)) (immed_own p.slots (target (result_place p k x)) (v / 2 ^ shift_of v) v (other_target (result_place p k x) d.0)) refl d.1.0
step_good labels p k of above (Una x op y) t h r a =
    let q = root_point of above (Do (Una x op y) t) in
    let o = r.one_operand k of above x y op t no_words no_places a (idle labels p k q) in
    let d = r.unary k of above x y 0 op t no_words no_places a (idle labels p k q) in
    let f = node_here labels p k of above (Do (Una x op y) t) h a in
    all_both (IsGood p.slots) (moved (operands p k 1)) (defines p k x (λ d. instr.Un d (un_op op) (source (operand_at p k 0)))) (moves_good p.slots (operands p k 1) o.0.0)
    (defines_good p k x (λ d. instr.Un d (un_op op) (source (operand_at p k 0))) (un_own p.slots (target (result_place p k x)) (un_op op) (source (operand_at p k 0)) (count_is op f.fits) (other_target (result_place p k x) d.0) (other_source (operand_at p k 0) o.1)) refl d.1.0)
step_good labels p k of above (Bin x op y z) t h r a =
    let q = root_point of above (Do (Bin x op y z) t) in
    let o = r.two_operands k of above x y z op t no_words no_places a (idle labels p k q) in
    let d = r.binary k of above x y z 0 op t no_words no_places a (idle labels p k q) in
    let f = h.fits.points k q (root_at labels k of above (Do (Bin x op y z) t) a) in
    all_both (IsGood p.slots) (moved (operands p k 2)) (defines p k x (λ d. instr.Alu d op (source (operand_at p k 0)) (source (operand_at p k 1)))) (moves_good p.slots (operands p k 2) o.0.0)
    (defines_good p k x (λ d. instr.Alu d op (source (operand_at p k 0)) (source (operand_at p k 1)))
    (alu_own p.slots (target (result_place p k x)) op (source (operand_at p k 0)) (source (operand_at p k 1)) (apart_sources (operand_at p k 0) (operand_at p k 1) o.1 o.2 f.operands)
    (other_target (result_place p k x) d.0) (other_source (operand_at p k 0) o.1) (other_source (operand_at p k 1) o.2)) refl d.1.0)
step_good labels p k of above (Clone xs y) t h r a = tt
step_good labels p k of above (Read m xs y) t h r a =
    let q = root_point of above (Do (Read m xs y) t) in
    let o = r.read_address k of above m xs y t no_words no_places a (idle labels p k q) in
    let d = r.read k of above m xs xs y t no_words no_places a refl (idle labels p k q) in
    let f = node_here labels p k of above (Do (Read m xs y) t) h a in
    let g = access_at labels p k q h (root_at labels k of above (Do (Read m xs y) t) a) in
    all_both (IsGood p.slots) (moved (operands p k 1)) (Plain (instr.Read m (first p k) (length xs) (address_of (operand_at p k 0)) 0) ∷ moved (all_copies p k xs)) (moves_good p.slots (operands p k 1) o.0.0) (
      (read_own p.slots m (first p k) (length xs) (address_of (operand_at p k 0)) 0 (run_is m (length xs) (first p k) g.0 f.fits) (paired_is m (length xs) (first p k) g.0 f.fits) (omega arith) (other_address p.slots m (length xs) (operand_at p k 0) 0 o.1), address_plain (Reading m (length xs)) (operand_at p k 0) o.1),
      moves_good p.slots (all_copies p k xs) d.0,
    )
step_good labels p k of above (Write m y xs) t h r a =
    let q = root_point of above (Do (Write m y xs) t) in
    let o = r.written k of above m xs y t no_words no_places a (idle labels p k q) in
    let f = node_here labels p k of above (Do (Write m y xs) t) h a in
    let g = access_at labels p k q h (root_at labels k of above (Do (Write m y xs) t) a) in
    all_both (IsGood p.slots) (moved (operands p k 1 ++ words p k 1 (length xs))) (Plain (instr.Write m (first p k) (length xs) (address_of (operand_at p k 0)) 0) ∷ []) (moves_good p.slots (operands p k 1 ++ words p k 1 (length xs)) o.0.0) (
      (write_own p.slots m (first p k) (length xs) (address_of (operand_at p k 0)) 0 (run_is m (length xs) (first p k) g.0 f.fits) (paired_is m (length xs) (first p k) g.0 f.fits) (omega arith) (other_address p.slots m (length xs) (operand_at p k 0) 0 o.1), address_plain (Writing m (length xs)) (operand_at p k 0) o.1),
      tt,
    )

-- ---- forks

pub fork_good : (labels : List Label) (p : Plan) (k : ℕ) (of : Names) (above : List ℕ) (c : Cmp) (x y second : ℕ) (t u : Tree) → Placed labels p → ReadyLayer labels p → PointsAt labels k of above (If c x y t u)
    → AreGood p.slots (fork_items p k (failing c) second)
fork_good labels p k of above c x y second t u h r a =
    let q = root_point of above (If c x y t u) in
    let o = r.compared k of above c x y t u no_words no_places a (idle labels p k q) in
    let f = h.fits.points k q (root_at labels k of above (If c x y t u) a) in
    all_both (IsGood p.slots) (moved (operands p k 2)) (Plain (instr.Alu dst.Nowhere Sub (source (operand_at p k 0)) (source (operand_at p k 1))) ∷ Branch (failing c) second ∷ []) (moves_good p.slots (operands p k 2) o.0.0) (
      (
        alu_own p.slots dst.Nowhere Sub (source (operand_at p k 0)) (source (operand_at p k 1)) (apart_sources (operand_at p k 0) (operand_at p k 1) o.1 o.2 f.operands) tt
            (other_source (operand_at p k 0) o.1) (other_source (operand_at p k 1) o.2),
        refl,
      ),
      (tt, tt),
    )

-- ---- jumps and ends

pub takes_some : (n : ℕ) (o : Option Label) → takes_as_many n o ≡ true → (to : Label) × (o ≡ Some to)
takes_some n (Some l) e = (l, refl)
takes_some n None e = absurd (false≢true e)

pub last_good : (labels : List Label) (p : Plan) (k : ℕ) (of : Names) (above : List ℕ) (l : Last) (ms : List Move) → Placed labels p → ReadyLayer labels p → PointsAt labels k of above (End l)
    → IsSequence (last_moves p k l) ms → AreGood p.slots (last_items labels p k l ms)
last_good labels p k of above (Jump l xs) ms h r a s =
    let q = root_point of above (End (Jump l xs)) in
    let f = node_here labels p k of above (End (Jump l xs)) h a in
    let to = takes_some (length xs) (slice_get labels l) (and_parts (nat_le 1 l) (takes_as_many (length xs) (slice_get labels l)) f.fits).1 in
    let d = r.jump k of above l xs to.0 ms no_words no_words no_places a to.1 (λ i x y e g. refl) s (idle labels p k q) in
    all_both (IsGood p.slots) (moved (single_moves (pass p k).l ms)) (Branch Always (entry_point labels l) ∷ []) (moves_good p.slots (single_moves (pass p k).l ms) d.0) (tt, tt)
last_good labels p k of above (Halt c xs) ms h r a s =
    let q = root_point of above (End (Halt c xs)) in
    let f = node_here labels p k of above (End (Halt c xs)) h a in
    let d = r.halt k of above c xs ms no_words no_places a s (idle labels p k q) in
    all_both (IsGood p.slots) (moved (single_moves (pass p k).l ms)) (Plain (instr.Halt c (length xs)) ∷ []) (moves_good p.slots (single_moves (pass p k).l ms) d.0) ((halt_own p.slots c (length xs) (leb-true (length xs) 8 f.fits), refl), tt)

-- ---- where labels begin

-- each point's moves in sequence
pub sequence_here : (all : List (List Move)) (mss : Sequences) (k : ℕ) (moves : List Move) → AreSequences all mss → slice_get all k ≡ Some moves → IsSequence moves (sequence_at mss k)
sequence_here all mss k moves s e = s.each k moves (sequence_at mss k) e (there_by_length all mss k moves [] s.as_many e)

pub none_stand : (ms : List Move) → StandFor [] ms → ms ≡ []
none_stand ms none = refl

-- arguments in A0 and on
abbrev pub given : List ℕ → Words
given xs (A i) = slice_index_or xs i 0
given xs _ = 0

abbrev pub front_moves : Sequences → ℕ → List Move
front_moves mss k = single_moves None (sequence_at mss k)

nothing_moved : (slots : ℕ) (mss : Sequences) (k : ℕ) → sequence_at mss k ≡ [] → AreGood slots (moved (front_moves mss k))
nothing_moved slots mss k e = subst (λ ms. AreGood slots (moved (single_moves None ms))) (sym e) tt

first_good : (labels : List Label) (p : Plan) (mss : Sequences) (it : Label) → ReadyLayer labels p → slice_get labels 0 ≡ Some it → IsSequence (entry_moves p 0 it.params) (sequence_at mss 0) → AreGood p.slots (moved (front_moves mss 0))
first_good labels p mss it r e s =
    let d = r.begins it (sequence_at mss 0) it.params own (given it.params) e refl (λ i x w f g. same_Some x w (sym f ∙ g)) s (λ i w g. get_or_from_slice_get it.params i w 0 g) in
    moves_good p.slots (front_moves mss 0) d.0

pub front_good : (labels : List Label) (p : Plan) (mss : Sequences) (l k : ℕ) (it : Label) → ReadyLayer labels p → AreSequences (parallel_moves p labels) mss → slice_get labels l ≡ Some it → entry_point labels l ≡ k
    → Part k (label_moves p k it) (parallel_moves p labels) → AreGood p.slots (moved (front_moves mss k))
front_good labels p mss zero zero it r s e n m =
    first_good labels p mss it r e (sequence_here (parallel_moves p labels) mss 0 (entry_moves p 0 it.params) s (m.each 0 (entry_moves p 0 it.params) refl))
front_good labels p mss (suc l) zero it r s e n m = let z = entry_later labels l it e in absurd (omega (arith, z, n))
front_good labels p mss l (suc k) it r s e n m =
    let there : slice_get (parallel_moves p labels) (suc k) ≡ Some [] = part_head (suc k) [] (tree_moves p (suc (suc k)) it.body) (parallel_moves p labels) m in
    nothing_moved p.slots mss (suc k) (none_stand (sequence_at mss (suc k)) (sequence_here (parallel_moves p labels) mss (suc k) [] s there).kinds)

-- the prefix of a label
pub entry_good : (labels : List Label) (p : Plan) (l : ℕ) (it : Label) → ReadyLayer labels p → slice_get labels l ≡ Some it → PointsAt labels (suc (entry_point labels l)) own it.params it.body
    → AreGood p.slots (moved (all_copies p (entry_point labels l) it.params))
entry_good labels p l it r e a = let d = r.entry l it no_words no_places e a (λ x i. refl) in moves_good p.slots (all_copies p (entry_point labels l) it.params) d.0

-- What is asked of the pieces of a form under a placement that fits holds.
use Rattle.std.proofs.Common.{◌≡◌, ℕ, zero, suc, ◌+◌, ◌<◌, ◌≤◌, ◌⊎◌, Bool, true, false, ◌&&◌, if◌then◌else◌, List, [], ◌∷◌, ◌++◌, length, Some, None, get_or, refl, sym, ap, ◌∙◌, subst, ⊎_elim, slice_get, arith}
use Rattle.std.specs.Prelude.{nat_le, nat_lt, nat_eq, ◌/◌, ◌%◌, ◌^◌, ◌*◌}
use Rattle.std.proofs.lemmas.Bool.{and_parts, leb-true, ltb-true}
use Rattle.std.proofs.lemmas.Option.{same_Some, get_or_from_slice_get}
use Rattle.std.proofs.lemmas.List.Elements.{All-nil, All-append}
use Rattle.nv_base.specs.declared.term.Cmp.{Cmp}
use Rattle.ssu_ir.specs.Tree.{Step, Lit, Una, Bin, Clone, Read, Write, Last, Jump, Halt, Tree, Do, If, End, Label, Does, Forks, Ends}
use Rattle.ssu_ir.specs.Points.{Names, own}
use Rattle.ssu_ir.specs.Single.{takes_as_many, is_narrow, IsNarrow}
use Rattle.ssu_ir.proofs.Narrow.{narrow_is}
use Rattle.place_plan.specs.declared.place.Serve.{Serve}
use Rattle.place_plan.specs.Plan.{Plan, serve, first, pass}
use Rattle.ucode_emit.specs.Moves.{Move}
use Rattle.ucode_emit.specs.Pieces.{operands, words, result_place, to_slot, copies, all_copies, single_moves, shift_of, entry_point, Sequences, sequence_at, served_moves, last_moves, entry_moves, label_moves, tree_moves, parallel_moves}
use Rattle.ucode_emit.specs.Emits.{IsSequence, AreSequences}
use Rattle.ucode_emit.specs.inner.Machine.{IsWritable, AreDirect}
use Rattle.ucode_emit.specs.inner.Layers.{Placed, PointsAt, root_point}
use Rattle.ucode_emit.specs.inner.DraftItems.{CanMove}
use Rattle.ucode_emit.specs.inner.EmitContext.{ends, CanAll, CanDefine, CanNode}
use Rattle.ucode_emit.proofs.Layer.{ready_layer}
use Rattle.ucode_emit.proofs.LawfulPieces.{no_words, no_places, idle, node_here, takes_some, sequence_here, none_stand, given}
use Rattle.ucode_emit.proofs.Moving.{direct_can}
use Rattle.ucode_emit.proofs.Placing.{Part, part_head, entry_later}

-- ---- moves

pub can_moves : (slots : ℕ) (ms : List Move) → slots ≤ 128 → AreDirect slots ms → CanAll ms
can_moves slots ms n h = λ i d lt. direct_can slots (get_or ms i d).0 (get_or ms i d).1 n (h i d lt)

-- ---- literals

-- a narrow literal is below 2^32 - 2^16 + 1
narrow_below : (v : ℕ) → IsNarrow v → v / 65536 < 65536
narrow_below v (w, l, e) =
    ⊎_elim (λ (a : v ≡ w). omega (arith, l, a))
    (λ (r : (v ≡ w * 2 ^ 8) ⊎ (v ≡ w * 2 ^ 16)).
    ⊎_elim (λ (a : v ≡ w * 256). omega (arith, l, a)) (λ (a : v ≡ w * 65536). omega (arith, l, a)) r)
    e

-- by the tests of which shift it takes
short_by : (v : ℕ) (a b : Bool) → nat_lt v (2 ^ 16) ≡ a → (nat_eq (v % 2 ^ 8) 0 && nat_lt (v / 2 ^ 8) (2 ^ 16)) ≡ b → IsNarrow v → v / 2 ^ (if a then 0 else if b then 8 else 16) < 2 ^ 16
short_by v true b e f n = let l : v < 65536 = ltb-true v 65536 e in let z : v / 1 < 65536 = omega (arith, l) in z
short_by v false true e f n = ltb-true (v / 2 ^ 8) (2 ^ 16) (and_parts (nat_eq (v % 2 ^ 8) 0) (nat_lt (v / 2 ^ 8) (2 ^ 16)) f).1
short_by v false false e f n = narrow_below v n

-- it is a half word that is shifted
pub narrow_short : (v : ℕ) → is_narrow v ≡ true → v / 2 ^ shift_of v < 2 ^ 16
narrow_short v h = short_by v (nat_lt v (2 ^ 16)) (nat_eq (v % 2 ^ 8) 0 && nat_lt (v / 2 ^ 8) (2 ^ 16)) refl refl (narrow_is v h)

-- ---- steps

define_can : (p : Plan) (k x : ℕ) → p.slots ≤ 128 → IsWritable (result_place p k x) → AreDirect p.slots (to_slot p k x ++ copies p k x) → CanDefine p k x
define_can p k x n w d = (w, can_moves p.slots (to_slot p k x ++ copies p k x) n d)

few : (f n : ℕ) → f + n ≤ 8 → n ≤ 8
few f n h = omega arith

pub can_step : (labels : List Label) (p : Plan) (k : ℕ) (of : Names) (above : List ℕ) (s : Step) (t : Tree) (ms : List Move) → Placed labels p → PointsAt labels k of above (Do s t) → CanNode p k ms (Does s)
can_step labels p k of above (Lit x v) t ms h a =
    let d = (ready_layer labels p h).literal k of above x v 0 t no_words no_places a (idle labels p k (root_point of above (Do (Lit x v) t))) in
    let f = node_here labels p k of above (Do (Lit x v) t) h a in
    (narrow_short v f.fits, define_can p k x h.fits.slots d.0 d.1.0)
can_step labels p k of above (Una x op y) t ms h a =
    let q = root_point of above (Do (Una x op y) t) in
    let o = (ready_layer labels p h).one_operand k of above x y op t no_words no_places a (idle labels p k q) in
    let d = (ready_layer labels p h).unary k of above x y 0 op t no_words no_places a (idle labels p k q) in
    (can_moves p.slots (operands p k 1) h.fits.slots o.0.0, o.1, define_can p k x h.fits.slots d.0 d.1.0)
can_step labels p k of above (Bin x op y z) t ms h a =
    let q = root_point of above (Do (Bin x op y z) t) in
    let o = (ready_layer labels p h).two_operands k of above x y z op t no_words no_places a (idle labels p k q) in
    let d = (ready_layer labels p h).binary k of above x y z 0 op t no_words no_places a (idle labels p k q) in
    (can_moves p.slots (operands p k 2) h.fits.slots o.0.0, o.1, o.2, define_can p k x h.fits.slots d.0 d.1.0)
can_step labels p k of above (Clone xs y) t ms h a = tt
can_step labels p k of above (Read m xs y) t ms h a =
    let q = root_point of above (Do (Read m xs y) t) in
    let o = (ready_layer labels p h).read_address k of above m xs y t no_words no_places a (idle labels p k q) in
    let d = (ready_layer labels p h).read k of above m xs xs y t no_words no_places a refl (idle labels p k q) in
    (can_moves p.slots (operands p k 1) h.fits.slots o.0.0, o.1, few (first p k) (length xs) o.2, can_moves p.slots (all_copies p k xs) h.fits.slots d.0)
can_step labels p k of above (Write m y xs) t ms h a =
    let q = root_point of above (Do (Write m y xs) t) in
    let o = (ready_layer labels p h).written k of above m xs y t no_words no_places a (idle labels p k q) in
    (can_moves p.slots (operands p k 1 ++ words p k 1 (length xs)) h.fits.slots o.0.0, o.1, few (first p k) (length xs) o.2)

-- ---- forks

pub can_fork : (labels : List Label) (p : Plan) (k : ℕ) (of : Names) (above : List ℕ) (c : Cmp) (x y : ℕ) (t u : Tree) (ms : List Move) → Placed labels p → PointsAt labels k of above (If c x y t u) → CanNode p k ms (Forks c x y)
can_fork labels p k of above c x y t u ms h a =
    let o = (ready_layer labels p h).compared k of above c x y t u no_words no_places a (idle labels p k (root_point of above (If c x y t u))) in
    (can_moves p.slots (operands p k 2) h.fits.slots o.0.0, o.1, o.2)

-- ---- jumps and ends

pub can_last : (labels : List Label) (p : Plan) (k : ℕ) (of : Names) (above : List ℕ) (l : Last) (ms : List Move) → Placed labels p → PointsAt labels k of above (End l) → IsSequence (last_moves p k l) ms → CanNode p k ms (Ends l)
can_last labels p k of above (Jump l xs) ms h a s =
    let q = root_point of above (End (Jump l xs)) in
    let f = node_here labels p k of above (End (Jump l xs)) h a in
    let to = takes_some (length xs) (slice_get labels l) (and_parts (nat_le 1 l) (takes_as_many (length xs) (slice_get labels l)) f.fits).1 in
    let d = (ready_layer labels p h).jump k of above l xs to.0 ms no_words no_words no_places a to.1 (λ i x y e g. refl) s (idle labels p k q) in
    can_moves p.slots (single_moves (pass p k).l ms) h.fits.slots d.0
can_last labels p k of above (Halt c xs) ms h a s =
    let q = root_point of above (End (Halt c xs)) in
    let f = node_here labels p k of above (End (Halt c xs)) h a in
    let d = (ready_layer labels p h).halt k of above c xs ms no_words no_places a s (idle labels p k q) in
    (can_moves p.slots (single_moves (pass p k).l ms) h.fits.slots d.0, leb-true (length xs) 8 f.fits)

-- the point to which a jump goes
abbrev pub jump_to : List Label → Last → ℕ
jump_to labels (Jump l xs) = entry_point labels l
jump_to labels (Halt e xs) = 0

-- ---- where labels begin

entry_can : (labels : List Label) (p : Plan) (mss : Sequences) (l k : ℕ) (it : Label) → Placed labels p → AreSequences (parallel_moves p labels) mss → slice_get labels l ≡ Some it → entry_point labels l ≡ k
    → Part k (label_moves p k it) (parallel_moves p labels) → CanAll (single_moves None (sequence_at mss k))
entry_can labels p mss zero zero it h s e n m =
    let q = sequence_here (parallel_moves p labels) mss 0 (entry_moves p 0 it.params) s (m.each 0 (entry_moves p 0 it.params) refl) in
    let d = (ready_layer labels p h).begins it (sequence_at mss 0) it.params own (given it.params) e refl (λ i x w f g. same_Some x w (sym f ∙ g)) q (λ i w g. get_or_from_slice_get it.params i w 0 g) in
    can_moves p.slots (single_moves None (sequence_at mss 0)) h.fits.slots d.0
entry_can labels p mss (suc l) zero it h s e n m = let z = entry_later labels l it e in absurd (omega (arith, z, n))
entry_can labels p mss l (suc k) it h s e n m =
    let there : slice_get (parallel_moves p labels) (suc k) ≡ Some [] = part_head (suc k) [] (tree_moves p (suc (suc k)) it.body) (parallel_moves p labels) m in
    let is : sequence_at mss (suc k) ≡ [] = none_stand (sequence_at mss (suc k)) (sequence_here (parallel_moves p labels) mss (suc k) [] s there).kinds in
    subst (λ ms. CanAll (single_moves None ms)) (sym is) (can_moves p.slots [] h.fits.slots (All-nil _))

copies_can : (labels : List Label) (p : Plan) (l k : ℕ) (it : Label) → Placed labels p → slice_get labels l ≡ Some it → entry_point labels l ≡ k → PointsAt labels (suc k) own it.params it.body → CanAll (all_copies p k it.params)
copies_can labels p l k it h e n a =
    let d = (ready_layer labels p h).entry l it no_words no_places e (subst (λ j. PointsAt labels (suc j) own it.params it.body) (sym n) a) (λ x i. refl) in
    subst (λ j. CanAll (all_copies p j it.params)) n (can_moves p.slots (all_copies p (entry_point labels l) it.params) h.fits.slots d.0)

pub can_front : (labels : List Label) (p : Plan) (mss : Sequences) (l k : ℕ) (it : Label) → Placed labels p → AreSequences (parallel_moves p labels) mss → slice_get labels l ≡ Some it → entry_point labels l ≡ k
    → Part k (label_moves p k it) (parallel_moves p labels) → PointsAt labels (suc k) own it.params it.body → CanAll (single_moves None (sequence_at mss k) ++ all_copies p k it.params)
can_front labels p mss l k it h s e n m a = All-append (λ m. CanMove m.0 m.1) (single_moves None (sequence_at mss k)) (all_copies p k it.params) (entry_can labels p mss l k it h s e n m) (copies_can labels p l k it h e n a)

-- ---- operands that are brought together

served_from : (p : Plan) (k i : ℕ) (ss : List Serve) → ((j : ℕ) (s : Serve) → slice_get ss j ≡ Some s → serve p k (i + j) ≡ s) → ends ss ≡ served_moves p k i (length ss)
served_from p k i [] h = refl
served_from p k i (s ∷ ss) h =
    let z : i ≡ i + 0 = omega arith in
    let emit_context : serve p k i ≡ s = ap (serve p k) z ∙ h 0 s refl in
    ap (λ (m : Move). m ∷ ends ss) (sym (ap (λ r. (r.from, r.at)) emit_context))
    ∙ ap (λ l. ((serve p k i).from, (serve p k i).at) ∷ l) (served_from p k (suc i) ss (λ j r e. let w : suc i + j ≡ i + suc j = omega arith in ap (serve p k) w ∙ h (suc j) r e))

pub ends_served : (p : Plan) (k n : ℕ) (ss : List Serve) → length ss ≡ n → ((i : ℕ) (s : Serve) → slice_get ss i ≡ Some s → serve p k i ≡ s) → ends ss ≡ served_moves p k 0 n
ends_served p k n ss e h =
    served_from p k 0 ss (λ j s g. let z : 0 + j ≡ j = omega arith in ap (serve p k) z ∙ h j s g) ∙ ap (served_moves p k 0) e

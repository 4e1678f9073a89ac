-- Jumps and ends: each word comes where its parameter is defined, or into the register in which it is handed over.
use Rattle.std.proofs.Common.{◌≡◌, ℕ, ◌+◌, ◌<◌, ◌≤◌, nat_le, true, List, map, length, Some, refl, sym, ap, ◌∙◌, subst, slice_get, arith}
use Rattle.std.specs.List.{AllByRecursion}
use Rattle.std.proofs.lemmas.Bool.{and_parts, eqb-true, leb-true}
use Rattle.std.proofs.lemmas.Option.{slice_get_within}
use Rattle.nv_base.specs.Sets.{is_in}
use Rattle.nv_base.specs.Words.{Env}
use Rattle.ssu_ir.specs.Tree.{Jump, Halt, End, Label}
use Rattle.ssu_ir.specs.Single.{takes_as_many}
use Rattle.ssu_ir.specs.Points.{Names, Point, points}
use Rattle.ssu_ir.proofs.Lists.{some-there}
use Rattle.place_plan.specs.declared.place.Place.TheVariants.{A}
use Rattle.place_plan.specs.Plan.{Plan, home, serve, pass}
use Rattle.place_plan.specs.Uses.{Role, Argument, Ending, roles, place_roles, uses_at}
use Rattle.ucode_emit.specs.Moves.{Move, Words, one_by_one}
use Rattle.ucode_emit.specs.Pieces.{single_moves, served_moves}
use Rattle.ucode_emit.specs.Emits.{IsSequence}
use Rattle.ucode_emit.specs.inner.Ready.{Ready, Entered}
use Rattle.ucode_emit.specs.inner.Layers.{Placed, PointsAt, root_point, HoldsAfterMoves}
use Rattle.ucode_emit.proofs.PointsLabels.{formed_at}
use Rattle.ucode_emit.proofs.PointsUses.{in_at, at_in}
use Rattle.ucode_emit.proofs.Entries.{IsMoved, general_moved, param_home}
use Rattle.ucode_emit.proofs.EntriesMoves.{JumpTarget, param_is, jump_served, halt_served, role_at, map_get}
use Rattle.ucode_emit.proofs.OperandsHomes.{EmitContext, here_at, source_of, IsEmitContext, uses_here}
use Rattle.ucode_emit.proofs.Bring.{Sent, all_sent}

-- the use of this number, where all uses have one kind of role
pub role_here : (labels : List Label) (p : Plan) (k : ℕ) (q : Point) (of : Names) (role : ℕ → Role) (xs : List ℕ) (j x : ℕ) → Placed labels p → slice_get (points labels) k ≡ Some q → q.uses ≡ map of xs → place_roles q.place ≡ roles role 0 xs
    → slice_get xs j ≡ Some x → IsEmitContext labels p k (record { point = k; operand = j; value = of x; role = role j })
role_here labels p k q of role xs j x h e u r g =
    let a = subst (λ us. AllByRecursion (IsEmitContext labels p k) (uses_at k 0 us (place_roles q.place))) u (uses_here labels p k q h e) in
    let b = subst (λ rs. AllByRecursion (IsEmitContext labels p k) (uses_at k 0 (map of xs) rs)) r a in
    let z : 0 + j ≡ j = omega arith in
    subst (λ n. IsEmitContext labels p k (record { point = k; operand = n; value = of x; role = role n })) z (role_at (IsEmitContext labels p k) k of role 0 0 xs j x b g)

-- ---- jumps

argument_sent : (labels : List Label) (p : Plan) (k : ℕ) (q : Point) (of : Names) (l : ℕ) (xs : List ℕ) (to : Label) (j x y : ℕ) → Placed labels p → EmitContext labels k q → q.uses ≡ map of xs → slice_get labels l ≡ Some to
    → IsEmitContext labels p k (record { point = k; operand = j; value = of x; role = Argument l j }) → slice_get xs j ≡ Some x → slice_get to.params j ≡ Some y → Sent labels p k q (of x) j
argument_sent labels p k q of l xs to j x y h s u e i g f =
    let used = ap (is_in (of x)) u ∙ at_in (of x) (map of xs) j (map_get of xs j x g) in
    let at : (serve p k j).at ≡ (home p y).defined = i.0.0.1 ∙ ap (λ z. (home p z).defined) (param_is labels l to j y e f) in record {
      source = source_of labels p k q (record { point = k; operand = j; value = of x; role = Argument l j }) h s i.0.1 used i.0.0.0;
      passes = i.1;
      moved = subst (IsMoved p.slots) (sym at) (general_moved p (home p y).defined (param_home labels p l to j y h e f).0);
    }

target_of : (labels : List Label) (l count : ℕ) (to : Label) → slice_get labels l ≡ Some to → takes_as_many count (slice_get labels l) ≡ true → length to.params ≡ count
target_of labels l count to e h = eqb-true (length to.params) count (sym (ap (takes_as_many count) e) ∙ h)

pub jump : (labels : List Label) (p : Plan) → Placed labels p → (k : ℕ) (of : Names) (above : List ℕ) (l : ℕ) (xs : List ℕ) (to : Label) (ms : List Move) (env new : Env) (e : Words) → PointsAt labels k of above (End (Jump l xs)) → slice_get labels l ≡ Some to
    → ((i x y : ℕ) → slice_get xs i ≡ Some x → slice_get to.params i ≡ Some y → new y ≡ env (of x))
    → IsSequence (served_moves p k 0 (length xs)) ms → Ready labels p k (root_point of above (End (Jump l xs))) env e
    → HoldsAfterMoves p.slots (single_moves (pass p k).l ms) e (Entered p to.params new)
jump labels p h k of above l xs to ms env new e a g v sq d =
    let q = root_point of above (End (Jump l xs)) in
    let s = here_at labels p k of above (End (Jump l xs)) h a in
    let b = and_parts (nat_le 1 l) (takes_as_many (length xs) (slice_get labels l)) (formed_at labels k q h.single s.at).fits in
    let many : length to.params ≡ length xs = target_of labels l (length xs) to g b.1 in
    let goal : JumpTarget labels l (length xs) = record { it = to; there = g; as_many = many } in
    let well = jump_served labels p k of above l xs q h s.at refl refl goal in
    let sent = λ (j x y : ℕ) (c : slice_get xs j ≡ Some x) (f : slice_get to.params j ≡ Some y).
    argument_sent labels p k q of l xs to j x y h s refl g (role_here labels p k q of (Argument l) xs j x h s.at refl refl c) c f in
    let r = all_sent labels p k q (length xs) ms env e h s well
    (λ j n.
    let x = some-there xs j n in
    let y = some-there to.params j (omega arith) in
    (of x.0, sent j x.0 y.0 x.1 y.1)) sq d in (
      r.direct,
      λ y i.
          let c = in_at y to.params i in
          let j = c.place in
          let m : j < length to.params = slice_get_within to.params j y c.there in
          let n : j < length xs = omega arith in
          let x = some-there xs j n in
          let u = role_here labels p k q of (Argument l) xs j x.0 h s.at refl refl x.1 in
          let at : (serve p k j).at ≡ (home p y).defined = u.0.0.1 ∙ ap (λ z. (home p z).defined) (param_is labels l to j y g c.there) in
          ap (one_by_one (single_moves (pass p k).l ms) e) (sym at) ∙ (r.word j (of x.0) n (sent j x.0 y x.1 c.there) ∙ sym (v j x.0 y x.1 c.there)),
    )

-- ---- ends

ending_sent : (labels : List Label) (p : Plan) (k : ℕ) (q : Point) (of : Names) (xs : List ℕ) (j x : ℕ) → Placed labels p → EmitContext labels k q → q.uses ≡ map of xs → j < 16
    → IsEmitContext labels p k (record { point = k; operand = j; value = of x; role = Ending j }) → slice_get xs j ≡ Some x → Sent labels p k q (of x) j
ending_sent labels p k q of xs j x h s u n i g =
    let used = ap (is_in (of x)) u ∙ at_in (of x) (map of xs) j (map_get of xs j x g) in record {
      source = source_of labels p k q (record { point = k; operand = j; value = of x; role = Ending j }) h s i.0.1 used i.0.0.0;
      passes = i.1;
      moved = subst (IsMoved p.slots) (sym i.0.0.1) n;
    }

pub halt : (labels : List Label) (p : Plan) → Placed labels p → (k : ℕ) (of : Names) (above : List ℕ) (c : ℕ) (xs : List ℕ) (ms : List Move) (env : Env) (e : Words) → PointsAt labels k of above (End (Halt c xs))
    → IsSequence (served_moves p k 0 (length xs)) ms → Ready labels p k (root_point of above (End (Halt c xs))) env e
    → HoldsAfterMoves p.slots (single_moves (pass p k).l ms) e (λ e'. (i x : ℕ) → slice_get xs i ≡ Some x → e' (A i) ≡ env (of x))
halt labels p h k of above c xs ms env e a sq d =
    let q = root_point of above (End (Halt c xs)) in
    let s = here_at labels p k of above (End (Halt c xs)) h a in
    let few : length xs ≤ 8 = leb-true (length xs) 8 (formed_at labels k q h.single s.at).fits in
    let well = halt_served labels p k of xs q h s.at refl refl few in
    let sent = λ (j x : ℕ) (n : j < length xs) (g : slice_get xs j ≡ Some x).
    ending_sent labels p k q of xs j x h s refl (omega arith) (role_here labels p k q of Ending xs j x h s.at refl refl g) g in
    let r = all_sent labels p k q (length xs) ms env e h s well
    (λ j n.
    let x = some-there xs j n in
    (of x.0, sent j x.0 n x.1)) sq d in (
      r.direct,
      λ i x g.
          let n : i < length xs = slice_get_within xs i x g in
          let u = role_here labels p k q of Ending xs i x h s.at refl refl g in
          ap (one_by_one (single_moves (pass p k).l ms) e) (sym u.0.0.1) ∙ r.word i (of x) n (sent i x n g),
    )

-- Where a label begins: its parameters are copied, and all stands ready for its first node.
use Rattle.std.proofs.Common.{◌≡◌, ℕ, zero, suc, ◌+◌, ◌<◌, ◌≤◌, nat_eq, Bool, true, false, not, ◌&&◌, List, [], ◌∷◌, ◌++◌, length, Option, Some, None, if◌then◌else◌, refl, sym, ap, ◌∙◌, subst, slice_get, arith}
use Rattle.std.specs.List.{AllByRecursion, list_all}
use Rattle.std.proofs.lemmas.Bool.{and_parts, or_left, or_right, not-true, false≢true, leb-true}
use Rattle.std.proofs.lemmas.List.Elements.{All-from_recursion}
use Rattle.std.proofs.lemmas.Option.{none-some, same_Some}
use Rattle.nv_base.specs.Sets.{is_in, all_different}
use Rattle.nv_base.specs.Words.{Env}
use Rattle.ssu_ir.specs.Tree.{Label}
use Rattle.ssu_ir.specs.Single.{all_defined, is_entry, is_single}
use Rattle.ssu_ir.specs.Points.{own, points}
use Rattle.place_plan.specs.declared.place.Place.{Place}
use Rattle.place_plan.specs.declared.place.Place.TheVariants.{A, B, L, LD, S, SD, Slot}
use Rattle.place_plan.specs.Places.{same_place}
use Rattle.place_plan.specs.Plan.{Plan, home}
use Rattle.place_plan.specs.Uses.{Parameter, numbered, place_values as values_at}
use Rattle.place_plan.specs.Fits.{IsGeneral, is_general, AreCopies, IsHoused, general_places, has_place}
use Rattle.place_plan.proofs.Places.{same_place-from}
use Rattle.ucode_emit.specs.Moves.{Move, Words, put, one_by_one, all_at_once, temporary, StandFor, none, once, around, at_rest}
use Rattle.ucode_emit.proofs.MoveSteps.{put-other}
use Rattle.ucode_emit.specs.Pieces.{entry_point, all_copies, entry_moves, single_move, single_moves}
use Rattle.ucode_emit.specs.Emits.{IsSequence}
use Rattle.ucode_emit.specs.inner.Ready.{Ready, Entered, Begun}
use Rattle.ucode_emit.specs.inner.Machine.{write_slot, copied as in_one}
use Rattle.ucode_emit.specs.inner.Layers.{Placed, PointsAt, root_point, HoldsAfterMoves}
use Rattle.ucode_emit.proofs.PointsEach.{each_here, all_left, all_right, all_both}
use Rattle.ucode_emit.proofs.PointsLabels.{formed_at, entry_at, entry_there}
use Rattle.ucode_emit.proofs.PointsUses.{in_at, at_in, numbered_at}
use Rattle.ucode_emit.proofs.PointsUsed.{spot_entry}
use Rattle.ucode_emit.proofs.Copies.{put_here, one_append, place_head}
use Rattle.ucode_emit.proofs.DefinitionsHomes.{general_is, place_filter, none_both, housed_each}
use Rattle.ucode_emit.proofs.DefinitionsReady.{ready_behind}
use Rattle.ucode_emit.proofs.DefinitionsDirect.{OneInstr, copies_are_direct}
use Rattle.ucode_emit.proofs.DefinitionsResult.{general_gives}
use Rattle.ucode_emit.proofs.DefinitionsRead.{word_there}

-- ---- the parameters of a label

pub entry_here : (labels : List Label) (l : ℕ) (it : Label) → slice_get labels l ≡ Some it → slice_get (points labels) (entry_point labels l) ≡ Some (entry_at l it)
entry_here labels l it e = let z : 0 + l ≡ l = omega arith in entry_there 0 l labels it e ∙ ap (λ j. Some (entry_at j it)) z

abbrev pub ParamHome : List Label → Plan → ℕ → Type 0
ParamHome labels p x = IsGeneral p (home p x).defined × AreCopies labels p x (home p x)

pub param_home : (labels : List Label) (p : Plan) (l : ℕ) (it : Label) (i x : ℕ) → Placed labels p → slice_get labels l ≡ Some it → slice_get it.params i ≡ Some x → ParamHome labels p x
param_home labels p l it i x h e f =
    let k = entry_point labels l in
    let all : AllByRecursion (IsHoused labels p) (numbered k (Parameter l) 0 it.params) =
    each_here (λ k q. AllByRecursion (IsHoused labels p) (values_at k q.place)) (points labels) k (entry_at l it) (housed_each labels p h) (entry_here labels l it e) in
    numbered_at (IsHoused labels p) k (Parameter l) 0 it.params i x all f

pub param_general : (labels : List Label) (p : Plan) (l : ℕ) (it : Label) (x : ℕ) → Placed labels p → slice_get labels l ≡ Some it → is_in x it.params ≡ true → ParamHome labels p x
param_general labels p l it x h e i = let a = in_at x it.params i in param_home labels p l it a.place x h e a.there

-- two parameters are defined in two places
pub params_apart : (labels : List Label) (p : Plan) (l : ℕ) (it : Label) (x y : ℕ) → Placed labels p → slice_get labels l ≡ Some it → is_in x it.params ≡ true → is_in y it.params ≡ true → (x ≡ y → ⊥) → (home p x).defined ≡ (home p y).defined → ⊥
params_apart labels p l it x y h e i j n same =
    let k = entry_point labels l in
    let d = (home p x).defined in
    let gx = general_is p d (param_general labels p l it x h e i).0 in
    let apart = (h.fits.points k (entry_at l it) (entry_here labels l it e)).held.general x y i j n in
    let in_x : has_place d (general_places p x) ≡ true = place_filter is_general d (d ∷ (home p x).copied) (place_head d (home p x).copied) gx in
    let in_y : has_place d (general_places p y) ≡ true =
    place_filter is_general d ((home p y).defined ∷ (home p y).copied) (or_left (same_place d (home p y).defined) (has_place d (home p y).copied) (same_place-from d (home p y).defined same)) gx in
    none_both d (general_places p x) (general_places p y) apart in_x in_y

pub params_differ : (labels : List Label) (p : Plan) (l : ℕ) (it : Label) → Placed labels p → slice_get labels l ≡ Some it → all_different it.params ≡ true
params_differ labels p l it h e = (formed_at labels (entry_point labels l) (entry_at l it) h.single (entry_here labels l it e)).different

-- ---- the entry

pub entry : (labels : List Label) (p : Plan) → Placed labels p → (l : ℕ) (it : Label) (env : Env) (e : Words) → slice_get labels l ≡ Some it → PointsAt labels (suc (entry_point labels l)) own it.params it.body
    → Entered p it.params env e → HoldsAfterMoves p.slots (all_copies p (entry_point labels l) it.params) e (Ready labels p (suc (entry_point labels l)) (root_point own it.params it.body) env)
entry labels p h l it env e f a d =
    let k = entry_point labels l in
    let q = entry_at l it in
    let r = root_point own it.params it.body in
    let s = spot_entry labels l it f a in (
      copies_are_direct labels p k q r it.params h s (λ x i u. let g = param_general labels p l it x h f i in general_gives labels p x g.0 g.1),
      ready_behind labels p k q r it.params env e h s
          (record {
            defined = λ x i u. d x i;
            held = λ x i n t m. absurd (false≢true (sym n ∙ (sym (ap (is_in x) s.above_it) ∙ s.known x i)));
            early = λ u w n. absurd (false≢true (sym n ∙ (sym (ap (is_in u.value) s.above_it) ∙ w.defined)));
          }),
    )

-- ---- the moves before the run

-- what holds of all sources and all targets of moves holds of single moves that stand for them
pub stand_all : {moves ms : List Move} (P Q : Place → Type 0) → P temporary → Q temporary → StandFor moves ms → AllByRecursion (λ m. P m.0 × Q m.1) moves → AllByRecursion (λ m. P m.0 × Q m.1) ms
stand_all P Q a b none h = tt
stand_all P Q a b (once {s} {t} x y n sf) h =
    let R = λ (m : Move). P m.0 × Q m.1 in
    let rest = stand_all P Q a b sf h.1 in
    all_both R x ((s, t) ∷ y) (all_left R x y rest) (h.0, all_right R x y rest)
stand_all P Q a b (around {s} {t} x y z n sf) h =
    let R = λ (m : Move). P m.0 × Q m.1 in
    let rest = stand_all P Q a b sf h.1 in
    let back = all_right R x (y ++ z) rest in
    all_both R x ((s, temporary) ∷ (y ++ ((temporary, t) ∷ z))) (all_left R x (y ++ z) rest)
    ((h.0.0, b), all_both R y ((temporary, t) ∷ z) (all_left R y z back) ((a, h.0.1), all_right R y z back))
stand_all P Q a b (at_rest sf) h = stand_all P Q a b sf h.1

-- sources of the first bank, and targets that are general
abbrev pub IsLow : Place → Type 0
IsLow (A k) = k < 16
IsLow _ = ⊥

abbrev pub IsMoved : ℕ → Place → Type 0
IsMoved slots (A k) = k < 16
IsMoved slots (B k) = k < 15
IsMoved slots (Slot k) = k < slots
IsMoved slots _ = ⊥

pub general_moved : (p : Plan) (r : Place) → IsGeneral p r → IsMoved p.slots r
general_moved p (A k) h = omega arith
general_moved p (B k) h = h
general_moved p (Slot k) h = h
general_moved p (L k) h = absurd h
general_moved p (LD k) h = absurd h
general_moved p (S k) h = absurd h
general_moved p (SD k) h = absurd h

put_agree_if : (b : Bool) (v v' u u' : ℕ) → v ≡ v' → u ≡ u' → (if b then v else u) ≡ (if b then v' else u')
put_agree_if true v v' u u' h g = h
put_agree_if false v v' u u' h g = g

pub put_agree : (e e' : Words) (p q : Place) (v v' : ℕ) → v ≡ v' → e q ≡ e' q → put e p v q ≡ put e' p v' q
put_agree e e' p q v v' h g = put_agree_if (same_place q p) v v' (e q) (e' q) h g

-- alike but in the first write register
abbrev pub Alike : Words → Words → Type 0
Alike e e' = (q : Place) → (q ≡ S 0 → ⊥) → e q ≡ e' q

a_no_s : (k n : ℕ) → A k ≡ S n → ⊥
a_no_s k n e = false≢true (sym (ap is_general e))

move_alike : (slots : ℕ) (from at : Place) → IsLow from → IsMoved slots at → (e e' : Words) → Alike e e' → Alike (one_by_one (single_move None from at) e) (put e' at (e' from))
move_alike slots (A k) (A j) f t e e' h q n = put_agree e e' (A j) q (e (A k)) (e' (A k)) (h (A k) (a_no_s k 0)) (h q n)
move_alike slots (A k) (B j) f t e e' h q n = put_agree e e' (B j) q (e (A k)) (e' (A k)) (h (A k) (a_no_s k 0)) (h q n)
move_alike slots (A k) (Slot j) f t e e' h q n =
    let m = put e (S 0) (e (A k)) in
    put_agree m e' (Slot j) q (m (S 0)) (e' (A k)) (put_here e (S 0) (e (A k)) ∙ h (A k) (a_no_s k 0)) (put-other e (S 0) q (e (A k)) n ∙ h q n)
move_alike slots (A k) (L j) f t e e' h q n = absurd t
move_alike slots (A k) (LD j) f t e e' h q n = absurd t
move_alike slots (A k) (S j) f t e e' h q n = absurd t
move_alike slots (A k) (SD j) f t e e' h q n = absurd t
move_alike slots (B k) at f t e e' h q n = absurd f
move_alike slots (L k) at f t e e' h q n = absurd f
move_alike slots (LD k) at f t e e' h q n = absurd f
move_alike slots (S k) at f t e e' h q n = absurd f
move_alike slots (SD k) at f t e e' h q n = absurd f
move_alike slots (Slot k) at f t e e' h q n = absurd f

abbrev pub FromLow : ℕ → Move → Type 0
FromLow slots m = IsLow m.0 × IsMoved slots m.1

moves_alike : (slots : ℕ) (ms : List Move) → AllByRecursion (FromLow slots) ms → (e e' : Words) → Alike e e' → Alike (one_by_one (single_moves None ms) e) (one_by_one ms e')
moves_alike slots [] a e e' h q n = h q n
moves_alike slots (m ∷ ms) a e e' h q n =
    ap (λ (f : Words). f q) (one_append (single_move None m.0 m.1) (single_moves None ms) e)
    ∙ moves_alike slots ms a.1 (one_by_one (single_move None m.0 m.1) e) (put e' m.1 (e' m.0)) (move_alike slots m.0 m.1 a.0.0 a.0.1 e e' h) q n

move_direct : (slots : ℕ) (from at : Place) → IsLow from → IsMoved slots at → AllByRecursion (OneInstr slots) (single_move None from at)
move_direct slots (A k) (A j) f t = (in_one f t, tt)
move_direct slots (A k) (B j) f t = (in_one f t, tt)
move_direct slots (A k) (Slot j) f t = let z : 0 < 8 = omega arith in (in_one f z, (write_slot z t, tt))
move_direct slots (A k) (L j) f t = absurd t
move_direct slots (A k) (LD j) f t = absurd t
move_direct slots (A k) (S j) f t = absurd t
move_direct slots (A k) (SD j) f t = absurd t
move_direct slots (B k) at f t = absurd f
move_direct slots (L k) at f t = absurd f
move_direct slots (LD k) at f t = absurd f
move_direct slots (S k) at f t = absurd f
move_direct slots (SD k) at f t = absurd f
move_direct slots (Slot k) at f t = absurd f

moves_direct : (slots : ℕ) (ms : List Move) → AllByRecursion (FromLow slots) ms → AllByRecursion (OneInstr slots) (single_moves None ms)
moves_direct slots [] a = tt
moves_direct slots (m ∷ ms) a = all_both (OneInstr slots) (single_move None m.0 m.1) (single_moves None ms) (move_direct slots m.0 m.1 a.0.0 a.0.1) (moves_direct slots ms a.1)

later : (x y : ℕ) (xs : List ℕ) → is_in y xs ≡ true → is_in y (x ∷ xs) ≡ true
later x y xs i = or_right (nat_eq y x) (is_in y xs) i

entry_low : (p : Plan) (i : ℕ) (xs : List ℕ) → i + length xs ≤ 16 → ((x : ℕ) → is_in x xs ≡ true → IsMoved p.slots (home p x).defined) → AllByRecursion (FromLow p.slots) (entry_moves p i xs)
entry_low p i [] n h = tt
entry_low p i (x ∷ xs) n h =
    let low : i < 16 = omega arith in
    ((low, h x (at_in x (x ∷ xs) zero refl)), entry_low p (suc i) xs (omega arith) (λ y j. h y (later x y xs j)))

-- all at once, each parameter gets its word
entry_at_once : (p : Plan) (i : ℕ) (xs : List ℕ) (e : Words) (j x : ℕ) → all_different xs ≡ true → ((y z : ℕ) → is_in y xs ≡ true → is_in z xs ≡ true → (y ≡ z → ⊥) → (home p y).defined ≡ (home p z).defined → ⊥)
    → slice_get xs j ≡ Some x → all_at_once (entry_moves p i xs) e (home p x).defined ≡ e (A (i + j))
entry_at_once p i [] e j x d a g = absurd (none-some x g)
entry_at_once p i (y ∷ xs) e zero x d a g =
    let z : i ≡ i + zero = omega arith in
    ap (λ v. put (all_at_once (entry_moves p (suc i) xs) e) (home p y).defined (e (A i)) (home p v).defined) (sym (same_Some y x g))
    ∙ (put_here (all_at_once (entry_moves p (suc i) xs) e) (home p y).defined (e (A i)) ∙ ap (λ n. e (A n)) z)
entry_at_once p i (y ∷ xs) e (suc j) x d a g =
    let z : suc i + j ≡ i + suc j = omega arith in
    let q = and_parts (not (is_in y xs)) (all_different xs) d in
    let there : is_in x xs ≡ true = at_in x xs j g in
    let other : x ≡ y → ⊥ = λ s. false≢true (sym (not-true (is_in y xs) q.0) ∙ subst (λ v. is_in v xs ≡ true) s there) in
    put-other (all_at_once (entry_moves p (suc i) xs) e) (home p y).defined (home p x).defined (e (A i)) (λ s. a x y (later y x xs there) (at_in y (y ∷ xs) zero refl) other s)
    ∙ (entry_at_once p (suc i) xs e j x q.1 (λ v w b c. a v w (later y v xs b) (later y w xs c)) g ∙ ap (λ n. e (A n)) z)

pub general_no_temporary : (p : Plan) (r : Place) → IsGeneral p r → r ≡ temporary → ⊥
general_no_temporary p r g e = let n : 15 < 15 = subst (IsGeneral p) e g in omega arith

general_no_write : (p : Plan) (r : Place) (n : ℕ) → IsGeneral p r → r ≡ S n → ⊥
general_no_write p r n g e = subst (IsGeneral p) e g

-- label 0 has at most 8 parameters
entry_bound : (o : Option Label) (it : Label) → is_entry o ≡ true → o ≡ Some it → length it.params ≤ 8
entry_bound (Some l) it h e = subst (λ (k : Label). length k.params ≤ 8) (same_Some l it e) (leb-true (length l.params) 8 h)
entry_bound None it h e = absurd (none-some it e)

pub few_params : (labels : List Label) (p : Plan) (it : Label) → Placed labels p → slice_get labels 0 ≡ Some it → length it.params ≤ 8
few_params labels p it h e =
    let d = and_parts (is_entry (slice_get labels 0)) (all_different (all_defined labels) && list_all (is_single labels) labels) h.single in
    entry_bound (slice_get labels 0) it d.0 e

pub begins : (labels : List Label) (p : Plan) → Placed labels p → (it : Label) (ms : List Move) (args : List ℕ) (env : Env) (e : Words) → slice_get labels 0 ≡ Some it → length args ≡ length it.params
    → ((i x w : ℕ) → slice_get it.params i ≡ Some x → slice_get args i ≡ Some w → env x ≡ w)
    → IsSequence (entry_moves p 0 it.params) ms → Begun args e → HoldsAfterMoves p.slots (single_moves None ms) e (Entered p it.params env)
begins labels p h it ms args env e f n v sq b =
    let most : length it.params ≤ 8 = few_params labels p it h f in
    let few : 0 + length it.params ≤ 16 = omega arith in
    let t : 15 < 16 = omega arith in
    let low = stand_all IsLow (IsMoved p.slots) t t sq.kinds (entry_low p 0 it.params few (λ x i. general_moved p (home p x).defined (param_general labels p 0 it x h f i).0)) in (
      All-from_recursion (OneInstr p.slots) (single_moves None ms) (moves_direct p.slots ms low),
      λ x i.
          let a = in_at x it.params i in
          let w = word_there it.params args a.place x n a.there in
          let g = (param_general labels p 0 it x h f i).0 in
          let d = (home p x).defined in
          let z : 0 + a.place ≡ a.place = omega arith in
          moves_alike p.slots ms low e e (λ q m. refl) d (general_no_write p d 0 g)
          ∙ (sq.effect e d (general_no_temporary p d g)
          ∙ (entry_at_once p 0 it.params e a.place x (params_differ labels p 0 it h f) (λ y u c k. params_apart labels p 0 it y u h f c k) a.there
          ∙ (ap (λ k. e (A k)) z ∙ (b a.place w.0 w.1 ∙ sym (v a.place x w.0 a.there w.1))))),
    )

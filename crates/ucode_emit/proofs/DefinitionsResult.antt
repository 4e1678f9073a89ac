-- A step that defines one value: it is put, brought to its slot and copied, and after it all stands ready.
use Rattle.std.proofs.Common.{◌≡◌, ℕ, suc, ◌+◌, ◌<◌, ◌≤◌, ◌⊎◌, nat_eq, Bool, true, false, ◌&&◌, ◌||◌, List, [], ◌∷◌, ◌++◌, Option, if◌then◌else◌, refl, sym, ap, ◌∙◌, subst, inl, inr, ⊎_elim, arith, append-nil}
use Rattle.std.specs.List.{AllByRecursion, list_any}
use Rattle.std.proofs.lemmas.Bool.{and_from, or_left, or_right, false≢true, eq-eqb, leb-true, le-leb, false_from_ne_true}
use Rattle.std.proofs.lemmas.List.Elements.{recursion_from_All, All-from_recursion}
use Rattle.nv_base.specs.declared.term.Una.{Una as Unary}
use Rattle.nv_base.specs.declared.term.Bin.{Bin as Binary}
use Rattle.nv_base.specs.Sets.{is_in}
use Rattle.nv_base.specs.Words.{Env, assigned}
use Rattle.ssu_ir.specs.Tree.{Lit, Una, Bin, Tree, Do, Label}
use Rattle.ssu_ir.specs.Points.{Names, Point, points}
use Rattle.ssu_ir.proofs.Lists.{in-itself}
use Rattle.place_plan.specs.declared.place.Place.{Place}
use Rattle.place_plan.specs.declared.place.Place.TheVariants.{S}
use Rattle.place_plan.specs.Plan.{Plan, home, pass}
use Rattle.place_plan.specs.Uses.{result, place_values as values_at, Use, is_used}
use Rattle.place_plan.specs.Fits.{IsGeneral, is_general, is_slot, is_write_register, is_read_register, word_register, AreCopies, IsPutEarly, IsHoused, general_places, has_place, comes_to_slot, Waits}
use Rattle.ssu_liveness.proofs.Scoped.{in-either}
use Rattle.ucode_emit.specs.Moves.{Move, Words, put, one_by_one}
use Rattle.ucode_emit.proofs.MoveSteps.{put-other}
use Rattle.ucode_emit.specs.Pieces.{named, result_place, to_slot, copies}
use Rattle.ucode_emit.specs.inner.Ready.{Ready, WaitsAt}
use Rattle.ucode_emit.specs.inner.Machine.{IsWritable, AreDirect}
use Rattle.ucode_emit.specs.inner.Layers.{Placed, PointsAt, root_point, HoldsAfterMoves}
use Rattle.ucode_emit.proofs.PointsEach.{each_here, all_both}
use Rattle.ucode_emit.proofs.PointsTree.{in_one}
use Rattle.ucode_emit.proofs.PointsLabels.{formed_at, place_results}
use Rattle.ucode_emit.proofs.PointsUsed.{EmittedPoint, spot_step}
use Rattle.ucode_emit.proofs.Copies.{put_here, one_append, place_head}
use Rattle.ucode_emit.proofs.DefinitionsHomes.{general_is, general_not_written, general_not_read, read_not_written, place_filter, none_both, early_register, housed_each, settled_above, Lasts, in_place, in_read, lasts_from}
use Rattle.ucode_emit.proofs.DefinitionsReady.{waits_on, waits_register, waits_apart, waits_through, early_use, early_waits, Brought, ready_behind}
use Rattle.ucode_emit.proofs.DefinitionsDirect.{CanTake, general_take, take_writable, take_slot, general_readable, eighth_named, register_take, OneInstr, CanGive, copies_are_direct}

-- ---- words of variables

pub assigned_same : (env : Env) (x w : ℕ) → assigned env x w x ≡ w
assigned_same env x w = ap (λ b. if b then w else env x) (eq-eqb x x refl)

pub assigned_other : (env : Env) (x w y : ℕ) → is_in y (x ∷ []) ≡ false → assigned env x w y ≡ env y
assigned_other env x w y e =
    let other : nat_eq y x ≡ false = false_from_ne_true (nat_eq y x) (λ h. false≢true (sym e ∙ or_left (nat_eq y x) false h)) in
    ap (λ b. if b then w else env y) other

-- ---- a word that is put and then brought to a slot

abbrev pub place_by : Bool → Option ℕ → Place → Place
place_by b s d = if b then S (named s) else d

abbrev pub moves_by : Bool → Option ℕ → Place → List Move
moves_by b s d = if b then (S (named s), d) ∷ [] else []

put_brings : (b : Bool) (s : Option ℕ) (d : Place) (e : Words) (w : ℕ) → one_by_one (moves_by b s d) (put e (place_by b s d) w) d ≡ w
put_brings true s d e w =
    let e' = put e (S (named s)) w in
    put_here e' d (e' (S (named s))) ∙ put_here e (S (named s)) w
put_brings false s d e w = put_here e d w

put_spares : (b : Bool) (s : Option ℕ) (d t : Place) (e : Words) (w : ℕ) → (t ≡ d → ⊥) → (b ≡ true → t ≡ S (named s) → ⊥) → one_by_one (moves_by b s d) (put e (place_by b s d) w) t ≡ e t
put_spares true s d t e w h g =
    let e' = put e (S (named s)) w in
    put-other e' d t (e' (S (named s))) h ∙ put-other e (S (named s)) t w (g refl)
put_spares false s d t e w h g = put-other e d t w h

-- ---- the home of a result

abbrev pub ResultHome : List Label → Plan → ℕ → Type 0
ResultHome labels p x = (IsGeneral p (home p x).defined × AreCopies labels p x (home p x)) ⊎ IsPutEarly labels p x (home p x)

-- a point whose one value is a result
pub record ResultSpot (labels : List Label) (p : Plan) (k : ℕ) (q r : Point) (x : ℕ) : Type 0 where
  pub point_id : EmittedPoint labels k q r (x ∷ [])
  pub values : values_at k q.place ≡ result k x
  pub held : is_in x r.before ≡ true

pub result_home : (labels : List Label) (p : Plan) (k : ℕ) (q r : Point) (x : ℕ) → Placed labels p → ResultSpot labels p k q r x → ResultHome labels p x
result_home labels p k q r x h s =
    (subst (AllByRecursion (IsHoused labels p)) s.values (each_here (λ k q. AllByRecursion (IsHoused labels p) (values_at k q.place)) (points labels) k q (housed_each labels p h) s.point_id.emit_context)).0

result_comes : (labels : List Label) (p : Plan) (k : ℕ) (q r : Point) (x : ℕ) → ResultSpot labels p k q r x → is_slot (home p x).defined ≡ true → list_any (comes_to_slot labels p) (values_at k q.place) ≡ true
result_comes labels p k q r x s e =
    let u = s.point_id.used_it x s.held in
    ap (list_any (comes_to_slot labels p)) s.values
    ∙ or_left (is_used labels x && (list_any is_slot (home p x).copied || is_slot (home p x).defined)) false
    (and_from (is_used labels x) (list_any is_slot (home p x).copied || is_slot (home p x).defined) u (or_right (list_any is_slot (home p x).copied) (is_slot (home p x).defined) e))

-- where it is put, no other word is wanted
defined_apart : (labels : List Label) (p : Plan) (k : ℕ) (q r : Point) (x y : ℕ) (t : Place) → Placed labels p → ResultSpot labels p k q r x → is_in y r.before ≡ true → (y ≡ x → ⊥) → Lasts labels p y t → ResultHome labels p x
    → t ≡ (home p x).defined → ⊥
defined_apart labels p k q r x y t h s b n (in_place g m) o e =
    ⊎_elim
    (λ (c : IsGeneral p (home p x).defined × AreCopies labels p x (home p x)).
    let there : has_place (home p x).defined (general_places p x) ≡ true =
    place_filter is_general (home p x).defined ((home p x).defined ∷ (home p x).copied) (place_head (home p x).defined (home p x).copied) (general_is p (home p x).defined c.0) in
    none_both t (general_places p y) (general_places p x) ((h.fits.points (suc k) r s.point_id.next).held.general y x b s.held n) m (ap (λ z. has_place z (general_places p x)) e ∙ there))
    (λ (c : IsPutEarly labels p x (home p x)).
    let w = early_use labels p x c in
    general_not_written t g (ap is_write_register (e ∙ c.at) ∙ early_register labels p w.place c.use_ h w.there w.early))
    o
defined_apart labels p k q r x y t h s b n (in_read g m) o e =
    ⊎_elim
    (λ (c : IsGeneral p (home p x).defined × AreCopies labels p x (home p x)). general_not_read (home p x).defined (general_is p (home p x).defined c.0) (sym (ap is_read_register e) ∙ g))
    (λ (c : IsPutEarly labels p x (home p x)).
    let w = early_use labels p x c in
    read_not_written t g (ap is_write_register (e ∙ c.at) ∙ early_register labels p w.place c.use_ h w.there w.early))
    o

word_apart : (labels : List Label) (p : Plan) (k : ℕ) (q r : Point) (x : ℕ) (u : Use) → Placed labels p → ResultSpot labels p k q r x → Waits labels p k q u → (u.value ≡ x → ⊥) → ResultHome labels p x → word_register p u ≡ (home p x).defined → ⊥
word_apart labels p k q r x u h s w n o e =
    ⊎_elim
    (λ (c : IsGeneral p (home p x).defined × AreCopies labels p x (home p x)). general_not_written (home p x).defined (general_is p (home p x).defined c.0) (sym (ap is_write_register e) ∙ waits_register labels p k q u h w))
    (λ (c : IsPutEarly labels p x (home p x)).
    let v = early_use labels p x c in
    waits_apart labels p k q u c.use_ h s.point_id.emit_context w (early_waits labels p k q r (x ∷ []) x c.use_ h s.point_id (in-itself x []) v) (λ f. n (f ∙ v.value)) (e ∙ c.at))
    o

lasts_no_s : (labels : List Label) (p : Plan) (y : ℕ) (t : Place) (n : ℕ) → Lasts labels p y t → t ≡ S n → ⊥
lasts_no_s labels p y t n (in_place g m) e = false≢true (sym (ap is_general e) ∙ g)
lasts_no_s labels p y t n (in_read g m) e = false≢true (sym (ap is_read_register e) ∙ g)

-- what waits at the next point and isn't defined here, waits at this one
pub waits_before : (labels : List Label) (p : Plan) (k : ℕ) (q r : Point) (xs : List ℕ) (u : Use) → EmittedPoint labels k q r xs → WaitsAt labels p (suc k) r u → is_in u.value xs ≡ false → WaitsAt labels p k q u
waits_before labels p k q r xs u s w n =
    let a : suc k ≤ u.point = leb-true (suc k) u.point w.emit_context in
    let b : u.point ≤ suc k + r.below = leb-true u.point (suc k + r.below) w.below in
    let c : q.below ≡ suc r.below = s.below_it in record {
      there = w.there;
      early = w.early;
      defined =
          ⊎_elim (λ (d : is_in u.value q.above ≡ true). d) (λ (d : is_in u.value xs ≡ true). absurd (false≢true (sym n ∙ d))) (in-either u.value q.above xs (sym (ap (is_in u.value) s.above_it) ∙ w.defined));
      emit_context = le-leb k u.point (omega arith);
      below = le-leb u.point (k + q.below) (omega arith);
    }

not_it : (x y : ℕ) → is_in y (x ∷ []) ≡ false → y ≡ x → ⊥
not_it x y e h = false≢true (sym e ∙ or_left (nat_eq y x) false (eq-eqb y x h))

-- the word is where the value is defined, and the others are where they were
put_there_all : (labels : List Label) (p : Plan) (k : ℕ) (q r : Point) (x w : ℕ) (env : Env) (e : Words) → Placed labels p → ResultSpot labels p k q r x → Ready labels p k q env e
    → Brought labels p k r (x ∷ []) (assigned env x w) (one_by_one (to_slot p k x) (put e (result_place p k x) w))
put_there_all labels p k q r x w env e h s d =
    let o = result_home labels p k q r x h s in
    let b = is_slot (home p x).defined in
    let c = pass p k in record {
      defined = λ y i u.
          subst (λ z. one_by_one (to_slot p k x) (put e (result_place p k x) w) (home p z).defined ≡ assigned env x w z) (sym (in_one y x i))
          (put_brings b c.s (home p x).defined e w ∙ sym (assigned_same env x w));
      held = λ y i n t m.
          let l = (lasts_from labels p y t (settled_above labels p (suc k) r y h s.point_id.next (s.point_id.known y i)) m).0 in
          put_spares b c.s (home p x).defined t e w (defined_apart labels p k q r x y t h s i (not_it x y n) l o) (λ z. lasts_no_s labels p y t (named c.s) l)
          ∙ (d.held y (s.point_id.before_it y i n) t m ∙ sym (assigned_other env x w y n));
      early = λ u v n.
          let on = waits_on labels p k q r (x ∷ []) u s.point_id v in
          put_spares b c.s (home p x).defined (word_register p u) e w (word_apart labels p k q r x u h s on (not_it x u.value n) o)
          (λ z. waits_through labels p k q u h s.point_id.emit_context on (result_comes labels p k q r x s z))
          ∙ (d.early u (waits_before labels p k q r (x ∷ []) u s.point_id v n) ∙ sym (assigned_other env x w u.value n));
    }

-- ---- instructions

result_take : (labels : List Label) (p : Plan) (x : ℕ) → Placed labels p → ResultHome labels p x → CanTake p.slots (home p x).defined
result_take labels p x h o =
    ⊎_elim
    (λ (c : IsGeneral p (home p x).defined × AreCopies labels p x (home p x)). general_take p (home p x).defined c.0)
    (λ (c : IsPutEarly labels p x (home p x)). let w = early_use labels p x c in subst (CanTake p.slots) (sym c.at) (register_take labels p w.place c.use_ h w.there w.early))
    o

writable_by : (slots : ℕ) (b : Bool) (s : Option ℕ) (d : Place) → is_slot d ≡ b → named s < 8 → CanTake slots d → IsWritable (place_by b s d)
writable_by slots true s d e n t = n
writable_by slots false s d e n t = take_writable slots d e t

direct_by : (slots : ℕ) (b : Bool) (s : Option ℕ) (d : Place) → is_slot d ≡ b → named s < 8 → CanTake slots d → AllByRecursion (OneInstr slots) (moves_by b s d)
direct_by slots true s d e n t = (take_slot slots s d e n t, tt)
direct_by slots false s d e n t = tt

give_general : (labels : List Label) (p : Plan) (x : ℕ) (b : Bool) → is_slot (home p x).defined ≡ b → IsGeneral p (home p x).defined → AreCopies labels p x (home p x) → CanGive p x
give_general labels p x true e g c = inl (c.from_slot e)
give_general labels p x false e g c = inr (general_readable p (home p x).defined e g)

pub general_gives : (labels : List Label) (p : Plan) (x : ℕ) → IsGeneral p (home p x).defined → AreCopies labels p x (home p x) → CanGive p x
general_gives labels p x g c = give_general labels p x (is_slot (home p x).defined) refl g c

result_gives : (labels : List Label) (p : Plan) (x : ℕ) → ResultHome labels p x → CanGive p x
result_gives labels p x o =
    ⊎_elim (λ (c : IsGeneral p (home p x).defined × AreCopies labels p x (home p x)). general_gives labels p x c.0 c.1) (λ (c : IsPutEarly labels p x (home p x)). inl c.copied) o

-- ---- the whole

abbrev pub ResultReady : List Label → Plan → ℕ → Point → ℕ → ℕ → Env → Words → Type 0
ResultReady labels p k r x w env e =
    IsWritable (result_place p k x) × HoldsAfterMoves p.slots (to_slot p k x ++ copies p k x) (put e (result_place p k x) w) (Ready labels p (suc k) r (assigned env x w))

pub result_ready : (labels : List Label) (p : Plan) (k : ℕ) (q r : Point) (x w : ℕ) (env : Env) (e : Words) → Placed labels p → ResultSpot labels p k q r x → Ready labels p k q env e → ResultReady labels p k r x w env e
result_ready labels p k q r x w env e h s d =
    let o = result_home labels p k q r x h s in
    let n = eighth_named (pass p k).s (h.fits.points k q s.point_id.emit_context).passes.written in
    let t = result_take labels p x h o in
    let b = is_slot (home p x).defined in
    let e' = one_by_one (to_slot p k x) (put e (result_place p k x) w) in
    let one : copies p k x ++ [] ≡ copies p k x = append-nil (copies p k x) in
    let ready = ready_behind labels p k q r (x ∷ []) (assigned env x w) e' h s.point_id (put_there_all labels p k q r x w env e h s d) in
    let direct = copies_are_direct labels p k q r (x ∷ []) h s.point_id (λ y i u. subst (CanGive p) (sym (in_one y x i)) (result_gives labels p x o)) in (
      writable_by p.slots b (pass p k).s (home p x).defined refl n t,
      (
        All-from_recursion (OneInstr p.slots) (to_slot p k x ++ copies p k x)
            (all_both (OneInstr p.slots) (to_slot p k x) (copies p k x) (direct_by p.slots b (pass p k).s (home p x).defined refl n t) (recursion_from_All (OneInstr p.slots) (copies p k x) (subst (AreDirect p.slots) one direct))),
        subst (Ready labels p (suc k) r (assigned env x w)) (ap (λ ms. one_by_one ms e') one ∙ sym (one_append (to_slot p k x) (copies p k x) (put e (result_place p k x) w))) ready,
      ),
    )

step_result : (labels : List Label) (p : Plan) (k : ℕ) (q r : Point) (x : ℕ) → Placed labels p → EmittedPoint labels k q r (x ∷ []) → values_at k q.place ≡ result k x → is_in x (place_results q.place) ≡ true → ResultSpot labels p k q r x
step_result labels p k q r x h s v i = record { point_id = s; values = v; held = sym (ap (is_in x) s.same) ∙ (formed_at labels k q h.single s.emit_context).results x i }

pub literal : (labels : List Label) (p : Plan) → Placed labels p → (k : ℕ) (of : Names) (above : List ℕ) (x v w : ℕ) (t : Tree) (env : Env) (e : Words) → PointsAt labels k of above (Do (Lit x v) t)
    → Ready labels p k (root_point of above (Do (Lit x v) t)) env e
    → IsWritable (result_place p k x) × HoldsAfterMoves p.slots (to_slot p k x ++ copies p k x) (put e (result_place p k x) w) (Ready labels p (suc k) (root_point of (above ++ x ∷ []) t) (assigned env x w))
literal labels p h k of above x v w t env e a d =
    let q = root_point of above (Do (Lit x v) t) in
    let r = root_point of (above ++ x ∷ []) t in
    result_ready labels p k q r x w env e h (step_result labels p k q r x h (spot_step labels k of above (Lit x v) t a) refl (in-itself x [])) d

pub unary : (labels : List Label) (p : Plan) → Placed labels p → (k : ℕ) (of : Names) (above : List ℕ) (x y w : ℕ) (op : Unary) (t : Tree) (env : Env) (e : Words) → PointsAt labels k of above (Do (Una x op y) t)
    → Ready labels p k (root_point of above (Do (Una x op y) t)) env e
    → IsWritable (result_place p k x) × HoldsAfterMoves p.slots (to_slot p k x ++ copies p k x) (put e (result_place p k x) w) (Ready labels p (suc k) (root_point of (above ++ x ∷ []) t) (assigned env x w))
unary labels p h k of above x y w op t env e a d =
    let q = root_point of above (Do (Una x op y) t) in
    let r = root_point of (above ++ x ∷ []) t in
    result_ready labels p k q r x w env e h (step_result labels p k q r x h (spot_step labels k of above (Una x op y) t a) refl (in-itself x [])) d

pub binary : (labels : List Label) (p : Plan) → Placed labels p → (k : ℕ) (of : Names) (above : List ℕ) (x y z w : ℕ) (op : Binary) (t : Tree) (env : Env) (e : Words) → PointsAt labels k of above (Do (Bin x op y z) t)
    → Ready labels p k (root_point of above (Do (Bin x op y z) t)) env e
    → IsWritable (result_place p k x) × HoldsAfterMoves p.slots (to_slot p k x ++ copies p k x) (put e (result_place p k x) w) (Ready labels p (suc k) (root_point of (above ++ x ∷ []) t) (assigned env x w))
binary labels p h k of above x y z w op t env e a d =
    let q = root_point of above (Do (Bin x op y z) t) in
    let r = root_point of (above ++ x ∷ []) t in
    result_ready labels p k q r x w env e h (step_result labels p k q r x h (spot_step labels k of above (Bin x op y z) t a) refl (in-itself x [])) d

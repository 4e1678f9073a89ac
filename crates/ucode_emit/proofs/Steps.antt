-- Steps that move no word: what stood ready stands ready for the next point.
use Rattle.std.proofs.Common.{◌≡◌, ℕ, suc, ◌+◌, ◌≤◌, true, List, [], ◌∷◌, ◌++◌, refl, sym, ap, ◌∙◌, arith}
use Rattle.std.proofs.lemmas.Bool.{leb-true, le-leb}
use Rattle.nv_base.specs.declared.term.Mem.{Mem}
use Rattle.nv_base.specs.declared.term.Cmp.{Cmp}
use Rattle.nv_base.specs.Sets.{is_in, Within}
use Rattle.nv_base.specs.Words.{Env}
use Rattle.nv_base.proofs.Sets.{within-left, within-right}
use Rattle.ssu_ir.specs.Tree.{Clone, Write, Tree, Do, If, Label}
use Rattle.ssu_ir.specs.Points.{Names, names_after, used, Point, nodes}
use Rattle.ssu_ir.proofs.Liveness.{filter_from, filter_in}
use Rattle.place_plan.specs.Plan.{Plan}
use Rattle.ucode_emit.specs.Moves.{Words}
use Rattle.ucode_emit.specs.inner.Ready.{Ready}
use Rattle.ucode_emit.specs.inner.Layers.{Placed, PointsAt, root_point}
use Rattle.ucode_emit.proofs.PointsUsed.{EmittedPoint, spot_step, root_above, root_before, root_below}
use Rattle.ucode_emit.proofs.DefinitionsResult.{waits_before}

-- ---- a step that defines nothing

pass_on : (labels : List Label) (p : Plan) (k : ℕ) (q r : Point) (env : Env) (e : Words) → EmittedPoint labels k q r [] → Ready labels p k q env e → Ready labels p (suc k) r env e
pass_on labels p k q r env e s d = record {
  held = λ x i t m. d.held x (s.before_it x i refl) t m;
  early = λ u w. d.early u (waits_before labels p k q r [] u s w refl);
}

pub write : (labels : List Label) (p : Plan) → Placed labels p → (k : ℕ) (of : Names) (above : List ℕ) (m : Mem) (xs : List ℕ) (y : ℕ) (t : Tree) (env : Env) (e : Words) → PointsAt labels k of above (Do (Write m y xs) t)
    → Ready labels p k (root_point of above (Do (Write m y xs) t)) env e → Ready labels p (suc k) (root_point of (above ++ []) t) env e
write labels p h k of above m xs y t env e a d =
    pass_on labels p k (root_point of above (Do (Write m y xs) t)) (root_point of (above ++ []) t) env e (spot_step labels k of above (Write m y xs) t a) d

pub clone : (labels : List Label) (p : Plan) → Placed labels p → (k : ℕ) (of : Names) (above : List ℕ) (xs : List ℕ) (y : ℕ) (t : Tree) (env : Env) (e : Words) → PointsAt labels k of above (Do (Clone xs y) t)
    → Ready labels p k (root_point of above (Do (Clone xs y) t)) env e → Ready labels p (suc k) (root_point (names_after of (Clone xs y)) (above ++ []) t) env e
clone labels p h k of above xs y t env e a d =
    pass_on labels p k (root_point of above (Do (Clone xs y) t)) (root_point (names_after of (Clone xs y)) (above ++ []) t) env e (spot_step labels k of above (Clone xs y) t a) d

-- ---- the arms of a comparison

-- a tree at a later point, all of whose uses are uses of this tree too, and all of whose points lie below this one
record Arm (of : Names) (above : List ℕ) (whole t : Tree) (k j : ℕ) : Type 0 where
  uses : Within (used of t) (used of whole)
  later : k ≤ j
  under : j + nodes t ≤ k + nodes whole

arm_held : (of : Names) (above : List ℕ) (whole t : Tree) (k j x : ℕ) → Arm of above whole t k j → is_in x (root_point of above t).before ≡ true → is_in x (root_point of above whole).before ≡ true
arm_held of above whole t k j x a i =
    let d = filter_from (λ z. is_in z (used of t)) above x (sym (ap (is_in x) (root_before of above t)) ∙ i) in
    ap (is_in x) (root_before of above whole) ∙ filter_in (λ z. is_in z (used of whole)) above x d.0 (a.uses x d.1)

arm_ready : (labels : List Label) (p : Plan) (of : Names) (above : List ℕ) (whole t : Tree) (k j : ℕ) (env : Env) (e : Words) → Arm of above whole t k j → Ready labels p k (root_point of above whole) env e
    → Ready labels p j (root_point of above t) env e
arm_ready labels p of above whole t k j env e a d = record {
  held = λ x i r m. d.held x (arm_held of above whole t k j x a i) r m;
  early = λ u w.
      let q = root_point of above whole in
      let r = root_point of above t in
      let n : j ≤ u.point = leb-true j u.point w.emit_context in
      let m : u.point ≤ j + r.below = leb-true u.point (j + r.below) w.below in
      let l : k ≤ j = a.later in
      let z : j + nodes t ≤ k + nodes whole = a.under in
      let b : nodes t ≡ suc r.below = root_below of above t in
      let c : nodes whole ≡ suc q.below = root_below of above whole in
      d.early u
      (record {
        there = w.there;
        early = w.early;
        defined = ap (is_in u.value) (root_above of above whole) ∙ (sym (ap (is_in u.value) (root_above of above t)) ∙ w.defined);
        emit_context = le-leb k u.point (omega arith);
        below = le-leb u.point (k + q.below) (omega arith);
      });
}

pub first_arm : (labels : List Label) (p : Plan) → Placed labels p → (k : ℕ) (of : Names) (above : List ℕ) (c : Cmp) (y z : ℕ) (t u : Tree) (env : Env) (e : Words) → PointsAt labels k of above (If c y z t u)
    → Ready labels p k (root_point of above (If c y z t u)) env e → Ready labels p (suc k) (root_point of above t) env e
first_arm labels p h k of above c y z t u env e a d =
    arm_ready labels p of above (If c y z t u) t k (suc k) env e
    (record {
      uses = λ x i. within-right (of y ∷ of z ∷ []) (used of t ++ used of u) x (within-left (used of t) (used of u) x i);
      later = omega arith;
      under = omega arith;
    })
    d

pub second_arm : (labels : List Label) (p : Plan) → Placed labels p → (k : ℕ) (of : Names) (above : List ℕ) (c : Cmp) (y z : ℕ) (t u : Tree) (env : Env) (e : Words) → PointsAt labels k of above (If c y z t u)
    → Ready labels p k (root_point of above (If c y z t u)) env e → Ready labels p (suc k + nodes t) (root_point of above u) env e
second_arm labels p h k of above c y z t u env e a d =
    arm_ready labels p of above (If c y z t u) u k (suc k + nodes t) env e
    (record {
      uses = λ x i. within-right (of y ∷ of z ∷ []) (used of t ++ used of u) x (within-right (used of t) (used of u) x i);
      later = omega arith;
      under = omega arith;
    })
    d

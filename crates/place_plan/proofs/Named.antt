-- What each point uses, by the names of its node.
use Rattle.std.proofs.Common.{◌≡◌, ℕ, suc, true, ◌&&◌, Option, List, [], ◌∷◌, ◌++◌, map, refl, sym}
use Rattle.std.specs.List.{list_all}
use Rattle.std.proofs.lemmas.Bool.{and_parts}
use Rattle.nv_base.specs.Sets.{all_different}
use Rattle.ssu_ir.specs.declared.ssu.Ssu.{Ssu}
use Rattle.ssu_ir.specs.Tree.{Tree, Do, If, End, Label, step_values, step_clones, step_uses, last_uses}
use Rattle.ssu_ir.specs.Points.{Names, own, names_after, Point, tree_points, points_from, points}
use Rattle.ssu_ir.specs.Single.{defined, all_defined, step_names, all_known, is_scoped, fresh_after, is_single, single}
use Rattle.ssu_ir.specs.Slots.{bare_all}
use Rattle.ssu_ir.specs.View.{placed_of, labels_view}
use Rattle.ssu_ir.proofs.Liveness.{uses-named}
use Rattle.ssu_liveness.specs.inner.Live.{value_by, source_among}
use Rattle.place_plan.specs.inner.Parts.{place_names}
use Rattle.ssu_liveness.proofs.Scoped.{Scope, scope-do, scope-first, scope-second, all-in, split-different}
use Rattle.ssu_liveness.proofs.Kept.{same-values, Sourced, sourced-tail, scope-of-label, whole-parts}
use Rattle.place_plan.proofs.Sound.{Each, each-append}

-- its uses are the values of its names
abbrev pub IsNamed : Names → Point → Type 0
IsNamed value q = q.uses ≡ map value (place_names q.place)

tree-named : (of value : Names) (above known fresh : List ℕ) (t : Tree) → Scope of value above known fresh t → Each (IsNamed value) (tree_points of above t)
tree-named of value above known fresh (Do s t) c =
    let sc = and_parts (all_known known (step_names s)) (is_scoped (known ++ (step_values s ++ step_clones s)) t) c.scoped in (
      sym (same-values of value known (step_uses s) c.same (λ y f. all-in known (step_names s) y sc.0 (uses-named s y f))),
      tree-named (names_after of s) value (above ++ step_values s) (known ++ (step_values s ++ step_clones s)) (fresh_after fresh s) t (scope-do of value above known fresh s t c),
    )
tree-named of value above known fresh (If q v w t u) c =
    let sc = and_parts (all_known known (v ∷ w ∷ [])) (is_scoped known t && is_scoped known u) c.scoped in (
      sym (same-values of value known (v ∷ w ∷ []) c.same (λ y f. all-in known (v ∷ w ∷ []) y sc.0 f)),
      each-append (IsNamed value) (tree_points of above t) (tree_points of above u)
          (tree-named of value above known [] t (scope-first of value above known fresh q v w t u c))
          (tree-named of value above known [] u (scope-second of value above known fresh q v w t u c)),
    )
tree-named of value above known fresh (End l) c = (sym (same-values of value known (last_uses l) c.same (λ y f. all-in known (last_uses l) y c.scoped f)), tt)

labels-named : (labels : List Label) (value : Names) (k : ℕ) (ls : List Label) → list_all (is_single labels) ls ≡ true → all_different (all_defined ls) ≡ true → Sourced value ls → Each (IsNamed value) (points_from k ls)
labels-named labels value k [] a d h = tt
labels-named labels value k (l ∷ ls) a d h =
    let p = and_parts (is_single labels l) (list_all (is_single labels) ls) a in
    let e = split-different l.params (defined l.body ++ all_defined ls) d in
    let f = split-different (defined l.body) (all_defined ls) e.1 in (
      refl,
      each-append (IsNamed value) (tree_points own l.params l.body) (points_from (suc k) ls)
          (tree-named own value l.params l.params l.params l.body (scope-of-label labels value l ls p.0 d h))
          (labels-named labels value (suc k) ls p.1 f.1 (sourced-tail value l ls d h)),
    )

pub points-named : (s : Ssu) (source : ℕ → Option ℕ) → single (labels_view s) ≡ true → ((z : ℕ) → source z ≡ source_among (bare_all (placed_of s)) z) → Each (IsNamed (value_by source)) (points (labels_view s))
points-named s source h e =
    let w = whole-parts s source h e in
    labels-named (labels_view s) (value_by source) 0 (labels_view s) w.singles w.different w.sourced

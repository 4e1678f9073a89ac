-- The rows of a whole in single-use form are those of its points.
use Rattle.std.proofs.Common.{◌≡◌, ℕ, suc, ◌+◌, ◌<◌, ◌≤◌, max, true, false, not, ◌&&◌, ⊎_elim, Option, None, Result, Ok, Err, IfOk, List, [], ◌∷◌, ◌++◌, length, map, get_or, drop, unwrap_or, refl, sym, ap, subst, ◌∙◌, append_assoc, arith}
use Rattle.std.specs.Prelude.{slice_get}
use Rattle.std.specs.List.{list_all, AllZip}
use Rattle.std.proofs.lemmas.Bool.{or_parts, and_parts, and_from, not-true, not_from_false, false≢true, false_from_ne_true}
use Rattle.std.proofs.lemmas.List.{drop_more, drop_all, append-nil, map-append}
use Rattle.nv_base.specs.Sets.{is_in, all_different, without}
use Rattle.nv_base.proofs.Sets.{in-append, in-without}
use Rattle.ssu_ir.specs.declared.ssu.Ssu.{Ssu}
use Rattle.ssu_ir.specs.declared.node.SsuLabel.{SsuLabel}
use Rattle.ssu_ir.specs.Tree.{Tree, Do, If, End, Label, step_values, step_clones, step_uses, last_uses}
use Rattle.ssu_ir.specs.Points.{Names, own, names_after, used, live_of, Point, tree_points, points_from, points}
use Rattle.ssu_ir.specs.Single.{defined, all_defined, step_names, all_known, are_nodes, uses_once, is_scoped, clones_early, results_used, are_addressed, unknown, is_single, is_entry, single, fresh_after}
use Rattle.ssu_ir.specs.Slots.{Placed, bare, bare_all, roots_of, bodies}
use Rattle.ssu_ir.specs.View.{placed_of, with_bodies, labels_view}
use Rattle.ssu_ir.specs.Measures as measures
use Rattle.ssu_ir.specs.Measures.{most_held}
use Rattle.ssu_ir.proofs.Reading.{read_in}
use Rattle.ssu_ir.proofs.Lists.{same_tests}
use Rattle.ssu_ir.proofs.Liveness.{uses-named, in-left, in-right}
use Rattle.ssu_liveness.specs.LiveRows.{IsRow, Kept, items_of}
use Rattle.ssu_liveness.specs.inner.Live.{first_of, source_in, source_among, value_by, root_row, tree_rows, labels_rows, add_all, longest, label_tree, on_stack}
use Rattle.ssu_liveness.proofs.Scoped.{Scope, scope-do, scope-first, scope-second, all-in, in-map, map-same, in-added, comes-added, stays-added, different-row, in-filter, different-filter, same-length, in-either, split-different, no-source, first_of-none}
use Rattle.ssu_liveness.proofs.Labels.{tree-at}

-- ---- what is in the row of a root

pub record HeldThere (of : Names) (above : List ℕ) (t : Tree) (x : ℕ) : Type 0 where
  pub above_ : is_in x above ≡ true
  pub used_ : is_in x (used of t) ≡ true

-- names that are known have the values that the whole gives
pub same-values : (of value : Names) (known xs : List ℕ) → ((y : ℕ) → is_in y known ≡ true → of y ≡ value y) → ((y : ℕ) → is_in y xs ≡ true → is_in y known ≡ true) → map value xs ≡ map of xs
same-values of value known xs h k = map-same value of xs (λ y e. sym (h y (k y e)))

-- the value of a name that is known stands above
pub named-above : (of : Names) (above known xs : List ℕ) (x : ℕ) → ((y : ℕ) → is_in y known ≡ true → is_in (of y) above ≡ true) → ((y : ℕ) → is_in y xs ≡ true → is_in y known ≡ true) → is_in x (map of xs) ≡ true → is_in x above ≡ true
named-above of above known xs x h k e = let w = in-map of xs x e in ap (λ z. is_in z above) w.2 ∙ h w.0 (k w.0 w.1)

pub row-from : (of value : Names) (above known fresh : List ℕ) (t : Tree) (x : ℕ) → Scope of value above known fresh t → is_in x (root_row value t) ≡ true → HeldThere of above t x
row-from of value above known fresh (Do s t) x c e =
    let sc = and_parts (all_known known (step_names s)) (is_scoped (known ++ (step_values s ++ step_clones s)) t) c.scoped in
    let k : (y : ℕ) → is_in y (step_uses s) ≡ true → is_in y known ≡ true = λ y f. all-in known (step_names s) y sc.0 (uses-named s y f) in
    let same = same-values of value known (step_uses s) c.same k in
    let rest : is_in x (without (root_row value t) (step_values s)) ≡ true → HeldThere of above (Do s t) x = λ b.
    let p = and_parts (is_in x (root_row value t)) (not (is_in x (step_values s))) (sym (in-without x (root_row value t) (step_values s)) ∙ b) in
    let w = row-from (names_after of s) value (above ++ step_values s) (known ++ (step_values s ++ step_clones s)) (fresh_after fresh s) t x (scope-do of value above known fresh s t c) p.0 in
    record {
      above_ = ⊎_elim (λ (a : is_in x above ≡ true). a) (λ (v : is_in x (step_values s) ≡ true). absurd (false≢true (sym (not-true (is_in x (step_values s)) p.1) ∙ v))) (in-either x above (step_values s) w.above_);
      used_ = in-right x (map of (step_uses s)) (used (names_after of s) t) w.used_;
    } in
    ⊎_elim
    (λ (a : is_in x (map value (step_uses s)) ≡ true).
    let there : is_in x (map of (step_uses s)) ≡ true = ap (λ l. is_in x l) (sym same) ∙ a in
    record { above_ = named-above of above known (step_uses s) x c.placed k there; used_ = in-left x (map of (step_uses s)) (used (names_after of s) t) there })
    (λ (b : is_in x (without (root_row value t) (step_values s)) ≡ true). rest b)
    (in-added x (map value (step_uses s)) (without (root_row value t) (step_values s)) e)
row-from of value above known fresh (If d v w t u) x c e =
    let sc = and_parts (all_known known (v ∷ w ∷ [])) (is_scoped known t && is_scoped known u) c.scoped in
    let k : (y : ℕ) → is_in y (v ∷ w ∷ []) ≡ true → is_in y known ≡ true = λ y f. all-in known (v ∷ w ∷ []) y sc.0 f in
    let same = same-values of value known (v ∷ w ∷ []) c.same k in
    let first = row-from of value above known [] t x (scope-first of value above known fresh d v w t u c) in
    let second = row-from of value above known [] u x (scope-second of value above known fresh d v w t u c) in
    ⊎_elim
    (λ (a : is_in x (map value (v ∷ w ∷ [])) ≡ true).
    let there : is_in x (map of (v ∷ w ∷ [])) ≡ true = ap (λ l. is_in x l) (sym same) ∙ a in
    record { above_ = named-above of above known (v ∷ w ∷ []) x c.placed k there; used_ = in-left x (map of (v ∷ w ∷ [])) (used of t ++ used of u) there })
    (λ (b : is_in x (add_all (root_row value u) (root_row value t)) ≡ true).
    ⊎_elim
    (λ (q : is_in x (root_row value u) ≡ true). let h = second q in record { above_ = h.above_; used_ = in-right x (map of (v ∷ w ∷ [])) (used of t ++ used of u) (in-right x (used of t) (used of u) h.used_) })
    (λ (q : is_in x (root_row value t) ≡ true). let h = first q in record { above_ = h.above_; used_ = in-right x (map of (v ∷ w ∷ [])) (used of t ++ used of u) (in-left x (used of t) (used of u) h.used_) })
    (in-added x (root_row value u) (root_row value t) b))
    (in-added x (map value (v ∷ w ∷ [])) (add_all (root_row value u) (root_row value t)) e)
row-from of value above known fresh (End l) x c e =
    let k : (y : ℕ) → is_in y (last_uses l) ≡ true → is_in y known ≡ true = λ y f. all-in known (last_uses l) y c.scoped f in
    let same = same-values of value known (last_uses l) c.same k in
    ⊎_elim
    (λ (a : is_in x (map value (last_uses l)) ≡ true).
    let there : is_in x (map of (last_uses l)) ≡ true = ap (λ m. is_in x m) (sym same) ∙ a in
    record { above_ = named-above of above known (last_uses l) x c.placed k there; used_ = there })
    (λ (b : is_in x [] ≡ true). absurd (false≢true b))
    (in-added x (map value (last_uses l)) [] e)

pub row-to : (of value : Names) (above known fresh : List ℕ) (t : Tree) (x : ℕ) → Scope of value above known fresh t → is_in x above ≡ true → is_in x (used of t) ≡ true → is_in x (root_row value t) ≡ true
row-to of value above known fresh (Do s t) x c h e =
    let sc = and_parts (all_known known (step_names s)) (is_scoped (known ++ (step_values s ++ step_clones s)) t) c.scoped in
    let k : (y : ℕ) → is_in y (step_uses s) ≡ true → is_in y known ≡ true = λ y f. all-in known (step_names s) y sc.0 (uses-named s y f) in
    let same = same-values of value known (step_uses s) c.same k in
    let out : is_in x (step_values s) ≡ false = false_from_ne_true (is_in x (step_values s)) (λ f. c.apart x (c.values x h) (in-left x (step_values s) (step_clones s ++ defined t) f)) in
    let deeper = row-to (names_after of s) value (above ++ step_values s) (known ++ (step_values s ++ step_clones s)) (fresh_after fresh s) t x (scope-do of value above known fresh s t c) (in-left x above (step_values s) h) in
    ⊎_elim
    (λ (a : is_in x (map of (step_uses s)) ≡ true). comes-added x (map value (step_uses s)) (without (root_row value t) (step_values s)) (ap (λ l. is_in x l) same ∙ a))
    (λ (b : is_in x (used (names_after of s) t) ≡ true).
    stays-added x (map value (step_uses s)) (without (root_row value t) (step_values s))
    (in-without x (root_row value t) (step_values s) ∙ and_from (is_in x (root_row value t)) (not (is_in x (step_values s))) (deeper b) (not_from_false (is_in x (step_values s)) out)))
    (in-either x (map of (step_uses s)) (used (names_after of s) t) e)
row-to of value above known fresh (If d v w t u) x c h e =
    let sc = and_parts (all_known known (v ∷ w ∷ [])) (is_scoped known t && is_scoped known u) c.scoped in
    let k : (y : ℕ) → is_in y (v ∷ w ∷ []) ≡ true → is_in y known ≡ true = λ y f. all-in known (v ∷ w ∷ []) y sc.0 f in
    let same = same-values of value known (v ∷ w ∷ []) c.same k in
    let first = row-to of value above known [] t x (scope-first of value above known fresh d v w t u c) h in
    let second = row-to of value above known [] u x (scope-second of value above known fresh d v w t u c) h in
    let arms = add_all (root_row value u) (root_row value t) in
    ⊎_elim
    (λ (a : is_in x (map of (v ∷ w ∷ [])) ≡ true). comes-added x (map value (v ∷ w ∷ [])) arms (ap (λ l. is_in x l) same ∙ a))
    (λ (b : is_in x (used of t ++ used of u) ≡ true). stays-added x (map value (v ∷ w ∷ [])) arms
    (⊎_elim
    (λ (q : is_in x (used of t) ≡ true). stays-added x (root_row value u) (root_row value t) (first q))
    (λ (q : is_in x (used of u) ≡ true). comes-added x (root_row value u) (root_row value t) (second q))
    (in-either x (used of t) (used of u) b)))
    (in-either x (map of (v ∷ w ∷ [])) (used of t ++ used of u) e)
row-to of value above known fresh (End l) x c h e =
    let k : (y : ℕ) → is_in y (last_uses l) ≡ true → is_in y known ≡ true = λ y f. all-in known (last_uses l) y c.scoped f in
    let same = same-values of value known (last_uses l) c.same k in
    comes-added x (map value (last_uses l)) [] (ap (λ m. is_in x m) same ∙ e)

-- the row of a root is that of its point
root-is-row : (of value : Names) (above known fresh : List ℕ) (t : Tree) (p : Point) → p.before ≡ live_of of above t → Scope of value above known fresh t → IsRow (root_row value t) p
root-is-row of value above known fresh t p e c =
    let there : (x : ℕ) → is_in x p.before ≡ (is_in x above && is_in x (used of t)) = λ x. ap (λ l. is_in x l) e ∙ in-filter (λ y. is_in y (used of t)) x above in
    let members : (x : ℕ) → is_in x (root_row value t) ≡ is_in x p.before = λ x.
    same_tests (is_in x (root_row value t)) (is_in x p.before)
    (λ h. let w = row-from of value above known fresh t x c h in there x ∙ and_from (is_in x above) (is_in x (used of t)) w.above_ w.used_)
    (λ h. let w = and_parts (is_in x above) (is_in x (used of t)) (sym (there x) ∙ h) in row-to of value above known fresh t x c w.0 w.1) in
    record {
      once = different-row value t;
      members = members;
      count = same-length (root_row value t) p.before (different-row value t) (ap (λ l. all_different l) e ∙ different-filter (λ y. is_in y (used of t)) above c.distinct) members;
    }

zip-append : (a b : List (List ℕ)) (p q : List Point) → AllZip IsRow a p → AllZip IsRow b q → AllZip IsRow (a ++ b) (p ++ q)
zip-append [] b [] q h g = g
zip-append [] b (x ∷ p) q h g = absurd h
zip-append (r ∷ a) b [] q h g = absurd h
zip-append (r ∷ a) b (x ∷ p) q h g = (h.0, zip-append a b p q h.1 g)

pub rows-of-tree : (of value : Names) (above known fresh : List ℕ) (t : Tree) → Scope of value above known fresh t → AllZip IsRow (tree_rows value t) (tree_points of above t)
rows-of-tree of value above known fresh (Do s t) c =
    (root-is-row of value above known fresh (Do s t) _ refl c, rows-of-tree (names_after of s) value (above ++ step_values s) (known ++ (step_values s ++ step_clones s)) (fresh_after fresh s) t (scope-do of value above known fresh s t c))
rows-of-tree of value above known fresh (If d v w t u) c = (
  root-is-row of value above known fresh (If d v w t u) _ refl c,
  zip-append (tree_rows value t) (tree_rows value u) (tree_points of above t) (tree_points of above u)
      (rows-of-tree of value above known [] t (scope-first of value above known fresh d v w t u c))
      (rows-of-tree of value above known [] u (scope-second of value above known fresh d v w t u c)),
)
rows-of-tree of value above known fresh (End l) c = (root-is-row of value above known fresh (End l) _ refl c, tt)

-- ---- labels

abbrev pub trees : List Label → List Tree
trees [] = []
trees (l ∷ ls) = l.body ∷ trees ls

none-among : (ls : List Label) (z : ℕ) → is_in z (all_defined ls) ≡ false → source_among (trees ls) z ≡ None
none-among [] z e = refl
none-among (l ∷ ls) z e =
    let p = or_parts (is_in z l.params) (is_in z (defined l.body ++ all_defined ls)) (sym (in-append z l.params (defined l.body ++ all_defined ls)) ∙ e) in
    let q = or_parts (is_in z (defined l.body)) (is_in z (all_defined ls)) (sym (in-append z (defined l.body) (all_defined ls)) ∙ p.1) in
    ap (λ o. first_of o (source_among (trees ls) z)) (no-source l.body z q.0) ∙ none-among ls z q.1

-- the whole gives a name of these labels the value that they give it
abbrev pub Sourced : Names → List Label → Type 0
Sourced value ls = (z : ℕ) → is_in z (all_defined ls) ≡ true → value z ≡ value_by (source_among (trees ls)) z

sourced-head : (value : Names) (l : Label) (ls : List Label) → all_different (all_defined (l ∷ ls)) ≡ true → Sourced value (l ∷ ls) → (z : ℕ) → is_in z (defined l.body) ≡ true → value z ≡ value_by (source_in l.body) z
sourced-head value l ls d h z e =
    let a = split-different l.params (defined l.body ++ all_defined ls) d in
    let b = split-different (defined l.body) (all_defined ls) a.1 in
    h z (in-right z l.params (defined l.body ++ all_defined ls) (in-left z (defined l.body) (all_defined ls) e))
    ∙ ap (λ o. unwrap_or (first_of (source_in l.body z) o) z) (none-among ls z (false_from_ne_true (is_in z (all_defined ls)) (λ f. b.2 z e f)))
    ∙ ap (λ o. unwrap_or o z) (first_of-none (source_in l.body z))

sourced-param : (value : Names) (l : Label) (ls : List Label) → all_different (all_defined (l ∷ ls)) ≡ true → Sourced value (l ∷ ls) → (z : ℕ) → is_in z l.params ≡ true → value z ≡ z
sourced-param value l ls d h z e =
    let a = split-different l.params (defined l.body ++ all_defined ls) d in
    h z (in-left z l.params (defined l.body ++ all_defined ls) e)
    ∙ ap (λ o. unwrap_or (first_of o (source_among (trees ls) z)) z) (no-source l.body z (false_from_ne_true (is_in z (defined l.body)) (λ f. a.2 z e (in-left z (defined l.body) (all_defined ls) f))))
    ∙ ap (λ o. unwrap_or o z) (none-among ls z (false_from_ne_true (is_in z (all_defined ls)) (λ f. a.2 z e (in-right z (defined l.body) (all_defined ls) f))))

pub sourced-tail : (value : Names) (l : Label) (ls : List Label) → all_different (all_defined (l ∷ ls)) ≡ true → Sourced value (l ∷ ls) → Sourced value ls
sourced-tail value l ls d h z e =
    let a = split-different l.params (defined l.body ++ all_defined ls) d in
    let b = split-different (defined l.body) (all_defined ls) a.1 in
    h z (in-right z l.params (defined l.body ++ all_defined ls) (in-right z (defined l.body) (all_defined ls) e))
    ∙ ap (λ o. unwrap_or (first_of o (source_among (trees ls) z)) z) (no-source l.body z (false_from_ne_true (is_in z (defined l.body)) (λ f. b.2 z f e)))

-- what the rows rest on at the start of a label
pub scope-of-label : (labels : List Label) (value : Names) (l : Label) (ls : List Label) → is_single labels l ≡ true → all_different (all_defined (l ∷ ls)) ≡ true → Sourced value (l ∷ ls) → Scope own value l.params l.params l.params l.body
scope-of-label labels value l ls k d h =
    let a = split-different l.params (defined l.body ++ all_defined ls) d in
    let b = split-different (defined l.body) (all_defined ls) a.1 in
    let r1 = and_parts (are_nodes labels l.body) (uses_once l.body && (is_scoped l.params l.body && (clones_early l.params l.body && (results_used l.body && are_addressed unknown l.body)))) k in
    let r2 = and_parts (uses_once l.body) (is_scoped l.params l.body && (clones_early l.params l.body && (results_used l.body && are_addressed unknown l.body))) r1.1 in
    let r3 = and_parts (is_scoped l.params l.body) (clones_early l.params l.body && (results_used l.body && are_addressed unknown l.body)) r2.1 in
    let r4 = and_parts (clones_early l.params l.body) (results_used l.body && are_addressed unknown l.body) r3.1 in
    record {
      scoped = r3.0;
      early = r4.0;
      once = b.0;
      distinct = a.0;
      apart = λ y e f. a.2 y e (in-left y (defined l.body) (all_defined ls) f);
      values = λ y e. e;
      placed = λ y e. e;
      same = λ y e. sym (sourced-param value l ls d h y e);
      plain = λ y e. sourced-param value l ls d h y e;
      fresh_known = λ y e. e;
      later = λ y e. refl;
      sourced = λ y e. sourced-head value l ls d h y e;
    }

rows-of-labels : (labels : List Label) (value : Names) (k : ℕ) (ls : List Label) → list_all (is_single labels) ls ≡ true → all_different (all_defined ls) ≡ true → Sourced value ls → AllZip IsRow (labels_rows value ls) (points_from k ls)
rows-of-labels labels value k [] a d h = tt
rows-of-labels labels value k (l ∷ ls) a d h =
    let p = and_parts (is_single labels l) (list_all (is_single labels) ls) a in
    let e = split-different l.params (defined l.body ++ all_defined ls) d in
    let f = split-different (defined l.body) (all_defined ls) e.1 in (
      record { once = e.0; members = λ x. refl; count = refl },
      zip-append (tree_rows value l.body) (labels_rows value ls) (tree_points own l.params l.body) (points_from (suc k) ls)
          (rows-of-tree own value l.params l.params l.params l.body (scope-of-label labels value l ls p.0 d h))
          (rows-of-labels labels value (suc k) ls p.1 f.1 (sourced-tail value l ls d h)),
    )

-- ---- the whole

trees-with : (ls : List SsuLabel) (ps : List Placed) → roots_of ps ≡ bodies ls → trees (with_bodies ls (bare_all ps)) ≡ bare_all ps
trees-with [] [] e = refl
trees-with [] (p ∷ ps) e = absurd (cc)
trees-with (l ∷ ls) [] e = absurd (cc)
trees-with (l ∷ ls) (p ∷ ps) e = let rest : roots_of ps ≡ bodies ls = cc in ap (λ t. bare p ∷ t) (trees-with ls ps rest)

length-with : (ls : List SsuLabel) (ts : List Tree) → length (with_bodies ls ts) ≡ length ls
length-with [] ts = refl
length-with (l ∷ ls) [] = omega (arith, length-with ls [])
length-with (l ∷ ls) (t ∷ ts) = omega (arith, length-with ls ts)

pub length-view : (s : Ssu) → length (labels_view s) ≡ length s.labels.items
length-view s = length-with s.labels.items (bare_all (placed_of s))

pub rows-of-whole : (s : Ssu) (source : ℕ → Option ℕ) (rows : List (List ℕ)) → single (labels_view s) ≡ true → ((z : ℕ) → source z ≡ source_among (bare_all (placed_of s)) z) → rows ≡ labels_rows (value_by source) (labels_view s) → AllZip IsRow rows (points (labels_view s))
rows-of-whole s source rows h e f =
    let view = labels_view s in
    let a = and_parts (is_entry (slice_get view 0)) (all_different (all_defined view) && list_all (is_single view) view) h in
    let b = and_parts (all_different (all_defined view)) (list_all (is_single view) view) a.1 in
    let same = trees-with s.labels.items (placed_of s) (read_in s.nodes.slots (bodies s.labels.items) s.formed).at_numbers in
    subst (λ r. AllZip IsRow r (points view)) (sym f)
    (rows-of-labels view (value_by source) 0 view b.1 b.0 (λ z w. ap (λ o. unwrap_or o z) (e z ∙ ap (λ t. source_among t z) (sym same))))

-- what single says of the whole, with the values that its clones give
pub record WholeParts (s : Ssu) (source : ℕ → Option ℕ) : Type 0 where
  pub singles : list_all (is_single (labels_view s)) (labels_view s) ≡ true
  pub different : all_different (all_defined (labels_view s)) ≡ true
  pub sourced : Sourced (value_by source) (labels_view s)

pub whole-parts : (s : Ssu) (source : ℕ → Option ℕ) → single (labels_view s) ≡ true → ((z : ℕ) → source z ≡ source_among (bare_all (placed_of s)) z) → WholeParts s source
whole-parts s source h e =
    let view = labels_view s in
    let a = and_parts (is_entry (slice_get view 0)) (all_different (all_defined view) && list_all (is_single view) view) h in
    let b = and_parts (all_different (all_defined view)) (list_all (is_single view) view) a.1 in
    let same = trees-with s.labels.items (placed_of s) (read_in s.nodes.slots (bodies s.labels.items) s.formed).at_numbers in
    record { singles = b.1; different = b.0; sourced = λ z w. ap (λ o. unwrap_or o z) (e z ∙ ap (λ t. source_among t z) (sym same)) }

-- one label more
pub label-more : (s : Ssu) (of : Names) (k : ℕ) (d : SsuLabel) (out mine goal : List (List ℕ)) → k < length s.labels.items → mine ≡ tree_rows of (bare (label_tree s k)) → out ++ labels_rows of (drop k (labels_view s)) ≡ goal
    → (out ++ (get_or s.labels.items k d).params.items ∷ []) ++ mine ++ labels_rows of (drop (k + 1) (labels_view s)) ≡ goal
label-more s of k d out mine goal l e h =
    let view = labels_view s in
    let t = tree-at s k l in
    let e0 : Label = record { params = (get_or s.labels.items k d).params.items; body = bare (label_tree s k) } in
    let first : drop k view ≡ e0 ∷ drop (k + 1) view = drop_more view k e0 (omega (arith, length-view s)) ∙ ap (λ x. x ∷ drop (k + 1) view) (t.view_is d e0) in
    ap (λ m. (out ++ (get_or s.labels.items k d).params.items ∷ []) ++ m ++ labels_rows of (drop (k + 1) view)) e
    ∙ append_assoc (out ++ (get_or s.labels.items k d).params.items ∷ []) (tree_rows of (bare (label_tree s k))) (labels_rows of (drop (k + 1) view))
    ∙ append_assoc out ((get_or s.labels.items k d).params.items ∷ []) (tree_rows of (bare (label_tree s k)) ++ labels_rows of (drop (k + 1) view))
    ∙ ap (λ m. out ++ labels_rows of m) (sym first) ∙ h

pub labels-end : (s : Ssu) (of : Names) (k : ℕ) (out goal : List (List ℕ)) → length s.labels.items ≤ k → out ++ labels_rows of (drop k (labels_view s)) ≡ goal → out ≡ goal
labels-end s of k out goal l h = sym (append-nil out) ∙ ap (λ m. out ++ labels_rows of m) (sym (drop_all k (labels_view s) (omega (arith, length-view s)))) ∙ h

-- the longest row is as long as the most live values
longest-live_of : (rows : List (List ℕ)) (ps : List Point) → AllZip IsRow rows ps → longest rows ≡ most_held ps
longest-live_of [] [] h = refl
longest-live_of [] (p ∷ ps) h = absurd h
longest-live_of (r ∷ rows) [] h = absurd h
longest-live_of (r ∷ rows) (p ∷ ps) h = ap (λ n. max n (longest rows)) h.0.count ∙ ap (λ n. max (length p.before) n) (longest-live_of rows ps h.1)

pub longest-is-peak : (s : Ssu) (rows : List (List ℕ)) → AllZip IsRow rows (points (labels_view s)) → longest rows ≡ measures.peak (labels_view s)
longest-is-peak s rows h = longest-live_of rows (points (labels_view s)) h

-- the same, as the rows are kept
pub kept-more : (s : Ssu) (of : Names) (k : ℕ) (d : SsuLabel) (rows pushed new : List Kept) (copy : Kept) (stack : List Kept) (goal : List (List ℕ)) → k < length s.labels.items → d ≡ get_or s.labels.items k d → copy.items ≡ d.params.items
    → pushed ≡ rows ++ copy ∷ [] → on_stack stack ≡ tree_rows of (bare (label_tree s k)) → items_of new ≡ items_of pushed ++ on_stack stack → items_of rows ++ labels_rows of (drop k (labels_view s)) ≡ goal
    → items_of new ++ labels_rows of (drop (k + 1) (labels_view s)) ≡ goal
kept-more s of k d rows pushed new copy stack goal l e c p t n h =
    let put : items_of pushed ≡ items_of rows ++ (get_or s.labels.items k d).params.items ∷ [] =
    ap items_of p ∙ map-append (λ (v : Kept). v.items) rows (copy ∷ []) ∙ ap (λ r. items_of rows ++ r ∷ []) (c ∙ ap (λ (m : SsuLabel). m.params.items) e) in
    ap (λ m. m ++ labels_rows of (drop (k + 1) (labels_view s))) (n ∙ ap (λ m. m ++ on_stack stack) put)
    ∙ label-more s of k d (items_of rows) (on_stack stack) goal l t h

pub if-ok-map : {A E : Type 0} (r : Result A E) (P Q : A → Type 0) → ((v : A) → P v → Q v) → IfOk r P → IfOk r Q
if-ok-map (Ok v) P Q h p = h v p
if-ok-map (Err e) P Q h p = tt

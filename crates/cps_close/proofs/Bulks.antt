-- A flow has at most as much code as its function.
use Rattle.std.proofs.Common.{◌≡◌, ℕ, ◌+◌, Bool, true, false, List, [], ◌∷◌, ◌++◌, Some, refl, sym, ap, subst, if◌then◌else◌, zero, suc, ◌==◌, length, slice_get, arith}
use Rattle.std.proofs.lemmas.Bool.{and_parts, false≢true, eq-eqb}
use Rattle.std.proofs.lemmas.Option.{none-some, same_Some}
use Rattle.nv_base.specs.Measures.{Bulk, Bulks, nothing, a_label, a_jump, a_node, both, IsAtMost}
use Rattle.nv_base.proofs.Measures.{most-refl}
use Rattle.cps_ir.specs.Term.{Term, Let, Read, Write, If, Fix, Call, Return, Throw, Jump, Halt, Labels, none, label, Fun}
use Rattle.cps_ir.specs.View.{Seen}
use Rattle.cps_ir.specs.Bulk as before
use Rattle.flow_ir.specs.Bulk as behind
use Rattle.cps_ir.specs.Callless.{only_jumps, labels_only_jump}
use Rattle.cps_close.specs.inner.Closed.{Table, labels_in, labels_of_all, tree_of, closed, closed_labels}

-- of the trees of labels
abbrev pub label_trees : Table → List Seen → Bulk
label_trees tab [] = nothing
label_trees tab (c ∷ cs) = both (both a_label (behind.tree_bulk (tree_of tab c.body))) (label_trees tab cs)

-- what labels want counts for nothing
closed-bulk : (tab : Table) (cs : List Seen) (ws : List (List ℕ)) → behind.bulk (closed_labels tab cs ws) ≡ label_trees tab cs
closed-bulk tab [] ws = refl
closed-bulk tab (c ∷ cs) [] = ap (both (both a_label (behind.tree_bulk (tree_of tab c.body)))) (closed-bulk tab cs [])
closed-bulk tab (c ∷ cs) (w ∷ ws) = ap (both (both a_label (behind.tree_bulk (tree_of tab c.body)))) (closed-bulk tab cs ws)

trees-append : (tab : Table) (a b : List Seen) → IsAtMost (label_trees tab (a ++ b)) (both (label_trees tab a) (label_trees tab b))
trees-append tab [] b = record { labels = omega arith; jumps = omega arith; nodes = omega arith; defined = omega arith; used = omega arith }
trees-append tab (c ∷ a) b =
    let h = trees-append tab a b in
    record { labels = omega (arith, h.labels); jumps = omega (arith, h.jumps); nodes = omega (arith, h.nodes); defined = omega (arith, h.defined); used = omega (arith, h.used) }

node-bulk : (n t r b : Bulk) → IsAtMost (both t r) b → IsAtMost (both (both n t) r) (both n b)
node-bulk n t r b h = record { labels = omega (arith, h.labels); jumps = omega (arith, h.jumps); nodes = omega (arith, h.nodes); defined = omega (arith, h.defined); used = omega (arith, h.used) }

two-bulk : (n t u r q rq b c : Bulk) → IsAtMost rq (both r q) → IsAtMost (both t r) b → IsAtMost (both u q) c → IsAtMost (both (both n (both t u)) rq) (both n (both b c))
two-bulk n t u r q rq b c s h g = record {
  labels = omega (arith, s.labels, h.labels, g.labels);
  jumps = omega (arith, s.jumps, h.jumps, g.jumps);
  nodes = omega (arith, s.nodes, h.nodes, g.nodes);
  defined = omega (arith, s.defined, h.defined, g.defined);
  used = omega (arith, s.used, h.used, g.used);
}

fix-bulk : (t r q rq b c : Bulk) → IsAtMost rq (both q r) → IsAtMost (both t r) b → IsAtMost q c → IsAtMost (both t rq) (both c b)
fix-bulk t r q rq b c s h g = record {
  labels = omega (arith, s.labels, h.labels, g.labels);
  jumps = omega (arith, s.jumps, h.jumps, g.jumps);
  nodes = omega (arith, s.nodes, h.nodes, g.nodes);
  defined = omega (arith, s.defined, h.defined, g.defined);
  used = omega (arith, s.used, h.used, g.used);
}

label-bulk : (n t r q rq b c : Bulk) → IsAtMost rq (both r (both (both n t) q)) → IsAtMost (both t r) b → IsAtMost q c → IsAtMost rq (both (both n b) c)
label-bulk n t r q rq b c s h g = record {
  labels = omega (arith, s.labels, h.labels, g.labels);
  jumps = omega (arith, s.jumps, h.jumps, g.jumps);
  nodes = omega (arith, s.nodes, h.nodes, g.nodes);
  defined = omega (arith, s.defined, h.defined, g.defined);
  used = omega (arith, s.used, h.used, g.used);
}

jump-bulk : IsAtMost (both a_jump nothing) a_jump
jump-bulk = most-refl a_jump

mutual
  pub term-bulk : (tab : Table) (funs : List Fun) (w : Bulks) (own : ℕ) (t : Term) → only_jumps t ≡ true → IsAtMost (both (behind.tree_bulk (tree_of tab t)) (label_trees tab (labels_in t))) (before.term_bulk funs w own t)
  term-bulk tab funs w own (Let x a t) j = node-bulk (a_node 1 2) (behind.tree_bulk (tree_of tab t)) (label_trees tab (labels_in t)) (before.term_bulk funs w own t) (term-bulk tab funs w own t j)
  term-bulk tab funs w own (Read m xs a t) j = node-bulk (a_node (length xs) 1) (behind.tree_bulk (tree_of tab t)) (label_trees tab (labels_in t)) (before.term_bulk funs w own t) (term-bulk tab funs w own t j)
  term-bulk tab funs w own (Write m a bs t) j = node-bulk (a_node 0 (1 + length bs)) (behind.tree_bulk (tree_of tab t)) (label_trees tab (labels_in t)) (before.term_bulk funs w own t) (term-bulk tab funs w own t j)
  term-bulk tab funs w own (If c a b t u) j =
      let parts = and_parts (only_jumps t) (only_jumps u) j in
      two-bulk (a_node 0 2) (behind.tree_bulk (tree_of tab t)) (behind.tree_bulk (tree_of tab u)) (label_trees tab (labels_in t)) (label_trees tab (labels_in u)) (label_trees tab (labels_in t ++ labels_in u)) (before.term_bulk funs w own t) (before.term_bulk funs w own u)
      (trees-append tab (labels_in t) (labels_in u)) (term-bulk tab funs w own t parts.0) (term-bulk tab funs w own u parts.1)
  term-bulk tab funs w own (Fix ls t) j =
      let parts = and_parts (labels_only_jump ls) (only_jumps t) j in
      fix-bulk (behind.tree_bulk (tree_of tab t)) (label_trees tab (labels_in t)) (label_trees tab (labels_of_all ls)) (label_trees tab (labels_of_all ls ++ labels_in t)) (before.term_bulk funs w own t) (before.labels_bulk funs w own ls)
      (trees-append tab (labels_of_all ls) (labels_in t)) (term-bulk tab funs w own t parts.1) (all-bulk tab funs w own ls parts.0)
  term-bulk tab funs w own (Call f bs k hs) j = absurd (false≢true j)
  term-bulk tab funs w own (Return bs) j = absurd (false≢true j)
  term-bulk tab funs w own (Throw e bs) j = absurd (false≢true j)
  term-bulk tab funs w own (Jump l bs) j = jump-bulk
  term-bulk tab funs w own (Halt e bs) j = jump-bulk

  all-bulk : (tab : Table) (funs : List Fun) (w : Bulks) (own : ℕ) (ls : Labels) → labels_only_jump ls ≡ true → IsAtMost (label_trees tab (labels_of_all ls)) (before.labels_bulk funs w own ls)
  all-bulk tab funs w own none j = most-refl nothing
  all-bulk tab funs w own (label l xs t ls) j =
      let parts = and_parts (only_jumps t) (labels_only_jump ls) j in
      label-bulk a_label (behind.tree_bulk (tree_of tab t)) (label_trees tab (labels_in t)) (label_trees tab (labels_of_all ls)) (label_trees tab (labels_in t ++ record { label = l; params = xs; body = t } ∷ labels_of_all ls)) (before.term_bulk funs w own t)
      (before.labels_bulk funs w own ls) (trees-append tab (labels_in t) (record { label = l; params = xs; body = t } ∷ labels_of_all ls)) (term-bulk tab funs w own t parts.0) (all-bulk tab funs w own ls parts.1)

-- ---- of a function in its group

if-most : (b : Bool) (a c r : Bulk) → b ≡ true → IsAtMost a c → IsAtMost a (both (if b then c else nothing) r)
if-most true a c r e h = record { labels = omega (arith, h.labels); jumps = omega (arith, h.jumps); nodes = omega (arith, h.nodes); defined = omega (arith, h.defined); used = omega (arith, h.used) }
if-most false a c r e h = absurd (false≢true e)

behind-most : (a b r : Bulk) → IsAtMost a r → IsAtMost a (both b r)
behind-most a b r h = record { labels = omega (arith, h.labels); jumps = omega (arith, h.jumps); nodes = omega (arith, h.nodes); defined = omega (arith, h.defined); used = omega (arith, h.used) }

sum-has : (funs : List Fun) (w : Bulks) (fs : List Fun) (i : ℕ) (f : Fun) (a : Bulk) → slice_get fs i ≡ Some f → IsAtMost a (before.function_bulk funs w f) → IsAtMost a (before.sum_bulk funs w f.group fs)
sum-has funs w [] i f a e h = absurd (none-some f e)
sum-has funs w (g ∷ fs) zero f a e h =
    let same : f ≡ g = sym (same_Some g f e) in
    if-most (g.group == f.group) a (before.function_bulk funs w g) (before.sum_bulk funs w f.group fs) (eq-eqb g.group f.group (ap (λ (z : Fun). z.group) (sym same))) (subst (λ z. IsAtMost a (before.function_bulk funs w z)) same h)
sum-has funs w (g ∷ fs) (suc i) f a e h = behind-most a (if g.group == f.group then before.function_bulk funs w g else nothing) (before.sum_bulk funs w f.group fs) (sum-has funs w fs i f a e h)

function-most : (tab : Table) (funs : List Fun) (w : Bulks) (f : Fun) → only_jumps f.body ≡ true → IsAtMost (behind.bulk (closed tab f)) (before.function_bulk funs w f)
function-most tab funs w f j =
    let all = closed-bulk tab (labels_in f.body) tab.lists in
    subst (λ r. IsAtMost (both (both a_label (behind.tree_bulk (tree_of tab f.body))) r) (before.function_bulk funs w f)) (sym all)
    (node-bulk a_label (behind.tree_bulk (tree_of tab f.body)) (label_trees tab (labels_in f.body)) (before.term_bulk funs w f.group f.body) (term-bulk tab funs w f.group f.body j))

group-most : (tab : Table) (funs : List Fun) (main : ℕ) (f : Fun) → slice_get funs main ≡ Some f → only_jumps f.body ≡ true → IsAtMost (behind.bulk (closed tab f)) (before.group_bulk funs f.group)
group-most tab funs main f e j = sum-has funs (before.bulks_within funs f.group) funs main f (behind.bulk (closed tab f)) e (function-most tab funs (before.bulks_within funs f.group) f j)

-- the code of a flow is at most that of its function's group
pub code-most : (tab : Table) (funs : List Fun) (main : ℕ) (f : Fun) → slice_get funs main ≡ Some f → only_jumps f.body ≡ true → IsAtMost (behind.bulk (closed tab f)) (before.code_bulk funs main)
code-most tab funs main f e j = subst (λ o. IsAtMost (behind.bulk (closed tab f)) (before.main_code funs o)) (sym e) (group-most tab funs main f e j)

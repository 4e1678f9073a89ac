-- a list of nodes that grows, a node at a time
use Rattle.std.proofs.Common.{◌≡◌, ◌≢◌, ℕ, ◌+◌, ◌*◌, ◌<◌, List, [], ◌∷◌, ◌++◌, length, Bool, true, false, inl, inr, ◌⊎◌, Option, Some, slice_set, refl, sym, ◌∙◌, ap, subst, arith, append_assoc, length-append}
use Rattle.std.proofs.lemmas.List.{append-nil}
use Rattle.zo_cert_tree.specs.Certificate.{Tree, leaf, branch, preorder, EachNode, branches, HasLeft}
use Rattle.zo_cert_tree.specs.Searched.{GoesDepthFirst, IsLeftOrDone}
use Rattle.zo_cert_tree.specs.inner.Walk.{MayCome, Walks, after}
use Rattle.zo_cert_tree.specs.declared.cert.CertNode.{CertNode}
use Rattle.zo_cert_tree.specs.declared.cert.CertNode.TheVariants.{Branch, Bound, Clash, Left}
use Rattle.zo_cert_tree.proofs.Walk.{walks_tree}
use Rattle.zo_cert_tree.proofs.Nodes.{branches_cons}
use Rattle.zo_solve_branch.specs.inner.Node.{Leaves}
use Rattle.zo_solve.specs.inner.Search.{LeftsLast}

-- ---- what walks the rest ends a walk of the whole

abbrev pub Begun : (List (Option Bool) → CertNode → Type 0) → List (Option Bool) → List (List (Option Bool)) → List CertNode → Type 0
Begun P f fs done = (ns : List CertNode) → Walks P fs ns → Walks P (f ∷ []) (done ++ ns)

pub begun_more : (P : List (Option Bool) → CertNode → Type 0) (f : List (Option Bool)) (fs fs' : List (List (Option Bool))) (done done' : List CertNode) (n : CertNode) → Begun P f fs done → done' ≡ done ++ n ∷ [] → MayCome P fs n → fs' ≡ after fs n → Begun P f fs' done'
begun_more P f fs fs' done done' n h longer may next ns w =
    let e : done' ++ ns ≡ done ++ n ∷ ns = ap (λ ms. ms ++ ns) longer ∙ append_assoc done (n ∷ []) ns in
    subst (Walks P (f ∷ [])) (sym e) (h (n ∷ ns) (may, subst (λ gs. Walks P gs ns) next w))

pub begun_done : (P : List (Option Bool) → CertNode → Type 0) (f : List (Option Bool)) (done : List CertNode) → Begun P f [] done → (t : Tree) × (preorder t ≡ done) × EachNode P f t
begun_done P f done h = walks_tree P f done (subst (Walks P (f ∷ [])) (append-nil done) (h [] refl))

pub may_weaker : (P Q : List (Option Bool) → CertNode → Type 0) → ((f : List (Option Bool)) (n : CertNode) → P f n → Q f n) → (fs : List (List (Option Bool))) (n : CertNode) → MayCome P fs n → MayCome Q fs n
may_weaker P Q h [] n m = absurd m
may_weaker P Q h (f ∷ fs) (Branch j) m = (m.0, h f (Branch j) m.1)
may_weaker P Q h (f ∷ fs) (Bound d ms) m = h f (Bound d ms) m
may_weaker P Q h (f ∷ fs) (Clash ms) m = h f (Clash ms) m
may_weaker P Q h (f ∷ fs) Left m = h f Left m

-- ---- counts

pub branches_append : (ns ms : List CertNode) → branches (ns ++ ms) ≡ branches ns + branches ms
branches_append [] ms = omega arith
branches_append (n ∷ ns) ms =
    let ih : branches (ns ++ ms) ≡ branches ns + branches ms = branches_append ns ms in
    omega (arith, branches_cons n (ns ++ ms), branches_cons n ns)

-- the budget that is left falls by the branches that are put
pub left_falls : (ns ns' : List CertNode) (n : CertNode) (left rest : ℕ) → ns' ≡ ns ++ n ∷ [] → Leaves n left rest → branches ns' + rest ≡ branches ns + left
left_falls ns ns' (Branch j) left rest e l = omega (arith, ap branches e, branches_append ns (Branch j ∷ []))
left_falls ns ns' (Bound d ms) left rest e l = omega (arith, ap branches e, branches_append ns (Bound d ms ∷ []))
left_falls ns ns' (Clash ms) left rest e l = omega (arith, ap branches e, branches_append ns (Clash ms ∷ []))
left_falls ns ns' Left left rest e l = omega (arith, ap branches e, branches_append ns (Left ∷ []), l.0, l.1)

pub measure_falls : (fs fs' : List (List (Option Bool))) (n : CertNode) (left rest : ℕ) → fs ≢ [] → fs' ≡ after fs n → Leaves n left rest → 2 * rest + length fs' < 2 * left + length fs
measure_falls [] fs' n left rest some e l = absurd (some refl)
measure_falls (f ∷ fs) fs' (Branch j) left rest some e l = let k = ap length e in omega arith
measure_falls (f ∷ fs) fs' (Bound d ms) left rest some e l = let k = ap length e in omega arith
measure_falls (f ∷ fs) fs' (Clash ms) left rest some e l = let k = ap length e in omega arith
measure_falls (f ∷ fs) fs' Left left rest some e l = let k = ap length e in omega (arith, l.0, l.1)

-- ---- nodes that are left

left_append : (ns ms : List CertNode) → HasLeft (ns ++ ms) → HasLeft ns ⊎ HasLeft ms
left_append [] ms h = inr h
left_append (Branch j ∷ ns) ms h = left_append ns ms h
left_append (Bound d ms' ∷ ns) ms h = left_append ns ms h
left_append (Clash ms' ∷ ns) ms h = left_append ns ms h
left_append (Left ∷ ns) ms h = inl tt

left_in_front : (ns ms : List CertNode) → HasLeft ns → HasLeft (ns ++ ms)
left_in_front [] ms h = absurd h
left_in_front (Branch j ∷ ns) ms h = left_in_front ns ms h
left_in_front (Bound d ms' ∷ ns) ms h = left_in_front ns ms h
left_in_front (Clash ms' ∷ ns) ms h = left_in_front ns ms h
left_in_front (Left ∷ ns) ms h = tt

left_behind : (ns ms : List CertNode) → HasLeft ms → HasLeft (ns ++ ms)
left_behind [] ms h = h
left_behind (Branch j ∷ ns) ms h = left_behind ns ms h
left_behind (Bound d ms' ∷ ns) ms h = left_behind ns ms h
left_behind (Clash ms' ∷ ns) ms h = left_behind ns ms h
left_behind (Left ∷ ns) ms h = tt

has_left_or : (ns : List CertNode) → HasLeft ns ⊎ ¬ (HasLeft ns)
has_left_or [] = inr (λ h. h)
has_left_or (Branch j ∷ ns) = has_left_or ns
has_left_or (Bound d ms ∷ ns) = has_left_or ns
has_left_or (Clash ms ∷ ns) = has_left_or ns
has_left_or (Left ∷ ns) = inl tt

-- a node is left only where no branch may come any more
pub left_spent : (ns ns' : List CertNode) (n : CertNode) (left rest : ℕ) → ns' ≡ ns ++ n ∷ [] → Leaves n left rest → (HasLeft ns → left ≡ 0) → HasLeft ns' → rest ≡ 0
left_spent ns ns' n left rest e l was h = elim (left_append ns (n ∷ []) (subst HasLeft e h)) [
  | inl a ↦ zero_stays n l (was a)
  | inr b ↦ only_left n l b
]
  where
    zero_stays : (n : CertNode) → Leaves n left rest → left ≡ 0 → rest ≡ 0
    zero_stays (Branch j) l z = omega arith
    zero_stays (Bound d ms) l z = omega arith
    zero_stays (Clash ms) l z = omega arith
    zero_stays Left l z = l.1

    only_left : (n : CertNode) → Leaves n left rest → HasLeft (n ∷ []) → rest ≡ 0
    only_left (Branch j) l h = absurd h
    only_left (Bound d ms) l h = absurd h
    only_left (Clash ms) l h = absurd h
    only_left Left l h = l.1

last_leaf : (ns : List CertNode) (n : CertNode) → branches (n ∷ []) ≡ 0 → LeftsLast ns → LeftsLast (ns ++ n ∷ [])
last_leaf [] (Branch j) e h = absurd (omega arith)
last_leaf [] (Bound d ms) e h = tt
last_leaf [] (Clash ms) e h = tt
last_leaf [] Left e h = refl
last_leaf (Branch j ∷ ns) n e h = last_leaf ns n e h
last_leaf (Bound d ms ∷ ns) n e h = last_leaf ns n e h
last_leaf (Clash ms ∷ ns) n e h = last_leaf ns n e h
last_leaf (Left ∷ ns) n e h = omega (arith, branches_append ns (n ∷ []))

last_branch : (ns : List CertNode) (j : ℕ) → ¬ (HasLeft ns) → LeftsLast ns → LeftsLast (ns ++ Branch j ∷ [])
last_branch [] j no_left h = tt
last_branch (Branch k ∷ ns) j no_left h = last_branch ns j no_left h
last_branch (Bound d ms ∷ ns) j no_left h = last_branch ns j no_left h
last_branch (Clash ms ∷ ns) j no_left h = last_branch ns j no_left h
last_branch (Left ∷ ns) j no_left h = absurd (no_left tt)

pub lefts_last_more : (ns ns' : List CertNode) (n : CertNode) (left rest : ℕ) → ns' ≡ ns ++ n ∷ [] → Leaves n left rest → (HasLeft ns → left ≡ 0) → LeftsLast ns → LeftsLast ns'
lefts_last_more ns ns' (Branch j) left rest e l was h = subst LeftsLast (sym e) (last_branch ns j (λ k. let z = was k in absurd (omega arith)) h)
lefts_last_more ns ns' (Bound d ms) left rest e l was h = subst LeftsLast (sym e) (last_leaf ns (Bound d ms) refl h)
lefts_last_more ns ns' (Clash ms) left rest e l was h = subst LeftsLast (sym e) (last_leaf ns (Clash ms) refl h)
lefts_last_more ns ns' Left left rest e l was h = subst LeftsLast (sym e) (last_leaf ns Left refl h)

-- ---- depth first

no_branch_behind : (ns ms : List CertNode) → LeftsLast (ns ++ ms) → HasLeft ns → branches ms ≡ 0
no_branch_behind [] ms l h = absurd h
no_branch_behind (Branch j ∷ ns) ms l h = no_branch_behind ns ms l h
no_branch_behind (Bound d ms' ∷ ns) ms l h = no_branch_behind ns ms l h
no_branch_behind (Clash ms' ∷ ns) ms l h = no_branch_behind ns ms l h
no_branch_behind (Left ∷ ns) ms l h = omega (arith, branches_append ns ms)

lefts_last_front : (ns ms : List CertNode) → LeftsLast (ns ++ ms) → LeftsLast ns
lefts_last_front [] ms l = tt
lefts_last_front (Branch j ∷ ns) ms l = lefts_last_front ns ms l
lefts_last_front (Bound d ms' ∷ ns) ms l = lefts_last_front ns ms l
lefts_last_front (Clash ms' ∷ ns) ms l = lefts_last_front ns ms l
lefts_last_front (Left ∷ ns) ms l = omega (arith, branches_append ns ms)

lefts_last_none : (ms : List CertNode) → branches ms ≡ 0 → LeftsLast ms
lefts_last_none [] e = tt
lefts_last_none (Branch j ∷ ms) e = absurd (omega arith)
lefts_last_none (Bound d ms' ∷ ms) e = lefts_last_none ms e
lefts_last_none (Clash ms' ∷ ms) e = lefts_last_none ms e
lefts_last_none (Left ∷ ms) e = e

lefts_last_back : (ns ms : List CertNode) → LeftsLast (ns ++ ms) → LeftsLast ms
lefts_last_back [] ms l = l
lefts_last_back (Branch j ∷ ns) ms l = lefts_last_back ns ms l
lefts_last_back (Bound d ms' ∷ ns) ms l = lefts_last_back ns ms l
lefts_last_back (Clash ms' ∷ ns) ms l = lefts_last_back ns ms l
lefts_last_back (Left ∷ ns) ms l = lefts_last_none ms (omega (arith, branches_append ns ms))

one_node : (t : Tree) → branches (preorder t) ≡ 0 → IsLeftOrDone t
one_node (leaf (Branch j)) e = absurd (omega arith)
one_node (leaf (Bound d ms)) e = inr (λ h. h)
one_node (leaf (Clash ms)) e = inr (λ h. h)
one_node (leaf Left) e = inl tt
one_node (branch j a b) e = absurd (omega arith)

-- where no branch follows a node that is left, the search went depth first
pub depth_first : (t : Tree) → LeftsLast (preorder t) → GoesDepthFirst t
depth_first (leaf n) l = tt
depth_first (branch j a b) l = (
  elim (has_left_or (preorder a)) [
    | inl h ↦ inr (one_node b (no_branch_behind (preorder a) (preorder b) l h))
    | inr none ↦ inl (inr none)
  ],
  depth_first a (lefts_last_front (preorder a) (preorder b) l),
  depth_first b (lefts_last_back (preorder a) (preorder b) l),
)

-- ---- what holds of each node

-- a tree without a node that is left is closed
pub closed_leaves : (P Q : List (Option Bool) → CertNode → Type 0) → ((f : List (Option Bool)) (j : ℕ) → Q f (Branch j)) → ((f : List (Option Bool)) (n : CertNode) → ¬ (HasLeft (n ∷ [])) → P f n → Q f n) → (t : Tree) (f : List (Option Bool)) → ¬ (HasLeft (preorder t)) → EachNode P f t → EachNode Q f t
closed_leaves P Q br h (leaf n) f none e = (e.0, h f n none e.1)
closed_leaves P Q br h (branch j a b) f none e =
    (e.0, br f j, closed_leaves P Q br h a (slice_set f j (Some false)) (λ k. none (left_in_front (preorder a) (preorder b) k)) e.2, closed_leaves P Q br h b (slice_set f j (Some true)) (λ k. none (left_behind (preorder a) (preorder b) k)) e.3)

-- as many nodes as twice the branches and one
pub nodes_counted : (P : List (Option Bool) → CertNode → Type 0) (t : Tree) (f : List (Option Bool)) → EachNode P f t → length (preorder t) ≡ 2 * branches (preorder t) + 1
nodes_counted P (leaf (Branch j)) f e = absurd e.0
nodes_counted P (leaf (Bound d ms)) f e = refl
nodes_counted P (leaf (Clash ms)) f e = refl
nodes_counted P (leaf Left) f e = refl
nodes_counted P (branch j a b) f e =
    let x = nodes_counted P a (slice_set f j (Some false)) e.2 in
    let y = nodes_counted P b (slice_set f j (Some true)) e.3 in
    omega (arith, length-append (preorder a) (preorder b), branches_append (preorder a) (preorder b))

-- what a search that has ended gives, by its answer
use Rattle.std.proofs.Common.{◌≡◌, ℕ, ◌+◌, ◌*◌, ◌-◌, ◌≤◌, ◌^◌, List, [], ◌∷◌, ◌++◌, length, Bool, Option, Some, None, slice_set, false, true, refl, sym, ◌∙◌, ap, subst, arith}
use Rattle.std.specs.List.{All}
use Rattle.std.proofs.lemmas.List.Elements.{All-nil, All-cons, All-append}
use Rattle.zo_model.specs.Program.{columns}
use Rattle.zo_model.specs.declared.program.Assignment.{Assignment}
use Rattle.zo_model.specs.declared.program.ZeroOne.{ZeroOne}
use Rattle.zo_cert_tree.specs.Certificate.{ClosesLeaf, EachNode, HasLeft, IsShaped, IsTreeWith, IsWellNamed, OfLeaf, Proves, Tree, branch, branches, leaf, preorder, unfixed}
use Rattle.zo_cert_tree.specs.Node.{IsNode}
use Rattle.zo_cert_tree.specs.Searched.{IsClosed, IsNoBetter, IsOpenWhereOpen, IsSearched}
use Rattle.zo_cert_tree.specs.declared.cert.CertNode.{CertNode}
use Rattle.zo_cert_tree.specs.declared.cert.CertNode.TheVariants.{Branch, Bound, Clash, Left}
use Rattle.zo_cert_tree.specs.declared.cert.Claim.{Claim}
use Rattle.zo_cert_tree.specs.declared.cert.Claim.TheVariants as claims
use Rattle.zo_cert_tree.proofs.Walk.{each_weaker}
use Rattle.zo_solve_branch.specs.Nodes.{IsBelow, IsPicked}
use Rattle.zo_solve_dive.specs.inner.Better.{IsAtMostStart, IsClaimOf}
use Rattle.zo_solve_branch.specs.inner.Node.{IsGood}
use Rattle.zo_solve.specs.inner.Search.{IsAnswerOf, IsFound, LeftsLast}
use Rattle.zo_solve.specs.Solved.{CostsAtMost, EachIn, HadNoStart, IsCutOff, IsDecided, IsProved, OfVector, claim_of, tree_of}
use Rattle.zo_solve_dive.specs.Vector.{IsVector, cost_at, start_cost}
use Rattle.zo_solve_dive.specs.declared.best.Best.{Best}
use Rattle.zo_solve.specs.declared.search.Solved.{Solved}
use Rattle.zo_solve.specs.declared.search.Solved.TheVariants as answers
use Rattle.zo_solve.proofs.FewBranches.{below_budget}
use Rattle.zo_solve.proofs.Grow.{closed_leaves, depth_first, nodes_counted}

-- what is known of an ended search, and of its answer
pub record Ended (z : ZeroOne) (start : Option ℕ) (picks : List (Option Bool) → ℕ → Type 0) (budget : ℕ) (b : Best) (ns : List CertNode) (s : Solved) : Type 0 where
  pub found : IsFound z start picks budget b ns
  pub answered : IsAnswerOf b.x ns s

pub ended : {picks : List (Option Bool) → ℕ → Type 0} (z : ZeroOne) (start start' : Option ℕ) (budget : ℕ) (b : Best) (ns : List CertNode) (s : Solved) → start ≡ start' → IsFound z start picks budget b ns → IsAnswerOf b.x ns s → Ended z start' picks budget b ns s
ended {picks} z start start' budget b ns s e f a = record { found = subst (λ st. IsFound z st picks budget b ns) e f; answered = a }

nodes_are : (o : Option Assignment) (ns : List CertNode) (s : Solved) → IsAnswerOf o ns s → (tree_of s).nodes.items ≡ ns
nodes_are o ns (answers.Optimal x c) a = a.1
nodes_are o ns (answers.Feasible x c) a = a.1
nodes_are o ns (answers.Infeasible c) a = a.1
nodes_are o ns (answers.Spent c) a = a.1

claim_is : (z : ZeroOne) (o : Option Assignment) (claim : Claim) (ns : List CertNode) (s : Solved) → IsClaimOf z o claim → IsAnswerOf o ns s → claim ≡ claim_of z s
claim_is z o claim ns (answers.Optimal x c) k a = (subst (λ o. IsClaimOf z o claim) a.0 k).1
claim_is z o claim ns (answers.Feasible x c) k a = (subst (λ o. IsClaimOf z o claim) a.0 k).1
claim_is z o claim ns (answers.Infeasible c) k a = subst (λ o. IsClaimOf z o claim) a.0 k
claim_is z o claim ns (answers.Spent c) k a = subst (λ o. IsClaimOf z o claim) a.0 k

-- ---- the vector

vector_of : (z : ZeroOne) (o : Option Assignment) (claim : Claim) (ns : List CertNode) (s : Solved) → IsClaimOf z o claim → IsAnswerOf o ns s → OfVector (IsVector z) s
vector_of z o claim ns (answers.Optimal x c) k a = (subst (λ o. IsClaimOf z o claim) a.0 k).0
vector_of z o claim ns (answers.Feasible x c) k a = (subst (λ o. IsClaimOf z o claim) a.0 k).0
vector_of z o claim ns (answers.Infeasible c) k a = tt
vector_of z o claim ns (answers.Spent c) k a = tt

pub ended_vector : (z : ZeroOne) (start : Option ℕ) (picks : List (Option Bool) → ℕ → Type 0) (budget : ℕ) (b : Best) (ns : List CertNode) (s : Solved) → Ended z start picks budget b ns s → OfVector (IsVector z) s
ended_vector z start picks budget b ns s e = vector_of z b.x b.claim ns s e.found.best.claimed e.answered

at_most : (start : Option ℕ) (t : ℕ) → IsAtMostStart start (claims.Least t) → CostsAtMost t start
at_most None t h = tt
at_most (Some u) t h = h

costs_at_most : (z : ZeroOne) (start : Option ℕ) (o : Option Assignment) (claim : Claim) (ns : List CertNode) (s : Solved) → IsClaimOf z o claim → IsAtMostStart start claim → IsAnswerOf o ns s → OfVector (λ x. CostsAtMost (cost_at z x) start) s
costs_at_most z start o claim ns (answers.Optimal x c) k m a = at_most start (cost_at z x) (subst (IsAtMostStart start) (claim_is z o claim ns (answers.Optimal x c) k a) m)
costs_at_most z start o claim ns (answers.Feasible x c) k m a = at_most start (cost_at z x) (subst (IsAtMostStart start) (claim_is z o claim ns (answers.Feasible x c) k a) m)
costs_at_most z start o claim ns (answers.Infeasible c) k m a = tt
costs_at_most z start o claim ns (answers.Spent c) k m a = tt

pub ended_no_dearer : (z : ZeroOne) (start : Option ℕ) (picks : List (Option Bool) → ℕ → Type 0) (budget : ℕ) (b : Best) (ns : List CertNode) (s : Solved) → Ended z start picks budget b ns s → OfVector (λ x. CostsAtMost (cost_at z x) start) s
ended_no_dearer z start picks budget b ns s e = costs_at_most z start b.x b.claim ns s e.found.best.claimed (subst (λ st. IsAtMostStart st b.claim) e.found.same_start e.found.best.no_dearer) e.answered

no_start : (z : ZeroOne) (start : Option Assignment) (claim : Claim) (o : Option Assignment) (ns : List CertNode) (s : Solved) → IsClaimOf z o claim → IsAtMostStart (start_cost z start) claim → IsAnswerOf o ns s → HadNoStart start s
no_start z start claim o ns (answers.Optimal x c) k m a = tt
no_start z start claim o ns (answers.Feasible x c) k m a = tt
no_start z None claim o ns (answers.Infeasible c) k m a = refl
no_start z (Some x) claim o ns (answers.Infeasible c) k m a = absurd (subst (IsAtMostStart (Some (cost_at z x))) (claim_is z o claim ns (answers.Infeasible c) k a) m)
no_start z None claim o ns (answers.Spent c) k m a = refl
no_start z (Some x) claim o ns (answers.Spent c) k m a = absurd (subst (IsAtMostStart (Some (cost_at z x))) (claim_is z o claim ns (answers.Spent c) k a) m)

pub ended_no_start : (z : ZeroOne) (start : Option Assignment) (picks : List (Option Bool) → ℕ → Type 0) (budget : ℕ) (b : Best) (ns : List CertNode) (s : Solved) → Ended z (start_cost z start) picks budget b ns s → HadNoStart start s
ended_no_start z start picks budget b ns s e = no_start z start b.claim b.x ns s e.found.best.claimed (subst (λ st. IsAtMostStart st b.claim) e.found.same_start e.found.best.no_dearer) e.answered

-- ---- the tree

-- what each node of the found tree keeps, of the answer's tree
each_in : (z : ZeroOne) (start : Option ℕ) (picks : List (Option Bool) → ℕ → Type 0) (budget : ℕ) (b : Best) (ns : List CertNode) (s : Solved) (Q : List (Option Bool) → CertNode → Type 0) → Ended z start picks budget b ns s → ((f : List (Option Bool)) (n : CertNode) → IsGood z start picks b.claim f n → Q f n) → IsTreeWith (EachNode Q (unfixed z)) (tree_of s)
each_in z start picks budget b ns s Q e h =
    (e.found.tree, e.found.whole ∙ sym (nodes_are b.x ns s e.answered), each_weaker (IsGood z start picks b.claim) Q h e.found.tree (unfixed z) e.found.good)

pub ended_picked : (z : ZeroOne) (start : Option ℕ) (picks : List (Option Bool) → ℕ → Type 0) (budget : ℕ) (b : Best) (ns : List CertNode) (s : Solved) → Ended z start picks budget b ns s → EachIn z (IsPicked picks) s
ended_picked z start picks budget b ns s e = each_in z start picks budget b ns s (IsPicked picks) e (λ f n h. h.picked)

pub ended_below : (z : ZeroOne) (start : Option ℕ) (picks : List (Option Bool) → ℕ → Type 0) (budget : ℕ) (b : Best) (ns : List CertNode) (s : Solved) → Ended z start picks budget b ns s → EachIn z (IsBelow z start) s
ended_below z start picks budget b ns s e = each_in z start picks budget b ns s (IsBelow z start) e (λ f n h. h.below)

closed_named : (z : ZeroOne) (claim : Claim) (f : List (Option Bool)) (n : CertNode) → IsClosed z claim f n → IsWellNamed z f n
closed_named z claim f (Branch j) h = tt
closed_named z (claims.Least t) f (Bound d ms) h = h.0
closed_named z claims.Nothing f (Bound d ms) h = absurd h
closed_named z claim f (Clash ms) h = h.0
closed_named z claim f Left h = tt

pub ended_shaped : (z : ZeroOne) (start : Option ℕ) (picks : List (Option Bool) → ℕ → Type 0) (budget : ℕ) (b : Best) (ns : List CertNode) (s : Solved) → Ended z start picks budget b ns s → IsTreeWith (IsShaped z) (tree_of s)
ended_shaped z start picks budget b ns s e = each_in z start picks budget b ns s (IsWellNamed z) e (λ f n h. closed_named z b.claim f n h.closed)

pub ended_searched : (z : ZeroOne) (start : Option ℕ) (picks : List (Option Bool) → ℕ → Type 0) (budget : ℕ) (b : Best) (ns : List CertNode) (s : Solved) → Ended z start picks budget b ns s → IsTreeWith (IsSearched z (claim_of z s)) (tree_of s)
ended_searched z start picks budget b ns s e =
    let P : List (Option Bool) → CertNode → Type 0 = IsGood z start picks b.claim in
    let same : b.claim ≡ claim_of z s = claim_is z b.x b.claim ns s e.found.best.claimed e.answered in (
      e.found.tree,
      e.found.whole ∙ sym (nodes_are b.x ns s e.answered),
      subst (λ claim. IsSearched z claim e.found.tree) same (record {
        open_is_open = each_weaker P (IsOpenWhereOpen z) (λ f n h. h.open_is_open) e.found.tree (unfixed z) e.found.good;
        x_is_best = each_weaker P (IsNoBetter z b.claim) (λ f n h. h.no_better) e.found.tree (unfixed z) e.found.good;
        leaves_closed = each_weaker P (IsClosed z b.claim) (λ f n h. h.closed) e.found.tree (unfixed z) e.found.good;
        depth_first = depth_first e.found.tree (subst LeftsLast (sym e.found.whole) e.found.lefts_last);
      }),
    )

closed_proves : (z : ZeroOne) (claim : Claim) (f : List (Option Bool)) (n : CertNode) → ¬ (HasLeft (n ∷ [])) → IsClosed z claim f n → OfLeaf (ClosesLeaf z claim) f n
closed_proves z claim f (Branch j) none h = tt
closed_proves z claim f (Bound d ms) none h = h
closed_proves z claim f (Clash ms) none h = h
closed_proves z claim f Left none h = absurd (none tt)

closed_tree : (z : ZeroOne) (start : Option ℕ) (picks : List (Option Bool) → ℕ → Type 0) (claim : Claim) (t : Tree) → ¬ (HasLeft (preorder t)) → EachNode (IsGood z start picks claim) (unfixed z) t → Proves z t claim
closed_tree z start picks claim t none e =
    closed_leaves (IsGood z start picks claim) (OfLeaf (ClosesLeaf z claim)) (λ f j. tt) (λ f n no_left h. closed_proves z claim f n no_left h.closed) t (unfixed z) none e

proved_by : (z : ZeroOne) (start : Option ℕ) (picks : List (Option Bool) → ℕ → Type 0) (budget : ℕ) (b : Best) (ns : List CertNode) (s : Solved) → Ended z start picks budget b ns s → ¬ (HasLeft ns) → IsTreeWith (λ t. Proves z t (claim_of z s)) (tree_of s)
proved_by z start picks budget b ns s e none =
    let same : b.claim ≡ claim_of z s = claim_is z b.x b.claim ns s e.found.best.claimed e.answered in
    (e.found.tree, e.found.whole ∙ sym (nodes_are b.x ns s e.answered), subst (Proves z e.found.tree) same (closed_tree z start picks b.claim e.found.tree (λ h. none (subst HasLeft e.found.whole h)) e.found.good))

pub ended_proved : (z : ZeroOne) (start : Option ℕ) (picks : List (Option Bool) → ℕ → Type 0) (budget : ℕ) (b : Best) (ns : List CertNode) (s : Solved) → Ended z start picks budget b ns s → IsProved z s
ended_proved z start picks budget b ns (answers.Optimal x c) e = proved_by z start picks budget b ns (answers.Optimal x c) e e.answered.2
ended_proved z start picks budget b ns (answers.Feasible x c) e = tt
ended_proved z start picks budget b ns (answers.Infeasible c) e = proved_by z start picks budget b ns (answers.Infeasible c) e e.answered.2
ended_proved z start picks budget b ns (answers.Spent c) e = tt

pub ended_cut_off : (z : ZeroOne) (start : Option ℕ) (picks : List (Option Bool) → ℕ → Type 0) (budget : ℕ) (b : Best) (ns : List CertNode) (s : Solved) → Ended z start picks budget b ns s → IsCutOff budget s
ended_cut_off z start picks budget b ns (answers.Optimal x c) e = tt
ended_cut_off z start picks budget b ns (answers.Feasible x c) e = record { used = ap branches e.answered.1 ∙ e.found.cut_off e.answered.2; open_ = subst HasLeft (sym e.answered.1) e.answered.2 }
ended_cut_off z start picks budget b ns (answers.Infeasible c) e = tt
ended_cut_off z start picks budget b ns (answers.Spent c) e = record { used = ap branches e.answered.1 ∙ e.found.cut_off e.answered.2; open_ = subst HasLeft (sym e.answered.1) e.answered.2 }

never_cut : (z : ZeroOne) (start : Option ℕ) (picks : List (Option Bool) → ℕ → Type 0) (budget : ℕ) (b : Best) (ns : List CertNode) → IsFound z start picks budget b ns → 2 ^ (columns z + 1) - 1 ≤ budget → HasLeft ns → ⊥
never_cut z start picks budget b ns f le h = below_budget z (IsGood z start picks b.claim) f.tree budget f.good le (ap branches f.whole ∙ f.cut_off h)

pub ended_decided : (z : ZeroOne) (start : Option ℕ) (picks : List (Option Bool) → ℕ → Type 0) (budget : ℕ) (b : Best) (ns : List CertNode) (s : Solved) → Ended z start picks budget b ns s → 2 ^ (columns z + 1) - 1 ≤ budget → IsDecided s
ended_decided z start picks budget b ns (answers.Optimal x c) e le = tt
ended_decided z start picks budget b ns (answers.Feasible x c) e le = never_cut z start picks budget b ns e.found le e.answered.2
ended_decided z start picks budget b ns (answers.Infeasible c) e le = tt
ended_decided z start picks budget b ns (answers.Spent c) e le = never_cut z start picks budget b ns e.found le e.answered.2

pub ended_within : (z : ZeroOne) (start : Option ℕ) (picks : List (Option Bool) → ℕ → Type 0) (budget : ℕ) (b : Best) (ns : List CertNode) (s : Solved) → Ended z start picks budget b ns s → branches (tree_of s).nodes.items ≤ budget
ended_within z start picks budget b ns s e = omega (arith, ap branches (nodes_are b.x ns s e.answered), e.found.within_budget)

pub ended_few : (z : ZeroOne) (start : Option ℕ) (picks : List (Option Bool) → ℕ → Type 0) (budget : ℕ) (b : Best) (ns : List CertNode) (s : Solved) → Ended z start picks budget b ns s → length (tree_of s).nodes.items ≤ 2 * budget + 1
ended_few z start picks budget b ns s e =
    let n : length (preorder e.found.tree) ≡ 2 * branches (preorder e.found.tree) + 1 = nodes_counted (IsGood z start picks b.claim) e.found.tree (unfixed z) e.found.good in
    let l : length (tree_of s).nodes.items ≡ length ns = ap length (nodes_are b.x ns s e.answered) in
    let lw : length (preorder e.found.tree) ≡ length ns = ap length e.found.whole in
    let bw : branches (preorder e.found.tree) ≡ branches ns = ap branches e.found.whole in
    omega (arith, e.found.within_budget)

nodes_within : (P : List (Option Bool) → CertNode → Type 0) → ((f : List (Option Bool)) (n : CertNode) → P f n → IsNode n) → (t : Tree) (f : List (Option Bool)) → EachNode P f t → All IsNode (preorder t)
nodes_within P h (leaf n) f e = All-cons IsNode n [] (h f n e.1) (All-nil IsNode)
nodes_within P h (branch j a b) f e =
    All-cons IsNode (Branch j) (preorder a ++ preorder b) (h f (Branch j) e.1) (All-append IsNode (preorder a) (preorder b) (nodes_within P h a (slice_set f j (Some false)) e.2) (nodes_within P h b (slice_set f j (Some true)) e.3))

pub ended_limits : (z : ZeroOne) (start : Option ℕ) (picks : List (Option Bool) → ℕ → Type 0) (budget : ℕ) (b : Best) (ns : List CertNode) (s : Solved) → Ended z start picks budget b ns s → All IsNode (tree_of s).nodes.items
ended_limits z start picks budget b ns s e =
    subst (All IsNode) (e.found.whole ∙ sym (nodes_are b.x ns s e.answered)) (nodes_within (IsGood z start picks b.claim) (λ f n h. h.within) e.found.tree (unfixed z) e.found.good)

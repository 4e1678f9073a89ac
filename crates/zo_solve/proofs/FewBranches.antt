-- how many branches a tree can have
use Rattle.std.proofs.Common.{◌≡◌, ℕ, zero, suc, ◌+◌, ◌*◌, ◌-◌, ◌≤◌, ◌^◌, List, [], ◌∷◌, Bool, true, false, Option, Some, None, slice_get, slice_set, replicate, refl, sym, ◌∙◌, ap, arith}
use Rattle.std.proofs.Math.Nat.{pow-suc}
use Rattle.std.proofs.lemmas.Grind.{pow_more}
use Rattle.zo_model.specs.Program.{columns}
use Rattle.zo_model.specs.declared.program.ZeroOne.{ZeroOne}
use Rattle.zo_cert_tree.specs.Certificate.{Tree, leaf, branch, preorder, EachNode, unfixed, branches}
use Rattle.zo_cert_tree.specs.declared.cert.CertNode.{CertNode}
use Rattle.zo_cert_tree.specs.declared.cert.CertNode.TheVariants.{Branch, Bound, Clash, Left}
use Rattle.zo_solve.proofs.Grow.{branches_append}

abbrev pub free : List (Option Bool) → ℕ
free [] = 0
free (None ∷ os) = suc (free os)
free (Some v ∷ os) = free os

free_set : (fixed : List (Option Bool)) (j : ℕ) (v : Bool) → slice_get fixed j ≡ Some None → free (slice_set fixed j (Some v)) + 1 ≡ free fixed
free_set [] j v e = absurd (cc e)
free_set (None ∷ os) zero v e = omega arith
free_set (Some u ∷ os) zero v e = absurd (cc e)
free_set (None ∷ os) (suc j) v e = let ih : free (slice_set os j (Some v)) + 1 ≡ free os = free_set os j v e in omega arith
free_set (Some u ∷ os) (suc j) v e = free_set os j v e

free_none : (n : ℕ) → free (replicate n None) ≡ n
free_none zero = refl
free_none (suc n) = ap suc (free_none n)

double : (k : ℕ) → 2 ^ (k + 1) ≡ 2 ^ k + 2 ^ k
double k = let e : 2 ^ (k + 1) ≡ 2 ^ k * 2 = pow_more 2 k in omega arith

positive : (k : ℕ) → 1 ≤ 2 ^ k
positive zero = omega arith
positive (suc k) = let ih : 1 ≤ 2 ^ k = positive k in let e : 2 ^ suc k ≡ 2 ^ k * 2 = pow-suc 2 k in omega arith

-- each branch fixes a column more
few_branches : (P : List (Option Bool) → CertNode → Type 0) (t : Tree) (f : List (Option Bool)) → EachNode P f t → branches (preorder t) + 1 ≤ 2 ^ free f
few_branches P (leaf (Branch j)) f e = absurd e.0
few_branches P (leaf (Bound d ms)) f e = positive (free f)
few_branches P (leaf (Clash ms)) f e = positive (free f)
few_branches P (leaf Left) f e = positive (free f)
few_branches P (branch j a b) f e =
    let x : branches (preorder a) + 1 ≤ 2 ^ free (slice_set f j (Some false)) = few_branches P a (slice_set f j (Some false)) e.2 in
    let y : branches (preorder b) + 1 ≤ 2 ^ free (slice_set f j (Some true)) = few_branches P b (slice_set f j (Some true)) e.3 in
    let fa : free (slice_set f j (Some false)) + 1 ≡ free f = free_set f j false e.0 in
    let fb : free (slice_set f j (Some true)) ≡ free (slice_set f j (Some false)) = let k = free_set f j true e.0 in omega arith in
    let pb : 2 ^ free (slice_set f j (Some true)) ≡ 2 ^ free (slice_set f j (Some false)) = ap (λ k. 2 ^ k) fb in
    let pf : 2 ^ free f ≡ 2 ^ free (slice_set f j (Some false)) + 2 ^ free (slice_set f j (Some false)) = ap (λ k. 2 ^ k) (sym fa) ∙ double (free (slice_set f j (Some false))) in
    omega (arith, branches_append (preorder a) (preorder b))

-- a tree has fewer branches than a budget of 2 ^ (columns + 1) - 1
pub below_budget : (z : ZeroOne) (P : List (Option Bool) → CertNode → Type 0) (t : Tree) (budget : ℕ) → EachNode P (unfixed z) t → 2 ^ (columns z + 1) - 1 ≤ budget → branches (preorder t) ≡ budget → ⊥
below_budget z P t budget e le same =
    let b : branches (preorder t) + 1 ≤ 2 ^ free (unfixed z) = few_branches P t (unfixed z) e in
    let n : 2 ^ free (unfixed z) ≡ 2 ^ columns z = ap (λ k. 2 ^ k) (free_none (columns z)) in
    absurd (omega (arith, double (columns z), positive (columns z)))

-- lists of nodes: how many branch, and whether one is left
use Rattle.std.proofs.Common.{◌≡◌, ℕ, zero, suc, ◌+◌, ◌<◌, ◌≤◌, List, [], ◌∷◌, length, take, get_or, sym, ap, arith, add-one}
use Rattle.zo_cert_tree.specs.Certificate.{branches}
use Rattle.zo_cert_tree.specs.declared.cert.CertNode.{CertNode}
use Rattle.zo_cert_tree.specs.declared.cert.CertNode.TheVariants.{Branch, Bound, Clash, Left}

pub branches_cons : (n : CertNode) (ns : List CertNode) → branches (n ∷ ns) ≡ branches (n ∷ []) + branches ns
branches_cons (Branch j) ns = omega arith
branches_cons (Bound d ms) ns = omega arith
branches_cons (Clash ms) ns = omega arith
branches_cons Left ns = omega arith

pub branches_one : (n : CertNode) → branches (n ∷ []) ≤ 1
branches_one (Branch j) = omega arith
branches_one (Bound d ms) = omega arith
branches_one (Clash ms) = omega arith
branches_one Left = omega arith

branches_suc : (ns : List CertNode) (i : ℕ) (n : CertNode) → i < length ns → n ≡ get_or ns i n → branches (take (suc i) ns) ≡ branches (take i ns) + branches (n ∷ [])
branches_suc [] i n lt e = absurd (omega arith)
branches_suc (m ∷ ns) zero n lt e = let same : branches (m ∷ []) ≡ branches (n ∷ []) = ap (λ k. branches (k ∷ [])) (sym e) in omega arith
branches_suc (m ∷ ns) (suc i) n lt e =
    let ih : branches (take (suc i) ns) ≡ branches (take i ns) + branches (n ∷ []) = branches_suc ns i n (omega arith) e in
    let a = branches_cons m (take (suc i) ns) in
    let b = branches_cons m (take i ns) in
    omega arith

pub branches-more : (ns : List CertNode) (i : ℕ) (n : CertNode) → i < length ns → n ≡ get_or ns i n → branches (take (i + 1) ns) ≡ branches (take i ns) + branches (n ∷ [])
branches-more ns i n lt e = rw add-one (branches_suc ns i n lt e)

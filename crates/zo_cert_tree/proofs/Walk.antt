-- a list of nodes that a walk takes to its end is the preorder of a tree, and no other list is
use Rattle.std.proofs.Common.{◌≡◌, ℕ, zero, suc, ◌≤◌, List, [], ◌∷◌, ◌++◌, length, Bool, true, false, Option, Some, slice_set, refl, sym, ◌∙◌, ap, subst, arith, append_assoc, length-append}
use Rattle.std.proofs.lemmas.List.{append-nil}
use Rattle.zo_model.specs.declared.program.ZeroOne.{ZeroOne}
use Rattle.zo_cert_tree.specs.declared.cert.Cert.{Cert}
use Rattle.zo_cert_tree.specs.declared.cert.Claim.{Claim}
use Rattle.zo_cert_tree.specs.declared.cert.Claim.TheVariants.{Least, Nothing}
use Rattle.zo_cert_tree.specs.Certificate.{Tree, leaf, branch, preorder, ClosesLeaf, EachNode, IsShaped, IsTreeWith, IsWellNamed, OfLeaf, Proves, unfixed}
use Rattle.zo_cert_tree.specs.inner.Walk.{Walks}
use Rattle.zo_cert_tree.specs.declared.cert.CertNode.{CertNode}
use Rattle.zo_cert_tree.specs.declared.cert.CertNode.TheVariants.{Branch, Bound, Clash, Left}

pub from_tree : (P : List (Option Bool) → CertNode → Type 0) → (t : Tree) (f : List (Option Bool)) (fs : List (List (Option Bool))) (rest : List CertNode) → EachNode P f t → Walks P fs rest → Walks P (f ∷ fs) (preorder t ++ rest)
from_tree P (leaf (Branch j)) f fs rest h w = absurd h.0
from_tree P (leaf (Bound d ms)) f fs rest h w = (h.1, w)
from_tree P (leaf (Clash ms)) f fs rest h w = (h.1, w)
from_tree P (leaf Left) f fs rest h w = (h.1, w)
from_tree P (branch j a b) f fs rest h w =
    ((h.0, h.1), subst (Walks P (slice_set f j (Some false) ∷ slice_set f j (Some true) ∷ fs)) (sym (append_assoc (preorder a) (preorder b) rest)) (from_tree P a (slice_set f j (Some false)) (slice_set f j (Some true) ∷ fs) (preorder b ++ rest) h.2 (from_tree P b (slice_set f j (Some true)) fs rest h.3 w)))

pub record Grown (P : List (Option Bool) → CertNode → Type 0) (f : List (Option Bool)) (fs : List (List (Option Bool))) (ns : List CertNode) : Type 0 where
  pub tree : Tree
  pub rest : List CertNode
  pub whole : ns ≡ preorder tree ++ rest
  pub nodes : EachNode P f tree
  pub walks : Walks P fs rest

pub to_tree : (P : List (Option Bool) → CertNode → Type 0) (k : ℕ) (f : List (Option Bool)) (fs : List (List (Option Bool))) (ns : List CertNode) → length ns ≤ k → Walks P (f ∷ fs) ns → Grown P f fs ns
to_tree P k f fs [] le w = absurd (cc w)
to_tree P zero f fs (n ∷ ns) le w = absurd (omega arith)
to_tree P (suc k) f fs (Branch j ∷ ns) le w =
    let a = to_tree P k (slice_set f j (Some false)) (slice_set f j (Some true) ∷ fs) ns (omega arith) w.1 in
    let short : length a.rest ≤ k = omega (arith, ap length a.whole, length-append (preorder a.tree) a.rest) in
    let b = to_tree P k (slice_set f j (Some true)) fs a.rest short a.walks in
    record {
      tree = branch j a.tree b.tree;
      rest = b.rest;
      whole = ap (λ ms. Branch j ∷ ms) (a.whole ∙ ap (λ ms. preorder a.tree ++ ms) b.whole ∙ sym (append_assoc (preorder a.tree) (preorder b.tree) b.rest));
      nodes = (w.0.0, w.0.1, a.nodes, b.nodes);
      walks = b.walks;
    }
to_tree P (suc k) f fs (Bound d ms ∷ ns) le w = record { tree = leaf (Bound d ms); rest = ns; whole = refl; nodes = (tt, w.0); walks = w.1 }
to_tree P (suc k) f fs (Clash ms ∷ ns) le w = record { tree = leaf (Clash ms); rest = ns; whole = refl; nodes = (tt, w.0); walks = w.1 }
to_tree P (suc k) f fs (Left ∷ ns) le w = record { tree = leaf Left; rest = ns; whole = refl; nodes = (tt, w.0); walks = w.1 }

pub tree_walks : (P : List (Option Bool) → CertNode → Type 0) → (t : Tree) (f : List (Option Bool)) → EachNode P f t → Walks P (f ∷ []) (preorder t)
tree_walks P t f h = subst (Walks P (f ∷ [])) (append-nil (preorder t)) (from_tree P t f [] [] h refl)

rest_empty : (P : List (Option Bool) → CertNode → Type 0) (ns : List CertNode) → Walks P [] ns → ns ≡ []
rest_empty P [] w = refl
rest_empty P (n ∷ ns) w = absurd w.0

pub walks_tree : (P : List (Option Bool) → CertNode → Type 0) (f : List (Option Bool)) (ns : List CertNode) → Walks P (f ∷ []) ns → (t : Tree) × (preorder t ≡ ns) × EachNode P f t
walks_tree P f ns w =
    let g = to_tree P (length ns) f [] ns (omega arith) w in
    let e : g.rest ≡ [] = rest_empty P g.rest g.walks in
    (g.tree, sym (g.whole ∙ ap (λ ms. preorder g.tree ++ ms) e ∙ append-nil (preorder g.tree)), g.nodes)

-- what holds of each node holds of each in a weaker form
pub each_weaker : (P Q : List (Option Bool) → CertNode → Type 0) → ((f : List (Option Bool)) (n : CertNode) → P f n → Q f n) → (t : Tree) (f : List (Option Bool)) → EachNode P f t → EachNode Q f t
each_weaker P Q weaker (leaf n) f h = (h.0, weaker f n h.1)
each_weaker P Q weaker (branch j a b) f h =
    (h.0, weaker f (Branch j) h.1, each_weaker P Q weaker a (slice_set f j (Some false)) h.2, each_weaker P Q weaker b (slice_set f j (Some true)) h.3)

closes_named : (z : ZeroOne) (claim : Claim) (f : List (Option Bool)) (n : CertNode) → OfLeaf (ClosesLeaf z claim) f n → IsWellNamed z f n
closes_named z claim f (Branch j) h = tt
closes_named z (Least t) f (Bound d ms) h = h.0
closes_named z Nothing f (Bound d ms) h = absurd h
closes_named z claim f (Clash ms) h = h.0
closes_named z claim f Left h = absurd h

-- a certificate that proves a claim is shaped
pub proved_shaped : (z : ZeroOne) (claim : Claim) (c : Cert) → IsTreeWith (λ t. Proves z t claim) c → IsTreeWith (IsShaped z) c
proved_shaped z claim c p = (p.0, p.1, each_weaker (OfLeaf (ClosesLeaf z claim)) (IsWellNamed z) (closes_named z claim) p.0 (unfixed z) p.2)

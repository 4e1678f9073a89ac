-- a walk through a tree in preorder, a node at a time
use Rattle.std.specs.Prelude.{◌≡◌, List, [], ◌∷◌, Bool, slice_get, Option, Some, None}
use Rattle.zo_cert_tree.specs.inner.Path.{both_arms, rest_of}
use Rattle.zo_cert_tree.specs.declared.cert.CertNode.{CertNode}
use Rattle.zo_cert_tree.specs.declared.cert.CertNode.TheVariants.{Branch, Bound, Clash, Left}

-- the node may come next: a branch on an unfixed column or a leaf, with P
abbrev pub MayCome : (List (Option Bool) → CertNode → Type 0) → List (List (Option Bool)) → CertNode → Type 0
MayCome P [] n = ⊥
MayCome P (f ∷ fs) (Branch j) = (slice_get f j ≡ Some None) × P f (Branch j)
MayCome P (f ∷ fs) (Bound d ms) = P f (Bound d ms)
MayCome P (f ∷ fs) (Clash ms) = P f (Clash ms)
MayCome P (f ∷ fs) Left = P f Left

-- the subtrees that are to come after the node
abbrev pub after : List (List (Option Bool)) → CertNode → List (List (Option Bool))
after fs (Branch j) = both_arms j fs
after fs (Bound d ms) = rest_of fs
after fs (Clash ms) = rest_of fs
after fs Left = rest_of fs

-- the nodes are those of the subtrees that wait, to the last
abbrev pub Walks : (List (Option Bool) → CertNode → Type 0) → List (List (Option Bool)) → List CertNode → Type 0
Walks P fs [] = fs ≡ []
Walks P fs (n ∷ ns) = MayCome P fs n × Walks P (after fs n) ns

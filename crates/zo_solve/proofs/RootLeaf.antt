-- a leaf that closes a claim at the root proves it
use Rattle.std.proofs.Common.{List, Bool, Option}
use Rattle.zo_model.specs.declared.program.ZeroOne.{ZeroOne}
use Rattle.zo_cert_tree.specs.Certificate.{ClosesLeaf, IsLeaf, OfLeaf, Proves, leaf, unfixed}
use Rattle.zo_cert_tree.specs.declared.cert.CertNode.{CertNode}
use Rattle.zo_cert_tree.specs.declared.cert.CertNode.TheVariants.{Branch, Bound, Clash, Left}
use Rattle.zo_cert_tree.specs.declared.cert.Claim.{Claim}

closed_leaf : (z : ZeroOne) (claim : Claim) (fixed : List (Option Bool)) (n : CertNode) → ClosesLeaf z claim fixed n → IsLeaf n × OfLeaf (ClosesLeaf z claim) fixed n
closed_leaf z claim fixed (Branch j) h = absurd h
closed_leaf z claim fixed (Bound d ms) h = (tt, h)
closed_leaf z claim fixed (Clash ms) h = (tt, h)
closed_leaf z claim fixed Left h = absurd h

pub root_proves : (z : ZeroOne) (claim : Claim) (n : CertNode) → ClosesLeaf z claim (unfixed z) n → Proves z (leaf n) claim
root_proves z claim n h = closed_leaf z claim (unfixed z) n h

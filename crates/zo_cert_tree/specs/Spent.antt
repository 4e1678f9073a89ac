-- trees of a search that was cut off
use Rattle.std.specs.Prelude.{◌≡◌, ℕ}
use Rattle.zo_cert_tree.specs.Certificate.{branches, HasLeft}
use Rattle.zo_cert_tree.specs.declared.cert.Cert.{Cert}

-- the search used its whole budget and left a node open
pub record IsSpent (budget : ℕ) (c : Cert) : Type 0 where
  pub used : branches c.nodes.items ≡ budget
  pub open_ : HasLeft c.nodes.items

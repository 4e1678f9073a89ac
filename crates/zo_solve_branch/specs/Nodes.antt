-- what the branches of a searched tree keep, and the nodes that it leaves open
use Rattle.std.specs.Prelude.{ℕ, ◌<◌, List, Bool, Option, Some, None}
use Rattle.zo_model.specs.Program.{cost_of}
use Rattle.zo_model.specs.declared.program.ZeroOne.{ZeroOne}
use Rattle.zo_cert_tree.specs.Fixing.{ones}
use Rattle.zo_cert_tree.specs.declared.cert.CertNode.{CertNode}
use Rattle.zo_cert_tree.specs.declared.cert.CertNode.TheVariants.{Branch, Bound, Clash, Left}

-- a branch is on a column that the pick may answer
abbrev pub IsPicked : (List (Option Bool) → ℕ → Type 0) → List (Option Bool) → CertNode → Type 0
IsPicked answers fixed (Branch j) = answers fixed j
IsPicked answers fixed (Bound d ms) = Unit {0}
IsPicked answers fixed (Clash ms) = Unit {0}
IsPicked answers fixed Left = Unit {0}

-- the columns fixed at 1 cost less than the start, where there is one
abbrev pub CostsLess : ZeroOne → Option ℕ → List (Option Bool) → Type 0
CostsLess z None fixed = Unit {0}
CostsLess z (Some t) fixed = cost_of z (ones fixed) < t

-- a branch, or a node that is left, stays below the cost of the start
abbrev pub IsBelow : ZeroOne → Option ℕ → List (Option Bool) → CertNode → Type 0
IsBelow z start fixed (Branch j) = CostsLess z start fixed
IsBelow z start fixed (Bound d ms) = Unit {0}
IsBelow z start fixed (Clash ms) = Unit {0}
IsBelow z start fixed Left = CostsLess z start fixed

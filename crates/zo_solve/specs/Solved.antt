-- the answers of a search
use Rattle.std.specs.Prelude.{◌≡◌, ℕ, ◌≤◌, List, Bool, Option, Some, None}
use Rattle.zo_model.specs.declared.program.Assignment.{Assignment}
use Rattle.zo_model.specs.declared.program.ZeroOne.{ZeroOne}
use Rattle.zo_cert_tree.specs.Certificate.{IsTreeWith, Proves, EachNode, unfixed}
use Rattle.zo_cert_tree.specs.Spent.{IsSpent}
use Rattle.zo_cert_tree.specs.declared.cert.Cert.{Cert}
use Rattle.zo_cert_tree.specs.declared.cert.Claim.{Claim}
use Rattle.zo_cert_tree.specs.declared.cert.Claim.TheVariants as claims
use Rattle.zo_solve_dive.specs.Vector.{cost_at}
use Rattle.zo_solve.specs.declared.search.Solved.{Solved}
use Rattle.zo_solve.specs.declared.search.Solved.TheVariants as answers

-- the tree of an answer
abbrev pub tree_of : Solved → Cert
tree_of (answers.Optimal x c) = c
tree_of (answers.Feasible x c) = c
tree_of (answers.Infeasible c) = c
tree_of (answers.Spent c) = c

-- the claim that the closed leaves of an answer's tree are closed for
abbrev pub claim_of : ZeroOne → Solved → Claim
claim_of z (answers.Optimal x c) = claims.Least (cost_at z x)
claim_of z (answers.Feasible x c) = claims.Least (cost_at z x)
claim_of z (answers.Infeasible c) = claims.Nothing
claim_of z (answers.Spent c) = claims.Nothing

-- P of the vector of an answer, where it has one
abbrev pub OfVector : (Assignment → Type 0) → Solved → Type 0
OfVector P (answers.Optimal x c) = P x
OfVector P (answers.Feasible x c) = P x
OfVector P (answers.Infeasible c) = Unit {0}
OfVector P (answers.Spent c) = Unit {0}

-- an answer that says that its search was ended proves it
abbrev pub IsProved : ZeroOne → Solved → Type 0
IsProved z (answers.Optimal x c) = IsTreeWith (λ t. Proves z t (claims.Least (cost_at z x))) c
IsProved z (answers.Infeasible c) = IsTreeWith (λ t. Proves z t claims.Nothing) c
IsProved z (answers.Feasible x c) = Unit {0}
IsProved z (answers.Spent c) = Unit {0}

-- an answer that says that its search was cut off used its whole budget and left a node open
abbrev pub IsCutOff : ℕ → Solved → Type 0
IsCutOff budget (answers.Optimal x c) = Unit {0}
IsCutOff budget (answers.Infeasible c) = Unit {0}
IsCutOff budget (answers.Feasible x c) = IsSpent budget c
IsCutOff budget (answers.Spent c) = IsSpent budget c

-- without a vector no start was given
abbrev pub HadNoStart : Option Assignment → Solved → Type 0
HadNoStart start (answers.Optimal x c) = Unit {0}
HadNoStart start (answers.Feasible x c) = Unit {0}
HadNoStart start (answers.Infeasible c) = start ≡ None
HadNoStart start (answers.Spent c) = start ≡ None

-- the search came to its end
abbrev pub IsDecided : Solved → Type 0
IsDecided (answers.Optimal x c) = Unit {0}
IsDecided (answers.Infeasible c) = Unit {0}
IsDecided (answers.Feasible x c) = ⊥
IsDecided (answers.Spent c) = ⊥

-- n is at most the cost of the start, where there is one
abbrev pub CostsAtMost : ℕ → Option ℕ → Type 0
CostsAtMost n None = Unit {0}
CostsAtMost n (Some t) = n ≤ t

-- P of each node of the answer's tree, with the columns fixed above it
abbrev pub EachIn : ZeroOne → (List (Option Bool) → Rattle.zo_cert_tree.specs.declared.cert.CertNode.CertNode → Type 0) → Solved → Type 0
EachIn z P s = IsTreeWith (EachNode P (unfixed z)) (tree_of s)

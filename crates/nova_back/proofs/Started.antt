-- A search that begins with something better than the start answers no dearer than the start, and had none only where that was none.
use Rattle.std.proofs.Common.{◌≡◌, ℕ, Option, Some, None, IfSome, arith}
use Rattle.zo_model.specs.declared.program.Assignment.{Assignment}
use Rattle.zo_model.specs.declared.program.ZeroOne.{ZeroOne}
use Rattle.zo_solve.specs.Solved.{CostsAtMost, HadNoStart, OfVector}
use Rattle.zo_solve.specs.declared.search.Solved.{Solved}
use Rattle.zo_solve.specs.declared.search.Solved.TheVariants as answers
use Rattle.zo_solve_dive.specs.Vector.{IsVector, cost_at, start_cost}
use Rattle.nova_back.specs.inner.Search.{Betters}

-- it is a vector, if it is there
pub vector-before : (z : ZeroOne) (start first : Option Assignment) → Betters z start first → IfSome first (IsVector z)
vector-before z start None h = tt
vector-before z start (Some x) h = h.0

none-before : (z : ZeroOne) (start first : Option Assignment) → Betters z start first → first ≡ None → start ≡ None
none-before z start None h e = h
none-before z start (Some x) h e = absurd (cc)

pub had-none-before : (z : ZeroOne) (start first : Option Assignment) (s : Solved) → Betters z start first → HadNoStart first s → HadNoStart start s
had-none-before z start first (answers.Optimal x c) h g = tt
had-none-before z start first (answers.Feasible x c) h g = tt
had-none-before z start first (answers.Infeasible c) h g = none-before z start first h g
had-none-before z start first (answers.Spent c) h g = none-before z start first h g

costs-before : (z : ZeroOne) (n : ℕ) (start first : Option Assignment) → Betters z start first → CostsAtMost n (start_cost z first) → CostsAtMost n (start_cost z start)
costs-before z n None first h g = tt
costs-before z n (Some x) (Some y) h g = omega (arith, h.1, g)
costs-before z n (Some x) None h g = absurd (cc)

pub no-dearer-before : (z : ZeroOne) (start first : Option Assignment) (s : Solved) → Betters z start first → OfVector (λ x. CostsAtMost (cost_at z x) (start_cost z first)) s
    → OfVector (λ x. CostsAtMost (cost_at z x) (start_cost z start)) s
no-dearer-before z start first (answers.Optimal x c) h g = costs-before z (cost_at z x) start first h g
no-dearer-before z start first (answers.Feasible x c) h g = costs-before z (cost_at z x) start first h g
no-dearer-before z start first (answers.Infeasible c) h g = tt
no-dearer-before z start first (answers.Spent c) h g = tt

use Rattle.std.proofs.Common.{◌≡◌, ◌∙◌, ap, replicate, false, arith}
use Rattle.zo_model.specs.Program.{columns}
use Rattle.zo_solve.proofs.Reports.{infeasible_right, optimal_right}
use Rattle.zo_solve.proofs.reported.report_of.Goals as goal

pub returns-in-Optimal-clause-valid : goal.returns-in-Optimal-clause-valid
returns-in-Optimal-clause-valid c =
    (optimal_right c.args.slots c.args.budget c.args.z c.args.solved c.in-Optimal.x c.in-Optimal.tree c.in-Optimal.is
    (record { valid = c.requires.valid; slots_fit = c.requires.slots; some = c.requires.some; budget_fits = c.requires.budget; vector = c.requires.vector; proved = c.requires.proved; cut_off = c.requires.cut_off; shaped = c.requires.shaped; few = c.requires.few_nodes; within = c.requires.within_limits })).valid

pub returns-in_ok-x-in-Infeasible-clause-valid : goal.returns-in_ok-x-in-Infeasible-clause-valid
returns-in_ok-x-in-Infeasible-clause-valid c =
    let n : c.len-columns.result ≡ columns c.args.z = omega (arith, c.len-columns.ensures, c.args.z.costs.ok.0) in
    (infeasible_right c.args.slots c.args.budget c.args.z c.args.solved c.in_ok-x-in-Infeasible.x c.in-Infeasible.tree c.in-Infeasible.is (c.in_ok-x-in-Infeasible.ensures ∙ ap (λ k. replicate k false) n)
    (record { valid = c.requires.valid; slots_fit = c.requires.slots; some = c.requires.some; budget_fits = c.requires.budget; vector = c.requires.vector; proved = c.requires.proved; cut_off = c.requires.cut_off; shaped = c.requires.shaped; few = c.requires.few_nodes; within = c.requires.within_limits })).valid

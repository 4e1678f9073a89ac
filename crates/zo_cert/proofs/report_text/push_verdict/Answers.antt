use Rattle.std.proofs.Common.{◌∷◌, [], codes, decimal}
use Rattle.nv_lines.specs.Line.{parted}
use Rattle.zo_model.specs.Program.{cost_of, vector}
use Rattle.zo_cert.specs.ReportText.{x_line}
use Rattle.zo_cert_tree.proofs.Written.{piece_as}
use Rattle.zo_cert.proofs.ReportPieces.{two_line_text, pushed}
use Rattle.zo_cert.proofs.report_text.push_verdict.Goals as goal

pub returns-in-Optimal : goal.returns-in-Optimal
returns-in-Optimal c =
    rw c.in-Optimal.is (piece_as c.push_costed.result _ _ _ _ (two_line_text (parted (codes "verdict" ∷ codes "optimal" ∷ decimal (cost_of c.args.r.now.z (vector c.args.r.now.x.on.items)) ∷ [])) (x_line c.args.r.now.x.on.items)) c.push_costed.ensures)

pub returns-in-Feasible : goal.returns-in-Feasible
returns-in-Feasible c =
    rw c.in-Feasible.is (piece_as c.push_costed-in-Feasible.result _ _ _ _ (two_line_text (parted (codes "verdict" ∷ codes "feasible" ∷ decimal (cost_of c.args.r.now.z (vector c.args.r.now.x.on.items)) ∷ [])) (x_line c.args.r.now.x.on.items)) c.push_costed-in-Feasible.ensures)

pub returns-in-Infeasible : goal.returns-in-Infeasible
returns-in-Infeasible c = rw c.in-Infeasible.is (pushed c.extend_from_slice.result c.args.out.now.items c.extend_from_slice.new.self.items (codes "verdict infeasible\n") c.extend_from_slice.ensures.items)

pub returns-in-Spent : goal.returns-in-Spent
returns-in-Spent c = rw c.in-Spent.is (pushed c.extend_from_slice-in-Spent.result c.args.out.now.items c.extend_from_slice-in-Spent.new.self.items (codes "verdict spent\n") c.extend_from_slice-in-Spent.ensures.items)

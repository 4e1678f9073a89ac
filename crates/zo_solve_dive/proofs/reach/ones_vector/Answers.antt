use Rattle.std.proofs.Common.{◌≡◌, length, map, ◌∙◌, ap, sym, subst}
use Rattle.zo_model.specs.Program.{vector, cost_of, Feasible}
use Rattle.zo_cert_tree.specs.Fixing.{is_one, ones}
use Rattle.zo_solve_dive.proofs.Rows.{vector_ones, length_ones}
use Rattle.zo_solve_dive.proofs.reach.ones_vector.Goals as goal

pub returns-clause-vector : goal.returns-clause-vector
returns-clause-vector c =
    let on : c.in_ok-ones_list.field-0.items ≡ map is_one c.args.fixed.now = c.in_ok-ones_list.ensures in
    let e : vector c.in_ok-ones_list.field-0.items ≡ ones c.args.fixed.now = ap vector on ∙ vector_ones c.args.fixed.now in
    record {
      one_a_column = ap length on ∙ length_ones c.args.fixed.now ∙ c.requires.places;
      feasible = subst (Feasible c.args.z.now) (sym e) c.requires.met;
    }

pub returns-clause-cost : goal.returns-clause-cost
returns-clause-cost c =
    let on : c.in_ok-ones_list.field-0.items ≡ map is_one c.args.fixed.now = c.in_ok-ones_list.ensures in
    let e : vector c.in_ok-ones_list.field-0.items ≡ ones c.args.fixed.now = ap vector on ∙ vector_ones c.args.fixed.now in
    ap (cost_of c.args.z.now) e

use Rattle.std.proofs.Common.{◌≡◌, ap, sym, subst, rules}
use Rattle.zo_model.specs.Program.{cost_of, vector, Feasible}
use Rattle.zo_cert_tree.specs.Certificate.{IsTreeWith, Proves}
use Rattle.zo_cert.specs.Report.{VerdictHolds}
use Rattle.zo_cert_tree.specs.declared.cert.Claim.TheVariants.{Least, Nothing}
use Rattle.zo_cert.specs.declared.report.Verdict.TheVariants as verdicts
use Rattle.zo_cert_tree.proofs.Walk.{proved_shaped}
use Rattle.zo_cert.proofs.report.check_report.Goals as goal

pub returns-then-feasible-clause-exact : goal.returns-then-feasible-clause-exact
returns-then-feasible-clause-exact c =
    let is : c.args.r.now.verdict ≡ verdicts.Optimal = c.in-Optimal.is in
    let e : Least c.cost.result ≡ Least (cost_of c.args.r.now.z (vector c.args.r.now.x.on.items)) = ap Least c.cost.ensures in
    let feasible : Feasible c.args.r.now.z (vector c.args.r.now.x.on.items) = search rules in (
      λ yes.
          let p = c.check.ensures.exact.0 yes in
          record {
            tree_shaped = proved_shaped c.args.r.now.z (Least c.cost.result) c.args.r.now.tree p;
            verdict_holds = subst (λ v. VerdictHolds v c.args.r.now) (sym is) (feasible, subst (λ claim. IsTreeWith (λ t. Proves c.args.r.now.z t claim) c.args.r.now.tree) e p);
          },
      λ h.
          let v : VerdictHolds verdicts.Optimal c.args.r.now = subst (λ v. VerdictHolds v c.args.r.now) is h.verdict_holds in
          c.check.ensures.exact.1 (subst (λ claim. IsTreeWith (λ t. Proves c.args.r.now.z t claim) c.args.r.now.tree) (sym e) v.1),
    )

pub returns-in-Infeasible-clause-exact : goal.returns-in-Infeasible-clause-exact
returns-in-Infeasible-clause-exact c =
    let is : c.args.r.now.verdict ≡ verdicts.Infeasible = c.in-Infeasible.is in (
      λ yes.
          let p = c.check-in-Infeasible.ensures.exact.0 yes in
          record {
            tree_shaped = proved_shaped c.args.r.now.z Nothing c.args.r.now.tree p;
            verdict_holds = subst (λ v. VerdictHolds v c.args.r.now) (sym is) p;
          },
      λ h.
          let v : VerdictHolds verdicts.Infeasible c.args.r.now = subst (λ v. VerdictHolds v c.args.r.now) is h.verdict_holds in
          c.check-in-Infeasible.ensures.exact.1 v,
    )

-- the report of an answer is valid and true
use Rattle.std.proofs.Common.{◌≡◌, ℕ, ◌<◌, ◌≤◌, ◌^◌, length, replicate, false, refl, sym, ◌∙◌, ap, subst, arith}
use Rattle.std.specs.List.{All}
use Rattle.std.proofs.lemmas.List.{length-replicate}
use Rattle.std.proofs.lemmas.List.Elements.{All-replicate}
use Rattle.zo_model.specs.Program.{IsValid, columns}
use Rattle.zo_model.specs.declared.program.Assignment.{Assignment}
use Rattle.zo_model.specs.declared.program.ZeroOne.{ZeroOne}
use Rattle.zo_cert_tree.specs.Certificate.{IsShaped, IsTreeWith, Tree, branch, leaf, preorder}
use Rattle.zo_cert.specs.Report.{IsBlank, IsTrueReport, IsValidReport}
use Rattle.zo_cert_tree.specs.Node.{IsNode}
use Rattle.zo_cert_tree.specs.declared.cert.Cert.{Cert}
use Rattle.zo_cert.specs.declared.report.Report.{Report}
use Rattle.zo_cert.specs.declared.report.Verdict.{Verdict}
use Rattle.zo_cert.specs.declared.report.Verdict.TheVariants as verdicts
use Rattle.zo_solve.specs.Reported.{IsReportOf}
use Rattle.zo_solve.specs.Solved.{IsCutOff, IsProved, OfVector, tree_of}
use Rattle.zo_solve_dive.specs.Vector.{IsVector}
use Rattle.zo_solve.specs.declared.search.Solved.{Solved}
use Rattle.zo_solve.specs.declared.search.Solved.TheVariants as answers

-- what is asked of an answer
pub record Known (slots budget : ℕ) (z : ZeroOne) (s : Solved) : Type 0 where
  pub valid : IsValid z
  pub slots_fit : slots ≤ 128
  pub some : 1 ≤ budget
  pub budget_fits : budget ≤ 1000000
  pub vector : OfVector (IsVector z) s
  pub proved : IsProved z s
  pub cut_off : IsCutOff budget s
  pub shaped : IsTreeWith (IsShaped z) (tree_of s)
  pub few : length (tree_of s).nodes.items < 2 ^ 32
  pub within : All IsNode (tree_of s).nodes.items

-- a report, and what of it is to be shown
abbrev pub made : ℕ → ℕ → ZeroOne → Verdict → Assignment → Cert → Report
made slots budget z v x c = record { slots = slots; budget = budget; z = z; verdict = v; x = x; tree = c }

pub record IsRight (slots budget : ℕ) (z : ZeroOne) (s : Solved) (r : Report) : Type 0 where
  pub valid : IsValidReport r
  pub holds : IsTrueReport r
  pub says : IsReportOf z s slots budget r

some_nodes : (t : Tree) → 1 ≤ length (preorder t)
some_nodes (leaf n) = omega arith
some_nodes (branch j a b) = omega arith

tree_nodes : (P : Tree → Type 0) (c : Cert) → IsTreeWith P c → 1 ≤ length c.nodes.items
tree_nodes P c t = omega (arith, some_nodes t.0, ap length t.1)

valid_made : (slots budget : ℕ) (z : ZeroOne) (v : Verdict) (x : Assignment) (c : Cert) → IsValid z → slots ≤ 128 → 1 ≤ budget → budget ≤ 1000000 → length x.on.items ≡ columns z → IsBlank v x.on.items → IsTreeWith (IsShaped z) c → length c.nodes.items < 2 ^ 32 → All IsNode c.nodes.items → IsValidReport (made slots budget z v x c)
valid_made slots budget z v x c valid s b1 b2 n blank t few fit = record {
  slots_fit = s;
  budget_low = b1;
  budget_high = b2;
  program_valid = valid;
  one_a_column = n;
  blank = blank;
  some_nodes = tree_nodes (IsShaped z) c t;
  few_nodes = few;
  nodes_fit = fit;
}

pub optimal_right : (slots budget : ℕ) (z : ZeroOne) (s : Solved) (x : Assignment) (c : Cert) → s ≡ answers.Optimal x c → Known slots budget z s → IsRight slots budget z s (made slots budget z verdicts.Optimal x c)
optimal_right slots budget z s x c e known = subst (λ s. IsRight slots budget z s (made slots budget z verdicts.Optimal x c)) (sym e) (from (subst (Known slots budget z) e known))
  where
    from : Known slots budget z (answers.Optimal x c) → IsRight slots budget z (answers.Optimal x c) (made slots budget z verdicts.Optimal x c)
    from k = record {
      valid = valid_made slots budget z verdicts.Optimal x c k.valid k.slots_fit k.some k.budget_fits k.vector.one_a_column tt k.shaped k.few k.within;
      holds = record { tree_shaped = k.shaped; verdict_holds = (k.vector.feasible, k.proved) };
      says = record { slots_are = refl; budget_is = refl; program = refl; verdict_is = refl; vector = refl; tree_is = refl };
    }

pub feasible_right : (slots budget : ℕ) (z : ZeroOne) (s : Solved) (x : Assignment) (c : Cert) → s ≡ answers.Feasible x c → Known slots budget z s → IsRight slots budget z s (made slots budget z verdicts.Feasible x c)
feasible_right slots budget z s x c e known = subst (λ s. IsRight slots budget z s (made slots budget z verdicts.Feasible x c)) (sym e) (from (subst (Known slots budget z) e known))
  where
    from : Known slots budget z (answers.Feasible x c) → IsRight slots budget z (answers.Feasible x c) (made slots budget z verdicts.Feasible x c)
    from k = record {
      valid = valid_made slots budget z verdicts.Feasible x c k.valid k.slots_fit k.some k.budget_fits k.vector.one_a_column tt k.shaped k.few k.within;
      holds = record { tree_shaped = k.shaped; verdict_holds = (k.vector.feasible, k.cut_off) };
      says = record { slots_are = refl; budget_is = refl; program = refl; verdict_is = refl; vector = refl; tree_is = refl };
    }

blank_zeros : (x : Assignment) (n : ℕ) → x.on.items ≡ replicate n false → All (λ v. v ≡ false) x.on.items
blank_zeros x n e = subst (All (λ v. v ≡ false)) (sym e) (All-replicate (λ v. v ≡ false) n false refl)

pub infeasible_right : (slots budget : ℕ) (z : ZeroOne) (s : Solved) (x : Assignment) (c : Cert) → s ≡ answers.Infeasible c → x.on.items ≡ replicate (columns z) false → Known slots budget z s → IsRight slots budget z s (made slots budget z verdicts.Infeasible x c)
infeasible_right slots budget z s x c e zero known = subst (λ s. IsRight slots budget z s (made slots budget z verdicts.Infeasible x c)) (sym e) (from (subst (Known slots budget z) e known))
  where
    from : Known slots budget z (answers.Infeasible c) → IsRight slots budget z (answers.Infeasible c) (made slots budget z verdicts.Infeasible x c)
    from k = record {
      valid = valid_made slots budget z verdicts.Infeasible x c k.valid k.slots_fit k.some k.budget_fits (ap length zero ∙ length-replicate (columns z) false) (blank_zeros x (columns z) zero) k.shaped k.few k.within;
      holds = record { tree_shaped = k.shaped; verdict_holds = k.proved };
      says = record { slots_are = refl; budget_is = refl; program = refl; verdict_is = refl; vector = tt; tree_is = refl };
    }

pub spent_right : (slots budget : ℕ) (z : ZeroOne) (s : Solved) (x : Assignment) (c : Cert) → s ≡ answers.Spent c → x.on.items ≡ replicate (columns z) false → Known slots budget z s → IsRight slots budget z s (made slots budget z verdicts.Spent x c)
spent_right slots budget z s x c e zero known = subst (λ s. IsRight slots budget z s (made slots budget z verdicts.Spent x c)) (sym e) (from (subst (Known slots budget z) e known))
  where
    from : Known slots budget z (answers.Spent c) → IsRight slots budget z (answers.Spent c) (made slots budget z verdicts.Spent x c)
    from k = record {
      valid = valid_made slots budget z verdicts.Spent x c k.valid k.slots_fit k.some k.budget_fits (ap length zero ∙ length-replicate (columns z) false) (blank_zeros x (columns z) zero) k.shaped k.few k.within;
      holds = record { tree_shaped = k.shaped; verdict_holds = k.cut_off };
      says = record { slots_are = refl; budget_is = refl; program = refl; verdict_is = refl; vector = tt; tree_is = refl };
    }

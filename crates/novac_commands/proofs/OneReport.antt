-- A report's text decides what `check` answers.
use Rattle.std.proofs.Common.{◌≡◌, ℕ, ◌⊎◌, inl, inr, List, Ok, Err, refl, ap, sym, ◌∙◌, subst}
use Rattle.zo_model.specs.declared.error.ZoError.TheVariants.{Bad}
use Rattle.zo_model.specs.Program.{vector, costs_of, Feasible}
use Rattle.zo_cert.specs.Certificate.{Holds}
use Rattle.zo_cert.specs.Contents.{ReportContents, report_contents}
use Rattle.zo_cert.specs.Report.{IsTrueReport}
use Rattle.zo_cert_tree.specs.declared.cert.Claim.TheVariants.{Least, Nothing}
use Rattle.zo_cert.specs.declared.report.Report.{Report}
use Rattle.zo_cert.specs.declared.report.Verdict.{Verdict}
use Rattle.zo_cert.specs.declared.report.Verdict.TheVariants as verdict
use Rattle.zo_cert.proofs.ReportAnswers.{given_answer, bad_answer}
use Rattle.zo_cert.proofs.SameReports.{truth_same}
use Rattle.nova_back.specs.Causes.{report_cost}
use Rattle.novac_commands.specs.Checking.{IsReportOf, IsChecked, CheckRefuses, Shown, verdict_text}
use Rattle.novac_words.specs.Lines.{IsUncaused}
use Rattle.novac_words.specs.declared.refusal.Refusal.{Refusal}
use Rattle.novac_words.specs.declared.refusal.Refusal.TheVariants.{BadReport, FalseReport}
use Rattle.novac_words.specs.declared.status.Status.{Status}

reports-one : (b : List ℕ) (r r' : Report) → IsReportOf b r → IsReportOf b r' → report_contents r ≡ report_contents r'
reports-one b r r' h k = given_answer b (Ok r) h.report h.spelled tt (report_contents r') k.report k.spelled

unspelled : (b : List ℕ) (r : Report) (n : ℕ) → IsReportOf b r → CheckRefuses b (BadReport n) → ⊥
unspelled b r n h f = bad_answer b (Ok r) h.report h.spelled tt n f

pub check-one : (b : List ℕ) (e e' : Refusal) → CheckRefuses b e → CheckRefuses b e' → e ≡ e'
check-one b (BadReport n) (BadReport m) h k = ap (λ (x : ℕ). BadReport x) (bad_answer b (Err (Bad n)) tt tt h m k)
check-one b (BadReport n) FalseReport h k = absurd (unspelled b k.0 n k.1 h)
check-one b (BadReport n) _ h k = absurd k
check-one b FalseReport (BadReport n) h k = absurd (unspelled b h.0 n h.1 k)
check-one b FalseReport FalseReport h k = refl
check-one b FalseReport _ h k = absurd k
check-one b _ e' h k = absurd h

pub check-good : (b : List ℕ) (s : Status) (t : List ℕ) (e : Refusal) → IsChecked b s t → CheckRefuses b e → ⊥
check-good b s t (BadReport n) h k = unspelled b h.r n h.is_of k
check-good b s t FalseReport h k = k.2 (truth_same h.r k.0 (reports-one b h.r k.0 h.is_of k.1) h.is_true)
check-good b s t _ h k = k

pub checked-one : (b : List ℕ) (s s' : Status) (t t' : List ℕ) → IsChecked b s t → IsChecked b s' t' → (s ≡ s') × (t ≡ t')
checked-one b s s' t t' h k =
    let same = reports-one b h.r k.r h.is_of k.is_of in
    let line : ReportContents → List ℕ = λ r. verdict_text r.verdict (costs_of r.program.costs (vector r.on)) in
    (h.done ∙ sym k.done, h.line ∙ ap line same ∙ sym k.line)

-- a report that isn't true is refused
pub pass-truth : (b : List ℕ) (r : Report) (e : Refusal) → IsReportOf b r → IsUncaused e ⊎ ((e ≡ FalseReport) × ¬ IsTrueReport r) → IsUncaused e ⊎ CheckRefuses b e
pass-truth b r e h (inl u) = inl u
pass-truth b r e h (inr f) = inr (subst (CheckRefuses b) (sym f.0) (r, h, f.1))

-- a true report shows what its verdict says
pub true-shown : (v : Verdict) (r : Report) → (v ≡ verdict.Optimal → Feasible r.z (vector r.x.on.items)) → (v ≡ verdict.Optimal → Holds r.z (Least (report_cost r))) → (v ≡ verdict.Infeasible → Holds r.z Nothing) → Shown v r
true-shown verdict.Optimal r meets least nothing = (meets refl, least refl)
true-shown verdict.Feasible r meets least nothing = tt
true-shown verdict.Infeasible r meets least nothing = nothing refl
true-shown verdict.Spent r meets least nothing = tt

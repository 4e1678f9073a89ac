-- The form, the banks and the code of a program, through all passes.
use Rattle.std.proofs.Common.{◌≡◌, ℕ, ◌+◌, ◌*◌, ◌<◌, ◌≤◌, ◌^◌, ◌⊎◌, inl, inr, Bool, true, ◌&&◌, List, Option, None, Some, length, refl, sym, subst, ◌∙◌, arith}
use Rattle.std.specs.Prelude.{slice_get}
use Rattle.std.specs.List.{list_all}
use Rattle.std.proofs.Math.Nat.{le_trans}
use Rattle.std.proofs.lemmas.Bool.{and_parts}
use Rattle.nv_ast.specs.Sizes.{expanded_size, main_words, room}
use Rattle.nv_ast.specs.Tree.{ProgramTree}
use Rattle.nv_base.specs.Meanings.{KeepsOutcomes}
use Rattle.nv_base.specs.Measures.{IsAtMost, of_size}
use Rattle.nv_base.proofs.MemoryLemmas.{seen_follows}
use Rattle.nv_base.proofs.Same.{keeps-trans}
use Rattle.nv_meaning.specs.Meaning.{source}
use Rattle.nv_meaning.proofs.Follows.{source-follows}
use Rattle.flat_ir.specs.Bulk.{bulk, main_bulk}
use Rattle.flat_ir.specs.Formed.{agree, all_raised, is_function, is_main, is_program}
use Rattle.flat_ir.specs.Meaning.{flat_meaning}
use Rattle.flat_ir.specs.Reached.{params_in}
use Rattle.flat_ir.specs.Wide.{wide}
use Rattle.flat_ir.specs.declared.flat.FlatFun.{FlatFun}
use Rattle.ssu_ir.specs.Meaning.{ssu_meaning, ssu_params}
use Rattle.ssu_ir.specs.Measures.{peak, size, code_bound}
use Rattle.ssu_ir.specs.Single.{single}
use Rattle.ssu_ir.specs.Tree.{Label}
use Rattle.ssu_make.specs.Bounds.{size_bound, length_bound}
use Rattle.nova_middle.proofs.SourceBounds.{size_end, code_end}
use Rattle.nova_middle.specs.Reduced.{IsMadeOfReduced}
use Rattle.bank_prog_form.specs.Columns.{columns}
use Rattle.bank_prog_form.specs.Program.{rows, IsTooLarge}
use Rattle.uc_isa.specs.Code.{CodeView}
use Rattle.uc_isa.specs.Moves.{moves}
use Rattle.uc_isa.proofs.Through.{agrees-through}
use Rattle.zo_model.specs.Program.{vector, cost_of, Feasible, IsValid}
use Rattle.zo_cert.specs.Report.{VerdictHolds}
use Rattle.zo_cert_tree.specs.declared.cert.Claim.TheVariants.{Least, Nothing}
use Rattle.zo_cert.specs.declared.report.Report.{Report}
use Rattle.zo_cert.specs.declared.report.Verdict.{Verdict}
use Rattle.zo_cert.specs.declared.report.Verdict.TheVariants as verdict
use Rattle.zo_cert_tree.proofs.Duality.{proves_holds}
use Rattle.nova_back.proofs.Cheapest.{cheapest-of, none-fits}
use Rattle.nova_back.specs.Causes.{IsCodeOf, AreStartsOf, IsReportOn, IsCheapFor, IsWithout, HasLargeProgram, IsCause, IsLong, HasVector, report_cost}
use Rattle.nova_back.specs.declared.error.BackError.{BackError}
use Rattle.nova_back.specs.declared.error.BackError.TheVariants as back
use Rattle.nova_compile.specs.Building.{IsFormCause}
use Rattle.nova_compile.specs.Forms.{form_bound, IsCodeFor, IsBoundedFormOf, HasBanks, HasLargeBanks, HasNoBanks, HasLongCode}
use Rattle.nova_compile.specs.inner.Passing.{IsHandedAs}
use Rattle.nova_compile.specs.declared.build.CompileError.{CompileError}
use Rattle.nova_compile.specs.declared.build.CompileError.TheVariants as compile

-- ---- a program's main counts, so its size is at least 1

main-counts : (funs : List FlatFun) (o : Option FlatFun) (e : ℕ) → is_main funs o ≡ true → IsAtMost (main_bulk funs o) (of_size e) → 1 ≤ e
main-counts funs (Some f) e h most = let labels = most.labels in omega arith
main-counts funs None e h most = absurd cc

some-size : (funs : List FlatFun) (main e : ℕ) → is_program funs main ≡ true → IsAtMost (bulk funs main) (of_size e) → 1 ≤ e
some-size funs main e h most =
    let later = (and_parts (list_all (is_function funs) funs) (agree (all_raised funs) && is_main funs (slice_get funs main)) h).1 in
    main-counts funs (slice_get funs main) e ((and_parts (agree (all_raised funs)) (is_main funs (slice_get funs main)) later).1) most

eight : (n : ℕ) → 8 ≤ n + 8
eight n = omega arith

roomy : (p : ProgramTree) → 8 ≤ room p
roomy p = eight _

-- ---- the form

pub form-of : (p : ProgramTree) (funs : List FlatFun) (main : ℕ) (labels : List Label) → is_program funs main ≡ true
    → KeepsOutcomes (main_words p) (params_in funs main) (source p) (flat_meaning funs main) → wide funs main ≤ room p → IsAtMost (bulk funs main) (of_size (expanded_size p))
    → single labels ≡ true → KeepsOutcomes (params_in funs main) (ssu_params labels) (flat_meaning funs main) (ssu_meaning labels) → peak labels ≤ wide funs main → size labels ≤ size_bound (wide funs main) (bulk funs main)
    → code_bound labels ≤ length_bound (wide funs main) (bulk funs main) → IsMadeOfReduced labels → IsBoundedFormOf p labels
form-of p funs main labels formed kept narrow most once later held bounded coded made = record {
  form = record { used_once = once; kept = keeps-trans (main_words p) (params_in funs main) (ssu_params labels) (source p) (flat_meaning funs main) (ssu_meaning labels) kept later };
  made = made;
  narrow = le_trans held narrow;
  small = le_trans bounded (size_end (expanded_size p) (room p) (wide funs main) (bulk funs main) (some-size funs main (expanded_size p) formed most) (roomy p) narrow most);
  brief = le_trans coded (code_end (expanded_size p) (room p) (wide funs main) (bulk funs main) (some-size funs main (expanded_size p) formed most) (roomy p) narrow most);
}

-- ---- its code

pub code-for : (p : ProgramTree) (labels : List Label) (slots : ℕ) (c : CodeView) → IsBoundedFormOf p labels → IsCodeOf labels slots c → IsCodeFor p c
code-for p labels slots c form code = record {
  lawful = code.lawful;
  agrees = agrees-through (main_words p) (ssu_params labels) (source p) (ssu_meaning labels) c form.form.kept (λ args m words sizes. seen_follows m (source p args m) (source-follows p args m)) code.agrees;
}

-- ---- its banks

found-meets : (v : Verdict) (r : Report) → HasVector v → VerdictHolds v r → Feasible r.z (vector r.x.on.items)
found-meets verdict.Optimal r found h = h.0
found-meets verdict.Feasible r found h = h.0
found-meets verdict.Infeasible r found h = absurd found
found-meets verdict.Spent r found h = absurd found

optimal-least : (v : Verdict) (r : Report) → v ≡ verdict.Optimal → IsValid r.z → VerdictHolds v r → (x : ℕ → Bool) → Feasible r.z x → report_cost r ≤ cost_of r.z x
optimal-least verdict.Optimal r e valid h = proves_holds r.z h.1.0 (Least (report_cost r)) valid h.1.2
optimal-least verdict.Feasible r e valid h = absurd cc
optimal-least verdict.Infeasible r e valid h = absurd cc
optimal-least verdict.Spent r e valid h = absurd cc

pub banks-of : (p : ProgramTree) (labels : List Label) (slots : ℕ) (ws : List ℕ) (budget : ℕ) (c : CodeView) (starts : List ℕ) (r : Report) → IsBoundedFormOf p labels → IsReportOn labels slots ws budget r → HasVector r.verdict
    → IsCodeOf labels slots c → AreStartsOf labels c starts → moves c.list starts ws ≤ report_cost r → (peak labels ≤ 15 → IsCheapFor labels ws (report_cost r)) → HasBanks p slots ws budget c starts r
banks-of p labels slots ws budget c starts r form report found code begin light cheap = record {
  form = labels;
  is_form = form;
  report = report;
  found = found;
  meets = found-meets r.verdict r found report.holds.verdict_holds;
  optimal = λ e. optimal-least r.verdict r e report.valid.program_valid report.holds.verdict_holds;
  cheapest = λ e. cheapest-of labels slots ws budget r form.form.used_once report (optimal-least r.verdict r e report.valid.program_valid report.holds.verdict_holds);
  form_code = code;
  labels_start = begin;
  light = light;
  cheap = cheap;
}

-- ---- why there is none

bounded-by : (n s b : ℕ) → n ≤ 64 * s → s ≤ b → n ≤ 64 * b
bounded-by n s b h le = omega (arith, h, le)

large : (p : ProgramTree) (labels : List Label) (slots n : ℕ) → IsBoundedFormOf p labels → HasLargeProgram labels slots n → HasLargeBanks p slots n
large p labels slots n form h = record { form = labels; is_form = form; large = h.0; bounded = bounded-by n (size labels) (form_bound p) h.1 form.small }

pub fewer : (s k r : ℕ) → s < k → k ≤ r → s < r
fewer s k r lt le = omega arith

infeasible-none : (v : Verdict) (r : Report) → v ≡ verdict.Infeasible → IsValid r.z → VerdictHolds v r → (x : ℕ → Bool) → Feasible r.z x → ⊥
infeasible-none verdict.Optimal r e valid h = absurd cc
infeasible-none verdict.Feasible r e valid h = absurd cc
infeasible-none verdict.Infeasible r e valid h = proves_holds r.z h.0 Nothing valid h.2
infeasible-none verdict.Spent r e valid h = absurd cc

without : (p : ProgramTree) (labels : List Label) (slots : ℕ) (ws : List ℕ) (budget : ℕ) (v : Verdict) (r : Report) → IsBoundedFormOf p labels → IsWithout labels slots ws budget v r → HasNoBanks p slots ws budget v r
without p labels slots ws budget v r form h = record {
  form = labels;
  is_form = form;
  without = h;
  none = λ e. none-fits labels slots ws budget r form.form.used_once h.report (infeasible-none r.verdict r (h.says ∙ e) h.report.valid.program_valid h.report.holds.verdict_holds);
  few_slots = fewer slots (peak labels) (room p) h.over_slots form.narrow;
}

-- no number of columns or rows is too large
abbrev pub NoneLarge : List Label → ℕ → Type 0
NoneLarge labels slots = (n : ℕ) → IsTooLarge labels slots n → ⊥

at-most : (n k : ℕ) → (k < n → ⊥) → n ≤ k
at-most n k h = omega (arith, h)

columns-few : (labels : List Label) (slots : ℕ) → NoneLarge labels slots → length (columns labels) ≤ 2 ^ 26
columns-few labels slots none = at-most (length (columns labels)) (2 ^ 26) (λ many. none (length (columns labels)) (inl (refl, many)))

rows-few : (labels : List Label) (slots : ℕ) → NoneLarge labels slots → length (rows labels slots) ≤ 2 ^ 26
rows-few labels slots none = at-most (length (rows labels slots)) (2 ^ 26) (λ many. none (length (rows labels slots)) (inr (columns-few labels slots none, (refl, many))))

long : (p : ProgramTree) (labels : List Label) (slots : ℕ) (ws : List ℕ) (budget store n : ℕ) → IsBoundedFormOf p labels → NoneLarge labels slots → IsLong labels slots ws budget store n → HasLongCode p slots ws budget store n
unfolding banks-of
long p labels slots ws budget store n form none h = record {
  r = h.r;
  c = h.c;
  starts = h.starts;
  code = code-for p labels slots h.c form h.code.code;
  banks = banks-of p labels slots ws budget h.c h.starts h.r form h.code.report h.code.found h.code.code h.code.labels_start h.code.light h.code.cheap;
  placed = h.placed;
  few = columns-few labels slots none;
  few_rows = rows-few labels slots none;
  counted = h.counted;
  bounded = le_trans h.bounded form.brief;
  long = h.long;
}

-- what the back end says, as far as the size of the program of the banks decides it
abbrev pub SaysLarge : List Label → ℕ → BackError → Type 0
SaysLarge labels slots error = (n : ℕ) → IsTooLarge labels slots n → (error ≡ back.NoMemory) ⊎ (error ≡ back.TooLarge n)

not-long : (m n : ℕ) → (back.StoreFull m ≡ back.NoMemory) ⊎ (back.StoreFull m ≡ back.TooLarge n) → ⊥
not-long m n (inl e) = cc
not-long m n (inr e) = cc

none-given : (a b : BackError) (e : CompileError) → a ≡ b → IsHandedAs a e → IsHandedAs b e
none-given a b e is h = subst (λ (x : BackError). IsHandedAs x e) is h

pub back-caused : (p : ProgramTree) (labels : List Label) (slots : ℕ) (ws : List ℕ) (budget store : ℕ) (error : BackError) (e : CompileError) → IsBoundedFormOf p labels → SaysLarge labels slots error
    → (error ≡ back.NoMemory) ⊎ IsCause labels slots ws budget store error → IsHandedAs error e → (e ≡ compile.NoMemory) ⊎ IsFormCause p slots ws budget store e
back-caused p labels slots ws budget store error e form says (inl none) is = inl (none-given error back.NoMemory e none is)
back-caused p labels slots ws budget store back.NoMemory e form says (inr h) is = absurd h
back-caused p labels slots ws budget store (back.TooLarge n) e form says (inr h) is = inr (subst (IsFormCause p slots ws budget store) (sym is) (large p labels slots n form h))
back-caused p labels slots ws budget store (back.Infeasible r) e form says (inr h) is = inr (subst (IsFormCause p slots ws budget store) (sym is) (without p labels slots ws budget verdict.Infeasible r form h))
back-caused p labels slots ws budget store (back.Spent r) e form says (inr h) is = inr (subst (IsFormCause p slots ws budget store) (sym is) (without p labels slots ws budget verdict.Spent r form h))
back-caused p labels slots ws budget store (back.StoreFull n) e form says (inr h) is =
    inr (subst (IsFormCause p slots ws budget store) (sym is) (long p labels slots ws budget store n form (λ k large. not-long n k (says k large)) h))

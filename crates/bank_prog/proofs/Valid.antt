-- The program of the banks has its limits under weights too: it has the rows of the program where every label weighs 1, and as many columns.
use Rattle.std.proofs.Common.{◌≡◌, ℕ, ◌^◌, ◌<◌, ◌≤◌, true, List, length, All, sym, subst, ◌∙◌, arith}
use Rattle.std.proofs.lemmas.List.{length-map}
use Rattle.std.proofs.lemmas.List.Elements.{All-map}
use Rattle.std.proofs.lemmas.Nat.{mul-le}
use Rattle.ssu_ir.specs.Single.{single}
use Rattle.ssu_ir.specs.Tree.{Label}
use Rattle.place_plan.proofs.Spilled.{each-all, each-weaker}
use Rattle.place_plan.specs.ByLabel.{label_from}
use Rattle.place_weights.specs.Weighted.{AreWeights}
use Rattle.place_plan.specs.Weighted.{point_weight}
use Rattle.place_weights.proofs.Bounds.{weight-bounds}
use Rattle.zo_model.specs.declared.program.ZeroOne.{ZeroOne}
use Rattle.zo_model.specs.Contents.{contents}
use Rattle.zo_model.specs.Program.{IsValid}
use Rattle.zo_model.specs.ProgramText.{IsRowText, IsValidContents}
use Rattle.zo_model.proofs.ExactLemmas.{valid_from_contents}
use Rattle.bank_prog_form.specs.Columns.{Priced, priced, columns, costs}
use Rattle.bank_prog_form.specs.Program.{bank_program, rows}
use Rattle.bank_prog_rows.proofs.PlainLines.{IsCheap, all-cheap, mapped-each, program-fits}
use Rattle.bank_prog.specs.Weighted.{column_point, weigh, weighted, weighted_costs, weighted_program}

pub costs-small : (labels : List Label) → All (λ (p : Priced). p.1 ≤ 33) (priced labels)
costs-small labels = each-all IsCheap (priced labels) (all-cheap labels)

-- ---- under weights

weighed-fits : (labels : List Label) (ws : List ℕ) (p : Priced) → AreWeights ws → IsCheap p → (weigh labels ws p).1 < 2 ^ 20
weighed-fits labels ws p w h =
    let m = mul-le p.1 (point_weight labels ws (column_point labels p.0)) 33 1023 h (weight-bounds ws (label_from 0 0 labels (column_point labels p.0)) w).1 in
    omega (arith, m)

costs-fit : (labels : List Label) (ws : List ℕ) → AreWeights ws → All (λ c. c < 2 ^ 20) (weighted_costs labels ws)
costs-fit labels ws w =
    All-map (λ c. c < 2 ^ 20) (λ (p : Priced). p.1) (weighted labels ws)
    (each-all (λ (p : Priced). p.1 < 2 ^ 20) (weighted labels ws)
    (mapped-each (λ (p : Priced). p.1 < 2 ^ 20) (weigh labels ws) (priced labels) (each-weaker IsCheap (λ (p : Priced). (weigh labels ws p).1 < 2 ^ 20) (priced labels) (λ p h. weighed-fits labels ws p w h) (all-cheap labels))))

as-many : (labels : List Label) (ws : List ℕ) → length (weighted_costs labels ws) ≡ length (costs labels)
as-many labels ws =
    length-map (weighted labels ws) (λ (p : Priced). p.1) ∙ length-map (priced labels) (weigh labels ws) ∙ sym (length-map (priced labels) (λ (p : Priced). p.1))

weighted-fits : (labels : List Label) (slots : ℕ) (ws : List ℕ) → IsValidContents (bank_program labels slots) → AreWeights ws → IsValidContents (weighted_program labels slots ws)
weighted-fits labels slots ws plain w =
    let many = as-many labels ws in
    let fits = plain.columns_fit in
    record {
      columns_fit = omega (arith, fits, many);
      rows_fit = plain.rows_fit;
      costs_fit = costs-fit labels ws w;
      rows_ok = subst (λ n. All (IsRowText n) (rows labels slots)) (sym many) plain.rows_ok;
    }

pub weighted-valid : (z : ZeroOne) (labels : List Label) (slots : ℕ) (ws : List ℕ) → contents z ≡ weighted_program labels slots ws → single labels ≡ true → slots ≤ 128 → length (columns labels) ≤ 2 ^ 26 → length (rows labels slots) ≤ 2 ^ 26 → AreWeights ws → IsValid z
weighted-valid z labels slots ws e s l n m w = valid_from_contents z (subst IsValidContents (sym e) (weighted-fits labels slots ws (program-fits labels slots s l n m) w))

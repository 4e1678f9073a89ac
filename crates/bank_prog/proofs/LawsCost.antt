-- What a vector costs, by the columns' names.
use Rattle.std.proofs.Common.{◌≡◌, ℕ, zero, suc, ◌+◌, ◌*◌, Bool, true, if◌then◌else◌, List, [], ◌∷◌, map, length, Some, refl, sym, ap, ◌∙◌, arith}
use Rattle.ssu_ir.specs.Tree.{Label}
use Rattle.ssu_ir.specs.Single.{single}
use Rattle.place_plan.proofs.Sound.{Each}
use Rattle.zo_model.specs.declared.program.ZeroOne.{ZeroOne}
use Rattle.zo_model.specs.Contents.{contents}
use Rattle.zo_model.specs.Program.{cost_where, cost_below, costs_of, cost_of}
use Rattle.bank_prog_form.specs.declared.column.Column.{Column}
use Rattle.bank_prog_form.specs.Columns.{Priced, priced, costs}
use Rattle.bank_prog.specs.Meaning.{Chosen, number_on, on, named_cost}
use Rattle.bank_prog.specs.Weighted.{weigh, weighted, weighted_costs, weighted_program}
use Rattle.bank_prog_form.specs.Program.{Numbers, number_in, number_of}
use Rattle.bank_prog_rows.proofs.Distinct.{Apart, Distinct}
use Rattle.bank_prog_rows.proofs.Families.{priced-distinct}
use Rattle.bank_prog_form.proofs.Itself.{column-itself}

-- ---- the columns are on as the vector says

abbrev Says : Chosen → (ℕ → Bool) → List Priced → Type 0
Says on y [] = Unit {0}
Says on y (p ∷ ps) = (on p.0 ≡ y 0) × Says on (λ i. y (suc i)) ps

-- a column's number is the one that it has among these, counted from j
abbrev Found : Numbers → ℕ → List Priced → Priced → Type 0
Found number j ps p = number p.0 ≡ number_in j (map (λ c. c.0) ps) p.0

found-later : (number : Numbers) (j : ℕ) (p : Priced) (ps qs : List Priced) → Each (Apart p) qs → Each (Found number j (p ∷ ps)) qs → Each (Found number (suc j) ps) qs
found-later number j p ps [] d h = tt
found-later number j p ps (q ∷ qs) d h = (
  h.0 ∙ ap (λ b. if b then Some j else number_in (suc j) (map (λ c. c.0) ps) q.0) d.0,
  found-later number j p ps qs d.1 h.1,
)

says : (number : Numbers) (x y : ℕ → Bool) (j : ℕ) (ps : List Priced) → ((i : ℕ) → y i ≡ x (j + i)) → Distinct ps → Each (Found number j ps) ps → Says (λ c. number_on x (number c)) y ps
says number x y j [] s d h = tt
says number x y j (p ∷ ps) s d h =
    let zeroth : j ≡ j + 0 = omega arith in (
      ap (number_on x) (h.0 ∙ ap (λ b. if b then Some j else number_in (suc j) (map (λ c. c.0) ps) p.0) (column-itself p.0)) ∙ ap x zeroth ∙ sym (s 0),
      says number x (λ i. y (suc i)) (suc j) ps (λ i. let n : j + suc i ≡ suc j + i = omega arith in s (suc i) ∙ ap x n) d.1 (found-later number j p ps ps d.0 h.1),
    )

found-all : (number : Numbers) (j : ℕ) (ps qs : List Priced) → ((c : Column) → number c ≡ number_in j (map (λ c. c.0) ps) c) → Each (Found number j ps) qs
found-all number j ps [] h = tt
found-all number j ps (q ∷ qs) h = (h q.0, found-all number j ps qs h)

-- ---- sums

first-cost : (n c : ℕ) (cs : List ℕ) (y : ℕ → Bool) → cost_below (suc n) (c ∷ cs) y ≡ cost_where (y 0) c + cost_below n cs (λ i. y (suc i))
first-cost zero c cs y = omega arith
first-cost (suc n) c cs y =
    let h = first-cost n c cs y in
    omega (arith, h)

named-sum : (on : Chosen) (y : ℕ → Bool) (ps : List Priced) → Says on y ps → costs_of (map (λ c. c.1) ps) y ≡ named_cost on ps
named-sum on y [] h = refl
named-sum on y (p ∷ ps) h =
    first-cost (length (map (λ c. c.1) ps)) p.1 (map (λ c. c.1) ps) y ∙ ap (λ b. cost_where b p.1 + costs_of (map (λ c. c.1) ps) (λ i. y (suc i))) (sym h.0)
    ∙ ap (λ n. cost_where (on p.0) p.1 + n) (named-sum on (λ i. y (suc i)) ps h.1)

says-all : (labels : List Label) (x : ℕ → Bool) → single labels ≡ true → Says (on labels x) x (priced labels)
says-all labels x s =
    let ps = priced labels in
    says (number_of labels) x x 0 ps (λ i. let n : i ≡ 0 + i = omega arith in ap x n) (priced-distinct labels s) (found-all (number_of labels) 0 ps ps (λ c. refl))

pub costs-by-name : (labels : List Label) (x : ℕ → Bool) → single labels ≡ true → costs_of (costs labels) x ≡ named_cost (on labels x) (priced labels)
costs-by-name labels x s = named-sum (on labels x) x (priced labels) (says-all labels x s)

-- ---- under weights

-- weights leave the columns as they are
says-weighed : (labels : List Label) (ws : List ℕ) (on : Chosen) (y : ℕ → Bool) (ps : List Priced) → Says on y ps → Says on y (map (weigh labels ws) ps)
says-weighed labels ws on y [] h = tt
says-weighed labels ws on y (p ∷ ps) h = (h.0, says-weighed labels ws on (λ i. y (suc i)) ps h.1)

pub weighted-by-name : (labels : List Label) (ws : List ℕ) (x : ℕ → Bool) → single labels ≡ true → costs_of (weighted_costs labels ws) x ≡ named_cost (on labels x) (weighted labels ws)
weighted-by-name labels ws x s = named-sum (on labels x) x (weighted labels ws) (says-weighed labels ws (on labels x) x (priced labels) (says-all labels x s))

weighed-once : (labels : List Label) (ps : List Priced) → map (λ c. c.1) (map (weigh labels []) ps) ≡ map (λ c. c.1) ps
weighed-once labels [] = refl
weighed-once labels (p ∷ ps) = let one : p.1 * 1 ≡ p.1 = omega arith in ap (λ n. n ∷ map (λ c. c.1) (map (weigh labels []) ps)) one ∙ ap (λ ns. p.1 ∷ ns) (weighed-once labels ps)

pub weights-of-one : (labels : List Label) → weighted_costs labels [] ≡ costs labels
weights-of-one labels = weighed-once labels (priced labels)

pub cost-by-name : (z : ZeroOne) (labels : List Label) (slots : ℕ) (ws : List ℕ) (x : ℕ → Bool) → single labels ≡ true → contents z ≡ weighted_program labels slots ws → cost_of z x ≡ named_cost (on labels x) (weighted labels ws)
cost-by-name z labels slots ws x s e = ap (λ cs. costs_of cs x) (ap (λ c. c.costs) e) ∙ weighted-by-name labels ws x s

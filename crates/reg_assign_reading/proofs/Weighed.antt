-- What a vector costs under weights, label by label.
use Rattle.std.proofs.Common.{◌≡◌, ℕ, zero, suc, ◌+◌, ◌*◌, ◌<◌, ◌≤◌, Bool, true, false, List, [], ◌∷◌, length, map, refl, ap, ◌∙◌, arith}
use Rattle.std.proofs.Math.Nat.{mul-le-mul_right}
use Rattle.ssu_ir.specs.Tree.{Label}
use Rattle.ssu_ir.specs.Single.{single}
use Rattle.place_plan.specs.Plan.{Plan}
use Rattle.place_plan.proofs.Slotted.{each-any}
use Rattle.zo_model.specs.Program.{cost_where, costs_of}
use Rattle.place_plan.specs.ByLabel.{label_from, label_cost}
use Rattle.place_weights.specs.Weighted.{weight_of}
use Rattle.place_plan.specs.Weighted.{weighted_cost, labels_weighted}
use Rattle.place_plan.proofs.Labels.{weighted_within, label_most}
use Rattle.place_plan.proofs.Summed.{summed, weighed, those, by_labels, by_each}
use Rattle.bank_prog_form.specs.Columns.{Priced, priced}
use Rattle.bank_prog.specs.Weighted.{column_point, weigh, weighted_costs}
use Rattle.bank_prog.specs.Meaning.{Chosen, on, named_cost}
use Rattle.bank_prog.proofs.LawsCost.{weighted-by-name}
use Rattle.reg_assign_reading.specs.ByLabel.{label_price}

-- what a column costs, if it is on
abbrev cost_on : Chosen → Priced → ℕ
cost_on on c = cost_where (on c.0) c.1

-- the label of a column
abbrev column_label : List Label → Priced → ℕ
column_label labels c = label_from 0 0 labels (column_point labels c.0)

times-where : (b : Bool) (a w : ℕ) → cost_where b (a * w) ≡ cost_where b a * w
times-where true a w = refl
times-where false a w = omega arith

named-weighed : (labels : List Label) (ws : List ℕ) (on : Chosen) (cs : List Priced) → named_cost on (map (weigh labels ws) cs) ≡ weighed (cost_on on) (column_label labels) (weight_of ws) cs
named-weighed labels ws on [] = refl
named-weighed labels ws on (c ∷ cs) =
    ap (λ n. n + named_cost on (map (weigh labels ws) cs)) (times-where (on c.0) c.1 (weight_of ws (column_label labels c)))
    ∙ ap (λ n. cost_on on c * weight_of ws (column_label labels c) + n) (named-weighed labels ws on cs)

named-summed : (on : Chosen) (cs : List Priced) → named_cost on cs ≡ summed (cost_on on) cs
named-summed on [] = refl
named-summed on (c ∷ cs) = ap (λ n. cost_on on c + n) (named-summed on cs)

-- the sum over all labels, and the number after the last one
price-by-labels : (labels : List Label) (ws : List ℕ) (x : ℕ → Bool) → single labels ≡ true
    → costs_of (weighted_costs labels ws) x ≡ by_labels (cost_on (on labels x)) (column_label labels) (weight_of ws) 0 (suc (length labels)) (priced labels)
price-by-labels labels ws x s =
    weighted-by-name labels ws x s ∙ named-weighed labels ws (on labels x) (priced labels)
    ∙ by_each (cost_on (on labels x)) (column_label labels) (weight_of ws) (suc (length labels)) (priced labels)
    (each-any (λ c. column_label labels c < suc (length labels)) (priced labels) (λ c. let h = label_most 0 0 labels (column_point labels c.0) in omega (arith, h)))

label-sum : (labels : List Label) (x : ℕ → Bool) (l : ℕ) → label_price labels l x ≡ summed (cost_on (on labels x)) (those (column_label labels) l (priced labels))
label-sum labels x l = named-summed (on labels x) (those (column_label labels) l (priced labels))

paid-each : (labels : List Label) (ws : List ℕ) (p : Plan) (x : ℕ → Bool) → ((l : ℕ) → label_cost labels l p ≤ label_price labels l x) → (l n : ℕ)
    → labels_weighted labels ws p l n ≤ by_labels (cost_on (on labels x)) (column_label labels) (weight_of ws) l n (priced labels)
paid-each labels ws p x h l zero = omega arith
paid-each labels ws p x h l (suc n) =
    let a = mul-le-mul_right (weight_of ws l) (h l) in
    let b = ap (λ k. k * weight_of ws l) (label-sum labels x l) in
    let c = paid-each labels ws p x h (suc l) n in
    omega (arith, a, b, c)

same-each : (labels : List Label) (ws : List ℕ) (p : Plan) (x : ℕ → Bool) → ((l : ℕ) → label_price labels l x ≡ label_cost labels l p) → (l n : ℕ)
    → by_labels (cost_on (on labels x)) (column_label labels) (weight_of ws) l n (priced labels) ≡ labels_weighted labels ws p l n
same-each labels ws p x h l zero = refl
same-each labels ws p x h l (suc n) =
    let a = ap (λ k. k * weight_of ws l) (h l) in
    let b = ap (λ k. k * weight_of ws l) (label-sum labels x l) in
    let c = same-each labels ws p x h (suc l) n in
    omega (arith, a, b, c)

-- what pays in each label pays under any weights
pub weighted-paid : (labels : List Label) (p : Plan) (x : ℕ → Bool) → single labels ≡ true → ((l : ℕ) → label_cost labels l p ≤ label_price labels l x) → (ws : List ℕ) → weighted_cost labels ws p ≤ costs_of (weighted_costs labels ws) x
weighted-paid labels p x s h ws =
    let a = weighted_within labels ws p (suc (length labels)) (omega arith) in
    let b = price-by-labels labels ws x s in
    let c = paid-each labels ws p x h 0 (suc (length labels)) in
    omega (arith, a, b, c)

pub weighted-same : (labels : List Label) (p : Plan) (x : ℕ → Bool) → single labels ≡ true → ((l : ℕ) → label_price labels l x ≡ label_cost labels l p) → (ws : List ℕ) → costs_of (weighted_costs labels ws) x ≡ weighted_cost labels ws p
weighted-same labels p x s h ws =
    let a = weighted_within labels ws p (suc (length labels)) (omega arith) in
    let b = price-by-labels labels ws x s in
    let c = same-each labels ws p x h 0 (suc (length labels)) in
    omega (arith, a, b, c)

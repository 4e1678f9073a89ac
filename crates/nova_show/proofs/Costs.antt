-- What some instructions cost, one after another.
use Rattle.std.proofs.Common.{◌≡◌, ℕ, ◌+◌, ◌*◌, ◌<◌, ◌≤◌, List, [], ◌∷◌, length, drop, get_or, if◌then◌else◌, Bool, true, false, refl, ap, ◌∙◌, arith}
use Rattle.std.specs.Prelude.{nat_le}
use Rattle.std.proofs.lemmas.List.{at_drop_more, drop_all}
use Rattle.uc_isa.specs.declared.instruction.Instr.{Instr}
use Rattle.uc_isa.specs.Moves.{weight, label_weight, moves}
use Rattle.uc_isa.specs.StraightCode.{weights}
use Rattle.uc_isa.proofs.Costs.{moves-level}

-- an instruction further
pub cost-turn : (list : List Instr) (i : ℕ) (x : Instr) (now new one : ℕ) → i < length list → x ≡ get_or list i x → weight x ≡ one → new ≡ now + one
    → now + weights (drop i list) ≡ weights list → new + weights (drop (i + 1) list) ≡ weights list
cost-turn list i x now new one h is w step before =
    let next : weights (drop i list) ≡ weight (get_or list i x) + weights (drop (i + 1) list) = at_drop_more weights list i x h in
    let same : weight x ≡ weight (get_or list i x) = ap weight is in
    omega (arith, next, same, w, step, before)

pub cost-done : (list : List Instr) (i now : ℕ) → length list ≤ i → now + weights (drop i list) ≡ weights list → weights list ≡ now
cost-done list i now h before =
    let none : weights (drop i list) ≡ 0 = ap weights (drop_all i list h) in
    omega (arith, none, before)

either-one : (b : Bool) → ◌≡◌ {A = ℕ} (if b then 1 else 1) 1
either-one true = refl
either-one false = refl

-- without weights each label weighs 1
ones : (place : ℕ) (starts : List ℕ) → label_weight 1 starts [] place ≡ 1
ones place [] = refl
ones place (s ∷ starts) = ap (λ n. label_weight n starts [] place) (either-one (nat_le s place)) ∙ ones place starts

pub even-cost : (list : List Instr) (starts : List ℕ) (now : ℕ) → weights list ≡ now → moves list starts [] ≡ now
even-cost list starts now h =
    let level : moves list starts [] ≡ weights list * 1 = moves-level 0 1 list starts [] (λ d lt. ones (0 + d) starts) in
    omega (arith, level, h)

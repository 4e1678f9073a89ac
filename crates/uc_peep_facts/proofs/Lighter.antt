-- Code whose instructions weigh no more, place by place.
use Rattle.std.proofs.Common.{◌≡◌, ℕ, suc, ◌+◌, ◌-◌, ◌*◌, ◌≤◌, List, [], ◌∷◌, length, Some, refl, sym, ap, subst, arith}
use Rattle.std.specs.Prelude.{slice_get}
use Rattle.uc_isa.specs.Moves.{label_weight, moves_from, weight}
use Rattle.uc_isa.specs.declared.instruction.Instr.{Instr}

add-mul : (a b c : ℕ) → (a + b) * c ≡ a * c + b * c
add-mul a b c = omega arith

mul-most : (a b c : ℕ) → a ≤ b → a * c ≤ b * c
mul-most a b c h =
    let e : a + (b - a) ≡ b = omega arith in
    let same : (a + (b - a)) * c ≡ b * c = ap (λ n. n * c) e in
    let parts = add-mul a (b - a) c in
    omega arith

some-instr : (i j : Instr) → Some i ≡ Some j → i ≡ j
some-instr i j e = cc

-- its moves cost no more
pub moves-lighter : (q : ℕ) (code draft : List Instr) (starts ws : List ℕ) → length draft ≡ length code
    → ((x : ℕ) (i : Instr) → slice_get code x ≡ Some i → (j : Instr) × (slice_get draft x ≡ Some j) × (weight j ≤ weight i)) → moves_from q draft starts ws ≤ moves_from q code starts ws
moves-lighter q [] [] starts ws size h = omega arith
moves-lighter q [] (j ∷ draft) starts ws size h = absurd (omega arith)
moves-lighter q (i ∷ code) [] starts ws size h = absurd (omega arith)
moves-lighter q (i ∷ code) (j ∷ draft) starts ws size h =
    let rest = moves-lighter (suc q) code draft starts ws (omega arith) (λ x k at. h (suc x) k at) in
    let k = h 0 i refl in
    let same : k.0 ≡ j = some-instr k.0 j (sym k.1) in
    let first = mul-most (weight j) (weight i) (label_weight 1 starts ws q) (subst (λ l. weight l ≤ weight i) same k.2) in
    omega arith

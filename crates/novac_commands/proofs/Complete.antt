-- A program whose sizes are small enough is compiled.
use Rattle.std.proofs.Common.{◌≡◌, ℕ, ◌*◌, ◌^◌, ◌<◌, ◌≤◌, inl, inr, List, [], ◌∷◌, Option, length, refl, subst, arith}
use Rattle.nv_ast.specs.Sizes.{room}
use Rattle.nv_ast.specs.Tree.{ProgramTree}
use Rattle.nv_outside.specs.Holding.{Holding}
use Rattle.ssu_ir.specs.Tree.{Label}
use Rattle.bank_prog_form.specs.Columns.{columns}
use Rattle.bank_prog_form.specs.Program.{rows, IsTooLarge}
use Rattle.nova_compile.proofs.OneSource.{source-program}
use Rattle.nv_generate.specs.Made.{made}
use Rattle.novac_words.specs.Command.{Compile}
use Rattle.novac_words.specs.Limits.{slots_limit, budget_default, store_limit}
use Rattle.novac_words.specs.declared.refusal.Refusal.{Refusal}
use Rattle.novac_words.specs.declared.refusal.Refusal.TheVariants.{SourceLarge, StoreFull}
use Rattle.novac_words.specs.declared.status.Status.{Status}
use Rattle.novac_words.specs.declared.status.Status.TheVariants as status
use Rattle.novac_commands.specs.Answers.{CanEnd}
use Rattle.nova_compile.specs.Forms.{form_bound, banks_bound, HasSmallBanks, HasLargeBanks}
use Rattle.novac_commands.specs.Generating.{IsSmallMade, GenRefuses}
use Rattle.novac_commands.specs.Compiling.{IsUnfit, IsEndOf, IsCompilable}

-- ---- how a compilation can't end

-- by the program of the banks
over : (n b m : ℕ) → n ≤ b → b ≤ m → m < n → ⊥
over n b m h k l = omega (arith, h, k, l)

over-part : (k n m : ℕ) → n ≡ k → k ≤ m → m < n → ⊥
over-part k n m e h l = omega (arith, e, h, l)

bounded-none : (n b : ℕ) (labels : List Label) (slots : ℕ) → n ≤ b → b ≤ 2 ^ 26 → IsTooLarge labels slots n → ⊥
bounded-none n b labels slots h k (inl many) = over n b (2 ^ 26) h k many.1
bounded-none n b labels slots h k (inr many) = over n b (2 ^ 26) h k many.1.1

fitting-none : (n : ℕ) (labels : List Label) (slots : ℕ) → length (columns labels) ≤ 2 ^ 26 → length (rows labels slots) ≤ 2 ^ 26 → IsTooLarge labels slots n → ⊥
fitting-none n labels slots h k (inl many) = over-part (length (columns labels)) n (2 ^ 26) many.0 h many.1
fitting-none n labels slots h k (inr many) = over-part (length (rows labels slots)) n (2 ^ 26) many.1.0 k many.1.1

none-large : (p : ProgramTree) (slots n : ℕ) → HasSmallBanks p slots → HasLargeBanks p slots n → ⊥
none-large p slots n (inl b) h = bounded-none n (banks_bound p) h.form slots h.bounded b h.large
none-large p slots n (inr f) h = let both = f h.form h.is_form in fitting-none n h.form slots both.0 both.1 h.large

-- for want of slots or of store
not-over : (a b : ℕ) → a ≤ b → b < a → ⊥
not-over a b h l = omega (arith, h, l)

end-done : (p : ProgramTree) (slots store : ℕ) (r : Status) → HasSmallBanks p slots → room p ≤ slots → form_bound p ≤ store → IsEndOf p slots store r → r ≡ status.Done
end-done p slots store status.Done small narrow brief h = refl
end-done p slots store status.TooLarge small narrow brief h = absurd (none-large p slots h.0 small h.1)
end-done p slots store status.Infeasible small narrow brief h = absurd (not-over (room p) slots narrow h)
end-done p slots store status.BudgetSpent small narrow brief h = absurd (not-over (room p) slots narrow h)
end-done p slots store status.StoreFull small narrow brief h = absurd (not-over (form_bound p) store brief h)
end-done p slots store _ small narrow brief h = absurd h

pub compiles : (old : Holding) (source object report : List ℕ) (slots budget store : ℕ) (weights : Option (List ℕ)) (g : List (List ℕ)) (r : Status) (can : IsCompilable old source slots store weights)
    → CanEnd (Compile source object report slots budget store weights) (can.text ∷ g) r → r ≡ status.Done
compiles old source object report slots budget store weights g r can e =
    let same = source-program can.text e.0 can.program e.1.is_source can.is_source.is_source in
    end-done can.program slots store r can.banks can.room_in_slots can.code_in_store (subst (λ p. IsEndOf p slots store r) same e.2)

-- ---- `gen`

small-code : (b n : ℕ) → 64 * b ≤ 2 ^ 26 → n ≤ b → store_limit < n → ⊥
small-code b n h k l = omega (arith, h, k, l)

fit : (p : ProgramTree) (e : Refusal) → banks_bound p ≤ 2 ^ 26 → IsUnfit p slots_limit [] budget_default store_limit e → ⊥
fit p (SourceLarge n) small h = none-large p slots_limit n (inl small) h
fit p (StoreFull n) small h = small-code (form_bound p) n small h.bounded h.long
fit p _ small h = h

pub no-refusal : (seed size : ℕ) (e : Refusal) → IsSmallMade seed size → GenRefuses seed size e → ⊥
no-refusal seed size e small h =
    let same = source-program (made seed size) h.0 small.0 h.1.is_source small.1.is_source in
    fit small.0 e small.2 (subst (λ p. IsUnfit p slots_limit [] budget_default store_limit e) same h.2)

-- A form without tables or without a program of the banks is refused with its cause.
use Rattle.std.proofs.Common.{◌≡◌, ℕ, ◌⊎◌, true, List, inl, inr, refl, sym, ap, ◌∙◌, arith}
use Rattle.ssu_ir.specs.Single.{single}
use Rattle.ssu_ir.specs.Tree.{Label}
use Rattle.bank_prog_form.specs.Program.{IsTooLarge}
use Rattle.bank_prog.specs.declared.error.BankError.{BankError}
use Rattle.bank_prog.specs.declared.error.BankError.TheVariants as bank
use Rattle.bank_prog.proofs.FewRows.{large_few}
use Rattle.nova_back.specs.Causes.{IsCause}
use Rattle.nova_back.specs.declared.error.BackError.{BackError}
use Rattle.nova_back.specs.inner.Search.{IsUnbuilt, IsUnfound}
use Rattle.nova_back.specs.inner.Unbuilt.{of_bank}
use Rattle.nova_back.specs.declared.error.BackError.TheVariants as back

-- what a refusal tells of too many columns or rows
abbrev pub TellsLarge : List Label → ℕ → BankError → Type 0
TellsLarge labels slots e = (n : ℕ) → e ≡ bank.TooLarge n → IsTooLarge labels slots n

pub unbuilt : (labels : List Label) (slots : ℕ) (e : BankError) → single labels ≡ true → TellsLarge labels slots e → IsUnbuilt labels slots (of_bank e)
unbuilt labels slots bank.NoMemory s many = tt
unbuilt labels slots (bank.TooLarge n) s many = let m = many n refl in (m, large_few labels slots n s m)

pub caused : (labels : List Label) (slots : ℕ) (ws : List ℕ) (budget store : ℕ) (e : BankError) → single labels ≡ true → TellsLarge labels slots e → (of_bank e ≡ back.NoMemory) ⊎ IsCause labels slots ws budget store (of_bank e)
caused labels slots ws budget store bank.NoMemory s many = inl refl
caused labels slots ws budget store (bank.TooLarge n) s many = let m = many n refl in inr (m, large_few labels slots n s m)

pub unfound-caused : (labels : List Label) (slots : ℕ) (ws : List ℕ) (budget store : ℕ) (e : BackError) → IsUnfound labels slots ws budget e → (e ≡ back.NoMemory) ⊎ IsCause labels slots ws budget store e
unfound-caused labels slots ws budget store back.NoMemory h = inl refl
unfound-caused labels slots ws budget store (back.TooLarge n) h = inr h
unfound-caused labels slots ws budget store (back.Infeasible r) h = inr h
unfound-caused labels slots ws budget store (back.Spent r) h = inr h
unfound-caused labels slots ws budget store (back.StoreFull n) h = absurd h

one-number : (labels : List Label) (slots m n : ℕ) → IsTooLarge labels slots m → IsTooLarge labels slots n → m ≡ n
one-number labels slots m n (inl a) (inl b) = a.0 ∙ sym b.0
one-number labels slots m n (inl a) (inr b) = absurd (omega (arith, a.0, a.1, b.0))
one-number labels slots m n (inr a) (inl b) = absurd (omega (arith, b.0, b.1, a.0))
one-number labels slots m n (inr a) (inr b) = a.1.0 ∙ sym b.1.0

-- a number is told, and it is that of the program
pub told : (labels : List Label) (slots : ℕ) (e : BankError) → TellsLarge labels slots e → (n : ℕ) → IsTooLarge labels slots n → (of_bank e ≡ back.NoMemory) ⊎ (of_bank e ≡ back.TooLarge n)
told labels slots bank.NoMemory many n large = inl refl
told labels slots (bank.TooLarge m) many n large = inr (ap back.TooLarge (one-number labels slots m n (many m refl) large))

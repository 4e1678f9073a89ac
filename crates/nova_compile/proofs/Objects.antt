-- What the object of compiled code is made of, and the report beside it.
use Rattle.std.proofs.Common.{◌≡◌, ℕ, ◌≤◌, ◌^◌, List, ◌⊎◌, inl, inr, length, arith}
use Rattle.nv_ast.specs.Tree.{ProgramTree}
use Rattle.nv_ast.specs.TypedView.{typed_program}
use Rattle.uc_isa.specs.Code.{CodeView}
use Rattle.uc_object.specs.Tagged.{TaggedView}
use Rattle.nova_compile.proofs.Begun.{starts-few}
use Rattle.nova_compile.specs.Building.{IsCompileCause}
use Rattle.nova_compile.specs.Forms.{HasBanks}
use Rattle.nova_compile.specs.inner.Parts.{HasParts, HasValidReport, IsBuilt}
use Rattle.nova_compile.specs.declared.build.Compiled.{Compiled}
use Rattle.nova_compile.specs.declared.build.CompileError.{CompileError}
use Rattle.nova_compile.specs.declared.build.CompileError.TheVariants as compile

-- code with these starts and exceptions
abbrev pub with_exceptions : CodeView → List ℕ → List (ℕ × List ℕ) → TaggedView
with_exceptions c starts exceptions = record { code = c; exceptions = exceptions; starts = starts }

-- its parts are as they can be saved
few-enough : (a b c : ℕ) → a ≤ b → b ≤ c → c ≤ 1048576 → a ≤ 2 ^ 20
few-enough a b c h k l = omega (arith, h, k, l)

pub banked-parts : (program : ProgramTree) (slots : ℕ) (ws : List ℕ) (budget store : ℕ) (t : Compiled) → store ≤ 1048576 → length t.built.code.list ≤ store
    → HasBanks program slots ws budget t.built.code t.built.starts.items t.built.report → HasParts t
banked-parts program slots ws budget store t low short banks =
    let begin = banks.labels_start.starts_are in
    record {
      report = banks.report.valid;
      starts = few-enough (length t.built.starts.items) (length t.built.code.list) store (starts-few t.built.code.list t.built.starts.items begin.shape begin.inside) short low;
      inside = begin.inside;
    }

pub built-parts : (text : List ℕ) (slots : ℕ) (ws : List ℕ) (budget store : ℕ) (t : Compiled) → store ≤ 1048576 → IsBuilt text slots ws budget store t → HasParts t
built-parts text slots ws budget store t low h = banked-parts (typed_program t.typed) slots ws budget store t low h.short h.banks

-- an error's report is valid
pub error-report : (text : List ℕ) (slots : ℕ) (ws : List ℕ) (budget store : ℕ) (e : CompileError) → (e ≡ compile.NoMemory) ⊎ IsCompileCause text slots ws budget store e → HasValidReport e
error-report text slots ws budget store compile.NoMemory h = tt
error-report text slots ws budget store (compile.Text f) h = tt
error-report text slots ws budget store (compile.Fault kind place) h = tt
error-report text slots ws budget store (compile.TooLarge n) h = tt
error-report text slots ws budget store (compile.StoreFull n) h = tt
error-report text slots ws budget store (compile.Infeasible r) (inl e) = let no-way : ⊥ = cc in absurd no-way
error-report text slots ws budget store (compile.Infeasible r) (inr (inl h)) = absurd h
error-report text slots ws budget store (compile.Infeasible r) (inr (inr h)) = h.2.without.report.valid
error-report text slots ws budget store (compile.Spent r) (inl e) = let no-way : ⊥ = cc in absurd no-way
error-report text slots ws budget store (compile.Spent r) (inr (inl h)) = absurd h
error-report text slots ws budget store (compile.Spent r) (inr (inr h)) = h.2.without.report.valid

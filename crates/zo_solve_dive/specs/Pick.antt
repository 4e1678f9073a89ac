-- a choice of the column to branch on
use Rattle.std.specs.Prelude.{◌≡◌, ℕ, List, Bool, Option, Some, None, length, slice_get}
use Rattle.std.specs.Borrow.{Bor}
use Rattle.zo_cert_tree.specs.declared.path.Fixed.{Fixed}
use Rattle.zo_model.specs.Program.{IsValid, columns}
use Rattle.zo_model.specs.declared.program.ZeroOne.{ZeroOne}

-- some column is unfixed
abbrev pub HasFree : List (Option Bool) → Type 0
HasFree fixed = (j : ℕ) × (slice_get fixed j ≡ Some None)

-- the choice may be asked of each valid program, with one place for each column
abbrev pub MayBeAsked : (Bor ZeroOne → Bor Fixed → Type 0) → Type 0
MayBeAsked may = (z : Bor ZeroOne) (fixed : Bor Fixed) → IsValid z.now → length fixed.now.at.items ≡ columns z.now → may z fixed

-- whatever it may answer where a column is unfixed is an unfixed column
abbrev pub NamesFree : (Bor ZeroOne → Bor Fixed → ℕ → Type 0) → Type 0
NamesFree answers = (z : Bor ZeroOne) (fixed : Bor Fixed) (j : ℕ) → IsValid z.now → length fixed.now.at.items ≡ columns z.now → HasFree fixed.now.at.items → answers z fixed j → slice_get fixed.now.at.items j ≡ Some None

-- what the closure of a pick has to keep
pub record CanPick (may : Bor ZeroOne → Bor Fixed → Type 0) (answers : Bor ZeroOne → Bor Fixed → ℕ → Type 0) : Type 0 where
  pub may_be_asked : MayBeAsked may
  pub names_free : NamesFree answers

-- the column is one that the choice may answer, for this program with these columns fixed
pub record Answers (answers : Bor ZeroOne → Bor Fixed → ℕ → Type 0) (z : ZeroOne) (fixed : List (Option Bool)) (j : ℕ) : Type 0 where
  pub program : Bor ZeroOne
  pub shown : Bor Fixed
  pub program_is : program.now ≡ z
  pub shown_is : shown.now.at.items ≡ fixed
  pub says : answers program shown j

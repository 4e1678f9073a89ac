-- The columns that a placement stands for.
use Rattle.std.specs.Prelude.{◌≡◌, ℕ, nat_eq, Bool, true, false, not, ◌&&◌, List, [], ◌∷◌, Option, Some, None, Contains, if◌then◌else◌}
use Rattle.std.specs.List.{list_any}
use Rattle.ssu_ir.specs.Tree.{Label}
use Rattle.place_plan.specs.declared.place.Place.{Place}
use Rattle.place_plan.specs.declared.place.Place.TheVariants as place
use Rattle.place_plan.specs.Plan.{Plan, home, first, serve, pass}
use Rattle.place_plan.specs.Uses.{Result, Value, values, Role, Operand, Address, Written, Argument, Ending, Use, uses}
use Rattle.place_plan.specs.Fits.{is_write_register, stays}
use Rattle.bank_prog_form.specs.declared.column.Bank.{Bank}
use Rattle.bank_prog_form.specs.declared.column.Bank.TheVariants.{A, B, M, T, L, A15, W}
use Rattle.bank_prog_form.specs.declared.column.Column.{Column}
use Rattle.bank_prog_form.specs.declared.column.Column.TheVariants.{Def, DirectWrite, Fill, Stay, EarlyWrite, First, Serve, ReadVia, WriteVia}
use Rattle.bank_prog_form.specs.Columns.{columns}
use Rattle.bank_prog_form.specs.Program.{same_bank}
use Rattle.bank_prog.specs.Meaning.{Chosen}

-- ---- the form

-- the use at a point with an operand's number; no other is ever asked for
abbrev pub use_in : List Use → ℕ → ℕ → Use
use_in [] k i = record { point = k; operand = i; value = 0; role = Operand }
use_in (u ∷ us) k i = if nat_eq u.point k && nat_eq u.operand i then u else use_in us k i

abbrev pub use_at : List Label → ℕ → ℕ → Use
use_at labels k i = use_in (uses labels) k i

-- the value of a variable; no other variable is ever asked for
abbrev pub value_in : List Value → ℕ → Value
value_in [] x = record { point = 0; var = x; origin = Result }
value_in (v ∷ vs) x = if nat_eq v.var x then v else value_in vs x

abbrev pub value_at : List Label → ℕ → Value
value_at labels x = value_in (values labels) x

-- ---- places

-- the bank of a home, or of a write register in which a word waits
abbrev pub bank_of : Place → Bank
bank_of (place.A k) = A
bank_of (place.B k) = B
bank_of (place.L k) = T
bank_of (place.LD k) = T
bank_of (place.S k) = W
bank_of (place.SD k) = W
bank_of (place.Slot k) = M

abbrev pub is_in_bank : Bank → Place → Bool
is_in_bank h q = same_bank h (bank_of q)

-- a register of the first bank
abbrev pub is_first : Place → Bool
is_first (place.A k) = true
is_first (place.B k) = false
is_first (place.L k) = false
is_first (place.LD k) = false
is_first (place.S k) = false
is_first (place.SD k) = false
is_first (place.Slot k) = false

-- an operand or an address is taken where it is, or brought into the compiler's own register, which is one of the first bank; a slot is
-- read through a read register or into the compiler's own
abbrev pub operand_bank : Bank → Place → Bank
operand_bank A q = A
operand_bank B q = if is_first q then A15 else B
operand_bank M q = if is_first q then A15 else L
operand_bank T q = if is_first q then A15 else T
operand_bank L q = W
operand_bank A15 q = W
operand_bank W q = W

-- where a use wants its word, that comes from a bank to a place
abbrev pub preferred_bank : Role → Bank → Place → Bank
preferred_bank Operand h q = operand_bank h q
preferred_bank Address h q = operand_bank h q
preferred_bank (Written m i) h q = W
preferred_bank (Argument l i) h q = bank_of q
preferred_bank (Ending i) h q = A

-- ---- words that are put early

-- the word of a use waits in its write register
abbrev pub waits : Plan → ℕ → ℕ → Bool
waits p k i = is_write_register (serve p k i).from

-- the definition of a value puts it there
abbrev pub goes_there : Plan → ℕ → Bool
goes_there p x = is_write_register (home p x).defined

-- ---- the columns

abbrev pub names : Option ℕ → ℕ → Bool
names (Some n) r = nat_eq n r
names None r = false

abbrev pub chosen : List Label → Plan → Chosen
chosen labels p (Def x h) = is_in_bank h (home p x).defined
chosen labels p (DirectWrite k i f) = nat_eq (first p k) f && (waits p k i && goes_there p (use_at labels k i).value)
chosen labels p (Fill x h) = list_any (is_in_bank h) (home p x).copied
chosen labels p (Stay x f) = nat_eq (first p (value_at labels x).point) f && stays labels p x
chosen labels p (EarlyWrite k i f) = nat_eq (first p k) f && (waits p k i && not (goes_there p (use_at labels k i).value))
chosen labels p (First k f) = nat_eq (first p k) f
chosen labels p (Serve k i h q) = is_in_bank h (serve p k i).from && same_bank q (preferred_bank (use_at labels k i).role (bank_of (serve p k i).from) (serve p k i).at)
chosen labels p (ReadVia k r) = names (pass p k).l r
chosen labels p (WriteVia k r) = names (pass p k).s r

-- a choice of the columns that are there as the placement has it
pub record IsChosen (labels : List Label) (p : Plan) (on : Chosen) : Type 0 where
  pub same : (c : Column) → Contains (columns labels) c → on c ≡ chosen labels p c
  pub only : (c : Column) → on c ≡ true → Contains (columns labels) c

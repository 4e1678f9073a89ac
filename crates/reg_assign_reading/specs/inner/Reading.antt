-- How the code keeps what a placement is read off from: a vector by the names of its columns, and the numbers of homes.
use Rattle.std.specs.Prelude.{ℕ, nat_eq, if◌then◌else◌, List, [], ◌∷◌, Option, Some, None, unwrap_or}
use Rattle.std.specs.HashMap.{get}
use Rattle.ssu_ir.specs.Tree.{Label}
use Rattle.ssu_ir.specs.View.{labels_view}
use Rattle.place_plan.specs.declared.place.Place.{Place}
use Rattle.place_plan.specs.declared.place.Place.TheVariants as place
use Rattle.place_plan.specs.declared.place.Pass.{Pass}
use Rattle.place_plan.specs.inner.Parts.{in_byte}
use Rattle.place_plan.specs.Fits.{wants_home}
use Rattle.place_plan.specs.Plan.{Home}
use Rattle.place_plan.specs.Uses.{Value, Use}
use Rattle.zo_model.specs.Program.{vector}
use Rattle.bank_prog_form.specs.declared.column.Bank.TheVariants.{A, B, M, T, L, A15, W}
use Rattle.bank_prog_form.specs.declared.column.Column.{Column}
use Rattle.bank_prog_form.specs.declared.column.Column.TheVariants as column
use Rattle.bank_prog.specs.Meaning.{Chosen, on}
use Rattle.bank_prog_form.specs.inner.Form.{Part}
use Rattle.reg_assign_reading.specs.declared.columns.Family.{Family}
use Rattle.reg_assign_reading.specs.declared.columns.Family.TheVariants as family
use Rattle.reg_assign_reading.specs.declared.reading.Reading.{Reading}
use Rattle.reg_assign_reading.specs.declared.numbers.BankNumbers.{BankNumbers}
use Rattle.reg_assign_reading.specs.ReadOff.{Numbers, goes_early, word_place, value_home, pass_by, pass_l, pass_s}

-- ---- columns

abbrev pub labels_of : Reading → List Label
labels_of r = labels_view r.bank.now.form.ssu.now

-- the columns that are on
abbrev pub says : Reading → Chosen
says r = on (labels_of r) (vector r.x.now.on.items)

-- the column of a family for a register
abbrev pub column_of : Family → ℕ → Column
column_of (family.First k) r = column.First k r
column_of (family.DirectWrite k i) r = column.DirectWrite k i r
column_of (family.EarlyWrite k i) r = column.EarlyWrite k i r
column_of (family.ReadVia k) r = column.ReadVia k r
column_of (family.WriteVia k) r = column.WriteVia k r

-- ---- numbers

abbrev pub number_in : Option ℕ → ℕ
number_in o = unwrap_or (in_byte o) 0

abbrev pub numbers_of : BankNumbers → Numbers
numbers_of n A x = number_in (get nat_eq n.a x)
numbers_of n B x = number_in (get nat_eq n.b x)
numbers_of n M x = number_in (get nat_eq n.m x)
numbers_of n T x = 0
numbers_of n L x = 0
numbers_of n A15 x = 0
numbers_of n W x = 0

-- ---- places

-- where the value of a variable comes, if it is known
abbrev pub known_place : Option Place → Place
known_place (Some q) = q
known_place None = place.Slot 0

-- the first place that is noted
abbrev pub place_noted : Option Place → ℕ → Place → ℕ → Option Place
place_noted (Some p) y q x = Some p
place_noted None y q x = if nat_eq y x then Some q else None

-- ---- pieces

-- the word, where it is put early
abbrev pub early_word : Chosen → Use → List Place
early_word on u = if goes_early on u then word_place on u ∷ [] else []

-- the home of a value, where it wants one
abbrev pub preferred_home : List Label → Chosen → Numbers → Value → List Home
preferred_home labels on numbers v = if wants_home labels v then value_home labels on numbers v ∷ [] else []

-- the pass of a point
abbrev pub part_pass : Chosen → Part → List Pass
part_pass on p = pass_by p.point (pass_l on p.point) (pass_s on p.point)

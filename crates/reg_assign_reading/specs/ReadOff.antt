-- The placement that a choice of columns stands for, where each home has a number: of a register of its bank, or of a slot.
use Rattle.std.specs.Prelude.{◌≡◌, ◌≢◌, ℕ, suc, ◌+◌, ◌<◌, nat_eq, Bool, true, ◌||◌, is_some, List, [], ◌∷◌, ◌++◌, map, filter, Option, Some, None, unwrap_or, All, if◌then◌else◌}
use Rattle.std.specs.List.{list_any}
use Rattle.nv_base.specs.Sets.{is_in, Within}
use Rattle.ssu_ir.specs.Tree.{Label}
use Rattle.ssu_ir.specs.Points.{Point, points}
use Rattle.place_plan.specs.declared.place.Place.{Place}
use Rattle.place_plan.specs.declared.place.Place.TheVariants as place
use Rattle.place_plan.specs.declared.place.First.{First as KeptFirst}
use Rattle.place_plan.specs.declared.place.Serve.{Serve}
use Rattle.place_plan.specs.declared.place.Pass.{Pass}
use Rattle.place_plan.specs.declared.place.Placement.{Placement}
use Rattle.place_plan.specs.Plan.{Home, Plan, home_in, home_view, plan_view}
use Rattle.place_plan.specs.Uses.{Access, accesses, ValueOrigin, Parameter, Result, Fetched, Value, values, Role, Operand, Address, Written, Argument, Ending, Use, uses, uses_of, is_used}
use Rattle.place_plan.specs.Fits.{read_place, write_place, parameter, wants_home, Rises}
use Rattle.bank_prog_form.specs.declared.column.Bank.{Bank}
use Rattle.bank_prog_form.specs.declared.column.Bank.TheVariants.{A, B, M, T, L, A15, W}
use Rattle.bank_prog_form.specs.declared.column.Column.TheVariants.{Def, Fill, First, Serve as ServeColumn, ReadVia, WriteVia}
use Rattle.bank_prog_form.specs.declared.column.Service.{Service}
use Rattle.bank_prog_form.specs.Columns.{eight, services}
use Rattle.bank_prog_form.specs.Rows.{homes, early, is_parameter}
use Rattle.bank_prog.specs.Meaning.{Chosen}

-- the number of a value's register in bank A or B, or of its slot
abbrev pub Numbers : Type 0
Numbers = Bank → ℕ → ℕ

-- ---- what the columns say

-- a value has a home in a bank
abbrev pub has_home : Chosen → ℕ → Bank → Bool
has_home on x h = on (Def x h) || on (Fill x h)

-- the first of these numbers that passes a test
abbrev pub first_on : (ℕ → Bool) → List ℕ → Option ℕ
first_on f [] = None
first_on f (r ∷ rs) = if f r then Some r else first_on f rs

-- the first register of the access at a point
abbrev pub begins : Chosen → ℕ → ℕ
begins on k = unwrap_or (first_on (λ f. on (First k f)) eight) 0

-- through which registers slots are read and written at a point
abbrev pub pass_l : Chosen → ℕ → Option ℕ
pass_l on k = first_on (λ r. on (ReadVia k r)) eight

abbrev pub pass_s : Chosen → ℕ → Option ℕ
pass_s on k = first_on (λ r. on (WriteVia k r)) eight

-- a word is put early into its write register
abbrev pub goes_early : Chosen → Use → Bool
goes_early on u = list_any on (early u)

-- the bank into which the definition of a value puts it
abbrev pub def_bank : Chosen → ℕ → Option Bank
def_bank on x = if on (Def x A) then Some A else (if on (Def x B) then Some B else (if on (Def x M) then Some M else None))

-- how a use is served
abbrev pub service_on : Chosen → Use → List Service → Option Service
service_on on u [] = None
service_on on u (s ∷ ss) = if on (ServeColumn u.point u.operand s.from s.at) then Some s else service_on on u ss

-- ---- places

abbrev pub home_place : Numbers → Bank → ℕ → Place
home_place numbers A x = place.A (numbers A x)
home_place numbers B x = place.B (numbers B x)
home_place numbers M x = place.Slot (numbers M x)
home_place numbers T x = place.Slot 0
home_place numbers L x = place.Slot 0
home_place numbers A15 x = place.Slot 0
home_place numbers W x = place.Slot 0

-- the write register of a written word, and the read register of a read value
abbrev pub role_place : Chosen → ℕ → Role → Place
role_place on k (Written m i) = write_place m (begins on k + i)
role_place on k Operand = place.Slot 0
role_place on k Address = place.Slot 0
role_place on k (Argument l i) = place.Slot 0
role_place on k (Ending i) = place.Slot 0

abbrev pub word_place : Chosen → Use → Place
word_place on u = role_place on u.point u.role

abbrev pub origin_place : Chosen → ℕ → ValueOrigin → Place
origin_place on k (Parameter l i) = place.Slot 0
origin_place on k Result = place.Slot 0
origin_place on k (Fetched m i) = read_place m (begins on k + i)

abbrev pub place_in : Chosen → List Value → ℕ → Place
place_in on [] x = place.Slot 0
place_in on (v ∷ vs) x = if nat_eq v.var x then origin_place on v.point v.origin else place_in on vs x

-- ---- homes

abbrev pub fill_at : Chosen → Numbers → ℕ → Bank → List Place
fill_at on numbers x h = if on (Fill x h) then home_place numbers h x ∷ [] else []

abbrev pub fills_of : Chosen → Numbers → ℕ → List Place
fills_of on numbers x = fill_at on numbers x A ++ (fill_at on numbers x B ++ fill_at on numbers x M)

-- into the write registers of those of its words that are put early
abbrev pub words_of : List Label → Chosen → ℕ → List Place
words_of labels on x = map (word_place on) (filter (goes_early on) (uses_of labels x))

abbrev pub copies_of : List Label → Chosen → Numbers → ℕ → List Place
copies_of labels on numbers x = fills_of on numbers x ++ words_of labels on x

abbrev pub first_word : Chosen → List Use → Place
first_word on [] = place.Slot 0
first_word on (u ∷ us) = word_place on u

-- a value that its definition puts into a bank; or else right into the write register of its use
abbrev pub put_home : List Label → Chosen → Numbers → ℕ → Option Bank → Home
put_home labels on numbers x (Some h) = record { var = x; defined = home_place numbers h x; copied = copies_of labels on numbers x }
put_home labels on numbers x None = record { var = x; defined = first_word on (uses_of labels x); copied = [] }

abbrev pub origin_home : List Label → Chosen → Numbers → ℕ → ℕ → ValueOrigin → Home
origin_home labels on numbers k x (Parameter l i) = put_home labels on numbers x (def_bank on x)
origin_home labels on numbers k x Result = put_home labels on numbers x (def_bank on x)
origin_home labels on numbers k x (Fetched m i) = record { var = x; defined = read_place m (begins on k + i); copied = copies_of labels on numbers x }

abbrev pub value_home : List Label → Chosen → Numbers → Value → Home
value_home labels on numbers v = origin_home labels on numbers v.point v.var v.origin

-- the home of a value that wants one is found under its variable
abbrev pub IsAtHome : List Label → Chosen → Numbers → List Home → Value → Type 0
IsAtHome labels on numbers hs v = wants_home labels v ≡ true → (home_in hs v.var ≡ value_home labels on numbers v) × (is_in v.var (map (λ h. h.var) hs) ≡ true)

-- these are the homes of the values that want one, by rising variable
pub record AreRead (labels : List Label) (on : Chosen) (numbers : Numbers) (hs : List Home) : Type 0 where
  pub rise : Rises (map (λ h. h.var) hs)
  pub each : All (IsAtHome labels on numbers hs) (values labels)
  pub only : Within (map (λ h. h.var) hs) (map (λ v. v.var) (filter (wants_home labels) (values labels)))

-- ---- uses

-- the place of a use's word in a bank, or on its way
abbrev pub bank_place : List Label → Chosen → Numbers → Use → Bank → Place
bank_place labels on numbers u A = place.A (numbers A u.value)
bank_place labels on numbers u B = place.B (numbers B u.value)
bank_place labels on numbers u M = place.Slot (numbers M u.value)
bank_place labels on numbers u T = place_in on (values labels) u.value
bank_place labels on numbers u L = place.L (unwrap_or (pass_l on u.point) 0)
bank_place labels on numbers u A15 = place.A 15
bank_place labels on numbers u W = word_place on u

-- where it is wanted: an argument where its parameter is first put, word i of an end in register i
abbrev pub target : List Label → Chosen → Numbers → Use → Bank → Role → Place
target labels on numbers u p Operand = bank_place labels on numbers u p
target labels on numbers u p Address = bank_place labels on numbers u p
target labels on numbers u p (Written m i) = word_place on u
target labels on numbers u p (Argument l i) = home_place numbers p (parameter labels l i)
target labels on numbers u p (Ending i) = place.A i

abbrev pub serve_by : List Label → Chosen → Numbers → Use → Option Service → Serve
serve_by labels on numbers u (Some s) = record { point = u.point; operand = u.operand; from = bank_place labels on numbers u s.from; at = target labels on numbers u s.at u.role }
serve_by labels on numbers u None = record { point = u.point; operand = u.operand; from = word_place on u; at = word_place on u }

abbrev pub use_serve : List Label → Chosen → Numbers → Use → Serve
use_serve labels on numbers u = serve_by labels on numbers u (service_on on u (services u.role))

-- ---- accesses and passes

abbrev pub access_first : Chosen → Access → KeptFirst
access_first on a = record { point = a.point; first = begins on a.point }

-- only where a register is named
abbrev pub pass_by : ℕ → Option ℕ → Option ℕ → List Pass
pass_by k l s = if is_some l || is_some s then record { point = k; l = l; s = s } ∷ [] else []

abbrev pub passes_from : Chosen → ℕ → List Point → List Pass
passes_from on k [] = []
passes_from on k (q ∷ qs) = pass_by k (pass_l on k) (pass_s on k) ++ passes_from on (suc k) qs

-- ---- the whole

abbrev pub read_off : List Label → ℕ → Chosen → Numbers → List Home → Plan
read_off labels slots on numbers hs = record {
  slots = slots;
  homes = hs;
  firsts = map (access_first on) (accesses labels);
  serves = map (use_serve labels on numbers) (uses labels);
  passes = passes_from on 0 (points labels);
}

-- ---- the numbers

-- how many registers a bank has for homes, or how many slots there are
abbrev pub room : ℕ → Bank → ℕ
room slots A = 15
room slots B = 15
room slots M = slots
room slots T = 0
room slots L = 0
room slots A15 = 0
room slots W = 0

-- no two live values at a point have one number in a bank
abbrev pub AreApart : Chosen → Numbers → List ℕ → Bank → Type 0
AreApart on numbers row h = (x y : ℕ) → is_in x row ≡ true → is_in y row ≡ true → x ≢ y → has_home on x h ≡ true → has_home on y h ≡ true → numbers h x ≢ numbers h y

-- a value that is held somewhere: a parameter, or a value with a use
abbrev pub is_held : List Label → Value → Bool
is_held labels v = is_used labels v.var || is_parameter v.origin

abbrev pub IsBelow : List Label → ℕ → Chosen → Numbers → Bank → Value → Type 0
IsBelow labels slots on numbers h v = is_held labels v ≡ true → has_home on v.var h ≡ true → numbers h v.var < room slots h

pub record AreNumbered (labels : List Label) (slots : ℕ) (on : Chosen) (numbers : Numbers) : Type 0 where
  pub apart : All (λ q. All (AreApart on numbers q.before) homes) (points labels)
  pub below : All (λ h. All (IsBelow labels slots on numbers h) (values labels)) homes

-- ---- the whole

-- the placement is the one that is read off, with these homes
pub record IsReadOff (labels : List Label) (slots : ℕ) (on : Chosen) (numbers : Numbers) (p : Placement) : Type 0 where
  pub homes : AreRead labels on numbers (map home_view p.homes.items)
  pub same : plan_view p ≡ read_off labels slots on numbers (map home_view p.homes.items)

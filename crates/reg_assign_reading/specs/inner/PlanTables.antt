-- What a placement and its form say, the form in tables by operand and variable.
use Rattle.std.specs.Prelude.{◌≡◌, ℕ, nat_eq, Bool, not, ◌&&◌, List, Option, Some, None}
use Rattle.std.specs.HashMap.{get}
use Rattle.std.specs.List.{list_any}
use Rattle.ssu_ir.specs.Tree.{Label}
use Rattle.place_plan.specs.declared.place.Place.{Place}
use Rattle.place_plan.specs.Plan.{Plan, plan_view, home, first, serve, pass}
use Rattle.place_plan.specs.Uses as pure
use Rattle.place_plan.specs.Uses.{uses_of}
use Rattle.place_plan.specs.Fits.{is_read_register, is_write_register}
use Rattle.bank_prog_form.specs.declared.column.Column.TheVariants.{Def, DirectWrite, Fill, Stay, EarlyWrite, First, Serve, ReadVia, WriteVia}
use Rattle.place_plan.specs.declared.uses.Use.{Use}
use Rattle.place_plan.specs.inner.UseViews.{role_view}
use Rattle.bank_prog_form.specs.Program.{same_bank}
use Rattle.bank_prog.specs.Meaning.{Chosen}
use Rattle.bank_prog.specs.inner.Located.{known_point}
use Rattle.reg_assign_reading.specs.declared.plan.PlanTables.{PlanTables}
use Rattle.reg_assign_reading.specs.inner.Chosen.{use_at, value_at, bank_of, is_in_bank, preferred_bank, names}

-- ---- what is found in a table, or stands for what isn't there

abbrev pub pair_eq : ℕ × ℕ → ℕ × ℕ → Bool
pair_eq a b = nat_eq a.0 b.0 && nat_eq a.1 b.1

abbrev pub known_value : Option Use → ℕ
known_value (Some u) = u.value
known_value None = 0

abbrev pub known_role : Option Use → pure.Role
known_role (Some u) = role_view u.role
known_role None = pure.Operand

-- ---- what the tables say

abbrev pub told_plan : PlanTables → Plan
told_plan t = plan_view t.placement.now

abbrev pub defined_told : PlanTables → ℕ → Place
defined_told t x = (home (told_plan t) x).defined

abbrev pub copied_told : PlanTables → ℕ → List Place
copied_told t x = (home (told_plan t) x).copied

abbrev pub first_told : PlanTables → ℕ → ℕ
first_told t k = first (told_plan t) k

abbrev pub from_told : PlanTables → ℕ → ℕ → Place
from_told t k i = (serve (told_plan t) k i).from

abbrev pub at_told : PlanTables → ℕ → ℕ → Place
at_told t k i = (serve (told_plan t) k i).at

abbrev pub l_told : PlanTables → ℕ → Option ℕ
l_told t k = (pass (told_plan t) k).l

abbrev pub s_told : PlanTables → ℕ → Option ℕ
s_told t k = (pass (told_plan t) k).s

abbrev pub value_told : PlanTables → ℕ → ℕ → ℕ
value_told t k i = known_value (get pair_eq t.uses (k, i))

abbrev pub role_told : PlanTables → ℕ → ℕ → pure.Role
role_told t k i = known_role (get pair_eq t.uses (k, i))

abbrev pub point_told : PlanTables → ℕ → ℕ
point_told t x = known_point (get nat_eq t.points x)

abbrev pub waits_told : PlanTables → ℕ → ℕ → Bool
waits_told t k i = is_write_register (from_told t k i)

abbrev pub goes_told : PlanTables → ℕ → Bool
goes_told t x = is_write_register (defined_told t x)

abbrev pub stays_told : PlanTables → List pure.Use → Bool
stays_told t us = list_any (λ u. is_read_register (from_told t u.point u.operand)) us

-- the columns that they tell of
abbrev pub told : List Label → PlanTables → Chosen
told labels t (Def x h) = is_in_bank h (defined_told t x)
told labels t (DirectWrite k i f) = nat_eq (first_told t k) f && (waits_told t k i && goes_told t (value_told t k i))
told labels t (Fill x h) = list_any (is_in_bank h) (copied_told t x)
told labels t (Stay x f) = nat_eq (first_told t (point_told t x)) f && stays_told t (uses_of labels x)
told labels t (EarlyWrite k i f) = nat_eq (first_told t k) f && (waits_told t k i && not (goes_told t (value_told t k i)))
told labels t (First k f) = nat_eq (first_told t k) f
told labels t (Serve k i h q) = is_in_bank h (from_told t k i) && same_bank q (preferred_bank (role_told t k i) (bank_of (from_told t k i)) (at_told t k i))
told labels t (ReadVia k r) = names (l_told t k) r
told labels t (WriteVia k r) = names (s_told t k) r

-- the tables are those of a placement and a form
pub record AreTold (labels : List Label) (p : Plan) (t : PlanTables) : Type 0 where
  pub plan : told_plan t ≡ p
  pub values : (k i : ℕ) → value_told t k i ≡ (use_at labels k i).value
  pub roles : (k i : ℕ) → role_told t k i ≡ (use_at labels k i).role
  pub points : (x : ℕ) → point_told t x ≡ (value_at labels x).point

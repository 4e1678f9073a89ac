-- The bank program under weights of labels: a column costs what its kind does, times the weight of the label in which its point lies. The
-- rows don't depend on the weights.
use Rattle.std.specs.Prelude.{ℕ, ◌*◌, nat_eq, List, [], ◌∷◌, map, if◌then◌else◌}
use Rattle.ssu_ir.specs.Tree.{Label}
use Rattle.place_plan.specs.Uses.{Value, values}
use Rattle.place_plan.specs.Weighted.{point_weight}
use Rattle.zo_model.specs.Contents.{Contents}
use Rattle.bank_prog_form.specs.declared.column.Column.{Column}
use Rattle.bank_prog_form.specs.declared.column.Column.TheVariants.{Def, DirectWrite, Fill, Stay, EarlyWrite, First, Serve, ReadVia, WriteVia}
use Rattle.bank_prog_form.specs.Columns.{Priced, priced}
use Rattle.bank_prog_form.specs.Program.{rows}

-- the point that defines a variable's value; no other variable is ever asked for
abbrev pub point_in : List Value → ℕ → ℕ
point_in [] x = 0
point_in (v ∷ vs) x = if nat_eq v.var x then v.point else point_in vs x

-- a column of a value stands at its definition, every other at the point that it names: the copy for a use stands at the use
abbrev pub column_point : List Label → Column → ℕ
column_point labels (Def x h) = point_in (values labels) x
column_point labels (DirectWrite k i f) = k
column_point labels (Fill x h) = point_in (values labels) x
column_point labels (Stay x f) = point_in (values labels) x
column_point labels (EarlyWrite k i f) = k
column_point labels (First k f) = k
column_point labels (Serve k i from at) = k
column_point labels (ReadVia k r) = k
column_point labels (WriteVia k r) = k

abbrev pub weigh : List Label → List ℕ → Priced → Priced
weigh labels ws c = (c.0, c.1 * point_weight labels ws (column_point labels c.0))

abbrev pub weighted : List Label → List ℕ → List Priced
weighted labels ws = map (weigh labels ws) (priced labels)

abbrev pub weighted_costs : List Label → List ℕ → List ℕ
weighted_costs labels ws = map (λ c. c.1) (weighted labels ws)

abbrev pub weighted_program : List Label → ℕ → List ℕ → Contents
weighted_program labels slots ws = record { costs = weighted_costs labels ws; rows = rows labels slots }

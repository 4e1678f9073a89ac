use Rattle.std.proofs.Common.{◌≡◌, take, map}
use Rattle.std.specs.HashMap.{get}
use Rattle.bank_prog_form.specs.declared.column.Column as column
use Rattle.bank_prog_form.specs.Program.{same_column, number_in}
use Rattle.bank_prog_form.proofs.numbers.number_columns.Given as goal

abbrev pub invariant-loop-j : goal.invariant-loop-j
invariant-loop-j l = (c : column.Column) → get same_column l.numbers c ≡ number_in 0 (map (λ d. d.0) (take l.j l.columns)) c

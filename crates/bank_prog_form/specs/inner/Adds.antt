-- Rows that are put behind others, and how a row's terms are put together.
use Rattle.std.specs.Prelude.{◌≡◌, ℕ, suc, ◌≤◌, List, [], ◌∷◌, ◌++◌, map, Option, Some, None, ℤ}
use Rattle.zo_model.specs.Contents.{row_contents}
use Rattle.zo_model.specs.declared.program.Row.{Row}
use Rattle.bank_prog_form.specs.declared.column.Column.{Column}
use Rattle.bank_prog_form.specs.Rows.{Line}
use Rattle.bank_prog_form.specs.Program.{Numbers, Terms, add_named, row_of}

-- the first, where it is there, else the second
abbrev pub either : Option ℕ → Option ℕ → Option ℕ
either (Some j) o = Some j
either None o = o

-- the rows of these lines were put after the others
abbrev pub Adds : Numbers → List Row → List Row → List Line → Type 0
Adds number old new ls = map row_contents new ≡ map row_contents old ++ map (row_of number) ls

-- these columns, each with this coefficient, before other terms
abbrev pub add_each : Numbers → ℤ → List Column → Terms → Terms
add_each number a [] ts = ts
add_each number a (c ∷ cs) ts = add_named (number c) a (add_each number a cs ts)

-- the columns of terms rise, from lo on
abbrev pub Rising : ℕ → Terms → Type 0
Rising lo [] = Unit {0}
Rising lo (t ∷ ts) = (lo ≤ t.0) × Rising (suc t.0) ts

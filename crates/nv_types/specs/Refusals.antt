-- Why a program is refused.
use Rattle.std.specs.Prelude.{◌≡◌, ◌<◌}
use Rattle.nv_ast.specs.Tree.{ProgramTree}
use Rattle.nv_ast.specs.Faults.{IsTyped, IsFault}
use Rattle.nv_ast.specs.Sizes.{expanded_size}
use Rattle.nv_types_table.specs.declared.error.TypeError.{TypeError}
use Rattle.nv_types_table.specs.declared.error.TypeError.TheVariants.{NoMemory, Fault, TooLarge}

-- its first fault, or where it has none that its expanded size is over 4,096
abbrev pub IsRefusal : ProgramTree → TypeError → Type 0
IsRefusal p NoMemory = Unit {0}
IsRefusal p (Fault kind s) = IsFault p kind s
IsRefusal p (TooLarge n) = IsTyped p × (n ≡ expanded_size p) × (4096 < n)

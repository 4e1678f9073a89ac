-- What a failure of the parser is in bytes of the text.
use Rattle.std.specs.Prelude.{◌≡◌, ℕ}
use Rattle.nv_ast.specs.Positions.{place_of}
use Rattle.nv_text_parser.specs.declared.cursor.Failure.{Failure}
use Rattle.nv_text_parser.specs.declared.cursor.Failure.TheVariants.{NoMemory as NoRoom, Syntax as Stuck, Deep as High}
use Rattle.nv_text.specs.declared.error.TextError.{TextError}
use Rattle.nv_text.specs.declared.error.TextError.TheVariants.{NoMemory, Syntax, Deep}

-- the error says in bytes where the parser failed
abbrev pub Says : Failure → ℕ → TextError → Type 0
Says NoRoom n e = e ≡ NoMemory
Says (Stuck left) n e = e ≡ Syntax (place_of left.now n)
Says (High left) n e = e ≡ Deep (place_of left.now n)

-- What expressions of one and of two operands make of the operands' values.
use Rattle.std.specs.Prelude.{Bool, true, false, not, Option, Some, None, if◌then◌else◌}
use Rattle.nv_ast.specs.declared.tree.Op.{Op}
use Rattle.nv_ast.specs.declared.tree.Op.TheVariants.{Both, Either}
use Rattle.nv_base.specs.Words.{word_not}
use Rattle.nv_ast.specs.Tree.{Tree, DotTree, InvertTree, NegateTree, ShiftTree, UnpackTree, PackTree, FetchTree, NamedLayout}
use Rattle.nv_ast.specs.Outline.{outline}
use Rattle.nv_meaning_values.specs.Values.{Value, Word, Truth, word_of, truth_of, fields_of, field_named}
use Rattle.nv_meaning_values.specs.Packing.{unpacked_value, packed_value}
use Rattle.nv_meaning_values.specs.Running.{Running, Result, Gives, fetch}
use Rattle.nv_meaning.specs.Meaning.{Declared, combined, shifted}

-- what an expression of one operand makes of its value
abbrev pub made_of : Declared → Tree → Value → Running → Result
made_of d (DotTree s e x) v now = Gives (field_named x (fields_of v)) now
made_of d (InvertTree s e) v now = Gives (Word (word_not (word_of v))) now
made_of d (NegateTree s e) v now = Gives (Truth (not (truth_of v))) now
made_of d (ShiftTree s op e n) v now = Gives (Word (shifted op n (word_of v))) now
made_of d (UnpackTree s l e) v now = Gives (unpacked_value (outline d.layouts (NamedLayout l)) v) now
made_of d (PackTree s l e) v now = Gives (packed_value (outline d.layouts (NamedLayout l)) v) now
made_of d (FetchTree s m n e) v now = fetch m n (word_of v) now
made_of d _ v now = Gives v now

-- the truth that the left operand's value decides alone
abbrev pub decided_by : Op → Bool → Option Bool
decided_by Both b = if b then None else Some false
decided_by Either b = if b then Some true else None
decided_by _ b = None

-- what an operator makes of both operands' values, where the left one alone doesn't decide
abbrev pub joined_by : Op → Value → Value → Value
joined_by Both v w = w
joined_by Either v w = w
joined_by op v w = combined op (word_of v) (word_of w)

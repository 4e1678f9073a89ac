-- The tokens by name, each at its span. Keywords and signs are numbered from 0 in the order of these lists.
use Rattle.std.specs.Prelude.{ℕ, List}
use Rattle.nv_base.specs.declared.term.Mem.{Mem}
use Rattle.nv_base.specs.declared.term.Mem.TheVariants.{Sram, Sdram, Scratch}
use Rattle.nv_ast.specs.declared.token.Span.{Span}
use Rattle.nv_ast.specs.declared.token.Token.{Token}
use Rattle.nv_ast.specs.declared.token.Sort.{Sort}
use Rattle.nv_ast.specs.declared.token.Sort.TheVariants.{Word, Number, Key, Sign}
use Rattle.nv_ast.specs.declared.tree.Op.{Op}
use Rattle.nv_ast.specs.declared.tree.Op.TheVariants.{Add, Sub, And, Or, Xor, Eq, Ne, Lt, Le, Gt, Ge, Both, Either}
use Rattle.nv_ast.specs.declared.tree.ShiftOp.{ShiftOp}
use Rattle.nv_ast.specs.declared.tree.ShiftOp.TheVariants.{Left, Right, Rotate}

-- a token of this sort at this span
abbrev pub at : Span → Sort → Token
at s sort = record { span = s; sort = sort }

-- from the beginning of one span to the end of another
abbrev pub to : Span → Span → Span
to s t = record { first = s.first; after = t.after }

-- NAME
abbrev pub a_name : Span → List ℕ → Token
a_name s x = at s (Word x)

-- NUM
abbrev pub a_number : Span → ℕ → Token
a_number s n = at s (Number n)

-- ---- keywords

-- 'layout'
abbrev pub key_layout : Span → Token
key_layout s = at s (Key 0)

-- 'exception'
abbrev pub key_exception : Span → Token
key_exception s = at s (Key 1)

-- 'fun'
abbrev pub key_fun : Span → Token
key_fun s = at s (Key 2)

-- 'and'
abbrev pub key_and : Span → Token
key_and s = at s (Key 3)

-- 'let'
abbrev pub key_let : Span → Token
key_let s = at s (Key 4)

-- 'if'
abbrev pub key_if : Span → Token
key_if s = at s (Key 5)

-- 'else'
abbrev pub key_else : Span → Token
key_else s = at s (Key 6)

-- 'unpack'
abbrev pub key_unpack : Span → Token
key_unpack s = at s (Key 7)

-- 'pack'
abbrev pub key_pack : Span → Token
key_pack s = at s (Key 8)

-- 'raise'
abbrev pub key_raise : Span → Token
key_raise s = at s (Key 9)

-- 'try'
abbrev pub key_try : Span → Token
key_try s = at s (Key 10)

-- 'handle'
abbrev pub key_handle : Span → Token
key_handle s = at s (Key 11)

-- 'sram'
abbrev pub key_sram : Span → Token
key_sram s = at s (Key 12)

-- 'sdram'
abbrev pub key_sdram : Span → Token
key_sdram s = at s (Key 13)

-- 'scratch'
abbrev pub key_scratch : Span → Token
key_scratch s = at s (Key 14)

-- 'word'
abbrev pub key_word : Span → Token
key_word s = at s (Key 15)

-- 'bool'
abbrev pub key_bool : Span → Token
key_bool s = at s (Key 16)

-- 'packed'
abbrev pub key_packed : Span → Token
key_packed s = at s (Key 17)

-- 'unpacked'
abbrev pub key_unpacked : Span → Token
key_unpacked s = at s (Key 18)

-- 'overlay'
abbrev pub key_overlay : Span → Token
key_overlay s = at s (Key 19)

-- 'true'
abbrev pub key_true : Span → Token
key_true s = at s (Key 20)

-- 'false'
abbrev pub key_false : Span → Token
key_false s = at s (Key 21)

-- '_'
abbrev pub key_any : Span → Token
key_any s = at s (Key 22)

-- ---- signs

-- '+'
abbrev pub sign_plus : Span → Token
sign_plus s = at s (Sign 0)

-- '-'
abbrev pub sign_minus : Span → Token
sign_minus s = at s (Sign 1)

-- '|'
abbrev pub sign_bar : Span → Token
sign_bar s = at s (Sign 3)

-- '~'
abbrev pub sign_tilde : Span → Token
sign_tilde s = at s (Sign 5)

-- '!'
abbrev pub sign_bang : Span → Token
sign_bang s = at s (Sign 17)

-- '<-'
abbrev pub sign_arrow : Span → Token
sign_arrow s = at s (Sign 18)

-- '='
abbrev pub sign_is : Span → Token
sign_is s = at s (Sign 19)

-- ';'
abbrev pub sign_semicolon : Span → Token
sign_semicolon s = at s (Sign 20)

-- ':'
abbrev pub sign_colon : Span → Token
sign_colon s = at s (Sign 21)

-- ','
abbrev pub sign_comma : Span → Token
sign_comma s = at s (Sign 22)

-- '.'
abbrev pub sign_dot : Span → Token
sign_dot s = at s (Sign 23)

-- '('
abbrev pub sign_open : Span → Token
sign_open s = at s (Sign 24)

-- ')'
abbrev pub sign_close : Span → Token
sign_close s = at s (Sign 25)

-- '{'
abbrev pub sign_open_brace : Span → Token
sign_open_brace s = at s (Sign 26)

-- '}'
abbrev pub sign_close_brace : Span → Token
sign_close_brace s = at s (Sign 27)

-- '['
abbrev pub sign_open_bracket : Span → Token
sign_open_bracket s = at s (Sign 28)

-- ']'
abbrev pub sign_close_bracket : Span → Token
sign_close_bracket s = at s (Sign 29)

-- '##'
abbrev pub sign_join : Span → Token
sign_join s = at s (Sign 30)

-- ---- operators

-- the sign of an operator
abbrev pub sign_of : Op → ℕ
sign_of Add = 0
sign_of Sub = 1
sign_of And = 2
sign_of Or = 3
sign_of Xor = 4
sign_of Eq = 9
sign_of Ne = 10
sign_of Lt = 11
sign_of Le = 12
sign_of Gt = 13
sign_of Ge = 14
sign_of Both = 15
sign_of Either = 16

-- the level of its operands: the operands of a sum bind most tightly, those of || least
abbrev pub level_of : Op → ℕ
level_of Add = 0
level_of Sub = 0
level_of And = 2
level_of Xor = 3
level_of Or = 4
level_of Eq = 5
level_of Ne = 5
level_of Lt = 5
level_of Le = 5
level_of Gt = 5
level_of Ge = 5
level_of Both = 6
level_of Either = 7

-- the sign of a shift, whose operand is of level 1
abbrev pub shift_sign_of : ShiftOp → ℕ
shift_sign_of Left = 6
shift_sign_of Right = 7
shift_sign_of Rotate = 8

-- the keyword of a memory
abbrev pub mem_key : Mem → ℕ
mem_key Sram = 12
mem_key Sdram = 13
mem_key Scratch = 14

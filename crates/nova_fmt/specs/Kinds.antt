-- What the formatter sees of a token, and between which tokens of one line no blank stands.
use Rattle.std.specs.Prelude.{ℕ, Bool, true, false, not, ◌||◌, ◌&&◌, ◌==◌, nat_lt, nat_le, if◌then◌else◌}
use Rattle.nv_ast.specs.declared.token.Sort.{Sort}
use Rattle.nv_ast.specs.declared.token.Sort.TheVariants.{Word, Number, Key as KeySort, Sign}
use Rattle.nova_fmt.specs.declared.kind.Kind.{Kind}
use Rattle.nova_fmt.specs.declared.kind.Kind.TheVariants.{Start, Name, Key, Operator, Not, Tilde, Mark, Dot, Open, Close, OpenBrace, CloseBrace, OpenSquare, CloseSquare}

-- the keywords from 'layout' to 'handle', and 'overlay', begin something; the others are values, types or memories
abbrev pub key_kind : ℕ → Kind
key_kind n = if nat_lt n 12 || (n == 19) then Key else Name

-- ~ ! ; : , . ( ) { } [ ] by their numbers, and all others
abbrev pub sign_kind : ℕ → Kind
sign_kind n =
    if n == 5 then Tilde else
    (if n == 17 then Not else
    (if nat_le 20 n && nat_le n 22 then Mark else
    (if n == 23 then Dot else
    (if n == 24 then Open else
    (if n == 25 then Close else
    (if n == 26 then OpenBrace else
    (if n == 27 then CloseBrace else
    (if n == 28 then OpenSquare else
    (if n == 29 then CloseSquare else Operator)))))))))

abbrev pub kind_of : Sort → Kind
kind_of (Word x) = Name
kind_of (Number n) = Name
kind_of (KeySort n) = key_kind n
kind_of (Sign n) = sign_kind n

abbrev pub is_start : Kind → Bool
is_start Start = true
is_start _ = false

abbrev pub is_operator : Kind → Bool
is_operator Operator = true
is_operator _ = false

-- an operand or an operator, after which what was begun goes on
abbrev pub goes_on : Kind → Bool
goes_on Operator = true
goes_on Name = true
goes_on Close = true
goes_on CloseSquare = true
goes_on _ = false

-- a line that begins with the second token, where the line before it ends with the first one, hangs from that line
abbrev pub hangs : Kind → Kind → Bool
hangs last next = goes_on last || is_operator next

abbrev pub opens : Kind → Bool
opens Open = true
opens OpenBrace = true
opens OpenSquare = true
opens _ = false

abbrev pub closes : Kind → Bool
closes Close = true
closes CloseBrace = true
closes CloseSquare = true
closes _ = false

-- no blank before it: ; : , . ) ] [
abbrev pub clings_to_last : Kind → Bool
clings_to_last Mark = true
clings_to_last Dot = true
clings_to_last Close = true
clings_to_last CloseSquare = true
clings_to_last OpenSquare = true
clings_to_last _ = false

-- no blank after it: ( [ . ~
abbrev pub clings_to_next : Kind → Bool
clings_to_next Open = true
clings_to_next OpenSquare = true
clings_to_next Dot = true
clings_to_next Tilde = true
clings_to_next _ = false

abbrev pub is_open : Kind → Bool
is_open Open = true
is_open _ = false

abbrev pub is_close_brace : Kind → Bool
is_close_brace CloseBrace = true
is_close_brace _ = false

-- ! and an operand; a name or ] and the ( of its operands; { and }
abbrev pub is_pair : Kind → Kind → Bool
is_pair Not next = not (is_operator next)
is_pair Name next = is_open next
is_pair CloseSquare next = is_open next
is_pair OpenBrace next = is_close_brace next
is_pair _ next = false

-- no blank stands between two tokens of one line
abbrev pub joined : Kind → Kind → Bool
joined last next = clings_to_last next || clings_to_next last || is_pair last next

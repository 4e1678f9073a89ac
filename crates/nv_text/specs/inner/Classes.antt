-- The sets of bytes that tokens and comments are made of.
use Rattle.std.specs.Prelude.{ℕ, Bool, not, ◌==◌, ◌||◌, ◌&&◌, nat_le}
use Rattle.nv_text.specs.declared.spelling.Class.{Class}
use Rattle.nv_text.specs.declared.spelling.Class.TheVariants.{WordStart, Word, Digit, Hexadecimal, Space, Line}
use Rattle.nv_text.specs.Spelling.{is_digit, is_hexadecimal}
use Rattle.nv_text.specs.Tokens.{is_space}

-- a letter or an underscore
abbrev pub starts_word : ℕ → Bool
starts_word b = (nat_le 97 b && nat_le b 122) || (nat_le 65 b && nat_le b 90) || (b == 95)

-- the byte is in the class
abbrev pub in_class : Class → ℕ → Bool
in_class WordStart b = starts_word b
in_class Word b = starts_word b || is_digit b
in_class Digit b = is_digit b
in_class Hexadecimal b = is_hexadecimal b
in_class Space b = is_space b
in_class Line b = not (b == 10)

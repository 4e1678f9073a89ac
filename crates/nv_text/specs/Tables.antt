-- The keywords and the signs of the language, each numbered by its place from 0.
use Rattle.std.specs.Prelude.{ℕ, List, [], ◌∷◌, codes}

abbrev pub keywords : List (List ℕ)
keywords =
    codes "layout" ∷ codes "exception" ∷ codes "fun" ∷ codes "and" ∷ codes "let" ∷ codes "if" ∷ codes "else" ∷ codes "unpack"
    ∷ codes "pack" ∷ codes "raise" ∷ codes "try" ∷ codes "handle" ∷ codes "sram" ∷ codes "sdram" ∷ codes "scratch"
    ∷ codes "word" ∷ codes "bool" ∷ codes "packed" ∷ codes "unpacked" ∷ codes "overlay" ∷ codes "true" ∷ codes "false"
    ∷ codes "_" ∷ []

abbrev pub signs : List (List ℕ)
signs =
    codes "+" ∷ codes "-" ∷ codes "&" ∷ codes "|" ∷ codes "^" ∷ codes "~" ∷ codes "<<" ∷ codes ">>" ∷ codes "<<<"
    ∷ codes "==" ∷ codes "!=" ∷ codes "<" ∷ codes "<=" ∷ codes ">" ∷ codes ">=" ∷ codes "&&" ∷ codes "||" ∷ codes "!"
    ∷ codes "<-" ∷ codes "=" ∷ codes ";" ∷ codes ":" ∷ codes "," ∷ codes "." ∷ codes "(" ∷ codes ")" ∷ codes "{"
    ∷ codes "}" ∷ codes "[" ∷ codes "]" ∷ codes "##" ∷ []

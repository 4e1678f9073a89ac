-- What the bytes of one token spell.
use Rattle.std.specs.Prelude.{◌≡◌, ℕ, ◌+◌, ◌-◌, ◌*◌, ◌≤◌, ◌<◌, ◌^◌, List, [], ◌∷◌, length, Bool, true, ◌||◌, ◌&&◌, nat_le, cond, Option, Some, None, position, bytes_eq}
use Rattle.nv_ast.specs.declared.token.Sort.{Sort}
use Rattle.nv_ast.specs.declared.token.Sort.TheVariants.{Word, Number, Key, Sign}
use Rattle.nv_base.specs.Name.{IsWord}
use Rattle.nv_text.specs.Tables.{keywords, signs}

-- each byte passes the test
abbrev pub Every : (ℕ → Bool) → List ℕ → Type 0
Every p [] = Unit {0}
Every p (b ∷ bs) = (p b ≡ true) × Every p bs

-- a decimal digit
abbrev pub is_digit : ℕ → Bool
is_digit b = nat_le 48 b && nat_le b 57

-- a hexadecimal digit of either case
abbrev pub is_hexadecimal : ℕ → Bool
is_hexadecimal b = is_digit b || (nat_le 65 b && nat_le b 70) || (nat_le 97 b && nat_le b 102)

-- how much a digit counts: 0 to 9, and 10 to 15 for the letters
abbrev pub digit_value : ℕ → ℕ
digit_value b = cond (nat_le b 57) (b - 48) (cond (nat_le b 70) (b - 55) (b - 87))

-- the number whose digits in a base are those of n and then these
abbrev pub number_after : ℕ → ℕ → List ℕ → ℕ
number_after base n [] = n
number_after base n (d ∷ ds) = number_after base (n * base + digit_value d) ds

-- decimal digits, or 0x and at least one hexadecimal digit, spell their number
pub data SpellsNumber : List ℕ → ℕ → Type 0 where
  decimal : {d : ℕ} {ds : List ℕ} → Every is_digit (d ∷ ds) → SpellsNumber (d ∷ ds) (number_after 10 0 (d ∷ ds))
  hexadecimal : {d : ℕ} {ds : List ℕ} → Every is_hexadecimal (d ∷ ds) → SpellsNumber (48 ∷ 120 ∷ d ∷ ds) (number_after 16 0 (d ∷ ds))

-- the number of the keyword with these bytes
unfoldable pub keyword_of : List ℕ → Option ℕ
keyword_of w = position (λ k. bytes_eq k w) keywords

-- the number of the sign with these bytes
unfoldable pub sign_of : List ℕ → Option ℕ
sign_of w = position (λ s. bytes_eq s w) signs

-- the bytes spell a token of this sort
abbrev pub Spells : List ℕ → Sort → Type 0
Spells w (Word x) = IsWord w × (keyword_of w ≡ None) × (x ≡ w)
Spells w (Number v) = SpellsNumber w v
Spells w (Key k) = IsWord w × (keyword_of w ≡ Some k)
Spells w (Sign k) = sign_of w ≡ Some k

-- a word of at most 64 bytes, a number below 2 ^ 32, a keyword or a sign
abbrev pub Fits : Sort → Type 0
Fits (Word x) = length x ≤ 64
Fits (Number v) = v < 2 ^ 32
Fits (Key k) = Unit {0}
Fits (Sign k) = Unit {0}

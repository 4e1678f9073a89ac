-- How numbers are spelled. A decimal number is spelled as `decimal n` or `signed_decimal z` of std: without leading
-- zeros, with `-` before a negative one.
use Rattle.std.specs.Prelude.{◌≡◌, ℕ, ◌/◌, ◌%◌, ◌^◌, List, [], ◌∷◌, length, map}
use Rattle.std.specs.Char.{digit_char}
use Rattle.std.specs.Str.Parse.{AllDigits, digits_value}

-- eight digits of base 16, of either case, that write n
pub record SpellsWord (spelling : List ℕ) (n : ℕ) : Type 0 where
  pub eight : length spelling ≡ 8
  pub digits : AllDigits 16 spelling
  pub value : digits_value 16 spelling ≡ n

-- a word as eight digits of base 16, in lower case
unfoldable pub hex_word : ℕ → List ℕ
hex_word n = map (λ place. digit_char (n / 16 ^ place % 16)) (7 ∷ 6 ∷ 5 ∷ 4 ∷ 3 ∷ 2 ∷ 1 ∷ 0 ∷ [])

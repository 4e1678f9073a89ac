-- A number has one spelling.
use Rattle.std.proofs.Common.{◌≡◌, ℕ, zero, suc, ◌+◌, ◌*◌, ◌^◌, ◌<◌, ◌≤◌, List, [], ◌∷◌, length, get_or, take, drop, sym, ap, ◌∙◌, arith, decimal, subst, ℤ, pos, negsuc, neg_ℤ, ◌≤ℤ◌}
use Rattle.std.proofs.Math.Nat.{pow-le-pow_right}
use Rattle.std.proofs.lemmas.List.{take_all, length-take-le}
use Rattle.nv_lines.specs.Number.{SpellsWord}
use Rattle.std.specs.Char.{digit_value}
use Rattle.std.specs.Str.Parse.{AllDigits, digits_value}
use Rattle.std.proofs.lemmas.Str.Parse.{IsNumeralModel, numerals_by_value, tells_digits, digits_value-take-le, digit_at}
use Rattle.std.proofs.lemmas.Int.Digits.{digits_value_more, digits_value-lt}
use Rattle.std.proofs.lemmas.Fmt.{digits_decimal, digits_value-decimal, decimal-digits_value, first_decimal, decimal_nonempty, decimal_digit, decimal_injective, signed_decimal_injective}
use Rattle.std.specs.Int.Signed.{mag}
use Rattle.std.specs.Fmt.{signed_decimal}
use Rattle.std.proofs.lemmas.Int.{ints}

pub own : IsNumeralModel (AllDigits 10) (digits_value 10)
own = numerals_by_value (AllDigits 10) tells_digits

-- each digit is one
pub digit_value_at : (radix : ℕ) (ds : List ℕ) (i : ℕ) → AllDigits radix ds → i < length ds → digit_value (get_or ds i 0) < radix
digit_value_at radix [] i h lt = absurd (omega arith)
digit_value_at radix (c ∷ cs) zero h lt = h.0
digit_value_at radix (c ∷ cs) (suc i) h lt = digit_value_at radix cs i h.1 (omega arith)

-- a decimal spelling is padded nowhere
pub decimal_unpadded : (n : ℕ) → n < 2 ^ 64 → get_or (decimal n) 0 0 ≡ 48 → 1 < length (decimal n) → ⊥
decimal_unpadded zero small zero_first long = let e = decimal_digit 0 (omega arith) in absurd (omega (arith, ap length e))
decimal_unpadded (suc n) small zero_first long = absurd (omega (arith, first_decimal (suc n) (omega arith) small))

-- digits that aren't padded are the spelling of their value
pub decimal_from_digits : (ds : List ℕ) → AllDigits 10 ds → 0 < length ds → (get_or ds 0 0 ≡ 48 → 1 < length ds → ⊥) → digits_value 10 ds < 2 ^ 64 → ds ≡ decimal (digits_value 10 ds)
decimal_from_digits ds all some unpadded small = sym (decimal-digits_value own ds all some (λ e. one e) small)
  where
    one : get_or ds 0 0 ≡ 48 → length ds ≡ 1
    one e = let f : 1 < length ds → ⊥ = unpadded e in omega (arith, f)

-- no spelling of a number up to `most` has a byte that is no digit
pub no_decimal_byte : (ds : List ℕ) (most i : ℕ) → most < 2 ^ 64 → i < length ds → 10 ≤ digit_value (get_or ds i 0) → (n : ℕ) → n ≤ most → ds ≡ decimal n → ⊥
no_decimal_byte ds most i small lt big n le e =
    let all : AllDigits 10 ds = subst (AllDigits 10) (sym e) (digits_decimal own n (omega arith)) in
    omega (arith, digit_value_at 10 ds i all lt)

-- nor digits in front that exceed it
pub no_decimal_front : (ds : List ℕ) (most i v d : ℕ) → most < 2 ^ 64 → i < length ds → v ≡ digits_value 10 (take i ds) → digit_value (get_or ds i 0) ≡ d → most < v * 10 + d → (n : ℕ) → n ≤ most → ds ≡ decimal n → ⊥
no_decimal_front ds most i v d small lt front last big n le e =
    let value : digits_value 10 ds ≡ n = ap (digits_value 10) e ∙ digits_value-decimal own n (omega arith) in
    omega (arith, digits_value-take-le 10 ds (i + 1) (omega arith), digits_value_more 10 ds i lt)

-- no bytes are the spelling of nothing
pub no_decimal_empty : (ds : List ℕ) (most : ℕ) → most < 2 ^ 64 → length ds ≡ 0 → (n : ℕ) → n ≤ most → ds ≡ decimal n → ⊥
no_decimal_empty ds most small none n le e = omega (arith, ap length e, decimal_nonempty n (omega arith))

-- a padded list is no spelling
pub no_decimal_padded : (ds : List ℕ) (most : ℕ) → most < 2 ^ 64 → get_or ds 0 0 ≡ 48 → 1 < length ds → (n : ℕ) → n ≤ most → ds ≡ decimal n → ⊥
no_decimal_padded ds most small zero_first long n le e =
    decimal_unpadded n (omega arith) (sym (ap (λ xs. get_or xs 0 0) e) ∙ zero_first) (omega (arith, ap length e))

-- at the end of the digits, their value is the number
pub decimal_at_end : (ds : List ℕ) (i v : ℕ) → length ds ≤ i → AllDigits 10 (take i ds) → v ≡ digits_value 10 (take i ds) → v < 2 ^ 64 → (length ds ≡ 0 → ⊥) → (get_or ds 0 0 ≡ 48 → 1 < length ds → ⊥) → ds ≡ decimal v
decimal_at_end ds i v past all value small some unpadded =
    let whole = take_all i ds past in
    let all' : AllDigits 10 ds = subst (AllDigits 10) whole all in
    let value' : v ≡ digits_value 10 ds = value ∙ ap (digits_value 10) whole in
    decimal_from_digits ds all' (omega (arith, some)) unpadded (omega arith) ∙ ap decimal (sym value')

-- seven digits of base 16 leave room for one more
pub word_front : (ds : List ℕ) (i : ℕ) → i < length ds → length ds ≡ 8 → AllDigits 16 (take i ds) → digits_value 16 (take i ds) < 2 ^ 28
word_front ds i lt eight all =
    let below = digits_value-lt 16 (take i ds) all in
    let front : length (take i ds) ≤ 7 = omega (arith, length-take-le i ds (omega arith)) in
    let room : 16 ^ length (take i ds) ≤ 16 ^ 7 = pow-le-pow_right (omega arith) front in
    omega arith

pub no_word_byte : (ds : List ℕ) (i : ℕ) → i < length ds → 16 ≤ digit_value (get_or ds i 0) → (n : ℕ) → SpellsWord ds n → ⊥
no_word_byte ds i lt big n w = omega (arith, digit_value_at 16 ds i w.digits lt)

pub word_at_end : (ds : List ℕ) (i v : ℕ) → length ds ≤ i → length ds ≡ 8 → AllDigits 16 (take i ds) → v ≡ digits_value 16 (take i ds) → SpellsWord ds v
word_at_end ds i v past eight all value =
    let whole = take_all i ds past in
    record { eight = eight; digits = subst (AllDigits 16) whole all; value = sym (value ∙ ap (digits_value 16) whole) }

-- the spelling of a number that isn't negative begins with a digit
pub decimal_first : (n : ℕ) → n < 2 ^ 64 → 48 ≤ get_or (decimal n) 0 0
decimal_first n small = (digit_at (decimal n) 0 (digits_decimal own n small) (decimal_nonempty n small)).0

-- no digits of a number up to `most`: no spelling of a negative one
pub no_negative : (ds : List ℕ) → ((n : ℕ) → 0 < n → n ≤ 2147483648 → ds ≡ decimal n → ⊥) → (z : ℤ) → negsuc 2147483647 ≤ℤ z → z ≤ℤ pos 2147483648 → 45 ∷ ds ≡ signed_decimal z → ⊥
no_negative ds none (pos n) low high e =
    let small : n < 2 ^ 64 = omega (arith, ints) in
    omega (arith, decimal_first n small, ap (λ xs. get_or xs 0 0) e)
no_negative ds none (negsuc k) low high e =
    none (suc k) (omega arith) (omega (arith, ints)) (ap (drop 1) e)

-- without `-` in front, no spelling but that of a number that isn't negative
pub no_signed : (bs : List ℕ) → ((rest : List ℕ) → bs ≡ 45 ∷ rest → ⊥) → ((n : ℕ) → n ≤ 2147483648 → bs ≡ decimal n → ⊥) → (z : ℤ) → negsuc 2147483647 ≤ℤ z → z ≤ℤ pos 2147483648 → bs ≡ signed_decimal z → ⊥
no_signed bs minus none (pos n) low high e = none n (omega (arith, ints)) e
no_signed bs minus none (negsuc k) low high e = minus (decimal (suc k)) e

pub decimal_one : (m n : ℕ) → m < 2 ^ 64 → n < 2 ^ 64 → decimal m ≡ decimal n → m ≡ n
decimal_one m n a b e = decimal_injective m n a b e

pub negative_digits : (ds : List ℕ) (n : ℕ) → 0 < n → ds ≡ decimal n → 45 ∷ ds ≡ signed_decimal (neg_ℤ (pos n))
negative_digits ds zero some e = absurd (omega arith)
negative_digits ds (suc k) some e = ap (λ xs. 45 ∷ xs) e

-- one number has this spelling
pub signed_one : (y z : ℤ) → mag y < 2 ^ 63 → mag z < 2 ^ 63 → signed_decimal y ≡ signed_decimal z → y ≡ z
signed_one y z a b e = signed_decimal_injective y z a b e

-- a number of at most 32 bits isn't large
pub mag_small : (z : ℤ) → negsuc 2147483647 ≤ℤ z → z ≤ℤ pos 2147483648 → mag z < 2 ^ 63
mag_small (pos n) low high = omega (arith, ints)
mag_small (negsuc n) low high = omega (arith, ints)

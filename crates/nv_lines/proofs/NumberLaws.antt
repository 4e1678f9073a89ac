-- What number spellings lack, and that a word's digits tell it.
use Rattle.std.proofs.Common.{◌≡◌, ◌≢◌, ℕ, suc, ◌/◌, ◌%◌, ◌^◌, ◌<◌, ◌≤◌, List, [], ◌∷◌, map, refl, sym, ap, ◌∙◌, arith, decimal, ℤ, pos, negsuc}
use Rattle.std.specs.Char.{digit_value, digit_char}
use Rattle.std.specs.Fmt.{signed_decimal}
use Rattle.std.specs.Int.Signed.{mag}
use Rattle.std.specs.Str.Parse.{AllDigits}
use Rattle.std.proofs.lemmas.Fmt.{digits_decimal}
use Rattle.std.proofs.lemmas.Str.{digit_value-digit_char}
use Rattle.std.specs.Int.Digits.{AllBelowBase, number_from_digits}
use Rattle.std.proofs.lemmas.Int.Digits.{digits_value_is}
use Rattle.std.proofs.Math.Nat.{div-div-eq-div-mul}
use Rattle.nv_lines.specs.Line.{Lacks}
use Rattle.nv_lines.specs.Number.{SpellsWord, hex_word}
use Rattle.nv_lines.proofs.NumberLemmas.{own}

-- digits lack what is no digit
pub Lacks-digits : (radix c : ℕ) (ds : List ℕ) → radix ≤ digit_value c → AllDigits radix ds → Lacks c ds
Lacks-digits radix c [] h all = tt
Lacks-digits radix c (d ∷ ds) h all =
    (λ e. let v : digit_value d ≡ digit_value c = ap digit_value e in omega (arith, all.0), Lacks-digits radix c ds h all.1)

pub Lacks-decimal : (c n : ℕ) → 10 ≤ digit_value c → n < 2 ^ 64 → Lacks c (decimal n)
Lacks-decimal c n h small = Lacks-digits 10 c (decimal n) h (digits_decimal own n small)

pub Lacks-signed : (c : ℕ) (z : ℤ) → 10 ≤ digit_value c → c ≢ 45 → mag z < 2 ^ 63 → Lacks c (signed_decimal z)
Lacks-signed c (pos n) h other small = Lacks-decimal c n h (omega arith)
Lacks-signed c (negsuc n) h other small = (λ e. other (sym e), Lacks-decimal c (suc n) h (omega arith))

pub Lacks-word : (c n : ℕ) (ds : List ℕ) → 16 ≤ digit_value c → SpellsWord ds n → Lacks c ds
Lacks-word c n ds h w = Lacks-digits 16 c ds h w.digits

-- eight digits write one word
pub word_one : (ds : List ℕ) (m n : ℕ) → SpellsWord ds m → SpellsWord ds n → m ≡ n
word_one ds m n v w = sym v.value ∙ w.value

-- the digits of a list of numbers below 16 are digits, and those numbers
all_digits : (ds : List ℕ) → AllBelowBase 16 ds → AllDigits 16 (map digit_char ds)
all_digits [] h = tt
all_digits (d ∷ ds) h = (omega (arith, digit_value-digit_char d (omega (arith, h.0)), h.0), all_digits ds h.1)

all_values : (ds : List ℕ) → AllBelowBase 16 ds → map digit_value (map digit_char ds) ≡ ds
all_values [] h = refl
all_values (d ∷ ds) h = let e = digit_value-digit_char d (omega (arith, h.0)) in let f = all_values ds h.1 in cc (e, f)

-- the numbers of a word's digits
nibbles : ℕ → List ℕ
nibbles n = map (λ place. n / 16 ^ place % 16) (7 ∷ 6 ∷ 5 ∷ 4 ∷ 3 ∷ 2 ∷ 1 ∷ 0 ∷ [])

nibbles_below : (n : ℕ) → AllBelowBase 16 (nibbles n)
unfolding nibbles
nibbles_below n = (omega arith, (omega arith, (omega arith, (omega arith, (omega arith, (omega arith, (omega arith, (omega arith, tt))))))))

nibbles_value : (n : ℕ) → n < 2 ^ 32 → number_from_digits 16 (nibbles n) ≡ n
unfolding nibbles
nibbles_value n small =
    let e1 = div-div-eq-div-mul n 16 16 in
    let e2 = div-div-eq-div-mul n 256 16 in
    let e3 = div-div-eq-div-mul n 4096 16 in
    let e4 = div-div-eq-div-mul n 65536 16 in
    let e5 = div-div-eq-div-mul n 1048576 16 in
    let e6 = div-div-eq-div-mul n 16777216 16 in
    omega arith

-- a word's digits spell it
pub hex_word_spells : (n : ℕ) → n < 2 ^ 32 → SpellsWord (hex_word n) n
unfolding hex_word nibbles
hex_word_spells n small =
    let below = nibbles_below n in
    record {
      eight = refl;
      digits = all_digits (nibbles n) below;
      value = digits_value_is 16 (map digit_char (nibbles n)) ∙ (ap (number_from_digits 16) (all_values (nibbles n) below) ∙ nibbles_value n small);
    }

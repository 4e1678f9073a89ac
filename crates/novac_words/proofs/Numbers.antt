-- The number that a word spells, by itself or after a key.
use Rattle.std.proofs.Common.{◌≡◌, ◌≢◌, ℕ, ◌<◌, ◌≤◌, ◌^◌, List, ◌++◌, Option, Some, None, Bool, true, false, ◌&&◌, if◌then◌else◌, length, drop, decimal, refl, ap, sym, ◌∙◌, arith}
use Rattle.std.specs.Prelude.{nat_le, IfNone}
use Rattle.std.specs.Str.{bytes_eq}
use Rattle.std.specs.Str.Parse.{digits_value}
use Rattle.std.proofs.Math.Seq.{drop-append_seam}
use Rattle.std.proofs.lemmas.Bool.Decides.{nat_tests}
use Rattle.std.proofs.lemmas.Fmt.{decimal_is_IsNumeral}
use Rattle.std.proofs.lemmas.List.{append_cancel_left}
use Rattle.std.proofs.lemmas.Slice.Eq.{bytes_eq-Decides}
use Rattle.novac_words.specs.Command.{number_in, option_of}

bytes_eq-same : (x y : List ℕ) → x ≡ y → bytes_eq x y ≡ true
bytes_eq-same x y e = (bytes_eq-Decides x y).1 e

-- by itself
value-of : (word : List ℕ) (n : ℕ) → word ≡ decimal n → n < 2 ^ 64 → digits_value 10 word ≡ n
value-of word n w small = ap (digits_value 10) w ∙ (decimal_is_IsNumeral n small).1

within : (word : List ℕ) (least most n v : ℕ) → v ≡ n → word ≡ decimal n → least ≤ n → n ≤ most → (if bytes_eq word (decimal v) && nat_le least v && nat_le v most then Some v else None) ≡ Some n
within word least most n v e w low high =
    let same : bytes_eq word (decimal v) ≡ true = bytes_eq-same word (decimal v) (w ∙ ap decimal (sym e)) in
    grind (arith, nat_tests)

below : (word : List ℕ) (least most n v : ℕ) → v ≡ n → n < least → (if bytes_eq word (decimal v) && nat_le least v && nat_le v most then Some v else None) ≡ None
below word least most n v e low = grind (arith, nat_tests)

pub number-within : (word : List ℕ) (least most n : ℕ) → word ≡ decimal n → n < 2 ^ 64 → least ≤ n → n ≤ most → number_in least most word ≡ Some n
number-within word least most n w small low high = within word least most n (digits_value 10 word) (value-of word n w small) w low high

pub number-below : (word : List ℕ) (least most n : ℕ) → word ≡ decimal n → n < 2 ^ 64 → n < least → number_in least most word ≡ None
number-below word least most n w small low = below word least most n (digits_value 10 word) (value-of word n w small) low

-- after a key
behind-key : (key word : List ℕ) (n : ℕ) → word ≡ key ++ decimal n → n < 2 ^ 64 → digits_value 10 (drop (length key) word) ≡ n
behind-key key word n w small =
    ap (λ (x : List ℕ). digits_value 10 (drop (length key) x)) w ∙ ap (digits_value 10) (drop-append_seam key (decimal n)) ∙ (decimal_is_IsNumeral n small).1

found : (key word : List ℕ) (least most n v : ℕ) → v ≡ n → word ≡ key ++ decimal n → least ≤ n → n ≤ most
    → (if bytes_eq word (key ++ decimal v) && nat_le least v && nat_le v most then Some v else None) ≡ Some n
found key word least most n v e w low high =
    let same : bytes_eq word (key ++ decimal v) ≡ true = bytes_eq-same word (key ++ decimal v) (w ∙ ap (λ (x : ℕ). key ++ decimal x) (sym e)) in
    grind (arith, nat_tests)

none-found : (key word : List ℕ) (least most n v : ℕ) → v ≡ n → n < least → (if bytes_eq word (key ++ decimal v) && nat_le least v && nat_le v most then Some v else None) ≡ None
none-found key word least most n v e low = grind (arith, nat_tests)

pub option-found : (key word : List ℕ) (least most n : ℕ) → word ≡ key ++ decimal n → n < 2 ^ 64 → least ≤ n → n ≤ most → option_of key least most word ≡ Some n
option-found key word least most n w small low high = found key word least most n (digits_value 10 (drop (length key) word)) (behind-key key word n w small) w low high

pub option-below : (key word : List ℕ) (least most n : ℕ) → word ≡ key ++ decimal n → n < 2 ^ 64 → n < least → option_of key least most word ≡ None
option-below key word least most n w small low = none-found key word least most n (digits_value 10 (drop (length key) word)) (behind-key key word n w small) low

-- the word, by what stands after the key
pub key-spelled : (key word spelling read : List ℕ) (n x : ℕ) → word ≡ key ++ drop x word → spelling ≡ drop x word → read ≡ spelling → read ≡ decimal n → word ≡ key ++ decimal n
key-spelled key word spelling read n x w s r d = w ∙ ap (λ (l : List ℕ). key ++ l) (sym s ∙ sym r ∙ d)

-- after the key stands no number up to `most`
none-spelled : (word text : List ℕ) (least most n : ℕ) → (word ≡ text → most < n) → (if bytes_eq word text && nat_le least n && nat_le n most then Some n else None) ≡ None
none-spelled word text least most n h = by (bytes_eq word text) refl
  where
    by : (b : Bool) → bytes_eq word text ≡ b → (if b && nat_le least n && nat_le n most then Some n else None) ≡ None
    by true e = let above : most < n = h ((bytes_eq-Decides word text).0 e) in grind (arith, nat_tests)
    by false e = refl

more : (most n : ℕ) → (n ≤ most → ⊥) → most < n
more most n h = omega (arith, h)

pub option-none : (key word spelling read : List ℕ) (least most x : ℕ) → word ≡ key ++ drop x word → spelling ≡ drop x word → read ≡ spelling → ((n : ℕ) → n ≤ most → read ≢ decimal n) → option_of key least most word ≡ None
option-none key word spelling read least most x w s r none =
    let n : ℕ = digits_value 10 (drop (length key) word) in
    none-spelled word (key ++ decimal n) least most n (λ e. more most n (λ le. none n le (r ∙ s ∙ append_cancel_left key (drop x word) (decimal n) (sym w ∙ e))))

pub if-none : (found : Option ℕ) (P : Type 0) → P → IfNone found P
if-none None P p = p
if-none (Some n) P p = tt

-- The length that a line tells, as it is read.
use Rattle.std.proofs.Common.{◌≡◌, ℕ, ◌+◌, ◌*◌, ◌^◌, ◌<◌, ◌≤◌, List, [], ◌∷◌, ◌++◌, Bool, true, false, ◌&&◌, Option, Some, None, length, take, get_or, map, refl, sym, ap, ◌∙◌, arith, codes}
use Rattle.std.specs.Prelude.{if◌then◌else◌, nat_lt, nat_le}
use Rattle.std.specs.Char.{digit_value, to_ascii_lowercase}
use Rattle.std.specs.Str.{bytes_eq}
use Rattle.std.specs.Str.Parse.{digits_value}
use Rattle.std.proofs.lemmas.Bool.{lt-ltb, le-ltb, ne_eqb}
use Rattle.std.proofs.lemmas.Bool.Decides.{same_from_decides}
use Rattle.std.proofs.lemmas.Slice.Eq.{bytes_eq-Decides}
use Rattle.std.proofs.lemmas.Int.Digits.{digits_value_more}
use Rattle.std.proofs.lemmas.List.{take_all}
use Rattle.std.proofs.lemmas.List.Folds.{list_all_at, list_all_more}
use Rattle.std.proofs.lemmas.Str.Parse.{digits_value-take-le}
use Rattle.nv_lines.specs.Line.{Lacks}
use Rattle.nova_lsp.specs.Heads.{are_digits, number_in, name_in, value_in, is_length, length_in, without_front, without_back}

some_if : (a b c : Bool) (n : ℕ) → a ≡ true → b ≡ true → c ≡ true → (if a && (b && c) then Some n else None) ≡ Some n
some_if true true true n h k l = refl
some_if false b c n h k l = cc
some_if true false c n h k l = cc
some_if true true false n h k l = cc

none_if : (a b c : Bool) (n : ℕ) → (b && c) ≡ false → (if a && (b && c) then Some n else None) ≡ None
none_if false b c n h = refl
none_if true b c n h = ap (λ x. if x then Some n else None) h

none_both : (b c : Bool) → c ≡ false → (b && c) ≡ false
none_both true c h = h
none_both false c h = refl

none_first : (b c : Bool) → b ≡ false → (b && c) ≡ false
none_first b c h = ap (λ x. x && c) h

-- a byte that is no digit
pub no_number : (ds : List ℕ) (i : ℕ) → i < length ds → 10 ≤ digit_value (get_or ds i 0) → number_in ds ≡ None
no_number ds i lt big =
    let digit = λ (d : ℕ). nat_lt (digit_value d) 10 in
    let not_all : are_digits ds ≡ false = list_all_at digit ds i 0 lt (le-ltb (digit_value (get_or ds i 0)) 10 big) in
    none_if (nat_lt 0 (length ds)) (are_digits ds) (nat_lt (digits_value 10 ds) (2 ^ 64)) (digits_value 10 ds) (none_first (are_digits ds) (nat_lt (digits_value 10 ds) (2 ^ 64)) not_all)

-- digits in front whose value is too large
pub too_large : (ds : List ℕ) (i value digit : ℕ) → i < length ds → value ≡ digits_value 10 (take i ds) → digit_value (get_or ds i 0) ≡ digit → 2 ^ 64 ≤ value * 10 + digit → number_in ds ≡ None
too_large ds i value digit lt front last big =
    let all : 2 ^ 64 ≤ digits_value 10 ds = omega (arith, digits_value-take-le 10 ds (i + 1) (omega arith), digits_value_more 10 ds i lt) in
    none_if (nat_lt 0 (length ds)) (are_digits ds) (nat_lt (digits_value 10 ds) (2 ^ 64)) (digits_value 10 ds)
    (none_both (are_digits ds) (nat_lt (digits_value 10 ds) (2 ^ 64)) (le-ltb (digits_value 10 ds) (2 ^ 64) all))

-- one digit more
pub digits_more : (ds : List ℕ) (i digit : ℕ) → i < length ds → are_digits (take i ds) ≡ true → digit_value (get_or ds i 0) ≡ digit → digit < 10 → are_digits (take (i + 1) ds) ≡ true
digits_more ds i digit lt front is small =
    let test = λ (d : ℕ). nat_lt (digit_value d) 10 in
    let one : test (get_or ds i 0) ≡ true = lt-ltb (digit_value (get_or ds i 0)) 10 (omega (arith, is, small)) in
    list_all_more test ds i 0 lt ∙ ap (λ b. b && test (get_or ds i 0)) front ∙ one

-- all digits were read
pub number_is : (ds : List ℕ) (i value : ℕ) → length ds ≤ i → 0 < length ds → value ≡ digits_value 10 (take i ds) → are_digits (take i ds) ≡ true → value < 2 ^ 64 → Some value ≡ number_in ds
number_is ds i value past some is digits small =
    let whole : take i ds ≡ ds = take_all i ds past in
    let same : value ≡ digits_value 10 ds = is ∙ ap (digits_value 10) whole in
    let below : digits_value 10 ds < 2 ^ 64 = omega (arith, same, small) in
    ap Some same ∙ sym (some_if (nat_lt 0 (length ds)) (are_digits ds) (nat_lt (digits_value 10 ds) (2 ^ 64)) (digits_value 10 ds)
    (lt-ltb 0 (length ds) some) (ap are_digits (sym whole) ∙ digits) (lt-ltb (digits_value 10 ds) (2 ^ 64) below))

-- what stands on both sides of the first colon
name_is : (name value : List ℕ) → Lacks 58 name → name_in (name ++ 58 ∷ value) ≡ name
name_is [] value h = refl
name_is (b ∷ bs) value h = ap (λ t. if t then [] else b ∷ name_in (bs ++ 58 ∷ value)) (ne_eqb b 58 h.0) ∙ ap (λ l. b ∷ l) (name_is bs value h.1)

value_is : (name value : List ℕ) → Lacks 58 name → value_in (name ++ 58 ∷ value) ≡ value
value_is [] value h = refl
value_is (b ∷ bs) value h = ap (λ t. if t then bs ++ 58 ∷ value else value_in (bs ++ 58 ∷ value)) (ne_eqb b 58 h.0) ∙ value_is bs value h.1

no_value : (line : List ℕ) → Lacks 58 line → value_in line ≡ []
no_value [] h = refl
no_value (b ∷ bs) h = ap (λ t. if t then bs else value_in bs) (ne_eqb b 58 h.0) ∙ no_value bs h.1

-- a line without a colon
pub no_colon : (line : List ℕ) → Lacks 58 line → length_in line ≡ None
no_colon line h = ap (λ v. if is_length line then number_in (without_back (without_front v)) else None) (no_value line h) ∙ same (is_length line)
  where
    same : (b : Bool) → (if b then number_in (without_back (without_front [])) else None) ≡ None
    same true = refl
    same false = refl

-- a line with another name
pub other_name : (line name value : List ℕ) (is : Bool) → line ≡ name ++ 58 ∷ value → Lacks 58 name
    → ((is ≡ true → map to_ascii_lowercase name ≡ map to_ascii_lowercase (codes "content-length")) × (map to_ascii_lowercase name ≡ map to_ascii_lowercase (codes "content-length") → is ≡ true))
    → is ≡ false → length_in line ≡ None
other_name line name value is e lacks test isnt =
    let test_of = λ (n : List ℕ). bytes_eq (map to_ascii_lowercase n) (map to_ascii_lowercase (codes "content-length")) in
    let named : test_of name ≡ false = sym (same_from_decides is (test_of name) test (bytes_eq-Decides (map to_ascii_lowercase name) (map to_ascii_lowercase (codes "content-length")))) ∙ isnt in
    let here : test_of (name_in line) ≡ false = ap test_of (ap name_in e ∙ name_is name value lacks) ∙ named in
    ap (λ b. if b then number_in (without_back (without_front (value_in line))) else None) (none_both (nat_le (length line) 64) (test_of (name_in line)) here)

-- a line with the name
pub length_is : (line name value trimmed : List ℕ) (is : Bool) (found : Option ℕ) → line ≡ name ++ 58 ∷ value → Lacks 58 name
    → ((is ≡ true → map to_ascii_lowercase name ≡ map to_ascii_lowercase (codes "content-length")) × (map to_ascii_lowercase name ≡ map to_ascii_lowercase (codes "content-length") → is ≡ true))
    → is ≡ true → nat_le (length line) 64 ≡ true → trimmed ≡ without_back (without_front value) → found ≡ number_in trimmed → found ≡ length_in line
length_is line name value trimmed is found e lacks test named_so short t f =
    let test_of = λ (n : List ℕ). bytes_eq (map to_ascii_lowercase n) (map to_ascii_lowercase (codes "content-length")) in
    let named : test_of name ≡ true = sym (same_from_decides is (test_of name) test (bytes_eq-Decides (map to_ascii_lowercase name) (map to_ascii_lowercase (codes "content-length")))) ∙ named_so in
    let here : test_of (name_in line) ≡ true = ap test_of (ap name_in e ∙ name_is name value lacks) ∙ named in
    let both : is_length line ≡ true = ap (λ b. b && test_of (name_in line)) short ∙ here in
    let same : value_in line ≡ value = ap value_in e ∙ value_is name value lacks in
    f ∙ ap number_in (t ∙ ap (λ v. without_back (without_front v)) (sym same)) ∙ sym (ap (λ b. if b then number_in (without_back (without_front (value_in line))) else None) both)

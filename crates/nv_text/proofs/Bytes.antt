-- Which bytes begin which tokens.
use Rattle.std.proofs.Common.{◌≡◌, ℕ, zero, suc, ◌≤◌, ◌<◌, Bool, true, false, List, [], ◌∷◌, ◌++◌, length, take, get_or, refl, ap, subst, ◌∙◌, arith, ◌⊎◌}
use Rattle.std.specs.Prelude.{Some, None, nat_lt, ◌==◌, ◌||◌, ◌&&◌, not, position, bytes_eq}
use Rattle.std.specs.List.{prefix_len, position_or_len}
use Rattle.std.proofs.lemmas.Slice.Eq.{bytes_eq-Decides}
use Rattle.std.proofs.lemmas.List.Sums.{passes_at_first}
use Rattle.std.proofs.lemmas.Bool.{and_parts}
use Rattle.std.proofs.lemmas.Bool.Decides.{nat_tests}
use Rattle.nv_base.specs.Name.{IsLetter, IsDigit, Letters, IsWord}
use Rattle.nv_text.specs.declared.spelling.Class.TheVariants.{Word as WordClass}
use Rattle.nv_text.specs.Tables.{keywords, signs}
use Rattle.nv_text.specs.inner.Classes.{in_class, starts_word}
use Rattle.nv_text.specs.Spelling.{Every, is_digit, SpellsNumber, decimal, hexadecimal, keyword_of, sign_of}
use Rattle.nv_text.specs.Tokens.{is_space}
use Rattle.nv_text.proofs.Runs.{prefix_every, prefix_cons}

abbrev pub in_word : ℕ → Bool
in_word b = starts_word b || is_digit b

pub letter_passes : (b : ℕ) → IsLetter b → starts_word b ≡ true
letter_passes b h = grind (arith, nat_tests)

pub passes_letter : (b : ℕ) → starts_word b ≡ true → IsLetter b
passes_letter b h = grind (arith, nat_tests)

in_word_passes : (b : ℕ) → IsLetter b ⊎ IsDigit b → in_word b ≡ true
in_word_passes b h = grind (arith, nat_tests)

passes_in_word : (b : ℕ) → in_word b ≡ true → IsLetter b ⊎ IsDigit b
passes_in_word b h = grind (arith, nat_tests)

letters_pass : (w : List ℕ) → Letters w → Every in_word w
letters_pass [] h = tt
letters_pass (b ∷ w) h = (in_word_passes b h.0, letters_pass w h.1)

pub pass_letters : (w : List ℕ) → Every in_word w → Letters w
pass_letters [] h = tt
pass_letters (b ∷ w) h = (passes_in_word b h.0, pass_letters w h.1)

letter_in_word : (b : ℕ) → starts_word b ≡ true → in_word b ≡ true
letter_in_word b h = rw h refl

pub word_passes : (w : List ℕ) → IsWord w → Every in_word w
word_passes [] h = absurd h
word_passes (b ∷ w) h = (letter_in_word b (letter_passes b h.0), letters_pass w h.1)

-- the run of word bytes after a letter is a word
pub run_is_word : (bytes rest : List ℕ) (b : ℕ) → bytes ≡ b ∷ rest → starts_word b ≡ true → IsWord (take (prefix_len (in_class WordClass) bytes) bytes)
run_is_word bytes rest b e h = rw (e, prefix_cons in_word b rest (letter_in_word b h)) (passes_letter b h, pass_letters (take (prefix_len in_word rest) rest) (prefix_every in_word rest))

-- the first byte of a word is a letter
pub word_first : (w rest us : List ℕ) (b : ℕ) → b ∷ us ≡ w ++ rest → IsWord w → starts_word b ≡ true
word_first [] rest us b e h = absurd h
word_first (c ∷ w) rest us b e h = let g : b ≡ c = cc in ap starts_word g ∙ letter_passes c h.0

pub digit_no_letter : (b : ℕ) → is_digit b ≡ true → starts_word b ≡ true → ⊥
digit_no_letter b h g = grind (arith, nat_tests)

-- the first byte of a number is a digit
pub number_first : (w rest us : List ℕ) (b v : ℕ) → b ∷ us ≡ w ++ rest → SpellsNumber w v → is_digit b ≡ true
number_first w rest us b v e (decimal {d = d} f) = let g : b ≡ d = cc in ap is_digit g ∙ f.0
number_first w rest us b v e (hexadecimal f) = let g : b ≡ 48 = cc in ap is_digit g ∙ refl

-- a byte that begins no word, no number, no blank
abbrev pub sign_byte : ℕ → Bool
sign_byte b = not (starts_word b) && not (is_digit b) && not (is_space b) && not (b == 47)

-- one to three bytes, and the first begins nothing else
abbrev pub sign_shape : List ℕ → Bool
sign_shape [] = false
sign_shape (b ∷ bs) = sign_byte b && nat_lt (length bs) 3

-- each of these lists passes the test
abbrev every_entry : (List ℕ → Bool) → List (List ℕ) → Bool
every_entry q [] = true
every_entry q (x ∷ xs) = q x && every_entry q xs

entry_passes : (q : List ℕ → Bool) (xs : List (List ℕ)) (k : ℕ) → every_entry q xs ≡ true → k < length xs → q (get_or xs k []) ≡ true
entry_passes q [] k f h = absurd (omega arith)
entry_passes q (x ∷ xs) zero f h = (and_parts (q x) (every_entry q xs) f).0
entry_passes q (x ∷ xs) (suc k) f h = entry_passes q xs k (and_parts (q x) (every_entry q xs) f).1 (omega arith)

-- the first entry that passes lies in the list
position_some : (p : List ℕ → Bool) (xs : List (List ℕ)) (k : ℕ) → position p xs ≡ Some k → (k < length xs) × (p (get_or xs k []) ≡ true)
position_some p xs k e = by_test (nat_lt (position_or_len p xs) (length xs)) refl
  where
    by_test : (t : Bool) → nat_lt (position_or_len p xs) (length xs) ≡ t → (k < length xs) × (p (get_or xs k []) ≡ true)
    by_test true g =
        let i : position_or_len p xs < length xs = grind (arith, nat_tests) in
        let f : Some (position_or_len p xs) ≡ Some k = rw g at e in
        let h : position_or_len p xs ≡ k = cc in
        let j = passes_at_first p xs [] i in
        (omega arith, rw h at j)
    by_test false g = let f : None ≡ Some k = rw g at e in let h : ⊥ = cc in absurd h

-- what a table's entry has, the bytes that it spells have
entry_of : (q : List ℕ → Bool) (xs : List (List ℕ)) (w : List ℕ) (k : ℕ) → every_entry q xs ≡ true → position (λ s. bytes_eq s w) xs ≡ Some k → (k < length xs) × (q w ≡ true)
entry_of q xs w k f e =
    let (h, g) = position_some (λ s. bytes_eq s w) xs k e in
    let same = (bytes_eq-Decides (get_or xs k []) w).0 g in
    (h, subst (λ s. q s ≡ true) same (entry_passes q xs k f h))

-- a sign's number is below 31, and its bytes have the shape of a sign
pub sign_is : (w : List ℕ) (k : ℕ) → sign_of w ≡ Some k → (k < 31) × (sign_shape w ≡ true)
unfolding sign_of
sign_is w k e = entry_of sign_shape signs w k refl e

pub keyword_is : (w : List ℕ) (k : ℕ) → keyword_of w ≡ Some k → k < 23
unfolding keyword_of
keyword_is w k e = (position_some (λ s. bytes_eq s w) keywords k e).0

-- the first byte of a sign begins nothing else
pub sign_first : (w rest us : List ℕ) (b k : ℕ) → b ∷ us ≡ w ++ rest → sign_of w ≡ Some k → sign_byte b ≡ true
sign_first [] rest us b k e f = let h : false ≡ true = (sign_is [] k f).1 in let i : ⊥ = cc in absurd i
sign_first (c ∷ w) rest us b k e f =
    let g : b ≡ c = cc in
    ap sign_byte g ∙ (and_parts (sign_byte c) (nat_lt (length w) 3) (sign_is (c ∷ w) k f).1).0

-- a sign has one to three bytes
pub sign_size : (w : List ℕ) (k : ℕ) → sign_of w ≡ Some k → (1 ≤ length w) × (length w ≤ 3)
sign_size [] k f = let h : false ≡ true = (sign_is [] k f).1 in let i : ⊥ = cc in absurd i
sign_size (c ∷ w) k f =
    let g : nat_lt (length w) 3 ≡ true = (and_parts (sign_byte c) (nat_lt (length w) 3) (sign_is (c ∷ w) k f).1).1 in
    let h : length w < 3 = grind (arith, nat_tests) in
    (omega arith, omega arith)

pub sign_no_letter : (b : ℕ) → sign_byte b ≡ true → starts_word b ≡ true → ⊥
sign_no_letter b h g = let f : false ≡ true = rw g at h in cc

pub sign_no_digit : (b : ℕ) → sign_byte b ≡ true → is_digit b ≡ true → ⊥
sign_no_digit b h g = grind (arith, nat_tests)

pub sign_below : (w : List ℕ) (k : ℕ) → sign_of w ≡ Some k → k < 31
sign_below w k e = (sign_is w k e).0

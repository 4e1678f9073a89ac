-- Which bytes are the longest token in front.
use Rattle.std.proofs.Common.{◌≡◌, ℕ, zero, suc, ◌+◌, ◌≤◌, ◌<◌, true, false, List, [], ◌∷◌, ◌++◌, length, take, drop, refl, sym, ap, ◌∙◌, arith, ◌-◌}
use Rattle.std.specs.Prelude.{Some, None}
use Rattle.std.specs.List.{prefix_len}
use Rattle.std.proofs.lemmas.List.Sums.{prefix_len-le-length}
use Rattle.nv_base.specs.Name.{IsWord}
use Rattle.nv_ast.specs.declared.token.Sort.{Sort}
use Rattle.nv_ast.specs.declared.token.Sort.TheVariants.{Word, Number, Key, Sign}
use Rattle.nv_text.specs.declared.spelling.Class.TheVariants.{Word as WordClass}
use Rattle.nv_text.specs.inner.Classes.{in_class, starts_word}
use Rattle.nv_text.specs.Spelling.{is_digit, is_hexadecimal, number_after, SpellsNumber, decimal, hexadecimal, keyword_of, sign_of, Spells}
use Rattle.nv_text.specs.Tokens.{Longest}
use Rattle.nv_text.specs.inner.Front.{LongestSign, NoSign, NoSignOf, First}
use Rattle.nv_text.proofs.Runs.{prefix_every, prefix_bound, prefix_cons}
use Rattle.nv_text.proofs.Bytes.{in_word, word_passes, word_first, digit_no_letter, number_first, sign_first, sign_size, sign_no_letter, sign_no_digit, run_is_word}

-- after a letter, the run of word bytes is the longest token
pub word_longest : (bytes : List ℕ) (s : Sort) → First starts_word bytes → Spells (take (prefix_len (in_class WordClass) bytes) bytes) s → Longest bytes s (prefix_len (in_class WordClass) bytes)
word_longest [] s h g = absurd h
word_longest (b ∷ us) s h g = record {
  within = prefix_len-le-length in_word (b ∷ us);
  spells = g;
  longest = longest;
}
  where
    longest : (w rest : List ℕ) (r : Sort) → b ∷ us ≡ w ++ rest → Spells w r → length w ≤ prefix_len in_word (b ∷ us)
    longest w rest (Word x) e f = prefix_bound in_word (b ∷ us) w rest e (word_passes w f.0)
    longest w rest (Number v) e f = absurd (digit_no_letter b (number_first w rest us b v e f) h)
    longest w rest (Key k) e f = prefix_bound in_word (b ∷ us) w rest e (word_passes w f.0)
    longest w rest (Sign k) e f = absurd (sign_no_letter b (sign_first w rest us b k e f) h)

-- the bytes of a word
pub word_spells : (bytes : List ℕ) → First starts_word bytes → IsWord (take (prefix_len (in_class WordClass) bytes) bytes)
word_spells [] h = absurd h
word_spells (b ∷ us) h = run_is_word (b ∷ us) us b refl h

-- where no hexadecimal number stands in front, the run of digits is the longest token
pub decimal_longest : (bytes : List ℕ) → First is_digit bytes → ((d : ℕ) (rest : List ℕ) → bytes ≡ 48 ∷ 120 ∷ d ∷ rest → is_hexadecimal d ≡ false) → Longest bytes (Number (number_after 10 0 (take (prefix_len is_digit bytes) bytes))) (prefix_len is_digit bytes)
decimal_longest [] h none = absurd h
decimal_longest (b ∷ us) h none = record {
  within = prefix_len-le-length is_digit (b ∷ us);
  spells = rw (prefix_cons is_digit b us h) (decimal (h, prefix_every is_digit us));
  longest = longest;
}
  where
    no_hexadecimal : (w rest : List ℕ) (v : ℕ) → b ∷ us ≡ w ++ rest → SpellsNumber w v → length w ≤ prefix_len is_digit (b ∷ us)
    no_hexadecimal w rest v e (decimal f) = prefix_bound is_digit (b ∷ us) w rest e f
    no_hexadecimal w rest v e (hexadecimal {d = d} {ds = ds} f) =
        let g = none d (ds ++ rest) e in
        let h : true ≡ false = sym f.0 ∙ g in
        let i : ⊥ = cc in absurd i

    longest : (w rest : List ℕ) (r : Sort) → b ∷ us ≡ w ++ rest → Spells w r → length w ≤ prefix_len is_digit (b ∷ us)
    longest w rest (Word x) e f = absurd (digit_no_letter b h (word_first w rest us b e f.0))
    longest w rest (Number v) e f = no_hexadecimal w rest v e f
    longest w rest (Key k) e f = absurd (digit_no_letter b h (word_first w rest us b e f.0))
    longest w rest (Sign k) e f = absurd (sign_no_digit b (sign_first w rest us b k e f) h)

-- the digits behind 0x are the longest token
hexadecimal_front : (us : List ℕ) (m n : ℕ) → prefix_len is_hexadecimal us ≡ suc m → n ≡ 2 + suc m → Longest (48 ∷ 120 ∷ us) (Number (number_after 16 0 (take (suc m) us))) n
hexadecimal_front [] m n e g = let h : ⊥ = cc in absurd h
hexadecimal_front (d ∷ us) m n e g = record {
  within = let i = prefix_len-le-length is_hexadecimal (d ∷ us) in omega arith;
  spells = let i : n ≡ suc (suc (suc m)) = omega arith in rw i (hexadecimal (let j = prefix_every is_hexadecimal (d ∷ us) in rw e at j));
  longest = longest;
}
  where
    number : (w rest : List ℕ) (v : ℕ) → 48 ∷ 120 ∷ d ∷ us ≡ w ++ rest → SpellsNumber w v → length w ≤ n
    number w rest v e' (decimal {ds = []} f) = omega arith
    number w rest v e' (decimal {ds = c ∷ ds} f) = let h : 120 ≡ c = cc in let i : false ≡ true = ap is_digit h ∙ f.1.0 in let j : ⊥ = cc in absurd j
    number w rest v e' (hexadecimal {d = c} {ds = ds} f) =
        let h : d ∷ us ≡ (c ∷ ds) ++ rest = cc in
        let i = prefix_bound is_hexadecimal (d ∷ us) (c ∷ ds) rest h f in
        omega (arith, i, e, g)

    longest : (w rest : List ℕ) (r : Sort) → 48 ∷ 120 ∷ d ∷ us ≡ w ++ rest → Spells w r → length w ≤ n
    longest w rest (Word x) e' f = absurd (digit_no_letter 48 refl (word_first w rest (120 ∷ d ∷ us) 48 e' f.0))
    longest w rest (Number v) e' f = number w rest v e' f
    longest w rest (Key k) e' f = absurd (digit_no_letter 48 refl (word_first w rest (120 ∷ d ∷ us) 48 e' f.0))
    longest w rest (Sign k) e' f = absurd (sign_no_digit 48 (sign_first w rest (120 ∷ d ∷ us) 48 k e' f) refl)

pub hexadecimal_longest : (bytes us : List ℕ) (m : ℕ) → bytes ≡ 48 ∷ 120 ∷ us → 0 < m → m ≡ prefix_len is_hexadecimal us → Longest bytes (Number (number_after 16 0 (take m us))) (2 + m)
hexadecimal_longest bytes us zero e h g = absurd (omega arith)
hexadecimal_longest bytes us (suc m) e h g = rw e (hexadecimal_front us m (2 + suc m) (sym g) refl)

-- after a byte that is no letter and no digit, the longest sign is the longest token
pub sign_longest : (bytes : List ℕ) (k n : ℕ) → (First starts_word bytes → ⊥) → (First is_digit bytes → ⊥) → LongestSign bytes k n → Longest bytes (Sign k) n
sign_longest bytes k n no_letter no_digit l = record {
  within = l.within;
  spells = l.spells;
  longest = longest bytes no_letter no_digit l.longest;
}
  where
    longest : (bytes : List ℕ) → (First starts_word bytes → ⊥) → (First is_digit bytes → ⊥) → ((w rest : List ℕ) (j : ℕ) → bytes ≡ w ++ rest → sign_of w ≡ Some j → length w ≤ n) → (w rest : List ℕ) (r : Sort) → bytes ≡ w ++ rest → Spells w r → length w ≤ n
    longest bytes a b c [] rest r e f = omega arith
    longest [] a b c (x ∷ w) rest r e f = let h : ⊥ = cc in absurd h
    longest (y ∷ us) a b c (x ∷ w) rest (Word v) e f = absurd (a (word_first (x ∷ w) rest us y e f.0))
    longest (y ∷ us) a b c (x ∷ w) rest (Number v) e f = absurd (b (number_first (x ∷ w) rest us y v e f))
    longest (y ∷ us) a b c (x ∷ w) rest (Key v) e f = absurd (a (word_first (x ∷ w) rest us y e f.0))
    longest (y ∷ us) a b c (x ∷ w) rest (Sign v) e f = c (x ∷ w) rest v e f

-- nothing that begins with a byte that is no letter, no digit and no sign
pub no_longest : (b : ℕ) (us : List ℕ) → (starts_word b ≡ true → ⊥) → (is_digit b ≡ true → ⊥) → NoSign (b ∷ us) → (w rest : List ℕ) (r : Sort) → b ∷ us ≡ w ++ rest → Spells w r → ⊥
no_longest b us no_letter no_digit n w rest (Word v) e f = no_letter (word_first w rest us b e f.0)
no_longest b us no_letter no_digit n w rest (Number v) e f = no_digit (number_first w rest us b v e f)
no_longest b us no_letter no_digit n w rest (Key v) e f = no_letter (word_first w rest us b e f.0)
no_longest b us no_letter no_digit n w rest (Sign v) e f = n.none w rest v e f

-- a sign is tried in three sizes
pub sign_three : (bytes : List ℕ) (k : ℕ) → 3 ≤ length bytes → sign_of (take 3 bytes) ≡ Some k → LongestSign bytes k 3
sign_three bytes k h e = record { within = h; spells = e; longest = λ w rest j f g. (sign_size w j g).1 }

pub sign_two : (bytes : List ℕ) (k : ℕ) → NoSignOf 3 bytes → 2 ≤ length bytes → sign_of (take 2 bytes) ≡ Some k → LongestSign bytes k 2
sign_two bytes k three h e = record { within = h; spells = e; longest = longest }
  where
    longest : (w rest : List ℕ) (j : ℕ) → bytes ≡ w ++ rest → sign_of w ≡ Some j → length w ≤ 2
    longest w rest j f g = let i = sign_size w j g in let n : length w ≡ 3 → ⊥ = λ e. three.none w rest j f e g in omega (arith, i, n)

pub sign_one : (bytes : List ℕ) (k : ℕ) → NoSignOf 3 bytes → NoSignOf 2 bytes → 1 ≤ length bytes → sign_of (take 1 bytes) ≡ Some k → LongestSign bytes k 1
sign_one bytes k three two h e = record { within = h; spells = e; longest = longest }
  where
    longest : (w rest : List ℕ) (j : ℕ) → bytes ≡ w ++ rest → sign_of w ≡ Some j → length w ≤ 1
    longest w rest j f g = let i = sign_size w j g in let n : length w ≡ 3 → ⊥ = λ e. three.none w rest j f e g in let m : length w ≡ 2 → ⊥ = λ e. two.none w rest j f e g in omega (arith, i, n, m)

pub no_sign : (bytes : List ℕ) → NoSignOf 3 bytes → NoSignOf 2 bytes → NoSignOf 1 bytes → NoSign bytes
no_sign bytes three two one = record { none = none }
  where
    none : (w rest : List ℕ) (k : ℕ) → bytes ≡ w ++ rest → sign_of w ≡ Some k → ⊥
    none w rest j f g = let i = sign_size w j g in let n : length w ≡ 3 → ⊥ = λ e. three.none w rest j f e g in let m : length w ≡ 2 → ⊥ = λ e. two.none w rest j f e g in let o : length w ≡ 1 → ⊥ = λ e. one.none w rest j f e g in omega (arith, i, n, m, o)

-- the keyword in front
pub key_found : (bytes : List ℕ) (n k : ℕ) → First starts_word bytes → n ≡ prefix_len (in_class WordClass) bytes → keyword_of (take n bytes) ≡ Some k → Longest bytes (Key k) n
key_found bytes n k h e f = rw e (word_longest bytes (Key k) h (word_spells bytes h, rw e at f))

-- the name in front
pub name_found : (bytes x : List ℕ) (n : ℕ) → First starts_word bytes → n ≡ prefix_len (in_class WordClass) bytes → keyword_of (take n bytes) ≡ None → x ≡ take n bytes → Longest bytes (Word x) n
name_found bytes x n h e f g = rw e (word_longest bytes (Word x) h (word_spells bytes h, rw e at f, rw e at g))

-- the bytes of the name in front
pub name_bytes : (bytes : List ℕ) (n : ℕ) → First starts_word bytes → n ≡ prefix_len (in_class WordClass) bytes → IsWord (take n bytes)
name_bytes bytes n h e = rw e (word_spells bytes h)

-- the hexadecimal number in front
pub hexadecimal_found : (bytes : List ℕ) (m v : ℕ) → bytes ≡ 48 ∷ 120 ∷ drop 2 bytes → 0 < m → m ≡ prefix_len is_hexadecimal (drop 2 bytes) → v ≡ number_after 16 0 (take (2 + m - 2) (drop 2 bytes)) → Longest bytes (Number v) (2 + m)
hexadecimal_found bytes m v e h f g =
    let i : 2 + m - 2 ≡ m = omega arith in
    let j : v ≡ number_after 16 0 (take m (drop 2 bytes)) = rw i at g in
    rw j (hexadecimal_longest bytes (drop 2 bytes) m e h f)

-- the decimal number in front
pub decimal_found : (bytes : List ℕ) (n v : ℕ) → First is_digit bytes → n ≡ prefix_len is_digit bytes → ((d : ℕ) (rest : List ℕ) → bytes ≡ 48 ∷ 120 ∷ d ∷ rest → is_hexadecimal d ≡ false) → v ≡ number_after 10 0 (take n bytes) → Longest bytes (Number v) n
decimal_found bytes n v h e none g = rw (g, e) (decimal_longest bytes h none)

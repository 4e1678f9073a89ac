-- Tokens that stand in front of what cannot go on with them.
use Rattle.std.proofs.Common.{◌≡◌, ℕ, suc, ◌+◌, ◌≤◌, false, List, [], ◌∷◌, ◌++◌, length, take, drop, refl, sym, ap, ◌∙◌, subst, arith, length-append, length-drop}
use Rattle.std.specs.Prelude.{Some, None}
use Rattle.std.specs.List.{prefix_len}
use Rattle.std.proofs.Math.Seq.{take-append_seam, drop-append_seam}
use Rattle.std.proofs.lemmas.Bool.{both_ways}
use Rattle.nv_ast.specs.declared.token.Token.{Token}
use Rattle.nv_ast.specs.declared.token.Sort.TheVariants.{Word, Key, Sign}
use Rattle.nv_base.specs.Name.{IsWord}
use Rattle.nv_ast.specs.Tokens.{at}
use Rattle.nv_text.specs.inner.Classes.{starts_word}
use Rattle.nv_text.specs.inner.Front.{First, LongestSign, NoSignOf}
use Rattle.nv_text.specs.Spelling.{Every, is_digit, keyword_of, sign_of}
use Rattle.nv_text.specs.Tokens.{Blank, space, comment, Reads, stop, skip, take_token}
use Rattle.nv_text.proofs.Bytes.{in_word, letter_passes, word_passes}
use Rattle.nv_text.proofs.LongestToken.{name_found, key_found, sign_longest, sign_one}
use Rattle.nv_text.proofs.Runs.{prefix_cons}
use Rattle.nv_generate.specs.inner.Program.{span}

-- ---- words
-- the bytes begin with none that goes on with a word
abbrev pub Breaks : List ℕ → Type 0
Breaks [] = Unit {0}
Breaks (b ∷ bs) = in_word b ≡ false

no-run : (bytes : List ℕ) → Breaks bytes → prefix_len in_word bytes ≡ 0
no-run [] h = refl
no-run (b ∷ bs) h = rw h refl

word-run : (w rest : List ℕ) → Every in_word w → Breaks rest → length w ≡ prefix_len in_word (w ++ rest)
word-run [] rest e h = sym (no-run rest h)
word-run (b ∷ w) rest e h = ap suc (word-run w rest e.1 h) ∙ sym (prefix_cons in_word b (w ++ rest) e.0)

word-begins : (w rest : List ℕ) → IsWord w → First starts_word (w ++ rest)
word-begins [] rest h = absurd h
word-begins (b ∷ w) rest h = letter_passes b h.0

-- a name, and what is read after it
pub name-read : (p q : ℕ) (w rest left : List ℕ) (ts : List Token) → IsWord w → keyword_of w ≡ None → length w ≤ 64 → Breaks rest → Reads (p + length w) rest ts q left → Reads p (w ++ rest) (at (span p (length w)) (Word w) ∷ ts) q left
name-read p q w rest left ts word no_key short h r =
    let front : take (length w) (w ++ rest) ≡ w = take-append_seam w rest in
    let back : drop (length w) (w ++ rest) ≡ rest = drop-append_seam w rest in
    let run = word-run w rest (word_passes w word) h in
    let key : keyword_of (take (length w) (w ++ rest)) ≡ None = ap keyword_of front ∙ no_key in
    let longest = name_found (w ++ rest) w (length w) (word-begins w rest word) run key (sym front) in
    take_token {p = p} {n = length w} {q = q} {bytes = w ++ rest} {left = left} {ts = ts} {s = Word w} longest short (subst (λ b. Reads (p + length w) b ts q left) (sym back) r)

-- a keyword
pub key-read : (p q k : ℕ) (w rest left : List ℕ) (ts : List Token) → IsWord w → keyword_of w ≡ Some k → Breaks rest → Reads (p + length w) rest ts q left → Reads p (w ++ rest) (at (span p (length w)) (Key k) ∷ ts) q left
key-read p q k w rest left ts word is_key h r =
    let front : take (length w) (w ++ rest) ≡ w = take-append_seam w rest in
    let back : drop (length w) (w ++ rest) ≡ rest = drop-append_seam w rest in
    let run = word-run w rest (word_passes w word) h in
    let key : keyword_of (take (length w) (w ++ rest)) ≡ Some k = ap keyword_of front ∙ is_key in
    let longest = key_found (w ++ rest) (length w) k (word-begins w rest word) run key in
    take_token {p = p} {n = length w} {q = q} {bytes = w ++ rest} {left = left} {ts = ts} {s = Key k} longest tt (subst (λ b. Reads (p + length w) b ts q left) (sym back) r)

-- ---- signs of one byte
-- the byte c is a sign, and with d after it none
pub record StandsAlone (c d k : ℕ) : Type 0 where
  pub sign : sign_of (c ∷ []) ≡ Some k
  pub no_two : sign_of (c ∷ d ∷ []) ≡ None
  pub no_three : (e : ℕ) → sign_of (c ∷ d ∷ e ∷ []) ≡ None
  pub no_word : starts_word c ≡ false
  pub no_number : is_digit c ≡ false

none-some : (w : List ℕ) (k : ℕ) → sign_of w ≡ None → sign_of w ≡ Some k → ⊥
none-some w k e f = let h : None ≡ Some k = sym e ∙ f in cc

no-pair : (c d k : ℕ) (rest : List ℕ) → StandsAlone c d k → NoSignOf 2 (c ∷ d ∷ rest)
no-pair c d k rest h = record { none = none }
  where
    none : (w more : List ℕ) (j : ℕ) → c ∷ d ∷ rest ≡ w ++ more → length w ≡ 2 → sign_of w ≡ Some j → ⊥
    none [] more j e n f = omega arith
    none (x ∷ []) more j e n f = omega arith
    none (x ∷ y ∷ []) more j e n f =
        let same : c ∷ d ∷ [] ≡ x ∷ y ∷ [] = cc in
        none-some (x ∷ y ∷ []) j (subst (λ w. sign_of w ≡ None) same h.no_two) f
    none (x ∷ y ∷ z ∷ w) more j e n f = omega arith

no-triple : (c d k : ℕ) (rest : List ℕ) → StandsAlone c d k → NoSignOf 3 (c ∷ d ∷ rest)
no-triple c d k rest h = record { none = none }
  where
    none : (w more : List ℕ) (j : ℕ) → c ∷ d ∷ rest ≡ w ++ more → length w ≡ 3 → sign_of w ≡ Some j → ⊥
    none [] more j e n f = omega arith
    none (x ∷ []) more j e n f = omega arith
    none (x ∷ y ∷ []) more j e n f = omega arith
    none (x ∷ y ∷ z ∷ []) more j e n f =
        let same : c ∷ d ∷ z ∷ [] ≡ x ∷ y ∷ z ∷ [] = cc in
        none-some (x ∷ y ∷ z ∷ []) j (subst (λ w. sign_of w ≡ None) same (h.no_three z)) f
    none (x ∷ y ∷ z ∷ u ∷ w) more j e n f = omega arith

pub sign-read : (p q c d k : ℕ) (rest left : List ℕ) (ts : List Token) → StandsAlone c d k → Reads (p + 1) (d ∷ rest) ts q left → Reads p (c ∷ d ∷ rest) (at (span p 1) (Sign k) ∷ ts) q left
sign-read p q c d k rest left ts h r =
    let one : LongestSign (c ∷ d ∷ rest) k 1 = sign_one (c ∷ d ∷ rest) k (no-triple c d k rest h) (no-pair c d k rest h) (omega arith) h.sign in
    let longest = sign_longest (c ∷ d ∷ rest) k 1 (both_ways (starts_word c) h.no_word) (both_ways (is_digit c) h.no_number) one in
    take_token {p = p} {n = 1} {q = q} {bytes = c ∷ d ∷ rest} {left = left} {ts = ts} {s = Sign k} longest tt r

-- ---- blanks
pub space-read : (p q : ℕ) (rest left : List ℕ) (ts : List Token) → Reads (p + 1) rest ts q left → Reads p (32 ∷ rest) ts q left
space-read p q rest left ts r = skip {p = p} {n = 1} {q = q} {bytes = 32 ∷ rest} {left = left} {ts = ts} (space refl) r

pub feed-read : (p q : ℕ) (rest left : List ℕ) (ts : List Token) → Reads (p + 1) rest ts q left → Reads p (10 ∷ rest) ts q left
feed-read p q rest left ts r = skip {p = p} {n = 1} {q = q} {bytes = 10 ∷ rest} {left = left} {ts = ts} (space refl) r

-- ---- places: what is read is as long as the places say
blank-within : (bytes : List ℕ) (n : ℕ) → Blank bytes n → n ≤ length bytes
blank-within bytes n (space f) = omega arith
blank-within bytes n (comment line rest e o d) = omega (arith, ap length e, length-append line rest)

pub reads-long : {p q : ℕ} {bytes left : List ℕ} {ts : List Token} → Reads p bytes ts q left → q + length left ≡ p + length bytes
reads-long stop = refl
reads-long (skip {n = n} {bytes = bytes} b r) = omega (arith, reads-long r, blank-within bytes n b, length-drop n bytes)
reads-long (take_token {n = n} {bytes = bytes} l f r) = omega (arith, reads-long r, l.within, length-drop n bytes)

-- The tokens of a made source are those of its text.
use Rattle.std.proofs.Common.{◌≡◌, ℕ, zero, suc, ◌+◌, ◌≤◌, ◌<◌, true, false, List, [], ◌∷◌, ◌++◌, length, refl, sym, ap, ◌∙◌, subst, arith, append_assoc, codes, decimal}
use Rattle.std.specs.Prelude.{None}
use Rattle.std.specs.Str.Parse.{AllDigits}
use Rattle.std.proofs.lemmas.Bool.Decides.{nat_tests}
use Rattle.std.proofs.lemmas.Fmt.{digits_decimal}
use Rattle.std.proofs.lemmas.Str.Parse.{digit_at}
use Rattle.nv_lines.proofs.NumberLemmas.{own}
use Rattle.nv_ast.specs.declared.token.Token.{Token}
use Rattle.nv_ast.specs.declared.token.Sort.TheVariants.{Word, Key}
use Rattle.nv_base.specs.Name.{IsWord}
use Rattle.nv_ast.specs.Tokens.{at}
use Rattle.nv_text.specs.Program.{IsTextOf}
use Rattle.nv_text.specs.Spelling.{Every, keyword_of, sign_of as sign_with}
use Rattle.nv_text.specs.Tokens.{Reads, stop, IsTokens}
use Rattle.nv_text.proofs.Bytes.{in_word, passes_letter, pass_letters}
use Rattle.nv_generate.specs.Made.{name_of, sign_of, line_text, lines_text, lines_from, made}
use Rattle.nv_generate.specs.inner.Lines.{IsLine, AreLines}
use Rattle.nv_generate.specs.inner.Program.{span, size_of, name_place, is_place, left_place, sign_place, right_place, end_place, next_place, index_after, line_tokens, lines_tokens, last_tokens, first_tokens, tokens_of, made_program}
use Rattle.nv_generate.specs.declared.draws.Line.{Line}
use Rattle.nv_generate.proofs.Derived.{derived}
use Rattle.nv_generate.proofs.Drawn.{lines-drawn, lines-number}
use Rattle.nv_generate.proofs.Heights.{name-short}
use Rattle.nv_generate.proofs.Spelled.{name-read, key-read, StandsAlone, sign-read, space-read, feed-read, reads-long}

-- ---- names are words, and no keywords
digit-in-word : (b : ℕ) → 48 ≤ b → b ≤ 57 → in_word b ≡ true
digit-in-word b h g = grind (arith, nat_tests)

digits-in-word : (ds : List ℕ) → AllDigits 10 ds → Every in_word ds
digits-in-word [] h = tt
digits-in-word (d ∷ ds) h =
    let range = digit_at (d ∷ ds) 0 h (omega arith) in
    (digit-in-word d range.0 range.1, digits-in-word ds h.1)

name-word : (n : ℕ) → n < 502 → IsWord (name_of n)
name-word zero h = (passes_letter 97 refl, tt)
name-word (suc zero) h = (passes_letter 98 refl, tt)
name-word (suc (suc i)) h = (passes_letter 120 refl, pass_letters (decimal i) (digits-in-word (decimal i) (digits_decimal own i (omega arith))))

-- no keyword begins with x
no-key-with-x : (ds : List ℕ) → keyword_of (120 ∷ ds) ≡ None
unfolding keyword_of
no-key-with-x ds = refl

name-no-key : (n : ℕ) → keyword_of (name_of n) ≡ None
unfolding keyword_of
name-no-key zero = refl
name-no-key (suc zero) = refl
name-no-key (suc (suc i)) = no-key-with-x (decimal i)

-- ---- a name before a space, and before `;`
name-then : (p q n b : ℕ) (rest left : List ℕ) (ts : List Token) → n < 502 → in_word b ≡ false → Reads (p + size_of n) (b ∷ rest) ts q left → Reads p (name_of n ++ b ∷ rest) (at (span p (size_of n)) (Word (name_of n)) ∷ ts) q left
name-then p q n b rest left ts lt h r = name-read p q (name_of n) (b ∷ rest) left ts (name-word n lt) (name-no-key n) (omega (arith, name-short n lt)) h r

-- ---- signs, before a space or a line feed
alone-plus : StandsAlone 43 32 0
unfolding sign_with
alone-plus = record { sign = refl; no_two = refl; no_three = λ e. refl; no_word = refl; no_number = refl }

alone-minus : StandsAlone 45 32 1
unfolding sign_with
alone-minus = record { sign = refl; no_two = refl; no_three = λ e. refl; no_word = refl; no_number = refl }

alone-and : StandsAlone 38 32 2
unfolding sign_with
alone-and = record { sign = refl; no_two = refl; no_three = λ e. refl; no_word = refl; no_number = refl }

alone-bar : StandsAlone 124 32 3
unfolding sign_with
alone-bar = record { sign = refl; no_two = refl; no_three = λ e. refl; no_word = refl; no_number = refl }

alone-caret : StandsAlone 94 32 4
unfolding sign_with
alone-caret = record { sign = refl; no_two = refl; no_three = λ e. refl; no_word = refl; no_number = refl }

alone-is : StandsAlone 61 32 19
unfolding sign_with
alone-is = record { sign = refl; no_two = refl; no_three = λ e. refl; no_word = refl; no_number = refl }

alone-semicolon : StandsAlone 59 10 20
unfolding sign_with
alone-semicolon = record { sign = refl; no_two = refl; no_three = λ e. refl; no_word = refl; no_number = refl }

alone-colon : StandsAlone 58 32 21
unfolding sign_with
alone-colon = record { sign = refl; no_two = refl; no_three = λ e. refl; no_word = refl; no_number = refl }

alone-comma : StandsAlone 44 32 22
unfolding sign_with
alone-comma = record { sign = refl; no_two = refl; no_three = λ e. refl; no_word = refl; no_number = refl }

alone-open : StandsAlone 91 97 28
unfolding sign_with
alone-open = record { sign = refl; no_two = refl; no_three = λ e. refl; no_word = refl; no_number = refl }

alone-close : StandsAlone 93 58 29
unfolding sign_with
alone-close = record { sign = refl; no_two = refl; no_three = λ e. refl; no_word = refl; no_number = refl }

alone-open-brace : StandsAlone 123 10 26
unfolding sign_with
alone-open-brace = record { sign = refl; no_two = refl; no_three = λ e. refl; no_word = refl; no_number = refl }

alone-close-brace : StandsAlone 125 10 27
unfolding sign_with
alone-close-brace = record { sign = refl; no_two = refl; no_three = λ e. refl; no_word = refl; no_number = refl }

-- the five operators
alone-five : (o : ℕ) → o < 5 → StandsAlone (sign_of o) 32 o
alone-five zero h = alone-plus
alone-five (suc zero) h = alone-minus
alone-five (suc (suc zero)) h = alone-and
alone-five (suc (suc (suc zero))) h = alone-bar
alone-five (suc (suc (suc (suc zero)))) h = alone-caret
alone-five (suc (suc (suc (suc (suc o))))) h = absurd (omega arith)

-- ---- a line, with what follows
abbrev line_bytes : ℕ → Line → List ℕ → List ℕ
line_bytes i line rest = codes "let" ++ 32 ∷ (name_of (suc (suc i)) ++ 32 ∷ 61 ∷ 32 ∷ (name_of line.left ++ 32 ∷ sign_of line.operator ∷ 32 ∷ (name_of line.right ++ 59 ∷ 10 ∷ rest)))

line-split : (i : ℕ) (line : Line) (rest : List ℕ) → line_text i line ++ rest ≡ line_bytes i line rest
line-split i line rest =
    let last : List ℕ = codes ";" ++ 10 ∷ [] in
    let right : List ℕ = 32 ∷ sign_of line.operator ∷ 32 ∷ (name_of line.right ++ last) in
    let left : List ℕ = codes " = " ++ (name_of line.left ++ right) in
    ap (λ t. codes "let " ++ t)
    (append_assoc (name_of (suc (suc i))) left rest
    ∙ ap (λ t. name_of (suc (suc i)) ++ 32 ∷ 61 ∷ 32 ∷ t)
    (append_assoc (name_of line.left) right rest
    ∙ ap (λ t. name_of line.left ++ 32 ∷ sign_of line.operator ∷ 32 ∷ t) (append_assoc (name_of line.right) last rest)))

let-read : (p q : ℕ) (rest left : List ℕ) (ts : List Token) → Reads (p + 3) (32 ∷ rest) ts q left → Reads p (codes "let" ++ 32 ∷ rest) (at (span p 3) (Key 4) ∷ ts) q left
unfolding keyword_of
let-read p q rest left ts r = key-read p q 4 (codes "let") (32 ∷ rest) left ts (passes_letter 108 refl, pass_letters (101 ∷ 116 ∷ []) (refl, (refl, tt))) refl refl r

bytes-read : (i p q : ℕ) (line : Line) (rest left : List ℕ) (ts : List Token) → i < 500 → IsLine i line → Reads (next_place i p line) rest ts q left → Reads p (line_bytes i line rest) (line_tokens i p line ts) q left
bytes-read i p q line rest left ts lt h r =
    let r1 = feed-read (end_place i p line + 1) q rest left ts r in
    let r2 = sign-read (end_place i p line) q 59 10 20 rest left ts alone-semicolon r1 in
    let r3 = name-then (right_place i p line) q line.right 59 (10 ∷ rest) left _ (omega (arith, h.right)) refl r2 in
    let r4 = space-read (sign_place i p line + 1) q _ left _ r3 in
    let r5 = sign-read (sign_place i p line) q (sign_of line.operator) 32 line.operator _ left _ (alone-five line.operator h.operator) r4 in
    let r6 = space-read (left_place i p + size_of line.left) q _ left _ r5 in
    let r7 = name-then (left_place i p) q line.left 32 _ left _ (omega (arith, h.left)) refl r6 in
    let r8 = space-read (is_place i p + 1) q _ left _ r7 in
    let r9 = sign-read (is_place i p) q 61 32 19 _ left _ alone-is r8 in
    let r10 = space-read (name_place p + size_of (suc (suc i))) q _ left _ r9 in
    let r11 = name-then (name_place p) q (suc (suc i)) 32 _ left _ (omega arith) refl r10 in
    let r12 = space-read (p + 3) q _ left _ r11 in
    let-read p q _ left _ r12

line-read : (i p q : ℕ) (line : Line) (rest left : List ℕ) (ts : List Token) → i < 500 → IsLine i line → Reads (next_place i p line) rest ts q left → Reads p (line_text i line ++ rest) (line_tokens i p line ts) q left
line-read i p q line rest left ts lt h r = subst (λ b. Reads p b (line_tokens i p line ts) q left) (sym (line-split i line rest)) (bytes-read i p q line rest left ts lt h r)

lines-read : (i p q : ℕ) (lines : List Line) (rest left : List ℕ) (ts : List Token) → i + length lines ≤ 500 → AreLines i lines → Reads (index_after i p lines) rest ts q left → Reads p (lines_text i lines ++ rest) (lines_tokens i p lines ts) q left
lines-read i p q [] rest left ts le h r = r
lines-read i p q (line ∷ lines) rest left ts le h r =
    let more = lines-read (suc i) (next_place i p line) q lines rest left ts (omega arith) h.1 r in
    let whole = line-read i p q line (lines_text (suc i) lines ++ rest) left (lines_tokens (suc i) (next_place i p line) lines ts) (omega arith) h.0 more in
    subst (λ b. Reads p b (line_tokens i p line (lines_tokens (suc i) (next_place i p line) lines ts)) q left) (sym (append_assoc (line_text i line) (lines_text (suc i) lines) rest)) whole

-- ---- the last name and its brace
last-read : (name p : ℕ) → name < 502 → Reads p (name_of name ++ (codes " }" ++ 10 ∷ [])) (last_tokens name p) (p + size_of name + 1 + 1 + 1) []
last-read name p lt =
    let q = p + size_of name + 1 + 1 + 1 in
    let r1 = feed-read (p + size_of name + 1 + 1) q [] [] [] (stop {p = q} {bytes = []}) in
    let r2 = sign-read (p + size_of name + 1) q 125 10 27 [] [] [] alone-close-brace r1 in
    let r3 = space-read (p + size_of name) q (125 ∷ 10 ∷ []) [] _ r2 in
    name-then p q name 32 (125 ∷ 10 ∷ []) [] _ lt refl r3

-- ---- the first line
plain-name : (p q b c : ℕ) (rest left : List ℕ) (ts : List Token) → in_word c ≡ false → IsWord (b ∷ []) → keyword_of (b ∷ []) ≡ None → Reads (p + 1) (c ∷ rest) ts q left → Reads p (b ∷ c ∷ rest) (at (span p 1) (Word (b ∷ [])) ∷ ts) q left
plain-name p q b c rest left ts h w k r = name-read p q (b ∷ []) (c ∷ rest) left ts w k (omega arith) h r

word-read : (p q b : ℕ) (rest left : List ℕ) (ts : List Token) → in_word b ≡ false → Reads (p + 4) (b ∷ rest) ts q left → Reads p (codes "word" ++ b ∷ rest) (at (span p 4) (Key 15) ∷ ts) q left
unfolding keyword_of
word-read p q b rest left ts h r = key-read p q 15 (codes "word") (b ∷ rest) left ts (passes_letter 119 refl, pass_letters (111 ∷ 114 ∷ 100 ∷ []) (refl, (refl, (refl, tt)))) refl h r

main-read : (p q : ℕ) (rest left : List ℕ) (ts : List Token) → Reads (p + 4) (91 ∷ rest) ts q left → Reads p (codes "main" ++ 91 ∷ rest) (at (span p 4) (Word (codes "main")) ∷ ts) q left
unfolding keyword_of
main-read p q rest left ts r = name-read p q (codes "main") (91 ∷ rest) left ts (passes_letter 109 refl, pass_letters (97 ∷ 105 ∷ 110 ∷ []) (refl, (refl, (refl, tt)))) refl (omega arith) refl r

fun-read : (p q : ℕ) (rest left : List ℕ) (ts : List Token) → Reads (p + 3) (32 ∷ rest) ts q left → Reads p (codes "fun" ++ 32 ∷ rest) (at (span p 3) (Key 2) ∷ ts) q left
unfolding keyword_of
fun-read p q rest left ts r = key-read p q 2 (codes "fun") (32 ∷ rest) left ts (passes_letter 102 refl, pass_letters (117 ∷ 110 ∷ []) (refl, (refl, tt))) refl refl r

first-read : (q : ℕ) (rest left : List ℕ) (ts : List Token) → Reads 35 rest ts q left → Reads 0 (codes "fun main[a: word, b: word]: word {" ++ 10 ∷ rest) (first_tokens ts) q left
first-read q rest left ts r =
    let r1 = feed-read 34 q rest left ts r in
    let r2 = sign-read 33 q 123 10 26 rest left ts alone-open-brace r1 in
    let r3 = word-read 28 q 32 _ left _ refl (space-read 32 q _ left _ r2) in
    let r4 = sign-read 26 q 58 32 21 _ left _ alone-colon (space-read 27 q _ left _ r3) in
    let r5 = sign-read 25 q 93 58 29 _ left _ alone-close r4 in
    let r6 = word-read 21 q 93 _ left _ refl r5 in
    let r7 = sign-read 19 q 58 32 21 _ left _ alone-colon (space-read 20 q _ left _ r6) in
    let r8 = plain-name 18 q 98 58 _ left _ refl (name-word 1 (omega arith)) (name-no-key 1) r7 in
    let r9 = sign-read 16 q 44 32 22 _ left _ alone-comma (space-read 17 q _ left _ r8) in
    let r10 = word-read 12 q 44 _ left _ refl r9 in
    let r11 = sign-read 10 q 58 32 21 _ left _ alone-colon (space-read 11 q _ left _ r10) in
    let r12 = plain-name 9 q 97 58 _ left _ refl (name-word 0 (omega arith)) (name-no-key 0) r11 in
    let r13 = sign-read 8 q 91 97 28 _ left _ alone-open r12 in
    let r14 = main-read 4 q _ left _ r13 in
    fun-read 0 q _ left _ (space-read 3 q _ left _ r14)

-- ---- the whole text
text-read : (seed size : ℕ) → size ≤ 500 → IsTokens (made seed size) (tokens_of (lines_from size 0 seed) (suc size))
text-read seed size le =
    let lines = lines_from size 0 seed in
    let n = lines-number size 0 seed in
    let p = index_after 0 35 lines in
    let q = p + size_of (suc size) + 1 + 1 + 1 in
    let last = last-read (suc size) p (omega arith) in
    let middle = lines-read 0 35 q lines (name_of (suc size) ++ (codes " }" ++ 10 ∷ [])) [] (last_tokens (suc size) p) (omega arith) (lines-drawn size 0 seed) last in
    let whole = first-read q (lines_text 0 lines ++ (name_of (suc size) ++ (codes " }" ++ 10 ∷ []))) [] (lines_tokens 0 35 lines (last_tokens (suc size) p)) middle in
    let long = reads-long whole in
    let end_ : q ≡ length (made seed size) = omega (arith, long) in
    subst (λ z. Reads 0 (made seed size) (tokens_of lines (suc size)) z []) end_ whole

pub text-of : (seed size : ℕ) → 1 ≤ size → size ≤ 500 → IsTextOf (made seed size) (made_program seed size)
text-of seed size some le =
    let lines = lines_from size 0 seed in
    let n = lines-number size 0 seed in
    record {
      tokens = tokens_of lines (suc size);
      read = text-read seed size le;
      program = derived lines (suc size) (length (made seed size)) (lines-drawn size 0 seed) (omega arith);
    }

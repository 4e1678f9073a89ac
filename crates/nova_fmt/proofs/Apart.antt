-- A token stays the longest one in front where the blanks behind it come or go.
use Rattle.std.proofs.Common.{◌≡◌, ℕ, zero, suc, ◌≤◌, ◌<◌, Bool, true, false, List, [], ◌∷◌, ◌++◌, length, get_or, refl, sym, ap, subst, ◌∙◌, arith, append-nil, length-append}
use Rattle.std.specs.Prelude.{Some, ◌==◌, ◌||◌, ◌&&◌, not, nat_lt, bytes_eq, if◌then◌else◌}
use Rattle.std.proofs.Math.Seq.{take-append_seam}
use Rattle.std.proofs.lemmas.Bool.{and_parts}
use Rattle.std.proofs.lemmas.Bool.Decides.{nat_tests}
use Rattle.std.proofs.lemmas.List.Quantifiers.{position-Some}
use Rattle.std.proofs.lemmas.Slice.Eq.{bytes_eq-Decides}
use Rattle.nv_ast.specs.declared.token.Sort.{Sort}
use Rattle.nv_ast.specs.declared.token.Sort.TheVariants.{Word, Number, Key as KeySort, Sign}
use Rattle.nv_text.specs.Tables.{signs}
use Rattle.nv_text.specs.Spelling.{Every, is_digit, is_hexadecimal, SpellsNumber, decimal, hexadecimal, sign_of, Spells}
use Rattle.nv_text.specs.Tokens.{is_space, Longest}
use Rattle.nv_text.proofs.Bytes.{in_word, word_passes, word_first, number_first, sign_size}
use Rattle.nv_text.specs.inner.Classes.{starts_word}
use Rattle.nova_fmt.specs.declared.kind.Kind.{Kind}
use Rattle.nova_fmt.specs.declared.kind.Kind.TheVariants.{Name, Key, Not, Tilde, Mark, Dot, Open, Close, OpenBrace, CloseBrace, OpenSquare, CloseSquare}
use Rattle.nova_fmt.specs.Kinds.{kind_of, key_kind, sign_kind, is_operator, clings_to_last, clings_to_next, is_open, is_close_brace, is_pair, joined}

-- ; : , . ( ) [ ] { } ~ are parts of no longer token
abbrev pub stands_alone : ℕ → Bool
stands_alone b =
    (b == 59) || (b == 58) || (b == 44) || (b == 46) || (b == 40) || (b == 41) || (b == 91) || (b == 93) || (b == 123) || (b == 125) || (b == 126)

-- a byte of which longer tokens are made
abbrev pub solid : ℕ → Bool
solid b = not (is_space b) && not (stands_alone b)

abbrev all_solid : List ℕ → Bool
all_solid [] = true
all_solid (b ∷ bs) = solid b && all_solid bs

abbrev long_solid : List ℕ → Bool
long_solid w = nat_lt (length w) 2 || all_solid w

word_byte_solid : (b : ℕ) → in_word b ≡ true → solid b ≡ true
word_byte_solid b h = grind (arith, nat_tests)

digit_in_word : (b : ℕ) → is_digit b ≡ true → in_word b ≡ true
digit_in_word b h = grind (arith, nat_tests)

hexadecimal_in_word : (b : ℕ) → is_hexadecimal b ≡ true → in_word b ≡ true
hexadecimal_in_word b h = grind (arith, nat_tests)

every_more : (p q : ℕ → Bool) → ((b : ℕ) → p b ≡ true → q b ≡ true) → (w : List ℕ) → Every p w → Every q w
every_more p q f [] h = tt
every_more p q f (b ∷ w) h = (f b h.0, every_more p q f w h.1)

every_is : (w : List ℕ) → all_solid w ≡ true → Every solid w
every_is [] h = tt
every_is (b ∷ w) h = let p = and_parts (solid b) (all_solid w) h in (p.0, every_is w p.1)

number_solid : (w : List ℕ) (v : ℕ) → SpellsNumber w v → Every solid w
number_solid w v (decimal f) = every_more is_digit solid (λ b h. word_byte_solid b (digit_in_word b h)) w f
number_solid w v (hexadecimal {d = d} {ds = ds} f) =
    (refl, (refl, every_more is_hexadecimal solid (λ b h. word_byte_solid b (hexadecimal_in_word b h)) (d ∷ ds) f))

-- a token has a byte
pub some_bytes : (r : Sort) → Spells [] r → ⊥
some_bytes (Word x) f = f.0
some_bytes (Number v) f = elim f [ ]
some_bytes (KeySort x) f = f.0
some_bytes (Sign k) f = let h = sign_size [] k f in omega arith

-- the sign of this number
sign_at : (w : List ℕ) (k : ℕ) → sign_of w ≡ Some k → (k < 31) × (get_or signs k [] ≡ w)
unfolding sign_of
sign_at w k f =
    let h = position-Some (λ s. bytes_eq s w) signs k [] f in
    (h.0, (bytes_eq-Decides (get_or signs k []) w).0 h.1)

abbrev every_below : (ℕ → Bool) → ℕ → Bool
every_below q zero = true
every_below q (suc n) = q n && every_below q n

below_passes : (q : ℕ → Bool) (m n : ℕ) → every_below q m ≡ true → n < m → q n ≡ true
below_passes q zero n e h = absurd (omega arith)
below_passes q (suc m) n e h = let p = and_parts (q m) (every_below q m) e in by_place p.0 (below_passes q m n p.1) (nat_lt n m) refl
  where
    by_place : q m ≡ true → (n < m → q n ≡ true) → (t : Bool) → nat_lt n m ≡ t → q n ≡ true
    by_place last front true g = front (grind (arith, nat_tests))
    by_place last front false g = let same : n ≡ m = grind (arith, nat_tests) in ap q same ∙ last

-- what each sign has, the bytes that spell one have
sign_has : (q : List ℕ → Bool) (w : List ℕ) (k : ℕ) → every_below (λ n. q (get_or signs n [])) 31 ≡ true → sign_of w ≡ Some k → q w ≡ true
sign_has q w k all f =
    let (place, same) = sign_at w k f in
    subst (λ s. q s ≡ true) same (below_passes (λ n. q (get_or signs n [])) 31 k all place)

sign_solid : (w : List ℕ) (k : ℕ) → sign_of w ≡ Some k → 2 ≤ length w → Every solid w
sign_solid w k f h = every_is w (long (sign_has long_solid w k refl f))
  where
    long : long_solid w ≡ true → all_solid w ≡ true
    long g = let short : nat_lt (length w) 2 ≡ false = grind (arith, nat_tests) in rw short at g

-- the bytes of a token of two bytes or more
pub token_solid : (w : List ℕ) (r : Sort) → Spells w r → 2 ≤ length w → Every solid w
token_solid w (Word x) f h = every_more in_word solid word_byte_solid w (word_passes w f.0)
token_solid w (Number v) f h = number_solid w v f
token_solid w (KeySort k) f h = every_more in_word solid word_byte_solid w (word_passes w f.0)
token_solid w (Sign k) f h = sign_solid w k f h

-- what may follow a token of a kind
pub data Apart (k : Kind) : List ℕ → Type 0 where
  ends : Apart k []
  spaced : {b : ℕ} {bs : List ℕ} → is_space b ≡ true → Apart k (b ∷ bs)
  token : (w bs : List ℕ) (s : Sort) → Spells w s → joined k (kind_of s) ≡ true → Apart k (w ++ bs)

-- a longer front goes on into what follows
pub record Longer (w v r rest : List ℕ) : Type 0 where
  pub byte : ℕ
  pub more : List ℕ
  pub front : v ≡ w ++ byte ∷ more
  pub back : r ≡ byte ∷ (more ++ rest)

pub longer : (w v r rest : List ℕ) → w ++ r ≡ v ++ rest → length w < length v → Longer w v r rest
longer [] [] r rest e h = absurd (omega arith)
longer [] (c ∷ x) r rest e h = record { byte = c; more = x; front = refl; back = e }
longer (a ∷ w) [] r rest e h = absurd (omega arith)
longer (a ∷ w) (b ∷ v) r rest e h =
    let first : a ≡ b = cc in
    let tail : w ++ r ≡ v ++ rest = cc in
    let l = longer w v r rest tail (omega arith) in
    record { byte = l.byte; more = l.more; front = ap (λ x. x ∷ v) (sym first) ∙ ap (λ x. a ∷ x) l.front; back = l.back }

-- ---- tokens that stand alone

abbrev starts_alone : List ℕ → Bool
starts_alone [] = false
starts_alone (b ∷ bs) = stands_alone b

-- the kinds of tokens of one such byte
abbrev pub alone_kind : Kind → Bool
alone_kind Mark = true
alone_kind Dot = true
alone_kind Tilde = true
alone_kind Open = true
alone_kind Close = true
alone_kind OpenBrace = true
alone_kind CloseBrace = true
alone_kind OpenSquare = true
alone_kind CloseSquare = true
alone_kind _ = false

-- each sign of such a kind begins with such a byte
abbrev sign_passes : ℕ → Bool
sign_passes n = not (alone_kind (sign_kind n)) || starts_alone (get_or signs n [])

pub first_alone : (w : List ℕ) (s : Sort) → Spells w s → alone_kind (kind_of s) ≡ true → starts_alone w ≡ true
first_alone w (Word x) f h = let i : false ≡ true = h in let j : ⊥ = cc in absurd j
first_alone w (Number v) f h = let i : false ≡ true = h in let j : ⊥ = cc in absurd j
first_alone w (KeySort k) f h = by_key (nat_lt k 12 || (k == 19)) h
  where
    by_key : (t : Bool) → alone_kind (if t then Key else Name) ≡ true → starts_alone w ≡ true
    by_key true g = let i : false ≡ true = g in let j : ⊥ = cc in absurd j
    by_key false g = let i : false ≡ true = g in let j : ⊥ = cc in absurd j
first_alone w (Sign k) f h =
    let (place, same) = sign_at w k f in
    let passes = below_passes sign_passes 31 k refl place in
    let first : starts_alone (get_or signs k []) ≡ true = rw h at passes in
    subst (λ s. starts_alone s ≡ true) same first

every_at : (p : ℕ → Bool) (w x : List ℕ) (b : ℕ) → Every p (w ++ b ∷ x) → p b ≡ true
every_at p [] x b h = h.0
every_at p (a ∷ w) x b h = every_at p w x b h.1

space_not_solid : (b : ℕ) → is_space b ≡ true → solid b ≡ true → ⊥
space_not_solid b h g = let f : false ≡ true = rw h at g in cc

alone_not_solid : (b : ℕ) → stands_alone b ≡ true → solid b ≡ true → ⊥
alone_not_solid b h g = grind (arith, nat_tests)

-- ---- what `joined` says

last_alone : (k : Kind) → clings_to_last k ≡ true → alone_kind k ≡ true
last_alone Mark h = refl
last_alone Dot h = refl
last_alone Close h = refl
last_alone CloseSquare h = refl
last_alone OpenSquare h = refl
last_alone _ h = let i : ⊥ = cc in absurd i

next_alone : (k : Kind) → clings_to_next k ≡ true → alone_kind k ≡ true
next_alone Open h = refl
next_alone OpenSquare h = refl
next_alone Dot h = refl
next_alone Tilde h = refl
next_alone _ h = let i : ⊥ = cc in absurd i

open_alone : (k : Kind) → is_open k ≡ true → alone_kind k ≡ true
open_alone Open h = refl
open_alone _ h = let i : ⊥ = cc in absurd i

brace_alone : (k : Kind) → is_close_brace k ≡ true → alone_kind k ≡ true
brace_alone CloseBrace h = refl
brace_alone _ h = let i : ⊥ = cc in absurd i

-- one of two neighbours stands alone, or they are a `!` and no operator
pub data Meets (k next : Kind) : Type 0 where
  next_is : alone_kind next ≡ true → Meets k next
  last_is : alone_kind k ≡ true → Meets k next
  after_not : k ≡ Not → is_operator next ≡ false → Meets k next

pair_meets : (k next : Kind) → is_pair k next ≡ true → Meets k next
pair_meets Not next h = by_test (is_operator next) refl h
  where
    by_test : (t : Bool) → is_operator next ≡ t → not t ≡ true → Meets Not next
    by_test true e g = let i : ⊥ = cc in absurd i
    by_test false e g = after_not refl e
pair_meets Name next h = next_is (open_alone next h)
pair_meets CloseSquare next h = next_is (open_alone next h)
pair_meets OpenBrace next h = next_is (brace_alone next h)
pair_meets _ next h = let i : ⊥ = cc in absurd i

pub joined_meets : (k next : Kind) → joined k next ≡ true → Meets k next
joined_meets k next h = by_tests (clings_to_last next) (clings_to_next k) refl refl h
  where
    by_tests : (p q : Bool) → clings_to_last next ≡ p → clings_to_next k ≡ q → (p || q || is_pair k next) ≡ true → Meets k next
    by_tests true q e f g = next_is (last_alone next e)
    by_tests false true e f g = last_is (next_alone k f)
    by_tests false false e f g = pair_meets k next g

-- ---- `!` and what follows it

-- a sign that begins with `!` and is longer has `=` behind it
abbrev after_bang : List ℕ → Bool
after_bang [] = true
after_bang (b ∷ []) = true
after_bang (b ∷ c ∷ bs) = not (b == 33) || (c == 61)

-- only operators begin with `=`
abbrev begins_equal : List ℕ → Bool
begins_equal [] = false
begins_equal (b ∷ bs) = b == 61

abbrev equal_passes : ℕ → Bool
equal_passes n = not (begins_equal (get_or signs n [])) || is_operator (sign_kind n)

abbrev is_not : Kind → Bool
is_not Not = true
is_not _ = false

abbrev bang_passes : ℕ → Bool
bang_passes n = not (is_not (sign_kind n)) || bytes_eq (get_or signs n []) (33 ∷ [])

key_kind_not : (k : ℕ) → key_kind k ≡ Not → ⊥
key_kind_not k h = by_key (nat_lt k 12 || (k == 19)) h
  where
    by_key : (t : Bool) → (if t then Key else Name) ≡ Not → ⊥
    by_key true g = cc
    by_key false g = cc

bang_spelt : (w : List ℕ) (s : Sort) → Spells w s → kind_of s ≡ Not → w ≡ 33 ∷ []
bang_spelt w (Word x) f h = let i : ⊥ = cc in absurd i
bang_spelt w (Number v) f h = let i : ⊥ = cc in absurd i
bang_spelt w (KeySort k) f h = absurd (key_kind_not k h)
bang_spelt w (Sign k) f h =
    let (place, same) = sign_at w k f in
    let passes = below_passes bang_passes 31 k refl place in
    let is : is_not (sign_kind k) ≡ true = ap is_not h in
    let spelt : bytes_eq (get_or signs k []) (33 ∷ []) ≡ true = rw is at passes in
    sym same ∙ (bytes_eq-Decides (get_or signs k []) (33 ∷ [])).0 spelt

letter_no_equal : (b : ℕ) → starts_word b ≡ true → b ≡ 61 → ⊥
letter_no_equal b h e = let i : false ≡ true = rw e at h in cc

digit_no_equal : (b : ℕ) → is_digit b ≡ true → b ≡ 61 → ⊥
digit_no_equal b h e = let i : false ≡ true = rw e at h in cc

equal_operator : (b : ℕ) (bs : List ℕ) (s : Sort) → Spells (b ∷ bs) s → b ≡ 61 → is_operator (kind_of s) ≡ true
equal_operator b bs (Word x) f e = absurd (letter_no_equal b (word_first (b ∷ bs) [] bs b (sym (append-nil (b ∷ bs))) f.0) e)
equal_operator b bs (Number v) f e = absurd (digit_no_equal b (number_first (b ∷ bs) [] bs b v (sym (append-nil (b ∷ bs))) f) e)
equal_operator b bs (KeySort k) f e = absurd (letter_no_equal b (word_first (b ∷ bs) [] bs b (sym (append-nil (b ∷ bs))) f.0) e)
equal_operator b bs (Sign k) f e =
    let (place, same) = sign_at (b ∷ bs) k f in
    let passes = below_passes equal_passes 31 k refl place in
    let begins : begins_equal (get_or signs k []) ≡ true = ap begins_equal same ∙ rw e refl in
    rw begins at passes

bang_longer : (c : ℕ) (bs : List ℕ) (q : Sort) → Spells (33 ∷ c ∷ bs) q → c ≡ 61
bang_longer c bs (Word x) f = let i : false ≡ true = word_first (33 ∷ c ∷ bs) [] (c ∷ bs) 33 (sym (append-nil (33 ∷ c ∷ bs))) f.0 in let j : ⊥ = cc in absurd j
bang_longer c bs (Number v) f = let i : false ≡ true = number_first (33 ∷ c ∷ bs) [] (c ∷ bs) 33 v (sym (append-nil (33 ∷ c ∷ bs))) f in let j : ⊥ = cc in absurd j
bang_longer c bs (KeySort k) f = let i : false ≡ true = word_first (33 ∷ c ∷ bs) [] (c ∷ bs) 33 (sym (append-nil (33 ∷ c ∷ bs))) f.0 in let j : ⊥ = cc in absurd j
bang_longer c bs (Sign k) f =
    let h : (c == 61) ≡ true = sign_has after_bang (33 ∷ c ∷ bs) k refl f in
    grind (arith, nat_tests)

-- ---- no token is longer than it was

long_front : (w x : List ℕ) (c : ℕ) → 0 < length w → 2 ≤ length (w ++ c ∷ x)
long_front w x c h = let e = length-append w (c ∷ x) in omega arith

-- the bytes of a longer token
front_solid : (w v r rest : List ℕ) (q : Sort) → 0 < length w → Spells v q → (l : Longer w v r rest) → Every solid (w ++ l.byte ∷ l.more)
front_solid w v r rest q some f l =
    token_solid (w ++ l.byte ∷ l.more) q (subst (λ x. Spells x q) l.front f) (long_front w l.more l.byte some)

first_not_solid : (w x : List ℕ) (c : ℕ) → starts_alone w ≡ true → Every solid (w ++ c ∷ x) → ⊥
first_not_solid [] x c h all = let i : false ≡ true = h in cc
first_not_solid (b ∷ w) x c h all = alone_not_solid b h all.0

no_longer : (w v r rest : List ℕ) (s q : Sort) → Spells w s → 0 < length w → Apart (kind_of s) r → Spells v q → Longer w v r rest → ⊥
no_longer w v r rest s q p some ends f l = let e : [] ≡ l.byte ∷ (l.more ++ rest) = l.back in cc
no_longer w v r rest s q p some (spaced {b = b} h) f l =
    let same : b ≡ l.byte = cc in
    space_not_solid b h (ap solid same ∙ every_at solid w l.more l.byte (front_solid w v _ rest q some f l))
no_longer w v r rest s q p some (token [] bs t g j) f l = some_bytes t g
no_longer w v r rest s q p some (token (b ∷ bs) more t g j) f l = by_meeting (joined_meets (kind_of s) (kind_of t) j)
  where
    same : b ≡ l.byte
    same = cc

    all : Every solid (w ++ l.byte ∷ l.more)
    all = front_solid w v _ rest q some f l

    by_meeting : Meets (kind_of s) (kind_of t) → ⊥
    by_meeting (next_is h) = alone_not_solid b (first_alone (b ∷ bs) t g h) (ap solid same ∙ every_at solid w l.more l.byte all)
    by_meeting (last_is h) = first_not_solid w l.more l.byte (first_alone w s p h) all
    by_meeting (after_not h o) =
        let bang = bang_spelt w s p h in
        let spelt : Spells (33 ∷ l.byte ∷ l.more) q = subst (λ x. Spells x q) (l.front ∙ ap (λ x. x ++ l.byte ∷ l.more) bang) f in
        let equal : b ≡ 61 = same ∙ bang_longer l.byte l.more q spelt in
        let i : false ≡ true = sym o ∙ equal_operator b bs t g equal in
        cc

-- a token is the longest one in front of what is apart from it
pub longest_apart : (w r : List ℕ) (s : Sort) → Spells w s → 0 < length w → Apart (kind_of s) r → Longest (w ++ r) s (length w)
longest_apart w r s spelt some a = record {
  within = let e = length-append w r in omega arith;
  spells = rw (take-append_seam w r) spelt;
  longest = longest;
}
  where
    longest : (v rest : List ℕ) (q : Sort) → w ++ r ≡ v ++ rest → Spells v q → length v ≤ length w
    longest v rest q e f = by_size (nat_lt (length w) (length v)) refl
      where
        by_size : (t : Bool) → nat_lt (length w) (length v) ≡ t → length v ≤ length w
        by_size true h = absurd (no_longer w v r rest s q spelt some a f (longer w v r rest e (grind (arith, nat_tests))))
        by_size false h = grind (arith, nat_tests)

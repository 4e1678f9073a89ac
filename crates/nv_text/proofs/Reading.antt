-- How a text is read, and that there is one way.
use Rattle.std.proofs.Common.{◌≡◌, ℕ, zero, suc, ◌+◌, ◌≤◌, ◌<◌, ◌^◌, Bool, true, false, List, [], ◌∷◌, ◌++◌, length, take, drop, refl, sym, ap, subst, ◌∙◌, arith, take-append-drop, length-take, append_assoc, append-nil, drop-drop, drop_of_length-le, length-drop, ◌⊎◌, inl, inr}
use Rattle.std.specs.Prelude.{Some, None, ◌||◌}
use Rattle.std.proofs.lemmas.Bool.Decides.{nat_tests}
use Rattle.std.proofs.lemmas.List.{nil_from_length}
use Rattle.nv_ast.specs.declared.token.Sort.{Sort}
use Rattle.nv_ast.specs.declared.token.Sort.TheVariants.{Word, Number as NumberSort, Key, Sign}
use Rattle.nv_ast.specs.declared.token.Token.{Token}
use Rattle.nv_text.specs.declared.error.TextError.{TextError}
use Rattle.nv_text.specs.declared.error.TextError.TheVariants.{NoMemory, Char, Number, Name, Syntax, Deep}
use Rattle.nv_text.specs.inner.Classes.{starts_word}
use Rattle.nv_text.specs.Spelling.{is_digit, SpellsNumber, decimal, hexadecimal, sign_of, Spells, Fits}
use Rattle.nv_text.specs.Tokens.{is_space, Blank, space, comment, Longest, Reads, stop, skip, take_token, IsTokens, NoToken, LargeNumber, LongWord, FaultHere, TokenFault}
use Rattle.nv_text.specs.inner.Front.{ReadTo, MayFail}
use Rattle.nv_text.proofs.Blanks.{blank_one, no_blank_left}
use Rattle.nv_text.proofs.Bytes.{word_first, number_first, sign_first, digit_no_letter, sign_no_letter, sign_no_digit, sign_byte}

-- a byte that begins a token
abbrev token_byte : ℕ → Bool
token_byte b = starts_word b || is_digit b || sign_byte b

-- the first byte of a token
token_first : (b : ℕ) (us w rest : List ℕ) (r : Sort) → b ∷ us ≡ w ++ rest → Spells w r → token_byte b ≡ true
token_first b us w rest (Word x) e f = rw (word_first w rest us b e f.0) refl
token_first b us w rest (NumberSort v) e f = first (starts_word b) (is_digit b) (number_first w rest us b v e f)
  where
    first : (p q : Bool) → q ≡ true → (p || q || sign_byte b) ≡ true
    first true q h = refl
    first false q h = rw h refl
token_first b us w rest (Key x) e f = rw (word_first w rest us b e f.0) refl
token_first b us w rest (Sign k) e f = first (starts_word b) (is_digit b) (sign_first w rest us b k e f)
  where
    first : (p q : Bool) → sign_byte b ≡ true → (p || q || sign_byte b) ≡ true
    first true q h = refl
    first false true h = refl
    first false false h = h

no_empty_sign : (k : ℕ) → sign_of [] ≡ Some k → ⊥
no_empty_sign k f = let h : sign_byte 48 ≡ true = sign_first [] (48 ∷ []) [] 48 k refl f in let i : false ≡ true = h in cc

-- the bytes of a token are some
some_bytes : (r : Sort) → Spells [] r → ⊥
some_bytes (Word x) f = f.0
some_bytes (NumberSort v) f = elim f [ ]
some_bytes (Key x) f = f.0
some_bytes (Sign k) f = no_empty_sign k f

space_begins_none : (b : ℕ) → is_space b ≡ true → token_byte b ≡ true → ⊥
space_begins_none b h g = grind (arith, nat_tests)

-- a blank is no token
blank_no_token : (bytes : List ℕ) (n m : ℕ) (s : Sort) → Blank bytes n → Longest bytes s m → ⊥
blank_no_token bytes n m s (space {b = b} {bs = bs} f) l = space_begins_none b f (token_first b bs (take m (b ∷ bs)) (drop m (b ∷ bs)) s (sym (take-append-drop m (b ∷ bs))) l.spells)
blank_no_token bytes n m s (comment line rest e o d) l =
    let i : 47 ∷ 47 ∷ (line ++ rest) ≡ take m bytes ++ drop m bytes = sym e ∙ sym (take-append-drop m bytes) in
    let h : token_byte 47 ≡ true = token_first 47 (47 ∷ (line ++ rest)) (take m bytes) (drop m bytes) s i l.spells in
    let j : false ≡ true = h in cc

-- the same bytes spell one number
number_one : (w : List ℕ) (v u : ℕ) → SpellsNumber w v → SpellsNumber w u → v ≡ u
number_one w v u (decimal f) (decimal g) = refl
number_one w v u (decimal f) (hexadecimal g) = let h : false ≡ true = f.1.0 in let i : ⊥ = cc in absurd i
number_one w v u (hexadecimal f) (decimal g) = let h : false ≡ true = g.1.0 in let i : ⊥ = cc in absurd i
number_one w v u (hexadecimal f) (hexadecimal g) = refl

-- the same bytes spell one token
spells_one : (w : List ℕ) (s r : Sort) → Spells w s → Spells w r → s ≡ r
spells_one [] s r f g = absurd (some_bytes s f)
spells_one (b ∷ w) (Word x) (Word y) f g = let h : x ≡ y = f.2 ∙ sym g.2 in ap Word h
spells_one (b ∷ w) (Word x) (NumberSort v) f g = absurd (digit_no_letter b (number_first (b ∷ w) [] w b v (sym (append-nil (b ∷ w))) g) (word_first (b ∷ w) [] w b (sym (append-nil (b ∷ w))) f.0))
spells_one (b ∷ w) (Word x) (Key k) f g = let h : None ≡ Some k = sym f.1 ∙ g.1 in let i : ⊥ = cc in absurd i
spells_one (b ∷ w) (Word x) (Sign k) f g = absurd (sign_no_letter b (sign_first (b ∷ w) [] w b k (sym (append-nil (b ∷ w))) g) (word_first (b ∷ w) [] w b (sym (append-nil (b ∷ w))) f.0))
spells_one (b ∷ w) (NumberSort v) (Word x) f g = absurd (digit_no_letter b (number_first (b ∷ w) [] w b v (sym (append-nil (b ∷ w))) f) (word_first (b ∷ w) [] w b (sym (append-nil (b ∷ w))) g.0))
spells_one (b ∷ w) (NumberSort v) (NumberSort u) f g = ap NumberSort (number_one (b ∷ w) v u f g)
spells_one (b ∷ w) (NumberSort v) (Key k) f g = absurd (digit_no_letter b (number_first (b ∷ w) [] w b v (sym (append-nil (b ∷ w))) f) (word_first (b ∷ w) [] w b (sym (append-nil (b ∷ w))) g.0))
spells_one (b ∷ w) (NumberSort v) (Sign k) f g = absurd (sign_no_digit b (sign_first (b ∷ w) [] w b k (sym (append-nil (b ∷ w))) g) (number_first (b ∷ w) [] w b v (sym (append-nil (b ∷ w))) f))
spells_one (b ∷ w) (Key k) (Word x) f g = let h : None ≡ Some k = sym g.1 ∙ f.1 in let i : ⊥ = cc in absurd i
spells_one (b ∷ w) (Key k) (NumberSort v) f g = absurd (digit_no_letter b (number_first (b ∷ w) [] w b v (sym (append-nil (b ∷ w))) g) (word_first (b ∷ w) [] w b (sym (append-nil (b ∷ w))) f.0))
spells_one (b ∷ w) (Key k) (Key j) f g = let h : Some k ≡ Some j = sym f.1 ∙ g.1 in let i : k ≡ j = cc in ap Key i
spells_one (b ∷ w) (Key k) (Sign j) f g = absurd (sign_no_letter b (sign_first (b ∷ w) [] w b j (sym (append-nil (b ∷ w))) g) (word_first (b ∷ w) [] w b (sym (append-nil (b ∷ w))) f.0))
spells_one (b ∷ w) (Sign k) (Word x) f g = absurd (sign_no_letter b (sign_first (b ∷ w) [] w b k (sym (append-nil (b ∷ w))) f) (word_first (b ∷ w) [] w b (sym (append-nil (b ∷ w))) g.0))
spells_one (b ∷ w) (Sign k) (NumberSort v) f g = absurd (sign_no_digit b (sign_first (b ∷ w) [] w b k (sym (append-nil (b ∷ w))) f) (number_first (b ∷ w) [] w b v (sym (append-nil (b ∷ w))) g))
spells_one (b ∷ w) (Sign k) (Key j) f g = absurd (sign_no_letter b (sign_first (b ∷ w) [] w b k (sym (append-nil (b ∷ w))) f) (word_first (b ∷ w) [] w b (sym (append-nil (b ∷ w))) g.0))
spells_one (b ∷ w) (Sign k) (Sign j) f g = let h : Some k ≡ Some j = sym f ∙ g in let i : k ≡ j = cc in ap Sign i

longest_above : (bytes : List ℕ) (n m : ℕ) (s r : Sort) → Longest bytes s n → Longest bytes r m → m ≤ n
longest_above bytes n m s r l k =
    let h = l.longest (take m bytes) (drop m bytes) r (sym (take-append-drop m bytes)) k.spells in
    let i = k.within in
    omega (arith, length-take m bytes)

-- the longest token in front is one
longest_one : (bytes : List ℕ) (n m : ℕ) (s r : Sort) → Longest bytes s n → Longest bytes r m → (n ≡ m) × (s ≡ r)
longest_one bytes n m s r l k =
    let h = longest_above bytes n m s r l k in
    let i = longest_above bytes m n r s k l in
    let e : n ≡ m = omega arith in
    (e, spells_one (take m bytes) s r (rw e at l.spells) k.spells)

-- where reading ends: no blank and no fitting token in front
record Final (left : List ℕ) : Type 0 where
  no_blank : (n : ℕ) → Blank left n → ⊥
  no_token : (s : Sort) (n : ℕ) → Longest left s n → Fits s → ⊥

-- where nothing is left, no token
none_longest : (s : Sort) (n : ℕ) → Longest [] s n → ⊥
none_longest s n l =
    let h : length {A = ℕ} (take n []) ≡ 0 = omega (arith, length-take n (let z : List ℕ = [] in z)) in
    let e : take n [] ≡ [] = nil_from_length (take n []) h in
    some_bytes s (rw e at l.spells)

final_left : Final []
final_left = record {
  no_blank = no_blank_left;
  no_token = λ s n l f. none_longest s n l;
}

too_large : (v : ℕ) (s : Sort) → 2 ^ 32 ≤ v → s ≡ NumberSort v → Fits s → ⊥
too_large v s h e f = let g : v < 2 ^ 32 = rw e at f in omega arith

too_long : (x : List ℕ) (s : Sort) → 64 < length x → s ≡ Word x → Fits s → ⊥
too_long x s h e f = let g : length x ≤ 64 = rw e at f in omega arith

final_fault : (left : List ℕ) (at : ℕ) (e : TextError) → FaultHere left at e → Final left
final_fault left at (Char p) f = record {
  no_blank = f.1.no_blank;
  no_token = λ s n l g. f.1.no_token (take n left) (drop n left) s (sym (take-append-drop n left)) l.spells;
}
final_fault left at (Number p) f = record {
  no_blank = λ n b. blank_no_token left n f.1.size (NumberSort f.1.value) b f.1.found;
  no_token = λ s n l g. too_large f.1.value s f.1.large (longest_one left n f.1.size s (NumberSort f.1.value) l f.1.found).1 g;
}
final_fault left at (Name p) f = record {
  no_blank = λ n b. blank_no_token left n f.1.size (Word f.1.word) b f.1.found;
  no_token = λ s n l g. too_long f.1.word s f.1.long (longest_one left n f.1.size s (Word f.1.word) l f.1.found).1 g;
}
final_fault left at NoMemory f = absurd f
final_fault left at (Syntax p) f = absurd f
final_fault left at (Deep p) f = absurd f

record SameEnd (ts us : List Token) (q r : ℕ) (left other : List ℕ) : Type 0 where
  tokens : ts ≡ us
  place : q ≡ r
  rest : left ≡ other

-- from one place there is one way to read as far as it goes
read_one : {p q r : ℕ} {bytes left other : List ℕ} {ts us : List Token} → Reads p bytes ts q left → Reads p bytes us r other → Final left → Final other → SameEnd ts us q r left other
read_one stop stop f g = record { tokens = refl; place = refl; rest = refl }
read_one stop (skip {n = n} b d) f g = absurd (f.no_blank n b)
read_one stop (take_token {n = n} {s = s} l h d) f g = absurd (f.no_token s n l h)
read_one (skip {n = n} b d) stop f g = absurd (g.no_blank n b)
read_one (skip {p = p} {n = n} {bytes = bytes} b d) (skip {n = m} {q = r} {left = other} {ts = us} b' d') f g =
    let e = blank_one bytes n m b b' in
    read_one d (subst (λ k. Reads (p + k) (drop k bytes) us r other) (sym e) d') f g
read_one (skip {n = n} {bytes = bytes} b d) (take_token {n = m} {s = s} l h d') f g = absurd (blank_no_token bytes n m s b l)
read_one (take_token {n = n} {s = s} l h d) stop f g = absurd (g.no_token s n l h)
read_one (take_token {n = n} {bytes = bytes} {s = s} l h d) (skip {n = m} b d') f g = absurd (blank_no_token bytes m n s b l)
read_one (take_token {p = p} {n = n} {bytes = bytes} {ts = ts} {s = s} l h d) (take_token {n = m} {q = r} {left = other} {ts = us} {s = s'} l' h' d') f g =
    let (e, i) = longest_one bytes n m s s' l l' in
    let j = read_one d (subst (λ k. Reads (p + k) (drop k bytes) us r other) (sym e) d') f g in
    let t : Token = record { span = record { first = p; after = p + n }; sort = s } in
    let u : Token = record { span = record { first = p; after = p + m }; sort = s' } in
    let k : t ≡ u = ap (λ z. record { span = record { first = p; after = p + z }; sort = s }) e ∙ ap (λ z. record { span = record { first = p; after = p + m }; sort = z }) i in
    record { tokens = ap (λ z. z ∷ ts) k ∙ ap (λ z. u ∷ z) j.tokens; place = j.place; rest = j.rest }

-- a text has one list of tokens at most
pub tokens_one : (bytes : List ℕ) (ts us : List Token) → IsTokens bytes ts → IsTokens bytes us → ts ≡ us
tokens_one bytes ts us d e = (read_one d e final_left final_left).tokens

no_fault_left : (at : ℕ) (e : TextError) → FaultHere [] at e → ⊥
no_fault_left at (Char p) f = f.1.some_byte refl
no_fault_left at (Number p) f = none_longest (NumberSort f.1.value) f.1.size f.1.found
no_fault_left at (Name p) f = none_longest (Word f.1.word) f.1.size f.1.found
no_fault_left at NoMemory f = f
no_fault_left at (Syntax p) f = f
no_fault_left at (Deep p) f = f

-- a text with a faulty token isn't read whole
pub fault_no_tokens : (bytes : List ℕ) (ts : List Token) (e : TextError) → IsTokens bytes ts → TokenFault bytes e → ⊥
fault_no_tokens bytes ts e d f =
    let s = read_one d f.reads final_left (final_fault f.left f.place e f.fault) in
    no_fault_left f.place e (subst (λ z. FaultHere z f.place e) (sym s.rest) f.fault)

none_found : (left : List ℕ) (s : Sort) (n : ℕ) → NoToken left → Longest left s n → ⊥
none_found left s n f l = f.no_token (take n left) (drop n left) s (sym (take-append-drop n left)) l.spells

number_no_word : (left : List ℕ) → LargeNumber left → LongWord left → ⊥
number_no_word left f g = let h = (longest_one left f.size g.size (NumberSort f.value) (Word g.word) f.found g.found).1 in let i : ⊥ = cc in i

-- one fault stands at a place
fault_one_here : (left : List ℕ) (at : ℕ) (e f : TextError) → FaultHere left at e → FaultHere left at f → e ≡ f
fault_one_here left at (Char p) (Char q) d g = ap Char (d.0 ∙ sym g.0)
fault_one_here left at (Char p) (Number q) d g = absurd (none_found left (NumberSort g.1.value) g.1.size d.1 g.1.found)
fault_one_here left at (Char p) (Name q) d g = absurd (none_found left (Word g.1.word) g.1.size d.1 g.1.found)
fault_one_here left at (Number p) (Char q) d g = absurd (none_found left (NumberSort d.1.value) d.1.size g.1 d.1.found)
fault_one_here left at (Number p) (Number q) d g = ap Number (d.0 ∙ sym g.0)
fault_one_here left at (Number p) (Name q) d g = absurd (number_no_word left d.1 g.1)
fault_one_here left at (Name p) (Char q) d g = absurd (none_found left (Word d.1.word) d.1.size g.1 d.1.found)
fault_one_here left at (Name p) (Number q) d g = absurd (number_no_word left g.1 d.1)
fault_one_here left at (Name p) (Name q) d g = ap Name (d.0 ∙ sym g.0)
fault_one_here left at NoMemory f d g = absurd d
fault_one_here left at (Syntax p) f d g = absurd d
fault_one_here left at (Deep p) f d g = absurd d
fault_one_here left at e NoMemory d g = absurd g
fault_one_here left at e (Syntax q) d g = absurd g
fault_one_here left at e (Deep q) d g = absurd g

-- the first faulty token of a text is one
pub fault_one : (bytes : List ℕ) (e f : TextError) → TokenFault bytes e → TokenFault bytes f → e ≡ f
fault_one bytes e f d g =
    let s = read_one d.reads g.reads (final_fault d.left d.place e d.fault) (final_fault g.left g.place f g.fault) in
    let h : FaultHere d.left d.place f = subst (λ z. FaultHere z d.place f) (sym s.rest) (subst (λ z. FaultHere g.left z f) (sym s.place) g.fault) in
    fault_one_here d.left d.place e f d.fault h

-- nothing is read yet
pub read_none : (bytes : List ℕ) → ReadTo bytes [] 0
read_none bytes = record { on = λ ts q left r. r }

-- a blank is left out
pub read_blank : (bytes : List ℕ) (done : List Token) (p n : ℕ) → ReadTo bytes done p → Blank (drop p bytes) n → ReadTo bytes done (p + n)
read_blank bytes done p n d b = record { on = λ ts q left r. d.on ts q left (skip b (rw (drop-drop n p bytes) r)) }

-- a token is added
pub read_token : (bytes : List ℕ) (done : List Token) (p n : ℕ) (s : Sort) → ReadTo bytes done p → Longest (drop p bytes) s n → Fits s → ReadTo bytes (done ++ record { span = record { first = p; after = p + n }; sort = s } ∷ []) (p + n)
read_token bytes done p n s d l f = record { on = λ ts q left r. rw append_assoc (d.on (record { span = record { first = p; after = p + n }; sort = s } ∷ ts) q left (take_token l f (rw (drop-drop n p bytes) r))) }

-- at the end of the bytes all tokens are read
pub read_all : (bytes : List ℕ) (done : List Token) (p : ℕ) → ReadTo bytes done p → p ≤ length bytes → length bytes ≤ p → IsTokens bytes done
read_all bytes done p d h g =
    let e : p ≡ length bytes = omega arith in
    let i : drop p bytes ≡ [] = drop_of_length-le bytes (omega arith) in
    let j : Reads p (drop p bytes) [] p [] = rw i stop in
    let k = d.on [] p [] j in
    let m : done ++ [] ≡ done = append-nil done in
    subst (λ z. Reads 0 bytes done z []) e (rw m at k)

-- the fault in front is the text's
pub read_fault : (bytes : List ℕ) (done : List Token) (p : ℕ) (e : TextError) → ReadTo bytes done p → FaultHere (drop p bytes) p e → TokenFault bytes e
read_fault bytes done p e d f =
    let k = d.on [] p (drop p bytes) stop in
    let m : done ++ [] ≡ done = append-nil done in
    record { place = p; before = done; left = drop p bytes; reads = rw m at k; fault = f }

-- a token has a byte
pub longest_some : (bytes : List ℕ) (s : Sort) (n : ℕ) → Longest bytes s n → 0 < n
longest_some bytes s zero l = absurd (some_bytes s l.spells)
longest_some bytes s (suc n) l = omega arith

-- what is wrong in front is wrong with the text
pub failed : (bytes rest : List ℕ) (done : List Token) (p : ℕ) (e : TextError) → rest ≡ drop p bytes → ReadTo bytes done p → MayFail rest p e → (e ≡ NoMemory) ⊎ TokenFault bytes e
failed bytes rest done p e h d (inl f) = inl f
failed bytes rest done p e h d (inr f) = inr (read_fault bytes done p e d (rw h at f))

-- where a text has tokens, only memory fails
pub failed_tokens : (bytes : List ℕ) (e : TextError) (ts : List Token) → (e ≡ NoMemory) ⊎ TokenFault bytes e → IsTokens bytes ts → e ≡ NoMemory
failed_tokens bytes e ts (inl f) d = f
failed_tokens bytes e ts (inr f) d = absurd (fault_no_tokens bytes ts e d f)

-- where a text has a fault, only memory fails otherwise
pub failed_fault : (bytes : List ℕ) (e f : TextError) → (e ≡ NoMemory) ⊎ TokenFault bytes e → TokenFault bytes f → (e ≡ NoMemory) ⊎ (e ≡ f)
failed_fault bytes e f (inl g) d = inl g
failed_fault bytes e f (inr g) d = inr (fault_one bytes e f g d)

pub within_rest : (bytes rest : List ℕ) (p n : ℕ) → rest ≡ drop p bytes → p ≤ length bytes → n ≤ length rest → p + n ≤ length bytes
within_rest bytes rest p n e h g = let i : n ≤ length (drop p bytes) = rw e at g in omega (arith, length-drop p bytes)

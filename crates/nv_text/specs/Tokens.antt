-- The tokens of a text, and its first faulty place.
use Rattle.std.specs.Prelude.{◌≡◌, ◌≢◌, ℕ, ◌+◌, ◌≤◌, ◌<◌, ◌^◌, List, [], ◌∷◌, ◌++◌, length, take, drop, Bool, true, ◌||◌, ◌==◌}
use Rattle.nv_ast.specs.declared.token.Sort.{Sort}
use Rattle.nv_ast.specs.declared.token.Sort.TheVariants.{Word, Number as NumberSort}
use Rattle.nv_ast.specs.declared.token.Token.{Token}
use Rattle.nv_text.specs.declared.error.TextError.{TextError}
use Rattle.nv_text.specs.declared.error.TextError.TheVariants.{NoMemory, Char, Number, Name, Syntax, Deep}
use Rattle.nv_text.specs.Spelling.{Spells, Fits}

-- space, tab, carriage return or line feed
abbrev pub is_space : ℕ → Bool
is_space b = (b == 32) || (b == 9) || (b == 13) || (b == 10)

-- no line feed among the bytes
abbrev pub OneLine : List ℕ → Type 0
OneLine [] = Unit {0}
OneLine (b ∷ bs) = (b ≢ 10) × OneLine bs

-- the text ends, or a line feed comes
abbrev pub EndsLine : List ℕ → Type 0
EndsLine [] = Unit {0}
EndsLine (b ∷ bs) = b ≡ 10

-- N bytes in front part tokens: a space, or a comment up to the end of its line
pub data Blank : List ℕ → ℕ → Type 0 where
  space : {b : ℕ} {bs : List ℕ} → is_space b ≡ true → Blank (b ∷ bs) 1
  comment : {bytes : List ℕ} (line rest : List ℕ) → bytes ≡ 47 ∷ 47 ∷ (line ++ rest) → OneLine line → EndsLine rest → Blank bytes (2 + length line)

-- the first n bytes are the longest token in front
pub record Longest (bytes : List ℕ) (s : Sort) (n : ℕ) : Type 0 where
  pub within : n ≤ length bytes
  pub spells : Spells (take n bytes) s
  pub longest : (w rest : List ℕ) (r : Sort) → bytes ≡ w ++ rest → Spells w r → length w ≤ n

-- from place p on, the bytes are blanks and these tokens, up to place q where the bytes `left` follow
pub data Reads : ℕ → List ℕ → List Token → ℕ → List ℕ → Type 0 where
  stop : {p : ℕ} {bytes : List ℕ} → Reads p bytes [] p bytes
  skip : {p n q : ℕ} {bytes left : List ℕ} {ts : List Token} → Blank bytes n → Reads (p + n) (drop n bytes) ts q left → Reads p bytes ts q left
  take_token : {p n q : ℕ} {bytes left : List ℕ} {ts : List Token} {s : Sort} → Longest bytes s n → Fits s → Reads (p + n) (drop n bytes) ts q left → Reads p bytes (record { span = record { first = p; after = p + n }; sort = s } ∷ ts) q left

-- these are the tokens of the whole text
abbrev pub IsTokens : List ℕ → List Token → Type 0
IsTokens bytes ts = Reads 0 bytes ts (length bytes) []

-- a byte in front that begins neither blank nor token
pub record NoToken (bytes : List ℕ) : Type 0 where
  pub some_byte : bytes ≢ []
  pub no_blank : (n : ℕ) → Blank bytes n → ⊥
  pub no_token : (w rest : List ℕ) (r : Sort) → bytes ≡ w ++ rest → Spells w r → ⊥

-- the token in front is a number of 2 ^ 32 or more
pub record LargeNumber (bytes : List ℕ) : Type 0 where
  pub value : ℕ
  pub size : ℕ
  pub found : Longest bytes (NumberSort value) size
  pub large : 2 ^ 32 ≤ value

-- the token in front is a word of more than 64 bytes
pub record LongWord (bytes : List ℕ) : Type 0 where
  pub word : List ℕ
  pub size : ℕ
  pub found : Longest bytes (Word word) size
  pub long : 64 < length word

-- the fault that stands in front at this place
abbrev pub FaultHere : List ℕ → ℕ → TextError → Type 0
FaultHere bytes at (Char p) = (p ≡ at) × NoToken bytes
FaultHere bytes at (Number p) = (p ≡ at) × LargeNumber bytes
FaultHere bytes at (Name p) = (p ≡ at) × LongWord bytes
FaultHere bytes at NoMemory = ⊥
FaultHere bytes at (Syntax p) = ⊥
FaultHere bytes at (Deep p) = ⊥

-- blanks and tokens up to a place, and there the fault
pub record TokenFault (bytes : List ℕ) (e : TextError) : Type 0 where
  pub place : ℕ
  pub before : List Token
  pub left : List ℕ
  pub reads : Reads 0 bytes before place left
  pub fault : FaultHere left place e

-- What a parsing function says of its tokens: where it reads a phrase, that this is the only way to go on with the next token;
-- where it fails, that the tokens before one begin a phrase, and with that one they begin none, or none that is low enough.
use Rattle.std.specs.Prelude.{◌≡◌, ℕ, ◌-◌, ◌≤◌, List, [], ◌∷◌, ◌++◌, Bool, true, false}
use Rattle.std.specs.Borrow.{Bor}
use Rattle.nv_ast.specs.declared.token.Span.{Span}
use Rattle.nv_ast.specs.declared.token.Token.{Token}
use Rattle.nv_ast.specs.declared.token.Sort.{Sort}
use Rattle.nv_ast.specs.declared.token.Sort.TheVariants.{Word, Number, Key, Sign}
use Rattle.nv_ast.specs.Tokens.{at}
use Rattle.nv_text_parser.specs.declared.cursor.Failure.{Failure}
use Rattle.nv_text_parser.specs.declared.cursor.Failure.TheVariants.{NoMemory, Syntax, Deep}

-- ---- how high a phrase may be

pub data Bound : Type 0 where
  NoBound : Bound
  AtMost : (n : ℕ) → Bound

-- this height is allowed
abbrev pub Within : Bound → ℕ → Type 0
Within NoBound h = Unit {0}
Within (AtMost n) h = h ≤ n

-- some height is allowed
abbrev pub HasRoom : Bound → Type 0
HasRoom NoBound = Unit {0}
HasRoom (AtMost n) = 1 ≤ n

-- what is allowed of a part: the same, one less inside a node, or 100 where the part counts by itself
pub data Part : Type 0 where
  Same : Part
  Inside : Part
  Alone : Part

abbrev pub room_of : Part → ℕ → ℕ
room_of Same n = n
room_of Inside n = n - 1
room_of Alone n = 100

abbrev pub part_of : Part → Bound → Bound
part_of Same b = b
part_of Inside NoBound = NoBound
part_of Inside (AtMost n) = AtMost (n - 1)
part_of Alone NoBound = NoBound
part_of Alone (AtMost n) = AtMost 100

-- no bound, or where only the height is at fault, the room that there is
abbrev pub bound_of : Bool → ℕ → Bound
bound_of false room = NoBound
bound_of true room = AtMost room

-- ---- phrases

-- phrases within a bound, from the first tokens up to the second
abbrev pub Phrases : Type 1
Phrases = Bound → List Token → List Token → Type 0

-- what may follow a phrase
abbrev pub Follow : Type 1
Follow = List Token → Type 0

abbrev pub Anything : Follow
Anything k = Unit {0}

-- this sign
abbrev pub Ahead : ℕ → Follow
Ahead n [] = ⊥
Ahead n (t ∷ ts) = t.sort ≡ Sign n

-- a tree of a relation, low enough
pub record Phrase {T : Type 0} (R : T → List Token → List Token → Type 0) (Low : Bound → T → Type 0) (b : Bound) (ts k : List Token) : Type 0 where
  pub tree : T
  pub spelled : R tree ts k
  pub low : Low b tree

-- one token
pub record One {X : Type 0} (origin_of : X → Sort) (b : Bound) (ts k : List Token) : Type 0 where
  pub span : Span
  pub value : X
  pub split : ts ≡ at span (origin_of value) ∷ k

abbrev pub ASign : ℕ → Phrases
ASign n = One {X = Unit {0}} (λ x. Sign n)

abbrev pub AKey : ℕ → Phrases
AKey n = One {X = Unit {0}} (λ x. Key n)

abbrev pub AName : Phrases
AName = One Word

abbrev pub ANumber : Phrases
ANumber = One Number

-- one phrase, then another
pub record Then (P Q : Phrases) (b : Bound) (ts k : List Token) : Type 0 where
  pub middle : List Token
  pub first : P b ts middle
  pub second : Q b middle k

-- phrases one after another
pub data Many (P : Phrases) (b : Bound) : List Token → List Token → Type 0 where
  none : {k : List Token} → Many P b k k
  next : {ts us k : List Token} → P b ts us → Many P b us k → Many P b ts k

-- a phrase whose first tokens are read
pub record HasRead (seen : List Token) (P : Phrases) (b : Bound) (ts k : List Token) : Type 0 where
  pub whole : P b (seen ++ ts) k

-- ---- what is said of them

-- the same token in front, or nothing in both
abbrev pub SameFront : List Token → List Token → Type 0
SameFront [] [] = Unit {0}
SameFront [] (u ∷ us) = ⊥
SameFront (t ∷ ts) [] = ⊥
SameFront (t ∷ ts) (u ∷ us) = t ≡ u

-- these tokens begin a phrase: some more complete it, whatever follows
pub record Completes (P : Phrases) (b : Bound) (seen : List Token) : Type 0 where
  pub more : List Token
  pub spelled : (k : List Token) → P b (seen ++ (more ++ k)) k

-- the first of these tokens begins a phrase
pub record Starts (P : Phrases) (ts : List Token) : Type 0 where
  pub token : Token
  pub rest : List Token
  pub split : ts ≡ token ∷ rest
  pub on : Completes P NoBound (token ∷ [])

-- no phrase begins with the first of these tokens
pub record StartsNone (P : Phrases) (ts : List Token) : Type 0 where
  pub none : (us k : List Token) → SameFront ts us → P NoBound us k → ⊥

-- a phrase is read up to `rest`; with the token that comes next, the same tokens are no other phrase that something may follow
pub record Reads (P : Phrases) (F : Follow) (room : ℕ) (ts rest : List Token) : Type 0 where
  pub seen : List Token
  pub split : ts ≡ seen ++ rest
  pub again : (low : Bool) (k : List Token) → P (bound_of low room) (seen ++ k) k
  pub only : (low : Bool) (us k : List Token) → SameFront rest us → P (bound_of low room) (seen ++ us) k → F k → k ≡ us

-- items that are read one after another
pub data ReadMany (P : Phrases) (F : Follow) (room : ℕ) : List Token → List Token → Type 0 where
  read_none : {ts : List Token} → ReadMany P F room ts ts
  read_next : {ts us rest : List Token} → ReadMany P F room ts us → Reads P F room us rest → ReadMany P F room ts rest

-- where only the height is at fault, higher phrases go on with the next token
abbrev pub GoesOn : Phrases → Bool → List Token → List Token → Type 0
GoesOn P false seen left = Unit {0}
GoesOn P true seen left = Starts (HasRead seen P) left

-- the tokens before `left` begin a phrase within the room; with the first of `left` they begin none, or if `deep` none within the room
pub record Fails (P : Phrases) (F : Follow) (deep : Bool) (room : ℕ) (ts left : List Token) : Type 0 where
  pub seen : List Token
  pub split : ts ≡ seen ++ left
  pub begins : Completes P (AtMost room) seen
  pub goes_on : GoesOn P deep seen left
  pub dead : (us k : List Token) → SameFront left us → P (bound_of deep room) (seen ++ us) k → F k → ⊥

-- memory exhaustion, or the tokens from the one on at which it fails
pub data FailsAs (P : Phrases) (F : Follow) (room : ℕ) (ts : List Token) : Failure → Type 0 where
  no_memory : FailsAs P F room ts NoMemory
  syntax : {left : Bor (List Token)} → Fails P F false room ts left.now → FailsAs P F room ts (Syntax left)
  deep : {left : Bor (List Token)} → Fails P F true room ts left.now → FailsAs P F room ts (Deep left)

-- Expressions and their parts as phrases within a bound on their heights. The patterns in them may be up to 100 high.
use Rattle.std.specs.Prelude.{◌≡◌, ℕ, List, [], ◌∷◌}
use Rattle.nv_base.specs.declared.term.Mem.{Mem}
use Rattle.nv_ast.specs.declared.token.Span.{Span}
use Rattle.nv_ast.specs.declared.token.Token.{Token}
use Rattle.nv_ast.specs.Tokens.{at, a_name, mem_key, key_let, sign_open, sign_open_bracket, sign_close_bracket}
use Rattle.nv_text_parser.specs.declared.cursor.Failure.{Failure}
use Rattle.nv_text_parser.specs.inner.Cursor.{Front, NotSign, NotKey, NotName, NotNumber}
use Rattle.nv_ast.specs.declared.token.Sort.TheVariants.{Key, Sign}
use Rattle.nv_ast.specs.Tree.{Tree, Trees, NamedTrees, StatementTree, StatementTrees}
use Rattle.nv_ast.specs.Height.{height, highest, highest_named, highest_statement, statement_height, pattern_inside, pattern_inside_all, pattern_inside_named, pattern_inside_statement, pattern_inside_statements}
use Rattle.nv_ast.specs.Grammar.{IsExpr, IsStatement, IsStatements, IsTail, IsArgs, IsLevel, IsRest, IsUna, IsDots, IsAtom}
use Rattle.nv_text_parser.specs.inner.Failing.{Bound, NoBound, AtMost, Within, Alone, part_of, Phrases, Follow, Phrase, Then, Many, ASign, AName, Reads, FailsAs}

-- what is so high, with patterns so high in it, is within the bound
pub record IsLow (b : Bound) (tall inside : ℕ) : Type 0 where
  pub height : Within b tall
  pub patterns : Within (part_of Alone b) inside

abbrev pub LowExpr : Bound → Tree → Type 0
LowExpr b e = IsLow b (height e) (pattern_inside e)

abbrev pub LowExprs : Bound → Trees → Type 0
LowExprs b es = IsLow b (highest es) (pattern_inside_all es)

abbrev pub LowMembers : Bound → NamedTrees → Type 0
LowMembers b es = IsLow b (highest_named es) (pattern_inside_named es)

abbrev pub LowStatement : Bound → StatementTree → Type 0
LowStatement b st = IsLow b (statement_height st) (pattern_inside_statement st)

abbrev pub LowStatements : Bound → StatementTrees → Type 0
LowStatements b sts = IsLow b (highest_statement sts) (pattern_inside_statements sts)

abbrev pub AnExpr : Phrases
AnExpr = Phrase IsExpr LowExpr

abbrev pub ATail : Phrases
ATail = Phrase IsTail LowExpr

abbrev pub AStatement : Phrases
AStatement = Phrase IsStatement LowStatement

abbrev pub SomeStatements : Phrases
SomeStatements = Phrase IsStatements LowStatements

abbrev pub ALevel : ℕ → Phrases
ALevel l = Phrase (IsLevel l) LowExpr

-- the operators of a level after a left operand
abbrev pub ARest : ℕ → Tree → Phrases
ARest l a = Phrase (IsRest l a) LowExpr

abbrev pub AnUna : Phrases
AnUna = Phrase IsUna LowExpr

-- the dots after an operand
abbrev pub SomeDots : Tree → Phrases
SomeDots a = Phrase (IsDots a) LowExpr

abbrev pub AnAtom : Phrases
AnAtom = Phrase IsAtom LowExpr

abbrev pub SomeArgs : Phrases
SomeArgs = Phrase IsArgs LowExprs

-- ',' expr
abbrev pub NextExpr : Phrases
NextExpr = Then (ASign 22) AnExpr

-- ',' NAME '=' expr
abbrev pub NextMember : Phrases
NextMember = Then (ASign 22) (Then AName (Then (ASign 19) AnExpr))

-- an expression between two signs
abbrev pub Enclosed : ℕ → ℕ → Phrases
Enclosed first last = Then (ASign first) (Then AnExpr (ASign last))

-- statements and a tail
abbrev pub ABody : Phrases
ABody = Then (Many AStatement) ATail

-- '[' NAME ']'
abbrev pub LayoutInBrackets : Phrases
LayoutInBrackets = Then (ASign 28) (Then AName (ASign 29))

-- a phrase of which the parts have a bound of their own
abbrev pub rebound : ℕ → Bound → Bound
rebound n NoBound = NoBound
rebound n (AtMost m) = AtMost n

pub record At (n : ℕ) (P : Phrases) (b : Bound) (ts k : List Token) : Type 0 where
  pub part : P (rebound n b) ts k

-- ---- what stands in front

-- no memory's keyword
abbrev pub NotMem : List Token → Type 0
NotMem ts = Front (λ t. (m : Mem) → t.sort ≡ Key (mem_key m) → ⊥) ts

-- a let, or a memory and an opening bracket
pub data StartsStatement : List Token → Type 0 where
  starts_let : {s : Span} {k : List Token} → StartsStatement (key_let s ∷ k)
  starts_store : (m : Mem) {s t : Span} {k : List Token} → StartsStatement (at s (Key (mem_key m)) ∷ sign_open t ∷ k)

-- neither
abbrev pub NoStatement : List Token → Type 0
NoStatement [] = Unit {0}
NoStatement (t ∷ ts) = (t.sort ≡ Key 4 → ⊥) × ((m : Mem) → t.sort ≡ Key (mem_key m) → NotSign 24 ts)

-- no number, no name, no truth value and no bracket
pub record NoPlainAtom (ts : List Token) : Type 0 where
  pub number : NotNumber ts
  pub yes_ : NotKey 20 ts
  pub no_ : NotKey 21 ts
  pub bracket : NotSign 24 ts
  pub name : NotName ts

-- a name
pub data BeginsName : List Token → Type 0 where
  begins_name : {s : Span} {x : List ℕ} {k : List Token} → BeginsName (a_name s x ∷ k)

-- ---- what is read

-- an expression between two signs, of which the second stands at `last`
pub record EnclosedBy (opening closing : ℕ) (last : Span) (e : Tree) (ts k : List Token) : Type 0 where
  pub first : Span
  pub inner : List Token
  pub split : ts ≡ at first (Sign opening) ∷ inner
  pub read : IsExpr e inner (at last (Sign closing) ∷ k)

-- a name in square brackets
pub record NameInSquare (name : List ℕ) (ts k : List Token) : Type 0 where
  pub first : Span
  pub middle : Span
  pub last : Span
  pub split : ts ≡ sign_open_bracket first ∷ a_name middle name ∷ sign_close_bracket last ∷ k

-- what is read or fails from `us` on counts from `ts` on
pub record Onward (W W0 : Phrases) (F : Follow) (room : ℕ) (us ts : List Token) : Type 0 where
  pub fails : (e : Failure) → FailsAs W F room us e → FailsAs W0 F room ts e
  pub reads : (rest : List Token) → Reads W F room us rest → Reads W0 F room ts rest

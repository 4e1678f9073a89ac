-- What the definitions give of short programs, and what they give of all without a fault.
use Rattle.std.specs.Prelude.{◌≡◌, ◌≤◌, ◌<◌, ◌+◌, ◌*◌, ℕ, List, [], ◌∷◌, codes}
use Rattle.nv_base.specs.declared.term.Mem.TheVariants.{Scratch}
use Rattle.nv_ast.specs.declared.token.Span.{Span}
use Rattle.nv_ast.specs.declared.token.Token.{Token}
use Rattle.nv_ast.specs.declared.tree.Op.TheVariants.{Add, Sub}
use Rattle.nv_ast.specs.declared.tree.ShiftOp.TheVariants.{Left}
use Rattle.nv_ast.specs.Tokens.{a_name, a_number, key_fun, key_word, sign_plus, sign_minus, sign_open_bracket, sign_close_bracket, sign_colon, sign_open_brace, sign_close_brace}
use Rattle.nv_ast.specs.Tree.{ProgramTree, DeclTree, LayoutDecl, ExceptionDecl, GroupDecl, no_types, type_and, NamePattern, no_patterns, pattern_and, NamedTypes, no_named_types, named_type_and, WordType, Tree, BinaryTree, NumberTree, VarTree, ShiftTree, CallTree, UnpackTree, PackTree, DotTree, RaiseTree, TryTree, TupleTree, BlockTree, LetStatement, StoreStatement, no_statements, statement_and, FieldsTree, no_trees, tree_and, no_named_trees, named_tree_and, PartsLayout, OverlayField, BitsField, InnerField, no_fields, field_and}
use Rattle.nv_ast.specs.Grammar.{IsProgram}
use Rattle.nv_ast.specs.Faults.{IsTyped, IsFault}
use Rattle.nv_ast.specs.Sizes.{expanded_size, room, main_words}

abbrev pub span : ℕ → ℕ → Span
span first after = record { first = first; after = after }

-- a function of word parameters, whose result is a word
abbrev pub word_fun : List ℕ → NamedTypes → Tree → Span → DeclTree
word_fun name params body s = GroupDecl (record { name = name; params = params; result = WordType 1; body = body; span = s } ∷ [])

-- fun f[]: word { 7 + g - 1 }
abbrev pub short_tokens : List Token
short_tokens =
    key_fun (span 0 3) ∷ a_name (span 4 5) (codes "f") ∷ sign_open_bracket (span 5 6) ∷ sign_close_bracket (span 6 7) ∷ sign_colon (span 7 8) ∷ key_word (span 9 13)
    ∷ sign_open_brace (span 14 15) ∷ a_number (span 16 17) 7 ∷ sign_plus (span 18 19) ∷ a_name (span 20 21) (codes "g") ∷ sign_minus (span 22 23) ∷ a_number (span 24 25) 1 ∷ sign_close_brace (span 26 27) ∷ []

abbrev pub short_program : ProgramTree
short_program = record {
  decls = word_fun (codes "f") no_named_types (BinaryTree (span 16 25) Sub (BinaryTree (span 16 21) Add (NumberTree (span 16 17) 7) (VarTree (span 20 21) (codes "g"))) (NumberTree (span 24 25) 1)) (span 4 27) ∷ [];
  length = 27;
}

-- operators of one level group to the left
abbrev pub ShortProgram : Type 0
ShortProgram = IsProgram short_tokens 27 short_program

-- fun main[a: word, b: word]: word { a + b }
abbrev pub sum : ProgramTree
sum = record {
  decls = word_fun (codes "main") (named_type_and (codes "a") (WordType 1) (named_type_and (codes "b") (WordType 1) no_named_types)) (BinaryTree (span 35 40) Add (VarTree (span 35 36) (codes "a")) (VarTree (span 39 40) (codes "b"))) (span 4 42) ∷ [];
  length = 42;
}

-- it has no fault, this expanded size, this room, and N words of parameters
pub record HasSizes (p : ProgramTree) (size words params : ℕ) : Type 0 where
  pub typed : IsTyped p
  pub sized : expanded_size p ≡ size
  pub roomy : room p ≡ words
  pub wide : main_words p ≡ params

abbrev pub SumSizes : Type 0
SumSizes = HasSizes sum 9 18 2

-- exception E[word]; fun main[a: word]: word { try { raise E[a] } handle E[x] { x } }
abbrev pub caught : ProgramTree
caught = record {
  decls =
      ExceptionDecl (codes "E") (type_and (WordType 1) no_types) (span 0 18)
      ∷ word_fun (codes "main") (named_type_and (codes "a") (WordType 1) no_named_types)
      (TryTree (span 45 81) (RaiseTree (span 51 61) (codes "E") (tree_and (VarTree (span 59 60) (codes "a")) no_trees)) (codes "E") (pattern_and (NamePattern (codes "x")) no_patterns) (VarTree (span 78 79) (codes "x"))) (span 23 83) ∷ [];
  length = 83;
}

-- the size: 2 for the function, 2 for the `try`, 3 for the `raise`, 2 for each variable;
-- the need: 1 for the parameter, 3 for the `try`, 1 for the exception's word, 1 for the handler's, and the need of the `raise`, 6
abbrev pub CaughtSizes : Type 0
CaughtSizes = HasSizes caught 9 20 1

-- fun main[a: word]: word { let x = a + 1; scratch(0) <- (x, a); x }
abbrev pub stored : ProgramTree
stored = record {
  decls = word_fun (codes "main") (named_type_and (codes "a") (WordType 1) no_named_types)
      (BlockTree (span 26 64)
      (statement_and (LetStatement (span 26 40) (NamePattern (codes "x")) (BinaryTree (span 34 39) Add (VarTree (span 34 35) (codes "a")) (NumberTree (span 38 39) 1)))
      (statement_and (StoreStatement (span 41 62) Scratch (NumberTree (span 49 50) 0) (TupleTree (span 55 61) (tree_and (VarTree (span 56 57) (codes "x")) (tree_and (VarTree (span 59 60) (codes "a")) no_trees)))) no_statements))
      (VarTree (span 63 64) (codes "x"))) (span 4 66) ∷ [];
  length = 66;
}

-- the size: 2 for the function, 2 for the block, 7 for the `let`, 10 for the store, 2 for its value;
-- the need: 1 for the parameter, 2 for the block, and of the store 2, its 3 words, the tuple's need, 9, and 1 for `x`, which is still written
abbrev pub StoredSizes : Type 0
StoredSizes = HasSizes stored 23 26 1

-- layout o = { v: overlay { a: 8 | b: { x: 4, y: 4 } } }; fun main[w: word]: word { unpack[o](w).v.a }
abbrev pub overlaid : ProgramTree
overlaid = record {
  decls =
      LayoutDecl (codes "o")
      (PartsLayout (field_and (codes "v") (OverlayField (field_and (codes "a") (BitsField 8) (field_and (codes "b") (InnerField (PartsLayout (field_and (codes "x") (BitsField 4) (field_and (codes "y") (BitsField 4) no_fields)))) no_fields))) no_fields)) (span 0 55)
      ∷ word_fun (codes "main") (named_type_and (codes "w") (WordType 1) no_named_types) (DotTree (span 82 98) (DotTree (span 82 96) (UnpackTree (span 82 94) (codes "o") (VarTree (span 92 93) (codes "w"))) (codes "v")) (codes "a")) (span 60 100) ∷ [];
  length = 100;
}

-- the size: 2 for the function, 2 for `.a`, 4 for `.v`, for the `unpack` 1, its 3 words and 4 for each of the 3 bit fields of both alternatives, 2 for the variable;
-- the need: 1 for the parameter, 6 for `.a`, 8 for `.v`, 6 for the `unpack`, 3 for the variable
abbrev pub OverlaidSizes : Type 0
OverlaidSizes = HasSizes overlaid 26 32 1

-- no main: the fault lies at the text's end
abbrev pub EmptyProgram : Type 0
EmptyProgram = IsFault (record { decls = []; length = 0 }) 1 (span 0 0)

-- fun main[x: word]: word { x << 32 }
abbrev pub WideShift : Type 0
WideShift = IsFault (record {
  decls = word_fun (codes "main") (named_type_and (codes "x") (WordType 1) no_named_types) (ShiftTree (span 26 33) Left (VarTree (span 26 27) (codes "x")) 32) (span 4 35) ∷ [];
  length = 35;
}) 21 (span 26 33)

-- fun f[x: word]: word { f[x] + 1 } fun main[]: word { f[1] }
abbrev pub EarlyCall : Type 0
EarlyCall = IsFault (record {
  decls =
      word_fun (codes "f") (named_type_and (codes "x") (WordType 1) no_named_types) (BinaryTree (span 23 31) Add (CallTree (span 23 27) (codes "f") (tree_and (VarTree (span 25 26) (codes "x")) no_trees)) (NumberTree (span 30 31) 1)) (span 4 33)
      ∷ word_fun (codes "main") no_named_types (CallTree (span 53 57) (codes "f") (tree_and (NumberTree (span 55 56) 1) no_trees)) (span 38 59) ∷ [];
  length = 59;
}) 12 (span 23 27)

-- layout o = { v: overlay { a: 8 | b: 8 } }; fun main[]: word { pack[o]({v = {a = 1, b = 2}}) }
abbrev pub TwoAlternatives : Type 0
TwoAlternatives = IsFault (record {
  decls =
      LayoutDecl (codes "o") (PartsLayout (field_and (codes "v") (OverlayField (field_and (codes "a") (BitsField 8) (field_and (codes "b") (BitsField 8) no_fields))) no_fields)) (span 0 42)
      ∷ word_fun (codes "main") no_named_types (PackTree (span 62 91) (codes "o") (FieldsTree (span 70 90) (named_tree_and (codes "v") (FieldsTree (span 75 89) (named_tree_and (codes "a") (NumberTree (span 80 81) 1) (named_tree_and (codes "b") (NumberTree (span 87 88) 2) no_named_trees))) no_named_trees))) (span 47 93) ∷ [];
  length = 93;
}) 14 (span 70 90)

-- the room of a program without a fault is at most 5 times its expanded size and 8, where this size doesn't stand still
abbrev pub RoomIsBounded : Type 0
RoomIsBounded = (p : ProgramTree) → IsTyped p → expanded_size p < 4294967295 → room p ≤ 5 * expanded_size p + 8

-- main's parameters have at most 8 words
abbrev pub MainIsNarrow : Type 0
MainIsNarrow = (p : ProgramTree) → IsTyped p → main_words p ≤ 8

-- The program of a made source, and its tokens. Each place is counted on from the one before it, as the text is read.
use Rattle.std.specs.Prelude.{ℕ, zero, suc, ◌+◌, List, [], ◌∷◌, length, codes}
use Rattle.nv_ast.specs.declared.token.Span.{Span}
use Rattle.nv_ast.specs.declared.token.Token.{Token}
use Rattle.nv_ast.specs.declared.token.Sort.TheVariants.{Sign}
use Rattle.nv_ast.specs.declared.tree.Op.{Op}
use Rattle.nv_ast.specs.declared.tree.Op.TheVariants.{Add, Sub, And, Or, Xor}
use Rattle.nv_ast.specs.Tokens.{at, a_name, key_fun, key_let, key_word, sign_is, sign_semicolon, sign_colon, sign_comma, sign_open_brace, sign_close_brace, sign_open_bracket, sign_close_bracket}
use Rattle.nv_ast.specs.Tree.{no_named_types, named_type_and, NamedTypes, WordType, NamePattern, Tree, VarTree, BinaryTree, BlockTree, StatementTree, LetStatement, StatementTrees, no_statements, statement_and, FunTree, GroupDecl, ProgramTree}
use Rattle.nv_generate.specs.Made.{name_of, lines_from, made}
use Rattle.nv_generate.specs.declared.draws.Line.{Line}

-- N bytes from a place on
abbrev pub span : ℕ → ℕ → Span
span p n = record { first = p; after = p + n }

-- the length of a name
abbrev pub size_of : ℕ → ℕ
size_of name = length (name_of name)

-- ---- operators by their numbers, in the order of their signs
abbrev pub operator_of : ℕ → Op
operator_of zero = Add
operator_of (suc zero) = Sub
operator_of (suc (suc zero)) = And
operator_of (suc (suc (suc zero))) = Or
operator_of _ = Xor

-- ---- the places in line i, which begins at p: those of `let`, the name, `=`, the left name, the operator, the right name, `;` and the next line
abbrev pub name_place : ℕ → ℕ
name_place p = p + 3 + 1

abbrev pub is_place : ℕ → ℕ → ℕ
is_place i p = name_place p + size_of (suc (suc i)) + 1

abbrev pub left_place : ℕ → ℕ → ℕ
left_place i p = is_place i p + 1 + 1

abbrev pub sign_place : ℕ → ℕ → Line → ℕ
sign_place i p line = left_place i p + size_of line.left + 1

abbrev pub right_place : ℕ → ℕ → Line → ℕ
right_place i p line = sign_place i p line + 1 + 1

abbrev pub end_place : ℕ → ℕ → Line → ℕ
end_place i p line = right_place i p line + size_of line.right

abbrev pub next_place : ℕ → ℕ → Line → ℕ
next_place i p line = end_place i p line + 1 + 1

-- behind lines from line i on
abbrev pub index_after : ℕ → ℕ → List Line → ℕ
index_after i p [] = p
index_after i p (line ∷ lines) = index_after (suc i) (next_place i p line) lines

-- ---- tokens, with those that follow
abbrev pub line_tokens : ℕ → ℕ → Line → List Token → List Token
line_tokens i p line more =
    key_let (span p 3) ∷ a_name (span (name_place p) (size_of (suc (suc i)))) (name_of (suc (suc i))) ∷ sign_is (span (is_place i p) 1)
    ∷ a_name (span (left_place i p) (size_of line.left)) (name_of line.left) ∷ at (span (sign_place i p line) 1) (Sign line.operator) ∷ a_name (span (right_place i p line) (size_of line.right)) (name_of line.right)
    ∷ sign_semicolon (span (end_place i p line) 1) ∷ more

abbrev pub lines_tokens : ℕ → ℕ → List Line → List Token → List Token
lines_tokens i p [] more = more
lines_tokens i p (line ∷ lines) more = line_tokens i p line (lines_tokens (suc i) (next_place i p line) lines more)

-- of the last name, which is at p, and what stands after it
abbrev pub last_tokens : ℕ → ℕ → List Token
last_tokens name p = a_name (span p (size_of name)) (name_of name) ∷ sign_close_brace (span (p + size_of name + 1) 1) ∷ []

-- of `fun main[a: word, b: word]: word {`
abbrev pub first_tokens : List Token → List Token
first_tokens more =
    key_fun (span 0 3) ∷ a_name (span 4 4) (codes "main") ∷ sign_open_bracket (span 8 1) ∷ a_name (span 9 1) (codes "a") ∷ sign_colon (span 10 1) ∷ key_word (span 12 4) ∷ sign_comma (span 16 1)
    ∷ a_name (span 18 1) (codes "b") ∷ sign_colon (span 19 1) ∷ key_word (span 21 4) ∷ sign_close_bracket (span 25 1) ∷ sign_colon (span 26 1) ∷ key_word (span 28 4) ∷ sign_open_brace (span 33 1) ∷ more

abbrev pub tokens_of : List Line → ℕ → List Token
tokens_of lines name = first_tokens (lines_tokens 0 35 lines (last_tokens name (index_after 0 35 lines)))

-- ---- trees
abbrev pub name_tree : ℕ → ℕ → Tree
name_tree name p = VarTree (span p (size_of name)) (name_of name)

abbrev pub operation : ℕ → ℕ → Line → Tree
operation i p line = BinaryTree (record { first = left_place i p; after = end_place i p line }) (operator_of line.operator) (name_tree line.left (left_place i p)) (name_tree line.right (right_place i p line))

abbrev pub statement_of : ℕ → ℕ → Line → StatementTree
statement_of i p line = LetStatement (record { first = p; after = end_place i p line + 1 }) (NamePattern (name_of (suc (suc i)))) (operation i p line)

abbrev pub statements_of : ℕ → ℕ → List Line → StatementTrees
statements_of i p [] = no_statements
statements_of i p (line ∷ lines) = statement_and (statement_of i p line) (statements_of (suc i) (next_place i p line) lines)

abbrev pub two_words : NamedTypes
two_words = named_type_and (codes "a") (WordType 1) (named_type_and (codes "b") (WordType 1) no_named_types)

-- main, whose last name is at p
abbrev pub main_of : List Line → ℕ → ℕ → FunTree
main_of lines name p = record {
  name = codes "main";
  params = two_words;
  result = WordType 1;
  body = BlockTree (record { first = 35; after = p + size_of name }) (statements_of 0 35 lines) (name_tree name p);
  span = record { first = 4; after = p + size_of name + 1 + 1 };
}

abbrev pub program_of : List Line → ℕ → ℕ → ProgramTree
program_of lines name bytes = record { decls = GroupDecl (main_of lines name (index_after 0 35 lines) ∷ []) ∷ []; length = bytes }

abbrev pub made_program : ℕ → ℕ → ProgramTree
made_program seed size = program_of (lines_from size 0 seed) (suc size) (length (made seed size))

-- The tokens of a made source spell its program.
use Rattle.std.proofs.Common.{◌≡◌, ℕ, zero, suc, ◌+◌, ◌<◌, List, [], ◌∷◌, length, refl, arith}
use Rattle.nv_ast.proofs.Short.{zero_is_not_five}
use Rattle.nv_ast.specs.declared.token.Token.{Token}
use Rattle.nv_ast.specs.declared.token.Sort.TheVariants.{Sign}
use Rattle.nv_ast.specs.declared.tree.Op.{Op}
use Rattle.nv_ast.specs.declared.tree.Op.TheVariants.{Add, Sub, And, Or, Xor}
use Rattle.nv_ast.specs.Tokens.{at, a_name, sign_of, level_of, sign_close_brace, sign_semicolon}
use Rattle.nv_ast.specs.Tree.{Tree, BinaryTree, BlockTree}
use Rattle.nv_ast.specs.Grammar.{IsProgram, next_decl, no_decl, group, no_fun, function, some_params, next_named_type, no_named_type, word_type, IsExpr, block, IsStatements, next_statement, no_statement, IsStatement, let_statement, name_pattern, operators, IsLevel, chain, no_operator, operator, una, post, variable, no_dot}
use Rattle.nv_generate.specs.Made.{name_of}
use Rattle.nv_generate.specs.inner.Lines.{IsLine, AreLines}
use Rattle.nv_generate.specs.inner.Program.{span, size_of, operator_of, left_place, sign_place, right_place, end_place, next_place, index_after, line_tokens, lines_tokens, tokens_of, name_tree, statement_of, statements_of, program_of}
use Rattle.nv_generate.specs.declared.draws.Line.{Line}

no-two : ◌≡◌ {A = ℕ} 2 5 → ⊥
no-two h = cc

no-three : ◌≡◌ {A = ℕ} 3 5 → ⊥
no-three h = cc

no-four : ◌≡◌ {A = ℕ} 4 5 → ⊥
no-four h = cc

-- what is of a level is of the next
up : (l : ℕ) (e : Tree) (ts k : List Token) → IsLevel l e ts k → IsLevel (suc l) e ts k
up l e ts k h = chain {l = l} h no_operator

-- a name is of each level
name-level : (l name p : ℕ) (k : List Token) → IsLevel l (name_tree name p) (a_name (span p (size_of name)) (name_of name) ∷ k) k
name-level zero name p k = una (post variable no_dot)
name-level (suc l) name p k = chain {l = l} (name-level l name p k) no_operator

-- the tokens of an operation between two names, of which the right one is at q
abbrev sides : ℕ → ℕ → Token → ℕ → ℕ → List Token → List Token
sides a p t b q k = a_name (span p (size_of a)) (name_of a) ∷ t ∷ a_name (span q (size_of b)) (name_of b) ∷ k

abbrev between : ℕ → ℕ → Op → ℕ → ℕ → Tree
between a p op b q = BinaryTree (record { first = p; after = q + size_of b }) op (name_tree a p) (name_tree b q)

-- it is of the level above its operands
above : (l : ℕ) (op : Op) (t : Token) (a p b q : ℕ) (k : List Token) → t.sort ≡ Sign (sign_of op) → level_of op ≡ l → (l ≡ 5 → ⊥) → IsLevel (suc l) (between a p op b q) (sides a p t b q k) k
above l op t a p b q k s e n = chain {l = l} (name-level l a p (t ∷ a_name (span q (size_of b)) (name_of b) ∷ k)) (operator {op = op} s e n (name-level l b q k) no_operator)

-- of the highest level, whichever of the five operators it has
of-five : (o : ℕ) (t : Token) (a p b q : ℕ) (k : List Token) → o < 5 → t.sort ≡ Sign o → IsLevel 8 (between a p (operator_of o) b q) (sides a p t b q k) k
of-five zero t a p b q k h s =
    let e = between a p Add b q in
    let ts = sides a p t b q k in
    up 7 e ts k (up 6 e ts k (up 5 e ts k (up 4 e ts k (up 3 e ts k (up 2 e ts k (up 1 e ts k (above 0 Add t a p b q k s refl zero_is_not_five)))))))
of-five (suc zero) t a p b q k h s =
    let e = between a p Sub b q in
    let ts = sides a p t b q k in
    up 7 e ts k (up 6 e ts k (up 5 e ts k (up 4 e ts k (up 3 e ts k (up 2 e ts k (up 1 e ts k (above 0 Sub t a p b q k s refl zero_is_not_five)))))))
of-five (suc (suc zero)) t a p b q k h s =
    let e = between a p And b q in
    let ts = sides a p t b q k in
    up 7 e ts k (up 6 e ts k (up 5 e ts k (up 4 e ts k (up 3 e ts k (above 2 And t a p b q k s refl no-two)))))
of-five (suc (suc (suc zero))) t a p b q k h s =
    let e = between a p Or b q in
    let ts = sides a p t b q k in
    up 7 e ts k (up 6 e ts k (up 5 e ts k (above 4 Or t a p b q k s refl no-four)))
of-five (suc (suc (suc (suc zero)))) t a p b q k h s =
    let e = between a p Xor b q in
    let ts = sides a p t b q k in
    up 7 e ts k (up 6 e ts k (up 5 e ts k (up 4 e ts k (above 3 Xor t a p b q k s refl no-three))))
of-five (suc (suc (suc (suc (suc o))))) t a p b q k h s = absurd (omega arith)

-- a line is a statement
one-statement : (i p : ℕ) (line : Line) (more : List Token) → IsLine i line → IsStatement (statement_of i p line) (line_tokens i p line more) more
one-statement i p line more h =
    let t : Token = at (span (sign_place i p line) 1) (Sign line.operator) in
    let k : List Token = sign_semicolon (span (end_place i p line) 1) ∷ more in
    let_statement name_pattern (operators (of-five line.operator t line.left (left_place i p) line.right (right_place i p line) k h.operator refl))

some-statements : (i p : ℕ) (lines : List Line) (more : List Token) → AreLines i lines → IsStatements (statements_of i p lines) (lines_tokens i p lines more) more
some-statements i p [] more h = no_statement
some-statements i p (line ∷ lines) more h =
    next_statement (one-statement i p line (lines_tokens (suc i) (next_place i p line) lines more) h.0) (some-statements (suc i) (next_place i p line) lines more h.1)

-- the body, which has a line at least
whole-body : (lines : List Line) (name p : ℕ) (k : List Token) → AreLines 0 lines → 0 < length lines → IsExpr (BlockTree (record { first = 35; after = p + size_of name }) (statements_of 0 35 lines) (name_tree name p)) (lines_tokens 0 35 lines (a_name (span p (size_of name)) (name_of name) ∷ k)) k
whole-body [] name p k h some = absurd (omega arith)
whole-body (line ∷ lines) name p k h some =
    block (some-statements 0 35 (line ∷ lines) (a_name (span p (size_of name)) (name_of name) ∷ k) h) (operators (name-level 8 name p k))

pub derived : (lines : List Line) (name bytes : ℕ) → AreLines 0 lines → 0 < length lines → IsProgram (tokens_of lines name) bytes (program_of lines name bytes)
derived lines name bytes h some =
    let p = index_after 0 35 lines in
    let body = whole-body lines name p (sign_close_brace (span (p + size_of name + 1) 1) ∷ []) h some in
    record {
      long = refl;
      spelled = next_decl (group (function (some_params word_type (next_named_type word_type no_named_type)) word_type body) no_fun) no_decl;
    }

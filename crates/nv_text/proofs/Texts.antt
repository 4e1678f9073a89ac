-- The program of a text's tokens, and that a text has one at most.
use Rattle.std.proofs.Common.{◌≡◌, sym, ◌∙◌, ap, subst, ℕ, ◌≤◌, List, [], length, arith, length-drop}
use Rattle.nv_ast.specs.declared.token.Token.{Token}
use Rattle.nv_ast.specs.Tree.{DeclTree, ProgramTree}
use Rattle.nv_ast.specs.Grammar.{IsDecls}
use Rattle.nv_text.specs.Tokens.{Reads, stop, skip, take_token, IsTokens}
use Rattle.nv_text.specs.Program.{IsTextOf}
use Rattle.nv_text.proofs.Reading.{longest_some, tokens_one}
use Rattle.nv_text_parser.proofs.OneExpression.{det_decls}

-- each token has a byte
reads_few : {p q : ℕ} {bytes left : List ℕ} {ts : List Token} → Reads p bytes ts q left → length ts ≤ length bytes
reads_few stop = omega arith
reads_few (skip {n = n} {bytes = bytes} b d) = let h = reads_few d in omega (arith, length-drop n bytes)
reads_few (take_token {n = n} {bytes = bytes} {s = s} l f d) = let h = reads_few d in let g = longest_some bytes s n l in let w = l.within in omega (arith, length-drop n bytes)

pub tokens_few : (bytes : List ℕ) (ts : List Token) → IsTokens bytes ts → length ts ≤ length bytes
tokens_few bytes ts d = reads_few d

-- a text is one program at most
pub program_one : (bytes : List ℕ) (ts : List Token) (ds : List DeclTree) (n : ℕ) → IsTokens bytes ts → IsDecls ds ts [] → n ≡ length bytes → (q : ProgramTree) → IsTextOf bytes q → q ≡ record { decls = ds; length = n }
program_one bytes ts ds n d e h q t =
    let i : t.tokens ≡ ts = tokens_one bytes t.tokens ts t.read d in
    let j : q.decls ≡ ds = det_decls (subst (λ z. IsDecls q.decls z []) i t.program.spelled) e in
    let k : q.length ≡ n = t.program.long ∙ sym h in
    whole q ds n j k
  where
    whole : (q : ProgramTree) (ds : List DeclTree) (n : ℕ) → q.decls ≡ ds → q.length ≡ n → q ≡ record { decls = ds; length = n }
    whole q ds n j k = ap (λ z. record { decls = z; length = q.length }) j ∙ ap (λ z. record { decls = ds; length = z }) k

pub text_of : (bytes : List ℕ) (ts : List Token) (ds : List DeclTree) (n : ℕ) → IsTokens bytes ts → IsDecls ds ts [] → n ≡ length bytes → IsTextOf bytes (record { decls = ds; length = n })
text_of bytes ts ds n d e h = record { tokens = ts; read = d; program = record { long = h; spelled = e } }

-- How expressions begin, and what completes them.
use Rattle.std.proofs.Common.{◌≡◌, refl, sym, ◌∙◌, ap, subst, ℕ, zero, suc, ◌≤◌, List, [], ◌∷◌, ◌++◌, append_assoc, arith, Bool, true, false}
use Rattle.std.specs.Prelude.{◌==◌, ◌||◌}
use Rattle.std.specs.List.{list_any}
use Rattle.std.proofs.lemmas.Bool.{eqb-true, false≢true}
use Rattle.nv_base.specs.declared.term.Mem.{Mem}
use Rattle.nv_base.specs.declared.term.Mem.TheVariants.{Sram, Sdram, Scratch}
use Rattle.nv_ast.specs.declared.token.Span.{Span}
use Rattle.nv_ast.specs.declared.token.Token.{Token}
use Rattle.nv_ast.specs.declared.token.Sort.{Sort}
use Rattle.nv_ast.specs.declared.token.Sort.TheVariants.{Word, Number, Key, Sign}
use Rattle.nv_ast.specs.Tokens.{at, to, a_number, mem_key, key_let, key_if, key_raise, key_try, key_unpack, key_pack, key_any, sign_tilde, sign_bang, sign_open, sign_close, sign_open_brace}
use Rattle.nv_ast.specs.Tree.{Tree, NumberTree, TruthTree, VarTree, TupleTree, BlockTree, no_trees, StatementTree, no_statements, statement_and, AnyPattern, no_patterns, statement_span}
use Rattle.nv_ast.specs.Grammar.{IsExpr, IsStatement, IsTail, IsLevel, IsUna, IsAtom, any_pattern, empty_patterns, tail_alone, block, no_statement, next_statement, let_statement, store_sram, store_sdram, store_scratch, if_else, raise, operators, try_handle, empty_args, una, chain, no_operator, invert, negate, post, no_dot, number, truth, falsehood, variable, call, unit, paren, tuple, fields, unpack, pack, fetch_sram, fetch_sdram, fetch_scratch}
use Rattle.nv_text_parser.specs.inner.Failing.{NoBound, bound_of, Phrases, Follow, ASign, AKey, AName, ANumber, SameFront, Completes, Starts}
use Rattle.nv_text_parser.specs.inner.Phrases.{APattern, SomePatterns}
use Rattle.nv_text_parser.specs.inner.Starts.{sort_starts, starts_expr}
use Rattle.nv_text_parser.specs.inner.ExprPhrases.{AnExpr, ATail, AStatement, ABody, ALevel, AnUna, AnAtom, SomeArgs, Enclosed, At}
use Rattle.nv_text_parser.proofs.Sequence.{Fills, then_fills, one_fills, many_fills}
use Rattle.nv_text_parser.proofs.ExprLow.{free_low, low_none, low_one}
use Rattle.nv_text_parser.proofs.Steps.{Step, step_completes}
use Rattle.nv_text_parser.proofs.ExprSteps.{IfRow, if_step, RaiseRow, raise_step, TryRow, try_step, LetRow, let_step, StoreRow, RecordRow, record_step, LayoutRow, unpack_step, pack_step, FetchRow, fetch_step, invert_step, negate_step}

-- ---- the first token

atom_starts : {e : Tree} {ts k : List Token} → IsAtom e ts k → starts_expr ts ≡ true
atom_starts number = refl
atom_starts truth = refl
atom_starts falsehood = refl
atom_starts variable = refl
atom_starts (call d) = refl
atom_starts unit = refl
atom_starts (paren d) = refl
atom_starts (tuple d r) = refl
atom_starts (fields d r) = refl
atom_starts (unpack d) = refl
atom_starts (pack d) = refl
atom_starts (fetch_sram d) = refl
atom_starts (fetch_sdram d) = refl
atom_starts (fetch_scratch d) = refl

una_starts : {e : Tree} {ts k : List Token} → IsUna e ts k → starts_expr ts ≡ true
una_starts (invert d) = refl
una_starts (negate d) = refl
una_starts (post d r) = atom_starts d

level_starts : {l : ℕ} {e : Tree} {ts k : List Token} → IsLevel l e ts k → starts_expr ts ≡ true
level_starts (una d) = una_starts d
level_starts (chain d r) = level_starts d

pub tail_starts : {e : Tree} {ts k : List Token} → IsTail e ts k → starts_expr ts ≡ true
tail_starts (if_else d f g) = refl
tail_starts (raise d) = refl
tail_starts (operators d) = level_starts d
tail_starts (try_handle d f g) = refl

statement_starts : {st : StatementTree} {ts k : List Token} → IsStatement st ts k → starts_expr ts ≡ true
statement_starts (let_statement d e) = refl
statement_starts (store_sram d e) = refl
statement_starts (store_sdram d e) = refl
statement_starts (store_scratch d e) = refl

pub expr_starts : {e : Tree} {ts k : List Token} → IsExpr e ts k → starts_expr ts ≡ true
expr_starts (tail_alone d) = tail_starts d
expr_starts (block (next_statement d f) g) = statement_starts d

starts_same : (ts us : List Token) → SameFront ts us → starts_expr ts ≡ starts_expr us
starts_same [] [] h = refl
starts_same [] (u ∷ us) h = absurd h
starts_same (t ∷ ts) [] h = absurd h
starts_same (t ∷ ts) (u ∷ us) h = ap (λ z. sort_starts z.sort) h

-- no expression begins with the token in front
pub starts_none : (ts us : List Token) {e : Tree} {k : List Token} → starts_expr ts ≡ false → SameFront ts us → IsExpr e us k → ⊥
starts_none ts us n h d = false≢true (sym n ∙ (starts_same ts us h ∙ expr_starts d))

-- ---- what completes a phrase

abbrev pub nowhere : Span
nowhere = record { first = 0; after = 0 }

pub una_of : {e : Tree} {ts k : List Token} → IsAtom e ts k → IsUna e ts k
una_of d = post d no_dot

pub level_of_una : {e : Tree} {ts k : List Token} (l : ℕ) → IsUna e ts k → IsLevel l e ts k
level_of_una zero d = una d
level_of_una (suc l) d = chain (level_of_una l d) no_operator

pub expr_of_una : {e : Tree} {ts k : List Token} → IsUna e ts k → IsExpr e ts k
expr_of_una d = tail_alone (operators (level_of_una 8 d))

pub atom_fills : (room : ℕ) → 1 ≤ room → Fills AnAtom room
atom_fills room h = record { with_ = λ low. record { more = a_number nowhere 0 ∷ []; spelled = λ k. record { tree = NumberTree nowhere 0; spelled = number; low = low_one low room h } } }

pub una_fills : (room : ℕ) → 1 ≤ room → Fills AnUna room
una_fills room h = record { with_ = λ low. record { more = a_number nowhere 0 ∷ []; spelled = λ k. record { tree = NumberTree nowhere 0; spelled = una_of number; low = low_one low room h } } }

pub level_fills : (l room : ℕ) → 1 ≤ room → Fills (ALevel l) room
level_fills l room h = record { with_ = λ low. record { more = a_number nowhere 0 ∷ []; spelled = λ k. record { tree = NumberTree nowhere 0; spelled = level_of_una l (una_of number); low = low_one low room h } } }

pub tail_fills : (room : ℕ) → 1 ≤ room → Fills ATail room
tail_fills room h = record { with_ = λ low. record { more = a_number nowhere 0 ∷ []; spelled = λ k. record { tree = NumberTree nowhere 0; spelled = operators (level_of_una 8 (una_of number)); low = low_one low room h } } }

pub expr_fills : (room : ℕ) → 1 ≤ room → Fills AnExpr room
expr_fills room h = record { with_ = λ low. record { more = a_number nowhere 0 ∷ []; spelled = λ k. record { tree = NumberTree nowhere 0; spelled = expr_of_una (una_of number); low = low_one low room h } } }

pub sign_fills : (n room : ℕ) → Fills (ASign n) room
sign_fills n room = one_fills room tt

pub key_fills : (n room : ℕ) → Fills (AKey n) room
key_fills n room = one_fills room tt

pub name_fills : (room : ℕ) → Fills AName room
name_fills room = one_fills room []

pub number_fills : (room : ℕ) → Fills ANumber room
number_fills room = one_fills room 0

pub enclosed_fills : (m n room : ℕ) → 1 ≤ room → Fills (Enclosed m n) room
enclosed_fills m n room h = then_fills (sign_fills m room) (then_fills (expr_fills room h) (sign_fills n room))

pub args_fills : (room : ℕ) → Fills SomeArgs room
args_fills room = record { with_ = λ low. record { more = []; spelled = λ k. record { tree = no_trees; spelled = empty_args; low = low_none (bound_of low room) } } }

at_patterns : (low : Bool) (room : ℕ) (k : List Token) → At 100 SomePatterns (bound_of low room) k k
at_patterns false room k = record { part = record { tree = no_patterns; spelled = empty_patterns; low = tt } }
at_patterns true room k = record { part = record { tree = no_patterns; spelled = empty_patterns; low = omega arith } }

pub patterns_fills : (room : ℕ) → Fills (At 100 SomePatterns) room
patterns_fills room = record { with_ = λ low. record { more = []; spelled = λ k. at_patterns low room k } }

at_pattern : (low : Bool) (room : ℕ) (k : List Token) → At 100 APattern (bound_of low room) (key_any nowhere ∷ k) k
at_pattern false room k = record { part = record { tree = AnyPattern; spelled = any_pattern; low = tt } }
at_pattern true room k = record { part = record { tree = AnyPattern; spelled = any_pattern; low = omega arith } }

pub pattern_fills : (room : ℕ) → Fills (At 100 APattern) room
pattern_fills room = record { with_ = λ low. record { more = key_any nowhere ∷ []; spelled = λ k. at_pattern low room k } }

pub body_fills : (room : ℕ) → 1 ≤ room → Fills ABody room
body_fills room h = then_fills (many_fills room) (tail_fills room h)

pub if_fills : (room : ℕ) → 1 ≤ room → Fills IfRow room
if_fills room h = then_fills (enclosed_fills 24 25 room h) (then_fills (expr_fills room h) (then_fills (key_fills 6 room) (expr_fills room h)))

pub raise_fills : (room : ℕ) → Fills RaiseRow room
raise_fills room = then_fills (name_fills room) (then_fills (sign_fills 28 room) (then_fills (args_fills room) (sign_fills 29 room)))

pub try_fills : (room : ℕ) → 1 ≤ room → Fills TryRow room
try_fills room h = then_fills (enclosed_fills 26 27 room h) (then_fills (key_fills 11 room) (then_fills (name_fills room) (then_fills (sign_fills 28 room) (then_fills (patterns_fills room) (then_fills (sign_fills 29 room) (enclosed_fills 26 27 room h))))))

pub let_fills : (room : ℕ) → 1 ≤ room → Fills LetRow room
let_fills room h = then_fills (pattern_fills room) (then_fills (sign_fills 19 room) (then_fills (tail_fills room h) (sign_fills 20 room)))

pub store_fills : (room : ℕ) → 1 ≤ room → Fills StoreRow room
store_fills room h = then_fills (enclosed_fills 24 25 room h) (then_fills (sign_fills 18 room) (then_fills (tail_fills room h) (sign_fills 20 room)))

pub layout_fills : (room : ℕ) → 1 ≤ room → Fills LayoutRow room
layout_fills room h = then_fills (then_fills (sign_fills 28 room) (then_fills (name_fills room) (sign_fills 29 room))) (enclosed_fills 24 25 room h)

pub fetch_fills : (room : ℕ) → 1 ≤ room → Fills FetchRow room
fetch_fills room h = then_fills (sign_fills 28 room) (then_fills (number_fills room) (then_fills (sign_fills 29 room) (enclosed_fills 24 25 room h)))

pub record_fills : (room : ℕ) → 1 ≤ room → Fills RecordRow room
record_fills room h = then_fills (name_fills room) (then_fills (sign_fills 19 room) (then_fills (expr_fills room h) (then_fills (many_fills room) (sign_fills 27 room))))

-- ---- an expression with a given first token

-- what is begun with one token
ready : {Row P : Phrases} {G F : Follow} {t : Token} → Step (t ∷ []) Row 1 G P 2 F [] → Fills Row 1 → Completes P NoBound (t ∷ [])
ready s f = step_completes false s [] (f.with_ false)

pub of_tail : {t : Token} → Completes ATail NoBound (t ∷ []) → Completes AnExpr NoBound (t ∷ [])
of_tail c = record { more = c.more; spelled = λ k. let d = c.spelled k in record { tree = d.tree; spelled = tail_alone d.spelled; low = d.low } }

of_una : {t : Token} → Completes AnUna NoBound (t ∷ []) → Completes AnExpr NoBound (t ∷ [])
of_una c = record { more = c.more; spelled = λ k. let d = c.spelled k in record { tree = d.tree; spelled = expr_of_una d.spelled; low = d.low } }

of_atom : {t : Token} → Completes AnAtom NoBound (t ∷ []) → Completes AnExpr NoBound (t ∷ [])
of_atom c = record { more = c.more; spelled = λ k. let d = c.spelled k in record { tree = d.tree; spelled = expr_of_una (una_of d.spelled); low = d.low } }

block_end : {t : Token} (more : List Token) {st : StatementTree} (k : List Token) → IsStatement st (t ∷ (more ++ (a_number nowhere 0 ∷ k))) (a_number nowhere 0 ∷ k) → IsExpr (BlockTree (to (statement_span st) nowhere) (statement_and st no_statements) (NumberTree nowhere 0)) (t ∷ (more ++ (a_number nowhere 0 ∷ k))) k
block_end more k d = block (next_statement d no_statement) (operators (level_of_una 8 (una_of number)))

of_statement : {t : Token} → Completes AStatement NoBound (t ∷ []) → Completes AnExpr NoBound (t ∷ [])
of_statement {t = t} c = record {
  more = c.more ++ a_number nowhere 0 ∷ [];
  spelled = λ k.
      let d = c.spelled (a_number nowhere 0 ∷ k) in
      record { tree = BlockTree (to (statement_span d.tree) nowhere) (statement_and d.tree no_statements) (NumberTree nowhere 0); spelled = rw append_assoc (block_end c.more k d.spelled); low = free_low _ _ };
}

one_two : 1 ≤ 2
one_two = omega arith

one_one : 1 ≤ 1
one_one = omega arith

pub let_ready : (s : Span) → Completes AnExpr NoBound (key_let s ∷ [])
let_ready s = of_statement (ready (let_step s 2 [] one_two) (let_fills 1 one_one))

pub if_ready : (s : Span) → Completes AnExpr NoBound (key_if s ∷ [])
if_ready s = of_tail (ready (if_step s 2 [] one_two) (if_fills 1 one_one))

pub raise_ready : (s : Span) → Completes AnExpr NoBound (key_raise s ∷ [])
raise_ready s = of_tail (ready (raise_step s 2 [] one_two) (raise_fills 1))

pub try_ready : (s : Span) → Completes AnExpr NoBound (key_try s ∷ [])
try_ready s = of_tail (ready (try_step s 2 [] one_two) (try_fills 1 one_one))

pub unpack_ready : (s : Span) → Completes AnExpr NoBound (key_unpack s ∷ [])
unpack_ready s = of_atom (ready (unpack_step s 2 [] one_two) (layout_fills 1 one_one))

pub pack_ready : (s : Span) → Completes AnExpr NoBound (key_pack s ∷ [])
pack_ready s = of_atom (ready (pack_step s 2 [] one_two) (layout_fills 1 one_one))

pub mem_ready : (m : Mem) (s : Span) → Completes AnExpr NoBound (at s (Key (mem_key m)) ∷ [])
mem_ready m s = of_atom (ready (fetch_step m s 2 [] one_two) (fetch_fills 1 one_one))

pub tilde_ready : (s : Span) → Completes AnExpr NoBound (sign_tilde s ∷ [])
tilde_ready s = of_una (ready (invert_step s 2 [] one_two) (una_fills 1 one_one))

pub bang_ready : (s : Span) → Completes AnExpr NoBound (sign_bang s ∷ [])
bang_ready s = of_una (ready (negate_step s 2 [] one_two) (una_fills 1 one_one))

pub brace_ready : (s : Span) → Completes AnExpr NoBound (sign_open_brace s ∷ [])
brace_ready s = of_atom (ready (record_step s 2 [] one_two) (record_fills 1 one_one))

here_atom : {t : Token} (e : Tree) → ((k : List Token) → IsAtom e (t ∷ k) k) → Completes AnExpr NoBound (t ∷ [])
here_atom e d = of_atom (record { more = []; spelled = λ k. record { tree = e; spelled = d k; low = free_low _ _ } })

open_ready : (s : Span) → Completes AnExpr NoBound (sign_open s ∷ [])
open_ready s = of_atom (record { more = sign_close nowhere ∷ []; spelled = λ k. record { tree = TupleTree (to s nowhere) no_trees; spelled = unit; low = free_low _ _ } })

-- one of these numbers
Each : (ℕ → Type 0) → List ℕ → Type 0
Each Q [] = Unit {0}
Each Q (c ∷ cs) = Q c × Each Q cs

pick : (Q : ℕ → Type 0) (c : ℕ) (cs : List ℕ) (n : ℕ) (b : Bool) → (c == n) ≡ b → (b || list_any (λ k. k == n) cs) ≡ true → Each Q (c ∷ cs) → (list_any (λ k. k == n) cs ≡ true → Q n) → Q n
unfolding Each
pick Q c cs n true h f q g = subst Q (eqb-true c n h) q.0
pick Q c cs n false h f q g = g f

among : (Q : ℕ → Type 0) (cs : List ℕ) (n : ℕ) → list_any (λ k. k == n) cs ≡ true → Each Q cs → Q n
unfolding Each
among Q [] n e q = absurd (false≢true e)
among Q (c ∷ cs) n e q = pick Q c cs n (c == n) refl e q (λ f. among Q cs n f q.1)

begun : (s : Span) (q : Sort) → sort_starts q ≡ true → Completes AnExpr NoBound (at s q ∷ [])
unfolding Each
begun s (Word x) e = here_atom (VarTree s x) (λ k. variable)
begun s (Number n) e = here_atom (NumberTree s n) (λ k. number)
begun s (Key n) e = among (λ z. Completes AnExpr NoBound (at s (Key z) ∷ [])) (4 ∷ 5 ∷ 7 ∷ 8 ∷ 9 ∷ 10 ∷ 12 ∷ 13 ∷ 14 ∷ 20 ∷ 21 ∷ []) n e
    (let_ready s, (if_ready s, (unpack_ready s, (pack_ready s, (raise_ready s, (try_ready s, (mem_ready Sram s, (mem_ready Sdram s, (mem_ready Scratch s, (here_atom (TruthTree s true) (λ k. truth), (here_atom (TruthTree s false) (λ k. falsehood), tt)))))))))))
begun s (Sign n) e = among (λ z. Completes AnExpr NoBound (at s (Sign z) ∷ [])) (5 ∷ 17 ∷ 24 ∷ 26 ∷ []) n e (tilde_ready s, (bang_ready s, (open_ready s, (brace_ready s, tt))))

-- an expression begins with the token in front
pub starts_some : (ts : List Token) → starts_expr ts ≡ true → Starts AnExpr ts
starts_some [] e = absurd (false≢true e)
starts_some (t ∷ ts) e = record { token = t; rest = ts; split = refl; on = begun t.span t.sort e }

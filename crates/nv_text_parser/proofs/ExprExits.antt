-- What the parser answers at a token by itself.
use Rattle.std.proofs.Common.{◌≡◌, ◌≢◌, refl, sym, ◌∙◌, ap, subst, ℕ, suc, ◌+◌, ◌-◌, ◌<◌, ◌≤◌, max, List, [], ◌∷◌, ◌++◌, append_assoc, arith, Bool, true, false}
use Rattle.std.proofs.lemmas.Bool.{false≢true}
use Rattle.std.specs.Borrow.{Bor}
use Rattle.nv_base.specs.declared.term.Mem.{Mem}
use Rattle.nv_base.specs.declared.term.Mem.TheVariants.{Sram, Sdram, Scratch}
use Rattle.nv_ast.specs.declared.token.Span.{Span}
use Rattle.nv_ast.specs.declared.token.Token.{Token}
use Rattle.nv_ast.specs.declared.token.Sort.TheVariants.{Word, Number, Key, Sign}
use Rattle.nv_ast.specs.declared.tree.Op.{Op}
use Rattle.nv_ast.specs.declared.tree.ShiftOp.{ShiftOp}
use Rattle.nv_ast.specs.Tokens.{at, to, a_name, a_number, sign_of, level_of, shift_sign_of, mem_key, key_let, key_if, key_try, key_unpack, key_pack, key_true, key_false, sign_tilde, sign_bang, sign_dot, sign_comma, sign_open, sign_close, sign_open_brace, sign_open_bracket, sign_close_bracket}
use Rattle.nv_ast.specs.Tree.{Tree, NumberTree, TruthTree, VarTree, ParenTree, TupleTree, DotTree, BinaryTree, ShiftTree, Trees, no_trees, tree_and, StatementTree, span_of}
use Rattle.nv_ast.specs.Height.{height, pattern_inside, highest}
use Rattle.nv_ast.specs.Grammar.{IsStatement, IsArgs, IsLevel, IsRest, IsDots, IsAtom, let_statement, store_sram, store_sdram, store_scratch, empty_args, some_args, no_expr, no_operator, operator, comparison, shift, no_dot, dot, number, truth, falsehood, variable, call, unit, paren, tuple, fields, unpack, pack, fetch_sram, fetch_sdram, fetch_scratch}
use Rattle.nv_text_parser.specs.declared.cursor.Failure.{Failure}
use Rattle.nv_text_parser.specs.declared.cursor.Failure.TheVariants.{NoMemory, Syntax, Deep}
use Rattle.nv_text_parser.specs.inner.Cursor.{NotSign, NotKey, NotName, NotNumber, IsSyntax, IsSyntaxOrMemory}
use Rattle.nv_text_parser.specs.inner.Operators.{StartsOperator, StartsShift, NoOperator, NoShift}
use Rattle.nv_text_parser.specs.inner.Follow.{Above, rank, sign_rank}
use Rattle.nv_text_parser.specs.inner.Starts.{sort_starts, starts_expr}
use Rattle.nv_text_parser.specs.inner.Failing.{Bound, AtMost, bound_of, Phrases, Follow, Anything, Ahead, ASign, AKey, AName, ANumber, Then, Many, SameFront, Completes, Reads, FailsAs, no_memory}
use Rattle.nv_text_parser.specs.inner.ExprPhrases.{LowExpr, LowExprs, AnExpr, ATail, AStatement, ALevel, ARest, AnUna, SomeDots, AnAtom, SomeArgs, NextExpr, NextMember, NotMem, NoPlainAtom, BeginsName, begins_name, LayoutInBrackets, Onward}
use Rattle.nv_text_parser.proofs.Follow.{rank_of, shift_rank, level_not_one, close_starts_no_expr}
use Rattle.nv_text_parser.proofs.Sequence.{front_same, Carries, carries_anything, then_carries, one_carries, Fills, then_fills, one_fills, first_fails, many_carries, then_reads, one_reads, one_then, sign_fails, key_fails, name_fails, number_fails, sign_listed, Listed, sign_ahead}
use Rattle.nv_text_parser.proofs.ExprLow.{low_of, free_low, low_none, low_one, lows, no_room, height_pos, rest_tall, dots_tall}
use Rattle.nv_text_parser.proofs.Steps.{stops_at, deep_at, step_deep, step_completes, step_reads, step_fails, reads_here, bind_fails, bind_step, onward_start, onward_step}
use Rattle.nv_text_parser.proofs.ExprSteps.{LevelRow, level_step, level_binds, operand_step, operand_binds, comparison_step, shift_step, dot_step, if_step, try_step, let_step, unpack_step, pack_step, fetch_step, record_step, invert_step, negate_step, bracket_parts, no_bracket}
use Rattle.nv_text_parser.proofs.ExprStarts.{nowhere, una_of, level_of_una, starts_none, starts_some, atom_fills, una_fills, tail_fills, args_fills, if_fills, try_fills, let_fills, layout_fills, fetch_fills, record_fills}

-- ---- single tokens

pub read_sign : (n room : ℕ) (s : Span) {ts us : List Token} → ts ≡ at s (Sign n) ∷ us → Reads (ASign n) Anything room ts us
read_sign n room s e = one_reads (λ x. Sign n) room s tt e

pub then_sign : (n : ℕ) (s : Span) {Q : Phrases} {G : Follow} {room : ℕ} {ts us rest : List Token} → ts ≡ at s (Sign n) ∷ us → Reads Q G room us rest → Reads (Then (ASign n) Q) G room ts rest
then_sign n s {room = room} e q = then_reads carries_anything (read_sign n room s e) q

pub then_key : (n : ℕ) (s : Span) {Q : Phrases} {G : Follow} {room : ℕ} {ts us rest : List Token} → ts ≡ at s (Key n) ∷ us → Reads Q G room us rest → Reads (Then (AKey n) Q) G room ts rest
then_key n s {room = room} e q = then_reads carries_anything (one_reads (λ x. Key n) room s tt e) q

pub then_name : (s : Span) (x : List ℕ) {Q : Phrases} {G : Follow} {room : ℕ} {ts us rest : List Token} → ts ≡ a_name s x ∷ us → Reads Q G room us rest → Reads (Then AName Q) G room ts rest
then_name s x {room = room} e q = then_reads carries_anything (one_reads Word room s x e) q

pub then_number : (s : Span) (n : ℕ) {Q : Phrases} {G : Follow} {room : ℕ} {ts us rest : List Token} → ts ≡ a_number s n ∷ us → Reads Q G room us rest → Reads (Then ANumber Q) G room ts rest
then_number s n {room = room} e q = then_reads carries_anything (one_reads Number room s n e) q

pub past_sign : (n : ℕ) (s : Span) {Q : Phrases} {G : Follow} {room : ℕ} {ts us : List Token} {e : Failure} → ts ≡ at s (Sign n) ∷ us → FailsAs Q G room us e → FailsAs (Then (ASign n) Q) G room ts e
past_sign n s e q = one_then (λ x. Sign n) s tt e q

pub past_key : (n : ℕ) (s : Span) {Q : Phrases} {G : Follow} {room : ℕ} {ts us : List Token} {e : Failure} → ts ≡ at s (Key n) ∷ us → FailsAs Q G room us e → FailsAs (Then (AKey n) Q) G room ts e
past_key n s e q = one_then (λ x. Key n) s tt e q

pub past_name : (s : Span) (x : List ℕ) {Q : Phrases} {G : Follow} {room : ℕ} {ts us : List Token} {e : Failure} → ts ≡ a_name s x ∷ us → FailsAs Q G room us e → FailsAs (Then AName Q) G room ts e
past_name s x e q = one_then Word s x e q

pub past_number : (s : Span) (n : ℕ) {Q : Phrases} {G : Follow} {room : ℕ} {ts us : List Token} {e : Failure} → ts ≡ a_number s n ∷ us → FailsAs Q G room us e → FailsAs (Then ANumber Q) G room ts e
past_number s n e q = one_then Number s n e q

pub no_sign : (n : ℕ) {Q : Phrases} {G : Follow} {room : ℕ} {ts : List Token} (e : Failure) → Fills Q room → IsSyntax ts e × NotSign n ts → FailsAs (Then (ASign n) Q) G room ts e
no_sign n {room = room} {ts = ts} e q f = first_fails carries_anything q (sign_fails n room ts e f)

pub no_key : (n : ℕ) {Q : Phrases} {G : Follow} {room : ℕ} {ts : List Token} (e : Failure) → Fills Q room → IsSyntax ts e × NotKey n ts → FailsAs (Then (AKey n) Q) G room ts e
no_key n {room = room} {ts = ts} e q f = first_fails carries_anything q (key_fails n room ts e f)

pub no_name : {Q : Phrases} {G : Follow} {room : ℕ} {ts : List Token} (e : Failure) → Fills Q room → IsSyntaxOrMemory (NotName ts) ts e → FailsAs (Then AName Q) G room ts e
no_name {room = room} {ts = ts} e q f = first_fails carries_anything q (name_fails room ts e f)

pub no_number : {Q : Phrases} {G : Follow} {room : ℕ} {ts : List Token} (e : Failure) → Fills Q room → IsSyntax ts e × NotNumber ts → FailsAs (Then ANumber Q) G room ts e
no_number {room = room} {ts = ts} e q f = first_fails carries_anything q (number_fails room ts e f)

-- what a sign or a keyword in front lets end before it
pub before_sign : (n m : ℕ) {Q : Phrases} {G : Follow} → m < sign_rank n → Carries (Then (ASign n) Q) G (Above m)
before_sign n m h = then_carries (one_carries m (λ x. h)) carries_anything

pub before_key : (n m : ℕ) {Q : Phrases} {G : Follow} → m < rank (Key n) → Carries (Then (AKey n) Q) G (Above m)
before_key n m h = then_carries (one_carries m (λ x. h)) carries_anything

pub sign_above : (n m : ℕ) {G : Follow} → m < sign_rank n → Carries (ASign n) G (Above m)
sign_above n m h = one_carries m (λ x. h)

-- ---- lists of expressions

pub exprs_listed : Listed NextExpr (Above 9) (Above 10)
exprs_listed = sign_listed 22 9 10 AnExpr (omega arith) (omega arith) (omega arith)

pub comma_here : (s : Span) (ts us vs : List Token) → ts ≡ sign_comma s ∷ us → SameFront ts vs → Above 10 vs → ⊥
comma_here s [] us vs e h f = let g : ⊥ = cc in g
comma_here s (t ∷ ts) us [] e h f = h
comma_here s (t ∷ ts) us (v ∷ vs) e h f = let g : v ≡ sign_comma s = cc in let i : rank v.sort ≡ 10 = ap (λ z. rank z.sort) g in absurd (omega arith)

no_next : {Q : Phrases} (b : Bound) (ts us k : List Token) → NotSign 22 ts → SameFront ts us → Then (ASign 22) Q b us k → ⊥
no_next b ts us k n h d = refuse us (front_same _ ts us h n) d.first.split
  where
    refuse : (us : List Token) → NotSign 22 us → us ≡ sign_comma d.first.span ∷ d.middle → ⊥
    refuse [] f e = let g : ⊥ = cc in g
    refuse (u ∷ us) f e = f (let g : u ≡ sign_comma d.first.span = cc in ap (λ z. z.sort) g)

pub no_comma : {Q : Phrases} (room : ℕ) (ts : List Token) → NotSign 22 ts → (low : Bool) (us k : List Token) → SameFront ts us → Then (ASign 22) Q (bound_of low room) us k → ⊥
no_comma room ts n low us k h d = no_next (bound_of low room) ts us k n h d

-- ---- arguments

args_none : (ts us : List Token) {es : Trees} {k : List Token} → starts_expr ts ≡ false → SameFront ts us → IsArgs es us k → k ≡ us
args_none ts us n h empty_args = refl
args_none ts us n h (some_args d r) = absurd (starts_none ts us n h d)

pub args_empty : {room : ℕ} (s : Span) {ts us : List Token} → ts ≡ sign_close_bracket s ∷ us → Reads SomeArgs (Ahead 29) room ts ts
args_empty {room = room} s {ts = ts} e = reads_here [] ts refl
    (λ low k. record { tree = no_trees; spelled = empty_args; low = low_none (bound_of low room) })
    (λ low vs k h d f. args_none ts vs (ap starts_expr e) h d.spelled)

no_args : (ts us : List Token) {es : Trees} {k : List Token} → starts_expr ts ≡ false → NotSign 29 ts → SameFront ts us → IsArgs es us k → Ahead 29 k → ⊥
no_args ts us n b h empty_args f = no_bracket us (front_same _ ts us h b) f
no_args ts us n b h (some_args d r) f = starts_none ts us n h d

pub args_stops : {room : ℕ} {ts : List Token} {left : Bor (List Token)} → left.now ≡ ts → starts_expr ts ≡ false → NotSign 29 ts → FailsAs SomeArgs (Ahead 29) room ts (Syntax left)
args_stops {room = room} {ts = ts} l n b = stops_at [] ts refl l ((args_fills room).with_ true) (λ vs k h d f. no_args ts vs n b h d.spelled f)

no_low_args : (room : ℕ) (t : Token) {es : Trees} {us k : List Token} → room ≡ 0 → sort_starts t.sort ≡ true → IsArgs es (t ∷ us) k → LowExprs (AtMost room) es → Ahead 29 k → ⊥
no_low_args room t e s empty_args l f = false≢true (sym (ap sort_starts f) ∙ s)
no_low_args room t e s (some_args {e = a} {es = es} d r) l f = let h = height_pos a in let g : max (height a) (highest es) ≤ room = l.height in omega arith

pub args_deep : {room : ℕ} {ts : List Token} {left : Bor (List Token)} → room ≡ 0 → left.now ≡ ts → starts_expr ts ≡ true → FailsAs SomeArgs (Ahead 29) room ts (Deep left)
args_deep {room = room} {ts = ts} e l s =
    let d = starts_some ts s in
    let i : sort_starts d.token.sort ≡ true = sym (ap starts_expr d.split) ∙ s in
    deep_at [] d.token d.rest d.split (l ∙ d.split) ((args_fills room).with_ true)
    (record { more = d.on.more; spelled = λ k. let x = d.on.spelled k in record { tree = tree_and x.tree no_trees; spelled = some_args x.spelled no_expr; low = free_low _ _ } })
    (λ vs k x f. no_low_args room d.token e i x.spelled x.low f)

-- ---- brackets

unit_only : {s t : Span} {e : Tree} {us k : List Token} → IsAtom e (sign_open s ∷ sign_close t ∷ us) k → k ≡ us
unit_only unit = refl
unit_only (paren d) = absurd (close_starts_no_expr d)
unit_only (tuple d r) = absurd (close_starts_no_expr d)

pub unit_reads : {room : ℕ} (s t : Span) {ts rest : List Token} → 1 ≤ room → ts ≡ sign_close t ∷ rest → Reads AnAtom (Above 0) room (sign_open s ∷ ts) rest
unit_reads {room = room} s t {rest = rest} h e = reads_here (sign_open s ∷ sign_close t ∷ []) rest (ap (λ z. sign_open s ∷ z) e)
    (λ low k. record { tree = TupleTree (to s t) no_trees; spelled = unit; low = low_one low room h })
    (λ low vs k g d f. unit_only d.spelled)

bracket_begins : (room : ℕ) (s : Span) → 1 ≤ room → Completes AnAtom (AtMost room) (sign_open s ∷ [])
bracket_begins room s h = record { more = sign_close nowhere ∷ []; spelled = λ k. record { tree = TupleTree (to s nowhere) no_trees; spelled = unit; low = low_one true room h } }

no_bracketed : (ts us : List Token) {s : Span} {e : Tree} {k : List Token} → starts_expr ts ≡ false → NotSign 25 ts → SameFront ts us → IsAtom e (sign_open s ∷ us) k → ⊥
no_bracketed ts us n b h d = refuse ts us n h (front_same _ ts us h b) d
  where
    refuse : (ts us : List Token) {s : Span} {e : Tree} {k : List Token} → starts_expr ts ≡ false → SameFront ts us → NotSign 25 us → IsAtom e (sign_open s ∷ us) k → ⊥
    refuse ts us n h c unit = c refl
    refuse ts us n h c (paren d) = starts_none ts us n h d
    refuse ts us n h c (tuple d r) = starts_none ts us n h d

pub bracket_stops : {room : ℕ} (s : Span) {ts : List Token} {left : Bor (List Token)} → 1 ≤ room → left.now ≡ ts → starts_expr ts ≡ false → NotSign 25 ts → FailsAs AnAtom (Above 0) room (sign_open s ∷ ts) (Syntax left)
bracket_stops {room = room} s {ts = ts} h l n b = stops_at (sign_open s ∷ []) ts refl l (bracket_begins room s h) (λ vs k g d f. no_bracketed ts vs n b g d.spelled)

pub bracket_deep : {room : ℕ} (s : Span) {ts : List Token} {left : Bor (List Token)} → room ≡ 1 → left.now ≡ ts → starts_expr ts ≡ true → NotSign 25 ts → FailsAs AnAtom (Above 0) room (sign_open s ∷ ts) (Deep left)
bracket_deep {room = room} s {ts = ts} e l n b =
    let d = starts_some ts n in
    let c : NotSign 25 (d.token ∷ d.rest) = subst (NotSign 25) d.split b in
    deep_at (sign_open s ∷ []) d.token d.rest (ap (λ z. sign_open s ∷ z) d.split) (l ∙ d.split) (bracket_begins room s (omega arith))
    (record { more = d.on.more ++ sign_close nowhere ∷ []; spelled = λ k. let x = d.on.spelled (sign_close nowhere ∷ k) in record { tree = ParenTree (to s nowhere) x.tree; spelled = subst (λ z. IsAtom (ParenTree (to s nowhere) x.tree) (sign_open s ∷ d.token ∷ z) k) (sym (append_assoc d.on.more (sign_close nowhere ∷ []) k)) (paren x.spelled); low = free_low _ _ } })
    (λ vs k x f. no_room (let g : room - 1 ≡ 0 = omega arith in g) (bracket_parts true room x.spelled x.low c).first)

-- ---- operands

number_only : {s : Span} {n : ℕ} {e : Tree} {us k : List Token} → IsAtom e (a_number s n ∷ us) k → k ≡ us
number_only number = refl

pub number_reads : {room : ℕ} (s : Span) (n : ℕ) {ts us : List Token} → 1 ≤ room → ts ≡ a_number s n ∷ us → Reads AnAtom (Above 0) room ts us
number_reads {room = room} s n {us = us} h e = reads_here (a_number s n ∷ []) us e (λ low k. record { tree = NumberTree s n; spelled = number; low = low_one low room h }) (λ low vs k g d f. number_only d.spelled)

true_only : {s : Span} {e : Tree} {us k : List Token} → IsAtom e (key_true s ∷ us) k → k ≡ us
true_only truth = refl

pub true_reads : {room : ℕ} (s : Span) {ts us : List Token} → 1 ≤ room → ts ≡ key_true s ∷ us → Reads AnAtom (Above 0) room ts us
true_reads {room = room} s {us = us} h e = reads_here (key_true s ∷ []) us e (λ low k. record { tree = TruthTree s true; spelled = truth; low = low_one low room h }) (λ low vs k g d f. true_only d.spelled)

false_only : {s : Span} {e : Tree} {us k : List Token} → IsAtom e (key_false s ∷ us) k → k ≡ us
false_only falsehood = refl

pub false_reads : {room : ℕ} (s : Span) {ts us : List Token} → 1 ≤ room → ts ≡ key_false s ∷ us → Reads AnAtom (Above 0) room ts us
false_reads {room = room} s {us = us} h e = reads_here (key_false s ∷ []) us e (λ low k. record { tree = TruthTree s false; spelled = falsehood; low = low_one low room h }) (λ low vs k g d f. false_only d.spelled)

variable_only : {s : Span} {x : List ℕ} {e : Tree} {us k : List Token} → NotSign 28 us → IsAtom e (a_name s x ∷ us) k → k ≡ us
variable_only n variable = refl
variable_only n (call d) = absurd (n refl)

pub variable_reads : {room : ℕ} (s : Span) (x : List ℕ) {ts us : List Token} → 1 ≤ room → ts ≡ a_name s x ∷ us → NotSign 28 us → Reads AnAtom (Above 0) room ts us
variable_reads {room = room} s x {us = us} h e n = reads_here (a_name s x ∷ []) us e (λ low k. record { tree = VarTree s x; spelled = variable; low = low_one low room h }) (λ low vs k g d f. variable_only (front_same _ us vs g n) d.spelled)

-- a name that was said to stand there
pub name_there : {ts : List Token} → BeginsName ts → NotName ts → ⊥
name_there (begins_name {x = x}) n = n x refl

atom_none : {e : Tree} {ts k : List Token} → IsAtom e ts k → NotNumber ts → NotKey 20 ts → NotKey 21 ts → NotSign 24 ts → NotName ts → NotKey 7 ts → NotKey 8 ts → NotMem ts → NotSign 26 ts → ⊥
atom_none (number {n = n}) f1 f2 f3 f4 f5 f6 f7 f8 f9 = f1 n refl
atom_none truth f1 f2 f3 f4 f5 f6 f7 f8 f9 = f2 refl
atom_none falsehood f1 f2 f3 f4 f5 f6 f7 f8 f9 = f3 refl
atom_none (variable {x = x}) f1 f2 f3 f4 f5 f6 f7 f8 f9 = f5 x refl
atom_none (call {x = x} d) f1 f2 f3 f4 f5 f6 f7 f8 f9 = f5 x refl
atom_none unit f1 f2 f3 f4 f5 f6 f7 f8 f9 = f4 refl
atom_none (paren d) f1 f2 f3 f4 f5 f6 f7 f8 f9 = f4 refl
atom_none (tuple d r) f1 f2 f3 f4 f5 f6 f7 f8 f9 = f4 refl
atom_none (fields d r) f1 f2 f3 f4 f5 f6 f7 f8 f9 = f9 refl
atom_none (unpack d) f1 f2 f3 f4 f5 f6 f7 f8 f9 = f6 refl
atom_none (pack d) f1 f2 f3 f4 f5 f6 f7 f8 f9 = f7 refl
atom_none (fetch_sram d) f1 f2 f3 f4 f5 f6 f7 f8 f9 = f8 Sram refl
atom_none (fetch_sdram d) f1 f2 f3 f4 f5 f6 f7 f8 f9 = f8 Sdram refl
atom_none (fetch_scratch d) f1 f2 f3 f4 f5 f6 f7 f8 f9 = f8 Scratch refl

-- no operand begins with the token in front
pub atom_stops : {room : ℕ} {ts : List Token} (e : Failure) → 1 ≤ room → NoPlainAtom ts → NotKey 7 ts → NotKey 8 ts → NotMem ts → IsSyntax ts e × NotSign 26 ts → FailsAs AnAtom (Above 0) room ts e
atom_stops NoMemory h p f6 f7 f8 f = no_memory
atom_stops {room = room} {ts = ts} (Syntax left) h p f6 f7 f8 f = stops_at [] ts refl f.0 ((atom_fills room h).with_ true)
    (λ vs k g d o. atom_none d.spelled (front_same _ ts vs g p.number) (front_same _ ts vs g p.yes_) (front_same _ ts vs g p.no_) (front_same _ ts vs g p.bracket) (front_same _ ts vs g p.name) (front_same _ ts vs g f6) (front_same _ ts vs g f7) (front_same _ ts vs g f8) (front_same _ ts vs g f.1))
atom_stops (Deep left) h p f6 f7 f8 f = absurd f.0

-- ---- nodes for which there is no room

pub if_deep : {room : ℕ} (s : Span) {ts us : List Token} {left : Bor (List Token)} → room ≡ 1 → ts ≡ key_if s ∷ us → left.now ≡ ts → FailsAs ATail (Above 9) room ts (Deep left)
if_deep {room = room} s {us = us} h e l = step_deep (key_if s) us (λ vs. if_step s room vs (omega arith)) (if_fills 1 (omega arith)) (λ vs k r. no_room (let g : room - 1 ≡ 0 = omega arith in g) r.first.second.first) ((tail_fills room (omega arith)).with_ true) e l

pub try_deep : {room : ℕ} (s : Span) {ts us : List Token} {left : Bor (List Token)} → room ≡ 1 → ts ≡ key_try s ∷ us → left.now ≡ ts → FailsAs ATail (Above 9) room ts (Deep left)
try_deep {room = room} s {us = us} h e l = step_deep (key_try s) us (λ vs. try_step s room vs (omega arith)) (try_fills 1 (omega arith)) (λ vs k r. no_room (let g : room - 1 ≡ 0 = omega arith in g) r.first.second.first) ((tail_fills room (omega arith)).with_ true) e l

pub tilde_deep : {room : ℕ} (s : Span) {ts us : List Token} {left : Bor (List Token)} → room ≡ 1 → ts ≡ sign_tilde s ∷ us → left.now ≡ ts → FailsAs AnUna (Above 1) room ts (Deep left)
tilde_deep {room = room} s {us = us} h e l = step_deep (sign_tilde s) us (λ vs. invert_step s room vs (omega arith)) (una_fills 1 (omega arith)) (λ vs k r. no_room (let g : room - 1 ≡ 0 = omega arith in g) r) ((una_fills room (omega arith)).with_ true) e l

pub bang_deep : {room : ℕ} (s : Span) {ts us : List Token} {left : Bor (List Token)} → room ≡ 1 → ts ≡ sign_bang s ∷ us → left.now ≡ ts → FailsAs AnUna (Above 1) room ts (Deep left)
bang_deep {room = room} s {us = us} h e l = step_deep (sign_bang s) us (λ vs. negate_step s room vs (omega arith)) (una_fills 1 (omega arith)) (λ vs k r. no_room (let g : room - 1 ≡ 0 = omega arith in g) r) ((una_fills room (omega arith)).with_ true) e l

pub unpack_deep : {room : ℕ} (s : Span) {ts us : List Token} {left : Bor (List Token)} → room ≡ 1 → ts ≡ key_unpack s ∷ us → left.now ≡ ts → FailsAs AnAtom (Above 0) room ts (Deep left)
unpack_deep {room = room} s {us = us} h e l = step_deep (key_unpack s) us (λ vs. unpack_step s room vs (omega arith)) (layout_fills 1 (omega arith)) (λ vs k r. no_room (let g : room - 1 ≡ 0 = omega arith in g) r.second.second.first) ((atom_fills room (omega arith)).with_ true) e l

pub pack_deep : {room : ℕ} (s : Span) {ts us : List Token} {left : Bor (List Token)} → room ≡ 1 → ts ≡ key_pack s ∷ us → left.now ≡ ts → FailsAs AnAtom (Above 0) room ts (Deep left)
pack_deep {room = room} s {us = us} h e l = step_deep (key_pack s) us (λ vs. pack_step s room vs (omega arith)) (layout_fills 1 (omega arith)) (λ vs k r. no_room (let g : room - 1 ≡ 0 = omega arith in g) r.second.second.first) ((atom_fills room (omega arith)).with_ true) e l

pub fetch_deep : {room : ℕ} (m : Mem) (s : Span) {ts us : List Token} {left : Bor (List Token)} → room ≡ 1 → ts ≡ at s (Key (mem_key m)) ∷ us → left.now ≡ ts → FailsAs AnAtom (Above 0) room ts (Deep left)
fetch_deep {room = room} m s {us = us} h e l = step_deep (at s (Key (mem_key m))) us (λ vs. fetch_step m s room vs (omega arith)) (fetch_fills 1 (omega arith)) (λ vs k r. no_room (let g : room - 1 ≡ 0 = omega arith in g) r.second.second.second.second.first) ((atom_fills room (omega arith)).with_ true) e l

pub record_deep : {room : ℕ} (s : Span) {ts us : List Token} {left : Bor (List Token)} → room ≡ 1 → ts ≡ sign_open_brace s ∷ us → left.now ≡ ts → FailsAs AnAtom (Above 0) room ts (Deep left)
record_deep {room = room} s {us = us} h e l = step_deep (sign_open_brace s) us (λ vs. record_step s room vs (omega arith)) (record_fills 1 (omega arith)) (λ vs k r. no_room (let g : room - 1 ≡ 0 = omega arith in g) r.second.second.first) ((atom_fills room (omega arith)).with_ true) e l

-- ---- statements

no_statement_here : {st : StatementTree} {us k : List Token} → IsStatement st us k → NotKey 4 us → NotMem us → ⊥
no_statement_here (let_statement d e) f g = f refl
no_statement_here (store_sram d e) f g = g Sram refl
no_statement_here (store_sdram d e) f g = g Sdram refl
no_statement_here (store_scratch d e) f g = g Scratch refl

pub statement_stops : {room : ℕ} {ts : List Token} {left : Bor (List Token)} → 2 ≤ room → left.now ≡ ts → NotKey 4 ts → NotMem ts → FailsAs AStatement Anything room ts (Syntax left)
statement_stops {room = room} {ts = ts} h l f g = stops_at [] ts refl l (begun ((step_completes true (let_step nowhere room [] (omega arith)) [] ((let_fills (room - 1) (omega arith)).with_ true)))) (λ vs k i d o. no_statement_here d.spelled (front_same _ ts vs i f) (front_same _ ts vs i g))
  where
    begun : Completes AStatement (AtMost room) (key_let nowhere ∷ []) → Completes AStatement (AtMost room) []
    begun c = record { more = key_let nowhere ∷ c.more; spelled = λ k. c.spelled k }

-- ---- operators

-- what goes on after an operand is higher
rest_higher : {l : ℕ} {a e : Tree} (op : Op) (t : Token) {us k : List Token} → t.sort ≡ Sign (sign_of op) → level_of op ≡ l → IsRest l a e (t ∷ us) k → Above (l + 2) k → 1 + height a ≤ height e
rest_higher op t p q no_operator f = let h = rank_of t op p in absurd (omega arith)
rest_higher op t p q (operator p' q' n d r) f = let h = rest_tall r in omega arith
rest_higher op t p q (comparison p' q' d) f = omega arith
rest_higher op t p q (shift p' r) f = let h = rest_tall r in omega arith

rest_begins : (l : ℕ) (a : Tree) (room : ℕ) → LowExpr (AtMost room) a → Completes (ARest l a) (AtMost room) []
rest_begins l a room m = record { more = []; spelled = λ k. record { tree = a; spelled = no_operator; low = m } }

rest_no_room : (room l : ℕ) (a : Tree) (op : Op) (t : Token) → t.sort ≡ Sign (sign_of op) → level_of op ≡ l → height a ≡ room → (vs k : List Token) → ARest l a (AtMost room) (t ∷ vs) k → Above (l + 2) k → ⊥
rest_no_room room l a op t p q h vs k d f = let g = rest_higher op t p q d.spelled f in let i : height d.tree ≤ room = d.low.height in omega arith

pub chain_deep : {room l : ℕ} (a : Tree) (op : Op) {ts us : List Token} {left : Bor (List Token)} → l ≢ 5 → LowExpr (AtMost room) a → height a ≡ room → StartsOperator l op ts us → left.now ≡ ts → FailsAs (ARest l a) (Above (l + 2)) room ts (Deep left)
chain_deep {room = room} {l = l} a op {us = us} n m h s e = deep_at [] s.token us s.split (e ∙ s.split) (rest_begins l a room m)
    (record { more = a_number nowhere 0 ∷ []; spelled = λ k. record { tree = BinaryTree (to (span_of a) nowhere) op a (NumberTree nowhere 0); spelled = operator s.is s.level n (level_of_una l (una_of number)) no_operator; low = free_low _ _ } })
    (rest_no_room room l a op s.token s.is s.level h)

pub comparison_deep : {room : ℕ} (a : Tree) (op : Op) {ts us : List Token} {left : Bor (List Token)} → LowExpr (AtMost room) a → height a ≡ room → StartsOperator 5 op ts us → left.now ≡ ts → FailsAs (ARest 5 a) (Above 7) room ts (Deep left)
comparison_deep {room = room} a op {us = us} m h s e = deep_at [] s.token us s.split (e ∙ s.split) (rest_begins 5 a room m)
    (record { more = a_number nowhere 0 ∷ []; spelled = λ k. record { tree = BinaryTree (to (span_of a) nowhere) op a (NumberTree nowhere 0); spelled = comparison s.is s.level (level_of_una 5 (una_of number)); low = free_low _ _ } })
    (rest_no_room room 5 a op s.token s.is s.level h)

rest_ends : {l : ℕ} {a e : Tree} {us k : List Token} → l ≢ 1 → NoOperator l us → IsRest l a e us k → k ≡ us
rest_ends n f no_operator = refl
rest_ends n f (operator {op = op} p q m d r) = absurd (f op p q)
rest_ends n f (comparison {op = op} p q d) = absurd (f op p q)
rest_ends n f (shift p r) = absurd (n refl)

pub chain_ends : {room l : ℕ} (a : Tree) (ts : List Token) → l ≢ 1 → LowExpr (AtMost room) a → NoOperator l ts → Reads (ARest l a) (Above (l + 2)) room ts ts
chain_ends a ts n m f = reads_here [] ts refl (λ low k. record { tree = a; spelled = no_operator; low = lows m low }) (λ low vs k h d g. rest_ends n (front_same _ ts vs h f) d.spelled)

shifts_over : {a e : Tree} {us k : List Token} → NoShift us → IsRest 1 a e us k → k ≡ us
shifts_over f no_operator = refl
shifts_over f (operator {op = op} p q m d r) = absurd (level_not_one op q)
shifts_over f (shift {op = op} p r) = absurd (f op p)

pub shifts_end : {room : ℕ} (a : Tree) (ts : List Token) → LowExpr (AtMost room) a → NoShift ts → Reads (ARest 1 a) (Above 3) room ts ts
shifts_end a ts m f = reads_here [] ts refl (λ low k. record { tree = a; spelled = no_operator; low = lows m low }) (λ low vs k h d g. shifts_over (front_same _ ts vs h f) d.spelled)

shift_higher : {a e : Tree} (op : ShiftOp) (t : Token) {us k : List Token} → t.sort ≡ Sign (shift_sign_of op) → IsRest 1 a e (t ∷ us) k → Above 3 k → 1 + height a ≤ height e
shift_higher op t p no_operator f = let h = shift_rank t op p in absurd (omega arith)
shift_higher op t p (operator {op = op'} p' q' n d r) f = absurd (level_not_one op' q')
shift_higher op t p (shift p' r) f = let h = rest_tall r in omega arith

shift_low : (low : Bool) (room : ℕ) (op : ShiftOp) (a : Tree) (u : Span) → LowExpr (AtMost room) a → height a ≢ room → LowExpr (bound_of low room) (ShiftTree (to (span_of a) u) op a 0)
shift_low low room op a u m n = let h : height a ≤ room = m.height in low_of low room (1 + height a) (pattern_inside a) (omega (arith, n)) m.patterns

pub shift_deep : {room : ℕ} (a : Tree) (op : ShiftOp) {ts us : List Token} {left : Bor (List Token)} → LowExpr (AtMost room) a → height a ≡ room → StartsShift op ts us → left.now ≡ ts → FailsAs (ARest 1 a) (Above 3) room ts (Deep left)
shift_deep {room = room} a op {us = us} m h s e = deep_at [] s.token us s.split (e ∙ s.split) (rest_begins 1 a room m)
    (record { more = a_number nowhere 0 ∷ []; spelled = λ k. record { tree = ShiftTree (to (span_of a) nowhere) op a 0; spelled = shift s.is no_operator; low = free_low _ _ } })
    (λ vs k d f. let g = shift_higher op s.token s.is d.spelled f in let i : height d.tree ≤ room = d.low.height in omega arith)

shift_number : {a e : Tree} (op : ShiftOp) (t : Token) {us k : List Token} → t.sort ≡ Sign (shift_sign_of op) → NotNumber us → IsRest 1 a e (t ∷ us) k → Above 3 k → ⊥
shift_number op t p n no_operator f = let h = shift_rank t op p in absurd (omega arith)
shift_number op t p n (operator {op = op'} p' q' m d r) f = level_not_one op' q'
shift_number op t p n (shift {n = i} p' r) f = n i refl

pub shift_stops : {room : ℕ} (a : Tree) (op : ShiftOp) {ts us : List Token} (e : Failure) → LowExpr (AtMost room) a → height a ≢ room → StartsShift op ts us → IsSyntax us e × NotNumber us → FailsAs (ARest 1 a) (Above 3) room ts e
shift_stops a op NoMemory m h s f = no_memory
shift_stops {room = room} a op {us = us} (Syntax left) m h s f = stops_at (s.token ∷ []) us s.split f.0
    (record { more = a_number nowhere 0 ∷ []; spelled = λ k. record { tree = ShiftTree (to (span_of a) nowhere) op a 0; spelled = shift s.is no_operator; low = shift_low true room op a nowhere m h } })
    (λ vs k g d o. shift_number op s.token s.is (front_same _ us vs g f.1) d.spelled o)
shift_stops a op (Deep left) m h s f = absurd f.0

-- ---- dots

dots_over : {a e : Tree} {us k : List Token} → NotSign 23 us → IsDots a e us k → k ≡ us
dots_over f no_dot = refl
dots_over f (dot r) = absurd (f refl)

pub dots_end : {room : ℕ} (a : Tree) (ts : List Token) → LowExpr (AtMost room) a → NotSign 23 ts → Reads (SomeDots a) (Above 1) room ts ts
dots_end a ts m f = reads_here [] ts refl (λ low k. record { tree = a; spelled = no_dot; low = lows m low }) (λ low vs k h d g. dots_over (front_same _ ts vs h f) d.spelled)

dot_higher : {a e : Tree} {s : Span} {us k : List Token} → IsDots a e (sign_dot s ∷ us) k → Above 1 k → 1 + height a ≤ height e
dot_higher no_dot f = absurd (omega arith)
dot_higher (dot r) f = let h = dots_tall r in omega arith

dot_low : (low : Bool) (room : ℕ) (a : Tree) (u : Span) → LowExpr (AtMost room) a → height a ≢ room → LowExpr (bound_of low room) (DotTree (to (span_of a) u) a [])
dot_low low room a u m n = let h : height a ≤ room = m.height in low_of low room (1 + height a) (pattern_inside a) (omega (arith, n)) m.patterns

pub dot_deep : {room : ℕ} (a : Tree) (s : Span) {ts us : List Token} {left : Bor (List Token)} → LowExpr (AtMost room) a → height a ≡ room → ts ≡ sign_dot s ∷ us → left.now ≡ ts → FailsAs (SomeDots a) (Above 1) room ts (Deep left)
dot_deep {room = room} a s {us = us} m h e l = deep_at [] (sign_dot s) us e (l ∙ e) (record { more = []; spelled = λ k. record { tree = a; spelled = no_dot; low = m } })
    (record { more = a_name nowhere [] ∷ []; spelled = λ k. record { tree = DotTree (to (span_of a) nowhere) a []; spelled = dot no_dot; low = free_low _ _ } })
    (λ vs k d f. let g = dot_higher d.spelled f in let i : height d.tree ≤ room = d.low.height in omega arith)

dot_named : {a e : Tree} {s : Span} {us k : List Token} → NotName us → IsDots a e (sign_dot s ∷ us) k → Above 1 k → ⊥
dot_named n no_dot f = absurd (omega arith)
dot_named n (dot {x = x} r) f = n x refl

pub dot_stops : {room : ℕ} (a : Tree) (s : Span) {ts us : List Token} (e : Failure) → LowExpr (AtMost room) a → height a ≢ room → ts ≡ sign_dot s ∷ us → IsSyntaxOrMemory (NotName us) us e → FailsAs (SomeDots a) (Above 1) room ts e
dot_stops a s NoMemory m h q f = no_memory
dot_stops {room = room} a s {us = us} (Syntax left) m h q f = stops_at (sign_dot s ∷ []) us q f.0
    (record { more = a_name nowhere [] ∷ []; spelled = λ k. record { tree = DotTree (to (span_of a) nowhere) a []; spelled = dot no_dot; low = dot_low true room a nowhere m h } })
    (λ vs k g d o. dot_named (front_same _ us vs g f.1) d.spelled o)
dot_stops a s (Deep left) m h q f = absurd f

-- ---- what stands behind parts

pub has_before : {Q : Phrases} {G : Follow} → Carries (Then (ASign 29) Q) G (Ahead 29)
has_before = then_carries (sign_ahead 29) carries_anything

pub exprs_before : (n : ℕ) {G : Follow} → 10 < sign_rank n → Carries (Then (Many NextExpr) (ASign n)) G (Above 9)
exprs_before n h = then_carries (many_carries exprs_listed) (sign_above n 10 h)

pub members_listed : Listed NextMember (Above 9) (Above 10)
members_listed = sign_listed 22 9 10 (Then AName (Then (ASign 19) AnExpr)) (omega arith) (omega arith) (omega arith)

pub members_before : (n : ℕ) {G : Follow} → 10 < sign_rank n → Carries (Then (Many NextMember) (ASign n)) G (Above 9)
members_before n h = then_carries (many_carries members_listed) (sign_above n 10 h)

-- where a name stands only memory can fail
pub named_fails : {P : Phrases} {F : Follow} {room : ℕ} {ts us : List Token} (e : Failure) → BeginsName ts → IsSyntaxOrMemory (NotName ts) ts e → FailsAs P F room us e
named_fails NoMemory b f = no_memory
named_fails (Syntax left) b f = absurd (name_there b f.1)
named_fails (Deep left) b f = absurd f

-- ---- levels

pub level_first_fails : (l m : ℕ) {room : ℕ} {ts : List Token} {e : Failure} → suc m ≡ l → FailsAs (ALevel m) (Above (m + 1)) room ts e → FailsAs (ALevel l) (Above (l + 1)) room ts e
level_first_fails l m {room = room} {ts = ts} {e = e} h d = subst (λ z. FailsAs (ALevel z) (Above (z + 1)) room ts e) h (step_fails (level_step m room ts) ts refl (bind_fails (level_binds m room) d))

level_rest : (m room : ℕ) (a : Tree) {ts us : List Token} → IsLevel m a ts us → Reads (ALevel m) (Above (m + 1)) room ts us → Onward (ARest m a) (LevelRow m) (Above (m + 2)) room us ts
level_rest m room a {ts = ts} r d = onward_step onward_start (bind_step a (level_binds m room) r d) d.split

at_level : (p m room : ℕ) {a : Tree} {ts us : List Token} → p ≡ m → IsLevel p a ts us → Reads (ALevel p) (Above (p + 1)) room ts us → Onward (ARest m a) (LevelRow m) (Above (m + 2)) room us ts
at_level p m room {a = a} {ts = ts} {us = us} h r d = level_rest m room a (subst (λ z. IsLevel z a ts us) h r) (subst (λ z. Reads (ALevel z) (Above (z + 1)) room ts us) h d)

pub level_rest_fails : (l p m : ℕ) {room : ℕ} {a : Tree} {ts us : List Token} {e : Failure} → suc m ≡ l → p ≡ m → IsLevel p a ts us → Reads (ALevel p) (Above (p + 1)) room ts us → FailsAs (ARest m a) (Above (m + 2)) room us e → FailsAs (ALevel l) (Above (l + 1)) room ts e
level_rest_fails l p m {room = room} {ts = ts} {e = e} h i r d f = subst (λ z. FailsAs (ALevel z) (Above (z + 1)) room ts e) h (step_fails (level_step m room ts) ts refl ((at_level p m room i r d).fails e f))

pub level_reads : (l p m : ℕ) {room : ℕ} {a : Tree} {ts us rest : List Token} → suc m ≡ l → p ≡ m → IsLevel p a ts us → Reads (ALevel p) (Above (p + 1)) room ts us → Reads (ARest m a) (Above (m + 2)) room us rest → Reads (ALevel l) (Above (l + 1)) room ts rest
level_reads l p m {room = room} {ts = ts} {rest = rest} h i r d f = subst (λ z. Reads (ALevel z) (Above (z + 1)) room ts rest) h (step_reads (level_step m room ts) ts refl ((at_level p m room i r d).reads rest f))

-- an operand that leaves room for an operator
pub low_less : {room : ℕ} (a : Tree) → LowExpr (AtMost room) a → height a ≢ room → LowExpr (AtMost (room - 1)) a
low_less {room = room} a m n = let h : height a ≤ room = m.height in low_of true (room - 1) (height a) (pattern_inside a) (omega (arith, n)) m.patterns

pub operand_fails : {l room : ℕ} (a : Tree) (op : Op) {ts us : List Token} {e : Failure} → l ≢ 5 → 1 ≤ room → LowExpr (AtMost room) a → height a ≢ room → StartsOperator l op ts us → FailsAs (ALevel l) (Above (l + 1)) (room - 1) us e → FailsAs (ARest l a) (Above (l + 2)) room ts e
operand_fails {l = l} {room = room} a op {ts = ts} {us = us} n h m i s f = step_fails (operand_step l op a s.token room us s.is s.level n) ts s.split (bind_fails (operand_binds l op a room h (low_less a m i)) f)

pub operand_onward : {l room : ℕ} (a b x : Tree) (op : Op) {ts us vs fs : List Token} {W : Phrases} → l ≢ 5 → 1 ≤ room → LowExpr (AtMost room) a → height a ≢ room → StartsOperator l op ts us → IsLevel l b us vs → Reads (ALevel l) (Above (l + 1)) (room - 1) us vs → x ≡ BinaryTree (to (span_of a) (span_of b)) op a b →
    Onward (ARest l a) W (Above (l + 2)) room ts fs → Onward (ARest l x) W (Above (l + 2)) room vs fs
operand_onward {l = l} {room = room} a b x op {us = us} {vs = vs} {fs = fs} {W = W} n h m i s r d e o =
    let first = onward_step o (operand_step l op a s.token room us s.is s.level n) s.split in
    subst (λ z. Onward (ARest l z) W (Above (l + 2)) room vs fs) (sym e) (onward_step first (bind_step b (operand_binds l op a room h (low_less a m i)) r d) d.split)

pub comparison_fails : {room : ℕ} (a : Tree) (op : Op) {ts us : List Token} {e : Failure} → 1 ≤ room → LowExpr (AtMost room) a → height a ≢ room → StartsOperator 5 op ts us → FailsAs (ALevel 5) (Above 6) (room - 1) us e → FailsAs (ARest 5 a) (Above 7) room ts e
comparison_fails {room = room} a op {ts = ts} {us = us} h m i s f = step_fails (comparison_step op a s.token room us h (low_less a m i) s.is s.level) ts s.split f

pub comparison_reads : {room : ℕ} (a : Tree) (op : Op) {ts us rest : List Token} → 1 ≤ room → LowExpr (AtMost room) a → height a ≢ room → StartsOperator 5 op ts us → Reads (ALevel 5) (Above 6) (room - 1) us rest → Reads (ARest 5 a) (Above 7) room ts rest
comparison_reads {room = room} a op {ts = ts} {us = us} h m i s f = step_reads (comparison_step op a s.token room us h (low_less a m i) s.is s.level) ts s.split f

pub shift_onward : {room : ℕ} (a x : Tree) (op : ShiftOp) (u : Span) (n : ℕ) {ts us vs fs : List Token} {W : Phrases} → StartsShift op ts us → us ≡ a_number u n ∷ vs → x ≡ ShiftTree (to (span_of a) u) op a n → Onward (ARest 1 a) W (Above 3) room ts fs → Onward (ARest 1 x) W (Above 3) room vs fs
shift_onward {room = room} a x op u n {vs = vs} {fs = fs} {W = W} s q e o =
    subst (λ z. Onward (ARest 1 z) W (Above 3) room vs fs) (sym e) (onward_step o (shift_step op a s.token u n room vs s.is) (s.split ∙ ap (λ z. s.token ∷ z) q))

pub dot_onward : {room : ℕ} (a x : Tree) (s t : Span) (n : List ℕ) {ts us vs fs : List Token} {W : Phrases} → ts ≡ sign_dot s ∷ us → us ≡ a_name t n ∷ vs → x ≡ DotTree (to (span_of a) t) a n → Onward (SomeDots a) W (Above 1) room ts fs → Onward (SomeDots x) W (Above 1) room vs fs
dot_onward {room = room} a x s t n {vs = vs} {fs = fs} {W = W} p q e o =
    subst (λ z. Onward (SomeDots z) W (Above 1) room vs fs) (sym e) (onward_step o (dot_step a s t n room vs) (p ∙ ap (λ z. sign_dot s ∷ z) q))

pub call_split : {s t : Span} {x : List ℕ} {ts us vs : List Token} → ts ≡ a_name s x ∷ us → us ≡ sign_open_bracket t ∷ vs → ts ≡ a_name s x ∷ sign_open_bracket t ∷ vs
call_split {s = s} {x = x} p q = p ∙ ap (λ z. a_name s x ∷ z) q

pub layout_name_fills : (room : ℕ) → Fills LayoutInBrackets room
layout_name_fills room = then_fills (one_fills room tt) (then_fills (one_fills room []) (one_fills room tt))

-- Statements and tails: a memory's keyword begins both, and the token after it tells which.
use Rattle.std.proofs.Common.{◌≡◌, refl, sym, ◌∙◌, ap, subst, ℕ, ◌-◌, ◌<◌, ◌≤◌, List, [], ◌∷◌, ◌++◌, append_assoc, arith, Bool, true, false}
use Rattle.std.proofs.lemmas.Bool.{false≢true}
use Rattle.nv_base.specs.declared.term.Mem.{Mem}
use Rattle.nv_base.specs.declared.term.Mem.TheVariants.{Sram, Sdram, Scratch}
use Rattle.nv_ast.specs.declared.token.Span.{Span}
use Rattle.nv_ast.specs.declared.token.Token.{Token}
use Rattle.nv_ast.specs.declared.token.Sort.TheVariants.{Key}
use Rattle.nv_ast.specs.Tokens.{at, to, a_number, mem_key, key_let, sign_open, sign_close, sign_open_bracket, sign_close_bracket, sign_arrow, sign_semicolon}
use Rattle.nv_ast.specs.Tree.{Tree, NumberTree, FetchTree, BlockTree, StatementTree, StoreStatement, StatementTrees, no_statements, statement_and, span_of, statement_span}
use Rattle.nv_ast.specs.Height.{height, statement_height}
use Rattle.nv_ast.specs.Grammar.{IsExpr, IsStatements, IsStatement, IsTail, IsLevel, IsUna, IsAtom, tail_alone, block, no_statement, next_statement, let_statement, store_sram, store_sdram, store_scratch, operators, una, chain, post, number, fetch_sram, fetch_sdram, fetch_scratch}
use Rattle.nv_text_parser.specs.declared.cursor.Failure.{Failure}
use Rattle.nv_text_parser.specs.inner.Cursor.{NotSign}
use Rattle.nv_text_parser.specs.inner.Follow.{Above}
use Rattle.nv_text_parser.specs.inner.Failing.{Bound, NoBound, AtMost, bound_of, Phrases, Anything, Many, none, next, SameFront, Completes, Reads, Fails, FailsAs, no_memory, syntax, deep}
use Rattle.nv_text_parser.specs.inner.ExprPhrases.{LowExpr, LowStatements, AnExpr, ATail, AStatement, ABody, StartsStatement, starts_let, starts_store, NoStatement, NotMem}
use Rattle.nv_text_parser.proofs.Follow.{level_first, tail_no_statement}
use Rattle.nv_text_parser.proofs.ExprLow.{low_of, free_low, low_one, low_max, low_left, low_right, low_node, low_child, low_none, height_pos, statement_two, rest_tall, dots_tall}
use Rattle.nv_text_parser.proofs.Steps.{Stands, Step}
use Rattle.nv_text_parser.proofs.ExprStarts.{nowhere, una_of, level_of_una, expr_of_una, tail_starts, let_ready, mem_ready, expr_fills}
use Rattle.nv_text_parser.proofs.ExprRules.{store_rule, fetch_rule}

-- ---- what begins a statement begins no tail

pub tail_no_let : {e : Tree} {s : Span} {us k : List Token} → IsTail e (key_let s ∷ us) k → ⊥
tail_no_let (operators d) = let h = level_first d in absurd (omega arith)

atom_no_store : (m : Mem) {e : Tree} {s t : Span} {us k : List Token} → IsAtom e (at s (Key (mem_key m)) ∷ sign_open t ∷ us) k → ⊥
atom_no_store Sram d = elim d [ ]
atom_no_store Sdram d = elim d [ ]
atom_no_store Scratch d = elim d [ ]

una_no_store : (m : Mem) {e : Tree} {s t : Span} {us k : List Token} → IsUna e (at s (Key (mem_key m)) ∷ sign_open t ∷ us) k → ⊥
una_no_store m (post d r) = atom_no_store m d

-- the first operand of a level
record Operand (e : Tree) (ts : List Token) : Type 0 where
  tree : Tree
  rest : List Token
  is : IsUna tree ts rest
  tall : height tree ≤ height e

operand_of : {l : ℕ} {e : Tree} {ts k : List Token} → IsLevel l e ts k → Operand e ts
operand_of (una {e = e} {k = k} d) = record { tree = e; rest = k; is = d; tall = omega arith }
operand_of (chain d r) = let o = operand_of d in let h = rest_tall r in record { tree = o.tree; rest = o.rest; is = o.is; tall = omega (arith, o.tall) }

level_no_store : (m : Mem) {l : ℕ} {e : Tree} {s t : Span} {us k : List Token} → IsLevel l e (at s (Key (mem_key m)) ∷ sign_open t ∷ us) k → ⊥
level_no_store m d = una_no_store m (operand_of d).is

pub tail_no_store : (m : Mem) {e : Tree} {s t : Span} {us k : List Token} → IsTail e (at s (Key (mem_key m)) ∷ sign_open t ∷ us) k → ⊥
tail_no_store Sram (operators d) = level_no_store Sram d
tail_no_store Sdram (operators d) = level_no_store Sdram d
tail_no_store Scratch (operators d) = level_no_store Scratch d

-- nothing is seen yet, and a memory's keyword stands in front
data OnlyMem (us : List Token) : List Token → Type 0 where
  only_mem : (m : Mem) (s : Span) (vs : List Token) → us ≡ at s (Key (mem_key m)) ∷ vs → OnlyMem us []

same_head : (left us : List Token) {u : Token} {vs : List Token} (ws : List Token) → SameFront left us → us ≡ u ∷ vs → SameFront left (u ∷ ws)
same_head [] us {u = u} {vs = vs} ws h e = absurd (subst (λ z. SameFront [] z) e h)
same_head (t ∷ left) us ws h e = subst (λ z. SameFront (t ∷ left) z) e h

-- ---- where no statement begins

none_at_once : (left us : List Token) {st : StatementTree} {k : List Token} → NoStatement left → SameFront left us → IsStatement st us k → OnlyMem us []
none_at_once [] us n h d = absurd (empty_front us d h)
  where
    empty_front : (us : List Token) {st : StatementTree} {k : List Token} → IsStatement st us k → SameFront [] us → ⊥
    empty_front us (let_statement d e) h = h
    empty_front us (store_sram d e) h = h
    empty_front us (store_sdram d e) h = h
    empty_front us (store_scratch d e) h = h
none_at_once (t ∷ left) us n h (let_statement d e) = absurd (n.0 (ap (λ z. z.sort) h))
none_at_once (t ∷ left) us n h (store_sram {s = s} {t = u} {us = vs} d e) = only_mem Sram s (sign_open u ∷ vs) refl
none_at_once (t ∷ left) us n h (store_sdram {s = s} {t = u} {us = vs} d e) = only_mem Sdram s (sign_open u ∷ vs) refl
none_at_once (t ∷ left) us n h (store_scratch {s = s} {t = u} {us = vs} d e) = only_mem Scratch s (sign_open u ∷ vs) refl

not_open : (left us : List Token) (t : Span) → NotSign 24 left → SameFront left (sign_open t ∷ us) → ⊥
not_open [] us t n h = h
not_open (u ∷ left) us t n h = n (ap (λ z. z.sort) h)

none_behind_one : (t : Token) (left us : List Token) {st : StatementTree} {k : List Token} → NoStatement (t ∷ left) → SameFront left us → IsStatement st (t ∷ us) k → ⊥
none_behind_one t left us n h (let_statement d e) = n.0 refl
none_behind_one t left us n h (store_sram {t = u} {us = vs} d e) = not_open left vs u (n.1 Sram refl) h
none_behind_one t left us n h (store_sdram {t = u} {us = vs} d e) = not_open left vs u (n.1 Sdram refl) h
none_behind_one t left us n h (store_scratch {t = u} {us = vs} d e) = not_open left vs u (n.1 Scratch refl) h

none_behind : (t u : Token) (ts us : List Token) {st : StatementTree} {k : List Token} → NoStatement (t ∷ u ∷ ts) → IsStatement st (t ∷ u ∷ us) k → ⊥
none_behind t u ts us n (let_statement d e) = n.0 refl
none_behind t u ts us n (store_sram d e) = n.1 Sram refl refl
none_behind t u ts us n (store_sdram d e) = n.1 Sdram refl refl
none_behind t u ts us n (store_scratch d e) = n.1 Scratch refl refl

only_mem_here : (seen left us : List Token) {st : StatementTree} {k : List Token} → NoStatement (seen ++ left) → SameFront left us → IsStatement st (seen ++ us) k → OnlyMem us seen
only_mem_here [] left us n h d = none_at_once left us n h d
only_mem_here (t ∷ []) left us n h d = absurd (none_behind_one t left us n h d)
only_mem_here (t ∷ u ∷ seen) left us n h d = absurd (none_behind t u (seen ++ left) (seen ++ us) n d)

-- a fetch
pub fetch_more : List Token
fetch_more = sign_open_bracket nowhere ∷ a_number nowhere 0 ∷ sign_close_bracket nowhere ∷ sign_open nowhere ∷ a_number nowhere 0 ∷ sign_close nowhere ∷ []

fetch_tree : Mem → Span → Tree
fetch_tree m s = FetchTree (to s nowhere) m 0 (NumberTree nowhere 0)

a_fetch : (m : Mem) (s : Span) (low : Bool) (room : ℕ) → 2 ≤ room → (k : List Token) → ATail (bound_of low room) (at s (Key (mem_key m)) ∷ (fetch_more ++ k)) k
unfolding fetch_more fetch_tree
a_fetch m s low room h k = record {
  tree = fetch_tree m s;
  spelled = operators (level_of_una 8 (una_of (fetch_rule m s nowhere nowhere nowhere nowhere nowhere (expr_of_una (una_of number)))));
  low = low_of low room 2 0 h (omega arith);
}

free_fetch : (m : Mem) (s : Span) (k : List Token) → ATail NoBound (at s (Key (mem_key m)) ∷ (fetch_more ++ k)) k
free_fetch m s k = a_fetch m s false 2 (omega arith) k

-- a tail that fails nowhere before a memory's keyword would have read a fetch
no_failed_fetch : (low : Bool) (room : ℕ) (seen left us : List Token) → OnlyMem us seen → SameFront left us → ((vs k : List Token) → SameFront left vs → ATail (bound_of low room) (seen ++ vs) k → Above 9 k → ⊥) → ((m : Mem) (s : Span) (k : List Token) → ATail (bound_of low room) (at s (Key (mem_key m)) ∷ (fetch_more ++ k)) k) → ⊥
no_failed_fetch low room seen left us (only_mem m s vs e) h dead f = dead (at s (Key (mem_key m)) ∷ (fetch_more ++ [])) [] (same_head left us (fetch_more ++ []) h e) (f m s []) tt

-- ---- a tail, or a statement and more

pub data TailOr (low : Bool) (room : ℕ) (us k : List Token) : Type 0 where
  a_tail : ATail (bound_of low room) us k → TailOr low room us k
  stated : (st : StatementTree) (vs : List Token) → IsStatement st us vs → ((m : Mem) (s : Span) (k : List Token) → ATail (bound_of low room) (at s (Key (mem_key m)) ∷ (fetch_more ++ k)) k) → TailOr low room us k

-- where a tail is one, and anything else begins with a statement and has room for a fetch
pub record Mixed (W : Phrases) (room : ℕ) : Type 0 where
  pub make : (low : Bool) (us k : List Token) → ATail (bound_of low room) us k → W (bound_of low room) us k
  pub cases : (low : Bool) (us k : List Token) → W (bound_of low room) us k → TailOr low room us k

tail_some : {e : Tree} {k : List Token} → IsTail e [] k → ⊥
tail_some d = false≢true (tail_starts d)

no_empty : (room : ℕ) (seen us : List Token) → OnlyMem us seen → ATail NoBound (seen ++ []) [] → ⊥
no_empty room seen us (only_mem m s vs e) d = tail_some d.spelled

pub mixed_reads : {W : Phrases} {room : ℕ} {ts rest : List Token} → Mixed W room → NoStatement ts → Reads ATail (Above 9) room ts rest → Reads W (Above 9) room ts rest
mixed_reads {W = W} {room = room} {rest = rest} x n d = record {
  seen = d.seen;
  split = d.split;
  again = λ low k. x.make low (d.seen ++ k) k (d.again low k);
  only = λ low us k h w f. only low us k h (x.cases low (d.seen ++ us) k w) f;
}
  where
    only : (low : Bool) (us k : List Token) → SameFront rest us → TailOr low room (d.seen ++ us) k → Above 9 k → k ≡ us
    only low us k h (a_tail t) f = d.only low us k h t f
    only low us k h (stated st vs s g) f = absurd (no_empty room d.seen us (only_mem_here d.seen rest us (subst NoStatement d.split n) h s) (d.again false []))

mixed_dead : {room : ℕ} {ts : List Token} (low : Bool) (seen left : List Token) → ts ≡ seen ++ left → NoStatement ts → ((vs k : List Token) → SameFront left vs → ATail (bound_of low room) (seen ++ vs) k → Above 9 k → ⊥) →
    (us k : List Token) → SameFront left us → TailOr low room (seen ++ us) k → Above 9 k → ⊥
mixed_dead low seen left e n dead us k h (a_tail t) f = dead us k h t f
mixed_dead {room = room} low seen left e n dead us k h (stated st vs s g) f = no_failed_fetch low room seen left us (only_mem_here seen left us (subst NoStatement e n) h s) h dead g

pub mixed_fails : {W : Phrases} {room : ℕ} {ts : List Token} {e : Failure} → Mixed W room → NoStatement ts → FailsAs ATail (Above 9) room ts e → FailsAs W (Above 9) room ts e
mixed_fails x n no_memory = no_memory
mixed_fails x n (syntax {left = left} d) = syntax (record {
  seen = d.seen;
  split = d.split;
  begins = record { more = d.begins.more; spelled = λ k. x.make true (d.seen ++ (d.begins.more ++ k)) k (d.begins.spelled k) };
  goes_on = tt;
  dead = λ us k h w f. mixed_dead false d.seen left.now d.split n d.dead us k h (x.cases false (d.seen ++ us) k w) f;
})
mixed_fails x n (deep {left = left} d) = deep (record {
  seen = d.seen;
  split = d.split;
  begins = record { more = d.begins.more; spelled = λ k. x.make true (d.seen ++ (d.begins.more ++ k)) k (d.begins.spelled k) };
  goes_on = record {
    token = d.goes_on.token;
    rest = d.goes_on.rest;
    split = d.goes_on.split;
    on = record { more = d.goes_on.on.more; spelled = λ k. record { whole = x.make false (d.seen ++ (d.goes_on.token ∷ (d.goes_on.on.more ++ k))) k (d.goes_on.on.spelled k).whole } };
  };
  dead = λ us k h w f. mixed_dead true d.seen left.now d.split n d.dead us k h (x.cases true (d.seen ++ us) k w) f;
})

expr_cases : (low : Bool) (room : ℕ) {e : Tree} {us k : List Token} → IsExpr e us k → LowExpr (bound_of low room) e → TailOr low room us k
expr_cases low room (tail_alone {e = e} d) l = a_tail (record { tree = e; spelled = d; low = l })
expr_cases false room (block (next_statement {st = st} {us = us} d f) g) l = stated st us d (λ m s k. free_fetch m s k)
expr_cases true room (block (next_statement {st = st} {sts = sts} {us = us} d f) (g)) l =
    let h = statement_two st in
    let i = l.height in
    stated st us d (λ m s k. a_fetch m s true room (omega arith) k)

pub expr_mixed : (room : ℕ) → Mixed AnExpr room
expr_mixed room = record {
  make = λ low us k d. record { tree = d.tree; spelled = tail_alone d.spelled; low = d.low };
  cases = λ low us k d. expr_cases low room d.spelled d.low;
}

body_cases : (low : Bool) (room : ℕ) {us vs k : List Token} → Many AStatement (bound_of low room) us vs → ATail (bound_of low room) vs k → TailOr low room us k
body_cases low room none t = a_tail t
body_cases false room (next {us = us} d e) t = stated d.tree us d.spelled (λ m s k. free_fetch m s k)
body_cases true room (next {us = us} d e) t =
    let h = statement_two d.tree in
    let i : statement_height d.tree ≤ room = d.low.height in
    stated d.tree us d.spelled (λ m s k. a_fetch m s true room (omega arith) k)

pub body_mixed : (room : ℕ) → Mixed ABody room
body_mixed room = record {
  make = λ low us k d. record { middle = us; first = none; second = d };
  cases = λ low us k d. body_cases low room d.first d.second;
}

-- ---- where a statement begins

-- another spelling of the first tokens
first_is : {e : Tree} {us k : List Token} (t u : Token) → u ≡ t → IsTail e (u ∷ us) k → IsTail e (t ∷ us) k
first_is {e = e} {us = us} {k = k} t u h d = subst (λ z. IsTail e (z ∷ us) k) h d

second_is : {e : Tree} {us k : List Token} (s t u : Token) → u ≡ t → IsTail e (s ∷ u ∷ us) k → IsTail e (s ∷ t ∷ us) k
second_is {e = e} {us = us} {k = k} s t u h d = subst (λ z. IsTail e (s ∷ z ∷ us) k) h d

behind_is : {e : Tree} {k : List Token} (s : Token) (us vs : List Token) → us ≡ vs → IsTail e (s ∷ us) k → IsTail e (s ∷ vs) k
behind_is {e = e} {k = k} s us vs h d = subst (λ z. IsTail e (s ∷ z) k) h d

tail_at_once : (left us : List Token) {e : Tree} {k : List Token} → StartsStatement left → SameFront left us → IsTail e us k → OnlyMem us []
tail_at_once left [] s h d = absurd (tail_some d)
tail_at_once left (u ∷ us) (starts_let {s = s}) h d = absurd (tail_no_let (first_is (key_let s) u (sym h) d))
tail_at_once left (u ∷ us) (starts_store m {s = s} {t = t}) h d = only_mem m s us (ap (λ z. z ∷ us) (sym h))

record Opens (us : List Token) (t : Span) : Type 0 where
  rest : List Token
  is : us ≡ sign_open t ∷ rest

open_there : (left us : List Token) (t : Span) (k : List Token) → left ≡ sign_open t ∷ k → SameFront left us → Opens us t
open_there [] us t k e h = absurd (let g : ⊥ = cc in g)
open_there (l ∷ left) [] t k e h = absurd h
open_there (l ∷ left) (u ∷ us) t k e h = record { rest = us; is = let g : l ≡ sign_open t = cc in ap (λ z. z ∷ us) (sym h ∙ g) }

tail_behind_one : (t : Token) (left us ts : List Token) {e : Tree} {k : List Token} → StartsStatement ts → ts ≡ t ∷ left → SameFront left us → IsTail e (t ∷ us) k → ⊥
tail_behind_one t left us ts (starts_let {s = s}) q h d = let g : t ≡ key_let s = cc in tail_no_let (first_is (key_let s) t g d)
tail_behind_one t left us ts (starts_store m {s = s} {t = u} {k = k}) q h d =
    let g : t ≡ at s (Key (mem_key m)) = cc in
    let i : left ≡ sign_open u ∷ k = cc in
    let o = open_there left us u k i h in
    tail_no_store m (behind_is (at s (Key (mem_key m))) us (sign_open u ∷ o.rest) o.is (first_is (at s (Key (mem_key m))) t g d))

tail_behind : (t u : Token) (vs us ts : List Token) {e : Tree} {k : List Token} → StartsStatement ts → ts ≡ t ∷ u ∷ vs → IsTail e (t ∷ u ∷ us) k → ⊥
tail_behind t u vs us ts (starts_let {s = s}) q d = let g : t ≡ key_let s = cc in tail_no_let (first_is (key_let s) t g d)
tail_behind t u vs us ts (starts_store m {s = s} {t = o} {k = k}) q d =
    let g : t ≡ at s (Key (mem_key m)) = cc in
    let i : u ≡ sign_open o = cc in
    tail_no_store m (second_is (at s (Key (mem_key m))) (sign_open o) u i (first_is (at s (Key (mem_key m))) t g d))

tail_only_mem : (seen left us : List Token) {e : Tree} {k : List Token} → StartsStatement (seen ++ left) → SameFront left us → IsTail e (seen ++ us) k → OnlyMem us seen
tail_only_mem [] left us s h d = tail_at_once left us s h d
tail_only_mem (t ∷ []) left us s h d = absurd (tail_behind_one t left us (t ∷ left) s refl h d)
tail_only_mem (t ∷ u ∷ seen) left us s h d = absurd (tail_behind t u (seen ++ left) (seen ++ us) (t ∷ u ∷ (seen ++ left)) s refl d)

-- a store
store_more : List Token
store_more = sign_open nowhere ∷ a_number nowhere 0 ∷ sign_close nowhere ∷ sign_arrow nowhere ∷ a_number nowhere 0 ∷ sign_semicolon nowhere ∷ []

a_store : (m : Mem) (s : Span) (low : Bool) (room : ℕ) → 2 ≤ room → (k : List Token) → AStatement (bound_of low room) (at s (Key (mem_key m)) ∷ (store_more ++ k)) k
unfolding store_more
a_store m s low room h k = record {
  tree = StoreStatement (to s nowhere) m (NumberTree nowhere 0) (NumberTree nowhere 0);
  spelled = store_rule m s nowhere nowhere nowhere nowhere (expr_of_una (una_of number)) (operators (level_of_una 8 (una_of number)));
  low = low_of low room 2 0 h (omega arith);
}

no_failed_store : (low : Bool) (room : ℕ) (seen left us : List Token) → 2 ≤ room → OnlyMem us seen → SameFront left us → ((vs k : List Token) → SameFront left vs → AStatement (bound_of low room) (seen ++ vs) k → Anything k → ⊥) → ⊥
no_failed_store low room seen left us g (only_mem m s vs e) h dead = dead (at s (Key (mem_key m)) ∷ (store_more ++ [])) [] (same_head left us (store_more ++ []) h e) (a_store m s low room g []) tt

pub data Led (inner : ℕ) (low : Bool) (us k : List Token) : Type 0 where
  led_tail : (e : Tree) → IsTail e us k → Led inner low us k
  led_by : (vs : List Token) → AStatement (bound_of low inner) us vs → ABody (bound_of low inner) vs k → Led inner low us k

-- where a statement leads a body within `inner`
pub record Leads (W : Phrases) (room inner : ℕ) : Type 0 where
  pub make : (low : Bool) (us vs k : List Token) → AStatement (bound_of low inner) us vs → ABody (bound_of low inner) vs k → W (bound_of low room) us k
  pub cases : (low : Bool) (us k : List Token) → W (bound_of low room) us k → Led inner low us k

a_body : (low : Bool) (room : ℕ) → 1 ≤ room → (k : List Token) → ABody (bound_of low room) (a_number nowhere 0 ∷ k) k
a_body low room h k = record { middle = a_number nowhere 0 ∷ k; first = none; second = record { tree = NumberTree nowhere 0; spelled = operators (level_of_una 8 (una_of number)); low = low_one low room h } }

led_completes : {W : Phrases} {room inner : ℕ} (low : Bool) {seen : List Token} → Leads W room inner → 2 ≤ inner → Completes AStatement (bound_of low inner) seen → Completes W (bound_of low room) seen
led_completes {inner = inner} low {seen = seen} x h c = record {
  more = c.more ++ a_number nowhere 0 ∷ [];
  spelled = λ k. rw append_assoc (x.make low (seen ++ (c.more ++ (a_number nowhere 0 ∷ k))) (a_number nowhere 0 ∷ k) k (c.spelled (a_number nowhere 0 ∷ k)) (a_body low inner (omega arith) k));
}

led_dead : {inner : ℕ} {ts : List Token} (low : Bool) (seen left : List Token) → 2 ≤ inner → ts ≡ seen ++ left → StartsStatement ts → ((vs k : List Token) → SameFront left vs → AStatement (bound_of low inner) (seen ++ vs) k → Anything k → ⊥) →
    (us k : List Token) → SameFront left us → Led inner low (seen ++ us) k → ⊥
led_dead {inner = inner} low seen left g e s dead us k h (led_tail t d) = no_failed_store low inner seen left us g (tail_only_mem seen left us (subst StartsStatement e s) h d) h dead
led_dead low seen left g e s dead us k h (led_by vs d b) = dead us vs h d tt

-- the first statement fails
pub led_fails : {W : Phrases} {room inner : ℕ} {ts : List Token} {e : Failure} → Leads W room inner → 2 ≤ inner → StartsStatement ts → FailsAs AStatement Anything inner ts e → FailsAs W (Above 9) room ts e
led_fails x g s no_memory = no_memory
led_fails x g s (syntax {left = left} d) = syntax (record {
  seen = d.seen;
  split = d.split;
  begins = led_completes true x g d.begins;
  goes_on = tt;
  dead = λ us k h w f. led_dead false d.seen left.now g d.split s d.dead us k h (x.cases false (d.seen ++ us) k w);
})
led_fails x g s (deep {left = left} d) = deep (record {
  seen = d.seen;
  split = d.split;
  begins = led_completes true x g d.begins;
  goes_on =
      let c = led_completes false {seen = d.seen ++ d.goes_on.token ∷ []} x g (record { more = d.goes_on.on.more; spelled = λ k. rw append_assoc (d.goes_on.on.spelled k).whole }) in
      record { token = d.goes_on.token; rest = d.goes_on.rest; split = d.goes_on.split; on = record { more = c.more; spelled = λ k. record { whole = rw append_assoc at (c.spelled k) } } };
  dead = λ us k h w f. led_dead true d.seen left.now g d.split s d.dead us k h (x.cases true (d.seen ++ us) k w);
})

-- the first statement is read
pub led_step : {W : Phrases} {room inner : ℕ} {ts us : List Token} → Leads W room inner → (d : Reads AStatement Anything inner ts us) → Step d.seen ABody inner (Above 9) W room (Above 9) us
led_step {room = room} {inner = inner} {us = us} x d = record {
  make = λ low vs k b. x.make low (d.seen ++ vs) vs k (d.again low vs) b;
  parts = λ low vs k h w f. go low vs k h (x.cases low (d.seen ++ vs) k w) f;
}
  where
    go : (low : Bool) (vs k : List Token) → SameFront us vs → Led inner low (d.seen ++ vs) k → Above 9 k → Stands ABody (Above 9) (bound_of low inner) vs k
    go low vs k h (led_tail e t) f = absurd (tail_no_statement t (d.again false vs).spelled)
    go low vs k h (led_by ws s b) f = record { row = subst (λ z. ABody (bound_of low inner) z k) (d.only low vs ws h s tt) b; follow = f }

body_led : (low : Bool) (room : ℕ) {us vs k : List Token} → Many AStatement (bound_of low room) us vs → ATail (bound_of low room) vs k → Led room low us k
body_led low room none t = led_tail t.tree t.spelled
body_led low room {vs = vs} (next {us = us} d e) t = led_by us d (record { middle = vs; first = e; second = t })

pub body_leads : (room : ℕ) → Leads ABody room room
body_leads room = record {
  make = λ low us vs k d b. record { middle = b.middle; first = next d b.first; second = b.second };
  cases = λ low us k d. body_led low room d.first d.second;
}

record Listed (b : Bound) (ts k : List Token) : Type 0 where
  trees : StatementTrees
  list : IsStatements trees ts k
  low : LowStatements b trees

statements_of : {b : Bound} {ts k : List Token} → Many AStatement b ts k → Listed b ts k
statements_of {b = b} none = record { trees = no_statements; list = no_statement; low = low_none b }
statements_of (next d e) = let r = statements_of e in record { trees = statement_and d.tree r.trees; list = next_statement d.spelled r.list; low = low_max d.low r.low }

many_statements : {b : Bound} {sts : StatementTrees} {ts k : List Token} → IsStatements sts ts k → LowStatements b sts → Many AStatement b ts k
many_statements no_statement l = none
many_statements (next_statement {st = st} d r) l = next (record { tree = st; spelled = d; low = low_left _ _ l }) (many_statements r (low_right _ _ l))

expr_make : (low : Bool) (room : ℕ) (us vs k : List Token) → 1 ≤ room → AStatement (bound_of low (room - 1)) us vs → ABody (bound_of low (room - 1)) vs k → AnExpr (bound_of low room) us k
expr_make low room us vs k h d b =
    let r = statements_of b.first in
    let e = b.second in
    record {
      tree = BlockTree (to (statement_span d.tree) (span_of e.tree)) (statement_and d.tree r.trees) e.tree;
      spelled = block (next_statement d.spelled r.list) e.spelled;
      low = low_node low room h (low_max (low_max d.low r.low) e.low);
    }

expr_led : (low : Bool) (room : ℕ) {e : Tree} {us k : List Token} → IsExpr e us k → LowExpr (bound_of low room) e → Led (room - 1) low us k
expr_led low room (tail_alone {e = e} d) l = led_tail e d
expr_led low room (block {e = e} {us = vs} (next_statement {st = st} {us = us} d f) g) l =
    let m = low_child low room l in
    let n = low_left _ _ m in
    led_by us (record { tree = st; spelled = d; low = low_left _ _ n }) (record { middle = vs; first = many_statements f (low_right _ _ n); second = record { tree = e; spelled = g; low = low_right _ _ m } })

pub expr_leads : (room : ℕ) → 1 ≤ room → Leads AnExpr room (room - 1)
expr_leads room h = record {
  make = λ low us vs k d b. expr_make low room us vs k h d b;
  cases = λ low us k d. expr_led low room d.spelled d.low;
}

-- ---- a block for which there is no room

atom_tall : (m : Mem) {e : Tree} {s : Span} {us k : List Token} → IsAtom e (at s (Key (mem_key m)) ∷ us) k → 2 ≤ height e
atom_tall Sram (fetch_sram {e = e} d) = let h = height_pos e in omega arith
atom_tall Sdram (fetch_sdram {e = e} d) = let h = height_pos e in omega arith
atom_tall Scratch (fetch_scratch {e = e} d) = let h = height_pos e in omega arith

una_tall : (m : Mem) {e : Tree} {s : Span} {us k : List Token} → IsUna e (at s (Key (mem_key m)) ∷ us) k → 2 ≤ height e
una_tall m (post d r) = let h = atom_tall m d in let g = dots_tall r in omega arith

level_tall : (m : Mem) {l : ℕ} {e : Tree} {s : Span} {us k : List Token} → IsLevel l e (at s (Key (mem_key m)) ∷ us) k → 2 ≤ height e
level_tall m d = let o = operand_of d in let h = una_tall m o.is in omega (arith, o.tall)

tail_tall : (m : Mem) {e : Tree} {s : Span} {us k : List Token} → IsTail e (at s (Key (mem_key m)) ∷ us) k → 2 ≤ height e
tail_tall Sram (operators d) = level_tall Sram d
tail_tall Sdram (operators d) = level_tall Sdram d
tail_tall Scratch (operators d) = level_tall Scratch d

block_tall : (st : StatementTree) (sts : StatementTrees) (e : Tree) (s : Span) (n : ℕ) → LowExpr (AtMost n) (BlockTree s (statement_and st sts) e) → 3 ≤ n
block_tall st sts e s n l = let h = statement_two st in let g = l.height in omega arith

mem_expr_tall : (m : Mem) {e : Tree} {s : Span} {us k : List Token} → IsExpr e (at s (Key (mem_key m)) ∷ us) k → LowExpr (AtMost 1) e → ⊥
mem_expr_tall m (tail_alone d) l = let h = tail_tall m d in let g = l.height in absurd (omega arith)
mem_expr_tall m (block {st = st} {sts = sts} {e = e} (next_statement d f) g) l = let h = block_tall st sts e (to (statement_span st) (span_of e)) 1 l in absurd (omega arith)

let_expr_tall : (n : ℕ) {e : Tree} {s : Span} {us k : List Token} → n < 3 → IsExpr e (key_let s ∷ us) k → LowExpr (AtMost n) e → ⊥
let_expr_tall n i (tail_alone d) l = tail_no_let d
let_expr_tall n i (block {st = st} {sts = sts} {e = e} (next_statement d f) g) l = let h = block_tall st sts e (to (statement_span st) (span_of e)) n l in absurd (omega arith)

store_expr_tall : (m : Mem) {e : Tree} {s t : Span} {us k : List Token} → IsExpr e (at s (Key (mem_key m)) ∷ sign_open t ∷ us) k → LowExpr (AtMost 2) e → ⊥
store_expr_tall m (tail_alone d) l = tail_no_store m d
store_expr_tall m (block {st = st} {sts = sts} {e = e} (next_statement d f) g) l = let h = block_tall st sts e (to (statement_span st) (span_of e)) 2 l in absurd (omega arith)

first_dead : (P : Phrases) (b : Bound) (t : Token) (ts : List Token) → ((vs k : List Token) → P b (t ∷ vs) k → ⊥) → (us k : List Token) → SameFront (t ∷ ts) us → P b us k → ⊥
first_dead P b t ts n [] k h d = absurd h
first_dead P b t ts n (u ∷ us) k h d = n us k (subst (λ z. P b (z ∷ us) k) (sym h) d)

too_high_at : (room : ℕ) (t : Token) (ts : List Token) → 1 ≤ room → Completes AnExpr NoBound (t ∷ []) → ((vs k : List Token) → AnExpr (AtMost room) (t ∷ vs) k → ⊥) → Fails AnExpr (Above 9) true room (t ∷ ts) (t ∷ ts)
too_high_at room t ts h c n = record {
  seen = [];
  split = refl;
  begins = (expr_fills room h).with_ true;
  goes_on = record { token = t; rest = ts; split = refl; on = record { more = c.more; spelled = λ k. record { whole = c.spelled k } } };
  dead = λ us k s d f. first_dead AnExpr (AtMost room) t ts n us k s d;
}

-- with room for one node alone
pub too_high_one : (room : ℕ) {ts : List Token} → room ≡ 1 → StartsStatement ts → Fails AnExpr (Above 9) true room ts ts
too_high_one room e (starts_let {s = s} {k = k}) = too_high_at room (key_let s) k (omega arith) (let_ready s) (λ vs j d. let_expr_tall room (omega arith) d.spelled d.low)
too_high_one room e (starts_store m {s = s} {t = t} {k = k}) = too_high_at room (at s (Key (mem_key m))) (sign_open t ∷ k) (omega arith) (mem_ready m s) (λ vs j d. mem_expr_tall m d.spelled (subst (λ z. LowExpr (AtMost z) d.tree) e d.low))

-- a let
pub too_high_let : (room : ℕ) {ts : List Token} → 1 ≤ room → room < 3 → NotMem ts → StartsStatement ts → Fails AnExpr (Above 9) true room ts ts
too_high_let room h i n (starts_let {s = s} {k = k}) = too_high_at room (key_let s) k h (let_ready s) (λ vs j d. let_expr_tall room i d.spelled d.low)
too_high_let room h i n (starts_store m) = absurd (n m refl)

-- a store, where there is room for a fetch
store_ready : (m : Mem) (s t : Span) → Completes AnExpr NoBound (at s (Key (mem_key m)) ∷ sign_open t ∷ [])
store_ready m s t = record {
  more = a_number nowhere 0 ∷ sign_close nowhere ∷ sign_arrow nowhere ∷ a_number nowhere 0 ∷ sign_semicolon nowhere ∷ a_number nowhere 0 ∷ [];
  spelled = λ k. record {
    tree = BlockTree (to (to s nowhere) nowhere) (statement_and (StoreStatement (to s nowhere) m (NumberTree nowhere 0) (NumberTree nowhere 0)) no_statements) (NumberTree nowhere 0);
    spelled = block (next_statement (store_rule m s t nowhere nowhere nowhere (expr_of_una (una_of number)) (operators (level_of_una 8 (una_of number)))) no_statement) (operators (level_of_una 8 (una_of number)));
    low = free_low _ _;
  };
}

store_begins : (m : Mem) (s : Span) → Completes AnExpr (AtMost 2) (at s (Key (mem_key m)) ∷ [])
store_begins m s = record { more = fetch_more; spelled = λ k. let d = a_fetch m s true 2 (omega arith) k in record { tree = d.tree; spelled = tail_alone d.spelled; low = d.low } }

too_high_store : (m : Mem) (s t : Span) (k : List Token) → Fails AnExpr (Above 9) true 2 (at s (Key (mem_key m)) ∷ sign_open t ∷ k) (sign_open t ∷ k)
too_high_store m s t k = record {
  seen = at s (Key (mem_key m)) ∷ [];
  split = refl;
  begins = store_begins m s;
  goes_on = let c = store_ready m s t in record { token = sign_open t; rest = k; split = refl; on = record { more = c.more; spelled = λ j. record { whole = c.spelled j } } };
  dead = λ us j h d f. first_dead (λ b vs i. AnExpr b (at s (Key (mem_key m)) ∷ vs) i) (AtMost 2) (sign_open t) k (λ vs i e. store_expr_tall m e.spelled e.low) us j h d;
}

pub too_high_two : (room : ℕ) {ts us : List Token} (m : Mem) (s : Span) → room ≡ 2 → ts ≡ at s (Key (mem_key m)) ∷ us → StartsStatement ts → Fails AnExpr (Above 9) true room ts us
too_high_two room m s e q (starts_let {s = t}) = absurd (let_no_mem m (let h : key_let t ≡ at s (Key (mem_key m)) = cc in ap (λ z. z.sort) h))
  where
    let_no_mem : (m : Mem) → Key 4 ≡ Key (mem_key m) → ⊥
    let_no_mem Sram h = let i : ◌≡◌ {A = ℕ} 4 12 = cc in absurd (omega arith)
    let_no_mem Sdram h = let i : ◌≡◌ {A = ℕ} 4 13 = cc in absurd (omega arith)
    let_no_mem Scratch h = let i : ◌≡◌ {A = ℕ} 4 14 = cc in absurd (omega arith)
too_high_two room {us = us} m s e q (starts_store n {s = t} {t = u} {k = k}) =
    let i : us ≡ sign_open u ∷ k = cc in
    subst (λ z. Fails AnExpr (Above 9) true z (at t (Key (mem_key n)) ∷ sign_open u ∷ k) us) (sym e) (subst (λ z. Fails AnExpr (Above 9) true 2 (at t (Key (mem_key n)) ∷ sign_open u ∷ k) z) (sym i) (too_high_store n t u k))

-- Each production of an expression as a step: what stands after its first tokens.
use Rattle.std.proofs.Common.{◌≡◌, ◌≢◌, refl, ap, subst, ℕ, suc, ◌+◌, ◌-◌, ◌<◌, ◌≤◌, List, [], ◌∷◌, arith, Bool}
use Rattle.nv_base.specs.declared.term.Mem.{Mem}
use Rattle.nv_base.specs.declared.term.Mem.TheVariants.{Sram, Sdram, Scratch}
use Rattle.nv_ast.specs.declared.token.Span.{Span}
use Rattle.nv_ast.specs.declared.token.Token.{Token}
use Rattle.nv_ast.specs.declared.token.Sort.TheVariants.{Key, Sign}
use Rattle.nv_ast.specs.declared.tree.Op.{Op}
use Rattle.nv_ast.specs.declared.tree.ShiftOp.{ShiftOp}
use Rattle.nv_ast.specs.Tokens.{at, to, a_name, a_number, sign_of, level_of, shift_sign_of, mem_key, key_let, key_if, key_raise, key_try, key_unpack, key_pack, sign_tilde, sign_bang, sign_arrow, sign_semicolon, sign_dot, sign_open, sign_close, sign_open_brace, sign_open_bracket}
use Rattle.nv_ast.specs.Tree.{Tree, ParenTree, TupleTree, FieldsTree, DotTree, InvertTree, NegateTree, BinaryTree, ShiftTree, CallTree, UnpackTree, PackTree, RaiseTree, IfTree, TryTree, FetchTree, Trees, no_trees, tree_and, NamedTrees, no_named_trees, named_tree_and, StatementTree, LetStatement, StoreStatement, span_of}
use Rattle.nv_ast.specs.Height.{height, pattern_inside, pattern_height, highest_pattern}
use Rattle.nv_ast.specs.Grammar.{IsExpr, IsStatement, IsTail, IsArgs, IsMoreExprs, IsLevel, IsRest, IsUna, IsDots, IsAtom, IsMoreMembers, let_statement, store_sram, store_sdram, store_scratch, if_else, raise, operators, try_handle, empty_args, some_args, no_expr, next_expr, una, chain, no_operator, operator, comparison, shift, invert, negate, post, no_dot, dot, variable, call, unit, paren, tuple, fields, unpack, pack, fetch_sram, fetch_sdram, fetch_scratch, no_member, next_member}
use Rattle.nv_text_parser.specs.inner.Cursor.{NotSign, NotKey}
use Rattle.nv_text_parser.specs.inner.Follow.{Above, rank}
use Rattle.nv_text_parser.specs.inner.Failing.{Bound, AtMost, bound_of, Phrases, Anything, Ahead, Phrase, ASign, AKey, AName, ANumber, Then, Many, none, next}
use Rattle.nv_text_parser.specs.inner.Phrases.{APattern, SomePatterns}
use Rattle.nv_text_parser.specs.inner.ExprPhrases.{LowExpr, LowExprs, LowMembers, LowStatement, AnExpr, ATail, AStatement, ALevel, ARest, AnUna, SomeDots, AnAtom, SomeArgs, NextExpr, NextMember, Enclosed, LayoutInBrackets, At}
use Rattle.nv_text_parser.proofs.Follow.{above_weaken, rank_of, shift_rank, same_op, same_shift, no_shift, rest_above, front_rest, front_dots, level_first, tilde_no_atom, bang_no_atom}
use Rattle.nv_text_parser.proofs.Frames.{frame_level, frame_atom}
use Rattle.nv_text_parser.proofs.OneExpression.{det_level, det_atom}
use Rattle.nv_text_parser.proofs.Sequence.{front_same}
use Rattle.nv_text_parser.proofs.ExprLow.{free_low, lows, low_none, low_node, low_child, low_max, low_left, low_right, low_try, try_body, try_patterns, try_handler, low_let, let_pattern, let_value, rest_low, dots_low}
use Rattle.nv_text_parser.proofs.Steps.{Step, Bind, Binds}
use Rattle.nv_text_parser.proofs.ExprRules.{store_rule, fetch_rule}

-- ---- rows

then_ : {P Q : Phrases} {b : Bound} {ts k : List Token} (us : List Token) → P b ts us → Q b us k → Then P Q b ts k
then_ us p q = record { middle = us; first = p; second = q }

sign_ : {b : Bound} {n : ℕ} (s : Span) {k : List Token} → ASign n b (at s (Sign n) ∷ k) k
sign_ s = record { span = s; value = tt; split = refl }

key_ : {b : Bound} {n : ℕ} (s : Span) {k : List Token} → AKey n b (at s (Key n) ∷ k) k
key_ s = record { span = s; value = tt; split = refl }

name_ : {b : Bound} (s : Span) (x : List ℕ) {k : List Token} → AName b (a_name s x ∷ k) k
name_ s x = record { span = s; value = x; split = refl }

number_ : {b : Bound} (s : Span) (n : ℕ) {k : List Token} → ANumber b (a_number s n ∷ k) k
number_ s n = record { span = s; value = n; split = refl }

phrase_ : {T : Type 0} {R : T → List Token → List Token → Type 0} {Low : Bound → T → Type 0} {b : Bound} {ts k : List Token} (x : T) → R x ts k → Low b x → Phrase R Low b ts k
phrase_ x d l = record { tree = x; spelled = d; low = l }

-- ---- tails

abbrev pub IfRow : Phrases
IfRow = Then (Enclosed 24 25) (Then AnExpr (Then (AKey 6) AnExpr))

if_make : (low : Bool) (room : ℕ) (s : Span) (us k : List Token) → 1 ≤ room → IfRow (bound_of low (room - 1)) us k → ATail (bound_of low room) (key_if s ∷ us) k
if_make low room s us k h r =
    let o = r.first.first in
    let c = r.first.second.first in
    let p = r.first.second.second in
    let a = r.second.first in
    let e = r.second.second.first in
    let b = r.second.second.second in
    phrase_ (IfTree (to s (span_of b.tree)) c.tree a.tree b.tree)
    (rw o.split (if_else (rw p.split at c.spelled) (rw e.split at a.spelled) b.spelled))
    (low_node low room h (low_max c.low (low_max a.low b.low)))

if_parts : (low : Bool) (room : ℕ) {s : Span} {us k : List Token} {x : Tree} → IsTail x (key_if s ∷ us) k → LowExpr (bound_of low room) x → IfRow (bound_of low (room - 1)) us k
if_parts low room (if_else {t = t} {u = u} {v = v} {c = c} {a = a} {b = b} d0 d1 d2) l =
    let m = low_child low room l in
    let n = low_right _ _ m in
    then_ _ (then_ _ (sign_ t) (then_ _ (phrase_ c d0 (low_left _ _ m)) (sign_ u))) (then_ _ (phrase_ a d1 (low_left _ _ n)) (then_ _ (key_ v) (phrase_ b d2 (low_right _ _ n))))
if_parts low room (operators d) l = let h = level_first d in absurd (omega arith)

pub if_step : (s : Span) (room : ℕ) (ts : List Token) → 1 ≤ room → Step (key_if s ∷ []) IfRow (room - 1) (Above 9) ATail room (Above 9) ts
if_step s room ts h = record { make = λ low us k r. if_make low room s us k h r; parts = λ low us k w d f. record { row = if_parts low room d.spelled d.low; follow = f } }

abbrev pub RaiseRow : Phrases
RaiseRow = Then AName (Then (ASign 28) (Then SomeArgs (ASign 29)))

raise_make : (low : Bool) (room : ℕ) (s : Span) (us k : List Token) → 1 ≤ room → RaiseRow (bound_of low (room - 1)) us k → ATail (bound_of low room) (key_raise s ∷ us) k
raise_make low room s us k h r =
    let n = r.first in
    let o = r.second.first in
    let a = r.second.second.first in
    let p = r.second.second.second in
    phrase_ (RaiseTree (to s p.span) n.value a.tree) (rw (n.split, o.split) (raise (rw p.split at a.spelled))) (low_node low room h a.low)

raise_parts : (low : Bool) (room : ℕ) {s : Span} {us k : List Token} {x : Tree} → IsTail x (key_raise s ∷ us) k → LowExpr (bound_of low room) x → RaiseRow (bound_of low (room - 1)) us k
raise_parts low room (raise {t = t} {u = u} {v = v} {x = x} {es = es} d) l = then_ _ (name_ t x) (then_ _ (sign_ u) (then_ _ (phrase_ es d (low_child low room l)) (sign_ v)))
raise_parts low room (operators d) l = let h = level_first d in absurd (omega arith)

pub raise_step : (s : Span) (room : ℕ) (ts : List Token) → 1 ≤ room → Step (key_raise s ∷ []) RaiseRow (room - 1) Anything ATail room (Above 9) ts
raise_step s room ts h = record { make = λ low us k r. raise_make low room s us k h r; parts = λ low us k w d f. record { row = raise_parts low room d.spelled d.low; follow = tt } }

abbrev pub TryRow : Phrases
TryRow = Then (Enclosed 26 27) (Then (AKey 11) (Then AName (Then (ASign 28) (Then (At 100 SomePatterns) (Then (ASign 29) (Enclosed 26 27))))))

try_make : (low : Bool) (room : ℕ) (s : Span) (us k : List Token) → 1 ≤ room → TryRow (bound_of low (room - 1)) us k → ATail (bound_of low room) (key_try s ∷ us) k
try_make low room s us k h r =
    let o = r.first.first in
    let a = r.first.second.first in
    let c = r.first.second.second in
    let e = r.second.first in
    let n = r.second.second.first in
    let q = r.second.second.second.first in
    let p = r.second.second.second.second.first.part in
    let u = r.second.second.second.second.second.first in
    let v = r.second.second.second.second.second.second.first in
    let g = r.second.second.second.second.second.second.second.first in
    let z = r.second.second.second.second.second.second.second.second in
    phrase_ (TryTree (to s z.span) a.tree n.value p.tree g.tree)
    (rw o.split (try_handle (rw (c.split, e.split, n.split, q.split) at a.spelled) (rw (u.split, v.split) at p.spelled) (rw z.split at g.spelled)))
    (low_try low room (height a.tree) (height g.tree) (pattern_inside a.tree) (highest_pattern p.tree) (pattern_inside g.tree) h a.low p.low g.low)

try_parts : (low : Bool) (room : ℕ) {s : Span} {us k : List Token} {x : Tree} → IsTail x (key_try s ∷ us) k → LowExpr (bound_of low room) x → TryRow (bound_of low (room - 1)) us k
try_parts low room (try_handle {t = t} {u = u} {v = v} {w = w} {y = y} {z = z} {i = i} {j = j} {x = x} {ps = ps} {a = a} {h = h} d0 d1 d2) l =
    then_ _ (then_ _ (sign_ t) (then_ _ (phrase_ a d0 (try_body low room _ _ _ _ _ l)) (sign_ u))) (then_ _ (key_ v) (then_ _ (name_ w x) (then_ _ (sign_ y)
    (then_ _ (record { part = phrase_ ps d1 (try_patterns low room (height a) (height h) (pattern_inside a) (highest_pattern ps) (pattern_inside h) l) }) (then_ _ (sign_ z) (then_ _ (sign_ i) (then_ _ (phrase_ h d2 (try_handler low room _ _ _ _ _ l)) (sign_ j))))))))
try_parts low room (operators d) l = let h = level_first d in absurd (omega arith)

pub try_step : (s : Span) (room : ℕ) (ts : List Token) → 1 ≤ room → Step (key_try s ∷ []) TryRow (room - 1) Anything ATail room (Above 9) ts
try_step s room ts h = record { make = λ low us k r. try_make low room s us k h r; parts = λ low us k w d f. record { row = try_parts low room d.spelled d.low; follow = tt } }

operators_parts : {b : Bound} {ts k : List Token} {x : Tree} → IsTail x ts k → LowExpr b x → NotKey 5 ts → NotKey 9 ts → NotKey 10 ts → ALevel 8 b ts k
operators_parts (if_else d0 d1 d2) l f g h = absurd (f refl)
operators_parts (raise d) l f g h = absurd (g refl)
operators_parts (operators {e = e} d) l f g h = phrase_ e d l
operators_parts (try_handle d0 d1 d2) l f g h = absurd (h refl)

pub operators_step : (room : ℕ) (ts : List Token) → NotKey 5 ts → NotKey 9 ts → NotKey 10 ts → Step [] (ALevel 8) room (Above 9) ATail room (Above 9) ts
operators_step room ts f g h = record {
  make = λ low us k d. phrase_ d.tree (operators d.spelled) d.low;
  parts = λ low us k w d o. record { row = operators_parts d.spelled d.low (front_same _ ts us w f) (front_same _ ts us w g) (front_same _ ts us w h); follow = o };
}

-- ---- lists

pub record Exprs (b : Bound) (ts k : List Token) : Type 0 where
  pub trees : Trees
  pub list : IsMoreExprs trees ts k
  pub low : LowExprs b trees

pub exprs_of : {b : Bound} {ts k : List Token} → Many NextExpr b ts k → Exprs b ts k
exprs_of {b = b} none = record { trees = no_trees; list = no_expr; low = low_none b }
exprs_of (next d e) =
    let r = exprs_of e in
    record { trees = tree_and d.second.tree r.trees; list = rw d.first.split (next_expr d.second.spelled r.list); low = low_max d.second.low r.low }

pub many_exprs : {b : Bound} {es : Trees} {ts k : List Token} → IsMoreExprs es ts k → LowExprs b es → Many NextExpr b ts k
many_exprs no_expr l = none
many_exprs (next_expr {s = s} {e = e} d r) l = next (then_ _ (sign_ s) (phrase_ e d (low_left _ _ l))) (many_exprs r (low_right _ _ l))

pub record Members (b : Bound) (ts k : List Token) : Type 0 where
  pub trees : NamedTrees
  pub list : IsMoreMembers trees ts k
  pub low : LowMembers b trees

pub members_of : {b : Bound} {ts k : List Token} → Many NextMember b ts k → Members b ts k
members_of {b = b} none = record { trees = no_named_trees; list = no_member; low = low_none b }
members_of (next d e) =
    let r = members_of e in
    let c = d.first in
    let n = d.second.first in
    let i = d.second.second.first in
    let x = d.second.second.second in
    record { trees = named_tree_and n.value x.tree r.trees; list = rw (c.split, n.split, i.split) (next_member x.spelled r.list); low = low_max x.low r.low }

pub many_members : {b : Bound} {es : NamedTrees} {ts k : List Token} → IsMoreMembers es ts k → LowMembers b es → Many NextMember b ts k
many_members no_member l = none
many_members (next_member {s = s} {t = t} {u = u} {x = x} {e = e} d r) l = next (then_ _ (sign_ s) (then_ _ (name_ t x) (then_ _ (sign_ u) (phrase_ e d (low_left _ _ l))))) (many_members r (low_right _ _ l))

-- arguments, of which there is one at least
pub has_above : (n : ℕ) (k : List Token) → n < 13 → Ahead 29 k → Above n k
has_above n [] h e = absurd e
has_above n (t ∷ k) h e = let g : rank t.sort ≡ 13 = ap rank e in omega arith

pub no_bracket : (k : List Token) → NotSign 29 k → Ahead 29 k → ⊥
no_bracket [] n e = e
no_bracket (t ∷ k) n e = n e

args_parts : {b : Bound} {es : Trees} {ts k : List Token} → IsArgs es ts k → LowExprs b es → NotSign 29 ts → Ahead 29 k → Then AnExpr (Many NextExpr) b ts k
args_parts (empty_args {k = k}) l n f = absurd (no_bracket k n f)
args_parts (some_args {e = e} d r) l n f = then_ _ (phrase_ e d (low_left _ _ l)) (many_exprs r (low_right _ _ l))

args_make : (b : Bound) (us k : List Token) → Then AnExpr (Many NextExpr) b us k → SomeArgs b us k
args_make b us k r = let es = exprs_of r.second in phrase_ (tree_and r.first.tree es.trees) (some_args r.first.spelled es.list) (low_max r.first.low es.low)

pub args_step : (room : ℕ) (ts : List Token) → NotSign 29 ts → Step [] (Then AnExpr (Many NextExpr)) room (Above 10) SomeArgs room (Ahead 29) ts
args_step room ts n = record {
  make = λ low us k r. args_make (bound_of low room) us k r;
  parts = λ low us k w d f. record { row = args_parts d.spelled d.low (front_same _ ts us w n) f; follow = has_above 10 k (omega arith) f };
}

-- ---- statements

abbrev pub LetRow : Phrases
LetRow = Then (At 100 APattern) (Then (ASign 19) (Then ATail (ASign 20)))

let_make : (low : Bool) (room : ℕ) (s : Span) (us k : List Token) → 1 ≤ room → LetRow (bound_of low (room - 1)) us k → AStatement (bound_of low room) (key_let s ∷ us) k
let_make low room s us k h r =
    let p = r.first.part in
    let i = r.second.first in
    let e = r.second.second.first in
    let o = r.second.second.second in
    phrase_ (LetStatement (to s o.span) p.tree e.tree) (let_statement (rw i.split at p.spelled) (rw o.split at e.spelled))
    (low_let low room (height e.tree) (pattern_height p.tree) (pattern_inside e.tree) h p.low e.low)

let_parts : (low : Bool) (room : ℕ) {s : Span} {us k : List Token} {x : StatementTree} → IsStatement x (key_let s ∷ us) k → LowStatement (bound_of low room) x → LetRow (bound_of low (room - 1)) us k
let_parts low room (let_statement {t = t} {u = u} {p = p} {e = e} d0 d1) l =
    then_ _ (record { part = phrase_ p d0 (let_pattern low room (height e) (pattern_height p) (pattern_inside e) l) }) (then_ _ (sign_ t) (then_ _ (phrase_ e d1 (let_value low room _ _ _ l)) (sign_ u)))

pub let_step : (s : Span) (room : ℕ) (ts : List Token) → 1 ≤ room → Step (key_let s ∷ []) LetRow (room - 1) Anything AStatement room Anything ts
let_step s room ts h = record { make = λ low us k r. let_make low room s us k h r; parts = λ low us k w d f. record { row = let_parts low room d.spelled d.low; follow = tt } }

abbrev pub StoreRow : Phrases
StoreRow = Then (Enclosed 24 25) (Then (ASign 18) (Then ATail (ASign 20)))

store_make : (m : Mem) (low : Bool) (room : ℕ) (s : Span) (us k : List Token) → 1 ≤ room → StoreRow (bound_of low (room - 1)) us k → AStatement (bound_of low room) (at s (Key (mem_key m)) ∷ us) k
store_make m low room s us k h r =
    let o = r.first.first in
    let a = r.first.second.first in
    let c = r.first.second.second in
    let v = r.second.first in
    let e = r.second.second.first in
    let w = r.second.second.second in
    phrase_ (StoreStatement (to s w.span) m a.tree e.tree)
    (rw o.split (store_rule m s o.span c.span v.span w.span (rw (c.split, v.split) at a.spelled) (rw w.split at e.spelled)))
    (low_node low room h (low_max a.low e.low))

store_row : (low : Bool) (room : ℕ) (m : Mem) (s : Span) {t u v w : Span} {a e : Tree} {us vs k : List Token} → IsExpr a us (sign_close u ∷ sign_arrow v ∷ vs) → IsTail e vs (sign_semicolon w ∷ k) → LowStatement (bound_of low room) (StoreStatement s m a e) → StoreRow (bound_of low (room - 1)) (sign_open t ∷ us) k
store_row low room n s {t = t} {u = u} {v = v} {w = w} {a = a} {e = e} d0 d1 l =
    let m = low_child low room l in
    then_ _ (then_ _ (sign_ t) (then_ _ (phrase_ a d0 (low_left _ _ m)) (sign_ u))) (then_ _ (sign_ v) (then_ _ (phrase_ e d1 (low_right _ _ m)) (sign_ w)))

store_parts : (m : Mem) (low : Bool) (room : ℕ) {s : Span} {us k : List Token} {x : StatementTree} → IsStatement x (at s (Key (mem_key m)) ∷ us) k → LowStatement (bound_of low room) x → StoreRow (bound_of low (room - 1)) us k
store_parts Sram low room (store_sram {t = t} d0 d1) l = store_row low room Sram t d0 d1 (record { height = l.height; patterns = l.patterns })
store_parts Sdram low room (store_sdram {t = t} d0 d1) l = store_row low room Sdram t d0 d1 (record { height = l.height; patterns = l.patterns })
store_parts Scratch low room (store_scratch {t = t} d0 d1) l = store_row low room Scratch t d0 d1 (record { height = l.height; patterns = l.patterns })

pub store_step : (m : Mem) (s : Span) (room : ℕ) (ts : List Token) → 1 ≤ room → Step (at s (Key (mem_key m)) ∷ []) StoreRow (room - 1) Anything AStatement room Anything ts
store_step m s room ts h = record { make = λ low us k r. store_make m low room s us k h r; parts = λ low us k w d f. record { row = store_parts m low room d.spelled d.low; follow = tt } }

-- ---- levels of operators

una_parts : {b : Bound} {x : Tree} {ts k : List Token} → IsLevel 0 x ts k → LowExpr b x → AnUna b ts k
una_parts (una {e = e} d) l = phrase_ e d l

pub una_step : (room : ℕ) (ts : List Token) → Step [] AnUna room (Above 1) (ALevel 0) room (Above 1) ts
una_step room ts = record { make = λ low us k d. phrase_ d.tree (una d.spelled) d.low; parts = λ low us k w d f. record { row = una_parts d.spelled d.low; follow = f } }

abbrev pub LevelRow : ℕ → Phrases
LevelRow m = Bind (IsLevel m) (ARest m)

level_parts : {b : Bound} {m : ℕ} {x : Tree} {ts k : List Token} → IsLevel (suc m) x ts k → LowExpr b x → LevelRow m b ts k
level_parts (chain {a = a} {e = e} {us = us} d r) l = record { tree = a; middle = us; first = d; second = phrase_ e r l }

pub level_step : (m room : ℕ) (ts : List Token) → Step [] (LevelRow m) room (Above (m + 2)) (ALevel (suc m)) room (Above (suc m + 1)) ts
level_step m room ts = record {
  make = λ low us k r. phrase_ r.second.tree (chain r.first r.second.spelled) r.second.low;
  parts = λ low us k w d f. record { row = level_parts d.spelled d.low; follow = rest_above m k f };
}

pub level_binds : (m room : ℕ) → Binds (IsLevel m) LowExpr (ARest m) room room (Above (m + 2)) (Above (m + 1))
level_binds m room = record {
  on = λ t low ts k q g. front_rest q.spelled g;
  is_low = λ t low ts k q. rest_low q.spelled q.low;
  fills = λ t low l. record { more = []; spelled = λ k. phrase_ t no_operator l };
  frame = λ t ts k d. frame_level d;
  det = λ t u ts k d e f. (det_level d e f f).0;
  free = λ t. free_low (height t) (pattern_inside t);
}

-- an operator after a left operand, and its right operand
abbrev pub OperandRow : ℕ → Op → Tree → Phrases
OperandRow l op a = Bind (IsLevel l) (λ b. ARest l (BinaryTree (to (span_of a) (span_of b)) op a b))

pub operand_binds : (l : ℕ) (op : Op) (a : Tree) (room : ℕ) → 1 ≤ room → LowExpr (AtMost (room - 1)) a → Binds (IsLevel l) LowExpr (λ b. ARest l (BinaryTree (to (span_of a) (span_of b)) op a b)) room (room - 1) (Above (l + 2)) (Above (l + 1))
operand_binds l op a room h m = record {
  on = λ t low ts k q g. front_rest q.spelled g;
  is_low = λ t low ts k q. low_right _ _ (low_child low room (rest_low q.spelled q.low));
  fills = λ t low n. record { more = []; spelled = λ k. phrase_ (BinaryTree (to (span_of a) (span_of t)) op a t) no_operator (low_node low room h (low_max (lows m low) n)) };
  frame = λ t ts k d. frame_level d;
  det = λ t u ts k d e f. (det_level d e f f).0;
  free = λ t. free_low (height t) (pattern_inside t);
}

operand_parts : {b : Bound} {l : ℕ} {a x : Tree} (op : Op) (t : Token) {us k : List Token} → t.sort ≡ Sign (sign_of op) → level_of op ≡ l → l ≢ 5 → IsRest l a x (t ∷ us) k → LowExpr b x → Above (l + 2) k → OperandRow l op a b us k
operand_parts op t p q n no_operator l f = let h = rank_of t op p in absurd (omega arith)
operand_parts {l = l} {a = a} op t {k = k} p q n (operator {op = op'} {b = b} {e = e} {us = us} {vs = vs} p' q' n' d r) m f =
    let o : op' ≡ op = same_op t op' op p' p in
    record { tree = b; middle = vs; first = d; second = phrase_ e (subst (λ z. IsRest l (BinaryTree (to (span_of a) (span_of b)) z a b) e vs k) o r) m }
operand_parts op t p q n (comparison p' q' d) l f = absurd (n refl)
operand_parts op t p q n (shift {op = op'} p' r) l f = absurd (no_shift t op op' p p')

pub operand_step : (l : ℕ) (op : Op) (a : Tree) (t : Token) (room : ℕ) (ts : List Token) → t.sort ≡ Sign (sign_of op) → level_of op ≡ l → l ≢ 5 → Step (t ∷ []) (OperandRow l op a) room (Above (l + 2)) (ARest l a) room (Above (l + 2)) ts
operand_step l op a t room ts p q n = record {
  make = λ low us k r. phrase_ r.second.tree (operator p q n r.first r.second.spelled) r.second.low;
  parts = λ low us k w d f. record { row = operand_parts op t p q n d.spelled d.low f; follow = f };
}

comparison_parts : (low : Bool) (room : ℕ) {a x : Tree} (op : Op) (t : Token) {us k : List Token} → t.sort ≡ Sign (sign_of op) → level_of op ≡ 5 → IsRest 5 a x (t ∷ us) k → LowExpr (bound_of low room) x → Above 7 k → ALevel 5 (bound_of low (room - 1)) us k
comparison_parts low room op t p q no_operator l f = let h = rank_of t op p in absurd (omega arith)
comparison_parts low room op t p q (operator p' q' n d r) l f = absurd (n refl)
comparison_parts low room op t p q (comparison {b = b} p' q' d) l f = phrase_ b d (low_right _ _ (low_child low room l))

pub comparison_step : (op : Op) (a : Tree) (t : Token) (room : ℕ) (ts : List Token) → 1 ≤ room → LowExpr (AtMost (room - 1)) a → t.sort ≡ Sign (sign_of op) → level_of op ≡ 5 → Step (t ∷ []) (ALevel 5) (room - 1) (Above 6) (ARest 5 a) room (Above 7) ts
comparison_step op a t room ts h m p q = record {
  make = λ low us k d. phrase_ (BinaryTree (to (span_of a) (span_of d.tree)) op a d.tree) (comparison p q d.spelled) (low_node low room h (low_max (lows m low) d.low));
  parts = λ low us k w d f. record { row = comparison_parts low room op t p q d.spelled d.low f; follow = above_weaken 6 7 k f (omega arith) };
}

shift_parts : {b : Bound} {a x : Tree} (op : ShiftOp) (t : Token) (u : Span) (n : ℕ) {us k : List Token} → t.sort ≡ Sign (shift_sign_of op) → IsRest 1 a x (t ∷ a_number u n ∷ us) k → LowExpr b x → Above 3 k → ARest 1 (ShiftTree (to (span_of a) u) op a n) b us k
shift_parts op t u n p no_operator l f = let h = shift_rank t op p in absurd (omega arith)
shift_parts op t u n p (operator {op = op'} p' q' m d r) l f = absurd (no_shift t op' op p' p)
shift_parts {a = a} op t u n {us = us} {k = k} p (shift {op = op'} {e = e} p' r) l f =
    let o : op' ≡ op = same_shift t op' op p' p in
    phrase_ e (subst (λ z. IsRest 1 (ShiftTree (to (span_of a) u) z a n) e us k) o r) l

pub shift_step : (op : ShiftOp) (a : Tree) (t : Token) (u : Span) (n : ℕ) (room : ℕ) (ts : List Token) → t.sort ≡ Sign (shift_sign_of op) → Step (t ∷ a_number u n ∷ []) (ARest 1 (ShiftTree (to (span_of a) u) op a n)) room (Above 3) (ARest 1 a) room (Above 3) ts
shift_step op a t u n room ts p = record {
  make = λ low us k d. phrase_ d.tree (shift p d.spelled) d.low;
  parts = λ low us k w d f. record { row = shift_parts op t u n p d.spelled d.low f; follow = f };
}

-- ---- operands

invert_parts : (low : Bool) (room : ℕ) {s : Span} {x : Tree} {us k : List Token} → IsUna x (sign_tilde s ∷ us) k → LowExpr (bound_of low room) x → AnUna (bound_of low (room - 1)) us k
invert_parts low room (invert {e = e} d) l = phrase_ e d (low_child low room l)
invert_parts low room (post d r) l = absurd (tilde_no_atom d)

pub invert_step : (s : Span) (room : ℕ) (ts : List Token) → 1 ≤ room → Step (sign_tilde s ∷ []) AnUna (room - 1) (Above 1) AnUna room (Above 1) ts
invert_step s room ts h = record {
  make = λ low us k d. phrase_ (InvertTree (to s (span_of d.tree)) d.tree) (invert d.spelled) (low_node low room h d.low);
  parts = λ low us k w d f. record { row = invert_parts low room d.spelled d.low; follow = f };
}

negate_parts : (low : Bool) (room : ℕ) {s : Span} {x : Tree} {us k : List Token} → IsUna x (sign_bang s ∷ us) k → LowExpr (bound_of low room) x → AnUna (bound_of low (room - 1)) us k
negate_parts low room (negate {e = e} d) l = phrase_ e d (low_child low room l)
negate_parts low room (post d r) l = absurd (bang_no_atom d)

pub negate_step : (s : Span) (room : ℕ) (ts : List Token) → 1 ≤ room → Step (sign_bang s ∷ []) AnUna (room - 1) (Above 1) AnUna room (Above 1) ts
negate_step s room ts h = record {
  make = λ low us k d. phrase_ (NegateTree (to s (span_of d.tree)) d.tree) (negate d.spelled) (low_node low room h d.low);
  parts = λ low us k w d f. record { row = negate_parts low room d.spelled d.low; follow = f };
}

abbrev pub PostRow : Phrases
PostRow = Bind IsAtom SomeDots

post_parts : {b : Bound} {x : Tree} {ts k : List Token} → IsUna x ts k → LowExpr b x → NotSign 5 ts → NotSign 17 ts → PostRow b ts k
post_parts (invert d) l f g = absurd (f refl)
post_parts (negate d) l f g = absurd (g refl)
post_parts (post {a = a} {e = e} {us = us} d r) l f g = record { tree = a; middle = us; first = d; second = phrase_ e r l }

pub post_step : (room : ℕ) (ts : List Token) → NotSign 5 ts → NotSign 17 ts → Step [] PostRow room (Above 1) AnUna room (Above 1) ts
post_step room ts f g = record {
  make = λ low us k r. phrase_ r.second.tree (post r.first r.second.spelled) r.second.low;
  parts = λ low us k w d o. record { row = post_parts d.spelled d.low (front_same _ ts us w f) (front_same _ ts us w g); follow = o };
}

pub post_binds : (room : ℕ) → Binds IsAtom LowExpr SomeDots room room (Above 1) (Above 0)
post_binds room = record {
  on = λ t low ts k q g. front_dots q.spelled g;
  is_low = λ t low ts k q. dots_low q.spelled q.low;
  fills = λ t low l. record { more = []; spelled = λ k. phrase_ t no_dot l };
  frame = λ t ts k d. frame_atom d;
  det = λ t u ts k d e f. (det_atom d e f f).0;
  free = λ t. free_low (height t) (pattern_inside t);
}

dot_parts : {b : Bound} {a x : Tree} (s t : Span) (n : List ℕ) {us k : List Token} → IsDots a x (sign_dot s ∷ a_name t n ∷ us) k → LowExpr b x → Above 1 k → SomeDots (DotTree (to (span_of a) t) a n) b us k
dot_parts s t n no_dot l f = absurd (omega arith)
dot_parts s t n (dot {e = e} r) l f = phrase_ e r l

pub dot_step : (a : Tree) (s t : Span) (n : List ℕ) (room : ℕ) (ts : List Token) → Step (sign_dot s ∷ a_name t n ∷ []) (SomeDots (DotTree (to (span_of a) t) a n)) room (Above 1) (SomeDots a) room (Above 1) ts
dot_step a s t n room ts = record {
  make = λ low us k d. phrase_ d.tree (dot d.spelled) d.low;
  parts = λ low us k w d f. record { row = dot_parts s t n d.spelled d.low f; follow = f };
}

-- ---- atoms

abbrev pub CallRow : Phrases
CallRow = Then SomeArgs (ASign 29)

call_parts : (low : Bool) (room : ℕ) {s t : Span} {n : List ℕ} {us k : List Token} {x : Tree} → IsAtom x (a_name s n ∷ sign_open_bracket t ∷ us) k → LowExpr (bound_of low room) x → Above 0 k → CallRow (bound_of low (room - 1)) us k
call_parts low room variable l f = absurd (omega arith)
call_parts low room (call {u = u} {es = es} d) l f = then_ _ (phrase_ es d (low_child low room l)) (sign_ u)

pub call_step : (s t : Span) (n : List ℕ) (room : ℕ) (ts : List Token) → 1 ≤ room → Step (a_name s n ∷ sign_open_bracket t ∷ []) CallRow (room - 1) Anything AnAtom room (Above 0) ts
call_step s t n room ts h = record {
  make = λ low us k r. phrase_ (CallTree (to s r.second.span) n r.first.tree) (call (rw r.second.split at r.first.spelled)) (low_node low room h r.first.low);
  parts = λ low us k w d f. record { row = call_parts low room d.spelled d.low f; follow = tt };
}

-- one expression in brackets, or more
abbrev pub BracketRow : Phrases
BracketRow = Then AnExpr (Then (Many NextExpr) (ASign 25))

bracket_tree : (s t : Span) (e : Tree) → Trees → Tree
bracket_tree s t e no_trees = ParenTree (to s t) e
bracket_tree s t e (tree_and f es) = TupleTree (to s t) (tree_and e (tree_and f es))

bracket_rule : (s t : Span) {e : Tree} {es : Trees} {us vs k : List Token} → IsExpr e us vs → IsMoreExprs es vs (sign_close t ∷ k) → IsAtom (bracket_tree s t e es) (sign_open s ∷ us) k
unfolding bracket_tree
bracket_rule s t d no_expr = paren d
bracket_rule s t d (next_expr r q) = tuple d (next_expr r q)

bracket_low : (low : Bool) (room : ℕ) (s t : Span) (e : Tree) (es : Trees) → 1 ≤ room → LowExpr (bound_of low (room - 1)) e → LowExprs (bound_of low (room - 1)) es → LowExpr (bound_of low room) (bracket_tree s t e es)
unfolding bracket_tree
bracket_low low room s t e no_trees h l m = low_node low room h l
bracket_low low room s t e (tree_and f es) h l m = low_node low room h (low_max l m)

bracket_make : (low : Bool) (room : ℕ) (s : Span) (us k : List Token) → 1 ≤ room → BracketRow (bound_of low (room - 1)) us k → AnAtom (bound_of low room) (sign_open s ∷ us) k
bracket_make low room s us k h r =
    let e = r.first in
    let c = r.second.second in
    let es = exprs_of r.second.first in
    phrase_ (bracket_tree s c.span e.tree es.trees) (bracket_rule s c.span e.spelled (subst (λ z. IsMoreExprs es.trees r.middle z) c.split es.list)) (bracket_low low room s c.span e.tree es.trees h e.low es.low)

pub bracket_parts : (low : Bool) (room : ℕ) {s : Span} {us k : List Token} {x : Tree} → IsAtom x (sign_open s ∷ us) k → LowExpr (bound_of low room) x → NotSign 25 us → BracketRow (bound_of low (room - 1)) us k
bracket_parts low room unit l n = absurd (n refl)
bracket_parts low room (paren {t = t} {e = e} d) l n = then_ _ (phrase_ e d (low_child low room l)) (then_ _ none (sign_ t))
bracket_parts low room (tuple {t = t} {e = e} d r) l n =
    let m = low_child low room l in
    then_ _ (phrase_ e d (low_left _ _ m)) (then_ _ (many_exprs r (low_right _ _ m)) (sign_ t))

pub bracket_step : (s : Span) (room : ℕ) (ts : List Token) → 1 ≤ room → NotSign 25 ts → Step (sign_open s ∷ []) BracketRow (room - 1) Anything AnAtom room (Above 0) ts
bracket_step s room ts h n = record {
  make = λ low us k r. bracket_make low room s us k h r;
  parts = λ low us k w d f. record { row = bracket_parts low room d.spelled d.low (front_same _ ts us w n); follow = tt };
}

abbrev pub RecordRow : Phrases
RecordRow = Then AName (Then (ASign 19) (Then AnExpr (Then (Many NextMember) (ASign 27))))

record_make : (low : Bool) (room : ℕ) (s : Span) (us k : List Token) → 1 ≤ room → RecordRow (bound_of low (room - 1)) us k → AnAtom (bound_of low room) (sign_open_brace s ∷ us) k
record_make low room s us k h r =
    let n = r.first in
    let i = r.second.first in
    let e = r.second.second.first in
    let es = members_of r.second.second.second.first in
    let c = r.second.second.second.second in
    phrase_ (FieldsTree (to s c.span) (named_tree_and n.value e.tree es.trees)) (rw (n.split, i.split) (fields e.spelled (subst (λ z. IsMoreMembers es.trees r.second.second.middle z) c.split es.list))) (low_node low room h (low_max e.low es.low))

record_parts : (low : Bool) (room : ℕ) {s : Span} {us k : List Token} {x : Tree} → IsAtom x (sign_open_brace s ∷ us) k → LowExpr (bound_of low room) x → RecordRow (bound_of low (room - 1)) us k
record_parts low room (fields {t = t} {u = u} {v = v} {x = x} {e = e} d r) l =
    let m = low_child low room l in
    then_ _ (name_ t x) (then_ _ (sign_ u) (then_ _ (phrase_ e d (low_left _ _ m)) (then_ _ (many_members r (low_right _ _ m)) (sign_ v))))

pub record_step : (s : Span) (room : ℕ) (ts : List Token) → 1 ≤ room → Step (sign_open_brace s ∷ []) RecordRow (room - 1) Anything AnAtom room (Above 0) ts
record_step s room ts h = record { make = λ low us k r. record_make low room s us k h r; parts = λ low us k w d f. record { row = record_parts low room d.spelled d.low; follow = tt } }

-- a layout's name and an expression, each in brackets
abbrev pub LayoutRow : Phrases
LayoutRow = Then LayoutInBrackets (Enclosed 24 25)

unpack_make : (low : Bool) (room : ℕ) (s : Span) (us k : List Token) → 1 ≤ room → LayoutRow (bound_of low (room - 1)) us k → AnAtom (bound_of low room) (key_unpack s ∷ us) k
unpack_make low room s us k h r =
    let a = r.first.first in
    let n = r.first.second.first in
    let b = r.first.second.second in
    let o = r.second.first in
    let e = r.second.second.first in
    let c = r.second.second.second in
    phrase_ (UnpackTree (to s c.span) n.value e.tree) (rw (a.split, n.split, b.split, o.split) (unpack (rw c.split at e.spelled))) (low_node low room h e.low)

unpack_parts : (low : Bool) (room : ℕ) {s : Span} {us k : List Token} {x : Tree} → IsAtom x (key_unpack s ∷ us) k → LowExpr (bound_of low room) x → LayoutRow (bound_of low (room - 1)) us k
unpack_parts low room (unpack {t = t} {u = u} {v = v} {w = w} {y = y} {x = x} {e = e} d) l = then_ _ (then_ _ (sign_ t) (then_ _ (name_ u x) (sign_ v))) (then_ _ (sign_ w) (then_ _ (phrase_ e d (low_child low room l)) (sign_ y)))

pub unpack_step : (s : Span) (room : ℕ) (ts : List Token) → 1 ≤ room → Step (key_unpack s ∷ []) LayoutRow (room - 1) Anything AnAtom room (Above 0) ts
unpack_step s room ts h = record { make = λ low us k r. unpack_make low room s us k h r; parts = λ low us k w d f. record { row = unpack_parts low room d.spelled d.low; follow = tt } }

pack_make : (low : Bool) (room : ℕ) (s : Span) (us k : List Token) → 1 ≤ room → LayoutRow (bound_of low (room - 1)) us k → AnAtom (bound_of low room) (key_pack s ∷ us) k
pack_make low room s us k h r =
    let a = r.first.first in
    let n = r.first.second.first in
    let b = r.first.second.second in
    let o = r.second.first in
    let e = r.second.second.first in
    let c = r.second.second.second in
    phrase_ (PackTree (to s c.span) n.value e.tree) (rw (a.split, n.split, b.split, o.split) (pack (rw c.split at e.spelled))) (low_node low room h e.low)

pack_parts : (low : Bool) (room : ℕ) {s : Span} {us k : List Token} {x : Tree} → IsAtom x (key_pack s ∷ us) k → LowExpr (bound_of low room) x → LayoutRow (bound_of low (room - 1)) us k
pack_parts low room (pack {t = t} {u = u} {v = v} {w = w} {y = y} {x = x} {e = e} d) l = then_ _ (then_ _ (sign_ t) (then_ _ (name_ u x) (sign_ v))) (then_ _ (sign_ w) (then_ _ (phrase_ e d (low_child low room l)) (sign_ y)))

pub pack_step : (s : Span) (room : ℕ) (ts : List Token) → 1 ≤ room → Step (key_pack s ∷ []) LayoutRow (room - 1) Anything AnAtom room (Above 0) ts
pack_step s room ts h = record { make = λ low us k r. pack_make low room s us k h r; parts = λ low us k w d f. record { row = pack_parts low room d.spelled d.low; follow = tt } }

abbrev pub FetchRow : Phrases
FetchRow = Then (ASign 28) (Then ANumber (Then (ASign 29) (Enclosed 24 25)))

fetch_make : (m : Mem) (low : Bool) (room : ℕ) (s : Span) (us k : List Token) → 1 ≤ room → FetchRow (bound_of low (room - 1)) us k → AnAtom (bound_of low room) (at s (Key (mem_key m)) ∷ us) k
fetch_make m low room s us k h r =
    let a = r.first in
    let n = r.second.first in
    let b = r.second.second.first in
    let o = r.second.second.second.first in
    let e = r.second.second.second.second.first in
    let c = r.second.second.second.second.second in
    phrase_ (FetchTree (to s c.span) m n.value e.tree) (rw (a.split, n.split, b.split, o.split) (fetch_rule m s a.span n.span b.span o.span c.span (rw c.split at e.spelled))) (low_node low room h e.low)

fetch_parts : (m : Mem) (low : Bool) (room : ℕ) {s : Span} {us k : List Token} {x : Tree} → IsAtom x (at s (Key (mem_key m)) ∷ us) k → LowExpr (bound_of low room) x → FetchRow (bound_of low (room - 1)) us k
fetch_parts Sram low room (fetch_sram {t = t} {u = u} {v = v} {w = w} {y = y} {n = n} {e = e} d) l = then_ _ (sign_ t) (then_ _ (number_ u n) (then_ _ (sign_ v) (then_ _ (sign_ w) (then_ _ (phrase_ e d (low_child low room l)) (sign_ y)))))
fetch_parts Sdram low room (fetch_sdram {t = t} {u = u} {v = v} {w = w} {y = y} {n = n} {e = e} d) l = then_ _ (sign_ t) (then_ _ (number_ u n) (then_ _ (sign_ v) (then_ _ (sign_ w) (then_ _ (phrase_ e d (low_child low room l)) (sign_ y)))))
fetch_parts Scratch low room (fetch_scratch {t = t} {u = u} {v = v} {w = w} {y = y} {n = n} {e = e} d) l = then_ _ (sign_ t) (then_ _ (number_ u n) (then_ _ (sign_ v) (then_ _ (sign_ w) (then_ _ (phrase_ e d (low_child low room l)) (sign_ y)))))

pub fetch_step : (m : Mem) (s : Span) (room : ℕ) (ts : List Token) → 1 ≤ room → Step (at s (Key (mem_key m)) ∷ []) FetchRow (room - 1) Anything AnAtom room (Above 0) ts
fetch_step m s room ts h = record { make = λ low us k r. fetch_make m low room s us k h r; parts = λ low us k w d f. record { row = fetch_parts m low room d.spelled d.low; follow = tt } }

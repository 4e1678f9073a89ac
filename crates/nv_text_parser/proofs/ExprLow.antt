-- How high expressions are beside their parts.
use Rattle.std.proofs.Common.{◌≡◌, ◌≢◌, ◌∙◌, subst, ℕ, ◌+◌, ◌-◌, ◌≤◌, max, List, Bool, true, false, arith}
use Rattle.nv_ast.specs.declared.token.Token.{Token}
use Rattle.nv_ast.specs.Tree.{Tree, NumberTree, TruthTree, VarTree, ParenTree, TupleTree, FieldsTree, DotTree, InvertTree, NegateTree, BinaryTree, ShiftTree, CallTree, UnpackTree, PackTree, RaiseTree, IfTree, TryTree, FetchTree, BlockTree, StatementTree, LetStatement, StoreStatement}
use Rattle.nv_ast.specs.Height.{height, statement_height}
use Rattle.nv_ast.specs.Grammar.{IsRest, no_operator, operator, comparison, shift, IsDots, no_dot, dot}
use Rattle.nv_text_parser.specs.inner.Failing.{Bound, NoBound, AtMost, Within, bound_of, Phrase}
use Rattle.nv_text_parser.specs.inner.ExprPhrases.{IsLow, LowExpr, rebound}

pub free_low : (tall inside : ℕ) → IsLow NoBound tall inside
free_low tall inside = record { height = tt; patterns = tt }

pub low_of : (low : Bool) (room tall inside : ℕ) → tall ≤ room → inside ≤ 100 → IsLow (bound_of low room) tall inside
low_of false room tall inside g h = record { height = tt; patterns = tt }
low_of true room tall inside g h = record { height = g; patterns = h }

-- of what was measured
pub low_found : {h tall inside room : ℕ} → h ≡ tall → h ≤ room → inside ≤ 100 → (low : Bool) → IsLow (bound_of low room) tall inside
low_found {tall = tall} {inside = inside} {room = room} e g i low = low_of low room tall inside (subst (λ z. z ≤ room) e g) i

pub lows : {room tall inside : ℕ} → IsLow (AtMost room) tall inside → (low : Bool) → IsLow (bound_of low room) tall inside
lows {room = room} {tall = tall} {inside = inside} l low = low_of low room tall inside l.height l.patterns

pub low_none : (b : Bound) → IsLow b 0 0
low_none NoBound = record { height = tt; patterns = tt }
low_none (AtMost n) = record { height = omega arith; patterns = omega arith }

-- what has room for one
pub low_one : (low : Bool) (room : ℕ) → 1 ≤ room → IsLow (bound_of low room) 1 0
low_one low room h = low_of low room 1 0 h (omega arith)

pub low_node : {tall inside : ℕ} (low : Bool) (room : ℕ) → 1 ≤ room → IsLow (bound_of low (room - 1)) tall inside → IsLow (bound_of low room) (1 + tall) inside
low_node false room h l = record { height = tt; patterns = tt }
low_node {tall = tall} true room h l = let g : tall ≤ room - 1 = l.height in record { height = omega arith; patterns = l.patterns }

pub low_child : {tall inside : ℕ} (low : Bool) (room : ℕ) → IsLow (bound_of low room) (1 + tall) inside → IsLow (bound_of low (room - 1)) tall inside
low_child false room l = record { height = tt; patterns = tt }
low_child {tall = tall} true room l = let g : 1 + tall ≤ room = l.height in record { height = omega arith; patterns = l.patterns }

pub low_max : {b : Bound} {s t p q : ℕ} → IsLow b s p → IsLow b t q → IsLow b (max s t) (max p q)
low_max {b = NoBound} l m = record { height = tt; patterns = tt }
low_max {b = AtMost n} {s = s} {t = t} {p = p} {q = q} l m =
    let g : s ≤ n = l.height in
    let h : t ≤ n = m.height in
    let i : p ≤ 100 = l.patterns in
    let j : q ≤ 100 = m.patterns in
    record { height = omega arith; patterns = omega arith }

pub low_left : {b : Bound} {s p : ℕ} (t q : ℕ) → IsLow b (max s t) (max p q) → IsLow b s p
low_left {b = NoBound} t q l = record { height = tt; patterns = tt }
low_left {b = AtMost n} {s = s} {p = p} t q l =
    let g : max s t ≤ n = l.height in
    let i : max p q ≤ 100 = l.patterns in
    record { height = omega arith; patterns = omega arith }

pub low_right : {b : Bound} {t q : ℕ} (s p : ℕ) → IsLow b (max s t) (max p q) → IsLow b t q
low_right {b = NoBound} s p l = record { height = tt; patterns = tt }
low_right {b = AtMost n} {t = t} {q = q} s p l =
    let g : max s t ≤ n = l.height in
    let i : max p q ≤ 100 = l.patterns in
    record { height = omega arith; patterns = omega arith }

-- a part of a node
pub low_under : {b : Bound} {tall inside : ℕ} → IsLow b (1 + tall) inside → IsLow b tall inside
low_under {b = NoBound} l = record { height = tt; patterns = tt }
low_under {b = AtMost n} {tall = tall} l = let g : 1 + tall ≤ n = l.height in record { height = omega arith; patterns = l.patterns }

-- a handled expression: its patterns count by themselves
pub low_try : (low : Bool) (room s t p q r : ℕ) → 1 ≤ room → IsLow (bound_of low (room - 1)) s p → Within (rebound 100 (bound_of low (room - 1))) q → IsLow (bound_of low (room - 1)) t r → IsLow (bound_of low room) (1 + max s t) (max p (max q r))
low_try false room s t p q r h l m n = record { height = tt; patterns = tt }
low_try true room s t p q r h l m n =
    let g : s ≤ room - 1 = l.height in
    let i : t ≤ room - 1 = n.height in
    let j : p ≤ 100 = l.patterns in
    let k : r ≤ 100 = n.patterns in
    record { height = omega arith; patterns = omega arith }

pub try_body : (low : Bool) (room s t p q r : ℕ) → IsLow (bound_of low room) (1 + max s t) (max p (max q r)) → IsLow (bound_of low (room - 1)) s p
try_body false room s t p q r l = record { height = tt; patterns = tt }
try_body true room s t p q r l =
    let g : 1 + max s t ≤ room = l.height in
    let i : max p (max q r) ≤ 100 = l.patterns in
    record { height = omega arith; patterns = omega arith }

pub try_patterns : (low : Bool) (room s t p q r : ℕ) → IsLow (bound_of low room) (1 + max s t) (max p (max q r)) → Within (rebound 100 (bound_of low (room - 1))) q
try_patterns false room s t p q r l = tt
try_patterns true room s t p q r l = let i : max p (max q r) ≤ 100 = l.patterns in omega arith

pub try_handler : (low : Bool) (room s t p q r : ℕ) → IsLow (bound_of low room) (1 + max s t) (max p (max q r)) → IsLow (bound_of low (room - 1)) t r
try_handler false room s t p q r l = record { height = tt; patterns = tt }
try_handler true room s t p q r l =
    let g : 1 + max s t ≤ room = l.height in
    let i : max p (max q r) ≤ 100 = l.patterns in
    record { height = omega arith; patterns = omega arith }

-- a let
pub low_let : (low : Bool) (room t p q : ℕ) → 1 ≤ room → Within (rebound 100 (bound_of low (room - 1))) p → IsLow (bound_of low (room - 1)) t q → IsLow (bound_of low room) (1 + t) (max p q)
low_let false room t p q h m l = record { height = tt; patterns = tt }
low_let true room t p q h m l =
    let g : t ≤ room - 1 = l.height in
    let i : q ≤ 100 = l.patterns in
    record { height = omega arith; patterns = omega arith }

pub let_pattern : (low : Bool) (room t p q : ℕ) → IsLow (bound_of low room) (1 + t) (max p q) → Within (rebound 100 (bound_of low (room - 1))) p
let_pattern false room t p q l = tt
let_pattern true room t p q l = let i : max p q ≤ 100 = l.patterns in omega arith

pub let_value : (low : Bool) (room t p q : ℕ) → IsLow (bound_of low room) (1 + t) (max p q) → IsLow (bound_of low (room - 1)) t q
let_value false room t p q l = record { height = tt; patterns = tt }
let_value true room t p q l =
    let g : 1 + t ≤ room = l.height in
    let i : max p q ≤ 100 = l.patterns in
    record { height = omega arith; patterns = omega arith }

-- every expression is a node
pub height_pos : (e : Tree) → 1 ≤ height e
height_pos (NumberTree s n) = omega arith
height_pos (TruthTree s b) = omega arith
height_pos (VarTree s x) = omega arith
height_pos (ParenTree s e) = omega arith
height_pos (TupleTree s es) = omega arith
height_pos (FieldsTree s es) = omega arith
height_pos (DotTree s e x) = omega arith
height_pos (InvertTree s e) = omega arith
height_pos (NegateTree s e) = omega arith
height_pos (BinaryTree s op a b) = omega arith
height_pos (ShiftTree s op e n) = omega arith
height_pos (CallTree s f es) = omega arith
height_pos (UnpackTree s l e) = omega arith
height_pos (PackTree s l e) = omega arith
height_pos (RaiseTree s x es) = omega arith
height_pos (IfTree s c a b) = omega arith
height_pos (TryTree s a x ps h) = omega arith
height_pos (FetchTree s m n e) = omega arith
height_pos (BlockTree s sts e) = omega arith

pub statement_two : (st : StatementTree) → 2 ≤ statement_height st
statement_two (LetStatement s p e) = let h = height_pos e in omega arith
statement_two (StoreStatement s m a e) = let h = height_pos e in omega arith

-- there is no room for one
pub no_room : {R : Tree → List Token → List Token → Type 0} {n : ℕ} {ts k : List Token} → n ≡ 0 → Phrase R LowExpr (AtMost n) ts k → ⊥
no_room {n = n} e d =
    let h = height_pos d.tree in
    let g : height d.tree ≤ n = d.low.height in
    omega arith

-- what stands after an operand makes it no lower
pub rest_low : {b : Bound} {l : ℕ} {a e : Tree} {ts k : List Token} → IsRest l a e ts k → LowExpr b e → LowExpr b a
rest_low no_operator h = h
rest_low (operator p q n d r) h = low_left _ _ (low_under (rest_low r h))
rest_low (comparison p q d) h = low_left _ _ (low_under h)
rest_low (shift p r) h = low_under (rest_low r h)

pub dots_low : {b : Bound} {a e : Tree} {ts k : List Token} → IsDots a e ts k → LowExpr b e → LowExpr b a
dots_low no_dot h = h
dots_low (dot r) h = low_under (dots_low r h)

pub rest_tall : {l : ℕ} {a e : Tree} {ts k : List Token} → IsRest l a e ts k → height a ≤ height e
rest_tall no_operator = omega arith
rest_tall (operator p q n d r) = let h = rest_tall r in omega arith
rest_tall (comparison p q d) = omega arith
rest_tall (shift p r) = let h = rest_tall r in omega arith

pub dots_tall : {a e : Tree} {ts k : List Token} → IsDots a e ts k → height a ≤ height e
dots_tall no_dot = omega arith
dots_tall (dot r) = let h = dots_tall r in omega arith

-- a measured height that is not the room
pub not_same : {h tall room : ℕ} → h ≡ tall → h ≢ room → tall ≢ room
not_same e n f = n (e ∙ f)

pub five_not_one : ◌≢◌ {A = ℕ} 5 1
five_not_one e = absurd (omega arith)

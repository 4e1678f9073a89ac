-- Expressions made of what is read after a first part.
use Rattle.std.proofs.Common.{◌≡◌, ◌≢◌, sym, ◌∙◌, ap, subst, ℕ, suc, List, ◌∷◌, arith, ◌-◌}
use Rattle.nv_base.specs.declared.term.Mem.{Mem}
use Rattle.nv_base.specs.declared.term.Mem.TheVariants.{Sram, Sdram, Scratch}
use Rattle.nv_ast.specs.declared.token.Span.{Span}
use Rattle.nv_ast.specs.declared.token.Token.{Token}
use Rattle.nv_ast.specs.declared.token.Sort.TheVariants.{Key, Sign}
use Rattle.nv_ast.specs.declared.tree.Op.{Op}
use Rattle.nv_ast.specs.declared.tree.ShiftOp.{ShiftOp}
use Rattle.nv_ast.specs.Tokens.{at, to, a_name, a_number, mem_key, key_let, key_if, key_else, key_raise, key_try, key_handle, key_unpack, key_pack, sign_is, sign_arrow, sign_semicolon, sign_comma, sign_open, sign_close, sign_open_brace, sign_close_brace, sign_open_bracket, sign_close_bracket}
use Rattle.nv_ast.specs.Tree.{Tree, Trees, tree_and, NamedTrees, PatternTree, PatternTrees, ParenTree, TupleTree, FieldsTree, BinaryTree, ShiftTree, IfTree, RaiseTree, TryTree, FetchTree, BlockTree, UnpackTree, PackTree, CallTree, StatementTree, StatementTrees, LetStatement, StoreStatement, span_of, statement_span}
use Rattle.nv_ast.specs.Grammar.{IsExpr, block, IsStatement, let_statement, store_sram, store_sdram, store_scratch, IsTail, if_else, raise, try_handle, IsArgs, some_args, IsMoreExprs, no_expr, next_expr, IsLevel, chain, IsRest, operator, comparison, shift, IsAtom, tuple, paren, fields, fetch_sram, fetch_sdram, fetch_scratch, IsMoreMembers, IsPattern, IsPatterns, next_statement, unpack, pack, call}
use Rattle.nv_text_parser.specs.inner.Lists.{ExprsAfter, MembersAfter, StatementsAfter}
use Rattle.nv_text_parser.specs.inner.ExprPhrases.{EnclosedBy, NameInSquare}
use Rattle.nv_text_parser.specs.inner.Operators.{StartsOperator, StartsShift}
use Rattle.nv_text_parser.proofs.Follow.{first_rank}

-- statements and a tail
pub block_of : {st : StatementTree} {all : StatementTrees} {e x : Tree} {ts us vs k : List Token} → IsStatement st ts us → StatementsAfter st all us vs → IsTail e vs k → x ≡ BlockTree (to (statement_span st) (span_of e)) all e → IsExpr x ts k
block_of d b t e = rw (e, b.whole) (block (next_statement d b.list) t)

pub let_of : {p : PatternTree} {e : Tree} (s t u : Span) {ts us vs ws ys k : List Token} → ts ≡ key_let s ∷ us → IsPattern p us vs → vs ≡ sign_is t ∷ ws → IsTail e ws ys → ys ≡ sign_semicolon u ∷ k → IsStatement (LetStatement (to s u) p e) ts k
let_of {p = p} {e = x} s t u {us = us} {ws = ws} e d f g h = rw e (let_statement (subst (λ z. IsPattern p us z) f d) (subst (λ z. IsTail x ws z) h g))

pub store_rule : (m : Mem) {a e : Tree} (s t u v w : Span) {us vs k : List Token} → IsExpr a us (sign_close u ∷ sign_arrow v ∷ vs) → IsTail e vs (sign_semicolon w ∷ k) → IsStatement (StoreStatement (to s w) m a e) (at s (Key (mem_key m)) ∷ sign_open t ∷ us) k
store_rule Sram s t u v w d e = store_sram d e
store_rule Sdram s t u v w d e = store_sdram d e
store_rule Scratch s t u v w d e = store_scratch d e

pub raise_of : {x : List ℕ} {es : Trees} {y : Tree} (s t u v : Span) {ts us vs ws k : List Token} → ts ≡ a_name t x ∷ us → us ≡ sign_open_bracket u ∷ vs → IsArgs es vs ws → ws ≡ sign_close_bracket v ∷ k → y ≡ RaiseTree (to s v) x es → IsTail y (key_raise s ∷ ts) k
raise_of {es = es} s t u v {vs = vs} e f d g h = rw (h, e, f) (raise (subst (λ z. IsArgs es vs z) g d))

pub args_of : {a : Tree} {all : Trees} {us vs k : List Token} → IsExpr a us vs → ExprsAfter a all vs k → IsArgs all us k
args_of d b = rw b.whole (some_args d b.list)

-- a level's operand and what follows it
pub level_of_rest : {a e : Tree} (l m : ℕ) {ts us k : List Token} → suc m ≡ l → IsLevel m a ts us → IsRest m a e us k → IsLevel l e ts k
level_of_rest l m h d r = rw (sym h) (chain d r)

pub level_pred : (l : ℕ) → (l ≡ 0 → ⊥) → suc (l - 1) ≡ l
level_pred l h = omega arith

-- an operator and its right operand
pub chain_step : {op : Op} {a b x e : Tree} (l : ℕ) {ts us vs k : List Token} → l ≢ 5 → StartsOperator l op ts us → IsLevel l b us vs → x ≡ BinaryTree (to (span_of a) (span_of b)) op a b → IsRest l x e vs k → IsRest l a e ts k
chain_step l n s d e r = rw s.split (operator s.is s.level n d (rw e at r))

pub comparison_of : {op : Op} {a b x : Tree} {ts us k : List Token} → StartsOperator 5 op ts us → IsLevel 5 b us k → x ≡ BinaryTree (to (span_of a) (span_of b)) op a b → IsRest 5 a x ts k
comparison_of s d e = rw (e, s.split) (comparison s.is s.level d)

pub shift_step : {op : ShiftOp} {a x e : Tree} {n : ℕ} (u : Span) {ts us vs k : List Token} → StartsShift op ts us → us ≡ a_number u n ∷ vs → x ≡ ShiftTree (to (span_of a) u) op a n → IsRest 1 x e vs k → IsRest 1 a e ts k
shift_step u s f e r = rw (s.split, f) (shift s.is (rw e at r))

exprs_two : {e : Tree} {new : Trees} {s t u : Span} {us vs ws k : List Token} → IsExpr e us vs → IsMoreExprs new vs (sign_close t ∷ k) → vs ≡ sign_comma u ∷ ws → IsAtom (TupleTree (to s t) (tree_and e new)) (sign_open s ∷ us) k
exprs_two d no_expr e = let h : ◌≡◌ {A = ℕ} 13 10 = ap first_rank e in absurd (omega arith)
exprs_two d (next_expr f g) e = tuple d (next_expr f g)

-- a tuple
pub tuple_of : {e x : Tree} {all : Trees} (s t u : Span) {us vs ws xs k : List Token} → IsExpr e us vs → vs ≡ sign_comma u ∷ ws → ExprsAfter e all vs xs → xs ≡ sign_close t ∷ k → x ≡ TupleTree (to s t) all → IsAtom x (sign_open s ∷ us) k
tuple_of s t u {vs = vs} d e b f g = rw (g, b.whole) (exprs_two d (subst (λ z. IsMoreExprs b.new vs z) f b.list) e)

pub paren_of : {e x : Tree} (s t : Span) {us vs k : List Token} → IsExpr e us vs → vs ≡ sign_close t ∷ k → x ≡ ParenTree (to s t) e → IsAtom x (sign_open s ∷ us) k
paren_of {e = e} s t {us = us} d f g = rw g (paren (subst (λ z. IsExpr e us z) f d))

-- a record
pub fields_of : {e y : Tree} {all : NamedTrees} {x : List ℕ} (s t u v : Span) {ts us vs ws xs k : List Token} → ts ≡ a_name t x ∷ us → us ≡ sign_is u ∷ vs → IsExpr e vs ws → MembersAfter x e all ws xs → xs ≡ sign_close_brace v ∷ k → y ≡ FieldsTree (to s v) all → IsAtom y (sign_open_brace s ∷ ts) k
fields_of s t u v {ws = ws} e f d b g h = rw (h, b.whole, e, f) (fields d (subst (λ z. IsMoreMembers b.new ws z) g b.list))

pub fetch_rule : (m : Mem) {n : ℕ} {e : Tree} (s t u v w y : Span) {us k : List Token} → IsExpr e us (sign_close y ∷ k) → IsAtom (FetchTree (to s y) m n e) (at s (Key (mem_key m)) ∷ sign_open_bracket t ∷ a_number u n ∷ sign_close_bracket v ∷ sign_open w ∷ us) k
fetch_rule Sram s t u v w y d = fetch_sram d
fetch_rule Sdram s t u v w y d = fetch_sdram d
fetch_rule Scratch s t u v w y d = fetch_scratch d

pub call_of : {es : Trees} {z : Tree} {x : List ℕ} (s t u : Span) {ts us vs ws k : List Token} → ts ≡ a_name s x ∷ us → us ≡ sign_open_bracket t ∷ vs → IsArgs es vs ws → ws ≡ sign_close_bracket u ∷ k → z ≡ CallTree (to s u) x es → IsAtom z ts k
call_of {es = es} s t u {vs = vs} e f d g h = rw (h, e, f) (call (subst (λ z. IsArgs es vs z) g d))

-- an expression between two signs
pub enclosed_of : {o c : ℕ} {e : Tree} (s y : Span) {ts us vs k : List Token} → ts ≡ at s (Sign o) ∷ us → IsExpr e us vs → vs ≡ at y (Sign c) ∷ k → EnclosedBy o c y e ts k
enclosed_of {e = e} s y {us = us} p d q = record { first = s; inner = us; split = p; read = subst (λ z. IsExpr e us z) q d }

-- a name between square brackets
pub name_of_brackets : {x : List ℕ} (s t u : Span) {t0 t1 t2 k : List Token} → t0 ≡ sign_open_bracket s ∷ t1 → t1 ≡ a_name t x ∷ t2 → t2 ≡ sign_close_bracket u ∷ k → NameInSquare x t0 k
name_of_brackets {x = x} s t u p q r = record { first = s; middle = t; last = u; split = p ∙ ap (λ z. sign_open_bracket s ∷ z) (q ∙ ap (λ z. a_name t x ∷ z) r) }

pub store_of : (m : Mem) {a e : Tree} (s u v w : Span) {ts us vs ws k : List Token} → EnclosedBy 24 25 u a ts us → us ≡ sign_arrow v ∷ vs → IsTail e vs ws → ws ≡ sign_semicolon w ∷ k → IsStatement (StoreStatement (to s w) m a e) (at s (Key (mem_key m)) ∷ ts) k
store_of m {a = a} {e = e} s u v w {vs = vs} d p t q =
    rw d.split (store_rule m s d.first u v w (subst (λ z. IsExpr a d.inner (sign_close u ∷ z)) p d.read) (subst (λ z. IsTail e vs z) q t))

pub if_of : {c a b x : Tree} (s u v : Span) {ts us vs ws k : List Token} → EnclosedBy 24 25 u c ts us → IsExpr a us vs → vs ≡ key_else v ∷ ws → IsExpr b ws k → x ≡ IfTree (to s (span_of b)) c a b → IsTail x (key_if s ∷ ts) k
if_of {a = a} s u v {us = us} d y p z q = rw (q, d.split) (if_else d.read (subst (λ w. IsExpr a us w) p y) z)

pub try_of : {x : List ℕ} {ps : PatternTrees} {a h y : Tree} (s u v w r z j : Span) {t0 t1 t2 t3 t4 t5 t6 k : List Token} → EnclosedBy 26 27 u a t0 t1 → t1 ≡ key_handle v ∷ t2 → t2 ≡ a_name w x ∷ t3 → t3 ≡ sign_open_bracket r ∷ t4 → IsPatterns ps t4 t5 → t5 ≡ sign_close_bracket z ∷ t6 → EnclosedBy 26 27 j h t6 k → y ≡ TryTree (to s j) a x ps h → IsTail y (key_try s ∷ t0) k
try_of {x = x} {ps = ps} {a = a} s u v w r z j {t4 = t4} d e1 e2 e3 p e5 f q =
    rw (q, d.split) (try_handle (subst (λ i. IsExpr a d.inner (sign_close_brace u ∷ i)) (e1 ∙ ap (λ i. key_handle v ∷ i) (e2 ∙ ap (λ i. a_name w x ∷ i) e3)) d.read)
    (subst (λ i. IsPatterns ps t4 i) (e5 ∙ ap (λ i. sign_close_bracket z ∷ i) f.split) p) f.read)

pub fetch_of : (m : Mem) {n : ℕ} {e x : Tree} (s t u v y : Span) {t0 t1 t2 t3 k : List Token} → t0 ≡ sign_open_bracket t ∷ t1 → t1 ≡ a_number u n ∷ t2 → t2 ≡ sign_close_bracket v ∷ t3 → EnclosedBy 24 25 y e t3 k → x ≡ FetchTree (to s y) m n e → IsAtom x (at s (Key (mem_key m)) ∷ t0) k
fetch_of m s t u v y e0 e1 e2 d q = rw (q, e0, e1, e2, d.split) (fetch_rule m s t u v d.first y d.read)

pub unpack_of : {e z : Tree} {x : List ℕ} (s y : Span) {ts us k : List Token} → NameInSquare x ts us → EnclosedBy 24 25 y e us k → z ≡ UnpackTree (to s y) x e → IsAtom z (key_unpack s ∷ ts) k
unpack_of s y n d g = rw (g, n.split, d.split) (unpack d.read)

pub pack_of : {e z : Tree} {x : List ℕ} (s y : Span) {ts us k : List Token} → NameInSquare x ts us → EnclosedBy 24 25 y e us k → z ≡ PackTree (to s y) x e → IsAtom z (key_pack s ∷ ts) k
pack_of s y n d g = rw (g, n.split, d.split) (pack d.read)

-- What may follow a sentence, and what its first token is.
use Rattle.std.proofs.Common.{◌≡◌, refl, sym, ◌∙◌, ap, ℕ, suc, ◌+◌, ◌≤◌, List, [], ◌∷◌, arith}
use Rattle.nv_ast.specs.declared.token.Span.{Span}
use Rattle.nv_ast.specs.declared.token.Token.{Token}
use Rattle.nv_ast.specs.declared.token.Sort.{Sort}
use Rattle.nv_ast.specs.declared.token.Sort.TheVariants.{Word, Number, Key, Sign}
use Rattle.nv_ast.specs.declared.tree.Op.{Op}
use Rattle.nv_ast.specs.declared.tree.ShiftOp.{ShiftOp}
use Rattle.nv_ast.specs.Tokens.{a_number, sign_of, level_of, shift_sign_of}
use Rattle.nv_ast.specs.Tokens.{key_let, key_if, key_raise, key_try, key_sram, key_sdram, key_scratch, key_overlay}
use Rattle.nv_ast.specs.Tokens.{sign_tilde, sign_bang, sign_open, sign_close}
use Rattle.nv_ast.specs.Tree.{LayoutTree, LayoutTrees, layout_and, FieldTree, FieldTrees}
use Rattle.nv_ast.specs.Tree.{TypeTree, TypeTrees, NamedTypes}
use Rattle.nv_ast.specs.Tree.{PatternTree, PatternTrees}
use Rattle.nv_ast.specs.Tree.{Tree, Trees, tree_and, NamedTrees, StatementTree}
use Rattle.nv_ast.specs.Tree.{DeclTree}
use Rattle.nv_ast.specs.Grammar.{IsLayout, IsMoreLayouts, IsLayoutAtom, IsMoreFields, IsAlternative, IsMoreAlternatives, IsType, IsMoreTypes, IsMoreNamedTypes, IsPattern, IsMorePatterns, IsExpr, IsStatement, IsTail, IsMoreExprs, IsLevel, IsRest, IsUna, IsDots, IsAtom, IsMoreMembers, IsDecl, IsDecls}
use Rattle.nv_ast.specs.Grammar.{one_layout, joined_layouts, next_layout, no_field, next_field, inner_field, no_alternative, next_alternative, word_type, words_type, bool_type, packed_type, unpacked_type, unit_type, tuple_type, record_type, no_type, next_type, no_named_type, next_named_type, name_pattern, any_pattern, unit_pattern, tuple_pattern, no_pattern, next_pattern, tail_alone, block, next_statement, let_statement, store_sram, store_sdram, store_scratch, if_else, raise, operators, try_handle, no_expr, next_expr, una, chain, no_operator, operator, comparison, shift, invert, negate, post, no_dot, dot, number, truth, falsehood, variable, call, unit, paren, tuple, fields, unpack, pack, fetch_sram, fetch_sdram, fetch_scratch, no_member, next_member, layout_decl, exception_decl, group, no_decl, next_decl}
use Rattle.std.proofs.Common.{get_or}
pub use Rattle.nv_text_parser.specs.inner.Follow.{key_rank, sign_rank, rank, Above}
use Rattle.nv_ast.specs.declared.tree.Op.TheVariants.{Add, Sub, And, Or, Xor, Eq, Ne, Lt, Le, Gt, Ge, Both, Either}
use Rattle.nv_ast.specs.declared.tree.ShiftOp.TheVariants.{Left, Right, Rotate}

abbrev pub no_token : Token
no_token = record { span = record { first = 0; after = 0 }; sort = Number 0 }

-- the span of the token at a place
abbrev pub span_at : ℕ → List Token → Span
span_at n ts = (get_or ts n no_token).span

abbrev name_of : Sort → List ℕ
name_of (Word x) = x
name_of (Number n) = []
name_of (Key n) = []
name_of (Sign n) = []

-- the name at a place
abbrev pub name_at : ℕ → List Token → List ℕ
name_at n ts = name_of (get_or ts n no_token).sort

-- the rank of the first token, or 0
abbrev pub first_rank : List Token → ℕ
first_rank [] = 0
first_rank (t ∷ ts) = rank t.sort

pub above_weaken : (m n : ℕ) (k : List Token) → Above n k → m ≤ n → Above m k
above_weaken m n [] f h = tt
above_weaken m n (t ∷ k) f h = omega arith

-- what begins a sentence isn't what follows one
pub no_start : (k : List Token) → 11 ≤ first_rank k × (first_rank k ≤ 12) → Above 12 k → ⊥
no_start [] h f = absurd (omega arith)
no_start (t ∷ k) h f = absurd (omega arith)

op_rank : (op : Op) → sign_rank (sign_of op) ≡ level_of op + 2
op_rank Add = refl
op_rank Sub = refl
op_rank And = refl
op_rank Or = refl
op_rank Xor = refl
op_rank Eq = refl
op_rank Ne = refl
op_rank Lt = refl
op_rank Le = refl
op_rank Gt = refl
op_rank Ge = refl
op_rank Both = refl
op_rank Either = refl

pub rank_of : (t : Token) (op : Op) → t.sort ≡ Sign (sign_of op) → rank t.sort ≡ level_of op + 2
rank_of t op e = ap rank e ∙ op_rank op

pub shift_rank : (t : Token) (op : ShiftOp) → t.sort ≡ Sign (shift_sign_of op) → rank t.sort ≡ 3
shift_rank t Left e = ap rank e
shift_rank t Right e = ap rank e
shift_rank t Rotate e = ap rank e

op_at : ℕ → Op
op_at n = get_or (Add ∷ Sub ∷ And ∷ Or ∷ Xor ∷ Add ∷ Add ∷ Add ∷ Add ∷ Eq ∷ Ne ∷ Lt ∷ Le ∷ Gt ∷ Ge ∷ Both ∷ Either ∷ []) n Add

op_at-sign_of : (op : Op) → op_at (sign_of op) ≡ op
unfolding op_at
op_at-sign_of Add = refl
op_at-sign_of Sub = refl
op_at-sign_of And = refl
op_at-sign_of Or = refl
op_at-sign_of Xor = refl
op_at-sign_of Eq = refl
op_at-sign_of Ne = refl
op_at-sign_of Lt = refl
op_at-sign_of Le = refl
op_at-sign_of Gt = refl
op_at-sign_of Ge = refl
op_at-sign_of Both = refl
op_at-sign_of Either = refl

pub same_op : (t : Token) (a b : Op) → t.sort ≡ Sign (sign_of a) → t.sort ≡ Sign (sign_of b) → a ≡ b
same_op t a b p q =
    let e : sign_of a ≡ sign_of b = cc in
    sym (op_at-sign_of a) ∙ (ap op_at e ∙ op_at-sign_of b)

shift_at : ℕ → ShiftOp
shift_at n = get_or (Left ∷ Left ∷ Left ∷ Left ∷ Left ∷ Left ∷ Left ∷ Right ∷ Rotate ∷ []) n Left

shift_at-shift_sign_of : (op : ShiftOp) → shift_at (shift_sign_of op) ≡ op
unfolding shift_at
shift_at-shift_sign_of Left = refl
shift_at-shift_sign_of Right = refl
shift_at-shift_sign_of Rotate = refl

pub same_shift : (t : Token) (a b : ShiftOp) → t.sort ≡ Sign (shift_sign_of a) → t.sort ≡ Sign (shift_sign_of b) → a ≡ b
same_shift t a b p q =
    let e : shift_sign_of a ≡ shift_sign_of b = cc in
    sym (shift_at-shift_sign_of a) ∙ (ap shift_at e ∙ shift_at-shift_sign_of b)

pub level_not_one : (op : Op) → level_of op ≡ 1 → ⊥
level_not_one Add e = absurd (omega arith)
level_not_one Sub e = absurd (omega arith)
level_not_one And e = absurd (omega arith)
level_not_one Or e = absurd (omega arith)
level_not_one Xor e = absurd (omega arith)
level_not_one Eq e = absurd (omega arith)
level_not_one Ne e = absurd (omega arith)
level_not_one Lt e = absurd (omega arith)
level_not_one Le e = absurd (omega arith)
level_not_one Gt e = absurd (omega arith)
level_not_one Ge e = absurd (omega arith)
level_not_one Both e = absurd (omega arith)
level_not_one Either e = absurd (omega arith)

-- no shift is an operator of two expressions
pub no_shift : (t : Token) (op : Op) (s : ShiftOp) → t.sort ≡ Sign (sign_of op) → t.sort ≡ Sign (shift_sign_of s) → ⊥
no_shift t op s p q =
    let h = rank_of t op p in
    let g = shift_rank t s q in
    let e : level_of op ≡ 1 = omega arith in
    level_not_one op e

pub zero_one : 0 + 1 ≡ 1
zero_one = refl

pub rest_above : (l : ℕ) (k : List Token) → Above (suc l + 1) k → Above (l + 2) k
rest_above l k f = above_weaken (l + 2) (suc l + 1) k f (omega arith)

-- in front of the rest of a chain stands nothing of its operand
pub front_rest : {l : ℕ} {a x : Tree} {ts k : List Token} → IsRest l a x ts k → Above (l + 2) k → Above (l + 1) ts
front_rest (no_operator {l = l} {k = k}) f = above_weaken (l + 1) (l + 2) k f (omega arith)
front_rest (operator {op = op} {t = t} p q n d e) f = let h = rank_of t op p in omega arith
front_rest (comparison {op = op} {t = t} p q d) f = let h = rank_of t op p in omega arith
front_rest (shift {op = op} {t = t} p d) f = let h = shift_rank t op p in omega arith

pub front_more_fields : {x : FieldTrees} {ts k : List Token} → IsMoreFields x ts k → Above 10 k → Above 9 ts
front_more_fields (no_field {k = k}) f = above_weaken 9 10 k f (omega arith)
front_more_fields (next_field d e) f = omega arith

pub front_more_alternatives : {x : FieldTrees} {ts k : List Token} → IsMoreAlternatives x ts k → Above 10 k → Above 5 ts
front_more_alternatives (no_alternative {k = k}) f = above_weaken 5 10 k f (omega arith)
front_more_alternatives (next_alternative d e) f = omega arith

pub front_more_types : {x : TypeTrees} {ts k : List Token} → IsMoreTypes x ts k → Above 10 k → Above 9 ts
front_more_types (no_type {k = k}) f = above_weaken 9 10 k f (omega arith)
front_more_types (next_type d e) f = omega arith

pub front_more_named_types : {x : NamedTypes} {ts k : List Token} → IsMoreNamedTypes x ts k → Above 10 k → Above 9 ts
front_more_named_types (no_named_type {k = k}) f = above_weaken 9 10 k f (omega arith)
front_more_named_types (next_named_type d e) f = omega arith

pub front_more_patterns : {x : PatternTrees} {ts k : List Token} → IsMorePatterns x ts k → Above 10 k → Above 9 ts
front_more_patterns (no_pattern {k = k}) f = above_weaken 9 10 k f (omega arith)
front_more_patterns (next_pattern d e) f = omega arith

pub front_more_exprs : {x : Trees} {ts k : List Token} → IsMoreExprs x ts k → Above 10 k → Above 9 ts
front_more_exprs (no_expr {k = k}) f = above_weaken 9 10 k f (omega arith)
front_more_exprs (next_expr d e) f = omega arith

pub front_more_members : {x : NamedTrees} {ts k : List Token} → IsMoreMembers x ts k → Above 10 k → Above 9 ts
front_more_members (no_member {k = k}) f = above_weaken 9 10 k f (omega arith)
front_more_members (next_member d e) f = omega arith

pub front_dots : {a x : Tree} {ts k : List Token} → IsDots a x ts k → Above 1 k → Above 0 ts
front_dots (no_dot {k = k}) f = above_weaken 0 1 k f (omega arith)
front_dots (dot d) f = omega arith

-- joined layouts go on with ##
pub joins : {l : LayoutTree} {ls : LayoutTrees} {ts k : List Token} → IsMoreLayouts (layout_and l ls) ts k → (us : List Token) → ts ≡ us → Above 0 us → ⊥
joins (next_layout {s = s} {us = vs} d e) [] g f = cc
joins (next_layout {s = s} {us = vs} d e) (t ∷ us) g f = let h : 0 ≡ rank t.sort = ap first_rank g in absurd (omega arith)

atom_no_number : {l : LayoutTree} {s : Span} {n : ℕ} {us k : List Token} → IsLayoutAtom l (a_number s n ∷ us) k → ⊥
atom_no_number d = elim d [ ]

pub number_no_layout : {l : LayoutTree} {s : Span} {n : ℕ} {us k : List Token} → IsLayout l (a_number s n ∷ us) k → ⊥
number_no_layout (one_layout d) = atom_no_number d
number_no_layout (joined_layouts d e) = atom_no_number d

atom_no_overlay : {l : LayoutTree} {s : Span} {us k : List Token} → IsLayoutAtom l (key_overlay s ∷ us) k → ⊥
atom_no_overlay d = elim d [ ]

layout_no_overlay : {l : LayoutTree} {s : Span} {us k : List Token} → IsLayout l (key_overlay s ∷ us) k → ⊥
layout_no_overlay (one_layout d) = atom_no_overlay d
layout_no_overlay (joined_layouts d e) = atom_no_overlay d

pub overlay_no_alternative : {x : FieldTree} {s : Span} {us k : List Token} → IsAlternative x (key_overlay s ∷ us) k → ⊥
overlay_no_alternative (inner_field d) = layout_no_overlay d

pub type_first : {x : TypeTree} {ts k : List Token} → IsType x ts k → (11 ≤ first_rank ts) × (first_rank ts ≤ 12)
type_first word_type = (omega arith, omega arith)
type_first words_type = (omega arith, omega arith)
type_first bool_type = (omega arith, omega arith)
type_first packed_type = (omega arith, omega arith)
type_first unpacked_type = (omega arith, omega arith)
type_first unit_type = (omega arith, omega arith)
type_first (tuple_type d0 d1) = (omega arith, omega arith)
type_first (record_type d0 d1) = (omega arith, omega arith)

pub close_starts_no_type : {x : TypeTree} {s : Span} {us k : List Token} → IsType x (sign_close s ∷ us) k → ⊥
close_starts_no_type d = let h = type_first d in absurd (omega arith)

pub pattern_first : {x : PatternTree} {ts k : List Token} → IsPattern x ts k → (11 ≤ first_rank ts) × (first_rank ts ≤ 12)
pattern_first name_pattern = (omega arith, omega arith)
pattern_first any_pattern = (omega arith, omega arith)
pattern_first unit_pattern = (omega arith, omega arith)
pattern_first (tuple_pattern d0 d1) = (omega arith, omega arith)

pub close_starts_no_pattern : {x : PatternTree} {s : Span} {us k : List Token} → IsPattern x (sign_close s ∷ us) k → ⊥
close_starts_no_pattern d = let h = pattern_first d in absurd (omega arith)

atom_first : {x : Tree} {ts k : List Token} → IsAtom x ts k → first_rank ts ≡ 11
atom_first number = refl
atom_first truth = refl
atom_first falsehood = refl
atom_first variable = refl
atom_first (call d0) = refl
atom_first unit = refl
atom_first (paren d0) = refl
atom_first (tuple d0 d1) = refl
atom_first (fields d0 d1) = refl
atom_first (unpack d0) = refl
atom_first (pack d0) = refl
atom_first (fetch_sram d0) = refl
atom_first (fetch_sdram d0) = refl
atom_first (fetch_scratch d0) = refl

una_first : {x : Tree} {ts k : List Token} → IsUna x ts k → first_rank ts ≡ 11
una_first (invert d) = refl
una_first (negate d) = refl
una_first (post d e) = atom_first d

-- an operand's first token
pub level_first : {l : ℕ} {x : Tree} {ts k : List Token} → IsLevel l x ts k → first_rank ts ≡ 11
level_first (una d) = una_first d
level_first (chain d e) = level_first d

tail_first : {x : Tree} {ts k : List Token} → IsTail x ts k → (11 ≤ first_rank ts) × (first_rank ts ≤ 12)
tail_first (if_else d e f) = (omega arith, omega arith)
tail_first (raise d) = (omega arith, omega arith)
tail_first (operators d) = let h = level_first d in (omega arith, omega arith)
tail_first (try_handle d e f) = (omega arith, omega arith)

statement_first : {x : StatementTree} {ts k : List Token} → IsStatement x ts k → (11 ≤ first_rank ts) × (first_rank ts ≤ 12)
statement_first (let_statement d e) = (omega arith, omega arith)
statement_first (store_sram d e) = (omega arith, omega arith)
statement_first (store_sdram d e) = (omega arith, omega arith)
statement_first (store_scratch d e) = (omega arith, omega arith)

pub expr_first : {x : Tree} {ts k : List Token} → IsExpr x ts k → (11 ≤ first_rank ts) × (first_rank ts ≤ 12)
expr_first (tail_alone d) = tail_first d
expr_first (block (next_statement d e) f) = statement_first d

pub close_starts_no_expr : {x : Tree} {s : Span} {us k : List Token} → IsExpr x (sign_close s ∷ us) k → ⊥
close_starts_no_expr d = let h = expr_first d in absurd (omega arith)

pub close_no_comma : {e : Tree} {es : Trees} {vs ws : List Token} (t : Span) (k : List Token) → IsMoreExprs (tree_and e es) vs ws → sign_close t ∷ k ≡ vs → ⊥
close_no_comma t k (next_expr d e) g = let h : ◌≡◌ {A = ℕ} 13 10 = ap first_rank g in absurd (omega arith)

pub tilde_no_atom : {x : Tree} {s : Span} {us k : List Token} → IsAtom x (sign_tilde s ∷ us) k → ⊥
tilde_no_atom d = elim d [ ]

pub bang_no_atom : {x : Tree} {s : Span} {us k : List Token} → IsAtom x (sign_bang s ∷ us) k → ⊥
bang_no_atom d = elim d [ ]

atom_no_let : {x : Tree} {s : Span} {us k : List Token} → IsAtom x (key_let s ∷ us) k → ⊥
atom_no_let d = elim d [ ]

atom_no_sram : {x : Tree} {s t : Span} {us k : List Token} → IsAtom x (key_sram s ∷ sign_open t ∷ us) k → ⊥
atom_no_sram d = elim d [ ]

atom_no_sdram : {x : Tree} {s t : Span} {us k : List Token} → IsAtom x (key_sdram s ∷ sign_open t ∷ us) k → ⊥
atom_no_sdram d = elim d [ ]

atom_no_scratch : {x : Tree} {s t : Span} {us k : List Token} → IsAtom x (key_scratch s ∷ sign_open t ∷ us) k → ⊥
atom_no_scratch d = elim d [ ]

atom_no_statement : {x : Tree} {y : StatementTree} {ts k k' : List Token} → IsAtom x ts k → IsStatement y ts k' → ⊥
atom_no_statement d (let_statement e f) = atom_no_let d
atom_no_statement d (store_sram e f) = atom_no_sram d
atom_no_statement d (store_sdram e f) = atom_no_sdram d
atom_no_statement d (store_scratch e f) = atom_no_scratch d

invert_no_statement : {y : StatementTree} {s : Span} {us k : List Token} → IsStatement y (sign_tilde s ∷ us) k → ⊥
invert_no_statement d = elim d [ ]

negate_no_statement : {y : StatementTree} {s : Span} {us k : List Token} → IsStatement y (sign_bang s ∷ us) k → ⊥
negate_no_statement d = elim d [ ]

una_no_statement : {x : Tree} {y : StatementTree} {ts k k' : List Token} → IsUna x ts k → IsStatement y ts k' → ⊥
una_no_statement (invert d) e = invert_no_statement e
una_no_statement (negate d) e = negate_no_statement e
una_no_statement (post d f) e = atom_no_statement d e

level_no_statement : {l : ℕ} {x : Tree} {y : StatementTree} {ts k k' : List Token} → IsLevel l x ts k → IsStatement y ts k' → ⊥
level_no_statement (una d) e = una_no_statement d e
level_no_statement (chain d f) e = level_no_statement d e

if_no_statement : {y : StatementTree} {s : Span} {us k : List Token} → IsStatement y (key_if s ∷ us) k → ⊥
if_no_statement d = elim d [ ]

raise_no_statement : {y : StatementTree} {s : Span} {us k : List Token} → IsStatement y (key_raise s ∷ us) k → ⊥
raise_no_statement d = elim d [ ]

try_no_statement : {y : StatementTree} {s : Span} {us k : List Token} → IsStatement y (key_try s ∷ us) k → ⊥
try_no_statement d = elim d [ ]

-- no tail begins with a statement
pub tail_no_statement : {x : Tree} {y : StatementTree} {ts k k' : List Token} → IsTail x ts k → IsStatement y ts k' → ⊥
tail_no_statement (if_else d f g) e = if_no_statement e
tail_no_statement (raise d) e = raise_no_statement e
tail_no_statement (operators d) e = level_no_statement d e
tail_no_statement (try_handle d f g) e = try_no_statement e

pub decl_some : {x : DeclTree} {k : List Token} → IsDecl x [] k → ⊥
decl_some d = elim d [ ]

pub decl_front : {x : DeclTree} {ts k : List Token} → IsDecl x ts k → Above 0 ts
decl_front (layout_decl d) = omega arith
decl_front (exception_decl d) = omega arith
decl_front (group d e) = omega arith

pub front_decls : {ds : List DeclTree} {ts : List Token} → IsDecls ds ts [] → Above 0 ts
front_decls no_decl = tt
front_decls (next_decl d e) = decl_front d

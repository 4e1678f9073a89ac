-- The grammar: which tokens spell which tree. In each relation the tokens of the first list up to those of the second one spell the tree.
-- Above each group of rules stands its line of the grammar; 'x' is a keyword or a sign, NAME a name, NUM a number.
-- A span runs from the first byte of the first token to past the last byte of the last one.
use Rattle.std.specs.Prelude.{◌≡◌, ◌≢◌, ℕ, zero, suc, List, [], ◌∷◌, true, false}
use Rattle.nv_base.specs.declared.term.Mem.TheVariants.{Sram, Sdram, Scratch}
use Rattle.nv_ast.specs.declared.token.Span.{Span}
use Rattle.nv_ast.specs.declared.token.Token.{Token}
use Rattle.nv_ast.specs.declared.token.Sort.TheVariants.{Sign}
use Rattle.nv_ast.specs.declared.tree.Op.{Op}
use Rattle.nv_ast.specs.declared.tree.ShiftOp.{ShiftOp}
use Rattle.nv_ast.specs.Tokens.{to, a_name, a_number, sign_of, level_of, shift_sign_of}
use Rattle.nv_ast.specs.Tokens.{key_layout, key_exception, key_fun, key_and, key_let, key_if, key_else, key_unpack, key_pack, key_raise, key_try, key_handle, key_sram, key_sdram, key_scratch, key_word, key_bool, key_packed, key_unpacked, key_overlay, key_true, key_false, key_any}
use Rattle.nv_ast.specs.Tokens.{sign_bar, sign_tilde, sign_bang, sign_arrow, sign_is, sign_semicolon, sign_colon, sign_comma, sign_dot, sign_open, sign_close, sign_open_brace, sign_close_brace, sign_open_bracket, sign_close_bracket, sign_join}
use Rattle.nv_ast.specs.Tree.{LayoutTree, NamedLayout, GapLayout, PartsLayout, JoinedLayout, LayoutTrees, no_layouts, layout_and, FieldTree, BitsField, InnerField, OverlayField, FieldTrees, no_fields, field_and}
use Rattle.nv_ast.specs.Tree.{TypeTree, WordType, BoolType, PackedType, UnpackedType, TupleType, RecordType, TypeTrees, no_types, type_and, NamedTypes, no_named_types, named_type_and}
use Rattle.nv_ast.specs.Tree.{PatternTree, NamePattern, AnyPattern, TuplePattern, PatternTrees, no_patterns, pattern_and}
use Rattle.nv_ast.specs.Tree.{Tree, NumberTree, TruthTree, VarTree, ParenTree, TupleTree, FieldsTree, DotTree, InvertTree, NegateTree, BinaryTree, ShiftTree, CallTree, UnpackTree, PackTree, RaiseTree, IfTree, TryTree, FetchTree, BlockTree, Trees, no_trees, tree_and, NamedTrees, no_named_trees, named_tree_and, StatementTree, LetStatement, StoreStatement, StatementTrees, no_statements, statement_and, span_of, statement_span}
use Rattle.nv_ast.specs.Tree.{FunTree, DeclTree, LayoutDecl, ExceptionDecl, GroupDecl, ProgramTree}

-- ---- layouts
mutual
  -- layout = latom ('##' latom)*      a layout of one latom is that latom
  pub data IsLayout : LayoutTree → List Token → List Token → Type 0 where
    one_layout : {l : LayoutTree} {ts k : List Token} → IsLayoutAtom l ts k → IsLayout l ts k
    joined_layouts : {l m : LayoutTree} {ls : LayoutTrees} {ts us k : List Token} → IsLayoutAtom l ts us → IsMoreLayouts (layout_and m ls) us k → IsLayout (JoinedLayout (layout_and l (layout_and m ls))) ts k

  -- ('##' latom)*
  pub data IsMoreLayouts : LayoutTrees → List Token → List Token → Type 0 where
    no_layout : {k : List Token} → IsMoreLayouts no_layouts k k
    next_layout : {s : Span} {l : LayoutTree} {ls : LayoutTrees} {us vs k : List Token} → IsLayoutAtom l us vs → IsMoreLayouts ls vs k → IsMoreLayouts (layout_and l ls) (sign_join s ∷ us) k

  -- latom = NAME | '{' NUM '}' | '{' field (',' field)* '}'
  pub data IsLayoutAtom : LayoutTree → List Token → List Token → Type 0 where
    named_layout : {s : Span} {x : List ℕ} {k : List Token} → IsLayoutAtom (NamedLayout x) (a_name s x ∷ k) k
    gap_layout : {s t u : Span} {n : ℕ} {k : List Token} → IsLayoutAtom (GapLayout n) (sign_open_brace s ∷ a_number t n ∷ sign_close_brace u ∷ k) k
    parts_layout : {s t u v : Span} {x : List ℕ} {f : FieldTree} {fs : FieldTrees} {us vs k : List Token} → IsField f us vs → IsMoreFields fs vs (sign_close_brace v ∷ k) → IsLayoutAtom (PartsLayout (field_and x f fs)) (sign_open_brace s ∷ a_name t x ∷ sign_colon u ∷ us) k

  -- (',' field)*
  pub data IsMoreFields : FieldTrees → List Token → List Token → Type 0 where
    no_field : {k : List Token} → IsMoreFields no_fields k k
    next_field : {s t u : Span} {x : List ℕ} {f : FieldTree} {fs : FieldTrees} {us vs k : List Token} → IsField f us vs → IsMoreFields fs vs k → IsMoreFields (field_and x f fs) (sign_comma s ∷ a_name t x ∷ sign_colon u ∷ us) k

  -- field = NAME ':' (NUM | layout | 'overlay' '{' alt ('|' alt)+ '}')      the part after the ':'
  pub data IsField : FieldTree → List Token → List Token → Type 0 where
    plain_field : {f : FieldTree} {ts k : List Token} → IsAlternative f ts k → IsField f ts k
    overlay_field : {s t u v w : Span} {x y : List ℕ} {f g : FieldTree} {fs : FieldTrees} {us vs k : List Token} → IsAlternative f us vs → IsMoreAlternatives (field_and y g fs) vs (sign_close_brace w ∷ k) → IsField (OverlayField (field_and x f (field_and y g fs))) (key_overlay s ∷ sign_open_brace t ∷ a_name u x ∷ sign_colon v ∷ us) k

  -- alt = NAME ':' (NUM | layout)      the part after the ':'
  pub data IsAlternative : FieldTree → List Token → List Token → Type 0 where
    bits_field : {s : Span} {n : ℕ} {k : List Token} → IsAlternative (BitsField n) (a_number s n ∷ k) k
    inner_field : {l : LayoutTree} {ts k : List Token} → IsLayout l ts k → IsAlternative (InnerField l) ts k

  -- ('|' alt)*
  pub data IsMoreAlternatives : FieldTrees → List Token → List Token → Type 0 where
    no_alternative : {k : List Token} → IsMoreAlternatives no_fields k k
    next_alternative : {s t u : Span} {x : List ℕ} {f : FieldTree} {fs : FieldTrees} {us vs k : List Token} → IsAlternative f us vs → IsMoreAlternatives fs vs k → IsMoreAlternatives (field_and x f fs) (sign_bar s ∷ a_name t x ∷ sign_colon u ∷ us) k

-- ---- types
mutual
  -- type = 'word' | 'word' '[' NUM ']' | 'bool' | 'packed' '(' NAME ')' | 'unpacked' '(' NAME ')'
  --      | '(' ')' | '(' type (',' type)+ ')' | '{' NAME ':' type (',' NAME ':' type)* '}'
  pub data IsType : TypeTree → List Token → List Token → Type 0 where
    word_type : {s : Span} {k : List Token} → IsType (WordType 1) (key_word s ∷ k) k
    words_type : {s t u v : Span} {n : ℕ} {k : List Token} → IsType (WordType n) (key_word s ∷ sign_open_bracket t ∷ a_number u n ∷ sign_close_bracket v ∷ k) k
    bool_type : {s : Span} {k : List Token} → IsType BoolType (key_bool s ∷ k) k
    packed_type : {s t u v : Span} {x : List ℕ} {k : List Token} → IsType (PackedType x) (key_packed s ∷ sign_open t ∷ a_name u x ∷ sign_close v ∷ k) k
    unpacked_type : {s t u v : Span} {x : List ℕ} {k : List Token} → IsType (UnpackedType x) (key_unpacked s ∷ sign_open t ∷ a_name u x ∷ sign_close v ∷ k) k
    unit_type : {s t : Span} {k : List Token} → IsType (TupleType no_types) (sign_open s ∷ sign_close t ∷ k) k
    tuple_type : {s t : Span} {a b : TypeTree} {cs : TypeTrees} {us vs k : List Token} → IsType a us vs → IsMoreTypes (type_and b cs) vs (sign_close t ∷ k) → IsType (TupleType (type_and a (type_and b cs))) (sign_open s ∷ us) k
    record_type : {s t u v : Span} {x : List ℕ} {a : TypeTree} {bs : NamedTypes} {us vs k : List Token} → IsType a us vs → IsMoreNamedTypes bs vs (sign_close_brace v ∷ k) → IsType (RecordType (named_type_and x a bs)) (sign_open_brace s ∷ a_name t x ∷ sign_colon u ∷ us) k

  -- (',' type)*
  pub data IsMoreTypes : TypeTrees → List Token → List Token → Type 0 where
    no_type : {k : List Token} → IsMoreTypes no_types k k
    next_type : {s : Span} {a : TypeTree} {bs : TypeTrees} {us vs k : List Token} → IsType a us vs → IsMoreTypes bs vs k → IsMoreTypes (type_and a bs) (sign_comma s ∷ us) k

  -- (',' NAME ':' type)*
  pub data IsMoreNamedTypes : NamedTypes → List Token → List Token → Type 0 where
    no_named_type : {k : List Token} → IsMoreNamedTypes no_named_types k k
    next_named_type : {s t u : Span} {x : List ℕ} {a : TypeTree} {bs : NamedTypes} {us vs k : List Token} → IsType a us vs → IsMoreNamedTypes bs vs k → IsMoreNamedTypes (named_type_and x a bs) (sign_comma s ∷ a_name t x ∷ sign_colon u ∷ us) k

-- types = empty | type (',' type)*
pub data IsTypes : TypeTrees → List Token → List Token → Type 0 where
  empty_types : {k : List Token} → IsTypes no_types k k
  some_types : {a : TypeTree} {bs : TypeTrees} {us vs k : List Token} → IsType a us vs → IsMoreTypes bs vs k → IsTypes (type_and a bs) us k

-- params = empty | NAME ':' type (',' NAME ':' type)*
pub data IsParams : NamedTypes → List Token → List Token → Type 0 where
  empty_params : {k : List Token} → IsParams no_named_types k k
  some_params : {s t : Span} {x : List ℕ} {a : TypeTree} {bs : NamedTypes} {us vs k : List Token} → IsType a us vs → IsMoreNamedTypes bs vs k → IsParams (named_type_and x a bs) (a_name s x ∷ sign_colon t ∷ us) k

-- ---- patterns
mutual
  -- pat = NAME | '_' | '(' ')' | '(' pat (',' pat)+ ')'
  pub data IsPattern : PatternTree → List Token → List Token → Type 0 where
    name_pattern : {s : Span} {x : List ℕ} {k : List Token} → IsPattern (NamePattern x) (a_name s x ∷ k) k
    any_pattern : {s : Span} {k : List Token} → IsPattern AnyPattern (key_any s ∷ k) k
    unit_pattern : {s t : Span} {k : List Token} → IsPattern (TuplePattern no_patterns) (sign_open s ∷ sign_close t ∷ k) k
    tuple_pattern : {s t : Span} {p q : PatternTree} {ps : PatternTrees} {us vs k : List Token} → IsPattern p us vs → IsMorePatterns (pattern_and q ps) vs (sign_close t ∷ k) → IsPattern (TuplePattern (pattern_and p (pattern_and q ps))) (sign_open s ∷ us) k

  -- (',' pat)*
  pub data IsMorePatterns : PatternTrees → List Token → List Token → Type 0 where
    no_pattern : {k : List Token} → IsMorePatterns no_patterns k k
    next_pattern : {s : Span} {p : PatternTree} {ps : PatternTrees} {us vs k : List Token} → IsPattern p us vs → IsMorePatterns ps vs k → IsMorePatterns (pattern_and p ps) (sign_comma s ∷ us) k

-- pats = empty | pat (',' pat)*
pub data IsPatterns : PatternTrees → List Token → List Token → Type 0 where
  empty_patterns : {k : List Token} → IsPatterns no_patterns k k
  some_patterns : {p : PatternTree} {ps : PatternTrees} {us vs k : List Token} → IsPattern p us vs → IsMorePatterns ps vs k → IsPatterns (pattern_and p ps) us k

-- ---- expressions
mutual
  -- expr = stmt* tail      without statements it is its tail, else a block
  pub data IsExpr : Tree → List Token → List Token → Type 0 where
    tail_alone : {e : Tree} {ts k : List Token} → IsTail e ts k → IsExpr e ts k
    block : {st : StatementTree} {sts : StatementTrees} {e : Tree} {ts us k : List Token} → IsStatements (statement_and st sts) ts us → IsTail e us k → IsExpr (BlockTree (to (statement_span st) (span_of e)) (statement_and st sts) e) ts k

  -- stmt*
  pub data IsStatements : StatementTrees → List Token → List Token → Type 0 where
    no_statement : {k : List Token} → IsStatements no_statements k k
    next_statement : {st : StatementTree} {sts : StatementTrees} {ts us k : List Token} → IsStatement st ts us → IsStatements sts us k → IsStatements (statement_and st sts) ts k

  -- stmt = 'let' pat '=' tail ';' | mem '(' expr ')' '<-' tail ';'      mem = 'sram' | 'sdram' | 'scratch'
  pub data IsStatement : StatementTree → List Token → List Token → Type 0 where
    let_statement : {s t u : Span} {p : PatternTree} {e : Tree} {us vs k : List Token} → IsPattern p us (sign_is t ∷ vs) → IsTail e vs (sign_semicolon u ∷ k) → IsStatement (LetStatement (to s u) p e) (key_let s ∷ us) k
    store_sram : {s t u v w : Span} {a e : Tree} {us vs k : List Token} → IsExpr a us (sign_close u ∷ sign_arrow v ∷ vs) → IsTail e vs (sign_semicolon w ∷ k) → IsStatement (StoreStatement (to s w) Sram a e) (key_sram s ∷ sign_open t ∷ us) k
    store_sdram : {s t u v w : Span} {a e : Tree} {us vs k : List Token} → IsExpr a us (sign_close u ∷ sign_arrow v ∷ vs) → IsTail e vs (sign_semicolon w ∷ k) → IsStatement (StoreStatement (to s w) Sdram a e) (key_sdram s ∷ sign_open t ∷ us) k
    store_scratch : {s t u v w : Span} {a e : Tree} {us vs k : List Token} → IsExpr a us (sign_close u ∷ sign_arrow v ∷ vs) → IsTail e vs (sign_semicolon w ∷ k) → IsStatement (StoreStatement (to s w) Scratch a e) (key_scratch s ∷ sign_open t ∷ us) k

  -- tail = 'if' '(' expr ')' expr 'else' expr | 'raise' NAME '[' args ']' | or
  --      | 'try' '{' expr '}' 'handle' NAME '[' pats ']' '{' expr '}'
  pub data IsTail : Tree → List Token → List Token → Type 0 where
    if_else : {s t u v : Span} {c a b : Tree} {us vs ws k : List Token} → IsExpr c us (sign_close u ∷ vs) → IsExpr a vs (key_else v ∷ ws) → IsExpr b ws k → IsTail (IfTree (to s (span_of b)) c a b) (key_if s ∷ sign_open t ∷ us) k
    raise : {s t u v : Span} {x : List ℕ} {es : Trees} {us k : List Token} → IsArgs es us (sign_close_bracket v ∷ k) → IsTail (RaiseTree (to s v) x es) (key_raise s ∷ a_name t x ∷ sign_open_bracket u ∷ us) k
    operators : {e : Tree} {ts k : List Token} → IsLevel 8 e ts k → IsTail e ts k
    try_handle : {s t u v w y z i j : Span} {x : List ℕ} {ps : PatternTrees} {a h : Tree} {us vs ws k : List Token} → IsExpr a us (sign_close_brace u ∷ key_handle v ∷ a_name w x ∷ sign_open_bracket y ∷ vs) → IsPatterns ps vs (sign_close_bracket z ∷ sign_open_brace i ∷ ws) → IsExpr h ws (sign_close_brace j ∷ k) → IsTail (TryTree (to s j) a x ps h) (key_try s ∷ sign_open_brace t ∷ us) k

  -- args = empty | expr (',' expr)*
  pub data IsArgs : Trees → List Token → List Token → Type 0 where
    empty_args : {k : List Token} → IsArgs no_trees k k
    some_args : {e : Tree} {es : Trees} {us vs k : List Token} → IsExpr e us vs → IsMoreExprs es vs k → IsArgs (tree_and e es) us k

  -- (',' expr)*
  pub data IsMoreExprs : Trees → List Token → List Token → Type 0 where
    no_expr : {k : List Token} → IsMoreExprs no_trees k k
    next_expr : {s : Span} {e : Tree} {es : Trees} {us vs k : List Token} → IsExpr e us vs → IsMoreExprs es vs k → IsMoreExprs (tree_and e es) (sign_comma s ∷ us) k

  -- The levels of operators: at 0 una, at l + 1 operands of level l with the operators of level l between them.
  -- or   = both ('||' both)*                     level 8
  -- both = cmp ('&&' cmp)*                       level 7
  -- cmp  = bor [('=='|'!='|'<'|'<='|'>'|'>=') bor]      level 6
  -- bor  = bxor ('|' bxor)*                      level 5
  -- bxor = band ('^' band)*                      level 4
  -- band = shift ('&' shift)*                    level 3
  -- shift = sum (('<<'|'>>'|'<<<') NUM)*         level 2
  -- sum  = una (('+'|'-') una)*                  level 1
  pub data IsLevel : ℕ → Tree → List Token → List Token → Type 0 where
    una : {e : Tree} {ts k : List Token} → IsUna e ts k → IsLevel zero e ts k
    chain : {l : ℕ} {a e : Tree} {ts us k : List Token} → IsLevel l a ts us → IsRest l a e us k → IsLevel (suc l) e ts k

  -- (operator operand)*, after the operand a; a comparison stands alone
  pub data IsRest : ℕ → Tree → Tree → List Token → List Token → Type 0 where
    no_operator : {l : ℕ} {a : Tree} {k : List Token} → IsRest l a a k k
    operator : {l : ℕ} {op : Op} {t : Token} {a b e : Tree} {us vs k : List Token} → t.sort ≡ Sign (sign_of op) → level_of op ≡ l → l ≢ 5 → IsLevel l b us vs → IsRest l (BinaryTree (to (span_of a) (span_of b)) op a b) e vs k → IsRest l a e (t ∷ us) k
    comparison : {op : Op} {t : Token} {a b : Tree} {us k : List Token} → t.sort ≡ Sign (sign_of op) → level_of op ≡ 5 → IsLevel 5 b us k → IsRest 5 a (BinaryTree (to (span_of a) (span_of b)) op a b) (t ∷ us) k
    shift : {op : ShiftOp} {t : Token} {u : Span} {n : ℕ} {a e : Tree} {us k : List Token} → t.sort ≡ Sign (shift_sign_of op) → IsRest 1 (ShiftTree (to (span_of a) u) op a n) e us k → IsRest 1 a e (t ∷ a_number u n ∷ us) k

  -- una = ('~'|'!') una | post
  pub data IsUna : Tree → List Token → List Token → Type 0 where
    invert : {s : Span} {e : Tree} {us k : List Token} → IsUna e us k → IsUna (InvertTree (to s (span_of e)) e) (sign_tilde s ∷ us) k
    negate : {s : Span} {e : Tree} {us k : List Token} → IsUna e us k → IsUna (NegateTree (to s (span_of e)) e) (sign_bang s ∷ us) k
    post : {a e : Tree} {ts us k : List Token} → IsAtom a ts us → IsDots a e us k → IsUna e ts k

  -- post = atom ('.' NAME)*      the part after the atom a
  pub data IsDots : Tree → Tree → List Token → List Token → Type 0 where
    no_dot : {a : Tree} {k : List Token} → IsDots a a k k
    dot : {s t : Span} {x : List ℕ} {a e : Tree} {us k : List Token} → IsDots (DotTree (to (span_of a) t) a x) e us k → IsDots a e (sign_dot s ∷ a_name t x ∷ us) k

  -- atom = NUM | 'true' | 'false' | NAME | NAME '[' args ']' | '(' ')' | '(' expr ')'
  --      | '(' expr (',' expr)+ ')' | '{' NAME '=' expr (',' NAME '=' expr)* '}'
  --      | ('unpack'|'pack') '[' NAME ']' '(' expr ')' | mem '[' NUM ']' '(' expr ')'
  pub data IsAtom : Tree → List Token → List Token → Type 0 where
    number : {s : Span} {n : ℕ} {k : List Token} → IsAtom (NumberTree s n) (a_number s n ∷ k) k
    truth : {s : Span} {k : List Token} → IsAtom (TruthTree s true) (key_true s ∷ k) k
    falsehood : {s : Span} {k : List Token} → IsAtom (TruthTree s false) (key_false s ∷ k) k
    variable : {s : Span} {x : List ℕ} {k : List Token} → IsAtom (VarTree s x) (a_name s x ∷ k) k
    call : {s t u : Span} {x : List ℕ} {es : Trees} {us k : List Token} → IsArgs es us (sign_close_bracket u ∷ k) → IsAtom (CallTree (to s u) x es) (a_name s x ∷ sign_open_bracket t ∷ us) k
    unit : {s t : Span} {k : List Token} → IsAtom (TupleTree (to s t) no_trees) (sign_open s ∷ sign_close t ∷ k) k
    paren : {s t : Span} {e : Tree} {us k : List Token} → IsExpr e us (sign_close t ∷ k) → IsAtom (ParenTree (to s t) e) (sign_open s ∷ us) k
    tuple : {s t : Span} {e f : Tree} {es : Trees} {us vs k : List Token} → IsExpr e us vs → IsMoreExprs (tree_and f es) vs (sign_close t ∷ k) → IsAtom (TupleTree (to s t) (tree_and e (tree_and f es))) (sign_open s ∷ us) k
    fields : {s t u v : Span} {x : List ℕ} {e : Tree} {es : NamedTrees} {us vs k : List Token} → IsExpr e us vs → IsMoreMembers es vs (sign_close_brace v ∷ k) → IsAtom (FieldsTree (to s v) (named_tree_and x e es)) (sign_open_brace s ∷ a_name t x ∷ sign_is u ∷ us) k
    unpack : {s t u v w y : Span} {x : List ℕ} {e : Tree} {us k : List Token} → IsExpr e us (sign_close y ∷ k) → IsAtom (UnpackTree (to s y) x e) (key_unpack s ∷ sign_open_bracket t ∷ a_name u x ∷ sign_close_bracket v ∷ sign_open w ∷ us) k
    pack : {s t u v w y : Span} {x : List ℕ} {e : Tree} {us k : List Token} → IsExpr e us (sign_close y ∷ k) → IsAtom (PackTree (to s y) x e) (key_pack s ∷ sign_open_bracket t ∷ a_name u x ∷ sign_close_bracket v ∷ sign_open w ∷ us) k
    fetch_sram : {s t u v w y : Span} {n : ℕ} {e : Tree} {us k : List Token} → IsExpr e us (sign_close y ∷ k) → IsAtom (FetchTree (to s y) Sram n e) (key_sram s ∷ sign_open_bracket t ∷ a_number u n ∷ sign_close_bracket v ∷ sign_open w ∷ us) k
    fetch_sdram : {s t u v w y : Span} {n : ℕ} {e : Tree} {us k : List Token} → IsExpr e us (sign_close y ∷ k) → IsAtom (FetchTree (to s y) Sdram n e) (key_sdram s ∷ sign_open_bracket t ∷ a_number u n ∷ sign_close_bracket v ∷ sign_open w ∷ us) k
    fetch_scratch : {s t u v w y : Span} {n : ℕ} {e : Tree} {us k : List Token} → IsExpr e us (sign_close y ∷ k) → IsAtom (FetchTree (to s y) Scratch n e) (key_scratch s ∷ sign_open_bracket t ∷ a_number u n ∷ sign_close_bracket v ∷ sign_open w ∷ us) k

  -- (',' NAME '=' expr)*
  pub data IsMoreMembers : NamedTrees → List Token → List Token → Type 0 where
    no_member : {k : List Token} → IsMoreMembers no_named_trees k k
    next_member : {s t u : Span} {x : List ℕ} {e : Tree} {es : NamedTrees} {us vs k : List Token} → IsExpr e us vs → IsMoreMembers es vs k → IsMoreMembers (named_tree_and x e es) (sign_comma s ∷ a_name t x ∷ sign_is u ∷ us) k

-- ---- declarations

-- f = NAME '[' params ']' ':' type '{' expr '}'
pub data IsFun : FunTree → List Token → List Token → Type 0 where
  function : {s t u v w y : Span} {x : List ℕ} {ps : NamedTypes} {r : TypeTree} {e : Tree} {us vs ws k : List Token} → IsParams ps us (sign_close_bracket u ∷ sign_colon v ∷ vs) → IsType r vs (sign_open_brace w ∷ ws) → IsExpr e ws (sign_close_brace y ∷ k) → IsFun (record { name = x; params = ps; result = r; body = e; span = to s y }) (a_name s x ∷ sign_open_bracket t ∷ us) k

-- ('and' f)*
pub data IsMoreFuns : List FunTree → List Token → List Token → Type 0 where
  no_fun : {k : List Token} → IsMoreFuns [] k k
  next_fun : {s : Span} {f : FunTree} {fs : List FunTree} {us vs k : List Token} → IsFun f us vs → IsMoreFuns fs vs k → IsMoreFuns (f ∷ fs) (key_and s ∷ us) k

-- decl = 'layout' NAME '=' layout ';' | 'exception' NAME '[' types ']' ';' | 'fun' f ('and' f)*
pub data IsDecl : DeclTree → List Token → List Token → Type 0 where
  layout_decl : {s t u v : Span} {x : List ℕ} {l : LayoutTree} {us k : List Token} → IsLayout l us (sign_semicolon v ∷ k) → IsDecl (LayoutDecl x l (to s v)) (key_layout s ∷ a_name t x ∷ sign_is u ∷ us) k
  exception_decl : {s t u v w : Span} {x : List ℕ} {bs : TypeTrees} {us k : List Token} → IsTypes bs us (sign_close_bracket v ∷ sign_semicolon w ∷ k) → IsDecl (ExceptionDecl x bs (to s w)) (key_exception s ∷ a_name t x ∷ sign_open_bracket u ∷ us) k
  group : {s : Span} {f : FunTree} {fs : List FunTree} {us vs k : List Token} → IsFun f us vs → IsMoreFuns fs vs k → IsDecl (GroupDecl (f ∷ fs)) (key_fun s ∷ us) k

-- program = decl*
pub data IsDecls : List DeclTree → List Token → List Token → Type 0 where
  no_decl : {k : List Token} → IsDecls [] k k
  next_decl : {d : DeclTree} {ds : List DeclTree} {ts us k : List Token} → IsDecl d ts us → IsDecls ds us k → IsDecls (d ∷ ds) ts k

-- the tokens of a text of N bytes are this program
pub record IsProgram (ts : List Token) (length : ℕ) (p : ProgramTree) : Type 0 where
  pub long : p.length ≡ length
  pub spelled : IsDecls p.decls ts []

-- A phrase reads the same whatever follows it.
use Rattle.std.proofs.Common.{◌≡◌, refl, sym, ◌∙◌, ap, subst, ℕ, suc, List, [], ◌∷◌, ◌++◌, append_assoc}
use Rattle.nv_base.specs.declared.term.Mem.TheVariants.{Sram, Sdram, Scratch}
use Rattle.nv_ast.specs.declared.token.Token.{Token}
use Rattle.nv_ast.specs.Tokens.{to, a_name, a_number}
use Rattle.nv_ast.specs.Tokens.{key_let, key_if, key_else, key_unpack, key_pack, key_raise, key_try, key_handle, key_sram, key_sdram, key_scratch, key_true, key_false, key_any}
use Rattle.nv_ast.specs.Tokens.{sign_tilde, sign_bang, sign_arrow, sign_is, sign_semicolon, sign_comma, sign_dot, sign_open, sign_close, sign_open_brace, sign_close_brace, sign_open_bracket, sign_close_bracket}
use Rattle.nv_ast.specs.Tree.{PatternTree, TuplePattern, PatternTrees, pattern_and}
use Rattle.nv_ast.specs.Tree.{Tree, ParenTree, TupleTree, FieldsTree, CallTree, UnpackTree, PackTree, RaiseTree, IfTree, TryTree, FetchTree, BlockTree, Trees, tree_and, NamedTrees, named_tree_and, StatementTree, LetStatement, StoreStatement, StatementTrees, statement_and, span_of, statement_span}
use Rattle.nv_ast.specs.Grammar.{IsPattern, IsMorePatterns, IsPatterns, IsExpr, IsStatements, IsStatement, IsTail, IsArgs, IsMoreExprs, IsLevel, IsRest, IsUna, IsDots, IsAtom, IsMoreMembers}
use Rattle.nv_ast.specs.Grammar.{name_pattern, any_pattern, unit_pattern, tuple_pattern, no_pattern, next_pattern, empty_patterns, some_patterns, tail_alone, block, no_statement, next_statement, let_statement, store_sram, store_sdram, store_scratch, if_else, raise, operators, try_handle, empty_args, some_args, no_expr, next_expr, una, chain, no_operator, operator, comparison, shift, invert, negate, post, no_dot, dot, number, truth, falsehood, variable, call, unit, paren, tuple, fields, unpack, pack, fetch_sram, fetch_sdram, fetch_scratch, no_member, next_member}

-- the tokens before k spell it, whatever stands in k's place
pub record Frame (R : List Token → List Token → Type 0) (ts k : List Token) : Type 0 where
  pub front : List Token
  pub split : ts ≡ front ++ k
  pub all : (z : List Token) → R (front ++ z) z

-- one part, some tokens, and what follows them
glue : (f g m k : List Token) {us vs : List Token} → us ≡ f ++ (m ++ vs) → vs ≡ g ++ k → us ≡ (f ++ (m ++ g)) ++ k
glue f g m k p q = p ∙ (ap (λ z. f ++ (m ++ z)) q ∙ (ap (λ z. f ++ z) (sym (append_assoc m g k)) ∙ sym (append_assoc f (m ++ g) k)))

glued : (f g m z : List Token) → (f ++ (m ++ g)) ++ z ≡ f ++ (m ++ (g ++ z))
glued f g m z = append_assoc f (m ++ g) z ∙ ap (λ y. f ++ y) (append_assoc m g z)

-- ---- patterns
mutual
  pub frame_pattern : {x : PatternTree} {ts k : List Token} → IsPattern x ts k → Frame (IsPattern x) ts k
  frame_pattern (name_pattern {s = s} {x = x} {k = k}) = record { front = a_name s x ∷ []; split = refl; all = λ new. name_pattern {s = s} {x = x} }
  frame_pattern (any_pattern {s = s} {k = k}) = record { front = key_any s ∷ []; split = refl; all = λ new. any_pattern {s = s} }
  frame_pattern (unit_pattern {s = s} {t = t} {k = k}) = record { front = sign_open s ∷ sign_close t ∷ []; split = refl; all = λ new. unit_pattern {s = s} {t = t} }
  frame_pattern (tuple_pattern {s = s} {t = t} {p = p} {q = q} {ps = ps} {us = us} {vs = vs} {k = k} d0 d1) =
      let h0 = frame_pattern d0 in
      let h1 = frame_more_patterns d1 in
      record { front = sign_open s ∷ (h0.front ++ ([] ++ (h1.front ++ ((sign_close t ∷ []) ++ [])))); split = ap (λ below. sign_open s ∷ below) (glue h0.front (h1.front ++ ((sign_close t ∷ []) ++ [])) [] k h0.split (glue h1.front [] (sign_close t ∷ []) k h1.split refl)); all = λ new. subst (λ below. IsPattern (TuplePattern (pattern_and p (pattern_and q ps))) (sign_open s ∷ below) new) (sym ((glued h0.front (h1.front ++ ((sign_close t ∷ []) ++ [])) [] new) ∙ ap (λ below. h0.front ++ ([] ++ below)) (glued h1.front [] (sign_close t ∷ []) new))) (tuple_pattern {s = s} {t = t} {p = p} {q = q} {ps = ps} (h0.all (h1.front ++ ((sign_close t ∷ []) ++ new))) (h1.all ((sign_close t ∷ []) ++ new))) }

  pub frame_more_patterns : {x : PatternTrees} {ts k : List Token} → IsMorePatterns x ts k → Frame (IsMorePatterns x) ts k
  frame_more_patterns (no_pattern {k = k}) = record { front = []; split = refl; all = λ new. no_pattern }
  frame_more_patterns (next_pattern {s = s} {p = p} {ps = ps} {us = us} {vs = vs} {k = k} d0 d1) =
      let h0 = frame_pattern d0 in
      let h1 = frame_more_patterns d1 in
      record { front = sign_comma s ∷ (h0.front ++ ([] ++ h1.front)); split = ap (λ below. sign_comma s ∷ below) (glue h0.front h1.front [] k h0.split h1.split); all = λ new. subst (λ below. IsMorePatterns (pattern_and p ps) (sign_comma s ∷ below) new) (sym (glued h0.front h1.front [] new)) (next_pattern {s = s} {p = p} {ps = ps} (h0.all (h1.front ++ new)) (h1.all new)) }

pub frame_patterns : {x : PatternTrees} {ts k : List Token} → IsPatterns x ts k → Frame (IsPatterns x) ts k
frame_patterns (empty_patterns {k = k}) = record { front = []; split = refl; all = λ new. empty_patterns }
frame_patterns (some_patterns {p = p} {ps = ps} {us = us} {vs = vs} {k = k} d0 d1) =
    let h0 = frame_pattern d0 in
    let h1 = frame_more_patterns d1 in
    record { front = (h0.front ++ ([] ++ h1.front)); split = (glue h0.front h1.front [] k h0.split h1.split); all = λ new. subst (λ below. IsPatterns (pattern_and p ps) (below) new) (sym (glued h0.front h1.front [] new)) (some_patterns {p = p} {ps = ps} (h0.all (h1.front ++ new)) (h1.all new)) }

-- ---- expressions
mutual
  pub frame_expr : {x : Tree} {ts k : List Token} → IsExpr x ts k → Frame (IsExpr x) ts k
  frame_expr (tail_alone {e = e} {ts = ts} {k = k} d0) =
      let h0 = frame_tail d0 in
      record { front = h0.front; split = h0.split; all = λ new. tail_alone {e = e} (h0.all new) }
  frame_expr (block {st = st} {sts = sts} {e = e} {ts = ts} {us = us} {k = k} d0 d1) =
      let h0 = frame_statements d0 in
      let h1 = frame_tail d1 in
      record { front = (h0.front ++ ([] ++ h1.front)); split = (glue h0.front h1.front [] k h0.split h1.split); all = λ new. subst (λ below. IsExpr (BlockTree (to (statement_span st) (span_of e)) (statement_and st sts) e) (below) new) (sym (glued h0.front h1.front [] new)) (block {st = st} {sts = sts} {e = e} (h0.all (h1.front ++ new)) (h1.all new)) }

  pub frame_statements : {x : StatementTrees} {ts k : List Token} → IsStatements x ts k → Frame (IsStatements x) ts k
  frame_statements (no_statement {k = k}) = record { front = []; split = refl; all = λ new. no_statement }
  frame_statements (next_statement {st = st} {sts = sts} {ts = ts} {us = us} {k = k} d0 d1) =
      let h0 = frame_statement d0 in
      let h1 = frame_statements d1 in
      record { front = (h0.front ++ ([] ++ h1.front)); split = (glue h0.front h1.front [] k h0.split h1.split); all = λ new. subst (λ below. IsStatements (statement_and st sts) (below) new) (sym (glued h0.front h1.front [] new)) (next_statement {st = st} {sts = sts} (h0.all (h1.front ++ new)) (h1.all new)) }

  pub frame_statement : {x : StatementTree} {ts k : List Token} → IsStatement x ts k → Frame (IsStatement x) ts k
  frame_statement (let_statement {s = s} {t = t} {u = u} {p = p} {e = e} {us = us} {vs = vs} {k = k} d0 d1) =
      let h0 = frame_pattern d0 in
      let h1 = frame_tail d1 in
      record { front = key_let s ∷ (h0.front ++ ((sign_is t ∷ []) ++ (h1.front ++ ((sign_semicolon u ∷ []) ++ [])))); split = ap (λ below. key_let s ∷ below) (glue h0.front (h1.front ++ ((sign_semicolon u ∷ []) ++ [])) (sign_is t ∷ []) k h0.split (glue h1.front [] (sign_semicolon u ∷ []) k h1.split refl)); all = λ new. subst (λ below. IsStatement (LetStatement (to s u) p e) (key_let s ∷ below) new) (sym ((glued h0.front (h1.front ++ ((sign_semicolon u ∷ []) ++ [])) (sign_is t ∷ []) new) ∙ ap (λ below. h0.front ++ ((sign_is t ∷ []) ++ below)) (glued h1.front [] (sign_semicolon u ∷ []) new))) (let_statement {s = s} {t = t} {u = u} {p = p} {e = e} (h0.all ((sign_is t ∷ []) ++ (h1.front ++ ((sign_semicolon u ∷ []) ++ new)))) (h1.all ((sign_semicolon u ∷ []) ++ new))) }
  frame_statement (store_sram {s = s} {t = t} {u = u} {v = v} {w = w} {a = a} {e = e} {us = us} {vs = vs} {k = k} d0 d1) =
      let h0 = frame_expr d0 in
      let h1 = frame_tail d1 in
      record { front = key_sram s ∷ sign_open t ∷ (h0.front ++ ((sign_close u ∷ sign_arrow v ∷ []) ++ (h1.front ++ ((sign_semicolon w ∷ []) ++ [])))); split = ap (λ below. key_sram s ∷ sign_open t ∷ below) (glue h0.front (h1.front ++ ((sign_semicolon w ∷ []) ++ [])) (sign_close u ∷ sign_arrow v ∷ []) k h0.split (glue h1.front [] (sign_semicolon w ∷ []) k h1.split refl)); all = λ new. subst (λ below. IsStatement (StoreStatement (to s w) Sram a e) (key_sram s ∷ sign_open t ∷ below) new) (sym ((glued h0.front (h1.front ++ ((sign_semicolon w ∷ []) ++ [])) (sign_close u ∷ sign_arrow v ∷ []) new) ∙ ap (λ below. h0.front ++ ((sign_close u ∷ sign_arrow v ∷ []) ++ below)) (glued h1.front [] (sign_semicolon w ∷ []) new))) (store_sram {s = s} {t = t} {u = u} {v = v} {w = w} {a = a} {e = e} (h0.all ((sign_close u ∷ sign_arrow v ∷ []) ++ (h1.front ++ ((sign_semicolon w ∷ []) ++ new)))) (h1.all ((sign_semicolon w ∷ []) ++ new))) }
  frame_statement (store_sdram {s = s} {t = t} {u = u} {v = v} {w = w} {a = a} {e = e} {us = us} {vs = vs} {k = k} d0 d1) =
      let h0 = frame_expr d0 in
      let h1 = frame_tail d1 in
      record { front = key_sdram s ∷ sign_open t ∷ (h0.front ++ ((sign_close u ∷ sign_arrow v ∷ []) ++ (h1.front ++ ((sign_semicolon w ∷ []) ++ [])))); split = ap (λ below. key_sdram s ∷ sign_open t ∷ below) (glue h0.front (h1.front ++ ((sign_semicolon w ∷ []) ++ [])) (sign_close u ∷ sign_arrow v ∷ []) k h0.split (glue h1.front [] (sign_semicolon w ∷ []) k h1.split refl)); all = λ new. subst (λ below. IsStatement (StoreStatement (to s w) Sdram a e) (key_sdram s ∷ sign_open t ∷ below) new) (sym ((glued h0.front (h1.front ++ ((sign_semicolon w ∷ []) ++ [])) (sign_close u ∷ sign_arrow v ∷ []) new) ∙ ap (λ below. h0.front ++ ((sign_close u ∷ sign_arrow v ∷ []) ++ below)) (glued h1.front [] (sign_semicolon w ∷ []) new))) (store_sdram {s = s} {t = t} {u = u} {v = v} {w = w} {a = a} {e = e} (h0.all ((sign_close u ∷ sign_arrow v ∷ []) ++ (h1.front ++ ((sign_semicolon w ∷ []) ++ new)))) (h1.all ((sign_semicolon w ∷ []) ++ new))) }
  frame_statement (store_scratch {s = s} {t = t} {u = u} {v = v} {w = w} {a = a} {e = e} {us = us} {vs = vs} {k = k} d0 d1) =
      let h0 = frame_expr d0 in
      let h1 = frame_tail d1 in
      record { front = key_scratch s ∷ sign_open t ∷ (h0.front ++ ((sign_close u ∷ sign_arrow v ∷ []) ++ (h1.front ++ ((sign_semicolon w ∷ []) ++ [])))); split = ap (λ below. key_scratch s ∷ sign_open t ∷ below) (glue h0.front (h1.front ++ ((sign_semicolon w ∷ []) ++ [])) (sign_close u ∷ sign_arrow v ∷ []) k h0.split (glue h1.front [] (sign_semicolon w ∷ []) k h1.split refl)); all = λ new. subst (λ below. IsStatement (StoreStatement (to s w) Scratch a e) (key_scratch s ∷ sign_open t ∷ below) new) (sym ((glued h0.front (h1.front ++ ((sign_semicolon w ∷ []) ++ [])) (sign_close u ∷ sign_arrow v ∷ []) new) ∙ ap (λ below. h0.front ++ ((sign_close u ∷ sign_arrow v ∷ []) ++ below)) (glued h1.front [] (sign_semicolon w ∷ []) new))) (store_scratch {s = s} {t = t} {u = u} {v = v} {w = w} {a = a} {e = e} (h0.all ((sign_close u ∷ sign_arrow v ∷ []) ++ (h1.front ++ ((sign_semicolon w ∷ []) ++ new)))) (h1.all ((sign_semicolon w ∷ []) ++ new))) }

  pub frame_tail : {x : Tree} {ts k : List Token} → IsTail x ts k → Frame (IsTail x) ts k
  frame_tail (if_else {s = s} {t = t} {u = u} {v = v} {c = c} {a = a} {b = b} {us = us} {vs = vs} {ws = ws} {k = k} d0 d1 d2) =
      let h0 = frame_expr d0 in
      let h1 = frame_expr d1 in
      let h2 = frame_expr d2 in
      record { front = key_if s ∷ sign_open t ∷ (h0.front ++ ((sign_close u ∷ []) ++ (h1.front ++ ((key_else v ∷ []) ++ h2.front)))); split = ap (λ below. key_if s ∷ sign_open t ∷ below) (glue h0.front (h1.front ++ ((key_else v ∷ []) ++ h2.front)) (sign_close u ∷ []) k h0.split (glue h1.front h2.front (key_else v ∷ []) k h1.split h2.split)); all = λ new. subst (λ below. IsTail (IfTree (to s (span_of b)) c a b) (key_if s ∷ sign_open t ∷ below) new) (sym ((glued h0.front (h1.front ++ ((key_else v ∷ []) ++ h2.front)) (sign_close u ∷ []) new) ∙ ap (λ below. h0.front ++ ((sign_close u ∷ []) ++ below)) (glued h1.front h2.front (key_else v ∷ []) new))) (if_else {s = s} {t = t} {u = u} {v = v} {c = c} {a = a} {b = b} (h0.all ((sign_close u ∷ []) ++ (h1.front ++ ((key_else v ∷ []) ++ (h2.front ++ new))))) (h1.all ((key_else v ∷ []) ++ (h2.front ++ new))) (h2.all new)) }
  frame_tail (raise {s = s} {t = t} {u = u} {v = v} {x = x} {es = es} {us = us} {k = k} d0) =
      let h0 = frame_args d0 in
      record { front = key_raise s ∷ a_name t x ∷ sign_open_bracket u ∷ (h0.front ++ ((sign_close_bracket v ∷ []) ++ [])); split = ap (λ below. key_raise s ∷ a_name t x ∷ sign_open_bracket u ∷ below) (glue h0.front [] (sign_close_bracket v ∷ []) k h0.split refl); all = λ new. subst (λ below. IsTail (RaiseTree (to s v) x es) (key_raise s ∷ a_name t x ∷ sign_open_bracket u ∷ below) new) (sym (glued h0.front [] (sign_close_bracket v ∷ []) new)) (raise {s = s} {t = t} {u = u} {v = v} {x = x} {es = es} (h0.all ((sign_close_bracket v ∷ []) ++ new))) }
  frame_tail (operators {e = e} {ts = ts} {k = k} d0) =
      let h0 = frame_level d0 in
      record { front = h0.front; split = h0.split; all = λ new. operators {e = e} (h0.all new) }
  frame_tail (try_handle {s = s} {t = t} {u = u} {v = v} {w = w} {y = y} {z = z} {i = i} {j = j} {x = x} {ps = ps} {a = a} {h = h} {us = us} {vs = vs} {ws = ws} {k = k} d0 d1 d2) =
      let h0 = frame_expr d0 in
      let h1 = frame_patterns d1 in
      let h2 = frame_expr d2 in
      record { front = key_try s ∷ sign_open_brace t ∷ (h0.front ++ ((sign_close_brace u ∷ key_handle v ∷ a_name w x ∷ sign_open_bracket y ∷ []) ++ (h1.front ++ ((sign_close_bracket z ∷ sign_open_brace i ∷ []) ++ (h2.front ++ ((sign_close_brace j ∷ []) ++ [])))))); split = ap (λ below. key_try s ∷ sign_open_brace t ∷ below) (glue h0.front (h1.front ++ ((sign_close_bracket z ∷ sign_open_brace i ∷ []) ++ (h2.front ++ ((sign_close_brace j ∷ []) ++ [])))) (sign_close_brace u ∷ key_handle v ∷ a_name w x ∷ sign_open_bracket y ∷ []) k h0.split (glue h1.front (h2.front ++ ((sign_close_brace j ∷ []) ++ [])) (sign_close_bracket z ∷ sign_open_brace i ∷ []) k h1.split (glue h2.front [] (sign_close_brace j ∷ []) k h2.split refl))); all = λ new. subst (λ below. IsTail (TryTree (to s j) a x ps h) (key_try s ∷ sign_open_brace t ∷ below) new) (sym ((glued h0.front (h1.front ++ ((sign_close_bracket z ∷ sign_open_brace i ∷ []) ++ (h2.front ++ ((sign_close_brace j ∷ []) ++ [])))) (sign_close_brace u ∷ key_handle v ∷ a_name w x ∷ sign_open_bracket y ∷ []) new) ∙ ap (λ below. h0.front ++ ((sign_close_brace u ∷ key_handle v ∷ a_name w x ∷ sign_open_bracket y ∷ []) ++ below)) ((glued h1.front (h2.front ++ ((sign_close_brace j ∷ []) ++ [])) (sign_close_bracket z ∷ sign_open_brace i ∷ []) new) ∙ ap (λ below. h1.front ++ ((sign_close_bracket z ∷ sign_open_brace i ∷ []) ++ below)) (glued h2.front [] (sign_close_brace j ∷ []) new)))) (try_handle {s = s} {t = t} {u = u} {v = v} {w = w} {y = y} {z = z} {i = i} {j = j} {x = x} {ps = ps} {a = a} {h = h} (h0.all ((sign_close_brace u ∷ key_handle v ∷ a_name w x ∷ sign_open_bracket y ∷ []) ++ (h1.front ++ ((sign_close_bracket z ∷ sign_open_brace i ∷ []) ++ (h2.front ++ ((sign_close_brace j ∷ []) ++ new)))))) (h1.all ((sign_close_bracket z ∷ sign_open_brace i ∷ []) ++ (h2.front ++ ((sign_close_brace j ∷ []) ++ new)))) (h2.all ((sign_close_brace j ∷ []) ++ new))) }

  pub frame_args : {x : Trees} {ts k : List Token} → IsArgs x ts k → Frame (IsArgs x) ts k
  frame_args (empty_args {k = k}) = record { front = []; split = refl; all = λ new. empty_args }
  frame_args (some_args {e = e} {es = es} {us = us} {vs = vs} {k = k} d0 d1) =
      let h0 = frame_expr d0 in
      let h1 = frame_more_exprs d1 in
      record { front = (h0.front ++ ([] ++ h1.front)); split = (glue h0.front h1.front [] k h0.split h1.split); all = λ new. subst (λ below. IsArgs (tree_and e es) (below) new) (sym (glued h0.front h1.front [] new)) (some_args {e = e} {es = es} (h0.all (h1.front ++ new)) (h1.all new)) }

  pub frame_more_exprs : {x : Trees} {ts k : List Token} → IsMoreExprs x ts k → Frame (IsMoreExprs x) ts k
  frame_more_exprs (no_expr {k = k}) = record { front = []; split = refl; all = λ new. no_expr }
  frame_more_exprs (next_expr {s = s} {e = e} {es = es} {us = us} {vs = vs} {k = k} d0 d1) =
      let h0 = frame_expr d0 in
      let h1 = frame_more_exprs d1 in
      record { front = sign_comma s ∷ (h0.front ++ ([] ++ h1.front)); split = ap (λ below. sign_comma s ∷ below) (glue h0.front h1.front [] k h0.split h1.split); all = λ new. subst (λ below. IsMoreExprs (tree_and e es) (sign_comma s ∷ below) new) (sym (glued h0.front h1.front [] new)) (next_expr {s = s} {e = e} {es = es} (h0.all (h1.front ++ new)) (h1.all new)) }

  pub frame_level : {l : ℕ} {x : Tree} {ts k : List Token} → IsLevel l x ts k → Frame (IsLevel l x) ts k
  frame_level (una {e = e} {ts = ts} {k = k} d0) =
      let h0 = frame_una d0 in
      record { front = h0.front; split = h0.split; all = λ new. una {e = e} (h0.all new) }
  frame_level (chain {l = l} {a = a} {e = e} {ts = ts} {us = us} {k = k} d0 d1) =
      let h0 = frame_level d0 in
      let h1 = frame_rest d1 in
      record { front = (h0.front ++ ([] ++ h1.front)); split = (glue h0.front h1.front [] k h0.split h1.split); all = λ new. subst (λ below. IsLevel (suc l) e (below) new) (sym (glued h0.front h1.front [] new)) (chain {l = l} {a = a} {e = e} (h0.all (h1.front ++ new)) (h1.all new)) }

  pub frame_rest : {l : ℕ} {a : Tree} {x : Tree} {ts k : List Token} → IsRest l a x ts k → Frame (IsRest l a x) ts k
  frame_rest (no_operator {l = l} {a = a} {k = k}) = record { front = []; split = refl; all = λ new. no_operator {l = l} {a = a} }
  frame_rest (operator {l = l} {op = op} {t = t} {a = a} {b = b} {e = e} {us = us} {vs = vs} {k = k} p0 p1 p2 d3 d4) =
      let h0 = frame_level d3 in
      let h1 = frame_rest d4 in
      record { front = t ∷ (h0.front ++ ([] ++ h1.front)); split = ap (λ below. t ∷ below) (glue h0.front h1.front [] k h0.split h1.split); all = λ new. subst (λ below. IsRest l a e (t ∷ below) new) (sym (glued h0.front h1.front [] new)) (operator {l = l} {op = op} {t = t} {a = a} {b = b} {e = e} p0 p1 p2 (h0.all (h1.front ++ new)) (h1.all new)) }
  frame_rest (comparison {op = op} {t = t} {a = a} {b = b} {us = us} {k = k} p0 p1 d2) =
      let h0 = frame_level d2 in
      record { front = t ∷ h0.front; split = ap (λ below. t ∷ below) h0.split; all = λ new. comparison {op = op} {t = t} {a = a} {b = b} p0 p1 (h0.all new) }
  frame_rest (shift {op = op} {t = t} {u = u} {n = n} {a = a} {e = e} {us = us} {k = k} p0 d1) =
      let h0 = frame_rest d1 in
      record { front = t ∷ a_number u n ∷ h0.front; split = ap (λ below. t ∷ a_number u n ∷ below) h0.split; all = λ new. shift {op = op} {t = t} {u = u} {n = n} {a = a} {e = e} p0 (h0.all new) }

  pub frame_una : {x : Tree} {ts k : List Token} → IsUna x ts k → Frame (IsUna x) ts k
  frame_una (invert {s = s} {e = e} {us = us} {k = k} d0) =
      let h0 = frame_una d0 in
      record { front = sign_tilde s ∷ h0.front; split = ap (λ below. sign_tilde s ∷ below) h0.split; all = λ new. invert {s = s} {e = e} (h0.all new) }
  frame_una (negate {s = s} {e = e} {us = us} {k = k} d0) =
      let h0 = frame_una d0 in
      record { front = sign_bang s ∷ h0.front; split = ap (λ below. sign_bang s ∷ below) h0.split; all = λ new. negate {s = s} {e = e} (h0.all new) }
  frame_una (post {a = a} {e = e} {ts = ts} {us = us} {k = k} d0 d1) =
      let h0 = frame_atom d0 in
      let h1 = frame_dots d1 in
      record { front = (h0.front ++ ([] ++ h1.front)); split = (glue h0.front h1.front [] k h0.split h1.split); all = λ new. subst (λ below. IsUna e (below) new) (sym (glued h0.front h1.front [] new)) (post {a = a} {e = e} (h0.all (h1.front ++ new)) (h1.all new)) }

  pub frame_dots : {a : Tree} {x : Tree} {ts k : List Token} → IsDots a x ts k → Frame (IsDots a x) ts k
  frame_dots (no_dot {a = a} {k = k}) = record { front = []; split = refl; all = λ new. no_dot {a = a} }
  frame_dots (dot {s = s} {t = t} {x = x} {a = a} {e = e} {us = us} {k = k} d0) =
      let h0 = frame_dots d0 in
      record { front = sign_dot s ∷ a_name t x ∷ h0.front; split = ap (λ below. sign_dot s ∷ a_name t x ∷ below) h0.split; all = λ new. dot {s = s} {t = t} {x = x} {a = a} {e = e} (h0.all new) }

  pub frame_atom : {x : Tree} {ts k : List Token} → IsAtom x ts k → Frame (IsAtom x) ts k
  frame_atom (number {s = s} {n = n} {k = k}) = record { front = a_number s n ∷ []; split = refl; all = λ new. number {s = s} {n = n} }
  frame_atom (truth {s = s} {k = k}) = record { front = key_true s ∷ []; split = refl; all = λ new. truth {s = s} }
  frame_atom (falsehood {s = s} {k = k}) = record { front = key_false s ∷ []; split = refl; all = λ new. falsehood {s = s} }
  frame_atom (variable {s = s} {x = x} {k = k}) = record { front = a_name s x ∷ []; split = refl; all = λ new. variable {s = s} {x = x} }
  frame_atom (call {s = s} {t = t} {u = u} {x = x} {es = es} {us = us} {k = k} d0) =
      let h0 = frame_args d0 in
      record { front = a_name s x ∷ sign_open_bracket t ∷ (h0.front ++ ((sign_close_bracket u ∷ []) ++ [])); split = ap (λ below. a_name s x ∷ sign_open_bracket t ∷ below) (glue h0.front [] (sign_close_bracket u ∷ []) k h0.split refl); all = λ new. subst (λ below. IsAtom (CallTree (to s u) x es) (a_name s x ∷ sign_open_bracket t ∷ below) new) (sym (glued h0.front [] (sign_close_bracket u ∷ []) new)) (call {s = s} {t = t} {u = u} {x = x} {es = es} (h0.all ((sign_close_bracket u ∷ []) ++ new))) }
  frame_atom (unit {s = s} {t = t} {k = k}) = record { front = sign_open s ∷ sign_close t ∷ []; split = refl; all = λ new. unit {s = s} {t = t} }
  frame_atom (paren {s = s} {t = t} {e = e} {us = us} {k = k} d0) =
      let h0 = frame_expr d0 in
      record { front = sign_open s ∷ (h0.front ++ ((sign_close t ∷ []) ++ [])); split = ap (λ below. sign_open s ∷ below) (glue h0.front [] (sign_close t ∷ []) k h0.split refl); all = λ new. subst (λ below. IsAtom (ParenTree (to s t) e) (sign_open s ∷ below) new) (sym (glued h0.front [] (sign_close t ∷ []) new)) (paren {s = s} {t = t} {e = e} (h0.all ((sign_close t ∷ []) ++ new))) }
  frame_atom (tuple {s = s} {t = t} {e = e} {f = f} {es = es} {us = us} {vs = vs} {k = k} d0 d1) =
      let h0 = frame_expr d0 in
      let h1 = frame_more_exprs d1 in
      record { front = sign_open s ∷ (h0.front ++ ([] ++ (h1.front ++ ((sign_close t ∷ []) ++ [])))); split = ap (λ below. sign_open s ∷ below) (glue h0.front (h1.front ++ ((sign_close t ∷ []) ++ [])) [] k h0.split (glue h1.front [] (sign_close t ∷ []) k h1.split refl)); all = λ new. subst (λ below. IsAtom (TupleTree (to s t) (tree_and e (tree_and f es))) (sign_open s ∷ below) new) (sym ((glued h0.front (h1.front ++ ((sign_close t ∷ []) ++ [])) [] new) ∙ ap (λ below. h0.front ++ ([] ++ below)) (glued h1.front [] (sign_close t ∷ []) new))) (tuple {s = s} {t = t} {e = e} {f = f} {es = es} (h0.all (h1.front ++ ((sign_close t ∷ []) ++ new))) (h1.all ((sign_close t ∷ []) ++ new))) }
  frame_atom (fields {s = s} {t = t} {u = u} {v = v} {x = x} {e = e} {es = es} {us = us} {vs = vs} {k = k} d0 d1) =
      let h0 = frame_expr d0 in
      let h1 = frame_more_members d1 in
      record { front = sign_open_brace s ∷ a_name t x ∷ sign_is u ∷ (h0.front ++ ([] ++ (h1.front ++ ((sign_close_brace v ∷ []) ++ [])))); split = ap (λ below. sign_open_brace s ∷ a_name t x ∷ sign_is u ∷ below) (glue h0.front (h1.front ++ ((sign_close_brace v ∷ []) ++ [])) [] k h0.split (glue h1.front [] (sign_close_brace v ∷ []) k h1.split refl)); all = λ new. subst (λ below. IsAtom (FieldsTree (to s v) (named_tree_and x e es)) (sign_open_brace s ∷ a_name t x ∷ sign_is u ∷ below) new) (sym ((glued h0.front (h1.front ++ ((sign_close_brace v ∷ []) ++ [])) [] new) ∙ ap (λ below. h0.front ++ ([] ++ below)) (glued h1.front [] (sign_close_brace v ∷ []) new))) (fields {s = s} {t = t} {u = u} {v = v} {x = x} {e = e} {es = es} (h0.all (h1.front ++ ((sign_close_brace v ∷ []) ++ new))) (h1.all ((sign_close_brace v ∷ []) ++ new))) }
  frame_atom (unpack {s = s} {t = t} {u = u} {v = v} {w = w} {y = y} {x = x} {e = e} {us = us} {k = k} d0) =
      let h0 = frame_expr d0 in
      record { front = key_unpack s ∷ sign_open_bracket t ∷ a_name u x ∷ sign_close_bracket v ∷ sign_open w ∷ (h0.front ++ ((sign_close y ∷ []) ++ [])); split = ap (λ below. key_unpack s ∷ sign_open_bracket t ∷ a_name u x ∷ sign_close_bracket v ∷ sign_open w ∷ below) (glue h0.front [] (sign_close y ∷ []) k h0.split refl); all = λ new. subst (λ below. IsAtom (UnpackTree (to s y) x e) (key_unpack s ∷ sign_open_bracket t ∷ a_name u x ∷ sign_close_bracket v ∷ sign_open w ∷ below) new) (sym (glued h0.front [] (sign_close y ∷ []) new)) (unpack {s = s} {t = t} {u = u} {v = v} {w = w} {y = y} {x = x} {e = e} (h0.all ((sign_close y ∷ []) ++ new))) }
  frame_atom (pack {s = s} {t = t} {u = u} {v = v} {w = w} {y = y} {x = x} {e = e} {us = us} {k = k} d0) =
      let h0 = frame_expr d0 in
      record { front = key_pack s ∷ sign_open_bracket t ∷ a_name u x ∷ sign_close_bracket v ∷ sign_open w ∷ (h0.front ++ ((sign_close y ∷ []) ++ [])); split = ap (λ below. key_pack s ∷ sign_open_bracket t ∷ a_name u x ∷ sign_close_bracket v ∷ sign_open w ∷ below) (glue h0.front [] (sign_close y ∷ []) k h0.split refl); all = λ new. subst (λ below. IsAtom (PackTree (to s y) x e) (key_pack s ∷ sign_open_bracket t ∷ a_name u x ∷ sign_close_bracket v ∷ sign_open w ∷ below) new) (sym (glued h0.front [] (sign_close y ∷ []) new)) (pack {s = s} {t = t} {u = u} {v = v} {w = w} {y = y} {x = x} {e = e} (h0.all ((sign_close y ∷ []) ++ new))) }
  frame_atom (fetch_sram {s = s} {t = t} {u = u} {v = v} {w = w} {y = y} {n = n} {e = e} {us = us} {k = k} d0) =
      let h0 = frame_expr d0 in
      record { front = key_sram s ∷ sign_open_bracket t ∷ a_number u n ∷ sign_close_bracket v ∷ sign_open w ∷ (h0.front ++ ((sign_close y ∷ []) ++ [])); split = ap (λ below. key_sram s ∷ sign_open_bracket t ∷ a_number u n ∷ sign_close_bracket v ∷ sign_open w ∷ below) (glue h0.front [] (sign_close y ∷ []) k h0.split refl); all = λ new. subst (λ below. IsAtom (FetchTree (to s y) Sram n e) (key_sram s ∷ sign_open_bracket t ∷ a_number u n ∷ sign_close_bracket v ∷ sign_open w ∷ below) new) (sym (glued h0.front [] (sign_close y ∷ []) new)) (fetch_sram {s = s} {t = t} {u = u} {v = v} {w = w} {y = y} {n = n} {e = e} (h0.all ((sign_close y ∷ []) ++ new))) }
  frame_atom (fetch_sdram {s = s} {t = t} {u = u} {v = v} {w = w} {y = y} {n = n} {e = e} {us = us} {k = k} d0) =
      let h0 = frame_expr d0 in
      record { front = key_sdram s ∷ sign_open_bracket t ∷ a_number u n ∷ sign_close_bracket v ∷ sign_open w ∷ (h0.front ++ ((sign_close y ∷ []) ++ [])); split = ap (λ below. key_sdram s ∷ sign_open_bracket t ∷ a_number u n ∷ sign_close_bracket v ∷ sign_open w ∷ below) (glue h0.front [] (sign_close y ∷ []) k h0.split refl); all = λ new. subst (λ below. IsAtom (FetchTree (to s y) Sdram n e) (key_sdram s ∷ sign_open_bracket t ∷ a_number u n ∷ sign_close_bracket v ∷ sign_open w ∷ below) new) (sym (glued h0.front [] (sign_close y ∷ []) new)) (fetch_sdram {s = s} {t = t} {u = u} {v = v} {w = w} {y = y} {n = n} {e = e} (h0.all ((sign_close y ∷ []) ++ new))) }
  frame_atom (fetch_scratch {s = s} {t = t} {u = u} {v = v} {w = w} {y = y} {n = n} {e = e} {us = us} {k = k} d0) =
      let h0 = frame_expr d0 in
      record { front = key_scratch s ∷ sign_open_bracket t ∷ a_number u n ∷ sign_close_bracket v ∷ sign_open w ∷ (h0.front ++ ((sign_close y ∷ []) ++ [])); split = ap (λ below. key_scratch s ∷ sign_open_bracket t ∷ a_number u n ∷ sign_close_bracket v ∷ sign_open w ∷ below) (glue h0.front [] (sign_close y ∷ []) k h0.split refl); all = λ new. subst (λ below. IsAtom (FetchTree (to s y) Scratch n e) (key_scratch s ∷ sign_open_bracket t ∷ a_number u n ∷ sign_close_bracket v ∷ sign_open w ∷ below) new) (sym (glued h0.front [] (sign_close y ∷ []) new)) (fetch_scratch {s = s} {t = t} {u = u} {v = v} {w = w} {y = y} {n = n} {e = e} (h0.all ((sign_close y ∷ []) ++ new))) }

  pub frame_more_members : {x : NamedTrees} {ts k : List Token} → IsMoreMembers x ts k → Frame (IsMoreMembers x) ts k
  frame_more_members (no_member {k = k}) = record { front = []; split = refl; all = λ new. no_member }
  frame_more_members (next_member {s = s} {t = t} {u = u} {x = x} {e = e} {es = es} {us = us} {vs = vs} {k = k} d0 d1) =
      let h0 = frame_expr d0 in
      let h1 = frame_more_members d1 in
      record { front = sign_comma s ∷ a_name t x ∷ sign_is u ∷ (h0.front ++ ([] ++ h1.front)); split = ap (λ below. sign_comma s ∷ a_name t x ∷ sign_is u ∷ below) (glue h0.front h1.front [] k h0.split h1.split); all = λ new. subst (λ below. IsMoreMembers (named_tree_and x e es) (sign_comma s ∷ a_name t x ∷ sign_is u ∷ below) new) (sym (glued h0.front h1.front [] new)) (next_member {s = s} {t = t} {u = u} {x = x} {e = e} {es = es} (h0.all (h1.front ++ new)) (h1.all new)) }

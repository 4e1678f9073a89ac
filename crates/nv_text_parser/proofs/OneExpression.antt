-- The tokens determine the tree: expressions and declarations.
use Rattle.std.proofs.Common.{◌≡◌, refl, sym, ◌∙◌, ap, subst, ℕ, ◌+◌, List, [], ◌∷◌, arith}
use Rattle.nv_ast.specs.declared.token.Token.{Token}
use Rattle.nv_ast.specs.Tokens.{to}
use Rattle.nv_ast.specs.Tokens.{key_else}
use Rattle.nv_ast.specs.Tokens.{sign_semicolon, sign_close, sign_open_brace, sign_close_brace, sign_close_bracket}
use Rattle.nv_ast.specs.Tree.{Tree, BinaryTree, ShiftTree, Trees, tree_and, NamedTrees, StatementTree, StatementTrees, span_of}
use Rattle.nv_ast.specs.Tree.{FunTree, DeclTree}
use Rattle.nv_ast.specs.Grammar.{IsType, IsPatterns, IsExpr, IsStatements, IsStatement, IsTail, IsArgs, IsMoreExprs, IsLevel, IsRest, IsUna, IsDots, IsAtom, IsMoreMembers, IsFun, IsMoreFuns, IsDecl, IsDecls}
use Rattle.nv_ast.specs.Grammar.{tail_alone, block, no_statement, next_statement, let_statement, store_sram, store_sdram, store_scratch, if_else, raise, operators, try_handle, empty_args, some_args, no_expr, next_expr, una, chain, no_operator, operator, comparison, shift, invert, negate, post, no_dot, dot, number, truth, falsehood, variable, call, unit, paren, tuple, fields, unpack, pack, fetch_sram, fetch_sdram, fetch_scratch, no_member, next_member, function, no_fun, next_fun, layout_decl, exception_decl, group, no_decl, next_decl}
use Rattle.nv_text_parser.proofs.Follow.{span_at, name_at, Above, above_weaken, no_start, rank_of, shift_rank, same_op, same_shift, no_shift, zero_one, rest_above, front_rest, close_starts_no_expr, tilde_no_atom, bang_no_atom, level_first, tail_no_statement, expr_first, close_no_comma, front_more_exprs, front_more_members, front_dots, decl_some, front_decls}
use Rattle.nv_text_parser.proofs.OneReading.{det_layout, det_type, det_types, det_params, det_pattern, det_patterns}

-- ---- expressions
mutual
  pub det_expr : {x y : Tree} {ts k k' : List Token} → IsExpr x ts k → IsExpr y ts k' → Above 9 k → Above 9 k' → (x ≡ y) × (k ≡ k')
  det_expr (tail_alone d0) (tail_alone e0) above above' = det_tail d0 e0 above above'
  det_expr (tail_alone d0) (block (next_statement e0 e1) e2) above above' = absurd (tail_no_statement d0 e0)
  det_expr (block (next_statement d0 d1) d2) (tail_alone e0) above above' = absurd (tail_no_statement e0 d0)
  det_expr (block {st = st} {sts = sts} {e = e} {ts = ts} {us = us} {k = k} d0 d1) (block {st = st'} {sts = sts'} {e = e'} {us = us'} {k = k'} e0 e1) above above' =
      let (h0, g0) = det_statements d0 d1 e0 e1 in
      let (h1, g1) = det_tail d1 (subst (λ z. IsTail e' z k') (sym g0) e1) above above' in
      let i : st ≡ st' = cc in
      let j : sts ≡ sts' = cc in
      (cc, g1)

  det_statements : {x y : StatementTrees} {e e' : Tree} {ts us us' k k' : List Token} → IsStatements x ts us → IsTail e us k → IsStatements y ts us' → IsTail e' us' k' → (x ≡ y) × (us ≡ us')
  det_statements no_statement d no_statement e = (refl, refl)
  det_statements no_statement d (next_statement e0 e1) e = absurd (tail_no_statement d e0)
  det_statements (next_statement d0 d1) d no_statement e = absurd (tail_no_statement e d0)
  det_statements (next_statement {st = st} {sts = sts} {us = us} {k = k} d0 d1) d (next_statement {st = st'} {sts = sts'} {us = us'} {k = k'} e0 e1) e =
      let (h0, g0) = det_statement d0 e0 in
      let (h1, g1) = det_statements d1 d (subst (λ z. IsStatements sts' z k') (sym g0) e1) e in
      (cc, g1)

  pub det_statement : {x y : StatementTree} {ts k k' : List Token} → IsStatement x ts k → IsStatement y ts k' → (x ≡ y) × (k ≡ k')
  det_statement (let_statement {s = s} {t = t} {u = u} {p = p} {e = e} {us = us} {vs = vs} {k = k} d0 d1) (let_statement {t = t'} {u = u'} {p = p'} {e = e'} {vs = vs'} {k = k'} e0 e1) =
      let (h0, g0) = det_pattern d0 e0 in
      let q1 : vs ≡ vs' = cc in
      let (h1, g1) = det_tail d1 (subst (λ z. IsTail e' z (sign_semicolon u' ∷ k')) (sym q1) e1) (omega arith) (omega arith) in
      let s10 : u ≡ u' = ap (span_at 0) g1 in
      (cc, cc)
  det_statement (store_sram {s = s} {t = t} {u = u} {v = v} {w = w} {a = a} {e = e} {us = us} {vs = vs} {k = k} d0 d1) (store_sram {u = u'} {v = v'} {w = w'} {a = a'} {e = e'} {vs = vs'} {k = k'} e0 e1) =
      let (h0, g0) = det_expr d0 e0 (omega arith) (omega arith) in
      let q1 : vs ≡ vs' = cc in
      let (h1, g1) = det_tail d1 (subst (λ z. IsTail e' z (sign_semicolon w' ∷ k')) (sym q1) e1) (omega arith) (omega arith) in
      let s10 : w ≡ w' = ap (span_at 0) g1 in
      (cc, cc)
  det_statement (store_sdram {s = s} {t = t} {u = u} {v = v} {w = w} {a = a} {e = e} {us = us} {vs = vs} {k = k} d0 d1) (store_sdram {u = u'} {v = v'} {w = w'} {a = a'} {e = e'} {vs = vs'} {k = k'} e0 e1) =
      let (h0, g0) = det_expr d0 e0 (omega arith) (omega arith) in
      let q1 : vs ≡ vs' = cc in
      let (h1, g1) = det_tail d1 (subst (λ z. IsTail e' z (sign_semicolon w' ∷ k')) (sym q1) e1) (omega arith) (omega arith) in
      let s10 : w ≡ w' = ap (span_at 0) g1 in
      (cc, cc)
  det_statement (store_scratch {s = s} {t = t} {u = u} {v = v} {w = w} {a = a} {e = e} {us = us} {vs = vs} {k = k} d0 d1) (store_scratch {u = u'} {v = v'} {w = w'} {a = a'} {e = e'} {vs = vs'} {k = k'} e0 e1) =
      let (h0, g0) = det_expr d0 e0 (omega arith) (omega arith) in
      let q1 : vs ≡ vs' = cc in
      let (h1, g1) = det_tail d1 (subst (λ z. IsTail e' z (sign_semicolon w' ∷ k')) (sym q1) e1) (omega arith) (omega arith) in
      let s10 : w ≡ w' = ap (span_at 0) g1 in
      (cc, cc)

  pub det_tail : {x y : Tree} {ts k k' : List Token} → IsTail x ts k → IsTail y ts k' → Above 9 k → Above 9 k' → (x ≡ y) × (k ≡ k')
  det_tail (if_else {s = s} {t = t} {u = u} {v = v} {c = c} {a = a} {b = b} {us = us} {vs = vs} {ws = ws} {k = k} d0 d1 d2) (if_else {u = u'} {v = v'} {c = c'} {a = a'} {b = b'} {vs = vs'} {ws = ws'} {k = k'} e0 e1 e2) above above' =
      let (h0, g0) = det_expr d0 e0 (omega arith) (omega arith) in
      let q1 : vs ≡ vs' = cc in
      let (h1, g1) = det_expr d1 (subst (λ z. IsExpr a' z (key_else v' ∷ ws')) (sym q1) e1) (omega arith) (omega arith) in
      let q2 : ws ≡ ws' = cc in
      let (h2, g2) = det_expr d2 (subst (λ z. IsExpr b' z k') (sym q2) e2) above above' in
      (cc, cc)
  det_tail (raise {s = s} {t = t} {u = u} {v = v} {x = x} {es = es} {us = us} {k = k} d0) (raise {v = v'} {es = es'} {k = k'} e0) above above' =
      let (h0, g0) = det_args d0 e0 (omega arith) (omega arith) in
      let s00 : v ≡ v' = ap (span_at 0) g0 in
      (cc, cc)
  det_tail (operators {e = e} {ts = ts} {k = k} d0) (operators {e = e'} {k = k'} e0) above above' =
      let (h0, g0) = det_level d0 e0 above above' in
      (cc, cc)
  det_tail (try_handle {s = s} {t = t} {u = u} {v = v} {w = w} {y = y} {z = z} {i = i} {j = j} {x = x} {ps = ps} {a = a} {h = h} {us = us} {vs = vs} {ws = ws} {k = k} d0 d1 d2) (try_handle {u = u'} {v = v'} {w = w'} {y = y'} {z = z'} {i = i'} {j = j'} {x = x'} {ps = ps'} {a = a'} {h = h'} {vs = vs'} {ws = ws'} {k = k'} e0 e1 e2) above above' =
      let (h0, g0) = det_expr d0 e0 (omega arith) (omega arith) in
      let n02 : x ≡ x' = ap (name_at 2) g0 in
      let q1 : vs ≡ vs' = cc in
      let (h1, g1) = det_patterns d1 (subst (λ z. IsPatterns ps' z (sign_close_bracket z' ∷ sign_open_brace i' ∷ ws')) (sym q1) e1) (omega arith) (omega arith) in
      let q2 : ws ≡ ws' = cc in
      let (h2, g2) = det_expr d2 (subst (λ z. IsExpr h' z (sign_close_brace j' ∷ k')) (sym q2) e2) (omega arith) (omega arith) in
      let s20 : j ≡ j' = ap (span_at 0) g2 in
      (cc, cc)
  det_tail (if_else d0 d1 d2) (operators e0) above above' = let h = level_first e0 in absurd (omega arith)
  det_tail (operators e0) (if_else d0 d1 d2) above above' = let h = level_first e0 in absurd (omega arith)
  det_tail (raise d0) (operators e0) above above' = let h = level_first e0 in absurd (omega arith)
  det_tail (operators e0) (raise d0) above above' = let h = level_first e0 in absurd (omega arith)
  det_tail (try_handle d0 d1 d2) (operators e0) above above' = let h = level_first e0 in absurd (omega arith)
  det_tail (operators e0) (try_handle d0 d1 d2) above above' = let h = level_first e0 in absurd (omega arith)

  pub det_args : {x y : Trees} {ts k k' : List Token} → IsArgs x ts k → IsArgs y ts k' → Above 12 k → Above 12 k' → (x ≡ y) × (k ≡ k')
  det_args (empty_args {k = k}) (empty_args) above above' = (refl, refl)
  det_args (some_args {e = e} {es = es} {us = us} {vs = vs} {k = k} d0 d1) (some_args {e = e'} {es = es'} {vs = vs'} {k = k'} e0 e1) above above' =
      let (h0, g0) = det_expr d0 e0 (front_more_exprs d1 (above_weaken 10 12 _ above (omega arith))) (front_more_exprs e1 (above_weaken 10 12 _ above' (omega arith))) in
      let q1 : vs ≡ vs' = cc in
      let (h1, g1) = det_more_exprs d1 (subst (λ z. IsMoreExprs es' z k') (sym q1) e1) (above_weaken 10 12 _ above (omega arith)) (above_weaken 10 12 _ above' (omega arith)) in
      (cc, cc)
  det_args (empty_args {k = k}) (some_args e0 e1) above above' = absurd (no_start k (expr_first e0) above)
  det_args (some_args d0 d1) (empty_args {k = k}) above above' = absurd (no_start k (expr_first d0) above')

  pub det_more_exprs : {x y : Trees} {ts k k' : List Token} → IsMoreExprs x ts k → IsMoreExprs y ts k' → Above 10 k → Above 10 k' → (x ≡ y) × (k ≡ k')
  det_more_exprs (no_expr {k = k}) (no_expr) above above' = (refl, refl)
  det_more_exprs (next_expr {s = s} {e = e} {es = es} {us = us} {vs = vs} {k = k} d0 d1) (next_expr {e = e'} {es = es'} {vs = vs'} {k = k'} e0 e1) above above' =
      let (h0, g0) = det_expr d0 e0 (front_more_exprs d1 above) (front_more_exprs e1 above') in
      let q1 : vs ≡ vs' = cc in
      let (h1, g1) = det_more_exprs d1 (subst (λ z. IsMoreExprs es' z k') (sym q1) e1) above above' in
      (cc, cc)
  det_more_exprs no_expr (next_expr d0 d1) above above' = absurd (omega arith)
  det_more_exprs (next_expr d0 d1) no_expr above above' = absurd (omega arith)

  pub det_level : {l : ℕ} {x y : Tree} {ts k k' : List Token} → IsLevel l x ts k → IsLevel l y ts k' → Above (l + 1) k → Above (l + 1) k' → (x ≡ y) × (k ≡ k')
  det_level (una d0) (una e0) above above' = det_una d0 e0 (rw zero_one at above) (rw zero_one at above')
  det_level (chain {l = l} {a = a} {e = e} {us = us} {k = k} d0 d1) (chain {a = a'} {e = e'} {us = us'} {k = k'} e0 e1) above above' =
      let f = rest_above l k above in
      let f' = rest_above l k' above' in
      let (h0, g0) = det_level d0 e0 (front_rest d1 f) (front_rest e1 f') in
      det_rest d1 (subst (λ z. IsRest l z e' us k') (sym h0) (subst (λ z. IsRest l a' e' z k') (sym g0) e1)) f f'

  pub det_rest : {l : ℕ} {a x y : Tree} {ts k k' : List Token} → IsRest l a x ts k → IsRest l a y ts k' → Above (l + 2) k → Above (l + 2) k' → (x ≡ y) × (k ≡ k')
  det_rest no_operator no_operator above above' = (refl, refl)
  det_rest no_operator (operator {op = op} {t = t} p q n e0 e1) above above' = let h = rank_of t op p in absurd (omega arith)
  det_rest no_operator (comparison {op = op} {t = t} p q e0) above above' = let h = rank_of t op p in absurd (omega arith)
  det_rest no_operator (shift {op = op} {t = t} p e0) above above' = let h = shift_rank t op p in absurd (omega arith)
  det_rest (operator {op = op} {t = t} p q n d0 d1) no_operator above above' = let h = rank_of t op p in absurd (omega arith)
  det_rest (comparison {op = op} {t = t} p q d0) no_operator above above' = let h = rank_of t op p in absurd (omega arith)
  det_rest (shift {op = op} {t = t} p d0) no_operator above above' = let h = shift_rank t op p in absurd (omega arith)
  det_rest (operator {l = l} {op = op} {t = t} {a = a} {b = b} {vs = vs} p q n d0 d1) (operator {op = op'} {b = b'} {e = e'} {vs = vs'} {k = k'} p' q' n' e0 e1) above above' =
      let o = same_op t op op' p p' in
      let (h0, g0) = det_level d0 e0 (front_rest d1 above) (front_rest e1 above') in
      let i : BinaryTree (to (span_of a) (span_of b)) op a b ≡ BinaryTree (to (span_of a) (span_of b')) op' a b' = ap (λ z. BinaryTree (to (span_of a) (span_of z)) op a z) h0 ∙ ap (λ z. BinaryTree (to (span_of a) (span_of b')) z a b') o in
      det_rest d1 (subst (λ z. IsRest l z e' vs k') (sym i) (subst (λ z. IsRest l (BinaryTree (to (span_of a) (span_of b')) op' a b') e' z k') (sym g0) e1)) above above'
  det_rest (operator p q n d0 d1) (comparison p' q' e0) above above' = absurd (n refl)
  det_rest (operator {op = op} {t = t} p q n d0 d1) (shift {op = op'} p' e0) above above' = absurd (no_shift t op op' p p')
  det_rest (comparison p q d0) (operator p' q' n e0 e1) above above' = absurd (n refl)
  det_rest (comparison {op = op} {t = t} {a = a} {b = b} {k = k} p q d0) (comparison {op = op'} {b = b'} {k = k'} p' q' e0) above above' =
      let o = same_op t op op' p p' in
      let (h0, g0) = det_level d0 e0 (above_weaken 6 7 k above (omega arith)) (above_weaken 6 7 k' above' (omega arith)) in
      (ap (λ z. BinaryTree (to (span_of a) (span_of z)) op a z) h0 ∙ ap (λ z. BinaryTree (to (span_of a) (span_of b')) z a b') o, g0)
  det_rest (shift {op = op} {t = t} p d0) (operator {op = op'} p' q' n e0 e1) above above' = absurd (no_shift t op' op p' p)
  det_rest (shift {op = op} {t = t} {u = u} {n = n} {a = a} {us = us} p d0) (shift {op = op'} {e = e'} {k = k'} p' e0) above above' =
      let o = same_shift t op op' p p' in
      det_rest d0 (subst (λ z. IsRest 1 (ShiftTree (to (span_of a) u) z a n) e' us k') (sym o) e0) above above'

  pub det_una : {x y : Tree} {ts k k' : List Token} → IsUna x ts k → IsUna y ts k' → Above 1 k → Above 1 k' → (x ≡ y) × (k ≡ k')
  det_una (invert {s = s} {e = e} {us = us} {k = k} d0) (invert {e = e'} {k = k'} e0) above above' =
      let (h0, g0) = det_una d0 e0 above above' in
      (cc, cc)
  det_una (negate {s = s} {e = e} {us = us} {k = k} d0) (negate {e = e'} {k = k'} e0) above above' =
      let (h0, g0) = det_una d0 e0 above above' in
      (cc, cc)
  det_una (post {a = a} {us = us} d0 d1) (post {a = a'} {e = e'} {us = us'} {k = k'} e0 e1) above above' =
      let (h0, g0) = det_atom d0 e0 (front_dots d1 above) (front_dots e1 above') in
      det_dots d1 (subst (λ z. IsDots z e' us k') (sym h0) (subst (λ z. IsDots a' e' z k') (sym g0) e1)) above above'
  det_una (invert d0) (post e0 e1) above above' = absurd (tilde_no_atom e0)
  det_una (post d0 d1) (invert e0) above above' = absurd (tilde_no_atom d0)
  det_una (negate d0) (post e0 e1) above above' = absurd (bang_no_atom e0)
  det_una (post d0 d1) (negate e0) above above' = absurd (bang_no_atom d0)

  pub det_dots : {a x y : Tree} {ts k k' : List Token} → IsDots a x ts k → IsDots a y ts k' → Above 1 k → Above 1 k' → (x ≡ y) × (k ≡ k')
  det_dots (no_dot {a = a} {k = k}) (no_dot) above above' = (refl, refl)
  det_dots (dot {s = s} {t = t} {x = x} {a = a} {e = e} {us = us} {k = k} d0) (dot {e = e'} {k = k'} e0) above above' =
      let (h0, g0) = det_dots d0 e0 above above' in
      (cc, cc)
  det_dots no_dot (dot e0) above above' = absurd (omega arith)
  det_dots (dot d0) no_dot above above' = absurd (omega arith)

  pub det_atom : {x y : Tree} {ts k k' : List Token} → IsAtom x ts k → IsAtom y ts k' → Above 0 k → Above 0 k' → (x ≡ y) × (k ≡ k')
  det_atom (number {s = s} {n = n} {k = k}) (number) above above' = (refl, refl)
  det_atom (truth {s = s} {k = k}) (truth) above above' = (refl, refl)
  det_atom (falsehood {s = s} {k = k}) (falsehood) above above' = (refl, refl)
  det_atom (variable {s = s} {x = x} {k = k}) (variable) above above' = (refl, refl)
  det_atom (call {s = s} {t = t} {u = u} {x = x} {es = es} {us = us} {k = k} d0) (call {u = u'} {es = es'} {k = k'} e0) above above' =
      let (h0, g0) = det_args d0 e0 (omega arith) (omega arith) in
      let s00 : u ≡ u' = ap (span_at 0) g0 in
      (cc, cc)
  det_atom (unit {s = s} {t = t} {k = k}) (unit) above above' = (refl, refl)
  det_atom (paren {s = s} {t = t} {e = e} {us = us} {k = k} d0) (paren {t = t'} {e = e'} {k = k'} e0) above above' =
      let (h0, g0) = det_expr d0 e0 (omega arith) (omega arith) in
      let s00 : t ≡ t' = ap (span_at 0) g0 in
      (cc, cc)
  det_atom (tuple {s = s} {t = t} {e = e} {f = f} {es = es} {us = us} {vs = vs} {k = k} d0 d1) (tuple {t = t'} {e = e'} {f = f'} {es = es'} {vs = vs'} {k = k'} e0 e1) above above' =
      let (h0, g0) = det_expr d0 e0 (front_more_exprs d1 (omega arith)) (front_more_exprs e1 (omega arith)) in
      let q1 : vs ≡ vs' = cc in
      let (h1, g1) = det_more_exprs d1 (subst (λ z. IsMoreExprs (tree_and f' es') z (sign_close t' ∷ k')) (sym q1) e1) (omega arith) (omega arith) in
      let s10 : t ≡ t' = ap (span_at 0) g1 in
      (cc, cc)
  det_atom (fields {s = s} {t = t} {u = u} {v = v} {x = x} {e = e} {es = es} {us = us} {vs = vs} {k = k} d0 d1) (fields {v = v'} {e = e'} {es = es'} {vs = vs'} {k = k'} e0 e1) above above' =
      let (h0, g0) = det_expr d0 e0 (front_more_members d1 (omega arith)) (front_more_members e1 (omega arith)) in
      let q1 : vs ≡ vs' = cc in
      let (h1, g1) = det_more_members d1 (subst (λ z. IsMoreMembers es' z (sign_close_brace v' ∷ k')) (sym q1) e1) (omega arith) (omega arith) in
      let s10 : v ≡ v' = ap (span_at 0) g1 in
      (cc, cc)
  det_atom (unpack {s = s} {t = t} {u = u} {v = v} {w = w} {y = y} {x = x} {e = e} {us = us} {k = k} d0) (unpack {y = y'} {e = e'} {k = k'} e0) above above' =
      let (h0, g0) = det_expr d0 e0 (omega arith) (omega arith) in
      let s00 : y ≡ y' = ap (span_at 0) g0 in
      (cc, cc)
  det_atom (pack {s = s} {t = t} {u = u} {v = v} {w = w} {y = y} {x = x} {e = e} {us = us} {k = k} d0) (pack {y = y'} {e = e'} {k = k'} e0) above above' =
      let (h0, g0) = det_expr d0 e0 (omega arith) (omega arith) in
      let s00 : y ≡ y' = ap (span_at 0) g0 in
      (cc, cc)
  det_atom (fetch_sram {s = s} {t = t} {u = u} {v = v} {w = w} {y = y} {n = n} {e = e} {us = us} {k = k} d0) (fetch_sram {y = y'} {e = e'} {k = k'} e0) above above' =
      let (h0, g0) = det_expr d0 e0 (omega arith) (omega arith) in
      let s00 : y ≡ y' = ap (span_at 0) g0 in
      (cc, cc)
  det_atom (fetch_sdram {s = s} {t = t} {u = u} {v = v} {w = w} {y = y} {n = n} {e = e} {us = us} {k = k} d0) (fetch_sdram {y = y'} {e = e'} {k = k'} e0) above above' =
      let (h0, g0) = det_expr d0 e0 (omega arith) (omega arith) in
      let s00 : y ≡ y' = ap (span_at 0) g0 in
      (cc, cc)
  det_atom (fetch_scratch {s = s} {t = t} {u = u} {v = v} {w = w} {y = y} {n = n} {e = e} {us = us} {k = k} d0) (fetch_scratch {y = y'} {e = e'} {k = k'} e0) above above' =
      let (h0, g0) = det_expr d0 e0 (omega arith) (omega arith) in
      let s00 : y ≡ y' = ap (span_at 0) g0 in
      (cc, cc)
  det_atom variable (call e0) above above' = absurd (omega arith)
  det_atom (call d0) variable above above' = absurd (omega arith)
  det_atom unit (paren e0) above above' = absurd (close_starts_no_expr e0)
  det_atom (paren d0) unit above above' = absurd (close_starts_no_expr d0)
  det_atom unit (tuple e0 e1) above above' = absurd (close_starts_no_expr e0)
  det_atom (tuple d0 d1) unit above above' = absurd (close_starts_no_expr d0)
  det_atom (paren {t = t} {k = k} d0) (tuple e0 e1) above above' = let (h, g) = det_expr d0 e0 (omega arith) (front_more_exprs e1 (omega arith)) in absurd (close_no_comma t k e1 g)
  det_atom (tuple d0 d1) (paren {t = t'} {k = k'} e0) above above' = let (h, g) = det_expr d0 e0 (front_more_exprs d1 (omega arith)) (omega arith) in absurd (close_no_comma t' k' d1 (sym g))

  pub det_more_members : {x y : NamedTrees} {ts k k' : List Token} → IsMoreMembers x ts k → IsMoreMembers y ts k' → Above 10 k → Above 10 k' → (x ≡ y) × (k ≡ k')
  det_more_members (no_member {k = k}) (no_member) above above' = (refl, refl)
  det_more_members (next_member {s = s} {t = t} {u = u} {x = x} {e = e} {es = es} {us = us} {vs = vs} {k = k} d0 d1) (next_member {e = e'} {es = es'} {vs = vs'} {k = k'} e0 e1) above above' =
      let (h0, g0) = det_expr d0 e0 (front_more_members d1 above) (front_more_members e1 above') in
      let q1 : vs ≡ vs' = cc in
      let (h1, g1) = det_more_members d1 (subst (λ z. IsMoreMembers es' z k') (sym q1) e1) above above' in
      (cc, cc)
  det_more_members no_member (next_member d0 d1) above above' = absurd (omega arith)
  det_more_members (next_member d0 d1) no_member above above' = absurd (omega arith)

-- ---- declarations
pub det_fun : {x y : FunTree} {ts k k' : List Token} → IsFun x ts k → IsFun y ts k' → (x ≡ y) × (k ≡ k')
det_fun (function {s = s} {t = t} {u = u} {v = v} {w = w} {y = y} {x = x} {ps = ps} {r = r} {e = e} {us = us} {vs = vs} {ws = ws} {k = k} d0 d1 d2) (function {u = u'} {v = v'} {w = w'} {y = y'} {ps = ps'} {r = r'} {e = e'} {vs = vs'} {ws = ws'} {k = k'} e0 e1 e2) =
    let (h0, g0) = det_params d0 e0 (omega arith) (omega arith) in
    let q1 : vs ≡ vs' = cc in
    let (h1, g1) = det_type d1 (subst (λ z. IsType r' z (sign_open_brace w' ∷ ws')) (sym q1) e1) (omega arith) (omega arith) in
    let q2 : ws ≡ ws' = cc in
    let (h2, g2) = det_expr d2 (subst (λ z. IsExpr e' z (sign_close_brace y' ∷ k')) (sym q2) e2) (omega arith) (omega arith) in
    let s20 : y ≡ y' = ap (span_at 0) g2 in
    (cc, cc)

pub det_more_funs : {x y : List FunTree} {ts k k' : List Token} → IsMoreFuns x ts k → IsMoreFuns y ts k' → Above 0 k → Above 0 k' → (x ≡ y) × (k ≡ k')
det_more_funs (no_fun {k = k}) (no_fun) above above' = (refl, refl)
det_more_funs (next_fun {s = s} {f = f} {fs = fs} {us = us} {vs = vs} {k = k} d0 d1) (next_fun {f = f'} {fs = fs'} {vs = vs'} {k = k'} e0 e1) above above' =
    let (h0, g0) = det_fun d0 e0 in
    let q1 : vs ≡ vs' = cc in
    let (h1, g1) = det_more_funs d1 (subst (λ z. IsMoreFuns fs' z k') (sym q1) e1) above above' in
    (cc, cc)
det_more_funs no_fun (next_fun d0 d1) above above' = absurd (omega arith)
det_more_funs (next_fun d0 d1) no_fun above above' = absurd (omega arith)

pub det_decl : {x y : DeclTree} {ts k k' : List Token} → IsDecl x ts k → IsDecl y ts k' → Above 0 k → Above 0 k' → (x ≡ y) × (k ≡ k')
det_decl (layout_decl {s = s} {t = t} {u = u} {v = v} {x = x} {l = l} {us = us} {k = k} d0) (layout_decl {v = v'} {l = l'} {k = k'} e0) above above' =
    let (h0, g0) = det_layout d0 e0 (omega arith) (omega arith) in
    let s00 : v ≡ v' = ap (span_at 0) g0 in
    (cc, cc)
det_decl (exception_decl {s = s} {t = t} {u = u} {v = v} {w = w} {x = x} {bs = bs} {us = us} {k = k} d0) (exception_decl {v = v'} {w = w'} {bs = bs'} {k = k'} e0) above above' =
    let (h0, g0) = det_types d0 e0 (omega arith) (omega arith) in
    let s01 : w ≡ w' = ap (span_at 1) g0 in
    (cc, cc)
det_decl (group {s = s} {f = f} {fs = fs} {us = us} {vs = vs} {k = k} d0 d1) (group {f = f'} {fs = fs'} {vs = vs'} {k = k'} e0 e1) above above' =
    let (h0, g0) = det_fun d0 e0 in
    let q1 : vs ≡ vs' = cc in
    let (h1, g1) = det_more_funs d1 (subst (λ z. IsMoreFuns fs' z k') (sym q1) e1) above above' in
    (cc, cc)

-- a program's tokens have one list of declarations
pub det_decls : {ds es : List DeclTree} {ts : List Token} → IsDecls ds ts [] → IsDecls es ts [] → ds ≡ es
det_decls no_decl no_decl = refl
det_decls no_decl (next_decl e0 e1) = absurd (decl_some e0)
det_decls (next_decl d0 d1) no_decl = absurd (decl_some d0)
det_decls (next_decl {ds = ds} d0 d1) (next_decl {d = d'} {ds = ds'} e0 e1) =
    let (h, g) = det_decl d0 e0 (front_decls d1) (front_decls e1) in
    let i = det_decls d1 (subst (λ z. IsDecls ds' z []) (sym g) e1) in
    ap (λ z. z ∷ ds) h ∙ ap (λ z. d' ∷ z) i

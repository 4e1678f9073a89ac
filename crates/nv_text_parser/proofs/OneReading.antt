-- The tokens determine the tree: layouts, types and patterns.
use Rattle.std.proofs.Common.{◌≡◌, refl, sym, subst, List, ◌∷◌, arith}
use Rattle.nv_ast.specs.declared.token.Token.{Token}
use Rattle.nv_ast.specs.Tokens.{sign_close, sign_close_brace}
use Rattle.nv_ast.specs.Tree.{LayoutTree, LayoutTrees, layout_and, FieldTree, FieldTrees, field_and}
use Rattle.nv_ast.specs.Tree.{TypeTree, TypeTrees, type_and, NamedTypes}
use Rattle.nv_ast.specs.Tree.{PatternTree, PatternTrees, pattern_and}
use Rattle.nv_ast.specs.Grammar.{IsLayout, IsMoreLayouts, IsLayoutAtom, IsMoreFields, IsField, IsAlternative, IsMoreAlternatives, IsType, IsMoreTypes, IsMoreNamedTypes, IsTypes, IsParams, IsPattern, IsMorePatterns, IsPatterns}
use Rattle.nv_ast.specs.Grammar.{one_layout, joined_layouts, no_layout, next_layout, named_layout, gap_layout, parts_layout, no_field, next_field, plain_field, overlay_field, bits_field, inner_field, no_alternative, next_alternative, word_type, words_type, bool_type, packed_type, unpacked_type, unit_type, tuple_type, record_type, no_type, next_type, no_named_type, next_named_type, empty_types, some_types, empty_params, some_params, name_pattern, any_pattern, unit_pattern, tuple_pattern, no_pattern, next_pattern, empty_patterns, some_patterns}
use Rattle.nv_text_parser.proofs.Follow.{Above, above_weaken, no_start, joins, number_no_layout, overlay_no_alternative, close_starts_no_type, close_starts_no_pattern, type_first, pattern_first, front_more_fields, front_more_alternatives, front_more_types, front_more_named_types}

-- ---- layouts
mutual
  pub det_layout : {x y : LayoutTree} {ts k k' : List Token} → IsLayout x ts k → IsLayout y ts k' → Above 0 k → Above 0 k' → (x ≡ y) × (k ≡ k')
  det_layout (one_layout {l = l} {ts = ts} {k = k} d0) (one_layout {l = l'} {k = k'} e0) above above' =
      let (h0, g0) = det_layout_atom d0 e0 in
      (cc, cc)
  det_layout (joined_layouts {l = l} {m = m} {ls = ls} {ts = ts} {us = us} {k = k} d0 d1) (joined_layouts {l = l'} {m = m'} {ls = ls'} {us = us'} {k = k'} e0 e1) above above' =
      let (h0, g0) = det_layout_atom d0 e0 in
      let q1 : us ≡ us' = cc in
      let (h1, g1) = det_more_layouts d1 (subst (λ z. IsMoreLayouts (layout_and m' ls') z k') (sym q1) e1) above above' in
      (cc, cc)
  det_layout (one_layout {k = k} d0) (joined_layouts e0 e1) above above' = let (h, g) = det_layout_atom d0 e0 in absurd (joins e1 k (sym g) above)
  det_layout (joined_layouts d0 d1) (one_layout {k = k'} e0) above above' = let (h, g) = det_layout_atom d0 e0 in absurd (joins d1 k' g above')

  pub det_more_layouts : {x y : LayoutTrees} {ts k k' : List Token} → IsMoreLayouts x ts k → IsMoreLayouts y ts k' → Above 0 k → Above 0 k' → (x ≡ y) × (k ≡ k')
  det_more_layouts (no_layout {k = k}) (no_layout) above above' = (refl, refl)
  det_more_layouts (next_layout {s = s} {l = l} {ls = ls} {us = us} {vs = vs} {k = k} d0 d1) (next_layout {l = l'} {ls = ls'} {vs = vs'} {k = k'} e0 e1) above above' =
      let (h0, g0) = det_layout_atom d0 e0 in
      let q1 : vs ≡ vs' = cc in
      let (h1, g1) = det_more_layouts d1 (subst (λ z. IsMoreLayouts ls' z k') (sym q1) e1) above above' in
      (cc, cc)
  det_more_layouts no_layout (next_layout d0 d1) above above' = absurd (omega arith)
  det_more_layouts (next_layout d0 d1) no_layout above above' = absurd (omega arith)

  pub det_layout_atom : {x y : LayoutTree} {ts k k' : List Token} → IsLayoutAtom x ts k → IsLayoutAtom y ts k' → (x ≡ y) × (k ≡ k')
  det_layout_atom (named_layout {s = s} {x = x} {k = k}) (named_layout) = (refl, refl)
  det_layout_atom (gap_layout {s = s} {t = t} {u = u} {n = n} {k = k}) (gap_layout) = (refl, refl)
  det_layout_atom (parts_layout {s = s} {t = t} {u = u} {v = v} {x = x} {f = f} {fs = fs} {us = us} {vs = vs} {k = k} d0 d1) (parts_layout {v = v'} {f = f'} {fs = fs'} {vs = vs'} {k = k'} e0 e1) =
      let (h0, g0) = det_field d0 e0 (above_weaken 0 9 _ (front_more_fields d1 (omega arith)) (omega arith)) (above_weaken 0 9 _ (front_more_fields e1 (omega arith)) (omega arith)) in
      let q1 : vs ≡ vs' = cc in
      let (h1, g1) = det_more_fields d1 (subst (λ z. IsMoreFields fs' z (sign_close_brace v' ∷ k')) (sym q1) e1) (omega arith) (omega arith) in
      (cc, cc)

  pub det_more_fields : {x y : FieldTrees} {ts k k' : List Token} → IsMoreFields x ts k → IsMoreFields y ts k' → Above 10 k → Above 10 k' → (x ≡ y) × (k ≡ k')
  det_more_fields (no_field {k = k}) (no_field) above above' = (refl, refl)
  det_more_fields (next_field {s = s} {t = t} {u = u} {x = x} {f = f} {fs = fs} {us = us} {vs = vs} {k = k} d0 d1) (next_field {f = f'} {fs = fs'} {vs = vs'} {k = k'} e0 e1) above above' =
      let (h0, g0) = det_field d0 e0 (above_weaken 0 9 _ (front_more_fields d1 above) (omega arith)) (above_weaken 0 9 _ (front_more_fields e1 above') (omega arith)) in
      let q1 : vs ≡ vs' = cc in
      let (h1, g1) = det_more_fields d1 (subst (λ z. IsMoreFields fs' z k') (sym q1) e1) above above' in
      (cc, cc)
  det_more_fields no_field (next_field d0 d1) above above' = absurd (omega arith)
  det_more_fields (next_field d0 d1) no_field above above' = absurd (omega arith)

  pub det_field : {x y : FieldTree} {ts k k' : List Token} → IsField x ts k → IsField y ts k' → Above 0 k → Above 0 k' → (x ≡ y) × (k ≡ k')
  det_field (plain_field {f = f} {ts = ts} {k = k} d0) (plain_field {f = f'} {k = k'} e0) above above' =
      let (h0, g0) = det_alternative d0 e0 above above' in
      (cc, cc)
  det_field (overlay_field {s = s} {t = t} {u = u} {v = v} {w = w} {x = x} {y = y} {f = f} {g = g} {fs = fs} {us = us} {vs = vs} {k = k} d0 d1) (overlay_field {w = w'} {y = y'} {f = f'} {g = g'} {fs = fs'} {vs = vs'} {k = k'} e0 e1) above above' =
      let (h0, g0) = det_alternative d0 e0 (above_weaken 0 5 _ (front_more_alternatives d1 (omega arith)) (omega arith)) (above_weaken 0 5 _ (front_more_alternatives e1 (omega arith)) (omega arith)) in
      let q1 : vs ≡ vs' = cc in
      let (h1, g1) = det_more_alternatives d1 (subst (λ z. IsMoreAlternatives (field_and y' g' fs') z (sign_close_brace w' ∷ k')) (sym q1) e1) (omega arith) (omega arith) in
      (cc, cc)
  det_field (plain_field d0) (overlay_field e0 e1) above above' = absurd (overlay_no_alternative d0)
  det_field (overlay_field d0 d1) (plain_field e0) above above' = absurd (overlay_no_alternative e0)

  pub det_alternative : {x y : FieldTree} {ts k k' : List Token} → IsAlternative x ts k → IsAlternative y ts k' → Above 0 k → Above 0 k' → (x ≡ y) × (k ≡ k')
  det_alternative (bits_field {s = s} {n = n} {k = k}) (bits_field) above above' = (refl, refl)
  det_alternative (inner_field {l = l} {ts = ts} {k = k} d0) (inner_field {l = l'} {k = k'} e0) above above' =
      let (h0, g0) = det_layout d0 e0 above above' in
      (cc, cc)
  det_alternative bits_field (inner_field e0) above above' = absurd (number_no_layout e0)
  det_alternative (inner_field d0) bits_field above above' = absurd (number_no_layout d0)

  pub det_more_alternatives : {x y : FieldTrees} {ts k k' : List Token} → IsMoreAlternatives x ts k → IsMoreAlternatives y ts k' → Above 10 k → Above 10 k' → (x ≡ y) × (k ≡ k')
  det_more_alternatives (no_alternative {k = k}) (no_alternative) above above' = (refl, refl)
  det_more_alternatives (next_alternative {s = s} {t = t} {u = u} {x = x} {f = f} {fs = fs} {us = us} {vs = vs} {k = k} d0 d1) (next_alternative {f = f'} {fs = fs'} {vs = vs'} {k = k'} e0 e1) above above' =
      let (h0, g0) = det_alternative d0 e0 (above_weaken 0 5 _ (front_more_alternatives d1 above) (omega arith)) (above_weaken 0 5 _ (front_more_alternatives e1 above') (omega arith)) in
      let q1 : vs ≡ vs' = cc in
      let (h1, g1) = det_more_alternatives d1 (subst (λ z. IsMoreAlternatives fs' z k') (sym q1) e1) above above' in
      (cc, cc)
  det_more_alternatives no_alternative (next_alternative d0 d1) above above' = absurd (omega arith)
  det_more_alternatives (next_alternative d0 d1) no_alternative above above' = absurd (omega arith)

-- ---- types
mutual
  pub det_type : {x y : TypeTree} {ts k k' : List Token} → IsType x ts k → IsType y ts k' → Above 0 k → Above 0 k' → (x ≡ y) × (k ≡ k')
  det_type (word_type {s = s} {k = k}) (word_type) above above' = (refl, refl)
  det_type (words_type {s = s} {t = t} {u = u} {v = v} {n = n} {k = k}) (words_type) above above' = (refl, refl)
  det_type (bool_type {s = s} {k = k}) (bool_type) above above' = (refl, refl)
  det_type (packed_type {s = s} {t = t} {u = u} {v = v} {x = x} {k = k}) (packed_type) above above' = (refl, refl)
  det_type (unpacked_type {s = s} {t = t} {u = u} {v = v} {x = x} {k = k}) (unpacked_type) above above' = (refl, refl)
  det_type (unit_type {s = s} {t = t} {k = k}) (unit_type) above above' = (refl, refl)
  det_type (tuple_type {s = s} {t = t} {a = a} {b = b} {cs = cs} {us = us} {vs = vs} {k = k} d0 d1) (tuple_type {t = t'} {a = a'} {b = b'} {cs = cs'} {vs = vs'} {k = k'} e0 e1) above above' =
      let (h0, g0) = det_type d0 e0 (above_weaken 0 9 _ (front_more_types d1 (omega arith)) (omega arith)) (above_weaken 0 9 _ (front_more_types e1 (omega arith)) (omega arith)) in
      let q1 : vs ≡ vs' = cc in
      let (h1, g1) = det_more_types d1 (subst (λ z. IsMoreTypes (type_and b' cs') z (sign_close t' ∷ k')) (sym q1) e1) (omega arith) (omega arith) in
      (cc, cc)
  det_type (record_type {s = s} {t = t} {u = u} {v = v} {x = x} {a = a} {bs = bs} {us = us} {vs = vs} {k = k} d0 d1) (record_type {v = v'} {a = a'} {bs = bs'} {vs = vs'} {k = k'} e0 e1) above above' =
      let (h0, g0) = det_type d0 e0 (above_weaken 0 9 _ (front_more_named_types d1 (omega arith)) (omega arith)) (above_weaken 0 9 _ (front_more_named_types e1 (omega arith)) (omega arith)) in
      let q1 : vs ≡ vs' = cc in
      let (h1, g1) = det_more_named_types d1 (subst (λ z. IsMoreNamedTypes bs' z (sign_close_brace v' ∷ k')) (sym q1) e1) (omega arith) (omega arith) in
      (cc, cc)
  det_type word_type words_type above above' = absurd (omega arith)
  det_type words_type word_type above above' = absurd (omega arith)
  det_type unit_type (tuple_type e0 e1) above above' = absurd (close_starts_no_type e0)
  det_type (tuple_type d0 d1) unit_type above above' = absurd (close_starts_no_type d0)

  pub det_more_types : {x y : TypeTrees} {ts k k' : List Token} → IsMoreTypes x ts k → IsMoreTypes y ts k' → Above 10 k → Above 10 k' → (x ≡ y) × (k ≡ k')
  det_more_types (no_type {k = k}) (no_type) above above' = (refl, refl)
  det_more_types (next_type {s = s} {a = a} {bs = bs} {us = us} {vs = vs} {k = k} d0 d1) (next_type {a = a'} {bs = bs'} {vs = vs'} {k = k'} e0 e1) above above' =
      let (h0, g0) = det_type d0 e0 (above_weaken 0 9 _ (front_more_types d1 above) (omega arith)) (above_weaken 0 9 _ (front_more_types e1 above') (omega arith)) in
      let q1 : vs ≡ vs' = cc in
      let (h1, g1) = det_more_types d1 (subst (λ z. IsMoreTypes bs' z k') (sym q1) e1) above above' in
      (cc, cc)
  det_more_types no_type (next_type d0 d1) above above' = absurd (omega arith)
  det_more_types (next_type d0 d1) no_type above above' = absurd (omega arith)

  pub det_more_named_types : {x y : NamedTypes} {ts k k' : List Token} → IsMoreNamedTypes x ts k → IsMoreNamedTypes y ts k' → Above 10 k → Above 10 k' → (x ≡ y) × (k ≡ k')
  det_more_named_types (no_named_type {k = k}) (no_named_type) above above' = (refl, refl)
  det_more_named_types (next_named_type {s = s} {t = t} {u = u} {x = x} {a = a} {bs = bs} {us = us} {vs = vs} {k = k} d0 d1) (next_named_type {a = a'} {bs = bs'} {vs = vs'} {k = k'} e0 e1) above above' =
      let (h0, g0) = det_type d0 e0 (above_weaken 0 9 _ (front_more_named_types d1 above) (omega arith)) (above_weaken 0 9 _ (front_more_named_types e1 above') (omega arith)) in
      let q1 : vs ≡ vs' = cc in
      let (h1, g1) = det_more_named_types d1 (subst (λ z. IsMoreNamedTypes bs' z k') (sym q1) e1) above above' in
      (cc, cc)
  det_more_named_types no_named_type (next_named_type d0 d1) above above' = absurd (omega arith)
  det_more_named_types (next_named_type d0 d1) no_named_type above above' = absurd (omega arith)

pub det_types : {x y : TypeTrees} {ts k k' : List Token} → IsTypes x ts k → IsTypes y ts k' → Above 12 k → Above 12 k' → (x ≡ y) × (k ≡ k')
det_types (empty_types {k = k}) (empty_types) above above' = (refl, refl)
det_types (some_types {a = a} {bs = bs} {us = us} {vs = vs} {k = k} d0 d1) (some_types {a = a'} {bs = bs'} {vs = vs'} {k = k'} e0 e1) above above' =
    let (h0, g0) = det_type d0 e0 (above_weaken 0 9 _ (front_more_types d1 (above_weaken 10 12 _ above (omega arith))) (omega arith)) (above_weaken 0 9 _ (front_more_types e1 (above_weaken 10 12 _ above' (omega arith))) (omega arith)) in
    let q1 : vs ≡ vs' = cc in
    let (h1, g1) = det_more_types d1 (subst (λ z. IsMoreTypes bs' z k') (sym q1) e1) (above_weaken 10 12 _ above (omega arith)) (above_weaken 10 12 _ above' (omega arith)) in
    (cc, cc)
det_types (empty_types {k = k}) (some_types e0 e1) above above' = absurd (no_start k (type_first e0) above)
det_types (some_types d0 d1) (empty_types {k = k}) above above' = absurd (no_start k (type_first d0) above')

pub det_params : {x y : NamedTypes} {ts k k' : List Token} → IsParams x ts k → IsParams y ts k' → Above 12 k → Above 12 k' → (x ≡ y) × (k ≡ k')
det_params (empty_params {k = k}) (empty_params) above above' = (refl, refl)
det_params (some_params {s = s} {t = t} {x = x} {a = a} {bs = bs} {us = us} {vs = vs} {k = k} d0 d1) (some_params {a = a'} {bs = bs'} {vs = vs'} {k = k'} e0 e1) above above' =
    let (h0, g0) = det_type d0 e0 (above_weaken 0 9 _ (front_more_named_types d1 (above_weaken 10 12 _ above (omega arith))) (omega arith)) (above_weaken 0 9 _ (front_more_named_types e1 (above_weaken 10 12 _ above' (omega arith))) (omega arith)) in
    let q1 : vs ≡ vs' = cc in
    let (h1, g1) = det_more_named_types d1 (subst (λ z. IsMoreNamedTypes bs' z k') (sym q1) e1) (above_weaken 10 12 _ above (omega arith)) (above_weaken 10 12 _ above' (omega arith)) in
    (cc, cc)
det_params empty_params (some_params e0 e1) above above' = absurd (omega arith)
det_params (some_params d0 d1) empty_params above above' = absurd (omega arith)

-- ---- patterns
mutual
  pub det_pattern : {x y : PatternTree} {ts k k' : List Token} → IsPattern x ts k → IsPattern y ts k' → (x ≡ y) × (k ≡ k')
  det_pattern (name_pattern {s = s} {x = x} {k = k}) (name_pattern) = (refl, refl)
  det_pattern (any_pattern {s = s} {k = k}) (any_pattern) = (refl, refl)
  det_pattern (unit_pattern {s = s} {t = t} {k = k}) (unit_pattern) = (refl, refl)
  det_pattern (tuple_pattern {s = s} {t = t} {p = p} {q = q} {ps = ps} {us = us} {vs = vs} {k = k} d0 d1) (tuple_pattern {t = t'} {p = p'} {q = q'} {ps = ps'} {vs = vs'} {k = k'} e0 e1) =
      let (h0, g0) = det_pattern d0 e0 in
      let q1 : vs ≡ vs' = cc in
      let (h1, g1) = det_more_patterns d1 (subst (λ z. IsMorePatterns (pattern_and q' ps') z (sign_close t' ∷ k')) (sym q1) e1) (omega arith) (omega arith) in
      (cc, cc)
  det_pattern unit_pattern (tuple_pattern e0 e1) = absurd (close_starts_no_pattern e0)
  det_pattern (tuple_pattern d0 d1) unit_pattern = absurd (close_starts_no_pattern d0)

  pub det_more_patterns : {x y : PatternTrees} {ts k k' : List Token} → IsMorePatterns x ts k → IsMorePatterns y ts k' → Above 10 k → Above 10 k' → (x ≡ y) × (k ≡ k')
  det_more_patterns (no_pattern {k = k}) (no_pattern) above above' = (refl, refl)
  det_more_patterns (next_pattern {s = s} {p = p} {ps = ps} {us = us} {vs = vs} {k = k} d0 d1) (next_pattern {p = p'} {ps = ps'} {vs = vs'} {k = k'} e0 e1) above above' =
      let (h0, g0) = det_pattern d0 e0 in
      let q1 : vs ≡ vs' = cc in
      let (h1, g1) = det_more_patterns d1 (subst (λ z. IsMorePatterns ps' z k') (sym q1) e1) above above' in
      (cc, cc)
  det_more_patterns no_pattern (next_pattern d0 d1) above above' = absurd (omega arith)
  det_more_patterns (next_pattern d0 d1) no_pattern above above' = absurd (omega arith)

pub det_patterns : {x y : PatternTrees} {ts k k' : List Token} → IsPatterns x ts k → IsPatterns y ts k' → Above 12 k → Above 12 k' → (x ≡ y) × (k ≡ k')
det_patterns (empty_patterns {k = k}) (empty_patterns) above above' = (refl, refl)
det_patterns (some_patterns {p = p} {ps = ps} {us = us} {vs = vs} {k = k} d0 d1) (some_patterns {p = p'} {ps = ps'} {vs = vs'} {k = k'} e0 e1) above above' =
    let (h0, g0) = det_pattern d0 e0 in
    let q1 : vs ≡ vs' = cc in
    let (h1, g1) = det_more_patterns d1 (subst (λ z. IsMorePatterns ps' z k') (sym q1) e1) (above_weaken 10 12 _ above (omega arith)) (above_weaken 10 12 _ above' (omega arith)) in
    (cc, cc)
det_patterns (empty_patterns {k = k}) (some_patterns e0 e1) above above' = absurd (no_start k (pattern_first e0) above)
det_patterns (some_patterns d0 d1) (empty_patterns {k = k}) above above' = absurd (no_start k (pattern_first d0) above')

-- A layout reads the same whatever follows it.
use Rattle.std.proofs.Common.{◌≡◌, refl, sym, ◌∙◌, ap, subst, List, [], ◌∷◌, ◌++◌, append_assoc}
use Rattle.nv_ast.specs.declared.token.Token.{Token}
use Rattle.nv_ast.specs.Tokens.{a_name, a_number, key_overlay, sign_bar, sign_comma, sign_colon, sign_join, sign_open_brace, sign_close_brace}
use Rattle.nv_ast.specs.Tree.{LayoutTree, JoinedLayout, PartsLayout, LayoutTrees, layout_and, FieldTree, OverlayField, FieldTrees, field_and}
use Rattle.nv_text_parser.proofs.Frames.{Frame}
use Rattle.nv_ast.specs.Grammar.{IsLayout, one_layout, joined_layouts, IsMoreLayouts, no_layout, next_layout, IsLayoutAtom, named_layout, gap_layout, parts_layout, IsMoreFields, no_field, next_field, IsField, plain_field, overlay_field, IsAlternative, bits_field, inner_field, IsMoreAlternatives, no_alternative, next_alternative}

-- tokens, a part, another part and tokens
joined : (a f g b k : List Token) {us vs : List Token} → us ≡ f ++ vs → vs ≡ g ++ (b ++ k) → a ++ us ≡ (a ++ (f ++ (g ++ b))) ++ k
joined a f g b k p q = ap (λ z. a ++ z) (p ∙ (ap (λ z. f ++ z) (q ∙ sym (append_assoc g b k)) ∙ sym (append_assoc f (g ++ b) k))) ∙ sym (append_assoc a (f ++ (g ++ b)) k)

regroup : (a f g b z : List Token) → a ++ (f ++ (g ++ (b ++ z))) ≡ (a ++ (f ++ (g ++ b))) ++ z
regroup a f g b z = sym (append_assoc a (f ++ (g ++ b)) z ∙ ap (λ y. a ++ y) (append_assoc f (g ++ b) z ∙ ap (λ y. f ++ y) (append_assoc g b z)))

-- a rule of two parts between tokens
two : {P Q R : List Token → List Token → Type 0} {us vs : List Token} (a b k : List Token) → Frame P us vs → Frame Q vs (b ++ k) → ((x y z : List Token) → P x y → Q y (b ++ z) → R (a ++ x) z) → Frame R (a ++ us) k
two {R = R} a b k p q rule = record {
  front = a ++ (p.front ++ (q.front ++ b));
  split = joined a p.front q.front b k p.split q.split;
  all = λ z. subst (λ y. R y z) (regroup a p.front q.front b z) (rule (p.front ++ (q.front ++ (b ++ z))) (q.front ++ (b ++ z)) z (p.all (q.front ++ (b ++ z))) (q.all (b ++ z)));
}

mutual
  pub frame_layout : {x : LayoutTree} {ts k : List Token} → IsLayout x ts k → Frame (IsLayout x) ts k
  frame_layout (one_layout d) = let h = frame_atom d in record { front = h.front; split = h.split; all = λ z. one_layout (h.all z) }
  frame_layout (joined_layouts {l = l} {m = m} {ls = ls} {k = k} d e) = two {R = IsLayout (JoinedLayout (layout_and l (layout_and m ls)))} [] [] k (frame_atom d) (frame_more_layouts e) (λ x y z f g. joined_layouts f g)

  pub frame_more_layouts : {x : LayoutTrees} {ts k : List Token} → IsMoreLayouts x ts k → Frame (IsMoreLayouts x) ts k
  frame_more_layouts no_layout = record { front = []; split = refl; all = λ z. no_layout }
  frame_more_layouts (next_layout {s = s} {l = l} {ls = ls} {k = k} d e) = two {R = IsMoreLayouts (layout_and l ls)} (sign_join s ∷ []) [] k (frame_atom d) (frame_more_layouts e) (λ x y z f g. next_layout f g)

  pub frame_atom : {x : LayoutTree} {ts k : List Token} → IsLayoutAtom x ts k → Frame (IsLayoutAtom x) ts k
  frame_atom (named_layout {s = s} {x = x}) = record { front = a_name s x ∷ []; split = refl; all = λ z. named_layout }
  frame_atom (gap_layout {s = s} {t = t} {u = u} {n = n}) = record { front = sign_open_brace s ∷ a_number t n ∷ sign_close_brace u ∷ []; split = refl; all = λ z. gap_layout }
  frame_atom (parts_layout {s = s} {t = t} {u = u} {v = v} {x = x} {f = f} {fs = fs} {k = k} d e) =
      two {R = IsLayoutAtom (PartsLayout (field_and x f fs))} (sign_open_brace s ∷ a_name t x ∷ sign_colon u ∷ []) (sign_close_brace v ∷ []) k (frame_field d) (frame_more_fields e) (λ x y z f g. parts_layout f g)

  pub frame_more_fields : {x : FieldTrees} {ts k : List Token} → IsMoreFields x ts k → Frame (IsMoreFields x) ts k
  frame_more_fields no_field = record { front = []; split = refl; all = λ z. no_field }
  frame_more_fields (next_field {s = s} {t = t} {u = u} {x = x} {f = f} {fs = fs} {k = k} d e) =
      two {R = IsMoreFields (field_and x f fs)} (sign_comma s ∷ a_name t x ∷ sign_colon u ∷ []) [] k (frame_field d) (frame_more_fields e) (λ x y z f g. next_field f g)

  pub frame_field : {x : FieldTree} {ts k : List Token} → IsField x ts k → Frame (IsField x) ts k
  frame_field (plain_field d) = let h = frame_alternative d in record { front = h.front; split = h.split; all = λ z. plain_field (h.all z) }
  frame_field (overlay_field {s = s} {t = t} {u = u} {v = v} {w = w} {x = x} {y = y} {f = f} {g = g} {fs = fs} {k = k} d e) =
      two {R = IsField (OverlayField (field_and x f (field_and y g fs)))} (key_overlay s ∷ sign_open_brace t ∷ a_name u x ∷ sign_colon v ∷ []) (sign_close_brace w ∷ []) k (frame_alternative d) (frame_more_alternatives e) (λ x y z f g. overlay_field f g)

  pub frame_alternative : {x : FieldTree} {ts k : List Token} → IsAlternative x ts k → Frame (IsAlternative x) ts k
  frame_alternative (bits_field {s = s} {n = n}) = record { front = a_number s n ∷ []; split = refl; all = λ z. bits_field }
  frame_alternative (inner_field d) = let h = frame_layout d in record { front = h.front; split = h.split; all = λ z. inner_field (h.all z) }

  pub frame_more_alternatives : {x : FieldTrees} {ts k : List Token} → IsMoreAlternatives x ts k → Frame (IsMoreAlternatives x) ts k
  frame_more_alternatives no_alternative = record { front = []; split = refl; all = λ z. no_alternative }
  frame_more_alternatives (next_alternative {s = s} {t = t} {u = u} {x = x} {f = f} {fs = fs} {k = k} d e) =
      two {R = IsMoreAlternatives (field_and x f fs)} (sign_bar s ∷ a_name t x ∷ sign_colon u ∷ []) [] k (frame_alternative d) (frame_more_alternatives e) (λ x y z f g. next_alternative f g)

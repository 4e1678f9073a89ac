-- The rules of layouts, and what they are read by.
use Rattle.std.proofs.Common.{◌≡◌, refl, sym, ◌∙◌, ap, subst, ℕ, ◌+◌, ◌-◌, ◌≤◌, max, List, [], ◌∷◌, ◌++◌, arith, Bool, true, false}
use Rattle.nv_ast.specs.declared.token.Span.{Span}
use Rattle.nv_ast.specs.declared.token.Token.{Token}
use Rattle.nv_ast.specs.declared.token.Sort.TheVariants.{Sign}
use Rattle.nv_ast.specs.Tokens.{at, a_name, a_number, key_overlay, sign_bar, sign_comma, sign_colon, sign_join, sign_open_brace, sign_close_brace}
use Rattle.nv_ast.specs.Tree.{LayoutTree, NamedLayout, GapLayout, PartsLayout, JoinedLayout, LayoutTrees, no_layouts, layout_and, FieldTree, BitsField, InnerField, OverlayField, FieldTrees, no_fields, field_and}
use Rattle.nv_ast.specs.Height.{layout_height, highest_layout, field_height, highest_field}
use Rattle.nv_ast.specs.Grammar.{IsLayout, one_layout, joined_layouts, IsMoreLayouts, no_layout, next_layout, IsLayoutAtom, named_layout, gap_layout, parts_layout, IsMoreFields, no_field, next_field, IsField, plain_field, overlay_field, IsAlternative, bits_field, inner_field, IsMoreAlternatives, no_alternative, next_alternative}
use Rattle.nv_text_parser.specs.declared.cursor.Failure.{Failure}
use Rattle.nv_text_parser.specs.inner.Cursor.{NotSign, NotKey, NotName, NotNumber, IsSyntax}
use Rattle.nv_text_parser.specs.inner.Failing.{Bound, AtMost, Within, HasRoom, Same, Inside, part_of, bound_of, Phrases, Anything, Phrase, ASign, AName, ANumber, Then, Many, none, next, HasRead, SameFront, Completes, Starts, StartsNone, Reads, FailsAs}
use Rattle.nv_text_parser.specs.inner.Phrases.{LowLayouts, LowFields, ALayout, ALayoutAtom, AField, AnAlternative, NextLayout, NamedField, NextField, NamedAlternative, NextAlternative}
use Rattle.nv_text_parser.proofs.Bounds.{within_one, within_node, node_within, within_max, max_left, max_right, within_zero, room_here, within_more}
use Rattle.nv_text_parser.proofs.Follow.{Above, overlay_no_alternative, number_no_layout}
use Rattle.nv_text_parser.proofs.OneReading.{det_layout_atom}
use Rattle.nv_text_parser.proofs.LayoutFrames.{frame_atom}
use Rattle.nv_text_parser.proofs.Sequence.{front_same, same_first, Fills, Carries, RuleAt, Rule, Listed, sign_listed, one_fills, then_fills, many_fills, many_carries, then_carries, first_fails, then_fails, then_reads, some_fails, some_reads, sign_fails, one_carries, carries_anything, FirstPart}

no_span : Span
no_span = record { first = 0; after = 0 }

pub atom_fills : (room : ℕ) → 1 ≤ room → Fills ALayoutAtom room
atom_fills room h = record { with_ = λ low. record { more = a_name no_span [] ∷ []; spelled = λ k. record { tree = NamedLayout []; spelled = named_layout; low = within_one (bound_of low room) (room_here low room h) } } }

pub layout_fills : (room : ℕ) → 1 ≤ room → Fills ALayout room
layout_fills room h = record { with_ = λ low. record { more = a_name no_span [] ∷ []; spelled = λ k. record { tree = NamedLayout []; spelled = one_layout named_layout; low = within_one (bound_of low room) (room_here low room h) } } }

pub field_fills : (room : ℕ) → 1 ≤ room → Fills AField room
field_fills room h = record { with_ = λ low. record { more = a_number no_span 0 ∷ []; spelled = λ k. record { tree = BitsField 0; spelled = plain_field bits_field; low = within_one (bound_of low room) (room_here low room h) } } }

pub alternative_fills : (room : ℕ) → 1 ≤ room → Fills AnAlternative room
alternative_fills room h = record { with_ = λ low. record { more = a_number no_span 0 ∷ []; spelled = λ k. record { tree = BitsField 0; spelled = bits_field; low = within_one (bound_of low room) (room_here low room h) } } }

-- ---- latom

-- NAME
name_is : {l : LayoutTree} {us k : List Token} → IsLayoutAtom l us k → NotSign 26 us → (b : Bound) → AName b us k
name_is (named_layout {s = s} {x = x}) f b = record { span = s; value = x; split = refl }
name_is gap_layout f b = absurd (f refl)
name_is (parts_layout d e) f b = absurd (f refl)

pub name_rule : (ts : List Token) → NotSign 26 ts → Rule Same [] AName Anything ALayoutAtom Anything ts
name_rule ts f = record {
  make = λ b h us k r. record { tree = NamedLayout r.value; spelled = subst (λ z. IsLayoutAtom (NamedLayout r.value) z k) (sym r.split) named_layout; low = within_one b h };
  parts = λ b us k h d g. (name_is d.spelled (front_same _ ts us h f) b, tt);
}

-- '{' NUM '}'
abbrev pub GapRow : Phrases
GapRow = Then ANumber (ASign 27)

gap_is : {l : LayoutTree} {s t : Span} {n : ℕ} {vs k : List Token} → IsLayoutAtom l (sign_open_brace s ∷ a_number t n ∷ vs) k → (b : Bound) → GapRow b (a_number t n ∷ vs) k
gap_is (gap_layout {t = t} {u = u} {n = n} {k = k}) b = record { middle = sign_close_brace u ∷ k; first = record { span = t; value = n; split = refl }; second = record { span = u; value = tt; split = refl } }

pub gap_rule : (s t : Span) (n : ℕ) (ts rest : List Token) → ts ≡ a_number t n ∷ rest → Rule Same (sign_open_brace s ∷ []) GapRow Anything ALayoutAtom Anything ts
gap_rule s t n ts rest e = record {
  make = λ b h us k r. record {
    tree = GapLayout r.first.value;
    spelled = subst (λ z. IsLayoutAtom (GapLayout r.first.value) (sign_open_brace s ∷ z) k) (sym (r.first.split ∙ ap (λ z. a_number r.first.span r.first.value ∷ z) r.second.split)) gap_layout;
    low = within_one b h;
  };
  parts = λ b us k h d f.
      let (vs, g) = same_first (a_number t n) ts us rest e h in
      (subst (λ z. GapRow b z k) (sym g) (gap_is (subst (λ z. IsLayoutAtom d.tree (sign_open_brace s ∷ z) k) g d.spelled) b), tt);
}

-- '{' NAME ':' field (',' NAME ':' field)* '}'
pub to_fields : {fs : FieldTrees} {ts k : List Token} (b : Bound) → IsMoreFields fs ts k → Within b (highest_field fs) → Many NextField b ts k
to_fields b no_field w = none
to_fields b (next_field {s = s} {t = t} {u = u} {x = x} {f = f} {fs = fs} {us = us} {vs = vs} d e) w =
    next (record {
      middle = a_name t x ∷ sign_colon u ∷ us;
      first = record { span = s; value = tt; split = refl };
      second = named t u x us vs b (record { tree = f; spelled = d; low = max_left b (field_height f) (highest_field fs) w });
    })
    (to_fields b e (max_right b (field_height f) (highest_field fs) w))
  where
    named : (t u : Span) (x : List ℕ) (us vs : List Token) (b : Bound) → AField b us vs → NamedField b (a_name t x ∷ sign_colon u ∷ us) vs
    named t u x us vs b d = record { middle = sign_colon u ∷ us; first = record { span = t; value = x; split = refl }; second = record { middle = us; first = record { span = u; value = tt; split = refl }; second = d } }

named_split : {b : Bound} {ts k : List Token} (d : NamedField b ts k) → ts ≡ a_name d.first.span d.first.value ∷ sign_colon d.second.first.span ∷ d.second.middle
named_split d = d.first.split ∙ ap (λ z. a_name d.first.span d.first.value ∷ z) d.second.first.split

next_split : {b : Bound} {ts k : List Token} (d : NextField b ts k) → ts ≡ sign_comma d.first.span ∷ a_name d.second.first.span d.second.first.value ∷ sign_colon d.second.second.first.span ∷ d.second.second.middle
next_split d = d.first.split ∙ ap (λ z. sign_comma d.first.span ∷ z) (named_split d.second)

pub of_fields : {b : Bound} {ts k : List Token} → Many NextField b ts k → Phrase IsMoreFields LowFields b ts k
of_fields {b = b} none = record { tree = no_fields; spelled = no_field; low = within_zero b }
of_fields {b = b} {k = k} (next d e) =
    let f = of_fields e in
    let a = d.second.second.second in
    record {
      tree = field_and d.second.first.value a.tree f.tree;
      spelled = subst (λ z. IsMoreFields (field_and d.second.first.value a.tree f.tree) z k) (sym (next_split d)) (next_field a.spelled f.spelled);
      low = within_max b (field_height a.tree) (highest_field f.tree) a.low f.low;
    }

pub fields_listed : Listed NextField (Above 0) (Above 10)
fields_listed = sign_listed 22 0 10 NamedField (omega arith) (omega arith) (omega arith)

pub colon_fills : (room : ℕ) → 1 ≤ room → Fills (Then (ASign 21) AField) room
colon_fills room h = then_fills (one_fills room tt) (field_fills room h)

abbrev pub PartsRow : Phrases
PartsRow = Then NamedField (Then (Many NextField) (ASign 27))

parts_is : {l : LayoutTree} {s : Span} {us k : List Token} → IsLayoutAtom l (sign_open_brace s ∷ us) k → NotNumber us → (b : Bound) → Within b (layout_height l) → PartsRow (part_of Inside b) us k
parts_is (gap_layout {n = n}) f b w = absurd (f n refl)
parts_is (parts_layout {t = t} {u = u} {v = v} {x = x} {f = a} {fs = bs} {us = us} {vs = vs} {k = k} d e) f b w =
    let i = node_within b (max (field_height a) (highest_field bs)) w in
    record {
      middle = vs;
      first = record {
        middle = sign_colon u ∷ us;
        first = record { span = t; value = x; split = refl };
        second = record { middle = us; first = record { span = u; value = tt; split = refl }; second = record { tree = a; spelled = d; low = max_left (part_of Inside b) (field_height a) (highest_field bs) i } };
      };
      second = record {
        middle = sign_close_brace v ∷ k;
        first = to_fields (part_of Inside b) e (max_right (part_of Inside b) (field_height a) (highest_field bs) i);
        second = record { span = v; value = tt; split = refl };
      };
    }

parts_made : {s : Span} {us k : List Token} (b : Bound) → HasRoom b → PartsRow (part_of Inside b) us k → ALayoutAtom b (sign_open_brace s ∷ us) k
parts_made {s = s} {k = k} b h r =
    let f = of_fields r.second.first in
    let a = r.first.second.second in
    let x = r.first.first.value in
    record {
      tree = PartsLayout (field_and x a.tree f.tree);
      spelled = subst (λ z. IsLayoutAtom (PartsLayout (field_and x a.tree f.tree)) (sign_open_brace s ∷ z) k) (sym (named_split r.first)) (parts_layout a.spelled (subst (λ z. IsMoreFields f.tree r.middle z) r.second.second.split f.spelled));
      low = within_node b (max (field_height a.tree) (highest_field f.tree)) h (within_max (part_of Inside b) (field_height a.tree) (highest_field f.tree) a.low f.low);
    }

pub parts_rule : (s : Span) (ts : List Token) → NotNumber ts → Rule Inside (sign_open_brace s ∷ []) PartsRow Anything ALayoutAtom Anything ts
parts_rule s ts n = record { make = λ b h us k r. parts_made b h r; parts = λ b us k h d f. (parts_is d.spelled (front_same _ ts us h n) b d.low, tt) }

pub parts_carries : Carries (Then (Many NextField) (ASign 27)) Anything (Above 0)
parts_carries = then_carries (many_carries fields_listed) (one_carries 10 (λ x. omega arith))

pub parts_fills : (room : ℕ) → Fills (Then (Many NextField) (ASign 27)) room
parts_fills room = then_fills (many_fills room) (one_fills room tt)

-- behind '{' comes a number or a name
inside_none : {l : LayoutTree} {s : Span} {us k : List Token} → IsLayoutAtom l (sign_open_brace s ∷ us) k → NotNumber us → NotName us → ⊥
inside_none (gap_layout {n = n}) f g = f n refl
inside_none (parts_layout {x = x} d e) f g = g x refl

pub inside_starts_none : (s : Span) {ts : List Token} → NotNumber ts → NotName ts → StartsNone (HasRead (sign_open_brace s ∷ []) ALayoutAtom) ts
inside_starts_none s {ts = ts} f g = record { none = λ us k h d. inside_none d.whole.spelled (front_same _ ts us h f) (front_same _ ts us h g) }

pub inside_completes : (s : Span) (room : ℕ) → 1 ≤ room → Completes (HasRead (sign_open_brace s ∷ []) ALayoutAtom) (AtMost room) []
inside_completes s room h = record { more = a_number no_span 0 ∷ sign_close_brace no_span ∷ []; spelled = λ k. record { whole = record { tree = GapLayout 0; spelled = gap_layout; low = h } } }

pub inside_starts : (s : Span) {t : Span} {x : List ℕ} {ts rest : List Token} → ts ≡ a_name t x ∷ rest → Starts (HasRead (sign_open_brace s ∷ []) ALayoutAtom) ts
inside_starts s {t = t} {x = x} {rest = rest} e = record {
  token = a_name t x;
  rest = rest;
  split = e;
  on = record {
    more = sign_colon no_span ∷ a_number no_span 0 ∷ sign_close_brace no_span ∷ [];
    spelled = λ k. record { whole = record { tree = PartsLayout (field_and x (BitsField 0) no_fields); spelled = parts_layout (plain_field bits_field) no_field; low = tt } };
  };
}

pub layout_high : (l : LayoutTree) → 1 ≤ layout_height l
layout_high (NamedLayout x) = omega arith
layout_high (GapLayout n) = omega arith
layout_high (PartsLayout fs) = omega arith
layout_high (JoinedLayout ls) = omega arith

field_high : (f : FieldTree) → 1 ≤ field_height f
field_high (BitsField n) = omega arith
field_high (InnerField l) = layout_high l
field_high (OverlayField fs) = omega arith

parts_high : {l : LayoutTree} {s t : Span} {x : List ℕ} {us k : List Token} → IsLayoutAtom l (sign_open_brace s ∷ a_name t x ∷ us) k → 2 ≤ layout_height l
parts_high (parts_layout {f = f} d e) = let h = field_high f in omega arith

pub no_parts : (s t : Span) (x : List ℕ) (room : ℕ) (ts rest : List Token) → room ≡ 1 → ts ≡ a_name t x ∷ rest → (us k : List Token) → SameFront ts us → HasRead (sign_open_brace s ∷ []) ALayoutAtom (AtMost room) us k → Anything k → ⊥
no_parts s t x room ts rest r e us k h d f =
    let (vs, g) = same_first (a_name t x) ts us rest e h in
    let i = parts_high (subst (λ z. IsLayoutAtom d.whole.tree (sign_open_brace s ∷ z) k) g d.whole.spelled) in
    let j : layout_height d.whole.tree ≤ room = d.whole.low in
    absurd (omega arith)

-- ---- alt
number_is : {f : FieldTree} {s : Span} {n : ℕ} {vs k : List Token} → IsAlternative f (a_number s n ∷ vs) k → vs ≡ k
number_is bits_field = refl
number_is (inner_field d) = absurd (number_no_layout d)

pub bits_rule : (s : Span) (n : ℕ) (ts rest : List Token) → ts ≡ a_number s n ∷ rest → Rule Same [] ANumber Anything AnAlternative (Above 0) ts
bits_rule s n ts rest e = record {
  make = λ b h us k r. record { tree = BitsField r.value; spelled = subst (λ z. IsAlternative (BitsField r.value) z k) (sym r.split) bits_field; low = within_one b h };
  parts = λ b us k h d f.
      let (vs, g) = same_first (a_number s n) ts us rest e h in
      (record { span = s; value = n; split = g ∙ ap (λ z. a_number s n ∷ z) (number_is (subst (λ z. IsAlternative d.tree z k) g d.spelled)) }, tt);
}

inner_is : {f : FieldTree} {us k : List Token} → IsAlternative f us k → NotNumber us → (b : Bound) → Within b (field_height f) → ALayout b us k
inner_is (bits_field {n = n}) g b w = absurd (g n refl)
inner_is (inner_field {l = l} d) g b w = record { tree = l; spelled = d; low = w }

pub inner_rule : (ts : List Token) → NotNumber ts → Rule Same [] ALayout (Above 0) AnAlternative (Above 0) ts
inner_rule ts n = record {
  make = λ b h us k r. record { tree = InnerField r.tree; spelled = inner_field r.spelled; low = r.low };
  parts = λ b us k h d f. (inner_is d.spelled (front_same _ ts us h n) b d.low, f);
}

-- ---- field
plain_is : {f : FieldTree} {us k : List Token} → IsField f us k → NotKey 19 us → (b : Bound) → Within b (field_height f) → AnAlternative b us k
plain_is (plain_field {f = f} d) n b w = record { tree = f; spelled = d; low = w }
plain_is (overlay_field d e) n b w = absurd (n refl)

pub plain_rule : (ts : List Token) → NotKey 19 ts → Rule Same [] AnAlternative (Above 0) AField (Above 0) ts
plain_rule ts n = record {
  make = λ b h us k r. record { tree = r.tree; spelled = plain_field r.spelled; low = r.low };
  parts = λ b us k h d f. (plain_is d.spelled (front_same _ ts us h n) b d.low, f);
}

-- ('|' NAME ':' alt)*
pub to_alternatives : {fs : FieldTrees} {ts k : List Token} (b : Bound) → IsMoreAlternatives fs ts k → Within b (highest_field fs) → Many NextAlternative b ts k
to_alternatives b no_alternative w = none
to_alternatives b (next_alternative {s = s} {t = t} {u = u} {x = x} {f = f} {fs = fs} {us = us} {vs = vs} d e) w =
    next (next_is s t u x us vs b (record { tree = f; spelled = d; low = max_left b (field_height f) (highest_field fs) w })) (to_alternatives b e (max_right b (field_height f) (highest_field fs) w))
  where
    next_is : (s t u : Span) (x : List ℕ) (us vs : List Token) (b : Bound) → AnAlternative b us vs → NextAlternative b (sign_bar s ∷ a_name t x ∷ sign_colon u ∷ us) vs
    next_is s t u x us vs b d = record {
      middle = a_name t x ∷ sign_colon u ∷ us;
      first = record { span = s; value = tt; split = refl };
      second = record { middle = sign_colon u ∷ us; first = record { span = t; value = x; split = refl }; second = record { middle = us; first = record { span = u; value = tt; split = refl }; second = d } };
    }

alternative_split : {b : Bound} {ts k : List Token} (d : NamedAlternative b ts k) → ts ≡ a_name d.first.span d.first.value ∷ sign_colon d.second.first.span ∷ d.second.middle
alternative_split d = d.first.split ∙ ap (λ z. a_name d.first.span d.first.value ∷ z) d.second.first.split

bar_split : {b : Bound} {ts k : List Token} (d : NextAlternative b ts k) → ts ≡ sign_bar d.first.span ∷ a_name d.second.first.span d.second.first.value ∷ sign_colon d.second.second.first.span ∷ d.second.second.middle
bar_split d = d.first.split ∙ ap (λ z. sign_bar d.first.span ∷ z) (alternative_split d.second)

more_of : {b : Bound} {fs : FieldTrees} {ts us k : List Token} (d : NextAlternative b ts us) → IsMoreAlternatives fs us k → IsMoreAlternatives (field_and d.second.first.value d.second.second.second.tree fs) ts k
more_of {fs = fs} {k = k} d e = subst (λ z. IsMoreAlternatives (field_and d.second.first.value d.second.second.second.tree fs) z k) (sym (bar_split d)) (next_alternative d.second.second.second.spelled e)

pub of_alternatives : {b : Bound} {ts k : List Token} → Many NextAlternative b ts k → Phrase IsMoreAlternatives LowFields b ts k
of_alternatives {b = b} none = record { tree = no_fields; spelled = no_alternative; low = within_zero b }
of_alternatives {b = b} (next d e) =
    let f = of_alternatives e in
    let a = d.second.second.second in
    record { tree = field_and d.second.first.value a.tree f.tree; spelled = more_of d f.spelled; low = within_max b (field_height a.tree) (highest_field f.tree) a.low f.low }

pub alternatives_listed : Listed NextAlternative (Above 0) (Above 10)
alternatives_listed = sign_listed 3 0 10 NamedAlternative (omega arith) (omega arith) (omega arith)

pub alternative_colon_fills : (room : ℕ) → 1 ≤ room → Fills (Then (ASign 21) AnAlternative) room
alternative_colon_fills room h = then_fills (one_fills room tt) (alternative_fills room h)

pub named_alternative_fills : (room : ℕ) → 1 ≤ room → Fills NamedAlternative room
named_alternative_fills room h = then_fills (one_fills room []) (alternative_colon_fills room h)

next_alternative_fills : (room : ℕ) → 1 ≤ room → Fills NextAlternative room
next_alternative_fills room h = then_fills (one_fills room tt) (named_alternative_fills room h)

-- 'overlay' '{' NAME ':' alt ('|' NAME ':' alt)+ '}'
abbrev pub OverlayEnd : Phrases
OverlayEnd = Then (Then NextAlternative (Many NextAlternative)) (ASign 27)

abbrev pub OverlayRow : Phrases
OverlayRow = Then (ASign 26) (Then NamedAlternative OverlayEnd)

some_next : {y : List ℕ} {g : FieldTree} {fs : FieldTrees} {ts k : List Token} (b : Bound) → IsMoreAlternatives (field_and y g fs) ts k → Within b (max (field_height g) (highest_field fs)) → Then NextAlternative (Many NextAlternative) b ts k
some_next b (next_alternative {s = s} {t = t} {u = u} {x = x} {f = g} {fs = fs} {us = us} {vs = vs} d e) w = record {
  middle = vs;
  first = record {
    middle = a_name t x ∷ sign_colon u ∷ us;
    first = record { span = s; value = tt; split = refl };
    second = record {
      middle = sign_colon u ∷ us;
      first = record { span = t; value = x; split = refl };
      second = record { middle = us; first = record { span = u; value = tt; split = refl }; second = record { tree = g; spelled = d; low = max_left b (field_height g) (highest_field fs) w } };
    };
  };
  second = to_alternatives b e (max_right b (field_height g) (highest_field fs) w);
}

overlay_is : {f : FieldTree} {s : Span} {us k : List Token} → IsField f (key_overlay s ∷ us) k → (b : Bound) → Within b (field_height f) → OverlayRow (part_of Inside b) us k
overlay_is (plain_field d) b w = absurd (overlay_no_alternative d)
overlay_is (overlay_field {t = t} {u = u} {v = v} {w = c} {x = x} {y = y} {f = p} {g = q} {fs = ps} {us = us} {vs = vs} {k = k} d e) b w =
    let i = node_within b (max (field_height p) (max (field_height q) (highest_field ps))) w in
    record {
      middle = a_name u x ∷ sign_colon v ∷ us;
      first = record { span = t; value = tt; split = refl };
      second = record {
        middle = vs;
        first = record {
          middle = sign_colon v ∷ us;
          first = record { span = u; value = x; split = refl };
          second = record { middle = us; first = record { span = v; value = tt; split = refl }; second = record { tree = p; spelled = d; low = max_left (part_of Inside b) (field_height p) (max (field_height q) (highest_field ps)) i } };
        };
        second = record {
          middle = sign_close_brace c ∷ k;
          first = some_next (part_of Inside b) e (max_right (part_of Inside b) (field_height p) (max (field_height q) (highest_field ps)) i);
          second = record { span = c; value = tt; split = refl };
        };
      };
    }

overlay_made : {s : Span} {us k : List Token} (b : Bound) → HasRoom b → OverlayRow (part_of Inside b) us k → AField b (key_overlay s ∷ us) k
overlay_made {s = s} {k = k} b h r =
    let p = r.second.first in
    let n = r.second.second.first in
    let q = n.first.second in
    let f = of_alternatives n.second in
    let a = p.second.second in
    let c = q.second.second in
    record {
      tree = OverlayField (field_and p.first.value a.tree (field_and q.first.value c.tree f.tree));
      spelled = subst (λ z. IsField (OverlayField (field_and p.first.value a.tree (field_and q.first.value c.tree f.tree))) (key_overlay s ∷ z) k) (sym (r.first.split ∙ ap (λ z. sign_open_brace r.first.span ∷ z) (alternative_split p)))
          (overlay_field a.spelled (subst (λ z. IsMoreAlternatives (field_and q.first.value c.tree f.tree) r.second.middle z) r.second.second.second.split (more_of n.first f.spelled)));
      low = within_node b (max (field_height a.tree) (max (field_height c.tree) (highest_field f.tree))) h (within_max (part_of Inside b) (field_height a.tree) (max (field_height c.tree) (highest_field f.tree)) a.low
          (within_max (part_of Inside b) (field_height c.tree) (highest_field f.tree) c.low f.low));
    }

pub overlay_rule : (s : Span) (ts : List Token) → Rule Inside (key_overlay s ∷ []) OverlayRow Anything AField (Above 0) ts
overlay_rule s ts = record { make = λ b h us k r. overlay_made b h r; parts = λ b us k h d f. (overlay_is d.spelled b d.low, tt) }

pub overlay_carries : Carries OverlayEnd Anything (Above 0)
overlay_carries = then_carries (then_carries (then_carries (one_carries {G = Anything} 0 (λ x. omega arith)) (carries_anything {G = Anything})) (carries_anything {G = Anything})) carries_anything

pub overlay_fills : (room : ℕ) → 1 ≤ room → Fills OverlayEnd room
overlay_fills room h = then_fills (then_fills (next_alternative_fills room h) (many_fills room)) (one_fills room tt)

pub row_fills : (room : ℕ) → 1 ≤ room → Fills (Then NamedAlternative OverlayEnd) room
row_fills room h = then_fills (named_alternative_fills room h) (overlay_fills room h)

-- no bar after the first alternative
pub bar_fails : (room : ℕ) → 1 ≤ room → (ts : List Token) (e : Failure) → IsSyntax ts e × NotSign 3 ts → FailsAs OverlayEnd Anything room ts e
bar_fails room h ts e f =
    first_fails (one_carries 10 (λ x. omega arith)) (one_fills room tt) (first_fails {F = Above 0} {G = Above 10} (many_carries alternatives_listed) (many_fills room) (first_fails {F = Anything} carries_anything (named_alternative_fills room h) (sign_fails 3 room ts e f)))

pub alternatives_fail : {room : ℕ} {ts : List Token} {e : Failure} → 1 ≤ room → FailsAs (Many NextAlternative) (Above 10) room ts e → FailsAs OverlayEnd Anything room ts e
alternatives_fail {room = room} h d = first_fails (one_carries 10 (λ x. omega arith)) (one_fills room tt) (some_fails (next_alternative_fills room h) d)

pub close_fails : {room : ℕ} {ts rest : List Token} {e : Failure} → (rest ≡ ts → ⊥) → Reads (Many NextAlternative) (Above 10) room ts rest → FailsAs (ASign 27) Anything room rest e → FailsAs OverlayEnd Anything room ts e
close_fails n d e = then_fails (one_carries 10 (λ x. omega arith)) (some_reads n d) e

pub close_reads : {room : ℕ} {ts us rest : List Token} → (us ≡ ts → ⊥) → Reads (Many NextAlternative) (Above 10) room ts us → Reads (ASign 27) Anything room us rest → Reads OverlayEnd Anything room ts rest
close_reads n d e = then_reads (one_carries 10 (λ x. omega arith)) (some_reads n d) e

pub starts_overlay : {s : Span} {ts rest : List Token} → ts ≡ key_overlay s ∷ rest → Starts AField ts
starts_overlay {s = s} {rest = rest} e = record {
  token = key_overlay s;
  rest = rest;
  split = e;
  on = record {
    more = sign_open_brace no_span ∷ a_name no_span [] ∷ sign_colon no_span ∷ a_number no_span 0 ∷ sign_bar no_span ∷ a_name no_span [] ∷ sign_colon no_span ∷ a_number no_span 0 ∷ sign_close_brace no_span ∷ [];
    spelled = λ k. record { tree = OverlayField (field_and [] (BitsField 0) (field_and [] (BitsField 0) no_fields)); spelled = overlay_field bits_field (next_alternative bits_field no_alternative); low = tt };
  };
}

overlay_high : {f : FieldTree} {s : Span} {us k : List Token} → IsField f (key_overlay s ∷ us) k → 2 ≤ field_height f
overlay_high (plain_field d) = absurd (overlay_no_alternative d)
overlay_high (overlay_field {f = f} d e) = let h = field_high f in omega arith

pub no_overlay : (s : Span) (room : ℕ) (ts rest : List Token) → room ≡ 1 → ts ≡ key_overlay s ∷ rest → (us k : List Token) → SameFront ts us → AField (AtMost room) us k → Above 0 k → ⊥
no_overlay s room ts rest r e us k h d f =
    let (vs, g) = same_first (key_overlay s) ts us rest e h in
    let i = overlay_high (subst (λ z. IsField d.tree z k) g d.spelled) in
    let j : field_height d.tree ≤ room = d.low in
    absurd (omega arith)

-- ---- layout

-- a layout's first part
pub atom_whole : (b : Bound) (us k : List Token) → ALayoutAtom b us k → ALayout b us k
atom_whole b us k d = record { tree = d.tree; spelled = one_layout d.spelled; low = d.low }

first_is : {l : LayoutTree} {us k : List Token} → IsLayout l us k → (b : Bound) → Within b (layout_height l) → FirstPart ALayoutAtom Anything b us
first_is (one_layout {l = l} {k = k} d) b w = record { middle = k; part = record { tree = l; spelled = d; low = w }; follow = tt }
first_is (joined_layouts {l = l} {m = m} {ls = ls} {us = us} d e) b w = record { middle = us; part = record { tree = l; spelled = d; low = max_left b (layout_height l) (max (layout_height m) (highest_layout ls)) (within_more b (max (layout_height l) (max (layout_height m) (highest_layout ls))) w) }; follow = tt }

pub atom_first : (b : Bound) (us k : List Token) → ALayout b us k → Above 0 k → FirstPart ALayoutAtom Anything b us
atom_first b us k d f = first_is d.spelled b d.low

-- an atom is read one way
pub record AtomFrame (l : LayoutTree) (ts rest : List Token) : Type 0 where
  pub seen : List Token
  pub split : ts ≡ seen ++ rest
  pub all : (k : List Token) → IsLayoutAtom l (seen ++ k) k

pub atom_frame : {l : LayoutTree} {ts rest : List Token} → IsLayoutAtom l ts rest → AtomFrame l ts rest
atom_frame d = let f = frame_atom d in record { seen = f.front; split = f.split; all = f.all }

-- nothing is joined to it
joined_none : {ls : LayoutTrees} {m : LayoutTree} {us k : List Token} → IsMoreLayouts (layout_and m ls) us k → NotSign 30 us → ⊥
joined_none (next_layout d e) n = n refl

alone : {x l : LayoutTree} (seen : List Token) {us k : List Token} → IsLayout x (seen ++ us) k → IsLayoutAtom l (seen ++ us) us → NotSign 30 us → k ≡ us
alone seen (one_layout d) e n = (det_layout_atom d e).1
alone seen {us = us} (joined_layouts {m = m} {ls = ls} {k = k} d f) e n = absurd (joined_none (subst (λ z. IsMoreLayouts (layout_and m ls) z k) (det_layout_atom d e).1 f) n)

low_atom : (low : Bool) (room : ℕ) (l : LayoutTree) → layout_height l ≤ room → Within (bound_of low room) (layout_height l)
low_atom false room l h = tt
low_atom true room l h = h

pub atom_reads : {l : LayoutTree} (room : ℕ) {ts rest : List Token} → IsLayoutAtom l ts rest → layout_height l ≤ room → NotSign 30 rest → Reads ALayout (Above 0) room ts rest
atom_reads {l = l} room {rest = rest} d h n =
    let f = atom_frame d in
    record {
      seen = f.seen;
      split = f.split;
      again = λ low k. record { tree = l; spelled = one_layout (f.all k); low = low_atom low room l h };
      only = λ low us k g e i. alone f.seen e.spelled (f.all us) (front_same _ rest us g n);
    }

-- layouts joined to it
pub to_layouts : {ls : LayoutTrees} {ts k : List Token} (b : Bound) → IsMoreLayouts ls ts k → Within b (highest_layout ls) → Many NextLayout b ts k
to_layouts b no_layout w = none
to_layouts b (next_layout {s = s} {l = l} {ls = ls} {us = us} d e) w =
    next (record { middle = us; first = record { span = s; value = tt; split = refl }; second = record { tree = l; spelled = d; low = max_left b (layout_height l) (highest_layout ls) w } })
    (to_layouts b e (max_right b (layout_height l) (highest_layout ls) w))

next_of : {b : Bound} {ls : LayoutTrees} {ts us k : List Token} (d : NextLayout b ts us) → IsMoreLayouts ls us k → IsMoreLayouts (layout_and d.second.tree ls) ts k
next_of {ls = ls} {k = k} d e = subst (λ z. IsMoreLayouts (layout_and d.second.tree ls) z k) (sym d.first.split) (next_layout d.second.spelled e)

pub of_layouts : {b : Bound} {ts k : List Token} → Many NextLayout b ts k → Phrase IsMoreLayouts LowLayouts b ts k
of_layouts {b = b} none = record { tree = no_layouts; spelled = no_layout; low = within_zero b }
of_layouts {b = b} (next d e) =
    let f = of_layouts e in
    record { tree = layout_and d.second.tree f.tree; spelled = next_of d f.spelled; low = within_max b (layout_height d.second.tree) (highest_layout f.tree) d.second.low f.low }

-- '##' follows no layout
pub layouts_listed : Listed NextLayout Anything (Above 0)
layouts_listed = record {
  starts = λ b ts k d. tt;
  ends = λ b ts us k d s f.
      let (vs, g) = same_first (at d.first.span (Sign 30)) ts us d.middle d.first.split s in
      let i : Above 0 (at d.first.span (Sign 30) ∷ vs) = subst (λ z. Above 0 z) g f in
      absurd (omega arith);
  over = λ k g. tt;
}

pub next_layout_fills : (room : ℕ) → 1 ≤ room → Fills NextLayout room
next_layout_fills room h = then_fills (one_fills room tt) (atom_fills room h)

some_layout : {m : LayoutTree} {ls : LayoutTrees} {ts k : List Token} (b : Bound) → IsMoreLayouts (layout_and m ls) ts k → Within b (max (layout_height m) (highest_layout ls)) → Then NextLayout (Many NextLayout) b ts k
some_layout b (next_layout {s = s} {l = m} {ls = ls} {us = us} {vs = vs} d e) w = record {
  middle = vs;
  first = record { middle = us; first = record { span = s; value = tt; split = refl }; second = record { tree = m; spelled = d; low = max_left b (layout_height m) (highest_layout ls) w } };
  second = to_layouts b e (max_right b (layout_height m) (highest_layout ls) w);
}

joined_row : {x l : LayoutTree} (seen : List Token) {us k : List Token} (low : Bool) (room : ℕ) → IsLayout x (seen ++ us) k → IsLayoutAtom l (seen ++ us) us → Above 0 k → (Above 0 us → ⊥) → Within (bound_of low room) (layout_height x) → Then NextLayout (Many NextLayout) (bound_of low (room - 1)) us k
joined_row seen low room (one_layout d) e f n w = absurd (n (subst (λ z. Above 0 z) (det_layout_atom d e).1 f))
joined_row seen {us = us} low room (joined_layouts {l = l} {m = m} {ls = ls} {us = vs} {k = k} d g) e f n w =
    subst (λ z. Then NextLayout (Many NextLayout) (bound_of low (room - 1)) z k) (det_layout_atom d e).1 (some_layout (bound_of low (room - 1)) g (less low room (max (layout_height m) (highest_layout ls)) (layout_height l) w))
  where
    less : (low : Bool) (room n o : ℕ) → Within (bound_of low room) (1 + max o n) → Within (bound_of low (room - 1)) n
    less false room n o w = tt
    less true room n o w = omega arith

joined_made : {l : LayoutTree} {ts us k : List Token} (low : Bool) (room : ℕ) → IsLayoutAtom l ts us → layout_height l + 1 ≤ room → Then NextLayout (Many NextLayout) (bound_of low (room - 1)) us k → ALayout (bound_of low room) ts k
joined_made {l = l} low room d h r =
    let f = of_layouts r.second in
    record {
      tree = JoinedLayout (layout_and l (layout_and r.first.second.tree f.tree));
      spelled = joined_layouts d (next_of r.first f.spelled);
      low = more low room (layout_height l) (max (layout_height r.first.second.tree) (highest_layout f.tree)) h (within_max (bound_of low (room - 1)) (layout_height r.first.second.tree) (highest_layout f.tree) r.first.second.low f.low);
    }
  where
    more : (low : Bool) (room o n : ℕ) → o + 1 ≤ room → Within (bound_of low (room - 1)) n → Within (bound_of low room) (1 + max o n)
    more false room o n h w = tt
    more true room o n h w = omega arith

-- after an atom with '##' in front
pub joined_rule : {l : LayoutTree} {ts rest : List Token} (room : ℕ) (d : AtomFrame l ts rest) → layout_height l + 1 ≤ room → ((us : List Token) → SameFront rest us → Above 0 us → ⊥) → RuleAt room (room - 1) d.seen (Then NextLayout (Many NextLayout)) (Above 0) ALayout (Above 0) rest
joined_rule room d h n = record {
  make = λ low us k r. joined_made low room (d.all us) h r;
  row = λ low us k s e f. joined_row d.seen low room e.spelled (d.all us) f (n us s) e.low;
  follow = λ low us k s e f. f;
}

-- an atom as high as the room has nothing joined to it
pub atom_completes : {l : LayoutTree} {ts rest : List Token} (room : ℕ) (d : AtomFrame l ts rest) → layout_height l ≤ room → Completes (HasRead d.seen ALayout) (AtMost room) []
atom_completes {l = l} room d h = record { more = []; spelled = λ k. record { whole = record { tree = l; spelled = one_layout (d.all k); low = h } } }

pub join_starts : {l : LayoutTree} {s : Span} {ts us rest : List Token} (d : AtomFrame l ts us) → us ≡ sign_join s ∷ rest → Starts (HasRead d.seen ALayout) us
join_starts {l = l} {s = s} {rest = rest} d e = record {
  token = sign_join s;
  rest = rest;
  split = e;
  on = record {
    more = a_name no_span [] ∷ [];
    spelled = λ k. record { whole = record { tree = JoinedLayout (layout_and l (layout_and (NamedLayout []) no_layouts)); spelled = joined_layouts (d.all (sign_join s ∷ a_name no_span [] ∷ k)) (next_layout named_layout no_layout); low = tt } };
  };
}

too_high : {x l : LayoutTree} (seen : List Token) {us k : List Token} (room : ℕ) → IsLayout x (seen ++ us) k → IsLayoutAtom l (seen ++ us) us → (Above 0 us → ⊥) → Above 0 k → layout_height x ≤ room → layout_height l ≡ room → ⊥
too_high seen room (one_layout d) e n f w h = n (subst (λ z. Above 0 z) (det_layout_atom d e).1 f)
too_high seen room (joined_layouts {l = l} {m = m} {ls = ls} d g) e n f w h = let i = ap layout_height (det_layout_atom d e).0 in absurd (omega arith)

pub join_dead : {l : LayoutTree} {ts rest : List Token} (room : ℕ) (d : AtomFrame l ts rest) → layout_height l ≡ room → ((us : List Token) → SameFront rest us → Above 0 us → ⊥) → (us k : List Token) → SameFront rest us → HasRead d.seen ALayout (AtMost room) us k → Above 0 k → ⊥
join_dead room d h n us k s e f = too_high d.seen room e.whole.spelled (d.all us) (n us s) f e.whole.low h

-- The rules of types, and what they are read by.
use Rattle.std.proofs.Common.{◌≡◌, refl, sym, ◌∙◌, ap, subst, ℕ, ◌≤◌, max, List, [], ◌∷◌, arith, true}
use Rattle.nv_ast.specs.declared.token.Span.{Span}
use Rattle.nv_ast.specs.declared.token.Token.{Token}
use Rattle.nv_ast.specs.Tokens.{a_name, a_number, key_word, key_bool, key_packed, key_unpacked, sign_open, sign_close, sign_open_bracket, sign_close_bracket, sign_open_brace, sign_close_brace, sign_comma, sign_colon}
use Rattle.nv_ast.specs.Tree.{TypeTree, WordType, BoolType, PackedType, UnpackedType, TupleType, RecordType, TypeTrees, no_types, type_and, NamedTypes, no_named_types, named_type_and}
use Rattle.nv_ast.specs.Height.{type_height, highest_type, highest_named_type}
use Rattle.nv_ast.specs.Grammar.{IsType, word_type, words_type, bool_type, packed_type, unpacked_type, unit_type, tuple_type, record_type, IsMoreTypes, no_type, next_type, IsMoreNamedTypes, no_named_type, next_named_type, IsTypes, empty_types, some_types, IsParams, empty_params, some_params}
use Rattle.nv_text_parser.specs.declared.cursor.Failure.{Failure}
use Rattle.nv_text_parser.specs.inner.Cursor.{NotSign, NotKey, IsSyntax}
use Rattle.nv_text_parser.specs.inner.Failing.{Bound, AtMost, Within, HasRoom, Same, Inside, part_of, bound_of, Phrases, Anything, Ahead, Phrase, ASign, AKey, ANumber, Then, Many, none, next, HasRead, SameFront, Completes, Starts, StartsNone, Reads, FailsAs}
use Rattle.nv_text_parser.specs.inner.Phrases.{LowTypes, LowNamedTypes, AType, SomeTypes, SomeParams, NextType, NamedType, NextNamedType, NameInBrackets}
use Rattle.nv_text_parser.proofs.Bounds.{within_one, within_node, node_within, within_max, max_left, max_right, within_zero, room_here}
use Rattle.nv_text_parser.proofs.Follow.{Above, close_starts_no_type, type_first}
use Rattle.nv_text_parser.proofs.Sequence.{front_same, same_first, Fills, Carries, Rule, Listed, sign_listed, ahead_above, not_ahead, one_fills, then_fills, many_fills, many_carries, then_carries, first_fails, then_fails, then_reads, some_fails, some_reads, sign_fails, one_carries, carries_anything}

no_span : Span
no_span = record { first = 0; after = 0 }

pub type_fills : (room : ℕ) → 1 ≤ room → Fills AType room
type_fills room h = record { with_ = λ low. record { more = key_bool no_span ∷ []; spelled = λ k. record { tree = BoolType; spelled = bool_type; low = within_one (bound_of low room) (room_here low room h) } } }

pub type_completes : (room : ℕ) → 1 ≤ room → Completes AType (AtMost room) []
type_completes room h = (type_fills room h).with_ true

-- ---- 'word' and what follows it
word_is : {a : TypeTree} {s : Span} {us k : List Token} → IsType a (key_word s ∷ us) k → NotSign 28 us → k ≡ us
word_is word_type f = refl
word_is words_type f = absurd (f refl)

pub word_ends : (s : Span) (room : ℕ) → 1 ≤ room → (ts : List Token) → NotSign 28 ts → Reads (HasRead (key_word s ∷ []) AType) (Above 0) room ts ts
word_ends s room h ts n = record {
  seen = [];
  split = refl;
  again = λ low k. record { whole = record { tree = WordType 1; spelled = word_type; low = within_one (bound_of low room) (room_here low room h) } };
  only = λ low us k g d f. word_is d.whole.spelled (front_same _ ts us g n);
}

-- '[' NUM ']'
abbrev pub CountRow : Phrases
CountRow = Then (ASign 28) (Then ANumber (ASign 29))

words_is : {a : TypeTree} {s t : Span} {us vs k : List Token} → IsType a (key_word s ∷ us) k → us ≡ sign_open_bracket t ∷ vs → Above 0 k → (b : Bound) → CountRow b us k
words_is {t = t} {vs = vs} word_type e f b = let h : Above 0 (sign_open_bracket t ∷ vs) = subst (λ z. Above 0 z) e f in absurd (omega arith)
words_is (words_type {t = t} {u = u} {v = v} {n = n} {k = k}) e f b = record {
  middle = a_number u n ∷ sign_close_bracket v ∷ k;
  first = record { span = t; value = tt; split = refl };
  second = record { middle = sign_close_bracket v ∷ k; first = record { span = u; value = n; split = refl }; second = record { span = v; value = tt; split = refl } };
}

words_made : {s : Span} {us k : List Token} (b : Bound) → HasRoom b → CountRow b us k → AType b (key_word s ∷ us) k
words_made {s = s} {k = k} b h r = record {
  tree = WordType r.second.first.value;
  spelled = subst (λ z. IsType (WordType r.second.first.value) (key_word s ∷ z) k) (sym (r.first.split ∙ ap (λ z. sign_open_bracket r.first.span ∷ z) (r.second.first.split ∙ ap (λ z. a_number r.second.first.span r.second.first.value ∷ z) r.second.second.split))) words_type;
  low = within_one b h;
}

pub words_rule : (s t : Span) (ts rest : List Token) → ts ≡ sign_open_bracket t ∷ rest → Rule Same (key_word s ∷ []) CountRow Anything AType (Above 0) ts
words_rule s t ts rest e = record {
  make = λ b h us k r. words_made b h r;
  parts = λ b us k h d f. let (vs, g) = same_first (sign_open_bracket t) ts us rest e h in (words_is {t = t} {vs = vs} d.spelled g f b, tt);
}

pub count_fills : (room : ℕ) → Fills (Then ANumber (ASign 29)) room
count_fills room = then_fills (one_fills room 0) (one_fills room tt)

-- ---- 'bool'
bool_is : {a : TypeTree} {s : Span} {us k : List Token} → IsType a (key_bool s ∷ us) k → us ≡ k
bool_is bool_type = refl

pub bool_rule : (s : Span) (ts rest : List Token) → ts ≡ key_bool s ∷ rest → Rule Same [] (AKey 16) Anything AType (Above 0) ts
bool_rule s ts rest e = record {
  make = λ b h us k r. record { tree = BoolType; spelled = subst (λ z. IsType BoolType z k) (sym r.split) bool_type; low = within_one b h };
  parts = λ b us k h d f.
      let (vs, g) = same_first (key_bool s) ts us rest e h in
      (record { span = s; value = tt; split = g ∙ ap (λ z. key_bool s ∷ z) (bool_is (subst (λ z. IsType d.tree z k) g d.spelled)) }, tt);
}

-- ---- 'packed' '(' NAME ')'
in_brackets : (s t u : Span) (x : List ℕ) (k : List Token) (b : Bound) → NameInBrackets b (sign_open s ∷ a_name t x ∷ sign_close u ∷ k) k
in_brackets s t u x k b = record {
  middle = a_name t x ∷ sign_close u ∷ k;
  first = record { span = s; value = tt; split = refl };
  second = record { middle = sign_close u ∷ k; first = record { span = t; value = x; split = refl }; second = record { span = u; value = tt; split = refl } };
}

bracket_split : {b : Bound} {us k : List Token} (r : NameInBrackets b us k) → us ≡ sign_open r.first.span ∷ a_name r.second.first.span r.second.first.value ∷ sign_close r.second.second.span ∷ k
bracket_split r = r.first.split ∙ ap (λ z. sign_open r.first.span ∷ z) (r.second.first.split ∙ ap (λ z. a_name r.second.first.span r.second.first.value ∷ z) r.second.second.split)

packed_is : {a : TypeTree} {s : Span} {us k : List Token} → IsType a (key_packed s ∷ us) k → (b : Bound) → NameInBrackets b us k
packed_is (packed_type {t = t} {u = u} {v = v} {x = x} {k = k}) b = in_brackets t u v x k b

pub packed_rule : (s : Span) (ts : List Token) → Rule Same (key_packed s ∷ []) NameInBrackets Anything AType (Above 0) ts
packed_rule s ts = record {
  make = λ b h us k r. record { tree = PackedType r.second.first.value; spelled = subst (λ z. IsType (PackedType r.second.first.value) (key_packed s ∷ z) k) (sym (bracket_split r)) packed_type; low = within_one b h };
  parts = λ b us k h d f. (packed_is d.spelled b, tt);
}

unpacked_is : {a : TypeTree} {s : Span} {us k : List Token} → IsType a (key_unpacked s ∷ us) k → (b : Bound) → NameInBrackets b us k
unpacked_is (unpacked_type {t = t} {u = u} {v = v} {x = x} {k = k}) b = in_brackets t u v x k b

pub unpacked_rule : (s : Span) (ts : List Token) → Rule Same (key_unpacked s ∷ []) NameInBrackets Anything AType (Above 0) ts
unpacked_rule s ts = record {
  make = λ b h us k r. record { tree = UnpackedType r.second.first.value; spelled = subst (λ z. IsType (UnpackedType r.second.first.value) (key_unpacked s ∷ z) k) (sym (bracket_split r)) unpacked_type; low = within_one b h };
  parts = λ b us k h d f. (unpacked_is d.spelled b, tt);
}

-- ---- '(' ')'
unit_is : {a : TypeTree} {s t : Span} {vs k : List Token} → IsType a (sign_open s ∷ sign_close t ∷ vs) k → vs ≡ k
unit_is unit_type = refl
unit_is (tuple_type d e) = absurd (close_starts_no_type d)

pub unit_rule : (s t : Span) (ts rest : List Token) → ts ≡ sign_close t ∷ rest → Rule Same (sign_open s ∷ []) (ASign 25) Anything AType (Above 0) ts
unit_rule s t ts rest e = record {
  make = λ b h us k r. record { tree = TupleType no_types; spelled = subst (λ z. IsType (TupleType no_types) (sign_open s ∷ z) k) (sym r.split) unit_type; low = within_one b h };
  parts = λ b us k h d f.
      let (vs, g) = same_first (sign_close t) ts us rest e h in
      (record { span = t; value = tt; split = g ∙ ap (λ z. sign_close t ∷ z) (unit_is (subst (λ z. IsType d.tree (sign_open s ∷ z) k) g d.spelled)) }, tt);
}

-- ---- (',' type)*
pub to_types : {as_ : TypeTrees} {ts k : List Token} (b : Bound) → IsMoreTypes as_ ts k → Within b (highest_type as_) → Many NextType b ts k
to_types b no_type w = none
to_types b (next_type {s = s} {a = a} {bs = bs} {us = us} d e) w =
    next (record { middle = us; first = record { span = s; value = tt; split = refl }; second = record { tree = a; spelled = d; low = max_left b (type_height a) (highest_type bs) w } })
    (to_types b e (max_right b (type_height a) (highest_type bs) w))

next_of : {b : Bound} {bs : TypeTrees} {ts us k : List Token} (d : NextType b ts us) → IsMoreTypes bs us k → IsMoreTypes (type_and d.second.tree bs) ts k
next_of {bs = bs} {k = k} d e = subst (λ z. IsMoreTypes (type_and d.second.tree bs) z k) (sym d.first.split) (next_type d.second.spelled e)

pub of_types : {b : Bound} {ts k : List Token} → Many NextType b ts k → Phrase IsMoreTypes LowTypes b ts k
of_types {b = b} none = record { tree = no_types; spelled = no_type; low = within_zero b }
of_types {b = b} (next d e) =
    let f = of_types e in
    record { tree = type_and d.second.tree f.tree; spelled = next_of d f.spelled; low = within_max b (type_height d.second.tree) (highest_type f.tree) d.second.low f.low }

pub types_listed : Listed NextType (Above 0) (Above 10)
types_listed = sign_listed 22 0 10 AType (omega arith) (omega arith) (omega arith)

-- ---- '(' type (',' type)+ ')'
abbrev pub TupleEnd : Phrases
TupleEnd = Then (Then NextType (Many NextType)) (ASign 25)

abbrev pub TupleRow : Phrases
TupleRow = Then AType TupleEnd

some_next : {a : TypeTree} {bs : TypeTrees} {ts k : List Token} (b : Bound) → IsMoreTypes (type_and a bs) ts k → Within b (max (type_height a) (highest_type bs)) → Then NextType (Many NextType) b ts k
some_next b (next_type {s = s} {a = a} {bs = bs} {us = us} {vs = vs} d e) w = record {
  middle = vs;
  first = record { middle = us; first = record { span = s; value = tt; split = refl }; second = record { tree = a; spelled = d; low = max_left b (type_height a) (highest_type bs) w } };
  second = to_types b e (max_right b (type_height a) (highest_type bs) w);
}

tuple_is : {x : TypeTree} {s : Span} {us k : List Token} → IsType x (sign_open s ∷ us) k → NotSign 25 us → (b : Bound) → Within b (type_height x) → TupleRow (part_of Inside b) us k
tuple_is unit_type f b w = absurd (f refl)
tuple_is (tuple_type {t = t} {a = p} {b = q} {cs = ps} {vs = vs} {k = k} d e) f b w =
    let v = node_within b (max (type_height p) (max (type_height q) (highest_type ps))) w in
    record {
      middle = vs;
      first = record { tree = p; spelled = d; low = max_left (part_of Inside b) (type_height p) (max (type_height q) (highest_type ps)) v };
      second = record {
        middle = sign_close t ∷ k;
        first = some_next (part_of Inside b) e (max_right (part_of Inside b) (type_height p) (max (type_height q) (highest_type ps)) v);
        second = record { span = t; value = tt; split = refl };
      };
    }

tuple_made : {s : Span} {us k : List Token} (b : Bound) → HasRoom b → TupleRow (part_of Inside b) us k → AType b (sign_open s ∷ us) k
tuple_made b h r =
    let n = r.second.first in
    let f = of_types n.second in
    record {
      tree = TupleType (type_and r.first.tree (type_and n.first.second.tree f.tree));
      spelled = tuple_type r.first.spelled (subst (λ z. IsMoreTypes (type_and n.first.second.tree f.tree) r.middle z) r.second.second.split (next_of n.first f.spelled));
      low = within_node b (max (type_height r.first.tree) (max (type_height n.first.second.tree) (highest_type f.tree))) h (within_max (part_of Inside b) (type_height r.first.tree) (max (type_height n.first.second.tree) (highest_type f.tree)) r.first.low
          (within_max (part_of Inside b) (type_height n.first.second.tree) (highest_type f.tree) n.first.second.low f.low));
    }

pub tuple_rule : (s : Span) (ts : List Token) → NotSign 25 ts → Rule Inside (sign_open s ∷ []) TupleRow Anything AType (Above 0) ts
tuple_rule s ts n = record { make = λ b h us k r. tuple_made b h r; parts = λ b us k h d f. (tuple_is d.spelled (front_same _ ts us h n) b d.low, tt) }

-- what stands after the first part begins with a comma
pub tuple_carries : Carries TupleEnd Anything (Above 0)
tuple_carries = then_carries (then_carries (then_carries (one_carries {G = Anything} 0 (λ x. omega arith)) (carries_anything {G = Anything})) (carries_anything {G = Anything})) carries_anything

-- no type is 0 high
type_high : (a : TypeTree) → 1 ≤ type_height a
type_high (WordType n) = omega arith
type_high BoolType = omega arith
type_high (PackedType x) = omega arith
type_high (UnpackedType x) = omega arith
type_high (TupleType as_) = omega arith
type_high (RecordType as_) = omega arith

pub none_low : (us k : List Token) → AType (AtMost 0) us k → ⊥
none_low us k d = let h = type_high d.tree in let g : type_height d.tree ≤ 0 = d.low in absurd (omega arith)

next_fills : (room : ℕ) → 1 ≤ room → Fills NextType room
next_fills room h = then_fills (one_fills room tt) (type_fills room h)

pub end_fills : (room : ℕ) → 1 ≤ room → Fills TupleEnd room
end_fills room h = then_fills (then_fills (next_fills room h) (many_fills room)) (one_fills room tt)

-- no comma after the first part
pub comma_fails : (room : ℕ) → 1 ≤ room → (ts : List Token) (e : Failure) → IsSyntax ts e × NotSign 22 ts → FailsAs TupleEnd Anything room ts e
comma_fails room h ts e f = first_fails (one_carries 10 (λ x. omega arith)) (one_fills room tt) (first_fails {F = Above 0} {G = Above 10} (many_carries types_listed) (many_fills room) (first_fails {F = Anything} carries_anything (type_fills room h) (sign_fails 22 room ts e f)))

pub parts_fail : {room : ℕ} {ts : List Token} {e : Failure} → 1 ≤ room → FailsAs (Many NextType) (Above 10) room ts e → FailsAs TupleEnd Anything room ts e
parts_fail {room = room} h d = first_fails (one_carries 10 (λ x. omega arith)) (one_fills room tt) (some_fails (next_fills room h) d)

pub close_fails : {room : ℕ} {ts rest : List Token} {e : Failure} → (rest ≡ ts → ⊥) → Reads (Many NextType) (Above 10) room ts rest → FailsAs (ASign 25) Anything room rest e → FailsAs TupleEnd Anything room ts e
close_fails n d e = then_fails (one_carries 10 (λ x. omega arith)) (some_reads n d) e

pub close_reads : {room : ℕ} {ts us rest : List Token} → (us ≡ ts → ⊥) → Reads (Many NextType) (Above 10) room ts us → Reads (ASign 25) Anything room us rest → Reads TupleEnd Anything room ts rest
close_reads n d e = then_reads (one_carries 10 (λ x. omega arith)) (some_reads n d) e

pub open_completes : (s : Span) (room : ℕ) → 1 ≤ room → Completes (HasRead (sign_open s ∷ []) AType) (AtMost room) []
open_completes s room h = record { more = sign_close no_span ∷ []; spelled = λ k. record { whole = record { tree = TupleType no_types; spelled = unit_type; low = h } } }

-- ---- (',' NAME ':' type)*
pub to_named : {as_ : NamedTypes} {ts k : List Token} (b : Bound) → IsMoreNamedTypes as_ ts k → Within b (highest_named_type as_) → Many NextNamedType b ts k
to_named b no_named_type w = none
to_named b (next_named_type {s = s} {t = t} {u = u} {x = x} {a = a} {bs = bs} {us = us} {vs = vs} d e) w =
    next (record {
      middle = a_name t x ∷ sign_colon u ∷ us;
      first = record { span = s; value = tt; split = refl };
      second = named t u x us vs b (record { tree = a; spelled = d; low = max_left b (type_height a) (highest_named_type bs) w });
    })
    (to_named b e (max_right b (type_height a) (highest_named_type bs) w))
  where
    named : (t u : Span) (x : List ℕ) (us vs : List Token) (b : Bound) → AType b us vs → NamedType b (a_name t x ∷ sign_colon u ∷ us) vs
    named t u x us vs b d = record { middle = sign_colon u ∷ us; first = record { span = t; value = x; split = refl }; second = record { middle = us; first = record { span = u; value = tt; split = refl }; second = d } }

named_split : {b : Bound} {ts k : List Token} (d : NamedType b ts k) → ts ≡ a_name d.first.span d.first.value ∷ sign_colon d.second.first.span ∷ d.second.middle
named_split d = d.first.split ∙ ap (λ z. a_name d.first.span d.first.value ∷ z) d.second.first.split

next_named_split : {b : Bound} {ts k : List Token} (d : NextNamedType b ts k) → ts ≡ sign_comma d.first.span ∷ a_name d.second.first.span d.second.first.value ∷ sign_colon d.second.second.first.span ∷ d.second.second.middle
next_named_split d = d.first.split ∙ ap (λ z. sign_comma d.first.span ∷ z) (named_split d.second)

pub of_named : {b : Bound} {ts k : List Token} → Many NextNamedType b ts k → Phrase IsMoreNamedTypes LowNamedTypes b ts k
of_named {b = b} none = record { tree = no_named_types; spelled = no_named_type; low = within_zero b }
of_named {b = b} {k = k} (next d e) =
    let f = of_named e in
    let a = d.second.second.second in
    record {
      tree = named_type_and d.second.first.value a.tree f.tree;
      spelled = subst (λ z. IsMoreNamedTypes (named_type_and d.second.first.value a.tree f.tree) z k) (sym (next_named_split d)) (next_named_type a.spelled f.spelled);
      low = within_max b (type_height a.tree) (highest_named_type f.tree) a.low f.low;
    }

pub named_listed : Listed NextNamedType (Above 0) (Above 10)
named_listed = sign_listed 22 0 10 NamedType (omega arith) (omega arith) (omega arith)

pub colon_fills : (room : ℕ) → 1 ≤ room → Fills (Then (ASign 21) AType) room
colon_fills room h = then_fills (one_fills room tt) (type_fills room h)

pub named_fills : (room : ℕ) → 1 ≤ room → Fills NamedType room
named_fills room h = then_fills (one_fills room []) (colon_fills room h)

-- ---- '{' NAME ':' type (',' NAME ':' type)* '}'
abbrev pub RecordRow : Phrases
RecordRow = Then NamedType (Then (Many NextNamedType) (ASign 27))

record_is : {x : TypeTree} {s : Span} {us k : List Token} → IsType x (sign_open_brace s ∷ us) k → (b : Bound) → Within b (type_height x) → RecordRow (part_of Inside b) us k
record_is (record_type {t = t} {u = u} {v = v} {x = x} {a = a} {bs = bs} {us = us} {vs = vs} {k = k} d e) b w =
    let i = node_within b (max (type_height a) (highest_named_type bs)) w in
    record {
      middle = vs;
      first = record {
        middle = sign_colon u ∷ us;
        first = record { span = t; value = x; split = refl };
        second = record { middle = us; first = record { span = u; value = tt; split = refl }; second = record { tree = a; spelled = d; low = max_left (part_of Inside b) (type_height a) (highest_named_type bs) i } };
      };
      second = record {
        middle = sign_close_brace v ∷ k;
        first = to_named (part_of Inside b) e (max_right (part_of Inside b) (type_height a) (highest_named_type bs) i);
        second = record { span = v; value = tt; split = refl };
      };
    }

record_made : {s : Span} {us k : List Token} (b : Bound) → HasRoom b → RecordRow (part_of Inside b) us k → AType b (sign_open_brace s ∷ us) k
record_made {s = s} {k = k} b h r =
    let f = of_named r.second.first in
    let a = r.first.second.second in
    let x = r.first.first.value in
    record {
      tree = RecordType (named_type_and x a.tree f.tree);
      spelled = subst (λ z. IsType (RecordType (named_type_and x a.tree f.tree)) (sign_open_brace s ∷ z) k) (sym (named_split r.first)) (record_type a.spelled (subst (λ z. IsMoreNamedTypes f.tree r.middle z) r.second.second.split f.spelled));
      low = within_node b (max (type_height a.tree) (highest_named_type f.tree)) h (within_max (part_of Inside b) (type_height a.tree) (highest_named_type f.tree) a.low f.low);
    }

pub record_rule : (s : Span) (ts : List Token) → Rule Inside (sign_open_brace s ∷ []) RecordRow Anything AType (Above 0) ts
record_rule s ts = record { make = λ b h us k r. record_made b h r; parts = λ b us k h d f. (record_is d.spelled b d.low, tt) }

pub record_carries : Carries (Then (Many NextNamedType) (ASign 27)) Anything (Above 0)
record_carries = then_carries (many_carries named_listed) (one_carries 10 (λ x. omega arith))

pub record_fills : (room : ℕ) → Fills (Then (Many NextNamedType) (ASign 27)) room
record_fills room = then_fills (many_fills room) (one_fills room tt)

-- a record is at least 2 high
record_high : {x : TypeTree} {s : Span} {us k : List Token} → IsType x (sign_open_brace s ∷ us) k → 2 ≤ type_height x
record_high (record_type {a = a} d e) = let h = type_high a in omega arith

pub no_record : (s : Span) (room : ℕ) (ts rest : List Token) → room ≡ 1 → ts ≡ sign_open_brace s ∷ rest → (us k : List Token) → SameFront ts us → AType (AtMost room) us k → Above 0 k → ⊥
no_record s room ts rest r e us k h d f =
    let (vs, g) = same_first (sign_open_brace s) ts us rest e h in
    let i = record_high (subst (λ z. IsType d.tree z k) g d.spelled) in
    let j : type_height d.tree ≤ room = d.low in
    absurd (omega arith)

-- ---- the first tokens of a type
pub starts_word : {s : Span} {ts rest : List Token} → ts ≡ key_word s ∷ rest → Starts AType ts
starts_word {s = s} {rest = rest} e = record { token = key_word s; rest = rest; split = e; on = record { more = []; spelled = λ k. record { tree = WordType 1; spelled = word_type; low = tt } } }

pub starts_bool : {s : Span} {ts rest : List Token} → ts ≡ key_bool s ∷ rest → Starts AType ts
starts_bool {s = s} {rest = rest} e = record { token = key_bool s; rest = rest; split = e; on = record { more = []; spelled = λ k. record { tree = BoolType; spelled = bool_type; low = tt } } }

pub starts_packed : {s : Span} {ts rest : List Token} → ts ≡ key_packed s ∷ rest → Starts AType ts
starts_packed {s = s} {rest = rest} e = record {
  token = key_packed s;
  rest = rest;
  split = e;
  on = record { more = sign_open no_span ∷ a_name no_span [] ∷ sign_close no_span ∷ []; spelled = λ k. record { tree = PackedType []; spelled = packed_type; low = tt } };
}

pub starts_unpacked : {s : Span} {ts rest : List Token} → ts ≡ key_unpacked s ∷ rest → Starts AType ts
starts_unpacked {s = s} {rest = rest} e = record {
  token = key_unpacked s;
  rest = rest;
  split = e;
  on = record { more = sign_open no_span ∷ a_name no_span [] ∷ sign_close no_span ∷ []; spelled = λ k. record { tree = UnpackedType []; spelled = unpacked_type; low = tt } };
}

pub starts_tuple : {s : Span} {ts rest : List Token} → ts ≡ sign_open s ∷ rest → Starts AType ts
starts_tuple {s = s} {rest = rest} e = record {
  token = sign_open s;
  rest = rest;
  split = e;
  on = record { more = sign_close no_span ∷ []; spelled = λ k. record { tree = TupleType no_types; spelled = unit_type; low = tt } };
}

pub starts_record : {s : Span} {ts rest : List Token} → ts ≡ sign_open_brace s ∷ rest → Starts AType ts
starts_record {s = s} {rest = rest} e = record {
  token = sign_open_brace s;
  rest = rest;
  split = e;
  on = record {
    more = a_name no_span [] ∷ sign_colon no_span ∷ key_bool no_span ∷ sign_close_brace no_span ∷ [];
    spelled = λ k. record { tree = RecordType (named_type_and [] BoolType no_named_types); spelled = record_type bool_type no_named_type; low = tt };
  };
}

none_is : {x : TypeTree} {us k : List Token} → IsType x us k → NotKey 15 us → NotKey 16 us → NotKey 17 us → NotKey 18 us → NotSign 24 us → NotSign 26 us → ⊥
none_is word_type a b c d e f = a refl
none_is words_type a b c d e f = a refl
none_is bool_type a b c d e f = b refl
none_is packed_type a b c d e f = c refl
none_is unpacked_type a b c d e f = d refl
none_is unit_type a b c d e f = e refl
none_is (tuple_type g h) a b c d e f = e refl
none_is (record_type g h) a b c d e f = f refl

pub starts_none : {ts : List Token} → NotKey 15 ts → NotKey 16 ts → NotKey 17 ts → NotKey 18 ts → NotSign 24 ts → NotSign 26 ts → StartsNone AType ts
starts_none {ts = ts} a b c d e f = record {
  none = λ us k h g.
      none_is g.spelled (front_same _ ts us h a) (front_same _ ts us h b) (front_same _ ts us h c) (front_same _ ts us h d) (front_same _ ts us h e) (front_same _ ts us h f);
}

-- ---- types
pub types_fills : (room : ℕ) → Fills SomeTypes room
types_fills room = record { with_ = λ low. record { more = []; spelled = λ k. record { tree = no_types; spelled = empty_types; low = within_zero (bound_of low room) } } }

types_bracket : {as_ : TypeTrees} {s : Span} {vs k : List Token} → IsTypes as_ (sign_close_bracket s ∷ vs) k → k ≡ sign_close_bracket s ∷ vs
types_bracket empty_types = refl
types_bracket (some_types d e) = let h = type_first d in absurd (omega arith)

pub types_end : {room : ℕ} (s : Span) (ts rest : List Token) → ts ≡ sign_close_bracket s ∷ rest → Reads SomeTypes (Ahead 29) room ts ts
types_end {room = room} s ts rest e = record {
  seen = [];
  split = refl;
  again = λ low k. record { tree = no_types; spelled = empty_types; low = within_zero (bound_of low room) };
  only = λ low us k h d f.
      let (vs, g) = same_first (sign_close_bracket s) ts us rest e h in
      types_bracket (subst (λ z. IsTypes d.tree z k) g d.spelled) ∙ sym g;
}

types_is : {as_ : TypeTrees} {us k : List Token} → IsTypes as_ us k → NotSign 29 us → Ahead 29 k → (b : Bound) → Within b (highest_type as_) → Then AType (Many NextType) b us k
types_is (empty_types {k = k}) n a b w = absurd (not_ahead 29 k n a)
types_is (some_types {a = p} {bs = ps} {vs = vs} d e) n a b w = record {
  middle = vs;
  first = record { tree = p; spelled = d; low = max_left b (type_height p) (highest_type ps) w };
  second = to_types b e (max_right b (type_height p) (highest_type ps) w);
}

pub types_rule : (ts : List Token) → NotSign 29 ts → Rule Same [] (Then AType (Many NextType)) (Above 10) SomeTypes (Ahead 29) ts
types_rule ts n = record {
  make = λ b h us k r.
      let f = of_types r.second in
      record { tree = type_and r.first.tree f.tree; spelled = some_types r.first.spelled f.spelled; low = within_max b (type_height r.first.tree) (highest_type f.tree) r.first.low f.low };
  parts = λ b us k h d f. (types_is d.spelled (front_same _ ts us h n) f b d.low, ahead_above 29 10 k (omega arith) f);
}

-- ---- params
pub params_fills : (room : ℕ) → Fills SomeParams room
params_fills room = record { with_ = λ low. record { more = []; spelled = λ k. record { tree = no_named_types; spelled = empty_params; low = within_zero (bound_of low room) } } }

params_bracket : {as_ : NamedTypes} {s : Span} {vs k : List Token} → IsParams as_ (sign_close_bracket s ∷ vs) k → k ≡ sign_close_bracket s ∷ vs
params_bracket empty_params = refl

pub params_end : {room : ℕ} (s : Span) (ts rest : List Token) → ts ≡ sign_close_bracket s ∷ rest → Reads SomeParams (Ahead 29) room ts ts
params_end {room = room} s ts rest e = record {
  seen = [];
  split = refl;
  again = λ low k. record { tree = no_named_types; spelled = empty_params; low = within_zero (bound_of low room) };
  only = λ low us k h d f.
      let (vs, g) = same_first (sign_close_bracket s) ts us rest e h in
      params_bracket (subst (λ z. IsParams d.tree z k) g d.spelled) ∙ sym g;
}

params_is : {as_ : NamedTypes} {us k : List Token} → IsParams as_ us k → NotSign 29 us → Ahead 29 k → (b : Bound) → Within b (highest_named_type as_) → Then NamedType (Many NextNamedType) b us k
params_is (empty_params {k = k}) n a b w = absurd (not_ahead 29 k n a)
params_is (some_params {s = s} {t = t} {x = x} {a = p} {bs = ps} {us = us} {vs = vs} d e) n a b w = record {
  middle = vs;
  first = record {
    middle = sign_colon t ∷ us;
    first = record { span = s; value = x; split = refl };
    second = record { middle = us; first = record { span = t; value = tt; split = refl }; second = record { tree = p; spelled = d; low = max_left b (type_height p) (highest_named_type ps) w } };
  };
  second = to_named b e (max_right b (type_height p) (highest_named_type ps) w);
}

params_made : {us k : List Token} (b : Bound) → Then NamedType (Many NextNamedType) b us k → SomeParams b us k
params_made {us = us} {k = k} b r =
    let f = of_named r.second in
    let a = r.first.second.second in
    let x = r.first.first.value in
    record {
      tree = named_type_and x a.tree f.tree;
      spelled = subst (λ z. IsParams (named_type_and x a.tree f.tree) z k) (sym (named_split r.first)) (some_params a.spelled f.spelled);
      low = within_max b (type_height a.tree) (highest_named_type f.tree) a.low f.low;
    }

pub params_rule : (ts : List Token) → NotSign 29 ts → Rule Same [] (Then NamedType (Many NextNamedType)) (Above 10) SomeParams (Ahead 29) ts
params_rule ts n = record { make = λ b h us k r. params_made b r; parts = λ b us k h d f. (params_is d.spelled (front_same _ ts us h n) f b d.low, ahead_above 29 10 k (omega arith) f) }

-- The rules of patterns, and what they are read by.
use Rattle.std.proofs.Common.{◌≡◌, refl, sym, ◌∙◌, ap, subst, ℕ, ◌≤◌, max, List, [], ◌∷◌, arith}
use Rattle.nv_ast.specs.declared.token.Span.{Span}
use Rattle.nv_ast.specs.declared.token.Token.{Token}
use Rattle.nv_ast.specs.declared.token.Sort.TheVariants.{Word}
use Rattle.nv_ast.specs.Tokens.{a_name, key_any, sign_open, sign_close, sign_close_bracket}
use Rattle.nv_ast.specs.Tree.{PatternTree, NamePattern, AnyPattern, TuplePattern, PatternTrees, no_patterns, pattern_and}
use Rattle.nv_ast.specs.Height.{pattern_height, highest_pattern}
use Rattle.nv_ast.specs.Grammar.{IsPattern, name_pattern, any_pattern, unit_pattern, tuple_pattern, IsMorePatterns, no_pattern, next_pattern, IsPatterns, empty_patterns, some_patterns}
use Rattle.nv_text_parser.specs.declared.cursor.Failure.{Failure}
use Rattle.nv_text_parser.specs.inner.Cursor.{NotSign, NotKey, NotName, IsSyntax}
use Rattle.nv_text_parser.specs.inner.Failing.{Bound, NoBound, AtMost, Within, HasRoom, Same, Inside, part_of, bound_of, Phrases, Anything, Ahead, Phrase, ASign, AKey, AName, Then, Many, none, next, HasRead, Completes, Starts, StartsNone, Reads, FailsAs}
use Rattle.nv_text_parser.specs.inner.Phrases.{LowPatterns, APattern, SomePatterns, NextPattern}
use Rattle.nv_text_parser.proofs.Bounds.{within_one, within_node, node_within, within_max, max_left, max_right, within_zero, room_here}
use Rattle.nv_text_parser.proofs.Follow.{Above, close_starts_no_pattern, pattern_first}
use Rattle.nv_text_parser.proofs.Sequence.{front_same, same_first, Fills, Rule, Listed, sign_listed, ahead_above, not_ahead, one_none, one_fills, then_fills, many_fills, first_fails, then_fails, then_reads, some_fails, some_reads, sign_fails, one_carries, carries_anything}

no_span : Span
no_span = record { first = 0; after = 0 }

pub pattern_fills : (room : ℕ) → 1 ≤ room → Fills APattern room
pattern_fills room h = record { with_ = λ low. record { more = key_any no_span ∷ []; spelled = λ k. record { tree = AnyPattern; spelled = any_pattern; low = within_one (bound_of low room) (room_here low room h) } } }

-- '_'
any_is : {p : PatternTree} {s : Span} {vs k : List Token} → IsPattern p (key_any s ∷ vs) k → vs ≡ k
any_is any_pattern = refl

pub any_rule : (s : Span) (ts rest : List Token) → ts ≡ key_any s ∷ rest → Rule Same [] (AKey 22) Anything APattern Anything ts
any_rule s ts rest e = record {
  make = λ b h us k r. record { tree = AnyPattern; spelled = subst (λ z. IsPattern AnyPattern z k) (sym r.split) any_pattern; low = within_one b h };
  parts = λ b us k h d f.
      let (vs, g) = same_first (key_any s) ts us rest e h in
      (record { span = s; value = tt; split = g ∙ ap (λ z. key_any s ∷ z) (any_is (subst (λ z. IsPattern d.tree z k) g d.spelled)) }, tt);
}

-- NAME
name_is : {p : PatternTree} {us k : List Token} → IsPattern p us k → NotKey 22 us → NotSign 24 us → (b : Bound) → AName b us k
name_is (name_pattern {s = s} {x = x}) f g b = record { span = s; value = x; split = refl }
name_is any_pattern f g b = absurd (f refl)
name_is unit_pattern f g b = absurd (g refl)
name_is (tuple_pattern d e) f g b = absurd (g refl)

pub name_rule : (ts : List Token) → NotKey 22 ts → NotSign 24 ts → Rule Same [] AName Anything APattern Anything ts
name_rule ts f g = record {
  make = λ b h us k r. record { tree = NamePattern r.value; spelled = subst (λ z. IsPattern (NamePattern r.value) z k) (sym r.split) name_pattern; low = within_one b h };
  parts = λ b us k h d i. (name_is d.spelled (front_same _ ts us h f) (front_same _ ts us h g) b, tt);
}

-- '(' ')'
unit_is : {p : PatternTree} {s t : Span} {vs k : List Token} → IsPattern p (sign_open s ∷ sign_close t ∷ vs) k → vs ≡ k
unit_is unit_pattern = refl
unit_is (tuple_pattern d e) = absurd (close_starts_no_pattern d)

pub unit_rule : (s t : Span) (ts rest : List Token) → ts ≡ sign_close t ∷ rest → Rule Same (sign_open s ∷ []) (ASign 25) Anything APattern Anything ts
unit_rule s t ts rest e = record {
  make = λ b h us k r. record { tree = TuplePattern no_patterns; spelled = subst (λ z. IsPattern (TuplePattern no_patterns) (sign_open s ∷ z) k) (sym r.split) unit_pattern; low = within_one b h };
  parts = λ b us k h d f.
      let (vs, g) = same_first (sign_close t) ts us rest e h in
      (record { span = t; value = tt; split = g ∙ ap (λ z. sign_close t ∷ z) (unit_is (subst (λ z. IsPattern d.tree (sign_open s ∷ z) k) g d.spelled)) }, tt);
}

-- (',' pat)*
pub to_patterns : {ps : PatternTrees} {ts k : List Token} (b : Bound) → IsMorePatterns ps ts k → Within b (highest_pattern ps) → Many NextPattern b ts k
to_patterns b no_pattern w = none
to_patterns b (next_pattern {s = s} {p = p} {ps = ps} {us = us} d e) w =
    next (record { middle = us; first = record { span = s; value = tt; split = refl }; second = record { tree = p; spelled = d; low = max_left b (pattern_height p) (highest_pattern ps) w } })
    (to_patterns b e (max_right b (pattern_height p) (highest_pattern ps) w))

next_of : {b : Bound} {ps : PatternTrees} {ts us k : List Token} (d : NextPattern b ts us) → IsMorePatterns ps us k → IsMorePatterns (pattern_and d.second.tree ps) ts k
next_of {ps = ps} {k = k} d e = subst (λ z. IsMorePatterns (pattern_and d.second.tree ps) z k) (sym d.first.split) (next_pattern d.second.spelled e)

pub of_patterns : {b : Bound} {ts k : List Token} → Many NextPattern b ts k → Phrase IsMorePatterns LowPatterns b ts k
of_patterns {b = b} none = record { tree = no_patterns; spelled = no_pattern; low = within_zero b }
of_patterns {b = b} (next d e) =
    let f = of_patterns e in
    record { tree = pattern_and d.second.tree f.tree; spelled = next_of d f.spelled; low = within_max b (pattern_height d.second.tree) (highest_pattern f.tree) d.second.low f.low }

pub patterns_listed : Listed NextPattern Anything (Above 10)
patterns_listed = let l = sign_listed 22 0 10 APattern (omega arith) (omega arith) (omega arith) in record { starts = λ b ts k d. tt; ends = l.ends; over = λ k g. tt }

-- '(' pat (',' pat)+ ')'
abbrev pub TupleRow : Phrases
TupleRow = Then APattern (Then (Then NextPattern (Many NextPattern)) (ASign 25))

some_next : {q : PatternTree} {ps : PatternTrees} {ts k : List Token} (b : Bound) → IsMorePatterns (pattern_and q ps) ts k → Within b (max (pattern_height q) (highest_pattern ps)) → Then NextPattern (Many NextPattern) b ts k
some_next b (next_pattern {s = s} {p = q} {ps = ps} {us = us} {vs = vs} d e) w = record {
  middle = vs;
  first = record { middle = us; first = record { span = s; value = tt; split = refl }; second = record { tree = q; spelled = d; low = max_left b (pattern_height q) (highest_pattern ps) w } };
  second = to_patterns b e (max_right b (pattern_height q) (highest_pattern ps) w);
}

tuple_is : {p : PatternTree} {s : Span} {us k : List Token} → IsPattern p (sign_open s ∷ us) k → NotSign 25 us → (b : Bound) → Within b (pattern_height p) → TupleRow (part_of Inside b) us k
tuple_is unit_pattern f b w = absurd (f refl)
tuple_is (tuple_pattern {t = t} {p = p} {q = q} {ps = ps} {vs = vs} {k = k} d e) f b w =
    let v = node_within b (max (pattern_height p) (max (pattern_height q) (highest_pattern ps))) w in
    record {
      middle = vs;
      first = record { tree = p; spelled = d; low = max_left (part_of Inside b) (pattern_height p) (max (pattern_height q) (highest_pattern ps)) v };
      second = record {
        middle = sign_close t ∷ k;
        first = some_next (part_of Inside b) e (max_right (part_of Inside b) (pattern_height p) (max (pattern_height q) (highest_pattern ps)) v);
        second = record { span = t; value = tt; split = refl };
      };
    }

tuple_made : {s : Span} {us k : List Token} (b : Bound) → HasRoom b → TupleRow (part_of Inside b) us k → APattern b (sign_open s ∷ us) k
tuple_made b h r =
    let n = r.second.first in
    let f = of_patterns n.second in
    record {
      tree = TuplePattern (pattern_and r.first.tree (pattern_and n.first.second.tree f.tree));
      spelled = tuple_pattern r.first.spelled (subst (λ z. IsMorePatterns (pattern_and n.first.second.tree f.tree) r.middle z) r.second.second.split (next_of n.first f.spelled));
      low = within_node b (max (pattern_height r.first.tree) (max (pattern_height n.first.second.tree) (highest_pattern f.tree))) h (within_max (part_of Inside b) (pattern_height r.first.tree) (max (pattern_height n.first.second.tree) (highest_pattern f.tree)) r.first.low
          (within_max (part_of Inside b) (pattern_height n.first.second.tree) (highest_pattern f.tree) n.first.second.low f.low));
    }

pub tuple_rule : (s : Span) (ts : List Token) → NotSign 25 ts → Rule Inside (sign_open s ∷ []) TupleRow Anything APattern Anything ts
tuple_rule s ts n = record { make = λ b h us k r. tuple_made b h r; parts = λ b us k h d f. (tuple_is d.spelled (front_same _ ts us h n) b d.low, tt) }

-- no pattern is 0 high
pub none_low : (us k : List Token) → APattern (AtMost 0) us k → ⊥
none_low us k d = high d.tree d.low
  where
    high : (p : PatternTree) → pattern_height p ≤ 0 → ⊥
    high (NamePattern x) h = omega arith
    high AnyPattern h = omega arith
    high (TuplePattern ps) h = omega arith

-- the first tokens of a pattern
pub starts_any : {s : Span} {ts rest : List Token} → ts ≡ key_any s ∷ rest → Starts APattern ts
starts_any {s = s} {rest = rest} e = record { token = key_any s; rest = rest; split = e; on = record { more = []; spelled = λ k. record { tree = AnyPattern; spelled = any_pattern; low = tt } } }

pub starts_name : {s : Span} {x : List ℕ} {ts rest : List Token} → ts ≡ a_name s x ∷ rest → Starts APattern ts
starts_name {s = s} {x = x} {rest = rest} e = record { token = a_name s x; rest = rest; split = e; on = record { more = []; spelled = λ k. record { tree = NamePattern x; spelled = name_pattern; low = tt } } }

pub starts_tuple : {s : Span} {ts rest : List Token} → ts ≡ sign_open s ∷ rest → Starts APattern ts
starts_tuple {s = s} {rest = rest} e = record {
  token = sign_open s;
  rest = rest;
  split = e;
  on = record { more = sign_close no_span ∷ []; spelled = λ k. record { tree = TuplePattern no_patterns; spelled = unit_pattern; low = tt } };
}

pub starts_none : {ts : List Token} → NotKey 22 ts → NotSign 24 ts → NotName ts → StartsNone APattern ts
starts_none {ts = ts} f g n = record {
  none = λ us k h d.
      let r = name_is d.spelled (front_same _ ts us h f) (front_same _ ts us h g) NoBound in
      one_none Word r.value r.span k us r.split (front_same _ ts us h n);
}

-- '(' is completed by ')'
pub open_completes : (s : Span) (room : ℕ) → 1 ≤ room → Completes (HasRead (sign_open s ∷ []) APattern) (AtMost room) []
open_completes s room h = record { more = sign_close no_span ∷ []; spelled = λ k. record { whole = record { tree = TuplePattern no_patterns; spelled = unit_pattern; low = h } } }

next_fills : (room : ℕ) → 1 ≤ room → Fills NextPattern room
next_fills room h = then_fills (one_fills room tt) (pattern_fills room h)

-- (',' pat)+ ')'
abbrev pub TupleEnd : Phrases
TupleEnd = Then (Then NextPattern (Many NextPattern)) (ASign 25)

pub end_fills : (room : ℕ) → 1 ≤ room → Fills TupleEnd room
end_fills room h = then_fills (then_fills (next_fills room h) (many_fills room)) (one_fills room tt)

-- no comma after the first part
pub comma_fails : (room : ℕ) → 1 ≤ room → (ts : List Token) (e : Failure) → IsSyntax ts e × NotSign 22 ts → FailsAs TupleEnd Anything room ts e
comma_fails room h ts e f = first_fails (one_carries 10 (λ x. omega arith)) (one_fills room tt) (first_fails {F = Anything} {G = Above 10} carries_anything (many_fills room) (first_fails {F = Anything} carries_anything (pattern_fills room h) (sign_fails 22 room ts e f)))

pub parts_fail : {room : ℕ} {ts : List Token} {e : Failure} → 1 ≤ room → FailsAs (Many NextPattern) (Above 10) room ts e → FailsAs TupleEnd Anything room ts e
parts_fail {room = room} h d = first_fails (one_carries 10 (λ x. omega arith)) (one_fills room tt) (some_fails (next_fills room h) d)

pub close_fails : {room : ℕ} {ts rest : List Token} {e : Failure} → (rest ≡ ts → ⊥) → Reads (Many NextPattern) (Above 10) room ts rest → FailsAs (ASign 25) Anything room rest e → FailsAs TupleEnd Anything room ts e
close_fails n d e = then_fails (one_carries 10 (λ x. omega arith)) (some_reads n d) e

pub close_reads : {room : ℕ} {ts us rest : List Token} → (us ≡ ts → ⊥) → Reads (Many NextPattern) (Above 10) room ts us → Reads (ASign 25) Anything room us rest → Reads TupleEnd Anything room ts rest
close_reads n d e = then_reads (one_carries 10 (λ x. omega arith)) (some_reads n d) e

-- ---- pats
pub patterns_fills : (room : ℕ) → Fills SomePatterns room
patterns_fills room = record { with_ = λ low. record { more = []; spelled = λ k. record { tree = no_patterns; spelled = empty_patterns; low = within_zero (bound_of low room) } } }

bracket_is : {ps : PatternTrees} {s : Span} {vs k : List Token} → IsPatterns ps (sign_close_bracket s ∷ vs) k → k ≡ sign_close_bracket s ∷ vs
bracket_is empty_patterns = refl
bracket_is (some_patterns d e) = let h = pattern_first d in absurd (omega arith)

-- none before the bracket
pub patterns_end : {room : ℕ} (s : Span) (ts rest : List Token) → ts ≡ sign_close_bracket s ∷ rest → Reads SomePatterns (Ahead 29) room ts ts
patterns_end {room = room} s ts rest e = record {
  seen = [];
  split = refl;
  again = λ low k. record { tree = no_patterns; spelled = empty_patterns; low = within_zero (bound_of low room) };
  only = λ low us k h d f.
      let (vs, g) = same_first (sign_close_bracket s) ts us rest e h in
      bracket_is (subst (λ z. IsPatterns d.tree z k) g d.spelled) ∙ sym g;
}

some_is : {ps : PatternTrees} {us k : List Token} → IsPatterns ps us k → NotSign 29 us → Ahead 29 k → (b : Bound) → Within b (highest_pattern ps) → Then APattern (Many NextPattern) b us k
some_is (empty_patterns {k = k}) n a b w = absurd (not_ahead 29 k n a)
some_is (some_patterns {p = p} {ps = ps} {vs = vs} d e) n a b w = record {
  middle = vs;
  first = record { tree = p; spelled = d; low = max_left b (pattern_height p) (highest_pattern ps) w };
  second = to_patterns b e (max_right b (pattern_height p) (highest_pattern ps) w);
}

pub some_rule : (ts : List Token) → NotSign 29 ts → Rule Same [] (Then APattern (Many NextPattern)) (Above 10) SomePatterns (Ahead 29) ts
some_rule ts n = record {
  make = λ b h us k r.
      let f = of_patterns r.second in
      record { tree = pattern_and r.first.tree f.tree; spelled = some_patterns r.first.spelled f.spelled; low = within_max b (pattern_height r.first.tree) (highest_pattern f.tree) r.first.low f.low };
  parts = λ b us k h d f. (some_is d.spelled (front_same _ ts us h n) f b d.low, ahead_above 29 10 k (omega arith) f);
}

-- The text of a trace, write by write.
use Rattle.std.proofs.Common.{◌≡◌, ℕ, Option, min, inl, inr, ◌+◌, ◌<◌, ◌≤◌, ◌==◌, Bool, true, false, List, [], ◌∷◌, ◌++◌, length, map, take, drop, get_or, codes, decimal, refl, sym, ap, ◌∙◌, append_assoc, append-nil, if◌then◌else◌, arith}
use Rattle.std.specs.List.{flat_map}
use Rattle.std.proofs.lemmas.Bool.{eqb-true, eq-eqb, cases_lt}
use Rattle.std.proofs.lemmas.Grind.{take_at_read}
use Rattle.std.proofs.lemmas.List.{map-append, take-map, take-take, take_all, drop_all, length-take, length-take-le, length-map}
use Rattle.nv_lines.specs.Line.{text_of}
use Rattle.nv_lines.specs.LineColumn.{line_at}
use Rattle.nv_ast.proofs.Items.{next_item}
use Rattle.nv_meaning_values.specs.Chains.{made_in}
use Rattle.nv_meaning_values.specs.declared.trace.Made as code
use Rattle.nv_meaning_values.specs.Running.{Made}
use Rattle.nv_base.specs.declared.term.Mem.{Mem}
use Rattle.nv_lines.specs.Number.{hex_word}
use Rattle.nv_base.specs.MemoryNames.{memory_name}
use Rattle.nv_memtext.specs.OutcomeText.{write_line}
use Rattle.nv_memtext.proofs.PrintLemmas.{join3, words_line}
use Rattle.nv_trace.specs.TraceText.{made_line, up_to_line, shown, trace_text}

pub take-one : {X : Type 0} (xs : List X) (i : ℕ) (x : X) → i < length xs → x ≡ get_or xs i x → take i xs ++ x ∷ [] ≡ take (i + 1) xs
take-one xs i x lt is = ap (λ y. take i xs ++ y ∷ []) is ∙ sym (take_at_read xs i x lt).1

-- ---- up to a line
module _ (source : List ℕ) (line : ℕ) (chains : List (List (List ℕ))) (made : List code.Made) where
  abbrev rest : ℕ → List Made
  rest i = up_to_line source line (map (made_in chains) (drop i made))

  -- none of the first i is of this line
  abbrev pub Front : ℕ → Type 0
  Front i = up_to_line source line (map (made_in chains) made) ≡ map (made_in chains) (take i made) ++ rest i

  pub front-none : Front 0
  front-none = refl

  one-more : (i : ℕ) (m : code.Made) → i < length made → m ≡ get_or made i m → Front i
      → up_to_line source line (map (made_in chains) made) ≡ map (made_in chains) (take (i + 1) made) ++ (if line_at source m.span.first == line then [] else rest (i + 1))
  one-more i m lt is before =
      let others : List Made = if line_at source m.span.first == line then [] else rest (i + 1) in
      before
      ∙ ap (λ l. map (made_in chains) (take i made) ++ up_to_line source line (map (made_in chains) l)) (next_item made i m lt is)
      ∙ sym (append_assoc (map (made_in chains) (take i made)) (made_in chains m ∷ []) others)
      ∙ ap (λ l. l ++ others) (sym (map-append (made_in chains) (take i made) (m ∷ [])) ∙ ap (map (made_in chains)) (take-one made i m lt is))

  pub front-here : (i : ℕ) (m : code.Made) → i < length made → m ≡ get_or made i m → line_at source m.span.first ≡ line → Front i → map (made_in chains) (take (i + 1) made) ≡ up_to_line source line (map (made_in chains) made)
  front-here i m lt is here before =
      sym (one-more i m lt is before
      ∙ ap (λ b. map (made_in chains) (take (i + 1) made) ++ (if b then [] else rest (i + 1))) (eq-eqb (line_at source m.span.first) line here)
      ∙ append-nil (map (made_in chains) (take (i + 1) made)))

  pub front-further : (i : ℕ) (m : code.Made) → i < length made → m ≡ get_or made i m → (line_at source m.span.first ≡ line → ⊥) → Front i → Front (i + 1)
  front-further i m lt is other before = one-more i m lt is before ∙ by (line_at source m.span.first == line) refl
    where
      by : (b : Bool) → (line_at source m.span.first == line) ≡ b
          → map (made_in chains) (take (i + 1) made) ++ (if b then [] else rest (i + 1)) ≡ map (made_in chains) (take (i + 1) made) ++ rest (i + 1)
      by true e = absurd (other (eqb-true (line_at source m.span.first) line e))
      by false e = refl

  pub front-all : (i : ℕ) → length made ≤ i → Front i → map (made_in chains) (take i made) ≡ up_to_line source line (map (made_in chains) made)
  front-all i le before =
      sym (before
      ∙ ap (λ l. map (made_in chains) (take i made) ++ up_to_line source line (map (made_in chains) l)) (drop_all i made le)
      ∙ append-nil (map (made_in chains) (take i made)))

-- ---- the lines
pub lines-text : (source : List ℕ) (chains : List (List (List ℕ))) (made : List code.Made)
    → flat_map (λ m. made_line source (made_in chains m) ++ 10 ∷ []) made ≡ text_of (map (made_line source) (map (made_in chains) made))
lines-text source chains [] = refl
lines-text source chains (m ∷ ms) = ap (λ l. (made_line source (made_in chains m) ++ 10 ∷ []) ++ l) (lines-text source chains ms)

pub write-pieces : (m : Mem) (at : ℕ) (ws : List ℕ) → codes "write " ++ (memory_name m ++ (32 ∷ (decimal at ++ flat_map (λ w. 32 ∷ hex_word w) ws))) ≡ write_line (record { mem = m; at = at; words = ws })
write-pieces m at ws = ap (λ t. codes "write " ++ (memory_name m ++ (32 ∷ t))) (sym (words_line (decimal at) ws))

-- ---- the whole text
take-min : {A : Type 0} (xs : List A) (most n : ℕ) → n ≡ min most (length xs) → take most xs ≡ take n xs
take-min xs most n e = elim (cases_lt most (length xs)) [
  | inl less ↦ ap (λ k. take k xs) (grind (arith, e, less))
  | inr le ↦ take_all most xs le ∙ sym (take_all n xs (grind (arith, e, le)))
]

pub whole-text : (source : List ℕ) (line : Option ℕ) (chains : List (List (List ℕ))) (kept : List code.Made) (most n count : ℕ) (a b d e : List ℕ) → n ≡ min most (length kept) → count ≤ length (take n kept)
    → map (made_in chains) (take count (take n kept)) ≡ shown source line (map (made_in chains) (take n kept))
    → a ≡ flat_map (λ m. made_line source (made_in chains m) ++ 10 ∷ []) (take count kept) → b ≡ a ++ codes "traced " → d ≡ b ++ decimal count → e ≡ d ++ 10 ∷ []
    → e ≡ trace_text source (shown source line (take most (map (made_in chains) kept)))
whole-text source line chains kept most n count a b d e is_n inside is_shown is_a is_b is_d is_e =
    let f : code.Made → Made = made_in chains in
    let all : List Made = shown source line (take most (map f kept)) in
    let long : length (take n kept) ≡ min n (length kept) = length-take n kept in
    let few : count ≤ n = grind (arith, long, inside) in
    let within : count ≤ length kept = grind (arith, long, inside) in
    let same : map f (take count kept) ≡ all =
    ap (map f) (sym (take-take count n kept few)) ∙ is_shown ∙ ap (shown source line) (sym (take-map f most kept ∙ ap (map f) (take-min kept most n is_n))) in
    let number : count ≡ length all =
    sym (sym (ap (λ (ms : List Made). length ms) same) ∙ length-map (take count kept) f ∙ length-take-le count kept within) in
    let text : a ≡ text_of (map (made_line source) all) = is_a ∙ lines-text source chains (take count kept) ∙ ap (λ (ms : List Made). text_of (map (made_line source) ms)) same in
    join3 a b d e (codes "traced ") (decimal count) (10 ∷ []) is_b is_d is_e
    ∙ ap (λ (t : List ℕ). t ++ (codes "traced " ++ (decimal count ++ 10 ∷ []))) text
    ∙ ap (λ (k : ℕ). text_of (map (made_line source) all) ++ (codes "traced " ++ (decimal k ++ 10 ∷ []))) number
    ∙ sym (append_assoc (text_of (map (made_line source) all) ++ codes "traced ") (decimal (length all)) (10 ∷ []) ∙ append_assoc (text_of (map (made_line source) all)) (codes "traced ") (decimal (length all) ++ 10 ∷ []))

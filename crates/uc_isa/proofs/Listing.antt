-- Where instructions stand in code, and what holds of each.
use Rattle.std.proofs.Common.{◌≡◌, ℕ, zero, suc, ◌+◌, List, [], ◌∷◌, ◌++◌, Some, length, refl, ap, sym, ◌∙◌, subst, arith, append_assoc, length-append}
use Rattle.std.specs.Prelude.{slice_get}
use Rattle.uc_isa.specs.declared.instruction.Instr.{Instr}
use Rattle.uc_isa.specs.Lawful.{IsLawful, Rule1, Rule2, Rule3, Rule4, Rule5, Rule6, IsLast}
use Rattle.uc_isa.specs.Straight.{Stands}

pub stands-left : (code : List Instr) (at : ℕ) (is js : List Instr) → Stands code at (is ++ js) → Stands code at is
stands-left code at is js s = record { front = s.front; rest = js ++ s.rest; split = s.split ∙ ap (λ x. s.front ++ x) (append_assoc is js s.rest); place = s.place }

pub stands-right : (code : List Instr) (at : ℕ) (is js : List Instr) → Stands code at (is ++ js) → Stands code (at + length is) js
stands-right code at is js s = record {
  front = s.front ++ is;
  rest = s.rest;
  split = s.split ∙ ap (λ x. s.front ++ x) (append_assoc is js s.rest) ∙ sym (append_assoc s.front is (js ++ s.rest));
  place = length-append s.front is ∙ ap (λ n. n + length is) s.place;
}

fetch-seam : (front : List Instr) (i : Instr) (rest : List Instr) → slice_get (front ++ i ∷ rest) (length front) ≡ Some i
fetch-seam [] i rest = refl
fetch-seam (x ∷ front) i rest = fetch-seam front i rest

pub stands-fetched : (code : List Instr) (at : ℕ) (i : Instr) (is : List Instr) → Stands code at (i ∷ is) → slice_get code at ≡ Some i
stands-fetched code at i is s = ap (λ c. slice_get c at) s.split ∙ ap (λ n. slice_get (s.front ++ (i ∷ is ++ s.rest)) n) (sym s.place) ∙ fetch-seam s.front i (is ++ s.rest)

-- an instruction that is lawful at any place but the last, and reaches no memory
pub record IsPlain (i : Instr) : Type 0 where
  pub rule1 : Rule1 i
  pub rule2 : Rule2 i
  pub rule3 : Rule3 i
  pub rule4 : Rule4 i
  pub rule5 : (len : ℕ) → Rule5 len i
  pub rule6 : Rule6 i

abbrev pub ArePlain : List Instr → Type 0
ArePlain [] = Unit {0}
ArePlain (i ∷ is) = IsPlain i × ArePlain is

pub plain-append : (is js : List Instr) → ArePlain is → ArePlain js → ArePlain (is ++ js)
plain-append [] js a b = b
plain-append (i ∷ is) js a b = (a.0, plain-append is js a.1 b)

-- an instruction of plain ones before a halt: a plain one before the end, or the halt
lawful-inside : (len : ℕ) (is : List Instr) (h : Instr) (place : ℕ) (i : Instr) → ArePlain is → IsPlain h → IsLast h → slice_get (is ++ h ∷ []) place ≡ Some i → IsPlain i × (place + 1 ≡ length (is ++ h ∷ []) → IsLast i)
lawful-inside len [] h zero i a b c e = let same : h ≡ i = cc in (subst IsPlain same b, λ _. subst IsLast same c)
lawful-inside len [] h (suc place) i a b c e = cc
lawful-inside len (x ∷ is) h zero i a b c e = let same : x ≡ i = cc in (subst IsPlain same a.0, λ last. absurd (let l : length (is ++ h ∷ []) ≡ length is + 1 = length-append is (h ∷ []) in omega arith))
lawful-inside len (x ∷ is) h (suc place) i a b c e = let inner : IsPlain i × (place + 1 ≡ length (is ++ h ∷ []) → IsLast i) = lawful-inside len is h place i a.1 b c e in (inner.0, λ last. inner.1 (omega arith))

pub lawful-before_halt : (is : List Instr) (h : Instr) → ArePlain is → IsPlain h → IsLast h → IsLawful (is ++ h ∷ [])
lawful-before_halt is h a b c place i e =
    let inner : IsPlain i × (place + 1 ≡ length (is ++ h ∷ []) → IsLast i) = lawful-inside 0 is h place i a b c e in
    record {
      operands = inner.0.rule1;
      run_inside = inner.0.rule2;
      pairs = inner.0.rule3;
      numbers = inner.0.rule4;
      target = inner.0.rule5 (length (is ++ h ∷ []));
      halt = inner.0.rule6;
      last = inner.1;
    }

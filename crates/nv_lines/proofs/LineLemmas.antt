-- Lines, their parts, and bytes that a list lacks.
use Rattle.std.proofs.Common.{◌≡◌, ◌≢◌, ℕ, zero, suc, ◌<◌, ◌≤◌, List, [], ◌∷◌, ◌++◌, length, get_or, take, Bool, true, false, eqb, refl, sym, ap, ◌∙◌, arith, Option, None, Some, Bor, is_some, not, IsTrue, MatchBool}
use Rattle.std.proofs.lemmas.Bool.{eq-eqb, ne_eqb}
use Rattle.std.specs.List.{onto_first}
use Rattle.std.proofs.lemmas.List.Splits.{slice_split-cons_no, length-slice_split}
use Rattle.std.specs.Option.{option_copied}
use Rattle.nv_lines.specs.Left.{parts_left}
use Rattle.nv_lines.specs.Line.{Lacks, parts}

pub lacks_take : (c : ℕ) (xs : List ℕ) (n : ℕ) → ((k : ℕ) → 0 ≤ k → k < n → eqb (get_or xs k 0) c ≡ true → ⊥) → Lacks c (take n xs)
lacks_take c xs zero h = tt
lacks_take c [] (suc n) h = tt
lacks_take c (x ∷ xs) (suc n) h =
    (λ e. h 0 (omega arith) (omega arith) (eq-eqb x c e), lacks_take c xs n (λ k low lt. h (suc k) (omega arith) (omega arith)))

pub lacks_all : (c : ℕ) (xs : List ℕ) → ((k : ℕ) → 0 ≤ k → k < length xs → eqb (get_or xs k 0) c ≡ true → ⊥) → Lacks c xs
lacks_all c [] h = tt
lacks_all c (x ∷ xs) h =
    (λ e. h 0 (omega arith) (omega arith) (eq-eqb x c e), lacks_all c xs (λ k low lt. h (suc k) (omega arith) (omega arith)))

-- a part ends at the first space
pub parts_at : (front rest : List ℕ) → Lacks 32 front → parts (front ++ 32 ∷ rest) ≡ front ∷ parts rest
parts_at [] rest h = refl
parts_at (x ∷ xs) rest h = slice_split-cons_no (λ b. eqb b 32) x (xs ++ 32 ∷ rest) (ne_eqb x 32 h.0) ∙ ap (onto_first x) (parts_at xs rest h.1)

-- a line without a space is one part
pub parts_whole : (line : List ℕ) → Lacks 32 line → parts line ≡ line ∷ []
parts_whole [] h = refl
parts_whole (x ∷ xs) h = slice_split-cons_no (λ b. eqb b 32) x xs (ne_eqb x 32 h.0) ∙ ap (onto_first x) (parts_whole xs h.1)

-- a line has one part at least
pub parts_some : (line : List ℕ) → parts line ≡ [] → ⊥
parts_some line e = omega (arith, length-slice_split (λ b. eqb b 32) line, ap length e)

pub done_is : (r : Option (Bor (List ℕ))) (ps : List (List ℕ)) (b : Bool) → parts_left (option_copied r) ≡ ps → is_some r ≡ not b → (IsTrue b → ps ≡ []) × (ps ≡ [] → IsTrue b)
done_is None ps true e h = (λ _. sym e, λ _. refl)
done_is None ps false e h = cc
done_is (Some x) ps true e h = cc
done_is (Some x) ps false e h = (λ t. cc, λ d. absurd (parts_some x.now (e ∙ d)))

pub name_next : (old new : List (List ℕ)) (part name : List ℕ) (r : Bool) → old ≡ part ∷ new → MatchBool r (part ≡ name) (part ≢ name) → MatchBool r (old ≡ name ∷ new) ((ps : List (List ℕ)) → old ≢ name ∷ ps)
name_next old new part name true e h = cc
name_next old new part name false e h = λ ps f. h (cc)

-- a report's text that is written piece by piece
use Rattle.std.proofs.Common.{◌≡◌, ℕ, suc, ◌+◌, ◌<◌, ◌≤◌, List, [], ◌∷◌, ◌++◌, length, get_or, take, refl, sym, ap, ◌∙◌, append_assoc, codes, decimal, Bool, true, false, arith, zero-add, Result, Ok, Err, OnOk, is_ok, cond}
use Rattle.std.proofs.lemmas.List.{append-nil, length-take-le, take_all}
use Rattle.std.specs.List.{flat_map}
use Rattle.std.proofs.lemmas.List.Concat.{flat_map-append}
use Rattle.nv_lines.specs.Line.{text_of}
use Rattle.nv_lines.proofs.SplitLaws.{text_of-append}
use Rattle.zo_model.proofs.Pieces.{listed_pieces, take_next, join2, join3}
use Rattle.zo_cert.specs.ReportText.{ones_from, x_line}

pub ones-append : (i : ℕ) (xs ys : List Bool) → ones_from i (xs ++ ys) ≡ ones_from i xs ++ ones_from (length xs + i) ys
ones-append i [] ys = ap (λ k. ones_from k ys) (sym (zero-add i))
ones-append i (true ∷ xs) ys = ap (λ t. i ∷ t) (ones-append (suc i) xs ys ∙ ap (λ k. ones_from (suc i) xs ++ ones_from k ys) (omega arith))
ones-append i (false ∷ xs) ys = ones-append (suc i) xs ys ∙ ap (λ k. ones_from (suc i) xs ++ ones_from k ys) (omega arith)

pub one_more : (start out out' : List ℕ) (on : List Bool) (k : ℕ) (d x : Bool) → k < length on → x ≡ get_or on k d → out ≡ start ++ flat_map (λ j. 32 ∷ decimal j) (ones_from 0 (take k on)) → out' ≡ out ++ flat_map (λ j. 32 ∷ decimal j) (ones_from k (x ∷ [])) → out' ≡ start ++ flat_map (λ j. 32 ∷ decimal j) (ones_from 0 (take (k + 1) on))
one_more start out out' on k d x lt e f g =
    let next = take_next on k d x lt e in
    let counted : length (take k on) + 0 ≡ k = omega (arith, length-take-le k on (omega arith)) in
    let ones : ones_from 0 (take (k + 1) on) ≡ ones_from 0 (take k on) ++ ones_from k (x ∷ []) =
    ap (ones_from 0) next ∙ (ones-append 0 (take k on) (x ∷ []) ∙ ap (λ n. ones_from 0 (take k on) ++ ones_from n (x ∷ [])) counted) in
    join2 start out out' (flat_map (λ j. 32 ∷ decimal j) (ones_from 0 (take k on))) (flat_map (λ j. 32 ∷ decimal j) (ones_from k (x ∷ []))) f g
    ∙ ap (λ t. start ++ t) (sym (flat_map-append (λ j. 32 ∷ decimal j) (ones_from 0 (take k on)) (ones_from k (x ∷ []))) ∙ ap (flat_map (λ j. 32 ∷ decimal j)) (sym ones))

pub all_ones : (old out out' : List ℕ) (on : List Bool) (k : ℕ) → length on ≤ k → out ≡ (old ++ codes "x") ++ flat_map (λ j. 32 ∷ decimal j) (ones_from 0 (take k on)) → out' ≡ out ++ 10 ∷ [] → out' ≡ old ++ (x_line on ++ 10 ∷ [])
all_ones old out out' on k le e f =
    join3 old (old ++ codes "x") out out' (codes "x") (flat_map (λ j. 32 ∷ decimal j) (ones_from 0 (take k on))) (10 ∷ []) refl e f
    ∙ ap (λ t. old ++ t) (ap (λ xs. codes "x" ++ (flat_map (λ j. 32 ∷ decimal j) (ones_from 0 xs) ++ 10 ∷ [])) (take_all k on le) ∙ listed_pieces (codes "x") decimal (ones_from 0 on))

-- a verdict's two lines
pub two_line_text : (v x : List ℕ) → (v ++ 10 ∷ []) ++ (x ++ 10 ∷ []) ≡ text_of (v ∷ x ∷ [])
two_line_text v x = ap (λ t. (v ++ 10 ∷ []) ++ t) (sym (append-nil (x ++ 10 ∷ [])))

-- a text and one line more, or a text more
text_line : (ls : List (List ℕ)) (i j x : List ℕ) → i ≡ text_of ls → j ≡ i ++ (x ++ 10 ∷ []) → j ≡ text_of (ls ++ x ∷ [])
text_line ls i j x e f = f ∙ (ap (λ t. t ++ (x ++ 10 ∷ [])) e ∙ (ap (λ t. text_of ls ++ t) (sym (append-nil (x ++ 10 ∷ []))) ∙ sym (text_of-append ls (x ∷ []))))

text_more : (ls ms : List (List ℕ)) (i j : List ℕ) → i ≡ text_of ls → j ≡ i ++ text_of ms → j ≡ text_of (ls ++ ms)
text_more ls ms i j e f = f ∙ (ap (λ t. t ++ text_of ms) e ∙ sym (text_of-append ls ms))

pub report_pieces : (h s b : List ℕ) (p v : List (List ℕ)) (t : List ℕ) (n : List (List ℕ)) (i1 i2 i3 i4 i5 i6 i7 : List ℕ) → i1 ≡ h ++ 10 ∷ [] → i2 ≡ i1 ++ (s ++ 10 ∷ []) → i3 ≡ i2 ++ (b ++ 10 ∷ []) → i4 ≡ i3 ++ text_of p → i5 ≡ i4 ++ text_of v → i6 ≡ i5 ++ (t ++ 10 ∷ []) → i7 ≡ i6 ++ text_of n → i7 ≡ text_of (h ∷ s ∷ b ∷ p ++ v ++ t ∷ n)
report_pieces h s b p v t n i1 i2 i3 i4 i5 i6 i7 e1 e2 e3 e4 e5 e6 e7 =
    let t1 : i1 ≡ text_of (h ∷ []) = e1 ∙ sym (append-nil (h ++ 10 ∷ [])) in
    let t2 : i2 ≡ text_of (h ∷ s ∷ []) = text_line (h ∷ []) i1 i2 s t1 e2 in
    let t3 : i3 ≡ text_of (h ∷ s ∷ b ∷ []) = text_line (h ∷ s ∷ []) i2 i3 b t2 e3 in
    let t4 : i4 ≡ text_of (h ∷ s ∷ b ∷ p) = text_more (h ∷ s ∷ b ∷ []) p i3 i4 t3 e4 in
    let t5 = text_more (h ∷ s ∷ b ∷ p) v i4 i5 t4 e5 in
    let t6 = text_line ((h ∷ s ∷ b ∷ p) ++ v) i5 i6 t t5 e6 in
    text_more (((h ∷ s ∷ b ∷ p) ++ v) ++ t ∷ []) n i6 i7 t6 e7 ∙ ap text_of (append_assoc ((h ∷ s ∷ b ∷ p) ++ v) (t ∷ []) n)

pub pushed : {E : Type 0} (r : Result (Unit {0}) E) (old new x : List ℕ) → new ≡ cond (is_ok r) (old ++ x) old → OnOk r (new ≡ old ++ x)
pushed (Ok u) old new x e = e
pushed (Err f) old new x e = tt

-- Counts that are printed line by line.
use Rattle.std.proofs.Common.{◌≡◌, ℕ, ◌+◌, ◌<◌, List, [], ◌∷◌, ◌++◌, length, get_or, take, map, sym, ap, ◌∙◌, append_assoc}
use Rattle.std.proofs.lemmas.List.{append-nil, map-append, take_more}
use Rattle.nv_lines.specs.Line.{text_of}
use Rattle.nv_lines.proofs.SplitLaws.{text_of-append}
use Rattle.place_weights.specs.WeightsText.{count_line, weights_line}

-- one line more
pub line_more : (start counts : List ℕ) (i x : ℕ) → i < length counts → x ≡ get_or counts i 0 → (start ++ text_of (map count_line (take i counts))) ++ (count_line x ++ 10 ∷ []) ≡ start ++ text_of (map count_line (take (i + 1) counts))
line_more start counts i x lt e =
    let here = take i counts in
    let more : take (i + 1) counts ≡ here ++ x ∷ [] = take_more counts i 0 lt ∙ ap (λ y. here ++ y ∷ []) (sym e) in
    append_assoc start (text_of (map count_line here)) (count_line x ++ 10 ∷ [])
    ∙ ap (λ t. start ++ t)
    (ap (λ t. text_of (map count_line here) ++ t) (sym (append-nil (count_line x ++ 10 ∷ [])))
    ∙ (sym (text_of-append (map count_line here) (count_line x ∷ [])) ∙ ap text_of (sym (map-append count_line here (x ∷ [])) ∙ ap (map count_line) (sym more))))

-- the first line, and then the counts
pub printed : (n : ℕ) (front out counts : List ℕ) → front ≡ [] ++ (weights_line n ++ 10 ∷ []) → out ≡ front ++ text_of (map count_line counts) → out ≡ text_of (weights_line n ∷ map count_line counts)
printed n front out counts e f = f ∙ ap (λ t. t ++ text_of (map count_line counts)) e

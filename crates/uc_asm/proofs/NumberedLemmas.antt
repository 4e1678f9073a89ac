-- The numbers of the starts at each place, one start after another; and a listing, one place after another.
use Rattle.std.proofs.Common.{◌≡◌, ℕ, ◌+◌, ◌<◌, ◌≤◌, ◌==◌, inl, inr, Bool, true, false, get_or, set, List, [], ◌∷◌, ◌++◌, length, map, take, drop, refl, sym, ap, ◌∙◌, subst, arith, append_assoc, length-append, decimal, if◌then◌else◌}
use Rattle.std.specs.List.{All}
use Rattle.std.proofs.lemmas.Bool.Decides.{nat_tests}
use Rattle.std.proofs.lemmas.Bool.{cases_eq}
use Rattle.std.proofs.lemmas.List.{append-nil, map-append, take_more, drop_more, drop_all, length-set, length-take-le, get_or-set_same, get_or-set_other, get_or_append_left, get_or_push}
use Rattle.nv_lines.specs.Line.{text_of}
use Rattle.nv_lines.proofs.SplitLaws.{text_of-append}
use Rattle.uc_isa.specs.Code.{IsCode}
use Rattle.uc_isa.specs.Lawful.{IsLawful}
use Rattle.uc_isa.specs.declared.instruction.Instr.{Instr}
use Rattle.uc_object.specs.Tagged.{TaggedView, IsTagged}
use Rattle.uc_asm.specs.Items.{plain, item_line, instruction_line, params_line}
use Rattle.uc_asm.specs.Words.{InRange}
use Rattle.uc_asm.specs.Labels.{IsCodeOf}
use Rattle.uc_asm.specs.Starts.{labels_at, start_label, labelled, tagged_listing}
use Rattle.uc_asm.specs.inner.Numbered.{AreNumbered}
use Rattle.uc_asm.proofs.ListingLemmas.{FitBelow}
use Rattle.uc_asm.proofs.StartLemmas.{starts-text}

-- one start more
more-step : (b : Bool) (j : ℕ) (ks ks' last : List ℕ) → ks' ≡ ks ++ last → (if b then j ∷ ks' else ks') ≡ (if b then j ∷ ks else ks) ++ last
more-step true j ks ks' last e = ap (λ xs. j ∷ xs) e
more-step false j ks ks' last e = e

one-number : (b : Bool) (m n : ℕ) → m ≡ n → (if b then m ∷ [] else []) ≡ (if b then n ∷ [] else [])
one-number true m n e = ap (λ k. k ∷ []) e
one-number false m n e = refl

labels-more : (j : ℕ) (starts : List ℕ) (s p : ℕ) → labels_at j (starts ++ s ∷ []) p ≡ labels_at j starts p ++ (if s == p then (j + length starts) ∷ [] else [])
labels-more j [] s p = one-number (s == p) j (j + 0) (omega arith)
labels-more j (x ∷ starts) s p =
    let far : (j + 1) + length starts ≡ j + length (x ∷ starts) = omega arith in
    let rest = labels-more (j + 1) starts s p ∙ ap (λ ks. labels_at (j + 1) starts p ++ ks) (one-number (s == p) ((j + 1) + length starts) (j + length (x ∷ starts)) far) in
    more-step (x == p) j (labels_at (j + 1) starts p) (labels_at (j + 1) (starts ++ s ∷ []) p) (if s == p then (j + length (x ∷ starts)) ∷ [] else []) rest

pub numbered-none : AreNumbered 0 [] []
numbered-none = record { many = refl; each = λ p less. absurd (omega arith) }

pub numbered-more : (n : ℕ) (numbers : List (List ℕ)) → AreNumbered n [] numbers → AreNumbered (n + 1) [] (numbers ++ [] ∷ [])
numbered-more n numbers h =
    let many = h.many in
    record {
      many = length-append numbers ([] ∷ []) ∙ ap (λ m. m + 1) many;
      each = λ p less. elim (cases_eq (length numbers) p) [
        | inl here ↦ get_or_push numbers [] [] p here
        | inr other ↦ get_or_append_left numbers ([] ∷ []) [] p (before (length numbers) n p many less other) ∙ h.each p (omega (arith, before (length numbers) n p many less other))
      ];
    }
  where
    before : (m n p : ℕ) → m ≡ n → p < n + 1 → (m ≡ p → ⊥) → p < m
    before m n p e less other = grind arith

-- the number of a start among those at its place
pub numbered-start : (places k s : ℕ) (starts old : List ℕ) (numbers : List (List ℕ)) → k < length starts → s ≡ get_or starts k 0 → s < places → AreNumbered places (take k starts) numbers → old ≡ get_or numbers s []
    → AreNumbered places (take (k + 1) starts) (set numbers s (old ++ k ∷ []))
numbered-start places k s starts old numbers inside start less h was =
    let many = h.many in
    let next : take (k + 1) starts ≡ take k starts ++ s ∷ [] = take_more starts k 0 inside ∙ ap (λ x. take k starts ++ x ∷ []) (sym start) in
    let size : length (take k starts) ≡ k = length-take-le k starts (omega arith) in
    let more : (p : ℕ) → labels_at 0 (take (k + 1) starts) p ≡ labels_at 0 (take k starts) p ++ (if s == p then k ∷ [] else []) =
    λ p. ap (λ xs. labels_at 0 xs p) next ∙ labels-more 0 (take k starts) s p ∙ ap (λ n. labels_at 0 (take k starts) p ++ (if s == p then n ∷ [] else [])) (from-zero (length (take k starts)) ∙ size) in
    record {
      many = length-set numbers s (old ++ k ∷ []) ∙ many;
      each = λ p below. elim (cases_eq p s) [
        | inl here ↦
            let one : (if s == p then k ∷ [] else []) ≡ k ∷ [] = same s p (sym here) k in
            ap (λ n. get_or (set numbers s (old ++ k ∷ [])) n []) here ∙ get_or-set_same numbers s (old ++ k ∷ []) [] (omega (arith, many))
            ∙ ap (λ x. x ++ k ∷ []) (was ∙ ap (λ n. get_or numbers n []) (sym here) ∙ h.each p below) ∙ ap (λ x. labels_at 0 (take k starts) p ++ x) (sym one) ∙ sym (more p)
        | inr other ↦
            let none : (if s == p then k ∷ [] else []) ≡ [] = apart s p (λ e. other (sym e)) k in
            get_or-set_other numbers s p (old ++ k ∷ []) [] other ∙ h.each p below
            ∙ sym (append-nil (labels_at 0 (take k starts) p)) ∙ ap (λ x. labels_at 0 (take k starts) p ++ x) (sym none) ∙ sym (more p)
      ];
    }
  where
    from-zero : (n : ℕ) → 0 + n ≡ n
    from-zero n = omega arith

    same : (a b : ℕ) → a ≡ b → (k : ℕ) → (if a == b then k ∷ [] else []) ≡ k ∷ []
    same a b e k = grind (arith, nat_tests)

    apart : (a b : ℕ) → (a ≡ b → ⊥) → (k : ℕ) → (if a == b then k ∷ [] else []) ≡ []
    apart a b e k = grind (arith, nat_tests)

-- a text and what is left of it, one place on
pub place-more : (starts : List ℕ) (place : ℕ) (list : List Instr) (i : Instr) (numbers o0 o1 o2 whole : List ℕ) → place < length list → i ≡ get_or list place i → numbers ≡ labels_at 0 starts place
    → o0 ++ text_of (map item_line (labelled starts place (drop place list))) ≡ whole → o1 ≡ o0 ++ text_of (map item_line (map start_label numbers)) → o2 ≡ o1 ++ (instruction_line i ++ 10 ∷ [])
    → o2 ++ text_of (map item_line (labelled starts (place + 1) (drop (place + 1) list))) ≡ whole
place-more starts place list i numbers o0 o1 o2 whole less item named h e f =
    let block = map start_label (labels_at 0 starts place) in
    let rest = labelled starts (place + 1) (drop (place + 1) list) in
    let line = instruction_line i ++ 10 ∷ [] in
    let next : drop place list ≡ i ∷ drop (place + 1) list = drop_more list place i less ∙ ap (λ (x : Instr). x ∷ drop (place + 1) list) (sym item) in
    let parted : text_of (map item_line (block ++ plain i ∷ rest)) ≡ text_of (map item_line block) ++ (line ++ text_of (map item_line rest)) =
    ap text_of (map-append item_line block (plain i ∷ rest)) ∙ text_of-append (map item_line block) (map item_line (plain i ∷ rest)) in
    let labels : o1 ≡ o0 ++ text_of (map item_line block) = e ∙ ap (λ ks. o0 ++ text_of (map item_line (map start_label ks))) named in
    ap (λ x. x ++ text_of (map item_line rest)) f ∙ append_assoc o1 line (text_of (map item_line rest))
    ∙ ap (λ x. x ++ (line ++ text_of (map item_line rest))) labels ∙ append_assoc o0 (text_of (map item_line block)) (line ++ text_of (map item_line rest))
    ∙ ap (λ x. o0 ++ x) (sym parted) ∙ ap (λ is. o0 ++ text_of (map item_line (labelled starts place is))) (sym next) ∙ h

-- the whole text
pub places-end : (starts : List ℕ) (place : ℕ) (list : List Instr) (out whole : List ℕ) → length list ≤ place → out ++ text_of (map item_line (labelled starts place (drop place list))) ≡ whole → out ≡ whole
places-end starts place list out whole ended h =
    sym (append-nil out) ∙ ap (λ (is : List Instr). out ++ text_of (map item_line (labelled starts place is))) (sym (drop_all place list ended)) ∙ h

pub listed-text : (t : TaggedView) (out : List ℕ) (list : List Instr) (k : ℕ) → list ≡ t.code.list → length list ≤ k → out ≡ tagged_listing t → IsCode t.code → IsTagged t → FitBelow k list → IsLawful t.code.list → IsCodeOf out t.code
listed-text t out list k same ended e is tagged fits lawful =
    let all : All InRange list = λ j d lt. fits j d (omega arith) in
    let few = tagged.starts in
    subst (λ (x : List ℕ). IsCodeOf x t.code) (sym e) (starts-text t.code t.starts is (subst (All InRange) same all) lawful (omega arith))

-- one label more
pub label-more : (start ks : List ℕ) (i k : ℕ) (o0 o1 o2 o3 : List ℕ) → i < length ks → k ≡ get_or ks i 0 → o0 ≡ start ++ text_of (map item_line (map start_label (take i ks)))
    → o1 ≡ o0 ++ 76 ∷ [] → o2 ≡ o1 ++ decimal k → o3 ≡ o2 ++ (58 ∷ 10 ∷ []) → o3 ≡ start ++ text_of (map item_line (map start_label (take (i + 1) ks)))
label-more start ks i k o0 o1 o2 o3 less item h e f g =
    let T : List ℕ → List ℕ = λ xs. text_of (map item_line (map start_label xs)) in
    let line = 76 ∷ (decimal k ++ (58 ∷ 10 ∷ [])) in
    let one : T (k ∷ []) ≡ line = append-nil ((76 ∷ (decimal k ++ 58 ∷ [])) ++ 10 ∷ []) ∙ ap (λ x. 76 ∷ x) (append_assoc (decimal k) (58 ∷ []) (10 ∷ [])) in
    let next : take (i + 1) ks ≡ take i ks ++ k ∷ [] = take_more ks i 0 less ∙ ap (λ x. take i ks ++ x ∷ []) (sym item) in
    let more : T (take i ks ++ k ∷ []) ≡ T (take i ks) ++ T (k ∷ []) =
    ap text_of (ap (map item_line) (map-append start_label (take i ks) (k ∷ [])) ∙ map-append item_line (map start_label (take i ks)) (start_label k ∷ []))
    ∙ text_of-append (map item_line (map start_label (take i ks))) (map item_line (start_label k ∷ [])) in
    let pushed : o3 ≡ o0 ++ line =
    g ∙ ap (λ x. x ++ (58 ∷ 10 ∷ [])) (f ∙ ap (λ x. x ++ decimal k) e) ∙ append_assoc (o0 ++ 76 ∷ []) (decimal k) (58 ∷ 10 ∷ []) ∙ append_assoc o0 (76 ∷ []) (decimal k ++ (58 ∷ 10 ∷ [])) in
    pushed ∙ ap (λ x. x ++ line) h ∙ append_assoc start (T (take i ks)) line ∙ ap (λ x. start ++ (T (take i ks) ++ x)) (sym one) ∙ ap (λ x. start ++ x) (sym more) ∙ ap (λ xs. start ++ T xs) (sym next)

-- the first line, and what is left
pub listing-begins : (t : TaggedView) (o0 o1 : List ℕ) (params : ℕ) (list : List Instr) → o0 ≡ [] → params ≡ t.code.params → list ≡ t.code.list → o1 ≡ o0 ++ (params_line params ++ 10 ∷ [])
    → o1 ++ text_of (map item_line (labelled t.starts 0 list)) ≡ tagged_listing t
listing-begins t o0 o1 params list none same lists e =
    let rest : List Instr → List ℕ = λ is. text_of (map item_line (labelled t.starts 0 is)) in
    ap (λ x. x ++ rest list) (e ∙ ap (λ x. x ++ (params_line params ++ 10 ∷ [])) none ∙ ap (λ p. params_line p ++ 10 ∷ []) same) ∙ ap (λ is. (params_line t.code.params ++ 10 ∷ []) ++ rest is) lists

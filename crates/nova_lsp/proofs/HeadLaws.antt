-- A text has one head at its front at most, and the lines that were read say whether it has one.
use Rattle.std.proofs.Common.{◌≡◌, ℕ, List, [], ◌∷◌, ◌++◌, Bool, true, false, not, ◌&&◌, Option, None, refl, sym, ap, ◌∙◌, append_assoc, append-nil, true≢false}
use Rattle.std.specs.Option.{option_or}
use Rattle.std.specs.List.{list_all}
use Rattle.std.proofs.lemmas.List.Folds.{list_all-append}
use Rattle.std.proofs.lemmas.List.Sums.{fold-append}
use Rattle.nv_lines.specs.Line.{Lacks, AllLack, text_of}
use Rattle.nv_lines.proofs.SplitLaws.{AllLack-append, lacks_not, split_one, text_of-append, text_of-cons}
use Rattle.nova_lsp.specs.Heads.{IsHead, AreFilled, is_blank, length_in, last_length}
use Rattle.nova_lsp.specs.HeadLines.{IsHeadless}
use Rattle.nova_lsp.specs.Reading.{IsOver}
use Rattle.nova_lsp.specs.declared.input.Short.{Short}
use Rattle.nova_lsp.specs.declared.input.Short.TheVariants as shorts

none_yet : AreFilled []
none_yet = record { lack = tt; filled = refl }

pub no_lines : (told : Option ℕ) → told ≡ None → AreFilled [] × (told ≡ last_length [])
no_lines told e = (none_yet, e)

-- a line that isn't blank, behind the others
pub one_more : (lines : List (List ℕ)) (line : List ℕ) → AreFilled lines → Lacks 10 line → is_blank line ≡ false → AreFilled (lines ++ line ∷ [])
one_more lines line f lacks filled =
    let test = λ (l : List ℕ). not (is_blank l) in
    let both : list_all test (lines ++ line ∷ []) ≡ (list_all test lines && list_all test (line ∷ [])) = list_all-append test lines (line ∷ []) in
    let last : list_all test (line ∷ []) ≡ true = ap (λ b. not b && true) filled in
    record {
      lack = AllLack-append 10 lines (line ∷ []) f.lack (lacks, tt);
      filled = both ∙ ap (λ b. b && list_all test (line ∷ [])) f.filled ∙ last;
    }

pub told_more : (lines : List (List ℕ)) (line : List ℕ) (told next : Option ℕ) → told ≡ last_length lines → next ≡ option_or (length_in line) told → next ≡ last_length (lines ++ line ∷ [])
told_more lines line told next e n =
    n ∙ ap (λ t. option_or (length_in line) t) e ∙ sym (fold-append (λ (t : Option ℕ) (l : List ℕ). option_or (length_in l) t) None lines (line ∷ []))

pub text_more : (lines : List (List ℕ)) (line : List ℕ) → text_of lines ++ (line ++ 10 ∷ []) ≡ text_of (lines ++ line ∷ [])
text_more lines line = sym (text_of-append lines (line ∷ []) ∙ ap (λ t. text_of lines ++ t) (append-nil (line ++ 10 ∷ [])))

pub head_of : (lines : List (List ℕ)) (line : List ℕ) (told : Option ℕ) → AreFilled lines → told ≡ last_length lines → Lacks 10 line → is_blank line ≡ true → IsHead (text_of lines ++ (line ++ 10 ∷ [])) told
head_of lines line told f e lacks blank =
    record { lines = lines; blank = line; spelled = refl; filled = f; lacks = lacks; ends = blank; says = e }

-- a blank line is none of the others
not_blank : (l b : List ℕ) (ls : List (List ℕ)) (A : Type 0) → list_all (λ line. not (is_blank line)) (l ∷ ls) ≡ true → is_blank b ≡ true → b ≡ l → A
not_blank l b ls A filled blank e =
    let is : is_blank l ≡ true = ap is_blank (sym e) ∙ blank in
    let no : list_all (λ line. not (is_blank line)) (l ∷ ls) ≡ false = ap (λ x. not x && list_all (λ line. not (is_blank line)) ls) is in
    absurd (true≢false (sym filled ∙ no))

others : (l : List ℕ) (ls : List (List ℕ)) → list_all (λ line. not (is_blank line)) (l ∷ ls) ≡ true → list_all (λ line. not (is_blank line)) ls ≡ true
others l ls e = both (not (is_blank l)) e
  where
    both : (b : Bool) → (b && list_all (λ line. not (is_blank line)) ls) ≡ true → list_all (λ line. not (is_blank line)) ls ≡ true
    both true e = e
    both false e = absurd (true≢false (sym e))

same_lines : (ls ms : List (List ℕ)) (b c s t : List ℕ) → AllLack 10 ls → list_all (λ line. not (is_blank line)) ls ≡ true → AllLack 10 ms → list_all (λ line. not (is_blank line)) ms ≡ true
    → Lacks 10 b → is_blank b ≡ true → Lacks 10 c → is_blank c ≡ true → text_of ls ++ (b ++ 10 ∷ s) ≡ text_of ms ++ (c ++ 10 ∷ t) → (ls ≡ ms) × (s ≡ t)
same_lines [] [] b c s t f f' g g' h h' k k' e = (refl, (split_one 10 b s c t h k e).1)
same_lines [] (m ∷ ms) b c s t f f' g g' h h' k k' e =
    not_blank m b ms _ g' h' (split_one 10 b s m (text_of ms ++ (c ++ 10 ∷ t)) h g.0 (e ∙ text_of-cons m ms (c ++ 10 ∷ t))).0
same_lines (l ∷ ls) [] b c s t f f' g g' h h' k k' e =
    not_blank l c ls _ f' k' (sym (split_one 10 l (text_of ls ++ (b ++ 10 ∷ s)) c t f.0 k (sym (text_of-cons l ls (b ++ 10 ∷ s)) ∙ e)).0)
same_lines (l ∷ ls) (m ∷ ms) b c s t f f' g g' h h' k k' e =
    let p = split_one 10 l (text_of ls ++ (b ++ 10 ∷ s)) m (text_of ms ++ (c ++ 10 ∷ t)) f.0 g.0 (sym (text_of-cons l ls (b ++ 10 ∷ s)) ∙ e ∙ text_of-cons m ms (c ++ 10 ∷ t)) in
    let r = same_lines ls ms b c s t f.1 (others l ls f') g.1 (others m ms g') h h' k k' p.1 in
    let first : l ≡ m = p.0 in
    let rest : ls ≡ ms = r.0 in
    (cc, r.1)

-- lines and a part of a line are no head
no_head : (ls ms : List (List ℕ)) (p c t : List ℕ) → AllLack 10 ls → list_all (λ line. not (is_blank line)) ls ≡ true → Lacks 10 p → AllLack 10 ms → Lacks 10 c → is_blank c ≡ true
    → text_of ls ++ p ≡ text_of ms ++ (c ++ 10 ∷ t) → ⊥
no_head [] [] p c t f f' h g k k' e = lacks_not 10 c t p h (sym e)
no_head [] (m ∷ ms) p c t f f' h g k k' e = lacks_not 10 m (text_of ms ++ (c ++ 10 ∷ t)) p h (sym (e ∙ text_of-cons m ms (c ++ 10 ∷ t)))
no_head (l ∷ ls) [] p c t f f' h g k k' e =
    not_blank l c ls _ f' k' (sym (split_one 10 l (text_of ls ++ p) c t f.0 k (sym (text_of-cons l ls p) ∙ e)).0)
no_head (l ∷ ls) (m ∷ ms) p c t f f' h g k k' e =
    let q = split_one 10 l (text_of ls ++ p) m (text_of ms ++ (c ++ 10 ∷ t)) f.0 g.0 (sym (text_of-cons l ls p) ∙ e ∙ text_of-cons m ms (c ++ 10 ∷ t)) in
    no_head ls ms p c t f.1 (others l ls f') h g.1 k k' q.1

-- the bytes of a head and what follows it
with_rest : (head rest : List ℕ) (told : Option ℕ) (h : IsHead head told) → head ++ rest ≡ text_of h.lines ++ (h.blank ++ 10 ∷ rest)
with_rest head rest told h =
    ap (λ x. x ++ rest) h.spelled ∙ append_assoc (text_of h.lines) (h.blank ++ 10 ∷ []) rest ∙ ap (λ x. text_of h.lines ++ x) (append_assoc h.blank (10 ∷ []) rest)

pub headless : (lines : List (List ℕ)) (part : List ℕ) → AreFilled lines → Lacks 10 part → (head rest : List ℕ) (told : Option ℕ) → IsHead head told → text_of lines ++ part ≡ head ++ rest → ⊥
headless lines part f lacks head rest told h e =
    no_head lines h.lines part h.blank rest f.lack f.filled lacks h.filled.lack h.lacks h.ends (e ∙ with_rest head rest told h)

pub one_head : (a b s t : List ℕ) (told other : Option ℕ) → IsHead a told → IsHead b other → a ++ s ≡ b ++ t → (told ≡ other) × (s ≡ t)
one_head a b s t told other h k e =
    let r = same_lines h.lines k.lines h.blank k.blank s t h.filled.lack h.filled.filled k.filled.lack k.filled.filled h.lacks h.ends k.lacks k.ends (sym (with_rest a s told h) ∙ e ∙ with_rest b t other k) in
    (h.says ∙ ap last_length r.0 ∙ sym k.says, r.1)

-- what is known where no head came
pub none : (lines : List (List ℕ)) (part : List ℕ) (left : Option (List ℕ)) (e : Short) → AreFilled lines → Lacks 10 part → IsOver left e → IsHeadless (text_of lines ++ part) left e
none lines part left shorts.End f lacks over = ((λ head rest told h is. headless lines part f lacks head rest told h is), over)
none lines part left shorts.Failed f lacks over = tt

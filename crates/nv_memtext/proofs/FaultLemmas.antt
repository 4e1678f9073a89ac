-- The first faulty line of a memory text.
use Rattle.std.proofs.Common.{◌≡◌, ℕ, ◌+◌, List, [], ◌∷◌, ◌++◌, length, refl, sym, ap, ◌∙◌, subst, arith}
use Rattle.std.proofs.lemmas.List.{append-nil}
use Rattle.nv_lines.specs.Line.{Lacks, text_of}
use Rattle.nv_lines.specs.Format.{IsText, FirstFault, wrong, short}
use Rattle.nv_lines.proofs.SplitLaws.{lines_one, lacks_not, split_one, text_of-cons}
use Rattle.nv_base.specs.Memories.{Memories}
use Rattle.nv_memtext.specs.declared.line.Stretch.{Stretch}
use Rattle.nv_memtext.specs.MemoryText.{SpellsSizes, SpellsArgs, SpellsStretch, SpellStretches, IsWhole, IsFront, nothing, one_line, lines, IsTooLarge, IsBad}
use Rattle.nv_memtext.specs.inner.Reading.{HasFirst, HasLines}
use Rattle.nv_memtext.proofs.TextLemmas.{sizes_one, sizes_lack, text_lack, last_stretch, not_large, has_first, whole_of}

-- a whole text has two lines at least
pub two_lines : (params : ℕ) (ls : List (List ℕ)) (w : IsWhole params ls) → length ls ≡ length w.text.others + 2
two_lines params ls w = ap length w.text.lines ∙ omega arith

-- bytes without a line feed are no text
pub no_line : (params : ℕ) (bytes : List ℕ) → Lacks 10 bytes → IsText (IsWhole params) bytes → ⊥
no_line params bytes h t =
    let same = lines_one [] t.lines bytes [] tt (text_lack params t.lines _ _ t.whole.text) h tt (t.spelled ∙ sym (append-nil (text_of t.lines))) in
    omega (arith, two_lines params t.lines t.whole, ap length same.0)

-- nor is anything too large in them
pub no_line_large : (bytes : List ℕ) (size : ℕ) → Lacks 10 bytes → IsTooLarge bytes size → ⊥
no_line_large bytes size h t = lacks_not 10 t.line t.back bytes h (sym t.first)

pub bad_no_line : (params : ℕ) (bytes : List ℕ) → Lacks 10 bytes → IsBad params bytes 1
bad_no_line params bytes h =
    record {
      not_large = λ size t. no_line_large bytes size h t;
      fault = short [] bytes refl h (nothing refl) (no_line params bytes h);
    }

-- one line that gives no sizes begins no text
pub no_front_sizes : (params : ℕ) (line : List ℕ) → ((a b : ℕ) → ¬ SpellsSizes line a b) → ¬ IsFront params (line ∷ [])
no_front_sizes params line none (nothing e) = absurd (omega (arith, ap length e))
no_front_sizes params line none (one_line l a b e s small) = none a b (subst (λ x. SpellsSizes x a b) (sym (cc (e))) s)
no_front_sizes params line none (lines w) = absurd (omega (arith, two_lines params (line ∷ []) w))

pub bad_sizes : (params : ℕ) (bytes line rest : List ℕ) → bytes ≡ line ++ 10 ∷ rest → Lacks 10 line → ((a b : ℕ) → ¬ SpellsSizes line a b) → IsBad params bytes 1
bad_sizes params bytes line rest e h none =
    record {
      not_large = λ size t. none t.sram t.sdram (subst (λ l. SpellsSizes l t.sram t.sdram) (sym (split_one 10 line rest t.line t.back h (sizes_lack t.line t.sram t.sdram t.sizes) (sym e ∙ t.first)).0) t.sizes);
      fault = wrong [] line rest e h (nothing refl) (no_front_sizes params line none);
    }

-- the text of one line
pub first_spelled : (bytes rest : List ℕ) (sram sdram : ℕ) → (h : HasFirst bytes rest sram sdram) → bytes ≡ text_of (h.line ∷ []) ++ rest
first_spelled bytes rest sram sdram h = h.spelled ∙ sym (text_of-cons h.line [] rest)

-- the bytes end within line 2
pub bad_short_args : (params : ℕ) (bytes rest : List ℕ) (sram sdram : ℕ) → HasFirst bytes rest sram sdram → Lacks 10 rest → IsBad params bytes 2
bad_short_args params bytes rest sram sdram h lack =
    record {
      not_large = λ size t. not_large bytes rest sram sdram size h t;
      fault = short (h.line ∷ []) rest (first_spelled bytes rest sram sdram h) lack (one_line h.line sram sdram refl h.sizes h.small) none;
    }
  where
    none : IsText (IsWhole params) bytes → ⊥
    none t =
        let same = lines_one (h.line ∷ []) t.lines rest [] (h.lack, tt) (text_lack params t.lines _ _ t.whole.text) lack tt (sym (first_spelled bytes rest sram sdram h) ∙ (t.spelled ∙ sym (append-nil (text_of t.lines)))) in
        omega (arith, two_lines params t.lines t.whole, ap length same.0)

-- a second line that doesn't give the arguments begins no text
pub no_front_args : (params : ℕ) (first second : List ℕ) → ((args : List ℕ) → SpellsArgs second args → length args ≡ params → ⊥) → ¬ IsFront params (first ∷ second ∷ [])
no_front_args params first second none (nothing e) = absurd (omega (arith, ap length e))
no_front_args params first second none (one_line l a b e s small) = absurd (omega (arith, ap length e))
no_front_args params first second none (lines w) =
    let e = w.text.lines in
    let same : w.text.second ≡ second = cc (e) in
    none w.args (subst (λ l. SpellsArgs l w.args) same w.text.arguments) w.text.number

pub bad_args : (params : ℕ) (bytes rest line rest' : List ℕ) (sram sdram : ℕ) → HasFirst bytes rest sram sdram → rest ≡ line ++ 10 ∷ rest' → Lacks 10 line → ((args : List ℕ) → SpellsArgs line args → length args ≡ params → ⊥) → IsBad params bytes 2
bad_args params bytes rest line rest' sram sdram h e lack none =
    record {
      not_large = λ size t. not_large bytes rest sram sdram size h t;
      fault = wrong (h.line ∷ []) line rest' (first_spelled bytes rest sram sdram h ∙ ap (λ r. text_of (h.line ∷ []) ++ r) e) lack (one_line h.line sram sdram refl h.sizes h.small) (no_front_args params h.line line none);
    }

-- a further line that gives no stretch begins no text
pub no_front_stretch : (params sram sdram : ℕ) (first second : List ℕ) (others : List (List ℕ)) (line : List ℕ) → SpellsSizes first sram sdram → ((s : Stretch) → ¬ SpellsStretch sram sdram line s) → ¬ IsFront params ((first ∷ second ∷ others) ++ line ∷ [])
no_front_stretch params sram sdram first second others line sizes none (nothing e) = absurd (omega (arith, ap length e))
no_front_stretch params sram sdram first second others line sizes none (one_line l a b e s small) = absurd (omega (arith, ap length e))
no_front_stretch params sram sdram first second others line sizes none (lines w) =
    let e = w.text.lines in
    let same_first : w.text.first ≡ first = cc (e) in
    let same_others : w.text.others ≡ others ++ line ∷ [] = cc (e) in
    let same = sizes_one first w.text.sram w.text.sdram sram sdram (subst (λ l. SpellsSizes l w.text.sram w.text.sdram) same_first w.text.sizes) sizes in
    let spelled = subst (λ ls. SpellStretches w.text.sram w.text.sdram ls w.text.stretches) same_others w.text.spelled in
    let spelled' = subst (λ a. SpellStretches a w.text.sdram (others ++ line ∷ []) w.text.stretches) same.0 spelled in
    let spelled'' = subst (λ b. SpellStretches sram b (others ++ line ∷ []) w.text.stretches) same.1 spelled' in
    let last = last_stretch sram sdram others line w.text.stretches spelled'' in
    none last.0 last.1

front_of : (params sram sdram : ℕ) (bytes rest : List ℕ) (p : Memories) (args : List ℕ) (count : ℕ) → (h : HasLines params sram sdram bytes rest p args count) → IsFront params (h.first ∷ h.second ∷ h.others)
front_of params sram sdram bytes rest p args count h =
    lines (record { memories = p; args = args; text = whole_of params sram sdram bytes rest p args count h })

counted_of : (params sram sdram : ℕ) (bytes rest : List ℕ) (p : Memories) (args : List ℕ) (count : ℕ) → (h : HasLines params sram sdram bytes rest p args count) → length (h.first ∷ h.second ∷ h.others) + 1 ≡ count + 1
counted_of params sram sdram bytes rest p args count h = omega (arith, h.counted)

pub bad_stretch : (params sram sdram : ℕ) (bytes rest line rest' : List ℕ) (p : Memories) (args : List ℕ) (count : ℕ) → HasLines params sram sdram bytes rest p args count → rest ≡ line ++ 10 ∷ rest' → Lacks 10 line → ((s : Stretch) → ¬ SpellsStretch sram sdram line s) → IsBad params bytes (count + 1)
bad_stretch params sram sdram bytes rest line rest' p args count h e lack none =
    record {
      not_large = λ size t. not_large bytes _ sram sdram size (has_first params sram sdram bytes rest p args count h) t;
      fault = subst (FirstFault (IsFront params) (IsWhole params) bytes) (counted_of params sram sdram bytes rest p args count h)
          (wrong (h.first ∷ h.second ∷ h.others) line rest' (h.spelled ∙ ap (λ r. text_of (h.first ∷ h.second ∷ h.others) ++ r) e) lack
          (front_of params sram sdram bytes rest p args count h) (no_front_stretch params sram sdram h.first h.second h.others line h.sizes none));
    }

-- the bytes end within a further line
pub bad_short : (params sram sdram : ℕ) (bytes rest : List ℕ) (p : Memories) (args : List ℕ) (count : ℕ) → HasLines params sram sdram bytes rest p args count → Lacks 10 rest → (rest ≡ [] → ⊥) → IsBad params bytes (count + 1)
bad_short params sram sdram bytes rest p args count h lack some =
    record {
      not_large = λ size t. not_large bytes _ sram sdram size (has_first params sram sdram bytes rest p args count h) t;
      fault = subst (FirstFault (IsFront params) (IsWhole params) bytes) (counted_of params sram sdram bytes rest p args count h)
          (short (h.first ∷ h.second ∷ h.others) rest h.spelled lack (front_of params sram sdram bytes rest p args count h) none);
    }
  where
    none : IsText (IsWhole params) bytes → ⊥
    none t =
        let same = lines_one (h.first ∷ h.second ∷ h.others) t.lines rest [] (text_lack params _ p args (whole_of params sram sdram bytes rest p args count h)) (text_lack params t.lines _ _ t.whole.text) lack tt (sym h.spelled ∙ (t.spelled ∙ sym (append-nil (text_of t.lines)))) in
        some same.1

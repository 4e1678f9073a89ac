-- Of a text's answers one is true.
use Rattle.std.proofs.Common.{◌≡◌, ℕ, ◌≤◌, List, [], ◌∷◌, ◌++◌, length, refl, sym, ap, ◌∙◌, subst, arith, Some, Result, Ok, Err, IfOk, IfErr, decimal}
use Rattle.std.proofs.lemmas.List.{append-nil}
use Rattle.nv_lines.specs.Line.{AllLack, text_of}
use Rattle.nv_lines.specs.Format.{IsText, IsFormat}
use Rattle.nv_lines.proofs.SplitLaws.{lines_one, split_one, text_of-cons}
use Rattle.nv_lines.proofs.FormatLaws.{no_text, one_fault}
use Rattle.nv_base.specs.Memories.{Memories, blank, first_too_large}
use Rattle.nv_base.specs.MemoryNames.{memory_name}
use Rattle.nv_memtext.specs.declared.line.Stretch.{Stretch}
use Rattle.nv_memtext.specs.declared.read.Job.{Job}
use Rattle.nv_memtext.specs.declared.read.MemError.{MemError}
use Rattle.nv_memtext.specs.declared.read.MemError.TheVariants.{NoMemory, Bad, TooLarge}
use Rattle.nv_memtext.specs.MemoryText.{SpellsSizes, SpellsArgs, SpellsStretch, SpellStretches, stretched, IsMemoryText, IsWhole, IsFront, nothing, one_line, lines, IsTooLarge, IsBad, Gives}
use Rattle.nv_memtext.specs.Answer.{IsTrueError, AnswersJob, AnswersBad, AnswersTooLarge}
use Rattle.nv_memtext.specs.inner.Reading.{HasFirst}
use Rattle.nv_memtext.proofs.LineLemmas.{args_one, stretch_parts, stretch_is, IsOne, at_small}
use Rattle.nv_memtext.proofs.TextLemmas.{sizes_one, sizes_lack, text_lack, small_sizes, first_stretches, not_large}

-- two stretches of the same parts are one
stretch_ext : (s t : Stretch) → IsOne s t.mem t.at t.words → s ≡ t
stretch_ext s t h = λ j. record { mem = h.mem_is j; at = h.at_is j; words = h.words_is j }

stretch_one : (sram sdram : ℕ) (line : List ℕ) (s t : Stretch) → sram ≤ 65536 → sdram ≤ 65536 → SpellsStretch sram sdram line s → SpellsStretch sram sdram line t → s ≡ t
stretch_one sram sdram line s t a b h k =
    stretch_ext s t (stretch_is line (memory_name t.mem) (decimal t.at ∷ k.parts) k.parts t.mem t.at t.words sram sdram a b (stretch_parts line sram sdram t a b k) refl (at_small t.mem t.at (length t.words) sram sdram a b k.inside) refl k.words s h)

stretches_one : (sram sdram : ℕ) (ls : List (List ℕ)) (ss ts : List Stretch) → sram ≤ 65536 → sdram ≤ 65536 → SpellStretches sram sdram ls ss → SpellStretches sram sdram ls ts → ss ≡ ts
stretches_one sram sdram [] [] [] a b h k = refl
stretches_one sram sdram [] (s ∷ ss) ts a b h k = absurd h
stretches_one sram sdram [] [] (t ∷ ts) a b h k = absurd k
stretches_one sram sdram (l ∷ ls) [] ts a b h k = absurd h
stretches_one sram sdram (l ∷ ls) (s ∷ ss) [] a b h k = absurd k
stretches_one sram sdram (l ∷ ls) (s ∷ ss) (t ∷ ts) a b h k =
    let e = stretch_one sram sdram l s t a b h.0 k.0 in let f = stretches_one sram sdram ls ss ts a b h.1 k.1 in cc (e, f)

-- lines are those of one text
text_one : (params : ℕ) (ls : List (List ℕ)) (p q : Memories) (as' bs : List ℕ) → IsMemoryText params ls p as' → IsMemoryText params ls q bs → (p ≡ q) × (as' ≡ bs)
text_one params ls p q as' bs h k =
    let e = h.lines in let f = k.lines in
    let first : k.first ≡ h.first = cc (e, f) in
    let second : k.second ≡ h.second = cc (e, f) in
    let others : k.others ≡ h.others = cc (e, f) in
    let sizes = sizes_one h.first k.sram k.sdram h.sram h.sdram (subst (λ l. SpellsSizes l k.sram k.sdram) first k.sizes) h.sizes in
    let small = small_sizes h.sram h.sdram h.small in
    let spelled = subst (λ l. SpellStretches k.sram k.sdram l k.stretches) others k.spelled in
    let spelled' = subst (λ a. SpellStretches a k.sdram h.others k.stretches) sizes.0 spelled in
    let spelled'' = subst (λ b. SpellStretches h.sram b h.others k.stretches) sizes.1 spelled' in
    let same = stretches_one h.sram h.sdram h.others h.stretches k.stretches small.0 small.1 h.spelled spelled'' in
    let blank_same : blank k.sram k.sdram ≡ blank h.sram h.sdram = ap (λ a. blank a k.sdram) sizes.0 ∙ ap (λ b. blank h.sram b) sizes.1 in (
      h.memories ∙ (ap (λ ss. stretched (blank h.sram h.sdram) ss) same ∙ (ap (λ m. stretched m k.stretches) (sym blank_same) ∙ sym k.memories)),
      args_one h.second as' bs h.arguments (subst (λ l. SpellsArgs l bs) second k.arguments),
    )

pub gives_one : (params : ℕ) (bytes : List ℕ) (p q : Memories) (as' bs : List ℕ) → Gives params bytes p as' → Gives params bytes q bs → (p ≡ q) × (as' ≡ bs)
gives_one params bytes p q as' bs h k =
    let same = lines_one h.lines k.lines [] [] (text_lack params h.lines p as' h.text) (text_lack params k.lines q bs k.text) tt tt (ap (λ t. t ++ []) (sym h.spelled ∙ k.spelled)) in
    text_one params k.lines p q as' bs (subst (λ ls. IsMemoryText params ls p as') same.0 h.text) k.text

first_of : (params : ℕ) (bytes : List ℕ) (p : Memories) (args : List ℕ) → (g : Gives params bytes p args) → HasFirst bytes (text_of (g.text.second ∷ g.text.others)) g.text.sram g.text.sdram
first_of params bytes p args g =
    record {
      line = g.text.first;
      lack = sizes_lack g.text.first g.text.sram g.text.sdram g.text.sizes;
      spelled = g.spelled ∙ (ap text_of g.text.lines ∙ (sym (append-nil (text_of (g.text.first ∷ g.text.second ∷ g.text.others))) ∙ (text_of-cons g.text.first (g.text.second ∷ g.text.others) [] ∙ ap (λ t. g.text.first ++ 10 ∷ t) (append-nil (text_of (g.text.second ∷ g.text.others))))));
      sizes = g.text.sizes;
      small = g.text.small;
    }

pub gives_not_large : (params : ℕ) (bytes : List ℕ) (p : Memories) (args : List ℕ) (n : ℕ) → Gives params bytes p args → IsTooLarge bytes n → ⊥
gives_not_large params bytes p args n g t = not_large bytes _ g.text.sram g.text.sdram n (first_of params bytes p args g) t

pub large_one : (bytes : List ℕ) (m n : ℕ) → IsTooLarge bytes m → IsTooLarge bytes n → m ≡ n
large_one bytes m n h k =
    let same = (split_one 10 h.line h.back k.line k.back (sizes_lack h.line h.sram h.sdram h.sizes) (sizes_lack k.line k.sram k.sdram k.sizes) (sym h.first ∙ k.first)).0 in
    let sizes = sizes_one k.line h.sram h.sdram k.sram k.sdram (subst (λ l. SpellsSizes l h.sram h.sdram) same h.sizes) k.sizes in
    let e : first_too_large h.sram h.sdram ≡ first_too_large k.sram k.sdram = ap (λ a. first_too_large a h.sdram) sizes.0 ∙ ap (λ b. first_too_large k.sram b) sizes.1 in
    let f = h.large in let g = k.large in
    let s : Some m ≡ Some n = cc (e, f, g) in cc (s)

-- what begins a memory text is a format
front_fewer : (params : ℕ) (ls more : List (List ℕ)) → IsFront params (ls ++ more) → IsFront params ls
front_fewer params [] more h = nothing refl
front_fewer params (l ∷ []) more (nothing e) = absurd (omega (arith, ap length e))
front_fewer params (l ∷ []) more (one_line m a b e s small) = let f : m ≡ l = cc (e) in one_line l a b refl (subst (λ x. SpellsSizes x a b) f s) small
front_fewer params (l ∷ []) more (lines w) = let e = w.text.lines in let f : w.text.first ≡ l = cc (e) in one_line l w.text.sram w.text.sdram refl (subst (λ x. SpellsSizes x w.text.sram w.text.sdram) f w.text.sizes) w.text.small
front_fewer params (l ∷ m ∷ ls) more (nothing e) = absurd (omega (arith, ap length e))
front_fewer params (l ∷ m ∷ ls) more (one_line x a b e s small) = absurd (omega (arith, ap length e))
front_fewer params (l ∷ m ∷ ls) more (lines w) =
    let e = w.text.lines in
    let first : w.text.first ≡ l = cc (e) in
    let second : w.text.second ≡ m = cc (e) in
    let others : w.text.others ≡ ls ++ more = cc (e) in
    let fewer = first_stretches w.text.sram w.text.sdram ls more w.text.stretches (subst (λ x. SpellStretches w.text.sram w.text.sdram x w.text.stretches) others w.text.spelled) in
    lines (record {
      memories = stretched (blank w.text.sram w.text.sdram) fewer.0;
      args = w.args;
      text = record {
        sram = w.text.sram;
        sdram = w.text.sdram;
        first = l;
        second = m;
        others = ls;
        stretches = fewer.0;
        lines = refl;
        sizes = subst (λ x. SpellsSizes x w.text.sram w.text.sdram) first w.text.sizes;
        small = w.text.small;
        arguments = subst (λ x. SpellsArgs x w.args) second w.text.arguments;
        number = w.text.number;
        spelled = fewer.1;
        memories = refl;
      };
    })

front_lack : (params : ℕ) (ls : List (List ℕ)) → IsFront params ls → AllLack 10 ls
front_lack params ls (nothing e) = subst (AllLack 10) (sym e) tt
front_lack params ls (one_line l a b e s small) = subst (AllLack 10) (sym e) (sizes_lack l a b s, tt)
front_lack params ls (lines w) = text_lack params ls w.memories w.args w.text

pub memory_format : (params : ℕ) → IsFormat (IsFront params) (IsWhole params)
memory_format params = record { whole = λ ls w. lines w; fewer = front_fewer params; lack = front_lack params }

gives_text : (params : ℕ) (bytes : List ℕ) (p : Memories) (args : List ℕ) → Gives params bytes p args → IsText (IsWhole params) bytes
gives_text params bytes p args g = record { lines = g.lines; spelled = g.spelled; whole = record { memories = p; args = args; text = g.text } }

pub gives_not_bad : (params : ℕ) (bytes : List ℕ) (p : Memories) (args : List ℕ) (n : ℕ) → Gives params bytes p args → IsBad params bytes n → ⊥
gives_not_bad params bytes p args n g b = no_text (IsFront params) (IsWhole params) bytes n (memory_format params) b.fault (gives_text params bytes p args g)

pub bad_one : (params : ℕ) (bytes : List ℕ) (m n : ℕ) → IsBad params bytes m → IsBad params bytes n → m ≡ n
bad_one params bytes m n b d = one_fault (IsFront params) (IsWhole params) bytes m n (memory_format params) b.fault d.fault

pub given_answer : (params : ℕ) (bytes : List ℕ) (r : Result Job MemError) → IfOk r (λ job. Gives params bytes job.packet job.args) → IfErr r (IsTrueError params bytes) → (p : Memories) (args : List ℕ) → Gives params bytes p args → AnswersJob r p args
given_answer params bytes (Ok job) ok err p args g = gives_one params bytes job.packet p job.args args ok g
given_answer params bytes (Err NoMemory) ok err p args g = tt
given_answer params bytes (Err (Bad n)) ok err p args g = gives_not_bad params bytes p args n g err
given_answer params bytes (Err (TooLarge n)) ok err p args g = gives_not_large params bytes p args n g err

pub bad_answer : (params : ℕ) (bytes : List ℕ) (r : Result Job MemError) → IfOk r (λ job. Gives params bytes job.packet job.args) → IfErr r (IsTrueError params bytes) → (n : ℕ) → IsBad params bytes n → AnswersBad r n
bad_answer params bytes (Ok job) ok err n b = gives_not_bad params bytes job.packet job.args n ok b
bad_answer params bytes (Err NoMemory) ok err n b = tt
bad_answer params bytes (Err (Bad m)) ok err n b = bad_one params bytes m n err b
bad_answer params bytes (Err (TooLarge m)) ok err n b = b.not_large m err

pub large_answer : (params : ℕ) (bytes : List ℕ) (r : Result Job MemError) → IfOk r (λ job. Gives params bytes job.packet job.args) → IfErr r (IsTrueError params bytes) → (n : ℕ) → IsTooLarge bytes n → AnswersTooLarge r n
large_answer params bytes (Ok job) ok err n t = gives_not_large params bytes job.packet job.args n ok t
large_answer params bytes (Err NoMemory) ok err n t = tt
large_answer params bytes (Err (Bad m)) ok err n t = err.not_large n t
large_answer params bytes (Err (TooLarge m)) ok err n t = large_one bytes m n err t

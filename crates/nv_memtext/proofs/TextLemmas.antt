-- Memory texts: one line more, and what no text begins with.
use Rattle.std.proofs.Common.{◌≡◌, ℕ, ◌+◌, ◌*◌, ◌<◌, ◌≤◌, List, [], ◌∷◌, ◌++◌, length, refl, sym, ap, ◌∙◌, subst, arith, codes, decimal, lit≤, None, Some, unwrap_or, leb, take, drop}
use Rattle.std.proofs.lemmas.Bool.{leb-true}
use Rattle.std.proofs.lemmas.List.{append-nil, length-append, length-take-le, length-drop}
use Rattle.std.proofs.lemmas.Bool.Decides.{nat_tests}
use Rattle.std.proofs.lemmas.Option.{cond_some}
use Rattle.nv_lines.specs.Line.{Lacks, AllLack, text_of}
use Rattle.nv_lines.proofs.SplitLaws.{split_one, text_of-push, text_of-cons, Lacks-parted, Lacks-test}
use Rattle.nv_lines.proofs.NumberLaws.{Lacks-decimal}
use Rattle.nv_lines.proofs.NumberLemmas.{decimal_one}
use Rattle.nv_base.specs.Memories.{Memories, blank, first_too_large, stored, words_at}
use Rattle.nv_base.specs.MemoryNames.{memory_name}
use Rattle.nv_base.specs.declared.term.Mem.{Mem}
use Rattle.nv_base.specs.declared.term.Mem.TheVariants.{Sram, Sdram, Scratch}
use Rattle.nv_memtext.specs.declared.line.Stretch.{Stretch}
use Rattle.nv_memtext.specs.Places.{room}
use Rattle.nv_memtext.specs.MemoryText.{SpellsSizes, SpellsArgs, SpellsStretch, SpellStretches, stretched, IsMemoryText, IsTooLarge, Gives}
use Rattle.nv_memtext.specs.inner.Reading.{HasFirst, HasLines, HasLengths}
use Rattle.nv_memtext.proofs.LineLemmas.{sizes_parts, at_small}
use Rattle.nv_memtext.proofs.WordLemmas.{SpellWords-lack}

-- a first line gives one pair of sizes
pub sizes_one : (line : List ℕ) (a b c d : ℕ) → SpellsSizes line a b → SpellsSizes line c d → (a ≡ c) × (b ≡ d)
sizes_one line a b c d h k =
    let e = sizes_parts line a b h in
    let f = sizes_parts line c d k in
    let x : decimal a ≡ decimal c = cc (e, f) in
    let y : decimal b ≡ decimal d = cc (e, f) in
    (decimal_one a c (omega (arith, h.sram_digits)) (omega (arith, k.sram_digits)) x, decimal_one b d (omega (arith, h.sdram_digits)) (omega (arith, k.sdram_digits)) y)

-- no line has a line feed in it
pub sizes_lack : (line : List ℕ) (a b : ℕ) → SpellsSizes line a b → Lacks 10 line
sizes_lack line a b h =
    subst (Lacks 10) (sym h.spelled)
    (Lacks-parted 10 (codes "memory" ∷ decimal a ∷ decimal b ∷ []) (λ e. omega (arith, e))
    (Lacks-test 10 (codes "memory") refl, (Lacks-decimal 10 a (lit≤ tt) (omega (arith, h.sram_digits)), (Lacks-decimal 10 b (lit≤ tt) (omega (arith, h.sdram_digits)), tt))))

pub args_lack : (line args : List ℕ) → SpellsArgs line args → Lacks 10 line
args_lack line args h =
    subst (Lacks 10) (sym h.spelled)
    (Lacks-parted 10 (codes "args" ∷ h.parts) (λ e. omega (arith, e)) (Lacks-test 10 (codes "args") refl, SpellWords-lack 10 h.parts args (lit≤ tt) h.words))

name_lacks_feed : (m : Mem) → Lacks 10 (memory_name m)
name_lacks_feed Sram = Lacks-test 10 (codes "sram") refl
name_lacks_feed Sdram = Lacks-test 10 (codes "sdram") refl
name_lacks_feed Scratch = Lacks-test 10 (codes "scratch") refl

pub stretch_lack : (sram sdram : ℕ) (line : List ℕ) (s : Stretch) → sram ≤ 65536 → sdram ≤ 65536 → SpellsStretch sram sdram line s → Lacks 10 line
stretch_lack sram sdram line s a b h =
    let small = at_small s.mem s.at (length s.words) sram sdram a b h.inside in
    subst (Lacks 10) (sym h.spelled)
    (Lacks-parted 10 (memory_name s.mem ∷ decimal s.at ∷ h.parts) (λ e. omega (arith, e))
    (name_lacks_feed s.mem, (Lacks-decimal 10 s.at (lit≤ tt) (omega arith), SpellWords-lack 10 h.parts s.words (lit≤ tt) h.words)))

pub stretches_lack : (sram sdram : ℕ) (ls : List (List ℕ)) (ss : List Stretch) → sram ≤ 65536 → sdram ≤ 65536 → SpellStretches sram sdram ls ss → AllLack 10 ls
stretches_lack sram sdram [] ss a b h = tt
stretches_lack sram sdram (l ∷ ls) [] a b h = absurd h
stretches_lack sram sdram (l ∷ ls) (s ∷ ss) a b h = (stretch_lack sram sdram l s a b h.0, stretches_lack sram sdram ls ss a b h.1)

small_first : (a b : ℕ) → first_too_large a b ≡ None → a ≤ 65536
small_first a b e = grind (arith, nat_tests)

small_second : (a b : ℕ) → first_too_large a b ≡ None → b ≤ 65536
small_second a b e = grind (arith, nat_tests)

-- sizes that aren't too large
pub small_sizes : (a b : ℕ) → first_too_large a b ≡ None → (a ≤ 65536) × (b ≤ 65536)
small_sizes a b e = (small_first a b e, small_second a b e)

pub SpellStretches-push : (sram sdram : ℕ) (ls : List (List ℕ)) (ss : List Stretch) (l : List ℕ) (s : Stretch) → SpellStretches sram sdram ls ss → SpellsStretch sram sdram l s → SpellStretches sram sdram (ls ++ l ∷ []) (ss ++ s ∷ [])
SpellStretches-push sram sdram [] [] l s h k = (k, tt)
SpellStretches-push sram sdram [] (t ∷ ss) l s h k = absurd h
SpellStretches-push sram sdram (m ∷ ls) [] l s h k = absurd h
SpellStretches-push sram sdram (m ∷ ls) (t ∷ ss) l s h k = (h.0, SpellStretches-push sram sdram ls ss l s h.1 k)

-- each line that others follow, or none, gives a stretch
pub last_stretch : (sram sdram : ℕ) (ls : List (List ℕ)) (l : List ℕ) (ss : List Stretch) → SpellStretches sram sdram (ls ++ l ∷ []) ss → (s : Stretch) × SpellsStretch sram sdram l s
last_stretch sram sdram [] l [] h = absurd h
last_stretch sram sdram [] l (s ∷ ss) h = (s, h.0)
last_stretch sram sdram (m ∷ ls) l [] h = absurd h
last_stretch sram sdram (m ∷ ls) l (s ∷ ss) h = last_stretch sram sdram ls l ss h.1

-- the first lines give the first stretches
pub first_stretches : (sram sdram : ℕ) (ls more : List (List ℕ)) (ss : List Stretch) → SpellStretches sram sdram (ls ++ more) ss → (ts : List Stretch) × SpellStretches sram sdram ls ts
first_stretches sram sdram [] more ss h = ([], tt)
first_stretches sram sdram (l ∷ ls) more [] h = absurd h
first_stretches sram sdram (l ∷ ls) more (s ∷ ss) h = let r = first_stretches sram sdram ls more ss h.1 in (s ∷ r.0, (h.0, r.1))

pub stretched-push : (p : Memories) (ss : List Stretch) (s : Stretch) → stretched p (ss ++ s ∷ []) ≡ unwrap_or (stored s.mem s.at s.words (stretched p ss)) (stretched p ss)
stretched-push p [] s = refl
stretched-push p (t ∷ ss) s = stretched-push (unwrap_or (stored t.mem t.at t.words p) p) ss s

-- one stretch more, put in
pub has_more : (params sram sdram : ℕ) (bytes rest rest' line : List ℕ) (p q : Memories) (args : List ℕ) (count : ℕ) (s : Stretch) → HasLines params sram sdram bytes rest p args count → rest ≡ line ++ 10 ∷ rest' → SpellsStretch sram sdram line s → stored s.mem s.at s.words p ≡ Some q → HasLines params sram sdram bytes rest' q args (count + 1)
has_more params sram sdram bytes rest rest' line p q args count s h e spells put =
    record {
      first = h.first;
      second = h.second;
      others = h.others ++ line ∷ [];
      stretches = h.stretches ++ s ∷ [];
      spelled = h.spelled ∙ (ap (λ r. text_of (h.first ∷ h.second ∷ h.others) ++ r) e ∙ sym (text_of-push (h.first ∷ h.second ∷ h.others) line rest'));
      sizes = h.sizes;
      small = h.small;
      arguments = h.arguments;
      number = h.number;
      spells = SpellStretches-push sram sdram h.others h.stretches line s h.spells spells;
      memories = sym (stretched-push (blank sram sdram) h.stretches s ∙ (ap (λ m. unwrap_or (stored s.mem s.at s.words m) m) (sym h.memories) ∙ ap (λ o. unwrap_or o p) put));
      counted = omega (arith, length-append h.others (line ∷ []), h.counted);
    }

-- at the end of the bytes the lines are a whole text
pub whole_of : (params sram sdram : ℕ) (bytes rest : List ℕ) (p : Memories) (args : List ℕ) (count : ℕ) → (h : HasLines params sram sdram bytes rest p args count) → IsMemoryText params (h.first ∷ h.second ∷ h.others) p args
whole_of params sram sdram bytes rest p args count h =
    record {
      sram = sram;
      sdram = sdram;
      first = h.first;
      second = h.second;
      others = h.others;
      stretches = h.stretches;
      lines = refl;
      sizes = h.sizes;
      small = h.small;
      arguments = h.arguments;
      number = h.number;
      spelled = h.spells;
      memories = h.memories;
    }

pub gives_at_end : (params sram sdram : ℕ) (bytes rest : List ℕ) (p : Memories) (args : List ℕ) (count : ℕ) → HasLines params sram sdram bytes rest p args count → rest ≡ [] → Gives params bytes p args
gives_at_end params sram sdram bytes rest p args count h e =
    record {
      lines = h.first ∷ h.second ∷ h.others;
      spelled = h.spelled ∙ (ap (λ r. text_of (h.first ∷ h.second ∷ h.others) ++ r) e ∙ append-nil (text_of (h.first ∷ h.second ∷ h.others)));
      text = whole_of params sram sdram bytes rest p args count h;
    }

-- lines of a text lack line feeds
pub text_lack : (params : ℕ) (ls : List (List ℕ)) (p : Memories) (args : List ℕ) → IsMemoryText params ls p args → AllLack 10 ls
text_lack params ls p args t =
    let small = small_sizes t.sram t.sdram t.small in
    subst (AllLack 10) (sym t.lines)
    (sizes_lack t.first t.sram t.sdram t.sizes, (args_lack t.second args t.arguments, stretches_lack t.sram t.sdram t.others t.stretches small.0 small.1 t.spelled))

-- one size or the other is the first that is too large
pub too_large_first : (a b : ℕ) → 65536 < a → first_too_large a b ≡ Some a
too_large_first a b h = grind (arith, nat_tests)

pub too_large_second : (a b : ℕ) → a ≤ 65536 → 65536 < b → first_too_large a b ≡ Some b
too_large_second a b h k = grind (arith, nat_tests)

pub none_too_large : (a b : ℕ) → a ≤ 65536 → b ≤ 65536 → first_too_large a b ≡ None
none_too_large a b h k = grind (arith, nat_tests)

-- a line that gives sizes stands in front of bytes one way
pub not_large : (bytes rest : List ℕ) (sram sdram size : ℕ) → HasFirst bytes rest sram sdram → IsTooLarge bytes size → ⊥
not_large bytes rest sram sdram size h t =
    let same = (split_one 10 h.line rest t.line t.back h.lack (sizes_lack t.line t.sram t.sdram t.sizes) (sym h.spelled ∙ t.first)).0 in
    let sizes = sizes_one t.line sram sdram t.sram t.sdram (subst (λ l. SpellsSizes l sram sdram) same h.sizes) t.sizes in
    let e : first_too_large sram sdram ≡ first_too_large t.sram t.sdram = ap (λ a. first_too_large a sdram) sizes.0 ∙ ap (λ b. first_too_large t.sram b) sizes.1 in
    let f = h.small in let g = t.large in cc (e, f, g)

-- the first of several lines
pub has_first : (params sram sdram : ℕ) (bytes rest : List ℕ) (p : Memories) (args : List ℕ) (count : ℕ) → (h : HasLines params sram sdram bytes rest p args count) → HasFirst bytes (text_of (h.second ∷ h.others) ++ rest) sram sdram
has_first params sram sdram bytes rest p args count h =
    record {
      line = h.first;
      lack = sizes_lack h.first sram sdram h.sizes;
      spelled = h.spelled ∙ text_of-cons h.first (h.second ∷ h.others) rest;
      sizes = h.sizes;
      small = h.small;
    }

-- words put into a list leave its length
put_length : (first : ℕ) (ws old : List ℕ) → first + length ws ≤ length old → length (take first old ++ ws ++ drop (first + length ws) old) ≡ length old
put_length first ws old h =
    let a = length-append (take first old ++ ws) (drop (first + length ws) old) in
    let b = length-append (take first old) ws in
    let c = length-take-le first old (omega arith) in
    let d = length-drop (first + length ws) old in
    omega (arith, a, b, c, d)

-- words put into a memory leave each memory's length
pub put_lengths : (m : Mem) (at : ℕ) (ws : List ℕ) (p q : Memories) (sram sdram : ℕ) → stored m at ws p ≡ Some q → HasLengths p sram sdram → HasLengths q sram sdram
put_lengths Sram at ws p q sram sdram e h =
    let f = cond_some (leb (at + length ws) (length p.sram)) _ q e in
    let inside = leb-true (at + length ws) (length p.sram) f.0 in
    subst (λ r. HasLengths r sram sdram) f.1 (record { sram_words = put_length at ws p.sram inside ∙ h.sram_words; sdram_words = h.sdram_words; scratch_words = h.scratch_words })
put_lengths Sdram at ws p q sram sdram e h =
    let f = cond_some (leb (2 * at + length ws) (length p.sdram)) _ q e in
    let inside = leb-true (2 * at + length ws) (length p.sdram) f.0 in
    subst (λ r. HasLengths r sram sdram) f.1 (record { sram_words = h.sram_words; sdram_words = put_length (2 * at) ws p.sdram inside ∙ h.sdram_words; scratch_words = h.scratch_words })
put_lengths Scratch at ws p q sram sdram e h =
    let f = cond_some (leb (at + length ws) (length p.scratch)) _ q e in
    let inside = leb-true (at + length ws) (length p.scratch) f.0 in
    subst (λ r. HasLengths r sram sdram) f.1 (record { sram_words = h.sram_words; sdram_words = h.sdram_words; scratch_words = put_length at ws p.scratch inside ∙ h.scratch_words })

-- what lies inside a text's memories lies inside the packet's
pub inside_lengths : (m : Mem) (n sram sdram : ℕ) (p : Memories) → HasLengths p sram sdram → n ≤ room sram sdram m → n ≤ length (words_at m p)
inside_lengths Sram n sram sdram p h k = omega (arith, h.sram_words)
inside_lengths Sdram n sram sdram p h k = omega (arith, h.sdram_words)
inside_lengths Scratch n sram sdram p h k = omega (arith, h.scratch_words)

-- the two first lines
pub has_two : (params sram sdram : ℕ) (bytes rest rest' line args : List ℕ) → HasFirst bytes rest sram sdram → rest ≡ line ++ 10 ∷ rest' → SpellsArgs line args → length args ≡ params → HasLines params sram sdram bytes rest' (blank sram sdram) args 2
has_two params sram sdram bytes rest rest' line args h e spells number =
    record {
      first = h.line;
      second = line;
      others = [];
      stretches = [];
      spelled = h.spelled ∙ (ap (λ r. h.line ++ 10 ∷ r) (e ∙ sym (text_of-cons line [] rest')) ∙ sym (text_of-cons h.line (line ∷ []) rest'));
      sizes = h.sizes;
      small = h.small;
      arguments = spells;
      number = number;
      spells = tt;
      memories = refl;
      counted = refl;
    }

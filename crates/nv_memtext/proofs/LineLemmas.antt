-- What each line's parts are.
use Rattle.std.proofs.Common.{◌≡◌, ℕ, ◌+◌, ◌/◌, ◌%◌, ◌<◌, ◌≤◌, List, [], ◌∷◌, length, refl, sym, ap, ◌∙◌, subst, arith, codes, decimal, lit≤, Option, None, Some, IfSome, IfNone}
use Rattle.nv_base.proofs.Operands.{access_eight}
use Rattle.nv_lines.specs.Line.{Lacks, parts, parted}
use Rattle.nv_lines.proofs.SplitLaws.{parts-parted, parted-parts, Lacks-test}
use Rattle.nv_lines.proofs.NumberLaws.{Lacks-decimal}
use Rattle.nv_lines.proofs.NumberLemmas.{decimal_one}
use Rattle.nv_base.specs.declared.term.Mem.{Mem}
use Rattle.nv_base.specs.declared.term.Mem.TheVariants.{Sram, Sdram, Scratch}
use Rattle.nv_base.specs.Memories.{IsAccess, first_word}
use Rattle.nv_base.specs.MemoryNames.{memory_name}
use Rattle.nv_memtext.specs.Spelling.{SpellWords}
use Rattle.nv_memtext.specs.Places.{room}
use Rattle.nv_memtext.specs.MemoryText.{SpellsSizes, SpellsArgs, SpellsStretch}
use Rattle.nv_memtext.specs.declared.line.Stretch.{Stretch}
use Rattle.nv_memtext.proofs.WordLemmas.{SpellWords-lack, SpellWords-one}

pub sizes_parts : (line : List ℕ) (a b : ℕ) → SpellsSizes line a b → parts line ≡ codes "memory" ∷ decimal a ∷ decimal b ∷ []
sizes_parts line a b s =
    ap parts s.spelled ∙ parts-parted (codes "memory") (decimal a ∷ decimal b ∷ [])
    (Lacks-test 32 (codes "memory") refl, (Lacks-decimal 32 a (lit≤ tt) (omega (arith, s.sram_digits)), (Lacks-decimal 32 b (lit≤ tt) (omega (arith, s.sdram_digits)), tt)))

-- what stands after the name
pub sizes_rest : (line : List ℕ) (new : List (List ℕ)) (a b : ℕ) → parts line ≡ codes "memory" ∷ new → SpellsSizes line a b → new ≡ decimal a ∷ decimal b ∷ []
sizes_rest line new a b e s = let f = sizes_parts line a b s in cc (e, f)

pub sizes_from_parts : (line : List ℕ) (a b : ℕ) → a ≤ 9999999999 → b ≤ 9999999999 → parts line ≡ codes "memory" ∷ decimal a ∷ decimal b ∷ [] → SpellsSizes line a b
sizes_from_parts line a b h k e =
    record { sram_digits = omega arith; sdram_digits = omega arith; spelled = sym (parted-parts line) ∙ ap parted e }

pub args_parts : (line : List ℕ) (args : List ℕ) (s : SpellsArgs line args) → parts line ≡ codes "args" ∷ s.parts
args_parts line args s =
    ap parts s.spelled ∙ parts-parted (codes "args") s.parts (Lacks-test 32 (codes "args") refl, SpellWords-lack 32 s.parts args (lit≤ tt) s.words)

-- an access at SDRAM has an even number of words
pub sdram_access : (n : ℕ) → 0 < n → n ≤ 8 → n % 2 ≡ 0 → IsAccess Sdram n
sdram_access n some few even = (n / 2, omega arith, omega arith, omega arith)

pub sdram_even : (n : ℕ) → IsAccess Sdram n → n % 2 ≡ 0
sdram_even n h = omega (arith, h.1)

pub name_lacks : (m : Mem) → Lacks 32 (memory_name m)
name_lacks Sram = Lacks-test 32 (codes "sram") refl
name_lacks Sdram = Lacks-test 32 (codes "sdram") refl
name_lacks Scratch = Lacks-test 32 (codes "scratch") refl

-- a name is that of one memory
pub name_one : (m n : Mem) → memory_name m ≡ memory_name n → m ≡ n
name_one Sram Sram e = refl
name_one Sram Sdram e = absurd (omega (arith, ap length e))
name_one Sram Scratch e = absurd (omega (arith, ap length e))
name_one Sdram Sram e = absurd (omega (arith, ap length e))
name_one Sdram Sdram e = refl
name_one Sdram Scratch e = absurd (omega (arith, ap length e))
name_one Scratch Sram e = absurd (omega (arith, ap length e))
name_one Scratch Sdram e = absurd (omega (arith, ap length e))
name_one Scratch Scratch e = refl

pub at_small : (m : Mem) (at n sram sdram : ℕ) → sram ≤ 65536 → sdram ≤ 65536 → first_word m at + n ≤ room sram sdram m → at ≤ 9999999999
at_small Sram at n sram sdram a b h = omega arith
at_small Sdram at n sram sdram a b h = omega arith
at_small Scratch at n sram sdram a b h = omega arith

pub stretch_parts : (line : List ℕ) (sram sdram : ℕ) (s : Stretch) → sram ≤ 65536 → sdram ≤ 65536 → (h : SpellsStretch sram sdram line s) → parts line ≡ memory_name s.mem ∷ decimal s.at ∷ h.parts
stretch_parts line sram sdram s a b h =
    let small = at_small s.mem s.at (length s.words) sram sdram a b h.inside in
    ap parts h.spelled ∙ parts-parted (memory_name s.mem) (decimal s.at ∷ h.parts)
    (name_lacks s.mem, (Lacks-decimal 32 s.at (lit≤ tt) (omega arith), SpellWords-lack 32 h.parts s.words (lit≤ tt) h.words))

-- no number after the name
pub no_address : (line name : List ℕ) (new : List (List ℕ)) (sram sdram : ℕ) → sram ≤ 65536 → sdram ≤ 65536 → parts line ≡ name ∷ new → ((n : ℕ) (ps : List (List ℕ)) → n ≤ 9999999999 → new ≡ decimal n ∷ ps → ⊥) → (s : Stretch) → SpellsStretch sram sdram line s → ⊥
no_address line name new sram sdram a b e none s h =
    let f = stretch_parts line sram sdram s a b h in
    none s.at h.parts (at_small s.mem s.at (length s.words) sram sdram a b h.inside) (cc (e, f))

-- no words after the address
pub no_words : (line name : List ℕ) (new new' : List (List ℕ)) (at sram sdram : ℕ) → sram ≤ 65536 → sdram ≤ 65536 → parts line ≡ name ∷ new → new ≡ decimal at ∷ new' → ((ws : List ℕ) → length ws ≤ 8 → SpellWords new' ws → ⊥) → (s : Stretch) → SpellsStretch sram sdram line s → ⊥
no_words line name new new' at sram sdram a b e e' none s h =
    let f = stretch_parts line sram sdram s a b h in
    let same : h.parts ≡ new' = cc (e, e', f) in
    none s.words (access_eight s.mem (length s.words) h.number) (subst (λ ps. SpellWords ps s.words) same h.words)

-- the one stretch of a line
pub record IsOne (s : Stretch) (mem : Mem) (at : ℕ) (words : List ℕ) : Type 0 where
  pub mem_is : s.mem ≡ mem
  pub at_is : s.at ≡ at
  pub words_is : s.words ≡ words

pub stretch_is : (line name : List ℕ) (new new' : List (List ℕ)) (mem : Mem) (at : ℕ) (words : List ℕ) (sram sdram : ℕ) → sram ≤ 65536 → sdram ≤ 65536 → parts line ≡ name ∷ new → name ≡ memory_name mem → at ≤ 9999999999 → new ≡ decimal at ∷ new' → SpellWords new' words → (s : Stretch) → SpellsStretch sram sdram line s → IsOne s mem at words
stretch_is line name new new' mem at words sram sdram a b e named small e' spell s h =
    let f = stretch_parts line sram sdram s a b h in
    let name_same : memory_name s.mem ≡ memory_name mem = cc (e, f, named) in
    let at_same : decimal s.at ≡ decimal at = cc (e, e', f) in
    let parts_same : h.parts ≡ new' = cc (e, e', f) in
    record {
      mem_is = name_one s.mem mem name_same;
      at_is = decimal_one s.at at (omega (arith, at_small s.mem s.at (length s.words) sram sdram a b h.inside)) (omega arith) at_same;
      words_is = SpellWords-one new' s.words words (subst (λ ps. SpellWords ps s.words) parts_same h.words) spell;
    }

pub not_access : (sram sdram : ℕ) (line : List ℕ) (s : Stretch) (mem : Mem) (at : ℕ) (words : List ℕ) → IsOne s mem at words → (IsAccess mem (length words) → ⊥) → SpellsStretch sram sdram line s → ⊥
not_access sram sdram line s mem at words one none h =
    none (subst (λ m. IsAccess m (length words)) one.mem_is (subst (λ ws. IsAccess s.mem (length ws)) one.words_is h.number))

pub not_inside : (sram sdram : ℕ) (line : List ℕ) (s : Stretch) (mem : Mem) (at : ℕ) (words : List ℕ) → IsOne s mem at words → (first_word mem at + length words ≤ room sram sdram mem → ⊥) → SpellsStretch sram sdram line s → ⊥
not_inside sram sdram line s mem at words one none h =
    let k : first_word mem s.at + length s.words ≤ room sram sdram mem = subst (λ m. first_word m s.at + length s.words ≤ room sram sdram m) one.mem_is h.inside in
    let k' : first_word mem at + length s.words ≤ room sram sdram mem = subst (λ x. first_word mem x + length s.words ≤ room sram sdram mem) one.at_is k in
    none (subst (λ ws. first_word mem at + length ws ≤ room sram sdram mem) one.words_is k')

pub args_from_parts : (line : List ℕ) (new : List (List ℕ)) (ws : List ℕ) → parts line ≡ codes "args" ∷ new → SpellWords new ws × (length ws ≤ 8) → SpellsArgs line ws
args_from_parts line new ws e h =
    record { parts = new; spelled = sym (parted-parts line) ∙ ap parted e; words = h.0; eight = h.1 }

pub no_args : (line : List ℕ) (new : List (List ℕ)) → parts line ≡ codes "args" ∷ new → ((ws : List ℕ) → length ws ≤ 8 → SpellWords new ws → ⊥) → (ws : List ℕ) → SpellsArgs line ws → ⊥
no_args line new e none ws s =
    let f = args_parts line ws s in
    let same : s.parts ≡ new = cc (e, f) in
    none ws s.eight (subst (λ ps. SpellWords ps ws) same s.words)

pub if_some : {X : Type 0} (r : Option X) (P Q : X → Type 0) → ((x : X) → P x → Q x) → IfSome r P → IfSome r Q
if_some None P Q f h = tt
if_some (Some x) P Q f h = f x h

pub if_none : {X : Type 0} (r : Option X) {P Q : Type 0} → (P → Q) → IfNone r P → IfNone r Q
if_none None f h = f h
if_none (Some x) f h = tt

pub stretch_from_parts : (line name : List ℕ) (new new' : List (List ℕ)) (mem : Mem) (at : ℕ) (words : List ℕ) (sram sdram : ℕ) → parts line ≡ name ∷ new → name ≡ memory_name mem → new ≡ decimal at ∷ new' → SpellWords new' words → IsAccess mem (length words) → first_word mem at + length words ≤ room sram sdram mem → SpellsStretch sram sdram line (record { mem = mem; at = at; words = words })
stretch_from_parts line name new new' mem at words sram sdram e named e' spell access inside =
    let all : parts line ≡ memory_name mem ∷ decimal at ∷ new' = cc (e, e', named) in
    record { parts = new'; spelled = sym (parted-parts line) ∙ ap parted all; words = spell; number = access; inside = inside }

pub args_one : (line vs ws : List ℕ) → SpellsArgs line vs → SpellsArgs line ws → vs ≡ ws
args_one line vs ws h k =
    let e = args_parts line vs h in
    let f = args_parts line ws k in
    let same : k.parts ≡ h.parts = cc (e, f) in
    SpellWords-one h.parts vs ws h.words (subst (λ ps. SpellWords ps ws) same k.words)

-- A packet's three memories, and an access to one of them.
use Rattle.std.specs.Prelude.{◌≡◌, ℕ, ◌+◌, ◌*◌, ◌/◌, ◌^◌, ◌<◌, ◌≤◌, ◌⊎◌, ⊤, List, Option, Some, None, length, take, drop, ◌++◌, All, if◌then◌else◌, nat_le, nat_lt, replicate}
use Rattle.nv_base.specs.declared.term.Mem.{Mem}
use Rattle.nv_base.specs.declared.term.Mem.TheVariants.{Sram, Sdram, Scratch}

-- the words of each memory; a quadword of SDRAM is two words, one after the other
pub record Memories : Type 0 where
  pub sram : List ℕ
  pub sdram : List ℕ
  pub scratch : List ℕ

-- the greatest size of SRAM, in words, and of SDRAM, in quadwords
abbrev pub size_limit : ℕ
size_limit = 65536

-- how many words of scratch a source may use: those from there on belong to the compiler
abbrev pub source_scratch : ℕ
source_scratch = 512

-- the words fit 32 bits, SDRAM has whole quadwords, and scratch has 1,024 words
pub record HasSizes (p : Memories) : Type 0 where
  pub sram : (length p.sram ≤ size_limit) × All (λ w. w < 2 ^ 32) p.sram
  pub sdram : (quadwords : ℕ) × (quadwords ≤ size_limit) × (length p.sdram ≡ 2 * quadwords) × All (λ w. w < 2 ^ 32) p.sdram
  pub scratch : (length p.scratch ≡ 1024) × All (λ w. w < 2 ^ 32) p.scratch

-- memories of zeros: N words of SRAM, so many quadwords of SDRAM, and 1,024 words of scratch
abbrev pub blank : ℕ → ℕ → Memories
blank sram sdram = record { sram = replicate sram 0; sdram = replicate (2 * sdram) 0; scratch = replicate 1024 0 }

-- the first of the sizes of SRAM and SDRAM that is above 65,536
abbrev pub first_too_large : ℕ → ℕ → Option ℕ
first_too_large sram sdram = if nat_lt size_limit sram then Some sram else (if nat_lt size_limit sdram then Some sdram else None)

-- the words of one memory
abbrev pub words_at : Mem → Memories → List ℕ
words_at Sram p = p.sram
words_at Sdram p = p.sdram
words_at Scratch p = p.scratch

-- the size of a memory: its words, or for SDRAM its quadwords
abbrev pub size_at : Mem → Memories → ℕ
size_at Sram p = length p.sram
size_at Sdram p = length p.sdram / 2
size_at Scratch p = length p.scratch

-- the same memories with these words in one of them
abbrev pub with_words : Mem → Memories → List ℕ → Memories
with_words Sram p ws = record p { sram = ws }
with_words Sdram p ws = record p { sdram = ws }
with_words Scratch p ws = record p { scratch = ws }

-- the first word of an address: an address of SDRAM names a quadword
abbrev pub first_word : Mem → ℕ → ℕ
first_word Sram at = at
first_word Sdram at = 2 * at
first_word Scratch at = at

-- n words from an address on, or nothing where they reach past the memory
abbrev pub fetched : Mem → ℕ → ℕ → Memories → Option (List ℕ)
fetched m at n p =
    let first = first_word m at in
    if nat_le (first + n) (length (words_at m p)) then Some (take n (drop first (words_at m p))) else None

-- the memories with these words from an address on, or nothing where they reach past the memory
abbrev pub stored : Mem → ℕ → List ℕ → Memories → Option Memories
stored m at ws p =
    let first = first_word m at in
    let old = words_at m p in
    if nat_le (first + length ws) (length old) then Some (with_words m p (take first old ++ ws ++ drop (first + length ws) old)) else None

-- an access has 1 to 8 words, and at SDRAM an even number
abbrev pub IsAccess : Mem → ℕ → Type 0
IsAccess Sram n = (1 ≤ n) × (n ≤ 8)
IsAccess Sdram n = (half : ℕ) × (n ≡ 2 * half) × (1 ≤ half) × (half ≤ 4)
IsAccess Scratch n = (1 ≤ n) × (n ≤ 8)

-- two stretches, each of N words from an address on, have no word in common
abbrev pub AreApart : Mem → ℕ → ℕ → Mem → ℕ → ℕ → Type 0
AreApart m at n m' at' n' = (m ≡ m' → ⊥) ⊎ ((first_word m at + n ≤ first_word m' at') ⊎ (first_word m' at' + n' ≤ first_word m at))

-- a stretch has none of the scratch words from 512 on
abbrev pub IsSourceStretch : Mem → ℕ → ℕ → Type 0
IsSourceStretch Sram at n = ⊤
IsSourceStretch Sdram at n = ⊤
IsSourceStretch Scratch at n = at + n ≤ source_scratch

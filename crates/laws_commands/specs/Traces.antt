-- Traces of few writes, and where lists of writes differ.
use Rattle.std.specs.Prelude.{◌≡◌, ◌≢◌, ◌+◌, ◌++◌, ℕ, List, [], ◌∷◌, Some, None, codes}
use Rattle.nv_lines.specs.Line.{text_of}
use Rattle.nv_base.specs.declared.outcome.Write.{Write}
use Rattle.nv_base.specs.declared.term.Mem.{Mem}
use Rattle.nv_base.specs.declared.term.Mem.TheVariants.{Sram, Sdram, Scratch}
use Rattle.nv_meaning_values.specs.Running.{Made}
use Rattle.nv_meaning_values.specs.Notes.{source_made}
use Rattle.nv_trace.specs.TraceText.{shown, trace_text}
use Rattle.nv_trace.specs.Unlike.{AgreeAsFar, IsFirstUnlike}

-- a text of three lines of ten bytes each
abbrev pub three_lines : List ℕ
three_lines = text_of (codes "123456789" ∷ codes "123456789" ∷ codes "123456789" ∷ [])

-- a write of the word 12 by a statement that begins at this byte, in f, which main has called
abbrev pub write_in_f : Mem → ℕ → ℕ → Made
write_in_f m at first = record {
  write = record { mem = m; at = at; words = 12 ∷ [] };
  span = record { first = first; after = first + 9 };
  chain = codes "main" ∷ codes "f" ∷ [];
}

-- Each write has a line with that of its statement, and the number of writes comes last. Those up to the first of line 2 are shown, or all
-- where no write is of the line. From 512 on scratch belongs to the compiler.
pub record ShortTrace : Type 0 where
  pub text : trace_text three_lines (write_in_f Sram 5 0 ∷ write_in_f Sdram 6 10 ∷ []) ≡ text_of (codes "write sram 5 0000000c line 1 in main f" ∷ codes "write sdram 6 0000000c line 2 in main f" ∷ codes "traced 2" ∷ [])
  pub first : shown three_lines (Some 2) (write_in_f Sram 5 0 ∷ write_in_f Sram 6 10 ∷ write_in_f Sram 7 10 ∷ []) ≡ write_in_f Sram 5 0 ∷ write_in_f Sram 6 10 ∷ []
  pub no_line : shown three_lines (Some 3) (write_in_f Sram 5 0 ∷ write_in_f Sram 6 10 ∷ []) ≡ write_in_f Sram 5 0 ∷ write_in_f Sram 6 10 ∷ []
  pub all : (ms : List Made) → shown three_lines None ms ≡ ms
  pub scratch : source_made (write_in_f Scratch 511 0 ∷ write_in_f Scratch 512 0 ∷ write_in_f Sram 512 0 ∷ []) ≡ write_in_f Scratch 511 0 ∷ write_in_f Sram 512 0 ∷ []

-- Lists that differ in their second writes differ there first. The first place is one, and there is none where one list only goes on.
pub record FirstDifference : Type 0 where
  pub second : (v w w' : Write) (vs ws : List Write) → w ≢ w' → IsFirstUnlike 1 (v ∷ w ∷ vs) (v ∷ w' ∷ ws)
  pub one : (i j : ℕ) (vs ws : List Write) → IsFirstUnlike i vs ws → IsFirstUnlike j vs ws → i ≡ j
  pub none : (i : ℕ) (vs more : List Write) → IsFirstUnlike i vs (vs ++ more) → ⊥
  pub agree : (i : ℕ) (vs ws : List Write) → AgreeAsFar vs ws → IsFirstUnlike i vs ws → ⊥

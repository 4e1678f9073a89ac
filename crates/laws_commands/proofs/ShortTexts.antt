-- Short texts, by computing.
use Rattle.std.proofs.Common.{◌≡◌, ◌∙◌, refl, ap, ℕ, List, [], ◌∷◌, ◌++◌, Bool, true, false, length, lit<, lit≤, codes, arith}
use Rattle.std.specs.Fmt.{digits}
use Rattle.nv_lines.specs.Format.{wrong}
use Rattle.nv_lines.specs.Number.{SpellsWord}
use Rattle.nv_memtext.specs.MemoryText.{IsTooLarge, IsFront as MemoryFront, nothing, one_line, lines}
use Rattle.uc_schedule.specs.ScheduleText.{IsFront as ScheduleFront, nothing as no_line, lines as some_lines}
use Rattle.laws_commands.specs.Texts.{Lines, ShortSchedule, BadMemories}

pub lines_by_feeds : Lines
lines_by_feeds = record { first = refl; second = refl }

abbrev is_empty : List ℕ → Bool
is_empty [] = true
is_empty (x ∷ xs) = false

abbrev first_of : List (List ℕ) → List ℕ
first_of [] = 0 ∷ []
first_of (l ∷ ls) = l

not_empty : (xs : List ℕ) → is_empty xs ≡ false → [] ≡ xs → ⊥
not_empty xs n e = let same : true ≡ false = ap is_empty e ∙ n in cc

-- ---- schedules

two : SpellsWord (codes "00000002") 2
two = record { eight = refl; digits = (lit< tt, (lit< tt, (lit< tt, (lit< tt, (lit< tt, (lit< tt, (lit< tt, (lit< tt, tt)))))))); value = refl }

no_schedule : ScheduleFront 1 ([] ∷ []) → ⊥
no_schedule (no_line e) = omega (arith, ap length e)
no_schedule (some_lines k args entries b) = not_empty _ refl (ap first_of b.lines ∙ b.count.spelled)

pub short_schedule : ShortSchedule
unfolding digits
short_schedule = record {
  turns = record {
    lines = codes "contexts 2" ∷ codes "args 00000002" ∷ codes "run 0 2" ∷ codes "run 1 3" ∷ [];
    spelled = refl;
    text = record {
      contexts = 2;
      begun = record {
        first = codes "contexts 2";
        others = codes "args 00000002" ∷ codes "run 0 2" ∷ codes "run 1 3" ∷ [];
        lines = refl;
        count = record { some = lit≤ tt; few = lit≤ tt; spelled = refl };
        spelled = (
          record { parts = codes "00000002" ∷ []; spelled = refl; words = (two, tt); number = refl },
          (
            record { named = lit< tt; some = lit≤ tt; few = lit≤ tt; spelled = refl },
            (record { named = lit< tt; some = lit≤ tt; few = lit≤ tt; spelled = refl }, tt),
          ),
        );
      };
      all = refl;
    };
  };
  empty_line = wrong [] [] [] refl tt (no_line refl) no_schedule;
}

-- ---- memories

abbrev head_of : List ℕ → ℕ
head_of [] = 0
head_of (x ∷ xs) = x

feed_is_no_letter : ◌≡◌ {A = ℕ} 10 109 → ⊥
feed_is_no_letter e = omega (arith, e)

no_size : (size : ℕ) → IsTooLarge (10 ∷ []) size → ⊥
no_size size h = feed_is_no_letter (ap head_of (h.first ∙ ap (λ line. line ++ 10 ∷ h.back) h.sizes.spelled))

no_memories : MemoryFront 0 ([] ∷ []) → ⊥
no_memories (nothing e) = omega (arith, ap length e)
no_memories (one_line line sram sdram e s n) = not_empty _ refl (ap first_of e ∙ s.spelled)
no_memories (lines w) = omega (arith, ap length w.text.lines)

pub bad_memories : BadMemories
unfolding digits
bad_memories = record {
  large = record { line = codes "memory 65537 0"; back = []; sram = 65537; sdram = 0; first = refl; sizes = record { sram_digits = lit< tt; sdram_digits = lit< tt; spelled = refl }; large = refl };
  empty_line = record { not_large = no_size; fault = wrong [] [] [] refl tt (nothing refl) no_memories };
}

-- Short texts that a person writes: schedules and memories; and where they go wrong.
use Rattle.std.specs.Prelude.{◌≡◌, [], ◌∷◌, ◌++◌, codes}
use Rattle.nv_lines.specs.Line.{text_of}
use Rattle.nv_lines.specs.LineColumn.{line_at}
use Rattle.nv_memtext.specs.MemoryText.{IsTooLarge, IsBad}
use Rattle.uc_schedule.specs.ScheduleText.{Gives as GivesTurns, IsBad as IsBadSchedule}

-- line 2 of a text begins after the first line feed, at byte 2
pub record Lines : Type 0 where
  pub first : line_at (codes "a" ++ 10 ∷ codes "b") 1 ≡ 1
  pub second : line_at (codes "a" ++ 10 ∷ codes "b") 2 ≡ 2

-- Two contexts, of which the second has one word: the first takes two entries, and then the second three. A text that begins with an empty
-- line goes wrong there.
pub record ShortSchedule : Type 0 where
  pub turns : GivesTurns 1 (text_of (codes "contexts 2" ∷ codes "args 00000002" ∷ codes "run 0 2" ∷ codes "run 1 3" ∷ [])) ((2 ∷ []) ∷ []) ((0, 2) ∷ (1, 3) ∷ [])
  pub empty_line : IsBadSchedule 1 (text_of ([] ∷ [])) 1

-- a packet has at most 65,536 words of SRAM
pub record BadMemories : Type 0 where
  pub large : IsTooLarge (text_of (codes "memory 65537 0" ∷ [])) 65537
  pub empty_line : IsBad 0 (text_of ([] ∷ [])) 1

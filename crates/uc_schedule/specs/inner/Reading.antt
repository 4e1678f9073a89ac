-- What a reader of a schedule has read, and what is left.
use Rattle.std.specs.Prelude.{◌≡◌, ℕ, List, ◌++◌, length}
use Rattle.nv_lines.specs.Line.{text_of}
use Rattle.uc_schedule.specs.ScheduleText.{BeginsSchedule}

-- so many lines, which begin a schedule of k contexts with these arguments and entries
pub record HasRead (params k count : ℕ) (bytes rest : List ℕ) (args : List (List ℕ)) (entries : List (ℕ × ℕ)) : Type 0 where
  pub lines : List (List ℕ)
  pub spelled : bytes ≡ text_of lines ++ rest
  pub begun : BeginsSchedule params lines k args entries
  pub counted : length lines ≡ count

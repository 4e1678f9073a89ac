-- How a call of the program ends.
use Rattle.std.specs.Prelude.{ℕ}
use Rattle.nova_show.specs.declared.answer.Ending.{Ending}
use Rattle.nova_show.specs.declared.answer.Ending.TheVariants.{Done, Failed, BadWords}

-- the number that the program ends with
abbrev pub ending_number : Ending → ℕ
ending_number Done = 0
ending_number Failed = 1
ending_number BadWords = 2
